-- Request W-214 holds of the calls as exported, board records as structs.
use Prim.Native.Nat.{ℕ}
use mathlib.Core.Path.{◌≡◌, sym, subst, ◌∙◌}
use mathlib.Core.List.{List}
use Rattle.base.specs.Lists.{Bytes}
use Rattle.machine.specs.Plan.{Plan}
use Rattle.machine.specs.Machine.{State, Answered}
use Rattle.machine.specs.Runs.{Event}
use Rattle.machine.proofs.RunLaws.{number_of, after_of}
use Rattle.tenants.specs.Tenants.{Sharing, Sources, Call}
use Rattle.calendar.specs.Windows.{event_of, call_of}
use Rattle.swaps.specs.Swaps.{Swaps}
use Rattle.swaps.specs.OneTenant.{Different, plainly, Demand214}
use Rattle.swaps.specs.TwoTenants.{DifferentFor, SwapsFor, Demand214For, wholly}
use Rattle.engine.specs.Calls.{answer, recipe}
use Rattle.engine.specs.Demands.{calls}
use Rattle.sharing.specs.Calls.{sharing_calls}
use Rattle.calendar_calls.specs.Calls.{calls_at, sharing_calls_at}
use Rattle.calls.specs.Gave.{Areas, in_words, SharingAreas, sharing_words, FreshGave, EventGave, FreshBothGave, TimedGave}
use Rattle.guarantees.specs.OverRecords.{Gave}
use Rattle.guarantees.specs.OverSharing.{CallGave}
use Rattle.guarantees.specs.OverCalendar.{TimedCallGave}
use Rattle.guarantees.proofs.OverRecords.{run_words, areas_fixed, event_call}
use Rattle.guarantees.proofs.OverSharing.{sharing_fixed, sharing_call}
use Rattle.guarantees.proofs.OverCalendar as timed
use Rattle.guarantees.specs.OverRecords214.{CanGive, Demand214Gave, SwapsForGave, Demand214ForGave, OverRecords214}
use Rattle.guarantees.proofs.Gave.{taken, in_a_row, swaps_gave, rewinds_gave}
use Rattle.guarantees.proofs.Demands214.{demands214}

-- ---- any calls for one tenant whose contracts are calls over words: what calls with hours cite
module _ {X : Type 0} (event_of : X → Event) (Step : Areas → X → ℕ → Areas → Type 0) (acts : State → X → Answered State)
    (is : (a : Areas) (x : X) (n : ℕ) (b : Areas) → Step a x n b → answer n (in_words b) ≡ acts (in_words a) x) where
  pub demand214_gave : (start : Areas) → Demand214 event_of acts (in_words start) → Demand214Gave event_of Step start
  demand214_gave start d =
      record {
        swaps = λ events numbers a gave.
            swaps_gave Step in_words acts is areas_fixed (Different event_of) a
            (subst (Swaps (Different event_of) acts) (sym (run_words Step in_words acts is gave)) (d.swaps events));
        rewinds = rewinds_gave Step in_words acts is areas_fixed (Different event_of) start d.rewinds;
      }

-- ---- for two tenants
module _ {C : Type 0} (call_of : C → Call) (p : Plan) (Step : SharingAreas → C → ℕ → SharingAreas → Type 0) (acts : Sharing → C → Answered Sharing)
    (is : (a : SharingAreas) (c : C) (n : ℕ) (b : SharingAreas) → Step a c n b → answer n (sharing_words b) ≡ acts (sharing_words a) c) where
  sharing_taken : (a : SharingAreas) (c : C) → CanGive Step a c → (acts (sharing_words a) c).number ≡ 0
  sharing_taken = taken Step sharing_words acts is

  swaps_for_gave : (a : SharingAreas) → SwapsFor call_of p acts (sharing_words a) → SwapsForGave call_of p Step a
  swaps_for_gave a s =
      record {
        swaps = swaps_gave Step sharing_words acts is sharing_fixed (DifferentFor call_of p) a s.swaps;
        both_gather = λ c d b ne h k g g'. s.both_gather c d b ne h k (sharing_taken a c g) (sharing_taken a d g');
        only_one = λ c d x y n t g h k.
            number_of (in_a_row Step sharing_words acts is a x y c d n h k) ∙ (s.only_one c d (sharing_taken a c (x, h)) (sharing_taken a d g) t).0;
      }

  pub demand214_for_gave : (start : SharingAreas) → Demand214For call_of p acts (sharing_words start) → Demand214ForGave call_of p Step start
  demand214_for_gave start d =
      record {
        swaps = λ cs numbers a gave.
            swaps_for_gave a (subst (SwapsFor call_of p acts) (sym (run_words Step sharing_words acts is gave)) (d.swaps cs));
        rewinds = rewinds_gave Step sharing_words acts is sharing_fixed (DifferentFor call_of p) start d.rewinds;
      }

pub over_records214 : (bytes : List ℕ) (route : ℕ) → OverRecords214 bytes route
over_records214 bytes route =
    record {
      one = λ small source a start fresh.
          demand214_gave plainly (EventGave bytes route source) (calls bytes route source) (event_call bytes route source) start
          (subst (Demand214 plainly (calls bytes route source)) (sym (after_of fresh))
          (demands214.one bytes route source (in_words a) small (sym (number_of fresh))));
      two = λ small sources a start fresh.
          demand214_for_gave wholly (recipe bytes route) (CallGave bytes route sources) (sharing_calls bytes route sources)
          (sharing_call bytes route sources) start
          (subst (Demand214For wholly (recipe bytes route) (sharing_calls bytes route sources)) (sym (after_of fresh))
          (demands214.two bytes route sources (sharing_words a) small (sym (number_of fresh))));
      one_at = λ small source a start fresh.
          demand214_gave event_of (TimedGave bytes route source) (calls_at bytes route source) (timed.event_call bytes route source) start
          (subst (Demand214 event_of (calls_at bytes route source)) (sym (after_of fresh))
          (demands214.one_at bytes route source (in_words a) small (sym (number_of fresh))));
      two_at = λ small sources a start fresh.
          demand214_for_gave call_of (recipe bytes route) (TimedCallGave bytes route sources) (sharing_calls_at bytes route sources)
          (timed.sharing_call bytes route sources) start
          (subst (Demand214For call_of (recipe bytes route) (sharing_calls_at bytes route sources)) (sym (after_of fresh))
          (demands214.two_at bytes route sources (sharing_words a) small (sym (number_of fresh))));
    }
