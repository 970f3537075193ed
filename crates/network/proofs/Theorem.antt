-- Demand 3 for processors that share no memory, for every sound plan, every source and every list of events; of anything that answers as they do.
use Prim.Native.Nat.{ℕ, ◌<◌}
use mathlib.Core.Path.{◌≡◌, refl, sym, ap, ◌∙◌}
use mathlib.Core.List.{List}
use native.Mathlib.Omega.{arith}
use native.Mathlib.Decide.{dec_lt}
use lib.ListN.{length, get_or}
use lib.Dec.{eqb}
use Rattle.base.specs.Lists.{count_if}
use Rattle.base.proofs.Tests.{length_tabulate}
use Rattle.machine.specs.Plan.{Plan, Sound}
use Rattle.machine.specs.Machine.{State, gather, next_action, carry_out, turn, collect, collected, fresh, sweep, Answered}
use Rattle.machine.specs.Runs.{Event, turn_of, act, state_after, answers_to, total, program, turns_of, steps, Demand3}
use Rattle.machine.proofs.Turns.{collect_gives}
use Rattle.machine.proofs.RunLaws.{number_of, after_of, same_end, same_numbers}
use Rattle.machine.proofs.Once.{collects_like}
use Rattle.machine.proofs.Theorem.{named_next}
use Rattle.network.specs.Apart.{AreasApart, start_apart, replaced, turn_apart, act_apart, assembled, collect_apart, joined, CarriedOutApart, steps_apart}
use Rattle.network.specs.Apart.{Demand3Apart, MachineApart}
use Rattle.network.proofs.Agrees.{Nothing, goes_same}
use Rattle.network.proofs.Together.{Together, start_together, turn_here, turn_nowhere, event_number, event_together, run_together, run_answers}
use Rattle.network.proofs.Joined.{assembled_same, joined_shape, collect_same, joined_same}
use Rattle.network.proofs.Alike.{SharedLike, machine_like, shared_end, shared_answers}

pub both_are : (x : Answered (List ℕ)) {l : List ℕ} → x.number ≡ 0 → x.after ≡ l → x ≡ record { number = 0; after = l }
both_are x {l} e f = number_is x.number e ∙ ap (λ (k : List ℕ). record { number = 0; after = k }) f
  where
    number_is : (i : ℕ) → i ≡ 0 → ◌≡◌ {A = Answered (List ℕ)} (record { number = i; after = x.after }) (record { number = 0; after = x.after })
    number_is i q = rw q

-- ---- calls that answer as the processors do, beside shared ones that answer as the machine does
module _ (p : Plan) (so : Sound p) (source : List ℕ) (acts : AreasApart → Event → Answered AreasApart)
    (same : (s : State) (areas : AreasApart) → Together Nothing p source s areas → (e : Event) → acts areas e ≡ act_apart p source areas e)
    (start : AreasApart) (begins : Together Nothing p source (fresh p) start)
    (shared : State → Event → Answered State) (collects : State → List ℕ → Answered (List ℕ)) (like : SharedLike p source shared collects) where
  -- some shared areas are beside these
  abbrev Good : AreasApart → Type 0
  Good areas = (s : State) × Together Nothing p source s areas

  good_next : (areas : AreasApart) → Good areas → (e : Event) → Good (act_apart p source areas e).after
  good_next areas g e = ((act p source g.0 e).after, event_together p so source g.0 areas g.1 e)

  module _ (es : List Event) where
    abbrev s : State
    s = state_after shared (fresh p) es

    abbrev areas : AreasApart
    areas = state_after acts start es

    areas_are : areas ≡ state_after (act_apart p source) start es
    areas_are = same_end Good acts (act_apart p source) (λ a g. same g.0 a g.1) good_next es start (fresh p, begins)

    to : Together Nothing p source s areas
    to = rw (areas_are, shared_end p so source shared collects like es) (run_together p so source es (fresh p) start begins)

    answers_are : answers_to acts start es ≡ answers_to shared (fresh p) es
    answers_are =
        same_numbers Good acts (act_apart p source) (λ a g. same g.0 a g.1) good_next es start (fresh p, begins)
        ∙ run_answers p so source es (fresh p) start begins
        ∙ sym (shared_answers p so source shared collects like es)

    number_is : (e : Event) → (acts areas e).number ≡ (shared s e).number
    number_is e =
        number_of (same s areas to e) ∙ event_number p so source s areas to e ∙ sym (number_of (like.events s to.inv e))

    -- ---- a turn that gave 0 carried out the action that the program names
    module _ (b : ℕ) where
      abbrev turns : ℕ
      turns = turns_of b es (answers_to shared (fresh p) es)

      turns_are : turns_of b es (answers_to (act p source) (fresh p) es) ≡ turns
      turns_are = ap (turns_of b es) (sym (shared_answers p so source shared collects like es))

      carried : (acts areas (turn_of b)).number ≡ 0 → CarriedOutApart p source acts areas b turns
      unfolding act_apart act
      carried z = go (dec_lt b p.processors)
        where
          zs : (turn p source s b).number ≡ 0
          zs = sym (event_number p so source s areas to (turn_of b)) ∙ sym (number_of (same s areas to (turn_of b))) ∙ z

          zm : (turn p source (state_after (act p source) (fresh p) es) b).number ≡ 0
          zm = rw (shared_end p so source shared collects like es) at zs

          za : (turn_apart p source areas b).number ≡ 0
          za = sym (number_of (same s areas to (turn_of b))) ∙ z

          next : get_or (program p b) turns (gather 0) ≡ next_action p s b
          next = rw (shared_end p so source shared collects like es)
              (ap (λ (k : ℕ). get_or (program p b) k (gather 0)) (sym turns_are) ∙ (named_next p so source es b zm).1)

          go : Dec (b < p.processors) → CarriedOutApart p source acts areas b turns
          go (yes h) =
              record {
                named = rw (sym turns_are) (named_next p so source es b zm).0;
                by_rule = after_of (same s areas to (turn_of b)) ∙ after_of (turn_here p source areas b h)
                    ∙ ap (replaced areas b)
                    (goes_same p source s b (areas b) to.inv (to.each b h) (sym (number_of (turn_here p source areas b h)) ∙ za)
                    ∙ ap (carry_out p source (areas b) b) (sym next));
              }
          go (no n) = absurd (let e = number_of (turn_nowhere p source areas b (omega arith)) in omega (arith, sym e ∙ za))

  module _ (events : List Event) where
    abbrev S : State
    S = state_after shared (fresh p) events

    abbrev A : AreasApart
    A = state_after acts start events

    all : Together Nothing p source S A
    all = to events

    demand : Demand3 shared (fresh p) events p source collects
    demand = like.demand events

    same_steps : steps_apart acts start events ≡ steps shared (fresh p) events
    same_steps = ap (count_if (λ x. eqb x 0)) (answers_are events)

    ends : steps_apart acts start events ≡ total p → steps shared (fresh p) events ≡ total p
    ends e = sym same_steps ∙ e

    -- collecting on the shared areas is the machine's
    gives : steps_apart acts start events ≡ total p → (grid : List ℕ) → length grid ≡ p.cells → (collect p S grid).number ≡ 0
    gives e grid len = sym (number_of (like.collecting S all.inv grid len)) ∙ demand.collecting.can_collect (ends e) grid len

    leaves : steps_apart acts start events ≡ total p → (grid : List ℕ) → length grid ≡ p.cells → (collect p S grid).after ≡ sweep p source
    leaves e grid len = sym (after_of (like.collecting S all.inv grid len)) ∙ demand.collecting.grid (ends e) grid len

    table_length : length (collected p S) ≡ p.cells
    unfolding collected
    table_length = length_tabulate _ p.cells

    whole_grid : steps_apart acts start events ≡ total p → assembled p A ≡ sweep p source
    whole_grid e =
        assembled_same p so source S A all
        ∙ sym (collect_gives p S (collected p S) (gives e (collected p S) table_length))
        ∙ leaves e (collected p S) table_length

    joined_as : (grid : List ℕ) → collects (joined p A) grid ≡ collects S grid
    joined_as = like.joining S (joined p A) all.inv.shape (joined_shape p A (λ b h. (all.each b h).shape)) (joined_same p so source S A all)

    pub demand3_apart : Demand3Apart acts start events p source shared collects
    demand3_apart =
        record {
          same_answers = answers_are events;
          same_memory = λ b h. (all.each b h).memory;
          same_finished = λ b h. (all.each b h).recorded.finished;
          same_stage = λ b h. (all.each b h).recorded.stage;
          same_sent = λ b h. (all.each b h).recorded.sent;
          once = rw (answers_are events) demand.once;
          goes_on = λ h. let r = demand.goes_on (omega (arith, same_steps)) in (r.0, number_is events r.0 ∙ r.1);
          then_fewer = λ e z. omega (arith, same_steps, demand.then_fewer e (sym (number_is events e) ∙ z));
          collecting =
              collects_like p source (steps_apart acts start events ≡ total p) _ (collect_apart p A) _ ends (λ e. same_steps ∙ e)
              (λ grid len. collect_same p so source S A all grid ∙ sym (like.collecting S all.inv grid len)) demand.collecting;
          carried_out = λ before after b e z. rw (answers_are before) (carried before b z);
          grid = whole_grid;
          joins = joined_as;
          joined_grid = λ e old len.
              joined_as old ∙ both_are (collects S old) (demand.collecting.can_collect (ends e) old len) (demand.collecting.grid (ends e) old len);
        }

pub theorem_apart : (p : Plan) → Sound p → (source : List ℕ) (events : List Event) → MachineApart p source events
theorem_apart p so source events =
    demand3_apart p so source (act_apart p source) (λ s areas to e. refl) (start_apart p) (start_together p source (λ m z. z))
    (act p source) (collect p) (machine_like p so source) events
