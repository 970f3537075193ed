-- One tenant's events in a sharing's run, against a run of the machine over those of them that gave 0.
use Prim.Native.Nat.{ℕ, ◌≤◌}
use mathlib.Core.Path.{◌≡◌, sym, ap, ◌∙◌}
use mathlib.Core.List.{List, [], ◌∷◌}
use native.Mathlib.Decide.{ℕ_discrete}
use lib.Dec.{eqb}
use borrow.Author.Tests.{eq-eqb, ne_eqb}
use Rattle.base.specs.Tests.{pick}
use Rattle.machine.specs.Plan.{Plan}
use Rattle.machine.specs.Machine.{State}
use Rattle.machine.specs.Runs.{Event, act, state_after, answers_to}
use Rattle.machine.proofs.RunLaws.{Passed}
use Rattle.tenants.specs.Tenants.{Sharing, Sources, source_for, own_of, Call, act_on}
use Rattle.tenants.specs.Demand208.{events_of, answers_of}
use Rattle.tenants.proofs.OneCall.{call_refused, call_number, call_own, call_away}

module _ (p : Plan) (sources : Sources) (o : ℕ) (low : o ≤ 1) where
  abbrev source : List ℕ
  source = source_for sources o

  -- a call of this tenant that gave 0
  module _ (r : Sharing) (c : Call) (e : c.tenant ≡ o) (z : (act_on p sources r c).number ≡ 0) where
    pub step_number : (act p source (own_of r o) c.event).number ≡ 0
    step_number = ap (λ (q : ℕ). (act p (source_for sources q) (own_of r q) c.event).number) (sym e) ∙ call_number p sources r c z

    pub step_own : own_of (act_on p sources r c).after o ≡ (act p source (own_of r o) c.event).after
    step_own =
        ap (own_of (act_on p sources r c).after) (sym e) ∙ call_own p sources r c z
        ∙ ap (λ (q : ℕ). (act p (source_for sources q) (own_of r q) c.event).after) e

  -- its calls from the sharing r on, and its areas after them
  abbrev answers_from : List Call → Sharing → List ℕ
  answers_from cs r = answers_of o cs (answers_to (act_on p sources) r cs)

  abbrev own_after : List Call → Sharing → State
  own_after cs r = own_of (state_after (act_on p sources) r cs) o

  pub matched : (cs : List Call) (r : Sharing)
      → (ps : List Event) × Passed (act p source) (own_of r o) (events_of o cs) (answers_from cs r) ps (own_after cs r)
  unfolding events_of answers_of answers_to state_after pick
  matched [] r = ([], Passed.none)
  matched (c ∷ cs) r = go (ℕ_discrete c.tenant o) (ℕ_discrete (act_on p sources r c).number 0) (matched cs next).0 (matched cs next).1
    where
      next : Sharing
      next = (act_on p sources r c).after

      M : Sharing → List Event → Type 0
      M from ps = Passed (act p source) (own_of from o) (events_of o cs) (answers_from cs next) ps (own_after cs next)

      go : Dec (c.tenant ≡ o) → Dec ((act_on p sources r c).number ≡ 0) → (qs : List Event) → M next qs
          → (ps : List Event)
          × Passed (act p source) (own_of r o) (pick (eqb c.tenant o) (c.event ∷ events_of o cs) (events_of o cs))
          (pick (eqb c.tenant o) ((act_on p sources r c).number ∷ answers_from cs next) (answers_from cs next)) ps (own_after cs next)
      go (yes e) (yes z) qs m =
          rw (eq-eqb c.tenant o e) (c.event ∷ qs, Passed.step z (step_number r c e z) (rw (step_own r c e z) at m))
      go (yes e) (no n) qs m =
          rw (eq-eqb c.tenant o e) (qs, Passed.refused n (rw (ap (λ (x : Sharing). own_of x o) (call_refused p sources r c n)) at m))
      go (no n) d qs m = rw (ne_eqb c.tenant o n) (qs, rw (call_away p sources r c o low (λ e. n (sym e))) at m)
