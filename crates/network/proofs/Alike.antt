-- Calls on shared areas that answer as the machine does, in every state that a run leads to: what the theorems ask of them.
use Prim.Native.Nat.{ℕ}
use mathlib.Core.Path.{◌≡◌, refl, ap}
use mathlib.Core.List.{List}
use lib.ListN.{length}
use lib.Dec.{eqb}
use Rattle.base.specs.Lists.{count_if}
use Rattle.machine.specs.Plan.{Plan, Sound}
use Rattle.machine.specs.Machine.{State, Answered, collect, fresh}
use Rattle.machine.specs.Runs.{Event, act, state_after, answers_to, steps, Demand3}
use Rattle.machine.proofs.Progress.{Shape}
use Rattle.machine.proofs.Kept.{Inv}
use Rattle.machine.proofs.Fresh.{inv_fresh}
use Rattle.machine.proofs.Along.{next_inv}
use Rattle.machine.proofs.RunLaws.{same_end, same_numbers}
use Rattle.machine.proofs.Theorem.{theorem}

pub record SharedLike (p : Plan) (source : List ℕ) (shared : State → Event → Answered State) (collects : State → List ℕ → Answered (List ℕ)) : Type 0 where
  pub events : (s : State) → Inv p source s → (e : Event) → shared s e ≡ act p source s e
  pub collecting : (s : State) → Inv p source s → (grid : List ℕ) → length grid ≡ p.cells → collects s grid ≡ collect p s grid
  -- areas on which the machine collects alike
  pub joining : (s j : State) → Shape p s → Shape p j → ((grid : List ℕ) → collect p j grid ≡ collect p s grid)
      → (grid : List ℕ) → collects j grid ≡ collects s grid
  pub demand : (es : List Event) → Demand3 shared (fresh p) es p source collects

-- the machine itself
pub machine_like : (p : Plan) → Sound p → (source : List ℕ) → SharedLike p source (act p source) (collect p)
machine_like p so source =
    record { events = λ s inv e. refl; collecting = λ s inv grid h. refl; joining = λ s j x y same. same; demand = theorem p so source }

-- their runs are the machine's
module _ (p : Plan) (so : Sound p) (source : List ℕ) (shared : State → Event → Answered State) (collects : State → List ℕ → Answered (List ℕ))
    (like : SharedLike p source shared collects) (es : List Event) where
  pub shared_end : state_after shared (fresh p) es ≡ state_after (act p source) (fresh p) es
  shared_end = same_end (Inv p source) shared (act p source) like.events (next_inv p so source) es (fresh p) (inv_fresh p source)

  pub shared_answers : answers_to shared (fresh p) es ≡ answers_to (act p source) (fresh p) es
  shared_answers = same_numbers (Inv p source) shared (act p source) like.events (next_inv p so source) es (fresh p) (inv_fresh p source)

  pub shared_steps : steps shared (fresh p) es ≡ steps (act p source) (fresh p) es
  shared_steps = ap (count_if (λ x. eqb x 0)) shared_answers
