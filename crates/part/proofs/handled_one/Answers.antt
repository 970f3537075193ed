-- `handled_one` meets its contract: by the slot's byte.
use Prim.Native.Nat.{ℕ}
use mathlib.Core.Logic.{⊎_elim, inl, inr}
use lib.Dec.{eqb}
use mathlib.Core.Path.{ap, ◌∙◌}
use Rattle.plan.specs.Shaped.{plan_of}
use Rattle.part.proofs.Chains as chains
use Rattle.part.proofs.Handling as handling
use Rattle.part.proofs.handled_one.Goals as goal

pub returns-then-side-eq0 : goal.returns-then-side-eq0
returns-then-side-eq0 c =
    let x = c.args.layout.now.nest in
    let z = c.args.layout.now.sizes in
    let ends = chains.ends x z c.args.layout.now.sized.accepted c.requires.routed c.args.place.number c.args.place c.requires.sized in
    let none = chains.side_none z.route x c.args.b _ _ c.args.side c.requires.side_value c.if-side-eq0.true in
    handling.no_end (plan_of z.route x) c.args.b c.args.place.number (ap (λ (i : ℕ). eqb i c.args.b) ends.0 ∙ none.0)
    (ap (λ (i : ℕ). eqb i c.args.b) ends.1 ∙ none.1)

pub returns-else-side-eq0 : goal.returns-else-side-eq0
returns-else-side-eq0 c =
    let x = c.args.layout.now.nest in
    let z = c.args.layout.now.sizes in
    let ends = chains.ends x z c.args.layout.now.sized.accepted c.requires.routed c.args.place.number c.args.place c.requires.sized in
    handling.some_end (plan_of z.route x) c.args.b c.args.place.number
    (⊎_elim (λ e. inl (ap (λ (i : ℕ). eqb i c.args.b) ends.0 ∙ e)) (λ e. inr (ap (λ (i : ℕ). eqb i c.args.b) ends.1 ∙ e))
    (chains.side_some z.route x c.args.b _ _ c.args.side c.requires.side_value c.if-side-eq0.false))
