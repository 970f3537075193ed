-- `mark_brought` meets its contract: by the slot's byte.
use Prim.Native.Nat.{ℕ}
use mathlib.Core.Path.{sym, ap, ◌∙◌}
use lib.Dec.{eqb}
use Rattle.plan.specs.Shaped.{plan_of}
use Rattle.part.proofs.Chains as chains
use Rattle.part.proofs.Brought as brings
use Rattle.part.proofs.mark_brought.Goals as goal

pub returns-then-is_taker : goal.returns-then-is_taker
returns-then-is_taker c =
    let x = c.args.table.now.layout.nest in
    let z = c.args.table.now.layout.sizes in
    let is-taker = c.is_taker in
    let ends = chains.ends x z c.args.table.now.layout.sized.accepted c.args.table.now.tabled.routed c.args.place.number c.args.place c.requires.sized in
    let taken = is-taker.ensures _ _ (chains.side_ends z.route x c.args.b _ _ c.args.side c.requires.side_value)
    ∙ ap (λ (i : ℕ). eqb i c.args.b) (sym ends.1) in
    brings.brought (plan_of z.route x) c.args.b c.args.place.number is-taker.result taken c.args.marks.now _ c.if-is_taker.true
    c.mark_held.ensures

pub returns-else-is_taker : goal.returns-else-is_taker
returns-else-is_taker c =
    let x = c.args.table.now.layout.nest in
    let z = c.args.table.now.layout.sizes in
    let is-taker = c.is_taker in
    let ends = chains.ends x z c.args.table.now.layout.sized.accepted c.args.table.now.tabled.routed c.args.place.number c.args.place c.requires.sized in
    let taken = is-taker.ensures _ _ (chains.side_ends z.route x c.args.b _ _ c.args.side c.requires.side_value)
    ∙ ap (λ (i : ℕ). eqb i c.args.b) (sym ends.1) in
    brings.elsewhere (plan_of z.route x) c.args.b c.args.place.number is-taker.result taken c.args.marks.now _ c.if-is_taker.false
