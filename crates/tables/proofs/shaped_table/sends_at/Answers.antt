-- `tables::shaped_table::sends_at` meets its contract.
use mathlib.Core.Path.{sym, ◌∙◌}
use borrow.Author.Tests.{eqb-true, eqb-false}
use Rattle.base.proofs.Tests.{never_both}
use mathlib.Core.Path.{refl}
use native.Mathlib.Omega.{arith}
use Rattle.tables.proofs.shaped_table.Laws as L
use Rattle.tables.proofs.shaped_table.sends_at.Goals as goal

pub offset_bounds-lens-slot : goal.offset_bounds-lens-slot
offset_bounds-lens-slot c = omega (arith, c.requires.slot_bound.0, L.slots_few _ c.args.layout.now.sized.accepted, c.requires.sized.1.0.owned.tiled.numbers.long)

pub bounds-lens-slot : goal.bounds-lens-slot
bounds-lens-slot c = omega (arith, c.requires.slot_bound.0, L.slots_few _ c.args.layout.now.sized.accepted, c.requires.sized.1.0.owned.tiled.numbers.long)

pub returns-then-lens-slot-eq0 : goal.returns-then-lens-slot-eq0
returns-then-lens-slot-eq0 c = (
  λ t. absurd (never_both t refl),
  λ q full. absurd (omega (arith, c.requires.sized.1.0.each c.args.slot c.requires.slot_bound.0, c.if-lens-slot-eq0.true)),
)

pub has_end-requires : goal.has_end-requires
has_end-requires c = record { sized = c.requires.sized; slot_bound = c.requires.slot_bound }

pub returns : goal.returns
returns c =
    let full = L.not_empty _ _ (c.requires.sized.1.0.each c.args.slot
    c.requires.slot_bound.0) c.if-lens-slot-eq0.false in
    (λ t. (full, eqb-true _ _ (sym (c.has_end.ensures full) ∙ t)), λ q k. eqb-false _ _ (sym (c.has_end.ensures k) ∙ q))
