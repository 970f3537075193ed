-- `tables::shaped_table::is_like` meets its contract.
use Prim.Native.Nat.{◌+◌}
use mathlib.Core.Path.{refl}
use native.Mathlib.Omega.{arith}
use borrow.Author.Tests.{eqb-true}
use Rattle.base.proofs.Tests.{never_both}
use Rattle.tables.proofs.shaped_table.Laws as L
use Rattle.tables.proofs.shaped_table.is_like.Goals as goal

pub returns-then-p-tile : goal.returns-then-p-tile
returns-then-p-tile c = λ e. absurd (never_both e refl)

pub box_of-number-requires : goal.box_of-number-requires
box_of-number-requires c = (c.requires.0, (c.requires.1.1.0, c.requires.1.0))

pub returns-then-number-line : goal.returns-then-number-line
returns-then-number-line c = λ e. absurd (never_both e refl)

pub returns-then-number-line-2 : goal.returns-then-number-line-2
returns-then-number-line-2 c = λ e. absurd (never_both e refl)

pub box_of-before-requires : goal.box_of-before-requires
box_of-before-requires c = (c.requires.0, (c.requires.1.1.0, omega (arith, c.requires.1.0, c.requires.1.1.1.1)))

pub overflow_add-result : goal.overflow_add-result
overflow_add-result c = omega (arith, c.box_of-before.ensures.1, L.box_few _ c.requires.0, c.requires.1.1.1.0.few)

pub returns : goal.returns
returns c =
    let box_of = c.box_of-number in
    λ e. c.requires.1.1.1.0.each c.args.tile c.args.p (omega (arith, c.if-p-tile.false, c.requires.1.1.1.1)) c.requires.1.0
    (omega (arith, box_of.ensures.0, c.if-number-line.false)) (omega (arith, box_of.ensures.0, c.if-number-line-2.false))
    (omega (arith, box_of.ensures.0, c.box_of-before.ensures.0, eqb-true (c.box_of-before.result + c.args.line.far) box_of.result e))
