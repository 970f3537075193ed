-- `grid::outside_row` meets its contract: the words passed, the rest as it was.
use Rattle.std.specs.Prelude.{ℕ, length, get_or}
use mathlib.Core.Path.{refl, ap, ◌∙◌}
use native.Mathlib.Omega.{arith}
use Rattle.base.specs.Tests.{pick}
use Rattle.nest.specs.Spans.{within}
use Rattle.base.proofs.Stored as stored
use Rattle.part_calls.proofs.Collecting as collecting
use Rattle.part_calls.proofs.grid.outside_row.Goals as goal

pub loop-y-init : goal.loop-y-init
loop-y-init c =
    let A = c.args in
    collecting.fill_start (λ y. pick (within A.s y) (get_or A.row.now y 0) A.boundary) A.row.now

pub offset_bounds-row-y : goal.offset_bounds-row-y
offset_bounds-row-y c =
    let loop = c.loop-y in
    let loop-test = c.loop-y-test in
    omega (arith, c.requires, loop.invariant.stored.long, loop-test.true)

pub bounds-row-y : goal.bounds-row-y
bounds-row-y c =
    let loop = c.loop-y in
    let loop-test = c.loop-y-test in
    omega (arith, loop.invariant.stored.long, loop-test.true)

pub loop-y-preserved : goal.loop-y-preserved
loop-y-preserved c =
    let A = c.args in
    let loop = c.loop-y in
    let loop-test = c.loop-y-test in
    let outside-word = c.outside_word in
    collecting.fill_next (λ y. pick (within A.s y) (get_or A.row.now y 0) A.boundary) A.row.now loop.row loop.y _ loop.invariant
    (omega (arith, loop.invariant.stored.long, loop-test.true))
    (outside-word.ensures ∙ ap (λ (w : ℕ). pick (within A.s loop.y) w A.boundary) (loop.invariant.rest loop.y (omega arith)))

pub shape_of-row : goal.shape_of-row
shape_of-row c =
    let loop = c.loop-y in
    loop.invariant.stored.long

pub returns : goal.returns
returns c =
    let A = c.args in
    let loop = c.loop-y in
    let loop-test = c.loop-y-test in
    stored.stored_all (λ y. pick (within A.s y) (get_or A.row.now y 0) A.boundary) A.row.now loop.row loop.y
    (length A.row.now) loop.invariant.stored refl (omega (arith, loop.invariant.stored.long, loop-test.false))
