-- `parcels::pack_row` meets its contract: between two cells, the words of the row's cells so far that are read are packed; between
-- two distances, nothing has changed since the cell was begun and no distance before e reads it there.
use native.Mathlib.Omega.{arith}
use mathlib.Core.Path.{refl}
use borrow.Author.Tests.{le-ltb}
use Rattle.layout.proofs.Loops.{nowhere_more}
use Rattle.parcels.proofs.Packing.{packing_none, packing_long, packing_room, packing_hit, packing_left, packing_end}
use Rattle.parcels.proofs.pack_row.Goals as goal

pub cells-init : goal.cells-init
cells-init c = packing_none _ _ _ _ _ _ _ _

pub overflow_add-number : goal.overflow_add-number
overflow_add-number c = omega (arith, c.cells-test.true, c.requires.low, c.requires.short)

pub overflow_add-last : goal.overflow_add-last
overflow_add-last c = omega (arith, c.cells-test.true, c.requires.small)

pub distances-init : goal.distances-init
distances-init c = record { same_words = refl; same_count = refl; same_y = refl; low = omega arith; none = λ i h. absurd (omega arith) }

pub offset_bounds-ends-e : goal.offset_bounds-ends-e
offset_bounds-ends-e c = omega (arith, c.distances-test.true, c.requires.few)

pub bounds-ends-e : goal.bounds-ends-e
bounds-ends-e c = omega (arith, c.distances-test.true, c.requires.few)

pub offset_bounds-memory-number : goal.offset_bounds-memory-number
offset_bounds-memory-number c = omega (arith, c.cells-test.true, c.requires.low, c.requires.short)

pub bounds-memory-number : goal.bounds-memory-number
bounds-memory-number c = omega (arith, c.cells-test.true, c.requires.low)

pub offset_bounds-words-count : goal.offset_bounds-words-count
offset_bounds-words-count c =
    omega (
      arith,
      ((let at-distances-test = c in
          let at-distances = at-distances-test in
          let at-cells-test = at-distances in
          let at_cells = at-cells-test in
          let start = at_cells in
          packing_room _ _ _ _ _ _ _ _ start.requires _ _ _ at_cells.cells.invariant at-cells-test.cells-test.true _ _ _ _ at-distances.distances.invariant
          at-distances-test.distances-test.true c.if-last-ends.true)).1,
    )

pub bounds-words-count : goal.bounds-words-count
bounds-words-count c =
    ((let at-distances-test = c in
    let at-distances = at-distances-test in
    let at-cells-test = at-distances in
    let at_cells = at-cells-test in
    let start = at_cells in
    packing_room _ _ _ _ _ _ _ _ start.requires _ _ _ at_cells.cells.invariant at-cells-test.cells-test.true _ _ _ _ at-distances.distances.invariant
    at-distances-test.distances-test.true c.if-last-ends.true)).0

pub overflow_add-count : goal.overflow_add-count
overflow_add-count c =
    omega (
      arith,
      ((let at-distances-test = c in
          let at-distances = at-distances-test in
          let at-cells-test = at-distances in
          let at_cells = at-cells-test in
          let start = at_cells in
          packing_room _ _ _ _ _ _ _ _ start.requires _ _ _ at_cells.cells.invariant at-cells-test.cells-test.true _ _ _ _ at-distances.distances.invariant
          at-distances-test.distances-test.true c.if-last-ends.true)).1,
    )

pub overflow_step-y : goal.overflow_step-y
overflow_step-y c = omega (arith, c.distances.invariant.same_y, c.cells-test.true, c.requires.small)

pub cells-smaller : goal.cells-smaller
cells-smaller c = omega (arith, c.distances.invariant.same_y, c.cells-test.true)

pub cells-preserved : goal.cells-preserved
cells-preserved c =
    packing_hit _ _ _ _ _ _ _ _ c.requires _ _ _ c.cells.invariant c.cells-test.true _ _ _ _ c.distances.invariant
    c.distances-test.true c.if-last-ends.true

pub overflow_step-e : goal.overflow_step-e
overflow_step-e c = omega (arith, c.distances-test.true, c.requires.few)

pub distances-preserved : goal.distances-preserved
distances-preserved c =
    record {
      same_words = c.distances.invariant.same_words;
      same_count = c.distances.invariant.same_count;
      same_y =
          c.distances.invariant.same_y;
      low = omega (arith, c.distances-test.true);
      none = (nowhere_more _ _ _
          (record { low = c.distances.invariant.low; none = c.distances.invariant.none })
          c.distances-test.true (le-ltb _ _ c.if-last-ends.false)).none;
    }

pub shape_of-words-in-cells : goal.shape_of-words-in-cells
shape_of-words-in-cells c =
    packing_long _ _ _ _ _ _ _ _ c.requires _ _ _ (omega arith) (packing_left _ _ _ _ _ _ _ _ c.requires _ _ _ c.cells.invariant
    c.cells-test.true _ _ _ _ c.distances.invariant c.distances-test.false)

pub returns-in-cells : goal.returns-in-cells
returns-in-cells c =
    packing_left _ _ _ _ _ _ _ _ c.requires _ _ _ c.cells.invariant c.cells-test.true _ _ _ _ c.distances.invariant
    c.distances-test.false

pub shape_of-words : goal.shape_of-words
shape_of-words c = packing_long _ _ _ _ _ _ _ _ c.requires _ _ _ c.cells.invariant.low c.cells.invariant.first

pub returns : goal.returns
returns c = packing_end _ _ _ _ _ _ _ _ _ _ _ c.cells.invariant c.cells-test.false
