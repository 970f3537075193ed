-- `nest::cut` meets its contract: one law for each way a bound can cut.
use mathlib.Core.Path.{refl}
use native.Mathlib.Omega.{arith}
use Rattle.nest.proofs.Cuts as C
use borrow.Author.Tests.{eq-eqb, ne_eqb}
use Rattle.nest.proofs.cut.Goals as goal

pub bounds-bounded-k : goal.bounds-bounded-k
bounds-bounded-k c = omega (arith, c.requires.1.0, c.requires.0.bounds_most)

pub overflow_cast-j : goal.overflow_cast-j
overflow_cast-j c = omega (arith, c.requires.0.bounded_low c.args.k c.requires.1.0, c.requires.0.dimensions_most)

pub bounds-earlier-k : goal.bounds-earlier-k
bounds-earlier-k c = omega (arith, c.requires.1.0, c.requires.0.bounds_most)

pub overflow_cast-before : goal.overflow_cast-before
overflow_cast-before c = omega (arith, C.before_four c.args.nest.now c.requires.0 c.args.at.now c.args.k c.requires.1.0)

pub offset_bounds-at-earlier : goal.offset_bounds-at-earlier
offset_bounds-at-earlier c = omega (arith, C.before_four c.args.nest.now c.requires.0 c.args.at.now c.args.k c.requires.1.0)

pub bounds-at-earlier : goal.bounds-at-earlier
bounds-at-earlier c = omega (arith, C.before_four c.args.nest.now c.requires.0 c.args.at.now c.args.k c.requires.1.0)

pub bounds-slopes-k : goal.bounds-slopes-k
bounds-slopes-k c = omega (arith, c.requires.1.0, c.requires.0.bounds_most)

pub overflow_cast-level : goal.overflow_cast-level
overflow_cast-level c = omega (arith, c.requires.0.slope_most c.args.k)

pub overflow_mul-level : goal.overflow_mul-level
overflow_mul-level c = omega (arith, C.line_room c.args.nest.now c.requires.0 c.args.at.now c.args.k c.requires.1.0 c.requires.1.1)

pub offset_bounds-offsets-k : goal.offset_bounds-offsets-k
offset_bounds-offsets-k c = omega (arith, c.requires.1.0, c.requires.0.bounds_most)

pub bounds-offsets-k : goal.bounds-offsets-k
bounds-offsets-k c = omega (arith, c.requires.1.0, c.requires.0.bounds_most)

pub overflow_cast-level-2 : goal.overflow_cast-level-2
overflow_cast-level-2 c = omega (arith, c.requires.0.offset_most c.args.k)

pub overflow_add-level : goal.overflow_add-level
overflow_add-level c =
    omega (
      arith,
      C.line_room c.args.nest.now c.requires.0 c.args.at.now c.args.k c.requires.1.0 c.requires.1.1,
      c.requires.0.offset_most c.args.k,
    )

pub overflow_add-base : goal.overflow_add-base
overflow_add-base c = omega (arith, C.base_room c.args.nest.now c.requires.0 c.args.at.now c.args.k c.requires.1.0 c.requires.1.1)

pub bounds-sides-k : goal.bounds-sides-k
bounds-sides-k c = omega (arith, c.requires.1.0, c.requires.0.bounds_most)

pub overflow_add-j : goal.overflow_add-j
overflow_add-j c = omega (arith, c.requires.0.bounded_low c.args.k c.requires.1.0, c.requires.0.dimensions_most)

pub offset_bounds-at-j : goal.offset_bounds-at-j
offset_bounds-at-j c = omega (arith, c.if-j-nest.true, c.requires.0.dimensions_most)

pub bounds-at-j : goal.bounds-at-j
bounds-at-j c = omega (arith, c.if-j-nest.true, c.requires.0.dimensions_most)

pub overflow_add-at : goal.overflow_add-at
overflow_add-at c =
    omega (
      arith,
      C.base_room c.args.nest.now c.requires.0 c.args.at.now c.args.k c.requires.1.0 c.requires.1.1,
      c.requires.1.1 _ (c.requires.0.bounded_low _ c.requires.1.0),
    )

pub returns-then-j-nest : goal.returns-then-j-nest
returns-then-j-nest c =
    C.cut_other c.args.nest.now c.requires.0 c.args.at.now c.args.k c.requires.1.0 _ _ _ _
    c.if-j-nest.true refl c.met.ensures c.kept.ensures

pub returns-then-lower : goal.returns-then-lower
returns-then-lower c =
    C.cut_lower c.args.nest.now c.requires.0 c.args.at.now c.args.k c.requires.1.0 _ _ _
    c.if-j-nest.false refl (eq-eqb _ _ c.if-lower.true) c.above.ensures

pub returns : goal.returns
returns c =
    C.cut_upper c.args.nest.now c.requires.0 c.args.at.now c.args.k c.requires.1.0 _ _ _
    c.if-j-nest.false refl (ne_eqb _ _ c.if-lower.false) c.below.ensures
