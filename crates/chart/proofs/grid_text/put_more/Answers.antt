use Rattle.nest.specs.Spans.{within}
use native.Mathlib.Omega.{arith}
use mathlib.Core.Path.{◌∙◌}
use Rattle.chart.proofs.grid_text.Steps.{more_start, more_first, more_second, more_next, more_feed, more_done}
use Rattle.chart.proofs.grid_text.put_more.Goals as goal

pub loop-j-init : goal.loop-j-init
loop-j-init c = (
  omega arith,
  more_start c.args.space.now c.args.grid.now (within c.args.s)
      c.args.at c.args.c c.args.n c.requires.n_bound,
)

pub put-after-requires : goal.put-after-requires
put-after-requires c =
    more_first c.args.space.now c.args.grid.now (within c.args.s) c.args.at c.args.c c.args.n
    c.loop-j.space c.loop-j.place c.loop-j.j c.loop-j-test.true
    c.loop-j.invariant.1

pub overflow_add-c : goal.overflow_add-c
overflow_add-c c = omega (arith, c.loop-j-test.true, c.requires.n_in_bounds.0, c.requires.n_in_bounds.1)

pub put_cell-place-requires : goal.put_cell-place-requires
put_cell-place-requires c =
    record {
      c_bound = more_second c.args.space.now c.args.grid.now (within c.args.s) c.args.at c.args.c c.args.n c.loop-j.space
          c.loop-j.place c.loop-j.j c.loop-j-test.true c.loop-j.invariant.1 _ _ c.put-after.ensures c.put-after.auto.space;
      c_in_bounds = omega (
        arith,
        c.loop-j-test.true,
        c.requires.n_in_bounds.0,
      );
    }

pub loop-j-preserved : goal.loop-j-preserved
loop-j-preserved c = (
  omega (arith, c.loop-j-test.true),
  more_next c.args.space.now c.args.grid.now (within c.args.s) c.args.at
      c.args.c c.args.n c.loop-j.space c.loop-j.place c.loop-j.j c.loop-j-test.true c.loop-j.invariant.1 _ _ c.put-after.ensures
      c.put-after.auto.space _ _ c.put_cell-place.ensures c.put_cell-place.auto.space,
)

pub put-requires : goal.put-requires
put-requires c =
    more_feed c.args.space.now c.args.grid.now (within c.args.s) c.args.at c.args.c c.args.n
    c.loop-j.space c.loop-j.place c.loop-j.j c.loop-j-test.false
    c.loop-j.invariant.1

pub shape_of-space : goal.shape_of-space
shape_of-space c = c.put.auto.space ∙ c.loop-j.invariant.1.long

pub returns : goal.returns
returns c =
    more_done c.args.space.now c.args.grid.now (within c.args.s) c.args.at c.args.c c.args.n c.loop-j.space
    c.loop-j.place c.loop-j.j c.loop-j-test.false c.loop-j.invariant.1 _ c.put.ensures
