use Rattle.nest.specs.Spans.{within}
use borrow.Author.Rules.{rules}
use mathlib.Core.Path.{◌≡◌}
use native.Mathlib.Omega.{arith}
use Rattle.chart.proofs.grid_text.Steps.{row_feed, row_over, row_cell, row_more, row_done}
use Rattle.chart.proofs.grid_text.put_row.Goals as goal

pub put-requires : goal.put-requires
put-requires c =
    let h : c.args.n ≡ 0 = search rules in
    row_feed c.args.grid.now (within c.args.s)
    c.args.at c.args.c c.args.n
    c.requires.n_bound h

pub returns-then-n-eq0 : goal.returns-then-n-eq0
returns-then-n-eq0 c =
    let h : c.args.n ≡ 0 = search rules in
    row_over c.args.grid.now (within
    c.args.s) c.args.at
    c.args.c c.args.n
    c.requires.n_bound h _ _ c.put.ensures

pub put_cell-next-requires : goal.put_cell-next-requires
put_cell-next-requires c =
    let h : c.args.n ≡ 0 → ⊥ = search rules in
    record {
      c_bound = row_cell c.args.grid.now (within c.args.s) c.args.at c.args.c c.args.n c.requires.n_bound h;
      c_in_bounds = omega (arith, c.requires.n_in_bounds.0);
    }

pub overflow_add-c : goal.overflow_add-c
overflow_add-c c = omega (arith, c.requires.n_in_bounds.0, c.requires.n_in_bounds.1)

pub put_more-requires : goal.put_more-requires
put_more-requires c =
    let h : c.args.n ≡ 0 → ⊥ = search rules in
    record {
      n_bound = row_more c.args.grid.now (within c.args.s) c.args.at c.args.c c.args.n c.requires.n_bound h _ _ _ c.put_cell-next.ensures;
      n_in_bounds = (omega (arith, c.requires.n_in_bounds.0), c.requires.n_in_bounds.1);
    }

pub returns : goal.returns
returns c =
    let h : c.args.n ≡ 0 → ⊥ = search rules in
    row_done c.args.grid.now (within
    c.args.s)
    c.args.at
    c.args.c
    c.args.n
    c.requires.n_bound h _ _ _
    c.put_cell-next.ensures _ c.put_more.ensures
