-- `tables::shaped_table::rows::line_by` meets its contract.
use native.Mathlib.Omega.{arith}
use Rattle.tables.proofs.shaped_table.Lines as L
use Rattle.tables.proofs.shaped_table.rows.line_by.Goals as goal

pub overflow_sub-first : goal.overflow_sub-first
overflow_sub-first c = L.first_low c.args.layout.now.nest c.args.layout.now.sized.accepted c.args.tile _ c.requires.sized.1

pub overflow_add-result : goal.overflow_add-result
overflow_add-result c = omega (arith, c.requires.from_bound, c.requires.sized.0, L.boxes_few c.args.layout.now.nest c.args.layout.now.sized.accepted)

pub overflow_add-result-2 : goal.overflow_add-result-2
overflow_add-result-2 c = omega (arith, c.requires.from_bound, c.requires.sized.0, L.boxes_few c.args.layout.now.nest c.args.layout.now.sized.accepted)

pub overflow_add-result-3 : goal.overflow_add-result-3
overflow_add-result-3 c =
    omega (
      arith,
      c.requires.sized.0,
      L.boxes_few c.args.layout.now.nest c.args.layout.now.sized.accepted,
      L.across_few c.args.layout.now.nest c.args.layout.now.sized.accepted _
          (c.args.layout.now.sized.across _ (L.inner c.args.layout.now.nest c.args.layout.now.sized.accepted)),
    )
