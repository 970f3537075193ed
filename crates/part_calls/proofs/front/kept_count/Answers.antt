-- `part_calls::front::kept_count` meets its contract.
use Rattle.std.specs.Prelude.{ℕ, replicate}
use mathlib.Core.Path.{refl}
use lib.ListN.{length-replicate}
use Rattle.plan.specs.Shaped.{plan_of}
use Rattle.network.specs.Own.{keeps}
use Rattle.part_calls.proofs.front.Front as front
use Rattle.part_calls.proofs.front.kept_count.Goals as goal

pub slice_bounds-kept-end : goal.slice_bounds-kept-end
slice_bounds-kept-end c =
    let A = c.args in
    front.cells_fit A.table.now.layout.nest A.table.now.layout.sizes A.b c.args.table.now.layout.sized (replicate {A = ℕ} 16384 0) (length-replicate {A = ℕ} 16384 0)

pub slice_bounds-keep_cells-end : goal.slice_bounds-keep_cells-end
slice_bounds-keep_cells-end c =
    let A = c.args in
    front.lent_cells A.table.now.layout.nest A.table.now.layout.sizes A.b c.args.table.now.layout.sized (replicate {A = ℕ} 16384 0) (length-replicate {A = ℕ} 16384 0)

pub keep_cells-requires : goal.keep_cells-requires
keep_cells-requires c =
    let A = c.args in
    (c.requires, (front.lent_long A.table.now.layout.nest A.table.now.layout.sizes A.b c.args.table.now.layout.sized (replicate {A = ℕ} 16384 0) (length-replicate {A = ℕ} 16384 0), refl))

pub returns : goal.returns
returns c =
    let A = c.args in
    let keep-cells = c.keep_cells in
    front.cells_few A.table.now.layout.nest A.table.now.layout.sizes A.b c.args.table.now.layout.sized (keeps (plan_of A.table.now.layout.sizes.route A.table.now.layout.nest) A.b) keep-cells.result
    keep-cells.ensures.1
