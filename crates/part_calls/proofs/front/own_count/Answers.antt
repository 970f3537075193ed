-- `part_calls::front::own_count` meets its contract.
use Rattle.std.specs.Prelude.{ℕ, replicate}
use mathlib.Core.Path.{refl}
use lib.ListN.{length-replicate}
use Rattle.plan.specs.Shaped.{plan_of}
use Rattle.network.specs.Own.{owns}
use Rattle.part_calls.proofs.front.Front as front
use Rattle.part_calls.proofs.front.own_count.Goals as goal

pub slice_bounds-owned-end : goal.slice_bounds-owned-end
slice_bounds-owned-end c =
    let A = c.args in
    front.cells_fit A.layout.now.nest A.layout.now.sizes A.b c.args.layout.now.sized (replicate {A = ℕ} 16384 0) (length-replicate {A = ℕ} 16384 0)

pub slice_bounds-own_cells-end : goal.slice_bounds-own_cells-end
slice_bounds-own_cells-end c =
    let A = c.args in
    front.lent_cells A.layout.now.nest A.layout.now.sizes A.b c.args.layout.now.sized (replicate {A = ℕ} 16384 0) (length-replicate {A = ℕ} 16384 0)

pub own_cells-requires : goal.own_cells-requires
own_cells-requires c = let A = c.args in record { routed = c.requires.routed; low = c.requires.low; owned_len = (front.lent_long A.layout.now.nest A.layout.now.sizes A.b c.args.layout.now.sized (replicate {A = ℕ} 16384 0) (length-replicate {A = ℕ} 16384 0), refl) }

pub returns : goal.returns
returns c =
    let A = c.args in
    let cells_are_own = c.own_cells in
    front.cells_few A.layout.now.nest A.layout.now.sizes A.b c.args.layout.now.sized (owns (plan_of A.layout.now.sizes.route A.layout.now.nest) A.b) cells_are_own.result
    cells_are_own.ensures.1
