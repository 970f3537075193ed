-- The marks of its own cells on the stack, then the tile.
use Rattle.std.specs.Prelude.{ℕ, List, replicate}
use mathlib.Core.Path.{refl, sym, subst, ◌∙◌}
use lib.ListN.{length-replicate}
use Rattle.rank_index.specs.Ranks.{Counted}
use Rattle.part_calls.proofs.front.Front as front
use Rattle.part_calls.proofs.turn.on_part.calculate_own.Goals as goal

pub slice_bounds-owned-end : goal.slice_bounds-owned-end
slice_bounds-owned-end c =
    let A = c.args in
    front.cells_fit A.table.now.layout.nest A.table.now.layout.sizes A.b c.args.table.now.layout.sized (replicate {A = ℕ} 16384 0) (length-replicate {A = ℕ} 16384 0)

pub slice_bounds-own_cells-end : goal.slice_bounds-own_cells-end
slice_bounds-own_cells-end c =
    let A = c.args in
    front.lent_cells A.table.now.layout.nest A.table.now.layout.sizes A.b c.args.table.now.layout.sized (replicate {A = ℕ} 16384 0) (length-replicate {A = ℕ} 16384 0)

pub own_cells-requires : goal.own_cells-requires
own_cells-requires c =
    let A = c.args in record {
      routed = c.args.table.now.tabled.routed;
      low = c.requires.planned.0;
      owned_len = (
        front.lent_long A.table.now.layout.nest A.table.now.layout.sizes A.b c.args.table.now.layout.sized (replicate {A = ℕ}
            16384 0) (length-replicate {A = ℕ} 16384 0),
        refl,
      );
    }

pub slice_bounds-owned-end-2 : goal.slice_bounds-owned-end-2
slice_bounds-owned-end-2 c =
    let A = c.args in
    let cells_are_own = c.own_cells in
    front.back_room A.table.now.layout.nest A.table.now.layout.sizes A.b c.args.table.now.layout.sized (replicate {A = ℕ} 16384 0) cells_are_own.new.owned (length-replicate {A = ℕ} 16384
    0) cells_are_own.auto.owned

pub slice_bounds-calculate-end : goal.slice_bounds-calculate-end
slice_bounds-calculate-end c =
    let A = c.args in
    let cells_are_own = c.own_cells in
    front.back_lent A.table.now.layout.nest A.table.now.layout.sizes A.b c.args.table.now.layout.sized (replicate {A = ℕ} 16384 0) cells_are_own.new.owned (length-replicate {A = ℕ} 16384
    0) cells_are_own.auto.owned

pub calculate-requires : goal.calculate-requires
calculate-requires c =
    let A = c.args in
    let cells_are_own = c.own_cells in
    let is = front.back_is A.table.now.layout.nest A.table.now.layout.sizes A.b c.args.table.now.layout.sized (replicate {A = ℕ} 16384 0) cells_are_own.new.owned (length-replicate {A =
    ℕ} 16384 0) cells_are_own.auto.owned in
    record {
      processor = c.requires.planned.0;
      low = c.requires.planned.1.0;
      mine = c.requires.planned.1.1.0;
      kept_are = c.requires.planned.1.1.1.are;
      own_are = is ∙ cells_are_own.ensures.0.are;
      counted = c.requires.planned.1.1.1.counted;
      own_counted = subst (λ (k : List ℕ). Counted k cells_are_own.new.counts) (sym is) cells_are_own.ensures.0.counted;
      source = c.requires.source_len.0;
      memory = c.requires.source_len.1;
    }
