-- `grid::put_own` meets its contract: outside the shape, then its own cells.
use Rattle.std.specs.Prelude.{ℕ, replicate}
use mathlib.Core.Path.{◌∙◌}
use lib.ListN.{length-replicate}
use Rattle.part_calls.proofs.front.Front as front
use Rattle.part_calls.proofs.Collecting as collecting
use Rattle.part_calls.proofs.grid.put_own.Goals as goal

pub slice_bounds-owned-end : goal.slice_bounds-owned-end
slice_bounds-owned-end c =
    let A = c.args in
    front.cells_fit A.layout.now.nest A.layout.now.sizes A.b c.args.layout.now.sized (replicate {A = ℕ} 16384 0) (length-replicate {A = ℕ} 16384 0)

pub slice_bounds-mark_own-end : goal.slice_bounds-mark_own-end
slice_bounds-mark_own-end c =
    let A = c.args in
    front.lent_cells A.layout.now.nest A.layout.now.sizes A.b c.args.layout.now.sized (replicate {A = ℕ} 16384 0) (length-replicate {A = ℕ} 16384 0)

pub mark_own-requires : goal.mark_own-requires
mark_own-requires c =
    let A = c.args in record {
      routed = c.requires.routed;
      low = (
        c.requires.sized.0,
        front.lent_long A.layout.now.nest A.layout.now.sizes A.b c.args.layout.now.sized (replicate {A = ℕ} 16384 0) (length-replicate {A = ℕ} 16384 0),
      );
    }

pub put_outside-requires : goal.put_outside-requires
put_outside-requires c = c.requires.memory_len.1

pub slice_bounds-owned-end-2 : goal.slice_bounds-owned-end-2
slice_bounds-owned-end-2 c =
    let A = c.args in
    let mark_own = c.mark_own in
    front.back_room A.layout.now.nest A.layout.now.sizes A.b c.args.layout.now.sized (replicate {A = ℕ} 16384 0) mark_own.new.marks
    (length-replicate {A = ℕ} 16384 0) mark_own.auto.marks

pub slice_bounds-put_cells-end : goal.slice_bounds-put_cells-end
slice_bounds-put_cells-end c =
    let A = c.args in
    let mark_own = c.mark_own in
    front.back_lent A.layout.now.nest A.layout.now.sizes A.b c.args.layout.now.sized (replicate {A = ℕ} 16384 0) mark_own.new.marks
    (length-replicate {A = ℕ} 16384 0) mark_own.auto.marks

pub put_cells-requires : goal.put_cells-requires
put_cells-requires c =
    let A = c.args in
    let mark_own = c.mark_own in
    let put-outside = c.put_outside in
    let is = front.back_is A.layout.now.nest A.layout.now.sizes A.b c.args.layout.now.sized (replicate {A = ℕ} 16384 0) mark_own.new.marks
    (length-replicate {A = ℕ} 16384 0) mark_own.auto.marks ∙ mark_own.ensures in
    collecting.within_marks A.layout.now.nest A.layout.now.sizes A.b c.args.layout.now.sized c.requires.routed c.requires.sized.0 _ A.kept.now A.memory.now
    put-outside.new.grid is
    c.requires.sized.1.are c.requires.memory_len.0 (put-outside.auto.grid ∙ c.requires.memory_len.1)

pub returns : goal.returns
returns c =
    let A = c.args in
    let mark_own = c.mark_own in
    let put-outside = c.put_outside in
    let put-cells = c.put_cells in
    let is = front.back_is A.layout.now.nest A.layout.now.sizes A.b c.args.layout.now.sized (replicate {A = ℕ} 16384 0) mark_own.new.marks
    (length-replicate {A = ℕ} 16384 0) mark_own.auto.marks ∙ mark_own.ensures in
    λ l. collecting.own_grid A.layout.now.nest A.layout.now.sizes A.b c.args.layout.now.sized c.requires.routed c.requires.sized.0 _ A.kept.now A.memory.now
    A.grid.now is
    c.requires.sized.1.are c.requires.memory_len.0 c.requires.memory_len.1 put-outside.new.grid _ l put-outside.ensures put-cells.ensures
