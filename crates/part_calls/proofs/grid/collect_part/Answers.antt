-- `grid::collect_part` meets its contract: each return by the line that counts.
use Rattle.std.specs.Prelude.{ℕ, List, [], replicate}
use mathlib.Core.Path.{refl, sym, subst}
use lib.ListN.{length-replicate}
use Rattle.machine.specs.Machine.{state_of}
use Rattle.plan.specs.Shaped.{plan_of}
use Rattle.network.specs.Own.{keeps}
use Rattle.part_calls.specs.front.Given.{Cells}
use Rattle.part_calls.proofs.front.Front as front
use Rattle.std.proofs.lemmas.Result.{err_from_is_err_and}
use Rattle.base.proofs.Codes.{code_some}
use Rattle.part_calls.proofs.Collecting as collecting
use Rattle.part_calls.proofs.grid.collect_part.Goals as goal

pub slice_bounds-kept-end : goal.slice_bounds-kept-end
slice_bounds-kept-end c =
    let A = c.args in
    front.cells_fit A.layout.now.nest A.layout.now.sizes A.b A.layout.now.sized (replicate {A = ℕ} 16384 0) (length-replicate {A = ℕ} 16384 0)

pub slice_bounds-keep_cells-end : goal.slice_bounds-keep_cells-end
slice_bounds-keep_cells-end c =
    let A = c.args in
    front.lent_cells A.layout.now.nest A.layout.now.sizes A.b A.layout.now.sized (replicate {A = ℕ} 16384 0) (length-replicate {A = ℕ} 16384 0)

pub of-table-requires : goal.of-table-requires
of-table-requires c = record { routed = c.requires.routed; lens_len = refl }

pub keep_cells-many-requires : goal.keep_cells-many-requires
keep_cells-many-requires c =
    let A = c.args in (
      rw c.of-table.ensures c.requires.low.0,
      (
        rw c.of-table.ensures
            (front.lent_long A.layout.now.nest A.layout.now.sizes A.b A.layout.now.sized (replicate {A = ℕ} 16384 0) (length-replicate {A = ℕ} 16384 0)),
        refl,
      ),
    )

pub uncollected-requires : goal.uncollected-requires
uncollected-requires c = (rw c.of-table.ensures c.requires.low.0, (c.keep_cells-many.ensures.1, c.requires.low.1))

pub slice_bounds-kept-end-2 : goal.slice_bounds-kept-end-2
slice_bounds-kept-end-2 c =
    let A = c.args in
    let keep-cells = c.keep_cells-many in
    front.back_room A.layout.now.nest A.layout.now.sizes A.b A.layout.now.sized (replicate {A = ℕ} 16384 0) keep-cells.new.kept
    (length-replicate {A = ℕ} 16384 0) keep-cells.auto.kept

pub slice_bounds-put_own-end : goal.slice_bounds-put_own-end
slice_bounds-put_own-end c =
    let A = c.args in
    let keep-cells = c.keep_cells-many in
    front.back_lent A.layout.now.nest A.layout.now.sizes A.b A.layout.now.sized (replicate {A = ℕ} 16384 0) keep-cells.new.kept
    (length-replicate {A = ℕ} 16384 0) keep-cells.auto.kept

pub put_own-requires : goal.put_own-requires
put_own-requires c =
    let A = c.args in
    let keep-cells = c.keep_cells-many in
    let uncollected = c.uncollected in
    let p = plan_of A.layout.now.sizes.route A.layout.now.nest in
    let is = front.back_is A.layout.now.nest A.layout.now.sizes A.b A.layout.now.sized (replicate {A = ℕ} 16384 0) keep-cells.new.kept
    (length-replicate {A = ℕ} 16384 0) keep-cells.auto.kept in record {
      routed = c.requires.routed;
      sized = (
        c.requires.low.0,
        subst (λ (k : List ℕ). Cells A.layout.now.nest (keeps p A.b) k keep-cells.new.counts) (sym is)
            (rw (sym c.of-table.ensures) keep-cells.ensures.0),
      );
      memory_len = rw (sym c.of-table.ensures) c.in_ok-uncollected.ensures.lengths;
    }

pub returns-in_err-uncollected : goal.returns-in_err-uncollected
returns-in_err-uncollected c =
    let A = c.args in
    let p = plan_of A.layout.now.sizes.route A.layout.now.nest in
    let e = err_from_is_err_and c.from_residual.result c.from_residual.ensures.1 in
    λ l h. rw (e.1, e.2)
    (collecting.collect_refused p A.b (state_of A.memory.now [] l []) A.grid.now _ (rw (sym c.of-table.ensures) (c.in_err-uncollected.ensures.lines l h))
    (code_some _))

pub returns : goal.returns
returns c =
    let A = c.args in
    let p = plan_of A.layout.now.sizes.route A.layout.now.nest in
    λ l h. collecting.collect_done p A.b (state_of A.memory.now [] l []) A.grid.now 0 (rw (sym c.of-table.ensures) (c.in_ok-uncollected.ensures.lines l h)) refl _ (c.put_own.ensures l)
