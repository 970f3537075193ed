use Rattle.nest.specs.Shape.{in_shape}
use Prim.Native.Nat.{ℕ, ◌*◌}
use mathlib.Core.Path.{sym, ap, ◌∙◌}
use native.Mathlib.Omega.{arith}
use native.Mathlib.Nat.{zero-mul}
use Rattle.chart.proofs.grid_text.Steps.{rows_start, rows_fit, rows_place, rows_room, rows_next, rows_done}
use Rattle.chart.proofs.grid_text.Rows.{row_fits, row_wrote}
use Rattle.chart.proofs.grid_text.put_rows.Goals as goal

pub loop-i-init : goal.loop-i-init
loop-i-init c = (
  omega arith,
  (
    sym (zero-mul c.args.n),
    rows_start c.args.space.now c.args.grid.now
        (in_shape c.args.nest) c.args.at c.args.n c.args.k
        c.requires.k_bound,
  ),
)

pub shown-s-requires : goal.shown-s-requires
shown-s-requires c =
    let loop = c.loop-i in
    let rows = c.requires.rows in
    let fits = rows_fit loop.c c.args.n c.args.k loop.i _ loop.invariant.1.0 c.loop-i-test.true rows.few in
    (rows.accepted, (rows.flat, (loop.invariant.1.0 ∙ ap (λ (m : ℕ). loop.i * m) rows.wide, omega (arith, fits, rows.all, rows.accepted.cells_most))))

pub put_row-place-requires : goal.put_row-place-requires
put_row-place-requires c =
    let loop = c.loop-i in
    let taken = c.loop-i-test.true in
    let rows = c.requires.rows in
    let room =
    rows_room c.args.space.now c.args.grid.now (in_shape c.args.nest) c.args.at c.args.n c.args.k
    loop.space loop.place loop.c loop.i taken loop.invariant.1.1 in
    record {
      n_bound = row_fits c.args.nest c.args.grid.now loop.c c.args.n rows.wide c.shown-s.result c.shown-s.ensures loop.place room;
      n_in_bounds = (
        rows_fit loop.c c.args.n c.args.k loop.i _ loop.invariant.1.0 taken rows.few,
        omega (arith, rows.all, rows.accepted.cells_most),
      );
    }

pub overflow_add-c : goal.overflow_add-c
overflow_add-c c =
    let loop = c.loop-i in
    let taken = c.loop-i-test.true in
    let rows = c.requires.rows in
    let fits = rows_fit loop.c c.args.n c.args.k loop.i _ loop.invariant.1.0 taken rows.few in
    omega (arith, fits, rows.all, rows.accepted.cells_most)

pub loop-i-preserved : goal.loop-i-preserved
loop-i-preserved c =
    let loop = c.loop-i in
    let taken = c.loop-i-test.true in
    let shown = c.shown-s in
    let wrote = row_wrote c.args.nest c.args.grid.now loop.c c.args.n c.requires.rows.wide shown.result shown.ensures _ _
    c.put_row-place.ensures in (
      omega (arith, taken),
      (
        rows_place loop.c c.args.n loop.i loop.invariant.1.0,
        rows_next c.args.space.now c.args.grid.now
            (in_shape c.args.nest) c.args.at c.args.n c.args.k loop.space loop.place loop.c loop.i taken
            loop.invariant.1.1
            _ _ wrote c.put_row-place.auto.space,
      ),
    )

pub shape_of-space : goal.shape_of-space
shape_of-space c = c.loop-i.invariant.1.1.long

pub returns : goal.returns
returns c =
    rows_done c.args.space.now c.args.grid.now (in_shape c.args.nest) c.args.at c.args.n c.args.k
    c.loop-i.space c.loop-i.place c.loop-i.c c.loop-i.i c.loop-i-test.false c.loop-i.invariant.1.1
