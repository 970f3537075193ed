-- `inner::put_row` meets its contract: a lent part of six words.
use native.Mathlib.Omega.{arith}
use Rattle.std.specs.Prelude.{◌*◌}
use mathlib.Core.Path.{refl}
use Rattle.plan.specs.Shaped.{plan_of}
use Rattle.transport.proofs.Rows as rows
use Rattle.transport.proofs.inner.put_row.Goals as goal

pub line_at-line-requires : goal.line_at-line-requires
line_at-line-requires c = record { found_in = c.requires.planned }

pub overflow_mul-at : goal.overflow_mul-at
overflow_mul-at c = omega (arith, c.requires.out_len.1.0)

pub overflow_add-end : goal.overflow_add-end
overflow_add-end c = omega (arith, c.requires.out_len.1.0)

pub offset_bounds-out-at : goal.offset_bounds-out-at
offset_bounds-out-at c = omega (arith, c.requires.out_len.1.0)

pub slice_bounds-store_row-start : goal.slice_bounds-store_row-start
slice_bounds-store_row-start c = omega arith

pub slice_bounds-store_row-end : goal.slice_bounds-store_row-end
slice_bounds-store_row-end c = omega (arith, c.requires.planned.low, c.requires.out_len.0)

pub overflow_cast-place : goal.overflow_cast-place
overflow_cast-place c = omega (arith, c.requires.out_len.1.1)

pub store_row-requires : goal.store_row-requires
store_row-requires c = rows.mid_six c.args.out.now (6 * c.args.place.number) (omega (arith, c.requires.planned.low, c.requires.out_len.0))

pub returns : goal.returns
returns c =
    let store_row = c.store_row in
    let line_at_lem = c.line_at-line in
    rows.row_back (plan_of c.args.table.now.layout.sizes.route c.args.table.now.layout.nest) c.args.place.number (6 * c.args.place.number) c.args.out.now
    store_row.new.row line_at_lem.result c.args.place.offset refl (omega (arith, c.requires.planned.low, c.requires.out_len.0)) store_row.auto.row
    line_at_lem.ensures c.requires.planned.offset store_row.ensures
