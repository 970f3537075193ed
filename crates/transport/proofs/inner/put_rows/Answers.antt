-- `inner::put_rows` meets its contract: the slots passed.
use native.Mathlib.Omega.{arith}
use Rattle.std.specs.Prelude.{◌*◌}
use mathlib.Core.Path.{◌∙◌}
use mathlib.Core.Logic.{inl, inr}
use Rattle.transport.proofs.Rows as rows
use Rattle.transport.proofs.inner.put_rows.Goals as goal
use Rattle.transport.proofs.inner.put_rows.Goals.{then-words-ne0, else-words-ne0}

pub overflow_mul-slots : goal.overflow_mul-slots
overflow_mul-slots c =
    let tiles-of = c.tiles_of in
    omega (
      arith,
      (rows.slots_of c.args.table.now tiles-of.result tiles-of.ensures.0).sheet.few,
    )

pub loop-slot-init : goal.loop-slot-init
loop-slot-init c =
    rows.pass_start c.args.table.now.layout.sizes.route c.args.table.now.layout.nest c.args.table.now.lens.now (c.tiles_of.result * c.args.table.now.layout.sizes.ways)
    c.args.out.now

pub offset_bounds-table-slot : goal.offset_bounds-table-slot
offset_bounds-table-slot c =
    let tiles-of = c.tiles_of in
    omega (
      arith,
      c.loop-slot-test.true,
      (rows.slots_of c.args.table.now tiles-of.result tiles-of.ensures.0).sheet.few,
      (rows.slots_of c.args.table.now tiles-of.result tiles-of.ensures.0).sheet.long,
    )

pub bounds-table-slot : goal.bounds-table-slot
bounds-table-slot c =
    let tiles-of = c.tiles_of in
    omega (
      arith,
      c.loop-slot-test.true,
      (rows.slots_of c.args.table.now tiles-of.result tiles-of.ensures.0).sheet.few,
      (rows.slots_of c.args.table.now tiles-of.result tiles-of.ensures.0).sheet.long,
    )

pub put_row-requires : goal.put_row-requires
put_row-requires c =
    let loop = c.loop-slot in
    let tiles-of = c.tiles_of in
    let from-words = c.from-words in record {
      planned = rows.here c.args.table.now.layout.sizes.route c.args.table.now.layout.nest c.args.table.now.lens.now _ c.args.out.now loop.out loop.slot loop.number
          loop.offset loop.invariant (rows.slots_of c.args.table.now tiles-of.result tiles-of.ensures.0) c.loop-slot-test.true from-words.result from-words.ensures c.if-words-ne0.true;
      out_len = (
        loop.invariant.told.long ∙ c.requires,
        (
          omega (
            arith,
            loop.invariant.few,
            loop.invariant.low,
            (rows.slots_of c.args.table.now tiles-of.result tiles-of.ensures.0).sheet.few,
          ),
          omega (
            arith,
            loop.invariant.small,
            loop.invariant.low,
            (rows.slots_of c.args.table.now tiles-of.result tiles-of.ensures.0).sheet.few,
          ),
        ),
      );
    }

pub overflow_add-number : goal.overflow_add-number
overflow_add-number c =
    let tiles-of = c.tiles_of in
    omega (
      arith,
      c.loop-slot.invariant.few,
      c.loop-slot-test.true,
      (rows.slots_of c.args.table.now tiles-of.result tiles-of.ensures.0).sheet.few,
    )

pub overflow_add-offset : goal.overflow_add-offset
overflow_add-offset c =
    let loop = c.loop-slot in
    let loop-test = c.loop-slot-test in
    let tiles-of = c.tiles_of in
    omega (
      arith,
      loop.invariant.small,
      loop-test.true,
      (rows.slots_of c.args.table.now tiles-of.result tiles-of.ensures.0).sheet.few,
      c.from-words.ensures,
      (rows.slots_of c.args.table.now tiles-of.result tiles-of.ensures.0).sheet.short loop.slot loop-test.true,
    )

pub loop-slot-preserved : goal.loop-slot-preserved
loop-slot-preserved c =
    let loop = c.loop-slot in
    let tiles-of = c.tiles_of in
    let from-words = c.from-words in
    rows.pass_next c.args.table.now.layout.sizes.route c.args.table.now.layout.nest c.args.table.now.lens.now _ c.args.out.now loop.out loop.slot loop.number loop.offset
    loop.invariant (rows.slots_of c.args.table.now tiles-of.result tiles-of.ensures.0)
    c.loop-slot-test.true from-words.result from-words.ensures c.if-words-ne0.out c.if-words-ne0.number c.requires
    (elim c.if-words-ne0.branch [ then-words-ne0 w ↦ inl (w.if-words-ne0.true, (w.out-is ∙ w.put_row.ensures, w.number-is)) | else-words-ne0 w ↦ inr (w.if-words-ne0.false, (w.out-is, w.number-is)) ])

pub shape_of-out : goal.shape_of-out
shape_of-out c = c.loop-slot.invariant.told.long

pub returns : goal.returns
returns c =
    let loop = c.loop-slot in
    let tiles-of = c.tiles_of in
    rows.pass_done c.args.table.now.layout.sizes.route c.args.table.now.layout.nest c.args.table.now.lens.now _ c.args.out.now loop.out loop.slot loop.number
    loop.offset loop.invariant
    (rows.slots_of c.args.table.now tiles-of.result tiles-of.ensures.0)
    c.requires c.loop-slot-test.false
