-- `mark_messages` meets its contract: the slots passed.
use native.Mathlib.Omega.{arith}
use Prim.Native.Nat.{ℕ, ◌*◌}
use mathlib.Core.Path.{sym, ap, ◌∙◌}
use mathlib.Core.Logic.{inl, inr}
use mathlib.Core.List.{List}
use lib.ListN.{length}
use Rattle.base.proofs.Tests.{length_tabulate}
use Rattle.plan.specs.Shaped.{plan_of}
use Rattle.plan.proofs.ShapedSound.{sound}
use Rattle.tables.proofs.Slotted as rows
use Rattle.part.proofs.Slots as pass
use Rattle.part.proofs.Brought as brings
use Rattle.part.proofs.mark_messages.Goals as goal
use Rattle.part.proofs.mark_messages.Goals.{then-words-ne0, else-words-ne0}

pub overflow_mul-slots : goal.overflow_mul-slots
overflow_mul-slots c =
    omega (
      arith,
      (rows.slotted c.args.table.now.layout.nest c.args.table.now.layout.sizes c.args.table.now.layout.sized c.args.table.now.lens.now c.args.table.now.tabled c.tiles_of.result c.tiles_of.ensures.0).sheet.few,
    )

pub loop-slot-init : goal.loop-slot-init
loop-slot-init c = (
  (
    pass.past_start c.args.table.now.lens.now (c.tiles_of.result * c.args.table.now.layout.sizes.ways),
    brings.keep_start (plan_of c.args.table.now.layout.sizes.route c.args.table.now.layout.nest) c.args.b c.args.marks.now c.requires.marks_value,
  ),
  c.requires.list_len,
)

pub offset_bounds-table-slot : goal.offset_bounds-table-slot
offset_bounds-table-slot c =
    let test = c.loop-slot-test.true in
    omega (
      arith,
      test,
      (rows.slotted c.args.table.now.layout.nest c.args.table.now.layout.sizes c.args.table.now.layout.sized c.args.table.now.lens.now c.args.table.now.tabled c.tiles_of.result c.tiles_of.ensures.0).sheet.few,
      (rows.slotted c.args.table.now.layout.nest c.args.table.now.layout.sizes c.args.table.now.layout.sized c.args.table.now.lens.now c.args.table.now.tabled c.tiles_of.result c.tiles_of.ensures.0).sheet.long,
    )

pub bounds-table-slot : goal.bounds-table-slot
bounds-table-slot c =
    let test = c.loop-slot-test.true in
    omega (
      arith,
      test,
      (rows.slotted c.args.table.now.layout.nest c.args.table.now.layout.sizes c.args.table.now.layout.sized c.args.table.now.lens.now c.args.table.now.tabled c.tiles_of.result c.tiles_of.ensures.0).sheet.few,
      (rows.slotted c.args.table.now.layout.nest c.args.table.now.layout.sizes c.args.table.now.layout.sized c.args.table.now.lens.now c.args.table.now.tabled c.tiles_of.result c.tiles_of.ensures.0).sheet.long,
    )

pub bounds-sides-slot : goal.bounds-sides-slot
bounds-sides-slot c =
    let S = c in
    let test = c.loop-slot-test.true in
    omega (
      arith,
      test,
      (rows.slotted c.args.table.now.layout.nest c.args.table.now.layout.sizes c.args.table.now.layout.sized c.args.table.now.lens.now c.args.table.now.tabled c.tiles_of.result c.tiles_of.ensures.0).sheet.few,
      S.requires.sides_len.0,
    )

pub mark_brought-requires : goal.mark_brought-requires
mark_brought-requires c =
    let S = c in
    let loop = c.loop-slot in
    let test = c.loop-slot-test.true in
    let words = c.from-words in
    let here = pass.here S.args.table.now.layout.sizes.route S.args.table.now.layout.nest S.args.table.now.lens.now _ loop.slot loop.number loop.offset loop.invariant.0.0 (rows.slotted c.args.table.now.layout.nest c.args.table.now.layout.sizes c.args.table.now.layout.sized c.args.table.now.lens.now c.args.table.now.tabled c.tiles_of.result c.tiles_of.ensures.0)
    test words.result words.ensures in
    let short = pass.short S.args.table.now.layout.sizes.route S.args.table.now.layout.nest S.args.table.now.lens.now _ loop.slot loop.number loop.offset loop.invariant.0.0 (rows.slotted c.args.table.now.layout.nest c.args.table.now.layout.sizes c.args.table.now.layout.sized c.args.table.now.lens.now c.args.table.now.tabled c.tiles_of.result c.tiles_of.ensures.0)
    test words.result words.ensures in record { sized = here c.if-words-ne0.true; side_value = S.requires.sides_len.1.each loop.slot (omega (arith, test, ap (λ (i : ℕ). i * S.args.table.now.layout.sizes.ways) c.tiles_of.ensures.0)); words_in_bounds = (omega (arith, short, loop.invariant.1), loop.invariant.0.1.long) }

pub overflow_add-number : goal.overflow_add-number
overflow_add-number c =
    let loop = c.loop-slot in
    let test = c.loop-slot-test.true in
    omega (
      arith,
      test,
      loop.invariant.0.0.few,
      (rows.slotted c.args.table.now.layout.nest c.args.table.now.layout.sizes c.args.table.now.layout.sized c.args.table.now.lens.now c.args.table.now.tabled c.tiles_of.result c.tiles_of.ensures.0).sheet.few,
    )

pub overflow_add-offset : goal.overflow_add-offset
overflow_add-offset c =
    let S = c in
    let loop = c.loop-slot in
    let test = c.loop-slot-test.true in
    let words = c.from-words in
    let short = pass.short S.args.table.now.layout.sizes.route S.args.table.now.layout.nest S.args.table.now.lens.now _ loop.slot loop.number loop.offset loop.invariant.0.0 (rows.slotted c.args.table.now.layout.nest c.args.table.now.layout.sizes c.args.table.now.layout.sized c.args.table.now.lens.now c.args.table.now.tabled c.tiles_of.result c.tiles_of.ensures.0)
    test words.result words.ensures in
    omega (
      arith,
      short,
      loop.invariant.0.0.small,
      test,
      (rows.slotted c.args.table.now.layout.nest c.args.table.now.layout.sizes c.args.table.now.layout.sized c.args.table.now.lens.now c.args.table.now.tabled c.tiles_of.result c.tiles_of.ensures.0).sheet.few,
    )

pub loop-slot-preserved : goal.loop-slot-preserved
loop-slot-preserved c =
    let S = c in
    let loop = c.loop-slot in
    let test = c.loop-slot-test.true in
    let words = c.from-words in
    let here = pass.here S.args.table.now.layout.sizes.route S.args.table.now.layout.nest S.args.table.now.lens.now _ loop.slot loop.number loop.offset loop.invariant.0.0 (rows.slotted c.args.table.now.layout.nest c.args.table.now.layout.sizes c.args.table.now.layout.sized c.args.table.now.lens.now c.args.table.now.tabled c.tiles_of.result c.tiles_of.ensures.0)
    test words.result words.ensures in (
      (
        pass.past_next S.args.table.now.layout.sizes.route S.args.table.now.layout.nest S.args.table.now.lens.now _ loop.slot loop.number loop.offset loop.invariant.0.0 (rows.slotted c.args.table.now.layout.nest c.args.table.now.layout.sizes c.args.table.now.layout.sized c.args.table.now.lens.now c.args.table.now.tabled c.tiles_of.result c.tiles_of.ensures.0)
            test words.result words.ensures c.if-words-ne0.number
            (elim c.if-words-ne0.branch [ then-words-ne0 w ↦ inl (w.if-words-ne0.true, w.number-is) | else-words-ne0 w ↦ inr (w.if-words-ne0.false, w.number-is) ]),
        brings.keep_turn (plan_of S.args.table.now.layout.sizes.route S.args.table.now.layout.nest) S.args.b
            (sound S.args.table.now.layout.sizes.route S.args.table.now.layout.nest S.args.table.now.layout.sized.accepted) loop.marks loop.number loop.invariant.0.1 c.if-words-ne0.marks
            c.if-words-ne0.number
            (elim c.if-words-ne0.branch [ then-words-ne0 w ↦ inl ((here w.if-words-ne0.true).low, w.marks-is ∙ w.mark_brought.ensures, w.number-is) | else-words-ne0 w ↦ inr (w.marks-is, w.number-is) ]),
      ),
      elim c.if-words-ne0.branch [ then-words-ne0 w ↦ ap (λ (ws : List ℕ). length ws) w.list-is ∙ w.mark_brought.auto.list ∙ loop.invariant.1 | else-words-ne0 w ↦ ap (λ (ws : List ℕ). length ws) w.list-is ∙ loop.invariant.1 ],
    )

pub shape_of-list : goal.shape_of-list
shape_of-list c = c.loop-slot.invariant.1 ∙ sym c.requires.list_len

pub shape_of-marks : goal.shape_of-marks
shape_of-marks c = c.loop-slot.invariant.0.1.long ∙ sym (ap (λ (ws : List ℕ). length ws) c.requires.marks_value ∙ length_tabulate _ _)

pub returns : goal.returns
returns c =
    let S = c in
    let loop = c.loop-slot in
    brings.keep_done (plan_of S.args.table.now.layout.sizes.route S.args.table.now.layout.nest) S.args.b
    (sound S.args.table.now.layout.sizes.route S.args.table.now.layout.nest S.args.table.now.layout.sized.accepted) loop.marks loop.number loop.invariant.0.1
    (pass.past_all S.args.table.now.layout.sizes.route S.args.table.now.layout.nest S.args.table.now.lens.now _ loop.slot loop.number loop.offset loop.invariant.0.0 (rows.slotted c.args.table.now.layout.nest c.args.table.now.layout.sizes c.args.table.now.layout.sized c.args.table.now.lens.now c.args.table.now.tabled c.tiles_of.result c.tiles_of.ensures.0)
    c.loop-slot-test.false)
