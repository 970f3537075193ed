-- `fill_ranks` meets its contract: the slots passed.
use native.Mathlib.Omega.{arith}
use mathlib.Core.Path.{ap}
use Prim.Native.Nat.{ℕ, ◌*◌}
use mathlib.Core.Logic.{inl, inr}
use Rattle.plan.specs.Shaped.{plan_of}
use Rattle.tables.proofs.Slotted as rows
use Rattle.part.proofs.Slots as pass
use Rattle.part.proofs.Handling as handling
use Rattle.part.proofs.fill_ranks.Goals as goal
use Rattle.part.proofs.fill_ranks.Goals.{then-words-ne0, else-words-ne0}

pub overflow_mul-slots : goal.overflow_mul-slots
overflow_mul-slots c =
    omega (
      arith,
      (rows.slotted c.args.table.now.layout.nest c.args.table.now.layout.sizes c.args.table.now.layout.sized c.args.table.now.lens.now c.args.table.now.tabled c.tiles_of.result c.tiles_of.ensures.0).sheet.few,
    )

pub loop-slot-init : goal.loop-slot-init
loop-slot-init c = (
  pass.past_start c.args.table.now.lens.now (c.tiles_of.result * c.args.table.now.layout.sizes.ways),
  handling.rank_start (plan_of c.args.table.now.layout.sizes.route c.args.table.now.layout.nest) c.args.b c.args.ordinals.now c.args.starts.now c.requires.ordinals_len.0
      c.requires.ordinals_len.1,
)

pub offset_bounds-table-slot : goal.offset_bounds-table-slot
offset_bounds-table-slot c =
    let test = c.loop-slot-test.true in
    omega (
      arith,
      test,
      (rows.slotted c.args.table.now.layout.nest c.args.table.now.layout.sizes c.args.table.now.layout.sized c.args.table.now.lens.now c.args.table.now.tabled c.tiles_of.result c.tiles_of.ensures.0).sheet.few,
      (rows.slotted c.args.table.now.layout.nest c.args.table.now.layout.sizes c.args.table.now.layout.sized c.args.table.now.lens.now c.args.table.now.tabled c.tiles_of.result c.tiles_of.ensures.0).sheet.long,
    )

pub bounds-table-slot : goal.bounds-table-slot
bounds-table-slot c =
    let test = c.loop-slot-test.true in
    omega (
      arith,
      test,
      (rows.slotted c.args.table.now.layout.nest c.args.table.now.layout.sizes c.args.table.now.layout.sized c.args.table.now.lens.now c.args.table.now.tabled c.tiles_of.result c.tiles_of.ensures.0).sheet.few,
      (rows.slotted c.args.table.now.layout.nest c.args.table.now.layout.sizes c.args.table.now.layout.sized c.args.table.now.lens.now c.args.table.now.tabled c.tiles_of.result c.tiles_of.ensures.0).sheet.long,
    )

pub offset_bounds-ordinals-number : goal.offset_bounds-ordinals-number
offset_bounds-ordinals-number c =
    let loop = c.loop-slot in
    let test = c.loop-slot-test.true in
    omega (
      arith,
      test,
      loop.invariant.0.few,
      (rows.slotted c.args.table.now.layout.nest c.args.table.now.layout.sizes c.args.table.now.layout.sized c.args.table.now.lens.now c.args.table.now.tabled c.tiles_of.result c.tiles_of.ensures.0).sheet.few,
    )

pub bounds-ordinals-number : goal.bounds-ordinals-number
bounds-ordinals-number c =
    let loop = c.loop-slot in
    let test = c.loop-slot-test.true in
    omega (
      arith,
      test,
      loop.invariant.0.few,
      (rows.slotted c.args.table.now.layout.nest c.args.table.now.layout.sizes c.args.table.now.layout.sized c.args.table.now.lens.now c.args.table.now.tabled c.tiles_of.result c.tiles_of.ensures.0).sheet.few,
    )

pub offset_bounds-starts-number : goal.offset_bounds-starts-number
offset_bounds-starts-number c =
    let loop = c.loop-slot in
    let test = c.loop-slot-test.true in
    omega (
      arith,
      test,
      loop.invariant.0.few,
      (rows.slotted c.args.table.now.layout.nest c.args.table.now.layout.sizes c.args.table.now.layout.sized c.args.table.now.lens.now c.args.table.now.tabled c.tiles_of.result c.tiles_of.ensures.0).sheet.few,
    )

pub bounds-starts-number : goal.bounds-starts-number
bounds-starts-number c =
    let loop = c.loop-slot in
    let test = c.loop-slot-test.true in
    omega (
      arith,
      test,
      loop.invariant.0.few,
      (rows.slotted c.args.table.now.layout.nest c.args.table.now.layout.sizes c.args.table.now.layout.sized c.args.table.now.lens.now c.args.table.now.tabled c.tiles_of.result c.tiles_of.ensures.0).sheet.few,
    )

pub bounds-sides-slot : goal.bounds-sides-slot
bounds-sides-slot c =
    let S = c in
    let test = c.loop-slot-test.true in
    omega (
      arith,
      test,
      (rows.slotted c.args.table.now.layout.nest c.args.table.now.layout.sizes c.args.table.now.layout.sized c.args.table.now.lens.now c.args.table.now.tabled c.tiles_of.result c.tiles_of.ensures.0).sheet.few,
      S.requires.sides_len.0,
    )

pub handled_one-own-requires : goal.handled_one-own-requires
handled_one-own-requires c =
    let S = c in
    let loop = c.loop-slot in
    let test = c.loop-slot-test.true in
    let words = c.from-words in
    let here = pass.here S.args.table.now.layout.sizes.route S.args.table.now.layout.nest S.args.table.now.lens.now _ loop.slot loop.number loop.offset loop.invariant.0 (rows.slotted c.args.table.now.layout.nest c.args.table.now.layout.sizes c.args.table.now.layout.sized c.args.table.now.lens.now c.args.table.now.tabled c.tiles_of.result c.tiles_of.ensures.0)
    test words.result words.ensures in record { routed = c.args.table.now.tabled.routed; sized = here c.if-words-ne0.true; side_value = S.requires.sides_len.1.each loop.slot (omega (arith, test, ap (λ (i : ℕ). i * S.args.table.now.layout.sizes.ways) c.tiles_of.ensures.0)) }

pub overflow_add-number : goal.overflow_add-number
overflow_add-number c =
    let loop = c.loop-slot in
    let test = c.loop-slot-test.true in
    omega (
      arith,
      test,
      loop.invariant.0.few,
      (rows.slotted c.args.table.now.layout.nest c.args.table.now.layout.sizes c.args.table.now.layout.sized c.args.table.now.lens.now c.args.table.now.tabled c.tiles_of.result c.tiles_of.ensures.0).sheet.few,
    )

pub overflow_add-rank : goal.overflow_add-rank
overflow_add-rank c =
    let S = c in
    let loop = c.loop-slot in
    let test = c.loop-slot-test.true in
    omega (
      arith,
      test,
      loop.invariant.0.few,
      (rows.slotted c.args.table.now.layout.nest c.args.table.now.layout.sizes c.args.table.now.layout.sized c.args.table.now.lens.now c.args.table.now.tabled c.tiles_of.result c.tiles_of.ensures.0).sheet.few,
      handling.few (plan_of S.args.table.now.layout.sizes.route S.args.table.now.layout.nest) S.args.b loop.ordinals loop.starts loop.number loop.offset
          loop.rank loop.at loop.invariant.1,
      handling.at_most _ c.handled_one-own.result c.handled_one-own.ensures,
    )

pub overflow_cast-at : goal.overflow_cast-at
overflow_cast-at c =
    let S = c in
    let loop = c.loop-slot in
    let test = c.loop-slot-test.true in
    let words = c.from-words in
    let short = pass.short S.args.table.now.layout.sizes.route S.args.table.now.layout.nest S.args.table.now.lens.now _ loop.slot loop.number loop.offset loop.invariant.0 (rows.slotted c.args.table.now.layout.nest c.args.table.now.layout.sizes c.args.table.now.layout.sized c.args.table.now.lens.now c.args.table.now.tabled c.tiles_of.result c.tiles_of.ensures.0)
    test words.result words.ensures in
    omega (arith, short)

pub overflow_mul-at : goal.overflow_mul-at
overflow_mul-at c =
    let S = c in
    let loop = c.loop-slot in
    let test = c.loop-slot-test.true in
    let words = c.from-words in
    let short = pass.short S.args.table.now.layout.sizes.route S.args.table.now.layout.nest S.args.table.now.lens.now _ loop.slot loop.number loop.offset loop.invariant.0 (rows.slotted c.args.table.now.layout.nest c.args.table.now.layout.sizes c.args.table.now.layout.sized c.args.table.now.lens.now c.args.table.now.tabled c.tiles_of.result c.tiles_of.ensures.0)
    test words.result words.ensures in
    let own = handling.at_most_words _ c.handled_one-own.result words.result c.handled_one-own.ensures in
    omega (arith, short, own)

pub overflow_add-at : goal.overflow_add-at
overflow_add-at c =
    let S = c in
    let loop = c.loop-slot in
    let test = c.loop-slot-test.true in
    let words = c.from-words in
    let short = pass.short S.args.table.now.layout.sizes.route S.args.table.now.layout.nest S.args.table.now.lens.now _ loop.slot loop.number loop.offset loop.invariant.0 (rows.slotted c.args.table.now.layout.nest c.args.table.now.layout.sizes c.args.table.now.layout.sized c.args.table.now.lens.now c.args.table.now.tabled c.tiles_of.result c.tiles_of.ensures.0)
    test words.result words.ensures in
    let own = handling.at_most_words _ c.handled_one-own.result words.result c.handled_one-own.ensures in
    omega (
      arith,
      short,
      own,
      loop.invariant.1.small,
      loop.invariant.0.small,
      test,
      (rows.slotted c.args.table.now.layout.nest c.args.table.now.layout.sizes c.args.table.now.layout.sized c.args.table.now.lens.now c.args.table.now.tabled c.tiles_of.result c.tiles_of.ensures.0).sheet.few,
    )

pub overflow_add-offset : goal.overflow_add-offset
overflow_add-offset c =
    let S = c in
    let loop = c.loop-slot in
    let test = c.loop-slot-test.true in
    let words = c.from-words in
    let short = pass.short S.args.table.now.layout.sizes.route S.args.table.now.layout.nest S.args.table.now.lens.now _ loop.slot loop.number loop.offset loop.invariant.0 (rows.slotted c.args.table.now.layout.nest c.args.table.now.layout.sizes c.args.table.now.layout.sized c.args.table.now.lens.now c.args.table.now.tabled c.tiles_of.result c.tiles_of.ensures.0)
    test words.result words.ensures in
    omega (
      arith,
      short,
      loop.invariant.0.small,
      test,
      (rows.slotted c.args.table.now.layout.nest c.args.table.now.layout.sizes c.args.table.now.layout.sized c.args.table.now.lens.now c.args.table.now.tabled c.tiles_of.result c.tiles_of.ensures.0).sheet.few,
    )

pub loop-slot-preserved : goal.loop-slot-preserved
loop-slot-preserved c =
    let S = c in
    let loop = c.loop-slot in
    let test = c.loop-slot-test.true in
    let words = c.from-words in
    let here = pass.here S.args.table.now.layout.sizes.route S.args.table.now.layout.nest S.args.table.now.lens.now _ loop.slot loop.number loop.offset loop.invariant.0 (rows.slotted c.args.table.now.layout.nest c.args.table.now.layout.sizes c.args.table.now.layout.sized c.args.table.now.lens.now c.args.table.now.tabled c.tiles_of.result c.tiles_of.ensures.0)
    test words.result words.ensures in (
      pass.past_next S.args.table.now.layout.sizes.route S.args.table.now.layout.nest S.args.table.now.lens.now _ loop.slot loop.number loop.offset loop.invariant.0 (rows.slotted c.args.table.now.layout.nest c.args.table.now.layout.sizes c.args.table.now.layout.sized c.args.table.now.lens.now c.args.table.now.tabled c.tiles_of.result c.tiles_of.ensures.0)
          test words.result words.ensures c.if-words-ne0.number
          (elim c.if-words-ne0.branch [ then-words-ne0 w ↦ inl (w.if-words-ne0.true, w.number-is) | else-words-ne0 w ↦ inr (w.if-words-ne0.false, w.number-is) ]),
      handling.rank_turn (plan_of S.args.table.now.layout.sizes.route S.args.table.now.layout.nest) S.args.b loop.ordinals loop.starts loop.number loop.offset
          loop.rank loop.at loop.invariant.1
          words.result c.if-words-ne0.number c.if-words-ne0.rank c.if-words-ne0.at (omega (
            arith,
            test,
            loop.invariant.0.few,
            (rows.slotted c.args.table.now.layout.nest c.args.table.now.layout.sizes c.args.table.now.layout.sized c.args.table.now.lens.now c.args.table.now.tabled c.tiles_of.result c.tiles_of.ensures.0).sheet.few,
          ))
          (elim c.if-words-ne0.branch [ then-words-ne0 w ↦ inl (w.handled_one-own.result, w.handled_one-own.ensures, (here w.if-words-ne0.true).words, w.number-is, w.rank-is, w.at-is) | else-words-ne0 w ↦ inr (w.number-is, w.rank-is, w.at-is) ]),
    )

pub offset_bounds-ordinals-number-2 : goal.offset_bounds-ordinals-number-2
offset_bounds-ordinals-number-2 c =
    let loop = c.loop-slot in
    omega (
      arith,
      loop.invariant.0.few,
      loop.invariant.0.low,
      (rows.slotted c.args.table.now.layout.nest c.args.table.now.layout.sizes c.args.table.now.layout.sized c.args.table.now.lens.now c.args.table.now.tabled c.tiles_of.result c.tiles_of.ensures.0).sheet.few,
    )

pub bounds-ordinals-number-2 : goal.bounds-ordinals-number-2
bounds-ordinals-number-2 c =
    let loop = c.loop-slot in
    omega (
      arith,
      loop.invariant.0.few,
      loop.invariant.0.low,
      (rows.slotted c.args.table.now.layout.nest c.args.table.now.layout.sizes c.args.table.now.layout.sized c.args.table.now.lens.now c.args.table.now.tabled c.tiles_of.result c.tiles_of.ensures.0).sheet.few,
    )

pub offset_bounds-starts-number-2 : goal.offset_bounds-starts-number-2
offset_bounds-starts-number-2 c =
    let loop = c.loop-slot in
    omega (
      arith,
      loop.invariant.0.few,
      loop.invariant.0.low,
      (rows.slotted c.args.table.now.layout.nest c.args.table.now.layout.sizes c.args.table.now.layout.sized c.args.table.now.lens.now c.args.table.now.tabled c.tiles_of.result c.tiles_of.ensures.0).sheet.few,
    )

pub bounds-starts-number-2 : goal.bounds-starts-number-2
bounds-starts-number-2 c =
    let loop = c.loop-slot in
    omega (
      arith,
      loop.invariant.0.few,
      loop.invariant.0.low,
      (rows.slotted c.args.table.now.layout.nest c.args.table.now.layout.sizes c.args.table.now.layout.sized c.args.table.now.lens.now c.args.table.now.tabled c.tiles_of.result c.tiles_of.ensures.0).sheet.few,
    )

pub returns : goal.returns
returns c =
    let S = c in
    let loop = c.loop-slot in
    let all = pass.past_all S.args.table.now.layout.sizes.route S.args.table.now.layout.nest S.args.table.now.lens.now _ loop.slot loop.number loop.offset loop.invariant.0 (rows.slotted c.args.table.now.layout.nest c.args.table.now.layout.sizes c.args.table.now.layout.sized c.args.table.now.lens.now c.args.table.now.tabled c.tiles_of.result c.tiles_of.ensures.0)
    c.loop-slot-test.false in
    λ m h. handling.told (plan_of S.args.table.now.layout.sizes.route S.args.table.now.layout.nest) S.args.b loop.ordinals loop.starts loop.number loop.offset
    loop.rank loop.at loop.invariant.1
    (omega (
      arith,
      loop.invariant.0.few,
      loop.invariant.0.low,
      (rows.slotted c.args.table.now.layout.nest c.args.table.now.layout.sizes c.args.table.now.layout.sized c.args.table.now.lens.now c.args.table.now.tabled c.tiles_of.result c.tiles_of.ensures.0).sheet.few,
    )) m (omega (arith, h, all))
