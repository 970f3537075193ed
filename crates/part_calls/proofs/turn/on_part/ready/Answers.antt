-- The messages left to look at decide.
use mathlib.Core.Path.{refl}
use native.Mathlib.Omega.{arith}
use Rattle.part_calls.proofs.turn.Working as working
use Rattle.part_calls.proofs.turn.on_part.ready.Goals as goal

pub count_at-n-requires : goal.count_at-n-requires
count_at-n-requires c = c.requires.planned

pub loop-j-init : goal.loop-j-init
loop-j-init c = record { low = omega arith; all = c.count_at-n.ensures.0; is = refl }

pub nth_at-place-requires : goal.nth_at-place-requires
nth_at-place-requires c =
    let count_at = c.count_at-n in
    record { sized = c.requires.planned; j_in_bounds = omega (arith, count_at.ensures.0, c.loop-j-test.true) }

pub offset_bounds-ordinals-number : goal.offset_bounds-ordinals-number
offset_bounds-ordinals-number c =
    let nth-at = c.nth_at-place in
    let loop-test = c.loop-j-test in
    let loop = c.loop-j in
    let A = c.args in
    omega (
      arith,
      working.number_low A.table.now.layout.sizes.route A.table.now.layout.nest A.tile loop.j nth-at.result (omega (arith, loop.invariant.all, loop-test.true))
          nth-at.ensures c.requires.ranked.few,
    )

pub bounds-ordinals-number : goal.bounds-ordinals-number
bounds-ordinals-number c =
    let nth-at = c.nth_at-place in
    let loop-test = c.loop-j-test in
    let loop = c.loop-j in
    let A = c.args in
    working.number_low A.table.now.layout.sizes.route A.table.now.layout.nest A.tile loop.j nth-at.result (omega (arith, loop.invariant.all, loop-test.true)) nth-at.ensures
    c.requires.ranked.few

pub bounds-marks-rank : goal.bounds-marks-rank
bounds-marks-rank c =
    let nth-at = c.nth_at-place in
    let loop-test = c.loop-j-test in
    let loop = c.loop-j in
    let A = c.args in
    working.rank_low A.table.now.layout.sizes.route A.table.now.layout.nest A.tile loop.j nth-at.result (omega (arith, loop.invariant.all, loop-test.true)) nth-at.ensures
    A.ordinals.now _ _ c.requires.ranked refl

pub returns-then-marks-rank-ne2 : goal.returns-then-marks-rank-ne2
returns-then-marks-rank-ne2 c =
    let nth-at = c.nth_at-place in
    let loop-test = c.loop-j-test in
    let loop = c.loop-j in
    let count_at = c.count_at-n in
    let A = c.args in
    working.look_no A.table.now.layout.sizes.route A.table.now.layout.nest A.tile A.ordinals.now A.marks.now count_at.result loop.j loop.invariant nth-at.result
    _ loop-test.true nth-at.ensures refl c.if-marks-rank-ne2.true

pub loop-j-preserved : goal.loop-j-preserved
loop-j-preserved c =
    let nth-at = c.nth_at-place in
    let loop-test = c.loop-j-test in
    let loop = c.loop-j in
    let count_at = c.count_at-n in
    let A = c.args in
    working.look_again A.table.now.layout.sizes.route A.table.now.layout.nest A.tile A.ordinals.now A.marks.now count_at.result loop.j loop.invariant nth-at.result
    _ loop-test.true nth-at.ensures refl c.if-marks-rank-ne2.false

pub returns : goal.returns
returns c =
    let loop = c.loop-j in
    let count_at = c.count_at-n in
    let A = c.args in
    working.look_done A.table.now.layout.sizes.route A.table.now.layout.nest A.tile A.ordinals.now A.marks.now count_at.result loop.j loop.invariant c.loop-j-test.false
