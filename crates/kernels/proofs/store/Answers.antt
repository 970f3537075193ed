-- `kernels::store` meets its contract: the sum of the first k taps.
use mathlib.Core.Path.{ap}
use native.Mathlib.Omega.{arith}
use lib.ListN.{set}
use Rattle.kernels.proofs.Sums.{summing_none, summing_more, summing_end}
use Rattle.kernels.proofs.store.Goals as goal

pub word_of-requires : goal.word_of-requires
word_of-requires g c = (omega (arith, c.requires.within, c.requires.same), omega (arith, c.requires.small, c.requires.same))

pub overflow_add-total : goal.overflow_add-total
overflow_add-total g c = omega (arith, c.requires.besides, c.word_of.ensures.1)

pub loop-k-init : goal.loop-k-init
loop-k-init g c = summing_none _ _ _ _ 0 c.args.source.now c.args.memory.now _ _ c.requires.besides c.word_of.ensures

pub tap_at-tap-requires : goal.tap_at-tap-requires
tap_at-tap-requires g c = omega (arith, c.requires.few, c.loop-k-test.true)

pub with_tap-total-requires : goal.with_tap-total-requires
with_tap-total-requires g c =
    let l = c.loop-k in (
      omega (arith, l.invariant.few, l.invariant.low, c.requires.few),
      (
        omega (
          arith,
          c.tap_at-tap.ensures.1 (c.requires.light _ c.loop-k-test.true),
          c.requires.light _ c.loop-k-test.true,
        ),
        (omega (arith, c.tap_at-tap.ensures.0, c.requires.back _ c.loop-k-test.true), (omega (arith, c.requires.within), c.requires.small)),
      ),
    )

pub loop-k-smaller : goal.loop-k-smaller
loop-k-smaller g c = omega (arith, c.loop-k-test.true)

pub loop-k-preserved : goal.loop-k-preserved
loop-k-preserved g c =
    summing_more _ _ _ _ 0 _ _ _ _ _ c.loop-k.invariant c.loop-k-test.true _ _ _
    c.tap_at-tap.ensures.0 (c.tap_at-tap.ensures.1 (c.requires.light _ c.loop-k-test.true))
    c.with_tap-total.ensures

pub closed-requires : goal.closed-requires
closed-requires g c = c.requires.divides

pub offset_bounds-memory-c : goal.offset_bounds-memory-c
offset_bounds-memory-c g c = omega (arith, c.requires.within, c.requires.small)

pub bounds-memory-c : goal.bounds-memory-c
bounds-memory-c g c = omega (arith, c.requires.within)

pub returns : goal.returns
returns g c =
    ap (set c.args.memory.now c.args.c) (summing_end _ _ _ _ _ _ _ _ _ _ c.loop-k.invariant c.loop-k-test.false _
    c.closed.ensures)
