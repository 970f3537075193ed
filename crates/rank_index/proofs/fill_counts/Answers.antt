-- `fill_counts` meets its contract: the blocks passed.
use native.Mathlib.Omega.{arith}
use Prim.Native.Nat.{◌/◌}
use mathlib.Core.Path.{◌≡◌}
use lib.ListN.{length}
use Rattle.rank_index.proofs.Blocks as laws
use Rattle.rank_index.proofs.fill_counts.Goals as goal

pub loop-q-init : goal.loop-q-init
loop-q-init c = laws.fill_start _ _ c.requires.1

pub overflow_add-n : goal.overflow_add-n
overflow_add-n c =
    let loop = c.loop-q in
    omega (
      arith,
      laws.count_small _ _ _ _ (laws.fill_next c.args.marks.now loop.counts loop.q loop.n loop.invariant c.requires.0 c.marks_in-n.result
          c.loop-q-test.true c.marks_in-n.ensures) c.requires.0,
    )

pub loop-q-preserved : goal.loop-q-preserved
loop-q-preserved c = laws.fill_next _ _ _ _ c.loop-q.invariant c.requires.0 _ c.loop-q-test.true c.marks_in-n.ensures

pub returns : goal.returns
returns c =
    let e : length c.args.marks.now / 64 ≡ c.loop-q.q = omega arith in
    rw e (laws.fill_done _ _ _ _ c.loop-q.invariant c.requires.0 (omega arith))
