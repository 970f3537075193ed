-- The words so far are the source's.
use native.Mathlib.Omega.{arith}
use Rattle.comparison.proofs.Laws as laws
use Rattle.comparison.proofs.fill_source.Goals as goal

pub loop-c-preserved : goal.loop-c-preserved
loop-c-preserved c =
    laws.source_next c.args.counting c.loop-c.source c.loop-c.c _
    (omega (arith, c.loop-c.auto.source, c.loop-c-test.true)) c.loop-c.invariant c.source_word.ensures

pub returns : goal.returns
returns c =
    laws.source_done c.args.counting c.loop-c.source c.args.source.now
    c.loop-c.c c.loop-c.auto.source (omega (arith, c.loop-c-test.false)) c.loop-c.invariant
