-- The rounds left from the state reached give what all the rounds give.
use native.Mathlib.Omega.{arith}
use mathlib.Core.Path.{◌≡◌}
use Prim.Native.Nat.{◌-◌, ◌+◌}
use Rattle.machine.specs.Machine.{state_of}
use Rattle.comparison.proofs.drive.Steps as laws
use Rattle.comparison.proofs.drive.drive.Goals as goal

pub loop-done-preserved : goal.loop-done-preserved
loop-done-preserved c =
    let A = c.args in
    let X = c.loop-done in
    let G = c.round in
    let less : A.steps - X._done - 1 ≡ A.steps - (X._done + 1) = omega arith in
    rw less at
    (laws.drive_next A.encoded.now A.source.now (state_of A.memories.now A.buffer.now A.progress.now A.status.now)
    A.order A.steps (A.steps - X._done) (state_of X.memories X.buffer X.progress X.status) _ G.result (omega (arith, c.loop-done-test.true))
    X.invariant G.ensures c.if-not-round.false)

pub returns-then-not-round : goal.returns-then-not-round
returns-then-not-round c =
    let A = c.args in
    let X = c.loop-done in
    let G = c.round in
    laws.drive_done A.encoded.now A.source.now (state_of A.memories.now A.buffer.now A.progress.now A.status.now) A.order
    A.steps _ (λ i. omega (arith, c.type_inv.encoded i)) (laws.drive_none A.encoded.now A.source.now
    (state_of A.memories.now A.buffer.now A.progress.now A.status.now) A.order A.steps (A.steps - X._done) (state_of X.memories X.buffer
    X.progress X.status) _ G.result (omega (arith, c.loop-done-test.true)) X.invariant G.ensures c.if-not-round.true)

pub returns-after-loop-done : goal.returns-after-loop-done
returns-after-loop-done c =
    let A = c.args in
    let X = c.loop-done in
    laws.drive_done A.encoded.now A.source.now (state_of A.memories.now A.buffer.now A.progress.now A.status.now) A.order
    A.steps _ (λ i. omega (arith, c.type_inv.encoded i)) (laws.drive_end A.encoded.now A.source.now
    (state_of A.memories.now A.buffer.now A.progress.now A.status.now) A.order A.steps (A.steps - X._done) (state_of X.memories X.buffer
    X.progress X.status) (omega (arith, c.loop-done-test.false)) X.invariant)
