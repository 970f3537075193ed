use Rattle.sharing.proofs.Tests as tests
use Rattle.sharing.proofs.inner.word_for.Goals as goal

pub returns-then-stage-eq0 : goal.returns-then-stage-eq0
returns-then-stage-eq0 c = tests.word_free _ _ c.if-stage-eq0.true

pub returns-else-stage-eq0 : goal.returns-else-stage-eq0
returns-else-stage-eq0 c = tests.word_held _ _ c.if-stage-eq0.false
