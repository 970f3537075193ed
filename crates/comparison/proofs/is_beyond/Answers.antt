-- The two limits.
use mathlib.Core.Path.{◌∙◌}
use native.Mathlib.Omega.{arith}
use borrow.Author.Tests.{lt-ltb}
use Rattle.comparison.proofs.Laws as laws
use Rattle.comparison.proofs.is_beyond.Goals as goal

pub returns-then-cells-gt1024 : goal.returns-then-cells-gt1024
returns-then-cells-gt1024 c =
    let A = c.args in lt-ltb 1024 A.cells c.if-cells-gt1024.true ∙ laws.many_cells A.cells A.processors c.if-cells-gt1024.true

pub returns-else-cells-gt1024 : goal.returns-else-cells-gt1024
returns-else-cells-gt1024 c =
    let A = c.args in laws.many_words A.cells A.processors c.memory_words.result (omega (arith, c.if-cells-gt1024.false))
    c.memory_words.ensures
