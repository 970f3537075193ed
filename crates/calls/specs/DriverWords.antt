-- For contracts below the calls: no reader needs it.
-- The words of the records after the driver by rounds, by what it kept of them. No sentence of the papers.
use Rattle.std.specs.Prelude.{ℕ, List, length, take, ◌==◌}
use Rattle.base.specs.Tests.{pick}

-- after a driver that gave this number and kept these words of them
unfoldable pub words_after : List ℕ → ℕ → List ℕ → List ℕ
words_after records number kept = pick (number == 0) (take (length records) kept) records
