-- For contracts below the calls: no reader needs it.
-- What the code below the view gives: where a processor's part lies in memories of the given lengths.
-- No sentence of a paper.
use Rattle.std.specs.Prelude.{◌≡◌, ℕ, ◌+◌, ◌*◌, ◌<◌, ◌≤◌}
use Rattle.machine.specs.Plan.{Plan}
use Rattle.sharing.specs.declared.view.inner.Seen.{Seen}

-- processor b's part lies within memories of these lengths; where it begins and what it has fit in a word
pub record SeenAt (p : Plan) (first second b : ℕ) (r : Seen) : Type 0 where
  pub start : r.start ≡ b * p.cells
  pub words : r.words ≡ p.cells
  pub in_first : r.start + r.words ≤ first
  pub in_second : r.start + r.words ≤ second
  pub word : r.start + r.words < 4294967296
