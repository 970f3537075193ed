-- For contracts below the calls: no reader needs it.
-- Cells marked by bytes: the marked ones, the rank of a cell among them, a memory of all cells that has a word for each, and ranks counted by blocks.
-- No sentence of document 01: what stands for a processor's kept cells is told by one byte a cell.
use Rattle.std.specs.Prelude.{ℕ, ◌*◌, ◌≤◌, ◌≡◌, Bool, List, length, get_or, replicate, eqb}
use Rattle.base.specs.Tests.{keep}
use Rattle.base.specs.Lists.{unpack}

-- a mark says that its cell is kept
abbrev pub marked_at : List ℕ → ℕ → Bool
marked_at marks c = eqb (get_or marks c 0) 1

-- the marked cells, how many of them come before a cell, and a memory of all cells that has their words, and zeros else
abbrev pub marked_cells : List ℕ → List ℕ
marked_cells marks = keep (marked_at marks) (length marks)

abbrev pub rank_at : List ℕ → ℕ → ℕ
rank_at marks c = length (keep (marked_at marks) c)

abbrev pub spread_out : List ℕ → List ℕ → List ℕ
spread_out marks words = unpack (replicate (length marks) 0) (marked_cells marks) words

-- for each block of 64 cells how many are marked before it
pub record Counted (marks counts : List ℕ) : Type 0 where
  pub long : length counts ≡ 257
  pub at : (q : ℕ) → q * 64 ≤ length marks → get_or counts q 0 ≡ rank_at marks (q * 64)
