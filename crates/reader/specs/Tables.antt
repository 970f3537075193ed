-- For contracts below the calls: no reader needs it.
-- A table made one number at a time. No sentence of document 01.
use Rattle.std.specs.Prelude.{ℕ, ◌≤◌, ◌<◌, ◌≡◌, List, length, slice_index_or}

-- the first n each as it was made, behind them `none`
pub record IsTable {A : Type 0} (Made : ℕ → A → Type 0) (none : A) (size n : ℕ) (table : List A) : Type 0 where
  pub long : length table ≡ size
  pub front : (i : ℕ) → i < n → Made i (slice_index_or table i none)
  pub back : (i : ℕ) → n ≤ i → slice_index_or table i none ≡ none
