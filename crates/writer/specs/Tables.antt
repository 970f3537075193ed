-- For contracts below the calls: no reader needs it.
-- A table made from a list, one number at a time. No sentence of document 02.
use Rattle.std.specs.Prelude.{ℕ, ◌≤◌, ◌<◌, ◌≡◌, List, length, get_or, slice_index_or}

-- in front each number as it was made from the list's, behind them `none`
pub record IsTable {A B : Type 0} (Made : A → B → Type 0) (l : List A) (none : B) (size : ℕ) (table : List B) : Type 0 where
  pub long : length table ≡ size
  pub front : (i : ℕ) (d : A) → i < length l → Made (slice_index_or l i d) (slice_index_or table i none)
  pub back : (i : ℕ) → length l ≤ i → slice_index_or table i none ≡ none

-- the numbers are what is made of the list's, each
pub record AreNumbers {A : Type 0} (Made : A → ℕ → Type 0) (l : List A) (numbers : List ℕ) : Type 0 where
  pub long : length numbers ≡ length l
  pub each : (i : ℕ) (d : A) (y : ℕ) → i < length l → Made (slice_index_or l i d) y → y ≡ get_or numbers i 0
