-- For contracts below the calls: no reader needs it.
-- What the code keeps of each cell while it goes through a file: survey number, day and depth of the record that counts so far.
-- No sentence of a request.
use Rattle.std.specs.Prelude.{ℕ, ◌+◌, ◌*◌, ◌≤◌, ◌<◌, ◌≡◌, List, length, get_or, set}
use Rattle.soundings.specs.Soundings.{day_of, survey_of, depth_of, Best, none, its, best_of, depth_or}

-- day and survey number in one: of two records the later one beats the other where its key is no less
unfoldable pub key_of : List ℕ → ℕ → ℕ
key_of file r = 4294967296 * day_of file r + survey_of file r

-- 0 where there is none, which every key is no less than
unfoldable pub best_key : List ℕ → Best → ℕ
best_key file none = 0
best_key file (its r) = key_of file r

-- three words a cell: survey number, day, depth
abbrev pub key_in : List ℕ → ℕ → ℕ
key_in best c = 4294967296 * get_or best (3 * c + 1) 0 + get_or best (3 * c) 0

abbrev pub depth_in : List ℕ → ℕ → ℕ
depth_in best c = get_or best (3 * c + 2) 0

pub record Zeros (best : List ℕ) : Type 0 where
  pub long : length best ≡ 49152
  pub each : (i : ℕ) → i < 49152 → get_or best i 0 ≡ 0

-- before the first record: as if a record with key 0 and the caller's value counted
pub record Blank (value size : ℕ) (best : List ℕ) : Type 0 where
  pub long : length best ≡ 49152
  pub key : (c : ℕ) → c < size → key_in best c ≡ 0
  pub depth : (c : ℕ) → c < size → depth_in best c ≡ value

-- after the file's first n records
pub record Sifted (file : List ℕ) (old : ℕ → ℕ) (size n : ℕ) (best : List ℕ) : Type 0 where
  pub long : length best ≡ 49152
  pub key : (c : ℕ) → c < size → key_in best c ≡ best_key file (best_of file c n)
  pub depth : (c : ℕ) → c < size → depth_in best c ≡ depth_or file (old c) (best_of file c n)

-- what taking note of record r of a cell leaves
pub record Noted (file : List ℕ) (r cell : ℕ) (best best' : List ℕ) : Type 0 where
  pub passed : key_of file r < key_in best cell → best' ≡ best
  pub taken : key_in best cell ≤ key_of file r
      → best' ≡ set (set (set best (3 * cell) (survey_of file r)) (3 * cell + 1) (day_of file r)) (3 * cell + 2) (depth_of file r)
