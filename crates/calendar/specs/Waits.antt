-- For contracts below the calls: no reader needs it.
-- What parts of the search for the next opening promise: the wait of one window.
-- No sentence of a request; proofs/ ties them to Hours.
use Rattle.std.specs.Prelude.{ℕ, ◌≤◌, ◌<◌, ◌≡◌, ◌≢◌, Bool, true, false}
use Rattle.calendar.specs.Windows.{week}

-- a pair that is no faulty window
pub record Fair (opens closes : ℕ) : Type 0 where
  pub most : closes ≤ week
  pub order : closes ≢ 0 → opens < closes
  pub none : closes ≡ 0 → opens ≡ 0

-- v is the first offset within a week at which f holds, or a whole week where there is none
pub record First (f : ℕ → Bool) (v : ℕ) : Type 0 where
  pub most : v ≤ week
  pub before : (n : ℕ) → n < v → f n ≡ false
  pub holds : v < week → f v ≡ true
