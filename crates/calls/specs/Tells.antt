-- Read this.
-- What a call tells by value, a struct with its number: the first true line's number; what the call is asked for where that is 0; nothing else where
-- it is not. Renders document 01, "Numbers a call gives", and document 02, W-211: at a refusal all that is told beside the number is 0.
use Rattle.std.specs.Prelude.{◌≡◌, ℕ, ◌≢◌, List}
use Rattle.base.specs.Numbers.{Line, first_of}

-- number_of r is the number told; none n is the struct with number n and 0 in every other place
pub record Tells {A : Type 0} (number_of : A → ℕ) (lines : List Line) (done : A) (none : ℕ → A) (r : A) : Type 0 where
  pub first : number_of r ≡ first_of lines
  pub works : first_of lines ≡ 0 → r ≡ done
  pub refuses : first_of lines ≢ 0 → r ≡ none (first_of lines)
