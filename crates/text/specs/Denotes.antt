-- Read this. What a decimal is: digits alone, at least one, no zero before others, and they denote the number; nothing else is its decimal.
-- Renders document 02, W-211, "values in decimal without leading zeros", and the plan printer's numbers of document 01.
use Rattle.std.specs.Prelude.{ℕ, suc, ◌+◌, ◌*◌, ◌-◌, ◌≤◌, ◌≡◌, ◌≢◌, List, [], ◌∷◌, length, get_or, pos, negsuc}
use Rattle.base.specs.Lists.{In}
use Rattle.text.specs.Decimal.{decimal, signed}

-- the number that digits denote behind those that denote a: ten times a, and the digit's number
unfoldable pub denotes : ℕ → List ℕ → ℕ
denotes a [] = a
denotes a (b ∷ bs) = denotes (a * 10 + (b - 48)) bs

-- the bytes bs are n in decimal; "0" is 48, "9" is 57
pub record IsDecimal (n : ℕ) (bs : List ℕ) : Type 0 where
  pub digits : (b : ℕ) → In b bs → (48 ≤ b) × (b ≤ 57)
  pub some : 1 ≤ length bs
  pub no_leading_zero : 2 ≤ length bs → get_or bs 0 0 ≢ 48
  pub number : denotes 0 bs ≡ n

pub record Decimals : Type 0 where
  pub decimal_is : (n : ℕ) → IsDecimal n (decimal n)
  pub only : (n : ℕ) (bs : List ℕ) → IsDecimal n bs → bs ≡ decimal n
  -- of a number below 0 a minus sign, 45, and then the decimal of the number without its sign: negsuc n is -(n + 1)
  pub signed_pos : (n : ℕ) → signed (pos n) ≡ decimal n
  pub signed_neg : (n : ℕ) → signed (negsuc n) ≡ 45 ∷ decimal (suc n)

-- "0", "7", "10", "305", "4294967295", computed
pub record DecimalExamples : Type 0 where
  pub zero : decimal 0 ≡ 48 ∷ []
  pub seven : decimal 7 ≡ 55 ∷ []
  pub ten : decimal 10 ≡ 49 ∷ 48 ∷ []
  pub hundreds : decimal 305 ≡ 51 ∷ 48 ∷ 53 ∷ []
  pub most : decimal 4294967295 ≡ 52 ∷ 50 ∷ 57 ∷ 52 ∷ 57 ∷ 54 ∷ 55 ∷ 50 ∷ 57 ∷ 53 ∷ []
