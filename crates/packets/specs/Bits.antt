-- Read this.
-- The bits of a byte string in the order in which CRC-32 takes them, each byte's low bit first, and a change among neighbouring ones.
-- Renders "any change within 32 neighbouring bits" in specs/Laws.antt.
use Rattle.std.specs.Prelude.{ℕ, zero, suc, ◌/◌, ◌%◌, ◌≤◌, ◌≡◌, List, [], ◌∷◌, ◌++◌, length}

-- the n low bits of a number
unfoldable pub bits_of : ℕ → ℕ → List ℕ
bits_of zero x = []
bits_of (suc n) x = x % 2 ∷ bits_of n (x / 2)

unfoldable pub bits : List ℕ → List ℕ
bits [] = []
bits (b ∷ bs) = bits_of 8 b ++ bits bs

-- q differs from p, and only within 32 bits that follow each other
pub record Burst (p q : List ℕ) : Type 0 where
  pub before : List ℕ
  pub sent : List ℕ
  pub came : List ℕ
  pub after : List ℕ
  pub first : bits p ≡ before ++ (sent ++ after)
  pub second : bits q ≡ before ++ (came ++ after)
  pub long : length came ≡ length sent
  pub short : length sent ≤ 32
  pub other : sent ≡ came → ⊥

-- q differs from p in one byte
pub record ByteChange (p q : List ℕ) : Type 0 where
  pub before : List ℕ
  pub sent : ℕ
  pub came : ℕ
  pub after : List ℕ
  pub first : p ≡ before ++ (sent ∷ after)
  pub second : q ≡ before ++ (came ∷ after)
  pub other : sent ≡ came → ⊥
