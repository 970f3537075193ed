-- For contracts below the calls: no reader needs it.
-- Runs of a row: for each distance the last components from one number on, below another; the cells of a row in one of them, packed and unpacked.
-- No sentence of document 02.
use Rattle.std.specs.Prelude.{ℕ, zero, suc, ◌+◌, ◌-◌, ◌≤◌, ◌<◌, ◌≡◌, ◌⊎◌, Bool, true, false, List, [], ◌++◌, length, get_or, take, ltb, leb}
use Rattle.base.specs.Tests.{◌and◌, some, keep_if, tabulate}
use Rattle.base.specs.Lists.{sublist, pack, unpack}

-- a number from `low` on, below `high`
abbrev pub within : ℕ → ℕ → ℕ → Bool
within low high a = leb low a and ltb a high

-- the last component a lies in one of the first n runs
abbrev pub is_hit : List ℕ → List ℕ → ℕ → ℕ → Bool
is_hit starts ends n a = some (λ e. within (get_or starts e 0) (get_or ends e 0) a) n

-- of the w cells of a row, the first with number c and last component a, those that lie in one: each once, rising
unfoldable pub hit_row : List ℕ → List ℕ → ℕ → ℕ → ℕ → ℕ → List ℕ
hit_row starts ends n c a zero = []
hit_row starts ends n c a (suc y) = hit_row starts ends n c a y ++ keep_if (is_hit starts ends n (a + y)) (c + y)

-- the last components from a on, below b, are all hit, or none is
abbrev pub AllHit : List ℕ → List ℕ → ℕ → ℕ → ℕ → Type 0
AllHit starts ends n a b = (m : ℕ) → a ≤ m → m < b → is_hit starts ends n m ≡ true

abbrev pub NoneHit : List ℕ → List ℕ → ℕ → ℕ → ℕ → Type 0
NoneHit starts ends n a b = (m : ℕ) → a ≤ m → m < b → is_hit starts ends n m ≡ false

-- from a on, below b, the first n runs: those that have begun hit all up to `reach`, and if they hit none, none is hit up to `next`
pub record AheadIs (starts ends : List ℕ) (n a b reach next : ℕ) : Type 0 where
  pub begun : a ≤ reach
  pub later : a < next
  pub cut : next ≤ b
  pub all : AllHit starts ends n a reach
  pub none : reach ≤ a → NoneHit starts ends n a next

-- a piece of a row from a on, cut at b: of its cells `hits` are hit, all or none
pub record PieceIs (starts ends : List ℕ) (n a b end hits : ℕ) : Type 0 where
  pub some : a < end
  pub cut : end ≤ b
  pub alike : ((hits ≡ end - a) × AllHit starts ends n a end) ⊎ ((hits ≡ 0) × NoneHit starts ends n a end)

-- the n cells from c on
abbrev pub cells_from : ℕ → ℕ → List ℕ
cells_from c n = tabulate (λ y. c + y) n

-- lists so long have n words from `i` on and from `j` on
pub record Fits (to from i j n : ℕ) : Type 0 where
  pub inner : i + n ≤ to
  pub outer : j + n ≤ from
  pub short : (to ≤ 16384) × (from ≤ 16384)

-- the w cells of a row are a memory's, and those that are hit have a word each, from `packed` on
pub record Room (starts ends : List ℕ) (n c a w memory words packed : ℕ) : Type 0 where
  pub few : n ≤ 8
  pub low : c + w ≤ memory
  pub small : a + w ≤ 1024
  pub room : packed + length (hit_row starts ends n c a w) ≤ words
  pub short : (memory ≤ 16384) × (words ≤ 16384)

-- the first words as before, then those of the row's cells that are hit
pub record Packed (starts ends : List ℕ) (n c a w : ℕ) (memory words₀ : List ℕ) (packed : ℕ) (words : List ℕ) (count : ℕ) : Type 0 where
  pub long : length words ≡ length words₀
  pub count_is : count ≡ packed + length (hit_row starts ends n c a w)
  pub is : take count words ≡ take packed words₀ ++ pack memory (hit_row starts ends n c a w)

-- each of these words at its cell
pub record Unpacked (starts ends : List ℕ) (n c a w : ℕ) (memory₀ words : List ℕ) (unpacked : ℕ) (memory : List ℕ) (count : ℕ) : Type 0 where
  pub count_is : count ≡ unpacked + length (hit_row starts ends n c a w)
  pub is : memory ≡ unpack memory₀ (hit_row starts ends n c a w) (sublist words unpacked (length (hit_row starts ends n c a w)))
