-- For contracts below the calls: no reader needs it.
-- Words made of taps: so many words of a memory, each a fixed way back from the cell, weighed and summed; the order of four rows side by side.
-- No sentence of document 01; crates/values ties it to Geometry.
use Rattle.std.specs.Prelude.{ℕ, zero, suc, ◌+◌, ◌*◌, ◌-◌, ◌/◌, ◌%◌, ◌^◌, ◌≤◌, ◌<◌, ◌≡◌, ◌⊎◌, List, [], ◌∷◌, ◌++◌, length, get_or, eqb, leb}
use Rattle.base.specs.Tests.{pick, sum}
use Rattle.kernels.specs.declared.Tap.{Tap}
use Rattle.kernels.specs.declared.Rule.{Rule}
use Rattle.kernels.specs.declared.Column.{Column}

-- the word of cell c: what is added besides, the source's word and n taps, divided by 2 to the shift, modulo 2^32
unfoldable pub made : ℕ → List ℕ → List ℕ → ℕ → ℕ → List ℕ → List ℕ → ℕ → ℕ
made n backs weights outside shift source memory c =
    (outside + get_or source c 0 + sum (λ k. get_or weights k 0 * get_or memory (c - get_or backs k 0) 0) n) / 2 ^ shift % 4294967296

-- the word of cell c, whose last component is a, where tap k reads only from component `first` on: before that it gives the boundary's word
unfoldable pub mixed : ℕ → List ℕ → List ℕ → List ℕ → ℕ → ℕ → List ℕ → ℕ → List ℕ → ℕ → ℕ
mixed n firsts backs weights boundary shift source a memory c =
    (get_or source c 0 + sum (λ k. get_or weights k 0 * pick (leb (get_or firsts k 0) a) (get_or memory (c - get_or backs k 0) 0) boundary) n) / 2 ^ shift % 4294967296

-- the same along a row, whose cell c₀ has component a
abbrev pub in_line : ℕ → List ℕ → List ℕ → List ℕ → ℕ → ℕ → List ℕ → ℕ → ℕ → List ℕ → ℕ → ℕ
in_line n firsts backs weights boundary shift source c₀ a memory c = mixed n firsts backs weights boundary shift source (a + (c - c₀)) memory c

-- the cells of four rows side by side, n of each; those of a row stand t after those of the row before
unfoldable pub wave_of : ℕ → ℕ → ℕ → List ℕ
wave_of a t zero = []
wave_of a t (suc n) = wave_of a t n ++ ((a + n) ∷ (a + n + t) ∷ (a + n + t + t) ∷ (a + n + t + t + t) ∷ [])

-- the words of the cells from c on, `span` of them, can be made of n taps: each tap reads there, and no sum is too large
pub record Fits (n : ℕ) (backs weights : List ℕ) (outside shift c span sources words : ℕ) : Type 0 where
  pub few : n ≤ 8
  pub back : (k : ℕ) → k < n → get_or backs k 0 ≤ c
  pub light : (k : ℕ) → k < n → get_or weights k 0 < 65536
  pub besides : outside ≤ 2251765453422600
  pub divides : shift < 64
  pub within : c + span ≤ words
  pub same : sources ≡ words
  pub small : words ≤ 16384

-- the same where taps may read the boundary's word: from cell c on, whose component is a
pub record Mixes (n : ℕ) (firsts backs weights : List ℕ) (boundary shift c a span sources words : ℕ) : Type 0 where
  pub few : n ≤ 8
  pub back : (k y : ℕ) → k < n → y < span → get_or firsts k 0 ≤ a + y → get_or backs k 0 ≤ c + y
  pub light : (k : ℕ) → k < n → get_or weights k 0 < 65536
  pub beyond : boundary < 4294967296
  pub divides : shift < 64
  pub within : c + span ≤ words
  pub same : sources ≡ words
  pub small : words ≤ 16384
  pub narrow : a + span ≤ 1024

-- all taps read from component `from` on
abbrev pub All : ℕ → List ℕ → ℕ → Type 0
All n firsts from = (k : ℕ) → k < n → get_or firsts k 0 ≤ from

-- or nowhere
abbrev pub AllOrNone : ℕ → List ℕ → ℕ → Type 0
AllOrNone n firsts from = (k : ℕ) → k < n → (get_or firsts k 0 ≤ from) ⊎ (get_or firsts k 0 ≡ 1024)

abbrev pub Light : ℕ → List ℕ → Type 0
Light n weights = (k : ℕ) → k < n → get_or weights k 0 < 65536

-- taps that read nowhere weigh nothing; what they add is besides
pub record Rested (n : ℕ) (firsts backs weights : List ℕ) (boundary : ℕ) (left_backs left_weights : List ℕ) (outside : ℕ) : Type 0 where
  pub back : (k : ℕ) → k < n → get_or left_backs k 0 ≡ pick (eqb (get_or firsts k 0) 1024) 0 (get_or backs k 0)
  pub weight : (k : ℕ) → k < n → get_or left_weights k 0 ≡ pick (eqb (get_or firsts k 0) 1024) 0 (get_or weights k 0)
  pub few : outside ≤ n * 281470681677825
  pub is : outside ≡ sum (λ k. (get_or weights k 0 - pick (eqb (get_or firsts k 0) 1024) 0 (get_or weights k 0)) * boundary) n

-- the same of taps one by one
abbrev pub backs_of : List Tap → List ℕ
backs_of [] = []
backs_of (t ∷ ts) = t.back ∷ backs_of ts

abbrev pub weights_of : List Tap → List ℕ
weights_of [] = []
weights_of (t ∷ ts) = t.weight ∷ weights_of ts

abbrev pub count_of : List Tap → ℕ
count_of [] = 0
count_of (t ∷ ts) = suc (count_of ts)

abbrev pub made_by : Rule → List Tap → List ℕ → List ℕ → ℕ → ℕ
made_by r ts source memory c = made (count_of ts) (backs_of ts) (weights_of ts) r.outside r.shift source memory c

abbrev pub FitsBy : Rule → List Tap → ℕ → ℕ → List ℕ → List ℕ → Type 0
FitsBy r ts c span source memory = Fits (count_of ts) (backs_of ts) (weights_of ts) r.outside r.shift c span (length source) (length memory)

-- v is word c of a memory
abbrev pub Word : List ℕ → ℕ → ℕ → Type 0
Word memory c v = (v ≡ get_or memory c 0) × (v < 4294967296)

-- the cells of a column of four rows side by side
abbrev pub column_of : ℕ → ℕ → List ℕ
column_of c t = c ∷ (c + t) ∷ (c + t + t) ∷ (c + t + t + t) ∷ []

-- and their words
pub record Stands (memory : List ℕ) (c t : ℕ) (k : Column) : Type 0 where
  pub one : Word memory c k.first
  pub two : Word memory (c + t) k.second
  pub three : Word memory (c + t + t) k.third
  pub four : Word memory (c + t + t + t) k.fourth
