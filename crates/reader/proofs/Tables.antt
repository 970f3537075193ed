-- A table made one number at a time: one number more, and what a table of numbers then is.
use Prim.Native.Nat.{ℕ, ◌+◌, ◌≤◌, ◌<◌}
use mathlib.Core.Path.{◌≡◌, sym, ◌∙◌}
use mathlib.Core.List.{List}
use native.Mathlib.Omega.{arith}
use native.Mathlib.Decide.{ℕ_discrete, dec_lt}
use lib.ListN.{get_or, set, replicate, length-set, length-replicate, get_or-replicate, get_or-eq_default}
use lib.Seq.{ext_get_or, get_or-set_same, get_or-set_other}
use Rattle.nest.specs.Reader.{filled}
use Rattle.nest.proofs.Laws.{filled_length, filled_in, filled_out}
use Rattle.reader.specs.Tables.{IsTable}

module _ {A : Type 0} (Made : ℕ → A → Type 0) (none : A) (size : ℕ) where
  pub made_none : IsTable Made none size 0 (replicate size none)
  made_none =
      record { long = length-replicate {A = A} size none; front = λ i h. absurd (omega arith); back = λ i h. at i (dec_lt i size) }
    where
      at : (i : ℕ) → Dec (i < size) → get_or (replicate size none) i none ≡ none
      at i (yes h) = get_or-replicate size i none none h
      at i (no h) = get_or-eq_default (replicate size none) none {n = i} (omega (arith, length-replicate {A = A} size none))

  pub made_more : (table : List A) (n : ℕ) → IsTable Made none size n table → n < size → (a : A) → Made n a
      → IsTable Made none size (n + 1) (set table n a)
  made_more table n p h a m =
      record {
        long = length-set table n a ∙ p.long;
        front = λ i q. front i q (ℕ_discrete i n);
        back = λ i q. get_or-set_other table n i a none (λ z. omega arith) ∙ p.back i (omega arith);
      }
    where
      front : (i : ℕ) → i < n + 1 → Dec (i ≡ n) → Made i (get_or (set table n a) i none)
      front i q (yes z) = rw (z, get_or-set_same table n a none (omega (arith, p.long, h))) m
      front i q (no z) = rw (get_or-set_other table n i a none z) (p.front i (omega arith))

  pub made_end : (table : List A) (i n : ℕ) → i ≤ n → n ≤ i → IsTable Made none size i table → IsTable Made none size n table
  made_end table i n a b p = let z : i ≡ n = omega arith in rw z at p

-- of numbers
pub table_is : {Made : ℕ → ℕ → Type 0} {size n : ℕ} {t : List ℕ} → IsTable Made 0 size n t → n ≤ size → (f : ℕ → ℕ)
    → ((i y : ℕ) → i < n → Made i y → y ≡ f i) → t ≡ filled size n f
table_is {Made} {size} {n} {t} p fits f h =
    ext_get_or 0 t (filled size n f) (p.long ∙ sym (filled_length size f n)) (λ i q. at i (dec_lt i n))
  where
    at : (i : ℕ) → Dec (i < n) → get_or t i 0 ≡ get_or (filled size n f) i 0
    at i (yes q) = h i (get_or t i 0) q (p.front i q) ∙ sym (filled_in size f n i q fits)
    at i (no q) = p.back i (omega arith) ∙ sym (filled_out size f n i (omega arith))
