-- A table made from a list: one number more, all of them, and what a table of numbers then is.
use Prim.Native.Nat.{ℕ, ◌+◌, ◌≤◌, ◌<◌}
use mathlib.Core.Path.{◌≡◌, refl, sym, subst, ◌∙◌}
use mathlib.Core.List.{List}
use native.Mathlib.Omega.{arith}
use native.Mathlib.Decide.{ℕ_discrete, dec_lt}
use lib.ListN.{length, get_or, set, replicate, length-set, length-replicate, get_or-replicate, get_or-eq_default}
use lib.Seq.{ext_get_or, get_or-set_same, get_or-set_other}
use Rattle.std.proofs.lemmas.List.{get_or_default}
use Rattle.nest.specs.Reader.{filled}
use Rattle.nest.proofs.Laws.{filled_length, filled_in, filled_out}
use Rattle.writer.specs.Tables.{IsTable, AreNumbers}

-- the first i of them are made
pub record Filling {A B : Type 0} (Made : A → B → Type 0) (l : List A) (none : B) (size : ℕ) (table : List B) (i : ℕ) : Type 0 where
  pub long : length table ≡ size
  pub front : (k : ℕ) (d : A) → k < i → Made (get_or l k d) (get_or table k none)
  pub back : (k : ℕ) → i ≤ k → get_or table k none ≡ none

module _ {A B : Type 0} (Made : A → B → Type 0) (l : List A) (none : B) (size : ℕ) where
  pub filling_none : Filling Made l none size (replicate size none) 0
  filling_none =
      record { long = length-replicate {A = B} size none; front = λ k d h. absurd (omega arith); back = λ k h. at k (dec_lt k size) }
    where
      at : (k : ℕ) → Dec (k < size) → get_or (replicate size none) k none ≡ none
      at k (yes h) = get_or-replicate size k none none h
      at k (no h) = get_or-eq_default (replicate size none) none {n = k} (omega (arith, length-replicate {A = B} size none))

  module _ (table : List B) (i : ℕ) (p : Filling Made l none size table i) where
    pub filling_more : i < length l → length l ≤ size → (a : A) → a ≡ get_or l i a → (b : B) → Made a b
        → Filling Made l none size (set table i b) (i + 1)
    filling_more h fits a e b m =
        record {
          long = length-set table i b ∙ p.long;
          front = λ k d q. front k d q (ℕ_discrete k i);
          back = λ k q. get_or-set_other table i k b none (λ z. omega arith) ∙ p.back k (omega arith);
        }
      where
        front : (k : ℕ) (d : A) → k < i + 1 → Dec (k ≡ i) → Made (get_or l k d) (get_or (set table i b) k none)
        front k d q (yes z) =
            rw (z, get_or-set_same table i b none (omega (arith, p.long, h, fits)))
            (subst (λ (v : A). Made v b) (e ∙ get_or_default l i a d h) m)
        front k d q (no z) =
            subst (λ (v : B). Made (get_or l k d) v) (sym (get_or-set_other table i k b none z)) (p.front k d (omega arith))

    pub filling_all : length l ≡ i → IsTable Made l none size table
    filling_all e =
        record { long = p.long; front = λ k d h. p.front k d (omega (arith, h, e)); back = λ k h. p.back k (omega (arith, h, e)) }

-- of numbers
pub table_is : {Made : ℕ → ℕ → Type 0} {l : List ℕ} {size : ℕ} {t : List ℕ} → IsTable Made l 0 size t → length l ≤ size → (f : ℕ → ℕ)
    → ((i y : ℕ) → i < length l → Made (get_or l i 0) y → y ≡ f i) → t ≡ filled size (length l) f
table_is {Made} {l} {size} {t} p fits f h =
    ext_get_or 0 t (filled size (length l) f) (p.long ∙ sym (filled_length size f (length l))) (λ i q. at i (dec_lt i (length l)))
  where
    at : (i : ℕ) → Dec (i < length l) → get_or t i 0 ≡ get_or (filled size (length l) f) i 0
    at i (yes q) = h i (get_or t i 0) q (p.front i 0 q) ∙ sym (filled_in size f (length l) i q fits)
    at i (no q) = p.back i (omega arith) ∙ sym (filled_out size f (length l) i (omega arith))

-- of numbers as they stand
pub as_they_stand : {Made : ℕ → ℕ → Type 0} (l : List ℕ) → ((x y : ℕ) → Made x y → y ≡ x) → AreNumbers Made l l
as_they_stand l h = record { long = refl; each = λ i d y q m. h (get_or l i d) y m ∙ get_or_default l i d 0 q }

pub number_at : {A : Type 0} {Made : A → ℕ → Type 0} {l : List A} {numbers : List ℕ} → AreNumbers Made l numbers → (i : ℕ) (v : A) (y : ℕ) → i < length l
    → v ≡ get_or l i v → Made v y → y ≡ get_or numbers i 0
number_at {A} {Made} p i v y h e m = p.each i v y h (subst (λ (x : A). Made x y) e m)
