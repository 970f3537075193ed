-- The words of a column as those of the next are stored.
use Prim.Native.Nat.{ℕ, ◌+◌, ◌-◌, ◌≤◌, ◌<◌}
use mathlib.Core.Path.{◌≡◌, sym, ap, ◌∙◌}
use mathlib.Core.Logic.{◌≢◌}
use mathlib.Core.List.{List}
use native.Mathlib.Numerals.{add-one}
use native.Mathlib.Omega.{arith}
use lib.ListN.{length, get_or, set}
use lib.Seq.{get_or-set_same, get_or-set_other}
use Rattle.base.specs.Lists.{store_all}
use Rattle.kernels.specs.declared.Column.{Column}
use Rattle.kernels.specs.Taps.{wave_of, column_of, Word, Stands}
use Rattle.kernels.proofs.Orders.{store_append}
use Rattle.kernels.proofs.Sums.{Waving}

word_kept : (m m' : List ℕ) (c x i v : ℕ) → m' ≡ set m c x → i ≢ c → Word m i v → Word m' i v
word_kept m m' c x i v e ne w = (w.0 ∙ sym (ap (λ (l : List ℕ). get_or l i 0) e ∙ get_or-set_other m c i x 0 ne), w.1)

pub word_at : (m : List ℕ) (i j v : ℕ) → i ≡ j → Word m i v → Word m j v
word_at m i j v e w = (w.0 ∙ ap (λ (k : ℕ). get_or m k 0) e, w.1)

pub stands_at : {m : List ℕ} {i t : ℕ} {k : Column} (j : ℕ) → i ≡ j → Stands m i t k → Stands m j t k
stands_at j e s = rw (← e) s

-- the word just stored
pub word_stored : (m m' : List ℕ) (c x v : ℕ) → m' ≡ set m c x → c < length m → v ≡ x → v < 4294967296 → Word m' c v
word_stored m m' c x v e h i s = (i ∙ sym (ap (λ (l : List ℕ). get_or l c 0) e ∙ get_or-set_same m c x 0 h), s)

-- the words of the column before stand until the cells beside them are stored, and the new ones stay
module _ (f : List ℕ → ℕ → ℕ) (c : ℕ) {t : ℕ} {m₀ : List ℕ} {k : Column} (s : Stands m₀ (c - 1) t k) {b : ℕ} (one : b ≡ 1) (low : b ≤ c) (apart : 2 ≤ t) where
  pub reads_one : Word m₀ (c - b) k.first
  reads_one = word_at m₀ (c - 1) (c - b) k.first (omega arith) s.one

  module _ {m₁ : List ℕ} (e₁ : m₁ ≡ set m₀ c (f m₀ c)) where
    pub reads_two : Word m₁ (c + t - b) k.second
    reads_two =
        word_kept m₀ m₁ c (f m₀ c) (c + t - b) k.second e₁ (λ e. omega arith)
        (word_at m₀ (c - 1 + t) (c + t - b) k.second (omega arith) s.two)

    module _ {m₂ : List ℕ} (e₂ : m₂ ≡ set m₁ (c + t) (f m₁ (c + t))) where
      pub reads_three : Word m₂ (c + t + t - b) k.third
      reads_three =
          word_kept m₁ m₂ (c + t) (f m₁ (c + t)) (c + t + t - b) k.third e₂ (λ e. omega arith)
          (word_kept m₀ m₁ c (f m₀ c) (c + t + t - b) k.third e₁ (λ e. omega arith)
          (word_at m₀ (c - 1 + t + t) (c + t + t - b) k.third (omega arith) s.three))

      module _ {m₃ : List ℕ} (e₃ : m₃ ≡ set m₂ (c + t + t) (f m₂ (c + t + t))) where
        pub reads_four : Word m₃ (c + t + t + t - b) k.fourth
        reads_four =
            word_kept m₂ m₃ (c + t + t) (f m₂ (c + t + t)) (c + t + t + t - b) k.fourth e₃ (λ e. omega arith)
            (word_kept m₁ m₂ (c + t) (f m₁ (c + t)) (c + t + t + t - b) k.fourth e₂ (λ e. omega arith)
            (word_kept m₀ m₁ c (f m₀ c) (c + t + t + t - b) k.fourth e₁ (λ e. omega arith)
            (word_at m₀ (c - 1 + t + t + t) (c + t + t + t - b) k.fourth (omega arith) s.four)))

        module _ {m₄ : List ℕ} (e₄ : m₄ ≡ set m₃ (c + t + t + t) (f m₃ (c + t + t + t))) where
          stays : (i v : ℕ) → i < c + t + t + t → Word m₃ i v → Word m₄ i v
          stays i v l w = word_kept m₃ m₄ (c + t + t + t) (f m₃ (c + t + t + t)) i v e₄ (λ e. omega arith) w

          pub column_stands : (k' : Column) → Word m₁ c k'.first → Word m₂ (c + t) k'.second → Word m₃ (c + t + t) k'.third
              → Word m₄ (c + t + t + t) k'.fourth → Stands m₄ c t k'
          column_stands k' w₁ w₂ w₃ w₄ =
              record {
                one = stays c k'.first (omega arith)
                    (word_kept m₂ m₃ (c + t + t) (f m₂ (c + t + t)) c k'.first e₃ (λ e. omega arith)
                    (word_kept m₁ m₂ (c + t) (f m₁ (c + t)) c k'.first e₂ (λ e. omega arith) w₁));
                two = stays (c + t) k'.second (omega arith)
                    (word_kept m₂ m₃ (c + t + t) (f m₂ (c + t + t)) (c + t) k'.second e₃ (λ e. omega arith) w₂);
                three = stays (c + t + t) k'.third (omega arith) w₃;
                four = w₄;
              }

          -- four stores are a column's
          pub column_is : m₄ ≡ store_all f m₀ (column_of c t)
          unfolding store_all
          column_is = rw (← e₁, ← e₂, ← e₃) e₄

-- one column more
pub waving_column : {f : List ℕ → ℕ → ℕ} {memory₀ memory : List ℕ} {a t n y : ℕ} → Waving f memory₀ memory a t n y → (memory' : List ℕ) → y < n
    → memory' ≡ store_all f memory (column_of (a + y) t) → Waving f memory₀ memory' a t n (y + 1)
unfolding wave_of
waving_column {f} {memory₀} {memory} {a} {t} {n} {y} p memory' l e =
    record { low = omega arith; is = rw (add-one y, store_append f memory₀ (wave_of a t y) (column_of (a + y) t), ← p.is) e }
