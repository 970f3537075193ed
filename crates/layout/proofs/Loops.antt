-- Loops over dimensions and distances: a test that fails at once, a test that holds at once, an array that is filled.
use Prim.Native.Nat.{ℕ, ◌+◌, ◌≤◌, ◌<◌}
use mathlib.Core.Path.{◌≡◌, refl, sym, ap, ◌∙◌}
use mathlib.Core.Logic.{◌⊎◌, inl, inr}
use mathlib.Core.Bool.{Bool, true, false}
use mathlib.Core.List.{List}
use native.Mathlib.Nat.{eq-or-lt_of_le}
use native.Mathlib.Numerals.{add-one}
use native.Mathlib.Omega.{arith}
use lib.ListN.{length, get_or, set, length-set}
use lib.Seq.{get_or-set_same, get_or-set_other}
use Rattle.base.specs.Tests.{every, some}
use Rattle.base.proofs.Tests.{every_more, some_none}
pub use Rattle.base.proofs.Tests.{every_same}
use Rattle.layout.specs.Places.{Has}

-- ---- a loop that returns false at the first number where the test fails

pub record Sofar (f : ℕ → Bool) (n j : ℕ) : Type 0 where
  pub low : j ≤ n
  pub all : every f j ≡ true

module _ (f : ℕ → Bool) (n : ℕ) where
  pub sofar_none : Sofar f n 0
  unfolding every
  sofar_none = record { low = omega arith; all = refl }

  pub sofar_more : (j : ℕ) → Sofar f n j → j < n → f j ≡ true → Sofar f n (j + 1)
  sofar_more j s h e = rw (add-one j) (record { low = h; all = every_more f j s.all e })

  pub sofar_end : (j : ℕ) → Sofar f n j → n ≤ j → every f n ≡ true
  sofar_end j s h = let e : j ≡ n = omega (arith, s.low) in rw e at s.all

-- ---- and one that returns true at the first where it holds

pub record Nowhere (f : ℕ → Bool) (n j : ℕ) : Type 0 where
  pub low : j ≤ n
  pub none : (i : ℕ) → i < j → f i ≡ false

module _ (f : ℕ → Bool) (n : ℕ) where
  pub nowhere_none : Nowhere f n 0
  nowhere_none = record { low = omega arith; none = λ i h. absurd (omega arith) }

  pub nowhere_more : (j : ℕ) → Nowhere f n j → j < n → f j ≡ false → Nowhere f n (j + 1)
  nowhere_more j s h e = record { low = omega arith; none = λ i k. go i (eq-or-lt_of_le (low i k)) }
    where
      low : (i : ℕ) → i < j + 1 → i ≤ j
      low i k = omega arith

      go : (i : ℕ) → (i ≡ j) ⊎ (i < j) → f i ≡ false
      go i (inl q) = ap f q ∙ e
      go i (inr q) = s.none i q

  pub nowhere_end : (j : ℕ) → Nowhere f n j → n ≤ j → some f n ≡ false
  nowhere_end j s h = some_none f n (λ i k. s.none i (omega (arith, s.low)))

-- ---- an array that is filled from its start

-- an array of so many words whose first j are those of f, of the n that will be
pub record Filled (size : ℕ) (f : ℕ → ℕ) (n : ℕ) (l : List ℕ) (j : ℕ) : Type 0 where
  pub low : j ≤ n
  pub long : length l ≡ size
  pub each : (i : ℕ) → i < j → get_or l i 0 ≡ f i

module _ {size : ℕ} (f : ℕ → ℕ) (n : ℕ) where
  pub filled_none : (l : List ℕ) → length l ≡ size → Filled size f n l 0
  filled_none l e = record { low = omega arith; long = e; each = λ i h. absurd (omega arith) }

  pub filled_more : (l : List ℕ) (j v : ℕ) → Filled size f n l j → j < n → n ≤ size → v ≡ f j → Filled size f n (set l j v) (j + 1)
  filled_more l j v s h m e = record { low = omega arith; long = length-set l j v ∙ s.long; each = λ i k. go i (eq-or-lt_of_le (low i k)) }
    where
      low : (i : ℕ) → i < j + 1 → i ≤ j
      low i k = omega arith

      go : (i : ℕ) → (i ≡ j) ⊎ (i < j) → get_or (set l j v) i 0 ≡ f i
      go i (inl q) = ap (λ (k : ℕ). get_or (set l j v) k 0) q ∙ get_or-set_same l j v 0 (omega (arith, s.long)) ∙ e ∙ ap f (sym q)
      go i (inr q) = get_or-set_other l j i v 0 (λ z. omega arith) ∙ s.each i q

  pub filled_end : (l : List ℕ) (j : ℕ) → Filled size f n l j → n ≤ j → Has l f n
  filled_end l j s h = record { each = λ i k. s.each i (omega (arith, s.low)) }

-- ---- an array of four that is changed from its start

pub record Changed (f : ℕ → ℕ) (n : ℕ) (start l : List ℕ) (j : ℕ) : Type 0 where
  pub first : Filled 4 f n l j
  pub rest : (i : ℕ) → j ≤ i → get_or l i 0 ≡ get_or start i 0

module _ (f : ℕ → ℕ) (n : ℕ) (start : List ℕ) where
  pub changed_none : length start ≡ 4 → Changed f n start start 0
  changed_none e = record { first = filled_none f n start e; rest = λ i h. refl }

  pub changed_more : (l : List ℕ) (j v : ℕ) → Changed f n start l j → j < n → n ≤ 4 → v ≡ f j → Changed f n start (set l j v) (j + 1)
  changed_more l j v s h m e =
      record { first = filled_more f n l j v s.first h m e; rest = λ i k. get_or-set_other l j i v 0 (λ z. omega arith) ∙ s.rest i (omega arith) }
