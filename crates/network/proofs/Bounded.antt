-- Different numbers that pass a test are at most as many as pass it.
use Prim.Native.Nat.{ℕ, zero, suc, ◌≤◌, ◌<◌}
use mathlib.Core.Path.{◌≡◌, sym, ap, ◌∙◌}
use mathlib.Core.Logic.{◌⊎◌, inl, inr, ◌≢◌}
use mathlib.Core.Bool.{Bool, true}
use native.Mathlib.Omega.{arith}
use native.Mathlib.Decide.{dec_lt, ℕ_discrete}
use lib.ListN.{length}
use lib.Dec.{ltb}
use borrow.Author.Tests.{lt-ltb, le-ltb}
use Rattle.base.specs.Tests.{keep, pick}
use Rattle.base.proofs.Tests.{pick_true, pick_false}
use Rattle.base.proofs.Select.{keep_step, keep_more}

-- is v among f 0, f 1, .., n of them
found : (f : ℕ → ℕ) (n v : ℕ) → ((i : ℕ) × (i < n) × (f i ≡ v)) ⊎ ((i : ℕ) → i < n → f i ≢ v)
found f zero v = inr (λ i h. absurd (omega arith))
found f (suc n) v = go (found f n v) (ℕ_discrete (f n) v)
  where
    go : ((i : ℕ) × (i < n) × (f i ≡ v)) ⊎ ((i : ℕ) → i < n → f i ≢ v) → Dec (f n ≡ v)
        → ((i : ℕ) × (i < suc n) × (f i ≡ v)) ⊎ ((i : ℕ) → i < suc n → f i ≢ v)
    go (inl k) d = inl (k.0, omega (arith, k.1), k.2)
    go (inr k) (yes e) = inl (n, omega arith, e)
    go (inr k) (no e) = inr (λ i h. last i h (ℕ_discrete i n))
      where
        last : (i : ℕ) → i < suc n → Dec (i ≡ n) → f i ≢ v
        last i h (yes q) z = e (ap f (sym q) ∙ z)
        last i h (no q) z = k i (omega arith) z

-- the i-th left out
unfoldable past : ℕ → ℕ → ℕ
past i k = pick (ltb k i) k (suc k)

past_is : (i k : ℕ) → ((k < i) × (past i k ≡ k)) ⊎ ((i ≤ k) × (past i k ≡ suc k))
unfolding past
past_is i k = go (dec_lt k i)
  where
    go : Dec (k < i) → ((k < i) × (pick (ltb k i) k (suc k) ≡ k)) ⊎ ((i ≤ k) × (pick (ltb k i) k (suc k) ≡ suc k))
    go (yes h) = inl (h, pick_true _ _ _ (lt-ltb k i h))
    go (no h) = inr (omega arith, pick_false _ _ _ (le-ltb k i (omega arith)))

past_low : (i k n : ℕ) → i < suc n → k < n → past i k < suc n
past_low i k n h l = go (past_is i k)
  where
    go : ((k < i) × (past i k ≡ k)) ⊎ ((i ≤ k) × (past i k ≡ suc k)) → past i k < suc n
    go (inl e) = omega (arith, e.1)
    go (inr e) = omega (arith, e.1)

past_other : (i k : ℕ) → past i k ≢ i
past_other i k z = go (past_is i k)
  where
    go : ((k < i) × (past i k ≡ k)) ⊎ ((i ≤ k) × (past i k ≡ suc k)) → ⊥
    go (inl e) = omega (arith, e.0, e.1)
    go (inr e) = omega (arith, e.0, e.1)

past_once : (i j k : ℕ) → past i j ≡ past i k → j ≡ k
past_once i j k z = go (past_is i j) (past_is i k)
  where
    go : ((j < i) × (past i j ≡ j)) ⊎ ((i ≤ j) × (past i j ≡ suc j)) → ((k < i) × (past i k ≡ k)) ⊎ ((i ≤ k) × (past i k ≡ suc k)) → j ≡ k
    go (inl a) (inl b) = omega (arith, a.1, b.1)
    go (inl a) (inr b) = omega (arith, a.0, a.1, b.0, b.1)
    go (inr a) (inl b) = omega (arith, a.0, a.1, b.0, b.1)
    go (inr a) (inr b) = omega (arith, a.1, b.1)

-- n numbers, all different, below N and with g
pub at_most : (g : ℕ → Bool) (N n : ℕ) (f : ℕ → ℕ) → ((i : ℕ) → i < n → f i < N) → ((i : ℕ) → i < n → g (f i) ≡ true)
    → ((i k : ℕ) → i < n → k < n → f i ≡ f k → i ≡ k) → n ≤ length (keep g N)
at_most g N zero f low is once = omega arith
at_most g zero (suc n) f low is once = absurd (omega (arith, low 0 (omega arith)))
at_most g (suc N) (suc n) f low is once =
    go (found f (suc n) N)
    (λ none. at_most g N (suc n) f (λ i h. omega (arith, low i h, none i h)) is once)
    (λ i h e.
    at_most g N n (λ k. f (past i k))
    (λ k l. omega (arith, low (past i k) (past_low i k n h l), elsewhere i k h l e))
    (λ k l. is (past i k) (past_low i k n h l))
    (λ j k a b q. past_once i j k (once (past i j) (past i k) (past_low i j n h a) (past_low i k n h b) q)))
  where
    elsewhere : (i k : ℕ) → i < suc n → k < n → f i ≡ N → f (past i k) ≢ N
    elsewhere i k h l e z = past_other i k (once (past i k) i (past_low i k n h l) h (z ∙ sym e))

    go : ((i : ℕ) × (i < suc n) × (f i ≡ N)) ⊎ ((i : ℕ) → i < suc n → f i ≢ N)
        → (((i : ℕ) → i < suc n → f i ≢ N) → suc n ≤ length (keep g N))
        → ((i : ℕ) → i < suc n → f i ≡ N → n ≤ length (keep g N))
        → suc n ≤ length (keep g (suc N))
    go (inl k) less without =
        let a = without k.0 k.1 k.2 in
        omega (arith, keep_more g N (ap g (sym k.2) ∙ is k.0 k.1))
    go (inr k) less without = let a = less k in omega (arith, keep_step g N)
