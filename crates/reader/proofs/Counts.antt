-- How many a test holds of, counted over a range or the front of a slice, as the definitions count them.
use Prim.Native.Nat.{ℕ, zero, suc, ◌+◌, ◌≤◌}
use mathlib.Core.Path.{◌≡◌, refl, sym, ap, ◌∙◌}
use mathlib.Core.Bool.{Bool, true, false}
use mathlib.Core.List.{List, [], ◌∷◌}
use native.Mathlib.Omega.{arith}
use lib.ListN.{length, get_or, take}
use Rattle.std.specs.List.{count_by, filter, range_with_len}
use Rattle.std.specs.Prelude.{cond}
use Rattle.std.proofs.lemmas.List.Sums.{sum_by-cons, length-filter}
use Rattle.base.specs.Tests.{keep}
use Rattle.base.proofs.Select.{keep_more, keep_none, keep_same}

kept_last : (f : ℕ → Bool) (n : ℕ) → length (keep f (suc n)) ≡ length (keep f n) + cond (f n) 1 0
kept_last f n = go (f n) refl
  where
    go : (t : Bool) → f n ≡ t → length (keep f (suc n)) ≡ length (keep f n) + cond t 1 0
    go true e = omega (arith, keep_more f n e)
    go false e = omega (arith, ap length (keep_none f n e))

-- the first taken off in place of the last
kept_first : (f : ℕ → Bool) (n : ℕ) → length (keep f (suc n)) ≡ cond (f 0) 1 0 + length (keep (λ i. f (suc i)) n)
unfolding keep
kept_first f zero = omega (arith, kept_last f zero)
kept_first f (suc n) = omega (arith, kept_last f (suc n), kept_first f n, kept_last (λ i. f (suc i)) n)

from_count : (f : ℕ → Bool) (a n : ℕ) → count_by f (range_with_len a n) ≡ length (keep (λ i. f (a + i)) n)
unfolding keep
from_count f a zero = refl
from_count f a (suc n) =
    sum_by-cons (λ y. cond (f y) 1 0) a (range_with_len (a + 1) n)
    ∙ (ap (λ (k : ℕ). cond (f a) 1 0 + k)
    (from_count f (a + 1) n ∙ ap length (keep_same (λ i. f (a + 1 + i)) (λ i. f (a + suc i)) n (λ i _. ap f (omega arith))))
    ∙ (ap (λ (k : ℕ). cond (f k) 1 0 + length (keep (λ i. f (a + suc i)) n)) (omega arith) ∙ sym (kept_first (λ i. f (a + i)) n)))

pub range_count : (f : ℕ → Bool) (n : ℕ) → length (filter f (range_with_len 0 n)) ≡ length (keep f n)
range_count f n = length-filter f (range_with_len 0 n) ∙ from_count f 0 n ∙ ap length (keep_same (λ i. f (0 + i)) f n (λ i _. ap f (omega arith)))

pub front_count : (f : ℕ → Bool) (l : List ℕ) (n : ℕ) → n ≤ length l → count_by f (take n l) ≡ length (keep (λ i. f (get_or l i 0)) n)
unfolding keep
front_count f l zero h = refl
front_count f [] (suc n) h = absurd (omega arith)
front_count f (x ∷ l) (suc n) h =
    sum_by-cons (λ y. cond (f y) 1 0) x (take n l)
    ∙ (ap (λ (k : ℕ). cond (f x) 1 0 + k) (front_count f l n (omega arith)) ∙ sym (kept_first (λ i. f (get_or (x ∷ l) i 0)) n))
