-- What `any` and `all` answer over a range or a slice, as the definitions say it.
use Prim.Native.Nat.{ℕ, zero, suc, ◌+◌}
use mathlib.Core.Path.{◌≡◌, refl, sym, ap, ◌∙◌}
use mathlib.Core.Bool.{Bool, true, false}
use mathlib.Core.List.{List, [], ◌∷◌}
use native.Mathlib.Omega.{arith}
use lib.ListN.{length, get_or}
use Rattle.std.specs.Prelude.{◌||◌, ◌&&◌}
use Rattle.std.specs.List.{list_any, list_all, range_with_len}
use Rattle.base.specs.Tests.{◌and◌, ◌or◌, every, some}
use Rattle.base.proofs.Tests.{some_same, every_same}

or_is : (a b : Bool) → (a || b) ≡ (a or b)
unfolding ◌or◌
or_is true b = refl
or_is false b = refl

and_is : (a b : Bool) → (a && b) ≡ (a and b)
unfolding ◌and◌
and_is true b = refl
and_is false b = refl

or_three : (a b c : Bool) → ((a or b) or c) ≡ (a or (b or c))
unfolding ◌or◌
or_three true b c = refl
or_three false b c = refl

and_three : (a b c : Bool) → ((a and b) and c) ≡ (a and (b and c))
unfolding ◌and◌
and_three true b c = refl
and_three false b c = refl

or_none : (a : Bool) → (false or a) ≡ (a or false)
unfolding ◌or◌
or_none true = refl
or_none false = refl

and_none : (a : Bool) → (true and a) ≡ (a and true)
unfolding ◌and◌
and_none true = refl
and_none false = refl

-- the first taken off in place of the last
some_first : (f : ℕ → Bool) (n : ℕ) → some f (suc n) ≡ (f 0 or some (λ i. f (suc i)) n)
unfolding some
some_first f zero = or_none (f 0)
some_first f (suc n) =
    ap (λ (b : Bool). b or f (suc n)) (some_first f n) ∙ or_three (f 0) (some (λ i. f (suc i)) n) (f (suc n))

every_first : (f : ℕ → Bool) (n : ℕ) → every f (suc n) ≡ (f 0 and every (λ i. f (suc i)) n)
unfolding every
every_first f zero = and_none (f 0)
every_first f (suc n) =
    ap (λ (b : Bool). b and f (suc n)) (every_first f n) ∙ and_three (f 0) (every (λ i. f (suc i)) n) (f (suc n))

-- ---- over a range

from_any : (f : ℕ → Bool) (a n : ℕ) → list_any f (range_with_len a n) ≡ some (λ i. f (a + i)) n
unfolding some
from_any f a zero = refl
from_any f a (suc n) =
    or_is (f a) (list_any f (range_with_len (a + 1) n))
    ∙ (ap (λ (b : Bool). f a or b)
    (from_any f (a + 1) n
    ∙ some_same (λ i. f (a + 1 + i)) (λ i. f (a + suc i)) n (λ i _. ap f (omega arith)))
    ∙ (ap (λ (k : ℕ). f k or some (λ i. f (a + suc i)) n) (omega arith) ∙ sym (some_first (λ i. f (a + i)) n)))

from_all : (f : ℕ → Bool) (a n : ℕ) → list_all f (range_with_len a n) ≡ every (λ i. f (a + i)) n
unfolding every
from_all f a zero = refl
from_all f a (suc n) =
    and_is (f a) (list_all f (range_with_len (a + 1) n))
    ∙ (ap (λ (b : Bool). f a and b)
    (from_all f (a + 1) n
    ∙ every_same (λ i. f (a + 1 + i)) (λ i. f (a + suc i)) n (λ i _. ap f (omega arith)))
    ∙ (ap (λ (k : ℕ). f k and every (λ i. f (a + suc i)) n) (omega arith) ∙ sym (every_first (λ i. f (a + i)) n)))

pub range_any : (f : ℕ → Bool) (n : ℕ) → list_any f (range_with_len 0 n) ≡ some f n
range_any f n = from_any f 0 n ∙ some_same (λ i. f (0 + i)) f n (λ i _. ap f (omega arith))

pub range_all : (f : ℕ → Bool) (n : ℕ) → list_all f (range_with_len 0 n) ≡ every f n
range_all f n = from_all f 0 n ∙ every_same (λ i. f (0 + i)) f n (λ i _. ap f (omega arith))

-- ---- over a slice

pub slice_any : (f : ℕ → Bool) (l : List ℕ) → list_any f l ≡ some (λ i. f (get_or l i 0)) (length l)
unfolding some
slice_any f [] = refl
slice_any f (x ∷ l) =
    or_is (f x) (list_any f l) ∙ (ap (λ (b : Bool). f x or b) (slice_any f l) ∙ sym (some_first (λ i. f (get_or (x ∷ l) i 0)) (length l)))

pub slice_all : (f : ℕ → Bool) (l : List ℕ) → list_all f l ≡ every (λ i. f (get_or l i 0)) (length l)
unfolding every
slice_all f [] = refl
slice_all f (x ∷ l) =
    and_is (f x) (list_all f l) ∙ (ap (λ (b : Bool). f x and b) (slice_all f l) ∙ sym (every_first (λ i. f (get_or (x ∷ l) i 0)) (length l)))
