-- Laws of the memory in which each cell holds its own number, and of cells side by side listed from it.
use Prim.Native.Nat.{ℕ, ◌+◌, ◌≤◌, ◌<◌}
use mathlib.Core.Path.{◌≡◌, subst}
use mathlib.Core.List.{List}
use native.Mathlib.Omega.{arith}
use lib.ListN.{length, get_or, set}
use Rattle.base.proofs.Tests.{length_tabulate, tabulate_at}
use Rattle.base.proofs.Copies.{Copies, copies_more}
use Rattle.runs.specs.listed.Numbers.{numbers}

pub numbers_long : length numbers ≡ 16384
unfolding numbers
numbers_long = length_tabulate (λ c. c) 16384

pub numbers_at : (c : ℕ) → c < 16384 → get_or numbers c 0 ≡ c
unfolding numbers
numbers_at c h = tabulate_at (λ c. c) 16384 c h

-- one more cell listed
pub listed_more : (l : List ℕ) (at first n : ℕ) → at + n ≤ length l → first + n ≤ 16384 → (k : List ℕ) (y : ℕ) → Copies l numbers at first n k y → y < n
    → Copies l numbers at first n (set k (at + y) (first + y)) (y + 1)
listed_more l at first n g f k y p h =
    subst (λ (v : ℕ). Copies l numbers at first n (set k (at + y) v) (y + 1)) (numbers_at (first + y) (omega arith))
    (copies_more l numbers at first n g (rw numbers_long f) k y p h)
