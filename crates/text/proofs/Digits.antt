-- How many digits a number has: ten at most where it has 32 bits, eleven signs where it has one of either sign.
use Prim.Native.Nat.{ℕ, suc, ◌*◌, ◌/◌, ◌%◌, ◌≤◌, ◌<◌}
use mathlib.Core.List.{[], ◌∷◌}
use native.Mathlib.Omega.{arith}
use native.Mathlib.Decide.{dec_lt}
use lib.ListN.{length, length-append}
use lib.IntN.{ℤ, pos, negsuc}
use mir.Syntax.{w32}
use mir.Val.{SFits}
use Rattle.text.specs.Decimal.{digit, decimal, signed}
use Rattle.text.proofs.Decimals.{decimal_small, decimal_more}

-- every number below m has at most k digits
abbrev pub Few : ℕ → ℕ → Type 0
Few m k = (n : ℕ) → n < m → length (decimal n) ≤ k

few_one : Few 10 1
few_one n h = rw (decimal_small n h) (omega arith)

few_more : (m k : ℕ) → Few m k → 0 < k → Few (10 * m) (suc k)
few_more m k f p n h = go (dec_lt n 10)
  where
    go : Dec (n < 10) → length (decimal n) ≤ suc k
    go (yes q) = rw (decimal_small n q) (omega arith)
    go (no q) =
        let i = f (n / 10) (omega arith) in
        rw (decimal_more n (omega arith)) (omega (arith, length-append (decimal (n / 10)) (digit (n % 10) ∷ [])))

pub few_2 : Few 100 2
few_2 = few_more 10 1 few_one (omega arith)

pub few_3 : Few 1000 3
few_3 = few_more 100 2 few_2 (omega arith)

pub few_4 : Few 10000 4
few_4 = few_more 1000 3 few_3 (omega arith)

few_5 : Few 100000 5
few_5 = few_more 10000 4 few_4 (omega arith)

few_7 : Few 10000000 7
few_7 = few_more 1000000 6 (few_more 100000 5 few_5 (omega arith)) (omega arith)

few_10 : Few 10000000000 10
few_10 = few_more 1000000000 9 (few_more 100000000 8 (few_more 10000000 7 few_7 (omega arith)) (omega arith)) (omega arith)

pub decimal_few : (n : ℕ) → n < 4294967296 → length (decimal n) ≤ 10
decimal_few n h = few_10 n (omega arith)

pub size_few : (n : ℕ) → n ≤ 65535 → length (decimal n) ≤ 5
size_few n h = few_5 n (omega arith)

pub signed_few : (z : ℤ) → SFits w32 z → length (signed z) ≤ 11
unfolding signed
signed_few (pos n) f = omega (arith, decimal_few n (omega (arith, f.sfits)))
signed_few (negsuc n) f = omega (arith, decimal_few (suc n) (omega (arith, f.sfits)))
