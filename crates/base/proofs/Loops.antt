-- Laws of loops that test the numbers below a bound one after the other: where they start, a turn that finds nothing, the end.
use Prim.Native.Nat.{ℕ, ◌+◌, ◌≤◌}
use mathlib.Core.Path.{◌≡◌, refl, ap, ◌∙◌}
use mathlib.Core.Bool.{Bool, true, false}
use native.Mathlib.Omega.{arith}
use native.Mathlib.Numerals.{add-one}
use Rattle.base.specs.Tests.{every, some}
use Rattle.base.proofs.Tests.{every_more, or_false}

module _ (f : ℕ → Bool) where
  pub every_start : every f 0 ≡ true
  unfolding every
  every_start = refl

  pub every_step : (i : ℕ) → every f i ≡ true → f i ≡ true → every f (i + 1) ≡ true
  every_step i h e = ap (every f) (add-one i) ∙ every_more f i h e

  pub every_end : (n i : ℕ) → i ≤ n → n ≤ i → every f i ≡ true → every f n ≡ true
  every_end n i h k e = let z : i ≡ n = omega arith in rw z at e

  pub some_start : some f 0 ≡ false
  unfolding some
  some_start = refl

  pub some_step : (i : ℕ) → some f i ≡ false → f i ≡ false → some f (i + 1) ≡ false
  unfolding some
  some_step i h e = rw (add-one i) (or_false h e)

  pub some_end : (n i : ℕ) → i ≤ n → n ≤ i → some f i ≡ false → some f n ≡ false
  some_end n i h k e = let z : i ≡ n = omega arith in rw z at e
