-- What the sharing tells of opening: the search over a week finds the first open minute, or there is none.
use Rattle.std.specs.Prelude.{None, Some}
use Prim.Native.Nat.{ℕ, zero, suc, ◌+◌, ◌-◌, ◌%◌, ◌≤◌, ◌<◌}
use mathlib.Core.Path.{◌≡◌, refl, sym, ap, ◌∙◌}
use mathlib.Core.Logic.{◌⊎◌, inl, inr}
use mathlib.Core.Bool.{Bool, true, false}
use mathlib.Core.List.{List}
use native.Mathlib.Nat.{eq-or-lt_of_le}
use native.Mathlib.Omega.{arith}
use Rattle.base.specs.Tests.{pick}
use Rattle.calendar.specs.Windows.{week, open_at, first_from, until_open}
use Rattle.calendar.specs.Demands212.{TellsOpening}

record Found (f : ℕ → Bool) (n k x : ℕ) : Type 0 where
  from : n ≤ x
  below : x < n + k
  here : f x ≡ true
  before : (i : ℕ) → n ≤ i → i < x → f i ≡ false

module _ (f : ℕ → Bool) where
  found : (k n x : ℕ) → first_from f n k ≡ Some x → Found f n k x
  unfolding first_from pick
  found zero n x e = absurd (let z : ◌≡◌ {A = ℕ} 0 1 = cc in omega arith)
  found (suc k) n x e = go (f n) refl (found k (suc n) x) e
    where
      go : (t : Bool) → f n ≡ t → (first_from f (suc n) k ≡ Some x → Found f (suc n) k x) → pick t (Some n) (first_from f (suc n) k) ≡ Some x
          → Found f n (suc k) x
      go true q ih h = let z : x ≡ n = cc in record { from = omega arith; below = omega arith; here = ap f z ∙ q; before = λ i l m. absurd (omega arith) }
      go false q ih h = let r = ih h in record {
        from = omega (arith, r.from);
        below = omega (arith, r.below);
        here = r.here;
        before = λ i l m.
            at i m (eq-or-lt_of_le l) r;
      }
        where
          at : (i : ℕ) → i < x → (n ≡ i) ⊎ (n < i) → Found f (suc n) k x → f i ≡ false
          at i m (inl z) r = ap f (sym z) ∙ q
          at i m (inr l) r = r.before i l m

  none : (k n : ℕ) → first_from f n k ≡ None → (i : ℕ) → n ≤ i → i < n + k → f i ≡ false
  unfolding first_from pick
  none zero n e i l m = absurd (omega arith)
  none (suc k) n e i l m = go (f n) refl (none k (suc n)) e
    where
      go : (t : Bool) → f n ≡ t → (first_from f (suc n) k ≡ None → (i : ℕ) → suc n ≤ i → i < suc n + k → f i ≡ false)
          → pick t (Some n) (first_from f (suc n) k) ≡ None → f i ≡ false
      go true q ih h = absurd (let z : ◌≡◌ {A = ℕ} 0 1 = cc in omega arith)
      go false q ih h = at (eq-or-lt_of_le l)
        where
          at : (n ≡ i) ⊎ (n < i) → f i ≡ false
          at (inl z) = ap f (sym z) ∙ q
          at (inr s) = ih h i s (omega arith)

  if_none : (k n : ℕ) → ((i : ℕ) → n ≤ i → i < n + k → f i ≡ false) → first_from f n k ≡ None
  unfolding first_from pick
  if_none zero n h = refl
  if_none (suc k) n h = rw (h n (omega arith) (omega arith)) (if_none k (suc n) (λ i l m. h i (omega arith) (omega arith)))

  at_once : (k n : ℕ) → f n ≡ true → first_from f n (suc k) ≡ Some n
  unfolding first_from pick
  at_once k n e = rw e

-- each minute of the week comes within a week from now
reached : (minute i : ℕ) → i < week → (n : ℕ) × (n < week) × ((minute + n) % week ≡ i)
reached minute i h = ((i + week - minute % week) % week, omega arith, omega arith)

stays : (minute : ℕ) → minute < week → (minute + 0) % week ≡ minute
stays minute h = omega arith

in_week : (n : ℕ) → n % week < week
in_week n = omega arith

pub tells : (calendar : List ℕ) (minute b : ℕ) → TellsOpening (until_open calendar minute b) calendar minute b
unfolding until_open
tells calendar minute b =
    record {
      then_open = λ n e. (found f week 0 n e).here;
      not_before = λ n e i h. (found f week 0 n e).before i (omega arith) h;
      in_a_week = λ n e. (found f week 0 n e).below;
      open_now = λ low h. at_once f 10079 0 (ap (open_at calendar b) (stays minute low) ∙ h);
      only_now = λ low e. ap (open_at calendar b) (sym (stays minute low)) ∙ (found f week 0 0 e).here;
      never_open = λ e i h. let r = reached minute i h in ap (open_at calendar b) (sym r.2) ∙ none f week 0 e r.0 (omega arith) r.1;
      if_never = λ h. if_none f week 0 (λ i l m. h ((minute + i) % week) (in_week (minute + i)));
    }
  where
    f : ℕ → Bool
    f n = open_at calendar b ((minute + n) % week)
