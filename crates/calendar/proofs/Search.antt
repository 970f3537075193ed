-- Laws of the search: where it stops, and the least of the windows' waits.
use Rattle.std.specs.Prelude.{None, Some}
use Prim.Native.Nat.{ℕ, zero, suc, ◌+◌, ◌%◌, ◌≤◌, ◌<◌, min}
use mathlib.Core.Path.{◌≡◌, refl, sym, ap, ◌∙◌}
use mathlib.Core.Logic.{◌⊎◌, inl, inr, ◌≢◌}
use mathlib.Core.Bool.{Bool, true, false}
use mathlib.Core.List.{List}
use native.Mathlib.Omega.{arith, min_cases}
use native.Mathlib.Decide.{ℕ_discrete}
use Rattle.base.specs.Tests.{pick, some}
use Rattle.base.proofs.Tests.{pick_true, pick_false, some_one, some_none}
use Rattle.calendar.specs.Windows.{week, in_window, open_at, first_from, until_open}
use Rattle.calendar.specs.Waits.{First}

module _ (f : ℕ → Bool) where
  pub first_none : (k s : ℕ) → ((i : ℕ) → i < s + k → f i ≡ false) → first_from f s k ≡ None
  unfolding first_from
  first_none zero s h = refl
  first_none (suc k) s h = pick_false (f s) _ _ (h s (omega arith)) ∙ first_none k (suc s) (λ i l. h i (omega arith))

  pub first_at : (k s n : ℕ) → s ≤ n → n < s + k → f n ≡ true → ((i : ℕ) → i < n → f i ≡ false) → first_from f s k ≡ Some n
  unfolding first_from
  first_at zero s n a b e h = absurd (omega arith)
  first_at (suc k) s n a b e h = go (λ l. first_at k (suc s) n l (omega arith) e h) (ℕ_discrete s n)
    where
      go : (suc s ≤ n → first_from f (suc s) k ≡ Some n) → Dec (s ≡ n) → pick (f s) (Some s) (first_from f (suc s) k) ≡ Some n
      go ih (yes q) = pick_true (f s) _ _ (ap f q ∙ e) ∙ ap Some q
      go ih (no q) = pick_false (f s) _ _ (h s (omega arith)) ∙ ih (omega arith)

-- after the first i windows
pub record Soonest (f : ℕ → ℕ → Bool) (i v : ℕ) : Type 0 where
  pub most : v ≤ week
  pub before : (n : ℕ) → n < v → (w : ℕ) → w < i → f n w ≡ false
  pub holds : v < week → (w : ℕ) × ((w < i) × (f v w ≡ true))

module _ (f : ℕ → ℕ → Bool) where
  pub soonest_none : Soonest f 0 week
  soonest_none = record { most = omega arith; before = λ n l w k. absurd (omega arith); holds = λ l. absurd (omega arith) }

  pub soonest_turn : (i v x r : ℕ) → Soonest f i v → First (λ (n : ℕ). f n i) x → r ≡ min v x → Soonest f (i + 1) r
  soonest_turn i v x r s g l =
      record {
        most = omega (arith, s.most);
        before = λ n h w k. go n h w k (ℕ_discrete w i);
        holds = λ h. by h (min_cases v x ((r ≡ v) ⊎ (r ≡ x)) (λ _ e. inl (l ∙ e)) (λ _ e. inr (l ∙ e)));
      }
    where
      go : (n : ℕ) → n < r → (w : ℕ) → w < i + 1 → Dec (w ≡ i) → f n w ≡ false
      go n h w k (yes e) = ap (f n) e ∙ g.before n (omega arith)
      go n h w k (no e) = s.before n (omega arith) w (omega arith)

      by : r < week → (r ≡ v) ⊎ (r ≡ x) → (w : ℕ) × ((w < i + 1) × (f r w ≡ true))
      by h (inl e) = let y = s.holds (omega arith) in (y.0, (omega (arith, y.1.0), ap (λ (n : ℕ). f n y.0) e ∙ y.1.1))
      by h (inr e) = (i, (omega arith, ap (λ (n : ℕ). f n i) e ∙ g.holds (omega arith)))

module _ (calendar : List ℕ) (b minute : ℕ) where
  -- window w is open, n minutes from now
  abbrev pub open_in : ℕ → ℕ → Bool
  open_in n w = in_window calendar b ((minute + n) % week) w

  pub told_never : (i v : ℕ) → Soonest open_in i v → i ≤ 14 → 14 ≤ i → v ≡ week → None ≡ until_open calendar minute b
  unfolding until_open open_at
  told_never i v s le ge e = sym (first_none (λ n. some (open_in n) 14) week 0
      (λ n l. some_none (open_in n) 14 (λ w k. s.before n (omega arith) w (omega arith))))

  pub told_in : (i v : ℕ) → Soonest open_in i v → i ≤ 14 → 14 ≤ i → v ≢ week → Some v ≡ until_open calendar minute b
  unfolding until_open open_at
  told_in i v s le ge e =
      let l : v < week = omega (arith, s.most) in
      let y = s.holds l in
      sym (first_at (λ n. some (open_in n) 14) week 0 v (omega arith) l (some_one (open_in v) 14 y.0 (omega (arith, y.1.0)) y.1.1)
      (λ n h. some_none (open_in n) 14 (λ w k. s.before n h w (omega arith))))
