-- Laws of marks passed one after the other: how many there are.
use Prim.Native.Nat.{ℕ, ◌+◌, ◌≤◌, ◌<◌}
use mathlib.Core.Path.{◌≡◌, refl, sym, ap, ◌∙◌}
use mathlib.Core.Logic.{◌⊎◌, inl, inr, ◌≢◌}
use mathlib.Core.Bool.{Bool}
use mathlib.Core.List.{List}
use native.Mathlib.Numerals.{add-one}
use native.Mathlib.Omega.{arith}
use lib.ListN.{length, get_or}
use borrow.Author.Tests.{eq-eqb, ne_eqb}
use Rattle.base.specs.Tests.{keep}
use Rattle.base.proofs.Select.{keep_none, keep_more, keep_few}
use Rattle.rank_index.specs.Ranks.{marked_at, marked_cells}

module _ (marks : List ℕ) where
  abbrev f : ℕ → Bool
  f = marked_at marks

  -- of the first c cells n are marked
  pub record Passed (c n : ℕ) : Type 0 where
    pub low : c ≤ length marks
    pub is : n ≡ length (keep f c)

  -- a cell that is marked, or not, and how many then are
  abbrev pub Looked : ℕ → ℕ → ℕ → Type 0
  Looked c n n' = ((get_or marks c 0 ≡ 1) × (n' ≡ n + 1)) ⊎ ((get_or marks c 0 ≢ 1) × (n' ≡ n))

  pub count_start : Passed 0 0
  unfolding keep
  count_start = record { low = omega arith; is = refl }

  module _ (c n : ℕ) (g : Passed c n) where
    pub few : n ≤ c
    few = omega (arith, g.is, keep_few f c)

    pub count_next : (n' : ℕ) → c < length marks → Looked c n n' → Passed (c + 1) n'
    count_next n' l (inl (e, q)) =
        record {
          low = omega arith;
          is = q ∙ omega (arith, g.is, keep_more f c (eq-eqb _ _ e)) ∙ ap (λ (i : ℕ). length (keep f i)) (sym (add-one c));
        }
    count_next n' l (inr (e, q)) =
        record {
          low = omega arith;
          is = q ∙ g.is ∙ ap length (sym (keep_none f c (ne_eqb _ _ e))) ∙ ap (λ (i : ℕ). length (keep f i)) (sym (add-one c));
        }

    pub count_done : length marks ≤ c → n ≡ length (marked_cells marks)
    count_done k = let z : c ≡ length marks = omega (arith, g.low) in g.is ∙ ap (λ (i : ℕ). length (keep f i)) z
