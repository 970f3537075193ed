-- Laws of words stored one after the other, from a list's start.
use Prim.Native.Nat.{ℕ, suc, ◌+◌, ◌≤◌, ◌<◌}
use mathlib.Core.Path.{◌≡◌, refl, sym, ap, ◌∙◌}
use mathlib.Core.Logic.{◌⊎◌, inl, inr}
use mathlib.Core.List.{List}
use native.Mathlib.Nat.{eq-or-lt_of_le, le_of_suc-le-suc}
use native.Mathlib.Omega.{arith}
use lib.ListN.{length, get_or, set, length-set}
use lib.Seq.{get_or-set_same, get_or-set_other, ext_get_or}
use Rattle.base.specs.Tests.{tabulate}
use Rattle.base.proofs.Tests.{length_tabulate, tabulate_at}

-- the first i words are those of f, and no word more or less than before
pub record Stored (f : ℕ → ℕ) (old new : List ℕ) (i : ℕ) : Type 0 where
  pub long : length new ≡ length old
  pub low : i ≤ length old
  pub each : (j : ℕ) → j < i → get_or new j 0 ≡ f j

module _ (f : ℕ → ℕ) (old : List ℕ) where
  pub store_start : Stored f old old 0
  store_start = record { long = refl; low = omega arith; each = λ j h. absurd (omega arith) }

  pub store_next : (new : List ℕ) (i v : ℕ) → Stored f old new i → i < length old → v ≡ f i → Stored f old (set new i v) (i + 1)
  store_next new i v g h e =
      record { long = length-set new i v ∙ g.long; low = omega arith; each = λ j l. go j (eq-or-lt_of_le (le_of_suc-le-suc (below j l))) }
    where
      below : (j : ℕ) → j < i + 1 → suc j ≤ suc i
      below j l = omega arith

      go : (j : ℕ) → (j ≡ i) ⊎ (j < i) → get_or (set new i v) j 0 ≡ f j
      go j (inl k) = ap (λ (n : ℕ). get_or (set new i v) n 0) k ∙ get_or-set_same new i v 0 (omega (arith, g.long)) ∙ e ∙ ap f (sym k)
      go j (inr k) = get_or-set_other new i j v 0 (λ q. omega arith) ∙ g.each j k

  pub stored_all : (new : List ℕ) (i n : ℕ) → Stored f old new i → length old ≡ n → n ≤ i → new ≡ tabulate f n
  stored_all new i n g e h =
      ext_get_or 0 new (tabulate f n) (g.long ∙ e ∙ sym (length_tabulate f n))
      (λ j l. g.each j (omega (arith, g.long)) ∙ sym (tabulate_at f n j (omega (arith, g.long))))
