-- Four rows side by side in the same columns: what is stored is the same, since in each column the rows go in index order.
use Prim.Native.Nat.{ℕ, zero, suc, ◌+◌, ◌*◌, ◌-◌, ◌≤◌, ◌<◌}
use mathlib.Core.Path.{◌≡◌, refl, sym, ◌∙◌}
use mathlib.Core.Logic.{◌≢◌}
use mathlib.Core.List.{List, [], ◌∷◌}
use native.Mathlib.Decide.{dec_lt}
use native.Mathlib.Omega.{arith}
use lib.ListN.{length, set}
use lib.Dec.{ltb}
use borrow.Author.Tests.{lt-ltb, le-ltb}
use Rattle.base.specs.Tests.{pick}
use Rattle.base.proofs.Tests.{pick_true, pick_false}
use Rattle.base.specs.Lists.{store_all}
use Rattle.nest.specs.declared.Nest.{Nest}
use Rattle.nest.specs.Accepted.{Accepted}
use Rattle.nest.specs.Nest.{cells}
use Rattle.plan.specs.Geometry.{value}
use Rattle.layout.specs.CellRows.{row_of}
use Rattle.kernels.specs.Taps.{made, in_line, wave_of, Fits}
use Rattle.bands.specs.lagged.Bands.{four, rows_of, Band, Spaced, Banded}
use Rattle.kernels.proofs.Orders.{store_append}
use Rattle.bands.proofs.lagged.Waves.{made_is, full_fits, Front, front_start, front_same, front_end, front_word, front_store, each_four, band_full}
use Rattle.bands.proofs.lagged.Waves.{band_line, row_0, row_1, row_2, row_3}

-- i rows of column y are stored
unfoldable level : ℕ → ℕ → ℕ → ℕ
level y i j = pick (ltb j i) (y + 1) y

level_done : (y i j : ℕ) → j < i → level y i j ≡ y + 1
unfolding level
level_done y i j h = pick_true (ltb j i) (y + 1) y (lt-ltb j i h)

level_not : (y i j : ℕ) → i ≤ j → level y i j ≡ y
unfolding level
level_not y i j h = pick_false (ltb j i) (y + 1) y (le-ltb j i h)

module _ (x : Nest) (ok : Accepted x) (source m₀ : List ℕ) (long : length m₀ ≡ cells x) (c : ℕ → ℕ) (w : ℕ) (band : Band x c w 4) (f : List ℕ → ℕ → ℕ) where
  module _ (y : ℕ) (wide : y < w) (same : (k : ℕ) → k < 4 → (m : List ℕ) → f m (c k + y) ≡ value x source m (c k + y)) where
    next : (k : ℕ) → k < 4 → (m : List ℕ) → Front x source m₀ c w 4 m (level y k)
        → Front x source m₀ c w 4 (set m (c k + y) (f m (c k + y))) (level y (suc k))
    next k l m g =
        front_store x ok source m₀ long c w 4 band m (level y k) g k l y (sym (level_not y k k (omega arith))) wide (f m (c k + y))
        (same k l m
        ∙ front_word x ok source m₀ long c w 4 band m (level y k) g k l y (sym (level_not y k k (omega arith))) wide
        (λ j q. omega (arith, level_done y k j q)))
        (level y (suc k)) (omega (arith, level_done y (suc k) k (omega arith))) (λ j q z. go j z (dec_lt j k))
      where
        go : (j : ℕ) → j ≢ k → Dec (j < k) → level y (suc k) j ≤ level y k j
        go j z (yes d) = omega (arith, level_done y (suc k) j (omega arith), level_done y k j d)
        go j z (no d) = omega (arith, level_not y (suc k) j (omega arith), level_not y k j (omega arith))

    column : (m : List ℕ) → Front x source m₀ c w 4 m (λ k. y) → (p₀ p₁ p₂ p₃ : ℕ) → p₀ ≡ c 0 + y → p₁ ≡ c 1 + y → p₂ ≡ c 2 + y → p₃ ≡ c 3 + y
        → Front x source m₀ c w 4 (store_all f m (p₀ ∷ p₁ ∷ p₂ ∷ p₃ ∷ [])) (λ k. y + 1)
    unfolding store_all
    column m s p₀ p₁ p₂ p₃ e₀ e₁ e₂ e₃ =
        let g = front_same x ok source m₀ long c w 4 band m (λ k. y) s (level y 0) (λ k l. omega (arith, level_not y 0 k (omega arith))) in
        let g₄ = next 3 (omega arith) _ (next 2 (omega arith) _ (next 1 (omega arith) _ (next 0 (omega arith) m g))) in
        rw (e₀, e₁, e₂, e₃) (front_same x ok source m₀ long c w 4 band _ (level y 4) g₄ (λ k. y + 1) (λ k l. omega (arith, level_done y 4 k l)))

  -- n columns from column `from` on
  module _ (from : ℕ) (spaced : Spaced (c 0) (c 1) (c 2) (c 3)) where
    front_columns : (n : ℕ) → from + n ≤ w → ((k z : ℕ) → k < 4 → from ≤ z → z < w → (m : List ℕ) → f m (c k + z) ≡ value x source m (c k + z))
        → (m : List ℕ) → Front x source m₀ c w 4 m (λ k. from)
        → Front x source m₀ c w 4 (store_all f m (wave_of (c 0 + from) (c 1 - c 0) n)) (λ k. from + n)
    unfolding wave_of store_all
    front_columns zero h same m s = front_same x ok source m₀ long c w 4 band m (λ k. from) s (λ k. from + 0) (λ k l. omega arith)
    front_columns (suc n) h same m s =
        let a = band.apart 0 1 (omega arith) (omega arith) in
        let z : from + suc n ≡ from + n + 1 = omega arith in
        rw (z, store_append f m (wave_of (c 0 + from) (c 1 - c 0) n) _)
        (column (from + n) (omega arith) (λ k l. same k (from + n) l (omega arith) (omega arith)) (store_all f m (wave_of (c 0 + from) (c 1 - c 0) n))
        (front_columns n (omega arith) same m s) _ _ _ _ (omega arith) (omega (arith, a)) (omega (arith, a, spaced.0))
        (omega (arith, a, spaced.0, spaced.1)))

module _ (x : Nest) (ok : Accepted x) (c : ℕ → ℕ) (a from w : ℕ) (first back weights : List ℕ) (g : Banded x c a from w first back weights) where
  pub columns_fit : Spaced (c 0) (c 1) (c 2) (c 3) → (sources words : ℕ) → sources ≡ cells x → words ≡ cells x
      → Fits x.distances back weights 0 x.shift (c 0 + (from - 3)) (3 * (c 1 - c 0) + (w - (from - 3))) sources words
  columns_fit spaced sources words s e =
      full_fits x ok back weights (c 0 + (from - 3)) (c 0 + (from - 3)) (omega arith)
      (band_full x ok c a from w first back weights g 0 (from - 3) (omega arith) (omega arith) (omega (arith, g.three, g.low))) _ sources words
      (omega (arith, (g.each 3 (omega arith)).low, g.rows.apart 0 1 (omega arith) (omega arith), g.three, g.low, spaced.0, spaced.1)) s e

  module _ (source m₀ : List ℕ) (long : length m₀ ≡ cells x) where
    abbrev Lined : List ℕ → List ℕ → ℕ → Type 0
    Lined m m' k = m' ≡ store_all (in_line x.distances first back weights x.boundary x.shift source (c k) a) m (row_of (c k) (from - 3))

    pub beside_stored : Spaced (c 0) (c 1) (c 2) (c 3) → (m₁ m₂ m₃ m₄ m₅ : List ℕ) → Lined m₀ m₁ 0 → Lined m₁ m₂ 1 → Lined m₂ m₃ 2 → Lined m₃ m₄ 3
        → m₅ ≡ store_all (made x.distances back weights 0 x.shift source) m₄ (wave_of (c 0 + (from - 3)) (c 1 - c 0) (w - (from - 3)))
        → m₅ ≡ store_all (value x source) m₀ (rows_of c w 4)
    beside_stored spaced m₁ m₂ m₃ m₄ m₅ f₁ f₂ f₃ f₄ e₅ =
        let q = g.three in
        let r = g.low in
        let e₁ = band_line x ok c a from w first back weights g 0 (from - 3) (omega arith) (omega arith) source m₀ m₁ f₁ in
        let e₂ = band_line x ok c a from w first back weights g 1 (from - 3) (omega arith) (omega arith) source m₁ m₂ f₂ in
        let e₃ = band_line x ok c a from w first back weights g 2 (from - 3) (omega arith) (omega arith) source m₂ m₃ f₃ in
        let e₄ = band_line x ok c a from w first back weights g 3 (from - 3) (omega arith) (omega arith) source m₃ m₄ f₄ in
        let s₀ : Front x source m₀ c w 4 m₀ (four 0 0 0 0) =
        front_start x ok source m₀ long c w 4 g.rows (four 0 0 0 0) (each_four (λ k. four 0 0 0 0 k ≡ 0) refl refl refl refl) in
        let s₁ : Front x source m₀ c w 4 m₁ (four (0 + (from - 3)) 0 0 0) =
        rw e₁ (row_0 x ok c a from w first back weights g source m₀ long m₀ 0 0 0 0 s₀ (c 0) (from - 3) (omega arith) (omega arith)) in
        let s₂ : Front x source m₀ c w 4 m₂ (four (0 + (from - 3)) (0 + (from - 3)) 0 0) =
        rw e₂ (row_1 x ok c a from w first back weights g source m₀ long m₁ (0 + (from - 3)) 0 0 0 s₁ (c 1) (from - 3) (omega arith) (omega arith)
        (omega arith)) in
        let s₃ : Front x source m₀ c w 4 m₃ (four (0 + (from - 3)) (0 + (from - 3)) (0 + (from - 3)) 0) =
        rw e₃
        (row_2 x ok c a from w first back weights g source m₀ long m₂ (0 + (from - 3)) (0 + (from - 3)) 0 0 s₂ (c 2) (from - 3) (omega arith) (omega arith)
        (omega arith) (omega arith)) in
        let s₄ : Front x source m₀ c w 4 m₄ (four (0 + (from - 3)) (0 + (from - 3)) (0 + (from - 3)) (0 + (from - 3))) =
        rw e₄
        (row_3 x ok c a from w first back weights g source m₀ long m₃ (0 + (from - 3)) (0 + (from - 3)) (0 + (from - 3)) 0 s₃ (c 3) (from - 3) (omega arith)
        (omega arith) (omega arith) (omega arith) (omega arith)) in
        let v : from - 3 + (w - (from - 3)) ≡ w = omega arith in
        rw e₅
        (front_end x ok source m₀ long c w 4 g.rows _ (λ k. from - 3 + (w - (from - 3)))
        (front_columns x ok source m₀ long c w g.rows (made x.distances back weights 0 x.shift source) (from - 3) spaced (w - (from - 3)) (omega arith)
        (λ k z l h i m. made_is x ok back weights (c k + z) (band_full x ok c a from w first back weights g k z l h i) source m) m₄
        (front_same x ok source m₀ long c w 4 g.rows m₄ _ s₄ (λ k. from - 3)
        (each_four (λ k. from - 3 ≤ four (0 + (from - 3)) (0 + (from - 3)) (0 + (from - 3)) (0 + (from - 3)) k) (omega arith) (omega arith) (omega arith)
        (omega arith))))
        (λ k l. omega arith))
