-- Laws of rank and place: inverse, bounds and order; and of quotients.
use Prim.Native.Nat.{ℕ, zero, suc, ◌+◌, ◌*◌, ◌/◌, ◌%◌, ◌≤◌, ◌<◌}
use mathlib.Core.Path.{◌≡◌, refl, ◌∙◌}
use mathlib.Core.Logic.{◌⊎◌, inl, inr}
use mathlib.Core.Bool.{Bool, true, false}
use native.Mathlib.Nat.{eq-or-lt_of_le, le_of_suc-le-suc, mul-le-mul_right, mul-lt-mul_of_pos_right, suc-mul, zero-mul, mod-lt, mod-eq_of_lt}
use native.Mathlib.Nat.{mul-add-div_right, mul-add-mod_self_right, div-eq_of_lt, div-add-mod', div-lt_iff_lt-mul, le-div_iff_mul-le, div-mul-le_self}
use native.Mathlib.Nat.{add-div_right}
use native.Mathlib.Decide.{dec_le, ℕ_discrete}
use native.Mathlib.Omega.{arith}
use lib.Dec.{eqb}
use borrow.Author.Tests.{eq-eqb, ne_eqb}
use Rattle.base.specs.Tests.{pick, product}
use Rattle.nest.specs.Places.{rank, place}

abbrev pub Within : (ℕ → ℕ) → (ℕ → ℕ) → ℕ → Type 0
Within N i l = (j : ℕ) → j < l → i j < N j

abbrev pub Positive : (ℕ → ℕ) → ℕ → Type 0
Positive N l = (j : ℕ) → j < l → 1 ≤ N j

-- ---- a component
pub place_last : (N : ℕ → ℕ) (l c : ℕ) → place N (suc l) c l ≡ c % N l
unfolding place pick
place_last N l c = rw (eq-eqb l l refl)

pub place_before : (N : ℕ → ℕ) (l c j : ℕ) → j < l → place N (suc l) c j ≡ place N l (c / N l) j
unfolding place pick
place_before N l c j h = rw (ne_eqb j l (λ (e : j ≡ l). omega arith))

pub place_beyond : (N : ℕ → ℕ) (l c j : ℕ) → l ≤ j → place N l c j ≡ 0
unfolding place pick
place_beyond N zero c j h = refl
place_beyond N (suc l) c j h = rw (ne_eqb j l (λ (e : j ≡ l). omega arith)) (place_beyond N l (c / N l) j (omega arith))

-- number 0 is the place of zeros
pub place_none : (l j : ℕ) → place (λ i. 2) l 0 j ≡ 0
unfolding place pick
place_none zero j = refl
place_none (suc l) j = go (place_none l j) (eqb j l)
  where
    go : place (λ i. 2) l 0 j ≡ 0 → (t : Bool) → pick t (0 % 2) (place (λ i. 2) l (0 / 2) j) ≡ 0
    go h true = refl
    go h false = h

-- below l + 1: the last, or below l
cut : {P : ℕ → Type 0} {l : ℕ} → P l → ((j : ℕ) → j < l → P j) → (j : ℕ) → j < suc l → P j
cut {P} {l} a b j h = go (eq-or-lt_of_le (le_of_suc-le-suc h))
  where
    go : (j ≡ l) ⊎ (j < l) → P j
    go (inl e) = rw e a
    go (inr k) = b j k

pub place_low : (N : ℕ → ℕ) (l c : ℕ) → Positive N l → Within N (place N l c) l
place_low N zero c p j h = absurd (omega arith)
place_low N (suc l) c p j h =
    cut {P = λ j. place N (suc l) c j < N j}
    (rw (place_last N l c) (mod-lt c (p l (omega arith))))
    (λ o k. rw (place_before N l c o k) (place_low N l (c / N l) (λ q b. p q (omega arith)) o k))
    j h

-- ---- the two are inverse
pub rank_low : (N i : ℕ → ℕ) (l : ℕ) → Within N i l → rank N i l < product N l
unfolding rank product
rank_low N i zero w = omega arith
rank_low N i (suc l) w =
    omega (arith, mul-le-mul_right (N l) (rank_low N i l (λ j h. w j (omega arith))), suc-mul (rank N i l) (N l), w l (omega arith))

pub rank_same : (N i k : ℕ → ℕ) (l : ℕ) → ((j : ℕ) → j < l → i j ≡ k j) → rank N i l ≡ rank N k l
unfolding rank
rank_same N i k zero e = refl
rank_same N i k (suc l) e = rw (rank_same N i k l (λ j h. e j (omega arith)), e l (omega arith))

pub place_rank : (N i : ℕ → ℕ) (l : ℕ) → Within N i l → (j : ℕ) → j < l → place N l (rank N i l) j ≡ i j
unfolding rank
place_rank N i zero w j h = absurd (omega arith)
place_rank N i (suc l) w j h =
    let low : i l < N l = w l (omega arith) in
    let pos : 0 < N l = omega arith in
    let quotient : (rank N i l * N l + i l) / N l ≡ rank N i l = omega (arith, mul-add-div_right pos (rank N i l) (i l), div-eq_of_lt low) in
    cut {P = λ j. place N (suc l) (rank N i l * N l + i l) j ≡ i j}
    (place_last N l _ ∙ (mul-add-mod_self_right (rank N i l) (N l) (i l) ∙ mod-eq_of_lt low))
    (λ o k. rw (place_before N l (rank N i l * N l + i l) o k, quotient) (place_rank N i l (λ q b. w q (omega arith)) o k))
    j h

pub rank_place : (N : ℕ → ℕ) (l c : ℕ) → Positive N l → c < product N l → rank N (place N l c) l ≡ c
unfolding rank product
rank_place N zero c p h = omega arith
rank_place N (suc l) c p h =
    let q : c / N l < product N l = (div-lt_iff_lt-mul (p l (omega arith))).1 h in
    rw (rank_same N (place N (suc l) c) (place N l (c / N l)) l (place_before N l c), rank_place N l (c / N l) (λ j k. p j (omega arith)) q, place_last N l c)
    (div-add-mod' c (N l))

-- ---- order
pub rank_le : (N i k : ℕ → ℕ) (l : ℕ) → ((j : ℕ) → j < l → i j ≤ k j) → rank N i l ≤ rank N k l
unfolding rank
rank_le N i k zero e = omega arith
rank_le N i k (suc l) e = omega (arith, mul-le-mul_right (N l) (rank_le N i k l (λ j h. e j (omega arith))), e l (omega arith))

pub rank_lt : (N i k : ℕ → ℕ) (l q : ℕ) → Positive N l → ((j : ℕ) → j < l → i j ≤ k j) → q < l → i q < k q → rank N i l < rank N k l
unfolding rank
rank_lt N i k zero q p e h s = absurd (omega arith)
rank_lt N i k (suc l) q p e h s = go (λ r. rank_lt N i k l q (λ j b. p j (omega arith)) (λ j b. e j (omega arith)) r s) (eq-or-lt_of_le (le_of_suc-le-suc h))
  where
    go : (q < l → rank N i l < rank N k l) → (q ≡ l) ⊎ (q < l) → rank N i l * N l + i l < rank N k l * N l + k l
    go ih (inl r) =
        let t : i l < k l = rw (← r) s in
        omega (arith, mul-le-mul_right (N l) (rank_le N i k l (λ j b. e j (omega arith))))
    go ih (inr r) = omega (arith, mul-lt-mul_of_pos_right (ih r) (p l (omega arith)), e l (omega arith))

-- a rank above 0 has a component above 0
pub rank_some : (N i : ℕ → ℕ) (l : ℕ) → 1 ≤ rank N i l → (q : ℕ) × (q < l) × (1 ≤ i q)
unfolding rank
rank_some N i zero h = absurd (omega arith)
rank_some N i (suc l) h = go (rank_some N i l) (dec_le 1 (i l)) (ℕ_discrete (rank N i l) 0)
  where
    go : (1 ≤ rank N i l → (q : ℕ) × (q < l) × (1 ≤ i q)) → Dec (1 ≤ i l) → Dec (rank N i l ≡ 0) → (q : ℕ) × (q < suc l) × (1 ≤ i q)
    go ih (yes a) z = (l, omega arith, a)
    go ih (no a) (no z) = let r = ih (omega arith) in (r.0, omega arith, r.2)
    go ih (no a) (yes z) = let w : 1 ≤ 0 * N l + i l = rw z at h in absurd (omega (arith, zero-mul (N l)))

-- ---- quotients
pub div_le : (k a b : ℕ) → 1 ≤ k → a ≤ b → a / k ≤ b / k
div_le k a b p h = (le-div_iff_mul-le p).1 (omega (arith, div-mul-le_self a k))

-- a step of at most k crosses at most one seam
pub div_step : (k r d : ℕ) → 1 ≤ k → d ≤ k → (r / k ≤ (r + d) / k) × ((r + d) / k ≤ suc (r / k))
div_step k r d p h = (div_le k r (r + d) p (omega arith), omega (arith, div_le k (r + d) (r + k) p (omega arith), add-div_right r p))

-- ---- the same lengths

pub product_same : (N M : ℕ → ℕ) (l : ℕ) → ((j : ℕ) → j < l → N j ≡ M j) → product N l ≡ product M l
unfolding product
product_same N M zero h = refl
product_same N M (suc l) h = rw (product_same N M l (λ j k. h j (omega arith)), h l (omega arith))

pub place_lengths : (N M : ℕ → ℕ) (l c j : ℕ) → ((j : ℕ) → j < l → N j ≡ M j) → place N l c j ≡ place M l c j
unfolding place
place_lengths N M zero c j h = refl
place_lengths N M (suc l) c j h = rw (h l (omega arith), place_lengths N M l (c / M l) j (λ q k. h q (omega arith)))
