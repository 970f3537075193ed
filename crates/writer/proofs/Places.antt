-- Where each byte of a nest's recipe stands.
use Prim.Native.Nat.{ℕ, zero, suc, ◌+◌, ◌*◌, ◌<◌}
use mathlib.Core.Path.{◌≡◌, refl, sym, ap, ◌∙◌}
use mathlib.Core.Logic.{◌⊎◌, inl, inr}
use mathlib.Core.Bool.{Bool, true, false}
use mathlib.Core.List.{List, ◌++◌}
use native.Mathlib.Omega.{arith}
use native.Mathlib.Nat.{eq-or-lt_of_le, le_of_suc-le-suc}
use lib.ListN.{length, get_or, length-append, get_or-append}
use lib.Seq.{get_or-append-add}
use Rattle.base.proofs.Tests.{pick_true, pick_false}
use Rattle.nest.specs.declared.Nest.{Nest}
use Rattle.nest.specs.Nest.{component, weight}
use Rattle.nest.specs.Encode.{dimension_record, narrow_record, wide_record, bound_record, close_record, dimension_of, bound_of, narrow, distance_of, joined, encode}

module _ (f : ℕ → List ℕ) (sixteen : (r : ℕ) → length (f r) ≡ 16) where
  pub joined_length : (n : ℕ) → length (joined f n) ≡ 16 * n
  unfolding joined
  joined_length zero = refl
  joined_length (suc n) = let a = joined_length n in simp length-append (omega (arith, sixteen n))

  pub joined_at : (n r i : ℕ) → r < n → i < 16 → get_or (joined f n) (16 * r + i) 0 ≡ get_or (f r) i 0
  unfolding joined
  joined_at zero r i h l = absurd (omega arith)
  joined_at (suc n) r i h l = go (λ k. joined_at n r i k l) (eq-or-lt_of_le (le_of_suc-le-suc h))
    where
      go : (r < n → get_or (joined f n) (16 * r + i) 0 ≡ get_or (f r) i 0) → (r ≡ n) ⊎ (r < n) → get_or (joined f n ++ f n) (16 * r + i) 0 ≡ get_or (f r) i 0
      go ih (inl k) = rw (k, ← joined_length n) (get_or-append-add (joined f n) (f n) i 0)
      go ih (inr k) = get_or-append (joined f n) (f n) 0 (16 * r + i) (rw (joined_length n) (omega arith)) ∙ ih k

module _ (x : Nest) where
  dimension_long : (j : ℕ) → length (dimension_of x j) ≡ 16
  unfolding dimension_of dimension_record
  dimension_long j = refl

  bound_long : (k : ℕ) → length (bound_of x k) ≡ 16
  unfolding bound_of bound_record
  bound_long k = refl

  -- a distance's record by its width
  abbrev narrow_of : ℕ → List ℕ
  narrow_of e = narrow_record (component x e 0) (component x e 1) (component x e 2) (component x e 3) (weight x e)

  abbrev wide_of : ℕ → List ℕ
  wide_of e = wide_record (component x e 0) (component x e 1) (component x e 2) (component x e 3) (weight x e)

  pub spelled_narrow : (e : ℕ) → narrow x e ≡ true → distance_of x e ≡ narrow_of e
  unfolding distance_of
  spelled_narrow e h = pick_true (narrow x e) (narrow_of e) (wide_of e) h

  pub spelled_wide : (e : ℕ) → narrow x e ≡ false → distance_of x e ≡ wide_of e
  unfolding distance_of
  spelled_wide e h = pick_false (narrow x e) (narrow_of e) (wide_of e) h

  distance_long : (e : ℕ) → length (distance_of x e) ≡ 16
  unfolding narrow_record wide_record
  distance_long e = go (narrow x e) refl
    where
      go : (t : Bool) → narrow x e ≡ t → length (distance_of x e) ≡ 16
      go true h = ap length (spelled_narrow e h)
      go false h = ap length (spelled_wide e h)

  close_long : length (close_record x.shift x.boundary) ≡ 16
  unfolding close_record
  close_long = refl

  dimensions_long : length (joined (dimension_of x) x.dimensions) ≡ 16 * x.dimensions
  dimensions_long = joined_length (dimension_of x) dimension_long x.dimensions

  bounds_long : length (joined (bound_of x) x.bounds) ≡ 16 * x.bounds
  bounds_long = joined_length (bound_of x) bound_long x.bounds

  distances_long : length (joined (distance_of x) x.distances) ≡ 16 * x.distances
  distances_long = joined_length (distance_of x) distance_long x.distances

  pub encode_length : length (encode x) ≡ 16 * (x.dimensions + x.bounds + x.distances + 1)
  unfolding encode
  encode_length = simp length-append (omega (arith, dimensions_long, bounds_long, distances_long, close_long))

  pub at_dimension : (j i : ℕ) → j < x.dimensions → i < 16 → get_or (encode x) (16 * j + i) 0 ≡ get_or (dimension_of x j) i 0
  unfolding encode
  at_dimension j i h l =
      get_or-append (joined (dimension_of x) x.dimensions) _ 0 (16 * j + i) (rw dimensions_long (omega arith))
      ∙ joined_at (dimension_of x) dimension_long x.dimensions j i h l

  abbrev tail : List ℕ
  tail = joined (distance_of x) x.distances ++ close_record x.shift x.boundary

  -- behind the dimensions, and behind the bounds
  behind : (k : ℕ) → get_or (encode x) (16 * x.dimensions + k) 0 ≡ get_or (joined (bound_of x) x.bounds ++ tail) k 0
  unfolding encode
  behind k =
      ap (λ (p : ℕ). get_or (encode x) (p + k) 0) (sym dimensions_long) ∙ get_or-append-add (joined (dimension_of x) x.dimensions) _ k 0

  beyond : (k : ℕ) → get_or (encode x) (16 * (x.dimensions + x.bounds) + k) 0 ≡ get_or tail k 0
  beyond k =
      let p : 16 * (x.dimensions + x.bounds) + k ≡ 16 * x.dimensions + (16 * x.bounds + k) = omega arith in
      ap (λ (p : ℕ). get_or (encode x) p 0) p ∙ (behind (16 * x.bounds + k)
      ∙ (ap (λ (p : ℕ). get_or (joined (bound_of x) x.bounds ++ tail) (p + k) 0) (sym bounds_long)
      ∙ get_or-append-add (joined (bound_of x) x.bounds) tail k 0))

  pub at_bound : (k i : ℕ) → k < x.bounds → i < 16 → get_or (encode x) (16 * (x.dimensions + k) + i) 0 ≡ get_or (bound_of x k) i 0
  at_bound k i h l =
      let p : 16 * (x.dimensions + k) + i ≡ 16 * x.dimensions + (16 * k + i) = omega arith in
      ap (λ (p : ℕ). get_or (encode x) p 0) p ∙ (behind (16 * k + i)
      ∙ (get_or-append (joined (bound_of x) x.bounds) _ 0 (16 * k + i) (rw bounds_long (omega arith))
      ∙ joined_at (bound_of x) bound_long x.bounds k i h l))

  pub at_distance : (d i : ℕ) → d < x.distances → i < 16 → get_or (encode x) (16 * (x.dimensions + x.bounds + d) + i) 0 ≡ get_or (distance_of x d) i 0
  at_distance d i h l =
      let p : 16 * (x.dimensions + x.bounds + d) + i ≡ 16 * (x.dimensions + x.bounds) + (16 * d + i) = omega arith in
      ap (λ (p : ℕ). get_or (encode x) p 0) p ∙ (beyond (16 * d + i)
      ∙ (get_or-append (joined (distance_of x) x.distances) _ 0 (16 * d + i) (rw distances_long (omega arith))
      ∙ joined_at (distance_of x) distance_long x.distances d i h l))

  pub at_close : (i : ℕ) → get_or (encode x) (16 * (x.dimensions + x.bounds + x.distances) + i) 0 ≡ get_or (close_record x.shift x.boundary) i 0
  at_close i =
      let p : 16 * (x.dimensions + x.bounds + x.distances) + i ≡ 16 * (x.dimensions + x.bounds) + (16 * x.distances + i) = omega arith in
      ap (λ (p : ℕ). get_or (encode x) p 0) p ∙ (beyond (16 * x.distances + i)
      ∙ (ap (λ (p : ℕ). get_or tail (p + i) 0) (sym distances_long)
      ∙ get_or-append-add (joined (distance_of x) x.distances) (close_record x.shift x.boundary) i 0))
