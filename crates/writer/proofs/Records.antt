-- A nest's records as the code makes them, over plain variables.
use Prim.Native.Nat.{ℕ, ◌+◌, ◌*◌, ◌-◌, ◌≤◌, ◌<◌}
use mathlib.Core.Path.{◌≡◌, sym, ap, ◌∙◌}
use mathlib.Core.Bool.{Bool, true, false}
use mathlib.Core.List.{List}
use native.Mathlib.Omega.{arith}
use lib.ListN.{get_or}
use Rattle.nest.specs.declared.Nest.{Nest}
use Rattle.nest.specs.Nest.{length_of, tile_length, processor_count, component, weight, side, bounded, earlier, slope, bound_offset}
use Rattle.nest.specs.Encode.{dimension_record, narrow_record, wide_record, bound_record, close_record, dimension_of, bound_of, narrow, distance_of, encode}
use Rattle.writer.proofs.Places.{spelled_narrow, spelled_wide, at_dimension, at_bound, at_distance, at_close}

pub bound_is : (x : Nest) (k s d p v w : ℕ) (o : List ℕ) → s ≡ side x k → d ≡ bounded x k → p ≡ earlier x k → v ≡ slope x k → w ≡ bound_offset x k
    → o ≡ bound_record s d p v w → o ≡ bound_of x k
unfolding bound_of
bound_is x k s d p v w o e1 e2 e3 e4 e5 h = rw (e1, e2, e3, e4, e5) at h

pub dimension_is : (x : Nest) (j l t p : ℕ) (o : List ℕ) → l ≡ length_of x j → t ≡ tile_length x j → p ≡ processor_count x j
    → o ≡ dimension_record l t p → o ≡ dimension_of x j
unfolding dimension_of
dimension_is x j l t p o e1 e2 e3 h = rw (e1, e2, e3) at h

module _ (x : Nest) (k p q r s : ℕ) (e1 : p ≡ get_or x.components (4 * k) 0) (e2 : q ≡ component x k 1) (e3 : r ≡ component x k 2)
    (e4 : s ≡ component x k 3) (o : List ℕ) where
  first : p ≡ component x k 0
  first = let z : 4 * k + 0 ≡ 4 * k = omega arith in e1 ∙ sym (ap (λ (i : ℕ). get_or x.components i 0) z)

  pub narrow_is : (t : Bool) → t ≡ narrow x k → t ≡ true → o ≡ narrow_record p q r s (weight x k) → o ≡ distance_of x k
  narrow_is t w y h = (rw (first, e2, e3, e4) at h) ∙ sym (spelled_narrow x k (sym w ∙ y))

  pub wide_is : (t : Bool) → t ≡ narrow x k → t ≡ false → o ≡ wide_record p q r s (weight x k) → o ≡ distance_of x k
  wide_is t w y h = (rw (first, e2, e3, e4) at h) ∙ sym (spelled_wide x k (sym w ∙ y))

-- the loop of `narrow`

-- record r

module _ (x : Nest) (r : ℕ) (o : List ℕ) where
  pub dimension_row : r < x.dimensions → o ≡ dimension_of x r → (i : ℕ) → i < 16 → get_or o i 0 ≡ get_or (encode x) (16 * r + i) 0
  dimension_row h e i l = rw e (sym (at_dimension x r i h l))

  pub bound_row : (k : ℕ) → x.dimensions ≤ r → k ≡ r - x.dimensions → k < x.bounds → o ≡ bound_of x k
      → (i : ℕ) → i < 16 → get_or o i 0 ≡ get_or (encode x) (16 * r + i) 0
  bound_row k m q h e i l =
      let w : r ≡ x.dimensions + k = omega arith in
      rw (e, w) (sym (at_bound x k i h l))

  pub distance_row : (d : ℕ) → x.dimensions ≤ r → x.bounds ≤ r - x.dimensions → d ≡ r - x.dimensions - x.bounds → d < x.distances → o ≡ distance_of x d
      → (i : ℕ) → i < 16 → get_or o i 0 ≡ get_or (encode x) (16 * r + i) 0
  distance_row d m n q h e i l =
      let w : r ≡ x.dimensions + x.bounds + d = omega arith in
      rw (e, w) (sym (at_distance x d i h l))

  pub close_row : x.dimensions ≤ r → x.bounds ≤ r - x.dimensions → r ≤ x.dimensions + x.bounds + x.distances
      → x.distances ≤ r - x.dimensions - x.bounds → o ≡ close_record x.shift x.boundary
      → (i : ℕ) → i < 16 → get_or o i 0 ≡ get_or (encode x) (16 * r + i) 0
  close_row m n h k e i l =
      let w : r ≡ x.dimensions + x.bounds + x.distances = omega arith in
      rw (e, w) (sym (at_close x i))
