-- Every recipe that the reader accepts is rebuilt byte for byte from what was read: `rebuilt`.
use Prim.Native.Nat.{ℕ, zero, suc, ◌+◌, ◌*◌, ◌-◌, ◌/◌, ◌%◌, ◌≤◌, ◌<◌}
use mathlib.Core.Path.{◌≡◌, refl, sym, ap, ◌∙◌}
use mathlib.Core.Logic.{◌≢◌, ◌⊎◌, inl, inr}
use mathlib.Core.Bool.{true, false}
use mathlib.Core.List.{List, [], ◌∷◌, ◌++◌}
use native.Mathlib.Omega.{arith}
use native.Mathlib.Decide.{dec_lt}
use lib.ListN.{length, get_or, replicate, get_or-replicate}
use lib.Seq.{ext_get_or}
use lib.Dec.{eqb, ltb}
use borrow.Author.Tests.{eqb-true, eq-eqb, lt-ltb, ltb-true}
use Rattle.base.specs.Tests.{every}
use Rattle.base.specs.Lists.{Bytes}
use Rattle.base.specs.Numbers.{first_of}
use Rattle.base.proofs.Tests.{both, either, neither, and_left, true_not, is_false, never_both, every_at, every_all, none_some}
use Rattle.base.proofs.Numbers.{none_first}
use Rattle.nest.specs.Nest.{length_of, tile_length, processor_count, component, weight, side, bounded, earlier, slope, bound_offset}
use Rattle.base.specs.Bytes.{half, word}
use Rattle.nest.specs.Reader.{records, kind, of_kind, distances_of, component_at, weight_at, slope_at, offset_at, nest_by, nest_of, ragged, blank}
use Rattle.nest.specs.Reader.{bound_fits, checked, fits_at, stray_record, bad_length, too_large, narrow_at, needlessly_wide, nest_lines, read_lines}
use Rattle.nest.proofs.Laws.{Formed, filled_in, stands_first, stands_bound, stands_between, stands_last, component_wide, component_narrow}
use Rattle.nest.proofs.Laws.{weight_wide, weight_narrow, checked_plain, checked_close, checked_wide, checked_bound}
use Rattle.nest.proofs.Facts.{stray_no}
use Rattle.nest.specs.Encode.{low, high, dimension_record, narrow_record, wide_record, bound_record, close_record, dimension_of, bound_of, narrow, distance_of, encode}
use Rattle.writer.proofs.Places.{spelled_narrow, spelled_wide, encode_length, at_dimension, at_bound, at_distance, at_close}

-- g begins with the list's numbers
abbrev Begins : (ℕ → ℕ) → List ℕ → Type 0
Begins g [] = Unit {0}
Begins g (a ∷ l) = (a ≡ g 0) × Begins (λ i. g (suc i)) l

-- a record is given by its first bytes where the others are zero
row : (l : List ℕ) (k : ℕ) (g : ℕ → ℕ) → Begins g l → ((i : ℕ) → length l ≤ i → i < length l + k → g i ≡ 0)
    → (i : ℕ) → i < length l + k → get_or (l ++ replicate k 0) i 0 ≡ g i
row [] k g e z i h = get_or-replicate {A = ℕ} k i 0 0 (omega arith) ∙ sym (z i (omega arith) h)
row (a ∷ l) k g e z zero h = e.0
row (a ∷ l) k g e z (suc i) h = row l k (λ j. g (suc j)) e.1 (λ j m q. z (suc j) (omega arith) (omega arith)) i (omega arith)

first_byte : (b : List ℕ) (p k : ℕ) → get_or b p 0 ≡ k → k ≡ get_or b (p + 0) 0
first_byte b p k e = let w : p + 0 ≡ p = omega arith in rw w (sym e)

module _ (b : List ℕ) (bytes : Bytes b) where
  byte_of : (v p q : ℕ) → v ≡ get_or b p 0 → q ≡ p → low v ≡ get_or b q 0
  byte_of v p q e k = rw k (omega (arith, bytes p))

  low_of : (v p q : ℕ) → v ≡ half b p → q ≡ p → low v ≡ get_or b q 0
  low_of v p q e k = rw k (omega (arith, bytes p, bytes (p + 1)))

  high_of : (v p q : ℕ) → v ≡ half b p → q ≡ p + 1 → high v ≡ get_or b q 0
  high_of v p q e k = rw k (omega (arith, bytes p, bytes (p + 1)))

  word_low : (v p : ℕ) → v ≡ word b p → low v ≡ low (half b p)
  word_low v p e = omega (arith, bytes p, bytes (p + 1))

  word_high : (v p : ℕ) → v ≡ word b p → high v ≡ high (half b p)
  word_high v p e = omega (arith, bytes p, bytes (p + 1))

  word_top : (v p : ℕ) → v ≡ word b p → v / 65536 ≡ half b (p + 2)
  word_top v p e = omega (arith, bytes p, bytes (p + 1))

  slope_of : (v p q : ℕ) → v ≡ (get_or b p 0 + 1) % 256 → q ≡ p → low (v + 255) ≡ get_or b q 0
  slope_of v p q e k = rw k (omega (arith, bytes p))

  offset_low : (v p q : ℕ) → v ≡ (half b p + 32768) % 65536 → q ≡ p → low (v + 32768) ≡ get_or b q 0
  offset_low v p q e k = rw k (omega (arith, bytes p, bytes (p + 1)))

  offset_high : (v p q : ℕ) → v ≡ (half b p + 32768) % 65536 → q ≡ p + 1 → high (v + 32768) ≡ get_or b q 0
  offset_high v p q e k = rw k (omega (arith, bytes p, bytes (p + 1)))

  blank_at : (p n q : ℕ) → blank b p n ≡ true → p ≤ q → q < p + n → get_or b q 0 ≡ 0
  unfolding blank
  blank_at p n q h l k =
      let w : q ≡ p + (q - p) = omega arith in
      ap (λ (z : ℕ). get_or b z 0) w ∙ eqb-true _ _ (every_at _ n h (q - p) (omega arith))

  module _ (n m e : ℕ) (f : Formed b n m e) where
    fit_at : (r : ℕ) → r < n + m + e + 1 → fits_at b n m e r ≡ true
    fit_at r h = every_at (fits_at b n m e) (records b) f.fit r (rw f.total h)

    -- the checks of a record of kind k
    checked_at : (r k : ℕ) → r < n + m + e + 1 → kind b r ≡ k → checked b n r k ≡ true
    unfolding fits_at
    checked_at r k h w = ap (checked b n r) (sym w) ∙ (both (fit_at r h)).1

    plain_fit : (r k : ℕ) → r < n + m + e + 1 → kind b r ≡ k → (k ≡ 1) ⊎ (k ≡ 2)
        → (get_or b (16 * r + 1) 0 ≡ 0) × ((i : ℕ) → 8 ≤ i → i < 16 → get_or b (16 * r + i) 0 ≡ 0)
    plain_fit r k h w c =
        let q = both (sym (checked_plain b n r k c) ∙ checked_at r k h w) in (
          blank_at (16 * r + 1) 1 (16 * r + 1) q.0 (omega arith) (omega arith),
          λ i l o. blank_at (16 * r + 8) 8 (16 * r + i) q.1 (omega arith) (omega arith),
        )

    wide_fit : (r : ℕ) → r < n + m + e + 1 → kind b r ≡ 4
        → (get_or b (16 * r + 1) 0 ≡ 0) × ((i : ℕ) → 12 ≤ i → i < 16 → get_or b (16 * r + i) 0 ≡ 0)
    wide_fit r h w =
        let q = both (sym (checked_wide b n r 4 refl) ∙ checked_at r 4 h w) in (
          blank_at (16 * r + 1) 1 (16 * r + 1) q.0 (omega arith) (omega arith),
          λ i l o. blank_at (16 * r + 12) 4 (16 * r + i) q.1 (omega arith) (omega arith),
        )

    dimension_kind : (r : ℕ) → r < n → kind b r ≡ 1
    unfolding fits_at
    dimension_kind r h = eqb-true _ _ (sym (stands_first n m e r _ h) ∙ (both (fit_at r (omega arith))).0)

    distance_kind : (r : ℕ) → n + m ≤ r → r < n + m + e → (kind b r ≡ 2) ⊎ (kind b r ≡ 4)
    unfolding fits_at
    distance_kind r l h = go (either (sym (stands_between n m e r _ (omega arith) l h) ∙ (both (fit_at r (omega arith))).0))
      where
        go : (eqb (kind b r) 2 ≡ true) ⊎ (eqb (kind b r) 4 ≡ true) → (kind b r ≡ 2) ⊎ (kind b r ≡ 4)
        go (inl q) = inl (eqb-true _ _ q)
        go (inr q) = inr (eqb-true _ _ q)

    close_fit : (r : ℕ) → r ≡ n + m + e
        → (get_or b (16 * r) 0 ≡ 3) × (((i : ℕ) → 2 ≤ i → i < 4 → get_or b (16 * r + i) 0 ≡ 0) × ((i : ℕ) → 8 ≤ i → i < 16 → get_or b (16 * r + i) 0 ≡ 0))
    unfolding fits_at
    close_fit r h =
        let p = both (fit_at r (omega arith)) in
        let w : kind b r ≡ 3 = eqb-true _ _ (sym (stands_last n m e r _ (omega arith) (omega arith) (omega arith)) ∙ p.0) in
        let q = both (both (sym (checked_close b n r 3 refl) ∙ (ap (checked b n r) (sym w) ∙ p.1))).1 in (
          w,
          (
            λ i l o. blank_at (16 * r + 2) 2 (16 * r + i) q.0 (omega arith) (omega arith),
            λ i l o. blank_at (16 * r + 8) 8 (16 * r + i) q.1 (omega arith) (omega arith),
          ),
        )

    bound_kind : (k : ℕ) → k < m → kind b (n + k) ≡ 5
    unfolding fits_at
    bound_kind k h = eqb-true _ _ (sym (stands_bound n m e (n + k) _ (omega arith) (omega arith)) ∙ (both (fit_at (n + k) (omega arith))).0)

    -- a bound's slope is one, and its unnamed bytes are zero
    bound_fit : (k : ℕ) → k < m → (slope_at b (n + k) < 3) × ((get_or b (16 * (n + k) + 5) 0 ≡ 0) × ((i : ℕ) → 8 ≤ i → i < 16 → get_or b (16 * (n + k) + i) 0 ≡ 0))
    unfolding bound_fits
    bound_fit k h =
        let p1 = both (sym (checked_bound b n (n + k) 5 refl) ∙ checked_at (n + k) 5 (omega arith) (bound_kind k h)) in
        let p2 = both p1.1 in
        let p3 = both p2.1 in
        let p4 = both p3.1 in
        let p5 = both p4.1 in (
          ltb-true _ 3 p4.0,
          (
            blank_at (16 * (n + k) + 5) 1 (16 * (n + k) + 5) p5.0 (omega arith) (omega arith),
            λ i l o. blank_at (16 * (n + k) + 8) 8 (16 * (n + k) + i) p5.1 (omega arith) (omega arith),
          ),
        )

    side_is : (k : ℕ) → k < m → side (nest_by b n m e) k ≡ get_or b (16 * (n + k) + 1) 0
    unfolding nest_by
    side_is k h = filled_in 4 _ m k h f.bounds_most

    bounded_is : (k : ℕ) → k < m → bounded (nest_by b n m e) k ≡ get_or b (16 * (n + k) + 2) 0
    unfolding nest_by
    bounded_is k h = filled_in 4 _ m k h f.bounds_most

    earlier_is : (k : ℕ) → k < m → earlier (nest_by b n m e) k ≡ get_or b (16 * (n + k) + 3) 0
    unfolding nest_by
    earlier_is k h = filled_in 4 _ m k h f.bounds_most

    slope_is : (k : ℕ) → k < m → slope (nest_by b n m e) k ≡ slope_at b (n + k)
    unfolding nest_by
    slope_is k h = filled_in 4 _ m k h f.bounds_most

    offset_is : (k : ℕ) → k < m → bound_offset (nest_by b n m e) k ≡ offset_at b (n + k)
    unfolding nest_by
    offset_is k h = filled_in 4 _ m k h f.bounds_most

    length_is : (j : ℕ) → j < n → length_of (nest_by b n m e) j ≡ half b (16 * j + 2)
    unfolding nest_by
    length_is j h = filled_in 4 _ n j h f.dimensions_most

    tile_is : (j : ℕ) → j < n → tile_length (nest_by b n m e) j ≡ half b (16 * j + 4)
    unfolding nest_by
    tile_is j h = filled_in 4 _ n j h f.dimensions_most

    count_is : (j : ℕ) → j < n → processor_count (nest_by b n m e) j ≡ half b (16 * j + 6)
    unfolding nest_by
    count_is j h = filled_in 4 _ n j h f.dimensions_most

    component_is : (d j : ℕ) → d < e → j < 4 → component (nest_by b n m e) d j ≡ component_at b (n + m + d) j
    unfolding nest_by
    component_is d j h l =
        let p : (4 * d + j) / 4 ≡ d = omega arith in
        let q : (4 * d + j) % 4 ≡ j = omega arith in
        filled_in 32 _ (4 * e) (4 * d + j) (omega arith) (omega (arith, f.distances_most))
        ∙ (ap (λ (z : ℕ). component_at b (n + m + z) ((4 * d + j) % 4)) p ∙ ap (component_at b (n + m + d)) q)

    weight_is : (d : ℕ) → d < e → weight (nest_by b n m e) d ≡ weight_at b (n + m + d)
    unfolding nest_by
    weight_is d h = filled_in 8 _ e d h f.distances_most

    dimension_same : (r i : ℕ) → r < n → i < 16 → get_or (dimension_of (nest_by b n m e) r) i 0 ≡ get_or b (16 * r + i) 0
    unfolding dimension_of dimension_record
    dimension_same r i h l =
        let k = dimension_kind r h in
        let q = plain_fit r 1 (omega arith) k (inl refl) in
        row (_ ∷ _ ∷ _ ∷ _ ∷ _ ∷ _ ∷ _ ∷ _ ∷ []) 8 (λ k. get_or b (16 * r + k) 0) (
          first_byte b _ _ k,
          (
            sym q.0,
            (
              low_of _ (16 * r + 2) _ (length_is r h) (omega arith),
              (
                high_of _ (16 * r + 2) _ (length_is r h) (omega arith),
                (
                  low_of _ (16 * r + 4) _ (tile_is r h) (omega arith),
                  (
                    high_of _ (16 * r + 4) _ (tile_is r h) (omega arith),
                    (low_of _ (16 * r + 6) _ (count_is r h) (omega arith), (high_of _ (16 * r + 6) _ (count_is r h) (omega arith), tt)),
                  ),
                ),
              ),
            ),
          ),
        )
        q.1 i l

    bound_same : (k i : ℕ) → k < m → i < 16 → get_or (bound_of (nest_by b n m e) k) i 0 ≡ get_or b (16 * (n + k) + i) 0
    unfolding bound_of bound_record
    bound_same k i h l =
        let q = bound_fit k h in
        row (_ ∷ _ ∷ _ ∷ _ ∷ _ ∷ _ ∷ _ ∷ _ ∷ []) 8 (λ o. get_or b (16 * (n + k) + o) 0) (
          first_byte b _ _ (bound_kind k h),
          (
            byte_of _ (16 * (n + k) + 1) _ (side_is k h) refl,
            (
              byte_of _ (16 * (n + k) + 2) _ (bounded_is k h) refl,
              (
                byte_of _ (16 * (n + k) + 3) _ (earlier_is k h) refl,
                (
                  slope_of _ (16 * (n + k) + 4) _ (slope_is k h) refl,
                  (
                    sym q.1.0,
                    (offset_low _ (16 * (n + k) + 6) _ (offset_is k h) refl, (offset_high _ (16 * (n + k) + 6) _ (offset_is k h) (omega arith), tt)),
                  ),
                ),
              ),
            ),
          ),
        )
        q.1.1 i l

    -- a distance of kind 2: its components are bytes, so it is spelled with kind 2
    module _ (d : ℕ) (h : d < e) (k : kind b (n + m + d) ≡ 2) where
      no_wide : kind b (n + m + d) ≢ 4
      no_wide q = omega (arith, k, q)

      byte_is : (j : ℕ) → j < 4 → component (nest_by b n m e) d j ≡ get_or b (16 * (n + m + d) + (2 + j)) 0
      byte_is j l = component_is d j h l ∙ sym (component_narrow b (n + m + d) j no_wide)

      narrow_kept : narrow (nest_by b n m e) d ≡ true
      unfolding narrow
      narrow_kept = every_all _ 4 (λ j l. lt-ltb (component (nest_by b n m e) d j) 256 (omega (arith, byte_is j l, bytes (16 * (n + m + d) + (2 + j)))))

      narrow_same : (i : ℕ) → i < 16 → get_or (distance_of (nest_by b n m e) d) i 0 ≡ get_or b (16 * (n + m + d) + i) 0
      unfolding narrow_record
      narrow_same i l =
          let q = plain_fit (n + m + d) 2 (omega arith) k (inr refl) in
          let w = weight_is d h ∙ sym (weight_narrow b (n + m + d) no_wide) in
          ap (λ (z : List ℕ). get_or z i 0) (spelled_narrow (nest_by b n m e) d narrow_kept)
          ∙ row (_ ∷ _ ∷ _ ∷ _ ∷ _ ∷ _ ∷ _ ∷ _ ∷ []) 8 (λ k. get_or b (16 * (n + m + d) + k) 0) (
            first_byte b _ _ k,
            (
              sym q.0,
              (
                byte_of _ (16 * (n + m + d) + (2 + 0)) _ (byte_is 0 (omega arith)) (omega arith),
                (
                  byte_of _ (16 * (n + m + d) + (2 + 1)) _ (byte_is 1 (omega arith)) (omega arith),
                  (
                    byte_of _ (16 * (n + m + d) + (2 + 2)) _ (byte_is 2 (omega arith)) (omega arith),
                    (
                      byte_of _ (16 * (n + m + d) + (2 + 3)) _ (byte_is 3 (omega arith)) (omega arith),
                      (low_of _ (16 * (n + m + d) + 6) _ w (omega arith), (high_of _ (16 * (n + m + d) + 6) _ w (omega arith), tt)),
                    ),
                  ),
                ),
              ),
            ),
          )
          q.1 i l

    -- one of kind 4: line 18 says that some component is no byte, so it is spelled with kind 4
    module _ (needed : needlessly_wide b ≡ false) (d : ℕ) (h : d < e) (k : kind b (n + m + d) ≡ 4) where
      half_is : (j : ℕ) → j < 4 → component (nest_by b n m e) d j ≡ half b (16 * (n + m + d) + (2 + 2 * j))
      half_is j l = component_is d j h l ∙ sym (component_wide b (n + m + d) j k)

      not_all : every (λ j. ltb (component_at b (n + m + d) j) 256) 4 ≡ false
      unfolding needlessly_wide
      not_all =
          sym (and_left (eqb (kind b (n + m + d)) 4) _ (eq-eqb (kind b (n + m + d)) 4 k))
          ∙ none_some (narrow_at b) (records b) needed (n + m + d) (rw f.total (omega arith))

      wide_kept : narrow (nest_by b n m e) d ≡ false
      unfolding narrow
      wide_kept =
          is_false (λ t. never_both
          (every_all _ 4 (λ j l. ap (λ (v : ℕ). ltb v 256) (sym (component_is d j h l)) ∙ every_at (λ j. ltb (component (nest_by b n m e) d j) 256) 4 t
          j l)) not_all)

      wide_same : (i : ℕ) → i < 16 → get_or (distance_of (nest_by b n m e) d) i 0 ≡ get_or b (16 * (n + m + d) + i) 0
      unfolding wide_record
      wide_same i l =
          let q = wide_fit (n + m + d) (omega arith) k in
          let w = weight_is d h ∙ sym (weight_wide b (n + m + d) k) in
          ap (λ (z : List ℕ). get_or z i 0) (spelled_wide (nest_by b n m e) d wide_kept)
          ∙ row (_ ∷ _ ∷ _ ∷ _ ∷ _ ∷ _ ∷ _ ∷ _ ∷ _ ∷ _ ∷ _ ∷ _ ∷ []) 4 (λ k. get_or b (16 * (n + m + d) + k) 0) (
            first_byte b _ _ k,
            (
              sym q.0,
              (
                low_of _ (16 * (n + m + d) + (2 + 2 * 0)) _ (half_is 0 (omega arith)) (omega arith),
                (
                  high_of _ (16 * (n + m + d) + (2 + 2 * 0)) _ (half_is 0 (omega arith)) (omega arith),
                  (
                    low_of _ (16 * (n + m + d) + (2 + 2 * 1)) _ (half_is 1 (omega arith)) (omega arith),
                    (
                      high_of _ (16 * (n + m + d) + (2 + 2 * 1)) _ (half_is 1 (omega arith)) (omega arith),
                      (
                        low_of _ (16 * (n + m + d) + (2 + 2 * 2)) _ (half_is 2 (omega arith)) (omega arith),
                        (
                          high_of _ (16 * (n + m + d) + (2 + 2 * 2)) _ (half_is 2 (omega arith)) (omega arith),
                          (
                            low_of _ (16 * (n + m + d) + (2 + 2 * 3)) _ (half_is 3 (omega arith)) (omega arith),
                            (
                              high_of _ (16 * (n + m + d) + (2 + 2 * 3)) _ (half_is 3 (omega arith)) (omega arith),
                              (low_of _ (16 * (n + m + d) + 10) _ w (omega arith), (high_of _ (16 * (n + m + d) + 10) _ w (omega arith), tt)),
                            ),
                          ),
                        ),
                      ),
                    ),
                  ),
                ),
              ),
            ),
          )
          q.1 i l

    distance_same : needlessly_wide b ≡ false → (d i : ℕ) → d < e → i < 16 → get_or (distance_of (nest_by b n m e) d) i 0 ≡ get_or b (16 * (n + m + d) + i) 0
    distance_same w d i h l = go (distance_kind (n + m + d) (omega arith) (omega arith))
      where
        go : (kind b (n + m + d) ≡ 2) ⊎ (kind b (n + m + d) ≡ 4) → get_or (distance_of (nest_by b n m e) d) i 0 ≡ get_or b (16 * (n + m + d) + i) 0
        go (inl k) = narrow_same d h k i l
        go (inr k) = wide_same w d h k i l

    close_same : (i : ℕ) → i < 16 → get_or (close_record (nest_by b n m e).shift (nest_by b n m e).boundary) i 0 ≡ get_or b (16 * (n + m + e) + i) 0
    unfolding close_record nest_by
    close_same i l =
        let q = close_fit (n + m + e) refl in
        let p : ℕ = 16 * (n + m + e) + 4 in
        row (_ ∷ _ ∷ _ ∷ _ ∷ _ ∷ _ ∷ _ ∷ _ ∷ []) 8 (λ k. get_or b (16 * (n + m + e) + k) 0) (
          first_byte b _ _ q.0,
          (
            byte_of _ (16 * (n + m + e) + 1) _ refl refl,
            (
              sym (q.1.0 2 (omega arith) (omega arith)),
              (
                sym (q.1.0 3 (omega arith) (omega arith)),
                (
                  word_low _ p refl ∙ low_of _ p _ refl refl,
                  (
                    word_high _ p refl ∙ high_of _ p _ refl (omega arith),
                    (
                      low_of _ (p + 2) _ (word_top _ p refl) (omega arith),
                      (high_of _ (p + 2) _ (word_top _ p refl) (omega arith), tt),
                    ),
                  ),
                ),
              ),
            ),
          ),
        )
        q.1.1 i l

    whole : length b % 16 ≡ 0 → length b ≡ 16 * (n + m + e + 1)
    whole h = omega (arith, f.total)

    sizes : ((nest_by b n m e).dimensions ≡ n) × ((nest_by b n m e).distances ≡ e)
    unfolding nest_by
    sizes = (refl, refl)

    byte_same : needlessly_wide b ≡ false → (r i : ℕ) → r < n + m + e + 1 → i < 16 → get_or (encode (nest_by b n m e)) (16 * r + i) 0 ≡ get_or b (16 * r + i) 0
    unfolding nest_by
    byte_same s r i h l = go (dec_lt r n) (dec_lt r (n + m)) (dec_lt r (n + m + e))
      where
        go : Dec (r < n) → Dec (r < n + m) → Dec (r < n + m + e) → get_or (encode (nest_by b n m e)) (16 * r + i) 0 ≡ get_or b (16 * r + i) 0
        go (yes k) o q = at_dimension (nest_by b n m e) r i k l ∙ dimension_same r i k l
        go (no k) (yes o) q =
            let w : r ≡ n + (r - n) = omega arith in
            rw w (at_bound (nest_by b n m e) (r - n) i (omega arith) l ∙ bound_same (r - n) i (omega arith) l)
        go (no k) (no o) (yes q) =
            let w : r ≡ n + m + (r - (n + m)) = omega arith in
            rw w (at_distance (nest_by b n m e) (r - (n + m)) i (omega arith) l ∙ distance_same s (r - (n + m)) i (omega arith) l)
        go (no k) (no o) (no q) =
            let w : r ≡ n + m + e = omega arith in
            rw w (at_close (nest_by b n m e) i ∙ close_same i l)

    pub rebuilt_by : needlessly_wide b ≡ false → length b % 16 ≡ 0 → encode (nest_by b n m e) ≡ b
    unfolding nest_by
    rebuilt_by s h =
        ext_get_or 0 (encode (nest_by b n m e)) b (encode_length (nest_by b n m e) ∙ sym (whole h))
        (λ p l. go p (rw (encode_length (nest_by b n m e)) at l))
      where
        go : (p : ℕ) → p < 16 * (n + m + e + 1) → get_or (encode (nest_by b n m e)) p 0 ≡ get_or b p 0
        go p l =
            let w : p ≡ 16 * (p / 16) + p % 16 = omega arith in
            rw w (byte_same s (p / 16) (p % 16) (omega arith) (omega arith))

even : (b : List ℕ) → ragged b ≡ false → length b % 16 ≡ 0
unfolding ragged
even b h = eqb-true _ _ (true_not (neither h).1)

pub rebuilt : (b : List ℕ) → Bytes b → first_of (read_lines b) ≡ 0 → encode (nest_of b) ≡ b
unfolding read_lines nest_lines nest_of
rebuilt b bytes h =
    let p1 = none_first 1 (ragged b) _ (λ e. omega arith) h in
    let p2 = none_first 2 (stray_record b) _ (λ e. omega arith) p1.1 in
    let p3 = none_first 3 (bad_length (nest_of b)) _ (λ e. omega arith) p2.1 in
    let p4 = none_first 4 (too_large (nest_of b)) _ (λ e. omega arith) p3.1 in
    let p18 = none_first 18 (needlessly_wide b) _ (λ e. omega arith) p4.1 in
    rebuilt_by b bytes (of_kind b 1) (of_kind b 5) (distances_of b) (stray_no b p2.0) p18.0 (even b p1.0)
