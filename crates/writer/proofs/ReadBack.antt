-- The bytes of a nest that fits read back to it, `read_back`; of line 2 the counts and the shift are left, `stray_is`.
use Prim.Native.Nat.{ℕ, zero, suc, ◌+◌, ◌*◌, ◌-◌, ◌/◌, ◌%◌, ◌≤◌, ◌<◌}
use mathlib.Core.Path.{◌≡◌, refl, sym, ap, ◌∙◌}
use mathlib.Core.Logic.{◌⊎◌, inl, inr, ⊎_elim}
use mathlib.Core.Bool.{Bool, true, false}
use mathlib.Core.List.{List, [], ◌∷◌, ◌++◌}
use native.Mathlib.Omega.{arith}
use native.Mathlib.Decide.{dec_lt}
use lib.ListN.{length, get_or, replicate, get_or-replicate}
use lib.Seq.{ext_get_or, get_or-append-add}
use lib.Dec.{eqb, ltb, leb}
use borrow.Author.Tests.{eq-eqb, eqb-true, ne_eqb, lt-ltb, le-ltb, ltb-true, le-leb}
use Rattle.base.specs.Tests.{◌and◌, ◌or◌, not, pick, every, keep, those}
use Rattle.base.specs.Numbers.{first_of}
use Rattle.base.proofs.Numbers.{first_true, first_false}
use Rattle.base.proofs.Tests.{and_left, and_true, and_no, or_left, or_right, or_false, not-true, is_true, is_false, never_both}
use Rattle.base.proofs.Tests.{every_at, every_all, some_none, pick_true, pick_false, tabulate_at}
use Rattle.base.proofs.Select.{keep_more, keep_none, keep_same}
use Rattle.nest.specs.declared.Nest.{Nest}
use Rattle.nest.specs.Nest.{length_of, tile_length, processor_count, component, weight, side, bounded, earlier, slope, bound_offset}
use Rattle.base.specs.Bytes.{half, word}
use Rattle.nest.specs.Reader.{records, kind, of_kind, distances_of, component_at, weight_at, slope_at, offset_at, filled, nest_by, nest_of}
use Rattle.nest.specs.Reader.{ragged, blank, fits_at, well_formed, stray_record, narrow_at, needlessly_wide, nest_lines, read_lines}
use Rattle.nest.proofs.Laws.{Formed, filled_length, made, stands_first, stands_bound, stands_between, stands_last, component_wide, component_narrow}
use Rattle.nest.proofs.Laws.{weight_wide, weight_narrow, other_kind, checked_plain, checked_close, checked_wide, checked_bound, bound_left}
use Rattle.nest.proofs.Facts.{stray_no, shift_in, bound_in}
use Rattle.nest.specs.Encode.{low, high, dimension_record, narrow_record, wide_record, bound_record, close_record, dimension_of, bound_of, narrow, distance_of, encode}
use Rattle.writer.proofs.Fitting.{Table, Fits}
use Rattle.writer.proofs.Places.{spelled_narrow, spelled_wide, encode_length, at_dimension, at_bound, at_distance, at_close}

-- ---- tests that hold on one run of numbers

module _ (f : ℕ → Bool) (a k most : ℕ) (before : (i : ℕ) → i < a → f i ≡ false) (run : (i : ℕ) → a ≤ i → i < a + k → f i ≡ true)
    (after : (i : ℕ) → a + k ≤ i → i < most → f i ≡ false) where
  kept_so_far : (m : ℕ) → m ≤ most → length (keep f m) ≡ (m - a) - (m - (a + k))
  unfolding keep
  kept_so_far zero h = omega arith
  kept_so_far (suc m) h = go (kept_so_far m (omega arith)) (dec_lt m a) (dec_lt m (a + k))
    where
      go : length (keep f m) ≡ (m - a) - (m - (a + k)) → Dec (m < a) → Dec (m < a + k) → length (keep f (suc m)) ≡ (suc m - a) - (suc m - (a + k))
      go ih (yes p) q = omega (arith, ap length (keep_none f m (before m p)))
      go ih (no p) (yes q) = omega (arith, keep_more f m (run m (omega arith) q))
      go ih (no p) (no q) = omega (arith, ap length (keep_none f m (after m (omega arith) (omega arith))))

  pub kept_run : a + k ≤ most → length (keep f most) ≡ k
  kept_run h = omega (arith, kept_so_far most (omega arith))

-- two tests that never hold together
kept_or : (f g : ℕ → Bool) (n : ℕ) → ((i : ℕ) → f i ≡ true → g i ≡ false)
    → length (keep f n) + length (keep g n) ≡ length (keep (λ i. f i or g i) n)
unfolding keep
kept_or f g zero h = refl
kept_or f g (suc n) h = go (kept_or f g n h) (f n) refl (g n) refl
  where
    go : length (keep f n) + length (keep g n) ≡ length (keep (λ i. f i or g i) n) → (s : Bool) → f n ≡ s → (t : Bool) → g n ≡ t
        → length (keep f (suc n)) + length (keep g (suc n)) ≡ length (keep (λ i. f i or g i) (suc n))
    go ih true a t c = omega (arith, keep_more f n a, ap length (keep_none g n (h n a)), keep_more (λ i. f i or g i) n (or_left (g n) a))
    go ih false a true c = omega (arith, ap length (keep_none f n a), keep_more g n c, keep_more (λ i. f i or g i) n (or_right (f n) c))
    go ih false a false c =
        omega (arith, ap length (keep_none f n a), ap length (keep_none g n c), ap length (keep_none (λ i. f i or g i) n (or_false a c)))

-- ---- tables and fields

filled_at : (size n : ℕ) (f : ℕ → ℕ) (i : ℕ) → i < size → get_or (filled size n f) i 0 ≡ pick (ltb i n) (f i) 0
unfolding filled
filled_at size n f i h = tabulate_at (λ j. pick (ltb j n) (f j) 0) size i h

pub table_is : (size n bound : ℕ) (l : List ℕ) (f : ℕ → ℕ) → Table size n bound l → ((i : ℕ) → i < n → get_or l i 0 ≡ f i) → l ≡ filled size n f
table_is size n bound l f t h = ext_get_or 0 l (filled size n f) (t.long ∙ sym (filled_length size f n)) (λ i m. go i (rw t.long at m) (dec_lt i n))
  where
    go : (i : ℕ) → i < size → Dec (i < n) → get_or l i 0 ≡ get_or (filled size n f) i 0
    go i m (yes k) = h i k ∙ sym (filled_at size n f i m ∙ pick_true (ltb i n) (f i) 0 (lt-ltb i n k))
    go i m (no k) = t.rest i (omega arith) ∙ sym (filled_at size n f i m ∙ pick_false (ltb i n) (f i) 0 (le-ltb i n (omega arith)))

half_back : (b : List ℕ) (p v : ℕ) → v < 65536 → get_or b p 0 ≡ low v → get_or b (p + 1) 0 ≡ high v → v ≡ half b p
half_back b p v h e f = omega arith

word_back : (b : List ℕ) (p v : ℕ) → v < 4294967296 → get_or b p 0 ≡ low v → get_or b (p + 1) 0 ≡ high v
    → get_or b (p + 2) 0 ≡ low (v / 65536) → get_or b (p + 2 + 1) 0 ≡ high (v / 65536) → v ≡ word b p
word_back b p v h e0 e1 e2 e3 = omega arith

zeros_behind : (l : List ℕ) (n k : ℕ) → k < n → get_or (l ++ replicate n 0) (length l + k) 0 ≡ 0
zeros_behind l n k h = get_or-append-add l (replicate n 0) k 0 ∙ get_or-replicate {A = ℕ} n k 0 0 h

tail_zero : (a0 a1 a2 a3 a4 a5 a6 a7 k : ℕ) → k < 8 → get_or (a0 ∷ a1 ∷ a2 ∷ a3 ∷ a4 ∷ a5 ∷ a6 ∷ a7 ∷ replicate 8 0) (8 + k) 0 ≡ 0
tail_zero a0 a1 a2 a3 a4 a5 a6 a7 k h = zeros_behind (a0 ∷ a1 ∷ a2 ∷ a3 ∷ a4 ∷ a5 ∷ a6 ∷ a7 ∷ []) 8 k h

and_right : (a b : Bool) → b ≡ true → (a and b) ≡ a
unfolding ◌and◌
and_right true b e = e
and_right false b e = refl

-- a byte, a slope and an offset
low_back : (v p : ℕ) → v < 256 → p ≡ low v → v ≡ p
low_back v p h e = omega arith

slope_of : (v p : ℕ) → v < 256 → p ≡ low (v + 255) → v ≡ (p + 1) % 256
slope_of v p h e = omega arith

offset_of : (v p q : ℕ) → v < 65536 → p ≡ low (v + 32768) → q ≡ high (v + 32768) → v ≡ (p + 256 * q + 32768) % 65536
offset_of v p q h e d = omega arith

module _ (x : Nest) where
  dimension_byte : (j i p : ℕ) → j < x.dimensions → i < 16 → p ≡ 16 * j + i → get_or (encode x) p 0 ≡ get_or (dimension_of x j) i 0
  dimension_byte j i p h l e = rw e (at_dimension x j i h l)

  distance_byte : (d i p : ℕ) → d < x.distances → i < 16 → p ≡ 16 * (x.dimensions + x.bounds + d) + i → get_or (encode x) p 0 ≡ get_or (distance_of x d) i 0
  distance_byte d i p h l e = rw e (at_distance x d i h l)

  bound_byte : (k i p : ℕ) → k < x.bounds → i < 16 → p ≡ 16 * (x.dimensions + k) + i → get_or (encode x) p 0 ≡ get_or (bound_of x k) i 0
  bound_byte k i p h l e = rw e (at_bound x k i h l)

  close_byte : (i p : ℕ) → p ≡ 16 * (x.dimensions + x.bounds + x.distances) + i → get_or (encode x) p 0 ≡ get_or (close_record x.shift x.boundary) i 0
  close_byte i p e = rw e (at_close x i)

  pub records_are : records (encode x) ≡ x.dimensions + x.bounds + x.distances + 1
  records_are = omega (arith, encode_length x)

  -- ---- kinds

  kind_dimension : (r : ℕ) → r < x.dimensions → kind (encode x) r ≡ 1
  unfolding dimension_of dimension_record
  kind_dimension r h = dimension_byte r 0 (16 * r) h (omega arith) (omega arith)

  kind_bound : (k : ℕ) → k < x.bounds → kind (encode x) (x.dimensions + k) ≡ 5
  unfolding bound_of bound_record
  kind_bound k h = bound_byte k 0 _ h (omega arith) (omega arith)

  kind_bound_at : (r : ℕ) → x.dimensions ≤ r → r < x.dimensions + x.bounds → kind (encode x) r ≡ 5
  kind_bound_at r l h = let w : x.dimensions + (r - x.dimensions) ≡ r = omega arith in rw w at (kind_bound (r - x.dimensions) (omega arith))

  kind_narrow : (d : ℕ) → d < x.distances → narrow x d ≡ true → kind (encode x) (x.dimensions + x.bounds + d) ≡ 2
  unfolding narrow_record
  kind_narrow d h t = distance_byte d 0 _ h (omega arith) (omega arith) ∙ ap (λ (l : List ℕ). get_or l 0 0) (spelled_narrow x d t)

  kind_wide : (d : ℕ) → d < x.distances → narrow x d ≡ false → kind (encode x) (x.dimensions + x.bounds + d) ≡ 4
  unfolding wide_record
  kind_wide d h t = distance_byte d 0 _ h (omega arith) (omega arith) ∙ ap (λ (l : List ℕ). get_or l 0 0) (spelled_wide x d t)

  pub picks : (d : ℕ) → d < x.distances → kind (encode x) (x.dimensions + x.bounds + d) ≡ pick (narrow x d) 2 4
  picks d h = go (narrow x d) refl
    where
      go : (t : Bool) → narrow x d ≡ t → kind (encode x) (x.dimensions + x.bounds + d) ≡ pick (narrow x d) 2 4
      go true t = kind_narrow d h t ∙ sym (pick_true _ 2 4 t)
      go false t = kind_wide d h t ∙ sym (pick_false _ 2 4 t)

  kind_distance : (r : ℕ) → x.dimensions + x.bounds ≤ r → r < x.dimensions + x.bounds + x.distances → (kind (encode x) r ≡ 2) ⊎ (kind (encode x) r ≡ 4)
  kind_distance r l h = let w : x.dimensions + x.bounds + (r - (x.dimensions + x.bounds)) ≡ r = omega arith in rw w at
      (go (narrow x (r - (x.dimensions + x.bounds))) refl)
    where
      go : (t : Bool) → narrow x (r - (x.dimensions + x.bounds)) ≡ t
          → (kind (encode x) (x.dimensions + x.bounds + (r - (x.dimensions + x.bounds))) ≡ 2) ⊎
          (kind (encode x) (x.dimensions + x.bounds + (r - (x.dimensions + x.bounds))) ≡ 4)
      go true t = inl (kind_narrow (r - (x.dimensions + x.bounds)) (omega arith) t)
      go false t = inr (kind_wide (r - (x.dimensions + x.bounds)) (omega arith) t)

  kind_close : (r : ℕ) → r ≡ x.dimensions + x.bounds + x.distances → kind (encode x) r ≡ 3
  unfolding close_record
  kind_close r e = close_byte 0 (16 * r) (omega arith)

  not_kind : (r k m : ℕ) → kind (encode x) r ≡ k → (k ≡ m → ⊥) → eqb (kind (encode x) r) m ≡ false
  not_kind r k m e h = ne_eqb _ m (λ q. h (sym e ∙ q))

  -- a record of any other kind than these
  after_dimensions : (i m : ℕ) → x.dimensions ≤ i → i < x.dimensions + x.bounds + x.distances + 1 → (5 ≡ m → ⊥) → (2 ≡ m → ⊥) → (4 ≡ m → ⊥) → (3 ≡ m → ⊥)
      → eqb (kind (encode x) i) m ≡ false
  after_dimensions i m l h b5 b2 b4 b3 = go (dec_lt i (x.dimensions + x.bounds)) (dec_lt i (x.dimensions + x.bounds + x.distances))
    where
      go : Dec (i < x.dimensions + x.bounds) → Dec (i < x.dimensions + x.bounds + x.distances) → eqb (kind (encode x) i) m ≡ false
      go (yes k) q = not_kind i 5 m (kind_bound_at i l k) b5
      go (no k) (yes q) = ⊎_elim (λ z. not_kind i 2 m z b2) (λ z. not_kind i 4 m z b4) (kind_distance i (omega arith) q)
      go (no k) (no q) = not_kind i 3 m (kind_close i (omega arith)) b3

  after_bounds : (i : ℕ) → x.dimensions + x.bounds ≤ i → i < x.dimensions + x.bounds + x.distances + 1 → eqb (kind (encode x) i) 5 ≡ false
  after_bounds i l h = go (dec_lt i (x.dimensions + x.bounds + x.distances))
    where
      go : Dec (i < x.dimensions + x.bounds + x.distances) → eqb (kind (encode x) i) 5 ≡ false
      go (yes q) = ⊎_elim (λ z. not_kind i 2 5 z (λ e. omega arith)) (λ z. not_kind i 4 5 z (λ e. omega arith)) (kind_distance i l q)
      go (no q) = not_kind i 3 5 (kind_close i (omega arith)) (λ e. omega arith)

  pub dimensions_are : of_kind (encode x) 1 ≡ x.dimensions
  unfolding of_kind those
  dimensions_are =
      rw records_are
      (kept_run (λ r. eqb (kind (encode x) r) 1) 0 x.dimensions (x.dimensions + x.bounds + x.distances + 1) (λ i h. absurd (omega arith))
      (λ i l h. eq-eqb _ 1 (kind_dimension i (omega arith)))
      (λ i l h. after_dimensions i 1 (omega arith) h (λ e. omega arith) (λ e. omega arith) (λ e. omega arith) (λ e. omega arith)) (omega arith))

  pub bounds_are : of_kind (encode x) 5 ≡ x.bounds
  unfolding of_kind those
  bounds_are =
      rw records_are
      (kept_run (λ r. eqb (kind (encode x) r) 5) x.dimensions x.bounds (x.dimensions + x.bounds + x.distances + 1)
      (λ i h. not_kind i 1 5 (kind_dimension i h) (λ e. omega arith)) (λ i l h. eq-eqb _ 5 (kind_bound_at i l h)) after_bounds (omega arith))

  pub distances_are : distances_of (encode x) ≡ x.distances
  unfolding of_kind those
  distances_are =
      kept_or (λ r. eqb (kind (encode x) r) 2) (λ r. eqb (kind (encode x) r) 4) (records (encode x))
      (λ r q. not_kind r 2 4 (eqb-true _ _ q) (λ e. omega arith))
      ∙ rw records_are
      (kept_run (λ r. eqb (kind (encode x) r) 2 or eqb (kind (encode x) r) 4) (x.dimensions + x.bounds) x.distances
      (x.dimensions + x.bounds + x.distances + 1)
      (λ i h. before i h (dec_lt i x.dimensions)) (λ i l h. a_distance i (kind_distance i l h))
      (λ i l h. no_distance i 3 (kind_close i (omega arith)) (λ e. omega arith) (λ e. omega arith)) (omega arith))
    where
      a_distance : (r : ℕ) → (kind (encode x) r ≡ 2) ⊎ (kind (encode x) r ≡ 4) → (eqb (kind (encode x) r) 2 or eqb (kind (encode x) r) 4) ≡ true
      a_distance r (inl q) = or_left _ (eq-eqb _ 2 q)
      a_distance r (inr q) = or_right _ (eq-eqb _ 4 q)

      no_distance : (r k : ℕ) → kind (encode x) r ≡ k → (k ≡ 2 → ⊥) → (k ≡ 4 → ⊥) → (eqb (kind (encode x) r) 2 or eqb (kind (encode x) r) 4) ≡ false
      no_distance r k e a c = or_false (not_kind r k 2 e a) (not_kind r k 4 e c)

      before : (i : ℕ) → i < x.dimensions + x.bounds → Dec (i < x.dimensions) → (eqb (kind (encode x) i) 2 or eqb (kind (encode x) i) 4) ≡ false
      before i h (yes k) = no_distance i 1 (kind_dimension i k) (λ e. omega arith) (λ e. omega arith)
      before i h (no k) = no_distance i 5 (kind_bound_at i (omega arith) h) (λ e. omega arith) (λ e. omega arith)

  -- ---- fields

  narrow_byte : (d k : ℕ) → k < 4 → narrow x d ≡ true → get_or (distance_of x d) (2 + k) 0 ≡ low (component x d k)
  unfolding narrow_record
  narrow_byte d zero h t = ap (λ (l : List ℕ). get_or l 2 0) (spelled_narrow x d t)
  narrow_byte d (suc zero) h t = ap (λ (l : List ℕ). get_or l 3 0) (spelled_narrow x d t)
  narrow_byte d (suc (suc zero)) h t = ap (λ (l : List ℕ). get_or l 4 0) (spelled_narrow x d t)
  narrow_byte d (suc (suc (suc zero))) h t = ap (λ (l : List ℕ). get_or l 5 0) (spelled_narrow x d t)
  narrow_byte d (suc (suc (suc (suc k)))) h t = absurd (omega arith)

  wide_low : (d k : ℕ) → k < 4 → narrow x d ≡ false → get_or (distance_of x d) (2 + 2 * k) 0 ≡ low (component x d k)
  unfolding wide_record
  wide_low d zero h t = ap (λ (l : List ℕ). get_or l 2 0) (spelled_wide x d t)
  wide_low d (suc zero) h t = ap (λ (l : List ℕ). get_or l 4 0) (spelled_wide x d t)
  wide_low d (suc (suc zero)) h t = ap (λ (l : List ℕ). get_or l 6 0) (spelled_wide x d t)
  wide_low d (suc (suc (suc zero))) h t = ap (λ (l : List ℕ). get_or l 8 0) (spelled_wide x d t)
  wide_low d (suc (suc (suc (suc k)))) h t = absurd (omega arith)

  wide_high : (d k : ℕ) → k < 4 → narrow x d ≡ false → get_or (distance_of x d) (3 + 2 * k) 0 ≡ high (component x d k)
  unfolding wide_record
  wide_high d zero h t = ap (λ (l : List ℕ). get_or l 3 0) (spelled_wide x d t)
  wide_high d (suc zero) h t = ap (λ (l : List ℕ). get_or l 5 0) (spelled_wide x d t)
  wide_high d (suc (suc zero)) h t = ap (λ (l : List ℕ). get_or l 7 0) (spelled_wide x d t)
  wide_high d (suc (suc (suc zero))) h t = ap (λ (l : List ℕ). get_or l 9 0) (spelled_wide x d t)
  wide_high d (suc (suc (suc (suc k)))) h t = absurd (omega arith)

  module _ (f : Fits x) where
    length_back : (j : ℕ) → j < x.dimensions → length_of x j ≡ half (encode x) (16 * j + 2)
    unfolding dimension_of dimension_record
    length_back j h =
        half_back (encode x) (16 * j + 2) _ (f.lengths.fit j h) (dimension_byte j 2 _ h (omega arith) refl)
        (dimension_byte j 3 _ h (omega arith) (omega arith))

    tile_back : (j : ℕ) → j < x.dimensions → tile_length x j ≡ half (encode x) (16 * j + 4)
    unfolding dimension_of dimension_record
    tile_back j h =
        half_back (encode x) (16 * j + 4) _ (f.tiling.fit j h) (dimension_byte j 4 _ h (omega arith) refl)
        (dimension_byte j 5 _ h (omega arith) (omega arith))

    count_back : (j : ℕ) → j < x.dimensions → processor_count x j ≡ half (encode x) (16 * j + 6)
    unfolding dimension_of dimension_record
    count_back j h =
        half_back (encode x) (16 * j + 6) _ (f.counts.fit j h) (dimension_byte j 6 _ h (omega arith) refl)
        (dimension_byte j 7 _ h (omega arith) (omega arith))

    weight_back : (d : ℕ) → d < x.distances → weight x d ≡ weight_at (encode x) (x.dimensions + x.bounds + d)
    unfolding narrow_record wide_record
    weight_back d h = go (narrow x d) refl
      where
        go : (t : Bool) → narrow x d ≡ t → weight x d ≡ weight_at (encode x) (x.dimensions + x.bounds + d)
        go true t =
            half_back (encode x) (16 * (x.dimensions + x.bounds + d) + 6) _ (f.weights.fit d h)
            (distance_byte d 6 _ h (omega arith) refl ∙ ap (λ (l : List ℕ). get_or l 6 0) (spelled_narrow x d t))
            (distance_byte d 7 _ h (omega arith) (omega arith) ∙ ap (λ (l : List ℕ). get_or l 7 0) (spelled_narrow x d t))
            ∙ weight_narrow (encode x) (x.dimensions + x.bounds + d) (λ q. omega (arith, q, kind_narrow d h t))
        go false t =
            half_back (encode x) (16 * (x.dimensions + x.bounds + d) + 10) _ (f.weights.fit d h)
            (distance_byte d 10 _ h (omega arith) refl ∙ ap (λ (l : List ℕ). get_or l 10 0) (spelled_wide x d t))
            (distance_byte d 11 _ h (omega arith) (omega arith) ∙ ap (λ (l : List ℕ). get_or l 11 0) (spelled_wide x d t))
            ∙ weight_wide (encode x) (x.dimensions + x.bounds + d) (kind_wide d h t)

    -- a byte where each component fits one, else two
    number_back : (d j : ℕ) → d < x.distances → j < 4 → component x d j ≡ component_at (encode x) (x.dimensions + x.bounds + d) j
    unfolding narrow
    number_back d j h l = go (narrow x d) refl
      where
        go : (t : Bool) → narrow x d ≡ t → component x d j ≡ component_at (encode x) (x.dimensions + x.bounds + d) j
        go true t =
            let w = at_distance x d (2 + j) h (omega arith) ∙ narrow_byte d j l t in
            let s = ltb-true (component x d j) 256 (every_at (λ i. ltb (component x d i) 256) 4 t j l) in
            let e : component x d j ≡ get_or (encode x) (16 * (x.dimensions + x.bounds + d) + (2 + j)) 0 = omega (arith, w, s) in
            e ∙ component_narrow (encode x) (x.dimensions + x.bounds + d) j (λ q. omega (arith, q, kind_narrow d h t))
        go false t =
            half_back (encode x) (16 * (x.dimensions + x.bounds + d) + (2 + 2 * j)) _ (f.components.fit (4 * d + j) (omega arith))
            (distance_byte d (2 + 2 * j) _ h (omega arith) refl ∙ wide_low d j l t)
            (distance_byte d (3 + 2 * j) _ h (omega arith) (omega arith) ∙ wide_high d j l t)
            ∙ component_wide (encode x) (x.dimensions + x.bounds + d) j (kind_wide d h t)

    not_narrow : (d : ℕ) → d < x.distances → narrow x d ≡ false → every (λ j. ltb (component_at (encode x) (x.dimensions + x.bounds + d) j) 256) 4 ≡ false
    unfolding narrow
    not_narrow d h t =
        is_false (λ a. never_both (every_all (λ j. ltb (component x d j) 256) 4 (λ j l. ap (λ (v : ℕ). ltb v 256) (number_back d j h l)
        ∙ every_at (λ j. ltb (component_at (encode x) (x.dimensions + x.bounds + d) j) 256) 4 a j l)) t)

    component_back : (i : ℕ) → i < 4 * x.distances → get_or x.components i 0 ≡ component_at (encode x) (x.dimensions + x.bounds + i / 4) (i % 4)
    component_back i h =
        let e : 4 * (i / 4) + i % 4 ≡ i = omega arith in
        ap (λ (p : ℕ). get_or x.components p 0) (sym e) ∙ number_back (i / 4) (i % 4) (omega arith) (omega arith)

    shift_back : x.shift ≡ get_or (encode x) (16 * (x.dimensions + x.bounds + x.distances) + 1) 0
    unfolding close_record
    shift_back = let w : get_or (encode x) (16 * (x.dimensions + x.bounds + x.distances) + 1) 0 ≡ low x.shift = at_close x 1 in omega (arith, f.shift)

    boundary_back : x.boundary ≡ word (encode x) (16 * (x.dimensions + x.bounds + x.distances) + 4)
    unfolding close_record
    boundary_back =
        word_back (encode x) (16 * (x.dimensions + x.bounds + x.distances) + 4) x.boundary f.boundary (close_byte 4 _ refl)
        (close_byte 5 _ (omega arith))
        (close_byte 6 _ (omega arith)) (close_byte 7 _ (omega arith))

    -- ---- bounds
    side_back : (k : ℕ) → k < x.bounds → side x k ≡ get_or (encode x) (16 * (x.dimensions + k) + 1) 0
    unfolding bound_of bound_record
    side_back k h = low_back _ _ (f.sides.fit k h) (bound_byte k 1 _ h (omega arith) refl)

    bounded_back : (k : ℕ) → k < x.bounds → bounded x k ≡ get_or (encode x) (16 * (x.dimensions + k) + 2) 0
    unfolding bound_of bound_record
    bounded_back k h = low_back _ _ (f.bounded.fit k h) (bound_byte k 2 _ h (omega arith) refl)

    earlier_back : (k : ℕ) → k < x.bounds → earlier x k ≡ get_or (encode x) (16 * (x.dimensions + k) + 3) 0
    unfolding bound_of bound_record
    earlier_back k h = low_back _ _ (f.earlier.fit k h) (bound_byte k 3 _ h (omega arith) refl)

    slope_back : (k : ℕ) → k < x.bounds → slope x k ≡ slope_at (encode x) (x.dimensions + k)
    unfolding bound_of bound_record
    slope_back k h = slope_of _ _ (f.slopes.fit k h) (bound_byte k 4 _ h (omega arith) refl)

    offset_back : (k : ℕ) → k < x.bounds → bound_offset x k ≡ offset_at (encode x) (x.dimensions + k)
    unfolding bound_of bound_record
    offset_back k h = offset_of _ _ _ (f.offsets.fit k h) (bound_byte k 6 _ h (omega arith) refl) (bound_byte k 7 _ h (omega arith) (omega arith))

    spread_back : x.spread ≡ length (keep (λ (j : ℕ). ltb 0 (half (encode x) (16 * j + 6))) x.dimensions)
    spread_back = f.spread ∙ ap length (keep_same _ _ x.dimensions (λ i h. ap (ltb 0) (count_back i h)))

    pub read_back_by : x ≡ nest_by (encode x) x.dimensions x.bounds x.distances
    read_back_by =
        made (encode x) x.dimensions x.bounds x.distances x.spread x.shift x.boundary x.lengths x.tiling x.counts
        x.components x.weights
        x.sides x.bounded x.earlier x.slopes x.offsets
        spread_back (table_is 4 _ _ _ _ f.lengths length_back) (table_is 4 _ _ _ _ f.tiling tile_back) (table_is 4 _ _ _ _ f.counts count_back)
        (table_is 32 _ _ _ _ f.components component_back) (table_is 8 _ _ _ _ f.weights weight_back)
        (table_is 4 _ _ _ _ f.sides side_back) (table_is 4 _ _ _ _ f.bounded bounded_back) (table_is 4 _ _ _ _ f.earlier earlier_back)
        (table_is 4 _ _ _ _ f.slopes slope_back) (table_is 4 _ _ _ _ f.offsets offset_back) shift_back boundary_back

    pub read_back : nest_of (encode x) ≡ x
    unfolding nest_of
    read_back = rw (dimensions_are, bounds_are, distances_are) (sym read_back_by)

  -- ---- lines

  pub even : ragged (encode x) ≡ false
  unfolding ragged
  even =
      let w = encode_length x in
      or_false (ne_eqb (length (encode x)) 0 (λ e. omega arith)) (not-true (eq-eqb (length (encode x) % 16) 0 (omega arith)))

  blank_is : (p n : ℕ) → ((i : ℕ) → i < n → get_or (encode x) (p + i) 0 ≡ 0) → blank (encode x) p n ≡ true
  unfolding blank
  blank_is p n h = every_all _ n (λ i l. eq-eqb _ 0 (h i l))

  dimension_fits : (r : ℕ) → r < x.dimensions → fits_at (encode x) x.dimensions x.bounds x.distances r ≡ true
  unfolding fits_at dimension_of dimension_record
  dimension_fits r h =
      let k = kind_dimension r h in
      and_true (stands_first x.dimensions x.bounds x.distances r _ h ∙ eq-eqb _ 1 k)
      (checked_plain (encode x) x.dimensions r _ (inl k)
      ∙ and_true (blank_is (16 * r + 1) 1 (λ i l. dimension_byte r 1 _ h (omega arith) (omega arith)))
      (blank_is (16 * r + 8) 8 (λ i l. dimension_byte r (8 + i) _ h (omega arith) (omega arith) ∙ tail_zero _ _ _ _ _ _ _ _ i l)))

  narrow_fits : (d : ℕ) → d < x.distances → narrow x d ≡ true → fits_at (encode x) x.dimensions x.bounds x.distances
      (x.dimensions + x.bounds + d) ≡ true
  unfolding fits_at narrow_record
  narrow_fits d h t =
      let k = kind_narrow d h t in
      let e = spelled_narrow x d t in
      let r : ℕ = x.dimensions + x.bounds + d in
      and_true (stands_between x.dimensions x.bounds x.distances r _ (omega arith) (omega arith) (omega arith) ∙ or_left _ (eq-eqb _ 2 k))
      (checked_plain (encode x) x.dimensions r _ (inr k)
      ∙ and_true (blank_is (16 * r + 1) 1 (λ i l. distance_byte d 1 _ h (omega arith) (omega arith) ∙ ap (λ (z : List ℕ). get_or z 1 0) e))
      (blank_is (16 * r + 8) 8
      (λ i l. distance_byte d (8 + i) _ h (omega arith) (omega arith) ∙ (ap (λ (z : List ℕ). get_or z (8 + i) 0) e ∙ tail_zero _ _ _ _ _ _ _ _ i l))))

  wide_fits : (d : ℕ) → d < x.distances → narrow x d ≡ false → fits_at (encode x) x.dimensions x.bounds x.distances
      (x.dimensions + x.bounds + d) ≡ true
  unfolding fits_at wide_record
  wide_fits d h t =
      let k = kind_wide d h t in
      let e = spelled_wide x d t in
      let r : ℕ = x.dimensions + x.bounds + d in
      and_true (stands_between x.dimensions x.bounds x.distances r _ (omega arith) (omega arith) (omega arith) ∙ or_right _ (eq-eqb _ 4 k))
      (checked_wide (encode x) x.dimensions r _ k
      ∙ and_true (blank_is (16 * r + 1) 1 (λ i l. distance_byte d 1 _ h (omega arith) (omega arith) ∙ ap (λ (z : List ℕ). get_or z 1 0) e))
      (blank_is (16 * r + 12) 4
      (λ i l. distance_byte d (12 + i) _ h (omega arith) (omega arith)
      ∙ (ap (λ (z : List ℕ). get_or z (12 + i) 0) e ∙ zeros_behind (_ ∷ _ ∷ _ ∷ _ ∷ _ ∷ _ ∷ _ ∷ _ ∷ _ ∷ _ ∷ _ ∷ _ ∷ []) 4 i l))))

  distance_fits : (r : ℕ) → x.dimensions + x.bounds ≤ r → r < x.dimensions + x.bounds + x.distances → fits_at (encode x) x.dimensions
      x.bounds x.distances r ≡ true
  distance_fits r m h = let w : x.dimensions + x.bounds + (r - (x.dimensions + x.bounds)) ≡ r = omega arith in rw w at
      (go (r - (x.dimensions + x.bounds)) (omega arith) (narrow x (r - (x.dimensions + x.bounds))) refl)
    where
      go : (d : ℕ) → d < x.distances → (t : Bool) → narrow x d ≡ t → fits_at (encode x) x.dimensions x.bounds x.distances
          (x.dimensions + x.bounds + d) ≡ true
      go d h true t = narrow_fits d h t
      go d h false t = wide_fits d h t

  close_fits : (r : ℕ) → r ≡ x.dimensions + x.bounds + x.distances → fits_at (encode x) x.dimensions x.bounds x.distances r ≡ ltb (low x.shift) 32
  unfolding fits_at close_record
  close_fits r e =
      let k = kind_close r e in
      and_left _ _ (stands_last x.dimensions x.bounds x.distances r _ (omega arith) (omega arith) (omega arith) ∙ eq-eqb _ 3 k)
      ∙ (checked_close (encode x) x.dimensions r _ k
      ∙ (and_right _ _
      (and_true (blank_is (16 * r + 2) 2 (λ i l. blank_two i l)) (blank_is (16 * r + 8) 8
      (λ i l. close_byte (8 + i) _ (omega arith) ∙ tail_zero _ _ _ _ _ _ _ _ i l)))
      ∙ ap (λ (v : ℕ). ltb v 32) (close_byte 1 _ (omega arith))))
    where
      blank_two : (i : ℕ) → i < 2 → get_or (encode x) (16 * r + 2 + i) 0 ≡ 0
      blank_two zero l = close_byte 2 _ (omega arith)
      blank_two (suc zero) l = close_byte 3 _ (omega arith)
      blank_two (suc (suc i)) l = absurd (omega arith)

  -- ---- the bounds are bounds
  abbrev pub BoundsIn : Type 0
  BoundsIn = (k : ℕ) → k < x.bounds → (side x k ≤ 1) × (bounded x k < x.dimensions) × (earlier x k < bounded x k) × (slope x k ≤ 2)

  bound_fits : Fits x → BoundsIn → (k : ℕ) → k < x.bounds → fits_at (encode x) x.dimensions x.bounds x.distances (x.dimensions + k) ≡ true
  unfolding fits_at bound_of bound_record
  bound_fits f w k h =
      let q = w k h in
      let five = kind_bound k h in
      let r : ℕ = x.dimensions + k in
      and_true (stands_bound x.dimensions x.bounds x.distances r _ (omega arith) (omega arith) ∙ eq-eqb _ 5 five)
      (checked_bound (encode x) x.dimensions r _ five
      ∙ (bound_left (encode x) x.dimensions r (omega (arith, side_back f k h, q.0)) (omega (arith, bounded_back f k h, q.1))
      (omega (arith, earlier_back f k h, bounded_back f k h, q.2)) (omega (arith, slope_back f k h, q.3))
      (blank_is (16 * r + 5) 1 (λ i l. bound_byte k 5 _ h (omega arith) (omega arith)))
      ∙ blank_is (16 * r + 8) 8 (λ i l. bound_byte k (8 + i) _ h (omega arith) (omega arith) ∙ tail_zero _ _ _ _ _ _ _ _ i l)))

  all_fit : Fits x → BoundsIn → every (fits_at (encode x) x.dimensions x.bounds x.distances) (records (encode x)) ≡ ltb (low x.shift) 32
  unfolding every
  all_fit f w =
      let e : records (encode x) ≡ suc (x.dimensions + x.bounds + x.distances) = omega (arith, records_are) in
      ap (every (fits_at (encode x) x.dimensions x.bounds x.distances)) e
      ∙ (and_left _ _ (every_all _ (x.dimensions + x.bounds + x.distances)
      (λ r h. fits r h (dec_lt r x.dimensions) (dec_lt r (x.dimensions + x.bounds)))) ∙ close_fits _ refl)
    where
      fits : (r : ℕ) → r < x.dimensions + x.bounds + x.distances → Dec (r < x.dimensions) → Dec (r < x.dimensions + x.bounds)
          → fits_at (encode x) x.dimensions x.bounds x.distances r ≡ true
      fits r h (yes k) q = dimension_fits r k
      fits r h (no k) (yes q) = let z : x.dimensions + (r - x.dimensions) ≡ r = omega arith in rw z at (bound_fits f w (r - x.dimensions) (omega arith))
      fits r h (no k) (no q) = distance_fits r (omega arith) h

  pub stray_is : Fits x → BoundsIn → stray_record (encode x)
      ≡ not (leb 2 x.dimensions and leb x.dimensions 4 and leb x.bounds 4 and leb 1 x.distances and leb x.distances 8 and ltb
      (low x.shift) 32)
  unfolding stray_record well_formed
  stray_is f w =
      rw (dimensions_are, bounds_are, distances_are)
      (ap (λ (t : Bool). not (leb 2 x.dimensions and leb x.dimensions 4 and leb x.bounds 4 and leb 1 x.distances and leb x.distances 8 and t))
      (and_left _ _ (eq-eqb (records (encode x)) (x.dimensions + x.bounds + x.distances + 1) records_are) ∙ all_fit f w))

  -- ---- the number

  -- where line 2 is false, all this holds
  formed_is : stray_record (encode x) ≡ false → Formed (encode x) x.dimensions x.bounds x.distances
  formed_is h = rw (dimensions_are, bounds_are, distances_are) at (stray_no (encode x) h)

  pub read_two : Fits x
      → (2 ≤ x.dimensions → x.dimensions ≤ 4 → 1 ≤ x.distances → x.distances ≤ 8 → x.bounds ≤ 4 → low x.shift < 32 → BoundsIn → ⊥)
      → first_of (read_lines (encode x)) ≡ 2
  unfolding read_lines
  read_two f h =
      first_false 1 (ragged (encode x)) _ even
      ∙ first_true 2 (stray_record (encode x)) _
      (is_true (λ e.
      let g = formed_is e in
      h g.dimensions_least g.dimensions_most g.distances_least g.distances_most g.bounds_most (shift_low g) (λ k l. bound_well g k l)))
    where
      shift_low : Formed (encode x) x.dimensions x.bounds x.distances → low x.shift < 32
      shift_low g = omega (arith, shift_in (encode x) x.dimensions x.bounds x.distances g, shift_back f, f.shift)

      bound_well : Formed (encode x) x.dimensions x.bounds x.distances → (k : ℕ) → k < x.bounds
          → (side x k ≤ 1) × (bounded x k < x.dimensions) × (earlier x k < bounded x k) × (slope x k ≤ 2)
      bound_well g k l =
          let q = bound_in (encode x) x.dimensions x.bounds x.distances g k l in (
            omega (arith, q.side, side_back f k l),
            omega (arith, q.bounded, bounded_back f k l),
            omega (arith, q.earlier, earlier_back f k l, bounded_back f k l),
            omega (arith, q.slope, slope_back f k l),
          )

  -- line 18: kind 4 is written only where some component fits no byte
  module _ (f : Fits x) where
    wide_needed : (r : ℕ) → r < x.dimensions + x.bounds + x.distances + 1 → narrow_at (encode x) r ≡ false
    wide_needed r h = go (dec_lt r x.dimensions) (dec_lt r (x.dimensions + x.bounds)) (dec_lt r (x.dimensions + x.bounds + x.distances))
      where
        spelled : (d : ℕ) → d < x.distances → (t : Bool) → narrow x d ≡ t → narrow_at (encode x) (x.dimensions + x.bounds + d) ≡ false
        spelled d l true t = other_kind (encode x) _ (λ q. omega (arith, q, kind_narrow d l t))
        spelled d l false t = and_no _ _ (not_narrow f d l t)

        go : Dec (r < x.dimensions) → Dec (r < x.dimensions + x.bounds) → Dec (r < x.dimensions + x.bounds + x.distances) → narrow_at (encode x) r ≡ false
        go (no k) (yes m) q = other_kind (encode x) r (λ e. omega (arith, e, kind_bound_at r (omega arith) m))
        go (yes k) m q = other_kind (encode x) r (λ e. omega (arith, e, kind_dimension r k))
        go (no k) (no m) (yes q) = let w : x.dimensions + x.bounds + (r - (x.dimensions + x.bounds)) ≡ r = omega arith in rw w at
            (spelled (r - (x.dimensions + x.bounds)) (omega arith) (narrow x (r - (x.dimensions + x.bounds))) refl)
        go (no k) (no m) (no q) = other_kind (encode x) r (λ e. omega (arith, e, kind_close r (omega arith)))

    needed : needlessly_wide (encode x) ≡ false
    unfolding needlessly_wide
    needed = some_none (narrow_at (encode x)) (records (encode x)) (λ r h. wide_needed r (rw records_are at h))

  pub read_lines_lem : Fits x → 2 ≤ x.dimensions → 1 ≤ x.distances → x.shift < 32 → BoundsIn → first_of (read_lines (encode x)) ≡ first_of (nest_lines false x)
  unfolding read_lines
  read_lines_lem f a b h w =
      let e : low x.shift ≡ x.shift = omega arith in
      first_false 1 (ragged (encode x)) _ even
      ∙ (first_false 2 (stray_record (encode x)) _
      (stray_is f w ∙ not-true (and_true (le-leb _ _ a) (and_true (le-leb _ _ f.dimensions) (and_true (le-leb _ _ f.bounds) (and_true (le-leb _ _ b)
      (and_true (le-leb _ _ f.distances) (lt-ltb (low x.shift) 32 (rw e h))))))))
      ∙ (ap (λ (t : Bool). first_of (nest_lines t (nest_of (encode x)))) (needed f) ∙ ap (λ (y : Nest). first_of (nest_lines false y)) (read_back f)))
