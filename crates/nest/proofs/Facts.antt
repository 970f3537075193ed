-- What holds of an accepted nest: `accepted`, for every list of bytes that reading gives 0.
use Prim.Native.Nat.{ℕ, zero, suc, ◌+◌, ◌*◌, ◌-◌, ◌/◌, ◌%◌, ◌≤◌, ◌<◌}
use mathlib.Core.Path.{◌≡◌, refl, sym, ap, ◌∙◌}
use mathlib.Core.Logic.{◌≢◌}
use mathlib.Core.Bool.{Bool, true, false, true≢false}
use mathlib.Core.List.{List}
use native.Mathlib.Omega.{arith}
use native.Mathlib.Decide.{dec_lt}
use native.Mathlib.Nat.{mod-lt}
use lib.ListN.{length, get_or, get_or-eq_default}
use lib.Dec.{ltb, leb}
use borrow.Author.Tests.{ltb-true, ltb-false, eqb-true, eqb-false, le-leb, lt-ltb}
use Rattle.base.specs.Tests.{◌and◌, every, some, keep}
use Rattle.base.specs.Numbers.{first_of}
use Rattle.base.proofs.Tests.{both, neither, true_not, not-true, not-false, is_false, and_true, never_both, every_at, some_one, none_some, pick_true}
use Rattle.base.proofs.Select.{keep_same, keep_few}
use Rattle.base.proofs.Numbers.{none_first}
use Rattle.nest.specs.declared.Nest.{Nest}
use Rattle.nest.specs.Accepted.{Accepted}
use Rattle.nest.specs.Nest.{length_of, tile_length, processor_count, component, weight, side, bounded, earlier, slope, bound_offset, cells, processors}
use Rattle.nest.specs.Shape.{in_shape, tiles}
use Rattle.nest.specs.Spans.{Framed, InRange}
use Rattle.base.specs.Lists.{Bytes}
use Rattle.base.specs.Bytes.{half}
use Rattle.nest.specs.Reader.{kind, records, of_kind, distances_of, slope_at, filled, nest_by, nest_of, ragged, bound_fits, checked, may_stand, fits_at}
use Rattle.nest.specs.Reader.{stray_record, no_length, bad_length, too_large, no_cell, beyond, faulty, bad_distance, reached, bad_tile, is_spread, bad_spread}
use Rattle.nest.specs.Reader.{last_spread, bad_processors, too_many_tiles, nest_lines, read_lines}
use Rattle.nest.proofs.Laws.{Formed, formed, front_kept, filled_length, filled_at, filled_in, filled_out, filled_below, half_small, word_small}
use Rattle.nest.proofs.Laws.{weight_small, stands_bound, stands_last, checked_close, checked_bound}

pub inside_range : (v : ℕ) → no_length v ≡ false → (1 ≤ v) × (v ≤ 1024)
unfolding no_length
inside_range v h = let p = neither h in let z = eqb-false v 0 p.0 in (omega arith, ltb-false 1024 v p.1)

-- a test that fails below n fails somewhere
pub not_every : (f : ℕ → Bool) (n : ℕ) → every f n ≡ false → (i : ℕ) × (i < n) × (f i ≡ false)
unfolding every ◌and◌
not_every f zero e = absurd (true≢false e)
not_every f (suc n) e = go (not_every f n) (every f n) refl e
  where
    go : (every f n ≡ false → (i : ℕ) × (i < n) × (f i ≡ false)) → (t : Bool) → every f n ≡ t → (t and f n) ≡ false → (i : ℕ) × (i < suc n) × (f i ≡ false)
    go ih true q r = (n, omega arith, r)
    go ih false q r = let a = ih q in (a.0, omega arith, a.2)

-- ---- the lines of the nest, where none of them holds

pub record Unrefused (x : Nest) : Type 0 where
  pub lengths : bad_length x ≡ false
  pub size : too_large x ≡ false
  pub shape : no_cell x ≡ false
  pub distances : bad_distance x ≡ false
  pub tiling : bad_tile x ≡ false
  pub spread : bad_spread x ≡ false
  pub last : last_spread x ≡ false
  pub counts : bad_processors x ≡ false
  pub number : too_many_tiles x ≡ false

pub unrefused : (needless : Bool) (x : Nest) → first_of (nest_lines needless x) ≡ 0 → Unrefused x
unfolding nest_lines
unrefused needless x h =
    let p3 = none_first 3 (bad_length x) _ (λ e. omega arith) h in
    let p4 = none_first 4 (too_large x) _ (λ e. omega arith) p3.1 in
    let p18 = none_first 18 needless _ (λ e. omega arith) p4.1 in
    let p20 = none_first 20 (no_cell x) _ (λ e. omega arith) p18.1 in
    let p5 = none_first 5 (bad_distance x) _ (λ e. omega arith) p20.1 in
    let p6 = none_first 6 (bad_tile x) _ (λ e. omega arith) p5.1 in
    let p16 = none_first 16 (bad_spread x) _ (λ e. omega arith) p6.1 in
    let p17 = none_first 17 (last_spread x) _ (λ e. omega arith) p16.1 in
    let p7 = none_first 7 (bad_processors x) _ (λ e. omega arith) p17.1 in
    let p8 = none_first 8 (too_many_tiles x) _ (λ e. omega arith) p7.1 in
    record {
      lengths = p3.0;
      size = p4.0;
      shape = p20.0;
      distances = p5.0;
      tiling = p6.0;
      spread = p16.0;
      last = p17.0;
      counts = p7.0;
      number = p8.0;
    }

module _ (x : Nest) where
  pub length_in : bad_length x ≡ false → (j : ℕ) → j < x.dimensions → (1 ≤ length_of x j) × (length_of x j ≤ 1024)
  unfolding bad_length
  length_in h j l = inside_range (length_of x j) (none_some _ _ h j l)

  pub tile_in : bad_tile x ≡ false → (j : ℕ) → j < x.dimensions → (1 ≤ tile_length x j) × (tile_length x j ≤ 1024)
  unfolding bad_tile
  tile_in h j l = inside_range (tile_length x j) (neither (none_some _ _ h j l)).0

  pub near_in : bad_tile x ≡ false → (e j : ℕ) → e < x.distances → j < x.dimensions → component x e j ≤ tile_length x j
  unfolding bad_tile reached
  near_in h e j d l = ltb-false _ _ (none_some _ _ (neither (none_some _ _ h j l)).1 e d)

  pub moves_in : bad_distance x ≡ false → (e : ℕ) → e < x.distances → (j : ℕ) × (j < x.dimensions) × (1 ≤ component x e j)
  unfolding bad_distance faulty beyond
  moves_in h e l =
      let p = neither (none_some _ _ h e l) in
      let z = not_every _ 4 p.0 in
      let w = eqb-false _ _ z.2 in
      let q = none_some _ 4 (neither p.1).1 z.0 z.1 in
      go z.0 (dec_lt z.0 x.dimensions) w q
    where
      go : (j : ℕ) → Dec (j < x.dimensions) → component x e j ≢ 0 → (leb x.dimensions j and ltb 0 (component x e j)) ≡ false
          → (j : ℕ) × (j < x.dimensions) × (1 ≤ component x e j)
      go j (yes k) w q = (j, k, omega arith)
      go j (no k) w q = absurd (never_both (and_true (le-leb x.dimensions j (omega arith)) (lt-ltb 0 (component x e j) (omega arith))) q)

  pub within_in : bad_distance x ≡ false → (e j : ℕ) → e < x.distances → x.dimensions ≤ j → j < 4 → component x e j ≡ 0
  unfolding bad_distance faulty beyond
  within_in h e j l d f =
      let q = none_some _ 4 (neither (neither (none_some _ _ h e l)).1).1 j f in
      let z = ltb-false 0 (component x e j) (is_false (λ t. never_both (and_true (le-leb x.dimensions j d) t) q)) in
      omega arith

  pub record Spread : Type 0 where
    pub least : 1 ≤ x.spread
    pub low : x.spread < x.dimensions
    pub manned : (j : ℕ) → j < x.spread → 1 ≤ processor_count x j
    pub most : processors x ≤ 64

  -- the spread dimensions, as many as are counted, are the first ones
  pub spread_in : 2 ≤ x.dimensions → x.spread ≡ length (keep (is_spread x) x.dimensions) → Unrefused x → Spread
  unfolding bad_spread last_spread bad_processors
  spread_in two counted p =
      record {
        least = ltb-true 0 _ (sym (front 0 (omega arith)) ∙ true_not (neither p.spread).0);
        low = let l = ltb-false (x.dimensions - 1) _ (sym (front (x.dimensions - 1) (omega arith)) ∙ p.last) in omega arith;
        manned = λ j l. ltb-true 0 (processor_count x j) (front j (omega (arith, few)) ∙ lt-ltb j x.spread l);
        most = ltb-false 64 _ p.counts;
      }
    where
      down : (j : ℕ) → j + 1 < x.dimensions → is_spread x j ≡ false → is_spread x (j + 1) ≡ false
      down j l h = is_false (λ t. never_both (and_true (not-false h) t) (none_some _ _ (neither p.spread).1 j (omega arith)))

      front : (j : ℕ) → j < x.dimensions → is_spread x j ≡ ltb j x.spread
      front j l = front_kept (is_spread x) x.dimensions down j l ∙ ap (ltb j) (sym counted)

      few : x.spread ≤ x.dimensions
      few = rw counted (keep_few (is_spread x) x.dimensions)

  pub size_in : too_large x ≡ false → cells x ≤ 16384
  unfolding too_large
  size_in h = ltb-false _ _ h

  pub no_cell_lem : (t : Bool) → t ≡ some (in_shape x) (cells x) → t ≡ false → no_cell x ≡ true
  unfolding no_cell
  no_cell_lem t e h = not-false (sym e ∙ h)

  pub a_cell : (t : Bool) → t ≡ some (in_shape x) (cells x) → t ≡ true → no_cell x ≡ false
  unfolding no_cell
  a_cell t e h = not-true (sym e ∙ h)

  -- what line 3 adds to line 2, for rows
  pub framed_by : InRange x → bad_length x ≡ false → Framed x
  framed_by s h =
      record {
        dimensions_least = s.dimensions_least;
        dimensions_most = s.dimensions_most;
        bounds_most = s.bounds_most;
        long = λ j l. (length_in h j l).0;
        length_most = λ j l. (length_in h j l).1;
        length_wide = s.length_wide;
        tile_wide = s.tile_wide;
        bounded_low = s.bounded_low;
        earlier_low = s.earlier_low;
        slope_most = s.slope_most;
        offset_most = s.offset_most;
      }

  pub cell_in : no_cell x ≡ false → some (in_shape x) (cells x) ≡ true
  unfolding no_cell
  cell_in h = true_not h

  pub number_in : too_many_tiles x ≡ false → tiles x ≤ 1024
  unfolding too_many_tiles
  number_in h = ltb-false _ _ h

-- ---- the nest of well-formed bytes

module _ (bytes : List ℕ) (n m e : ℕ) where
  -- record r has the kind that may stand there, and passes its checks
  fits : Formed bytes n m e → (r : ℕ) → r < n + m + e + 1 → (may_stand n m e r (kind bytes r) ≡ true) × (checked bytes n r (kind bytes r) ≡ true)
  unfolding fits_at
  fits f r l = both (every_at (fits_at bytes n m e) (records bytes) f.fit r (rw f.total l))

  pub shift_in : Formed bytes n m e → get_or bytes (16 * (n + m + e) + 1) 0 < 32
  shift_in f =
      let p = fits f (n + m + e) (omega arith) in
      let k : kind bytes (n + m + e) ≡ 3 = eqb-true _ _ (sym (stands_last n m e (n + m + e) _ (omega arith) (omega arith) (omega arith)) ∙ p.0) in
      ltb-true _ _ (both (sym (checked_close bytes n (n + m + e) (kind bytes (n + m + e)) k) ∙ p.1)).0

  -- ---- bounds
  below : (b : ℕ) (f : ℕ → ℕ) (k : ℕ) → 0 < b → ((i : ℕ) → i < m → f i < b) → get_or (filled 4 m f) k 0 < b
  below b f k z h = go (dec_lt k m) (dec_lt k 4)
    where
      go : Dec (k < m) → Dec (k < 4) → get_or (filled 4 m f) k 0 < b
      go (yes l) (yes o) = rw (filled_at 4 f m k o, pick_true (ltb k m) (f k) 0 (lt-ltb k m l)) (h k l)
      go (yes l) (no o) = rw (get_or-eq_default (filled 4 m f) 0 {n = k} (rw (filled_length 4 f m) (omega arith))) z
      go (no l) o = rw (filled_out 4 f m k (omega arith)) z

  pub record BoundIn (r : ℕ) : Type 0 where
    pub side : get_or bytes (16 * r + 1) 0 < 2
    pub bounded : get_or bytes (16 * r + 2) 0 < n
    pub earlier : get_or bytes (16 * r + 3) 0 < get_or bytes (16 * r + 2) 0
    pub slope : slope_at bytes r < 3

  pub bound_in : Formed bytes n m e → (k : ℕ) → k < m → BoundIn (n + k)
  unfolding bound_fits
  bound_in f k l =
      let r : ℕ = n + k in
      let p = fits f (n + k) (omega arith) in
      let five : kind bytes (n + k) ≡ 5 = eqb-true _ _ (sym (stands_bound n m e (n + k) _ (omega arith) (omega arith)) ∙ p.0) in
      let p1 = both (sym (checked_bound bytes n (n + k) (kind bytes (n + k)) five) ∙ p.1) in
      let p2 = both p1.1 in
      let p3 = both p2.1 in
      let p4 = both p3.1 in
      record {
        side = ltb-true _ 2 p1.0;
        bounded = ltb-true _ n p2.0;
        earlier = ltb-true _ _ p3.0;
        slope = ltb-true _ 3 p4.0;
      }

  pub side_small : Formed bytes n m e → (k : ℕ) → side (nest_by bytes n m e) k < 2
  unfolding nest_by
  side_small f k = below 2 (λ i. get_or bytes (16 * (n + i) + 1) 0) k (omega arith) (λ i l. (bound_in f i l).side)

  pub slope_small : Formed bytes n m e → (k : ℕ) → slope (nest_by bytes n m e) k < 3
  unfolding nest_by
  slope_small f k = below 3 (λ i. slope_at bytes (n + i)) k (omega arith) (λ i l. (bound_in f i l).slope)

  pub offset_small : (k : ℕ) → bound_offset (nest_by bytes n m e) k < 65536
  unfolding nest_by
  offset_small k = filled_below 4 _ m 65536 (omega arith) (λ i. mod-lt (half bytes (16 * (n + i) + 6) + 32768) (omega arith)) k

  pub bounded_small : Formed bytes n m e → (k : ℕ) → k < m → bounded (nest_by bytes n m e) k < n
  unfolding nest_by
  bounded_small f k l = rw (filled_in 4 (λ i. get_or bytes (16 * (n + i) + 2) 0) m k l f.bounds_most) (bound_in f k l).bounded

  pub earlier_small : Formed bytes n m e → (k : ℕ) → k < m → earlier (nest_by bytes n m e) k < bounded (nest_by bytes n m e) k
  unfolding nest_by
  earlier_small f k l =
      rw (filled_in 4 (λ i. get_or bytes (16 * (n + i) + 2) 0) m k l f.bounds_most, filled_in 4 (λ i. get_or bytes (16 * (n + i) + 3) 0) m k l f.bounds_most)
      (bound_in f k l).earlier

  pub room : Formed bytes n m e → 16 * (n + m + e + 1) ≤ length bytes
  room f = omega (arith, f.total)

  pub length_wide : Bytes bytes → (j : ℕ) → length_of (nest_by bytes n m e) j < 65536
  unfolding nest_by
  length_wide b = filled_below 4 _ n 65536 (omega arith) (λ i. half_small bytes b _)

  pub tile_wide : Bytes bytes → (j : ℕ) → tile_length (nest_by bytes n m e) j < 65536
  unfolding nest_by
  tile_wide b = filled_below 4 _ n 65536 (omega arith) (λ i. half_small bytes b _)

  pub count_wide : Bytes bytes → (j : ℕ) → processor_count (nest_by bytes n m e) j < 65536
  unfolding nest_by
  count_wide b = filled_below 4 _ n 65536 (omega arith) (λ i. half_small bytes b _)

  length_out : (j : ℕ) → n ≤ j → length_of (nest_by bytes n m e) j ≡ 0
  unfolding nest_by
  length_out j h = filled_out 4 _ n j h

  tile_out : (j : ℕ) → n ≤ j → tile_length (nest_by bytes n m e) j ≡ 0
  unfolding nest_by
  tile_out j h = filled_out 4 _ n j h

  component_out : (k : ℕ) → 4 * e ≤ k → get_or (nest_by bytes n m e).components k 0 ≡ 0
  unfolding nest_by
  component_out k h = filled_out 32 _ (4 * e) k h

  weight_below : Bytes bytes → (k : ℕ) → weight (nest_by bytes n m e) k < 65536
  unfolding nest_by
  weight_below b = filled_below 8 _ e 65536 (omega arith) (λ i. weight_small bytes (n + m + i) b)

  boundary_small : Bytes bytes → (nest_by bytes n m e).boundary < 4294967296
  unfolding nest_by
  boundary_small b = word_small bytes b _

  pub sizes_are : ((nest_by bytes n m e).dimensions ≡ n) × ((nest_by bytes n m e).distances ≡ e) × ((nest_by bytes n m e).shift ≡ get_or bytes (16 * (n + m + e) + 1)
      0) × ((nest_by bytes n m e).bounds ≡ m)
  unfolding nest_by
  sizes_are = (refl, refl, refl, refl)

  pub spread_few : (nest_by bytes n m e).spread ≤ n
  unfolding nest_by
  spread_few = keep_few (λ j. ltb 0 (half bytes (16 * j + 6))) n

  -- the spread dimensions that the nest tells are those of its counts
  spread_counted : n ≤ 4 → (nest_by bytes n m e).spread ≡ length (keep (is_spread (nest_by bytes n m e)) (nest_by bytes n m e).dimensions)
  unfolding nest_by
  spread_counted l = ap length (keep_same _ _ n (λ j h. ap (ltb 0) (sym (filled_in 4 (λ i. half bytes (16 * i + 6)) n j h l))))

  pub accepted_by : Bytes bytes → Formed bytes n m e → Unrefused (nest_by bytes n m e) → Accepted (nest_by bytes n m e)
  accepted_by b f p =
      let x : Nest = nest_by bytes n m e in
      let s = spread_in x (rw sizes_are.0 f.dimensions_least) (spread_counted f.dimensions_most) p in
      record {
        dimensions_least = rw sizes_are.0 f.dimensions_least;
        dimensions_most = rw sizes_are.0 f.dimensions_most;
        spread_least = s.least;
        spread_low = s.low;
        distances_least = rw sizes_are.1 f.distances_least;
        distances_most = rw sizes_are.1 f.distances_most;
        bounds_most = rw sizes_are.3 f.bounds_most;
        long = λ j l. (length_in x p.lengths j l).0;
        length_most = λ j. small_length j (dec_lt j n);
        tiled = λ j l. (tile_in x p.tiling j l).0;
        tile_most = λ j. small_tile j (dec_lt j n);
        manned = s.manned;
        near = near_in x p.tiling;
        component_most = λ d j. small_component (4 * d + j) (dec_lt (4 * d + j) (4 * e));
        moves = λ e l. let m = moves_in x p.distances e l in some_one _ x.dimensions m.0 m.1 (le-leb _ _ m.2);
        weight_most = weight_below b;
        side_most = λ k. omega (arith, side_small f k);
        bounded_low = λ k l. rw sizes_are.0 (bounded_small f k (rw sizes_are.3 at l));
        earlier_low = λ k l. earlier_small f k (rw sizes_are.3 at l);
        slope_most = λ k. omega (arith, slope_small f k);
        offset_most = offset_small;
        shift_most = rw sizes_are.2 (shift_in f);
        boundary_most = boundary_small b;
        cells_most = size_in x p.size;
        has_cell = cell_in x p.shape;
        tiles_most = number_in x p.number;
        processors_most = s.most;
      }
    where
      small_length : (j : ℕ) → Dec (j < n) → length_of (nest_by bytes n m e) j ≤ 1024
      small_length j (yes l) = (length_in (nest_by bytes n m e) p.lengths j (rw sizes_are.0 l)).1
      small_length j (no l) = let z = length_out j (omega arith) in omega arith

      -- a component within the dimensions is at most its tile length, one beyond them is 0
      small_component : (k : ℕ) → Dec (k < 4 * e) → get_or (nest_by bytes n m e).components k 0 ≤ 1024
      small_component k (no l) = let z = component_out k (omega arith) in omega arith
      small_component k (yes l) =
          let d : k / 4 < (nest_by bytes n m e).distances = rw sizes_are.1 (omega arith) in
          let same_place : 4 * (k / 4) + k % 4 ≡ k = omega arith in
          let most : component (nest_by bytes n m e) (k / 4) (k % 4) ≤ 1024 = go (k / 4) (k % 4) d (omega arith) (dec_lt (k % 4) n) in
          rw same_place at most
        where
          go : (d j : ℕ) → d < (nest_by bytes n m e).distances → j < 4 → Dec (j < n) → component (nest_by bytes n m e) d j ≤ 1024
          go d j l f (yes o) =
              let o' : j < (nest_by bytes n m e).dimensions = rw sizes_are.0 o in
              let k = near_in (nest_by bytes n m e) p.tiling d j l o' in
              let t = tile_in (nest_by bytes n m e) p.tiling j o' in
              omega arith
          go d j l f (no o) = let z = within_in (nest_by bytes n m e) p.distances d j l (rw sizes_are.0 (omega arith)) f in omega arith

      small_tile : (j : ℕ) → Dec (j < n) → tile_length (nest_by bytes n m e) j ≤ 1024
      small_tile j (yes l) = (tile_in (nest_by bytes n m e) p.tiling j (rw sizes_are.0 l)).1
      small_tile j (no l) = let z = tile_out j (omega arith) in omega arith

-- ---- the whole

pub stray_no : (bytes : List ℕ) → stray_record bytes ≡ false → Formed bytes (of_kind bytes 1) (of_kind bytes 5) (distances_of bytes)
unfolding stray_record
stray_no bytes h = formed bytes _ _ _ (true_not h)

pub accepted : (bytes : List ℕ) → Bytes bytes → first_of (read_lines bytes) ≡ 0 → Accepted (nest_of bytes)
unfolding read_lines nest_of
accepted bytes b h =
    let p1 = none_first 1 (ragged bytes) _ (λ e. omega arith) h in
    let p2 = none_first 2 (stray_record bytes) _ (λ e. omega arith) p1.1 in
    accepted_by bytes (of_kind bytes 1) (of_kind bytes 5) (distances_of bytes) b (stray_no bytes p2.0) (unrefused _ _ p2.1)
