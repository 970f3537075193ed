-- What the test `fits` says: numbers that fit their fields. What was read fits.
use Prim.Native.Nat.{ℕ, ◌+◌, ◌*◌, ◌/◌, ◌%◌, ◌≤◌, ◌<◌}
use mathlib.Core.Path.{◌≡◌, sym, ap, ◌∙◌}
use mathlib.Core.Bool.{Bool, true, false}
use mathlib.Core.List.{List}
use native.Mathlib.Omega.{arith}
use native.Mathlib.Decide.{dec_lt}
use native.Mathlib.Nat.{mod-lt}
use lib.ListN.{length, get_or, get_or-eq_default}
use lib.Dec.{eqb, ltb}
use borrow.Author.Tests.{eq-eqb, eqb-true, lt-ltb, le-ltb, ltb-true, le-leb, leb-true}
use Rattle.base.specs.Tests.{pick, keep}
use Rattle.base.specs.Lists.{Bytes}
use Rattle.base.specs.Numbers.{first_of}
use Rattle.base.proofs.Tests.{both, and_true, and_left, is_false, never_both, every_at, every_all, pick_true, pick_false}
use Rattle.base.proofs.Numbers.{none_first}
use Rattle.base.proofs.Select.{keep_same}
use Rattle.nest.specs.declared.Nest.{Nest}
use Rattle.nest.specs.Nest.{processor_count}
use Rattle.base.specs.Bytes.{half}
use Rattle.nest.specs.Reader.{filled, nest_by, nest_of, of_kind, distances_of, ragged, stray_record, read_lines}
use Rattle.nest.proofs.Laws.{Formed, filled_length, filled_in, filled_out, filled_below, half_small, word_small, component_small, weight_small}
use Rattle.nest.proofs.Facts.{stray_no}
use Rattle.writer.specs.Writing.{fits_in, fits, bounds_fit, nest_writable}
use Rattle.writer.specs.Demand202.{Tables}

-- a table of the given size whose first n numbers are below the bound; the others are 0
pub record Table (size n bound : ℕ) (l : List ℕ) : Type 0 where
  pub long : length l ≡ size
  pub fit : (i : ℕ) → i < n → get_or l i 0 < bound
  pub rest : (i : ℕ) → n ≤ i → get_or l i 0 ≡ 0

pub record Fits (x : Nest) : Type 0 where
  pub dimensions : x.dimensions ≤ 4
  pub distances : x.distances ≤ 8
  pub bounds : x.bounds ≤ 4
  pub sides : Table 4 x.bounds 256 x.sides
  pub bounded : Table 4 x.bounds 256 x.bounded
  pub earlier : Table 4 x.bounds 256 x.earlier
  pub slopes : Table 4 x.bounds 256 x.slopes
  pub offsets : Table 4 x.bounds 65536 x.offsets
  pub lengths : Table 4 x.dimensions 65536 x.lengths
  pub tiling : Table 4 x.dimensions 65536 x.tiling
  pub counts : Table 4 x.dimensions 65536 x.counts
  pub components : Table 32 (4 * x.distances) 65536 x.components
  pub weights : Table 8 x.distances 65536 x.weights
  pub shift : x.shift < 256
  pub boundary : x.boundary < 4294967296
  pub spread : x.spread ≡ length (keep (λ j. ltb 0 (processor_count x j)) x.dimensions)

-- ---- one table

table_fits : (size n bound : ℕ) (l : List ℕ) → 0 < bound → length l ≡ size → fits_in n bound l ≡ true → Table size n bound l
unfolding fits_in
table_fits size n bound l z e h = record { long = e; fit = λ i k. inside i k (dec_lt i (length l)); rest = λ i k. beyond i k (dec_lt i (length l)) }
  where
    below : (i : ℕ) → i < length l → get_or l i 0 < pick (ltb i n) bound 1
    below i q = ltb-true (get_or l i 0) (pick (ltb i n) bound 1) (every_at (λ k. ltb (get_or l k 0) (pick (ltb k n) bound 1)) (length l) h i q)

    past : (i : ℕ) → length l ≤ i → get_or l i 0 ≡ 0
    past i k = get_or-eq_default l 0 {n = i} k

    inside : (i : ℕ) → i < n → Dec (i < length l) → get_or l i 0 < bound
    inside i k (yes q) = rw (pick_true (ltb i n) bound 1 (lt-ltb i n k)) at (below i q)
    inside i k (no q) = rw (past i (omega arith)) z

    beyond : (i : ℕ) → n ≤ i → Dec (i < length l) → get_or l i 0 ≡ 0
    beyond i k (yes q) =
        let w : get_or l i 0 < 1 = rw (pick_false (ltb i n) bound 1 (le-ltb i n k)) at (below i q) in
        omega arith
    beyond i k (no q) = past i (omega arith)

fits_table : (size n bound : ℕ) (l : List ℕ) → Table size n bound l → fits_in n bound l ≡ true
unfolding fits_in
fits_table size n bound l t = every_all _ (length l) (λ i h. go i (dec_lt i n))
  where
    go : (i : ℕ) → Dec (i < n) → ltb (get_or l i 0) (pick (ltb i n) bound 1) ≡ true
    go i (yes k) = lt-ltb (get_or l i 0) (pick (ltb i n) bound 1) (rw (pick_true (ltb i n) bound 1 (lt-ltb i n k)) (t.fit i k))
    go i (no k) = lt-ltb (get_or l i 0) (pick (ltb i n) bound 1) (rw (pick_false (ltb i n) bound 1 (le-ltb i n (omega arith)), t.rest i (omega arith))
        (omega arith))

pub filled_table : (size n bound : ℕ) (g : ℕ → ℕ) → 0 < bound → ((i : ℕ) → g i < bound) → Table size n bound (filled size n g)
filled_table size n bound g z h =
    record { long = filled_length size g n; fit = λ i k. filled_below size g n bound z h i; rest = λ i k. filled_out size g n i k }

-- ---- the whole test

pub record Parts (x : Nest) : Type 0 where
  pub lengths : fits_in x.dimensions 65536 x.lengths ≡ true
  pub tiling : fits_in x.dimensions 65536 x.tiling ≡ true
  pub counts : fits_in x.dimensions 65536 x.counts ≡ true
  pub components : fits_in (4 * x.distances) 65536 x.components ≡ true
  pub weights : fits_in x.distances 65536 x.weights ≡ true
  pub shift : ltb x.shift 256 ≡ true
  pub boundary : ltb x.boundary 4294967296 ≡ true
  pub spread : eqb x.spread (length (keep (λ j. ltb 0 (processor_count x j)) x.dimensions)) ≡ true

pub parts : (x : Nest) → fits x ≡ true → Parts x
unfolding fits
parts x h =
    let p1 = both h in
    let p2 = both p1.1 in
    let p3 = both p2.1 in
    let p4 = both p3.1 in
    let p5 = both p4.1 in
    let p6 = both p5.1 in
    let p7 = both p6.1 in
    record { lengths = p1.0; tiling = p2.0; counts = p3.0; components = p4.0; weights = p5.0; shift = p6.0; boundary = p7.0; spread = p7.1 }

pub unfit : (x : Nest) (t : Bool) → (Parts x → t ≡ true) → t ≡ false → false ≡ fits x
unfit x t f e = sym (is_false (λ h. never_both (f (parts x h)) e))

pub fit_all : (x : Nest) (m : ℕ)
    → fits_in x.dimensions 65536 x.lengths ≡ true → fits_in x.dimensions 65536 x.tiling ≡ true
    → fits_in x.dimensions 65536 x.counts ≡ true → fits_in (4 * x.distances) 65536 x.components ≡ true
    → fits_in x.distances 65536 x.weights ≡ true → x.shift < 256 → x.boundary < 4294967296
    → m ≡ length (keep (λ j. ltb 0 (processor_count x j)) x.dimensions) → eqb x.spread m ≡ fits x
unfolding fits
fit_all x m a b c d e f g h =
    rw h
    (sym (and_left _ _ a ∙ (and_left _ _ b ∙ (and_left _ _ c ∙ (and_left _ _ d ∙
    (and_left _ _ e ∙ (and_left _ _ (lt-ltb _ _ f) ∙ and_left _ _ (lt-ltb _ _ g))))))))

pub record BoundParts (x : Nest) : Type 0 where
  pub sides : fits_in x.bounds 256 x.sides ≡ true
  pub bounded : fits_in x.bounds 256 x.bounded ≡ true
  pub earlier : fits_in x.bounds 256 x.earlier ≡ true
  pub slopes : fits_in x.bounds 256 x.slopes ≡ true
  pub offsets : fits_in x.bounds 65536 x.offsets ≡ true

pub bound_parts : (x : Nest) → bounds_fit x ≡ true → BoundParts x
unfolding bounds_fit
bound_parts x h =
    let p1 = both h in
    let p2 = both p1.1 in
    let p3 = both p2.1 in
    let p4 = both p3.1 in
    record { sides = p1.0; bounded = p2.0; earlier = p3.0; slopes = p4.0; offsets = p4.1 }

pub unfit_bounds : (x : Nest) (t : Bool) → (BoundParts x → t ≡ true) → t ≡ false → false ≡ bounds_fit x
unfit_bounds x t f e = sym (is_false (λ h. never_both (f (bound_parts x h)) e))

pub fit_bounds : (x : Nest) → fits_in x.bounds 256 x.sides ≡ true → fits_in x.bounds 256 x.bounded ≡ true
    → fits_in x.bounds 256 x.earlier ≡ true → fits_in x.bounds 256 x.slopes ≡ true
    → fits_in x.bounds 65536 x.offsets ≡ bounds_fit x
unfolding bounds_fit
fit_bounds x a b c d = sym (and_left _ _ a ∙ (and_left _ _ b ∙ (and_left _ _ c ∙ and_left _ _ d)))

pub writable_fits : (x : Nest) → Tables x → nest_writable x ≡ true → Fits x
unfolding nest_writable
writable_fits x s h =
    let q = both h in
    let r = both q.1 in
    let t = both r.1 in
    let u = both t.1 in
    let p = parts x u.1 in
    let d = bound_parts x u.0 in
    record {
      dimensions = leb-true _ _ q.0;
      distances = leb-true _ _ r.0;
      bounds = leb-true _ _ t.0;
      sides = table_fits 4 _ _ _ (omega arith) s.sides d.sides;
      bounded = table_fits 4 _ _ _ (omega arith) s.bounded d.bounded;
      earlier = table_fits 4 _ _ _ (omega arith) s.earlier d.earlier;
      slopes = table_fits 4 _ _ _ (omega arith) s.slopes d.slopes;
      offsets = table_fits 4 _ _ _ (omega arith) s.offsets d.offsets;
      lengths = table_fits 4 _ _ _ (omega arith) s.lengths p.lengths;
      tiling = table_fits 4 _ _ _ (omega arith) s.tiling p.tiling;
      counts = table_fits 4 _ _ _ (omega arith) s.counts p.counts;
      components = table_fits 32 _ _ _ (omega arith) s.components p.components;
      weights = table_fits 8 _ _ _ (omega arith) s.weights p.weights;
      shift = ltb-true _ _ p.shift;
      boundary = ltb-true _ _ p.boundary;
      spread = eqb-true _ _ p.spread;
    }

pub fits_writable : (x : Nest) → Fits x → nest_writable x ≡ true
unfolding nest_writable fits bounds_fit
fits_writable x f =
    and_true (le-leb _ _ f.dimensions)
    (and_true (le-leb _ _ f.distances)
    (and_true (le-leb _ _ f.bounds)
    (and_true (and_true (fits_table 4 _ _ _ f.sides) (and_true (fits_table 4 _ _ _ f.bounded) (and_true (fits_table 4 _ _ _ f.earlier)
    (and_true (fits_table 4 _ _ _ f.slopes) (fits_table 4 _ _ _ f.offsets)))))
    (and_true (fits_table 4 _ _ _ f.lengths)
    (and_true (fits_table 4 _ _ _ f.tiling)
    (and_true (fits_table 4 _ _ _ f.counts)
    (and_true (fits_table 32 _ _ _ f.components)
    (and_true (fits_table 8 _ _ _ f.weights)
    (and_true (lt-ltb _ _ f.shift) (and_true (lt-ltb _ _ f.boundary) (eq-eqb _ _ f.spread)))))))))))

-- ---- what was read fits

module _ (b : List ℕ) (bytes : Bytes b) (n m e : ℕ) (f : Formed b n m e) where
  nest_fits : Fits (nest_by b n m e)
  unfolding nest_by
  nest_fits =
      record {
        dimensions = f.dimensions_most;
        distances = f.distances_most;
        bounds = f.bounds_most;
        sides = filled_table 4 m _ _ (omega arith) (λ i. bytes _);
        bounded = filled_table 4 m _ _ (omega arith) (λ i. bytes _);
        earlier = filled_table 4 m _ _ (omega arith) (λ i. bytes _);
        slopes = filled_table 4 m _ _ (omega arith) (λ i. mod-lt (get_or b (16 * (n + i) + 4) 0 + 1) (omega arith));
        offsets = filled_table 4 m _ _ (omega arith) (λ i. mod-lt (half b (16 * (n + i) + 6) + 32768) (omega arith));
        lengths = filled_table 4 n _ _ (omega arith) (λ i. half_small b bytes _);
        tiling = filled_table 4 n _ _ (omega arith) (λ i. half_small b bytes _);
        counts = filled_table 4 n _ _ (omega arith) (λ i. half_small b bytes _);
        components = filled_table 32 (4 * e) _ _ (omega arith) (λ i. component_small b (n + m + i / 4) bytes (i % 4));
        weights = filled_table 8 e _ _ (omega arith) (λ i. weight_small b (n + m + i) bytes);
        shift = bytes _;
        boundary = word_small b bytes _;
        spread = ap length (keep_same _ _ n (λ i h. ap (ltb 0) (sym (filled_in 4 (λ j. half b (16 * j + 6)) n i h f.dimensions_most))));
      }

pub read_fits : (b : List ℕ) → Bytes b → first_of (read_lines b) ≡ 0 → Fits (nest_of b)
unfolding read_lines nest_of
read_fits b bytes h =
    let p1 = none_first 1 (ragged b) _ (λ e. omega arith) h in
    let p2 = none_first 2 (stray_record b) _ (λ e. omega arith) p1.1 in
    nest_fits b bytes (of_kind b 1) (of_kind b 5) (distances_of b) (stray_no b p2.0)
