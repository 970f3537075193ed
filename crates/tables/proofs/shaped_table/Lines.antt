-- Laws of rows of the box's tiles along the last dimension: their processor, bounds met all over an area, tiles like the one before them.
use Prim.Native.Nat.{ℕ, suc, ◌+◌, ◌*◌, ◌-◌, ◌/◌, ◌%◌, ◌≤◌, ◌<◌, min}
use mathlib.Core.Path.{◌≡◌, refl, sym, ap, ◌∙◌}
use mathlib.Core.Logic.{◌≢◌}
use mathlib.Core.Bool.{true}
use mathlib.Core.List.{List}
use native.Mathlib.Decide.{ℕ_discrete}
use native.Mathlib.Nat.{mul-le-mul, suc-mul, add-mul, mod-eq_of_lt, mul-add-mod_self_right, div-add-mod', div-le_self}
use native.Mathlib.Nat.{le-div_iff_mul-le, div-lt_iff_lt-mul}
use native.Mathlib.Omega.{arith}
use lib.ListN.{length, get_or}
use lib.Dec.{eqb}
use borrow.Author.Tests.{eqb-true, eq-eqb, ne_eqb, ltb-true, le-leb}
use Rattle.base.specs.Tests.{◌and◌, every, some}
use Rattle.base.proofs.Tests.{both, and_true, same_test, every_at, every_more, some_at, some_one, pick_true, pick_false}
use Rattle.base.proofs.Select.{keep_same}
use Rattle.nest.specs.declared.Nest.{Nest}
use Rattle.nest.specs.declared.Interval.{Interval}
use Rattle.nest.specs.Accepted.{Accepted}
use Rattle.nest.specs.Nest.{length_of, tile_length, tile_count, processor_count, component, side, bounded, earlier, slope, bound_offset, cells, box_tiles}
use Rattle.nest.specs.Places.{place, cell_place, tile_place, box_tile_of}
use Rattle.nest.specs.Shape.{level, raised, meets, in_shape, tiles}
use Rattle.nest.specs.Spans.{last}
use Rattle.nest.proofs.Rank.{rank_same, place_last, place_before}
use Rattle.plan.specs.declared.Route.TheVariants.{Direct}
use Rattle.plan.specs.Geometry.{processor_of, inside}
use Rattle.plan.specs.Messages.{reaches, crosses, parcel}
use Rattle.layout.specs.Regions.{direct_box}
use Rattle.plan.specs.Shaped.{box_tile, reaches_shape, shaped_parcel}
use Rattle.plan.proofs.Tiles.{cell_place_low, tile_count_pos, tile_place_low, tile_place_box_tile_of}
use Rattle.layout.proofs.Regions.{among_at, box_all}
use Rattle.plan.proofs.ShapedTiles.{box_tile_low, box_tile_lt}
use Rattle.layout.proofs.Twins.{twin}
use Rattle.layout.specs.Places.{Has}
use Rattle.layout.proofs.Cells.{count_most, box_few}
use Rattle.layout.proofs.Loops.{Filled}
use Rattle.parcels.specs.declared.Window.{Window}
use Rattle.parcels.specs.shaped.Runs.{in_place}
use Rattle.parcels.specs.shaped.Parcels.{Farthest}
use Rattle.parcels.proofs.shaped.Runs.{shape_cell, shape_at}
use Rattle.tables.specs.shaped_table.Table.{Like}
use Rattle.tables.specs.shaped_table.Lines.{OneProcessor, Area, Few, Among, Cut, Inner, PlacesIn, Lined}
use Rattle.tables.proofs.shaped_table.Laws.{whole_slot}

-- ---- tiles of one row

same_quotient : (n u v : ℕ) → 1 ≤ n → u / n * n ≤ v → v < u / n * n + n → v / n ≡ u / n
same_quotient n u v pos h l =
    let a = (le-div_iff_mul-le {k = n} {x = u / n} {y = v} pos).1 h in
    let b = (div-lt_iff_lt-mul {k = n} {x = v} {y = u / n + 1} pos).1 (omega (arith, add-mul (u / n) 1 n)) in
    omega (arith, a, b)

module _ (x : Nest) (ok : Accepted x) where
  abbrev pub count : ℕ
  count = tile_count x (last x)

  pub inner : last x < x.dimensions
  inner = omega (arith, ok.dimensions_least)

  one_more : x.dimensions ≡ suc (last x)
  one_more = omega (arith, ok.dimensions_least)

  count_pos : 1 ≤ count
  count_pos = tile_count_pos x ok (last x) inner

  row_place : (u v j : ℕ) → v / count ≡ u / count → j < last x → tile_place x v j ≡ tile_place x u j
  unfolding tile_place
  row_place u v j e h =
      ap (λ (n : ℕ). place (tile_count x) n v j) one_more
      ∙ place_before (tile_count x) (last x) v j h
      ∙ ap (λ (q : ℕ). place (tile_count x) (last x) q j) e
      ∙ sym (ap (λ (n : ℕ). place (tile_count x) n u j) one_more ∙ place_before (tile_count x) (last x) u j h)

  row_last : (v : ℕ) → tile_place x v (last x) ≡ v % count
  unfolding tile_place
  row_last v = ap (λ (n : ℕ). place (tile_count x) n v (last x)) one_more ∙ place_last (tile_count x) (last x) v

  row_owner : (u v : ℕ) → v / count ≡ u / count → processor_of x v ≡ processor_of x u
  unfolding processor_of
  row_owner u v e = rank_same (processor_count x) _ _ x.spread
      (λ j h. ap (λ (a : ℕ). a % processor_count x j) (row_place u v j e (omega (arith, ok.spread_low))))

  pub held_none : (u : ℕ) → OneProcessor x u 0 0
  held_none u = record { each = λ v h l. absurd (omega arith) }

  pub held_here : (u p e : ℕ) → OneProcessor x u p e → u < e → p ≡ processor_of x u
  held_here u p e f h = sym (f.each u (omega arith) h)

  pub held_later : (u v p e : ℕ) → OneProcessor x u p e → u ≤ v → OneProcessor x v p e
  held_later u v p e f h = record { each = λ i k l. f.each i (omega arith) l }

  -- the row's end fits
  pub row_fits : (u n : ℕ) → n ≡ count → u < box_tiles x → (0 < n) × ((u % n ≤ u) × (u - u % n + n ≤ 32768))
  row_fits u n e h =
      (omega (arith, count_pos), (omega (arith, div-add-mod' u n), omega (arith, box_few x ok, count_most x ok (last x) inner)))

  pub held_row : (u n p : ℕ) → n ≡ count → p ≡ processor_of x u → OneProcessor x u p (u - u % n + n)
  held_row u n p e q =
      record { each = λ v h l. row_owner u v (same_quotient count u v count_pos (omega (arith, split)) (omega (arith, split, ends l))) ∙ sym q }
    where
      split : u / count * count + u % count ≡ u
      split = div-add-mod' u count

      ends : {v : ℕ} → v < u - u % n + n → v < u - u % count + count
      ends l = rw e at l

  -- the tile's place in its row
  pub place_few : (u : ℕ) (at : List ℕ) → Has at (tile_place x u) x.dimensions → (j : ℕ) → j < x.dimensions → get_or at j 0 ≤ 1024
  place_few u at f j h = omega (arith, f.each j h, tile_place_low x ok u j h, count_most x ok j h)

  pub first_low : (u : ℕ) (at : List ℕ) → Has at (tile_place x u) x.dimensions → get_or at (last x) 0 ≤ u
  first_low u at f = omega (arith, f.each (last x) inner, row_last u, div-add-mod' u count)

  pub across_few : (n : ℕ) → n ≡ count → n ≤ 1024
  across_few n e = omega (arith, count_most x ok (last x) inner)

  pub boxes_few : box_tiles x ≤ 16384
  boxes_few = box_few x ok

  -- the processors of tiles that come later
  pub held_next : (t v p e : ℕ) → v ≡ box_tile x t → t < tiles x → OneProcessor x v p e → (s : ℕ) → t + 1 ≤ s → s < tiles x → OneProcessor x (box_tile x s) p e
  held_next t v p e q h f s l k = held_later v (box_tile x s) p e f (omega (arith, box_tile_lt x t s h k (omega arith)))

-- ---- an area

module _ (x : Nest) (ok : Accepted x) (at : List ℕ) (small : (j : ℕ) → j < x.dimensions → get_or at j 0 ≤ 1024) where
  pub first_few : (j : ℕ) → j < x.dimensions → get_or at j 0 * tile_length x j ≤ 1048576
  first_few j h = omega (arith, mul-le-mul {n₁ = get_or at j 0} {m₁ = tile_length x j} {n₂ = 1024} {m₂ = 1024} (small j h) (ok.tile_most j))

  pub area_is : (most low high : List ℕ) (j : ℕ) → Filled 4 (λ i. get_or at i 0 * tile_length x i) x.dimensions low j
      → Filled 4 (λ i. get_or at i 0 * tile_length x i + (tile_length x i - 1) + get_or most i 0) x.dimensions high j → x.dimensions ≤ j
      → Area x at most (record { low = low; high = high })
  area_is most low high j f g h =
      record {
        low = λ i o. f.each i (omega arith);
        high = λ i o. omega (arith, g.each i (omega arith), ok.tiled i o);
      }

  pub area_few : (most : List ℕ) (w : Window) → Farthest x most → Area x at most w → Few x w
  area_few most w g f =
      record {
        low = λ j h. omega (arith, f.low j h, first_few j h);
        high = λ j h. omega (arith, f.high j h, first_few j h, ok.tile_most j, g.small j);
      }

-- ---- numbers: s is the slope plus 1

lower_meets : (s o b e le he w : ℕ) → s ≤ 2 → (s ≡ 0 → w ≡ le) → (0 < s → w ≡ he) → s * w + o ≤ b + w + 32768
    → le ≤ e → e ≤ he → s * e + o ≤ b + e + 32768
lower_meets s o b e le he w m p q h j k = go (ℕ_discrete s 0) (ℕ_discrete s 1)
  where
    go : Dec (s ≡ 0) → Dec (s ≡ 1) → s * e + o ≤ b + e + 32768
    go (yes z) d = let g : 0 * w + o ≤ b + w + 32768 = rw z at h in rw z (omega (arith, p z))
    go (no z) (yes y) = let g : 1 * w + o ≤ b + w + 32768 = rw y at h in rw y (omega (arith, q (omega arith)))
    go (no z) (no y) =
        let t : s ≡ 2 = omega arith in
        let g : 2 * w + o ≤ b + w + 32768 = rw t at h in
        rw t (omega (arith, q (omega arith)))

upper_meets : (s o b e le he w : ℕ) → s ≤ 2 → (s ≡ 0 → w ≡ he) → (0 < s → w ≡ le) → b + w + 32768 ≤ s * w + o
    → le ≤ e → e ≤ he → b + e + 32768 ≤ s * e + o
upper_meets s o b e le he w m p q h j k = go (ℕ_discrete s 0) (ℕ_discrete s 1)
  where
    go : Dec (s ≡ 0) → Dec (s ≡ 1) → b + e + 32768 ≤ s * e + o
    go (yes z) d = let g : b + w + 32768 ≤ 0 * w + o = rw z at h in rw z (omega (arith, p z))
    go (no z) (yes y) = let g : b + w + 32768 ≤ 1 * w + o = rw y at h in rw y (omega (arith, q (omega arith)))
    go (no z) (no y) =
        let t : s ≡ 2 = omega arith in
        let g : b + w + 32768 ≤ 2 * w + o = rw t at h in
        rw t (omega (arith, q (omega arith)))

-- ---- what a bound leaves

module _ (x : Nest) (ok : Accepted x) (w : Window) (k : ℕ) (l : k < x.bounds) where
  bounded_in : bounded x k < x.dimensions
  bounded_in = ok.bounded_low k l

  earlier_in : earlier x k < last x
  earlier_in = omega (arith, ok.earlier_low k l, bounded_in)

  pub bound_four : (bounded x k < 4) × (earlier x k < 4)
  bound_four = (omega (arith, bounded_in, ok.dimensions_most), omega (arith, earlier_in, ok.dimensions_most))

  module _ (few : Few x w) (at : ℕ) where
    -- the numbers of the code fit
    pub low_fits : (slope x k ≡ 0 → at ≡ get_or w.low (earlier x k) 0) × (0 < slope x k → at ≡ get_or w.high (earlier x k) 0) → at ≤ 2097152
    low_fits h = go (ℕ_discrete (slope x k) 0)
      where
        go : Dec (slope x k ≡ 0) → at ≤ 2097152
        go (yes z) = omega (arith, h.0 z, few.low (earlier x k) (omega (arith, earlier_in)))
        go (no z) = omega (arith, h.1 (omega arith), few.high (earlier x k) (omega (arith, earlier_in)))

    pub high_fits : (slope x k ≡ 0 → at ≡ get_or w.high (earlier x k) 0) × (0 < slope x k → at ≡ get_or w.low (earlier x k) 0) → at ≤ 2097152
    high_fits h = go (ℕ_discrete (slope x k) 0)
      where
        go : Dec (slope x k ≡ 0) → at ≤ 2097152
        go (yes z) = omega (arith, h.0 z, few.high (earlier x k) (omega (arith, earlier_in)))
        go (no z) = omega (arith, h.1 (omega arith), few.low (earlier x k) (omega (arith, earlier_in)))

    pub level_fits : at ≤ 2097152 → (slope x k * at ≤ 4194304) × (slope x k * at + bound_offset x k ≤ 4259840)
    level_fits h =
        let m = mul-le-mul {n₁ = slope x k} {m₁ = at} {n₂ = 2} {m₂ = 2097152} (ok.slope_most k) h in
        (omega (arith, m), omega (arith, m, ok.offset_most k))

  pub side_fits : Few x w → (get_or w.low (bounded x k) 0 ≤ 2097152) × (get_or w.high (bounded x k) 0 ≤ 2097152)
  side_fits f = (f.low (bounded x k) bounded_in, f.high (bounded x k) bounded_in)

  module _ (left : Interval) (room : (left.from ≤ 8388608) × (left.to ≤ 1024)) where
    pub cut_nothing : Cut x w k left (record { from = 0; to = 0 })
    cut_nothing =
        record {
          part = λ a h m. absurd (omega arith);
          few = (omega arith, omega arith);
          is = λ i b h m. absurd (omega arith);
        }

    module _ (at : ℕ) (is : side x k ≡ 0)
        (f : (slope x k ≡ 0 → at ≡ get_or w.low (earlier x k) 0) × (0 < slope x k → at ≡ get_or w.high (earlier x k) 0)) where
      lower_met : (i : ℕ → ℕ) → Among x w i → slope x k * at + bound_offset x k ≤ i (bounded x k) + at + 32768 → meets x i k ≡ true
      unfolding meets level raised
      lower_met i b h =
          pick_true _ _ _ (eq-eqb (side x k) 0 is) ∙ le-leb _ _ (lower_meets (slope x k) (bound_offset x k) (i (bounded x k)) (i (earlier x k))
          (get_or w.low (earlier x k) 0) (get_or w.high (earlier x k) 0) at (ok.slope_most k) f.0 f.1 h
          (b (earlier x k) earlier_in).0 (b (earlier x k) earlier_in).1)

      -- the bounded dimension is an earlier one
      pub lower_aside : bounded x k + 1 < x.dimensions → slope x k * at + bound_offset x k ≤ get_or w.low (bounded x k) 0 + at + 32768 → Cut x w k left left
      lower_aside d h =
          record {
            part = λ a m n. (m, n);
            few = room;
            is = λ i b m n. lower_met i b (omega (arith, (b (bounded x k) (omega arith)).0));
          }

      -- or the last
      module _ (d : x.dimensions ≤ bounded x k + 1) where
        ends : (i : ℕ → ℕ) → i (bounded x k) ≡ i (last x)
        ends i = ap i (omega (arith, bounded_in))

        pub lower_keeps : slope x k * at + bound_offset x k ≤ left.from + at + 32768 → Cut x w k left left
        lower_keeps h =
            record { part = λ a m n. (m, n); few = room; is = λ i b m n. lower_met i b (omega (arith, ends i)) }

        pub lower_cuts : Few x w → left.from + at + 32768 < slope x k * at + bound_offset x k
            → Cut x w k left (record { from = slope x k * at + bound_offset x k - at - 32768; to = left.to })
        lower_cuts g h =
            record {
              part = λ a m n. (omega arith, n);
              few = (omega (arith, (level_fits g at (low_fits g at f)).1), room.1);
              is = λ i b m n. lower_met i b (omega (arith, ends i));
            }

    module _ (at : ℕ) (is : side x k ≢ 0)
        (f : (slope x k ≡ 0 → at ≡ get_or w.high (earlier x k) 0) × (0 < slope x k → at ≡ get_or w.low (earlier x k) 0)) where
      upper_met : (i : ℕ → ℕ) → Among x w i → i (bounded x k) + at + 32768 ≤ slope x k * at + bound_offset x k → meets x i k ≡ true
      unfolding meets level raised
      upper_met i b h =
          pick_false _ _ _ (ne_eqb (side x k) 0 is) ∙ le-leb _ _ (upper_meets (slope x k) (bound_offset x k) (i (bounded x k)) (i (earlier x k))
          (get_or w.low (earlier x k) 0) (get_or w.high (earlier x k) 0) at (ok.slope_most k) f.0 f.1 h
          (b (earlier x k) earlier_in).0 (b (earlier x k) earlier_in).1)

      pub upper_aside : bounded x k + 1 < x.dimensions → get_or w.high (bounded x k) 0 + at + 32768 ≤ slope x k * at + bound_offset x k → Cut x w k left left
      upper_aside d h =
          record {
            part = λ a m n. (m, n);
            few = room;
            is = λ i b m n. upper_met i b (omega (arith, (b (bounded x k) (omega arith)).1));
          }

      pub upper_cuts : x.dimensions ≤ bounded x k + 1 → at + 32768 ≤ slope x k * at + bound_offset x k → (e : ℕ)
          → e ≡ min left.to (slope x k * at + bound_offset x k + 1 - at - 32768) → Cut x w k left (record { from = left.from; to = e })
      upper_cuts d h e q =
          record {
            part = λ a m n. (m, omega arith);
            few = (room.0, omega (arith, room.1));
            is = λ i b m n. upper_met i b (omega (arith, ends i));
          }
        where
          ends : (i : ℕ → ℕ) → i (bounded x k) ≡ i (last x)
          ends i = ap i (omega (arith, bounded_in))

-- ---- what all of them leave

module _ (x : Nest) (w : Window) where
  pub inner_none : (n : ℕ) → n ≤ 1024 → Inner x w 0 (record { from = 0; to = n })
  unfolding every
  inner_none n h = record { few = (omega arith, h); is = λ i b m o. refl }

  pub inner_more : (k : ℕ) (left r : Interval) → Inner x w k left → Cut x w k left r → Inner x w (k + 1) r
  inner_more k left r f g =
      record {
        few = g.few;
        is = λ i b m n. let p = g.part (i (last x)) m n in more i (f.is i b p.0 p.1) (g.is i b m n);
      }
    where
      more : (i : ℕ → ℕ) → every (meets x i) k ≡ true → meets x i k ≡ true → every (meets x i) (k + 1) ≡ true
      more i e h = let q : k + 1 ≡ suc k = omega arith in rw q (every_more (meets x i) k e h)

  pub inner_end : (k n : ℕ) (r : Interval) → Inner x w k r → k ≤ n → n ≤ k → Inner x w n r
  inner_end k n r f h l = let q : k ≡ n = omega arith in rw q at f

-- ---- places of a dimension

pub places_none : (left : Interval) (k n m : ℕ) → PlacesIn left k n m (record { from = 0; to = 0 })
places_none left k n m = record { few = (omega arith, omega arith); each = λ a h l. absurd (omega arith) }

pub places_room : (f k : ℕ) → 1 ≤ k → (f + k - 1) / k ≤ f + k
places_room f k h = omega (arith, div-le_self (f + k - 1) k)

pub places_some : (left : Interval) (k n m e : ℕ) → 1 ≤ k → k ≤ 1024 → n ≤ 1024 → left.from ≤ 8388608 → (n / k ≡ 0 → ⊥) → m ≤ left.to
    → e ≡ min (n / k - 1) ((left.to - m) / k) → PlacesIn left k n m (record { from = (left.from + k - 1) / k + 1; to = e })
places_some left k n m e pos short long low some h q =
    record {
      few = (omega (arith, places_room left.from k pos), omega (arith, div-le_self n k));
      each = λ a g l. (omega arith, (begins a g, (ends a l, fits a l)));
    }
  where
    begins : (a : ℕ) → (left.from + k - 1) / k + 1 ≤ a → left.from + k ≤ a * k
    begins a g =
        let b = (div-lt_iff_lt-mul {k = k} {x = left.from + k - 1} {y = a} pos).0 (omega arith) in
        omega (arith, b)

    ends : (a : ℕ) → a < e → a * k + k + m ≤ left.to
    ends a l =
        let b = (le-div_iff_mul-le {k = k} {x = a + 1} {y = left.to - m} pos).0 (omega arith) in
        omega (arith, b, add-mul a 1 k)

    fits : (a : ℕ) → a < e → (a + 2) * k ≤ n
    fits a l = (le-div_iff_mul-le {k = k} {x = a + 2} {y = n} pos).0 (omega arith)

-- ---- a tile that lies, with all that distances take its cells to, in the shape has the box's parcels

-- place i is in tile u, or so far after it
abbrev Near : Nest → List ℕ → ℕ → (ℕ → ℕ) → Type 0
Near x most u i =
    (j : ℕ) → j < x.dimensions
    → (tile_place x u j * tile_length x j ≤ i j) × (i j < tile_place x u j * tile_length x j + tile_length x j + get_or most j 0)

module _ (x : Nest) (ok : Accepted x) (most : List ℕ) (far : Farthest x most) (u : ℕ) (all : (i : ℕ → ℕ) → Near x most u i → in_place x i ≡ true) where
  module _ (v c : ℕ) (own : box_tile_of x c ≡ u) where
    stands : (j : ℕ) → j < x.dimensions
        → (tile_place x u j * tile_length x j ≤ cell_place x c j) × (cell_place x c j < tile_place x u j * tile_length x j + tile_length x j)
    stands j h =
        let o : (i : ℕ) → i < x.dimensions → cell_place x c i / tile_length x i ≡ tile_place x u i =
        λ i l. sym (tile_place_box_tile_of x ok c i l) ∙ ap (λ (t : ℕ). tile_place x t i) own in
        let own-box = box_all x ok (tile_place x u) (tile_place x u) (cell_place x c) (cell_place_low x ok c)
        (λ i l. (omega (arith, o i l), omega (arith, o i l))) in
        let b = among_at x (direct_box x u) (cell_place x c) own-box j h in
        (b.0, omega (arith, b.1))

    cell_in : in_shape x c ≡ true
    cell_in = shape_cell x ok c ∙ all (cell_place x c) (λ j h. let s = stands j h in (s.0, omega (arith, s.1)))

    reached_in : (e : ℕ) → e < x.distances → reaches x u v c e ≡ true → reaches_shape x u v c e ≡ true
    unfolding reaches_shape reaches inside
    reached_in e l r =
        let stays : (j : ℕ) → j < x.dimensions → cell_place x c j + component x e j < length_of x j =
        λ j h. ltb-true _ _ (every_at _ x.dimensions (both r).0 j h) in
        and_true r (shape_at x ok (λ j. cell_place x c j + component x e j) stays
        ∙ all (λ j. cell_place x c j + component x e j)
        (λ j h. let s = stands j h in (omega (arith, s.0), omega (arith, s.1, far.each e j l h))))

  pub whole_parcel : (v : ℕ) → shaped_parcel x u v ≡ parcel x u v
  unfolding shaped_parcel parcel crosses reaches_shape
  whole_parcel v = keep_same _ _ (cells x) (λ c h. same_test (there c) (back c))
    where
      there : (c : ℕ) → (in_shape x c and eqb (box_tile_of x c) u and some (reaches_shape x u v c) x.distances) ≡ true
          → (eqb (box_tile_of x c) u and some (reaches x u v c) x.distances) ≡ true
      there c t =
          let b = both (both t).1 in
          let r = some_at (reaches_shape x u v c) x.distances b.1 in
          and_true b.0 (some_one (reaches x u v c) x.distances r.0 r.1 (both r.2).0)

      back : (c : ℕ) → (eqb (box_tile_of x c) u and some (reaches x u v c) x.distances) ≡ true
          → (in_shape x c and eqb (box_tile_of x c) u and some (reaches_shape x u v c) x.distances) ≡ true
      back c t =
          let b = both t in
          let own = eqb-true (box_tile_of x c) u b.0 in
          let r = some_at (reaches x u v c) x.distances b.1 in
          and_true (cell_in v c own) (and_true b.0 (some_one (reaches_shape x u v c) x.distances r.0 r.1 (reached_in v c own r.0 r.1 r.2)))

-- ---- the row of tile u: its tile at place a

-- a place with a whole one after it is one of the dimension's
pub whole_low : (x : Nest) → Accepted x → (j : ℕ) → j < x.dimensions → (a : ℕ) → (a + 2) * tile_length x j ≤ length_of x j → a < tile_count x j
unfolding tile_count
whole_low x ok j l a h =
    let q : a * tile_length x j ≤ length_of x j - 1 = omega (arith, add-mul a 2 (tile_length x j), ok.tiled j l) in
    let e : a ≤ (length_of x j - 1) / tile_length x j = (le-div_iff_mul-le (ok.tiled j l)).1 q in
    omega (arith, e)

module _ (x : Nest) (ok : Accepted x) (u : ℕ) (at : List ℕ) (here : Has at (tile_place x u) x.dimensions) (first : ℕ)
    (begins : first ≡ u - get_or at (last x) 0) where
  first_is : first ≡ u / count x ok * count x ok
  first_is = omega (arith, begins, here.each (last x) (inner x ok), row_last x ok u, div-add-mod' u (count x ok))

  module _ (v a : ℕ) (is : v ≡ first + a) (low : a < count x ok) where
    quotient : v / count x ok ≡ u / count x ok
    quotient = same_quotient (count x ok) u v (count_pos x ok) (omega (arith, first_is)) (omega (arith, first_is))

    pub at_last : tile_place x v (last x) ≡ a
    at_last =
        row_last x ok v
        ∙ ap (λ (q : ℕ). q % count x ok) {x = v} {y = u / count x ok * count x ok + a} (omega (arith, first_is))
        ∙ mul-add-mod_self_right (u / count x ok) (count x ok) a
        ∙ mod-eq_of_lt low

    pub at_before : (j : ℕ) → j < last x → tile_place x v j ≡ get_or at j 0
    at_before j h = row_place x ok u v j quotient h ∙ sym (here.each j (omega (arith, inner x ok)))

-- ---- its tiles at the places found

module _ (x : Nest) (ok : Accepted x) (u : ℕ) (at most : List ℕ) (here : Has at (tile_place x u) x.dimensions) (far : Farthest x most)
    (w : Window) (area : Area x at most w) (left : Interval) (all : Inner x w x.bounds left) (r : Interval)
    (places : PlacesIn left (tile_length x (last x)) (length_of x (last x)) (get_or most (last x) 0) r) (first : ℕ)
    (begins : first ≡ u - get_or at (last x) 0) where
  abbrev k : ℕ
  k = tile_length x (last x)

  abbrev n : ℕ
  n = tile_count x (last x)

  place_low : (a : ℕ) → (a + 2) * k ≤ length_of x (last x) → a < n
  place_low = whole_low x ok (last x) (inner x ok)

  ends_at : (v a : ℕ) → v ≡ first + a → a < n → tile_place x v (last x) ≡ a
  ends_at = at_last x ok u at here first begins

  stands_at : (v a : ℕ) → v ≡ first + a → a < n → (j : ℕ) → j < last x → tile_place x v j ≡ get_or at j 0
  stands_at = at_before x ok u at here first begins

  module _ (v a : ℕ) (is : v ≡ first + a) (low : a < n) where
    -- its cells, and those that distances take them to, are in the shape
    tile_in : left.from ≤ a * k → a * k + k + get_or most (last x) 0 ≤ left.to → (v' : ℕ) → shaped_parcel x v v' ≡ parcel x v v'
    unfolding in_place
    tile_in f t = whole_parcel x ok most far v (λ i b. all.is i (among i b) (starts i b) (stops i b))
      where
        same : (j : ℕ) → j < last x → tile_place x v j * tile_length x j ≡ get_or at j 0 * tile_length x j
        same j h = ap (λ (b : ℕ). b * tile_length x j) (stands_at v a is low j h)

        ends : tile_place x v (last x) * k ≡ a * k
        ends = ap (λ (b : ℕ). b * k) (ends_at v a is low)

        among : (i : ℕ → ℕ) → Near x most v i → Among x w i
        among i b j h =
            let d : j < x.dimensions = omega (arith, inner x ok) in
            (omega (arith, area.low j d, same j h, (b j d).0), omega (arith, area.high j d, same j h, (b j d).1))

        starts : (i : ℕ → ℕ) → Near x most v i → left.from ≤ i (last x)
        starts i b = omega (arith, ends, (b (last x) (inner x ok)).0)

        stops : (i : ℕ → ℕ) → Near x most v i → i (last x) < left.to
        stops i b = omega (arith, ends, (b (last x) (inner x ok)).1)

  module _ (t p : ℕ) (later : p < t) (h : t < tiles x) (from : first + r.from ≤ box_tile x t) (to : box_tile x t < first + r.to)
      (follows : box_tile x p + 1 ≡ box_tile x t) where
    abbrev a : ℕ
    a = box_tile x t - first

    found : (1 ≤ a) × ((left.from + k ≤ a * k) × ((a * k + k + get_or most (last x) 0 ≤ left.to) × ((a + 2) * k ≤ length_of x (last x))))
    found = places.each a (omega arith) (omega arith)

    a_low : a < n
    a_low = place_low a found.1.1.1

    own : box_tile x t ≡ first + a
    own = omega arith

    before : box_tile x p ≡ first + (a - 1)
    before = omega (arith, found.0)

    steps : a * k ≡ (a - 1) * k + k
    steps = one_back a k found.0
      where
        one_back : (a k : ℕ) → 1 ≤ a → a * k ≡ (a - 1) * k + k
        one_back a k h = let e : a ≡ suc (a - 1) = omega arith in ap (λ (b : ℕ). b * k) e ∙ suc-mul (a - 1) k

    whole : suc (suc (tile_place x (box_tile x t) (last x))) * k ≤ length_of x (last x)
    whole =
        let e : suc (suc (tile_place x (box_tile x t) (last x))) ≡ a + 2 = omega (arith, ends_at (box_tile x t) a own a_low) in
        rw e found.1.1.1

    line_tile : Like x t p
    line_tile =
        record {
          later = later;
          same = λ i l.
              ap length (whole_slot x ok t i (box_tile x t) h l refl (box_tile_low x t h)
              (tile_in (box_tile x t) a own a_low (omega (arith, found.1.0)) found.1.1.0 (i + 1)))
              ∙ (twin x ok (box_tile x t) (box_tile x p) (last x) (box_tile_low x t h) (box_tile_low x p (omega arith)) (inner x ok)
              (omega (arith, ends_at (box_tile x t) a own a_low, ends_at (box_tile x p) (a - 1) before (omega (arith, a_low)), found.0))
              elsewhere whole Direct i l (λ e s. absurd (omega (arith, ok.spread_low)))).1
              ∙ ap length (sym (whole_slot x ok p i (box_tile x p) (omega arith) l refl (box_tile_low x p (omega arith))
              (tile_in (box_tile x p) (a - 1) before (omega (arith, a_low)) (omega (arith, steps, found.1.0)) (omega (arith, steps, found.1.1.0))
              (i + 1))));
        }
      where
        elsewhere : (j : ℕ) → j < x.dimensions → (j ≡ last x → ⊥) → tile_place x (box_tile x t) j ≡ tile_place x (box_tile x p) j
        elsewhere j d e =
            let g : j < last x = omega arith in
            stands_at (box_tile x t) a own a_low j g ∙ sym (stands_at (box_tile x p) (a - 1) before (omega (arith, a_low)) j g)

  pub line_is : Lined x 1 (first + r.from) (first + r.to)
  line_is = record { few = omega arith; each = line_tile }

pub lined_none : (x : Nest) → Lined x 0 0 0
lined_none x = record { few = omega arith; each = λ t p h l f g. absurd (omega arith) }

pub lined_as : (x : Nest) (far from to far' from' to' : ℕ) → Lined x far from to → far' ≡ far → from' ≡ from → to' ≡ to → Lined x far' from' to'
lined_as x far from to far' from' to' l a b c = rw (a, b, c) l
