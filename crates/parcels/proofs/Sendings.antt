-- Box and window of a slot on either route, as the code has them; slots that hold nothing for another processor.
use Prim.Native.Nat.{ℕ, ◌+◌, ◌*◌, ◌-◌, ◌/◌, ◌%◌, ◌≤◌, ◌<◌, min}
use mathlib.Core.Path.{◌≡◌, refl, sym, ap, ◌∙◌}
use mathlib.Core.Bool.{Bool, true, false, not}
use mathlib.Core.List.{List, [], ◌∷◌, map}
use native.Mathlib.Nat.{mul-le-mul, mul-le-mul_right}
use native.Mathlib.Decide.{dec_lt, ℕ_discrete}
use native.Mathlib.Omega.{arith}
use lib.ListN.{length, get_or}
use lib.Dec.{ltb, leb, eqb}
use borrow.Author.Tests.{not-true, not-false, eq-eqb, ne_eqb, eqb-true, lt-ltb, le-ltb, ltb-true, le-leb, lt-leb, leb-true}
use Rattle.base.specs.Tests.{◌and◌, pick, one, some, keep, product}
use Rattle.base.proofs.Tests.{both, and_true, is_false, never_both, pick_true, pick_false, one_true, one_false, some_at, some_one, some_same}
use Rattle.base.proofs.Select.{keep_same}
use Rattle.nest.specs.declared.Nest.{Nest}
use Rattle.nest.specs.Accepted.{Accepted}
use Rattle.nest.specs.Nest.{length_of, tile_length, processor_count, component, tile_count}
use Rattle.plan.specs.declared.Route.{Route}
use Rattle.plan.specs.declared.Route.TheVariants.{Direct, Indirect}
use Rattle.nest.specs.Places.{cell_at, tile_place}
use Rattle.plan.specs.Messages.{ways, slots, slot_tile, slot_direction, slot_dimension, slot_cells, slot_parcel}
use Rattle.plan.specs.Hops.{hops, alone}
use Rattle.layout.specs.Regions.{Region, among, side, region_size, region_place, region_cell, slot_box, slot_window, comes_into}
use Rattle.nest.proofs.Rank.{rank_same}
use Rattle.plan.proofs.Tiles.{quotient_low, tile_inside, tile_place_low}
use Rattle.plan.proofs.Box.{quotient_is}
use Rattle.plan.proofs.Grid.{keep_nothing}
use Rattle.plan.proofs.Homes.{hop_in, in_hop, hops_pos, hops_some, slot_parcel_is}
use Rattle.plan.proofs.Parcels.{ahead_low, slot_dimension_low}
use Rattle.plan.proofs.Slots.{full_away}
use Rattle.layout.proofs.Regions.{among_at, comes_at, slot_region, slot_box_fits}
use Rattle.layout.specs.Sizes.{along}
use Rattle.layout.specs.Places.{nth, Has, Countable}
use Rattle.layout.proofs.Dims.{product_same, place_lengths}
use Rattle.layout.proofs.Loops.{every_same, Changed, filled_end}
use Rattle.layout.proofs.Cells.{four, zeros, count_most}
use Rattle.layout.proofs.CellRows.{product_last}
use Rattle.parcels.specs.declared.Block.{Block}
use Rattle.parcels.specs.declared.Window.{Window}
use Rattle.parcels.specs.declared.Sending.{Sending}
use Rattle.parcels.specs.Windows.{last, window_of}
use Rattle.parcels.specs.Sendings.{Headed, Idle, earlier, later, box_at, window_at, Boxed, Windowed, box_of, found, Sends, place_in, cell_in}
use Rattle.parcels.proofs.Walks.{Measuring, measure_few, measure_all}
use Rattle.parcels.proofs.Rows.{block_countable, size_few}

-- ---- the arrays' box and window stand for the regions that they have

pub map_same : (f g : ℕ → ℕ) → ((n : ℕ) → f n ≡ g n) → (l : List ℕ) → map f l ≡ map g l
map_same f g h [] = refl
map_same f g h (n ∷ l) = rw (h n, map_same f g h l)

module _ (x : Nest) (g h : Region) (z : Sending) (b : Boxed x g z.block) (w : Windowed x h z.window) where
  pub place_is : (n j : ℕ) → j < x.dimensions → region_place x g n j ≡ place_in x z n j
  unfolding region_place
  place_is n j l =
      omega (
        arith,
        b.corner.each j l,
        place_lengths (side g) (side (box_of z.block)) x.dimensions n j (λ i k. omega (arith, b.lengths.each i k)),
      )

  pub cell_is : (n : ℕ) → region_cell x g n ≡ cell_in x z n
  unfolding region_cell cell_at
  cell_is n = rank_same (length_of x) (region_place x g n) (place_in x z n) x.dimensions (place_is n)

  comes_is : (n : ℕ) → comes_into x h (region_place x g n) ≡ comes_into x (window_of z.window) (place_in x z n)
  unfolding comes_into among
  comes_is n = some_same _ _ x.distances
      (λ e k. every_same _ _ x.dimensions (λ j l. rw (place_is n j l, w.low.each j l, w.high.each j l)))

  regions_found : map (region_cell x g) (keep (λ n. comes_into x h (region_place x g n)) (region_size x g)) ≡ found x z (region_size x g)
  unfolding found
  regions_found =
      map_same (region_cell x g) (cell_in x z) cell_is (keep (λ n. comes_into x h (region_place x g n)) (region_size x g))
      ∙ ap (map (cell_in x z)) (keep_same _ _ (region_size x g) (λ n k. comes_is n))

  pub size_is : 1 ≤ x.dimensions → z.rows ≡ product (nth z.block.lengths) (last x) → z.width ≡ get_or z.block.lengths (last x) 0
      → region_size x g ≡ z.rows * z.width
  unfolding region_size
  size_is d e k =
      product_same (side g) (nth z.block.lengths) x.dimensions (λ j l. sym (b.lengths.each j l))
      ∙ product_last (nth z.block.lengths) x.dimensions d
      ∙ rw (e, k)

-- ---- making them

pub one_few : (t : Bool) → one t ≤ 1
unfolding one
one_few true = omega arith
one_few false = omega arith

module _ (x : Nest) (ok : Accepted x) where
  pub tile_few : (a j : ℕ) → a ≤ 1025 → a * tile_length x j ≤ 1049600
  tile_few a j h = omega (arith, mul-le-mul {n₁ = a} {m₁ = tile_length x j} {n₂ = 1025} {m₂ = 1024} h (ok.tile_most j))

  -- a tile, or one before it, begins before it ends
  pub begin_end : (a b j : ℕ) → j < x.dimensions → a < tile_count x j → b ≤ a
      → b * tile_length x j ≤ min (a * tile_length x j + tile_length x j) (length_of x j)
  begin_end a b j l h k = omega (arith, tile_inside x ok a j l h, mul-le-mul_right (tile_length x j) k)

  pub windowed : (lengths : List ℕ) → lengths ≡ x.lengths → (to : ℕ → ℕ) (n : ℕ) (w : Window) (j : ℕ)
      → Changed (λ i. to i * tile_length x i) x.spread (four 0) w.low j
      → Changed (λ i. min ((to i + one (leb n i)) * tile_length x i + tile_length x i) (get_or lengths i 0)) x.spread lengths w.high j
      → x.spread ≤ j → Windowed x (window_at x to n) w
  windowed lengths e to n w j f g h =
      record {
        low = record { each = λ i l. low i (dec_lt i x.spread) };
        high = record { each = λ i l. high i (dec_lt i x.spread) };
      }
    where
      low : (i : ℕ) → Dec (i < x.spread) → get_or w.low i 0 ≡ (window_at x to n).low i
      low i (yes k) = (filled_end _ _ w.low j f.first h).each i k ∙ sym (pick_true _ _ _ (lt-ltb i x.spread k))
      low i (no k) = f.rest i (omega (arith, f.first.low)) ∙ zeros i ∙ sym (pick_false _ _ _ (le-ltb i x.spread (omega arith)))

      high : (i : ℕ) → Dec (i < x.spread) → get_or w.high i 0 ≡ (window_at x to n).high i
      high i (yes k) = (filled_end _ _ w.high j g.first h).each i k ∙ rw e (sym (pick_true _ _ _ (lt-ltb i x.spread k)))
      high i (no k) = g.rest i (omega (arith, g.first.low)) ∙ rw e (sym (pick_false _ _ _ (le-ltb i x.spread (omega arith))))

-- ---- the slot's place and way

pub headed : (r : Route) (x : Nest) (s n : ℕ) (at steps : List ℕ) → n ≡ ways r x → s < slots r x
    → Has at (tile_place x (s / n)) x.dimensions → Has steps (along r x (s % n)) x.dimensions
    → Headed r x s at steps
headed r x s n at steps is l a b = record { low = l; tile = rw is at a; way = rw is at b }

module _ (x : Nest) (ok : Accepted x) (r : Route) (s : ℕ) (at steps : List ℕ) (h : Headed r x s at steps) where
  along_few : (r : Route) (w j : ℕ) → j < x.spread → along r x w j ≤ 1
  unfolding along
  along_few Direct w j l = ahead_low x (w + 1) j l
  along_few Indirect w j l = one_few (eqb j w)

  pub headed_at : (j : ℕ) → j < x.dimensions → get_or at j 0 < tile_count x j
  headed_at j l = omega (arith, h.tile.each j l, tile_place_low x ok (slot_tile r x s) j l)

  pub headed_to : (j : ℕ) → j < x.spread → get_or at j 0 + get_or steps j 0 ≤ 1024
  headed_to j l =
      let k : j < x.dimensions = omega (arith, ok.spread_low) in
      omega (arith, headed_at j k, count_most x ok j k, h.way.each j k, along_few r (s % ways r x) j l)

-- ---- the slot's

module _ (x : Nest) (ok : Accepted x) (s : ℕ) (at steps : List ℕ) where
  few : (j : ℕ) → j < x.dimensions → leb 4 j ≡ false
  few j l = lt-leb 4 j (omega (arith, ok.dimensions_most))

  both_ways : (j q : ℕ) → one (eqb j q) + one (leb (q + 1) j) ≡ one (leb q j)
  both_ways j q = go (dec_lt j q) (ℕ_discrete j q)
    where
      go : Dec (j < q) → Dec (j ≡ q) → one (eqb j q) + one (leb (q + 1) j) ≡ one (leb q j)
      go (yes l) d = omega (
        arith,
        one_false (ne_eqb j q (λ e. omega arith)),
        one_false (lt-leb (q + 1) j (omega arith)),
        one_false (lt-leb q j l),
      )
      go (no l) (yes e) = omega (
        arith,
        one_true (eq-eqb j q e),
        one_false (lt-leb (q + 1) j (omega arith)),
        one_true (le-leb q j (omega arith)),
      )
      go (no l) (no e) = omega (
        arith,
        one_false (ne_eqb j q e),
        one_true (le-leb (q + 1) j (omega arith)),
        one_true (le-leb q j (omega arith)),
      )

  -- the first and the last tile of the box and of the window
  module _ (j : ℕ) (l : j < x.dimensions) where
    box_first : (r : Route) → Headed r x s at steps → (slot_box r x s).low j ≡ (box_at x (nth at) (earlier r (s % ways r x))).low j
    box_first Direct h = ap (λ (a : ℕ). a * tile_length x j) (omega (arith, h.tile.each j l, one_false (le-ltb j 0 (omega arith))))
    box_first Indirect h = ap (λ (a : ℕ). (a - one (ltb j (slot_dimension x s))) * tile_length x j) (sym (h.tile.each j l))

    box_last : (r : Route) → Headed r x s at steps → (slot_box r x s).high j ≡ (box_at x (nth at) (earlier r (s % ways r x))).high j
    box_last Direct h = ap (λ (a : ℕ). min (a * tile_length x j + tile_length x j) (length_of x j)) (sym (h.tile.each j l))
    box_last Indirect h = ap (λ (a : ℕ). min (a * tile_length x j + tile_length x j) (length_of x j)) (sym (h.tile.each j l))

    window_first : (r : Route) → Headed r x s at steps
        → (slot_window r x s).low j ≡ (window_at x (λ j. get_or at j 0 + get_or steps j 0) (later r (s % ways r x))).low j
    unfolding along
    window_first Direct h = ap (λ (a : ℕ). pick (ltb j x.spread) (a * tile_length x j) 0)
        (omega (arith, h.tile.each j l, h.way.each j l))
    window_first Indirect h = ap (λ (a : ℕ). pick (ltb j x.spread) (a * tile_length x j) 0)
        (omega (arith, h.tile.each j l, h.way.each j l))

    window_last : (r : Route) → Headed r x s at steps
        → (slot_window r x s).high j ≡ (window_at x (λ j. get_or at j 0 + get_or steps j 0) (later r (s % ways r x))).high j
    unfolding along
    window_last Direct h =
        ap (λ (a : ℕ). pick (ltb j x.spread) (min (a * tile_length x j + tile_length x j) (length_of x j)) (length_of x j))
        (omega (arith, h.tile.each j l, h.way.each j l, one_false (few j l)))
    window_last Indirect h =
        ap (λ (a : ℕ). pick (ltb j x.spread) (min (a * tile_length x j + tile_length x j) (length_of x j)) (length_of x j))
        (omega (arith, h.tile.each j l, h.way.each j l, both_ways j (slot_dimension x s)))

module _ (x : Nest) (ok : Accepted x) (r : Route) (s : ℕ) (at steps : List ℕ) (h : Headed r x s at steps) (n : ℕ) (is : n ≡ ways r x) where
  module _ (b : Block) (m : ℕ) (e : m ≡ earlier r (s % n)) (f : Boxed x (box_at x (nth at) m) b) where
    own : Boxed x (box_at x (nth at) (earlier r (s % ways r x))) b
    own = rw (e, is) at f

    slot_boxed : Boxed x (slot_box r x s) b
    slot_boxed =
        record {
          corner = record { each = λ j l. own.corner.each j l ∙ sym (box_first x ok s at steps j l r h) };
          lengths = record {
            each = λ j l. omega
                (arith, own.lengths.each j l, box_first x ok s at steps j l r h, box_last x ok s at steps j l r h);
          };
        }

    box_least : (j : ℕ) → j < x.dimensions → 1 ≤ get_or b.lengths j 0
    box_least j l = omega (arith, slot_boxed.lengths.each j l, (slot_box_fits x ok r s j h.low l).0)

    box_inside : (j : ℕ) → j < x.dimensions → get_or b.corner j 0 + get_or b.lengths j 0 ≤ length_of x j
    box_inside j l =
        omega (
          arith,
          slot_boxed.corner.each j l,
          slot_boxed.lengths.each j l,
          (slot_box_fits x ok r s j h.low l).0,
          (slot_box_fits x ok r s j h.low l).1,
        )

    pub boxed_countable : Countable b.lengths x.dimensions
    boxed_countable = block_countable x ok b box_least box_inside

  slot_windowed : (w : Window) (k : ℕ) → k ≡ later r (s % n) → Windowed x (window_at x (λ j. get_or at j 0 + get_or steps j 0) k) w
      → Windowed x (slot_window r x s) w
  slot_windowed w k e f =
      let own : Windowed x (window_at x (λ j. get_or at j 0 + get_or steps j 0) (later r (s % ways r x))) w = rw (e, is) at f in
      record {
        low = record { each = λ j l. own.low.each j l ∙ sym (window_first x ok s at steps j l r h) };
        high = record { each = λ j l. own.high.each j l ∙ sym (window_last x ok s at steps j l r h) };
      }

  pub sends_of : (z : Sending) (m k : ℕ) → m ≡ earlier r (s % n) → k ≡ later r (s % n) → Boxed x (box_at x (nth at) m) z.block
      → Windowed x (window_at x (λ j. get_or at j 0 + get_or steps j 0) k) z.window
      → z.rows ≡ product (nth z.block.lengths) (last x) → z.width ≡ get_or z.block.lengths (last x) 0 → Sends r x s z
  sends_of z m k first second f g e w =
      let b = slot_boxed z.block m first f in
      let v = slot_windowed z.window k second g in
      record {
        shape = record {
          least = box_least z.block m first f;
          inside = box_inside z.block m first f;
          opens = g.low.each (last x) (omega (arith, ok.dimensions_least))
              ∙ pick_false _ _ _ (le-ltb (last x) x.spread (omega (arith, ok.spread_low)));
          rows = e;
          width = w;
        };
        box = b;
        window = v;
        cells = slot_region x ok r s h.low
            ∙ regions_found x (slot_box r x s) (slot_window r x s) z b v
            ∙ ap (found x z) (size_is x (slot_box r x s) (slot_window r x s) z b v (omega (arith, ok.dimensions_least)) e w);
      }

-- ---- what is counted, packed and unpacked is the slot's

module _ (r : Route) (x : Nest) (s : ℕ) (z : Sending) (p : Sends r x s z) where
  pub measured : Accepted x → slot_parcel r x s ≡ slot_cells r x s → (count q : ℕ) → Measuring x z count q → z.rows * z.width ≤ q
      → (count ≡ length (slot_parcel r x s)) × (count ≤ 16384)
  measured ok e count q m h =
      (measure_all x z count q m h ∙ sym (ap length (e ∙ p.cells)), omega (arith, measure_few x z count q m, size_few x ok z p.shape))

  -- a parcel with a cell holds all of the slot's
  pub full_found : (n : ℕ) → (n ≡ length (slot_parcel r x s)) × (0 < n) → slot_parcel r x s ≡ found x z (z.rows * z.width)
  full_found n (e, h) = full_away r x s (omega arith) ∙ p.cells

  pub words_found : (n : ℕ) → (n ≡ length (slot_parcel r x s)) × (0 < n) → n ≡ length (found x z (z.rows * z.width))
  words_found n h = h.0 ∙ ap length (full_found n h)

-- ---- slots that hold nothing for another processor

-- beyond the last tile there are no cells
beyond : (x : Nest) (ok : Accepted x) (u j : ℕ) → j < x.dimensions → tile_count x j ≤ u → length_of x j ≤ u * tile_length x j
beyond x ok u j l h = go (dec_lt (u * tile_length x j) (length_of x j))
  where
    go : Dec (u * tile_length x j < length_of x j) → length_of x j ≤ u * tile_length x j
    go (yes k) =
        absurd (omega (
          arith,
          quotient_low x ok (u * tile_length x j) j l k,
          quotient_is (tile_length x j) u (u * tile_length x j) (omega arith) (omega (arith, ok.tiled j l)),
        ))
    go (no k) = omega arith

module _ (x : Nest) (ok : Accepted x) (r : Route) (s : ℕ) (at steps : List ℕ) (h : Headed r x s at steps) where
  -- a window without a place
  never : (j : ℕ) → j < x.dimensions → (slot_window r x s).high j ≤ (slot_window r x s).low j → (n : ℕ)
      → comes_into x (slot_window r x s) (region_place x (slot_box r x s) n) ≡ false
  never j l k n =
      is_false (λ t.
      let e = comes_at x (slot_window r x s) (region_place x (slot_box r x s) n) t in
      let c = among_at x (slot_window r x s) (λ i. region_place x (slot_box r x s) n i + component x e.0 i) e.2 j l in
      omega (arith, c.0, c.1))

  cells_none : (j : ℕ) → j < x.dimensions → (slot_window r x s).high j ≤ (slot_window r x s).low j → slot_cells r x s ≡ []
  cells_none j l k = slot_region x ok r s h.low
      ∙ ap (map (region_cell x (slot_box r x s))) (keep_nothing _ (region_size x (slot_box r x s)) (λ n m. never j l k n))

  parcel_none : slot_cells r x s ≡ [] → length (slot_parcel r x s) ≡ 0
  unfolding pick
  parcel_none e = ap length (slot_parcel_is x ok r s h.low) ∙ go (alone r x s)
    where
      go : (t : Bool) → length (pick t [] (slot_cells r x s)) ≡ 0
      go true = refl
      go false = ap length e

  outside_none : (across : List ℕ) → Has across (tile_count x) x.dimensions
      → some (λ j. leb (get_or across j 0) (get_or at j 0 + get_or steps j 0)) x.spread ≡ true → length (slot_parcel r x s) ≡ 0
  outside_none across f t =
      let y = some_at (λ j. leb (get_or across j 0) (get_or at j 0 + get_or steps j 0)) x.spread t in
      let l : y.0 < x.dimensions = omega (arith, ok.spread_low, y.1) in
      let u : tile_count x y.0 ≤ get_or at y.0 0 + get_or steps y.0 0 = omega
      (arith, f.each y.0 l, leb-true (get_or across y.0 0) (get_or at y.0 0 + get_or steps y.0 0) y.2) in
      parcel_none (cells_none y.0 l (empty y.0 l y.1 u))
    where
      empty : (j : ℕ) → j < x.dimensions → j < x.spread → tile_count x j ≤ get_or at j 0 + get_or steps j 0
          → (slot_window r x s).high j ≤ (slot_window r x s).low j
      empty j l k u =
          let a = window_first x ok s at steps j l r h ∙ pick_true (ltb j x.spread) _ 0 (lt-ltb _ _ k) in
          let b = window_last x ok s at steps j l r h ∙ pick_true (ltb j x.spread) _ (length_of x j) (lt-ltb _ _ k) in
          omega (arith, beyond x ok (get_or at j 0 + get_or steps j 0) j l u)

-- ---- the same processor, by counts

module _ (x : Nest) (s : ℕ) where
  -- the way's step along j comes to another processor
  abbrev pub hop : Route → ℕ → Bool
  hop r j = eqb (along r x (s % ways r x) j) 1 and ltb 1 (processor_count x j)

  pub alone_no : (r : Route) → some (hop r) x.spread ≡ true → alone r x s ≡ false
  unfolding along
  alone_no Direct t =
      let y = some_at (hop Direct) x.spread t in
      let b = both y.2 in
      ne_eqb (hops x (slot_direction x s)) 0
      (λ e. omega (
        arith,
        hops_pos x (slot_direction x s) y.0 (hop_in x (slot_direction x s) y.0 y.1 (eqb-true _ _ b.0) (ltb-true _ _ b.1)),
      ))
  alone_no Indirect t =
      let y = some_at (hop Indirect) x.spread t in
      let b = both y.2 in
      same y.0 (ltb-true _ _ b.1) (eqb-true _ _ b.0) (ℕ_discrete y.0 (slot_dimension x s))
    where
      same : (j : ℕ) → 1 < processor_count x j → one (eqb j (slot_dimension x s)) ≡ 1 → Dec (j ≡ slot_dimension x s)
          → leb (processor_count x (slot_dimension x s)) 1 ≡ false
      same j k e (yes q) = lt-leb (processor_count x (slot_dimension x s)) 1 (rw q at k)
      same j k e (no q) = absurd (omega (arith, one_false (ne_eqb j (slot_dimension x s) q)))

  pub alone_yes : (r : Route) → s < slots r x → some (hop r) x.spread ≡ false → alone r x s ≡ true
  unfolding along
  alone_yes Direct l t = go (ℕ_discrete (hops x (slot_direction x s)) 0)
    where
      go : Dec (hops x (slot_direction x s) ≡ 0) → eqb (hops x (slot_direction x s)) 0 ≡ true
      go (yes e) = eq-eqb _ _ e
      go (no e) =
          let q = hops_some x (slot_direction x s) (omega arith) in
          let k = in_hop x (slot_direction x s) q.0 q.1 in
          absurd (never_both (some_one (hop Direct) x.spread q.0 k.0 (and_true (eq-eqb _ _ k.1) (lt-ltb _ _ k.2))) t)
  alone_yes Indirect l t = go (dec_lt 1 (processor_count x (slot_dimension x s)))
    where
      go : Dec (1 < processor_count x (slot_dimension x s)) → leb (processor_count x (slot_dimension x s)) 1 ≡ true
      go (yes k) =
          absurd (never_both (some_one (hop Indirect) x.spread (slot_dimension x s) (slot_dimension_low x s l)
          (and_true (eq-eqb (one (eqb (slot_dimension x s) (slot_dimension x s))) 1
          (one_true (eq-eqb (slot_dimension x s) (slot_dimension x s) refl))) (lt-ltb _ _ k))) t)
      go (no k) = le-leb (processor_count x (slot_dimension x s)) 1 (omega arith)

module _ (x : Nest) (ok : Accepted x) (r : Route) (s : ℕ) (at steps : List ℕ) (h : Headed r x s at steps) where
  pub idle_outside : (across : List ℕ) → Has across (tile_count x) x.dimensions
      → some (λ j. leb (get_or across j 0) (get_or at j 0 + get_or steps j 0)) x.spread ≡ true → Idle r x s true
  idle_outside across f t = record { none = λ e. outside_none x ok r s at steps h across f t; all = λ e. absurd (never_both refl e) }

  pub idle_counts : (t : Bool) → t ≡ some (λ j. eqb (get_or steps j 0) 1 and ltb 1 (get_or x.counts j 0)) x.spread → Idle r x s (not t)
  idle_counts t e =
      record {
        none = λ n. ap length (slot_parcel_is x ok r s h.low
            ∙ pick_true _ _ _ (alone_yes x s r h.low (sym hops_is ∙ sym e ∙ not-true t n)));
        all = λ n. slot_parcel_is x ok r s h.low ∙ pick_false _ _ _ (alone_no x s r (sym hops_is ∙ sym e ∙ not-false t n));
      }
    where
      hops_is : some (λ j. eqb (get_or steps j 0) 1 and ltb 1 (get_or x.counts j 0)) x.spread ≡ some (hop x s r) x.spread
      hops_is = some_same _ _ x.spread
          (λ j l. ap (λ (a : ℕ). eqb a 1 and ltb 1 (processor_count x j)) (h.way.each j (omega (arith, ok.spread_low))))
