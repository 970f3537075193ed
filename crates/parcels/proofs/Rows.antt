-- The rows of a box: the place of a row and of its cells, their numbers, and the rows that follow it along the dimension before the last.
use Prim.Native.Nat.{ℕ, zero, suc, ◌+◌, ◌*◌, ◌-◌, ◌≤◌, ◌<◌}
use mathlib.Core.Path.{◌≡◌, sym, ap, ◌∙◌}
use mathlib.Core.List.{List}
use native.Mathlib.Decide.{dec_lt}
use native.Mathlib.Omega.{arith}
use lib.ListN.{get_or}
use lib.Dec.{ltb}
use Rattle.nest.specs.declared.Nest.{Nest}
use Rattle.nest.specs.Accepted.{Accepted}
use Rattle.nest.specs.Nest.{length_of, cells}
use Rattle.nest.specs.Places.{rank, place, cell_at}
use Rattle.layout.specs.Regions.{side, region_place, region_cell}
use Rattle.nest.proofs.Rank.{Within, place_low, place_before, rank_same}
use Rattle.plan.proofs.Tiles.{cell_at_low}
use Rattle.plan.proofs.Box.{quotient_is}
use Rattle.layout.specs.Places.{nth, Has, Countable, Ranked, Places, Placed}
use Rattle.layout.proofs.Dims.{place_lengths}
use Rattle.nest.proofs.Shapes.{product_most}
use Rattle.layout.proofs.Cells.{lengths_countable}
use Rattle.layout.proofs.CellRows.{row_before, row_last, row_low, row_start, row_in, product_last, rank_last, fewer}
use Rattle.parcels.specs.declared.Block.{Block}
use Rattle.parcels.specs.declared.Sending.{Sending}
use Rattle.parcels.specs.Windows.{last, beside, window_of, DistanceEnds, InBlock}
use Rattle.parcels.specs.Sendings.{box_of, BoxOfRows, RowEnds, place_in, cell_in}

-- ---- numbers and places

-- a row's number is its place before the last dimension
place_row : (N : ℕ → ℕ) (d r : ℕ) → 1 ≤ d → 1 ≤ N (d - 1) → (j : ℕ) → j < d - 1 → place N d (r * N (d - 1)) j ≡ place N (d - 1) r j
place_row N zero r p h j k = absurd (omega arith)
place_row N (suc l) r p h j k =
    let z : suc l - 1 ≡ l = omega arith in
    let i : j < l = omega arith in
    let m : 1 ≤ N l = rw z at h in
    rw z (place_before N l (r * N l) j i ∙ ap (λ (a : ℕ). place N l a j) (quotient_is (N l) r (r * N l) (omega arith) (omega arith)))

-- the q-th place of the box, by its arrays
pub region_at : (x : Nest) (b : Block) (q j : ℕ)
    → region_place x (box_of b) q j ≡ get_or b.corner j 0 + place (nth b.lengths) x.dimensions q j
unfolding region_place
region_at x b q j = ap (λ (a : ℕ). get_or b.corner j 0 + a)
    (place_lengths (side (box_of b)) (nth b.lengths) x.dimensions q j (λ i k. omega arith))

-- the box's lengths have a small product
pub block_countable : (x : Nest) (ok : Accepted x) (b : Block) → ((j : ℕ) → j < x.dimensions → 1 ≤ get_or b.lengths j 0)
    → ((j : ℕ) → j < x.dimensions → get_or b.corner j 0 + get_or b.lengths j 0 ≤ length_of x j) → Countable b.lengths x.dimensions
unfolding cells
block_countable x ok b least inside =
    record {
      low = ok.dimensions_most;
      positive = least;
      few = omega (arith, product_most (nth b.lengths) (length_of x) x.dimensions (λ j h. omega (arith, inside j h)), ok.cells_most);
    }

module _ (x : Nest) (ok : Accepted x) (z : Sending) (p : BoxOfRows x z) where
  deep : 2 ≤ x.dimensions
  deep = ok.dimensions_least

  box_countable : Countable z.block.lengths x.dimensions
  box_countable = block_countable x ok z.block p.least p.inside

  pub size_few : z.rows * z.width ≤ 16384
  size_few = rw (p.rows, p.width)
      (omega (arith, product_last (nth z.block.lengths) x.dimensions (omega (arith, deep)), box_countable.few))

  pub rows_few : z.rows ≤ 16384
  rows_few = omega (arith, p.rows, (fewer x ok z.block.lengths box_countable).few)

  pub box_places : Places z.block.lengths z.block.corner (last x)
  box_places =
      record {
        low = omega (arith, ok.dimensions_most);
        positive = λ j h. p.least j (omega arith);
        small = λ j h. omega (arith, p.inside j (omega arith), ok.length_most j);
      }

  pub box_within : (q : ℕ) → Within (length_of x) (place_in x z q) x.dimensions
  box_within q j h = omega (
    arith,
    region_at x z.block q j,
    place_low (nth z.block.lengths) x.dimensions q p.least j h,
    p.inside j h,
  )

  cell_low : (q : ℕ) → cell_in x z q < cells x
  unfolding region_cell
  cell_low q = cell_at_low x ok (place_in x z q) (box_within q)

  -- ---- row r

  module _ (r : ℕ) where
    wide : 1 ≤ get_or z.block.lengths (last x) 0
    wide = p.least (last x) (omega (arith, deep))

    pub row_place : (j : ℕ) → j < last x
        → place_in x z (r * z.width) j ≡ get_or z.block.corner j 0 + place (nth z.block.lengths) (last x) r j
    row_place j h =
        region_at x z.block (r * z.width) j
        ∙ ap (λ (a : ℕ). get_or z.block.corner j 0 + a)
        (rw p.width (place_row (nth z.block.lengths) x.dimensions r (omega (arith, deep)) wide j h))

    starts : place (nth z.block.lengths) x.dimensions (r * z.width) (last x) ≡ 0
    starts = rw p.width (row_start (nth z.block.lengths) x.dimensions r (omega (arith, deep)) wide)

    pub row_corner : place_in x z (r * z.width) (last x) ≡ get_or z.block.corner (last x) 0
    row_corner = omega (arith, region_at x z.block (r * z.width) (last x), starts)

    -- its y-th cell
    module _ (y : ℕ) (k : y < z.width) where
      moved : place (nth z.block.lengths) x.dimensions (r * z.width) (last x) + y < nth z.block.lengths (last x)
      moved = omega (arith, starts, p.width)

      pub cell_before : (j : ℕ) → j < last x → place_in x z (r * z.width + y) j ≡ place_in x z (r * z.width) j
      cell_before j h =
          omega (
            arith,
            region_at x z.block (r * z.width + y) j,
            region_at x z.block (r * z.width) j,
            row_before (nth z.block.lengths) x.dimensions (r * z.width) y (omega (arith, deep)) moved j h,
          )

      pub cell_last : place_in x z (r * z.width + y) (last x) ≡ get_or z.block.corner (last x) 0 + y
      cell_last =
          omega (
            arith,
            region_at x z.block (r * z.width + y) (last x),
            row_last (nth z.block.lengths) x.dimensions (r * z.width) y (omega (arith, deep)) moved,
            starts,
          )

      pub cell_number : cell_in x z (r * z.width) + y ≡ cell_in x z (r * z.width + y)
      unfolding region_cell cell_at
      cell_number =
          let e = rank_same (length_of x) (place_in x z (r * z.width + y)) (place_in x z (r * z.width)) (last x) cell_before in
          omega (
            arith,
            rank_last (length_of x) (place_in x z (r * z.width)) x.dimensions (omega (arith, deep)),
            rank_last (length_of x) (place_in x z (r * z.width + y)) x.dimensions (omega (arith, deep)),
            ap (λ (a : ℕ). a * length_of x (last x)) e,
            cell_last,
            row_corner,
          )

    pub row_ends : r < z.rows → (i : ℕ → ℕ) (ends : List ℕ) → DistanceEnds x (window_of z.window) i ends
        → ((j : ℕ) → j < last x → place_in x z (r * z.width) j ≡ i j)
        → RowEnds x z (r * z.width) (cell_in x z (r * z.width)) (get_or z.block.corner (last x) 0) z.width ends
    row_ends h i ends f g =
        record {
          room = row_in z.width r z.rows h;
          low = omega (
            arith,
            p.width,
            wide,
            cell_number (z.width - 1) (omega (arith, p.width, wide)),
            cell_low (r * z.width + (z.width - 1)),
          );
          small = omega (arith, p.width, p.inside (last x) (omega (arith, deep)), ok.length_most (last x));
          number = cell_number;
          tests = λ y e k l. ap (λ (a : ℕ). ltb a (get_or ends e 0)) (sym (cell_last y k))
              ∙ (f.each e l).is (place_in x z (r * z.width + y)) (λ j o. cell_before y k j o ∙ g j o);
        }

    -- ---- the row as the code has it

    module _ (at : List ℕ) (g : Placed z.block.lengths z.block.corner r (last x) at) where
      pub row_has : Has at (place_in x z (r * z.width)) x.dimensions
      row_has = record { each = λ j h. go j h (dec_lt j (last x)) }
        where
          go : (j : ℕ) → j < x.dimensions → Dec (j < last x) → get_or at j 0 ≡ place_in x z (r * z.width) j
          go j h (yes l) = g.first j l ∙ sym (row_place j l)
          go j h (no l) = let e : j ≡ last x = omega arith in rw e (g.rest (last x) (omega arith) ∙ sym row_corner)

      pub row_small : (j : ℕ) → j < x.dimensions → get_or at j 0 < 1024
      row_small j h = omega (arith, row_has.each j h, box_within (r * z.width) j h, ok.length_most j)

      pub row_inner : InBlock x z.block at
      row_inner =
          record {
            low = omega (
              arith,
              g.first (beside x) (omega (arith, deep)),
              place_low (nth z.block.lengths) (last x) r (λ j h. p.least j (omega arith)) (beside x) (omega (arith, deep)),
            );
            most = omega (arith, p.inside (beside x) (omega (arith, deep)), ok.length_most (beside x));
          }

      -- y rows on
      module _ (h : r < z.rows) (y : ℕ)
          (k : get_or at (beside x) 0 + y < get_or z.block.corner (beside x) 0 + get_or z.block.lengths (beside x) 0) where
        inner : place (nth z.block.lengths) (last x) r (beside x) + y < nth z.block.lengths (beside x)
        inner = omega (arith, g.first (beside x) (omega (arith, deep)))

        pub next_low : r + y < z.rows
        next_low = rw p.rows (row_low (nth z.block.lengths) (last x) r y (omega (arith, deep)) inner (rw p.rows at h))

  pub next_before : (r : ℕ) (at : List ℕ) (g : Placed z.block.lengths z.block.corner r (last x) at) (y : ℕ)
      → get_or at (beside x) 0 + y < get_or z.block.corner (beside x) 0 + get_or z.block.lengths (beside x) 0
      → (j : ℕ) → j < beside x → place_in x z ((r + y) * z.width) j ≡ get_or at j 0
  next_before r at g y k j o =
      omega (
        arith,
        row_place (r + y) j (omega arith),
        g.first j (omega arith),
        row_before (nth z.block.lengths) (last x) r y (omega (arith, deep))
            (omega (arith, g.first (beside x) (omega (arith, deep)))) j o,
      )

  pub next_moved : (r : ℕ) (at : List ℕ) (g : Placed z.block.lengths z.block.corner r (last x) at) (y : ℕ)
      → get_or at (beside x) 0 + y < get_or z.block.corner (beside x) 0 + get_or z.block.lengths (beside x) 0
      → place_in x z ((r + y) * z.width) (beside x) ≡ get_or at (beside x) 0 + y
  next_moved r at g y k =
      omega (
        arith,
        row_place (r + y) (beside x) (omega (arith, deep)),
        g.first (beside x) (omega (arith, deep)),
        row_last (nth z.block.lengths) (last x) r y (omega (arith, deep)) (omega (arith, g.first (beside x) (omega (arith, deep)))),
      )

-- a row's first cell by its place
module _ (x : Nest) (z : Sending) (r : ℕ) (at : List ℕ) (g : Has at (place_in x z (r * z.width)) x.dimensions) where
  pub row_ranked : (ok : Accepted x) → BoxOfRows x z → Ranked x.lengths at x.dimensions
  row_ranked ok p = record {
    counts = lengths_countable x ok;
    at_most = λ j h. omega
        (arith, g.each j h, box_within x ok z p (r * z.width) j h);
  }

  pub row_number : rank (nth x.lengths) (nth at) x.dimensions ≡ cell_in x z (r * z.width)
  unfolding region_cell cell_at
  row_number = rank_same (length_of x) (nth at) (place_in x z (r * z.width)) x.dimensions g.each
