-- Places of cells, tiles and processors as the arrays that hold them.
use Prim.Native.Nat.{ℕ, zero, suc, ◌+◌, ◌*◌, ◌-◌, ◌/◌, ◌%◌, ◌≤◌, ◌<◌, min}
use mathlib.Core.Path.{◌≡◌, refl, sym, ap, ◌∙◌, subst}
use mathlib.Core.List.{List}
use native.Mathlib.Nat.{mod-lt, div-le_self}
use native.Mathlib.Omega.{arith}
use lib.ListN.{length, get_or, set, replicate}
use Rattle.base.specs.Tests.{product}
use Rattle.nest.specs.declared.Nest.{Nest}
use Rattle.nest.specs.Accepted.{Accepted}
use Rattle.nest.specs.Nest.{length_of, tile_length, processor_count, tile_count, cells, processors, box_tiles}
use Rattle.nest.specs.Places.{rank, cell_at, cell_place, tile_at, tile_place}
use Rattle.plan.specs.Geometry.{processor_of}
use Rattle.plan.specs.Messages.{two}
use Rattle.plan.specs.Box.{box_length, box_size, box_place, box_cell}
use Rattle.nest.proofs.Rank.{rank_same}
use Rattle.nest.proofs.Shapes.{box_tiles_most}
use Rattle.plan.proofs.Tiles.{cell_place_low, tile_count_pos, tile_place_low, quotient_low, tile_inside}
use Rattle.plan.proofs.Box.{box_length_pos, box_cell_low, box_cell_place, box_place_low, box_size_few}
use Rattle.layout.specs.declared.Bounds.{Bounds}
use Rattle.layout.specs.declared.Cell.{Cell}
use Rattle.layout.specs.Places.{nth, Has, Countable, Ranked, Places, Placed, Located, Bounded}
use Rattle.layout.proofs.Dims.{product_same, rank_lengths, place_lengths}
use lib.Seq.{get_or-set_other}
use Rattle.layout.proofs.Loops.{Filled, filled_none, filled_more, filled_end}

-- ---- arrays of one number

abbrev pub four : ℕ → List ℕ
four v = replicate 4 v

pub zeros : (j : ℕ) → get_or (four 0) j 0 ≡ 0
zeros zero = refl
zeros (suc zero) = refl
zeros (suc (suc zero)) = refl
zeros (suc (suc (suc zero))) = refl
zeros (suc (suc (suc (suc j)))) = refl

pub twos : (j : ℕ) → j < 4 → get_or (four 2) j 0 ≡ 2
twos zero h = refl
twos (suc zero) h = refl
twos (suc (suc zero)) h = refl
twos (suc (suc (suc zero))) h = refl
twos (suc (suc (suc (suc j)))) h = absurd (omega arith)

pub two_few : (m : ℕ) → m ≤ 3 → product two m ≤ 8
unfolding product
two_few zero k = omega arith
two_few (suc zero) k = omega arith
two_few (suc (suc zero)) k = omega arith
two_few (suc (suc (suc zero))) k = omega arith
two_few (suc (suc (suc (suc m)))) k = absurd (omega arith)

pub two_product : (m : ℕ) → m ≤ 3 → product (nth (four 2)) m ≡ product two m
two_product m k = product_same (nth (four 2)) two m (λ j l. twos j (omega arith))

pub two_countable : (m : ℕ) → m ≤ 3 → Countable (four 2) m
two_countable m k =
    record {
      low = omega arith;
      positive = λ j l. omega (arith, twos j (omega arith));
      few = omega (arith, two_product m k, two_few m k);
    }

pub relocated : (x : Nest) (c : ℕ) (r : Cell) → Located x c r → Located x r.number r
relocated x c r l = subst (λ (k : ℕ). Located x k r) (sym l.number) l

-- ---- making the box: corner and lengths are done before j, and the corner is still the tile's place from j on

pub record Boxing (x : Nest) (t : ℕ) (corner lengths : List ℕ) (j : ℕ) : Type 0 where
  pub first : Filled 4 (λ i. tile_place x t i * tile_length x i) x.dimensions corner j
  pub second : Filled 4 (box_length x t) x.dimensions lengths j
  pub rest : (i : ℕ) → j ≤ i → i < x.dimensions → get_or corner i 0 ≡ tile_place x t i

module _ (x : Nest) (ok : Accepted x) where
  -- ---- cells

  pub lengths_countable : Countable x.lengths x.dimensions
  unfolding cells
  lengths_countable = record { low = ok.dimensions_most; positive = ok.long; few = ok.cells_most }

  pub lengths_places : Places x.lengths (four 0) x.dimensions
  lengths_places =
      record { low = ok.dimensions_most; positive = ok.long; small = λ j h. omega (arith, zeros j, ok.length_most j) }

  pub placed_cell : (c : ℕ) (r : List ℕ) → Placed x.lengths (four 0) c x.dimensions r → Has r (cell_place x c) x.dimensions
  unfolding cell_place
  placed_cell c r p = record { each = λ j h. omega (arith, p.first j h, zeros j) }

  -- ---- tiles

  pub count_most : (j : ℕ) → j < x.dimensions → tile_count x j ≤ 1024
  unfolding tile_count
  count_most j h = omega (arith, div-le_self (length_of x j - 1) (tile_length x j), ok.long j h, ok.length_most j)

  -- no more tiles than cells
  pub box_few : box_tiles x ≤ 16384
  box_few = box_tiles_most x ok

  module _ (across : List ℕ) (has : Has across (tile_count x) x.dimensions) where
    pub across_product : product (nth across) x.dimensions ≡ box_tiles x
    unfolding box_tiles
    across_product = product_same (nth across) (tile_count x) x.dimensions has.each

    pub across_countable : Countable across x.dimensions
    across_countable =
        record {
          low = ok.dimensions_most;
          positive = λ j h. omega (arith, has.each j h, tile_count_pos x ok j h);
          few = omega (arith, across_product, box_few);
        }

    pub across_places : Places across (four 0) x.dimensions
    across_places =
        record { low = ok.dimensions_most; positive = across_countable.positive; small = λ j h. omega (arith, zeros j, has.each j h, count_most j h) }

    pub placed_tile : (t : ℕ) (r : List ℕ) → Placed across (four 0) t x.dimensions r → Has r (tile_place x t) x.dimensions
    unfolding tile_place
    placed_tile t r p = record { each = λ j h. omega (arith, p.first j h, zeros j, place_lengths (nth across) (tile_count x) x.dimensions t j has.each) }

    -- a place of tiles, or one beyond
    pub tile_ranked : (i : List ℕ) (u : ℕ → ℕ) → Has i u x.dimensions → ((j : ℕ) → j < x.dimensions → u j ≤ tile_count x j) → Ranked across i x.dimensions
    tile_ranked i u e w = record { counts = across_countable; at_most = λ j h. omega (arith, e.each j h, w j h, has.each j h) }

    pub tile_rank : (i : List ℕ) (u : ℕ → ℕ) → Has i u x.dimensions → rank (nth across) (nth i) x.dimensions ≡ tile_at x u
    unfolding tile_at
    tile_rank i u e =
        rank_lengths (nth across) (tile_count x) (nth i) x.dimensions has.each ∙ rank_same (tile_count x) (nth i) u x.dimensions e.each

  -- ---- the tile of a cell

  pub place_small : (c : ℕ) (i : List ℕ) → Has i (cell_place x c) x.dimensions → (j : ℕ) → j < x.dimensions → get_or i j 0 < 1024
  place_small c i e j h = omega (arith, e.each j h, cell_place_low x ok c j h, ok.length_most j)

  abbrev quotient_of : ℕ → ℕ → ℕ
  quotient_of c j = cell_place x c j / tile_length x j

  pub quotients_are : (c : ℕ) (i u : List ℕ) → Has i (cell_place x c) x.dimensions → Has u (λ j. get_or i j 0 / tile_length x j) x.dimensions
      → Has u (quotient_of c) x.dimensions
  quotients_are c i u e f = record { each = λ j h. f.each j h ∙ ap (λ (a : ℕ). a / tile_length x j) (e.each j h) }

  pub quotient_within : (c j : ℕ) → j < x.dimensions → quotient_of c j ≤ tile_count x j
  quotient_within c j h = omega (arith, quotient_low x ok (cell_place x c j) j h (cell_place_low x ok c j h))

  -- ---- the processor of a tile

  pub counts_countable : Countable x.counts x.spread
  unfolding processors
  counts_countable =
      record { low = omega (arith, ok.spread_low, ok.dimensions_most); positive = ok.manned; few = omega (arith, ok.processors_most) }

  module _ (t : ℕ) (i u : List ℕ) (e : Has i (tile_place x t) x.dimensions) (f : Has u (λ j. get_or i j 0 % get_or x.counts j 0) x.spread) where
    pub processor_ranked : Ranked x.counts u x.spread
    processor_ranked = record { counts = counts_countable; at_most = λ j h. omega (arith, f.each j h, mod-lt (get_or i j 0) (ok.manned j h)) }

    pub processor_rank : rank (processor_count x) (nth u) x.spread ≡ processor_of x t
    unfolding processor_of
    processor_rank =
        rank_same (processor_count x) (nth u) (λ j. tile_place x t j % processor_count x j) x.spread
        (λ j h. f.each j h ∙ ap (λ (a : ℕ). a % processor_count x j) (e.each j (omega (arith, ok.spread_low))))

  -- ---- the box of a tile

  corner_fits : (t j : ℕ) → j < x.dimensions → tile_place x t j * tile_length x j + box_length x t j ≤ length_of x j
  unfolding box_length
  corner_fits t j h = omega (arith, tile_inside x ok (tile_place x t j) j h (tile_place_low x ok t j h))

  module _ (b : Bounds) (is : Bounded x b) (q : ℕ) where
    pub box_places : Places b.lengths b.corner x.dimensions
    box_places =
        record {
          low = ok.dimensions_most;
          positive = λ j h. omega (arith, is.lengths.each j h, box_length_pos x ok b.tile j h);
          small = λ j h. omega (arith, is.lengths.each j h, is.corner.each j h, corner_fits b.tile j h, ok.length_most j);
        }

    module _ (r : List ℕ) (p : Placed b.lengths b.corner q x.dimensions r) where
      placed_box : Has r (box_place x b.tile q) x.dimensions
      unfolding box_place
      placed_box =
          record {
            each = λ j h. omega (
              arith,
              p.first j h,
              is.corner.each j h,
              place_lengths (nth b.lengths) (box_length x b.tile) x.dimensions q
                  j is.lengths.each,
            );
          }

      pub box_ranked : Ranked x.lengths r x.dimensions
      box_ranked = record { counts = lengths_countable; at_most = λ j h. omega (arith, placed_box.each j h, box_place_low x ok b.tile q j h) }

      box_rank : rank (length_of x) (nth r) x.dimensions ≡ box_cell x b.tile q
      unfolding box_cell cell_at
      box_rank = rank_same (length_of x) (nth r) (box_place x b.tile q) x.dimensions placed_box.each

      pub located : (n : ℕ) → n ≡ rank (nth x.lengths) (nth r) x.dimensions → Located x (box_cell x b.tile q) (record { number = n; place = r })
      located n e =
          record {
            low = box_cell_low x ok b.tile q;
            number = e ∙ box_rank;
            place = record { each = λ j h. placed_box.each j h ∙ sym (box_cell_place x ok b.tile q j h) };
          }

  -- what the code that makes the box has
  pub box_countable : (t : ℕ) (l : List ℕ) → t < box_tiles x → Has l (box_length x t) x.dimensions → (product (nth l) x.dimensions ≡ box_size x t) ×
      Countable l x.dimensions
  unfolding box_size
  box_countable t l h e =
      let s : product (nth l) x.dimensions ≡ product (box_length x t) x.dimensions = product_same (nth l) (box_length x t) x.dimensions e.each in (
        s,
        record {
          low = ok.dimensions_most;
          positive = λ j k. omega (arith, e.each j k, box_length_pos x ok t j k);
          few = omega (arith, box_size_few x ok t h, ok.cells_most);
        },
      )

  module _ (t : ℕ) where
    pub boxing_none : (corner lengths : List ℕ) → Has corner (tile_place x t) x.dimensions → length corner ≡ 4 → length lengths ≡ 4 → Boxing x t corner
        lengths 0
    boxing_none corner lengths e a b =
        record { first = filled_none _ _ corner a; second = filled_none _ _ lengths b; rest = λ i h k. e.each i k }

    module _ (corner lengths : List ℕ) (j : ℕ) (s : Boxing x t corner lengths j) (h : j < x.dimensions) where
      pub boxing_low : get_or corner j 0 * tile_length x j < length_of x j
      boxing_low = rw (s.rest j (omega arith) h) (tile_inside x ok (tile_place x t j) j h (tile_place_low x ok t j h))

      pub boxing_more : (v : ℕ) → v ≡ min (tile_length x j) (length_of x j - get_or corner j 0 * tile_length x j)
          → Boxing x t (set corner j (get_or corner j 0 * tile_length x j)) (set lengths j v) (j + 1)
      unfolding box_length
      boxing_more v e =
          record {
            first = filled_more _ _ corner j _ s.first h ok.dimensions_most (ap (λ (a : ℕ). a * tile_length x j) at);
            second =
                filled_more _ _ lengths j v s.second h ok.dimensions_most (e ∙ ap (λ (a : ℕ). min (tile_length x j) (length_of x j - a * tile_length x j))
                at);
            rest = λ i k l. get_or-set_other corner j i (get_or corner j 0 * tile_length x j) 0 (λ z. omega arith) ∙ s.rest i (omega arith) l;
          }
        where
          at : get_or corner j 0 ≡ tile_place x t j
          at = s.rest j (omega arith) h

    module _ (corner lengths : List ℕ) (j : ℕ) (s : Boxing x t corner lengths j) (h : x.dimensions ≤ j) (l : t < box_tiles x) where
      boxed : Has lengths (box_length x t) x.dimensions
      boxed = filled_end _ _ lengths j s.second h

      pub boxing_countable : Countable lengths x.dimensions
      boxing_countable = (box_countable t lengths l boxed).1

      pub boxing_end : (n : ℕ) → n ≡ product (nth lengths) x.dimensions → Bounded x (record { tile = t; corner = corner; lengths = lengths; size = n })
      boxing_end n e =
          record { low = l; corner = filled_end _ _ corner j s.first h; lengths = boxed; size = e ∙ (box_countable t lengths l boxed).0 }
