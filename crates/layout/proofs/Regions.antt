-- A slot's cells are those of its box that some distance puts into its window, in index order, on either route.
use Prim.Native.Nat.{ℕ, suc, ◌+◌, ◌*◌, ◌-◌, ◌/◌, ◌≤◌, ◌<◌, min}
use mathlib.Core.Path.{◌≡◌, refl, sym, ap, ◌∙◌}
use mathlib.Core.Bool.{Bool, true}
use mathlib.Core.List.{map}
use native.Mathlib.Nat.{le-div_iff_mul-le, div-lt_iff_lt-mul, mul-le-mul_right, suc-mul}
use native.Mathlib.Decide.{dec_lt, ℕ_discrete}
use native.Mathlib.Omega.{arith}
use lib.Dec.{ltb, leb, eqb}
use borrow.Author.Tests.{eq-eqb, ne_eqb, ltb-true, lt-ltb, le-ltb, leb-true, le-leb, lt-leb}
use Rattle.base.specs.Tests.{◌and◌, one, some, keep, tabulate}
use Rattle.base.proofs.Tests.{both, and_true, and_false, and_no, every_at, every_all, some_at, some_one, same_test, pick_true, pick_false, one_true, one_false}
use Rattle.base.proofs.Select.{keep_same}
use Rattle.nest.specs.declared.Nest.{Nest}
use Rattle.nest.specs.Accepted.{Accepted}
use Rattle.nest.specs.Nest.{length_of, tile_length, component, cells, box_tiles}
use Rattle.plan.specs.declared.Route.{Route}
use Rattle.plan.specs.declared.Route.TheVariants.{Direct, Indirect}
use Rattle.nest.specs.Places.{rank, cell_at, cell_place, tile_at, tile_place, box_tile_of}
use Rattle.plan.specs.Messages.{two, directions, ahead, crosses, parcel, before, origin, passes, passed, slots, slot_tile, slot_direction}
use Rattle.plan.specs.Messages.{slot_dimension, slot_cells}
use Rattle.layout.specs.Regions.{Region, among, side, region_size, region_place, region_cell, tiles_box, tiles_window, direct_box, direct_window}
use Rattle.layout.specs.Regions.{indirect_box, indirect_window, slot_box, slot_window, comes_into}
use Rattle.nest.proofs.Rank.{Within, place_low, rank_low, rank_same, div_step}
use Rattle.plan.proofs.Tiles.{cell_place_low, cell_place_cell_at, tile_place_low, tile_inside, tile_place_box_tile_of}
use Rattle.plan.proofs.Grid.{met, keep_run, keep_box, keep_both, every_same}
use Rattle.plan.proofs.Box.{box_tile_of_is}
use Rattle.plan.proofs.Parcels.{crosses_held, held_crosses, ahead_rank, ahead_low, before_yes, before_no, Passed, passes_passed, passed_passes}
use Rattle.plan.proofs.Parcels.{slot_tile_low, slot_dimension_low, origin_place}

-- ---- one dimension: between which tiles a component lies

floor : (k b a : ℕ) → 1 ≤ k → b ≤ a / k → b * k ≤ a
floor k b a p h = (le-div_iff_mul-le {k = k} {x = b} {y = a} p).0 h

floor_back : (k b a : ℕ) → 1 ≤ k → b * k ≤ a → b ≤ a / k
floor_back k b a p h = (le-div_iff_mul-le {k = k} {x = b} {y = a} p).1 h

roof : (k b a : ℕ) → 1 ≤ k → a / k ≤ b → a < b * k + k
roof k b a p h = omega (arith, (div-lt_iff_lt-mul {k = k} {x = a} {y = suc b} p).0 (omega arith), suc-mul b k)

roof_back : (k b a : ℕ) → 1 ≤ k → a < b * k + k → a / k ≤ b
roof_back k b a p h = let l = (div-lt_iff_lt-mul {k = k} {x = a} {y = suc b} p).1 (omega (arith, suc-mul b k)) in omega arith

-- ---- a place in a box

module _ (x : Nest) (b : Region) where
  pub among_at : (i : ℕ → ℕ) → among x b i ≡ true → (j : ℕ) → j < x.dimensions → (b.low j ≤ i j) × (i j < b.high j)
  unfolding among
  among_at i h j l = let p = both (every_at _ x.dimensions h j l) in (leb-true _ _ p.0, ltb-true _ _ p.1)

  pub among_all : (i : ℕ → ℕ) → ((j : ℕ) → j < x.dimensions → (b.low j ≤ i j) × (i j < b.high j)) → among x b i ≡ true
  unfolding among
  among_all i h = every_all _ x.dimensions (λ j l. and_true (le-leb _ _ (h j l).0) (lt-ltb _ _ (h j l).1))

  pub among_same : (i k : ℕ → ℕ) → ((j : ℕ) → j < x.dimensions → i j ≡ k j) → among x b i ≡ among x b k
  unfolding among
  among_same i k h = every_same _ _ x.dimensions (λ j l. ap (λ (a : ℕ). leb (b.low j) a and ltb a (b.high j)) (h j l))

  pub comes_at : (i : ℕ → ℕ) → comes_into x b i ≡ true → (e : ℕ) × (e < x.distances) × (among x b (λ j. i j + component x e j) ≡ true)
  unfolding comes_into
  comes_at i h = some_at _ x.distances h

  pub comes_by : (i : ℕ → ℕ) (e : ℕ) → e < x.distances → among x b (λ j. i j + component x e j) ≡ true → comes_into x b i ≡ true
  unfolding comes_into
  comes_by i e l h = some_one _ x.distances e l h

  pub comes_same : (i k : ℕ → ℕ) → ((j : ℕ) → j < x.dimensions → i j ≡ k j) → comes_into x b i ≡ comes_into x b k
  comes_same i k h =
      same_test
      (λ t. let r = comes_at i t in comes_by k r.0 r.1
      (sym (among_same _ _ (λ j l. ap (λ (a : ℕ). a + component x r.0 j) (h j l))) ∙ r.2))
      (λ t. let r = comes_at k t in comes_by i r.0 r.1
      (among_same _ _ (λ j l. ap (λ (a : ℕ). a + component x r.0 j) (h j l)) ∙ r.2))

  -- the cells of a box in index order
  pub region_cells : ((j : ℕ) → j < x.dimensions → (b.low j ≤ b.high j) × (b.high j ≤ length_of x j))
      → keep (λ c. among x b (cell_place x c)) (cells x) ≡ tabulate (region_cell x b) (region_size x b)
  unfolding among cells cell_place region_cell region_place region_size cell_at met
  region_cells h =
      keep_box (λ j a. leb (b.low j) a and ltb a (b.high j)) (length_of x) b.low (side b) x.dimensions
      (λ j l. run j (h j l).0 (h j l).1)
    where
      run : (j : ℕ) → b.low j ≤ b.high j → b.high j ≤ length_of x j
          → keep (λ a. leb (b.low j) a and ltb a (b.high j)) (length_of x j) ≡ tabulate (λ u. b.low j + u) (side b j)
      run j f g =
          keep_run (λ a. leb (b.low j) a and ltb a (b.high j)) (b.low j) (side b j) (length_of x j) (omega arith)
          (λ i l. and_false (leb (b.low j) i) (ltb i (b.high j)) (lt-leb (b.low j) i l))
          (λ i l. and_true (le-leb (b.low j) (b.low j + i) (omega arith)) (lt-ltb (b.low j + i) (b.high j) (omega arith)))
          (λ i l m. and_no (leb (b.low j) i) (ltb i (b.high j)) (le-ltb i (b.high j) (omega arith)))

-- ---- a window in a spread dimension, and in another

module _ (x : Nest) (a b : ℕ → ℕ) (j : ℕ) where
  pub low_is : j < x.spread → (tiles_window x a b).low j ≡ a j * tile_length x j
  low_is s = pick_true (ltb j x.spread) _ 0 (lt-ltb j x.spread s)

  pub high_is : j < x.spread → (tiles_window x a b).high j ≡ min (b j * tile_length x j + tile_length x j) (length_of x j)
  high_is s = pick_true (ltb j x.spread) _ (length_of x j) (lt-ltb j x.spread s)

  pub low_rest : x.spread ≤ j → (tiles_window x a b).low j ≡ 0
  low_rest s = pick_false (ltb j x.spread) (a j * tile_length x j) 0 (le-ltb j x.spread s)

  pub high_rest : x.spread ≤ j → (tiles_window x a b).high j ≡ length_of x j
  high_rest s =
      pick_false (ltb j x.spread) (min (b j * tile_length x j + tile_length x j) (length_of x j)) (length_of x j) (le-ltb j x.spread s)

module _ (x : Nest) (ok : Accepted x) where
  low_spread : (j : ℕ) → j < x.spread → j < x.dimensions
  low_spread j h = omega (arith, ok.spread_low)

  -- ---- tiles as boxes and windows: a place lies in one just where its quotients lie between
  module _ (a b i : ℕ → ℕ) where
    pub box_at : among x (tiles_box x a b) i ≡ true → (j : ℕ) → j < x.dimensions
        → (a j ≤ i j / tile_length x j) × (i j / tile_length x j ≤ b j)
    box_at h j l =
        let p = among_at x (tiles_box x a b) i h j l in
        (floor_back _ _ _ (ok.tiled j l) p.0, roof_back _ _ _ (ok.tiled j l) (omega (arith, p.1)))

    pub box_all : ((j : ℕ) → j < x.dimensions → i j < length_of x j)
        → ((j : ℕ) → j < x.dimensions → (a j ≤ i j / tile_length x j) × (i j / tile_length x j ≤ b j)) → among x (tiles_box x a b) i ≡ true
    box_all w h =
        among_all x (tiles_box x a b) i
        (λ j l. (floor _ _ _ (ok.tiled j l) (h j l).0, omega (arith, roof _ _ _ (ok.tiled j l) (h j l).1, w j l)))

    pub window_stays : among x (tiles_window x a b) i ≡ true → (j : ℕ) → j < x.dimensions → i j < length_of x j
    window_stays h j l = go (among_at x (tiles_window x a b) i h j l) (dec_lt j x.spread)
      where
        go : ((tiles_window x a b).low j ≤ i j) × (i j < (tiles_window x a b).high j) → Dec (j < x.spread) → i j < length_of x j
        go p (yes s) = omega (arith, p.1, high_is x a b j s)
        go p (no s) = omega (arith, p.1, high_rest x a b j (omega arith))

    pub window_at : among x (tiles_window x a b) i ≡ true → (j : ℕ) → j < x.spread → (a j ≤ i j / tile_length x j) × (i j / tile_length x j ≤ b j)
    window_at h j s =
        let l = low_spread j s in
        let p = among_at x (tiles_window x a b) i h j l in (
          floor_back _ _ _ (ok.tiled j l) (omega (arith, p.0, low_is x a b j s)),
          roof_back _ _ _ (ok.tiled j l) (omega (arith, p.1, high_is x a b j s)),
        )

    pub window_all : ((j : ℕ) → j < x.dimensions → i j < length_of x j)
        → ((j : ℕ) → j < x.spread → (a j ≤ i j / tile_length x j) × (i j / tile_length x j ≤ b j)) → among x (tiles_window x a b) i ≡ true
    window_all w h = among_all x (tiles_window x a b) i (λ j l. go j l (dec_lt j x.spread))
      where
        go : (j : ℕ) → j < x.dimensions → Dec (j < x.spread) → ((tiles_window x a b).low j ≤ i j) × (i j < (tiles_window x a b).high j)
        go j l (yes s) = (
          omega (arith, low_is x a b j s, floor _ _ _ (ok.tiled j l) (h j s).0),
          omega (arith, high_is x a b j s, roof _ _ _ (ok.tiled j l) (h j s).1, w j l),
        )
        go j l (no s) = (omega (arith, low_rest x a b j (omega arith)), omega (arith, high_rest x a b j (omega arith), w j l))

  -- ---- the direct route

  module _ (t v c : ℕ) (lt : t < box_tiles x) (lc : c < cells x) where
    abbrev direct_test : Bool
    direct_test = among x (direct_box x t) (cell_place x c) and comes_into x (direct_window x t v) (cell_place x c)

    direct_there : crosses x t v c ≡ true → direct_test ≡ true
    direct_there h =
        let k = crosses_held x t v c lc h in
        let g = k.1 in
        let own : (j : ℕ) → j < x.dimensions → cell_place x c j / tile_length x j ≡ tile_place x t j =
        λ j l. sym (tile_place_box_tile_of x ok c j l) ∙ ap (λ (u : ℕ). tile_place x u j) g.own in
        and_true
        (box_all _ _ (cell_place x c) (cell_place_low x ok c) (λ j l. (omega (arith, own j l), omega (arith, own j l))))
        (comes_by x (direct_window x t v) _ k.0 g.distance
        (window_all _ _ _ g.stays (λ j s. (omega (arith, g.steps j s), omega (arith, g.steps j s)))))

    direct_back : direct_test ≡ true → crosses x t v c ≡ true
    direct_back h =
        let b = both h in
        let k = comes_at x (direct_window x t v) (cell_place x c) b.1 in
        held_crosses x t v c k.0 (record {
          cell = lc;
          own = box_tile_of_is x ok c t lt (λ j l. let p = box_at _ _ (cell_place x c) b.0 j l in omega (arith, p.0, p.1));
          distance = k.1;
          stays = window_stays _ _ _ k.2;
          steps = λ j s. let p = window_at _ _ _ k.2 j s in omega (arith, p.0, p.1);
        })

    pub direct_test_lem : crosses x t v c ≡ direct_test
    direct_test_lem = same_test direct_there direct_back

  -- ---- the indirect route

  -- a dimension before q, q itself, or a later one
  data Where (q v j : ℕ) : Type 0 where
    earlier : j < q → one (ltb j q) ≡ 1 → one (eqb j q) ≡ 0 → one (leb q j) ≡ 0 → before x q v j ≡ ahead x v j → Where q v j
    here : j ≡ q → one (ltb j q) ≡ 0 → one (eqb j q) ≡ 1 → one (leb q j) ≡ 1 → before x q v j ≡ 0 → Where q v j
    further : q < j → one (ltb j q) ≡ 0 → one (eqb j q) ≡ 0 → one (leb q j) ≡ 1 → before x q v j ≡ 0 → Where q v j

  where_of : (q v j : ℕ) → Where q v j
  where_of q v j = go (dec_lt j q) (ℕ_discrete j q)
    where
      go : Dec (j < q) → Dec (j ≡ q) → Where q v j
      go (yes l) d = Where.earlier l (one_true (lt-ltb j q l)) (one_false (ne_eqb j q (λ e. omega arith))) (one_false (lt-leb q j l))
          (before_yes x q v j l)
      go (no l) (yes e) = Where.here e (one_false (le-ltb j q (omega arith))) (one_true (eq-eqb j q e))
          (one_true (le-leb q j (omega arith))) (before_no x q v j (omega arith))
      go (no l) (no e) = Where.further (omega arith) (one_false (le-ltb j q (omega arith))) (one_false (ne_eqb j q e))
          (one_true (le-leb q j (omega arith))) (before_no x q v j (omega arith))

  module _ (t q c : ℕ) (lt : t < box_tiles x) (lq : q < x.spread) (lc : c < cells x) where
    -- which tiles the box and the window span, by the tiles of the cell and of the cell moved by distance e
    record Spans (e : ℕ) : Type 0 where
      least : (j : ℕ) → j < x.dimensions → tile_place x t j - one (ltb j q) ≤ cell_place x c j / tile_length x j
      most : (j : ℕ) → j < x.dimensions → cell_place x c j / tile_length x j ≤ tile_place x t j
      moved : (j : ℕ) → j < x.dimensions → cell_place x c j + component x e j < length_of x j
      moved_least : (j : ℕ) → j < x.spread → tile_place x t j + one (eqb j q) ≤ (cell_place x c j + component x e j) / tile_length x j
      moved_most : (j : ℕ) → j < x.spread → (cell_place x c j + component x e j) / tile_length x j ≤ tile_place x t j + one (leb q j)

    abbrev indirect_test : Bool
    indirect_test = among x (indirect_box x t q) (cell_place x c) and comes_into x (indirect_window x t q) (cell_place x c)

    spans_there : (e : ℕ) → e < x.distances → Spans e → indirect_test ≡ true
    spans_there e le s =
        and_true
        (box_all _ _ (cell_place x c) (cell_place_low x ok c) (λ j l. (s.least j l, s.most j l)))
        (comes_by x (indirect_window x t q) _ e le (window_all _ _ _ s.moved (λ j k. (s.moved_least j k, s.moved_most j k))))

    spans_back : indirect_test ≡ true → (e : ℕ) × (e < x.distances) × Spans e
    spans_back h =
        let b = both h in
        let k = comes_at x (indirect_window x t q) (cell_place x c) b.1 in (
          k.0,
          k.1,
          record {
            least = λ j l. (box_at _ _ (cell_place x c) b.0 j l).0;
            most = λ j l. (box_at _ _ (cell_place x c) b.0 j l).1;
            moved = window_stays _ _ _ k.2;
            moved_least = λ j s. (window_at _ _ _ k.2 j s).0;
            moved_most = λ j s. (window_at _ _ _ k.2 j s).1;
          },
        )

    -- what the tile passes on spans these tiles
    passed_spans : (v e : ℕ) → Passed x t q c v e → Spans e
    passed_spans v e p =
        record {
          least = λ j l. least j l (where_of q v j);
          most = λ j l. omega (arith, own j l);
          moved = p.held.stays;
          moved_least = λ j s. moved_least j s (where_of q v j);
          moved_most = λ j s. moved_most j s (where_of q v j);
        }
      where
        own : (j : ℕ) → j < x.dimensions → cell_place x c j / tile_length x j ≡ tile_place x t j - before x q v j
        own j l = sym (tile_place_box_tile_of x ok c j l)
            ∙ (ap (λ (u : ℕ). tile_place x u j) p.held.own ∙ origin_place x ok t q c v e lt p j l)

        moved : (j : ℕ) → j < x.spread → (cell_place x c j + component x e j) / tile_length x j
            ≡ tile_place x t j - before x q v j + ahead x v j
        moved j s = p.held.steps j s ∙ ap (λ (a : ℕ). a + ahead x v j) (origin_place x ok t q c v e lt p j (low_spread j s))

        least : (j : ℕ) → j < x.dimensions → Where q v j → tile_place x t j - one (ltb j q) ≤ cell_place x c j / tile_length x j
        least j l (Where.earlier a b d f g) = omega (arith, own j l, ahead_low x v j (omega arith))
        least j l (Where.here a b d f g) = omega (arith, own j l)
        least j l (Where.further a b d f g) = omega (arith, own j l)

        moved_least : (j : ℕ) → j < x.spread → Where q v j
            → tile_place x t j + one (eqb j q) ≤ (cell_place x c j + component x e j) / tile_length x j
        moved_least j s (Where.earlier a b d f g) = omega (arith, moved j s, p.exists j (low_spread j s))
        moved_least j s (Where.here a b d f g) = omega (arith, moved j s, ap (ahead x v) a, p.turns)
        moved_least j s (Where.further a b d f g) = omega (arith, moved j s)

        moved_most : (j : ℕ) → j < x.spread → Where q v j
            → (cell_place x c j + component x e j) / tile_length x j ≤ tile_place x t j + one (leb q j)
        moved_most j s (Where.earlier a b d f g) = omega (arith, moved j s, p.exists j (low_spread j s))
        moved_most j s (Where.here a b d f g) = omega (arith, moved j s, ahead_low x v j s)
        moved_most j s (Where.further a b d f g) = omega (arith, moved j s, ahead_low x v j s)

    -- and what spans them it passes on, by the direction that the distance takes
    module _ (e : ℕ) (le : e < x.distances) (s : Spans e) where
      step : ℕ → ℕ
      step j = (cell_place x c j + component x e j) / tile_length x j - cell_place x c j / tile_length x j

      near : (j : ℕ) → j < x.dimensions → (cell_place x c j / tile_length x j ≤ (cell_place x c j + component x e j) / tile_length x j)
          × ((cell_place x c j + component x e j) / tile_length x j ≤ suc (cell_place x c j / tile_length x j))
      near j h = div_step (tile_length x j) (cell_place x c j) (component x e j) (ok.tiled j h) (ok.near e j le h)

      step_two : Within two step x.spread
      unfolding step
      step_two j h = omega (arith, near j (low_spread j h))

      v : ℕ
      v = rank two step x.spread

      v_is : (j : ℕ) → j < x.spread → cell_place x c j / tile_length x j + ahead x v j ≡ (cell_place x c j + component x e j) / tile_length x j
      unfolding v step
      v_is j h = omega (arith, near j (low_spread j h), ahead_rank x step step_two j h)

      v_low : v ≤ directions x
      unfolding v directions
      v_low = omega (arith, rank_low two step x.spread step_two)

      -- the tile of the cell
      from : (j : ℕ) → j < x.dimensions → Where q v j → tile_place x t j ≡ cell_place x c j / tile_length x j + before x q v j
      from j l (Where.earlier a b d f g) =
          omega (arith, s.moved_least j (omega arith), s.moved_most j (omega arith), v_is j (omega arith))
      from j l (Where.here a b d f g) = omega (arith, s.least j l, s.most j l)
      from j l (Where.further a b d f g) = omega (arith, s.least j l, s.most j l)

      origin_is : origin x t q v ≡ box_tile_of x c
      unfolding origin box_tile_of tile_at
      origin_is = rank_same _ _ _ x.dimensions (λ j l. omega (arith, from j l (where_of q v j)))

      turns : ahead x v q ≡ 1
      turns = go (where_of q v q)
        where
          go : Where q v q → ahead x v q ≡ 1
          go (Where.earlier a b d f g) = absurd (omega arith)
          go (Where.here a b d f g) = omega (
            arith,
            v_is q lq,
            s.moved_least q lq,
            s.moved_most q lq,
            from q (low_spread q lq) (Where.here a b d f g),
          )
          go (Where.further a b d f g) = absurd (omega arith)

      spans_passed : Passed x t q c v e
      spans_passed =
          record {
            most = v_low;
            turns = turns;
            exists = λ j l. omega (arith, from j l (where_of q v j));
            held = rw origin_is (record {
              cell = lc;
              own = refl;
              distance = le;
              stays = s.moved;
              steps = λ j l. sym (v_is j l) ∙ ap (λ (a : ℕ). a + ahead x v j) (sym (tile_place_box_tile_of x ok c j (low_spread j l)));
            });
          }

    pub indirect_test_lem : some (passes x t q c) (directions x + 1) ≡ indirect_test
    indirect_test_lem =
        same_test
        (λ h. let k = some_at (passes x t q c) (directions x + 1) h in
        let p = passes_passed x t q c k.0 lc (omega (arith, k.1)) k.2 in
        spans_there p.0 p.1.held.distance (passed_spans k.0 p.0 p.1))
        (λ h. let k = spans_back h in
        some_one (passes x t q c) (directions x + 1) (v k.0 k.1 k.2) (omega (arith, v_low k.0 k.1 k.2))
        (passed_passes x t q c (v k.0 k.1 k.2) k.0 (spans_passed k.0 k.1 k.2)))

  -- ---- either route

  pub slot_among : (r : Route) (s : ℕ) → s < slots r x
      → slot_cells r x s ≡ keep (λ c. among x (slot_box r x s) (cell_place x c) and comes_into x (slot_window r x s) (cell_place x c)) (cells x)
  unfolding slot_cells parcel passed
  slot_among Direct s l = keep_same _ _ (cells x)
      (λ c h. direct_test_lem (slot_tile Direct x s) (slot_direction x s) c (slot_tile_low x Direct s l) h)
  slot_among Indirect s l = keep_same _ _ (cells x)
      (λ c h. indirect_test_lem (slot_tile Indirect x s) (slot_dimension x s) c (slot_tile_low x Indirect s l) (slot_dimension_low x s l) h)

  -- a slot's box has a cell, and lies inside the nest
  pub slot_box_fits : (r : Route) (s j : ℕ) → s < slots r x → j < x.dimensions
      → ((slot_box r x s).low j < (slot_box r x s).high j) × ((slot_box r x s).high j ≤ length_of x j)
  slot_box_fits Direct s j l h = (
    omega (
      arith,
      ok.tiled j h,
      tile_inside x ok (tile_place x (slot_tile Direct x s) j) j h
          (tile_place_low x ok (slot_tile Direct x s) j h),
    ),
    omega arith,
  )
  slot_box_fits Indirect s j l h =
      let t = slot_tile Indirect x s in
      let q = slot_dimension x s in
      let b : (tile_place x t j - one (ltb j q)) * tile_length x j ≤ tile_place x t j * tile_length x j =
      mul_le (tile_place x t j - one (ltb j q)) (tile_place x t j) (omega arith) in
      (omega (arith, ok.tiled j h, tile_inside x ok (tile_place x t j) j h (tile_place_low x ok t j h)), omega arith)
    where
      mul_le : (a b : ℕ) → a ≤ b → a * tile_length x j ≤ b * tile_length x j
      mul_le a b m = mul-le-mul_right (tile_length x j) m

  module _ (r : Route) (s : ℕ) (l : s < slots r x) where
    pub region_place_low : (n : ℕ) → Within (length_of x) (region_place x (slot_box r x s) n) x.dimensions
    unfolding region_place
    region_place_low n j h =
        let f = slot_box_fits r s j l h in
        omega (
          arith,
          f.0,
          f.1,
          place_low (side (slot_box r x s)) x.dimensions n
              (λ i k. let g = slot_box_fits r s i l k in omega (arith, g.0)) j h,
        )

    pub region_cell_place : (n j : ℕ) → j < x.dimensions → cell_place x (region_cell x (slot_box r x s) n) j
        ≡ region_place x (slot_box r x s) n j
    unfolding region_cell
    region_cell_place n j h = cell_place_cell_at x ok (region_place x (slot_box r x s) n) (region_place_low n) j h

    -- the n-th cells of the box that come into the window, in index order
    pub slot_region : slot_cells r x s
        ≡ map (region_cell x (slot_box r x s))
        (keep (λ n. comes_into x (slot_window r x s) (region_place x (slot_box r x s) n)) (region_size x (slot_box r x s)))
    slot_region =
        slot_among r s l
        ∙ keep_both (λ c. among x (slot_box r x s) (cell_place x c)) (λ c. comes_into x (slot_window r x s) (cell_place x c))
        (region_cell x (slot_box r x s)) (cells x) (region_size x (slot_box r x s))
        (region_cells x (slot_box r x s) (λ j h. let f = slot_box_fits r s j l h in (omega (arith, f.0), f.1)))
        ∙ ap (map (region_cell x (slot_box r x s)))
        (keep_same _ _ (region_size x (slot_box r x s)) (λ n h. comes_same x (slot_window r x s) _ _ (λ j k. region_cell_place n j k)))
