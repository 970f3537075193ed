-- Laws of moves of tiles that every bound moves along with: a tile's parcels are as long as those of the tile a move before it.
use Prim.Native.Nat.{ℕ, ◌+◌, ◌*◌, ◌-◌, ◌/◌, ◌≤◌, ◌<◌}
use mathlib.Core.Path.{◌≡◌, refl, sym, ap, ◌∙◌}
use mathlib.Core.Logic.{◌⊎◌, inl, inr}
use mathlib.Core.Bool.{Bool, true}
use mathlib.Core.List.{List, ◌++◌, map, append-nil}
use native.Mathlib.Nat.{eq-or-lt_of_le, mul-add, mul-le-mul, mul-le-mul_right, add-mul, add-mul-div_right, div-add-mod', mod-lt}
use native.Mathlib.Decide.{ℕ_discrete, dec_le}
use native.Mathlib.Omega.{arith}
use lib.ListN.{length, get_or, set, length-map, length-set, length-replicate}
use lib.Seq.{get_or-set_same, get_or-set_other}
use lib.Dec.{eqb, ltb, leb}
use borrow.Author.Tests.{eqb-true, eq-eqb, lt-ltb, ltb-true, le-leb, leb-true}
use Rattle.base.specs.Tests.{◌and◌, pick, every, some, keep}
use Rattle.base.proofs.Tests.{both, and_true, same_test, is_false, every_at, every_same, some_same}
use Rattle.base.proofs.Select.{keep_same}
use Rattle.nest.specs.declared.Nest.{Nest}
use Rattle.nest.specs.declared.Interval.{Interval}
use Rattle.nest.specs.Accepted.{Accepted}
use Rattle.nest.specs.Nest.{length_of, tile_length, tile_count, component, bounded, earlier, slope, bound_offset, cells, box_tiles}
use Rattle.nest.specs.Places.{rank, cell_at, cell_place, tile_at, tile_place, box_tile_of}
use Rattle.nest.specs.Shape.{level, raised, meets, in_shape, tiles}
use Rattle.nest.specs.Spans.{last}
use Rattle.nest.proofs.Rank.{rank_same}
use Rattle.plan.specs.Geometry.{inside}
use Rattle.plan.specs.Messages.{ahead, reaches}
use Rattle.plan.specs.Hops.{hops}
use Rattle.plan.specs.Shaped.{box_tile, reaches_shape, shaped_parcel}
use Rattle.plan.proofs.ShapedTiles.{box_tile_low}
use Rattle.plan.proofs.Grid.{keep_add, keep_nothing}
use Rattle.plan.proofs.Tiles.{cell_place_low, cell_at_low, cell_place_cell_at, cell_at_cell_place, tile_place_low, tile_place_tile_at, tile_at_tile_place}
use Rattle.plan.proofs.Tiles.{tile_place_box_tile_of, tile_count_pos}
use Rattle.layout.specs.Places.{nth, Has, Ranked}
use Rattle.layout.proofs.Cells.{four, zeros, count_most, tile_ranked, tile_rank}
use Rattle.layout.proofs.Dims.{rank_add, rank_few}
use Rattle.parcels.specs.shaped.Runs.{in_place}
use Rattle.parcels.proofs.shaped.Runs.{shape_cell, shape_at}
use Rattle.tables.specs.shaped_table.Table.{Like}
use Rattle.tables.specs.shaped_table.Lines.{PlacesIn, Lined}
use Rattle.std.specs.Prelude.{Option, Some, None, IfSome}
use Rattle.tables.specs.declared.shaped_table.rows.Move.{Move}
use Rattle.tables.specs.shaped_table.Moves.{Short, cells_in, Kept, Moves, Behind, MovedIn}
use Rattle.tables.proofs.shaped_table.Laws.{slot_length}
use Rattle.tables.proofs.shaped_table.Lines.{inner, whole_low, at_last, at_before}

-- ---- tests and selections moved

leb_moved : (a b c d m : ℕ) → c ≡ a + m → d ≡ b + m → leb c d ≡ leb a b
leb_moved a b c d m e f = same_test (λ t. le-leb a b (omega (arith, leb-true c d t))) (λ t. le-leb c d (omega (arith, leb-true a b t)))

eqb_moved : (a b c d m : ℕ) → c ≡ a + m → d ≡ b + m → eqb c d ≡ eqb a b
eqb_moved a b c d m e f = same_test (λ t. eq-eqb a b (omega (arith, eqb-true c d t))) (λ t. eq-eqb c d (omega (arith, eqb-true a b t)))

-- a selection whose numbers are those of another, each moved by m, has as many
keep_moved : (f g : ℕ → Bool) (n m : ℕ) → ((c : ℕ) → c < n → f c ≡ true → (m ≤ c) × (g (c - m) ≡ true))
    → ((c : ℕ) → c < n → g c ≡ true → (c + m < n) × (f (c + m) ≡ true)) → length (keep f n) ≡ length (keep g n)
keep_moved f g n m down up = go (dec_le m n)
  where
    go : Dec (m ≤ n) → length (keep f n) ≡ length (keep g n)
    go (no h) =
        ap length (keep_nothing f n (λ c l. is_false (λ t. omega (arith, (down c l t).0)))
        ∙ sym (keep_nothing g n (λ c l. is_false (λ t. omega (arith, (up c l t).0)))))
    go (yes h) =
        let k : ℕ = n - m in
        let e : n ≡ m + k = omega arith in
        let e' : n ≡ k + m = omega arith in
        ap (λ (i : ℕ). length (keep f i)) e
        ∙ ap length (keep_add f m k)
        ∙ ap (λ (l : List ℕ). length (l ++ map (λ t. m + t) (keep (λ t. f (m + t)) k)))
        (keep_nothing f m (λ c l. is_false (λ t. omega (arith, (down c (omega arith) t).0))))
        ∙ length-map (keep (λ t. f (m + t)) k) (λ t. m + t)
        ∙ ap length (keep_same (λ t. f (m + t)) g k (λ c l. same_test (there k e c l) (back k e c l)))
        ∙ sym (ap (λ (i : ℕ). length (keep g i)) e' ∙ ap length (keep_add g k m
        ∙ ap (λ (l : List ℕ). keep g k ++ map (λ t. k + t) l)
        (keep_nothing (λ t. g (k + t)) m (λ c l. is_false (λ t. omega (arith, (up (k + c) (omega arith) t).0))))
        ∙ append-nil (keep g k)))
      where
        there : (k : ℕ) → n ≡ m + k → (c : ℕ) → c < k → f (m + c) ≡ true → g c ≡ true
        there k e c l t = let q : m + c - m ≡ c = omega arith in rw q at (down (m + c) (omega arith) t).1

        back : (k : ℕ) → n ≡ m + k → (c : ℕ) → c < k → g c ≡ true → f (m + c) ≡ true
        back k e c l t = let q : c + m ≡ m + c = omega arith in rw q at (up c (omega arith) t).1

-- ---- places moved

module _ (x : Nest) (ok : Accepted x) (s : ℕ → ℕ)
    (kept : (k : ℕ) → k < x.bounds → slope x k * (s (earlier x k) * tile_length x (earlier x k))
    ≡ s (bounded x k) * tile_length x (bounded x k) + s (earlier x k) * tile_length x (earlier x k)) where
  abbrev g : ℕ → ℕ
  g j = s j * tile_length x j

  -- place k is place i moved
  abbrev Moved : (ℕ → ℕ) → (ℕ → ℕ) → Type 0
  Moved i k = (j : ℕ) → j < x.dimensions → k j ≡ i j + g j

  meets_moved : (i k : ℕ → ℕ) → Moved i k → (b : ℕ) → b < x.bounds → meets x k b ≡ meets x i b
  unfolding meets level raised
  meets_moved i k h b l =
      let o = h (bounded x b) (ok.bounded_low b l) in
      let e = h (earlier x b) (omega (arith, ok.bounded_low b l, ok.earlier_low b l)) in
      let m : slope x b * k (earlier x b) ≡ slope x b * i (earlier x b) + slope x b * g (earlier x b) =
      ap (λ (a : ℕ). slope x b * a) e ∙ mul-add (slope x b) (i (earlier x b)) (g (earlier x b)) in
      let up : slope x b * k (earlier x b) + bound_offset x b ≡ slope x b * i (earlier x b) + bound_offset x b + (g (bounded x b) + g (earlier x b)) =
      omega (arith, m, kept b l) in
      let on : k (bounded x b) + k (earlier x b) + 32768 ≡ i (bounded x b) + i (earlier x b) + 32768 + (g (bounded x b) + g (earlier x b)) =
      omega (arith, o, e) in
      rw (leb_moved _ _ _ _ (g (bounded x b) + g (earlier x b)) up on, leb_moved _ _ _ _ (g (bounded x b) + g (earlier x b)) on up)

  place_moved : (i k : ℕ → ℕ) → Moved i k → in_place x k ≡ in_place x i
  unfolding in_place
  place_moved i k h = every_same (meets x k) (meets x i) x.bounds (λ b l. meets_moved i k h b l)

  -- ---- tile u, and tile p so many before it in each dimension
  module _ (u p : ℕ) (lu : u < box_tiles x) (lp : p < box_tiles x) (back : (j : ℕ) → j < x.dimensions → tile_place x u j ≡ tile_place x p j + s j)
      (whole : (j : ℕ) → j < x.dimensions → 0 < s j → (tile_place x u j + 2) * tile_length x j ≤ length_of x j) where
    -- the components of a tile's cells
    stands : (t c : ℕ) → box_tile_of x c ≡ t → (j : ℕ) → j < x.dimensions
        → (tile_place x t j * tile_length x j ≤ cell_place x c j) × (cell_place x c j < tile_place x t j * tile_length x j + tile_length x j)
    stands t c own j h =
        let q : cell_place x c j / tile_length x j ≡ tile_place x t j = sym (tile_place_box_tile_of x ok c j h) ∙ ap (λ (a : ℕ). tile_place x a j) own in
        let e : tile_place x t j * tile_length x j ≡ cell_place x c j / tile_length x j * tile_length x j =
        ap (λ (a : ℕ). a * tile_length x j) (sym q) in
        let d = div-add-mod' (cell_place x c j) (tile_length x j) in
        let m = mod-lt (cell_place x c j) (ok.tiled j h) in
        (omega (arith, e, d), omega (arith, e, d, m))

    -- the first cells of both tiles
    firsts : (j : ℕ) → j < x.dimensions → tile_place x u j * tile_length x j ≡ tile_place x p j * tile_length x j + g j
    firsts j h = ap (λ (a : ℕ). a * tile_length x j) (back j h) ∙ add-mul (tile_place x p j) (s j) (tile_length x j)

    ends : (j : ℕ) → j < x.dimensions → 0 < s j
        → tile_place x u j * tile_length x j + tile_length x j + tile_length x j ≤ length_of x j
    ends j h l = omega (arith, whole j h l, add-mul (tile_place x u j) 2 (tile_length x j))

    quotient : (a b j : ℕ) → j < x.dimensions → a ≡ b + g j → a / tile_length x j ≡ b / tile_length x j + s j
    quotient a b j h e = ap (λ (i : ℕ). i / tile_length x j) e ∙ add-mul-div_right b (s j) (ok.tiled j h)

    -- ---- cell d of tile p, and cell c of tile u, moved
    module _ (v c d : ℕ) (at_u : box_tile_of x c ≡ u) (at_p : box_tile_of x d ≡ p) (m : Moved (cell_place x d) (cell_place x c)) where
      stays : (e : ℕ) → e < x.distances → inside x (λ j. cell_place x c j + component x e j) ≡ inside x (λ j. cell_place x d j + component x e j)
      unfolding inside
      stays e l = every_same _ _ x.dimensions (λ j h. go j h (ℕ_discrete (s j) 0))
        where
          go : (j : ℕ) → j < x.dimensions → Dec (s j ≡ 0)
              → ltb (cell_place x c j + component x e j) (length_of x j) ≡ ltb (cell_place x d j + component x e j) (length_of x j)
          go j h (yes z) =
              let q : s j * tile_length x j ≡ 0 * tile_length x j = ap (λ (a : ℕ). a * tile_length x j) z in
              ap (λ (a : ℕ). ltb (a + component x e j) (length_of x j)) (omega (arith, m j h, q))
          go j h (no z) =
              let o = ends j h (omega arith) in
              let n = ok.near e j l h in
              lt-ltb (cell_place x c j + component x e j) (length_of x j) (omega (arith, (stands u c at_u j h).1))
              ∙ sym (lt-ltb (cell_place x d j + component x e j) (length_of x j) (omega (arith, (stands p d at_p j h).1, firsts j h)))

      lands : (e : ℕ) → every (λ j. eqb ((cell_place x c j + component x e j) / tile_length x j) (tile_place x u j + ahead x v j)) x.spread
          ≡ every (λ j. eqb ((cell_place x d j + component x e j) / tile_length x j) (tile_place x p j + ahead x v j)) x.spread
      lands e = every_same _ _ x.spread (λ j l. go j (omega (arith, ok.spread_low)))
        where
          go : (j : ℕ) → j < x.dimensions → eqb ((cell_place x c j + component x e j) / tile_length x j) (tile_place x u j + ahead x v j)
              ≡ eqb ((cell_place x d j + component x e j) / tile_length x j) (tile_place x p j + ahead x v j)
          go j h =
              eqb_moved _ _ _ _ (s j)
              (quotient (cell_place x c j + component x e j) (cell_place x d j + component x e j) j h (omega (arith, m j h)))
              (omega (arith, back j h))

      reaches_moved : (e : ℕ) → e < x.distances → reaches x u v c e ≡ reaches x p v d e
      unfolding reaches
      reaches_moved e l = rw (stays e l, lands e)

      within_c : (e : ℕ) → reaches x u v c e ≡ true → (j : ℕ) → j < x.dimensions → cell_place x c j + component x e j < length_of x j
      unfolding reaches inside
      within_c e t j h = ltb-true _ _ (every_at _ x.dimensions (both t).0 j h)

      within_d : (e : ℕ) → reaches x p v d e ≡ true → (j : ℕ) → j < x.dimensions → cell_place x d j + component x e j < length_of x j
      unfolding reaches inside
      within_d e t j h = ltb-true _ _ (every_at _ x.dimensions (both t).0 j h)

      lands_in : (e : ℕ) → e < x.distances → reaches x u v c e ≡ true
          → in_shape x (cell_at x (λ j. cell_place x c j + component x e j)) ≡ in_shape x (cell_at x (λ j. cell_place x d j + component x e j))
      lands_in e l t =
          shape_at x ok (λ j. cell_place x c j + component x e j) (within_c e t)
          ∙ place_moved (λ j. cell_place x d j + component x e j) (λ j. cell_place x c j + component x e j) (λ j h. omega (arith, m j h))
          ∙ sym (shape_at x ok (λ j. cell_place x d j + component x e j) (within_d e (sym (reaches_moved e l) ∙ t)))

      shape_moved : (e : ℕ) → e < x.distances → reaches_shape x u v c e ≡ reaches_shape x p v d e
      unfolding reaches_shape
      shape_moved e l =
          same_test
          (λ t. let b = both t in and_true (sym (reaches_moved e l) ∙ b.0) (sym (lands_in e l b.0) ∙ b.1))
          (λ t. let b = both t in let r = reaches_moved e l ∙ b.0 in and_true r (lands_in e l r ∙ b.1))

      cell_moved : in_shape x c ≡ in_shape x d
      cell_moved = shape_cell x ok c ∙ place_moved (cell_place x d) (cell_place x c) m ∙ sym (shape_cell x ok d)

      test_moved : (in_shape x c and eqb (box_tile_of x c) u and some (reaches_shape x u v c) x.distances)
          ≡ (in_shape x d and eqb (box_tile_of x d) p and some (reaches_shape x p v d) x.distances)
      test_moved =
          rw (
            cell_moved,
            eq-eqb (box_tile_of x c) u at_u,
            eq-eqb (box_tile_of x d) p at_p,
            some_same (reaches_shape x u v c) (reaches_shape x p v d) x.distances shape_moved,
          )

    far : ℕ
    far = cell_at x g

    -- a cell of u, and the cell of p that is moved to it
    module _ (c : ℕ) (lc : c < cells x) (own : box_tile_of x c ≡ u) where
      i : ℕ → ℕ
      i j = cell_place x c j - g j

      enough : (j : ℕ) → j < x.dimensions → g j ≤ cell_place x c j
      enough j h = omega (arith, (stands u c own j h).0, firsts j h)

      within : (j : ℕ) → j < x.dimensions → i j < length_of x j
      unfolding i
      within j h = omega (arith, cell_place_low x ok c j h)

      moved : Moved (cell_place x (cell_at x i)) (cell_place x c)
      unfolding i
      moved j h = omega (arith, cell_place_cell_at x ok i within j h, enough j h)

      number : cell_at x i + far ≡ c
      unfolding i far cell_at
      number = sym (rank_add (length_of x) i g x.dimensions)
          ∙ rank_same (length_of x) (λ j. i j + g j) (cell_place x c) x.dimensions (λ j h. omega (arith, enough j h))
          ∙ cell_at_cell_place x ok c lc

      home : box_tile_of x (cell_at x i) ≡ p
      unfolding box_tile_of tile_at
      home =
          rank_same (tile_count x) (λ j. cell_place x (cell_at x i) j / tile_length x j) (tile_place x p) x.dimensions
          (λ j h. omega (
            arith,
            quotient (cell_place x c j) (cell_place x (cell_at x i) j) j h (moved j h),
            back j h,
            sym (tile_place_box_tile_of x ok c j h) ∙ ap (λ (a : ℕ). tile_place x a j) own,
          ))
          ∙ tile_at_tile_place x ok p lp

    -- a cell of p, and the cell of u that it is moved to
    module _ (d : ℕ) (ld : d < cells x) (own : box_tile_of x d ≡ p) where
      k : ℕ → ℕ
      k j = cell_place x d j + g j

      reach : (j : ℕ) → j < x.dimensions → k j < length_of x j
      unfolding k
      reach j h = go (ℕ_discrete (s j) 0)
        where
          go : Dec (s j ≡ 0) → cell_place x d j + g j < length_of x j
          go (yes z) =
              let q : s j * tile_length x j ≡ 0 * tile_length x j = ap (λ (a : ℕ). a * tile_length x j) z in
              omega (arith, q, cell_place_low x ok d j h)
          go (no z) = omega (arith, ends j h (omega arith), firsts j h, (stands p d own j h).1)

      moved_on : Moved (cell_place x d) (cell_place x (cell_at x k))
      unfolding k
      moved_on j h = cell_place_cell_at x ok k reach j h

      number_on : cell_at x k ≡ d + far
      unfolding k far cell_at
      number_on = rank_add (length_of x) (cell_place x d) g x.dimensions ∙ ap (λ (a : ℕ). a + cell_at x g) (cell_at_cell_place x ok d ld)

      home_on : box_tile_of x (cell_at x k) ≡ u
      unfolding box_tile_of tile_at
      home_on =
          rank_same (tile_count x) (λ j. cell_place x (cell_at x k) j / tile_length x j) (tile_place x u) x.dimensions
          (λ j h. omega (
            arith,
            quotient (cell_place x (cell_at x k) j) (cell_place x d j) j h (moved_on j h),
            back j h,
            sym (tile_place_box_tile_of x ok d j h) ∙ ap (λ (a : ℕ). tile_place x a j) own,
          ))
          ∙ tile_at_tile_place x ok u lu

    pub moved_parcel : (v : ℕ) → length (shaped_parcel x u v) ≡ length (shaped_parcel x p v)
    unfolding shaped_parcel
    moved_parcel v = keep_moved _ _ (cells x) far down up
      where
        down : (c : ℕ) → c < cells x → (in_shape x c and eqb (box_tile_of x c) u and some (reaches_shape x u v c) x.distances) ≡ true
            → (far ≤ c) × ((in_shape x (c - far) and eqb (box_tile_of x (c - far)) p and some (reaches_shape x p v (c - far)) x.distances) ≡ true)
        down c l t =
            let own = eqb-true (box_tile_of x c) u (both (both t).1).0 in
            let z : cell_at x (i c l own) ≡ c - far = omega (arith, number c l own) in (
              omega (arith, number c l own),
              rw z at (sym (test_moved v c (cell_at x (i c l own)) own (home c l own) (moved c l own)) ∙ t),
            )

        up : (d : ℕ) → d < cells x → (in_shape x d and eqb (box_tile_of x d) p and some (reaches_shape x p v d) x.distances) ≡ true
            → (d + far < cells x) × ((in_shape x (d + far) and eqb (box_tile_of x (d + far)) u and some (reaches_shape x u v (d + far)) x.distances) ≡ true)
        up d l t =
            let own = eqb-true (box_tile_of x d) p (both (both t).1).0 in
            let z : cell_at x (k d l own) ≡ d + far = number_on d l own in (
              omega (arith, z, cell_at_low x ok (k d l own) (reach d l own)),
              rw z at (test_moved v (cell_at x (k d l own)) d (home_on d l own) own (moved_on d l own) ∙ t),
            )

-- ---- steps

pub short_none : Short (four 0)
short_none j = omega (arith, zeros j)

pub short_set : (l : List ℕ) (i v : ℕ) → i < length l → Short l → v ≤ 1 → Short (set l i v)
short_set l i v h f k j = go (ℕ_discrete j i)
  where
    go : Dec (j ≡ i) → get_or (set l i v) j 0 ≤ 1
    go (yes e) = let q : get_or (set l i v) i 0 ≡ v = get_or-set_same l i v 0 h in rw e (omega (arith, q))
    go (no n) = omega (arith, get_or-set_other l i j v 0 n, f j)

pub short_pair : (i v j : ℕ) → i < 4 → j < i → v ≤ 1 → Short (set (set (four 0) i v) j 1)
short_pair i v j h k l =
    short_set (set (four 0) i v) j 1 (omega (arith, length-set (four 0) i v, length-replicate {A = ℕ} 4 0))
    (short_set (four 0) i v (omega (arith, length-replicate {A = ℕ} 4 0)) short_none l) (omega arith)

pub behind_more : (at steps tiling lengths : List ℕ) (j : ℕ)
    → ((i : ℕ) → i < j → Behind (get_or at i 0) (get_or steps i 0) (get_or tiling i 0) (get_or lengths i 0))
    → Behind (get_or at j 0) (get_or steps j 0) (get_or tiling j 0) (get_or lengths j 0)
    → (i : ℕ) → i < j + 1 → Behind (get_or at i 0) (get_or steps i 0) (get_or tiling i 0) (get_or lengths i 0)
behind_more at steps tiling lengths j f h i l = go (eq-or-lt_of_le (below i l))
  where
    below : (i : ℕ) → i < j + 1 → i ≤ j
    below i l = omega arith

    go : (i ≡ j) ⊎ (i < j) → Behind (get_or at i 0) (get_or steps i 0) (get_or tiling i 0) (get_or lengths i 0)
    go (inl q) = rw q h
    go (inr q) = f i q

module _ (x : Nest) (ok : Accepted x) where
  steps_few : (steps : List ℕ) → Short steps → (j : ℕ) → cells_in x steps j ≤ 1024
  steps_few steps f j = omega (arith, mul-le-mul_right (tile_length x j) (f j), ok.tile_most j)

  -- the dimensions of a bound, and its numbers
  pub bound_in : (k : ℕ) → k < x.bounds → (bounded x k < 4) × (earlier x k < 4)
  bound_in k h = (omega (arith, ok.bounded_low k h, ok.dimensions_most), omega (arith, ok.bounded_low k h, ok.earlier_low k h, ok.dimensions_most))

  pub along_few : (steps : List ℕ) → Short steps → (k : ℕ) → (cells_in x steps (earlier x k) ≤ 1024)
      × ((cells_in x steps (bounded x k) ≤ 1024) × (slope x k * cells_in x steps (earlier x k) ≤ 2048))
  along_few steps f k = (
    steps_few steps f (earlier x k),
    (
      steps_few steps f (bounded x k),
      omega (
        arith,
        mul-le-mul {n₁ = slope x k} {m₁ = cells_in x steps (earlier x k)} {n₂ = 2} {m₂ = 1024} (ok.slope_most k) (steps_few steps f (earlier x k)),
      ),
    ),
  )

  module _ (across steps : List ℕ) (has : (j : ℕ) → j < x.dimensions → get_or across j 0 ≡ tile_count x j) (short : Short steps) where
    pub steps_ranked : Ranked across steps x.dimensions
    steps_ranked =
        tile_ranked x ok across (record { each = has }) steps (nth steps) (record { each = λ j h. refl })
        (λ j h. omega (arith, short j, tile_count_pos x ok j h))

    pub moves_by : Kept x steps → (far : ℕ) → far ≡ rank (nth across) (nth steps) x.dimensions → Moves x steps far
    moves_by k far e =
        record {
          few = omega (arith, rank_few across steps x.dimensions steps_ranked);
          short = short;
          kept = k;
          is = e ∙ tile_rank x ok across (record { each = has }) steps (nth steps) (record { each = λ j h. refl });
        }

  pub moves_of : (o : Option Move) (by : Move) → o ≡ Some by → IfSome o (λ m. Moves x m.steps m.far) → Moves x by.steps by.far
  moves_of None by e h = absurd cc
  moves_of (Some m) by e h = let q : m ≡ by = cc in rw q at h

  -- ---- places along the last dimension

  pub moved_none : (at steps : List ℕ) → MovedIn x at steps (record { from = 0; to = 0 })
  moved_none at steps =
      record {
        few = (omega arith, omega arith);
        before = λ a h l. absurd (omega arith);
        here = λ a h l. absurd (omega arith);
      }

  module _ (at steps : List ℕ) (short : Short steps)
      (before : (j : ℕ) → j < last x → Behind (get_or at j 0) (get_or steps j 0) (tile_length x j) (length_of x j)) where
    pub moved_straight : (n : ℕ) → n ≡ tile_count x (last x) → get_or steps (last x) 0 ≡ 0 → MovedIn x at steps (record { from = 0; to = n })
    moved_straight n e z =
        record {
          few = (omega arith, omega (arith, count_most x ok (last x) (inner x ok)));
          before = λ a h l. before;
          here = λ a h l. (omega arith, (omega arith, λ p. absurd (omega arith)));
        }

    pub moved_aslant : (r : Interval) (k n : ℕ) → k ≡ tile_length x (last x) → n ≡ length_of x (last x)
        → PlacesIn (record { from = 0; to = n }) k n 0 r → MovedIn x at steps r
    moved_aslant r k n e q f =
        record {
          few = f.few;
          before = λ a h l. before;
          here = λ a h l.
              let w : (a + 2) * tile_length x (last x) ≤ length_of x (last x) = rw (e, q) at (f.each a h l).1.1.1 in
              (whole_low x ok (last x) (inner x ok) a w, (omega (arith, short (last x), (f.each a h l).0), λ p. w));
        }

  -- ---- the tile a move before

  module _ (u p : ℕ) (s : ℕ → ℕ) (l : u < box_tiles x) (f : (j : ℕ) → j < x.dimensions → s j ≤ tile_place x u j) where
    rest : tile_at x (λ j. tile_place x u j - s j) + tile_at x s ≡ u
    unfolding tile_at
    rest =
        sym (rank_add (tile_count x) (λ j. tile_place x u j - s j) s x.dimensions)
        ∙ rank_same (tile_count x) (λ j. tile_place x u j - s j + s j) (tile_place x u) x.dimensions (λ j h. omega (arith, f j h))
        ∙ tile_at_tile_place x ok u l

    place_back : p + tile_at x s ≡ u → (j : ℕ) → j < x.dimensions → tile_place x u j ≡ tile_place x p j + s j
    place_back e j h =
        let z : tile_at x (λ j. tile_place x u j - s j) ≡ p = omega (arith, rest) in
        let q : tile_place x p j ≡ tile_place x u j - s j = ap (λ (t : ℕ). tile_place x t j) (sym z)
        ∙ tile_place_tile_at x ok (λ j. tile_place x u j - s j) (λ j h. omega (arith, tile_place_low x ok u j h)) j h in
        omega (arith, f j h, q)

  -- the row of tile u: its tiles at the places found
  module _ (u : ℕ) (at steps : List ℕ) (here : Has at (tile_place x u) x.dimensions) (far : ℕ) (moves : Moves x steps far)
      (r : Interval) (found : MovedIn x at steps r) (first : ℕ) (begins : first ≡ u - get_or at (last x) 0) where
    module _ (t p : ℕ) (later : p < t) (h : t < tiles x) (from : first + r.from ≤ box_tile x t) (to : box_tile x t < first + r.to)
        (so_far : box_tile x p + far ≡ box_tile x t) where
      abbrev a : ℕ
      a = box_tile x t - first

      own : box_tile x t ≡ first + a
      own = omega arith

      low : a < tile_count x (last x)
      low = (found.here a (omega arith) (omega arith)).0

      behind : (j : ℕ) → j < x.dimensions → Behind (tile_place x (box_tile x t) j) (get_or steps j 0) (tile_length x j) (length_of x j)
      behind j l = go (ℕ_discrete j (last x))
        where
          go : Dec (j ≡ last x) → Behind (tile_place x (box_tile x t) j) (get_or steps j 0) (tile_length x j) (length_of x j)
          go (yes e) =
              rw (e, at_last x ok u at here first begins (box_tile x t) a own low) (found.here a (omega arith) (omega arith)).1
          go (no n) =
              rw (at_before x ok u at here first begins (box_tile x t) a own low j (omega arith))
              (found.before a (omega arith) (omega arith) j (omega arith))

      line_like : Like x t p
      line_like =
          record {
            later = later;
            same = λ i l.
                slot_length x ok t i (box_tile x t) h l refl
                ∙ ap (pick (eqb (hops x (i + 1)) 0) 0) (moved_parcel x ok (nth steps) moves.kept (box_tile x t) (box_tile x p)
                (box_tile_low x t h) (box_tile_low x p (omega arith))
                (place_back (box_tile x t) (box_tile x p) (nth steps) (box_tile_low x t h) (λ j k. (behind j k).0)
                (ap (λ (b : ℕ). box_tile x p + b) (sym moves.is) ∙ so_far))
                (λ j k. (behind j k).1) (i + 1))
                ∙ sym (slot_length x ok p i (box_tile x p) (omega arith) l refl);
          }

    pub moved_line : Lined x far (first + r.from) (first + r.to)
    moved_line = record { few = moves.few; each = line_like }
