-- Cells, tiles, processors and directions are numbered in lexicographic order; Figure 4 meets the cells of a processor's tiles, tile
-- by tile.
use Prim.Native.Nat.{ℕ, zero, suc, ◌+◌, ◌*◌, ◌-◌, ◌%◌, ◌≤◌, ◌<◌, min, max}
use mathlib.Core.Path.{◌≡◌, refl, sym, ap, ◌∙◌}
use mathlib.Core.Logic.{◌⊎◌, inl, inr, ◌↔◌}
use mathlib.Core.List.{List, [], ◌∷◌, map}
use native.Mathlib.Nat.{eq-or-lt_of_le, le_of_suc-le-suc, mul-le-mul_right, suc-mul, mod-lt}
use native.Mathlib.Decide.{dec_lt}
use native.Mathlib.Omega.{arith}
use lib.Dec.{ltb, eqb}
use borrow.Author.Tests.{lt-ltb, le-ltb}
use Rattle.base.specs.Tests.{product}
use Rattle.base.specs.Lists.{In}
use Rattle.base.proofs.Tests.{pick_true, pick_false}
use Rattle.base.proofs.Select.{keep_in}
use Rattle.machine.specs.Plan.{tiles_of}
use Rattle.nest.specs.declared.Nest.{Nest}
use Rattle.nest.specs.Accepted.{Accepted}
use Rattle.nest.specs.Nest.{length_of, tile_length, processor_count, tile_count, cells, processors, box_tiles}
use Rattle.nest.specs.Places.{rank, place, cell_at, cell_place, tile_at, tile_place}
use Rattle.plan.specs.Geometry.{cells_of}
use Rattle.plan.specs.declared.Route.{Route}
use Rattle.plan.specs.Messages.{two, directions, ahead, box_plan}
use Rattle.plan.specs.Loops.{do_loop, tile_loop, for_each, last_tile, nested, loops}
use Rattle.conformance.specs.Exact.{inner, figure4, Before}
use Rattle.nest.proofs.Rank.{Within, Positive, place_low, rank_low, rank_same, place_rank, rank_place}
use Rattle.plan.proofs.Tiles.{tile_count_pos, tile_at_low, tile_place_tile_at}
use Rattle.plan.proofs.Grid.{map-append}
use Rattle.plan.proofs.Loops.{loop_keep, loops_are_tiles}
use Rattle.conformance.proofs.Nested.{Each, nested_each, tile_in_order}

-- ---- lexicographic order

module _ (N i k : ℕ → ℕ) where
  lex_rank : (l : ℕ) → Within N i l → (q : ℕ) → q < l → ((j : ℕ) → j < q → i j ≡ k j) → i q < k q → rank N i l < rank N k l
  unfolding rank
  lex_rank zero w q h e s = absurd (omega arith)
  lex_rank (suc l) w q h e s = go (λ r. lex_rank l (λ j b. w j (omega arith)) q r e s) (eq-or-lt_of_le (le_of_suc-le-suc h))
    where
      go : (q < l → rank N i l < rank N k l) → (q ≡ l) ⊎ (q < l) → rank N i l * N l + i l < rank N k l * N l + k l
      go ih (inl r) =
          let t : i l < k l = rw (← r) s in
          let z : rank N i l ≡ rank N k l = rank_same N i k l (λ j b. e j (omega arith)) in
          omega (arith, ap (λ (a : ℕ). a * N l) z)
      go ih (inr r) = omega (arith, mul-le-mul_right (N l) (ih r), suc-mul (rank N i l) (N l), w l (omega arith))

  rank_lex : (l : ℕ) → Within N i l → Within N k l → rank N i l < rank N k l
      → (q : ℕ) × (q < l) × ((j : ℕ) → j < q → i j ≡ k j) × (i q < k q)
  unfolding rank
  rank_lex zero w v h = absurd (omega arith)
  rank_lex (suc l) w v h =
      go (rank_lex l (λ j b. w j (omega arith)) (λ j b. v j (omega arith))) (dec_lt (rank N i l) (rank N k l))
      (dec_lt (rank N k l) (rank N i l)) h
    where
      go : (rank N i l < rank N k l → (q : ℕ) × (q < l) × ((j : ℕ) → j < q → i j ≡ k j) × (i q < k q)) → Dec (rank N i l < rank N k l)
          → Dec (rank N k l < rank N i l)
          → rank N i l * N l + i l < rank N k l * N l + k l → (q : ℕ) × (q < suc l) × ((j : ℕ) → j < q → i j ≡ k j) × (i q < k q)
      go ih (yes a) d h = let r = ih a in (r.0, omega (arith, r.1), r.2, r.3)
      go ih (no a) (yes d) h = absurd (omega (arith, mul-le-mul_right (N l) d, suc-mul (rank N k l) (N l), v l (omega arith)))
      go ih (no a) (no d) h =
          let z : rank N i l ≡ rank N k l = omega arith in (
            l,
            omega arith,
            (λ j b. sym (place_rank N i l (λ o c. w o (omega arith)) j b) ∙ ap (λ (c : ℕ). place N l c j) z ∙ place_rank N k l
                (λ o c. v o (omega arith)) j b),
            omega (arith, ap (λ (a : ℕ). a * N l) z),
          )

-- numbers follow each other as their places do
place_order : (N : ℕ → ℕ) (l : ℕ) → Positive N l → (c e : ℕ) → c < product N l → e < product N l
    → (c < e) ↔ Before l (place N l c) (place N l e)
place_order N l pos c e a b =
    let p = rank_place N l c pos a in
    let q = rank_place N l e pos b in
    let w = place_low N l c pos in (
      (λ h. let r = rank_lex N (place N l c) (place N l e) l w (place_low N l e pos) (rw (p, q) h) in
          record { at = r.0; low = r.1; same = r.2; less = r.3 }),
      (λ o. rw (p, q) at (lex_rank N (place N l c) (place N l e) l w o.at o.low o.same o.less)),
    )

module _ (x : Nest) (ok : Accepted x) where
  pub cell_order : (c e : ℕ) → c < cells x → e < cells x → (c < e) ↔ Before x.dimensions (cell_place x c) (cell_place x e)
  unfolding cell_place cells
  cell_order = place_order (length_of x) x.dimensions ok.long

  pub tile_order : (t u : ℕ) → t < box_tiles x → u < box_tiles x → (t < u) ↔ Before x.dimensions (tile_place x t) (tile_place x u)
  unfolding tile_place box_tiles
  tile_order = place_order (tile_count x) x.dimensions (tile_count_pos x ok)

  pub processor_order : (p q : ℕ) → p < processors x → q < processors x
      → (p < q) ↔ Before x.spread (place (processor_count x) x.spread p) (place (processor_count x) x.spread q)
  unfolding processors
  processor_order = place_order (processor_count x) x.spread ok.manned

  pub direction_order : (v w : ℕ) → v ≤ directions x → w ≤ directions x → (v < w) ↔ Before x.spread (ahead x v) (ahead x w)
  unfolding ahead directions
  direction_order v w a b =
      let some = rank_low two (λ j. 0) x.spread (λ j h. omega arith) in
      place_order two x.spread (λ j h. omega arith) v w (omega arith) (omega arith)

-- ---- Figure 4

nested_same : (f g : ℕ → List ℕ) (l : ℕ) → ((j : ℕ) → j < l → f j ≡ g j) → nested f l ≡ nested g l
unfolding nested
nested_same f g zero h = refl
nested_same f g (suc l) h = rw (h l (omega arith), nested_same f g l (λ j k. h j (omega arith)))

do_low : (s b p v : ℕ) → s < p → In v (do_loop s b p) → v < b + 1
do_low s b p v h i = (keep_in (λ t. eqb (t % p) s) (b + 1) v (rw (loop_keep s b p h) at i)).0

module _ (x : Nest) (ok : Accepted x) where
  abbrev pub Tiled : (ℕ → ℕ) → Type 0
  Tiled u = Within (tile_count x) u x.dimensions

  inner_same : (u : ℕ → ℕ) → Tiled u → inner x u ≡ inner x (tile_place x (tile_at x u))
  unfolding inner
  inner_same u w =
      nested_same _ _ x.dimensions
      (λ j h. ap (λ (a : ℕ). do_loop (max 0 (a * tile_length x j)) (min (length_of x j - 1) (a * tile_length x j + tile_length x j - 1)) 1)
      (sym (tile_place_tile_at x ok u w j h)))

  inner_tile : (u : ℕ → ℕ) → Tiled u → map (cell_at x) (inner x u) ≡ cells_of x (tile_at x u)
  inner_tile u w = ap (map (cell_at x)) (inner_same u w) ∙ tile_in_order x ok (tile_at x u) (tile_at_low x ok u w)

  pub inner_tiles : (us : List (ℕ → ℕ)) → Each Tiled us → map (cell_at x) (for_each (inner x) us) ≡ for_each (cells_of x) (map (tile_at x) us)
  unfolding for_each
  inner_tiles [] w = refl
  inner_tiles (u ∷ us) w = rw (map-append (cell_at x) (inner x u) (for_each (inner x) us), inner_tile u w.0, inner_tiles us w.1)

  module _ (p : ℕ → ℕ) where
    loop_spread : (j : ℕ) → j < x.spread → tile_loop x p j ≡ do_loop (p j % processor_count x j) (last_tile x j) (processor_count x j)
    unfolding tile_loop
    loop_spread j h = pick_true (ltb j x.spread) _ _ (lt-ltb j x.spread h)

    loop_rest : (j : ℕ) → x.spread ≤ j → tile_loop x p j ≡ do_loop 0 (last_tile x j) 1
    unfolding tile_loop
    loop_rest j h = pick_false (ltb j x.spread) _ _ (le-ltb j x.spread h)

    loop_low : (j v : ℕ) → In v (tile_loop x p j) → v < tile_count x j
    unfolding tile_count
    loop_low j v i = go (dec_lt j x.spread)
      where
        go : Dec (j < x.spread) → v < last_tile x j + 1
        go (yes h) =
            do_low (p j % processor_count x j) (last_tile x j) (processor_count x j) v (mod-lt (p j) (ok.manned j h))
            (rw (loop_spread j h) at i)
        go (no h) = do_low 0 (last_tile x j) 1 v (omega arith) (rw (loop_rest j (omega arith)) at i)

    loops_tiled : Each Tiled (loops x p x.dimensions)
    unfolding loops
    loops_tiled = nested_each (tile_count x) (tile_loop x p) x.dimensions (λ j v h i. loop_low j v i)

  pub program : (r : Route) (p : ℕ) → p < processors x → map (cell_at x) (figure4 x p) ≡ for_each (cells_of x) (tiles_of (box_plan r x) p)
  unfolding figure4
  program r p h =
      inner_tiles _ (loops_tiled (place (processor_count x) x.spread p)) ∙ ap (for_each (cells_of x)) (loops_are_tiles x ok p r h)
