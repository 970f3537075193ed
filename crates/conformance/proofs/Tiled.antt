-- The tiled program on one processor, run over any array, leaves the sweep: each tile's reads are its own or an earlier tile's.
use Prim.Native.Nat.{ℕ, zero, suc, ◌*◌, ◌≤◌, ◌<◌, max}
use mathlib.Core.Path.{◌≡◌, refl, sym, ap, ◌∙◌}
use mathlib.Core.Logic.{◌⊎◌, inl, inr}
use mathlib.Core.List.{List, [], ◌∷◌, ◌++◌, map, append-nil}
use native.Mathlib.Nat.{eq-or-lt_of_le, le_of_suc-le-suc}
use native.Mathlib.Omega.{arith}
use lib.ListN.{length, get_or}
use lib.Seq.{ext_get_or}
use Rattle.base.specs.Tests.{tabulate}
use Rattle.base.specs.Lists.{In, store_all}
use Rattle.base.proofs.Lists.{store_length}
use Rattle.base.proofs.Entries.{store_append}
use Rattle.machine.specs.Plan.{Plan, Sound}
use Rattle.machine.specs.Machine.{sweep}
use Rattle.machine.proofs.Values.{stored_right, sweep_fits, sweep_length}
use Rattle.nest.specs.declared.Nest.{Nest}
use Rattle.nest.specs.Accepted.{Accepted}
use Rattle.nest.specs.Nest.{length_of, tile_length, tile_count, cells, box_tiles}
use Rattle.nest.specs.Places.{cell_at, box_tile_of}
use Rattle.plan.specs.Geometry.{cells_of, reads_of, value}
use Rattle.plan.specs.declared.Route.{Route}
use Rattle.plan.specs.declared.Route.TheVariants.{Direct}
use Rattle.plan.specs.Messages.{box_plan}
use Rattle.plan.specs.Loops.{for_each, last_tile}
use Rattle.conformance.specs.Report.{Index}
use Rattle.conformance.specs.Exact.{inner, outer, tiled, run_nest}
use Rattle.plan.proofs.Grid.{for_each_append}
use Rattle.plan.proofs.Parcels.{cells_of_in, in_cells_of, cells_of_rising}
use Rattle.plan.proofs.Tiles.{box_tile_of_low}
use Rattle.plan.proofs.Sound.{box_sound, reads_at, tile_le}
use Rattle.conformance.proofs.Nested.{Each, each_append, nested_each, loop_most, run_stores, tiles_in_order}
use Rattle.conformance.proofs.Program.{Tiled, inner_tiles}

module _ (x : Nest) (ok : Accepted x) where
  -- ---- what its loops meet

  inner_each : (u : ℕ → ℕ) → Each (Index x) (inner x u)
  unfolding inner
  inner_each u =
      nested_each (length_of x) _ x.dimensions (λ j v h i. omega (arith, loop_most (max 0 (u j * tile_length x j)) _ v i, ok.long j h))

  each_inner : (us : List (ℕ → ℕ)) → Each (Index x) (for_each (inner x) us)
  unfolding for_each
  each_inner [] = tt
  each_inner (u ∷ us) = each_append (Index x) (inner x u) _ (inner_each u) (each_inner us)

  each_tiled : Each (Index x) (tiled x)
  unfolding tiled
  each_tiled = each_inner (outer x)

  outer_tiled : Each (Tiled x ok) (outer x)
  unfolding outer tile_count
  outer_tiled = nested_each (tile_count x) _ x.dimensions (λ j v h i. omega (arith, loop_most 0 (last_tile x j) v i))

  abbrev up_to : ℕ → List ℕ
  up_to n = tabulate (λ t. t) n

  tiled_cells : map (cell_at x) (tiled x) ≡ for_each (cells_of x) (up_to (box_tiles x))
  unfolding tiled
  tiled_cells = inner_tiles x ok (outer x) outer_tiled ∙ ap (for_each (cells_of x)) (tiles_in_order x ok)

  -- what a cell reads is in its tile, before it, or in an earlier tile
  read_in : (c r : ℕ) → c < cells x → In r (reads_of x c) → (r < c) × (box_tile_of x r ≤ box_tile_of x c)
  read_in c r h i =
      let a = reads_at x c r i in
      ((box_sound Direct x ok).earlier c r h i, rw a.3 (tile_le x ok c a.0 h a.1 a.2))

  -- ---- storing the tiles one after the other
  module _ (route : Route) (source array : List ℕ) (len : length array ≡ cells x) where
    abbrev p : Plan
    p = box_plan route x

    abbrev so : Sound p
    so = box_sound route x ok

    abbrev w : ℕ → ℕ
    w c = get_or (sweep p source) c 0

    after : ℕ → List ℕ
    after n = store_all (value x source) array (for_each (cells_of x) (up_to n))

    after_length : (n : ℕ) → length (after n) ≡ cells x
    unfolding after
    after_length n = store_length (value x source) _ array ∙ len

    after_next : (n : ℕ) → after (suc n) ≡ store_all (value x source) (after n) (cells_of x n)
    unfolding after tabulate for_each
    after_next n =
        ap (store_all (value x source) array) (for_each_append (cells_of x) (up_to n) (n ∷ []) ∙ ap
        (λ (l : List ℕ). for_each (cells_of x) (up_to n) ++ l) (append-nil (cells_of x n)))
        ∙ store_append (value x source) array (for_each (cells_of x) (up_to n)) (cells_of x n)

    abbrev Earlier : ℕ → ℕ → Type 0
    Earlier n r = (r < cells x) × (box_tile_of x r < n)

    right : (n c : ℕ) → Earlier n c → get_or (after n) c 0 ≡ w c
    right zero c e = absurd (omega (arith, e.1))
    right (suc n) c e =
        rw (after_next n)
        (stored_right p source w (sweep_fits p source (so.local source) so.earlier) (cells_of x n) (Earlier n)
        (λ c r i k. reads c r (cells_of_in x n c i) k) (λ c i. (cells_of_in x n c i).0) (λ c i. refl) (cells_of x n) (after n)
        (cells_of_rising x n) (λ y i. i) (after_length n) (λ y k. right n y k) (λ y i. inl i) c
        (now (right n c) (eq-or-lt_of_le (le_of_suc-le-suc e.1))))
      where
        reads : (c r : ℕ) → (c < cells x) × (box_tile_of x c ≡ n) → In r (reads_of x c) → (In r (cells_of x n) × (r < c)) ⊎ Earlier n r
        reads c r a k = go (eq-or-lt_of_le b.1)
          where
            b : (r < c) × (box_tile_of x r ≤ box_tile_of x c)
            b = read_in c r a.0 k

            go : (box_tile_of x r ≡ box_tile_of x c) ⊎ (box_tile_of x r < box_tile_of x c) → (In r (cells_of x n) × (r < c)) ⊎ Earlier n r
            go (inl e) = inl (in_cells_of x n r (omega (arith, b.0, a.0)) (e ∙ a.1), b.0)
            go (inr l) = inr (omega (arith, b.0, a.0), omega (arith, a.1))

        now : (Earlier n c → get_or (after n) c 0 ≡ w c) → (box_tile_of x c ≡ n) ⊎ (box_tile_of x c < n)
            → (get_or (after n) c 0 ≡ w c) ⊎ In c (cells_of x n)
        now ih (inl q) = inr (in_cells_of x n c e.0 q)
        now ih (inr q) = inl (ih (e.0, q))

    pub tiled_is : run_nest x source array (tiled x) ≡ sweep (box_plan route x) source
    unfolding after
    tiled_is =
        run_stores x ok source (tiled x) array each_tiled
        ∙ ap (store_all (value x source) array) tiled_cells
        ∙ ext_get_or 0 (after (box_tiles x)) (sweep p source)
        (after_length (box_tiles x) ∙ sym (sweep_length p source (so.local source) so.earlier (cells x)))
        (λ c k. let h : c < cells x = rw (after_length (box_tiles x)) at k in right (box_tiles x) c (h, box_tile_of_low x ok c))
