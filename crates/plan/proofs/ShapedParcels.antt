-- Laws of a message's cells and of its taker in a shape, where tile u plus v may be empty; u is a number of the box.
use Prim.Native.Nat.{ℕ, ◌+◌, ◌/◌, ◌≤◌, ◌<◌}
use mathlib.Core.Path.{◌≡◌, sym, ap, ◌∙◌}
use mathlib.Core.Bool.{true}
use native.Mathlib.Decide.{dec_lt}
use native.Mathlib.Omega.{arith}
use lib.Dec.{eqb}
use borrow.Author.Tests.{eqb-true, eq-eqb, ltb-true, lt-ltb, leb-true, le-leb}
use Rattle.base.specs.Tests.{◌and◌, some}
use Rattle.base.specs.Lists.{In, Rising}
use Rattle.base.proofs.Tests.{both, and_true, every_at, every_all, some_at, some_one}
use Rattle.base.proofs.Select.{keep_in, in_keep, keep_rising}
use Rattle.nest.specs.declared.Nest.{Nest}
use Rattle.nest.specs.Accepted.{Accepted}
use Rattle.nest.specs.Nest.{tile_length, component, cells, box_tiles}
use Rattle.nest.specs.Places.{cell_at, cell_place, tile_place, box_tile_of}
use Rattle.nest.specs.Shape.{in_shape, tiles}
use Rattle.plan.specs.Geometry.{inside}
use Rattle.plan.specs.Messages.{directions, ahead, reaches, taker}
use Rattle.plan.specs.Shaped.{box_tile, tile_of, reaches_shape, shaped_parcel, follows, shaped_taker}
use Rattle.nest.proofs.Rank.{div_le}
use Rattle.plan.proofs.Tiles.{cell_at_low, cell_place_cell_at, tile_at_le, tile_at_tile_place, box_tile_of_low, tile_place_box_tile_of}
use Rattle.plan.proofs.Parcels.{Held, ahead_beyond, taker_after}
use Rattle.plan.proofs.ShapedTiles.{first_kept, number_lt, tile_of_low, box_tile_tile_of}

-- where distance e puts cell c
abbrev pub moved : Nest → ℕ → ℕ → ℕ → ℕ
moved x c e j = cell_place x c j + component x e j

-- what it means that cell c is in the set of tile u and direction v: it is in the box's, and both cells are in the shape
pub record Crossed (x : Nest) (u v c e : ℕ) : Type 0 where
  pub held : Held x u v c e
  pub here : in_shape x c ≡ true
  pub lands : in_shape x (cell_at x (moved x c e)) ≡ true

module _ (x : Nest) where
  pub parcel_crossed : (u v c : ℕ) → In c (shaped_parcel x u v) → (e : ℕ) × Crossed x u v c e
  unfolding shaped_parcel reaches_shape reaches inside
  parcel_crossed u v c h =
      let r = keep_in (λ c. in_shape x c and eqb (box_tile_of x c) u and some (reaches_shape x u v c) x.distances) (cells x) c h in
      let b = both r.1 in
      let g = both b.1 in
      let s = some_at (reaches_shape x u v c) x.distances g.1 in
      let d = both s.2 in
      let k = both d.0 in (
        s.0,
        record {
          held = record {
            cell = r.0;
            own = eqb-true _ _ g.0;
            distance = s.1;
            stays = λ j l. ltb-true _ _ (every_at _ x.dimensions k.0 j l);
            steps = λ j l. eqb-true _ _ (every_at _ x.spread k.1 j l);
          };
          here = b.0;
          lands = d.1;
        },
      )

  pub crossed_parcel : (u v c e : ℕ) → Crossed x u v c e → In c (shaped_parcel x u v)
  unfolding shaped_parcel reaches_shape reaches inside
  crossed_parcel u v c e h =
      in_keep (λ c. in_shape x c and eqb (box_tile_of x c) u and some (reaches_shape x u v c) x.distances) (cells x) c h.held.cell
      (and_true h.here (and_true (eq-eqb _ _ h.held.own)
      (some_one (reaches_shape x u v c) x.distances e h.held.distance
      (and_true (and_true (every_all _ x.dimensions (λ j l. lt-ltb _ _ (h.held.stays j l)))
      (every_all _ x.spread (λ j l. eq-eqb _ _ (h.held.steps j l)))) h.lands))))

  pub shaped_parcel_rising : (u v : ℕ) → Rising (shaped_parcel x u v)
  unfolding shaped_parcel
  shaped_parcel_rising u v = keep_rising _ (cells x)

  -- ---- the taker: the reader's tile exists and follows, so the first that follows is there, and not after it
  module _ (ok : Accepted x) (u v c e : ℕ) (h : Crossed x u v c e) where
    abbrev pub reader : ℕ
    reader = cell_at x (moved x c e)

    pub reader_low : reader < cells x
    reader_low = cell_at_low x ok (moved x c e) h.held.stays

    reader_place : (j : ℕ) → j < x.dimensions → tile_place x (box_tile_of x reader) j ≡ moved x c e j / tile_length x j
    reader_place j l =
        tile_place_box_tile_of x ok reader j l ∙ ap (λ (i : ℕ). i / tile_length x j) (cell_place_cell_at x ok (moved x c e) h.held.stays j l)

    own_place : (j : ℕ) → j < x.dimensions → tile_place x u j ≡ cell_place x c j / tile_length x j
    own_place j l = ap (λ (w : ℕ). tile_place x w j) (sym h.held.own) ∙ tile_place_box_tile_of x ok c j l

    pub reader_column : (j : ℕ) → j < x.spread → tile_place x (box_tile_of x reader) j ≡ tile_place x u j + ahead x v j
    reader_column j l = reader_place j (omega (arith, ok.spread_low)) ∙ h.held.steps j l

    reader_after : (j : ℕ) → j < x.dimensions → tile_place x u j + ahead x v j ≤ tile_place x (box_tile_of x reader) j
    reader_after j l = go (dec_lt j x.spread)
      where
        go : Dec (j < x.spread) → tile_place x u j + ahead x v j ≤ tile_place x (box_tile_of x reader) j
        go (yes k) = omega (arith, reader_column j k)
        go (no k) =
            omega (
              arith,
              ahead_beyond x v j (omega arith),
              own_place j l,
              reader_place j l,
              div_le (tile_length x j) (cell_place x c j) (moved x c e j) (ok.tiled j l) (omega arith),
            )

    -- u plus v stands at or before the reader's tile
    pub taker_le_reader : taker x u v ≤ box_tile_of x reader
    unfolding taker
    taker_le_reader =
        let b = tile_at_tile_place x ok (box_tile_of x reader) (box_tile_of_low x ok reader) in
        omega (arith, tile_at_le x ok (λ j. tile_place x u j + ahead x v j) (tile_place x (box_tile_of x reader)) reader_after)

    abbrev pub reader_tile : ℕ
    reader_tile = tile_of x reader

    pub reader_tile_low : reader_tile < tiles x
    reader_tile_low = tile_of_low x ok reader reader_low h.lands

    pub reader_tile_box : box_tile x reader_tile ≡ box_tile_of x reader
    reader_tile_box = box_tile_tile_of x ok reader reader_low h.lands

    reader_follows : follows x u v reader_tile ≡ true
    unfolding follows
    reader_follows =
        and_true (le-leb (taker x u v) (box_tile x reader_tile) (rw reader_tile_box taker_le_reader))
        (every_all _ x.spread (λ j l. eq-eqb _ _ (ap (λ (w : ℕ). tile_place x w j) reader_tile_box ∙ reader_column j l)))

    found : (shaped_taker x u v < tiles x) × (follows x u v (shaped_taker x u v) ≡ true) × (shaped_taker x u v ≤ reader_tile)
    unfolding shaped_taker
    found = first_kept (follows x u v) (tiles x) reader_tile reader_tile_low reader_follows

    pub shaped_taker_low : shaped_taker x u v < tiles x
    shaped_taker_low = found.0

    pub shaped_taker_le : shaped_taker x u v ≤ reader_tile
    shaped_taker_le = found.2

    pub shaped_taker_from : taker x u v ≤ box_tile x (shaped_taker x u v)
    unfolding follows
    shaped_taker_from = leb-true _ _ (both found.1).0

    pub shaped_taker_column : (j : ℕ) → j < x.spread → tile_place x (box_tile x (shaped_taker x u v)) j ≡ tile_place x u j + ahead x v j
    unfolding follows
    shaped_taker_column j l = eqb-true _ _ (every_at _ x.spread (both found.1).1 j l)

    -- and no tile that exists follows before it
    pub shaped_taker_first : (w : ℕ) → w < tiles x → taker x u v ≤ box_tile x w
        → ((j : ℕ) → j < x.spread → tile_place x (box_tile x w) j ≡ tile_place x u j + ahead x v j) → shaped_taker x u v ≤ w
    unfolding shaped_taker follows
    shaped_taker_first w l from column =
        (first_kept (follows x u v) (tiles x) w l (and_true (le-leb _ _ from) (every_all _ x.spread (λ j k. eq-eqb _ _ (column j k))))).2

  -- it comes after the tile that sends
  pub shaped_taker_after : (ok : Accepted x) (t v c e : ℕ) → Crossed x (box_tile x t) v c e → t < tiles x → box_tile x t < box_tiles x
      → 1 ≤ v → v ≤ directions x → t < shaped_taker x (box_tile x t) v
  shaped_taker_after ok t v c e h l b p q =
      number_lt x t (shaped_taker x (box_tile x t) v) l (shaped_taker_low ok (box_tile x t) v c e h)
      (omega (arith, taker_after x ok (box_tile x t) v c e h.held b p q, shaped_taker_from ok (box_tile x t) v c e h))
