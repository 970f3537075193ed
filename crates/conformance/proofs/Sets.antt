-- Our messages are the report's send sets joined over the distances, by Definition 3 and by Theorem 1.
use Prim.Native.Nat.{ℕ, suc, ◌+◌, ◌*◌, ◌-◌, ◌/◌, ◌≤◌, ◌<◌}
use mathlib.Core.Path.{◌≡◌, sym, ap, ◌∙◌}
use mathlib.Core.Logic.{◌↔◌}
use native.Mathlib.Nat.{suc-mul, zero-mul, one-mul}
use native.Mathlib.Numerals.{add-one}
use native.Mathlib.Decide.{dec_lt, ℕ_discrete}
use native.Mathlib.Omega.{arith}
use Rattle.base.specs.Lists.{In}
use Rattle.nest.specs.declared.Nest.{Nest}
use Rattle.nest.specs.Accepted.{Accepted}
use Rattle.nest.specs.Nest.{length_of, tile_length, component, cells, box_tiles}
use Rattle.nest.specs.Places.{cell_place, tile_place}
use Rattle.plan.specs.Geometry.{cells_of}
use Rattle.plan.specs.Messages.{ahead, parcel}
use Rattle.conformance.specs.Report.{Tile, SendSet, Theorem1, Joined}
use Rattle.nest.proofs.Rank.{div_step}
use Rattle.plan.proofs.Tiles.{cell_place_low, tile_place_box_tile_of}
use Rattle.plan.proofs.Parcels.{Held, parcel_held, held_parcel, ahead_low, cells_of_in, in_cells_of}
use Rattle.plan.proofs.Box.{quotient_is, quotient_least, quotient_most, box_tile_of_is}

-- what the three descriptions say of the place i: tile t, and in the spread dimensions the step v
pub record Crossing (x : Nest) (t v : ℕ → ℕ) (e : ℕ) (i : ℕ → ℕ) : Type 0 where
  pub inside : (j : ℕ) → j < x.dimensions → i j < length_of x j
  pub moved : (j : ℕ) → j < x.dimensions → i j + component x e j < length_of x j
  pub own : (j : ℕ) → j < x.dimensions → i j / tile_length x j ≡ t j
  pub step : (j : ℕ) → j < x.spread → (i j + component x e j) / tile_length x j ≡ t j + v j

module _ (x : Nest) (ok : Accepted x) where
  low : (j : ℕ) → j < x.spread → j < x.dimensions
  low j h = omega (arith, ok.spread_low)

  module _ (t v : ℕ → ℕ) (e : ℕ) (i : ℕ → ℕ) where
    pub send_crossing : SendSet x t v e i → Crossing x t v e i
    send_crossing s =
        let w = s.write.written in
        let r = s.write.read in
        record {
          inside = w.inside;
          moved = r.inside;
          own = λ j h. quotient_is _ _ _ (w.least j h) (w.most j h);
          step = λ j h. quotient_is _ _ _ (r.least j (low j h)) (r.most j (low j h)) ∙ ap (λ (a : ℕ). t j + a) (s.agrees j h);
        }

    pub crossing_send : e < x.distances → Crossing x t v e i → SendSet x t v e i
    crossing_send l c =
        record {
          b = b;
          binary = λ j h. omega (arith, c.own j h, near j h);
          agrees = λ j h. omega (arith, c.step j h);
          write = record {
            written =
                record { inside = c.inside; least = λ j h. quotient_least _ _ _ (c.own j h); most = λ j h. quotient_most _ _ _ (ok.tiled j h) (c.own j h) };
            read =
                record {
                  inside = c.moved;
                  least = λ j h. quotient_least _ _ _ (ahead_is j h);
                  most = λ j h. quotient_most _ _ _ (ok.tiled j h)
                      (ahead_is j h);
                };
          };
        }
      where
        b : ℕ → ℕ
        b j = (i j + component x e j) / tile_length x j - t j

        near : (j : ℕ) → j < x.dimensions → (i j / tile_length x j ≤ (i j + component x e j) / tile_length x j) ×
            ((i j + component x e j) / tile_length x j ≤ suc (i j / tile_length x j))
        near j h = div_step (tile_length x j) (i j) (component x e j) (ok.tiled j h) (ok.near e j l h)

        ahead_is : (j : ℕ) → j < x.dimensions → (i j + component x e j) / tile_length x j ≡ t j + b j
        ahead_is j h = omega (arith, near j h, c.own j h)

    -- Theorem 1
    pub bounds_crossing : e < x.distances → ((j : ℕ) → j < x.spread → v j ≤ 1) → Theorem1 x t v e i → Crossing x t v e i
    bounds_crossing l bin b =
        record { inside = b.inside; moved = b.moved; own = λ j h. own j h (dec_lt j x.spread); step = λ j h. step j h (ℕ_discrete (v j) 0) }
      where
        own : (j : ℕ) → j < x.dimensions → Dec (j < x.spread) → i j / tile_length x j ≡ t j
        own j h (yes s) = quotient_is _ _ _ (omega (arith, b.least j s)) (omega (arith, b.most j s))
        own j h (no s) = quotient_is _ _ _ (b.least_rest j (omega arith) h) (b.most_rest j (omega arith) h)

        step : (j : ℕ) → j < x.spread → Dec (v j ≡ 0) → (i j + component x e j) / tile_length x j ≡ t j + v j
        step j h (yes z) =
            let m : i j + 1 * component x e j < t j * tile_length x j + tile_length x j = rw z at (b.most j h) in
            rw z (quotient_is _ _ _ (omega (arith, b.least j h)) (omega (arith, one-mul (component x e j))))
        step j h (no z) =
            let o : v j ≡ 1 = omega (arith, bin j h) in
            let m : t j * tile_length x j + 1 * (tile_length x j - component x e j) ≤ i j = rw o at (b.least j h) in
            let d : component x e j ≤ tile_length x j = ok.near e j l (low j h) in
            rw (o, add-one)
            (quotient_is _ (suc (t j)) _ (omega (arith, suc-mul (t j) (tile_length x j), one-mul (tile_length x j - component x e j)))
            (omega (arith, suc-mul (t j) (tile_length x j), b.most j h)))

    pub crossing_bounds : e < x.distances → ((j : ℕ) → j < x.spread → v j ≤ 1) → Crossing x t v e i → Theorem1 x t v e i
    crossing_bounds l bin c =
        record {
          inside = c.inside;
          moved = c.moved;
          least = λ j h. least j h (ℕ_discrete (v j) 0);
          most = λ j h. most j h (ℕ_discrete (v j) 0);
          least_rest = λ j s h. quotient_least _ _ _ (c.own j h);
          most_rest = λ j s h. quotient_most _ _ _ (ok.tiled j h) (c.own j h);
        }
      where
        least : (j : ℕ) → j < x.spread → Dec (v j ≡ 0) → t j * tile_length x j + v j * (tile_length x j - component x e j) ≤ i j
        least j h (yes z) = rw (z, zero-mul) (omega (arith, quotient_least _ _ _ (c.own j (low j h))))
        least j h (no z) =
            let o : v j ≡ 1 = omega (arith, bin j h) in
            let q : (i j + component x e j) / tile_length x j ≡ suc (t j) = c.step j h ∙ rw (o, add-one) in
            rw (o, one-mul) (omega (arith, quotient_least _ _ _ q, suc-mul (t j) (tile_length x j), ok.near e j l (low j h)))

        most : (j : ℕ) → j < x.spread → Dec (v j ≡ 0) → i j + (1 - v j) * component x e j < t j * tile_length x j + tile_length x j
        most j h (yes z) =
            let q : (i j + component x e j) / tile_length x j ≡ t j = omega (arith, c.step j h) in
            rw (z, one-mul) (quotient_most _ _ _ (ok.tiled j (low j h)) q)
        most j h (no z) =
            let o : v j ≡ 1 = omega (arith, bin j h) in
            rw (o, zero-mul) (omega (arith, quotient_most _ _ _ (ok.tiled j (low j h)) (c.own j (low j h))))

  -- ---- our message
  pub held_crossing : (t v c e : ℕ) → Held x t v c e → Crossing x (tile_place x t) (ahead x v) e (cell_place x c)
  held_crossing t v c e h =
      record {
        inside = cell_place_low x ok c;
        moved = h.stays;
        own = λ j l. sym (tile_place_box_tile_of x ok c j l) ∙ ap (λ (u : ℕ). tile_place x u j) h.own;
        step = h.steps;
      }

  pub crossing_held : (t v c e : ℕ) → t < box_tiles x → c < cells x → e < x.distances → Crossing x (tile_place x t) (ahead x v) e (cell_place x c)
      → Held x t v c e
  crossing_held t v c e lt lc le h = record { cell = lc; own = box_tile_of_is x ok c t lt h.own; distance = le; stays = h.moved; steps = h.step }

  module _ (t v c : ℕ) (lt : t < box_tiles x) (lc : c < cells x) where
    -- Definitions 2 and 3, joined over the distances
    pub parcel_is_sent : In c (parcel x t v) ↔ Joined x (λ e. SendSet x (tile_place x t) (ahead x v) e (cell_place x c))
    parcel_is_sent = (
      (λ i. let h = parcel_held x t v c i in (
        h.0,
        h.1.distance,
        crossing_send (tile_place x t) (ahead x v) h.0 (cell_place x c) h.1.distance
            (held_crossing t v c h.0 h.1),
      )),
      (λ s. held_parcel x t v c s.0 (crossing_held t v c s.0 lt lc s.1 (send_crossing (tile_place x t) (ahead x v) s.0 (cell_place x c) s.2))),
    )

    -- Theorem 1
    pub parcel_is_bounded : In c (parcel x t v) ↔ Joined x (λ e. Theorem1 x (tile_place x t) (ahead x v) e (cell_place x c))
    parcel_is_bounded = (
      (λ i. let h = parcel_held x t v c i in (
        h.0,
        h.1.distance,
        crossing_bounds (tile_place x t) (ahead x v) h.0 (cell_place x c) h.1.distance
            (ahead_low x v) (held_crossing t v c h.0 h.1),
      )),
      (λ s. held_parcel x t v c s.0 (crossing_held t v c s.0 lt lc s.1 (bounds_crossing (tile_place x t) (ahead x v) s.0 (cell_place x c) s.1
          (ahead_low x v) s.2))),
    )

  -- the cells of a tile
  pub tile_is_cells : (t c : ℕ) → t < box_tiles x → c < cells x → In c (cells_of x t) ↔ Tile x (tile_place x t) (cell_place x c)
  tile_is_cells t c lt lc = (
    (λ i. let e = (cells_of_in x t c i).1 in
        let own : (j : ℕ) → j < x.dimensions → cell_place x c j / tile_length x j ≡ tile_place x t j = λ j h. sym (tile_place_box_tile_of x ok c j h)
        ∙ ap (λ (u : ℕ). tile_place x u j) e in
        record {
          inside = cell_place_low x ok c;
          least = λ j h. quotient_least _ _ _ (own j h);
          most = λ j h. quotient_most _ _ _ (ok.tiled j h) (own j h);
        }),
    (λ w. in_cells_of x t c lc (box_tile_of_is x ok c t lt (λ j h. quotient_is _ _ _ (w.least j h) (w.most j h)))),
  )
