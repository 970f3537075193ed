-- The ways out of a tile on either route: the slot of each, its cells, its taker and the taker's place, and which way a step is.
use Prim.Native.Nat.{ℕ, ◌+◌, ◌*◌, ◌-◌, ◌%◌, ◌≤◌, ◌<◌}
use mathlib.Core.Path.{◌≡◌, refl, sym, ap, ◌∙◌}
use mathlib.Core.Logic.{◌≢◌, ◌↔◌}
use native.Mathlib.Decide.{dec_lt, ℕ_discrete}
use native.Mathlib.Omega.{arith}
use lib.Dec.{eqb}
use borrow.Author.Tests.{eq-eqb, ne_eqb}
use Rattle.base.specs.Tests.{one}
use Rattle.base.specs.Lists.{In}
use Rattle.base.proofs.Tests.{one_true, one_false}
use Rattle.nest.specs.declared.Nest.{Nest}
use Rattle.nest.specs.Accepted.{Accepted}
use Rattle.nest.specs.Nest.{processor_count, tile_count, box_tiles}
use Rattle.plan.specs.declared.Route.{Route}
use Rattle.plan.specs.declared.Route.TheVariants.{Direct, Indirect}
use Rattle.nest.specs.Places.{tile_at, tile_place, box_tile_of}
use Rattle.plan.specs.Geometry.{processor_of}
use Rattle.plan.specs.Messages.{two, directions, ahead, passed, ways, slots, slot_tile, slot_direction, slot_dimension, slot_cells, slot_taker}
use Rattle.conformance.specs.Exact.{Way, cells_by, taker_by, step_by}
use Rattle.nest.proofs.Rank.{rank_same, rank_place}
use Rattle.plan.proofs.Tiles.{tile_at_tile_place}
use Rattle.plan.proofs.Parcels.{parcel_held, ahead_beyond, before_no, passed_in, slot_direction_pos, slot_direction_low, slot_dimension_low}
use Rattle.plan.proofs.Parcels.{slot_low, slot_tile_lem, slot_parcel_lem, slot_taker_lem, slot_passed, slot_neighbour, taker_place, origin_place}
use Rattle.plan.proofs.Parcels.{neighbour_place}
use Rattle.plan.proofs.Homes.{apart, direct_away, indirect_away}

-- a way's number among those of its tile, from 0; the way of slot s
abbrev pub nth : Route → ℕ → ℕ
nth Direct v = v - 1
nth Indirect q = q

abbrev pub way_of : Route → Nest → ℕ → ℕ
way_of Direct x s = slot_direction x s
way_of Indirect x s = slot_dimension x s

module _ (x : Nest) where
  pub way_of_lem : (r : Route) (s : ℕ) → s < slots r x → Way r x (way_of r x s)
  way_of_lem Direct s h = (slot_direction_pos x s, slot_direction_low x s h)
  way_of_lem Indirect s h = slot_dimension_low x s h

  pub nth_of : (r : Route) (s : ℕ) → nth r (way_of r x s) ≡ s % ways r x
  nth_of Direct s = omega arith
  nth_of Indirect s = refl

  pub nth_low : (r : Route) (w : ℕ) → Way r x w → nth r w < ways r x
  nth_low Direct v h = omega (arith, h.0, h.1)
  nth_low Indirect q h = h

  pub nth_lt : (r : Route) (v w : ℕ) → Way r x v → Way r x w → (nth r v < nth r w) ↔ (v < w)
  nth_lt Direct v w a b = ((λ h. omega (arith, a.0, b.0)), (λ h. omega (arith, a.0, b.0)))
  nth_lt Indirect v w a b = ((λ h. h), (λ h. h))

  pub slot_cells_lem : (r : Route) (s : ℕ) → slot_cells r x s ≡ cells_by r x (slot_tile r x s) (way_of r x s)
  unfolding slot_cells
  slot_cells_lem Direct s = refl
  slot_cells_lem Indirect s = refl

  pub slot_to : (r : Route) (s : ℕ) → slot_taker r x s ≡ taker_by r x (slot_tile r x s) (way_of r x s)
  unfolding slot_taker
  slot_to Direct s = refl
  slot_to Indirect s = refl

  -- the slot of tile t and way w
  pub way_slot : (r : Route) (t w : ℕ) → t < box_tiles x → Way r x w → t * ways r x + nth r w < slots r x
  way_slot r t w lt h = slot_low x r t (nth r w) lt (nth_low r w h)

  pub way_tile : (r : Route) (t w : ℕ) → t < box_tiles x → Way r x w → slot_tile r x (t * ways r x + nth r w) ≡ t
  way_tile r t w lt h = slot_tile_lem x r t (nth r w) lt (nth_low r w h)

  pub way_cells : (r : Route) (t w : ℕ) → t < box_tiles x → Way r x w → slot_cells r x (t * ways r x + nth r w) ≡ cells_by r x t w
  way_cells Direct t v lt h = slot_parcel_lem x t v lt h.0 h.1
  way_cells Indirect t q lt h = slot_passed x t q lt h

  pub way_taker : (r : Route) (t w : ℕ) → t < box_tiles x → Way r x w → slot_taker r x (t * ways r x + nth r w) ≡ taker_by r x t w
  way_taker Direct t v lt h = slot_taker_lem x t v lt h.0 h.1
  way_taker Indirect t q lt h = slot_neighbour x t q lt h

  -- ---- steps

  pub step_beyond : (r : Route) (w j : ℕ) → Way r x w → x.spread ≤ j → step_by r x w j ≡ 0
  step_beyond Direct v j h l = ahead_beyond x v j l
  step_beyond Indirect q j h l = one_false (ne_eqb j q (λ (e : j ≡ q). omega arith))

  -- the step gives the way
  pub step_way : (r : Route) (v w : ℕ) → Way r x v → Way r x w → ((j : ℕ) → j < x.spread → step_by r x v j ≡ step_by r x w j) → v ≡ w
  unfolding ahead directions
  step_way Direct v w a b h =
      sym (rank_place two x.spread v (λ j l. omega arith) (omega (arith, a.0, a.1)))
      ∙ rank_same two (ahead x v) (ahead x w) x.spread h
      ∙ rank_place two x.spread w (λ j l. omega arith) (omega (arith, b.0, b.1))
  step_way Indirect v w a b h = go (ℕ_discrete v w)
    where
      go : Dec (v ≡ w) → v ≡ w
      go (yes e) = e
      go (no e) = absurd (omega (arith, h v a, one_true (eq-eqb v v refl), one_false (ne_eqb v w e)))

module _ (x : Nest) (ok : Accepted x) where
  -- the taker's place
  pub taker_at_lem : (r : Route) (t w c : ℕ) → t < box_tiles x → In c (cells_by r x t w) → (j : ℕ) → j < x.dimensions
      → tile_place x (taker_by r x t w) j ≡ tile_place x t j + step_by r x w j
  taker_at_lem Direct t v c lt i j l = let g = parcel_held x t v c i in taker_place x ok t v c g.0 g.1 j l
  taker_at_lem Indirect t q c lt i j l = let g = passed_in x t q c i in neighbour_place x ok t q c g.0 g.1 lt g.2 j l

  -- with all counts above 1 it is on another processor
  pub taker_apart : ((j : ℕ) → j < x.spread → 2 ≤ processor_count x j) → (r : Route) (t w c : ℕ) → t < box_tiles x → Way r x w
      → In c (cells_by r x t w) → processor_of x t ≢ processor_of x (taker_by r x t w)
  taker_apart more Direct t v c lt h i =
      let g = parcel_held x t v c i in direct_away x ok t v c g.0 g.1 (apart x v more h.0 h.1)
  taker_apart more Indirect t q c lt h i =
      let g = passed_in x t q c i in indirect_away x ok t q c g.0 g.1 lt h g.2 (more q h)

  -- ---- a cell comes to a tile by one way

  -- from dimension q on the tile that passes it on stands where the cell's own tile does
  pub from_own : (t q c j : ℕ) → t < box_tiles x → In c (passed x t q) → q ≤ j → j < x.dimensions
      → tile_place x (box_tile_of x c) j ≡ tile_place x t j
  from_own t q c j lt i h l =
      let g = passed_in x t q c i in
      omega (
        arith,
        ap (λ (u : ℕ). tile_place x u j) g.2.held.own,
        origin_place x ok t q c g.0 g.1 lt g.2 j l,
        before_no x q g.0 j h,
      )

  tile_same : (t u : ℕ) → t < box_tiles x → u < box_tiles x → ((j : ℕ) → j < x.dimensions → tile_place x t j ≡ tile_place x u j) → t ≡ u
  unfolding tile_at
  tile_same t u lt lu h =
      sym (tile_at_tile_place x ok t lt) ∙ rank_same (tile_count x) _ _ x.dimensions h ∙ tile_at_tile_place x ok u lu

  pub one_way : (r : Route) (t v u w c : ℕ) → t < box_tiles x → u < box_tiles x → Way r x v → Way r x w → In c (cells_by r x t v)
      → In c (cells_by r x u w)
      → ((j : ℕ) → j < x.dimensions → tile_place x t j + step_by r x v j ≡ tile_place x u j + step_by r x w j) → (t ≡ u) × (v ≡ w)
  one_way Direct t v u w c lt lu a b i k h =
      let e : t ≡ u = sym (parcel_held x t v c i).1.own ∙ (parcel_held x u w c k).1.own in
      (e, step_way x Direct v w a b (λ j l. omega (arith, h j (omega (arith, ok.spread_low)), ap (λ (y : ℕ). tile_place x y j) e)))
  one_way Indirect t v u w c lt lu a b i k h = go (dec_lt v w) (dec_lt w v)
    where
      low : (j : ℕ) → j < x.spread → j < x.dimensions
      low j l = omega (arith, ok.spread_low)

      -- c's tile in the later of the two dimensions: at the taker by one of them, one before it by the other
      go : Dec (v < w) → Dec (w < v) → (t ≡ u) × (v ≡ w)
      go (yes l) d =
          absurd (omega (
            arith,
            h w (low w b),
            from_own t v c w lt i (omega arith) (low w b),
            from_own u w c w lu k (omega arith) (low w b),
            one_true (eq-eqb w w refl),
            one_false (ne_eqb w v (λ (e : w ≡ v). omega arith)),
          ))
      go (no l) (yes d) =
          absurd (omega (
            arith,
            h v (low v a),
            from_own t v c v lt i (omega arith) (low v a),
            from_own u w c v lu k (omega arith) (low v a),
            one_true (eq-eqb v v refl),
            one_false (ne_eqb v w (λ (e : v ≡ w). omega arith)),
          ))
      go (no l) (no d) =
          let e : v ≡ w = omega arith in
          (tile_same t u lt lu (λ j n. omega (arith, h j n, ap (λ (y : ℕ). one (eqb j y)) e)), e)
