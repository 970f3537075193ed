-- What the messages due at a tile hold is its receive sets; the tile index set is the numbers below `tiles`.
use Prim.Native.Nat.{ℕ, ◌+◌, ◌*◌, ◌-◌, ◌≤◌, ◌<◌}
use mathlib.Core.Path.{◌≡◌, sym, ap, ◌∙◌}
use mathlib.Core.Logic.{◌↔◌}
use native.Mathlib.Decide.{dec_le}
use native.Mathlib.Omega.{arith}
use Rattle.base.specs.Lists.{In}
use Rattle.base.proofs.Select.{those_in, in_those}
use Rattle.machine.specs.Plan.{count, taker_of, held_by, dues_of}
use Rattle.nest.specs.declared.Nest.{Nest}
use Rattle.nest.specs.Accepted.{Accepted}
use Rattle.nest.specs.Nest.{tile_length, tile_count, cells, box_tiles}
use Rattle.nest.specs.Places.{cell_place, tile_at, tile_place}
use Rattle.plan.specs.declared.Route.TheVariants.{Direct}
use Rattle.plan.specs.Messages.{directions, ahead, parcel, taker, box_plan}
use Rattle.plan.specs.Hops.{hops}
use Rattle.conformance.specs.Report.{Tile, ReceiveSet, Joined}
use Rattle.nest.proofs.Rank.{Within, rank_same}
use Rattle.plan.proofs.Tiles.{quotient_low, tile_inside, tile_at_low, tile_place_low, tile_place_tile_at, tile_at_tile_place}
use Rattle.plan.proofs.Slots.{in_full}
use Rattle.plan.proofs.Parcels.{parcel_held, held_parcel, taker_place}
use Rattle.plan.proofs.Box.{quotient_is}
use Rattle.conformance.proofs.Carried.{message, some_held, messages}
use Rattle.plan.proofs.Homes.{direct_away, direct_home}
use Rattle.conformance.proofs.Sets.{Crossing, held_crossing, crossing_held, send_crossing, crossing_send}

pub spread_least : (x : Nest) → Accepted x → x.spread ≤ x.dimensions
spread_least x ok = omega (arith, ok.spread_low)

pub crossing_same : (x : Nest) (t u v : ℕ → ℕ) (e : ℕ) (i : ℕ → ℕ) → x.spread ≤ x.dimensions
    → ((j : ℕ) → j < x.dimensions → t j ≡ u j) → Crossing x t v e i → Crossing x u v e i
crossing_same x t u v e i l h c =
    record { inside = c.inside; moved = c.moved; own = λ j k. c.own j k ∙ h j k; step = λ j k. c.step j k ∙ ap (λ (a : ℕ). a + v j) (h j (omega arith)) }

-- ---- the tile that receives: its sender stands v before it
module _ (x : Nest) (ok : Accepted x) (t v : ℕ) (lt : t < box_tiles x) where
  back : ℕ → ℕ
  back j = tile_place x t j - ahead x v j

  back_within : Within (tile_count x) back x.dimensions
  unfolding back
  back_within j h = omega (arith, tile_place_low x ok t j h)

  -- u + v = t gives the same sets
  module _ (u : ℕ) (lu : u < box_tiles x) (after : (j : ℕ) → j < x.dimensions → tile_place x t j ≡ tile_place x u j + ahead x v j) (c : ℕ) (lc : c < cells x)
    where
      pub held_received : In c (parcel x u v) → Joined x (λ e. ReceiveSet x (tile_place x t) (ahead x v) e (cell_place x c))
      held_received i =
          let h = parcel_held x u v c i in
          let g = held_crossing x ok u v c h.0 h.1 in (
            h.0,
            h.1.distance,
            record {
              exists = λ j l. omega (arith, after j l);
              sent = crossing_send x ok (λ j. tile_place x t j - ahead x v j) (ahead x v) h.0 (cell_place x c) h.1.distance
                  (crossing_same x (tile_place x u) (λ j. tile_place x t j - ahead x v j) (ahead x v) h.0 (cell_place x c) (spread_least x ok)
                  (λ j l. omega (arith, after j l)) g);
            },
          )

      pub received_held : Joined x (λ e. ReceiveSet x (tile_place x t) (ahead x v) e (cell_place x c)) → In c (parcel x u v)
      received_held r =
          held_parcel x u v c r.0 (crossing_held x ok u v c r.0 lu lc r.1
          (crossing_same x (λ j. tile_place x t j - ahead x v j) (tile_place x u) (ahead x v) r.0 (cell_place x c) (spread_least x ok)
          (λ j l. omega (arith, after j l)) (send_crossing x ok (λ j. tile_place x t j - ahead x v j) (ahead x v) r.0 (cell_place x c) r.2.sent)))

  -- the sender, where the set is not empty
  module _ (exists : (j : ℕ) → j < x.dimensions → ahead x v j ≤ tile_place x t j) where
    abbrev u : ℕ
    u = tile_at x back

    u_low : u < box_tiles x
    u_low = tile_at_low x ok back back_within

    u_after : (j : ℕ) → j < x.dimensions → tile_place x t j ≡ tile_place x u j + ahead x v j
    unfolding back
    u_after j h = omega (arith, tile_place_tile_at x ok back back_within j h, exists j h)

    u_taker : taker x u v ≡ t
    unfolding taker tile_at
    u_taker =
        rank_same (tile_count x) (λ j. tile_place x u j + ahead x v j) (tile_place x t) x.dimensions (λ j h. sym (u_after j h)) ∙ tile_at_tile_place x ok t lt

module _ (x : Nest) (ok : Accepted x) where
  pub dues_receive : (t m : ℕ) → t < box_tiles x → In m (dues_of (box_plan Direct x) t)
      → (v : ℕ) × (1 ≤ v) × (v ≤ directions x) × (1 ≤ hops x v)
      × ((c : ℕ) → c < cells x → In c (held_by (box_plan Direct x) m)
      ↔ Joined x (λ e. ReceiveSet x (tile_place x t) (ahead x v) e (cell_place x c)))
  dues_receive t m lt i =
      let d = those_in (taker_of (box_plan Direct x)) t (count (box_plan Direct x)) m i in
      let a = message x ok Direct m d.0 in
      let u = a.0 in
      let v = a.1.0 in
      let k = a.1.1 in
      let f = some_held x ok Direct m d.0 in
      let h = parcel_held x u v f.0 (rw k.holds at f.1) in
      let p : (j : ℕ) → j < x.dimensions → tile_place x t j ≡ tile_place x u j + ahead x v j =
      λ j l. ap (λ (w : ℕ). tile_place x w j) (sym d.1 ∙ k.taker_is) ∙ taker_place x ok u v f.0 h.0 h.1 j l in (
        v,
        k.way.0,
        k.way.1,
        some_hop (hops x v) (λ z. rw (k.sender, k.taker_is) at k.away (direct_home x ok u v f.0 h.0 h.1 z)),
        λ c lc. (
          (λ q. held_received x ok t v lt u k.tile p c lc (rw k.holds at q)),
          (λ q. rw k.holds (received_held x ok t v lt u k.tile p c lc q)),
        ),
      )
    where
      some_hop : (n : ℕ) → (n ≡ 0 → ⊥) → 1 ≤ n
      some_hop n z = go (dec_le 1 n)
        where
          go : Dec (1 ≤ n) → 1 ≤ n
          go (yes h) = h
          go (no h) = absurd (z (omega arith))

  pub received_due : (t v c : ℕ) → t < box_tiles x → 1 ≤ v → v ≤ directions x → 1 ≤ hops x v → c < cells x
      → Joined x (λ e. ReceiveSet x (tile_place x t) (ahead x v) e (cell_place x c))
      → (m : ℕ) × In m (dues_of (box_plan Direct x) t) × In c (held_by (box_plan Direct x) m)
  received_due t v c lt least most far lc r =
      let ex = r.2.exists in
      let w : ℕ = u x ok t v lt ex in
      let lw : w < box_tiles x = u_low x ok t v lt ex in
      let i : In c (parcel x w v) = received_held x ok t v lt w lw (u_after x ok t v lt ex) c lc r in
      let h = parcel_held x w v c i in
      let m = messages x ok Direct w v lw (least, most) (in_full c (parcel x w v) i) (direct_away x ok w v c h.0 h.1 far) in
      let k = m.2 in (
        m.0,
        in_those (taker_of (box_plan Direct x)) t (count (box_plan Direct x)) m.0 m.1 (k.taker_is ∙ u_taker x ok t v lt ex),
        rw k.holds i,
      )

-- ---- the tile index set
module _ (x : Nest) (ok : Accepted x) where
  pub tile_has : (t : ℕ) → t < box_tiles x → (i : ℕ → ℕ) × Tile x (tile_place x t) i
  tile_has t h = (
    (λ j. tile_place x t j * tile_length x j),
    record {
      inside = λ j l. tile_inside x ok (tile_place x t j) j l (tile_place_low x ok t j l);
      least = λ j l. omega arith;
      most = λ j l. omega (arith, ok.tiled j l);
    },
  )

  pub has_tile : (t i : ℕ → ℕ) → Tile x t i → Within (tile_count x) t x.dimensions
  has_tile t i w j h = rw (← quotient_is (tile_length x j) (t j) (i j) (w.least j h) (w.most j h)) (quotient_low x ok (i j) j h (w.inside j h))
