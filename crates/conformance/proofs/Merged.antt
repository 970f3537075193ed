-- What a tile passes on along a dimension is the report's merged send set, and what comes to it along one its merged receive set.
use Prim.Native.Nat.{ℕ, ◌+◌, ◌-◌, ◌≤◌, ◌<◌}
use mathlib.Core.Path.{◌≡◌, sym, ap, ◌∙◌}
use mathlib.Core.Logic.{◌↔◌}
use native.Mathlib.Decide.{dec_lt, ℕ_discrete}
use native.Mathlib.Omega.{arith}
use lib.Dec.{ltb, eqb}
use borrow.Author.Tests.{eq-eqb, ne_eqb, lt-ltb, le-ltb}
use Rattle.base.specs.Tests.{pick, one}
use Rattle.base.specs.Lists.{In}
use Rattle.base.proofs.Tests.{pick_true, pick_false, one_true, one_false}
use Rattle.base.proofs.Select.{those_in, in_those}
use Rattle.machine.specs.Plan.{count, taker_of, held_by, dues_of}
use Rattle.nest.specs.declared.Nest.{Nest}
use Rattle.nest.specs.Accepted.{Accepted}
use Rattle.nest.specs.Nest.{processor_count, tile_count, cells, box_tiles}
use Rattle.plan.specs.declared.Route.TheVariants.{Indirect}
use Rattle.nest.specs.Places.{rank, cell_place, tile_at, tile_place}
use Rattle.plan.specs.Messages.{two, directions, ahead, before, origin, passed, neighbour, box_plan}
use Rattle.conformance.specs.Report.{after, MergedReceiveSet, MergedSendSet, Joined}
use Rattle.nest.proofs.Rank.{Within, rank_low, rank_same}
use Rattle.plan.proofs.Tiles.{tile_at_low, tile_place_low, tile_place_tile_at, tile_at_tile_place}
use Rattle.plan.proofs.Slots.{in_full}
use Rattle.plan.proofs.Parcels.{ahead_rank, ahead_low, ahead_beyond, Passed, passed_in, in_passed, origin_place, neighbour_place}
use Rattle.plan.proofs.Homes.{indirect_away, indirect_home}
use Rattle.conformance.proofs.Carried.{message, some_held, messages}
use Rattle.conformance.proofs.Sets.{Crossing, held_crossing, crossing_held, send_crossing, crossing_send}
use Rattle.conformance.proofs.Dues.{spread_least, crossing_same}

-- where the merged set's tile stands, less v: tile t less v's components before q
less : (b : ℕ → ℕ) (t q j : ℕ) → (j ≡ q → b j ≡ 1) → t + one (eqb j q) + after b q j - b j ≡ t - pick (ltb j q) (b j) 0
less b t q j e = go (dec_lt j q) (ℕ_discrete j q)
  where
    go : Dec (j < q) → Dec (j ≡ q) → t + one (eqb j q) + after b q j - b j ≡ t - pick (ltb j q) (b j) 0
    go (yes l) d = omega (
      arith,
      one_false (ne_eqb j q (λ (z : j ≡ q). omega arith)),
      pick_false (ltb q j) (b j) 0 (le-ltb q j (omega arith)),
      pick_true (ltb j q) (b j) 0 (lt-ltb j q l),
    )
    go (no l) (yes d) = omega (
      arith,
      one_true (eq-eqb j q d),
      pick_false (ltb q j) (b j) 0 (le-ltb q j (omega arith)),
      pick_false (ltb j q) (b j) 0 (le-ltb j q (omega arith)),
      e d,
    )
    go (no l) (no d) = omega (
      arith,
      one_false (ne_eqb j q d),
      pick_true (ltb q j) (b j) 0 (lt-ltb q j (omega arith)),
      pick_false (ltb j q) (b j) 0 (le-ltb j q (omega arith)),
    )

-- and it is a tile just where that one is
room : (b : ℕ → ℕ) (t q j : ℕ) → (j ≡ q → b j ≡ 1) → pick (ltb j q) (b j) 0 ≤ t → b j ≤ t + one (eqb j q) + after b q j
room b t q j e h = go (dec_lt j q) (ℕ_discrete j q)
  where
    go : Dec (j < q) → Dec (j ≡ q) → b j ≤ t + one (eqb j q) + after b q j
    go (yes l) d = omega (arith, pick_true (ltb j q) (b j) 0 (lt-ltb j q l))
    go (no l) (yes d) = omega (arith, one_true (eq-eqb j q d), e d)
    go (no l) (no d) = omega (arith, pick_true (ltb q j) (b j) 0 (lt-ltb q j (omega arith)))

room_back : (b : ℕ → ℕ) (t q j : ℕ) → b j ≤ t + one (eqb j q) + after b q j → pick (ltb j q) (b j) 0 ≤ t
room_back b t q j h = go (dec_lt j q)
  where
    go : Dec (j < q) → pick (ltb j q) (b j) 0 ≤ t
    go (yes l) = omega (
      arith,
      one_false (ne_eqb j q (λ (z : j ≡ q). omega arith)),
      pick_false (ltb q j) (b j) 0 (le-ltb q j (omega arith)),
      pick_true (ltb j q) (b j) 0 (lt-ltb j q l),
    )
    go (no l) = omega (arith, pick_false (ltb j q) (b j) 0 (le-ltb j q (omega arith)))

module _ (x : Nest) (ok : Accepted x) where
  -- ---- the merged set of another name of the same tile
  merged_same : (t u : ℕ → ℕ) (q e : ℕ) (i : ℕ → ℕ) → e < x.distances → ((j : ℕ) → j < x.dimensions → t j ≡ u j)
      → MergedReceiveSet x t q e i → MergedReceiveSet x u q e i
  merged_same t u q e i l h m =
      record {
        v = m.v;
        vector = m.vector;
        binary = m.binary;
        along = m.along;
        received = record {
          exists = λ j k. omega (arith, h j k, m.received.exists j k);
          sent = crossing_send x ok (λ j. u j + after m.v q j - m.v j) m.v e i l
              (crossing_same x (λ j. t j + after m.v q j - m.v j) (λ j. u j + after m.v q j - m.v j) m.v e i (spread_least x ok)
              (λ j k. ap (λ (a : ℕ). a + after m.v q j - m.v j) (h j k))
              (send_crossing x ok (λ j. t j + after m.v q j - m.v j) m.v e i m.received.sent));
        };
      }

  module _ (t q c : ℕ) (lt : t < box_tiles x) (lq : q < x.spread) (lc : c < cells x) where
    at : ℕ → (ℕ → ℕ) → ℕ → ℕ
    at u b j = tile_place x u j + one (eqb j q) + after b q j - b j

    passed_merged : (v e : ℕ) → Passed x t q c v e → MergedSendSet x (tile_place x t) q e (cell_place x c)
    unfolding at before
    passed_merged v e p =
        let b = ahead x v in
        let one_at : (j : ℕ) → j ≡ q → ahead x v j ≡ 1 = λ j d. ap (ahead x v) d ∙ p.turns in
        record {
          v = ahead x v;
          vector = ahead_beyond x v;
          binary = ahead_low x v;
          along = p.turns;
          received = record {
            exists = λ j l. room (ahead x v) (tile_place x t j) q j (one_at j) (p.exists j l);
            sent = crossing_send x ok (λ j. tile_place x t j + one (eqb j q) + after (ahead x v) q j - ahead x v j) (ahead x v) e
                (cell_place x c) p.held.distance
                (crossing_same x (tile_place x (origin x t q v))
                (λ j. tile_place x t j + one (eqb j q) + after (ahead x v) q j - ahead x v j) (ahead x v) e (cell_place x c)
                (spread_least x ok)
                (λ j l. origin_place x ok t q c v e lt p j l ∙ sym (less (ahead x v) (tile_place x t j) q j (one_at j)))
                (held_crossing x ok (origin x t q v) v c e p.held));
          };
        }

    module _ (e : ℕ) (le : e < x.distances) (m : MergedSendSet x (tile_place x t) q e (cell_place x c)) where
      within : Within two m.v x.spread
      within j h = omega (arith, m.binary j h)

      v : ℕ
      v = rank two m.v x.spread

      v_is : (j : ℕ) → ahead x v j ≡ m.v j
      unfolding v
      v_is j = go (dec_lt j x.spread)
        where
          go : Dec (j < x.spread) → ahead x (rank two m.v x.spread) j ≡ m.v j
          go (yes h) = ahead_rank x m.v within j h
          go (no h) = ahead_beyond x (rank two m.v x.spread) j (omega arith) ∙ sym (m.vector j (omega arith))

      v_low : v ≤ directions x
      unfolding v directions
      v_low = omega (arith, rank_low two m.v x.spread within)

      before_is : (j : ℕ) → before x q v j ≡ pick (ltb j q) (m.v j) 0
      unfolding before
      before_is j = ap (λ (a : ℕ). pick (ltb j q) a 0) (v_is j)

      one_at : (j : ℕ) → j ≡ q → m.v j ≡ 1
      one_at j d = ap m.v d ∙ m.along

      exists : (j : ℕ) → j < x.dimensions → before x q v j ≤ tile_place x t j
      exists j l = rw (before_is j) (room_back m.v (tile_place x t j) q j (m.received.exists j l))

      back_within : Within (tile_count x) (λ j. tile_place x t j - before x q v j) x.dimensions
      back_within j h = omega (arith, tile_place_low x ok t j h)

      back_low : origin x t q v < box_tiles x
      unfolding origin
      back_low = tile_at_low x ok _ back_within

      back_place : (j : ℕ) → j < x.dimensions → tile_place x (origin x t q v) j ≡ tile_place x t j - before x q v j
      unfolding origin
      back_place j h = tile_place_tile_at x ok (λ j. tile_place x t j - before x q v j) back_within j h

      crossing : Crossing x (tile_place x (origin x t q v)) (ahead x v) e (cell_place x c)
      crossing =
          let k = send_crossing x ok (λ j. tile_place x t j + one (eqb j q) + after m.v q j - m.v j) m.v e (cell_place x c)
          m.received.sent in
          let place : (j : ℕ) → j < x.dimensions → tile_place x t j + one (eqb j q) + after m.v q j - m.v j
          ≡ tile_place x (origin x t q v) j =
          λ j l. less m.v (tile_place x t j) q j (one_at j)
          ∙ (ap (λ (a : ℕ). tile_place x t j - a) (sym (before_is j)) ∙ sym (back_place j l)) in
          record {
            inside = k.inside;
            moved = k.moved;
            own = λ j l. k.own j l ∙ place j l;
            step = λ j l. let l' : j < x.dimensions = omega (arith, ok.spread_low) in k.step j l ∙ omega (arith, place j l', v_is j);
          }

      merged_passed : Passed x t q c v e
      merged_passed =
          record {
            most = v_low;
            turns = v_is q ∙ m.along;
            exists = exists;
            held = crossing_held x ok (origin x t q v) v c e back_low lc le crossing;
          }

    pub passed_is_merged : In c (passed x t q) ↔ Joined x (λ e. MergedSendSet x (tile_place x t) q e (cell_place x c))
    passed_is_merged = (
      (λ i. let p = passed_in x t q c i in (p.1, p.2.held.distance, passed_merged p.0 p.1 p.2)),
      (λ m. in_passed x t q c (v m.0 m.1 m.2) m.0 (merged_passed m.0 m.1 m.2)),
    )

  -- ---- what is due at a tile

  pub dues_merged : (t m : ℕ) → t < box_tiles x → In m (dues_of (box_plan Indirect x) t)
      → (q : ℕ) × (q < x.spread) × (1 < processor_count x q)
      × ((c : ℕ) → c < cells x → In c (held_by (box_plan Indirect x) m)
      ↔ Joined x (λ e. MergedReceiveSet x (tile_place x t) q e (cell_place x c)))
  dues_merged t m lt i =
      let d = those_in (taker_of (box_plan Indirect x)) t (count (box_plan Indirect x)) m i in
      let a = message x ok Indirect m d.0 in
      let u = a.0 in
      let q = a.1.0 in
      let k = a.1.1 in
      let lu = k.tile in
      let lq = k.way in
      let f = some_held x ok Indirect m d.0 in
      let g = passed_in x u q f.0 (rw k.holds at f.1) in
      let home = indirect_home x ok u q f.0 g.0 g.1 lu lq g.2 in
      let p : (j : ℕ) → j < x.dimensions → tile_place x u j + one (eqb j q) ≡ tile_place x t j =
      λ j l. sym (neighbour_place x ok u q f.0 g.0 g.1 lu g.2 j l)
      ∙ ap (λ (w : ℕ). tile_place x w j) (sym k.taker_is ∙ d.1) in (
        q,
        lq,
        more (processor_count x q) (λ z. rw (k.sender, k.taker_is) at k.away (home z)),
        λ c lc. (
          (λ w. let y = (passed_is_merged u q c lu lq lc).0 (rw k.holds at w) in
              (y.0, y.1, merged_same _ _ q y.0 (cell_place x c) y.1 p y.2)),
          (λ w. rw k.holds ((passed_is_merged u q c lu lq lc).1
              (w.0, w.1, merged_same _ _ q w.0 (cell_place x c) w.1 (λ j l. sym (p j l)) w.2))),
        ),
      )
    where
      more : (n : ℕ) → (n ≤ 1 → ⊥) → 1 < n
      more n z = go (dec_lt 1 n)
        where
          go : Dec (1 < n) → 1 < n
          go (yes h) = h
          go (no h) = absurd (z (omega arith))

  module _ (t q c : ℕ) (lt : t < box_tiles x) (lq : q < x.spread) (lc : c < cells x) (far : 1 < processor_count x q)
      (r : Joined x (λ e. MergedReceiveSet x (tile_place x t) q e (cell_place x c))) where
    -- the tile before t along q
    q_low : q < x.dimensions
    q_low = omega (arith, ok.spread_low)

    prior : ℕ → ℕ
    prior j = tile_place x t j - one (eqb j q)

    prior_within : Within (tile_count x) prior x.dimensions
    unfolding prior
    prior_within j h = omega (arith, tile_place_low x ok t j h)

    u : ℕ
    u = tile_at x prior

    u_low : u < box_tiles x
    unfolding u
    u_low = tile_at_low x ok prior prior_within

    -- it exists: the set has a sender
    first : 1 ≤ tile_place x t q
    first =
        let m = r.2 in
        omega (arith, m.received.exists q q_low, m.along, pick_false (ltb q q) (m.v q) 0 (le-ltb q q (omega arith)))

    u_place : (j : ℕ) → j < x.dimensions → tile_place x u j + one (eqb j q) ≡ tile_place x t j
    unfolding u prior
    u_place j h = go (ℕ_discrete j q)
      where
        go : Dec (j ≡ q) → tile_place x (tile_at x prior) j + one (eqb j q) ≡ tile_place x t j
        go (yes e) = let f : 1 ≤ tile_place x t j = rw e first in
            omega (arith, tile_place_tile_at x ok prior prior_within j h, one_true (eq-eqb j q e))
        go (no e) = omega (arith, tile_place_tile_at x ok prior prior_within j h, one_false (ne_eqb j q e))

    u_taker : neighbour x u q ≡ t
    unfolding neighbour tile_at
    u_taker = rank_same (tile_count x) _ _ x.dimensions u_place ∙ tile_at_tile_place x ok t lt

    pub received_merged : (m : ℕ) × In m (dues_of (box_plan Indirect x) t) × In c (held_by (box_plan Indirect x) m)
    received_merged =
        let there = merged_same _ _ q r.0 (cell_place x c) r.1 (λ j l. sym (u_place j l)) r.2 in
        let i : In c (passed x u q) = (passed_is_merged u q c u_low lq lc).1 (r.0, r.1, there) in
        let g = passed_in x u q c i in
        let m = messages x ok Indirect u q u_low lq (in_full c (passed x u q) i)
        (indirect_away x ok u q c g.0 g.1 u_low lq g.2 far) in
        let k = m.2 in (
          m.0,
          in_those (taker_of (box_plan Indirect x)) t (count (box_plan Indirect x)) m.0 m.1 (k.taker_is ∙ u_taker),
          rw k.holds i,
        )
