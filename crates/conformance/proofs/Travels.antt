-- The way of a message's cell on the indirect route: one message for each hop, from stop to stop.
use Prim.Native.Nat.{ℕ, suc, ◌+◌, ◌≤◌, ◌<◌}
use mathlib.Core.Path.{◌≡◌, sym, ap, ◌∙◌}
use mathlib.Core.Logic.{◌⊎◌, inl, inr}
use mathlib.Core.Bool.{true}
use native.Mathlib.Decide.{dec_lt, dec_le, ℕ_discrete}
use native.Mathlib.Omega.{arith}
use Rattle.base.specs.Lists.{In}
use Rattle.machine.specs.Plan.{count, sender_of, taker_of, held_by}
use Rattle.nest.specs.declared.Nest.{Nest}
use Rattle.nest.specs.Accepted.{Accepted}
use Rattle.nest.specs.Nest.{processor_count, box_tiles}
use Rattle.plan.specs.declared.Route.TheVariants.{Indirect}
use Rattle.nest.specs.Places.{tile_place}
use Rattle.plan.specs.Geometry.{processor_of}
use Rattle.plan.specs.Messages.{directions, ahead, parcel, taker, before, origin, passes, passed, box_plan}
use Rattle.plan.specs.Hops.{hops_along, stop}
use Rattle.conformance.specs.Travels.{Travels}
use Rattle.plan.proofs.Tiles.{tile_at_le, tile_at_tile_place}
use Rattle.plan.proofs.Slots.{in_full}
use Rattle.plan.proofs.Parcels.{Held, parcel_held, ahead_low, ahead_beyond, before_yes, before_no, before_le, before_other, Passed}
use Rattle.plan.proofs.Parcels.{passes_passed, in_passed, taker_low, taker_place, stop_low, stop_place, stop_first, stop_last, stop_skip}
use Rattle.plan.proofs.Parcels.{stop_hop, stop_passed, passed_stop}
use Rattle.plan.proofs.Homes.{hop_in, in_hop, unmoved, indirect_away}
use Rattle.conformance.proofs.Carried.{messages}

module _ (x : Nest) (ok : Accepted x) (t v c e : ℕ) (lt : t < box_tiles x) (most : v ≤ directions x) (held : Held x t v c e) where
  low : (j : ℕ) → j < x.spread → j < x.dimensions
  low j h = omega (arith, ok.spread_low)

  carried : (q : ℕ) → In q (hops_along x v)
      → (m : ℕ) × (m < count (box_plan Indirect x)) × (sender_of (box_plan Indirect x) m ≡ stop x t v q)
      × (taker_of (box_plan Indirect x) m ≡ stop x t v (suc q)) × In c (held_by (box_plan Indirect x) m)
  carried q h =
      let a = in_hop x v q h in
      let u : ℕ = stop x t v q in
      let lu : u < box_tiles x = stop_low x ok t v c e held q in
      let p : Passed x u q c v e = stop_passed x ok t v c e held q lt most a.1 in
      let i : In c (passed x u q) = in_passed x u q c v e p in
      let m = messages x ok Indirect u q lu a.0 (in_full c (passed x u q) i) (indirect_away x ok u q c v e lu a.0 p a.2) in
      let k = m.2 in
      (m.0, m.1, k.sender, k.taker_is ∙ stop_hop x ok t v c e held q a.1, rw k.holds i)

  only : (q s : ℕ) → q < x.spread → s < box_tiles x → passes x s q c v ≡ true → s ≡ stop x t v q
  only q s lq ls h =
      let p = passes_passed x s q c v held.cell most h in
      let same : origin x s q v ≡ t = sym p.1.held.own ∙ held.own in
      sym (passed_stop x ok s q c v p.0 ls p.1) ∙ ap (λ (u : ℕ). stop x u v q) same

  -- from stop to stop nothing but a hop changes the processor
  stays : (q : ℕ) → q < x.spread → (In q (hops_along x v) → ⊥) → processor_of x (stop x t v (suc q)) ≡ processor_of x (stop x t v q)
  stays q lq n = go (ℕ_discrete (ahead x v q) 0) (dec_lt 1 (processor_count x q))
    where
      go : Dec (ahead x v q ≡ 0) → Dec (1 < processor_count x q) → processor_of x (stop x t v (suc q)) ≡ processor_of x (stop x t v q)
      go (yes z) d = ap (processor_of x) (stop_skip x ok t v c e held q z)
      go (no z) (yes d) = absurd (n (hop_in x v q lq (omega (arith, ahead_low x v q lq)) d))
      go (no z) (no d) = unmoved x ok (stop x t v (suc q)) (stop x t v q) (λ j l. at j l (ℕ_discrete j q))
        where
          at : (j : ℕ) → j < x.spread → Dec (j ≡ q) → (tile_place x (stop x t v (suc q)) j ≡ tile_place x (stop x t v q) j)
              ⊎ (processor_count x j ≡ 1)
          at j l (yes k) = inr (ap (processor_count x) k ∙ omega (arith, ok.manned q lq))
          at j l (no k) = inl (omega (
            arith,
            stop_place x ok t v c e held (suc q) j (low j l),
            stop_place x ok t v c e held q j (low j l),
            before_other x q v j k,
          ))

  module _ (q : ℕ) (hop : In q (hops_along x v)) (final : (p : ℕ) → In p (hops_along x v) → p ≤ q) where
    beyond : (j : ℕ) → j < x.dimensions → (tile_place x (stop x t v (suc q)) j ≡ tile_place x (taker x t v) j)
        ⊎ ((q < j) × (j < x.spread) × (processor_count x j ≡ 1) × (tile_place x (stop x t v (suc q)) j + 1 ≡ tile_place x (taker x t v) j))
    beyond j l = go (dec_le j q) (dec_lt j x.spread) (ℕ_discrete (ahead x v j) 0)
      where
        s : tile_place x (stop x t v (suc q)) j ≡ tile_place x t j + before x (suc q) v j
        s = stop_place x ok t v c e held (suc q) j l

        u : tile_place x (taker x t v) j ≡ tile_place x t j + ahead x v j
        u = taker_place x ok t v c e held j l

        go : Dec (j ≤ q) → Dec (j < x.spread) → Dec (ahead x v j ≡ 0) → (tile_place x (stop x t v (suc q)) j ≡ tile_place x (taker x t v) j)
            ⊎ ((q < j) × (j < x.spread) × (processor_count x j ≡ 1)
            × (tile_place x (stop x t v (suc q)) j + 1 ≡ tile_place x (taker x t v) j))
        go (yes a) b d = inl (omega (arith, s, u, before_yes x (suc q) v j (omega arith)))
        go (no a) (no b) d = inl (omega (arith, s, u, ahead_beyond x v j (omega arith), before_no x (suc q) v j (omega arith)))
        go (no a) (yes b) (yes d) = inl (omega (arith, s, u, before_no x (suc q) v j (omega arith)))
        go (no a) (yes b) (no d) =
            inr (
              omega arith,
              b,
              single (dec_lt 1 (processor_count x j)),
              omega (arith, s, u, ahead_low x v j b, before_no x (suc q) v j (omega arith)),
            )
          where
            single : Dec (1 < processor_count x j) → processor_count x j ≡ 1
            single (yes k) = absurd (omega (arith, final j (hop_in x v j b (omega (arith, ahead_low x v j b)) k)))
            single (no k) = omega (arith, ok.manned j b)

    same : processor_of x (stop x t v (suc q)) ≡ processor_of x (taker x t v)
    same = unmoved x ok (stop x t v (suc q)) (taker x t v) (λ j l. go j (beyond j (low j l)))
      where
        go : (j : ℕ) → (tile_place x (stop x t v (suc q)) j ≡ tile_place x (taker x t v) j)
            ⊎ ((q < j) × (j < x.spread) × (processor_count x j ≡ 1)
            × (tile_place x (stop x t v (suc q)) j + 1 ≡ tile_place x (taker x t v) j))
            → (tile_place x (stop x t v (suc q)) j ≡ tile_place x (taker x t v) j) ⊎ (processor_count x j ≡ 1)
        go j (inl h) = inl h
        go j (inr h) = inr h.2

    not_after : stop x t v (suc q) ≤ taker x t v
    not_after =
        let a = tile_at_tile_place x ok (stop x t v (suc q)) (stop_low x ok t v c e held (suc q)) in
        let b = tile_at_tile_place x ok (taker x t v) (taker_low x ok t v c e held) in
        omega (
          arith,
          tile_at_le x ok (tile_place x (stop x t v (suc q))) (tile_place x (taker x t v))
              (λ j l. omega (arith, stop_place x ok t v c e held (suc q) j l, taker_place x ok t v c e held j l, before_le x (suc q) v j)),
        )

pub travels : (x : Nest) → Accepted x → (t v c : ℕ) → t < box_tiles x → v ≤ directions x → In c (parcel x t v) → Travels x t v c
travels x ok t v c lt most i =
    let h = parcel_held x t v c i in
    record {
      starts = stop_first x ok t v c h.0 h.1 lt;
      ends = stop_last x ok t v c h.0 h.1;
      carried = carried x ok t v c h.0 lt most h.1;
      only = only x ok t v c h.0 lt most h.1;
      stays = stays x ok t v c h.0 lt most h.1;
      arrives = λ q a f. (
        same x ok t v c h.0 lt most h.1 q a f,
        not_after x ok t v c h.0 lt most h.1 q a f,
        beyond x ok t v c h.0 lt most h.1 q a f,
      );
    }
