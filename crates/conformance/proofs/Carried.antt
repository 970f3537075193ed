-- Each message is one tile's by one way, on either route; their numbers rise with tile and way; a cell is due at a tile at most once.
use Prim.Native.Nat.{ℕ, ◌+◌, ◌*◌, ◌<◌}
use mathlib.Core.Path.{◌≡◌, sym, ap, ◌∙◌}
use mathlib.Core.Logic.{◌⊎◌, inl, inr, ◌≢◌, ◌↔◌}
use native.Mathlib.Decide.{dec_lt}
use native.Mathlib.Nat.{div-add-mod'}
use native.Mathlib.Omega.{arith}
use lib.ListN.{length}
use borrow.Author.Tests.{eqb-false, ne_eqb}
use Rattle.base.specs.Lists.{In}
use Rattle.base.proofs.Select.{those_in}
use Rattle.machine.specs.Plan.{Message, count, sender_of, taker_of, held_by, dues_of}
use Rattle.nest.specs.declared.Nest.{Nest}
use Rattle.nest.specs.Accepted.{Accepted}
use Rattle.nest.specs.Nest.{box_tiles}
use Rattle.plan.specs.declared.Route.{Route}
use Rattle.nest.specs.Places.{tile_place}
use Rattle.plan.specs.Geometry.{processor_of}
use Rattle.plan.specs.Messages.{ways, slots, slot_tile, slot_taker, at_home, slot_parcel, slot_message, messages_to, box_plan}
use Rattle.conformance.specs.Exact.{Way, cells_by, taker_by, step_by, MessageBy}
use Rattle.plan.proofs.Listed.{number_order, slot_order}
use Rattle.plan.proofs.Slots.{full_in, parcel_cells, parcel_away, full_away, message_slot}
use Rattle.plan.proofs.Parcels.{slot_tile_low}
use Rattle.plan.proofs.Sound.{slot_sent}
use Rattle.conformance.proofs.Ways.{nth, way_of, way_of_lem, nth_of, nth_low, nth_lt, slot_cells_lem, slot_to, way_slot, way_tile, way_cells, way_taker}
use Rattle.conformance.proofs.Ways.{step_beyond, step_way, taker_at_lem, one_way}

module _ (x : Nest) (ok : Accepted x) (r : Route) where
  carried : (m t w c : ℕ) → t < box_tiles x → Way r x w → In c (cells_by r x t w) → sender_of (box_plan r x) m ≡ t
      → taker_of (box_plan r x) m ≡ taker_by r x t w → held_by (box_plan r x) m ≡ cells_by r x t w
      → processor_of x t ≢ processor_of x (taker_by r x t w) → MessageBy r x m t w
  carried m t w c lt h i from to is away =
      let place : (j : ℕ) → j < x.dimensions → tile_place x (taker_of (box_plan r x) m) j ≡ tile_place x t j + step_by r x w j =
      λ j l. ap (λ (u : ℕ). tile_place x u j) to ∙ taker_at_lem x ok r t w c lt i j l in
      record {
        tile = lt;
        way = h;
        sender = from;
        holds = is;
        taker_is = to;
        ahead_of = λ j l. place j (omega (arith, ok.spread_low));
        beside = λ j s l. omega (arith, place j l, step_beyond x r w j h s);
        away = rw (from, to) away;
      }

  -- the slot of message m, with its number
  slot_of : (m : ℕ) → m < count (box_plan r x)
      → (s : ℕ) × (s < slots r x) × (0 < length (slot_parcel r x s)) × (length (messages_to r x s) ≡ m)
      × MessageBy r x m (slot_tile r x s) (way_of r x s)
  unfolding at_home
  slot_of m h =
      let a = message_slot r x (slots r x) m h in
      let s = a.0 in
      let k = full_in (slot_parcel r x s) a.2 in
      let b = parcel_cells r x s k.0 k.1 in (
        s,
        a.1,
        a.2,
        a.3,
        carried m (slot_tile r x s) (way_of r x s) k.0 (slot_tile_low x r s a.1) (way_of_lem x r s a.1) (rw (slot_cells_lem x r s) at b.1)
            (ap (λ (y : Message). y.sender) a.4)
            (ap (λ (y : Message). y.taker) a.4 ∙ slot_to x r s)
            (ap (λ (y : Message). y.cells) a.4 ∙ full_away r x s a.2 ∙ slot_cells_lem x r s)
            (λ e. eqb-false _ _ b.0 (e ∙ ap (processor_of x) (sym (slot_to x r s)))),
      )

  pub message : (m : ℕ) → m < count (box_plan r x) → (t : ℕ) × ((w : ℕ) × MessageBy r x m t w)
  message m h = let a = slot_of m h in (slot_tile r x a.0, (way_of r x a.0, a.4))

  pub some_held : (m : ℕ) → m < count (box_plan r x) → (c : ℕ) × In c (held_by (box_plan r x) m)
  some_held m h =
      let a = message_slot r x (slots r x) m h in
      let k = full_in (slot_parcel r x a.0) a.2 in
      (k.0, rw (ap (λ (y : Message). y.cells) a.4) k.1)

  pub messages : (t w : ℕ) → t < box_tiles x → Way r x w → 0 < length (cells_by r x t w) → processor_of x t ≢ processor_of x (taker_by r x t w)
      → (m : ℕ) × (m < count (box_plan r x)) × MessageBy r x m t w
  unfolding at_home
  messages t w lt h full away =
      let f = full_in (cells_by r x t w) full in
      let s : ℕ = t * ways r x + nth r w in
      let tile : slot_tile r x s ≡ t = way_tile x r t w lt h in
      let to : slot_taker r x s ≡ taker_by r x t w = way_taker x r t w lt h in
      let other : processor_of x (slot_tile r x s) ≢ processor_of x (slot_taker r x s) = rw (tile, to) away in
      let is : slot_parcel r x s ≡ cells_by r x t w = parcel_away r x s (ne_eqb _ _ other) ∙ way_cells x r t w lt h in
      let m = slot_sent r x s f.0 (way_slot x r t w lt h) (rw is f.1) in
      (m.0, m.1, carried m.0 t w f.0 lt h f.1 (m.2 ∙ tile) (m.3 ∙ to) (m.4 ∙ is) away)

  -- the number of message (t, w): the messages of the slots before it
  number_of : (m t w : ℕ) → m < count (box_plan r x) → MessageBy r x m t w
      → (s : ℕ) × (s ≡ t * ways r x + nth r w) × (0 < length (slot_parcel r x s)) × (length (messages_to r x s) ≡ m)
  number_of m t w h c =
      let a = slot_of m h in
      let s = a.0 in
      let e : slot_tile r x s ≡ t = sym a.4.sender ∙ c.sender in
      let d : way_of r x s ≡ w = step_way x r (way_of r x s) w a.4.way c.way
      (λ j l. omega (arith, a.4.ahead_of j l, c.ahead_of j l, ap (λ (y : ℕ). tile_place x y j) e)) in (
        s,
        omega (arith, div-add-mod' s (ways r x), ap (λ (u : ℕ). u * ways r x) e, nth_of x r s, ap (nth r) d),
        a.2,
        a.3,
      )

  module _ (m n t v u w : ℕ) (lm : m < count (box_plan r x)) (ln : n < count (box_plan r x)) (a : MessageBy r x m t v)
      (b : MessageBy r x n u w) where
    -- by the place of tile and way among the slots
    by_slot : (m < n) ↔ (t * ways r x + nth r v < u * ways r x + nth r w)
    unfolding messages_to
    by_slot =
        let p = number_of m t v lm a in
        let q = number_of n u w ln b in
        let o = number_order (slot_message r x) p.0 q.0 p.2 q.2 in (
          (λ h. let k = o.0 (omega (arith, p.3, q.3)) in omega (arith, p.1, q.1)),
          (λ h. let k = o.1 (omega (arith, p.1, q.1)) in omega (arith, p.3, q.3)),
        )

    pub order : (m < n) ↔ ((t < u) ⊎ ((t ≡ u) × (v < w)))
    order = ((λ h. on (s.0 (by_slot.0 h))), (λ h. by_slot.1 (s.1 (back h))))
      where
        s : (t * ways r x + nth r v < u * ways r x + nth r w) ↔ ((t < u) ⊎ ((t ≡ u) × (nth r v < nth r w)))
        s = slot_order (ways r x) t (nth r v) u (nth r w) (nth_low x r v a.way) (nth_low x r w b.way)

        on : (t < u) ⊎ ((t ≡ u) × (nth r v < nth r w)) → (t < u) ⊎ ((t ≡ u) × (v < w))
        on (inl l) = inl l
        on (inr (e, l)) = inr (e, (nth_lt x r v w a.way b.way).0 l)

        back : (t < u) ⊎ ((t ≡ u) × (v < w)) → (t < u) ⊎ ((t ≡ u) × (nth r v < nth r w))
        back (inl l) = inl l
        back (inr (e, l)) = inr (e, (nth_lt x r v w a.way b.way).1 l)

  pub one : (m n t w : ℕ) → m < count (box_plan r x) → n < count (box_plan r x) → MessageBy r x m t w → MessageBy r x n t w → m ≡ n
  one m n t w lm ln a b = go (dec_lt m n) (dec_lt n m)
    where
      go : Dec (m < n) → Dec (n < m) → m ≡ n
      go (yes h) d = absurd (omega (arith, (by_slot m n t w t w lm ln a b).0 h))
      go (no h) (yes k) = absurd (omega (arith, (by_slot n m t w t w ln lm b a).0 k))
      go (no h) (no k) = omega arith

  -- at most one message due at a tile holds a cell
  pub once : (t m n c : ℕ) → In m (dues_of (box_plan r x) t) → In n (dues_of (box_plan r x) t) → In c (held_by (box_plan r x) m)
      → In c (held_by (box_plan r x) n) → m ≡ n
  once t m n c i k p q =
      let d = those_in (taker_of (box_plan r x)) t (count (box_plan r x)) m i in
      let f = those_in (taker_of (box_plan r x)) t (count (box_plan r x)) n k in
      let a = message m d.0 in
      let b = message n f.0 in
      same a.0 a.1.0 b.0 b.1.0 d.0 f.0 a.1.1 b.1.1 (d.1 ∙ sym f.1)
    where
      same : (t v u w : ℕ) → m < count (box_plan r x) → n < count (box_plan r x) → MessageBy r x m t v → MessageBy r x n u w
          → taker_of (box_plan r x) m ≡ taker_of (box_plan r x) n → m ≡ n
      same t v u w lm ln a b to =
          let g : In c (cells_by r x t v) = rw a.holds at p in
          let h : In c (cells_by r x u w) = rw b.holds at q in
          let z = one_way x ok r t v u w c a.tile b.tile a.way b.way g h
          (λ j l. sym (taker_at_lem x ok r t v c a.tile g j l)
          ∙ ap (λ (y : ℕ). tile_place x y j) (sym a.taker_is ∙ to ∙ b.taker_is)
          ∙ taker_at_lem x ok r u w c b.tile h j l) in
          one m n u w lm ln (rw (z.0, z.1) at a) b
