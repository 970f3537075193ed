-- The slots of a shape and their messages: the slot of a tile and a direction, and for each message the slot that it comes from.
use Prim.Native.Nat.{ℕ, ◌+◌, ◌*◌, ◌-◌, ◌≤◌, ◌<◌}
use mathlib.Core.Path.{◌≡◌, ap, ◌∙◌}
use mathlib.Core.Logic.{◌≢◌}
use mathlib.Core.List.{[]}
use native.Mathlib.Nat.{div-lt_iff_lt-mul, mul-le-mul_right, suc-mul}
use native.Mathlib.Omega.{arith}
use lib.ListN.{length}
use lib.Dec.{eqb}
use borrow.Author.Tests.{eqb-false, ne_eqb}
use Rattle.base.specs.Tests.{pick}
use Rattle.base.specs.Lists.{In}
use Rattle.base.proofs.Tests.{pick_false}
use Rattle.machine.specs.Plan.{Message, count, sender_of, taker_of, held_by}
use Rattle.nest.specs.declared.Nest.{Nest}
use Rattle.nest.specs.Shape.{tiles}
use Rattle.plan.specs.declared.Route.TheVariants.{Direct}
use Rattle.plan.specs.Geometry.{processor_of}
use Rattle.plan.specs.Messages.{directions, slots, slot_tile, slot_direction, messages_of}
use Rattle.plan.specs.Shaped.{box_tile, shaped_parcel, shaped_taker, slot_box, shaped_slot_taker, shaped_home, shaped_slot_parcel, shaped_message}
use Rattle.plan.specs.Shaped.{shaped_slots, plan_of}
use Rattle.nest.proofs.Boxes.{tiles_few}
use Rattle.plan.proofs.Listed.{at_number, number_low, message_slot}
use Rattle.plan.proofs.Slots.{in_full, full_in, unless_in}
use Rattle.plan.proofs.Parcels.{slot_direction_low, slot_tile_lem, slot_way}

module _ (x : Nest) where
  -- ---- a slot's tile and direction
  pub in_box : (s : ℕ) → s < shaped_slots x → s < slots Direct x
  in_box s h = omega (arith, mul-le-mul_right (directions x) (tiles_few x))

  pub shaped_direction_low : (s : ℕ) → s < shaped_slots x → slot_direction x s ≤ directions x
  shaped_direction_low s h = slot_direction_low x s (in_box s h)

  pub shaped_tile_low : (s : ℕ) → s < shaped_slots x → slot_tile Direct x s < tiles x
  shaped_tile_low s h = let p : 0 < directions x = omega (arith, shaped_direction_low s h) in (div-lt_iff_lt-mul p).1 h

  -- ---- the slot of tile t and direction v
  abbrev pub slot_at : ℕ → ℕ → ℕ
  slot_at t v = t * directions x + (v - 1)

  module _ (t v : ℕ) (h : t < tiles x) (l : 1 ≤ v) (m : v ≤ directions x) where
    pub slot_at_low : slot_at t v < shaped_slots x
    slot_at_low = omega (arith, mul-le-mul_right (directions x) h, suc-mul t (directions x))

    pub slot_at_tile : slot_tile Direct x (slot_at t v) ≡ t
    slot_at_tile = slot_tile_lem x Direct t (v - 1) (omega (arith, tiles_few x)) (omega arith)

    pub slot_at_direction : slot_direction x (slot_at t v) ≡ v
    slot_at_direction = let e = slot_way x Direct t (v - 1) (omega (arith, tiles_few x)) (omega arith) in omega arith

    pub slot_at_taker : shaped_slot_taker x (slot_at t v) ≡ shaped_taker x (box_tile x t) v
    unfolding shaped_slot_taker
    slot_at_taker = rw (slot_at_tile, slot_at_direction)

    pub slot_at_parcel : shaped_slot_parcel x (slot_at t v)
        ≡ pick (eqb (processor_of x (box_tile x t)) (processor_of x (box_tile x (shaped_taker x (box_tile x t) v)))) [] (shaped_parcel x (box_tile x t) v)
    unfolding shaped_slot_parcel shaped_home
    slot_at_parcel = rw (slot_at_taker, slot_at_tile, slot_at_direction)

    -- its cells, where the taker is on another processor, are a message
    module _ (c : ℕ) (i : In c (shaped_parcel x (box_tile x t) v))
        (away : processor_of x (box_tile x t) ≢ processor_of x (box_tile x (shaped_taker x (box_tile x t) v))) where
      holds : shaped_slot_parcel x (slot_at t v) ≡ shaped_parcel x (box_tile x t) v
      holds = slot_at_parcel ∙ pick_false _ [] (shaped_parcel x (box_tile x t) v) (ne_eqb _ _ away)

      pub slot_at_full : 0 < length (shaped_slot_parcel x (slot_at t v))
      slot_at_full = rw holds (in_full c (shaped_parcel x (box_tile x t) v) i)

      pub slot_at_sent : (m : ℕ) × (m < count (plan_of Direct x)) × (sender_of (plan_of Direct x) m ≡ t)
          × (taker_of (plan_of Direct x) m ≡ shaped_taker x (box_tile x t) v) × (held_by (plan_of Direct x) m ≡ shaped_parcel x (box_tile x t) v)
      slot_at_sent =
          let is = at_number (shaped_message x) (shaped_slots x) (slot_at t v) slot_at_low slot_at_full in (
            length (messages_of (shaped_message x) (slot_at t v)),
            number_low (shaped_message x) (shaped_slots x) (slot_at t v) slot_at_low slot_at_full,
            ap (λ (y : Message). y.sender) is ∙ slot_at_tile,
            ap (λ (y : Message). y.taker) is ∙ slot_at_taker,
            ap (λ (y : Message). y.cells) is ∙ holds,
          )

  -- ---- the slot of message m
  pub record ShapedSent (m s : ℕ) : Type 0 where
    pub slot : s < shaped_slots x
    pub full : 0 < length (shaped_slot_parcel x s)
    pub number : length (messages_of (shaped_message x) s) ≡ m
    pub sender : sender_of (plan_of Direct x) m ≡ slot_tile Direct x s
    pub taker : taker_of (plan_of Direct x) m ≡ shaped_taker x (slot_box x s) (slot_direction x s)
    pub holds : held_by (plan_of Direct x) m ≡ shaped_parcel x (slot_box x s) (slot_direction x s)
    pub away : processor_of x (slot_box x s) ≢ processor_of x (box_tile x (shaped_taker x (slot_box x s) (slot_direction x s)))

  pub sent_from : (m : ℕ) → m < count (plan_of Direct x) → (s : ℕ) × ShapedSent m s
  unfolding shaped_slot_taker shaped_slot_parcel shaped_home
  sent_from m h =
      let a = message_slot (shaped_message x) (shaped_slots x) m h in
      let is = a.4 in
      let s = a.0 in
      let k = full_in (shaped_slot_parcel x s) a.2 in
      let b = unless_in (shaped_home x s) (shaped_parcel x (slot_box x s) (slot_direction x s)) k.0 k.1 in (
        s,
        record {
          slot = a.1;
          full = a.2;
          number = a.3;
          sender = ap (λ (y : Message). y.sender) is;
          taker = ap (λ (y : Message). y.taker) is;
          holds = ap (λ (y : Message). y.cells) is ∙ pick_false _ [] (shaped_parcel x (slot_box x s) (slot_direction x s)) b.0;
          away = eqb-false _ _ b.0;
        },
      )

  -- a message holds a cell
  pub shaped_held : (m : ℕ) → m < count (plan_of Direct x) → (c : ℕ) × In c (held_by (plan_of Direct x) m)
  shaped_held m h =
      let a = message_slot (shaped_message x) (shaped_slots x) m h in
      let k = full_in (shaped_slot_parcel x a.0) a.2 in
      (k.0, rw (ap (λ (y : Message). y.cells) a.4) k.1)
