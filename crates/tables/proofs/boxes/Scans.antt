-- Laws of the scans: the table's filling, numbers and offsets of messages, messages at a tile's end.
use Prim.Native.Nat.{ℕ, zero, suc, ◌+◌, ◌*◌, ◌≤◌, ◌<◌}
use mathlib.Core.Path.{◌≡◌, sym, ap, ◌∙◌}
use mathlib.Core.Logic.{◌⊎◌, inl, inr, ◌≢◌}
use mathlib.Core.List.{List}
use native.Mathlib.Nat.{eq-or-lt_of_le, mul-le-mul_right, suc-mul}
use native.Mathlib.Omega.{arith}
use lib.ListN.{length, get_or, set, length-append, length-set}
use lib.Seq.{get_or-set_same, get_or-set_other}
use Rattle.base.specs.Tests.{those}
use Rattle.base.proofs.Select.{those_more, those_none}
use Rattle.machine.specs.Plan.{Message}
use Rattle.nest.specs.declared.Nest.{Nest}
use Rattle.nest.specs.Accepted.{Accepted}
use Rattle.nest.specs.Nest.{box_tiles}
use Rattle.nest.proofs.Shapes.{no_bounds_tiles}
use Rattle.plan.specs.declared.Route.{Route}
use Rattle.plan.specs.Messages.{ways, slots, slot_parcel, slot_message, messages_to, box_plan}
use Rattle.plan.proofs.Slots.{slot_parcel_few, step_none, step_one, at_number}
use Rattle.layout.specs.declared.Sizes.{Sizes}
use Rattle.layout.specs.Sizes.{Sized, end_at}
use Rattle.layout.proofs.Steps.{ways_few}
use Rattle.tables.specs.declared.scans.MessageSlot.{MessageSlot}
use Rattle.tables.specs.scans.Scans.{Sheet, Lengths, Found}
use Rattle.tables.specs.boxes.Table.{Table, Filling, FoundAt, end_of}

-- ---- the ends of a slot's message

pub end_is : (r : Route) (n : Nest) (side s : ℕ) → s < slots r n → 0 < length (slot_parcel r n s) → end_of side (box_plan r n)
    (length (messages_to r n s)) ≡ end_at r n side s
unfolding end_at
end_is r n zero s l f = ap (λ (x : Message). x.sender) (at_number r n (slots r n) s l f)
end_is r n (suc i) s l f = ap (λ (x : Message). x.taker) (at_number r n (slots r n) s l f)

-- ---- bounds

module _ (r : Route) (n : Nest) (a : Accepted n) where
  pub slots_few : n.bounds ≡ 0 → slots r n ≤ 7168
  slots_few e =
      let p : box_tiles n * ways r n ≤ 1024 * ways r n = mul-le-mul_right (ways r n) (omega (arith, no_bounds_tiles n a e, a.tiles_most)) in
      omega (arith, ways_few n a r)

  pub parcel_few : (s : ℕ) → length (slot_parcel r n s) ≤ 16384
  parcel_few s = omega (arith, a.cells_most, slot_parcel_few r n s)

module _ (n : Nest) (z : Sizes) (h : Sized n z) where
  pub slots_are : z.tiles * z.ways ≡ slots z.route n
  slots_are = rw (h.tiles, h.ways)

  pub slots_small : n.bounds ≡ 0 → z.tiles * z.ways ≤ 7168
  slots_small e = rw slots_are (slots_few z.route n h.accepted e)

  pub under : (s : ℕ) → s < z.tiles * z.ways → s < slots z.route n
  under s q = rw slots_are at q

  pub over : (s : ℕ) → z.tiles * z.ways ≤ s → slots z.route n ≤ s
  over s q = rw slots_are at q

  pub under_tiles : (t : ℕ) → t < z.tiles → t < box_tiles n
  under_tiles t q = rw h.tiles at q

-- ---- the table

pub fill_start : (r : Route) (n : Nest) (lens : List ℕ) → n.bounds ≡ 0 → length lens ≡ 9217 → Filling r n lens 0
fill_start r n lens e h = record { plain = e; low = omega arith; long = h; each = λ i q. absurd (omega arith) }

pub fill_turn : (r : Route) (n : Nest) (lens : List ℕ) (s v : ℕ) → Filling r n lens s → s < slots r n → slots r n ≤ 7168 → v ≡ length (slot_parcel r n s)
    → Filling r n (set lens s v) (s + 1)
fill_turn r n lens s v f l m e =
    record { plain = f.plain; low = omega arith; long = simp length-set f.long; each = λ i h. go i (eq-or-lt_of_le (low i h)) }
  where
    low : (i : ℕ) → i < s + 1 → i ≤ s
    low i h = omega arith

    go : (i : ℕ) → (i ≡ s) ⊎ (i < s) → get_or (set lens s v) i 0 ≡ length (slot_parcel r n i)
    go i (inl q) =
        ap (λ (x : ℕ). get_or (set lens s v) x 0) q
        ∙ get_or-set_same lens s v 0 (omega (arith, f.long))
        ∙ e
        ∙ ap (λ (x : ℕ). length (slot_parcel r n x)) (sym q)
    go i (inr q) = get_or-set_other lens s i v 0 (λ z. omega arith) ∙ f.each i q

pub filled : (r : Route) (n : Nest) (lens : List ℕ) (s : ℕ) → Filling r n lens s → slots r n ≤ s → Table r n lens
filled r n lens s f h = record { plain = f.plain; long = f.long; each = λ i l. f.each i (omega (arith, f.low)) }

module _ (r : Route) (n : Nest) (a : Accepted n) (lens : List ℕ) (t : Table r n lens) where
  pub sheet : (k : ℕ) → k ≤ slots r n → Sheet lens k
  sheet k h =
      record {
        long = t.long;
        few = omega (arith, slots_few r n a t.plain);
        short = λ s l. rw (t.each s (omega arith)) (parcel_few r n a s);
      }

  pub lengths : Lengths (slot_message r n) (slots r n) lens
  lengths = record { each = t.each }

-- ---- a slot of a tile

module _ (r : Route) (n : Nest) (d : ℕ) (e : d ≡ ways r n) (w : ℕ) (l : w < d) where
  pub slot_under : (t : ℕ) → t < box_tiles n → t * d + w < slots r n
  slot_under t h = omega (arith, ap (λ (a : ℕ). box_tiles n * a) e, mul-le-mul_right d h, suc-mul t d)

pub tile_room : (r : Route) (n : Nest) (d : ℕ) → d ≡ ways r n → (t : ℕ) → t < box_tiles n → t * d + d ≤ slots r n
tile_room r n d e t h = omega (arith, ap (λ (a : ℕ). box_tiles n * a) e, mul-le-mul_right d h, suc-mul t d)

-- ---- numbers of messages, one slot more at a time

pub number_none : (r : Route) (n : Nest) (s : ℕ) → length (slot_parcel r n s) ≡ 0 → length (messages_to r n (s + 1)) ≡ length (messages_to r n s)
number_none r n s e = rw (step_none r n s e)

pub number_more : (r : Route) (n : Nest) (s : ℕ) → 0 < length (slot_parcel r n s) → length (messages_to r n (s + 1)) ≡ suc (length (messages_to r n s))
number_more r n s f = rw (step_one r n s f) (simp length-append (omega arith))

-- what is found among the slots is found in the plan
pub found : (r : Route) (n : Nest) (m : ℕ) (p : MessageSlot) → Found (slot_message r n) (slots r n) m p → FoundAt r n m p
unfolding messages_to
found r n m p f =
    record {
      number = f.number;
      low = f.low;
      offset = f.offset;
      slot = f.slot;
      is = f.is;
      words = f.words;
      full = f.full;
      room = f.room;
    }

-- ---- messages with a tile at one end

abbrev pub seen : Route → Nest → ℕ → ℕ → ℕ → ℕ
seen r n side tile s = length (those (end_of side (box_plan r n)) tile (length (messages_to r n s)))

module _ (r : Route) (n : Nest) (side tile s : ℕ) where
  pub seen_none : length (slot_parcel r n s) ≡ 0 → seen r n side tile (s + 1) ≡ seen r n side tile s
  seen_none e = rw (step_none r n s e)

  module _ (l : s < slots r n) (f : 0 < length (slot_parcel r n s)) where
    pub seen_hit : end_at r n side s ≡ tile → seen r n side tile (s + 1) ≡ seen r n side tile s + 1
    seen_hit e =
        ap (λ (k : ℕ). length (those (end_of side (box_plan r n)) tile k)) (number_more r n s f)
        ∙ those_more (end_of side (box_plan r n)) tile (length (messages_to r n s)) (end_is r n side s l f ∙ e)
        ∙ omega arith

    pub seen_miss : end_at r n side s ≢ tile → seen r n side tile (s + 1) ≡ seen r n side tile s
    seen_miss e =
        ap (λ (k : ℕ). length (those (end_of side (box_plan r n)) tile k)) (number_more r n s f)
        ∙ ap length (those_none (end_of side (box_plan r n)) tile (length (messages_to r n s)) (λ q. e (sym (end_is r n side s l f) ∙ q)))
