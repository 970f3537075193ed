-- Without bounds the plan of a nest is the box's, with bounds the shape's: what is found by either table is found in the plan.
use Prim.Native.Nat.{ℕ, suc, zero, ◌+◌, ◌*◌, ◌/◌, ◌%◌, ◌≤◌, ◌<◌}
use mathlib.Core.Path.{◌≡◌, refl, sym, ap, ◌∙◌, subst}
use mathlib.Core.Logic.{◌≢◌}
use mathlib.Core.Bool.{Bool, true, false}
use mathlib.Core.List.{List, []}
use native.Mathlib.Omega.{arith}
use lib.ListN.{length, get_or}
use Rattle.base.specs.Tests.{pick}
use Rattle.machine.specs.Plan.{Plan, Message, count, words, offset, held_by, message, tiles_of}
use Rattle.nest.specs.declared.Nest.{Nest}
use Rattle.nest.specs.Accepted.{Accepted}
use Rattle.nest.specs.Nest.{box_tiles}
use Rattle.nest.specs.Shape.{tiles}
use Rattle.nest.proofs.Shapes.{no_bounds_tiles}
use Rattle.plan.specs.declared.Route.{Route}
use Rattle.plan.specs.declared.Route.TheVariants.{Direct}
use Rattle.plan.specs.Messages.{ways, directions, slot_direction, slot_parcel, slot_message, messages_of, box_plan}
use Rattle.plan.specs.Shaped.{box_tile, slot_box, shaped_parcel, shaped_home, shaped_slot_parcel, shaped_message, shaped_slots, plan_of}
use Rattle.plan.proofs.ShapedBox.{plan_of_box}
use Rattle.tables.specs.declared.scans.MessageSlot.{MessageSlot}
use Rattle.tables.specs.scans.Scans.{Sheet, Lengths, Found}
use Rattle.tables.specs.boxes.Table.{FoundAt, at_end}
use Rattle.tables.specs.shaped_table.Table as shaped
use Rattle.tables.specs.shaped_table.Table.{ShapedTable}
use Rattle.tables.proofs.shaped_table.Laws as table
use Rattle.tables.specs.Tables.{FoundIn}

full : (b : Bool) (l : List ℕ) → 0 < length (pick b [] l) → pick b [] l ≡ l
unfolding pick
full true l h = absurd (omega arith)
full false l h = refl

full_parcel : (x : Nest) (s : ℕ) → 0 < length (shaped_slot_parcel x s) → shaped_slot_parcel x s ≡ shaped_parcel x (slot_box x s) (slot_direction x s)
unfolding shaped_slot_parcel
full_parcel x s h = full (shaped_home x s) (shaped_parcel x (slot_box x s) (slot_direction x s)) h

module _ (x : Nest) (ok : Accepted x) (r : Route) where
  -- ---- without bounds

  module _ (e : x.bounds ≡ 0) where
    is : plan_of r x ≡ box_plan r x
    is = plan_of_box r x ok e

    pub box_tiles_lem : (p n : ℕ) → n ≡ length (tiles_of (box_plan r x) p) → n ≡ length (tiles_of (plan_of r x) p)
    box_tiles_lem p n h = h ∙ ap (λ (q : Plan). length (tiles_of q p)) (sym is)

    pub box_few : (p f : ℕ) → f < length (tiles_of (plan_of r x) p) → f < length (tiles_of (box_plan r x) p)
    box_few p f h = let z = ap (λ (q : Plan). length (tiles_of q p)) is in omega arith

    pub box_tile_lem : (p f t : ℕ) → (t ≡ get_or (tiles_of (box_plan r x) p) f 0) × (t < box_tiles x) → (t ≡ get_or (tiles_of (plan_of r x) p) f 0) × (t < (plan_of r x).tiles)
    box_tile_lem p f t (a, b) = (a ∙ ap (λ (q : Plan). get_or (tiles_of q p) f 0) (sym is), (let z = ap (λ (q : Plan). q.tiles) is in omega arith))

    pub box_ends : (side t n : ℕ) → (n ≡ length (at_end side (box_plan r x) t)) × (n ≤ 7168) → (n ≡ length (at_end side (plan_of r x) t)) × (n ≤ 7168)
    box_ends side t n (a, b) = (a ∙ ap (λ (q : Plan). length (at_end side q t)) (sym is), b)

    pub box_under : (side t j : ℕ) → j < length (at_end side (plan_of r x) t) → j < length (at_end side (box_plan r x) t)
    box_under side t j h = let z = ap (λ (q : Plan). length (at_end side q t)) is in omega arith

    pub box_found : (m n : ℕ) (p : MessageSlot) → m ≡ n → FoundAt r x m p → FoundIn r x n p
    box_found m n p q f =
        let one : message (plan_of r x) m ≡ slot_message r x p.slot = ap (λ (z : Plan). message z m) is ∙ f.is in
        rw (← q) (record {
          number = f.number;
          low = (let z = ap (λ (z : Plan). count z) is in omega (arith, f.low));
          offset = f.offset ∙ ap (λ (z : Plan). offset z.messages m) (sym is);
          words = f.words ∙ ap (λ (z : Message). length z.cells) (sym one);
          full = f.full;
          room = (let z = ap (λ (z : Plan). words z) is in omega (arith, f.room));
          box = λ h. (f.slot, one);
          shape = λ h. absurd (h e);
        })

    -- what a message holds, by its slot
    pub box_held : (m : ℕ) (p : MessageSlot) → FoundIn r x m p → held_by (plan_of r x) m ≡ slot_parcel r x p.slot
    box_held m p f = ap (λ (z : Message). z.cells) (f.box e).1

    pub box_long : (m n : ℕ) (p : MessageSlot) → FoundIn r x m p → n ≡ p.words → (n ≡ length (slot_parcel r x p.slot)) × (0 < n)
    box_long m n p f q = (q ∙ (f.words ∙ ap length (box_held m p f)), omega (arith, f.full))

    pub box_count : (k : ℕ) → k ≡ box_tiles x → (k ≡ (plan_of r x).tiles) × (k ≤ 1024)
    box_count k h = (h ∙ ap (λ (q : Plan). q.tiles) (sym is), omega (arith, h, no_bounds_tiles x ok e, ok.tiles_most))

    pub box_at : (side t j : ℕ) → get_or (at_end side (box_plan r x) t) j 0 ≡ get_or (at_end side (plan_of r x) t) j 0
    box_at side t j = ap (λ (q : Plan). get_or (at_end side q t) j 0) (sym is)

  -- ---- with bounds

  module _ (n : x.bounds ≢ 0) (d : r ≡ Direct) where
    pub shape_tiles : (p m : ℕ) → (m ≡ length (tiles_of (plan_of Direct x) p)) × (m ≤ 1024) → (m ≡ length (tiles_of (plan_of r x) p)) × (m ≤ 16384)
    shape_tiles p m (a, b) = (rw d a, omega arith)

    pub shape_few : (p f : ℕ) → f < length (tiles_of (plan_of r x) p) → f < length (tiles_of (plan_of Direct x) p)
    shape_few p f h = rw d at h

    pub shape_tile : (p f t : ℕ) → (t ≡ get_or (tiles_of (plan_of Direct x) p) f 0) × (t < (plan_of Direct x).tiles)
        → (t ≡ get_or (tiles_of (plan_of r x) p) f 0) × (t < (plan_of r x).tiles)
    shape_tile p f t h = rw d h

    pub shape_low : (t : ℕ) → t < (plan_of r x).tiles → t < (plan_of Direct x).tiles
    shape_low t h = rw d at h

    ends : (side t : ℕ) → shaped.at_end side (plan_of Direct x) t ≡ at_end side (plan_of Direct x) t
    ends zero t = refl
    ends (suc side) t = refl

    pub shape_ends : (side t m : ℕ) → (m ≡ length (shaped.at_end side (plan_of Direct x) t)) × (m ≤ 7168) → (m ≡ length (at_end side (plan_of r x) t)) × (m ≤ 7168)
    shape_ends side t m (a, b) = (rw d (a ∙ ap length (ends side t)), b)

    pub shape_under : (side t j : ℕ) → j < length (at_end side (plan_of r x) t) → j < length (shaped.at_end side (plan_of Direct x) t)
    shape_under side t j h = let k : j < length (at_end side (plan_of Direct x) t) = rw d at h in rw (ends side t) k

    made : (m : ℕ) (p : MessageSlot) → Found (shaped_message x) (shaped_slots x) m p → FoundIn Direct x m p
    made m p f =
        record {
          number = f.number;
          low = f.low;
          offset = f.offset;
          words = f.words ∙ ap (λ (z : Message). length z.cells) (sym f.is);
          full = f.full;
          room = f.room;
          box = λ h. absurd (n h);
          shape = λ h. (f.slot, f.is);
        }

    pub shape_found : (side t j : ℕ) (p : MessageSlot) → Found (shaped_message x) (shaped_slots x) (get_or (shaped.at_end side (plan_of Direct x) t) j 0) p
        → FoundIn r x (get_or (at_end side (plan_of r x) t) j 0) p
    shape_found side t j p f = rw d (rw (← ends side t) (made (get_or (shaped.at_end side (plan_of Direct x) t) j 0) p f))

    pub shape_below : (m : ℕ) → m < count (plan_of r x) → m < count (plan_of Direct x)
    shape_below m h = rw d at h

    -- as many slots as the code has: k tiles, w ways
    module _ (k w : ℕ) (a : k ≡ tiles x) (b : w ≡ ways r x) where
      pub slots_are : k * w ≡ shaped_slots x
      slots_are = table.slots_code x ok k w a (b ∙ ap (λ (z : Route). ways z x) d)

      pub slots_few : k * w ≤ 7168
      slots_few = omega (arith, slots_are, table.slots_few x ok)

      pub slots_sheet : (lens : List ℕ) → ShapedTable x lens → Sheet lens (k * w)
      slots_sheet lens f = table.sheet x ok lens f (k * w) (omega (arith, slots_are))

      pub shape_made : (m : ℕ) (p : MessageSlot) → Found (shaped_message x) (k * w) m p → FoundIn r x m p
      shape_made m p f = rw d (made m p (subst (λ (z : ℕ). Found (shaped_message x) z m p) slots_are f))

      pub shape_nth : (lens : List ℕ) → ShapedTable x lens → (m : ℕ) (p : MessageSlot) → m < count (plan_of r x)
          → ((f : ℕ → Message) → Lengths f (k * w) lens → m < length (messages_of f (k * w)) → Found f (k * w) m p) → FoundIn r x m p
      shape_nth lens f m p l h = rw d (made m p (subst (λ (z : ℕ). Found (shaped_message x) z m p) slots_are found))
        where
          low : m < length (messages_of (shaped_message x) (k * w))
          low = subst (λ (z : ℕ). m < length (messages_of (shaped_message x) z)) (sym slots_are) (shape_below m l)

          found : Found (shaped_message x) (k * w) m p
          found = h (shaped_message x) (table.lengths x ok lens f (k * w) (omega (arith, slots_are))) low

    pub shape_count : (k : ℕ) → k ≡ tiles x → k ≡ (plan_of r x).tiles
    shape_count k h = rw d h

    -- a message's slot by the numbers of the code: w ways
    module _ (m : ℕ) (p : MessageSlot) (f : FoundIn r x m p) (w : ℕ) (q : w ≡ ways r x) where
      ways_are : w ≡ directions x
      ways_are = q ∙ ap (λ (z : Route). ways z x) d

      pub slot_low : p.slot < shaped_slots x
      slot_low = (f.shape n).0

      pub some_ways : 0 < w
      some_ways = table.some_ways x ok p.slot w ways_are slot_low

      pub sender_low : p.slot / w < tiles x
      sender_low = table.sender_low x ok p.slot w ways_are slot_low

      pub way_low : p.slot % w < ways Direct x
      way_low = table.way_low x ok p.slot w ways_are slot_low

      -- what it holds: a message's slot is not at home
      pub shape_held : (u : ℕ) → u ≡ box_tile x (p.slot / w) → held_by (plan_of r x) m ≡ shaped_parcel x u (p.slot % w + 1)
      shape_held u b =
          let held : held_by (plan_of r x) m ≡ shaped_slot_parcel x p.slot = ap (λ (z : Message). z.cells) (f.shape n).1 in
          held ∙ (full_parcel x p.slot (omega (arith, f.words, f.full, ap length held))
          ∙ rw (b, ways_are) refl)

      pub shape_long : (u k : ℕ) → u ≡ box_tile x (p.slot / w) → k ≡ p.words → k ≡ length (shaped_parcel x u (p.slot % w + 1))
      shape_long u k b l = l ∙ (f.words ∙ ap length (shape_held u b))
