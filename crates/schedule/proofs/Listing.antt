-- The list of a nest's messages: one slot more, what is found by it, and the tile at each end of a message.
use Rattle.std.specs.Prelude.{◌≡◌, ℕ, zero, suc, ◌+◌, ◌*◌, ◌/◌, ◌%◌, ◌<◌, ◌≤◌, ◌≢◌, ◌⊎◌, List, length, get_or, set}
use mathlib.Core.Path.{refl, sym, ap, ◌∙◌, subst}
use mathlib.Core.Logic.{inl, inr}
use native.Mathlib.Nat.{mod-lt}
use native.Mathlib.Decide.{dec_lt, ℕ_discrete}
use native.Mathlib.Omega.{arith}
use lib.ListN.{length-set}
use lib.Seq.{get_or-set_same, get_or-set_other}
use Rattle.machine.specs.Plan.{Plan, Message, count, sender_of}
use Rattle.nest.specs.declared.Nest.{Nest}
use Rattle.nest.specs.Accepted.{Accepted}
use Rattle.nest.specs.Nest.{box_tiles}
use Rattle.nest.specs.Shape.{tiles}
use Rattle.plan.specs.declared.Route.{Route}
use Rattle.plan.specs.declared.Route.TheVariants.{Direct}
use Rattle.plan.specs.Messages.{slots, slot_message, messages_of, messages_to}
use Rattle.plan.specs.Shaped.{shaped_message, shaped_slots, plan_of}
use Rattle.plan.proofs.ShapedBox.{plan_of_box}
use Rattle.plan.proofs.ShapedSound.{sound}
use Rattle.layout.specs.declared.Sizes.{Sizes}
use Rattle.layout.specs.Sizes.{Sized, Stepped, end_at}
use Rattle.layout.proofs.Steps.{ways_few}
use Rattle.tables.specs.declared.scans.MessageSlot.{MessageSlot}
use Rattle.tables.specs.scans.Scans.{Sheet, Lengths, Summing, Found}
use Rattle.tables.proofs.scans.Laws as scans
use Rattle.tables.specs.boxes.Table.{end_of}
use Rattle.tables.proofs.boxes.Scans as boxes
use Rattle.tables.proofs.shaped_table.Laws as shapes
use Rattle.tables.specs.Tables.{Tabled, FoundIn}
use Rattle.tables.proofs.Laws as tables
use Rattle.schedule.specs.Index.{spot_of, Listed}

-- ---- list_spots: after the first slots
pub record ListLoop (lens : List ℕ) (slots : ℕ) (spots : List ℕ) (slot number offset : ℕ) : Type 0 where
  pub low : slot ≤ slots
  pub few : number ≤ slot
  pub small : offset ≤ 16384 * slot
  pub long : length spots ≡ 14336
  pub sums : (f : ℕ → Message) → Lengths f slots lens → Summing f slot number offset
  pub found : (f : ℕ → Message) → Lengths f slots lens → (m : ℕ) → m < number → Found f slots m (spot_of lens spots m)

module _ (lens : List ℕ) (slots : ℕ) where
  pub list_start : (spots : List ℕ) → length spots ≡ 14336 → ListLoop lens slots spots 0 0 0
  list_start spots l =
      record {
        low = omega arith;
        few = omega arith;
        small = omega arith;
        long = l;
        sums = λ f h. scans.sum_start f;
        found = λ f h m q. absurd (omega arith);
      }

  module _ (spots : List ℕ) (slot number offset : ℕ) (x : ListLoop lens slots spots slot number offset) (low : slot < slots) (sheet : Sheet lens slots) where
    abbrev after : List ℕ
    after = set (set spots number slot) (7168 + number) offset

    few : number < 7168
    few = omega (arith, x.few, sheet.few)

    kept : (i : ℕ) → i ≢ number → i ≢ 7168 + number → get_or after i 0 ≡ get_or spots i 0
    kept i a b = get_or-set_other (set spots number slot) (7168 + number) i offset 0 b ∙ get_or-set_other spots number i slot 0 a

    slot_is : get_or after number 0 ≡ slot
    slot_is =
        get_or-set_other (set spots number slot) (7168 + number) number offset 0 (λ z. omega arith)
        ∙ get_or-set_same spots number slot 0 (omega (arith, x.long, few))

    offset_is : get_or after (7168 + number) 0 ≡ offset
    offset_is = get_or-set_same (set spots number slot) (7168 + number) offset 0 (rw length-set (omega (arith, x.long, few)))

    module _ (w : ℕ) (e : w ≡ get_or lens slot 0) (number' : ℕ) (came : ((w ≢ 0) × (number' ≡ number + 1)) ⊎ ((w ≡ 0) × (number' ≡ number))) where
      known : (f : ℕ → Message) → Lengths f slots lens → w ≡ length (f slot).cells
      known f h = e ∙ h.each slot low

      old : (f : ℕ → Message) → Lengths f slots lens → (m : ℕ) → m < number → Found f slots m (spot_of lens after m)
      old f h m q =
          let a : get_or after m 0 ≡ get_or spots m 0 = kept m (λ z. omega arith) (λ z. omega (arith, few)) in
          let b : get_or after (7168 + m) 0 ≡ get_or spots (7168 + m) 0 = kept (7168 + m) (λ z. omega (arith, few)) (λ z. omega arith) in
          rw (a, b) (x.found f h m q)

      new : (f : ℕ → Message) → Lengths f slots lens → 0 < w → Found f slots number (spot_of lens after number)
      new f h q =
          rw (slot_is, offset_is) (scans.found f slots slot number offset (get_or lens slot 0) (x.sums f h) low (h.each slot low) (omega (arith, e)))

      found_all : (f : ℕ → Message) → Lengths f slots lens → ((w ≢ 0) × (number' ≡ number + 1)) ⊎ ((w ≡ 0) × (number' ≡ number))
          → (m : ℕ) → m < number' → Found f slots m (spot_of lens after m)
      found_all f h (inr c) m q = old f h m (omega (arith, c.1))
      found_all f h (inl c) m q = go (dec_lt m number)
        where
          go : Dec (m < number) → Found f slots m (spot_of lens after m)
          go (yes l) = old f h m l
          go (no l) =
              let z : number ≡ m = omega (arith, c.1) in
              subst (λ (i : ℕ). Found f slots i (spot_of lens after i)) z (new f h (scans.positive w c.0))

      count_few : ((w ≢ 0) × (number' ≡ number + 1)) ⊎ ((w ≡ 0) × (number' ≡ number)) → number' ≤ slot + 1
      count_few (inl c) = omega (arith, c.1, x.few)
      count_few (inr c) = omega (arith, c.1, x.few)

      pub list_next : (spots' : List ℕ) → spots' ≡ set (set spots number slot) (7168 + number) offset → ListLoop lens slots spots' (slot + 1) number'
          (offset + w)
      list_next spots' q =
          rw q (record {
            low = omega arith;
            few = count_few came;
            small = omega (arith, x.small, e, sheet.short slot low);
            long = simp length-set x.long;
            sums = λ f h. scans.sum_turn f slot number offset w number' (x.sums f h) (known f h) came;
            found = λ f h. found_all f h came;
          })

  pub list_done : (spots : List ℕ) (slot number offset : ℕ) → ListLoop lens slots spots slot number offset → slots ≤ slot
      → (length spots ≡ 14336) × ((number ≤ slots) × ((f : ℕ → Message) → Lengths f slots lens
      → (number ≡ length (messages_of f slots)) × ((m : ℕ) → m < number → Found f slots m (spot_of lens spots m))))
  list_done spots slot number offset x h =
      let z : slot ≡ slots = omega (arith, x.low) in
      (x.long, (omega (arith, x.few), λ f l. ((x.sums f l).number ∙ ap (λ (i : ℕ). length (messages_of f i)) z, x.found f l)))

-- ---- list: the slots of the nest, w ways for each of k tiles
module _ (x : Nest) (z : Sizes) (sized : Sized x z) (lens : List ℕ) (table : Tabled x z lens) (k : ℕ) (is : k ≡ (plan_of z.route x).tiles) where
  abbrev r : Route
  r = z.route

  ok : Accepted x
  ok = sized.accepted

  -- without bounds
  module _ (e : x.bounds ≡ 0) where
    tiles_box : k ≡ box_tiles x
    tiles_box = is ∙ ap (λ (p : Plan). p.tiles) (plan_of_box r x ok e)

    slots_box : k * z.ways ≡ slots r x
    slots_box = rw (tiles_box, sized.ways) refl

    sheet_box : Sheet lens (k * z.ways)
    sheet_box =
        record {
          long = (table.box e).long;
          few = omega (arith, slots_box, boxes.slots_few r x ok e);
          short = λ s h. rw ((table.box e).each s (omega (arith, slots_box))) (boxes.parcel_few r x ok s);
        }

    lengths_box : Lengths (slot_message r x) (k * z.ways) lens
    lengths_box = record { each = λ s h. (table.box e).each s (omega (arith, slots_box)) }

    found_box : (m : ℕ) (p : MessageSlot) → Found (slot_message r x) (k * z.ways) m p → FoundIn r x m p
    unfolding messages_to
    found_box m p f =
        let g : Found (slot_message r x) (slots r x) m p = subst (λ (n : ℕ). Found (slot_message r x) n m p) slots_box f in
        tables.box_found x ok r e m m p refl (record {
          number = g.number;
          low = g.low;
          offset = g.offset;
          slot = g.slot;
          is = g.is;
          words = g.words;
          full = g.full;
          room = g.room;
        })

    count_box : length (messages_of (slot_message r x) (k * z.ways)) ≡ count (plan_of r x)
    unfolding messages_to
    count_box = ap (λ (n : ℕ). length (messages_of (slot_message r x) n)) slots_box ∙ ap (λ (p : Plan). count p) (sym (plan_of_box r x ok e))

  -- with bounds
  module _ (e : x.bounds ≢ 0) where
    direct : r ≡ Direct
    direct = table.routed e

    tiles_shape : k ≡ tiles x
    tiles_shape = is ∙ ap (λ (q : Route). (plan_of q x).tiles) direct

    slots_shape : k * z.ways ≡ shaped_slots x
    slots_shape = tables.slots_are x ok r e direct k z.ways tiles_shape sized.ways

    sheet_shape : Sheet lens (k * z.ways)
    sheet_shape = tables.slots_sheet x ok r e direct k z.ways tiles_shape sized.ways lens (table.shape e)

    lengths_shape : Lengths (shaped_message x) (k * z.ways) lens
    lengths_shape = shapes.lengths x ok lens (table.shape e) (k * z.ways) (omega (arith, slots_shape))

    count_shape : length (messages_of (shaped_message x) (k * z.ways)) ≡ count (plan_of r x)
    count_shape =
        ap (λ (n : ℕ). length (messages_of (shaped_message x) n)) slots_shape ∙ ap (λ (q : Route). count (plan_of q x)) (sym direct)

    found_shape : (m : ℕ) (p : MessageSlot) → m < count (plan_of r x)
        → ((f : ℕ → Message) → Lengths f (k * z.ways) lens → m < length (messages_of f (k * z.ways)) → Found f (k * z.ways) m p) → FoundIn r x m p
    found_shape m p = tables.shape_nth x ok r e direct k z.ways tiles_shape sized.ways lens (table.shape e) m p

  pub list_sheet : Sheet lens (k * z.ways)
  list_sheet = go (ℕ_discrete x.bounds 0)
    where
      go : Dec (x.bounds ≡ 0) → Sheet lens (k * z.ways)
      go (yes e) = sheet_box e
      go (no e) = sheet_shape e

  module _ (spots : List ℕ) (n : ℕ) (long : length spots ≡ 14336) (few : n ≤ k * z.ways) (h : (f : ℕ → Message) → Lengths f (k * z.ways) lens
      → (n ≡ length (messages_of f (k * z.ways))) × ((m : ℕ) → m < n → Found f (k * z.ways) m (spot_of lens spots m))) where
    pub listed : (n ≡ count (plan_of z.route x)) × Listed z.route x lens spots
    listed = go (ℕ_discrete x.bounds 0)
      where
        by : n ≡ count (plan_of r x) → ((m : ℕ) → m < n → FoundIn r x m (spot_of lens spots m)) → ((m : ℕ) → m < n → get_or spots m 0 < k * z.ways)
            → (n ≡ count (plan_of r x)) × Listed r x lens spots
        by q f l = (
          q,
          record {
            long = long;
            few = omega (arith, q, few, list_sheet.few);
            low = λ m a. omega (arith, l m (omega (arith, q)), list_sheet.few);
            found = λ m a. f m (omega (arith, q));
          },
        )

        go : Dec (x.bounds ≡ 0) → (n ≡ count (plan_of r x)) × Listed r x lens spots
        go (yes e) =
            let g = h (slot_message r x) (lengths_box e) in
            by (g.0 ∙ count_box e) (λ m a. found_box e m (spot_of lens spots m) (g.1 m a)) (λ m a. (g.1 m a).slot)
        go (no e) =
            let g = h (shaped_message x) (lengths_shape e) in
            by (g.0 ∙ count_shape e)
            (λ m a. found_shape e m (spot_of lens spots m) (omega (arith, g.0 ∙ count_shape e)) (λ f l q. (h f l).1 m a))
            (λ m a. (g.1 m a).slot)

-- ---- end_of

-- every tile's number is low
pub tiles_few : (x : Nest) (z : Sizes) (lens : List ℕ) → Sized x z → Tabled x z lens → (plan_of z.route x).tiles ≤ 1024
tiles_few x z lens sized table = go (ℕ_discrete x.bounds 0)
  where
    go : Dec (x.bounds ≡ 0) → (plan_of z.route x).tiles ≤ 1024
    go (yes e) =
        let c = tables.box_count x sized.accepted z.route e (box_tiles x) refl in
        omega (arith, c.0, c.1)
    go (no e) =
        let c : tiles x ≡ (plan_of z.route x).tiles = tables.shape_count x sized.accepted z.route e (table.routed e) (tiles x) refl in
        omega (arith, sized.accepted.tiles_most)

module _ (x : Nest) (z : Sizes) (sized : Sized x z) (lens : List ℕ) (table : Tabled x z lens) (p : MessageSlot) (f : FoundIn z.route x p.number p) where
  pub end_low : (side : ℕ) → end_of side (plan_of z.route x) p.number < 1024
  end_low zero =
      let so = sound z.route x sized.accepted in
      omega (arith, so.forward p.number f.low, so.taker_low p.number f.low, tiles_few x z lens sized table)
  end_low (suc i) = omega (arith, (sound z.route x sized.accepted).taker_low p.number f.low, tiles_few x z lens sized table)

  pub end_here : (side v : ℕ) → v ≡ end_of side (plan_of z.route x) p.number → (v ≡ end_of side (plan_of z.route x) p.number) × (v < 1024)
  end_here side v e = (e, omega (arith, e, end_low side))

  module _ (e : x.bounds ≡ 0) where
    ends_at : (side : ℕ) → end_of side (plan_of z.route x) p.number ≡ end_at z.route x side p.slot
    unfolding end_at
    ends_at zero = ap (λ (m : Message). m.sender) (f.box e).1
    ends_at (suc i) = ap (λ (m : Message). m.taker) (f.box e).1

    pub box_end : (side : ℕ) (steps : List ℕ) → Stepped z.route x side steps
        → p.slot / z.ways + get_or steps (p.slot % z.ways) 0 ≡ end_of side (plan_of z.route x) p.number
    box_end side steps st =
        ap (λ (w : ℕ). p.slot / w + get_or steps (p.slot % w) 0) sized.ways
        ∙ sym (st.each p.slot (f.box e).0) ∙ sym (ends_at side)

  pub way_few : 0 < z.ways → p.slot % z.ways < 8
  way_few h = omega (arith, mod-lt p.slot h, sized.ways, ways_few x sized.accepted z.route)

  module _ (e : x.bounds ≢ 0) where
    pub shape_full : 0 < length (shaped_message x p.slot).cells
    shape_full = omega (arith, f.words, f.full, ap (λ (m : Message). length m.cells) (f.shape e).1)

    pub shape_taker : (side : ℕ) → side ≢ 0 → (v : ℕ) → v ≡ (shaped_message x p.slot).taker → v ≡ end_of side (plan_of z.route x) p.number
    shape_taker zero n v q = absurd (n refl)
    shape_taker (suc i) n v q = q ∙ sym (ap (λ (m : Message). m.taker) (f.shape e).1)

    pub shape_sender : (side v : ℕ) → side ≡ 0 → v ≡ sender_of (plan_of z.route x) p.number → v ≡ end_of side (plan_of z.route x) p.number
    shape_sender zero v q k = k
    shape_sender (suc i) v q k = absurd (omega arith)
