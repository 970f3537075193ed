-- Laws of what the calls about a plan answer: its figures, the line and the hops of a message, and the refusals.
use Prim.Native.Nat.{ℕ, zero, suc, ◌+◌, ◌*◌, ◌/◌, ◌%◌, ◌≤◌, ◌<◌}
use mathlib.Core.Path.{◌≡◌, refl, sym, ap, ◌∙◌, subst}
use mathlib.Core.Logic.{◌≢◌}
use mathlib.Core.List.{List, [], ◌∷◌, ◌++◌}
use native.Mathlib.Decide.{ℕ_discrete}
use native.Mathlib.Omega.{arith}
use lib.ListN.{length}
use lib.Dec.{ltb}
use borrow.Author.Tests.{lt-ltb, le-ltb}
use Rattle.base.specs.Tests.{not}
use Rattle.base.specs.Numbers.{Line, line, first_of}
use Rattle.base.proofs.Tests.{not-true, not-false}
use Rattle.base.proofs.Numbers.{Numbered, first_true, first_false, first_some, first_behind}
use Rattle.machine.specs.Plan.{Plan, Message, words, count, sender_of, taker_of}
use Rattle.nest.specs.declared.Nest.{Nest}
use Rattle.nest.specs.Accepted.{Accepted}
use Rattle.nest.specs.Nest.{box_tiles}
use Rattle.nest.specs.Places.{tile_place}
use Rattle.nest.specs.Shape.{tiles}
use Rattle.nest.specs.Reader.{read_lines, nest_of}
use Rattle.nest.proofs.Numbered.{numbered}
use Rattle.nest.proofs.Rank.{rank_same, rank_place}
use Rattle.plan.specs.declared.Route.{Route}
use Rattle.plan.specs.declared.Route.TheVariants.{Direct}
use Rattle.plan.specs.Geometry.{processor_of}
use Rattle.plan.specs.Messages.{two, directions, ahead, ways, slot_tile, slot_direction, slot_taker, slot_parcel, box_plan}
use Rattle.plan.specs.Shaped.{box_tile, shaped_parcel, slot_box, shaped_slot_taker, shaped_home, shaped_slot_parcel, plan_of}
use Rattle.conformance.specs.ExactShape.{stands_at}
use Rattle.plan.specs.Hops.{hops}
use Rattle.conformance.specs.Examples.{refused, figures_if}
use Rattle.plan.proofs.Slots.{full_in, parcel_cells, unless_in}
use Rattle.plan.proofs.Parcels.{slot_tile_low, slot_direction_low, slot_direction_pos}
use Rattle.conformance.proofs.Ways.{slot_cells_lem, slot_to, taker_at_lem}
use Rattle.plan.proofs.ShapedParcels.{parcel_crossed, shaped_taker_column}
use Rattle.plan.proofs.ShapedSlots.{shaped_direction_low}
use Rattle.plan.proofs.ShapedBox.{box_tile_is, plan_of_box}
use Rattle.plan.proofs.ShapedSound.{sound}
use Rattle.layout.specs.declared.Sizes.{Sizes}
use Rattle.layout.specs.Sizes.{Sized, end_at}
use Rattle.layout.specs.RouteWords.{route_of}
use Rattle.recipe.specs.Routes.{lines_for}
use Rattle.recipe.specs.Given.{Opened}
use Rattle.recipe.proofs.Laws.{numbered_for, direct_lines}
use Rattle.tables.specs.declared.scans.MessageSlot.{MessageSlot}
use Rattle.tables.proofs.boxes.Scans as boxes
use Rattle.tables.proofs.shaped_table.Laws as shapes
use Rattle.tables.specs.Tables.{FoundIn}
use Rattle.summary.specs.Summary.{as_figures, figures_of, summary_of, line_of, no_line, message_lines, line_if, message_line_of}
use Rattle.summary.specs.Summary.{direction_of, Directed, no_hops, hops_if, hops_lines, hops_of}

-- ---- the line of a message

module _ (r : Route) (n : Nest) (m : ℕ) (at : MessageSlot) (a : Accepted n) (p : FoundIn r n m at) where
  pub found_self : FoundIn r n at.number at
  found_self = subst (λ (k : ℕ). FoundIn r n k at) (sym p.number) p

  -- by the numbers of the code
  line_by : (sender taker from to : ℕ) → sender ≡ sender_of (plan_of r n) m → taker ≡ taker_of (plan_of r n) m
      → from ≡ (plan_of r n).processor_of (sender_of (plan_of r n) m) → to ≡ (plan_of r n).processor_of (taker_of (plan_of r n) m)
      → record { number = 0; sender = sender; taker = taker; from = from; to = to; words = at.words } ≡ line_of (plan_of r n) m
  line_by sender taker from to e f g h = rw (e, f, g, h, p.words) refl

  module _ (z : n.bounds ≡ 0) where
    is : plan_of r n ≡ box_plan r n
    is = plan_of_box r n a z

    pub from_is : sender_of (plan_of r n) m ≡ end_at r n 0 at.slot
    unfolding end_at
    from_is = ap (λ (x : Message). x.sender) (p.box z).1

    pub to_is : taker_of (plan_of r n) m ≡ end_at r n 1 at.slot
    unfolding end_at
    to_is = ap (λ (x : Message). x.taker) (p.box z).1

    box_held : at.words ≡ length (slot_parcel r n at.slot)
    box_held = p.words ∙ ap (λ (x : Message). length x.cells) (p.box z).1

    pub box_full : 0 < length (slot_parcel r n at.slot)
    box_full = omega (arith, box_held, p.full)

    pub box_words : at.words ≤ 16384
    box_words = omega (arith, box_held, boxes.parcel_few r n a at.slot)

    pub to_low : end_at r n 1 at.slot < box_tiles n
    to_low = omega (arith, (sound r n a).taker_low m p.low, ap (λ (q : Plan). q.tiles) is, to_is)

    pub from_low : end_at r n 0 at.slot < box_tiles n
    from_low = omega (arith, (sound r n a).forward m p.low, from_is, to_is, to_low)

    pub box_line_is : (sender taker from to : ℕ) → sender ≡ end_at r n 0 at.slot → taker ≡ end_at r n 1 at.slot
        → from ≡ processor_of n sender → to ≡ processor_of n taker
        → record { number = 0; sender = sender; taker = taker; from = from; to = to; words = at.words } ≡ line_of (plan_of r n) m
    box_line_is sender taker from to e f g h =
        line_by sender taker from to (e ∙ sym from_is) (f ∙ sym to_is) (owner sender from g (e ∙ sym from_is)) (owner taker to h (f ∙ sym to_is))
      where
        owner : (t b : ℕ) → b ≡ processor_of n t → {u : ℕ} → t ≡ u → b ≡ (plan_of r n).processor_of u
        owner t b g {u} e = g ∙ (ap (processor_of n) e ∙ ap (λ (q : Plan). q.processor_of u) (sym is))

  module _ (z : n.bounds ≢ 0) where
    shape_held : at.words ≡ length (shaped_slot_parcel n at.slot)
    shape_held = p.words ∙ ap (λ (x : Message). length x.cells) (p.shape z).1

    pub shape_full : 0 < length (shaped_slot_parcel n at.slot)
    shape_full = omega (arith, shape_held, p.full)

    pub shape_words : at.words ≤ 16384
    shape_words = omega (arith, shape_held, shapes.parcel_few n a at.slot)

    to_shape : taker_of (plan_of r n) m ≡ shaped_slot_taker n at.slot
    to_shape = ap (λ (x : Message). x.taker) (p.shape z).1

  module _ (z : n.bounds ≢ 0) (d : r ≡ Direct) where
    pub shape_taker_low : (t : ℕ) → t ≡ shaped_slot_taker n at.slot → t < tiles n
    shape_taker_low t e =
        let low = subst (λ (q : Route). taker_of (plan_of r n) m < (plan_of q n).tiles) d ((sound r n a).taker_low m p.low) in
        omega (arith, low, e, to_shape z)

    pub shape_line_is : (w sender taker from to : ℕ) → w ≡ ways r n → sender ≡ at.slot / w → taker ≡ shaped_slot_taker n at.slot
        → from ≡ processor_of n (box_tile n sender) → to ≡ processor_of n (box_tile n taker)
        → record { number = 0; sender = sender; taker = taker; from = from; to = to; words = at.words } ≡ line_of (plan_of r n) m
    shape_line_is w sender taker from to v e f g h =
        let ways_are = v ∙ ap (λ (q : Route). ways q n) d in
        let s : sender ≡ sender_of (plan_of r n) m =
        e ∙ (ap (λ (k : ℕ). at.slot / k) ways_are ∙ sym (ap (λ (x : Message). x.sender) (p.shape z).1)) in
        let t : taker ≡ taker_of (plan_of r n) m = f ∙ sym (to_shape z) in
        line_by sender taker from to s t (owner sender from g s) (owner taker to h t)
      where
        owner : (t b : ℕ) → b ≡ processor_of n (box_tile n t) → {u : ℕ} → t ≡ u → b ≡ (plan_of r n).processor_of u
        owner t b g {u} e = g ∙ (ap (λ (k : ℕ). processor_of n (box_tile n k)) e ∙ ap (λ (q : Route). (plan_of q n).processor_of u) (sym d))

-- ---- the hops of a message

-- its direction by the places of its tiles
direction_by : (n : Nest) (m v : ℕ) → (1 ≤ v) × (v ≤ directions n)
    → ((j : ℕ) → j < n.spread → stands_at n (taker_of (plan_of Direct n) m) j ≡ stands_at n (sender_of (plan_of Direct n) m) j + ahead n v j)
    → direction_of n m ≡ v
unfolding direction_of ahead directions
direction_by n m v a h =
    rank_same two _ (ahead n v) n.spread (λ j l. omega (arith, h j l))
    ∙ rank_place two n.spread v (λ j l. omega arith) (omega (arith, a.0, a.1))

pub directed : (n : Nest) → Directed n
directed n =
    record {
      is = λ m t v c. direction_by n m v c.direction
          (λ j l. c.follows.column j l ∙ ap (λ (u : ℕ). stands_at n u j + ahead n v j) (sym c.sender));
    }

-- without bounds, and with them
module _ (n : Nest) (m : ℕ) (at : MessageSlot) (a : Accepted n) (p : FoundIn Direct n m at) where
  abbrev s : ℕ
  s = at.slot

  module _ (z : n.bounds ≡ 0) where
    taker_from : (j : ℕ) → j < n.dimensions
        → tile_place n (slot_taker Direct n s) j ≡ tile_place n (slot_tile Direct n s) j + ahead n (slot_direction n s) j
    taker_from j l =
        let c = full_in (slot_parcel Direct n s) (box_full Direct n m at a p z) in
        ap (λ (t : ℕ). tile_place n t j) (slot_to n Direct s)
        ∙ taker_at_lem n a Direct (slot_tile Direct n s) (slot_direction n s) c.0 (slot_tile_low n Direct s (p.box z).0)
        (rw (slot_cells_lem n Direct s) at (parcel_cells Direct n s c.0 c.1).1) j l

    stands : (t u j : ℕ) → t ≡ u → stands_at n t j ≡ tile_place n u j
    stands t u j e = ap (λ (k : ℕ). tile_place n k j) (box_tile_is n a z t ∙ e)

    box_direction : direction_of n m ≡ slot_direction n s
    box_direction =
        direction_by n m (slot_direction n s) (slot_direction_pos n s, slot_direction_low n s (p.box z).0)
        (λ j l. omega (
          arith,
          taker_from j (omega (arith, a.spread_low)),
          stands (taker_of (plan_of Direct n) m) (slot_taker Direct n s) j (ap (λ (x : Message). x.taker) (p.box z).1),
          stands (sender_of (plan_of Direct n) m) (slot_tile Direct n s) j (ap (λ (x : Message). x.sender) (p.box z).1),
        ))

  module _ (z : n.bounds ≢ 0) where
    shape_column : (j : ℕ) → j < n.spread → stands_at n (shaped_slot_taker n s) j ≡ stands_at n (slot_tile Direct n s) j + ahead n (slot_direction n s) j
    unfolding shaped_slot_taker shaped_slot_parcel
    shape_column j l =
        let c = full_in (shaped_slot_parcel n s) (shape_full Direct n m at a p z) in
        let b = unless_in (shaped_home n s) (shaped_parcel n (slot_box n s) (slot_direction n s)) c.0 c.1 in
        let g = parcel_crossed n (slot_box n s) (slot_direction n s) c.0 b.1 in
        shaped_taker_column n a (slot_box n s) (slot_direction n s) c.0 g.0 g.1 j l

    shape_direction : direction_of n m ≡ slot_direction n s
    shape_direction =
        direction_by n m (slot_direction n s) (slot_direction_pos n s, shaped_direction_low n s (p.shape z).0)
        (λ j l. omega (
          arith,
          shape_column j l,
          ap (λ (x : Message). stands_at n x.taker j) (p.shape z).1,
          ap (λ (x : Message). stands_at n x.sender j) (p.shape z).1,
        ))

  -- its direction is its slot's
  direction_is : direction_of n m ≡ slot_direction n s
  direction_is = go (ℕ_discrete n.bounds 0)
    where
      go : Dec (n.bounds ≡ 0) → direction_of n m ≡ slot_direction n s
      go (yes z) = box_direction z
      go (no z) = shape_direction z

-- the same by what the code has
pub slot_hops : (n : Nest) (z : Sizes) (m : ℕ) → Sized n z → z.route ≡ Direct → (at : MessageSlot) → FoundIn z.route n m at
    → (k : ℕ) → k ≡ hops n (at.slot % z.ways + 1) → k ≡ hops n (direction_of n m)
slot_hops n z m h e at p k q =
    q ∙ ap (λ (w : ℕ). hops n (at.slot % w + 1)) (rw e at h.ways) ∙ ap (hops n) (sym (direction_is n m at h.accepted (rw e at p)))

-- ---- what the offered calls answer

pub summary_refused : (r : Route) (bytes : List ℕ) (k : ℕ) → k ≡ first_of (lines_for r bytes) → k ≢ 0 → as_figures (refused k) ≡ summary_of r bytes
unfolding summary_of figures_if
summary_refused r bytes zero e h = absurd (h refl)
summary_refused r bytes (suc k) e h = ap (λ (i : ℕ). as_figures (figures_if i (plan_of r (nest_of bytes)))) e

pub summary_is : (bytes : List ℕ) (word : ℕ) (p : Plan) → Opened bytes word p → figures_of p ≡ summary_of (route_of word) bytes
unfolding summary_of figures_if
summary_is bytes word p o = rw (o.is, o.none) refl

-- some lines, then 11 for message m of n
module _ (a : List Line) (ok : Numbered a) (m n : ℕ) where
  abbrev all : List Line
  all = a ++ (line 11 (not (ltb m n)) ∷ [])

  first_refused : (k : ℕ) → k ≡ first_of a → k ≢ 0 → k ≡ first_of all
  first_refused k e h = e ∙ sym (first_some a _ (λ z. h (e ∙ z)))

  module _ (e : first_of a ≡ 0) where
    first_none : n ≤ m → 11 ≡ first_of all
    first_none l = sym (first_behind a _ ok e ∙ first_true 11 (not (ltb m n)) [] (not-false (le-ltb m n l)))

    first_is : m < n → 0 ≡ first_of all
    unfolding first_of
    first_is l = sym (first_behind a _ ok e ∙ first_false 11 (not (ltb m n)) [] (not-true (lt-ltb m n l)))

module _ (r : Route) (bytes : List ℕ) (m : ℕ) where
  pub message_refused : (k : ℕ) → k ≡ first_of (lines_for r bytes) → k ≢ 0 → no_line k ≡ message_line_of r bytes m
  unfolding message_line_of message_lines line_if
  message_refused zero e h = absurd (h refl)
  message_refused (suc k) e h =
      ap (λ (i : ℕ). line_if i (plan_of r (nest_of bytes)) m) (first_refused (lines_for r bytes) (numbered_for r bytes) m _ (suc k) e h)

module _ (bytes : List ℕ) (word m : ℕ) (p : Plan) (o : Opened bytes word p) where
  abbrev r : Route
  r = route_of word

  pub message_none : count p ≤ m → no_line 11 ≡ message_line_of r bytes m
  unfolding message_line_of message_lines line_if
  message_none l =
      ap (λ (i : ℕ). line_if i (plan_of r (nest_of bytes)) m) (first_none (lines_for r bytes) (numbered_for r bytes) m _ o.none (rw o.is at l))

  pub message_is : m < count p → line_of p m ≡ message_line_of r bytes m
  unfolding message_line_of message_lines line_if
  message_is l =
      ap (λ (q : Plan). line_of q m) o.is
      ∙ ap (λ (i : ℕ). line_if i (plan_of r (nest_of bytes)) m) (first_is (lines_for r bytes) (numbered_for r bytes) m _ o.none (rw o.is at l))

-- the route that the word 0 names
pub direct_route : {q : Route} → q ≡ route_of 0 → q ≡ Direct
unfolding route_of
direct_route e = e

module _ (bytes : List ℕ) (m : ℕ) where
  pub hops_refused : (k : ℕ) → k ≡ first_of (lines_for (route_of 0) bytes) → k ≢ 0 → no_hops k ≡ hops_of bytes m
  unfolding hops_of hops_lines hops_if
  hops_refused zero e h = absurd (h refl)
  hops_refused (suc k) e h = ap (λ (i : ℕ). hops_if i (nest_of bytes) m) (first_refused (read_lines bytes) (numbered bytes) m _ (suc k) (e ∙ direct_lines bytes) h)

  module _ (p : Plan) (o : Opened bytes 0 p) where
    none : first_of (read_lines bytes) ≡ 0
    none = sym (direct_lines bytes) ∙ o.none

    -- the hops are of the plan on the direct route
    direct : p ≡ plan_of Direct (nest_of bytes)
    unfolding route_of
    direct = o.is

    pub hops_none : count p ≤ m → no_hops 11 ≡ hops_of bytes m
    unfolding hops_of hops_lines hops_if
    hops_none l = ap (λ (i : ℕ). hops_if i (nest_of bytes) m) (first_none (read_lines bytes) (numbered bytes) m _ none (rw direct at l))

    pub hops_is : m < count p → (x : Nest) → x ≡ nest_of bytes → (k : ℕ) → k ≡ hops x (direction_of x m) → record { number = 0; hops = k } ≡ hops_of bytes m
    unfolding hops_of hops_lines hops_if
    hops_is l x h k c =
        ap (λ (i : ℕ). record { number = 0; hops = i }) c
        ∙ (ap (λ (y : Nest). record { number = 0; hops = hops y (direction_of y m) }) h
        ∙ ap (λ (i : ℕ). hops_if i (nest_of bytes) m) (first_is (read_lines bytes) (numbered bytes) m _ none (rw direct at l)))

pub figures_are : (r : Route) (n : Nest) (t m w : ℕ) → t ≡ (plan_of r n).tiles → m ≡ count (plan_of r n) → w ≡ words (plan_of r n)
    → record { number = 0; tiles = t; messages = m; words = w; steps = 2 * t + 2 * m } ≡ figures_of (plan_of r n)
figures_are r n t m w e f g = rw (e, f, g) refl
