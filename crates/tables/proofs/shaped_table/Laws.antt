-- Laws of the table of a nest with bounds: the lengths of parcels, processors' tiles, ends of messages.
use Prim.Native.Nat.{ℕ, zero, suc, ◌+◌, ◌*◌, ◌-◌, ◌/◌, ◌%◌, ◌≤◌, ◌<◌}
use mathlib.Core.Path.{◌≡◌, refl, sym, ap, subst, ◌∙◌}
use mathlib.Core.Logic.{◌⊎◌, inl, inr, ◌≢◌}
use mathlib.Core.Bool.{Bool, true, false}
use mathlib.Core.List.{List, []}
use native.Mathlib.Nat.{eq-or-lt_of_le, mul-le-mul_right, suc-mul, add-zero, add_assoc, mod-lt, mod-eq_of_lt, div-eq_of_lt, le-div_iff_mul-le}
use native.Mathlib.Nat.{div-lt_iff_lt-mul}
use native.Mathlib.Numerals.{add-one}
use native.Mathlib.Decide.{dec_lt}
use native.Mathlib.Omega.{arith}
use lib.ListN.{length, get_or, set, drop, length-set}
use lib.Seq.{get_or-set_same, get_or-drop, paste, paste-suc}
use Rattle.std.proofs.lemmas.List.{length-drop}
use Rattle.std.proofs.lemmas.List.Edits.{paste_none}
use Rattle.std.specs.List.{copy_within}
use lib.Dec.{eqb, ltb, leb}
use borrow.Author.Tests.{eq-eqb, ne_eqb, lt-ltb, le-ltb, leb-true}
use Rattle.base.specs.Tests.{◌and◌, pick, some, keep, those}
use Rattle.base.specs.Lists.{In}
use Rattle.base.proofs.Tests.{pick_true, pick_false, never_both, some_at, some_same}
use Rattle.base.proofs.Select.{keep_few, those_more, those_none, those_few, those_at}
use Rattle.machine.specs.Plan.{tiles_of, no_message}
use Rattle.nest.specs.declared.Nest.{Nest}
use Rattle.nest.specs.Accepted.{Accepted}
use Rattle.nest.specs.Nest.{tile_count, component, cells, box_tiles}
use Rattle.nest.specs.Places.{cell_place, tile_at, tile_place}
use Rattle.nest.specs.Shape.{tiles}
use Rattle.nest.proofs.Shapes.{box_tiles_most}
use Rattle.plan.specs.declared.Route.{Route}
use Rattle.plan.specs.declared.Route.TheVariants.{Direct}
use Rattle.plan.specs.Geometry.{processor_of}
use Rattle.plan.specs.Messages.{ahead, directions, ways, slot_tile, slot_direction, parcel, slot_cells, slot_taker, slot_parcel, messages_of}
use Rattle.plan.specs.Hops.{hops, alone}
use Rattle.plan.specs.Shaped.{box_tile, shaped_parcel, slot_box, shaped_slot_taker, shaped_home, shaped_slot_parcel, shaped_message, shaped_slots, plan_of}
use Rattle.plan.proofs.Listed as listed
use Rattle.plan.proofs.Slots.{full_in}
use Rattle.plan.proofs.Homes.{slot_parcel_is}
use Rattle.plan.proofs.Parcels.{ahead_low, slot_low, slot_tile_lem, slot_way}
use Rattle.plan.proofs.Tiles.{quotient_low, box_tile_of_low, tile_place_low}
use Rattle.plan.proofs.ShapedTiles.{box_tile_lt}
use Rattle.plan.proofs.ShapedParcels.{parcel_crossed, shaped_taker_low}
use Rattle.plan.proofs.ShapedTaker.{step_of, taker_step}
use Rattle.plan.proofs.ShapedSlots.{in_box, slot_at_tile, slot_at_direction, shaped_tile_low}
use Rattle.plan.proofs.ShapedDues.{shaped_slot_parcel_is, due_at}
use Rattle.layout.specs.Sizes.{along, end_at, Stepped}
use Rattle.layout.specs.Places.{Has}
use Rattle.layout.proofs.Steps.{ways_few, ways_pos, step_few}
use Rattle.layout.proofs.Cells.{count_most}
use Rattle.parcels.proofs.Sendings.{hop, alone_no, alone_yes}
use Rattle.tables.specs.declared.scans.MessageSlot.{MessageSlot}
use Rattle.tables.specs.scans.Scans.{Sheet, Lengths, Found}
use Rattle.tables.proofs.scans.Laws.{seen, seen_start, seen_none, seen_hit, seen_miss}
use Rattle.tables.specs.shaped_table.Table.{Owned, Like, Filling, ShapedTable, Steps, end_of, Ranged, at_end}
use Rattle.tables.proofs.shaped_table.Existing.{other}
pub use Rattle.tables.proofs.shaped_table.Existing.{marks_all, zeros_long, Listing, listing_none, listing_room, listing_turn, listing_end}
pub use Rattle.tables.proofs.shaped_table.Existing.{owned_none, owned_more, owned_end}

module _ (x : Nest) (ok : Accepted x) where
  -- ---- the lengths

  pub slots_few : shaped_slots x ≤ 7168
  slots_few = let p : tiles x * directions x ≤ 1024 * directions x = mul-le-mul_right (directions x) ok.tiles_most in omega (arith, ways_few x ok Direct)

  set_few : (u v : ℕ) → length (shaped_parcel x u v) ≤ cells x
  unfolding shaped_parcel
  set_few u v = keep_few _ (cells x)

  pub parcel_few : (s : ℕ) → length (shaped_slot_parcel x s) ≤ 16384
  unfolding shaped_slot_parcel pick
  parcel_few s = go (shaped_home x s)
    where
      go : (t : Bool) → length (pick t [] (shaped_parcel x (slot_box x s) (slot_direction x s))) ≤ 16384
      go true = omega arith
      go false = omega (arith, ok.cells_most, set_few (slot_box x s) (slot_direction x s))

  pub filling_none : (lens : List ℕ) → Owned x lens (tiles x) → Filling x lens (0 * directions x)
  filling_none lens f = record { owned = f; low = omega arith; each = λ s l. absurd (omega arith) }

  pub filling_more : (lens : List ℕ) (s v : ℕ) → Filling x lens s → s < shaped_slots x → v ≡ length (shaped_slot_parcel x s) → Filling x (set lens s v) (s + 1)
  filling_more lens s v f l e =
      record {
        owned = record {
          tiled = record {
            numbers = record {
              long = length-set lens s v ∙ f.owned.tiled.numbers.long;
              low = omega arith;
              boxes = λ i h. other lens s (7168 + i) v (λ q. omega (arith, slots_few)) ∙ f.owned.tiled.numbers.boxes i h;
            };
            count = other lens s 9216 v (λ q. omega (arith, slots_few)) ∙ f.owned.tiled.count;
          };
          owners = λ i h. other lens s (8192 + i) v (λ q. omega (arith, slots_few)) ∙ f.owned.owners i h;
        };
        low = omega arith;
        each = λ i h. go i (eq-or-lt_of_le (below i h));
      }
    where
      below : (i : ℕ) → i < s + 1 → i ≤ s
      below i h = omega arith

      go : (i : ℕ) → (i ≡ s) ⊎ (i < s) → get_or (set lens s v) i 0 ≡ length (shaped_slot_parcel x i)
      go i (inl z) = rw z (get_or-set_same lens s v 0 (omega (arith, f.owned.tiled.numbers.long, slots_few)) ∙ e)
      go i (inr z) = other lens s i v (λ m. omega arith) ∙ f.each i z

  pub filling_end : (lens : List ℕ) (s : ℕ) → Filling x lens s → shaped_slots x ≤ s → ShapedTable x lens
  filling_end lens s f h = let z : s ≡ shaped_slots x = omega (arith, f.low) in rw z at f

  pub tile_slot : (t w : ℕ) → t < tiles x → w < directions x → t * directions x + w < shaped_slots x
  tile_slot t w h l = omega (arith, mul-le-mul_right (directions x) h, suc-mul t (directions x))

  -- the slot of tile t and a way
  module _ (t w u : ℕ) (h : t < tiles x) (l : w < directions x) (e : box_tile x t ≡ u) where
    s : ℕ
    s = t * directions x + w

    slot_is : (slot_tile Direct x s ≡ t) × (slot_direction x s ≡ w + 1)
    unfolding s
    slot_is =
        let z : w + 1 - 1 ≡ w = omega arith in
        (rw z at (slot_at_tile x t (w + 1) h (omega arith) (omega arith)), rw z at (slot_at_direction x t (w + 1) h (omega arith) (omega arith)))

    parcel_is : shaped_slot_parcel x s ≡ pick (alone Direct x s) [] (shaped_parcel x u (w + 1))
    parcel_is = shaped_slot_parcel_is x ok s ∙ ap (pick (alone Direct x s) []) (rw (slot_is.0, slot_is.1, e) refl)

    way_is : s % directions x ≡ w
    way_is = let d = slot_is.1 in omega arith

    -- it depends on the way, and on how many cells the tile sends along it
    pub slot_length : length (shaped_slot_parcel x (t * directions x + w)) ≡ pick (eqb (hops x (w + 1)) 0) 0 (length (shaped_parcel x u (w + 1)))
    unfolding s pick
    slot_length =
        ap length parcel_is
        ∙ picked (alone Direct x s) (shaped_parcel x u (w + 1))
        ∙ ap (λ (i : ℕ). pick (eqb (hops x i) 0) 0 (length (shaped_parcel x u (w + 1)))) slot_is.1
      where
        picked : (b : Bool) (l : List ℕ) → length (pick b [] l) ≡ pick b 0 (length l)
        picked true l = refl
        picked false l = refl

    -- a tile with the box's parcels: its slot's is that of the box's slot
    pub whole_slot : u < box_tiles x → shaped_parcel x u (w + 1) ≡ parcel x u (w + 1)
        → shaped_slot_parcel x (t * directions x + w) ≡ slot_parcel Direct x (u * directions x + w)
    unfolding s slot_cells
    whole_slot lu q =
        let a : slot_tile Direct x (u * directions x + w) ≡ u = slot_tile_lem x Direct u w lu l in
        let b : slot_direction x (u * directions x + w) ≡ w + 1 = ap (λ (i : ℕ). i + 1) (slot_way x Direct u w lu l) in
        let same : parcel x u (w + 1) ≡ slot_cells Direct x (u * directions x + w) = rw (a, b) refl in
        parcel_is
        ∙ ap (pick (alone Direct x s) []) (q ∙ same)
        ∙ ap (λ (i : ℕ). pick (eqb (hops x i) 0) [] (slot_cells Direct x (u * directions x + w))) (slot_is.1 ∙ sym b)
        ∙ sym (slot_parcel_is x ok Direct (u * directions x + w) (slot_low x Direct u w lu l))

    module _ (steps : List ℕ) (along-is : Has steps (along Direct x w) x.dimensions) where
      hops_is : some (λ j. eqb (get_or steps j 0) 1 and ltb 1 (get_or x.counts j 0)) x.spread ≡ some (hop x s Direct) x.spread
      hops_is = some_same _ _ x.spread
          (λ j k. rw way_is (ap (λ (a : ℕ). eqb a 1 and ltb 1 (get_or x.counts j 0)) (along-is.each j (omega (arith, ok.spread_low)))))

      pub stays_none : some (λ j. eqb (get_or steps j 0) 1 and ltb 1 (get_or x.counts j 0)) x.spread ≡ false → ◌≡◌ {A = ℕ} 0
          (length (shaped_slot_parcel x (t * directions x + w)))
      unfolding s
      stays_none q = sym (ap length (parcel_is ∙ pick_true _ _ _ (alone_yes x s Direct (in_box x s (tile_slot t w h l)) (sym hops_is ∙ q))))

      pub leaves_all : some (λ j. eqb (get_or steps j 0) 1 and ltb 1 (get_or x.counts j 0)) x.spread ≡ true → shaped_slot_parcel x (t * directions x + w)
          ≡ shaped_parcel x u (w + 1)
      unfolding s
      leaves_all q = parcel_is ∙ pick_false _ _ _ (alone_no x s Direct (sym hops_is ∙ q))

  -- ---- a way that leads beyond the last tile

  module _ (u w : ℕ) (at steps across : List ℕ) (here : Has at (tile_place x u) x.dimensions) (along-is : Has steps (along Direct x w) x.dimensions)
      (counts : (j : ℕ) → j < x.dimensions → get_or across j 0 ≡ tile_count x j) where
    pub steps_low : (j : ℕ) → j < x.spread → get_or at j 0 + get_or steps j 0 ≤ 1024
    unfolding along
    steps_low j l =
        let d : j < x.dimensions = omega (arith, ok.spread_low) in
        let e : get_or steps j 0 ≡ ahead x (w + 1) j = along-is.each j d in
        omega (arith, e, here.each j d, tile_place_low x ok u j d, count_most x ok j d, ahead_low x (w + 1) j l)

    pub beyond_none : some (λ j. leb (get_or across j 0) (get_or at j 0 + get_or steps j 0)) x.spread ≡ true → length (shaped_parcel x u (w + 1)) ≡ 0
    unfolding along
    beyond_none t = none (dec_lt 0 (length (shaped_parcel x u (w + 1))))
      where
        r : (j : ℕ) × (j < x.spread) × (leb (get_or across j 0) (get_or at j 0 + get_or steps j 0) ≡ true)
        r = some_at (λ j. leb (get_or across j 0) (get_or at j 0 + get_or steps j 0)) x.spread t

        inner : r.0 < x.dimensions
        inner = omega (arith, ok.spread_low, r.1)

        over : get_or across r.0 0 ≤ get_or at r.0 0 + get_or steps r.0 0
        over = leb-true _ _ r.2

        step : get_or steps r.0 0 ≡ ahead x (w + 1) r.0
        step = along-is.each r.0 inner

        go : (c : ℕ) → In c (shaped_parcel x u (w + 1)) → ⊥
        go c i =
            let g = parcel_crossed x u (w + 1) c i in
            omega (
              arith,
              over,
              step,
              quotient_low x ok (cell_place x c r.0 + component x g.0 r.0) r.0 inner (g.1.held.stays r.0 inner),
              g.1.held.steps r.0 r.1,
              here.each r.0 inner,
              counts r.0 inner,
            )

        none : Dec (0 < length (shaped_parcel x u (w + 1))) → length (shaped_parcel x u (w + 1)) ≡ 0
        none (yes k) = let f = full_in (shaped_parcel x u (w + 1)) k in absurd (go f.0 f.1)
        none (no k) = omega arith

  -- ---- the lengths of a tile like an earlier one

  module _ (lens : List ℕ) (t p n : ℕ) (e : n ≡ directions x) (h : t < tiles x) (g : Like x t p) (f : Filling x lens (t * directions x)) where
    here : t * n ≡ t * directions x
    here = ap (λ (i : ℕ). t * i) e

    back : p * n ≡ p * directions x
    back = ap (λ (i : ℕ). p * i) e

    pub tile_rooms : (t * n + n ≤ 7168) × (p * n + n ≤ 7168)
    tile_rooms =
        let a : t * directions x + directions x ≤ shaped_slots x = omega (arith, mul-le-mul_right (directions x) h, suc-mul t (directions x)) in
        let b : p * directions x ≤ t * directions x = mul-le-mul_right (directions x) (omega (arith, g.later)) in
        (omega (arith, slots_few, here), omega (arith, slots_few, back))

    copied : (k : ℕ) → k ≤ n → Filling x (paste lens (t * n) (drop (p * n) lens) k) (t * directions x + k)
    copied zero l =
        rw (add-zero (t * directions x))
        (subst (λ (z : List ℕ). Filling x z (t * directions x)) (paste_none lens (t * n) (drop (p * n) lens)) f)
    copied (suc k) l =
        let next : t * directions x + k + 1 ≡ t * directions x + suc k = omega arith in
        subst (λ (i : ℕ). Filling x (paste lens (t * n) (drop (p * n) lens) (suc k)) i) next
        (subst (λ (z : List ℕ). Filling x z (t * directions x + k + 1)) (sym more)
        (filling_more before (t * directions x + k) value (copied k (omega arith)) (tile_slot t k h (omega arith)) is))
      where
        before : List ℕ
        before = paste lens (t * n) (drop (p * n) lens) k

        value : ℕ
        value = get_or (drop (p * n) lens) k 0

        is : value ≡ length (shaped_slot_parcel x (t * directions x + k))
        is =
            get_or-drop (p * n) lens k 0
            ∙ (ap (λ (i : ℕ). get_or lens (i + k) 0) back
            ∙ (f.each (p * directions x + k) (omega (arith, mul-le-mul_right (directions x) g.later, suc-mul p (directions x)))
            ∙ sym (g.same k (omega arith))))

        more : paste lens (t * n) (drop (p * n) lens) (suc k) ≡ set before (t * directions x + k) value
        more =
            sym (paste-suc lens (t * n) (drop (p * n) lens) k 0 (omega (arith, tile_rooms, f.owned.tiled.numbers.long))
            (omega (arith, tile_rooms, f.owned.tiled.numbers.long, length-drop (p * n) lens)))
            ∙ ap (λ (i : ℕ). set before (i + k) value) here

    pub tile_copied : Filling x (copy_within lens (p * n) (p * n + n) (t * n)) ((t + 1) * directions x)
    tile_copied =
        let long : n ≡ p * n + n - p * n = omega arith in
        let next : t * directions x + n ≡ (t + 1) * directions x = rw (add-one t) (omega (arith, suc-mul t (directions x))) in
        subst (λ (k : ℕ). Filling x (paste lens (t * n) (drop (p * n) lens) k) ((t + 1) * directions x)) long
        (subst (λ (i : ℕ). Filling x (paste lens (t * n) (drop (p * n) lens) n) i) next (copied n (omega arith)))

  -- ---- scans

  module _ (lens : List ℕ) (f : ShapedTable x lens) where
    pub sheet : (n : ℕ) → n ≤ shaped_slots x → Sheet lens n
    sheet n h =
        record {
          long = f.owned.tiled.numbers.long;
          few = omega (arith, slots_few);
          short = λ s l. omega (arith, f.each s (omega arith), parcel_few s);
        }

    pub lengths : (n : ℕ) → n ≤ shaped_slots x → Lengths (shaped_message x) n lens
    lengths n h = record { each = λ s l. f.each s (omega arith) }

  -- ---- a processor's tiles

  abbrev pub owner : ℕ → ℕ
  owner t = processor_of x (box_tile x t)

  pub own_turn : (p t n o n' : ℕ) → n ≡ length (those owner p t) → o ≡ owner t → ((o ≡ p) × (n' ≡ n + 1)) ⊎ ((o ≢ p) × (n' ≡ n)) → n'
      ≡ length (those owner p (t + 1))
  own_turn p t n o n' e q (inl (h, k)) = rw (add-one t) (omega (arith, those_more owner p t (sym q ∙ h)))
  own_turn p t n o n' e q (inr (h, k)) = rw (add-one t) (k ∙ e ∙ ap length (sym (those_none owner p t (λ z. h (q ∙ z)))))

  pub own_start : (p : ℕ) → ◌≡◌ {A = ℕ} 0 (length (those owner p 0))
  unfolding those keep
  own_start p = refl

  pub own_end : (p t n : ℕ) → t ≤ tiles x → tiles x ≤ t → n ≡ length (those owner p t) → (n ≡ length (tiles_of (plan_of Direct x) p)) × (n ≤ 1024)
  own_end p t n h k e =
      let z : t ≡ tiles x = omega arith in
      let m : n ≡ length (those owner p (tiles x)) = e ∙ ap (λ (a : ℕ). length (those owner p a)) z in
      (m, omega (arith, those_few owner p (tiles x), ok.tiles_most))

  pub own_found : (p t f n : ℕ) → t < tiles x → n ≡ length (those owner p t) → n ≡ f → owner t ≡ p
      → (t ≡ get_or (tiles_of (plan_of Direct x) p) f 0) × (t < tiles x)
  own_found p t f n h e q o = (sym (rw (sym q ∙ e) (those_at owner p (tiles x) t h o)), h)

  pub own_nowhere : (p t f n : ℕ) → t ≤ tiles x → tiles x ≤ t → n ≡ length (those owner p t) → n ≤ f → f < length (tiles_of (plan_of Direct x) p) → ⊥
  own_nowhere p t f n h k e l m = let z : t ≡ tiles x = omega arith in omega (arith, ap (λ (a : ℕ). length (those owner p a)) z)

  -- ---- the ends of a slot's message

  module _ (s : ℕ) (low : s < shaped_slots x) (full : 0 < length (shaped_slot_parcel x s)) where
    a_cell : (c : ℕ) × In c (shaped_parcel x (slot_box x s) (slot_direction x s))
    unfolding pick
    a_cell = full_in (shaped_parcel x (slot_box x s) (slot_direction x s)) (go (alone Direct x s) (rw (shaped_slot_parcel_is x ok s) at full))
      where
        go : (t : Bool) → 0 < length (pick t [] (shaped_parcel x (slot_box x s) (slot_direction x s)))
            → 0 < length (shaped_parcel x (slot_box x s) (slot_direction x s))
        go true h = absurd (omega arith)
        go false h = h

    abbrev number : ℕ
    number = slot_box x s + step_of x (slot_direction x s)

    pub end_above : (t : ℕ) → t < tiles x → box_tile x t < number → shaped_slot_taker x s ≢ t
    end_above t h l e = let k = (due_at x ok s low a_cell.0 a_cell.1 t h).0 e in omega (arith, k.0)

    pub end_before : (t : ℕ) → suc t < tiles x → number ≤ box_tile x t → shaped_slot_taker x s ≢ suc t
    end_before t h l e = let k = (due_at x ok s low a_cell.0 a_cell.1 (suc t) h).0 e in omega (arith, k.1 t refl)

    pub end_here : (t : ℕ) → t < tiles x → number ≤ box_tile x t → ((w : ℕ) → suc w ≡ t → box_tile x w < number) → shaped_slot_taker x s ≡ t
    end_here t h l b = (due_at x ok s low a_cell.0 a_cell.1 t h).1 (l, b)

  -- ---- as the code has them

  pub ways_are : (z : ℕ) (r : Route) → z ≡ ways r x → r ≡ Direct → z ≡ directions x
  ways_are z r e d = e ∙ ap (λ (q : Route). ways q x) d

  pub slots_code : (n w : ℕ) → n ≡ tiles x → w ≡ directions x → n * w ≡ shaped_slots x
  slots_code n w e f = rw (e, f) refl

  pub slot_place : (t n w : ℕ) → n ≡ directions x → t < tiles x → w < n → (t * n ≤ 7168) × (t * n + w < 7168)
  slot_place t n w e h l =
      let q : t * n ≡ t * directions x = ap (λ (a : ℕ). t * a) e in
      (omega (arith, tile_slot t w h (omega arith), slots_few), omega (arith, tile_slot t w h (omega arith), slots_few))

  pub fill_step : (lens : List ℕ) (t n w v : ℕ) → n ≡ directions x → Filling x lens (t * directions x + w) → t < tiles x → w < n
      → v ≡ length (shaped_slot_parcel x (t * directions x + w)) → Filling x (set lens (t * n + w) v) (t * directions x + (w + 1))
  fill_step lens t n w v e f h l is =
      rw (e, ← add_assoc (t * directions x) w 1) (filling_more lens (t * directions x + w) v f (tile_slot t w h (omega arith)) is)

  pub fill_next : (lens : List ℕ) (t n w : ℕ) → n ≡ directions x → w ≤ n → n ≤ w → Filling x lens (t * directions x + w) → Filling x lens
      ((t + 1) * directions x)
  fill_next lens t n w e h k f =
      let z : t * directions x + w ≡ (t + 1) * directions x = next t (directions x) w (omega arith) in rw z at f
    where
      next : (t d v : ℕ) → v ≡ d → t * d + v ≡ (t + 1) * d
      next t d v e = rw (add-one t, e) (sym (suc-mul t d))

  pub steps_are : (r : Route) (l : List ℕ) → r ≡ Direct → Stepped r x 1 l → Steps x l
  unfolding end_at slot_taker
  steps_are r l d f = record { each = λ w h. go w h (rw d at f) }
    where
      some_tile : 1 ≤ box_tiles x
      some_tile = omega (arith, box_tile_of_low x ok 0)

      go : (w : ℕ) → w < directions x → Stepped Direct x 1 l → get_or l w 0 ≡ tile_at x (ahead x (w + 1))
      go w h q =
          let low : w < box_tiles x * directions x = omega (arith, mul-le-mul_right (directions x) some_tile) in
          let m : w % directions x ≡ w = mod-eq_of_lt h in
          let z : w / directions x ≡ 0 = div-eq_of_lt h in
          let e = q.each w low in
          let k = taker_step x ok (w / directions x) (w % directions x + 1) (omega (arith, some_tile)) in
          let y : get_or l (w % directions x) 0 ≡ step_of x (w % directions x + 1) = omega (arith, e, k) in
          rw m at y

  pub step_most : (l : List ℕ) → Steps x l → (w : ℕ) → w < directions x → get_or l w 0 ≤ 65536
  unfolding along
  step_most l f w h = rw (f.each w h) (step_few x ok Direct w)

  -- ---- the ends of a slot's message by the numbers of the code: w ways, the sender's number in the box and its step

  module _ (s w : ℕ) (e : w ≡ directions x) (low : s < shaped_slots x) where
    pub sender_low : s / w < tiles x
    sender_low = rw e (shaped_tile_low x s low)

    pub some_ways : 0 < w
    some_ways = omega (arith, ways_pos x ok Direct)

    pub way_low : s % w < directions x
    way_low = omega (arith, mod-lt s some_ways)

    pub end_sender : (side tile : ℕ) → side ≡ 0 → eqb (s / w) tile ≡ eqb (end_of side (shaped_message x s)) tile
    end_sender side tile z = rw (z, e) refl

    pub end_no : (side tile : ℕ) → (side ≡ 0 → ⊥) → shaped_slot_taker x s ≢ tile → false ≡ eqb (end_of side (shaped_message x s)) tile
    end_no zero tile f h = absurd (f refl)
    end_no (suc side) tile f h = sym (ne_eqb (shaped_slot_taker x s) tile h)

    pub end_yes : (side tile : ℕ) → (side ≡ 0 → ⊥) → shaped_slot_taker x s ≡ tile → true ≡ eqb (end_of side (shaped_message x s)) tile
    end_yes zero tile f h = absurd (f refl)
    end_yes (suc side) tile f h = sym (eq-eqb (shaped_slot_taker x s) tile h)

    module _ (steps : List ℕ) (st : Steps x steps) (from number : ℕ) (own : from ≡ box_tile x (s / w)) (sum : number ≡ from + get_or steps (s % w) 0)
        (full : 0 < length (shaped_slot_parcel x s)) where
      number_is : number ≡ slot_box x s + step_of x (slot_direction x s)
      number_is =
          let d : get_or steps (s % directions x) 0 ≡ step_of x (slot_direction x s) = st.each (s % directions x) (rw e at way_low) in
          sum ∙ rw (own, e) (ap (λ (a : ℕ). slot_box x s + a) d)

      pub taker_above : (t : ℕ) → t < tiles x → box_tile x t < number → shaped_slot_taker x s ≢ t
      taker_above t h l = end_above s low full t h (omega (arith, number_is))

      pub taker_here : (t : ℕ) → t < tiles x → number ≤ box_tile x t → ((i : ℕ) → i < t → box_tile x i < number) → shaped_slot_taker x s ≡ t
      taker_here t h l b = end_here s low full t h (omega (arith, number_is)) (λ i z. omega (arith, number_is, b i (omega arith)))

      pub taker_first : (t : ℕ) → t ≡ 0 → t < tiles x → number ≤ box_tile x t → shaped_slot_taker x s ≡ t
      taker_first t z h l = taker_here t h l (λ i k. absurd (omega arith))

      -- above the tile before, or not
      pub taker_test : (side t before : ℕ) → (side ≡ 0 → ⊥) → (t ≡ 0 → ⊥) → t < tiles x → number ≤ box_tile x t → before ≡ box_tile x (t - 1)
          → ltb before number ≡ eqb (end_of side (shaped_message x s)) t
      taker_test side zero before f z h l b = absurd (z refl)
      taker_test side (suc t) before f z h l b = go (dec_lt before number)
        where
          q : suc t - 1 ≡ t
          q = omega arith

          b' : before ≡ box_tile x t
          b' = rw q at b

          go : Dec (before < number) → ltb before number ≡ eqb (end_of side (shaped_message x s)) (suc t)
          go (yes k) =
              lt-ltb before number k
              ∙ end_yes side (suc t) f (end_here s low full (suc t) h (omega (arith, number_is)) (λ i y. let z : i ≡ t = omega arith in
              rw z (omega (arith, number_is, b'))))
          go (no k) = le-ltb before number (omega arith) ∙ end_no side (suc t) f (end_before s low full t h (omega (arith, number_is, b')))

      -- some tile is there
      pub taker_some : (n : ℕ) → ((i : ℕ) → i < tiles x → box_tile x i < number) → n ≡ end_of 1 (shaped_message x s)
      unfolding shaped_slot_taker
      taker_some n b =
          let c = a_cell s low full in
          let g = parcel_crossed x (slot_box x s) (slot_direction x s) c.0 c.1 in
          let t = shaped_taker_low x ok (slot_box x s) (slot_direction x s) c.0 g.0 g.1 in
          absurd (taker_above (shaped_slot_taker x s) t (b (shaped_slot_taker x s) t) refl)

  -- ---- messages with a tile at one end

  pub at_end_lem : (side t : ℕ) → seen (shaped_message x) (shaped_slots x) (end_of side) t (shaped_slots x) ≡ length (at_end side (plan_of Direct x) t)
  at_end_lem zero t = refl
  at_end_lem (suc side) t = refl

  at_end_is : (side t : ℕ) → those (λ m. end_of side (get_or (messages_of (shaped_message x) (shaped_slots x)) m no_message)) t
      (length (messages_of (shaped_message x) (shaped_slots x)))
      ≡ at_end side (plan_of Direct x) t
  at_end_is zero t = refl
  at_end_is (suc side) t = refl

  module _ (side t : ℕ) where
    abbrev pub seen_to : ℕ → ℕ
    seen_to s = seen (shaped_message x) (shaped_slots x) (end_of side) t s

    pub seen_few : (s : ℕ) → seen_to s ≤ s
    seen_few s = omega (
      arith,
      those_few (λ m. end_of side (get_or (messages_of (shaped_message x) (shaped_slots x)) m no_message)) t
          (length (messages_of (shaped_message x) s)),
      listed.few (shaped_message x) s,
    )

    pub seen_turn : (s n n' : ℕ) (r : Bool) → s < shaped_slots x → n ≡ seen_to s
        → (r ≡ true → (0 < length (shaped_slot_parcel x s)) × (end_of side (shaped_message x s) ≡ t)) × (r ≡ false → 0 < length (shaped_slot_parcel x s)
        → end_of side (shaped_message x s) ≢ t)
        → ((r ≡ true) × (n' ≡ n + 1)) ⊎ ((r ≡ false) × (n' ≡ n)) → n' ≡ seen_to (s + 1)
    seen_turn s n n' r l e f (inl (h, q)) =
        let k = f.0 h in omega (arith, seen_hit (shaped_message x) (shaped_slots x) (end_of side) t s l k.0 k.1)
    seen_turn s n n' r l e f (inr (h, q)) = go (dec_lt 0 (length (shaped_slot_parcel x s)))
      where
        go : Dec (0 < length (shaped_slot_parcel x s)) → n' ≡ seen_to (s + 1)
        go (yes k) = omega (arith, seen_miss (shaped_message x) (shaped_slots x) (end_of side) t s l k (f.1 h k))
        go (no k) = omega (arith, seen_none (shaped_message x) (shaped_slots x) (end_of side) t s (omega arith))

    pub seen_end : (s n : ℕ) → s ≤ shaped_slots x → shaped_slots x ≤ s → n ≡ seen_to s → (n ≡ length (at_end side (plan_of Direct x) t)) × (n ≤ 7168)
    seen_end s n h k e =
        let z : s ≡ shaped_slots x = omega arith in
        (e ∙ ap seen_to z ∙ at_end_lem side t, omega (arith, seen_few s, slots_few))

    pub seen_nowhere : (s n j : ℕ) → s ≤ shaped_slots x → shaped_slots x ≤ s → n ≡ seen_to s → n ≤ j → j < length (at_end side (plan_of Direct x) t) → ⊥
    seen_nowhere s n j h k e l q = omega (arith, (seen_end s n h k e).0)

    -- slots that have it not
    seen_flat : (a k : ℕ) → a + k ≤ shaped_slots x
        → ((s : ℕ) → a ≤ s → s < a + k → 0 < length (shaped_slot_parcel x s) → end_of side (shaped_message x s) ≢ t) → seen_to a ≡ seen_to (a + k)
    seen_flat a zero h f = ap seen_to (sym (add-zero a))
    seen_flat a (suc k) h f =
        let q : a + suc k ≡ a + k + 1 = omega arith in
        seen_flat a k (omega arith) (λ s l m. f s l (omega arith))
        ∙ seen_turn (a + k) (seen_to (a + k)) (seen_to (a + k)) false (omega arith) refl
        ((λ z. absurd (never_both z refl)), λ z m. f (a + k) (omega arith) (omega arith) m) (inr (refl, refl))
        ∙ ap seen_to (sym q)

    module _ (first end : ℕ) (r : Ranged x side t first end) where
      pub range_start : ◌≡◌ {A = ℕ} 0 (seen_to first)
      range_start =
          let z : 0 + first ≡ first = omega arith in
          sym (seen_start (shaped_message x) (shaped_slots x) (end_of side) t)
          ∙ seen_flat 0 first (omega (arith, r.first_low, r.end_low)) (λ s l m. r.before s (omega arith)) ∙ ap seen_to z

      range_end : (s n : ℕ) → s ≤ end → end ≤ s → n ≡ seen_to s → n ≡ seen_to (shaped_slots x)
      range_end s n h k e =
          let z : s ≡ end = omega arith in
          let y : end + (shaped_slots x - end) ≡ shaped_slots x = omega (arith, r.end_low) in
          e ∙ ap seen_to z ∙ seen_flat end (shaped_slots x - end) (omega (arith, r.end_low)) (λ i l m. r.after i l (omega (arith, r.end_low))) ∙ ap seen_to y

      pub ranged_all : (s n : ℕ) → s ≤ end → end ≤ s → n ≡ seen_to s → (n ≡ length (at_end side (plan_of Direct x) t)) × (n ≤ 7168)
      ranged_all s n h k e = seen_end (shaped_slots x) n (omega arith) (omega arith) (range_end s n h k e)

      pub ranged_nowhere : (s n j : ℕ) → s ≤ end → end ≤ s → n ≡ seen_to s → n ≤ j → j < length (at_end side (plan_of Direct x) t) → ⊥
      ranged_nowhere s n j h k e l q = seen_nowhere (shaped_slots x) n j (omega arith) (omega arith) (range_end s n h k e) l q

    -- the j-th of them is the message of slot s
    pub seen_found : (s n j : ℕ) → s < shaped_slots x → n ≡ seen_to s → n ≡ j → 0 < length (shaped_slot_parcel x s) → end_of side (shaped_message x s) ≡ t
        → (p : MessageSlot) → Found (shaped_message x) (shaped_slots x) (length (messages_of (shaped_message x) s)) p
        → Found (shaped_message x) (shaped_slots x) (get_or (at_end side (plan_of Direct x) t) j 0) p
    seen_found s n j l e q full here p f = rw place f
      where
        place : get_or (at_end side (plan_of Direct x) t) j 0 ≡ length (messages_of (shaped_message x) s)
        place =
            ap (λ (z : List ℕ). get_or z j 0) (sym (at_end_is side t))
            ∙ ap (λ (k : ℕ). get_or (those (λ i. end_of side (get_or (messages_of (shaped_message x) (shaped_slots x)) i no_message)) t
            (length (messages_of (shaped_message x) (shaped_slots x)))) k 0) (sym q ∙ e)
            ∙ those_at (λ i. end_of side (get_or (messages_of (shaped_message x) (shaped_slots x)) i no_message)) t
            (length (messages_of (shaped_message x) (shaped_slots x)))
            (length (messages_of (shaped_message x) s)) (listed.number_low (shaped_message x) (shaped_slots x) s l full)
            (ap (end_of side) (listed.at_number (shaped_message x) (shaped_slots x) s l full) ∙ here)

  -- the range of a tile's messages

  module _ (t n first end : ℕ) (h : t < tiles x) (e : n ≡ directions x) (f : first ≡ t * n) (g : end ≡ first + n) where
    end_is : end ≡ (t + 1) * directions x
    end_is = g ∙ rw (f, e, add-one t) (sym (suc-mul t (directions x)))

    first_is : first ≡ t * directions x
    first_is = f ∙ ap (λ (a : ℕ). t * a) e

    end_in : end ≤ shaped_slots x
    end_in = rw end_is (mul-le-mul_right (directions x) (omega arith))

    pos : 0 < directions x
    pos = omega (arith, ways_pos x ok Direct)

    sender_after : (s : ℕ) → end ≤ s → t < slot_tile Direct x s
    sender_after s l =
        let q : (t + 1) * directions x ≤ s = omega (arith, end_is) in
        let d = (le-div_iff_mul-le {k = directions x} {x = t + 1} {y = s} pos).1 q in omega (arith, d)

    sender_before : (s : ℕ) → s < first → slot_tile Direct x s < t
    sender_before s l =
        let q : s < t * directions x = omega (arith, first_is) in (div-lt_iff_lt-mul {k = directions x} {x = s} {y = t} pos).1 q

    pub range_own : (side : ℕ) → side ≡ 0 → Ranged x side t first end
    range_own zero z =
        record {
          first_low = omega arith;
          end_low = end_in;
          before = λ s l m q. let e : slot_tile Direct x s ≡ t = q in omega (arith, sender_before s l, e);
          after = λ s l m k q. let e : slot_tile Direct x s ≡ t = q in omega (arith, sender_after s l, e);
        }
    range_own (suc side) z = absurd (omega arith)

    pub range_all : (side : ℕ) → (side ≡ 0 → ⊥) → Ranged x side t 0 end
    range_all zero z = absurd (z refl)
    range_all (suc side) z =
        record {
          first_low = omega arith;
          end_low = end_in;
          before = λ s l. absurd (omega arith);
          after = λ s l m k. end_above s m k t h (omega (arith, box_tile_lt x t (slot_tile Direct x s) h (shaped_tile_low x s m) (sender_after s l)));
        }

  pub range_room : (t n : ℕ) → t < tiles x → n ≡ directions x → (t * n ≤ 7168) × (t * n + n ≤ 7168)
  range_room t n h e = let k = end_in t n (t * n) (t * n + n) h e refl refl in (omega (arith, slots_few, k), omega (arith, slots_few, k))

  pub dirs_few : directions x ≤ 7
  dirs_few = ways_few x ok Direct

  pub box_few : box_tiles x ≤ 16384
  box_few = box_tiles_most x ok

pub not_empty : (n k : ℕ) → n ≡ k → (n ≡ 0 → ⊥) → 0 < k
not_empty n k e f = omega arith

pub below_more : (f : ℕ → ℕ) (k t : ℕ) → ((i : ℕ) → i < t → f i < k) → f t < k → (i : ℕ) → i < t + 1 → f i < k
below_more f k t h e i l = go (eq-or-lt_of_le (below l))
  where
    below : i < t + 1 → i ≤ t
    below l = omega arith

    go : (i ≡ t) ⊎ (i < t) → f i < k
    go (inl q) = rw q e
    go (inr q) = h i q
