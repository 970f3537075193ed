-- Laws of the processors at a slot's ends: those of the message there, the same for all tiles of a chain, which differ in the last dimension alone.
use Prim.Native.Nat.{ℕ, suc, ◌+◌, ◌*◌, ◌-◌, ◌/◌, ◌%◌, ◌≤◌, ◌<◌}
use mathlib.Core.Path.{◌≡◌, refl, sym, ap, ◌∙◌, subst}
use mathlib.Core.Logic.{◌⊎◌, inl, inr, ◌≢◌}
use mathlib.Core.Bool.{Bool, true, false}
use mathlib.Core.List.{List}
use native.Mathlib.Nat.{zero-mul, mul-le-mul_right, mul-add-div_right, mul-add-mod_self_right, div-eq_of_lt, mod-eq_of_lt, mod-lt, div-le_self, one-mul}
use native.Mathlib.Decide.{dec_lt, ℕ_discrete}
use native.Mathlib.Omega.{arith}
use lib.ListN.{length, get_or, take, drop}
use lib.Dec.{eqb}
use borrow.Rule.Slice.PartMut.{put_mid}
use Rattle.std.specs.Prelude.{Option, None, Some}
use Rattle.std.specs.Option.{option_eq}
use Rattle.std.proofs.lemmas.Bool.{eqb-true}
use Rattle.std.specs.List.{CopiedTo, SameBelow}
use Rattle.base.specs.Tests.{one, tabulate}
use Rattle.base.specs.Lists.{In, put}
use Rattle.base.proofs.Tests.{tabulate_at}
use Rattle.base.proofs.Lists.{length_put}
use Rattle.base.proofs.Entries.{put_same, put_before}
use Rattle.machine.specs.Plan.{Plan, Message, message, held_by}
use Rattle.nest.specs.declared.Nest.{Nest}
use Rattle.nest.specs.Accepted.{Accepted}
use Rattle.nest.specs.Nest.{length_of, tile_length, processor_count, tile_count, box_tiles}
use Rattle.nest.specs.Shape.{tiles}
use Rattle.nest.specs.Places.{rank, place, tile_place}
use Rattle.nest.specs.Spans.{last}
use Rattle.nest.proofs.Rank.{rank_same, place_before}
use Rattle.plan.specs.declared.Route.{Route}
use Rattle.plan.specs.declared.Route.TheVariants.{Direct, Indirect}
use Rattle.plan.specs.Geometry.{processor_of}
use Rattle.plan.specs.Messages.{ways, slots, slot_tile, slot_taker, slot_direction, slot_parcel}
use Rattle.conformance.specs.Exact.{step_by}
use Rattle.plan.specs.Shaped.{box_tile, slot_box, shaped_taker, shaped_slot_taker, shaped_slot_parcel, plan_of}
use Rattle.conformance.proofs.Ways.{way_of, slot_cells_lem, slot_to, taker_at_lem}
use Rattle.plan.proofs.Slots.{full_in, parcel_cells, unless_in}
use Rattle.plan.proofs.Parcels.{slot_tile_low, ahead_low}
use Rattle.plan.proofs.Tiles.{tile_place_low}
use Rattle.plan.proofs.ShapedBox.{plan_of_box, box_tile_is}
use Rattle.plan.proofs.ShapedParcels.{parcel_crossed, shaped_taker_column}
use Rattle.layout.proofs.CellRows.{row_next}
use Rattle.stages.proofs.Parts.{back, mid_length}
use Rattle.layout.specs.declared.Sizes.{Sizes}
use Rattle.layout.specs.Sizes.{Sized, along, Routed}
use Rattle.layout.specs.Places.{Has}
use Rattle.tables.specs.declared.scans.MessageSlot.{MessageSlot}
use Rattle.tables.specs.Tables.{FoundIn}
use Rattle.network.specs.Apart.{sender_at, taker_at}
use Rattle.part.specs.Marking.{ahead_of, side_of, Sided}

-- ---- a slot's message

module _ (x : Nest) (ok : Accepted x) where
  -- a processor by its tile's place in the spread dimensions
  by_place : (r : Route) (t u w : ℕ) → ((j : ℕ) → j < x.spread → tile_place x u j ≡ tile_place x t j + along r x w j) → processor_of x u ≡ ahead_of r x t w
  unfolding processor_of ahead_of
  by_place r t u w h =
      rank_same (processor_count x) (λ j. tile_place x u j % processor_count x j) (λ j. (tile_place x t j + along r x w j) % processor_count x j) x.spread
      (λ j l. ap (λ (a : ℕ). a % processor_count x j) (h j l))

  step_along : (r : Route) (s j : ℕ) → step_by r x (way_of r x s) j ≡ along r x (s % ways r x) j
  unfolding along
  step_along Direct s j = refl
  step_along Indirect s j = refl

  module _ (r : Route) (s : ℕ) (low : s < slots r x) (c : ℕ) (i : In c (slot_parcel r x s)) where
    box_taker : processor_of x (slot_taker r x s) ≡ ahead_of r x (s / ways r x) (s % ways r x)
    box_taker =
        let k = (parcel_cells r x s c i).1 in
        by_place r (s / ways r x) (slot_taker r x s) (s % ways r x)
        (λ j l.
        ap (λ (u : ℕ). tile_place x u j) (slot_to x r s)
        ∙ taker_at_lem x ok r (slot_tile r x s) (way_of r x s) c (slot_tile_low x r s low) (rw (slot_cells_lem x r s) at k) j (omega (arith, ok.spread_low))
        ∙ ap (λ (a : ℕ). tile_place x (s / ways r x) j + a) (step_along r s j))

  module _ (s c : ℕ) (i : In c (shaped_slot_parcel x s)) where
    shape_taker : processor_of x (box_tile x (shaped_slot_taker x s)) ≡ ahead_of Direct x (box_tile x (s / ways Direct x)) (s % ways Direct x)
    unfolding shaped_slot_taker shaped_slot_parcel along
    shape_taker =
        let k = (unless_in _ _ c i).1 in
        let h = parcel_crossed x (slot_box x s) (slot_direction x s) c k in
        by_place Direct (slot_box x s) (box_tile x (shaped_taker x (slot_box x s) (slot_direction x s))) (s % ways Direct x)
        (λ j l. shaped_taker_column x ok (slot_box x s) (slot_direction x s) c h.0 h.1 j l)

  -- the two processors of the message found at a place
  abbrev Ends : Route → ℕ → MessageSlot → Type 0
  Ends r m p =
      (sender_at (plan_of r x) m ≡ processor_of x (box_tile x (p.slot / ways r x)))
      × (taker_at (plan_of r x) m ≡ ahead_of r x (box_tile x (p.slot / ways r x)) (p.slot % ways r x))

  module _ (r : Route) (m : ℕ) (p : MessageSlot) (f : FoundIn r x m p) where
    box_ends : x.bounds ≡ 0 → Ends r m p
    box_ends e =
        let q = f.box e in
        let held : held_by (plan_of r x) m ≡ slot_parcel r x p.slot = ap (λ (y : Message). y.cells) q.1 in
        let full = full_in (slot_parcel r x p.slot) (omega (arith, f.full, f.words, ap length held)) in
        let tile = box_tile_is x ok e (p.slot / ways r x) in
        let processor : (plan_of r x).processor_of ≡ processor_of x = ap (λ (y : Plan). y.processor_of) (plan_of_box r x ok e) in (
          ap (λ (g : ℕ → ℕ). g (message (plan_of r x) m).sender) processor ∙ ap (processor_of x) (ap (λ (y : Message). y.sender) q.1 ∙ sym tile),
          ap (λ (g : ℕ → ℕ). g (message (plan_of r x) m).taker) processor
              ∙ ap (λ (y : Message). processor_of x y.taker) q.1
              ∙ box_taker r p.slot q.0 full.0 full.1
              ∙ ap (λ (t : ℕ). ahead_of r x t (p.slot % ways r x)) (sym tile),
        )

  shape_ends : (m : ℕ) (p : MessageSlot) → FoundIn Direct x m p → x.bounds ≢ 0 → Ends Direct m p
  shape_ends m p f n =
      let q = f.shape n in
      let held : held_by (plan_of Direct x) m ≡ shaped_slot_parcel x p.slot = ap (λ (y : Message). y.cells) q.1 in
      let full = full_in (shaped_slot_parcel x p.slot) (omega (arith, f.full, f.words, ap length held)) in (
        ap (λ (y : Message). processor_of x (box_tile x y.sender)) q.1,
        ap (λ (y : Message). processor_of x (box_tile x y.taker)) q.1 ∙ shape_taker p.slot full.0 full.1,
      )

pub ends : (x : Nest) (z : Sizes) → Accepted x → Routed x z → (m : ℕ) (p : MessageSlot) → FoundIn z.route x m p
    → (sender_at (plan_of z.route x) m ≡ processor_of x (box_tile x (p.slot / ways z.route x)))
    × (taker_at (plan_of z.route x) m ≡ ahead_of z.route x (box_tile x (p.slot / ways z.route x)) (p.slot % ways z.route x))
ends x z ok routed m p f = go (ℕ_discrete x.bounds 0)
  where
    go : Dec (x.bounds ≡ 0) → Ends x ok z.route m p
    go (yes e) = box_ends x ok z.route m p f e
    go (no n) =
        let d : z.route ≡ Direct = routed n in
        subst (λ (r : Route). Ends x ok r m p) (sym d) (shape_ends x ok m p (subst (λ (r : Route). FoundIn r x m p) d f) n)

-- ---- what a slot's byte says

module _ (r : Route) (x : Nest) (b t w v : ℕ) (is : v ≡ side_of r x b t w) where
  pub side_ends : v ≡ one (eqb (processor_of x t) b) + 2 * one (eqb (ahead_of r x t w) b)
  unfolding side_of
  side_ends = is

  pub side_none : v ≡ 0 → (eqb (processor_of x t) b ≡ false) × (eqb (ahead_of r x t w) b ≡ false)
  unfolding side_of one
  side_none z = (go (eqb (processor_of x t) b) refl, on (eqb (ahead_of r x t w) b) refl)
    where
      go : (f : Bool) → eqb (processor_of x t) b ≡ f → eqb (processor_of x t) b ≡ false
      go true p = absurd (omega (arith, is, z, ap one p))
      go false p = p

      on : (g : Bool) → eqb (ahead_of r x t w) b ≡ g → eqb (ahead_of r x t w) b ≡ false
      on true q = absurd (omega (arith, is, z, ap one q))
      on false q = q

  pub side_some : v ≢ 0 → (eqb (processor_of x t) b ≡ true) ⊎ (eqb (ahead_of r x t w) b ≡ true)
  unfolding side_of one
  side_some n = go (eqb (processor_of x t) b) (eqb (ahead_of r x t w) b) refl refl
    where
      go : (f g : Bool) → eqb (processor_of x t) b ≡ f → eqb (ahead_of r x t w) b ≡ g → (eqb (processor_of x t) b ≡ true) ⊎ (eqb (ahead_of r x t w) b ≡ true)
      go true g p q = inl p
      go false true p q = inr q
      go false false p q = absurd (n (omega (arith, is, ap one p, ap one q)))

-- ---- a chain

module _ (x : Nest) (ok : Accepted x) (t u : ℕ) (same : t / tile_count x (last x) ≡ u / tile_count x (last x)) where
  chain_place : (j : ℕ) → j < x.spread → tile_place x t j ≡ tile_place x u j
  unfolding tile_place
  chain_place j l =
      let e : x.dimensions ≡ suc (last x) = omega (arith, ok.dimensions_least) in
      let k : j < last x = omega (arith, ok.spread_low) in
      ap (λ (d : ℕ). place (tile_count x) d t j) e ∙ place_before (tile_count x) (last x) t j k
      ∙ ap (λ (a : ℕ). place (tile_count x) (last x) a j) same
      ∙ sym (place_before (tile_count x) (last x) u j k) ∙ ap (λ (d : ℕ). place (tile_count x) d u j) (sym e)

  pub chain_side : (r : Route) (b w : ℕ) → side_of r x b t w ≡ side_of r x b u w
  unfolding side_of ahead_of processor_of
  chain_side r b w =
      let a = rank_same (processor_count x) (λ j. tile_place x t j % processor_count x j) (λ j. tile_place x u j % processor_count x j) x.spread
      (λ j l. ap (λ (i : ℕ). i % processor_count x j) (chain_place j l)) in
      let c = rank_same (processor_count x) (λ j. (tile_place x t j + along r x w j) % processor_count x j)
      (λ j. (tile_place x u j + along r x w j) % processor_count x j) x.spread
      (λ j l. ap (λ (i : ℕ). (i + along r x w j) % processor_count x j) (chain_place j l)) in
      ap (λ (i : ℕ). one (eqb i b) + 2 * one (eqb (rank (processor_count x) (λ j. (tile_place x t j + along r x w j) % processor_count x j) x.spread) b)) a
      ∙ ap (λ (i : ℕ). one (eqb (rank (processor_count x) (λ j. tile_place x u j % processor_count x j) x.spread) b) + 2 * one (eqb i b)) c

-- ---- the tiles passed

-- the bytes of the first so many tiles are told, and `known` is the chain of the last of them
pub record SidesTo (r : Route) (x : Nest) (b : ℕ) (sides : List ℕ) (tile : ℕ) (known : Option ℕ) : Type 0 where
  pub long : length sides ≡ 7168
  pub each : (s : ℕ) → s < tile * ways r x → get_or sides s 0 ≡ side_of r x b (box_tile x (s / ways r x)) (s % ways r x)
  pub behind : (k : ℕ) → known ≡ Some k → (1 ≤ tile) × (k ≡ box_tile x (tile - 1) / tile_count x (last x))

module _ (r : Route) (x : Nest) (b : ℕ) where
  pub sides_start : (sides : List ℕ) → length sides ≡ 7168 → SidesTo r x b sides 0 None
  sides_start sides h = record { long = h; each = λ s l. absurd (omega (arith, l, zero-mul (ways r x))); behind = λ k e. cc }

  slot_tile_lem : (t w : ℕ) → w < ways r x → (t * ways r x + w) / ways r x ≡ t
  slot_tile_lem t w h = omega (arith, mul-add-div_right {m = ways r x} (omega arith) t w, div-eq_of_lt h)

  slot_way : (t w : ℕ) → w < ways r x → (t * ways r x + w) % ways r x ≡ w
  slot_way t w h = mul-add-mod_self_right t (ways r x) w ∙ mod-eq_of_lt h

  module _ (ok : Accepted x) (sides : List ℕ) (tile : ℕ) (known : Option ℕ) (g : SidesTo r x b sides tile known) (chain : ℕ)
      (is : chain ≡ box_tile x tile / tile_count x (last x)) where
    next : (new : List ℕ) → length new ≡ 7168 → ((s : ℕ) → s < tile * ways r x → get_or new s 0 ≡ get_or sides s 0)
        → ((w : ℕ) → w < ways r x → get_or new (tile * ways r x + w) 0 ≡ side_of r x b (box_tile x tile) w) → SidesTo r x b new (tile + 1) (Some chain)
    next new h old row =
        record {
          long = h;
          each = λ s l. go s (omega (arith, l, more)) (dec_lt s (tile * ways r x));
          behind = λ k q. let e : tile + 1 - 1 ≡ tile = omega arith in let same : chain ≡ k = cc in (omega arith, sym same ∙ rw e is);
        }
      where
        more : (tile + 1) * ways r x ≡ tile * ways r x + ways r x
        more = row_next (ways r x) tile tile

        go : (s : ℕ) → s < tile * ways r x + ways r x → Dec (s < tile * ways r x)
            → get_or new s 0 ≡ side_of r x b (box_tile x (s / ways r x)) (s % ways r x)
        go s l (yes k) = old s k ∙ g.each s k
        go s l (no k) =
            let w : ℕ = s - tile * ways r x in
            let e : s ≡ tile * ways r x + w = omega arith in
            let f : w < ways r x = omega arith in
            ap (λ (i : ℕ). get_or new i 0) e ∙ row w f
            ∙ ap (λ (t : ℕ). side_of r x b (box_tile x t) w) (sym (slot_tile_lem tile w f))
            ∙ ap (side_of r x b (box_tile x ((tile * ways r x + w) / ways r x))) (sym (slot_way tile w f))
            ∙ ap (λ (i : ℕ). side_of r x b (box_tile x (i / ways r x)) (i % ways r x)) (sym e)

    module _ (n : ℕ) (we : n ≡ ways r x) (room : tile * n + n ≤ 7168) where
      -- by the code's numbers: those of the tile before, of the same chain
      pub sides_copied : (new : List ℕ) → known ≡ Some chain → length new ≡ length sides
          → CopiedTo sides new (tile * n - n) (tile * n) (tile * n - (tile * n - n)) → SameBelow sides new (tile * n)
          → SidesTo r x b new (tile + 1) (Some chain)
      sides_copied new same long copied front =
          let first = g.behind chain same in
          let e : tile ≡ tile - 1 + 1 = omega (arith, first.0) in
          let chains : box_tile x tile / tile_count x (last x) ≡ box_tile x (tile - 1) / tile_count x (last x) = sym is ∙ first.1 in
          let more : tile * n ≡ (tile - 1) * n + n = ap (λ (i : ℕ). i * n) e ∙ row_next n (tile - 1) tile in
          next new (long ∙ g.long) (λ s l. front s 0 (omega (arith, l, ap (λ (i : ℕ). tile * i) we)))
          (λ w l.
          let k : w < n = omega (arith, l, we) in
          let at : tile * n - n + (tile * n + w - tile * n) ≡ (tile - 1) * ways r x + w = omega (arith, more, ap (λ (i : ℕ). (tile - 1) * i) we) in
          ap (λ (i : ℕ). get_or new (tile * i + w) 0) (sym we)
          ∙ copied (tile * n + w) 0 (omega arith) (omega (arith, more, k)) ∙ ap (λ (i : ℕ). get_or sides i 0) at
          ∙ g.each ((tile - 1) * ways r x + w) (omega (arith, l, more, ap (λ (i : ℕ). (tile - 1) * i) we, ap (λ (i : ℕ). tile * i) we, we))
          ∙ ap (λ (t : ℕ). side_of r x b (box_tile x t) (((tile - 1) * ways r x + w) % ways r x)) (slot_tile_lem (tile - 1) w l)
          ∙ ap (side_of r x b (box_tile x (tile - 1))) (slot_way (tile - 1) w l)
          ∙ sym (chain_side x ok (box_tile x tile) (box_tile x (tile - 1)) chains r b w))

      pub sides_put : (row : List ℕ) (u : ℕ) → u ≡ box_tile x tile → length row ≡ length (take (tile * n + n - tile * n) (drop (tile * n) sides))
          → row ≡ tabulate (side_of r x b u) (ways r x) → SidesTo r x b (put_mid (tile * n) (tile * n + n - tile * n) sides row) (tile + 1) (Some chain)
      sides_put row u at long e =
          let fits : tile * n + n ≤ length sides = omega (arith, room, g.long) in
          let rows : length row ≡ n = long ∙ mid_length sides (tile * n) n fits in
          let end : tile * n + length row ≤ length sides = omega (arith, fits, rows) in
          rw (back sides row (λ _. row) (tile * n) n fits long refl) (next (put sides (tile * n) row)
          (length_put sides (tile * n) row end ∙ g.long)
          (λ s l. put_before sides (tile * n) row end s (omega (arith, l, ap (λ (i : ℕ). tile * i) we)))
          (λ w l.
          ap (λ (i : ℕ). get_or (put sides (tile * n) row) (tile * i + w) 0) (sym we)
          ∙ put_same sides (tile * n) row end w (omega (arith, l, rows, we)) ∙ ap (λ (ws : List ℕ). get_or ws w 0) e
          ∙ tabulate_at (side_of r x b u) (ways r x) w l ∙ ap (λ (t : ℕ). side_of r x b t w) at))

  pub sides_done : (sides : List ℕ) (tile : ℕ) (known : Option ℕ) (tiles : ℕ) → SidesTo r x b sides tile known → tiles ≤ tile
      → Sided r x b (tiles * ways r x) sides
  sides_done sides tile known tiles g h = record { each = λ s l. g.each s (omega (arith, l, mul-le-mul_right (ways r x) h)) }

-- ---- by the numbers of the code

along_low : (r : Route) (x : Nest) (w j : ℕ) → j < x.spread → along r x w j ≤ 1
unfolding along one
along_low Direct x w j l = ahead_low x (w + 1) j l
along_low Indirect x w j l = go (eqb j w)
  where
    go : (t : Bool) → one t ≤ 1
    go true = omega arith
    go false = omega arith

across_few : (x : Nest) → Accepted x → (j : ℕ) → tile_count x j ≤ 1025
unfolding tile_count
across_few x ok j = omega (arith, ok.length_most j, div-le_self (length_of x j - 1) (tile_length x j))

module _ (r : Route) (x : Nest) (ok : Accepted x) (b t w : ℕ) (at step : List ℕ) (place_is : Has at (tile_place x t) x.dimensions)
    (step_is : Has step (along r x w) x.dimensions) where
  ahead_is : (a : ℕ) → a ≡ rank (processor_count x) (λ j. (get_or at j 0 + get_or step j 0) % processor_count x j) x.spread → a ≡ ahead_of r x t w
  unfolding ahead_of
  ahead_is a e =
      e ∙ rank_same (processor_count x) (λ j. (get_or at j 0 + get_or step j 0) % processor_count x j)
      (λ j. (tile_place x t j + along r x w j) % processor_count x j) x.spread
      (λ j l.
      let d : j < x.dimensions = omega (arith, ok.spread_low) in
      ap (λ (i : ℕ). i % processor_count x j)
      (ap (λ (i : ℕ). i + get_or step j 0) (place_is.each j d) ∙ ap (λ (i : ℕ). tile_place x t j + i) (step_is.each j d)))

  pub step_small : (j : ℕ) → j < x.spread → get_or at j 0 + get_or step j 0 < 65536
  step_small j l =
      let d : j < x.dimensions = omega (arith, ok.spread_low) in
      omega (arith, place_is.each j d, step_is.each j d, tile_place_low x ok t j d, across_few x ok j, along_low r x w j l)

  pub side_is : (p f a s : ℕ) → p ≡ processor_of x t → f ≡ one (eqb p b)
      → a ≡ rank (processor_count x) (λ j. (get_or at j 0 + get_or step j 0) % processor_count x j) x.spread → s ≡ one (eqb a b)
      → f + 2 * s ≡ side_of r x b t w
  unfolding side_of
  side_is p f a s e k q l =
      ap (λ (i : ℕ). i + 2 * s) (k ∙ ap (λ (i : ℕ). one (eqb i b)) e)
      ∙ ap (λ (i : ℕ). one (eqb (processor_of x t) b) + 2 * i) (l ∙ ap (λ (i : ℕ). one (eqb i b)) (ahead_is a q))

module _ (x : Nest) (z : Sizes) (ok : Accepted x) (tile : ℕ) (low : tile < (plan_of z.route x).tiles) where
  pub box_number : x.bounds ≡ 0 → (tile ≡ box_tile x tile) × (tile < box_tiles x)
  box_number e = (sym (box_tile_is x ok e tile), omega (arith, low, ap (λ (p : Plan). p.tiles) (plan_of_box z.route x ok e)))

  pub shape_number : Routed x z → x.bounds ≢ 0 → tile < tiles x
  shape_number routed n = omega (arith, low, ap (λ (r : Route). (plan_of r x).tiles) (routed n))

pub rem_most : (a n v : ℕ) → v ≡ a % n → 1 ≤ n → v ≤ n
rem_most a n v e h = omega (arith, e, mod-lt a h)

pub row_before : (n t : ℕ) → 1 ≤ t → n ≤ t * n
row_before n t h = omega (arith, mul-le-mul_right n h, one-mul n)

module _ (r : Route) (x : Nest) (z : Sizes) (s : Sized x z) where
  last_low : last x < x.dimensions
  last_low = omega (arith, s.accepted.dimensions_least)

  -- the tile's chain
  pub chain_is : (t u : ℕ) → u ≡ box_tile x t → u / get_or z.across (last x) 0 ≡ box_tile x t / tile_count x (last x)
  chain_is t u e = ap (λ (i : ℕ). u / i) (s.across (last x) last_low) ∙ ap (λ (i : ℕ). i / tile_count x (last x)) e

-- what the test tells of the chain known
pub known_is : (known : Option ℕ) (chain : ℕ) → option_eq eqb known (Some chain) ≡ true → known ≡ Some chain
known_is None chain e = cc
known_is (Some k) chain e = ap Some (eqb-true k chain e)

pub across_some : (x : Nest) (z : Sizes) → Sized x z → 0 < get_or z.across (last x) 0
unfolding tile_count
across_some x z s = omega (arith, s.across (last x) (omega (arith, s.accepted.dimensions_least)))
