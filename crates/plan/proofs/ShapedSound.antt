-- The plan of every accepted nest is sound: on the direct route that of its shape, on the indirect route that of its box.
use Prim.Native.Nat.{ℕ, ◌+◌, ◌*◌, ◌/◌, ◌%◌, ◌^◌, ◌≤◌, ◌<◌}
use mathlib.Core.Path.{◌≡◌, refl, sym, ap, ◌∙◌}
use mathlib.Core.Logic.{◌⊎◌, inl, inr}
use mathlib.Core.Bool.{Bool, true, false}
use mathlib.Core.List.{List}
use native.Mathlib.Nat.{eq-or-lt_of_le}
use native.Mathlib.Decide.{ℕ_discrete}
use native.Mathlib.Omega.{arith}
use lib.ListN.{get_or}
use Rattle.base.specs.Tests.{pick, keep}
use Rattle.base.specs.Lists.{In}
use Rattle.base.proofs.Tests.{both, sum_same}
use Rattle.base.proofs.Select.{in_map, map_in, keep_in, in_keep}
use Rattle.machine.specs.Plan.{count, sender_of, taker_of, held_by, Knows, Sound}
use Rattle.nest.specs.declared.Nest.{Nest}
use Rattle.nest.specs.Accepted.{Accepted}
use Rattle.nest.specs.Nest.{weight, cells}
use Rattle.nest.specs.Places.{cell_at, cell_place, box_tile_of}
use Rattle.nest.specs.Shape.{in_shape, tiles}
use Rattle.plan.specs.declared.Route.{Route}
use Rattle.plan.specs.declared.Route.TheVariants.{Direct, Indirect}
use Rattle.plan.specs.Geometry.{processor_of, has_read, read_at}
use Rattle.plan.specs.Messages.{slot_tile, slot_direction}
use Rattle.plan.specs.Shaped.{box_tile, tile_of, shaped_cells, reads_shape, shaped_reads, shaped_value, shaped_parcel, shaped_taker, slot_box, plan_of}
use Rattle.nest.proofs.Rank.{rank_same}
use Rattle.plan.proofs.Tiles.{cell_at_cell_place, processor_of_low, processor_of_same, read_low, read_back, read_before}
use Rattle.plan.proofs.Parcels.{ahead_none, slot_direction_pos}
use Rattle.plan.proofs.Sound.{tile_le, read_way, box_sound}
use Rattle.plan.proofs.ShapedTiles.{number_le, box_tile_low, shaped_cells_in, in_shaped_cells, shaped_cells_rising, tile_of_low, box_tile_tile_of, tile_of_is}
use Rattle.plan.proofs.ShapedParcels.{moved, Crossed, parcel_crossed, crossed_parcel, shaped_parcel_rising, shaped_taker_low, shaped_taker_le}
use Rattle.plan.proofs.ShapedParcels.{shaped_taker_column, shaped_taker_after}
use Rattle.plan.proofs.ShapedSlots.{shaped_tile_low, shaped_direction_low, slot_at_sent, ShapedSent, sent_from, shaped_held}

module _ (x : Nest) where
  -- ---- reads
  pub shaped_reads_at : (c r : ℕ) → In r (shaped_reads x c)
      → (e : ℕ) × (e < x.distances) × (has_read x c e ≡ true) × (in_shape x (read_at x c e) ≡ true) × (r ≡ read_at x c e)
  unfolding shaped_reads reads_shape
  shaped_reads_at c r h =
      let m = in_map (read_at x c) (keep (reads_shape x c) x.distances) r h in
      let b = keep_in (reads_shape x c) x.distances m.0 m.1 in
      let d = both b.1 in
      (m.0, b.0, d.0, d.1, m.2)

  pub at_shaped_reads : (c e : ℕ) → e < x.distances → reads_shape x c e ≡ true → In (read_at x c e) (shaped_reads x c)
  unfolding shaped_reads
  at_shaped_reads c e h t = map_in (read_at x c) (keep (reads_shape x c) x.distances) e (in_keep (reads_shape x c) x.distances e h t)

  value_local : (source s s' : List ℕ) (c : ℕ) → ((r : ℕ) → In r (shaped_reads x c) → get_or s r 0 ≡ get_or s' r 0)
      → shaped_value x source s c ≡ shaped_value x source s' c
  unfolding shaped_value pick
  value_local source s s' c h =
      ap (λ (n : ℕ). (get_or source c 0 + n) / 2 ^ x.shift % 2 ^ 32)
      (sum_same (term s) (term s') x.distances (λ e l. go e (reads_shape x c e) (at_shaped_reads c e l)))
    where
      term : List ℕ → ℕ → ℕ
      term m e = weight x e * pick (reads_shape x c e) (get_or m (read_at x c e) 0) x.boundary

      go : (e : ℕ) (t : Bool) → (t ≡ true → In (read_at x c e) (shaped_reads x c))
          → weight x e * pick t (get_or s (read_at x c e) 0) x.boundary ≡ weight x e * pick t (get_or s' (read_at x c e) 0) x.boundary
      go e true f = ap (λ (n : ℕ). weight x e * n) (h (read_at x c e) (f refl))
      go e false f = refl

  module _ (ok : Accepted x) where
    -- ---- what a cell reads is known in time
    module _ (c e : ℕ) (cell : c < cells x) (here : in_shape x c ≡ true) (low : e < x.distances) (has : has_read x c e ≡ true)
        (there : in_shape x (read_at x c e) ≡ true) where
      abbrev r : ℕ
      r = read_at x c e

      abbrev v : ℕ
      v = (read_way x ok c e cell low has).0

      r_low : r < cells x
      r_low = read_low x ok c e low has

      r_tile : tile_of x r < tiles x
      r_tile = tile_of_low x ok r r_low there

      c_tile : tile_of x c < tiles x
      c_tile = tile_of_low x ok c cell here

      r_box : box_tile x (tile_of x r) ≡ box_tile_of x r
      r_box = box_tile_tile_of x ok r r_low there

      c_box : box_tile x (tile_of x c) ≡ box_tile_of x c
      c_box = box_tile_tile_of x ok c cell here

      -- the distance puts the read at c
      back : cell_at x (moved x r e) ≡ c
      unfolding cell_at
      back =
          rank_same _ (moved x r e) (cell_place x c) x.dimensions (λ j h. read_back x ok c e low has j h) ∙ cell_at_cell_place x ok c cell

      pub read_crossed : Crossed x (box_tile_of x r) v r e
      read_crossed = record { held = (read_way x ok c e cell low has).3; here = there; lands = rw back here }

      not_after : tile_of x r ≤ tile_of x c
      not_after = number_le x (tile_of x r) (tile_of x c) r_tile c_tile (rw (r_box, c_box) (tile_le x ok c e cell low has))

      taker_not_after : shaped_taker x (box_tile_of x r) v ≤ tile_of x c
      taker_not_after = rw back at (shaped_taker_le x ok (box_tile_of x r) v r e read_crossed)

      taker_home : processor_of x (box_tile x (shaped_taker x (box_tile_of x r) v)) ≡ processor_of x (box_tile_of x c)
      taker_home =
          processor_of_same x ok _ (box_tile_of x c)
          (λ j h. shaped_taker_column x ok (box_tile_of x r) v r e read_crossed j h ∙ sym ((read_way x ok c e cell low has).2 j h))

      same_chain : v ≡ 0 → processor_of x (box_tile_of x r) ≡ processor_of x (box_tile_of x c)
      same_chain z =
          processor_of_same x ok (box_tile_of x r) (box_tile_of x c)
          (λ j h. omega (arith, (read_way x ok c e cell low has).2 j h, ahead_none x v j z))

      abbrev Has : Type 0
      Has = In r (shaped_cells x (box_tile x (tile_of x c))) ⊎ Knows (plan_of Direct x) (processor_of x (box_tile x (tile_of x c))) (tile_of x c) r

      read_known : Has
      read_known = go (ℕ_discrete (processor_of x (box_tile_of x r)) (processor_of x (box_tile_of x c))) (eq-or-lt_of_le not_after)
        where
          own : In r (shaped_cells x (box_tile x (tile_of x r)))
          own = in_shaped_cells x _ r r_low there (sym r_box)

          go : Dec (processor_of x (box_tile_of x r) ≡ processor_of x (box_tile_of x c)) → (tile_of x r ≡ tile_of x c) ⊎ (tile_of x r < tile_of x c)
              → Has
          go d (inl t) = inl (rw t at own)
          go (yes z) (inr t) = inr (Knows.calculated (tile_of x r) t (rw (r_box, c_box) z) own)
          go (no z) (inr t) =
              inr (told (slot_at_sent x (tile_of x r) v r_tile v_pos (read_way x ok c e cell low has).1 r (rw r_box in_parcel)
              (rw (r_box, taker_home) z)))
            where
              v_pos : 1 ≤ v
              v_pos = pos (ℕ_discrete v 0)
                where
                  pos : Dec (v ≡ 0) → 1 ≤ v
                  pos (yes q) = absurd (z (same_chain q))
                  pos (no q) = omega arith

              in_parcel : In r (shaped_parcel x (box_tile_of x r) v)
              in_parcel = crossed_parcel x (box_tile_of x r) v r e read_crossed

              told : (m : ℕ) × (m < count (plan_of Direct x)) × (sender_of (plan_of Direct x) m ≡ tile_of x r)
                  × (taker_of (plan_of Direct x) m ≡ shaped_taker x (box_tile x (tile_of x r)) v)
                  × (held_by (plan_of Direct x) m ≡ shaped_parcel x (box_tile x (tile_of x r)) v)
                  → Knows (plan_of Direct x) (processor_of x (box_tile x (tile_of x c))) (tile_of x c) r
              told (m, l, from, to, is) =
                  let to' : taker_of (plan_of Direct x) m ≡ shaped_taker x (box_tile_of x r) v = to ∙ ap (λ (u : ℕ). shaped_taker x u v) r_box in
                  Knows.taken m l (rw to' taker_not_after) (rw (to', c_box) taker_home) (rw (is, r_box) in_parcel)

    known : (t c r : ℕ) → t < tiles x → In c (shaped_cells x (box_tile x t)) → In r (shaped_reads x c)
        → In r (shaped_cells x (box_tile x t)) ⊎ Knows (plan_of Direct x) (processor_of x (box_tile x t)) t r
    known t c r h i k =
        let g = shaped_cells_in x (box_tile x t) c i in
        let b = shaped_reads_at c r k in
        rw (← tile_of_is x t c h g.2, b.4) (read_known c b.0 g.0 g.1 b.1 b.2 b.3)

    -- ---- messages
    module _ (m : ℕ) (h : m < count (plan_of Direct x)) where
      abbrev s : ℕ
      s = (sent_from x m h).0

      abbrev sent : ShapedSent x m s
      sent = (sent_from x m h).1

      held_own : (c : ℕ) → In c (held_by (plan_of Direct x) m)
          → (c < cells x) × (in_shape x c ≡ true) × In c (shaped_cells x (box_tile x (sender_of (plan_of Direct x) m)))
      held_own c i =
          let k : In c (shaped_parcel x (slot_box x s) (slot_direction x s)) = rw sent.holds at i in
          let g = (parcel_crossed x _ _ c k).1 in
          (g.held.cell, g.here, rw sent.sender (in_shaped_cells x _ c g.held.cell g.here g.held.own))

      some_crossed : (c : ℕ) × (e : ℕ) × Crossed x (slot_box x s) (slot_direction x s) c e
      some_crossed =
          let k = shaped_held x m h in
          let g = parcel_crossed x _ _ k.0 (rw sent.holds at k.1) in
          (k.0, g.0, g.1)

      forward : sender_of (plan_of Direct x) m < taker_of (plan_of Direct x) m
      forward =
          let g = some_crossed in
          let l = shaped_tile_low x s sent.slot in
          rw (sent.sender, sent.taker)
          (shaped_taker_after x ok (slot_tile Direct x s) (slot_direction x s) g.0 g.1 g.2 l (box_tile_low x _ l) (slot_direction_pos x s)
          (shaped_direction_low x s sent.slot))

      taker_in : taker_of (plan_of Direct x) m < tiles x
      taker_in = let g = some_crossed in rw sent.taker (shaped_taker_low x ok _ _ g.0 g.1 g.2)

  shaped_sound : Accepted x → Sound (plan_of Direct x)
  shaped_sound ok =
      record {
        tile_low = λ c h i. tile_of_low x ok c h i;
        cell_in = λ c h i. in_shaped_cells x _ c h i (sym (box_tile_tile_of x ok c h i));
        cell_low = λ t c h i. (shaped_cells_in x _ c i).0;
        cell_inside = λ t c h i. (shaped_cells_in x _ c i).1;
        cell_of = λ t c h i. tile_of_is x t c h (shaped_cells_in x _ c i).2;
        rising = λ t h. shaped_cells_rising x _;
        processor_low = λ t h. processor_of_low x ok _;
        local = λ source m n c h f. value_local source m n c f;
        earlier = λ c r h i. let b = shaped_reads_at c r i in rw b.4 (read_before x ok c b.0 b.1 b.2 h);
        reads_known = λ t c r h i k. known ok t c r h i k;
        held_rising = λ m h. rw (sent_from x m h).1.holds (shaped_parcel_rising x _ _);
        held_low = λ m c h i. (held_own ok m h c i).0;
        held_inside = λ m c h i. (held_own ok m h c i).1;
        held_known = λ m c h i. inl (held_own ok m h c i).2;
        forward = λ m h. forward ok m h;
        taker_low = λ m h. taker_in ok m h;
      }

pub sound : (r : Route) (x : Nest) → Accepted x → Sound (plan_of r x)
sound Direct x ok = shaped_sound x ok
sound Indirect x ok = box_sound Indirect x ok
