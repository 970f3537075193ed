-- The plan of an accepted nest is sound: what a tile reads, its processor knows by then.
use Prim.Native.Nat.{ℕ, zero, suc, ◌+◌, ◌*◌, ◌-◌, ◌/◌, ◌%◌, ◌^◌, ◌≤◌, ◌<◌}
use mathlib.Core.Path.{◌≡◌, refl, sym, ap, ◌∙◌}
use mathlib.Core.Logic.{◌⊎◌, inl, inr}
use mathlib.Core.Bool.{Bool, true, false}
use mathlib.Core.List.{List}
use native.Mathlib.Nat.{eq-or-lt_of_le}
use native.Mathlib.Decide.{dec_lt, ℕ_discrete}
use native.Mathlib.Omega.{arith}
use lib.ListN.{length, get_or}
use borrow.Author.Tests.{ne_eqb}
use Rattle.base.specs.Tests.{pick, keep}
use Rattle.base.specs.Lists.{In, Rising}
use Rattle.base.proofs.Tests.{sum_same}
use Rattle.base.proofs.Select.{in_map, map_in, keep_in, in_keep}
use Rattle.machine.specs.Plan.{Message, count, sender_of, taker_of, held_by, Knows, Sound}
use Rattle.nest.specs.declared.Nest.{Nest}
use Rattle.nest.specs.Accepted.{Accepted}
use Rattle.nest.specs.Nest.{weight, cells, box_tiles}
use Rattle.nest.specs.Places.{rank, tile_place, box_tile_of}
use Rattle.plan.specs.Geometry.{cells_of, processor_of, has_read, read_at, reads_of, value}
use Rattle.plan.specs.declared.Route.{Route}
use Rattle.plan.specs.declared.Route.TheVariants.{Direct, Indirect}
use Rattle.plan.specs.Messages.{two, directions, ahead, taker, slots, slot_tile, slot_dimension, slot_cells, slot_taker, at_home, slot_parcel, box_plan}
use Rattle.plan.specs.Hops.{stop}
use Rattle.nest.proofs.Rank.{Within, rank_low}
use Rattle.plan.proofs.Tiles.{cell_place_low, tile_at_tile_place, tile_at_le, box_tile_of_low, tile_place_box_tile_of, processor_of_low}
use Rattle.plan.proofs.Tiles.{processor_of_same, read_low, read_back, read_before, read_tile}
use Rattle.plan.proofs.Slots.{in_full, full_in, parcel_cells, parcel_away, full_away, message_slot, number_low, at_number}
use Rattle.plan.proofs.Parcels.{cells_of_in, in_cells_of, cells_of_rising, Held, parcel_held, held_parcel, ahead_rank, ahead_beyond, ahead_none}
use Rattle.plan.proofs.Parcels.{ahead_low, passed_in, in_passed, slot_cells_rising, slot_tile_low, slot_dimension_low, slot_low, slot_tile_lem}
use Rattle.plan.proofs.Parcels.{slot_parcel_lem, slot_taker_lem, slot_passed, slot_neighbour, taker_place, stop_low, stop_first, stop_last}
use Rattle.plan.proofs.Parcels.{stop_skip, stop_hop, stop_passed, passed_stop, slot_taker_low, slot_taker_after}

-- ---- reads
pub reads_at : (x : Nest) (c r : ℕ) → In r (reads_of x c) → (e : ℕ) × (e < x.distances) × (has_read x c e ≡ true) × (r ≡ read_at x c e)
unfolding reads_of
reads_at x c r h =
    let a = in_map (read_at x c) (keep (has_read x c) x.distances) r h in
    let b = keep_in (has_read x c) x.distances a.0 a.1 in
    (a.0, b.0, b.1, a.2)

pub at_reads : (x : Nest) (c e : ℕ) → e < x.distances → has_read x c e ≡ true → In (read_at x c e) (reads_of x c)
unfolding reads_of
at_reads x c e h t = map_in (read_at x c) (keep (has_read x c) x.distances) e (in_keep (has_read x c) x.distances e h t)

pub value_local : (x : Nest) (source s s' : List ℕ) (c : ℕ) → ((r : ℕ) → In r (reads_of x c) → get_or s r 0 ≡ get_or s' r 0) → value x source s c
    ≡ value x source s' c
unfolding value pick
value_local x source s s' c h =
    ap (λ (a : ℕ). (get_or source c 0 + a) / 2 ^ x.shift % 2 ^ 32)
    (sum_same (term s) (term s') x.distances (λ e l. go e (has_read x c e) (at_reads x c e l)))
  where
    term : List ℕ → ℕ → ℕ
    term m e = weight x e * pick (has_read x c e) (get_or m (read_at x c e) 0) x.boundary

    go : (e : ℕ) (t : Bool) → (t ≡ true → In (read_at x c e) (reads_of x c))
        → weight x e * pick t (get_or s (read_at x c e) 0) x.boundary ≡ weight x e * pick t (get_or s' (read_at x c e) 0) x.boundary
    go e true f = ap (λ (a : ℕ). weight x e * a) (h (read_at x c e) (f refl))
    go e false f = refl

-- ---- messages

-- message m is slot s's
pub record Sent (r : Route) (x : Nest) (m s : ℕ) : Type 0 where
  pub slot : s < slots r x
  pub full : 0 < length (slot_parcel r x s)
  pub sender : sender_of (box_plan r x) m ≡ slot_tile r x s
  pub taker : taker_of (box_plan r x) m ≡ slot_taker r x s
  pub holds : held_by (box_plan r x) m ≡ slot_parcel r x s

module _ (r : Route) (x : Nest) where
  pub sent : (m : ℕ) → m < count (box_plan r x) → (s : ℕ) × Sent r x m s
  sent m h =
      let a = message_slot r x (slots r x) m h in
      let is = a.4 in (
        a.0,
        record {
          slot = a.1;
          full = a.2;
          sender = ap (λ (y : Message). y.sender) is;
          taker = ap (λ (y : Message). y.taker) is;
          holds = ap (λ (y : Message). y.cells) is;
        },
      )

  held_rising : (m : ℕ) → m < count (box_plan r x) → Rising (held_by (box_plan r x) m)
  held_rising m h = let a = sent m h in rw (a.1.holds, full_away r x a.0 a.1.full) (slot_cells_rising x r a.0)

  -- a slot that holds a cell for another processor is a message
  pub slot_sent : (s c : ℕ) → s < slots r x → In c (slot_parcel r x s)
      → (m : ℕ) × (m < count (box_plan r x)) × (sender_of (box_plan r x) m ≡ slot_tile r x s) × (taker_of (box_plan r x) m ≡ slot_taker r x s)
      × (held_by (box_plan r x) m ≡ slot_parcel r x s)
  slot_sent s c h i =
      let full = in_full c (slot_parcel r x s) i in
      let is = at_number r x (slots r x) s h full in (
        _,
        number_low r x (slots r x) s h full,
        ap (λ (y : Message). y.sender) is,
        ap (λ (y : Message). y.taker) is,
        ap (λ (y : Message). y.cells) is,
      )

-- ---- what a tile's processor has of the cells, once it has gathered for the tile and calculated it

abbrev pub Has : Route → Nest → ℕ → ℕ → Type 0
Has r x t c = In c (cells_of x t) ⊎ Knows (box_plan r x) (processor_of x t) t c

module _ (r : Route) (x : Nest) where
  -- a later tile of the same processor has it too
  pub later : (t u c : ℕ) → t ≤ u → processor_of x t ≡ processor_of x u → Has r x t c → Has r x u c
  later t u c h e (inl i) = go (eq-or-lt_of_le h)
    where
      go : (t ≡ u) ⊎ (t < u) → Has r x u c
      go (inl k) = inl (rw (← k) i)
      go (inr k) = inr (Knows.calculated t k e i)
  later t u c h e (inr (Knows.calculated w l p i)) = inr (Knows.calculated w (omega arith) (p ∙ e) i)
  later t u c h e (inr (Knows.taken m l f p i)) = inr (Knows.taken m l (omega arith) (p ∙ e) i)

  -- what a slot holds and its tile has, its taker has: on the same processor without a message
  pub hop : (s c : ℕ) → s < slots r x → In c (slot_cells r x s) → slot_tile r x s < slot_taker r x s → Has r x (slot_tile r x s) c
      → Has r x (slot_taker r x s) c
  unfolding at_home
  hop s c l i after has = go (ℕ_discrete (processor_of x (slot_tile r x s)) (processor_of x (slot_taker r x s)))
    where
      go : Dec (processor_of x (slot_tile r x s) ≡ processor_of x (slot_taker r x s)) → Has r x (slot_taker r x s) c
      go (yes e) = later (slot_tile r x s) (slot_taker r x s) c (omega arith) e has
      go (no e) =
          let is : slot_parcel r x s ≡ slot_cells r x s = parcel_away r x s (ne_eqb _ _ e) in
          let k : In c (slot_parcel r x s) = rw is i in
          let m = slot_sent r x s c l k in
          inr (Knows.taken m.0 m.1 (omega (arith, m.3)) (ap (processor_of x) m.3) (rw m.4 k))

module _ (x : Nest) (ok : Accepted x) where
  -- ---- the way of cell c in direction v
  module _ (c v e : ℕ) (most : v ≤ directions x) (held : Held x (box_tile_of x c) v c e) where
    t : ℕ
    t = box_tile_of x c

    low : t < box_tiles x
    unfolding t
    low = box_tile_of_low x ok c

    at_first : (r : Route) → Has r x t c
    unfolding t
    at_first r = inl (in_cells_of x (box_tile_of x c) c held.cell refl)

    straight : 1 ≤ v → Has Direct x (taker x t v) c
    unfolding t
    straight l =
        let s : ℕ = t * directions x + (v - 1) in
        let a = slot_low x Direct t (v - 1) low (omega arith) in
        let b : slot_tile Direct x s ≡ t = slot_tile_lem x Direct t (v - 1) low (omega arith) in
        let d : slot_taker Direct x s ≡ taker x t v = slot_taker_lem x t v low l most in
        let i : In c (slot_cells Direct x s) = rw (slot_parcel_lem x t v low l most) (held_parcel x t v c e held) in
        rw d at (hop Direct x s c a i (slot_taker_after x ok Direct s c a i) (rw b (at_first Direct)))

    along : (q : ℕ) → q < x.spread → ahead x v q ≡ 1 → Has Indirect x (stop x t v q) c → Has Indirect x (stop x t v (suc q)) c
    unfolding t
    along q l z has =
        let u : ℕ = stop x t v q in
        let lu : u < box_tiles x = stop_low x ok t v c e held q in
        let s : ℕ = u * x.spread + q in
        let a = slot_low x Indirect u q lu l in
        let b : slot_tile Indirect x s ≡ u = slot_tile_lem x Indirect u q lu l in
        let d : slot_taker Indirect x s ≡ stop x t v (suc q) = slot_neighbour x u q lu l ∙ stop_hop x ok t v c e held q z in
        let i : In c (slot_cells Indirect x s) =
        rw (slot_passed x u q lu l) (in_passed x u q c v e (stop_passed x ok t v c e held q low most z)) in
        rw d at (hop Indirect x s c a i (slot_taker_after x ok Indirect s c a i) (rw b has))

    pub come : (q : ℕ) → q ≤ x.spread → Has Indirect x (stop x (box_tile_of x c) v q) c
    unfolding t
    come zero h = rw (stop_first x ok (box_tile_of x c) v c e held low) (at_first Indirect)
    come (suc q) h = go (come q (omega arith)) (ℕ_discrete (ahead x v q) 0)
      where
        go : Has Indirect x (stop x (box_tile_of x c) v q) c → Dec (ahead x v q ≡ 0) → Has Indirect x (stop x (box_tile_of x c) v (suc q)) c
        go k (yes z) = rw (stop_skip x ok (box_tile_of x c) v c e held q z) k
        go k (no z) = along q h (omega (arith, ahead_low x v q h)) k

    -- the tile that takes it on the direct route has it on either
    pub arrives : (r : Route) → Has r x (taker x (box_tile_of x c) v) c
    unfolding t
    arrives Indirect = rw (← stop_last x ok (box_tile_of x c) v c e held) (come x.spread (omega arith))
    arrives Direct = go (ℕ_discrete v 0)
      where
        -- no step at all
        none : v ≡ 0 → Has Direct x (taker x (box_tile_of x c) v) c
        none z = later Direct x t (taker x t v) c (omega (arith, same)) (ap (processor_of x) same) (at_first Direct)
          where
            same : t ≡ taker x t v
            same = sym (stop_first x ok t v c e held low) ∙ zeros x.spread (omega arith) ∙ stop_last x ok t v c e held
              where
                zeros : (q : ℕ) → q ≤ x.spread → stop x t v 0 ≡ stop x t v q
                zeros zero h = refl
                zeros (suc q) h = zeros q (omega arith) ∙ sym (stop_skip x ok t v c e held q (ahead_none x v q z))

        go : Dec (v ≡ 0) → Has Direct x (taker x (box_tile_of x c) v) c
        go (yes z) = none z
        go (no z) = straight (omega arith)

  -- ---- what a cell reads is known in time
  module _ (c e : ℕ) (cell : c < cells x) (low : e < x.distances) (has : has_read x c e ≡ true) where
    abbrev r : ℕ
    r = read_at x c e

    step : ℕ → ℕ
    step j = tile_place x (box_tile_of x c) j - tile_place x (box_tile_of x r) j

    step_two : Within two step x.spread
    unfolding step
    step_two j h = omega (arith, read_tile x ok c e low has j (omega (arith, ok.spread_low)))

    v : ℕ
    v = rank two step x.spread

    step_v : (j : ℕ) → j < x.spread → tile_place x (box_tile_of x c) j ≡ tile_place x (box_tile_of x r) j + ahead x v j
    unfolding v step
    step_v j h = omega (arith, read_tile x ok c e low has j (omega (arith, ok.spread_low)), ahead_rank x step step_two j h)

    pub tile_le : box_tile_of x r ≤ box_tile_of x c
    tile_le =
        let a = tile_at_tile_place x ok (box_tile_of x r) (box_tile_of_low x ok r) in
        let b = tile_at_tile_place x ok (box_tile_of x c) (box_tile_of_low x ok c) in
        omega (arith, tile_at_le x ok (tile_place x (box_tile_of x r)) (tile_place x (box_tile_of x c)) (λ j h. (read_tile x ok c e low has j h).0))

    held_read : Held x (box_tile_of x r) v r e
    held_read =
        record {
          cell = read_low x ok c e low has;
          own = refl;
          distance = low;
          stays = λ j h. rw (read_back x ok c e low has j h) (cell_place_low x ok c j h);
          steps =
              λ j h. let h' : j < x.dimensions = omega (arith, ok.spread_low) in rw (read_back x ok c e low has j h')
              (sym (tile_place_box_tile_of x ok c j h') ∙ step_v j h);
        }

    taker_le : taker x (box_tile_of x r) v ≤ box_tile_of x c
    unfolding taker
    taker_le =
        let b = tile_at_tile_place x ok (box_tile_of x c) (box_tile_of_low x ok c) in
        omega (arith, tile_at_le x ok (λ j. tile_place x (box_tile_of x r) j + ahead x v j) (tile_place x (box_tile_of x c)) (λ j h. go j h (dec_lt j x.spread)))
      where
        go : (j : ℕ) → j < x.dimensions → Dec (j < x.spread) → tile_place x (box_tile_of x r) j + ahead x v j ≤ tile_place x (box_tile_of x c) j
        go j h (yes l) = omega (arith, step_v j l)
        go j h (no l) = omega (arith, ahead_beyond x v j (omega arith), read_tile x ok c e low has j h)

    v_low : v ≤ directions x
    unfolding v directions
    v_low = omega (arith, rank_low two step x.spread step_two)

    -- the direction from the cell that is read to the one that reads it, whose set holds it
    pub read_way : (w : ℕ) × (w ≤ directions x)
        × ((j : ℕ) → j < x.spread → tile_place x (box_tile_of x c) j ≡ tile_place x (box_tile_of x r) j + ahead x w j) × Held x (box_tile_of x r) w r e
    read_way = (v, v_low, step_v, held_read)

    taker_processor : processor_of x (taker x (box_tile_of x r) v) ≡ processor_of x (box_tile_of x c)
    taker_processor =
        processor_of_same x ok (taker x (box_tile_of x r) v) (box_tile_of x c)
        (λ j h. taker_place x ok (box_tile_of x r) v r e held_read j (omega (arith, ok.spread_low)) ∙ sym (step_v j h))

    pub read_known : (route : Route) → Has route x (box_tile_of x c) r
    read_known route = later route x (taker x (box_tile_of x r) v) (box_tile_of x c) r taker_le taker_processor (arrives r v e v_low held_read route)

  known : (route : Route) (t c r : ℕ) → In c (cells_of x t) → In r (reads_of x c) → Has route x t r
  known route t c r i k =
      let a = cells_of_in x t c i in
      let b = reads_at x c r k in
      rw (← a.1, b.3) (read_known c b.0 a.0 b.1 b.2 route)

  -- what a slot holds its tile has
  pub slot_has : (route : Route) (s c : ℕ) → s < slots route x → In c (slot_cells route x s)
      → (c < cells x) × Has route x (slot_tile route x s) c
  unfolding slot_cells
  slot_has Direct s c l i =
      let g = (parcel_held x _ _ c i).1 in
      (g.cell, inl (in_cells_of x _ c g.cell g.own))
  slot_has Indirect s c l i =
      let g = passed_in x _ _ c i in
      let p = g.2 in
      let t = slot_tile Indirect x s in
      let q = slot_dimension x s in
      let low = slot_tile_low x Indirect s l in
      let own = p.held.own in
      let h : Held x (box_tile_of x c) g.0 c g.1 = rw (← own) at p.held in
      let at : stop x (box_tile_of x c) g.0 q ≡ t = ap (λ (u : ℕ). stop x u g.0 q) own ∙ passed_stop x ok t q c g.0 g.1 low p in
      (p.held.cell, rw at at (come c g.0 g.1 p.most h q (omega (arith, slot_dimension_low x s l))))

  module _ (route : Route) (m : ℕ) (h : m < count (box_plan route x)) where
    some_cell : (c : ℕ) × In c (slot_cells route x (sent route x m h).0)
    some_cell = let a = (sent route x m h).1 in let k = full_in (slot_parcel route x (sent route x m h).0) a.full in
        (k.0, (parcel_cells route x _ k.0 k.1).1)

    pub message_has : (c : ℕ) → In c (held_by (box_plan route x) m) → (c < cells x) × Has route x (sender_of (box_plan route x) m) c
    message_has c i =
        let a = sent route x m h in
        let k : In c (slot_parcel route x a.0) = rw a.1.holds at i in
        rw a.1.sender (slot_has route a.0 c a.1.slot (parcel_cells route x _ c k).1)

    pub message_forward : sender_of (box_plan route x) m < taker_of (box_plan route x) m
    message_forward = let a = sent route x m h in
        rw (a.1.sender, a.1.taker) (slot_taker_after x ok route a.0 some_cell.0 a.1.slot some_cell.1)

    pub message_taker : taker_of (box_plan route x) m < box_tiles x
    message_taker = let a = sent route x m h in
        rw a.1.taker (slot_taker_low x ok route a.0 some_cell.0 a.1.slot some_cell.1)

pub box_sound : (r : Route) (x : Nest) → Accepted x → Sound (box_plan r x)
box_sound r x ok =
    record {
      tile_low = λ c h i. box_tile_of_low x ok c;
      cell_in = λ c h i. in_cells_of x (box_tile_of x c) c h refl;
      cell_low = λ t c h i. (cells_of_in x t c i).0;
      cell_inside = λ t c h i. refl;
      cell_of = λ t c h i. (cells_of_in x t c i).1;
      rising = λ t h. cells_of_rising x t;
      processor_low = λ t h. processor_of_low x ok t;
      local = λ source m n c h f. value_local x source m n c f;
      earlier = λ c r h i. let a = reads_at x c r i in rw a.3 (read_before x ok c a.0 a.1 a.2 h);
      reads_known = λ t c b h i k. known x ok r t c b i k;
      held_rising = held_rising r x;
      held_low = λ m c h i. (message_has x ok r m h c i).0;
      held_inside = λ m c h i. refl;
      held_known = λ m c h i. (message_has x ok r m h c i).1;
      forward = λ m h. message_forward x ok r m h;
      taker_low = λ m h. message_taker x ok r m h;
    }
