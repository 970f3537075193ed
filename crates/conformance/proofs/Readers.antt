-- What a message holds, by the reads of the sweep: direct, what the taker's chain reads; indirect, what is on its way over the tile.
use Prim.Native.Nat.{ℕ, ◌+◌, ◌-◌, ◌/◌, ◌≤◌, ◌<◌}
use mathlib.Core.Path.{◌≡◌, refl, sym, ap, ◌∙◌}
use mathlib.Core.Logic.{◌↔◌}
use mathlib.Core.Bool.{true}
use native.Mathlib.Decide.{dec_lt}
use native.Mathlib.Omega.{arith}
use lib.Dec.{leb}
use borrow.Author.Tests.{le-leb}
use Rattle.base.specs.Lists.{In}
use Rattle.base.proofs.Tests.{every_all}
use Rattle.machine.specs.Plan.{held_by}
use Rattle.nest.specs.declared.Nest.{Nest}
use Rattle.nest.specs.Accepted.{Accepted}
use Rattle.nest.specs.Nest.{length_of, tile_length, component, cells, box_tiles}
use Rattle.plan.specs.declared.Route.TheVariants.{Direct}
use Rattle.nest.specs.Places.{cell_at, cell_place, tile_place, box_tile_of}
use Rattle.plan.specs.Geometry.{has_read, read_at, reads_of}
use Rattle.plan.specs.Messages.{directions, ahead, before, origin, passed, box_plan}
use Rattle.plan.specs.Hops.{stop}
use Rattle.conformance.specs.Exact.{MessageBy, Read, OnItsWay, Forwarded}
use Rattle.nest.proofs.Rank.{rank_same}
use Rattle.plan.proofs.Tiles.{cell_place_low, cell_at_low, cell_place_cell_at, cell_at_cell_place, tile_place_box_tile_of, box_tile_of_low, read_low, read_back}
use Rattle.plan.proofs.Parcels.{Held, parcel_held, held_parcel, before_yes, before_no, passed_in, in_passed, stop_is, stop_passed, origin_low}
use Rattle.plan.proofs.Parcels.{origin_place}
use Rattle.plan.proofs.Sound.{reads_at, at_reads, read_way}

module _ (x : Nest) (ok : Accepted x) where
  low : (j : ℕ) → j < x.spread → j < x.dimensions
  low j h = omega (arith, ok.spread_low)

  -- ---- the cell that distance e leads to reads c
  module _ (t v c e : ℕ) (h : Held x t v c e) where
    ahead_place : ℕ → ℕ
    ahead_place j = cell_place x c j + component x e j

    r : ℕ
    r = cell_at x ahead_place

    r_low : r < cells x
    unfolding r ahead_place
    r_low = cell_at_low x ok ahead_place h.stays

    r_place : (j : ℕ) → j < x.dimensions → cell_place x r j ≡ cell_place x c j + component x e j
    unfolding r ahead_place
    r_place j l = cell_place_cell_at x ok ahead_place h.stays j l

    r_has : has_read x r e ≡ true
    unfolding has_read
    r_has =
        every_all (λ j. leb (component x e j) (cell_place x r j)) x.dimensions
        (λ j l. le-leb (component x e j) (cell_place x r j) (omega (arith, r_place j l)))

    r_reads : read_at x r e ≡ c
    unfolding read_at cell_at
    r_reads =
        rank_same (length_of x) _ (cell_place x c) x.dimensions (λ j l. omega (arith, r_place j l)) ∙ cell_at_cell_place x ok c h.cell

    r_in : In c (reads_of x r)
    r_in = rw r_reads at (at_reads x r e h.distance r_has)

    r_tile : (j : ℕ) → j < x.spread → tile_place x (box_tile_of x r) j ≡ tile_place x t j + ahead x v j
    r_tile j l =
        tile_place_box_tile_of x ok r j (low j l) ∙ ap (λ (y : ℕ). y / tile_length x j) (r_place j (low j l)) ∙ h.steps j l

    -- it reads c by that distance
    pub read_by : (has_read x (cell_at x (λ j. cell_place x c j + component x e j)) e ≡ true)
        × (read_at x (cell_at x (λ j. cell_place x c j + component x e j)) e ≡ c)
    unfolding r ahead_place
    read_by = (r_has, r_reads)

  -- ---- what cell r reads is held by the tile it is in, in the direction of r's chain
  module _ (r c e : ℕ) (low-e : e < x.distances) (has : has_read x r e ≡ true) (is : c ≡ read_at x r e) where
    pub read_ahead : (j : ℕ) → j < x.dimensions → cell_place x c j + component x e j ≡ cell_place x r j
    read_ahead j l = ap (λ (y : ℕ). cell_place x y j + component x e j) is ∙ read_back x ok r e low-e has j l

    pub held_by_lem : (t v : ℕ) → box_tile_of x c ≡ t
        → ((j : ℕ) → j < x.spread → tile_place x (box_tile_of x r) j ≡ tile_place x t j + ahead x v j) → Held x t v c e
    held_by_lem t v own chain =
        record {
          cell = rw is (read_low x ok r e low-e has);
          own = own;
          distance = low-e;
          stays = λ j l. rw (read_ahead j l) (cell_place_low x ok r j l);
          steps = λ j l.
              ap (λ (y : ℕ). y / tile_length x j) (read_ahead j (low j l)) ∙ sym (tile_place_box_tile_of x ok r j (low j l)) ∙ chain j l;
        }

  reader_held : (r t v c : ℕ) → In c (reads_of x r) → box_tile_of x c ≡ t
      → ((j : ℕ) → j < x.spread → tile_place x (box_tile_of x r) j ≡ tile_place x t j + ahead x v j) → (e : ℕ) × Held x t v c e
  reader_held r t v c i own chain = let b = reads_at x r c i in (b.0, held_by_lem r c b.0 b.1 b.2 b.3 t v own chain)

  -- ---- direct
  pub read_as : (m t v c : ℕ) → MessageBy Direct x m t v → In c (held_by (box_plan Direct x) m) ↔ Read x m c
  read_as m t v c k = (
    (λ i. let g = parcel_held x t v c (rw k.holds at i) in
        record {
          own = g.1.own ∙ sym k.sender;
          reader = r t v c g.0 g.1;
          cell = r_low t v c g.0 g.1;
          reads = r_in t v c g.0 g.1;
          chain = λ j l. r_tile t v c g.0 g.1 j l ∙ sym (k.ahead_of j l);
        }),
    (λ d. let g = reader_held d.reader t v c d.reads (d.own ∙ k.sender) (λ j l. d.chain j l ∙ k.ahead_of j l) in
        rw k.holds (held_parcel x t v c g.0 g.1)),
  )

  -- ---- indirect: tile t and dimension q
  module _ (t q c : ℕ) (lt : t < box_tiles x) where
    -- by the sets
    passed_forwarded : In c (passed x t q) → Forwarded x t q c
    passed_forwarded i =
        let p = passed_in x t q c i in
        let v = p.0 in
        record {
          t' = origin x t q v;
          v = v;
          tile = origin_low x ok t q c v p.1 lt p.2;
          direction = p.2.most;
          along = p.2.turns;
          less = λ j l. omega (arith, origin_place x ok t q c v p.1 lt p.2 j l, p.2.exists j l);
          holds = held_parcel x (origin x t q v) v c p.1 p.2.held;
        }

    -- the stop before q of what tile u holds in direction v is t
    stop_at : (u v e : ℕ) → u < box_tiles x → v ≤ directions x → ahead x v q ≡ 1 → Held x u v c e
        → ((j : ℕ) → j < x.dimensions → tile_place x u j + before x q v j ≡ tile_place x t j) → In c (passed x t q)
    stop_at u v e lu most turns h less =
        let at : stop x u v q ≡ t = stop_is x ok u v c e h q t lt less in
        in_passed x t q c v e (rw at at (stop_passed x ok u v c e h q lu most turns))

    forwarded_passed : Forwarded x t q c → In c (passed x t q)
    forwarded_passed f =
        let h = parcel_held x f.t' f.v c f.holds in
        stop_at f.t' f.v h.0 f.tile f.direction f.along h.1 f.less

    pub forwarded : In c (passed x t q) ↔ Forwarded x t q c
    forwarded = (passed_forwarded, forwarded_passed)

    -- by the reads
    module _ (along : q < x.spread) where
      passed_way : In c (passed x t q) → OnItsWay x t q c
      passed_way i =
          let p = passed_in x t q c i in
          let v = p.0 in
          let e = p.1 in
          let h = p.2.held in
          let u = origin x t q v in
          let from : (j : ℕ) → j < x.dimensions → tile_place x u j ≡ tile_place x t j - before x q v j =
          λ j l. origin_place x ok t q c v e lt p.2 j l in
          record {
            reader = r u v c e h;
            cell = r_low u v c e h;
            reads = r_in u v c e h;
            made = λ j l. let k : j < x.spread = omega arith in
                omega (arith, r_tile u v c e h j k, from j (low j k), p.2.exists j (low j k), before_yes x q v j l);
            steps = omega (arith, r_tile u v c e h q along, from q (low q along), before_no x q v q (omega arith), p.2.turns);
            ahead_yet = λ j l k. omega (arith, ap (λ (y : ℕ). tile_place x y j) h.own, from j k, before_no x q v j l);
          }

      way_passed : OnItsWay x t q c → In c (passed x t q)
      way_passed w =
          let b = reads_at x w.reader c w.reads in
          let z = rw (← b.3) at (read_way x ok w.reader b.0 w.cell b.1 b.2) in
          let v = z.0 in
          let h = reader_held w.reader (box_tile_of x c) v c w.reads refl z.2 in
          stop_at (box_tile_of x c) v h.0 (box_tile_of_low x ok c) z.1 (turns v z.2) h.1 (λ j l. less v z.2 j l (dec_lt j q))
        where
          turns : (v : ℕ) → ((j : ℕ) → j < x.spread → tile_place x (box_tile_of x w.reader) j ≡ tile_place x (box_tile_of x c) j + ahead x v j)
              → ahead x v q ≡ 1
          turns v s = omega (arith, s q along, w.steps, w.ahead_yet q (omega arith) (low q along))

          less : (v : ℕ) → ((j : ℕ) → j < x.spread → tile_place x (box_tile_of x w.reader) j ≡ tile_place x (box_tile_of x c) j + ahead x v j)
              → (j : ℕ) → j < x.dimensions → Dec (j < q) → tile_place x (box_tile_of x c) j + before x q v j ≡ tile_place x t j
          less v s j l (yes k) = omega (arith, before_yes x q v j k, s j (omega arith), w.made j k)
          less v s j l (no k) = omega (arith, before_no x q v j (omega arith), w.ahead_yet j (omega arith) l)

      pub on_its_way : In c (passed x t q) ↔ OnItsWay x t q c
      on_its_way = (passed_way, way_passed)
