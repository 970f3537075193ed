-- Demand 2 for a nest with bounds: what is proved of its tiles, reads, messages and sweep, put together.
use Prim.Native.Nat.{ℕ, ◌+◌, ◌*◌, ◌-◌, ◌≤◌, ◌<◌}
use mathlib.Core.Path.{◌≡◌, sym, ap, ◌∙◌}
use mathlib.Core.Logic.{◌⊎◌, inl, inr, ◌≢◌, ◌↔◌}
use mathlib.Core.Bool.{true}
use native.Mathlib.Nat.{div-add-mod'}
use native.Mathlib.Omega.{arith}
use lib.ListN.{length}
use lib.Dec.{leb}
use borrow.Author.Tests.{le-leb}
use Rattle.base.specs.Lists.{In}
use Rattle.base.proofs.Tests.{and_true, every_all}
use Rattle.base.proofs.Select.{those_in}
use Rattle.machine.specs.Plan.{count, sender_of, taker_of, held_by, dues_of}
use Rattle.machine.proofs.Values.{sweep_fixed, sweep_outside}
use Rattle.nest.specs.declared.Nest.{Nest}
use Rattle.nest.specs.Accepted.{Accepted}
use Rattle.nest.specs.Nest.{component, cells}
use Rattle.nest.specs.Places.{cell_at, cell_place, tile_place, box_tile_of}
use Rattle.nest.specs.Shape.{in_shape, tiles}
use Rattle.plan.specs.declared.Route.TheVariants.{Direct}
use Rattle.plan.specs.Geometry.{processor_of, has_read, read_at}
use Rattle.plan.specs.Messages.{directions, taker, slot_tile, slot_direction, messages_of}
use Rattle.plan.specs.Shaped.{box_tile, reads_shape, shaped_reads, shaped_parcel, shaped_taker, slot_box, shaped_message, plan_of}
use Rattle.conformance.specs.ExactShape.{ReadAhead, CarriesShape, ExactShape}
use Rattle.plan.proofs.Tiles.{cell_at_same, cell_at_cell_place, processor_of_same, read_low, read_back}
use Rattle.plan.proofs.Listed.{number_order, slot_order}
use Rattle.plan.proofs.Parcels.{slot_direction_pos, taker_within}
use Rattle.conformance.proofs.Ways.{step_way}
use Rattle.conformance.proofs.Readers.{read_by, read_ahead, held_by_lem}
use Rattle.conformance.proofs.Program.{tile_order}
use Rattle.plan.proofs.ShapedTiles.{box_tile_low, box_tile_exists, box_tile_lt, number_lt, shaped_cells_in, in_shaped_cells}
use Rattle.plan.proofs.ShapedTiles.{exists_cell, tile_of_low, box_tile_tile_of, tile_of_is}
use Rattle.plan.proofs.ShapedParcels.{moved, Crossed, parcel_crossed, crossed_parcel, reader, reader_low, reader_column, reader_tile_box}
use Rattle.plan.proofs.ShapedParcels.{shaped_taker_low, shaped_taker_from, shaped_taker_first, shaped_taker_column}
use Rattle.plan.proofs.ShapedSlots.{shaped_tile_low, shaped_direction_low, slot_at, slot_at_sent, sent_from, shaped_held}
use Rattle.plan.proofs.ShapedSound.{shaped_reads_at, at_shaped_reads, sound}
use Rattle.conformance.proofs.ShapedNest.{sweep_is}

module _ (x : Nest) (ok : Accepted x) where
  -- ---- what the set of tile t and direction v holds
  module _ (t v c : ℕ) (low : t < tiles x) where
    parcel_read : In c (shaped_parcel x (box_tile x t) v) → ReadAhead x t v c
    unfolding reads_shape
    parcel_read i =
        let g = parcel_crossed x (box_tile x t) v c i in
        let e = g.0 in
        let h = g.1 in
        let b = read_by x ok (box_tile x t) v c e h.held in
        record {
          cell = h.held.cell;
          inside = h.here;
          own = tile_of_is x t c low h.held.own;
          reader = reader x ok (box_tile x t) v c e h;
          reader_cell = reader_low x ok (box_tile x t) v c e h;
          reader_inside = h.lands;
          reads = rw b.1 at (at_shaped_reads x (reader x ok (box_tile x t) v c e h) e h.held.distance
              (and_true b.0 (ap (in_shape x) b.1 ∙ h.here)));
          column = λ j l.
              ap (λ (u : ℕ). tile_place x u j) (reader_tile_box x ok (box_tile x t) v c e h) ∙ reader_column x ok (box_tile x t) v c e h j l;
        }

    read_crossed : (r : ReadAhead x t v c) → (e : ℕ) × Crossed x (box_tile x t) v c e
    read_crossed r =
        let b = shaped_reads_at x r.reader c r.reads in
        let e = b.0 in (
          e,
          record {
            held = held_by_lem x ok r.reader c e b.1 b.2 b.4 (box_tile x t) v
                (sym (box_tile_tile_of x ok c r.cell r.inside) ∙ ap (box_tile x) r.own)
                (λ j l. ap (λ (u : ℕ). tile_place x u j) (sym (box_tile_tile_of x ok r.reader r.reader_cell r.reader_inside))
                ∙ r.column j l);
            here = r.inside;
            lands = ap (in_shape x) (lands_at r.reader e r.reader_cell (read_ahead x ok r.reader c e b.1 b.2 b.4))
                ∙ r.reader_inside;
          },
        )
      where
        lands_at : (r e : ℕ) → r < cells x → ((j : ℕ) → j < x.dimensions → moved x c e j ≡ cell_place x r j) → cell_at x (moved x c e) ≡ r
        lands_at r e h k = cell_at_same x (moved x c e) (cell_place x r) k ∙ cell_at_cell_place x ok r h

    pub parcel_is_read : In c (shaped_parcel x (box_tile x t) v) ↔ ReadAhead x t v c
    parcel_is_read = (parcel_read, (λ r. let g = read_crossed r in crossed_parcel x (box_tile x t) v c g.0 g.1))

  -- ---- messages
  carried : (m t v c : ℕ) → t < tiles x → 1 ≤ v → v ≤ directions x → In c (shaped_parcel x (box_tile x t) v)
      → sender_of (plan_of Direct x) m ≡ t → taker_of (plan_of Direct x) m ≡ shaped_taker x (box_tile x t) v
      → held_by (plan_of Direct x) m ≡ shaped_parcel x (box_tile x t) v
      → processor_of x (box_tile x t) ≢ processor_of x (box_tile x (shaped_taker x (box_tile x t) v)) → CarriesShape x m t v
  unfolding taker
  carried m t v c low l k i from to is away =
      let g = parcel_crossed x (box_tile x t) v c i in
      let e = g.0 in
      let h = g.1 in
      record {
        tile = low;
        direction = (l, k);
        sender = from;
        holds = λ d. rw is (parcel_is_read t v d low);
        in_box = taker_within x ok (box_tile x t) v c e h.held;
        taker = rw to (shaped_taker_low x ok (box_tile x t) v c e h);
        follows = rw to (record {
          column = shaped_taker_column x ok (box_tile x t) v c e h;
          from = shaped_taker_from x ok (box_tile x t) v c e h;
        });
        first = λ w lw f. rw to (shaped_taker_first x ok (box_tile x t) v c e h w lw f.from f.column);
        away = rw to away;
      }

  pub message : (m : ℕ) → m < count (plan_of Direct x) → (t : ℕ) × ((v : ℕ) × CarriesShape x m t v)
  message m h =
      let a = sent_from x m h in
      let s = a.0 in
      let k = shaped_held x m h in (
        slot_tile Direct x s,
        (
          slot_direction x s,
          carried m (slot_tile Direct x s) (slot_direction x s) k.0 (shaped_tile_low x s a.1.slot) (slot_direction_pos x s)
              (shaped_direction_low x s a.1.slot) (rw a.1.holds at k.1) a.1.sender a.1.taker a.1.holds a.1.away,
        ),
      )

  messages : (t v c : ℕ) → t < tiles x → 1 ≤ v → v ≤ directions x → (r : ReadAhead x t v c)
      → processor_of x (box_tile x t) ≢ processor_of x (box_tile_of x r.reader)
      → (m : ℕ) × (m < count (plan_of Direct x)) × CarriesShape x m t v
  messages t v c low l k r away =
      let g = read_crossed t v c low r in
      let i = crossed_parcel x (box_tile x t) v c g.0 g.1 in
      let same : processor_of x (box_tile_of x r.reader) ≡ processor_of x (box_tile x (shaped_taker x (box_tile x t) v)) =
      processor_of_same x ok _ _ (λ j h.
      ap (λ (u : ℕ). tile_place x u j) (sym (box_tile_tile_of x ok r.reader r.reader_cell r.reader_inside))
      ∙ r.column j h ∙ sym (shaped_taker_column x ok (box_tile x t) v c g.0 g.1 j h)) in
      let a = slot_at_sent x t v low l k c i (λ e. away (e ∙ sym same)) in
      (a.0, a.1, carried a.0 t v c low l k i a.2 a.3 a.4 (λ e. away (e ∙ sym same)))

  -- the slot of message m, if it is that of tile t and direction v
  slot_of : (m t v : ℕ) (h : m < count (plan_of Direct x)) → CarriesShape x m t v → (sent_from x m h).0 ≡ slot_at x t v
  slot_of m t v h k =
      let a = sent_from x m h in
      let s = a.0 in
      let i = shaped_held x m h in
      let g = parcel_crossed x (slot_box x s) (slot_direction x s) i.0 (rw a.1.holds at i.1) in
      let tile : slot_tile Direct x s ≡ t = sym a.1.sender ∙ k.sender in
      let way : slot_direction x s ≡ v =
      step_way x Direct (slot_direction x s) v (slot_direction_pos x s, shaped_direction_low x s a.1.slot) k.direction
      (λ j l. omega (
        arith,
        shaped_taker_column x ok (slot_box x s) (slot_direction x s) i.0 g.0 g.1 j l,
        k.follows.column j l,
        ap (λ (u : ℕ). tile_place x (box_tile x u) j) a.1.taker,
        ap (λ (u : ℕ). tile_place x (box_tile x u) j) tile,
      )) in
      omega (arith, div-add-mod' s (directions x), ap (λ (u : ℕ). u * directions x) tile, way)

  module _ (m n t v u w : ℕ) (lm : m < count (plan_of Direct x)) (ln : n < count (plan_of Direct x)) (a : CarriesShape x m t v)
      (b : CarriesShape x n u w) where
    by_slot : (m < n) ↔ (slot_at x t v < slot_at x u w)
    by_slot =
        let p = sent_from x m lm in
        let q = sent_from x n ln in
        let o = number_order (shaped_message x) p.0 q.0 p.1.full q.1.full in (
          (λ h. let k = o.0 (omega (arith, p.1.number, q.1.number)) in omega (arith, slot_of m t v lm a, slot_of n u w ln b)),
          (λ h. let k = o.1 (omega (arith, slot_of m t v lm a, slot_of n u w ln b)) in omega (arith, p.1.number, q.1.number)),
        )

    order : (m < n) ↔ ((t < u) ⊎ ((t ≡ u) × (v < w)))
    order = ((λ h. on (s.0 (by_slot.0 h))), (λ h. by_slot.1 (s.1 (back h))))
      where
        s : (slot_at x t v < slot_at x u w) ↔ ((t < u) ⊎ ((t ≡ u) × (v - 1 < w - 1)))
        s =
            slot_order (directions x) t (v - 1) u (w - 1) (omega (arith, a.direction.0, a.direction.1))
            (omega (arith, b.direction.0, b.direction.1))

        on : (t < u) ⊎ ((t ≡ u) × (v - 1 < w - 1)) → (t < u) ⊎ ((t ≡ u) × (v < w))
        on (inl l) = inl l
        on (inr (e, l)) = inr (e, omega arith)

        back : (t < u) ⊎ ((t ≡ u) × (v < w)) → (t < u) ⊎ ((t ≡ u) × (v - 1 < w - 1))
        back (inl l) = inl l
        back (inr (e, l)) = inr (e, omega (arith, a.direction.0))

  one : (m n t v : ℕ) → m < count (plan_of Direct x) → n < count (plan_of Direct x) → CarriesShape x m t v → CarriesShape x n t v → m ≡ n
  one m n t v lm ln a b =
      sym (sent_from x m lm).1.number
      ∙ ap (λ (s : ℕ). length (messages_of (shaped_message x) s)) (slot_of m t v lm a ∙ sym (slot_of n t v ln b))
      ∙ (sent_from x n ln).1.number

  pub once : (t m n c : ℕ) → In m (dues_of (plan_of Direct x) t) → In n (dues_of (plan_of Direct x) t) → In c (held_by (plan_of Direct x) m)
      → In c (held_by (plan_of Direct x) n) → m ≡ n
  once t m n c i k p q =
      let d = those_in (taker_of (plan_of Direct x)) t (count (plan_of Direct x)) m i in
      let f = those_in (taker_of (plan_of Direct x)) t (count (plan_of Direct x)) n k in
      let a = message m d.0 in
      let b = message n f.0 in
      same a.0 a.1.0 b.0 b.1.0 d.0 f.0 a.1.1 b.1.1 (d.1 ∙ sym f.1)
    where
      same : (t v u w : ℕ) → m < count (plan_of Direct x) → n < count (plan_of Direct x) → CarriesShape x m t v → CarriesShape x n u w
          → taker_of (plan_of Direct x) m ≡ taker_of (plan_of Direct x) n → m ≡ n
      same t v u w lm ln a b to =
          let e : t ≡ u = sym ((a.holds c).0 p).own ∙ ((b.holds c).0 q).own in
          let z : v ≡ w = step_way x Direct v w a.direction b.direction (λ j l. omega (
            arith,
            a.follows.column j l,
            b.follows.column j l,
            ap (λ (y : ℕ). tile_place x (box_tile x y) j) to,
            ap (λ (y : ℕ). tile_place x (box_tile x y) j) e,
          )) in
          one m n u w lm ln (rw (e, z) at a) b

  -- ---- reads
  reads : (c r : ℕ) → c < cells x
      → In r (shaped_reads x c)
      ↔ ((r < cells x) × (in_shape x r ≡ true)
      × ((e : ℕ) × (e < x.distances) × ((j : ℕ) → j < x.dimensions → cell_place x r j + component x e j ≡ cell_place x c j)))
  unfolding reads_shape has_read read_at
  reads c r lc = (
    (λ i. let b = shaped_reads_at x c r i in (
      rw b.4 (read_low x ok c b.0 b.1 b.2),
      ap (in_shape x) b.4 ∙ b.3,
      (b.0, b.1, λ j l. ap (λ (y : ℕ). cell_place x y j + component x b.0 j) b.4 ∙ read_back x ok c b.0 b.1 b.2 j l),
    )),
    (λ w. let e = w.2.0 in
        let back = w.2.2 in
        let is : read_at x c e ≡ r =
        cell_at_same x (λ j. cell_place x c j - component x e j) (cell_place x r) (λ j l. omega (arith, back j l)) ∙ cell_at_cell_place x ok r w.0 in
        rw is at (at_shaped_reads x c e w.2.1
        (and_true (every_all (λ j. leb (component x e j) (cell_place x c j)) x.dimensions
        (λ j l. le-leb (component x e j) (cell_place x c j) (omega (arith, back j l)))) (ap (in_shape x) is ∙ w.1)))),
  )

  -- ---- tiles
  order_of : (t u : ℕ) → t < tiles x → u < tiles x → (t < u) ↔ (box_tile x t < box_tile x u)
  order_of t u lt lu = (box_tile_lt x t u lt lu, number_lt x t u lt lu)

pub exact_shape : (x : Nest) → Accepted x → ExactShape x
exact_shape x ok =
    record {
      tile_exists = λ t h. (box_tile_low x t h, exists_cell x (box_tile x t) (box_tile_exists x t h));
      cell_tile = λ c h i. (tile_of_low x ok c h i, box_tile_tile_of x ok c h i);
      tile_cells = λ t c h. (
        (λ i. let g = shaped_cells_in x (box_tile x t) c i in (g.0, g.1, tile_of_is x t c h g.2)),
        (λ w. in_shaped_cells x (box_tile x t) c w.0 w.1 (sym (box_tile_tile_of x ok c w.0 w.1) ∙ ap (box_tile x) w.2)),
      );
      tile_order = λ t u lt lu.
          let a = order_of x ok t u lt lu in
          let b = tile_order x ok (box_tile x t) (box_tile x u) (box_tile_low x t lt) (box_tile_low x u lu) in
          ((λ h. b.0 (a.0 h)), (λ h. a.1 (b.1 h)));
      message = message x ok;
      messages = messages x ok;
      order = order x ok;
      one = one x ok;
      once = once x ok;
      reads = reads x ok;
      swept = λ source c h i. let so = sound Direct x ok in sym (sweep_fixed (plan_of Direct x) source (so.local source) so.earlier c h i);
      sweep_is = sweep_is x ok;
      unswept = λ source c h o. let so = sound Direct x ok in sweep_outside (plan_of Direct x) source (so.local source) so.earlier c h o;
    }
