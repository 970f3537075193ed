-- Laws of a tile in a part: its cells and what they read are kept, by locality; and the part once all rows are stored.
use Rattle.std.specs.Prelude.{◌≡◌, ℕ, ◌+◌, ◌*◌, ◌<◌, true, ◌≢◌, List, length, get_or}
use mathlib.Core.Path.{refl, sym, ap, ◌∙◌}
use native.Mathlib.Decide.{ℕ_discrete}
use native.Mathlib.Omega.{arith}
use Rattle.base.specs.Tests.{one, product, tabulate}
use Rattle.base.specs.Lists.{In, store_all, pack}
use Rattle.base.proofs.Tests.{length_tabulate, tabulate_at}
use Rattle.base.proofs.Entries.{at_in}
use Rattle.machine.specs.Plan.{Plan, Sound}
use Rattle.nest.specs.declared.Nest.{Nest}
use Rattle.nest.specs.Accepted.{Accepted}
use Rattle.nest.specs.Nest.{cells, box_tiles}
use Rattle.nest.specs.Places.{box_tile_of}
use Rattle.nest.specs.Shape.{tiles}
use Rattle.nest.specs.Spans.{last}
use Rattle.plan.specs.declared.Route.{Route}
use Rattle.plan.specs.declared.Route.TheVariants.{Direct}
use Rattle.plan.specs.Geometry.{read_at}
use Rattle.plan.specs.Box.{box_size, box_cell}
use Rattle.plan.specs.Messages.{box_plan}
use Rattle.plan.specs.Shaped.{box_tile, shaped_cells, shaped_reads, shaped_value, plan_of}
use Rattle.plan.proofs.Box.{box_cell_low, cells_of_box}
use Rattle.plan.proofs.Parcels.{cells_of_in}
use Rattle.plan.proofs.ShapedBox.{plan_of_box}
use Rattle.plan.proofs.ShapedTiles.{box_tile_low, in_shaped_cells}
use Rattle.plan.proofs.ShapedSound.{at_shaped_reads, sound}
use Rattle.layout.specs.declared.Bounds.{Bounds}
use Rattle.layout.specs.declared.Cell.{Cell}
use Rattle.layout.specs.Places.{nth, Located, Bounded}
use Rattle.layout.proofs.CellRows.{box_in}
use Rattle.tables.specs.declared.Table.{Table}
use Rattle.values.proofs.shaped_values.Words.{tile_row}
use Rattle.network.specs.Locality.{Keeps}
use Rattle.network.specs.Own.{owns, keeps, kept_cells, source_of}
use Rattle.network.proofs.Locality.{keeps_low, known_kept}
use Rattle.network.proofs.Own.{test_own, test_keep}
use Rattle.rank_index.specs.Ranks.{marked_at, marked_cells, spread_out}
use Rattle.rank_index.proofs.Ranks.{pack_spread, marks_long, mark_is, marked_are}
use Rattle.part.specs.Part.{all_of}
use Rattle.part.proofs.Words.{all_is, source_is}
use Rattle.part_calls.specs.tile.Rows.{Worked, WorkedIn, GivenBox, GivenTile}

-- ---- rows of a tile of the box

module _ (x : Nest) (ok : Accepted x) where
  tile_is : (u q : ℕ) → u < box_tiles x → q < box_size x u → box_tile_of x (box_cell x u q) ≡ u
  tile_is u q h l =
      let i : In (get_or (tabulate (box_cell x u) (box_size x u)) q 0) (tabulate (box_cell x u) (box_size x u)) =
      at_in (tabulate (box_cell x u) (box_size x u)) q (rw (length_tabulate (box_cell x u) (box_size x u)) l) in
      (cells_of_in x u (box_cell x u q) (rw (cells_of_box x ok u h) (rw (tabulate_at (box_cell x u) (box_size x u) q l) at i))).1

  module _ (b : Bounds) (is : Bounded x b) (u : ℕ) (same : b.tile ≡ u) (kept counts owned tally : List ℕ) (sources words : ℕ)
      (g : GivenBox x kept counts owned tally sources words u) where
    pub row_worked : (r rows w : ℕ) (c : Cell) → rows ≡ product (nth b.lengths) (last x) → w ≡ get_or b.lengths (last x) 0 → r < rows
        → Located x (box_cell x b.tile (r * w)) c → (y : ℕ) → y < w → WorkedIn x kept owned (c.number + y)
    row_worked r rows w c e k h l y o i =
        let room = box_in x ok b is r rows w e k h in
        let at : c.number + y ≡ box_cell x u (r * w + y) =
        rw k (tile_row x ok b is u same r c (rw k at l) y (rw k at o)) in
        let size : b.size ≡ box_size x u = is.size ∙ ap (box_size x) same in
        let t : box_tile_of x (c.number + y) ≡ u = ap (box_tile_of x) at ∙ tile_is u (r * w + y) g.low (omega (arith, room.0, size)) in
        let low : c.number + y < cells x = rw at (box_cell_low x ok u (r * w + y)) in
        g.worked (c.number + y) (in_shaped_cells x u (c.number + y) low i t)

-- ---- the plan's tiles, on either route

module _ (x : Nest) (r : Route) (ok : Accepted x) (routed : x.bounds ≢ 0 → r ≡ Direct) where
  -- without bounds both plans are the box's, with bounds there is one route
  direct : {A : Type 0} (f : Plan → A) → f (box_plan Direct x) ≡ f (box_plan r x) → f (plan_of Direct x) ≡ f (plan_of r x)
  direct {A} f e = go (ℕ_discrete x.bounds 0)
    where
      go : Dec (x.bounds ≡ 0) → f (plan_of Direct x) ≡ f (plan_of r x)
      go (yes z) = ap f (plan_of_box Direct x ok z) ∙ e ∙ sym (ap f (plan_of_box r x ok z))
      go (no n) = ap (λ (q : Route). f (plan_of q x)) (sym (routed n))

  pub tile_low : (t : ℕ) → t < (plan_of r x).tiles → t < tiles x
  tile_low t h = let z : tiles x ≡ (plan_of r x).tiles = direct (λ p. p.tiles) refl in omega (arith, z)

  pub number_low : (t u : ℕ) → t < (plan_of r x).tiles → u ≡ box_tile x t → u < box_tiles x
  number_low t u h e = rw e (box_tile_low x t (tile_low t h))

  cells_are : (t : ℕ) → shaped_cells x (box_tile x t) ≡ (plan_of r x).cells_of t
  cells_are t = direct (λ p. p.cells_of t) refl

  reads_are : (c : ℕ) → shaped_reads x c ≡ (plan_of r x).reads_of c
  reads_are c = direct (λ p. p.reads_of c) refl

  values_are : (source : List ℕ) → shaped_value x source ≡ (plan_of r x).value source
  values_are source = direct (λ p. p.value source) refl

  module _ (b t : ℕ) (low : t < (plan_of r x).tiles) (mine : (plan_of r x).processor_of t ≡ b) (kept owned : List ℕ)
      (kept_are : kept ≡ tabulate (λ c. one (keeps (plan_of r x) b c)) (cells x)) (own_are : owned ≡ tabulate (λ c. one (owns (plan_of r x) b c)) (cells x)) where
    abbrev p : Plan
    p = plan_of r x

    so : Sound p
    so = sound r x ok

    -- a cell that it keeps is marked
    marked : (c : ℕ) → Keeps p b c → marked_at kept c ≡ true
    marked c k = mark_is kept (keeps p b) (cells x) kept_are c (keeps_low p so b c k) ∙ test_keep p b c k

    pub tile_worked : (c : ℕ) → In c (shaped_cells x (box_tile x t)) → Worked x kept c × (marked_at owned c ≡ true)
    tile_worked c j =
        let i : In c (p.cells_of t) = rw (cells_are t) at j in (
          record {
            here = marked c (Keeps.own t low mine i);
            reads = λ e h q.
                marked (read_at x c e)
                (known_kept p b t low mine (read_at x c e)
                (so.reads_known t c (read_at x c e) low i (rw (reads_are c) at (at_shaped_reads x c e h q))));
          },
          mark_is owned (owns p b) (cells x) own_are c (so.cell_low t c low i) ∙ test_own p b c t low mine i,
        )

    -- the part, once the tile is calculated in it
    pub calculated : (u : ℕ) (source memory memory' : List ℕ) → u ≡ box_tile x t → length memory ≡ length (kept_cells p b)
        → (length memory' ≡ length memory)
        × (spread_out kept memory' ≡ store_all (shaped_value x (spread_out owned source)) (spread_out kept memory) (shaped_cells x u))
        → memory' ≡ pack (store_all (p.value (source_of p b source)) (all_of p b memory) (p.cells_of t)) (kept_cells p b)
    calculated u source memory memory' e long (l, q) =
        sym (pack_spread kept memory' (l ∙ long ∙ ap length (sym marks_are)))
        ∙ ap (pack (spread_out kept memory')) marks_are
        ∙ ap (λ (m : List ℕ). pack m (kept_cells p b)) (q
        ∙ ap (λ (cs : List ℕ). store_all (shaped_value x (spread_out owned source)) (spread_out kept memory) cs) (ap (shaped_cells x) e ∙ cells_are t)
        ∙ ap (λ (f : List ℕ → ℕ → ℕ). store_all f (spread_out kept memory) (p.cells_of t)) (values_are (spread_out owned source)
        ∙ ap p.value (source_is p b owned own_are source))
        ∙ ap (λ (m : List ℕ). store_all (p.value (source_of p b source)) m (p.cells_of t)) (all_is p b kept kept_are memory))
      where
        marks_are : marked_cells kept ≡ kept_cells p b
        marks_are = marked_are kept (keeps p b) (cells x) kept_are

-- what the tile's number in the box is given
pub given_box : (t : Table) (kept counts owned tally : List ℕ) (sources words b tile u : ℕ)
    → GivenTile t kept counts owned tally sources words b tile → u ≡ box_tile t.layout.nest tile
    → GivenBox t.layout.nest kept counts owned tally sources words u
given_box t kept counts owned tally sources words b tile u g e =
    let x = t.layout.nest in
    let r = t.layout.sizes.route in
    let ok = t.layout.sized.accepted in record {
      low = number_low x r ok t.tabled.routed tile u g.low e;
      kept_marks = record { long = marks_long kept _ (cells x) g.kept_are; counted = g.counted };
      own_marks = record { long = marks_long owned _ (cells x) g.own_are; counted = g.own_counted };
      source = g.source ∙ ap length (sym (marked_are owned _ (cells x) g.own_are));
      memory = g.memory ∙ ap length (sym (marked_are kept _ (cells x) g.kept_are));
      worked = λ c i. tile_worked x r ok t.tabled.routed b tile g.low g.mine kept owned g.kept_are g.own_are c (rw e at i);
    }
