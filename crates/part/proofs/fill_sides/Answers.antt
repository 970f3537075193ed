-- `fill_sides` meets its contract: the tiles passed.
use native.Mathlib.Omega.{arith}
use mathlib.Core.List.{List}
use Rattle.std.specs.Prelude.{Some}
use lib.ListN.{length, get_or}
use Rattle.nest.specs.declared.Nest.{Nest}
use Rattle.layout.specs.declared.Sizes.{Sizes}
use Rattle.layout.specs.Sizes.{Sized}
use Rattle.tables.specs.Tables.{Tabled}
use Rattle.nest.specs.Nest.{tile_count}
use Rattle.nest.specs.Spans.{last}
use Rattle.plan.specs.Shaped.{box_tile, plan_of}
use Rattle.layout.proofs.CellRows.{row_in}
use Rattle.stages.proofs.Parts.{mid_length}
use Prim.Native.Nat.{ℕ, ◌+◌, ◌*◌, ◌-◌, ◌/◌, ◌≤◌, ◌<◌}
use mathlib.Core.Path.{◌≡◌, sym, ◌∙◌, subst}
use Rattle.tables.proofs.Slotted as rows
use Rattle.part.proofs.Chains as chains
use Rattle.part.proofs.fill_sides.Goals as goal
use Rattle.part.proofs.fill_sides.Goals.{then-eq, else-eq}

-- a tile's row of sides is inside
room : (x : Nest) (z : Sizes) (s : Sized x z) (lens : List ℕ) (t : Tabled x z lens) (tiles : ℕ) → tiles ≡ (plan_of z.route x).tiles → (tile : ℕ)
    → tile < tiles → tile * z.ways + z.ways ≤ 7168
room x z s lens t tiles is tile low = let table = rows.slotted x z s lens t tiles is in omega (arith, row_in z.ways tile tiles low, table.sheet.few)

pub overflow_sub-across : goal.overflow_sub-across
overflow_sub-across c = omega (arith, c.args.table.now.layout.sized.accepted.dimensions_least, c.args.table.now.layout.sized.accepted.dimensions_most)

pub offset_bounds-table-table : goal.offset_bounds-table-table
offset_bounds-table-table c = omega (arith, c.args.table.now.layout.sized.accepted.dimensions_least, c.args.table.now.layout.sized.accepted.dimensions_most)

pub bounds-table-table : goal.bounds-table-table
bounds-table-table c = omega (arith, c.args.table.now.layout.sized.accepted.dimensions_least, c.args.table.now.layout.sized.accepted.dimensions_most)

pub loop-tile-init : goal.loop-tile-init
loop-tile-init c = (omega arith, chains.sides_start c.args.table.now.layout.sizes.route c.args.table.now.layout.nest c.args.b c.args.sides.now c.requires)

pub box_tile-number-requires : goal.box_tile-number-requires
box_tile-number-requires c = omega (arith, c.loop-tile-test.true, c.tiles_of-tiles.ensures.0)

pub nonzero_div-chain : goal.nonzero_div-chain
nonzero_div-chain c = chains.across_some c.args.table.now.layout.nest c.args.table.now.layout.sizes c.args.table.now.layout.sized

pub overflow_mul-from : goal.overflow_mul-from
overflow_mul-from c =
    omega (arith, (room c.args.table.now.layout.nest c.args.table.now.layout.sizes c.args.table.now.layout.sized c.args.table.now.lens.now c.args.table.now.tabled _ c.tiles_of-tiles.ensures.0 _ c.loop-tile-test.true), c.loop-tile.invariant.1.long)

pub overflow_sub-from : goal.overflow_sub-from
overflow_sub-from c = chains.row_before c.args.table.now.layout.sizes.ways c.loop-tile.tile (c.loop-tile.invariant.1.behind _ (chains.known_is c.loop-tile.known _ (sym c.eq.ensures ∙ c.if-eq.true))).0

pub copy_within-requires-clause-in_bounds : goal.copy_within-requires-clause-in_bounds
copy_within-requires-clause-in_bounds c = omega (arith, (room c.args.table.now.layout.nest c.args.table.now.layout.sizes c.args.table.now.layout.sized c.args.table.now.lens.now c.args.table.now.tabled _ c.tiles_of-tiles.ensures.0 _ c.loop-tile-test.true), c.loop-tile.invariant.1.long)

pub copy_within-requires-clause-dest_in_bounds : goal.copy_within-requires-clause-dest_in_bounds
copy_within-requires-clause-dest_in_bounds c =
    let from : ℕ = c.loop-tile.tile * c.args.table.now.layout.sizes.ways in
    let it : from + (from - (from - c.args.table.now.layout.sizes.ways)) ≤ length c.loop-tile.sides = omega (arith, (room c.args.table.now.layout.nest c.args.table.now.layout.sizes c.args.table.now.layout.sized c.args.table.now.lens.now c.args.table.now.tabled _ c.tiles_of-tiles.ensures.0 _ c.loop-tile-test.true), c.loop-tile.invariant.1.long) in it

pub overflow_add-end : goal.overflow_add-end
overflow_add-end c =
    omega (arith, (room c.args.table.now.layout.nest c.args.table.now.layout.sizes c.args.table.now.layout.sized c.args.table.now.lens.now c.args.table.now.tabled _ c.tiles_of-tiles.ensures.0 _ c.loop-tile-test.true), c.loop-tile.invariant.1.long)

pub slice_bounds-put_sides-end : goal.slice_bounds-put_sides-end
slice_bounds-put_sides-end c =
    omega (arith, (room c.args.table.now.layout.nest c.args.table.now.layout.sizes c.args.table.now.layout.sized c.args.table.now.lens.now c.args.table.now.tabled _ c.tiles_of-tiles.ensures.0 _ c.loop-tile-test.true), c.loop-tile.invariant.1.long)

pub put_sides-requires : goal.put_sides-requires
put_sides-requires c =
    let S = c in
    let loop = c.loop-tile in
    let z = S.args.table.now.layout.sizes in (
      c.box_tile-number.ensures.1,
      mid_length loop.sides (loop.tile * z.ways) z.ways (omega (arith, (room c.args.table.now.layout.nest c.args.table.now.layout.sizes c.args.table.now.layout.sized c.args.table.now.lens.now c.args.table.now.tabled _ c.tiles_of-tiles.ensures.0 _ c.loop-tile-test.true), loop.invariant.1.long)) ∙ S.args.table.now.layout.sized.ways,
    )

pub loop-tile-preserved : goal.loop-tile-preserved
loop-tile-preserved c =
    let S = c in
    let x = S.args.table.now.layout.nest in
    let z = S.args.table.now.layout.sizes in
    let loop = c.loop-tile in
    let box_tile_lem = c.box_tile-number in
    let g = loop.invariant.1 in
    let chain = box_tile_lem.result / get_or z.across (x.dimensions - 1) 0 in
    let is : chain ≡ box_tile x loop.tile / tile_count x (last x) = chains.chain_is z.route x z S.args.table.now.layout.sized loop.tile box_tile_lem.result
    box_tile_lem.ensures.0 in (
      omega (arith, c.loop-tile-test.true),
      elim c.if-eq.branch [
        | then-eq w ↦
            subst (λ l. chains.SidesTo z.route x S.args.b l (loop.tile + 1) (Some chain)) (sym w.sides-is)
            (chains.sides_copied z.route x S.args.b S.args.table.now.layout.sized.accepted loop.sides loop.tile loop.known g chain is z.ways
            S.args.table.now.layout.sized.ways (room c.args.table.now.layout.nest c.args.table.now.layout.sizes c.args.table.now.layout.sized c.args.table.now.lens.now c.args.table.now.tabled _ c.tiles_of-tiles.ensures.0 _ c.loop-tile-test.true) _ (chains.known_is loop.known chain (sym c.eq.ensures ∙ w.if-eq.true)) w.copy_within.ensures.len w.copy_within.ensures.by_index.0 w.copy_within.ensures.by_index.1)
        | else-eq w ↦
            subst (λ l. chains.SidesTo z.route x S.args.b l (loop.tile + 1) (Some chain)) (sym w.sides-is)
            (chains.sides_put z.route x S.args.b S.args.table.now.layout.sized.accepted loop.sides loop.tile loop.known g chain is z.ways
            S.args.table.now.layout.sized.ways (room c.args.table.now.layout.nest c.args.table.now.layout.sizes c.args.table.now.layout.sized c.args.table.now.lens.now c.args.table.now.tabled _ c.tiles_of-tiles.ensures.0 _ c.loop-tile-test.true) w.put_sides.new.row box_tile_lem.result box_tile_lem.ensures.0 w.put_sides.auto.row w.put_sides.ensures)
      ],
    )

pub shape_of-sides : goal.shape_of-sides
shape_of-sides c = c.loop-tile.invariant.1.long ∙ sym c.requires

pub returns : goal.returns
returns c =
    let loop = c.loop-tile in
    let tiles-of = c.tiles_of-tiles in
    rw (← tiles-of.ensures.0, c.args.table.now.layout.sized.ways)
    (chains.sides_done c.args.table.now.layout.sizes.route c.args.table.now.layout.nest c.args.b loop.sides loop.tile loop.known tiles-of.result loop.invariant.1
    c.loop-tile-test.false)
