-- `tables::message_cells::cells_of` meets its contract.
use mathlib.Core.Path.{sym, ap, ◌∙◌}
use Rattle.base.specs.Lists.{pack}
use Rattle.tables.proofs.Laws as L
use Rattle.runs.specs.listed.Numbers.{numbers}
use Rattle.tables.proofs.message_cells.Laws.{held_listed}
use Rattle.tables.proofs.message_cells.cells_of.Goals as goal

pub list_box-requires : goal.list_box-requires
list_box-requires c = (
  (c.requires.sized.1.box c.if-layout-eq0.true).0,
  L.box_long c.args.layout.now.nest c.args.layout.now.sized.accepted c.args.layout.now.sizes.route c.if-layout-eq0.true
      c.args.place.number _ c.args.place c.requires.sized.1 c.requires.cells_len,
)

pub returns-then-layout-eq0 : goal.returns-then-layout-eq0
returns-then-layout-eq0 c =
    c.list_box.ensures ∙ ap (pack numbers)
    (sym (L.box_held c.args.layout.now.nest c.args.layout.now.sized.accepted c.args.layout.now.sizes.route c.if-layout-eq0.true c.args.place.number
    c.args.place c.requires.sized.1))
    ∙ held_listed c.args.layout.now.sizes.route _ c.args.layout.now.sized.accepted _ c.requires.sized.1.low

pub nonzero_div-slot : goal.nonzero_div-slot
nonzero_div-slot c =
    L.some_ways c.args.layout.now.nest c.args.layout.now.sized.accepted c.args.layout.now.sizes.route c.if-layout-eq0.false
    (c.requires.sized.0.routed c.if-layout-eq0.false) c.args.place.number c.args.place c.requires.sized.1 c.args.layout.now.sizes.ways
    c.args.layout.now.sized.ways

pub box_of-tile-requires : goal.box_of-tile-requires
box_of-tile-requires c = (
  c.args.layout.now.sized.accepted,
  (
    (c.requires.sized.0.shape c.if-layout-eq0.false).owned.tiled,
    L.sender_low c.args.layout.now.nest
        c.args.layout.now.sized.accepted c.args.layout.now.sizes.route c.if-layout-eq0.false (c.requires.sized.0.routed c.if-layout-eq0.false)
        c.args.place.number c.args.place c.requires.sized.1 c.args.layout.now.sizes.ways c.args.layout.now.sized.ways,
  ),
)

pub nonzero_rem-slot : goal.nonzero_rem-slot
nonzero_rem-slot c =
    L.some_ways c.args.layout.now.nest c.args.layout.now.sized.accepted c.args.layout.now.sizes.route c.if-layout-eq0.false
    (c.requires.sized.0.routed c.if-layout-eq0.false) c.args.place.number c.args.place c.requires.sized.1 c.args.layout.now.sizes.ways
    c.args.layout.now.sized.ways

pub list_shaped-requires : goal.list_shaped-requires
list_shaped-requires c =
    record {
      sized = (
        c.requires.sized.0.routed c.if-layout-eq0.false,
        (
          c.box_of-tile.ensures.1,
          L.way_low c.args.layout.now.nest c.args.layout.now.sized.accepted c.args.layout.now.sizes.route c.if-layout-eq0.false
              (c.requires.sized.0.routed c.if-layout-eq0.false) c.args.place.number c.args.place c.requires.sized.1
              c.args.layout.now.sizes.ways
              c.args.layout.now.sized.ways,
        ),
      );
      cells_len = L.shape_long c.args.layout.now.nest c.args.layout.now.sized.accepted c.args.layout.now.sizes.route c.if-layout-eq0.false
          (c.requires.sized.0.routed c.if-layout-eq0.false) c.args.place.number c.args.place c.requires.sized.1
          c.args.layout.now.sizes.ways c.args.layout.now.sized.ways _ _ c.box_of-tile.ensures.0 c.requires.cells_len;
    }

pub returns : goal.returns
returns c =
    c.list_shaped.ensures ∙ ap (pack numbers)
    (sym (L.shape_held c.args.layout.now.nest c.args.layout.now.sized.accepted c.args.layout.now.sizes.route c.if-layout-eq0.false
    (c.requires.sized.0.routed c.if-layout-eq0.false) c.args.place.number c.args.place c.requires.sized.1 c.args.layout.now.sizes.ways
    c.args.layout.now.sized.ways _ c.box_of-tile.ensures.0))
    ∙ held_listed c.args.layout.now.sizes.route _ c.args.layout.now.sized.accepted _ c.requires.sized.1.low
