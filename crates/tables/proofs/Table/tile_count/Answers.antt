-- `tables::tile_count` meets its contract.
use Rattle.tables.proofs.Laws as L
use Rattle.tables.proofs.Table.tile_count.Goals as goal

pub returns-then-self-eq0 : goal.returns-then-self-eq0
returns-then-self-eq0 c = (
  L.box_tiles_lem c.args.self.now.layout.nest c.args.self.now.layout.sized.accepted c.args.self.now.layout.sizes.route
      c.if-self-eq0.true _ _ c.tile_count.ensures.0,
  c.tile_count.ensures.1,
)

pub tile_count-requires-2 : goal.tile_count-requires-2
tile_count-requires-2 c = (c.args.self.now.layout.sized.accepted, c.args.self.now.tabled.shape c.if-self-eq0.false)

pub returns : goal.returns
returns c =
    L.shape_tiles c.args.self.now.layout.nest c.args.self.now.layout.sized.accepted c.args.self.now.layout.sizes.route
    c.if-self-eq0.false (c.args.self.now.tabled.routed c.if-self-eq0.false) _ _ c.tile_count-2.ensures
