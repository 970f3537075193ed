-- `tables::tiles_of` meets its contract.
use Rattle.tables.proofs.Laws as L
use Rattle.tables.proofs.Table.tiles_of.Goals as goal

pub returns-then-self-eq0 : goal.returns-then-self-eq0
returns-then-self-eq0 c =
    L.box_count c.args.self.now.layout.nest c.args.self.now.layout.sized.accepted c.args.self.now.layout.sizes.route c.if-self-eq0.true _
    c.args.self.now.layout.sized.tiles

pub tiles_of-requires : goal.tiles_of-requires
tiles_of-requires c = (c.args.self.now.layout.sized.accepted, (c.args.self.now.tabled.shape c.if-self-eq0.false).owned.tiled)

pub returns : goal.returns
returns c = (
  L.shape_count c.args.self.now.layout.nest c.args.self.now.layout.sized.accepted c.args.self.now.layout.sizes.route
      c.if-self-eq0.false (c.args.self.now.tabled.routed c.if-self-eq0.false) _ c.tiles_of.ensures.0,
  c.tiles_of.ensures.1,
)
