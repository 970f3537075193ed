-- `tables::tile_at` meets its contract.
use Rattle.tables.proofs.Laws as L
use Rattle.tables.proofs.Table.tile_at.Goals as goal

pub tile_at-requires : goal.tile_at-requires
tile_at-requires c = L.box_few c.args.self.now.layout.nest c.args.self.now.layout.sized.accepted c.args.self.now.layout.sizes.route
    c.if-self-eq0.true _ _ c.requires

pub returns-then-self-eq0 : goal.returns-then-self-eq0
returns-then-self-eq0 c =
    L.box_tile_lem c.args.self.now.layout.nest c.args.self.now.layout.sized.accepted c.args.self.now.layout.sizes.route
    c.if-self-eq0.true _ _ _ c.tile_at.ensures

pub tile_at-requires-2 : goal.tile_at-requires-2
tile_at-requires-2 c =
    record {
      accepted = (c.args.self.now.layout.sized.accepted, c.args.self.now.tabled.shape c.if-self-eq0.false);
      finished_in_bounds = L.shape_few c.args.self.now.layout.nest
          c.args.self.now.layout.sized.accepted c.args.self.now.layout.sizes.route c.if-self-eq0.false (c.args.self.now.tabled.routed c.if-self-eq0.false) _ _
          c.requires;
    }

pub returns : goal.returns
returns c =
    L.shape_tile c.args.self.now.layout.nest c.args.self.now.layout.sized.accepted c.args.self.now.layout.sizes.route
    c.if-self-eq0.false (c.args.self.now.tabled.routed c.if-self-eq0.false) _ _ _ c.tile_at-2.ensures
