-- `tables::nth_at` meets its contract.
use Rattle.tables.proofs.Laws as L
use Rattle.tables.proofs.Table.nth_at.Goals as goal

pub nth_at-requires : goal.nth_at-requires
nth_at-requires c =
    record {
      sized = c.args.self.now.tabled.box c.if-self-eq0.true;
      j_in_bounds = L.box_under c.args.self.now.layout.nest
          c.args.self.now.layout.sized.accepted c.args.self.now.layout.sizes.route c.if-self-eq0.true c.args.side
          c.args.tile _ c.requires.j_in_bounds;
    }

pub returns-then-self-eq0 : goal.returns-then-self-eq0
returns-then-self-eq0 c =
    L.box_found c.args.self.now.layout.nest c.args.self.now.layout.sized.accepted c.args.self.now.layout.sizes.route
    c.if-self-eq0.true _ _ _ (L.box_at c.args.self.now.layout.nest c.args.self.now.layout.sized.accepted
    c.args.self.now.layout.sizes.route c.if-self-eq0.true c.args.side c.args.tile
    c.args.j) c.nth_at.ensures

pub nth_at-requires-2 : goal.nth_at-requires-2
nth_at-requires-2 c =
    record {
      sized = (
        c.args.self.now.tabled.routed c.if-self-eq0.false,
        (
          c.args.self.now.tabled.shape c.if-self-eq0.false,
          L.shape_low c.args.self.now.layout.nest c.args.self.now.layout.sized.accepted c.args.self.now.layout.sizes.route c.if-self-eq0.false
              (c.args.self.now.tabled.routed c.if-self-eq0.false) _ c.requires.sized,
        ),
      );
      j_in_bounds = L.shape_under c.args.self.now.layout.nest
          c.args.self.now.layout.sized.accepted c.args.self.now.layout.sizes.route c.if-self-eq0.false (c.args.self.now.tabled.routed c.if-self-eq0.false)
          c.args.side c.args.tile _ c.requires.j_in_bounds;
    }

pub returns : goal.returns
returns c =
    L.shape_found c.args.self.now.layout.nest c.args.self.now.layout.sized.accepted c.args.self.now.layout.sizes.route
    c.if-self-eq0.false (c.args.self.now.tabled.routed c.if-self-eq0.false) c.args.side
    c.args.tile c.args.j _ c.nth_at-2.ensures
