-- `tables::count_at` meets its contract.
use Rattle.tables.proofs.Laws as L
use Rattle.tables.proofs.Table.count_at.Goals as goal

pub count_at-requires : goal.count_at-requires
count_at-requires c = c.args.self.now.tabled.box c.if-self-eq0.true

pub returns-then-self-eq0 : goal.returns-then-self-eq0
returns-then-self-eq0 c =
    L.box_ends c.args.self.now.layout.nest c.args.self.now.layout.sized.accepted c.args.self.now.layout.sizes.route
    c.if-self-eq0.true c.args.side c.args.tile _ c.count_at.ensures

pub count_at-requires-2 : goal.count_at-requires-2
count_at-requires-2 c = (
  c.args.self.now.tabled.routed c.if-self-eq0.false,
  (
    c.args.self.now.tabled.shape c.if-self-eq0.false,
    L.shape_low c.args.self.now.layout.nest c.args.self.now.layout.sized.accepted c.args.self.now.layout.sizes.route c.if-self-eq0.false
        (c.args.self.now.tabled.routed c.if-self-eq0.false) _ c.requires,
  ),
)

pub returns : goal.returns
returns c =
    L.shape_ends c.args.self.now.layout.nest c.args.self.now.layout.sized.accepted c.args.self.now.layout.sizes.route
    c.if-self-eq0.false (c.args.self.now.tabled.routed c.if-self-eq0.false) c.args.side
    c.args.tile _ c.count_at-2.ensures
