-- By the steps, or by the shape's table.
use native.Mathlib.Omega.{arith}
use Rattle.schedule.proofs.Listing as L
use Rattle.schedule.proofs.Telling as telling
use Rattle.schedule.proofs.index.end_of.Goals as goal

pub nonzero_div-sender : goal.nonzero_div-sender
nonzero_div-sender c = telling.ways_some c.args.table.now.layout.nest c.args.table.now.layout.sizes.route c.args.place c.requires.1 c.args.table.now.layout.sizes.ways c.args.table.now.layout.sized.ways c.args.table.now.tabled.routed

pub nonzero_rem-result : goal.nonzero_rem-result
nonzero_rem-result c = telling.ways_some c.args.table.now.layout.nest c.args.table.now.layout.sizes.route c.args.place c.requires.1 c.args.table.now.layout.sizes.ways c.args.table.now.layout.sized.ways c.args.table.now.tabled.routed

pub bounds-steps-slot : goal.bounds-steps-slot
bounds-steps-slot c =
    omega (
      arith,
      L.way_few _ _ c.args.table.now.layout.sized _ c.args.table.now.tabled _ c.requires.1
          (telling.ways_some c.args.table.now.layout.nest c.args.table.now.layout.sizes.route c.args.place c.requires.1 c.args.table.now.layout.sizes.ways c.args.table.now.layout.sized.ways
          c.args.table.now.tabled.routed),
    )

pub overflow_add-result : goal.overflow_add-result
overflow_add-result c =
    omega (
      arith,
      L.box_end _ _ c.args.table.now.layout.sized _ c.args.table.now.tabled _ c.requires.1 c.if-table-eq0.true _ _ c.requires.0,
      L.end_low _ _
          c.args.table.now.layout.sized _ c.args.table.now.tabled _ c.requires.1 c.args.side,
    )

pub returns-then-table-eq0 : goal.returns-then-table-eq0
returns-then-table-eq0 c =
    L.end_here _ _ c.args.table.now.layout.sized _ c.args.table.now.tabled _ c.requires.1 c.args.side _
    (L.box_end _ _ c.args.table.now.layout.sized _ c.args.table.now.tabled _ c.requires.1 c.if-table-eq0.true _ _ c.requires.0)

pub returns-then-side-eq0 : goal.returns-then-side-eq0
returns-then-side-eq0 c =
    L.end_here _ _ c.args.table.now.layout.sized _ c.args.table.now.tabled _ c.requires.1 c.args.side _
    (L.shape_sender _ _ c.args.table.now.layout.sized _ c.args.table.now.tabled _ c.requires.1 c.if-table-eq0.false c.args.side _ c.if-side-eq0.true
    (telling.sender_is c.args.table.now.layout.nest c.args.table.now.layout.sizes.route c.args.place c.requires.1 c.args.table.now.layout.sizes.ways c.args.table.now.layout.sized.ways
    c.args.table.now.tabled.routed))

pub taker_of-requires : goal.taker_of-requires
taker_of-requires c =
    let if1 = c.if-table-eq0 in
    (c.args.table.now.tabled.routed if1.false, (c.args.table.now.tabled.shape if1.false, (c.requires.1.shape if1.false).0))

pub returns : goal.returns
returns c =
    let if1 = c.if-table-eq0 in
    L.end_here _ _ c.args.table.now.layout.sized _ c.args.table.now.tabled _ c.requires.1 c.args.side _
    (L.shape_taker _ _ c.args.table.now.layout.sized _ c.args.table.now.tabled _ c.requires.1 if1.false c.args.side c.if-side-eq0.false _
    (c.taker_of.ensures (L.shape_full _ _ c.args.table.now.layout.sized _ c.args.table.now.tabled _ c.requires.1 if1.false)))
