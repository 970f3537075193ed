-- `tables::nth` meets its contract.
use mathlib.Core.Path.{ap}
use native.Mathlib.Omega.{arith}
use lib.ListN.{length}
use Rattle.tables.proofs.Slotted.{slotted}
use Rattle.tables.proofs.Table.nth.Goals as goal

pub overflow_mul-tiles_of : goal.overflow_mul-tiles_of
overflow_mul-tiles_of c =
    omega (arith, (slotted c.args.self.now.layout.nest c.args.self.now.layout.sizes c.args.self.now.layout.sized c.args.self.now.lens.now c.args.self.now.tabled c.tiles_of.result c.tiles_of.ensures.0).sheet.few)

pub nth-requires : goal.nth-requires
nth-requires c = (slotted c.args.self.now.layout.nest c.args.self.now.layout.sizes c.args.self.now.layout.sized c.args.self.now.lens.now c.args.self.now.tabled c.tiles_of.result c.tiles_of.ensures.0).sheet

pub returns : goal.returns
returns c =
    let s = slotted c.args.self.now.layout.nest c.args.self.now.layout.sizes c.args.self.now.layout.sized c.args.self.now.lens.now c.args.self.now.tabled c.tiles_of.result c.tiles_of.ensures.0 in
    s.found c.args.m _ (c.nth.ensures s.slot s.lengths (omega (arith, c.requires, ap length s.all)))
