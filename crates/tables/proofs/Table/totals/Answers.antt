-- `tables::totals` meets its contract.
use mathlib.Core.Path.{sym, ap, ◌∙◌}
use mathlib.Core.List.{List}
use native.Mathlib.Omega.{arith}
use lib.ListN.{length}
use Rattle.machine.specs.Plan.{Message, offset}
use Rattle.tables.proofs.Slotted.{slotted}
use Rattle.tables.proofs.Table.totals.Goals as goal

pub overflow_mul-tiles_of : goal.overflow_mul-tiles_of
overflow_mul-tiles_of c =
    omega (arith, (slotted c.args.self.now.layout.nest c.args.self.now.layout.sizes c.args.self.now.layout.sized c.args.self.now.lens.now c.args.self.now.tabled c.tiles_of.result c.tiles_of.ensures.0).sheet.few)

pub sums_to-requires : goal.sums_to-requires
sums_to-requires c = (slotted c.args.self.now.layout.nest c.args.self.now.layout.sizes c.args.self.now.layout.sized c.args.self.now.lens.now c.args.self.now.tabled c.tiles_of.result c.tiles_of.ensures.0).sheet

pub returns : goal.returns
returns c =
    let s = slotted c.args.self.now.layout.nest c.args.self.now.layout.sizes c.args.self.now.layout.sized c.args.self.now.lens.now c.args.self.now.tabled c.tiles_of.result c.tiles_of.ensures.0 in
    let z = c.sums_to.ensures.1.1 s.slot s.lengths in
    let all = sym s.all in (
      z.number ∙ ap length all,
      (z.offset ∙ ap (λ (l : List Message). offset l (length l)) all, (c.sums_to.ensures.0, c.sums_to.ensures.1.0)),
    )
