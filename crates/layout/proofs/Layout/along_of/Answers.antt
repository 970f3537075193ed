-- `layout::along_of` meets its contract.
use native.Mathlib.Omega.{arith}
use Rattle.layout.proofs.Steps.{ways_few, way_few, ahead_places, along_direct, along_indirect}
use Rattle.layout.proofs.Layout.along_of.Goals as goal

pub overflow_add-way : goal.overflow_add-way
overflow_add-way c = omega (arith, c.requires, ways_few _ c.args.self.now.sized.accepted c.args.self.now.sizes.route)

pub returns-in-Direct : goal.returns-in-Direct
returns-in-Direct c = along_direct _ c.args.self.now.sized.accepted _ c.in-Direct.is _ _ c.place.ensures

pub returns-in-Indirect : goal.returns-in-Indirect
returns-in-Indirect c = along_indirect _ c.args.self.now.sized.accepted _ c.in-Indirect.is _ c.requires
