-- `mark_held` meets its contract: its cells listed, then marked.
use Prim.Native.Nat.{ℕ}
use mathlib.Core.Path.{ap, ◌∙◌}
use mathlib.Core.List.{List}
use Rattle.base.specs.Lists.{set_all}
use Rattle.plan.specs.Shaped.{plan_of}
use Rattle.plan.proofs.ShapedSound.{sound}
use Rattle.part.proofs.Brought as brings
use Rattle.part.proofs.mark_held.Goals as goal

pub mark_cells-requires : goal.mark_cells-requires
mark_cells-requires c =
    brings.held_below (plan_of c.args.table.now.layout.sizes.route c.args.table.now.layout.nest) (sound c.args.table.now.layout.sizes.route c.args.table.now.layout.nest c.args.table.now.layout.sized.accepted)
    c.args.place.number c.requires.sized.low _ c.args.marks.now c.cells_of.ensures c.requires.list_len.1

pub returns : goal.returns
returns c =
    c.mark_cells.ensures ∙ ap (λ (cs : List ℕ). set_all c.args.marks.now cs 1)
    c.cells_of.ensures
