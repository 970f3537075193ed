-- The part of the memories that is lent to calculate comes back calculated.
use Prim.Native.Nat.{ℕ, ◌+◌, ◌*◌}
use mathlib.Core.Path.{ap, ◌∙◌}
use lib.Dec.{ltb}
use Rattle.base.specs.Tests.{pick}
use Rattle.machine.specs.Machine.{state_of, set_progress}
use Rattle.nest.specs.Nest.{cells, processors}
use Rattle.stages.proofs.Parts as parts
use Rattle.stages.proofs.Stages as stages
use Rattle.stages.proofs.calculate_stage.Goals as goal

pub calculate-requires : goal.calculate-requires
calculate-requires c =
    let A = c.args in
    record {
      sized = c.requires.sized.1;
      source_len = (
        c.requires.source_len.0,
        parts.mid_length A.memories.now (A.processor * A.table.now.layout.sizes.cells) A.table.now.layout.sizes.cells
            (parts.room (processors A.table.now.layout.nest) A.processor A.table.now.layout.sizes.cells (cells A.table.now.layout.nest) _ c.requires.sized.0 c.args.table.now.layout.sized.cells
            c.requires.source_len.1.0) ∙ c.args.table.now.layout.sized.cells,
      );
    }

pub returns : goal.returns
returns c =
    let A = c.args in
    let G = c.calculate in
    let n = c.count_at-n in
    λ buffer l status f.
    stages.calculated A.table.now.layout.sizes.route A.table.now.layout.nest (state_of A.memories.now buffer l status) A.processor A.tile A.table.now.layout.sizes.cells
    c.args.table.now.layout.sized.cells A.source.now G.new.memory _ n.result
    ((parts.room (processors c.args.table.now.layout.nest) c.args.processor c.args.table.now.layout.sizes.cells (cells c.args.table.now.layout.nest) _ c.requires.sized.0 c.args.table.now.layout.sized.cells
    c.requires.source_len.1.0))
    G.auto.memory G.ensures n.ensures.0
    (c.next_record.ensures l A.processor ∙ ap
    (λ (k : ℕ). pick (ltb 0 n.result) (set_progress l A.processor k 2 0) (set_progress l A.processor (k + 1) 0 0)) f)
