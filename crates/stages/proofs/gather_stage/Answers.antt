-- The part of the memories that is lent to gather comes back gathered.
use Prim.Native.Nat.{ℕ, ◌*◌}
use mathlib.Core.Path.{ap, ◌∙◌}
use Rattle.machine.specs.Machine.{state_of, set_progress}
use Rattle.nest.specs.Nest.{cells, processors}
use Rattle.stages.proofs.Parts as parts
use Rattle.stages.proofs.Stages as stages
use Rattle.stages.proofs.gather_stage.Goals as goal

pub gather-requires : goal.gather-requires
gather-requires c =
    let A = c.args in
    record {
      sized = c.requires.sized.1;
      memory_len = (
        parts.mid_length A.memories.now (A.processor * A.table.now.layout.sizes.cells) A.table.now.layout.sizes.cells
            (parts.room (processors A.table.now.layout.nest) A.processor A.table.now.layout.sizes.cells (cells A.table.now.layout.nest) _ c.requires.sized.0 c.args.table.now.layout.sized.cells
            c.requires.memories_len.0) ∙
            c.args.table.now.layout.sized.cells,
        (c.requires.memories_len.1.0, c.requires.memories_len.1.1),
      );
    }

pub returns : goal.returns
returns c =
    let A = c.args in
    let G = c.gather in
    λ l f.
    stages.gathered A.table.now.layout.sizes.route A.table.now.layout.nest (state_of A.memories.now A.buffer.now l A.status.now) A.processor A.tile A.table.now.layout.sizes.cells
    c.args.table.now.layout.sized.cells G.new.memory _ G.new.status
    ((parts.room (processors c.args.table.now.layout.nest) c.args.processor c.args.table.now.layout.sizes.cells (cells c.args.table.now.layout.nest) _ c.requires.sized.0 c.args.table.now.layout.sized.cells
    c.requires.memories_len.0))
    G.auto.memory G.ensures.0 G.ensures.1 (ap (λ (k : ℕ). set_progress l A.processor k 1 0) f)
