-- The message is packed into its place from the processor's own part of the memories.
use Prim.Native.Nat.{ℕ, ◌+◌, ◌*◌}
use mathlib.Core.Path.{ap, ◌∙◌}
use lib.Dec.{ltb}
use Rattle.base.specs.Tests.{pick}
use Rattle.machine.specs.Machine.{state_of, set_progress}
use Rattle.nest.specs.Nest.{cells, processors}
use Rattle.stages.proofs.Parts as parts
use Rattle.stages.proofs.Stages as stages
use Rattle.stages.proofs.send_stage.Goals as goal

pub put_message-requires : goal.put_message-requires
put_message-requires c =
    let A = c.args in
    record {
      sized = parts.placed_self A.table.now.layout.sizes.route A.table.now.layout.nest _ c.nth_at-place.result c.nth_at-place.ensures;
      memory_len = (
        parts.mid_length A.memories.now (A.processor * A.table.now.layout.sizes.cells) A.table.now.layout.sizes.cells
            (parts.room (processors A.table.now.layout.nest) A.processor A.table.now.layout.sizes.cells (cells A.table.now.layout.nest) _ c.requires.sized.0 c.args.table.now.layout.sized.cells
            c.requires.memories_len.0) ∙ c.args.table.now.layout.sized.cells,
        c.requires.memories_len.1.0,
      );
    }

pub returns : goal.returns
returns c =
    let A = c.args in
    let n = c.count_at-n in
    λ l f g. stages.sent_is A.table.now.layout.sizes.route A.table.now.layout.nest (state_of A.memories.now A.buffer.now l A.status.now) A.processor A.tile
    A.table.now.layout.sizes.cells c.args.table.now.layout.sized.cells A.sent n.result c.nth_at-place.result c.put_message.new.buffer _ g
    c.requires.finished_bound.1 c.nth_at-place.ensures n.ensures.0 c.put_message.ensures (c.next_record.ensures l A.processor
    ∙ ap (λ (k : ℕ). pick (ltb (A.sent + 1) n.result) (set_progress l A.processor k 2 (A.sent + 1)) (set_progress l A.processor (k + 1) 0 0)) f)
