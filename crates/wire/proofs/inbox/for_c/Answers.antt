-- Whether the message is whole, as a word.
use mathlib.Core.Path.{ap, ◌∙◌}
use Rattle.std.specs.Prelude.{ℕ}
use Rattle.engine.specs.Calls.{answer}
use Rattle.packets.proofs.ChunkAnswers.{byte_one}
use Rattle.wire.specs.Wire.{received_as}
use Rattle.wire.proofs.inbox.for_c.Goals as goal

pub returns-in-Ok : goal.returns-in-Ok
returns-in-Ok c = λ i s. rw c.in-Ok.is (ap (λ (w : ℕ). answer 0 (received_as w c.in-Ok.brought.message i s)) (c.from.ensures ∙ byte_one c.in-Ok.brought.whole))
