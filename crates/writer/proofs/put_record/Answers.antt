-- `writer::put_record` meets its contract: the record's bytes stand behind those that were right.
use native.Mathlib.Omega.{arith}
use Rattle.writer.proofs.Loops.{row_laid}
use Rattle.writer.proofs.put_record.Goals as goal

pub returns : goal.returns
returns c = λ f e h. rw c.copy_from_slice.ensures.after (row_laid c.args.at c.args.bytes c.args.row c.requires (omega arith) f e h)
