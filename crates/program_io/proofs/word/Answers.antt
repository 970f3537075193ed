-- Not in the record, or the four bytes.
use mathlib.Core.Path.{◌∙◌}
use Rattle.program_io.proofs.Laws as laws
use Rattle.program_io.proofs.word.Goals as goal

pub returns-then-at-gt12 : goal.returns-then-at-gt12
returns-then-at-gt12 c = laws.far_word c.args.bytes.now c.args.at c.if-at-gt12.true

pub returns-then-bytes-lt16 : goal.returns-then-bytes-lt16
returns-then-bytes-lt16 c = laws.short_word c.args.bytes.now c.args.at c.if-bytes-lt16.true

pub returns : goal.returns
returns c = c.word_at.ensures ∙ laws.word_whole c.args.bytes.now c.args.at c.if-at-gt12.false c.if-bytes-lt16.false
