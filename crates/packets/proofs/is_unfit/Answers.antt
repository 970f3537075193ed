-- Each return is a law of the test.
use Rattle.packets.proofs.Answers.{unfit_many, unfit_long}
use mathlib.Core.Path.{refl}
use Rattle.packets.proofs.is_unfit.Goals as goal

pub returns-then-count-gt-MOST_WORDS : goal.returns-then-count-gt-MOST_WORDS
returns-then-count-gt-MOST_WORDS c = unfit_many c.args.count c.args.length c.if-count-gt-MOST_WORDS.true

pub returns-else-count-gt-MOST_WORDS : goal.returns-else-count-gt-MOST_WORDS
returns-else-count-gt-MOST_WORDS c = unfit_long c.args.count c.args.length c.if-count-gt-MOST_WORDS.false _ refl
