-- `rank_by` meets its contract: known, or by its block.
use mathlib.Core.Path.{sym, ap, ◌∙◌}
use Rattle.rank_index.specs.Ranks.{rank_at}
use Rattle.part.proofs.rank_by.Goals as goal

pub returns-then-c-known : goal.returns-then-c-known
returns-then-c-known c = c.requires.at_value ∙ ap (rank_at c.args.marks.now) (sym c.if-c-known.true)
