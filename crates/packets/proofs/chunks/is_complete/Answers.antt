-- Every bit is asked for.
use Rattle.std.proofs.Common.{rules, tests}
use Rattle.std.proofs.lemmas.Iterator.{YieldsList-from_range}
use Rattle.std.proofs.lemmas.Iterator.Search.{all_from_yields_List}
use native.Mathlib.Omega.{arith}
use mathlib.Core.Path.{refl, ◌∙◌}
use Rattle.packets.specs.Cut.{there}
use Rattle.packets.proofs.ChunkAnswers.{complete_by}
use Rattle.packets.proofs.chunks.is_complete.Goals as goal

pub returns : goal.returns
returns c =
    all_from_yields_List (there c.args.mask) _ _ c.all.result c.all.ensures.ran (YieldsList-from_range 0 c.args.chunks c.args.chunks refl (omega arith)) (λ x b q k. search (rules, tests))
    ∙ complete_by c.args.mask c.args.chunks
