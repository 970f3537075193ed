-- `reader::distances::bad_distance` meets its contract: what `any` answers over the range.
use mathlib.Core.Path.{◌∙◌, refl}
use native.Mathlib.Omega.{arith}
use borrow.Author.Rules.{rules}
use borrow.Author.Tests.{tests}
use Rattle.std.proofs.lemmas.Iterator.{YieldsList-from_range}
use Rattle.std.proofs.lemmas.Iterator.Search.{any_from_yields_List}
use Rattle.base.proofs.Chains.{range_any}
use Rattle.nest.specs.Reader.{faulty, bad_distance}
use Rattle.reader.proofs.distances.bad_distance.Goals as goal

pub returns : goal.returns
unfolding bad_distance
returns c =
    any_from_yields_List (faulty c.args.nest) _ _ _ c.any.ensures.ran (YieldsList-from_range 0 c.args.nest.distances c.args.nest.distances refl (omega arith))
    (λ x b q k. search (rules, tests))
    ∙ range_any _ _
