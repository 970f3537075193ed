-- `reader::distances::repeated` meets its contract: what `any` answers over the range.
use mathlib.Core.Path.{◌∙◌, refl}
use native.Mathlib.Omega.{arith}
use borrow.Author.Rules.{rules}
use borrow.Author.Tests.{tests}
use Rattle.std.proofs.lemmas.Iterator.{YieldsList-from_range}
use Rattle.std.proofs.lemmas.Iterator.Search.{any_from_yields_List}
use Rattle.base.proofs.Chains.{range_any}
use Rattle.nest.specs.Reader.{same}
use Rattle.reader.proofs.distances.repeated.Goals as goal

pub returns : goal.returns
returns c =
    any_from_yields_List (same c.args.nest c.args.e) _ _ _ c.any.ensures.ran (YieldsList-from_range 0 c.args.e c.args.e refl (omega arith))
    (λ x b q k. search (rules, tests))
    ∙ range_any _ _
