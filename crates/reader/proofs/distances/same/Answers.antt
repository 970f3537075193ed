-- `reader::distances::same` meets its contract: what `all` answers over the range.
use mathlib.Core.Path.{◌∙◌, refl}
use borrow.Author.Rules.{rules}
use borrow.Author.Tests.{tests}
use Rattle.std.proofs.lemmas.Iterator.{YieldsList-from_range}
use Rattle.std.proofs.lemmas.Iterator.Search.{all_from_yields_List}
use Rattle.base.proofs.Chains.{range_all}
use Rattle.nest.specs.Nest.{component}
use lib.Dec.{eqb}
use Rattle.nest.specs.Reader.{same}
use Rattle.reader.proofs.distances.same.Goals as goal

pub returns : goal.returns
unfolding same
returns c =
    all_from_yields_List (λ j. eqb (component c.args.nest c.args.e j) (component c.args.nest c.args.f j)) _ _ _ c.all.ensures.ran (YieldsList-from_range 0 4 _ refl refl)
    (λ x b q k. search (rules, tests))
    ∙ range_all _ _
