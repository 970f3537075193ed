-- `reader::distances::beyond` meets its contract: what `any` answers over the range.
use mathlib.Core.Path.{◌∙◌, refl}
use borrow.Author.Rules.{rules}
use borrow.Author.Tests.{tests}
use Rattle.std.proofs.lemmas.Iterator.{YieldsList-from_range}
use Rattle.std.proofs.lemmas.Iterator.Search.{any_from_yields_List}
use Rattle.base.proofs.Chains.{range_any}
use Rattle.nest.specs.Nest.{component}
use lib.Dec.{ltb, leb}
use Rattle.base.specs.Tests.{◌and◌}
use Rattle.nest.specs.Reader.{beyond}
use Rattle.reader.proofs.distances.beyond.Goals as goal

pub returns : goal.returns
unfolding beyond ◌and◌
returns c =
    any_from_yields_List (λ j. leb c.args.nest.dimensions j and ltb 0 (component c.args.nest c.args.e j)) _ _ _ c.any.ensures.ran (YieldsList-from_range 0 4 _ refl refl)
    (λ x b q k. search (rules, tests))
    ∙ range_any _ _
