-- `writer::nest_records::narrow` meets its contract: what `all` answers over the range.
use mathlib.Core.Path.{◌∙◌, refl}
use native.Mathlib.Omega.{arith}
use lib.Dec.{ltb}
use borrow.Author.Rules.{rules}
use borrow.Author.Tests.{tests}
use Rattle.std.proofs.lemmas.Iterator.{YieldsList-from_range}
use Rattle.std.proofs.lemmas.Iterator.Search.{all_from_yields_List}
use Rattle.base.proofs.Chains.{range_all}
use Rattle.nest.specs.Nest.{component}
use Rattle.nest.specs.Encode.{narrow}
use Rattle.writer.proofs.nest_records.narrow.Goals as goal

pub returns : goal.returns
unfolding narrow
returns c =
    all_from_yields_List (λ j. ltb (component c.args.nest c.args.e j) 256) _ _ _ c.all.ensures.ran (YieldsList-from_range 0 4 4 refl (omega arith))
    (λ x b q k. search (rules, tests))
    ∙ range_all _ _
