-- `reader::fields::blank` meets its contract: what `all` answers over the range.
use mathlib.Core.Path.{◌∙◌, refl}
use native.Mathlib.Omega.{arith}
use borrow.Author.Rules.{rules}
use borrow.Author.Tests.{tests}
use Rattle.std.proofs.lemmas.Iterator.{YieldsList-from_range}
use Rattle.std.proofs.lemmas.Iterator.Search.{all_from_yields_List}
use Rattle.base.proofs.Chains.{range_all}
use lib.Dec.{eqb}
use lib.ListN.{get_or}
use Prim.Native.Nat.{◌+◌}
use Rattle.nest.specs.Reader.{blank}
use Rattle.reader.proofs.fields.blank.Goals as goal

pub returns : goal.returns
unfolding blank
returns c =
    all_from_yields_List (λ i. eqb (get_or c.args.encoded.now (c.args.at + i) 0) 0) _ _ _ c.all.ensures.ran (YieldsList-from_range 0 c.args.count c.args.count refl (omega arith))
    (λ x b q k. search (rules, tests))
    ∙ range_all _ _
