-- `reader::fields::all_fit` meets its contract: what `all` answers over the range.
use mathlib.Core.Path.{◌∙◌, refl}
use native.Mathlib.Omega.{arith}
use borrow.Author.Rules.{rules}
use borrow.Author.Tests.{tests}
use Rattle.std.proofs.lemmas.Iterator.{YieldsList-from_range}
use Rattle.std.proofs.lemmas.Iterator.Search.{all_from_yields_List}
use Rattle.base.proofs.Chains.{range_all}
use Rattle.nest.specs.Reader.{records, fits_at}
use Rattle.reader.proofs.fields.all_fit.Goals as goal

pub returns : goal.returns
returns c =
    all_from_yields_List (fits_at c.args.encoded.now c.args.n c.args.b c.args.e) _ _ _ c.all.ensures.ran (YieldsList-from_range 0 (records c.args.encoded.now) (records c.args.encoded.now) refl (omega arith))
    (λ x b q k. search (rules, tests))
    ∙ range_all _ _
