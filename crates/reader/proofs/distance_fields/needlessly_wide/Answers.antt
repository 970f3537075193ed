-- `reader::distance_fields::needlessly_wide` meets its contract: what `any` answers over the range.
use mathlib.Core.Path.{◌∙◌, refl}
use native.Mathlib.Omega.{arith}
use borrow.Author.Rules.{rules}
use borrow.Author.Tests.{tests}
use Rattle.std.proofs.lemmas.Iterator.{YieldsList-from_range}
use Rattle.std.proofs.lemmas.Iterator.Search.{any_from_yields_List}
use Rattle.base.proofs.Chains.{range_any}
use Rattle.nest.specs.Reader.{records, narrow_at, needlessly_wide}
use Rattle.reader.proofs.distance_fields.needlessly_wide.Goals as goal

pub returns : goal.returns
unfolding needlessly_wide
returns c =
    any_from_yields_List (narrow_at c.args.encoded.now) _ _ _ c.any.ensures.ran (YieldsList-from_range 0 (records c.args.encoded.now) (records c.args.encoded.now) refl (omega arith))
    (λ x b q k. search (rules, tests))
    ∙ range_any _ _
