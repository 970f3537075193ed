-- `reader::bad_length` meets its contract: what `any` answers over the range.
use mathlib.Core.Path.{◌∙◌, refl}
use native.Mathlib.Omega.{arith}
use borrow.Author.Rules.{rules}
use borrow.Author.Tests.{tests}
use Rattle.std.proofs.lemmas.Iterator.{YieldsList-from_range}
use Rattle.std.proofs.lemmas.Iterator.Search.{any_from_yields_List}
use Rattle.base.proofs.Chains.{range_any}
use Rattle.nest.specs.Nest.{length_of}
use Rattle.nest.specs.Reader.{no_length, bad_length}
use Rattle.reader.proofs.bad_length.Goals as goal

pub returns : goal.returns
unfolding bad_length
returns c =
    any_from_yields_List (λ j. no_length (length_of c.args.nest j)) _ _ _ c.any.ensures.ran (YieldsList-from_range 0 c.args.nest.dimensions c.args.nest.dimensions refl (omega arith))
    (λ x b q k. search (rules, tests))
    ∙ range_any _ _
