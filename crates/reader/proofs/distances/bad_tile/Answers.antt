-- `reader::distances::bad_tile` meets its contract: what `any` answers over the range.
use mathlib.Core.Path.{◌∙◌, refl}
use native.Mathlib.Omega.{arith}
use borrow.Author.Rules.{rules}
use borrow.Author.Tests.{tests}
use Rattle.std.proofs.lemmas.Iterator.{YieldsList-from_range}
use Rattle.std.proofs.lemmas.Iterator.Search.{any_from_yields_List}
use Rattle.base.proofs.Chains.{range_any}
use Rattle.nest.specs.Nest.{tile_length}
use Rattle.base.specs.Tests.{◌or◌}
use Rattle.nest.specs.Reader.{no_length, reached, bad_tile}
use Rattle.reader.proofs.distances.bad_tile.Goals as goal

pub returns : goal.returns
unfolding bad_tile ◌or◌
returns c =
    any_from_yields_List (λ j. no_length (tile_length c.args.nest j) or reached c.args.nest j) _ _ _ c.any.ensures.ran (YieldsList-from_range 0 c.args.nest.dimensions c.args.nest.dimensions refl (omega arith))
    (λ x b q k. search (rules, tests))
    ∙ range_any _ _
