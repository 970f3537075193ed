-- `reader::fields::spread_of` meets its contract: what `count` answers over the range.
use mathlib.Core.Path.{◌∙◌}
use Prim.Native.Nat.{◌*◌, ◌+◌}
use native.Mathlib.Omega.{arith}
use lib.Dec.{ltb}
use borrow.Author.Rules.{rules}
use borrow.Author.Tests.{tests}
use Rattle.std.proofs.lemmas.Iterator.{YieldsList-from_range}
use Rattle.std.proofs.lemmas.Iterator.Consumers.{count_from_yields_List, YieldsList-from_filter}
use Rattle.base.specs.Bytes.{half}
use Rattle.reader.proofs.Counts.{range_count}
use Rattle.reader.proofs.fields.spread_of.Goals as goal

pub returns : goal.returns
returns c =
    count_from_yields_List c.filter.result _ c.count.ensures.ran
    (YieldsList-from_filter _ (λ j. ltb 0 (half c.args.encoded.now (16 * j + 6)))
    (YieldsList-from_range 0 c.args.n c.args.n c.filter.ensures.source (omega arith)) c.filter.ensures.closure
    (λ x b q k. search (rules, tests)))
    ∙ range_count (λ j. ltb 0 (half c.args.encoded.now (16 * j + 6))) c.args.n
