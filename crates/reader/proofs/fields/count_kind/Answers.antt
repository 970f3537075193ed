-- `reader::fields::count_kind` meets its contract: what `count` answers over the range.
use mathlib.Core.Path.{◌∙◌}
use native.Mathlib.Omega.{arith}
use lib.Dec.{eqb}
use borrow.Author.Rules.{rules}
use borrow.Author.Tests.{tests}
use Rattle.std.proofs.lemmas.Iterator.{YieldsList-from_range}
use Rattle.std.proofs.lemmas.Iterator.Consumers.{count_from_yields_List, YieldsList-from_filter}
use Rattle.base.specs.Tests.{those}
use Rattle.nest.specs.Reader.{kind, records, of_kind}
use Rattle.reader.proofs.Counts.{range_count}
use Rattle.reader.proofs.fields.count_kind.Goals as goal

pub returns : goal.returns
unfolding of_kind those
returns c =
    count_from_yields_List c.filter.result _ c.count.ensures.ran
    (YieldsList-from_filter _ (λ r. eqb (kind c.args.encoded.now r) c.args.wanted)
    (YieldsList-from_range 0 (records c.args.encoded.now) (records c.args.encoded.now) c.filter.ensures.source (omega arith)) c.filter.ensures.closure
    (λ x b q k. search (rules, tests)))
    ∙ range_count (λ r. eqb (kind c.args.encoded.now r) c.args.wanted) (records c.args.encoded.now)
