-- `reader::distance_fields::narrow_at` meets its contract: another kind, or what `all` answers over the range.
use mathlib.Core.Path.{◌∙◌, refl, sym}
use borrow.Author.Rules.{rules}
use borrow.Author.Tests.{tests, eq-eqb, ne_eqb}
use lib.Dec.{ltb}
use Rattle.std.proofs.lemmas.Iterator.{YieldsList-from_range}
use Rattle.std.proofs.lemmas.Iterator.Search.{all_from_yields_List}
use Rattle.base.proofs.Chains.{range_all}
use Rattle.base.proofs.Tests.{and_left, and_false}
use Rattle.nest.specs.Reader.{component_at}
use Rattle.reader.proofs.distance_fields.narrow_at.Goals as goal

pub returns-then-encoded-r-eq4 : goal.returns-then-encoded-r-eq4
returns-then-encoded-r-eq4 c =
    all_from_yields_List (λ j. ltb (component_at c.args.encoded.now c.args.r j) 256) _ _ _ c.all.ensures.ran
    (YieldsList-from_range 0 4 _ refl refl) (λ x b q k. search (rules, tests))
    ∙ (range_all _ _ ∙ sym (and_left _ _ (eq-eqb _ _ c.if-encoded-r-eq4.true)))

pub returns-else-encoded-r-eq4 : goal.returns-else-encoded-r-eq4
returns-else-encoded-r-eq4 c =
    let other = ne_eqb _ _ c.if-encoded-r-eq4.false in
    other ∙ sym (and_false _ _ other)
