-- `reader::distances::faulty` meets its contract: each return by its branches.
use mathlib.Core.Path.{sym, ◌∙◌}
use Rattle.base.proofs.Tests.{or_left, or_right}
use Rattle.nest.specs.Reader.{faulty}
use Rattle.nest.proofs.Laws as L
use Rattle.reader.proofs.distances.faulty.Goals as goal
use Rattle.reader.proofs.distances.faulty.Goals.{then-all_zero, else-all_zero}

pub returns-then-repeated : goal.returns-then-repeated
unfolding faulty
returns-then-repeated c =
    c.if-repeated.true
    ∙ sym (elim c.if-all_zero.branch [
      | then-all_zero w ↦ or_left _ (sym c.all_zero.ensures ∙ w.if-all_zero.true)
      | else-all_zero w ↦ or_right _ (or_left _ (sym w.repeated.ensures ∙ (sym w.value-is ∙ c.if-repeated.true)))
    ])

pub returns-else-repeated : goal.returns-else-repeated
unfolding faulty
returns-else-repeated c =
    elim c.if-all_zero.branch [
      | then-all_zero w ↦ absurd cc
      | else-all_zero w ↦
          c.beyond.ensures ∙ sym (L.or_skip (sym c.all_zero.ensures ∙ w.if-all_zero.false)
          ∙ L.or_skip (sym w.repeated.ensures ∙ (sym w.value-is ∙ c.if-repeated.false)))
    ]
