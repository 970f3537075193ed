-- `reader::distance_fields::weight_at` meets its contract: the field by the kind.
use mathlib.Core.Path.{◌∙◌}
use Rattle.nest.proofs.Laws as L
use Rattle.reader.proofs.distance_fields.weight_at.Goals as goal

pub returns-then-encoded-at-eq4 : goal.returns-then-encoded-at-eq4
returns-then-encoded-at-eq4 c = c.half_at.ensures.value ∙ L.weight_wide c.args.encoded.now c.args.r c.if-encoded-at-eq4.true

pub returns : goal.returns
returns c = c.half_at-2.ensures.value ∙ L.weight_narrow c.args.encoded.now c.args.r c.if-encoded-at-eq4.false
