-- `reader::distance_fields::component_at` meets its contract: the field by the kind.
use mathlib.Core.Path.{◌∙◌}
use native.Mathlib.Omega.{arith}
use Rattle.nest.proofs.Laws as L
use Rattle.reader.proofs.distance_fields.component_at.Goals as goal

pub returns-then-encoded-at-eq4 : goal.returns-then-encoded-at-eq4
returns-then-encoded-at-eq4 c =
    let A = c.args in omega (
      arith,
      c.half_at.ensures,
      L.component_wide A.encoded.now A.r A.j
          c.if-encoded-at-eq4.true,
    )

pub returns : goal.returns
returns c = c.from.ensures ∙ L.component_narrow c.args.encoded.now c.args.r c.args.j c.if-encoded-at-eq4.false
