use mathlib.Core.Path.{◌∙◌}
use borrow.Author.Tests.{eq-eqb}
use Rattle.sharing.proofs.Tests as tests
use Rattle.sharing.proofs.admission.stage_agrees.Goals as goal

pub returns-then-stage-eq1 : goal.returns-then-stage-eq1
returns-then-stage-eq1 c =
    eq-eqb c.args.stage 1 c.if-stage-eq1.true ∙ tests.agrees_one c.args.holder c.args.tenant c.args.stage c.if-holder-tenant.true c.if-stage-eq1.true

pub returns-else-stage-eq1 : goal.returns-else-stage-eq1
returns-else-stage-eq1 c = tests.agrees_two _ _ _ c.if-holder-tenant.true c.if-stage-eq1.false

pub returns-else-holder-tenant : goal.returns-else-holder-tenant
returns-else-holder-tenant c = tests.agrees_none _ _ _ c.if-holder-tenant.false
