-- `parcels::one` meets its contract.
use mathlib.Core.Path.{◌≡◌, refl, ◌∙◌}
use mathlib.Core.Bool.{Bool, true, false}
use mir.Val.{bool_byte}
use Rattle.base.specs.Tests.{one}
use Rattle.parcels.proofs.one.Goals as goal

as_one : (b : Bool) → bool_byte b ≡ one b
unfolding one
as_one true = refl
as_one false = refl

pub returns : goal.returns
returns c = c.from.ensures ∙ as_one c.args.test
