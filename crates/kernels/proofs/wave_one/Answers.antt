-- `kernels::wave_one` meets its contract: the tap as it stands in the arrays.
use mathlib.Core.Path.{refl, ◌∙◌}
use Rattle.kernels.proofs.Sums.{stores_same, same_one}
use Rattle.kernels.proofs.wave_one.Goals as goal

pub returns-then-t-gt1 : goal.returns-then-t-gt1
returns-then-t-gt1 c =
    c.wave_after.ensures
    ∙ stores_same (same_one c.args.backs c.args.weights c.requires.light refl c.tap_at-p.ensures) _ _ _ _ _
