use mathlib.Core.Path.{refl, ◌∙◌}
use Rattle.sharing.proofs.view.view_number.Goals as goal

pub returns : goal.returns
returns c =
    let A = c.args in
    c.number_of.ensures ∙ c.view_at-seen.ensures.0 A.first.now A.second.now refl refl
