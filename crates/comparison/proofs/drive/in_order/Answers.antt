-- The place in the order, by which the processors take turns.
use mathlib.Core.Path.{sym, ◌∙◌, ap}
use mathlib.Core.Bool.{Bool}
use Rattle.comparison.specs.drive.Drive.{in_order}
use Rattle.comparison.proofs.drive.Steps as steps
use Rattle.comparison.proofs.drive.in_order.Goals as goal
use Rattle.comparison.proofs.drive.in_order.Goals.{else-falling-via-then-falling+else-place-processors, else-falling-via-else-falling}

pub returns-then-place-processors : goal.returns-then-place-processors
returns-then-place-processors c =
    let A = c.args in steps.order_falling A.processors A.place c.if-place-processors.true ∙ ap (λ (f : Bool). in_order A.processors f
    A.place) (sym c.if-falling.true)

pub returns-else-falling : goal.returns-else-falling
returns-else-falling c =
    let A = c.args in
    elim c.else-falling.branch [
      | else-falling-via-then-falling+else-place-processors w ↦ steps.order_past A.processors A.place w.if-place-processors.false ∙ ap (λ (f : Bool). in_order A.processors f A.place) (sym w.if-falling.true)
      | else-falling-via-else-falling w ↦ steps.order_rising A.processors A.place ∙ ap (λ (f : Bool). in_order A.processors f A.place) (sym w.if-falling.false)
    ]
