use mathlib.Core.Path.{sym, ap, ◌∙◌}
use Prim.Native.Nat.{◌+◌}
use Rattle.text.specs.Writing.{pen}
use Rattle.text.proofs.Pens.{one_in, one_out}
use Rattle.text.proofs.put.Goals.{then-at-space, else-at-space}
use Rattle.text.proofs.put.Goals as goal

pub returns : goal.returns
returns c =
    elim c.if-at-space.branch [
      | then-at-space w ↦ ap (pen (c.args.at + 1)) w.space-is ∙ sym (one_in _ _ _)
      | else-at-space w ↦ ap (pen (c.args.at + 1)) w.space-is ∙ sym (one_out _ _ _ w.if-at-space.false)
    ]
