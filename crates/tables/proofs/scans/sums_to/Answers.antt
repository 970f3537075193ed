-- `tables::scans::sums_to` meets its contract: the slots before one.
use mathlib.Core.Path.{◌≡◌, ◌∙◌}
use mathlib.Core.Logic.{inl, inr}
use native.Mathlib.Omega.{arith}
use lib.ListN.{get_or, take}
use lib.Seq.{get_or-take}
use Rattle.tables.proofs.scans.Laws as L
use Rattle.tables.proofs.scans.sums_to.Goals as goal
use Rattle.tables.proofs.scans.sums_to.Goals.{then-length-ne0, else-length-ne0}

pub loop-length-init : goal.loop-length-init
loop-length-init c = (omega arith, (omega arith, λ f h. L.sum_start f))

pub loop-length-preserved : goal.loop-length-preserved
loop-length-preserved c =
    let s = c.loop-length.length-index in
    let is : get_or (take c.args.end c.args.lens.now) s 0 ≡ get_or c.args.lens.now s 0 =
    get_or-take c.args.end c.args.lens.now s 0 (omega arith) in (
      elim c.if-length-ne0.branch [ then-length-ne0 w ↦ omega arith | else-length-ne0 w ↦ omega arith ],
      (
        omega (arith, c.requires.short s (omega arith)),
        λ f h. L.sum_turn f s c.loop-length.messages c.loop-length.words _ c.if-length-ne0.messages
            (c.loop-length.invariant.1.1 f h) (is ∙ h.each s (omega arith))
            (elim c.if-length-ne0.branch [ then-length-ne0 w ↦ inl (w.if-length-ne0.true, w.messages-is) | else-length-ne0 w ↦ inr (w.if-length-ne0.false, w.messages-is) ]),
      ),
    )
