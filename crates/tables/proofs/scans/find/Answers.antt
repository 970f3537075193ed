-- `tables::scans::find` meets its contract: the message is not among the slots before.
use mathlib.Core.Path.{◌≡◌, ◌∙◌}
use mathlib.Core.Logic.{inl, inr}
use native.Mathlib.Omega.{arith}
use lib.ListN.{get_or, take}
use lib.Seq.{get_or-take}
use Prim.Native.Nat.{◌<◌}
use Rattle.tables.proofs.scans.Laws as L
use Rattle.tables.proofs.scans.find.Goals as goal
use Rattle.tables.proofs.scans.find.Goals.{then-words-ne0+else-number-m, else-words-ne0}

pub loop-slot-init : goal.loop-slot-init
loop-slot-init c = (omega arith, (omega arith, (omega arith, λ f h. L.sum_start f)))

pub returns-then-number-m : goal.returns-then-number-m
returns-then-number-m c =
    let s = c.loop-slot.slot in
    let is : get_or (take c.args.slots c.args.lens.now) s 0 ≡ get_or c.args.lens.now s 0 =
    get_or-take c.args.slots c.args.lens.now s 0 (omega arith) in
    let low : s < c.args.slots = omega arith in
    let e = c.if-number-m.true in
    λ f h q. rw (← e) (L.found f c.args.slots s c.loop-slot.number c.loop-slot.offset _
    (c.loop-slot.invariant.1.1.1 f h) low (is ∙ h.each s low) (L.positive _ c.if-words-ne0.true))

pub loop-slot-preserved : goal.loop-slot-preserved
loop-slot-preserved c =
    let s = c.loop-slot.slot in
    let is : get_or (take c.args.slots c.args.lens.now) s 0 ≡ get_or c.args.lens.now s 0 =
    get_or-take c.args.slots c.args.lens.now s 0 (omega arith) in
    let low : s < c.args.slots = omega arith in (
      elim c.if-words-ne0.branch [ then-words-ne0+else-number-m w ↦ omega arith | else-words-ne0 w ↦ omega arith ],
      (
        elim c.if-words-ne0.branch [ then-words-ne0+else-number-m w ↦ omega arith | else-words-ne0 w ↦ omega arith ],
        (
          omega (arith, c.requires.short s low),
          λ f h. L.sum_turn f s c.loop-slot.number c.loop-slot.offset _ c.if-words-ne0.number
              (c.loop-slot.invariant.1.1.1 f h) (is ∙ h.each s low)
              (elim c.if-words-ne0.branch [ then-words-ne0+else-number-m w ↦ inl (w.if-words-ne0.true, w.number-is) | else-words-ne0 w ↦ inr (w.if-words-ne0.false, w.number-is) ]),
        ),
      ),
    )

pub returns : goal.returns
returns c =
    λ f h q. absurd (L.seek_nowhere f c.args.slots c.args.m c.loop-slot.slot c.loop-slot.number
    c.loop-slot.offset (c.loop-slot.invariant.1.1.1 f h) c.loop-slot.invariant.0 (omega arith) (omega arith) q)
