-- `tables::boxes::nth_at` meets its contract: not among the first ways.
use Prim.Native.Nat.{ℕ, ◌≤◌}
use mathlib.Core.List.{List}
use mathlib.Core.Path.{◌≡◌, refl, sym, ◌∙◌}
use native.Mathlib.Omega.{arith}
use lib.ListN.{length, take}
use lib.Seq.{length-take-le}
use Rattle.plan.specs.Messages.{slots, slot_message}
use Rattle.layout.proofs.Steps.{ways_few}
use Rattle.tables.proofs.boxes.Scans as L
use Rattle.tables.proofs.boxes.Ends as E
use Rattle.tables.proofs.boxes.nth_at.Goals as goal
use Rattle.tables.proofs.boxes.nth_at.Goals.{else-slot-slots-via-then-slot-slots+else-count_below-j, else-slot-slots-via-else-slot-slots}

wide : (n : ℕ) (l : List ℕ) → n ≤ length l → n ≡ length (take n l)
wide n l h = sym (length-take-le n l h)

pub slice_bounds-found-end : goal.slice_bounds-found-end
slice_bounds-found-end c =
    omega (arith, c.slots_at-found.ensures.1, c.args.layout.now.sized.ways, ways_few _ c.args.layout.now.sized.accepted c.args.layout.now.sizes.route)

pub slice_bounds-ends-end : goal.slice_bounds-ends-end
slice_bounds-ends-end c =
    sym (length-take-le c.args.layout.now.sizes.ways c.slots_at-found.result
    (omega (arith, c.slots_at-found.ensures.1, c.args.layout.now.sized.ways, ways_few _ c.args.layout.now.sized.accepted c.args.layout.now.sizes.route)))

pub overflow_mul-slots : goal.overflow_mul-slots
overflow_mul-slots c = omega (arith, L.slots_small _ _ c.args.layout.now.sized c.requires.sized.plain)

pub loop-slot-init : goal.loop-slot-init
loop-slot-init c = E.missing_none c.args.layout.now.sizes.route _ _ _

pub message_of-requires : goal.message_of-requires
message_of-requires c =
    L.sheet c.args.layout.now.sizes.route _ c.args.layout.now.sized.accepted _ c.requires.sized _
    (omega (arith, c.if-slot-slots.true, L.slots_are _ _ c.args.layout.now.sized))

pub returns-then-count_below-j : goal.returns-then-count_below-j
returns-then-count_below-j c =
    let e = wide c.args.layout.now.sizes.ways c.slots_at-found.result (omega (arith, c.slots_at-found.ensures.1, c.args.layout.now.sized.ways, ways_few _ c.args.layout.now.sized.accepted c.args.layout.now.sizes.route)) in
    let low = L.under _ _ c.args.layout.now.sized _ c.if-slot-slots.true in
    E.found_at c.args.layout.now.sizes.route _ c.args.layout.now.sized.accepted _ _ _ (E.ends_taken c.args.layout.now.sizes.route _ _ _ _ _ c.args.layout.now.sized.ways c.slots_at-found.ensures.0) _ _
    low c.loop-slot.slot-index
    (omega (arith, c.loop-slot-test.true, c.args.layout.now.sized.ways, e)) refl _ c.args.layout.now.sized.ways
    (sym (E.counted_all _ _ _ e) ∙ (sym c.count_below.ensures ∙ c.if-count_below-j.true)) _
    (λ full. c.message_of.ensures (slot_message c.args.layout.now.sizes.route c.args.layout.now.nest) (slots c.args.layout.now.sizes.route c.args.layout.now.nest)
    (L.lengths c.args.layout.now.sizes.route _ c.args.layout.now.sized.accepted _ c.requires.sized) low full)

pub loop-slot-preserved : goal.loop-slot-preserved
loop-slot-preserved c =
    let e = wide c.args.layout.now.sizes.ways c.slots_at-found.result (omega (arith, c.slots_at-found.ensures.1, c.args.layout.now.sized.ways, ways_few _ c.args.layout.now.sized.accepted c.args.layout.now.sizes.route)) in
    E.missing_more c.args.layout.now.sizes.route _ _ _ _ _ c.loop-slot.invariant
    (omega (arith, c.loop-slot-test.true, c.args.layout.now.sized.ways, e)) c.args.layout.now.sized.ways
    (elim c.else-slot-slots.branch [
      | else-slot-slots-via-then-slot-slots+else-count_below-j w ↦ λ l q. w.if-count_below-j.false (w.count_below.ensures ∙ (E.counted_all _ _ _ e ∙ q))
      | else-slot-slots-via-else-slot-slots w ↦ λ l. absurd (omega (arith, w.if-slot-slots.false, L.slots_are _ _ c.args.layout.now.sized))
    ])

pub unreachable-requires : goal.unreachable-requires
unreachable-requires c =
    let e = wide c.args.layout.now.sizes.ways c.slots_at-found.result (omega (arith, c.slots_at-found.ensures.1, c.args.layout.now.sized.ways, ways_few _ c.args.layout.now.sized.accepted c.args.layout.now.sizes.route)) in
    E.missing_nowhere c.args.layout.now.sizes.route _ c.args.layout.now.sized.accepted _ _ _
    (E.ends_taken c.args.layout.now.sizes.route _ _ _ _ _ c.args.layout.now.sized.ways c.slots_at-found.ensures.0) _ _ c.loop-slot.invariant (omega (arith, c.loop-slot-test.false, c.args.layout.now.sized.ways, e))
    c.requires.j_in_bounds
