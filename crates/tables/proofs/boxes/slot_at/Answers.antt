-- `tables::boxes::slot_at` meets its contract.
use native.Mathlib.Omega.{arith}
use Rattle.layout.proofs.Steps.{ways_few}
use Rattle.layout.proofs.Steps.{ways_few}
use Rattle.tables.proofs.boxes.Scans as L
use Rattle.tables.proofs.boxes.Ends as E
use Rattle.tables.proofs.boxes.slot_at.Goals as goal

pub offset_bounds-steps-way : goal.offset_bounds-steps-way
offset_bounds-steps-way c = omega (arith, c.requires.1, ways_few _ c.args.layout.now.sized.accepted c.args.layout.now.sizes.route)

pub bounds-steps-way : goal.bounds-steps-way
bounds-steps-way c = omega (arith, c.requires.1, ways_few _ c.args.layout.now.sized.accepted c.args.layout.now.sizes.route)

pub returns-then-step-tile : goal.returns-then-step-tile
returns-then-step-tile c = λ side st. E.end_below _ _ c.args.layout.now.sized _ _ c.requires.1 _ side st c.if-step-tile.true

pub returns-then-sender-layout : goal.returns-then-sender-layout
returns-then-sender-layout c = λ side st. E.end_above _ _ c.args.layout.now.sized _ _ c.requires.1 _ side st c.if-step-tile.false c.if-sender-layout.true

pub overflow_mul-slot : goal.overflow_mul-slot
overflow_mul-slot c =
    omega (
      arith,
      E.slot_under _ _ c.args.layout.now.sized _ _ c.requires.1 c.args.steps c.if-sender-layout.false,
      L.slots_few
          c.args.layout.now.sizes.route _ c.args.layout.now.sized.accepted c.requires.0.plain,
    )

pub overflow_add-slot : goal.overflow_add-slot
overflow_add-slot c =
    omega (
      arith,
      E.slot_under _ _ c.args.layout.now.sized _ _ c.requires.1 c.args.steps c.if-sender-layout.false,
      L.slots_few
          c.args.layout.now.sizes.route _ c.args.layout.now.sized.accepted c.requires.0.plain,
    )

pub offset_bounds-lens-slot : goal.offset_bounds-lens-slot
offset_bounds-lens-slot c =
    omega (
      arith,
      E.slot_under _ _ c.args.layout.now.sized _ _ c.requires.1 c.args.steps c.if-sender-layout.false,
      L.slots_few c.args.layout.now.sizes.route _ c.args.layout.now.sized.accepted c.requires.0.plain,
      c.requires.0.long,
    )

pub bounds-lens-slot : goal.bounds-lens-slot
bounds-lens-slot c =
    omega (
      arith,
      E.slot_under _ _ c.args.layout.now.sized _ _ c.requires.1 c.args.steps c.if-sender-layout.false,
      L.slots_few c.args.layout.now.sizes.route _ c.args.layout.now.sized.accepted c.requires.0.plain,
      c.requires.0.long,
    )

pub returns-then-lens-slot-eq0 : goal.returns-then-lens-slot-eq0
returns-then-lens-slot-eq0 c =
    λ side st. E.end_none _ _ c.args.layout.now.sized _ _ c.requires.1 _ side st c.if-step-tile.false c.if-sender-layout.false _ (c.requires.0.each _ (E.slot_under _ _ c.args.layout.now.sized _ _ c.requires.1 c.args.steps c.if-sender-layout.false))
    c.if-lens-slot-eq0.true

pub returns : goal.returns
returns c =
    λ side st. E.end_one _ _ c.args.layout.now.sized _ _ c.requires.1 _ side st c.if-step-tile.false c.if-sender-layout.false _ (c.requires.0.each _ (E.slot_under _ _ c.args.layout.now.sized _ _ c.requires.1 c.args.steps c.if-sender-layout.false))
    c.if-lens-slot-eq0.false
