-- `grid::put_cells` meets its contract: the words passed are the grid's, the rest as it was.
use mathlib.Core.Logic.{inl, inr}
use mathlib.Core.Path.{◌∙◌}
use native.Mathlib.Omega.{arith}
use Rattle.std.proofs.lemmas.List.{set-get_or}
use Rattle.part_calls.proofs.Collecting as collecting
use Rattle.part_calls.proofs.grid.put_cells.Goals as goal
use Rattle.part_calls.proofs.grid.put_cells.Goals.{then-kept-c-eq1, else-kept-c-eq1}

pub loop-c-init : goal.loop-c-init
loop-c-init c =
    let A = c.args in
    collecting.put_start A.owned.now A.kept.now A.memory.now A.grid.now c.requires

pub bounds-kept-c : goal.bounds-kept-c
bounds-kept-c c =
    let loop = c.loop-c in
    let loop-test = c.loop-c-test in
    omega (arith, loop.invariant.filled.stored.long, loop-test.true, c.requires.kept_long)

pub bounds-owned-c : goal.bounds-owned-c
bounds-owned-c c =
    let loop = c.loop-c in
    let loop-test = c.loop-c-test in
    omega (arith, loop.invariant.filled.stored.long, loop-test.true, c.requires.owned_long)

pub offset_bounds-memory-n : goal.offset_bounds-memory-n
offset_bounds-memory-n c =
    let A = c.args in
    let loop = c.loop-c in
    omega (
      arith,
      collecting.put_small A.owned.now A.kept.now A.memory.now A.grid.now c.requires loop.grid loop.c loop.n
          loop.invariant,
      loop.invariant.filled.stored.low,
      c.requires.few,
    )

pub bounds-memory-n : goal.bounds-memory-n
bounds-memory-n c =
    let A = c.args in
    let loop = c.loop-c in
    let loop-test = c.loop-c-test in
    let if1 = c.if-kept-c-eq1 in
    collecting.put_room A.owned.now A.kept.now A.memory.now A.grid.now c.requires loop.grid loop.c loop.n loop.invariant
    (omega (arith, loop.invariant.filled.stored.long, loop-test.true)) if1.true

pub offset_bounds-grid-c : goal.offset_bounds-grid-c
offset_bounds-grid-c c =
    let loop = c.loop-c in
    let loop-test = c.loop-c-test in
    omega (arith, loop.invariant.filled.stored.long, loop-test.true, c.requires.few)

pub bounds-grid-c : goal.bounds-grid-c
bounds-grid-c c =
    let loop = c.loop-c in
    let loop-test = c.loop-c-test in
    omega (arith, loop.invariant.filled.stored.long, loop-test.true)

pub overflow_add-n : goal.overflow_add-n
overflow_add-n c =
    let A = c.args in
    let loop = c.loop-c in
    omega (
      arith,
      collecting.put_small A.owned.now A.kept.now A.memory.now A.grid.now c.requires loop.grid loop.c loop.n
          loop.invariant,
      loop.invariant.filled.stored.low,
      c.requires.few,
    )

pub loop-c-preserved : goal.loop-c-preserved
loop-c-preserved c =
    let A = c.args in
    let loop = c.loop-c in
    let loop-test = c.loop-c-test in
    collecting.put_next A.owned.now A.kept.now A.memory.now A.grid.now c.requires loop.grid loop.c loop.n loop.invariant
    (omega (arith, loop.invariant.filled.stored.long, loop-test.true)) c.if-kept-c-eq1.grid c.if-kept-c-eq1.n
    (elim c.if-kept-c-eq1.branch [ then-kept-c-eq1 w ↦ inl (w.if-kept-c-eq1.true, (_, w.own_word.ensures, w.grid-is), w.n-is) | else-kept-c-eq1 w ↦ inr (w.if-kept-c-eq1.false, w.grid-is ∙ set-get_or loop.grid loop.c 0, w.n-is) ])

pub shape_of-grid : goal.shape_of-grid
shape_of-grid c =
    let loop = c.loop-c in
    loop.invariant.filled.stored.long

pub returns : goal.returns
returns c =
    let A = c.args in
    let loop = c.loop-c in
    let loop-test = c.loop-c-test in
    collecting.put_done A.owned.now A.kept.now A.memory.now A.grid.now c.requires loop.grid loop.c loop.n loop.invariant
    (omega (arith, loop.invariant.filled.stored.long, loop-test.false))
