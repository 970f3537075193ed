-- `give` meets its contract: the cells passed.
use native.Mathlib.Omega.{arith}
use Rattle.part.proofs.Words as laws
use Rattle.part.proofs.give.Goals as goal

pub loop-i-init : goal.loop-i-init
loop-i-init c = laws.give_start c.args.marks.now c.args.cells.now c.args.memory.now c.args.words.now

pub rank_by-at-requires : goal.rank_by-at-requires
rank_by-at-requires c =
    let loop = c.loop-i in
    let test = c.loop-i-test.true in
    let cell = c.from-c in
    let low = laws.cell_low c.args.marks.now c.args.counts.now c.args.cells.now c.args.memory.now c.args.words.now c.requires
    loop.i cell.result test cell.ensures in
    record { counted = (c.requires.counted, (omega (arith, low), c.requires.few)); at_value = loop.invariant.rank }

pub offset_bounds-memory-at : goal.offset_bounds-memory-at
offset_bounds-memory-at c =
    let m = (let S = c in
    let cell = c.from-c in
    laws.moves S.args.marks.now S.args.counts.now S.args.cells.now S.args.memory.now S.args.words.now S.requires
    c.loop-i.i cell.result c.loop-i-test.true cell.ensures
    c.rank_by-at.result c.rank_by-at.ensures) in omega (arith, m.place, m.short)

pub bounds-memory-at : goal.bounds-memory-at
bounds-memory-at c =
    let m = (let S = c in
    let cell = c.from-c in
    laws.moves S.args.marks.now S.args.counts.now S.args.cells.now S.args.memory.now S.args.words.now S.requires
    c.loop-i.i cell.result c.loop-i-test.true cell.ensures
    c.rank_by-at.result c.rank_by-at.ensures) in omega (arith, m.cell, m.place, m.short, m.next, c.loop-i.invariant.stored.long)

pub offset_bounds-words-i : goal.offset_bounds-words-i
offset_bounds-words-i c =
    let m = (let S = c in
    let cell = c.from-c in
    laws.moves S.args.marks.now S.args.counts.now S.args.cells.now S.args.memory.now S.args.words.now S.requires
    c.loop-i.i cell.result c.loop-i-test.true cell.ensures
    c.rank_by-at.result c.rank_by-at.ensures) in omega (arith, m.cell, m.place, m.short, m.next, c.loop-i.invariant.stored.long)

pub bounds-words-i : goal.bounds-words-i
bounds-words-i c =
    let m = (let S = c in
    let cell = c.from-c in
    laws.moves S.args.marks.now S.args.counts.now S.args.cells.now S.args.memory.now S.args.words.now S.requires
    c.loop-i.i cell.result c.loop-i-test.true cell.ensures
    c.rank_by-at.result c.rank_by-at.ensures) in omega (arith, m.cell, m.place, m.short, m.next, c.loop-i.invariant.stored.long)

pub overflow_add-known : goal.overflow_add-known
overflow_add-known c =
    let m = (let S = c in
    let cell = c.from-c in
    laws.moves S.args.marks.now S.args.counts.now S.args.cells.now S.args.memory.now S.args.words.now S.requires
    c.loop-i.i cell.result c.loop-i-test.true cell.ensures
    c.rank_by-at.result c.rank_by-at.ensures) in omega (arith, m.cell, m.place, m.short, m.next, c.loop-i.invariant.stored.long)

pub overflow_add-at : goal.overflow_add-at
overflow_add-at c =
    let m = (let S = c in
    let cell = c.from-c in
    laws.moves S.args.marks.now S.args.counts.now S.args.cells.now S.args.memory.now S.args.words.now S.requires
    c.loop-i.i cell.result c.loop-i-test.true cell.ensures
    c.rank_by-at.result c.rank_by-at.ensures) in omega (arith, m.cell, m.place, m.short, m.next, c.loop-i.invariant.stored.long)

pub loop-i-preserved : goal.loop-i-preserved
loop-i-preserved c =
    let loop = c.loop-i in
    let test = c.loop-i-test.true in
    let cell = c.from-c in
    let rank-by = c.rank_by-at in
    laws.give_next c.args.marks.now c.args.counts.now c.args.cells.now c.args.memory.now c.args.words.now c.requires
    loop.words loop.known loop.at loop.i loop.invariant cell.result rank-by.result
    test cell.ensures rank-by.ensures

pub shape_of-words : goal.shape_of-words
shape_of-words c = c.loop-i.invariant.stored.long

pub returns : goal.returns
returns c =
    let loop = c.loop-i in
    laws.give_done c.args.marks.now c.args.counts.now c.args.cells.now c.args.memory.now c.args.words.now c.requires
    loop.words loop.known loop.at loop.i loop.invariant c.loop-i-test.false
