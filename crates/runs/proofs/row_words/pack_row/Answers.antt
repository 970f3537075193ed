-- `runs::row_words::pack_row` meets its contract: the pieces before `at` are packed.
use native.Mathlib.Omega.{arith}
use Rattle.runs.proofs.Laws as L
use Rattle.runs.proofs.row_words.pack_row.Goals as goal

pub overflow_add-to : goal.overflow_add-to
overflow_add-to c = omega (arith, c.requires.small)

pub loop-at-init : goal.loop-at-init
loop-at-init c = L.packing_none _ _ _ _ _ _ _ _ _

pub piece_of-piece-requires : goal.piece_of-piece-requires
piece_of-piece-requires c = (c.requires.few, c.loop-at-test.true)

pub overflow_sub-at : goal.overflow_sub-at
overflow_sub-at c = c.loop-at.invariant.from

pub overflow_add-from : goal.overflow_add-from
overflow_add-from c = omega (arith, c.loop-at-test.true, c.loop-at.invariant.to, c.requires.low, c.requires.short.0)

pub copy_part-requires : goal.copy_part-requires
copy_part-requires c =
    let at-loop = c.loop-at in
    let fit = L.packs_fit _ _ _ _ _ _ _ _ _ c.requires _ _ at-loop.invariant.from
    at-loop.invariant.first.count_is _ _ c.piece_of-piece.ensures in
    (omega (arith, fit.inner, at-loop.invariant.first.long), fit.outer)

pub overflow_add-count : goal.overflow_add-count
overflow_add-count c =
    let at-loop = c.loop-at in
    omega (
      arith,
      c.requires.short.1,
      L.piece_words _ _ _ _ _ _ _ _ _ c.requires _ _ at-loop.invariant.from at-loop.invariant.first.count_is _ _ c.piece_of-piece.ensures,
    )

pub loop-at-smaller : goal.loop-at-smaller
loop-at-smaller c = omega (arith, c.piece_of-piece.ensures.some, c.piece_of-piece.ensures.cut)

pub loop-at-preserved : goal.loop-at-preserved
loop-at-preserved c =
    L.packing_more _ _ _ _ _ _ _ _ _ _ _ _ c.loop-at.invariant c.requires _ _ c.piece_of-piece.ensures _
    c.copy_part.ensures

pub shape_of-words : goal.shape_of-words
shape_of-words c = c.loop-at.invariant.first.long

pub returns : goal.returns
returns c = L.packing_end _ _ _ _ _ _ _ _ _ _ _ _ c.loop-at.invariant c.loop-at-test.false
