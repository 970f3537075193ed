-- `reader::nest_by` meets its contract: each field by its own function.
use mathlib.Core.Path.{◌∙◌}
use native.Mathlib.Omega.{arith}
use Rattle.nest.proofs.Laws as L
use Rattle.reader.proofs.nest_by.Goals as goal

pub offsets_of-requires : goal.offsets_of-requires
offsets_of-requires c = (c.requires.0, omega (arith, c.requires.1.1))

pub overflow_add-close-2 : goal.overflow_add-close-2
overflow_add-close-2 c = omega (arith, c.requires.0, c.requires.1)

pub bounds-encoded-close : goal.bounds-encoded-close
bounds-encoded-close c = omega (arith, c.requires.0, c.requires.1)

pub overflow_add-close-3 : goal.overflow_add-close-3
overflow_add-close-3 c = omega (arith, c.requires.0, c.requires.1)

pub word_at-requires : goal.word_at-requires
word_at-requires c = omega (arith, c.requires.0, c.requires.1)

pub returns : goal.returns
returns c =
    let A = c.args in
    L.made A.encoded.now A.n A.b A.e _ _ _ _ _ _ _ _ _ _ _ _ _ c.spread_of.ensures c.halves.ensures
    c.halves-2.ensures c.halves-3.ensures c.components_of.ensures c.weights_of.ensures
    c.bytes_of.ensures c.bytes_of-2.ensures c.bytes_of-3.ensures c.slopes_of.ensures
    c.offsets_of.ensures c.from.ensures (c.from-2.ensures ∙ c.word_at.ensures)
