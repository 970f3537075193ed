-- `tables::shaped_table::rows::places_in` meets its contract.
use native.Mathlib.Omega.{arith}
use Rattle.tables.proofs.shaped_table.Lines as L
use Rattle.tables.proofs.shaped_table.rows.places_in.Goals as goal

pub returns-then-whole-eq0 : goal.returns-then-whole-eq0
returns-then-whole-eq0 c = L.places_none _ _ _ _

pub returns-then-inner-most : goal.returns-then-inner-most
returns-then-inner-most c = L.places_none _ _ _ _

pub overflow_add-result-2 : goal.overflow_add-result-2
overflow_add-result-2 c = omega (arith, L.places_room c.args.inner.from c.args.tiling c.requires.0, c.requires.1)

pub returns : goal.returns
returns c =
    L.places_some c.args.inner _ _ _ _ c.requires.0 c.requires.1.0 c.requires.1.1.0 c.requires.1.1.1.1 c.if-whole-eq0.false
    c.if-inner-most.false c.min.ensures
