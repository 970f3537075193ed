-- `grid::outside_word` meets its contract.
use native.Mathlib.Omega.{arith}
use Rattle.transport.proofs.RowOwners as owners
use Rattle.part_calls.proofs.grid.outside_word.Goals as goal
use Rattle.part_calls.proofs.grid.outside_word.Goals.{else-s-y-via-then-s-y+else-y-s, else-s-y-via-else-s-y}

pub returns-then-y-s : goal.returns-then-y-s
returns-then-y-s c =
    let A = c.args in
    owners.inner A.s A.y A.word A.boundary c.if-s-y.true c.if-y-s.true

pub returns-else-s-y : goal.returns-else-s-y
returns-else-s-y c =
    let A = c.args in
    elim c.else-s-y.branch [ else-s-y-via-then-s-y+else-y-s w ↦ owners.behind A.s A.y A.word A.boundary (omega (arith, w.if-y-s.false)) | else-s-y-via-else-s-y w ↦ owners.before A.s A.y A.word A.boundary (omega (arith, w.if-s-y.false)) ]
