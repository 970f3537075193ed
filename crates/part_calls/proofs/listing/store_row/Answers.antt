-- `listing::store_row` meets its contract.
use native.Mathlib.Omega.{arith}
use lib.ListN.{length-set}
use Rattle.part_calls.proofs.Rows as rows
use Rattle.part_calls.proofs.listing.store_row.Goals as goal

pub bounds-row-0 : goal.bounds-row-0
bounds-row-0 c = omega (arith, c.requires)

pub bounds-row-1 : goal.bounds-row-1
bounds-row-1 c = simp length-set (omega (arith, c.requires))

pub bounds-row-2 : goal.bounds-row-2
bounds-row-2 c = simp length-set (omega (arith, c.requires))

pub bounds-row-3 : goal.bounds-row-3
bounds-row-3 c = simp length-set (omega (arith, c.requires))

pub bounds-row-4 : goal.bounds-row-4
bounds-row-4 c = simp length-set (omega (arith, c.requires))

pub bounds-row-5 : goal.bounds-row-5
bounds-row-5 c = simp length-set (omega (arith, c.requires))

pub bounds-row-6 : goal.bounds-row-6
bounds-row-6 c = simp length-set (omega (arith, c.requires))

pub returns : goal.returns
returns c =
    let A = c.args in
    rows.seven_set A.row.now A.number A.line.sender A.line.taker A.line.from A.line.to A.line.words A.at c.requires
