-- `inner::store_row` meets its contract.
use native.Mathlib.Omega.{arith}
use lib.ListN.{length-set}
use Rattle.transport.proofs.Rows as rows
use Rattle.transport.proofs.inner.store_row.Goals as goal

pub bounds-row-0 : goal.bounds-row-0
bounds-row-0 c = omega (arith, c.requires)

pub bounds-row-1 : goal.bounds-row-1
bounds-row-1 c = simp length-set (omega (arith, c.requires))

pub bounds-row-2 : goal.bounds-row-2
bounds-row-2 c = simp length-set (omega (arith, c.requires))

pub bounds-row-3 : goal.bounds-row-3
bounds-row-3 c = simp length-set (omega (arith, c.requires))

pub bounds-row-4 : goal.bounds-row-4
bounds-row-4 c = simp length-set (omega (arith, c.requires))

pub bounds-row-5 : goal.bounds-row-5
bounds-row-5 c = simp length-set (omega (arith, c.requires))

pub returns : goal.returns
returns c =
    rows.six_set c.args.row.now c.args.line.sender c.args.line.taker c.args.line.from c.args.line.to c.args.line.words
    c.args.offset c.requires
