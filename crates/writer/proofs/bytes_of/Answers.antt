-- `writer::bytes_of` meets its contract: the loop has laid the records before r.
use Rattle.nest.proofs.Laws as N
use Rattle.writer.proofs.Loops as S
use native.Mathlib.Omega.{arith}
use Rattle.writer.proofs.bytes_of.Goals as goal

pub overflow_add-records : goal.overflow_add-records
overflow_add-records c = omega (arith, c.requires.0.0, c.requires.0.1, c.requires.1)

pub overflow_add-records-2 : goal.overflow_add-records-2
overflow_add-records-2 c = omega (arith, c.requires.0.0, c.requires.0.1, c.requires.1)

pub overflow_add-records-3 : goal.overflow_add-records-3
overflow_add-records-3 c = omega (arith, c.requires.0.0, c.requires.0.1, c.requires.1)

pub loop-r-init : goal.loop-r-init
loop-r-init c = (omega arith, N.filled_start 272 _)

pub record_of-row-requires : goal.record_of-row-requires
record_of-row-requires c = (c.requires.0, (c.requires.1, omega (arith, c.loop-r-test.true)))

pub overflow_mul-r : goal.overflow_mul-r
overflow_mul-r c =
    let P = c.requires in
    omega (arith, P.0.0, P.0.1, P.1, c.loop-r-test.true)

pub put_record-next-requires : goal.put_record-next-requires
put_record-next-requires c =
    let P = c.requires in
    omega (arith, P.0.0, P.0.1, P.1, c.loop-r-test.true)

pub overflow_step-r : goal.overflow_step-r
overflow_step-r c =
    let P = c.requires in
    omega (arith, P.0.0, P.0.1, P.1, c.loop-r-test.true)

pub loop-r-smaller : goal.loop-r-smaller
loop-r-smaller c = omega (arith, c.loop-r-test.true)

pub loop-r-preserved : goal.loop-r-preserved
loop-r-preserved c = (
  omega arith,
  S.record_next c.loop-r.r _ _
      (c.put_record-next.ensures _ c.loop-r.invariant.1 c.record_of-row.ensures),
)

pub returns : goal.returns
returns c = S.records_end c.loop-r.r _ _ _ c.loop-r.invariant.0 c.loop-r-test.false c.loop-r.invariant.1
