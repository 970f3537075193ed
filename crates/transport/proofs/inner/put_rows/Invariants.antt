-- `inner::put_rows` meets its contract: the slots passed.
use Rattle.transport.proofs.Rows as rows
use Rattle.transport.proofs.inner.put_rows.Given as goal

abbrev pub invariant-loop-slot : goal.invariant-loop-slot
invariant-loop-slot l = rows.Passing l.table.layout.sizes.route l.table.layout.nest l.table.lens.now l.slots l.initial.out l.out l.slot l.number l.offset
