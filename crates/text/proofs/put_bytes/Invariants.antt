use lib.ListN.{drop}
use Rattle.text.proofs.Steps.{Going}
use Rattle.text.proofs.put_bytes.Given as goal

abbrev pub invariant-loop-byte : goal.invariant-loop-byte
invariant-loop-byte l = Going l.initial.space l.at l.bytes l.space l.place (drop l.byte-index l.bytes)
