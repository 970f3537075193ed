-- One word after the other, each behind those before it.
use lib.ListN.{take}
use Rattle.packets.specs.Packet.{words_bytes}
use Rattle.packets.specs.Calls.{Put}
use Rattle.packets.proofs.put_words.Given as goal

abbrev pub invariant-loop-i : goal.invariant-loop-i
invariant-loop-i l = Put l.initial.space l.at (words_bytes (take l.i l.words)) l.space
