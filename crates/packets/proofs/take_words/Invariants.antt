-- Words stored one after the other.
use mathlib.Core.Path.{◌≡◌}
use mathlib.Core.List.{◌++◌}
use Prim.Native.Nat.{◌+◌, ◌≤◌}
use lib.ListN.{drop}
use Rattle.base.specs.Tests.{tabulate}
use Rattle.packets.specs.Packet.{word_at}
use Rattle.packets.proofs.take_words.Given as goal

abbrev pub invariant-loop-i : goal.invariant-loop-i
invariant-loop-i l = (l.i ≤ l.count) × (l.words ≡ tabulate (λ j. word_at l.packet (14 + j)) l.i ++ drop l.i l.initial.words)
