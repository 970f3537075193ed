-- What is left gives the same hash.
use Rattle.packets.specs.Fingerprint.{mix_all}
use lib.ListN.{drop}
use mathlib.Core.Path.{◌≡◌}
use Rattle.packets.proofs.hash.mixed.Given as goal

abbrev pub invariant-loop-byte : goal.invariant-loop-byte
invariant-loop-byte l = mix_all l.now (drop l.byte-index l.bytes) ≡ mix_all l.hash l.bytes
