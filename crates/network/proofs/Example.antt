-- The theorem says something: it applies to the machine's plan of 16 tiles, and to a plan with a message that stays on its processor.
use mathlib.Core.Path.{◌≡◌, refl, sym, ap, ◌∙◌}
use mathlib.Core.Logic.{inl}
use mathlib.Core.Bool.{true}
use mathlib.Core.List.{List}
use Prim.Native.Nat.{ℕ, zero, suc, ◌+◌}
use lib.ListN.{get_or}
use Rattle.base.specs.Tests.{◌and◌, ◌or◌, not, every, some}
use Rattle.base.specs.Lists.{In, member}
use Rattle.machine.specs.Plan.{Sound}
use Rattle.machine.specs.Machine.{turn, sweep}
use Rattle.machine.specs.Runs.{Event, total}
use Rattle.machine.proofs.SoundTest.{all_in, is_rising, knows, cell_test, own_test, tile_test, held_test, message_test, sound_test, tested}
use Rattle.machine.proofs.ComputedRun.{rows, ones, rounds, all_steps, that_is_all}
use Rattle.machine.proofs.Example.{sound}
use Rattle.network.specs.Apart.{sender_at, taker_at, assembled, start_apart, act_apart, last_apart, steps_apart, MachineApart}
use Rattle.network.specs.Packets.{NetworkEvent, MachineByPackets}
use Rattle.network.specs.Locality.{ReadsOwnWord, Local}
use Rattle.network.proofs.Theorem.{theorem_apart}
use Rattle.network.proofs.PacketTheorem.{theorem_packets}
use Rattle.network.proofs.Locality.{local}
use Rattle.network.proofs.Computed.{reads_at, value_at, line3}

holds : (events : List Event) → MachineApart rows ones events
holds events = theorem_apart rows sound ones events

-- the whole run of 20 rounds, apart, gives the sweep
all_apart : steps_apart (act_apart rows ones) (start_apart rows) (rounds 20) ≡ total rows
all_apart = rw (holds (rounds 20)).same_answers (all_steps ∙ sym that_is_all)

assembles_sweep : assembled rows (last_apart rows ones (rounds 20)) ≡ sweep rows ones
assembles_sweep = (holds (rounds 20)).grid all_apart

-- ---- the plan with a message at home
value_same : (source m n : List ℕ) (c : ℕ) → ((r : ℕ) → In r (reads_at c) → get_or m r 0 ≡ get_or n r 0) → value_at source m c ≡ value_at source n c
unfolding value_at
value_same source m n zero f = refl
value_same source m n (suc c) f = ap (λ (x : ℕ). get_or source (suc c) 0 + x) (f c (inl refl))

test3 : sound_test line3 ≡ true
unfolding line3 sound_test cell_test own_test tile_test held_test message_test all_in is_rising knows every some member ◌and◌ ◌or◌ not
test3 = refl

pub sound3 : Sound line3
unfolding line3
sound3 = tested line3 test3 (λ source m n c h f. value_same source m n c f)

at_home_lem : sender_at line3 0 ≡ taker_at line3 0
unfolding line3
at_home_lem = refl

holds3 : (source : List ℕ) (events : List Event) → MachineApart line3 source events
holds3 source events = theorem_apart line3 sound3 source events

-- and with two events a delivery
holds_packets : (source : List ℕ) (events : List NetworkEvent) → MachineByPackets line3 source events
holds_packets source events = theorem_packets line3 sound3 source events

-- its turns are local
own3 : ReadsOwnWord line3
unfolding line3 value_at
own3 source source' memory zero e = e
own3 source source' memory (suc c) e = ap (λ (x : ℕ). x + get_or memory c 0) e

pub is_local : Local line3 (turn line3)
is_local = local line3 sound3 own3
