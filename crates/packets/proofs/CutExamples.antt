-- For the proofs alone.
-- The rows of chunks, computed.
use mathlib.Core.Path.{refl}
use Rattle.base.specs.Tests.{◌and◌, not, pick, one, every, tabulate}
use Rattle.base.specs.Lists.{sublist, put}
use Rattle.base.specs.Numbers.{first_of}
use Rattle.packets.specs.Cut.{chunks_of, cut, there, complete, fits, placed, take_chunk_call, take_all}
use Rattle.packets.specs.CutExamples.{Counted, Small, Two}

pub counted : Counted
unfolding chunks_of complete there every ◌and◌
counted = record { none = refl; full = refl; one_more = refl; most = refl; too_many = refl; both_bits = refl; one_bit = refl }

pub small : Small
unfolding chunks_of complete there every ◌and◌ not pick one put first_of fits placed take_chunk_call
small = record { whole = refl; again = refl; other_chunk = refl; other_total = refl; other_count = refl }

pub two : Two
unfolding chunks_of complete there every ◌and◌ not pick one sublist put tabulate first_of cut fits placed take_chunk_call take_all
two = record { in_turn = refl }
