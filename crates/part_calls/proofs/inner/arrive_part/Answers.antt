-- `inner::arrive_part` meets its contract.
use mathlib.Core.Path.{refl, sym}
use Rattle.part_calls.proofs.inner.arrive_part.Goals as goal

pub prepare-messages-requires : goal.prepare-messages-requires
prepare-messages-requires c = record { routed = c.requires.routed; low = c.requires.low.0; lengths = (refl, (refl, refl)) }

pub arrive_in-requires : goal.arrive_in-requires
arrive_in-requires c =
    let found = c.prepare-messages in
    let kept-count = c.kept_count-many in
    (found.ensures.known.0, (record { messages = found.ensures.known.1; kept = kept-count.ensures.0 }, c.requires.low.1))

pub returns : goal.returns
returns c = λ l h. rw (sym c.prepare-messages.ensures.table) (c.arrive_in.ensures l h)
