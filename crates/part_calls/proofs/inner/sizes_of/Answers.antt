-- `inner::sizes_of` meets its contract: the four lengths.
use mathlib.Core.Path.{refl, sym}
use Rattle.part_calls.proofs.front.Front as front
use Rattle.part_calls.proofs.inner.sizes_of.Goals as goal

pub prepare-messages-requires : goal.prepare-messages-requires
prepare-messages-requires c = record { routed = c.requires.routed; low = c.requires.low; lengths = (refl, (refl, refl)) }

pub returns : goal.returns
returns c =
    let found = c.prepare-messages in
    let own-count = c.own_count-own in
    let kept-count = c.kept_count-kept in
    let A = c.args in
    rw (sym found.ensures.table)
    (front.sizes_are found.result.table A.b _ _ found.ensures.known.0 found.result.messages found.ensures.known.1 own-count.result
    (rw found.ensures.table own-count.ensures.0) kept-count.result kept-count.ensures.0)
