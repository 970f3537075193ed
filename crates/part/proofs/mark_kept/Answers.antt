-- `mark_kept` meets its contract: its own, then those of the messages.
use mathlib.Core.Path.{refl}
use Rattle.part.proofs.mark_kept.Goals as goal

pub mark_own-requires : goal.mark_own-requires
mark_own-requires c = record { routed = c.args.table.now.tabled.routed; low = c.requires }

pub mark_messages-requires : goal.mark_messages-requires
mark_messages-requires c =
    let fill-sides = c.fill_sides in
    let mark_own = c.mark_own in
    record { list_len = refl; sides_len = (fill-sides.auto.sides, fill-sides.ensures); marks_value = mark_own.ensures }
