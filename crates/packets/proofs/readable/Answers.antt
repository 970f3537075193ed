-- Each return is a law of a line.
use Rattle.packets.proofs.Answers.{whole_is, number_damaged, number_stale, number_short, number_none, count_at}
use native.Mathlib.Omega.{arith}
use mathlib.Core.Path.{sym, ◌∙◌}
use Rattle.packets.proofs.readable.Goals as goal

pub returns-then-is_damaged-clause-number : goal.returns-then-is_damaged-clause-number
returns-then-is_damaged-clause-number c = number_damaged c.args.fingerprint c.args.run c.args.packet.now c.args.room (sym c.is_damaged.ensures ∙ c.if-is_damaged.true)

pub is_stale-requires : goal.is_stale-requires
is_stale-requires c = omega (arith, (whole_is c.args.packet.now (sym c.is_damaged.ensures ∙ c.if-is_damaged.false)).long)

pub returns-then-is_stale-clause-number : goal.returns-then-is_stale-clause-number
returns-then-is_stale-clause-number c =
    number_stale c.args.fingerprint c.args.run c.args.packet.now c.args.room (sym c.is_damaged.ensures ∙ c.if-is_damaged.false)
    (sym c.is_stale.ensures ∙ c.if-is_stale.true)

pub word_at-count-requires : goal.word_at-count-requires
word_at-count-requires c = omega (arith, (whole_is c.args.packet.now (sym c.is_damaged.ensures ∙ c.if-is_damaged.false)).long)

pub returns-then-room-count-clause-number : goal.returns-then-room-count-clause-number
returns-then-room-count-clause-number c =
    number_short c.args.fingerprint c.args.run c.args.packet.now c.args.room (sym c.is_damaged.ensures ∙ c.if-is_damaged.false)
    (sym c.is_stale.ensures ∙ c.if-is_stale.false)
    (omega (arith, count_at c.args.packet.now _ c.word_at-count.ensures, c.if-room-count.true))

pub returns-clause-number : goal.returns-clause-number
returns-clause-number c =
    number_none c.args.fingerprint c.args.run c.args.packet.now c.args.room (sym c.is_damaged.ensures ∙ c.if-is_damaged.false)
    (sym c.is_stale.ensures ∙ c.if-is_stale.false)
    (omega (arith, count_at c.args.packet.now _ c.word_at-count.ensures, c.if-room-count.false))

pub returns-clause-count : goal.returns-clause-count
returns-clause-count c = count_at c.args.packet.now _ c.word_at-count.ensures
