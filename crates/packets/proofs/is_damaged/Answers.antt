-- Each return is a law of a line.
use Rattle.packets.proofs.Answers.{damaged_short, damaged_unfit, damaged_magic, damaged_check, fit_long, count_at, first_at, word_behind}
use native.Mathlib.Omega.{arith}
use Prim.Native.Nat.{◌+◌, ◌*◌}
use Rattle.std.proofs.Common.{length-take-le}
use mathlib.Core.Path.{refl, sym, ◌∙◌}
use Rattle.packets.proofs.is_damaged.Goals as goal

pub returns-then-length-lt60 : goal.returns-then-length-lt60
returns-then-length-lt60 c = damaged_short c.args.packet.now c.if-length-lt60.true

pub returns-then-is_unfit : goal.returns-then-is_unfit
returns-then-is_unfit c =
    damaged_unfit c.args.packet.now c.word_at-count.result (count_at c.args.packet.now _ c.word_at-count.ensures)
    (sym c.is_unfit.ensures ∙ c.if-is_unfit.true)

pub returns-then-word_at-ne-MAGIC : goal.returns-then-word_at-ne-MAGIC
returns-then-word_at-ne-MAGIC c = damaged_magic c.args.packet.now c.word_at.result (first_at c.args.packet.now _ c.word_at.ensures) c.if-word_at-ne-MAGIC.true

pub returns-else-word_at-ne-MAGIC : goal.returns-else-word_at-ne-MAGIC
returns-else-word_at-ne-MAGIC c =
    damaged_check c.args.packet.now c.word_at-count.result c.crc.result c.word_at-else-word_at-ne-MAGIC.result c.word_at.result _
    (count_at c.args.packet.now _ c.word_at-count.ensures) (sym c.is_unfit.ensures ∙ c.if-is_unfit.false)
    (first_at c.args.packet.now _ c.word_at.ensures) c.if-word_at-ne-MAGIC.false c.crc.ensures
    (word_behind c.args.packet.now _ _ c.word_at-else-word_at-ne-MAGIC.ensures) refl

pub word_at-requires-else-word_at-ne-MAGIC : goal.word_at-requires-else-word_at-ne-MAGIC
word_at-requires-else-word_at-ne-MAGIC c = omega (arith, fit_long _ _ (sym c.is_unfit.ensures ∙ c.if-is_unfit.false))

pub slice_bounds-crc-end : goal.slice_bounds-crc-end
slice_bounds-crc-end c =
    sym (length-take-le (56 + 4 * c.word_at-count.result) c.args.packet.now (omega (
      arith,
      fit_long _ _ (sym c.is_unfit.ensures ∙ c.if-is_unfit.false),
    )))
