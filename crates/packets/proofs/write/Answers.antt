-- 9, or header, words and check word one behind the other.
use Rattle.packets.proofs.Answers.{fit_short, fit_long, write_refused, written_all, write_done}
use native.Mathlib.Omega.{arith}
use Prim.Native.Nat.{◌+◌, ◌*◌}
use lib.ListN.{length}
use Rattle.std.proofs.Common.{length-take-le}
use mathlib.Core.Path.{sym, ◌∙◌}
use Rattle.packets.proofs.write.Goals as goal

pub returns-then-is_unfit : goal.returns-then-is_unfit
returns-then-is_unfit c = write_refused c.args.header c.args.words.now c.args.space.now (sym c.is_unfit.ensures ∙ c.if-is_unfit.true)

pub overflow_cast-count : goal.overflow_cast-count
overflow_cast-count c = omega (arith, fit_short _ _ (sym c.is_unfit.ensures ∙ c.if-is_unfit.false))

pub put_header-requires : goal.put_header-requires
put_header-requires c = omega (arith, fit_long _ _ (sym c.is_unfit.ensures ∙ c.if-is_unfit.false))

pub put_words-requires : goal.put_words-requires
put_words-requires c = omega (arith, fit_long _ _ (sym c.is_unfit.ensures ∙ c.if-is_unfit.false), c.put_header.ensures.long)

pub slice_bounds-crc-end : goal.slice_bounds-crc-end
slice_bounds-crc-end c = omega (arith, fit_long _ _ (sym c.is_unfit.ensures ∙ c.if-is_unfit.false), c.put_header.ensures.long, c.put_words.ensures.long)

pub slice_bounds-crc-end-2 : goal.slice_bounds-crc-end-2
slice_bounds-crc-end-2 c =
    sym (length-take-le (56 + 4 * length c.args.words.now) c.put_words.new.space (omega (
      arith,
      fit_long _ _ (sym c.is_unfit.ensures ∙ c.if-is_unfit.false),
      c.put_header.ensures.long,
      c.put_words.ensures.long,
    )))

pub put_word-requires : goal.put_word-requires
put_word-requires c = omega (arith, fit_long _ _ (sym c.is_unfit.ensures ∙ c.if-is_unfit.false), c.put_header.ensures.long, c.put_words.ensures.long)

pub returns : goal.returns
returns c =
    write_done c.args.header c.args.words.now c.args.space.now c.put_word.new.space (sym c.is_unfit.ensures ∙ c.if-is_unfit.false)
    (written_all c.args.header c.args.words.now c.args.space.now c.put_header.new.space c.put_words.new.space
    c.put_word.new.space
    c.crc-check.result (fit_long _ _ (sym c.is_unfit.ensures ∙ c.if-is_unfit.false)) c.put_header.ensures c.put_words.ensures
    c.crc-check.ensures c.put_word.ensures)
