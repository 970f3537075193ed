-- Words stored one after the other.
use borrow.Author.Rules.{rules}
use native.Mathlib.Omega.{arith}
use Rattle.packets.proofs.Bytes.{store_none, store_more, stored_length, stored_all}
use Rattle.packets.proofs.Answers.{word_behind}
use Rattle.packets.proofs.take_words.Goals as goal

pub loop-i-init : goal.loop-i-init
loop-i-init c = (search rules, store_none _ _)

pub bounds-words-i : goal.bounds-words-i
bounds-words-i c =
    omega (
      arith,
      stored_length _ _ _ _ c.loop-i.invariant.1 (omega (arith, c.requires.1)),
      c.requires.1,
    )

pub loop-i-preserved : goal.loop-i-preserved
loop-i-preserved c = (
  search rules,
  store_more _ c.args.words.now c.loop-i.words c.loop-i.i c.word_at.result (omega (arith, c.requires.1)) c.loop-i.invariant.1
      (word_behind c.args.packet.now c.loop-i.i c.word_at.result c.word_at.ensures),
)

pub shape_of-words : goal.shape_of-words
shape_of-words c =
    omega (
      arith,
      stored_length _ _ _ _ c.loop-i.invariant.1 (omega (arith, c.requires.1)),
      c.requires.1,
    )

pub returns : goal.returns
returns c =
    stored_all _ _ _ c.args.count c.loop-i.i c.loop-i.invariant.0 c.loop-i-test.false
    c.loop-i.invariant.1
