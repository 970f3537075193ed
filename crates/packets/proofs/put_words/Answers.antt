-- One word after the other, each behind those before it.
use native.Mathlib.Omega.{arith}
use Rattle.packets.proofs.Bytes.{words_none, words_more, words_all}
use Rattle.packets.proofs.put_words.Goals as goal

pub loop-i-init : goal.loop-i-init
loop-i-init c = words_none c.args.space.now c.args.at c.args.words.now

pub put_word-requires : goal.put_word-requires
put_word-requires c = omega (arith, c.loop-i.invariant.long, c.requires)

pub loop-i-preserved : goal.loop-i-preserved
loop-i-preserved c =
    words_more c.args.space.now c.loop-i.space c.put_word.new.space c.args.at c.loop-i.i c.args.words.now
    c.loop-i-test.true c.loop-i.invariant c.put_word.ensures

pub shape_of-space : goal.shape_of-space
shape_of-space c = c.loop-i.invariant.long

pub returns : goal.returns
returns c =
    words_all c.args.space.now c.loop-i.space c.args.at c.loop-i.i c.args.words.now c.loop-i-test.false
    c.loop-i.invariant
