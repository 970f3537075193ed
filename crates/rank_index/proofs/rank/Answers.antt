-- `rank` meets its contract: the count before its block and the marks from there on.
use native.Mathlib.Omega.{arith}
use mathlib.Core.Path.{◌∙◌}
use Rattle.rank_index.proofs.Ranks as ranks
use Rattle.rank_index.proofs.Blocks as blocks
use Rattle.rank_index.proofs.rank.Goals as goal

pub overflow_add-n : goal.overflow_add-n
overflow_add-n c =
    let block = blocks.count_low c.args.marks.now c.args.counts.now c.requires.0 c.requires.1.1 c.args.c c.requires.1.0 in
    let is = blocks.rank_by_block c.args.marks.now c.args.counts.now c.requires.0 c.args.c c.marks_in.result c.requires.1.0
    c.marks_in.ensures in
    omega (arith, is, ranks.rank_most c.args.marks.now c.args.c, c.requires.1.0, c.requires.1.1)

pub returns : goal.returns
returns c =
    blocks.rank_by_block c.args.marks.now c.args.counts.now c.requires.0 c.args.c c.marks_in.result c.requires.1.0
    c.marks_in.ensures
