-- `layout::tile_count` meets its contract: the product of the shares done, times that of the shares left.
use native.Mathlib.Omega.{arith}
use mathlib.Core.Path.{sym}
use Rattle.layout.proofs.Shares.{counting_none, counting_more, counting_few, counting_end, share_asks, no_tiles}
use Rattle.layout.proofs.Layout.tile_count.Goals as goal

pub returns-then-processor-self : goal.returns-then-processor-self
returns-then-processor-self c = (
  sym (no_tiles c.args.self.now.sizes.route _ c.args.self.now.sized.accepted _
      (omega (arith, c.if-processor-self.true, c.args.self.now.sized.processors))),
  omega arith,
)

pub share_of-share-requires : goal.share_of-share-requires
share_of-share-requires c =
    share_asks c.args.self.now.sizes.route c.args.self.now.nest c.args.self.now.sized.accepted c.args.self.now.sizes.across (record { each = c.args.self.now.sized.across })
    c.args.processor c.loop-j.j c.loop-j-test.true c.loop-j.invariant.low

pub overflow_mul-n : goal.overflow_mul-n
overflow_mul-n c =
    omega (
      arith,
      (let start = c in
          counting_few start.args.self.now.sizes.route start.args.self.now.nest start.args.self.now.sized.accepted start.args.self.now.sizes.across (record { each = start.args.self.now.sized.across })
          start.args.processor _ _ _ ((let start = c in
          counting_more start.args.self.now.sizes.route start.args.self.now.nest start.args.self.now.sized.accepted start.args.self.now.sizes.across (record { each = start.args.self.now.sized.across })
          start.args.processor
          c.loop-j.j c.loop-j.rest c.loop-j.n c.share_of-share.result c.loop-j-test.true
          c.loop-j.invariant c.share_of-share.ensures))),
    )

pub loop-j-preserved : goal.loop-j-preserved
loop-j-preserved c =
    (let start = c in
    counting_more start.args.self.now.sizes.route start.args.self.now.nest start.args.self.now.sized.accepted start.args.self.now.sizes.across (record { each = start.args.self.now.sized.across })
    start.args.processor
    c.loop-j.j c.loop-j.rest c.loop-j.n c.share_of-share.result c.loop-j-test.true
    c.loop-j.invariant c.share_of-share.ensures)

pub returns : goal.returns
returns c = (
  counting_end c.args.self.now.sizes.route c.args.self.now.nest c.args.self.now.sized.accepted c.args.self.now.sizes.across (record { each = c.args.self.now.sized.across })
      c.args.processor (omega (arith, c.if-processor-self.false, c.args.self.now.sized.processors))
      _ _ _ c.loop-j.invariant (omega (arith, c.loop-j-test.false)),
  counting_few c.args.self.now.sizes.route c.args.self.now.nest c.args.self.now.sized.accepted c.args.self.now.sizes.across (record { each = c.args.self.now.sized.across })
      c.args.processor _ _ _ c.loop-j.invariant,
)
