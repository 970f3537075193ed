-- `layout::tile_at` meets its contract: what the dimensions left give, weighed, and the rank of those done.
use native.Mathlib.Omega.{arith}
use Rattle.layout.proofs.Shares.{finding_none, finding_more, finding_end, share_asks}
use Rattle.layout.proofs.Layout.tile_at.Goals as goal

pub share_of-share-requires : goal.share_of-share-requires
share_of-share-requires c =
    share_asks c.args.self.now.sizes.route c.args.self.now.nest c.args.self.now.sized.accepted c.args.self.now.sizes.across
    (record { each = c.args.self.now.sized.across }) c.args.processor c.loop-j.j c.loop-j-test.true c.loop-j.invariant.low

pub nonzero_rem-tile : goal.nonzero_rem-tile
nonzero_rem-tile c =
    ((let start = c in
    finding_more start.args.self.now.sizes.route start.args.self.now.nest start.args.self.now.sized.accepted start.args.self.now.sizes.across
    (record { each = start.args.self.now.sized.across }) start.args.processor start.args.finished start.requires
    c.loop-j.j c.loop-j.rest c.loop-j.left c.loop-j.weight
    c.loop-j.tile c.share_of-share.result c.loop-j-test.true c.loop-j.invariant c.share_of-share.ensures)).some

pub overflow_mul-tile : goal.overflow_mul-tile
overflow_mul-tile c =
    omega (
      arith,
      ((let start = c in
          finding_more start.args.self.now.sizes.route start.args.self.now.nest start.args.self.now.sized.accepted start.args.self.now.sizes.across
          (record { each = start.args.self.now.sized.across }) start.args.processor start.args.finished start.requires
          c.loop-j.j c.loop-j.rest c.loop-j.left c.loop-j.weight
          c.loop-j.tile c.share_of-share.result c.loop-j-test.true c.loop-j.invariant c.share_of-share.ensures)).in_range,
      (((let start = c in
          share_asks start.args.self.now.sizes.route start.args.self.now.nest start.args.self.now.sized.accepted start.args.self.now.sizes.across
          (record { each = start.args.self.now.sized.across }) start.args.processor c.loop-j.j c.loop-j-test.true c.loop-j.invariant.low)).1.0),
    )

pub overflow_add-tile : goal.overflow_add-tile
overflow_add-tile c =
    omega (
      arith,
      ((let start = c in
          finding_more start.args.self.now.sizes.route start.args.self.now.nest start.args.self.now.sized.accepted start.args.self.now.sizes.across
          (record { each = start.args.self.now.sized.across }) start.args.processor start.args.finished start.requires
          c.loop-j.j c.loop-j.rest c.loop-j.left c.loop-j.weight
          c.loop-j.tile c.share_of-share.result c.loop-j-test.true c.loop-j.invariant c.share_of-share.ensures)).in_range,
      (((let start = c in
          share_asks start.args.self.now.sizes.route start.args.self.now.nest start.args.self.now.sized.accepted start.args.self.now.sizes.across
          (record { each = start.args.self.now.sized.across }) start.args.processor c.loop-j.j c.loop-j-test.true c.loop-j.invariant.low)).1.0),
    )

pub overflow_mul-tile-in-loop-j : goal.overflow_mul-tile-in-loop-j
overflow_mul-tile-in-loop-j c =
    omega (
      arith,
      ((let start = c in
          finding_more start.args.self.now.sizes.route start.args.self.now.nest start.args.self.now.sized.accepted start.args.self.now.sizes.across
          (record { each = start.args.self.now.sized.across }) start.args.processor start.args.finished start.requires
          c.loop-j.j c.loop-j.rest c.loop-j.left c.loop-j.weight
          c.loop-j.tile c.share_of-share.result c.loop-j-test.true c.loop-j.invariant c.share_of-share.ensures)).room,
      ((let start = c in
          finding_more start.args.self.now.sizes.route start.args.self.now.nest start.args.self.now.sized.accepted start.args.self.now.sizes.across
          (record { each = start.args.self.now.sized.across }) start.args.processor start.args.finished start.requires
          c.loop-j.j c.loop-j.rest c.loop-j.left c.loop-j.weight
          c.loop-j.tile c.share_of-share.result c.loop-j-test.true c.loop-j.invariant c.share_of-share.ensures)).wide,
    )

pub overflow_add-tile-in-loop-j : goal.overflow_add-tile-in-loop-j
overflow_add-tile-in-loop-j c =
    omega (
      arith,
      ((let start = c in
          finding_more start.args.self.now.sizes.route start.args.self.now.nest start.args.self.now.sized.accepted start.args.self.now.sizes.across
          (record { each = start.args.self.now.sized.across }) start.args.processor start.args.finished start.requires
          c.loop-j.j c.loop-j.rest c.loop-j.left c.loop-j.weight
          c.loop-j.tile c.share_of-share.result c.loop-j-test.true c.loop-j.invariant c.share_of-share.ensures)).room,
      ((let start = c in
          finding_more start.args.self.now.sizes.route start.args.self.now.nest start.args.self.now.sized.accepted start.args.self.now.sizes.across
          (record { each = start.args.self.now.sized.across }) start.args.processor start.args.finished start.requires
          c.loop-j.j c.loop-j.rest c.loop-j.left c.loop-j.weight
          c.loop-j.tile c.share_of-share.result c.loop-j-test.true c.loop-j.invariant c.share_of-share.ensures)).wide,
    )

pub nonzero_div-left : goal.nonzero_div-left
nonzero_div-left c =
    ((let start = c in
    finding_more start.args.self.now.sizes.route start.args.self.now.nest start.args.self.now.sized.accepted start.args.self.now.sizes.across
    (record { each = start.args.self.now.sized.across }) start.args.processor start.args.finished start.requires
    c.loop-j.j c.loop-j.rest c.loop-j.left c.loop-j.weight
    c.loop-j.tile c.share_of-share.result c.loop-j-test.true c.loop-j.invariant c.share_of-share.ensures)).some

pub overflow_mul-weight : goal.overflow_mul-weight
overflow_mul-weight c =
    omega (
      arith,
      ((let start = c in
          finding_more start.args.self.now.sizes.route start.args.self.now.nest start.args.self.now.sized.accepted start.args.self.now.sizes.across
          (record { each = start.args.self.now.sized.across }) start.args.processor start.args.finished start.requires
          c.loop-j.j c.loop-j.rest c.loop-j.left c.loop-j.weight
          c.loop-j.tile c.share_of-share.result c.loop-j-test.true c.loop-j.invariant c.share_of-share.ensures)).wide,
    )

pub loop-j-preserved : goal.loop-j-preserved
loop-j-preserved c =
    ((let start = c in
    finding_more start.args.self.now.sizes.route start.args.self.now.nest start.args.self.now.sized.accepted start.args.self.now.sizes.across
    (record { each = start.args.self.now.sized.across }) start.args.processor start.args.finished start.requires
    c.loop-j.j c.loop-j.rest c.loop-j.left c.loop-j.weight
    c.loop-j.tile c.share_of-share.result c.loop-j-test.true c.loop-j.invariant c.share_of-share.ensures)).next

pub returns : goal.returns
returns c =
    finding_end c.args.self.now.sizes.route c.args.self.now.nest c.args.self.now.sized.accepted c.args.self.now.sizes.across
    (record { each = c.args.self.now.sized.across }) c.args.processor c.args.finished c.requires
    _ _ _ _ _ c.loop-j.invariant (omega (arith, c.loop-j-test.false))
