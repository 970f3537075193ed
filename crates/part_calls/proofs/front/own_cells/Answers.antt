-- `part_calls::front::own_cells` meets its contract: before the last cell, all that are marked.
use Rattle.plan.specs.Shaped.{plan_of}
use Rattle.network.specs.Own.{owns}
use mathlib.Core.Path.{◌∙◌}
use Rattle.part_calls.proofs.front.Front as front
use Rattle.part_calls.proofs.front.own_cells.Goals as goal

pub mark_own-requires : goal.mark_own-requires
mark_own-requires c = record { routed = c.requires.routed; low = (c.requires.low, c.requires.owned_len.0) }

pub fill_counts-requires : goal.fill_counts-requires
fill_counts-requires c =
    let A = c.args in
    let mark_own = c.mark_own in (
      front.marks_few A.layout.now.nest A.layout.now.sizes A.b c.args.layout.now.sized (owns (plan_of A.layout.now.sizes.route A.layout.now.nest) A.b)
          mark_own.new.marks (mark_own.auto.marks ∙ c.requires.owned_len.0),
      c.requires.owned_len.1,
    )

pub rank-requires : goal.rank-requires
rank-requires c =
    let fill-counts = c.fill_counts in
    let A = c.args in
    let mark_own = c.mark_own in (
      fill-counts.ensures,
      (
        front.cells_below A.layout.now.nest A.layout.now.sizes A.b c.args.layout.now.sized (owns (plan_of A.layout.now.sizes.route A.layout.now.nest) A.b)
            _ mark_own.ensures,
        front.marks_few A.layout.now.nest A.layout.now.sizes A.b c.args.layout.now.sized (owns (plan_of A.layout.now.sizes.route A.layout.now.nest) A.b)
            mark_own.new.marks (mark_own.auto.marks ∙ c.requires.owned_len.0),
      ),
    )

pub returns : goal.returns
returns c =
    let mark_own = c.mark_own in
    let fill-counts = c.fill_counts in
    let A = c.args in
    let rank = c.rank in (
      record { are = mark_own.ensures; counted = fill-counts.ensures },
      front.all_marked A.layout.now.nest A.layout.now.sizes A.b c.args.layout.now.sized (owns (plan_of A.layout.now.sizes.route A.layout.now.nest) A.b) _ mark_own.ensures rank.result
          rank.ensures,
    )
