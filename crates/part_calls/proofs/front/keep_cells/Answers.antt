-- `part_calls::front::keep_cells` meets its contract: before the last cell, all that are marked.
use Rattle.plan.specs.Shaped.{plan_of}
use Rattle.network.specs.Own.{keeps}
use mathlib.Core.Path.{◌∙◌}
use Rattle.part_calls.proofs.front.Front as front
use Rattle.part_calls.proofs.front.keep_cells.Goals as goal

pub mark_kept-requires : goal.mark_kept-requires
mark_kept-requires c = (c.requires.0, c.requires.1.0)

pub fill_counts-requires : goal.fill_counts-requires
fill_counts-requires c =
    let A = c.args in
    let mark-kept = c.mark_kept in (
      front.marks_few A.table.now.layout.nest A.table.now.layout.sizes A.b c.args.table.now.layout.sized (keeps (plan_of A.table.now.layout.sizes.route A.table.now.layout.nest) A.b)
          mark-kept.new.marks (mark-kept.auto.marks ∙ c.requires.1.0),
      c.requires.1.1,
    )

pub rank-requires : goal.rank-requires
rank-requires c =
    let fill-counts = c.fill_counts in
    let A = c.args in
    let mark-kept = c.mark_kept in (
      fill-counts.ensures,
      (
        front.cells_below A.table.now.layout.nest A.table.now.layout.sizes A.b c.args.table.now.layout.sized (keeps (plan_of A.table.now.layout.sizes.route A.table.now.layout.nest) A.b)
            _ mark-kept.ensures,
        front.marks_few A.table.now.layout.nest A.table.now.layout.sizes A.b c.args.table.now.layout.sized (keeps (plan_of A.table.now.layout.sizes.route A.table.now.layout.nest) A.b)
            mark-kept.new.marks (mark-kept.auto.marks ∙ c.requires.1.0),
      ),
    )

pub returns : goal.returns
returns c =
    let mark-kept = c.mark_kept in
    let fill-counts = c.fill_counts in
    let A = c.args in
    let rank = c.rank in (
      record { are = mark-kept.ensures; counted = fill-counts.ensures },
      front.all_marked A.table.now.layout.nest A.table.now.layout.sizes A.b c.args.table.now.layout.sized (keeps (plan_of A.table.now.layout.sizes.route A.table.now.layout.nest) A.b) _ mark-kept.ensures rank.result
          rank.ensures,
    )
