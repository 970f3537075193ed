-- `listing::put_row` meets its contract: a row, where the message is handled.
use Rattle.std.specs.Prelude.{◌+◌}
use mathlib.Core.Path.{refl, ap, ◌∙◌}
use native.Mathlib.Omega.{arith}
use Rattle.plan.specs.Shaped.{plan_of}
use Rattle.summary.specs.Summary.{line_of}
use Rattle.stages.proofs.Parts as parts
use Rattle.part_calls.proofs.Answers as answers
use Rattle.part_calls.proofs.Rows as rows
use Rattle.part_calls.proofs.listing.put_row.Goals as goal

pub offset_bounds-ordinals-m : goal.offset_bounds-ordinals-m
offset_bounds-ordinals-m c = omega (arith, c.requires.known.1, c.requires.known.0.few)

pub bounds-ordinals-m : goal.bounds-ordinals-m
bounds-ordinals-m c = omega (arith, c.requires.known.1, c.requires.known.0.few)

pub offset_bounds-ordinals-m-2 : goal.offset_bounds-ordinals-m-2
offset_bounds-ordinals-m-2 c = omega (arith, c.requires.known.1, c.requires.known.0.few)

pub bounds-ordinals-m-2 : goal.bounds-ordinals-m-2
bounds-ordinals-m-2 c = omega (arith, c.requires.known.1, c.requires.known.0.few)

pub nth-place-requires : goal.nth-place-requires
nth-place-requires c = c.requires.known.1

pub line_at-line-requires : goal.line_at-line-requires
line_at-line-requires c =
    let A = c.args in
    let nth = c.nth-place in
    record { found_in = parts.placed_self A.table.now.layout.sizes.route A.table.now.layout.nest A.m nth.result nth.ensures }

pub overflow_mul-at : goal.overflow_mul-at
overflow_mul-at c =
    let A = c.args in
    let p = plan_of A.table.now.layout.sizes.route A.table.now.layout.nest in
    let lo = c.requires.known.1 in
    omega (
      arith,
      c.requires.known.1,
      c.requires.known.0.few,
      rows.rank_few p A.b A.m _ (c.requires.known.0.ordinals A.m
          (omega (arith, lo))),
    )

pub overflow_add-end : goal.overflow_add-end
overflow_add-end c =
    let A = c.args in
    let p = plan_of A.table.now.layout.sizes.route A.table.now.layout.nest in
    let lo = c.requires.known.1 in
    omega (
      arith,
      c.requires.known.1,
      c.requires.known.0.few,
      rows.rank_few p A.b A.m _ (c.requires.known.0.ordinals A.m
          (omega (arith, lo))),
    )

pub offset_bounds-out-at : goal.offset_bounds-out-at
offset_bounds-out-at c =
    let A = c.args in
    let p = plan_of A.table.now.layout.sizes.route A.table.now.layout.nest in
    let lo = c.requires.known.1 in
    omega (
      arith,
      c.requires.known.1,
      c.requires.known.0.few,
      rows.rank_few p A.b A.m _ (c.requires.known.0.ordinals A.m
          (omega (arith, lo))),
    )

pub slice_bounds-store_row-count : goal.slice_bounds-store_row-count
slice_bounds-store_row-count c = omega arith

pub slice_bounds-store_row-start : goal.slice_bounds-store_row-start
slice_bounds-store_row-start c = omega arith

pub slice_bounds-store_row-end : goal.slice_bounds-store_row-end
slice_bounds-store_row-end c =
    let A = c.args in
    let if1 = c.if-next-rank in
    let p = plan_of A.table.now.layout.sizes.route A.table.now.layout.nest in
    let lo = c.requires.known.1 in
    let mine = answers.other_rank p A.b A.m _ _ (c.requires.known.0.ordinals A.m
    (omega (arith, lo))) (c.requires.known.0.ordinals (A.m + 1) (omega (arith, lo))) if1.true in
    rows.room p A.b A.m lo A.out.now c.requires.out_len mine _ (c.requires.known.0.ordinals A.m (omega (arith, lo)))

pub overflow_cast-m : goal.overflow_cast-m
overflow_cast-m c = omega (arith, c.requires.known.1, c.requires.known.0.few)

pub offset_bounds-starts-m : goal.offset_bounds-starts-m
offset_bounds-starts-m c = omega (arith, c.requires.known.1, c.requires.known.0.few)

pub bounds-starts-m : goal.bounds-starts-m
bounds-starts-m c = omega (arith, c.requires.known.1, c.requires.known.0.few)

pub store_row-requires : goal.store_row-requires
store_row-requires c =
    let A = c.args in
    let if1 = c.if-next-rank in
    let p = plan_of A.table.now.layout.sizes.route A.table.now.layout.nest in
    let lo = c.requires.known.1 in
    let mine = answers.other_rank p A.b A.m _ _ (c.requires.known.0.ordinals A.m
    (omega (arith, lo))) (c.requires.known.0.ordinals (A.m + 1) (omega (arith, lo))) if1.true in
    rows.lent p A.b A.m lo A.out.now c.requires.out_len mine _ (c.requires.known.0.ordinals A.m (omega (arith, lo)))

pub returns-then-next-rank : goal.returns-then-next-rank
returns-then-next-rank c =
    let A = c.args in
    let if1 = c.if-next-rank in
    let line_at_lem = c.line_at-line in
    let nth = c.nth-place in
    let store_row = c.store_row in
    let p = plan_of A.table.now.layout.sizes.route A.table.now.layout.nest in
    let lo = c.requires.known.1 in
    let mine = answers.other_rank p A.b A.m _ _ (c.requires.known.0.ordinals A.m
    (omega (arith, lo))) (c.requires.known.0.ordinals (A.m + 1) (omega (arith, lo))) if1.true in
    rows.stored p A.b A.m lo A.out.now c.requires.out_len mine _ (c.requires.known.0.ordinals A.m (omega (arith, lo)))
    line_at_lem.result (line_at_lem.ensures ∙ ap (line_of p) nth.ensures.number) A.m _ refl (c.requires.known.0.starts A.m (omega (arith, lo)))
    store_row.new.row store_row.auto.row store_row.ensures

pub returns-else-next-rank : goal.returns-else-next-rank
returns-else-next-rank c =
    let A = c.args in
    let if1 = c.if-next-rank in
    let p = plan_of A.table.now.layout.sizes.route A.table.now.layout.nest in
    let lo = c.requires.known.1 in
    rows.passed p A.b A.m lo A.out.now c.requires.out_len (answers.same_rank p A.b A.m _ _
    (c.requires.known.0.ordinals A.m (omega (arith, lo))) (c.requires.known.0.ordinals (A.m + 1) (omega (arith, lo)))
    if1.false)
