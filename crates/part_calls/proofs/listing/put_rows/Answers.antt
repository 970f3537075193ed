-- `listing::put_rows` meets its contract: the rows of the messages passed.
use mathlib.Core.Path.{◌∙◌}
use native.Mathlib.Omega.{arith}
use Rattle.plan.specs.Shaped.{plan_of}
use Rattle.part_calls.proofs.Rows as rows
use Rattle.part_calls.proofs.listing.put_rows.Goals as goal

pub loop-m-init : goal.loop-m-init
loop-m-init c =
    let A = c.args in
    let p = plan_of A.table.now.layout.sizes.route A.table.now.layout.nest in
    rows.rows_start p A.b A.out.now

pub put_row-requires : goal.put_row-requires
put_row-requires c =
    let loop-test = c.loop-m-test in
    let loop = c.loop-m in
    record { known = (c.requires.known.0, omega (arith, loop-test.true, c.requires.known.1)); out_len = loop.invariant.long ∙ c.requires.out_len }

pub loop-m-preserved : goal.loop-m-preserved
loop-m-preserved c =
    let A = c.args in
    let loop = c.loop-m in
    let loop-test = c.loop-m-test in
    let put_row = c.put_row in
    let p = plan_of A.table.now.layout.sizes.route A.table.now.layout.nest in
    rows.rows_next p A.b A.out.now loop.out loop.m loop.invariant (omega (arith, loop-test.true, c.requires.known.1)) c.requires.out_len _
    put_row.ensures

pub shape_of-out : goal.shape_of-out
shape_of-out c =
    let loop = c.loop-m in
    loop.invariant.long

pub returns : goal.returns
returns c =
    let A = c.args in
    let loop = c.loop-m in
    let loop-test = c.loop-m-test in
    let p = plan_of A.table.now.layout.sizes.route A.table.now.layout.nest in
    rows.rows_all p A.b A.out.now loop.out loop.m loop.invariant c.requires.out_len (omega (arith, loop-test.false, c.requires.known.1))
