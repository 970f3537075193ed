use native.Mathlib.Omega.{arith}
use Rattle.std.proofs.lemmas.Result.{err_from_is_err_and}
use Rattle.nest.proofs.Answers.{accepted_read}
use Rattle.chart.proofs.Answers as L
use Rattle.chart.proofs.write_text.Goals as goal

pub returns-in_err-nest-clause-number : goal.returns-in_err-nest-clause-number
returns-in_err-nest-clause-number c =
    let p = err_from_is_err_and c.from_residual.result c.from_residual.ensures.1 in
    rw (p.1, p.2) (L.write_read c.in_err-nest.ensures _ _ _ _ _)

pub measured-requires : goal.measured-requires
measured-requires c = accepted_read c.in_ok-nest.ensures

pub returns-in_err-length-clause-number : goal.returns-in_err-length-clause-number
returns-in_err-length-clause-number c =
    let p = err_from_is_err_and c.from_residual-in_err-length.result c.from_residual-in_err-length.ensures.1 in
    rw (p.1, p.2) (L.write_fault c.in_ok-nest.ensures _ _ _ _ _ _ c.in_err-length.ensures.number)

pub returns-then-space-length-clause-number : goal.returns-then-space-length-clause-number
returns-then-space-length-clause-number c =
    let long = L.text_length c.in_ok-nest.ensures _ _ c.args.x c.args.y c.ranges.x c.ranges.y _ c.in_ok-length.ensures.length in
    L.write_short c.in_ok-nest.ensures _ _ _ _ _ c.in_ok-length.ensures.number (omega (arith, long, c.if-space-length.true))

pub put_text-requires : goal.put_text-requires
put_text-requires c = (
  accepted_read c.in_ok-nest.ensures,
  (
    L.two c.in_ok-nest.nest c.args.grid.now c.args.cell_size c.in_ok-length.ensures.number,
    L.a_word_a_cell c.in_ok-nest.nest c.args.grid.now c.args.cell_size c.in_ok-length.ensures.number,
  ),
)

pub returns-clause-number : goal.returns-clause-number
returns-clause-number c =
    let long = L.text_length c.in_ok-nest.ensures _ _ c.args.x c.args.y c.ranges.x c.ranges.y _ c.in_ok-length.ensures.length in
    L.write_long c.in_ok-nest.ensures _ _ _ _ _ c.in_ok-length.ensures.number (omega (arith, long, c.if-space-length.false))

pub returns-clause-ok : goal.returns-clause-ok
returns-clause-ok c =
    let long = L.text_length c.in_ok-nest.ensures _ _ c.args.x c.args.y c.ranges.x c.ranges.y _ c.in_ok-length.ensures.length in
    rw long
    (L.front_written c.in_ok-nest.ensures _ _ _ _ _ c.ranges.x c.ranges.y _ _ c.put_text.ensures.space_after
    (omega (arith, long, c.if-space-length.false)))

pub returns-clause-length : goal.returns-clause-length
returns-clause-length c = L.text_length c.in_ok-nest.ensures _ _ c.args.x c.args.y c.ranges.x c.ranges.y _ c.in_ok-length.ensures.length
