use Rattle.std.proofs.lemmas.Result.{err_from_is_err_and}
use Rattle.nest.proofs.Answers.{accepted_read}
use Rattle.chart.proofs.Answers as L
use Rattle.chart.proofs.text_length.Goals as goal

pub returns-in_err-nest-clause-number : goal.returns-in_err-nest-clause-number
returns-in_err-nest-clause-number c =
    let p = err_from_is_err_and c.from_residual.result c.from_residual.ensures.1 in
    rw (p.1, p.2) (L.length_read c.in_err-nest.ensures _ _)

pub measured-requires : goal.measured-requires
measured-requires c = accepted_read c.in_ok-nest.ensures

pub returns-clause-number : goal.returns-clause-number
returns-clause-number c = L.length_lines_of c.in_ok-nest.ensures _ _ _ c.measured.ensures.number

pub returns-clause-length : goal.returns-clause-length
returns-clause-length c =
    L.length_of_text c.in_ok-nest.ensures c.args.grid.now c.args.cell_size c.args.x c.args.y c.ranges.x c.ranges.y _
    c.measured.ensures.length
