-- `comparison::print_by` meets its contract.
use Rattle.plan_text.proofs.Laws.{counted}
use native.Mathlib.Omega.{arith}
use Rattle.comparison.proofs.print_by.Goals as goal

pub slice_bounds-write_all-end-2 : goal.slice_bounds-write_all-end-2
slice_bounds-write_all-end-2 g c =
    let wrote = c.write_lines-length in
    counted wrote.result _ (omega (arith, wrote.ensures.upper_bound, wrote.auto.space, c.requires))
