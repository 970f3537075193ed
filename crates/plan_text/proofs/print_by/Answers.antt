-- `plan_text::print_by` meets its contract: what it hands over is the text that was written.
use Rattle.plan_text.proofs.Laws as L
use native.Mathlib.Omega.{arith}
use Rattle.plan_text.proofs.print_by.Goals as goal

pub slice_bounds-hand_over-end-2 : goal.slice_bounds-hand_over-end-2
slice_bounds-hand_over-end-2 g c = L.counted c.write_recipe-length.result _ (omega (arith, c.write_recipe-length.ensures.upper_bound, c.write_recipe-length.auto.space, c.requires))
