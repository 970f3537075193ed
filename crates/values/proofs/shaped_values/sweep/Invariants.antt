-- `values::shaped_values::sweep` meets its contract: the first q rows of the nest are stored, from a grid of the boundary's words.
use Prim.Native.Nat.{◌-◌, ◌*◌, ◌≤◌}
use Rattle.plan.specs.Shaped.{shaped_value}
use Rattle.values.specs.shaped_values.Rows.{inside_only}
use Rattle.values.proofs.shaped_values.Stores.{Storing}
use Rattle.values.proofs.shaped_values.sweep.Given as goal

abbrev pub invariant-loop-q : goal.invariant-loop-q
invariant-loop-q l = (l.q ≤ l.rows) × Storing (inside_only l.layout.nest (shaped_value l.layout.nest l.source)) (λ y. y) l.initial.grid l.grid (l.q * l.width)

abbrev pub decreases-loop-q : goal.decreases-loop-q
decreases-loop-q l = l.rows - l.q
