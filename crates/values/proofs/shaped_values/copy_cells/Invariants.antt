-- `values::shaped_values::copy_cells` meets its contract: the first q rows of the nest are copied, to a grid of the boundary's words.
use Prim.Native.Nat.{◌-◌, ◌*◌, ◌≤◌}
use Rattle.values.specs.shaped_values.Rows.{inside_only, held_word}
use Rattle.values.proofs.shaped_values.Stores.{Storing}
use Rattle.values.proofs.shaped_values.copy_cells.Given as goal

abbrev pub invariant-loop-q : goal.invariant-loop-q
invariant-loop-q l = (l.q ≤ l.rows) × Storing (inside_only l.layout.nest (held_word l.layout.nest l.memories)) (λ y. y) l.initial.grid l.grid (l.q * l.width)

abbrev pub decreases-loop-q : goal.decreases-loop-q
decreases-loop-q l = l.rows - l.q
