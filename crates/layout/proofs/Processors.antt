-- Cells that lie alike in the spread dimensions have one processor, so a row has one: the last dimension is not spread.
use Prim.Native.Nat.{ℕ, ◌/◌, ◌<◌}
use mathlib.Core.Path.{◌≡◌, sym, ap, ◌∙◌}
use native.Mathlib.Omega.{arith}
use Rattle.nest.specs.declared.Nest.{Nest}
use Rattle.nest.specs.Accepted.{Accepted}
use Rattle.nest.specs.Nest.{tile_length}
use Rattle.nest.specs.Places.{cell_place, box_tile_of}
use Rattle.plan.specs.Geometry.{processor_of}
use Rattle.plan.proofs.Tiles.{tile_place_box_tile_of, processor_of_same}

pub one_processor : (x : Nest) → Accepted x → (c d : ℕ) → ((j : ℕ) → j < x.spread → cell_place x c j ≡ cell_place x d j)
    → processor_of x (box_tile_of x c) ≡ processor_of x (box_tile_of x d)
one_processor x ok c d same =
    processor_of_same x ok (box_tile_of x c) (box_tile_of x d)
    (λ j l.
    tile_place_box_tile_of x ok c j (omega (arith, ok.spread_low)) ∙ ap (λ (a : ℕ). a / tile_length x j) (same j l)
    ∙ sym (tile_place_box_tile_of x ok d j (omega (arith, ok.spread_low))))
