-- `part_calls::tile::calculate_box` meets its contract: the first r rows of the tile's box are stored.
use Rattle.std.specs.Prelude.{◌≡◌, ◌-◌, ◌*◌, ◌≤◌, length}
use Rattle.plan.specs.Box.{box_cell}
use Rattle.plan.specs.Shaped.{shaped_value}
use Rattle.values.specs.shaped_values.Rows.{inside_only}
use Rattle.values.proofs.shaped_values.Stores.{Storing}
use Rattle.rank_index.specs.Ranks.{spread_out}
use Rattle.part_calls.proofs.tile.calculate_box.Given as goal

abbrev pub invariant-loop-r : goal.invariant-loop-r
invariant-loop-r l =
    (l.r ≤ l.rows) × ((length l.memory ≡ length l.initial.memory)
    × Storing (inside_only l.layout.nest (shaped_value l.layout.nest (spread_out l.owned l.source))) (box_cell l.layout.nest l.tile) (spread_out l.kept l.initial.memory) (spread_out l.kept l.memory) (l.r * l.width))

abbrev pub decreases-loop-r : goal.decreases-loop-r
decreases-loop-r l = l.rows - l.r
