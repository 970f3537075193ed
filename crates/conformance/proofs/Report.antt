-- What the report says of our plan.
use Prim.Native.Nat.{ℕ, ◌≤◌, ◌<◌}
use mathlib.Core.Path.{◌≡◌}
use native.Mathlib.Omega.{arith}
use Rattle.nest.specs.declared.Nest.{Nest}
use Rattle.nest.specs.Accepted.{Accepted}
use Rattle.nest.specs.Places.{rank}
use Rattle.plan.specs.Messages.{two, directions, ahead}
use Rattle.conformance.specs.Report.{ReportAgrees}
use Rattle.nest.proofs.Rank.{Within, rank_low, rank_lt}
use Rattle.plan.proofs.Tiles.{cell_place_low, cell_at_low, cell_place_cell_at, tile_at_low, tile_place_tile_at}
use Rattle.plan.proofs.Parcels.{ahead_low, ahead_some, ahead_rank}
use Rattle.conformance.proofs.Sets.{tile_is_cells, parcel_is_sent, parcel_is_bounded}
use Rattle.conformance.proofs.Dues.{tile_has, has_tile, dues_receive, received_due}
use Rattle.plan.proofs.Homes.{apart, same_processor}
use Rattle.conformance.proofs.Merged.{passed_is_merged, dues_merged, received_merged}
use Rattle.plan.proofs.Loops.{allocated, loops_are_tiles}

direction : (x : Nest) (v : ℕ) → 1 ≤ v → v ≤ directions x → (j : ℕ) × (j < x.spread) × (ahead x v j ≡ 1)
direction x v l m = let q = ahead_some x v l m in (q.0, q.1, omega (arith, q.2, ahead_low x v q.0 q.1))

directed : (x : Nest) (b : ℕ → ℕ) → ((j : ℕ) → j < x.spread → b j ≤ 1) → ((j : ℕ) × (j < x.spread) × (b j ≡ 1))
    → (v : ℕ) × (1 ≤ v) × (v ≤ directions x) × ((j : ℕ) → j < x.spread → ahead x v j ≡ b j)
unfolding directions
directed x b low (q, l, e) =
    (rank two b x.spread, above, omega (arith, rank_low two b x.spread within), ahead_rank x b within)
  where
    within : Within two b x.spread
    within j h = omega (arith, low j h)

    above : 1 ≤ rank two b x.spread
    above = omega (arith, rank_lt two (λ j. 0) b x.spread q (λ j h. omega arith) (λ j h. omega arith) l (omega arith))

pub report_agrees : (x : Nest) → Accepted x → ReportAgrees x
report_agrees x ok =
    record {
      cell_index = cell_place_low x ok;
      index_cell = λ i w. (cell_at_low x ok i w, cell_place_cell_at x ok i w);
      tile_index = tile_has x ok;
      index_tile = λ t w. let r = has_tile x ok t w.0 w.1 in (tile_at_low x ok t r, tile_place_tile_at x ok t r);
      tile_cells = tile_is_cells x ok;
      allocated = allocated x ok;
      order = λ r p l. loops_are_tiles x ok p r l;
      same_processor = same_processor x ok;
      direction = λ v l m. (ahead_low x v, direction x v l m);
      directed = directed x;
      sends = parcel_is_sent x ok;
      sends_theorem1 = parcel_is_bounded x ok;
      dues = dues_receive x ok;
      received = received_due x ok;
      apart = λ h v l m. apart x v h l m;
      sends_merged = passed_is_merged x ok;
      dues_merged = dues_merged x ok;
      received_merged = λ t q c lt lq far lc r. received_merged x ok t q c lt lq lc far r;
    }
