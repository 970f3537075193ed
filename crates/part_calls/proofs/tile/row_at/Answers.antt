-- `part_calls::tile::row_at` meets its contract.
use Rattle.part_calls.proofs.tile.RowsIn.{kept_row, kept_behind}
use Rattle.part_calls.proofs.tile.row_at.Goals as goal

pub backs_in-backs-requires : goal.backs_in-backs-requires
backs_in-backs-requires c = (
  kept_row _ c.requires.accepted.0 _ _ _ _ _ c.requires.worked_row _ _ c.requires.accepted.1.1.1 c.rank-first.ensures,
  (
    c.requires.accepted.0.distances_most,
    kept_behind _ c.requires.accepted.0 _ _ _ _ _ c.requires.worked_row _ _ _ c.requires.accepted.1.1.0 c.reads_of-reads.ensures,
  ),
)
