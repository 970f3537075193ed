-- `part_calls::tile::back_in` meets its contract: told at the first cell where the distance reads.
use native.Mathlib.Omega.{arith}
use Rattle.part_calls.proofs.tile.InPart.{behind_none, back_low, near_row, near_place, behind_some}
use Rattle.part_calls.proofs.tile.back_in.Goals as goal

pub returns-then-cut : goal.returns-then-cut
returns-then-cut c = behind_none _ _ _ _ _ _ _ c.overlap-cut.ensures c.if-cut.true

pub behind-requires : goal.behind-requires
behind-requires c =
    let cut = c.overlap-cut.ensures in
    let row = c.requires.0 in record {
      counted = (
        (row.counted, row.small),
        (
          near_row _ _ _ _ _ _ _ cut _ _ row c.requires.1 (omega (arith, c.if-cut.false)),
          back_low _ _ _ _ _ _ _ cut _ _ row c.requires.1 (omega (arith, c.if-cut.false)),
        ),
      );
      ahead_value = near_place _ _ _ _ _ _ _ cut _ _ row c.requires.1 (omega (arith, c.if-cut.false));
    }

pub returns : goal.returns
returns c = behind_some _ _ _ _ _ _ _ c.overlap-cut.ensures _ _ c.requires.0 c.requires.1 (omega (arith, c.if-cut.false)) _ c.behind.ensures
