-- `reader::too_many_tiles` meets its contract: few in the box are few, without bounds all count, else those counted.
use mathlib.Core.Path.{sym}
use native.Mathlib.Omega.{arith}
use Rattle.nest.proofs.Boxes.{box_few}
use Rattle.nest.proofs.Shapes as S
use Rattle.reader.proofs.too_many_tiles.Goals as goal

pub box_tiles-boxed-requires : goal.box_tiles-boxed-requires
box_tiles-boxed-requires c = c.requires.0

pub returns-then-boxed-le-MOST_TILES : goal.returns-then-boxed-le-MOST_TILES
returns-then-boxed-le-MOST_TILES c = sym (S.few_in_box c.args.nest _ c.box_tiles-boxed.ensures c.if-boxed-le-MOST_TILES.true)

pub returns-then-nest-eq0 : goal.returns-then-nest-eq0
returns-then-nest-eq0 c =
    sym (S.many_in_box c.args.nest c.requires.0.0.long c.requires.0.1 _ c.box_tiles-boxed.ensures c.if-boxed-le-MOST_TILES.false
    c.if-nest-eq0.true)

pub tile_total-requires : goal.tile_total-requires
tile_total-requires c = (
  c.requires.0,
  (
    c.box_tiles-boxed.ensures,
    omega (
      arith,
      c.box_tiles-boxed.ensures,
      box_few c.args.nest c.requires.0.0.long
          c.requires.0.1,
      c.requires.1,
    ),
  ),
)

pub returns : goal.returns
returns c = S.counted_tiles c.args.nest _ c.tile_total.ensures
