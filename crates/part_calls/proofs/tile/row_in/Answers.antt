-- `part_calls::tile::row_in` meets its contract: the cells before and behind the span are outside, those in it stand side by side in the part.
use Rattle.std.specs.Prelude.{◌-◌}
use native.Mathlib.Omega.{arith}
use Rattle.nest.proofs.Shapes.{framed}
use Rattle.values.proofs.shaped_values.Words.{place_narrow}
use Rattle.part_calls.proofs.tile.RowsIn.{start_small, start_low, worked_row, row_stores, row_empty}
use Rattle.part_calls.proofs.tile.row_in.Goals as goal

pub span_of-own-requires : goal.span_of-own-requires
span_of-own-requires c = (framed _ c.requires.accepted.0, place_narrow _ c.requires.accepted.0 _ c.requires.located.0)

pub overlap-cut-requires : goal.overlap-cut-requires
overlap-cut-requires c = omega (arith, c.requires.located.1, c.requires.accepted.0.length_most (c.args.nest.dimensions - 1))

pub returns-then-few-eq0 : goal.returns-then-few-eq0
returns-then-few-eq0 c =
    let m = c.requires.accepted.1.1 in
    let l = c.requires.located in
    row_empty _ c.requires.accepted.0 _ _ _ _ _ m.0 m.1 c.requires.accepted.1.0 _ l.0 _ l.1 _ _ c.span_of-own.ensures c.overlap-cut.ensures
    c.if-few-eq0.true _ c.no_row.ensures

pub overflow_add-start : goal.overflow_add-start
overflow_add-start c =
    let m = c.requires.accepted.1.1 in
    let l = c.requires.located in
    omega (
      arith,
      start_small _ c.requires.accepted.0 _ _ _ _ _ m.0 m.1 c.requires.accepted.1.0 _ l.0 _ l.1 _ _ c.span_of-own.ensures c.overlap-cut.ensures,
    )

pub rank-from-requires : goal.rank-from-requires
rank-from-requires c =
    let m = c.requires.accepted.1.1 in
    let l = c.requires.located in (
      m.1.counted,
      (
        start_low _ c.requires.accepted.0 _ _ _ _ _ m.0 m.1 c.requires.accepted.1.0 _ l.0 _ l.1 _ _ c.span_of-own.ensures c.overlap-cut.ensures,
        omega (arith, m.1.long, c.requires.accepted.0.cells_most),
      ),
    )

pub row_at-requires : goal.row_at-requires
row_at-requires c =
    let m = c.requires.accepted.1.1 in
    let l = c.requires.located in record {
      accepted = (c.requires.accepted.0, (place_narrow _ c.requires.accepted.0 _ l.0, (c.requires.accepted.1.0, m.0)));
      worked_row = worked_row _ c.requires.accepted.0 _ _ _ _ _ m.0 m.1 c.requires.accepted.1.0 _ l.0 _ l.1 _ _ c.span_of-own.ensures c.overlap-cut.ensures
          c.requires.by_index;
    }

pub returns : goal.returns
returns c =
    let m = c.requires.accepted.1.1 in
    let l = c.requires.located in
    row_stores _ c.requires.accepted.0 _ _ _ _ _ m.0 m.1 c.requires.accepted.1.0 _ l.0 _ l.1 _ _ c.span_of-own.ensures c.overlap-cut.ensures
    c.requires.by_index _ _ c.rank-from.ensures c.row_at.ensures
