-- `nest::mark_row` meets its contract: the tiles of the row lie between those of its span's ends.
use native.Mathlib.Omega.{arith}
use Rattle.nest.proofs.Shapes as S
use Rattle.nest.proofs.mark_row.Goals as goal

pub tile_at-first-requires : goal.tile_at-first-requires
tile_at-first-requires c = (c.requires.0, S.row_inside c.args.nest c.requires.0.0 c.args.q _ c.row_place-at.ensures)

pub tile_along-from-requires : goal.tile_along-from-requires
tile_along-from-requires c =
    let ends = S.row_ends c.args.nest c.requires.0.0 c.requires.0.1 c.args.q _ _ c.row_place-at.ensures
    c.span_of-s.ensures c.if-s.true in
    (ends.0, (c.requires.0.1 _ (omega (arith, c.requires.0.0.dimensions_least)), c.requires.0.0.tile_wide _))

pub tile_along-to-requires : goal.tile_along-to-requires
tile_along-to-requires c =
    let ends = S.row_ends c.args.nest c.requires.0.0 c.requires.0.1 c.args.q _ _ c.row_place-at.ensures
    c.span_of-s.ensures c.if-s.true in
    (ends.1, (c.requires.0.1 _ (omega (arith, c.requires.0.0.dimensions_least)), c.requires.0.0.tile_wide _))

pub overflow_add-first : goal.overflow_add-first
overflow_add-first c =
    let to = c.tile_along-to in
    let from = c.tile_along-from in
    record {
      fits = omega (
        arith,
        S.told_order c.args.nest c.requires.0.0 c.requires.0.1 c.args.q _ _ c.row_place-at.ensures
            c.span_of-s.ensures _ _ _ c.tile_at-first.ensures from.ensures to.ensures c.if-s.true,
        S.told_fits c.args.nest c.requires.0.0 c.requires.0.1 c.args.q _ _ c.row_place-at.ensures
            c.span_of-s.ensures _ _ _ c.tile_at-first.ensures from.ensures to.ensures c.if-s.true,
      );
    }

pub overflow_add-first-then-s : goal.overflow_add-first-then-s
overflow_add-first-then-s c =
    let to = c.tile_along-to in
    let from = c.tile_along-from in
    record {
      fits = omega (
        arith,
        S.told_fits c.args.nest c.requires.0.0 c.requires.0.1 c.args.q _ _ c.row_place-at.ensures
            c.span_of-s.ensures _ _ _ c.tile_at-first.ensures from.ensures to.ensures c.if-s.true,
      );
    }

pub overflow_add-first-then-s-2 : goal.overflow_add-first-then-s-2
overflow_add-first-then-s-2 c =
    let to = c.tile_along-to in
    let from = c.tile_along-from in
    record {
      fits = omega (
        arith,
        S.told_fits c.args.nest c.requires.0.0 c.requires.0.1 c.args.q _ _ c.row_place-at.ensures
            c.span_of-s.ensures _ _ _ c.tile_at-first.ensures from.ensures to.ensures c.if-s.true,
      );
    }

pub mark-requires : goal.mark-requires
mark-requires c =
    let to = c.tile_along-to in
    let from = c.tile_along-from in (
      omega (
        arith,
        S.told_order c.args.nest c.requires.0.0 c.requires.0.1 c.args.q _ _ c.row_place-at.ensures
            c.span_of-s.ensures _ _ _ c.tile_at-first.ensures from.ensures to.ensures c.if-s.true,
      ),
      omega (
        arith,
        S.told_room c.args.nest c.requires.0.0 c.requires.0.1 c.args.q _ _ c.row_place-at.ensures
            c.span_of-s.ensures _ _ _ c.tile_at-first.ensures from.ensures to.ensures c.if-s.true,
        c.requires.1.1,
      ),
    )

pub returns-then-s : goal.returns-then-s
returns-then-s c =
    let to = c.tile_along-to in
    let from = c.tile_along-from in
    S.marked_row_by c.args.nest c.requires.0.0 c.requires.0.1 c.args.q _ _ c.row_place-at.ensures
    c.span_of-s.ensures _ _ _ c.tile_at-first.ensures from.ensures to.ensures c.if-s.true _ _ c.mark.ensures

pub returns-else-s : goal.returns-else-s
returns-else-s c =
    S.marked_none c.args.nest c.requires.0.0 c.requires.0.1 c.args.q _ _ c.row_place-at.ensures
    c.span_of-s.ensures _ c.if-s.false
