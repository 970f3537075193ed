-- `values::row_values::box_rows` meets its contract: the rows up to r are stored.
use native.Mathlib.Omega.{arith}
use Rattle.values.proofs.row_values.Rows.{given_ranked, given_inside, given_row, given_one, given_next, given_more, given_start, stored_rows}
use Rattle.values.proofs.row_values.box_rows.Goals as goal

pub loop-r-init : goal.loop-r-init
loop-r-init c = (
  omega arith,
  (
    c.requires.1.1.0,
    λ x g. given_start _ _ _ _ _ _ c.args.source.now
        c.args.memory.now _ _ _ _ _ g _ (omega arith),
  ),
)

pub rank_of-number-requires : goal.rank_of-number-requires
rank_of-number-requires c =
    let p = c.requires in
    let g = given_next _ _ _ _ _ _ c.args.source.now c.args.memory.now _ _ _ _ _ p.1.0 _ _ _
    (c.loop-r.invariant.1.1 p.0 p.1.0) c.loop-r.r (omega (arith, c.loop-r.invariant.0)) in
    given_ranked _ _ _ _ _ _ c.args.source.now c.loop-r.memory _ _ _ _ _ g

pub row-requires : goal.row-requires
row-requires c =
    let p = c.requires in
    let g = given_next _ _ _ _ _ _ c.args.source.now c.args.memory.now _ _ _ _ _ p.1.0 _ _ _
    (c.loop-r.invariant.1.1 p.0 p.1.0) c.loop-r.r (omega (arith, c.loop-r.invariant.0)) in
    (p.0, given_row _ _ _ _ _ _ c.args.source.now c.loop-r.memory _ _ _ _ _ g _ c.rank_of-number.ensures)

pub advance-requires : goal.advance-requires
advance-requires c =
    let p = c.requires in
    let g = given_next _ _ _ _ _ _ c.args.source.now c.args.memory.now _ _ _ _ _ p.1.0 _ _ _
    (c.loop-r.invariant.1.1 p.0 p.1.0) c.loop-r.r (omega (arith, c.loop-r.invariant.0)) in
    given_inside _ _ _ _ _ _ c.args.source.now c.loop-r.memory _ _ _ _ _ g

pub loop-r-preserved : goal.loop-r-preserved
loop-r-preserved c = (
  omega (arith, c.loop-r.invariant.0),
  (
    omega (arith, c.loop-r-test.true),
    λ x p. let s = c.loop-r.invariant.1.1 x p in
        let g = given_next _ _ _ _ _ _ c.args.source.now c.args.memory.now _ _ _ _ _ p _ _ _ s c.loop-r.r
        (omega (arith, c.loop-r.invariant.0)) in let h = given_row _ _ _ _ _ _ c.args.source.now c.loop-r.memory _ _ _ _ _ g _
        c.rank_of-number.ensures in given_more _ _ _ _ _ _ c.args.source.now c.args.memory.now _ _ _ _ _ p _ _ _ s
        c.loop-r.r 1 _
        (omega (arith, c.loop-r.invariant.0)) (omega (arith, c.loop-r.invariant.0)) _ _ (given_one _ _ _ _ _ _ c.args.source.now
        c.loop-r.memory _ _ _ _ _ g _ c.rank_of-number.ensures _ _ (c.row.ensures x h) c.advance.ensures),
  ),
)

pub returns : goal.returns
returns c = λ x p. stored_rows _ _ _ _ _ _ _ _ _ _ (omega (arith, c.loop-r.invariant.1.0, c.loop-r-test.false)) (c.loop-r.invariant.1.1 x p)
