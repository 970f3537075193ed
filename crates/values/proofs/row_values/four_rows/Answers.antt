-- `values::row_values::four_rows` meets its contract: the rows go side by side, or one by one.
use native.Mathlib.Omega.{arith}
use mathlib.Core.Path.{refl}
use Rattle.values.proofs.row_values.Rows.{given_ranked, given_inside, given_margin, given_small, given_band, given_moved, given_four, stored_rows}
use Rattle.values.specs.row_values.Given.{with_body}
use Rattle.values.proofs.row_values.four_rows.Goals as goal

pub start_of-from-requires : goal.start_of-from-requires
start_of-from-requires c = given_margin _ _ _ _ _ _ c.args.source.now c.args.memory.now _ _ _ _ _ c.requires.1.0

pub together-requires : goal.together-requires
together-requires c =
    let g = c.requires.1.0 in
    let i = given_inside _ _ _ _ _ _ c.args.source.now c.args.memory.now _ _ _ _ _ g in
    (omega (arith, g.0.0.dimensions_most), (c.start_of-from.ensures.1.1, i.1))

pub box_rows-requires : goal.box_rows-requires
box_rows-requires c =
    let p = c.requires in
    (p.0, (p.1.0, (omega arith, p.1.1)))

pub returns-then-not-together : goal.returns-then-not-together
returns-then-not-together c = λ x g. stored_rows _ _ _ _ _ _ _ _ _ _ (omega arith) (c.box_rows.ensures x g)

pub rank_of-a-requires : goal.rank_of-a-requires
rank_of-a-requires c = given_ranked _ _ _ _ _ _ c.args.source.now c.args.memory.now _ _ _ _ _ c.requires.1.0

pub overflow_add-b : goal.overflow_add-b
overflow_add-b c =
    let q = given_small _ _ _ _ _ _ c.args.source.now c.args.memory.now _ _ _ _ _ c.requires.1.0 _ c.rank_of-a.ensures in
    omega (arith, q.0, q.1)

pub overflow_add-c : goal.overflow_add-c
overflow_add-c c =
    let q = given_small _ _ _ _ _ _ c.args.source.now c.args.memory.now _ _ _ _ _ c.requires.1.0 _ c.rank_of-a.ensures in
    omega (arith, q.0, q.1)

pub overflow_add-c-2 : goal.overflow_add-c-2
overflow_add-c-2 c =
    let q = given_small _ _ _ _ _ _ c.args.source.now c.args.memory.now _ _ _ _ _ c.requires.1.0 _ c.rank_of-a.ensures in
    omega (arith, q.0, q.1)

pub side_by_side-requires : goal.side_by_side-requires
side_by_side-requires c =
    let p = c.requires in
    let t = c.together.ensures c.if-not-together.false in (
      with_body p.0 c.args.body,
      given_band _ _ _ _ _ _ c.args.source.now c.args.memory.now _ _ _ _ _ p.1.0 _ c.rank_of-a.ensures t.1 _ _ _ refl
          refl refl _ c.start_of-from.ensures t.0,
    )

pub advance-requires : goal.advance-requires
advance-requires c =
    let t = c.together.ensures c.if-not-together.false in
    given_moved _ _ _ _ _ _ c.args.source.now c.args.memory.now _ _ _ _ _ c.requires.1.0 _ c.rank_of-a.ensures t.1 _ _ _
    refl refl refl

pub returns : goal.returns
returns c =
    λ x g. let t = c.together.ensures c.if-not-together.false in given_four _ _ _ _ _ _ c.args.source.now
    c.args.memory.now _ _ _ _ _ g _ c.rank_of-a.ensures t.1 _ _ _ refl refl refl _ _
    (c.side_by_side.ensures (with_body x c.args.body) (given_band _ _ _ _ _ _ c.args.source.now
    c.args.memory.now _ _ _ _ _ g _ c.rank_of-a.ensures t.1 _ _ _ refl refl refl _ c.start_of-from.ensures t.0))
    c.advance.ensures
