-- `values::row_values::box_fours` meets its contract: the first g groups are stored.
use Prim.Native.Nat.{◌*◌}
use native.Mathlib.Omega.{arith}
use Rattle.values.proofs.row_values.Rows.{given_next, given_more, given_start, stored_rows}
use Rattle.values.proofs.row_values.box_fours.Goals as goal

pub loop-g-init : goal.loop-g-init
loop-g-init c = (omega arith, λ x g. given_start _ _ _ _ _ _ c.args.source.now c.args.memory.now _ _ _ _ _ g _ (omega arith))

pub four_rows-requires : goal.four_rows-requires
four_rows-requires c =
    let p = c.requires in (
      p.0,
      (
        given_next _ _ _ _ _ _ c.args.source.now c.args.memory.now _ _ _ _ _ p.1.0 _ _ _ (c.loop-g.invariant.1 p.0 p.1.0)
            (4 * c.loop-g.g) (omega arith),
        omega (arith, c.loop-g-test.true, p.1.1),
      ),
    )

pub loop-g-preserved : goal.loop-g-preserved
loop-g-preserved c = (
  omega (arith, c.loop-g-test.true),
  λ x p. let s = c.loop-g.invariant.1 x p in given_more _ _ _ _ _ _ c.args.source.now
      c.args.memory.now _ _ _ _ _ p _ _ _ s (4 * c.loop-g.g) 4 _ (omega arith) (omega arith) _ _
      (c.four_rows.ensures x (given_next _ _ _ _ _ _ c.args.source.now c.args.memory.now _ _ _ _ _ p _ _ _ s
      (4 * c.loop-g.g) (omega arith))),
)

pub returns : goal.returns
returns c = λ x p. stored_rows _ _ _ _ _ _ _ _ _ _ (omega (arith, c.loop-g.invariant.0, c.loop-g-test.false)) (c.loop-g.invariant.1 x p)
