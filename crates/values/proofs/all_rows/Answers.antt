-- `values::all_rows` meets its contract: by fours, then the rows that are left.
use Prim.Native.Nat.{◌*◌, ◌-◌}
use native.Mathlib.Omega.{arith}
use mathlib.Core.Path.{refl}
use Rattle.values.proofs.row_values.Boxes.{stored_all}
use Rattle.values.proofs.row_values.Rows.{given_next, given_more}
use Rattle.values.proofs.all_rows.Goals as goal

pub box_fours-requires : goal.box_fours-requires
box_fours-requires c = (c.requires.0, (c.requires.1.0, omega (arith, c.requires.1.1.0, c.requires.1.1.1)))

pub box_rows-requires : goal.box_rows-requires
box_rows-requires c =
    let p = c.requires in
    let g = p.1.0 in (
      p.0,
      (
        given_next _ _ _ _ _ _ c.args.source.now c.args.memory.now _ _ _ _ _ g _ _ _ (c.box_fours.ensures p.0 g)
            (4 * c.args.groups) (omega arith),
        (omega (arith, p.1.1.0, p.1.1.1), omega (arith, p.1.1.0, p.1.1.1)),
      ),
    )

pub returns : goal.returns
returns c =
    let p = c.requires in
    let taken = 4 * c.args.groups in
    λ x g. let f = c.box_fours.ensures x g in
    stored_all _ _ _ _ _ _ _ _ _ (given_more _ _ _ _ _ _ c.args.source.now c.args.memory.now _ _ _ _ _ g _ _ _ f taken (c.args.rows - taken)
    c.args.rows (omega arith) (omega (arith, p.1.1.0)) _ _ (c.box_rows.ensures x (given_next _ _ _ _ _ _ c.args.source.now
    c.args.memory.now _ _ _ _ _ g _ _ _ f taken (omega arith)))) refl
