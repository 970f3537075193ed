-- `tables::shaped_table::rows::line_of` meets its contract.
use mathlib.Core.Path.{refl}
use Rattle.tables.proofs.shaped_table.Lines as L
use Rattle.tables.proofs.shaped_table.Moves as M
use Rattle.tables.proofs.shaped_table.rows.line_of.Goals as goal

pub moved_in-places-requires : goal.moved_in-places-requires
moved_in-places-requires c = (
  (M.moves_of c.args.layout.now.nest c.args.layout.now.sized.accepted _ _ c.in-Some.is c.requires.1.1).short,
  L.place_few c.args.layout.now.nest c.args.layout.now.sized.accepted c.args.tile _ c.place_of_tile-at.ensures,
)

pub line_by-requires : goal.line_by-requires
line_by-requires c = record { sized = (c.requires.0, c.place_of_tile-at.ensures); from_bound = c.moved_in-places.ensures.few }

pub returns-then-places : goal.returns-then-places
returns-then-places c =
    let made = c.line_by.ensures in
    L.lined_as c.args.layout.now.nest _ _ _ _ _ _
    (M.moved_line c.args.layout.now.nest c.args.layout.now.sized.accepted c.args.tile _ _ c.place_of_tile-at.ensures _ (M.moves_of c.args.layout.now.nest c.args.layout.now.sized.accepted _ _ c.in-Some.is c.requires.1.1)
    _ c.moved_in-places.ensures _ refl)
    made.0 made.1.0 made.1.1

pub stretch_of-requires : goal.stretch_of-requires
stretch_of-requires c = (c.requires.0, (c.requires.1.0, c.place_of_tile-at.ensures))

pub returns : goal.returns
returns c = c.stretch_of.ensures
