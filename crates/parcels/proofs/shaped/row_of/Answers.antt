-- `parcels::shaped::row_of` meets its contract.
use native.Mathlib.Omega.{arith}
use Rattle.nest.proofs.Shapes.{framed}
use Rattle.parcels.proofs.Rows.{box_places, row_small}
use Rattle.parcels.proofs.shaped.Rows as R
use Rattle.parcels.proofs.shaped.row_of.Goals as goal

pub place-at-requires : goal.place-at-requires
place-at-requires c = box_places _ c.requires.accepted.0 _ c.requires.accepted.1.1.0

pub span_of-own-requires : goal.span_of-own-requires
span_of-own-requires c = (framed _ c.requires.accepted.0, λ j h. omega (arith, row_small _ c.requires.accepted.0 _ c.requires.accepted.1.1.0 _ _ c.place-at.ensures j h))

pub runs_of-requires : goal.runs_of-requires
runs_of-requires c = record { accepted = (c.requires.accepted.0, (c.requires.accepted.1.0, (c.requires.accepted.1.1.0.opens, c.requires.nest_in_bounds))); by_index = (row_small _ c.requires.accepted.0 _ c.requires.accepted.1.1.0 _ _ c.place-at.ensures, c.span_of-own.ensures) }

pub returns : goal.returns
returns c = R.row_runs _ c.requires.accepted.0 _ c.requires.accepted.1.1.0 _ _ c.place-at.ensures _ _ _ _ c.runs_of.ensures
