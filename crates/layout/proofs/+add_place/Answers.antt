-- `layout::add_place` meets its contract: what is added is the remainder, the rest is the place of the quotient. `left` falls.
use native.Mathlib.Omega.{arith}
use mathlib.Core.Path.{◌∙◌}
use lib.ListN.{length-set}
use Rattle.layout.proofs.Dims.{placed_none, placed_more, places_less, place_fits}
use Rattle.layout.proofs.+add_place.Goals as goal

pub returns-then-left-eq0 : goal.returns-then-left-eq0
returns-then-left-eq0 t c = (c.requires.0, placed_none _ _ _ _ c.if-left-eq0.true)

pub nonzero_rem-at : goal.nonzero_rem-at
nonzero_rem-at t c = c.requires.1.positive _ (omega arith)

pub overflow_add-at : goal.overflow_add-at
overflow_add-at t c =
    record {
      fits = omega (
        arith,
        place_fits c.args.lengths.now c.args.at.now
            c.args.n c.args.left c.if-left-eq0.false (omega arith)
            c.requires.1,
      );
    }

pub nonzero_div-n : goal.nonzero_div-n
nonzero_div-n t c = c.requires.1.positive _ (omega arith)

pub add_place-requires : goal.add_place-requires
add_place-requires t c = (
  omega arith,
  (
    length-set c.args.at.now _ _ ∙ c.requires.0,
    places_less _ _ c.args.n _ c.if-left-eq0.false (omega arith)
        c.requires.1,
  ),
)

pub returns : goal.returns
returns t c = (c.add_place.ensures.0, placed_more _ _ _ _ _ c.if-left-eq0.false (omega arith) c.add_place.ensures.1)
