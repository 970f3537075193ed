-- `bands::edge_rows::edge_row` meets its contract: the first cells, and then those at which all taps read.
use mathlib.Core.Path.{◌∙◌, ap}
use native.Mathlib.Omega.{arith}
use lib.ListN.{length}
use Rattle.base.proofs.Lists.{store_length}
use Rattle.kernels.proofs.Sums.{mixes_first, mixes_fits, line_stored, made_line}
use Rattle.bands.proofs.edge_rows.edge_row.Goals as goal

pub edge-requires : goal.edge-requires
edge-requires c = mixes_first c.requires.0 _ c.before-few.ensures.0

pub returns-then-few-width : goal.returns-then-few-width
returns-then-few-width c = rw c.if-few-width.true at c.edge.ensures

pub row-requires : goal.row-requires
row-requires c =
    mixes_fits c.requires.0 _ _ _ (omega (arith, c.if-few-width.false, c.before-few.ensures.0)) c.requires.1
    (c.before-few.ensures.1
    (omega (arith, c.if-few-width.false, c.before-few.ensures.0)))
    (ap length c.edge.ensures ∙ store_length _ _ _)

pub returns : goal.returns
returns c =
    line_stored _ _ _ _ _ _ _ _ (omega (
      arith,
      c.if-few-width.false,
      c.before-few.ensures.0,
    ))
    c.edge.ensures c.row.ensures
    (λ l y i. made_line _ _ _ _ _ _ _ _ _ _ c.requires.1 _ (c.before-few.ensures.1
    (omega (
      arith,
      c.if-few-width.false,
      c.before-few.ensures.0,
    ))) l y)
