-- `parcels::idle` meets its contract.
use native.Mathlib.Omega.{arith}
use mathlib.Core.Path.{sym, ◌∙◌}
use Rattle.parcels.proofs.Sendings.{headed_to, idle_outside, idle_counts}
use Rattle.parcels.proofs.idle.Goals as goal

pub beyond_last-requires : goal.beyond_last-requires
beyond_last-requires c = (
  omega (arith, c.args.layout.now.sized.accepted.spread_low, c.args.layout.now.sized.accepted.dimensions_most),
  headed_to _ c.args.layout.now.sized.accepted _ _ _ _ c.requires,
)

pub returns-then-beyond_last : goal.returns-then-beyond_last
returns-then-beyond_last c =
    rw c.if-beyond_last.true (idle_outside _ c.args.layout.now.sized.accepted _ _ _ _ c.requires c.args.layout.now.sizes.across (record { each = c.args.layout.now.sized.across })
    (sym c.beyond_last.ensures ∙ c.if-beyond_last.true))

pub returns-else-beyond_last : goal.returns-else-beyond_last
returns-else-beyond_last c = idle_counts _ c.args.layout.now.sized.accepted _ _ _ _ c.requires _ c.leaves.ensures
