-- `parcels::shaped::reach_of` meets its contract.
use Prim.Native.Nat.{◌+◌}
use mathlib.Core.Path.{refl}
use lib.ListN.{get_or}
use Rattle.nest.specs.Nest.{component}
use Rattle.nest.proofs.Shapes.{framed}
use Rattle.layout.specs.Places.{nth}
use Rattle.parcels.proofs.shaped.Runs as R
use Rattle.parcels.proofs.shaped.reach_of.Goals as goal

pub returns-then-limit-eq0 : goal.returns-then-limit-eq0
returns-then-limit-eq0 c =
    λ w h ends. R.reach_none _ c.requires.accepted.0 w (nth c.args.at)
    (λ j. get_or c.args.at j 0 + component c.args.nest c.args.e j) c.args.e (λ j o. refl) h
    (rw c.if-limit-eq0.true at ends)

pub ahead_of-to-requires : goal.ahead_of-to-requires
ahead_of-to-requires c = record { accepted = c.requires.accepted; by_index = c.requires.by_index.0 }

pub span_of-far-requires : goal.span_of-far-requires
span_of-far-requires c = (framed _ c.requires.accepted.0, c.ahead_of-to.ensures.1)

pub returns : goal.returns
returns c =
    λ w h ends. R.reach_code _ c.requires.accepted.0 w (nth c.args.at) (nth c.ahead_of-to.result) c.args.e
    (λ j o. c.ahead_of-to.ensures.0 j o) h c.args.own.from c.args.own.to c.args.limit c.span_of-far.result.from
    c.span_of-far.result.to _ c.saturating_sub.result c.saturating_sub-2.result c.min.result _ _
    (R.given_is _ c.requires.accepted.0 _ c.requires.accepted.1.1 c.args.e _) c.saturating_sub.ensures c.max.ensures
    c.min.ensures c.saturating_sub-2.ensures c.min-2.ensures (R.span_run _ c.requires.accepted.0 _ _ c.requires.by_index.1) ends
    (R.span_run _ c.requires.accepted.0 _ _ c.span_of-far.ensures)
