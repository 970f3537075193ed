-- `parcels::shaped::runs_of` meets its contract: the runs of the first e distances.
use mathlib.Core.Path.{refl}
use mathlib.Core.Logic.{inl, inr}
use native.Mathlib.Omega.{arith}
use Rattle.parcels.specs.Windows.{window_of}
use Rattle.parcels.proofs.shaped.Runs as R
use Rattle.parcels.proofs.shaped.runs_of.Goals as goal
use Rattle.parcels.proofs.shaped.runs_of.Goals.{then-run, else-run}

pub loop-e-init : goal.loop-e-init
loop-e-init c = (omega arith, R.gathered_none _ _ _ _ _ (omega arith) (omega arith))

pub end_in_row-limit-requires : goal.end_in_row-limit-requires
end_in_row-limit-requires c = record { accepted = (c.requires.accepted.0, (c.loop-e-test.true, c.requires.accepted.1.0)); dimensions_value = (c.requires.accepted.1.1.0, c.requires.by_index.0) }

pub reach_of-run-requires : goal.reach_of-run-requires
reach_of-run-requires c = record { accepted = (c.requires.accepted.0, (c.loop-e-test.true, c.requires.accepted.1.0)); by_index = c.requires.by_index }

pub loop-e-preserved : goal.loop-e-preserved
loop-e-preserved c =
    let loop-test = c.loop-e-test in (
      omega (arith, loop-test.true),
      R.gathered_turn _ _ _ _ _ _ _ _ _ c.loop-e.invariant.1
          (c.reach_of-run.ensures (window_of c.args.window) c.requires.accepted.1.1.1 c.end_in_row-limit.ensures) _ _ _
          (omega (arith, loop-test.true, c.requires.accepted.0.distances_most)) (elim c.if-run.branch [ then-run w ↦ inl (w.if-run.true, w.starts-is, w.ends-is, w.runs-is) | else-run w ↦ inr (w.if-run.false, w.starts-is, w.ends-is, w.runs-is) ]),
    )

pub returns : goal.returns
returns c =
    let loop = c.loop-e in
    (refl, R.gathered_end _ c.requires.accepted.0 _ _ _ _ _ _ loop.invariant.1 loop.invariant.0 c.loop-e-test.false)
