-- `layout::steps_of` meets its contract: those of the first w ways.
use Rattle.nest.specs.Places.{tile_at}
use Rattle.plan.specs.Messages.{ways}
use Rattle.layout.specs.Sizes.{along}
use Rattle.layout.proofs.Loops.{Filled}
use Rattle.layout.proofs.Layout.steps_of.Given as goal

abbrev pub invariant-loop-w : goal.invariant-loop-w
invariant-loop-w l = Filled 8 (λ v. tile_at l.self.nest (along l.self.sizes.route l.self.nest v)) (ways l.self.sizes.route l.self.nest) l.steps l.w
