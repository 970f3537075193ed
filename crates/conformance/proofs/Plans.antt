-- Laws of the plan of a nest on either route: a message holds a cell, and a cell is due at a tile at most once.
use Prim.Native.Nat.{ℕ, ◌<◌}
use mathlib.Core.Path.{◌≡◌}
use lib.ListN.{length}
use Rattle.base.specs.Lists.{In}
use Rattle.machine.specs.Plan.{count, held_by, dues_of}
use Rattle.nest.specs.declared.Nest.{Nest}
use Rattle.nest.specs.Accepted.{Accepted}
use Rattle.plan.specs.declared.Route.{Route}
use Rattle.plan.specs.declared.Route.TheVariants.{Direct, Indirect}
use Rattle.plan.specs.Shaped.{plan_of}
use Rattle.plan.proofs.Slots.{in_full}
use Rattle.conformance.proofs.Carried as box
use Rattle.plan.proofs.ShapedSlots.{shaped_held}
use Rattle.conformance.proofs.ShapedExact as shaped

module _ (x : Nest) (ok : Accepted x) where
  pub some_held : (r : Route) (m : ℕ) → m < count (plan_of r x) → (c : ℕ) × In c (held_by (plan_of r x) m)
  some_held Direct m h = shaped_held x m h
  some_held Indirect m h = box.some_held x ok Indirect m h

  pub not_empty : (r : Route) (m : ℕ) → m < count (plan_of r x) → 0 < length (held_by (plan_of r x) m)
  not_empty r m h = let k = some_held r m h in in_full k.0 (held_by (plan_of r x) m) k.1

  pub once : (r : Route) (t m n c : ℕ) → In m (dues_of (plan_of r x) t) → In n (dues_of (plan_of r x) t) → In c (held_by (plan_of r x) m)
      → In c (held_by (plan_of r x) n) → m ≡ n
  once Direct t m n c i k p q = shaped.once x ok t m n c i k p q
  once Indirect t m n c i k p q = box.once x ok Indirect t m n c i k p q
