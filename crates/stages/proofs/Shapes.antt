-- Without bounds the plan of a nest is the box's, with bounds the shape's: what is calculated and collected by either
-- is what the plan asks for.
use Prim.Native.Nat.{ℕ, ◌<◌}
use mathlib.Core.Path.{◌≡◌, sym, ap, ◌∙◌}
use mathlib.Core.List.{List}
use native.Mathlib.Omega.{arith}
use Rattle.base.specs.Lists.{store_all}
use Rattle.machine.specs.Plan.{Plan}
use Rattle.machine.specs.Machine.{State, collected}
use Rattle.nest.specs.declared.Nest.{Nest}
use Rattle.nest.specs.Accepted.{Accepted}
use Rattle.nest.specs.Nest.{box_tiles}
use Rattle.nest.specs.Shape.{tiles}
use Rattle.plan.specs.declared.Route.{Route}
use Rattle.plan.specs.declared.Route.TheVariants.{Direct}
use Rattle.plan.specs.Geometry.{cells_of, value}
use Rattle.plan.specs.Messages.{box_plan}
use Rattle.plan.specs.Shaped.{box_tile, shaped_cells, shaped_value, plan_of}
use Rattle.plan.proofs.ShapedBox.{plan_of_box}

module _ (x : Nest) (r : Route) where
  module _ (ok : Accepted x) (e : x.bounds ≡ 0) where
    is : box_plan r x ≡ plan_of r x
    is = sym (plan_of_box r x ok e)

    pub box_low : (t : ℕ) → t < (plan_of r x).tiles → t < box_tiles x
    box_low t h = let z = ap (λ (q : Plan). q.tiles) is in omega arith

    pub box_stored : (source memory new : List ℕ) (t : ℕ) → new ≡ store_all (value x source) memory (cells_of x t)
        → new ≡ store_all ((plan_of r x).value source) memory ((plan_of r x).cells_of t)
    box_stored source memory new t h = h ∙ ap (λ (q : Plan). store_all (q.value source) memory (q.cells_of t)) is

    pub box_collected : (s : State) (new : List ℕ) → new ≡ collected (box_plan r x) s → new ≡ collected (plan_of r x) s
    box_collected s new h = h ∙ ap (λ (q : Plan). collected q s) is

  module _ (d : r ≡ Direct) where
    pub shape_low : (t : ℕ) → t < (plan_of r x).tiles → t < tiles x
    shape_low t h = rw d at h

    -- the code has the tile's number in the box as u
    pub shape_stored : (source memory new : List ℕ) (t u : ℕ) → u ≡ box_tile x t → new ≡ store_all (shaped_value x source) memory (shaped_cells x u)
        → new ≡ store_all ((plan_of r x).value source) memory ((plan_of r x).cells_of t)
    shape_stored source memory new t u b h = rw d (h ∙ ap (λ (i : ℕ). store_all (shaped_value x source) memory (shaped_cells x i)) b)

    pub shape_collected : (s : State) (new : List ℕ) → new ≡ collected (plan_of Direct x) s → new ≡ collected (plan_of r x) s
    shape_collected s new h = rw d h
