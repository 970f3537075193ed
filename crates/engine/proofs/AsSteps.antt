-- Where a recipe is accepted and the areas have their lengths, each call is the machine's step; a fresh start that gave 0 says that it is so.
use Rattle.std.specs.Prelude.{◌≡◌, ℕ, Bool, true, eqb, List, [], ◌∷◌, ◌++◌, length, set}
use mathlib.Core.Path.{ap, ◌∙◌}
use native.Mathlib.Omega.{arith}
use borrow.Author.Tests.{eq-eqb}
use Rattle.base.specs.Tests.{not}
use Rattle.base.specs.Numbers.{Line, line, first_of}
use Rattle.base.proofs.Tests.{not-true, true_not}
use Rattle.base.proofs.Numbers.{first_false, none_first, first_behind, none_front, none_behind}
use Rattle.machine.specs.Plan.{Plan}
use Rattle.machine.specs.Machine.{State, state_of, answered, carry_out, next_action, turn_lines, turn, deliver_lines, deliver, collect_lines, collected, collect}
use Rattle.layout.specs.RouteWords.{route_of}
use Rattle.recipe.specs.Routes.{lines_for}
use Rattle.recipe.proofs.Laws.{numbered_for}
use Rattle.engine.specs.Calls.{recipe, areas, area_lines, fresh_call, turn_call, deliver_call, collect_call}
use Rattle.engine.proofs.Lines.{and_right}

module _ (l : List ℕ) (route : ℕ) where
  abbrev p : Plan
  p = recipe l route

  module _ (source : List ℕ) (s : State) (z : first_of (lines_for (route_of route) l) ≡ 0) (a : areas p source s ≡ true) where
    behind : (more : List Line) → first_of (lines_for (route_of route) l ++ (area_lines p source s ++ more)) ≡ first_of more
    behind more =
        first_behind (lines_for (route_of route) l) (area_lines p source s ++ more) (numbered_for (route_of route) l) z
        ∙ first_false 9 (not (areas p source s)) more (not-true a)

    pub turn_is : (b : ℕ) → turn_call l route source s b ≡ turn p source s b
    unfolding turn_call turn
    turn_is b = ap (λ (n : ℕ). answered n (carry_out p source s b (next_action p s b)) s) (behind (turn_lines p s b))

    pub deliver_is : (m : ℕ) → deliver_call l route source s m ≡ deliver p s m
    unfolding deliver_call deliver
    deliver_is m =
        ap (λ (n : ℕ). answered n (state_of s.memories s.buffer s.progress (set s.status m 2)) s) (behind (deliver_lines p s m))

    pub collect_is : (grid : List ℕ) → length grid ≡ p.cells → collect_call l route source s grid ≡ collect p s grid
    unfolding collect_call collect
    collect_is grid h =
        ap (λ (t : Bool). answered (first_of (lines_for (route_of route) l ++ (line 9 (not t) ∷ collect_lines p s))) (collected p s) grid)
        (and_right (areas p source s) (eqb (length grid) p.cells) (eq-eqb _ _ h))
        ∙ ap (λ (n : ℕ). answered n (collected p s) grid) (behind (collect_lines p s))

-- a fresh start that gave 0
pub fresh_gave : (l : List ℕ) (route : ℕ) (source : List ℕ) (s : State) → (fresh_call l route source s).number ≡ 0
    → (first_of (lines_for (route_of route) l) ≡ 0) × (areas (recipe l route) source s ≡ true)
unfolding fresh_call
fresh_gave l route source s e = (
  none_front (lines_for (route_of route) l) (area_lines (recipe l route) source s) e,
  true_not (none_first 9 (not (areas (recipe l route) source s)) [] (λ q. omega arith)
      (none_behind (lines_for (route_of route) l) (area_lines (recipe l route) source s) (numbered_for (route_of route) l) e)).0,
)
