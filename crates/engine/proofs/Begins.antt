-- A run can begin: areas of their lengths pass line 9, and no line before it is true.
use Rattle.std.specs.Prelude.{◌≡◌, ℕ, Bool, true, List, [], ◌∷◌, ◌++◌}
use mathlib.Core.Path.{◌∙◌}
use borrow.Author.Tests.{eq-eqb}
use Rattle.base.specs.Tests.{not}
use Rattle.base.specs.Numbers.{Line, line, first_of}
use Rattle.base.proofs.Tests.{and_true, not-true}
use Rattle.base.proofs.Numbers.{Numbered, first_behind, first_false}
use Rattle.machine.specs.Plan.{Plan}
use Rattle.machine.specs.Machine.{State}
use Rattle.layout.specs.RouteWords.{route_of}
use Rattle.recipe.specs.Routes.{lines_for}
use Rattle.recipe.proofs.Laws.{numbered_for}
use Rattle.engine.specs.Calls.{recipe, areas, fresh_call}
use Rattle.engine.specs.Demands.{LentWords}

pub areas_fit : (p : Plan) (source : List ℕ) (s : State) → LentWords p source s → areas p source s ≡ true
unfolding areas
areas_fit p source s l =
    and_true (eq-eqb _ _ l.source_long) (and_true (eq-eqb _ _ l.memories) (and_true (eq-eqb _ _ l.buffer)
    (and_true (eq-eqb _ _ l.progress) (eq-eqb _ _ l.status))))

-- no line before 9, and 9 is none
pub none_true : (front : List Line) → Numbered front → first_of front ≡ 0 → (t : Bool) → t ≡ true → first_of (front ++ (line 9 (not t) ∷ [])) ≡ 0
unfolding first_of
none_true front named z t e = first_behind front (line 9 (not t) ∷ []) named z ∙ first_false 9 (not t) [] (not-true e)

pub begins : (bytes : List ℕ) (route : ℕ) (source : List ℕ) (s : State) → first_of (lines_for (route_of route) bytes) ≡ 0
    → LentWords (recipe bytes route) source s → (fresh_call bytes route source s).number ≡ 0
unfolding fresh_call
begins bytes route source s z l =
    none_true (lines_for (route_of route) bytes) (numbered_for (route_of route) bytes) z (areas (recipe bytes route) source s)
    (areas_fit (recipe bytes route) source s l)
