-- A call by the line that counts: the first lines, then those that are made of the plan.
use Rattle.std.specs.Prelude.{◌≡◌, ℕ, ltb, List, [], ◌∷◌, ◌++◌, Ok, Err}
use mathlib.Core.Path.{sym, ap, ◌∙◌}
use native.Mathlib.Omega.{arith}
use Rattle.base.specs.Tests.{not}
use Rattle.base.specs.declared.refusal.Refusal.{Refusal}
use Rattle.base.specs.Refusals.{code}
use Rattle.base.specs.Numbers.{Line, line, first_of}
use Rattle.base.proofs.Codes.{code_some}
use Rattle.base.proofs.Numbers.{Numbered, none_behind, first_behind}
use Rattle.machine.specs.Plan.{Plan}
use Rattle.machine.specs.Machine.{Answered, answered}
use Rattle.layout.specs.declared.Layout.{Layout}
use Rattle.layout.specs.Laid.{plan_of_layout}
use Rattle.layout.specs.RouteWords.{route_of}
use Rattle.recipe.specs.Routes.{lines_for}
use Rattle.recipe.proofs.Laws.{numbered_for}
use Rattle.engine.specs.Calls.{answer, recipe}
use Rattle.engine.proofs.Lines.{call_read}
use Rattle.part_calls.specs.front.Calls.{board_lines}
use Rattle.part_calls.specs.front.Given.{OpensFor}

-- ---- past the first lines

both_numbered : (a b : List Line) → Numbered a → Numbered b → Numbered (a ++ b)
both_numbered [] b n m = m
both_numbered (l ∷ a) b n m = (n.0, both_numbered a b n.1 m)

module _ (bytes : List ℕ) (route b : ℕ) where
  numbered_board : Numbered (board_lines bytes route b)
  numbered_board =
      both_numbered (lines_for (route_of route) bytes) (line 11 (not (ltb b (recipe bytes route).processors)) ∷ []) (numbered_for (route_of route) bytes)
      (λ q. omega arith, tt)

  pub behind_board : (more : List Line) → first_of (board_lines bytes route b ++ more) ≡ 0 → first_of more ≡ 0
  behind_board more e = none_behind (board_lines bytes route b) more numbered_board e

module _ (bytes : List ℕ) (route b : ℕ) where
  module _ {A : Type 0} (lines : Plan → List Line) (new : Plan → A) (old : A) where
    -- a call whose lines and words are made of the plan
    abbrev called : Answered A
    called = answered (first_of (board_lines bytes route b ++ lines (recipe bytes route))) (new (recipe bytes route)) old

    pub closed : (r : Refusal) → OpensFor bytes route b (Err r) → answer (code r) old ≡ called
    closed r o =
        call_read (board_lines bytes route b) (numbered_board bytes route b) (lines (recipe bytes route)) (code r) (new (recipe bytes route)) old
        o.number (code_some r)

    pub opened : (l : Layout) → OpensFor bytes route b (Ok l) → (a : Answered A)
        → a ≡ answered (first_of (lines (plan_of_layout l))) (new (plan_of_layout l)) old → a ≡ called
    opened l o a e =
        e
        ∙ ap (λ (n : ℕ). answered n (new (plan_of_layout l)) old)
        (sym (first_behind (board_lines bytes route b) (lines (plan_of_layout l)) (numbered_board bytes route b) (sym o.number)))
        ∙ ap (λ (q : Plan). answered (first_of (board_lines bytes route b ++ lines q)) (new q) old) o.board.plan
