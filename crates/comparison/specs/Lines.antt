-- Read this.
-- The second program's lines: for each source and order whether run and sweep agree; or `beyond`, or the refusal.
-- Renders document 01, "Recipes to be met": what the second program prints; each word is spelled by its bytes.
use Rattle.std.specs.Prelude.{ℕ, zero, suc, ◌*◌, ◌≤◌, ◌≡◌, Bool, true, false, List, [], ◌∷◌, ◌++◌, length, replicate, ltb}
use Rattle.base.specs.Lists.{Bytes}
use Rattle.base.specs.Tests.{pick}
use Rattle.base.specs.Numbers.{first_of}
use Rattle.machine.specs.Plan.{Plan, count, words}
use Rattle.machine.specs.Machine.{State, state_of}
use Rattle.machine.specs.Runs.{total}
use Rattle.nest.specs.Reader.{read_lines}
use Rattle.engine.specs.Calls.{recipe}
use Rattle.comparison.specs.declared.drive.Order.{Order}
use Rattle.plan_text.specs.PlanText.{refused_text}
use Rattle.comparison.specs.Agreement.{is_beyond, source_of, ran_and_compared}

-- "agree", "differ" and "beyond", a line feed behind each
abbrev pub agree_line : List ℕ
agree_line = 97 ∷ 103 ∷ 114 ∷ 101 ∷ 101 ∷ 10 ∷ []

abbrev pub differ_line : List ℕ
differ_line = 100 ∷ 105 ∷ 102 ∷ 102 ∷ 101 ∷ 114 ∷ 10 ∷ []

abbrev pub beyond_line : List ℕ
beyond_line = 98 ∷ 101 ∷ 121 ∷ 111 ∷ 110 ∷ 100 ∷ 10 ∷ []

unfoldable pub verdict_line : Bool → List ℕ
verdict_line agree = pick agree agree_line differ_line

-- areas of zeros, as long as the plan has them
abbrev pub zeros : ℕ → List ℕ
zeros n = replicate n 0

abbrev pub blank : Plan → State
blank p = state_of (zeros (p.cells * p.processors)) (zeros (words p)) (zeros (3 * p.processors)) (zeros (count p))

abbrev pub turn_order : Plan → Bool → Order
turn_order p falling = record { processors = p.processors; messages = count p; falling = falling }

-- one source and one order: the run driven to its end, collected, and the sweep, compared
unfoldable pub plan_agrees : List ℕ → Plan → Bool → Bool → Bool
plan_agrees bytes p counting falling =
    (ran_and_compared bytes (source_of counting p.cells) (turn_order p falling) (total p) (blank p) (zeros p.cells) (zeros p.cells)).agree

abbrev pub agrees_for : List ℕ → Bool → Bool → Bool
agrees_for bytes counting falling = plan_agrees bytes (recipe bytes 0) counting falling

-- the first source's two lines before the second's, rising before falling
unfoldable pub four_lines : List ℕ → List ℕ
four_lines bytes =
    verdict_line (agrees_for bytes false false)
    ++ (verdict_line (agrees_for bytes false true)
    ++ (verdict_line (agrees_for bytes true false)
    ++ verdict_line (agrees_for bytes true true)))

unfoldable pub compared_if : ℕ → List ℕ → List ℕ
compared_if zero bytes = pick (is_beyond (recipe bytes 0).cells (recipe bytes 0).processors) beyond_line (four_lines bytes)
compared_if (suc n) bytes = refused_text (suc n)

-- more than 512 bytes are refused as ragged
unfoldable pub comparison_text : List ℕ → List ℕ
comparison_text bytes = pick (ltb 512 (length bytes)) (refused_text 1) (compared_if (first_of (read_lines bytes)) bytes)

-- no recipe within the limits differs: its text is `agree` four times
pub record NeverDiffers : Type 0 where
  pub lines : (bytes : List ℕ) → Bytes bytes → length bytes ≤ 512 → first_of (read_lines bytes) ≡ 0
      → is_beyond (recipe bytes 0).cells (recipe bytes 0).processors ≡ false
      → comparison_text bytes ≡ agree_line ++ (agree_line ++ (agree_line ++ agree_line))
