-- For contracts below the calls: no reader needs it.
-- What the code below the calls with hours is given: lines 25, 11 and 24, which both turns share, and each turn's lines up to the machine's.
-- No sentence of a paper.
use Rattle.std.specs.Prelude.{ℕ, List, [], ◌∷◌, ◌++◌, nat_le, nat_lt, Result, Ok, Err, Option, Some}
use Rattle.base.specs.declared.refusal.Refusal.{Refusal}
use Rattle.base.specs.Tests.{◌and◌, not}
use Rattle.base.specs.Numbers.{Line, line}
use Rattle.machine.specs.Plan.{Plan}
use Rattle.machine.specs.Machine.{State, fit}
use Rattle.tenants.specs.Tenants.{TenantAreas, fit_for, held_by_other}
use Rattle.calendar.specs.Windows.{Moment, faulty_for, closed}
use Rattle.engine.specs.Calls.{areas}
use Rattle.sharing.specs.Calls.{areas_for}
use Rattle.calendar_calls.specs.Calls.{table_long}

-- for n processors
abbrev pub hour_lines : ℕ → Moment → ℕ → List Line
hour_lines n h b = line 25 (faulty_for n h) ∷ line 11 (not (nat_lt b n)) ∷ line 24 (closed h b) ∷ []

abbrev pub away_lines : Plan → List ℕ → Moment → State → ℕ → List Line
away_lines p source h s b =
    line 9 (not (areas p source s and table_long p h)) ∷ line 10 (not (fit p s)) ∷ hour_lines p.processors h b

-- of one of two tenants: the other holds the processor
abbrev pub away_lines_for : Plan → List ℕ → ℕ → Moment → TenantAreas → List ℕ → ℕ → List Line
away_lines_for p source o h l theirs b =
    line 9 (not (areas_for p source l theirs and table_long p h)) ∷ line 11 (not (nat_le o 1)) ∷ line 10 (not (fit_for p o l theirs))
    ∷ (hour_lines p.processors h b ++ (line 19 (held_by_other p o l b) ∷ []))

-- what an answer to the question tells: at a refusal 0 minutes
abbrev pub told : Result (Option ℕ) Refusal → Option ℕ
told (Ok opening) = opening
told (Err _) = Some 0
