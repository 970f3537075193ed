-- Read this.
-- The calls with hours, each from the recipe's bytes, the word that names its route and what is lent: its number, and what is written.
-- Renders request W-212, and W-209's line 21, all lines in table order: line 9 covers the table of hours too, 28 words a processor; then the machine's lines.
use Rattle.std.specs.Prelude.{ℕ, Bool, List, [], ◌∷◌, ◌++◌, length, ◌==◌, nat_lt, None, Option, Some}
use Rattle.base.specs.Tests.{◌and◌, not}
use Rattle.base.specs.Numbers.{Line, line, first_of}
use Rattle.machine.specs.Plan.{Plan}
use Rattle.machine.specs.Machine.{State, Answered, answered, carry_out, next_action}
use Rattle.tenants.specs.Tenants.{TenantAreas, carry_out_for, Sharing, Sources, source_for, other_of, lent_to, put_back}
use Rattle.calendar.specs.Windows.{table_words, Moment, faulty_moment, turn_lines_at, turn_lines_at_for, until_open, Timed, turn_at, mail_of, TimedCall}
use Rattle.nest.specs.Reader.{read_lines}
use Rattle.layout.specs.RouteWords.{route_of}
use Rattle.recipe.specs.Routes.{lines_for}
use Rattle.engine.specs.Calls.{recipe, areas, deliver_call}
use Rattle.sharing.specs.Calls.{areas_for, deliver_call_for}

-- the table lent has exactly its length
abbrev pub table_long : Plan → Moment → Bool
table_long p h = length h.calendar == table_words p

-- ---- one tenant's turn

abbrev pub turn_call_lines_at : List ℕ → ℕ → List ℕ → Moment → State → ℕ → List Line
turn_call_lines_at bytes route source h s b =
    lines_for (route_of route) bytes
    ++ (line 9 (not (areas (recipe bytes route) source s and table_long (recipe bytes route) h))
    ∷ turn_lines_at (recipe bytes route) h s b)

unfoldable pub turn_call_at : List ℕ → ℕ → List ℕ → Moment → State → ℕ → Answered State
turn_call_at bytes route source h s b =
    answered (first_of (turn_call_lines_at bytes route source h s b))
    (carry_out (recipe bytes route) source s b (next_action (recipe bytes route) s b)) s

-- ---- the turn of one of two tenants

abbrev pub turn_call_lines_at_for : List ℕ → ℕ → List ℕ → ℕ → Moment → TenantAreas → List ℕ → ℕ → List Line
turn_call_lines_at_for bytes route source o h l theirs b =
    lines_for (route_of route) bytes
    ++ (line 9 (not (areas_for (recipe bytes route) source l theirs and table_long (recipe bytes route) h))
    ∷ turn_lines_at_for (recipe bytes route) o h l theirs b)

unfoldable pub turn_call_at_for : List ℕ → ℕ → List ℕ → ℕ → Moment → TenantAreas → List ℕ → ℕ → Answered TenantAreas
turn_call_at_for bytes route source o h l theirs b =
    answered (first_of (turn_call_lines_at_for bytes route source o h l theirs b))
    (carry_out_for (recipe bytes route) source o l b (next_action (recipe bytes route) l.own b)) l

-- ---- minutes until a processor next opens: lent the table alone, the same on every route

abbrev pub opens_lines : List ℕ → Moment → ℕ → List Line
opens_lines bytes h b =
    read_lines bytes
    ++ (line 9 (not (table_long (recipe bytes 0) h)) ∷ line 25 (faulty_moment (recipe bytes 0) h)
    ∷ line 11 (not (nat_lt b (recipe bytes 0).processors)) ∷ [])

-- at a refusal it tells 0 minutes
unfoldable pub opens_call : List ℕ → Moment → ℕ → Answered (Option ℕ)
opens_call bytes h b = answered (first_of (opens_lines bytes h b)) (until_open h.calendar h.minute b) (Some 0)

-- an opening as two words: 1 and the minutes where it opens, 0 and 0 where it never does
unfoldable pub opening_words : Option ℕ → List ℕ
opening_words (Some n) = 1 ∷ n ∷ []
opening_words None = 0 ∷ 0 ∷ []

-- ---- the calls of a run: turns with their hours, mail at any hour

unfoldable pub calls_at : List ℕ → ℕ → List ℕ → State → Timed → Answered State
calls_at bytes route source s (turn_at h b) = turn_call_at bytes route source h s b
calls_at bytes route source s (mail_of m) = deliver_call bytes route source s m

unfoldable pub call_at_for : List ℕ → ℕ → List ℕ → ℕ → TenantAreas → List ℕ → Timed → Answered TenantAreas
call_at_for bytes route source o l theirs (turn_at h b) = turn_call_at_for bytes route source o h l theirs b
call_at_for bytes route source o l theirs (mail_of m) = deliver_call_for bytes route source o l theirs m

-- each lent what it names of the sharing
unfoldable pub sharing_calls_at : List ℕ → ℕ → Sources → Sharing → TimedCall → Answered Sharing
sharing_calls_at bytes route sources r c =
    put_back r c.tenant
    (call_at_for bytes route (source_for sources c.tenant) c.tenant (lent_to r c.tenant) (other_of r c.tenant).progress c.event)
