-- Read this.
-- Moment when processors may run: the lent table, open and faulty, a turn at its minute, minutes until a processor next opens.
-- Renders request W-212 over the machine of document 01, for one tenant and, with W-208, for two.
use Rattle.std.specs.Prelude.{ℕ, zero, suc, ◌+◌, ◌*◌, ◌%◌, Bool, List, [], ◌∷◌, get_or, ltb, leb, eqb, None, Option, Some}
use Rattle.base.specs.Tests.{◌and◌, ◌or◌, not, pick, some}
use Rattle.base.specs.Numbers.{Line, line, first_of}
use Rattle.machine.specs.Plan.{Plan}
use Rattle.machine.specs.Machine.{State, fit, tiles_left, waiting, carry_out, next_action, Answered, answered, deliver}
use Rattle.machine.specs.Runs.{Event, turn_of, delivery_of}
use Rattle.tenants.specs.Tenants.{TenantAreas, fit_for, held_by_other, carry_out_for, deliver_for, Sharing, Sources, source_for, other_of, lent_to, Call, put_back}

-- ---- the table

-- a minute of the week is below 10,080
abbrev pub week : ℕ
week = 10080

-- processor after processor, 14 pairs of words: open and close
abbrev pub table_words : Plan → ℕ
table_words p = 28 * p.processors

abbrev pub opens_at : List ℕ → ℕ → ℕ → ℕ
opens_at calendar b w = get_or calendar (28 * b + 2 * w) 0

abbrev pub closes_at : List ℕ → ℕ → ℕ → ℕ
closes_at calendar b w = get_or calendar (28 * b + 2 * w + 1) 0

-- a pair of zeros is no window
unfoldable pub is_window : ℕ → ℕ → Bool
is_window opens closes = not (eqb opens 0 and eqb closes 0)

-- faulty: close above 10,080, or open not below close
unfoldable pub is_faulty : ℕ → ℕ → Bool
is_faulty opens closes = is_window opens closes and (ltb week closes or not (ltb opens closes))

-- open minute included, close minute excluded
unfoldable pub covers : ℕ → ℕ → ℕ → Bool
covers opens closes minute = is_window opens closes and (leb opens minute and ltb minute closes)

-- window w of processor b
abbrev pub faulty_pair : List ℕ → ℕ → ℕ → Bool
faulty_pair calendar b w = is_faulty (opens_at calendar b w) (closes_at calendar b w)

abbrev pub in_window : List ℕ → ℕ → ℕ → ℕ → Bool
in_window calendar b minute w = covers (opens_at calendar b w) (closes_at calendar b w) minute

-- a faulty window of the processor; of any of n processors
unfoldable pub faulty_board : List ℕ → ℕ → Bool
faulty_board calendar b = some (faulty_pair calendar b) 14

unfoldable pub faulty_table : ℕ → List ℕ → Bool
faulty_table n calendar = some (faulty_board calendar) n

abbrev pub faulty_window : Plan → List ℕ → Bool
faulty_window p calendar = faulty_table p.processors calendar

unfoldable pub faulty_minute : ℕ → Bool
faulty_minute minute = not (ltb minute week)

unfoldable pub open_at : List ℕ → ℕ → ℕ → Bool
open_at calendar b minute = some (in_window calendar b minute) 14

-- ---- a turn at its minute

-- the table that a turn is lent, and the minute that it carries
pub record Moment : Type 0 where
  pub calendar : List ℕ
  pub minute : ℕ

abbrev pub moment_of : List ℕ → ℕ → Moment
moment_of calendar minute = record { calendar = calendar; minute = minute }

-- a faulty window of any of n processors, or a faulty minute
unfoldable pub faulty_for : ℕ → Moment → Bool
faulty_for n h = faulty_table n h.calendar or faulty_minute h.minute

abbrev pub faulty_moment : Plan → Moment → Bool
faulty_moment p h = faulty_for p.processors h

unfoldable pub closed : Moment → ℕ → Bool
closed h b = not (open_at h.calendar b h.minute)

abbrev pub turn_lines_at : Plan → Moment → State → ℕ → List Line
turn_lines_at p h s b =
    line 10 (not (fit p s)) ∷ line 25 (faulty_moment p h) ∷ line 11 (not (ltb b p.processors)) ∷ line 24 (closed h b)
    ∷ line 12 (waiting p s b) ∷ line 13 (not (tiles_left p s b)) ∷ []

unfoldable pub timed_turn : Plan → List ℕ → Moment → State → ℕ → Answered State
timed_turn p source h s b = answered (first_of (turn_lines_at p h s b)) (carry_out p source s b (next_action p s b)) s

-- ---- a turn of one of two tenants at its minute

abbrev pub turn_lines_at_for : Plan → ℕ → Moment → TenantAreas → List ℕ → ℕ → List Line
turn_lines_at_for p o h l theirs b =
    line 11 (not (leb o 1)) ∷ line 10 (not (fit_for p o l theirs)) ∷ line 25 (faulty_moment p h) ∷ line 11 (not (ltb b p.processors))
    ∷ line 24 (closed h b) ∷ line 19 (held_by_other p o l b) ∷ line 12 (waiting p l.own b) ∷ line 13 (not (tiles_left p l.own b)) ∷ []

unfoldable pub timed_turn_for : Plan → List ℕ → ℕ → Moment → TenantAreas → List ℕ → ℕ → Answered TenantAreas
timed_turn_for p source o h l theirs b =
    answered (first_of (turn_lines_at_for p o h l theirs b)) (carry_out_for p source o l b (next_action p l.own b)) l

-- ---- events

-- a turn of a processor with its hours, or the delivery of a message, at any hour; numbers of any size
pub data Timed : Type 0 where
  turn_at : Moment → ℕ → Timed
  mail_of : ℕ → Timed

-- the event without its hours: two turns of one processor are the same event at any minutes
unfoldable pub event_of : Timed → Event
event_of (turn_at h b) = turn_of b
event_of (mail_of m) = delivery_of m

unfoldable pub act_at : Plan → List ℕ → State → Timed → Answered State
act_at p source s (turn_at h b) = timed_turn p source h s b
act_at p source s (mail_of m) = deliver p s m

-- a turn or delivery of a tenant
pub record TimedCall : Type 0 where
  pub tenant : ℕ
  pub event : Timed

unfoldable pub call_of : TimedCall → Call
call_of c = record { tenant = c.tenant; event = event_of c.event }

unfoldable pub act_at_for : Plan → List ℕ → ℕ → TenantAreas → List ℕ → Timed → Answered TenantAreas
act_at_for p source o l theirs (turn_at h b) = timed_turn_for p source o h l theirs b
act_at_for p source o l theirs (mail_of m) = deliver_for p o l theirs m

unfoldable pub act_at_on : Plan → Sources → Sharing → TimedCall → Answered Sharing
act_at_on p sources r c =
    put_back r c.tenant (act_at_for p (source_for sources c.tenant) c.tenant (lent_to r c.tenant) (other_of r c.tenant).progress c.event)

-- ---- minutes until a processor next opens

-- the first of the k offsets from n on at which f holds
unfoldable pub first_from : (ℕ → Bool) → ℕ → ℕ → Option ℕ
first_from f n zero = None
first_from f n (suc k) = pick (f n) (Some n) (first_from f (suc n) k)

-- over one week from this minute on; past its end the same table holds
unfoldable pub until_open : List ℕ → ℕ → ℕ → Option ℕ
until_open calendar minute b = first_from (λ n. open_at calendar b ((minute + n) % week)) 0 week

-- the call: at a refusal it tells 0
unfoldable pub ask_opening : Plan → Moment → ℕ → Answered (Option ℕ)
ask_opening p h b = answered (first_of (line 25 (faulty_moment p h) ∷ line 11 (not (ltb b p.processors)) ∷ [])) (until_open h.calendar h.minute b)
    (Some 0)
