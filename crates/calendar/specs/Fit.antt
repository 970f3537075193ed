-- Read this. When a turn's hours are faulty and when its processor is closed, clause by clause, and a timed turn's number by them.
-- Renders request W-212's sentences on numbers 24 and 25. Moment has the tests by which the calls refuse. proofs/ proves of every table, minute and state
-- that a test holds exactly where its clauses do.
use Rattle.std.specs.Prelude.{ℕ, ◌≤◌, ◌<◌, ◌≡◌, ◌⊎◌, ◌≢◌, List, length}
use Rattle.machine.specs.Plan.{Plan, tiles_of}
use Rattle.machine.specs.Machine.{State, finished_of}
use Rattle.machine.specs.Fit.{Fit, Waits, Exactly}
use Rattle.calendar.specs.Windows.{week, opens_at, closes_at, open_at, Moment, faulty_moment, closed, timed_turn}

-- a pair of zeros is no window
abbrev pub NoWindow : ℕ → ℕ → Type 0
NoWindow opens closes = (opens ≡ 0) × (closes ≡ 0)

-- one of processor b's 14 windows covers the minute: open minute included, close minute excluded
pub record OpenAt (calendar : List ℕ) (b minute : ℕ) : Type 0 where
  pub window : ℕ
  pub low : window < 14
  pub is : NoWindow (opens_at calendar b window) (closes_at calendar b window) → ⊥
  pub opened : opens_at calendar b window ≤ minute
  pub not_closed : minute < closes_at calendar b window

-- one of its windows has its close above 10,080, or its open not below its close
pub record FaultyWindow (calendar : List ℕ) (b : ℕ) : Type 0 where
  pub window : ℕ
  pub low : window < 14
  pub is : NoWindow (opens_at calendar b window) (closes_at calendar b window) → ⊥
  pub fault : (week < closes_at calendar b window) ⊎ (closes_at calendar b window ≤ opens_at calendar b window)

-- line 25: a faulty window of any processor, or a faulty minute
pub data FaultyHours (p : Plan) (h : Moment) : Type 0 where
  of_window : (b : ℕ) → b < p.processors → FaultyWindow h.calendar b → FaultyHours p h
  of_minute : week ≤ h.minute → FaultyHours p h

pub record HoursTests (p : Plan) (h : Moment) : Type 0 where
  pub is_open : (b minute : ℕ) → Exactly (open_at h.calendar b minute) (OpenAt h.calendar b minute)
  pub faulty : Exactly (faulty_moment p h) (FaultyHours p h)
  pub is_closed : (b : ℕ) → Exactly (closed h b) (OpenAt h.calendar b h.minute → ⊥)

-- a timed turn's number, in any state: the first of its lines that is true, each by its clauses, or 0
pub data TimedNumber (p : Plan) (h : Moment) (s : State) (b : ℕ) : ℕ → Type 0 where
  unfit : (Fit p s → ⊥) → TimedNumber p h s b 10
  faulty : Fit p s → FaultyHours p h → TimedNumber p h s b 25
  no_such : Fit p s → (FaultyHours p h → ⊥) → p.processors ≤ b → TimedNumber p h s b 11
  shut : Fit p s → (FaultyHours p h → ⊥) → b < p.processors → (OpenAt h.calendar b h.minute → ⊥) → TimedNumber p h s b 24
  waits : Fit p s → (FaultyHours p h → ⊥) → b < p.processors → OpenAt h.calendar b h.minute → Waits p s b → TimedNumber p h s b 12
  over : Fit p s → (FaultyHours p h → ⊥) → b < p.processors → OpenAt h.calendar b h.minute → finished_of s b ≡ length (tiles_of p b)
      → TimedNumber p h s b 13
  done : Fit p s → (FaultyHours p h → ⊥) → b < p.processors → OpenAt h.calendar b h.minute → finished_of s b < length (tiles_of p b)
      → (Waits p s b → ⊥) → TimedNumber p h s b 0

pub record TimedNumbers (p : Plan) (source : List ℕ) (h : Moment) (s : State) : Type 0 where
  pub of_turn : (b : ℕ) → TimedNumber p h s b (timed_turn p source h s b).number
  pub turn_refused : (b : ℕ) → (timed_turn p source h s b).number ≢ 0 → (timed_turn p source h s b).after ≡ s
