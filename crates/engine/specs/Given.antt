-- For contracts below the calls: no reader needs it.
-- What the code below the calls is given: areas of their lengths, a fit state, a processor.
-- No sentence of document 01.
use Rattle.std.specs.Prelude.{◌≡◌, ℕ, ◌*◌, ◌<◌, true, List, [], ◌∷◌, ◌++◌, length, replicate, ◌==◌, nat_lt, slice_index, slice_set, Result, Ok, Err}
use Rattle.base.specs.declared.refusal.Refusal.{Refusal}
use Rattle.base.specs.Tests.{not, pick}
use Rattle.base.specs.Numbers.{Line, line, first_of}
use Rattle.machine.specs.Plan.{Plan, count, words}
use Rattle.machine.specs.Machine.{State, fit, Answered, answered}
use Rattle.records.specs.declared.Progress.{Progress}
use Rattle.stages.specs.Progress.{set_record}
use Rattle.engine.specs.Calls.{area_lines}

-- each lent area has exactly its length
pub record AreaLengths (p : Plan) (input : List ℕ) (s : State) : Type 0 where
  pub source : length input ≡ p.cells
  pub memories : length s.memories ≡ p.processors * p.cells
  pub buffer : length s.buffer ≡ words p
  pub progress : length s.progress ≡ 3 * p.processors
  pub status : length s.status ≡ count p

-- lines 9, 10 and 11 of a turn are false
pub record MayTurn (p : Plan) (source : List ℕ) (s : State) (b : ℕ) : Type 0 where
  pub areas : AreaLengths p source s
  pub fit : fit p s ≡ true
  pub processor : b < p.processors

-- lines 9 and 10, which a turn, a delivery and collecting share
abbrev pub unfit_lines : Plan → List ℕ → State → List Line
unfit_lines p source s = area_lines p source s ++ (line 10 (not (fit p s)) ∷ [])

-- the marks and the number of a delivery, past the lines before it
abbrev pub handed_over : List ℕ → ℕ → Answered (List ℕ)
handed_over status m =
    answered (first_of (line 11 (not (nat_lt m (length status))) ∷ line 14 (not (slice_index status m == 1)) ∷ [])) (slice_set status m 2) status

-- the records' words after a turn of processor b that gave this answer
abbrev pub records_after : List ℕ → ℕ → Result Progress Refusal → List ℕ
records_after records b (Ok p) = set_record records b p
records_after records b (Err _) = records

-- the records' words after a fresh start that gave this number
unfoldable pub zeros_after : List ℕ → ℕ → List ℕ
zeros_after records number = pick (number == 0) (replicate (length records) 0) records
