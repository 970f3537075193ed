-- For contracts below the calls: no reader needs it.
-- A state of which only the processors' records are looked at.
-- No sentence of document 01.
use Rattle.std.specs.Prelude.{ℕ, List, []}
use Rattle.machine.specs.Machine.{State, state_of, set_progress}
use Rattle.records.specs.declared.Progress.{Progress}

abbrev pub progress_only : List ℕ → State
progress_only progress = state_of [] [] progress []

-- the words of records, those of record b replaced
abbrev pub set_record : List ℕ → ℕ → Progress → List ℕ
set_record l b r = set_progress l b r.finished r.stage r.sent
