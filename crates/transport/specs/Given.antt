-- For contracts below the calls: no reader needs it.
-- What the code below the calls is given and gives: the nest's table, areas of their lengths, answers past the first lines.
-- No sentence of document 01.
use Rattle.std.specs.Prelude.{◌≡◌, ℕ, ◌*◌, ◌<◌, List, [], ◌∷◌, length, ◌==◌, nat_eq, slice_index, Result, Ok, Err}
use Rattle.base.specs.Tests.{◌and◌, not, one, tabulate}
use Rattle.base.specs.Numbers.{Line, line, first_of}
use Rattle.base.specs.Refusals.{code}
use Rattle.base.specs.declared.refusal.Refusal.{Refusal}
use Rattle.machine.specs.Plan.{Plan, count, taker_of}
use Rattle.machine.specs.Machine.{State, tiles_left, fit, Answered, answered}
use Rattle.engine.specs.Calls.{answer}
use Rattle.transport.specs.Calls.{Waits, waits_of, wait_areas, waited}

-- the marks of the messages due at tile t that are not delivered
abbrev pub undelivered : Plan → List ℕ → ℕ → List ℕ
undelivered p status t = tabulate (λ m. one (nat_eq (taker_of p m) t and not (slice_index status m == 2))) (count p)

-- the areas of one who asks what processor b waits for
pub record MayAsk (p : Plan) (s : State) (b : ℕ) (marks : List ℕ) : Type 0 where
  pub progress : length s.progress ≡ 3 * p.processors
  pub status : length s.status ≡ count p
  pub long : length marks ≡ count p
  pub processor : b < p.processors

-- lines 9 and 10 of asking
abbrev pub unasked_lines : Plan → State → List ℕ → List Line
unasked_lines p s marks = line 9 (not (wait_areas p s marks)) ∷ line 10 (not (fit p s)) ∷ []

-- past the lines before it: 13, or what is waited for
abbrev pub waited_or13 : Plan → State → ℕ → List ℕ → Answered Waits
waited_or13 p s b marks = answered (first_of (line 13 (not (tiles_left p s b)) ∷ [])) (waited p s b) (waits_of marks 0)

-- what is told of a processor, by its tile and the marks, or that it is refused
abbrev pub told : Result ℕ Refusal → List ℕ → Answered Waits
told (Ok tile) marks = answer 0 (waits_of marks tile)
told (Err r) marks = answer (code r) (waits_of marks 0)
