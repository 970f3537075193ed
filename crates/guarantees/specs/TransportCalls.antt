-- Read this.
-- The calls for a transport as exported, records as structs: each contract fixes number and lent words; and a message's row is the line that the
-- call for one message tells, then its place. Renders document 01, "Messages" and "Numbers a call gives", for processors that share no memory.
use Rattle.std.specs.Prelude.{ℕ, ◌≡◌, List, [], ◌∷◌, ◌++◌}
use Rattle.base.specs.Tests.{tabulate}
use Rattle.machine.specs.Plan.{Plan, count, offset}
use Rattle.records.specs.declared.Progress.{Progress}
use Rattle.engine.specs.Calls.{answer, recipe}
use Rattle.engine.specs.Demands.{Fixed}
use Rattle.network.specs.Apart.{received}
use Rattle.summary.specs.declared.MessageLine.{MessageLine}
use Rattle.summary.specs.Summary.{line_of}
use Rattle.transport.specs.declared.Waiting.{Waiting}
use Rattle.transport.specs.Calls.{row_of, rows_to, messages_lines, owner_of, owners_lines, waits_of, waited, awaited_lines, take_in_lines}
use Rattle.calls.specs.Gave.{Areas, in_words, asked_with, MessagesGave, OwnersGave, AwaitedGave, TakeInGave}
use Rattle.guarantees.specs.OverRecords.{FixedAreas}

-- the first true line counts, and a refusal leaves every lent word, and the very records, as they were
pub record FixedTransport (bytes : List ℕ) (route : ℕ) (source : List ℕ) : Type 0 where
  pub messages : (old out : List ℕ) (n : ℕ) → MessagesGave bytes route old n out
      → Fixed (answer n out) (messages_lines bytes route old) (rows_to (recipe bytes route) (count (recipe bytes route))) old
  pub owners : (old out : List ℕ) (n : ℕ) → OwnersGave bytes old n out
      → Fixed (answer n out) (owners_lines bytes old) (tabulate (owner_of (recipe bytes 0)) (recipe bytes 0).cells) old
  -- a refusal tells 0 for the tile
  pub awaited : (records : List Progress) (status : List ℕ) (p : ℕ) (old marks : List ℕ) (w : Waiting)
      → AwaitedGave bytes route records status p old w marks
      → Fixed (answer w.number (waits_of marks w.tile)) (awaited_lines bytes route (asked_with records status) p old)
      (waited (recipe bytes route) (asked_with records status) p) (waits_of old 0)
  pub take_in : (a b : Areas) (p m : ℕ) (words : List ℕ) (n : ℕ) → TakeInGave bytes route source a p m words n b
      → FixedAreas (take_in_lines bytes route source (in_words a) p m words) (received (recipe bytes route) (in_words a) m words) a n b

abbrev pub line_words : MessageLine → List ℕ
line_words l = l.sender ∷ l.taker ∷ l.from ∷ l.to ∷ l.words ∷ []

abbrev pub RowsAreLines : Type 0
RowsAreLines = (p : Plan) (m : ℕ) → row_of p m ≡ line_words (line_of p m) ++ (offset p.messages m ∷ [])
