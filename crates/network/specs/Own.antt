-- Read this.
-- One processor's own part, lent alone: the words of the cells that it keeps, its record, the words and marks of the messages that it handles.
-- Renders document 01, "The machine", for a processor with memory for nothing else; what its turn is, in terms of the machine.
use Rattle.std.specs.Prelude.{ℕ, ◌*◌, ◌<◌, ◌≡◌, Bool, true, List, [], ◌∷◌, ◌++◌, length, take, drop, replicate, eqb}
use Rattle.base.specs.Tests.{◌and◌, ◌or◌, keep, some}
use Rattle.base.specs.Lists.{put, member, unpack, pack}
use Rattle.machine.specs.Plan.{Plan, count, held_by, offset}
use Rattle.machine.specs.Machine.{State, state_of, finished_of, stage_of, sent_of, set_progress, memory_of, place_of, fit, Answered, fresh}
use Rattle.network.specs.Apart.{sender_at, taker_at}
use Rattle.network.specs.Locality.{PlanLengths}

-- ---- what is processor b's, as Locality has it, each in index order

-- the cells of its tiles; the cells that it keeps words of: these, and those that a message to one of its tiles brings
unfoldable pub owns : Plan → ℕ → ℕ → Bool
owns p b c = some (λ t. eqb (p.processor_of t) b and member c (p.cells_of t)) p.tiles

unfoldable pub keeps : Plan → ℕ → ℕ → Bool
keeps p b c = owns p b c or some (λ m. eqb (taker_at p m) b and member c (held_by p m)) (count p)

unfoldable pub handles : Plan → ℕ → ℕ → Bool
handles p b m = eqb (sender_at p m) b or eqb (taker_at p m) b

abbrev pub own_cells : Plan → ℕ → List ℕ
own_cells p b = keep (owns p b) p.cells

abbrev pub kept_cells : Plan → ℕ → List ℕ
kept_cells p b = keep (keeps p b) p.cells

-- the messages that its tiles send or take
abbrev pub handled : Plan → ℕ → List ℕ
handled p b = keep (handles p b) (count p)

-- ---- its part of the areas

pub record Own : Type 0 where
  pub memory : List ℕ  -- a word for each kept cell
  pub finished : ℕ
  pub stage : ℕ
  pub sent : ℕ
  pub mail : List ℕ  -- the words of the handled messages, one message after the other
  pub marks : List ℕ  -- a mark for each of them

-- these messages' words in a buffer, one message after the other; and put into one
unfoldable pub mail_of : Plan → List ℕ → List ℕ → List ℕ
mail_of p buffer [] = []
mail_of p buffer (m ∷ ms) = place_of p buffer m ++ mail_of p buffer ms

unfoldable pub put_mail : Plan → List ℕ → List ℕ → List ℕ → List ℕ
put_mail p buffer mail [] = buffer
put_mail p buffer mail (m ∷ ms) =
    put_mail p (put buffer (offset p.messages m) (take (length (held_by p m)) mail)) (drop (length (held_by p m)) mail) ms

-- the part of these areas
unfoldable pub narrowed : Plan → ℕ → State → Own
narrowed p b s =
    record {
      memory = pack (memory_of p s b) (kept_cells p b);
      finished = finished_of s b;
      stage = stage_of s b;
      sent = sent_of s b;
      mail = mail_of p s.buffer (handled p b);
      marks = pack s.status (handled p b);
    }

-- areas that have this part, and are as a fresh start in every other word
unfoldable pub widened : Plan → ℕ → Own → State
widened p b o =
    state_of (put (fresh p).memories (b * p.cells) (unpack (memory_of p (fresh p) b) (kept_cells p b) o.memory))
    (put_mail p (fresh p).buffer o.mail (handled p b)) (set_progress (fresh p).progress b o.finished o.stage o.sent)
    (unpack (fresh p).status (handled p b) o.marks)

-- a source that has these words at the processor's own cells
unfoldable pub source_of : Plan → ℕ → List ℕ → List ℕ
source_of p b ws = unpack (replicate p.cells 0) (own_cells p b) ws

-- ---- a turn of processor b, lent its part and its own cells' source alone: what `turns` gives and leaves on areas that have them
unfoldable pub turn_own : Plan → (List ℕ → State → ℕ → Answered State) → List ℕ → ℕ → Own → Answered Own
turn_own p turns ws b o =
    record {
      number = (turns (source_of p b ws) (widened p b o) b).number;
      after = narrowed p b (turns (source_of p b ws) (widened p b o) b).after;
    }

-- the claim: in every fit state a turn, seen from the processor's part, is the turn on that part
pub record OwnPart (p : Plan) (turns : List ℕ → State → ℕ → Answered State) : Type 0 where
  pub same_turn : (source : List ℕ) (s : State) (b : ℕ) → b < p.processors → PlanLengths p source s → fit p s ≡ true
      → turn_own p turns (pack source (own_cells p b)) b (narrowed p b s)
      ≡ record { number = (turns source s b).number; after = narrowed p b (turns source s b).after }
