-- Read this; `Listed` alone is for contracts below the calls.
-- One processor's own part as it is lent: the words of its kept cells, its mail, the three words of its record, its marks; and how long each is.
-- Renders document 01, "The machine", for a board with memory for nothing else; what the part is of the machine's areas says network/specs/Own.
use Rattle.std.specs.Prelude.{ℕ, ◌+◌, ◌≤◌, ◌<◌, ◌≡◌, Bool, true, List, [], ◌∷◌, length, replicate, eqb}
use Rattle.base.specs.Tests.{◌and◌, keep}
use Rattle.base.specs.Lists.{In, unpack}
use Rattle.machine.specs.Plan.{Plan, held_by}
use Rattle.machine.specs.Machine.{State, state_of, finished_of, stage_of, sent_of}
use Rattle.network.specs.Own.{Own, kept_cells, handles, handled}
use Rattle.rank_index.specs.Ranks.{marked_at, marked_cells, Counted}

-- the part that these four areas are, and the areas that a part is: of one processor, so its record is the first
unfoldable pub part_of : State → Own
part_of s =
    record {
      memory = s.memories;
      finished = finished_of s 0;
      stage = stage_of s 0;
      sent = sent_of s 0;
      mail = s.buffer;
      marks = s.status;
    }

unfoldable pub lent_of : Own → State
lent_of o = state_of o.memory o.mail (o.finished ∷ o.stage ∷ o.sent ∷ []) o.marks

-- how many words these messages have
unfoldable pub words_of : Plan → List ℕ → ℕ
words_of p [] = 0
words_of p (m ∷ ms) = length (held_by p m) + words_of p ms

-- where message m stands among those that processor b handles, and where its words begin in b's mail: what comes before it
abbrev pub rank_of : Plan → ℕ → ℕ → ℕ
rank_of p b m = length (keep (handles p b) m)

abbrev pub mail_at : Plan → ℕ → ℕ → ℕ
mail_at p b m = words_of p (keep (handles p b) m)

-- each lent area of processor b has exactly its length
unfoldable pub part_fits : Plan → ℕ → State → Bool
part_fits p b s =
    eqb (length s.memories) (length (kept_cells p b))
    and (eqb (length s.buffer) (words_of p (handled p b)) and (eqb (length s.progress) 3 and eqb (length s.status) (length (handled p b))))

-- a memory of all cells that has the words of the cells that processor b keeps, and zeros else
abbrev pub all_of : Plan → ℕ → List ℕ → List ℕ
all_of p b words = unpack (replicate p.cells 0) (kept_cells p b) words

-- a list of marked cells, a part, and words that go between them
pub record Listed (marks counts cells memory words : List ℕ) : Type 0 where
  pub few : length marks ≤ 16384
  pub counted : Counted marks counts
  pub each : (c : ℕ) → In c cells → (c < length marks) × (marked_at marks c ≡ true)
  pub part_long : length memory ≡ length (marked_cells marks)
  pub words_long : length words ≡ length cells
