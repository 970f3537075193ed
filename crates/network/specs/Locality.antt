-- Read this.
-- Locality: what a turn of one processor writes, and what it reads; nothing of another processor's, but for line 10, which looks at all records and marks.
-- Renders document 01, "The machine": a processor works on its own memory and record, and on the messages of the tile at which it stands.
use Rattle.std.specs.Prelude.{ℕ, ◌*◌, ◌<◌, ◌≡◌, ◌⊎◌, List, length, get_or}
use Rattle.base.specs.Lists.{In}
use Rattle.machine.specs.Plan.{Plan, count, held_by, sends_of, dues_of, offset, words}
use Rattle.machine.specs.Machine.{State, finished_of, stage_of, sent_of, place_of, current_tile, fit, Answered}
use Rattle.machine.specs.Words.{word_at, Outside}
use Rattle.network.specs.Apart.{sender_at, taker_at}

-- source and areas have their lengths
pub record PlanLengths (p : Plan) (input : List ℕ) (s : State) : Type 0 where
  pub source : length input ≡ p.cells
  pub memories : length s.memories ≡ p.processors * p.cells
  pub buffer : length s.buffer ≡ words p
  pub progress : length s.progress ≡ 3 * p.processors
  pub status : length s.status ≡ count p

-- the cells that processor b keeps words of: those of its tiles, and those that a message to one of its tiles brings
pub data Keeps (p : Plan) (b c : ℕ) : Type 0 where
  own : (t : ℕ) → t < p.tiles → p.processor_of t ≡ b → In c (p.cells_of t) → Keeps p b c
  brought : (m : ℕ) → m < count p → taker_at p m ≡ b → In c (held_by p m) → Keeps p b c

-- ---- what a turn of processor b may write: s, and the state after it; every other word is as before
pub record WritesOwn (p : Plan) (s after : State) (b : ℕ) : Type 0 where
  -- of the memories b's part, and there the words of the cells that it keeps; of the records b's three words
  pub memories : (i : ℕ) → Outside (b * p.cells) p.cells i → get_or after.memories i 0 ≡ get_or s.memories i 0
  pub memory : (c : ℕ) → c < p.cells → (Keeps p b c → ⊥) → word_at p after b c ≡ word_at p s b c
  pub records : (i : ℕ) → Outside (3 * b) 3 i → get_or after.progress i 0 ≡ get_or s.progress i 0
  -- of the buffer the places of the messages that its tile sends, of the status their marks and those of the messages due there
  pub buffer : (i : ℕ) → ((m : ℕ) → In m (sends_of p (current_tile p s b)) → Outside (offset p.messages m) (length (held_by p m)) i)
      → get_or after.buffer i 0 ≡ get_or s.buffer i 0
  pub status : (m : ℕ) → (In m (sends_of p (current_tile p s b)) → ⊥) → (In m (dues_of p (current_tile p s b)) → ⊥)
      → get_or after.status m 0 ≡ get_or s.status m 0
  -- no area grows or shrinks
  pub memories_length : length after.memories ≡ length s.memories
  pub buffer_length : length after.buffer ≡ length s.buffer
  pub records_length : length after.progress ≡ length s.progress
  pub status_length : length after.status ≡ length s.status

-- ---- what it reads

-- a tile of processor b sends message m, or takes it
abbrev pub Handles : Plan → ℕ → ℕ → Type 0
Handles p b m = (sender_at p m ≡ b) ⊎ (taker_at p m ≡ b)

-- two states that are the same to processor b: the words of the cells that it keeps, its record, the places and marks of the messages that it handles
pub record SameTo (p : Plan) (b : ℕ) (s s' : State) : Type 0 where
  pub memory : (c : ℕ) → c < p.cells → Keeps p b c → word_at p s b c ≡ word_at p s' b c
  pub finished : finished_of s b ≡ finished_of s' b
  pub stage : stage_of s b ≡ stage_of s' b
  pub sent : sent_of s b ≡ sent_of s' b
  pub words : (m : ℕ) → m < count p → Handles p b m → place_of p s.buffer m ≡ place_of p s'.buffer m
  pub marks : (m : ℕ) → m < count p → Handles p b m → get_or s.status m 0 ≡ get_or s'.status m 0

-- two sources that are: the words of the cells of its tiles
abbrev pub SameSource : Plan → ℕ → List ℕ → List ℕ → Type 0
SameSource p b source source' = (t c : ℕ) → t < p.tiles → p.processor_of t ≡ b → In c (p.cells_of t) → get_or source c 0 ≡ get_or source' c 0

-- two calls of processor b's turn that are: the numbers are the same if both states are fit, or neither is
pub record Likewise (p : Plan) (source source' : List ℕ) (s s' : State) (b : ℕ) : Type 0 where
  pub lent : PlanLengths p source s
  pub lent' : PlanLengths p source' s'
  pub both_fit : fit p s ≡ fit p s'
  pub same_source : SameSource p b source source'
  pub same_areas : SameTo p b s s'

-- ---- the claim, for anything that takes turns
pub record Local (p : Plan) (turns : List ℕ → State → ℕ → Answered State) : Type 0 where
  pub writes : (source : List ℕ) (s : State) (b : ℕ) → PlanLengths p source s → WritesOwn p s (turns source s b).after b
  -- the same number, and the same changes of what is processor b's
  pub same_number : (source source' : List ℕ) (s s' : State) (b : ℕ) → Likewise p source source' s s' b
      → (turns source s b).number ≡ (turns source' s' b).number
  pub same_changes : (source source' : List ℕ) (s s' : State) (b : ℕ) → Likewise p source source' s s' b
      → SameTo p b (turns source s b).after (turns source' s' b).after
  -- a source that has the words of b's own cells alone does as well, all areas alike
  pub own_source : (source source' : List ℕ) (s : State) (b : ℕ) → PlanLengths p source s → PlanLengths p source' s → SameSource p b source source'
      → turns source s b ≡ turns source' s b

-- a plan whose values read of the source the word of their own cell
abbrev pub ReadsOwnWord : Plan → Type 0
ReadsOwnWord p = (source source' memory : List ℕ) (c : ℕ) → get_or source c 0 ≡ get_or source' c 0 → p.value source memory c ≡ p.value source' memory c
