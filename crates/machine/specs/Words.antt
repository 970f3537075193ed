-- Read this.
-- What each action writes and leaves, word by word, and what becomes of a message's words along a run.
-- Renders document 01, "The machine", and the customer's demand 2: packing and unpacking move exactly the words named.
use Rattle.std.specs.Prelude.{ℕ, ◌+◌, ◌*◌, ◌≤◌, ◌<◌, ◌≡◌, ◌⊎◌, true, false, List, ◌∷◌, ◌++◌, length, get_or}
use Rattle.base.specs.Lists.{In}
use Rattle.machine.specs.Plan.{Plan, count, sender_of, taker_of, held_by, dues_of, offset}
use Rattle.machine.specs.Machine.{State, Answered, Action, gather, calculate, send, memory_of}
use Rattle.machine.specs.Runs.{Event, turn_of, state_after, answers_to, program, turns_of}

-- the word of cell c in the memory of processor b; the q-th word of message m; its q-th cell
abbrev pub word_at : Plan → State → ℕ → ℕ → ℕ
word_at p s b c = get_or s.memories (b * p.cells + c) 0

abbrev pub mail_at : Plan → State → ℕ → ℕ → ℕ
mail_at p s m q = get_or s.buffer (offset p.messages m + q) 0

abbrev pub cell_of : Plan → ℕ → ℕ → ℕ
cell_of p m q = get_or (held_by p m) q 0

-- place i of a list lies outside the n places from a on
abbrev pub Outside : ℕ → ℕ → ℕ → Type 0
Outside a n i = (i < a) ⊎ (a + n ≤ i)

-- ---- one action: s, and the state after it

-- processor b sent message m
pub record Packs (p : Plan) (s after : State) (b m : ℕ) : Type 0 where
  pub message : m < count p
  pub own : p.processor_of (sender_of p m) ≡ b
  -- its cells are in the nest, and its q-th word is the word of its q-th cell in the sender's memory
  pub inside : (q : ℕ) → q < length (held_by p m) → p.inside (cell_of p m q) ≡ true
  pub packed : (q : ℕ) → q < length (held_by p m) → mail_at p after m q ≡ word_at p s b (cell_of p m q)
  -- every word of the buffer outside the message's place is as before, and so is every memory
  pub buffer_rest : (i : ℕ) → Outside (offset p.messages m) (length (held_by p m)) i → get_or after.buffer i 0 ≡ get_or s.buffer i 0
  pub buffer_length : length after.buffer ≡ length s.buffer
  pub memories : after.memories ≡ s.memories

-- processor b gathered for tile t
pub record Unpacks (p : Plan) (s after : State) (b t : ℕ) : Type 0 where
  pub own : p.processor_of t ≡ b
  -- a cell that one due message holds, and no other, has that message's word
  pub written : (m q : ℕ) → In m (dues_of p t) → q < length (held_by p m)
      → ((n : ℕ) → In n (dues_of p t) → In (cell_of p m q) (held_by p n) → n ≡ m)
      → word_at p after b (cell_of p m q) ≡ mail_at p s m q
  -- a cell that no due message holds has its word as before
  pub kept : (c : ℕ) → c < p.cells → ((m : ℕ) → In m (dues_of p t) → In c (held_by p m) → ⊥) → word_at p after b c ≡ word_at p s b c
  pub outside : (c : ℕ) → c < p.cells → p.inside c ≡ false → word_at p after b c ≡ word_at p s b c  -- so every cell outside the nest
  -- and so has every word outside the processor's memory, and the buffer
  pub memories_rest : (i : ℕ) → Outside (b * p.cells) p.cells i → get_or after.memories i 0 ≡ get_or s.memories i 0
  pub memories_length : length after.memories ≡ length s.memories
  pub buffer : after.buffer ≡ s.buffer

-- processor b calculated tile t
pub record Stores (p : Plan) (source : List ℕ) (s after : State) (b t : ℕ) : Type 0 where
  pub own : p.processor_of t ≡ b
  -- a cell of the tile has the value of what then stands in the processor's memory
  pub stored : (c : ℕ) → In c (p.cells_of t) → word_at p after b c ≡ p.value source (memory_of p after b) c
  -- every other cell has its word as before, and so has every word outside the processor's memory, and the buffer
  pub kept : (c : ℕ) → c < p.cells → (In c (p.cells_of t) → ⊥) → word_at p after b c ≡ word_at p s b c
  pub outside : (c : ℕ) → c < p.cells → p.inside c ≡ false → word_at p after b c ≡ word_at p s b c
  pub memories_rest : (i : ℕ) → Outside (b * p.cells) p.cells i → get_or after.memories i 0 ≡ get_or s.memories i 0
  pub memories_length : length after.memories ≡ length s.memories
  pub buffer : after.buffer ≡ s.buffer

abbrev pub Does : Plan → List ℕ → State → State → ℕ → Action → Type 0
Does p source s after b (gather t) = Unpacks p s after b t
Does p source s after b (calculate t) = Stores p source s after b t
Does p source s after b (send m) = Packs p s after b m

-- ---- along a run: events from `start`, by the answers that `acts` gives

module _ (acts : State → Event → Answered State) (start : State) where
  -- after these events a turn of processor b gives 0, and the action is the one that its program names next
  pub record Did (p : Plan) (events : List Event) (b : ℕ) (a : Action) : Type 0 where
    -- proofs/Witnesses has a run that meets it
    pub gave : (acts (state_after acts start events) (turn_of b)).number ≡ 0
    pub named : get_or (program p b) (turns_of b events (answers_to acts start events)) (gather 0) ≡ a

  -- processor b sends message m after the events `before`; whatever events come then
  pub record Posted (p : Plan) (before : List Event) (b m : ℕ) : Type 0 where
    -- the message's words stay what its cells had in the sender's memory when it was sent
    pub stays : (then : List Event) (q : ℕ) → q < length (held_by p m)
        → mail_at p (state_after acts start (before ++ (turn_of b ∷ then))) m q ≡ word_at p (state_after acts start before) b (cell_of p m q)
    -- and the gather of the tile that takes it, by processor c, writes these
    pub arrives : (then : List Event) (c q : ℕ) → q < length (held_by p m)
        → Did p (before ++ (turn_of b ∷ then)) c (gather (taker_of p m))
        → word_at p (acts (state_after acts start (before ++ (turn_of b ∷ then))) (turn_of c)).after c (cell_of p m q)
        ≡ word_at p (state_after acts start before) b (cell_of p m q)
