-- For contracts below the calls: no reader needs it.
-- A table of parcel lengths by slot, whatever the slots hold, and where a message is found by it.
-- No sentence of document 01.
use Rattle.std.specs.Prelude.{ℕ, ◌+◌, ◌≤◌, ◌<◌, ◌≡◌, List, length, get_or}
use Rattle.machine.specs.Plan as machine
use Rattle.machine.specs.Plan.{Message, no_message}
use Rattle.plan.specs.Messages.{messages_of}
use Rattle.tables.specs.declared.scans.MessageSlot.{MessageSlot}

-- a table of n slots, none with more cells than a nest can have
pub record Sheet (lens : List ℕ) (n : ℕ) : Type 0 where
  pub long : length lens ≡ 9217
  pub few : n ≤ 7168
  pub short : (s : ℕ) → s < n → get_or lens s 0 ≤ 16384

-- it has how many cells each of the n slots holds
pub record Lengths (f : ℕ → Message) (n : ℕ) (lens : List ℕ) : Type 0 where
  pub each : (s : ℕ) → s < n → get_or lens s 0 ≡ length (f s).cells

-- the slots before s have m messages, and those o words
pub record Summing (f : ℕ → Message) (s m o : ℕ) : Type 0 where
  pub number : m ≡ length (messages_of f s)
  pub offset : o ≡ machine.offset (messages_of f s) (length (messages_of f s))

-- message m of n slots is found at p
pub record Found (f : ℕ → Message) (n m : ℕ) (p : MessageSlot) : Type 0 where
  pub number : p.number ≡ m
  pub low : m < length (messages_of f n)
  pub offset : p.offset ≡ machine.offset (messages_of f n) m
  pub slot : p.slot < n
  pub is : get_or (messages_of f n) m no_message ≡ f p.slot
  pub words : p.words ≡ length (f p.slot).cells
  pub full : 0 < p.words
  pub room : p.offset + p.words ≤ machine.offset (messages_of f n) (length (messages_of f n))
