-- For contracts below the calls: no reader needs it.
-- What the code below the calls is given and gives: a packet opened into 285 words, areas of their lengths, the answer past the first lines.
-- No sentence of document 01.
use Rattle.std.specs.Prelude.{◌≡◌, ℕ, ◌≤◌, List, length, take, Result, Ok, Err}
use Rattle.base.specs.Tests.{one}
use Rattle.base.specs.Numbers.{first_of}
use Rattle.base.specs.Refusals.{code}
use Rattle.base.specs.declared.refusal.Refusal.{Refusal}
use Rattle.machine.specs.Plan.{Plan, count, words}
use Rattle.machine.specs.Machine.{State, Answered, answered}
use Rattle.packets.specs.declared.Header.{Header}
use Rattle.packets.specs.declared.Reading.{Reading}
use Rattle.packets.specs.Packet.{header_of, words_of}
use Rattle.engine.specs.Calls.{answer}
use Rattle.wire.specs.declared.inbox.Brought.{Brought}
use Rattle.wire.specs.Wire.{Letter, letter_of, Inbox, Received, received_as, address_lines, taken_packet}

-- what is told of a packet that was written, or is not
abbrev pub told : Result ℕ Refusal → List ℕ → Answered Letter
told (Ok n) space = answer 0 (letter_of n space)
told (Err r) space = answer (code r) (letter_of 0 space)

pub record ReadAs (q : List ℕ) (r : Reading) (out : List ℕ) : Type 0 where
  pub header_is : r.header ≡ header_of q
  pub words_are : take r.count out ≡ words_of q
  pub fits : r.count ≤ length out

pub record MayReceive (p : Plan) (buffer status : List ℕ) (i : Inbox) : Type 0 where
  pub buffer_long : length buffer ≡ words p
  pub status_long : length status ≡ count p
  pub parts_long : length i.parts ≡ words p
  pub masks_long : length i.masks ≡ count p

-- past the lines before: 11, 14, or the chunk to its place
abbrev pub taken_or : Plan → State → ℕ → Header → List ℕ → Inbox → Answered Received
taken_or p s b h ws i = answered (first_of (address_lines p s.status b h ws)) (taken_packet p s i h ws) (received_as 0 0 i s)

-- what is told of bytes that brought a chunk, or are refused
abbrev pub told_in : Result Brought Refusal → Inbox → State → Answered Received
told_in (Ok b) i s = answer 0 (received_as (one b.whole) b.message i s)
told_in (Err r) i s = answer (code r) (received_as 0 0 i s)
