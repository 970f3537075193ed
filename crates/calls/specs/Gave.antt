-- Read this.
-- What each exported call gives: a relation for each, over what it was lent, the number it gave, what it told and what it left. The contract of every function
-- of src/ that has C linkage is its relation; all claims about the exported calls, in the files beside this one, speak of these very relations.
-- Renders document 01, "The machine" and "Numbers a call gives", and the requests that ask for a call. TenantAreas `a`, the call gave n and left `b`;
-- what is lent for reading alone is left as it was. Board records are structs.
use Rattle.std.specs.Prelude.{◌≡◌, ℕ, List, [], ℤ}
use Rattle.machine.specs.Machine.{State, state_of}
use Rattle.machine.specs.Runs.{Event, turn_of, delivery_of}
use Rattle.tenants.specs.Tenants.{TenantAreas, tenant_areas, Sharing, sharing_of, Sources}
use Rattle.calendar.specs.Windows.{Moment, Timed, turn_at, mail_of}
use Rattle.records.specs.declared.Progress.{Progress}
use Rattle.records.specs.Records.{flat_words}
use Rattle.engine.specs.Calls.{answer, fresh_call, turn_call, deliver_call, collect_call, sweep_call}
use Rattle.layout.specs.RouteWords.{route_of}
use Rattle.summary.specs.declared.Figures.{Figures}
use Rattle.summary.specs.declared.MessageLine.{MessageLine}
use Rattle.summary.specs.declared.HopCount.{HopCount}
use Rattle.summary.specs.Summary.{summary_of, message_line_of, hops_of}
use Rattle.writer.specs.declared.reading.RecipeFields.{RecipeFields}
use Rattle.writer.specs.Fields.{Fields, Widths}
use Rattle.writer.specs.Told.{read_call}
use Rattle.writer.specs.Writing.{write_call}
use Rattle.soundings.specs.Soundings.{fill_call}
use Rattle.sharing.specs.Calls.{turn_call_for, deliver_call_for, collect_call_for, fresh_sharing_call}
use Rattle.calendar_calls.specs.Calls.{turn_call_at, turn_call_at_for}
use Rattle.rounds.specs.Rounds.{told}
use Rattle.schedule.specs.declared.Driven.{Driven}
use Rattle.schedule.specs.Calls.{rounds_call, rounds_of_call}
use Rattle.transport.specs.declared.Waiting.{Waiting}
use Rattle.transport.specs.Calls.{messages_call, owners_call, waits_of, awaited_call, take_in_call}
use Rattle.part_calls.specs.declared.AreaLengths.{AreaLengths}
use Rattle.part_calls.specs.front.Calls.{part_sizes_call, part_messages_call, part_fresh_call, part_turn_call, part_post_call, part_arrive_call, part_collect_call}
use Rattle.packets.specs.declared.chunks.Taken.{Taken}
use Rattle.packets.specs.Fingerprint.{fingerprint_of}
use Rattle.packets.specs.Calls as packets
use Rattle.packets.specs.Cut.{Chunk, assembly, taking_of, take_chunk_call}
use Rattle.wire.specs.declared.Written.{Written}
use Rattle.wire.specs.declared.PacketLine.{PacketLine}
use Rattle.wire.specs.declared.inbox.Received.{Received}
use Rattle.wire.specs.Wire.{Label, letter_of, packet_call, line_from, send_call, Inbox, received_as, receive_call}
use Rattle.chart.specs.declared.Told.{Told as Text}
use Rattle.chart.specs.Call as chart
use Rattle.chart.specs.Call.{length_call, written}
use Rattle.calls.specs.declared.tenant.Viewed.{Viewed}
use Rattle.calls.specs.declared.hour.NextOpening.{NextOpening}
use Rattle.calls.specs.declared.mail.Fingerprint.{Fingerprint}
use Rattle.calls.specs.View.{view_of}
use Rattle.calls.specs.Opens.{opens_of}

-- ---- what is lent

-- the areas that a step may change, records as structs; and their words
pub record Areas : Type 0 where
  pub memories : List ℕ
  pub buffer : List ℕ
  pub progress : List Progress
  pub status : List ℕ

abbrev pub areas_of : List ℕ → List ℕ → List Progress → List ℕ → Areas
areas_of m u r t = record { memories = m; buffer = u; progress = r; status = t }

abbrev pub in_words : Areas → State
in_words a = state_of a.memories a.buffer (flat_words a.progress) a.status

-- records and status bytes alone; one processor's memory and record alone
abbrev pub asked_with : List Progress → List ℕ → State
asked_with r t = state_of [] [] (flat_words r) t

abbrev pub kept : List ℕ → List Progress → State
kept m r = state_of m [] (flat_words r) []

-- what a call of a tenant is lent to change: its own areas and the shared words
pub record LentAreas : Type 0 where
  pub own : Areas
  pub engaged : List ℕ

abbrev pub lent_areas_of : Areas → List ℕ → LentAreas
lent_areas_of own engaged = record { own = own; engaged = engaged }

abbrev pub lent_words : LentAreas → TenantAreas
lent_words a = tenant_areas (in_words a.own) a.engaged

-- the areas of both tenants, and the shared words
pub record SharingAreas : Type 0 where
  pub first : Areas  -- tenant 0's
  pub second : Areas  -- tenant 1's
  pub engaged : List ℕ

abbrev pub sharing_areas_of : Areas → Areas → List ℕ → SharingAreas
sharing_areas_of first second engaged = record { first = first; second = second; engaged = engaged }

abbrev pub sharing_words : SharingAreas → Sharing
sharing_words a = sharing_of (in_words a.first) (in_words a.second) a.engaged

-- ---- src/lib.rt: one tenant

module _ (bytes : List ℕ) (route : ℕ) (source : List ℕ) where
  abbrev pub FreshGave : Areas → ℕ → Areas → Type 0
  FreshGave a n b = answer n (in_words b) ≡ fresh_call bytes route source (in_words a)

  abbrev pub EventGave : Areas → Event → ℕ → Areas → Type 0
  EventGave a (turn_of p) n b = answer n (in_words b) ≡ turn_call bytes route source (in_words a) p
  EventGave a (delivery_of m) n b = answer n (in_words b) ≡ deliver_call bytes route source (in_words a) m

  -- lent the words `old` too, left as `grid`
  abbrev pub CollectGave : Areas → List ℕ → ℕ → List ℕ → Type 0
  CollectGave a old n grid = answer n grid ≡ collect_call bytes route source (in_words a) old

abbrev pub SweepGave : List ℕ → List ℕ → List ℕ → ℕ → List ℕ → Type 0
SweepGave bytes source old n grid = answer n grid ≡ sweep_call bytes source old

abbrev pub SummaryGave : List ℕ → ℕ → Figures → Type 0
SummaryGave bytes route told = told ≡ summary_of (route_of route) bytes

abbrev pub MessageGave : List ℕ → ℕ → ℕ → MessageLine → Type 0
MessageGave bytes route m told = told ≡ message_line_of (route_of route) bytes m

abbrev pub HopsGave : List ℕ → ℕ → HopCount → Type 0
HopsGave bytes m told = told ≡ hops_of bytes m

abbrev pub ReadGave : List ℕ → RecipeFields → Type 0
ReadGave bytes told = told ≡ read_call bytes

-- the fields v written into a space that was `old`; each number is as wide as its field in the recipe, since the call's arguments have these types
pub record WriteGave (v : Fields) (old : List ℕ) (n : ℕ) (space : List ℕ) : Type 0 where
  pub gave : answer n space ≡ write_call v old
  pub typed : Widths v

-- lent the words `old`, left as `source`
abbrev pub SoundingsGave : List ℕ → List ℕ → ℕ → List ℕ → ℕ → List ℕ → Type 0
SoundingsGave bytes file value old n source = answer n source ≡ fill_call bytes file value old

-- ---- src/tenant.rt: one of two tenants on the same processors

module _ (bytes : List ℕ) (route : ℕ) where
  -- tenant o, lent the other's records `theirs` only to read
  abbrev pub TenantGave : List ℕ → ℕ → List Progress → LentAreas → Event → ℕ → LentAreas → Type 0
  TenantGave source o theirs a (turn_of p) n b = answer n (lent_words b) ≡ turn_call_for bytes route source o (lent_words a) (flat_words theirs) p
  TenantGave source o theirs a (delivery_of m) n b =
      answer n (lent_words b) ≡ deliver_call_for bytes route source o (lent_words a) (flat_words theirs) m

  -- lent the words `old` too, left as `grid`
  abbrev pub TenantCollectGave : List ℕ → ℕ → List Progress → LentAreas → List ℕ → ℕ → List ℕ → Type 0
  TenantCollectGave source o theirs a old n grid = answer n grid ≡ collect_call_for bytes route source o (lent_words a) (flat_words theirs) old

  abbrev pub FreshBothGave : Sources → SharingAreas → ℕ → SharingAreas → Type 0
  FreshBothGave sources a n b = answer n (sharing_words b) ≡ fresh_sharing_call bytes route sources (sharing_words a)

-- processor b's part of tenant o's memories
abbrev pub ViewGave : List ℕ → List ℕ → List ℕ → ℕ → ℕ → Viewed → Type 0
ViewGave bytes first second o b told = told ≡ view_of bytes first second o b

-- ---- src/hour.rt: with hours

module _ (bytes : List ℕ) (route : ℕ) where
  -- mail has no hours: its contract is that of src/lib.rt
  abbrev pub TimedGave : List ℕ → Areas → Timed → ℕ → Areas → Type 0
  TimedGave source a (turn_at h p) n b = answer n (in_words b) ≡ turn_call_at bytes route source h (in_words a) p
  TimedGave source a (mail_of m) n b = EventGave bytes route source a (delivery_of m) n b

  -- tenant o, lent the other's records `theirs` only to read
  abbrev pub TenantTimedGave : List ℕ → ℕ → List Progress → LentAreas → Timed → ℕ → LentAreas → Type 0
  TenantTimedGave source o theirs a (turn_at h p) n b =
      answer n (lent_words b) ≡ turn_call_at_for bytes route source o h (lent_words a) (flat_words theirs) p
  TenantTimedGave source o theirs a (mail_of m) n b = TenantGave bytes route source o theirs a (delivery_of m) n b

abbrev pub OpensGave : List ℕ → Moment → ℕ → NextOpening → Type 0
OpensGave bytes h b told = told ≡ opens_of bytes h b

-- ---- src/round.rt: by rounds, on the direct route

-- what it told, and the areas that it left
abbrev pub RoundsGave : List ℕ → List ℕ → Areas → Driven → Areas → Type 0
RoundsGave bytes source a d b = answer d.number (told d.rounds (in_words b)) ≡ rounds_call bytes source (in_words a)

abbrev pub RoundsOfGave : List ℕ → List ℕ → ℕ → List ℕ → Type 0
RoundsOfGave bytes old n out = answer n out ≡ rounds_of_call bytes old

-- ---- src/carrier.rt: what a transport asks

abbrev pub MessagesGave : List ℕ → ℕ → List ℕ → ℕ → List ℕ → Type 0
MessagesGave bytes route old n out = answer n out ≡ messages_call bytes route old

abbrev pub OwnersGave : List ℕ → List ℕ → ℕ → List ℕ → Type 0
OwnersGave bytes old n out = answer n out ≡ owners_call bytes old

-- processor p's marks, which were `old`, and its tile, lent records and status bytes to read
abbrev pub AwaitedGave : List ℕ → ℕ → List Progress → List ℕ → ℕ → List ℕ → Waiting → List ℕ → Type 0
AwaitedGave bytes route records status p old w marks =
    answer w.number (waits_of marks w.tile) ≡ awaited_call bytes route (asked_with records status) p old

-- message m with these words, taken in by processor p
abbrev pub TakeInGave : List ℕ → ℕ → List ℕ → Areas → ℕ → ℕ → List ℕ → ℕ → Areas → Type 0
TakeInGave bytes route source a p m words n b = answer n (in_words b) ≡ take_in_call bytes route source (in_words a) p m words

-- ---- src/mail.rt: packets, and messages as packets

abbrev pub FingerprintGave : List ℕ → ℕ → Fingerprint → Type 0
FingerprintGave bytes route told = told ≡ record { number = 0; fingerprint = fingerprint_of bytes route }

-- chunk k of these words, into a space that was `old`
abbrev pub PacketGave : Label → List ℕ → ℕ → List ℕ → Written → List ℕ → Type 0
PacketGave l words k old w space = answer w.number (letter_of w.length space) ≡ packet_call l words k old

-- what bytes say for this fingerprint and run, and their words, which were `old`
abbrev pub PacketReadGave : ℕ → ℕ → List ℕ → List ℕ → PacketLine → List ℕ → Type 0
PacketReadGave f run packet old line words =
    (line ≡ line_from (packets.read_call f run packet old)) × (words ≡ (packets.read_call f run packet old).words)

-- a chunk put to what came of its item, which was `old` with this mask
abbrev pub ChunkGave : Chunk → List ℕ → ℕ → Taken → List ℕ → Type 0
ChunkGave c old mask t area = taking_of t area ≡ take_chunk_call c (assembly old mask)

-- chunk k of message m, sent by processor p
abbrev pub SendGave : List ℕ → ℕ → ℕ → ℕ → List ℕ → List ℕ → ℕ → ℕ → ℕ → List ℕ → Written → List ℕ → Type 0
SendGave bytes route run life buffer status p m k old w space =
    answer w.number (letter_of w.length space) ≡ send_call bytes route run life buffer status p m k old

-- bytes as they came for processor p, with what came so far
abbrev pub ReceiveGave : List ℕ → ℕ → ℕ → List ℕ → Areas → ℕ → List ℕ → Inbox → Received → Inbox → Areas → Type 0
ReceiveGave bytes route run source a p packet i r j b =
    answer r.number (received_as r.whole r.message j (in_words b)) ≡ receive_call bytes route run source (in_words a) p packet i

-- ---- src/chart_text.rt: for the charting desk

-- what it told, and the space, which was `old`
abbrev pub ChartGave : List ℕ → List ℕ → ℤ → ℤ → ℕ → List ℕ → Text → List ℕ → Type 0
ChartGave bytes grid x y size old text space = written text space ≡ chart.write_call bytes grid x y size old

abbrev pub ChartLengthGave : List ℕ → List ℕ → ℤ → ℤ → ℕ → Text → Type 0
ChartLengthGave bytes grid x y size text = text ≡ length_call bytes grid x y size

-- ---- src/board.rt: processor p, lent its own part alone: memory, mail, its record and the marks of its messages

module _ (bytes : List ℕ) (route : ℕ) where
  abbrev pub PartSizesGave : ℕ → AreaLengths → Type 0
  PartSizesGave p told = told ≡ part_sizes_call bytes route p

  abbrev pub PartMessagesGave : ℕ → List ℕ → ℕ → List ℕ → Type 0
  PartMessagesGave p old n out = answer n out ≡ part_messages_call bytes route p old

  abbrev pub PartFreshGave : ℕ → Areas → ℕ → Areas → Type 0
  PartFreshGave p a n b = answer n (in_words b) ≡ part_fresh_call bytes route (in_words a) p

  abbrev pub PartTurnGave : List ℕ → ℕ → Areas → ℕ → Areas → Type 0
  PartTurnGave source p a n b = answer n (in_words b) ≡ part_turn_call bytes route source (in_words a) p

  abbrev pub PartPostGave : ℕ → ℕ → Areas → ℕ → Areas → Type 0
  PartPostGave p m a n b = answer n (in_words b) ≡ part_post_call bytes route (in_words a) p m

  abbrev pub PartArriveGave : ℕ → ℕ → List ℕ → Areas → ℕ → Areas → Type 0
  PartArriveGave p m words a n b = answer n (in_words b) ≡ part_arrive_call bytes route (in_words a) p m words

  -- its memory and its record to read; the grid was `old`
  abbrev pub PartCollectGave : ℕ → List ℕ → List Progress → List ℕ → ℕ → List ℕ → Type 0
  PartCollectGave p memory record' old n grid = answer n grid ≡ part_collect_call bytes route (kept memory record') p old
