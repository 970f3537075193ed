-- Read this.
-- What a transport asks of the engine where boards share no memory: all messages, the processor of each cell, what a processor waits for, and
-- taking a message in. Renders document 01, "Messages", "Cells, tiles and boards", "The machine" and "Numbers a call gives", W-204 and W-209.
use Rattle.std.specs.Prelude.{ℕ, zero, suc, ◌*◌, Bool, List, [], ◌∷◌, ◌++◌, length, ◌==◌, nat_eq, nat_lt, slice_index}
use Rattle.base.specs.Tests.{◌and◌, not, pick, one, tabulate}
use Rattle.base.specs.Numbers.{Line, line, first_of}
use Rattle.machine.specs.Plan.{Plan, count, sender_of, taker_of, held_by, offset}
use Rattle.machine.specs.Machine.{State, stage_of, tiles_left, current_tile, fit, Answered, answered}
use Rattle.nest.specs.Reader.{read_lines}
use Rattle.layout.specs.RouteWords.{route_of}
use Rattle.recipe.specs.Routes.{lines_for}
use Rattle.engine.specs.Calls.{recipe, areas}
use Rattle.network.specs.Apart.{received}
use Rattle.network.specs.Brought.{taken_by, as_long}

-- ---- all messages: a row of six words for each, in the order of their numbers

-- sending tile, taking tile, sending processor, taking processor, words, and where these begin in the buffer
unfoldable pub row_of : Plan → ℕ → List ℕ
row_of p m =
    sender_of p m ∷ taker_of p m ∷ p.processor_of (sender_of p m) ∷ p.processor_of (taker_of p m) ∷ length (held_by p m) ∷ offset p.messages m ∷ []

unfoldable pub rows_to : Plan → ℕ → List ℕ
rows_to p zero = []
rows_to p (suc m) = rows_to p m ++ row_of p m

abbrev pub messages_lines : List ℕ → ℕ → List ℕ → List Line
messages_lines bytes route out = lines_for (route_of route) bytes ++ (line 9 (not (length out == 6 * count (recipe bytes route))) ∷ [])

unfoldable pub messages_call : List ℕ → ℕ → List ℕ → Answered (List ℕ)
messages_call bytes route out =
    answered (first_of (messages_lines bytes route out)) (rows_to (recipe bytes route) (count (recipe bytes route))) out

-- ---- the processor of each cell: of its tile; a cell outside the shape is in no tile, and has the number of processors, which is no processor's

abbrev pub owner_of : Plan → ℕ → ℕ
owner_of p c = pick (p.inside c) (p.processor_of (p.tile_of c)) p.processors

-- no route is given: the tiles and their processors are the same on either
abbrev pub owners_lines : List ℕ → List ℕ → List Line
owners_lines bytes out = read_lines bytes ++ (line 9 (not (length out == (recipe bytes 0).cells)) ∷ [])

unfoldable pub owners_call : List ℕ → List ℕ → Answered (List ℕ)
owners_call bytes out = answered (first_of (owners_lines bytes out)) (tabulate (owner_of (recipe bytes 0)) (recipe bytes 0).cells) out

-- ---- what a processor waits for; only records and status bytes are lent

-- processor b is to gather, and message m is due at its tile and not delivered
unfoldable pub awaits : Plan → State → ℕ → ℕ → Bool
awaits p s b m =
    nat_eq (stage_of s b) 0 and (nat_eq (taker_of p m) (current_tile p s b) and not (slice_index s.status m == 2))

-- one byte a message, 1 where it is waited for; and the tile at which the processor stands, which is told
pub record Waits : Type 0 where
  pub marks : List ℕ
  pub tile : ℕ

abbrev pub waits_of : List ℕ → ℕ → Waits
waits_of marks tile = record { marks = marks; tile = tile }

unfoldable pub waited : Plan → State → ℕ → Waits
waited p s b = waits_of (tabulate (λ m. one (awaits p s b m)) (count p)) (current_tile p s b)

unfoldable pub wait_areas : Plan → State → List ℕ → Bool
wait_areas p s marks =
    nat_eq (length s.progress) (3 * p.processors) and (nat_eq (length s.status) (count p) and nat_eq (length marks) (count p))

abbrev pub awaited_lines : List ℕ → ℕ → State → ℕ → List ℕ → List Line
awaited_lines bytes route s b marks =
    lines_for (route_of route) bytes
    ++ (line 9 (not (wait_areas (recipe bytes route) s marks))
    ∷ line 10 (not (fit (recipe bytes route) s))
    ∷ line 11 (not (nat_lt b (recipe bytes route).processors))
    ∷ line 13 (not (tiles_left (recipe bytes route) s b)) ∷ [])

-- a refusal leaves the marks, and tells 0
unfoldable pub awaited_call : List ℕ → ℕ → State → ℕ → List ℕ → Answered Waits
awaited_call bytes route s b marks =
    answered (first_of (awaited_lines bytes route s b marks)) (waited (recipe bytes route) s b) (waits_of marks 0)

-- ---- a message is taken in at its taker's, whose own areas are lent: `words` came with its number

-- 14 where it came before, or was sent from here
abbrev pub take_in_lines : List ℕ → ℕ → List ℕ → State → ℕ → ℕ → List ℕ → List Line
take_in_lines bytes route source s b m words =
    lines_for (route_of route) bytes
    ++ (line 9 (not (areas (recipe bytes route) source s and as_long (recipe bytes route) m words))
    ∷ line 10 (not (fit (recipe bytes route) s))
    ∷ line 11 (not (taken_by (recipe bytes route) b m))
    ∷ line 14 (not (slice_index s.status m == 0)) ∷ [])

unfoldable pub take_in_call : List ℕ → ℕ → List ℕ → State → ℕ → ℕ → List ℕ → Answered State
take_in_call bytes route source s b m words =
    answered (first_of (take_in_lines bytes route source s b m words)) (received (recipe bytes route) s m words) s
