-- Read this.
-- The calls for one processor that is lent its own part alone, each from the recipe's bytes, the word that names its route, the processor and its part.
-- Renders document 01, "The machine" and "Numbers a call gives", for a board with memory for nothing else: a call's number, and what it leaves, are those of
-- the machine on areas that have this part (`widened`, network/specs/Own). 11 comes before 9 here: the processor decides how long its areas are.
use Rattle.std.specs.Prelude.{ℕ, zero, suc, ◌*◌, Bool, List, [], ◌∷◌, ◌++◌, length, ◌==◌, nat_eq, nat_lt, slice_index}
use Rattle.base.specs.Tests.{◌and◌, not, pick, tabulate}
use Rattle.base.specs.Numbers.{Line, line, first_of}
use Rattle.machine.specs.Plan.{Plan, sender_of, taker_of, held_by}
use Rattle.machine.specs.Machine.{State, memory_of, tiles_left, fit_record, fit, Answered, answered, carry_out, next_action, turn_lines, deliver_lines, fresh}
use Rattle.layout.specs.RouteWords.{route_of}
use Rattle.recipe.specs.Routes.{lines_for}
use Rattle.engine.specs.Calls.{recipe}
use Rattle.network.specs.Apart.{sender_at, taker_at, marked, received}
use Rattle.network.specs.Own.{owns, own_cells, kept_cells, handled, narrowed, widened, source_of}
use Rattle.network.specs.Brought.{taken_by, as_long}
use Rattle.part_calls.specs.declared.AreaLengths.{AreaLengths}
use Rattle.part.specs.Part.{part_of, lent_of, words_of, mail_at, part_fits}

-- the machine's areas that have the lent part, and are else as a fresh start; the lent part of the machine's areas
abbrev pub from_part : Plan → ℕ → State → State
from_part p b s = widened p b (part_of s)

abbrev pub to_part : Plan → ℕ → State → State
to_part p b s = lent_of (narrowed p b s)

-- the first lines of every call: the reader's and the route's, 11 where there is no such processor
abbrev pub board_lines : List ℕ → ℕ → ℕ → List Line
board_lines bytes route b = lines_for (route_of route) bytes ++ (line 11 (not (nat_lt b (recipe bytes route).processors)) ∷ [])

-- ---- how long its areas are: the cells of its tiles (its source), the cells that it keeps, the words of the messages that it handles, and how many
-- these are; at a refusal nothing is told
unfoldable pub lengths_of : Plan → ℕ → AreaLengths
lengths_of p b =
    record {
      number = 0;
      cells = length (own_cells p b);
      kept = length (kept_cells p b);
      words = words_of p (handled p b);
      messages = length (handled p b);
    }

abbrev pub no_lengths : ℕ → AreaLengths
no_lengths n = record { number = n; cells = 0; kept = 0; words = 0; messages = 0 }

unfoldable pub lengths_if : ℕ → Plan → ℕ → AreaLengths
lengths_if zero p b = lengths_of p b
lengths_if (suc n) p b = no_lengths (suc n)

unfoldable pub part_sizes_call : List ℕ → ℕ → ℕ → AreaLengths
part_sizes_call bytes route b = lengths_if (first_of (board_lines bytes route b)) (recipe bytes route) b

-- ---- the messages that it handles: a row of seven words for each, in the order of their numbers

-- its number, sending tile, taking tile, sending processor, taking processor, words, and where these begin in the processor's mail
unfoldable pub part_row : Plan → ℕ → ℕ → List ℕ
part_row p b m = m ∷ sender_of p m ∷ taker_of p m ∷ sender_at p m ∷ taker_at p m ∷ length (held_by p m) ∷ mail_at p b m ∷ []

unfoldable pub part_rows : Plan → ℕ → List ℕ → List ℕ
part_rows p b [] = []
part_rows p b (m ∷ ms) = part_row p b m ++ part_rows p b ms

abbrev pub part_messages_lines : List ℕ → ℕ → ℕ → List ℕ → List Line
part_messages_lines bytes route b out =
    board_lines bytes route b ++ (line 9 (not (length out == 7 * length (handled (recipe bytes route) b))) ∷ [])

unfoldable pub part_messages_call : List ℕ → ℕ → ℕ → List ℕ → Answered (List ℕ)
part_messages_call bytes route b out =
    answered (first_of (part_messages_lines bytes route b out)) (part_rows (recipe bytes route) b (handled (recipe bytes route) b)) out

-- ---- a fresh start

abbrev pub part_fresh_lines : List ℕ → ℕ → State → ℕ → List Line
part_fresh_lines bytes route s b = board_lines bytes route b ++ (line 9 (not (part_fits (recipe bytes route) b s)) ∷ [])

unfoldable pub part_fresh_call : List ℕ → ℕ → State → ℕ → Answered State
part_fresh_call bytes route s b = answered (first_of (part_fresh_lines bytes route s b)) (to_part (recipe bytes route) b (fresh (recipe bytes route))) s

-- ---- a turn; the source has a word for each cell of its tiles, in index order

abbrev pub part_turn_lines : List ℕ → ℕ → List ℕ → State → ℕ → List Line
part_turn_lines bytes route source s b =
    board_lines bytes route b
    ++ (line 9 (not (nat_eq (length source) (length (own_cells (recipe bytes route) b)) and part_fits (recipe bytes route) b s))
    ∷ turn_lines (recipe bytes route) (from_part (recipe bytes route) b s) b)

-- what the machine's turn leaves on such areas
abbrev pub stepped : Plan → ℕ → List ℕ → State → State
stepped p b source s = carry_out p (source_of p b source) (from_part p b s) b (next_action p (from_part p b s) b)

unfoldable pub part_turn_call : List ℕ → ℕ → List ℕ → State → ℕ → Answered State
part_turn_call bytes route source s b =
    answered (first_of (part_turn_lines bytes route source s b)) (to_part (recipe bytes route) b (stepped (recipe bytes route) b source s)) s

-- ---- message m is handed over to a transport: delivered from now on as far as its sender knows; its words lie in the mail

abbrev pub part_post_lines : List ℕ → ℕ → State → ℕ → ℕ → List Line
part_post_lines bytes route s b m =
    board_lines bytes route b
    ++ (line 9 (not (part_fits (recipe bytes route) b s)) ∷ deliver_lines (recipe bytes route) (from_part (recipe bytes route) b s) m)

unfoldable pub part_post_call : List ℕ → ℕ → State → ℕ → ℕ → Answered State
part_post_call bytes route s b m =
    answered (first_of (part_post_lines bytes route s b m))
    (to_part (recipe bytes route) b (marked (from_part (recipe bytes route) b s) m)) s

-- ---- message m arrives with these words; 11 where the processor takes no such message, 14 where it came before

abbrev pub part_arrive_lines : List ℕ → ℕ → State → ℕ → ℕ → List ℕ → List Line
part_arrive_lines bytes route s b m words =
    board_lines bytes route b
    ++ (line 9 (not (part_fits (recipe bytes route) b s and as_long (recipe bytes route) m words))
    ∷ line 10 (not (fit (recipe bytes route) (from_part (recipe bytes route) b s)))
    ∷ line 11 (not (taken_by (recipe bytes route) b m))
    ∷ line 14 (not (slice_index (from_part (recipe bytes route) b s).status m == 0)) ∷ [])

unfoldable pub part_arrive_call : List ℕ → ℕ → State → ℕ → ℕ → List ℕ → Answered State
part_arrive_call bytes route s b m words =
    answered (first_of (part_arrive_lines bytes route s b m words))
    (to_part (recipe bytes route) b (received (recipe bytes route) (from_part (recipe bytes route) b s) m words)) s

-- ---- collecting: only its memory and its record are lent, and a grid of a word for each cell. Its own cells' words are put there, and the boundary's word
-- where a cell is outside the shape; every other word of the grid is as before. So the grid is whole once each processor's part was put there, in any order

unfoldable pub part_collected : Plan → ℕ → State → List ℕ → List ℕ
part_collected p b s grid =
    tabulate (λ c. pick (p.inside c) (pick (owns p b c) (slice_index (memory_of p (from_part p b s) b) c) (slice_index grid c)) p.boundary) p.cells

unfoldable pub collect_fits : Plan → ℕ → State → List ℕ → Bool
collect_fits p b s grid =
    nat_eq (length s.memories) (length (kept_cells p b)) and (nat_eq (length s.progress) 3 and nat_eq (length grid) p.cells)

abbrev pub part_collect_lines : List ℕ → ℕ → State → ℕ → List ℕ → List Line
part_collect_lines bytes route s b grid =
    board_lines bytes route b
    ++ (line 9 (not (collect_fits (recipe bytes route) b s grid))
    ∷ line 10 (not (fit_record (recipe bytes route) (from_part (recipe bytes route) b s) b))
    ∷ line 15 (tiles_left (recipe bytes route) (from_part (recipe bytes route) b s) b) ∷ [])

unfoldable pub part_collect_call : List ℕ → ℕ → State → ℕ → List ℕ → Answered (List ℕ)
part_collect_call bytes route s b grid =
    answered (first_of (part_collect_lines bytes route s b grid)) (part_collected (recipe bytes route) b s grid) grid
