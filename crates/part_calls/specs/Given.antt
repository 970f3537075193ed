-- For contracts below the calls: no reader needs it.
-- What the code below the calls for one processor gives past their first lines: a fresh start, a message handed over or arrived, cells collected, rows.
-- No sentence of document 01.
use Rattle.std.specs.Prelude.{◌≡◌, ℕ, ◌*◌, ◌<◌, ◌≤◌, true, List, [], ◌∷◌, length, ◌==◌, nat_lt, slice_index, slice_set}
use Rattle.base.specs.Tests.{◌and◌, not, pick}
use Rattle.base.specs.Lists.{put}
use Rattle.base.specs.Numbers.{Line, line, first_of}
use Rattle.machine.specs.Plan.{Plan, count}
use Rattle.machine.specs.Machine.{State, state_of, tiles_left, fit_record, fit, Answered, answered, deliver_lines, fresh}
use Rattle.nest.specs.declared.Nest.{Nest}
use Rattle.nest.specs.Shape.{in_shape}
use Rattle.network.specs.Apart.{marked, received}
use Rattle.network.specs.Own.{handles, handled}
use Rattle.network.specs.Brought.{taken_by, as_long}
use Rattle.rank_index.specs.Ranks.{marked_at, marked_cells, rank_at}
use Rattle.part.specs.Part.{words_of, rank_of, mail_at, part_fits}
use Rattle.part_calls.specs.front.Calls.{from_part, to_part, part_rows, part_collected, collect_fits}

-- ---- past the first lines

abbrev pub fresh_or : Plan → ℕ → State → Answered State
fresh_or p b s = answered (first_of (line 9 (not (part_fits p b s)) ∷ [])) (to_part p b (fresh p)) s

abbrev pub post_lines : Plan → ℕ → State → ℕ → List Line
post_lines p b s m = line 9 (not (part_fits p b s)) ∷ deliver_lines p (from_part p b s) m

abbrev pub posted_or : Plan → ℕ → State → ℕ → Answered State
posted_or p b s m = answered (first_of (post_lines p b s m)) (to_part p b (marked (from_part p b s) m)) s

abbrev pub arrive_lines : Plan → ℕ → State → ℕ → List ℕ → List Line
arrive_lines p b s m words =
    line 9 (not (part_fits p b s and as_long p m words))
    ∷ line 10 (not (fit p (from_part p b s)))
    ∷ line 11 (not (taken_by p b m))
    ∷ line 14 (not (slice_index (from_part p b s).status m == 0)) ∷ []

abbrev pub arrives_or : Plan → ℕ → State → ℕ → List ℕ → Answered State
arrives_or p b s m words = answered (first_of (arrive_lines p b s m words)) (to_part p b (received p (from_part p b s) m words)) s

-- ---- past the lines before, by the part's own words

-- the mark of message m, 0 where the processor handles no such message
abbrev pub mark_in : Plan → ℕ → List ℕ → ℕ → ℕ
mark_in p b marks m = pick (handles p b m) (slice_index marks (rank_of p b m)) 0

-- 11, 14, or the message is handed over
abbrev pub handed_over : Plan → ℕ → State → ℕ → Answered State
handed_over p b s m =
    answered (first_of (line 11 (not (nat_lt m (count p))) ∷ line 14 (not (mark_in p b s.status m == 1)) ∷ []))
    (state_of s.memories s.buffer s.progress (slice_set s.status (rank_of p b m) 2)) s

-- the areas in which a message arrives, and its words
pub record MayArrive (p : Plan) (b : ℕ) (mail marks : List ℕ) (m : ℕ) (words : List ℕ) : Type 0 where
  pub mail_long : length mail ≡ words_of p (handled p b)
  pub marks_long : length marks ≡ length (handled p b)
  pub long : as_long p m words ≡ true

-- 11, 14, or the message is there
abbrev pub arrived_or : Plan → ℕ → State → ℕ → List ℕ → Answered State
arrived_or p b s m words =
    answered (first_of (line 11 (not (taken_by p b m)) ∷ line 14 (not (mark_in p b s.status m == 0)) ∷ []))
    (state_of s.memories (put s.buffer (mail_at p b m) words) s.progress (slice_set s.status (rank_of p b m) 2)) s

-- ---- collecting

-- a cell's word: outside the shape the boundary's, else as it was; of an own cell the part's, else as it was
abbrev pub outside_word : Nest → List ℕ → ℕ → ℕ
outside_word x grid c = pick (in_shape x c) (slice_index grid c) x.boundary

abbrev pub grid_word : List ℕ → List ℕ → List ℕ → List ℕ → ℕ → ℕ
grid_word owned kept memory grid c = pick (marked_at owned c) (slice_index memory (rank_at kept c)) (slice_index grid c)

-- a mark for each cell of the grid: own cells are kept, and the part has a word for each kept cell
pub record Within (owned kept memory grid : List ℕ) : Type 0 where
  pub few : length grid ≤ 16384
  pub owned_long : length owned ≡ length grid
  pub kept_long : length kept ≡ length grid
  pub memory_long : length memory ≡ length (marked_cells kept)
  pub inner : (c : ℕ) → c < length grid → marked_at owned c ≡ true → marked_at kept c ≡ true

abbrev pub collect_lines : Plan → ℕ → State → List ℕ → List Line
collect_lines p b s grid =
    line 9 (not (collect_fits p b s grid)) ∷ line 10 (not (fit_record p (from_part p b s) b)) ∷ line 15 (tiles_left p (from_part p b s) b) ∷ []

abbrev pub collected_or : Plan → ℕ → State → List ℕ → Answered (List ℕ)
collected_or p b s grid = answered (first_of (collect_lines p b s grid)) (part_collected p b s grid) grid

-- ---- its messages

abbrev pub rows_or : Plan → ℕ → List ℕ → Answered (List ℕ)
rows_or p b out = answered (first_of (line 9 (not (length out == 7 * length (handled p b))) ∷ [])) (part_rows p b (handled p b)) out
