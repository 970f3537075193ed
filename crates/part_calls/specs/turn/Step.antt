-- For contracts below the calls: no reader needs it.
-- What the code of a turn is given and gives below its first lines: a part of its lengths, where the handled messages stand in it, the machine's answer.
-- No sentence of document 01.
use Rattle.std.specs.Prelude.{◌≡◌, ℕ, ◌+◌, ◌<◌, ◌≤◌, true, List, [], ◌∷◌, length, nat_eq, slice_index, slice_index_or}
use Rattle.base.specs.Tests.{◌and◌, not}
use Rattle.base.specs.Lists.{In, sublist, unpack}
use Rattle.base.specs.Numbers.{line, first_of}
use Rattle.machine.specs.Plan.{Plan, count, held_by, tiles_of}
use Rattle.machine.specs.Machine.{State, fit, Answered, answered, turn_lines}
use Rattle.tables.specs.declared.Table.{Table}
use Rattle.tables.specs.Given.{plan_of_table}
use Rattle.network.specs.Own.{keeps, own_cells, kept_cells, handled}
use Rattle.part.specs.Part.{words_of, part_fits}
use Rattle.part_calls.specs.front.Calls.{from_part, to_part, stepped}
use Rattle.part_calls.specs.front.Given.{Known, Cells, PartLengths}

-- each lent area of processor b has exactly its length, but for the record
pub record Lengths (p : Plan) (b : ℕ) (words letters bytes : List ℕ) : Type 0 where
  pub memory : length words ≡ length (kept_cells p b)
  pub mail : length letters ≡ words_of p (handled p b)
  pub marks : length bytes ≡ length (handled p b)

-- what is found once of processor b's messages, and its kept cells
pub record Tables (t : Table) (b : ℕ) (kept counts rank place : List ℕ) : Type 0 where
  pub known : Known t b rank place
  pub cells : Cells t.layout.nest (keeps (plan_of_table t) b) kept counts

-- the marks of these messages are among n, their words among n words
pub record Ranked (p : Plan) (ordinals ms : List ℕ) (n : ℕ) : Type 0 where
  pub few : count p ≤ 7168
  pub low : (m : ℕ) → In m ms → slice_index ordinals m < n

pub record Placed (p : Plan) (starts ms : List ℕ) (n : ℕ) : Type 0 where
  pub few : count p ≤ 7168
  pub low : (m : ℕ) → In m ms → slice_index starts m + length (held_by p m) ≤ n

-- processor b keeps words of all cells of message m
abbrev pub Keeping : Plan → ℕ → ℕ → Type 0
Keeping p b m = (c : ℕ) → In c (held_by p m) → keeps p b c ≡ true

-- the words of these messages out of a mail, where their places are told, into a memory
unfoldable pub unpack_from : Plan → List ℕ → List ℕ → List ℕ → List ℕ → List ℕ
unpack_from p starts mail memory [] = memory
unpack_from p starts mail memory (m ∷ ms) =
    unpack_from p starts mail (unpack memory (held_by p m) (sublist mail (slice_index starts m) (length (held_by p m)))) ms

-- by its record, of which l are the words, processor b has tiles left and stands at tile t
pub record Stands (p : Plan) (l : List ℕ) (b t : ℕ) : Type 0 where
  pub left : slice_index_or l 0 0 < length (tiles_of p b)
  pub tile : t ≡ slice_index (tiles_of p b) (slice_index l 0)
  pub low : t < p.tiles
  pub few : slice_index_or l 0 0 < 16384

-- lines 9, 10 and 11 of a turn are false
pub record MayStep (p : Plan) (source : List ℕ) (s : State) (b : ℕ) : Type 0 where
  pub own : length source ≡ length (own_cells p b)
  pub lengths : PartLengths p b s
  pub fit : fit p (from_part p b s) ≡ true
  pub processor : b < p.processors

-- past the lines before it: the machine's number, and the part after the turn; and with line 9
abbrev pub stepped_or : Plan → List ℕ → State → ℕ → Answered State
stepped_or p source s b = answered (first_of (turn_lines p (from_part p b s) b)) (to_part p b (stepped p b source s)) s

abbrev pub turned_or : Plan → List ℕ → State → ℕ → Answered State
turned_or p source s b =
    answered
    (first_of (line 9 (not (nat_eq (length source) (length (own_cells p b)) and part_fits p b s)) ∷ turn_lines p (from_part p b s) b))
    (to_part p b (stepped p b source s)) s
