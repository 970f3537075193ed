-- For contracts below the calls: no reader needs it.
-- Rows of a nest with bounds: which of their cells are in the shape, where each distance reads a cell of it, and the words made of that.
-- No sentence of document 02.
use Rattle.std.specs.Prelude.{ℕ, ◌+◌, ◌*◌, ◌-◌, ◌/◌, ◌%◌, ◌^◌, ◌≤◌, ◌<◌, ◌≡◌, Bool, true, List, get_or, ltb, leb}
use Rattle.base.specs.Tests.{◌and◌, pick, sum}
use Rattle.base.specs.Lists.{sublist}
use Rattle.nest.specs.declared.Nest.{Nest}
use Rattle.nest.specs.declared.Interval.{Interval}
use Rattle.nest.specs.Nest.{cells}
use Rattle.nest.specs.Places.{cell_place, box_tile_of}
use Rattle.nest.specs.Shape.{in_shape}
use Rattle.nest.specs.Spans.{last, within}
use Rattle.plan.specs.Geometry.{processor_of}
use Rattle.plan.specs.Shaped.{reads_shape}

-- f's word for a cell in the shape; to a cell outside, what stands there
unfoldable pub inside_only : Nest → (List ℕ → ℕ → ℕ) → List ℕ → ℕ → ℕ
inside_only x f memory c = pick (in_shape x c) (f memory c) (get_or memory c 0)

-- the word of cell c in the memory of its tile's processor
unfoldable pub held_word : Nest → List ℕ → List ℕ → ℕ → ℕ
held_word x memories grid c = get_or (sublist memories (processor_of x (box_tile_of x c) * cells x) (cells x)) c 0

-- cell c stands in the row of a place
pub record Along (x : Nest) (at : List ℕ) (c : ℕ) : Type 0 where
  pub low : c < cells x
  pub same : (j : ℕ) → j < last x → cell_place x c j ≡ get_or at j 0

-- a number from `low` on, below `high`
abbrev pub between : ℕ → ℕ → ℕ → Bool
between low high a = leb low a and ltb a high

-- of a row's last components, `width` of them from `first` on, the second interval has those of the first
pub record Overlaps (s : Interval) (first width : ℕ) (r : Interval) : Type 0 where
  pub least : first ≤ r.from
  pub rises : r.from ≤ r.to
  pub most : r.to ≤ first + width
  pub has : (a : ℕ) → first ≤ a → a < first + width → within r a ≡ within s a

-- in the row of a place distance e reads a cell of the shape just from `low` on, below `high`
pub record ReadsRun (x : Nest) (at : List ℕ) (e low high : ℕ) : Type 0 where
  pub is : (c : ℕ) → Along x at c → between low high (cell_place x c (last x)) ≡ reads_shape x c e

pub record ReadsRuns (x : Nest) (at firsts ends : List ℕ) : Type 0 where
  pub each : (e : ℕ) → e < x.distances → ReadsRun x at e (get_or firsts e 0) (get_or ends e 0)

-- the word of cell c, whose source is at s and whose last component is a: distance k gives the word so far back, or the boundary's where it reads none
unfoldable pub mixed_word : ℕ → List ℕ → List ℕ → List ℕ → List ℕ → ℕ → ℕ → List ℕ → ℕ → ℕ → List ℕ → ℕ → ℕ
mixed_word n firsts ends backs weights boundary shift source s a memory c =
    (get_or source s 0 + sum (λ k. get_or weights k 0 * pick (between (get_or firsts k 0) (get_or ends k 0) a) (get_or memory (c - get_or backs k 0) 0) boundary) n)
    / 2 ^ shift % 4294967296

-- the same along a row, whose cell c₀ has its source at s and component a
abbrev pub mixed_along : ℕ → List ℕ → List ℕ → List ℕ → List ℕ → ℕ → ℕ → List ℕ → ℕ → ℕ → ℕ → List ℕ → ℕ → ℕ
mixed_along n firsts ends backs weights boundary shift source s c₀ a memory c =
    mixed_word n firsts ends backs weights boundary shift source (s + (c - c₀)) (a + (c - c₀)) memory c

-- the words of the cells from c on, whose source is from s on and whose component is a, `span` of them, can be made: each distance that reads a cell
-- finds it, no sum is too large
pub record Readable (n : ℕ) (firsts ends backs weights : List ℕ) (boundary shift s c a span sources words : ℕ) : Type 0 where
  pub few : n ≤ 8
  pub back : (k y : ℕ) → k < n → y < span → between (get_or firsts k 0) (get_or ends k 0) (a + y) ≡ true → get_or backs k 0 ≤ c + y
  pub light : (k : ℕ) → k < n → get_or weights k 0 < 65536
  pub beyond : boundary < 4294967296
  pub divides : shift < 64
  pub inner : c + span ≤ words
  pub given : s + span ≤ sources
  pub small : words ≤ 16384
  pub few_given : sources ≤ 16384
  pub narrow : a + span ≤ 1024
