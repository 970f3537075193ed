-- Laws of collecting: a row of cells has one processor, and the grid once some rows are copied.
use Prim.Native.Nat.{ℕ, zero, suc, ◌+◌, ◌*◌, ◌-◌, ◌%◌, ◌≤◌, ◌<◌}
use mathlib.Core.Path.{◌≡◌, sym, ap, ◌∙◌, subst}
use mathlib.Core.List.{List, []}
use native.Mathlib.Nat.{add_assoc, zero-add, zero-mod, add-mod_right}
use native.Mathlib.Decide.{dec_lt}
use native.Mathlib.Omega.{arith}
use lib.ListN.{length, get_or, take, drop}
use lib.Seq.{get_or-take, get_or-drop}
use borrow.Rule.Slice.PartMut.{put_mid}
use Rattle.base.specs.Tests.{pick}
use Rattle.base.specs.Lists.{sublist, put}
use Rattle.base.proofs.Lists.{length_put, part_length, part_put_same, part_put_before}
use Rattle.machine.specs.Machine.{state_of, collected}
use Rattle.nest.specs.declared.Nest.{Nest}
use Rattle.nest.specs.Accepted.{Accepted}
use Rattle.nest.specs.Nest.{length_of, cells, processors}
use Rattle.plan.specs.declared.Route.{Route}
use Rattle.nest.specs.Places.{place, cell_place, box_tile_of}
use Rattle.plan.specs.Geometry.{processor_of}
use Rattle.plan.specs.Messages.{box_plan}
use Rattle.nest.proofs.Rank.{place_last}
use Rattle.layout.specs.declared.Sizes.{Sizes}
use Rattle.layout.specs.Sizes.{Sized}
use Rattle.layout.proofs.CellRows.{row_before, row_low}
use Rattle.layout.proofs.Processors.{one_processor}
use Rattle.base.proofs.Stored.{Stored, store_start, stored_all}
use Rattle.stages.proofs.Parts.{back, mid_is, mid_length, room}

-- ---- rows

-- cells of a row: the length of the last dimension
abbrev pub row_length : Nest → ℕ
row_length x = length_of x (x.dimensions - 1)

last_is : (N : ℕ → ℕ) (d c : ℕ) → 1 ≤ d → place N d c (d - 1) ≡ c % N (d - 1)
last_is N zero c p = absurd (omega arith)
last_is N (suc l) c p = let z : suc l - 1 ≡ l = omega arith in rw z (place_last N l c)

-- a row begins at cell c
module _ (x : Nest) (ok : Accepted x) (c : ℕ) (begins : c % row_length x ≡ 0) where
  inside : (y : ℕ) → y < row_length x → place (length_of x) x.dimensions c (x.dimensions - 1) + y < row_length x
  inside y h = omega (arith, last_is (length_of x) x.dimensions c (omega (arith, ok.dimensions_least)), begins)

  row_processor : (y : ℕ) → y < row_length x → processor_of x (box_tile_of x (c + y)) ≡ processor_of x (box_tile_of x c)
  unfolding cell_place
  row_processor y h =
      one_processor x ok (c + y) c
      (λ j l. row_before (length_of x) x.dimensions c y (omega (arith, ok.dimensions_least)) (inside y h) j (omega (arith, ok.spread_low)))

  row_some : 1 ≤ row_length x
  row_some = ok.long (x.dimensions - 1) (omega (arith, ok.dimensions_least))

  row_fits : c < cells x → c + row_length x ≤ cells x
  unfolding cells
  row_fits l =
      omega (
        arith,
        row_low (length_of x) x.dimensions c (row_length x - 1) (omega (arith, ok.dimensions_least)) (inside (row_length x - 1) (omega (arith, row_some))) l,
        row_some,
      )

-- ---- words

at_part : (l : List ℕ) (i n k : ℕ) → k < n → get_or (sublist l i n) k 0 ≡ get_or l (i + k) 0
unfolding sublist
at_part l i n k h = get_or-take n (drop i l) k 0 h ∙ get_or-drop i l k 0

-- the word of cell c in the memory of its tile's processor
abbrev pub cell_word : Nest → List ℕ → ℕ → ℕ
cell_word x memories c = get_or (sublist memories (processor_of x (box_tile_of x c) * cells x) (cells x)) c 0

cell_word_lem : (x : Nest) (memories : List ℕ) (c b : ℕ) → c < cells x → b ≡ processor_of x (box_tile_of x c)
    → get_or memories (b * cells x + c) 0 ≡ cell_word x memories c
cell_word_lem x memories c b h e = rw e (sym (at_part memories (processor_of x (box_tile_of x c) * cells x) (cells x) c h))

-- words put from place c on, behind the first c words of f
module _ (f : ℕ → ℕ) (old new s : List ℕ) (c : ℕ) (g : Stored f old new c) (fits : c + length s ≤ length new)
    (each : (y : ℕ) → y < length s → get_or s y 0 ≡ f (c + y)) where
  before : (j : ℕ) → j < c → get_or (put new c s) j 0 ≡ f j
  before j h =
      sym (front (put new c s)) ∙ ap (λ (z : List ℕ). get_or z j 0) (part_put_before new c s fits 0 c (omega arith)) ∙ front new ∙ g.each j h
    where
      front : (l : List ℕ) → get_or (sublist l 0 c) j 0 ≡ get_or l j 0
      front l = at_part l 0 c j h ∙ ap (λ (i : ℕ). get_or l i 0) (zero-add j)

  within : (y : ℕ) → y < length s → get_or (put new c s) (c + y) 0 ≡ f (c + y)
  within y h = sym (at_part (put new c s) c (length s) y h) ∙ ap (λ (z : List ℕ). get_or z y 0) (part_put_same new c s fits) ∙ each y h

  stored_more : Stored f old (put new c s) (c + length s)
  stored_more = record { long = length_put new c s fits ∙ g.long; low = omega (arith, g.long); each = λ j l. go j l (dec_lt j c) }
    where
      go : (j : ℕ) → j < c + length s → Dec (j < c) → get_or (put new c s) j 0 ≡ f j
      go j l (yes h) = before j h
      go j l (no h) =
          let e : j ≡ c + (j - c) = omega arith in
          rw e (within (j - c) (omega arith))

-- ---- the grid

-- the rows before cell c are copied, and a row begins there
pub record Copied (x : Nest) (memories old new : List ℕ) (c : ℕ) : Type 0 where
  pub stored : Stored (cell_word x memories) old new c
  pub begins : c % row_length x ≡ 0

-- the row from there on, in the grid and in the memory of processor b; the code has the number of cells as k
pub record Row (x : Nest) (memories new : List ℕ) (c b k : ℕ) : Type 0 where
  pub accepted : Accepted x
  pub count : k ≡ cells x
  pub some : 1 ≤ row_length x
  pub ends : c + row_length x ≤ k
  pub fits : c + row_length x ≤ length new
  pub room : b * k + c + row_length x ≤ length memories

pub copied_none : (x : Nest) (memories old : List ℕ) → Copied x memories old old 0
copied_none x memories old = record { stored = store_start (cell_word x memories) old; begins = zero-mod (row_length x) }

pub row_at : {x : Nest} {z : Sizes} {memories old new : List ℕ} {c b : ℕ} → Sized x z → (length memories ≡ processors x * cells x) × (length old ≡ cells x)
    → Copied x memories old new c → c < z.cells → b < processors x → Row x memories new c b z.cells
row_at {x} {z} {memories} {old} {new} {c} {b} s long g l h =
    let ends : c + row_length x ≤ z.cells = omega (arith, row_fits x s.accepted c g.begins (omega (arith, s.cells)), s.cells) in
    record {
      accepted = s.accepted;
      count = s.cells;
      some = row_some x s.accepted c g.begins;
      ends = ends;
      fits = omega (arith, ends, s.cells, long.1, g.stored.long);
      room = omega (arith, ends, room (processors x) b z.cells (cells x) (length memories) h s.cells long.0);
    }

module _ {x : Nest} {memories old new : List ℕ} {c b k : ℕ} (g : Copied x memories old new c) (r : Row x memories new c b k) where
  abbrev words : List ℕ
  words = sublist memories (b * k + c) (row_length x)

  words_long : length words ≡ row_length x
  words_long = part_length memories (b * k + c) (row_length x) r.room

  -- as much is lent of the grid as of the memories
  pub row_same : length (take (c + row_length x - c) (drop c new)) ≡ length (take (b * k + c + row_length x - (b * k + c)) (drop (b * k + c) memories))
  row_same = mid_length new c (row_length x) r.fits ∙ sym (mid_length memories (b * k + c) (row_length x) r.room)

  module _ {t : ℕ} (tile : t ≡ box_tile_of x c) (processor : b ≡ processor_of x t) where
    each_word : (y : ℕ) → y < length words → get_or words y 0 ≡ cell_word x memories (c + y)
    each_word y h =
        let v : y < row_length x = omega (arith, words_long) in
        at_part memories (b * k + c) (row_length x) y v
        ∙ ap (λ (i : ℕ). get_or memories i 0) (add_assoc (b * k) c y)
        ∙ ap (λ (i : ℕ). get_or memories (b * i + (c + y)) 0) r.count
        ∙ cell_word_lem x memories (c + y) b (omega (arith, r.ends, r.count))
        (processor ∙ ap (processor_of x) tile ∙ sym (row_processor x r.accepted c g.begins y v))

    more : Stored (cell_word x memories) old (put new c words) (c + row_length x)
    more =
        subst (λ (n : ℕ). Stored (cell_word x memories) old (put new c words) (c + n)) words_long
        (stored_more (cell_word x memories) old new words c g.stored (omega (arith, words_long, r.fits)) each_word)

    pub copied_more : {row : List ℕ} → row ≡ take (b * k + c + row_length x - (b * k + c)) (drop (b * k + c) memories)
        → Copied x memories old (put_mid c (c + row_length x - c) new row) (c + row_length x)
    copied_more {row} e =
        record {
          stored = rw (back new row (λ _. words) c (row_length x) r.fits (ap length e ∙ sym row_same) (e ∙ mid_is memories (b * k + c) (row_length x))) more;
          begins = add-mod_right c (row_length x) ∙ g.begins;
        }

pub copied_all : (route : Route) {x : Nest} {memories old new : List ℕ} {c k : ℕ} → Copied x memories old new c → length old ≡ cells x
    → k ≡ cells x → k ≤ c → new ≡ collected (box_plan route x) (state_of memories [] [] [])
unfolding collected pick
copied_all route {x} {memories} {old} {new} {c} g e z h = stored_all (cell_word x memories) old new c (cells x) g.stored e (omega arith)
