-- Laws of the cells' processors: a row has one, and the words of the rows passed.
use Rattle.std.specs.Prelude.{◌≡◌, ℕ, ◌+◌, ◌-◌, ◌*◌, ◌<◌, ◌≤◌, Bool, true, false, List, length, get_or, take, drop}
use mathlib.Core.Path.{refl, sym, ap, ◌∙◌}
use native.Mathlib.Nat.{zero-mul, mul-le-mul_left}
use native.Mathlib.Decide.{dec_lt}
use native.Mathlib.Omega.{arith}
use borrow.Author.Tests.{ne_eqb, le-leb, lt-leb, lt-ltb, le-ltb}
use borrow.Rule.Slice.PartMut.{put_mid}
use Rattle.base.specs.Tests.{pick, tabulate}
use Rattle.base.specs.Lists.{put}
use Rattle.base.proofs.Tests.{pick_true, pick_false, and_false, and_no, and_true, tabulate_at}
use Rattle.base.proofs.Lists.{length_put}
use Rattle.base.proofs.Entries.{put_same, put_before}
use Rattle.nest.specs.declared.Nest.{Nest}
use Rattle.nest.specs.declared.Interval.{Interval}
use Rattle.nest.specs.Accepted.{Accepted}
use Rattle.nest.specs.Nest.{length_of, cells, processors}
use Rattle.nest.specs.Places.{box_tile_of}
use Rattle.nest.specs.Shape.{in_shape}
use Rattle.nest.specs.Spans.{last, within, Spans, Row}
use Rattle.nest.proofs.Shapes.{framed, cell_place_row, span_row}
use Rattle.plan.specs.declared.Route.TheVariants.{Direct}
use Rattle.plan.specs.Geometry.{processor_of}
use Rattle.plan.specs.Shaped.{plan_of}
use Rattle.plan.proofs.ShapedTiles.{box_tile_tile_of}
use Rattle.layout.proofs.CellRows.{row_in, row_next}
use Rattle.layout.proofs.Processors.{one_processor}
use Rattle.base.proofs.Stored.{Stored, store_start, stored_all}
use Rattle.stages.proofs.Parts.{back, mid_length}
use Rattle.transport.specs.Calls.{owner_of}

-- ---- owner_at

module _ (s : Interval) (y b none : ℕ) where
  pub before : y < s.from → none ≡ pick (within s y) b none
  before h = sym (pick_false _ _ _ (and_false _ _ (lt-leb s.from y h)))

  pub inner : s.from ≤ y → y < s.to → b ≡ pick (within s y) b none
  inner h k = sym (pick_true _ _ _ (and_true (le-leb s.from y h) (lt-ltb y s.to k)))

  pub behind : s.to ≤ y → none ≡ pick (within s y) b none
  behind h = sym (pick_false _ _ _ (and_no _ _ (le-ltb y s.to h)))

-- ---- a row

pub mid_few : (l : List ℕ) (c w : ℕ) → c + w ≤ length l → length l ≤ 16384 → length (take (c + w - c) (drop c l)) ≤ 16384
mid_few l c w h k = omega (arith, mid_length l c w h)

module _ (x : Nest) (ok : Accepted x) where
  abbrev wide : ℕ
  wide = length_of x (last x)

  pub wide_some : 1 ≤ wide
  wide_some = ok.long (last x) (omega (arith, ok.dimensions_least))

  pub rows_few : (rows : ℕ) → rows * wide ≡ cells x → rows ≤ 16384
  rows_few rows e = omega (arith, mul-le-mul_left rows wide_some, ok.cells_most)

  row_processor : (q y : ℕ) → y < wide → processor_of x (box_tile_of x (q * wide + y)) ≡ processor_of x (box_tile_of x (q * wide))
  row_processor q y h =
      one_processor x ok (q * wide + y) (q * wide)
      (λ j l.
      cell_place_row x (framed x ok) q y j h (omega (arith, ok.spread_low)) ∙ pick_false _ _ _ (ne_eqb j (last x) (λ e. omega (arith, ok.spread_low))))

  -- by the numbers of the code
  module _ (q : ℕ) (at : List ℕ) (r : Row x q at) (s : Interval) (sp : Spans x at s) (t b none : ℕ) (tile : t ≡ box_tile_of x (q * wide))
      (own : b ≡ processor_of x t) (all : none ≡ processors x) where
    owner_is : (y : ℕ) → y < wide → q * wide + y < cells x → pick (within s y) b none ≡ owner_of (plan_of Direct x) (q * wide + y)
    owner_is y h l = go (in_shape x (q * wide + y)) refl
      where
        same : within s y ≡ in_shape x (q * wide + y)
        same = sym (span_row x (framed x ok) q at s r sp y h)

        go : (v : Bool) → in_shape x (q * wide + y) ≡ v → pick (within s y) b none ≡ owner_of (plan_of Direct x) (q * wide + y)
        go true e =
            pick_true _ _ _ (same ∙ e) ∙ own ∙ ap (processor_of x) tile ∙ sym (row_processor q y h)
            ∙ ap (processor_of x) (sym (box_tile_tile_of x ok (q * wide + y) l e)) ∙ sym (pick_true _ _ _ e)
        go false e = pick_false _ _ _ (same ∙ e) ∙ all ∙ sym (pick_false _ _ _ e)

    -- the row's words come back behind those of the rows before
    module _ (old new row : List ℕ) (c w : ℕ) (wh : w ≡ wide) (at_c : c ≡ q * w) (g : Stored (owner_of (plan_of Direct x)) old new c)
        (fits : c + w ≤ cells x) (long : length old ≡ cells x) (n : length row ≡ length (take (c + w - c) (drop c new)))
        (is : row ≡ tabulate (λ y. pick (within s y) b none) (length (take (c + w - c) (drop c new)))) where
      room : c + w ≤ length new
      room = omega (arith, g.long)

      row_long : length row ≡ w
      row_long = n ∙ mid_length new c w room

      words : (y : ℕ) → y < w → get_or row y 0 ≡ owner_of (plan_of Direct x) (c + y)
      words y h =
          let z : c ≡ q * wide = at_c ∙ ap (λ (a : ℕ). q * a) wh in
          ap (λ (l : List ℕ). get_or l y 0) is
          ∙ tabulate_at (λ y. pick (within s y) b none) (length (take (c + w - c) (drop c new))) y (omega (arith, mid_length new c w room))
          ∙ owner_is y (omega (arith, wh)) (omega (arith, z)) ∙ ap (λ (a : ℕ). owner_of (plan_of Direct x) (a + y)) (sym z)

      placed : put_mid c (c + w - c) new row ≡ put new c row
      placed = back new row (λ _. row) c w room n refl

      word_at : (j : ℕ) → j < c + w → Dec (j < c) → get_or (put new c row) j 0 ≡ owner_of (plan_of Direct x) j
      word_at j l (yes h) = put_before new c row (omega (arith, row_long, room)) j h ∙ g.each j h
      word_at j l (no h) =
          let e : j ≡ c + (j - c) = omega arith in
          rw e (put_same new c row (omega (arith, row_long, room)) (j - c) (omega (arith, row_long)) ∙ words (j - c) (omega arith))

      pub row_stored : Stored (owner_of (plan_of Direct x)) old (put_mid c (c + w - c) new row) ((q + 1) * w)
      row_stored =
          let e : (q + 1) * w ≡ c + w = row_next w q q ∙ ap (λ (a : ℕ). a + w) (sym at_c) in
          rw (placed, e) (record {
            long = length_put new c row (omega (arith, row_long, room)) ∙ g.long;
            low = omega (arith, long);
            each = λ j l. word_at j l (dec_lt j c);
          })

  pub rows_start : (old : List ℕ) (w : ℕ) → Stored (owner_of (plan_of Direct x)) old old (0 * w)
  rows_start old w = rw (zero-mul w) (store_start (owner_of (plan_of Direct x)) old)

  -- row q of so many ends in the box
  pub row_ends : (rows q w : ℕ) → w ≡ wide → rows * wide ≡ cells x → q < rows → q * w + w ≤ cells x
  row_ends rows q w e all h = omega (arith, row_in w q rows h, ap (λ (a : ℕ). rows * a) e)

  pub rows_all : (rows q w : ℕ) (old new : List ℕ) → w ≡ wide → rows * wide ≡ cells x → q ≤ rows → rows ≤ q → length old ≡ cells x
      → Stored (owner_of (plan_of Direct x)) old new (q * w) → new ≡ tabulate (owner_of (plan_of Direct x)) (cells x)
  rows_all rows q w old new e all h k long g =
      let z : q ≡ rows = omega arith in
      let m : q * w ≡ cells x = ap (λ (a : ℕ). a * w) z ∙ ap (λ (a : ℕ). rows * a) e ∙ all in
      stored_all (owner_of (plan_of Direct x)) old new (q * w) (cells x) g long (omega arith)
