-- The words of a row: values made of what the distances read, and words of the memories.
use Prim.Native.Nat.{ℕ, zero, suc, ◌+◌, ◌*◌, ◌-◌, ◌/◌, ◌%◌, ◌^◌, ◌≤◌, ◌<◌}
use mathlib.Core.Path.{◌≡◌, refl, sym, ap, ◌∙◌, subst}
use native.Mathlib.Nat.{mul-le-mul, mul-le-mul_left}
use mathlib.Core.Logic.{◌⊎◌, inl, inr}
use mathlib.Core.Bool.{Bool, true, false}
use mathlib.Core.List.{List}
use native.Mathlib.Decide.{dec_lt}
use native.Mathlib.Omega.{arith}
use lib.ListN.{get_or, set, drop}
use lib.Seq.{get_or-take, get_or-drop}
use Rattle.base.specs.Tests.{pick, product}
use Rattle.base.specs.Lists.{store_all, sublist}
use Rattle.base.proofs.Tests.{both, sum_same, pick_false}
use Rattle.base.proofs.Lists.{piece_fits}
use Rattle.nest.specs.declared.Nest.{Nest}
use Rattle.nest.specs.declared.Interval.{Interval}
use Rattle.nest.specs.Accepted.{Accepted}
use Rattle.nest.specs.Nest.{length_of, weight, cells, processors}
use Rattle.nest.specs.Places.{place, cell_place, box_tile_of}
use Rattle.nest.specs.Shape.{in_shape}
use Rattle.nest.specs.Spans.{last, within, Spans, Row, Narrow}
use Rattle.plan.specs.Geometry.{processor_of, read_at}
use Rattle.plan.specs.Box.{box_size, box_cell}
use Rattle.plan.specs.Shaped.{reads_shape, shaped_value}
use Rattle.plan.proofs.Tiles.{cell_place_low}
use Rattle.layout.proofs.Processors.{one_processor}
use Rattle.layout.specs.declared.Cell.{Cell}
use Rattle.layout.specs.declared.Bounds.{Bounds}
use Rattle.layout.specs.Places.{nth, Located, Bounded}
use Rattle.layout.specs.CellRows.{row_of}
use Rattle.layout.proofs.Cells.{box_countable}
use Rattle.layout.proofs.CellRows.{row_before, row_last, row_low, row_start, row_in, box_row, box_all}
use Rattle.kernels.proofs.Sums.{Mixing}
use Rattle.values.specs.row_values.Reads.{Backs}
use Rattle.values.proofs.row_values.Words.{back_is}
use Rattle.values.specs.shaped_values.Rows.{inside_only, held_word, Along, between, Overlaps, ReadsRuns, mixed_word, mixed_along, Readable}
use Rattle.values.proofs.shaped_values.Runs.{in_run, out_run, span_cell}
use Rattle.values.proofs.shaped_values.Stores.{row_cut, row_out}

at_part : (l : List ℕ) (i n k : ℕ) → k < n → get_or (sublist l i n) k 0 ≡ get_or l (i + k) 0
unfolding sublist
at_part l i n k h = get_or-take n (drop i l) k 0 h ∙ get_or-drop i l k 0

-- ---- a sum closed

pub mixing_end : (n : ℕ) (firsts ends backs weights : List ℕ) (boundary shift : ℕ) (source memory : List ℕ) (s c a total k : ℕ)
    → Mixing n weights (λ i. pick (between (get_or firsts i 0) (get_or ends i 0) a) (get_or memory (c - get_or backs i 0) 0) boundary) (get_or source s 0) total k → n ≤ k
    → (r : ℕ) → r ≡ total / 2 ^ shift % 4294967296 → r ≡ mixed_word n firsts ends backs weights boundary shift source s a memory c
unfolding mixed_word
mixing_end n firsts ends backs weights boundary shift source memory s c a total k m h r e =
    let z : k ≡ n = omega (arith, m.low) in
    e ∙ ap (λ (b : ℕ). b / 2 ^ shift % 4294967296) (rw z at m.is)

-- one cell of those that can be made
pub readable_at : {n : ℕ} {firsts ends backs weights : List ℕ} {boundary shift s c a span sources words : ℕ} → Readable n firsts ends backs weights boundary
    shift s c a span sources words
    → (y words' : ℕ) → y < span → words' ≡ words → Readable n firsts ends backs weights boundary shift (s + y) (c + y) (a + y) 1 sources words'
readable_at {n} {firsts} {ends} {backs} {weights} {boundary} {shift} {s} {c} {a} p y words' h e =
    record {
      few = p.few;
      back = λ k z i j t. first k z i j t;
      light = p.light;
      beyond = p.beyond;
      divides = p.divides;
      inner = omega (arith, p.inner);
      given = omega (arith, p.given);
      small = omega (arith, p.small);
      few_given = p.few_given;
      narrow = omega (arith, p.narrow);
    }
  where
    first : (k z : ℕ) → k < n → z < 1 → between (get_or firsts k 0) (get_or ends k 0) (a + y + z) ≡ true → get_or backs k 0 ≤ c + y + z
    first k z i j t =
        let o : a + y + z ≡ a + y = omega arith in
        omega (arith, p.back k y i h (rw o at t))

pub first_back : {n : ℕ} {firsts ends backs weights : List ℕ} {boundary shift s c a sources words : ℕ} → Readable n firsts ends backs weights boundary shift
    s c a 1 sources words
    → (k : ℕ) → k < n → between (get_or firsts k 0) (get_or ends k 0) a ≡ true → get_or backs k 0 ≤ c
first_back {n} {firsts} {ends} {backs} {weights} {boundary} {shift} {s} {c} {a} p k h t =
    let z : a + 0 ≡ a = omega arith in
    omega (arith, p.back k 0 h (omega arith) (rw z t))

pub along_at : (n : ℕ) (firsts ends backs weights : List ℕ) (boundary shift : ℕ) (source memory : List ℕ) (s c a y v : ℕ)
    → v ≡ mixed_word n firsts ends backs weights boundary shift source (s + y) (a + y) memory (c + y)
    → set memory (c + y) v ≡ set memory (c + y) (mixed_along n firsts ends backs weights boundary shift source s c a memory (c + y))
along_at n firsts ends backs weights boundary shift source memory s c a y v e =
    let z : c + y - c ≡ y = omega arith in
    rw z (ap (set memory (c + y)) e)

module _ (x : Nest) (ok : Accepted x) where
  -- ---- the word of a cell

  module _ (at firsts ends back weights : List ℕ) (runs : ReadsRuns x at firsts ends) (backs : Backs x back) (is : weights ≡ x.weights) (c a : ℕ)
      (l : Along x at c)
      (k : a ≡ cell_place x c (last x)) where
    pub reads : (e : ℕ) → e < x.distances → between (get_or firsts e 0) (get_or ends e 0) a ≡ reads_shape x c e
    reads e h = ap (between (get_or firsts e 0) (get_or ends e 0)) k ∙ (runs.each e h).is c l

    pub found : (e : ℕ) → e < x.distances → reads_shape x c e ≡ true → get_or back e 0 + read_at x c e ≡ c
    unfolding reads_shape
    found e h t = ap (λ (b : ℕ). b + read_at x c e) (backs.each e h) ∙ back_is x ok c e l.low h (both t).0

    back_low : (e : ℕ) → e < x.distances → between (get_or firsts e 0) (get_or ends e 0) a ≡ true → get_or back e 0 ≤ c
    back_low e h t = omega (arith, found e h (sym (reads e h) ∙ t))

    mixed_is : (source memory : List ℕ)
        → mixed_word x.distances firsts ends back weights x.boundary x.shift source c a memory c ≡ shaped_value x source memory c
    unfolding mixed_word shaped_value
    mixed_is source memory =
        ap (λ (b : ℕ). (get_or source c 0 + b) / 2 ^ x.shift % 4294967296)
        (sum_same _ _ x.distances (λ e h. ap (λ (w : List ℕ). get_or w e 0 * pick (between (get_or firsts e 0) (get_or ends e 0) a)
        (get_or memory (c - get_or back e 0) 0) x.boundary) is
        ∙ ap (λ (t : Bool). weight x e * pick t (get_or memory (c - get_or back e 0) 0) x.boundary) (reads e h)
        ∙ ap (λ (b : ℕ). weight x e * b) (word e h (reads_shape x c e) refl)))
      where
        word : (e : ℕ) → e < x.distances → (t : Bool) → reads_shape x c e ≡ t
            → pick (reads_shape x c e) (get_or memory (c - get_or back e 0) 0) x.boundary ≡ pick (reads_shape x c e) (get_or memory (read_at x c e) 0) x.boundary
        word e h true q =
            let z : c - get_or back e 0 ≡ read_at x c e = omega (arith, found e h q) in
            ap (λ (i : ℕ). pick (reads_shape x c e) (get_or memory i 0) x.boundary) z
        word e h false q = pick_false _ _ _ q ∙ sym (pick_false _ _ _ q)

  -- ---- the cells of a row

  module _ (r : Cell) (l : Located x r.number r) where
    abbrev start : ℕ
    start = get_or r.place (last x) 0

    deep : 1 ≤ x.dimensions
    deep = omega (arith, ok.dimensions_least)

    at_start : cell_place x r.number (last x) ≡ start
    at_start = sym (l.place.each (last x) (omega (arith, deep)))

    pub place_narrow : Narrow x r.place
    place_narrow j o = omega (arith, l.place.each j o, cell_place_low x ok r.number j o, ok.length_most j)

    module _ (y : ℕ) (h : start + y < length_of x (last x)) where
      moved : place (length_of x) x.dimensions r.number (last x) + y < length_of x (last x)
      unfolding cell_place
      moved = omega (arith, at_start)

      pub row_along : Along x r.place (r.number + y)
      unfolding cells cell_place
      row_along = record { low = low; same = same }
        where
          low : r.number + y < cells x
          low = row_low (length_of x) x.dimensions r.number y deep moved l.low

          same : (j : ℕ) → j < last x → cell_place x (r.number + y) j ≡ get_or r.place j 0
          same j o = row_before (length_of x) x.dimensions r.number y deep moved j o ∙ sym (l.place.each j (omega arith))

      pub row_component : cell_place x (r.number + y) (last x) ≡ start + y
      unfolding cell_place
      row_component = row_last (length_of x) x.dimensions r.number y deep moved ∙ ap (λ (a : ℕ). a + y) at_start

    -- ---- a row of w cells, cut to the shape

    module _ (w : ℕ) (fits : start + w ≤ length_of x (last x)) (s k : Interval) (span : Spans x r.place s) (cut : Overlaps s start w k) where
      abbrev skipped : ℕ
      skipped = k.from - start

      abbrev kept : ℕ
      kept = k.to - k.from

      shape_at : (y : ℕ) → y < w → in_shape x (r.number + y) ≡ within k (start + y)
      shape_at y h =
          sym (span_cell x ok r.place s span (r.number + y) (row_along y (omega arith)))
          ∙ ap (within s) (row_component y (omega arith))
          ∙ sym (cut.has (start + y) (omega arith) (omega arith))

      pub cut_fits : skipped + kept ≤ w
      cut_fits = omega (arith, cut.least, cut.rises, cut.most)

      pub cut_low : r.number + skipped + kept ≤ cells x
      cut_low = omega (arith, go w fits, cut_fits)
        where
          go : (w : ℕ) → start + w ≤ length_of x (last x) → r.number + w ≤ cells x
          go zero h = omega (arith, l.low)
          go (suc w) h = omega (arith, (row_along w (omega arith)).low)

      before : (y : ℕ) → y < skipped → in_shape x (r.number + y) ≡ false
      before y h = shape_at y (omega (arith, cut_fits)) ∙ out_run k.from k.to (start + y) (inl (omega (arith, cut.least)))

      after : (y : ℕ) → skipped + kept ≤ y → y < w → in_shape x (r.number + y) ≡ false
      after y h i = shape_at y i ∙ out_run k.from k.to (start + y) (inr (omega (arith, cut.least, cut.rises)))

      pub inner : (y : ℕ) → y < kept → in_shape x (r.number + skipped + y) ≡ true
      inner y h =
          let z : r.number + skipped + y ≡ r.number + (skipped + y) = omega arith in
          rw z (shape_at (skipped + y) (omega (arith, cut_fits)) ∙ in_run k.from k.to (start + (skipped + y)) (omega (arith, cut.least))
          (omega (arith, cut.least)))

      -- the m-th cell that is kept
      pub along : (y : ℕ) → y < kept → Along x r.place (r.number + skipped + y) × (k.from + y ≡ cell_place x (r.number + skipped + y) (last x))
      along y h =
          let z : r.number + skipped + y ≡ r.number + (skipped + y) = omega arith in
          let q : start + (skipped + y) < length_of x (last x) = omega (arith, cut_fits, fits) in
          rw z (row_along (skipped + y) q, omega (arith, row_component (skipped + y) q, cut.least))

      module _ (firsts ends back weights : List ℕ) (runs : ReadsRuns x r.place firsts ends) (backs : Backs x back) (is : weights ≡ x.weights) where
        pub row_readable : (sources words : ℕ) → sources ≡ cells x → words ≡ cells x
            → Readable x.distances firsts ends back weights x.boundary x.shift (r.number + skipped) (r.number + skipped) k.from kept sources words
        row_readable sources words e g =
            record {
              few = ok.distances_most;
              back =
                  λ i y h o t. let a = along y o in back_low r.place firsts ends back weights runs backs is (r.number + skipped + y) (k.from + y) a.0
                  a.1 i h t;
              light = λ i h. rw is (ok.weight_most i);
              beyond = ok.boundary_most;
              divides = omega (arith, ok.shift_most);
              inner = cut_low' g;
              given = cut_low' e;
              small = omega (arith, ok.cells_most);
              few_given = omega (arith, ok.cells_most);
              narrow = omega (arith, ok.length_most (last x), cut.least, cut.rises, cut.most, fits);
            }
          where
            cut_low' : {n : ℕ} → n ≡ cells x → r.number + skipped + kept ≤ n
            cut_low' g = omega (arith, cut_low)

        pub row_values_lem : (source memory memory' : List ℕ)
            → memory' ≡ store_all (mixed_along x.distances firsts ends back weights x.boundary x.shift source (r.number + skipped) (r.number + skipped)
            k.from) memory (row_of (r.number + skipped) kept)
            → memory' ≡ store_all (inside_only x (shaped_value x source)) memory (row_of r.number w)
        row_values_lem source memory memory' e =
            row_cut x (shaped_value x source) _ memory memory' r.number skipped kept w cut_fits before after (λ m y h. (inner y h, word m y h)) e
          where
            word : (m : List ℕ) (y : ℕ) → y < kept
                → mixed_along x.distances firsts ends back weights x.boundary x.shift source (r.number + skipped) (r.number + skipped) k.from m
                (r.number + skipped + y)
                ≡ shaped_value x source m (r.number + skipped + y)
            word m y h =
                let z : r.number + skipped + y - (r.number + skipped) ≡ y = omega arith in
                let a = along y h in
                rw z (mixed_is r.place firsts ends back weights runs backs is (r.number + skipped + y) (k.from + y) a.0 a.1 source m)

      -- nothing is kept
      pub row_none : (f : List ℕ → ℕ → ℕ) (memory : List ℕ) → kept ≡ 0 → memory ≡ store_all (inside_only x f) memory (row_of r.number w)
      row_none f memory e =
          row_out x f memory r.number w (λ y h. shape_at y h ∙ out_run k.from k.to (start + y) (side (start + y)))
        where
          side : (a : ℕ) → (a < k.from) ⊎ (k.to ≤ a)
          side a = go (dec_lt a k.from)
            where
              go : Dec (a < k.from) → (a < k.from) ⊎ (k.to ≤ a)
              go (yes q) = inl q
              go (no q) = inr (omega (arith, cut.rises))

      -- ---- from the memories

      same_processor : (c : ℕ) → Along x r.place c → processor_of x (box_tile_of x c) ≡ processor_of x (box_tile_of x r.number)
      same_processor c a =
          one_processor x ok c r.number
          (λ j o. let q : j < last x = omega (arith, ok.spread_low) in
          a.same j q ∙ l.place.each j (omega (arith, ok.spread_low)))

      row_words : (memories grid grid' : List ℕ) (b : ℕ) → b ≡ processor_of x (box_tile_of x r.number) → (n : ℕ) → n ≡ cells x
          → grid' ≡ store_all (λ m c. get_or memories (b * n + (r.number + skipped) + (c - (r.number + skipped))) 0) grid (row_of (r.number + skipped) kept)
          → grid' ≡ store_all (inside_only x (held_word x memories)) grid (row_of r.number w)
      unfolding held_word
      row_words memories grid grid' b own n count e =
          row_cut x (held_word x memories) _ grid grid' r.number skipped kept w cut_fits before after (λ m y h. (inner y h, word m y h)) e
        where
          word : (m : List ℕ) (y : ℕ) → y < kept
              → get_or memories (b * n + (r.number + skipped) + (r.number + skipped + y - (r.number + skipped))) 0 ≡ held_word x memories m
              (r.number + skipped + y)
          word m y h =
              let a = (along y h).0 in
              let z : b * n + (r.number + skipped) + (r.number + skipped + y - (r.number + skipped)) ≡ b * n + (r.number + skipped + y) = omega arith in
              ap (λ (i : ℕ). get_or memories i 0) z
              ∙ ap (λ (i : ℕ). get_or memories (b * i + (r.number + skipped + y)) 0) count
              ∙ ap (λ (p : ℕ). get_or memories (p * cells x + (r.number + skipped + y)) 0) (own ∙ sym (same_processor (r.number + skipped + y) a))
              ∙ sym (at_part memories (processor_of x (box_tile_of x (r.number + skipped + y)) * cells x) (cells x) (r.number + skipped + y) a.low)

    -- the same of a whole row: its first cell has component 0
    module _ (w : ℕ) (begins : start ≡ 0) (whole : w ≡ length_of x (last x)) (s k : Interval) (span : Spans x r.place s) (cut : Overlaps s 0 w k) where
      fits : start + w ≤ length_of x (last x)
      fits = omega arith

      cut' : Overlaps s start w k
      cut' = subst (λ (a : ℕ). Overlaps s a w k) (sym begins) cut

      from : k.from - start ≡ k.from
      from = omega arith

      pub copy_low : r.number + k.from + (k.to - k.from) ≤ cells x
      copy_low = omega (arith, cut_low w fits s k span cut')

      pub row_copied : (memories grid grid' : List ℕ) (t b : ℕ) → t ≡ box_tile_of x r.number → b ≡ processor_of x t → (n : ℕ) → n ≡ cells x
          → grid' ≡ store_all (λ m c. get_or memories (b * n + (r.number + k.from) + (c - (r.number + k.from))) 0) grid
          (row_of (r.number + k.from) (k.to - k.from))
          → grid' ≡ store_all (inside_only x (held_word x memories)) grid (row_of r.number w)
      row_copied memories grid grid' t b tile own n count e =
          row_words w fits s k span cut' memories grid grid' b (own ∙ ap (processor_of x) tile) n count
          (subst (λ (p : ℕ). grid' ≡ store_all (λ m c. get_or memories (b * n + (r.number + p) + (c - (r.number + p))) 0) grid
          (row_of (r.number + p) (k.to - k.from))) (sym from) e)

  -- ---- rows of the nest

  pub row_located : (q width : ℕ) (at : List ℕ) → width ≡ length_of x (last x) → q * width < cells x → Row x q at
      → Located x (q * width) (record { number = q * width; place = at }) × (get_or at (last x) 0 ≡ 0)
  unfolding cell_place
  row_located q width at e h r =
      (record { low = h; number = refl; place = record { each = λ j o. r.first j o ∙ ap (λ (a : ℕ). cell_place x (q * a) j) (sym e) } }, begin)
    where
      begin : get_or at (last x) 0 ≡ 0
      begin =
          r.first (last x) (omega (arith, ok.dimensions_least))
          ∙ row_start (length_of x) x.dimensions q (omega (arith, ok.dimensions_least)) (ok.long (last x) (omega (arith, ok.dimensions_least)))

  module _ (rows width : ℕ) (w : width ≡ length_of x (last x)) (all : rows * length_of x (last x) ≡ cells x) where
    wide : 1 ≤ width
    wide = omega (arith, ok.long (last x) (omega (arith, ok.dimensions_least)))

    counted : rows * width ≡ cells x
    counted = ap (λ (a : ℕ). rows * a) w ∙ all

    pub row_begins : (q : ℕ) → q < rows → q * width < cells x
    row_begins q h = omega (arith, row_in width q rows h, counted, wide)

    pub rows_few : rows ≤ 16384
    rows_few = omega (arith, mul-le-mul_left rows wide, counted, ok.cells_most)

    pub rows_done : (q : ℕ) → q ≤ rows → rows ≤ q → q * width ≡ cells x
    rows_done q h k = let z : q ≡ rows = omega arith in ap (λ (a : ℕ). a * width) z ∙ counted

-- words of a processor's memory
pub copy_room : (x : Nest) → Accepted x → (b n first m words : ℕ) → b < processors x → n ≡ cells x → words ≡ processors x * cells x → first + m ≤ cells x
    → (b * n + first + m ≤ words) × (words ≤ 1048576)
copy_room x ok b n first m words h e l k =
    (omega (arith, piece_fits (cells x) (processors x) b h, ap (λ (a : ℕ). b * a) e), omega (arith, mul-le-mul ok.processors_most ok.cells_most))

-- ---- rows of a tile

module _ (x : Nest) (ok : Accepted x) (b : Bounds) (is : Bounded x b) (t : ℕ) (same : b.tile ≡ t) where
  pub tile_row : (r : ℕ) (c : Cell) → Located x (box_cell x b.tile (r * get_or b.lengths (last x) 0)) c → (y : ℕ) → y < get_or b.lengths (last x) 0
      → c.number + y ≡ box_cell x t (r * get_or b.lengths (last x) 0 + y)
  tile_row r c l y h =
      ap (λ (a : ℕ). a + y) l.number ∙ box_row x ok b is r y h ∙ ap (λ (a : ℕ). box_cell x a (r * get_or b.lengths (last x) 0 + y)) same

  pub tile_end : (rows w r : ℕ) → rows ≡ product (nth b.lengths) (last x) → w ≡ get_or b.lengths (last x) 0 → r ≤ rows → rows ≤ r → r * w ≡ box_size x t
  tile_end rows w r e k h i =
      let z : r ≡ rows = omega arith in
      ap (λ (a : ℕ). a * w) z ∙ box_all x ok b is 0 rows w e k ∙ is.size ∙ ap (box_size x) same

pub tile_few : (x : Nest) (ok : Accepted x) (b : Bounds) → Bounded x b → b.size ≤ 16384
tile_few x ok b is = let z = box_countable x ok b.tile b.lengths is.low is.lengths in omega (arith, is.size, z.0, z.1.few)
