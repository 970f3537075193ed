-- Laws of the shape's cells of a row in a part: what they read is kept, their words can be made there, and are those made in a memory of all cells.
use Rattle.std.specs.Prelude.{◌≡◌, ℕ, ◌+◌, ◌-◌, ◌<◌, ◌≤◌, true, List, length, get_or}
use mathlib.Core.Path.{refl, sym, ap, ◌∙◌}
use native.Mathlib.Omega.{arith}
use Rattle.base.specs.Tests.{tabulate}
use Rattle.base.specs.Lists.{store_all}
use Rattle.nest.specs.declared.Nest.{Nest}
use Rattle.nest.specs.declared.Interval.{Interval}
use Rattle.nest.specs.Accepted.{Accepted}
use Rattle.nest.specs.Nest.{length_of, cells}
use Rattle.nest.specs.Spans.{last, Spans}
use Rattle.plan.specs.Geometry.{read_at}
use Rattle.plan.specs.Shaped.{shaped_value}
use Rattle.layout.specs.declared.Cell.{Cell}
use Rattle.layout.specs.Places.{Located}
use Rattle.layout.specs.CellRows.{row_of}
use Rattle.values.specs.row_values.Reads.{Backs}
use Rattle.values.specs.shaped_values.Rows.{inside_only, Overlaps, ReadsRuns, mixed_along, Readable}
use Rattle.values.proofs.shaped_values.Words.{reads, found, cut_fits, cut_low, inner, along, row_values_lem, row_none}
use Rattle.rank_index.specs.Ranks.{marked_at, marked_cells, rank_at, spread_out}
use Rattle.rank_index.proofs.Ranks.{rank_most}
use Rattle.part_calls.specs.declared.tile.Row.{Row}
use Rattle.part_calls.specs.tile.Rows.{Marks, Worked, WorkedIn, KeptRow, KeptBehind, Behinds, WorkedRow, RowAt, StoresRow}
use Rattle.part_calls.proofs.tile.InPart.{row_room, in_place, word_in}

-- ---- what the cells read is kept

module _ (x : Nest) (ok : Accepted x) (kept at : List ℕ) (c a few : ℕ) (w : WorkedRow x kept at c a few) where
  pub kept_row : (counts : List ℕ) (first : ℕ) → Marks x kept counts → first ≡ rank_at kept c → KeptRow kept counts first c a few
  kept_row counts first m e =
      record {
        small = omega (arith, m.long, ok.cells_most);
        counted = m.counted;
        low = omega (arith, w.low, m.long);
        narrow = w.narrow;
        each = λ y l. (w.worked y l).here;
        place = e;
      }

  module _ (back firsts ends : List ℕ) (backs : Backs x back) (runs : ReadsRuns x at firsts ends) where
    pub kept_behind : (e : ℕ) → e < x.distances → KeptBehind kept c a few (get_or firsts e 0) (get_or ends e 0) (get_or back e 0)
    kept_behind e h =
        record {
          at = λ y l t.
              let n = w.along y l in
              let q = sym (reads x ok at firsts ends back x.weights runs backs refl (c + y) (a + y) n.0 n.1 e h) ∙ t in
              let f = found x ok at firsts ends back x.weights runs backs refl (c + y) (a + y) n.0 n.1 e h q in
              let z : c + y - get_or back e 0 ≡ read_at x (c + y) e = omega (arith, f) in
              (omega (arith, f), rw z ((w.worked y l).reads e h q));
        }

    -- ---- their words

    module _ (owned near : List ℕ) (long : length kept ≡ cells x) (own_long : length owned ≡ cells x)
        (own : (y : ℕ) → y < few → marked_at owned (c + y) ≡ true) (b : Behinds kept c a few x.distances firsts ends back near) where
      low : c + few ≤ length kept
      low = omega (arith, w.low, long)

      own_low : c + few ≤ length owned
      own_low = omega (arith, w.low, own_long)

      here : (y : ℕ) → y < few → marked_at kept (c + y) ≡ true
      here y l = (w.worked y l).here

      pub part_readable : (sources words : ℕ) → sources ≡ length (marked_cells owned) → words ≡ length (marked_cells kept)
          → Readable x.distances firsts ends near x.weights x.boundary x.shift (rank_at owned c) (rank_at kept c) a few sources words
      part_readable sources words e g =
          record {
            few = ok.distances_most;
            back = λ i y h o t. omega (arith, (b.each i h).is y o t);
            light = λ i h. ok.weight_most i;
            beyond = ok.boundary_most;
            divides = omega (arith, ok.shift_most);
            inner = omega (arith, g, row_room kept c few low here);
            given = omega (arith, e, row_room owned c few own_low own);
            small = omega (arith, g, rank_most kept (length kept), long, ok.cells_most);
            few_given = omega (arith, e, rank_most owned (length owned), own_long, ok.cells_most);
            narrow = w.narrow;
          }

      pub part_stored : (source memory memory' : List ℕ) → length source ≡ length (marked_cells owned) → length memory ≡ length (marked_cells kept)
          → memory' ≡ store_all (mixed_along x.distances firsts ends near x.weights x.boundary x.shift source (rank_at owned c) (rank_at kept c) a)
          memory (row_of (rank_at kept c) few)
          → spread_out kept memory' ≡ store_all (mixed_along x.distances firsts ends back x.weights x.boundary x.shift (spread_out owned source) c c a)
          (spread_out kept memory) (row_of c few)
      part_stored source memory memory' e g q =
          ap (spread_out kept) q ∙ in_place kept c few low here _ _ word memory g few (omega arith)
        where
          word : (k : List ℕ) → length k ≡ length (marked_cells kept) → (y : ℕ) → y < few
              → mixed_along x.distances firsts ends near x.weights x.boundary x.shift source (rank_at owned c) (rank_at kept c) a k (rank_at kept c + y)
              ≡ mixed_along x.distances firsts ends back x.weights x.boundary x.shift (spread_out owned source) c c a (spread_out kept k) (c + y)
          word k h y l =
              let z : rank_at kept c + y - rank_at kept c ≡ y = omega arith in
              let z' : c + y - c ≡ y = omega arith in
              rw (z, z')
              (word_in kept owned c a few low own_low own x.distances firsts ends back near b kept_behind x.weights x.boundary x.shift source
              k e h y l)

-- ---- the row as a whole

by_parts : (P : ℕ → ℕ → ℕ → ℕ → Type 0) (a b c d a' b' c' d' : ℕ) → a ≡ a' → b ≡ b' → c ≡ c' → d ≡ d' → P a' b' c' d' → P a b c d
by_parts P a b c d a' b' c' d' e f g h v = rw (e, f, g, h) v

module _ (x : Nest) (ok : Accepted x) (kept owned counts tally back : List ℕ) (marks : Marks x kept counts) (own_marks : Marks x owned tally)
    (backs : Backs x back) (q : Cell) (l : Located x q.number q) (w : ℕ) (fits : get_or q.place (last x) 0 + w ≤ length_of x (last x)) (s k : Interval)
    (span : Spans x q.place s) (cut : Overlaps s (get_or q.place (last x) 0) w k) where
  abbrev skipped : ℕ
  skipped = k.from - get_or q.place (last x) 0

  abbrev c : ℕ
  c = q.number + skipped

  abbrev few : ℕ
  few = k.to - k.from

  pub start_small : c ≤ 16384
  start_small = omega (arith, cut_low x ok q l w fits s k span cut, ok.cells_most)

  pub start_low : c ≤ length owned
  start_low = omega (arith, cut_low x ok q l w fits s k span cut, own_marks.long)

  module _ (worked : (y : ℕ) → y < w → WorkedIn x kept owned (q.number + y)) where
    worked_at : (y : ℕ) → y < few → Worked x kept (c + y) × (marked_at owned (c + y) ≡ true)
    worked_at y h =
        let z : c + y ≡ q.number + (skipped + y) = omega arith in
        rw z (worked (skipped + y) (omega (arith, cut_fits x ok q l w fits s k span cut)) (rw z at (inner x ok q l w fits s k span cut y h)))

    pub worked_row : WorkedRow x kept q.place c k.from few
    worked_row =
        record {
          low = cut_low x ok q l w fits s k span cut;
          narrow = omega (arith, ok.length_most (last x), cut.least, cut.rises, cut.most, fits);
          along = along x ok q l w fits s k span cut;
          worked = λ y h. (worked_at y h).0;
        }

    pub row_stores : (from : ℕ) (r : Row) → from ≡ rank_at owned c → RowAt x kept back q.place from c k.from few r → StoresRow x kept owned q.number w r
    row_stores from r e p =
        record {
          readable = λ sources words g h.
              by_parts
              (λ src first comp n. Readable x.distances r.firsts r.ends r.backs x.weights x.boundary x.shift src first comp n sources
              words)
              r.from r.first r.component r.few _ _ _ _ (p.source ∙ e) p.first p.component p.all
              (part_readable x ok kept q.place c k.from few worked_row back r.firsts r.ends backs p.reads owned r.backs marks.long
              own_marks.long (λ y o. (worked_at y o).1) p.behinds sources words g h);
          stored = λ source memory memory' g h.
              by_parts
              (λ src first comp n. memory' ≡ store_all (mixed_along x.distances r.firsts r.ends r.backs x.weights x.boundary x.shift source
              src first comp) memory (row_of first n)
              → spread_out kept memory' ≡ store_all (inside_only x (shaped_value x (spread_out owned source))) (spread_out kept memory) (row_of q.number w))
              r.from r.first r.component r.few _ _ _ _ (p.source ∙ e) p.first p.component p.all
              (λ o. row_values_lem x ok q l w fits s k span cut r.firsts r.ends back x.weights p.reads backs refl (spread_out owned source)
              (spread_out kept memory) (spread_out kept memory')
              (part_stored x ok kept q.place c k.from few worked_row back r.firsts r.ends backs p.reads owned r.backs marks.long
              own_marks.long (λ y o. (worked_at y o).1) p.behinds source memory memory' g h o));
        }

  -- no cell of it is in the shape
  stored_none : (g : List ℕ → ℕ → ℕ) (m : List ℕ) (i n : ℕ) → n ≡ 0 → store_all g m (row_of i n) ≡ m
  unfolding store_all tabulate
  stored_none g m i n e = ap (λ (j : ℕ). store_all g m (row_of i j)) e

  pub row_empty : few ≡ 0 → (r : Row) → (r.first ≡ 0) × ((r.from ≡ 0) × ((r.component ≡ 0) × (r.few ≡ 0))) → StoresRow x kept owned q.number w r
  row_empty e r (first, (from, (component, none))) =
      record {
        readable = λ sources words g h. record {
          few = ok.distances_most;
          back = λ i y o n t. absurd (omega (arith, n, none));
          light = λ i o. ok.weight_most i;
          beyond = ok.boundary_most;
          divides = omega (arith, ok.shift_most);
          inner = omega (arith, first, none);
          given = omega (arith, from, none);
          small = omega (arith, h, rank_most kept (length kept), marks.long, ok.cells_most);
          few_given = omega (arith, g, rank_most owned (length owned), own_marks.long, ok.cells_most);
          narrow = omega (arith, component, none);
        };
        stored = λ source memory memory' g h o.
            ap (spread_out kept) (o ∙ stored_none _ memory r.first r.few none)
            ∙ row_none x ok q l w fits s k span cut (shaped_value x (spread_out owned source)) (spread_out kept memory) e;
      }
