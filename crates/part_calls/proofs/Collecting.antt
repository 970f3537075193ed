-- Laws of collecting one processor's cells: the grid's words one after the other, what they are, and the lines before.
use Rattle.std.specs.Prelude.{◌≡◌, ℕ, ◌+◌, ◌-◌, ◌*◌, ◌<◌, ◌≤◌, Bool, true, false, eqb, ltb, ◌≢◌, ◌⊎◌, List, [], ◌∷◌, length, get_or, take, drop, set, replicate}
use mathlib.Core.Path.{refl, sym, ap, ◌∙◌}
use mathlib.Core.Logic.{inl, inr}
use native.Mathlib.Nat.{zero-mul}
use native.Mathlib.Numerals.{add-one}
use native.Mathlib.Decide.{ℕ_discrete, dec_lt}
use native.Mathlib.Omega.{arith}
use lib.ListN.{length-replicate}
use lib.Seq.{get_or-set_other}
use borrow.Author.Tests.{eqb-true, eq-eqb, ne_eqb, lt-ltb, le-ltb}
use borrow.Rule.Slice.PartMut.{put_mid}
use Rattle.base.specs.Tests.{◌and◌, not, pick, one, keep, tabulate}
use Rattle.base.specs.Lists.{member, put, unpack}
use Rattle.base.specs.Numbers.{line, first_of}
use Rattle.base.proofs.Tests.{both, or_left, and_true, and_false, and_no, not-true, not-false, pick_true, pick_false, some_at}
use Rattle.base.proofs.Tests.{length_tabulate, tabulate_at, tabulate_same}
use Rattle.base.proofs.Select.{keep_more, keep_none}
use Rattle.base.proofs.Lists.{member_in, length_put}
use Rattle.base.proofs.Entries.{part_at, put_same, put_before, put_after}
use Rattle.base.proofs.Numbers.{first_true, first_false}
use Rattle.machine.specs.Plan.{Plan, tiles_of}
use Rattle.machine.specs.Machine.{State, state_of, finished_of, stage_of, sent_of, memory_of, fit_record, tiles_left, answered}
use Rattle.nest.specs.declared.Nest.{Nest}
use Rattle.nest.specs.declared.Interval.{Interval}
use Rattle.nest.specs.Accepted.{Accepted}
use Rattle.nest.specs.Nest.{length_of, cells, processors}
use Rattle.nest.specs.Shape.{in_shape}
use Rattle.nest.specs.Spans.{last, within, Spans, Row}
use Rattle.nest.proofs.Shapes.{framed, span_row}
use Rattle.plan.specs.declared.Route.{Route}
use Rattle.plan.specs.declared.Route.TheVariants.{Direct}
use Rattle.plan.specs.Shaped.{plan_of}
use Rattle.plan.proofs.ShapedBox.{plan_of_box}
use Rattle.plan.proofs.ShapedSound.{sound}
use Rattle.layout.specs.declared.Sizes.{Sizes}
use Rattle.layout.specs.Sizes.{Sized, Routed}
use Rattle.layout.proofs.CellRows.{row_next}
use Rattle.records.specs.declared.Flat.{Flat}
use Rattle.records.specs.Records.{Flattens}
use Rattle.base.proofs.Stored.{Stored, store_start, store_next, stored_all}
use Rattle.stages.proofs.Parts.{back, mid_is, mid_length}
use Rattle.engine.specs.Calls.{answer}
use Rattle.engine.proofs.Turns.{answered_no, answered_yes}
use Rattle.network.specs.Own.{owns, keeps, kept_cells, handled, widened}
use Rattle.rank_index.specs.Ranks.{marked_at, marked_cells, rank_at, spread_out}
use Rattle.rank_index.proofs.Ranks.{rank_most, rank_low, spread_at, marks_long, mark_is, marked_are}
use Rattle.part.specs.Part.{part_of, words_of}
use Rattle.part.proofs.Words.{all_is}
use Rattle.part_calls.specs.front.Calls.{from_part, part_collected, collect_fits}
use Rattle.part_calls.specs.front.Given.{PartLengths}
use Rattle.part_calls.specs.Given.{outside_word, grid_word, Within, collect_lines, collected_or}
use Rattle.part_calls.proofs.front.Front.{carried_word}
use Rattle.part_calls.proofs.front.Wide.{wide_memory, wide_finished, wide_stage, wide_sent}

-- ---- words stored one after the other, the rest as it was

pub record Filled (f : ℕ → ℕ) (old new : List ℕ) (c : ℕ) : Type 0 where
  pub stored : Stored f old new c
  pub rest : (j : ℕ) → c ≤ j → get_or new j 0 ≡ get_or old j 0

module _ (f : ℕ → ℕ) (old : List ℕ) where
  pub fill_start : Filled f old old 0
  fill_start = record { stored = store_start f old; rest = λ j h. refl }

  pub fill_next : (new : List ℕ) (c v : ℕ) → Filled f old new c → c < length old → v ≡ f c → Filled f old (set new c v) (c + 1)
  fill_next new c v g h e =
      record {
        stored = store_next f old new c v g.stored h e;
        rest = λ j l. get_or-set_other new c j v 0 (λ q. omega (arith, l, q)) ∙ g.rest j (omega (arith, l));
      }

  -- a word that stays
  pub fill_pass : (new : List ℕ) (c : ℕ) → Filled f old new c → c < length old → f c ≡ get_or old c 0 → Filled f old new (c + 1)
  fill_pass new c g h e =
      record {
        stored = record { long = g.stored.long; low = omega arith; each = λ j l. at j (dec_lt j c) l };
        rest = λ j l. g.rest j (omega (arith, l));
      }
    where
      at : (j : ℕ) → Dec (j < c) → j < c + 1 → get_or new j 0 ≡ f j
      at j (yes k) l = g.stored.each j k
      at j (no k) l = let z : j ≡ c = omega arith in rw z (g.rest c (omega arith) ∙ sym e)

-- so many words that come back from c on
module _ (f : ℕ → ℕ) (old new row : List ℕ) (c w : ℕ) (g : Filled f old new c) (fits : c + w ≤ length old)
    (n : length row ≡ length (take (c + w - c) (drop c new))) (words : (y : ℕ) → y < w → get_or row y 0 ≡ f (c + y)) where
  room : c + w ≤ length new
  room = omega (arith, fits, g.stored.long)

  row_long : length row ≡ w
  row_long = n ∙ mid_length new c w room

  row_room : c + length row ≤ length new
  row_room = omega (arith, row_long, room)

  pub fill_row : Filled f old (put_mid c (c + w - c) new row) (c + w)
  fill_row =
      rw (back new row (λ _. row) c w room n refl) (record {
        stored = record { long = length_put new c row row_room ∙ g.stored.long; low = fits; each = λ j l. at j l (dec_lt j c) };
        rest = λ j l. put_after new c row row_room j (omega (arith, l, row_long)) ∙ g.rest j (omega (arith, l));
      })
    where
      at : (j : ℕ) → j < c + w → Dec (j < c) → get_or (put new c row) j 0 ≡ f j
      at j l (yes h) = put_before new c row row_room j h ∙ g.stored.each j h
      at j l (no h) =
          let e : j ≡ c + (j - c) = omega arith in
          rw e (put_same new c row row_room (j - c) (omega (arith, row_long)) ∙ words (j - c) (omega arith))

-- ---- outside the shape, row by row

module _ (x : Nest) (ok : Accepted x) (grid : List ℕ) (long : length grid ≡ cells x) where
  abbrev wide_row : ℕ
  wide_row = length_of x (last x)

  pub outside_start : (w : ℕ) → Filled (outside_word x grid) grid grid (0 * w)
  outside_start w = rw (zero-mul w) (fill_start (outside_word x grid) grid)

  -- by the numbers of the code
  module _ (q : ℕ) (at : List ℕ) (r : Row x q at) (s : Interval) (sp : Spans x at s) (new row : List ℕ) (w boundary : ℕ) (wh : w ≡ wide_row)
      (g : Filled (outside_word x grid) grid new (q * w)) (fits : q * w + w ≤ cells x) (bd : boundary ≡ x.boundary)
      (n : length row ≡ length (take (q * w + w - q * w) (drop (q * w) new)))
      (is : row ≡ tabulate (λ y. pick (within s y) (get_or (take (q * w + w - q * w) (drop (q * w) new)) y 0) boundary)
      (length (take (q * w + w - q * w) (drop (q * w) new)))) where
    words : (y : ℕ) → y < w → get_or row y 0 ≡ outside_word x grid (q * w + y)
    words y h =
        let a : within s y ≡ in_shape x (q * w + y) =
        sym (span_row x (framed x ok) q at s r sp y (omega (arith, h, wh))) ∙ ap (λ (k : ℕ). in_shape x (q * k + y)) (sym wh) in
        let b : get_or (take (q * w + w - q * w) (drop (q * w) new)) y 0 ≡ get_or grid (q * w + y) 0 =
        ap (λ (l : List ℕ). get_or l y 0) (mid_is new (q * w) w) ∙ part_at new (q * w) w y h ∙ g.rest (q * w + y) (omega arith) in
        ap (λ (l : List ℕ). get_or l y 0) is
        ∙ tabulate_at (λ y. pick (within s y) (get_or (take (q * w + w - q * w) (drop (q * w) new)) y 0) boundary)
        (length (take (q * w + w - q * w) (drop (q * w) new))) y
        (omega (arith, h, mid_length new (q * w) w (omega (arith, fits, long, g.stored.long))))
        ∙ (let d : pick (within s y) (get_or (take (q * w + w - q * w) (drop (q * w) new)) y 0) boundary
        ≡ pick (in_shape x (q * w + y)) (get_or grid (q * w + y) 0) x.boundary = cc in d)

    pub outside_row : Filled (outside_word x grid) grid (put_mid (q * w) (q * w + w - q * w) new row) ((q + 1) * w)
    outside_row =
        let e : (q + 1) * w ≡ q * w + w = row_next w q q in
        rw e (fill_row (outside_word x grid) grid new row (q * w) w g (omega (arith, fits, long)) n words)

  pub outside_all : (rows q w : ℕ) (new : List ℕ) → w ≡ wide_row → rows * wide_row ≡ cells x → q ≤ rows → rows ≤ q
      → Filled (outside_word x grid) grid new (q * w) → new ≡ tabulate (outside_word x grid) (cells x)
  outside_all rows q w new e all h k g =
      let z : q ≡ rows = omega arith in
      let m : q * w ≡ cells x = ap (λ (a : ℕ). a * w) z ∙ ap (λ (a : ℕ). rows * a) e ∙ all in
      stored_all (outside_word x grid) grid new (q * w) (cells x) g.stored long (omega arith)

-- ---- its own cells, by the marks

pub record Putting (owned kept memory old new : List ℕ) (c n : ℕ) : Type 0 where
  pub filled : Filled (grid_word owned kept memory old) old new c
  pub rank : n ≡ rank_at kept c

module _ (owned kept memory old : List ℕ) (h : Within owned kept memory old) where
  pub put_start : Putting owned kept memory old old 0 0
  unfolding keep
  put_start = record { filled = fill_start (grid_word owned kept memory old) old; rank = refl }

  module _ (new : List ℕ) (c n : ℕ) (g : Putting owned kept memory old new c n) (l : c < length old) where
    pub put_room : get_or kept c 0 ≡ 1 → n < length memory
    put_room e =
        omega (arith, g.rank, h.memory_long, rank_low kept c (omega (arith, l, h.kept_long)) (eq-eqb _ _ e))

    stays : (t : Bool) → marked_at owned c ≡ t → get_or kept c 0 ≢ 1 → grid_word owned kept memory old c ≡ get_or old c 0
    stays true e k = absurd (k (eqb-true _ _ (h.inner c l e)))
    stays false e k = pick_false _ _ _ e

    pub put_next : (new' : List ℕ) (n' : ℕ)
        → ((get_or kept c 0 ≡ 1) × ((v : ℕ) × (v ≡ pick (eqb (get_or owned c 0) 1) (get_or memory n 0) (get_or new c 0)) × (new' ≡ set new c v)) × (n' ≡ n + 1))
        ⊎ ((get_or kept c 0 ≢ 1) × (new' ≡ new) × (n' ≡ n)) → Putting owned kept memory old new' (c + 1) n'
    put_next new' n' (inl (e, (v, w, a), b)) =
        let x : get_or memory n 0 ≡ get_or memory (rank_at kept c) 0 = ap (λ (i : ℕ). get_or memory i 0) g.rank in
        let y : get_or new c 0 ≡ get_or old c 0 = g.filled.rest c (omega arith) in
        let z : v ≡ grid_word owned kept memory old c = w
        ∙ (let d : pick (eqb (get_or owned c 0) 1) (get_or memory n 0) (get_or new c 0) ≡ grid_word owned kept memory old c = cc in d) in
        rw a (record {
          filled = fill_next (grid_word owned kept memory old) old new c v g.filled l z;
          rank = b ∙ rw (add-one c) (omega (arith, g.rank, keep_more (marked_at kept) c (eq-eqb _ _ e)));
        })
    put_next new' n' (inr (k, a, b)) =
        rw a (record {
          filled = fill_pass (grid_word owned kept memory old) old new c g.filled l (stays (marked_at owned c) refl k);
          rank = b ∙ g.rank ∙ rw (add-one c) (ap length (sym (keep_none (marked_at kept) c (ne_eqb _ _ k))));
        })

  pub put_small : (new : List ℕ) (c n : ℕ) → Putting owned kept memory old new c n → n ≤ c
  put_small new c n g = omega (arith, g.rank, rank_most kept c)

  pub put_done : (new : List ℕ) (c n : ℕ) → Putting owned kept memory old new c n → length old ≤ c
      → new ≡ tabulate (grid_word owned kept memory old) (length old)
  put_done new c n g l = stored_all (grid_word owned kept memory old) old new c (length old) g.filled.stored refl l

-- only the memory and the record of a part are looked at: others, of their lengths, may stand beside them
module _ (p : Plan) (b : ℕ) (low : b < p.processors) (m l : List ℕ) (a : length m ≡ length (kept_cells p b)) (c : length l ≡ 3) where
  abbrev lent : State
  lent = state_of m [] l []

  abbrev beside : State
  beside = state_of m (replicate (words_of p (handled p b)) 0) l (replicate (length (handled p b)) 0)

  g : PartLengths p b beside
  g = record { memory = a; mail = length-replicate (words_of p (handled p b)) 0; progress = c; marks = length-replicate (length (handled p b)) 0 }

  pub lent_memory : memory_of p (from_part p b lent) b ≡ unpack (replicate p.cells 0) (kept_cells p b) m
  unfolding widened part_of
  lent_memory = wide_memory p b beside low g

  pub lent_finished : finished_of (from_part p b lent) b ≡ get_or l 0 0
  unfolding widened part_of
  lent_finished = wide_finished p b beside low g

  pub lent_stage : stage_of (from_part p b lent) b ≡ get_or l 1 0
  unfolding widened part_of
  lent_stage = wide_stage p b beside low g

  pub lent_sent : sent_of (from_part p b lent) b ≡ get_or l 2 0
  unfolding widened part_of
  lent_sent = wide_sent p b beside low g

-- a memory whose record is of no matter
pub any_record : (p : Plan) (b : ℕ) (m l k : List ℕ) → memory_of p (from_part p b (state_of m [] l [])) b ≡ memory_of p (from_part p b (state_of m [] k [])) b
unfolding widened part_of
any_record p b m l k = refl

-- ---- the grid after them

module _ (x : Nest) (z : Sizes) (b : ℕ) (g : Sized x z) (routed : Routed x z) (low : b < processors x) where
  abbrev q : Plan
  q = plan_of z.route x

  -- without bounds every cell is in the shape, with bounds there is one route
  inside_is : (c : ℕ) → q.inside c ≡ in_shape x c
  inside_is c = go (ℕ_discrete x.bounds 0)
    where
      go : Dec (x.bounds ≡ 0) → q.inside c ≡ in_shape x c
      go (yes e) =
          ap (λ (p : Plan). p.inside c) (plan_of_box z.route x g.accepted e) ∙ sym (ap (λ (p : Plan). p.inside c) (plan_of_box Direct x g.accepted e))
      go (no n) = ap (λ (r : Route). (plan_of r x).inside c) (routed n)

  own_inside : (c : ℕ) → owns q b c ≡ true → q.inside c ≡ true
  unfolding owns
  own_inside c e =
      let k = some_at (λ t. eqb (q.processor_of t) b and member c (q.cells_of t)) q.tiles e in
      (sound z.route x g.accepted).cell_inside k.0 c k.1 (member_in c _ (both k.2).1)

  own_kept : (c : ℕ) → owns q b c ≡ true → keeps q b c ≡ true
  unfolding keeps
  own_kept c e = or_left _ e

  module _ (owned kept memory grid : List ℕ) (o : owned ≡ tabulate (λ c. one (owns q b c)) (cells x))
      (k : kept ≡ tabulate (λ c. one (keeps q b c)) (cells x)) (a : length memory ≡ length (kept_cells q b)) (long : length grid ≡ cells x) where
    all_kept : length memory ≡ length (marked_cells kept)
    all_kept = a ∙ ap length (sym (marked_are kept (keeps q b) (cells x) k))

    pub within_marks : Within owned kept memory grid
    within_marks =
        record {
          few = omega (arith, long, g.accepted.cells_most);
          owned_long = marks_long owned (owns q b) (cells x) o ∙ sym long;
          kept_long = marks_long kept (keeps q b) (cells x) k ∙ sym long;
          memory_long = all_kept;
          inner = λ c l e. mark_is kept (keeps q b) (cells x) k c (omega (arith, l, long))
              ∙ own_kept c (sym (mark_is owned (owns q b) (cells x) o c (omega (arith, l, long))) ∙ e);
        }

    -- by the words of the code
    pub own_grid : (between new l : List ℕ) → between ≡ tabulate (outside_word x grid) (cells x)
        → new ≡ tabulate (grid_word owned kept memory between) (length between) → new ≡ part_collected q b (state_of memory [] l []) grid
    unfolding part_collected
    own_grid between new l u e =
        e ∙ ap (tabulate (grid_word owned kept memory between)) (ap length u ∙ length_tabulate (outside_word x grid) (cells x))
        ∙ tabulate_same (grid_word owned kept memory between)
        (λ c. pick (q.inside c) (pick (owns q b c) (get_or (memory_of q (from_part q b (state_of memory [] l [])) b) c 0) (get_or grid c 0)) q.boundary) (cells x)
        each
      where
        same_memory : spread_out kept memory ≡ memory_of q (from_part q b (state_of memory [] l [])) b
        same_memory =
            all_is q b kept k memory ∙ sym (lent_memory q b low memory (0 ∷ 0 ∷ 0 ∷ []) a refl) ∙ any_record q b memory (0 ∷ 0 ∷ 0 ∷ []) l

        go : (c : ℕ) → c < cells x → (t : Bool) → owns q b c ≡ t → grid_word owned kept memory between c
            ≡ pick (q.inside c) (pick (owns q b c) (get_or (memory_of q (from_part q b (state_of memory [] l [])) b) c 0) (get_or grid c 0)) q.boundary
        go c h true i =
            pick_true _ _ _ (mark_is owned (owns q b) (cells x) o c h ∙ i)
            ∙ sym (spread_at kept memory all_kept c (omega (arith, h, marks_long kept (keeps q b) (cells x) k))
            (mark_is kept (keeps q b) (cells x) k c h ∙ own_kept c i))
            ∙ ap (λ (ws : List ℕ). get_or ws c 0) same_memory ∙ sym (pick_true _ _ _ i) ∙ sym (pick_true _ _ _ (own_inside c i))
        go c h false i =
            pick_false _ _ _ (mark_is owned (owns q b) (cells x) o c h ∙ i)
            ∙ ap (λ (ws : List ℕ). get_or ws c 0) u ∙ tabulate_at (outside_word x grid) (cells x) c h
            ∙ ap (λ (t : Bool). pick t (get_or grid c 0) x.boundary) (sym (inside_is c))
            ∙ ap (λ (w : ℕ). pick (q.inside c) w x.boundary) (sym (pick_false _ _ _ i))

        each : (c : ℕ) → c < cells x → grid_word owned kept memory between c
            ≡ pick (q.inside c) (pick (owns q b c) (get_or (memory_of q (from_part q b (state_of memory [] l [])) b) c 0) (get_or grid c 0)) q.boundary
        each c h = go c h (owns q b c) refl

-- ---- the lines before

module _ (p : Plan) (b : ℕ) (low : b < p.processors) (m l grid : List ℕ) where
  abbrev s : State
  s = state_of m [] l []

  nine : collect_fits p b s grid ≡ false → 9 ≡ first_of (collect_lines p b s grid)
  nine e = sym (first_true 9 _ _ (not-false e))

  pub no_memory : length m ≢ length (kept_cells p b) → 9 ≡ first_of (collect_lines p b s grid)
  unfolding collect_fits
  no_memory h = nine (and_false _ _ (ne_eqb _ _ h))

  pub no_record : length l ≢ 3 → 9 ≡ first_of (collect_lines p b s grid)
  unfolding collect_fits
  no_record h = nine (and_no _ _ (and_false _ _ (ne_eqb _ _ h)))

  pub no_grid : length grid ≢ p.cells → 9 ≡ first_of (collect_lines p b s grid)
  unfolding collect_fits
  no_grid h = nine (and_no _ _ (and_no _ _ (ne_eqb _ _ h)))

  module _ (a : length m ≡ length (kept_cells p b)) (c : length l ≡ 3) (d : length grid ≡ p.cells) (f : Flat) (k : Flattens f l) (v : Bool)
      (says : (w : State) → get_or f.words 0 0 ≡ finished_of w b → get_or f.words 1 0 ≡ stage_of w b → get_or f.words 2 0 ≡ sent_of w b
      → v ≡ fit_record p w b) where
    fits : collect_fits p b s grid ≡ true
    unfolding collect_fits
    fits = and_true (eq-eqb _ _ a) (and_true (eq-eqb _ _ c) (eq-eqb _ _ d))

    first : get_or f.words 0 0 ≡ finished_of (from_part p b s) b
    first = carried_word f l k c 0 (omega arith) ∙ sym (lent_finished p b low m l a c)

    test : v ≡ fit_record p (from_part p b s) b
    test =
        says (from_part p b s) first (carried_word f l k c 1 (omega arith) ∙ sym (lent_stage p b low m l a c))
        (carried_word f l k c 2 (omega arith) ∙ sym (lent_sent p b low m l a c))

    pub unfit : v ≡ false → 10 ≡ first_of (collect_lines p b s grid)
    unfit h =
        sym (first_false 9 (not (collect_fits p b s grid)) _ (not-true fits) ∙ first_true 10 (not (fit_record p (from_part p b s) b)) _ (not-false (sym test ∙ h)))

    module _ (yes : v ≡ true) (i n : ℕ) (e : i ≡ get_or f.words 0 0) (o : n ≡ length (tiles_of p b)) where
      past : first_of (collect_lines p b s grid) ≡ first_of (line 15 (tiles_left p (from_part p b s) b) ∷ [])
      past =
          first_false 9 (not (collect_fits p b s grid)) _ (not-true fits)
          ∙ first_false 10 (not (fit_record p (from_part p b s) b)) (line 15 (tiles_left p (from_part p b s) b) ∷ []) (not-true (sym test ∙ yes))

      pub left : i < n → 15 ≡ first_of (collect_lines p b s grid)
      unfolding tiles_left
      left h =
          sym (past ∙ first_true 15 _ _ (lt-ltb (finished_of (from_part p b s) b) (length (tiles_of p b)) (omega (arith, h, e ∙ first, o))))

      pub none : n ≤ i → 0 ≡ first_of (collect_lines p b s grid)
      unfolding tiles_left first_of
      none h =
          sym (past ∙ first_false 15 (ltb (finished_of (from_part p b s) b) (length (tiles_of p b))) []
          (le-ltb (finished_of (from_part p b s) b) (length (tiles_of p b)) (omega (arith, h, e ∙ first, o))))

-- ---- the call, past the first lines

module _ (p : Plan) (b : ℕ) (s : State) (grid : List ℕ) (r : ℕ) (e : r ≡ first_of (collect_lines p b s grid)) where
  pub collect_refused : r ≢ 0 → answer r grid ≡ collected_or p b s grid
  collect_refused h = answered_no r (part_collected p b s grid) grid h ∙ ap (λ (n : ℕ). answered n (part_collected p b s grid) grid) e

  pub collect_done : r ≡ 0 → (new : List ℕ) → new ≡ part_collected p b s grid → answer 0 new ≡ collected_or p b s grid
  collect_done z new q = ap (answer 0) q ∙ answered_yes _ (part_collected p b s grid) grid (sym e ∙ z)
