-- Laws of what the calls share: the first lines, marks at the front of a lent area, lines 9 and 10.
use Rattle.std.specs.Prelude.{◌≡◌, ℕ, ◌<◌, ◌≤◌, Bool, true, false, eqb, ltb, leb, ◌≢◌, List, [], ◌∷◌, ◌++◌, length, get_or, take, drop, Ok, Err}
use mathlib.Core.Path.{refl, sym, ap, ◌∙◌}
use native.Mathlib.Omega.{arith}
use lib.ListN.{length-append, length-drop}
use lib.Seq.{length-take-le, take_at, get_or-take}
use borrow.Author.Tests.{eq-eqb, ne_eqb, lt-ltb, le-ltb}
use Rattle.base.specs.Tests.{not, one, every, keep, tabulate}
use Rattle.base.specs.declared.refusal.Refusal.{Refusal}
use Rattle.base.specs.declared.refusal.Refusal.TheVariants as refusal
use Rattle.base.specs.Numbers.{line, first_of}
use Rattle.base.proofs.Codes.{code_some}
use Rattle.base.proofs.Tests.{and_true, and_left, and_false, and_no, not-true, not-false, true_not}
use Rattle.base.proofs.Numbers.{first_true, first_false, none_first, first_some, first_behind}
use Rattle.base.proofs.Select.{keep_few}
use Rattle.machine.specs.Plan.{Plan, count}
use Rattle.machine.specs.Machine.{State, state_of, finished_of, stage_of, sent_of, progress_only, fit_record, tiles_left, fit}
use Rattle.nest.specs.declared.Nest.{Nest}
use Rattle.nest.specs.Nest.{cells, processors}
use Rattle.layout.specs.declared.Layout.{Layout}
use Rattle.layout.specs.declared.Sizes.{Sizes}
use Rattle.layout.specs.Laid.{plan_of_layout}
use Rattle.layout.specs.Sizes.{Sized}
use Rattle.layout.specs.RouteWords.{route_of}
use Rattle.recipe.specs.Routes.{lines_for}
use Rattle.tables.specs.declared.Table.{Table}
use Rattle.tables.specs.Given.{plan_of_table}
use Rattle.records.specs.declared.Flat.{Flat}
use Rattle.records.specs.Records.{Flattens}
use Rattle.recipe.specs.Given.{LaysOut}
use Rattle.recipe.proofs.Laws.{numbered_for}
use Rattle.engine.specs.Calls.{recipe}
use Rattle.network.specs.Own.{own_cells, kept_cells, handled}
use Rattle.rank_index.specs.Ranks.{rank_at}
use Rattle.rank_index.proofs.Ranks.{marks_long, rank_is}
use Rattle.part.specs.Part.{words_of, rank_of, mail_at, part_fits}
use Rattle.part_calls.specs.front.Calls.{from_part, board_lines, lengths_of}
use Rattle.part_calls.specs.declared.AreaLengths.{AreaLengths}
use Rattle.part_calls.specs.front.Given.{OpensFor, Known, unfit_lines}
use Rattle.part_calls.specs.front.Given.{PartLengths}
use Rattle.part_calls.proofs.front.Wide.{fits_are, wide_finished, wide_stage, wide_sent, wide_fit}

-- ---- the first lines

module _ (bytes : List ℕ) (route b : ℕ) where
  pub closed_read : (r : Refusal) → LaysOut bytes route (Err r) → OpensFor bytes route b (Err r)
  closed_read r read =
      record { number = read.number ∙ sym (first_some (lines_for (route_of route) bytes) _ (λ z. code_some r (read.number ∙ z))); board = tt }

  module _ (l : Layout) (read : LaysOut bytes route (Ok l)) where
    abbrev p : Plan
    p = plan_of_layout l

    board_is : first_of (board_lines bytes route b) ≡ first_of (line 11 (not (ltb b p.processors)) ∷ [])
    board_is =
        first_behind (lines_for (route_of route) bytes) (line 11 (not (ltb b (recipe bytes route).processors)) ∷ []) (numbered_for (route_of route) bytes)
        read.layout.opened.none
        ∙ ap (λ (q : Plan). first_of (line 11 (not (ltb b q.processors)) ∷ [])) (sym read.layout.opened.is)

    pub closed_beyond : l.sizes.processors ≤ b → OpensFor bytes route b (Err refusal.NoSuch)
    closed_beyond h =
        record {
          number = sym (board_is ∙ first_true 11 _ _ (not-false (le-ltb b p.processors (omega (arith, h, l.sized.processors)))));
          board = tt;
        }

    pub opens : b < l.sizes.processors → OpensFor bytes route b (Ok l)
    unfolding first_of
    opens h =
        record {
          number = sym (board_is ∙ first_false 11 _ [] (not-true (lt-ltb b p.processors (omega (arith, h, l.sized.processors)))));
          board = record { routed = read.layout.routed; plan = read.layout.opened.is; low = omega (arith, h, l.sized.processors) };
        }

-- ---- the front of a lent area

pub front_long : (n k : ℕ) (l : List ℕ) → n ≡ k → k ≤ length l → length (take n l) ≡ k
front_long n k l e h = length-take-le n l (omega (arith, e, h)) ∙ e

module _ (n : ℕ) (l ys : List ℕ) (h : n ≤ length l) (e : length ys ≡ length (take n l)) where
  pub front_back : (k : ℕ) → n ≡ k → take k (ys ++ drop n l) ≡ ys
  front_back k q = take_at ys (drop n l) k (e ∙ front_long n n l refl h ∙ q)

  pub same_long : length (ys ++ drop n l) ≡ length l
  same_long =
      length-append ys (drop n l) ∙ omega (arith, e ∙ front_long n n l refl h, length-drop n l, h)

pub front_at : (n : ℕ) (l : List ℕ) (i : ℕ) → i < n → get_or (take n l) i 0 ≡ get_or l i 0
front_at n l i h = get_or-take n l i 0 h

-- ---- what is found once

module _ (x : Nest) (z : Sizes) (b : ℕ) where
  pub cells_fit : Sized x z → (kept : List ℕ) → length kept ≡ 16384 → z.cells ≤ length kept
  cells_fit g kept e = omega (arith, g.cells, g.accepted.cells_most, e)

  module _ (g : Sized x z) (kept : List ℕ) (e : length kept ≡ 16384) where
    pub lent_cells : z.cells ≡ length (take z.cells kept)
    lent_cells = sym (front_long z.cells z.cells kept refl (cells_fit g kept e))

    pub lent_long : length (take z.cells kept) ≡ cells x
    lent_long = sym lent_cells ∙ g.cells

  -- marked cells: few enough, and before the last of them all
  module _ (g : Sized x z) (f : ℕ → Bool) where
    pub marks_few : (marks : List ℕ) → length marks ≡ cells x → length marks ≤ 16384
    marks_few marks e = omega (arith, e, g.accepted.cells_most)

    module _ (marks : List ℕ) (is : marks ≡ tabulate (λ c. one (f c)) (cells x)) where
      pub cells_below : z.cells ≤ length marks
      cells_below = omega (arith, g.cells, marks_long marks f (cells x) is)

      pub all_marked : (n : ℕ) → n ≡ rank_at marks z.cells → n ≡ length (keep f (cells x))
      all_marked n e = e ∙ ap (rank_at marks) g.cells ∙ rank_is marks f (cells x) is (cells x) (omega arith)

    pub cells_few : (n : ℕ) → n ≡ length (keep f (cells x)) → (n ≡ length (keep f (cells x))) × (n ≤ 16384)
    cells_few n e = (e, omega (arith, e, keep_few f (cells x), g.accepted.cells_most))

  -- what comes back into an array's front
  module _ (g : Sized x z) (old ys : List ℕ) (e : length old ≡ 16384) (n : length ys ≡ length (take z.cells old)) where
    pub back_room : z.cells ≤ length (ys ++ drop z.cells old)
    back_room = omega (arith, same_long z.cells old ys (cells_fit g old e) n, cells_fit g old e)

    pub back_lent : z.cells ≡ length (take z.cells (ys ++ drop z.cells old))
    back_lent = sym (front_long z.cells z.cells (ys ++ drop z.cells old) refl back_room)

    pub back_is : take z.cells (ys ++ drop z.cells old) ≡ ys
    back_is = front_back z.cells old ys (cells_fit g old e) n z.cells refl

module _ (t : Table) (b : ℕ) where
  abbrev q : Plan
  q = plan_of_table t

  -- by what the code finds: n messages
  pub known : (rank place : List ℕ) (n : ℕ) → b < processors t.layout.nest → n ≡ count q → n ≤ 7168
      → ((m : ℕ) → m ≤ count q → (get_or rank m 0 ≡ rank_of q b m) × (get_or place m 0 ≡ mail_at q b m)) → Known t b rank place
  known rank place n low e few h =
      record { low = low; few = omega (arith, e, few); ordinals = λ m k. (h m k).0; starts = λ m k. (h m k).1 }

  module _ (rank place : List ℕ) (k : Known t b rank place) (n : ℕ) (e : n ≡ count q) where
    pub last_low : n < 7169
    last_low = omega (arith, e, k.few)

    pub all_handled : get_or rank n 0 ≡ length (handled q b)
    all_handled = k.ordinals n (omega (arith, e)) ∙ ap (rank_of q b) e

    pub all_mail : get_or place n 0 ≡ words_of q (handled q b)
    all_mail = k.starts n (omega (arith, e)) ∙ ap (mail_at q b) e

    -- the four lengths
    pub sizes_are : (i : ℕ) → i ≡ length (own_cells q b) → (j : ℕ) → j ≡ length (kept_cells q b)
        → ◌≡◌ {A = AreaLengths} (record { number = 0; cells = i; kept = j; words = get_or place n 0; messages = get_or rank n 0 }) (lengths_of q b)
    unfolding lengths_of
    sizes_are i f j h =
        ap (λ (k : ℕ). lengths k j (get_or place n 0) (get_or rank n 0)) f
        ∙ ap (λ (k : ℕ). lengths (length (own_cells q b)) k (get_or place n 0) (get_or rank n 0)) h
        ∙ ap (λ (k : ℕ). lengths (length (own_cells q b)) (length (kept_cells q b)) k (get_or rank n 0)) all_mail
        ∙ ap (λ (k : ℕ). lengths (length (own_cells q b)) (length (kept_cells q b)) (words_of q (handled q b)) k) all_handled
      where
        lengths : ℕ → ℕ → ℕ → ℕ → AreaLengths
        lengths c k w m = record { number = 0; cells = c; kept = k; words = w; messages = m }

-- ---- line 9

module _ (p : Plan) (b : ℕ) (s : State) where
  pub no_memory : length s.memories ≢ length (kept_cells p b) → false ≡ part_fits p b s
  unfolding part_fits
  no_memory h = sym (and_false _ _ (ne_eqb _ _ h))

  pub no_mail : length s.buffer ≢ words_of p (handled p b) → false ≡ part_fits p b s
  unfolding part_fits
  no_mail h = sym (and_no _ _ (and_false _ _ (ne_eqb _ _ h)))

  pub no_record : length s.progress ≢ 3 → false ≡ part_fits p b s
  unfolding part_fits
  no_record h = sym (and_no _ _ (and_no _ _ (and_false _ _ (ne_eqb _ _ h))))

  pub by_marks : length s.memories ≡ length (kept_cells p b) → length s.buffer ≡ words_of p (handled p b) → length s.progress ≡ 3
      → eqb (length s.status) (length (handled p b)) ≡ part_fits p b s
  unfolding part_fits
  by_marks m u l = sym (and_left _ _ (eq-eqb _ _ m) ∙ and_left _ _ (eq-eqb _ _ u) ∙ and_left _ _ (eq-eqb _ _ l))

-- ---- the record's test looks at the records alone

pub record_only : (p : Plan) (s : State) (b : ℕ) → fit_record p (progress_only s.progress) b ≡ fit_record p s b
unfolding fit_record tiles_left
record_only p s b = refl

-- ---- lines 9 and 10

module _ (p : Plan) (b : ℕ) (s : State) where
  pub unfit_9 : part_fits p b s ≡ false → 9 ≡ first_of (unfit_lines p b s)
  unfit_9 e = sym (first_true 9 _ _ (not-false e))

  pub unfit_10 : part_fits p b s ≡ true → fit p (from_part p b s) ≡ false → 10 ≡ first_of (unfit_lines p b s)
  unfit_10 a e = sym (first_false 9 _ _ (not-true a) ∙ first_true 10 _ _ (not-false e))

  pub unfit_0 : part_fits p b s ≡ true → fit p (from_part p b s) ≡ true → 0 ≡ first_of (unfit_lines p b s)
  unfolding first_of
  unfit_0 a e = sym (first_false 9 _ (line 10 (not (fit p (from_part p b s))) ∷ []) (not-true a) ∙ first_false 10 _ [] (not-true e))

  pub unfit_none : (r : ℕ) → r ≡ first_of (unfit_lines p b s) → r ≡ 0 → (part_fits p b s ≡ true) × (fit p (from_part p b s) ≡ true)
  unfit_none r e z =
      let a = none_first 9 (not (part_fits p b s)) (line 10 (not (fit p (from_part p b s))) ∷ []) (λ q. omega arith) (sym e ∙ z) in
      let c = none_first 10 (not (fit p (from_part p b s))) [] (λ q. omega arith) a.1 in
      (true_not a.0, true_not c.0)

-- the three words of a record as a call reads them
pub carried_word : (f : Flat) (l : List ℕ) → Flattens f l → length l ≡ 3 → (i : ℕ) → i < 3 → get_or f.words i 0 ≡ get_or l i 0
carried_word f l k e i h =
    let n : i < length l = omega (arith, h, e) in
    sym (front_at (length l) f.words i n) ∙ ap (λ (z : List ℕ). get_or z i 0) (k.kept (omega (arith, e)))

-- line 10 by the words of the record that a call reads, and by the marks; `r` is what the code says of the lengths
module _ (p : Plan) (b : ℕ) (low : b < p.processors) (m u l t : List ℕ) (r : Bool) (is : r ≡ part_fits p b (state_of m u l t)) where
  abbrev s : State
  s = state_of m u l t

  pub nine : r ≡ false → 9 ≡ first_of (unfit_lines p b s)
  nine h = unfit_9 p b s (sym is ∙ h)

  module _ (yes : r ≡ true) where
    g : PartLengths p b s
    g = fits_are p b s (sym is ∙ yes)

    pub three_words : (n : ℕ) → n ≡ length l → n ≡ 3
    three_words n e = e ∙ g.progress

    module _ (f : Flat) (k : Flattens f l) (v : Bool)
        (says : (w : State) → get_or f.words 0 0 ≡ finished_of w b → get_or f.words 1 0 ≡ stage_of w b → get_or f.words 2 0 ≡ sent_of w b
        → v ≡ fit_record p w b) where
      e : v ≡ fit_record p (from_part p b s) b
      e =
          says (from_part p b s) (carried_word f l k g.progress 0 (omega arith) ∙ sym (wide_finished p b s low g))
          (carried_word f l k g.progress 1 (omega arith) ∙ sym (wide_stage p b s low g))
          (carried_word f l k g.progress 2 (omega arith) ∙ sym (wide_sent p b s low g))

      pub ten_record : v ≡ false → 10 ≡ first_of (unfit_lines p b s)
      ten_record h = unfit_10 p b s (sym is ∙ yes) (wide_fit p b s low g ∙ and_false _ _ (sym e ∙ h))

      module _ (y : Bool) (q : y ≡ every (λ i. leb (get_or t i 0) 3) (length t)) where
        pub ten_marks : y ≡ false → 10 ≡ first_of (unfit_lines p b s)
        ten_marks h = unfit_10 p b s (sym is ∙ yes) (wide_fit p b s low g ∙ and_no _ _ (sym q ∙ h))

        pub zero_both : v ≡ true → y ≡ true → 0 ≡ first_of (unfit_lines p b s)
        zero_both h k = unfit_0 p b s (sym is ∙ yes) (wide_fit p b s low g ∙ and_true (sym e ∙ h) (sym q ∙ k))
