-- Laws of the lines of the calls with hours: each call by the line that counts, and when a turn with hours is the turn without.
use Rattle.std.specs.Prelude.{Result, Ok, Err, IfOk, ◌≡◌, ℕ, ◌+◌, ◌*◌, ◌<◌, ◌≤◌, Bool, true, false, ltb, leb, ◌≢◌, List, [], ◌∷◌, ◌++◌, length, Option, Some}
use mathlib.Core.Path.{refl, sym, ap, ◌∙◌}
use native.Mathlib.Omega.{arith}
use borrow.Author.Tests.{eqb-true, eq-eqb, ne_eqb, ltb-true, lt-ltb, le-ltb}
use Rattle.base.specs.Tests.{◌and◌, ◌or◌, not, pick}
use Rattle.base.specs.declared.refusal.Refusal.{Refusal}
use Rattle.base.specs.Refusals as refusals
use Rattle.base.specs.Numbers.{Line, line, first_of}
use Rattle.base.proofs.Tests.{both, and_no, or_left, or_right, or_false, neither, none_some, not-true, not-false, true_not}
use Rattle.base.proofs.Numbers.{Numbered, first_nil, first_true, first_false, first_cons, none_first, first_some, first_behind, none_behind}
use Rattle.machine.specs.Plan.{Plan}
use Rattle.machine.specs.Machine.{State, state_of, fit, tiles_left, waiting, carry_out, next_action, Answered, answered}
use Rattle.machine.proofs.RunLaws.{number_of}
use Rattle.tenants.specs.Tenants.{TenantAreas, fit_for, held_by_other, carry_out_for}
use Rattle.calendar.specs.Windows.{week, table_words, faulty_board, faulty_table, faulty_minute, open_at, Moment, moment_of, faulty_for, closed, turn_lines_at}
use Rattle.calendar.specs.Windows.{turn_lines_at_for, until_open, turn_at}
use Rattle.calendar.proofs.Allowed.{Allowed}
use Rattle.nest.specs.Reader.{read_lines}
use Rattle.nest.proofs.Numbered.{numbered}
use Rattle.layout.specs.RouteWords.{route_of}
use Rattle.recipe.specs.Routes.{lines_for}
use Rattle.recipe.proofs.Laws.{numbered_for, reads_for}
use Rattle.records.specs.declared.Progress.{Progress}
use Rattle.engine.specs.Calls.{answer, recipe, areas, turn_call}
use Rattle.engine.specs.Given.{unfit_lines, records_after}
use Rattle.engine.proofs.Lines.{Opened, and_right, call_read, call_later, call_done}
use Rattle.engine.proofs.Reading as reading
use Rattle.sharing.specs.Calls.{areas_for, turn_call_for}
use Rattle.sharing.specs.Given.{unfit_lines_for}
use Rattle.sharing.proofs.Lines.{Free, unfit_0, lengths_are}
use Rattle.sharing.proofs.Starts as starts
use Rattle.calendar_calls.specs.Calls.{table_long, turn_call_at, turn_call_at_for, opens_call}
use Rattle.calendar_calls.specs.Given.{hour_lines, away_lines, away_lines_for}

-- what holds whatever an answer is
pub if_ok : {A E P : Type 0} (r : Result A E) → P → IfOk r (λ _. P)
if_ok (Ok _) p = p
if_ok (Err _) p = tt

-- ---- lines 25, 11 and 24

module _ (n : ℕ) (calendar : List ℕ) (minute : ℕ) where
  pub minute_high : week ≤ minute → true ≡ faulty_for n (moment_of calendar minute)
  unfolding faulty_for faulty_minute
  minute_high k = sym (or_right _ (not-false (le-ltb minute week k)))

  pub minute_low : minute < week → (t : Bool) → t ≡ faulty_table n calendar → t ≡ faulty_for n (moment_of calendar minute)
  unfolding faulty_for faulty_minute
  minute_low k t e = e ∙ sym (or_no (faulty_table n calendar) (not (ltb minute week)) (not-true (lt-ltb minute week k)))
    where
      or_no : (x y : Bool) → y ≡ false → (x or y) ≡ x
      or_no true y q = or_left y refl
      or_no false y q = or_false refl q

module _ (calendar : List ℕ) (minute b : ℕ) where
  pub closed_when : open_at calendar b minute ≡ false → closed (moment_of calendar minute) b ≡ true
  unfolding closed
  closed_when e = not-false e

  pub open_when : open_at calendar b minute ≡ true → closed (moment_of calendar minute) b ≡ false
  unfolding closed
  open_when e = not-true e

pub record OpenHours (n : ℕ) (h : Moment) (b : ℕ) : Type 0 where
  pub fair : faulty_for n h ≡ false
  pub low : b < n
  pub open_then : closed h b ≡ false

module _ (n : ℕ) (h : Moment) (b : ℕ) where
  pub hours_25 : faulty_for n h ≡ true → 25 ≡ first_of (hour_lines n h b)
  hours_25 e = sym (first_true 25 _ _ e)

  module _ (fair : faulty_for n h ≡ false) where
    pub hours_11 : n ≤ b → 11 ≡ first_of (hour_lines n h b)
    hours_11 k = sym (first_false 25 _ _ fair ∙ first_true 11 _ _ (not-false (le-ltb b n k)))

    module _ (low : b < n) where
      past : first_of (hour_lines n h b) ≡ first_of (line 24 (closed h b) ∷ [])
      past = first_false 25 _ _ fair ∙ first_false 11 _ _ (not-true (lt-ltb b n low))

      pub hours_24 : closed h b ≡ true → 24 ≡ first_of (hour_lines n h b)
      hours_24 e = sym (past ∙ first_true 24 _ _ e)

      pub hours_0 : closed h b ≡ false → 0 ≡ first_of (hour_lines n h b)
      hours_0 e = sym (past ∙ first_false 24 _ _ e ∙ first_nil)

  pub hours_none : (m : ℕ) → m ≡ first_of (hour_lines n h b) → m ≡ 0 → OpenHours n h b
  hours_none m e z =
      let x = none_first 25 _ _ (λ q. omega arith) (sym e ∙ z) in
      let y = none_first 11 _ _ (λ q. omega arith) x.1 in
      let w = none_first 24 _ _ (λ q. omega arith) y.1 in
      record { fair = x.0; low = ltb-true b n (true_not y.0); open_then = w.0 }

-- one list of lines behind the same others
pub first_front : (a xs ys : List Line) → first_of xs ≡ first_of ys → first_of (a ++ xs) ≡ first_of (a ++ ys)
unfolding first_of
first_front [] xs ys e = e
first_front (l ∷ a) xs ys e = ap (λ (n : ℕ). pick l.holds l.number n) (first_front a xs ys e)

-- line 9 where the table is long
pub nine : (a t : Bool) (ls : List Line) → t ≡ true → first_of (line 9 (not (a and t)) ∷ ls) ≡ first_of (line 9 (not a) ∷ ls)
nine a t ls e = ap (λ (k : Bool). first_of (line 9 (not k) ∷ ls)) (and_right a t e)

-- ---- line 9 for the areas (a) and the table (t), lines in between, those of the hours, the rest
module _ (a t : Bool) (mid hours rest : List Line) where
  abbrev all : List Line
  all = line 9 (not (a and t)) ∷ (mid ++ (hours ++ rest))

  gate_long : t ≡ false → 9 ≡ first_of all
  gate_long e = sym (first_true 9 (not (a and t)) (mid ++ (hours ++ rest)) (not-false (and_no a t e)))

  module _ (long : t ≡ true) (n : ℕ) (e : n ≡ first_of (line 9 (not a) ∷ mid)) where
    gate_unfit : n ≢ 0 → n ≡ first_of all
    gate_unfit h =
        e ∙ sym (first_some (line 9 (not a) ∷ mid) (hours ++ rest) (λ q. h (e ∙ q))) ∙ sym (nine a t (mid ++ (hours ++ rest)) long)

    gate_past : Numbered mid → n ≡ 0 → first_of all ≡ first_of (hours ++ rest)
    gate_past named z =
        let x = none_first 9 (not a) mid (λ k. omega arith) (sym e ∙ z) in
        first_false 9 (not (a and t)) (mid ++ (hours ++ rest)) (ap not (and_right a t long) ∙ x.0)
        ∙ first_behind mid (hours ++ rest) named x.1

-- ---- the lines of one tenant's turn up to the machine's

-- none of them holds
pub record Open (p : Plan) (source : List ℕ) (h : Moment) (s : State) (b : ℕ) : Type 0 where
  pub long : length h.calendar ≡ table_words p
  pub unfit : 0 ≡ first_of (unfit_lines p source s)
  pub hours : OpenHours p.processors h b

module _ (p : Plan) (source : List ℕ) (h : Moment) (s : State) (b : ℕ) where
  pub away_none : (r : ℕ) → r ≡ first_of (away_lines p source h s b) → r ≡ 0 → Open p source h s b
  away_none r e z =
      let x = none_first 9 _ _ (λ q. omega arith) (sym e ∙ z) in
      let y = none_first 10 _ _ (λ q. omega arith) x.1 in
      let both_long = both (true_not x.0) in
      record {
        long = eqb-true (length h.calendar) (table_words p) both_long.1;
        unfit = sym
            (first_false 9 (not (areas p source s)) (line 10 (not (fit p s)) ∷ []) (not-true both_long.0) ∙ first_false 10 (not (fit p s)) [] y.0
            ∙ first_nil);
        hours = hours_none p.processors h b 0 (sym y.1) refl;
      }

  pub away_nine : length h.calendar ≢ table_words p → 9 ≡ first_of (away_lines p source h s b)
  away_nine n =
      gate_long (areas p source s) (table_long p h) (line 10 (not (fit p s)) ∷ []) (hour_lines p.processors h b) [] (ne_eqb _ _ n)

  module _ (long : length h.calendar ≡ table_words p) (r : ℕ) (e : r ≡ first_of (unfit_lines p source s)) where
    pub away_unfit : r ≢ 0 → r ≡ first_of (away_lines p source h s b)
    away_unfit k =
        gate_unfit (areas p source s) (table_long p h) (line 10 (not (fit p s)) ∷ []) (hour_lines p.processors h b) [] (eq-eqb _ _ long) r e k

    pub away_shut : r ≡ 0 → (m : ℕ) → m ≡ first_of (hour_lines p.processors h b) → m ≡ first_of (away_lines p source h s b)
    away_shut z m q =
        q ∙ sym
        (gate_past (areas p source s) (table_long p h) (line 10 (not (fit p s)) ∷ []) (hour_lines p.processors h b) [] (eq-eqb _ _ long) r e
        ((λ i. omega arith), tt) z)

-- ---- and those of the turn of one of two tenants

pub record OpenFor (p : Plan) (source : List ℕ) (o : ℕ) (h : Moment) (l : TenantAreas) (theirs : List ℕ) (b : ℕ) : Type 0 where
  pub long : length h.calendar ≡ table_words p
  pub free : Free p source o l theirs b
  pub hours : OpenHours p.processors h b

module _ (p : Plan) (source : List ℕ) (o : ℕ) (h : Moment) (l : TenantAreas) (theirs : List ℕ) (b : ℕ) where
  abbrev held : List Line
  held = line 19 (held_by_other p o l b) ∷ []

  abbrev middle : List Line
  middle = line 11 (not (leb o 1)) ∷ line 10 (not (fit_for p o l theirs)) ∷ []

  pub away_none_for : (r : ℕ) → r ≡ first_of (away_lines_for p source o h l theirs b) → r ≡ 0 → OpenFor p source o h l theirs b
  away_none_for r e z =
      let x = none_first 9 _ _ (λ q. omega arith) (sym e ∙ z) in
      let y = none_first 11 _ _ (λ q. omega arith) x.1 in
      let w = none_first 10 _ _ (λ q. omega arith) y.1 in
      let fair = none_first 25 _ _ (λ q. omega arith) w.1 in
      let low = none_first 11 _ _ (λ q. omega arith) fair.1 in
      let shut = none_first 24 _ _ (λ q. omega arith) low.1 in
      let free = none_first 19 _ _ (λ q. omega arith) shut.1 in
      let both_long = both (true_not x.0) in
      record {
        long = eqb-true (length h.calendar) (table_words p) both_long.1;
        free = record {
          unfit = unfit_0 p source o l theirs both_long.0 (true_not y.0) (true_not w.0);
          lengths = lengths_are p source l theirs both_long.0;
          fits = true_not w.0;
          low = ltb-true b p.processors (true_not low.0);
          free = free.0;
        };
        hours = record {
          fair = fair.0;
          low = ltb-true b p.processors (true_not low.0);
          open_then = shut.0;
        };
      }

  pub away_nine_for : length h.calendar ≢ table_words p → 9 ≡ first_of (away_lines_for p source o h l theirs b)
  away_nine_for n = gate_long (areas_for p source l theirs) (table_long p h) middle (hour_lines p.processors h b) held (ne_eqb _ _ n)

  module _ (long : length h.calendar ≡ table_words p) (r : ℕ) (e : r ≡ first_of (unfit_lines_for p source o l theirs)) where
    pub away_unfit_for : r ≢ 0 → r ≡ first_of (away_lines_for p source o h l theirs b)
    away_unfit_for k = gate_unfit (areas_for p source l theirs) (table_long p h) middle (hour_lines p.processors h b) held (eq-eqb _ _ long) r e k

    module _ (z : r ≡ 0) (m : ℕ) (q : m ≡ first_of (hour_lines p.processors h b)) where
      past_unfit : first_of (away_lines_for p source o h l theirs b) ≡ first_of (hour_lines p.processors h b ++ held)
      past_unfit =
          gate_past (areas_for p source l theirs) (table_long p h) middle (hour_lines p.processors h b) held (eq-eqb _ _ long) r e
          ((λ i. omega arith), ((λ i. omega arith), tt)) z

      pub away_shut_for : m ≢ 0 → m ≡ first_of (away_lines_for p source o h l theirs b)
      away_shut_for k = q ∙ sym (first_some (hour_lines p.processors h b) held (λ i. k (q ∙ i))) ∙ sym past_unfit

      past_shut : m ≡ 0 → first_of (away_lines_for p source o h l theirs b) ≡ first_of held
      past_shut k =
          past_unfit
          ∙ first_behind (hour_lines p.processors h b) held ((λ i. omega arith), ((λ i. omega arith), ((λ i. omega arith), tt))) (sym q ∙ k)

      pub away_held : m ≡ 0 → held_by_other p o l b ≡ true → 19 ≡ first_of (away_lines_for p source o h l theirs b)
      away_held k i = sym (past_shut k ∙ first_true 19 (held_by_other p o l b) [] i)

      pub away_0 : m ≡ 0 → held_by_other p o l b ≡ false → 0 ≡ first_of (away_lines_for p source o h l theirs b)
      away_0 k i = sym (past_shut k ∙ first_false 19 (held_by_other p o l b) [] i ∙ first_nil)

-- ---- one tenant's turn
module _ (bytes : List ℕ) (route : ℕ) (source : List ℕ) (h : Moment) (s : State) (b : ℕ) where
  pub turn_read : (r : ℕ) → r ≡ first_of (lines_for (route_of route) bytes) → r ≢ 0 → answer r s ≡ turn_call_at bytes route source h s b
  unfolding turn_call_at
  turn_read r e k = call_read (lines_for (route_of route) bytes) (numbered_for (route_of route) bytes) _ r _ s e k

  pub as_plain : length h.calendar ≡ table_words (recipe bytes route) → Allowed (recipe bytes route) (turn_at h b)
      → turn_call_at bytes route source h s b ≡ turn_call bytes route source s b
  unfolding turn_call_at turn_call
  as_plain e a =
      ap (λ (n : ℕ). answered n (carry_out (recipe bytes route) source s b (next_action (recipe bytes route) s b)) s)
      (first_front (lines_for (route_of route) bytes) _ _
      (nine (areas (recipe bytes route) source s) (table_long (recipe bytes route) h) (turn_lines_at (recipe bytes route) h s b) (eq-eqb _ _ e)
      ∙ first_cons 9 _ _ _ (first_cons 10 _ _ _ (first_false 25 _ _ a.0 ∙ first_cons 11 _ _ _ (first_false 24 _ _ a.1)))))

  -- what a turn that gives 0 needs of its hours
  pub needs : (turn_call_at bytes route source h s b).number ≡ 0
      → (length h.calendar ≡ table_words (recipe bytes route)) × Allowed (recipe bytes route) (turn_at h b)
  unfolding turn_call_at
  needs z =
      let p = recipe bytes route in
      let ls = line 9 (not (areas p source s and table_long p h)) ∷ turn_lines_at p h s b in
      let e9 = none_first 9 _ _ (λ q. omega arith)
      (none_behind (lines_for (route_of route) bytes) ls (numbered_for (route_of route) bytes) z) in
      let e10 = none_first 10 _ _ (λ q. omega arith) e9.1 in
      let e25 = none_first 25 _ _ (λ q. omega arith) e10.1 in
      let e11 = none_first 11 _ _ (λ q. omega arith) e25.1 in
      let e24 = none_first 24 _ _ (λ q. omega arith) e11.1 in
      (eqb-true _ _ (both (true_not e9.0)).1, (e25.0, e24.0))

  pub turn_inside : (turn_call_at bytes route source h s b).number ≡ 0 → 3 * b + 2 < length s.progress
  turn_inside z =
      let n = needs z in
      reading.turn_inside bytes route source s b (sym (number_of (as_plain n.0 n.1)) ∙ z)

  module _ (p : Plan) (op : Opened bytes route p) where
    turn_at_lem : answered (first_of (lines_for (route_of route) bytes ++ (line 9 (not (areas p source s and table_long p h)) ∷ turn_lines_at p h s b)))
        (carry_out p source s b (next_action p s b)) s
        ≡ turn_call_at bytes route source h s b
    unfolding turn_call_at
    turn_at_lem =
        ap
        (λ (q : Plan).
        answered (first_of (lines_for (route_of route) bytes ++ (line 9 (not (areas q source s and table_long q h)) ∷ turn_lines_at q h s b)))
        (carry_out q source s b (next_action q s b)) s)
        op.is

    abbrev later : List Line
    later = line 12 (waiting p s b) ∷ line 13 (not (tiles_left p s b)) ∷ []

    pub turn_away : (r : ℕ) → r ≡ first_of (away_lines p source h s b) → r ≢ 0 → answer r s ≡ turn_call_at bytes route source h s b
    turn_away r e k =
        call_later (lines_for (route_of route) bytes) (numbered_for (route_of route) bytes) _ r _ s op.none
        (e ∙ sym (first_some (away_lines p source h s b) later (λ q. k (e ∙ q)))) k
        ∙ turn_at_lem

    -- where the hours allow it, it is the turn without
    pub plainly : length h.calendar ≡ table_words p → Allowed p (turn_at h b) → turn_call bytes route source s b ≡ turn_call_at bytes route source h s b
    plainly e a = sym (as_plain (rw op.is at e) (rw op.is at a))

-- ---- the turn of one of two tenants
module _ (bytes : List ℕ) (route : ℕ) (source : List ℕ) (o : ℕ) (h : Moment) (l : TenantAreas) (theirs : List ℕ) (b : ℕ) where
  pub turn_read_for : (r : ℕ) → r ≡ first_of (lines_for (route_of route) bytes) → r ≢ 0 → answer r l ≡ turn_call_at_for bytes route source o h l theirs b
  unfolding turn_call_at_for
  turn_read_for r e k = call_read (lines_for (route_of route) bytes) (numbered_for (route_of route) bytes) _ r _ l e k

  pub as_plain_for : length h.calendar ≡ table_words (recipe bytes route) → Allowed (recipe bytes route) (turn_at h b)
      → turn_call_at_for bytes route source o h l theirs b ≡ turn_call_for bytes route source o l theirs b
  unfolding turn_call_at_for turn_call_for
  as_plain_for e a =
      ap (λ (n : ℕ). answered n (carry_out_for (recipe bytes route) source o l b (next_action (recipe bytes route) l.own b)) l)
      (first_front (lines_for (route_of route) bytes) _ _
      (nine (areas_for (recipe bytes route) source l theirs) (table_long (recipe bytes route) h) (turn_lines_at_for (recipe bytes route) o h l theirs b)
      (eq-eqb _ _ e)
      ∙ first_cons 9 _ _ _
      (first_cons 11 _ _ _ (first_cons 10 _ _ _ (first_false 25 _ _ a.0 ∙ first_cons 11 _ _ _ (first_false 24 _ _ a.1))))))

  pub needs_for : (turn_call_at_for bytes route source o h l theirs b).number ≡ 0
      → (length h.calendar ≡ table_words (recipe bytes route)) × Allowed (recipe bytes route) (turn_at h b)
  unfolding turn_call_at_for
  needs_for z =
      let p = recipe bytes route in
      let ls = line 9 (not (areas_for p source l theirs and table_long p h)) ∷ turn_lines_at_for p o h l theirs b in
      let e9 = none_first 9 _ _ (λ q. omega arith)
      (none_behind (lines_for (route_of route) bytes) ls (numbered_for (route_of route) bytes) z) in
      let e1 = none_first 11 _ _ (λ q. omega arith) e9.1 in
      let e10 = none_first 10 _ _ (λ q. omega arith) e1.1 in
      let e25 = none_first 25 _ _ (λ q. omega arith) e10.1 in
      let e11 = none_first 11 _ _ (λ q. omega arith) e25.1 in
      let e24 = none_first 24 _ _ (λ q. omega arith) e11.1 in
      (eqb-true _ _ (both (true_not e9.0)).1, (e25.0, e24.0))

  pub turn_inside_for : (turn_call_at_for bytes route source o h l theirs b).number ≡ 0 → 3 * b + 2 < length l.own.progress
  turn_inside_for z =
      let n = needs_for z in
      starts.turn_inside bytes route source o l theirs b (sym (number_of (as_plain_for n.0 n.1)) ∙ z)

  module _ (p : Plan) (op : Opened bytes route p) where
    turn_at_for : answered
        (first_of (lines_for (route_of route) bytes ++ (line 9 (not (areas_for p source l theirs and table_long p h)) ∷ turn_lines_at_for p o h l theirs b)))
        (carry_out_for p source o l b (next_action p l.own b)) l
        ≡ turn_call_at_for bytes route source o h l theirs b
    unfolding turn_call_at_for
    turn_at_for =
        ap
        (λ (q : Plan).
        answered (first_of (lines_for (route_of route) bytes ++ (line 9 (not (areas_for q source l theirs and table_long q h)) ∷ turn_lines_at_for q o h l theirs b)))
        (carry_out_for q source o l b (next_action q l.own b)) l)
        op.is

    abbrev behind : List Line
    behind = line 12 (waiting p l.own b) ∷ line 13 (not (tiles_left p l.own b)) ∷ []

    pub turn_away_for : (r : ℕ) → r ≡ first_of (away_lines_for p source o h l theirs b) → r ≢ 0
        → answer r l ≡ turn_call_at_for bytes route source o h l theirs b
    turn_away_for r e k =
        call_later (lines_for (route_of route) bytes) (numbered_for (route_of route) bytes) _ r _ l op.none
        (e ∙ sym (first_some (away_lines_for p source o h l theirs b) behind (λ q. k (e ∙ q)))) k
        ∙ turn_at_for

    pub plainly_for : length h.calendar ≡ table_words p → Allowed p (turn_at h b)
        → turn_call_for bytes route source o l theirs b ≡ turn_call_at_for bytes route source o h l theirs b
    plainly_for e a = sym (as_plain_for (rw op.is at e) (rw op.is at a))

-- a turn's answer over the records stored
pub turn_stored : (r : Result Progress Refusal) (m u l t : List ℕ) (b : ℕ) (x : Answered State)
    → answer (refusals.number_of r) (state_of m u (records_after l b r) t) ≡ x
    → (k : List ℕ) → k ≡ records_after l b r → answer (refusals.number_of r) (state_of m u k t) ≡ x
turn_stored r m u l t b x q k w = ap (λ (i : List ℕ). answer (refusals.number_of r) (state_of m u i t)) w ∙ q

-- ---- the question when a processor opens

-- what the search asks, by tests over n processors
pub may_ask : (n : ℕ) (calendar : List ℕ) (minute b : ℕ) → n ≤ 64 → length calendar ≡ 28 * n → faulty_for n (moment_of calendar minute) ≡ false → b < n
    → (b < 64) × ((28 * b + 28 ≤ length calendar) × ((minute < week) × (faulty_board calendar b ≡ false)))
unfolding faulty_for faulty_minute faulty_table
may_ask n calendar minute b few long fair low =
    let e = neither fair in
    (omega arith, (omega (arith, long), (ltb-true minute week (true_not e.1), none_some (faulty_board calendar) n e.0 b low)))

module _ (bytes : List ℕ) (h : Moment) (b : ℕ) where
  pub ask_read : (r : ℕ) → r ≡ first_of (read_lines bytes) → r ≢ 0 → answer r (Some 0) ≡ opens_call bytes h b
  unfolding opens_call
  ask_read r e k = call_read (read_lines bytes) (numbered bytes) _ r _ (Some 0) e k

  module _ (p : Plan) (op : Opened bytes 0 p) where
    abbrev lines : Plan → List Line
    lines q = line 9 (not (table_long q h)) ∷ line 25 (faulty_for q.processors h) ∷ line 11 (not (ltb b q.processors)) ∷ []

    ask_at : answered (first_of (read_lines bytes ++ lines p)) (until_open h.calendar h.minute b) (Some 0) ≡ opens_call bytes h b
    unfolding opens_call
    ask_at = ap (λ (q : Plan). answered (first_of (read_lines bytes ++ lines q)) (until_open h.calendar h.minute b) (Some 0)) op.is

    refusal : (r : ℕ) → r ≡ first_of (lines p) → r ≢ 0 → answer r (Some 0) ≡ opens_call bytes h b
    refusal r e k =
        call_later (read_lines bytes) (numbered bytes) (lines p) r (until_open h.calendar h.minute b) (Some 0) (reads_for (route_of 0) bytes op.none) e
        k ∙ ask_at

    pub ask_nine : length h.calendar ≢ table_words p → answer 9 (Some 0) ≡ opens_call bytes h b
    ask_nine n = refusal 9 (sym (first_true 9 _ _ (not-false (ne_eqb _ _ n)))) (λ q. omega arith)

    module _ (long : length h.calendar ≡ table_words p) where
      pub ask_faulty : faulty_for p.processors h ≡ true → answer 25 (Some 0) ≡ opens_call bytes h b
      ask_faulty e = refusal 25 (sym (first_false 9 _ _ (not-true (eq-eqb _ _ long)) ∙ first_true 25 _ _ e)) (λ q. omega arith)

      module _ (fair : faulty_for p.processors h ≡ false) where
        past_25 : first_of (lines p) ≡ first_of (line 11 (not (ltb b p.processors)) ∷ [])
        past_25 = first_false 9 _ _ (not-true (eq-eqb _ _ long)) ∙ first_false 25 _ _ fair

        pub ask_beyond : p.processors ≤ b → answer 11 (Some 0) ≡ opens_call bytes h b
        ask_beyond k = refusal 11 (sym (past_25 ∙ first_true 11 _ _ (not-false (le-ltb b p.processors k)))) (λ q. omega arith)

        pub ask_told : b < p.processors → (told : Option ℕ) → told ≡ until_open h.calendar h.minute b → answer 0 told ≡ opens_call bytes h b
        ask_told low told e =
            ap (answer 0) e
            ∙ call_done (read_lines bytes) (numbered bytes) (lines p) 0 (until_open h.calendar h.minute b) (Some 0)
            (reads_for (route_of 0) bytes op.none)
            (past_25 ∙ first_false 11 _ _ (not-true (lt-ltb b p.processors low)) ∙ first_nil)
            ∙ ask_at
