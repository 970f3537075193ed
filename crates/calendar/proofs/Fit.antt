-- The tests of W-212's numbers 24 and 25 hold exactly where their clauses do; a timed turn's number by these clauses.
use Prim.Native.Nat.{ℕ, ◌≤◌, ◌<◌}
use mathlib.Core.Path.{◌≡◌, refl}
use mathlib.Core.Logic.{◌⊎◌, inl, inr}
use mathlib.Core.Bool.{Bool, true, false}
use mathlib.Core.List.{List, [], ◌∷◌}
use lib.Dec.{ltb}
use borrow.Author.Tests.{eqb-true, eq-eqb, ne_eqb, lt-ltb, le-ltb, ltb-true, ltb-false, le-leb, leb-true}
use Rattle.base.specs.Tests.{◌or◌, not, pick}
use Rattle.base.specs.Numbers.{line, first_of}
use Rattle.base.proofs.Tests.{both, either, and_true, or_left, or_right, not-false, false_not, is_false, true_not, never_both, pick_false, some_at, some_one}
use Rattle.machine.specs.Plan.{Plan}
use Rattle.machine.specs.Machine.{State, tiles_left, fit, waiting}
use Rattle.machine.proofs.Fit.{tests, none_left, some_left}
use Rattle.calendar.specs.Windows.{week, opens_at, closes_at, is_window, is_faulty, covers, faulty_pair, in_window, faulty_board, faulty_table, faulty_minute}
use Rattle.calendar.specs.Windows.{open_at, Moment, faulty_for, faulty_moment, closed, timed_turn}
use Rattle.calendar.specs.Fit.{NoWindow, OpenAt, FaultyWindow, FaultyHours, HoursTests, TimedNumber, TimedNumbers}

-- ---- one pair
module _ (opens closes : ℕ) where
  window_only : is_window opens closes ≡ true → NoWindow opens closes → ⊥
  unfolding is_window
  window_only e n = never_both (and_true (eq-eqb opens 0 n.0) (eq-eqb closes 0 n.1)) (false_not e)

  window_whenever : (NoWindow opens closes → ⊥) → is_window opens closes ≡ true
  unfolding is_window
  window_whenever n = not-false (is_false (λ e. let q = both e in n (eqb-true opens 0 q.0, eqb-true closes 0 q.1)))

  fault_only : (ltb week closes or not (ltb opens closes)) ≡ true → (week < closes) ⊎ (closes ≤ opens)
  fault_only e = go (either e)
    where
      go : (ltb week closes ≡ true) ⊎ (not (ltb opens closes) ≡ true) → (week < closes) ⊎ (closes ≤ opens)
      go (inl q) = inl (ltb-true _ _ q)
      go (inr q) = inr (ltb-false _ _ (false_not q))

  fault_whenever : (week < closes) ⊎ (closes ≤ opens) → (ltb week closes or not (ltb opens closes)) ≡ true
  fault_whenever (inl q) = or_left _ (lt-ltb week closes q)
  fault_whenever (inr q) = or_right (ltb week closes) (not-false (le-ltb opens closes q))

module _ (calendar : List ℕ) (b : ℕ) where
  open_only : (minute : ℕ) → open_at calendar b minute ≡ true → OpenAt calendar b minute
  unfolding open_at covers
  open_only minute e =
      let r = some_at (in_window calendar b minute) 14 e in
      let q = both r.2 in
      let k = both q.1 in
      record {
        window = r.0;
        low = r.1;
        is = window_only (opens_at calendar b r.0) (closes_at calendar b r.0) q.0;
        opened = leb-true _ _ k.0;
        not_closed = ltb-true _ _ k.1;
      }

  open_whenever : (minute : ℕ) → OpenAt calendar b minute → open_at calendar b minute ≡ true
  unfolding open_at covers
  open_whenever minute c =
      some_one (in_window calendar b minute) 14 c.window c.low
      (and_true (window_whenever _ _ c.is) (and_true (le-leb _ _ c.opened) (lt-ltb _ _ c.not_closed)))

  faulty_only : faulty_board calendar b ≡ true → FaultyWindow calendar b
  unfolding faulty_board is_faulty
  faulty_only e =
      let r = some_at (faulty_pair calendar b) 14 e in
      let q = both r.2 in
      record {
        window = r.0;
        low = r.1;
        is = window_only (opens_at calendar b r.0) (closes_at calendar b r.0) q.0;
        fault = fault_only (opens_at calendar b r.0) (closes_at calendar b r.0) q.1;
      }

  faulty_whenever : FaultyWindow calendar b → faulty_board calendar b ≡ true
  unfolding faulty_board is_faulty
  faulty_whenever c =
      some_one (faulty_pair calendar b) 14 c.window c.low
      (and_true (window_whenever _ _ c.is) (fault_whenever (opens_at calendar b c.window) (closes_at calendar b c.window) c.fault))

module _ (p : Plan) (h : Moment) where
  hours_only : faulty_moment p h ≡ true → FaultyHours p h
  unfolding faulty_for faulty_table faulty_minute
  hours_only e = go (either e)
    where
      go : (faulty_table p.processors h.calendar ≡ true) ⊎ (faulty_minute h.minute ≡ true) → FaultyHours p h
      go (inl q) =
          let r = some_at (faulty_board h.calendar) p.processors q in
          FaultyHours.of_window r.0 r.1 (faulty_only h.calendar r.0 r.2)
      go (inr q) = FaultyHours.of_minute (ltb-false _ _ (false_not q))

  hours_whenever : FaultyHours p h → faulty_moment p h ≡ true
  unfolding faulty_for faulty_table faulty_minute
  hours_whenever (FaultyHours.of_window b low c) =
      or_left _ (some_one (faulty_board h.calendar) p.processors b low (faulty_whenever h.calendar b c))
  hours_whenever (FaultyHours.of_minute q) = or_right (faulty_table p.processors h.calendar) (not-false (le-ltb h.minute week q))

  closed_only : (b : ℕ) → closed h b ≡ true → OpenAt h.calendar b h.minute → ⊥
  unfolding closed
  closed_only b e c = never_both (open_whenever h.calendar b h.minute c) (false_not e)

  closed_whenever : (b : ℕ) → (OpenAt h.calendar b h.minute → ⊥) → closed h b ≡ true
  unfolding closed
  closed_whenever b n = not-false (is_false (λ e. n (open_only h.calendar b h.minute e)))

  pub hours_tests : HoursTests p h
  hours_tests =
      record {
        is_open = λ b minute. record { only = open_only h.calendar b minute; whenever = open_whenever h.calendar b minute };
        faulty = record { only = hours_only; whenever = hours_whenever };
        is_closed = λ b. record { only = closed_only b; whenever = closed_whenever b };
      }

  -- a test that is false
  none_faulty : faulty_moment p h ≡ false → FaultyHours p h → ⊥
  none_faulty e c = never_both (hours_whenever c) e

  then_open : (b : ℕ) → closed h b ≡ false → OpenAt h.calendar b h.minute
  unfolding closed
  then_open b e = open_only h.calendar b h.minute (true_not e)

  turn_number : (s : State) (b : ℕ) (t f l c w r : Bool) → fit p s ≡ t → faulty_moment p h ≡ f → ltb b p.processors ≡ l → closed h b ≡ c
      → waiting p s b ≡ w → tiles_left p s b ≡ r
      → TimedNumber p h s b
      (first_of (line 10 (not t) ∷ line 25 f ∷ line 11 (not l) ∷ line 24 c ∷ line 12 w ∷ line 13 (not r) ∷ []))
  unfolding first_of not pick
  turn_number s b false f l c w r a0 a1 a2 a3 a4 a5 = TimedNumber.unfit (λ q. never_both ((tests p s).state_fit.whenever q) a0)
  turn_number s b true true l c w r a0 a1 a2 a3 a4 a5 = TimedNumber.faulty ((tests p s).state_fit.only a0) (hours_only a1)
  turn_number s b true false false c w r a0 a1 a2 a3 a4 a5 =
      TimedNumber.no_such ((tests p s).state_fit.only a0) (none_faulty a1) (ltb-false _ _ a2)
  turn_number s b true false true true w r a0 a1 a2 a3 a4 a5 =
      TimedNumber.shut ((tests p s).state_fit.only a0) (none_faulty a1) (ltb-true _ _ a2) (closed_only b a3)
  turn_number s b true false true false true r a0 a1 a2 a3 a4 a5 =
      TimedNumber.waits ((tests p s).state_fit.only a0) (none_faulty a1) (ltb-true _ _ a2) (then_open b a3) (((tests p s).waits b).only a4)
  turn_number s b true false true false false false a0 a1 a2 a3 a4 a5 =
      TimedNumber.over ((tests p s).state_fit.only a0) (none_faulty a1) (ltb-true _ _ a2) (then_open b a3)
      (none_left p s b ((tests p s).state_fit.only a0) (ltb-true _ _ a2) a5)
  turn_number s b true false true false false true a0 a1 a2 a3 a4 a5 =
      TimedNumber.done ((tests p s).state_fit.only a0) (none_faulty a1) (ltb-true _ _ a2) (then_open b a3) (some_left p s b a5)
      (λ q. never_both (((tests p s).waits b).whenever q) a4)

pub timed_numbers : (p : Plan) (source : List ℕ) (h : Moment) (s : State) → TimedNumbers p source h s
unfolding timed_turn
timed_numbers p source h s =
    record {
      of_turn = λ b. turn_number p h s b _ _ _ _ _ _ refl refl refl refl refl refl;
      turn_refused = λ b n. pick_false _ _ _ (ne_eqb _ 0 n);
    }
