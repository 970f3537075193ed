-- The tests of fit states and of line 12 hold exactly where document 01's clauses do; each call's number by these clauses.
use Prim.Native.Nat.{ℕ, ◌≤◌, ◌<◌}
use mathlib.Core.Path.{◌≡◌, refl, sym, ◌∙◌}
use mathlib.Core.Logic.{◌≢◌}
use mathlib.Core.Bool.{Bool, true, false}
use mathlib.Core.List.{List, [], ◌∷◌}
use native.Mathlib.Omega.{arith}
use native.Mathlib.Decide.{ℕ_discrete, dec_lt}
use lib.ListN.{length, get_or}
use lib.Dec.{ltb, leb, eqb}
use borrow.Author.Tests.{eqb-true, eqb-false, eq-eqb, ne_eqb, lt-ltb, le-ltb, ltb-true, ltb-false, le-leb, leb-true}
use Rattle.base.specs.Tests.{not, pick, some}
use Rattle.base.specs.Lists.{all_at}
use Rattle.base.specs.Numbers.{line, first_of}
use Rattle.base.proofs.Tests.{both, and_true, not-false, false_not, pick_true, pick_false, every_at, every_all, never_both, some_at, none_some}
use Rattle.base.proofs.Lists.{all_at_in, all_at_out}
use Rattle.base.proofs.Select.{those_in, in_those}
use Rattle.machine.specs.Plan.{Plan, count, taker_of, tiles_of, dues_of}
use Rattle.machine.specs.Machine.{State, finished_of, stage_of, sent_of, current_tile, tiles_left, fit_record, fit, waiting}
use Rattle.machine.specs.Machine.{turn, deliver, collect}
use Rattle.machine.specs.Fit.{FitRecord, Fit, Waits, Tests, TurnNumber, DeliveryNumber, CollectNumber, Numbers}
use Rattle.machine.proofs.Records.{fit_at, fit_is, fit_sending, fit_early, fit_two, fit_zero}

module _ (p : Plan) (s : State) where
  module _ (b : ℕ) where
    abbrev f : ℕ
    f = finished_of s b

    abbrev g : ℕ
    g = stage_of s b

    abbrev n : ℕ
    n = sent_of s b

    abbrev k : ℕ
    k = length (tiles_of p b)

    -- all tiles finished: the second test
    over : k ≤ f → fit_record p s b ≡ true → (f ≡ k) × (g ≡ 0) × (n ≡ 0)
    unfolding fit_record tiles_left
    over h e =
        let r = both (sym (pick_false _ _ _ (le-ltb f k h)) ∙ e) in
        let q = both r.1 in
        (eqb-true f k r.0, eqb-true g 0 q.0, eqb-true n 0 q.1)

    -- tiles left, and not sending
    before : f < k → g ≢ 2 → fit_record p s b ≡ true → (g < 2) × (n ≡ 0)
    unfolding fit_record tiles_left
    before h ne e =
        let r = both (sym (pick_false _ _ _ (ne_eqb g 2 ne)) ∙ sym (pick_true _ _ _ (lt-ltb f k h)) ∙ e) in
        (ltb-true g 2 r.0, eqb-true n 0 r.1)

    record_only : fit_record p s b ≡ true → FitRecord p s b
    record_only e = go (dec_lt f k) (ℕ_discrete g 2)
      where
        go : Dec (f < k) → Dec (g ≡ 2) → FitRecord p s b
        go (no h) d =
            let r = over (omega arith) e in
            record {
              finished = omega (arith, r.0);
              over_stage = λ q. r.1;
              over_sent = λ q. r.2;
              stage = omega (arith, r.1);
              early = λ q. r.2;
              sending = λ q. absurd (omega (arith, r.1));
            }
        go (yes h) (yes two) =
            record {
              finished = omega arith;
              over_stage = λ q. absurd (omega arith);
              over_sent = λ q. absurd (omega arith);
              stage = omega arith;
              early = λ q. absurd (omega arith);
              sending = λ q. fit_sending p b f g n h (omega arith) (sym (fit_is p s b) ∙ e);
            }
        go (yes h) (no ne) =
            let r = before h ne e in
            record {
              finished = omega arith;
              over_stage = λ q. absurd (omega arith);
              over_sent = λ q. absurd (omega arith);
              stage = omega (arith, r.0);
              early = λ q. r.1;
              sending = λ q. absurd (ne q);
            }

    record_whenever : FitRecord p s b → fit_record p s b ≡ true
    record_whenever c = fit_is p s b ∙ go (ℕ_discrete f k) (ℕ_discrete g 2)
      where
        go : Dec (f ≡ k) → Dec (g ≡ 2) → fit_at p b f g n ≡ true
        go (yes e) d = rw (c.over_stage e, c.over_sent e) (fit_zero p b f c.finished)
        go (no ne) (yes two) = rw two (fit_two p b f n (omega (arith, c.finished)) (c.sending two))
        go (no ne) (no two) =
            let low : g < 2 = omega (arith, c.stage) in
            rw (c.early low) (fit_early p b f g low (omega (arith, c.finished)))

  state_only : fit p s ≡ true → Fit p s
  unfolding fit
  state_only e =
      let r = both e in
      record {
        records = λ b h. record_only b (every_at (fit_record p s) p.processors r.0 b h);
        marks = λ m h. leb-true _ _ (every_at (λ m. leb (get_or s.status m 0) 3) (count p) r.1 m h);
      }

  state_whenever : Fit p s → fit p s ≡ true
  unfolding fit
  state_whenever c =
      and_true (every_all (fit_record p s) p.processors (λ b h. record_whenever b (c.records b h)))
      (every_all (λ m. leb (get_or s.status m 0) 3) (count p) (λ m h. le-leb _ _ (c.marks m h)))

  waits_only : (b : ℕ) → waiting p s b ≡ true → Waits p s b
  unfolding waiting tiles_left
  waits_only b e =
      let q = both e in
      let r = both q.1 in
      let m = all_at_out s.status 2 (dues_of p (current_tile p s b)) (false_not r.1) in
      let i = those_in (taker_of p) (current_tile p s b) (count p) m.0 m.1 in
      record {
        stage = eqb-true _ _ r.0;
        left = ltb-true _ _ q.0;
        message = m.0;
        low = i.0;
        due = i.1;
        unmarked = m.2;
      }

  waits_whenever : (b : ℕ) → Waits p s b → waiting p s b ≡ true
  unfolding waiting tiles_left
  waits_whenever b w =
      and_true (lt-ltb _ _ w.left) (and_true (eq-eqb _ _ w.stage) (not-false (go _ refl)))
    where
      go : (t : Bool) → all_at s.status 2 (dues_of p (current_tile p s b)) ≡ t → t ≡ false
      go true e =
          absurd (w.unmarked (all_at_in s.status 2 _ e w.message
          (in_those (taker_of p) (current_tile p s b) (count p) w.message w.low w.due)))
      go false e = refl

  pub tests : Tests p s
  tests =
      record {
        record_fit = λ b. record { only = record_only b; whenever = record_whenever b };
        state_fit = record { only = state_only; whenever = state_whenever };
        waits = λ b. record { only = waits_only b; whenever = waits_whenever b };
      }

  unfit_is : fit p s ≡ false → Fit p s → ⊥
  unfit_is e c = never_both (state_whenever c) e

  -- tiles left or none, in a fit state
  pub none_left : (b : ℕ) → Fit p s → b < p.processors → tiles_left p s b ≡ false → finished_of s b ≡ length (tiles_of p b)
  unfolding tiles_left
  none_left b c low e =
      let h : length (tiles_of p b) ≤ finished_of s b = ltb-false _ _ e in
      omega (arith, (c.records b low).finished)

  pub some_left : (b : ℕ) → tiles_left p s b ≡ true → finished_of s b < length (tiles_of p b)
  unfolding tiles_left
  some_left b e = ltb-true _ _ e

  turn_number : (b : ℕ) (t l w r : Bool) → fit p s ≡ t → ltb b p.processors ≡ l → waiting p s b ≡ w → tiles_left p s b ≡ r
      → TurnNumber p s b (first_of (line 10 (not t) ∷ line 11 (not l) ∷ line 12 w ∷ line 13 (not r) ∷ []))
  unfolding first_of not pick
  turn_number b false l w r a1 a2 a3 a4 = TurnNumber.unfit (unfit_is a1)
  turn_number b true false w r a1 a2 a3 a4 = TurnNumber.no_such (state_only a1) (ltb-false _ _ a2)
  turn_number b true true true r a1 a2 a3 a4 = TurnNumber.waits (state_only a1) (ltb-true _ _ a2) (waits_only b a3)
  turn_number b true true false false a1 a2 a3 a4 =
      TurnNumber.over (state_only a1) (ltb-true _ _ a2) (none_left b (state_only a1) (ltb-true _ _ a2) a4)
  turn_number b true true false true a1 a2 a3 a4 =
      TurnNumber.done (state_only a1) (ltb-true _ _ a2) (some_left b a4) (λ w. never_both (waits_whenever b w) a3)

  delivery_number : (m : ℕ) (t l e : Bool) → fit p s ≡ t → ltb m (count p) ≡ l → eqb (get_or s.status m 0) 1 ≡ e
      → DeliveryNumber p s m (first_of (line 10 (not t) ∷ line 11 (not l) ∷ line 14 (not e) ∷ []))
  unfolding first_of not pick
  delivery_number m false l e a1 a2 a3 = DeliveryNumber.unfit (unfit_is a1)
  delivery_number m true false e a1 a2 a3 = DeliveryNumber.no_such (state_only a1) (ltb-false _ _ a2)
  delivery_number m true true false a1 a2 a3 = DeliveryNumber.not_flying (state_only a1) (ltb-true _ _ a2) (eqb-false _ _ a3)
  delivery_number m true true true a1 a2 a3 = DeliveryNumber.done (state_only a1) (ltb-true _ _ a2) (eqb-true _ _ a3)

  collect_number : (t l : Bool) → fit p s ≡ t → some (tiles_left p s) p.processors ≡ l
      → CollectNumber p s (first_of (line 10 (not t) ∷ line 15 l ∷ []))
  unfolding first_of not pick
  collect_number false l a1 a2 = CollectNumber.unfit (unfit_is a1)
  collect_number true true a1 a2 =
      let r = some_at (tiles_left p s) p.processors a2 in
      CollectNumber.early (state_only a1) r.0 r.1 (some_left r.0 r.2)
  collect_number true false a1 a2 =
      CollectNumber.done (state_only a1) (λ b h. none_left b (state_only a1) h (none_some (tiles_left p s) p.processors a2 b h))

pub numbers : (p : Plan) (source : List ℕ) (s : State) → Numbers p source s
unfolding turn deliver collect
numbers p source s =
    record {
      of_turn = λ b. turn_number p s b _ _ _ _ refl refl refl refl;
      of_delivery = λ m. delivery_number p s m _ _ _ refl refl refl;
      of_collecting = λ grid. collect_number p s _ _ refl refl;
      turn_refused = λ b n. pick_false _ _ _ (ne_eqb _ 0 n);
      delivery_refused = λ m n. pick_false _ _ _ (ne_eqb _ 0 n);
      collecting_refused = λ grid n. pick_false _ _ _ (ne_eqb _ 0 n);
    }
