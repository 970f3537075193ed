-- Laws of one window: when it is next open.
use Prim.Native.Nat.{ℕ, ◌+◌, ◌-◌, ◌%◌, ◌≤◌, ◌<◌}
use mathlib.Core.Path.{◌≡◌, refl, sym, ◌∙◌}
use mathlib.Core.Logic.{◌≢◌}
use mathlib.Core.Bool.{Bool, true, false}
use mathlib.Core.List.{List}
use native.Mathlib.Omega.{arith}
use native.Mathlib.Decide.{dec_lt, ℕ_discrete}
use lib.Dec.{ltb, leb, eqb}
use borrow.Author.Tests.{lt-ltb, le-ltb, ltb-true, ltb-false, le-leb, leb-true, eq-eqb, ne_eqb, eqb-true}
use Rattle.base.specs.Tests.{◌and◌, ◌or◌, not}
use Rattle.base.proofs.Tests.{both, and_true, and_left, and_false, and_no, or_left, or_right, is_false, never_both, not-false, not-true}
use Rattle.base.proofs.Tests.{false_not, same_test, none_some}
use Rattle.calendar.specs.Windows.{week, opens_at, closes_at, is_window, is_faulty, faulty_pair, faulty_board, covers}
use Rattle.calendar.specs.Waits.{Fair, First}

-- ---- a pair

pub pair_in : (o c m : ℕ) → covers o c m ≡ true → (o ≤ m) × (m < c)
unfolding covers
pair_in o c m e = (leb-true _ _ (both (both e).1).0, ltb-true _ _ (both (both e).1).1)

pub in_pair : (o c m : ℕ) → o ≤ m → m < c → covers o c m ≡ true
unfolding covers is_window
in_pair o c m a b = and_true (not-false (and_no _ _ (ne_eqb c 0 (λ z. omega arith)))) (and_true (le-leb _ _ a) (lt-ltb _ _ b))

or_second : {a b : Bool} → a ≡ false → (a or b) ≡ b
unfolding ◌or◌
or_second e = rw e refl

-- the code's tests of a minute, and of a pair
pub covers_before : (o c m : ℕ) → m < o → false ≡ covers o c m
covers_before o c m h = sym (is_false (λ e. let r = pair_in o c m e in omega arith))

pub covers_then : (o c m : ℕ) → o ≤ m → ltb m c ≡ covers o c m
covers_then o c m h = go (dec_lt m c)
  where
    go : Dec (m < c) → ltb m c ≡ covers o c m
    go (yes l) = lt-ltb m c l ∙ sym (in_pair o c m h l)
    go (no l) = le-ltb m c (omega arith) ∙ sym (is_false (λ e. l (pair_in o c m e).1))

pub faulty_high : (o c : ℕ) → week < c → true ≡ is_faulty o c
unfolding is_faulty is_window
faulty_high o c h = sym (and_true (not-false (and_no _ _ (ne_eqb c 0 (λ z. omega arith)))) (or_left _ (lt-ltb week c h)))

pub faulty_none : (o c : ℕ) → c ≡ 0 → ltb 0 o ≡ is_faulty o c
unfolding is_faulty is_window
faulty_none o c h = go (ℕ_discrete o 0)
  where
    go : Dec (o ≡ 0) → ltb 0 o ≡ (not (eqb o 0 and eqb c 0) and (ltb week c or not (ltb o c)))
    go (yes z) = le-ltb 0 o (omega arith) ∙ sym (and_false _ _ (not-true (and_true (eq-eqb o 0 z) (eq-eqb c 0 h))))
    go (no n) =
        lt-ltb 0 o (omega arith)
        ∙ sym (and_true (not-false (and_false _ _ (ne_eqb o 0 n))) (or_right _ (not-false (le-ltb o c (omega arith)))))

pub faulty_order : (o c : ℕ) → c ≤ week → c ≢ 0 → leb c o ≡ is_faulty o c
unfolding is_faulty is_window
faulty_order o c l n =
    same_test (λ e. not-false (le-ltb o c (leb-true _ _ e))) (λ e. le-leb c o (ltb-false _ _ (false_not e)))
    ∙ sym (and_left _ _ (not-false (and_no _ _ (ne_eqb c 0 n))) ∙ or_second (le-ltb week c l))

module _ (o c m : ℕ) (low : m < week) (fair : Fair o c) where
  out : (n : ℕ) → (o ≤ (m + n) % week → (m + n) % week < c → ⊥) → covers o c ((m + n) % week) ≡ false
  out n h = is_false (λ e. let r = pair_in o c ((m + n) % week) e in h r.0 r.1)

  pub wait_later : m < o → First (λ (n : ℕ). covers o c ((m + n) % week)) (o - m)
  wait_later h =
      let k : o < c = fair.order (λ z. omega (arith, fair.none z)) in
      let l : c ≤ week = fair.most in
      record { most = omega arith; before = λ n b. out n (λ p q. omega arith); holds = λ b. in_pair o c ((m + (o - m)) % week) (omega arith) (omega arith) }

  pub wait_now : o ≤ m → m < c → First (λ (n : ℕ). covers o c ((m + n) % week)) 0
  wait_now a b = record { most = omega arith; before = λ n l. absurd (omega arith); holds = λ l. in_pair o c ((m + 0) % week) (omega arith) (omega arith) }

  pub wait_never : c ≡ 0 → First (λ (n : ℕ). covers o c ((m + n) % week)) 10080
  wait_never z = record { most = omega arith; before = λ n l. out n (λ p q. omega arith); holds = λ l. absurd (omega arith) }

  pub wait_week : o ≤ m → c ≤ m → c ≢ 0 → First (λ (n : ℕ). covers o c ((m + n) % week)) (o + 10080 - m)
  wait_week a b z =
      let k : o < c = fair.order z in
      record {
        most = omega arith;
        before = λ n l. out n (λ p q. omega arith);
        holds = λ l. in_pair o c ((m + (o + 10080 - m)) % week) (omega arith)
            (omega arith);
      }

-- ---- a window of the table

module _ (calendar : List ℕ) (b : ℕ) where
  pub fair_pair : (w : ℕ) → faulty_pair calendar b w ≡ false → Fair (opens_at calendar b w) (closes_at calendar b w)
  unfolding is_faulty is_window
  fair_pair w e = record { most = most; order = order; none = none }
    where
      o : ℕ
      o = opens_at calendar b w

      c : ℕ
      c = closes_at calendar b w

      -- a pair that is not of zeros, with a fault, is faulty
      fault : ((o ≡ 0) × (c ≡ 0) → ⊥) → (ltb week c or not (ltb o c)) ≡ true → ⊥
      fault h k = never_both (and_true (not-false (is_false (λ z. h (eqb-true _ _ (both z).0, eqb-true _ _ (both z).1)))) k) e

      most : c ≤ week
      most = le (dec_lt week c)
        where
          le : Dec (week < c) → c ≤ week
          le (yes h) = absurd (fault (λ z. omega arith) (or_left _ (lt-ltb _ _ h)))
          le (no h) = omega arith

      order : c ≢ 0 → o < c
      order z = lt (dec_lt o c)
        where
          lt : Dec (o < c) → o < c
          lt (yes h) = h
          lt (no h) = absurd (fault (λ y. z y.1) (or_right _ (not-false (le-ltb o c (omega arith)))))

      none : c ≡ 0 → o ≡ 0
      none z = eq (ℕ_discrete o 0)
        where
          eq : Dec (o ≡ 0) → o ≡ 0
          eq (yes h) = h
          eq (no h) = absurd (fault (λ y. h y.0) (or_right _ (not-false (le-ltb o c (omega arith)))))

  pub fair_at : faulty_board calendar b ≡ false → (w : ℕ) → w < 14 → Fair (opens_at calendar b w) (closes_at calendar b w)
  unfolding faulty_board
  fair_at e w l = fair_pair w (none_some (faulty_pair calendar b) 14 e w l)
