-- Rows by the window: its test, where in a row a distance puts cells into it, a row counted and unpacked.
use Prim.Native.Nat.{ℕ, ◌+◌, ◌*◌, ◌-◌, ◌≤◌, ◌<◌, min, max}
use mathlib.Core.Path.{◌≡◌, refl, sym, ap, ◌∙◌}
use mathlib.Core.Logic.{◌⊎◌, inl, inr}
use mathlib.Core.Bool.{Bool, true, false}
use mathlib.Core.List.{List, ◌++◌}
use native.Mathlib.Nat.{eq-or-lt_of_le}
use native.Mathlib.Numerals.{add-one}
use native.Mathlib.Decide.{dec_lt}
use native.Mathlib.Omega.{arith}
use lib.ListN.{length, get_or, take, drop, set, length-append, length-set}
use lib.Seq.{get_or-set_same, get_or-set_other, take-add, length-take-le}
use lib.Dec.{ltb}
use borrow.Author.Tests.{lt-ltb, le-ltb, ltb-true, le-leb}
use Rattle.base.specs.Tests.{◌or◌, every, some}
use Rattle.base.specs.Lists.{sublist, put, pack, unpack}
use Rattle.base.proofs.Copies.{part_row}
use Rattle.base.proofs.Tests.{and_left, or_left, never_both, same_test, every_at, every_all, every_not, length_tabulate}
use Rattle.nest.specs.declared.Nest.{Nest}
use Rattle.nest.specs.Accepted.{Accepted}
use Rattle.nest.specs.Nest.{component}
use Rattle.layout.specs.Regions.{Region, among}
use Rattle.layout.specs.CellRows.{row_of, Given}
use Rattle.layout.proofs.Loops.{Sofar, sofar_end}
use Rattle.layout.proofs.CellRows.{every_last}
use Rattle.parcels.specs.declared.Sending.{Sending}
use Rattle.parcels.specs.declared.Window.{Window}
use Rattle.parcels.specs.Windows.{last, window_of, RowEnd, DistanceEnds, is_read, Leading, carries, row_parcel, RowPacked}
use Rattle.parcels.specs.Sendings.{found, RowEnds}
use Rattle.parcels.proofs.Walks.{Measuring, Unpacking, found_mono, unpack_append}
use Rattle.parcels.proofs.Packing.{row_run, row_all}

-- ---- where distance e puts cells of a row

-- the test of dimension j, as the code has it
abbrev pub carried : List ℕ → Window → List ℕ → ℕ → ℕ → Bool
carried components w i e j = carries (get_or w.low j 0) (get_or w.high j 0) (get_or i j 0 + get_or components (4 * e + j) 0)

pub given_few : (x : Nest) (ok : Accepted x) (components : List ℕ) → Given x components → (e j : ℕ) → get_or components (4 * e + j) 0 ≤ 1024
given_few x ok components g e j = rw g.is (ok.component_most e j)

module _ (x : Nest) (ok : Accepted x) (w : Window) (i : List ℕ) (e : ℕ) (components : List ℕ) (g : Given x components) where
  none_below : ((k : ℕ → ℕ) → ((j : ℕ) → j < last x → k j ≡ get_or i j 0) → among x (window_of w) (λ j. k j + component x e j) ≡ false)
      → RowEnd x (window_of w) (λ j. get_or i j 0) e 0
  none_below f = record { is = λ k h. le-ltb (k (last x)) 0 (omega arith) ∙ sym (f k h) }

  module _ (k : ℕ → ℕ) (h : (j : ℕ) → j < last x → k j ≡ get_or i j 0) where
    same_carry : (j : ℕ) → j < last x
        → carries (get_or w.low j 0) (get_or w.high j 0) (k j + component x e j) ≡ carried components w i e j
    same_carry j l = rw (h j l, g.is)

    stops : (j : ℕ) → j < last x → carried components w i e j ≡ false → among x (window_of w) (λ j. k j + component x e j) ≡ false
    unfolding among
    stops j l t = every_not _ x.dimensions j (omega arith) (same_carry j l ∙ t)

    goes_on : every (carried components w i e) (last x) ≡ true
        → among x (window_of w) (λ j. k j + component x e j) ≡ carries (get_or w.low (last x) 0) (get_or w.high (last x) 0)
        (k (last x) + component x e (last x))
    unfolding among
    goes_on t =
        every_last _ x.dimensions (omega (arith, ok.dimensions_least))
        ∙ and_left _ _ (every_all _ (last x) (λ j l. same_carry j l ∙ every_at (carried components w i e) (last x) t j l))

  pub end_stops : (j : ℕ) → j < last x → carried components w i e j ≡ false → RowEnd x (window_of w) (λ j. get_or i j 0) e 0
  end_stops j l t = none_below (λ k h. stops k h j l t)

  module _ (j : ℕ) (s : Sofar (carried components w i e) (last x) j) (l : last x ≤ j) where
    all : every (carried components w i e) (last x) ≡ true
    all = sofar_end _ _ j s l

    d_is : get_or components (4 * e + last x) 0 ≡ component x e (last x)
    d_is = ap (λ (z : List ℕ). get_or z (4 * e + last x) 0) g.is

    -- the window is open at the start of the row
    pub end_some : get_or w.low (last x) 0 ≡ 0
        → RowEnd x (window_of w) (λ j. get_or i j 0) e (get_or w.high (last x) 0 - get_or components (4 * e + last x) 0)
    end_some o = record {
      is = λ k h. below (k (last x))
          ∙ sym (goes_on k h all ∙ and_left _ _ (le-leb (get_or w.low (last x) 0) (k (last x) + component x e (last x)) (omega arith)));
    }
      where
        below : (m : ℕ) → ltb m (get_or w.high (last x) 0 - get_or components (4 * e + last x) 0) ≡ ltb (m + component x e (last x))
            (get_or w.high (last x) 0)
        below m =
            same_test
            (λ t. lt-ltb (m + component x e (last x)) (get_or w.high (last x) 0)
            (omega (arith, d_is, ltb-true m (get_or w.high (last x) 0 - get_or components (4 * e + last x) 0) t)))
            (λ t. lt-ltb m (get_or w.high (last x) 0 - get_or components (4 * e + last x) 0)
            (omega (arith, d_is, ltb-true (m + component x e (last x)) (get_or w.high (last x) 0) t)))

-- ---- the ends of the first e distances

pub record Ending (x : Nest) (w : Region) (i : ℕ → ℕ) (ends : List ℕ) (e : ℕ) : Type 0 where
  pub low : e ≤ x.distances
  pub long : length ends ≡ 8
  pub each : (d : ℕ) → d < e → RowEnd x w i d (get_or ends d 0)

module _ (x : Nest) (w : Region) (i : ℕ → ℕ) where
  pub ending_none : (ends : List ℕ) → length ends ≡ 8 → Ending x w i ends 0
  ending_none ends h = record { low = omega arith; long = h; each = λ d k. absurd (omega arith) }

  pub ending_more : (ends : List ℕ) (e v : ℕ) → Ending x w i ends e → e < x.distances → x.distances ≤ 8 → RowEnd x w i e v
      → Ending x w i (set ends e v) (e + 1)
  ending_more ends e v s h m r =
      record { low = omega arith; long = length-set ends e v ∙ s.long; each = λ d k. go d (eq-or-lt_of_le (low d k)) }
    where
      low : (d : ℕ) → d < e + 1 → d ≤ e
      low d k = omega arith

      go : (d : ℕ) → (d ≡ e) ⊎ (d < e) → RowEnd x w i d (get_or (set ends e v) d 0)
      go d (inl q) = rw (q, get_or-set_same ends e v 0 (omega (arith, s.long))) r
      go d (inr q) = rw (get_or-set_other ends e d v 0 (λ z. omega arith)) (s.each d q)

  pub ending_end : (ends : List ℕ) (e : ℕ) → Ending x w i ends e → x.distances ≤ e → DistanceEnds x w i ends
  ending_end ends e s h = record { each = λ d k. s.each d (omega (arith, s.low)) }

-- ---- the run of a row

pub record Highest (ends : List ℕ) (n a m e : ℕ) : Type 0 where
  pub low : e ≤ n
  pub most : a ≤ m
  pub is : (y : ℕ) → ltb (a + y) m ≡ is_read ends e (a + y)

or_none : (t : Bool) → t ≡ false → (u : Bool) → u ≡ (t or u)
unfolding ◌or◌
or_none false e u = refl
or_none true e u = absurd (never_both refl e)

or_no : (t u : Bool) → u ≡ false → t ≡ (t or u)
unfolding ◌or◌
or_no true u e = refl
or_no false u e = sym e

or_yes : (t u : Bool) → u ≡ true → true ≡ (t or u)
unfolding ◌or◌
or_yes true u e = refl
or_yes false u e = sym e

module _ (ends : List ℕ) (n a : ℕ) where
  pub highest_none : Highest ends n a a 0
  unfolding some
  highest_none = record { low = omega arith; most = omega arith; is = λ y. le-ltb (a + y) a (omega arith) }

  module _ (m e : ℕ) (s : Highest ends n a m e) (h : e < n) where
    step : (m' : ℕ) → ((y : ℕ) → ltb (a + y) m' ≡ (ltb (a + y) m or ltb (a + y) (get_or ends e 0))) → a ≤ m' → Highest ends n a m' (e + 1)
    unfolding some
    step m' f g = record {
      low = omega arith;
      most = g;
      is = λ y. rw (add-one e)
          (f y ∙ ap (λ (t : Bool). t or ltb (a + y) (get_or ends e 0)) (s.is y));
    }

    highest_turn : (m' : ℕ) → ((m < get_or ends e 0) × (m' ≡ get_or ends e 0)) ⊎ ((get_or ends e 0 ≤ m) × (m' ≡ m))
        → Highest ends n a m' (e + 1)
    highest_turn m' (inl (l, q)) = rw q (step (get_or ends e 0) (λ y. go y (dec_lt (a + y) (get_or ends e 0))) (omega (arith, s.most)))
      where
        go : (y : ℕ) → Dec (a + y < get_or ends e 0) → ltb (a + y) (get_or ends e 0) ≡ (ltb (a + y) m or ltb (a + y) (get_or ends e 0))
        go y (yes k) = lt-ltb _ _ k ∙ or_yes (ltb (a + y) m) _ (lt-ltb _ _ k)
        go y (no k) = or_none (ltb (a + y) m) (le-ltb (a + y) m (omega arith)) _
    highest_turn m' (inr (l, q)) = rw q (step m (λ y. go y (dec_lt (a + y) m)) s.most)
      where
        go : (y : ℕ) → Dec (a + y < m) → ltb (a + y) m ≡ (ltb (a + y) m or ltb (a + y) (get_or ends e 0))
        go y (yes k) = lt-ltb (a + y) m k ∙ sym (or_left _ (lt-ltb (a + y) m k))
        go y (no k) = or_no (ltb (a + y) m) _ (le-ltb (a + y) (get_or ends e 0) (omega arith))

    pub highest_more : (m' : ℕ) → m' ≡ max m (get_or ends e 0) → Highest ends n a m' (e + 1)
    highest_more m' q = go (dec_lt m (get_or ends e 0))
      where
        go : Dec (m < get_or ends e 0) → Highest ends n a m' (e + 1)
        go (yes k) = highest_turn m' (inl (k, omega arith))
        go (no k) = highest_turn m' (inr (omega arith, omega arith))

  pub run_end : (m e w r : ℕ) → Highest ends n a m e → n ≤ e → r ≡ min w (m - a) → Leading ends n a w r
  run_end m e w r s h q =
      let z : e ≡ n = omega (arith, s.low) in
      record {
        low = omega arith;
        is = λ y k. same_test (λ t. lt-ltb (a + y) m (omega (arith, ltb-true y r t)))
            (λ t. lt-ltb y r (omega (arith, s.most, ltb-true (a + y) m t))) ∙ s.is y ∙ ap (some (λ d. ltb (a + y) (get_or ends d 0))) z;
      }

-- ---- the cells found grow by a run

module _ (x : Nest) (z : Sending) (first c a w : ℕ) (ends : List ℕ) (f : RowEnds x z first c a w ends) where
  module _ (n : ℕ) (p : Leading ends x.distances a w n) where
    pub run_all : found x z (first + w) ≡ found x z first ++ row_of c n
    run_all = row_all x z first c a w ends f ∙ ap (λ (k : List ℕ). found x z first ++ k) (row_run ends x.distances c a w n p)

    pub run_length : length (found x z (first + w)) ≡ length (found x z first) + n
    run_length = ap length run_all ∙ length-append (found x z first) (row_of c n)
        ∙ ap (λ (m : ℕ). length (found x z first) + m) (length_tabulate _ n)

    pub measure_run : (count : ℕ) → Measuring x z count first → Measuring x z (count + n) (first + w)
    measure_run count m = record { low = f.room; is = ap (λ (k : ℕ). k + n) m.is ∙ sym run_length }

    pub unpack_run : (memory₀ words memory memory' : List ℕ) (count : ℕ) → Unpacking x z memory₀ words memory count first
        → count ≤ length words
        → memory' ≡ unpack memory (row_of c n) (sublist words count n) → Unpacking x z memory₀ words memory' (count + n) (first + w)
    unfolding sublist
    unpack_run memory₀ words memory memory' count u l e =
        record {
          low = f.room;
          count_is = ap (λ (k : ℕ). k + n) u.count_is ∙ sym run_length;
          is = e
              ∙ ap (λ (k : List ℕ). unpack k (row_of c n) (take n (drop count words))) u.is
              ∙ sym (unpack_append memory₀ (found x z first) (row_of c n) (take count words) (take n (drop count words))
              (length-take-le count words l ∙ u.count_is))
              ∙ ap (λ (k : List ℕ). unpack memory₀ k (take count words ++ take n (drop count words))) (sym run_all)
              ∙ ap (unpack memory₀ (found x z (first + w))) (sym (take-add count n words));
        }

    pub pack_run : (memory words words' : List ℕ) (count : ℕ) → c + n ≤ length memory
        → words' ≡ put words count (sublist memory c n) → RowPacked ends x.distances c a w memory words count words' (count + n)
    pack_run memory words words' count h e =
        record {
          count_is = ap (λ (m : ℕ). count + m) (sym (ap length row ∙ length_tabulate _ n));
          is = e ∙ ap (put words count) (part_row memory c n h ∙ ap (pack memory) (sym row));
        }
      where
        row : row_parcel ends x.distances c a w ≡ row_of c n
        row = row_run ends x.distances c a w n p

    -- what the run takes of the words is there
    pub run_room : (count : ℕ) → count ≡ length (found x z first) → count + n ≤ length (found x z (z.rows * z.width))
    run_room count e = omega (arith, run_length, found_mono x z (z.rows * z.width) (first + w) f.room)
