-- Laws of a row's span: what each bound leaves of it, and the place of a row.
use Prim.Native.Nat.{ℕ, suc, ◌+◌, ◌*◌, ◌-◌, ◌≤◌, ◌<◌}
use mathlib.Core.Path.{◌≡◌, refl, sym, ap, ◌∙◌}
use mathlib.Core.Logic.{◌⊎◌, inl, inr}
use mathlib.Core.Bool.{Bool, true, false}
use mathlib.Core.List.{List}
use native.Mathlib.Nat.{mul-le-mul}
use native.Mathlib.Decide.{dec_lt, ℕ_discrete}
use native.Mathlib.Omega.{arith}
use native.Mathlib.Numerals.{add-one}
use lib.ListN.{length, get_or, set, replicate, length-set, get_or-replicate}
use lib.Seq.{get_or-set_same, get_or-set_other}
use lib.Dec.{eqb, ltb, leb}
use borrow.Author.Tests.{lt-ltb, le-leb, eq-eqb, ne_eqb, leb-true, ltb-true}
use Rattle.base.specs.Tests.{◌and◌, pick, every}
use Rattle.base.proofs.Tests.{both, and_true, and_no, same_test, is_false, pick_true, pick_false}
use Rattle.nest.specs.declared.Nest.{Nest}
use Rattle.nest.specs.declared.Interval.{Interval}
use Rattle.nest.specs.Nest.{length_of, side, bounded, earlier, slope, bound_offset}
use Rattle.nest.specs.Places.{place, cell_place}
use Rattle.nest.specs.Shape.{level, raised, meets}
use Rattle.nest.specs.Spans.{Framed, last, row_place, meets_first, within, spot, Narrow, Cuts, Spans, Row, Marked, HasLengths, PlaceWritten}
use Rattle.nest.proofs.Rank.{place_low}
use Rattle.nest.proofs.Shapes.{place_row}

-- ---- spans of plain numbers

module _ (a low high low' high' : ℕ) (p : Bool) where
  -- the second span has a just where the first has it and p holds
  cut_test : (low' ≤ a → a < high' → (low ≤ a) × (a < high) × (p ≡ true)) → (low ≤ a → a < high → p ≡ true → (low' ≤ a) × (a < high'))
      → (leb low' a and ltb a high') ≡ ((leb low a and ltb a high) and p)
  cut_test f g =
      same_test
      (λ e.
      let w = both e in
      let r = f (leb-true low' a w.0) (ltb-true a high' w.1) in
      and_true (and_true (le-leb low a r.0) (lt-ltb a high r.1)) r.2)
      (λ e.
      let w = both e in
      let v = both w.0 in
      let r = g (leb-true low a v.0) (ltb-true a high v.1) w.1 in
      and_true (le-leb low' a r.0) (lt-ltb a high' r.1))

pub all_kept : (s : Interval) (p : Bool) → p ≡ true → (s.to ≤ s.to) × ((a : ℕ) → within s a ≡ (within s a and p))
all_kept s p h = (omega arith, λ a. cut_test a s.from s.to s.from s.to p (λ m l. (m, l, h)) (λ m l e. (m, l)))

pub none_kept : (s : Interval) (p : Bool) → p ≡ false → (0 ≤ s.to) × ((a : ℕ) → (leb 0 a and ltb a 0) ≡ (within s a and p))
none_kept s p h = (omega arith, λ a. and_no (leb 0 a) (ltb a 0) (is_false (λ e. let k = ltb-true a 0 e in omega arith)) ∙ sym (and_no (within s a) p h))

module _ (s : Interval) (line base : ℕ) where
  pub above_base : line ≤ base → (s.to ≤ s.to) × ((a : ℕ) → within s a ≡ (within s a and leb line (a + base)))
  above_base h = (omega arith, λ a. cut_test a s.from s.to s.from s.to _ (λ m l. (m, l, le-leb line (a + base) (omega arith))) (λ m l e. (m, l)))

  pub above_all : line - base ≤ s.from → (s.to ≤ s.to) × ((a : ℕ) → within s a ≡ (within s a and leb line (a + base)))
  above_all h = (omega arith, λ a. cut_test a s.from s.to s.from s.to _ (λ m l. (m, l, le-leb line (a + base) (omega arith))) (λ m l e. (m, l)))

  pub above_some : s.from < line - base → (s.to ≤ s.to) × ((a : ℕ) → (leb (line - base) a and ltb a s.to) ≡ (within s a and leb line (a + base)))
  above_some h = (
    omega arith,
    λ a. cut_test a s.from s.to (line - base) s.to _ (λ m l. (omega arith, l, le-leb line (a + base) (omega arith)))
        (λ m l e. let k = leb-true line (a + base) e in (omega arith, l)),
  )

  pub below_none : line < base → (0 ≤ s.to) × ((a : ℕ) → (leb 0 a and ltb a 0) ≡ (within s a and leb (a + base) line))
  below_none h = (
    omega arith,
    λ a. cut_test a s.from s.to 0 0 _ (λ m l. absurd (omega arith)) (λ m l e. let k = leb-true (a + base) line e in absurd (omega arith)),
  )

  pub below_all : base ≤ line → s.to ≤ line - base → (s.to ≤ s.to) × ((a : ℕ) → within s a ≡ (within s a and leb (a + base) line))
  below_all b h = (omega arith, λ a. cut_test a s.from s.to s.from s.to _ (λ m l. (m, l, le-leb (a + base) line (omega arith))) (λ m l e. (m, l)))

  pub below_some : base ≤ line → line - base < s.to
      → (line - base + 1 ≤ s.to) × ((a : ℕ) → (leb s.from a and ltb a (line - base + 1)) ≡ (within s a and leb (a + base) line))
  below_some b h = (
    omega arith,
    λ a. cut_test a s.from s.to s.from (line - base + 1) _ (λ m l. (m, omega arith, le-leb (a + base) line (omega arith)))
        (λ m l e. let k = leb-true (a + base) line e in (m, omega arith)),
  )

-- ---- a bound on a row

module _ (x : Nest) (fr : Framed x) (at : List ℕ) (k : ℕ) (low : k < x.bounds) where
  row_at : (a j : ℕ) → j < last x → row_place x (spot at) a j ≡ spot at j
  unfolding row_place
  row_at a j h = pick_false (eqb j (last x)) a (spot at j) (ne_eqb j (last x) (λ e. omega arith))

  row_last : (a : ℕ) → row_place x (spot at) a (last x) ≡ a
  unfolding row_place
  row_last a = pick_true (eqb (last x) (last x)) a (spot at (last x)) (eq-eqb (last x) (last x) refl)

  before_last : earlier x k < last x
  before_last = omega (arith, fr.earlier_low k low, fr.bounded_low k low)

  pub before_four : earlier x k < 4
  before_four = omega (arith, before_last, fr.dimensions_most)

  -- the numbers are small
  pub line_room : Narrow x at → slope x k * spot at (earlier x k) ≤ 131070
  line_room n =
      let e : spot at (earlier x k) ≤ 65535 = let h = n (earlier x k) (omega (arith, before_last)) in omega arith in
      omega (arith, mul-le-mul (fr.slope_most k) e)

  pub base_room : Narrow x at → spot at (earlier x k) < 65536
  base_room n = n (earlier x k) (omega (arith, before_last))

  abbrev line_of : ℕ
  line_of = slope x k * spot at (earlier x k) + bound_offset x k

  abbrev base_of : ℕ
  base_of = spot at (earlier x k) + 32768

  level_row : (a : ℕ) → level x k (row_place x (spot at) a) ≡ line_of
  unfolding level
  level_row a = rw (row_at a (earlier x k) before_last)

  raised_other : (a : ℕ) → bounded x k + 1 < x.dimensions → raised x k (row_place x (spot at) a) ≡ spot at (bounded x k) + base_of
  unfolding raised
  raised_other a h = rw (row_at a (earlier x k) before_last, row_at a (bounded x k) (omega arith)) (omega arith)

  raised_last : (a : ℕ) → x.dimensions ≤ bounded x k + 1 → raised x k (row_place x (spot at) a) ≡ a + base_of
  unfolding raised
  raised_last a h =
      let e : bounded x k ≡ last x = omega (arith, fr.bounded_low k low) in
      rw (row_at a (earlier x k) before_last, e, row_last a) (omega arith)

  -- what `kept`, `above` and `below` are told, as the bound
  pub cut_other : (s r : Interval) (lower p : Bool) → bounded x k + 1 < x.dimensions → lower ≡ eqb (side x k) 0
      → p ≡ pick lower (leb line_of (spot at (bounded x k) + base_of)) (leb (spot at (bounded x k) + base_of) line_of)
      → (r.to ≤ s.to) × ((a : ℕ) → within r a ≡ (within s a and p)) → Cuts x at k s r
  unfolding meets
  cut_other s r lower p h e q w =
      record { most = w.0; has = λ a. w.1 a ∙ ap (λ (t : Bool). within s a and t) (q ∙ rw (e, level_row a, raised_other a h) refl) }

  pub cut_lower : (s r : Interval) (lower : Bool) → x.dimensions ≤ bounded x k + 1 → lower ≡ eqb (side x k) 0 → lower ≡ true
      → (r.to ≤ s.to) × ((a : ℕ) → within r a ≡ (within s a and leb line_of (a + base_of))) → Cuts x at k s r
  unfolding meets
  cut_lower s r lower h e t w =
      record {
        most = w.0;
        has = λ a. w.1 a ∙ ap (λ (t : Bool). within s a and t) (sym (rw (level_row a, raised_last a h) (pick_true (eqb (side x k) 0) _ _ (sym e ∙ t))));
      }

  pub cut_upper : (s r : Interval) (lower : Bool) → x.dimensions ≤ bounded x k + 1 → lower ≡ eqb (side x k) 0 → lower ≡ false
      → (r.to ≤ s.to) × ((a : ℕ) → within r a ≡ (within s a and leb (a + base_of) line_of)) → Cuts x at k s r
  unfolding meets
  cut_upper s r lower h e t w =
      record {
        most = w.0;
        has = λ a. w.1 a ∙ ap (λ (t : Bool). within s a and t) (sym (rw (level_row a, raised_last a h) (pick_false (eqb (side x k) 0) _ _ (sym e ∙ t))));
      }

-- ---- all bounds on a row

pub record Cutting (x : Nest) (at : List ℕ) (k : ℕ) (s : Interval) : Type 0 where
  pub few : k ≤ x.bounds
  pub most : s.to ≤ length_of x (last x)
  pub has : (a : ℕ) → a < length_of x (last x) → meets_first x (spot at) k a ≡ within s a

module _ (x : Nest) (at : List ℕ) where
  pub cutting_start : Cutting x at 0 (record { from = 0; to = length_of x (last x) })
  unfolding meets_first every
  cutting_start =
      record {
        few = omega arith;
        most = omega arith;
        has = λ a l. sym (and_true (le-leb 0 a (omega arith)) (lt-ltb a (length_of x (last x)) l));
      }

  pub cutting_next : (k : ℕ) (s r : Interval) → Cutting x at k s → k < x.bounds → Cuts x at k s r → Cutting x at (k + 1) r
  unfolding meets_first every
  cutting_next k s r c l u =
      record {
        few = omega arith;
        most = omega (arith, u.most, c.most);
        has = λ a m. rw (add-one k) (ap (λ (t : Bool). t and meets x (row_place x (spot at) a) k) (c.has a m) ∙ sym (u.has a));
      }

  pub cutting_end : (k : ℕ) (s : Interval) → Cutting x at k s → x.bounds ≤ k → Spans x at s
  cutting_end k s c h =
      let e : k ≡ x.bounds = omega (arith, c.few) in
      record { most = c.most; has = λ a m. ap (λ (n : ℕ). meets_first x (spot at) n a) (sym e) ∙ c.has a m }

-- ---- the place of a row: the place of its number in the dimensions before the last, and 0

module _ (x : Nest) (fr : Framed x) (q : ℕ) where
  pub row_lengths : HasLengths x.lengths (last x)
  row_lengths = record { low = omega (arith, fr.dimensions_most); positive = λ j h. fr.long j (omega arith) }

  start : (i : ℕ) → i < x.dimensions → cell_place x (q * length_of x (last x)) i ≡ pick (eqb i (last x)) 0 (place (length_of x) (last x) q i)
  unfolding cell_place
  start i h =
      let e : suc (last x) ≡ x.dimensions = omega (arith, fr.dimensions_least) in
      let z : q * length_of x (last x) + 0 ≡ q * length_of x (last x) = omega arith in
      ap (λ (c : ℕ). place (length_of x) x.dimensions c i) (sym z)
      ∙ (ap (λ (n : ℕ). place (length_of x) n (q * length_of x (last x) + 0) i) (sym e)
      ∙ place_row (length_of x) (last x) q 0 i (fr.long (last x) (omega (arith, fr.dimensions_least))) (omega arith))

  pub row_written : (before at : List ℕ) → before ≡ replicate 4 0 → PlaceWritten x.lengths before q (last x) at → Row x q at
  row_written before at e p =
      record {
        first = first_is;
        narrow = λ j h. small j h (dec_lt j (last x));
      }
    where
      blank : get_or at (last x) 0 ≡ 0
      blank =
          p.others (last x) (omega arith)
          ∙ (ap (λ (l : List ℕ). get_or l (last x) 0) e
          ∙ get_or-replicate {A = ℕ} 4 (last x) 0 0 (omega (arith, fr.dimensions_least, fr.dimensions_most)))

      first_is : (i : ℕ) → i < x.dimensions → spot at i ≡ cell_place x (q * length_of x (last x)) i
      first_is i h = go (ℕ_discrete i (last x))
        where
          go : Dec (i ≡ last x) → spot at i ≡ cell_place x (q * length_of x (last x)) i
          go (yes e) = ap (spot at) e ∙ (blank ∙ sym (start i h ∙ pick_true (eqb i (last x)) 0 _ (eq-eqb i (last x) e)))
          go (no e) = p.first i (omega arith) ∙ sym (start i h ∙ pick_false (eqb i (last x)) 0 _ (ne_eqb i (last x) e))

      small : (i : ℕ) → i < x.dimensions → Dec (i < last x) → spot at i < 65536
      small i h (yes l) =
          let w = place_low (length_of x) (last x) q (λ o k. fr.long o (omega arith)) i l in
          omega (arith, p.first i l, fr.length_wide i)
      small i h (no l) = let e : i ≡ last x = omega arith in rw e (omega (arith, blank))

-- ---- marks

pub record Marking (before : List ℕ) (low high : ℕ) (after : List ℕ) (u : ℕ) : Type 0 where
  pub least : low ≤ u
  pub most : u ≤ high
  pub long : length after ≡ length before
  pub marks : (i : ℕ) → low ≤ i → i < u → get_or after i 0 ≡ 1
  pub others : (i : ℕ) → (i < low) ⊎ (u ≤ i) → get_or after i 0 ≡ get_or before i 0

module _ (before : List ℕ) (low high : ℕ) where
  pub marking_start : low ≤ high → Marking before low high before low
  marking_start h = record { least = omega arith; most = h; long = refl; marks = λ i a b. absurd (omega arith); others = λ i o. refl }

  pub marking_next : (after : List ℕ) (u : ℕ) → Marking before low high after u → u < high → high ≤ length before
      → Marking before low high (set after u 1) (u + 1)
  marking_next after u m h l =
      record {
        least = omega (arith, m.least);
        most = omega arith;
        long = length-set after u 1 ∙ m.long;
        marks = λ i a b. go i a b (ℕ_discrete i u);
        others = others_are;
      }
    where
      go : (i : ℕ) → low ≤ i → i < u + 1 → Dec (i ≡ u) → get_or (set after u 1) i 0 ≡ 1
      go i a b (yes e) = rw e (get_or-set_same after u 1 0 (omega (arith, m.long)))
      go i a b (no e) = get_or-set_other after u i 1 0 e ∙ m.marks i a (omega arith)

      others_are : (i : ℕ) → (i < low) ⊎ (u + 1 ≤ i) → get_or (set after u 1) i 0 ≡ get_or before i 0
      others_are i (inl o) = get_or-set_other after u i 1 0 (λ e. omega (arith, m.least)) ∙ m.others i (inl o)
      others_are i (inr o) = get_or-set_other after u i 1 0 (λ e. omega arith) ∙ m.others i (inr (omega arith))

  pub marking_end : (after : List ℕ) (u : ℕ) → Marking before low high after u → high ≤ u → Marked before low high after
  marking_end after u m h =
      let e : u ≡ high = omega (arith, m.most) in
      record {
        long = m.long;
        marks = λ i a b. m.marks i a (omega arith);
        others = λ i o. m.others i (rw e o);
      }
