-- Laws of the messages' rows: six words stored, rows one after the other, and the pass over the slots of the table.
use Rattle.std.specs.Prelude.{◌≡◌, ℕ, zero, suc, ◌+◌, ◌-◌, ◌*◌, ◌<◌, ◌≤◌, ◌≢◌, ◌⊎◌, List, [], ◌∷◌, ◌++◌, length, get_or, take, drop, set}
use mathlib.Core.Path.{refl, sym, ap, ◌∙◌}
use mathlib.Core.Logic.{inl, inr}
use mathlib.Core.List.{append_assoc, append-nil}
use native.Mathlib.Nat.{eq-or-lt_of_le, le_of_suc-le-suc}
use native.Mathlib.Numerals.{add-one}
use native.Mathlib.Omega.{arith}
use lib.ListN.{length-append, drop_of_length-le}
use lib.Seq.{take_all, take_at, drop_at, drop-drop}
use borrow.Rule.Slice.PartMut.{put_mid}
use Rattle.base.specs.Lists.{sublist, put}
use Rattle.base.proofs.Lists.{part_left, part_right, length_put}
use Rattle.machine.specs.Plan.{Plan, Message, count, offset}
use Rattle.nest.specs.declared.Nest.{Nest}
use Rattle.plan.specs.declared.Route.{Route}
use Rattle.plan.specs.Messages.{messages_of}
use Rattle.plan.specs.Shaped.{plan_of}
use Rattle.tables.specs.declared.Table.{Table}
use Rattle.tables.specs.Given.{plan_of_table}
use Rattle.tables.specs.scans.Scans.{Lengths, Summing}
use Rattle.tables.proofs.scans.Laws as scans
use Rattle.tables.specs.Tables.{FoundIn}
use Rattle.tables.proofs.Slotted.{Slotted, slotted}
use Rattle.summary.specs.declared.MessageLine.{MessageLine}
use Rattle.summary.specs.Summary.{line_of}
use Rattle.stages.proofs.Parts.{back, mid_length}
use Rattle.transport.specs.Calls.{row_of, rows_to}

-- ---- a row

pub six_set : (l : List ℕ) (a b c d e f : ℕ) → length l ≡ 6
    → set (set (set (set (set (set l 0 a) 1 b) 2 c) 3 d) 4 e) 5 f ≡ a ∷ b ∷ c ∷ d ∷ e ∷ f ∷ []
six_set [] a b c d e f h = absurd (omega (arith, h))
six_set (x ∷ []) a b c d e f h = absurd (omega (arith, h))
six_set (x ∷ y ∷ []) a b c d e f h = absurd (omega (arith, h))
six_set (x ∷ y ∷ z ∷ []) a b c d e f h = absurd (omega (arith, h))
six_set (x ∷ y ∷ z ∷ w ∷ []) a b c d e f h = absurd (omega (arith, h))
six_set (x ∷ y ∷ z ∷ w ∷ v ∷ []) a b c d e f h = absurd (omega (arith, h))
six_set (x ∷ y ∷ z ∷ w ∷ v ∷ u ∷ []) a b c d e f h = refl
six_set (x ∷ y ∷ z ∷ w ∷ v ∷ u ∷ t ∷ l) a b c d e f h = absurd (omega (arith, h))

-- by the numbers of the code
pub row_is : (p : Plan) (m : ℕ) (r : MessageLine) (o : ℕ) → r ≡ line_of p m → o ≡ offset p.messages m
    → r.sender ∷ r.taker ∷ r.from ∷ r.to ∷ r.words ∷ o ∷ [] ≡ row_of p m
unfolding row_of
row_is p m r o e q = rw (e, q) refl

row_long : (p : Plan) (m : ℕ) → length (row_of p m) ≡ 6
unfolding row_of
row_long p m = refl

pub row_back : (p : Plan) (m a : ℕ) (l ys : List ℕ) (r : MessageLine) (o : ℕ) → a ≡ 6 * m → a + 6 ≤ length l
    → length ys ≡ length (take (a + 6 - a) (drop a l)) → r ≡ line_of p m → o ≡ offset p.messages m
    → ys ≡ r.sender ∷ r.taker ∷ r.from ∷ r.to ∷ r.words ∷ o ∷ [] → put_mid a (a + 6 - a) l ys ≡ put l (6 * m) (row_of p m)
row_back p m a l ys r o at h n e q k =
    back l ys (λ _. row_of p m) a 6 h n (k ∙ row_is p m r o e q) ∙ ap (λ (i : ℕ). put l i (row_of p m)) at

pub mid_six : (l : List ℕ) (a : ℕ) → a + 6 ≤ length l → length (take (a + 6 - a) (drop a l)) ≡ 6
mid_six l a h = mid_length l a 6 h

-- ---- rows one after the other

rows_long : (p : Plan) (m : ℕ) → length (rows_to p m) ≡ 6 * m
unfolding rows_to
rows_long p zero = refl
rows_long p (suc m) = length-append (rows_to p m) (row_of p m) ∙ omega (arith, rows_long p m, row_long p m)

whole_row : (l : List ℕ) → length l ≡ 6 → sublist l 0 6 ≡ l
unfolding sublist
whole_row l e = take_all 6 l (omega arith)

-- the row of each message
pub rows_at : (p : Plan) (n m : ℕ) → m < n → sublist (rows_to p n) (6 * m) 6 ≡ row_of p m
unfolding rows_to
rows_at p zero m h = absurd (omega arith)
rows_at p (suc n) m h = go (rows_at p n m) (eq-or-lt_of_le (le_of_suc-le-suc h))
  where
    go : (m < n → sublist (rows_to p n) (6 * m) 6 ≡ row_of p m) → (m ≡ n) ⊎ (m < n) → sublist (rows_to p n ++ row_of p n) (6 * m) 6 ≡ row_of p m
    go ih (inl e) =
        let z : 6 * m - length (rows_to p n) ≡ 0 = omega (arith, rows_long p n) in
        part_right (rows_to p n) (row_of p n) (6 * m) 6 (omega (arith, rows_long p n))
        ∙ ap (λ (i : ℕ). sublist (row_of p n) i 6) z ∙ whole_row (row_of p n) (row_long p n) ∙ ap (row_of p) (sym e)
    go ih (inr l) = part_left (rows_to p n) (row_of p n) (6 * m) 6 (omega (arith, rows_long p n)) ∙ ih l

seam : (a old s : List ℕ) (i k : ℕ) → length a ≡ i → i + length s ≡ k → put (a ++ drop i old) i s ≡ (a ++ s) ++ drop k old
unfolding put
seam a old s i k e q =
    rw (take_at a (drop i old) i e, drop_at a (drop i old) i e)
    (ap (λ (z : List ℕ). a ++ (s ++ z)) (drop-drop (length s) i old ∙ ap (λ (n : ℕ). drop n old) q) ∙ sym (append_assoc a s (drop k old)))

-- the first m rows are told
pub record Telling (p : Plan) (old new : List ℕ) (m : ℕ) : Type 0 where
  pub long : length new ≡ length old
  pub is : new ≡ rows_to p m ++ drop (6 * m) old

module _ (p : Plan) (old : List ℕ) where
  pub tell_start : Telling p old old 0
  unfolding rows_to
  tell_start = record { long = refl; is = refl }

  pub tell_next : (new : List ℕ) (m : ℕ) → length old ≡ 6 * count p → m < count p → Telling p old new m
      → Telling p old (put new (6 * m) (row_of p m)) (m + 1)
  unfolding rows_to
  tell_next new m h l g =
      record {
        long = length_put new (6 * m) (row_of p m) (omega (arith, g.long, row_long p m)) ∙ g.long;
        is = ap (λ (z : List ℕ). put z (6 * m) (row_of p m)) g.is
            ∙ seam (rows_to p m) old (row_of p m) (6 * m) (6 * suc m) (rows_long p m) (omega (arith, row_long p m))
            ∙ ap (λ (k : ℕ). rows_to p k ++ drop (6 * k) old) (sym (add-one m));
      }

  pub tell_done : (new : List ℕ) (m : ℕ) → length old ≡ 6 * count p → m ≡ count p → Telling p old new m → new ≡ rows_to p (count p)
  tell_done new m h e g =
      let short : length old ≤ 6 * count p = omega arith in
      g.is ∙ ap (λ (k : ℕ). rows_to p k ++ drop (6 * k) old) e
      ∙ ap (λ (z : List ℕ). rows_to p (count p) ++ z) (drop_of_length-le old short) ∙ append-nil (rows_to p (count p))

-- ---- the pass over the slots of the table

pub slots_of : (t : Table) (k : ℕ) → k ≡ (plan_of_table t).tiles → Slotted t.layout.sizes.route t.layout.nest t.lens.now (k * t.layout.sizes.ways)
slots_of t k is = slotted t.layout.nest t.layout.sizes t.layout.sized t.lens.now t.tabled k is

-- the slots before `slot` are passed: so many messages with so many words, and their rows are told
pub record Passing (r : Route) (x : Nest) (lens : List ℕ) (n : ℕ) (old new : List ℕ) (s m o : ℕ) : Type 0 where
  pub low : s ≤ n
  pub few : m ≤ s
  pub small : o ≤ 16384 * s
  pub sums : (f : ℕ → Message) → Lengths f n lens → Summing f s m o
  pub told : Telling (plan_of r x) old new m

module _ (r : Route) (x : Nest) (lens : List ℕ) (n : ℕ) (old : List ℕ) where
  pub pass_start : Passing r x lens n old old 0 0 0
  pass_start =
      record { low = omega arith; few = omega arith; small = omega arith; sums = λ f h. scans.sum_start f; told = tell_start (plan_of r x) old }

  module _ (new : List ℕ) (s m o : ℕ) (g : Passing r x lens n old new s m o) (t : Slotted r x lens n) where
    module _ (l : s < n) (w : ℕ) (e : w ≡ get_or lens s 0) where
      pub here : w ≢ 0 → FoundIn r x m (record { slot = s; number = m; offset = o; words = w })
      here h = t.found m _ (scans.found t.slot n s m o w (g.sums t.slot t.lengths) l (e ∙ t.lengths.each s l) (scans.positive w h))

      pub pass_next : (new' : List ℕ) (m' : ℕ) → length old ≡ 6 * count (plan_of r x)
          → ((w ≢ 0) × ((new' ≡ put new (6 * m) (row_of (plan_of r x) m)) × (m' ≡ m + 1))) ⊎ ((w ≡ 0) × ((new' ≡ new) × (m' ≡ m)))
          → Passing r x lens n old new' (s + 1) m' (o + w)
      pass_next new' m' h (inl (a, b)) =
          record {
            low = omega arith;
            few = omega (arith, g.few, b.1);
            small = omega (arith, g.small, e, t.sheet.short s l);
            sums = λ f i. scans.sum_turn f s m o w m' (g.sums f i) (e ∙ i.each s l) (inl (a, b.1));
            told = rw (b.0, b.1) (tell_next (plan_of r x) old new m h (here a).low g.told);
          }
      pass_next new' m' h (inr (a, b)) =
          record {
            low = omega arith;
            few = omega (arith, g.few, b.1);
            small = omega (arith, g.small, e, t.sheet.short s l);
            sums = λ f i. scans.sum_turn f s m o w m' (g.sums f i) (e ∙ i.each s l) (inr (a, b.1));
            told = rw (b.0, b.1) g.told;
          }

    pub pass_done : length old ≡ 6 * count (plan_of r x) → n ≤ s → new ≡ rows_to (plan_of r x) (count (plan_of r x))
    pass_done h k =
        let z : s ≡ n = omega (arith, g.low) in
        tell_done (plan_of r x) old new m h
        ((g.sums t.slot t.lengths).number ∙ ap (λ (i : ℕ). length (messages_of t.slot i)) z ∙ sym (ap length t.all)) g.told
