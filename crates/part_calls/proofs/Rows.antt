-- Laws of the messages' rows: seven words each, in the order of their numbers, one after the other.
use Rattle.std.specs.Prelude.{◌≡◌, ℕ, suc, ◌+◌, ◌-◌, ◌*◌, ◌<◌, ◌≤◌, Bool, true, false, ◌≢◌, List, [], ◌∷◌, ◌++◌, length, take, drop, set}
use mathlib.Core.Path.{refl, sym, ap, ◌∙◌}
use mathlib.Core.List.{append_assoc}
use native.Mathlib.Omega.{arith}
use native.Mathlib.Numerals.{add-one}
use lib.ListN.{length-append}
use lib.Seq.{take_at, length-take-le}
use borrow.Author.Tests.{eq-eqb, ne_eqb}
use borrow.Rule.Slice.PartMut.{put_mid}
use Rattle.base.specs.Tests.{pick, keep}
use Rattle.base.specs.Lists.{put}
use Rattle.base.specs.Numbers.{first_of}
use Rattle.base.proofs.Tests.{not-true, not-false, pick_true, pick_false}
use Rattle.base.proofs.Numbers.{first_true, first_false}
use Rattle.base.proofs.Select.{keep_few, keep_hit, keep_none, keep_lt, keep_mono}
use Rattle.base.proofs.Lists.{length_put}
use Rattle.machine.specs.Plan.{Plan, count}
use Rattle.machine.specs.Machine.{answered}
use Rattle.stages.proofs.Parts.{back, mid_length}
use Rattle.engine.specs.Calls.{answer}
use Rattle.engine.proofs.Turns.{answered_no, answered_yes}
use Rattle.summary.specs.declared.MessageLine.{MessageLine}
use Rattle.summary.specs.Summary.{line_of}
use Rattle.network.specs.Own.{handles, handled}
use Rattle.part.specs.Part.{rank_of, mail_at}
use Rattle.part_calls.specs.front.Calls.{part_row, part_rows}
use Rattle.part_calls.specs.Given.{rows_or}

-- seven words stored one after the other
pub seven_set : (l : List ℕ) (a b c d e f g : ℕ) → length l ≡ 7
    → set (set (set (set (set (set (set l 0 a) 1 b) 2 c) 3 d) 4 e) 5 f) 6 g ≡ a ∷ b ∷ c ∷ d ∷ e ∷ f ∷ g ∷ []
seven_set [] a b c d e f g n = absurd (omega arith)
seven_set (_ ∷ []) a b c d e f g n = absurd (omega arith)
seven_set (_ ∷ _ ∷ []) a b c d e f g n = absurd (omega arith)
seven_set (_ ∷ _ ∷ _ ∷ []) a b c d e f g n = absurd (omega arith)
seven_set (_ ∷ _ ∷ _ ∷ _ ∷ []) a b c d e f g n = absurd (omega arith)
seven_set (_ ∷ _ ∷ _ ∷ _ ∷ _ ∷ []) a b c d e f g n = absurd (omega arith)
seven_set (_ ∷ _ ∷ _ ∷ _ ∷ _ ∷ _ ∷ []) a b c d e f g n = absurd (omega arith)
seven_set (_ ∷ _ ∷ _ ∷ _ ∷ _ ∷ _ ∷ _ ∷ []) a b c d e f g n = refl
seven_set (_ ∷ _ ∷ _ ∷ _ ∷ _ ∷ _ ∷ _ ∷ _ ∷ l) a b c d e f g n = absurd (omega (arith, n))

module _ (p : Plan) (b : ℕ) where
  row_long : (m : ℕ) → length (part_row p b m) ≡ 7
  unfolding part_row
  row_long m = refl

  rows_more : (ms : List ℕ) (m : ℕ) → part_rows p b (ms ++ (m ∷ [])) ≡ part_rows p b ms ++ part_row p b m
  unfolding part_rows part_row
  rows_more [] m = refl
  rows_more (k ∷ ms) m = ap (λ (z : List ℕ). part_row p b k ++ z) (rows_more ms m) ∙ sym (append_assoc (part_row p b k) (part_rows p b ms) (part_row p b m))

  -- ranks are small
  pub rank_few : (m rank : ℕ) → rank ≡ rank_of p b m → rank ≤ m
  rank_few m rank e = omega (arith, e, keep_few (handles p b) m)

  -- ---- one row

  module _ (m : ℕ) (lo : m < count p) (out : List ℕ) (long : length out ≡ 7 * length (handled p b)) where
    pub passed : handles p b m ≡ false → out ≡ pick (handles p b m) (put out (7 * rank_of p b m) (part_row p b m)) out
    passed h = sym (pick_false _ _ _ h)

    module _ (h : handles p b m ≡ true) (rank : ℕ) (at : rank ≡ rank_of p b m) where
      pub room : 7 * rank + 7 ≤ length out
      room = omega (arith, long, at, keep_lt (handles p b) (count p) m lo h)

      pub lent : length (take (7 * rank + 7 - 7 * rank) (drop (7 * rank) out)) ≡ 7
      lent = mid_length out (7 * rank) 7 room

      -- by the words of the code
      pub stored : (r : MessageLine) → r ≡ line_of p m → (n place : ℕ) → n ≡ m → place ≡ mail_at p b m → (row : List ℕ)
          → length row ≡ length (take (7 * rank + 7 - 7 * rank) (drop (7 * rank) out))
          → row ≡ n ∷ r.sender ∷ r.taker ∷ r.from ∷ r.to ∷ r.words ∷ place ∷ []
          → put_mid (7 * rank) (7 * rank + 7 - 7 * rank) out row ≡ pick (handles p b m) (put out (7 * rank_of p b m) (part_row p b m)) out
      unfolding part_row
      stored r e n place q w row k is =
          let same : row ≡ part_row p b m =
          is ∙ ap (λ (x : MessageLine). n ∷ x.sender ∷ x.taker ∷ x.from ∷ x.to ∷ x.words ∷ place ∷ []) e
          ∙ ap (λ (i : ℕ). i ∷ (line_of p m).sender ∷ (line_of p m).taker ∷ (line_of p m).from ∷ (line_of p m).to ∷ (line_of p m).words ∷ place ∷ []) q
          ∙ ap (λ (i : ℕ). m ∷ (line_of p m).sender ∷ (line_of p m).taker ∷ (line_of p m).from ∷ (line_of p m).to ∷ (line_of p m).words ∷ i ∷ []) w in
          back out row (λ _. part_row p b m) (7 * rank) 7 room k same
          ∙ ap (λ (i : ℕ). put out (7 * i) (part_row p b m)) at ∙ sym (pick_true _ _ _ h)

  -- ---- the rows of the messages passed

  pub record Rowed (old new : List ℕ) (m : ℕ) : Type 0 where
    pub long : length new ≡ length old
    pub low : m ≤ count p
    pub rows : take (7 * rank_of p b m) new ≡ part_rows p b (keep (handles p b) m)

  pub rows_start : (old : List ℕ) → Rowed old old 0
  unfolding keep part_rows
  rows_start old = record { long = refl; low = omega arith; rows = refl }

  module _ (old new : List ℕ) (m : ℕ) (g : Rowed old new m) (lo : m < count p) (all : length old ≡ 7 * length (handled p b)) where
    rank_low : 7 * rank_of p b m ≤ length new
    rank_low = omega (arith, g.long, all, keep_mono (handles p b) (count p) m g.low)

    -- a row put behind them
    front : handles p b m ≡ true → take (7 * rank_of p b (suc m)) (put new (7 * rank_of p b m) (part_row p b m)) ≡ part_rows p b (keep (handles p b) (suc m))
    unfolding put
    front h =
        let f = 7 * rank_of p b m in
        let a : List ℕ = take (7 * rank_of p b m) new in
        let z : List ℕ = drop (length (part_row p b m)) (drop (7 * rank_of p b m) new) in
        let n : length (take (7 * rank_of p b m) new ++ part_row p b m) ≡ 7 * rank_of p b (suc m) =
        length-append (take (7 * rank_of p b m) new) (part_row p b m)
        ∙ omega (
          arith,
          length-take-le (7 * rank_of p b m) new rank_low,
          row_long m,
          ap length (keep_hit (handles p b) m h),
          length-append (keep (handles p b) m) (m ∷ []),
        ) in
        ap (take (7 * rank_of p b (suc m))) (sym (append_assoc (take (7 * rank_of p b m) new) (part_row p b m) z))
        ∙ take_at (take (7 * rank_of p b m) new ++ part_row p b m) z (7 * rank_of p b (suc m)) n
        ∙ ap (λ (l : List ℕ). l ++ part_row p b m) g.rows ∙ sym (rows_more (keep (handles p b) m) m) ∙ ap (part_rows p b) (sym (keep_hit (handles p b) m h))

    pub rows_next : (out : List ℕ) → out ≡ pick (handles p b m) (put new (7 * rank_of p b m) (part_row p b m)) new → Rowed old out (m + 1)
    rows_next out e = rw (add-one m) (go (handles p b m) refl)
      where
        go : (h : Bool) → handles p b m ≡ h → Rowed old out (suc m)
        go true h =
            let q : out ≡ put new (7 * rank_of p b m) (part_row p b m) = e ∙ pick_true _ _ _ h in
            record {
              long = ap length q ∙ length_put new (7 * rank_of p b m) (part_row p b m)
                  (omega (arith, row_long m, g.long, all, keep_lt (handles p b) (count p) m lo h)) ∙ g.long;
              low = omega (arith, lo);
              rows = ap (take (7 * rank_of p b (suc m))) q ∙ front h;
            }
        go false h =
            let q : out ≡ new = e ∙ pick_false _ _ _ h in
            record {
              long = ap length q ∙ g.long;
              low = omega (arith, lo);
              rows = ap (take (7 * rank_of p b (suc m))) q ∙ ap (λ (ms : List ℕ). take (7 * length ms) new) (keep_none (handles p b) m h) ∙ g.rows
                  ∙ ap (part_rows p b) (sym (keep_none (handles p b) m h));
            }

  pub rows_all : (old new : List ℕ) (m : ℕ) → Rowed old new m → length old ≡ 7 * length (handled p b) → count p ≤ m → new ≡ part_rows p b (handled p b)
  rows_all old new m g all h =
      let e : m ≡ count p = omega (arith, g.low, h) in
      sym (take_all (7 * rank_of p b m) new (omega (arith, g.long, all, ap (rank_of p b) e))) ∙ g.rows ∙ ap (λ (n : ℕ). part_rows p b (keep (handles p b) n)) e
    where
      take_all : (n : ℕ) (l : List ℕ) → length l ≡ n → take n l ≡ l
      take_all n l e = ap (λ (k : ℕ). take k l) (sym e) ∙ whole l
        where
          whole : (l : List ℕ) → take (length l) l ≡ l
          whole [] = refl
          whole (x ∷ l) = ap (λ (r : List ℕ). x ∷ r) (whole l)

  -- ---- the call, past the first lines

  module _ (out : List ℕ) (n : ℕ) (e : n ≡ length (handled p b)) where
    pub rows_nine : length out ≢ 7 * n → answer 9 out ≡ rows_or p b out
    rows_nine h =
        answered_no 9 (part_rows p b (handled p b)) out (λ q. omega arith)
        ∙ ap (λ (k : ℕ). answered k (part_rows p b (handled p b)) out)
        (sym (first_true 9 _ [] (not-false (ne_eqb (length out) (7 * length (handled p b)) (λ q. h (q ∙ ap (λ (i : ℕ). 7 * i) (sym e)))))))

    pub rows_done : length out ≡ 7 * n → (new : List ℕ) → new ≡ part_rows p b (handled p b) → answer 0 new ≡ rows_or p b out
    unfolding first_of
    rows_done h new q =
        ap (answer 0) q
        ∙ answered_yes _ (part_rows p b (handled p b)) out
        (first_false 9 _ [] (not-true (eq-eqb (length out) (7 * length (handled p b)) (h ∙ ap (λ (i : ℕ). 7 * i) e))))
