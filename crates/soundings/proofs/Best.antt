-- The order of records; of the record that counts: no record of its cell beats it; each word's ground.
use Prim.Native.Nat.{ℕ, zero, suc, ◌≤◌, ◌<◌}
use mathlib.Core.Path.{◌≡◌, refl, sym, ap, ◌∙◌}
use mathlib.Core.Logic.{◌⊎◌, inl, inr, ◌≢◌}
use mathlib.Core.Bool.{Bool, true, false}
use mathlib.Core.List.{List}
use native.Mathlib.Omega.{arith}
use native.Mathlib.Decide.{dec_lt}
use native.Mathlib.Nat.{eq-or-lt_of_le, le_of_suc-le-suc}
use lib.ListN.{get_or}
use lib.Dec.{eqb, ltb}
use borrow.Author.Tests.{lt-ltb, ltb-true, eq-eqb, eqb-true, eqb-false}
use Rattle.base.specs.Tests.{◌and◌, ◌or◌, pick, tabulate}
use Rattle.base.proofs.Tests.{both, and_true, either, or_left, or_right, is_false, never_both, length_tabulate, tabulate_at}
use Rattle.nest.specs.Reader.{records}
use Rattle.soundings.specs.Soundings.{cell_of, day_of, survey_of, depth_of, beats, Best, none, its, better, best_of, depth_or, sounded_word, sounded_source}
use Rattle.soundings.specs.Ground.{Counts, Ground, sounded, unsounded, Grounded}

-- ---- the order

-- what `beats` says
abbrev pub Beats : List ℕ → ℕ → ℕ → Type 0
Beats file q r =
    (day_of file r < day_of file q)
    ⊎ ((day_of file r ≡ day_of file q) × ((survey_of file r < survey_of file q) ⊎ ((survey_of file r ≡ survey_of file q) × (r < q))))

module _ (file : List ℕ) where
  pub beats_says : (q r : ℕ) → beats file q r ≡ true → Beats file q r
  unfolding beats
  beats_says q r e = day (either e)
    where
      place : (ltb (survey_of file r) (survey_of file q) ≡ true) ⊎ ((eqb (survey_of file r) (survey_of file q) and ltb r q) ≡ true)
          → (survey_of file r < survey_of file q) ⊎ ((survey_of file r ≡ survey_of file q) × (r < q))
      place (inl k) = inl (ltb-true _ _ k)
      place (inr k) = inr (eqb-true _ _ (both k).0, ltb-true _ _ (both k).1)

      day : (ltb (day_of file r) (day_of file q) ≡ true)
          ⊎ ((eqb (day_of file r) (day_of file q)
          and (ltb (survey_of file r) (survey_of file q) or (eqb (survey_of file r) (survey_of file q) and ltb r q))) ≡ true)
          → Beats file q r
      day (inl k) = inl (ltb-true _ _ k)
      day (inr k) = inr (eqb-true _ _ (both k).0, place (either (both k).1))

  pub says_beats : (q r : ℕ) → Beats file q r → beats file q r ≡ true
  unfolding beats
  says_beats q r (inl k) = or_left _ (lt-ltb _ _ k)
  says_beats q r (inr (e, inl k)) = or_right _ (and_true (eq-eqb _ _ e) (or_left _ (lt-ltb _ _ k)))
  says_beats q r (inr (e, inr (f, k))) = or_right _ (and_true (eq-eqb _ _ e) (or_right _ (and_true (eq-eqb _ _ f) (lt-ltb _ _ k))))

  not_itself : (r : ℕ) → beats file r r ≡ false
  not_itself r = is_false (λ e. go (beats_says r r e))
    where
      go : Beats file r r → ⊥
      go (inl k) = omega arith
      go (inr (e, inl k)) = omega arith
      go (inr (e, inr (f, k))) = omega arith

  -- what beats the new one beats the old one too
  through : (p q r : ℕ) → beats file p q ≡ true → beats file q r ≡ true → beats file p r ≡ true
  through p q r e f = says_beats p r (go (beats_says p q e) (beats_says q r f))
    where
      go : Beats file p q → Beats file q r → Beats file p r
      go (inl k) (inl l) = inl (omega arith)
      go (inl k) (inr (a, l)) = inl (omega arith)
      go (inr (a, k)) (inl l) = inl (omega arith)
      go (inr (a, inl k)) (inr (b, inl l)) = inr (omega arith, inl (omega arith))
      go (inr (a, inl k)) (inr (b, inr (d, l))) = inr (omega arith, inl (omega arith))
      go (inr (a, inr (d, k))) (inr (b, inl l)) = inr (omega arith, inl (omega arith))
      go (inr (a, inr (d, k))) (inr (b, inr (f, l))) = inr (omega arith, inr (omega arith, omega arith))

  -- of two records one beats the other
  one_beats : (r s : ℕ) → r < s → beats file s r ≡ false → beats file r s ≡ true
  one_beats r s l e = day (dec_lt (day_of file r) (day_of file s)) (dec_lt (day_of file s) (day_of file r))
    where
      survey : day_of file r ≡ day_of file s → Dec (survey_of file r < survey_of file s) → Dec (survey_of file s < survey_of file r)
          → beats file r s ≡ true
      survey d (yes k) m = absurd (never_both (says_beats s r (inr (d, inl k))) e)
      survey d (no k) (yes m) = says_beats r s (inr (sym d, inl m))
      survey d (no k) (no m) = absurd (never_both (says_beats s r (inr (d, inr (omega arith, l)))) e)

      day : Dec (day_of file r < day_of file s) → Dec (day_of file s < day_of file r) → beats file r s ≡ true
      day (yes k) m = absurd (never_both (says_beats s r (inl k)) e)
      day (no k) (yes m) = says_beats r s (inl m)
      day (no k) (no m) = survey (omega arith) (dec_lt (survey_of file r) (survey_of file s)) (dec_lt (survey_of file s) (survey_of file r))

-- ---- the record that counts among the first n

abbrev pub Stands : List ℕ → ℕ → ℕ → Best → Type 0
Stands file c n none = (q : ℕ) → q < n → cell_of file q ≢ c
Stands file c n (its r) = (r < n) × ((cell_of file r ≡ c) × ((q : ℕ) → q < n → cell_of file q ≡ c → beats file q r ≡ false))

-- a fact of every record below n, and of n, is one of every record below suc n
one_more : (P : ℕ → Type 0) (n : ℕ) → ((q : ℕ) → q < n → P q) → P n → (q : ℕ) → q < suc n → P q
one_more P n h e q l = go (eq-or-lt_of_le (le_of_suc-le-suc l))
  where
    go : (q ≡ n) ⊎ (q < n) → P q
    go (inl k) = rw k e
    go (inr k) = h q k

module _ (file : List ℕ) (c : ℕ) where
  -- no record of the cell beats r
  abbrev Unbeaten : ℕ → ℕ → Type 0
  Unbeaten r q = cell_of file q ≡ c → beats file q r ≡ false

  next_true : (n : ℕ) → cell_of file n ≡ c → (b : Best) → Stands file c n b → Stands file c (suc n) (better file b n)
  unfolding better pick
  next_true n e none h = (omega arith, (e, one_more (Unbeaten n) n (λ q l k. absurd (h q l k)) (λ k. not_itself file n)))
  next_true n e (its r) h = go (beats file n r) refl
    where
      go : (u : Bool) → beats file n r ≡ u → Stands file c (suc n) (its (pick u n r))
      go true k = (
        omega arith,
        (e, one_more (Unbeaten n) n (λ q l z. is_false (λ y. never_both (through file q n r y k) (h.1.1 q l z))) (λ z. not_itself file n)),
      )
      go false k = (omega arith, (h.1.0, one_more (Unbeaten r) n h.1.1 (λ z. k)))

  next_false : (n : ℕ) → cell_of file n ≢ c → (b : Best) → Stands file c n b → Stands file c (suc n) b
  next_false n e none h = one_more (λ (q : ℕ). cell_of file q ≢ c) n h e
  next_false n e (its r) h = (omega arith, (h.1.0, one_more (Unbeaten r) n h.1.1 (λ z. absurd (e z))))

  pub stands : (n : ℕ) → Stands file c n (best_of file c n)
  unfolding best_of pick
  stands zero = λ q h. absurd (omega arith)
  stands (suc n) = go (stands n) (eqb (cell_of file n) c) refl
    where
      go : Stands file c n (best_of file c n) → (t : Bool) → eqb (cell_of file n) c ≡ t
          → Stands file c (suc n) (pick t (better file (best_of file c n) n) (best_of file c n))
      go ih true e = next_true n (eqb-true _ _ e) (best_of file c n) ih
      go ih false e = next_false n (eqb-false _ _ e) (best_of file c n) ih

-- ---- the ground

module _ (file : List ℕ) (value c : ℕ) where
  ground : Ground file value c (sounded_word file value c)
  unfolding sounded_word depth_or
  ground = go (best_of file c (records file)) (stands file c (records file))
    where
      go : (b : Best) → Stands file c (records file) b → Ground file value c (depth_or file value b)
      go none h = unsounded h refl
      go (its r) h = sounded r (record { in_file = h.0; names = h.1.0; unbeaten = h.1.1 }) refl

  no_later : (r s : ℕ) → Counts file c r → Counts file c s → s ≤ r
  no_later r s a b = go (dec_lt r s)
    where
      go : Dec (r < s) → s ≤ r
      go (yes l) =
          absurd (never_both (one_beats file r s l (a.unbeaten s b.in_file b.names)) (b.unbeaten r a.in_file a.names))
      go (no l) = omega arith

  -- no two records count for one cell
  one_counts : (r s : ℕ) → Counts file c r → Counts file c s → r ≡ s
  one_counts r s a b = omega (arith, no_later r s a b, no_later s r b a)

  same_ground : (v w : ℕ) → Ground file value c v → Ground file value c w → v ≡ w
  same_ground v w (sounded r a e) (sounded s b f) = e ∙ (ap (depth_of file) (one_counts r s a b) ∙ sym f)
  same_ground v w (sounded r a e) (unsounded h f) = absurd (h r a.in_file a.names)
  same_ground v w (unsounded h e) (sounded s b f) = absurd (h s b.in_file b.names)
  same_ground v w (unsounded h e) (unsounded k f) = e ∙ sym f

pub grounded : (size : ℕ) (file : List ℕ) (value : ℕ) → Grounded size file value (sounded_source file value size)
unfolding sounded_source
grounded size file value =
    record {
      long = length_tabulate (sounded_word file value) size;
      each = λ c h. rw (word_at c h) (ground file value c);
      only = λ c w h g. same_ground file value c w (sounded_word file value c) g (ground file value c) ∙ sym (word_at c h);
    }
  where
    word_at : (c : ℕ) → c < size → get_or (tabulate (sounded_word file value) size) c 0 ≡ sounded_word file value c
    word_at = tabulate_at (sounded_word file value) size
