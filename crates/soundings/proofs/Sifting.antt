-- Going through a file, as laws over plain variables: words and keys, taking note of a record, the copy.
use Prim.Native.Nat.{ℕ, suc, ◌+◌, ◌*◌, ◌%◌, ◌≤◌, ◌<◌}
use mathlib.Core.Path.{◌≡◌, refl, sym, ap, ◌∙◌}
use mathlib.Core.Logic.{inl, inr, ◌≢◌}
use mathlib.Core.Bool.{Bool, true, false}
use mathlib.Core.Bool as B
use mathlib.Core.List.{List}
use native.Mathlib.Omega.{arith}
use native.Mathlib.Decide.{dec_lt, dec_le, ℕ_discrete}
use native.Mathlib.Numerals.{add-one}
use lib.ListN.{length, get_or, set, length-set}
use lib.Seq.{ext_get_or, get_or-set_same, get_or-set_other}
use lib.Dec.{eqb, leb}
use borrow.Author.Tests.{leb-true, leb-false, eq-eqb, ne_eqb}
use Rattle.base.specs.Tests.{not, some, tabulate}
use Rattle.base.specs.Lists.{Bytes}
use Rattle.base.proofs.Tests.{is_false, some_one, or_false, not-true, not-false, pick_true, pick_false, length_tabulate, tabulate_at, tabulate_same}
use Rattle.base.specs.Bytes.{word}
use Rattle.nest.specs.Reader.{records}
use Rattle.soundings.specs.Soundings.{cell_of, day_of, survey_of, depth_of, beats, Best, none, its, better, best_of, depth_or, sounded_word}
use Rattle.soundings.specs.Soundings.{sounded_source, ragged_file, off_box}
use Rattle.soundings.specs.Sifting.{key_of, best_key, key_in, depth_in, Zeros, Blank, Sifted, Noted}
use Rattle.soundings.proofs.Best.{Beats, beats_says, says_beats, Stands, stands}

-- ---- words

pub ragged_is : (file : List ℕ) → B.not (eqb (length file % 16) 0) ≡ ragged_file file
unfolding ragged_file
ragged_is file = go (eqb (length file % 16) 0)
  where
    go : (t : Bool) → B.not t ≡ not t
    go true = sym (not-true refl)
    go false = sym (not-false refl)

-- ---- keys: of two records the later one beats the other where its key is no less

module _ (file : List ℕ) (bytes : Bytes file) where
  survey_low : (r : ℕ) → survey_of file r < 4294967296
  unfolding survey_of
  survey_low r = omega (arith, bytes (16 * r + 8), bytes (16 * r + 8 + 1), bytes (16 * r + 8 + 2), bytes (16 * r + 8 + 2 + 1))

  module _ (q r : ℕ) where
    key_beats : r < q → key_of file r ≤ key_of file q → beats file q r ≡ true
    unfolding key_of
    key_beats l h = says_beats file q r (day (dec_lt (day_of file r) (day_of file q)) (dec_lt (survey_of file r) (survey_of file q)))
      where
        day : Dec (day_of file r < day_of file q) → Dec (survey_of file r < survey_of file q) → Beats file q r
        day (yes d) s = inl d
        day (no d) (yes s) = inr (omega (arith, survey_low q, survey_low r), inl s)
        day (no d) (no s) = inr (omega (arith, survey_low q, survey_low r), inr (omega (arith, survey_low q, survey_low r), l))

    key_beaten : key_of file q < key_of file r → beats file q r ≡ false
    unfolding key_of
    key_beaten h = is_false (λ e. go (beats_says file q r e))
      where
        go : Beats file q r → ⊥
        go (inl k) = omega (arith, survey_low r)
        go (inr (d, inl k)) = omega arith
        go (inr (d, inr (e, k))) = omega arith

  -- a further record of the cell, by its key
  better_new : (c q : ℕ) (b : Best) → Stands file c q b → best_key file b ≤ key_of file q → better file b q ≡ its q
  unfolding better best_key
  better_new c q none s h = refl
  better_new c q (its r) s h = ap its (pick_true _ q r (key_beats q r s.0 h))

  better_old : (q : ℕ) (b : Best) → key_of file q < best_key file b → better file b q ≡ b
  unfolding better best_key
  better_old q none h = absurd (omega arith)
  better_old q (its r) h = ap its (pick_false _ q r (key_beaten q r h))

-- ---- taking note

best_same : (file : List ℕ) (c n : ℕ) → cell_of file n ≡ c → best_of file c (suc n) ≡ better file (best_of file c n) n
unfolding best_of
best_same file c n e = pick_true _ _ _ (eq-eqb _ _ e)

best_other : (file : List ℕ) (c n : ℕ) → cell_of file n ≢ c → best_of file c (suc n) ≡ best_of file c n
unfolding best_of
best_other file c n e = pick_false _ _ _ (ne_eqb _ _ e)

-- three words of a cell stored, seen from each cell
abbrev three : List ℕ → ℕ → ℕ → ℕ → ℕ → List ℕ
three l cell a b d = set (set (set l (3 * cell) a) (3 * cell + 1) b) (3 * cell + 2) d

module _ (l : List ℕ) (cell a b d : ℕ) where
  three_long : length (three l cell a b d) ≡ length l
  three_long = simp length-set

  three_other : (i : ℕ) → i ≢ 3 * cell → i ≢ 3 * cell + 1 → i ≢ 3 * cell + 2 → get_or (three l cell a b d) i 0 ≡ get_or l i 0
  three_other i e f g =
      get_or-set_other (set (set l (3 * cell) a) (3 * cell + 1) b) (3 * cell + 2) i d 0 g
      ∙ (get_or-set_other (set l (3 * cell) a) (3 * cell + 1) i b 0 f ∙ get_or-set_other l (3 * cell) i a 0 e)

  module _ (h : 3 * cell + 2 < length l) where
    three_0 : get_or (three l cell a b d) (3 * cell) 0 ≡ a
    three_0 =
        get_or-set_other (set (set l (3 * cell) a) (3 * cell + 1) b) (3 * cell + 2) (3 * cell) d 0 (λ q. omega arith)
        ∙ (get_or-set_other (set l (3 * cell) a) (3 * cell + 1) (3 * cell) b 0 (λ q. omega arith)
        ∙ get_or-set_same l (3 * cell) a 0 (omega arith))

    three_1 : get_or (three l cell a b d) (3 * cell + 1) 0 ≡ b
    three_1 =
        get_or-set_other (set (set l (3 * cell) a) (3 * cell + 1) b) (3 * cell + 2) (3 * cell + 1) d 0 (λ q. omega arith)
        ∙ get_or-set_same (set l (3 * cell) a) (3 * cell + 1) b 0 (rw (length-set l (3 * cell) a) (omega arith))

    three_2 : get_or (three l cell a b d) (3 * cell + 2) 0 ≡ d
    three_2 =
        get_or-set_same (set (set l (3 * cell) a) (3 * cell + 1) b) (3 * cell + 2) d 0
        (rw (length-set (set l (3 * cell) a) (3 * cell + 1) b, length-set l (3 * cell) a) h)

module _ (file : List ℕ) where
  pub sifted_none : (value size : ℕ) (best : List ℕ) → Blank value size best → Sifted file (depth_in best) size 0 best
  unfolding best_of best_key depth_or
  sifted_none value size best b = record { long = b.long; key = b.key; depth = λ c l. refl }

  module _ (bytes : Bytes file) (old : ℕ → ℕ) (size : ℕ) (best : List ℕ) (q cell : ℕ) (s : Sifted file old size q best)
      (is : cell ≡ cell_of file q) (low : cell < size) (few : size ≤ 16384) where
    -- of the cell named, and of any other
    is_new : key_in best cell ≤ key_of file q → best_of file cell (suc q) ≡ its q
    is_new h =
        best_same file cell q (sym is)
        ∙ better_new file bytes cell q (best_of file cell q) (stands file cell q) (rw (s.key cell low) at h)

    is_old : key_of file q < key_in best cell → best_of file cell (suc q) ≡ best_of file cell q
    is_old h = best_same file cell q (sym is) ∙ better_old file bytes q (best_of file cell q) (rw (s.key cell low) at h)

    is_other : (c : ℕ) → c ≢ cell → best_of file c (suc q) ≡ best_of file c q
    is_other c e = best_other file c q (λ z. e (sym z ∙ sym is))

    after_old : key_of file q < key_in best cell → (c : ℕ) → best_of file c (suc q) ≡ best_of file c q
    after_old h c = go (ℕ_discrete c cell)
      where
        go : Dec (c ≡ cell) → best_of file c (suc q) ≡ best_of file c q
        go (yes e) = rw e (is_old h)
        go (no e) = is_other c e

    passed : key_of file q < key_in best cell → Sifted file old size (suc q) best
    passed h =
        record {
          long = s.long;
          key = λ c l. s.key c l ∙ ap (best_key file) (sym (after_old h c));
          depth = λ c l. s.depth c l ∙ ap (depth_or file (old c)) (sym (after_old h c));
        }

    abbrev new : List ℕ
    new = three best cell (survey_of file q) (day_of file q) (depth_of file q)

    room : 3 * cell + 2 < length best
    room = omega (arith, s.long)

    taken : key_in best cell ≤ key_of file q → Sifted file old size (suc q) new
    unfolding best_key depth_or key_of
    taken h =
        record {
          long = three_long best cell (survey_of file q) (day_of file q) (depth_of file q) ∙ s.long;
          key = λ c l. key c l (ℕ_discrete c cell);
          depth = λ c l. depth c l (ℕ_discrete c cell);
        }
      where
        other : (c i : ℕ) → c ≢ cell → 3 * c ≤ i → i ≤ 3 * c + 2 → get_or new i 0 ≡ get_or best i 0
        other c i e a b =
            three_other best cell (survey_of file q) (day_of file q) (depth_of file q) i (λ z. e (omega arith)) (λ z. e (omega arith))
            (λ z. e (omega arith))

        key_other : (c : ℕ) → c ≢ cell → key_in new c ≡ key_in best c
        key_other c e = rw (other c (3 * c + 1) e (omega arith) (omega arith), other c (3 * c) e (omega arith) (omega arith))

        key_new : key_in new cell ≡ key_of file q
        key_new =
            rw (
              three_1 best cell (survey_of file q) (day_of file q) (depth_of file q) room,
              three_0 best cell (survey_of file q) (day_of file q) (depth_of file q) room,
            )

        key : (c : ℕ) → c < size → Dec (c ≡ cell) → key_in new c ≡ best_key file (best_of file c (suc q))
        key c l (yes e) = rw (e, is_new h) key_new
        key c l (no e) = key_other c e ∙ (s.key c l ∙ ap (best_key file) (sym (is_other c e)))

        depth : (c : ℕ) → c < size → Dec (c ≡ cell) → depth_in new c ≡ depth_or file (old c) (best_of file c (suc q))
        depth c l (yes e) = rw (e, is_new h) (three_2 best cell (survey_of file q) (day_of file q) (depth_of file q) room)
        depth c l (no e) =
            other c (3 * c + 2) e (omega arith) (omega arith) ∙ (s.depth c l ∙ ap (depth_or file (old c)) (sym (is_other c e)))

    pub sifted_more : (best' : List ℕ) → Noted file q cell best best' → Sifted file old size (q + 1) best'
    sifted_more best' n = rw (add-one q) (go (dec_le (key_in best cell) (key_of file q)))
      where
        go : Dec (key_in best cell ≤ key_of file q) → Sifted file old size (suc q) best'
        go (yes h) = rw (n.taken h) (taken h)
        go (no h) = let k : key_of file q < key_in best cell = omega arith in rw (n.passed k) (passed k)

module _ (file : List ℕ) (r cell : ℕ) (best : List ℕ) (day survey : ℕ) (counts : Bool) (d : day ≡ word file (16 * r + 4))
    (s : survey ≡ word file (16 * r + 8)) (o : counts ≡ leb (key_in best cell) (4294967296 * day + survey)) where
  new_is : 4294967296 * day + survey ≡ key_of file r
  unfolding key_of day_of survey_of
  new_is = rw (d, s)

  pub noted_taken : (depth : ℕ) → depth ≡ word file (16 * r + 12) → counts ≡ true
      → Noted file r cell best (three best cell survey day depth)
  unfolding day_of survey_of depth_of
  noted_taken depth e h =
      let k = leb-true (key_in best cell) (4294967296 * day + survey) (sym o ∙ h) in
      record { passed = λ l. absurd (omega (arith, new_is, k)); taken = λ l. rw (d, s, e) }

  pub noted_passed : counts ≡ false → Noted file r cell best best
  noted_passed h =
      let k = leb-false (key_in best cell) (4294967296 * day + survey) (sym o ∙ h) in
      record { passed = λ l. refl; taken = λ l. absurd (omega (arith, new_is, k)) }

-- ---- cells outside the box

module _ (size : ℕ) (file : List ℕ) where
  abbrev pub off_at : ℕ → Bool
  off_at r = leb size (cell_of file r)

  pub off_none : some off_at 0 ≡ false
  unfolding some
  off_none = refl

  pub off_more : (r a : ℕ) → some off_at r ≡ false → a ≡ cell_of file r → leb size a ≡ false → some off_at (r + 1) ≡ false
  unfolding some
  off_more r a h e l = rw (add-one r) (or_false h (rw e at l))

  pub off_yes : (r a : ℕ) → r < records file → a ≡ cell_of file r → leb size a ≡ true → true ≡ off_box size file
  unfolding off_box
  off_yes r a l e h = sym (some_one off_at (records file) r l (rw e at h))

  pub off_end : (r : ℕ) → r ≡ records file → some off_at r ≡ false → false ≡ off_box size file
  unfolding off_box
  off_end r e h = sym (rw e at h)

-- the loop: the records passed name cells of the box, and are noted
pub record Sifting (size : ℕ) (file : List ℕ) (old : ℕ → ℕ) (best : List ℕ) (r : ℕ) : Type 0 where
  pub few : r ≤ records file
  pub in_box : some (off_at size file) r ≡ false
  pub sifted : Sifted file old size r best

-- ---- the words of the cells set out

pub record SettingOut (value size : ℕ) (best : List ℕ) (c : ℕ) : Type 0 where
  pub few : c ≤ size
  pub long : length best ≡ 49152
  pub key : (i : ℕ) → i < 16384 → key_in best i ≡ 0
  pub depth : (i : ℕ) → i < c → depth_in best i ≡ value

module _ (value size : ℕ) (h : size ≤ 16384) where
  pub set_out_none : (best : List ℕ) → Zeros best → SettingOut value size best 0
  set_out_none best z =
      record {
        few = omega arith;
        long = z.long;
        key = λ i l. omega (arith, z.each (3 * i) (omega arith), z.each (3 * i + 1) (omega arith));
        depth = λ i l. absurd (omega arith);
      }

  pub set_out_more : (best : List ℕ) (c : ℕ) → c < size → SettingOut value size best c → SettingOut value size (set best (3 * c + 2) value) (c + 1)
  set_out_more best c l s =
      record {
        few = omega arith;
        long = length-set best (3 * c + 2) value ∙ s.long;
        key = λ i k. omega (arith, s.key i k, beside (3 * i) (λ q. omega arith), beside (3 * i + 1) (λ q. omega arith));
        depth = λ i k. go i k (ℕ_discrete i c);
      }
    where
      beside : (j : ℕ) → j ≢ 3 * c + 2 → get_or (set best (3 * c + 2) value) j 0 ≡ get_or best j 0
      beside j e = get_or-set_other best (3 * c + 2) j value 0 e

      go : (i : ℕ) → i < c + 1 → Dec (i ≡ c) → depth_in (set best (3 * c + 2) value) i ≡ value
      go i k (yes e) = rw e (get_or-set_same best (3 * c + 2) value 0 (omega (arith, s.long)))
      go i k (no e) = beside (3 * i + 2) (λ q. e (omega arith)) ∙ s.depth i (omega arith)

  pub set_out_end : (best : List ℕ) (c : ℕ) → size ≤ c → SettingOut value size best c → Blank value size best
  set_out_end best c l s =
      record { long = s.long; key = λ i k. s.key i (omega arith); depth = λ i k. s.depth i (omega arith) }

-- ---- the words

pub words_are : (file : List ℕ) (value : ℕ) (start best : List ℕ) (size : ℕ) → Blank value size start
    → Sifted file (depth_in start) size (records file) best → tabulate (depth_in best) size ≡ sounded_source file value size
unfolding sounded_source sounded_word
words_are file value start best size b s =
    tabulate_same (depth_in best) (sounded_word file value) size
    (λ c l. s.depth c l ∙ ap (λ (v : ℕ). depth_or file v (best_of file c (records file))) (b.depth c l))

-- the copy's loop: the words of the cells passed are the depths
pub record Copying (best old now : List ℕ) (c : ℕ) : Type 0 where
  pub long : length now ≡ length old
  pub few : c ≤ length old
  pub each : (i : ℕ) → i < c → get_or now i 0 ≡ depth_in best i

module _ (best old : List ℕ) where
  pub copy_none : Copying best old old 0
  copy_none = record { long = refl; few = omega arith; each = λ i h. absurd (omega arith) }

  pub copy_more : (now : List ℕ) (c : ℕ) → Copying best old now c → c < length old → Copying best old (set now c (depth_in best c)) (c + 1)
  copy_more now c f l =
      record { long = length-set now c (depth_in best c) ∙ f.long; few = omega arith; each = λ i k. go i k (ℕ_discrete i c) }
    where
      go : (i : ℕ) → i < c + 1 → Dec (i ≡ c) → get_or (set now c (depth_in best c)) i 0 ≡ depth_in best i
      go i k (yes e) = rw e (get_or-set_same now c (depth_in best c) 0 (omega (arith, f.long)))
      go i k (no e) = get_or-set_other now c i (depth_in best c) 0 e ∙ f.each i (omega arith)

  pub copy_end : (now : List ℕ) (c : ℕ) → Copying best old now c → length old ≤ c → now ≡ tabulate (depth_in best) (length old)
  copy_end now c f h =
      ext_get_or 0 now (tabulate (depth_in best) (length old)) (f.long ∙ sym (length_tabulate (depth_in best) (length old)))
      (λ i k. let l : i < length old = rw f.long at k in
      f.each i (omega (arith, f.few)) ∙ sym (tabulate_at (depth_in best) (length old) i l))
