-- All records stored from their words: one record more, all of them or none, and the words that they then have.
use Prim.Native.Nat.{ℕ, zero, suc, ◌+◌, ◌*◌, ◌≤◌, ◌<◌}
use mathlib.Core.Path.{◌≡◌, refl, sym, ap, ◌∙◌}
use mathlib.Core.Logic.{◌≢◌}
use mathlib.Core.List.{List, [], ◌∷◌, ◌++◌, append_assoc, append-nil}
use native.Mathlib.Omega.{arith}
use native.Mathlib.Decide.{ℕ_discrete}
use native.Mathlib.Numerals.{add-one}
use lib.ListN.{length, get_or, set, take, drop, length-append, drop_of_length-le}
use lib.Seq.{drop-cons, set_at, take-suc}
use lib.Dec.{eqb}
use borrow.Author.Tests.{lt-ltb, eq-eqb, ne_eqb}
use Rattle.base.specs.Tests.{pick}
use Rattle.base.proofs.Tests.{pick_true, pick_false}
use Rattle.records.specs.declared.Progress.{Progress}
use Rattle.records.specs.declared.Flat.{Flat}
use Rattle.records.specs.Records.{flat_words, zeros, record_in, records_in, put_all}
use Rattle.records.proofs.Words.{length_words}

-- what `record_in` makes
pub in_words_lem : (f : Flat) (i : ℕ) → i < 64
    → record { finished = get_or f.words (3 * i) 0; stage = get_or f.words (3 * i + 1) 0; sent = get_or f.words (3 * i + 2) 0 } ≡ record_in f i
unfolding record_in pick
in_words_lem f i l = rw (lt-ltb i 64 l)

-- ---- the first n of them stored

unfoldable pub stored_to : Flat → ℕ → List Progress → List Progress
stored_to f n rs = records_in f n ++ drop n rs

length_in : (f : Flat) (n : ℕ) → length (records_in f n) ≡ n
unfolding records_in
length_in f zero = refl
length_in f (suc n) = length-append (records_in f n) (record_in f n ∷ []) ∙ ap (λ (k : ℕ). k + 1) (length_in f n) ∙ add-one n

pub stored_none : (f : Flat) (rs : List Progress) → rs ≡ stored_to f 0 rs
unfolding stored_to records_in
stored_none f rs = refl

pub stored_more : (f : Flat) (n : ℕ) (rs : List Progress) → n < length rs → set (stored_to f n rs) n (record_in f n) ≡ stored_to f (n + 1) rs
unfolding stored_to records_in
stored_more f n rs l =
    rw (drop-cons rs n zeros l, add-one n)
    (set_at (records_in f n) (get_or rs n zeros) (drop (suc n) rs) (record_in f n) n (length_in f n)
    ∙ sym (append_assoc (records_in f n) (record_in f n ∷ []) (drop (suc n) rs)))

-- all of them, or none
module _ (f : Flat) (number : ℕ) (rs : List Progress) where
  pub stores_none : number ≢ 0 → rs ≡ put_all number f rs
  unfolding put_all
  stores_none h = sym (pick_false _ _ _ (ne_eqb number 0 h))

  pub stores_all : number ≡ 0 → stored_to f (length rs) rs ≡ put_all number f rs
  unfolding put_all stored_to
  stores_all z =
      ap (λ (l : List Progress). records_in f (length rs) ++ l) (drop_of_length-le rs {i = length rs} (omega arith))
      ∙ append-nil (records_in f (length rs)) ∙ sym (pick_true _ _ _ (eq-eqb number 0 z))

-- ---- their words

words_append : (rs ss : List Progress) → flat_words (rs ++ ss) ≡ flat_words rs ++ flat_words ss
unfolding flat_words
words_append [] ss = refl
words_append (r ∷ rs) ss = ap (λ (l : List ℕ). r.finished ∷ r.stage ∷ r.sent ∷ l) (words_append rs ss)

take_three : (l : List ℕ) (k : ℕ) → k + 2 < length l → take (k + 3) l ≡ take k l ++ (get_or l k 0 ∷ get_or l (k + 1) 0 ∷ get_or l (k + 2) 0 ∷ [])
take_three l k h =
    ap (λ (j : ℕ). take j l) (three k) ∙ take-suc l (suc (suc k)) 0 (omega arith)
    ∙ ap (λ (z : List ℕ). z ++ (get_or l (suc (suc k)) 0 ∷ [])) (take-suc l (suc k) 0 (omega arith) ∙ ap (λ (z : List ℕ). z ++ (get_or l (suc k) 0 ∷ []))
    (take-suc l k 0 (omega arith)))
    ∙ joined (take k l) (get_or l k 0) (get_or l (suc k) 0) (get_or l (suc (suc k)) 0)
    ∙ ap (λ (j : ℕ). take k l ++ (get_or l k 0 ∷ get_or l j 0 ∷ get_or l (suc j) 0 ∷ [])) (sym (add-one k))
    ∙ ap (λ (j : ℕ). take k l ++ (get_or l k 0 ∷ get_or l (k + 1) 0 ∷ get_or l j 0 ∷ [])) (two k)
  where
    three : (n : ℕ) → n + 3 ≡ suc (suc (suc n))
    three n = omega arith

    two : (n : ℕ) → suc (n + 1) ≡ n + 2
    two n = omega arith

    joined : (z : List ℕ) (a b c : ℕ) → ((z ++ (a ∷ [])) ++ (b ∷ [])) ++ (c ∷ []) ≡ z ++ (a ∷ b ∷ c ∷ [])
    joined z a b c =
        append_assoc (z ++ (a ∷ [])) (b ∷ []) (c ∷ []) ∙ append_assoc z (a ∷ []) (b ∷ c ∷ [])

words_in : (f : Flat) (n : ℕ) → n ≤ 64 → length f.words ≡ 192 → flat_words (records_in f n) ≡ take (3 * n) f.words
unfolding records_in flat_words
words_in f zero l e = refl
words_in f (suc n) l e =
    words_append (records_in f n) (record_in f n ∷ [])
    ∙ ap (λ (z : List ℕ). z ++ flat_words (record_in f n ∷ [])) (words_in f n (omega (arith, l)) e)
    ∙ ap (λ (r : Progress). take (3 * n) f.words ++ (r.finished ∷ r.stage ∷ r.sent ∷ [])) (sym (in_words_lem f n (omega (arith, l))))
    ∙ sym (take_three f.words (3 * n) (omega (arith, l, e)))
    ∙ ap (λ (k : ℕ). take k f.words) (next n)
  where
    next : (n : ℕ) → 3 * n + 3 ≡ 3 * suc n
    next n = omega arith

-- the words of the records after a call that gave this number, where so many words are kept
pub words_stored : (f : Flat) (number : ℕ) (rs : List Progress) → length f.words ≡ 192 → (number ≡ 0 → length (flat_words rs) ≤ 192)
    → flat_words (put_all number f rs) ≡ pick (eqb number 0) (take (length (flat_words rs)) f.words) (flat_words rs)
unfolding put_all
words_stored f number rs e few = by (ℕ_discrete number 0)
  where
    by : Dec (number ≡ 0) → flat_words (pick (eqb number 0) (records_in f (length rs)) rs)
        ≡ pick (eqb number 0) (take (length (flat_words rs)) f.words) (flat_words rs)
    by (yes z) =
        ap (λ (l : List Progress). flat_words l) (pick_true _ _ _ (eq-eqb number 0 z))
        ∙ words_in f (length rs) (omega (arith, few z, length_words rs)) e
        ∙ ap (λ (k : ℕ). take k f.words) (sym (length_words rs)) ∙ sym (pick_true _ _ _ (eq-eqb number 0 z))
    by (no h) = ap (λ (l : List Progress). flat_words l) (pick_false _ _ _ (ne_eqb number 0 h)) ∙ sym (pick_false _ _ _ (ne_eqb number 0 h))
