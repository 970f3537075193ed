-- Laws of the words of records: their number, that `flatten` carries them, what a store changes of them, that they fix the records.
use Prim.Native.Nat.{ℕ, zero, suc, ◌+◌, ◌*◌, ◌≤◌, ◌<◌}
use mathlib.Core.Path.{◌≡◌, refl, sym, ap, ◌∙◌}
use mathlib.Core.Bool.{Bool, true, false}
use mathlib.Core.List.{List, [], ◌∷◌, ◌++◌, append_assoc, append-nil}
use native.Mathlib.Nat.{add-zero, zero-add}
use native.Mathlib.Omega.{arith}
use native.Mathlib.Numerals.{add-one}
use lib.ListN.{length, set, take, drop, replicate, length-append, length-replicate, length-set}
use lib.Dec.{ltb}
use lib.Seq.{take_at, length-take-le, sets-eq}
use Rattle.base.specs.Tests.{pick}
use Rattle.records.specs.declared.Progress.{Progress}
use Rattle.records.specs.declared.Flat.{Flat}
use Rattle.records.specs.Records.{flat_words, Injective, Flattens, zeros, blank, words_at, with_record}
use Rattle.records.proofs.Laws.{written, flat_from, flat_of}

-- three words a record
pub length_words : (rs : List Progress) → length (flat_words rs) ≡ 3 * length rs
unfolding flat_words
length_words [] = refl
length_words (r ∷ rs) = three (length (flat_words rs)) (length rs) (length_words rs)
  where
    three : (w n : ℕ) → w ≡ 3 * n → suc (suc (suc w)) ≡ 3 * suc n
    three w n e = omega arith

-- the records of these words
unfoldable pub unflat : List ℕ → List Progress
unflat (a ∷ b ∷ c ∷ ws) = record { finished = a; stage = b; sent = c } ∷ unflat ws
unflat (a ∷ b ∷ []) = []
unflat (a ∷ []) = []
unflat [] = []

unflat_words : (rs : List Progress) → unflat (flat_words rs) ≡ rs
unfolding unflat flat_words
unflat_words [] = refl
unflat_words (r ∷ rs) = ap (λ (l : List Progress). r ∷ l) (unflat_words rs)

pub words_unflat : (n : ℕ) (l : List ℕ) → length l ≡ 3 * n → flat_words (unflat l) ≡ l
unfolding unflat flat_words
words_unflat zero [] e = refl
words_unflat zero (x ∷ l) e = absurd (omega arith)
words_unflat (suc n) (a ∷ b ∷ c ∷ l) e = ap (λ (z : List ℕ). a ∷ b ∷ c ∷ z) (words_unflat n l (omega arith))
words_unflat (suc n) (a ∷ b ∷ []) e = absurd (omega arith)
words_unflat (suc n) (a ∷ []) e = absurd (omega arith)
words_unflat (suc n) [] e = absurd (omega arith)

pub injective : Injective
injective rs ss e = sym (unflat_words rs) ∙ ap unflat e ∙ unflat_words ss

length_picked : (words : List ℕ) (i j k a b c : ℕ) (t : Bool) → length (pick t (set (set (set words i a) j b) k c) words) ≡ length words
unfolding pick
length_picked words i j k a b c true = length-set (set (set words i a) j b) k c ∙ length-set (set words i a) j b ∙ length-set words i a
length_picked words i j k a b c false = refl

-- the words that `flat_of` keeps
length_at : (words : List ℕ) (i : ℕ) (r : Progress) → length (words_at words i r) ≡ length words
unfolding words_at
length_at words i r = length_picked words (3 * i) (3 * i + 1) (3 * i + 2) r.finished r.stage r.sent (ltb i 64)

three_sets : (words : List ℕ) (k a b c : ℕ) → k + 3 ≤ length words
    → set (set (set words k a) (k + 1) b) (k + 2) c ≡ (take k words ++ (a ∷ b ∷ c ∷ [])) ++ drop (k + 3) words
three_sets words k a b c l =
    ap (λ (j : ℕ). set (set (set words k a) j b) (k + 2) c) (add-one k)
    ∙ ap (λ (j : ℕ). set (set (set words k a) (suc k) b) j c) (two k)
    ∙ sets-eq (a ∷ b ∷ c ∷ []) words k l
  where
    two : (n : ℕ) → n + 2 ≡ suc (suc n)
    two n = omega arith

at_is : (words : List ℕ) (i : ℕ) (r : Progress) → i < 64 → length words ≡ 192
    → words_at words i r ≡ (take (3 * i) words ++ (r.finished ∷ r.stage ∷ r.sent ∷ [])) ++ drop (3 * i + 3) words
at_is words i r l e = sym (written words i r l) ∙ three_sets words (3 * i) r.finished r.stage r.sent (omega arith)

take_at_is : (words : List ℕ) (i : ℕ) (r : Progress) → i < 64 → length words ≡ 192
    → take (3 * (i + 1)) (words_at words i r) ≡ take (3 * i) words ++ (r.finished ∷ r.stage ∷ r.sent ∷ [])
take_at_is words i r l e =
    ap (λ (w : List ℕ). take (3 * (i + 1)) w) (at_is words i r l e)
    ∙ take_at (take (3 * i) words ++ (r.finished ∷ r.stage ∷ r.sent ∷ [])) (drop (3 * i + 3) words) (3 * (i + 1))
    (length-append (take (3 * i) words) (r.finished ∷ r.stage ∷ r.sent ∷ [])
    ∙ three i (length (take (3 * i) words)) (length-take-le (3 * i) words (omega arith)))
  where
    three : (i n : ℕ) → n ≡ 3 * i → n + 3 ≡ 3 * (i + 1)
    three i n e = omega arith

-- length and count stay
length_from : (rs : List Progress) (i : ℕ) (f : Flat) → length (flat_from i rs f).words ≡ length f.words
unfolding flat_from
length_from [] i f = refl
length_from (r ∷ rs) i f = length_from rs (i + 1) (with_record f i r) ∙ length_at f.words i r

count_from : (rs : List Progress) (i : ℕ) (f : Flat) → (flat_from i rs f).count ≡ f.count
unfolding flat_from
count_from [] i f = refl
count_from (r ∷ rs) i f = count_from rs (i + 1) (with_record f i r)

take_from : (rs : List Progress) (i : ℕ) (f : Flat) → length f.words ≡ 192 → i + length rs ≤ 64
    → take (3 * (i + length rs)) (flat_from i rs f).words ≡ take (3 * i) f.words ++ flat_words rs
unfolding flat_from flat_words
take_from [] i f e l = ap (λ (k : ℕ). take (3 * k) f.words) (add-zero i) ∙ sym (append-nil (take (3 * i) f.words))
take_from (r ∷ rs) i f e l =
    ap (λ (k : ℕ). take (3 * k) (flat_from (i + 1) rs (with_record f i r)).words) (moved i (length rs))
    ∙ take_from rs (i + 1) (with_record f i r) (length_at f.words i r ∙ e) (omega arith)
    ∙ ap (λ (z : List ℕ). z ++ flat_words rs) (take_at_is f.words i r (omega arith) e)
    ∙ append_assoc (take (3 * i) f.words) (r.finished ∷ r.stage ∷ r.sent ∷ []) (flat_words rs)
  where
    moved : (i n : ℕ) → i + suc n ≡ (i + 1) + n
    moved i n = omega arith

pub carries_flat : (rs : List Progress) (f : Flat) → f ≡ flat_of rs → Flattens f (flat_words rs)
carries_flat rs f e =
    rw e (record { counted = count_from rs 0 first ∙ sym (length_words rs); kept = all; room = length_from rs 0 first ∙ length-replicate {A = ℕ} 192 0 })
  where
    first : Flat
    first = blank (3 * length rs)

    all : length (flat_words rs) ≤ 192 → take (length (flat_words rs)) (flat_of rs).words ≡ flat_words rs
    all l =
        ap (λ (k : ℕ). take k (flat_of rs).words) (length_words rs)
        ∙ ap (λ (k : ℕ). take (3 * k) (flat_of rs).words) (sym (zero-add (length rs)))
        ∙ take_from rs 0 first (length-replicate {A = ℕ} 192 0) (omega (arith, l, length_words rs))

-- ---- one record stored, and records set to zero

put_words : (rs : List Progress) (i : ℕ) (r : Progress) (j : ℕ) → j ≡ 3 * i
    → flat_words (set rs i r) ≡ set (set (set (flat_words rs) j r.finished) (suc j) r.stage) (suc (suc j)) r.sent
unfolding flat_words
put_words [] i r j e = refl
put_words (x ∷ rs) zero r j e = let z : j ≡ 0 = omega arith in rw z
put_words (x ∷ rs) (suc i) r j e =
    let z : j ≡ suc (suc (suc (3 * i))) = omega arith in
    rw z (ap (λ (l : List ℕ). x.finished ∷ x.stage ∷ x.sent ∷ l) (put_words rs i r (3 * i) refl))

pub words_put : (rs : List Progress) (i : ℕ) (r : Progress)
    → flat_words (set rs i r) ≡ set (set (set (flat_words rs) (3 * i) r.finished) (3 * i + 1) r.stage) (3 * i + 2) r.sent
words_put rs i r =
    put_words rs i r (3 * i) refl
    ∙ ap (λ (k : ℕ). set (set (set (flat_words rs) (3 * i) r.finished) k r.stage) (suc k) r.sent) (sym (add-one (3 * i)))
    ∙ ap (λ (k : ℕ). set (set (set (flat_words rs) (3 * i) r.finished) (3 * i + 1) r.stage) k r.sent) (two (3 * i))
  where
    two : (n : ℕ) → suc (n + 1) ≡ n + 2
    two n = omega arith

words_zero : (n : ℕ) → flat_words (replicate n zeros) ≡ replicate (3 * n) 0
unfolding flat_words
words_zero zero = refl
words_zero (suc n) = let z : 3 * suc n ≡ suc (suc (suc (3 * n))) = omega arith in rw z (ap (λ (l : List ℕ). 0 ∷ 0 ∷ 0 ∷ l) (words_zero n))

pub words_cleared : (rs : List Progress) → flat_words (replicate (length rs) zeros) ≡ replicate (length (flat_words rs)) 0
words_cleared rs = words_zero (length rs) ∙ ap (λ (k : ℕ). replicate k 0) (sym (length_words rs))
