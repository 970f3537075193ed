-- For the proofs alone.
-- The words of a byte string: of words written as bytes they are those words, and written as bytes again they are the bytes.
use mathlib.Core.Path.{◌≡◌, refl, sym, ap, ap₂, ◌∙◌}
use mathlib.Core.List.{List, [], ◌∷◌, ◌++◌, append-nil, append_assoc}
use Prim.Native.Nat.{ℕ, zero, suc, ◌+◌, ◌*◌, ◌/◌, ◌%◌, ◌^◌, ◌≤◌, ◌<◌}
use native.Mathlib.Nat.{add-zero, div-add-mod', div-div-eq-div-mul, mod-eq_of_lt, div-lt_iff_lt-mul, zero-lt-suc, le_of_suc-le-suc}
use native.Mathlib.Omega.{arith}
use lib.ListN.{length, get_or, take}
use lib.Seq.{take-suc, get_or-append-add, ext_get_or}
use lib.Arith.{digits_mod, digits_div}
use Rattle.base.specs.Tests.{tabulate}
use Rattle.base.specs.Lists.{Bytes}
use Rattle.base.proofs.Tests.{length_tabulate, tabulate_at}
use Rattle.packets.specs.Packet.{word_bytes, words_bytes, word_at, Words}
use Rattle.packets.proofs.Bytes.{les_append, les_one, length_le}

-- ---- of words written as bytes

digits : (w : ℕ) → w < 2 ^ 32 → w % 256 + 256 * (w / 256 % 256) + 65536 * (w / 65536 % 256) + 16777216 * (w / 16777216 % 256) ≡ w
digits w h =
    let a = div-add-mod' w 256 in
    let b = div-add-mod' (w / 256) 256 in
    let c = div-div-eq-div-mul w 256 256 in
    let d = div-add-mod' (w / 65536) 256 in
    let e = div-div-eq-div-mul w 65536 256 in
    let f : w / 16777216 % 256 ≡ w / 16777216 = mod-eq_of_lt ((div-lt_iff_lt-mul (zero-lt-suc 16777215)).1 h) in
    omega (arith, a, b, c, d, e, f)

-- a word by its four bytes
pub word_four : (p : List ℕ) (i : ℕ)
    → word_at p i ≡ get_or p (4 * i) 0 + 256 * get_or p (4 * i + 1) 0 + 65536 * get_or p (4 * i + 2) 0 + 16777216 * get_or p (4 * i + 3) 0
unfolding word_at
word_four p i =
    let e : get_or p (4 * i + 2 + 1) 0 ≡ get_or p (4 * i + 3) 0 = ap (λ (k : ℕ). get_or p k 0) (omega arith) in
    omega (arith, e)

word_le : (w : ℕ) (rest : List ℕ) → w < 2 ^ 32 → word_at (word_bytes w ++ rest) 0 ≡ w
unfolding word_bytes
word_le w rest h = word_four (word_bytes w ++ rest) 0 ∙ digits w h

next_byte : (w : ℕ) (rest : List ℕ) (n m : ℕ) → m ≡ 4 + n → get_or (word_bytes w ++ rest) m 0 ≡ get_or rest n 0
next_byte w rest n m e =
    ap (λ (k : ℕ). get_or (word_bytes w ++ rest) k 0) (let f = length_le w in let g : m ≡ length (word_bytes w) + n = omega arith in g)
    ∙ get_or-append-add (word_bytes w) rest n 0

word_next : (w : ℕ) (rest : List ℕ) (i : ℕ) → word_at (word_bytes w ++ rest) (suc i) ≡ word_at rest i
word_next w rest i =
    word_four (word_bytes w ++ rest) (suc i)
    ∙ rw (
      next_byte w rest (4 * i) (4 * suc i) (omega arith),
      next_byte w rest (4 * i + 1) (4 * suc i + 1) (omega arith),
      next_byte w rest (4 * i + 2) (4 * suc i + 2) (omega arith),
      next_byte w rest (4 * i + 3) (4 * suc i + 3) (omega arith),
    ) (sym (word_four rest i))

pub word_les : (ws rest : List ℕ) (i : ℕ) → Words ws → i < length ws → word_at (words_bytes ws ++ rest) i ≡ get_or ws i 0
unfolding words_bytes
word_les [] rest i f h = absurd (omega arith)
word_les (w ∷ ws) rest zero f h = rw (append_assoc (word_bytes w) (words_bytes ws) rest) (word_le w (words_bytes ws ++ rest) (f 0))
word_les (w ∷ ws) rest (suc i) f h =
    rw (append_assoc (word_bytes w) (words_bytes ws) rest)
    (word_next w (words_bytes ws ++ rest) i ∙ word_les ws rest i (λ j. f (suc j)) (le_of_suc-le-suc h))

-- ---- of bytes

bytes_le : (a b c d : ℕ) → a < 256 → b < 256 → c < 256 → d < 256 → word_bytes (a + 256 * b + 65536 * c + 16777216 * d) ≡ a ∷ b ∷ c ∷ d ∷ []
unfolding word_bytes
bytes_le a b c d ha hb hc hd = rw (n0, n1, n2, n3)
  where
    w : ℕ
    w = a + 256 * b + 65536 * c + 16777216 * d

    n0 : w % 256 ≡ a
    n0 = ap (λ (x : ℕ). x % 256) (let e : w ≡ (b + 256 * c + 65536 * d) * 256 + a = omega arith in e) ∙ digits_mod (b + 256 * c + 65536 * d) ha

    q1 : w / 256 ≡ b + 256 * c + 65536 * d
    q1 = ap (λ (x : ℕ). x / 256) (let e : w ≡ (b + 256 * c + 65536 * d) * 256 + a = omega arith in e) ∙ digits_div (b + 256 * c + 65536 * d) ha

    n1 : w / 256 % 256 ≡ b
    n1 = ap (λ (x : ℕ). x % 256) (q1 ∙ (let e : b + 256 * c + 65536 * d ≡ (c + 256 * d) * 256 + b = omega arith in e)) ∙ digits_mod (c + 256 * d) hb

    q2 : w / 65536 ≡ c + 256 * d
    q2 = sym (div-div-eq-div-mul w 256 256) ∙ ap (λ (x : ℕ). x / 256) (q1 ∙ (let e : b + 256 * c + 65536 * d ≡ (c + 256 * d) * 256 + b = omega arith in e))
        ∙ digits_div (c + 256 * d) hb

    n2 : w / 65536 % 256 ≡ c
    n2 = ap (λ (x : ℕ). x % 256) (q2 ∙ (let e : c + 256 * d ≡ d * 256 + c = omega arith in e)) ∙ digits_mod d hc

    q3 : w / 16777216 ≡ d
    q3 = sym (div-div-eq-div-mul w 65536 256) ∙ ap (λ (x : ℕ). x / 256) (q2 ∙ (let e : c + 256 * d ≡ d * 256 + c = omega arith in e)) ∙ digits_div d hc

    n3 : w / 16777216 % 256 ≡ d
    n3 = ap (λ (x : ℕ). x % 256) q3 ∙ mod-eq_of_lt hd

one_more : (p : List ℕ) (m n : ℕ) → m ≡ suc n → n < length p → take m p ≡ take n p ++ (get_or p n 0 ∷ [])
one_more p m n e h = ap (λ (k : ℕ). take k p) e ∙ take-suc p n 0 h

take_word : (p : List ℕ) (n : ℕ) → Bytes p → 4 * suc n ≤ length p → take (4 * suc n) p ≡ take (4 * n) p ++ word_bytes (word_at p n)
take_word p n f h =
    one_more p (4 * suc n) (4 * n + 3) (omega arith) (omega arith)
    ∙ ap (λ (l : List ℕ). l ++ (get_or p (4 * n + 3) 0 ∷ [])) (one_more p (4 * n + 3) (4 * n + 2) (omega arith) (omega arith)
    ∙ ap (λ (l : List ℕ). l ++ (get_or p (4 * n + 2) 0 ∷ [])) (one_more p (4 * n + 2) (4 * n + 1) (omega arith) (omega arith)
    ∙ ap (λ (l : List ℕ). l ++ (get_or p (4 * n + 1) 0 ∷ [])) (one_more p (4 * n + 1) (4 * n) (omega arith) (omega arith))))
    ∙ simp append_assoc
    (ap (λ (l : List ℕ). take (4 * n) p ++ l) (sym (ap word_bytes (word_four p n)
    ∙ bytes_le (get_or p (4 * n) 0) (get_or p (4 * n + 1) 0) (get_or p (4 * n + 2) 0) (get_or p (4 * n + 3) 0)
    (f (4 * n)) (f (4 * n + 1)) (f (4 * n + 2)) (f (4 * n + 3)))))

pub les_words : (p : List ℕ) (n : ℕ) → Bytes p → 4 * n ≤ length p → words_bytes (tabulate (word_at p) n) ≡ take (4 * n) p
unfolding tabulate words_bytes
les_words p zero f h = refl
les_words p (suc n) f h =
    les_append (tabulate (word_at p) n) (word_at p n ∷ []) ∙ ap₂ (λ (x y : List ℕ). x ++ y) (les_words p n f (omega arith)) (les_one (word_at p n))
    ∙ sym (take_word p n f h)

-- ---- tables of words

pub tabulate_add : (f : ℕ → ℕ) (k n : ℕ) → tabulate f (k + n) ≡ tabulate f k ++ tabulate (λ i. f (k + i)) n
unfolding tabulate
tabulate_add f k zero = rw (add-zero k) (sym (append-nil (tabulate f k)))
tabulate_add f k (suc n) =
    rw (native.Mathlib.Nat.add-suc k n, tabulate_add f k n) (append_assoc (tabulate f k) (tabulate (λ i. f (k + i)) n) (f (k + n) ∷ []))

pub tabulate_list : (l : List ℕ) → tabulate (λ i. get_or l i 0) (length l) ≡ l
tabulate_list l =
    ext_get_or 0 (tabulate (λ i. get_or l i 0) (length l)) l (length_tabulate _ (length l))
    (λ i h. tabulate_at (λ j. get_or l j 0) (length l) i (rw (length_tabulate (λ j. get_or l j 0) (length l)) at h))
