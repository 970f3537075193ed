-- For the proofs alone.
-- Decoding is the inverse of encoding: what was encoded is decoded again, only encodings are accepted, and no two packets have the same bytes.
use mathlib.Core.Path.{◌≡◌, refl, sym, ap, ap₂, ◌∙◌}
use mathlib.Core.Bool.{Bool, true, false}
use mathlib.Core.List.{List, [], ◌∷◌, ◌++◌, append-nil, append_assoc}
use Prim.Native.Nat.{ℕ, zero, suc, ◌+◌, ◌*◌, ◌/◌, ◌%◌, ◌^◌, ◌≤◌, ◌<◌}
use native.Mathlib.Nat.{mod-lt, zero-lt-suc, lt_of_lt_of_le, lt_of_le_of_lt, mul_comm, add_comm}
use native.Mathlib.Omega.{arith}
use borrow.Author.Tests.{eq-eqb, eqb-true}
use lib.ListN.{length, get_or, take, drop, length-append, get_or-append}
use lib.Seq.{take_at, take_all, get_or_at, get_or-append-add}
use lib.Dec.{lit<, lit≤}
use lib.Pow.{pow_pos, split, shr_lt, low, high}
use lib.Bits.{bit_xor, xor_lt}
use Rattle.base.specs.Tests.{tabulate}
use Rattle.base.specs.Lists.{Bytes}
use Rattle.base.specs.Numbers.{line, first_of}
use Rattle.base.proofs.Tests.{not-true, true_not, or_false, neither, is_true, length_tabulate, tabulate_same}
use Rattle.base.proofs.Numbers.{first_nil, first_true, first_false, none_first}
use Rattle.packets.specs.Crc.{feed, feed_all, crc32}
use Rattle.packets.specs.Packet.{Words, Fit, word_bytes, words_bytes, magic, packet_length, head_words, body_of, encode_packet, word_at, double_at, count_of}
use Rattle.packets.specs.Packet.{header_of, words_of, damaged, stale, decode_lines, packet, refused, decoded_by, decode_packet}
use Rattle.packets.specs.Calls.{read_call, Written, write_call}
use Rattle.packets.specs.Laws.{Accepted, Ways, accepted, damaged_26, stale_27}
use Rattle.packets.specs.declared.Header.{Header}
use Rattle.packets.proofs.Shifts.{shifts_lt}
use Rattle.packets.proofs.Bytes.{les_append, les_one, length_le, length_body}
use Rattle.packets.proofs.Words.{word_four, word_les, les_words, tabulate_add, tabulate_list}
use Rattle.packets.proofs.Answers.{Whole, whole_is, is_whole, fit_is, write_done, read_all, number_none}

-- ---- a check word is a word

pub feed_lt : (r b : ℕ) → r < 2 ^ 32 → b < 2 ^ 32 → feed r b < 2 ^ 32
unfolding feed
feed_lt r b h k = shifts_lt 8 (bit_xor r b) (xor_lt 32 r b h k)

pub feed_all_lt : (bs : List ℕ) (r : ℕ) → Words bs → r < 2 ^ 32 → feed_all r bs < 2 ^ 32
unfolding feed_all
feed_all_lt [] r f h = h
feed_all_lt (b ∷ bs) r f h = feed_all_lt bs (feed r b) (λ i. f (suc i)) (feed_lt r b h (f 0))

pub crc_lt : (bs : List ℕ) → Words bs → crc32 bs < 2 ^ 32
unfolding crc32
crc_lt bs f = xor_lt 32 (feed_all 0xFFFF_FFFF bs) 0xFFFF_FFFF (feed_all_lt bs 0xFFFF_FFFF f (lit< tt)) (lit< tt)

-- ---- bytes

pub le_bytes : (w : ℕ) (rest : List ℕ) → Bytes rest → Bytes (word_bytes w ++ rest)
unfolding word_bytes
le_bytes w rest f zero = mod-lt w (zero-lt-suc 255)
le_bytes w rest f (suc zero) = mod-lt (w / 256) (zero-lt-suc 255)
le_bytes w rest f (suc (suc zero)) = mod-lt (w / 65536) (zero-lt-suc 255)
le_bytes w rest f (suc (suc (suc zero))) = mod-lt (w / 16777216) (zero-lt-suc 255)
le_bytes w rest f (suc (suc (suc (suc i)))) = f i

les_bytes : (ws : List ℕ) → Bytes (words_bytes ws)
unfolding words_bytes
les_bytes [] i = lit< tt
les_bytes (w ∷ ws) i = le_bytes w (words_bytes ws) (les_bytes ws) i

pub byte_words : (l : List ℕ) → Bytes l → Words l
byte_words l f i = lt_of_lt_of_le (f i) (lit≤ tt)

pub body_bytes : (h : Header) (ws : List ℕ) → Bytes (body_of h ws)
unfolding body_of
body_bytes h ws i = les_bytes (head_words h (length ws) ++ ws) i

-- ---- a double word and its two words

pub halves : (x : ℕ) → x % 2 ^ 32 + 2 ^ 32 * (x / 2 ^ 32) ≡ x
halves x = ap (λ (y : ℕ). x % 2 ^ 32 + y) (mul_comm (2 ^ 32) (x / 2 ^ 32)) ∙ add_comm (x % 2 ^ 32) (x / 2 ^ 32 * 2 ^ 32) ∙ split x 32

turned : (a b : ℕ) → a + 2 ^ 32 * b ≡ b * 2 ^ 32 + a
turned a b = ap (λ (y : ℕ). a + y) (mul_comm (2 ^ 32) b) ∙ add_comm a (b * 2 ^ 32)

pub low_half : (a b : ℕ) → a < 2 ^ 32 → (a + 2 ^ 32 * b) % 2 ^ 32 ≡ a
low_half a b h = ap (λ (y : ℕ). y % 2 ^ 32) (turned a b) ∙ low b 32 h

pub high_half : (a b : ℕ) → a < 2 ^ 32 → (a + 2 ^ 32 * b) / 2 ^ 32 ≡ b
high_half a b h = ap (λ (y : ℕ). y / 2 ^ 32) (turned a b) ∙ high b 32 h

pub double_lt : (a b : ℕ) → a < 2 ^ 32 → b < 2 ^ 32 → a + 2 ^ 32 * b < 2 ^ 64
double_lt a b h k = omega arith

low_lt : (x : ℕ) → x % 2 ^ 32 < 2 ^ 32
low_lt x = mod-lt x (pow_pos 32)

-- ---- the words of a packet, the check word with them

abbrev all_words : Header → List ℕ → List ℕ
all_words h ws = head_words h (length ws) ++ (ws ++ (crc32 (body_of h ws) ∷ []))

encode_words : (h : Header) (ws : List ℕ) → encode_packet h ws ≡ words_bytes (all_words h ws)
unfolding encode_packet body_of
encode_words h ws =
    ap (λ (l : List ℕ). words_bytes (head_words h (length ws) ++ ws) ++ l) (sym (les_one (crc32 (body_of h ws))))
    ∙ sym (les_append (head_words h (length ws) ++ ws) (crc32 (body_of h ws) ∷ []))
    ∙ ap words_bytes (append_assoc (head_words h (length ws)) ws (crc32 (body_of h ws) ∷ []))

pub encode_bytes : (h : Header) (ws : List ℕ) → Bytes (encode_packet h ws)
encode_bytes h ws i = rw (encode_words h ws) (les_bytes (all_words h ws) i)

pub encode_length : (h : Header) (ws : List ℕ) → length (encode_packet h ws) ≡ packet_length (length ws)
unfolding encode_packet
encode_length h ws =
    let a = length_body h ws in let b = length_le (crc32 (body_of h ws)) in simp length-append (omega arith)

words_snoc : (ws : List ℕ) (c : ℕ) → Words ws → c < 2 ^ 32 → Words (ws ++ (c ∷ []))
words_snoc [] c f h zero = h
words_snoc [] c f h (suc i) = lit< tt
words_snoc (w ∷ ws) c f h zero = f 0
words_snoc (w ∷ ws) c f h (suc i) = words_snoc ws c (λ j. f (suc j)) h i

abbrev EachWord : List ℕ → Type 0
EachWord [] = Unit {0}
EachWord (w ∷ ws) = (w < 2 ^ 32) × EachWord ws

words_ahead : (l r : List ℕ) → EachWord l → Words r → Words (l ++ r)
words_ahead [] r e f i = f i
words_ahead (w ∷ l) r e f zero = e.0
words_ahead (w ∷ l) r e f (suc i) = words_ahead l r e.1 f i

module _ (h : Header) (ws : List ℕ) (fit : Fit h ws) where
  tail_words : Words (ws ++ (crc32 (body_of h ws) ∷ []))
  tail_words = words_snoc ws (crc32 (body_of h ws)) fit.words (crc_lt (body_of h ws) (byte_words (body_of h ws) (body_bytes h ws)))

  fit_words : Words (all_words h ws)
  fit_words =
      words_ahead (head_words h (length ws)) (ws ++ (crc32 (body_of h ws) ∷ [])) (
        lit< tt,
        (
          low_lt h.fingerprint,
          (
            shr_lt 32 32 fit.fingerprint,
            (
              low_lt h.run,
              (
                shr_lt 32 32 fit.run,
                (
                  low_lt h.life,
                  (
                    shr_lt 32 32 fit.life,
                    (fit.kind, (fit.sender, (fit.taker, (fit.item, (fit.chunk, (fit.chunks, (lt_of_le_of_lt fit.count (lit< tt), tt))))))),
                  ),
                ),
              ),
            ),
          ),
        ),
      )
      tail_words

  word_is : (i : ℕ) → i < 15 + length ws → word_at (encode_packet h ws) i ≡ get_or (all_words h ws) i 0
  word_is i k =
      ap (λ (p : List ℕ). word_at p i) (encode_words h ws ∙ sym (append-nil (words_bytes (all_words h ws))))
      ∙ word_les (all_words h ws) [] i fit_words (let a = length-append ws (crc32 (body_of h ws) ∷ []) in omega arith)

  count_is : count_of (encode_packet h ws) ≡ length ws
  count_is = word_is 13 (omega arith)

  double_is : (i a b : ℕ) → word_at (encode_packet h ws) i ≡ a → word_at (encode_packet h ws) (i + 1) ≡ b → double_at (encode_packet h ws) i ≡ a + 2 ^ 32 * b
  unfolding double_at
  double_is i a b e f = ap₂ (λ (x y : ℕ). x + 2 ^ 32 * y) e f

  mark_is : double_at (encode_packet h ws) 1 ≡ h.fingerprint
  mark_is =
      double_is 1 (h.fingerprint % 2 ^ 32) (h.fingerprint / 2 ^ 32) (word_is 1 (omega arith)) (word_is 2 (omega arith)) ∙ halves h.fingerprint

  run_is : double_at (encode_packet h ws) 3 ≡ h.run
  run_is = double_is 3 (h.run % 2 ^ 32) (h.run / 2 ^ 32) (word_is 3 (omega arith)) (word_is 4 (omega arith)) ∙ halves h.run

  life_is : double_at (encode_packet h ws) 5 ≡ h.life
  life_is = double_is 5 (h.life % 2 ^ 32) (h.life / 2 ^ 32) (word_is 5 (omega arith)) (word_is 6 (omega arith)) ∙ halves h.life

  pub header_is : header_of (encode_packet h ws) ≡ h
  unfolding header_of
  header_is =
      rw (
        mark_is,
        run_is,
        life_is,
        word_is 7 (omega arith),
        word_is 8 (omega arith),
        word_is 9 (omega arith),
        word_is 10 (omega arith),
        word_is 11 (omega arith),
        word_is 12 (omega arith),
      )

  own_word : (i : ℕ) → i < length ws → word_at (encode_packet h ws) (14 + i) ≡ get_or ws i 0
  own_word i k =
      word_is (14 + i) (omega arith) ∙ get_or-append-add (head_words h (length ws)) (ws ++ (crc32 (body_of h ws) ∷ [])) i 0
      ∙ get_or-append ws (crc32 (body_of h ws) ∷ []) 0 i k

  own_words : tabulate (λ i. word_at (encode_packet h ws) (14 + i)) (length ws) ≡ ws
  own_words =
      tabulate_same (λ i. word_at (encode_packet h ws) (14 + i)) (λ i. get_or ws i 0) (length ws) own_word ∙ tabulate_list ws

  pub words_are : words_of (encode_packet h ws) ≡ ws
  unfolding words_of
  words_are = ap (tabulate (λ i. word_at (encode_packet h ws) (14 + i))) count_is ∙ own_words

  last_word : word_at (encode_packet h ws) (14 + length ws) ≡ crc32 (body_of h ws)
  last_word =
      word_is (14 + length ws) (omega arith) ∙ get_or-append-add (head_words h (length ws)) (ws ++ (crc32 (body_of h ws) ∷ [])) (length ws) 0
      ∙ get_or_at ws (crc32 (body_of h ws)) [] 0 (length ws) refl

  front : take (4 * (14 + length ws)) (encode_packet h ws) ≡ body_of h ws
  unfolding encode_packet
  front =
      take_at (body_of h ws) (word_bytes (crc32 (body_of h ws))) (4 * (14 + length ws))
      (length_body h ws ∙ (let e : 56 + 4 * length ws ≡ 4 * (14 + length ws) = omega arith in e))

  pub whole : damaged (encode_packet h ws) ≡ false
  whole =
      is_whole (encode_packet h ws)
      (record {
        short = rw count_is fit.count;
        long = encode_length h ws ∙ ap packet_length (sym count_is);
        first = word_is 0 (omega arith);
        check = ap (λ (n : ℕ). word_at (encode_packet h ws) (14 + n)) count_is ∙ last_word
            ∙ sym (ap (λ (n : ℕ). crc32 (take (4 * (14 + n)) (encode_packet h ws))) count_is ∙ ap crc32 front);
      })

  pub fresh : stale h.fingerprint h.run (encode_packet h ws) ≡ false
  unfolding stale
  fresh =
      or_false (not-true (eq-eqb (double_at (encode_packet h ws) 1) h.fingerprint mark_is))
      (not-true (eq-eqb (double_at (encode_packet h ws) 3) h.run run_is))

  -- what was encoded is decoded again
  pub decode_encode : decode_packet h.fingerprint h.run (encode_packet h ws) ≡ packet h ws
  unfolding decode_packet
  decode_encode =
      ap (λ (n : ℕ). decoded_by n (encode_packet h ws)) (first_false 26 _ _ whole ∙ first_false 27 _ _ fresh ∙ first_nil)
      ∙ ap₂ packet header_is words_are

  not_other : (f n : ℕ) → stale f n (encode_packet h ws) ≡ false → (h.fingerprint ≡ f) × (h.run ≡ n)
  unfolding stale
  not_other f n e = (
    sym mark_is ∙ eqb-true (double_at (encode_packet h ws) 1) f (true_not (neither e).0),
    sym run_is ∙ eqb-true (double_at (encode_packet h ws) 3) n (true_not (neither e).1),
  )

  -- a packet of another recipe, route or run is stale
  pub decode_other : (f n : ℕ) → ((h.fingerprint ≡ f) × (h.run ≡ n) → ⊥) → decode_packet f n (encode_packet h ws) ≡ refused 27
  unfolding decode_packet
  decode_other f n k =
      ap (λ (m : ℕ). decoded_by m (encode_packet h ws)) (first_false 26 _ _ whole ∙ first_true 27 _ _ (is_true (λ e. k (not_other f n e))))

  -- reading after writing gives back what was written
  pub read_write : (space area : List ℕ) → length space ≡ packet_length (length ws) → length ws ≤ length area
      → read_call h.fingerprint h.run (write_call h ws space).space area
      ≡ record { number = 0; header = h; count = length ws; words = ws ++ drop (length ws) area }
  read_write space area k l =
      rw (ap (λ (x : Written). x.space) (sym (write_done h ws space (encode_packet h ws) (fit_is (length ws) (length space) fit.count k) refl)))
      (sym (read_all h.fingerprint h.run (encode_packet h ws) area (ws ++ drop (length ws) area) h (length ws)
      (number_none h.fingerprint h.run (encode_packet h ws) (length area) whole fresh (omega (arith, count_is)))
      (sym header_is) (sym count_is) (ap (λ (x : List ℕ). x ++ drop (length ws) area) (sym own_words))))

-- two packets with the same bytes are the same packet
pub encode_one : (h g : Header) (ws vs : List ℕ) → Fit h ws → Fit g vs → encode_packet h ws ≡ encode_packet g vs → (h ≡ g) × (ws ≡ vs)
encode_one h g ws vs f k e =
    (sym (header_is h ws f) ∙ ap header_of e ∙ header_is g vs k, sym (words_are h ws f) ∙ ap words_of e ∙ words_are g vs k)

-- ---- only encodings are accepted

pub word_lt : (p : List ℕ) (i : ℕ) → Bytes p → word_at p i < 2 ^ 32
word_lt p i f = omega (arith, word_four p i, f (4 * i), f (4 * i + 1), f (4 * i + 2), f (4 * i + 3))

low_of : (p : List ℕ) (i : ℕ) → Bytes p → double_at p i % 2 ^ 32 ≡ word_at p i
unfolding double_at
low_of p i f = low_half (word_at p i) (word_at p (i + 1)) (word_lt p i f)

high_of : (p : List ℕ) (i : ℕ) → Bytes p → double_at p i / 2 ^ 32 ≡ word_at p (i + 1)
unfolding double_at
high_of p i f = high_half (word_at p i) (word_at p (i + 1)) (word_lt p i f)

-- the words of a header as they were
head_words_lem : (p : List ℕ) → Bytes p → word_at p 0 ≡ magic → head_words (header_of p) (count_of p) ≡ tabulate (word_at p) 14
unfolding header_of tabulate
head_words_lem p f e = rw (sym e, low_of p 1 f, high_of p 1 f, low_of p 3 f, high_of p 3 f, low_of p 5 f, high_of p 5 f)

pub words_long : (p : List ℕ) → length (words_of p) ≡ count_of p
unfolding words_of
words_long p = length_tabulate (λ i. word_at p (14 + i)) (count_of p)

body_words : (p : List ℕ) → Bytes p → word_at p 0 ≡ magic → body_of (header_of p) (words_of p) ≡ words_bytes (tabulate (word_at p) (14 + count_of p))
unfolding body_of words_of
body_words p f e =
    ap (λ (n : ℕ). words_bytes (head_words (header_of p) n ++ words_of p)) (words_long p)
    ∙ ap (λ (l : List ℕ). words_bytes (l ++ words_of p)) (head_words_lem p f e)
    ∙ ap words_bytes (sym (tabulate_add (word_at p) 14 (count_of p)))

last_split : (p : List ℕ) (n : ℕ) → words_bytes (tabulate (word_at p) (15 + n)) ≡ words_bytes (tabulate (word_at p) (14 + n)) ++ word_bytes (word_at p (14 + n))
unfolding tabulate
last_split p n =
    let e : 15 + n ≡ suc (14 + n) = omega arith in
    ap (λ (k : ℕ). words_bytes (tabulate (word_at p) k)) e ∙ les_append (tabulate (word_at p) (14 + n)) (word_at p (14 + n) ∷ [])
    ∙ ap (λ (l : List ℕ). words_bytes (tabulate (word_at p) (14 + n)) ++ l) (les_one (word_at p (14 + n)))

pub whole_encode : (p : List ℕ) → Bytes p → damaged p ≡ false → p ≡ encode_packet (header_of p) (words_of p)
unfolding encode_packet
whole_encode p f d =
    sym (take_all (4 * (15 + count_of p)) p (omega (arith, is.long))) ∙ sym (les_words p (15 + count_of p) f (omega (arith, is.long)))
    ∙ last_split p (count_of p) ∙ ap₂ (λ (x : List ℕ) (y : ℕ). x ++ word_bytes y) (sym body) (is.check ∙ ap crc32 (sym body_front))
  where
    is : Whole p
    is = whole_is p d

    body : body_of (header_of p) (words_of p) ≡ words_bytes (tabulate (word_at p) (14 + count_of p))
    body = body_words p f is.first

    body_front : body_of (header_of p) (words_of p) ≡ take (4 * (14 + count_of p)) p
    body_front = body ∙ les_words p (14 + count_of p) f (omega (arith, is.long))

stale_is : (f n : ℕ) (p : List ℕ) → stale f n p ≡ false → (double_at p 1 ≡ f) × (double_at p 3 ≡ n)
unfolding stale
stale_is f n p e = (eqb-true (double_at p 1) f (true_not (neither e).0), eqb-true (double_at p 3) n (true_not (neither e).1))

table_words : (g : ℕ → ℕ) (n : ℕ) → ((i : ℕ) → g i < 2 ^ 32) → Words (tabulate g n)
unfolding tabulate
table_words g zero f i = lit< tt
table_words g (suc n) f i = words_snoc (tabulate g n) (g n) (table_words g n f) (f n) i

double_of : (p : List ℕ) (i : ℕ) → Bytes p → double_at p i < 2 ^ 64
unfolding double_at
double_of p i f = double_lt (word_at p i) (word_at p (i + 1)) (word_lt p i f) (word_lt p (i + 1) f)

own_are : (p : List ℕ) → Bytes p → Words (words_of p)
unfolding words_of
own_are p f = table_words (λ i. word_at p (14 + i)) (count_of p) (λ i. word_lt p (14 + i) f)

bytes_fit : (p : List ℕ) → Bytes p → Whole p → Fit (header_of p) (words_of p)
unfolding header_of
bytes_fit p f w =
    record {
      fingerprint = double_of p 1 f;
      run = double_of p 3 f;
      life = double_of p 5 f;
      kind = word_lt p 7 f;
      sender = word_lt p 8 f;
      taker = word_lt p 9 f;
      item = word_lt p 10 f;
      chunk = word_lt p 11 f;
      chunks = word_lt p 12 f;
      count = rw (words_long p) w.short;
      words = own_are p f;
    }

accepted_is : (f n : ℕ) (p : List ℕ) → Bytes p → damaged p ≡ false → stale f n p ≡ false → Accepted f n p (header_of p) (words_of p)
unfolding header_of
accepted_is f n p b d s =
    record { fit = bytes_fit p b (whole_is p d); bytes = whole_encode p b d; fingerprint = (stale_is f n p s).0; run = (stale_is f n p s).1 }

-- a byte string that is accepted is the encoding of what it is decoded to
pub decode_exact : (f n : ℕ) (p : List ℕ) (h : Header) (ws : List ℕ) → Bytes p → decode_packet f n p ≡ packet h ws → Accepted f n p h ws
unfolding decode_packet
decode_exact f n p h ws b e = by (first_of (decode_lines f n p)) refl e
  where
    by : (k : ℕ) → first_of (decode_lines f n p) ≡ k → decoded_by k p ≡ packet h ws → Accepted f n p h ws
    by zero z g =
        let d = none_first 26 (damaged p) (line 27 (stale f n p) ∷ []) (λ q. omega arith) z in
        let s = none_first 27 (stale f n p) [] (λ q. omega arith) d.1 in
        let eh : header_of p ≡ h = cc in
        let ew : words_of p ≡ ws = cc in
        rw (eh, ew) at (accepted_is f n p b d.0 s.0)
    by (suc k) z g = let q : ◌≡◌ {A = ℕ} 0 1 = cc in absurd (omega arith)

-- every byte string is the encoding of one packet, which is accepted, or is refused as damaged or as stale
pub decode_ways : (f n : ℕ) (p : List ℕ) → Bytes p → Ways f n p
unfolding decode_packet
decode_ways f n p b = by (damaged p) refl (stale f n p) refl
  where
    by : (d : Bool) → damaged p ≡ d → (s : Bool) → stale f n p ≡ s → Ways f n p
    by true d s e = damaged_26 (ap (λ (k : ℕ). decoded_by k p) (first_true 26 (damaged p) (line 27 (stale f n p) ∷ []) d))
    by false d true e = stale_27 (ap (λ (k : ℕ). decoded_by k p) (first_false 26 (damaged p) (line 27 (stale f n p) ∷ []) d ∙ first_true 27 (stale f n p) [] e))
    by false d false e =
        accepted (header_of p) (words_of p)
        (ap (λ (k : ℕ). decoded_by k p) (first_false 26 (damaged p) (line 27 (stale f n p) ∷ []) d ∙ first_false 27 (stale f n p) [] e ∙ first_nil))
        (accepted_is f n p b d e)
