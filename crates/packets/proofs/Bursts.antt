-- For the proofs alone.
-- A packet in which up to 32 bits that follow each other were changed is damaged. CRC-32 takes the bits one by one, each into a register that loses
-- nothing: so the same bits behind keep two registers apart, and 32 bits are as many as the register has.
use mathlib.Core.Path.{◌≡◌, refl, sym, ap, ap₂, ◌∙◌}
use mathlib.Core.Bool.{true, false}
use mathlib.Core.List.{List, [], ◌∷◌, ◌++◌, append_assoc}
use Prim.Native.Nat.{ℕ, zero, suc, ◌+◌, ◌*◌, ◌/◌, ◌%◌, ◌^◌, ◌≤◌, ◌<◌}
use native.Mathlib.Nat.{mod-lt, zero-lt-suc, div-lt_iff_lt-mul, div-add-mod', div-eq_of_lt, div-div-eq-div-mul, lt_of_lt_of_le, pow-suc}
use native.Mathlib.Omega.{arith}
use lib.Arith.{lt-one, digits_mod, digits_div}
use lib.Pow.{pow_pos, pow_mono, split}
use lib.ListN.{length, get_or}
use lib.Seq.{get_or-append_seam}
use lib.Dec.{lit<}
use lib.Bits.{bit_xor, xor_zero_r, xor_self, xor_comm, xor_shifted, xor_lt}
use Rattle.base.specs.Lists.{Bytes}
use Rattle.base.proofs.Tests.{is_true}
use Rattle.base.proofs.Numbers.{first_true}
use Rattle.packets.specs.Crc.{shift, shifts, feed, feed_all, crc32}
use Rattle.packets.specs.Packet.{word_bytes, body_of, encode_packet, header_of, words_of, damaged, refused, decoded_by, decode_packet}
use Rattle.packets.specs.Bits.{bits_of, bits, Burst, ByteChange}
use Rattle.packets.proofs.Xor.{bit_lt, xor_assoc, xor_cancel, xor_cancel_left}
use Rattle.packets.proofs.Shifts.{shifts_xor, shifts_high, shift_lt, shift_one, shifts_one}
use Rattle.packets.proofs.Bytes.{feed_append}
use Rattle.packets.proofs.RoundTrip.{crc_lt, byte_words, body_bytes, whole_encode}

-- ---- the low bits are taken, those above wait

shifts_low : (k r w : ℕ) → shifts k (bit_xor r w) ≡ bit_xor (shifts k (bit_xor r (w % 2 ^ k))) (w / 2 ^ k)
shifts_low k r w =
    ap (λ (x : ℕ). shifts k (bit_xor r x)) parts ∙ ap (shifts k) (sym (xor_assoc r (w % 2 ^ k) (w / 2 ^ k * 2 ^ k)))
    ∙ shifts_xor k (bit_xor r (w % 2 ^ k)) (w / 2 ^ k * 2 ^ k) ∙ ap (bit_xor (shifts k (bit_xor r (w % 2 ^ k)))) (shifts_high k (w / 2 ^ k))
  where
    parts : w ≡ bit_xor (w % 2 ^ k) (w / 2 ^ k * 2 ^ k)
    parts =
        sym (split w k) ∙ sym (xor_shifted (w / 2 ^ k) k (w % 2 ^ k) (mod-lt w (pow_pos k))) ∙ xor_comm (w / 2 ^ k * 2 ^ k) (w % 2 ^ k)

-- ---- bit by bit

unfoldable feed_bits : ℕ → List ℕ → ℕ
feed_bits r [] = r
feed_bits r (x ∷ xs) = feed_bits (shift (bit_xor r x)) xs

shift_low : (r w : ℕ) → shift (bit_xor r w) ≡ bit_xor (shift (bit_xor r (w % 2))) (w / 2)
unfolding shifts
shift_low r w = shifts_low 1 r w

half_pow : (w n : ℕ) → w < 2 ^ suc n → w / 2 < 2 ^ n
half_pow w n h = let e = pow-suc 2 n in (div-lt_iff_lt-mul (zero-lt-suc 1)).1 (rw e at h)

feed_number : (n r w : ℕ) → w < 2 ^ n → shifts n (bit_xor r w) ≡ feed_bits r (bits_of n w)
unfolding shifts bits_of feed_bits
feed_number zero r w h = ap (bit_xor r) (lt-one h) ∙ xor_zero_r r
feed_number (suc n) r w h = ap (shifts n) (shift_low r w) ∙ feed_number n (shift (bit_xor r (w % 2))) (w / 2) (half_pow w n h)

bits_append : (a b : List ℕ) (r : ℕ) → feed_bits r (a ++ b) ≡ feed_bits (feed_bits r a) b
unfolding feed_bits
bits_append [] b r = refl
bits_append (x ∷ a) b r = bits_append a b (shift (bit_xor r x))

feed_bits_lem : (bs : List ℕ) (r : ℕ) → Bytes bs → feed_all r bs ≡ feed_bits r (bits bs)
unfolding feed_all feed bits feed_bits
feed_bits_lem [] r f = refl
feed_bits_lem (b ∷ bs) r f =
    feed_bits_lem bs (shifts 8 (bit_xor r b)) (λ i. f (suc i)) ∙ ap (λ (x : ℕ). feed_bits x (bits bs)) (feed_number 8 r b (f 0))
    ∙ sym (bits_append (bits_of 8 b) (bits bs) r)

-- ---- lists of bits

abbrev Bits : List ℕ → Type 0
Bits l = (i : ℕ) → get_or l i 0 < 2

bits_of_bits : (n x : ℕ) (rest : List ℕ) → Bits rest → Bits (bits_of n x ++ rest)
unfolding bits_of
bits_of_bits zero x rest f i = f i
bits_of_bits (suc n) x rest f zero = bit_lt x
bits_of_bits (suc n) x rest f (suc i) = bits_of_bits n (x / 2) rest f i

bits_bits : (bs : List ℕ) → Bits (bits bs)
unfolding bits
bits_bits [] i = lit< tt
bits_bits (b ∷ bs) i = bits_of_bits 8 b (bits bs) (bits_bits bs) i

bits_left : (a b : List ℕ) → Bits (a ++ b) → Bits a
bits_left [] b f i = lit< tt
bits_left (x ∷ a) b f zero = f 0
bits_left (x ∷ a) b f (suc i) = bits_left a b (λ j. f (suc j)) i

bits_right : (a b : List ℕ) → Bits (a ++ b) → Bits b
bits_right [] b f i = f i
bits_right (x ∷ a) b f i = bits_right a b (λ j. f (suc j)) i

unfoldable number : List ℕ → ℕ
number [] = 0
number (x ∷ xs) = number xs * 2 + x

number_lt : (l : List ℕ) → Bits l → number l < 2 ^ length l
unfolding number
number_lt [] f = lit< tt
number_lt (x ∷ xs) f = let e = pow-suc 2 (length xs) in let a = number_lt xs (λ i. f (suc i)) in let b = f 0 in omega arith

bits_number : (l : List ℕ) → Bits l → bits_of (length l) (number l) ≡ l
unfolding number bits_of
bits_number [] f = refl
bits_number (x ∷ xs) f =
    ap₂ (λ (y z : ℕ). y ∷ bits_of (length xs) z) (digits_mod (number xs) (f 0)) (digits_div (number xs) (f 0))
    ∙ ap (λ (l : List ℕ). x ∷ l) (bits_number xs (λ i. f (suc i)))

-- ---- the register loses nothing

bit_word : (x : ℕ) → x < 2 → x < 2 ^ 32
bit_word x h = omega arith

next_lt : (r x : ℕ) → r < 2 ^ 32 → x < 2 → shift (bit_xor r x) < 2 ^ 32
next_lt r x h k = shift_lt (bit_xor r x) (xor_lt 32 r x h (bit_word x k))

bits_lt : (l : List ℕ) (r : ℕ) → Bits l → r < 2 ^ 32 → feed_bits r l < 2 ^ 32
unfolding feed_bits
bits_lt [] r f h = h
bits_lt (x ∷ xs) r f h = bits_lt xs (shift (bit_xor r x)) (λ i. f (suc i)) (next_lt r x h (f 0))

-- the same bits behind keep two registers apart
after_one : (l : List ℕ) (r s : ℕ) → Bits l → r < 2 ^ 32 → s < 2 ^ 32 → feed_bits r l ≡ feed_bits s l → r ≡ s
unfolding feed_bits
after_one [] r s f h k e = e
after_one (x ∷ xs) r s f h k e =
    xor_cancel x r s (shift_one (bit_xor r x) (bit_xor s x) (xor_lt 32 r x h (bit_word x (f 0))) (xor_lt 32 s x k (bit_word x (f 0)))
    (after_one xs (shift (bit_xor r x)) (shift (bit_xor s x)) (λ i. f (suc i)) (next_lt r x h (f 0)) (next_lt s x k (f 0)) e))

-- up to 32 bits are told apart
within_one : (v w : List ℕ) (r : ℕ) → Bits v → Bits w → length w ≡ length v → length v ≤ 32 → r < 2 ^ 32 → feed_bits r v ≡ feed_bits r w → v ≡ w
within_one v w r f g l k h e =
    sym (bits_number v f) ∙ ap₂ bits_of (sym l) same ∙ bits_number w g
  where
    small : (u : List ℕ) → Bits u → length u ≤ 32 → number u < 2 ^ 32
    small u b m = lt_of_lt_of_le (number_lt u b) (pow_mono m)

    shifted : (u : List ℕ) → Bits u → shifts (length u) (bit_xor r (number u)) ≡ feed_bits r u
    shifted u b = feed_number (length u) r (number u) (number_lt u b) ∙ ap (feed_bits r) (bits_number u b)

    as_long_lem : shifts (length v) (bit_xor r (number w)) ≡ feed_bits r w
    as_long_lem = ap (λ (n : ℕ). shifts n (bit_xor r (number w))) (sym l) ∙ shifted w g

    less : length w ≤ 32
    less = rw l k

    same : number v ≡ number w
    same =
        xor_cancel_left r (number v) (number w)
        (shifts_one (length v) (bit_xor r (number v)) (bit_xor r (number w)) (xor_lt 32 r (number v) h (small v f k)) (xor_lt 32 r (number w) h (small w g less))
        (shifted v f ∙ e ∙ sym as_long_lem))

-- ---- the register after a whole packet is always the same

feed_low : (r v q s : ℕ) → v / 256 ≡ q → feed r (v % 256) ≡ s → shifts 8 (bit_xor r v) ≡ bit_xor s q
unfolding feed
feed_low r v q s e f = shifts_low 8 r v ∙ ap₂ bit_xor f e

eights : (x : ℕ) → shifts 32 x ≡ shifts 8 (shifts 8 (shifts 8 (shifts 8 x)))
unfolding shifts
eights x = refl

feed_four : (r w a b c d : ℕ) → w < 2 ^ 32 → feed r (w % 256) ≡ a → feed a (w / 256 % 256) ≡ b → feed b (w / 65536 % 256) ≡ c → feed c (w / 16777216 % 256) ≡ d
    → shifts 32 (bit_xor r w) ≡ d
feed_four r w a b c d h ea eb ec ed =
    eights (bit_xor r w)
    ∙ ap (λ (x : ℕ). shifts 8 (shifts 8 (shifts 8 x))) (feed_low r w (w / 256) a refl ea)
    ∙ ap (λ (x : ℕ). shifts 8 (shifts 8 x)) (feed_low a (w / 256) (w / 65536) b (div-div-eq-div-mul w 256 256) eb)
    ∙ ap (shifts 8) (feed_low b (w / 65536) (w / 16777216) c (div-div-eq-div-mul w 65536 256) ec)
    ∙ feed_low c (w / 16777216) 0 d (div-div-eq-div-mul w 16777216 256 ∙ div-eq_of_lt h) ed
    ∙ xor_zero_r d

pub feed_le : (r w : ℕ) → w < 2 ^ 32 → feed_all r (word_bytes w) ≡ shifts 32 (bit_xor r w)
unfolding feed_all word_bytes
feed_le r w h = sym (feed_four r w _ _ _ _ h refl refl refl refl)

crc_back : (b : List ℕ) → bit_xor (feed_all 0xFFFF_FFFF b) (crc32 b) ≡ 0xFFFF_FFFF
unfolding crc32
crc_back b =
    sym (xor_assoc (feed_all 0xFFFF_FFFF b) (feed_all 0xFFFF_FFFF b) 0xFFFF_FFFF) ∙ ap (λ (x : ℕ). bit_xor x 0xFFFF_FFFF) (xor_self (feed_all 0xFFFF_FFFF b))

residue : (b : List ℕ) → Bytes b → feed_all 0xFFFF_FFFF (b ++ word_bytes (crc32 b)) ≡ shifts 32 0xFFFF_FFFF
residue b f =
    feed_append b (word_bytes (crc32 b)) 0xFFFF_FFFF ∙ feed_le (feed_all 0xFFFF_FFFF b) (crc32 b) (crc_lt b (byte_words b f))
    ∙ ap (shifts 32) (crc_back b)

pub whole_residue : (p : List ℕ) → Bytes p → damaged p ≡ false → feed_all 0xFFFF_FFFF p ≡ shifts 32 0xFFFF_FFFF
unfolding encode_packet
whole_residue p f d =
    ap (feed_all 0xFFFF_FFFF) (whole_encode p f d) ∙ residue (body_of (header_of p) (words_of p)) (body_bytes (header_of p) (words_of p))

-- ---- so a burst is seen

burst_whole : (p q : List ℕ) → Bytes p → Bytes q → Burst p q → damaged p ≡ false → damaged q ≡ false → ⊥
burst_whole p q f g b d e =
    b.other (within_one b.sent b.came (feed_bits 0xFFFF_FFFF b.before) sent_bits came_bits b.long b.short
    (bits_lt b.before 0xFFFF_FFFF (bits_left b.before (b.sent ++ b.after) all_sent) (lit< tt))
    (after_one b.after _ _ after_bits
    (bits_lt b.sent _ sent_bits (bits_lt b.before 0xFFFF_FFFF (bits_left b.before (b.sent ++ b.after) all_sent) (lit< tt)))
    (bits_lt b.came _ came_bits (bits_lt b.before 0xFFFF_FFFF (bits_left b.before (b.sent ++ b.after) all_sent) (lit< tt)))
    same))
  where
    all_sent : Bits (b.before ++ (b.sent ++ b.after))
    all_sent = rw b.first at (bits_bits p)

    all_came : Bits (b.before ++ (b.came ++ b.after))
    all_came = rw b.second at (bits_bits q)

    sent_bits : Bits b.sent
    sent_bits = bits_left b.sent b.after (bits_right b.before (b.sent ++ b.after) all_sent)

    came_bits : Bits b.came
    came_bits = bits_left b.came b.after (bits_right b.before (b.came ++ b.after) all_came)

    after_bits : Bits b.after
    after_bits = bits_right b.sent b.after (bits_right b.before (b.sent ++ b.after) all_sent)

    apart : (l m n : List ℕ) (r : ℕ) → feed_bits r (l ++ (m ++ n)) ≡ feed_bits (feed_bits (feed_bits r l) m) n
    apart l m n r = bits_append l (m ++ n) r ∙ bits_append m n (feed_bits r l)

    same : feed_bits (feed_bits (feed_bits 0xFFFF_FFFF b.before) b.sent) b.after ≡ feed_bits (feed_bits (feed_bits 0xFFFF_FFFF b.before) b.came)
        b.after
    same =
        sym (apart b.before b.sent b.after 0xFFFF_FFFF) ∙ ap (feed_bits 0xFFFF_FFFF) (sym b.first) ∙ sym (feed_bits_lem p 0xFFFF_FFFF f)
        ∙ whole_residue p f d ∙ sym (whole_residue q g e)
        ∙ feed_bits_lem q 0xFFFF_FFFF g ∙ ap (feed_bits 0xFFFF_FFFF) b.second ∙ apart b.before b.came b.after 0xFFFF_FFFF

-- a packet with a burst of up to 32 bits is damaged, wherever it lies
pub burst_damaged : (p q : List ℕ) → Bytes p → Bytes q → damaged p ≡ false → Burst p q → damaged q ≡ true
burst_damaged p q f g d b = is_true (λ e. burst_whole p q f g b d e)

pub damaged_refused : (f n : ℕ) (q : List ℕ) → damaged q ≡ true → decode_packet f n q ≡ refused 26
unfolding decode_packet
damaged_refused f n q e = ap (λ (k : ℕ). decoded_by k q) (first_true 26 _ _ e)

-- ---- a changed byte is such a burst

bits_split : (a : List ℕ) (x : ℕ) (b : List ℕ) → bits (a ++ (x ∷ b)) ≡ bits a ++ (bits_of 8 x ++ bits b)
unfolding bits
bits_split [] x b = refl
bits_split (y ∷ a) x b = ap (λ (l : List ℕ). bits_of 8 y ++ l) (bits_split a x b) ∙ sym (append_assoc (bits_of 8 y) (bits a) (bits_of 8 x ++ bits b))

length_bits : (n x : ℕ) → length (bits_of n x) ≡ n
unfolding bits_of
length_bits zero x = refl
length_bits (suc n) x = ap suc (length_bits n (x / 2))

bits_one : (n x y : ℕ) → x < 2 ^ n → y < 2 ^ n → bits_of n x ≡ bits_of n y → x ≡ y
unfolding bits_of
bits_one zero x y h k e = lt-one h ∙ sym (lt-one k)
bits_one (suc n) x y h k e =
    let low : x % 2 ≡ y % 2 = cc in
    let rest : bits_of n (x / 2) ≡ bits_of n (y / 2) = cc in
    sym (div-add-mod' x 2) ∙ ap₂ (λ (u v : ℕ). u * 2 + v) (bits_one n (x / 2) (y / 2) (half_pow x n h) (half_pow y n k) rest) low ∙ div-add-mod' y 2

byte_at : (a : List ℕ) (x : ℕ) (b p : List ℕ) → p ≡ a ++ (x ∷ b) → Bytes p → x < 256
byte_at a x b p e f = rw (get_or-append_seam a x b 0) at (rw e at (f (length a)))

byte_burst : (p q : List ℕ) → Bytes p → Bytes q → ByteChange p q → Burst p q
byte_burst p q f g c =
    record {
      before = bits c.before;
      sent = bits_of 8 c.sent;
      came = bits_of 8 c.came;
      after = bits c.after;
      first = ap bits c.first ∙ bits_split c.before c.sent c.after;
      second = ap bits c.second ∙ bits_split c.before c.came c.after;
      long = length_bits 8 c.came ∙ sym (length_bits 8 c.sent);
      short = let e = length_bits 8 c.sent in omega arith;
      other = λ e. c.other (bits_one 8 c.sent c.came (byte_at c.before c.sent c.after p c.first f)
          (byte_at c.before c.came c.after q c.second g) e);
    }

-- a packet with one byte changed, in whatever bits, is damaged
pub byte_damaged : (p q : List ℕ) → Bytes p → Bytes q → damaged p ≡ false → ByteChange p q → damaged q ≡ true
byte_damaged p q f g d c = burst_damaged p q f g d (byte_burst p q f g c)
