-- For the proofs alone.
-- Laws of a shift: it is linear, brings the bits above down, and maps no two words of 32 bits to one.
use mathlib.Core.Path.{◌≡◌, refl, sym, ap, ap₂, ◌∙◌}
use Prim.Native.Nat.{ℕ, zero, suc, ◌+◌, ◌*◌, ◌/◌, ◌%◌, ◌^◌, ◌<◌}
use native.Mathlib.Nat.{mod-lt, zero-lt-suc, mul-div_cancel, mul-mod_left, mul-one, mul_assoc, pow-suc, div-add-mod', div-le_self, lt_of_le_of_lt}
use native.Mathlib.Nat.{div-lt_iff_lt-mul, div-eq_of_lt}
use native.Mathlib.Omega.{arith}
use lib.Dec.{lit<}
use lib.Bits.{bit_xor, differ, xor_zero_r, xor_shifted, xor_shr, xor_lt}
use Rattle.packets.specs.Crc.{shift, shifts, feed}
use Rattle.packets.proofs.Xor.{bit_lt, xor_half, xor_odd, xor_assoc, xor_swap, xor_cancel}

abbrev poly : ℕ
poly = 0xEDB88320

-- ---- linear

poly_xor : (x y : ℕ) → x < 2 → y < 2 → differ x y * poly ≡ bit_xor (x * poly) (y * poly)
poly_xor zero y h k = refl
poly_xor (suc zero) zero h k = refl
poly_xor (suc zero) (suc zero) h k = refl
poly_xor (suc zero) (suc (suc y)) h k = absurd (omega arith)
poly_xor (suc (suc x)) y h k = absurd (omega arith)

pub shift_xor : (a b : ℕ) → shift (bit_xor a b) ≡ bit_xor (shift a) (shift b)
unfolding shift
shift_xor a b =
    ap₂ (λ (x y : ℕ). bit_xor x (y * poly)) (xor_half a b) (xor_odd a b)
    ∙ ap (bit_xor (bit_xor (a / 2) (b / 2))) (poly_xor (a % 2) (b % 2) (bit_lt a) (bit_lt b))
    ∙ xor_swap (a / 2) (b / 2) (a % 2 * poly) (b % 2 * poly)

pub shifts_xor : (n a b : ℕ) → shifts n (bit_xor a b) ≡ bit_xor (shifts n a) (shifts n b)
unfolding shifts
shifts_xor zero a b = refl
shifts_xor (suc n) a b = ap (shifts n) (shift_xor a b) ∙ shifts_xor n (shift a) (shift b)

-- ---- bits above come down

pub shift_even : (x : ℕ) → shift (x * 2) ≡ x
unfolding shift
shift_even x =
    ap₂ (λ (u v : ℕ). bit_xor u (v * poly)) (mul-div_cancel x (zero-lt-suc 1)) (mul-mod_left x 2) ∙ xor_zero_r x

pub shifts_high : (n x : ℕ) → shifts n (x * 2 ^ n) ≡ x
unfolding shifts
shifts_high zero x = mul-one x
shifts_high (suc n) x =
    ap (λ (y : ℕ). shifts n (shift y)) (ap (λ (y : ℕ). x * y) (pow-suc 2 n) ∙ sym (mul_assoc x (2 ^ n) 2))
    ∙ ap (shifts n) (shift_even (x * 2 ^ n)) ∙ shifts_high n x

-- a byte by table: the upper bits come down, and the low byte leaves its eight shifts
pub feed_table : (r b : ℕ) → feed r b ≡ bit_xor (r / 256) (shifts 8 (bit_xor (r % 256) b))
unfolding feed
feed_table r b =
    ap (λ (x : ℕ). shifts 8 (bit_xor x b))
    (sym (xor_shifted (r / 256) 8 (r % 256) (mod-lt r (zero-lt-suc 255)) ∙ div-add-mod' r 256))
    ∙ ap (shifts 8) (xor_assoc (r / 256 * 256) (r % 256) b)
    ∙ shifts_xor 8 (r / 256 * 256) (bit_xor (r % 256) b)
    ∙ ap (λ (x : ℕ). bit_xor x (shifts 8 (bit_xor (r % 256) b))) (shifts_high 8 (r / 256))

-- ---- one to one on words of 32 bits

bit_poly_lt : (x : ℕ) → x < 2 → x * poly < 2 ^ 32
bit_poly_lt zero h = lit< tt
bit_poly_lt (suc zero) h = lit< tt
bit_poly_lt (suc (suc x)) h = absurd (omega arith)

pub shift_lt : (r : ℕ) → r < 2 ^ 32 → shift r < 2 ^ 32
unfolding shift
shift_lt r h = xor_lt 32 (r / 2) (r % 2 * poly) (lt_of_le_of_lt (div-le_self r 2) h) (bit_poly_lt (r % 2) (bit_lt r))

pub shifts_lt : (n r : ℕ) → r < 2 ^ 32 → shifts n r < 2 ^ 32
unfolding shifts
shifts_lt zero r h = h
shifts_lt (suc n) r h = shifts_lt n (shift r) (shift_lt r h)

-- the bit that falls out is the top bit of what is left
top : (a x : ℕ) → a < 2 ^ 31 → x < 2 → bit_xor a (x * poly) / 2 ^ 31 ≡ x
top a zero h k = xor_shr a 0 31 ∙ ap (λ (y : ℕ). bit_xor y 0) (div-eq_of_lt h)
top a (suc zero) h k = xor_shr a poly 31 ∙ ap (λ (y : ℕ). bit_xor y 1) (div-eq_of_lt h)
top a (suc (suc x)) h k = absurd (omega arith)

half_lt : (r : ℕ) → r < 2 ^ 32 → r / 2 < 2 ^ 31
half_lt r h = (div-lt_iff_lt-mul (zero-lt-suc 1)).1 h

pub shift_one : (r s : ℕ) → r < 2 ^ 32 → s < 2 ^ 32 → shift r ≡ shift s → r ≡ s
unfolding shift
shift_one r s h k e =
    let odd : r % 2 ≡ s % 2 = sym (top (r / 2) (r % 2) (half_lt r h) (bit_lt r)) ∙ ap (λ (x : ℕ). x / 2 ^ 31) e
    ∙ top (s / 2) (s % 2) (half_lt s k) (bit_lt s) in
    let half : r / 2 ≡ s / 2 = xor_cancel (r % 2 * poly) (r / 2) (s / 2) (e ∙ ap (λ (x : ℕ). bit_xor (s / 2) (x * poly)) (sym odd)) in
    sym (div-add-mod' r 2) ∙ ap₂ (λ (x y : ℕ). x * 2 + y) half odd ∙ div-add-mod' s 2

pub shifts_one : (n r s : ℕ) → r < 2 ^ 32 → s < 2 ^ 32 → shifts n r ≡ shifts n s → r ≡ s
unfolding shifts
shifts_one zero r s h k e = e
shifts_one (suc n) r s h k e = shift_one r s h k (shifts_one n (shift r) (shift s) (shift_lt r h) (shift_lt s k) e)
