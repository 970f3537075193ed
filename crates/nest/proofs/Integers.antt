-- The tests on a bound say what the request says in whole numbers, negative ones too: `meets_integers`; and the recipe's signed bytes.
use Prim.Native.Nat.{ℕ, zero, suc, ◌+◌, ◌*◌, ◌-◌, ◌%◌, ◌≤◌, ◌<◌}
use mathlib.Core.Path.{◌≡◌, refl, sym, ap, ◌∙◌}
use mathlib.Core.Bool.{true, false≢true}
use native.Mathlib.Nat.{zero-mul, one-mul, suc-mul}
use native.Mathlib.Decide.{dec_lt}
use native.Mathlib.Omega.{arith}
use lib.Dec.{eqb, ltb, leb}
use lib.IntN.{ℤ, pos, negsuc, neg_ℤ, sub_ℕ, ◌+ℤ◌, ◌*ℤ◌}
use lib.Signed.{le_z}
use borrow.Author.Tests.{lt-ltb, le-ltb, leb-true, le-leb}
use Rattle.base.specs.Tests.{pick}
use Rattle.base.proofs.Tests.{same_test, pick_true, pick_false}
use Rattle.nest.specs.declared.Nest.{Nest}
use Rattle.nest.specs.Nest.{side, bounded, earlier, slope, bound_offset}
use Rattle.nest.specs.Shape.{level, raised, meets}

-- ---- differences of natural numbers as integers
sub_pos : (g l : ℕ) → l ≤ g → sub_ℕ g l ≡ pos (g - l)
sub_pos g l h = rw (le-ltb g l h)

sub_neg : (g l : ℕ) → g < l → sub_ℕ g l ≡ negsuc (l - suc g)
sub_neg g l h = rw (lt-ltb g l h)

below : (c g l : ℕ) → le_z (sub_ℕ g l) (pos c) ≡ leb g (c + l)
below c g l = go (dec_lt g l)
  where
    go : Dec (g < l) → le_z (sub_ℕ g l) (pos c) ≡ leb g (c + l)
    go (yes h) = ap (λ (z : ℤ). le_z z (pos c)) (sub_neg g l h) ∙ sym (le-leb g (c + l) (omega arith))
    go (no h) =
        ap (λ (z : ℤ). le_z z (pos c)) (sub_pos g l (omega arith))
        ∙ same_test (λ t. let k = leb-true (g - l) c t in le-leb g (c + l) (omega arith)) (λ t. let k = leb-true g (c + l) t in le-leb (g - l) c (omega arith))

above : (c g l : ℕ) → le_z (pos c) (sub_ℕ g l) ≡ leb (c + l) g
above c g l = go (dec_lt g l)
  where
    never : g < l → leb (c + l) g ≡ true → ⊥
    never h t = let k = leb-true (c + l) g t in omega arith

    go : Dec (g < l) → le_z (pos c) (sub_ℕ g l) ≡ leb (c + l) g
    go (yes h) =
        ap (λ (z : ℤ). le_z (pos c) z) (sub_neg g l h)
        ∙ same_test (λ t. absurd (false≢true t)) (λ t. absurd (never h t))
    go (no h) =
        ap (λ (z : ℤ). le_z (pos c) z) (sub_pos g l (omega arith))
        ∙ same_test (λ t. let k = leb-true c (g - l) t in le-leb (c + l) g (omega arith)) (λ t. let k = leb-true (c + l) g t in le-leb c (g - l) (omega arith))

-- the same difference
sub_same : (a b c d : ℕ) → a + d ≡ c + b → sub_ℕ a b ≡ sub_ℕ c d
sub_same a b c d e = go (dec_lt a b)
  where
    go : Dec (a < b) → sub_ℕ a b ≡ sub_ℕ c d
    go (yes h) = sub_neg a b h ∙ (ap negsuc {x = b - suc a} {y = d - suc c} (omega arith) ∙ sym (sub_neg c d (omega arith)))
    go (no h) = sub_pos a b (omega arith) ∙ (ap pos {x = a - b} {y = c - d} (omega arith) ∙ sym (sub_pos c d (omega arith)))

add_pos : (a c d : ℕ) → pos a +ℤ sub_ℕ c d ≡ sub_ℕ (a + c) d
add_pos a c d = go (dec_lt c d)
  where
    go : Dec (c < d) → pos a +ℤ sub_ℕ c d ≡ sub_ℕ (a + c) d
    go (yes h) = ap (λ (z : ℤ). pos a +ℤ z) (sub_neg c d h) ∙ sub_same a (suc (d - suc c)) (a + c) d (omega arith)
    go (no h) =
        ap (λ (z : ℤ). pos a +ℤ z) (sub_pos c d (omega arith)) ∙ (ap pos {x = a + (c - d)} {y = a + c - d} (omega arith)
        ∙ sym (sub_pos (a + c) d (omega arith)))

add_neg : (a c d : ℕ) → neg_ℤ (pos a) +ℤ sub_ℕ c d ≡ sub_ℕ c (a + d)
add_neg zero c d = add_pos 0 c d ∙ sub_same (0 + c) d c (0 + d) (omega arith)
add_neg (suc a) c d = go (dec_lt c d)
  where
    go : Dec (c < d) → negsuc a +ℤ sub_ℕ c d ≡ sub_ℕ c (suc a + d)
    go (yes h) =
        ap (λ (z : ℤ). negsuc a +ℤ z) (sub_neg c d h)
        ∙ (ap negsuc {x = suc (a + (d - suc c))} {y = suc a + d - suc c} (omega arith) ∙ sym (sub_neg c (suc a + d) (omega arith)))
    go (no h) = ap (λ (z : ℤ). negsuc a +ℤ z) (sub_pos c d (omega arith)) ∙ sub_same (c - d) (suc a) c (suc a + d) (omega arith)

-- slope × the earlier component, of slope + 1
times : (s e o d : ℕ) → s ≤ 2 → sub_ℕ s 1 *ℤ pos e +ℤ sub_ℕ o d ≡ sub_ℕ (s * e + o) (e + d)
times zero e o d h =
    ap (λ (z : ℤ). z +ℤ sub_ℕ o d) (ap (λ (z : ℤ). z *ℤ pos e) (sub_neg 0 1 (omega arith)))
    ∙ (ap (λ (n : ℕ). neg_ℤ (pos n) +ℤ sub_ℕ o d) (one-mul e) ∙ (add_neg e o d ∙ sub_same o (e + d) (0 * e + o) (e + d) (omega (arith, zero-mul e))))
times (suc zero) e o d h =
    ap (λ (z : ℤ). z +ℤ sub_ℕ o d) (ap (λ (z : ℤ). z *ℤ pos e) (sub_pos 1 1 (omega arith)))
    ∙ (ap (λ (n : ℕ). pos n +ℤ sub_ℕ o d) (zero-mul e) ∙ (add_pos 0 o d ∙ sub_same (0 + o) d (1 * e + o) (e + d) (omega (arith, one-mul e))))
times (suc (suc zero)) e o d h =
    ap (λ (z : ℤ). z +ℤ sub_ℕ o d) (ap (λ (z : ℤ). z *ℤ pos e) (sub_pos 2 1 (omega arith)))
    ∙ (ap (λ (n : ℕ). pos n +ℤ sub_ℕ o d) (one-mul e) ∙ (add_pos e o d ∙ sub_same (e + o) d (2 * e + o) (e + d) (omega (arith, suc-mul 1 e, one-mul e))))
times (suc (suc (suc s))) e o d h = absurd (omega arith)

-- ---- a bound in integers

-- slope × the earlier component + offset
abbrev pub line_at : Nest → ℕ → (ℕ → ℕ) → ℤ
line_at x k i = sub_ℕ (slope x k) 1 *ℤ pos (i (earlier x k)) +ℤ sub_ℕ (bound_offset x k) 32768

-- the component is at least, or at most, that
pub meets_integers : (x : Nest) (i : ℕ → ℕ) (k : ℕ) → slope x k ≤ 2
    → meets x i k ≡ pick (eqb (side x k) 0) (le_z (line_at x k i) (pos (i (bounded x k)))) (le_z (pos (i (bounded x k))) (line_at x k i))
unfolding meets level raised
meets_integers x i k h =
    let e : ℕ = i (earlier x k) in
    let g : ℕ = slope x k * i (earlier x k) + bound_offset x k in
    let w : i (bounded x k) + (i (earlier x k) + 32768) ≡ i (bounded x k) + i (earlier x k) + 32768 = omega arith in
    sym (rw (
      times (slope x k) (i (earlier x k)) (bound_offset x k) 32768 h,
      below (i (bounded x k)) (slope x k * i (earlier x k) + bound_offset x k) (i (earlier x k) + 32768),
      above (i (bounded x k)) (slope x k * i (earlier x k) + bound_offset x k) (i (earlier x k) + 32768),
      w,
    ) refl)

-- ---- the recipe's signed byte, and its signed number of two bytes
pub slope_signed : (b : ℕ) → b < 256 → (b + 1) % 256 ≤ 2 → sub_ℕ ((b + 1) % 256) 1 ≡ pick (ltb b 128) (pos b) (negsuc (255 - b))
slope_signed b h l = go (dec_lt b 128)
  where
    go : Dec (b < 128) → sub_ℕ ((b + 1) % 256) 1 ≡ pick (ltb b 128) (pos b) (negsuc (255 - b))
    go (yes k) =
        sub_pos ((b + 1) % 256) 1 (omega arith) ∙ (ap pos {x = (b + 1) % 256 - 1} {y = b} (omega arith)
        ∙ sym (pick_true (ltb b 128) (pos b) (negsuc (255 - b)) (lt-ltb b 128 k)))
    go (no k) =
        sub_neg ((b + 1) % 256) 1 (omega arith)
        ∙ (ap negsuc {x = 1 - suc ((b + 1) % 256)} {y = 255 - b} (omega arith)
        ∙ sym (pick_false (ltb b 128) (pos b) (negsuc (255 - b)) (le-ltb b 128 (omega arith))))

pub offset_signed : (v : ℕ) → v < 65536 → sub_ℕ ((v + 32768) % 65536) 32768 ≡ pick (ltb v 32768) (pos v) (negsuc (65535 - v))
offset_signed v h = go (dec_lt v 32768)
  where
    go : Dec (v < 32768) → sub_ℕ ((v + 32768) % 65536) 32768 ≡ pick (ltb v 32768) (pos v) (negsuc (65535 - v))
    go (yes k) =
        sub_pos ((v + 32768) % 65536) 32768 (omega arith)
        ∙ (ap pos {x = (v + 32768) % 65536 - 32768} {y = v} (omega arith) ∙ sym (pick_true (ltb v 32768) (pos v) (negsuc (65535 - v)) (lt-ltb v 32768 k)))
    go (no k) =
        sub_neg ((v + 32768) % 65536) 32768 (omega arith)
        ∙ (ap negsuc {x = 32768 - suc ((v + 32768) % 65536)} {y = 65535 - v} (omega arith) ∙ sym (pick_false (ltb v 32768) (pos v) (negsuc (65535 - v))
        (le-ltb v 32768 (omega arith))))
