-- What a decimal is: its digits, their number, no leading zero, and that there is no other.
use Prim.Native.Nat.{ℕ, ◌+◌, ◌*◌, ◌-◌, ◌/◌, ◌%◌, ◌≤◌, ◌<◌}
use mathlib.Core.Path.{◌≡◌, refl, sym, ap, ◌∙◌, subst}
use mathlib.Core.Logic.{◌⊎◌, inl, inr, ◌≢◌}
use mathlib.Core.List.{List, [], ◌∷◌, ◌++◌, append_assoc, append-nil}
use native.Mathlib.Omega.{arith}
use Rattle.base.specs.Lists.{In}
use Rattle.base.proofs.Select.{in_append}
use Rattle.text.specs.Decimal.{digit, digits_in, decimal, signed}
use Rattle.text.specs.Denotes.{denotes, IsDecimal, Decimals, DecimalExamples}
use Rattle.text.proofs.Decimals.{decimal_small, decimal_more, by_digits}

-- ---- a decimal is one

denotes_append : (a : ℕ) (s t : List ℕ) → denotes a (s ++ t) ≡ denotes (denotes a s) t
unfolding denotes
denotes_append a [] t = refl
denotes_append a (b ∷ s) t = denotes_append (a * 10 + (b - 48)) s t

one_digit : (n : ℕ) → n < 10 → IsDecimal n (digit n ∷ [])
unfolding denotes
one_digit n h = record { digits = only_one; some = omega arith; no_leading_zero = λ l. absurd (omega arith); number = omega arith }
  where
    only_one : (b : ℕ) → In b (digit n ∷ []) → (48 ≤ b) × (b ≤ 57)
    only_one b (inl e) = (omega arith, omega arith)
    only_one b (inr i) = absurd i

-- a digit behind a decimal of 1 or more
more_digits : (m d : ℕ) (bs : List ℕ) → 1 ≤ m → d < 10 → IsDecimal m bs → IsDecimal (m * 10 + d) (bs ++ (digit d ∷ []))
unfolding denotes
more_digits m d [] h l k = absurd (omega (arith, k.some))
more_digits m d (b ∷ bs) h l k =
    record {
      digits = λ c i. each c (in_append c (b ∷ bs) (digit d ∷ []) i);
      some = omega arith;
      no_leading_zero = λ q. first bs k;
      number = number_is;
    }
  where
    each : (c : ℕ) → In c (b ∷ bs) ⊎ In c (digit d ∷ []) → (48 ≤ c) × (c ≤ 57)
    each c (inl i) = k.digits c i
    each c (inr (inl e)) = (omega arith, omega arith)
    each c (inr (inr i)) = absurd i

    -- the first digit alone denotes m, which is not 0; or there are more
    first : (bs : List ℕ) → IsDecimal m (b ∷ bs) → b ≢ 48
    first [] k e = omega (arith, k.number)
    first (c ∷ bs) k e = k.no_leading_zero (omega arith) e

    number_is : denotes 0 ((b ∷ bs) ++ (digit d ∷ [])) ≡ m * 10 + d
    number_is = denotes_append 0 (b ∷ bs) (digit d ∷ []) ∙ (ap (λ (a : ℕ). a * 10 + (digit d - 48)) k.number ∙ omega arith)

is_decimal : (n : ℕ) → IsDecimal n (decimal n)
is_decimal =
    by_digits (λ n. IsDecimal n (decimal n))
    (λ n h. rw (decimal_small n h) (one_digit n h))
    (λ n h ih. rw (decimal_more n h)
    (subst (λ (m : ℕ). IsDecimal m (decimal (n / 10) ++ (digit (n % 10) ∷ []))) (omega arith)
    (more_digits (n / 10) (n % 10) (decimal (n / 10)) (omega arith) (omega arith) ih)))

-- ---- and the only one

-- digits behind a number of 1 or more stand behind its decimal
grows : (a : ℕ) (bs : List ℕ) → 1 ≤ a → ((b : ℕ) → In b bs → (48 ≤ b) × (b ≤ 57)) → decimal (denotes a bs) ≡ decimal a ++ bs
unfolding denotes
grows a [] h k = sym (append-nil (decimal a))
grows a (b ∷ bs) h k =
    let low = k b (inl refl) in
    grows (a * 10 + (b - 48)) bs (omega arith) (λ c i. k c (inr i))
    ∙ (ap (λ (l : List ℕ). l ++ bs) (next a b h low.0 low.1) ∙ append_assoc (decimal a) (b ∷ []) bs)
  where
    next : (a b : ℕ) → 1 ≤ a → 48 ≤ b → b ≤ 57 → decimal (a * 10 + (b - 48)) ≡ decimal a ++ (b ∷ [])
    next a b h l m =
        decimal_more (a * 10 + (b - 48)) (omega arith)
        ∙ (ap (λ (q : ℕ). decimal q ++ (digit ((a * 10 + (b - 48)) % 10) ∷ [])) {x = (a * 10 + (b - 48)) / 10} {y = a} (omega arith)
        ∙ ap (λ (q : ℕ). decimal a ++ (q ∷ [])) {x = digit ((a * 10 + (b - 48)) % 10)} {y = b} (omega arith))

the_only : (n : ℕ) (bs : List ℕ) → IsDecimal n bs → bs ≡ decimal n
unfolding denotes
the_only n [] k = absurd (omega (arith, k.some))
the_only n (b ∷ []) k =
    let low = k.digits b (inl refl) in
    sym (ap decimal (sym k.number)
    ∙ (decimal_small (0 * 10 + (b - 48)) (omega arith) ∙ ap (λ (q : ℕ). q ∷ []) {x = digit (0 * 10 + (b - 48))} {y = b} (omega arith)))
the_only n (b ∷ c ∷ bs) k =
    let low = k.digits b (inl refl) in
    let not_zero : b ≢ 48 = k.no_leading_zero (omega arith) in
    sym (ap decimal (sym k.number)
    ∙ (grows (0 * 10 + (b - 48)) (c ∷ bs) (least b low.0 not_zero) (λ d i. k.digits d (inr i))
    ∙ (ap (λ (l : List ℕ). l ++ (c ∷ bs)) (decimal_small (0 * 10 + (b - 48)) (omega arith))
    ∙ ap (λ (q : ℕ). q ∷ c ∷ bs) {x = digit (0 * 10 + (b - 48))} {y = b} (omega arith))))
  where
    least : (b : ℕ) → 48 ≤ b → b ≢ 48 → 1 ≤ 0 * 10 + (b - 48)
    least b l h = omega arith

pub decimals : Decimals
unfolding signed
decimals =
    record {
      decimal_is = is_decimal;
      only = the_only;
      signed_pos = λ n. refl;
      signed_neg = λ n. refl;
    }

pub decimal_rows : DecimalExamples
unfolding decimal digits_in
decimal_rows =
    record {
      zero = refl;
      seven = refl;
      ten = refl;
      hundreds = refl;
      most = refl;
    }
