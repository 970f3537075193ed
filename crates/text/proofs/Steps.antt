-- What the writers' proofs cite: each step of the code over plain variables.
use Prim.Native.Nat.{ℕ, zero, suc, ◌+◌, ◌/◌, ◌%◌, ◌≤◌, ◌<◌}
use mathlib.Core.Path.{◌≡◌, refl, sym, ap, ◌∙◌}
use mathlib.Core.List.{List, [], ◌∷◌, ◌++◌}
use native.Mathlib.Omega.{arith}
use native.Mathlib.Numerals.{add-one}
use lib.IntN.{ℤ, pos, negsuc, nat_abs}
use lib.Signed.{lt_z, non_neg, nat_abs-le}
use lib.Dec.{T, lit<}
use mathlib.Core.Bool.{Bool, true, false, true≢false}
use mir.Syntax.{w32}
use mir.Val.{Fits, SFits, to_z, of_z}
use mir.ValLaws.{to_z-of_z}
use borrow.Author.Tests.{ltb-true}
use native.Mathlib.Nat.{lt_of_le_of_lt}
use lib.ListN.{length, get_or, drop, length-append}
use lib.Seq.{drop-cons, drop-nil}
use Rattle.text.specs.Decimal.{decimal, signed}
use Rattle.text.specs.Writing.{Pen, pen, write}
use Rattle.text.proofs.Decimals.{decimal_small, decimal_more}
use Rattle.text.proofs.Pens.{next, room, write_at, write_both, write_none}

abbrev pub most : ℕ
most = 4294967295

-- ---- decimals

module _ (n : ℕ) (h : n < 10) where
  pub small_room : (p : ℕ) → p + length (decimal n) ≤ most → p + 1 ≤ most
  small_room p r = rw (decimal_small n h) at r

  pub small_done : (u w : Pen) → u ≡ write w ((48 + n) ∷ []) → u ≡ write w (decimal n)
  small_done u w e = rw (decimal_small n h) e

module _ (n : ℕ) (h : 10 ≤ n) (p : ℕ) (r : p + length (decimal n) ≤ most) where
  both_room : p + length (decimal (n / 10) ++ ((48 + n % 10) ∷ [])) ≤ most
  both_room = rw (decimal_more n h) at r

  pub high_room : p + length (decimal (n / 10)) ≤ most
  high_room = omega (arith, both_room, length-append (decimal (n / 10)) ((48 + n % 10) ∷ []))

  module _ (q : ℕ) (s t : List ℕ) (e : pen q t ≡ write (pen p s) (decimal (n / 10))) where
    pub last_room : q + 1 ≤ most
    last_room = room p q most s t (decimal (n / 10)) ((48 + n % 10) ∷ []) e both_room

    pub last_done : (u : Pen) → u ≡ write (pen q t) ((48 + n % 10) ∷ []) → u ≡ write (pen p s) (decimal n)
    last_done u f = rw (decimal_more n h) (next (pen q t) (pen p s) u (decimal (n / 10)) ((48 + n % 10) ∷ []) e f)

-- ---- loops: what is left to write at the place gives what the whole gives at the start

pub record Going (space₀ : List ℕ) (start : ℕ) (text space : List ℕ) (place : ℕ) (left : List ℕ) : Type 0 where
  pub same : write (pen place space) left ≡ write (pen start space₀) text
  pub fits : place + length left ≤ most
  pub long : length space ≡ length space₀

module _ (s : List ℕ) (p : ℕ) (text : List ℕ) where
  pub going_start : p + length text ≤ most → Going s p text s p text
  going_start r = record { same = refl; fits = r; long = refl }

  module _ (t : List ℕ) (q : ℕ) (left a b : List ℕ) (is : left ≡ a ++ b) (g : Going s p text t q left) where
    pub going_fits : q + length a ≤ most
    going_fits = let r : q + length (a ++ b) ≤ most = rw is at g.fits in omega (arith, length-append a b)

    pub going_on : (u : List ℕ) (v : ℕ) → pen v u ≡ write (pen q t) a → length u ≡ length t → Going s p text u v b
    going_on u v e l =
        record {
          same = ap (λ (w : Pen). write w b) e ∙ sym (write_both (pen q t) a b) ∙ ap (write (pen q t)) (sym is) ∙ g.same;
          fits = room q v most t u a b e (rw is at g.fits);
          long = l ∙ g.long;
        }

  module _ (t : List ℕ) (q : ℕ) (left : List ℕ) (g : Going s p text t q left) where
    pub going_done : (u : Pen) (a : List ℕ) → left ≡ a → u ≡ write (pen q t) a → u ≡ write (pen p s) text
    going_done u a is e = e ∙ ap (write (pen q t)) (sym is) ∙ g.same

    pub going_over : left ≡ [] → pen q t ≡ write (pen p s) text
    going_over is = going_done (pen q t) [] is (sym (write_none (pen q t)))

pub bytes_left : (l : List ℕ) (i : ℕ) → i < length l → drop i l ≡ (get_or l i 0 ∷ []) ++ drop (i + 1) l
bytes_left l i h = rw (add-one, drop-cons l i 0)

pub bytes_none : (l : List ℕ) (i : ℕ) → length l ≤ i → drop i l ≡ []
bytes_none [] i h = drop-nil i
bytes_none (x ∷ l) zero h = absurd (omega arith)
bytes_none (x ∷ l) (suc i) h = bytes_none l i (omega arith)

-- ---- one text from its parts: a ++ (b ++ ..), each part written by a call

-- what is left after a part is written
pub record Run (w : Pen) (text : List ℕ) (v : Pen) (left : List ℕ) : Type 0 where
  pub same : write v left ≡ write w text
  pub fits : v.at + length left ≤ most

pub run_start : (w : Pen) (text : List ℕ) → w.at + length text ≤ most → Run w text w text
run_start w text r = record { same = refl; fits = r }

pub run_fits : {w v : Pen} {text : List ℕ} (a b : List ℕ) → Run w text v (a ++ b) → v.at + length a ≤ most
run_fits a b g = omega (arith, length-append a b, g.fits)

pub run_on : {w v : Pen} {text : List ℕ} (a b : List ℕ) → Run w text v (a ++ b) → (u : Pen) → u ≡ write v a → Run w text u b
run_on {v = v} a b g u e =
    let q : u.at ≡ v.at + length a = ap (λ (z : Pen). z.at) e ∙ write_at v a in
    record {
      same = ap (λ (z : Pen). write z b) e ∙ sym (write_both v a b) ∙ g.same;
      fits = omega (arith, length-append a b, g.fits);
    }

pub run_done : {w v : Pen} {text : List ℕ} (a : List ℕ) → Run w text v a → (u : Pen) → u ≡ write v a → u ≡ write w text
run_done a g u e = e ∙ g.same

-- ---- a number of either sign in two parts; y is z, as the machine reads it back

module _ (z : ℤ) (f : SFits w32 z) where
  read_back : to_z w32 (of_z w32 z) ≡ z
  read_back = to_z-of_z w32 z f

  reads_negative : {t : Bool} → lt_z (to_z w32 (of_z w32 z)) (pos 0) ≡ t → lt_z z (pos 0) ≡ t
  reads_negative e = rw read_back at e

  negative_is : (y : ℤ) → lt_z y (pos 0) ≡ true → signed y ≡ (45 ∷ []) ++ decimal (nat_abs y)
  unfolding signed
  negative_is (pos n) e = absurd (omega (arith, ltb-true n 0 e))
  negative_is (negsuc n) e = refl

  positive_is : (y : ℤ) → lt_z y (pos 0) ≡ false → (signed y ≡ decimal (nat_abs y)) × (y ≡ pos (nat_abs y))
  unfolding signed
  positive_is (pos n) e = (refl, refl)
  positive_is (negsuc n) e = absurd (true≢false e)

  module _ (w : Pen) (r : w.at + length (signed z) ≤ most) where
    module _ (neg : lt_z (to_z w32 (of_z w32 z)) (pos 0) ≡ true) (k : ℕ) (ek : k ≡ nat_abs (to_z w32 (of_z w32 z))) where
      sign_start : Run w (signed z) w ((45 ∷ []) ++ decimal k)
      sign_start = rw (ek, read_back) (rw (sym (negative_is z (reads_negative neg))) (run_start w (signed z) r))

      pub sign_minus : w.at + 1 ≤ most
      sign_minus = run_fits (45 ∷ []) (decimal k) sign_start

      module _ (w₁ : Pen) (e₁ : w₁ ≡ write w (45 ∷ [])) where
        sign_one : Run w (signed z) w₁ (decimal k)
        sign_one = run_on (45 ∷ []) (decimal k) sign_start w₁ e₁

        pub sign_rest : w₁.at + length (decimal k) ≤ most
        sign_rest = sign_one.fits

        pub sign_done : (u : Pen) → u ≡ write w₁ (decimal k) → u ≡ write w (signed z)
        sign_done u g = run_done (decimal k) sign_one u g

    module _ (not_neg : lt_z (to_z w32 (of_z w32 z)) (pos 0) ≡ false) where
      pub plain_room : w.at + length (decimal (nat_abs (to_z w32 (of_z w32 z)))) ≤ most
      plain_room = rw read_back (rw (positive_is z (reads_negative not_neg)).0 at r)

      pub plain_done : (u : Pen) → u ≡ write w (decimal (nat_abs (to_z w32 (of_z w32 z)))) → u ≡ write w (signed z)
      plain_done u g = rw (positive_is z (reads_negative not_neg)).0 (rw read_back at g)

  pub plain_cast : lt_z (to_z w32 (of_z w32 z)) (pos 0) ≡ false → T (non_neg (to_z w32 (of_z w32 z))) × Fits w32 (nat_abs (to_z w32 (of_z w32 z)))
  plain_cast e = rw (read_back, (positive_is z (reads_negative e)).1) (tt, record { fits = lt_of_le_of_lt (nat_abs-le z f.sfits) (lit< tt) })
