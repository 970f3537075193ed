-- Laws of the ones count: a direction's ones under the mask of the dimensions with a count above 1 are its hops.
use Prim.Native.Nat.{ℕ, zero, suc, ◌+◌, ◌*◌, ◌/◌, ◌%◌, ◌≤◌, ◌<◌, min}
use mathlib.Core.Path.{◌≡◌, refl, sym, ap, ◌∙◌}
use mathlib.Core.Logic.{◌⊎◌, inl, inr}
use mathlib.Core.Bool.{Bool, true, false}
use mathlib.Core.List.{List}
use native.Mathlib.Nat.{mod-lt, mul-add-div_right, mul-add-mod_self_right, div-eq_of_lt, mod-eq_of_lt}
use native.Mathlib.Numerals.{add-one}
use native.Mathlib.Omega.{arith}
use lib.ListN.{length, get_or, take}
use lib.Seq.{get_or-take, length-take-le}
use lib.Dec.{ltb, eqb}
use borrow.Author.Tests.{lt-ltb, le-ltb}
use lib.Bits.{bit_and, and_zero_r, and_step}
use lib.Count.{ones, ones_cat}
use Rattle.base.specs.Tests.{◌and◌, one, sum}
use Rattle.base.proofs.Tests.{one_true, one_false, sum_same}
use Rattle.nest.specs.declared.Nest.{Nest}
use Rattle.nest.specs.Nest.{processor_count}
use Rattle.nest.specs.Places.{rank, place}
use Rattle.plan.specs.Messages.{two, ahead}
use Rattle.plan.specs.Hops.{hops}
use Rattle.nest.proofs.Rank.{place_last, place_before, rank_low}
use Rattle.plan.proofs.Homes.{hops_ones}
use Rattle.layout.proofs.Cells.{two_few}
use Rattle.summary.specs.Summary.{many}

-- ---- a bit

one_low : (t : Bool) → one t < 2
unfolding one
one_low true = omega arith
one_low false = omega arith

ones_bit : (b : ℕ) → b < 2 → ones b ≡ b
unfolding ones
ones_bit zero h = refl
ones_bit (suc zero) h = refl
ones_bit (suc (suc b)) h = absurd (omega arith)

-- both bits are set
both_bits : (b : ℕ) (t : Bool) → b < 2 → min b (one t) ≡ one (eqb b 1 and t)
unfolding one ◌and◌
both_bits zero true h = refl
both_bits zero false h = refl
both_bits (suc zero) true h = refl
both_bits (suc zero) false h = refl
both_bits (suc (suc b)) t h = absurd (omega arith)

-- ---- as many as the components that are 1 both in the number and in the mask

module _ (f : ℕ → Bool) where
  mask : ℕ → ℕ
  mask l = rank two (λ j. one (f j)) l

  mask_half : (l : ℕ) → mask (suc l) / 2 ≡ mask l
  unfolding rank mask
  mask_half l = omega (arith, mul-add-div_right {m = 2} (omega arith) (mask l) (one (f l)), div-eq_of_lt (one_low (f l)))

  mask_odd : (l : ℕ) → mask (suc l) % 2 ≡ one (f l)
  unfolding rank mask
  mask_odd l = mul-add-mod_self_right (mask l) 2 (one (f l)) ∙ mod-eq_of_lt (one_low (f l))

  ones_masked : (l v : ℕ) → ones (bit_and v (mask l)) ≡ sum (λ q. one (eqb (place two l v q) 1 and f q)) l
  unfolding rank sum mask
  ones_masked zero v = ap ones (and_zero_r v) ∙ ones_bit 0 (omega arith)
  ones_masked (suc l) v =
      ap ones (and_step v (mask (suc l)))
      ∙ ap (λ (a : ℕ). ones (bit_and (v / 2) a * 2 + min (v % 2) (mask (suc l) % 2))) (mask_half l)
      ∙ ap (λ (a : ℕ). ones (bit_and (v / 2) (mask l) * 2 + min (v % 2) a)) (mask_odd l)
      ∙ ap (λ (a : ℕ). ones (bit_and (v / 2) (mask l) * 2 + a)) bit
      ∙ ones_cat 1 (bit_and (v / 2) (mask l)) (one (eqb (v % 2) 1 and f l)) (one_low (eqb (v % 2) 1 and f l))
      ∙ ap (λ (a : ℕ). ones (bit_and (v / 2) (mask l)) + a) (ones_bit _ (one_low (eqb (v % 2) 1 and f l)))
      ∙ ap (λ (a : ℕ). a + one (eqb (v % 2) 1 and f l)) (ones_masked l (v / 2) ∙ sum_same _ _ l before)
      ∙ ap (λ (a : ℕ). sum (λ q. one (eqb (place two (suc l) v q) 1 and f q)) l + one (eqb a 1 and f l)) (sym (place_last two l v))
    where
      bit : min (v % 2) (one (f l)) ≡ one (eqb (v % 2) 1 and f l)
      bit = both_bits (v % 2) (f l) (mod-lt v (omega arith))

      before : (q : ℕ) → q < l → one (eqb (place two l (v / 2) q) 1 and f q) ≡ one (eqb (place two (suc l) v q) 1 and f q)
      before q h = ap (λ (a : ℕ). one (eqb a 1 and f q)) (sym (place_before two l v q h))

pub hops_masked : (x : Nest) (v k : ℕ) → k ≡ rank two (many x) x.spread → ones (bit_and v k) ≡ hops x v
unfolding ahead mask
hops_masked x v k e = ap (λ (a : ℕ). ones (bit_and v a)) e ∙ (ones_masked (λ j. ltb 1 (processor_count x j)) x.spread v ∙ sym (hops_ones x v))

-- ---- making the mask: the dimensions before j

pub record Masking (counts : List ℕ) (n k j : ℕ) : Type 0 where
  pub low : j ≤ n
  pub is : k ≡ rank two (λ i. one (ltb 1 (get_or counts i 0))) j

module _ (counts : List ℕ) (n : ℕ) where
  pub masking_none : Masking counts n 0 0
  unfolding rank
  masking_none = record { low = omega arith; is = refl }

  pub masking_few : n ≤ 3 → (k j : ℕ) → Masking counts n k j → k < 8
  masking_few h k j m =
      omega (arith, m.is, rank_low two (λ i. one (ltb 1 (get_or counts i 0))) j (λ i l. one_low (ltb 1 (get_or counts i 0))), two_few j (omega (arith, m.low)))

  pub masking_more : n ≤ length counts → (k j k' : ℕ) → Masking counts n k j → j < length (take n counts)
      → ((1 < get_or (take n counts) j 0) × (k' ≡ k * 2 + 1)) ⊎ ((get_or (take n counts) j 0 ≤ 1) × (k' ≡ k * 2)) → Masking counts n k' (j + 1)
  unfolding rank
  masking_more long k j k' m h o = go (omega (arith, length-take-le n counts long)) o
    where
      go : j < n → ((1 < get_or (take n counts) j 0) × (k' ≡ k * 2 + 1)) ⊎ ((get_or (take n counts) j 0 ≤ 1) × (k' ≡ k * 2)) → Masking counts n k' (j + 1)
      go l (inl (q, e)) =
          record {
            low = omega arith;
            is = rw (add-one j) (omega (arith, m.is, one_true (lt-ltb 1 (get_or counts j 0) (rw (get_or-take n counts j 0 l) at q))));
          }
      go l (inr (q, e)) =
          record {
            low = omega arith;
            is = rw (add-one j) (omega (arith, m.is, one_false (le-ltb 1 (get_or counts j 0) (rw (get_or-take n counts j 0 l) at q))));
          }

  pub masking_end : n ≤ length counts → (k j : ℕ) → Masking counts n k j → length (take n counts) ≤ j → k ≡ rank two (λ i. one (ltb 1 (get_or counts i 0))) n
  masking_end long k j m h =
      let e : j ≡ n = omega (arith, m.low, length-take-le n counts long) in
      m.is ∙ ap (rank two (λ i. one (ltb 1 (get_or counts i 0)))) e
