-- Laws of the code's loops and small returns, over plain variables.
use Prim.Native.Nat.{ℕ, ◌+◌, ◌-◌, ◌*◌, ◌≤◌, ◌<◌}
use mathlib.Core.Path.{◌≡◌, refl, sym, ap, ◌∙◌}
use mathlib.Core.Bool.{true, false}
use mathlib.Core.List.{List, ◌++◌}
use native.Mathlib.Omega.{arith}
use native.Mathlib.Decide.{dec_lt}
use lib.ListN.{length, get_or, take, drop}
use lib.Seq.{ext_get_or}
use borrow.Rule.Slice.PartMut.{put_mid}
use Rattle.base.specs.Lists.{put}
use Rattle.base.proofs.Lists.{length_put}
use Rattle.base.proofs.Entries.{put_same, put_before, put_after}
use lib.Dec.{ltb}
use borrow.Author.Tests.{lt-ltb, le-ltb}
use Rattle.base.specs.Tests.{pick, every}
use Rattle.base.proofs.Tests.{every_not, pick_true, pick_false}
use Rattle.nest.specs.Reader.{filled}
use Rattle.nest.proofs.Laws.{filled_length, filled_in, filled_out, every_step, every_end}
use Rattle.writer.specs.Writing.{fits_in}

-- ---- bytes that were right up to a place are right a record further

module _ (at : ℕ) (old row : List ℕ) (fits : at + 16 ≤ 272) (n : length row ≡ 16) (f : ℕ → ℕ) (e : old ≡ filled 272 at f)
    (h : (k : ℕ) → k < 16 → get_or row k 0 ≡ f (at + k)) where
  long : length old ≡ 272
  long = ap length e ∙ filled_length 272 f at

  put_is : put_mid at (at + 16 - at) old row ≡ put old at row
  unfolding put
  put_is = let z : at + 16 - at ≡ length row = omega arith in ap (λ (k : ℕ). take at old ++ (row ++ drop k (drop at old))) z

  pub row_laid : put_mid at (at + 16 - at) old row ≡ filled 272 (at + 16) f
  row_laid =
      put_is ∙ ext_get_or 0 (put old at row) (filled 272 (at + 16) f)
      (length_put old at row (omega (arith, long)) ∙ (long ∙ sym (filled_length 272 f (at + 16))))
      (λ i q. place i (dec_lt i at) (dec_lt i (at + 16)))
    where
      place : (i : ℕ) → Dec (i < at) → Dec (i < at + 16) → get_or (put old at row) i 0 ≡ get_or (filled 272 (at + 16) f) i 0
      place i (yes b) d =
          put_before old at row (omega (arith, long)) i b
          ∙ (ap (λ (l : List ℕ). get_or l i 0) e ∙ (filled_in 272 f at i b (omega arith) ∙ sym (filled_in 272 f (at + 16) i (omega arith) fits)))
      place i (no b) (yes d) =
          let z : i ≡ at + (i - at) = omega arith in
          rw z
          (put_same old at row (omega (arith, long)) (i - at) (omega arith)
          ∙ (h (i - at) (omega arith) ∙ sym (filled_in 272 f (at + 16) (at + (i - at)) (omega arith) fits)))
      place i (no b) (no d) =
          put_after old at row (omega (arith, long)) i (omega arith)
          ∙ (ap (λ (l : List ℕ). get_or l i 0) e ∙ (filled_out 272 f at i (omega arith) ∙ sym (filled_out 272 f (at + 16) i (omega arith))))

pub record_next : (r : ℕ) (l : List ℕ) (f : ℕ → ℕ) → l ≡ filled 272 (16 * r + 16) f → l ≡ filled 272 (16 * (r + 1)) f
record_next r l f e = let w : 16 * (r + 1) ≡ 16 * r + 16 = omega arith in rw w e

pub records_end : (r n : ℕ) (l : List ℕ) (f : ℕ → ℕ) → r ≤ n → n ≤ r → l ≡ filled 272 (16 * r) f → l ≡ filled 272 (16 * n) f
records_end r n l f a b e = let w : r ≡ n = omega arith in rw w at e

-- ---- limits

pub limit_in : (i n bound : ℕ) → i < n → bound ≡ pick (ltb i n) bound 1
limit_in i n bound h = sym (pick_true (ltb i n) bound 1 (lt-ltb i n h))

pub limit_out : (i n bound : ℕ) → n ≤ i → 1 ≡ pick (ltb i n) bound 1
limit_out i n bound h = sym (pick_false (ltb i n) bound 1 (le-ltb i n h))

-- every place before i is in its limit
abbrev pub Within : ℕ → ℕ → List ℕ → ℕ → Type 0
Within n bound l i = every (λ k. ltb (get_or l k 0) (pick (ltb k n) bound 1)) i ≡ true

module _ (n bound : ℕ) (l : List ℕ) where
  pub within_start : Within n bound l 0
  unfolding every
  within_start = refl

  pub within_next : (i m : ℕ) → Within n bound l i → m ≡ pick (ltb i n) bound 1 → get_or l i 0 < m → Within n bound l (i + 1)
  within_next i m w e h = every_step _ i w (lt-ltb _ _ (rw e at h))

  pub within_end : (i : ℕ) → i ≤ length l → length l ≤ i → Within n bound l i → true ≡ fits_in n bound l
  unfolding fits_in
  within_end i a b w = sym (every_end _ (length l) i a b w)

  pub without : (i m : ℕ) → i < length l → m ≡ pick (ltb i n) bound 1 → m ≤ get_or l i 0 → false ≡ fits_in n bound l
  unfolding fits_in
  without i m h e q = sym (every_not _ (length l) i h (le-ltb _ _ (rw e at q)))
