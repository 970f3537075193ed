-- Laws of a number in four bytes: each return over plain variables.
use Prim.Native.Nat.{ℕ, ◌+◌, ◌*◌, ◌≤◌, ◌<◌}
use mathlib.Core.Path.{◌≡◌, refl, sym, ap, ◌∙◌}
use mathlib.Core.List.{List}
use native.Mathlib.Omega.{arith}
use lib.ListN.{length, get_or}
use lib.Dec.{ltb}
use borrow.Author.Tests.{lt-ltb, le-ltb}
use Rattle.base.proofs.Tests.{or_left, or_right, or_false, pick_true, pick_false}
use Rattle.base.specs.Bytes.{word}
use Rattle.program_io.specs.Bytes.{word_in}

module _ (l : List ℕ) (at : ℕ) where
  pub far_word : 12 < at → 0 ≡ word_in l at
  unfolding word_in
  far_word h = sym (pick_true _ 0 _ (or_left _ (lt-ltb 12 at h)))

  pub short_word : length l < 16 → 0 ≡ word_in l at
  unfolding word_in
  short_word h = sym (pick_true _ 0 _ (or_right (ltb 12 at) (lt-ltb (length l) 16 h)))

  pub word_is : (a b c d : ℕ) → at ≤ 12 → 16 ≤ length l → a ≡ get_or l at 0 → b ≡ get_or l (at + 1) 0 → c ≡ get_or l (at + 2) 0 → d ≡ get_or l (at + 3) 0
      → a + 256 * b + 65536 * c + 16777216 * d ≡ word_in l at
  unfolding word_in
  word_is a b c d h k ea eb ec ed = rw (pick_false {A = ℕ} _ 0 _ (or_false (le-ltb 12 at h) (le-ltb (length l) 16 k))) (omega arith)

  -- as `base` reads four bytes
  pub word_whole : at ≤ 12 → 16 ≤ length l → word l at ≡ word_in l at
  word_whole h k =
      let e : get_or l (at + 2 + 1) 0 ≡ get_or l (at + 3) 0 = ap (λ (n : ℕ). get_or l n 0) (omega arith) in
      let s : word l at ≡ get_or l at 0 + 256 * get_or l (at + 1) 0 + 65536 * get_or l (at + 2) 0 + 16777216 * get_or l (at + 3) 0 = omega (arith, e) in
      s ∙ word_is (get_or l at 0) (get_or l (at + 1) 0) (get_or l (at + 2) 0) (get_or l (at + 3) 0) h k refl refl refl refl
