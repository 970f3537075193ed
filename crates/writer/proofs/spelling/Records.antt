-- The records that the code makes, over plain variables.
use Prim.Native.Nat.{ℕ, ◌+◌, ◌*◌, ◌/◌, ◌%◌}
use mathlib.Core.Path.{◌≡◌, refl, ◌∙◌}
use native.Mathlib.Omega.{arith}
use mathlib.Core.List.{◌∷◌}
use lib.ListN.{replicate}
use Rattle.nest.specs.Encode.{low, high, dimension_record, narrow_record, wide_record, bound_record, close_record}

pub dimension_made : (l t p a b c d e f : ℕ) → a ≡ low l → b ≡ high l → c ≡ low t → d ≡ high t → e ≡ low p → f ≡ high p
    → 1 ∷ 0 ∷ a ∷ b ∷ c ∷ d ∷ e ∷ f ∷ replicate 8 0 ≡ dimension_record l t p
unfolding dimension_record
dimension_made l t p a b c d e f e1 e2 e3 e4 e5 e6 = rw (e1, e2, e3, e4, e5, e6) refl

pub narrow_made : (d1 d2 d3 d4 w a b c d e f : ℕ) → a ≡ low d1 → b ≡ low d2 → c ≡ low d3 → d ≡ low d4 → e ≡ low w → f ≡ high w
    → 2 ∷ 0 ∷ a ∷ b ∷ c ∷ d ∷ e ∷ f ∷ replicate 8 0 ≡ narrow_record d1 d2 d3 d4 w
unfolding narrow_record
narrow_made d1 d2 d3 d4 w a b c d e f e1 e2 e3 e4 e5 e6 = rw (e1, e2, e3, e4, e5, e6) refl

pub wide_made : (d1 d2 d3 d4 w a b c d e f g h k l : ℕ) → a ≡ low d1 → b ≡ high d1 → c ≡ low d2 → d ≡ high d2 → e ≡ low d3 → f ≡ high d3
    → g ≡ low d4 → h ≡ high d4 → k ≡ low w → l ≡ high w
    → 4 ∷ 0 ∷ a ∷ b ∷ c ∷ d ∷ e ∷ f ∷ g ∷ h ∷ k ∷ l ∷ replicate 4 0
    ≡ wide_record d1 d2 d3 d4 w
unfolding wide_record
wide_made d1 d2 d3 d4 w a b c d e f g h k l e1 e2 e3 e4 e5 e6 e7 e8 e9 e10 = rw (e1, e2, e3, e4, e5, e6, e7, e8, e9, e10) refl

pub close_made : (s v a b c d e : ℕ) → a ≡ low s → b ≡ low v → c ≡ high v → d ≡ low (v / 65536) → e ≡ high (v / 65536)
    → 3 ∷ a ∷ 0 ∷ 0 ∷ b ∷ c ∷ d ∷ e ∷ replicate 8 0 ≡ close_record s v
unfolding close_record
close_made s v a b c d e e1 e2 e3 e4 e5 = rw (e1, e2, e3, e4, e5) refl

wraps : (a b q : ℕ) → a ≡ 256 * q + b → b % 256 ≡ a % 256
wraps a b q e = omega arith

pub bound_made : (s d p v w a b c e f g : ℕ) → a ≡ low s → b ≡ low d → c ≡ low p → e ≡ low (v % 256 + 255) → f ≡ low (w % 65536 + 32768) → g ≡ high
    (w % 65536 + 32768)
    → 5 ∷ a ∷ b ∷ c ∷ e ∷ 0 ∷ f ∷ g ∷ replicate 8 0 ≡ bound_record s d p v w
unfolding bound_record
bound_made s d p v w a b c e f g e1 e2 e3 e4 e5 e6 =
    let q1 : low (v % 256 + 255) ≡ low (v + 255) = omega arith in
    let q2 : low (w % 65536 + 32768) ≡ low (w + 32768) = omega arith in
    let q3 : high (w % 65536 + 32768) ≡ high (w + 32768) = wraps ((w + 32768) / 256) ((w % 65536 + 32768) / 256) (w / 65536) (omega arith) in
    rw (e1, e2, e3, e4 ∙ q1, e5 ∙ q2, e6 ∙ q3) refl
