-- Laws of two lists of words that are compared.
use Prim.Native.Nat.{ℕ}
use mathlib.Core.Path.{◌≡◌, refl, sym}
use mathlib.Core.Bool.{Bool, true, false}
use mathlib.Core.List.{List}
use lib.ListN.{length, get_or}
use lib.Dec.{eqb}
use lib.Seq.{ext_get_or}
use borrow.Author.Tests.{eq-eqb, eqb-true}
use Rattle.std.specs.Prelude.{nat_eq}
use Rattle.std.specs.Cmp.Lexicographic.{pointwise, same_text, other_text}
use Rattle.base.specs.Alike.{same_words}
use Rattle.base.proofs.Tests.{both, is_false, and_true, every_all, every_at}

pub same_self : (a : List ℕ) → same_words a a ≡ true
unfolding same_words
same_self a =
    and_true (eq-eqb (length a) (length a) refl) (every_all (λ i. eqb (get_or a i 0) (get_or a i 0)) (length a) (λ i l. eq-eqb (get_or a i 0) (get_or a i 0) refl))

-- areas with the same words are equal
same_list : (a b : List ℕ) → same_words a b ≡ true → a ≡ b
unfolding same_words
same_list a b h =
    let p = both h in
    let n = eqb-true _ _ p.0 in
    ext_get_or 0 a b n (λ i l. eqb-true _ _ (every_at _ (length a) p.1 i l))

-- what comparing them tells
pub equal_is : (a b : List ℕ) (r : Bool) → r ≡ pointwise nat_eq a b → r ≡ same_words a b
equal_is a b true e = rw (same_text a b e) (sym (same_self b))
equal_is a b false e = sym (is_false (λ h. other_text a b e (same_list a b h)))
