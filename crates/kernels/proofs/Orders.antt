-- Stores one after the other.
use Prim.Native.Nat.{ℕ}
use mathlib.Core.Path.{◌≡◌, refl, ap, ◌∙◌}
use mathlib.Core.Logic.{inl, inr}
use mathlib.Core.List.{List, [], ◌∷◌, ◌++◌}
use lib.ListN.{set}
use Rattle.base.specs.Lists.{In, store_all}

pub store_append : (f : List ℕ → ℕ → ℕ) (l a b : List ℕ) → store_all f l (a ++ b) ≡ store_all f (store_all f l a) b
unfolding store_all
store_append f l [] b = refl
store_append f l (p ∷ a) b = store_append f (set l p (f l p)) a b

-- by a value that is the same at each of the cells
pub store_same : (f g : List ℕ → ℕ → ℕ) (cs l : List ℕ) → ((m : List ℕ) (c : ℕ) → In c cs → f m c ≡ g m c) → store_all f l cs ≡ store_all g l cs
unfolding store_all
store_same f g [] l h = refl
store_same f g (c ∷ cs) l h = store_same f g cs (set l c (f l c)) (λ m p i. h m p (inr i)) ∙ ap (λ (v : ℕ). store_all g (set l c v) cs) (h l c (inl refl))
