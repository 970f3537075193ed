-- A word without a space or a line feed, followed by one of them, is told from what follows it in one way only.
use Prim.Native.Nat.{ℕ, ◌≤◌}
use mathlib.Core.Path.{◌≡◌, refl}
use mathlib.Core.List.{List, [], ◌∷◌, ◌++◌, append_assoc}
use native.Mathlib.Omega.{arith}
use Rattle.text.specs.Grid.{space, feed, head_line}
use Rattle.text.proofs.Decimals.{Plain}

-- it starts with a space or a line feed
abbrev pub Parted : List ℕ → Type 0
Parted [] = ⊥
Parted (b ∷ bs) = b ≤ 32

pub split : (a b s t : List ℕ) → Plain a → Plain b → Parted s → Parted t → a ++ s ≡ b ++ t → (a ≡ b) × (s ≡ t)
split [] [] s t p q m n e = (refl, e)
split [] (y ∷ b) [] t p q m n e = absurd m
split [] (y ∷ b) (x ∷ s) t p q m n e = let h : x ≡ y = cc in absurd (omega arith)
split (x ∷ a) [] s [] p q m n e = absurd n
split (x ∷ a) [] s (y ∷ t) p q m n e = let h : x ≡ y = cc in absurd (omega arith)
split (x ∷ a) (y ∷ b) s t p q m n e =
    let h : x ≡ y = cc in
    let r : a ++ s ≡ b ++ t = cc in
    let i = split a b s t p.1 q.1 m n r in
    let u : a ≡ b = i.0 in
    (cc, i.1)

pub cut_same : (a s t : List ℕ) → a ++ s ≡ a ++ t → s ≡ t
cut_same [] s t e = e
cut_same (x ∷ a) s t e = cut_same a s t cc

-- a line's name is the same: so are its value and what follows the line
pub head_split : (name v w s t : List ℕ) → Plain v → Plain w → head_line name v ++ s ≡ head_line name w ++ t → (v ≡ w) × (s ≡ t)
unfolding head_line
head_split name v w s t p q e =
    let e₁ : name ++ (space ∷ (v ++ (feed ∷ s))) ≡ name ++ (space ∷ (w ++ (feed ∷ t))) = simp append_assoc at e in
    let e₂ : space ∷ (v ++ (feed ∷ s)) ≡ space ∷ (w ++ (feed ∷ t)) = cut_same name _ _ e₁ in
    let e₃ : v ++ (feed ∷ s) ≡ w ++ (feed ∷ t) = cc in
    let r = split v w (feed ∷ s) (feed ∷ t) p q (omega arith) (omega arith) e₃ in
    let r₁ : feed ∷ s ≡ feed ∷ t = r.1 in
    (r.0, cc)
