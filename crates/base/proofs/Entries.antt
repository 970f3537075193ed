-- Laws of single words: of a part, of a list with a part replaced, of packing, unpacking, storing and marking.
use Prim.Native.Nat.{ℕ, zero, suc, ◌+◌, ◌-◌, ◌≤◌, ◌<◌}
use mathlib.Core.Path.{◌≡◌, refl, sym, ap, ◌∙◌}
use mathlib.Core.Logic.{◌⊎◌, inl, inr}
use mathlib.Core.List.{List, [], ◌∷◌, ◌++◌}
use native.Mathlib.Nat.{le_of_suc-le-suc}
use native.Mathlib.Decide.{dec_lt, ℕ_discrete}
use native.Mathlib.Omega.{arith}
use lib.ListN.{length, get_or, take, drop, set, length-set, get_or-append}
use lib.Seq.{get_or-take, get_or-drop, get_or-set_same, get_or-set_other, get_or-append-add, length-take-le, set_out}
use Rattle.base.specs.Lists.{In, Rising, sublist, put, set_all, unpack, pack, store_all}
use Rattle.base.proofs.Lists.{AllBelow}

-- ---- a part, and a list with a part replaced

pub part_at : (l : List ℕ) (i n q : ℕ) → q < n → get_or (sublist l i n) q 0 ≡ get_or l (i + q) 0
unfolding sublist
part_at l i n q h = get_or-take n (drop i l) q 0 h ∙ get_or-drop i l q 0

module _ (l : List ℕ) (i : ℕ) (s : List ℕ) (fits : i + length s ≤ length l) where
  head_length : length (take i l) ≡ i
  head_length = length-take-le i l (omega arith)

  pub put_same : (q : ℕ) → q < length s → get_or (put l i s) (i + q) 0 ≡ get_or s q 0
  unfolding put
  put_same q h =
      ap (λ (k : ℕ). get_or (take i l ++ (s ++ drop (length s) (drop i l))) (k + q) 0) (sym head_length)
      ∙ get_or-append-add (take i l) (s ++ drop (length s) (drop i l)) q 0
      ∙ get_or-append s _ 0 q h

  pub put_before : (k : ℕ) → k < i → get_or (put l i s) k 0 ≡ get_or l k 0
  unfolding put
  put_before k h = get_or-append (take i l) _ 0 k (rw head_length h) ∙ get_or-take i l k 0 h

  pub put_after : (k : ℕ) → i + length s ≤ k → get_or (put l i s) k 0 ≡ get_or l k 0
  unfolding put
  put_after k h =
      let r : ℕ = k - (i + length s) in
      let e : k ≡ i + (length s + r) = omega arith in
      ap (λ (z : ℕ). get_or (take i l ++ (s ++ drop (length s) (drop i l))) z 0) (e ∙ ap (λ (z : ℕ). z + (length s + r)) (sym head_length))
      ∙ get_or-append-add (take i l) (s ++ drop (length s) (drop i l)) (length s + r) 0
      ∙ get_or-append-add s (drop (length s) (drop i l)) r 0
      ∙ get_or-drop (length s) (drop i l) r 0
      ∙ get_or-drop i l (length s + r) 0
      ∙ ap (λ (z : ℕ). get_or l z 0) (sym e)

  pub put_rest : (k : ℕ) → (k < i) ⊎ (i + length s ≤ k) → get_or (put l i s) k 0 ≡ get_or l k 0
  put_rest k (inl h) = put_before k h
  put_rest k (inr h) = put_after k h

-- ---- packing and unpacking

pub pack_at : (cs s : List ℕ) (q : ℕ) → q < length cs → get_or (pack s cs) q 0 ≡ get_or s (get_or cs q 0) 0
unfolding pack
pack_at [] s q h = absurd (omega arith)
pack_at (c ∷ cs) s zero h = refl
pack_at (c ∷ cs) s (suc q) h = pack_at cs s q (le_of_suc-le-suc h)

pub at_in : (cs : List ℕ) (q : ℕ) → q < length cs → In (get_or cs q 0) cs
at_in [] q h = absurd (omega arith)
at_in (c ∷ cs) zero h = inl refl
at_in (c ∷ cs) (suc q) h = inr (at_in cs q (le_of_suc-le-suc h))

pub unpack_other : (cs ws s : List ℕ) (c : ℕ) → (In c cs → ⊥) → get_or (unpack s cs ws) c 0 ≡ get_or s c 0
unfolding unpack
unpack_other [] ws s c h = refl
unpack_other (y ∷ cs) [] s c h = refl
unpack_other (y ∷ cs) (w ∷ ws) s c h = unpack_other cs ws (set s y w) c (λ i. h (inr i)) ∙ get_or-set_other s y c w 0 (λ e. h (inl e))

pub unpack_at : (cs ws s : List ℕ) (q : ℕ) → Rising cs → length ws ≡ length cs → AllBelow (length s) cs → q < length cs
    → get_or (unpack s cs ws) (get_or cs q 0) 0 ≡ get_or ws q 0
unfolding unpack
unpack_at [] ws s q up e b h = absurd (omega arith)
unpack_at (c ∷ cs) [] s q up e b h = absurd (omega arith)
unpack_at (c ∷ cs) (w ∷ ws) s zero up e b h =
    unpack_other cs ws (set s c w) c (λ i. let z = up.0 c i in absurd (omega arith)) ∙ get_or-set_same s c w 0 (b c (inl refl))
unpack_at (c ∷ cs) (w ∷ ws) s (suc q) up e b h =
    unpack_at cs ws (set s c w) q up.1 (omega arith) (λ y k. rw length-set (b y (inr k))) (le_of_suc-le-suc h)

-- ---- storing

pub store_other : (f : List ℕ → ℕ → ℕ) (cs s : List ℕ) (c : ℕ) → (In c cs → ⊥) → get_or (store_all f s cs) c 0 ≡ get_or s c 0
unfolding store_all
store_other f [] s c h = refl
store_other f (y ∷ cs) s c h = store_other f cs (set s y (f s y)) c (λ i. h (inr i)) ∙ get_or-set_other s y c (f s y) 0 (λ e. h (inl e))

pub store_append : (f : List ℕ → ℕ → ℕ) (s a b : List ℕ) → store_all f s (a ++ b) ≡ store_all f (store_all f s a) b
unfolding store_all
store_append f s [] b = refl
store_append f s (c ∷ a) b = store_append f (set s c (f s c)) a b

-- ---- marking: a word that is not 0 stays so

pub set_pos : (l : List ℕ) (c v x : ℕ) → 1 ≤ v → 1 ≤ get_or l x 0 → 1 ≤ get_or (set l c v) x 0
set_pos l c v x h k = go (ℕ_discrete x c) (dec_lt c (length l))
  where
    go : Dec (x ≡ c) → Dec (c < length l) → 1 ≤ get_or (set l c v) x 0
    go (no n) d = rw (get_or-set_other l c x v 0 n) k
    go (yes e) (yes d) = rw (e, get_or-set_same l c v 0 d) h
    go (yes e) (no d) = rw (set_out l c v (omega arith)) k

pub set_all_pos : (ms l : List ℕ) (v x : ℕ) → 1 ≤ v → 1 ≤ get_or l x 0 → 1 ≤ get_or (set_all l ms v) x 0
unfolding set_all
set_all_pos [] l v x h k = k
set_all_pos (m ∷ ms) l v x h k = set_all_pos ms (set l m v) v x h (set_pos l m v x h k)
