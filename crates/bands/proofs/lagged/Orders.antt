-- Stores in another order: where each cell's value reads none of the cells still to be stored, the memory ends the same.
-- No store is moved past another: the memory in index order is the target, and each store writes the target's word.
use Prim.Native.Nat.{ℕ, ◌<◌}
use mathlib.Core.Path.{◌≡◌, refl, sym, ◌∙◌}
use mathlib.Core.Logic.{inl, inr, ◌≢◌}
use mathlib.Core.List.{List, [], ◌∷◌}
use native.Mathlib.Decide.{ℕ_discrete}
use native.Mathlib.Omega.{arith}
use lib.ListN.{length, get_or, set, length-set}
use lib.Seq.{get_or-set_same, get_or-set_other, ext_get_or}
use Rattle.base.specs.Lists.{In, Rising, store_all}
use Rattle.base.proofs.Lists.{AllBelow}

-- a cell that is not stored keeps its word
pub store_other : (f : List ℕ → ℕ → ℕ) (cs m : List ℕ) (z : ℕ) → (In z cs → ⊥) → get_or (store_all f m cs) z 0 ≡ get_or m z 0
unfolding store_all
store_other f [] m z h = refl
store_other f (c ∷ cs) m z h = store_other f cs (set m c (f m c)) z (λ k. h (inr k)) ∙ get_or-set_other m c z (f m c) 0 (λ k. h (inl k))

-- what a value owes: it depends on the cells that it reads alone, and they come before it
pub record Causal (f : List ℕ → ℕ → ℕ) (reads : ℕ → List ℕ) (n : ℕ) : Type 0 where
  pub local : (m k : List ℕ) (c : ℕ) → c < n → ((r : ℕ) → In r (reads c) → get_or m r 0 ≡ get_or k r 0) → f m c ≡ f k c
  pub earlier : (c r : ℕ) → c < n → In r (reads c) → r < c

module _ (f : List ℕ → ℕ → ℕ) (reads : ℕ → List ℕ) (n : ℕ) (causal : Causal f reads n) where
  -- in index order, each cell stored is the value that the memory at the end gives it
  pub store_fixed : (cs m : List ℕ) (c : ℕ) → Rising cs → AllBelow n cs → AllBelow (length m) cs → In c cs → get_or (store_all f m cs) c 0 ≡ f (store_all f m cs) c
  unfolding store_all
  store_fixed [] m c s b l i = absurd i
  store_fixed (p ∷ cs) m c s b l (inl e) =
      rw e
      (store_other f cs (set m p (f m p)) p (λ k. let z = s.0 p k in omega arith)
      ∙ get_or-set_same m p (f m p) 0 (l p (inl refl))
      ∙ causal.local m (store_all f (set m p (f m p)) cs) p (b p (inl refl)) kept)
    where
      kept : (r : ℕ) → In r (reads p) → get_or m r 0 ≡ get_or (store_all f (set m p (f m p)) cs) r 0
      kept r k =
          let z = causal.earlier p r (b p (inl refl)) k in
          sym (store_other f cs (set m p (f m p)) r (λ i. let y = s.0 r i in omega arith) ∙ get_or-set_other m p r (f m p) 0 (λ i. omega arith))
  store_fixed (p ∷ cs) m c s b l (inr i) =
      store_fixed cs (set m p (f m p)) c s.1 (λ y k. b y (inr k)) (λ y k. rw length-set (l y (inr k))) i

-- ---- towards a target memory

-- the word is the target's wherever the cell is not still to be stored
pub record Right (fin m : List ℕ) (left : ℕ → Type 0) : Type 0 where
  pub long : length m ≡ length fin
  pub is : (z : ℕ) → (left z → ⊥) → get_or m z 0 ≡ get_or fin z 0

module _ (fin m : List ℕ) (left : ℕ → Type 0) (s : Right fin m left) where
  -- a store of the target's word leaves one cell fewer
  pub right_store : (left' : ℕ → Type 0) (c v : ℕ) → c < length fin → v ≡ get_or fin c 0 → ((z : ℕ) → z ≢ c → left z → left' z) → Right fin (set m c v) left'
  right_store left' c v l e h = record { long = length-set m c v ∙ s.long; is = λ z k. go z k (ℕ_discrete z c) }
    where
      go : (z : ℕ) → (left' z → ⊥) → Dec (z ≡ c) → get_or (set m c v) z 0 ≡ get_or fin z 0
      go z k (yes q) = rw q (get_or-set_same m c v 0 (omega (arith, s.long)) ∙ e)
      go z k (no q) = get_or-set_other m c z v 0 q ∙ s.is z (λ i. k (h z q i))

  pub right_end : ((z : ℕ) → z < length fin → left z → ⊥) → m ≡ fin
  right_end h = ext_get_or 0 m fin s.long (λ z k. s.is z (h z (omega (arith, s.long))))
