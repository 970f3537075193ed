-- Figure 4's loops, one in another: how many places they meet, and the c-th of them.
use Prim.Native.Nat.{ℕ, zero, suc, ◌+◌, ◌*◌, ◌-◌, ◌/◌, ◌%◌, ◌≤◌, ◌<◌}
use mathlib.Core.Path.{◌≡◌, refl, sym, ap, ◌∙◌}
use mathlib.Core.Logic.{◌⊎◌, inl, inr}
use mathlib.Core.List.{List, [], ◌∷◌, ◌++◌, map}
use native.Mathlib.Nat.{div-add-mod', div-lt_iff_lt-mul, eq-or-lt_of_le, le_of_suc-le-suc, mod-lt, mul_comm, suc-mul, zero-mul}
use native.Mathlib.Omega.{arith}
use lib.ListN.{length, get_or, length-append, length-map, get_or-append}
use lib.Seq.{get_or-append-add}
use borrow.Author.Tests.{ne_eqb, eq-eqb}
use Rattle.base.specs.Tests.{product}
use Rattle.base.proofs.Tests.{pick_true, pick_false}
use Rattle.nest.specs.declared.Nest.{Nest}
use Rattle.nest.specs.Places.{place}
use Rattle.plan.specs.Loops.{values, do_loop, tile_loop, for_each, extend, loops}
use Rattle.nest.proofs.Rank.{place_last, place_before}

-- ---- loops over lists

values_length : (s p n : ℕ) → length (values s p n) ≡ n
unfolding values
values_length s p zero = refl
values_length s p (suc n) = ap suc (values_length (s + p) p n)

values_at : (s p n i : ℕ) → i < n → get_or (values s p n) i 0 ≡ s + i * p
unfolding values
values_at s p zero i h = absurd (omega arith)
values_at s p (suc n) zero h = omega (arith, zero-mul p)
values_at s p (suc n) (suc i) h = omega (arith, values_at (s + p) p n i (omega arith), suc-mul i p)

module _ {A B : Type 0} (body : A → List B) (m : ℕ) (h : (a : A) → length (body a) ≡ m) where
  for_each_length : (l : List A) → length (for_each body l) ≡ length l * m
  unfolding for_each
  for_each_length [] = rw zero-mul
  for_each_length (y ∷ l) = length-append (body y) (for_each body l) ∙ omega (arith, h y, for_each_length l, suc-mul (length l) m)

  for_each_at : (l : List A) (q r : ℕ) (d : A) (b : B) → q < length l → r < m → get_or (for_each body l) (q * m + r) b ≡ get_or (body (get_or l q d)) r b
  unfolding for_each
  for_each_at [] q r d b k s = absurd (omega arith)
  for_each_at (y ∷ l) zero r d b k s =
      let e : 0 * m + r ≡ r = omega (arith, zero-mul m) in
      ap (λ (i : ℕ). get_or (body y ++ for_each body l) i b) e ∙ get_or-append (body y) (for_each body l) b r (omega (arith, h y))
  for_each_at (y ∷ l) (suc q) r d b k s =
      let e : suc q * m + r ≡ length (body y) + (q * m + r) = omega (arith, h y, suc-mul q m) in
      ap (λ (i : ℕ). get_or (body y ++ for_each body l) i b) e ∙ get_or-append-add (body y) (for_each body l) (q * m + r) b ∙ for_each_at l q r d b (omega arith) s

pub loop_same : {s t b c p q : ℕ} → s ≡ t → b ≡ c → p ≡ q → do_loop s b p ≡ values t q ((c + q - t) / q)
unfolding do_loop
loop_same e f g = rw (e, f, g)

-- ---- Figure 4's loops, each over n values from f on by s: how many places they meet, and component j of the c-th

pub map_at : {A B : Type 0} (f : A → B) (l : List A) (i : ℕ) (d : A) (e : B) → i < length l → get_or (map f l) i e ≡ f (get_or l i d)
map_at f [] i d e h = absurd (omega arith)
map_at f (y ∷ l) zero d e h = refl
map_at f (y ∷ l) (suc i) d e h = map_at f l i d e (omega arith)

pub pos_left : (a b : ℕ) → 1 ≤ a * b → 1 ≤ a
pos_left zero b h = absurd (omega (arith, zero-mul b))
pos_left (suc a) b h = omega arith

pub pos_right : (a b : ℕ) → 1 ≤ a * b → 1 ≤ b
pos_right a b h = pos_left b a (omega (arith, mul_comm a b))

module _ (x : Nest) (at f s n : ℕ → ℕ) (m : ℕ) (is : (j : ℕ) → j < m → tile_loop x at j ≡ values (f j) (s j) (n j)) where
  abbrev inner : ℕ → (ℕ → ℕ) → List (ℕ → ℕ)
  inner l t = map (extend t l) (tile_loop x at l)

  loop_length : (j : ℕ) → j < m → length (tile_loop x at j) ≡ n j
  loop_length j h = ap length (is j h) ∙ values_length (f j) (s j) (n j)

  inner_length : (l : ℕ) → l < m → (t : ℕ → ℕ) → length (inner l t) ≡ n l
  inner_length l h t = length-map (tile_loop x at l) (extend t l) ∙ loop_length l h

  pub loops_length : (l : ℕ) → l ≤ m → length (loops x at l) ≡ product n l
  unfolding loops product
  loops_length zero h = refl
  loops_length (suc l) h = for_each_length (inner l) (n l) (inner_length l h) (loops x at l) ∙ ap (λ (k : ℕ). k * n l) (loops_length l (omega arith))

  inner_at : (l : ℕ) → l < m → (t : ℕ → ℕ) (r : ℕ) → r < n l → get_or (inner l t) r (λ j. 0) ≡ extend t l (f l + r * s l)
  inner_at l h t r k =
      map_at (extend t l) (tile_loop x at l) r 0 (λ j. 0) (omega (arith, loop_length l h))
      ∙ ap (extend t l) (ap (λ (v : List ℕ). get_or v r 0) (is l h) ∙ values_at (f l) (s l) (n l) r k)

  pub loops_at : (l : ℕ) → l ≤ m → (c : ℕ) → c < product n l → (j : ℕ) → j < l → get_or (loops x at l) c (λ j. 0) j ≡ f j + place n l c j * s j
  unfolding loops product
  loops_at zero h c k j b = absurd (omega arith)
  loops_at (suc l) h c k j b =
      ap (λ (i : ℕ). get_or (for_each (inner l) (loops x at l)) i (λ j. 0) j) (sym (div-add-mod' c (n l)))
      ∙ ap (λ (t : ℕ → ℕ). t j) (for_each_at (inner l) (n l) (inner_length l h) (loops x at l) (c / n l) (c % n l) (λ j. 0) (λ j. 0)
      (omega (arith, loops_length l (omega arith), quotient)) rest ∙ inner_at l h (get_or (loops x at l) (c / n l) (λ j. 0)) (c % n l) rest)
      ∙ go (eq-or-lt_of_le (le_of_suc-le-suc b)) (loops_at l (omega arith) (c / n l) quotient)
    where
      positive : 1 ≤ n l
      positive = pos_right (product n l) (n l) (omega arith)

      quotient : c / n l < product n l
      quotient = (div-lt_iff_lt-mul positive).1 k

      rest : c % n l < n l
      rest = mod-lt c positive

      go : (j ≡ l) ⊎ (j < l) → ((i : ℕ) → i < l → get_or (loops x at l) (c / n l) (λ j. 0) i ≡ f i + place n l (c / n l) i * s i)
          → extend (get_or (loops x at l) (c / n l) (λ j. 0)) l (f l + c % n l * s l) j ≡ f j + place n (suc l) c j * s j
      go (inl e) ih = pick_true _ _ _ (eq-eqb j l e) ∙ rw (e, place_last n l c)
      go (inr e) ih = pick_false _ _ _ (ne_eqb j l (λ (q : j ≡ l). omega arith)) ∙ ih j e ∙ rw (place_before n l c j e)
