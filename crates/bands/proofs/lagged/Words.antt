-- Who is in a row, and the value of its cells as what the kernels make of it.
use Prim.Native.Nat.{ℕ, zero, suc, ◌+◌, ◌*◌, ◌-◌, ◌/◌, ◌%◌, ◌^◌, ◌≤◌, ◌<◌}
use mathlib.Core.Path.{◌≡◌, refl, sym, ap, ◌∙◌}
use mathlib.Core.Logic.{◌⊎◌, inl, inr}
use mathlib.Core.Bool.{Bool, true, false}
use mathlib.Core.List.{List, [], ◌∷◌}
use native.Mathlib.Omega.{arith}
use lib.ListN.{get_or, set}
use lib.Dec.{leb}
use borrow.Author.Tests.{le-leb}
use Rattle.base.specs.Tests.{pick, tabulate}
use Rattle.base.proofs.Tests.{sum_same}
use Rattle.base.specs.Lists.{In, store_all}
use Rattle.base.proofs.Select.{in_append}
use Rattle.nest.specs.declared.Nest.{Nest}
use Rattle.nest.specs.Accepted.{Accepted}
use Rattle.nest.specs.Nest.{weight, cells}
use Rattle.plan.specs.Geometry.{has_read, read_at, value}
use Rattle.layout.specs.CellRows.{row_of}
use Rattle.kernels.specs.Taps.{mixed, in_line, Mixes}
use Rattle.kernels.proofs.Orders.{store_append, store_same}
use Rattle.bands.specs.lagged.Bands.{Reads, InRow}

pub store_row : (f : List ℕ → ℕ → ℕ) (l : List ℕ) (c n : ℕ) → store_all f l (row_of c (suc n)) ≡ set (store_all f l (row_of c n)) (c + n)
    (f (store_all f l (row_of c n)) (c + n))
unfolding tabulate store_all
store_row f l c n = store_append f l (row_of c n) ((c + n) ∷ [])

-- ---- who is in a row

pub in_row_of : (c n z : ℕ) → In z (row_of c n) → (c ≤ z) × (z < c + n)
unfolding tabulate
in_row_of c zero z i = absurd i
in_row_of c (suc n) z i = go (in_append z (row_of c n) ((c + n) ∷ []) i) (in_row_of c n z)
  where
    go : In z (row_of c n) ⊎ In z ((c + n) ∷ []) → (In z (row_of c n) → (c ≤ z) × (z < c + n)) → (c ≤ z) × (z < c + suc n)
    go (inl k) ih = let q = ih k in (q.0, omega arith)
    go (inr (inl e)) ih = (omega arith, omega arith)
    go (inr (inr e)) ih = absurd e

pick_same : {A : Type 0} (t u : Bool) (a b c : A) → t ≡ u → (u ≡ true → a ≡ b) → pick t a c ≡ pick u b c
unfolding pick
pick_same true true a b c e h = h refl
pick_same false false a b c e h = refl
pick_same true false a b c e h = absurd (let z : ◌≡◌ {A = Bool} true false = e in (let y : ◌≡◌ {A = ℕ} 0 1 = cc in omega arith))
pick_same false true a b c e h = absurd (let z : ◌≡◌ {A = Bool} false true = e in (let y : ◌≡◌ {A = ℕ} 0 1 = cc in omega arith))

-- ---- the value as what the kernels make of it

module _ (x : Nest) (ok : Accepted x) where
  back_low : (first back weights : List ℕ) (c a : ℕ) → Reads x c a first back weights → (e : ℕ) → e < x.distances → get_or first e 0 ≤ a → get_or back e 0 ≤ c
  back_low first back weights c a r e h l = omega (arith, r.backs e h (sym (r.firsts e h) ∙ le-leb _ _ l))

  module _ (source memory first back weights : List ℕ) (c a : ℕ) (r : Reads x c a first back weights) where
    mixed_is : mixed x.distances first back weights x.boundary x.shift source a memory c ≡ value x source memory c
    unfolding mixed value
    mixed_is =
        ap (λ (b : ℕ). (get_or source c 0 + b) / 2 ^ x.shift % 4294967296)
        (sum_same _ _ x.distances (λ e h. ap (λ (l : List ℕ). get_or l e 0 * pick (leb (get_or first e 0) a) (get_or memory (c - get_or back e 0) 0)
        x.boundary) r.weights_are
        ∙ ap (λ (b : ℕ). weight x e * b) (pick_same (leb (get_or first e 0) a) (has_read x c e) _ _ x.boundary (r.firsts e h)
        (λ t. let z : c - get_or back e 0 ≡ read_at x c e = omega (arith, r.backs e h t) in ap (λ (i : ℕ). get_or memory i 0) z))))

  module _ (c a n : ℕ) (first back weights : List ℕ) (r : InRow x c a n first back weights) where
    pub row_mixes : (sources words : ℕ) → weights ≡ x.weights → sources ≡ cells x → words ≡ cells x → Mixes x.distances first back weights x.boundary
        x.shift c a n sources words
    row_mixes sources words w s m =
        record {
          few = ok.distances_most;
          back = λ k y i h l. back_low first back weights (c + y) (a + y) (r.each y h) k i l;
          light = λ k i. rw w (ok.weight_most k);
          beyond = ok.boundary_most;
          divides = omega (arith, ok.shift_most);
          within = omega (arith, r.low);
          same = s ∙ sym m;
          small = omega (arith, ok.cells_most);
          narrow = r.few;
        }

    pub row_values_lem : (source memory memory' : List ℕ) → memory' ≡ store_all (in_line x.distances first back weights x.boundary x.shift source c a)
        memory (row_of c n)
        → memory' ≡ store_all (value x source) memory (row_of c n)
    row_values_lem source memory memory' e = e ∙ store_same _ _ (row_of c n) memory (λ m z i. let q = in_row_of c n z i in
        let y : c + (z - c) ≡ z = omega (arith, q.0) in
        rw y at (mixed_is source m first back weights (c + (z - c)) (a + (z - c)) (r.each (z - c) (omega (arith, q.0, q.1)))))
