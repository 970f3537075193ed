-- Laws of rows: the cells of a row that are in the shape marked, rows one after the other, rows that lie in the same tiles.
use Prim.Native.Nat.{ℕ, suc, ◌+◌, ◌*◌, ◌-◌, ◌/◌, ◌%◌, ◌≤◌, ◌<◌}
use mathlib.Core.Path.{◌≡◌, refl, sym, ap, ◌∙◌}
use mathlib.Core.Logic.{◌⊎◌, inl, inr}
use mathlib.Core.Bool.{Bool, false}
use mathlib.Core.List.{List}
use native.Mathlib.Nat.{div-add-mod', mul-add-div_right, div-eq_of_lt, mul-le-mul_left}
use native.Mathlib.Decide.{dec_lt, ℕ_discrete}
use native.Mathlib.Omega.{arith}
use lib.ListN.{get_or}
use borrow.Author.Tests.{le-leb, lt-leb, lt-ltb, le-ltb, ne_eqb}
use Rattle.base.specs.Tests.{pick}
use Rattle.base.proofs.Tests.{pick_true, pick_false, and_true, and_false, and_no}
use Rattle.nest.specs.declared.Nest.{Nest}
use Rattle.nest.specs.declared.Interval.{Interval}
use Rattle.nest.specs.Nest.{length_of, tile_length, cells}
use Rattle.nest.specs.Accepted.{Accepted}
use Rattle.nest.specs.Places.{place, cell_place}
use Rattle.nest.specs.Shape.{in_shape}
use Rattle.nest.specs.Spans.{last, within, Spans, Row, Marked}
use Rattle.nest.proofs.Shapes.{framed, span_row, place_row}
use Rattle.layout.proofs.CellRows.{row_before, row_last, row_next}
use Rattle.part.specs.Marking.{row_cells, Shown, Alike}

-- ---- a row

module _ (x : Nest) (ok : Accepted x) (q : ℕ) (at : List ℕ) (r : Row x q at) (s : Interval) (sp : Spans x at s) (before : List ℕ) where
  abbrev c₀ : ℕ
  c₀ = q * row_cells x

  in_row : (c : ℕ) → c₀ ≤ c → c < c₀ + row_cells x → in_shape x c ≡ within s (c - c₀)
  in_row c h l =
      let e : c ≡ c₀ + (c - c₀) = omega arith in
      ap (in_shape x) e ∙ span_row x (framed x ok) q at s r sp (c - c₀) (omega arith)

  pub row_shown : (after : List ℕ) → Marked before (c₀ + s.from) (c₀ + s.to) after → Shown x c₀ (c₀ + row_cells x) before after
  row_shown after m =
      record {
        long = m.long;
        each = λ c h l. go c h l (dec_lt c (c₀ + s.from)) (dec_lt c (c₀ + s.to));
        others = λ c o. outside c o;
      }
    where
      go : (c : ℕ) → c₀ ≤ c → c < c₀ + row_cells x → Dec (c < c₀ + s.from) → Dec (c < c₀ + s.to) → get_or after c 0 ≡ pick (in_shape x c) 1 (get_or before c 0)
      go c h l (yes a) d =
          m.others c (inl a) ∙ sym (pick_false _ _ _ (in_row c h l ∙ and_false _ _ (lt-leb s.from (c - c₀) (omega arith))))
      go c h l (no a) (yes d) =
          m.marks c (omega arith) d
          ∙ sym (pick_true _ _ _ (in_row c h l ∙ and_true (le-leb s.from (c - c₀) (omega arith)) (lt-ltb (c - c₀) s.to (omega arith))))
      go c h l (no a) (no d) =
          m.others c (inr (omega arith)) ∙ sym (pick_false _ _ _ (in_row c h l ∙ and_no _ _ (le-ltb (c - c₀) s.to (omega arith))))

      outside : (c : ℕ) → (c < c₀) ⊎ (c₀ + row_cells x ≤ c) → get_or after c 0 ≡ get_or before c 0
      outside c (inl a) = m.others c (inl (omega arith))
      outside c (inr a) = m.others c (inr (omega (arith, a, sp.most)))

  -- no cell of it is in the shape
  pub row_empty : s.to ≤ s.from → Shown x c₀ (c₀ + row_cells x) before before
  row_empty k =
      record {
        long = refl;
        each = λ c h l. sym (pick_same (in_shape x c) refl c h l);
        others = λ c o. refl;
      }
    where
      pick_same : (t : Bool) → t ≡ t → (c : ℕ) → c₀ ≤ c → c < c₀ + row_cells x → pick (in_shape x c) 1 (get_or before c 0) ≡ get_or before c 0
      pick_same t e c h l = pick_false _ _ _ (in_row c h l ∙ none (c - c₀) (dec_lt (c - c₀) s.from))
        where
          none : (a : ℕ) → Dec (a < s.from) → within s a ≡ false
          none a (yes d) = and_false _ _ (lt-leb s.from a d)
          none a (no d) = and_no _ _ (le-ltb a s.to (omega arith))

-- ---- rows one after the other

module _ (x : Nest) (ok : Accepted x) where
  pub wide_some : 1 ≤ row_cells x
  wide_some = ok.long (last x) (omega (arith, ok.dimensions_least))

  pub rows_few : (rows : ℕ) → rows * row_cells x ≤ cells x → rows ≤ 16384
  rows_few rows e = omega (arith, ok.cells_most, mul-le-mul_left rows wide_some, e)

pub shown_none : (x : Nest) (low : ℕ) (l : List ℕ) → Shown x low low l l
shown_none x low l = record { long = refl; each = λ c h k. absurd (omega arith); others = λ c o. refl }

pub shown_join : (x : Nest) (low mid high : ℕ) (old now new : List ℕ) → low ≤ mid → mid ≤ high → Shown x low mid old now → Shown x mid high now new
    → Shown x low high old new
shown_join x low mid high old now new h k f g =
    record {
      long = g.long ∙ f.long;
      each = λ c a b. go c a b (dec_lt c mid);
      others = outside;
    }
  where
    go : (c : ℕ) → low ≤ c → c < high → Dec (c < mid) → get_or new c 0 ≡ pick (in_shape x c) 1 (get_or old c 0)
    go c a b (yes d) = g.others c (inl d) ∙ f.each c a d
    go c a b (no d) = g.each c (omega arith) b ∙ ap (pick (in_shape x c) 1) (f.others c (inr (omega arith)))

    outside : (c : ℕ) → (c < low) ⊎ (high ≤ c) → get_or new c 0 ≡ get_or old c 0
    outside c (inl a) = g.others c (inl (omega arith)) ∙ f.others c (inl a)
    outside c (inr a) = g.others c (inr a) ∙ f.others c (inr (omega arith))

pub rows_next : (x : Nest) (from q : ℕ) (old now new : List ℕ) → from * row_cells x ≤ q * row_cells x → Shown x (from * row_cells x) (q * row_cells x) old now
    → Shown x (q * row_cells x) (q * row_cells x + row_cells x) now new → Shown x (from * row_cells x) ((q + 1) * row_cells x) old new
rows_next x from q old now new h f g =
    rw (row_next (row_cells x) q q) (shown_join x (from * row_cells x) (q * row_cells x) (q * row_cells x + row_cells x) old now new h (omega arith) f g)

-- ---- rows in the same tiles

same_quotient : (a y t : ℕ) → a % t + y < t → (a + y) / t ≡ a / t
same_quotient a y t h =
    let e : a + y ≡ a / t * t + (a % t + y) = omega (arith, div-add-mod' a t) in
    ap (λ (i : ℕ). i / t) e ∙ omega (arith, mul-add-div_right {m = t} (omega arith) (a / t) (a % t + y), div-eq_of_lt h)

module _ (x : Nest) (ok : Accepted x) (q : ℕ) where
  abbrev d : ℕ
  d = last x

  abbrev N : ℕ → ℕ
  N = length_of x

  place_first : (r j : ℕ) → j < d → cell_place x (r * row_cells x) j ≡ place N d r j
  unfolding cell_place
  place_first r j h =
      let e : x.dimensions ≡ suc d = omega (arith, ok.dimensions_least) in
      let z : r * row_cells x ≡ r * row_cells x + 0 = omega arith in
      ap (λ (m : ℕ). place N m (r * row_cells x) j) e ∙ (ap (λ (i : ℕ). place N (suc d) i j) z ∙ place_row N d r 0 j
      (ok.long d (omega (arith, ok.dimensions_least))) (omega arith)
      ∙ pick_false _ _ _ (ne_eqb j d (λ k. omega arith)))

  -- by the numbers of the code
  pub alike : (at : List ℕ) → Row x q at → (n a : ℕ) → a ≡ get_or at (x.dimensions - 2) 0 → 1 ≤ n
      → n ≤ length_of x (x.dimensions - 2) - a → n ≤ tile_length x (x.dimensions - 2) - a % tile_length x (x.dimensions - 2)
      → Alike x q n
  alike at r n a is some h k =
      record { full = some; same = λ y j l b. go y j l b (ℕ_discrete j (d - 1)) }
    where
      e : x.dimensions - 2 ≡ d - 1
      e = omega arith

      a_is : a ≡ place N d q (d - 1)
      a_is =
          let low : d - 1 < d = omega (arith, ok.dimensions_least) in
          is ∙ ap (λ (i : ℕ). get_or at i 0) e ∙ r.first (d - 1) (omega (arith, ok.dimensions_least)) ∙ place_first q (d - 1) low

      in_row : (y : ℕ) → y < n → place N d q (d - 1) + y < N (d - 1)
      in_row y l = omega (arith, l, h, a_is, ap (length_of x) e)

      go : (y j : ℕ) → y < n → j < x.spread → Dec (j ≡ d - 1) → cell_place x ((q + y) * row_cells x) j / tile_length x j ≡ cell_place x (q * row_cells x) j /
          tile_length x j
      go y j l b (yes f) =
          ap (λ (i : ℕ). i / tile_length x j)
          (place_first (q + y) j (omega (arith, ok.spread_low)) ∙ ap (place N d (q + y)) f ∙ row_last N d q y (omega (arith, ok.dimensions_least))
          (in_row y l)
          ∙ ap (λ (i : ℕ). i + y) (sym a_is))
          ∙ same_quotient a y (tile_length x j) (omega (arith, l, k, ap (tile_length x) (e ∙ sym f), ap (λ (i : ℕ). a % tile_length x i) (e ∙ sym f)))
          ∙ ap (λ (i : ℕ). i / tile_length x j) (a_is ∙ ap (place N d q) (sym f) ∙ sym (place_first q j (omega (arith, ok.spread_low))))
      go y j l b (no f) =
          ap (λ (i : ℕ). i / tile_length x j)
          (place_first (q + y) j (omega (arith, ok.spread_low))
          ∙ row_before N d q y (omega (arith, ok.dimensions_least)) (in_row y l) j (omega (arith, f, b, ok.spread_low))
          ∙ sym (place_first q j (omega (arith, ok.spread_low))))
