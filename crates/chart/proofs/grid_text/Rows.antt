-- The shape row by row: the interval of a row's cells, and a row written by it.
use Prim.Native.Nat.{ℕ, zero, suc, ◌+◌, ◌-◌, ◌*◌, ◌≤◌, ◌<◌}
use mathlib.Core.Path.{◌≡◌, refl, sym, ap, ◌∙◌}
use mathlib.Core.Bool.{Bool}
use mathlib.Core.List.{List}
use native.Mathlib.Omega.{arith}
use lib.ListN.{length, get_or}
use lib.Dec.{leb, ltb}
use borrow.Author.Tests.{leb-true, ltb-true, le-leb, lt-ltb, le-ltb}
use Rattle.base.specs.Tests.{pick}
use Rattle.base.proofs.Tests.{both, and_true, and_no, is_false, same_test}
use Rattle.text.specs.Decimal.{decimal}
use Rattle.text.specs.Writing.{Pen, write}
use Rattle.text.proofs.Steps.{most}
use Rattle.nest.specs.declared.Nest.{Nest}
use Rattle.nest.specs.declared.Interval.{Interval}
use Rattle.nest.specs.Accepted.{Accepted}
use Rattle.nest.specs.Nest.{length_of}
use Rattle.nest.specs.Shape.{in_shape}
use Rattle.nest.specs.Spans.{last, within, Spans, Row}
use Rattle.nest.proofs.Shapes.{framed, span_row}
use Rattle.text.specs.Grid.{missing, cell, more, row}
use Rattle.chart.specs.grid_text.Rows.{Shown}

-- ---- the interval of the row whose first cell is c

module _ (x : Nest) (ok : Accepted x) (flat : x.dimensions ≡ 2) (i c : ℕ) (e : c ≡ i * length_of x 1)
    (at : List ℕ) (s : Interval) (r : Row x i at) (sp : Spans x at s) where
  one : last x ≡ 1
  one = omega (arith, flat)

  in_row : (j : ℕ) → c ≤ j → j < c + length_of x 1 → in_shape x j ≡ within s (j - c)
  in_row j l h =
      let low : j - c < length_of x (last x) = rw one (omega arith) in
      let is : i * length_of x (last x) + (j - c) ≡ j = rw one (omega (arith, e)) in
      ap (in_shape x) (sym is) ∙ span_row x (framed x ok) i at s r sp (j - c) low

  pub shown_none : s.to ≤ s.from → Shown x c (record { from = 0; to = 0 })
  shown_none z j l h =
      in_row j l h
      ∙ is_false (λ t. omega (arith, leb-true s.from (j - c) (both t).0, ltb-true (j - c) s.to (both t).1))
      ∙ sym (and_no (leb 0 j) (ltb j 0) (le-ltb j 0 (omega arith)))

  pub shown_some : Shown x c (record { from = c + s.from; to = c + s.to })
  shown_some j l h =
      in_row j l h
      ∙ same_test
      (λ t. and_true (le-leb (c + s.from) j (omega (arith, leb-true s.from (j - c) (both t).0)))
      (lt-ltb j (c + s.to) (omega (arith, ltb-true (j - c) s.to (both t).1))))
      (λ t. and_true (le-leb s.from (j - c) (omega (arith, leb-true (c + s.from) j (both t).0)))
      (lt-ltb (j - c) s.to (omega (arith, ltb-true j (c + s.to) (both t).1))))

  pub ends_low : s.to ≤ 1024
  ends_low = let h : s.to ≤ length_of x (last x) = sp.most in omega (arith, h, ok.length_most (last x))

-- ---- a row looks at its own cells alone

module _ (g : List ℕ) (o p : ℕ → Bool) where
  cell_same : (c : ℕ) → o c ≡ p c → cell g o c ≡ cell g p c
  unfolding cell
  cell_same c e = ap (λ (b : Bool). pick b (decimal (get_or g c 0)) missing) e

  more_same : (n c : ℕ) → ((i : ℕ) → c ≤ i → i < c + n → o i ≡ p i) → more g o c n ≡ more g p c n
  unfolding more
  more_same zero c h = refl
  more_same (suc n) c h =
      rw (cell_same c (h c (omega arith) (omega arith)), more_same n (suc c) (λ i a b. h i (omega arith) (omega arith)))

  row_same : (n c : ℕ) → ((i : ℕ) → c ≤ i → i < c + n → o i ≡ p i) → row g o c n ≡ row g p c n
  unfolding row
  row_same zero c h = refl
  row_same (suc n) c h =
      rw (cell_same c (h c (omega arith) (omega arith)), more_same n (suc c) (λ i a b. h i (omega arith) (omega arith)))

module _ (x : Nest) (g : List ℕ) (c n : ℕ) (wide : n ≡ length_of x 1) (s : Interval) (sh : Shown x c s) where
  shown_row : row g (in_shape x) c n ≡ row g (within s) c n
  shown_row = row_same g (in_shape x) (within s) n c (λ i a b. sh i a (omega (arith, wide)))

  pub row_fits : (q : ℕ) → q + length (row g (in_shape x) c n) ≤ most → q + length (row g (within s) c n) ≤ most
  row_fits q h = rw shown_row at h

  pub row_wrote : (u w : Pen) → u ≡ write w (row g (within s) c n) → u ≡ write w (row g (in_shape x) c n)
  row_wrote u w e = rw shown_row e
