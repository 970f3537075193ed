-- Rows: a number moved within its row, the first of a row, the rows of a tile's box.
use Prim.Native.Nat.{ℕ, zero, suc, ◌+◌, ◌*◌, ◌-◌, ◌/◌, ◌%◌, ◌≤◌, ◌<◌}
use mathlib.Core.Path.{◌≡◌, sym, ap, ◌∙◌}
use mathlib.Core.Bool.{Bool}
use mathlib.Core.List.{List}
use native.Mathlib.Nat.{add_assoc, div-add-mod', div-lt_iff_lt-mul, mul-add-div_right, mul-add-mod_self_right, div-eq_of_lt, mod-eq_of_lt}
use native.Mathlib.Nat.{mul-le-mul_right, suc-mul}
use native.Mathlib.Numerals.{add-one}
use native.Mathlib.Omega.{arith}
use lib.ListN.{get_or}
use Rattle.base.specs.Tests.{◌and◌, every, product}
use Rattle.nest.specs.declared.Nest.{Nest}
use Rattle.nest.specs.Accepted.{Accepted}
use Rattle.nest.specs.Nest.{length_of, tile_length}
use Rattle.nest.specs.Places.{rank, place, cell_at, tile_place}
use Rattle.plan.specs.Box.{box_length, box_place, box_cell}
use Rattle.nest.proofs.Rank.{place_last, place_before, rank_same}
use Rattle.plan.proofs.Tiles.{tile_inside, tile_place_low}
use Rattle.plan.proofs.Box.{box_length_pos, box_cell_place}
use Rattle.layout.specs.declared.Bounds.{Bounds}
use Rattle.layout.specs.declared.Cell.{Cell}
use Rattle.layout.specs.Places.{nth, Countable, Located, Bounded}
use Rattle.layout.proofs.Dims.{countable_less}
use Rattle.layout.proofs.Cells.{box_countable}

-- ---- a number moved by y within its row

module _ (n c y : ℕ) (h : c % n + y < n) where
  shifted : c + y ≡ c / n * n + (c % n + y)
  shifted = omega (arith, div-add-mod' c n)

  row_div : (c + y) / n ≡ c / n
  row_div = ap (λ (a : ℕ). a / n) shifted ∙ omega (arith, mul-add-div_right {m = n} (omega arith) (c / n) (c % n + y), div-eq_of_lt h)

  row_mod : (c + y) % n ≡ c % n + y
  row_mod = ap (λ (a : ℕ). a % n) shifted ∙ mul-add-mod_self_right (c / n) n (c % n + y) ∙ mod-eq_of_lt h

-- d has the dimensions, and the row is along the last
pub row_before : (N : ℕ → ℕ) (d c y : ℕ) → 1 ≤ d → place N d c (d - 1) + y < N (d - 1) → (j : ℕ) → j < d - 1 → place N d (c + y) j ≡ place N d c j
row_before N zero c y p h j k = absurd (omega arith)
row_before N (suc l) c y p h j k =
    let z : suc l - 1 ≡ l = omega arith in
    let b : c % N l + y < N l = rw (z, place_last N l c) at h in
    let i : j < l = omega arith in
    place_before N l (c + y) j i ∙ ap (λ (a : ℕ). place N l a j) (row_div (N l) c y b) ∙ sym (place_before N l c j i)

pub row_last : (N : ℕ → ℕ) (d c y : ℕ) → 1 ≤ d → place N d c (d - 1) + y < N (d - 1) → place N d (c + y) (d - 1) ≡ place N d c (d - 1) + y
row_last N zero c y p h = absurd (omega arith)
row_last N (suc l) c y p h =
    let z : suc l - 1 ≡ l = omega arith in
    let b : c % N l + y < N l = rw (z, place_last N l c) at h in
    rw (z, place_last N l c, place_last N l (c + y)) (row_mod (N l) c y b)

-- it stays below the product
pub row_low : (N : ℕ → ℕ) (d c y : ℕ) → 1 ≤ d → place N d c (d - 1) + y < N (d - 1) → c < product N d → c + y < product N d
unfolding product
row_low N zero c y p h k = absurd (omega arith)
row_low N (suc l) c y p h k =
    let z : suc l - 1 ≡ l = omega arith in
    let b : c % N l + y < N l = rw (z, place_last N l c) at h in
    let q : c / N l < product N l = (div-lt_iff_lt-mul {k = N l} (omega arith)).1 k in
    omega (arith, div-add-mod' c (N l), mul-le-mul_right (N l) q, suc-mul (c / N l) (N l))

-- every test of the dimensions: those before the last, and the last
pub every_last : (f : ℕ → Bool) (d : ℕ) → 1 ≤ d → every f d ≡ (every f (d - 1) and f (d - 1))
unfolding every
every_last f zero p = absurd (omega arith)
every_last f (suc l) p = let z : suc l - 1 ≡ l = omega arith in rw z

-- ---- the first of a row, and how many rows there are

pub row_start : (N : ℕ → ℕ) (d r : ℕ) → 1 ≤ d → 1 ≤ N (d - 1) → place N d (r * N (d - 1)) (d - 1) ≡ 0
row_start N zero r p h = absurd (omega arith)
row_start N (suc l) r p h =
    let z : suc l - 1 ≡ l = omega arith in
    let k : 1 ≤ N l = rw z at h in
    rw (z, place_last N l (r * N l)) (ap (λ (a : ℕ). a % N l) {x = r * N l} {y = r * N l + 0} (omega arith) ∙ mul-add-mod_self_right r (N l) 0 ∙ mod-eq_of_lt
    (omega arith))

pub product_last : (N : ℕ → ℕ) (d : ℕ) → 1 ≤ d → product N d ≡ product N (d - 1) * N (d - 1)
unfolding product
product_last N zero p = absurd (omega arith)
product_last N (suc l) p = let z : suc l - 1 ≡ l = omega arith in rw z

pub rank_last : (N i : ℕ → ℕ) (d : ℕ) → 1 ≤ d → rank N i d ≡ rank N i (d - 1) * N (d - 1) + i (d - 1)
unfolding rank
rank_last N i zero p = absurd (omega arith)
rank_last N i (suc l) p = let z : suc l - 1 ≡ l = omega arith in rw z

-- row r of so many, each w long
module _ (w r rows : ℕ) where
  pub row_in : r < rows → r * w + w ≤ rows * w
  row_in h = omega (arith, mul-le-mul_right w h, suc-mul r w)

  pub row_next : (r + 1) * w ≡ r * w + w
  row_next = rw (add-one r) (suc-mul r w)

module _ (x : Nest) (ok : Accepted x) where
  deep : 1 ≤ x.dimensions
  deep = omega (arith, ok.dimensions_least)

  pub fewer : (l : List ℕ) → Countable l x.dimensions → Countable l (x.dimensions - 1)
  fewer l h = countable_less l x.dimensions (x.dimensions - 1) (omega arith) h

  -- the rows of a tile's box
  module _ (b : Bounds) (is : Bounded x b) where
    wide : get_or b.lengths (x.dimensions - 1) 0 ≡ box_length x b.tile (x.dimensions - 1)
    wide = is.lengths.each (x.dimensions - 1) (omega (arith, deep))

    pub box_counts : Countable b.lengths x.dimensions
    box_counts = (box_countable x ok b.tile b.lengths is.low is.lengths).1

    pub box_rows : product (nth b.lengths) (x.dimensions - 1) * get_or b.lengths (x.dimensions - 1) 0 ≡ b.size
    box_rows =
        sym (product_last (nth b.lengths) x.dimensions deep) ∙ (box_countable x ok b.tile b.lengths is.low is.lengths).0 ∙ sym is.size

    start : (r : ℕ) → place (box_length x b.tile) x.dimensions (r * get_or b.lengths (x.dimensions - 1) 0) (x.dimensions - 1) ≡ 0
    start r = rw wide (row_start (box_length x b.tile) x.dimensions r deep (box_length_pos x ok b.tile (x.dimensions - 1) (omega (arith, deep))))

    module _ (r : ℕ) where
      pub box_width : box_place x b.tile (r * get_or b.lengths (x.dimensions - 1) 0) (x.dimensions - 1) + get_or b.lengths (x.dimensions - 1) 0
          ≤ length_of x (x.dimensions - 1)
      unfolding box_place box_length
      box_width =
          omega (
            arith,
            start r,
            wide,
            tile_inside x ok (tile_place x b.tile (x.dimensions - 1)) (x.dimensions - 1) (omega (arith, deep))
                (tile_place_low x ok b.tile (x.dimensions - 1) (omega (arith, deep))),
          )

      pub box_row : (y : ℕ) → y < get_or b.lengths (x.dimensions - 1) 0
          → box_cell x b.tile (r * get_or b.lengths (x.dimensions - 1) 0) + y ≡ box_cell x b.tile (r * get_or b.lengths (x.dimensions - 1) 0 + y)
      unfolding box_cell cell_at box_place
      box_row y h =
          let q : ℕ = r * get_or b.lengths (x.dimensions - 1) 0 in
          let k : place (box_length x b.tile) x.dimensions (r * get_or b.lengths (x.dimensions - 1) 0) (x.dimensions - 1) + y < box_length x b.tile
          (x.dimensions - 1) = omega (arith, start r, wide) in
          ap (λ (a : ℕ). a + y) (rank_last (length_of x) (box_place x b.tile (r * get_or b.lengths (x.dimensions - 1) 0)) x.dimensions deep)
          ∙ add_assoc _ _ _
          ∙ ap (λ (a : ℕ). a * length_of x (x.dimensions - 1) + (box_place x b.tile (r * get_or b.lengths (x.dimensions - 1) 0) (x.dimensions - 1) + y))
          (rank_same (length_of x) (box_place x b.tile (r * get_or b.lengths (x.dimensions - 1) 0))
          (box_place x b.tile (r * get_or b.lengths (x.dimensions - 1) 0 + y)) (x.dimensions - 1)
          (λ j i. ap (λ (a : ℕ). tile_place x b.tile j * tile_length x j + a)
          (sym (row_before (box_length x b.tile) x.dimensions (r * get_or b.lengths (x.dimensions - 1) 0) y deep k j i))))
          ∙ ap (λ (a : ℕ). rank (length_of x) (box_place x b.tile (r * get_or b.lengths (x.dimensions - 1) 0 + y)) (x.dimensions - 1) * length_of x
          (x.dimensions - 1) + a)
          (add_assoc _ _ _ ∙ ap (λ (a : ℕ). tile_place x b.tile (x.dimensions - 1) * tile_length x (x.dimensions - 1) + a)
          (sym (row_last (box_length x b.tile) x.dimensions (r * get_or b.lengths (x.dimensions - 1) 0) y deep k)))
          ∙ sym (rank_last (length_of x) (box_place x b.tile (r * get_or b.lengths (x.dimensions - 1) 0 + y)) x.dimensions deep)

-- ---- one row more

module _ (x : Nest) (ok : Accepted x) (b : Bounds) (is : Bounded x b) (r rows w : ℕ) (e : rows ≡ product (nth b.lengths) (x.dimensions - 1))
    (k : w ≡ get_or b.lengths (x.dimensions - 1) 0) where
  pub box_all : rows * w ≡ b.size
  box_all = ap (λ (a : ℕ). a * w) e ∙ ap (λ (a : ℕ). product (nth b.lengths) (x.dimensions - 1) * a) k ∙ box_rows x ok b is

  pub box_in : r < rows → (r * w + w ≤ b.size) × (1 ≤ w)
  box_in h =
      (omega (arith, row_in w r rows h, box_all), omega (arith, (box_counts x ok b is).positive (x.dimensions - 1) (omega (arith, ok.dimensions_least))))

-- all rows are done
pub rows_end : (rows r w : ℕ) {n : ℕ} → rows ≤ r → rows * w ≡ n → n ≤ r * w
rows_end rows r w h e = omega (arith, mul-le-mul_right w h)

module _ (x : Nest) (ok : Accepted x) (b : Bounds) (is : Bounded x b) where
  pub row_count : product (nth b.lengths) (x.dimensions - 1) ≤ 16384
  row_count = (fewer x ok b.lengths (box_counts x ok b is)).few

  pub row_fits : (r : ℕ) (q : Cell) → Located x (box_cell x b.tile (r * get_or b.lengths (x.dimensions - 1) 0)) q
      → get_or q.place (x.dimensions - 1) 0 + get_or b.lengths (x.dimensions - 1) 0 ≤ length_of x (x.dimensions - 1)
  row_fits r q l =
      omega (
        arith,
        l.place.each (x.dimensions - 1) (omega (arith, ok.dimensions_least)),
        box_cell_place x ok b.tile
            (r * get_or b.lengths (x.dimensions - 1) 0) (x.dimensions - 1) (omega (arith, ok.dimensions_least)),
        box_width x ok b is r,
      )
