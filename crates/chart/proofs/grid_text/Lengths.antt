-- How long the text can be: a number of 32 bits has at most ten digits, a corner eleven signs, so with 16,384 cells 180,322 bytes at most.
use Prim.Native.Nat.{ℕ, zero, suc, ◌+◌, ◌*◌, ◌≤◌, ◌<◌}
use mathlib.Core.Path.{◌≡◌, ap, ◌∙◌}
use mathlib.Core.Bool.{Bool, true, false}
use mathlib.Core.List.{List}
use native.Mathlib.Omega.{arith}
use native.Mathlib.Decide.{dec_lt}
use native.Mathlib.Nat.{suc-mul, mul-le-mul_right, mul_comm}
use lib.ListN.{length, get_or, length-append}
use lib.IntN.{ℤ}
use mir.Syntax.{w32}
use mir.Val.{SFits}
use Rattle.base.specs.Tests.{pick, product}
use Rattle.text.specs.Decimal.{decimal, signed}
use Rattle.text.specs.Writing.{Pen, pen, write}
use Rattle.text.proofs.Digits.{few_2, few_3, few_4, decimal_few, signed_few}
use Rattle.text.proofs.Pens.{write_at}
use Rattle.nest.specs.declared.Nest.{Nest}
use Rattle.nest.specs.Accepted.{Accepted}
use Rattle.nest.specs.Nest.{length_of, cells}
use Rattle.nest.specs.Shape.{in_shape}
use Rattle.text.specs.Grid.{frame, ncols, nrows, xllcorner, yllcorner, cellsize, nodata, missing}
use Rattle.text.specs.Grid.{head_line, header, cell, more, row, rows_from, grid_text}
use Rattle.chart.specs.grid_text.Text.{chart_text}

-- a list of words
abbrev pub Words : List ℕ → Type 0
Words l = (i : ℕ) → get_or l i 0 < 4294967296

-- of a cell's two texts, whichever it has
either_few : (t : Bool) (l : List ℕ) → length l ≤ 10 → length (pick t l missing) ≤ 10
unfolding pick
either_few true l h = h
either_few false l h = omega arith

module _ (g : List ℕ) (o : ℕ → Bool) (words : Words g) where
  cell_few : (c : ℕ) → length (cell g o c) ≤ 10
  unfolding cell
  cell_few c = either_few _ (decimal (get_or g c 0)) (decimal_few (get_or g c 0) (words c))

  more_few : (n c : ℕ) → length (more g o c n) ≤ 11 * n + 1
  unfolding more
  more_few zero c = omega arith
  more_few (suc n) c = omega (arith, length-append (cell g o c) (more g o (suc c) n), cell_few c, more_few n (suc c))

  row_few : (n c : ℕ) → 1 ≤ n → length (row g o c n) ≤ 11 * n
  unfolding row
  row_few zero c h = absurd (omega arith)
  row_few (suc n) c h = omega (arith, length-append (cell g o c) (more g o (suc c) n), cell_few c, more_few n (suc c))

  rows_few : (n k c : ℕ) → 1 ≤ n → length (rows_from g o n c k) ≤ 11 * (k * n)
  unfolding rows_from
  rows_few n zero c h = omega arith
  rows_few n (suc k) c h =
      omega (arith, length-append (row g o c n) (rows_from g o n (c + n) k), row_few n c h, rows_few n k (c + n) h, suc-mul k n)

line_few : (name value : List ℕ) (k : ℕ) → length value ≤ k → length (head_line name value) ≤ length name + k + 2
unfolding head_line
line_few name value k h = simp length-append (omega arith)

-- the extents have six digits together: where one has four, the other has two
extents_few : (m n : ℕ) → m ≤ 1024 → n ≤ 1024 → m * n ≤ 16384 → length (decimal m) + length (decimal n) ≤ 6
extents_few m n a b h = go (dec_lt m 1000) (dec_lt n 1000)
  where
    go : Dec (m < 1000) → Dec (n < 1000) → length (decimal m) + length (decimal n) ≤ 6
    go (yes p) (yes q) = omega (arith, few_3 m p, few_3 n q)
    go (no p) q =
        let l : 1000 * n ≤ m * n = mul-le-mul_right n (omega arith) in
        omega (arith, few_4 m (omega arith), few_2 n (omega arith))
    go (yes p) (no q) =
        let l : 1000 * m ≤ n * m = mul-le-mul_right m (omega arith) in
        omega (arith, few_4 n (omega arith), few_2 m (omega (arith, mul_comm m n)))

pub cells_are : (x : Nest) → x.dimensions ≡ 2 → cells x ≡ length_of x 0 * length_of x 1
unfolding cells product
cells_are x e = rw e (omega arith)

module _ (nest : Nest) (accepted : Accepted nest) (flat : nest.dimensions ≡ 2) (x y : ℤ) (fx : SFits w32 x) (fy : SFits w32 y) (size k : ℕ)
    (digits : length (decimal size) ≤ k) where
  abbrev rows : ℕ
  rows = length_of nest 0

  abbrev columns : ℕ
  columns = length_of nest 1

  area : rows * columns ≤ 16384
  area = omega (arith, cells_are nest flat, accepted.cells_most)

  header_few : length (header (frame rows columns x y size)) ≤ 93 + k
  unfolding header
  header_few =
      let a = line_few ncols (decimal columns) (length (decimal columns)) (omega arith) in
      let b = line_few nrows (decimal rows) (length (decimal rows)) (omega arith) in
      let c = line_few xllcorner (signed x) 11 (signed_few x fx) in
      let d = line_few yllcorner (signed y) 11 (signed_few y fy) in
      let e = line_few cellsize (decimal size) k digits in
      let f = line_few nodata missing 5 (omega arith) in
      let six = extents_few rows columns (accepted.length_most 0) (accepted.length_most 1) area in
      simp length-append (omega (arith, a, b, c, d, e, f, six))

  pub text_few : (g : List ℕ) → Words g → length (chart_text nest g x y size) ≤ 180317 + k
  unfolding grid_text
  text_few g words =
      omega (
        arith,
        length-append (header (frame rows columns x y size)) (rows_from g (in_shape nest) columns 0 rows),
        header_few,
        rows_few g (in_shape nest) words columns rows 0 (accepted.long 1 (omega (arith, flat))),
        area,
      )

pub text_most : (nest : Nest) → Accepted nest → nest.dimensions ≡ 2 → (x y : ℤ) → SFits w32 x → SFits w32 y → (size : ℕ) → size < 4294967296
    → (g : List ℕ) → Words g → length (chart_text nest g x y size) ≤ 4294967295
text_most nest accepted flat x y fx fy size fs g words =
    omega (arith, text_few nest accepted flat x y fx fy size 10 (decimal_few size fs) g words)

-- where a text written from the front on ends
pub text_end : (q m : ℕ) (s t text : List ℕ) → pen q t ≡ write (pen 0 s) text → length text ≤ m → q ≤ m
text_end q m s t text e h =
    let r : q ≡ 0 + length text = ap (λ (w : Pen). w.at) e ∙ write_at (pen 0 s) text in
    omega arith
