-- What the writers' proofs cite: each step of the code over plain variables.
use Prim.Native.Nat.{ℕ, suc, ◌+◌, ◌-◌, ◌*◌, ◌≤◌, ◌<◌}
use mathlib.Core.Path.{◌≡◌, refl, ap, ◌∙◌}
use mathlib.Core.Bool.{Bool, true, false}
use mathlib.Core.List.{List, [], ◌∷◌, ◌++◌}
use native.Mathlib.Omega.{arith}
use native.Mathlib.Nat.{suc-mul}
use lib.ListN.{length, get_or, length-append}
use lib.IntN.{ℤ}
use mir.Syntax.{w32}
use mir.Val.{SFits, to_z, of_z}
use mir.ValLaws.{to_z-of_z}
use Rattle.base.specs.Tests.{pick}
use Rattle.base.proofs.Lists.{piece_fits}
use Rattle.text.specs.Decimal.{decimal, signed}
use Rattle.text.specs.Writing.{Pen, pen, write}
use Rattle.text.proofs.Pens.{next, room}
use Rattle.text.proofs.Steps.{most, Going, going_start, going_fits, going_on, going_done, going_over, Run, run_start, run_fits, run_on, run_done}
use Rattle.text.specs.Grid.{head_line, cell, more, row, rows_from, missing, header, frame, grid_text, ncols, nrows, xllcorner, yllcorner, cellsize}

-- ---- the rest of a row, and rows

module _ (g : List ℕ) (o : ℕ → Bool) (c n j : ℕ) where
  pub more_left : j < n → more g o (c + j) (n - j) ≡ (32 ∷ []) ++ (cell g o (c + j) ++ more g o (c + (j + 1)) (n - (j + 1)))
  unfolding more
  more_left h =
      let e : n - j ≡ suc (n - (j + 1)) = omega arith in
      let f : suc (c + j) ≡ c + (j + 1) = omega arith in
      rw (e, f)

  pub more_none : n ≤ j → more g o (c + j) (n - j) ≡ 10 ∷ []
  unfolding more
  more_none h = let e : n - j ≡ 0 = omega arith in rw e

pub more_start : (s g : List ℕ) (o : ℕ → Bool) (p c n : ℕ) → p + length (more g o c n) ≤ most → Going s p (more g o c n) s p (more g o (c + 0) (n - 0))
more_start s g o p c n r = let e : c + 0 ≡ c = omega arith in let f : n - 0 ≡ n = omega arith in rw (e, f) (going_start s p (more g o c n) r)

pub row_none : (g : List ℕ) (o : ℕ → Bool) (c n : ℕ) → n ≡ 0 → row g o c n ≡ 10 ∷ []
unfolding row
row_none g o c n e = rw e

pub row_some : (g : List ℕ) (o : ℕ → Bool) (c n : ℕ) → (n ≡ 0 → ⊥) → row g o c n ≡ cell g o c ++ more g o (c + 1) (n - 1)
unfolding row
row_some g o c n h = let e : n ≡ suc (n - 1) = omega arith in let f : c + 1 ≡ suc c = omega arith in ap (row g o c) e ∙ rw f

module _ (g : List ℕ) (o : ℕ → Bool) (n c k i : ℕ) where
  pub rows_left : i < k → rows_from g o n c (k - i) ≡ row g o c n ++ rows_from g o n (c + n) (k - (i + 1))
  unfolding rows_from
  rows_left h = let e : k - i ≡ suc (k - (i + 1)) = omega arith in rw e

  pub rows_none : k ≤ i → rows_from g o n c (k - i) ≡ []
  unfolding rows_from
  rows_none h = let e : k - i ≡ 0 = omega arith in rw e

pub rows_start : (s g : List ℕ) (o : ℕ → Bool) (p n k : ℕ) → p + length (rows_from g o n 0 k) ≤ most
    → Going s p (rows_from g o n 0 k) s p (rows_from g o n 0 (k - 0))
rows_start s g o p n k r = let f : k - 0 ≡ k = omega arith in rw f (going_start s p (rows_from g o n 0 k) r)

module _ (s g : List ℕ) (o : ℕ → Bool) (p c n : ℕ) (t : List ℕ) (q j : ℕ) (h : j < n) (w : Going s p (more g o c n) t q (more g o (c + j) (n - j))) where
  abbrev rest : List ℕ
  rest = more g o (c + (j + 1)) (n - (j + 1))

  pub more_first : q + 1 ≤ most
  more_first = going_fits s p (more g o c n) t q _ (32 ∷ []) (cell g o (c + j) ++ rest) (more_left g o c n j h) w

  module _ (u : List ℕ) (v : ℕ) (e : pen v u ≡ write (pen q t) (32 ∷ [])) (l : length u ≡ length t) where
    more_mid : Going s p (more g o c n) u v (cell g o (c + j) ++ rest)
    more_mid = going_on s p (more g o c n) t q _ (32 ∷ []) (cell g o (c + j) ++ rest) (more_left g o c n j h) w u v e l

    pub more_second : v + length (cell g o (c + j)) ≤ most
    more_second = going_fits s p (more g o c n) u v _ (cell g o (c + j)) rest refl more_mid

    pub more_next : (u' : List ℕ) (v' : ℕ) → pen v' u' ≡ write (pen v u) (cell g o (c + j)) → length u' ≡ length u
        → Going s p (more g o c n) u' v' (more g o (c + (j + 1)) (n - (j + 1)))
    more_next u' v' f k = going_on s p (more g o c n) u v _ (cell g o (c + j)) rest refl more_mid u' v' f k

module _ (s g : List ℕ) (o : ℕ → Bool) (p c n : ℕ) (t : List ℕ) (q j : ℕ) (h : n ≤ j) (w : Going s p (more g o c n) t q (more g o (c + j) (n - j))) where
  pub more_feed : q + 1 ≤ most
  more_feed = rw (more_none g o c n j h) at w.fits

  pub more_done : (u : Pen) → u ≡ write (pen q t) (10 ∷ []) → u ≡ write (pen p s) (more g o c n)
  more_done u e = going_done s p (more g o c n) t q _ w u (10 ∷ []) (more_none g o c n j h) e

-- ---- a row

module _ (g : List ℕ) (o : ℕ → Bool) (p c n : ℕ) (r : p + length (row g o c n) ≤ most) where
  pub row_feed : n ≡ 0 → p + 1 ≤ most
  row_feed e = rw (row_none g o c n e) at r

  pub row_over : n ≡ 0 → (u w : Pen) → u ≡ write w (10 ∷ []) → u ≡ write w (row g o c n)
  row_over e u w f = rw (row_none g o c n e) f

  module _ (h : n ≡ 0 → ⊥) where
    parts : p + length (cell g o c ++ more g o (c + 1) (n - 1)) ≤ most
    parts = rw (row_some g o c n h) at r

    pub row_cell : p + length (cell g o c) ≤ most
    row_cell = omega (arith, parts, length-append (cell g o c) (more g o (c + 1) (n - 1)))

    module _ (s t : List ℕ) (q : ℕ) (e : pen q t ≡ write (pen p s) (cell g o c)) where
      pub row_more : q + length (more g o (c + 1) (n - 1)) ≤ most
      row_more = room p q most s t (cell g o c) (more g o (c + 1) (n - 1)) e parts

      pub row_done : (u : Pen) → u ≡ write (pen q t) (more g o (c + 1) (n - 1)) → u ≡ write (pen p s) (row g o c n)
      row_done u f = rw (row_some g o c n h) (next (pen q t) (pen p s) u (cell g o c) (more g o (c + 1) (n - 1)) e f)

-- ---- a cell

module _ (g : List ℕ) (o : ℕ → Bool) (p c : ℕ) (r : p + length (cell g o c) ≤ most) where
  in_is : o c ≡ true → cell g o c ≡ decimal (get_or g c 0)
  unfolding cell pick
  in_is e = rw e

  out_is : o c ≡ false → cell g o c ≡ missing
  unfolding cell pick
  out_is e = rw e

  pub in_room : o c ≡ true → p + length (decimal (get_or g c 0)) ≤ most
  in_room e = rw (in_is e) at r

  pub in_done : o c ≡ true → (u w : Pen) → u ≡ write w (decimal (get_or g c 0)) → u ≡ write w (cell g o c)
  in_done e u w f = rw (in_is e) f

  pub out_room : o c ≡ false → p + length missing ≤ most
  out_room e = rw (out_is e) at r

  pub out_done : o c ≡ false → (u w : Pen) → u ≡ write w missing → u ≡ write w (cell g o c)
  out_done e u w f = rw (out_is e) f

-- a line of the header, in four parts
module _ (name value : List ℕ) (w : Pen) (r : w.at + length (head_line name value) ≤ most) where
  line_start : Run w (head_line name value) w (name ++ ((32 ∷ []) ++ (value ++ (10 ∷ []))))
  unfolding head_line
  line_start = run_start w (head_line name value) r

  pub line_name : w.at + length name ≤ most
  line_name = run_fits name ((32 ∷ []) ++ (value ++ (10 ∷ []))) line_start

  module _ (w₁ : Pen) (e₁ : w₁ ≡ write w name) where
    line_one : Run w (head_line name value) w₁ ((32 ∷ []) ++ (value ++ (10 ∷ [])))
    line_one = run_on name ((32 ∷ []) ++ (value ++ (10 ∷ []))) line_start w₁ e₁

    pub line_gap : w₁.at + 1 ≤ most
    line_gap = run_fits (32 ∷ []) (value ++ (10 ∷ [])) line_one

    module _ (w₂ : Pen) (e₂ : w₂ ≡ write w₁ (32 ∷ [])) where
      line_two : Run w (head_line name value) w₂ (value ++ (10 ∷ []))
      line_two = run_on (32 ∷ []) (value ++ (10 ∷ [])) line_one w₂ e₂

      pub line_value : w₂.at + length value ≤ most
      line_value = run_fits value (10 ∷ []) line_two

      module _ (w₃ : Pen) (e₃ : w₃ ≡ write w₂ value) where
        line_three : Run w (head_line name value) w₃ (10 ∷ [])
        line_three = run_on value (10 ∷ []) line_two w₃ e₃

        pub line_feed : w₃.at + 1 ≤ most
        line_feed = line_three.fits

        pub line_done : (u : Pen) → u ≡ write w₃ (10 ∷ []) → u ≡ write w (head_line name value)
        line_done u f = run_done (10 ∷ []) line_three u f

-- the header, in six
module _ (a b c d e f : List ℕ) (w : Pen) (r : w.at + length (a ++ (b ++ (c ++ (d ++ (e ++ f))))) ≤ most) where
  all : List ℕ
  all = a ++ (b ++ (c ++ (d ++ (e ++ f))))

  six_start : Run w all w (a ++ (b ++ (c ++ (d ++ (e ++ f)))))
  unfolding all
  six_start = run_start w all r

  pub six_1 : w.at + length a ≤ most
  six_1 = run_fits a _ six_start

  module _ (w₁ : Pen) (e₁ : w₁ ≡ write w a) where
    r₁ : Run w all w₁ (b ++ (c ++ (d ++ (e ++ f))))
    r₁ = run_on a _ six_start w₁ e₁

    pub six_2 : w₁.at + length b ≤ most
    six_2 = run_fits b _ r₁

    module _ (w₂ : Pen) (e₂ : w₂ ≡ write w₁ b) where
      r₂ : Run w all w₂ (c ++ (d ++ (e ++ f)))
      r₂ = run_on b _ r₁ w₂ e₂

      pub six_3 : w₂.at + length c ≤ most
      six_3 = run_fits c _ r₂

      module _ (w₃ : Pen) (e₃ : w₃ ≡ write w₂ c) where
        r₃ : Run w all w₃ (d ++ (e ++ f))
        r₃ = run_on c _ r₂ w₃ e₃

        pub six_4 : w₃.at + length d ≤ most
        six_4 = run_fits d _ r₃

        module _ (w₄ : Pen) (e₄ : w₄ ≡ write w₃ d) where
          r₄ : Run w all w₄ (e ++ f)
          r₄ = run_on d _ r₃ w₄ e₄

          pub six_5 : w₄.at + length e ≤ most
          six_5 = run_fits e _ r₄

          module _ (w₅ : Pen) (e₅ : w₅ ≡ write w₄ e) where
            r₅ : Run w all w₅ f
            r₅ = run_on e f r₄ w₅ e₅

            pub six_6 : w₅.at + length f ≤ most
            six_6 = r₅.fits

            pub six_done : (u : Pen) → u ≡ write w₅ f → u ≡ write w (a ++ (b ++ (c ++ (d ++ (e ++ f)))))
            unfolding all
            six_done u g = run_done f r₅ u g

-- ---- the rows

pub rows_fit : (c n k i m : ℕ) → c ≡ i * n → i < k → k * n ≤ m → c + n ≤ m
rows_fit c n k i m e h l = omega (arith, piece_fits n k i h)

pub rows_place : (c n i : ℕ) → c ≡ i * n → c + n ≡ (i + 1) * n
rows_place c n i e = let f : i + 1 ≡ suc i = omega arith in rw f (omega (arith, suc-mul i n))

module _ (s g : List ℕ) (o : ℕ → Bool) (p n k : ℕ) (t : List ℕ) (q c i : ℕ) (h : i < k)
    (w : Going s p (rows_from g o n 0 k) t q (rows_from g o n c (k - i))) where
  pub rows_room : q + length (row g o c n) ≤ most
  rows_room = going_fits s p (rows_from g o n 0 k) t q _ (row g o c n) (rows_from g o n (c + n) (k - (i + 1))) (rows_left g o n c k i h) w

  pub rows_next : (u : List ℕ) (v : ℕ) → pen v u ≡ write (pen q t) (row g o c n) → length u ≡ length t
      → Going s p (rows_from g o n 0 k) u v (rows_from g o n (c + n) (k - (i + 1)))
  rows_next u v e l = going_on s p (rows_from g o n 0 k) t q _ (row g o c n) (rows_from g o n (c + n) (k - (i + 1))) (rows_left g o n c k i h) w u v e l

module _ (s g : List ℕ) (o : ℕ → Bool) (p n k : ℕ) (t : List ℕ) (q c i : ℕ) (h : k ≤ i)
    (w : Going s p (rows_from g o n 0 k) t q (rows_from g o n c (k - i))) where
  pub rows_done : pen q t ≡ write (pen p s) (rows_from g o n 0 k)
  rows_done = going_over s p (rows_from g o n 0 k) t q _ w (rows_none g o n c k i h)

-- ---- the header: its six lines, the signed numbers as the machine reads them back

module _ (z : ℤ) (f : SFits w32 z) where
  pub back_room : (q : ℕ) → q + length (signed z) ≤ most → q + length (signed (to_z w32 (of_z w32 z))) ≤ most
  back_room q r = rw (to_z-of_z w32 z f) r

  pub back_wrote : (u w : Pen) → u ≡ write w (signed (to_z w32 (of_z w32 z))) → u ≡ write w (signed z)
  back_wrote u w e = rw (to_z-of_z w32 z f) at e

  line_room : (name : List ℕ) (q : ℕ) → q + length (head_line name (signed z)) ≤ most → q + length (head_line name (signed (to_z w32 (of_z w32 z)))) ≤ most
  line_room name q r = rw (to_z-of_z w32 z f) r

  line_wrote : (name : List ℕ) (u w : Pen) → u ≡ write w (head_line name (signed (to_z w32 (of_z w32 z)))) → u ≡ write w (head_line name (signed z))
  line_wrote name u w e = rw (to_z-of_z w32 z f) at e

abbrev pub last_line : List ℕ
last_line = 78 ∷ 79 ∷ 68 ∷ 65 ∷ 84 ∷ 65 ∷ 95 ∷ 118 ∷ 97 ∷ 108 ∷ 117 ∷ 101 ∷ 32 ∷ 45 ∷ 57 ∷ 57 ∷ 57 ∷ 57 ∷ 10 ∷ []

module _ (rows columns : ℕ) (x y : ℤ) (size : ℕ) (fx : SFits w32 x) (fy : SFits w32 y) (s : List ℕ)
    (r : length (header (frame rows columns x y size)) ≤ most) where
  abbrev A : List ℕ
  A = head_line ncols (decimal columns)

  abbrev C : List ℕ
  C = head_line nrows (decimal rows)

  abbrev X : List ℕ
  X = head_line xllcorner (signed x)

  abbrev Y : List ℕ
  Y = head_line yllcorner (signed y)

  abbrev Z : List ℕ
  Z = head_line cellsize (decimal size)

  header_is : header (frame rows columns x y size) ≡ A ++ (C ++ (X ++ (Y ++ (Z ++ last_line))))
  unfolding header head_line
  header_is = refl

  six : 0 + length (A ++ (C ++ (X ++ (Y ++ (Z ++ last_line))))) ≤ most
  six = let q : length (A ++ (C ++ (X ++ (Y ++ (Z ++ last_line))))) ≤ most = rw header_is at r in omega arith

  pub head_1 : 0 + length A ≤ most
  head_1 = six_1 A C X Y Z last_line (pen 0 s) six

  module _ (w₁ : Pen) (e₁ : w₁ ≡ write (pen 0 s) A) where
    pub head_2 : w₁.at + length C ≤ most
    head_2 = six_2 A C X Y Z last_line (pen 0 s) six w₁ e₁

    module _ (w₂ : Pen) (e₂ : w₂ ≡ write w₁ C) where
      pub head_3 : w₂.at + length (head_line xllcorner (signed (to_z w32 (of_z w32 x)))) ≤ most
      head_3 = line_room x fx xllcorner w₂.at (six_3 A C X Y Z last_line (pen 0 s) six w₁ e₁ w₂ e₂)

      module _ (w₃ : Pen) (e₃ : w₃ ≡ write w₂ (head_line xllcorner (signed (to_z w32 (of_z w32 x))))) where
        f₃ : w₃ ≡ write w₂ X
        f₃ = line_wrote x fx xllcorner w₃ w₂ e₃

        pub head_4 : w₃.at + length (head_line yllcorner (signed (to_z w32 (of_z w32 y)))) ≤ most
        head_4 = line_room y fy yllcorner w₃.at (six_4 A C X Y Z last_line (pen 0 s) six w₁ e₁ w₂ e₂ w₃ f₃)

        module _ (w₄ : Pen) (e₄ : w₄ ≡ write w₃ (head_line yllcorner (signed (to_z w32 (of_z w32 y))))) where
          f₄ : w₄ ≡ write w₃ Y
          f₄ = line_wrote y fy yllcorner w₄ w₃ e₄

          pub head_5 : w₄.at + length Z ≤ most
          head_5 = six_5 A C X Y Z last_line (pen 0 s) six w₁ e₁ w₂ e₂ w₃ f₃ w₄ f₄

          module _ (w₅ : Pen) (e₅ : w₅ ≡ write w₄ Z) where
            pub head_6 : w₅.at + 19 ≤ most
            head_6 = six_6 A C X Y Z last_line (pen 0 s) six w₁ e₁ w₂ e₂ w₃ f₃ w₄ f₄ w₅ e₅

            pub head_done : (u : Pen) → u ≡ write w₅ last_line → u ≡ write (pen 0 s) (header (frame rows columns x y size))
            head_done u g = rw header_is (six_done A C X Y Z last_line (pen 0 s) six w₁ e₁ w₂ e₂ w₃ f₃ w₄ f₄ w₅ e₅ u g)

-- ---- the whole text: header, then rows

module _ (rows columns : ℕ) (x y : ℤ) (size : ℕ) (fx : SFits w32 x) (fy : SFits w32 y) (g : List ℕ) (o : ℕ → Bool) (s : List ℕ)
    (r : length (grid_text (frame rows columns x y size) g o) ≤ most) where
  abbrev H : List ℕ
  H = header (frame rows columns x y size)

  abbrev M : List ℕ
  M = rows_from g o columns 0 rows

  text_is : grid_text (frame rows columns x y size) g o ≡ H ++ M
  unfolding grid_text
  text_is = refl

  both_fit : length (H ++ M) ≤ most
  both_fit = rw text_is at r

  frame_back : frame rows columns (to_z w32 (of_z w32 x)) (to_z w32 (of_z w32 y)) size ≡ frame rows columns x y size
  frame_back = rw (to_z-of_z w32 x fx, to_z-of_z w32 y fy)

  pub text_head : length (header (frame rows columns (to_z w32 (of_z w32 x)) (to_z w32 (of_z w32 y)) size)) ≤ most
  text_head = rw frame_back (omega (arith, both_fit, length-append H M))

  module _ (t : List ℕ) (q : ℕ) (e : pen q t ≡ write (pen 0 s) (header (frame rows columns (to_z w32 (of_z w32 x)) (to_z w32 (of_z w32 y)) size))) where
    e' : pen q t ≡ write (pen 0 s) H
    e' = rw frame_back at e

    pub text_rows : q + length M ≤ most
    text_rows = room 0 q most s t H M e' (omega (arith, both_fit))

    pub text_done : (u : Pen) → u ≡ write (pen q t) M → u ≡ write (pen 0 s) (grid_text (frame rows columns x y size) g o)
    text_done u f = rw text_is (next (pen q t) (pen 0 s) u H M e' f)
