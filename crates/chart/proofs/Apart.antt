-- No two inputs share a text.
use Prim.Native.Nat.{ℕ, zero, suc, ◌+◌, ◌*◌, ◌≤◌, ◌<◌}
use mathlib.Core.Path.{◌≡◌, refl, sym, ap, ◌∙◌}
use mathlib.Core.Bool.{Bool, true, false, false≢true}
use mathlib.Core.List.{List, ◌++◌, append_assoc}
use mathlib.Core.Logic.{◌⊎◌, inl, inr}
use native.Mathlib.Omega.{arith}
use native.Mathlib.Decide.{dec_lt}
use native.Mathlib.Nat.{suc-mul, zero-mul, eq-or-lt_of_le}
use lib.IntN.{ℤ}
use lib.ListN.{get_or, drop, length}
use lib.Seq.{take_at}
use borrow.Author.Tests.{eqb-true}
use Rattle.base.specs.Tests.{pick}
use Rattle.base.specs.Numbers.{first_of}
use Rattle.base.proofs.Tests.{true_not, neither}
use Rattle.base.proofs.Numbers.{none_first}
use Rattle.text.specs.Decimal.{decimal, signed}
use Rattle.text.proofs.Decimals.{Plain, decimal_plain, decimal_apart, signed_plain, signed_apart, no_minus}
use Rattle.nest.specs.Reader.{nest_of, read_lines}
use Rattle.nest.proofs.Numbered.{numbered}
use Rattle.nest.specs.Shape.{in_shape}
use Rattle.text.specs.Grid.{Frame, ncols, nrows, xllcorner, yllcorner, cellsize, nodata, missing}
use Rattle.text.specs.Grid.{head_line, header, cell, more, row, rows_from, grid_text}
use Rattle.chart.specs.grid_text.Text.{frame_of, chart_text}
use Rattle.chart.specs.Call.{not_charted, told_of, write_lines, written_if, write_call}
use Rattle.chart.specs.Apart.{Same, text_of, SameInputs, TextsApart}
use Rattle.chart.proofs.Splits.{Parted, split, cut_same, head_split}
use Rattle.chart.proofs.grid_text.Lengths.{cells_are}
use Rattle.chart.proofs.Answers.{none_behind}

missing_plain : Plain missing
missing_plain = (omega arith, (omega arith, (omega arith, (omega arith, (omega arith, tt)))))

either_plain : (t : Bool) (l : List ℕ) → Plain l → Plain (pick t l missing)
unfolding pick
either_plain true l h = h
either_plain false l h = missing_plain

cell_plain : (a : List ℕ) (o : ℕ → Bool) (c : ℕ) → Plain (cell a o c)
unfolding cell
cell_plain a o c = either_plain _ (decimal (get_or a c 0)) (decimal_plain (get_or a c 0))

-- one cell's text tells whether it is in the shape, and its value there
module _ (a b : List ℕ) (o p : ℕ → Bool) (c : ℕ) (e : cell a o c ≡ cell b p c) where
  cell_tells : (o c ≡ p c) × (o c ≡ true → get_or a c 0 ≡ get_or b c 0)
  unfolding cell pick
  cell_tells = go (o c) (p c) refl refl e
    where
      go : (t u : Bool) → o c ≡ t → p c ≡ u → pick t (decimal (get_or a c 0)) missing ≡ pick u (decimal (get_or b c 0)) missing
          → (t ≡ u) × (t ≡ true → get_or a c 0 ≡ get_or b c 0)
      go true true i j k = (refl, λ _. decimal_apart _ _ k)
      go true false i j k = absurd (no_minus (get_or a c 0) _ k)
      go false true i j k = absurd (no_minus (get_or b c 0) _ (sym k))
      go false false i j k = (refl, λ z. absurd (false≢true z))

-- ---- rows

module _ (a b : List ℕ) (o p : ℕ → Bool) where
  -- the texts of the n cells from place c on agree
  abbrev Agree : ℕ → ℕ → Type 0
  Agree c n = (i : ℕ) → c ≤ i → i < c + n → cell a o i ≡ cell b p i

  agree_none : (c : ℕ) → Agree c 0
  agree_none c i h l = absurd (omega arith)

  agree_first : (c n : ℕ) → cell a o c ≡ cell b p c → Agree (suc c) n → Agree c (suc n)
  agree_first c n e r i h l = go (eq-or-lt_of_le h)
    where
      go : (c ≡ i) ⊎ (c < i) → cell a o i ≡ cell b p i
      go (inl k) = rw (← k) e
      go (inr k) = r i k (omega arith)

  agree_both : (c m n : ℕ) → Agree c m → Agree (c + m) n → Agree c (m + n)
  agree_both c m n q r i h l = go (dec_lt i (c + m))
    where
      go : Dec (i < c + m) → cell a o i ≡ cell b p i
      go (yes k) = q i h k
      go (no k) = r i (omega arith) (omega arith)

  more_parted : (l : List ℕ) (k : ℕ → Bool) (c n : ℕ) (s : List ℕ) → Parted (more l k c n ++ s)
  unfolding more
  more_parted l k c zero s = omega arith
  more_parted l k c (suc n) s = omega arith

  more_apart : (n c : ℕ) (s t : List ℕ) → more a o c n ++ s ≡ more b p c n ++ t → Agree c n × (s ≡ t)
  unfolding more
  more_apart zero c s t e = (agree_none c, cc)
  more_apart (suc n) c s t e =
      let e₁ : (cell a o c ++ more a o (suc c) n) ++ s ≡ (cell b p c ++ more b p (suc c) n) ++ t = cc in
      let e₂ : cell a o c ++ (more a o (suc c) n ++ s) ≡ cell b p c ++ (more b p (suc c) n ++ t) = simp append_assoc at e₁ in
      let r = split (cell a o c) (cell b p c) (more a o (suc c) n ++ s) (more b p (suc c) n ++ t) (cell_plain a o c) (cell_plain b p c)
      (more_parted a o (suc c) n s) (more_parted b p (suc c) n t) e₂ in
      let i = more_apart n (suc c) s t r.1 in
      (agree_first c n r.0 i.0, i.1)

  row_apart : (n c : ℕ) (s t : List ℕ) → row a o c n ++ s ≡ row b p c n ++ t → Agree c n × (s ≡ t)
  unfolding row
  row_apart zero c s t e = (agree_none c, cc)
  row_apart (suc n) c s t e =
      let e₂ : cell a o c ++ (more a o (suc c) n ++ s) ≡ cell b p c ++ (more b p (suc c) n ++ t) = simp append_assoc at e in
      let r = split (cell a o c) (cell b p c) (more a o (suc c) n ++ s) (more b p (suc c) n ++ t) (cell_plain a o c) (cell_plain b p c)
      (more_parted a o (suc c) n s) (more_parted b p (suc c) n t) e₂ in
      let i = more_apart n (suc c) s t r.1 in
      (agree_first c n r.0 i.0, i.1)

  rows_apart : (n k c : ℕ) → rows_from a o n c k ≡ rows_from b p n c k → Agree c (k * n)
  unfolding rows_from
  rows_apart n zero c e = λ i h l. absurd (omega (arith, zero-mul n))
  rows_apart n (suc k) c e =
      let r = row_apart n c (rows_from a o n (c + n) k) (rows_from b p n (c + n) k) e in
      let i = rows_apart n k (c + n) r.1 in
      λ j h l. agree_both c n (k * n) r.0 i j h (omega (arith, suc-mul k n))

-- ---- the whole text

module _ (f g : Frame) (a b : List ℕ) (o p : ℕ → Bool) (e : grid_text f a o ≡ grid_text g b p) where
  -- the text with the header's lines one after another
  opened : (h : Frame) (l : List ℕ) (k : ℕ → Bool) → grid_text h l k
      ≡ head_line ncols (decimal h.columns)
      ++ (head_line nrows (decimal h.rows)
      ++ (head_line xllcorner (signed h.x)
      ++ (head_line yllcorner (signed h.y)
      ++ (head_line cellsize (decimal h.size)
      ++ (head_line nodata missing ++ rows_from l k h.columns 0 h.rows)))))
  unfolding grid_text header
  opened h l k = simp append_assoc

  pub no_two_share : Same f g a b o p
  no_two_share =
      let e₀ = sym (opened f a o) ∙ e ∙ opened g b p in
      let r₁ = head_split ncols _ _ _ _ (decimal_plain f.columns) (decimal_plain g.columns) e₀ in
      let r₂ = head_split nrows _ _ _ _ (decimal_plain f.rows) (decimal_plain g.rows) r₁.1 in
      let r₃ = head_split xllcorner _ _ _ _ (signed_plain f.x) (signed_plain g.x) r₂.1 in
      let r₄ = head_split yllcorner _ _ _ _ (signed_plain f.y) (signed_plain g.y) r₃.1 in
      let r₅ = head_split cellsize _ _ _ _ (decimal_plain f.size) (decimal_plain g.size) r₄.1 in
      let r₆ = cut_same (head_line nodata missing) _ _ r₅.1 in
      let columns : f.columns ≡ g.columns = decimal_apart _ _ r₁.0 in
      let rows : f.rows ≡ g.rows = decimal_apart _ _ r₂.0 in
      let cells : rows_from a o f.columns 0 f.rows ≡ rows_from b p f.columns 0 f.rows =
      r₆ ∙ ap (λ (n : ℕ). rows_from b p n 0 g.rows) (sym columns) ∙ ap (rows_from b p f.columns 0) (sym rows) in
      let agree = rows_apart a b o p f.columns f.rows 0 cells in
      record {
        rows = rows;
        columns = columns;
        x = signed_apart f.x g.x r₃.0;
        y = signed_apart f.y g.y r₄.0;
        size = decimal_apart _ _ r₅.0;
        shape = λ c l. (cell_tells a b o p c (agree c (omega arith) (omega arith))).0;
        values = λ c l. (cell_tells a b o p c (agree c (omega arith) (omega arith))).1;
      }

-- ---- two calls with one recipe

flat_write : (bytes a : List ℕ) (x y : ℤ) (size : ℕ) (s : List ℕ) → first_of (write_lines bytes a x y size s) ≡ 0 → (nest_of bytes).dimensions ≡ 2
unfolding not_charted
flat_write bytes a x y size s e =
    let n = none_first 23 (not_charted (nest_of bytes) size) _ (λ q. omega arith) (none_behind (read_lines bytes) _ (numbered bytes) e) in
    eqb-true _ _ (true_not (neither n.0).0)

told_number : (n : ℕ) (text s : List ℕ) → (written_if n text s).told.number ≡ n
unfolding written_if told_of
told_number zero text s = refl
told_number (suc n) text s = refl

-- the bytes that a call tells of are the text
front : (n : ℕ) (text s : List ℕ) → n ≡ 0 → text_of (written_if n text s) ≡ text
unfolding written_if told_of
front zero text s e = take_at text (drop (length text) s) (length text) refl
front (suc n) text s e = absurd (omega arith)

module _ (bytes a : List ℕ) (x y : ℤ) (size : ℕ) (s : List ℕ) (e : (write_call bytes a x y size s).told.number ≡ 0) where
  none : first_of (write_lines bytes a x y size s) ≡ 0
  unfolding write_call
  none = sym (told_number _ (chart_text (nest_of bytes) a x y size) s) ∙ e

  is_text : text_of (write_call bytes a x y size s) ≡ chart_text (nest_of bytes) a x y size
  unfolding write_call
  is_text = front _ (chart_text (nest_of bytes) a x y size) s none

-- one recipe, no line of a call for the first grid holds, and the texts are equal
pub same_text : (bytes a b : List ℕ) (x y u v : ℤ) (size other : ℕ) (s : List ℕ) → first_of (write_lines bytes a x y size s) ≡ 0
    → chart_text (nest_of bytes) a x y size ≡ chart_text (nest_of bytes) b u v other → SameInputs bytes a b x y u v size other
same_text bytes a b x y u v size other s z e =
    let nest = nest_of bytes in
    let same = no_two_share (frame_of nest x y size) (frame_of nest u v other) a b (in_shape nest) (in_shape nest) e in
    record {
      corner_x = same.x;
      corner_y = same.y;
      sizes = same.size;
      values = λ c h i. same.values c (omega (arith, h, cells_are nest (flat_write bytes a x y size s z))) i;
    }

pub demand211 : TextsApart
demand211 =
    record {
      apart = λ bytes a b x y u v size other s t m n e.
          same_text bytes a b x y u v size other s (none bytes a x y size s m)
          (sym (is_text bytes a x y size s m) ∙ e ∙ is_text bytes b u v other t n);
    }
