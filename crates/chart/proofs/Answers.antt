-- The calls' answers: each way out of the code gives what the definition says.
use Prim.Native.Nat.{ℕ, zero, suc, ◌*◌, ◌≤◌, ◌<◌}
use mathlib.Core.Path.{◌≡◌, refl, sym, ap, ◌∙◌}
use mathlib.Core.Logic.{◌≢◌, ◌⊎◌, inl, inr}
use mathlib.Core.Bool.{Bool, true, false}
use mathlib.Core.List.{List, [], ◌∷◌, ◌++◌}
use native.Mathlib.Omega.{arith}
use native.Mathlib.Decide.{ℕ_discrete}
use lib.ListN.{length, drop}
use lib.IntN.{ℤ}
use lib.Dec.{eqb, ltb}
use mir.Syntax.{w32}
use mir.Val.{SFits, to_z, of_z}
use mir.ValLaws.{to_z-of_z}
use borrow.Author.Tests.{eqb-true, eq-eqb, ne_eqb, lt-ltb, le-ltb}
use Rattle.std.specs.Prelude.{Result, Ok, Err, IfOk, OnErr, MatchResult}
use Rattle.base.specs.Tests.{◌or◌, not, pick}
use Rattle.base.specs.declared.refusal.Refusal.{Refusal}
use Rattle.base.specs.Refusals.{code, number_of}
use Rattle.base.proofs.Codes.{code_some}
use Rattle.base.specs.Numbers.{Line, line, first_of}
use Rattle.base.proofs.Tests.{or_left, or_right, or_false, not-true, not-false, true_not, neither}
use Rattle.base.proofs.Numbers.{Numbered, first_true, first_false, first_some, first_behind, none_first}
pub use Rattle.base.proofs.Numbers.{none_front, none_behind}
use Rattle.text.specs.Writing.{Pen, pen, write}
use Rattle.text.proofs.Pens.{write_at, write_front}
use Rattle.nest.specs.declared.Nest.{Nest}
use Rattle.nest.specs.Nest.{length_of, cells}
use Rattle.nest.specs.Reader.{read_lines, nest_of, Reads}
use Rattle.nest.proofs.Numbered.{numbered}
use Rattle.nest.proofs.Answers.{nest_read, refused_read}
use Rattle.chart.specs.declared.Told.{Told}
use Rattle.chart.specs.grid_text.Text.{chart_text}
use Rattle.chart.specs.Call.{not_charted, wrong_grid, measure_lines, told_of, length_lines, length_call, write_lines, Written, written, written_if, write_call}
use Rattle.chart.proofs.grid_text.Lengths.{cells_are}

same_told : (a b c d : ℕ) → a ≡ b → c ≡ d → ◌≡◌ {A = Told} (record { number = a; length = c }) (record { number = b; length = d })
same_told a b c d p q = rw (p, q)

told_no : (r : Told) (n : ℕ) (text : List ℕ) → n ≢ 0 → r.number ≡ n → r.length ≡ 0 → r ≡ told_of n text
unfolding told_of
told_no r zero text h p q = absurd (h refl)
told_no r (suc n) text h p q = same_told r.number (suc n) r.length 0 p q

told_yes : (r : Told) (n : ℕ) (text : List ℕ) → n ≡ 0 → r.number ≡ n → r.length ≡ length text → r ≡ told_of n text
unfolding told_of
told_yes r zero text e p q = same_told r.number 0 r.length (length text) p q
told_yes r (suc n) text e p q = absurd (omega arith)

number_told : (n : ℕ) (text : List ℕ) → (told_of n text).number ≡ n
unfolding told_of
number_told zero text = refl
number_told (suc n) text = refl

pub length_told : (n : ℕ) (text : List ℕ) → n ≡ 0 → (told_of n text).length ≡ length text
unfolding told_of
length_told zero text e = refl
length_told (suc n) text e = absurd (omega arith)

-- ---- what `tell` makes of an answer

abbrev pub Tells : Told → Result ℕ Refusal → Type 0
Tells t answer = MatchResult answer (λ n. t.length ≡ n) (λ _. t.length ≡ 0)

told_is : (text : List ℕ) (k : ℕ) (answer : Result ℕ Refusal) (t : Told) → t.number ≡ number_of answer → Tells t answer → number_of answer ≡ k
    → IfOk answer (λ n. n ≡ length text) → t ≡ told_of k text
told_is text k (Ok n) t a b e h = told_yes t k text (sym e) (a ∙ e) (b ∙ h)
told_is text k (Err r) t a b e h = told_no t k text (λ z. code_some r (e ∙ z)) (a ∙ e) b

-- ---- lines 23 and 9 of a nest

module _ (nest : Nest) (g : List ℕ) (size : ℕ) where
  line_23 : not_charted nest size ≡ true → 23 ≡ first_of (measure_lines nest g size)
  line_23 e = sym (first_true 23 _ _ e)

  pub not_flat : nest.dimensions ≢ 2 → 23 ≡ first_of (measure_lines nest g size)
  unfolding not_charted
  not_flat h = line_23 (or_left _ (not-false (ne_eqb _ _ h)))

  pub size_zero : size ≡ 0 → 23 ≡ first_of (measure_lines nest g size)
  unfolding not_charted
  size_zero e = line_23 (or_right _ (or_left _ (eq-eqb _ _ e)))

  pub size_large : 65535 < size → 23 ≡ first_of (measure_lines nest g size)
  unfolding not_charted
  size_large h = line_23 (or_right _ (or_right _ (lt-ltb _ _ h)))

  module _ (flat : nest.dimensions ≡ 2) where
    pub grid_right : length g ≡ length_of nest 0 * length_of nest 1 → length g ≡ cells nest
    grid_right e = e ∙ sym (cells_are nest flat)

    module _ (some : size ≢ 0) (low : size ≤ 65535) where
      charted : not_charted nest size ≡ false
      unfolding not_charted
      charted = or_false (not-true (eq-eqb _ _ flat)) (or_false (ne_eqb _ _ some) (le-ltb _ _ low))

      pub grid_wrong : length g ≢ length_of nest 0 * length_of nest 1 → 9 ≡ first_of (measure_lines nest g size)
      unfolding wrong_grid
      grid_wrong h =
          sym (first_false 23 _ _ charted ∙ first_true 9 _ _ (not-false (ne_eqb _ _ (λ q. h (q ∙ cells_are nest flat)))))

      pub no_line : length g ≡ length_of nest 0 * length_of nest 1 → 0 ≡ first_of (measure_lines nest g size)
      unfolding wrong_grid first_of
      no_line e =
          sym (first_false 23 (not_charted nest size) (line 9 (wrong_grid nest g) ∷ []) charted
          ∙ first_false 9 (not (eqb (length g) (cells nest))) [] (not-true (eq-eqb _ _ (grid_right e))))

  -- where neither line holds, the nest has two dimensions and the grid one word a cell
  module _ (none : 0 ≡ first_of (measure_lines nest g size)) where
    first : (not_charted nest size ≡ false) × (first_of (line 9 (wrong_grid nest g) ∷ []) ≡ 0)
    first = none_first 23 (not_charted nest size) (line 9 (wrong_grid nest g) ∷ []) (λ q. omega arith) (sym none)

    pub two : nest.dimensions ≡ 2
    unfolding not_charted
    two = eqb-true _ _ (true_not (neither first.0).0)

    pub a_word_a_cell : length g ≡ cells nest
    unfolding wrong_grid
    a_word_a_cell = eqb-true _ _ (true_not (none_first 9 (not (eqb (length g) (cells nest))) [] (λ q. omega arith) first.1).0)

-- the text that was put, with the corners as the machine reads them back
module _ (nest : Nest) (g : List ℕ) (x y : ℤ) (size : ℕ) (q : ℕ) (s t : List ℕ) (fx : SFits w32 x) (fy : SFits w32 y)
    (w : pen q t ≡ write (pen 0 s) (chart_text nest g (to_z w32 (of_z w32 x)) (to_z w32 (of_z w32 y)) size)) where
  pub text_put : pen q t ≡ write (pen 0 s) (chart_text nest g x y size)
  text_put = rw (to_z-of_z w32 x fx, to_z-of_z w32 y fy) at w

  pub length_put : q ≡ length (chart_text nest g x y size)
  length_put = ap (λ (z : Pen). z.at) text_put ∙ write_at (pen 0 s) (chart_text nest g x y size) ∙ omega arith

-- ---- the reader's lines before them

before : {l : List ℕ} {e : Refusal} → Reads l (Err e) → (more : List Line) → code e ≡ first_of (read_lines l ++ more)
before {l = l} is more = is.number ∙ sym (first_some (read_lines l) more (refused_read is))

behind : {l : List ℕ} {nest : Nest} → Reads l (Ok nest) → (more : List Line) → first_of (read_lines l ++ more) ≡ first_of more
behind {l = l} is more = first_behind (read_lines l) more (numbered l) (sym is.number)

pub length_read : {l : List ℕ} {e : Refusal} → Reads l (Err e) → (g : List ℕ) (size : ℕ) → code e ≡ first_of (length_lines l g size)
length_read is g size = before is _

module _ {l : List ℕ} {nest : Nest} (is : Reads l (Ok nest)) (g : List ℕ) (size : ℕ) where
  -- what `measured` answered
  module _ (k : ℕ) (e : k ≡ first_of (measure_lines nest g size)) where
    pub lines_of : k ≡ first_of (measure_lines (nest_of l) g size)
    lines_of = e ∙ ap (λ (n : Nest). first_of (measure_lines n g size)) (nest_read is)

    pub length_lines_of : k ≡ first_of (length_lines l g size)
    length_lines_of = lines_of ∙ sym (behind is _)

  module _ (x y : ℤ) (fx : SFits w32 x) (fy : SFits w32 y) where
    text_is : chart_text nest g (to_z w32 (of_z w32 x)) (to_z w32 (of_z w32 y)) size ≡ chart_text (nest_of l) g x y size
    text_is = rw (to_z-of_z w32 x fx, to_z-of_z w32 y fy) (ap (λ (n : Nest). chart_text n g x y size) (nest_read is))

    pub text_length : (n : ℕ) → n ≡ length (chart_text nest g (to_z w32 (of_z w32 x)) (to_z w32 (of_z w32 y)) size)
        → n ≡ length (chart_text (nest_of l) g x y size)
    text_length n h = h ∙ ap length text_is

    pub length_of_text : (answer : Result ℕ Refusal)
        → IfOk answer (λ n. n ≡ length (chart_text nest g (to_z w32 (of_z w32 x)) (to_z w32 (of_z w32 y)) size))
        → IfOk answer (λ n. n ≡ length (chart_text (nest_of l) g x y size))
    length_of_text (Ok n) h = text_length n h
    length_of_text (Err e) h = tt

-- what `text_length` answered, told
pub length_answer : (l g : List ℕ) (x y : ℤ) (size : ℕ) (answer : Result ℕ Refusal) (t : Told) → t.number ≡ number_of answer → Tells t answer
    → number_of answer ≡ first_of (length_lines l g size) → IfOk answer (λ n. n ≡ length (chart_text (nest_of l) g x y size))
    → t ≡ length_call l g x y size
unfolding length_call
length_answer l g x y size answer t a b e h = told_is (chart_text (nest_of l) g x y size) _ answer t a b e h

-- ---- the text

-- 9 for the grid, and 9 for the space, are one line
module _ (a b c : Bool) where
  pair : Bool → ℕ
  pair d = first_of (line 23 a ∷ line 9 d ∷ [])

  kept : pair b ≢ 0 → pair (b or c) ≡ pair b
  unfolding pair first_of pick ◌or◌
  kept h = go a b c h
    where
      go : (a b c : Bool) → first_of (line 23 a ∷ line 9 b ∷ []) ≢ 0 → first_of (line 23 a ∷ line 9 (b or c) ∷ []) ≡ first_of (line 23 a ∷ line 9 b ∷ [])
      go true b c h = refl
      go false true c h = refl
      go false false c h = absurd (h refl)

  late : pair b ≡ 0 → (d : Bool) → c ≡ d → pair (b or c) ≡ pick d 9 0
  unfolding pair first_of pick ◌or◌
  late z d e = go a b c z d e
    where
      go : (a b c : Bool) → first_of (line 23 a ∷ line 9 b ∷ []) ≡ 0 → (d : Bool) → c ≡ d → first_of (line 23 a ∷ line 9 (b or c) ∷ []) ≡ pick d 9 0
      go true b c z d e = absurd (omega arith)
      go false true c z d e = absurd (omega arith)
      go false false c z true e = rw e
      go false false c z false e = rw e

pub write_read : {l : List ℕ} {e : Refusal} → Reads l (Err e) → (g : List ℕ) (x y : ℤ) (size : ℕ) (s : List ℕ)
    → code e ≡ first_of (write_lines l g x y size s)
write_read is g x y size s = before is _

module _ {l : List ℕ} {nest : Nest} (is : Reads l (Ok nest)) (g : List ℕ) (x y : ℤ) (size : ℕ) (s : List ℕ) where
  abbrev its_text : List ℕ
  its_text = chart_text (nest_of l) g x y size

  pub write_fault : (r : Refusal) → code r ≡ first_of (measure_lines nest g size) → code r ≡ first_of (write_lines l g x y size s)
  unfolding pair
  write_fault r e =
      let f = lines_of is g size (code r) e in
      f
      ∙ sym (behind is _ ∙ kept (not_charted (nest_of l) size) (wrong_grid (nest_of l) g) (ltb (length s) (length its_text)) (λ z. code_some r (f ∙ z)))

  module _ (e : 0 ≡ first_of (measure_lines nest g size)) where
    none : first_of (measure_lines (nest_of l) g size) ≡ 0
    none = sym (lines_of is g size 0 e)

    pub write_short : length s < length its_text → 9 ≡ first_of (write_lines l g x y size s)
    unfolding pair pick
    write_short h =
        sym (behind is _
        ∙ late (not_charted (nest_of l) size) (wrong_grid (nest_of l) g) (ltb (length s) (length its_text)) none true (lt-ltb (length s) (length its_text) h))

    pub write_long : length its_text ≤ length s → 0 ≡ first_of (write_lines l g x y size s)
    unfolding pair pick
    write_long h =
        sym (behind is _
        ∙ late (not_charted (nest_of l) size) (wrong_grid (nest_of l) g) (ltb (length s) (length its_text)) none false (le-ltb (length s) (length its_text) h))

  pub front_written : (fx : SFits w32 x) (fy : SFits w32 y) (q : ℕ) (t : List ℕ)
      → pen q t ≡ write (pen 0 s) (chart_text nest g (to_z w32 (of_z w32 x)) (to_z w32 (of_z w32 y)) size) → length its_text ≤ length s
      → t ≡ its_text ++ drop (length its_text) s
  front_written fx fy q t w f =
      let w' : pen q t ≡ write (pen 0 s) its_text = w ∙ ap (write (pen 0 s)) (text_is is g size x y fx fy) in
      ap (λ (z : Pen). z.space) w' ∙ write_front s its_text f

-- what `write_text` answered, told
module _ (l g : List ℕ) (x y : ℤ) (size : ℕ) (s : List ℕ) where
  abbrev told_text : List ℕ
  told_text = chart_text (nest_of l) g x y size

  pub write_told : (answer : Result ℕ Refusal) (t : Told) (u : List ℕ) → t.number ≡ number_of answer → Tells t answer
      → number_of answer ≡ first_of (write_lines l g x y size s) → IfOk answer (λ n. n ≡ length told_text)
      → IfOk answer (λ n. u ≡ told_text ++ drop n s) → OnErr answer (u ≡ s) → written t u ≡ write_call l g x y size s
  unfolding write_call written_if
  write_told (Ok n) t u a b e h k q =
      rw (told_yes t 0 told_text refl a (b ∙ h), k, h, sym e) refl
  write_told (Err r) t u a b e h k q = go (first_of (write_lines l g x y size s)) e
    where
      go : (m : ℕ) → code r ≡ m → written t u ≡ written_if m told_text s
      go zero z = absurd (code_some r z)
      go (suc m) z = rw (told_no t (suc m) told_text (λ o. omega (arith, o)) (a ∙ z) b, q) refl

-- ---- what a caller has of the two calls

module _ (l g : List ℕ) (x y : ℤ) (size : ℕ) (t : Told) (e : t ≡ length_call l g x y size) where
  pub length_number : t.number ≡ first_of (length_lines l g size)
  unfolding length_call
  length_number = ap (λ (z : Told). z.number) e ∙ number_told _ (chart_text (nest_of l) g x y size)

  pub length_length : t.number ≡ 0 → t.length ≡ length (chart_text (nest_of l) g x y size)
  unfolding length_call
  length_length h =
      ap (λ (z : Told). z.length) e ∙ length_told _ (chart_text (nest_of l) g x y size) (sym length_number ∙ h)

written_number : (n : ℕ) (text s : List ℕ) → (written_if n text s).told.number ≡ n
unfolding written_if told_of
written_number zero text s = refl
written_number (suc n) text s = refl

written_left : (n : ℕ) (text s : List ℕ) → n ≢ 0 → (written_if n text s).space ≡ s
unfolding written_if
written_left zero text s h = absurd (h refl)
written_left (suc n) text s h = refl

written_wrote : (n : ℕ) (text s : List ℕ) → n ≡ 0 → written_if n text s ≡ written (told_of 0 text) (text ++ drop (length text) s)
unfolding written_if
written_wrote zero text s h = refl
written_wrote (suc n) text s h = absurd (omega arith)

module _ (l g : List ℕ) (x y : ℤ) (size : ℕ) (s : List ℕ) (t : Told) (u : List ℕ) (e : written t u ≡ write_call l g x y size s) where
  abbrev its : List ℕ
  its = chart_text (nest_of l) g x y size

  pub write_number : t.number ≡ first_of (write_lines l g x y size s)
  unfolding write_call
  write_number = ap (λ (z : Written). z.told.number) e ∙ written_number _ its s

  pub write_left : t.number ≢ 0 → u ≡ s
  unfolding write_call
  write_left h = ap (λ (z : Written). z.space) e ∙ written_left _ its s (λ q. h (write_number ∙ q))

  whole : t.number ≡ 0 → written t u ≡ written (told_of 0 its) (its ++ drop (length its) s)
  unfolding write_call
  whole h = e ∙ written_wrote _ its s (sym write_number ∙ h)

  pub write_wrote : t.number ≡ 0 → u ≡ its ++ drop (length its) s
  write_wrote h = ap (λ (z : Written). z.space) (whole h)

  pub write_length : t.number ≡ 0 → t.length ≡ length its
  write_length h = ap (λ (z : Written). z.told.length) (whole h) ∙ length_told 0 its refl

-- a line of the call for the length is one of the other call's
module _ (l g : List ℕ) (x y : ℤ) (size : ℕ) (s : List ℕ) where
  abbrev behind_read : List Line
  behind_read =
      line 23 (not_charted (nest_of l) size)
      ∷ line 9 (wrong_grid (nest_of l) g or ltb (length s) (length (chart_text (nest_of l) g x y size)))
      ∷ []

  pub lines_kept : first_of (length_lines l g size) ≢ 0 → first_of (write_lines l g x y size s) ≡ first_of (length_lines l g size)
  unfolding pair
  lines_kept h = go (ℕ_discrete (first_of (read_lines l)) 0)
    where
      go : Dec (first_of (read_lines l) ≡ 0) → first_of (write_lines l g x y size s) ≡ first_of (length_lines l g size)
      go (no k) = first_some (read_lines l) behind_read k ∙ sym (first_some (read_lines l) (measure_lines (nest_of l) g size) k)
      go (yes z) =
          let e = first_behind (read_lines l) (measure_lines (nest_of l) g size) (numbered l) z in
          first_behind (read_lines l) behind_read (numbered l) z
          ∙ kept (not_charted (nest_of l) size) (wrong_grid (nest_of l) g) (ltb (length s) (length (chart_text (nest_of l) g x y size))) (λ q. h (e ∙ q))
          ∙ sym e

  pub lines_late : first_of (length_lines l g size) ≡ 0 → (first_of (write_lines l g x y size s) ≡ 0) ⊎ (first_of (write_lines l g x y size s) ≡ 9)
  unfolding pair pick
  lines_late h = go (ltb (length s) (length (chart_text (nest_of l) g x y size))) refl
    where
      behind_none : first_of (measure_lines (nest_of l) g size) ≡ 0
      behind_none = none_behind (read_lines l) (measure_lines (nest_of l) g size) (numbered l) h

      first_none : first_of (read_lines l) ≡ 0
      first_none = none_front (read_lines l) (measure_lines (nest_of l) g size) h

      go : (d : Bool) → ltb (length s) (length (chart_text (nest_of l) g x y size)) ≡ d
          → (first_of (write_lines l g x y size s) ≡ 0) ⊎ (first_of (write_lines l g x y size s) ≡ 9)
      go true e =
          inr (first_behind (read_lines l) behind_read (numbered l) first_none
          ∙ late (not_charted (nest_of l) size) (wrong_grid (nest_of l) g) (ltb (length s) (length (chart_text (nest_of l) g x y size))) behind_none true e)
      go false e =
          inl (first_behind (read_lines l) behind_read (numbered l) first_none
          ∙ late (not_charted (nest_of l) size) (wrong_grid (nest_of l) g) (ltb (length s) (length (chart_text (nest_of l) g x y size))) behind_none false e)

  pub write_numbered : Numbered (write_lines l g x y size s)
  write_numbered = go (read_lines l) (numbered l)
    where
      go : (a : List Line) → Numbered a → Numbered (a ++ behind_read)
      go [] n = (λ q. omega arith, (λ q. omega arith, tt))
      go (k ∷ a) n = (n.0, go a n.1)

pub length_numbered : (l g : List ℕ) (size : ℕ) → Numbered (length_lines l g size)
length_numbered l g size = go (read_lines l) (numbered l)
  where
    go : (a : List Line) → Numbered a → Numbered (a ++ measure_lines (nest_of l) g size)
    go [] n = (λ q. omega arith, (λ q. omega arith, tt))
    go (k ∷ a) n = (n.0, go a n.1)
