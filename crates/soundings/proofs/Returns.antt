-- The returns of the call, each by the line that counts.
use Prim.Native.Nat.{ℕ, ◌≤◌, ◌<◌}
use Rattle.std.specs.Prelude.{Ok}
use mathlib.Core.Path.{◌≡◌, refl, sym, ap, ◌∙◌}
use mathlib.Core.Logic.{◌≢◌}
use mathlib.Core.Bool.{Bool, true, false}
use mathlib.Core.List.{List, [], ◌∷◌, ◌++◌}
use native.Mathlib.Omega.{arith}
use lib.ListN.{length}
use lib.Dec.{eqb, leb}
use borrow.Author.Tests.{eq-eqb, ne_eqb, leb-false}
use Rattle.base.specs.Tests.{◌or◌, not, product}
use Rattle.base.specs.Numbers.{line, first_of}
use Rattle.base.proofs.Tests.{or_right, none_some, not-true, not-false, pick_true, pick_false}
use Rattle.base.proofs.Numbers.{first_nil, first_true, first_false, none_first, first_some, first_behind, none_behind}
use Rattle.machine.specs.Machine.{Answered, answered}
use Rattle.nest.specs.declared.Nest.{Nest}
use Rattle.nest.specs.Nest.{cells}
use Rattle.nest.specs.Reader.{records, nest_of, ragged, read_lines, Reads}
use Rattle.nest.proofs.Answers.{nest_read, accepted_read}
use Rattle.nest.proofs.Numbered.{numbered}
use Rattle.layout.specs.Places.{nth}
use Rattle.soundings.specs.Soundings.{cell_of, sounded_source, ragged_file, off_box, source_lines, fill_lines, filled, fill_call}

refused : (k : ℕ) (new old : List ℕ) → k ≢ 0 → filled k old ≡ answered k new old
refused k new old h = ap (filled k) (sym (pick_false _ new old (ne_eqb k 0 h)))

done : (k : ℕ) (new old : List ℕ) → k ≡ 0 → filled 0 new ≡ answered k new old
done k new old h = rw h (ap (filled 0) (sym (pick_true (eqb 0 0) new old refl)))

or_none : (a b : Bool) → b ≡ false → (a or b) ≡ a
unfolding ◌or◌
or_none true b e = refl
or_none false b e = e

-- a file that is not ragged: the reader's lines as they stand, then the source's
pub lines_are : (bytes file source : List ℕ) → ragged_file file ≡ false
    → fill_lines bytes file source ≡ read_lines bytes ++ source_lines (cells (nest_of bytes)) file source
unfolding read_lines
lines_are bytes file source h = rw (or_none (ragged bytes) (ragged_file file) h)

pub ragged_number : (bytes file source : List ℕ) → ragged_file file ≡ true → first_of (fill_lines bytes file source) ≡ 1
ragged_number bytes file source h = first_true 1 (ragged bytes or ragged_file file) _ (or_right (ragged bytes) h)

-- number 0: every record names a cell of the box
module _ (bytes file source : List ℕ) (z : first_of (fill_lines bytes file source) ≡ 0) where
  none_off : off_box (cells (nest_of bytes)) file ≡ false
  none_off = go (ragged_file file) refl
    where
      go : (t : Bool) → ragged_file file ≡ t → off_box (cells (nest_of bytes)) file ≡ false
      go true e = absurd (omega (arith, ragged_number bytes file source e, z))
      go false e =
          let a = none_behind (read_lines bytes) _ (numbered bytes) (sym (ap first_of (lines_are bytes file source e)) ∙ z) in
          let b = none_first 9 _ _ (λ q. omega arith) a in
          (none_first 22 _ _ (λ q. omega arith) b.1).0

  pub all_inside : (r : ℕ) → r < records file → cell_of file r < cells (nest_of bytes)
  unfolding off_box
  all_inside r l =
      leb-false _ _ (none_some (λ (q : ℕ). leb (cells (nest_of bytes)) (cell_of file q)) (records file) none_off r l)

module _ (bytes file : List ℕ) (value : ℕ) (source : List ℕ) where
  by_line : (k : ℕ) → first_of (fill_lines bytes file source) ≡ k → k ≢ 0 → filled k source ≡ fill_call bytes file value source
  unfolding fill_call
  by_line k e h = rw e (refused k _ source h)

  pub ragged_1 : ragged_file file ≡ true → filled 1 source ≡ fill_call bytes file value source
  ragged_1 h = by_line 1 (ragged_number bytes file source h) (λ e. omega arith)

  module _ (even : ragged_file file ≡ false) where
    first_is : first_of (fill_lines bytes file source) ≡ first_of (read_lines bytes ++ source_lines (cells (nest_of bytes)) file source)
    first_is = ap first_of (lines_are bytes file source even)

    pub read_number : (r : ℕ) → r ≡ first_of (read_lines bytes) → r ≢ 0 → filled r source ≡ fill_call bytes file value source
    read_number r e h = by_line r (first_is ∙ (first_some (read_lines bytes) _ (λ q. h (e ∙ q)) ∙ sym e)) h

    module _ (none : first_of (read_lines bytes) ≡ 0) where
      behind : first_of (fill_lines bytes file source) ≡ first_of (source_lines (cells (nest_of bytes)) file source)
      behind = first_is ∙ first_behind (read_lines bytes) _ (numbered bytes) none

      pub length_9 : length source ≢ cells (nest_of bytes) → filled 9 source ≡ fill_call bytes file value source
      length_9 h = by_line 9 (behind ∙ first_true 9 _ _ (not-false (ne_eqb _ _ h))) (λ e. omega arith)

      -- the rest is as for the source alone
      pub right : (a : Answered (List ℕ))
          → a ≡ answered (first_of (line 22 (off_box (length source) file) ∷ [])) (sounded_source file value (length source)) source
          → length source ≡ cells (nest_of bytes) → a ≡ fill_call bytes file value source
      unfolding fill_call
      right a e h =
          e
          ∙ (ap (λ (n : ℕ). answered (first_of (line 22 (off_box n file) ∷ [])) (sounded_source file value n) source) h
          ∙ ap (λ (k : ℕ). answered k (sounded_source file value (cells (nest_of bytes))) source)
          (sym (behind ∙ first_false 9 (not (eqb (length source) (cells (nest_of bytes)))) _ (not-true (eq-eqb _ _ h)))))

module _ (file : List ℕ) (value : ℕ) (source : List ℕ) where
  pub off_22 : off_box (length source) file ≡ true
      → filled 22 source
      ≡ answered (first_of (line 22 (off_box (length source) file) ∷ [])) (sounded_source file value (length source)) source
  off_22 h = rw (first_true 22 (off_box (length source) file) [] h) (refused 22 _ source (λ e. omega arith))

  pub filled_0 : off_box (length source) file ≡ false → (now : List ℕ) → now ≡ sounded_source file value (length source)
      → filled 0 now ≡ answered (first_of (line 22 (off_box (length source) file) ∷ [])) (sounded_source file value (length source)) source
  filled_0 h now e = ap (filled 0) e ∙ done _ _ source (first_false 22 (off_box (length source) file) [] h ∙ first_nil)

-- ---- the size of an accepted recipe's box

module _ {bytes : List ℕ} {x : Nest} (is : Reads bytes (Ok x)) (size : ℕ) (h : size ≡ product (nth x.lengths) x.dimensions) where
  pub size_is : size ≡ cells (nest_of bytes)
  unfolding cells
  size_is = h ∙ ap cells (nest_read is)

  pub size_most : (l : ℕ) → l ≡ size → l ≤ 16384
  unfolding cells
  size_most l e = rw (e ∙ h) (accepted_read is).cells_most
