-- No text is longer than 180,322 bytes.
use Prim.Native.Nat.{ℕ, zero, suc, ◌≤◌}
use mathlib.Core.Path.{◌≡◌, refl}
use mathlib.Core.List.{List}
use native.Mathlib.Omega.{arith}
use lib.IntN.{ℤ}
use lib.ListN.{length}
use mir.Syntax.{w32}
use mir.Val.{SFits}
use borrow.Author.Tests.{eqb-true, ltb-false}
use Rattle.base.specs.Lists.{Bytes}
use Rattle.base.specs.Numbers.{first_of}
use Rattle.base.proofs.Tests.{true_not, neither}
use Rattle.base.proofs.Numbers.{none_first}
use Rattle.nest.specs.Reader.{read_lines, nest_of}
use Rattle.nest.proofs.Facts.{accepted}
use Rattle.nest.proofs.Numbered.{numbered}
use Rattle.chart.specs.grid_text.Text.{chart_text}
use Rattle.chart.specs.Call.{not_charted, measure_lines, told_of, length_lines, length_call}
use Rattle.chart.specs.Longest.{Longest}
use Rattle.text.proofs.Digits.{size_few}
use Rattle.chart.proofs.grid_text.Lengths.{Words, text_few}
use Rattle.chart.proofs.Answers.{none_front, none_behind}

module _ (bytes g : List ℕ) (x y : ℤ) (size : ℕ) (b : Bytes bytes) (words : Words g) (fx : SFits w32 x) (fy : SFits w32 y) where
  abbrev text : List ℕ
  text = chart_text (nest_of bytes) g x y size

  short : first_of (length_lines bytes g size) ≡ 0 → length text ≤ 180322
  unfolding not_charted
  short z =
      let behind = none_behind (read_lines bytes) (measure_lines (nest_of bytes) g size) (numbered bytes) z in
      let fine = neither (none_first 23 (not_charted (nest_of bytes) size) _ (λ q. omega arith) behind).0 in
      let low = ltb-false 65535 size (neither fine.1).1 in
      omega (
        arith,
        text_few (nest_of bytes) (accepted bytes b (none_front (read_lines bytes) (measure_lines (nest_of bytes) g size) z))
            (eqb-true _ _ (true_not fine.0)) x y fx fy size 5 (size_few size low) g words,
      )

  told : (n : ℕ) → (n ≡ 0 → length text ≤ 180322) → (told_of n text).length ≤ 180322
  unfolding told_of
  told zero h = h refl
  told (suc n) h = omega arith

  pub not_longer : (length_call bytes g x y size).length ≤ 180322
  unfolding length_call
  not_longer = told (first_of (length_lines bytes g size)) short

pub longest : Longest
longest = record { most = λ bytes g x y size b words fx fy. not_longer bytes g x y size b words fx fy }
