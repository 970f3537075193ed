-- The exported calls for the charting desk do what W-211 demands.
use Rattle.std.specs.Prelude.{◌≡◌, ℕ, zero, suc, ◌≤◌, List, [], ◌++◌, length, take, drop, ℤ}
use mathlib.Core.Path.{refl, sym, ap, ◌∙◌}
use native.Mathlib.Omega.{arith}
use native.Mathlib.Decide.{ℕ_discrete}
use borrow.Author.Tests.{ltb-false}
use lib.Seq.{take_at}
use mir.Syntax.{w32}
use mir.Val.{SFits, to_z, of_z}
use mir.ValLaws.{to_z-of_z}
use Rattle.base.proofs.Tests.{neither}
use Rattle.base.specs.Numbers.{first_of}
use Rattle.base.proofs.Numbers.{first_true, first_behind, none_first, none_behind}
use Rattle.nest.specs.Reader.{nest_of, read_lines}
use Rattle.nest.proofs.Numbered.{numbered}
use Rattle.chart.specs.declared.Told.{Told}
use Rattle.chart.specs.grid_text.Text.{chart_text}
use Rattle.chart.specs.Call.{not_charted, told_of, length_lines, length_call, write_lines, written, written_if, write_call}
use Rattle.chart.proofs.Answers as C
use Rattle.chart.proofs.Apart.{same_text}
use Rattle.calls.specs.Tells.{Tells}
use Rattle.calls.specs.Gave.{ChartGave, ChartLengthGave}
use Rattle.calls.specs.Demand211.{tells, Charted, Demand211}
use Rattle.calls.proofs.Tells.{tells_by}

-- the corners as the machine reads them back
module _ (l g : List ℕ) (x y : ℤ) (size : ℕ) (fx : SFits w32 x) (fy : SFits w32 y) where
  pub length_back : (t : Told) → t ≡ length_call l g (to_z w32 (of_z w32 x)) (to_z w32 (of_z w32 y)) size → t ≡ length_call l g x y size
  length_back t e = rw (to_z-of_z w32 x fx, to_z-of_z w32 y fy) at e

  pub write_back : (s : List ℕ) (t : Told) (u : List ℕ)
      → written t u ≡ write_call l g (to_z w32 (of_z w32 x)) (to_z w32 (of_z w32 y)) size s → written t u ≡ write_call l g x y size s
  write_back s t u e = rw (to_z-of_z w32 x fx, to_z-of_z w32 y fy) at e

-- ---- what is told

told_none : (n : ℕ) (text : List ℕ) → told_of (suc n) text ≡ tells (suc n) 0
unfolding told_of
told_none n text = refl

told_done : (text : List ℕ) → told_of 0 text ≡ tells 0 (length text)
unfolding told_of
told_done text = refl

by_number : (n : ℕ) (text s : List ℕ) → (written_if n text s).told ≡ told_of n text
unfolding written_if
by_number zero text s = refl
by_number (suc n) text s = refl

module _ (bytes grid : List ℕ) (x y : ℤ) (size : ℕ) where
  abbrev text : List ℕ
  text = chart_text (nest_of bytes) grid x y size

  told_length : (t : Told) → ChartLengthGave bytes grid x y size t
      → Tells (λ t. t.number) (length_lines bytes grid size) (tells 0 (length text)) (λ n. tells n 0) t
  unfolding length_call
  told_length t e =
      tells_by (λ (t : Told). t.number) (λ n. told_of n text) (tells 0 (length text)) (λ n. tells n 0) (told_done text) (λ n. told_none n text) refl
      (λ n. refl) (length_lines bytes grid size) t e

  module _ (old : List ℕ) (t : Told) (space : List ℕ) (e : ChartGave bytes grid x y size old t space) where
    told_is : t ≡ told_of (first_of (write_lines bytes grid x y size old)) text
    unfolding write_call
    told_is = ap (λ w. w.told) e ∙ by_number (first_of (write_lines bytes grid x y size old)) text old

    number_is : t.number ≡ first_of (write_lines bytes grid x y size old)
    number_is = C.write_number bytes grid x y size old t space e

    number : Tells (λ t. t.number) (write_lines bytes grid x y size old) (tells 0 (length text)) (λ n. tells n 0) t
    number =
        tells_by (λ (t : Told). t.number) (λ n. told_of n text) (tells 0 (length text)) (λ n. tells n 0) (told_done text) (λ n. told_none n text) refl
        (λ n. refl) (write_lines bytes grid x y size old) t told_is

    -- where nothing is refused the space has room for the text
    roomy : t.number ≡ 0 → t.length ≤ length old
    roomy z =
        let q = none_first 23 (not_charted (nest_of bytes) size) _ (λ k. omega arith)
        (none_behind (read_lines bytes) _ (numbered bytes) (sym number_is ∙ z)) in
        let r = none_first 9 _ [] (λ k. omega arith) q.1 in
        omega (arith, C.write_length bytes grid x y size old t space e z, ltb-false (length old) (length text) (neither r.0).1)

    charted : Charted bytes grid x y size old t space
    charted =
        record {
          number = number;
          text = λ z. C.write_wrote bytes grid x y size old t space e z
              ∙ ap (λ (n : ℕ). text ++ drop n old) (sym (C.write_length bytes grid x y size old t space e z));
          fits = roomy;
          as_before = λ h. C.write_left bytes grid x y size old t space e h;
          first_23 = λ r k. number_is ∙ first_behind (read_lines bytes) _ (numbered bytes) r ∙ first_true 23 _ _ k;
        }

    -- the bytes written
    is_text : t.number ≡ 0 → take t.length space ≡ text
    is_text z =
        ap (λ (n : ℕ). take n space) (C.write_length bytes grid x y size old t space e z)
        ∙ ap (take (length text)) (C.write_wrote bytes grid x y size old t space e z)
        ∙ take_at text (drop (length text) old) (length text) refl

    -- the call for the length refuses nothing that this one did not
    measured : t.number ≡ 0 → first_of (length_lines bytes grid size) ≡ 0
    measured z = go (ℕ_discrete (first_of (length_lines bytes grid size)) 0)
      where
        go : Dec (first_of (length_lines bytes grid size) ≡ 0) → first_of (length_lines bytes grid size) ≡ 0
        go (yes q) = q
        go (no h) = absurd (h (sym (C.lines_kept bytes grid x y size old h) ∙ sym number_is ∙ z))

    same_length : (other : Told) → ChartLengthGave bytes grid x y size other → t.number ≡ 0 → other ≡ t
    same_length other g z = (told_length other g).works (measured z) ∙ sym (number.works (sym number_is ∙ z))

pub demand211 : Demand211
demand211 =
    record {
      chart = charted;
      length_of = told_length;
      same_length = λ bytes grid x y size old t other space e g z. same_length bytes grid x y size old t space e other g z;
      apart = λ bytes a b x y u v size other old old' space space' t t' e e' z z' q.
          same_text bytes a b x y u v size other old (sym (number_is bytes a x y size old t space e) ∙ z)
          (sym (is_text bytes a x y size old t space e z) ∙ q ∙ is_text bytes b u v other old' t' space' e' z');
    }
