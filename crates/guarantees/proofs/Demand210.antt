-- The exported call that fills a source from soundings does what W-210 demands.
use Prim.Native.Nat.{ℕ}
use mathlib.Core.Path.{sym, ap, subst, ◌∙◌}
use mathlib.Core.List.{List}
use Rattle.base.specs.Numbers.{first_of}
use Rattle.machine.specs.Machine.{Answered}
use Rattle.nest.specs.Nest.{cells}
use Rattle.nest.specs.Reader.{nest_of}
use Rattle.soundings.specs.Soundings.{sounded_source, fill_lines, fill_call}
use Rattle.soundings.specs.Ground.{Grounded}
use Rattle.soundings.proofs.Best.{grounded}
use Rattle.soundings.proofs.Returns.{ragged_number, lines_are, all_inside}
use Rattle.engine.specs.Calls.{answer}
use Rattle.engine.specs.Demands.{Fixed}
use Rattle.engine.proofs.Demands.{fixed}
use Rattle.calls.specs.Gave.{SoundingsGave}
use Rattle.guarantees.specs.Demand210.{Sounded, Demand210}

module _ (bytes file : List ℕ) (value : ℕ) (old : List ℕ) (n : ℕ) (source : List ℕ) (e : SoundingsGave bytes file value old n source) where
  is_fixed : Fixed (answer n source) (fill_lines bytes file old) (sounded_source file value (cells (nest_of bytes))) old
  unfolding fill_call
  is_fixed =
      subst (λ (z : Answered (List ℕ)). Fixed z (fill_lines bytes file old) (sounded_source file value (cells (nest_of bytes))) old) (sym e)
      (fixed (fill_lines bytes file old) (sounded_source file value (cells (nest_of bytes))) old)

  sounded : Sounded bytes file value old n source
  sounded =
      record {
        fixed = is_fixed;
        ragged = λ h. is_fixed.first ∙ ragged_number bytes file old h;
        behind = λ h. is_fixed.first ∙ ap first_of (lines_are bytes file old h);
        in_box = λ z. all_inside bytes file old (sym is_fixed.first ∙ z);
        grounded = λ z. subst (Grounded (cells (nest_of bytes)) file value) (sym (is_fixed.works z)) (grounded (cells (nest_of bytes)) file value);
      }

pub demand210 : Demand210
demand210 = sounded
