-- Laws of the calls for one processor that is lent its own part alone: a turn that gives 0 was lent its record.
use Rattle.std.specs.Prelude.{◌≡◌, ℕ, ◌<◌, eqb, List, ◌∷◌, length}
use mathlib.Core.Path.{sym, ap, ◌∙◌}
use native.Mathlib.Omega.{arith}
use Rattle.base.specs.Tests.{◌and◌, not}
use Rattle.base.specs.Numbers.{line}
use Rattle.base.proofs.Tests.{both, true_not}
use Rattle.base.proofs.Numbers.{none_first}
use Rattle.machine.specs.Machine.{State, state_of, Answered, turn_lines}
use Rattle.records.specs.Records.{flat_words}
use Rattle.records.specs.declared.Progress.{Progress}
use Rattle.records.proofs.Words.{length_words}
use Rattle.engine.specs.Calls.{answer, recipe}
use Rattle.network.specs.Own.{own_cells}
use Rattle.part.specs.Part.{part_fits}
use Rattle.part_calls.specs.front.Calls.{from_part, part_turn_call}
use Rattle.part_calls.proofs.front.Answers.{behind_board}
use Rattle.part_calls.proofs.front.Wide.{fits_are}

pub own_there : (l : List ℕ) (route : ℕ) (source m u t : List ℕ) (rs : List Progress) (b n : ℕ) (x : State)
    → answer n x ≡ part_turn_call l route source (state_of m u (flat_words rs) t) b → n ≡ 0 → 0 < length rs
unfolding part_turn_call
own_there l route source m u t rs b n x e z =
    let p = recipe l route in
    let s = state_of m u (flat_words rs) t in
    let k = behind_board l route b
    (line 9 (not (eqb (length source) (length (own_cells p b)) and part_fits p b s)) ∷ turn_lines p (from_part p b s) b)
    (ap (λ (y : Answered State). y.number) (sym e) ∙ z) in
    let a = none_first 9 (not (eqb (length source) (length (own_cells p b)) and part_fits p b s)) (turn_lines p (from_part p b s) b) (λ q. omega arith) k in
    omega (
      arith,
      length_words rs,
      (fits_are p b s (both {a = eqb (length source) (length (own_cells p b))} (true_not a.0)).1).progress,
    )
