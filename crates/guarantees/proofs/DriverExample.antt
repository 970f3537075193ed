-- Rows by the exported calls by rounds: `driver_row`.
use Prim.Native.Nat.{ℕ, zero, suc}
use mathlib.Core.Path.{◌≡◌, refl, sym, ap, ◌∙◌}
use mathlib.Core.Bool.{true}
use mathlib.Core.List.{List, [], ◌∷◌}
use lib.ListN.{length}
use lib.Dec.{eqb}
use borrow.Author.Tests.{eq-eqb}
use Rattle.base.specs.Tests.{◌and◌}
use Rattle.base.specs.Numbers.{first_of}
use Rattle.base.proofs.Lists.{small, small_bytes}
use Rattle.machine.specs.Plan.{Plan}
use Rattle.nest.specs.Reader.{read_lines}
use Rattle.nest.specs.Recipes.{row_a}
use Rattle.nest.proofs.Numbered.{numbered}
use Rattle.conformance.specs.Examples.{PlanFigures, figures_if}
use Rattle.conformance.specs.ShapedExamples.{row_triangle}
use Rattle.conformance.proofs.AToH.{number_a}
use Rattle.conformance.proofs.ShapedExamples.{shaped_rows}
use Rattle.recipe.proofs.Laws.{open_direct}
use Rattle.rounds.specs.Rounds.{rounds, rounds_to}
use Rattle.engine.specs.Calls.{answer, recipe}
use Rattle.engine.specs.Demands.{Fixed}
use Rattle.engine.proofs.Begins.{none_true}
use Rattle.schedule.specs.declared.Driven.{Driven}
use Rattle.schedule.specs.Calls.{rounds_of_lines}
use Rattle.schedule.proofs.Examples.{round_rows}
use Rattle.calls.specs.Gave.{Areas, RoundsGave, RoundsOfGave}
use Rattle.guarantees.specs.Begins.{LentFor}
use Rattle.guarantees.specs.DriverExample.{DriverExample}
use Rattle.guarantees.proofs.OverRounds.{same_driven, over_rounds}
use Rattle.guarantees.proofs.Begins.{begins}

-- an accepted row of so many rounds
told : (bytes : List ℕ) → small bytes ≡ true → first_of (read_lines bytes) ≡ 0 → (r : ℕ) → rounds (recipe bytes 0) ≡ r
    → (source : List ℕ) (a b : Areas) (d : Driven) → RoundsGave bytes source a d b → LentFor (recipe bytes 0) source a
    → d ≡ record { number = 0; rounds = r }
told bytes byte-wide accepted r tells source a b d gave lent =
    let z = (begins bytes 0).rounds (open_direct bytes accepted) source a b d lent gave in
    same_driven d (record { number = 0; rounds = r }) z (((over_rounds bytes).run (small_bytes bytes byte-wide) source a b d gave z).tells ∙ tells)

small_A : small row_a ≡ true
unfolding small ◌and◌
small_A = refl

-- ---- with a bound
small_triangle : small row_triangle ≡ true
unfolding small ◌and◌
small_triangle = refl

figures_number : (n : ℕ) (p : Plan) → (figures_if n p).number ≡ n
unfolding figures_if
figures_number zero p = refl
figures_number (suc n) p = refl

accepted_triangle : first_of (read_lines row_triangle) ≡ 0
accepted_triangle = sym (figures_number _ _) ∙ ap (λ (f : PlanFigures). f.number) shaped_rows.triangle

tiles_triangle : (old out : List ℕ) (n : ℕ) → RoundsOfGave row_triangle old n out → length old ≡ 3 → (n ≡ 0) × (out ≡ 1 ∷ 2 ∷ 2 ∷ [])
tiles_triangle old out n gave long = (z, fixed.works z ∙ ap (rounds_to (recipe row_triangle 0)) round_rows.three_tiles ∙ round_rows.tiles_triangle)
  where
    fixed : Fixed (answer n out) (rounds_of_lines row_triangle old) (rounds_to (recipe row_triangle 0) (recipe row_triangle 0).tiles) old
    fixed = (over_rounds row_triangle).one.rounds_of old out n gave

    z : n ≡ 0
    z =
        fixed.first
        ∙ none_true (read_lines row_triangle) (numbered row_triangle) accepted_triangle (eqb (length old) (recipe row_triangle 0).tiles)
        (eq-eqb _ _ (long ∙ sym round_rows.three_tiles))

pub driver_row : DriverExample
driver_row =
    record {
      A = told row_a small_A number_a 9 round_rows.A;
      triangle = told row_triangle small_triangle accepted_triangle 2 round_rows.triangle;
      triangle_tiles = tiles_triangle;
    }
