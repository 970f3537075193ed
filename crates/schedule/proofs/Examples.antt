-- Rows A and B by rounds, computed on the box's plan, which is theirs; and a row with a bound, on the shape's.
use Rattle.std.specs.Prelude.{◌≡◌, ℕ, true, List, [], ◌∷◌, get_or}
use mathlib.Core.Path.{refl, ap, ◌∙◌}
use Rattle.base.specs.Tests.{◌and◌, ◌or◌, pick, every, some, keep, those, tabulate, product}
use Rattle.base.proofs.Lists.{small}
use Rattle.machine.specs.Plan.{Plan}
use Rattle.nest.specs.Nest.{tile_count, cells, box_tiles}
use Rattle.nest.specs.Places.{rank, place, cell_at, cell_place, tile_at, tile_place, box_tile_of}
use Rattle.nest.specs.Recipes.{row_a, row_b}
use Rattle.nest.specs.Reader.{of_kind, filled, nest_by, nest_of}
use Rattle.nest.specs.Shape.{level, raised, meets, in_shape, exists, existing, tiles}
use Rattle.plan.specs.Geometry.{processor_of, inside}
use Rattle.plan.specs.declared.Route.TheVariants.{Direct}
use Rattle.plan.specs.Messages.{directions, ahead, reaches, crosses, parcel, taker, slot_cells, slot_taker, at_home, slot_parcel, messages_to, messages_of, box_plan}
use Rattle.plan.specs.Shaped.{box_tile, reaches_shape, shaped_parcel, follows, shaped_taker, shaped_slot_taker, shaped_home, shaped_slot_parcel, plan_of}
use Rattle.plan.proofs.SmallNests.{nest_triangle}
use Rattle.conformance.specs.ShapedExamples.{row_triangle}
use Rattle.conformance.proofs.RowNests.{nest_a, nest_b, is_a, is_b}
use Rattle.conformance.proofs.AToH.{number_a, number_b}
use Rattle.plan.proofs.ShapedBox.{recipe_box}
use Rattle.layout.specs.RouteWords.{route_of}
use Rattle.rounds.specs.Rounds.{larger, greatest, last_of, waits_for, next_round, extended, rounds_to, tile_round, last_round, rounds}
use Rattle.engine.specs.Calls.{recipe}
use Rattle.schedule.specs.Examples.{RoundExamples}

small_A : small row_a ≡ true
unfolding small ◌and◌
small_A = refl

small_B : small row_b ≡ true
unfolding small ◌and◌
small_B = refl

plan_A : recipe row_a 0 ≡ box_plan Direct nest_a
unfolding route_of
plan_A = recipe_box row_a nest_a small_A number_a is_a refl

plan_B : recipe row_b 0 ≡ box_plan Direct nest_b
unfolding route_of
plan_B = recipe_box row_b nest_b small_B number_b is_b refl

computed_A : rounds_to (box_plan Direct nest_a) 16 ≡ 1 ∷ 2 ∷ 3 ∷ 4 ∷ 2 ∷ 3 ∷ 4 ∷ 5 ∷ 5 ∷ 6 ∷ 7 ∷ 8 ∷ 6 ∷ 7 ∷ 8 ∷ 9 ∷ []
unfolding larger greatest last_of waits_for next_round extended rounds_to those ◌and◌ ◌or◌ pick every some keep product tile_count cells box_tiles rank
    place cell_at cell_place tile_at tile_place box_tile_of inside directions ahead reaches crosses parcel taker slot_cells slot_taker at_home slot_parcel
    messages_to messages_of processor_of
computed_A = refl

computed_B : rounds_to (box_plan Direct nest_b) 4 ≡ 1 ∷ 2 ∷ 2 ∷ 3 ∷ []
unfolding larger greatest last_of waits_for next_round extended rounds_to those ◌and◌ ◌or◌ pick every some keep product tile_count cells box_tiles rank
    place cell_at cell_place tile_at tile_place box_tile_of inside directions ahead reaches crosses parcel taker slot_cells slot_taker at_home slot_parcel
    messages_to messages_of processor_of
computed_B = refl

-- the greatest of the table
from_table : (p : Plan) (n : ℕ) → p.tiles ≡ n → (l : List ℕ) → rounds_to p n ≡ l → rounds p ≡ greatest (tabulate (λ t. get_or l t 0) n)
unfolding last_round tile_round
from_table p n e l k =
    ap (λ (i : ℕ). greatest (tabulate (λ t. get_or (rounds_to p i) t 0) i)) e ∙ ap (λ (m : List ℕ). greatest (tabulate (λ t. get_or m t 0) n)) k

tiles_A : rounds_to (recipe row_a 0) 16 ≡ 1 ∷ 2 ∷ 3 ∷ 4 ∷ 2 ∷ 3 ∷ 4 ∷ 5 ∷ 5 ∷ 6 ∷ 7 ∷ 8 ∷ 6 ∷ 7 ∷ 8 ∷ 9 ∷ []
tiles_A = ap (λ (p : Plan). rounds_to p 16) plan_A ∙ computed_A

tiles_B : rounds_to (recipe row_b 0) 4 ≡ 1 ∷ 2 ∷ 2 ∷ 3 ∷ []
tiles_B = ap (λ (p : Plan). rounds_to p 4) plan_B ∙ computed_B

sixteen : (box_plan Direct nest_a).tiles ≡ 16
unfolding box_tiles product tile_count
sixteen = refl

four : (box_plan Direct nest_b).tiles ≡ 4
unfolding box_tiles product tile_count
four = refl

nine : greatest (tabulate (λ t. get_or (1 ∷ 2 ∷ 3 ∷ 4 ∷ 2 ∷ 3 ∷ 4 ∷ 5 ∷ 5 ∷ 6 ∷ 7 ∷ 8 ∷ 6 ∷ 7 ∷ 8 ∷ 9 ∷ []) t 0) 16) ≡ 9
unfolding greatest larger pick tabulate
nine = refl

three : greatest (tabulate (λ t. get_or (1 ∷ 2 ∷ 2 ∷ 3 ∷ []) t 0) 4) ≡ 3
unfolding greatest larger pick tabulate
three = refl

-- ---- with a bound
plan_triangle : recipe row_triangle 0 ≡ plan_of Direct nest_triangle
unfolding route_of of_kind filled nest_by nest_of pick keep those tabulate
plan_triangle = refl

computed_triangle : rounds_to (plan_of Direct nest_triangle) 3 ≡ 1 ∷ 2 ∷ 2 ∷ []
unfolding larger greatest last_of waits_for next_round extended rounds_to those ◌and◌ ◌or◌ pick every some keep product rank place cell_at cell_place tile_at
    tile_place box_tile_of tile_count cells box_tiles level raised meets in_shape exists existing tiles inside directions ahead reaches processor_of box_tile
    reaches_shape shaped_parcel taker follows shaped_taker shaped_slot_taker shaped_home shaped_slot_parcel messages_of
computed_triangle = refl

three_tiles : (plan_of Direct nest_triangle).tiles ≡ 3
unfolding ◌and◌ ◌or◌ pick every some keep product rank place cell_place tile_at box_tile_of tile_count cells box_tiles level raised meets in_shape exists existing
    tiles
three_tiles = refl

two : greatest (tabulate (λ t. get_or (1 ∷ 2 ∷ 2 ∷ []) t 0) 3) ≡ 2
unfolding greatest larger pick tabulate
two = refl

pub round_rows : RoundExamples
round_rows =
    record {
      A = ap (λ (p : Plan). rounds p) plan_A ∙ from_table (box_plan Direct nest_a) 16 sixteen _ computed_A ∙ nine;
      tiles_A = tiles_A;
      B = ap (λ (p : Plan). rounds p) plan_B ∙ from_table (box_plan Direct nest_b) 4 four _ computed_B ∙ three;
      tiles_B = tiles_B;
      triangle = ap (λ (p : Plan). rounds p) plan_triangle ∙ from_table (plan_of Direct nest_triangle) 3 three_tiles _ computed_triangle ∙ two;
      tiles_triangle = ap (λ (p : Plan). rounds_to p 3) plan_triangle ∙ computed_triangle;
      three_tiles = ap (λ (p : Plan). p.tiles) plan_triangle ∙ three_tiles;
    }
