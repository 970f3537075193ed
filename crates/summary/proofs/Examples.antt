-- The one table of what the calls about a plan answer: the rows of a plan, carried over to what `summary` and `message` tell.
use Prim.Native.Nat.{ℕ, zero, suc, ◌≤◌}
use mathlib.Core.Path.{◌≡◌, refl, sym, ap, ◌∙◌}
use mathlib.Core.Bool.{true}
use mathlib.Core.List.{List, [], ◌∷◌, ◌++◌, map}
use native.Mathlib.Omega.{arith}
use lib.ListN.{get_or}
use lib.Dec.{ltb}
use Rattle.base.specs.Tests.{◌and◌, ◌or◌, not, pick, every, some, keep, those, tabulate, product}
use Rattle.base.specs.Numbers.{first_of}
use Rattle.base.proofs.Lists.{small, small_bytes}
use Rattle.base.proofs.Numbers.{first_true, first_behind}
use Rattle.machine.specs.Plan.{Plan, count}
use Rattle.nest.specs.Nest.{tile_count, cells, box_tiles}
use Rattle.nest.specs.Places.{rank, place, cell_at, cell_place, tile_at, tile_place, box_tile_of}
use Rattle.nest.specs.Shape.{level, raised, meets, in_shape, exists, existing, tiles}
use Rattle.nest.specs.Reader.{of_kind, filled, nest_by, nest_of, ragged, nest_lines, read_lines}
use Rattle.nest.specs.Recipes.{row_a, row_b, row_c, row_d, row_e, row_f, row_g, row_h, row_later}
use Rattle.nest.proofs.Facts.{accepted}
use Rattle.nest.proofs.Numbered.{numbered}
use Rattle.plan.specs.declared.Route.{Route}
use Rattle.plan.specs.declared.Route.TheVariants.{Direct, Indirect}
use Rattle.plan.specs.Geometry.{processor_of, inside}
use Rattle.plan.specs.Messages.{directions, ahead, reaches, crosses, parcel, taker, slot_cells, slot_taker, at_home, slot_parcel, messages_of, messages_to, box_plan}
use Rattle.plan.specs.Shaped.{box_tile, reaches_shape, shaped_parcel, follows, shaped_taker, shaped_slot_taker, shaped_home, shaped_slot_parcel, plan_of}
use Rattle.plan.proofs.ShapedBox.{plan_of_box}
use Rattle.plan.proofs.SmallNests.{nest_triangle}
use Rattle.layout.specs.RouteWords.{route_of}
use Rattle.layout.proofs.RouteWords.{route_words}
use Rattle.recipe.specs.Routes.{indirect, route_lines, lines_for}
use Rattle.recipe.proofs.Laws.{passed_for, box_open, direct_open}
use Rattle.conformance.specs.Examples as table
use Rattle.conformance.specs.Examples.{PlanFigures, figures_if, figures, message_line, lines_to, lines_of, row_full, row_six, row_line, row_twice, row_middle}
use Rattle.conformance.specs.ShapedExamples.{shaped_figures, row_triangle, row_alone, row_single, row_whole}
use Rattle.conformance.specs.InOrder.{row_spread}
use Rattle.conformance.proofs.AToH.{rows}
use Rattle.conformance.proofs.RowNests.{nest_a, is_a, nest_e, is_e}
use Rattle.conformance.proofs.IndirectExamples.{forwarded_alone}
use Rattle.conformance.proofs.SingleCounts.{single_counts}
use Rattle.conformance.proofs.ShapedExamples.{shaped_rows}
use Rattle.conformance.proofs.InOrder.{spread_rows}
use Rattle.summary.specs.declared.MessageLine.{MessageLine}
use Rattle.summary.specs.Summary.{as_figures, no_figures, summary_of, no_line, message_line_of}
use Rattle.summary.specs.Examples.{planned, tells, lines_told, SummaryExamples}
use Rattle.summary.proofs.Answers.{summary_refused, message_refused, message_none, message_is}

-- ---- from a plan's figures and lines to what the calls tell

-- a line of the table of rows as the call gives it; its first word is the message's number
abbrev as_line : List ℕ → MessageLine
as_line l = record { number = 0; sender = get_or l 1 0; taker = get_or l 2 0; from = get_or l 3 0; to = get_or l 4 0; words = get_or l 5 0 }

number_of : (n : ℕ) (p : Plan) → (figures_if n p).number ≡ n
unfolding figures_if
number_of zero p = refl
number_of (suc n) p = refl

map-append : (a b : List (List ℕ)) → map as_line (a ++ b) ≡ map as_line a ++ map as_line b
map-append [] b = refl
map-append (l ∷ a) b = ap (λ (m : List MessageLine). as_line l ∷ m) (map-append a b)

module _ (route : ℕ) (bytes : List ℕ) (z : first_of (lines_for (route_of route) bytes) ≡ 0) where
  abbrev plan : Plan
  plan = plan_of (route_of route) (nest_of bytes)

  told_lines : (n : ℕ) → n ≤ count plan → lines_told route bytes n ≡ map as_line (lines_to plan n)
  unfolding lines_told lines_to message_line
  told_lines zero h = refl
  told_lines (suc n) h =
      ap (λ (l : List MessageLine). l ++ (message_line_of (route_of route) bytes n ∷ [])) (told_lines n (omega arith))
      ∙ (ap (λ (m : MessageLine). map as_line (lines_to plan n) ++ (m ∷ []))
      (sym (message_is bytes route n plan (record { none = z; is = refl }) (omega arith)))
      ∙ sym (map-append (lines_to plan n) (message_line plan n ∷ [])))

  -- all messages, and none behind them
  all_lines : (n : ℕ) (ls : List (List ℕ)) → count plan ≡ n → lines_to plan n ≡ ls → lines_told route bytes (suc n) ≡ map as_line ls ++ (no_line 11 ∷ [])
  unfolding lines_told
  all_lines n ls e h =
      ap (λ (l : List MessageLine). l ++ (message_line_of (route_of route) bytes n ∷ [])) (told_lines n (omega arith) ∙ ap (map as_line) h)
      ∙ ap (λ (m : MessageLine). map as_line ls ++ (m ∷ []))
      (sym (message_none bytes route n plan (record { none = z; is = refl }) (omega arith)))

-- ---- a recipe without bounds, on either route

module _ (route : ℕ) (bytes : List ℕ) (bytes_small : small bytes ≡ true) (none : (nest_of bytes).bounds ≡ 0) (t m w s : ℕ)
    (e : figures (route_of route) bytes ≡ table.accepted t m w s) where
  pub box_read : first_of (read_lines bytes) ≡ 0
  unfolding figures
  box_read = sym (number_of _ _) ∙ ap (λ (f : PlanFigures). f.number) e

  unbarred : first_of (lines_for (route_of route) bytes) ≡ 0
  unbarred = passed_for (route_of route) bytes box_read (box_open (route_of route) (nest_of bytes) none)

  plan_is : plan_of (route_of route) (nest_of bytes) ≡ box_plan (route_of route) (nest_of bytes)
  plan_is = plan_of_box (route_of route) (nest_of bytes) (accepted bytes (small_bytes bytes bytes_small) box_read) none

  box_figures : figures_if 0 (plan_of (route_of route) (nest_of bytes)) ≡ table.accepted t m w s
  unfolding figures
  box_figures = ap (figures_if 0) plan_is ∙ (ap (λ (n : ℕ). figures_if n (box_plan (route_of route) (nest_of bytes))) (sym box_read) ∙ e)

  box_told : planned route bytes ≡ tells t m w s
  unfolding summary_of
  box_told = ap as_figures (ap (λ (n : ℕ). figures_if n (plan_of (route_of route) (nest_of bytes))) unbarred ∙ box_figures)

  box_count : count (plan_of (route_of route) (nest_of bytes)) ≡ m
  unfolding figures_if
  box_count = ap (λ (f : PlanFigures). f.messages) box_figures

  pub box_many : count (box_plan (route_of route) (nest_of bytes)) ≡ m
  box_many = ap (λ (p : Plan). count p) (sym plan_is) ∙ box_count

  box_lines : (ls : List (List ℕ)) → lines_of (route_of route) bytes ≡ ls → lines_told route bytes (suc m) ≡ map as_line ls ++ (no_line 11 ∷ [])
  box_lines ls h =
      all_lines route bytes unbarred m ls box_count
      (ap (λ (p : Plan). lines_to p m) plan_is
      ∙ (ap (lines_to (box_plan (route_of route) (nest_of bytes))) (sym box_count ∙ ap (λ (p : Plan). count p) plan_is) ∙ h))

-- ---- a recipe with bounds, on the direct route; 21 on the other

module _ (bytes : List ℕ) (t m w s : ℕ) (e : shaped_figures bytes ≡ table.accepted t m w s) where
  shape_read : first_of (read_lines bytes) ≡ 0
  shape_read = sym (number_of _ _) ∙ ap (λ (f : PlanFigures). f.number) e

  shape_open : first_of (lines_for (route_of 0) bytes) ≡ 0
  unfolding route_of
  shape_open = passed_for Direct bytes shape_read (direct_open (nest_of bytes))

  shape_figures : figures_if 0 (plan_of Direct (nest_of bytes)) ≡ table.accepted t m w s
  shape_figures = ap (λ (n : ℕ). figures_if n (plan_of Direct (nest_of bytes))) (sym shape_read) ∙ e

  shape_told : planned 0 bytes ≡ tells t m w s
  unfolding summary_of route_of
  shape_told = ap as_figures (ap (λ (n : ℕ). figures_if n (plan_of Direct (nest_of bytes))) shape_open ∙ shape_figures)

  shape_lines : (ls : List (List ℕ)) → lines_to (plan_of Direct (nest_of bytes)) m ≡ ls → lines_told 0 bytes (suc m) ≡ map as_line ls ++ (no_line 11 ∷ [])
  unfolding figures_if route_of
  shape_lines ls h = all_lines 0 bytes shape_open m ls (ap (λ (f : PlanFigures). f.messages) shape_figures) h

  shape_barred : (indirect Indirect and ltb 0 (nest_of bytes).bounds) ≡ true → first_of (lines_for (route_of 1) bytes) ≡ 21
  unfolding route_of lines_for
  shape_barred h =
      first_behind (read_lines bytes) (route_lines Indirect (nest_of bytes)) (numbered bytes) shape_read
      ∙ first_true 21 (indirect Indirect and ltb 0 (nest_of bytes).bounds) [] h

  shape_refused : (indirect Indirect and ltb 0 (nest_of bytes).bounds) ≡ true → planned 1 bytes ≡ no_figures 21
  shape_refused h = sym (summary_refused (route_of 1) bytes 21 (sym (shape_barred h)) (λ q. omega arith))

  shape_no_line : (indirect Indirect and ltb 0 (nest_of bytes).bounds) ≡ true → lines_told 1 bytes 1 ≡ no_line 21 ∷ []
  unfolding lines_told
  shape_no_line h = ap (λ (l : MessageLine). l ∷ []) (sym (message_refused (route_of 1) bytes 0 21 (sym (shape_barred h)) (λ q. omega arith)))

-- ---- lines that the table of rows has not

abbrev list_a : List (List ℕ)
list_a =
    (0 ∷ 0 ∷ 4 ∷ 0 ∷ 1 ∷ 2 ∷ []) ∷ (1 ∷ 1 ∷ 5 ∷ 0 ∷ 1 ∷ 2 ∷ []) ∷ (2 ∷ 2 ∷ 6 ∷ 0 ∷ 1 ∷ 2 ∷ []) ∷ (3 ∷ 3 ∷ 7 ∷ 0 ∷ 1 ∷ 2 ∷ [])
    ∷ (4 ∷ 4 ∷ 8 ∷ 1 ∷ 0 ∷ 2 ∷ []) ∷ (5 ∷ 5 ∷ 9 ∷ 1 ∷ 0 ∷ 2 ∷ []) ∷ (6 ∷ 6 ∷ 10 ∷ 1 ∷ 0 ∷ 2 ∷ []) ∷ (7 ∷ 7 ∷ 11 ∷ 1 ∷ 0 ∷ 2 ∷ [])
    ∷ (8 ∷ 8 ∷ 12 ∷ 0 ∷ 1 ∷ 2 ∷ []) ∷ (9 ∷ 9 ∷ 13 ∷ 0 ∷ 1 ∷ 2 ∷ []) ∷ (10 ∷ 10 ∷ 14 ∷ 0 ∷ 1 ∷ 2 ∷ []) ∷ (11 ∷ 11 ∷ 15 ∷ 0 ∷ 1 ∷ 2 ∷ []) ∷ []

nest_lines_a : lines_to (box_plan Direct nest_a) 12 ≡ list_a
unfolding lines_to message_line ◌and◌ ◌or◌ pick every some keep product tile_count cells box_tiles rank place cell_at cell_place tile_at tile_place box_tile_of inside
    directions ahead reaches crosses parcel taker slot_cells slot_taker at_home slot_parcel messages_to processor_of
nest_lines_a = refl

count_a : count (box_plan Direct nest_a) ≡ 12
unfolding ◌and◌ ◌or◌ pick every some keep product tile_count cells box_tiles rank place cell_at cell_place tile_at tile_place box_tile_of inside
    directions ahead reaches crosses parcel taker slot_cells slot_taker at_home slot_parcel messages_to processor_of
count_a = refl

abbrev list_e : List (List ℕ)
list_e = (0 ∷ 0 ∷ 1 ∷ 0 ∷ 1 ∷ 1 ∷ []) ∷ (1 ∷ 1 ∷ 2 ∷ 1 ∷ 0 ∷ 1 ∷ []) ∷ []

nest_lines_e : lines_to (box_plan Direct nest_e) 2 ≡ list_e
unfolding lines_to message_line ◌and◌ ◌or◌ pick every some keep product tile_count cells box_tiles rank place cell_at cell_place tile_at tile_place box_tile_of inside
    directions ahead reaches crosses parcel taker slot_cells slot_taker at_home slot_parcel messages_to processor_of
nest_lines_e = refl

count_e : count (box_plan Direct nest_e) ≡ 2
unfolding ◌and◌ ◌or◌ pick every some keep product tile_count cells box_tiles rank place cell_at cell_place tile_at tile_place box_tile_of inside
    directions ahead reaches crosses parcel taker slot_cells slot_taker at_home slot_parcel messages_to processor_of
count_e = refl

lines_a : lines_of Direct row_a ≡ list_a
lines_a = rw (is_a, count_a) nest_lines_a

lines_e : lines_of Direct row_e ≡ list_e
lines_e = rw (is_e, count_e) nest_lines_e

is_triangle : nest_of row_triangle ≡ nest_triangle
unfolding of_kind filled nest_by nest_of pick keep those tabulate
is_triangle = refl

lines_triangle : lines_to (plan_of Direct nest_triangle) 1 ≡ (0 ∷ 0 ∷ 2 ∷ 0 ∷ 1 ∷ 1 ∷ []) ∷ []
unfolding lines_to message_line ◌and◌ ◌or◌ pick every some keep product rank place cell_at cell_place tile_at tile_place box_tile_of tile_count cells box_tiles level
    raised meets in_shape exists existing tiles inside directions ahead reaches processor_of box_tile reaches_shape shaped_parcel taker follows shaped_taker
    shaped_slot_taker shaped_home shaped_slot_parcel messages_of
lines_triangle = refl

-- ---- the table

-- the recipes are bytes, and have no bounds
row_a_small : small row_a ≡ true
unfolding small ◌and◌
row_a_small = refl

row_a_none : (nest_of row_a).bounds ≡ 0
unfolding of_kind nest_by nest_of keep those
row_a_none = refl

row_b_small : small row_b ≡ true
unfolding small ◌and◌
row_b_small = refl

row_b_none : (nest_of row_b).bounds ≡ 0
unfolding of_kind nest_by nest_of keep those
row_b_none = refl

pub row_c_small : small row_c ≡ true
unfolding small ◌and◌
row_c_small = refl

pub row_c_none : (nest_of row_c).bounds ≡ 0
unfolding of_kind nest_by nest_of keep those
row_c_none = refl

row_d_small : small row_d ≡ true
unfolding small ◌and◌
row_d_small = refl

row_d_none : (nest_of row_d).bounds ≡ 0
unfolding of_kind nest_by nest_of keep those
row_d_none = refl

row_e_small : small row_e ≡ true
unfolding small ◌and◌
row_e_small = refl

row_e_none : (nest_of row_e).bounds ≡ 0
unfolding of_kind nest_by nest_of keep those
row_e_none = refl

row_f_small : small row_f ≡ true
unfolding small ◌and◌
row_f_small = refl

row_f_none : (nest_of row_f).bounds ≡ 0
unfolding of_kind nest_by nest_of keep those
row_f_none = refl

row_full_small : small row_full ≡ true
unfolding small ◌and◌
row_full_small = refl

row_full_none : (nest_of row_full).bounds ≡ 0
unfolding of_kind nest_by nest_of keep those
row_full_none = refl

row_g_small : small row_g ≡ true
unfolding small ◌and◌
row_g_small = refl

row_g_none : (nest_of row_g).bounds ≡ 0
unfolding of_kind nest_by nest_of keep those
row_g_none = refl

row_h_small : small row_h ≡ true
unfolding small ◌and◌
row_h_small = refl

row_h_none : (nest_of row_h).bounds ≡ 0
unfolding of_kind nest_by nest_of keep those
row_h_none = refl

row_later_small : small row_later ≡ true
unfolding small ◌and◌
row_later_small = refl

row_later_none : (nest_of row_later).bounds ≡ 0
unfolding of_kind nest_by nest_of keep those
row_later_none = refl

pub row_line_small : small row_line ≡ true
unfolding small ◌and◌
row_line_small = refl

pub row_line_none : (nest_of row_line).bounds ≡ 0
unfolding of_kind nest_by nest_of keep those
row_line_none = refl

row_middle_small : small row_middle ≡ true
unfolding small ◌and◌
row_middle_small = refl

row_middle_none : (nest_of row_middle).bounds ≡ 0
unfolding of_kind nest_by nest_of keep those
row_middle_none = refl

row_six_small : small row_six ≡ true
unfolding small ◌and◌
row_six_small = refl

row_six_none : (nest_of row_six).bounds ≡ 0
unfolding of_kind nest_by nest_of keep those
row_six_none = refl

row_twice_small : small row_twice ≡ true
unfolding small ◌and◌
row_twice_small = refl

row_twice_none : (nest_of row_twice).bounds ≡ 0
unfolding of_kind nest_by nest_of keep those
row_twice_none = refl

no_lines : (r : ℕ) (bytes : List ℕ) → count (box_plan (route_of r) (nest_of bytes)) ≡ 0 → lines_of (route_of r) bytes ≡ []
unfolding lines_to
no_lines r bytes e = rw e refl

-- bounds there are: 21 on the indirect route
triangle_bound : (indirect Indirect and ltb 0 (nest_of row_triangle).bounds) ≡ true
unfolding indirect ◌and◌ of_kind nest_by nest_of keep those
triangle_bound = refl

whole_bound : (indirect Indirect and ltb 0 (nest_of row_whole).bounds) ≡ true
unfolding indirect ◌and◌ of_kind nest_by nest_of keep those
whole_bound = refl

-- no byte at all
no_bytes : (r : Route) → first_of (lines_for r []) ≡ 1
unfolding lines_for read_lines nest_lines ragged first_of pick not ◌or◌
no_bytes r = refl

pub summary_rows : SummaryExamples
unfolding route_of lines_told
summary_rows =
    record {
      A = box_told 0 row_a row_a_small row_a_none 16 12 24 56 rows.A;
      B = box_told 0 row_b row_b_small row_b_none 4 2 14 12 rows.B;
      C = box_told 0 row_c row_c_small row_c_none 8 10 144 36 rows.C;
      D = box_told 0 row_d row_d_small row_d_none 2 1 1 6 rows.D;
      E = box_told 0 row_e row_e_small row_e_none 3 2 2 10 rows.E;
      F = box_told 0 row_f row_f_small row_f_none 2 0 0 4 rows.F;
      G = box_told 0 row_g row_g_small row_g_none 4 3 3 14 rows.G;
      H = box_told 0 row_h row_h_small row_h_none 2 0 0 4 rows.H;
      C-indirect = box_told 1 row_c row_c_small row_c_none 8 8 160 32 rows.C-indirect;
      H-indirect = box_told 1 row_h row_h_small row_h_none 2 0 0 4 rows.H-indirect;
      lines_A = box_lines 0 row_a row_a_small row_a_none 16 12 24 56 rows.A _ (lines_a);
      lines_B = box_lines 0 row_b row_b_small row_b_none 4 2 14 12 rows.B _ rows.lines_B;
      lines_C = box_lines 0 row_c row_c_small row_c_none 8 10 144 36 rows.C _ rows.lines_C;
      lines_C_indirect = box_lines 1 row_c row_c_small row_c_none 8 8 160 32 rows.C-indirect _ rows.lines_C_indirect;
      lines_D = box_lines 0 row_d row_d_small row_d_none 2 1 1 6 rows.D _ rows.lines_D;
      lines_E = box_lines 0 row_e row_e_small row_e_none 3 2 2 10 rows.E _ (lines_e);
      lines_F = box_lines 0 row_f row_f_small row_f_none 2 0 0 4 rows.F [] (no_lines 0 row_f (box_many 0 row_f row_f_small row_f_none 2 0 0 4 rows.F));
      lines_G = box_lines 0 row_g row_g_small row_g_none 4 3 3 14 rows.G _ rows.lines_G;
      lines_H = box_lines 0 row_h row_h_small row_h_none 2 0 0 4 rows.H [] (no_lines 0 row_h (box_many 0 row_h row_h_small row_h_none 2 0 0 4 rows.H));
      later = box_told 0 row_later row_later_small row_later_none 4 1 2 10 rows.Later;
      full = box_told 0 row_full row_full_small row_full_none 4 1 4 10 forwarded_alone.full;
      full_indirect = box_told 1 row_full row_full_small row_full_none 4 2 8 12 forwarded_alone.full_indirect;
      lines_full_indirect = box_lines 1 row_full row_full_small row_full_none 4 2 8 12 forwarded_alone.full_indirect _ forwarded_alone.full_lines;
      six = box_told 0 row_six row_six_small row_six_none 18 25 25 86 single_counts.six;
      six_indirect = box_told 1 row_six row_six_small row_six_none 18 15 25 66 single_counts.six_indirect;
      line = box_told 0 row_line row_line_small row_line_none 4 1 4 10 single_counts.line;
      line_indirect = box_told 1 row_line row_line_small row_line_none 4 1 4 10 single_counts.line_indirect;
      lines_line_indirect_lem = box_lines 1 row_line row_line_small row_line_none 4 1 4 10 single_counts.line_indirect _ single_counts.lines_line_indirect_lem;
      twice = box_told 0 row_twice row_twice_small row_twice_none 4 3 5 14 single_counts.twice;
      twice_indirect = box_told 1 row_twice row_twice_small row_twice_none 4 2 4 12 single_counts.twice_indirect;
      middle = box_told 0 row_middle row_middle_small row_middle_none 8 1 1 18 single_counts.middle;
      middle_indirect = box_told 1 row_middle row_middle_small row_middle_none 8 2 2 20 single_counts.middle_indirect;
      triangle = shape_told row_triangle 3 1 1 8 shaped_rows.triangle;
      lines_triangle_lem = shape_lines row_triangle 3 1 1 8 shaped_rows.triangle ((0 ∷ 0 ∷ 2 ∷ 0 ∷ 1 ∷ 1 ∷ []) ∷ []) (rw is_triangle lines_triangle);
      triangle_indirect = shape_refused row_triangle 3 1 1 8 shaped_rows.triangle triangle_bound;
      lines_triangle_indirect = shape_no_line row_triangle 3 1 1 8 shaped_rows.triangle triangle_bound;
      alone = shape_told row_alone 3 0 0 6 shaped_rows.alone;
      single = shape_told row_single 1 0 0 2 shaped_rows.single;
      whole = shape_told row_whole 4 2 14 12 shaped_rows.whole;
      whole_indirect = shape_refused row_whole 4 2 14 12 shaped_rows.whole whole_bound;
      spread = shape_told row_spread 9 5 5 28 spread_rows.figures;
      lines_spread = shape_lines row_spread 9 5 5 28 spread_rows.figures _ spread_rows.lines;
      ragged = sym (summary_refused Direct [] 1 (sym (no_bytes Direct)) (λ q. omega arith));
      ragged_line = ap (λ (l : MessageLine). l ∷ []) (sym (message_refused Indirect [] 0 1 (sym (no_bytes Indirect)) (λ q. omega arith)));
      words_alike = λ v w h k bytes. ap (λ (r : Route). summary_of r bytes) (route_words.alike v w h k);
      lines_alike = λ v w m h k bytes. ap (λ (r : Route). message_line_of r bytes m) (route_words.alike v w h k);
    }
