-- Rows A to H, and the places where the report's inequalities differ, computed.
use Prim.Native.Nat.{ℕ}
use mathlib.Core.Path.{◌≡◌, refl, ap}
use mathlib.Core.List.{List, [], ◌∷◌, ◌++◌}
use lib.ListN.{get_or}
use Rattle.base.specs.Tests.{◌and◌, ◌or◌, pick, every, some, keep, sum, product}
use Rattle.base.specs.Lists.{member}
use Rattle.base.specs.Numbers.{first_of}
use Rattle.machine.specs.Plan.{offset, count}
use Rattle.machine.specs.Machine.{sweep, sweep_to}
use Rattle.nest.specs.Nest.{tile_count, cells, box_tiles}
use Rattle.nest.specs.Reader.{read_lines}
use Rattle.nest.proofs.Quick.{told}
use Rattle.nest.proofs.RowNumbers.{numbers}
use Rattle.nest.specs.Places.{rank, place, cell_at, cell_place, tile_at, tile_place, box_tile_of}
use Rattle.plan.specs.Geometry.{cells_of, processor_of, inside, has_read, read_at, reads_of, value}
use Rattle.plan.specs.declared.Route.TheVariants.{Direct, Indirect}
use Rattle.plan.specs.Messages.{directions, ahead, reaches, crosses, parcel, taker, slot_cells, slot_taker, at_home, slot_parcel, messages_to, box_plan}
use Rattle.plan.specs.Box.{box_length, box_size}
use Rattle.conformance.specs.Report.{theorem3, stays_ahead, greatest, least, widened}
use Rattle.nest.specs.Recipes.{row_a, row_b, row_c, row_d, row_e, row_f, row_g, row_h, row_later}
use Rattle.conformance.specs.Examples.{accepted, figures, figures_if, message_line, lines_to, lines_of, readers_of, Rows, ReportDiffers}
use Rattle.plan.proofs.SmallNests.{parcel_wide, parcel_later}
use Rattle.conformance.proofs.RowNests.{nest_a, nest_b, nest_c, nest_d, nest_e, nest_f, nest_g, nest_h, nest_later, nest_wide, is_a, is_b, is_c, is_d, is_e, is_f}
use Rattle.conformance.proofs.RowNests.{is_g, is_h, is_later, is_wide}
use Rattle.conformance.proofs.IndirectExamples as indirect

-- ---- figures

pub number_a : first_of (read_lines row_a) ≡ 0
unfolding told
number_a = ap (λ (l : List ℕ). get_or l 0 0) numbers

record Counted : Type 0 where
  A : figures_if 0 (box_plan Direct nest_a) ≡ accepted 16 12 24 56
  B : figures_if 0 (box_plan Direct nest_b) ≡ accepted 4 2 14 12
  C : figures_if 0 (box_plan Direct nest_c) ≡ accepted 8 10 144 36
  D : figures_if 0 (box_plan Direct nest_d) ≡ accepted 2 1 1 6
  E : figures_if 0 (box_plan Direct nest_e) ≡ accepted 3 2 2 10
  F : figures_if 0 (box_plan Direct nest_f) ≡ accepted 2 0 0 4
  G : figures_if 0 (box_plan Direct nest_g) ≡ accepted 4 3 3 14
  Later : figures_if 0 (box_plan Direct nest_later) ≡ accepted 4 1 2 10
  H : figures_if 0 (box_plan Direct nest_h) ≡ accepted 2 0 0 4

counted : Counted
unfolding figures_if offset ◌and◌ ◌or◌ pick every some keep product tile_count cells box_tiles rank place cell_at cell_place tile_at tile_place box_tile_of inside
    directions ahead reaches crosses parcel taker slot_cells slot_taker at_home slot_parcel messages_to processor_of
counted = record { A = refl; B = refl; C = refl; D = refl; E = refl; F = refl; G = refl; Later = refl; H = refl }

row_a_is : figures Direct row_a ≡ accepted 16 12 24 56
unfolding figures
row_a_is = rw (number_a, is_a) counted.A

pub number_b : first_of (read_lines row_b) ≡ 0
unfolding told
number_b = ap (λ (l : List ℕ). get_or l 1 0) numbers

row_b_is : figures Direct row_b ≡ accepted 4 2 14 12
unfolding figures
row_b_is = rw (number_b, is_b) counted.B

pub number_c : first_of (read_lines row_c) ≡ 0
unfolding told
number_c = ap (λ (l : List ℕ). get_or l 2 0) numbers

row_c_is : figures Direct row_c ≡ accepted 8 10 144 36
unfolding figures
row_c_is = rw (number_c, is_c) counted.C

row_c_indirect_is : figures Indirect row_c ≡ accepted 8 8 160 32
unfolding figures
row_c_indirect_is = rw (number_c, is_c) indirect.figures_c

pub number_d : first_of (read_lines row_d) ≡ 0
unfolding told
number_d = ap (λ (l : List ℕ). get_or l 3 0) numbers

row_d_is : figures Direct row_d ≡ accepted 2 1 1 6
unfolding figures
row_d_is = rw (number_d, is_d) counted.D

pub number_e : first_of (read_lines row_e) ≡ 0
unfolding told
number_e = ap (λ (l : List ℕ). get_or l 4 0) numbers

row_e_is : figures Direct row_e ≡ accepted 3 2 2 10
unfolding figures
row_e_is = rw (number_e, is_e) counted.E

pub number_f : first_of (read_lines row_f) ≡ 0
unfolding told
number_f = ap (λ (l : List ℕ). get_or l 5 0) numbers

row_f_is : figures Direct row_f ≡ accepted 2 0 0 4
unfolding figures
row_f_is = rw (number_f, is_f) counted.F

pub number_g : first_of (read_lines row_g) ≡ 0
unfolding told
number_g = ap (λ (l : List ℕ). get_or l 6 0) numbers

row_g_is : figures Direct row_g ≡ accepted 4 3 3 14
unfolding figures
row_g_is = rw (number_g, is_g) counted.G

number_later : first_of (read_lines row_later) ≡ 0
unfolding told
number_later = ap (λ (l : List ℕ). get_or l 8 0) numbers

row_later_is : figures Direct row_later ≡ accepted 4 1 2 10
unfolding figures
row_later_is = rw (number_later, is_later) counted.Later

pub number_h : first_of (read_lines row_h) ≡ 0
unfolding told
number_h = ap (λ (l : List ℕ). get_or l 7 0) numbers

row_h_is : figures Direct row_h ≡ accepted 2 0 0 4
unfolding figures
row_h_is = rw (number_h, is_h) counted.H

row_h_indirect_is : figures Indirect row_h ≡ accepted 2 0 0 4
unfolding figures
row_h_indirect_is = rw (number_h, is_h) indirect.figures_h

-- ---- message lines

record Listed : Type 0 where
  B : lines_to (box_plan Direct nest_b) (count (box_plan Direct nest_b)) ≡ (0 ∷ 0 ∷ 2 ∷ 0 ∷ 1 ∷ 8 ∷ []) ∷ (1 ∷ 1 ∷ 3 ∷ 0 ∷ 1 ∷ 6 ∷ []) ∷ []
  C : lines_to (box_plan Direct nest_c) (count (box_plan Direct nest_c)) ≡ (0 ∷ 0 ∷ 2 ∷ 0 ∷ 1 ∷ 8 ∷ []) ∷ (1 ∷ 0 ∷ 4 ∷ 0 ∷ 2 ∷ 24 ∷ [])
      ∷ (2 ∷ 0 ∷ 6 ∷ 0 ∷ 3 ∷ 8 ∷ []) ∷ (3 ∷ 1 ∷ 3 ∷ 0 ∷ 1 ∷ 8 ∷ []) ∷ (4 ∷ 1 ∷ 5 ∷ 0 ∷ 2 ∷ 24 ∷ []) ∷ (5 ∷ 1 ∷ 7 ∷ 0 ∷ 3 ∷ 8 ∷ [])
      ∷ (6 ∷ 2 ∷ 6 ∷ 1 ∷ 3 ∷ 24 ∷ []) ∷ (7 ∷ 3 ∷ 7 ∷ 1 ∷ 3 ∷ 24 ∷ []) ∷ (8 ∷ 4 ∷ 6 ∷ 2 ∷ 3 ∷ 8 ∷ []) ∷ (9 ∷ 5 ∷ 7 ∷ 2 ∷ 3 ∷ 8 ∷ []) ∷ []
  D : lines_to (box_plan Direct nest_d) (count (box_plan Direct nest_d)) ≡ (0 ∷ 0 ∷ 1 ∷ 0 ∷ 1 ∷ 1 ∷ []) ∷ []
  G : lines_to (box_plan Direct nest_g) (count (box_plan Direct nest_g)) ≡ (0 ∷ 0 ∷ 1 ∷ 0 ∷ 1 ∷ 1 ∷ []) ∷ (1 ∷ 1 ∷ 2 ∷ 1 ∷ 0 ∷ 1 ∷ [])
      ∷ (2 ∷ 2 ∷ 3 ∷ 0 ∷ 1 ∷ 1 ∷ []) ∷ []
  Later : lines_to (box_plan Direct nest_later) (count (box_plan Direct nest_later)) ≡ (0 ∷ 0 ∷ 2 ∷ 0 ∷ 1 ∷ 2 ∷ []) ∷ []

listed : Listed
unfolding lines_to message_line ◌and◌ ◌or◌ pick every some keep product tile_count cells box_tiles rank place cell_at cell_place tile_at tile_place box_tile_of inside
    directions ahead reaches crosses parcel taker slot_cells slot_taker at_home slot_parcel messages_to processor_of
listed = record { B = refl; C = refl; D = refl; G = refl; Later = refl }

lines_b : lines_of Direct row_b ≡ (0 ∷ 0 ∷ 2 ∷ 0 ∷ 1 ∷ 8 ∷ []) ∷ (1 ∷ 1 ∷ 3 ∷ 0 ∷ 1 ∷ 6 ∷ []) ∷ []
lines_b = rw is_b listed.B

lines_c : lines_of Direct row_c ≡ (0 ∷ 0 ∷ 2 ∷ 0 ∷ 1 ∷ 8 ∷ []) ∷ (1 ∷ 0 ∷ 4 ∷ 0 ∷ 2 ∷ 24 ∷ []) ∷ (2 ∷ 0 ∷ 6 ∷ 0 ∷ 3 ∷ 8 ∷ []) ∷ (3 ∷ 1 ∷ 3 ∷ 0 ∷ 1 ∷ 8 ∷ [])
    ∷ (4 ∷ 1 ∷ 5 ∷ 0 ∷ 2 ∷ 24 ∷ []) ∷ (5 ∷ 1 ∷ 7 ∷ 0 ∷ 3 ∷ 8 ∷ []) ∷ (6 ∷ 2 ∷ 6 ∷ 1 ∷ 3 ∷ 24 ∷ []) ∷ (7 ∷ 3 ∷ 7 ∷ 1 ∷ 3 ∷ 24 ∷ [])
    ∷ (8 ∷ 4 ∷ 6 ∷ 2 ∷ 3 ∷ 8 ∷ []) ∷ (9 ∷ 5 ∷ 7 ∷ 2 ∷ 3 ∷ 8 ∷ []) ∷ []
lines_c = rw is_c listed.C

lines_d : lines_of Direct row_d ≡ (0 ∷ 0 ∷ 1 ∷ 0 ∷ 1 ∷ 1 ∷ []) ∷ []
lines_d = rw is_d listed.D

lines_g : lines_of Direct row_g ≡ (0 ∷ 0 ∷ 1 ∷ 0 ∷ 1 ∷ 1 ∷ []) ∷ (1 ∷ 1 ∷ 2 ∷ 1 ∷ 0 ∷ 1 ∷ []) ∷ (2 ∷ 2 ∷ 3 ∷ 0 ∷ 1 ∷ 1 ∷ []) ∷ []
lines_g = rw is_g listed.G

record Reported : Type 0 where
  readers_Later : readers_of nest_later 4 ++ readers_of nest_later 5 ≡ 10 ∷ 11 ∷ []
  tile_Later : box_tile_of nest_later 10 ∷ box_tile_of nest_later 11 ∷ [] ≡ 3 ∷ 3 ∷ []
  message_0 : parcel nest_b 0 1 ≡ 16 ∷ 17 ∷ 18 ∷ 19 ∷ 24 ∷ 25 ∷ 26 ∷ 27 ∷ []
  message_1 : parcel nest_b 1 1 ≡ 20 ∷ 21 ∷ 22 ∷ 28 ∷ 29 ∷ 30 ∷ []
  theorem3_2 : theorem3 stays_ahead nest_b 2 1 ≡ 16 ∷ 17 ∷ 18 ∷ 24 ∷ 25 ∷ 26 ∷ []
  theorem3_3 : theorem3 stays_ahead nest_b 3 1 ≡ 19 ∷ 20 ∷ 21 ∷ 22 ∷ 27 ∷ 28 ∷ 29 ∷ 30 ∷ []
  printed_2 : theorem3 has_read nest_b 2 1 ≡ 17 ∷ 18 ∷ 25 ∷ 26 ∷ []
  printed_3 : theorem3 has_read nest_b 3 1 ≡ 19 ∷ 20 ∷ 21 ∷ 22 ∷ 27 ∷ 28 ∷ 29 ∷ 30 ∷ []
  wide : widened nest_wide 0 1 ≡ 1 ∷ 2 ∷ []
  readers : readers_of nest_wide 1 ≡ 2 ∷ []
  at_home_lem : box_tile_of nest_wide 2 ≡ 0

reported : Reported
unfolding ◌and◌ ◌or◌ pick every some keep product tile_count cells rank place cell_at cell_place tile_at tile_place box_tile_of inside ahead reaches crosses parcel
    theorem3 stays_ahead has_read widened greatest least readers_of reads_of read_at member
reported =
    record {
      readers_Later = refl;
      tile_Later = refl;
      message_0 = refl;
      message_1 = refl;
      theorem3_2 = refl;
      theorem3_3 = refl;
      printed_2 = refl;
      printed_3 = refl;
      wide = refl;
      readers = refl;
      at_home_lem = refl;
    }

cells_e : cells_of nest_e 2 ≡ 4 ∷ []
unfolding cells_of keep pick product tile_count cells rank place cell_place tile_at box_tile_of
cells_e = refl

box_e : box_size nest_e 2 ≡ 1
unfolding box_size box_length product pick tile_count place tile_place
box_e = refl

sweep_d : sweep (box_plan Direct nest_d) (1 ∷ 1 ∷ 1 ∷ 1 ∷ []) ≡ 1 ∷ 2 ∷ 3 ∷ 4 ∷ []
unfolding sweep_to cells product value has_read read_at cell_at cell_place place rank every sum pick ◌and◌
sweep_d = refl

-- ---- the report

-- ---- the tables

pub rows : Rows
rows =
    record {
      A = row_a_is;
      B = row_b_is;
      C = row_c_is;
      D = row_d_is;
      E = row_e_is;
      F = row_f_is;
      G = row_g_is;
      H = row_h_is;
      C-indirect = row_c_indirect_is;
      H-indirect = row_h_indirect_is;
      lines_B = lines_b;
      lines_C = lines_c;
      lines_C_indirect = rw is_c indirect.lines_c;
      hops_C = rw is_c indirect.hops_c;
      lines_D = lines_d;
      lines_G = lines_g;
      cells_E = rw is_e cells_e;
      box_E = rw is_e box_e;
      sweep_D = rw is_d sweep_d;
      Later = row_later_is;
      lines_Later = rw is_later listed.Later;
      held_Later = rw is_later parcel_later;
      readers_Later = rw is_later reported.readers_Later;
      tile_Later = rw is_later reported.tile_Later;
    }

pub report_differs : ReportDiffers
report_differs =
    record {
      message_0 = rw is_b reported.message_0;
      message_1 = rw is_b reported.message_1;
      theorem3_2 = rw is_b reported.theorem3_2;
      theorem3_3 = rw is_b reported.theorem3_3;
      printed_2 = rw is_b reported.printed_2;
      printed_3 = rw is_b reported.printed_3;
      exact = rw is_wide parcel_wide;
      wide = rw is_wide reported.wide;
      readers = rw is_wide reported.readers;
      at_home_lem = rw is_wide reported.at_home_lem;
    }
