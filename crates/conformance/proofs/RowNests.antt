-- The nests that the rows' bytes give.
use mathlib.Core.Path.{◌≡◌, refl}
use mathlib.Core.List.{[], ◌∷◌}
use lib.ListN.{replicate}
use Rattle.base.specs.Tests.{pick, keep, those, tabulate}
use Rattle.nest.specs.declared.Nest.{Nest}
use Rattle.nest.specs.Reader.{of_kind, filled, nest_by, nest_of}
use Rattle.nest.specs.Recipes.{row_a, row_b, row_c, row_d, row_e, row_f, row_g, row_h, row_later}
pub use Rattle.plan.proofs.SmallNests.{nest_later, nest_wide, nest_edge}
use Rattle.plan.proofs.SmallNests.{nest}
use Rattle.conformance.specs.Examples.{row_wide, row_edge, row_full, row_six, row_line, row_twice, row_middle}

abbrev pub nest_a : Nest
nest_a =
    nest 2 1 3 (8 ∷ 8 ∷ 0 ∷ 0 ∷ []) (2 ∷ 2 ∷ 0 ∷ 0 ∷ []) (2 ∷ 0 ∷ 0 ∷ 0 ∷ []) (1 ∷ 0 ∷ 0 ∷ 0 ∷ 0 ∷ 1 ∷ 0 ∷ 0 ∷ 1 ∷ 1 ∷ replicate 22 0)
    (1 ∷ 1 ∷ 1 ∷ replicate 5 0)

pub is_a : nest_of row_a ≡ nest_a
unfolding of_kind filled nest_by nest_of pick keep those tabulate
is_a = refl

abbrev pub nest_b : Nest
nest_b = nest 2 1 1 (8 ∷ 8 ∷ 0 ∷ 0 ∷ []) (4 ∷ 4 ∷ 0 ∷ 0 ∷ []) (2 ∷ 0 ∷ 0 ∷ 0 ∷ []) (2 ∷ 1 ∷ replicate 30 0) (1 ∷ replicate 7 0)

pub is_b : nest_of row_b ≡ nest_b
unfolding of_kind filled nest_by nest_of pick keep those tabulate
is_b = refl

abbrev pub nest_c : Nest
nest_c = nest 3 2 1 (8 ∷ 8 ∷ 8 ∷ 0 ∷ []) (4 ∷ 4 ∷ 4 ∷ 0 ∷ []) (2 ∷ 2 ∷ 0 ∷ 0 ∷ []) (2 ∷ 1 ∷ replicate 30 0) (1 ∷ replicate 7 0)

pub is_c : nest_of row_c ≡ nest_c
unfolding of_kind filled nest_by nest_of pick keep those tabulate
is_c = refl

abbrev pub nest_d : Nest
nest_d = nest 2 1 1 (4 ∷ 1 ∷ 0 ∷ 0 ∷ []) (2 ∷ 1 ∷ 0 ∷ 0 ∷ []) (2 ∷ 0 ∷ 0 ∷ 0 ∷ []) (1 ∷ replicate 31 0) (1 ∷ replicate 7 0)

pub is_d : nest_of row_d ≡ nest_d
unfolding of_kind filled nest_by nest_of pick keep those tabulate
is_d = refl

abbrev pub nest_e : Nest
nest_e = nest 2 1 1 (5 ∷ 1 ∷ 0 ∷ 0 ∷ []) (2 ∷ 1 ∷ 0 ∷ 0 ∷ []) (2 ∷ 0 ∷ 0 ∷ 0 ∷ []) (1 ∷ replicate 31 0) (1 ∷ replicate 7 0)

pub is_e : nest_of row_e ≡ nest_e
unfolding of_kind filled nest_by nest_of pick keep those tabulate
is_e = refl

abbrev pub nest_f : Nest
nest_f = nest 2 1 1 (1 ∷ 2 ∷ 0 ∷ 0 ∷ []) (2 ∷ 1 ∷ 0 ∷ 0 ∷ []) (2 ∷ 0 ∷ 0 ∷ 0 ∷ []) (1 ∷ replicate 31 0) (1 ∷ replicate 7 0)

pub is_f : nest_of row_f ≡ nest_f
unfolding of_kind filled nest_by nest_of pick keep those tabulate
is_f = refl

abbrev pub nest_g : Nest
nest_g = nest 2 1 1 (4 ∷ 1 ∷ 0 ∷ 0 ∷ []) (1 ∷ 1 ∷ 0 ∷ 0 ∷ []) (2 ∷ 0 ∷ 0 ∷ 0 ∷ []) (1 ∷ replicate 31 0) (1 ∷ replicate 7 0)

pub is_g : nest_of row_g ≡ nest_g
unfolding of_kind filled nest_by nest_of pick keep those tabulate
is_g = refl

abbrev pub nest_h : Nest
nest_h = nest 2 1 1 (4 ∷ 1 ∷ 0 ∷ 0 ∷ []) (2 ∷ 1 ∷ 0 ∷ 0 ∷ []) (1 ∷ 0 ∷ 0 ∷ 0 ∷ []) (1 ∷ replicate 31 0) (1 ∷ replicate 7 0)

pub is_h : nest_of row_h ≡ nest_h
unfolding of_kind filled nest_by nest_of pick keep those tabulate
is_h = refl

pub is_later : nest_of row_later ≡ nest_later
unfolding of_kind filled nest_by nest_of pick keep those tabulate
is_later = refl

pub is_wide : nest_of row_wide ≡ nest_wide
unfolding of_kind filled nest_by nest_of pick keep those tabulate
is_wide = refl

pub is_edge : nest_of row_edge ≡ nest_edge
unfolding of_kind filled nest_by nest_of pick keep those tabulate
is_edge = refl

abbrev pub nest_full : Nest
nest_full = nest 3 2 1 (4 ∷ 4 ∷ 1 ∷ 0 ∷ []) (2 ∷ 2 ∷ 1 ∷ 0 ∷ []) (2 ∷ 2 ∷ 0 ∷ 0 ∷ []) (2 ∷ 2 ∷ replicate 30 0) (1 ∷ replicate 7 0)

pub is_full : nest_of row_full ≡ nest_full
unfolding of_kind filled nest_by nest_of pick keep those tabulate
is_full = refl

abbrev pub nest_six : Nest
nest_six = nest 3 2 1 (6 ∷ 6 ∷ 1 ∷ 0 ∷ []) (2 ∷ 1 ∷ 1 ∷ 0 ∷ []) (1 ∷ 6 ∷ 0 ∷ 0 ∷ []) (1 ∷ 1 ∷ replicate 30 0) (1 ∷ replicate 7 0)

pub is_six : nest_of row_six ≡ nest_six
unfolding of_kind filled nest_by nest_of pick keep those tabulate
is_six = refl

abbrev pub nest_line : Nest
nest_line = nest 3 2 1 (4 ∷ 4 ∷ 1 ∷ 0 ∷ []) (2 ∷ 2 ∷ 1 ∷ 0 ∷ []) (1 ∷ 2 ∷ 0 ∷ 0 ∷ []) (2 ∷ 2 ∷ replicate 30 0) (1 ∷ replicate 7 0)

pub is_line : nest_of row_line ≡ nest_line
unfolding of_kind filled nest_by nest_of pick keep those tabulate
is_line = refl

abbrev pub nest_twice : Nest
nest_twice = nest 3 2 2 (4 ∷ 4 ∷ 1 ∷ 0 ∷ []) (2 ∷ 2 ∷ 1 ∷ 0 ∷ []) (2 ∷ 1 ∷ 0 ∷ 0 ∷ []) (1 ∷ 0 ∷ 0 ∷ 0 ∷ 1 ∷ 1 ∷ replicate 26 0) (1 ∷ 1 ∷ replicate 6 0)

pub is_twice : nest_of row_twice ≡ nest_twice
unfolding of_kind filled nest_by nest_of pick keep those tabulate
is_twice = refl

abbrev pub nest_middle : Nest
nest_middle = nest 4 3 1 (2 ∷ 2 ∷ 2 ∷ 1 ∷ []) (1 ∷ 1 ∷ 1 ∷ 1 ∷ []) (2 ∷ 1 ∷ 2 ∷ 0 ∷ []) (1 ∷ 1 ∷ 1 ∷ replicate 29 0) (1 ∷ replicate 7 0)

pub is_middle : nest_of row_middle ≡ nest_middle
unfolding of_kind filled nest_by nest_of pick keep those tabulate
is_middle = refl
