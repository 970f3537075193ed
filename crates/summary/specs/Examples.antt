-- Read this. The one table of what the calls about a plan answer: document 01's rows A to H and those of the requests, by `summary` and by `message`.
-- Renders document 01, "Recipes to be met"; W-204's row C, W-205's row H, W-209's shapes and line 21. The contracts of `summary`, `message` and `hops`
-- cite the very definitions used here; route 0 is direct, any other word indirect.
use Rattle.std.specs.Prelude.{ℕ, zero, suc, ◌≡◌, ◌≢◌, List, [], ◌∷◌, ◌++◌}
use Rattle.nest.specs.Recipes.{row_a, row_b, row_c, row_d, row_e, row_f, row_g, row_h, row_later}
use Rattle.layout.specs.RouteWords.{route_of}
use Rattle.conformance.specs.Examples.{row_full, row_six, row_line, row_twice, row_middle}
use Rattle.conformance.specs.ShapedExamples.{row_triangle, row_alone, row_single, row_whole}
use Rattle.conformance.specs.InOrder.{row_spread}
use Rattle.summary.specs.declared.Figures.{Figures}
use Rattle.summary.specs.declared.MessageLine.{MessageLine}
use Rattle.summary.specs.Summary.{summary_of, no_figures, message_line_of, no_line}

-- what `summary` tells of a recipe on a route: number, tiles, messages, words, steps; at a refusal its number, and 0
abbrev pub planned : ℕ → List ℕ → Figures
planned route bytes = summary_of (route_of route) bytes

abbrev pub tells : ℕ → ℕ → ℕ → ℕ → Figures
tells tiles messages words steps = record { number = 0; tiles = tiles; messages = messages; words = words; steps = steps }

-- what `message` tells of messages 0 to n - 1: number, sending tile, taking tile, sending processor, taking processor, words
unfoldable pub lines_told : ℕ → List ℕ → ℕ → List MessageLine
lines_told route bytes zero = []
lines_told route bytes (suc m) = lines_told route bytes m ++ (message_line_of (route_of route) bytes m ∷ [])

abbrev pub entry : ℕ → ℕ → ℕ → ℕ → ℕ → MessageLine
entry sender taker from to words = record { number = 0; sender = sender; taker = taker; from = from; to = to; words = words }

pub record SummaryExamples : Type 0 where
  -- document 01's table
  pub A : planned 0 row_a ≡ tells 16 12 24 56
  pub B : planned 0 row_b ≡ tells 4 2 14 12
  pub C : planned 0 row_c ≡ tells 8 10 144 36
  pub D : planned 0 row_d ≡ tells 2 1 1 6
  pub E : planned 0 row_e ≡ tells 3 2 2 10
  pub F : planned 0 row_f ≡ tells 2 0 0 4
  pub G : planned 0 row_g ≡ tells 4 3 3 14  -- by request W-201
  pub H : planned 0 row_h ≡ tells 2 0 0 4  -- by request W-205
  -- the indirect route
  pub C-indirect : planned 1 row_c ≡ tells 8 8 160 32  -- by request W-204
  pub H-indirect : planned 1 row_h ≡ tells 2 0 0 4
  -- message by message, and no such behind the last
  pub lines_A : lines_told 0 row_a 13
      ≡ entry 0 4 0 1 2 ∷ entry 1 5 0 1 2 ∷ entry 2 6 0 1 2 ∷ entry 3 7 0 1 2 ∷ entry 4 8 1 0 2 ∷ entry 5 9 1 0 2 ∷ entry 6 10 1 0 2 ∷ entry 7 11 1 0 2
      ∷ entry 8 12 0 1 2 ∷ entry 9 13 0 1 2 ∷ entry 10 14 0 1 2 ∷ entry 11 15 0 1 2 ∷ no_line 11 ∷ []
  pub lines_B : lines_told 0 row_b 3 ≡ entry 0 2 0 1 8 ∷ entry 1 3 0 1 6 ∷ no_line 11 ∷ []
  pub lines_C : lines_told 0 row_c 11
      ≡ entry 0 2 0 1 8 ∷ entry 0 4 0 2 24 ∷ entry 0 6 0 3 8 ∷ entry 1 3 0 1 8 ∷ entry 1 5 0 2 24 ∷ entry 1 7 0 3 8 ∷ entry 2 6 1 3 24 ∷ entry 3 7 1 3 24
      ∷ entry 4 6 2 3 8 ∷ entry 5 7 2 3 8 ∷ no_line 11 ∷ []
  pub lines_C_indirect : lines_told 1 row_c 9
      ≡ entry 0 4 0 2 32 ∷ entry 0 2 0 1 8 ∷ entry 1 5 0 2 32 ∷ entry 1 3 0 1 8 ∷ entry 2 6 1 3 24 ∷ entry 3 7 1 3 24 ∷ entry 4 6 2 3 16 ∷ entry 5 7 2 3 16
      ∷ no_line 11 ∷ []
  pub lines_D : lines_told 0 row_d 2 ≡ entry 0 1 0 1 1 ∷ no_line 11 ∷ []
  pub lines_E : lines_told 0 row_e 3 ≡ entry 0 1 0 1 1 ∷ entry 1 2 1 0 1 ∷ no_line 11 ∷ []
  pub lines_F : lines_told 0 row_f 1 ≡ no_line 11 ∷ []
  pub lines_G : lines_told 0 row_g 4 ≡ entry 0 1 0 1 1 ∷ entry 1 2 1 0 1 ∷ entry 2 3 0 1 1 ∷ no_line 11 ∷ []
  pub lines_H : lines_told 0 row_h 1 ≡ no_line 11 ∷ []
  -- W-201: read one tile later; W-204: forwarded alone; W-205: counts of 1
  pub later : planned 0 row_later ≡ tells 4 1 2 10
  pub full : planned 0 row_full ≡ tells 4 1 4 10
  pub full_indirect : planned 1 row_full ≡ tells 4 2 8 12
  pub lines_full_indirect : lines_told 1 row_full 3 ≡ entry 0 2 0 2 4 ∷ entry 2 3 2 3 4 ∷ no_line 11 ∷ []
  pub six : planned 0 row_six ≡ tells 18 25 25 86
  pub six_indirect : planned 1 row_six ≡ tells 18 15 25 66
  pub line : planned 0 row_line ≡ tells 4 1 4 10
  pub line_indirect : planned 1 row_line ≡ tells 4 1 4 10
  pub lines_line_indirect_lem : lines_told 1 row_line 2 ≡ entry 2 3 0 1 4 ∷ no_line 11 ∷ []
  pub twice : planned 0 row_twice ≡ tells 4 3 5 14
  pub twice_indirect : planned 1 row_twice ≡ tells 4 2 4 12
  pub middle : planned 0 row_middle ≡ tells 8 1 1 18
  pub middle_indirect : planned 1 row_middle ≡ tells 8 2 2 20
  -- W-209: shapes, direct alone: 21 for the indirect route, also where the bound cuts nothing
  pub triangle : planned 0 row_triangle ≡ tells 3 1 1 8
  pub lines_triangle_lem : lines_told 0 row_triangle 2 ≡ entry 0 2 0 1 1 ∷ no_line 11 ∷ []
  pub triangle_indirect : planned 1 row_triangle ≡ no_figures 21
  pub lines_triangle_indirect : lines_told 1 row_triangle 1 ≡ no_line 21 ∷ []
  pub alone : planned 0 row_alone ≡ tells 3 0 0 6
  pub single : planned 0 row_single ≡ tells 1 0 0 2
  pub whole : planned 0 row_whole ≡ tells 4 2 14 12
  pub whole_indirect : planned 1 row_whole ≡ no_figures 21
  pub spread : planned 0 row_spread ≡ tells 9 5 5 28
  pub lines_spread : lines_told 0 row_spread 6
      ≡ entry 1 4 1 4 1 ∷ entry 2 5 2 5 1 ∷ entry 3 6 0 3 1 ∷ entry 5 7 5 2 1 ∷ entry 6 8 3 0 1 ∷ no_line 11 ∷ []
  -- a refused recipe: its number, and 0 in every other field; a message's number is not looked at
  pub ragged : planned 0 [] ≡ no_figures 1
  pub ragged_line : lines_told 1 [] 1 ≡ no_line 1 ∷ []
  -- any two words other than 0 name the same route
  pub words_alike : (v w : ℕ) → v ≢ 0 → w ≢ 0 → (bytes : List ℕ) → planned v bytes ≡ planned w bytes
  pub lines_alike : (v w m : ℕ) → v ≢ 0 → w ≢ 0 → (bytes : List ℕ) → message_line_of (route_of v) bytes m ≡ message_line_of (route_of w) bytes m
