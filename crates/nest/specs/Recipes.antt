-- Read this.
-- Document 01's recipes A to H as bytes, and one of request W-201's.
-- Renders document 01, "Recipes to be met": the columns N, k, P and distances; weights 1, shift 0, shore 0.
use Rattle.std.specs.Prelude.{ℕ, List, ◌∷◌, ◌++◌, replicate}

-- a dimension: length, tile length, processor count; a distance of weight 1; the close with shift 0 and boundary 0
abbrev pub dimension : ℕ → ℕ → ℕ → List ℕ
dimension length tile count = 1 ∷ 0 ∷ length ∷ 0 ∷ tile ∷ 0 ∷ count ∷ replicate 9 0

-- a bound: its side, the dimension bounded, an earlier one, the slope's byte, the offset's bytes
abbrev pub bound : ℕ → ℕ → ℕ → ℕ → ℕ → ℕ → List ℕ
bound side dimension earlier slope low high = 5 ∷ side ∷ dimension ∷ earlier ∷ slope ∷ 0 ∷ low ∷ high ∷ replicate 8 0

abbrev pub distance : ℕ → ℕ → ℕ → List ℕ
distance d1 d2 d3 = 2 ∷ 0 ∷ d1 ∷ d2 ∷ d3 ∷ 0 ∷ 1 ∷ replicate 9 0

abbrev pub close : List ℕ
close = 3 ∷ replicate 15 0

abbrev pub row_a : List ℕ
row_a = dimension 8 2 2 ++ dimension 8 2 0 ++ distance 1 0 0 ++ distance 0 1 0 ++ distance 1 1 0 ++ close

abbrev pub row_b : List ℕ
row_b = dimension 8 4 2 ++ dimension 8 4 0 ++ distance 2 1 0 ++ close

abbrev pub row_c : List ℕ
row_c = dimension 8 4 2 ++ dimension 8 4 2 ++ dimension 8 4 0 ++ distance 2 1 0 ++ close

abbrev pub row_d : List ℕ
row_d = dimension 4 2 2 ++ dimension 1 1 0 ++ distance 1 0 0 ++ close

abbrev pub row_e : List ℕ
row_e = dimension 5 2 2 ++ dimension 1 1 0 ++ distance 1 0 0 ++ close

abbrev pub row_f : List ℕ
row_f = dimension 1 2 2 ++ dimension 2 1 0 ++ distance 1 0 0 ++ close

abbrev pub row_g : List ℕ
row_g = dimension 4 1 2 ++ dimension 1 1 0 ++ distance 1 0 0 ++ close

abbrev pub row_h : List ℕ
row_h = dimension 4 2 1 ++ dimension 1 1 0 ++ distance 1 0 0 ++ close

-- a tile as long as the reach: its one message is read one tile later in the chain
abbrev pub row_later : List ℕ
row_later = dimension 4 2 2 ++ dimension 4 2 0 ++ distance 1 2 0 ++ close
