-- Read this. What a bound says, in signed numbers, by the bytes of its record; `Shape` has it in numbers that are never negative.
-- Renders document 02, W-209: "the component must be at least, or at most, slope × the earlier component + offset".
use Rattle.std.specs.Prelude.{ℕ, ◌+◌, ◌*◌, ◌-◌, ◌<◌, ◌≡◌, ◌↔◌, true, List, [], ◌∷◌, ◌++◌, get_or, ltb, ℤ, pos, negsuc, ◌+ℤ◌, ◌*ℤ◌}
use Rattle.std.specs.Int.Signed.{le_z}
use Rattle.base.specs.Tests.{pick, keep}
use Rattle.nest.specs.Nest.{cells}
use Rattle.nest.specs.Places.{cell_place}
use Rattle.base.specs.Bytes.{half}
use Rattle.nest.specs.Reader.{kind, of_kind, nest_of}
use Rattle.nest.specs.Recipes.{dimension, bound, distance, close}
use Rattle.nest.specs.Shape.{in_shape}

-- a byte, and a number of two bytes, as signed ones: from 128, and from 32,768, on they are below 0; negsuc n is -(n + 1)
unfoldable pub signed_byte : ℕ → ℤ
signed_byte b = pick (ltb b 128) (pos b) (negsuc (255 - b))

unfoldable pub signed_half : ℕ → ℤ
signed_half v = pick (ltb v 32768) (pos v) (negsuc (65535 - v))

-- of the bound in record r: the component bounded, the earlier one, and slope × the earlier component + offset, at place i
abbrev pub component_of : List ℕ → ℕ → (ℕ → ℕ) → ℤ
component_of bytes r i = pos (i (get_or bytes (16 * r + 2) 0))

abbrev pub earlier_of : List ℕ → ℕ → (ℕ → ℕ) → ℤ
earlier_of bytes r i = pos (i (get_or bytes (16 * r + 3) 0))

unfoldable pub line_of : List ℕ → ℕ → (ℕ → ℕ) → ℤ
line_of bytes r i = signed_byte (get_or bytes (16 * r + 4) 0) *ℤ earlier_of bytes r i +ℤ signed_half (half bytes (16 * r + 6))

-- place i meets the bound in record r: byte 1 is 0 for a lower, 1 for an upper bound
pub record Meets (bytes : List ℕ) (r : ℕ) (i : ℕ → ℕ) : Type 0 where
  pub lower : get_or bytes (16 * r + 1) 0 ≡ 0 → le_z (line_of bytes r i) (component_of bytes r i) ≡ true
  pub upper : get_or bytes (16 * r + 1) 0 ≡ 1 → le_z (component_of bytes r i) (line_of bytes r i) ≡ true

-- of an accepted recipe's bytes
pub record BoundsMean (bytes : List ℕ) : Type 0 where
  -- behind the dimensions stand the bounds, as many as there are records of kind 5, each with a side
  pub stands : (k : ℕ) → k < of_kind bytes 5 → kind bytes (of_kind bytes 1 + k) ≡ 5
  pub sided : (k : ℕ) → k < of_kind bytes 5 → get_or bytes (16 * (of_kind bytes 1 + k) + 1) 0 < 2
  -- a cell is in the shape exactly where its place meets them all
  pub is_in_shape : (c : ℕ) → (in_shape (nest_of bytes) c ≡ true)
      ↔ ((k : ℕ) → k < of_kind bytes 5 → Meets bytes (of_kind bytes 1 + k) (cell_place (nest_of bytes) c))

-- ---- small shapes, computed: the cells of a box of 3 by 3 that one bound leaves

abbrev pub three : List ℕ → List ℕ
three b = dimension 3 1 2 ++ dimension 3 1 0 ++ b ++ distance 1 0 0 ++ close

abbrev pub left : List ℕ → List ℕ
left b = keep (in_shape (nest_of (three b))) (cells (nest_of (three b)))

pub record BoundExamples : Type 0 where
  pub byte : signed_byte 0 ∷ signed_byte 1 ∷ signed_byte 127 ∷ signed_byte 128 ∷ signed_byte 255 ∷ []
      ≡ pos 0 ∷ pos 1 ∷ pos 127 ∷ negsuc 127 ∷ negsuc 0 ∷ []
  pub half_is : signed_half 0 ∷ signed_half 32767 ∷ signed_half 32768 ∷ signed_half 65535 ∷ []
      ≡ pos 0 ∷ pos 32767 ∷ negsuc 32767 ∷ negsuc 0 ∷ []
  -- i2 at least i1; at least i1 - 1; at least 1 - i1; at least 2
  pub rising : left (bound 0 1 0 1 0 0) ≡ 0 ∷ 1 ∷ 2 ∷ 4 ∷ 5 ∷ 8 ∷ []
  pub lowered : left (bound 0 1 0 1 255 255) ≡ 0 ∷ 1 ∷ 2 ∷ 3 ∷ 4 ∷ 5 ∷ 7 ∷ 8 ∷ []
  pub falling : left (bound 0 1 0 255 1 0) ≡ 1 ∷ 2 ∷ 3 ∷ 4 ∷ 5 ∷ 6 ∷ 7 ∷ 8 ∷ []
  pub level : left (bound 0 1 0 0 2 0) ≡ 2 ∷ 5 ∷ 8 ∷ []
  -- i2 at most i1; at most 1 - i1; at most i1 - 1; at least -32,768, at most it
  pub under : left (bound 1 1 0 1 0 0) ≡ 0 ∷ 3 ∷ 4 ∷ 6 ∷ 7 ∷ 8 ∷ []
  pub corner : left (bound 1 1 0 255 1 0) ≡ 0 ∷ 1 ∷ 3 ∷ []
  pub below : left (bound 1 1 0 1 255 255) ≡ 3 ∷ 6 ∷ 7 ∷ []
  pub all : left (bound 0 1 0 0 0 128) ≡ 0 ∷ 1 ∷ 2 ∷ 3 ∷ 4 ∷ 5 ∷ 6 ∷ 7 ∷ 8 ∷ []
  pub none : left (bound 1 1 0 0 0 128) ≡ []
