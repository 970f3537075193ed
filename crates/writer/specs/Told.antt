-- Read this.
-- What reading tells by value: the fields that a recipe holds, in tables, and their number; nothing at a refusal. With what it told the recipe is
-- rebuilt byte for byte. Renders document 02, W-202, and document 01, "Numbers a call gives".
use Rattle.std.specs.Prelude.{ℕ, zero, suc, ◌*◌, ◌≡◌, ◌≢◌, List, length, get_or, take, replicate}
use Rattle.base.specs.Lists.{Bytes}
use Rattle.base.specs.Numbers.{first_of}
use Rattle.nest.specs.Reader.{filled, nest_of, read_lines}
use Rattle.writer.specs.declared.reading.RecipeFields.{RecipeFields}
use Rattle.writer.specs.Fields.{Fields, fields, fields_of}
use Rattle.writer.specs.Writing.{written, write_call}

-- the list in front, 0 behind, in a table of the given size
abbrev pub table_of : ℕ → List ℕ → List ℕ
table_of size l = filled size (length l) (λ i. get_or l i 0)

abbrev pub told_fields : Fields → RecipeFields
told_fields v =
    record {
      number = 0;
      dimensions = length v.lengths;
      distances = length v.weights;
      bounds = length v.sides;
      boundary = v.boundary;
      lengths = table_of 4 v.lengths;
      tiling = table_of 4 v.tiling;
      counts = table_of 4 v.counts;
      components = table_of 32 v.components;
      weights = table_of 8 v.weights;
      offsets = table_of 4 v.offsets;
      sides = table_of 4 v.sides;
      bounded = table_of 4 v.bounded;
      earlier = table_of 4 v.earlier;
      slopes = table_of 4 v.slopes;
      shift = v.shift;
    }

abbrev pub no_fields : ℕ → RecipeFields
no_fields n =
    record {
      number = n;
      dimensions = 0;
      distances = 0;
      bounds = 0;
      boundary = 0;
      lengths = replicate 4 0;
      tiling = replicate 4 0;
      counts = replicate 4 0;
      components = replicate 32 0;
      weights = replicate 8 0;
      offsets = replicate 4 0;
      sides = replicate 4 0;
      bounded = replicate 4 0;
      earlier = replicate 4 0;
      slopes = replicate 4 0;
      shift = 0;
    }

unfoldable pub fields_if : ℕ → Fields → RecipeFields
fields_if zero v = told_fields v
fields_if (suc n) v = no_fields (suc n)

-- the number is that of the first true line
unfoldable pub read_call : List ℕ → RecipeFields
read_call bytes = fields_if (first_of (read_lines bytes)) (fields_of (nest_of bytes))

-- what a user hands on to the writer: of each table as many numbers as count
abbrev pub taken : RecipeFields → Fields
taken t =
    fields (take t.dimensions t.lengths) (take t.dimensions t.tiling) (take t.dimensions t.counts)
    (take (4 * t.distances) t.components) (take t.distances t.weights)
    (take t.bounds t.sides) (take t.bounds t.bounded) (take t.bounds t.earlier)
    (take t.bounds t.slopes) (take t.bounds t.offsets) t.shift t.boundary

pub record ReadsBack : Type 0 where
  pub number : (bytes : List ℕ) → (read_call bytes).number ≡ first_of (read_lines bytes)
  -- nothing beside it at a refusal
  pub none : (bytes : List ℕ) → first_of (read_lines bytes) ≢ 0 → read_call bytes ≡ no_fields (first_of (read_lines bytes))
  -- else exactly the fields that the recipe holds
  pub held : (bytes : List ℕ) → Bytes bytes → first_of (read_lines bytes) ≡ 0 → taken (read_call bytes) ≡ fields_of (nest_of bytes)
  -- and these, written, are the recipe
  pub rebuilt : (bytes space : List ℕ) → Bytes bytes → first_of (read_lines bytes) ≡ 0 → length space ≡ length bytes
      → write_call (taken (read_call bytes)) space ≡ written 0 bytes
