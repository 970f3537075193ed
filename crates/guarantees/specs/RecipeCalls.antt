-- Read this.
-- Reading and writing a recipe by the exported calls: demand 1 for both, what W-202 demands of writing, and the rebuild: what was read, written, is the
-- recipe byte for byte. Renders document 02, W-202 and W-207, and document 01, "Numbers a call gives".
use Rattle.std.specs.Prelude.{ℕ, ◌+◌, ◌≤◌, ◌<◌, ◌≡◌, ◌≢◌, true, false, List, length, ltb}
use Rattle.base.specs.Tests.{pick, every}
use Rattle.base.specs.Lists.{Bytes}
use Rattle.base.specs.Numbers.{first_of}
use Rattle.nest.specs.Nest.{component}
use Rattle.nest.specs.Reader.{kind, nest_of, nest_lines, read_lines}
use Rattle.nest.specs.Encode.{encode}
use Rattle.writer.specs.declared.reading.RecipeFields.{RecipeFields}
use Rattle.writer.specs.Fields.{Fields, agree, nest_from, fields_of, BoundsWell}
use Rattle.writer.specs.Writing.{write_lines, writable}
use Rattle.writer.specs.Told.{told_fields, no_fields, taken}
use Rattle.engine.specs.Calls.{answer}
use Rattle.engine.specs.Demands.{Fixed}
use Rattle.calls.specs.Tells.{Tells}
use Rattle.calls.specs.Gave.{ReadGave, WriteGave}

-- the bytes that spell fields
abbrev pub spelled : Fields → List ℕ
spelled v = encode (nest_from v)

-- the dimensions, distances and bounds that a recipe can have, and its shift
pub record InRange (v : Fields) : Type 0 where
  pub dimensions : (2 ≤ length v.lengths) × (length v.lengths ≤ 4)
  pub distances : (1 ≤ length v.weights) × (length v.weights ≤ 8)
  pub bounds : (length v.sides ≤ 4) × BoundsWell v
  pub shift : v.shift < 32

-- fields v written into a space that was `old`: the call gave n and left `space`. How wide each number is, the types of the call's arguments say
pub record WroteFields (v : Fields) (old : List ℕ) (n : ℕ) (space : List ℕ) : Type 0 where
  pub fixed : Fixed (answer n space) (write_lines (writable v) (spelled v) (length old)) (spelled v) old
  -- values whose lists do not agree, which no recipe can hold: 2
  pub two : agree v ≡ false → n ≡ 2
  -- and so where there are too few or too many of something, a bound is none, or the shift is above 31
  pub stray : (InRange v → ⊥) → n ≡ 2
  -- else the reader's number of the bytes that spell them, and these hold the very values
  pub number : agree v ≡ true → first_of (read_lines (spelled v)) ≢ 0 → n ≡ first_of (read_lines (spelled v))
  pub holds : agree v ≡ true → fields_of (nest_of (spelled v)) ≡ v
  -- which is the number of the values alone, and never 18: the bytes are spelled as short as can be
  pub told : agree v ≡ true → InRange v → first_of (nest_lines false (nest_from v)) ≢ 0 → n ≡ first_of (nest_lines false (nest_from v))
  -- W-207: kind 4 only where kind 2 can't hold the distance
  pub picks : n ≡ 0 → (e : ℕ) → e < length v.weights
      → kind space (length v.lengths + length v.sides + e) ≡ pick (every (λ j. ltb (component (nest_from v) e j) 256) 4) 2 4
  -- then 9, where the space has not exactly their length
  pub nine : agree v ≡ true → first_of (read_lines (spelled v)) ≡ 0 → length old ≢ length (spelled v) → n ≡ 9
  -- 0: the recipe, which is accepted and reads back to the values given
  pub produces : agree v ≡ true → first_of (read_lines (spelled v)) ≡ 0 → length old ≡ length (spelled v) → (n ≡ 0) × (space ≡ spelled v)
  pub read_back : n ≡ 0 → (first_of (read_lines space) ≡ 0) × (fields_of (nest_of space) ≡ v)

pub record RecipeCalls : Type 0 where
  pub read : (bytes : List ℕ) (told : RecipeFields) → ReadGave bytes told
      → Tells (λ t. t.number) (read_lines bytes) (told_fields (fields_of (nest_of bytes))) no_fields told
  pub write : (v : Fields) (old : List ℕ) (n : ℕ) (space : List ℕ) → WriteGave v old n space → WroteFields v old n space
  -- read, then write what was told: the very bytes
  pub rebuilt : (bytes : List ℕ) (told : RecipeFields) (old : List ℕ) (n : ℕ) (space : List ℕ) → Bytes bytes → ReadGave bytes told → told.number ≡ 0
      → WriteGave (taken told) old n space → length old ≡ length bytes → (n ≡ 0) × (space ≡ bytes)
