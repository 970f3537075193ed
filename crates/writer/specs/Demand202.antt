-- Read this.
-- What W-202 demands of writing, sentence by sentence, from fields and from a nest by value; and demand 1 for it.
-- Renders document 02, W-202 and the sentences of W-207 and W-209 on the writer, and document 01, "Numbers a call gives".
use Rattle.std.specs.Prelude.{ℕ, ◌+◌, ◌≤◌, ◌<◌, ◌≡◌, ◌≢◌, Bool, true, false, List, length, ltb}
use Rattle.base.specs.Tests.{pick, every}
use Rattle.base.specs.Lists.{Bytes}
use Rattle.base.specs.Numbers.{first_of}
use Rattle.machine.specs.Machine.{Answered}
use Rattle.nest.specs.declared.Nest.{Nest}
use Rattle.nest.specs.Nest.{component}
use Rattle.nest.specs.Reader.{kind, nest_of, nest_lines, read_lines}
use Rattle.nest.specs.Encode.{encode}
use Rattle.writer.specs.Fields.{Fields, agree, nest_from, fields_of, Widths, BoundsWell}
use Rattle.writer.specs.Writing.{written, nest_writable, writable, write_nest_call, write_call}

-- of values of type A: whether a recipe can hold them, the recipe that spells them, the values seen in a recipe's bytes;
-- `Typed` is what their own type says of them
pub record Writes {A : Type 0} (call : A → List ℕ → Answered (List ℕ)) (can : A → Bool) (spelled : A → List ℕ) (seen : List ℕ → A)
    (Typed : A → Type 0) : Type 0 where
  -- the recipe of the values is produced
  pub produces : (v : A) (space : List ℕ) → can v ≡ true → first_of (read_lines (spelled v)) ≡ 0 → length space ≡ length (spelled v)
      → call v space ≡ written 0 (spelled v)
  -- the number is the reader's of these bytes, which hold those very values, where they are refused too
  pub number : (v : A) (space : List ℕ) → can v ≡ true → first_of (read_lines (spelled v)) ≢ 0
      → call v space ≡ written (first_of (read_lines (spelled v))) space
  pub holds : (v : A) → Typed v → can v ≡ true → seen (spelled v) ≡ v
  -- 9 where the space has not exactly the length
  pub nine : (v : A) (space : List ℕ) → can v ≡ true → first_of (read_lines (spelled v)) ≡ 0 → length space ≢ length (spelled v)
      → call v space ≡ written 9 space
  -- values that no recipe can hold
  pub two : (v : A) (space : List ℕ) → can v ≡ false → call v space ≡ written 2 space
  -- every recipe that the reader accepts is rebuilt byte for byte from what was read
  pub rebuilt : (b space : List ℕ) → Bytes b → first_of (read_lines b) ≡ 0 → length space ≡ length b → call (seen b) space ≡ written 0 b
  -- what was produced is accepted, and reads back to the values given
  pub read_back : (v : A) (space : List ℕ) → Typed v → (call v space).number ≡ 0
      → (first_of (read_lines (call v space).after) ≡ 0) × (seen (call v space).after ≡ v)
  -- demand 1: a refusal leaves every lent byte
  pub refuses : (v : A) (space : List ℕ) → (call v space).number ≢ 0 → (call v space).after ≡ space

-- the sizes of a nest's tables, as its type has them
pub record Tables (x : Nest) : Type 0 where
  pub lengths : length x.lengths ≡ 4
  pub tiling : length x.tiling ≡ 4
  pub counts : length x.counts ≡ 4
  pub components : length x.components ≡ 32
  pub weights : length x.weights ≡ 8
  pub sides : length x.sides ≡ 4
  pub bounded : length x.bounded ≡ 4
  pub earlier : length x.earlier ≡ 4
  pub slopes : length x.slopes ≡ 4
  pub offsets : length x.offsets ≡ 4

pub record Demand202 : Type 0 where
  pub from_fields : Writes write_call writable (λ v. encode (nest_from v)) (λ b. fields_of (nest_of b)) Widths
  pub from_nest : Writes write_nest_call nest_writable encode nest_of Tables
  -- a recipe can hold all fields whose lists agree and whose numbers are as wide as their fields
  pub all_held : (v : Fields) → agree v ≡ true → Widths v → writable v ≡ true
  -- not 2 to 4 dimensions, not 1 to 8 distances, more than 4 bounds, a faulty bound, or a shift above 31: 2
  pub stray : (v : Fields) (space : List ℕ)
      → ((2 ≤ length v.lengths) × (length v.lengths ≤ 4) × (1 ≤ length v.weights) × (length v.weights ≤ 8)
      × (length v.sides ≤ 4) × (v.shift < 32) × BoundsWell v → ⊥)
      → write_call v space ≡ written 2 space
  -- else the reader's number is that of the values alone, and never 18
  pub told : (v : Fields) → writable v ≡ true → 2 ≤ length v.lengths → 1 ≤ length v.weights → v.shift < 32 → BoundsWell v
      → first_of (read_lines (encode (nest_from v))) ≡ first_of (nest_lines false (nest_from v))
  -- W-207: kind 4 only where kind 2 can't hold the distance
  pub picks : (x : Nest) (e : ℕ) → e < x.distances
      → kind (encode x) (x.dimensions + x.bounds + e) ≡ pick (every (λ j. ltb (component x e j) 256) 4) 2 4
