-- Read this.
-- What writing answers: its number, and the lent space after it; from a nest by value, and from fields.
-- Renders document 02, W-202: the number the reader would give for the values, then 9.
use Rattle.std.specs.Prelude.{ℕ, ◌*◌, Bool, List, [], ◌∷◌, ◌++◌, length, get_or, eqb, ltb, leb}
use Rattle.base.specs.Tests.{◌and◌, not, pick, every, keep}
use Rattle.base.specs.Numbers.{Line, line, first_of}
use Rattle.machine.specs.Machine.{Answered, answered}
use Rattle.nest.specs.declared.Nest.{Nest}
use Rattle.nest.specs.Nest.{processor_count}
use Rattle.nest.specs.Reader.{read_lines}
use Rattle.nest.specs.Encode.{encode}
use Rattle.writer.specs.Fields.{Fields, agree, nest_from}

-- a call's number, and the space as it leaves it
abbrev pub written : ℕ → List ℕ → Answered (List ℕ)
written n space = record { number = n; after = space }

-- values that no recipe can hold give 2; then what the reader says of the bytes; then 9 where the space has not exactly their length
unfoldable pub write_lines : Bool → List ℕ → ℕ → List Line
write_lines can bytes room = line 2 (not can) ∷ (read_lines bytes ++ (line 9 (not (eqb room (length bytes))) ∷ []))

-- 0 and the bytes; or the first true line's number, and the space as it was
unfoldable pub writing : Bool → List ℕ → List ℕ → Answered (List ℕ)
writing can bytes space = answered (first_of (write_lines can bytes (length space))) bytes space

-- each of a table's first n numbers is below the bound; the others have no field and are 0
unfoldable pub fits_in : ℕ → ℕ → List ℕ → Bool
fits_in n bound l = every (λ i. ltb (get_or l i 0) (pick (ltb i n) bound 1)) (length l)

-- the numbers of a nest fit their fields, and `spread` says what the counts say
unfoldable pub fits : Nest → Bool
fits x =
    fits_in x.dimensions 65536 x.lengths and fits_in x.dimensions 65536 x.tiling and fits_in x.dimensions 65536 x.counts
    and fits_in (4 * x.distances) 65536 x.components and fits_in x.distances 65536 x.weights
    and ltb x.shift 256 and ltb x.boundary 4294967296
    and eqb x.spread (length (keep (λ j. ltb 0 (processor_count x j)) x.dimensions))

-- and those of its bounds
unfoldable pub bounds_fit : Nest → Bool
bounds_fit x =
    fits_in x.bounds 256 x.sides and fits_in x.bounds 256 x.bounded and fits_in x.bounds 256 x.earlier
    and fits_in x.bounds 256 x.slopes and fits_in x.bounds 65536 x.offsets

-- a recipe can hold the nest; can hold the fields
unfoldable pub nest_writable : Nest → Bool
nest_writable x = leb x.dimensions 4 and leb x.distances 8 and leb x.bounds 4 and bounds_fit x and fits x

unfoldable pub writable : Fields → Bool
writable v = agree v and nest_writable (nest_from v)

unfoldable pub write_nest_call : Nest → List ℕ → Answered (List ℕ)
write_nest_call x space = writing (nest_writable x) (encode x) space

unfoldable pub write_call : Fields → List ℕ → Answered (List ℕ)
write_call v space = writing (writable v) (encode (nest_from v)) space
