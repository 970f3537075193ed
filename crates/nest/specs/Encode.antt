-- Read this.
-- A recipe's bytes from a nest's values: the records in order, each field at its place, zero elsewhere. Reader reads them back.
-- Renders document 01, "The recipe", as the recipe writer of document 02, W-202, has to spell it; W-207's kind 4, W-209's kind 5.
use Rattle.std.specs.Prelude.{ℕ, zero, suc, ◌+◌, ◌/◌, ◌%◌, Bool, List, [], ◌∷◌, ◌++◌, replicate, ltb}
use Rattle.base.specs.Tests.{pick, every}
use Rattle.nest.specs.declared.Nest.{Nest}
use Rattle.nest.specs.Nest.{length_of, tile_length, processor_count, component, weight, side, bounded, earlier, slope, bound_offset}

-- numbers of one, two and four bytes, little-endian; of a wider number only these are written
abbrev pub low : ℕ → ℕ
low v = v % 256

abbrev pub high : ℕ → ℕ
high v = v / 256 % 256

abbrev pub half_bytes : ℕ → List ℕ
half_bytes v = low v ∷ high v ∷ []

abbrev pub word_bytes : ℕ → List ℕ
word_bytes v = half_bytes v ++ half_bytes (v / 65536)

-- the records, 16 bytes each
unfoldable pub dimension_record : ℕ → ℕ → ℕ → List ℕ
dimension_record length tile count = 1 ∷ 0 ∷ half_bytes length ++ half_bytes tile ++ half_bytes count ++ replicate 8 0

-- a distance of kind 2, a byte a component; of kind 4, two bytes a component
unfoldable pub narrow_record : ℕ → ℕ → ℕ → ℕ → ℕ → List ℕ
narrow_record d1 d2 d3 d4 weight = 2 ∷ 0 ∷ low d1 ∷ low d2 ∷ low d3 ∷ low d4 ∷ half_bytes weight ++ replicate 8 0

unfoldable pub wide_record : ℕ → ℕ → ℕ → ℕ → ℕ → List ℕ
wide_record d1 d2 d3 d4 weight = 4 ∷ 0 ∷ half_bytes d1 ++ half_bytes d2 ++ half_bytes d3 ++ half_bytes d4 ++ half_bytes weight ++ replicate 4 0

-- a bound; slope and offset are given as slope + 1 and offset + 32,768
unfoldable pub bound_record : ℕ → ℕ → ℕ → ℕ → ℕ → List ℕ
bound_record side dimension earlier slope bound_offset =
    5 ∷ low side ∷ low dimension ∷ low earlier ∷ low (slope + 255) ∷ 0 ∷ half_bytes (bound_offset + 32768) ++ replicate 8 0

unfoldable pub close_record : ℕ → ℕ → List ℕ
close_record shift boundary = 3 ∷ low shift ∷ 0 ∷ 0 ∷ word_bytes boundary ++ replicate 8 0

-- of dimension j
unfoldable pub dimension_of : Nest → ℕ → List ℕ
dimension_of x j = dimension_record (length_of x j) (tile_length x j) (processor_count x j)

-- of bound k
unfoldable pub bound_of : Nest → ℕ → List ℕ
bound_of x k = bound_record (side x k) (bounded x k) (earlier x k) (slope x k) (bound_offset x k)

-- each component of distance e fits a byte
unfoldable pub narrow : Nest → ℕ → Bool
narrow x e = every (λ j. ltb (component x e j) 256) 4

-- of distance e: kind 4 only where kind 2 can't hold it
unfoldable pub distance_of : Nest → ℕ → List ℕ
distance_of x e =
    pick (narrow x e) (narrow_record (component x e 0) (component x e 1) (component x e 2) (component x e 3) (weight x e))
    (wide_record (component x e 0) (component x e 1) (component x e 2) (component x e 3) (weight x e))

-- f 0, then f 1, .. , n of them
unfoldable pub joined : (ℕ → List ℕ) → ℕ → List ℕ
joined f zero = []
joined f (suc n) = joined f n ++ f n

-- the dimensions, the bounds, the distances, the close
unfoldable pub encode : Nest → List ℕ
encode x =
    joined (dimension_of x) x.dimensions
    ++ (joined (bound_of x) x.bounds ++ (joined (distance_of x) x.distances ++ close_record x.shift x.boundary))
