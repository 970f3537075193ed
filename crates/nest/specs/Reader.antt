-- Read this.
-- A recipe's bytes: records and fields, the nest they give, the reader's lines, what reading answers.
-- Renders document 01, "The recipe" and "Numbers a call gives", lines 1 to 8; of document 02, W-203, W-205, W-207, W-209.
use Rattle.std.specs.Prelude.{ℕ, ◌≡◌, ◌+◌, ◌*◌, ◌-◌, ◌/◌, ◌%◌, Bool, List, [], ◌∷◌, length, get_or, eqb, ltb, leb, Result, IfOk}
use Rattle.base.specs.Tests.{◌and◌, ◌or◌, not, pick, every, some, keep, those, tabulate}
use Rattle.base.specs.Numbers.{Line, line, first_of}
use Rattle.base.specs.Bytes.{half, word}
use Rattle.base.specs.Lists.{Bytes}
use Rattle.base.specs.declared.refusal.Refusal.{Refusal}
use Rattle.base.specs.Refusals.{number_of}
use Rattle.nest.specs.declared.Nest.{Nest}
use Rattle.nest.specs.Nest.{length_of, tile_length, processor_count, component, cells, processors}
use Rattle.nest.specs.Shape.{in_shape, tiles}

-- byte i of record r stands at 16 * r + i
abbrev pub records : List ℕ → ℕ
records bytes = length bytes / 16

abbrev pub kind : List ℕ → ℕ → ℕ
kind bytes r = get_or bytes (16 * r) 0

unfoldable pub of_kind : List ℕ → ℕ → ℕ
of_kind bytes k = length (those (kind bytes) k (records bytes))

-- a distance is of kind 2 or of kind 4
abbrev pub distances_of : List ℕ → ℕ
distances_of bytes = of_kind bytes 2 + of_kind bytes 4

-- component j of the distance in record r, and its weight: of kind 2 a byte a component, of kind 4 two
abbrev pub component_at : List ℕ → ℕ → ℕ → ℕ
component_at bytes r j = pick (eqb (kind bytes r) 4) (half bytes (16 * r + (2 + 2 * j))) (get_or bytes (16 * r + (2 + j)) 0)

abbrev pub weight_at : List ℕ → ℕ → ℕ
weight_at bytes r = pick (eqb (kind bytes r) 4) (half bytes (16 * r + 10)) (half bytes (16 * r + 6))

-- of the bound in record r: slope + 1 and offset + 32,768; the byte 255 is slope −1, the bytes 0 and 128 are offset −32,768
abbrev pub slope_at : List ℕ → ℕ → ℕ
slope_at bytes r = (get_or bytes (16 * r + 4) 0 + 1) % 256

abbrev pub offset_at : List ℕ → ℕ → ℕ
offset_at bytes r = (half bytes (16 * r + 6) + 32768) % 65536

-- f 0, f 1, .. , n of them, then 0, in a table of the given size
unfoldable pub filled : ℕ → ℕ → (ℕ → ℕ) → List ℕ
filled size n f = tabulate (λ i. pick (ltb i n) (f i) 0) size

-- n dimensions, then b bounds, then e distances, then the close; a dimension with a count that is not 0 is spread
unfoldable pub nest_by : List ℕ → ℕ → ℕ → ℕ → Nest
nest_by bytes n b e =
    record {
      dimensions = n;
      spread = length (keep (λ j. ltb 0 (half bytes (16 * j + 6))) n);
      distances = e;
      bounds = b;
      lengths = filled 4 n (λ j. half bytes (16 * j + 2));
      tiling = filled 4 n (λ j. half bytes (16 * j + 4));
      counts = filled 4 n (λ j. half bytes (16 * j + 6));
      components = filled 32 (4 * e) (λ i. component_at bytes (n + b + i / 4) (i % 4));
      weights = filled 8 e (λ i. weight_at bytes (n + b + i));
      sides = filled 4 b (λ k. get_or bytes (16 * (n + k) + 1) 0);
      bounded = filled 4 b (λ k. get_or bytes (16 * (n + k) + 2) 0);
      earlier = filled 4 b (λ k. get_or bytes (16 * (n + k) + 3) 0);
      slopes = filled 4 b (λ k. slope_at bytes (n + k));
      offsets = filled 4 b (λ k. offset_at bytes (n + k));
      shift = get_or bytes (16 * (n + b + e) + 1) 0;
      boundary = word bytes (16 * (n + b + e) + 4);
    }

unfoldable pub nest_of : List ℕ → Nest
nest_of bytes = nest_by bytes (of_kind bytes 1) (of_kind bytes 5) (distances_of bytes)

unfoldable pub ragged : List ℕ → Bool
ragged bytes = eqb (length bytes) 0 or not (eqb (length bytes % 16) 0)

unfoldable pub blank : List ℕ → ℕ → ℕ → Bool
blank bytes at count = every (λ i. eqb (get_or bytes (at + i) 0) 0) count

-- of the bound in record r: a side, a dimension, an earlier dimension and a slope that there are, and the bytes not named
unfoldable pub bound_fits : List ℕ → ℕ → ℕ → Bool
bound_fits bytes n r =
    ltb (get_or bytes (16 * r + 1) 0) 2 and ltb (get_or bytes (16 * r + 2) 0) n and ltb (get_or bytes (16 * r + 3) 0) (get_or bytes (16 * r + 2) 0)
    and ltb (slope_at bytes r) 3 and blank bytes (16 * r + 5) 1 and blank bytes (16 * r + 8) 8

-- the checks of a record of kind k: the bytes not named, the shift, the bound, where there are n dimensions
unfoldable pub checked : List ℕ → ℕ → ℕ → ℕ → Bool
checked bytes n r k =
    pick (eqb k 1 or eqb k 2) (blank bytes (16 * r + 1) 1 and blank bytes (16 * r + 8) 8)
    (pick (eqb k 4) (blank bytes (16 * r + 1) 1 and blank bytes (16 * r + 12) 4)
    (pick (eqb k 5) (bound_fits bytes n r)
    (eqb k 3 and ltb (get_or bytes (16 * r + 1) 0) 32 and blank bytes (16 * r + 2) 2 and blank bytes (16 * r + 8) 8)))

-- a record of kind k may be record r of n dimensions, b bounds, e distances and the close
unfoldable pub may_stand : ℕ → ℕ → ℕ → ℕ → ℕ → Bool
may_stand n b e r k =
    pick (ltb r n) (eqb k 1) (pick (ltb r (n + b)) (eqb k 5) (pick (ltb r (n + b + e)) (eqb k 2 or eqb k 4) (eqb k 3)))

unfoldable pub fits_at : List ℕ → ℕ → ℕ → ℕ → ℕ → Bool
fits_at bytes n b e r = may_stand n b e r (kind bytes r) and checked bytes n r (kind bytes r)

unfoldable pub well_formed : List ℕ → ℕ → ℕ → ℕ → Bool
well_formed bytes n b e =
    leb 2 n and leb n 4 and leb b 4 and leb 1 e and leb e 8
    and eqb (records bytes) (n + b + e + 1) and every (fits_at bytes n b e) (records bytes)

unfoldable pub stray_record : List ℕ → Bool
stray_record bytes = not (well_formed bytes (of_kind bytes 1) (of_kind bytes 5) (distances_of bytes))

-- lines 3 to 8, of the nest that the bytes give, with 20 before 5, 16 and 17 before 7
unfoldable pub no_length : ℕ → Bool
no_length v = eqb v 0 or ltb 1024 v

unfoldable pub bad_length : Nest → Bool
bad_length x = some (λ j. no_length (length_of x j)) x.dimensions

unfoldable pub too_large : Nest → Bool
too_large x = ltb 16384 (cells x)

-- line 18, of the bytes, since a nest has no kinds: a distance of kind 4 that kind 2 could hold, each of its components fitting a byte
abbrev pub narrow_at : List ℕ → ℕ → Bool
narrow_at bytes r = eqb (kind bytes r) 4 and every (λ j. ltb (component_at bytes r j) 256) 4

unfoldable pub needlessly_wide : List ℕ → Bool
needlessly_wide bytes = some (narrow_at bytes) (records bytes)

-- line 20: no cell is in the shape
unfoldable pub no_cell : Nest → Bool
no_cell x = not (some (in_shape x) (cells x))

unfoldable pub same : Nest → ℕ → ℕ → Bool
same x e f = every (λ j. eqb (component x e j) (component x f j)) 4

unfoldable pub beyond : Nest → ℕ → Bool
beyond x e = some (λ j. leb x.dimensions j and ltb 0 (component x e j)) 4

unfoldable pub faulty : Nest → ℕ → Bool
faulty x e = every (λ j. eqb (component x e j) 0) 4 or some (same x e) e or beyond x e

unfoldable pub bad_distance : Nest → Bool
bad_distance x = some (faulty x) x.distances

unfoldable pub reached : Nest → ℕ → Bool
reached x j = some (λ e. ltb (tile_length x j) (component x e j)) x.distances

unfoldable pub bad_tile : Nest → Bool
bad_tile x = some (λ j. no_length (tile_length x j) or reached x j) x.dimensions

-- a dimension is spread where its count is not 0
abbrev pub is_spread : Nest → ℕ → Bool
is_spread x j = ltb 0 (processor_count x j)

-- an unspread dimension stands first, or directly before a spread one
unfoldable pub bad_spread : Nest → Bool
bad_spread x = not (is_spread x 0) or some (λ j. not (is_spread x j) and is_spread x (j + 1)) (x.dimensions - 1)

unfoldable pub last_spread : Nest → Bool
last_spread x = is_spread x (x.dimensions - 1)

-- more than 64 processors
unfoldable pub bad_processors : Nest → Bool
bad_processors x = ltb 64 (processors x)

-- of the tiles that hold a cell of the shape
unfoldable pub too_many_tiles : Nest → Bool
too_many_tiles x = ltb 1024 (tiles x)

-- the lines behind 2 in their order: of a nest, and whether its bytes are needlessly wide
unfoldable pub nest_lines : Bool → Nest → List Line
nest_lines needless x =
    line 3 (bad_length x) ∷ line 4 (too_large x) ∷ line 18 needless ∷ line 20 (no_cell x) ∷ line 5 (bad_distance x)
    ∷ line 6 (bad_tile x) ∷ line 16 (bad_spread x) ∷ line 17 (last_spread x) ∷ line 7 (bad_processors x) ∷ line 8 (too_many_tiles x) ∷ []

unfoldable pub read_lines : List ℕ → List Line
read_lines bytes = line 1 (ragged bytes) ∷ line 2 (stray_record bytes) ∷ nest_lines (needlessly_wide bytes) (nest_of bytes)

-- what reading answers: the nest, or the refusal of the first line that is true
pub record Reads (bytes : List ℕ) (answer : Result Nest Refusal) : Type 0 where
  pub number : number_of answer ≡ first_of (read_lines bytes)
  pub nest : IfOk answer (λ x. x ≡ nest_of bytes)
  pub bytes_are : IfOk answer (λ _. Bytes bytes)
