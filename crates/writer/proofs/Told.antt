-- What reading tells by value is what the recipe holds, and writing it rebuilds the recipe: `reads_back`.
use Prim.Native.Nat.{ℕ, zero, suc, ◌+◌, ◌*◌, ◌%◌, ◌≤◌, ◌<◌}
use mathlib.Core.Path.{◌≡◌, refl, sym, ap, ◌∙◌}
use mathlib.Core.Logic.{◌≢◌}
use mathlib.Core.Bool.{true}
use mathlib.Core.List.{List}
use native.Mathlib.Omega.{arith}
use native.Mathlib.Decide.{dec_lt}
use lib.ListN.{length, get_or, take}
use lib.Seq.{ext_get_or, get_or-take, length-take-le}
use Rattle.std.specs.Prelude.{Ok}
use Rattle.base.specs.Tests.{tabulate}
use Rattle.base.specs.Lists.{Bytes}
use Rattle.base.specs.Numbers.{first_of}
use Rattle.base.proofs.Tests.{length_tabulate, tabulate_at}
use Rattle.nest.specs.declared.Nest.{Nest}
use Rattle.nest.specs.Reader.{filled, nest_of, read_lines, Reads}
use Rattle.nest.proofs.Answers.{none_read, nest_read}
use Rattle.std.proofs.lemmas.List.{get_or_default}
use Rattle.writer.specs.Tables.{IsTable}
use Rattle.writer.proofs.Tables.{table_is}
use Rattle.nest.proofs.Laws.{filled_length, filled_in, filled_out}
use Rattle.writer.specs.declared.reading.RecipeFields.{RecipeFields}
use Rattle.writer.specs.Fields.{Fields, fields_of}
use Rattle.writer.specs.Writing.{nest_writable, written, write_call}
use Rattle.writer.specs.Demand202.{Tables}
use Rattle.writer.specs.Told.{table_of, told_fields, no_fields, fields_if, read_call, taken, ReadsBack}
use Rattle.writer.proofs.Fitting.{Table, Fits, fits_writable, read_fits}
use Rattle.writer.proofs.FromFields.{same_fields, Agreed, agreed_fields}
use Rattle.writer.proofs.Demand202.{demand202}

-- a table that is filled as far as it is long
pub all_filled : (size : ℕ) (l : List ℕ) → length l ≡ size → filled size size (λ i. get_or l i 0) ≡ l
all_filled size l e =
    ext_get_or 0 (filled size size (λ i. get_or l i 0)) l (filled_length size (λ i. get_or l i 0) size ∙ sym e)
    (λ i h. filled_in size (λ j. get_or l j 0) size i (rw (filled_length size (λ j. get_or l j 0) size) at h) (omega arith))

-- tables filled with the same numbers
same_filled : (size n : ℕ) (f g : ℕ → ℕ) → n ≤ size → ((i : ℕ) → i < n → f i ≡ g i) → filled size n f ≡ filled size n g
same_filled size n f g few h =
    ext_get_or 0 (filled size n f) (filled size n g) (filled_length size f n ∙ sym (filled_length size g n)) (λ i l. at i (dec_lt i n))
  where
    at : (i : ℕ) → Dec (i < n) → get_or (filled size n f) i 0 ≡ get_or (filled size n g) i 0
    at i (yes k) = filled_in size f n i k few ∙ h i k ∙ sym (filled_in size g n i k few)
    at i (no k) = filled_out size f n i (omega arith) ∙ sym (filled_out size g n i (omega arith))

-- the first n numbers of a table with 0 behind them
pub table_front : (size n bound : ℕ) (l : List ℕ) → Table size n bound l → n ≤ size → l ≡ table_of size (take n l)
table_front size n bound l t few =
    let e = length-take-le n l (omega (arith, few, t.long)) in
    ext_get_or 0 l (table_of size (take n l)) (t.long ∙ sym (filled_length size (λ i. get_or (take n l) i 0) (length (take n l)))) (λ i h. at e i (dec_lt i n))
  where
    at : length (take n l) ≡ n → (i : ℕ) → Dec (i < n) → get_or l i 0 ≡ get_or (table_of size (take n l)) i 0
    at e i (yes k) =
        sym (filled_in size (λ j. get_or (take n l) j 0) (length (take n l)) i (omega (arith, e)) (omega (arith, e)) ∙ get_or-take n l i 0 k)
    at e i (no k) = t.rest i (omega arith) ∙ sym (filled_out size (λ j. get_or (take n l) j 0) (length (take n l)) i (omega (arith, e)))

-- and made anew
pub table_made : (size n : ℕ) (f : ℕ → ℕ) → n ≤ size → filled size n f ≡ table_of size (tabulate f n)
table_made size n f few =
    same_filled size n f (λ i. get_or (tabulate f n) i 0) few (λ i h. sym (tabulate_at f n i h))
    ∙ ap (λ (k : ℕ). filled size k (λ i. get_or (tabulate f n) i 0)) (sym (length_tabulate f n))

-- of a table as many numbers as were put there
front_back : (size : ℕ) (l : List ℕ) → length l ≤ size → take (length l) (table_of size l) ≡ l
front_back size l few =
    let long = length-take-le (length l) (table_of size l) (omega (arith, few, filled_length size (λ i. get_or l i 0) (length l))) in
    ext_get_or 0 (take (length l) (table_of size l)) l long
    (λ i h. let k : i < length l = rw long at h in
    get_or-take (length l) (table_of size l) i 0 k ∙ filled_in size (λ j. get_or l j 0) (length l) i k few)

front : (size n : ℕ) (l : List ℕ) → length l ≡ n → n ≤ size → take n (table_of size l) ≡ l
front size n l e few = ap (λ (k : ℕ). take k (table_of size l)) (sym e) ∙ front_back size l (omega (arith, e, few))

-- what a user takes of what was told of fields that agree
taken_back : (v : Fields) → Agreed v → taken (told_fields v) ≡ v
taken_back v a =
    same_fields _ _ _ _ _ _ _ _ _ _ _ _ _ _ _ _ _ _ _ _ v.shift v.boundary
    (front 4 (length v.lengths) v.lengths refl a.dimensions)
    (front 4 (length v.lengths) v.tiling a.tiling a.dimensions)
    (front 4 (length v.lengths) v.counts a.counts a.dimensions)
    (front 32 (4 * length v.weights) v.components a.components (omega (arith, a.distances)))
    (front 8 (length v.weights) v.weights refl a.distances)
    (front 4 (length v.sides) v.sides refl a.sides)
    (front 4 (length v.sides) v.bounded a.bounded a.sides)
    (front 4 (length v.sides) v.earlier a.earlier a.sides)
    (front 4 (length v.sides) v.slopes a.slopes a.sides)
    (front 4 (length v.sides) v.offsets a.offsets a.sides)

-- ---- what the code makes of a nest

-- the numbers in two bytes each: those of a table with 0 behind are all so wide
pub table_wide : (size n bound : ℕ) (l : List ℕ) → 0 < bound → Table size n bound l → (i : ℕ) → get_or l i 0 < bound
table_wide size n bound l z t i = go (dec_lt i n)
  where
    go : Dec (i < n) → get_or l i 0 < bound
    go (yes h) = t.fit i h
    go (no h) = rw (t.rest i (omega arith)) z

-- each can be cast
pub table_each : (size n bound : ℕ) (l : List ℕ) → 0 < bound → Table size n bound l → (k d : ℕ) → k < length l → get_or l k d < bound
table_each size n bound l z t k d h = rw (get_or_default l k d 0 h) (table_wide size n bound l z t k)

-- a table made from one as long, of the same numbers, and from the first n of one
pub same_table : {Made : ℕ → ℕ → Type 0} {l t : List ℕ} (size : ℕ) → IsTable Made l 0 size t → length l ≡ size
    → ((i y : ℕ) → i < length l → Made (get_or l i 0) y → y ≡ get_or l i 0) → t ≡ l
same_table {Made} {l} size p e h =
    table_is p (omega arith) (λ i. get_or l i 0) h ∙ ap (λ (k : ℕ). filled size k (λ i. get_or l i 0)) e ∙ all_filled size l e

pub part_table : {Made : ℕ → ℕ → Type 0} {t : List ℕ} (size n : ℕ) (l : List ℕ) (g : ℕ → ℕ) → n ≤ size → length l ≡ size → IsTable Made (take n l) 0 size t
    → ((i y : ℕ) → i < length (take n l) → Made (get_or (take n l) i 0) y → y ≡ g (get_or (take n l) i 0))
    → t ≡ filled size n (λ i. g (get_or l i 0))
part_table {Made} {t} size n l g few long p h = made (length-take-le n l (omega arith))
  where
    made : length (take n l) ≡ n → t ≡ filled size n (λ i. g (get_or l i 0))
    made e =
        table_is p (omega arith) (λ i. g (get_or l i 0)) (λ i y q m. h i y q m ∙ ap g (get_or-take n l i 0 (rw e at q)))
        ∙ ap (λ (k : ℕ). filled size k (λ i. g (get_or l i 0))) e

same_told : (n d b w : ℕ) (l t p c v o sd bd er sl l' t' p' c' v' o' sd' bd' er' sl' : List ℕ) (s n' d' b' : ℕ)
    → n ≡ n' → d ≡ d' → b ≡ b' → l ≡ l' → t ≡ t' → p ≡ p' → c ≡ c' → v ≡ v' → o ≡ o' → sd ≡ sd' → bd ≡ bd' → er ≡ er' → sl ≡ sl'
    → ◌≡◌ {A = RecipeFields}
    (record {
      number = 0;
      dimensions = n;
      distances = d;
      bounds = b;
      boundary = w;
      lengths = l;
      tiling = t;
      counts = p;
      components = c;
      weights = v;
      offsets = o;
      sides = sd;
      bounded = bd;
      earlier = er;
      slopes = sl;
      shift = s;
    })
    (record {
      number = 0;
      dimensions = n';
      distances = d';
      bounds = b';
      boundary = w;
      lengths = l';
      tiling = t';
      counts = p';
      components = c';
      weights = v';
      offsets = o';
      sides = sd';
      bounded = bd';
      earlier = er';
      slopes = sl';
      shift = s;
    })
same_told n d b w l t p c v o sd bd er sl l' t' p' c' v' o' sd' bd' er' sl' s n' d' b' e1 e2 e3 e4 e5 e6 e7 e8 e9 e10 e11 e12 e13 =
    rw (e1, e2, e3, e4, e5, e6, e7, e8, e9, e10, e11, e12, e13)

module _ (x : Nest) (f : Fits x) where
  long : (size n bound : ℕ) (l : List ℕ) → Table size n bound l → n ≤ size → n ≡ length (take n l)
  long size n bound l t few = sym (length-take-le n l (omega (arith, few, t.long)))

  -- the tables as the code makes them
  pub told_is : (l t p c v o sl : List ℕ) → l ≡ x.lengths → t ≡ x.tiling → p ≡ x.counts → c ≡ x.components → v ≡ x.weights
      → o ≡ filled 4 x.bounds (λ i. (get_or x.offsets i 0 + 32768) % 65536) → sl ≡ filled 4 x.bounds (λ i. (get_or x.slopes i 0 + 255) % 256)
      → ◌≡◌ {A = RecipeFields}
      (record {
        number = 0;
        dimensions = x.dimensions;
        distances = x.distances;
        bounds = x.bounds;
        boundary = x.boundary;
        lengths = l;
        tiling = t;
        counts = p;
        components = c;
        weights = v;
        offsets = o;
        sides = x.sides;
        bounded = x.bounded;
        earlier = x.earlier;
        slopes = sl;
        shift = x.shift;
      })
      (told_fields (fields_of x))
  unfolding fields_of
  told_is l t p c v o sl e1 e2 e3 e4 e5 e6 e7 =
      same_told _ _ _ _ _ _ _ _ _ _ _ _ _ _ _ _ _ _ _ _ _ _ _ _ _ _ _ _
      (long 4 x.dimensions _ x.lengths f.lengths f.dimensions)
      (long 8 x.distances _ x.weights f.weights f.distances)
      (long 4 x.bounds _ x.sides f.sides f.bounds)
      (e1 ∙ table_front 4 x.dimensions _ x.lengths f.lengths f.dimensions)
      (e2 ∙ table_front 4 x.dimensions _ x.tiling f.tiling f.dimensions)
      (e3 ∙ table_front 4 x.dimensions _ x.counts f.counts f.dimensions)
      (e4 ∙ table_front 32 (4 * x.distances) _ x.components f.components (omega (arith, f.distances)))
      (e5 ∙ table_front 8 x.distances _ x.weights f.weights f.distances)
      (e6 ∙ table_made 4 x.bounds (λ i. (get_or x.offsets i 0 + 32768) % 65536) f.bounds)
      (table_front 4 x.bounds _ x.sides f.sides f.bounds)
      (table_front 4 x.bounds _ x.bounded f.bounded f.bounds)
      (table_front 4 x.bounds _ x.earlier f.earlier f.bounds)
      (e7 ∙ table_made 4 x.bounds (λ i. (get_or x.slopes i 0 + 255) % 256) f.bounds)

-- ---- the call

none_told : (n : ℕ) (v : Fields) → n ≢ 0 → fields_if n v ≡ no_fields n
unfolding fields_if
none_told zero v h = absurd (h refl)
none_told (suc n) v h = refl

number_told : (n : ℕ) (v : Fields) → (fields_if n v).number ≡ n
unfolding fields_if
number_told zero v = refl
number_told (suc n) v = refl

module _ (bytes : List ℕ) where
  pub read_none : (n : ℕ) → n ≡ first_of (read_lines bytes) → n ≢ 0 → no_fields n ≡ read_call bytes
  unfolding read_call
  read_none n e h = sym (none_told n (fields_of (nest_of bytes)) h) ∙ ap (λ (k : ℕ). fields_if k (fields_of (nest_of bytes))) e

  pub read_done : first_of (read_lines bytes) ≡ 0 → read_call bytes ≡ told_fields (fields_of (nest_of bytes))
  unfolding read_call fields_if
  read_done z = ap (λ (k : ℕ). fields_if k (fields_of (nest_of bytes))) z

  module _ (small : Bytes bytes) (z : first_of (read_lines bytes) ≡ 0) where
    held : taken (read_call bytes) ≡ fields_of (nest_of bytes)
    held = ap taken (read_done z) ∙ taken_back (fields_of (nest_of bytes)) (agreed_fields (nest_of bytes) (read_fits bytes small z))

    again : (space : List ℕ) → length space ≡ length bytes → write_call (taken (read_call bytes)) space ≡ written 0 bytes
    again space e = ap (λ (v : Fields). write_call v space) held ∙ demand202.from_fields.rebuilt bytes space small z e

  read_number : (read_call bytes).number ≡ first_of (read_lines bytes)
  unfolding read_call
  read_number = number_told (first_of (read_lines bytes)) (fields_of (nest_of bytes))

pub reads_back : ReadsBack
reads_back =
    record {
      number = read_number;
      none = λ bytes h. sym (read_none bytes (first_of (read_lines bytes)) refl h);
      held = held;
      rebuilt = λ bytes space small z e. again bytes small z space e;
    }

-- the tables of a nest that was read have their sizes, and a recipe can hold it
pub read_held : (bytes : List ℕ) → Bytes bytes → first_of (read_lines bytes) ≡ 0 → Tables (nest_of bytes) × (nest_writable (nest_of bytes) ≡ true)
read_held bytes small z = (
  record {
    lengths = f.lengths.long;
    tiling = f.tiling.long;
    counts = f.counts.long;
    components = f.components.long;
    weights = f.weights.long;
    sides = f.sides.long;
    bounded = f.bounded.long;
    earlier = f.earlier.long;
    slopes = f.slopes.long;
    offsets = f.offsets.long;
  },
  fits_writable (nest_of bytes) f,
)
  where
    f : Fits (nest_of bytes)
    f = read_fits bytes small z

-- by what the reader gave
pub read_nest : {bytes : List ℕ} {x : Nest} → Reads bytes (Ok x) → Tables x × (nest_writable x ≡ true)
read_nest {bytes} {x} is = rw is.nest (read_held bytes is.bytes_are (none_read is))

pub read_told : {bytes : List ℕ} {x : Nest} → Reads bytes (Ok x) → told_fields (fields_of x) ≡ read_call bytes
read_told {bytes} {x} is = ap (λ (y : Nest). told_fields (fields_of y)) (nest_read is) ∙ sym (read_done bytes (none_read is))
