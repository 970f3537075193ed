-- Writing from fields: the returns of the code; fields to a nest and back.
use Prim.Native.Nat.{ℕ, ◌+◌, ◌*◌, ◌%◌, ◌≤◌, ◌<◌}
use mathlib.Core.Path.{◌≡◌, refl, sym, ap, ◌∙◌}
use mathlib.Core.Bool.{Bool, true, false}
use mathlib.Core.List.{List}
use native.Mathlib.Omega.{arith}
use native.Mathlib.Nat.{mod-lt}
use lib.ListN.{length, get_or, take}
use lib.Seq.{ext_get_or, get_or-take, length-take-le}
use lib.Dec.{ltb}
use borrow.Author.Tests.{eq-eqb, eqb-true, le-leb, leb-true}
use Rattle.base.specs.Tests.{◌and◌, keep, tabulate}
use Rattle.base.proofs.Tests.{both, and_true, and_left, and_false, length_tabulate, tabulate_at}
use Rattle.base.proofs.Select.{keep_same}
use Rattle.nest.specs.declared.Nest.{Nest}
use Rattle.nest.specs.Reader.{filled}
use Rattle.nest.specs.Encode.{encode}
use Rattle.nest.proofs.Laws.{filled_length, filled_in}
use Rattle.writer.specs.Fields.{Fields, fields, counted, bounds, agree, nest_from, fields_of, Widths}
use Rattle.writer.specs.Writing.{written, writing, nest_writable, writable, write_nest_call, write_call}
use Rattle.writer.specs.Demand202.{Tables}
use Rattle.writer.proofs.Fitting.{Table, Fits, filled_table}
use Rattle.writer.proofs.ReadBack.{table_is}
use Rattle.writer.proofs.Calls.{two}

same_nest : (n m e o s b n' m' e' o' s' b' : ℕ) (l t p d w sd bd er sl of l' t' p' d' w' sd' bd' er' sl' of' : List ℕ)
    → n ≡ n' → m ≡ m' → e ≡ e' → o ≡ o' → l ≡ l' → t ≡ t' → p ≡ p' → d ≡ d' → w ≡ w' → sd ≡ sd' → bd ≡ bd' → er ≡ er' → sl ≡ sl' → of ≡ of'
    → s ≡ s' → b ≡ b'
    → ◌≡◌ {A = Nest}
    (record {
      dimensions = n;
      spread = m;
      distances = e;
      bounds = o;
      lengths = l;
      tiling = t;
      counts = p;
      components = d;
      weights = w;
      sides = sd;
      bounded = bd;
      earlier = er;
      slopes = sl;
      offsets = of;
      shift = s;
      boundary = b;
    })
    (record {
      dimensions = n';
      spread = m';
      distances = e';
      bounds = o';
      lengths = l';
      tiling = t';
      counts = p';
      components = d';
      weights = w';
      sides = sd';
      bounded = bd';
      earlier = er';
      slopes = sl';
      offsets = of';
      shift = s';
      boundary = b';
    })
same_nest n m e o s b n' m' e' o' s' b' l t p d w sd bd er sl of l' t' p' d' w' sd' bd' er' sl' of' e1 e2 e3 e4 e5 e6 e7 e8 e9 e10 e11 e12 e13 e14 e15 e16 =
    rw (e1, e2, e3, e4, e5, e6, e7, e8, e9, e10, e11, e12, e13, e14, e15, e16)

pub same_fields : (l t p d w sd bd er sl of l' t' p' d' w' sd' bd' er' sl' of' : List ℕ) (s b : ℕ) → l ≡ l' → t ≡ t' → p ≡ p' → d ≡ d' → w ≡ w'
    → sd ≡ sd' → bd ≡ bd' → er ≡ er' → sl ≡ sl' → of ≡ of' → fields l t p d w sd bd er sl of s b ≡ fields l' t' p' d' w' sd' bd' er' sl' of' s b
same_fields l t p d w sd bd er sl of l' t' p' d' w' sd' bd' er' sl' of' s b e1 e2 e3 e4 e5 e6 e7 e8 e9 e10 = rw (e1, e2, e3, e4, e5, e6, e7, e8, e9, e10)

-- ---- lists that agree

pub record Agreed (v : Fields) : Type 0 where
  pub dimensions : length v.lengths ≤ 4
  pub distances : length v.weights ≤ 8
  pub tiling : length v.tiling ≡ length v.lengths
  pub counts : length v.counts ≡ length v.lengths
  pub components : length v.components ≡ 4 * length v.weights
  pub sides : length v.sides ≤ 4
  pub bounded : length v.bounded ≡ length v.sides
  pub earlier : length v.earlier ≡ length v.sides
  pub slopes : length v.slopes ≡ length v.sides
  pub offsets : length v.offsets ≡ length v.sides

pub agreed : (v : Fields) → agree v ≡ true → Agreed v
unfolding agree counted bounds
agreed v h =
    let p = both h in
    let p1 = both p.0 in
    let p2 = both p1.1 in
    let p3 = both p2.1 in
    let p4 = both p3.1 in
    let q1 = both p.1 in
    let q2 = both q1.1 in
    let q3 = both q2.1 in
    let q4 = both q3.1 in
    record {
      dimensions = leb-true _ _ p1.0;
      distances = leb-true _ _ p2.0;
      tiling = eqb-true _ _ p3.0;
      counts = eqb-true _ _ p4.0;
      components = eqb-true _ _ p4.1;
      sides = leb-true _ _ q1.0;
      bounded = eqb-true _ _ q2.0;
      earlier = eqb-true _ _ q3.0;
      slopes = eqb-true _ _ q4.0;
      offsets = eqb-true _ _ q4.1;
    }

-- what the code's tests say
module _ (v : Fields) (r : Bool) (is : r ≡ counted (length v.lengths) (length v.tiling) (length v.counts) (length v.components)
    (length v.weights)) where
  pub not_counted : r ≡ false → agree v ≡ false
  unfolding agree
  not_counted h = and_false _ _ (sym is ∙ h)

  pub agree_is : r ≡ true → (q t : Bool) → q ≡ bounds (length v.sides) (length v.bounded) (length v.earlier) (length v.slopes) (length v.offsets)
      → q ≡ t → agree v ≡ t
  unfolding agree
  agree_is h q t e k = and_left _ _ (sym is ∙ h) ∙ (sym e ∙ k)

agreed_agree : (v : Fields) → Agreed v → agree v ≡ true
unfolding agree counted bounds
agreed_agree v a =
    and_true
    (and_true (le-leb _ _ a.dimensions)
    (and_true (le-leb _ _ a.distances) (and_true (eq-eqb _ _ a.tiling) (and_true (eq-eqb _ _ a.counts) (eq-eqb _ _ a.components)))))
    (and_true (le-leb _ _ a.sides)
    (and_true (eq-eqb _ _ a.bounded) (and_true (eq-eqb _ _ a.earlier) (and_true (eq-eqb _ _ a.slopes) (eq-eqb _ _ a.offsets)))))

-- ---- returns

-- the nest that the code makes
pub from_made : (l t p d w sd bd er sl of : List ℕ) (s b : ℕ) → agree (fields l t p d w sd bd er sl of s b) ≡ true
    → (m s' b' : ℕ) (l' t' p' d' w' sd' bd' er' sl' of' : List ℕ)
    → p' ≡ filled 4 (length p) (λ (i : ℕ). get_or p i 0)
    → m ≡ length (keep (λ (j : ℕ). ltb 0 (get_or p' j 0)) (length l))
    → l' ≡ filled 4 (length l) (λ (i : ℕ). get_or l i 0)
    → t' ≡ filled 4 (length t) (λ (i : ℕ). get_or t i 0)
    → d' ≡ filled 32 (length d) (λ (i : ℕ). get_or d i 0)
    → w' ≡ filled 8 (length w) (λ (i : ℕ). get_or w i 0)
    → sd' ≡ filled 4 (length sd) (λ (i : ℕ). get_or sd i 0)
    → bd' ≡ filled 4 (length bd) (λ (i : ℕ). get_or bd i 0)
    → er' ≡ filled 4 (length er) (λ (i : ℕ). get_or er i 0)
    → sl' ≡ filled 4 (length sl) (λ (i : ℕ). (get_or sl i 0 + 1) % 256)
    → of' ≡ filled 4 (length of) (λ (i : ℕ). (get_or of i 0 + 32768) % 65536)
    → s' ≡ s → b' ≡ b
    → ◌≡◌ {A = Nest}
    (record {
      dimensions = length l;
      spread = m;
      distances = length w;
      bounds = length sd;
      lengths = l';
      tiling = t';
      counts = p';
      components = d';
      weights = w';
      sides = sd';
      bounded = bd';
      earlier = er';
      slopes = sl';
      offsets = of';
      shift = s';
      boundary = b';
    })
    (nest_from (fields l t p d w sd bd er sl of s b))
unfolding nest_from
from_made l t p d w sd bd er sl of s b h m s' b' l' t' p' d' w' sd' bd' er' sl' of' e1 e2 e3 e4 e5 e6 f1 f2 f3 f4 f5 e7 e8 =
    let a = agreed (fields l t p d w sd bd er sl of s b) h in
    let q : p' ≡ filled 4 (length l) (λ (i : ℕ). get_or p i 0) = e1 ∙ ap (λ (k : ℕ). filled 4 k (λ (i : ℕ). get_or p i 0)) a.counts in
    same_nest _ _ _ _ _ _ _ _ _ _ _ _ _ _ _ _ _ _ _ _ _ _ _ _ _ _ _ _ _ _ _ _ refl
    (e2
    ∙ (ap (λ (z : List ℕ). length (keep (λ (j : ℕ). ltb 0 (get_or z j 0)) (length l))) q
    ∙ ap length (keep_same _ _ (length l) (λ i k. ap (ltb 0) (filled_in 4 (λ (j : ℕ). get_or p j 0) (length l) i k a.dimensions)))))
    refl refl e3 (e4 ∙ ap (λ (k : ℕ). filled 4 k (λ (i : ℕ). get_or t i 0)) a.tiling) q
    (e5 ∙ ap (λ (k : ℕ). filled 32 k (λ (i : ℕ). get_or d i 0)) a.components) e6
    f1 (f2 ∙ ap (λ (k : ℕ). filled 4 k (λ (i : ℕ). get_or bd i 0)) a.bounded) (f3 ∙ ap (λ (k : ℕ). filled 4 k (λ (i : ℕ). get_or er i 0)) a.earlier)
    (f4 ∙ ap (λ (k : ℕ). filled 4 k (λ (i : ℕ). (get_or sl i 0 + 1) % 256)) a.slopes)
    (f5 ∙ ap (λ (k : ℕ). filled 4 k (λ (i : ℕ). (get_or of i 0 + 32768) % 65536)) a.offsets) e7 e8

module _ (v : Fields) (s : List ℕ) where
  pub disagreed : agree v ≡ false → written 2 s ≡ write_call v s
  unfolding write_call writable
  disagreed h = sym (two (agree v and nest_writable (nest_from v)) (encode (nest_from v)) s (and_false _ _ h))

  pub as_nest : agree v ≡ true → write_call v s ≡ write_nest_call (nest_from v) s
  unfolding write_call writable write_nest_call
  as_nest h = ap (λ (t : Bool). writing t (encode (nest_from v)) s) (and_left _ _ h)

  pub by_nest : agree v ≡ true → (x : Nest) → x ≡ nest_from v → (r : ℕ) (t : List ℕ) → written r t ≡ write_nest_call x s → written r t ≡ write_call v s
  by_nest h x e r t q = q ∙ (ap (λ (y : Nest). write_nest_call y s) e ∙ sym (as_nest h))

-- ---- fields to a nest and back

pub tables : (v : Fields) → Tables (nest_from v)
unfolding nest_from
tables v =
    record {
      lengths = filled_length 4 _ _;
      tiling = filled_length 4 _ _;
      counts = filled_length 4 _ _;
      components = filled_length 32 _ _;
      weights = filled_length 8 _ _;
      sides = filled_length 4 _ _;
      bounded = filled_length 4 _ _;
      earlier = filled_length 4 _ _;
      slopes = filled_length 4 _ _;
      offsets = filled_length 4 _ _;
    }

take_filled : (size n : ℕ) (l : List ℕ) → length l ≡ n → n ≤ size → take n (filled size n (λ (i : ℕ). get_or l i 0)) ≡ l
take_filled size n l e h =
    let w : length (take n (filled size n (λ (i : ℕ). get_or l i 0))) ≡ n =
    length-take-le n (filled size n (λ (i : ℕ). get_or l i 0)) (rw (filled_length size (λ (i : ℕ). get_or l i 0) n) h) in
    ext_get_or 0 (take n (filled size n (λ (i : ℕ). get_or l i 0))) l (w ∙ sym e)
    (λ i k. let q : i < n = rw w at k in get_or-take n (filled size n (λ (i : ℕ). get_or l i 0)) i 0 q ∙ filled_in size (λ (i : ℕ). get_or l i 0) n i q h)

-- a table made of each number of a list, and each made back
made_back : (n : ℕ) (l : List ℕ) (up down : ℕ → ℕ) → length l ≡ n → n ≤ 4 → ((i : ℕ) → down (up (get_or l i 0)) ≡ get_or l i 0)
    → tabulate (λ (k : ℕ). down (get_or (filled 4 n (λ (i : ℕ). up (get_or l i 0))) k 0)) n ≡ l
made_back n l up down e h back =
    ext_get_or 0 (tabulate (λ (k : ℕ). down (get_or (filled 4 n (λ (i : ℕ). up (get_or l i 0))) k 0)) n) l
    (length_tabulate _ n ∙ sym e)
    (λ i k. let q : i < n = rw (length_tabulate (λ (k : ℕ). down (get_or (filled 4 n (λ (i : ℕ). up (get_or l i 0))) k 0)) n) at k in
    tabulate_at (λ (k : ℕ). down (get_or (filled 4 n (λ (i : ℕ). up (get_or l i 0))) k 0)) n i q
    ∙ (ap down (filled_in 4 (λ (i : ℕ). up (get_or l i 0)) n i q h) ∙ back i))

slope_down : (v : ℕ) → v < 256 → ((v + 1) % 256 + 255) % 256 ≡ v
slope_down v h = omega arith

offset_down : (v : ℕ) → v < 65536 → ((v + 32768) % 65536 + 32768) % 65536 ≡ v
offset_down v h = omega arith

slope_up : (v : ℕ) → v < 256 → ((v + 255) % 256 + 1) % 256 ≡ v
slope_up v h = omega arith

pub there_and_back : (v : Fields) → agree v ≡ true → Widths v → fields_of (nest_from v) ≡ v
unfolding fields_of nest_from
there_and_back v h w =
    let a = agreed v h in
    same_fields _ _ _ _ _ _ _ _ _ _ _ _ _ _ _ _ _ _ _ _ v.shift v.boundary (take_filled 4 _ v.lengths refl a.dimensions)
    (take_filled 4 _ v.tiling a.tiling a.dimensions)
    (take_filled 4 _ v.counts a.counts a.dimensions) (take_filled 32 _ v.components a.components (omega (arith, a.distances)))
    (take_filled 8 _ v.weights refl a.distances)
    (take_filled 4 _ v.sides refl a.sides) (take_filled 4 _ v.bounded a.bounded a.sides) (take_filled 4 _ v.earlier a.earlier a.sides)
    (made_back _ v.slopes (λ z. (z + 1) % 256) (λ z. (z + 255) % 256) a.slopes a.sides (λ i. slope_down (get_or v.slopes i 0) (w.slopes i)))
    (made_back _ v.offsets (λ z. (z + 32768) % 65536) (λ z. (z + 32768) % 65536) a.offsets a.sides
    (λ i. offset_down (get_or v.offsets i 0) (w.offsets i)))

-- the fields of a nest that fits
module _ (x : Nest) (f : Fits x) where
  taken : (size n : ℕ) (l : List ℕ) → length l ≡ size → n ≤ size → length (take n l) ≡ n
  taken size n l e h = length-take-le n l (rw e h)

  pub agreed_fields : Agreed (fields_of x)
  unfolding fields_of
  agreed_fields =
      let l = taken 4 x.dimensions x.lengths f.lengths.long f.dimensions in
      let w = taken 8 x.distances x.weights f.weights.long f.distances in
      let o = taken 4 x.bounds x.sides f.sides.long f.bounds in
      record {
        dimensions = rw l f.dimensions;
        distances = rw w f.distances;
        tiling = taken 4 _ x.tiling f.tiling.long f.dimensions ∙ sym l;
        counts = taken 4 _ x.counts f.counts.long f.dimensions ∙ sym l;
        components = taken 32 _ x.components f.components.long (omega (arith, f.distances)) ∙ ap (λ (k : ℕ). 4 * k) (sym w);
        sides = rw o f.bounds;
        bounded = taken 4 _ x.bounded f.bounded.long f.bounds ∙ sym o;
        earlier = taken 4 _ x.earlier f.earlier.long f.bounds ∙ sym o;
        slopes = length_tabulate _ x.bounds ∙ sym o;
        offsets = length_tabulate _ x.bounds ∙ sym o;
      }

  pub fields_agree : agree (fields_of x) ≡ true
  fields_agree = agreed_agree (fields_of x) agreed_fields

  table_back : (size n bound : ℕ) (l : List ℕ) → Table size n bound l → (k : ℕ) → k ≡ n → l ≡ filled size k (λ (i : ℕ). get_or (take n l) i 0)
  table_back size n bound l t k e = rw e (table_is size n bound l (λ (i : ℕ). get_or (take n l) i 0) t (λ i h. sym (get_or-take n l i 0 h)))

  -- a table each of whose numbers is made another and made back
  made_there : (bound : ℕ) (l : List ℕ) (up down : ℕ → ℕ) → Table 4 x.bounds bound l → ((v : ℕ) → v < bound → up (down v) ≡ v) → (k : ℕ) → k ≡ x.bounds
      → l ≡ filled 4 k (λ (i : ℕ). up (get_or (tabulate (λ (j : ℕ). down (get_or l j 0)) x.bounds) i 0))
  made_there bound l up down t back k e =
      rw e (table_is 4 x.bounds bound l (λ (i : ℕ). up (get_or (tabulate (λ (j : ℕ). down (get_or l j 0)) x.bounds) i 0)) t
      (λ i h. sym (ap up (tabulate_at (λ (j : ℕ). down (get_or l j 0)) x.bounds i h) ∙ back (get_or l i 0) (t.fit i h))))

  pub back_and_there : nest_from (fields_of x) ≡ x
  unfolding fields_of nest_from
  back_and_there =
      let l = taken 4 x.dimensions x.lengths f.lengths.long f.dimensions in
      let w = taken 8 x.distances x.weights f.weights.long f.distances in
      let o = taken 4 x.bounds x.sides f.sides.long f.bounds in
      same_nest _ _ _ _ _ _ x.dimensions x.spread x.distances x.bounds x.shift x.boundary _ _ _ _ _ _ _ _ _ _
      x.lengths x.tiling x.counts x.components x.weights x.sides x.bounded x.earlier x.slopes x.offsets
      l
      (ap (λ (k : ℕ). length (keep (λ (j : ℕ). ltb 0 (get_or (take x.dimensions x.counts) j 0)) k)) l
      ∙ sym (f.spread ∙ ap length (keep_same _ _ x.dimensions (λ i h. ap (ltb 0) (sym (get_or-take x.dimensions x.counts i 0 h))))))
      w o
      (sym (table_back 4 x.dimensions _ x.lengths f.lengths _ l))
      (sym (table_back 4 x.dimensions _ x.tiling f.tiling _ l))
      (sym (table_back 4 x.dimensions _ x.counts f.counts _ l))
      (sym (table_back 32 (4 * x.distances) _ x.components f.components _ (ap (λ (k : ℕ). 4 * k) w)))
      (sym (table_back 8 x.distances _ x.weights f.weights _ w))
      (sym (table_back 4 x.bounds _ x.sides f.sides _ o))
      (sym (table_back 4 x.bounds _ x.bounded f.bounded _ o))
      (sym (table_back 4 x.bounds _ x.earlier f.earlier _ o))
      (sym (made_there _ x.slopes (λ z. (z + 1) % 256) (λ z. (z + 255) % 256) f.slopes slope_up _ o))
      (sym (made_there _ x.offsets (λ z. (z + 32768) % 65536) (λ z. (z + 32768) % 65536) f.offsets offset_down _ o))
      refl refl

-- ---- numbers as wide as their fields

pub fields_fit : (v : Fields) → agree v ≡ true → Widths v → Fits (nest_from v)
unfolding nest_from
fields_fit v h w =
    let a = agreed v h in
    record {
      dimensions = a.dimensions;
      distances = a.distances;
      bounds = a.sides;
      sides = filled_table 4 _ _ _ (omega arith) w.sides;
      bounded = filled_table 4 _ _ _ (omega arith) w.bounded;
      earlier = filled_table 4 _ _ _ (omega arith) w.earlier;
      slopes = filled_table 4 _ _ _ (omega arith) (λ i. mod-lt (get_or v.slopes i 0 + 1) (omega arith));
      offsets = filled_table 4 _ _ _ (omega arith) (λ i. mod-lt (get_or v.offsets i 0 + 32768) (omega arith));
      lengths = filled_table 4 _ _ _ (omega arith) w.lengths;
      tiling = filled_table 4 _ _ _ (omega arith) w.tiling;
      counts = filled_table 4 _ _ _ (omega arith) w.counts;
      components = filled_table 32 _ _ _ (omega arith) w.components;
      weights = filled_table 8 _ _ _ (omega arith) w.weights;
      shift = w.shift;
      boundary = w.boundary;
      spread = ap length (keep_same _ _ (length v.lengths) (λ i k. ap (ltb 0) (sym (filled_in 4 (λ j. get_or v.counts j 0) _ i k a.dimensions))));
    }
