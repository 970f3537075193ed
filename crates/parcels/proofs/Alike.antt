-- Rows of a box alike: where the carry test stays as it is, rows with the same ends, and the cells found that grow by such rows.
use Prim.Native.Nat.{ℕ, zero, suc, ◌+◌, ◌*◌, ◌-◌, ◌≤◌, ◌<◌, min}
use mathlib.Core.Path.{◌≡◌, refl, sym, ap, ◌∙◌}
use mathlib.Core.Logic.{◌⊎◌, inl, inr}
use mathlib.Core.Bool.{true, false}
use mathlib.Core.List.{List, ◌++◌, append-nil}
use native.Mathlib.Nat.{eq-or-lt_of_le, suc-mul, mul-le-mul_right, zero-mul, add-zero, add_assoc}
use native.Mathlib.Decide.{dec_lt}
use native.Mathlib.Omega.{arith}
use lib.ListN.{length, get_or, take}
use lib.Dec.{ltb}
use borrow.Author.Tests.{lt-ltb, le-ltb, le-leb, lt-leb}
use Rattle.base.specs.Tests.{pick, tabulate}
use Rattle.base.specs.Lists.{sublist, pack, unpack}
use Rattle.base.proofs.Tests.{pick_true, pick_false, and_true, and_false, and_no}
use Rattle.nest.specs.declared.Nest.{Nest}
use Rattle.nest.specs.Accepted.{Accepted}
use Rattle.nest.specs.Nest.{component}
use Rattle.nest.specs.Places.{rank}
use Rattle.layout.specs.Regions.{Region, among}
use Rattle.layout.specs.Places.{nth, Placed}
use Rattle.layout.specs.CellRows.{row_of, Given}
use Rattle.layout.proofs.Loops.{every_same}
use Rattle.layout.proofs.CellRows.{row_next}
use Rattle.parcels.specs.declared.Block.{Block}
use Rattle.parcels.specs.declared.Window.{Window}
use Rattle.parcels.specs.declared.Sending.{Sending}
use Rattle.parcels.specs.declared.Row.{Row}
use Rattle.parcels.specs.Windows.{last, beside, window_of, DistanceEnds, Leading, carries, Unchanged, Alike, RowPacked}
use Rattle.parcels.specs.Sendings.{BoxOfRows, found, RowEnds, RowAt, place_in, cell_in}
use Rattle.parcels.proofs.Walks.{Measuring, Unpacking}
use Rattle.parcels.proofs.Packing.{PackedTo, packed_row}
use Rattle.parcels.proofs.Windows.{run_all, measure_run, unpack_run}
use Rattle.parcels.proofs.Rows.{row_ends, row_has, next_low, next_before, next_moved, row_number}

-- ---- where the carry test stays as it is

module _ (m low high : ℕ) where
  carries_below : m < low → carries low high m ≡ false
  carries_below h = and_false _ _ (lt-leb low m h)

  carries_above : high ≤ m → carries low high m ≡ false
  carries_above h = and_no _ _ (le-ltb m high h)

  carries_in : low ≤ m → m < high → carries low high m ≡ true
  carries_in h k = and_true (le-leb low m h) (lt-ltb m high k)

module _ (m low high : ℕ) where
  pub unchanged_below : m < low → Unchanged m low high (low - m)
  unchanged_below h = record {
    least = omega arith;
    same = λ y k. carries_below (m + y) low high (omega arith)
        ∙ sym (carries_below m low high h);
  }

  pub unchanged_in : low ≤ m → m < high → Unchanged m low high (high - m)
  unchanged_in h k = record {
    least = omega arith;
    same = λ y l. carries_in (m + y) low high (omega arith) (omega arith)
        ∙ sym (carries_in m low high h k);
  }

  pub unchanged_above : high ≤ m → Unchanged m low high 1024
  unchanged_above h = record {
    least = omega arith;
    same = λ y l. carries_above (m + y) low high (omega arith)
        ∙ sym (carries_above m low high h);
  }

-- for the first e distances
pub record Steady (components : List ℕ) (j a low high n most rows e : ℕ) : Type 0 where
  pub few : e ≤ n
  pub least : 1 ≤ rows
  pub room : rows ≤ most
  pub same : (d y : ℕ) → d < e → y < rows
      → carries low high (a + get_or components (4 * d + j) 0 + y) ≡ carries low high (a + get_or components (4 * d + j) 0)

module _ (components : List ℕ) (j a low high n most : ℕ) where
  pub steady_none : 1 ≤ most → Steady components j a low high n most most 0
  steady_none h = record { few = omega arith; least = h; room = omega arith; same = λ d y k. absurd (omega arith) }

  pub steady_more : (rows e u rows' : ℕ) → Steady components j a low high n most rows e → e < n
      → Unchanged (a + get_or components (4 * e + j) 0) low high u → rows' ≡ min rows u
      → Steady components j a low high n most rows' (e + 1)
  steady_more rows e u rows' s h f q =
      record {
        few = omega arith;
        least = omega (arith, s.least, f.least);
        room = omega (arith, s.room);
        same = λ d y k l. go d y (eq-or-lt_of_le (low' d k)) l;
      }
    where
      low' : (d : ℕ) → d < e + 1 → d ≤ e
      low' d k = omega arith

      go : (d y : ℕ) → (d ≡ e) ⊎ (d < e) → y < rows'
          → carries low high (a + get_or components (4 * d + j) 0 + y) ≡ carries low high (a + get_or components (4 * d + j) 0)
      go d y (inl z) l = rw z (f.same y (omega arith))
      go d y (inr z) l = s.same d y z (omega arith)

  pub steady_end : (rows e : ℕ) → Steady components j a low high n most rows e → n ≤ e → (x : Nest) (w : Window) (b : Block) (i : List ℕ)
      → Given x components → n ≡ x.distances
      → j ≡ beside x → a ≡ get_or i (beside x) 0 → low ≡ get_or w.low (beside x) 0 → high ≡ get_or w.high (beside x) 0
      → a + most ≡ get_or b.corner (beside x) 0 + get_or b.lengths (beside x) 0 → Alike x w b i rows
  steady_end rows e s h x w b i g n-is j-is a_is low_is high_is most_is =
      record {
        least = s.least;
        room = omega (arith, s.room);
        same = λ d y k l. rw (g.is, j-is, a_is, low_is, high_is) at (s.same d y (omega (arith, s.few)) l);
      }

-- ---- the ends are the same in the rows of two places where each test before the last dimension is

module _ (x : Nest) (w : Region) (i k : ℕ → ℕ)
    (same : (e j : ℕ) → e < x.distances → j < last x
    → carries (w.low j) (w.high j) (k j + component x e j) ≡ carries (w.low j) (w.high j) (i j + component x e j)) where
  -- the cell m of the second row, put back into the first
  module _ (e : ℕ) (l : e < x.distances) (m : ℕ → ℕ) (g : (j : ℕ) → j < last x → m j ≡ k j) where
    abbrev back : ℕ → ℕ
    back j = pick (ltb j (last x)) (i j) (m j)

    back_before : (j : ℕ) → j < last x → pick (ltb j (last x)) (i j) (m j) ≡ i j
    back_before j h = pick_true _ _ _ (lt-ltb j (last x) h)

    back_last : (j : ℕ) → last x ≤ j → pick (ltb j (last x)) (i j) (m j) ≡ m j
    back_last j h = pick_false _ _ _ (le-ltb j (last x) h)

    each : (j : ℕ) → Dec (j < last x)
        → carries (w.low j) (w.high j) (pick (ltb j (last x)) (i j) (m j) + component x e j) ≡ carries (w.low j) (w.high j)
        (m j + component x e j)
    each j (yes o) =
        ap (λ (a : ℕ). carries (w.low j) (w.high j) (a + component x e j)) (back_before j o)
        ∙ sym (same e j l o)
        ∙ ap (λ (a : ℕ). carries (w.low j) (w.high j) (a + component x e j)) (sym (g j o))
    each j (no o) = ap (λ (a : ℕ). carries (w.low j) (w.high j) (a + component x e j)) (back_last j (omega arith))

    moved_is : (ends : List ℕ) → DistanceEnds x w i ends → ltb (m (last x)) (get_or ends e 0) ≡ among x w (λ j. m j + component x e j)
    unfolding among
    moved_is ends f =
        ap (λ (a : ℕ). ltb a (get_or ends e 0)) (sym (back_last (last x) (omega arith)))
        ∙ (f.each e l).is (λ j. pick (ltb j (last x)) (i j) (m j)) back_before
        ∙ every_same _ _ x.dimensions (λ j h. each j (dec_lt j (last x)))

  ends_moved : (ends : List ℕ) → DistanceEnds x w i ends → DistanceEnds x w k ends
  ends_moved ends f = record { each = λ e l. record { is = λ m g. moved_is e l m g ends f } }

-- ---- what is found of a row

module _ (x : Nest) (ok : Accepted x) (z : Sending) (p : BoxOfRows x z) (r : ℕ) (h : r < z.rows)
    (at : List ℕ) (g : Placed z.block.lengths z.block.corner r (last x) at) (m : ℕ) (f : Alike x z.window z.block at m) where
  room_at : (y : ℕ) → y < m → get_or at (beside x) 0 + y < get_or z.block.corner (beside x) 0 + get_or z.block.lengths (beside x) 0
  room_at y k = omega (arith, f.room)

  alike_room : r + m ≤ z.rows
  alike_room = omega (arith, f.least, next_low x ok z p r at g h (m - 1) (room_at (m - 1) (omega (arith, f.least))))

  alike_test : (y : ℕ) → y < m → (e j : ℕ) → e < x.distances → j < last x → Dec (j < beside x)
      → carries (get_or z.window.low j 0) (get_or z.window.high j 0) (place_in x z ((r + y) * z.width) j + component x e j)
      ≡ carries (get_or z.window.low j 0) (get_or z.window.high j 0) (get_or at j 0 + component x e j)
  alike_test y k e j i o (yes t) =
      ap (λ (a : ℕ). carries (get_or z.window.low j 0) (get_or z.window.high j 0) (a + component x e j))
      (next_before x ok z p r at g y (room_at y k) j t)
  alike_test y k e j i o (no t) =
      let c : j ≡ beside x = omega arith in
      let v : place_in x z ((r + y) * z.width) (beside x) + component x e (beside x) ≡ get_or at (beside x) 0 + component x e (beside x) + y =
      omega (arith, next_moved x ok z p r at g y (room_at y k)) in
      rw c (ap (carries (get_or z.window.low (beside x) 0) (get_or z.window.high (beside x) 0)) v ∙ f.same e y i k)

  pub row_found : (ends : List ℕ) → DistanceEnds x (window_of z.window) (nth at) ends → (run : ℕ)
      → Leading ends x.distances (get_or at (last x) 0) z.width run
      → RowAt x z r (record { place = at; component = get_or at (last x) 0; ends = ends; run = run; alike = m })
  row_found ends d run v =
      record {
        place = row_has x ok z p r at g;
        limits = d;
        run = v;
        least = f.least;
        room = alike_room;
        alike = λ y o. rw (g.rest (last x) (omega arith))
            (row_ends x ok z p (r + y) (omega (arith, alike_room)) (place_in x z ((r + y) * z.width)) ends
            (ends_moved x (window_of z.window) (nth at) (place_in x z ((r + y) * z.width))
            (λ e j i l. alike_test y o e j i l (dec_lt j (beside x))) ends d) (λ j l. refl));
      }

-- and by the number of its first cell
pub row_first : (x : Nest) (z : Sending) (r : ℕ) (q : Row) → RowAt x z r q → (c : ℕ)
    → c ≡ rank (nth x.lengths) (nth q.place) x.dimensions
    → RowEnds x z (r * z.width) c q.component z.width q.ends
row_first x z r q f c e =
    let y : RowEnds x z (r * z.width) (cell_in x z (r * z.width)) q.component z.width q.ends = rw (add-zero r) at
    (f.alike 0 f.least) in
    rw (e ∙ row_number x z r q.place f.place) y

-- ---- the cells found grow by rows alike

next_row : (r k w : ℕ) → (r + suc k) * w ≡ (r + k) * w + w
next_row r k w = let z : r + suc k ≡ suc (r + k) = omega arith in rw (z, suc-mul (r + k) w)

module _ (x : Nest) (z : Sending) (r : ℕ) (q : Row) (f : RowAt x z r q) where
  rows_room : (r + q.alike) * z.width ≤ z.rows * z.width
  rows_room = mul-le-mul_right z.width f.room

  measure_rows : (count : ℕ) → Measuring x z count (r * z.width) → (k : ℕ) → k ≤ q.alike
      → Measuring x z (count + k * q.run) ((r + k) * z.width)
  measure_rows count m zero h = rw (zero-mul q.run, add-zero count, add-zero r) m
  measure_rows count m (suc k) h =
      rw (next_row r k z.width, suc-mul k q.run, ← add_assoc count (k * q.run) q.run)
      (measure_run x z ((r + k) * z.width) _ q.component z.width q.ends (f.alike k (omega arith)) q.run f.run
      (count + k * q.run) (measure_rows count m k (omega arith)))

  pub measure_alike : (count : ℕ) → Measuring x z count (r * z.width)
      → Measuring x z (count + q.alike * q.run) ((r + q.alike) * z.width)
  measure_alike count m = measure_rows count m q.alike (omega arith)

  -- rows that have none of them are passed over
  module _ (e : q.run ≡ 0) where
    rows_empty : (k : ℕ) → k ≤ q.alike → found x z ((r + k) * z.width) ≡ found x z (r * z.width)
    unfolding tabulate
    rows_empty zero h = rw (add-zero r)
    rows_empty (suc k) h =
        ap (found x z) (next_row r k z.width)
        ∙ run_all x z ((r + k) * z.width) _ q.component z.width q.ends (f.alike k (omega arith)) q.run f.run
        ∙ ap (λ (a : ℕ). found x z ((r + k) * z.width) ++ row_of (cell_in x z ((r + k) * z.width)) a) e
        ∙ append-nil _
        ∙ rows_empty k (omega arith)

    over : found x z ((r + q.alike) * z.width) ≡ found x z (r * z.width)
    over = rows_empty q.alike (omega arith)

    pub packed_over : (memory words : List ℕ) (count : ℕ) → PackedTo x z memory words count (r * z.width)
        → PackedTo x z memory words count ((r + q.alike) * z.width)
    packed_over memory words count p =
        record {
          low = rows_room;
          long = p.long;
          small = p.small;
          count_is = p.count_is ∙ ap length (sym over);
          is = p.is ∙ ap (pack memory) (sym over);
        }

    pub unpacked_over : (memory₀ words memory : List ℕ) (count : ℕ) → Unpacking x z memory₀ words memory count (r * z.width)
        → Unpacking x z memory₀ words memory count ((r + q.alike) * z.width)
    unpacked_over memory₀ words memory count u =
        record {
          low = rows_room;
          count_is = u.count_is ∙ ap length (sym over);
          is = u.is ∙ ap (λ (k : List ℕ). unpack memory₀ k (take count words)) (sym over);
        }

  -- a row is gone on
  module _ (m : ℕ) (g : RowEnds x z (r * z.width) m q.component z.width q.ends) where
    pub packed_next : (memory words words' : List ℕ) (count count' : ℕ) → PackedTo x z memory words count (r * z.width)
        → RowPacked q.ends x.distances m q.component z.width memory words count words' count'
        → PackedTo x z memory words' count' ((r + 1) * z.width)
    packed_next memory words words' count count' p k =
        rw (row_next z.width r 0) (packed_row x z (r * z.width) m q.component z.width
        q.ends g memory words count p words' count' k)

    pub unpacked_next : (memory₀ words memory memory' : List ℕ) (count : ℕ) → Unpacking x z memory₀ words memory count (r * z.width)
        → count ≤ length words
        → memory' ≡ unpack memory (row_of m q.run) (sublist words count q.run)
        → Unpacking x z memory₀ words memory' (count + q.run) ((r + 1) * z.width)
    unpacked_next memory₀ words memory memory' count u l e =
        rw (row_next z.width r 0) (unpack_run x z (r * z.width) m q.component z.width q.ends g q.run
        f.run memory₀ words memory memory' count u l e)
