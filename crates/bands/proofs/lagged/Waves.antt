-- Rows side by side: what may be stored next, and that the memory ends as in index order.
use Prim.Native.Nat.{ℕ, zero, suc, ◌+◌, ◌*◌, ◌-◌, ◌/◌, ◌%◌, ◌^◌, ◌≤◌, ◌<◌}
use mathlib.Core.Path.{◌≡◌, refl, sym, ap, ◌∙◌}
use mathlib.Core.Logic.{◌⊎◌, inl, inr, ◌≢◌}
use mathlib.Core.Bool.{true}
use mathlib.Core.List.{List, [], ◌∷◌, ◌++◌}
use native.Mathlib.Nat.{add_assoc}
use native.Mathlib.Decide.{dec_lt, ℕ_discrete}
use native.Mathlib.Omega.{arith}
use lib.ListN.{length, get_or, set}
use lib.Dec.{ltb, eqb}
use borrow.Author.Tests.{eq-eqb, ne_eqb, lt-ltb, le-ltb, le-leb}
use Rattle.base.specs.Tests.{tabulate, sum, pick}
use Rattle.base.proofs.Tests.{sum_same, pick_true, pick_false}
use Rattle.base.specs.Lists.{In, Rising, store_all}
use Rattle.base.proofs.Lists.{AllBelow, store_length}
use Rattle.base.proofs.Select.{in_append, in_left, in_right}
use Rattle.nest.specs.declared.Nest.{Nest}
use Rattle.nest.specs.Accepted.{Accepted}
use Rattle.nest.specs.Nest.{cells, weight}
use Rattle.nest.specs.Places.{cell_place}
use Rattle.plan.specs.Geometry.{has_read, read_at, reads_of, value}
use Rattle.plan.proofs.Sound.{reads_at, value_local}
use Rattle.plan.proofs.Tiles.{read_back, read_before}
use Rattle.layout.specs.CellRows.{row_of}
use Rattle.kernels.specs.Taps.{made, in_line, wave_of, Fits, Mixes, All}
use Rattle.kernels.proofs.Orders.{store_append, store_same}
use Rattle.bands.specs.lagged.Bands.{InRow, four, rows_of, Band, Spaced, Banded}
use Rattle.bands.proofs.lagged.Orders.{Right, store_other, Causal, store_fixed, right_store, right_end}
use Rattle.bands.proofs.lagged.Words.{store_row, in_row_of, row_mixes, row_values_lem}

-- ---- who is in a row, and in rows

pub row_of_in : (c n z : ℕ) → c ≤ z → z < c + n → In z (row_of c n)
unfolding tabulate
row_of_in c zero z l h = absurd (omega arith)
row_of_in c (suc n) z l h = go (dec_lt z (c + n)) (row_of_in c n z l)
  where
    go : Dec (z < c + n) → (z < c + n → In z (row_of c n)) → In z (row_of c n ++ ((c + n) ∷ []))
    go (yes k) ih = in_left z (row_of c n) ((c + n) ∷ []) (ih k)
    go (no k) ih = in_right z (row_of c n) ((c + n) ∷ []) (inl (omega arith))

rising_append : (a b : List ℕ) → Rising a → Rising b → ((y z : ℕ) → In y a → In z b → y < z) → Rising (a ++ b)
rising_append [] b r s h = s
rising_append (p ∷ a) b r s h = ((λ y i. go y (in_append y a b i)), rising_append a b r.1 s (λ y z i k. h y z (inr i) k))
  where
    go : (y : ℕ) → In y a ⊎ In y b → p < y
    go y (inl i) = r.0 y i
    go y (inr i) = h p y (inl refl) i

row_rising : (c n : ℕ) → Rising (row_of c n)
unfolding tabulate
row_rising c zero = tt
row_rising c (suc n) = rising_append (row_of c n) ((c + n) ∷ []) (row_rising c n) ((λ y i. absurd i), tt) (λ y z i k. go y z (in_row_of c n y i) k)
  where
    go : (y z : ℕ) → (c ≤ y) × (y < c + n) → In z ((c + n) ∷ []) → y < z
    go y z b (inl e) = omega arith
    go y z b (inr e) = absurd e

module _ (c : ℕ → ℕ) (w : ℕ) where
  rows_in : (n z : ℕ) → In z (rows_of c w n) → (k : ℕ) × (k < n) × (c k ≤ z) × (z < c k + w)
  unfolding rows_of
  rows_in zero z i = absurd i
  rows_in (suc n) z i = go (in_append z (rows_of c w n) (row_of (c n) w) i) (rows_in n z)
    where
      go : In z (rows_of c w n) ⊎ In z (row_of (c n) w) → (In z (rows_of c w n) → (k : ℕ) × (k < n) × (c k ≤ z) × (z < c k + w)) → (k : ℕ) × (k < suc n) ×
          (c k ≤ z) × (z < c k + w)
      go (inl k) ih = let q = ih k in (q.0, omega arith, q.2, q.3)
      go (inr k) ih = let q = in_row_of (c n) w z k in (n, omega arith, q.0, q.1)

  in_rows : (n k z : ℕ) → k < n → c k ≤ z → z < c k + w → In z (rows_of c w n)
  unfolding rows_of
  in_rows zero k z l a b = absurd (omega arith)
  in_rows (suc n) k z l a b = go (ℕ_discrete k n) (λ q. in_rows n k z q a b)
    where
      go : Dec (k ≡ n) → (k < n → In z (rows_of c w n)) → In z (rows_of c w n ++ row_of (c n) w)
      go (yes e) ih = in_right z (rows_of c w n) (row_of (c n) w) (row_of_in (c n) w z (rw e at a) (rw e at b))
      go (no q) ih = in_left z (rows_of c w n) (row_of (c n) w) (ih (omega arith))

  rows_rising : (n : ℕ) → ((j k : ℕ) → j < k → k < n → c j + w ≤ c k) → Rising (rows_of c w n)
  unfolding rows_of
  rows_rising zero h = tt
  rows_rising (suc n) h =
      rising_append (rows_of c w n) (row_of (c n) w) (rows_rising n (λ j k a b. h j k a (omega arith))) (row_rising (c n) w)
      (λ y z i k. let a = rows_in n y i in let b = in_row_of (c n) w z k in let d = h a.0 n a.1 (omega arith) in omega (arith, a.3, b.0))

-- ---- values where all distances read

pub record Full (x : Nest) (c : ℕ) (back weights : List ℕ) : Type 0 where
  pub low : c < cells x
  pub weights_are : weights ≡ x.weights
  pub has : (e : ℕ) → e < x.distances → has_read x c e ≡ true
  pub backs : (e : ℕ) → e < x.distances → get_or back e 0 + read_at x c e ≡ c

module _ (x : Nest) (ok : Accepted x) (back weights : List ℕ) where
  pub made_is : (c : ℕ) → Full x c back weights → (source memory : List ℕ) → made x.distances back weights 0 x.shift source memory c
      ≡ value x source memory c
  unfolding made value
  made_is c full source memory =
      let e : sum (λ d. get_or weights d 0 * get_or memory (c - get_or back d 0) 0) x.distances
      ≡ sum (λ d. weight x d * pick (has_read x c d) (get_or memory (read_at x c d) 0) x.boundary) x.distances =
      sum_same _ _ x.distances
      (λ d k. let y : c - get_or back d 0 ≡ read_at x c d = omega (arith, full.backs d k) in
      ap (λ (l : List ℕ). get_or l d 0 * get_or memory (c - get_or back d 0) 0) full.weights_are
      ∙ ap (λ (a : ℕ). weight x d * a) (ap (λ (i : ℕ). get_or memory i 0) y ∙ sym (pick_true (has_read x c d) _ _ (full.has d k)))) in
      let z : 0 + get_or source c 0 + sum (λ d. get_or weights d 0 * get_or memory (c - get_or back d 0) 0) x.distances
      ≡ get_or source c 0 + sum (λ d. weight x d * pick (has_read x c d) (get_or memory (read_at x c d) 0) x.boundary) x.distances = omega (arith, e) in
      ap (λ (a : ℕ). a / 2 ^ x.shift % 4294967296) z

  -- from such a cell or a later one on
  pub full_fits : (c c' : ℕ) → c' ≤ c → Full x c' back weights → (span sources words : ℕ) → c + span ≤ cells x → sources ≡ cells x → words ≡ cells x
      → Fits x.distances back weights 0 x.shift c span sources words
  full_fits c c' l full span sources words h s e =
      record {
        few = ok.distances_most;
        back = λ k i. omega (arith, full.backs k i);
        light = λ k i. rw full.weights_are (ok.weight_most k);
        besides = omega arith;
        divides = omega (arith, ok.shift_most);
        within = omega arith;
        same = s ∙ sym e;
        small = omega (arith, ok.cells_most);
      }

  pub full_row : (c n : ℕ) → ((y : ℕ) → y < n → Full x (c + y) back weights) → (source memory memory' : List ℕ)
      → memory' ≡ store_all (made x.distances back weights 0 x.shift source) memory (row_of c n) → memory' ≡ store_all (value x source) memory (row_of c n)
  full_row c n full source memory memory' e = e ∙ store_same _ _ (row_of c n) memory (λ m z i. let q = in_row_of c n z i in
      let y : c + (z - c) ≡ z = omega (arith, q.0) in
      made_is z (rw y at (full (z - c) (omega (arith, q.0, q.1)))) source m)

-- ---- the rows of a band, of which h k columns of row k are stored

-- cell z is still to be stored, h k columns of row k being stored
pub record Left (c : ℕ → ℕ) (w n : ℕ) (h : ℕ → ℕ) (z : ℕ) : Type 0 where
  pub row : ℕ
  pub below : row < n
  pub from : c row + h row ≤ z
  pub to : z < c row + w

-- so far: the rows that storing in index order gives, but for the cells still to be stored
abbrev pub Front : Nest → List ℕ → List ℕ → (ℕ → ℕ) → ℕ → ℕ → List ℕ → (ℕ → ℕ) → Type 0
Front x source m₀ c w n m h = Right (store_all (value x source) m₀ (rows_of c w n)) m (Left c w n h)

pub causal : (x : Nest) → Accepted x → (source : List ℕ) → Causal (value x source) (reads_of x) (cells x)
causal x ok source =
    record {
      local = λ m k c l h. value_local x source m k c h;
      earlier = λ c r l i. let q = reads_at x c r i in omega (arith, q.3, read_before x ok c q.0 q.1 q.2 l);
    }

module _ (x : Nest) (ok : Accepted x) (source m₀ : List ℕ) (long : length m₀ ≡ cells x) (c : ℕ → ℕ) (w n : ℕ) (band : Band x c w n) where
  fin : List ℕ
  fin = store_all (value x source) m₀ (rows_of c w n)

  fin_long : length (store_all (value x source) m₀ (rows_of c w n)) ≡ cells x
  fin_long = store_length (value x source) (rows_of c w n) m₀ ∙ long

  rows_low : AllBelow (cells x) (rows_of c w n)
  rows_low z i =
      let q = rows_in c w n z i in
      let e : c q.0 + (z - c q.0) ≡ z = omega (arith, q.2) in
      omega (arith, band.low q.0 (z - c q.0) q.1 (omega (arith, q.3, q.2)))

  fixed : (k y : ℕ) → k < n → y < w → get_or (store_all (value x source) m₀ (rows_of c w n)) (c k + y) 0 ≡ value x source
      (store_all (value x source) m₀ (rows_of c w n)) (c k + y)
  fixed k y l h =
      store_fixed (value x source) (reads_of x) (cells x) (causal x ok source) (rows_of c w n) m₀ (c k + y) (rows_rising c w n band.apart) rows_low
      (λ z i. omega (arith, rows_low z i, long))
      (in_rows c w n k (c k + y) l (omega arith) (omega arith))

  pub front_start : (h : ℕ → ℕ) → ((k : ℕ) → k < n → h k ≡ 0) → Front x source m₀ c w n m₀ h
  front_start h none =
      record {
        long = sym (store_length (value x source) (rows_of c w n) m₀);
        is = λ z k. sym (store_other (value x source) (rows_of c w n) m₀ z (λ i. let q = rows_in c w n z i in
            k (record { row = q.0; below = q.1; from = omega (arith, none q.0 q.1, q.2); to = q.3 })));
      }

  module _ (m : List ℕ) (h : ℕ → ℕ) (s : Front x source m₀ c w n m h) where
    pub front_long : length m ≡ cells x
    front_long = s.long ∙ fin_long

    pub front_same : (h' : ℕ → ℕ) → ((k : ℕ) → k < n → h' k ≤ h k) → Front x source m₀ c w n m h'
    front_same h' e =
        record {
          long = s.long;
          is = λ z k. s.is z
              (λ l. k (record { row = l.row; below = l.below; from = omega (arith, l.from, e l.row l.below); to = l.to }));
        }

    pub front_end : ((k : ℕ) → k < n → w ≤ h k) → m ≡ store_all (value x source) m₀ (rows_of c w n)
    front_end e =
        right_end (store_all (value x source) m₀ (rows_of c w n)) m (Left c w n h) s (λ z l k. let q = e k.row k.below in omega (arith, k.from, k.to))

    -- row k may go on where all rows before it are ahead
    module _ (k : ℕ) (l : k < n) (y : ℕ) (at : y ≡ h k) (i : y < w) where
      stored : (ahead : (j : ℕ) → j < k → y < h j) (r : ℕ) → In r (reads_of x (c k + y)) → Left c w n h r → ⊥
      stored ahead r q z = go (dec_lt z.row k) (dec_lt k z.row)
        where
          e : (e : ℕ) × (e < x.distances) × (has_read x (c k + y) e ≡ true) × (r ≡ read_at x (c k + y) e)
          e = reads_at x (c k + y) r q

          before : r < c k + y
          before = omega (arith, e.3, read_before x ok (c k + y) e.0 e.1 e.2 (band.low k y l i))

          column : cell_place x r (x.dimensions - 1) ≤ cell_place x (c 0) (x.dimensions - 1) + y
          column =
              rw e.3 (omega (
                arith,
                read_back x ok (c k + y) e.0 e.1 e.2 (x.dimensions - 1) (omega (arith, ok.dimensions_least)),
                band.column k y l i,
              ))

          back : c z.row + (r - c z.row) ≡ r
          back = omega (arith, z.from)

          there : cell_place x r (x.dimensions - 1) ≡ cell_place x (c 0) (x.dimensions - 1) + (r - c z.row)
          there = rw back at (band.column z.row (r - c z.row) z.below (omega (arith, z.from, z.to)))

          go : Dec (z.row < k) → Dec (k < z.row) → ⊥
          go (yes a) d = let b = ahead z.row a in omega (arith, z.from, there, column)
          go (no a) (yes b) = let d = band.apart k z.row b z.below in omega (arith, z.from, before)
          go (no a) (no b) =
              let t : z.row ≡ k = omega arith in
              let f : c k + h k ≤ r = rw t at z.from in
              omega (arith, before)

      pub front_word : ((j : ℕ) → j < k → y < h j) → value x source m (c k + y) ≡ get_or (store_all (value x source) m₀ (rows_of c w n)) (c k + y) 0
      front_word ahead =
          value_local x source m (store_all (value x source) m₀ (rows_of c w n)) (c k + y) (λ r q. s.is r (stored ahead r q)) ∙ sym (fixed k y l i)

      pub front_store : (v : ℕ) → v ≡ get_or (store_all (value x source) m₀ (rows_of c w n)) (c k + y) 0 → (h' : ℕ → ℕ) → h' k ≤ y + 1
          → ((j : ℕ) → j < n → j ≢ k → h' j ≤ h j)
          → Front x source m₀ c w n (set m (c k + y) v) h'
      front_store v e h' a b =
          right_store (store_all (value x source) m₀ (rows_of c w n)) m (Left c w n h) s (Left c w n h') (c k + y) v
          (omega (arith, fin_long, band.low k y l i)) e
          (λ z q t. go z q t (ℕ_discrete t.row k))
        where
          go : (z : ℕ) → z ≢ c k + y → (t : Left c w n h z) → Dec (t.row ≡ k) → Left c w n h' z
          go z q t (yes d) =
              let f : c k + h k ≤ z = rw d at t.from in
              let g : z < c k + w = rw d at t.to in
              record { row = k; below = l; from = omega arith; to = g }
          go z q t (no d) = record { row = t.row; below = t.below; from = omega (arith, t.from, b t.row t.below d); to = t.to }

-- ---- row k goes on by t columns, in index order

module _ (x : Nest) (ok : Accepted x) (source m₀ : List ℕ) (long : length m₀ ≡ cells x) (c : ℕ → ℕ) (w n : ℕ) (band : Band x c w n) where
  moved : (ℕ → ℕ) → ℕ → ℕ → ℕ → ℕ
  moved h k y j = pick (eqb j k) y (h j)

  moved_same : (h : ℕ → ℕ) (k y : ℕ) → pick (eqb k k) y (h k) ≡ y
  moved_same h k y = pick_true (eqb k k) y (h k) (eq-eqb k k refl)

  moved_other : (h : ℕ → ℕ) (k y j : ℕ) → j ≢ k → pick (eqb j k) y (h j) ≡ h j
  moved_other h k y j ne = pick_false (eqb j k) y (h j) (ne_eqb j k ne)

  pub front_row : (m : List ℕ) (h : ℕ → ℕ) → Front x source m₀ c w n m h → (k : ℕ) → k < n → (s : ℕ) → s ≡ c k + h k → (t : ℕ) → h k + t ≤ w
      → ((j : ℕ) → j < k → h k + t ≤ h j)
      → (h' : ℕ → ℕ) → h' k ≤ h k + t → ((j : ℕ) → j < n → j ≢ k → h' j ≤ h j) → Front x source m₀ c w n (store_all (value x source) m (row_of s t)) h'
  unfolding tabulate store_all
  front_row m h f k l s e zero i ahead h' a b = front_same x ok source m₀ long c w n band m h f h' (λ j q. go j q (ℕ_discrete j k))
    where
      go : (j : ℕ) → j < n → Dec (j ≡ k) → h' j ≤ h j
      go j q (yes z) = rw z (omega arith)
      go j q (no z) = b j q z
  front_row m h f k l s e (suc t) i ahead h' a b =
      let g : Front x source m₀ c w n (store_all (value x source) m (row_of s t)) (λ j. pick (eqb j k) (h k + t) (h j)) =
      front_row m h f k l s e t (omega arith) (λ j q. omega (arith, ahead j q)) (λ j. pick (eqb j k) (h k + t) (h j))
      (omega (arith, moved_same h k (h k + t))) (λ j q z. omega (arith, moved_other h k (h k + t) j z)) in
      let p : s + t ≡ c k + (h k + t) = omega arith in
      rw (store_row (value x source) m s t, p)
      (front_store x ok source m₀ long c w n band (store_all (value x source) m (row_of s t)) (λ j. pick (eqb j k) (h k + t) (h j)) g k l (h k + t)
      (sym (moved_same h k (h k + t))) (omega arith)
      (value x source (store_all (value x source) m (row_of s t)) (c k + (h k + t)))
      (front_word x ok source m₀ long c w n band (store_all (value x source) m (row_of s t)) (λ j. pick (eqb j k) (h k + t) (h j)) g k l (h k + t)
      (sym (moved_same h k (h k + t))) (omega arith)
      (λ j q. omega (arith, ahead j q, moved_other h k (h k + t) j (λ z. omega arith))))
      h' (omega arith) (λ j q z. omega (arith, b j q z, moved_other h k (h k + t) j z)))

-- ---- a column of four rows, each one behind the row before it

-- i rows of the column are stored
unfoldable stage : ℕ → ℕ → ℕ → ℕ
stage y i j = pick (ltb j i) (y + 1 - j) (y - j)

stage_done : (y i j : ℕ) → j < i → stage y i j ≡ y + 1 - j
unfolding stage
stage_done y i j h = pick_true (ltb j i) (y + 1 - j) (y - j) (lt-ltb j i h)

stage_not : (y i j : ℕ) → i ≤ j → stage y i j ≡ y - j
unfolding stage
stage_not y i j h = pick_false (ltb j i) (y + 1 - j) (y - j) (le-ltb j i h)

module _ (x : Nest) (ok : Accepted x) (source m₀ : List ℕ) (long : length m₀ ≡ cells x) (c : ℕ → ℕ) (w : ℕ) (band : Band x c w 4) (f : List ℕ → ℕ → ℕ) where
  module _ (y : ℕ) (deep : 3 ≤ y) (wide : y < w) (same : (k : ℕ) → k < 4 → (m : List ℕ) → f m (c k + (y - k)) ≡ value x source m (c k + (y - k))) where
    next : (k : ℕ) → k < 4 → (m : List ℕ) → Front x source m₀ c w 4 m (stage y k) → Front x source m₀ c w 4 (set m (c k + (y - k)) (f m (c k + (y - k))))
        (stage y (suc k))
    next k l m g =
        front_store x ok source m₀ long c w 4 band m (stage y k) g k l (y - k) (sym (stage_not y k k (omega arith))) (omega arith) (f m (c k + (y - k)))
        (same k l m ∙ front_word x ok source m₀ long c w 4 band m (stage y k) g k l (y - k) (sym (stage_not y k k (omega arith))) (omega arith)
        (λ j q. omega (arith, stage_done y k j q)))
        (stage y (suc k)) (omega (arith, stage_done y (suc k) k (omega arith))) (λ j q z. go j z (dec_lt j k))
      where
        go : (j : ℕ) → j ≢ k → Dec (j < k) → stage y (suc k) j ≤ stage y k j
        go j z (yes d) = omega (arith, stage_done y (suc k) j (omega arith), stage_done y k j d)
        go j z (no d) = omega (arith, stage_not y (suc k) j (omega arith), stage_not y k j (omega arith))

    column : (m : List ℕ) → Front x source m₀ c w 4 m (λ k. y - k) → (p₀ p₁ p₂ p₃ : ℕ) → p₀ ≡ c 0 + (y - 0) → p₁ ≡ c 1 + (y - 1) → p₂ ≡ c 2 + (y - 2) → p₃
        ≡ c 3 + (y - 3)
        → Front x source m₀ c w 4 (store_all f m (p₀ ∷ p₁ ∷ p₂ ∷ p₃ ∷ [])) (λ k. y + 1 - k)
    unfolding store_all
    column m s p₀ p₁ p₂ p₃ e₀ e₁ e₂ e₃ =
        let g = front_same x ok source m₀ long c w 4 band m (λ k. y - k) s (stage y 0) (λ k l. omega (arith, stage_not y 0 k (omega arith))) in
        let g₄ = next 3 (omega arith) _ (next 2 (omega arith) _ (next 1 (omega arith) _ (next 0 (omega arith) m g))) in
        rw (e₀, e₁, e₂, e₃) (front_same x ok source m₀ long c w 4 band _ (stage y 4) g₄ (λ k. y + 1 - k) (λ k l. omega (arith, stage_done y 4 k l)))

  -- n columns from column `from` on
  module _ (from : ℕ) (deep : 3 ≤ from) (spaced : Spaced (c 0) (c 1) (c 2) (c 3)) where
    pub front_wave : (n : ℕ) → from + n ≤ w → ((k z : ℕ) → k < 4 → from ≤ z → z < w → (m : List ℕ) → f m (c k + (z - k)) ≡ value x source m (c k + (z - k)))
        → (m : List ℕ) → Front x source m₀ c w 4 m (λ k. from - k) → Front x source m₀ c w 4 (store_all f m (wave_of (c 0 + from) (c 1 - c 0 - 1) n))
        (λ k. from + n - k)
    unfolding wave_of store_all
    front_wave zero h same m s = front_same x ok source m₀ long c w 4 band m (λ k. from - k) s (λ k. from + 0 - k) (λ k l. omega arith)
    front_wave (suc n) h same m s =
        let a = band.apart 0 1 (omega arith) (omega arith) in
        let z : from + suc n ≡ from + n + 1 = omega arith in
        rw (z, store_append f m (wave_of (c 0 + from) (c 1 - c 0 - 1) n) _)
        (column (from + n) (omega arith) (omega arith) (λ k l. same k (from + n) l (omega arith) (omega arith))
        (store_all f m (wave_of (c 0 + from) (c 1 - c 0 - 1) n))
        (front_wave n (omega arith) same m s) _ _ _ _ (omega arith) (omega (arith, a)) (omega (arith, a, spaced.0)) (omega (arith, a, spaced.0, spaced.1)))

-- ---- parts of a row

module _ (x : Nest) (c a n : ℕ) (first back weights : List ℕ) (r : InRow x c a n first back weights) where
  pub row_front : (t : ℕ) → t ≤ n → InRow x c a t first back weights
  row_front t h = record { few = omega (arith, r.few); low = omega (arith, r.low); each = λ y k. r.each y (omega arith) }

  pub row_rest : (s t : ℕ) → s + t ≤ n → InRow x (c + s) (a + s) t first back weights
  row_rest s t h =
      record { few = omega (arith, r.few); low = omega (arith, r.low); each = λ y k. rw (add_assoc c s y, add_assoc a s y) (r.each (s + y) (omega arith)) }

  -- where all distances read
  pub row_full : ((e : ℕ) → e < x.distances → get_or first e 0 ≤ a) → (y : ℕ) → y < n → Full x (c + y) back weights
  row_full h y k =
      record {
        low = (r.each y k).low;
        weights_are = (r.each y k).weights_are;
        has = has;
        backs = λ e l. (r.each y k).backs e l (has e l);
      }
    where
      has : (e : ℕ) → e < x.distances → has_read x (c + y) e ≡ true
      has e l = sym ((r.each y k).firsts e l) ∙ le-leb (get_or first e 0) (a + y) (omega (arith, h e l))

-- ---- four rows

pub each_four : (P : ℕ → Type 0) → P 0 → P 1 → P 2 → P 3 → (k : ℕ) → k < 4 → P k
each_four P a b c d zero h = a
each_four P a b c d (suc zero) h = b
each_four P a b c d (suc (suc zero)) h = c
each_four P a b c d (suc (suc (suc zero))) h = d
each_four P a b c d (suc (suc (suc (suc k)))) h = absurd (omega arith)

module _ (x : Nest) (ok : Accepted x) (c : ℕ → ℕ) (a from w : ℕ) (first back weights : List ℕ) (g : Banded x c a from w first back weights) where
  -- from three columns before `from` on all distances read
  pub band_full : (k y : ℕ) → k < 4 → from - 3 ≤ y → y < w → Full x (c k + y) back weights
  band_full k y l h i =
      let p : c k + (from - 3) + (y - (from - 3)) ≡ c k + y = omega arith in
      rw p at
      (row_full x (c k + (from - 3)) (a + (from - 3)) (w - (from - 3)) first back weights (row_rest x (c k) a w first back weights (g.each k l) (from - 3)
      (w - (from - 3)) (omega (arith, g.low)))
      (λ e q. omega (arith, g.reads e q, g.three)) (y - (from - 3)) (omega (arith, g.three, g.low)))

  -- the first t cells of row k
  pub band_mixes : (k t : ℕ) → k < 4 → t ≤ w → (sources words : ℕ) → sources ≡ cells x → words ≡ cells x
      → Mixes x.distances first back weights x.boundary x.shift (c k) a t sources words × All x.distances first (a + (from - 3))
  band_mixes k t l h sources words s m = (
    row_mixes x ok (c k) a t first back weights (row_front x (c k) a w first back weights (g.each k l) t h) sources words
        ((g.each k l).each 0 (omega (arith, g.three, g.low))).weights_are s m,
    λ e q. omega (arith, g.reads e q, g.three),
  )

  pub band_line : (k t : ℕ) → k < 4 → t ≤ w → (source m m' : List ℕ)
      → m' ≡ store_all (in_line x.distances first back weights x.boundary x.shift source (c k) a) m (row_of (c k) t) → m' ≡ store_all (value x source) m
      (row_of (c k) t)
  band_line k t l h source m m' e = row_values_lem x ok (c k) a t first back weights (row_front x (c k) a w first back weights (g.each k l) t h) source m m' e

  -- its last t cells
  pub band_tail : (k t : ℕ) → k < 4 → t ≤ 3 → (source m m' : List ℕ)
      → m' ≡ store_all (made x.distances back weights 0 x.shift source) m (row_of (c k + (w - t)) t) → m' ≡ store_all (value x source) m
      (row_of (c k + (w - t)) t)
  band_tail k t l h source m m' e =
      full_row x ok back weights (c k + (w - t)) t
      (λ y i. let z : c k + (w - t) + y ≡ c k + (w - t + y) = omega arith in
      rw z (band_full k (w - t + y) l (omega (arith, g.low)) (omega (arith, g.three, g.low)))) source m m' e

  pub tail_fits : (k t sources words : ℕ) → k < 4 → 1 ≤ t → t ≤ 3 → sources ≡ cells x → words ≡ cells x → Fits x.distances back weights 0 x.shift
      (c k + (w - t)) t sources words
  tail_fits k t sources words l i h s e =
      full_fits x ok back weights (c k + (w - t)) (c k + (w - t)) (omega arith) (band_full k (w - t) l (omega (arith, g.low))
      (omega (arith, g.three, g.low))) t sources words
      (omega (arith, (g.each k l).low, g.three, g.low)) s e

  pub wave_fits : Spaced (c 0) (c 1) (c 2) (c 3) → (sources words : ℕ) → sources ≡ cells x → words ≡ cells x
      → Fits x.distances back weights 0 x.shift (c 0 + from) (3 * (c 1 - c 0 - 1) + (w - from)) sources words
  wave_fits spaced sources words s e =
      full_fits x ok back weights (c 0 + from) (c 0 + (from - 3)) (omega arith) (band_full 0 (from - 3) (omega arith) (omega arith)
      (omega (arith, g.three, g.low))) _ sources words
      (omega (arith, (g.each 3 (omega arith)).low, g.rows.apart 0 1 (omega arith) (omega arith), g.three, g.low, spaced.0, spaced.1)) s e

  module _ (source m₀ : List ℕ) (long : length m₀ ≡ cells x) where
    module _ (m : List ℕ) (h₀ h₁ h₂ h₃ : ℕ) (s : Front x source m₀ c w 4 m (four h₀ h₁ h₂ h₃)) (p t : ℕ) where
      pub row_0 : p ≡ c 0 + h₀ → h₀ + t ≤ w → Front x source m₀ c w 4 (store_all (value x source) m (row_of p t)) (four (h₀ + t) h₁ h₂ h₃)
      row_0 e i =
          front_row x ok source m₀ long c w 4 g.rows m (four h₀ h₁ h₂ h₃) s 0 (omega arith) p e t i (λ j q. absurd (omega arith))
          (four (h₀ + t) h₁ h₂ h₃) (omega arith) (each_four (λ j. j ≢ 0 → four (h₀ + t) h₁ h₂ h₃ j ≤ four h₀ h₁ h₂ h₃ j) (λ q. absurd (q refl))
          (λ q. omega arith) (λ q. omega arith) (λ q. omega arith))

      pub row_1 : p ≡ c 1 + h₁ → h₁ + t ≤ w → h₁ + t ≤ h₀ → Front x source m₀ c w 4 (store_all (value x source) m (row_of p t)) (four h₀ (h₁ + t) h₂ h₃)
      row_1 e i a₀ =
          front_row x ok source m₀ long c w 4 g.rows m (four h₀ h₁ h₂ h₃) s 1 (omega arith) p e t i
          (λ j q. each_four (λ j. j < 1 → h₁ + t ≤ four h₀ h₁ h₂ h₃ j) (λ q. a₀) (λ q. absurd (omega arith)) (λ q. absurd (omega arith))
          (λ q. absurd (omega arith)) j (omega arith) q)
          (four h₀ (h₁ + t) h₂ h₃) (omega arith) (each_four (λ j. j ≢ 1 → four h₀ (h₁ + t) h₂ h₃ j ≤ four h₀ h₁ h₂ h₃ j) (λ q. omega arith)
          (λ q. absurd (q refl)) (λ q. omega arith) (λ q. omega arith))

      pub row_2 : p ≡ c 2 + h₂ → h₂ + t ≤ w → h₂ + t ≤ h₀ → h₂ + t ≤ h₁ → Front x source m₀ c w 4 (store_all (value x source) m (row_of p t))
          (four h₀ h₁ (h₂ + t) h₃)
      row_2 e i a₀ a₁ =
          front_row x ok source m₀ long c w 4 g.rows m (four h₀ h₁ h₂ h₃) s 2 (omega arith) p e t i
          (λ j q. each_four (λ j. j < 2 → h₂ + t ≤ four h₀ h₁ h₂ h₃ j) (λ q. a₀) (λ q. a₁) (λ q. absurd (omega arith)) (λ q. absurd (omega arith)) j
          (omega arith) q)
          (four h₀ h₁ (h₂ + t) h₃) (omega arith) (each_four (λ j. j ≢ 2 → four h₀ h₁ (h₂ + t) h₃ j ≤ four h₀ h₁ h₂ h₃ j) (λ q. omega arith)
          (λ q. omega arith) (λ q. absurd (q refl)) (λ q. omega arith))

      pub row_3 : p ≡ c 3 + h₃ → h₃ + t ≤ w → h₃ + t ≤ h₀ → h₃ + t ≤ h₁ → h₃ + t ≤ h₂ → Front x source m₀ c w 4 (store_all (value x source) m (row_of p t))
          (four h₀ h₁ h₂ (h₃ + t))
      row_3 e i a₀ a₁ a₂ =
          front_row x ok source m₀ long c w 4 g.rows m (four h₀ h₁ h₂ h₃) s 3 (omega arith) p e t i
          (λ j q. each_four (λ j. j < 3 → h₃ + t ≤ four h₀ h₁ h₂ h₃ j) (λ q. a₀) (λ q. a₁) (λ q. a₂) (λ q. absurd (omega arith)) j (omega arith) q)
          (four h₀ h₁ h₂ (h₃ + t)) (omega arith) (each_four (λ j. j ≢ 3 → four h₀ h₁ h₂ (h₃ + t) j ≤ four h₀ h₁ h₂ h₃ j) (λ q. omega arith)
          (λ q. omega arith) (λ q. omega arith) (λ q. absurd (q refl)))

    abbrev Lined : List ℕ → List ℕ → ℕ → ℕ → Type 0
    Lined m m' k t = m' ≡ store_all (in_line x.distances first back weights x.boundary x.shift source (c k) a) m (row_of (c k) t)

    abbrev Made : List ℕ → List ℕ → ℕ → ℕ → Type 0
    Made m m' k t = m' ≡ store_all (made x.distances back weights 0 x.shift source) m (row_of (c k + (w - t)) t)

    pub band_stored : Spaced (c 0) (c 1) (c 2) (c 3) → (m₁ m₂ m₃ m₄ m₅ m₆ m₇ m₈ : List ℕ) → Lined m₀ m₁ 0 from → Lined m₁ m₂ 1 (from - 1) → Lined m₂ m₃ 2
        (from - 2) → Lined m₃ m₄ 3 (from - 3)
        → m₅ ≡ store_all (made x.distances back weights 0 x.shift source) m₄ (wave_of (c 0 + from) (c 1 - c 0 - 1) (w - from)) → Made m₅ m₆ 1 1
        → Made m₆ m₇ 2 2 → Made m₇ m₈ 3 3
        → m₈ ≡ store_all (value x source) m₀ (rows_of c w 4)
    band_stored spaced m₁ m₂ m₃ m₄ m₅ m₆ m₇ m₈ f₁ f₂ f₃ f₄ e₅ f₆ f₇ f₈ =
        let e₁ = band_line 0 from (omega arith) g.low source m₀ m₁ f₁ in
        let e₂ = band_line 1 (from - 1) (omega arith) (omega (arith, g.low)) source m₁ m₂ f₂ in
        let e₃ = band_line 2 (from - 2) (omega arith) (omega (arith, g.low)) source m₂ m₃ f₃ in
        let e₄ = band_line 3 (from - 3) (omega arith) (omega (arith, g.low)) source m₃ m₄ f₄ in
        let e₆ = band_tail 1 1 (omega arith) (omega arith) source m₅ m₆ f₆ in
        let e₇ = band_tail 2 2 (omega arith) (omega arith) source m₆ m₇ f₇ in
        let e₈ = band_tail 3 3 (omega arith) (omega arith) source m₇ m₈ f₈ in
        let q = g.three in
        let r = g.low in
        let s₀ : Front x source m₀ c w 4 m₀ (four 0 0 0 0) = front_start x ok source m₀ long c w 4 g.rows (four 0 0 0 0)
        (each_four (λ k. four 0 0 0 0 k ≡ 0) refl refl refl refl) in
        let s₁ : Front x source m₀ c w 4 m₁ (four (0 + from) 0 0 0) = rw e₁ (row_0 m₀ 0 0 0 0 s₀ (c 0) from (omega arith) (omega arith)) in
        let s₂ : Front x source m₀ c w 4 m₂ (four (0 + from) (0 + (from - 1)) 0 0) = rw e₂ (row_1 m₁ (0 + from) 0 0 0 s₁ (c 1) (from - 1) (omega arith)
        (omega arith) (omega arith)) in
        let s₃ : Front x source m₀ c w 4 m₃ (four (0 + from) (0 + (from - 1)) (0 + (from - 2)) 0) = rw e₃ (row_2 m₂ (0 + from) (0 + (from - 1)) 0 0 s₂ (c 2)
        (from - 2) (omega arith) (omega arith) (omega arith) (omega arith)) in
        let s₄ : Front x source m₀ c w 4 m₄ (four (0 + from) (0 + (from - 1)) (0 + (from - 2)) (0 + (from - 3))) =
        rw e₄ (row_3 m₃ (0 + from) (0 + (from - 1)) (0 + (from - 2)) 0 s₃ (c 3) (from - 3) (omega arith) (omega arith) (omega arith) (omega arith)
        (omega arith)) in
        let v : from + (w - from) ≡ w = omega arith in
        let s₅ : Front x source m₀ c w 4 m₅ (λ k. w - k) =
        rw e₅
        (rw v at
        (front_wave x ok source m₀ long c w g.rows (made x.distances back weights 0 x.shift source) from q spaced (w - from) (omega arith)
        (λ k z l h i m. made_is x ok back weights (c k + (z - k)) (band_full k (z - k) l (omega arith) (omega arith)) source m) m₄
        (front_same x ok source m₀ long c w 4 g.rows m₄ _ s₄ (λ k. from - k)
        (each_four (λ k. from - k ≤ four (0 + from) (0 + (from - 1)) (0 + (from - 2)) (0 + (from - 3)) k) (omega arith) (omega arith) (omega arith)
        (omega arith))))) in
        let s₅' : Front x source m₀ c w 4 m₅ (four w (w - 1) (w - 2) (w - 3)) =
        front_same x ok source m₀ long c w 4 g.rows m₅ (λ k. w - k) s₅ (four w (w - 1) (w - 2) (w - 3))
        (each_four (λ k. four w (w - 1) (w - 2) (w - 3) k ≤ w - k) (omega arith) (omega arith) (omega arith) (omega arith)) in
        let s₆ : Front x source m₀ c w 4 m₆ (four w (w - 1 + 1) (w - 2) (w - 3)) = rw e₆ (row_1 m₅ w (w - 1) (w - 2) (w - 3) s₅' (c 1 + (w - 1)) 1 refl
        (omega arith) (omega arith)) in
        let s₇ : Front x source m₀ c w 4 m₇ (four w (w - 1 + 1) (w - 2 + 2) (w - 3)) = rw e₇ (row_2 m₆ w (w - 1 + 1) (w - 2) (w - 3) s₆ (c 2 + (w - 2)) 2
        refl (omega arith) (omega arith) (omega arith)) in
        let s₈ : Front x source m₀ c w 4 m₈ (four w (w - 1 + 1) (w - 2 + 2) (w - 3 + 3)) = rw e₈ (row_3 m₇ w (w - 1 + 1) (w - 2 + 2) (w - 3) s₇
        (c 3 + (w - 3)) 3 refl (omega arith) (omega arith) (omega arith) (omega arith)) in
        front_end x ok source m₀ long c w 4 g.rows m₈ _ s₈ (each_four (λ k. w ≤ four w (w - 1 + 1) (w - 2 + 2) (w - 3 + 3) k) (omega arith) (omega arith)
        (omega arith) (omega arith))
