-- Laws of the shape by rows: the cells of a row in it, the tiles that hold one, and how many tiles there are.
use Prim.Native.Nat.{ℕ, suc, ◌+◌, ◌*◌, ◌-◌, ◌/◌, ◌≤◌, ◌<◌}
use mathlib.Core.Path.{◌≡◌, refl, sym, ap, ◌∙◌}
use mathlib.Core.Logic.{◌⊎◌, inl, inr}
use mathlib.Core.Bool.{Bool, true, false}
use mathlib.Core.List.{List}
use native.Mathlib.Nat.{mul-le-mul_right, suc-mul, zero-mul, mod-eq_of_lt, mul-add-div_right, mul-add-mod_self_right}
use native.Mathlib.Nat.{div-eq_of_lt, div-mul-le_self, mul-div_cancel, zero-div, lt-div-mul-add}
use native.Mathlib.Decide.{dec_lt, dec_le, ℕ_discrete}
use native.Mathlib.Omega.{arith}
use lib.ListN.{length, get_or, replicate, length-replicate, get_or-replicate, get_or-eq_default}
use lib.Dec.{eqb, ltb, leb}
use borrow.Author.Tests.{lt-ltb, le-ltb, le-leb, lt-leb, eq-eqb, ne_eqb, leb-true, ltb-true, eqb-true}
use Rattle.base.specs.Tests.{◌and◌, ◌or◌, pick, some, keep, tabulate, product}
use Rattle.base.proofs.Tests.{both, and_true, and_false, and_no, either, or_left, or_right, same_test, is_false}
use Rattle.base.proofs.Tests.{some_at, some_one, some_same, some_none, pick_true, pick_false}
use Rattle.base.proofs.Select.{keep_same}
use Rattle.nest.specs.declared.Nest.{Nest}
use Rattle.nest.specs.declared.Interval.{Interval}
use Rattle.nest.specs.Nest.{length_of, tile_length, bounded, earlier, tile_count, cells, box_tiles}
use Rattle.nest.specs.Places.{rank, place, cell_place, tile_at, box_tile_of}
use Rattle.nest.specs.Shape.{level, raised, meets, in_shape, exists, existing, tiles}
use Rattle.nest.specs.Reader.{too_many_tiles}
use Rattle.nest.specs.Accepted.{Accepted}
use Rattle.nest.specs.Spans.{Framed, Tiled, last, row_place, meets_first, in_row, within, spot, Spans, Row, holds, InBox, Marked, RowMarked}
use Rattle.nest.proofs.Laws.{product_room, tile_small}
pub use Rattle.nest.proofs.Boxes.{every_same, product_most}
use Rattle.nest.proofs.Boxes.{box_tile_of_low, unbounded_existing, unbounded_tiles, box_few, tiles_few}
use Rattle.nest.proofs.Rank.{Positive, place_last, place_before, place_low, rank_same, div_le}

-- what holds of some number below m + n holds of one below m, or of one of the n from there on
pub some_split : (f : ℕ → Bool) (m n : ℕ) → some f (m + n) ≡ (some f m or some (λ a. f (m + a)) n)
some_split f m n = same_test there back
  where
    there : some f (m + n) ≡ true → (some f m or some (λ a. f (m + a)) n) ≡ true
    there e =
        let r = some_at f (m + n) e in
        go r.0 r.1 r.2 (dec_lt r.0 m)
      where
        go : (i : ℕ) → i < m + n → f i ≡ true → Dec (i < m) → (some f m or some (λ a. f (m + a)) n) ≡ true
        go i l h (yes k) = or_left _ (some_one f m i k h)
        go i l h (no k) =
            let z : m + (i - m) ≡ i = omega arith in
            or_right (some f m) (some_one (λ a. f (m + a)) n (i - m) (omega arith) (ap f z ∙ h))

    back : (some f m or some (λ a. f (m + a)) n) ≡ true → some f (m + n) ≡ true
    back e = go (either e)
      where
        go : (some f m ≡ true) ⊎ (some (λ a. f (m + a)) n ≡ true) → some f (m + n) ≡ true
        go (inl h) = let r = some_at f m h in some_one f (m + n) r.0 (omega (arith, r.1)) r.2
        go (inr h) = let r = some_at (λ a. f (m + a)) n h in some_one f (m + n) (m + r.0) (omega (arith, r.1)) r.2

-- ---- cells of a row

-- number q N + a is place q, and a in the last dimension
pub place_row : (N : ℕ → ℕ) (l q a j : ℕ) → a < N l → j < suc l → place N (suc l) (q * N l + a) j ≡ pick (eqb j l) a (place N l q j)
place_row N l q a j low h = go (ℕ_discrete j l)
  where
    pos : 0 < N l
    pos = omega arith

    go : Dec (j ≡ l) → place N (suc l) (q * N l + a) j ≡ pick (eqb j l) a (place N l q j)
    go (yes e) =
        rw e (place_last N l (q * N l + a)
        ∙ (mul-add-mod_self_right q (N l) a ∙ (mod-eq_of_lt low ∙ sym (pick_true (eqb l l) a (place N l q l) (eq-eqb l l refl)))))
    go (no e) =
        let z : (q * N l + a) / N l ≡ q = omega (arith, mul-add-div_right pos q a, div-eq_of_lt low) in
        place_before N l (q * N l + a) j (omega arith) ∙ (ap (λ (c : ℕ). place N l c j) z ∙ sym (pick_false (eqb j l) a (place N l q j) (ne_eqb j l e)))

-- the same number with and without a differ in the last dimension alone
pub place_in_row : (N : ℕ → ℕ) (l q a j : ℕ) → a < N l → j < suc l
    → place N (suc l) (q * N l + a) j ≡ pick (eqb j l) a (place N (suc l) (q * N l) j)
place_in_row N l q a j low h = go (ℕ_discrete j l)
  where
    go : Dec (j ≡ l) → place N (suc l) (q * N l + a) j ≡ pick (eqb j l) a (place N (suc l) (q * N l) j)
    go (yes e) =
        let t : eqb j l ≡ true = eq-eqb j l e in
        place_row N l q a j low h ∙ (pick_true (eqb j l) a (place N l q j) t ∙ sym (pick_true (eqb j l) a (place N (suc l) (q * N l) j) t))
    go (no e) =
        let t : eqb j l ≡ false = ne_eqb j l e in
        let z : q * N l + 0 ≡ q * N l = omega arith in
        let w : place N (suc l) (q * N l) j ≡ place N l q j =
        ap (λ (c : ℕ). place N (suc l) c j) (sym z) ∙ (place_row N l q 0 j (omega arith) h ∙ pick_false (eqb j l) 0 (place N l q j) t) in
        place_row N l q a j low h ∙ (pick_false (eqb j l) a (place N l q j) t ∙ sym (pick_false (eqb j l) a (place N (suc l) (q * N l) j) t ∙ w))

or_none : (a b : Bool) → b ≡ false → a ≡ (a or b)
unfolding ◌or◌
or_none true b e = refl
or_none false b e = sym e

zeros : (n u : ℕ) → get_or (replicate n 0) u 0 ≤ 0
zeros n u = go (dec_lt u n)
  where
    go : Dec (u < n) → get_or (replicate n 0) u 0 ≤ 0
    go (yes l) = rw (get_or-replicate {A = ℕ} n u 0 0 l) (omega arith)
    go (no l) = rw (get_or-eq_default {A = ℕ} (replicate n 0) 0 {n = u} (rw (length-replicate {A = ℕ} n 0) (omega arith))) (omega arith)

place_in_dims : (N : ℕ → ℕ) (n l q a j : ℕ) → suc l ≡ n → a < N l → j < n → place N n (q * N l + a) j ≡ pick (eqb j l) a (place N n (q * N l) j)
place_in_dims N n l q a j e low h = rw (← e) (place_in_row N l q a j low (rw (← e) at h))

product_last : (f : ℕ → ℕ) (n l : ℕ) → suc l ≡ n → product f l * f l ≡ product f n
unfolding product
product_last f n l e = rw (← e)

-- two places that differ in the last dimension alone, where the second is 0
rank_row : (N i k : ℕ → ℕ) (n l : ℕ) → suc l ≡ n → ((j : ℕ) → j < l → i j ≡ k j) → k l ≡ 0 → rank N i n ≡ rank N k n + i l
unfolding rank
rank_row N i k n l s e z = rw (← s, rank_same N i k l e, z) (omega arith)

-- among the components of a span some are in tile u, counted from f on, where u lies between the tiles of the first and the last
module _ (f k low high u n : ℕ) (pos : 1 ≤ k) (h : low < high) (m : high ≤ n) where
  abbrev meets_tile : ℕ → Bool
  meets_tile a = (leb low a and ltb a high) and eqb (f + a / k) u

  hit : (a : ℕ) → low ≤ a → a < high → f + a / k ≡ u → some meets_tile n ≡ true
  hit a p q e = some_one meets_tile n a (omega arith) (and_true (and_true (le-leb low a p) (lt-ltb a high q)) (eq-eqb (f + a / k) u e))

  pub tiles_between : some (λ a. (leb low a and ltb a high) and eqb (f + a / k) u) n ≡ (leb (f + low / k) u and ltb u (f + (high - 1) / k + 1))
  tiles_between = same_test there back
    where
      there : some meets_tile n ≡ true → (leb (f + low / k) u and ltb u (f + (high - 1) / k + 1)) ≡ true
      there e =
          let r = some_at meets_tile n e in
          let w = both r.2 in
          let w' = both w.0 in
          let a1 : low ≤ r.0 = leb-true low r.0 w'.0 in
          let a2 : r.0 < high = ltb-true r.0 high w'.1 in
          let q : f + r.0 / k ≡ u = eqb-true (f + r.0 / k) u w.1 in
          and_true (le-leb (f + low / k) u (omega (arith, div_le k low r.0 pos a1)))
          (lt-ltb u (f + (high - 1) / k + 1) (omega (arith, div_le k r.0 (high - 1) pos (omega arith))))

      go : f + low / k ≤ u → u < f + (high - 1) / k + 1 → Dec (f + low / k ≡ u) → some meets_tile n ≡ true
      go p q (yes z) = hit low (omega arith) h z
      go p q (no z) =
          let one_more : suc (low / k) ≤ u - f = omega arith in
          let t1 : suc (low / k) * k ≤ (u - f) * k = mul-le-mul_right k one_more in
          let t2 : (u - f) * k ≤ (high - 1) / k * k = mul-le-mul_right k (omega arith) in
          let t3 : (u - f) * k / k ≡ u - f = mul-div_cancel (u - f) pos in
          hit ((u - f) * k) (omega (arith, suc-mul (low / k) k, lt-div-mul-add {a = low} {b = k} pos)) (omega (arith, div-mul-le_self (high - 1) k))
          (omega arith)

      back : (leb (f + low / k) u and ltb u (f + (high - 1) / k + 1)) ≡ true → some meets_tile n ≡ true
      back e =
          let w = both e in
          go (leb-true (f + low / k) u w.0) (ltb-true u (f + (high - 1) / k + 1) w.1) (ℕ_discrete (f + low / k) u)

-- the marks tell the tiles that hold a cell of the first q rows
pub record Counting (x : Nest) (q : ℕ) (marks : List ℕ) : Type 0 where
  pub long : length marks ≡ 16384
  pub marked : (u : ℕ) → ltb 0 (get_or marks u 0) ≡ some (holds x u) (q * length_of x (last x))

module _ (x : Nest) (fr : Framed x) where
  suc_last : suc (last x) ≡ x.dimensions
  suc_last = omega (arith, fr.dimensions_least)

  -- a bound looks at components of the dimensions alone
  pub meets_same : (i k : ℕ → ℕ) → ((j : ℕ) → j < x.dimensions → i j ≡ k j) → (b : ℕ) → b < x.bounds → meets x i b ≡ meets x k b
  unfolding meets level raised
  meets_same i k e b l = rw (e (bounded x b) (fr.bounded_low b l), e (earlier x b) (omega (arith, fr.bounded_low b l, fr.earlier_low b l)))

  -- the first cell of a row is a cell of the box
  pub row_inside : (q : ℕ) (at : List ℕ) → Row x q at → InBox x at
  unfolding cell_place
  row_inside q at r j h = rw (r.first j h) (place_low (length_of x) x.dimensions (q * length_of x (last x)) fr.long j h)

  pub cell_place_row : (q a j : ℕ) → a < length_of x (last x) → j < x.dimensions
      → cell_place x (q * length_of x (last x) + a) j ≡ pick (eqb j (last x)) a (cell_place x (q * length_of x (last x)) j)
  unfolding cell_place
  cell_place_row q a j low h =
      place_in_dims (length_of x) x.dimensions (last x) q a j suc_last low h

  -- cell a of row q is in the shape where the row's place says so
  pub shape_row : (q : ℕ) (at : List ℕ) → Row x q at → (a : ℕ) → a < length_of x (last x) → in_shape x (q * length_of x (last x) + a) ≡ in_row x (spot at) a
  unfolding in_shape meets_first row_place
  shape_row q at r a low =
      every_same (meets x (cell_place x (q * length_of x (last x) + a))) (meets x (row_place x (spot at) a)) x.bounds
      (meets_same (cell_place x (q * length_of x (last x) + a)) (row_place x (spot at) a)
      (λ j h. cell_place_row q a j low h ∙ ap (pick (eqb j (last x)) a) (sym (r.first j h))))

  -- and where the row's span has a
  pub span_row : (q : ℕ) (at : List ℕ) (s : Interval) → Row x q at → Spans x at s → (a : ℕ) → a < length_of x (last x)
      → in_shape x (q * length_of x (last x) + a) ≡ within s a
  span_row q at s r sp a low = shape_row q at r a low ∙ sp.has a low

  row_none : (q : ℕ) (at : List ℕ) (s : Interval) → Row x q at → Spans x at s → s.to ≤ s.from
      → some (λ a. in_shape x (q * length_of x (last x) + a)) (length_of x (last x)) ≡ false
  row_none q at s r sp h =
      some_none _ _ (λ a l. is_false (λ e. let w = both (sym (span_row q at s r sp a l) ∙ e) in let g = leb-true s.from a w.0 in
      let k = ltb-true a s.to w.1 in omega arith))

  next_row : (q : ℕ) → (q + 1) * length_of x (last x) ≡ q * length_of x (last x) + length_of x (last x)
  next_row q = let z : q + 1 ≡ suc q = omega arith in rw z (suc-mul q (length_of x (last x)))

  -- ---- line 20, row after row
  pub rows_none : (q : ℕ) (at : List ℕ) (s : Interval) → Row x q at → Spans x at s → s.to ≤ s.from
      → some (in_shape x) (q * length_of x (last x)) ≡ false → some (in_shape x) ((q + 1) * length_of x (last x)) ≡ false
  unfolding ◌or◌
  rows_none q at s r sp h e =
      rw (next_row q, some_split (in_shape x) (q * length_of x (last x)) (length_of x (last x)), e) (row_none q at s r sp h)

  pub rows_some : (q rows : ℕ) (at : List ℕ) (s : Interval) → Row x q at → Spans x at s → s.from < s.to → q < rows
      → rows * length_of x (last x) ≡ cells x → some (in_shape x) (cells x) ≡ true
  rows_some q rows at s r sp h l e =
      let low : s.from < length_of x (last x) = omega (arith, sp.most) in
      let k : suc q * length_of x (last x) ≤ rows * length_of x (last x) = mul-le-mul_right (length_of x (last x)) l in
      some_one (in_shape x) (cells x) (q * length_of x (last x) + s.from) (omega (arith, suc-mul q (length_of x (last x))))
      (span_row q at s r sp s.from low ∙ and_true (le-leb s.from s.from (omega arith)) (lt-ltb s.from s.to h))

  pub no_row : some (in_shape x) (0 * length_of x (last x)) ≡ false
  unfolding some
  no_row = rw (zero-mul (length_of x (last x)))

  pub rows_end : (q rows : ℕ) → q ≤ rows → rows ≤ q → rows * length_of x (last x) ≡ cells x → some (in_shape x) (q * length_of x (last x)) ≡ false
      → some (in_shape x) (cells x) ≡ false
  rows_end q rows a b e h = let k : q ≡ rows = omega arith in rw (k, e) at h

  pub rows_are : (r : ℕ) → r ≡ product (length_of x) (last x) → r * length_of x (last x) ≡ cells x
  unfolding cells
  rows_are r e = ap (λ (v : ℕ). v * length_of x (last x)) e ∙ product_last (length_of x) x.dimensions (last x) suc_last

  module _ (tiled : Tiled x) where
    pub box_room : box_tiles x < 18446744073709551616
    unfolding box_tiles
    box_room = product_room (tile_count x) x.dimensions fr.dimensions_most (λ i k. tile_small x i (fr.length_wide i) (fr.long i k))

    -- ---- the tiles of a row
    abbrev pub first_tile : List ℕ → ℕ
    first_tile at = tile_at x (λ j. spot at j / tile_length x j)

    pub tile_row : (q : ℕ) (at : List ℕ) → Row x q at → (a : ℕ) → a < length_of x (last x)
        → box_tile_of x (q * length_of x (last x) + a) ≡ first_tile at + a / tile_length x (last x)
    unfolding box_tile_of tile_at
    tile_row q at r a low =
        rank_row (tile_count x) (λ j. cell_place x (q * length_of x (last x) + a) j / tile_length x j) (λ j. spot at j / tile_length x j) x.dimensions (last x)
        suc_last
        (λ j h. ap (λ (v : ℕ). v / tile_length x j) (before j h)) first_zero
        ∙ ap (λ (v : ℕ). rank (tile_count x) (λ j. spot at j / tile_length x j) x.dimensions + v / tile_length x (last x)) at_last
      where
        last_low : last x < x.dimensions
        last_low = omega (arith, fr.dimensions_least)

        before : (j : ℕ) → j < last x → cell_place x (q * length_of x (last x) + a) j ≡ spot at j
        before j h =
            cell_place_row q a j low (omega arith)
            ∙ (pick_false (eqb j (last x)) a _ (ne_eqb j (last x) (λ e. omega arith)) ∙ sym (r.first j (omega arith)))

        at_last : cell_place x (q * length_of x (last x) + a) (last x) ≡ a
        at_last = cell_place_row q a (last x) low last_low ∙ pick_true (eqb (last x) (last x)) a _ (eq-eqb (last x) (last x) refl)

        first_zero : spot at (last x) / tile_length x (last x) ≡ 0
        first_zero =
            let z : q * length_of x (last x) + 0 ≡ q * length_of x (last x) = omega arith in
            let e : cell_place x (q * length_of x (last x)) (last x) ≡ 0 =
            ap (λ (v : ℕ). cell_place x v (last x)) (sym z)
            ∙ (cell_place_row q 0 (last x) (omega arith) last_low ∙ pick_true (eqb (last x) (last x)) 0 _ (eq-eqb (last x) (last x) refl)) in
            ap (λ (v : ℕ). v / tile_length x (last x)) (r.first (last x) last_low ∙ e) ∙ zero-div (tile_length x (last x))

    module _ (q : ℕ) (at : List ℕ) (s : Interval) (r : Row x q at) (sp : Spans x at s) where
      held : (u a : ℕ) → a < length_of x (last x) → holds x u (q * length_of x (last x) + a) ≡ (within s a and eqb (first_tile at + a / tile_length x (last x)) u)
      held u a low = rw (span_row q at s r sp a low, tile_row q at r a low)

      -- the tiles that hold a cell of the row: none, or those from one to another
      pub row_empty : s.to ≤ s.from → (u : ℕ) → some (λ a. holds x u (q * length_of x (last x) + a)) (length_of x (last x)) ≡ false
      row_empty h u =
          some_none _ _ (λ a l. is_false (λ e.
          let w = both (both (sym (held u a l) ∙ e)).0 in
          let g = leb-true s.from a w.0 in
          let k = ltb-true a s.to w.1 in
          omega arith))

      pub row_tiles : s.from < s.to → (u : ℕ) → some (λ a. holds x u (q * length_of x (last x) + a)) (length_of x (last x))
          ≡ (leb (first_tile at + s.from / tile_length x (last x)) u and ltb u (first_tile at + (s.to - 1) / tile_length x (last x) + 1))
      row_tiles h u =
          some_same _ _ (length_of x (last x)) (held u)
          ∙ tiles_between (first_tile at) (tile_length x (last x)) s.from s.to u (length_of x (last x))
          (tiled (last x) (omega (arith, fr.dimensions_least))) h sp.most

      -- the last of them is a tile of the box
      pub row_room : s.from < s.to → first_tile at + (s.to - 1) / tile_length x (last x) + 1 ≤ box_tiles x
      row_room h =
          let low : s.to - 1 < length_of x (last x) = omega (arith, sp.most) in
          omega (arith, box_tile_of_low x fr.long tiled (q * length_of x (last x) + (s.to - 1)), tile_row q at r (s.to - 1) low)

      pub row_start : s.from < s.to
          → first_tile at + s.from / tile_length x (last x) < first_tile at + (s.to - 1) / tile_length x (last x) + 1
      row_start h = omega (arith, div_le (tile_length x (last x)) s.from (s.to - 1) (tiled (last x) (omega (arith, fr.dimensions_least))) (omega arith))

      pub marked_none : (marks : List ℕ) → s.to ≤ s.from → RowMarked x q marks marks
      marked_none marks h = record { long = refl; marks = λ u. or_none _ _ (row_empty h u) }

      pub marked_row : (marks after : List ℕ) → s.from < s.to
          → Marked marks (first_tile at + s.from / tile_length x (last x)) (first_tile at + (s.to - 1) / tile_length x (last x) + 1) after
          → RowMarked x q marks after
      marked_row marks after h m =
          record {
            long = m.long;
            marks = λ u. go u (dec_le (first_tile at + s.from / tile_length x (last x)) u) (dec_lt u (first_tile at + (s.to - 1) / tile_length x (last x) + 1));
          }
        where
          none : (u : ℕ) → (u < first_tile at + s.from / tile_length x (last x)) ⊎ (first_tile at + (s.to - 1) / tile_length x (last x) + 1 ≤ u)
              → (leb (first_tile at + s.from / tile_length x (last x)) u and ltb u (first_tile at + (s.to - 1) / tile_length x (last x) + 1)) ≡ false
              → ltb 0 (get_or after u 0) ≡ (ltb 0 (get_or marks u 0) or some (λ a. holds x u (q * length_of x (last x) + a)) (length_of x (last x)))
          none u o e = ap (ltb 0) (m.others u o) ∙ or_none _ _ (row_tiles h u ∙ e)

          go : (u : ℕ) → Dec (first_tile at + s.from / tile_length x (last x) ≤ u) → Dec (u < first_tile at + (s.to - 1) / tile_length x (last x) + 1)
              → ltb 0 (get_or after u 0) ≡ (ltb 0 (get_or marks u 0) or some (λ a. holds x u (q * length_of x (last x) + a)) (length_of x (last x)))
          go u (yes a) (yes b) =
              ap (ltb 0) (m.marks u a b)
              ∙ (lt-ltb 0 1 (omega arith) ∙ sym (or_right _ (row_tiles h u ∙ and_true (le-leb _ u a) (lt-ltb u _ b))))
          go u (no a) b = none u (inl (omega arith)) (and_false _ _ (lt-leb _ u (omega arith)))
          go u (yes a) (no b) = none u (inr (omega arith)) (and_no _ _ (le-ltb u _ (omega arith)))

      -- the same where the first tile, and the tiles along the row, are told
      module _ (first a b : ℕ) (e : first ≡ first_tile at) (f : a ≡ s.from / tile_length x (last x)) (g : b ≡ (s.to - 1) / tile_length x (last x))
          (h : s.from < s.to) where
        pub told_order : first + a < first + b + 1
        told_order = omega (arith, e, f, g, row_start h)

        pub told_room : first + b + 1 ≤ box_tiles x
        told_room = omega (arith, e, g, row_room h)

        pub told_fits : first + b + 1 < 18446744073709551616
        told_fits = omega (arith, told_room, box_room)

        pub marked_row_by : (marks after : List ℕ) → Marked marks (first + a) (first + b + 1) after → RowMarked x q marks after
        marked_row_by marks after m = marked_row marks after h (rw (e, f, g) at m)

      -- the ends of the span are components
      pub row_ends : s.from < s.to → (s.from < 1024) × (s.to - 1 < 1024)
      row_ends h = let m = fr.length_most (last x) (omega (arith, fr.dimensions_least)) in (omega (arith, sp.most, m), omega (arith, sp.most, m))

    -- ---- line 8, row after row
    no_cells : (u : ℕ) → some (holds x u) (0 * length_of x (last x)) ≡ false
    unfolding some
    no_cells u = rw (zero-mul (length_of x (last x)))

    pub counting_start : Counting x 0 (replicate 16384 0)
    counting_start = record { long = length-replicate {A = ℕ} 16384 0; marked = λ u. le-ltb 0 _ (zeros 16384 u) ∙ sym (no_cells u) }

    pub counting_next : (q : ℕ) (before after : List ℕ) → Counting x q before → RowMarked x q before after → Counting x (q + 1) after
    counting_next q before after c m =
        record {
          long = m.long ∙ c.long;
          marked = λ u.
              rw (next_row q, some_split (holds x u) (q * length_of x (last x)) (length_of x (last x)), ← c.marked u) (m.marks u);
        }

    pub counting_end : (q rows n : ℕ) (marks : List ℕ) → Counting x q marks → q ≤ rows → rows ≤ q → rows * length_of x (last x) ≡ cells x → n ≡ box_tiles x
        → length (keep (λ u. ltb 0 (get_or marks u 0)) n) ≡ tiles x
    unfolding tiles existing exists
    counting_end q rows n marks c a b e z =
        let k : q ≡ rows = omega arith in
        rw z (ap length (keep_same (λ u. ltb 0 (get_or marks u 0)) (λ u. some (holds x u) (cells x)) (box_tiles x)
        (λ u l. c.marked u ∙ ap (some (holds x u)) (ap (λ (v : ℕ). v * length_of x (last x)) k ∙ e))))

    -- a row that there is starts at a cell
    pub row_low : (q rows : ℕ) → q < rows → rows * length_of x (last x) ≡ cells x → q * length_of x (last x) < cells x
    row_low q rows h e =
        omega (arith, mul-le-mul_right (length_of x (last x)) h, suc-mul q (length_of x (last x)), fr.long (last x) (omega (arith, fr.dimensions_least)))

-- ---- line 8: few tiles in the box are few; without bounds all of them count; else those counted

module _ (x : Nest) where
  pub few_in_box : (p : ℕ) → p ≡ box_tiles x → p ≤ 1024 → too_many_tiles x ≡ false
  unfolding too_many_tiles
  few_in_box p e h = le-ltb 1024 (tiles x) (omega (arith, tiles_few x))

  pub many_in_box : Positive (length_of x) x.dimensions → Tiled x → (p : ℕ) → p ≡ box_tiles x → 1024 < p → x.bounds ≡ 0 → too_many_tiles x ≡ true
  unfolding too_many_tiles
  many_in_box long tiled p e h z = lt-ltb 1024 (tiles x) (omega (arith, unbounded_tiles x long tiled z))

  pub counted_tiles : (p : ℕ) → p ≡ tiles x → ltb 1024 p ≡ too_many_tiles x
  unfolding too_many_tiles
  counted_tiles p e = ap (ltb 1024) e

-- ---- what an accepted nest gives to rows

pub framed : (x : Nest) → Accepted x → Framed x
framed x ok =
    record {
      dimensions_least = omega (arith, ok.dimensions_least);
      dimensions_most = ok.dimensions_most;
      bounds_most = ok.bounds_most;
      long = ok.long;
      length_most = λ j l. ok.length_most j;
      length_wide = λ j. omega (arith, ok.length_most j);
      tile_wide = λ j. omega (arith, ok.tile_most j);
      bounded_low = ok.bounded_low;
      earlier_low = ok.earlier_low;
      slope_most = ok.slope_most;
      offset_most = ok.offset_most;
    }

-- without bounds all tiles of the box hold a cell, and so the numbers of tiles are the box's
pub no_bounds_existing : (x : Nest) → Accepted x → x.bounds ≡ 0 → existing x ≡ tabulate (λ u. u) (box_tiles x)
no_bounds_existing x ok z = unbounded_existing x ok.long ok.tiled z

pub no_bounds_tiles : (x : Nest) → Accepted x → x.bounds ≡ 0 → tiles x ≡ box_tiles x
no_bounds_tiles x ok z = unbounded_tiles x ok.long ok.tiled z

pub box_tiles_most : (x : Nest) → Accepted x → box_tiles x ≤ 16384
box_tiles_most x ok = omega (arith, box_few x ok.long ok.tiled, ok.cells_most)
