-- The rows of a box: where they stand, four of them together, and that all of them are the tile's cells, or the nest's.
use Prim.Native.Nat.{ℕ, zero, suc, ◌+◌, ◌*◌, ◌-◌, ◌≤◌, ◌<◌}
use mathlib.Core.Path.{◌≡◌, refl, sym, ap, ◌∙◌}
use mathlib.Core.Logic.{◌⊎◌, inl, inr, ◌≢◌}
use mathlib.Core.List.{List, ◌++◌, append_assoc, append-nil}
use native.Mathlib.Nat.{eq-or-lt_of_le, le_of_suc-le-suc, add_assoc, add-zero, add-mul, zero-mul, mul-div_cancel, mul-mod_left}
use native.Mathlib.Numerals.{add-one}
use native.Mathlib.Decide.{dec_lt, ℕ_discrete}
use native.Mathlib.Omega.{arith}
use lib.ListN.{length, get_or, set, length-set}
use lib.Seq.{get_or-set_same, get_or-set_other}
use lib.Dec.{leb}
use borrow.Author.Tests.{leb-true, le-leb}
use Rattle.base.specs.Tests.{product}
use Rattle.base.proofs.Tests.{every_at, every_all}
use Rattle.base.specs.Lists.{store_all}
use Rattle.base.proofs.Lists.{store_length}
use Rattle.nest.specs.declared.Nest.{Nest}
use Rattle.nest.specs.Accepted.{Accepted}
use Rattle.nest.specs.Nest.{length_of, cells, box_tiles}
use Rattle.nest.specs.Places.{rank, place, cell_at, cell_place, tile_place}
use Rattle.nest.proofs.Rank.{place_last, place_before, place_beyond, place_lengths, rank_low, rank_same, place_rank, rank_place}
use Rattle.nest.proofs.Boxes.{product_most}
use Rattle.plan.specs.Geometry.{cells_of, value}
use Rattle.plan.specs.declared.Route.TheVariants.{Direct}
use Rattle.plan.specs.Messages.{box_plan}
use Rattle.plan.specs.Box.{box_length, box_place, box_cell}
use Rattle.plan.proofs.Sound.{box_sound}
use Rattle.plan.proofs.Tiles.{tile_inside, tile_place_low}
use Rattle.machine.specs.Machine.{sweep}
use Rattle.layout.specs.declared.Bounds.{Bounds}
use Rattle.layout.specs.Places.{nth, Countable, Ranked, Places, Placed, Inside, Follows, Located, Bounded}
use Rattle.layout.specs.CellRows.{row_of}
use Rattle.layout.proofs.Cells.{zeros, box_places, lengths_countable, lengths_places}
use Rattle.layout.proofs.CellRows.{row_before, row_last, box_all, fewer}
use Rattle.layout.proofs.Advance.{rows_places, placed_inside}
use Rattle.bands.specs.lagged.Bands.{four, rows_of, Spaced}
use Rattle.values.specs.row_values.Waves.{Inner, Inners, Fours}
use Rattle.values.specs.row_values.Boxes.{Boxed, row_at, Standing, Stored}
use Rattle.bands.proofs.lagged.Waves.{each_four}
use Rattle.kernels.proofs.Orders.{store_append}
use Rattle.values.proofs.row_values.Stores.{Calculating, calculating_none, calculating_turn, calculated, Sweeping, sweeping_none}
use Rattle.values.proofs.row_values.Stores.{sweeping_turn, sweep_all, sweep_in, swept}

-- ---- lists of rows

module _ (c e : ℕ → ℕ) (w : ℕ) where
  rows_same : (n : ℕ) → ((k : ℕ) → k < n → c k ≡ e k) → rows_of c w n ≡ rows_of e w n
  unfolding rows_of
  rows_same zero h = refl
  rows_same (suc n) h = rw (rows_same n (λ k l. h k (omega arith)), h n (omega arith))

rows_add : (c : ℕ → ℕ) (w m n : ℕ) → rows_of c w (m + n) ≡ rows_of c w m ++ rows_of (λ k. c (m + k)) w n
unfolding rows_of
rows_add c w m zero = rw (add-zero m) (sym (append-nil (rows_of c w m)))
rows_add c w m (suc n) =
    let z : m + suc n ≡ suc (m + n) = omega arith in
    rw (z, rows_add c w m n) (append_assoc (rows_of c w m) (rows_of (λ k. c (m + k)) w n) (row_of (c (m + n)) w))

-- ---- a cell by its place, and a place moved along one dimension

pub located_at : (x : Nest) (at : List ℕ) → ((j : ℕ) → j < x.dimensions → get_or at j 0 < get_or x.lengths j 0) → (n : ℕ)
    → n ≡ rank (nth x.lengths) (nth at) x.dimensions → Located x n (record { number = n; place = at })
unfolding cell_place cells
located_at x at low n e =
    record {
      low = rw e (rank_low (length_of x) (nth at) x.dimensions low);
      number = refl;
      place = record { each = λ j h. rw e (sym (place_rank (length_of x) (nth at) x.dimensions low j h)) };
    }

abbrev pub moved : List ℕ → ℕ → ℕ → List ℕ
moved at j k = set at j (get_or at j 0 + k)

rank_moved : (N i m : ℕ → ℕ) (d k : ℕ) → 1 ≤ d - 1 → ((j : ℕ) → j < d → j ≢ d - 1 - 1 → m j ≡ i j) → m (d - 1 - 1) ≡ i (d - 1 - 1) + k
    → rank N m d ≡ rank N i d + k * N (d - 1)
unfolding rank
rank_moved N i m zero k h same more = absurd (omega arith)
rank_moved N i m (suc zero) k h same more = absurd (omega arith)
rank_moved N i m (suc (suc l)) k h same more =
    let z : suc (suc l) - 1 ≡ suc l = omega arith in
    let y : suc l - 1 ≡ l = omega arith in
    let more' : m l ≡ i l + k = rw (z, y) at more in
    let front : rank N m l ≡ rank N i l = rank_same N m i l (λ j q. same j (omega arith) (λ e. omega arith)) in
    let last : m (suc l) ≡ i (suc l) = same (suc l) (omega arith) (λ e. omega arith) in
    let sums : rank N m l * N l + m l ≡ rank N i l * N l + i l + k = rw front (omega (arith, more')) in
    rw (z, sums, last) (omega (arith, add-mul (rank N i l * N l + i l) k (N (suc l))))

module _ (N from at : List ℕ) (left r k : ℕ) (f : 1 ≤ left) (long : left ≤ length at) (p : Placed N from r left at)
    (h : get_or at (left - 1) 0 + k < get_or from (left - 1) 0 + get_or N (left - 1) 0) where
  other : (j : ℕ) → j ≢ left - 1 → get_or (moved at (left - 1) k) j 0 ≡ get_or at j 0
  other j q = get_or-set_other at (left - 1) j (get_or at (left - 1) 0 + k) 0 q

  room : place (nth N) left r (left - 1) + k < get_or N (left - 1) 0
  room = omega (arith, p.first (left - 1) (omega arith))

  placed_moved : Placed N from (r + k) left (moved at (left - 1) k)
  placed_moved = record { first = λ j l. go j (eq-or-lt_of_le (low j l)); rest = λ j l. other j (λ e. omega arith) ∙ p.rest j l }
    where
      low : (j : ℕ) → j < left → j ≤ left - 1
      low j l = omega arith

      go : (j : ℕ) → (j ≡ left - 1) ⊎ (j < left - 1) → get_or (moved at (left - 1) k) j 0 ≡ get_or from j 0 + place (nth N) left (r + k) j
      go j (inl e) =
          rw e
          (omega
          (arith, get_or-set_same at (left - 1) (get_or at (left - 1) 0 + k) 0 (omega arith), p.first (left - 1) (omega arith), row_last (nth N) left r k f room))
      go j (inr l) =
          other j (λ e. omega arith)
          ∙ p.first j (omega arith)
          ∙ ap (λ (a : ℕ). get_or from j 0 + a) (sym (row_before (nth N) left r k f room j l))

-- ---- where a row stands

module _ (x : Nest) (ok : Accepted x) (N from : List ℕ) (b : Boxed x N from) where
  pub rows_box : Places N from (x.dimensions - 1)
  rows_box = rows_places x ok N from b.places

  pub wide : (1 ≤ get_or N (x.dimensions - 1) 0) × (get_or N (x.dimensions - 1) 0 ≤ get_or x.lengths (x.dimensions - 1) 0)
  wide = (
    b.places.positive (x.dimensions - 1) (omega (arith, ok.dimensions_least)),
    omega (arith, b.within (x.dimensions - 1) (omega (arith, ok.dimensions_least))),
  )

  pub box_countable : Countable N (x.dimensions - 1)
  box_countable =
      record {
        low = rows_box.low;
        positive = rows_box.positive;
        few = omega (
          arith,
          product_most (nth N) (nth x.lengths) (x.dimensions - 1) (λ j h. omega (arith, b.within j (omega arith))),
          (fewer x ok x.lengths (lengths_countable x ok)).few,
        );
      }

  module _ (r : ℕ) (at : List ℕ) (s : Standing x N from r at) where
    pub row_inside : Places N from (x.dimensions - 1) × Inside N from (x.dimensions - 1) at
    row_inside = (rows_box, placed_inside N from at r (x.dimensions - 1) rows_box s.is)

    here : (j : ℕ) → j < x.dimensions → get_or at j 0 ≡ get_or from j 0 + place (nth N) (x.dimensions - 1) r j
    here j h = go (dec_lt j (x.dimensions - 1))
      where
        go : Dec (j < x.dimensions - 1) → get_or at j 0 ≡ get_or from j 0 + place (nth N) (x.dimensions - 1) r j
        go (yes k) = s.is.first j k
        go (no k) = omega (arith, s.is.rest j (omega arith), place_beyond (nth N) (x.dimensions - 1) r j (omega arith))

    pub row_low : (j : ℕ) → j < x.dimensions → get_or at j 0 < get_or x.lengths j 0
    row_low j h = go (dec_lt j (x.dimensions - 1))
      where
        go : Dec (j < x.dimensions - 1) → get_or at j 0 < get_or x.lengths j 0
        go (yes k) = omega (arith, row_inside.1.each j k, b.within j h)
        go (no k) = omega (arith, s.is.rest j (omega arith), b.within j h, b.places.positive j h)

    pub row_ranked : Ranked x.lengths at x.dimensions
    row_ranked = record { counts = lengths_countable x ok; at_most = λ j h. omega (arith, row_low j h) }

    pub row_number : rank (nth x.lengths) (nth at) x.dimensions ≡ row_at x N from r
    unfolding row_at
    row_number = rank_same (nth x.lengths) (nth at) _ x.dimensions here

    pub row_column : get_or at (x.dimensions - 1) 0 ≡ get_or from (x.dimensions - 1) 0
    row_column = s.is.rest (x.dimensions - 1) (omega arith)

    pub row_fits : get_or at (x.dimensions - 1) 0 + get_or N (x.dimensions - 1) 0 ≤ get_or x.lengths (x.dimensions - 1) 0
    row_fits = omega (arith, row_column, b.within (x.dimensions - 1) (omega (arith, ok.dimensions_least)))

    pub row_located : (n : ℕ) → n ≡ rank (nth x.lengths) (nth at) x.dimensions → Located x n (record { number = n; place = at })
    row_located = located_at x at row_low

    -- ---- the three rows after it, along the last dimension but one

    module _ (two : 1 ≤ x.dimensions - 1) (h : get_or at (x.dimensions - 1 - 1) 0 + 3 < get_or from (x.dimensions - 1 - 1) 0 + get_or N (x.dimensions - 1 - 1) 0)
        (a : ℕ) (e : a ≡ rank (nth x.lengths) (nth at) x.dimensions) where
      short : x.dimensions - 1 ≤ length at
      short = omega (arith, ok.dimensions_most, s.long)

      pub standing_moved : (k : ℕ) → k ≤ 3 → Standing x N from (r + k) (moved at (x.dimensions - 1 - 1) k)
      standing_moved k l =
          record {
            long = length-set at (x.dimensions - 1 - 1) (get_or at (x.dimensions - 1 - 1) 0 + k) ∙ s.long;
            is = placed_moved N from at (x.dimensions - 1) r k two short s.is (omega arith);
          }

      kept : (j k : ℕ) → j ≢ x.dimensions - 1 - 1 → get_or (moved at (x.dimensions - 1 - 1) k) j 0 ≡ get_or at j 0
      kept j k q = get_or-set_other at (x.dimensions - 1 - 1) j (get_or at (x.dimensions - 1 - 1) 0 + k) 0 q

      here_moved : (k : ℕ) → get_or (moved at (x.dimensions - 1 - 1) k) (x.dimensions - 1 - 1) 0 ≡ get_or at (x.dimensions - 1 - 1) 0 + k
      here_moved k = get_or-set_same at (x.dimensions - 1 - 1) (get_or at (x.dimensions - 1 - 1) 0 + k) 0 (omega (arith, short))

      pub number_moved : (k n : ℕ) → n ≡ a + k * get_or x.lengths (x.dimensions - 1) 0
          → n ≡ rank (nth x.lengths) (nth (moved at (x.dimensions - 1 - 1) k)) x.dimensions
      number_moved k n q =
          omega
          (arith, rank_moved (nth x.lengths) (nth at) (nth (moved at (x.dimensions - 1 - 1) k)) x.dimensions k two (λ j i o. kept j k o) (here_moved k))

      low_moved : (k : ℕ) → k ≤ 3 → (j : ℕ) → j < x.dimensions → get_or (moved at (x.dimensions - 1 - 1) k) j 0 < get_or x.lengths j 0
      low_moved k l j i = go (ℕ_discrete j (x.dimensions - 1 - 1))
        where
          go : Dec (j ≡ x.dimensions - 1 - 1) → get_or (moved at (x.dimensions - 1 - 1) k) j 0 < get_or x.lengths j 0
          go (yes q) = rw q (omega (arith, here_moved k, b.within (x.dimensions - 1 - 1) (omega (arith, ok.dimensions_least))))
          go (no q) = omega (arith, kept j k q, row_low j i)

      located_moved : (k n : ℕ) → k ≤ 3 → n ≡ a + k * get_or x.lengths (x.dimensions - 1) 0
          → Located x n (record { number = n; place = moved at (x.dimensions - 1 - 1) k })
      located_moved k n l q = located_at x (moved at (x.dimensions - 1 - 1) k) (low_moved k l) n (number_moved k n q)

      at_moved : (k : ℕ) → k ≤ 3 → rank (nth x.lengths) (nth (moved at (x.dimensions - 1 - 1) k)) x.dimensions ≡ row_at x N from (r + k)
      unfolding row_at
      at_moved k l = rank_same (nth x.lengths) (nth (moved at (x.dimensions - 1 - 1) k)) _ x.dimensions (λ j i. go j (dec_lt j (x.dimensions - 1)))
        where
          go : (j : ℕ) → Dec (j < x.dimensions - 1) → get_or (moved at (x.dimensions - 1 - 1) k) j 0 ≡ get_or from j 0 + place (nth N) (x.dimensions - 1)
              (r + k) j
          go j (yes q) = (standing_moved k l).is.first j q
          go j (no q) = omega (arith, (standing_moved k l).is.rest j (omega arith), place_beyond (nth N) (x.dimensions - 1) (r + k) j (omega arith))

      same_column : (k : ℕ) → get_or (moved at (x.dimensions - 1 - 1) k) (x.dimensions - 1) 0 ≡ get_or at (x.dimensions - 1) 0
      same_column k = kept (x.dimensions - 1) k (λ q. omega arith)

      module _ (b₁ b₂ b₃ : ℕ) (e₁ : b₁ ≡ a + get_or x.lengths (x.dimensions - 1) 0) (e₂ : b₂ ≡ b₁ + get_or x.lengths (x.dimensions - 1) 0)
          (e₃ : b₃ ≡ b₂ + get_or x.lengths (x.dimensions - 1) 0) where
        pub box_fours : Fours x (record { number = a; place = at }) (record { number = b₁; place = moved at (x.dimensions - 1 - 1) 1 })
            (record { number = b₂; place = moved at (x.dimensions - 1 - 1) 2 }) (record { number = b₃; place = moved at (x.dimensions - 1 - 1) 3 })
            (get_or N (x.dimensions - 1) 0)
        box_fours =
            record {
              one = row_located a e;
              two = located_moved 1 b₁ (omega arith) (omega arith);
              three = located_moved 2 b₂ (omega arith) (omega arith);
              fourth = located_moved 3 b₃ (omega arith) (omega arith);
              same_two = same_column 1;
              same_three = same_column 2;
              same_fourth = same_column 3;
              fits = row_fits;
              then_two = omega (arith, wide.1);
              then_three = omega (arith, wide.1);
              then_fourth = omega (arith, wide.1);
            }

        pub box_spaced : Spaced a b₁ b₂ b₃
        box_spaced = (omega arith, omega arith)

        same_rows : (k : ℕ) → k < 4 → four a b₁ b₂ b₃ k ≡ row_at x N from (r + k)
        same_rows = each_four (λ k. four a b₁ b₂ b₃ k ≡ row_at x N from (r + k))
            (let z : r + 0 ≡ r = omega arith in rw z (e ∙ row_number))
            (number_moved 1 b₁ (omega arith) ∙ at_moved 1 (omega arith))
            (number_moved 2 b₂ (omega arith) ∙ at_moved 2 (omega arith))
            (number_moved 3 b₃ (omega arith) ∙ at_moved 3 (omega arith))

        pub stored_four : (source m m' at' : List ℕ) → m' ≡ store_all (value x source) m (rows_of (four a b₁ b₂ b₃) (get_or N (x.dimensions - 1) 0) 4)
            → length at' ≡ 4 → Follows N from (x.dimensions - 1) (moved at (x.dimensions - 1 - 1) 3) at' → Stored x source N from m m' at' r 4
        stored_four source m m' at' q long f =
            let z : r + 3 + 1 ≡ r + 4 = omega arith in
            record {
              is = q ∙ ap (store_all (value x source) m) (rows_same (four a b₁ b₂ b₃) (λ k. row_at x N from (r + k)) (get_or N (x.dimensions - 1) 0) 4 same_rows);
              after = record { long = long; is = rw z at (f.next (r + 3) (standing_moved 3 (omega arith)).is) };
            }

      pub inners : (margin : List ℕ) → Inner margin at (x.dimensions - 1)
          → Inners margin at (moved at (x.dimensions - 1 - 1) 1) (moved at (x.dimensions - 1 - 1) 2) (moved at (x.dimensions - 1 - 1) 3) (x.dimensions - 1)
      inners margin i = record { one = i; two = each 1; three = each 2; fourth = each 3 }
        where
          each : (k : ℕ) → Inner margin (moved at (x.dimensions - 1 - 1) k) (x.dimensions - 1)
          each k =
              every_all (λ j. leb (get_or margin j 0) (get_or (moved at (x.dimensions - 1 - 1) k) j 0)) (x.dimensions - 1)
              (λ j q. le-leb (get_or margin j 0) (get_or (moved at (x.dimensions - 1 - 1) k) j 0) (go j q (ℕ_discrete j (x.dimensions - 1 - 1))))
            where
              at_least : (j : ℕ) → j < x.dimensions - 1 → get_or margin j 0 ≤ get_or at j 0
              at_least j q = leb-true (get_or margin j 0) (get_or at j 0) (every_at (λ j. leb (get_or margin j 0) (get_or at j 0)) (x.dimensions - 1) i j q)

              go : (j : ℕ) → j < x.dimensions - 1 → Dec (j ≡ x.dimensions - 1 - 1) → get_or margin j 0 ≤ get_or (moved at (x.dimensions - 1 - 1) k) j 0
              go j q (yes o) = rw o (omega (arith, here_moved k, at_least (x.dimensions - 1 - 1) (omega arith)))
              go j q (no o) = omega (arith, kept j k o, at_least j q)

-- ---- rows that have their values

module _ (x : Nest) (source N from : List ℕ) where
  pub stored_long : (m m' at : List ℕ) (r n : ℕ) → Stored x source N from m m' at r n → length m' ≡ length m
  stored_long m m' at r n s = ap length s.is ∙ store_length (value x source) _ m

  pub stored_none : (m at : List ℕ) (r : ℕ) → Standing x N from r at → Stored x source N from m m at r 0
  unfolding rows_of store_all
  stored_none m at r s = record { is = refl; after = let z : r + 0 ≡ r = omega arith in rw z s }

  pub stored_more : (m m₁ m₂ at at₂ : List ℕ) (r n k : ℕ) → Stored x source N from m m₁ at r n → Stored x source N from m₁ m₂ at₂ (r + n) k
      → Stored x source N from m m₂ at₂ r (n + k)
  stored_more m m₁ m₂ at at₂ r n k s t =
      record {
        is = t.is
            ∙ ap (λ (z : List ℕ). store_all (value x source) z (rows_of (λ i. row_at x N from (r + n + i)) (get_or N (x.dimensions - 1) 0) k)) s.is
            ∙ ap (λ (z : List ℕ). store_all (value x source) (store_all (value x source) m (rows_of (λ i. row_at x N from (r + i)) (get_or N (x.dimensions - 1) 0)
            n)) z)
            (rows_same (λ i. row_at x N from (r + n + i)) (λ i. row_at x N from (r + (n + i))) (get_or N (x.dimensions - 1) 0) k
            (λ i l. ap (row_at x N from) (add_assoc r n i)))
            ∙ sym (store_append (value x source) m (rows_of (λ i. row_at x N from (r + i)) (get_or N (x.dimensions - 1) 0) n) _)
            ∙ ap (store_all (value x source) m) (sym (rows_add (λ i. row_at x N from (r + i)) (get_or N (x.dimensions - 1) 0) n k));
        after = rw (add_assoc r n k) at t.after;
      }

  pub stored_one : (m m' at at' : List ℕ) (r c : ℕ) → Standing x N from r at → c ≡ row_at x N from r
      → m' ≡ store_all (value x source) m (row_of c (get_or N (x.dimensions - 1) 0)) → length at' ≡ 4 → Follows N from (x.dimensions - 1) at at'
      → Stored x source N from m m' at' r 1
  unfolding rows_of
  stored_one m m' at at' r c s e q long f =
      let z : r + 0 ≡ r = omega arith in
      record {
        is = q ∙ ap (λ (a : ℕ). store_all (value x source) m (row_of a (get_or N (x.dimensions - 1) 0))) (e ∙ ap (row_at x N from) (sym z));
        after = record { long = long; is = f.next r s.is };
      }

-- ---- all rows

place_row : (N : ℕ → ℕ) (d r j : ℕ) → 1 ≤ d → 1 ≤ N (d - 1) → j < d → place N (d - 1) r j ≡ place N d (r * N (d - 1)) j
place_row N zero r j p h k = absurd (omega arith)
place_row N (suc l) r j p h k = let z : suc l - 1 ≡ l = omega arith in rw z (go (rw z at h) (eq-or-lt_of_le (le_of_suc-le-suc k)))
  where
    go : 1 ≤ N l → (j ≡ l) ⊎ (j < l) → place N l r j ≡ place N (suc l) (r * N l) j
    go w (inl e) = rw e (place_beyond N l r l (omega arith) ∙ sym (place_last N l (r * N l) ∙ mul-mod_left r (N l)))
    go w (inr i) = ap (λ (a : ℕ). place N l a j) (sym (mul-div_cancel r {n = N l} w)) ∙ sym (place_before N l (r * N l) j i)

-- all rows of the box, from its first on
pub stored_all : (x : Nest) (source N from m m' at : List ℕ) (n rows : ℕ) → Stored x source N from m m' at 0 n → n ≡ rows
    → m' ≡ store_all (value x source) m (rows_of (row_at x N from) (get_or N (x.dimensions - 1) 0) rows)
stored_all x source N from m m' at n rows s e =
    rw (← e)
    (s.is
    ∙ ap (store_all (value x source) m)
    (rows_same (λ k. row_at x N from (0 + k)) (row_at x N from) (get_or N (x.dimensions - 1) 0) n (λ k l. ap (row_at x N from) {x = 0 + k} {y = k} (omega arith))))

-- those of a tile's box are the tile's cells
module _ (x : Nest) (ok : Accepted x) (b : Bounds) (is : Bounded x b) where
  pub tile_boxed : Boxed x b.lengths b.corner
  unfolding box_length
  tile_boxed =
      record {
        places = box_places x ok b is 0;
        within = λ j h. omega (
          arith,
          is.lengths.each j h,
          is.corner.each j h,
          tile_inside x ok (tile_place x b.tile j) j h (tile_place_low x ok b.tile j h),
        );
      }

  row_cell : (r : ℕ) → row_at x b.lengths b.corner r ≡ box_cell x b.tile (r * get_or b.lengths (x.dimensions - 1) 0)
  unfolding row_at box_cell cell_at box_place
  row_cell r =
      rank_same (length_of x) _ _ x.dimensions
      (λ j h. omega (
        arith,
        is.corner.each j h,
        place_row (nth b.lengths) x.dimensions r j (omega arith) ((box_places x ok b is 0).positive (x.dimensions - 1) (omega arith)) h,
        place_lengths (nth b.lengths) (box_length x b.tile) x.dimensions (r * get_or b.lengths (x.dimensions - 1) 0) j is.lengths.each,
      ))

  module _ (t : ℕ) (same : b.tile ≡ t) (source m : List ℕ) where
    tile_rows : (n : ℕ) → n ≤ product (nth b.lengths) (x.dimensions - 1)
        → Calculating x t source m (store_all (value x source) m (rows_of (row_at x b.lengths b.corner) (get_or b.lengths (x.dimensions - 1) 0) n))
        (n * get_or b.lengths (x.dimensions - 1) 0)
    unfolding rows_of store_all
    tile_rows zero h = rw (zero-mul (get_or b.lengths (x.dimensions - 1) 0)) (calculating_none x t source m)
    tile_rows (suc n) h =
        rw (store_append (value x source) m (rows_of (row_at x b.lengths b.corner) (get_or b.lengths (x.dimensions - 1) 0) n) _)
        (rw (add-one n) at
        (calculating_turn x ok b is t same source m _ n (product (nth b.lengths) (x.dimensions - 1)) (get_or b.lengths (x.dimensions - 1) 0) refl refl
        (tile_rows n (omega arith)) (omega arith) _ (row_at x b.lengths b.corner n) (row_cell n) refl))

    pub tile_stored : t < box_tiles x → (m' : List ℕ)
        → m' ≡ store_all (value x source) m (rows_of (row_at x b.lengths b.corner) (get_or b.lengths (x.dimensions - 1) 0)
        (product (nth b.lengths) (x.dimensions - 1)))
        → m' ≡ store_all (value x source) m (cells_of x t)
    tile_stored l m' e =
        e
        ∙ calculated x ok b is t same source m _ _ (tile_rows (product (nth b.lengths) (x.dimensions - 1)) (omega arith)) l
        (omega (arith, box_all x ok b is 0 (product (nth b.lengths) (x.dimensions - 1)) (get_or b.lengths (x.dimensions - 1) 0) refl refl))

-- those of the whole grid are the sweep
module _ (x : Nest) (ok : Accepted x) where
  pub grid_boxed : Boxed x x.lengths (Rattle.layout.proofs.Cells.four 0)
  grid_boxed = record { places = lengths_places x ok; within = λ j h. omega (arith, zeros j) }

  grid_row : (r : ℕ) → r < product (nth x.lengths) (x.dimensions - 1)
      → row_at x x.lengths (Rattle.layout.proofs.Cells.four 0) r ≡ r * get_or x.lengths (x.dimensions - 1) 0
  unfolding row_at cells
  grid_row r h =
      rank_same (length_of x) _ (place (length_of x) x.dimensions (r * get_or x.lengths (x.dimensions - 1) 0)) x.dimensions
      (λ j k. omega (
        arith,
        zeros j,
        place_row (nth x.lengths) x.dimensions r j (omega arith) (ok.long (x.dimensions - 1) (omega arith)) k,
      ))
      ∙ rank_place (length_of x) x.dimensions (r * get_or x.lengths (x.dimensions - 1) 0) ok.long
      (let q = sweep_in x ok r (product (nth x.lengths) (x.dimensions - 1)) (get_or x.lengths (x.dimensions - 1) 0) refl refl h in
      omega (arith, q.0, q.1))

  module _ (source grid : List ℕ) (long : length grid ≡ cells x) where
    grid_rows : (n : ℕ) → n ≤ product (nth x.lengths) (x.dimensions - 1)
        → Sweeping x source grid
        (store_all (value x source) grid (rows_of (row_at x x.lengths (Rattle.layout.proofs.Cells.four 0)) (get_or x.lengths (x.dimensions - 1) 0) n))
        (n * get_or x.lengths (x.dimensions - 1) 0)
    unfolding rows_of store_all
    grid_rows zero h = rw (zero-mul (get_or x.lengths (x.dimensions - 1) 0)) (sweeping_none x source grid)
    grid_rows (suc n) h =
        rw (
          store_append (value x source) grid (rows_of (row_at x x.lengths (Rattle.layout.proofs.Cells.four 0)) (get_or x.lengths (x.dimensions - 1) 0) n) _,
          grid_row n (omega arith),
        )
        (rw (add-one n) at
        (sweeping_turn x ok n (product (nth x.lengths) (x.dimensions - 1)) (get_or x.lengths (x.dimensions - 1) 0) refl refl source grid _ _ long
        (grid_rows n (omega arith)) (omega arith) (box_sound Direct x ok) refl))

    pub grid_stored : (grid' : List ℕ)
        → grid' ≡ store_all (value x source) grid (rows_of (row_at x x.lengths (Rattle.layout.proofs.Cells.four 0)) (get_or x.lengths (x.dimensions - 1) 0)
        (product (nth x.lengths) (x.dimensions - 1)))
        → grid' ≡ sweep (box_plan Direct x) source
    grid_stored grid' e =
        e
        ∙ swept x source grid long _ _ (grid_rows (product (nth x.lengths) (x.dimensions - 1)) (omega arith))
        (omega (arith, sweep_all x ok 0 (product (nth x.lengths) (x.dimensions - 1)) (get_or x.lengths (x.dimensions - 1) 0) refl refl))
