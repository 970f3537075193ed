-- What the distances read in a row: from which cell on, how far back.
use Prim.Native.Nat.{ℕ, zero, suc, ◌+◌, ◌*◌, ◌-◌, ◌≤◌, ◌<◌, min}
use mathlib.Core.Path.{◌≡◌, refl, sym, ap, ◌∙◌}
use mathlib.Core.Bool.{Bool, true, false}
use mathlib.Core.List.{List}
use native.Mathlib.Nat.{mul-le-mul}
use native.Mathlib.Numerals.{add-one}
use native.Mathlib.Omega.{arith}
use lib.ListN.{get_or}
use lib.Dec.{leb}
use borrow.Author.Tests.{lt-leb, leb-true}
use Rattle.base.specs.Tests.{◌and◌, pick, every, product}
use Rattle.base.proofs.Tests.{every_at, every_not, pick_true, pick_false}
use Rattle.nest.specs.declared.Nest.{Nest}
use Rattle.nest.specs.Accepted.{Accepted}
use Rattle.nest.specs.Nest.{length_of, component, cells}
use Rattle.nest.specs.Places.{rank, place, cell_at, cell_place}
use Rattle.plan.specs.Geometry.{has_read, read_at}
use Rattle.nest.proofs.Rank.{rank_same}
use Rattle.plan.proofs.Tiles.{cell_place_low, cell_at_cell_place}
use Rattle.layout.specs.declared.Cell.{Cell}
use Rattle.layout.specs.Places.{nth, Countable, Located}
use Rattle.layout.specs.CellRows.{Given}
use Rattle.layout.proofs.Dims.{rank_add, rank_most, product_prefix}
use Rattle.layout.proofs.Loops.{every_same, Sofar, sofar_end}
use Rattle.layout.proofs.CellRows.{row_before, row_last, row_low, every_last}
use Rattle.bands.specs.lagged.Bands.{Reads, InRow}
use Rattle.values.specs.row_values.Reads.{first_read, step_back, Firsts, Backs}
pub use Rattle.bands.proofs.lagged.Words.{in_row_of}

-- ---- how far back distance e reads: the rank of its first j components

abbrev pub step_of : List ℕ → List ℕ → ℕ → ℕ → ℕ
step_of N components e j = min (get_or components (4 * e + j) 0) (get_or N j 0)

pub record Backing (N components : List ℕ) (e n back j : ℕ) : Type 0 where
  pub low : j ≤ n
  pub is : back ≡ rank (nth N) (step_of N components e) j

module _ (N components : List ℕ) (e n : ℕ) where
  pub backing_none : Backing N components e n 0 0
  unfolding rank
  backing_none = record { low = omega arith; is = refl }

  module _ (back j : ℕ) (s : Backing N components e n back j) (h : j < n) (d : ℕ) (k : d ≡ step_of N components e j) where
    pub backing_more : Backing N components e n (back * get_or N j 0 + d) (j + 1)
    unfolding rank
    backing_more =
        record {
          low = omega arith;
          is = rw (add-one j) (ap (λ (a : ℕ). a * get_or N j 0 + d) s.is
              ∙ ap (λ (a : ℕ). rank (nth N) (step_of N components e) j * get_or N j 0 + a) k);
        }

    pub backing_fits : Countable N n → back * get_or N j 0 + d ≤ 65536
    backing_fits c =
        let r : rank (nth N) (step_of N components e) (j + 1) ≤ (j + 1) * product (nth N) (j + 1) = rank_most (nth N) (step_of N components e) (j + 1)
        (λ q i. c.positive q (omega arith)) (λ q i. omega arith) in
        omega (
          arith,
          backing_more.is,
          r,
          mul-le-mul {n₁ = j + 1} {m₁ = product (nth N) (j + 1)} {n₂ = 4} {m₂ = 16384} (omega (arith, c.low))
              (omega (arith, c.few, product_prefix (nth N) n (j + 1) c.positive (omega arith))),
        )

pub backing_end : (x : Nest) (components : List ℕ) (e back j : ℕ) → Given x components → Backing x.lengths components e x.dimensions back j
    → x.dimensions ≤ j → back ≡ step_back x e
unfolding step_back
backing_end x components e back j g s h =
    let z : j ≡ x.dimensions = omega (arith, s.low) in
    s.is ∙ ap (rank (nth x.lengths) (step_of x.lengths components e)) z ∙ ap (λ (l : List ℕ). rank (nth x.lengths) (step_of x.lengths l e)
    x.dimensions) g.is

-- ---- a test

first_test : (t : Bool) (d a : ℕ) → a < 1024 → leb (pick t d 1024) a ≡ (t and leb d a)
unfolding pick ◌and◌
first_test true d a h = refl
first_test false d a h = lt-leb 1024 a h

-- ---- from where a distance reads

module _ (x : Nest) (components i : List ℕ) (e : ℕ) (g : Given x components) where
  pub first_stops : (j : ℕ) → j < x.dimensions - 1 → get_or i j 0 < get_or components (4 * e + j) 0 → 1024 ≡ first_read x i e
  unfolding first_read
  first_stops j h l =
      let k : get_or i j 0 < component x e j = rw g.is at l in
      sym (pick_false _ _ _ (every_not (λ j. leb (component x e j) (get_or i j 0)) (x.dimensions - 1) j h (lt-leb (component x e j) (get_or i j 0) k)))

  pub first_end : (j : ℕ) → Sofar (λ q. leb (get_or components (4 * e + q) 0) (get_or i q 0)) (x.dimensions - 1) j → x.dimensions - 1 ≤ j
      → get_or components (4 * e + (x.dimensions - 1)) 0 ≡ first_read x i e
  unfolding first_read
  first_end j s h =
      let a : every (λ j. leb (component x e j) (get_or i j 0)) (x.dimensions - 1) ≡ true = rw g.is at (sofar_end _ _ j s h) in
      ap (λ (l : List ℕ). get_or l (4 * e + (x.dimensions - 1)) 0) g.is ∙ sym (pick_true _ _ _ a)

-- ---- what the distances read in a row

module _ (x : Nest) (ok : Accepted x) where
  pub back_is : (c e : ℕ) → c < cells x → e < x.distances → has_read x c e ≡ true → step_back x e + read_at x c e ≡ c
  unfolding step_back read_at cell_at has_read
  back_is c e l h t =
      sym (rank_add (length_of x) (λ j. min (component x e j) (length_of x j)) (λ j. cell_place x c j - component x e j) x.dimensions)
      ∙ rank_same (length_of x) _ (cell_place x c) x.dimensions (λ j k. omega (
        arith,
        cell_place_low x ok c j k,
        leb-true (component x e j) (cell_place x c j)
            (every_at (λ j. leb (component x e j) (cell_place x c j)) x.dimensions t j k),
      ))
      ∙ cell_at_cell_place x ok c l

  module _ (r : Cell) (l : Located x r.number r) (first back weights : List ℕ) (f : Firsts x r.place first) (b : Backs x back)
      (is : weights ≡ x.weights) where
    last : ℕ
    last = x.dimensions - 1

    module _ (y : ℕ) (h : get_or r.place (x.dimensions - 1) 0 + y < length_of x (x.dimensions - 1)) where
      at : cell_place x r.number (x.dimensions - 1) ≡ get_or r.place (x.dimensions - 1) 0
      at = sym (l.place.each (x.dimensions - 1) (omega (arith, ok.dimensions_least)))

      moved : place (length_of x) x.dimensions r.number (x.dimensions - 1) + y < length_of x (x.dimensions - 1)
      unfolding cell_place
      moved = omega (arith, at)

      pub cell_low : r.number + y < cells x
      unfolding cell_place cells cell_at
      cell_low = low
        where
          low : r.number + y < product (length_of x) x.dimensions
          low = row_low (length_of x) x.dimensions r.number y (omega (arith, ok.dimensions_least)) moved l.low

      row_test : (e : ℕ) → e < x.distances → leb (get_or first e 0) (get_or r.place (x.dimensions - 1) 0 + y) ≡ has_read x (r.number + y) e
      unfolding has_read first_read cell_place
      row_test e k =
          ap (λ (a : ℕ). leb a (get_or r.place (x.dimensions - 1) 0 + y)) (f.each e k)
          ∙ first_test _ (component x e (x.dimensions - 1)) _ (omega (arith, ok.length_most (x.dimensions - 1)))
          ∙ ap (λ (t : Bool). t and leb (component x e (x.dimensions - 1)) (get_or r.place (x.dimensions - 1) 0 + y))
          (every_same _ _ (x.dimensions - 1)
          (λ j i. ap (leb (component x e j)) (l.place.each j (omega arith) ∙ sym (row_before (length_of x) x.dimensions r.number y
          (omega (arith, ok.dimensions_least)) moved j i))))
          ∙ ap (λ (a : ℕ). every (λ j. leb (component x e j) (place (length_of x) x.dimensions (r.number + y) j)) (x.dimensions - 1) and leb
          (component x e (x.dimensions - 1)) a)
          (ap (λ (a : ℕ). a + y) (sym at) ∙ sym (row_last (length_of x) x.dimensions r.number y (omega (arith, ok.dimensions_least)) moved))
          ∙ sym (every_last _ x.dimensions (omega (arith, ok.dimensions_least)))

      pub row_reads : Reads x (r.number + y) (get_or r.place (x.dimensions - 1) 0 + y) first back weights
      row_reads =
          record {
            low = cell_low;
            weights_are = is;
            firsts = row_test;
            backs = λ e k t. ap (λ (a : ℕ). a + read_at x (r.number + y) e) (b.each e k) ∙ back_is (r.number + y) e cell_low k t;
          }

    pub in_row : (n : ℕ) → get_or r.place (x.dimensions - 1) 0 + n ≤ length_of x (x.dimensions - 1) → InRow x r.number
        (get_or r.place (x.dimensions - 1) 0) n first back weights
    in_row n h =
        record {
          few = omega (arith, ok.length_most (x.dimensions - 1));
          low = go n h;
          each = λ y k. row_reads y (omega arith);
        }
      where
        go : (n : ℕ) → get_or r.place (x.dimensions - 1) 0 + n ≤ length_of x (x.dimensions - 1) → r.number + n ≤ cells x
        go zero h = omega (arith, l.low)
        go (suc n) h = omega (arith, cell_low n (omega arith))
