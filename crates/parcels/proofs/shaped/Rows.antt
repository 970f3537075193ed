-- The rows near the window: how far the distances go, and the smaller box.
use Prim.Native.Nat.{ℕ, ◌+◌, ◌*◌, ◌-◌, ◌/◌, ◌%◌, min, max, ◌≤◌, ◌<◌}
use mathlib.Core.Path.{◌≡◌, refl, ap, ◌∙◌}
use mathlib.Core.Logic.{◌⊎◌, inl, inr}
use mathlib.Core.List.{List}
use native.Mathlib.Decide.{ℕ_discrete}
use native.Mathlib.Nat.{eq-or-lt_of_le}
use native.Mathlib.Omega.{arith}
use lib.ListN.{length, get_or, set, length-set}
use lib.Seq.{get_or-set_same, get_or-set_other}
use Rattle.base.specs.Tests.{product}
use Rattle.nest.specs.declared.Nest.{Nest}
use Rattle.nest.specs.Accepted.{Accepted}
use Rattle.nest.specs.Nest.{length_of, component}
use Rattle.nest.specs.Spans.{last}
use Rattle.layout.specs.Places.{nth, Countable, Placed}
use Rattle.layout.proofs.CellRows.{fewer}
use Rattle.layout.proofs.Loops.{Filled}
use Rattle.parcels.specs.declared.Sending.{Sending}
use Rattle.parcels.specs.Windows.{window_of}
use Rattle.parcels.specs.Sendings.{BoxOfRows}
use Rattle.parcels.proofs.Rows.{block_countable, row_has}
use Rattle.parcels.specs.shaped.Runs.{comes_shaped, RunsAre}
use Rattle.parcels.specs.shaped.Parcels.{Farthest, Near, RowRuns}

-- ---- how far the distances go: the first n components, each with its dimension

pub record Most (components most : List ℕ) (n : ℕ) : Type 0 where
  pub long : length most ≡ 4
  pub each : (i : ℕ) → i < n → get_or components i 0 ≤ get_or most (i % 4) 0
  pub small : (j : ℕ) → get_or most j 0 ≤ 1024

module _ (components : List ℕ) where
  pub most_none : (most : List ℕ) → length most ≡ 4 → ((j : ℕ) → get_or most j 0 ≡ 0) → Most components most 0
  most_none most l h = record { long = l; each = λ i k. absurd (omega arith); small = λ j. omega (arith, h j) }

  pub most_more : (most : List ℕ) (n v : ℕ) → Most components most n → get_or components n 0 ≤ 1024
      → v ≡ max (get_or most (n % 4) 0) (get_or components n 0)
      → Most components (set most (n % 4) v) (n + 1)
  most_more most n v p m h =
      record {
        long = length-set most (n % 4) v ∙ p.long;
        each = λ i k. go i (eq-or-lt_of_le (below i k)) (ℕ_discrete (i % 4) (n % 4));
        small = λ j. low j (ℕ_discrete j (n % 4));
      }
    where
      here : n % 4 < 4
      here = omega arith

      v_small : v ≤ 1024
      v_small = omega (arith, h, m, p.small (n % 4))

      below : (i : ℕ) → i < n + 1 → i ≤ n
      below i k = omega arith

      go : (i : ℕ) → (i ≡ n) ⊎ (i < n) → Dec (i % 4 ≡ n % 4) → get_or components i 0 ≤ get_or (set most (n % 4) v) (i % 4) 0
      go i (inl e) (no q) = absurd (q (ap (λ (a : ℕ). a % 4) e))
      go i (inl e) (yes q) = rw (q, e, get_or-set_same most (n % 4) v 0 (omega (arith, p.long, here))) (omega (arith, h))
      go i (inr o) (yes q) =
          let m : get_or components i 0 ≤ get_or most (n % 4) 0 = rw (← q) (p.each i o) in
          rw (q, get_or-set_same most (n % 4) v 0 (omega (arith, p.long, here))) (omega (arith, m, h))
      go i (inr o) (no q) = rw (get_or-set_other most (n % 4) (i % 4) v 0 q) (p.each i o)

      low : (j : ℕ) → Dec (j ≡ n % 4) → get_or (set most (n % 4) v) j 0 ≤ 1024
      low j (yes q) = rw (q, get_or-set_same most (n % 4) v 0 (omega (arith, p.long, here))) v_small
      low j (no q) = rw (get_or-set_other most (n % 4) j v 0 q) (p.small j)

module _ (x : Nest) (ok : Accepted x) where
  pub component_small : (i : ℕ) → get_or x.components i 0 ≤ 1024
  component_small i = go (ok.component_most (i / 4) (i % 4))
    where
      split : 4 * (i / 4) + i % 4 ≡ i
      split = omega arith

      go : component x (i / 4) (i % 4) ≤ 1024 → get_or x.components i 0 ≤ 1024
      go h = rw split at h

  pub most_end : (most : List ℕ) (i : ℕ) → 4 * x.distances ≤ i → Most x.components most i → Farthest x most
  most_end most i k p =
      record {
        each = λ d j l o.
            let r : (4 * d + j) % 4 ≡ j = rest d j (omega (arith, ok.dimensions_most)) in
            rw r at (p.each (4 * d + j) (omega (arith, ok.dimensions_most)));
        small = p.small;
      }
    where
      rest : (d j : ℕ) → j < 4 → (4 * d + j) % 4 ≡ j
      rest d j h = omega arith

-- ---- the smaller box

-- how many rows are passed over along dimension j
abbrev pub over : Sending → List ℕ → ℕ → ℕ
over z most j = min (get_or z.window.low j 0 - get_or most j 0 - get_or z.block.corner j 0) (get_or z.block.lengths j 0 - 1)

abbrev pub corners : Sending → List ℕ → ℕ → ℕ
corners z most j = get_or z.block.corner j 0 + over z most j

abbrev pub sides : Sending → List ℕ → ℕ → ℕ
sides z most j = get_or z.block.lengths j 0 - over z most j

-- by the code's steps
pub over_is : (low most from side a b o : ℕ) → a ≡ low - most → b ≡ a - from → o ≡ min b (side - 1)
    → (from + o ≡ from + min (low - most - from) (side - 1)) × (side - o ≡ side - min (low - most - from) (side - 1))
over_is low most from side a b o ea eb eo =
    let e : o ≡ min (low - most - from) (side - 1) = eo ∙ rw (eb, ea) refl in (ap (λ (i : ℕ). from + i) e, ap (λ (i : ℕ). side - i) e)

module _ (x : Nest) (ok : Accepted x) (z : Sending) (p : BoxOfRows x z) (most : List ℕ) (f : Farthest x most) (corner lengths : List ℕ) (i : ℕ)
    (c : Filled 4 (corners z most) x.dimensions corner i) (l : Filled 4 (sides z most) x.dimensions lengths i) (h : x.dimensions ≤ i) where
  corner_is : (j : ℕ) → j < x.dimensions → get_or corner j 0 ≡ corners z most j
  corner_is j o = c.each j (omega arith)

  side_is : (j : ℕ) → j < x.dimensions → get_or lengths j 0 ≡ sides z most j
  side_is j o = l.each j (omega arith)

  least : (j : ℕ) → j < x.dimensions → 1 ≤ get_or lengths j 0
  least j o = omega (arith, side_is j o, p.least j o)

  same_end : (j : ℕ) → j < x.dimensions → get_or corner j 0 + get_or lengths j 0 ≡ get_or z.block.corner j 0 + get_or z.block.lengths j 0
  same_end j o = omega (arith, corner_is j o, side_is j o, p.least j o)

  inner : (j : ℕ) → j < x.dimensions → get_or corner j 0 + get_or lengths j 0 ≤ length_of x j
  inner j o = omega (arith, same_end j o, p.inside j o)

  deep : last x < x.dimensions
  deep = omega (arith, ok.dimensions_least)

  pub near_countable : Countable lengths (last x)
  near_countable = fewer x ok lengths (block_countable x ok (record { corner = corner; lengths = lengths }) least inner)

  pub near_is : (rows : ℕ) → rows ≡ product (nth lengths) (last x)
      → Near x z (record { block = record { corner = corner; lengths = lengths }; window = z.window; rows = rows; width = z.width })
  near_is rows e =
      record {
        shape = record {
          least = least;
          inside = inner;
          opens = p.opens;
          rows = e;
          width = omega (arith, p.width, side_is (last x) deep, p.opens);
        };
        window = refl;
        from = λ j o. omega (arith, corner_is j o);
        to = same_end;
        has = λ d j a k o m n w. omega (arith, corner_is j o, f.each d j k o);
      }

-- ---- a row as the code has it

pub row_runs : (x : Nest) (ok : Accepted x) (z : Sending) (p : BoxOfRows x z) (r : ℕ) (at : List ℕ) → Placed z.block.lengths z.block.corner r (last x)
    at
    → (place : List ℕ) (n : ℕ) (starts ends : List ℕ) → (place ≡ at) × RunsAre x (nth at) (comes_shaped x (window_of z.window)) n starts ends
    → RowRuns x z r place n starts ends
row_runs x ok z p r at g place n starts ends (e, f) = rw e (record { place = row_has x ok z p r at g; runs = f })
