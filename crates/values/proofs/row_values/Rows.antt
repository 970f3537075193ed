-- What the loops over a box's rows know of the row that they stand at, by what rows are given.
use Prim.Native.Nat.{ℕ, ◌+◌, ◌-◌, ◌≤◌, ◌<◌}
use mathlib.Core.Path.{◌≡◌, refl, ap, ◌∙◌}
use mathlib.Core.List.{List}
use native.Mathlib.Omega.{arith}
use lib.ListN.{length, get_or}
use Rattle.base.specs.Lists.{store_all}
use Rattle.nest.specs.declared.Nest.{Nest}
use Rattle.nest.specs.Accepted.{Accepted}
use Rattle.nest.specs.Nest.{cells}
use Rattle.nest.specs.Places.{rank}
use Rattle.plan.specs.Geometry.{value}
use Rattle.layout.specs.Places.{nth, Ranked, Places, Inside, Follows}
use Rattle.layout.specs.CellRows.{row_of}
use Rattle.layout.proofs.Advance.{placed_start}
use Rattle.bands.specs.lagged.Bands.{four, rows_of, BandGiven}
use Rattle.values.specs.row_values.Waves.{RowTables, Inner}
use Rattle.values.specs.row_values.Given.{RowGiven}
use Rattle.values.specs.row_values.Boxes.{Boxed, RowsGiven, Stored}
use Rattle.values.proofs.row_values.Margins.{margin_most, fours_banded}
use Rattle.values.proofs.row_values.Boxes.{row_inside, row_ranked, row_number, row_fits, row_located, moved, standing_moved, box_fours, box_spaced}
use Rattle.values.proofs.row_values.Boxes.{inners, stored_long, stored_none, stored_more, stored_one, stored_four}

module _ (x : Nest) (components lasts back weights margin source memory grid N from at : List ℕ) (r : ℕ)
    (g : RowsGiven x components lasts back weights margin source memory grid N from at r) where
  pub given_ranked : Ranked grid at x.dimensions
  given_ranked = rw g.1.0 (row_ranked x g.0.0 N from g.1.1.0 r at g.1.1.1)

  pub given_inside : (length at ≡ 4) × (Places N from (x.dimensions - 1) × Inside N from (x.dimensions - 1) at)
  given_inside = (g.1.1.1.long, row_inside x g.0.0 N from g.1.1.0 r at g.1.1.1)

  pub given_margin : get_or margin (x.dimensions - 1) 0 ≤ 1024
  given_margin = margin_most x g.0.0 margin g.0.1.0.margins

  module _ (n : ℕ) (e : n ≡ rank (nth grid) (nth at) x.dimensions) where
    is : n ≡ rank (nth x.lengths) (nth at) x.dimensions
    is = e ∙ ap (λ (l : List ℕ). rank (nth l) (nth at) x.dimensions) g.1.0

    pub given_row : RowGiven x components lasts back weights margin source memory at n (get_or N (x.dimensions - 1) 0)
    given_row = (
      g.0,
      (
        row_located x g.0.0 N from g.1.1.0 r at g.1.1.1 n is,
        row_fits x g.0.0 N from g.1.1.0 r at g.1.1.1,
      ),
    )

    pub given_one : (memory' at' : List ℕ) → memory' ≡ store_all (value x source) memory (row_of n (get_or N (x.dimensions - 1) 0))
        → (length at' ≡ 4) × Follows N from (x.dimensions - 1) at at' → Stored x source N from memory memory' at' r 1
    given_one memory' at' q f =
        stored_one x source N from memory memory' at at' r n g.1.1.1 (is ∙ row_number x g.0.0 N from g.1.1.0 r at g.1.1.1) q f.0 f.1

    pub given_small : (n < 16384) × (get_or grid (x.dimensions - 1) 0 ≤ 4096)
    given_small = (
      omega (arith, given_row.1.0.low, g.0.0.cells_most),
      rw g.1.0 (omega (arith, g.0.0.length_most (x.dimensions - 1))),
    )

    -- four rows, where they go together
    module _ (t : (1 ≤ x.dimensions - 1) × (Inner margin at (x.dimensions - 1)
        × (get_or at (x.dimensions - 1 - 1) 0 + 3 < get_or from (x.dimensions - 1 - 1) 0 + get_or N (x.dimensions - 1 - 1) 0)))
        (b c d : ℕ) (e₁ : b ≡ n + get_or grid (x.dimensions - 1) 0) (e₂ : c ≡ b + get_or grid (x.dimensions - 1) 0)
        (e₃ : d ≡ c + get_or grid (x.dimensions - 1) 0) where
      stride : get_or grid (x.dimensions - 1) 0 ≡ get_or x.lengths (x.dimensions - 1) 0
      stride = ap (λ (l : List ℕ). get_or l (x.dimensions - 1) 0) g.1.0

      pub given_band : (s : ℕ) → (3 ≤ s) × ((get_or margin (x.dimensions - 1) 0 + 3 ≤ get_or at (x.dimensions - 1) 0 + s) × (s ≤ 1027))
          → s ≤ get_or N (x.dimensions - 1) 0
          → BandGiven x lasts back weights source memory n b c d (get_or at (x.dimensions - 1) 0) s (get_or N (x.dimensions - 1) 0)
      given_band s q l = (
        (
          g.0.0,
          (
            fours_banded x g.0.0 _ _ _ _ (get_or N (x.dimensions - 1) 0)
                (box_fours x g.0.0 N from g.1.1.0 r at g.1.1.1 t.0 t.1.1 n is b c d (e₁ ∙ ap (λ (a : ℕ). n + a) stride)
                (e₂ ∙ ap (λ (a : ℕ). b + a) stride) (e₃ ∙ ap (λ (a : ℕ). c + a) stride)) components lasts back weights margin g.0.1.0 s q l
                (inners x g.0.0 N from g.1.1.0 r at g.1.1.1 t.0 t.1.1 n is margin t.1.0),
            g.0.1.1,
          ),
        ),
        box_spaced x g.0.0 N from g.1.1.0 r at g.1.1.1 t.0 t.1.1 n is b c d (e₁ ∙ ap (λ (a : ℕ). n + a) stride)
            (e₂ ∙ ap (λ (a : ℕ). b + a) stride) (e₃ ∙ ap (λ (a : ℕ). c + a) stride),
      )

      pub given_moved : (length (moved at (x.dimensions - 1 - 1) 3) ≡ 4)
          × (Places N from (x.dimensions - 1) × Inside N from (x.dimensions - 1) (moved at (x.dimensions - 1 - 1) 3))
      given_moved =
          let s = standing_moved x g.0.0 N from g.1.1.0 r at g.1.1.1 t.0 t.1.1 n is 3 (omega arith) in
          (s.long, row_inside x g.0.0 N from g.1.1.0 (r + 3) (moved at (x.dimensions - 1 - 1) 3) s)

      pub given_four : (memory' at' : List ℕ) → memory' ≡ store_all (value x source) memory (rows_of (four n b c d) (get_or N (x.dimensions - 1) 0) 4)
          → (length at' ≡ 4) × Follows N from (x.dimensions - 1) (moved at (x.dimensions - 1 - 1) 3) at' → Stored x source N from memory memory' at' r 4
      given_four memory' at' q f =
          stored_four x g.0.0 N from g.1.1.0 r at g.1.1.1 t.0 t.1.1 n is b c d (e₁ ∙ ap (λ (a : ℕ). n + a) stride)
          (e₂ ∙ ap (λ (a : ℕ). b + a) stride) (e₃ ∙ ap (λ (a : ℕ). c + a) stride) source memory memory' at' q f.0 f.1

  -- what is given still, once n rows from r on are stored
  module _ (memory' at' : List ℕ) (n : ℕ) (s : Stored x source N from memory memory' at' r n) where
    pub given_next : (q : ℕ) → q ≡ r + n → RowsGiven x components lasts back weights margin source memory' grid N from at' q
    given_next q e = (
      (g.0.0, (g.0.1.0, (g.0.1.1.0, stored_long x source N from memory memory' at' r n s ∙ g.0.1.1.1))),
      (g.1.0, (g.1.1.0, rw e s.after)),
    )

    pub given_more : (q k l : ℕ) → q ≡ r + n → l ≡ n + k → (memory'' at'' : List ℕ) → Stored x source N from memory' memory'' at'' q k
        → Stored x source N from memory memory'' at'' r l
    given_more q k l e i memory'' at'' t = rw i (stored_more x source N from memory memory' memory'' at' at'' r n k s (rw e at t))

  pub given_start : (n : ℕ) → n ≡ 0 → Stored x source N from memory memory at r n
  given_start n e = rw e (stored_none x source N from memory at r g.1.1.1)

pub stored_rows : (x : Nest) (source N from memory memory' at : List ℕ) (r n k : ℕ) → n ≡ k → Stored x source N from memory memory' at r n
    → Stored x source N from memory memory' at r k
stored_rows x source N from memory memory' at r n k e s = rw (← e) s

-- what is given at a box's first row
pub given_box : (x : Nest) (components lasts back weights margin source memory N from : List ℕ) → Accepted x → RowTables x components lasts back weights margin
    → (length source ≡ cells x) × (length memory ≡ cells x) → Boxed x N from → length from ≡ 4
    → RowsGiven x components lasts back weights margin source memory x.lengths N from from 0
given_box x components lasts back weights margin source memory N from ok lent areas b long = (
  (ok, (lent, areas)),
  (refl, (b, record { long = long; is = placed_start N from (x.dimensions - 1) })),
)
