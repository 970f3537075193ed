-- Values stored: a row, row by row a tile, row by row the sweep.
use Prim.Native.Nat.{ℕ, zero, suc, ◌+◌, ◌*◌, ◌-◌, ◌≤◌, ◌<◌}
use mathlib.Core.Path.{◌≡◌, refl, sym, ap, ◌∙◌}
use mathlib.Core.List.{List, [], ◌∷◌, ◌++◌, append_assoc, append-nil}
use native.Mathlib.Nat.{add-zero}
use native.Mathlib.Numerals.{add-one}
use native.Mathlib.Omega.{arith}
use lib.ListN.{length, get_or, drop, set, length-append, length-drop, get_or-append}
use lib.Seq.{drop-cons, drop-length, set-append_seam}
use Rattle.base.specs.Tests.{pick, tabulate, product}
use Rattle.base.specs.Lists.{store_all}
use Rattle.base.proofs.Lists.{store_length}
use Rattle.machine.specs.Plan.{Plan, Sound}
use Rattle.machine.specs.Machine.{sweep_to, sweep}
use Rattle.nest.specs.declared.Nest.{Nest}
use Rattle.nest.specs.Accepted.{Accepted}
use Rattle.nest.specs.Nest.{length_of, cells, box_tiles}
use Rattle.plan.specs.Geometry.{cells_of, value}
use Rattle.plan.specs.declared.Route.TheVariants.{Direct}
use Rattle.plan.specs.Messages.{box_plan}
use Rattle.plan.specs.Box.{box_size, box_cell}
use Rattle.plan.proofs.Box.{cells_of_box}
use Rattle.layout.specs.declared.Bounds.{Bounds}
use Rattle.layout.specs.Places.{nth, Bounded}
use Rattle.layout.specs.CellRows.{row_of}
use Rattle.layout.proofs.CellRows.{product_last, row_in, row_next, box_in, box_row}
use Rattle.kernels.proofs.Orders.{store_append}
use Rattle.bands.proofs.lagged.Words.{store_row}

-- one word more at the front
push : (k o : List ℕ) (v : ℕ) → length k < length o → set (k ++ drop (length k) o) (length k) v ≡ (k ++ (v ∷ [])) ++ drop (length k + 1) o
push k o v l = rw (drop-cons o (length k) 0, set-append_seam, add-one, append_assoc)

-- ---- a row

pub record Rowing (x : Nest) (source memory₀ memory : List ℕ) (c n y : ℕ) : Type 0 where
  pub low : y ≤ n
  pub is : memory ≡ store_all (value x source) memory₀ (row_of c y)

module _ (x : Nest) (source memory₀ : List ℕ) (c n : ℕ) where
  pub rowing_none : Rowing x source memory₀ memory₀ c n 0
  unfolding store_all tabulate
  rowing_none = record { low = omega arith; is = refl }

  module _ (memory : List ℕ) (y : ℕ) (p : Rowing x source memory₀ memory c n y) where
    pub rowing_long : length memory ≡ length memory₀
    rowing_long = ap length p.is ∙ store_length (value x source) (row_of c y) memory₀

    pub rowing_more : (v : ℕ) → y < n → v ≡ value x source memory (c + y) → Rowing x source memory₀ (set memory (c + y) v) c n (y + 1)
    unfolding store_all tabulate
    rowing_more v l e = record { low = omega arith; is = rw (add-one y, store_append (value x source) memory₀ (row_of c y) ((c + y) ∷ []), ← p.is, e) }

    pub rowing_end : n ≤ y → memory ≡ store_all (value x source) memory₀ (row_of c n)
    rowing_end h = let z : y ≡ n = omega (arith, p.low) in rw z at p.is

-- ---- the first q cells of tile t

pub record Calculating (x : Nest) (t : ℕ) (source memory₀ memory : List ℕ) (q : ℕ) : Type 0 where
  pub low : q ≤ box_size x t
  pub is : memory ≡ store_all (value x source) memory₀ (tabulate (box_cell x t) q)

module _ (x : Nest) (t : ℕ) (source memory₀ : List ℕ) where
  pub calculating_none : Calculating x t source memory₀ memory₀ 0
  unfolding store_all tabulate
  calculating_none = record { low = omega arith; is = refl }

  module _ (memory : List ℕ) (q : ℕ) (p : Calculating x t source memory₀ memory q) where
    pub calculating_long : length memory ≡ length memory₀
    calculating_long = ap length p.is ∙ store_length (value x source) (tabulate (box_cell x t) q) memory₀

    more : (c v : ℕ) → q < box_size x t → c ≡ box_cell x t q → v ≡ value x source memory c → Calculating x t source memory₀ (set memory c v) (q + 1)
    unfolding store_all tabulate
    more c v l k e =
        record {
          low = omega arith;
          is = rw (add-one q, store_append (value x source) memory₀ (tabulate (box_cell x t) q) (box_cell x t q ∷ []), ← p.is, e, k);
        }

  calculating_row : (memory : List ℕ) (q c : ℕ) → Calculating x t source memory₀ memory q → (n : ℕ) → q + n ≤ box_size x t
      → ((y : ℕ) → y < n → c + y ≡ box_cell x t (q + y)) → Calculating x t source memory₀ (store_all (value x source) memory (row_of c n)) (q + n)
  unfolding tabulate store_all
  calculating_row memory q c p zero h e = rw (add-zero q) p
  calculating_row memory q c p (suc n) h e =
      let z : q + suc n ≡ q + n + 1 = omega arith in
      rw (store_row (value x source) memory c n, z)
      (more (store_all (value x source) memory (row_of c n)) (q + n) (calculating_row memory q c p n (omega arith) (λ y k. e y (omega arith))) (c + n) _
      (omega arith) (e n (omega arith)) refl)

-- one row more of the tile's box, or all of them
module _ (x : Nest) (ok : Accepted x) (b : Bounds) (is : Bounded x b) (t : ℕ) (same : b.tile ≡ t) (source memory₀ memory : List ℕ) where
  size : b.size ≡ box_size x t
  size = is.size ∙ ap (box_size x) same

  pub calculating_turn : (r rows w : ℕ) → rows ≡ product (nth b.lengths) (x.dimensions - 1) → w ≡ get_or b.lengths (x.dimensions - 1) 0
      → Calculating x t source memory₀ memory (r * w) → r < rows → (memory' : List ℕ) (c : ℕ) → c ≡ box_cell x b.tile (r * w)
      → memory' ≡ store_all (value x source) memory (row_of c w) → Calculating x t source memory₀ memory' ((r + 1) * w)
  calculating_turn r rows w e k p h memory' c q g =
      rw (g, row_next w r rows)
      (calculating_row x t source memory₀ memory (r * w) c p w (omega (arith, size, (box_in x ok b is r rows w e k h).0))
      (λ y i. ap (λ (a : ℕ). a + y) q ∙ rw k (box_row x ok b is r y (rw k at i)) ∙ ap (λ (a : ℕ). box_cell x a (r * w + y)) same))

  pub calculated : (q : ℕ) → Calculating x t source memory₀ memory q → t < box_tiles x → b.size ≤ q → memory ≡ store_all (value x source) memory₀ (cells_of x t)
  calculated q p l h =
      let z : q ≡ box_size x t = omega (arith, p.low, size) in
      p.is
      ∙ ap (λ (a : ℕ). store_all (value x source) memory₀ (tabulate (box_cell x t) a)) z
      ∙ ap (store_all (value x source) memory₀) (sym (cells_of_box x ok t l))

-- ---- the rows of the nest

module _ (x : Nest) (ok : Accepted x) where
  deep : 1 ≤ x.dimensions
  deep = omega (arith, ok.dimensions_least)

  sweep_rows : product (nth x.lengths) (x.dimensions - 1) * length_of x (x.dimensions - 1) ≡ cells x
  unfolding cells
  sweep_rows = sym (product_last (length_of x) x.dimensions deep)

module _ (x : Nest) (ok : Accepted x) (r rows w : ℕ) (e : rows ≡ product (nth x.lengths) (x.dimensions - 1)) (k : w ≡ length_of x (x.dimensions - 1)) where
  pub sweep_all : rows * w ≡ cells x
  sweep_all = ap (λ (a : ℕ). a * w) e ∙ ap (λ (a : ℕ). product (nth x.lengths) (x.dimensions - 1) * a) k ∙ sweep_rows x ok

  pub sweep_in : r < rows → (r * w + w ≤ cells x) × (1 ≤ w)
  sweep_in h = (omega (arith, row_in w r rows h, sweep_all), omega (arith, ok.long (x.dimensions - 1) (omega (arith, ok.dimensions_least))))

-- ---- the sweep of the first c cells, then what the grid held

pub record Sweeping (x : Nest) (source grid₀ grid : List ℕ) (c : ℕ) : Type 0 where
  pub low : c ≤ cells x
  pub is : grid ≡ sweep_to (box_plan Direct x) source c ++ drop c grid₀

sweep_to_length : (p : Plan) (source : List ℕ) (c : ℕ) → length (sweep_to p source c) ≡ c
unfolding sweep_to
sweep_to_length p source zero = refl
sweep_to_length p source (suc c) = let a = sweep_to_length p source c in simp length-append (omega arith)

module _ (x : Nest) (source grid₀ : List ℕ) where
  pub sweeping_none : Sweeping x source grid₀ grid₀ 0
  unfolding sweep_to
  sweeping_none = record { low = omega arith; is = refl }

  module _ (long : length grid₀ ≡ cells x) (grid : List ℕ) (c : ℕ) (p : Sweeping x source grid₀ grid c) where
    count : length (sweep_to (box_plan Direct x) source c) ≡ c
    count = sweep_to_length (box_plan Direct x) source c

    pub sweeping_long : length grid ≡ cells x
    sweeping_long = omega (arith, simp length-append at (ap length p.is), count, length-drop c grid₀, p.low)

    another : Sound (box_plan Direct x) → c < cells x → (v : ℕ) → v ≡ value x source grid c → Sweeping x source grid₀ (set grid c v) (c + 1)
    unfolding sweep_to pick
    another sound h v e =
        record {
          low = omega arith;
          is = ap (λ (z : List ℕ). set z c v) p.is ∙ step ∙ ap (λ (a : ℕ). (sweep_to (box_plan Direct x) source c ++ (a ∷ [])) ++
              drop (c + 1) grid₀) same ∙ rw (add-one c) refl;
        }
      where
        same : v ≡ value x source (sweep_to (box_plan Direct x) source c) c
        same =
            e ∙ sound.local source grid (sweep_to (box_plan Direct x) source c) c h
            (λ r k. ap (λ (z : List ℕ). get_or z r 0) p.is
            ∙ get_or-append (sweep_to (box_plan Direct x) source c) (drop c grid₀) 0 r (omega (arith, count, sound.earlier c r h k)))

        step : set (sweep_to (box_plan Direct x) source c ++ drop c grid₀) c v ≡ (sweep_to (box_plan Direct x) source c ++ (v ∷ [])) ++ drop (c + 1) grid₀
        step = rw count at (push (sweep_to (box_plan Direct x) source c) grid₀ v (omega (arith, count)))

    pub swept : cells x ≤ c → grid ≡ sweep (box_plan Direct x) source
    swept h =
        let z : c ≡ cells x = omega (arith, p.low) in
        let y : c ≡ length grid₀ = omega arith in
        p.is ∙ ap (λ (a : ℕ). sweep_to (box_plan Direct x) source c ++ drop a grid₀) y ∙ ap (λ (a : List ℕ). sweep_to (box_plan Direct x) source c ++ a)
        (drop-length grid₀) ∙ append-nil _ ∙ ap (sweep_to (box_plan Direct x) source) z

  sweeping_row : length grid₀ ≡ cells x → Sound (box_plan Direct x) → (grid : List ℕ) (c : ℕ) → Sweeping x source grid₀ grid c → (n : ℕ) → c + n ≤ cells x
      → Sweeping x source grid₀ (store_all (value x source) grid (row_of c n)) (c + n)
  unfolding tabulate store_all
  sweeping_row long sound grid c p zero h = rw (add-zero c) p
  sweeping_row long sound grid c p (suc n) h =
      let z : c + suc n ≡ c + n + 1 = omega arith in
      rw (store_row (value x source) grid c n, z)
      (another long (store_all (value x source) grid (row_of c n)) (c + n) (sweeping_row long sound grid c p n (omega arith)) sound (omega arith) _ refl)

-- one row more
pub sweeping_turn : (x : Nest) (ok : Accepted x) (r rows w : ℕ) → rows ≡ product (nth x.lengths) (x.dimensions - 1) → w ≡ length_of x (x.dimensions - 1)
    → (source grid₀ grid grid' : List ℕ) → length grid₀ ≡ cells x → Sweeping x source grid₀ grid (r * w) → r < rows → Sound (box_plan Direct x)
    → grid' ≡ store_all (value x source) grid (row_of (r * w) w) → Sweeping x source grid₀ grid' ((r + 1) * w)
sweeping_turn x ok r rows w e k source grid₀ grid grid' long p h sound g =
    rw (g, row_next w r rows) (sweeping_row x source grid₀ long sound grid (r * w) p w (sweep_in x ok r rows w e k h).0)
