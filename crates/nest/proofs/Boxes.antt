-- Laws of the box: its cells and tiles, each tile's first cell; without bounds all tiles of the box hold a cell.
use Prim.Native.Nat.{ℕ, zero, suc, ◌*◌, ◌-◌, ◌/◌, ◌≤◌, ◌<◌}
use mathlib.Core.Path.{◌≡◌, refl, ap, ◌∙◌}
use mathlib.Core.Bool.{Bool, true}
use mathlib.Core.List.{List, [], ◌∷◌, ◌++◌}
use native.Mathlib.Nat.{mul-le-mul, mul-le-mul_right, div-mul-le_self, mul-div_cancel, div-le_self}
use native.Mathlib.Omega.{arith}
use lib.ListN.{length}
use borrow.Author.Tests.{eq-eqb}
use Rattle.base.specs.Tests.{every, some, keep, tabulate, product}
use Rattle.base.proofs.Tests.{and_true, some_one, length_tabulate}
pub use Rattle.base.proofs.Tests.{every_same}
use Rattle.base.proofs.Select.{keep_hit, keep_few}
use Rattle.nest.specs.declared.Nest.{Nest}
use Rattle.nest.specs.Nest.{length_of, tile_length, tile_count, cells, box_tiles}
use Rattle.nest.specs.Places.{rank, place, cell_at, cell_place, tile_at, tile_place, box_tile_of}
use Rattle.nest.specs.Shape.{in_shape, exists, existing, tiles}
use Rattle.nest.specs.Spans.{Tiled, holds}
use Rattle.nest.proofs.Rank.{Within, Positive, place_low, rank_low, rank_same, place_rank, rank_place, div_le}

pub all_kept : (f : ℕ → Bool) (n : ℕ) → ((u : ℕ) → u < n → f u ≡ true) → keep f n ≡ tabulate (λ u. u) n
unfolding keep tabulate
all_kept f zero h = refl
all_kept f (suc n) h = keep_hit f n (h n (omega arith)) ∙ ap (λ (l : List ℕ). l ++ (n ∷ [])) (all_kept f n (λ u k. h u (omega arith)))

pub product_least : (f : ℕ → ℕ) (n : ℕ) → Positive f n → 1 ≤ product f n
unfolding product
product_least f zero h = omega arith
product_least f (suc n) h = omega (arith, mul-le-mul {n₁ = 1} {m₁ = 1} (product_least f n (λ j l. h j (omega arith))) (h n (omega arith)))

pub product_most : (f g : ℕ → ℕ) (n : ℕ) → ((j : ℕ) → j < n → f j ≤ g j) → product f n ≤ product g n
unfolding product
product_most f g zero h = omega arith
product_most f g (suc n) h = mul-le-mul (product_most f g n (λ j l. h j (omega arith))) (h n (omega arith))

module _ (x : Nest) (long : Positive (length_of x) x.dimensions) where
  pub cells_least : 1 ≤ cells x
  unfolding cells
  cells_least = product_least (length_of x) x.dimensions long

  pub unbounded_in : x.bounds ≡ 0 → (c : ℕ) → in_shape x c ≡ true
  unfolding in_shape every
  unbounded_in z c = rw z

  pub unbounded_some : x.bounds ≡ 0 → some (in_shape x) (cells x) ≡ true
  unbounded_some z = some_one (in_shape x) (cells x) 0 cells_least (unbounded_in z 0)

  module _ (tiled : Tiled x) where
    pub counts_least : Positive (tile_count x) x.dimensions
    unfolding tile_count
    counts_least j h = omega arith

    pub quotients_low : (i : ℕ → ℕ) → Within (length_of x) i x.dimensions → Within (tile_count x) (λ j. i j / tile_length x j) x.dimensions
    unfolding tile_count
    quotients_low i w j h = omega (arith, div_le (tile_length x j) (i j) (length_of x j - 1) (tiled j h) (omega (arith, w j h)))

    places_low : (c : ℕ) → Within (length_of x) (cell_place x c) x.dimensions
    unfolding cell_place
    places_low c = place_low (length_of x) x.dimensions c long

    pub box_tile_of_low : (c : ℕ) → box_tile_of x c < box_tiles x
    unfolding box_tile_of tile_at box_tiles
    box_tile_of_low c = rank_low (tile_count x) (λ j. cell_place x c j / tile_length x j) x.dimensions (quotients_low (cell_place x c) (places_low c))

    -- the first cell of tile u
    abbrev corner : ℕ → ℕ → ℕ
    corner u j = tile_place x u j * tile_length x j

    tile_places_low : (u : ℕ) → Within (tile_count x) (tile_place x u) x.dimensions
    unfolding tile_place
    tile_places_low u = place_low (tile_count x) x.dimensions u counts_least

    corner_low : (u : ℕ) → Within (length_of x) (corner u) x.dimensions
    unfolding tile_count
    corner_low u j h =
        let t : tile_place x u j ≤ (length_of x j - 1) / tile_length x j = let k = tile_places_low u j h in omega arith in
        omega (arith, mul-le-mul_right (tile_length x j) t, div-mul-le_self (length_of x j - 1) (tile_length x j), long j h)

    pub corner_tile : (u : ℕ) → u < box_tiles x → (cell_at x (corner u) < cells x) × (box_tile_of x (cell_at x (corner u)) ≡ u)
    unfolding box_tile_of tile_at box_tiles cell_at cell_place cells tile_place
    corner_tile u l = (
      rank_low (length_of x) (corner u) x.dimensions (corner_low u),
      rank_same (tile_count x) (λ j. place (length_of x) x.dimensions (rank (length_of x) (corner u) x.dimensions) j / tile_length x j)
          (place (tile_count x) x.dimensions u) x.dimensions
          (λ j h. ap (λ (a : ℕ). a / tile_length x j) (place_rank (length_of x) (corner u) x.dimensions (corner_low u) j h) ∙ mul-div_cancel
          (place (tile_count x) x.dimensions u j) (tiled j h))
          ∙ rank_place (tile_count x) x.dimensions u counts_least l,
    )

    -- without bounds every tile of the box holds a cell
    pub unbounded_exists : x.bounds ≡ 0 → (u : ℕ) → u < box_tiles x → exists x u ≡ true
    unfolding exists
    unbounded_exists z u l =
        let k = corner_tile u l in
        some_one (holds x u) (cells x) (cell_at x (corner u)) k.0 (and_true (unbounded_in z (cell_at x (corner u))) (eq-eqb _ u k.1))

    pub unbounded_existing : x.bounds ≡ 0 → existing x ≡ tabulate (λ u. u) (box_tiles x)
    unfolding existing
    unbounded_existing z = all_kept (exists x) (box_tiles x) (unbounded_exists z)

    pub unbounded_tiles : x.bounds ≡ 0 → tiles x ≡ box_tiles x
    unfolding tiles
    unbounded_tiles z = ap length (unbounded_existing z) ∙ length_tabulate (λ u. u) (box_tiles x)

    pub box_few : box_tiles x ≤ cells x
    unfolding box_tiles cells tile_count
    box_few = product_most (tile_count x) (length_of x) x.dimensions (λ j h. omega (arith, div-le_self (length_of x j - 1) (tile_length x j), long j h))

pub tiles_few : (x : Nest) → tiles x ≤ box_tiles x
unfolding tiles existing
tiles_few x = keep_few (exists x) (box_tiles x)
