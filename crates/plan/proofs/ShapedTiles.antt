-- Laws of the tiles that exist: their numbers, their order and their cells; and of the first that follows.
use Prim.Native.Nat.{ℕ, zero, suc, ◌≤◌, ◌<◌}
use mathlib.Core.Path.{◌≡◌, refl, ap, ◌∙◌}
use mathlib.Core.Bool.{Bool, true}
use mathlib.Core.List.{List, [], ◌∷◌}
use native.Mathlib.Nat.{le_of_suc-le-suc}
use native.Mathlib.Decide.{dec_lt}
use native.Mathlib.Omega.{arith}
use lib.ListN.{length, get_or, get_or-eq_default}
use lib.Dec.{eqb}
use borrow.Author.Tests.{eqb-true, eq-eqb}
use Rattle.base.specs.Tests.{◌and◌, keep}
use Rattle.base.specs.Lists.{In, Rising}
use Rattle.base.proofs.Tests.{both, and_true, some_at, some_one}
use Rattle.base.proofs.Select.{keep_in, in_keep, keep_rising, keep_lt, keep_mono, keep_at, at_keep}
use Rattle.nest.specs.declared.Nest.{Nest}
use Rattle.nest.specs.Accepted.{Accepted}
use Rattle.nest.specs.Nest.{cells, box_tiles}
use Rattle.nest.specs.Places.{box_tile_of}
use Rattle.nest.specs.Shape.{in_shape, exists, existing, tiles}
use Rattle.plan.specs.Shaped.{box_tile, tile_of, shaped_cells}
use Rattle.plan.proofs.Tiles.{box_tile_of_low}
use Rattle.plan.proofs.Slots.{in_full}

-- the first of those kept is kept, and at or before each
pub first_kept : (f : ℕ → Bool) (n w : ℕ) → w < n → f w ≡ true
    → (get_or (keep f n) 0 0 < n) × (f (get_or (keep f n) 0 0) ≡ true) × (get_or (keep f n) 0 0 ≤ w)
first_kept f n w h e = go (at_keep f n 0 (in_full w (keep f n) (in_keep f n w h e)))
  where
    go : (i : ℕ) × (get_or (keep f n) 0 0 ≡ i) × (i < n) × (f i ≡ true) × (length (keep f i) ≡ 0)
        → (get_or (keep f n) 0 0 < n) × (f (get_or (keep f n) 0 0) ≡ true) × (get_or (keep f n) 0 0 ≤ w)
    go (i, is, low, has, none) = rw is (low, has, least (dec_lt w i))
      where
        least : Dec (w < i) → i ≤ w
        least (yes k) = absurd (omega (arith, keep_lt f i w k e))
        least (no k) = omega arith

-- within a list the default doesn't matter
pub either_default : (l : List ℕ) (k a b : ℕ) → k < length l → get_or l k a ≡ get_or l k b
either_default [] k a b h = absurd (omega arith)
either_default (y ∷ l) zero a b h = refl
either_default (y ∷ l) (suc k) a b h = either_default l k a b (le_of_suc-le-suc h)

module _ (x : Nest) where
  -- ---- numbers of tiles
  pub box_tile_beyond : (t : ℕ) → tiles x ≤ t → box_tile x t ≡ t
  unfolding tiles box_tile
  box_tile_beyond t h = get_or-eq_default (existing x) t h

  module _ (t : ℕ) (h : t < tiles x) where
    number : (i : ℕ) × (box_tile x t ≡ i) × (i < box_tiles x) × (exists x i ≡ true) × (length (keep (exists x) i) ≡ t)
    unfolding tiles box_tile existing
    number =
        let r = at_keep (exists x) (box_tiles x) t h in
        (r.0, either_default (keep (exists x) (box_tiles x)) t t 0 h ∙ r.1, r.2, r.3, r.4)

    pub box_tile_low : box_tile x t < box_tiles x
    box_tile_low = let r = number in rw r.1 r.2

    pub box_tile_exists : exists x (box_tile x t) ≡ true
    box_tile_exists = let r = number in rw r.1 r.3

    -- as many tiles exist before it as its number says
    pub before_box_tile : length (keep (exists x) (box_tile x t)) ≡ t
    before_box_tile = let r = number in rw r.1 r.4

  -- and every tile of the box that exists has such a number
  module _ (u : ℕ) (low : u < box_tiles x) (here : exists x u ≡ true) where
    pub number_low : length (keep (exists x) u) < tiles x
    unfolding tiles existing
    number_low = keep_lt (exists x) (box_tiles x) u low here

    pub box_tile_number : box_tile x (length (keep (exists x) u)) ≡ u
    unfolding box_tile existing tiles
    box_tile_number =
        either_default (keep (exists x) (box_tiles x)) (length (keep (exists x) u)) _ 0 number_low
        ∙ keep_at (exists x) (box_tiles x) u low here

  -- numbers are in index order
  pub number_lt : (t u : ℕ) → t < tiles x → u < tiles x → box_tile x t < box_tile x u → t < u
  number_lt t u h k l =
      omega (arith, before_box_tile t h, before_box_tile u k, keep_lt (exists x) (box_tile x u) (box_tile x t) l (box_tile_exists t h))

  pub number_le : (t u : ℕ) → t < tiles x → u < tiles x → box_tile x t ≤ box_tile x u → t ≤ u
  number_le t u h k l = omega (arith, before_box_tile t h, before_box_tile u k, keep_mono (exists x) (box_tile x u) (box_tile x t) l)

  pub box_tile_lt : (t u : ℕ) → t < tiles x → u < tiles x → t < u → box_tile x t < box_tile x u
  box_tile_lt t u h k l = go (dec_lt (box_tile x t) (box_tile x u))
    where
      go : Dec (box_tile x t < box_tile x u) → box_tile x t < box_tile x u
      go (yes y) = y
      go (no n) = absurd (omega (arith, number_le u t k h (omega arith)))

  -- ---- the cells of the shape in tile u of the box
  pub shaped_cells_in : (u c : ℕ) → In c (shaped_cells x u) → (c < cells x) × (in_shape x c ≡ true) × (box_tile_of x c ≡ u)
  unfolding shaped_cells
  shaped_cells_in u c h =
      let r = keep_in (λ c. in_shape x c and eqb (box_tile_of x c) u) (cells x) c h in
      let b = both r.1 in
      (r.0, b.0, eqb-true _ _ b.1)

  pub in_shaped_cells : (u c : ℕ) → c < cells x → in_shape x c ≡ true → box_tile_of x c ≡ u → In c (shaped_cells x u)
  unfolding shaped_cells
  in_shaped_cells u c h i e = in_keep (λ c. in_shape x c and eqb (box_tile_of x c) u) (cells x) c h (and_true i (eq-eqb _ _ e))

  pub shaped_cells_rising : (u : ℕ) → Rising (shaped_cells x u)
  unfolding shaped_cells
  shaped_cells_rising u = keep_rising (λ c. in_shape x c and eqb (box_tile_of x c) u) (cells x)

  -- a tile of the box exists just where it has one
  pub exists_cell : (u : ℕ) → exists x u ≡ true → (c : ℕ) × In c (shaped_cells x u)
  unfolding exists
  exists_cell u h =
      let r = some_at (λ c. in_shape x c and eqb (box_tile_of x c) u) (cells x) h in
      let b = both r.2 in
      (r.0, in_shaped_cells u r.0 r.1 b.0 (eqb-true _ _ b.1))

  pub cell_exists : (c : ℕ) → c < cells x → in_shape x c ≡ true → exists x (box_tile_of x c) ≡ true
  unfolding exists
  cell_exists c h i =
      some_one (λ q. in_shape x q and eqb (box_tile_of x q) (box_tile_of x c)) (cells x) c h
      (and_true i (eq-eqb (box_tile_of x c) (box_tile_of x c) refl))

  -- ---- the tile of a cell of the shape
  module _ (ok : Accepted x) (c : ℕ) (h : c < cells x) (i : in_shape x c ≡ true) where
    pub tile_of_low : tile_of x c < tiles x
    unfolding tile_of
    tile_of_low = number_low (box_tile_of x c) (box_tile_of_low x ok c) (cell_exists c h i)

    pub box_tile_tile_of : box_tile x (tile_of x c) ≡ box_tile_of x c
    unfolding tile_of
    box_tile_tile_of = box_tile_number (box_tile_of x c) (box_tile_of_low x ok c) (cell_exists c h i)

  pub tile_of_is : (t c : ℕ) → t < tiles x → box_tile_of x c ≡ box_tile x t → tile_of x c ≡ t
  unfolding tile_of
  tile_of_is t c h e = ap (λ (u : ℕ). length (keep (exists x) u)) e ∙ before_box_tile t h
