-- What code needs of takers and dues in a shape, over plain numbers: the box's number of u plus v is u plus a constant of v, the taker's
-- number is how many tiles exist before it, and a tile is the taker where that number lies above the tile before it and not above its own.
use Prim.Native.Nat.{ℕ, zero, suc, ◌+◌, ◌/◌, ◌≤◌, ◌<◌}
use mathlib.Core.Path.{◌≡◌, refl, sym, ap, ◌∙◌}
use mathlib.Core.Logic.{◌⊎◌, inl, inr}
use native.Mathlib.Nat.{eq-or-lt_of_le, le_of_suc-le-suc, div-lt_iff_lt-mul, add-mul}
use native.Mathlib.Decide.{dec_lt}
use native.Mathlib.Omega.{arith}
use lib.ListN.{length}
use Rattle.base.specs.Tests.{keep, product}
use Rattle.base.proofs.Select.{keep_lt, keep_mono}
use Rattle.nest.specs.declared.Nest.{Nest}
use Rattle.nest.specs.Accepted.{Accepted}
use Rattle.nest.specs.Nest.{tile_count, box_tiles}
use Rattle.nest.specs.Places.{rank, place, tile_at, tile_place, box_tile_of}
use Rattle.nest.specs.Shape.{exists, tiles}
use Rattle.plan.specs.Geometry.{processor_of}
use Rattle.plan.specs.Messages.{ahead, taker}
use Rattle.plan.specs.Shaped.{box_tile, shaped_taker}
use Rattle.nest.proofs.Rank.{Positive, rank_same, rank_place, place_before, div_le}
use Rattle.plan.proofs.Tiles.{tile_count_pos, tile_at_tile_place, box_tile_of_low, processor_of_same}
use Rattle.plan.proofs.Parcels.{taker_place}
use Rattle.plan.proofs.ShapedTiles.{box_tile_exists, before_box_tile}
use Rattle.plan.proofs.ShapedParcels.{Crossed, reader, reader_column, reader_tile, reader_tile_low, reader_tile_box}
use Rattle.plan.proofs.ShapedParcels.{shaped_taker_low, shaped_taker_le, shaped_taker_from, shaped_taker_first, shaped_taker_column}

-- ---- the box's number of u plus v

rank_plus : (N i k : ℕ → ℕ) (l : ℕ) → rank N (λ j. i j + k j) l ≡ rank N i l + rank N k l
unfolding rank
rank_plus N i k zero = refl
rank_plus N i k (suc l) = rw (rank_plus N i k l) (omega (arith, add-mul (rank N i l) (rank N k l) (N l)))

tile_at_plus : (x : Nest) (i k : ℕ → ℕ) → tile_at x (λ j. i j + k j) ≡ tile_at x i + tile_at x k
unfolding tile_at
tile_at_plus x i k = rank_plus (tile_count x) i k x.dimensions

-- the constant of v
abbrev pub step_of : Nest → ℕ → ℕ
step_of x v = tile_at x (ahead x v)

pub taker_step : (x : Nest) → Accepted x → (u v : ℕ) → u < box_tiles x → taker x u v ≡ u + step_of x v
unfolding taker
taker_step x ok u v h = tile_at_plus x (tile_place x u) (ahead x v) ∙ ap (λ (a : ℕ). a + step_of x v) (tile_at_tile_place x ok u h)

-- ---- how many tiles exist before number n of the box

module _ (x : Nest) (n t : ℕ) (low : t < tiles x) where
  pub counted_upto : length (keep (exists x) n) ≡ t → n ≤ box_tile x t
  counted_upto e = go (dec_lt (box_tile x t) n)
    where
      go : Dec (box_tile x t < n) → n ≤ box_tile x t
      go (yes h) = absurd (omega (arith, keep_lt (exists x) n (box_tile x t) h (box_tile_exists x t low), before_box_tile x t low))
      go (no h) = omega arith

  pub counted_above : length (keep (exists x) n) ≡ t → (w : ℕ) → w < t → box_tile x w < n
  counted_above e w l = go (dec_lt (box_tile x w) n)
    where
      go : Dec (box_tile x w < n) → box_tile x w < n
      go (yes h) = h
      go (no h) =
          absurd (omega (arith, keep_mono (exists x) (box_tile x w) n (omega arith), before_box_tile x w (omega arith)))

  -- above the tile before t, and not above t
  pub counted_is : n ≤ box_tile x t → ((w : ℕ) → suc w ≡ t → box_tile x w < n) → length (keep (exists x) n) ≡ t
  counted_is upto above = go t refl
    where
      most : length (keep (exists x) n) ≤ t
      most = omega (arith, keep_mono (exists x) (box_tile x t) n upto, before_box_tile x t low)

      go : (k : ℕ) → k ≡ t → length (keep (exists x) n) ≡ t
      go zero e = omega (arith, most)
      go (suc w) e =
          let l : w < tiles x = omega arith in
          omega (arith, most, keep_lt (exists x) n (box_tile x w) (above w e) (box_tile_exists x w l), before_box_tile x w l)

-- ---- the taker

-- between two numbers whose first m components are the same, they are the same
between : (N : ℕ → ℕ) (l m c d e : ℕ) → Positive N l → m ≤ l → c ≤ d → d ≤ e → e < product N l
    → ((j : ℕ) → j < m → place N l c j ≡ place N l e j) → (j : ℕ) → j < m → place N l d j ≡ place N l c j
unfolding product
between N zero m c d e p h cd de low s j k = absurd (omega arith)
between N (suc l) m c d e p h cd de low s j k =
    go (eq-or-lt_of_le h)
    (λ q. between N l m (c / N l) (d / N l) (e / N l) (λ i b. p i (omega arith)) (le_of_suc-le-suc q)
    (div_le (N l) c d (p l (omega arith)) cd) (div_le (N l) d e (p l (omega arith)) de) ((div-lt_iff_lt-mul (p l (omega arith))).1 low)
    (λ i b. sym (place_before N l c i (omega arith)) ∙ (s i b ∙ place_before N l e i (omega arith))) j k)
  where
    all_same : m ≡ suc l → c ≡ e
    all_same q =
        sym (rank_place N (suc l) c p (omega arith))
        ∙ (rank_same N (place N (suc l) c) (place N (suc l) e) (suc l) (λ i b. s i (omega arith)) ∙ rank_place N (suc l) e p low)

    go : (m ≡ suc l) ⊎ (m < suc l) → (m < suc l → place N l (d / N l) j ≡ place N l (c / N l) j)
        → place N (suc l) d j ≡ place N (suc l) c j
    go (inl q) ih = let z : d ≡ c = omega (arith, all_same q) in ap (λ (a : ℕ). place N (suc l) a j) z
    go (inr q) ih = place_before N l d j (omega arith) ∙ (ih q ∙ sym (place_before N l c j (omega arith)))

module _ (x : Nest) (ok : Accepted x) (u v c e : ℕ) (h : Crossed x u v c e) where
  -- how many tiles exist before u plus v
  abbrev n : ℕ
  n = length (keep (exists x) (taker x u v))

  n_le : n ≤ shaped_taker x u v
  n_le =
      omega (
        arith,
        before_box_tile x (shaped_taker x u v) (shaped_taker_low x ok u v c e h),
        keep_mono (exists x) (box_tile x (shaped_taker x u v)) (taker x u v) (shaped_taker_from x ok u v c e h),
      )

  n_low : n < tiles x
  n_low = omega (arith, n_le, shaped_taker_low x ok u v c e h)

  -- tile n stands from u plus v on, and not beyond the reader's
  n_from : taker x u v ≤ box_tile x n
  n_from = counted_upto x (taker x u v) n n_low refl

  n_upto : box_tile x n ≤ box_tile_of x (reader x ok u v c e h)
  n_upto = go (eq-or-lt_of_le n_reader)
    where
      n_reader : n ≤ reader_tile x ok u v c e h
      n_reader = omega (arith, n_le, shaped_taker_le x ok u v c e h)

      go : (n ≡ reader_tile x ok u v c e h) ⊎ (n < reader_tile x ok u v c e h) → box_tile x n ≤ box_tile_of x (reader x ok u v c e h)
      go (inl z) = omega (arith, ap (box_tile x) z, reader_tile_box x ok u v c e h)
      go (inr z) =
          omega (
            arith,
            reader_tile_box x ok u v c e h,
            counted_above x (box_tile x (reader_tile x ok u v c e h)) (reader_tile x ok u v c e h) (reader_tile_low x ok u v c e h)
                (before_box_tile x (reader_tile x ok u v c e h) (reader_tile_low x ok u v c e h)) n z,
          )

  -- so it is in their column
  n_column : (j : ℕ) → j < x.spread → tile_place x (box_tile x n) j ≡ tile_place x u j + ahead x v j
  unfolding box_tiles tile_place
  n_column j l =
      between (tile_count x) x.dimensions x.spread (taker x u v) (box_tile x n) (box_tile_of x (reader x ok u v c e h))
      (tile_count_pos x ok) (omega (arith, ok.spread_low)) n_from n_upto (box_tile_of_low x ok (reader x ok u v c e h)) ends j l
      ∙ taker_place x ok u v c e h.held j (omega (arith, ok.spread_low))
    where
      ends : (j : ℕ) → j < x.spread → tile_place x (taker x u v) j ≡ tile_place x (box_tile_of x (reader x ok u v c e h)) j
      ends j l = taker_place x ok u v c e h.held j (omega (arith, ok.spread_low)) ∙ sym (reader_column x ok u v c e h j l)

  -- the taker's number
  pub taker_counts : shaped_taker x u v ≡ length (keep (exists x) (taker x u v))
  taker_counts = omega (arith, n_le, shaped_taker_first x ok u v c e h n n_low n_from n_column)

  -- its processor is that of u plus v
  pub taker_processor : processor_of x (box_tile x (shaped_taker x u v)) ≡ processor_of x (taker x u v)
  taker_processor =
      processor_of_same x ok (box_tile x (shaped_taker x u v)) (taker x u v)
      (λ j l. shaped_taker_column x ok u v c e h j l ∙ sym (taker_place x ok u v c e h.held j (omega (arith, ok.spread_low))))
