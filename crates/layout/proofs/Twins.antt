-- Tiles whose slots hold as many cells: one tile back along a dimension, where the tile after is whole and, on the indirect route,
-- in every spread dimension but the last, there are two tiles before.
use Prim.Native.Nat.{ℕ, suc, ◌+◌, ◌*◌, ◌-◌, ◌%◌, ◌≤◌, ◌<◌, min}
use mathlib.Core.Path.{◌≡◌, refl, sym, ap, ◌∙◌}
use mathlib.Core.Bool.{Bool, true, false}
use mathlib.Core.List.{List, [], map}
use native.Mathlib.Nat.{mul-le-mul_right, suc-mul}
use native.Mathlib.Decide.{dec_lt, ℕ_discrete}
use native.Mathlib.Omega.{arith}
use lib.ListN.{length, length-map}
use lib.Dec.{ltb, leb, eqb}
use borrow.Author.Tests.{eq-eqb, ne_eqb, ltb-true, lt-ltb, le-ltb, leb-true, le-leb}
use Rattle.base.specs.Tests.{◌and◌, pick, one, keep, product}
use Rattle.base.proofs.Tests.{and_true, same_test, some_same, pick_true, pick_false, one_true, one_false}
use Rattle.base.proofs.Select.{keep_same}
use Rattle.nest.specs.declared.Nest.{Nest}
use Rattle.nest.specs.Accepted.{Accepted}
use Rattle.nest.specs.Nest.{length_of, tile_length, processor_count, component, box_tiles}
use Rattle.plan.specs.declared.Route.{Route}
use Rattle.plan.specs.declared.Route.TheVariants.{Direct, Indirect}
use Rattle.nest.specs.Places.{tile_place}
use Rattle.plan.specs.Messages.{ahead, ways, slots, slot_tile, slot_direction, slot_dimension, slot_cells, slot_parcel}
use Rattle.plan.specs.Hops.{hops, alone}
use Rattle.layout.specs.Regions.{Region, among, side, region_size, region_place, region_cell, tiles_box, tiles_window, slot_box, slot_window, comes_into}
use Rattle.nest.proofs.Rank.{place_low, product_same, place_lengths}
use Rattle.plan.proofs.Grid.{every_same}
use Rattle.plan.proofs.Parcels.{ahead_low, ahead_beyond, slot_dimension_low, slot_low, slot_tile_lem, slot_way}
use Rattle.plan.proofs.Homes.{slot_parcel_is}
use Rattle.layout.proofs.Regions.{low_is, high_is, low_rest, high_rest, slot_box_fits, slot_region}

-- ---- a test moved with its bounds

moved_test : (l h i m k o p : ℕ) → l ≡ m + p → h ≡ k + p → i ≡ o + p → (leb l i and ltb i h) ≡ (leb m o and ltb o k)
moved_test l h i m k o p a b c =
    rw (
      same_test {a = leb l i} {b = leb m o} (λ t. le-leb m o (omega (arith, leb-true l i t)))
          (λ t. le-leb l i (omega (arith, leb-true m o t))),
      same_test {a = ltb i h} {b = ltb o k} (λ t. lt-ltb o k (omega (arith, ltb-true i h t)))
          (λ t. lt-ltb i h (omega (arith, ltb-true o k t))),
    )

true_test : (l h i m k o : ℕ) → l ≤ i → i < h → m ≤ o → o < k → (leb l i and ltb i h) ≡ (leb m o and ltb o k)
true_test l h i m k o a b c d = and_true (le-leb l i a) (lt-ltb i h b) ∙ sym (and_true (le-leb m o c) (lt-ltb o k d))

-- ---- boxes and windows moved together hold as many

module _ (x : Nest) (b c w u : Region) (g : ℕ → ℕ) where
  pub record Moved : Type 0 where
    pub room : (j : ℕ) → j < x.dimensions → c.low j < c.high j
    pub low : (j : ℕ) → j < x.dimensions → b.low j ≡ c.low j + g j
    pub high : (j : ℕ) → j < x.dimensions → b.high j ≡ c.high j + g j
    pub test : (j e i : ℕ) → j < x.dimensions → e < x.distances → c.low j ≤ i → i < c.high j
        → (leb (w.low j) (i + g j + component x e j) and ltb (i + g j + component x e j) (w.high j))
        ≡ (leb (u.low j) (i + component x e j) and ltb (i + component x e j) (u.high j))

  module _ (m : Moved) where
    sides : (j : ℕ) → j < x.dimensions → side b j ≡ side c j
    sides j l = omega (arith, m.low j l, m.high j l)

    places : (n j : ℕ) → j < x.dimensions → region_place x b n j ≡ region_place x c n j + g j
    unfolding region_place
    places n j l = omega (arith, m.low j l, place_lengths (side b) (side c) x.dimensions n j sides)

    inside : (n j : ℕ) → j < x.dimensions → (c.low j ≤ region_place x c n j) × (region_place x c n j < c.high j)
    unfolding region_place
    inside n j l = (omega arith, omega (arith, m.room j l, place_low (side c) x.dimensions n (λ i k. omega (arith, m.room i k)) j l))

    comes : (n : ℕ) → comes_into x w (region_place x b n) ≡ comes_into x u (region_place x c n)
    unfolding comes_into among
    comes n =
        some_same _ _ x.distances
        (λ e le. every_same _ _ x.dimensions
        (λ j l. ap (λ (a : ℕ). leb (w.low j) (a + component x e j) and ltb (a + component x e j) (w.high j)) (places n j l)
        ∙ m.test j e (region_place x c n j) l le (inside n j l).0 (inside n j l).1))

    pub moved_length : length (map (region_cell x b) (keep (λ n. comes_into x w (region_place x b n)) (region_size x b)))
        ≡ length (map (region_cell x c) (keep (λ n. comes_into x u (region_place x c n)) (region_size x c)))
    unfolding region_size
    moved_length =
        length-map (keep (λ n. comes_into x w (region_place x b n)) (product (side b) x.dimensions)) (region_cell x b)
        ∙ (ap length (keep_same _ _ (product (side b) x.dimensions) (λ n l. comes n)
        ∙ ap (keep (λ n. comes_into x u (region_place x c n))) (product_same (side b) (side c) x.dimensions sides))
        ∙ sym (length-map (keep (λ n. comes_into x u (region_place x c n)) (product (side c) x.dimensions)) (region_cell x c)))

-- ---- one dimension

up : (k a b : ℕ) → a ≡ suc b → a * k ≡ b * k + k
up k a b e = ap (λ (n : ℕ). n * k) e ∙ suc-mul b k

fits : (k n t a : ℕ) → suc (suc t) * k ≤ n → a ≤ suc t → a * k + k ≤ n
fits k n t a h l = omega (arith, mul-le-mul_right k l, suc-mul (suc t) k)

top : (k n a b : ℕ) → a ≡ suc b → a * k + k ≤ n → min (a * k + k) n ≡ min (b * k + k) n + k
top k n a b e h = omega (arith, up k a b e)

-- ---- a box from tile f1 to tile f2, a window from f3 to f4 where spread; all one back along dimension a

record Back (x : Nest) (a most : ℕ) (f h : ℕ → ℕ) : Type 0 where
  others : (j : ℕ) → j < x.dimensions → (j ≡ a → ⊥) → f j ≡ h j
  here : f a ≡ suc (h a)
  low : f a ≤ most

module _ (x : Nest) (ok : Accepted x) (a t : ℕ) (whole : suc (suc t) * tile_length x a ≤ length_of x a)
    (f1 f2 f3 f4 h1 h2 h3 h4 : ℕ → ℕ) (b1 : Back x a t f1 h1) (b2 : Back x a t f2 h2) (b3 : Back x a (suc t) f3 h3)
    (b4 : Back x a (suc t) f4 h4)
    (room : (j : ℕ) → j < x.dimensions → (tiles_box x h1 h2).low j < (tiles_box x h1 h2).high j) where
  g : ℕ → ℕ
  g j = pick (eqb j a) (tile_length x j) 0

  g_here : (j : ℕ) → j ≡ a → g j ≡ tile_length x j
  unfolding g
  g_here j e = pick_true (eqb j a) (tile_length x j) 0 (eq-eqb j a e)

  g_else : (j : ℕ) → (j ≡ a → ⊥) → g j ≡ 0
  unfolding g
  g_else j n = pick_false (eqb j a) (tile_length x j) 0 (ne_eqb j a n)

  -- in dimension a
  begin_at : (most : ℕ) (f h : ℕ → ℕ) → Back x a most f h → (j : ℕ) → j ≡ a → f j * tile_length x j ≡ h j * tile_length x j + tile_length x j
  begin_at most f h k j e = up (tile_length x j) (f j) (h j) (rw e k.here)

  fits_at_lem : (f h : ℕ → ℕ) → Back x a (suc t) f h → (j : ℕ) → j ≡ a → f j * tile_length x j + tile_length x j ≤ length_of x j
  fits_at_lem f h k j e = fits (tile_length x j) (length_of x j) t (f j) (rw e whole) (rw e k.low)

  end_at : (f h : ℕ → ℕ) → Back x a (suc t) f h → (j : ℕ) → j ≡ a
      → min (f j * tile_length x j + tile_length x j) (length_of x j)
      ≡ min (h j * tile_length x j + tile_length x j) (length_of x j) + tile_length x j
  end_at f h k j e = top (tile_length x j) (length_of x j) (f j) (h j) (rw e k.here) (fits_at_lem f h k j e)

  looser : (f h : ℕ → ℕ) → Back x a t f h → Back x a (suc t) f h
  looser f h k = record { others = k.others; here = k.here; low = omega (arith, k.low) }

  box_low : (j : ℕ) → j < x.dimensions → Dec (j ≡ a) → f1 j * tile_length x j ≡ h1 j * tile_length x j + g j
  box_low j l (yes e) = omega (arith, begin_at t f1 h1 b1 j e, g_here j e)
  box_low j l (no n) = ap (λ (c : ℕ). c * tile_length x j) (b1.others j l n) ∙ omega (arith, g_else j n)

  box_high : (j : ℕ) → j < x.dimensions → Dec (j ≡ a)
      → min (f2 j * tile_length x j + tile_length x j) (length_of x j) ≡ min (h2 j * tile_length x j + tile_length x j) (length_of x j) + g j
  box_high j l (yes e) = end_at f2 h2 (looser f2 h2 b2) j e
      ∙ ap (λ (c : ℕ). min (h2 j * tile_length x j + tile_length x j) (length_of x j) + c) (sym (g_here j e))
  box_high j l (no n) =
      ap (λ (c : ℕ). min (c * tile_length x j + tile_length x j) (length_of x j)) (b2.others j l n) ∙ omega (arith, g_else j n)

  test : (j e i : ℕ) → j < x.dimensions → e < x.distances → (tiles_box x h1 h2).low j ≤ i → i < (tiles_box x h1 h2).high j → Dec (j ≡ a)
      → Dec (j < x.spread)
      → (leb ((tiles_window x f3 f4).low j) (i + g j + component x e j) and ltb (i + g j + component x e j) ((tiles_window x f3 f4).high j))
      ≡ (leb ((tiles_window x h3 h4).low j) (i + component x e j) and ltb (i + component x e j) ((tiles_window x h3 h4).high j))
  test j e i l le lo hi (yes k) (yes q) =
      moved_test _ _ (i + g j + component x e j) _ _ (i + component x e j) (tile_length x j)
      (low_is x f3 f4 j q ∙ begin_at (suc t) f3 h3 b3 j k ∙ ap (λ (c : ℕ). c + tile_length x j) (sym (low_is x h3 h4 j q)))
      (high_is x f3 f4 j q ∙ end_at f4 h4 b4 j k ∙ ap (λ (c : ℕ). c + tile_length x j) (sym (high_is x h3 h4 j q)))
      (omega (arith, g_here j k))
  test j e i l le lo hi (yes k) (no q) =
      let n : x.spread ≤ j = omega arith in
      let d : component x e j ≤ tile_length x j = ok.near e j le l in
      let m = begin_at t f2 h2 b2 j k in
      let o : f2 j * tile_length x j + tile_length x j + tile_length x j ≤ length_of x j = wide j k in
      true_test _ _ (i + g j + component x e j) _ _ (i + component x e j)
      (omega (arith, low_rest x f3 f4 j n))
      (omega (arith, high_rest x f3 f4 j n, g_here j k))
      (omega (arith, low_rest x h3 h4 j n))
      (omega (arith, high_rest x h3 h4 j n))
    where
      wide : (j : ℕ) → j ≡ a → f2 j * tile_length x j + tile_length x j + tile_length x j ≤ length_of x j
      wide j k =
          let u : suc (suc t) * tile_length x j ≤ length_of x j = rw k whole in
          let v : f2 j ≤ t = rw k b2.low in
          omega (arith, mul-le-mul_right (tile_length x j) v, suc-mul (suc t) (tile_length x j), suc-mul t (tile_length x j))
  test j e i l le lo hi (no k) q =
      moved_test _ _ (i + g j + component x e j) _ _ (i + component x e j) 0
      (ap (λ (c : ℕ). pick (ltb j x.spread) (c * tile_length x j) 0) (b3.others j l k) ∙ omega arith)
      (ap (λ (c : ℕ). pick (ltb j x.spread) (min (c * tile_length x j + tile_length x j) (length_of x j)) (length_of x j)) (b4.others j l k)
      ∙ omega arith)
      (omega (arith, g_else j k))

  spans_moved : Moved x (tiles_box x f1 f2) (tiles_box x h1 h2) (tiles_window x f3 f4) (tiles_window x h3 h4) g
  spans_moved =
      record {
        room = room;
        low = λ j l. box_low j l (ℕ_discrete j a);
        high = λ j l. box_high j l (ℕ_discrete j a);
        test = λ j e i l le lo hi. test j e i l le lo hi (ℕ_discrete j a) (dec_lt j x.spread);
      }

-- ---- tile t and the tile u one before it along dimension a

module _ (x : Nest) (ok : Accepted x) (t u a : ℕ) (lt : t < box_tiles x) (lu : u < box_tiles x) (la : a < x.dimensions)
    (here : tile_place x t a ≡ suc (tile_place x u a))
    (elsewhere : (j : ℕ) → j < x.dimensions → (j ≡ a → ⊥) → tile_place x t j ≡ tile_place x u j)
    (whole : suc (suc (tile_place x t a)) * tile_length x a ≤ length_of x a) where
  -- slots s of t and z of u, of the same direction or dimension
  module _ (r : Route) (s z : ℕ) (ls : s < slots r x) (lz : z < slots r x) (st : slot_tile r x s ≡ t) (zt : slot_tile r x z ≡ u) where
    own : (most : ℕ) → tile_place x t a ≤ most → Back x a most (tile_place x (slot_tile r x s)) (tile_place x (slot_tile r x z))
    own most l =
        record {
          others = λ j k n. ap (λ (y : ℕ). tile_place x y j) st ∙ (elsewhere j k n ∙ ap (λ (y : ℕ). tile_place x y j) (sym zt));
          here = ap (λ (y : ℕ). tile_place x y a) st ∙ (here ∙ ap (λ (y : ℕ). suc (tile_place x y a)) (sym zt));
          low = rw st l;
        }

    -- so many tiles on
    on : (d e : ℕ → ℕ) → ((j : ℕ) → j < x.dimensions → d j ≡ e j) → d a ≤ 1
        → Back x a (suc (tile_place x t a)) (λ j. tile_place x (slot_tile r x s) j + d j) (λ j. tile_place x (slot_tile r x z) j + e j)
    on d e h l =
        let k = own (tile_place x t a) (omega arith) in
        record {
          others = λ j m n. omega (arith, k.others j m n, h j m);
          here = omega (arith, k.here, h a la);
          low = omega (arith, k.low);
        }

    -- one tile fewer where d is 1: there have to be two
    off : (d e : ℕ → ℕ) → ((j : ℕ) → j < x.dimensions → d j ≡ e j) → suc (d a) ≤ tile_place x t a
        → Back x a (tile_place x t a) (λ j. tile_place x (slot_tile r x s) j - d j) (λ j. tile_place x (slot_tile r x z) j - e j)
    off d e h l =
        let k = own (tile_place x t a) (omega arith) in
        let at : tile_place x (slot_tile r x s) a ≡ tile_place x t a = ap (λ (y : ℕ). tile_place x y a) st in
        record {
          others = λ j m n. omega (arith, k.others j m n, h j m);
          here = omega (arith, k.here, h a la);
          low = omega (arith, k.low);
        }

  one_low : (b : Bool) → one b ≤ 1
  unfolding one
  one_low true = omega arith
  one_low false = omega arith

  ahead_few : (v j : ℕ) → ahead x v j ≤ 1
  ahead_few v j = go (dec_lt j x.spread)
    where
      go : Dec (j < x.spread) → ahead x v j ≤ 1
      go (yes l) = ahead_low x v j l
      go (no l) = omega (arith, ahead_beyond x v j (omega arith))

  direct_twin : (s z : ℕ) → s < slots Direct x → z < slots Direct x → slot_tile Direct x s ≡ t → slot_tile Direct x z ≡ u
      → slot_direction x s ≡ slot_direction x z
      → length (slot_cells Direct x s) ≡ length (slot_cells Direct x z)
  direct_twin s z ls lz st zt sw =
      let b = own Direct s z ls lz st zt (tile_place x t a) (omega arith) in
      let d = on Direct s z ls lz st zt (ahead x (slot_direction x s)) (ahead x (slot_direction x z))
      (λ j l. ap (λ (y : ℕ). ahead x y j) sw) (ahead_few (slot_direction x s) a) in
      ap length (slot_region x ok Direct s ls)
      ∙ (moved_length x (slot_box Direct x s) (slot_box Direct x z) (slot_window Direct x s) (slot_window Direct x z) _
      (spans_moved x ok a (tile_place x t a) whole _ _ _ _ _ _ _ _ b b d d (λ j l. (slot_box_fits x ok Direct z j lz l).0))
      ∙ sym (ap length (slot_region x ok Direct z lz)))

  indirect_twin : (s z : ℕ) → s < slots Indirect x → z < slots Indirect x → slot_tile Indirect x s ≡ t → slot_tile Indirect x z ≡ u
      → slot_dimension x s ≡ slot_dimension x z
      → (suc a < x.spread → 2 ≤ tile_place x t a) → length (slot_cells Indirect x s) ≡ length (slot_cells Indirect x z)
  indirect_twin s z ls lz st zt sw second =
      let b = own Indirect s z ls lz st zt (tile_place x t a) (omega arith) in
      let o = off Indirect s z ls lz st zt (λ j. one (ltb j (slot_dimension x s))) (λ j. one (ltb j (slot_dimension x z)))
      (λ j l. ap (λ (y : ℕ). one (ltb j y)) sw) (enough (dec_lt a (slot_dimension x s))) in
      let d = on Indirect s z ls lz st zt (λ j. one (eqb j (slot_dimension x s))) (λ j. one (eqb j (slot_dimension x z)))
      (λ j l. ap (λ (y : ℕ). one (eqb j y)) sw) (one_low _) in
      let f = on Indirect s z ls lz st zt (λ j. one (leb (slot_dimension x s) j)) (λ j. one (leb (slot_dimension x z) j))
      (λ j l. ap (λ (y : ℕ). one (leb y j)) sw) (one_low _) in
      ap length (slot_region x ok Indirect s ls)
      ∙ (moved_length x (slot_box Indirect x s) (slot_box Indirect x z) (slot_window Indirect x s) (slot_window Indirect x z) _
      (spans_moved x ok a (tile_place x t a) whole _ _ _ _ _ _ _ _ o b d f (λ j l. (slot_box_fits x ok Indirect z j lz l).0))
      ∙ sym (ap length (slot_region x ok Indirect z lz)))
    where
      enough : Dec (a < slot_dimension x s) → suc (one (ltb a (slot_dimension x s))) ≤ tile_place x t a
      enough (yes h) = omega (arith, one_true (lt-ltb a (slot_dimension x s) h), second (omega (arith, slot_dimension_low x s ls)))
      enough (no h) = omega (arith, one_false (le-ltb a (slot_dimension x s) (omega arith)))

  -- the slots of t and of u hold as many cells each, and their messages as many words
  pub twin : (r : Route) (w : ℕ) → w < ways r x → (r ≡ Indirect → suc a < x.spread → 2 ≤ tile_place x t a)
      → (length (slot_cells r x (t * ways r x + w)) ≡ length (slot_cells r x (u * ways r x + w)))
      × (length (slot_parcel r x (t * ways r x + w)) ≡ length (slot_parcel r x (u * ways r x + w)))
  unfolding pick
  twin r w lw second = (cells_same r lw second, parcels_same r lw (cells_same r lw second))
    where
      ways_same : (r : Route) (lw : w < ways r x) → (t * ways r x + w) % ways r x ≡ (u * ways r x + w) % ways r x
      ways_same r lw = slot_way x r t w lt lw ∙ sym (slot_way x r u w lu lw)

      cells_same : (r : Route) → w < ways r x → (r ≡ Indirect → suc a < x.spread → 2 ≤ tile_place x t a)
          → length (slot_cells r x (t * ways r x + w)) ≡ length (slot_cells r x (u * ways r x + w))
      cells_same Direct lw k =
          direct_twin _ _ (slot_low x Direct t w lt lw) (slot_low x Direct u w lu lw) (slot_tile_lem x Direct t w lt lw)
          (slot_tile_lem x Direct u w lu lw)
          (ap (λ (y : ℕ). y + 1) (ways_same Direct lw))
      cells_same Indirect lw k =
          indirect_twin _ _ (slot_low x Indirect t w lt lw) (slot_low x Indirect u w lu lw) (slot_tile_lem x Indirect t w lt lw)
          (slot_tile_lem x Indirect u w lu lw)
          (ways_same Indirect lw) (k refl)

      alone_same : (r : Route) → w < ways r x → alone r x (t * ways r x + w) ≡ alone r x (u * ways r x + w)
      alone_same Direct lw = ap (λ (y : ℕ). eqb (hops x (y + 1)) 0) (ways_same Direct lw)
      alone_same Indirect lw = ap (λ (y : ℕ). leb (processor_count x y) 1) (ways_same Indirect lw)

      kept : (b : Bool) (cs ds : List ℕ) → length cs ≡ length ds → length (pick b [] cs) ≡ length (pick b [] ds)
      kept true cs ds e = refl
      kept false cs ds e = e

      parcels_same : (r : Route) → w < ways r x → length (slot_cells r x (t * ways r x + w)) ≡ length (slot_cells r x (u * ways r x + w))
          → length (slot_parcel r x (t * ways r x + w)) ≡ length (slot_parcel r x (u * ways r x + w))
      parcels_same r lw e =
          ap length (slot_parcel_is x ok r (t * ways r x + w) (slot_low x r t w lt lw))
          ∙ (kept (alone r x (t * ways r x + w)) _ _ e
          ∙ (ap (λ (b : Bool). length (pick b [] (slot_cells r x (u * ways r x + w)))) (alone_same r lw)
          ∙ sym (ap length (slot_parcel_is x ok r (u * ways r x + w) (slot_low x r u w lu lw)))))
