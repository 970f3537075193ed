-- Laws of the ways that a tile's messages go, and of the steps from a slot's sender to the tile at one of its ends.
use Prim.Native.Nat.{ℕ, zero, suc, ◌+◌, ◌-◌, ◌/◌, ◌%◌, ◌≤◌, ◌<◌}
use mathlib.Core.Path.{◌≡◌, refl, sym, ap, ◌∙◌}
use mathlib.Core.List.{List}
use native.Mathlib.Nat.{mod-lt, mul-le-mul_right}
use native.Mathlib.Decide.{dec_lt, ℕ_discrete}
use native.Mathlib.Omega.{arith}
use lib.ListN.{get_or, set, replicate, get_or-replicate}
use lib.Seq.{get_or-set_same, get_or-set_other}
use lib.Dec.{eqb}
use borrow.Author.Tests.{eq-eqb, ne_eqb}
use Rattle.base.specs.Tests.{one, product}
use Rattle.base.proofs.Tests.{one_true, one_false}
use Rattle.nest.specs.declared.Nest.{Nest}
use Rattle.nest.specs.Accepted.{Accepted}
use Rattle.nest.specs.Nest.{tile_count, box_tiles}
use Rattle.plan.specs.declared.Route.{Route}
use Rattle.plan.specs.declared.Route.TheVariants.{Direct, Indirect}
use Rattle.nest.specs.Places.{place, tile_at, tile_place}
use Rattle.plan.specs.Messages.{two, directions, ahead, taker, neighbour, ways, slots, slot_tile, slot_taker}
use Rattle.plan.proofs.Tiles.{tile_count_pos, tile_at_tile_place}
use Rattle.plan.proofs.Parcels.{ahead_beyond, ahead_low, slot_tile_low}
use Rattle.layout.specs.Sizes.{along, end_at, Stepped}
use Rattle.layout.specs.RouteWords.{route_of}
use Rattle.layout.specs.Places.{nth, Has, Places, Placed}
use Rattle.layout.proofs.Dims.{product_pos, place_lengths, rank_add, rank_most}
use Rattle.layout.proofs.Cells.{four, zeros, twos, two_few, two_product, box_few}
use Rattle.layout.proofs.Loops.{Filled, filled_end}

pub route_direct : (word : ℕ) → word ≡ 0 → Direct ≡ route_of word
unfolding route_of
route_direct word e = rw e

pub route_indirect : (word : ℕ) → (word ≡ 0 → ⊥) → Indirect ≡ route_of word
unfolding route_of
route_indirect zero f = absurd (f refl)
route_indirect (suc word) f = refl

many : (m : ℕ) → 1 ≤ m → 2 ≤ product two m
unfolding product
many zero h = absurd (omega arith)
many (suc m) h = omega (arith, product_pos two m (λ j k. omega arith))

module _ (x : Nest) (ok : Accepted x) where
  -- ---- how many ways

  spread_few : x.spread ≤ 3
  spread_few = omega (arith, ok.spread_low, ok.dimensions_most)

  pub ways_direct : (r : Route) → r ≡ Direct → (n : ℕ) → n ≡ product (nth (four 2)) x.spread → n - 1 ≡ ways r x
  unfolding directions
  ways_direct r is n e = rw is (omega (arith, e, two_product x.spread spread_few))

  pub ways_indirect : (r : Route) → r ≡ Indirect → x.spread ≡ ways r x
  ways_indirect r is = rw is

  pub more_directions : (n : ℕ) → n ≡ product (nth (four 2)) x.spread → 1 ≤ n
  more_directions n e = omega (arith, e, two_product x.spread spread_few, many x.spread ok.spread_least)

  pub ways_pos : (r : Route) → 1 ≤ ways r x
  unfolding directions
  ways_pos Direct = omega (arith, many x.spread ok.spread_least)
  ways_pos Indirect = ok.spread_least

  pub ways_few : (r : Route) → ways r x ≤ 7
  unfolding directions
  ways_few Direct = omega (arith, two_few x.spread spread_few)
  ways_few Indirect = omega (arith, spread_few)

  -- ---- how a way moves a tile's place, as the array that holds it

  pub ahead_places : Places (four 2) (four 0) x.spread
  ahead_places =
      record {
        low = omega (arith, spread_few);
        positive = λ j h. omega (arith, twos j (omega (arith, spread_few)));
        small = λ j h. omega (arith, zeros j, twos j (omega (arith, spread_few)));
      }

  pub along_direct : (r : Route) → r ≡ Direct → (w : ℕ) (l : List ℕ) → Placed (four 2) (four 0) (w + 1) x.spread l → Has l (along r x w) x.dimensions
  unfolding along ahead
  along_direct r is w l p = rw is (record { each = λ j h. go j (dec_lt j x.spread) })
    where
      go : (j : ℕ) → Dec (j < x.spread) → get_or l j 0 ≡ place two x.spread (w + 1) j
      go j (yes k) =
          omega (arith, p.first j k, zeros j, place_lengths (nth (four 2)) two x.spread (w + 1) j (λ q i. twos q (omega (arith, spread_few))))
      go j (no k) = omega (arith, p.rest j (omega arith), zeros j, ahead_beyond x (w + 1) j (omega arith))

  pub way_few : (r : Route) → r ≡ Indirect → (w : ℕ) → w < ways r x → w < 3
  way_few r is w k = let l : w < x.spread = rw is at k in omega (arith, spread_few)

  pub along_indirect : (r : Route) → r ≡ Indirect → (w : ℕ) → w < ways r x → Has (set (four 0) w 1) (along r x w) x.dimensions
  unfolding along
  along_indirect r is w k = rw is (record { each = λ j h. go j (ℕ_discrete j w) })
    where
      go : (j : ℕ) → Dec (j ≡ w) → get_or (set (four 0) w 1) j 0 ≡ one (eqb j w)
      go j (yes e) = rw e (get_or-set_same (four 0) w 1 0 (omega (arith, way_few r is w k)) ∙ sym (one_true (eq-eqb w w refl)))
      go j (no e) = get_or-set_other (four 0) w j 1 0 e ∙ (zeros j ∙ sym (one_false (ne_eqb j w e)))

  pub along_within : (r : Route) (w j : ℕ) → j < x.dimensions → along r x w j ≤ tile_count x j
  unfolding along
  along_within Direct w j h = go (dec_lt j x.spread)
    where
      go : Dec (j < x.spread) → ahead x (w + 1) j ≤ tile_count x j
      go (yes l) = omega (arith, ahead_low x (w + 1) j l, tile_count_pos x ok j h)
      go (no l) = omega (arith, ahead_beyond x (w + 1) j (omega arith))
  along_within Indirect w j h = go (ℕ_discrete j w)
    where
      go : Dec (j ≡ w) → one (eqb j w) ≤ tile_count x j
      go (yes e) = omega (arith, one_true (eq-eqb j w e), tile_count_pos x ok j h)
      go (no e) = omega (arith, one_false (ne_eqb j w e))

  pub step_few : (r : Route) (w : ℕ) → tile_at x (along r x w) ≤ 65536
  unfolding tile_at box_tiles
  step_few r w =
      omega (
        arith,
        rank_most (tile_count x) (along r x w) x.dimensions (tile_count_pos x ok) (along_within r w),
        mul-le-mul_right (product (tile_count x) x.dimensions) ok.dimensions_most,
        box_few x ok,
      )

  -- ---- the taker is the sender and the step

  tile_at_add : (a b : ℕ → ℕ) → tile_at x (λ j. a j + b j) ≡ tile_at x a + tile_at x b
  unfolding tile_at
  tile_at_add a b = rank_add (tile_count x) a b x.dimensions

  taker_along : (r : Route) (s : ℕ) → slot_taker r x s ≡ tile_at x (λ j. tile_place x (slot_tile r x s) j + along r x (s % ways r x) j)
  unfolding slot_taker taker neighbour along
  taker_along Direct s = refl
  taker_along Indirect s = refl

  taker_step : (r : Route) (s : ℕ) → s < slots r x → slot_taker r x s ≡ slot_tile r x s + tile_at x (along r x (s % ways r x))
  taker_step r s h =
      taker_along r s
      ∙ (tile_at_add (tile_place x (slot_tile r x s)) (along r x (s % ways r x))
      ∙ ap (λ (t : ℕ). t + tile_at x (along r x (s % ways r x))) (tile_at_tile_place x ok (slot_tile r x s) (slot_tile_low x r s h)))

  -- ---- the tile at an end

  module _ (r : Route) (n : ℕ) (is : n ≡ ways r x) where
    pub ways_some : 0 < n
    ways_some = omega (arith, ways_pos r)

    pub way_low : (s : ℕ) → s % n < ways r x
    way_low s = omega (arith, mod-lt s ways_some)

    pub end_fits : (s : ℕ) → s < slots r x → s / n ≤ 16384
    end_fits s h = let e : s / n ≡ slot_tile r x s = ap (λ (a : ℕ). s / a) is in omega (arith, slot_tile_low x r s h, box_few x ok)

    pub sender_is : (s i : ℕ) → i ≡ 0 → s / n ≡ end_at r x i s
    unfolding end_at
    sender_is s i e = rw (e, is)

    pub taker_is : (s i : ℕ) → s < slots r x → (i ≡ 0 → ⊥) → (a : ℕ) → a ≡ tile_at x (along r x (s % n)) → s / n + a ≡ end_at r x i s
    unfolding end_at
    taker_is s zero h f a e = absurd (f refl)
    taker_is s (suc i) h f a e = rw (e, is) (sym (taker_step r s h))

  -- ---- the steps along each way

  pub stepped_none : (r : Route) (i : ℕ) → i ≡ 0 → Stepped r x i (replicate 8 0)
  unfolding end_at
  stepped_none r i e = record { each = λ s h. rw e (omega (arith, get_or-replicate {A = ℕ} 8 (s % ways r x) 0 0 (low s))) }
    where
      low : (s : ℕ) → s % ways r x < 8
      low s = omega (arith, ways_few r, mod-lt s (ways_pos r))

  pub stepped_all : (r : Route) (i : ℕ) (l : List ℕ) (d : ℕ) → (i ≡ 0 → ⊥) → Filled 8 (λ w. tile_at x (along r x w)) (ways r x) l d → ways r x ≤ d
      → Stepped r x i l
  unfolding end_at
  stepped_all r zero l d f q h = absurd (f refl)
  stepped_all r (suc i) l d f q h =
      record {
        each = λ s k. taker_step r s k ∙ ap (λ (a : ℕ). slot_tile r x s + a) (sym ((filled_end _ _ l d q h).each (s % ways r x) (mod-lt s (ways_pos r))));
      }
