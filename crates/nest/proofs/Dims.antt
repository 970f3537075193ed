-- One turn of each recursion over the dimensions left: the number of a tile, and the place of a number.
use Prim.Native.Nat.{ℕ, zero, suc, ◌+◌, ◌*◌, ◌-◌, ◌/◌, ◌%◌, ◌≤◌, ◌<◌}
use mathlib.Core.Path.{◌≡◌, refl, sym, ◌∙◌}
use mathlib.Core.Logic.{◌⊎◌, inl, inr, ◌≢◌}
use mathlib.Core.List.{List}
use native.Mathlib.Nat.{eq-or-lt_of_le, le_of_suc-le-suc, div-le_self}
use native.Mathlib.Omega.{arith}
use lib.ListN.{length, get_or, set}
use lib.Seq.{get_or-set_same, get_or-set_other}
use Rattle.nest.specs.Places.{rank, place}
use Rattle.nest.specs.Spans.{spot, HasLengths, PlaceWritten, Tileable, tiles_along, tile_on}
use Rattle.nest.proofs.Laws.{product_room}
use Rattle.nest.proofs.Rank.{Within, rank_low, place_last, place_before, div_le}

-- ---- the number of a tile

module _ (N k at : List ℕ) (left : ℕ) (t : Tileable N k at left) where
  tiles_low : Within (tiles_along N k) (tile_on k at) left
  tiles_low j h = omega (arith, div_le (get_or k j 0) (spot at j) (get_or N j 0 - 1) (t.tiled j h) (omega (arith, t.inside j h)))

  tiles_few : rank (tiles_along N k) (tile_on k at) left < 18446744073709551616
  tiles_few =
      omega (
        arith,
        rank_low (tiles_along N k) (tile_on k at) left tiles_low,
        product_room (tiles_along N k) left t.low (λ j h. omega (arith, div-le_self (get_or N j 0 - 1) (get_or k j 0), t.length_most j h)),
      )

pub record TileTurn (N k at : List ℕ) (left : ℕ) : Type 0 where
  pub rest : Tileable N k at (left - 1)
  pub long : 1 ≤ get_or N (left - 1) 0
  pub length_most : get_or N (left - 1) 0 ≤ 1024
  pub tiled : 1 ≤ get_or k (left - 1) 0
  pub tile_wide : get_or k (left - 1) 0 < 65536
  pub component_most : spot at (left - 1) < 1024
  pub is : rank (tiles_along N k) (tile_on k at) left
      ≡ rank (tiles_along N k) (tile_on k at) (left - 1) * tiles_along N k (left - 1) + tile_on k at (left - 1)
  pub fits : rank (tiles_along N k) (tile_on k at) (left - 1) * tiles_along N k (left - 1) + tile_on k at (left - 1) < 18446744073709551616

pub tile_turn : (N k at : List ℕ) (left : ℕ) → left ≢ 0 → Tileable N k at left → TileTurn N k at left
unfolding rank
tile_turn N k at zero f t = absurd (f refl)
tile_turn N k at (suc l) f t =
    let z : suc l - 1 ≡ l = omega arith in
    let low : l < suc l = omega arith in
    let w = t.inside l low in
    record {
      rest = rw z (record {
        low = omega (arith, t.low);
        length_most = λ j h. t.length_most j (omega arith);
        tiled = λ j h. t.tiled j (omega arith);
        tile_wide = λ j h. t.tile_wide j (omega arith);
        inside = λ j h. t.inside j (omega arith);
      });
      long = rw z (omega (arith, w));
      length_most = rw z (t.length_most l low);
      tiled = rw z (t.tiled l low);
      tile_wide = rw z (t.tile_wide l low);
      component_most = rw z (omega (arith, w, t.length_most l low));
      is = rw z;
      fits = rw z (tiles_few N k at (suc l) t);
    }

-- by the numbers that the turn made
module _ (N k at : List ℕ) (left : ℕ) (t : TileTurn N k at left) (r across : ℕ) (e : r ≡ rank (tiles_along N k) (tile_on k at) (left - 1))
    (f : across ≡ tiles_along N k (left - 1)) where
  pub turn_product : r * across < 18446744073709551616
  turn_product = rw (e, f) (omega (arith, t.fits))

  module _ (tile : ℕ) (g : tile ≡ tile_on k at (left - 1)) where
    pub turn_sum : r * across + tile < 18446744073709551616
    turn_sum = rw (e, f, g) t.fits

    pub turn_is : r * across + tile ≡ rank (tiles_along N k) (tile_on k at) left
    turn_is = rw (e, f, g) (sym t.is)

-- ---- the place of a number

pub lengths_less : (N : List ℕ) (left : ℕ) → left ≢ 0 → HasLengths N left → HasLengths N (left - 1)
lengths_less N left f h = record { low = omega (arith, h.low); positive = λ j k. h.positive j (omega arith) }

pub written_none : (N at : List ℕ) (n left : ℕ) → left ≡ 0 → PlaceWritten N at n left at
written_none N at n left e = record { first = λ j h. absurd (omega arith); others = λ j h. refl }

pub written_more : (N at r : List ℕ) (n left : ℕ) → left ≢ 0 → left ≤ length at
    → PlaceWritten N (set at (left - 1) (n % get_or N (left - 1) 0)) (n / get_or N (left - 1) 0) (left - 1) r → PlaceWritten N at n left r
written_more N at r n zero f h p = absurd (f refl)
written_more N at r n (suc l) f h p =
    record {
      first = λ q k. go q (eq-or-lt_of_le (le_of_suc-le-suc k));
      others = λ q k. p'.others q (omega arith) ∙ get_or-set_other at l q (n % get_or N l 0) 0 (λ (e : q ≡ l). omega arith);
    }
  where
    z : suc l - 1 ≡ l
    z = omega arith

    p' : PlaceWritten N (set at l (n % get_or N l 0)) (n / get_or N l 0) l r
    p' = rw z at p

    go : (q : ℕ) → (q ≡ l) ⊎ (q < l) → get_or r q 0 ≡ place (spot N) (suc l) n q
    go q (inl e) = rw (e, place_last (spot N) l n) (p'.others l (omega arith) ∙ get_or-set_same at l (n % get_or N l 0) 0 (omega arith))
    go q (inr k) = rw (place_before (spot N) l n q k) (p'.first q k)
