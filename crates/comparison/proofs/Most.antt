-- How many messages and words a plan has at the most on the direct route: each tile sends at most 7, and a cell is at most once in each.
use Prim.Native.Nat.{ℕ, zero, suc, ◌+◌, ◌*◌, ◌/◌, ◌≤◌, ◌<◌}
use mathlib.Core.Path.{◌≡◌, refl, sym, ap, ◌∙◌}
use mathlib.Core.Bool.{Bool, true, false}
use mathlib.Core.List.{[], ◌++◌}
use native.Mathlib.Nat.{mul-le-mul_left, mul-le-mul_right, suc-mul, zero-mul, mul-zero, mul_comm, add-mul, add-zero, add-suc, mul-add-div_right, div-eq_of_lt}
use native.Mathlib.Omega.{arith}
use lib.ListN.{length, length-append}
use lib.Dec.{eqb}
use borrow.Author.Tests.{eq-eqb, eqb-true}
use Rattle.base.specs.Tests.{pick, keep, keep_if, those, sum}
use Rattle.base.proofs.Tests.{both, never_both, pick_true, sum_most, sum_same, sum_const}
use Rattle.base.proofs.Select.{sum_those}
use Rattle.machine.specs.Plan.{count, words}
use Rattle.nest.specs.declared.Nest.{Nest}
use Rattle.nest.specs.Accepted.{Accepted}
use Rattle.nest.specs.Nest.{cells}
use Rattle.nest.specs.Shape.{in_shape, tiles}
use Rattle.nest.specs.Places.{box_tile_of}
use Rattle.plan.specs.declared.Route.TheVariants.{Direct}
use Rattle.plan.specs.Messages.{directions, slot_tile, slot_direction}
use Rattle.plan.specs.Shaped.{tile_of, shaped_parcel, slot_box, shaped_home, shaped_slot_parcel, shaped_message, shaped_slots, plan_of}
use Rattle.plan.proofs.Listed.{total_sum}
use Rattle.plan.proofs.ShapedTiles.{tile_of_low, tile_of_is}
use Rattle.plan.proofs.ShapedSlots.{shaped_tile_low}
use Rattle.layout.specs.RouteWords.{route_of}
use Rattle.layout.proofs.Steps.{ways_few}
use Rattle.plan_text.proofs.Laws.{messages_most as most-by-route}

-- a sum over blocks of d, each of one value
sum_split : (f : ℕ → ℕ) (a b : ℕ) → sum f (a + b) ≡ sum f a + sum (λ i. f (a + i)) b
unfolding sum
sum_split f a zero = rw add-zero (omega arith)
sum_split f a (suc b) = rw add-suc (omega (arith, sum_split f a b))

sum_blocks : (f : ℕ → ℕ) (d n : ℕ) → 0 < d → sum (λ s. f (s / d)) (n * d) ≡ sum f n * d
unfolding sum
sum_blocks f d zero h = rw (zero-mul d)
sum_blocks f d (suc n) h =
    rw suc-mul
    (sum_split (λ s. f (s / d)) (n * d) d
    ∙ ap (λ (k : ℕ). k + sum (λ i. f ((n * d + i) / d)) d) (sum_blocks f d n h)
    ∙ ap (λ (k : ℕ). sum f n * d + k) (sum_same _ (λ i. f n) d (λ i l. ap f (at_block i l)) ∙ sum_const (f n) d ∙ mul_comm d (f n))
    ∙ sym (add-mul (sum f n) (f n) d))
  where
    at_block : (i : ℕ) → i < d → (n * d + i) / d ≡ n
    at_block i l = mul-add-div_right h n i ∙ ap (λ (k : ℕ). n + k) (div-eq_of_lt l) ∙ add-zero n

keep_fewer : (f g : ℕ → Bool) (n : ℕ) → ((i : ℕ) → f i ≡ true → g i ≡ true) → length (keep f n) ≤ length (keep g n)
unfolding keep
keep_fewer f g zero h = omega arith
keep_fewer f g (suc n) h = go (f n) (g n) (h n) (keep_fewer f g n h)
  where
    go : (s t : Bool) → (s ≡ true → t ≡ true) → length (keep f n) ≤ length (keep g n) → length (keep f n ++ keep_if s n) ≤ length (keep g n ++ keep_if t n)
    go true true k ih = simp length-append (omega arith)
    go true false k ih = absurd (never_both refl (sym (k refl)))
    go false t k ih = simp length-append (omega arith)

module _ (x : Nest) (ok : Accepted x) where
  pub messages_most : count (plan_of (route_of 0) x) ≤ 7168
  unfolding route_of
  messages_most = most-by-route Direct x ok (λ k. refl)

  -- the tile of a cell of the shape, and one number more for all others
  home : ℕ → ℕ
  home c = pick (in_shape x c) (tile_of x c) (tiles x)

  home_low : (c : ℕ) → c < cells x → home c < suc (tiles x)
  unfolding home pick
  home_low c h = go (in_shape x c) refl
    where
      go : (t : Bool) → in_shape x c ≡ t → pick t (tile_of x c) (tiles x) < suc (tiles x)
      go true e = let l : tile_of x c < tiles x = tile_of_low x ok c h e in omega (arith, l)
      go false e = omega arith

  homes_most : sum (λ t. length (those home t (cells x))) (tiles x) ≤ cells x
  unfolding sum
  homes_most =
      let a = sum_those home (suc (tiles x)) (cells x) home_low in
      omega (arith, a)

  -- what a slot holds is of its tile
  own : (q : ℕ) → q < shaped_slots x → length (shaped_slot_parcel x q) ≤ length (those home (slot_tile Direct x q) (cells x))
  unfolding shaped_slot_parcel shaped_parcel those home pick
  own q l = go (shaped_home x q)
    where
      at_home_lem : (c : ℕ) → in_shape x c ≡ true → box_tile_of x c ≡ slot_box x q → eqb (home c) (slot_tile Direct x q) ≡ true
      at_home_lem c i e = eq-eqb _ _ (pick_true (in_shape x c) _ _ i ∙ tile_of_is x (slot_tile Direct x q) c (shaped_tile_low x q l) e)

      go : (b : Bool) → length (pick b [] (shaped_parcel x (slot_box x q) (slot_direction x q))) ≤ length (those home (slot_tile Direct x q) (cells x))
      go true = omega arith
      go false = keep_fewer _ _ (cells x) (λ c e. at_home_lem c (both e).0 (eqb-true _ _ (both (both e).1).0))

  pub words_most : words (plan_of (route_of 0) x) ≤ cells x * 7
  unfolding sum route_of
  words_most =
      let a = total_sum (shaped_message x) (shaped_slots x) in
      let b = sum_most (λ q. length (shaped_slot_parcel x q)) (λ q. length (those home (slot_tile Direct x q) (cells x))) (shaped_slots x) own in
      let c = by_blocks (directions x) in
      let d = mul-le-mul_left (cells x) (ways_few x ok Direct) in
      omega (arith, a, b, c, d)
    where
      by_blocks : (d : ℕ) → sum (λ q. length (those home (q / d) (cells x))) (tiles x * d) ≤ cells x * d
      by_blocks zero = rw (mul-zero (tiles x), mul-zero (cells x)) (omega arith)
      by_blocks (suc d) =
          let a = sum_blocks (λ t. length (those home t (cells x))) (suc d) (tiles x) (omega arith) in
          omega (arith, a, mul-le-mul_right (suc d) homes_most)
