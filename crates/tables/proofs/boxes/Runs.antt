-- Runs of tiles with twins equally far before them: one tile back along a dimension, for as many tiles as the dimension allows it.
use Prim.Native.Nat.{ℕ, zero, suc, ◌+◌, ◌*◌, ◌-◌, ◌/◌, ◌%◌, ◌≤◌, ◌<◌}
use mathlib.Core.Path.{◌≡◌, refl, sym, ap, ◌∙◌, subst}
use mathlib.Core.Bool.{Bool, true}
use mathlib.Core.List.{List}
use native.Mathlib.Nat.{add-mul, mul-le-mul_right, mul-pos, mod-lt, mod-eq_of_lt, mul-add-mod_self_right, lt_of_mul-lt-mul_right}
use native.Mathlib.Nat.{div-one, div-add-mod', div-mul-le_self, div-le_self, div-div-eq-div-mul, le-div_iff_mul-le, div-lt_iff_lt-mul}
use native.Mathlib.Omega.{arith}
use lib.ListN.{length, get_or}
use lib.Dec.{ltb, leb}
use borrow.Author.Tests.{lt-ltb, le-leb}
use Rattle.base.specs.Tests.{◌and◌, one, product}
use Rattle.base.proofs.Tests.{and_true}
use Rattle.nest.specs.declared.Nest.{Nest}
use Rattle.nest.specs.Accepted.{Accepted}
use Rattle.nest.specs.Nest.{length_of, tile_length, tile_count, box_tiles}
use Rattle.plan.specs.declared.Route.{Route}
use Rattle.plan.specs.Messages.{ways, slots, slot_parcel}
use Rattle.plan.proofs.Tiles.{tile_count_pos}
use Rattle.layout.specs.Places.{nth, Has}
use Rattle.layout.proofs.Cells.{across_product, box_few}
use Rattle.parcels.specs.Twins.{two_before, Twin}
use Rattle.parcels.proofs.Twins.{Peeled, peeled_none, peeled_more, twin_stride, twin_low, twin_back}
use Rattle.tables.specs.boxes.Table.{Likes, Twins}

-- ---- places of a dimension

pub likes_none : (at : ℕ) (two : Bool) (k n : ℕ) → Likes at two k n 0
likes_none at two k n = record { each = λ i h. absurd (omega arith); few = omega arith }

pub likes_some : (at : ℕ) (two : Bool) (k n : ℕ) → 1 ≤ k → n ≤ 1024 → one two < at → at + 2 ≤ n / k → Likes at two k n (n / k - 1 - at)
likes_some at two k n pos most low room =
    record {
      each = λ i h. (omega arith, omega (arith, mul-le-mul_right {m = at + i + 2} {n = n / k} k (omega arith), div-mul-le_self n k));
      few = omega (arith, div-le_self n k);
    }

-- a place with a whole one after it is one of the dimension's
inside : (x : Nest) (j a : ℕ) → 1 ≤ tile_length x j → (a + 2) * tile_length x j ≤ length_of x j → a < tile_count x j
unfolding tile_count
inside x j a pos h =
    let q : a * tile_length x j ≤ length_of x j - 1 = omega (arith, add-mul a 2 (tile_length x j)) in
    let e : a ≤ (length_of x j - 1) / tile_length x j = (le-div_iff_mul-le pos).1 q in
    omega arith

-- ---- every tile with the dimensions from `left` on taken off

pub record Peels (N : ℕ → ℕ) (n left s : ℕ) : Type 0 where
  pub pos : 1 ≤ s
  pub each : (t : ℕ) → Peeled N n t left (t / s) s

pub record Running (N : ℕ → ℕ) (n t left rest s : ℕ) : Type 0 where
  pub low : left ≤ n
  pub is : rest ≡ t / s
  pub peels : Peels N n left s

pub running_none : (N : ℕ → ℕ) (n t : ℕ) → Running N n t n t 1
running_none N n t =
    record {
      low = omega arith;
      is = sym (div-one t);
      peels = record { pos = omega arith; each = λ u. subst (λ (q : ℕ). Peeled N n u n q 1) (sym (div-one u)) (peeled_none N n u) };
    }

pub running_more : (N : ℕ → ℕ) (n t left rest s : ℕ) → Running N n t left rest s → 0 < left → 1 ≤ N (left - 1)
    → Running N n t (left - 1) (rest / N (left - 1)) (s * N (left - 1))
running_more N n t left rest s f h pos =
    record {
      low = omega (arith, f.low);
      is = ap (λ (q : ℕ). q / N (left - 1)) f.is ∙ div-div-eq-div-mul t s (N (left - 1));
      peels = record {
        pos = mul-pos f.peels.pos pos;
        each = λ u. subst (λ (q : ℕ). Peeled N n u (left - 1) q (s * N (left - 1))) (div-div-eq-div-mul u s (N (left - 1)))
            (peeled_more N n u left (u / s) s (f.peels.each u) h pos);
      };
    }

pub running_low : (N : ℕ → ℕ) (n t left rest s : ℕ) → Running N n t left rest s → rest ≤ t
running_low N n t left rest s f = omega (arith, f.is, div-le_self t s)

pub stride_few : (r : Route) (x : Nest) (ok : Accepted x) (t : ℕ) → t < box_tiles x → (across : List ℕ) → Has across (tile_count x) x.dimensions
    → (left rest s : ℕ) → Running (nth across) x.dimensions t left rest s → s ≤ 16384
stride_few r x ok t low across b left rest s f = twin_stride r x ok t low across b left (t / s) s (f.peels.each t)

-- ---- the run that begins at tile t, one tile back along the dimension before `left`
module _ (r : Route) (x : Nest) (ok : Accepted x) (t : ℕ) (low : t < box_tiles x) (across : List ℕ) (b : Has across (tile_count x) x.dimensions)
    (two : ℕ) (is : two ≡ two_before r x) (left rest s : ℕ) (f : Running (nth across) x.dimensions t left rest s) (h : 0 < left) (n : ℕ)
    (k : Likes (rest % get_or across (left - 1) 0) (ltb (left - 1) two) (tile_length x (left - 1)) (length_of x (left - 1)) n) (some : 0 < n) where
  abbrev m : ℕ
  m = get_or across (left - 1) 0

  abbrev at : ℕ
  at = rest % m

  a_low : left - 1 < x.dimensions
  a_low = omega (arith, f.low)

  is_count : m ≡ tile_count x (left - 1)
  is_count = b.each (left - 1) a_low

  m_pos : 1 ≤ m
  m_pos = omega (arith, is_count, tile_count_pos x ok (left - 1) a_low)

  split : rest / m * m + at ≡ rest
  split = div-add-mod' rest m

  -- the place after i more, and its quotient
  below : (i : ℕ) → i < n → at + i < m
  below i l = omega (arith, is_count, inside x (left - 1) (at + i) (ok.tiled (left - 1) a_low) (k.each i l).1)

  place_is : (i : ℕ) → i < n → (rest + i) % m ≡ at + i
  place_is i l =
      ap (λ (q : ℕ). q % m) {x = rest + i} {y = rest / m * m + (at + i)} (omega (arith, split))
      ∙ mul-add-mod_self_right (rest / m) m (at + i)
      ∙ mod-eq_of_lt (below i l)

  -- how many there are along the dimensions before `left`
  all_is : product (nth across) left * s ≡ box_tiles x
  all_is = (f.peels.each t).all ∙ across_product x ok across b

  left_is : left ≡ suc (left - 1)
  left_is = omega arith

  product_is : product (nth across) left ≡ product (nth across) (left - 1) * m
  unfolding product
  product_is = ap (product (nth across)) left_is

  rest_low : rest < product (nth across) left
  rest_low = omega (arith, f.is, (div-lt_iff_lt-mul {k = s} {x = t} {y = product (nth across) left} f.peels.pos).1 (omega (arith, all_is)))

  block : rest / m + 1 ≤ product (nth across) (left - 1)
  block =
      let z : rest / m < product (nth across) (left - 1) = lt_of_mul-lt-mul_right m (omega (arith, split, rest_low, product_is)) in
      omega arith

  room : (rest + n) * s ≤ box_tiles x
  room =
      let a : (rest / m + 1) * m ≤ product (nth across) (left - 1) * m = mul-le-mul_right m block in
      let c : at + (n - 1) < m = below (n - 1) (omega arith) in
      let d : rest + n ≤ product (nth across) left = omega (arith, add-mul (rest / m) 1 m, split, product_is) in
      omega (arith, mul-le-mul_right s d, all_is)

  start : t < (rest + 1) * s
  start = (div-lt_iff_lt-mul {k = s} {x = t} {y = rest + 1} f.peels.pos).0 (omega (arith, f.is))

  pub run_over : t < (rest + n) * s
  run_over = omega (arith, start, mul-le-mul_right {m = rest + 1} {n = rest + n} s (omega arith))

  pub run_room : (rest + n) * s ≤ 16384
  run_room = omega (arith, room, box_few x ok)

  -- a tile of the run
  module _ (u : ℕ) (from : t ≤ u) (to : u < (rest + n) * s) where
    from_rest : rest ≤ u / s
    from_rest = (le-div_iff_mul-le f.peels.pos).1 (omega (arith, ap (λ (q : ℕ). q * s) f.is, div-mul-le_self t s))

    under_rest : u / s < rest + n
    under_rest = (div-lt_iff_lt-mul f.peels.pos).1 to

    step : u / s - rest < n
    step = omega (arith, from_rest, under_rest)

    at_is : u / s % m ≡ at + (u / s - rest)
    at_is = ap (λ (q : ℕ). q % m) {x = u / s} {y = rest + (u / s - rest)} (omega (arith, from_rest)) ∙ place_is (u / s - rest) step

    fits : (ltb (one (ltb (left - 1) two)) (u / s % m) and leb ((u / s % m + 2) * tile_length x (left - 1)) (length_of x (left - 1))) ≡ true
    fits = rw at_is (and_true (lt-ltb _ _ (k.each (u / s - rest) step).0) (le-leb _ _ (k.each (u / s - rest) step).1))

    u_low : u < box_tiles x
    u_low = omega (arith, room)

    pub run_twin : Twin r x u (u - s)
    run_twin = twin_back r x ok u u_low across b two is left (u / s) s (f.peels.each u) h fits

    pub run_far : s ≤ u
    run_far = twin_low r x ok u u_low across b two is left (u / s) s (f.peels.each u) h fits

  pub run_is : Twins r x t s ((rest + n) * s - t)
  run_is =
      record {
        room = omega (arith, room, run_over);
        far = λ p. (f.peels.pos, run_far t (omega arith) run_over);
        each = λ i p. run_twin (t + i) (omega arith) (omega (arith, run_over));
      }

pub run_end : (r : Route) (x : Nest) (d : ℕ) → d ≡ ways r x → (t k n : ℕ) → Twins r x t k n → (t + n) * d ≤ slots r x
run_end r x d e t k n q = omega (arith, mul-le-mul_right d q.room, ap (λ (y : ℕ). box_tiles x * y) e)

-- ---- a slot of a run's tile
module _ (r : Route) (x : Nest) (d : ℕ) (e : d ≡ ways r x) (t k n s : ℕ) (q : Twins r x t k n) (from : t * d ≤ s) (to : s < (t + n) * d) where
  d_pos : (c : ℕ) → c ≡ d → 1 ≤ c
  d_pos zero z = absurd (omega (arith, ap (λ (y : ℕ). (t + n) * y) (sym z)))
  d_pos (suc c) z = omega arith

  pos : 1 ≤ d
  pos = d_pos d refl

  abbrev u : ℕ
  u = s / d

  split_slot : s / d * d + s % d ≡ s
  split_slot = div-add-mod' s d

  u_from : t ≤ u
  u_from = (le-div_iff_mul-le pos).1 from

  u_to : u < t + n
  u_to = (div-lt_iff_lt-mul pos).1 to

  far : (1 ≤ k) × (k ≤ t)
  far = q.far (omega (arith, u_from, u_to))

  twin : Twin r x u (u - k)
  twin =
      let z : t + (u - t) ≡ u = omega (arith, u_from) in
      subst (λ (y : ℕ). Twin r x y (y - k)) z (q.each (u - t) (omega (arith, u_from, u_to)))

  moved : (u - k) * d + k * d ≡ u * d
  moved = sym (add-mul (u - k) k d) ∙ ap (λ (y : ℕ). y * d) (omega (arith, far, u_from))

  pub back_low : k * d ≤ s
  back_low = omega (arith, moved, split_slot)

  pub back_before : s - k * d < s
  back_before = omega (arith, back_low, mul-le-mul_right {m = 1} {n = k} d far.0, pos)

  pub slot_low : s < slots r x
  slot_low = omega (arith, run_end r x d e t k n q)

  back_is : s - k * d ≡ (u - k) * ways r x + s % d
  back_is = omega (arith, moved, split_slot, ap (λ (y : ℕ). (u - k) * y) e)

  here_is : s ≡ u * ways r x + s % d
  here_is = omega (arith, split_slot, ap (λ (y : ℕ). u * y) e)

  pub back_same : length (slot_parcel r x (s - k * d)) ≡ length (slot_parcel r x s)
  back_same =
      ap (λ (y : ℕ). length (slot_parcel r x y)) back_is
      ∙ sym (twin.same (s % d) (subst (λ (y : ℕ). s % d < y) e (mod-lt s pos)))
      ∙ ap (λ (y : ℕ). length (slot_parcel r x y)) (sym here_is)
