-- One tile back along a dimension: the tiles peeled off a tile's number, and where the tile before is a twin.
use Prim.Native.Nat.{ℕ, zero, suc, ◌+◌, ◌*◌, ◌-◌, ◌/◌, ◌%◌, ◌≤◌, ◌<◌}
use mathlib.Core.Path.{◌≡◌, sym, ap, ◌∙◌}
use mathlib.Core.Logic.{◌⊎◌, inl, inr}
use mathlib.Core.Bool.{true}
use mathlib.Core.List.{List}
use native.Mathlib.Nat.{mul-add-mod_self_right, mod-eq_of_lt, mod-lt, div-add-mod', add-mul, suc-mul, mul_assoc, mul_right_comm, mul-le-mul_right}
use native.Mathlib.Nat.{eq-or-lt_of_le}
use native.Mathlib.Decide.{dec_lt}
use native.Mathlib.Omega.{arith}
use lib.ListN.{get_or}
use lib.Dec.{ltb, leb}
use borrow.Author.Tests.{lt-ltb, ltb-true, leb-true}
use Rattle.base.specs.Tests.{◌and◌, one, product}
use Rattle.base.proofs.Tests.{both, one_true}
use Rattle.nest.specs.declared.Nest.{Nest}
use Rattle.nest.specs.Accepted.{Accepted}
use Rattle.nest.specs.Nest.{length_of, tile_length, tile_count, box_tiles}
use Rattle.plan.specs.declared.Route.{Route}
use Rattle.plan.specs.declared.Route.TheVariants.{Indirect}
use Rattle.nest.specs.Places.{place, tile_place}
use Rattle.nest.proofs.Rank.{Positive, place_last, place_before}
use Rattle.plan.proofs.Tiles.{tile_count_pos}
use Rattle.plan.proofs.Box.{quotient_is}
use Rattle.layout.proofs.Twins.{twin}
use Rattle.layout.specs.Places.{nth, Has}
use Rattle.layout.proofs.Dims.{product_pos, place_lengths}
use Rattle.layout.proofs.Cells.{across_product, box_few}
use Rattle.parcels.specs.Twins.{two_before, Twin}

-- tile u is one before tile t along dimension l, t's place there is p
pub record OneBack (N : ℕ → ℕ) (n t u l p : ℕ) : Type 0 where
  pub own : place N n t l ≡ p
  pub here : place N n t l ≡ suc (place N n u l)
  pub elsewhere : (j : ℕ) → j < n → (j ≡ l → ⊥) → place N n t j ≡ place N n u j

-- the dimensions from `left` on are taken off tile t: `rest` is its number along those before, `stride` how far apart these are
pub record Peeled (N : ℕ → ℕ) (n t left rest stride : ℕ) : Type 0 where
  pub low : left ≤ n
  pub all : product N left * stride ≡ product N n
  pub over : rest * stride ≤ t
  pub before : (p j : ℕ) → j < left → place N n (p * stride + (t - rest * stride)) j ≡ place N left p j
  pub after : (p j : ℕ) → left ≤ j → j < n → place N n (p * stride + (t - rest * stride)) j ≡ place N n t j

pub peeled_none : (N : ℕ → ℕ) (n t : ℕ) → Peeled N n t n t 1
peeled_none N n t =
    record {
      low = omega arith;
      all = omega arith;
      over = omega arith;
      before = λ p j h. ap (λ (a : ℕ). place N n a j) (omega arith);
      after = λ p j h k. absurd (omega arith);
    }

pub peeled_few : (N : ℕ → ℕ) (n t left rest stride : ℕ) → Peeled N n t left rest stride → Positive N n → stride ≤ product N n
peeled_few N n t left rest stride s h = omega
    (arith, s.all, mul-le-mul_right stride (product_pos N left (λ j k. h j (omega (arith, s.low)))))

module _ (N : ℕ → ℕ) (n t l q s : ℕ) (f : Peeled N n t (suc l) q s) (pos : 1 ≤ N l) where
  split : q / N l * N l + q % N l ≡ q
  split = div-add-mod' q (N l)

  rest_low : q % N l < N l
  rest_low = mod-lt q pos

  swap : (p : ℕ) → p * (s * N l) ≡ p * N l * s
  swap p = sym (mul_assoc p s (N l)) ∙ mul_right_comm p s (N l)

  parts : q * s ≡ q / N l * N l * s + q % N l * s
  parts = ap (λ (a : ℕ). a * s) (sym split) ∙ add-mul (q / N l * N l) (q % N l) s

  same_number : (p : ℕ) → p * (s * N l) + (t - q / N l * (s * N l)) ≡ (p * N l + q % N l) * s + (t - q * s)
  same_number p = omega (arith, swap p, swap (q / N l), parts, add-mul (p * N l) (q % N l) s, f.over)

  quotient : (p : ℕ) → (p * N l + q % N l) / N l ≡ p
  quotient p = quotient_is (N l) p (p * N l + q % N l) (omega arith) (omega (arith, rest_low))

  own : place N n t l ≡ q % N l
  own =
      ap (λ (a : ℕ). place N n a l) {x = t} {y = q * s + (t - q * s)} (omega (arith, f.over))
      ∙ f.before q l (omega arith)
      ∙ place_last N l q

  peeled_next : Peeled N n t l (q / N l) (s * N l)
  unfolding product
  peeled_next =
      record {
        low = omega (arith, f.low);
        all = swap' ∙ f.all;
        over = omega (arith, swap (q / N l), parts, f.over);
        before = λ p j h. ap (λ (a : ℕ). place N n a j) (same_number p) ∙ f.before (p * N l + q % N l) j (omega arith)
            ∙ place_before N l (p * N l + q % N l) j h ∙ ap (λ (a : ℕ). place N l a j) (quotient p);
        after = λ p j h k. ap (λ (a : ℕ). place N n a j) (same_number p) ∙ go p j k (eq-or-lt_of_le h);
      }
    where
      swap' : product N l * (s * N l) ≡ product N l * N l * s
      swap' = swap (product N l)

      go : (p j : ℕ) → j < n → (l ≡ j) ⊎ (l < j) → place N n ((p * N l + q % N l) * s + (t - q * s)) j ≡ place N n t j
      go p j k (inr h) = f.after (p * N l + q % N l) j (omega arith) k
      go p j k (inl e) =
          rw (← e)
          (f.before (p * N l + q % N l) l (omega arith)
          ∙ place_last N l (p * N l + q % N l)
          ∙ mul-add-mod_self_right p (N l) (q % N l)
          ∙ mod-eq_of_lt rest_low
          ∙ sym own)

  -- one back along the dimension
  module _ (h : 1 ≤ q % N l) where
    first : q ≡ suc (q - 1)
    first = omega (arith, split)

    back_is : t - s ≡ (q - 1) * s + (t - q * s)
    back_is = omega (arith, ap (λ (a : ℕ). a * s) first, suc-mul (q - 1) s, f.over)

    pub back_low : s ≤ t
    back_low = omega (arith, ap (λ (a : ℕ). a * s) first, suc-mul (q - 1) s, f.over)

    back_before : (j : ℕ) → j < l → place N n (t - s) j ≡ place N n t j
    back_before j k =
        ap (λ (a : ℕ). place N n a j) back_is
        ∙ f.before (q - 1) j (omega arith)
        ∙ place_before N l (q - 1) j k
        ∙ ap (λ (a : ℕ). place N l a j) (quotient_is (N l) (q / N l) (q - 1) (omega (arith, split)) (omega (arith, split, rest_low)))
        ∙ sym (ap (λ (a : ℕ). place N n a j) {x = t} {y = q * s + (t - q * s)} (omega (arith, f.over)) ∙ f.before q j (omega arith)
        ∙ place_before N l q j k)

    back_own : place N n (t - s) l + 1 ≡ place N n t l
    back_own =
        let z : place N n (t - s) l ≡ q % N l - 1 =
        ap (λ (a : ℕ). place N n a l) back_is
        ∙ f.before (q - 1) l (omega arith)
        ∙ place_last N l (q - 1)
        ∙ ap (λ (a : ℕ). a % N l) {x = q - 1} {y = q / N l * N l + (q % N l - 1)} (omega (arith, split))
        ∙ mul-add-mod_self_right (q / N l) (N l) (q % N l - 1)
        ∙ mod-eq_of_lt (omega (arith, rest_low)) in
        omega (arith, own)

    back_after : (j : ℕ) → l < j → j < n → place N n (t - s) j ≡ place N n t j
    back_after j k m = ap (λ (a : ℕ). place N n a j) back_is ∙ f.after (q - 1) j (omega arith) m

    pub back_one : OneBack N n t (t - s) l (q % N l)
    back_one = record { own = own; here = omega (arith, back_own); elsewhere = λ j k d. go j k d (dec_lt j l) }
      where
        go : (j : ℕ) → j < n → (j ≡ l → ⊥) → Dec (j < l) → place N n t j ≡ place N n (t - s) j
        go j k d (yes a) = sym (back_before j a)
        go j k d (no a) = sym (back_after j (omega arith) k)

pub peeled_more : (N : ℕ → ℕ) (n t left q s : ℕ) → Peeled N n t left q s → 0 < left → 1 ≤ N (left - 1)
    → Peeled N n t (left - 1) (q / N (left - 1)) (s * N (left - 1))
peeled_more N n t zero q s f h pos = absurd (omega arith)
peeled_more N n t (suc l) q s f h pos = let z : suc l - 1 ≡ l = omega arith in rw z (peeled_next N n t l q s f (rw z at pos))

pub peeled_back : (N : ℕ → ℕ) (n t left q s : ℕ) → Peeled N n t left q s → 0 < left → 1 ≤ N (left - 1) → 1 ≤ q % N (left - 1)
    → (s ≤ t) × OneBack N n t (t - s) (left - 1) (q % N (left - 1))
peeled_back N n t zero q s f h pos a = absurd (omega arith)
peeled_back N n t (suc l) q s f h pos a =
    let z : suc l - 1 ≡ l = omega arith in
    let p : 1 ≤ N l = rw z at pos in
    let b : 1 ≤ q % N l = rw z at a in
    rw z (back_low N n t l q s f p b, back_one N n t l q s f p b)

module _ (r : Route) (x : Nest) (ok : Accepted x) (t : ℕ) (low : t < box_tiles x) where
  module _ (across : List ℕ) (b : Has across (tile_count x) x.dimensions) where
    counts : (c j : ℕ) → place (nth across) x.dimensions c j ≡ tile_place x c j
    unfolding tile_place
    counts c j = place_lengths (nth across) (tile_count x) x.dimensions c j b.each

    pub twin_stride : (left q s : ℕ) → Peeled (nth across) x.dimensions t left q s → s ≤ 16384
    twin_stride left q s f =
        omega (
          arith,
          peeled_few (nth across) x.dimensions t left q s f (λ j h. omega (arith, b.each j h, tile_count_pos x ok j h)),
          across_product x ok across b,
          box_few x ok,
        )

    -- the dimension allows it: there is a tile before it, or two, and a whole one after it
    module _ (two : ℕ) (is : two ≡ two_before r x) (left q s : ℕ) (f : Peeled (nth across) x.dimensions t left q s) (h : 0 < left)
        (k : (ltb (one (ltb (left - 1) two)) (q % get_or across (left - 1) 0) and leb
        ((q % get_or across (left - 1) 0 + 2) * tile_length x (left - 1)) (length_of x (left - 1))) ≡ true) where
      a_low : left - 1 < x.dimensions
      a_low = omega (arith, f.low)

      many : one (ltb (left - 1) two) < q % get_or across (left - 1) 0
      many = ltb-true _ _ (both k).0

      back : (s ≤ t) × OneBack (nth across) x.dimensions t (t - s) (left - 1) (q % get_or across (left - 1) 0)
      back = peeled_back (nth across) x.dimensions t left q s f h
          (omega (arith, b.each (left - 1) a_low, tile_count_pos x ok (left - 1) a_low)) (omega (arith, many))

      at_is : tile_place x t (left - 1) ≡ q % get_or across (left - 1) 0
      at_is = sym (counts t (left - 1)) ∙ back.1.own

      here : tile_place x t (left - 1) ≡ suc (tile_place x (t - s) (left - 1))
      here = sym (counts t (left - 1)) ∙ back.1.here ∙ ap suc (counts (t - s) (left - 1))

      elsewhere : (j : ℕ) → j < x.dimensions → (j ≡ left - 1 → ⊥) → tile_place x t j ≡ tile_place x (t - s) j
      elsewhere j m n = sym (counts t j) ∙ back.1.elsewhere j m n ∙ counts (t - s) j

      whole : suc (suc (tile_place x t (left - 1))) * tile_length x (left - 1) ≤ length_of x (left - 1)
      whole =
          let e : suc (suc (tile_place x t (left - 1))) ≡ q % get_or across (left - 1) 0 + 2 = omega (arith, at_is) in
          rw e (leb-true _ _ (both k).1)

      second : r ≡ Indirect → suc (left - 1) < x.spread → 2 ≤ tile_place x t (left - 1)
      second e l =
          let w : two_before r x ≡ x.spread - 1 = ap (λ (c : Route). two_before c x) e in
          omega (arith, many, at_is, one_true (lt-ltb (left - 1) two (omega (arith, is))))

      pub twin_low : s ≤ t
      twin_low = back.0

      pub twin_back : Twin r x t (t - s)
      twin_back =
          record {
            low = omega arith;
            same = λ w l. (twin x ok t (t - s) (left - 1) low (omega arith) a_low here elsewhere whole r w l second).1;
          }
