-- Where the sending and the taking processor are the same; the hops of a direction; a slot's parcel by counts, as code tests it.
use Prim.Native.Nat.{ℕ, zero, suc, ◌+◌, ◌/◌, ◌%◌, ◌≤◌, ◌<◌}
use mathlib.Core.Path.{◌≡◌, refl, sym, ap, ◌∙◌}
use mathlib.Core.Logic.{◌⊎◌, ◌↔◌, inl, inr}
use mathlib.Core.Bool.{Bool, true, false}
use mathlib.Core.List.{List, [], ◌∷◌, ◌++◌}
use native.Mathlib.Nat.{mod-one, div-add-mod', mul-le-mul_right, suc-mul}
use native.Mathlib.Decide.{dec_lt, dec_le, ℕ_discrete}
use native.Mathlib.Omega.{arith}
use lib.ListN.{length, length-append}
use lib.Dec.{ltb, leb, eqb}
use borrow.Author.Tests.{eqb-true, eq-eqb, ne_eqb, ltb-true, lt-ltb, le-leb, leb-true}
use Rattle.base.specs.Tests.{◌and◌, pick, one, keep, keep_if, sum}
use Rattle.base.specs.Lists.{In}
use Rattle.base.proofs.Tests.{both, and_true, same_test, one_true, one_false, sum_same}
use Rattle.base.proofs.Select.{keep_in, in_keep}
use Rattle.nest.specs.declared.Nest.{Nest}
use Rattle.nest.specs.Accepted.{Accepted}
use Rattle.nest.specs.Nest.{processor_count, box_tiles}
use Rattle.plan.specs.declared.Route.{Route}
use Rattle.plan.specs.declared.Route.TheVariants.{Direct, Indirect}
use Rattle.nest.specs.Places.{place, tile_place}
use Rattle.plan.specs.Geometry.{processor_of}
use Rattle.plan.specs.Messages.{directions, ahead, taker, neighbour, slots, slot_dimension, slot_cells, slot_taker, at_home, slot_parcel}
use Rattle.plan.specs.Hops.{hops_along, hops, alone}
use Rattle.nest.proofs.Rank.{rank_same}
use Rattle.plan.proofs.Loops.{allocated}
use Rattle.plan.proofs.Slots.{in_full, full_in}
use Rattle.plan.proofs.Parcels.{Held, parcel_held, ahead_low, ahead_some, Passed, passed_in, slot_tile_low, slot_dimension_low, taker_place}
use Rattle.plan.proofs.Parcels.{neighbour_place}

-- ---- remainders

next_other : (p a : ℕ) → 1 < p → a % p ≡ (a + 1) % p → ⊥
next_other p a h e = go (dec_le ((a + 1) / p) (a / p))
  where
    go : Dec ((a + 1) / p ≤ a / p) → ⊥
    go (yes l) = omega (arith, div-add-mod' a p, div-add-mod' (a + 1) p, mul-le-mul_right p l)
    go (no l) = let k : suc (a / p) ≤ (a + 1) / p = omega arith in
        omega (arith, div-add-mod' a p, div-add-mod' (a + 1) p, mul-le-mul_right p k, suc-mul (a / p) p)

unit_same : (p a b : ℕ) → p ≡ 1 → a % p ≡ b % p
unit_same p a b e = rw e (mod-one a ∙ sym (mod-one b))

-- ---- the hops of a direction

pub length_keep : (f : ℕ → Bool) (n : ℕ) → length (keep f n) ≡ sum (λ i. one (f i)) n
unfolding keep sum one
length_keep f zero = refl
length_keep f (suc n) = go (f n) (length_keep f n)
  where
    go : (t : Bool) → length (keep f n) ≡ sum (λ i. one (f i)) n → length (keep f n ++ keep_if t n) ≡ sum (λ i. one (f i)) n + one t
    go true h = simp length-append (omega arith)
    go false h = simp length-append (omega arith)

module _ (x : Nest) (v : ℕ) where
  pub hop_in : (q : ℕ) → q < x.spread → ahead x v q ≡ 1 → 1 < processor_count x q → In q (hops_along x v)
  unfolding hops_along
  hop_in q l e h = in_keep _ x.spread q l (and_true (eq-eqb _ _ e) (lt-ltb _ _ h))

  pub in_hop : (q : ℕ) → In q (hops_along x v) → (q < x.spread) × (ahead x v q ≡ 1) × (1 < processor_count x q)
  unfolding hops_along
  in_hop q i = let k = keep_in _ x.spread q i in let b = both k.1 in (k.0, eqb-true _ _ b.0, ltb-true _ _ b.1)

  pub hops_pos : (q : ℕ) → In q (hops_along x v) → 1 ≤ hops x v
  unfolding hops
  hops_pos q i = in_full q (hops_along x v) i

  pub hops_some : 1 ≤ hops x v → (q : ℕ) × In q (hops_along x v)
  unfolding hops
  hops_some h = full_in (hops_along x v) h

  -- the ones of v under the mask of the counts above 1
  pub hops_ones : hops x v ≡ sum (λ q. one (eqb (ahead x v q) 1 and ltb 1 (processor_count x q))) x.spread
  unfolding hops hops_along
  hops_ones = length_keep _ x.spread

  -- with all counts above 1 they are as many as v has ones
  pub hops_all : ((j : ℕ) → j < x.spread → 2 ≤ processor_count x j) → hops x v ≡ sum (ahead x v) x.spread
  unfolding ◌and◌
  hops_all h = hops_ones ∙ sum_same _ _ x.spread (λ q l. go q l (ℕ_discrete (ahead x v q) 1))
    where
      go : (q : ℕ) → q < x.spread → Dec (ahead x v q ≡ 1) → one (eqb (ahead x v q) 1 and ltb 1 (processor_count x q)) ≡ ahead x v q
      go q l (yes e) = one_true (and_true (eq-eqb _ _ e) (lt-ltb _ _ (h q l))) ∙ sym e
      go q l (no e) = rw (ne_eqb (ahead x v q) 1 e) (one_false refl ∙ omega (arith, ahead_low x v q l))

  pub apart : ((j : ℕ) → j < x.spread → 2 ≤ processor_count x j) → 1 ≤ v → v ≤ directions x → 1 ≤ hops x v
  apart h a b = let q = ahead_some x v a b in
      hops_pos q.0 (hop_in q.0 q.1 (omega (arith, q.2, ahead_low x v q.0 q.1)) (h q.0 q.1))

-- ---- processors

-- two tests that agree where a list has an entry leave the same of it
pub unless_same : (t u : Bool) (cs : List ℕ) → ((c : ℕ) → In c cs → t ≡ u) → pick t [] cs ≡ pick u [] cs
unfolding pick
unless_same t u [] h = none t ∙ sym (none u)
  where
    none : (b : Bool) → pick {A = List ℕ} b [] [] ≡ []
    none true = refl
    none false = refl
unless_same t u (y ∷ cs) h = ap (λ (b : Bool). pick b [] (y ∷ cs)) (h y (inl refl))

module _ (x : Nest) (ok : Accepted x) where
  pub same_mods : (t u : ℕ) → processor_of x t ≡ processor_of x u → (j : ℕ) → j < x.spread
      → tile_place x t j % processor_count x j ≡ tile_place x u j % processor_count x j
  same_mods t u e j h =
      sym (allocated x ok t j h) ∙ ap (λ (p : ℕ). place (processor_count x) x.spread p j) e ∙ allocated x ok u j h

  -- a step in dimensions with a count of 1 alone stays on the processor
  pub unmoved : (t u : ℕ) → ((j : ℕ) → j < x.spread → (tile_place x t j ≡ tile_place x u j) ⊎ (processor_count x j ≡ 1))
      → processor_of x t ≡ processor_of x u
  unfolding processor_of
  unmoved t u h = rank_same (processor_count x) _ _ x.spread (λ j l. go j (h j l))
    where
      go : (j : ℕ) → (tile_place x t j ≡ tile_place x u j) ⊎ (processor_count x j ≡ 1)
          → tile_place x t j % processor_count x j ≡ tile_place x u j % processor_count x j
      go j (inl e) = ap (λ (a : ℕ). a % processor_count x j) e
      go j (inr e) = unit_same (processor_count x j) (tile_place x t j) (tile_place x u j) e

  -- a step of one in a dimension with more leaves it
  pub moved : (t u j : ℕ) → j < x.spread → 1 < processor_count x j → tile_place x u j ≡ tile_place x t j + 1
      → processor_of x t ≡ processor_of x u → ⊥
  moved t u j l h e p = next_other (processor_count x j) (tile_place x t j) h (same_mods t u p j l ∙ ap (λ (a : ℕ). a % processor_count x j) e)

  -- both, for places
  pub same_processor : (t b : ℕ → ℕ) → ((j : ℕ) → j < x.spread → b j ≤ 1)
      → ((j : ℕ) → j < x.spread → t j % processor_count x j ≡ (t j + b j) % processor_count x j)
      ↔ ((j : ℕ) → j < x.spread → 1 < processor_count x j → b j ≡ 0)
  same_processor t b low = (λ same j l h. none j l h (same j l) (ℕ_discrete (b j) 0), λ zero j l. stays j l (dec_lt 1 (processor_count x j)) (zero j l))
    where
      none : (j : ℕ) → j < x.spread → 1 < processor_count x j → t j % processor_count x j ≡ (t j + b j) % processor_count x j
          → Dec (b j ≡ 0) → b j ≡ 0
      none j l h e (yes z) = z
      none j l h e (no z) =
          let is : b j ≡ 1 = omega (arith, low j l) in
          absurd (next_other (processor_count x j) (t j) h (e ∙ ap (λ (a : ℕ). (t j + a) % processor_count x j) is))

      stays : (j : ℕ) → j < x.spread → Dec (1 < processor_count x j) → (1 < processor_count x j → b j ≡ 0)
          → t j % processor_count x j ≡ (t j + b j) % processor_count x j
      stays j l (yes h) z = ap (λ (a : ℕ). a % processor_count x j) (omega (arith, z h))
      stays j l (no h) z = unit_same (processor_count x j) (t j) (t j + b j) (omega (arith, ok.manned j l))

  -- ---- direct: v has no one in a dimension with a count above 1
  module _ (t v c e : ℕ) (held : Held x t v c e) where
    pub direct_away : 1 ≤ hops x v → processor_of x t ≡ processor_of x (taker x t v) → ⊥
    direct_away h p =
        let q = hops_some x v h in
        let k = in_hop x v q.0 q.1 in
        moved t (taker x t v) q.0 k.0 k.2
        (taker_place x ok t v c e held q.0 (omega (arith, k.0, ok.spread_low)) ∙ ap (λ (a : ℕ). tile_place x t q.0 + a) k.1) p

    pub direct_home : hops x v ≡ 0 → processor_of x t ≡ processor_of x (taker x t v)
    direct_home z = unmoved t (taker x t v) (λ j l. go j l (ℕ_discrete (ahead x v j) 0) (dec_lt 1 (processor_count x j)))
      where
        go : (j : ℕ) → j < x.spread → Dec (ahead x v j ≡ 0) → Dec (1 < processor_count x j)
            → (tile_place x t j ≡ tile_place x (taker x t v) j) ⊎ (processor_count x j ≡ 1)
        go j l (yes a) d = inl (omega (arith, taker_place x ok t v c e held j (omega (arith, ok.spread_low))))
        go j l (no a) (yes d) = absurd (omega (arith, hops_pos x v j (hop_in x v j l (omega (arith, ahead_low x v j l)) d)))
        go j l (no a) (no d) = inr (omega (arith, ok.manned j l))

  -- ---- indirect: q has a count of 1
  module _ (t q c v e : ℕ) (low : t < box_tiles x) (along : q < x.spread) (p : Passed x t q c v e) where
    pub indirect_away : 1 < processor_count x q → processor_of x t ≡ processor_of x (neighbour x t q) → ⊥
    indirect_away h =
        moved t (neighbour x t q) q along h
        (neighbour_place x ok t q c v e low p q (omega (arith, ok.spread_low))
        ∙ ap (λ (a : ℕ). tile_place x t q + a) (one_true (eq-eqb q q refl)))

    pub indirect_home : processor_count x q ≤ 1 → processor_of x t ≡ processor_of x (neighbour x t q)
    indirect_home h = unmoved t (neighbour x t q) (λ j l. go j l (ℕ_discrete j q))
      where
        go : (j : ℕ) → j < x.spread → Dec (j ≡ q) → (tile_place x t j ≡ tile_place x (neighbour x t q) j) ⊎ (processor_count x j ≡ 1)
        go j l (yes k) = inr (ap (processor_count x) k ∙ omega (arith, ok.manned q along))
        go j l (no k) = inl (omega (
          arith,
          neighbour_place x ok t q c v e low p j (omega (arith, ok.spread_low)),
          one_false (ne_eqb j q k),
        ))

  -- ---- a slot's parcel by counts

  -- by counts, for tile t and direction v
  pub home_direct : (t v c e : ℕ) → Held x t v c e → eqb (processor_of x t) (processor_of x (taker x t v)) ≡ eqb (hops x v) 0
  home_direct t v c e held =
      same_test (λ h. zero_of (hops x v) (λ (k : 1 ≤ hops x v). direct_away t v c e held k (eqb-true _ _ h)))
      (λ h. eq-eqb _ _ (direct_home t v c e held (eqb-true _ _ h)))
    where
      zero_of : (n : ℕ) → (1 ≤ n → ⊥) → eqb n 0 ≡ true
      zero_of n f = go (ℕ_discrete n 0)
        where
          go : Dec (n ≡ 0) → eqb n 0 ≡ true
          go (yes e) = eq-eqb n 0 e
          go (no e) = absurd (f (omega arith))

  home_is : (r : Route) (s c : ℕ) → s < slots r x → In c (slot_cells r x s) → at_home r x s ≡ alone r x s
  unfolding at_home slot_taker slot_cells
  home_is Direct s c l i = let g = parcel_held x _ _ c i in home_direct _ _ c g.0 g.1
  home_is Indirect s c l i =
      let g = passed_in x _ _ c i in
      let lt = slot_tile_low x Indirect s l in
      let lq = slot_dimension_low x s l in
      same_test
      (λ h. few_of (processor_count x (slot_dimension x s))
      (λ (k : 1 < processor_count x (slot_dimension x s)). indirect_away _ _ c g.0 g.1 lt lq g.2 k (eqb-true _ _ h)))
      (λ h. eq-eqb _ _ (indirect_home _ _ c g.0 g.1 lt lq g.2 (leb-true _ _ h)))
    where
      few_of : (n : ℕ) → (1 < n → ⊥) → leb n 1 ≡ true
      few_of n f = go (dec_lt 1 n)
        where
          go : Dec (1 < n) → leb n 1 ≡ true
          go (yes e) = absurd (f e)
          go (no e) = le-leb n 1 (omega arith)

  pub slot_parcel_is : (r : Route) (s : ℕ) → s < slots r x → slot_parcel r x s ≡ pick (alone r x s) [] (slot_cells r x s)
  unfolding slot_parcel
  slot_parcel_is r s l = unless_same (at_home r x s) (alone r x s) (slot_cells r x s) (λ c i. home_is r s c l i)
