-- Laws of the messages with a tile at one end: one slot at the most along each way, how many come before a slot, the j-th of them.
use Prim.Native.Nat.{ℕ, zero, suc, ◌+◌, ◌*◌, ◌-◌, ◌%◌, ◌≤◌, ◌<◌}
use mathlib.Core.Path.{◌≡◌, refl, sym, ap, ◌∙◌, subst}
use mathlib.Core.Logic.{◌⊎◌, inl, inr, ◌≢◌}
use mathlib.Core.List.{List}
use native.Mathlib.Nat.{eq-or-lt_of_le, mul-zero, mod-lt, div-add-mod'}
use native.Mathlib.Numerals.{add-one}
use native.Mathlib.Decide.{ℕ_discrete, dec_lt}
use native.Mathlib.Omega.{arith}
use lib.ListN.{length, get_or, set, take, length-set}
use lib.Seq.{get_or-set_same, get_or-set_other, get_or-take, take-length}
use lib.Dec.{ltb}
use borrow.Author.Tests.{lt-ltb, le-ltb, ltb-true}
use Rattle.std.specs.List.{count_by}
use Rattle.std.proofs.lemmas.List.Sums.{count_by_more_yes, count_by_more_no}
use Rattle.base.specs.Tests.{one, sum, those, keep}
use Rattle.base.proofs.Tests.{same_test, one_true, one_false, sum_same, sum_less, sum_const}
use Rattle.base.proofs.Select.{those_at}
use Rattle.machine.specs.Plan.{count}
use Rattle.nest.specs.declared.Nest.{Nest}
use Rattle.nest.specs.Accepted.{Accepted}
use Rattle.nest.specs.Nest.{box_tiles}
use Rattle.plan.specs.declared.Route.{Route}
use Rattle.plan.specs.Messages.{ways, slots, slot_tile, slot_parcel, slot_message, messages_of, messages_to, box_plan}
use Rattle.plan.proofs.Parcels.{slot_tile_low, slot_low, slot_tile_lem, slot_way}
use Rattle.plan.proofs.Slots.{number_low}
use Rattle.layout.specs.declared.Sizes.{Sizes}
use Rattle.layout.specs.Sizes.{Sized, Stepped, end_at}
use Rattle.layout.proofs.Steps.{ways_pos, ways_few}
use Rattle.tables.specs.declared.scans.MessageSlot.{MessageSlot}
use Rattle.tables.specs.scans.Scans.{Found}
use Rattle.tables.specs.boxes.Table.{Only, Ends, FoundAt, end_of, at_end}
use Rattle.tables.proofs.boxes.Scans.{seen, seen_none, seen_hit, seen_miss, end_is, found}

-- ---- the only slot along a way

module _ (r : Route) (n : Nest) (tile d : ℕ) (l : d < ways r n) (side : ℕ) (steps : List ℕ) (st : Stepped r n side steps) where
  -- its tile is the one at the end, less the step
  sender_is : (s : ℕ) → s < slots r n → s % ways r n ≡ d → end_at r n side s ≡ tile → slot_tile r n s + get_or steps d 0 ≡ tile
  sender_is s h q e = ap (λ (k : ℕ). slot_tile r n s + get_or steps k 0) (sym q) ∙ sym (st.each s h) ∙ e

  no_slot : ((s : ℕ) → s < slots r n → s % ways r n ≡ d → end_at r n side s ≡ tile → 0 < length (slot_parcel r n s) → ⊥) → Only r n side tile d (slots r n)
  no_slot f = record { there = λ h. absurd (omega arith); only = λ s h q e p. absurd (f s h q e p) }

  pub none_below : tile < get_or steps d 0 → Only r n side tile d (slots r n)
  none_below b = no_slot (λ s h q e p. omega (arith, sender_is s h q e))

  pub none_above : get_or steps d 0 ≤ tile → box_tiles n ≤ tile - get_or steps d 0 → Only r n side tile d (slots r n)
  none_above b a = no_slot (λ s h q e p. omega (arith, sender_is s h q e, slot_tile_low n r s h))

  module _ (b : get_or steps d 0 ≤ tile) (a : tile - get_or steps d 0 < box_tiles n) where
    one_slot : (s : ℕ) → s < slots r n → s % ways r n ≡ d → end_at r n side s ≡ tile → s ≡ (tile - get_or steps d 0) * ways r n + d
    one_slot s h q e =
        let t : slot_tile r n s ≡ tile - get_or steps d 0 = omega (arith, sender_is s h q e) in
        sym (div-add-mod' s (ways r n)) ∙ ap (λ (k : ℕ). k * ways r n + s % ways r n) t ∙ ap (λ (k : ℕ). (tile - get_or steps d 0) * ways r n + k) q

    slot_end : end_at r n side ((tile - get_or steps d 0) * ways r n + d) ≡ tile
    slot_end =
        st.each _ (slot_low n r _ d a l)
        ∙ ap (λ (k : ℕ). slot_tile r n ((tile - get_or steps d 0) * ways r n + d) + get_or steps k 0) (slot_way n r _ d a l)
        ∙ omega (arith, slot_tile_lem n r (tile - get_or steps d 0) d a l)

    pub none_there : length (slot_parcel r n ((tile - get_or steps d 0) * ways r n + d)) ≡ 0 → Only r n side tile d (slots r n)
    none_there z = no_slot (λ s h q e p. let w : 0 < length (slot_parcel r n ((tile - get_or steps d 0) * ways r n + d)) = rw (one_slot s h q e) at p in
        omega arith)

    pub one_there : length (slot_parcel r n ((tile - get_or steps d 0) * ways r n + d)) ≢ 0 → Only r n side tile d ((tile - get_or steps d 0) * ways r n + d)
    one_there f = record { there = λ h. (slot_way n r _ d a l, (slot_end, omega arith)); only = λ s h q e p. one_slot s h q e }

-- the same from the counts made by the code

module _ (n : Nest) (z : Sizes) (h : Sized n z) (tile d : ℕ) (l : d < ways z.route n) (steps : List ℕ) where
  pub slot_under : tile - get_or steps d 0 < z.tiles → (tile - get_or steps d 0) * z.ways + d < slots z.route n
  slot_under a = rw h.ways (slot_low n z.route _ d (rw h.tiles at a) l)

  module _ (side : ℕ) (st : Stepped z.route n side steps) where
    pub end_below : tile < get_or steps d 0 → Only z.route n side tile d (slots z.route n)
    end_below b = none_below z.route n tile d l side steps st b

    pub end_above : get_or steps d 0 ≤ tile → z.tiles ≤ tile - get_or steps d 0 → Only z.route n side tile d (slots z.route n)
    end_above b a = none_above z.route n tile d l side steps st b (rw h.tiles at a)

    module _ (b : get_or steps d 0 ≤ tile) (a : tile - get_or steps d 0 < z.tiles) (w : ℕ)
        (is : w ≡ length (slot_parcel z.route n ((tile - get_or steps d 0) * z.ways + d))) where
      pub end_none : w ≡ 0 → Only z.route n side tile d (slots z.route n)
      end_none e = none_there z.route n tile d l side steps st b (rw h.tiles at a) (rw h.ways at (sym is ∙ e))

      pub end_one : w ≢ 0 → Only z.route n side tile d ((tile - get_or steps d 0) * z.ways + d)
      end_one f = rw h.ways (one_there z.route n tile d l side steps st b (rw h.tiles at a) (λ e. f (is ∙ rw h.ways e)))

-- ---- the array of them, filled from its start

pub record Ending (r : Route) (n : Nest) (side tile : ℕ) (ends : List ℕ) (d : ℕ) : Type 0 where
  pub low : d ≤ ways r n
  pub long : length ends ≡ 8
  pub each : (i : ℕ) → i < d → Only r n side tile i (get_or ends i 0)

module _ (r : Route) (n : Nest) (side tile : ℕ) where
  pub ending_none : (ends : List ℕ) → length ends ≡ 8 → Ending r n side tile ends 0
  ending_none ends e = record { low = omega arith; long = e; each = λ i h. absurd (omega arith) }

  pub ending_more : (ends : List ℕ) (d v : ℕ) → Ending r n side tile ends d → d < ways r n → ways r n ≤ 8 → Only r n side tile d v
      → Ending r n side tile (set ends d v) (d + 1)
  ending_more ends d v s h m o =
      record { low = omega arith; long = length-set ends d v ∙ s.long; each = λ i k. go i (eq-or-lt_of_le (below i k)) }
    where
      below : (i : ℕ) → i < d + 1 → i ≤ d
      below i k = omega arith

      go : (i : ℕ) → (i ≡ d) ⊎ (i < d) → Only r n side tile i (get_or (set ends d v) i 0)
      go i (inl q) = rw (q, get_or-set_same ends d v 0 (omega (arith, s.long))) o
      go i (inr q) = rw (get_or-set_other ends d i v 0 (λ z. omega arith)) (s.each i q)

  pub ending_end : (ends : List ℕ) (d : ℕ) → Ending r n side tile ends d → ways r n ≤ d → Ends r n side tile ends
  ending_end ends d s h = record { each = λ i k. s.each i (omega (arith, s.low)) }

-- ---- how many of the first n are below k

unfoldable pub count_below : List ℕ → ℕ → ℕ → ℕ
count_below l n k = sum (λ d. one (ltb (get_or l d 0) k)) n

pub counted_below : (l : List ℕ) (n k : ℕ) → n ≤ length l → count_by (λ d. ltb d k) (take n l) ≡ count_below l n k
unfolding count_below sum
counted_below l zero k h = refl
counted_below l (suc n) k h = go (counted_below l n k (omega arith)) (dec_lt (get_or l n 0) k)
  where
    go : count_by (λ d. ltb d k) (take n l) ≡ count_below l n k → Dec (get_or l n 0 < k)
        → count_by (λ d. ltb d k) (take (suc n) l) ≡ count_below l (suc n) k
    go ih (yes q) =
        let t = lt-ltb (get_or l n 0) k q in
        rw (← add-one n) (omega (arith, ih, count_by_more_yes (λ d. ltb d k) l n 0 (omega arith) t, one_true t))
    go ih (no q) =
        let t = le-ltb (get_or l n 0) k (omega arith) in
        rw (← add-one n) (omega (arith, ih, count_by_more_no (λ d. ltb d k) l n 0 (omega arith) t, one_false t))

pub counted_all : (l : List ℕ) (n k : ℕ) → n ≡ length l → count_by (λ d. ltb d k) l ≡ count_below l n k
counted_all l n k e = rw e (subst (λ (x : List ℕ). count_by (λ d. ltb d k) x ≡ count_below l (length l) k) (take-length l) (counted_below l (length l) k (omega arith)))

pub ends_taken : (r : Route) (x : Nest) (side t n : ℕ) (l : List ℕ) → n ≡ ways r x → Ends r x side t l → Ends r x side t (take n l)
ends_taken r x side t n l e h =
    record { each = λ w k. let is : get_or (take n l) w 0 ≡ get_or l w 0 = get_or-take n l w 0 (omega arith) in rw is (h.each w k) }

next_test : (a s : ℕ) → a ≢ s → ltb a (s + 1) ≡ ltb a s
next_test a s f = same_test (λ t. lt-ltb a s (less (ltb-true a (s + 1) t))) (λ t. lt-ltb a (s + 1) (omega (arith, ltb-true a s t)))
  where
    less : a < s + 1 → a < s
    less h = omega arith

module _ (l : List ℕ) (n s : ℕ) where
  below_same : ((d : ℕ) → d < n → get_or l d 0 ≢ s) → count_below l n (s + 1) ≡ count_below l n s
  unfolding count_below
  below_same f = sum_same _ _ n (λ d h. ap one (next_test (get_or l d 0) s (f d h)))

  below_one : (d : ℕ) → d < n → get_or l d 0 ≡ s → ((i : ℕ) → i < n → i ≢ d → get_or l i 0 ≢ s) → count_below l n (s + 1) ≡ count_below l n s + 1
  unfolding count_below
  below_one d h e f =
      omega (
        arith,
        sum_less (λ i. one (ltb (get_or l i 0) (s + 1))) (λ i. one (ltb (get_or l i 0) s)) n d h (λ i k q. ap one (sym (next_test (get_or l i 0) s (f i k q))))
            (omega (arith, one_false (le-ltb (get_or l d 0) s (omega arith)), one_true (lt-ltb (get_or l d 0) (s + 1) (omega arith)))),
      )

below_zero : (l : List ℕ) (n : ℕ) → count_below l n 0 ≡ 0
unfolding count_below
below_zero l n = sum_same _ (λ d. 0) n (λ d h. one_false (le-ltb (get_or l d 0) 0 (omega arith))) ∙ sum_const 0 n ∙ mul-zero n

-- ---- the first d ways do not have the slot with j of them below it

pub record Missing (r : Route) (n : Nest) (ends : List ℕ) (j d : ℕ) : Type 0 where
  pub low : d ≤ ways r n
  pub none : (i : ℕ) → i < d → get_or ends i 0 < slots r n → count_below ends (ways r n) (get_or ends i 0) ≢ j

module _ (r : Route) (n : Nest) (ends : List ℕ) (j : ℕ) where
  pub missing_none : Missing r n ends j 0
  missing_none = record { low = omega arith; none = λ i h. absurd (omega arith) }

  pub missing_more : (d k : ℕ) → Missing r n ends j d → d < ways r n → k ≡ ways r n →
      (get_or ends d 0 < slots r n → count_below ends k (get_or ends d 0) ≢ j) → Missing r n ends j (d + 1)
  missing_more d k s h is f = record { low = omega arith; none = λ i k. go i (eq-or-lt_of_le (below i k)) }
    where
      below : (i : ℕ) → i < d + 1 → i ≤ d
      below i k = omega arith

      go : (i : ℕ) → (i ≡ d) ⊎ (i < d) → get_or ends i 0 < slots r n → count_below ends (ways r n) (get_or ends i 0) ≢ j
      go i (inl q) = rw q (λ a e. f a (ap (λ (w : ℕ). count_below ends w (get_or ends d 0)) is ∙ e))
      go i (inr q) = s.none i q

-- ---- as many as the messages before a slot that have the tile at that end

seen_start : (r : Route) (n : Nest) (side tile : ℕ) → seen r n side tile 0 ≡ 0
unfolding messages_to those keep
seen_start r n side tile = refl

module _ (r : Route) (n : Nest) (ok : Accepted n) (side tile : ℕ) (ends : List ℕ) (x : Ends r n side tile ends) where
  -- none of them is a slot that is not such a message
  not_end : (s d : ℕ) → d < ways r n → s < slots r n → (0 < length (slot_parcel r n s) → end_at r n side s ≢ tile) → get_or ends d 0 ≢ s
  not_end s d h l f e =
      let t = (x.each d h).there (rw e l) in
      f (rw e at t.1.1) (rw e at t.1.0)

  step_same : (s : ℕ) → s < slots r n → (0 < length (slot_parcel r n s) → end_at r n side s ≢ tile) → count_below ends (ways r n) (s + 1) ≡ count_below
      ends (ways r n) s
  step_same s l f = below_same ends (ways r n) s (λ d h. not_end s d h l f)

  step_more : (s : ℕ) → s < slots r n → 0 < length (slot_parcel r n s) → end_at r n side s ≡ tile → count_below ends (ways r n) (s + 1) ≡ count_below ends
      (ways r n) s + 1
  step_more s l p e =
      below_one ends (ways r n) s (s % ways r n) (mod-lt s (ways_pos n ok r)) (sym ((x.each (s % ways r n) (mod-lt s (ways_pos n ok r))).only s l refl e p))
      (λ i h f q. f (sym ((x.each i h).there (rw q l)).0 ∙ ap (λ (k : ℕ). k % ways r n) q))

  pub below_is : (s : ℕ) → s ≤ slots r n → count_below ends (ways r n) s ≡ seen r n side tile s
  below_is zero h = below_zero ends (ways r n) ∙ sym (seen_start r n side tile)
  below_is (suc s) h = go (below_is s (omega arith)) (dec_lt 0 (length (slot_parcel r n s))) (ℕ_discrete (end_at r n side s) tile)
    where
      l : s < slots r n
      l = omega arith

      go : count_below ends (ways r n) s ≡ seen r n side tile s → Dec (0 < length (slot_parcel r n s)) → Dec (end_at r n side s ≡ tile) → count_below ends
          (ways r n) (suc s) ≡ seen r n side tile (suc s)
      go ih (yes p) (yes e) = rw (← add-one s) (omega (arith, step_more s l p e, seen_hit r n side tile s l p e))
      go ih (yes p) (no e) = rw (← add-one s) (omega (arith, step_same s l (λ q. e), seen_miss r n side tile s l p e))
      go ih (no p) e = rw (← add-one s) (omega (arith, step_same s l (λ q. absurd (p q)), seen_none r n side tile s (omega arith)))

  pub counted : (c k s : ℕ) → k ≡ ways r n → s ≡ slots r n → c ≡ count_below ends k s → c ≤ k → (c ≡ length (at_end side (box_plan r n) tile)) × (c ≤ 7168)
  counted c k s is all e h =
      (e ∙ ap (λ (i : ℕ). count_below ends i s) is ∙ ap (count_below ends (ways r n)) all ∙ below_is (slots r n) (omega arith), omega (arith, ways_few n ok r))

  -- ---- the j-th of them

  -- among the slots before s there is the one with j such messages before it
  some_slot : (j s : ℕ) → s ≤ slots r n → j < seen r n side tile s → (i : ℕ) × (i < slots r n) × (0 < length (slot_parcel r n i)) ×
      (end_at r n side i ≡ tile) × (seen r n side tile i ≡ j)
  some_slot j zero h q = absurd (omega (arith, seen_start r n side tile))
  some_slot j (suc s) h q = go (some_slot j s (omega arith)) (dec_lt j (seen r n side tile s)) (dec_lt 0 (length (slot_parcel r n s)))
      (ℕ_discrete (end_at r n side s) tile)
    where
      l : s < slots r n
      l = omega arith

      q' : j < seen r n side tile (s + 1)
      q' = rw (add-one s) q

      go : (j < seen r n side tile s → (i : ℕ) × (i < slots r n) × (0 < length (slot_parcel r n i)) × (end_at r n side i ≡ tile) × (seen r n side tile i ≡ j))
          → Dec (j < seen r n side tile s) → Dec (0 < length (slot_parcel r n s)) → Dec (end_at r n side s ≡ tile)
          → (i : ℕ) × (i < slots r n) × (0 < length (slot_parcel r n i)) × (end_at r n side i ≡ tile) × (seen r n side tile i ≡ j)
      go ih (yes k) p e = ih k
      go ih (no k) (yes p) (yes e) = (s, l, p, e, omega (arith, q', seen_hit r n side tile s l p e))
      go ih (no k) (yes p) (no e) = absurd (omega (arith, q', seen_miss r n side tile s l p e))
      go ih (no k) (no p) e = absurd (omega (arith, q', seen_none r n side tile s (omega arith)))

  module _ (j : ℕ) where
    pub missing_nowhere : (d : ℕ) → Missing r n ends j d → ways r n ≤ d → j < length (at_end side (box_plan r n) tile) → ⊥
    missing_nowhere d s h q =
        let w = some_slot j (slots r n) (omega arith) q in
        let i : w.0 % ways r n < ways r n = mod-lt w.0 (ways_pos n ok r) in
        let e : get_or ends (w.0 % ways r n) 0 ≡ w.0 = sym ((x.each (w.0 % ways r n) i).only w.0 w.1 refl w.3 w.2) in
        s.none (w.0 % ways r n) (omega arith) (omega arith) (ap (count_below ends (ways r n)) e ∙ below_is w.0 (omega arith) ∙ w.4)

    pub found_at : (s : ℕ) → s < slots r n → (d : ℕ) → d < ways r n → get_or ends d 0 ≡ s → (k : ℕ) → k ≡ ways r n → count_below ends k s ≡ j
        → (p : MessageSlot) → (0 < length (slot_parcel r n s) → Found (slot_message r n) (slots r n) (length (messages_of (slot_message r n) s)) p)
        → FoundAt r n (get_or (at_end side (box_plan r n) tile) j 0) p
    unfolding messages_to
    found_at s l d h e k is c p q =
        let t = (x.each d h).there (rw e l) in
        let f : 0 < length (slot_parcel r n s) = rw e at t.1.1 in
        let z : end_at r n side s ≡ tile = rw e at t.1.0 in
        let b : count_below ends (ways r n) s ≡ j = rw is at c in
        let it : get_or (at_end side (box_plan r n) tile) j 0 ≡ length (messages_of (slot_message r n) s) =
        ap (λ (k : ℕ). get_or (at_end side (box_plan r n) tile) k 0) (sym b ∙ below_is s (omega arith))
        ∙ those_at (end_of side (box_plan r n)) tile (count (box_plan r n)) (length (messages_to r n s)) (number_low r n (slots r n) s l f)
        (end_is r n side s l f ∙ z) in
        rw it (found r n _ p (q f))
