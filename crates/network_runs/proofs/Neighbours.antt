-- Between which processors messages go: never to the sender's own, and on the indirect route to the next along one dimension.
use Prim.Native.Nat.{ℕ, zero, suc, ◌+◌, ◌%◌, ◌<◌}
use mathlib.Core.Path.{◌≡◌, refl, sym, ap, ◌∙◌}
use mathlib.Core.Logic.{◌≢◌}
use mathlib.Core.Bool.{Bool, true}
use native.Mathlib.Nat.{mod-add-mod}
use native.Mathlib.Decide.{dec_lt}
use native.Mathlib.Omega.{arith}
use lib.ListN.{length}
use lib.Dec.{eqb}
use borrow.Author.Tests.{eq-eqb, ne_eqb, eqb-false}
use Rattle.base.specs.Tests.{one, keep}
use Rattle.base.proofs.Tests.{not-false, one_true, one_false}
use Rattle.base.proofs.Select.{keep_more}
use Rattle.machine.specs.Plan.{Message, Plan, count}
use Rattle.nest.specs.declared.Nest.{Nest}
use Rattle.nest.specs.Accepted.{Accepted}
use Rattle.nest.specs.Nest.{processor_count, box_tiles}
use Rattle.nest.specs.Places.{tile_place}
use Rattle.plan.specs.declared.Route.{Route}
use Rattle.plan.specs.declared.Route.TheVariants.{Direct, Indirect}
use Rattle.plan.specs.Geometry.{processor_of}
use Rattle.plan.specs.Messages.{neighbour, slots, slot_tile, slot_dimension, slot_cells, slot_taker, at_home, slot_parcel, messages_to}
use Rattle.plan.specs.Shaped.{plan_of, box_tile}
use Rattle.plan.proofs.Loops.{allocated}
use Rattle.plan.proofs.Slots.{full_in, parcel_cells, message_slot}
use Rattle.plan.proofs.Parcels.{Passed, passed_in, slot_tile_low, slot_dimension_low, neighbour_place}
use Rattle.plan.proofs.Homes.{indirect_home}
use Rattle.plan.proofs.ShapedSlots.{sent_from}
use Rattle.network.specs.Apart.{sender_at, taker_at}
use Rattle.network.specs.Packets.{mailed}
use Rattle.network_runs.specs.Neighbours.{processor_place, NextAlong}

-- tile t passes cells on along q, and its processor is not the taker's
module _ (x : Nest) (ok : Accepted x) (t q c v e : ℕ) (low : t < box_tiles x) (along : q < x.spread) (p : Passed x t q c v e)
    (away : processor_of x t ≢ processor_of x (neighbour x t q)) where
  within : (j : ℕ) → j < x.spread → j < x.dimensions
  within j h = omega (arith, ok.spread_low)

  moved : (j : ℕ) → j < x.spread → processor_place x (processor_of x (neighbour x t q)) j ≡ (tile_place x t j + one (eqb j q)) % processor_count x j
  moved j h =
      allocated x ok (neighbour x t q) j h ∙ ap (λ (a : ℕ). a % processor_count x j) (neighbour_place x ok t q c v e low p j (within j h))

  next_of : NextAlong x (processor_of x t) (processor_of x (neighbour x t q))
  next_of =
      record {
        dimension = q;
        spread = along;
        several = go (dec_lt 1 (processor_count x q));
        one_on = moved q along
            ∙ ap (λ (a : ℕ). (tile_place x t q + a) % processor_count x q) (one_true (eq-eqb q q refl))
            ∙ sym (mod-add-mod (tile_place x t q) (processor_count x q) 1)
            ∙ ap (λ (a : ℕ). (a + 1) % processor_count x q) (sym (allocated x ok t q along));
        else_same = λ j h n.
            moved j h
            ∙ ap (λ (a : ℕ). (tile_place x t j + a) % processor_count x j) (one_false (ne_eqb j q n))
            ∙ ap (λ (a : ℕ). a % processor_count x j) (none (tile_place x t j))
            ∙ sym (allocated x ok t j h);
      }
    where
      none : (a : ℕ) → a + 0 ≡ a
      none a = omega arith

      go : Dec (1 < processor_count x q) → 1 < processor_count x q
      go (yes h) = h
      go (no h) = absurd (away (indirect_home x ok t q c v e low along p (omega arith)))

module _ (x : Nest) (ok : Accepted x) where
  -- the slot of a message on the indirect route
  module _ (m : ℕ) (h : m < count (plan_of Indirect x)) where
    pub indirect_away : sender_at (plan_of Indirect x) m ≢ taker_at (plan_of Indirect x) m
    unfolding messages_to at_home
    indirect_away e =
        let a = message_slot Indirect x (slots Indirect x) m h in
        let k = full_in (slot_parcel Indirect x a.0) a.2 in
        let b = parcel_cells Indirect x a.0 k.0 k.1 in
        eqb-false _ _ b.0
        (ap (λ (y : Message). processor_of x y.sender) (sym a.4) ∙ e ∙ ap (λ (y : Message). processor_of x y.taker) a.4)

    pub next_along : NextAlong x (sender_at (plan_of Indirect x) m) (taker_at (plan_of Indirect x) m)
    unfolding messages_to at_home slot_cells slot_taker
    next_along =
        let a = message_slot Indirect x (slots Indirect x) m h in
        let s = a.0 in
        let k = full_in (slot_parcel Indirect x s) a.2 in
        let b = parcel_cells Indirect x s k.0 k.1 in
        let g = passed_in x (slot_tile Indirect x s) (slot_dimension x s) k.0 b.1 in
        rw (ap (λ (y : Message). processor_of x y.sender) a.4, ap (λ (y : Message). processor_of x y.taker) a.4)
        (next_of x ok (slot_tile Indirect x s) (slot_dimension x s) k.0 g.0 g.1 (slot_tile_low x Indirect s a.1)
        (slot_dimension_low x s a.1) g.2 (eqb-false _ _ b.0))

  pub goes_away : (r : Route) (m : ℕ) → m < count (plan_of r x) → sender_at (plan_of r x) m ≢ taker_at (plan_of r x) m
  goes_away Direct m h e =
      let a = (sent_from x m h).1 in
      a.away (ap (λ (t : ℕ). processor_of x (box_tile x t)) (sym a.sender) ∙ e ∙ ap (λ (t : ℕ). processor_of x (box_tile x t)) a.taker)
  goes_away Indirect m h e = indirect_away m h e

keep_all : (f : ℕ → Bool) (n : ℕ) → ((i : ℕ) → i < n → f i ≡ true) → length (keep f n) ≡ n
unfolding keep
keep_all f zero h = refl
keep_all f (suc n) h = let a = keep_all f n (λ i l. h i (omega arith)) in keep_more f n (h n (omega arith)) ∙ omega arith

pub mailed_all : (p : Plan) → ((m : ℕ) → m < count p → sender_at p m ≢ taker_at p m) → mailed p ≡ count p
unfolding mailed
mailed_all p away = keep_all _ (count p) (λ m h. not-false (ne_eqb _ _ (away m h)))
