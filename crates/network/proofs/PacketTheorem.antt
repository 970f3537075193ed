-- Two events a delivery, and a transport of which nothing is promised: the claim for every sound plan, every source and every list of events.
use Prim.Native.Nat.{ℕ, ◌+◌, ◌≤◌, ◌<◌}
use mathlib.Core.Path.{◌≡◌, refl, sym, ap, ◌∙◌}
use mathlib.Core.Logic.{◌⊎◌, inl, inr, ◌≢◌}
use mathlib.Core.List.{List, []}
use native.Mathlib.Omega.{arith}
use lib.ListN.{length}
use lib.Dec.{eqb}
use borrow.Author.Tests.{ne_eqb}
use Rattle.base.specs.Tests.{not}
use Rattle.base.proofs.Tests.{not-false}
use Rattle.base.proofs.Select.{keep_few}
use Rattle.machine.specs.Plan.{Plan, Sound, count}
use Rattle.machine.specs.Machine.{State, Answered, collect, fresh}
use Rattle.machine.specs.Runs.{Event, turn_of, delivery_of, act, total, Demand3}
use Rattle.machine.proofs.Turns.{delivered}
use Rattle.machine.proofs.Kept.{status_of}
use Rattle.machine.proofs.Events.{flying}
use Rattle.machine.proofs.RunLaws.{number_of}
use Rattle.machine.proofs.Once.{collects_like}
use Rattle.network.specs.Apart.{sender_at, taker_at, joined, collect_apart}
use Rattle.network.specs.Packets.{Network, packet_at, status_at, NetworkEvent, turn_by, post_of, arrival_of, turn_network, act_network}
use Rattle.network.specs.Packets.{start_network, mailed, network_after, steps_here, besides, last_beside, steps_beside, ByPackets, MachineByPackets}
use Rattle.network.proofs.Together.{turn_number}
use Rattle.network.proofs.Theorem.{both_are}
use Rattle.network.proofs.Joined.{joined_shape, collect_same, joined_same}
use Rattle.network.proofs.Alike.{SharedLike, machine_like, shared_end, shared_steps}
use Rattle.network.proofs.Bounded.{at_most}
use Rattle.network.proofs.Posting.{Has, sender_at_lem, in_flight}
use Rattle.network.proofs.Network.{Follows, was_flying, post_gives, post_asks, arrive_gives, arrive_asks, arrive_some, arrive_away, came, awaited, stays}
use Rattle.network.proofs.Network.{start_follows, run_follows, run_counted}

module _ (p : Plan) (so : Sound p) (source : List ℕ) (s : State) (n : Network) (fo : Follows p source s n) where
  pub turn_gives : (b : ℕ) → (act_network p source n (turn_by b)).number ≡ (act p source s (turn_of b)).number
  unfolding act_network turn_network act
  turn_gives b = turn_number p so source s n.areas fo.to b

  -- a step of the machine is a turn, or a message in flight that can be posted or was
  pub step_here : (e : Event) → (act p source s e).number ≡ 0 → (x : NetworkEvent) × ((act_network p source n x).number ≡ 0)
  unfolding act act_network
  step_here (turn_of b) z = (turn_by b, turn_gives b ∙ z)
  step_here (delivery_of m) z = go lo
      (((fo.to.each (sender_at p m) (sender_at_lem p so source s n.areas fo.to.inv fo.to.each m lo)).letters m lo (λ i. i)).one_own refl fly)
    where
      lo : m < count p
      lo = (was_flying p s m _ (delivered p s m) z).0

      fly : status_of s m ≡ 1
      fly = (was_flying p s m _ (delivered p s m) z).1

      go : m < count p → (status_at n.areas (sender_at p m) m ≡ 1) ⊎ Has n.packets m → (x : NetworkEvent) × ((act_network p source n x).number ≡ 0)
      go l (inl y) = (post_of m, post_gives p n m l y)
      go l (inr h) =
          (arrival_of h.at, arrive_gives p n h.at h.low (awaited p so source s n fo h.at h.low (ap (status_of s) h.is ∙ fly)))

  -- and an event that gives 0 leaves the machine a step
  pub step_there : (x : NetworkEvent) → (act_network p source n x).number ≡ 0 → (e : Event) × ((act p source s e).number ≡ 0)
  unfolding act_network
  step_there (turn_by b) z = (turn_of b, sym (turn_gives b) ∙ z)
  step_there (post_of m) z =
      let k = post_asks p n m z in
      (delivery_of m, flying p so source s fo.to.inv m k.0 (in_flight p so source s n.areas fo.to.inv fo.to.each m k.0 k.1))
  step_there (arrival_of i) z =
      let k = arrive_asks p n i z in (
        delivery_of (packet_at n.packets i).message,
        flying p so source s fo.to.inv _ (fo.right i k.0).low
            (came p so source s n fo i k.0 k.1),
      )

  pub away_is : (k : ℕ) → k < length n.packets → status_at n.areas (taker_at p (packet_at n.packets k).message) (packet_at n.packets k).message ≢ 0
      → act_network p source n (arrival_of k) ≡ record { number = 14; after = n }
  unfolding act_network
  away_is k lo q =
      let e = arrive_away p n k lo q in
      arrive_some p n k (λ z. omega arith) ∙ ap (λ (i : ℕ). record { number = i; after = n }) e

-- no message has two packets, and each goes to another processor: so they are no more than those messages
module _ (p : Plan) (source : List ℕ) (s : State) (n : Network) (fo : Follows p source s n) where
  pub few : length n.packets ≤ mailed p
  unfolding mailed
  few =
      at_most (λ m. not (eqb (sender_at p m) (taker_at p m))) (count p) (length n.packets) (λ k. (packet_at n.packets k).message)
      (λ k h. (fo.right k h).low)
      (λ k h. not-false (ne_eqb _ _ (fo.right k h).away))
      fo.once

pub mailed_all : (p : Plan) → mailed p ≤ count p
unfolding mailed
mailed_all p = keep_few _ (count p)

-- ---- calls that answer as the network does, beside shared ones that answer as the machine does
module _ (p : Plan) (so : Sound p) (source : List ℕ) (acts : Network → NetworkEvent → Answered Network)
    (same : (s : State) (n : Network) → Follows p source s n → (e : NetworkEvent) → acts n e ≡ act_network p source n e)
    (start : Network) (begins : Follows p source (fresh p) start) (none : start.packets ≡ [])
    (shared : State → Event → Answered State) (collects : State → List ℕ → Answered (List ℕ)) (like : SharedLike p source shared collects)
    (events : List NetworkEvent) where
  abbrev run : List Event
  run = besides acts start events p shared

  abbrev S : State
  S = last_beside acts start events p shared

  abbrev N : Network
  N = network_after acts start events

  fo : Follows p source S N
  fo = rw (shared_end p so source shared collects like run) (run_follows p so source acts same events (fresh p) start begins)

  demand : Demand3 shared (fresh p) run p source collects
  demand = like.demand run

  all_counted : steps_here acts start events ≡ steps_beside acts start events p shared + length N.packets
  all_counted =
      let c = run_counted p so source acts same events (fresh p) start begins in
      let d = shared_steps p so source shared collects like run in
      let e : length start.packets ≡ 0 = rw none refl in
      omega arith

  number_is : (e : Event) → (shared S e).number ≡ (act p source S e).number
  number_is e = number_of (like.events S fo.to.inv e)

  here_is : (x : NetworkEvent) → (acts N x).number ≡ (act_network p source N x).number
  here_is x = number_of (same S N fo x)

  goes_here : (e : Event) → (shared S e).number ≡ 0 → (x : NetworkEvent) × ((acts N x).number ≡ 0)
  goes_here e z = let r = step_here p so source S N fo e (sym (number_is e) ∙ z) in (r.0, here_is r.0 ∙ r.1)

  goes_there : (x : NetworkEvent) → (acts N x).number ≡ 0 → (e : Event) × ((shared S e).number ≡ 0)
  goes_there x z = let r = step_there p so source S N fo x (sym (here_is x) ∙ z) in (r.0, number_is r.0 ∙ r.1)

  collecting_is : (grid : List ℕ) → length grid ≡ p.cells → collects S grid ≡ collect p S grid
  collecting_is grid len = like.collecting S fo.to.inv grid len

  joined_as : (grid : List ℕ) → collects (joined p N.areas) grid ≡ collects S grid
  joined_as =
      like.joining S (joined p N.areas) fo.to.inv.shape (joined_shape p N.areas (λ b h. (fo.to.each b h).shape))
      (joined_same p so source S N.areas fo.to)

  pub by_packets : ByPackets acts start events p shared source collects
  by_packets =
      record {
        beside = demand;
        same_turn = λ b. here_is (turn_by b) ∙ turn_gives p so source S N fo b ∙ sym (number_is (turn_of b));
        same_memory = λ b h. (fo.to.each b h).memory;
        same_finished = λ b h. (fo.to.each b h).recorded.finished;
        same_stage = λ b h. (fo.to.each b h).recorded.stage;
        same_sent = λ b h. (fo.to.each b h).recorded.sent;
        counted = all_counted;
        few_packets = few p source S N fo;
        bounded = omega (arith, all_counted, demand.once.bound, few p source S N fo);
        bounded_all = omega (arith, all_counted, demand.once.bound, few p source S N fo, mailed_all p);
        goes = λ k h. ((fo.right k h).low, (fo.right k h).away);
        once = fo.once;
        carries = λ k h. (fo.right k h).words;
        stays = λ m lo h.
            ((fo.to.each (sender_at p m) (sender_at_lem p so source S N.areas fo.to.inv fo.to.each m lo)
            ).letters m lo (λ z. z)).own_words refl h ∙ fo.to.inv.right.buffered m lo h;
        lies_there = λ k h. stays p so source S N fo k h;
        turned_away = λ k h q. same S N fo (arrival_of k) ∙ away_is p so source S N fo k h q;
        goes_on = λ h. let r = demand.goes_on h in goes_here r.0 r.1;
        then_fewer = λ x z. let r = goes_there x z in demand.then_fewer r.0 r.1;
        collecting =
            collects_like p source (steps_beside acts start events p shared ≡ total p) _ (collect_apart p N.areas) _ (λ e. e) (λ e. e)
            (λ grid len. collect_same p so source S N.areas fo.to grid ∙ sym (collecting_is grid len)) demand.collecting;
        joins = joined_as;
        joined_grid = λ e old len. joined_as old ∙ both_are (collects S old) (demand.collecting.can_collect e old len) (demand.collecting.grid e old len);
      }

pub theorem_packets : (p : Plan) → Sound p → (source : List ℕ) (events : List NetworkEvent) → MachineByPackets p source events
theorem_packets p so source events =
    by_packets p so source (act_network p source) (λ s n fo e. refl) (start_network p) (start_follows p so source) refl
    (act p source) (collect p) (machine_like p so source) events
