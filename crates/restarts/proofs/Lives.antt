-- All processors' lives and every packet ever posted, along a run: what each event keeps, and what it leaves to do.
use Prim.Native.Nat.{ℕ, zero, suc, ◌+◌, ◌≤◌, ◌<◌}
use mathlib.Core.Path.{◌≡◌, refl, sym, ap, ◌∙◌, fun_ext}
use mathlib.Core.Logic.{◌⊎◌, inl, inr, ◌≢◌}
use mathlib.Core.Bool.{false}
use mathlib.Core.List.{List, [], ◌∷◌, ◌++◌, append-nil}
use native.Mathlib.Omega.{arith}
use native.Mathlib.Decide.{dec_lt, ℕ_discrete}
use lib.ListN.{length, length-append, length-map, get_or-append}
use lib.Seq.{get_or-append_seam}
use lib.Dec.{eqb}
use borrow.Author.Tests.{eq-eqb, ne_eqb, lt-ltb, le-ltb, ltb-true, ltb-false, leb-true, le-leb}
use Rattle.base.specs.Tests.{pick, one}
use Rattle.base.specs.Numbers.{first_of}
use Rattle.base.proofs.Tests.{not-true, not-false, pick_true, pick_false, one_true, one_false}
use Rattle.base.proofs.Numbers.{first_nil, first_false, first_true}
use Rattle.machine.specs.Plan.{Plan, Sound, count, held_by, tiles_of}
use Rattle.machine.specs.Machine.{State, state_of, finished_of, place_of, tiles_left, Answered, turn, fresh}
use Rattle.machine.specs.Runs.{state_after, answers_to}
use Rattle.machine.proofs.Turns.{Turned, turned, by_refusal}
use Rattle.machine.proofs.Progress.{prog}
use Rattle.machine.proofs.Invariant.{pending}
use Rattle.machine.proofs.Kept.{status_of}
use Rattle.machine.proofs.Events.{Refused}
use Rattle.machine.proofs.Fresh.{status_fresh}
use Rattle.machine.proofs.RunLaws.{number_of, after_of}
use Rattle.network.specs.Apart.{AreasApart, start_apart, replaced, sender_at, taker_at, turn_apart, marked, received, sent_off, arrived}
use Rattle.network.specs.Packets.{Packet, Network, network_of, packet_at, status_at, NetworkEvent, turn_by, post_of, arrival_of, posted, post, arrive, turn_network}
use Rattle.network.specs.Packets.{act_network, start_network}
use Rattle.network.proofs.Letters.{replaced_same, replaced_other}
use Rattle.network.proofs.Carry.{status_two, status_rest}
use Rattle.network.proofs.Together.{turn_here, turn_nowhere}
use Rattle.network.proofs.Posting.{Has}
use Rattle.network.proofs.Fine.{FineNetwork}
use Rattle.network.proofs.Network.{Correct, zero_answer, some_answer, two_lines, lines_two, post_asks, post_zero, post_some, arrive_asks, arrive_zero}
use Rattle.network.proofs.Network.{arrive_some}
use Rattle.restarts.specs.Restarts.{LifeEvent, plain, repost_of, restart_of, repost, restart_lines, restart, act_lives, deeds_of, work_of, redone_of}
use Rattle.restarts.proofs.Life.{Life, Lived, turn_lives, post_lives, arrival_lives, fresh_lives}
use Rattle.restarts.proofs.Measure.{sender_at_lem, taker_at_lem, left_here, left_any, left_same, left_deed, left_post, left_arrival, status_here_lem, status_away}

pub record Alive (p : Plan) (source : List ℕ) (n : Network) : Type 0 where
  pub each : (b : ℕ) → b < p.processors → Life p source b (n.areas b)
  pub right : (k : ℕ) → k < length n.packets → Correct p source (packet_at n.packets k)
  -- a message that its sender has posted since its last start has a packet
  pub has : (m : ℕ) → m < count p → sender_at p m ≢ taker_at p m → 2 ≤ status_at n.areas (sender_at p m) m → Has n.packets m

-- what a turn, a post or an arrival does: it gives 0 and leaves one thing less to do, or writes nothing
pub record Went (p : Plan) (source : List ℕ) (n : Network) (a : Answered Network) : Type 0 where
  pub alive : Alive p source a.after
  pub counted : one (eqb a.number 0) + left_here p a.after.areas ≡ left_here p n.areas

pending_two : (x y : ℕ) → pending x ≡ pending y → 2 ≤ x → 2 ≤ y
pending_two (suc (suc x)) zero e h = absurd (omega arith)
pending_two (suc (suc x)) (suc zero) e h = absurd (omega arith)
pending_two (suc (suc x)) (suc (suc y)) e h = omega arith
pending_two zero y e h = absurd (omega arith)
pending_two (suc zero) y e h = absurd (omega arith)

-- one packet more
module _ (packets : List Packet) (x : Packet) where
  has_more : (k : ℕ) → Has packets k → Has (packets ++ (x ∷ [])) k
  has_more k h =
      record {
        at = h.at;
        low = rw (length-append packets (x ∷ [])) (omega (arith, h.low));
        is = ap (λ (y : Packet). y.message) (get_or-append packets (x ∷ []) _ h.at h.low) ∙ h.is;
      }

  has_new : Has (packets ++ (x ∷ [])) x.message
  has_new =
      record {
        at = length packets;
        low = rw (length-append packets (x ∷ [])) (omega arith);
        is = ap (λ (y : Packet). y.message) (get_or-append_seam packets x [] _);
      }

  pub right_more : (p : Plan) (source : List ℕ) → ((k : ℕ) → k < length packets → Correct p source (packet_at packets k)) → Correct p source x
      → (k : ℕ) → k < length (packets ++ (x ∷ [])) → Correct p source (packet_at (packets ++ (x ∷ [])) k)
  right_more p source old new k h = go (dec_lt k (length packets)) (rw (length-append packets (x ∷ [])) at h)
    where
      go : Dec (k < length packets) → k < length packets + 1 → Correct p source (packet_at (packets ++ (x ∷ [])) k)
      go (yes l) q = rw (get_or-append packets (x ∷ []) (record { message = 0; words = [] }) k l) (old k l)
      go (no l) q =
          let e : k ≡ length packets = omega arith in
          rw (e, get_or-append_seam packets x [] (record { message = 0; words = [] })) new

module _ (p : Plan) (so : Sound p) (source : List ℕ) (n : Network) (al : Alive p source n) where
  -- one processor's areas replaced
  module _ (b : ℕ) (s : State) (packets : List Packet) (li : Life p source b s)
      (right : (k : ℕ) → k < length packets → Correct p source (packet_at packets k)) (old : (m : ℕ) → Has n.packets m → Has packets m)
      (new : (m : ℕ) → m < count p → sender_at p m ≢ taker_at p m → sender_at p m ≡ b → 2 ≤ status_of s m → Has packets m) where
    placed : Alive p source (network_of (replaced n.areas b s) packets)
    placed =
        record {
          each = λ c low. one_of c low (ℕ_discrete c b);
          right = right;
          has = λ m lo aw q. goes m lo aw q (ℕ_discrete (sender_at p m) b);
        }
      where
        one_of : (c : ℕ) → c < p.processors → Dec (c ≡ b) → Life p source c (replaced n.areas b s c)
        one_of c low (yes e) = rw (e, replaced_same n.areas b s b refl) li
        one_of c low (no k) = rw (replaced_other n.areas b s c k) (al.each c low)

        goes : (m : ℕ) → m < count p → sender_at p m ≢ taker_at p m → 2 ≤ status_at (replaced n.areas b s) (sender_at p m) m
            → Dec (sender_at p m ≡ b) → Has packets m
        goes m lo aw q (yes e) = new m lo aw e (let x = status_here_lem p n.areas b s (sender_at p m) m e in omega arith)
        goes m lo aw q (no k) = old m (al.has m lo aw (let x = status_away p n.areas b s (sender_at p m) m k in omega arith))

  refused : (x : ℕ) → x ≢ 0 → Went p source n (record { number = x; after = n })
  refused x k = record { alive = al; counted = rw (one_false (ne_eqb x 0 k)) (omega arith) }

  -- ---- a turn
  module _ (b : ℕ) (low : b < p.processors) where
    abbrev s : State
    s = n.areas b

    turn_goes : (((turn p source s b).number ≡ 0) × Lived p source b s (turn p source s b).after) ⊎ Refused s (turn p source s b)
        → Went p source n
        (record { number = (turn p source s b).number; after = network_of (replaced n.areas b (turn p source s b).after) n.packets })
    turn_goes (inl q) =
        record {
          alive = placed b (turn p source s b).after n.packets q.1.life al.right (λ m k. k)
              (λ m lo aw e k. al.has m lo aw
              (rw e (pending_two (status_of (turn p source s b).after m) (status_of s m) (q.1.same m lo) k)));
          counted =
              let x = one_true (eq-eqb (turn p source s b).number 0 q.0) in
              let y = left_deed p n.areas b (turn p source s b).after _ q.1.home q.1.step q.1.within q.1.same in
              omega arith;
        }
    turn_goes (inr q) =
        record {
          alive = placed b (turn p source s b).after n.packets (rw q.1 (al.each b low)) al.right (λ m k. k)
              (λ m lo aw e k. al.has m lo aw (rw e (let x = ap (λ (z : State). status_of z m) q.1 in omega arith)));
          counted =
              let x = one_false (ne_eqb (turn p source s b).number 0 q.0) in
              let y = left_same p n.areas b (turn p source s b).after q.1 in
              omega arith;
        }

  turn_went : (b : ℕ) → Went p source n (turn_network p source n b)
  unfolding turn_network
  turn_went b = go (dec_lt b p.processors)
    where
      go : Dec (b < p.processors) → Went p source n (turn_network p source n b)
      go (yes h) = rw (turn_here p source n.areas b h) (turn_goes b h (turn_lives p so source (n.areas b) b (al.each b h)))
      go (no k) = rw (turn_nowhere p source n.areas b (omega arith)) (refused 11 (omega arith))

  -- ---- what is posted of a message whose words lie right at its sender's
  module _ (m : ℕ) (lo : m < count p) (sent : 1 ≤ status_at n.areas (sender_at p m) m) where
    abbrev packet : Packet
    packet = record { message = m; words = place_of p (n.areas (sender_at p m)).buffer m }

    abbrev after : List Packet
    after = n.packets ++ posted p n.areas m

    after_home : sender_at p m ≡ taker_at p m → after ≡ n.packets
    unfolding posted
    after_home e = ap (λ (l : List Packet). n.packets ++ l) (pick_true _ _ _ (eq-eqb _ _ e)) ∙ append-nil n.packets

    pub after_away : sender_at p m ≢ taker_at p m → after ≡ n.packets ++ (packet ∷ [])
    unfolding posted
    after_away k = ap (λ (l : List Packet). n.packets ++ l) (pick_false _ _ _ (ne_eqb _ _ k))

    pub packet_right : sender_at p m ≢ taker_at p m → Correct p source packet
    packet_right k = record { low = lo; away = k; words = (al.each (sender_at p m) (sender_at_lem p so m lo)).held.right.buffered m lo sent }

    posted_right : Dec (sender_at p m ≡ taker_at p m) → (k : ℕ) → k < length after → Correct p source (packet_at after k)
    posted_right (yes e) = rw (after_home e) al.right
    posted_right (no q) = rw (after_away q) (right_more n.packets packet p source al.right (packet_right q))

    posted_more : Dec (sender_at p m ≡ taker_at p m) → (k : ℕ) → Has n.packets k → Has after k
    posted_more (yes e) k h = rw (after_home e) h
    posted_more (no q) k h = rw (after_away q) (has_more n.packets packet k h)

    posted_new : sender_at p m ≢ taker_at p m → Has after m
    posted_new q = rw (after_away q) (has_new n.packets packet)

    -- posted again: areas as they are
    pub alive_again : Alive p source (network_of n.areas after)
    alive_again =
        record {
          each = al.each;
          right = posted_right (ℕ_discrete _ _);
          has = λ k l aw q. posted_more (ℕ_discrete _ _) k (al.has k l aw q);
        }

    -- posted
    module _ (one_there : status_at n.areas (sender_at p m) m ≡ 1) where
      abbrev b : ℕ
      b = sender_at p m

      alive_posted : Alive p source (network_of (sent_off p n.areas m) after)
      unfolding sent_off
      alive_posted =
          placed b (marked (n.areas b) m) after (post_lives p so source (n.areas b) b (al.each b (sender_at_lem p so m lo)) m lo one_there)
          (posted_right (ℕ_discrete _ _)) (posted_more (ℕ_discrete _ _)) (λ k l aw e q. goes k l aw e q (ℕ_discrete k m))
        where
          goes : (k : ℕ) → k < count p → sender_at p k ≢ taker_at p k → sender_at p k ≡ b → 2 ≤ status_of (marked (n.areas b) m) k → Dec (k ≡ m) → Has after k
          goes k l aw e q (yes z) = rw z (posted_new (λ h. aw (ap (sender_at p) z ∙ h ∙ ap (taker_at p) (sym z))))
          goes k l aw e q (no z) =
              posted_more (ℕ_discrete _ _) k (al.has k l aw (rw e (let x = status_rest p b (n.areas b) m lo k z in omega arith)))

      counted_posted : suc (left_here p (sent_off p n.areas m)) ≡ left_here p n.areas
      unfolding sent_off prog
      counted_posted =
          left_post p n.areas b (marked (n.areas b) m) m lo (λ u. refl) (status_two p b (n.areas b) m lo (al.each b (sender_at_lem p so m lo)).held.shape)
          (λ k z. status_rest p b (n.areas b) m lo k z) refl one_there

  post_went : (m : ℕ) → Went p source n (post p n m)
  post_went m = go (ℕ_discrete (post p n m).number 0)
    where
      goes : (lo : m < count p) → status_at n.areas (sender_at p m) m ≡ 1
          → Went p source n (record { number = 0; after = network_of (sent_off p n.areas m) (n.packets ++ posted p n.areas m) })
      goes lo y =
          record {
            alive = alive_posted m lo (omega arith) y;
            counted = let x = one_true (eq-eqb 0 0 refl) in let z = counted_posted m lo (omega arith) y in omega arith;
          }

      go : Dec ((post p n m).number ≡ 0) → Went p source n (post p n m)
      go (yes z) = rw (post_zero p n m z) (goes (post_asks p n m z).0 (post_asks p n m z).1)
      go (no k) = rw (post_some p n m k) (refused _ k)

  -- ---- an arrival
  module _ (m : ℕ) (ws : List ℕ) (c : Correct p source (record { message = m; words = ws })) (none : status_at n.areas (taker_at p m) m ≡ 0) where
    abbrev d : ℕ
    d = taker_at p m

    low_d : d < p.processors
    low_d = taker_at_lem p so m c.low

    alive_arrived : Alive p source (network_of (arrived p n.areas m ws) n.packets)
    unfolding arrived
    alive_arrived =
        placed d (received p (n.areas d) m ws) n.packets
        (arrival_lives p so source (n.areas d) d (al.each d low_d) m c.low ws c.words c.away none)
        al.right (λ k h. h) (λ k l aw e q. goes k l aw e q (ℕ_discrete k m))
      where
        goes : (k : ℕ) → k < count p → sender_at p k ≢ taker_at p k → sender_at p k ≡ d → 2 ≤ status_of (received p (n.areas d) m ws) k → Dec (k ≡ m)
            → Has n.packets k
        goes k l aw e q (yes z) = absurd (c.away (ap (sender_at p) (sym z) ∙ e))
        goes k l aw e q (no z) = al.has k l aw (rw e (let x = status_rest p d (n.areas d) m c.low k z in omega arith))

    counted_arrived : suc (left_here p (arrived p n.areas m ws)) ≡ left_here p n.areas
    unfolding arrived prog
    counted_arrived =
        left_arrival p n.areas d (received p (n.areas d) m ws) m c.low (λ u. refl)
        (status_two p d (n.areas d) m c.low (al.each d low_d).held.shape)
        (λ k z. status_rest p d (n.areas d) m c.low k z) refl c.away none

    arrived_went : Went p source n (record { number = 0; after = network_of (arrived p n.areas m ws) n.packets })
    arrived_went = record { alive = alive_arrived; counted = let x = one_true (eq-eqb 0 0 refl) in let z = counted_arrived in omega arith }

  arrive_went : (k : ℕ) → Went p source n (arrive p n k)
  arrive_went k = go (ℕ_discrete (arrive p n k).number 0)
    where
      go : Dec ((arrive p n k).number ≡ 0) → Went p source n (arrive p n k)
      go (yes z) =
          rw (arrive_zero p n k z)
          (arrived_went (packet_at n.packets k).message (packet_at n.packets k).words (al.right k (arrive_asks p n k z).0)
          (arrive_asks p n k z).1)
      go (no q) = rw (arrive_some p n k q) (refused _ q)

  pub plain_went : (e : NetworkEvent) → Went p source n (act_network p source n e)
  unfolding act_network
  plain_went (turn_by b) = turn_went b
  plain_went (post_of m) = post_went m
  plain_went (arrival_of k) = arrive_went k

  -- ---- a message posted again
  module _ (m : ℕ) where
    pub repost_asks : (repost p n m).number ≡ 0 → (m < count p) × (2 ≤ status_at n.areas (sender_at p m) m)
    unfolding repost
    repost_asks z = let k = two_lines _ _ z in (ltb-true _ _ k.0, leb-true _ _ k.1)

    pub repost_gives : m < count p → 2 ≤ status_at n.areas (sender_at p m) m → (repost p n m).number ≡ 0
    unfolding repost
    repost_gives lo y = lines_two _ _ (lt-ltb m (count p) lo) (le-leb _ _ y)

    pub repost_zero : (repost p n m).number ≡ 0 → repost p n m ≡ record { number = 0; after = network_of n.areas (n.packets ++ posted p n.areas m) }
    unfolding repost
    repost_zero z = zero_answer _ _ _ z

    repost_some : (repost p n m).number ≢ 0 → repost p n m ≡ record { number = (repost p n m).number; after = n }
    unfolding repost
    repost_some k = some_answer _ _ _ k

    repost_went : Alive p source (repost p n m).after × (left_here p (repost p n m).after.areas ≡ left_here p n.areas)
    repost_went = go (ℕ_discrete (repost p n m).number 0)
      where
        go : Dec ((repost p n m).number ≡ 0) → Alive p source (repost p n m).after × (left_here p (repost p n m).after.areas ≡ left_here p n.areas)
        go (yes z) = rw (repost_zero z) (alive_again m (repost_asks z).0 (let x = (repost_asks z).1 in omega arith), refl)
        go (no k) = rw (repost_some k) (al, refl)

  -- ---- a new start
  module _ (b : ℕ) where
    pub restart_gives : b < p.processors → (restart p n b).number ≡ 0
    unfolding restart
    restart_gives low = first_false 11 _ _ (not-true (lt-ltb b p.processors low)) ∙ first_nil

    pub restart_high : p.processors ≤ b → restart p n b ≡ record { number = 11; after = n }
    unfolding restart
    restart_high h =
        let e : first_of (restart_lines p b) ≡ 11 = first_true 11 _ [] (not-false (le-ltb b p.processors h)) in
        some_answer _ _ _ (λ z. omega arith) ∙ ap (λ (x : ℕ). record { number = x; after = n }) e

    pub restart_zero : (restart p n b).number ≡ 0 → restart p n b ≡ record { number = 0; after = network_of (replaced n.areas b (fresh p)) n.packets }
    unfolding restart
    restart_zero z = zero_answer _ _ _ z

    restart_some : (restart p n b).number ≢ 0 → restart p n b ≡ record { number = (restart p n b).number; after = n }
    unfolding restart
    restart_some k = some_answer _ _ _ k

    alive_restarted : Alive p source (network_of (replaced n.areas b (fresh p)) n.packets)
    alive_restarted =
        placed b (fresh p) n.packets (fresh_lives p source b) al.right (λ m h. h) (λ m lo aw e q. absurd (omega (arith, status_fresh p m)))

    restart_went : Alive p source (restart p n b).after
        × (left_here p (restart p n b).after.areas ≤ left_here p n.areas + pick (eqb (restart p n b).number 0) (work_of p b) 0)
    restart_went = go (ℕ_discrete (restart p n b).number 0)
      where
        go : Dec ((restart p n b).number ≡ 0) → Alive p source (restart p n b).after
            × (left_here p (restart p n b).after.areas ≤ left_here p n.areas + pick (eqb (restart p n b).number 0) (work_of p b) 0)
        go (yes z) =
            rw (restart_zero z, pick_true _ (work_of p b) 0 (eq-eqb 0 0 refl)) (alive_restarted, left_any p n.areas b (fresh p))
        go (no k) = rw (restart_some k, pick_false _ (work_of p b) 0 (ne_eqb _ 0 k)) (al, omega arith)

  -- ---- any event
  pub went_alive : (e : LifeEvent) → Alive p source (act_lives p source n e).after
  unfolding act_lives
  went_alive (plain e) = (plain_went e).alive
  went_alive (repost_of m) = (repost_went m).0
  went_alive (restart_of b) = (restart_went b).0

-- ---- a message that was posted or received stays so until its processor starts again
module _ (p : Plan) (so : Sound p) (source : List ℕ) (n : Network) (al : Alive p source n) (c m : ℕ) (lo : m < count p)
    (two : 2 ≤ status_at n.areas c m) where
  two_replaced : (b : ℕ) (s : State) → (c ≡ b → 2 ≤ status_of s m) → 2 ≤ status_at (replaced n.areas b s) c m
  two_replaced b s f = go (ℕ_discrete c b)
    where
      go : Dec (c ≡ b) → 2 ≤ status_at (replaced n.areas b s) c m
      go (yes e) = let x = status_here_lem p n.areas b s c m e in let y = f e in omega arith
      go (no k) = let x = status_away p n.areas b s c m k in omega arith

  two_marked : (b k : ℕ) → b < p.processors → k < count p → c ≡ b → 2 ≤ status_of (marked (n.areas b) k) m
  two_marked b k low lk e = go (ℕ_discrete m k)
    where
      go : Dec (m ≡ k) → 2 ≤ status_of (marked (n.areas b) k) m
      go (yes q) = rw q (let x = status_two p b (n.areas b) k lk (al.each b low).held.shape in omega arith)
      go (no q) =
          let x = status_rest p b (n.areas b) k lk m q in let y : 2 ≤ status_of (n.areas b) m = rw e at two in omega arith

  two_turned : (b : ℕ) → b < p.processors → c ≡ b → 2 ≤ status_of (turn p source (n.areas b) b).after m
  two_turned b low e = go (turn_lives p so source (n.areas b) b (al.each b low))
    where
      was : 2 ≤ status_of (n.areas b) m
      was = rw e at two

      go : (((turn p source (n.areas b) b).number ≡ 0) × Lived p source b (n.areas b) (turn p source (n.areas b) b).after)
          ⊎ Refused (n.areas b) (turn p source (n.areas b) b)
          → 2 ≤ status_of (turn p source (n.areas b) b).after m
      go (inl q) = pending_two _ _ (sym (q.1.same m lo)) was
      go (inr q) = rw q.1 was

  pub two_stays : (e : NetworkEvent) → 2 ≤ status_at (act_network p source n e).after.areas c m
  unfolding act_network turn_network sent_off arrived
  two_stays (turn_by b) = go (dec_lt b p.processors)
    where
      go : Dec (b < p.processors) → 2 ≤ status_at (turn_apart p source n.areas b).after c m
      go (yes h) = rw (turn_here p source n.areas b h) (two_replaced b _ (two_turned b h))
      go (no k) = rw (turn_nowhere p source n.areas b (omega arith)) two
  two_stays (post_of k) = go (ℕ_discrete (post p n k).number 0)
    where
      go : Dec ((post p n k).number ≡ 0) → 2 ≤ status_at (post p n k).after.areas c m
      go (yes z) =
          rw (post_zero p n k z)
          (two_replaced (sender_at p k) _ (two_marked (sender_at p k) k (sender_at_lem p so k (post_asks p n k z).0) (post_asks p n k z).0))
      go (no q) = rw (post_some p n k q) two
  two_stays (arrival_of i) = go (ℕ_discrete (arrive p n i).number 0)
    where
      k : ℕ
      k = (packet_at n.packets i).message

      go : Dec ((arrive p n i).number ≡ 0) → 2 ≤ status_at (arrive p n i).after.areas c m
      go (yes z) =
          rw (arrive_zero p n i z)
          (two_replaced (taker_at p k) _ (two_marked (taker_at p k) k (taker_at_lem p so k (al.right i (arrive_asks p n i z).0).low)
          (al.right i (arrive_asks p n i z).0).low))
      go (no q) = rw (arrive_some p n i q) two

-- ---- a processor with no tiles left has none until it starts again
module _ (p : Plan) (source : List ℕ) (n : Network) (b : ℕ) (over : tiles_left p (n.areas b) b ≡ false) where
  over_replaced : (c : ℕ) (s : State) → (b ≡ c → tiles_left p s b ≡ false) → tiles_left p (replaced n.areas c s b) b ≡ false
  over_replaced c s f = go (ℕ_discrete b c)
    where
      go : Dec (b ≡ c) → tiles_left p (replaced n.areas c s b) b ≡ false
      go (yes e) = ap (λ (x : State). tiles_left p x b) (replaced_same n.areas c s b e) ∙ f e
      go (no k) = ap (λ (x : State). tiles_left p x b) (replaced_other n.areas c s b k) ∙ over

  -- its turns are refused
  over_turned : (a : Answered State) → Turned p source (n.areas b) b a → tiles_left p a.after b ≡ false
  unfolding tiles_left
  over_turned a (Turned.unfit h) = over
  over_turned a (Turned.no_such h) = over
  over_turned a (Turned.waits m low h g i k) = absurd (omega (arith, h, ltb-false (finished_of (n.areas b) b) (length (tiles_of p b)) over))
  over_turned a (Turned.over h) = over
  over_turned a (Turned.gathers low h g f) = absurd (omega (arith, h, ltb-false (finished_of (n.areas b) b) (length (tiles_of p b)) over))
  over_turned a (Turned.calculates low h g) = absurd (omega (arith, h, ltb-false (finished_of (n.areas b) b) (length (tiles_of p b)) over))
  over_turned a (Turned.sends low h g) = absurd (omega (arith, h, ltb-false (finished_of (n.areas b) b) (length (tiles_of p b)) over))

  over_turn : (c : ℕ) → b ≡ c → tiles_left p (turn p source (n.areas c) c).after b ≡ false
  over_turn c e = rw (sym e) (over_turned _ (turned p source (n.areas b) b))

  -- a mark changes no record
  over_marked : (c : ℕ) → b ≡ c → (x y : List ℕ) → tiles_left p (state_of (n.areas c).memories x (n.areas c).progress y) b ≡ false
  unfolding tiles_left
  over_marked c e x y = ap (λ (i : ℕ). tiles_left p (n.areas i) b) (sym e) ∙ over

  pub over_stays : (e : NetworkEvent) → tiles_left p ((act_network p source n e).after.areas b) b ≡ false
  unfolding act_network turn_network sent_off arrived
  over_stays (turn_by c) = go (dec_lt c p.processors)
    where
      go : Dec (c < p.processors) → tiles_left p ((turn_apart p source n.areas c).after b) b ≡ false
      go (yes h) = rw (turn_here p source n.areas c h) (over_replaced c _ (over_turn c))
      go (no k) = rw (turn_nowhere p source n.areas c (omega arith)) over
  over_stays (post_of k) = go (ℕ_discrete (post p n k).number 0)
    where
      go : Dec ((post p n k).number ≡ 0) → tiles_left p ((post p n k).after.areas b) b ≡ false
      go (yes z) = rw (post_zero p n k z) (over_replaced (sender_at p k) _ (λ e. over_marked (sender_at p k) e _ _))
      go (no q) = rw (post_some p n k q) over
  over_stays (arrival_of i) = go (ℕ_discrete (arrive p n i).number 0)
    where
      go : Dec ((arrive p n i).number ≡ 0) → tiles_left p ((arrive p n i).after.areas b) b ≡ false
      go (yes z) = rw (arrive_zero p n i z) (over_replaced (taker_at p (packet_at n.packets i).message) _ (λ e. over_marked _ e _ _))
      go (no q) = rw (arrive_some p n i q) over

-- ---- an event that is refused changes nothing
pub replaced_own : (a : AreasApart) (b : ℕ) → replaced a b (a b) ≡ a
replaced_own a b = fun_ext (λ c. go c (ℕ_discrete c b))
  where
    go : (c : ℕ) → Dec (c ≡ b) → replaced a b (a b) c ≡ a c
    go c (yes e) = replaced_same a b (a b) c e ∙ ap a (sym e)
    go c (no k) = replaced_other a b (a b) c k

module _ (p : Plan) (source : List ℕ) (n : Network) where
  turn_stays : (b : ℕ) → (turn_network p source n b).number ≢ 0 → (turn_network p source n b).after ≡ n
  unfolding turn_network
  turn_stays b k = ap (λ (a : AreasApart). network_of a n.packets) (go (dec_lt b p.processors))
    where
      go : Dec (b < p.processors) → (turn_apart p source n.areas b).after ≡ n.areas
      go (yes h) =
          after_of (turn_here p source n.areas b h)
          ∙ ap (replaced n.areas b) (by_refusal p source (n.areas b) b (λ z. k (number_of (turn_here p source n.areas b h) ∙ z)))
          ∙ replaced_own n.areas b
      go (no q) = after_of (turn_nowhere p source n.areas b (omega arith))

  pub lives_stay : (e : LifeEvent) → (act_lives p source n e).number ≢ 0 → (act_lives p source n e).after ≡ n
  unfolding act_lives act_network repost restart
  lives_stay (plain (turn_by b)) k = turn_stays b k
  lives_stay (plain (post_of m)) k = after_of (post_some p n m k)
  lives_stay (plain (arrival_of i)) k = after_of (arrive_some p n i k)
  lives_stay (repost_of m) k = after_of (some_answer _ _ n k)
  lives_stay (restart_of b) k = after_of (some_answer _ _ n k)

-- all that the calls ask of a network
pub alive_fine : (p : Plan) (source : List ℕ) (n : Network) → Alive p source n → FineNetwork p n
alive_fine p source n al =
    record {
      areas = record { shape = λ b h. (al.each b h).held.shape; high = λ b h. (al.each b h).held.statuses.high };
      low = λ k h. (al.right k h).low;
      long = λ k h. ap length (al.right k h).words ∙ length-map (held_by p (packet_at n.packets k).message) _;
    }

-- ---- any list of events
module _ (p : Plan) (so : Sound p) (source : List ℕ) where
  pub start_alive : Alive p source (start_network p)
  unfolding start_apart
  start_alive =
      record {
        each = λ b h. fresh_lives p source b;
        right = λ k h. absurd (omega arith);
        has = λ m lo aw q. absurd (omega (arith, status_fresh p m));
      }

  module _ (acts : Network → LifeEvent → Answered Network)
      (same : (n : Network) → Alive p source n → (e : LifeEvent) → acts n e ≡ act_lives p source n e) where
    pub next_alive : (n : Network) → Alive p source n → (e : LifeEvent) → Alive p source (acts n e).after
    next_alive n al e = rw (same n al e) (went_alive p so source n al e)

    pub run_alive : (es : List LifeEvent) (n : Network) → Alive p source n → Alive p source (state_after acts n es)
    unfolding state_after
    run_alive [] n al = al
    run_alive (e ∷ es) n al = run_alive es _ (next_alive n al e)

    pub run_counted : (es : List LifeEvent) (n : Network) → Alive p source n
        → deeds_of es (answers_to acts n es) + left_here p (state_after acts n es).areas
        ≤ left_here p n.areas + redone_of p es (answers_to acts n es)
    unfolding state_after answers_to deeds_of redone_of act_lives
    run_counted [] n al = omega arith
    run_counted (plain e ∷ es) n al =
        let ih = run_counted es _ (next_alive n al (plain e)) in
        let x : one (eqb (acts n (plain e)).number 0) + left_here p (acts n (plain e)).after.areas ≡ left_here p n.areas
        = rw (same n al (plain e)) (plain_went p so source n al e).counted in
        omega arith
    run_counted (repost_of m ∷ es) n al =
        let ih = run_counted es _ (next_alive n al (repost_of m)) in
        let x : left_here p (acts n (repost_of m)).after.areas ≡ left_here p n.areas = rw (same n al (repost_of m)) (repost_went p so source n al m).1 in
        omega arith
    run_counted (restart_of b ∷ es) n al =
        let ih = run_counted es _ (next_alive n al (restart_of b)) in
        let x : left_here p (acts n (restart_of b)).after.areas ≤ left_here p n.areas + pick (eqb (acts n (restart_of b)).number 0) (work_of p b) 0
        = rw (same n al (restart_of b)) (restart_went p so source n al b).1 in
        omega arith
