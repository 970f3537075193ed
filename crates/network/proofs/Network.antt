-- A network's run beside the machine's: after every event they agree, and each event that gave 0 is a step there or posts one packet.
use Prim.Native.Nat.{ℕ, ◌+◌, ◌<◌}
use mathlib.Core.Path.{◌≡◌, refl, sym, ap, ◌∙◌}
use mathlib.Core.Logic.{◌⊎◌, inl, inr, ◌≢◌}
use mathlib.Core.Bool.{Bool, true}
use mathlib.Core.List.{List, [], ◌∷◌, ◌++◌, map, append-nil}
use native.Mathlib.Omega.{arith}
use native.Mathlib.Decide.{dec_lt, ℕ_discrete}
use lib.ListN.{length, length-append, get_or-append}
use lib.Seq.{get_or-append_seam}
use lib.Dec.{eqb}
use borrow.Author.Tests.{eqb-true, eq-eqb, ne_eqb, lt-ltb, ltb-true}
use Rattle.base.specs.Tests.{not, pick, one}
use Rattle.base.specs.Lists.{count_if}
use Rattle.base.specs.Numbers.{line, first_of}
use Rattle.base.proofs.Tests.{not-true, not-false, true_not, pick_true, pick_false, one_true, one_false}
use Rattle.base.proofs.Numbers.{first_nil, first_false, first_true, none_first}
use Rattle.machine.specs.Plan.{Plan, Sound, count, held_by}
use Rattle.machine.specs.Machine.{State, place_of, Answered, answered, fresh}
use Rattle.machine.specs.Runs.{Event, turn_of, delivery_of, act, state_after, answers_to, steps}
use Rattle.machine.proofs.Turns.{Delivered}
use Rattle.machine.proofs.Kept.{Inv, swept, status_of}
use Rattle.machine.proofs.Events.{flying}
use Rattle.machine.proofs.Along.{next_inv}
use Rattle.machine.proofs.RunLaws.{after_append, steps_append, steps_one}
use Rattle.network.specs.Apart.{AreasApart, sender_at, taker_at, marked, sent_off, arrived}
use Rattle.network.specs.Packets.{Packet, Network, network_of, packet_at, status_at, NetworkEvent, turn_by, post_of, arrival_of, posted, post, arrive}
use Rattle.network.specs.Packets.{turn_network, act_network, start_network, machine_events, machine_run}
use Rattle.network.proofs.Agrees.{Agrees, Nothing}
use Rattle.network.proofs.Together.{Together, start_together, turn_number, turn_agrees}
use Rattle.network.proofs.Transport.{deliver_goes}
use Rattle.network.proofs.Posting.{Has, not_posted, still_there, in_flight, post_home, post_away, comes, waits_for, arrives, sender_at_lem}

-- ---- answers
pub zero_answer : {A : Type 0} (n : ℕ) (new old : A) → n ≡ 0 → answered n new old ≡ record { number = 0; after = new }
unfolding pick
zero_answer n new old e = rw e refl

pub some_answer : {A : Type 0} (n : ℕ) (new old : A) → n ≢ 0 → answered n new old ≡ record { number = n; after = old }
some_answer {A} n new old k = ap (λ (x : A). record { number = n; after = x }) (pick_false _ _ _ (ne_eqb n 0 k))

pub two_lines : (a b : Bool) → first_of (line 11 (not a) ∷ line 14 (not b) ∷ []) ≡ 0 → (a ≡ true) × (b ≡ true)
two_lines a b z =
    let x = none_first 11 (not a) _ (λ e. omega arith) z in
    let y = none_first 14 (not b) _ (λ e. omega arith) x.1 in
    (true_not x.0, true_not y.0)

pub lines_two : (a b : Bool) → a ≡ true → b ≡ true → first_of (line 11 (not a) ∷ line 14 (not b) ∷ []) ≡ 0
lines_two a b e f = first_false 11 _ _ (not-true e) ∙ first_false 14 _ _ (not-true f) ∙ first_nil

turn_is : (p : Plan) (n : Network) (b : ℕ) → (x : ℕ) → machine_events p n (turn_by b) x ≡ turn_of b ∷ []
unfolding machine_events
turn_is p n b x = refl

-- a delivery that gives 0 was in flight
pub was_flying : (p : Plan) (s : State) (m : ℕ) (a : Answered State) → Delivered p s m a → a.number ≡ 0 → (m < count p) × (status_of s m ≡ 1)
was_flying p s m a (Delivered.unfit h) z = absurd (omega arith)
was_flying p s m a Delivered.no_such z = absurd (omega arith)
was_flying p s m a (Delivered.not_flying h) z = absurd (omega arith)
was_flying p s m a (Delivered.delivers lo q) z = (lo, q)

-- ---- when a message is posted, and when a packet is taken in
module _ (p : Plan) (n : Network) where
  module _ (m : ℕ) where
    pub post_gives : m < count p → status_at n.areas (sender_at p m) m ≡ 1 → (post p n m).number ≡ 0
    unfolding post
    post_gives lo y = lines_two _ _ (lt-ltb m (count p) lo) (eq-eqb _ 1 y)

    pub post_asks : (post p n m).number ≡ 0 → (m < count p) × (status_at n.areas (sender_at p m) m ≡ 1)
    unfolding post
    post_asks z = let k = two_lines _ _ z in (ltb-true _ _ k.0, eqb-true _ _ k.1)

    pub post_zero : (post p n m).number ≡ 0
        → post p n m ≡ record { number = 0; after = network_of (sent_off p n.areas m) (n.packets ++ posted p n.areas m) }
    unfolding post
    post_zero z = zero_answer _ _ _ z

    pub post_some : (post p n m).number ≢ 0 → post p n m ≡ record { number = (post p n m).number; after = n }
    unfolding post
    post_some k = some_answer _ _ _ k

  module _ (k : ℕ) where
    pub arrive_gives : k < length n.packets
        → status_at n.areas (taker_at p (packet_at n.packets k).message) (packet_at n.packets k).message ≡ 0
        → (arrive p n k).number ≡ 0
    unfolding arrive
    arrive_gives lo y = lines_two _ _ (lt-ltb k _ lo) (eq-eqb _ 0 y)

    pub arrive_asks : (arrive p n k).number ≡ 0
        → (k < length n.packets) × (status_at n.areas (taker_at p (packet_at n.packets k).message) (packet_at n.packets k).message ≡ 0)
    unfolding arrive
    arrive_asks z = let q = two_lines _ _ z in (ltb-true _ _ q.0, eqb-true _ _ q.1)

    pub arrive_zero : (arrive p n k).number ≡ 0 → arrive p n k
        ≡ record { number = 0; after = network_of (arrived p n.areas (packet_at n.packets k).message (packet_at n.packets k).words) n.packets }
    unfolding arrive
    arrive_zero z = zero_answer _ _ _ z

    pub arrive_some : (arrive p n k).number ≢ 0 → arrive p n k ≡ record { number = (arrive p n k).number; after = n }
    unfolding arrive
    arrive_some q = some_answer _ _ _ q

    pub arrive_away : k < length n.packets
        → status_at n.areas (taker_at p (packet_at n.packets k).message) (packet_at n.packets k).message ≢ 0 → (arrive p n k).number ≡ 14
    unfolding arrive
    arrive_away lo q = first_false 11 _ _ (not-true (lt-ltb k _ lo)) ∙ first_true 14 _ _ (not-false (ne_eqb _ 0 q))

-- ---- a network beside shared areas
pub record Correct (p : Plan) (source : List ℕ) (x : Packet) : Type 0 where
  pub low : x.message < count p
  pub away : sender_at p x.message ≢ taker_at p x.message
  pub words : x.words ≡ map (swept p source) (held_by p x.message)

-- no message has two packets
abbrev pub PostedOnce : List Packet → Type 0
PostedOnce packets = (i k : ℕ) → i < length packets → k < length packets → (packet_at packets i).message ≡ (packet_at packets k).message → i ≡ k

pub record Follows (p : Plan) (source : List ℕ) (s : State) (n : Network) : Type 0 where
  pub to : Together (Has n.packets) p source s n.areas
  pub right : (k : ℕ) → k < length n.packets → Correct p source (packet_at n.packets k)
  pub once : PostedOnce n.packets

pub record Stepped (p : Plan) (source : List ℕ) (s : State) (n : Network) (ms : List Event) (a : Answered Network) : Type 0 where
  pub follows : Follows p source (state_after (act p source) s ms) a.after
  pub counted : one (eqb a.number 0) + length n.packets ≡ steps (act p source) s ms + length a.after.packets

-- one packet more
module _ (packets : List Packet) (x : Packet) where
  pub has_more : (k : ℕ) → Has packets k → Has (packets ++ (x ∷ [])) k
  has_more k h =
      record {
        at = h.at;
        low = rw (length-append packets (x ∷ [])) (omega (arith, h.low));
        is = ap (λ (y : Packet). y.message) (get_or-append packets (x ∷ []) _ h.at h.low) ∙ h.is;
      }

  has_new : Has (packets ++ (x ∷ [])) x.message
  has_new =
      record {
        at = length packets;
        low = rw (length-append packets (x ∷ [])) (omega arith);
        is = ap (λ (y : Packet). y.message) (get_or-append_seam packets x [] _);
      }

  seam_or : (k : ℕ) → k < length (packets ++ (x ∷ [])) → (k < length packets) ⊎ (k ≡ length packets)
  seam_or k h = let e = length-append packets (x ∷ []) in go (dec_lt k (length packets)) (rw e at h)
    where
      go : Dec (k < length packets) → k < length packets + 1 → (k < length packets) ⊎ (k ≡ length packets)
      go (yes l) q = inl l
      go (no l) q = inr (omega arith)

  has_less : (k : ℕ) → k ≢ x.message → Has (packets ++ (x ∷ [])) k → Has packets k
  has_less k n h = go (seam_or h.at h.low)
    where
      go : (h.at < length packets) ⊎ (h.at ≡ length packets) → Has packets k
      go (inl l) = record { at = h.at; low = l; is = ap (λ (y : Packet). y.message) (sym (get_or-append packets (x ∷ []) _ h.at l)) ∙ h.is }
      go (inr e) =
          absurd (n (sym h.is ∙ ap (λ (i : ℕ). (packet_at (packets ++ (x ∷ [])) i).message) e
          ∙ ap (λ (y : Packet). y.message) (get_or-append_seam packets x [] _)))

  once_more : PostedOnce packets → (Has packets x.message → ⊥) → PostedOnce (packets ++ (x ∷ []))
  once_more old new i k hi hk e = go (seam_or i hi) (seam_or k hk)
    where
      before : (j : ℕ) → j < length packets → (packet_at (packets ++ (x ∷ [])) j).message ≡ (packet_at packets j).message
      before j l = ap (λ (y : Packet). y.message) (get_or-append packets (x ∷ []) _ j l)

      there : (j : ℕ) → j ≡ length packets → (packet_at (packets ++ (x ∷ [])) j).message ≡ x.message
      there j l = ap (λ (a : ℕ). (packet_at (packets ++ (x ∷ [])) a).message) l ∙ ap (λ (y : Packet). y.message) (get_or-append_seam packets x [] _)

      go : (i < length packets) ⊎ (i ≡ length packets) → (k < length packets) ⊎ (k ≡ length packets) → i ≡ k
      go (inl a) (inl b) = old i k a b (sym (before i a) ∙ e ∙ before k b)
      go (inl a) (inr b) = absurd (new (record { at = i; low = a; is = sym (before i a) ∙ e ∙ there k b }))
      go (inr a) (inl b) = absurd (new (record { at = k; low = b; is = sym (before k b) ∙ sym e ∙ there i a }))
      go (inr a) (inr b) = a ∙ sym b

  right_more : (p : Plan) (source : List ℕ) → ((k : ℕ) → k < length packets → Correct p source (packet_at packets k)) → Correct p source x
      → (k : ℕ) → k < length (packets ++ (x ∷ [])) → Correct p source (packet_at (packets ++ (x ∷ [])) k)
  right_more p source old new k h = go (seam_or k h)
    where
      go : (k < length packets) ⊎ (k ≡ length packets) → Correct p source (packet_at (packets ++ (x ∷ [])) k)
      go (inl l) = rw (get_or-append packets (x ∷ []) (record { message = 0; words = [] }) k l) (old k l)
      go (inr e) = rw (e, get_or-append_seam packets x [] (record { message = 0; words = [] })) new

module _ (p : Plan) (so : Sound p) (source : List ℕ) (s : State) (n : Network) (fo : Follows p source s n) where
  abbrev inv : Inv p source s
  inv = fo.to.inv

  after_one : (e : Event) → state_after (act p source) s (e ∷ []) ≡ (act p source s e).after
  unfolding state_after
  after_one e = refl

  after_none : state_after (act p source) s [] ≡ s
  unfolding state_after
  after_none = refl

  no_steps : steps (act p source) s [] ≡ 0
  unfolding answers_to count_if
  no_steps = refl

  -- a refused event
  refused : (x : ℕ) → x ≢ 0 → Stepped p source s n [] (record { number = x; after = n })
  refused x k = record { follows = rw after_none fo; counted = rw (no_steps, one_false (ne_eqb x 0 k)) refl }

  -- ---- a turn
  turn_steps : (b : ℕ) → Stepped p source s n (turn_of b ∷ []) (turn_network p source n b)
  unfolding turn_network act
  turn_steps b =
      record {
        follows = rw (after_one (turn_of b))
            (record {
              to = record
                  { inv = next_inv p so source s inv (turn_of b); each = turn_agrees p so source s n.areas fo.to b };
              right = fo.right;
              once = fo.once;
            });
        counted = rw (steps_one (act p source) s (turn_of b), turn_number p so source s n.areas fo.to b) refl;
      }

  -- a delivery of a message in flight
  module _ (m : ℕ) (lo : m < count p) (x : status_of s m ≡ 1) where
    delivers : (act p source s (delivery_of m)).number ≡ 0
    delivers = flying p so source s inv m lo x

    delivers_after : (act p source s (delivery_of m)).after ≡ marked s m
    unfolding act
    delivers_after = deliver_goes p s m delivers

    inv_then : Inv p source (marked s m)
    inv_then = rw delivers_after at (next_inv p so source s inv (delivery_of m))

    delivery_steps : (areas : AreasApart) → ((c : ℕ) → c < p.processors → Agrees (Has n.packets) Nothing p (marked s m) c (areas c))
        → Stepped p source s n (delivery_of m ∷ []) (record { number = 0; after = network_of areas n.packets })
    delivery_steps areas each =
        record {
          follows = rw (after_one (delivery_of m), delivers_after)
              (record { to = record { inv = inv_then; each = each }; right = fo.right; once = fo.once });
          counted = rw (steps_one (act p source) s (delivery_of m), delivers) refl;
        }

  -- ---- a post
  module _ (m : ℕ) where
    abbrev packet : Packet
    packet = record { message = m; words = place_of p (n.areas (sender_at p m)).buffer m }

    posted_home : sender_at p m ≡ taker_at p m → n.packets ++ posted p n.areas m ≡ n.packets
    unfolding posted
    posted_home e = ap (λ (l : List Packet). n.packets ++ l) (pick_true _ _ _ (eq-eqb _ _ e)) ∙ append-nil n.packets

    posted_away : sender_at p m ≢ taker_at p m → posted p n.areas m ≡ packet ∷ []
    unfolding posted
    posted_away k = pick_false _ _ _ (ne_eqb _ _ k)

    events_none : (post p n m).number ≢ 0 → machine_events p n (post_of m) (post p n m).number ≡ []
    unfolding machine_events
    events_none k = pick_false _ _ _ (ne_eqb _ 0 k)

    events_home : (post p n m).number ≡ 0 → sender_at p m ≡ taker_at p m → machine_events p n (post_of m) (post p n m).number ≡ delivery_of m ∷ []
    unfolding machine_events
    events_home z e = pick_true _ _ _ (eq-eqb _ 0 z) ∙ pick_true _ _ _ (eq-eqb _ _ e)

    events_away : (post p n m).number ≡ 0 → sender_at p m ≢ taker_at p m → machine_events p n (post_of m) (post p n m).number ≡ []
    unfolding machine_events
    events_away z k = pick_true _ _ _ (eq-eqb _ 0 z) ∙ pick_false _ _ _ (ne_eqb _ _ k)

    module _ (lo : m < count p) (y : status_at n.areas (sender_at p m) m ≡ 1) where
      x : status_of s m ≡ 1
      x = in_flight p so source s n.areas inv fo.to.each m lo y

      packet_right : sender_at p m ≢ taker_at p m → Correct p source packet
      packet_right k =
          record {
            low = lo;
            away = k;
            words = ((fo.to.each (sender_at p m) (sender_at_lem p so source s n.areas inv fo.to.each m lo)).letters m lo (λ z. z)).own_words refl
                (omega (arith, x))
                ∙ inv.right.buffered m lo (omega (arith, x));
          }

      post_packet : sender_at p m ≢ taker_at p m
          → Stepped p source s n [] (record { number = 0; after = network_of (sent_off p n.areas m) (n.packets ++ (packet ∷ [])) })
      post_packet k =
          record {
            follows = rw after_none
                (record {
                  to = record {
                    inv = inv;
                    each = post_away p so source s n.areas inv fo.to.each m lo y (has_more n.packets packet) (has_less n.packets packet)
                        (has_new n.packets packet) k;
                  };
                  right = right_more n.packets packet p source fo.right (packet_right k);
                  once = once_more n.packets packet fo.once (not_posted p so source s n.areas inv fo.to.each m lo y);
                });
            counted = rw (no_steps, length-append n.packets (packet ∷ []), one_true (eq-eqb 0 0 refl)) (omega arith);
          }

    pub post_steps : Stepped p source s n (machine_events p n (post_of m) (post p n m).number) (post p n m)
    post_steps = go (ℕ_discrete (post p n m).number 0) (ℕ_discrete (sender_at p m) (taker_at p m))
      where
        go : Dec ((post p n m).number ≡ 0) → Dec (sender_at p m ≡ taker_at p m)
            → Stepped p source s n (machine_events p n (post_of m) (post p n m).number) (post p n m)
        go (no k) d = rw (events_none k, post_some p n m k) (refused _ k)
        go (yes z) (yes e) =
            rw (events_home z e, post_zero p n m z, posted_home e)
            (delivery_steps m (post_asks p n m z).0 (x (post_asks p n m z).0 (post_asks p n m z).1) (sent_off p n.areas m)
            (post_home p so source s n.areas inv fo.to.each m (post_asks p n m z).0 (post_asks p n m z).1 e))
        go (yes z) (no k) = rw (events_away z k, post_zero p n m z, posted_away k) (post_packet (post_asks p n m z).0 (post_asks p n m z).1 k)

  -- ---- an arrival
  module _ (k : ℕ) where
    abbrev it : Packet
    it = packet_at n.packets k

    arrival_none : (arrive p n k).number ≢ 0 → machine_events p n (arrival_of k) (arrive p n k).number ≡ []
    unfolding machine_events
    arrival_none q = pick_false _ _ _ (ne_eqb _ 0 q)

    arrival_one : (arrive p n k).number ≡ 0 → machine_events p n (arrival_of k) (arrive p n k).number ≡ delivery_of it.message ∷ []
    unfolding machine_events
    arrival_one z = pick_true _ _ _ (eq-eqb _ 0 z)

    module _ (lo : k < length n.packets) where
      pub has_it : Has n.packets it.message
      has_it = record { at = k; low = lo; is = refl }

      pub came : status_at n.areas (taker_at p it.message) it.message ≡ 0 → status_of s it.message ≡ 1
      came y = comes p so source s n.areas inv fo.to.each it.message (fo.right k lo).low has_it (fo.right k lo).away it.words
          (fo.right k lo).words y

      pub awaited : status_of s it.message ≡ 1 → status_at n.areas (taker_at p it.message) it.message ≡ 0
      awaited q = waits_for p so source s n.areas inv fo.to.each it.message (fo.right k lo).low has_it (fo.right k lo).away it.words
          (fo.right k lo).words q

      pub stays : place_of p (n.areas (sender_at p it.message)).buffer it.message ≡ it.words
      stays = still_there p so source s n.areas inv fo.to.each it.message (fo.right k lo).low has_it (fo.right k lo).away it.words
          (fo.right k lo).words

    pub arrive_steps : Stepped p source s n (machine_events p n (arrival_of k) (arrive p n k).number) (arrive p n k)
    arrive_steps = go (ℕ_discrete (arrive p n k).number 0)
      where
        go : Dec ((arrive p n k).number ≡ 0) → Stepped p source s n (machine_events p n (arrival_of k) (arrive p n k).number) (arrive p n k)
        go (no q) = rw (arrival_none q, arrive_some p n k q) (refused _ q)
        go (yes z) =
            rw (arrival_one z, arrive_zero p n k z)
            (delivery_steps it.message (fo.right k (arrive_asks p n k z).0).low (came (arrive_asks p n k z).0 (arrive_asks p n k z).1)
            (arrived p n.areas it.message it.words)
            (arrives p so source s n.areas inv fo.to.each it.message (fo.right k (arrive_asks p n k z).0).low (has_it (arrive_asks p n k z).0)
            (fo.right k (arrive_asks p n k z).0).away it.words (fo.right k (arrive_asks p n k z).0).words))

  -- ---- any event
  pub event_steps : (e : NetworkEvent) → Stepped p source s n (machine_events p n e (act_network p source n e).number) (act_network p source n e)
  unfolding act_network
  event_steps (turn_by b) = rw (turn_is p n b _) (turn_steps b)
  event_steps (post_of m) = post_steps m
  event_steps (arrival_of k) = arrive_steps k

-- ---- any list of events
module _ (p : Plan) (so : Sound p) (source : List ℕ) where
  pub start_follows : Follows p source (fresh p) (start_network p)
  start_follows = record
      { to = start_together p source (λ m h. omega (arith, h.low)); right = λ k h. absurd (omega arith); once = λ i k h l e. absurd (omega arith) }

  -- calls that answer as the network does, beside the machine
  module _ (acts : Network → NetworkEvent → Answered Network)
      (same : (s : State) (n : Network) → Follows p source s n → (e : NetworkEvent) → acts n e ≡ act_network p source n e) where
    stepped : (s : State) (n : Network) → Follows p source s n → (e : NetworkEvent)
        → Stepped p source s n (machine_events p n e (acts n e).number) (acts n e)
    stepped s n fo e = rw (same s n fo e) (event_steps p so source s n fo e)

    pub run_follows : (es : List NetworkEvent) (s : State) (n : Network) → Follows p source s n
        → Follows p source (state_after (act p source) s (machine_run acts p n es)) (state_after acts n es)
    unfolding machine_run state_after
    run_follows [] s n fo = fo
    run_follows (e ∷ es) s n fo =
        rw (after_append (act p source) s (machine_events p n e (acts n e).number) (machine_run acts p (acts n e).after es))
        (run_follows es _ _ (stepped s n fo e).follows)

    pub run_counted : (es : List NetworkEvent) (s : State) (n : Network) → Follows p source s n
        → steps acts n es + length n.packets ≡ steps (act p source) s (machine_run acts p n es) + length (state_after acts n es).packets
    unfolding machine_run state_after answers_to count_if
    run_counted [] s n fo = refl
    run_counted (e ∷ es) s n fo =
        let a = run_counted es _ _ (stepped s n fo e).follows in
        let b = (stepped s n fo e).counted in
        let c = steps_append (act p source) s (machine_events p n e (acts n e).number) (machine_run acts p (acts n e).after es) in
        omega arith
