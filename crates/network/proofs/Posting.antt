-- Each event of a network beside the machine on shared areas: posts and arrivals, and what they leave in agreement.
use Prim.Native.Nat.{ℕ, ◌≤◌, ◌<◌}
use mathlib.Core.Path.{◌≡◌, refl, sym, ap, ◌∙◌}
use mathlib.Core.Logic.{◌⊎◌, inl, inr, ◌≢◌}
use mathlib.Core.List.{List, map}
use native.Mathlib.Omega.{arith}
use native.Mathlib.Decide.{ℕ_discrete}
use lib.ListN.{length}
use Rattle.base.proofs.Lists.{part_length}
use Rattle.machine.specs.Plan.{Plan, Sound, count, sender_of, taker_of, held_by, offset}
use Rattle.machine.specs.Machine.{State, place_of}
use Rattle.machine.proofs.Values.{offset_apart}
use Rattle.machine.proofs.Invariant.{sender_low}
use Rattle.machine.proofs.Kept.{Inv, swept, status_of}
use Rattle.network.specs.Apart.{AreasApart, replaced, sender_at, taker_at, marked, received, sent_off, arrived}
use Rattle.network.specs.Packets.{Packet, packet_at}
use Rattle.network.proofs.Letters.{Letter, letter_both, letter_none, letter_gone, replaced_same, replaced_other, words_there}
use Rattle.network.proofs.Agrees.{Agrees, Nothing}
use Rattle.network.proofs.Carry.{but, whole, status_two, mark_shared, mark_own, receive_own}

-- message m was posted
pub record Has (packets : List Packet) (m : ℕ) : Type 0 where
  pub at : ℕ
  pub low : at < length packets
  pub is : (packet_at packets at).message ≡ m

-- more messages are posted
pub more : {Q R : ℕ → Type 0} (P : ℕ → Type 0) (p : Plan) (s : State) (b : ℕ) (r : State) → ((m : ℕ) → Q m → R m)
    → ((m : ℕ) → m < count p → (P m → ⊥) → R m → Q m) → Agrees Q P p s b r → Agrees R P p s b r
more {Q} {R} P p s b r f g ag =
    record { shape = ag.shape; high = ag.high; memory = ag.memory; recorded = ag.recorded; letters = λ m lo z. go m lo z (ag.letters m lo z) }
  where
    go : (m : ℕ) → m < count p → (P m → ⊥) → Letter Q p b m (status_of s m) (status_of r m) (place_of p s.buffer m) (place_of p r.buffer m)
        → Letter R p b m (status_of s m) (status_of r m) (place_of p s.buffer m) (place_of p r.buffer m)
    go m lo z l =
        record {
          high = l.high;
          due_two = l.due_two;
          two_due = l.two_due;
          three_due = l.three_due;
          due_none = l.due_none;
          due_words = l.due_words;
          own_one = l.own_one;
          one_own = λ i k. either (l.one_own i k);
          own_words = l.own_words;
          posted_sent = λ k. l.posted_sent (g m lo z k);
          posted_off = λ i k. l.posted_off i (g m lo z k);
          only_own = l.only_own;
        }
      where
        either : (status_of r m ≡ 1) ⊎ Q m → (status_of r m ≡ 1) ⊎ R m
        either (inl k) = inl k
        either (inr k) = inr (f m k)

abbrev Only : ℕ → ℕ → Type 0
Only m k = k ≡ m

none : ⊥ → ⊥
none z = z

module _ {Q : ℕ → Type 0} (p : Plan) (so : Sound p) (source : List ℕ) (s : State) (areas : AreasApart) (inv : Inv p source s)
    (each : (c : ℕ) → c < p.processors → Agrees Q Nothing p s c (areas c)) (m : ℕ) (lo : m < count p) where
  pub sender_at_lem : sender_at p m < p.processors
  sender_at_lem = so.processor_low (sender_of p m) (sender_low p so m lo)

  pub taker_at_lem : taker_at p m < p.processors
  taker_at_lem = so.processor_low (taker_of p m) (so.taker_low m lo)

  abbrev from : ℕ
  from = sender_at p m

  shared_two : status_of (marked s m) m ≡ 2
  shared_two = status_two p 0 s m lo inv.shape

  -- ---- posting: the sender's own areas marked
  own_two : status_of (marked (areas from) m) m ≡ 2
  own_two = status_two p from (areas from) m lo (each from sender_at_lem).shape

  pub in_flight : status_of (areas from) m ≡ 1 → status_of s m ≡ 1
  in_flight y = ((each from sender_at_lem).letters m lo none).own_one refl y

  module _ (y : status_of (areas from) m ≡ 1) where
    own_words : place_of p (areas from).buffer m ≡ place_of p s.buffer m
    own_words = ((each from sender_at_lem).letters m lo none).own_words refl (omega (arith, in_flight y))

    pub not_posted : Q m → ⊥
    not_posted k = ((each from sender_at_lem).letters m lo none).posted_off refl k y

    -- its taker is on the same processor
    pub post_home : from ≡ taker_at p m → (c : ℕ) → c < p.processors → Agrees Q Nothing p (marked s m) c (sent_off p areas m c)
    unfolding sent_off
    post_home home c low = go (ℕ_discrete c from)
      where
        go : Dec (c ≡ from) → Agrees Q Nothing p (marked s m) c (replaced areas from (marked (areas from) m) c)
        go (yes e) =
            rw (e, replaced_same areas from (marked (areas from) m) from refl)
            (whole p from (marked (areas from) m) m (marked s m)
            (mark_shared p from (marked (areas from) m) m lo s (mark_own p from (areas from) m lo s (but p from (areas from) m s (each from sender_at_lem)))
            inv.shape)
            (letter_both p from m _ _ _ _ (omega (arith, own_two)) (shared_two ∙ sym own_two) own_words (λ i n k. absurd (n refl))
            (λ k. omega (arith, shared_two)) (λ k o. omega (arith, own_two)) (λ i o. omega (arith, own_two))))
        go (no n) =
            rw (replaced_other areas from (marked (areas from) m) c n)
            (whole p c (areas c) m (marked s m) (mark_shared p c (areas c) m lo s (but p c (areas c) m s (each c low)) inv.shape)
            (letter_none p c m _ _ _ _ ((each c low).high m lo) (λ i. n (sym i ∙ sym home)) (λ i. n (sym i)) (λ k. omega (arith, shared_two))
            (((each c low).letters m lo none).only_own (λ i. n (sym i)))))

    -- it goes to another: nothing happens on shared areas, but it is posted from now on
    pub post_away : {R : ℕ → Type 0} → ((k : ℕ) → Q k → R k) → ((k : ℕ) → k ≢ m → R k → Q k) → R m → from ≢ taker_at p m
        → (c : ℕ) → c < p.processors → Agrees R Nothing p s c (sent_off p areas m c)
    unfolding sent_off
    post_away {R} f g now away c low = go (ℕ_discrete c from)
      where
        go : Dec (c ≡ from) → Agrees R Nothing p s c (replaced areas from (marked (areas from) m) c)
        go (yes e) =
            rw (e, replaced_same areas from (marked (areas from) m) from refl)
            (whole p from (marked (areas from) m) m s
            (more (Only m) p s from (marked (areas from) m) f (λ k l n. g k n)
            (mark_own p from (areas from) m lo s (but p from (areas from) m s (each from sender_at_lem))))
            (letter_gone p from m _ _ _ _ (omega (arith, own_two)) (λ i. away (sym i)) (λ k. now) (λ k. omega (arith, own_two)) (λ i. own_words)
            (λ k. omega (arith, in_flight y))))
        go (no n) =
            rw (replaced_other areas from (marked (areas from) m) c n)
            (whole p c (areas c) m s (more (Only m) p s c (areas c) f (λ k l q. g k q) (but p c (areas c) m s (each c low)))
            (other (ℕ_discrete (taker_at p m) c)))
          where
            was : Letter Q p c m (status_of s m) (status_of (areas c) m) (place_of p s.buffer m) (place_of p (areas c).buffer m)
            was = (each c low).letters m lo none

            other : Dec (taker_at p m ≡ c) → Letter R p c m (status_of s m) (status_of (areas c) m) (place_of p s.buffer m) (place_of p (areas c).buffer m)
            other d =
                record {
                  high = was.high;
                  due_two = was.due_two;
                  two_due = was.two_due;
                  three_due = was.three_due;
                  due_none = was.due_none;
                  due_words = was.due_words;
                  own_one = was.own_one;
                  one_own = λ i k. absurd (n (sym i));
                  own_words = was.own_words;
                  posted_sent = λ k. omega (arith, in_flight y);
                  posted_off = λ i k. absurd (n (sym i));
                  only_own = was.only_own;
                }

  -- ---- arriving: the words put at the taker's, once only
  module _ (has : Q m) (away : from ≢ taker_at p m) (ws : List ℕ) (right : ws ≡ map (swept p source) (held_by p m)) where
    abbrev to : ℕ
    to = taker_at p m

    sent : 1 ≤ status_of s m
    sent = ((each to taker_at_lem).letters m lo none).posted_sent has

    words_same : ws ≡ place_of p s.buffer m
    words_same = right ∙ sym (inv.right.buffered m lo sent)

    words_length : length ws ≡ length (held_by p m)
    words_length =
        ap length words_same
        ∙ part_length s.buffer (offset p.messages m) (length (held_by p m)) (rw inv.shape.buffer (offset_apart p.messages m (count p) lo lo))

    -- its place at the sender's still has them
    pub still_there : place_of p (areas from).buffer m ≡ ws
    still_there = ((each from sender_at_lem).letters m lo none).own_words refl sent ∙ sym words_same

    -- a status of 0 at the taker's says that it is in flight
    pub comes : status_of (areas to) m ≡ 0 → status_of s m ≡ 1
    comes z = go (ℕ_discrete (status_of s m) 2) (ℕ_discrete (status_of s m) 3)
      where
        l : Letter Q p to m (status_of s m) (status_of (areas to) m) (place_of p s.buffer m) (place_of p (areas to).buffer m)
        l = (each to taker_at_lem).letters m lo none

        go : Dec (status_of s m ≡ 2) → Dec (status_of s m ≡ 3) → status_of s m ≡ 1
        go (yes e) d = absurd (omega (arith, l.two_due refl e))
        go (no n) (yes e) = absurd (omega (arith, l.three_due refl e))
        go (no n) (no k) = omega (arith, sent, inv.statuses.high m lo)

    pub waits_for : status_of s m ≡ 1 → status_of (areas to) m ≡ 0
    waits_for x = ((each to taker_at_lem).letters m lo none).due_none refl away (omega arith)

    pub arrives : (c : ℕ) → c < p.processors → Agrees Q Nothing p (marked s m) c (arrived p areas m ws c)
    unfolding arrived
    arrives c low = go (ℕ_discrete c to)
      where
        two : status_of (received p (areas to) m ws) m ≡ 2
        two = status_two p to (areas to) m lo (each to taker_at_lem).shape

        go : Dec (c ≡ to) → Agrees Q Nothing p (marked s m) c (replaced areas to (received p (areas to) m ws) c)
        go (yes e) =
            rw (e, replaced_same areas to (received p (areas to) m ws) to refl)
            (whole p to (received p (areas to) m ws) m (marked s m)
            (mark_shared p to (received p (areas to) m ws) m lo s
            (receive_own p to (areas to) m lo s (but p to (areas to) m s (each to taker_at_lem)) ws words_length) inv.shape)
            (letter_both p to m _ _ _ _ (omega (arith, two)) (shared_two ∙ sym two)
            (words_there p (areas to).buffer m ws (each to taker_at_lem).shape.buffer lo words_length ∙ words_same)
            (λ i n k. absurd (omega (arith, shared_two))) (λ k. omega (arith, shared_two)) (λ k o. omega (arith, two)) (λ i o. omega (arith, two))))
        go (no n) =
            rw (replaced_other areas to (received p (areas to) m ws) c n)
            (whole p c (areas c) m (marked s m) (mark_shared p c (areas c) m lo s (but p c (areas c) m s (each c low)) inv.shape)
            (at (ℕ_discrete c from)))
          where
            at : Dec (c ≡ from) → Letter Q p c m (status_of (marked s m) m) (status_of (areas c) m) (place_of p s.buffer m) (place_of p (areas c).buffer m)
            at (yes e) =
                letter_gone p c m _ _ _ _ ((each c low).high m lo) (λ i. n (sym i)) (λ k. has) (((each c low).letters m lo none).posted_off (sym e) has)
                (λ i. ((each c low).letters m lo none).own_words i sent) (λ k. omega (arith, shared_two))
            at (no q) =
                letter_none p c m _ _ _ _ ((each c low).high m lo) (λ i. n (sym i)) (λ i. q (sym i)) (λ k. omega (arith, shared_two))
                (((each c low).letters m lo none).only_own (λ i. q (sym i)))
