-- What was posted, counted along a run of any calls: each message handed over is one packet more, and what was taken in was posted.
use Prim.Native.Nat.{ℕ, zero, suc, ◌+◌, ◌≤◌, ◌<◌}
use mathlib.Core.Path.{◌≡◌, refl, sym, ap, ◌∙◌}
use mathlib.Core.Logic.{◌≢◌}
use mathlib.Core.Bool.{Bool, true, false}
use mathlib.Core.List.{List, [], ◌∷◌, ◌++◌, append-nil}
use native.Mathlib.Omega.{arith}
use native.Mathlib.Decide.{dec_lt, ℕ_discrete}
use lib.ListN.{length}
use lib.Dec.{ltb, eqb}
use borrow.Author.Tests.{eq-eqb, ne_eqb}
use Rattle.base.specs.Tests.{◌and◌, pick, one}
use Rattle.base.specs.Lists.{count_if}
use Rattle.base.proofs.Tests.{and_no, and_false, pick_true, pick_false, one_true, one_false}
use Rattle.base.proofs.Select.{keep_few}
use Rattle.base.proofs.Lists.{count_append}
use Rattle.machine.specs.Machine.{State, Answered}
use Rattle.machine.specs.Runs.{state_after, answers_to, deliveries_of}
use Rattle.network.specs.Packets.{Packet, packet_at, Network}
use Rattle.network.specs.Brought.{BoardEvent, turn_at, post_at, brought_to, BoardCalls, called_at, act_boards, Carries}
use Rattle.network.specs.OnBoards.{events_at, numbers_at, posts_of}
use Rattle.network.proofs.Posting.{Has}
use Rattle.network.proofs.Network.{PostedOnce, has_more}
use Rattle.network.proofs.Bounded.{at_most}
use Rattle.network.proofs.Brought.{carries_first, carries_rest}

and_right : (a b : Bool) → b ≡ true → (a and b) ≡ a
unfolding ◌and◌
and_right true b e = e
and_right false b e = refl

abbrev pub is_of : ℕ → Packet → Bool
is_of m x = eqb x.message m

-- ---- packets of one message
module _ (m : ℕ) where
  none_count : (ps : List Packet) → ((k : ℕ) → k < length ps → (packet_at ps k).message ≢ m) → count_if (is_of m) ps ≡ 0
  unfolding count_if
  none_count [] h = refl
  none_count (x ∷ ps) h =
      let a = none_count ps (λ k l. h (suc k) (omega arith)) in
      omega (arith, one_false (ne_eqb x.message m (h 0 (omega arith))))

  pub has_count : (ps : List Packet) (k : ℕ) → k < length ps → (packet_at ps k).message ≡ m → 1 ≤ count_if (is_of m) ps
  unfolding count_if
  has_count [] k l e = absurd (omega arith)
  has_count (x ∷ ps) zero l e = omega (arith, one_true (eq-eqb x.message m e))
  has_count (x ∷ ps) (suc k) l e = let a = has_count ps k (omega arith) e in omega arith

  pub once_count : (ps : List Packet) → PostedOnce ps → count_if (is_of m) ps ≤ 1
  unfolding count_if
  once_count [] once = omega arith
  once_count (x ∷ ps) once =
      go (ℕ_discrete x.message m) (once_count ps (λ i k li lk e. let q : suc i ≡ suc k = once (suc i) (suc k) (omega arith) (omega arith) e in omega arith))
    where
      go : Dec (x.message ≡ m) → count_if (is_of m) ps ≤ 1 → one (eqb x.message m) + count_if (is_of m) ps ≤ 1
      go (yes e) r =
          let a = none_count ps (λ k l q. let z : ◌≡◌ {A = ℕ} 0 (suc k) = once 0 (suc k) (omega arith) (omega arith) (e ∙ sym q) in omega arith) in
          omega (arith, one_true (eq-eqb x.message m e))
      go (no n) r = omega (arith, one_false (ne_eqb x.message m n))

-- every message below n has a packet: so there are as many at least
pub at_least : (ps : List Packet) (n : ℕ) → ((m : ℕ) → m < n → Has ps m) → n ≤ length ps
at_least ps n has =
    let a = at_most (λ k. true) (length ps) n place low (λ i h. refl) once in
    omega (arith, keep_few (λ k. true) (length ps))
  where
    at : (m : ℕ) → Dec (m < n) → ℕ
    at m (yes h) = (has m h).at
    at m (no k) = 0

    place : ℕ → ℕ
    place m = at m (dec_lt m n)

    at_low : (m : ℕ) (d : Dec (m < n)) → m < n → at m d < length ps
    at_low m (yes h) l = (has m h).low
    at_low m (no k) l = absurd (k l)

    at_is : (m : ℕ) (d : Dec (m < n)) → m < n → (packet_at ps (at m d)).message ≡ m
    at_is m (yes h) l = (has m h).is
    at_is m (no k) l = absurd (k l)

    low : (m : ℕ) → m < n → place m < length ps
    low m h = at_low m (dec_lt m n) h

    once : (i k : ℕ) → i < n → k < n → place i ≡ place k → i ≡ k
    once i k hi hk e = sym (at_is i (dec_lt i n) hi) ∙ ap (λ (j : ℕ). (packet_at ps j).message) e ∙ at_is k (dec_lt k n) hk

-- ---- along a run
module _ (boards : ℕ) (calls : BoardCalls) where
  abbrev A : Network → BoardEvent → Answered Network
  A = act_boards boards calls

  turn_packets : (n : Network) (b : ℕ) → (A n (turn_at b)).after.packets ≡ n.packets
  unfolding act_boards pick
  turn_packets n b = go (ltb b boards)
    where
      go : (v : Bool) → (pick v (called_at n b (calls.turns b (n.areas b)) n.packets) (record { number = 11; after = n })).after.packets ≡ n.packets
      go true = refl
      go false = refl

  take_packets : (n : Network) (b m : ℕ) (ws : List ℕ) → (A n (brought_to b m ws)).after.packets ≡ n.packets
  unfolding act_boards pick
  take_packets n b m ws = go (ltb b boards)
    where
      go : (v : Bool) → (pick v (called_at n b (calls.accepts b (n.areas b) m ws) n.packets) (record { number = 11; after = n })).after.packets ≡ n.packets
      go true = refl
      go false = refl

  -- a post that gave 0 is one packet more
  module _ (n : Network) (b m : ℕ) where
    abbrev a : Answered State
    a = calls.posts b (n.areas b) m

    abbrev packet : Packet
    packet = record { message = m; words = calls.reads b (n.areas b) m }

    post_grows : (P : List Packet → Type 0) → ((A n (post_at b m)).number ≡ 0 → P (n.packets ++ (packet ∷ []))) → ((A n (post_at b m)).number ≢ 0 → P n.packets)
        → P (A n (post_at b m)).after.packets
    unfolding act_boards pick
    post_grows P one_more none = go (ltb b boards) one_more none
      where
        go : (v : Bool)
            → ((pick v (called_at n b a (n.packets ++ pick (eqb a.number 0) (packet ∷ []) [])) (record { number = 11; after = n })).number ≡ 0
            → P (n.packets ++ (packet ∷ [])))
            → ((pick v (called_at n b a (n.packets ++ pick (eqb a.number 0) (packet ∷ []) [])) (record { number = 11; after = n })).number ≢ 0
            → P n.packets)
            → P (pick v (called_at n b a (n.packets ++ pick (eqb a.number 0) (packet ∷ []) [])) (record { number = 11; after = n })).after.packets
        go true x y = at (ℕ_discrete a.number 0)
          where
            at : Dec (a.number ≡ 0) → P (n.packets ++ pick (eqb a.number 0) (packet ∷ []) [])
            at (yes z) = rw (pick_true _ (packet ∷ []) [] (eq-eqb a.number 0 z)) (x z)
            at (no k) = rw (pick_false _ (packet ∷ []) [] (ne_eqb a.number 0 k), append-nil n.packets) (y k)
        go false x y = y (λ z. omega arith)

  module _ (m : ℕ) where
    post_counted : (n : Network) (b k : ℕ) → one (eqb k m and eqb (A n (post_at b k)).number 0) + count_if (is_of m) n.packets
        ≡ count_if (is_of m) (A n (post_at b k)).after.packets
    unfolding count_if
    post_counted n b k =
        post_grows n b k (λ (l : List Packet). one (eqb k m and eqb (A n (post_at b k)).number 0) + count_if (is_of m) n.packets ≡ count_if (is_of m) l)
        (λ z. let c = count_append (is_of m) n.packets (packet n b k ∷ []) in
        let e : (eqb k m and eqb (A n (post_at b k)).number 0) ≡ eqb k m = and_right _ _ (eq-eqb _ 0 z) in
        omega (arith, ap one e))
        (λ q. omega (arith, one_false (and_no (eqb k m) _ (ne_eqb _ 0 q))))

    pub posts_counted : (es : List BoardEvent) (n : Network)
        → posts_of m es (answers_to A n es) + count_if (is_of m) n.packets ≡ count_if (is_of m) (state_after A n es).packets
    unfolding posts_of answers_to state_after
    posts_counted [] n = omega arith
    posts_counted (turn_at b ∷ es) n =
        ap (λ (l : List Packet). posts_of m es (answers_to A (A n (turn_at b)).after es) + count_if (is_of m) l) (sym (turn_packets n b))
        ∙ posts_counted es (A n (turn_at b)).after
    posts_counted (post_at b k ∷ es) n =
        let r = posts_counted es (A n (post_at b k)).after in
        omega (arith, r, post_counted n b k)
    posts_counted (brought_to b k ws ∷ es) n =
        ap (λ (l : List Packet). posts_of m es (answers_to A (A n (brought_to b k ws)).after es) + count_if (is_of m) l) (sym (take_packets n b k ws))
        ∙ posts_counted es (A n (brought_to b k ws)).after

    -- ---- what was posted stays posted
    has_next : (n : Network) (e : BoardEvent) → Has n.packets m → Has (A n e).after.packets m
    has_next n (turn_at b) h = rw (turn_packets n b) h
    has_next n (post_at b k) h = post_grows n b k (λ (l : List Packet). Has l m) (λ z. has_more n.packets (packet n b k) m h) (λ q. h)
    has_next n (brought_to b k ws) h = rw (take_packets n b k ws) h

    pub has_then : (es : List BoardEvent) (n : Network) → Has n.packets m → Has (state_after A n es).packets m
    unfolding state_after
    has_then [] n h = h
    has_then (e ∷ es) n h = has_then es (A n e).after (has_next n e h)

    -- and what was taken in was posted
    pub taken_posted : (es : List BoardEvent) (n : Network) → Carries A n es
        → 1 ≤ deliveries_of m (events_at es) (numbers_at es (answers_to A n es)) → Has (state_after A n es).packets m
    unfolding state_after answers_to events_at numbers_at deliveries_of
    taken_posted [] n c h = absurd (omega arith)
    taken_posted (turn_at b ∷ es) n c h = taken_posted es (A n (turn_at b)).after (carries_rest A n (turn_at b) es c) h
    taken_posted (post_at b k ∷ es) n c h = taken_posted es (A n (post_at b k)).after (carries_rest A n (post_at b k) es c) h
    taken_posted (brought_to b k ws ∷ es) n c h =
        go (ℕ_discrete k m) (λ l. taken_posted es (A n (brought_to b k ws)).after (carries_rest A n (brought_to b k ws) es c) l)
      where
        go : Dec (k ≡ m)
            → (1 ≤ deliveries_of m (events_at es) (numbers_at es (answers_to A (A n (brought_to b k ws)).after es))
            → Has (state_after A (A n (brought_to b k ws)).after es).packets m)
            → Has (state_after A (A n (brought_to b k ws)).after es).packets m
        go (yes e) rest =
            let w = carries_first A n (brought_to b k ws) es c in
            has_then es (A n (brought_to b k ws)).after
            (has_next n (brought_to b k ws) (record { at = w.at; low = w.low; is = w.number ∙ e }))
        go (no q) rest = rest (omega (arith, h, one_false (and_false (eqb k m) (eqb (A n (brought_to b k ws)).number 0) (ne_eqb k m q))))
