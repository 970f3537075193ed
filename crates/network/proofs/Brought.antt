-- A call on one board of the machine's, beside the network of Packets: a turn is a turn, a message handed over is a post, one taken in an arrival; what is
-- refused writes nothing. So a run over a transport that carries what was posted is a run of the machine.
use Prim.Native.Nat.{ℕ, suc, ◌+◌, ◌≤◌, ◌<◌}
use mathlib.Core.Path.{◌≡◌, refl, sym, ap, ◌∙◌, subst}
use mathlib.Core.Logic.{◌≢◌}
use mathlib.Core.Bool.{Bool, true, false}
use mathlib.Core.List.{List, [], ◌∷◌, ◌++◌, append-nil, append_assoc}
use native.Mathlib.Omega.{arith}
use native.Mathlib.Decide.{dec_lt, ℕ_discrete}
use lib.ListN.{length}
use lib.Dec.{ltb, eqb}
use borrow.Author.Tests.{eqb-true, eq-eqb, ne_eqb, lt-ltb, le-ltb}
use Rattle.base.specs.Tests.{not, pick}
use Rattle.base.specs.Lists.{count_if}
use Rattle.base.specs.Numbers.{line, first_of}
use Rattle.base.proofs.Tests.{both, and_true, and_no, and_false, or_left, or_right, or_false, not-true, not-false, true_not, pick_true, pick_false}
use Rattle.base.proofs.Tests.{one_true, one_false}
use Rattle.base.proofs.Numbers.{first_true, first_false, first_nil, none_first}
use Rattle.machine.specs.Plan.{Plan, Sound, count, held_by}
use Rattle.machine.specs.Machine.{State, place_of, fit, Answered, turn, deliver}
use Rattle.machine.specs.Runs.{Event, turn_of, delivery_of, act, state_after, answers_to, steps}
use Rattle.machine.proofs.Turns.{delivered}
use Rattle.machine.proofs.Kept.{status_of}
use Rattle.machine.proofs.Events.{flying}
use Rattle.machine.proofs.RunLaws.{Passed, number_of, after_of}
use Rattle.network.specs.Apart.{AreasApart, sender_at, taker_at, replaced, marked, received, sent_off, arrived}
use Rattle.network.specs.Packets.{Packet, packet_at, Network, network_of, status_at, turn_by, post_of, arrival_of, posted, post, arrive}
use Rattle.network.specs.Packets.{turn_network, act_network, machine_events}
use Rattle.network.specs.Apart.{turn_apart}
use Rattle.network.specs.Brought.{BoardEvent, turn_at, post_at, brought_to, called_at, act_boards, take_in}
use Rattle.network.specs.Brought.{machine_boards, WasPosted, Carries}
use Rattle.network.specs.OnBoards.{events_at, numbers_at}
use Rattle.network.proofs.Letters.{replaced_own}
use Rattle.network.proofs.Agrees.{agrees_fit}
use Rattle.network.proofs.Together.{turn_number}
use Rattle.network.proofs.Transport.{deliver_goes, both_parts}
use Rattle.network.proofs.Network.{Follows, zero_answer, some_answer, was_flying, post_gives, post_zero, arrive_gives, arrive_zero, came, event_steps}

-- every message goes to another processor
abbrev pub Away : Plan → Type 0
Away p = (m : ℕ) → m < count p → sender_at p m ≢ taker_at p m

-- ---- calls of any kind
module _ (boards : ℕ) (n : Network) (b : ℕ) (a : Answered State) (ps : List Packet) where
  abbrev event : Answered Network
  event = pick (ltb b boards) (called_at n b a ps) (record { number = 11; after = n })

  pub board_low : event.number ≡ 0 → b < boards
  board_low z = go (dec_lt b boards)
    where
      go : Dec (b < boards) → b < boards
      go (yes h) = h
      go (no k) = absurd (omega (arith, number_of (pick_false _ (called_at n b a ps) (record { number = 11; after = n }) (le-ltb b boards (omega arith))), z))

  pub stays_as : (b < boards → a.number ≢ 0 → a.after ≡ n.areas b) → (b < boards → a.number ≢ 0 → ps ≡ n.packets) → event.number ≢ 0
      → event.after ≡ n
  stays_as same none z = go (dec_lt b boards)
    where
      go : Dec (b < boards) → event.after ≡ n
      go (yes h) =
          let e = pick_true _ (called_at n b a ps) (record { number = 11; after = n }) (lt-ltb b boards h) in
          let k : a.number ≢ 0 = λ q. z (number_of e ∙ q) in
          after_of e
          ∙ ap (λ (x : State). network_of (replaced n.areas b x) ps) (same h k)
          ∙ ap (λ (l : List Packet). network_of (replaced n.areas b (n.areas b)) l) (none h k)
          ∙ ap (λ (x : AreasApart). network_of x n.packets) (replaced_own n.areas b)
      go (no k) = after_of (pick_false _ (called_at n b a ps) (record { number = 11; after = n }) (le-ltb b boards (omega arith)))

-- ---- what a message is asked when it is handed over, and when it is taken in
module _ (p : Plan) (s : State) where
  pub post_asked : (m : ℕ) → (deliver p s m).number ≡ 0 → (m < count p) × (status_of s m ≡ 1)
  post_asked m z = was_flying p s m _ (delivered p s m) z

  pub post_refused : (m : ℕ) → (deliver p s m).number ≢ 0 → (deliver p s m).after ≡ s
  unfolding deliver
  post_refused m z = after_of (some_answer _ _ s z)

  pub turn_refused : (source : List ℕ) (b : ℕ) → (turn p source s b).number ≢ 0 → (turn p source s b).after ≡ s
  unfolding turn
  turn_refused source b z = after_of (some_answer _ _ s z)

  module _ (b m : ℕ) (ws : List ℕ) where
    pub take_refused : (take_in p s b m ws).number ≢ 0 → (take_in p s b m ws).after ≡ s
    unfolding take_in
    take_refused z = after_of (some_answer _ _ s z)

    pub take_goes : (take_in p s b m ws).number ≡ 0 → (take_in p s b m ws).after ≡ received p s m ws
    unfolding take_in
    take_goes z = after_of (zero_answer _ _ s z)

    pub take_asked : (take_in p s b m ws).number ≡ 0 → (taker_at p m ≡ b) × (status_of s m ≡ 0)
    unfolding take_in
    take_asked e =
        let e1 = none_first 9 _ _ (λ k. omega arith) e in
        let e2 = none_first 10 _ _ (λ k. omega arith) e1.1 in
        let e3 = none_first 11 _ _ (λ k. omega arith) e2.1 in
        let e4 = none_first 14 _ _ (λ k. omega arith) e3.1 in
        (eqb-true _ _ (both (true_not e3.0)).1, eqb-true _ _ (true_not e4.0))

    pub take_short : m < count p → length ws ≢ length (held_by p m) → (take_in p s b m ws).number ≡ 9
    unfolding take_in
    take_short lo e = first_true 9 _ _ (not-false (or_false (not-true (lt-ltb m (count p) lo)) (ne_eqb _ _ e)))

    module _ (f : fit p s ≡ true) where
      pub take_none : count p ≤ m → (take_in p s b m ws).number ≡ 11
      unfolding take_in
      take_none h =
          first_false 9 _ _ (not-true (or_left _ (not-false (le-ltb m (count p) h)))) ∙ first_false 10 _ _ (not-true f)
          ∙ first_true 11 _ _ (not-false (and_false _ _ (le-ltb m (count p) h)))

      module _ (e : length ws ≡ length (held_by p m)) where
        pub take_wrong : taker_at p m ≢ b → (take_in p s b m ws).number ≡ 11
        unfolding take_in
        take_wrong t =
            first_false 9 _ _ (not-true (or_right (not (ltb m (count p))) (eq-eqb _ _ e))) ∙ first_false 10 _ _ (not-true f)
            ∙ first_true 11 _ _ (not-false (and_no (ltb m (count p)) _ (ne_eqb _ _ t)))

        -- past all lines but the last
        take_last : m < count p → taker_at p m ≡ b → (take_in p s b m ws).number ≡ first_of (line 14 (not (eqb (status_of s m) 0)) ∷ [])
        unfolding take_in
        take_last lo t =
            first_false 9 _ _ (not-true (or_right (not (ltb m (count p))) (eq-eqb _ _ e))) ∙ first_false 10 _ _ (not-true f)
            ∙ first_false 11 _ _ (not-true (and_true (lt-ltb m (count p) lo) (eq-eqb _ _ t)))

        pub take_again : m < count p → taker_at p m ≡ b → status_of s m ≢ 0 → (take_in p s b m ws).number ≡ 14
        take_again lo t k = take_last lo t ∙ first_true 14 _ _ (not-false (ne_eqb _ 0 k))

        pub takes_it : m < count p → taker_at p m ≡ b → status_of s m ≡ 0 → (take_in p s b m ws).number ≡ 0
        takes_it lo t z = take_last lo t ∙ first_false 14 _ _ (not-true (eq-eqb _ 0 z)) ∙ first_nil

  -- one that is not in flight here
  pub not_flying : fit p s ≡ true → (m : ℕ) → m < count p → status_of s m ≢ 1 → (deliver p s m).number ≡ 14
  unfolding deliver
  not_flying f m lo k =
      first_false 10 _ _ (not-true f) ∙ first_false 11 _ _ (not-true (lt-ltb m (count p) lo)) ∙ first_true 14 _ _ (not-false (ne_eqb _ 1 k))

-- ---- lists of events that a transport carries, one by one

-- what is brought was posted; of other events nothing is asked
abbrev pub Honest : List Packet → BoardEvent → Type 0
Honest packets (turn_at b) = Unit {0}
Honest packets (post_at b m) = Unit {0}
Honest packets (brought_to b m ws) = WasPosted packets m ws

module _ (acts : Network → BoardEvent → Answered Network) where
  pub carries_none : (n : Network) → Carries acts n []
  carries_none n = record { posted = λ before after b m ws q. absurd (none before after b m ws q) }
    where
      none : (before after : List BoardEvent) (b m : ℕ) (ws : List ℕ) → [] ≡ before ++ (brought_to b m ws ∷ after) → ⊥
      none [] after b m ws q = let k : ◌≡◌ {A = ℕ} 0 (suc (length after)) = ap length q in omega arith
      none (y ∷ before) after b m ws q = let k : ◌≡◌ {A = ℕ} 0 (suc (length (before ++ (brought_to b m ws ∷ after)))) = ap length q in omega arith

  pub carries_next : (n : Network) (e : BoardEvent) (es : List BoardEvent) → Honest n.packets e → Carries acts (acts n e).after es → Carries acts n (e ∷ es)
  unfolding state_after
  carries_next n e es h c = record { posted = go }
    where
      go : (before after : List BoardEvent) (b m : ℕ) (ws : List ℕ) → e ∷ es ≡ before ++ (brought_to b m ws ∷ after)
          → WasPosted (state_after acts n before).packets m ws
      go [] after b m ws q = subst (λ (x : BoardEvent). Honest n.packets x) (let k : e ≡ brought_to b m ws = cc in k) h
      go (y ∷ before) after b m ws q =
          let k : y ≡ e = cc in
          let l : es ≡ before ++ (brought_to b m ws ∷ after) = cc in
          rw k (c.posted before after b m ws l)

  pub carries_alone : (n : Network) (e : BoardEvent) → Honest n.packets e → Carries acts n (e ∷ [])
  carries_alone n e h = carries_next n e [] h (carries_none _)

  pub carries_first : (n : Network) (e : BoardEvent) (es : List BoardEvent) → Carries acts n (e ∷ es) → Honest n.packets e
  unfolding state_after
  carries_first n (turn_at b) es c = tt
  carries_first n (post_at b m) es c = tt
  carries_first n (brought_to b m ws) es c = c.posted [] es b m ws refl

  pub carries_rest : (n : Network) (e : BoardEvent) (es : List BoardEvent) → Carries acts n (e ∷ es) → Carries acts (acts n e).after es
  unfolding state_after
  carries_rest n e es c = record { posted = λ before after b m ws q. c.posted (e ∷ before) after b m ws (ap (λ (l : List BoardEvent). e ∷ l) q) }

  pub carries_prefix : (n : Network) (xs ys : List BoardEvent) → Carries acts n (xs ++ ys) → Carries acts n xs
  carries_prefix n xs ys c =
      record {
        posted = λ before after b m ws q.
            c.posted before (after ++ ys) b m ws
            (ap (λ (l : List BoardEvent). l ++ ys) q ∙ append_assoc before (brought_to b m ws ∷ after) ys);
      }

-- ---- one event on the machine's boards
module _ (p : Plan) (so : Sound p) (away : Away p) (source : List ℕ) where
  abbrev B : Network → BoardEvent → Answered Network
  B = machine_boards p source

  module _ (s : State) (n : Network) (fo : Follows p source s n) where
    pub board_fit : (b : ℕ) → b < p.processors → fit p (n.areas b) ≡ true
    board_fit b h = agrees_fit p source s b (n.areas b) fo.to.inv (fo.to.each b h)

    -- a message in flight at a board is that board's own
    pub its_own : (b m : ℕ) → b < p.processors → m < count p → status_of (n.areas b) m ≡ 1 → sender_at p m ≡ b
    its_own b m h lo y = go (ℕ_discrete (sender_at p m) b)
      where
        go : Dec (sender_at p m ≡ b) → sender_at p m ≡ b
        go (yes e) = e
        go (no k) = absurd (((fo.to.each b h).letters m lo (λ z. z)).only_own k y)

    -- nothing is written where it is refused
    pub keeps : (e : BoardEvent) → (B n e).number ≢ 0 → (B n e).after ≡ n
    unfolding act_boards
    keeps (turn_at b) = stays_as p.processors n b _ _ (λ h. turn_refused p (n.areas b) source b) (λ h k. refl)
    keeps (post_at b m) =
        stays_as p.processors n b _ _ (λ h. post_refused p (n.areas b) m)
        (λ h k. ap (λ (l : List Packet). n.packets ++ l) (pick_false _ _ _ (ne_eqb _ 0 k)) ∙ append-nil n.packets)
    keeps (brought_to b m ws) = stays_as p.processors n b _ _ (λ h. take_refused p (n.areas b) b m ws) (λ h k. refl)

    -- ---- in terms of Packets
    pub turn_as : (b : ℕ) → B n (turn_at b) ≡ turn_network p source n b
    unfolding act_boards turn_network turn_apart pick
    turn_as b = go (ltb b p.processors)
      where
        go : (v : Bool)
            → pick v (called_at n b (turn p source (n.areas b) b) n.packets) (record { number = 11; after = n })
            ≡ record {
              number = (pick {A = Answered AreasApart} v
                  (record { number = (turn p source (n.areas b) b).number; after = replaced n.areas b (turn p source (n.areas b) b).after })
                  (record { number = 11; after = n.areas })).number;
              after = network_of
                  (pick {A = Answered AreasApart} v
                  (record { number = (turn p source (n.areas b) b).number; after = replaced n.areas b (turn p source (n.areas b) b).after })
                  (record { number = 11; after = n.areas })).after n.packets;
            }
        go true = refl
        go false = refl

    module _ (b m : ℕ) where
      abbrev packet : Packet
      packet = record { message = m; words = place_of p (n.areas b).buffer m }

      pub post_here : b < p.processors → B n (post_at b m) ≡ called_at n b (deliver p (n.areas b) m)
          (n.packets ++ pick (eqb (deliver p (n.areas b) m).number 0) (packet ∷ []) [])
      unfolding act_boards
      post_here h = pick_true _ _ _ (lt-ltb b p.processors h)

      pub post_low : (B n (post_at b m)).number ≡ 0 → b < p.processors
      unfolding act_boards
      post_low z = board_low p.processors n b (deliver p (n.areas b) m) _ z

      module _ (z : (B n (post_at b m)).number ≡ 0) where
        posts : (deliver p (n.areas b) m).number ≡ 0
        posts = sym (number_of (post_here (post_low z))) ∙ z

        pub post_from : sender_at p m ≡ b
        post_from = let k = post_asked p (n.areas b) m posts in its_own b m (post_low z) k.0 k.1

        pub post_is : (post p n m).number ≡ 0
        post_is =
            let k = post_asked p (n.areas b) m posts in
            post_gives p n m k.0 (ap (λ (c : ℕ). status_at n.areas c m) post_from ∙ k.1)

        post_leaves : (B n (post_at b m)).after ≡ network_of (replaced n.areas b (marked (n.areas b) m)) (n.packets ++ (packet ∷ []))
        unfolding pick
        post_leaves =
            after_of (post_here (post_low z))
            ∙ rw (both_parts (deliver p (n.areas b) m) (marked (n.areas b) m) posts (deliver_goes p (n.areas b) m posts)) refl

        same_post : network_of (sent_off p n.areas m) (n.packets ++ posted p n.areas m)
            ≡ network_of (replaced n.areas b (marked (n.areas b) m)) (n.packets ++ (packet ∷ []))
        unfolding sent_off posted
        same_post =
            rw (
              pick_false {A = List Packet} _ [] (record { message = m; words = place_of p (n.areas (sender_at p m)).buffer m } ∷ [])
                  (ne_eqb (sender_at p m) (taker_at p m) (away m (post_asked p (n.areas b) m posts).0)),
              post_from,
            ) refl

        pub post_as : (B n (post_at b m)).after ≡ (post p n m).after
        post_as = post_leaves ∙ sym same_post ∙ sym (after_of (post_zero p n m post_is))

    module _ (b m : ℕ) (ws : List ℕ) where
      take_here : b < p.processors → B n (brought_to b m ws) ≡ called_at n b (take_in p (n.areas b) b m ws) n.packets
      unfolding act_boards
      take_here h = pick_true _ _ _ (lt-ltb b p.processors h)

      pub take_number : b < p.processors → (B n (brought_to b m ws)).number ≡ (take_in p (n.areas b) b m ws).number
      take_number h = number_of (take_here h)

      take_low : (B n (brought_to b m ws)).number ≡ 0 → b < p.processors
      unfolding act_boards
      take_low z = board_low p.processors n b (take_in p (n.areas b) b m ws) n.packets z

      pub take_nowhere : p.processors ≤ b → (B n (brought_to b m ws)).number ≡ 11
      unfolding act_boards
      take_nowhere h = number_of (pick_false _ (called_at n b (take_in p (n.areas b) b m ws) n.packets) _ (le-ltb b p.processors h))

      module _ (w : WasPosted n.packets m ws) (z : (B n (brought_to b m ws)).number ≡ 0) where
        takes : (take_in p (n.areas b) b m ws).number ≡ 0
        takes = sym (take_number (take_low z)) ∙ z

        at_taker : (taker_at p m ≡ b) × (status_of (n.areas b) m ≡ 0)
        at_taker = take_asked p (n.areas b) b m ws takes

        waits_there : status_at n.areas (taker_at p (packet_at n.packets w.at).message) (packet_at n.packets w.at).message ≡ 0
        waits_there =
            ap (λ (k : ℕ). status_at n.areas (taker_at p k) k) w.number ∙ ap (λ (c : ℕ). status_at n.areas c m) at_taker.0 ∙ at_taker.1

        pub arrives : (arrive p n w.at).number ≡ 0
        arrives = arrive_gives p n w.at w.low waits_there

        -- both put these words into the same place of the same areas
        one_place : arrived p n.areas (packet_at n.packets w.at).message (packet_at n.packets w.at).words
            ≡ replaced n.areas b (received p (n.areas b) m ws)
        unfolding arrived
        one_place = rw (w.number, w.words, at_taker.0)

        pub take_as : (B n (brought_to b m ws)).after ≡ (arrive p n w.at).after
        take_as =
            after_of (take_here (take_low z))
            ∙ ap (λ (x : State). network_of (replaced n.areas b x) n.packets) (take_goes p (n.areas b) b m ws takes)
            ∙ ap (λ (x : AreasApart). network_of x n.packets) (sym one_place)
            ∙ sym (after_of (arrive_zero p n w.at arrives))

        pub was_in_flight : (m < count p) × (status_of s m ≡ 1)
        was_in_flight = (rw w.number at (fo.right w.at w.low).low, rw w.number at (came p so source s n fo w.at w.low waits_there))

  -- ---- a list of events: those that gave 0 are, but for the posts, a run of the machine; and what they leave agrees
  pub record Ran (s : State) (n : Network) (es : List BoardEvent) : Type 0 where
    pub state : State
    pub passed : List Event
    pub run : Passed (act p source) s (events_at es) (numbers_at es (answers_to B n es)) passed state
    pub follows : Follows p source state (state_after B n es)
    pub counted : steps B n es + length n.packets ≡ steps (act p source) s passed + length (state_after B n es).packets

  -- one event in front, given what comes behind it
  module _ (s : State) (n : Network) (fo : Follows p source s n) (es : List BoardEvent) where
    abbrev Behind : BoardEvent → Type 0
    Behind e = (s' : State) → Follows p source s' (B n e).after → Ran s' (B n e).after es

    -- refused: the same networks as before
    stays_follows : (e : BoardEvent) → (B n e).number ≢ 0 → Follows p source s (B n e).after
    stays_follows e k = rw (keeps s n fo e k) fo

    stays_length : (e : BoardEvent) → (B n e).number ≢ 0 → length (B n e).after.packets ≡ length n.packets
    stays_length e k = ap (λ (x : Network). length x.packets) (keeps s n fo e k)

    turn_gives : (b : ℕ) → (act p source s (turn_of b)).number ≡ (B n (turn_at b)).number
    unfolding act turn_network
    turn_gives b = sym (turn_number p so source s n.areas fo.to b) ∙ sym (number_of (turn_as s n fo b))

    turn_follows : (b : ℕ) → Follows p source (act p source s (turn_of b)).after (B n (turn_at b)).after
    unfolding machine_events state_after act_network
    turn_follows b = rw (turn_as s n fo b) (event_steps p so source s n fo (turn_by b)).follows

    turn_packets : (b : ℕ) → (B n (turn_at b)).after.packets ≡ n.packets
    unfolding turn_network
    turn_packets b = ap (λ (x : Answered Network). x.after.packets) (turn_as s n fo b)

    ran_turn : (b : ℕ) → Behind (turn_at b) → Ran s n (turn_at b ∷ es)
    unfolding state_after answers_to count_if events_at numbers_at
    ran_turn b behind = go (ℕ_discrete (B n (turn_at b)).number 0)
      where
        go : Dec ((B n (turn_at b)).number ≡ 0) → Ran s n (turn_at b ∷ es)
        go (yes z) =
            let r = behind _ (turn_follows b) in
            record {
              state = r.state;
              passed = turn_of b ∷ r.passed;
              run = Passed.step z (turn_gives b ∙ z) r.run;
              follows = r.follows;
              counted = omega (
                arith,
                r.counted,
                ap length (turn_packets b),
                one_true (eq-eqb _ 0 z),
                one_true (eq-eqb (act p source s (turn_of b)).number 0 (turn_gives b ∙ z)),
              );
            }
        go (no k) =
            let r = behind s (stays_follows (turn_at b) k) in
            record {
              state = r.state;
              passed = r.passed;
              run = Passed.refused k r.run;
              follows = r.follows;
              counted = omega (arith, r.counted, stays_length (turn_at b) k, one_false (ne_eqb _ 0 k));
            }

    -- ---- a message handed over
    module _ (b m : ℕ) (z : (B n (post_at b m)).number ≡ 0) where
      no_event : machine_events p n (post_of m) (post p n m).number ≡ []
      unfolding machine_events
      no_event =
          pick_true _ _ _ (eq-eqb _ 0 (post_is s n fo b m z))
          ∙ pick_false _ _ _ (ne_eqb _ _ (away m (post_asked p (n.areas b) m (posts s n fo b m z)).0))

      post_follows : Follows p source s (B n (post_at b m)).after
      unfolding state_after act_network
      post_follows = rw (post_as s n fo b m z) (rw no_event at (event_steps p so source s n fo (post_of m)).follows)

      post_counted : 1 + length n.packets ≡ length (B n (post_at b m)).after.packets
      unfolding answers_to count_if act_network
      post_counted =
          let q = rw no_event at (event_steps p so source s n fo (post_of m)).counted in
          omega (arith, q, one_true (eq-eqb _ 0 (post_is s n fo b m z)), ap (λ (x : Network). length x.packets) (post_as s n fo b m z))

    ran_post : (b m : ℕ) → Behind (post_at b m) → Ran s n (post_at b m ∷ es)
    unfolding state_after answers_to count_if events_at numbers_at
    ran_post b m behind = go (ℕ_discrete (B n (post_at b m)).number 0)
      where
        go : Dec ((B n (post_at b m)).number ≡ 0) → Ran s n (post_at b m ∷ es)
        go (yes z) =
            let r = behind s (post_follows b m z) in
            record {
              state = r.state;
              passed = r.passed;
              run = r.run;
              follows = r.follows;
              counted = omega (arith, r.counted, post_counted b m z, one_true (eq-eqb _ 0 z));
            }
        go (no k) =
            let r = behind s (stays_follows (post_at b m) k) in
            record {
              state = r.state;
              passed = r.passed;
              run = r.run;
              follows = r.follows;
              counted = omega (arith, r.counted, stays_length (post_at b m) k, one_false (ne_eqb _ 0 k));
            }

    -- ---- a message taken in
    module _ (b m : ℕ) (ws : List ℕ) (w : WasPosted n.packets m ws) (z : (B n (brought_to b m ws)).number ≡ 0) where
      one_event : machine_events p n (arrival_of w.at) (arrive p n w.at).number ≡ delivery_of m ∷ []
      unfolding machine_events
      one_event =
          pick_true _ _ _ (eq-eqb _ 0 (arrives s n fo b m ws w z)) ∙ ap (λ (k : ℕ). delivery_of k ∷ []) w.number

      take_gives : (act p source s (delivery_of m)).number ≡ 0
      take_gives = let k = was_in_flight s n fo b m ws w z in flying p so source s fo.to.inv m k.0 k.1

      take_follows : Follows p source (act p source s (delivery_of m)).after (B n (brought_to b m ws)).after
      unfolding state_after act_network
      take_follows = rw (take_as s n fo b m ws w z) (rw one_event at (event_steps p so source s n fo (arrival_of w.at)).follows)

      take_packets : (B n (brought_to b m ws)).after.packets ≡ n.packets
      take_packets =
          ap (λ (x : Network). x.packets) (take_as s n fo b m ws w z)
          ∙ ap (λ (x : Answered Network). x.after.packets) (arrive_zero p n w.at (arrives s n fo b m ws w z))

    ran_brought : (b m : ℕ) (ws : List ℕ) → WasPosted n.packets m ws → Behind (brought_to b m ws) → Ran s n (brought_to b m ws ∷ es)
    unfolding state_after answers_to count_if events_at numbers_at
    ran_brought b m ws w behind = go (ℕ_discrete (B n (brought_to b m ws)).number 0)
      where
        go : Dec ((B n (brought_to b m ws)).number ≡ 0) → Ran s n (brought_to b m ws ∷ es)
        go (yes z) =
            let r = behind _ (take_follows b m ws w z) in
            record {
              state = r.state;
              passed = delivery_of m ∷ r.passed;
              run = Passed.step z (take_gives b m ws w z) r.run;
              follows = r.follows;
              counted = omega (
                arith,
                r.counted,
                ap length (take_packets b m ws w z),
                one_true (eq-eqb _ 0 z),
                one_true (eq-eqb (act p source s (delivery_of m)).number 0 (take_gives b m ws w z)),
              );
            }
        go (no k) =
            let r = behind s (stays_follows (brought_to b m ws) k) in
            record {
              state = r.state;
              passed = r.passed;
              run = Passed.refused k r.run;
              follows = r.follows;
              counted = omega (arith, r.counted, stays_length (brought_to b m ws) k, one_false (ne_eqb _ 0 k));
            }

  pub ran : (es : List BoardEvent) (s : State) (n : Network) → Follows p source s n → Carries B n es → Ran s n es
  unfolding state_after answers_to count_if events_at numbers_at
  ran [] s n fo c = record { state = s; passed = []; run = Passed.none; follows = fo; counted = refl }
  ran (turn_at b ∷ es) s n fo c = ran_turn s n fo es b (λ s' f. ran es s' _ f (carries_rest B n (turn_at b) es c))
  ran (post_at b m ∷ es) s n fo c = ran_post s n fo es b m (λ s' f. ran es s' _ f (carries_rest B n (post_at b m) es c))
  ran (brought_to b m ws ∷ es) s n fo c =
      ran_brought s n fo es b m ws (carries_first B n (brought_to b m ws) es c) (λ s' f. ran es s' _ f (carries_rest B n (brought_to b m ws) es c))
