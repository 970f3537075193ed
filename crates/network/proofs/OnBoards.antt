-- Calls that answer, on what they see of the boards' areas, as the machine does on the areas: their runs over a transport have demand 3.
use Prim.Native.Nat.{ℕ, ◌+◌, ◌≤◌, ◌<◌}
use mathlib.Core.Path.{◌≡◌, refl, sym, ap, ◌∙◌, subst}
use mathlib.Core.Logic.{◌≢◌}
use mathlib.Core.Bool.{true, false}
use mathlib.Core.List.{List, [], ◌∷◌, ◌++◌, append-nil}
use native.Mathlib.Omega.{arith}
use native.Mathlib.Decide.{dec_lt, ℕ_discrete}
use lib.ListN.{length, get_or, length-map}
use lib.Dec.{ltb, eqb}
use borrow.Author.Tests.{ne_eqb, lt-ltb, le-ltb, ltb-false}
use Rattle.base.specs.Tests.{pick, tabulate}
use Rattle.base.specs.Lists.{count_if}
use Rattle.base.proofs.Tests.{pick_true, pick_false, some_none, none_some, length_tabulate}
use Rattle.base.proofs.Select.{those_lt}
use Rattle.machine.specs.Plan.{Plan, Sound, count, held_by, tiles_of}
use Rattle.machine.specs.Machine.{State, gather, memory_of, place_of, finished_of, stage_of, sent_of, tiles_left, Answered, turn, deliver, carry_out}
use Rattle.machine.specs.Machine.{next_action, collect, fresh, sweep}
use Rattle.machine.specs.Runs.{Event, act, state_after, answers_to, steps, total, program, turns_of, deliveries_of, steps_in, Demand3}
use Rattle.machine.specs.StatusTells.{Standing, StatusTells}
use Rattle.machine.proofs.Turns as turns
use Rattle.machine.proofs.Turns.{can_deliver, can_collect}
use Rattle.machine.proofs.Progress.{prog, prog_is, prog_before, work, full}
use Rattle.machine.proofs.Invariant.{sender_low}
use Rattle.machine.proofs.Kept.{status_of, inv_fit}
use Rattle.machine.proofs.RunLaws.{number_of, after_of, ends, steps_same, turns_same, brings_same}
use Rattle.machine.proofs.Once.{once_passed, collects_like}
use Rattle.machine.proofs.Theorem.{theorem, named_next}
use Rattle.machine.proofs.StatusTells.{marks_passed}
use Rattle.network.specs.Apart.{AreasApart, start_apart, replaced, sender_at, taker_at, joined}
use Rattle.network.specs.Packets.{Packet, packet_at, Network, network_of, NetworkEvent, turn_by, post_of, arrival_of, act_network, start_network}
use Rattle.network.specs.Brought.{BoardEvent, turn_at, post_at, brought_to, BoardCalls, called_at, act_boards, take_in, machine_boards}
use Rattle.network.specs.Brought.{Carries}
use Rattle.network.specs.OnBoards.{events_at, numbers_at, whole, taken_in, handed_over, steps_got, OnBoards, OnWholeAreas}
use Rattle.network.proofs.Letters.{replaced_same, replaced_other}
use Rattle.network.proofs.Agrees.{left_same, number_same, goes_same}
use Rattle.network.proofs.Joined.{joined_shape, joined_same}
use Rattle.network.proofs.Alike.{SharedLike}
use Rattle.network.proofs.Posting.{Has}
use Rattle.network.proofs.Network.{Follows, PostedOnce, post_asks, arrive_asks, start_follows}
use Rattle.network.proofs.PacketTheorem.{step_here, step_there, few, mailed_all}
use Rattle.network.proofs.Brought.{Away, Honest, board_low, stays_as, post_asked, post_refused, turn_refused, take_refused, take_short, take_none, take_wrong}
use Rattle.network.proofs.Brought.{take_again, takes_it, not_flying, carries_none, carries_next, carries_alone, carries_first, carries_rest, carries_prefix}
use Rattle.network.proofs.Brought.{board_fit, its_own, turn_as, post_here, post_is, take_number, take_nowhere, arrives}
use Rattle.network.proofs.Brought.{Ran, ran}
use Rattle.network.proofs.Posts.{is_of, has_count, once_count, at_least, posts_counted, taken_posted}

-- ---- what calls see of a board's areas: all of them, or its own part

abbrev pub Seen : Plan → (ℕ → State → State) → AreasApart → AreasApart → Type 0
Seen p view a o = (b : ℕ) → b < p.processors → o b ≡ view b (a b)

abbrev pub seen_as : (ℕ → State → State) → ℕ → Answered State → Answered State
seen_as view b a = record { number = a.number; after = view b a.after }

-- they answer there as the machine does
pub record Answers (p : Plan) (source : List ℕ) (view : ℕ → State → State) (c : BoardCalls) (a : AreasApart) : Type 0 where
  pub turns : (b : ℕ) → b < p.processors → c.turns b (view b (a b)) ≡ seen_as view b (turn p source (a b) b)
  pub posts : (b m : ℕ) → b < p.processors → c.posts b (view b (a b)) m ≡ seen_as view b (deliver p (a b) m)
  pub reads : (b m : ℕ) → b < p.processors → m < count p → sender_at p m ≡ b → c.reads b (view b (a b)) m ≡ place_of p (a b).buffer m
  pub accepts : (b m : ℕ) (ws : List ℕ) → b < p.processors → c.accepts b (view b (a b)) m ws ≡ seen_as view b (take_in p (a b) b m ws)

pub record Mirrors (p : Plan) (view : ℕ → State → State) (x y : Answered Network) : Type 0 where
  pub number : x.number ≡ y.number
  pub packets : x.after.packets ≡ y.after.packets
  pub seen : Seen p view y.after.areas x.after.areas

replaced_seen : (p : Plan) (view : ℕ → State → State) (a o : AreasApart) (b : ℕ) (x y : State) → Seen p view a o → y ≡ view b x
    → Seen p view (replaced a b x) (replaced o b y)
replaced_seen p view a o b x y v e c l = go (ℕ_discrete c b)
  where
    go : Dec (c ≡ b) → replaced o b y c ≡ view c (replaced a b x c)
    go (yes q) = rw (replaced_same a b x c q, replaced_same o b y c q, q) e
    go (no n) = rw (replaced_other a b x c n, replaced_other o b y c n) (v c l)

-- one call on one board
mirror_at : (p : Plan) (view : ℕ → State → State) (n o : Network) (b : ℕ) (a a' : Answered State) (ps ps' : List Packet) → o.packets ≡ n.packets
    → Seen p view n.areas o.areas → (b < p.processors → a ≡ seen_as view b a') → (b < p.processors → ps ≡ ps')
    → Mirrors p view (pick (ltb b p.processors) (called_at o b a ps) (record { number = 11; after = o }))
    (pick (ltb b p.processors) (called_at n b a' ps') (record { number = 11; after = n }))
mirror_at p view n o b a a' ps ps' same v e q = go (dec_lt b p.processors)
  where
    go : Dec (b < p.processors)
        → Mirrors p view (pick (ltb b p.processors) (called_at o b a ps) (record { number = 11; after = o }))
        (pick (ltb b p.processors) (called_at n b a' ps') (record { number = 11; after = n }))
    go (yes h) =
        rw (
          pick_true _ (called_at o b a ps) (record { number = 11; after = o }) (lt-ltb b p.processors h),
          pick_true _ (called_at n b a' ps') (record { number = 11; after = n }) (lt-ltb b p.processors h),
        )
        (record {
          number = number_of (e h);
          packets = q h;
          seen = replaced_seen p view n.areas o.areas b a'.after a.after v (after_of (e h));
        })
    go (no k) =
        rw (
          pick_false _ (called_at o b a ps) (record { number = 11; after = o }) (le-ltb b p.processors (omega arith)),
          pick_false _ (called_at n b a' ps') (record { number = 11; after = n }) (le-ltb b p.processors (omega arith)),
        )
        (record { number = refl; packets = same; seen = v })

module _ (p : Plan) (so : Sound p) (away : Away p) (source : List ℕ) (view : ℕ → State → State) (c : BoardCalls)
    (alike : (s : State) (n : Network) → Follows p source s n → Answers p source view c n.areas) where
  abbrev A : Network → BoardEvent → Answered Network
  A = act_boards p.processors c

  abbrev B : Network → BoardEvent → Answered Network
  B = machine_boards p source

  -- ---- one event, beside the machine's
  module _ (s : State) (n o : Network) (fo : Follows p source s n) (same : o.packets ≡ n.packets) (v : Seen p view n.areas o.areas) where
    turns_as : (b : ℕ) → b < p.processors → c.turns b (o.areas b) ≡ seen_as view b (turn p source (n.areas b) b)
    turns_as b h = rw (v b h) ((alike s n fo).turns b h)

    posts_as : (b m : ℕ) → b < p.processors → c.posts b (o.areas b) m ≡ seen_as view b (deliver p (n.areas b) m)
    posts_as b m h = rw (v b h) ((alike s n fo).posts b m h)

    takes_as : (b m : ℕ) (ws : List ℕ) → b < p.processors → c.accepts b (o.areas b) m ws ≡ seen_as view b (take_in p (n.areas b) b m ws)
    takes_as b m ws h = rw (v b h) ((alike s n fo).accepts b m ws h)

    packets_as : (b m : ℕ) → b < p.processors
        → o.packets ++ pick (eqb (c.posts b (o.areas b) m).number 0) (record { message = m; words = c.reads b (o.areas b) m } ∷ []) []
        ≡ n.packets ++ pick (eqb (deliver p (n.areas b) m).number 0) (record { message = m; words = place_of p (n.areas b).buffer m } ∷ []) []
    packets_as b m h = rw (same, number_of (posts_as b m h)) (go (ℕ_discrete (deliver p (n.areas b) m).number 0))
      where
        go : Dec ((deliver p (n.areas b) m).number ≡ 0)
            → n.packets ++ pick (eqb (deliver p (n.areas b) m).number 0) (record { message = m; words = c.reads b (o.areas b) m } ∷ []) []
            ≡ n.packets ++ pick (eqb (deliver p (n.areas b) m).number 0) (record { message = m; words = place_of p (n.areas b).buffer m } ∷ []) []
        go (yes z) =
            let k = post_asked p (n.areas b) m z in
            let e : c.reads b (o.areas b) m ≡ place_of p (n.areas b).buffer m =
            rw (v b h) ((alike s n fo).reads b m h k.0 (its_own p so away source s n fo b m h k.0 k.1)) in
            rw e refl
        go (no k) =
            ap (λ (l : List Packet). n.packets ++ l)
            (pick_false _ _ _ (ne_eqb _ 0 k) ∙ sym (pick_false _ _ _ (ne_eqb _ 0 k)))

    mirrors : (e : BoardEvent) → Mirrors p view (A o e) (B n e)
    unfolding act_boards
    mirrors (turn_at b) = mirror_at p view n o b _ _ _ _ same v (turns_as b) (λ h. same)
    mirrors (post_at b m) = mirror_at p view n o b _ _ _ _ same v (posts_as b m) (packets_as b m)
    mirrors (brought_to b m ws) = mirror_at p view n o b _ _ _ _ same v (takes_as b m ws) (λ h. same)

    -- a refusal writes nothing
    left_as : (b : ℕ) (a : Answered State) (x : Answered State) → b < p.processors → a ≡ seen_as view b x → (x.number ≢ 0 → x.after ≡ n.areas b)
        → a.number ≢ 0 → a.after ≡ o.areas b
    left_as b a x h e f z = after_of e ∙ ap (view b) (f (λ q. z (number_of e ∙ q))) ∙ sym (v b h)

    refuses : (e : BoardEvent) → (A o e).number ≢ 0 → (A o e).after ≡ o
    unfolding act_boards
    refuses (turn_at b) =
        stays_as p.processors o b _ _ (λ h. left_as b _ _ h (turns_as b h) (turn_refused p (n.areas b) source b)) (λ h k. refl)
    refuses (post_at b m) =
        stays_as p.processors o b _ _ (λ h. left_as b _ _ h (posts_as b m h) (post_refused p (n.areas b) m))
        (λ h k. ap (λ (l : List Packet). o.packets ++ l) (pick_false _ _ _ (ne_eqb _ 0 k)) ∙ append-nil o.packets)
    refuses (brought_to b m ws) =
        stays_as p.processors o b _ _ (λ h. left_as b _ _ h (takes_as b m ws h) (take_refused p (n.areas b) b m ws)) (λ h k. refl)

  -- ---- a list of events
  pub record Mirrored (n o : Network) (es : List BoardEvent) : Type 0 where
    pub carried : Carries B n es
    pub numbers : answers_to A o es ≡ answers_to B n es
    pub packets : (state_after A o es).packets ≡ (state_after B n es).packets
    pub seen : Seen p view (state_after B n es).areas (state_after A o es).areas

  after_one : (s : State) (n : Network) → Follows p source s n → (e : BoardEvent) → Honest n.packets e → (t : State) × Follows p source t (B n e).after
  unfolding state_after
  after_one s n fo e h = let r = ran p so away source (e ∷ []) s n fo (carries_alone B n e h) in (r.state, r.follows)

  pub mirrored : (es : List BoardEvent) (s : State) (n o : Network) → Follows p source s n → o.packets ≡ n.packets → Seen p view n.areas o.areas
      → Carries A o es → Mirrored n o es
  unfolding state_after answers_to
  mirrored [] s n o fo same v k = record { carried = carries_none B n; numbers = refl; packets = same; seen = v }
  mirrored (e ∷ es) s n o fo same v k =
      let x = mirrors s n o fo same v e in
      let h = subst (λ (l : List Packet). Honest l e) same (carries_first A o e es k) in
      let f = after_one s n fo e h in
      let r = mirrored es f.0 (B n e).after (A o e).after f.1 x.packets x.seen (carries_rest A o e es k) in
      record {
        carried = carries_next B n e es h r.carried;
        numbers = let a = x.number in let b = r.numbers in cc;
        packets = r.packets;
        seen = r.seen;
      }

  -- ---- a run from a fresh start
  module _ (start : Network) (none : start.packets ≡ []) (begins : Seen p view (start_apart p) start.areas) where
    module _ (events : List BoardEvent) (k : Carries A start events) where
      pub M : Mirrored (start_network p) start events
      M = mirrored events (fresh p) (start_network p) start (start_follows p so source) none begins k

      pub R : Ran p so away source (fresh p) (start_network p) events
      R = ran p so away source events (fresh p) (start_network p) (start_follows p so source) M.carried

      abbrev N : Network
      N = state_after B (start_network p) events

      abbrev O : Network
      O = state_after A start events

      abbrev S : State
      S = R.state

      abbrev fo : Follows p source S N
      fo = R.follows

      abbrev passed : List Event
      passed = R.passed

      D : Demand3 (act p source) (fresh p) passed p source (collect p)
      D = theorem p so source passed

      abbrev machine_steps : ℕ
      machine_steps = steps (act p source) (fresh p) passed

      there : state_after (act p source) (fresh p) passed ≡ S
      there = ends (act p source) R.run

      -- ---- counting
      counted : steps A start events ≡ machine_steps + length N.packets
      counted =
          let e : length (start_network p).packets ≡ 0 = refl in
          omega (arith, R.counted, ap (count_if (λ x. eqb x 0)) M.numbers)

      few_packets : length N.packets ≤ count p
      few_packets = omega (arith, few p source S N fo, mailed_all p)

      turns_are : (b : ℕ) → turns_of b (events_at events) (numbers_at events (answers_to A start events))
          ≡ turns_of b passed (answers_to (act p source) (fresh p) passed)
      turns_are b = ap (λ (l : List ℕ). turns_of b (events_at events) (numbers_at events l)) M.numbers ∙ turns_same (act p source) b R.run

      takes_are : (m : ℕ) → taken_in A start events m ≡ deliveries_of m passed (answers_to (act p source) (fresh p) passed)
      takes_are m = ap (λ (l : List ℕ). deliveries_of m (events_at events) (numbers_at events l)) M.numbers ∙ brings_same (act p source) m R.run

      -- ---- all steps taken: those of the machine, and a packet of each message
      machine_all : steps A start events ≡ whole p → machine_steps ≡ total p
      machine_all e = omega (arith, e, counted, few_packets, D.once.bound)

      all_there : steps A start events ≡ whole p → steps_in (numbers_at events (answers_to A start events)) ≡ total p
      all_there e = ap (λ (l : List ℕ). steps_in (numbers_at events l)) M.numbers ∙ sym (steps_same (act p source) R.run) ∙ machine_all e

      all_posted : machine_steps ≡ total p → (m : ℕ) → m < count p → Has O.packets m
      all_posted e m lo = taken_posted p.processors c m events start k (omega (arith, takes_are m, D.once.all_delivered e m lo))

      packets_all : machine_steps ≡ total p → length N.packets ≡ count p
      packets_all e = omega (arith, at_least O.packets (count p) (all_posted e), ap length M.packets, few_packets)

      fewer : steps A start events < whole p → machine_steps < total p
      fewer h = go (ℕ_discrete machine_steps (total p))
        where
          go : Dec (machine_steps ≡ total p) → machine_steps < total p
          go (yes e) = absurd (omega (arith, h, counted, packets_all e))
          go (no q) = omega (arith, D.once.bound)

      -- ---- posts
      handed : (m : ℕ) → handed_over A start events m ≡ count_if (is_of m) O.packets
      unfolding count_if
      handed m =
          let e : count_if (is_of m) start.packets ≡ 0 = ap (count_if (is_of m)) none in
          omega (arith, posts_counted p.processors c m events start)

      once : PostedOnce O.packets
      once = subst PostedOnce (sym M.packets) fo.once

      -- ---- one event more
      further : (e : BoardEvent) → (A O e).number ≡ (B N e).number
      further e = (mirrors S N O fo M.packets M.seen e).number

      honest_here : (e : BoardEvent) → Honest N.packets e → Honest O.packets e
      honest_here e h = subst (λ (l : List Packet). Honest l e) (sym M.packets) h

      honest_there : (e : BoardEvent) → Honest O.packets e → Honest N.packets e
      honest_there e h = subst (λ (l : List Packet). Honest l e) M.packets h

      packet_long : (i : ℕ) → i < length N.packets → length (packet_at N.packets i).words ≡ length (held_by p (packet_at N.packets i).message)
      packet_long i h = ap length (fo.right i h).words ∙ length-map (held_by p (packet_at N.packets i).message) _

      -- an event of the network that gives 0, as a call on a board
      as_board : (x : NetworkEvent) → (act_network p source N x).number ≡ 0 → (e : BoardEvent) × ((B N e).number ≡ 0) × Honest N.packets e
      unfolding act_network
      as_board (turn_by b) z = (turn_at b, number_of (turn_as p so away source S N fo b) ∙ z, tt)
      as_board (post_of m) z =
          let q = post_asks p N m z in
          let h = so.processor_low _ (sender_low p so m q.0) in (
            post_at (sender_at p m) m,
            number_of (post_here p so away source S N fo (sender_at p m) m h)
                ∙ can_deliver p (N.areas (sender_at p m)) m (board_fit p so away source S N fo (sender_at p m) h) q.0 q.1,
            tt,
          )
      as_board (arrival_of i) z =
          let q = arrive_asks p N i z in
          let m = (packet_at N.packets i).message in
          let lo : m < count p = (fo.right i q.0).low in
          let h : taker_at p m < p.processors = so.processor_low _ (so.taker_low m lo) in (
            brought_to (taker_at p m) m (packet_at N.packets i).words,
            take_number p so away source S N fo (taker_at p m) m (packet_at N.packets i).words h
                ∙ takes_it p (N.areas (taker_at p m)) (taker_at p m) m (packet_at N.packets i).words (board_fit p so away source S N fo (taker_at p m) h)
                (packet_long i q.0) lo refl q.1,
            record { at = i; low = q.0; number = refl; words = refl },
          )

      -- and back
      as_network : (e : BoardEvent) → Honest N.packets e → (B N e).number ≡ 0 → (x : NetworkEvent) × ((act_network p source N x).number ≡ 0)
      unfolding act_network
      as_network (turn_at b) h z = (turn_by b, sym (number_of (turn_as p so away source S N fo b)) ∙ z)
      as_network (post_at b m) h z = (post_of m, post_is p so away source S N fo b m z)
      as_network (brought_to b m ws) h z = (arrival_of h.at, arrives p so away source S N fo b m ws h z)

      goes : steps A start events < whole p → (e : BoardEvent) × ((A O e).number ≡ 0) × Carries A O (e ∷ [])
      goes h =
          let r = D.goes_on (fewer h) in
          let x = step_here p so source S N fo r.0 (ap (λ (s : State). (act p source s r.0).number) (sym there) ∙ r.1) in
          let e = as_board x.0 x.1 in
          (e.0, further e.0 ∙ e.1, carries_alone A O e.0 (honest_here e.0 e.2))

      then_less : (e : BoardEvent) → Carries A O (e ∷ []) → (A O e).number ≡ 0 → steps A start events < whole p
      then_less e q z =
          let x = as_network e (honest_there e (carries_first A O e [] q)) (sym (further e) ∙ z) in
          let r = step_there p so source S N fo x.0 x.1 in
          omega (arith, counted, few_packets, D.then_fewer r.0 (ap (λ (s : State). (act p source s r.0).number) there ∙ r.1))

      -- ---- numbers of what is refused
      wrong : (b m : ℕ) (ws : List ℕ) → length ws ≡ length (held_by p m) → taker_at p m ≢ b → (A O (brought_to b m ws)).number ≡ 11
      wrong b m ws e t = further (brought_to b m ws) ∙ go (dec_lt b p.processors)
        where
          go : Dec (b < p.processors) → (B N (brought_to b m ws)).number ≡ 11
          go (yes h) =
              take_number p so away source S N fo b m ws h
              ∙ take_wrong p (N.areas b) b m ws (board_fit p so away source S N fo b h) e t
          go (no q) = take_nowhere p so away source S N fo b m ws (omega arith)

      no_such : (b m : ℕ) (ws : List ℕ) → count p ≤ m → (A O (brought_to b m ws)).number ≡ 11
      no_such b m ws l = further (brought_to b m ws) ∙ go (dec_lt b p.processors)
        where
          go : Dec (b < p.processors) → (B N (brought_to b m ws)).number ≡ 11
          go (yes h) =
              take_number p so away source S N fo b m ws h ∙ take_none p (N.areas b) b m ws (board_fit p so away source S N fo b h) l
          go (no q) = take_nowhere p so away source S N fo b m ws (omega arith)

      -- a mark of 2 or 3, by how often it was delivered
      came : {mark sent brought taken : ℕ} → Standing mark sent brought taken → 1 ≤ brought → 2 ≤ mark
      came Standing.unsent h = absurd (omega arith)
      came Standing.in_flight h = absurd (omega arith)
      came Standing.delivered h = omega arith
      came Standing.taken h = omega arith

      marks : StatusTells p S (events_at events) (numbers_at events (answers_to B (start_network p) events))
      marks = marks_passed p so source R.run

      came_again : (m : ℕ) (ws : List ℕ) → m < count p → length ws ≡ length (held_by p m) → 1 ≤ taken_in A start events m
          → (A O (brought_to (taker_at p m) m ws)).number ≡ 14
      came_again m ws lo e h =
          further (brought_to (taker_at p m) m ws) ∙ take_number p so away source S N fo (taker_at p m) m ws low
          ∙ take_again p (N.areas (taker_at p m)) (taker_at p m) m ws (board_fit p so away source S N fo (taker_at p m) low) e lo refl not_zero
        where
          low : taker_at p m < p.processors
          low = so.processor_low _ (so.taker_low m lo)

          two : 2 ≤ status_of S m
          two =
              came (marks.each m lo).counts
              (omega (arith, h, ap (λ (l : List ℕ). deliveries_of m (events_at events) (numbers_at events l)) M.numbers))

          not_zero : status_of (N.areas (taker_at p m)) m ≢ 0
          not_zero z = go (ℕ_discrete (status_of S m) 2)
            where
              go : Dec (status_of S m ≡ 2) → ⊥
              go (yes q) = omega (arith, z, ((fo.to.each (taker_at p m) low).letters m lo (λ i. i)).two_due refl q)
              go (no q) =
                  omega (arith, z, ((fo.to.each (taker_at p m) low).letters m lo (λ i. i)).three_due refl (omega (arith, two, q, fo.to.inv.statuses.high m lo)))

      not_own : (b m : ℕ) → b < p.processors → m < count p → sender_at p m ≢ b → (A O (post_at b m)).number ≡ 14
      not_own b m h lo q =
          further (post_at b m) ∙ number_of (post_here p so away source S N fo b m h)
          ∙ not_flying p (N.areas b) (board_fit p so away source S N fo b h) m lo (λ y. q (its_own p so away source S N fo b m h lo y))

      pub on_boards : OnBoards A start events p source
      on_boards =
          record {
            bound = omega (arith, counted, few_packets, D.once.bound);
            goes_on = goes;
            then_fewer = then_less;
            once = rw M.numbers (once_passed p (act p source) R.run D.once);
            handed_over_once = λ m h. omega (arith, handed m, once_count m O.packets once);
            then_total = λ e. all_there e;
            all_handed_over = λ e m h. let x = all_posted (machine_all e) m h in
                omega (arith, handed m, once_count m O.packets once, has_count m O.packets x.at x.low x.is);
            posted_low = rw M.packets (λ i h. (fo.right i h).low);
            posted_words = rw M.packets (λ i h. (fo.right i h).words);
            posted_once = once;
            refused = refuses S N O fo M.packets M.seen;
            wrong_board = λ b m ws lo e t. wrong b m ws e t;
            no_message = no_such;
            wrong_length = λ b m ws h lo e.
                further (brought_to b m ws) ∙ take_number p so away source S N fo b m ws h ∙ take_short p (N.areas b) b m ws lo e;
            again = came_again;
            not_its_own = not_own;
          }

      -- the machine's boards after the same events, and what is seen of them
      pub machine_there : (t : State) × Follows p source t N
      machine_there = (S, fo)

      pub seen_there : Seen p view N.areas O.areas
      seen_there = M.seen

      -- no board has tiles left exactly when all steps are taken
      left_there : (b : ℕ) → b < p.processors → tiles_left p (N.areas b) b ≡ tiles_left p S b
      left_there b h = left_same p source S b (N.areas b) fo.to.inv (fo.to.each b h)

      abbrev blank : List ℕ
      blank = tabulate (λ i. 0) p.cells

      blank_long : length blank ≡ p.cells
      blank_long = length_tabulate (λ i. 0) p.cells

      pub at_the_end : ((b : ℕ) → b < p.processors → tiles_left p (N.areas b) b ≡ false) → steps A start events ≡ whole p
      at_the_end f =
          let z = can_collect p S blank (inv_fit p source S fo.to.inv) (some_none (tiles_left p S) p.processors (λ b h. sym (left_there b h) ∙ f b h)) in
          let e = D.collecting.then_all blank blank_long (ap (λ (s : State). (collect p s blank).number) there ∙ z) in
          omega (arith, counted, e, packets_all e)

      pub none_left : steps A start events ≡ whole p → (b : ℕ) → b < p.processors → tiles_left p (N.areas b) b ≡ false
      none_left e b h =
          let z = ap (λ (s : State). (collect p s blank).number) (sym there) ∙ D.collecting.can_collect (machine_all e) blank blank_long in
          left_there b h ∙ none_some (tiles_left p S) p.processors (turns.none_left p S blank z) b h

-- ---- a board with no tiles left has the sweep's words of its cells
module _ (p : Plan) (so : Sound p) (source : List ℕ) (s : State) (n : Network) (fo : Follows p source s n) where
  pub part_right : (b i : ℕ) → b < p.processors → tiles_left p (n.areas b) b ≡ false → i < p.cells → p.inside i ≡ true → p.processor_of (p.tile_of i) ≡ b
      → get_or (memory_of p (n.areas b) b) i 0 ≡ get_or (sweep p source) i 0
  unfolding tiles_left
  part_right b i h f l o e =
      ap (λ (m : List ℕ). get_or m i 0) (fo.to.each b h).memory
      ∙ rw e at (fo.to.inv.right.own (p.tile_of i) i low (omega (arith, all)) (so.cell_in i l o))
    where
      low : p.tile_of i < p.tiles
      low = so.tile_low i l o

      finished : length (tiles_of p b) ≤ finished_of s b
      finished = omega (arith, ltb-false (finished_of (n.areas b) b) (length (tiles_of p b)) f, (fo.to.each b h).recorded.finished)

      all : prog p s (p.tile_of i) ≡ full p (p.tile_of i)
      all =
          prog_is p s (p.tile_of i) b e
          ∙ prog_before _ _ (full p (p.tile_of i)) (work (stage_of s b) (sent_of s b))
          (let y = those_lt p.processor_of b p.tiles (p.tile_of i) low e in
          rw e (omega (arith, finished)))

-- ---- calls that see all areas
module _ (p : Plan) (so : Sound p) (away : Away p) (source : List ℕ) (c : BoardCalls)
    (alike : (s : State) (n : Network) → Follows p source s n → Answers p source (λ b s. s) c n.areas) (start : Network) (none : start.packets ≡ [])
    (begins : Seen p (λ b s. s) (start_apart p) start.areas) where
  abbrev acts : Network → BoardEvent → Answered Network
  acts = act_boards p.processors c

  module _ (events : List BoardEvent) (k : Carries acts start events) where
    abbrev state : State
    state = S p so away source (λ b s. s) c alike start none begins events k

    abbrev end : Network
    end = state_after acts start events

    -- they follow the machine themselves
    pub follows_there : Follows p source state end
    follows_there =
        let f = fo p so away source (λ b s. s) c alike start none begins events k in
        let m = M p so away source (λ b s. s) c alike start none begins events k in
        let g : Follows p source state (network_of end.areas (state_after (machine_boards p source) (start_network p) events).packets) =
        record {
          to = record { inv = f.to.inv; each = λ b h. rw (m.seen b h) (f.to.each b h) };
          right = f.right;
          once = f.once;
        } in
        subst (λ (l : List Packet). Follows p source state (network_of end.areas l)) (sym m.packets) g

    abbrev done : List Event
    done = passed p so away source (λ b s. s) c alike start none begins events k

    turn_there : (b : ℕ) → b < p.processors → acts end (turn_at b)
        ≡ record {
          number = (turn p source (end.areas b) b).number;
          after = network_of (replaced end.areas b (turn p source (end.areas b) b).after) end.packets;
        }
    unfolding act_boards
    turn_there b h =
        pick_true _ _ _ (lt-ltb b p.processors h)
        ∙ ap (λ (x : Answered State). called_at end b x end.packets) ((alike state end follows_there).turns b h)

    by_program : (b : ℕ) → (acts end (turn_at b)).number ≡ 0
        → (acts end (turn_at b)).after.areas
        ≡ replaced end.areas b
        (carry_out p source (end.areas b) b
        (get_or (program p b) (turns_of b (events_at events) (numbers_at events (answers_to acts start events))) (gather 0)))
    unfolding act_boards act
    by_program b z =
        ap (λ (x : Answered Network). x.after.areas) (turn_there b low)
        ∙ ap (replaced end.areas b)
        (goes_same p source state b (end.areas b) follows_there.to.inv (follows_there.to.each b low) zb
        ∙ ap (carry_out p source (end.areas b) b) (sym next))
      where
        low : b < p.processors
        low = board_low p.processors end b (c.turns b (end.areas b)) end.packets z

        zb : (turn p source (end.areas b) b).number ≡ 0
        zb = sym (number_of (turn_there b low)) ∙ z

        gone : state_after (act p source) (fresh p) done ≡ state
        gone = there p so away source (λ b s. s) c alike start none begins events k

        zs : (turn p source (state_after (act p source) (fresh p) done) b).number ≡ 0
        zs =
            ap (λ (s : State). (turn p source s b).number) gone
            ∙ sym (number_same p source state b (end.areas b) follows_there.to.inv (follows_there.to.each b low)) ∙ zb

        next : get_or (program p b) (turns_of b (events_at events) (numbers_at events (answers_to acts start events))) (gather 0) ≡ next_action p state b
        next =
            ap (λ (i : ℕ). get_or (program p b) i (gather 0)) (turns_are p so away source (λ b s. s) c alike start none begins events k b)
            ∙ (named_next p so source done b zs).1
            ∙ ap (λ (s : State). next_action p s b) gone

  module _ (events : List BoardEvent) (k : Carries acts start events)
      (shared : State → Event → Answered State) (collects : State → List ℕ → Answered (List ℕ)) (like : SharedLike p source shared collects) where
    abbrev last_areas : AreasApart
    last_areas = (state_after acts start events).areas

    abbrev final : State
    final = S p so away source (λ b s. s) c alike start none begins events k

    known : Follows p source final (state_after acts start events)
    known = follows_there events k

    joined_as : (grid : List ℕ) → collects (joined p last_areas) grid ≡ collects final grid
    joined_as =
        like.joining final (joined p last_areas) known.to.inv.shape (joined_shape p last_areas (λ b h. (known.to.each b h).shape))
        (joined_same p so source final last_areas known.to)

    demanded : Demand3 (act p source) (fresh p) (passed p so away source (λ b s. s) c alike start none begins events k) p source (collect p)
    demanded = D p so away source (λ b s. s) c alike start none begins events k

    collects_as : (grid : List ℕ) → length grid ≡ p.cells
        → collects (joined p last_areas) grid
        ≡ collect p (state_after (act p source) (fresh p) (passed p so away source (λ b s. s) c alike start none begins events k)) grid
    collects_as grid len =
        joined_as grid ∙ like.collecting final known.to.inv grid len
        ∙ ap (λ (s : State). collect p s grid) (sym (there p so away source (λ b s. s) c alike start none begins events k))

    pub on_whole_areas : OnWholeAreas acts start events p source collects
    on_whole_areas =
        record {
          by_rule = λ before after b q z. by_program before (carries_prefix acts start before (turn_at b ∷ after) (rw q at k)) b z;
          collecting =
              collects_like p source (steps_got acts start events ≡ whole p) _ (collects (joined p last_areas)) _
              (machine_all p so away source (λ b s. s) c alike start none begins events k)
              (λ t.
              omega (
                arith,
                t,
                counted p so away source (λ b s. s) c alike start none begins events k,
                packets_all p so away source (λ b s. s) c alike start none begins events k t,
              )) collects_as demanded.collecting;
          part_right = part_right p so source final (state_after acts start events) known;
        }
