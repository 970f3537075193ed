-- Processes that are one processor at the same time: each lives as a processor that has no twin, and packets are right whoever posted them.
use Prim.Native.Nat.{ℕ, ◌+◌, ◌*◌, ◌≤◌, ◌<◌}
use mathlib.Core.Path.{◌≡◌, refl, sym, ap, ◌∙◌, fun_ext}
use mathlib.Core.Logic.{◌⊎◌, inl, inr, ◌≢◌}
use mathlib.Core.List.{List, [], ◌∷◌, ◌++◌, map, append-nil}
use native.Mathlib.Nat.{add-mul}
use native.Mathlib.Omega.{arith}
use native.Mathlib.Decide.{ℕ_discrete}
use lib.ListN.{length, length-append}
use lib.Seq.{get_or-append_seam}
use lib.Dec.{eqb}
use borrow.Author.Tests.{eq-eqb, ne_eqb, eqb-true, ltb-true, lt-ltb, leb-true, le-leb}
use Rattle.base.specs.Tests.{◌and◌, one}
use Rattle.base.proofs.Numbers.{first_false, first_true}
use Rattle.base.proofs.Tests.{not-true, not-false, both, and_true, and_left, and_false, and_no, pick_true, pick_false, one_true, one_false}
use Rattle.machine.specs.Plan.{Plan, Sound, count, held_by}
use Rattle.machine.specs.Machine.{State, Answered, place_of, turn, fresh}
use Rattle.machine.specs.Runs.{state_after, answers_to, answers}
use Rattle.machine.proofs.Turns.{by_refusal}
use Rattle.machine.proofs.Progress.{prog}
use Rattle.machine.proofs.Kept.{swept, status_of}
use Rattle.machine.proofs.Events.{Refused}
use Rattle.machine.proofs.RunLaws.{number_of, after_of}
use Rattle.network.specs.Apart.{AreasApart, start_apart, replaced, sender_at, taker_at, marked, received}
use Rattle.network.specs.Packets.{Packet, Network, network_of, packet_at, status_at, start_network}
use Rattle.network.proofs.Letters.{replaced_same, replaced_other}
use Rattle.network.proofs.Carry.{status_two, status_rest}
use Rattle.network.proofs.Network.{Correct, zero_answer, some_answer, two_lines, lines_two}
use Rattle.restarts.specs.Restarts.{work_of}
use Rattle.restarts.specs.Processes.{Roles, ProcessEvent, start_of, turn_from, post_from, repost_from, arrival_at, posted_from, repost_by, act_process, deed_by}
use Rattle.restarts.specs.Processes.{deeds_by, start_by, starts_by, Chooses, areas_of, GoesFor, now, ByProcesses, MachineByProcesses}
use Rattle.restarts.proofs.Life.{Life, Lived, turn_lives, post_lives, arrival_lives, fresh_lives}
use Rattle.restarts.proofs.Measure.{taker_at_lem, left_here, left_any, left_deed, left_post, left_arrival}
use Rattle.restarts.proofs.Lives.{right_more, replaced_own}
use Rattle.restarts.proofs.Ways.{Way, way}
use Rattle.restarts.proofs.Theorem.{own_right, got_right, part_right, finished_collects, collects_finished, collects_right}

pub record Several (p : Plan) (source : List ℕ) (role : Roles) (n : Network) : Type 0 where
  pub each : (q : ℕ) → Life p source (role q) (n.areas q)
  pub right : (k : ℕ) → k < length n.packets → Correct p source (packet_at n.packets k)

-- ---- a processor by one process's areas, the others as at the start: what is left to do there
module _ (p : Plan) (b : ℕ) where
  abbrev alone : State → AreasApart
  alone s = replaced (start_apart p) b s

  abbrev left_by : State → ℕ
  left_by s = left_here p (alone s)

  here : (s : State) → alone s b ≡ s
  here s = replaced_same (start_apart p) b s b refl

  twice : (s s' : State) → replaced (alone s) b s' ≡ alone s'
  twice s s' = fun_ext (λ c. go c (ℕ_discrete c b))
    where
      go : (c : ℕ) → Dec (c ≡ b) → replaced (alone s) b s' c ≡ alone s' c
      go c (yes e) = replaced_same (alone s) b s' c e ∙ sym (replaced_same (start_apart p) b s' c e)
      go c (no k) = replaced_other (alone s) b s' c k ∙ replaced_other (start_apart p) b s c k ∙ sym (replaced_other (start_apart p) b s' c k)

  -- from any areas to any others it is at most the processor's whole work more
  left_by_lem : (s s' : State) → left_by s' ≤ left_by s + work_of p b
  left_by_lem s s' = rw (twice s s') at (left_any p (alone s) b s')

  -- the three deeds
  module _ (s s' : State) where
    after_deed : ◌≡◌ {A = ℕ} (1 + left_here p (replaced (alone s) b s')) (left_by s) → left_by s ≡ 1 + left_by s'
    after_deed e = sym (rw (twice s s') at e)

    by_turn : (source : List ℕ) → Lived p source b s s' → left_by s ≡ 1 + left_by s'
    by_turn source li =
        after_deed (let x = left_deed p (alone s) b s' _ li.home (rw (here s) li.step) li.within (rw (here s) li.same) in omega arith)

    module _ (m : ℕ) (lo : m < count p) (done : (u : ℕ) → prog p s' u ≡ prog p s u) (is : status_of s' m ≡ 2)
        (rest : (k : ℕ) → k ≢ m → status_of s' k ≡ status_of s k) where
      by_post : sender_at p m ≡ b → status_of s m ≡ 1 → left_by s ≡ 1 + left_by s'
      by_post own was =
          after_deed (let x = left_post p (alone s) b s' m lo (rw (here s) done) is (rw (here s) rest) own (rw (here s) was) in omega arith)

      by_arrival : taker_at p m ≡ b → sender_at p m ≢ taker_at p m → status_of s m ≡ 0 → left_by s ≡ 1 + left_by s'
      by_arrival own away was =
          after_deed (let x = left_arrival p (alone s) b s' m lo (rw (here s) done) is (rw (here s) rest) own away (rw (here s) was) in omega arith)

module _ (p : Plan) (so : Sound p) (source : List ℕ) (role : Roles) (n : Network) (se : Several p source role n) where
  -- ---- what is kept
  module _ (c : ℕ) where
    abbrev s : State
    s = n.areas c

    li : Life p source (role c) s
    li = se.each c

    placed : (s' : State) (packets : List Packet) → Life p source (role c) s' → ((k : ℕ) → k < length packets → Correct p source (packet_at packets k))
        → Several p source role (network_of (replaced n.areas c s') packets)
    placed s' packets new right = record { each = λ q. go q (ℕ_discrete q c); right = right }
      where
        go : (q : ℕ) → Dec (q ≡ c) → Life p source (role q) (replaced n.areas c s' q)
        go q (yes e) = rw (e, replaced_same n.areas c s' c refl) new
        go q (no k) = rw (replaced_other n.areas c s' q k) (se.each q)

    -- what is posted of a message that was sent or received here
    module _ (m : ℕ) (lo : m < count p) (sent : 1 ≤ status_of s m) where
      abbrev packet : Packet
      packet = record { message = m; words = place_of p s.buffer m }

      more_away : sender_at p m ≢ taker_at p m → n.packets ++ posted_from p s m ≡ n.packets ++ (packet ∷ [])
      unfolding posted_from
      more_away k = ap (λ (l : List Packet). n.packets ++ l) (pick_false _ _ _ (ne_eqb _ _ k))

      more_home : sender_at p m ≡ taker_at p m → n.packets ++ posted_from p s m ≡ n.packets
      unfolding posted_from
      more_home e = ap (λ (l : List Packet). n.packets ++ l) (pick_true _ _ _ (eq-eqb _ _ e)) ∙ append-nil n.packets

      more_right : (k : ℕ) → k < length (n.packets ++ posted_from p s m) → Correct p source (packet_at (n.packets ++ posted_from p s m) k)
      more_right = go (ℕ_discrete (sender_at p m) (taker_at p m))
        where
          go : Dec (sender_at p m ≡ taker_at p m)
              → (k : ℕ) → k < length (n.packets ++ posted_from p s m) → Correct p source (packet_at (n.packets ++ posted_from p s m) k)
          go (yes e) = rw (more_home e) se.right
          go (no k) =
              rw (more_away k)
              (right_more n.packets packet p source se.right (record { low = lo; away = k; words = li.held.right.buffered m lo sent }))

    -- only its own messages are in flight here
    own_flight : (m : ℕ) → m < count p → status_of s m ≡ 1 → sender_at p m ≡ role c
    own_flight m lo one-here = go (ℕ_discrete (sender_at p m) (role c))
      where
        go : Dec (sender_at p m ≡ role c) → sender_at p m ≡ role c
        go (yes e) = e
        go (no k) = absurd (li.no_flight m lo k one-here)

  -- ---- when an event gives 0
  module _ (c m : ℕ) where
    post_asked : (act_process p source role n (post_from c m)).number ≡ 0 → (m < count p) × (status_at n.areas c m ≡ 1)
    unfolding act_process
    post_asked z = let k = two_lines _ _ z in (ltb-true _ _ k.0, eqb-true _ _ k.1)

    post_allowed : m < count p → status_at n.areas c m ≡ 1 → (act_process p source role n (post_from c m)).number ≡ 0
    unfolding act_process
    post_allowed lo y = lines_two _ _ (lt-ltb m (count p) lo) (eq-eqb _ 1 y)

    repost_asked : (act_process p source role n (repost_from c m)).number ≡ 0 → (m < count p) × (2 ≤ status_at n.areas c m)
    unfolding act_process repost_by
    repost_asked z = let k = two_lines _ _ z in (ltb-true _ _ k.0, leb-true _ _ k.1)

    repost_allowed : m < count p → 2 ≤ status_at n.areas c m → (act_process p source role n (repost_from c m)).number ≡ 0
    unfolding act_process repost_by
    repost_allowed lo y = lines_two _ _ (lt-ltb m (count p) lo) (le-leb _ _ y)

  module _ (c k : ℕ) where
    abbrev here_m : ℕ
    here_m = (packet_at n.packets k).message

    pub arrival_asked : (act_process p source role n (arrival_at c k)).number ≡ 0
        → (k < length n.packets) × (taker_at p here_m ≡ role c) × (status_at n.areas c here_m ≡ 0)
    unfolding act_process
    arrival_asked z =
        let x = two_lines _ _ z in
        let y = both x.0 in
        (ltb-true _ _ y.0, eqb-true _ _ y.1, eqb-true _ _ x.1)

    arrival_allowed : k < length n.packets → taker_at p here_m ≡ role c → status_at n.areas c here_m ≡ 0
        → (act_process p source role n (arrival_at c k)).number ≡ 0
    unfolding act_process
    arrival_allowed lo t y = lines_two _ _ (and_true (lt-ltb k _ lo) (eq-eqb _ _ t)) (eq-eqb _ 0 y)

    arrival_away : k < length n.packets → taker_at p here_m ≡ role c → status_at n.areas c here_m ≢ 0
        → (act_process p source role n (arrival_at c k)).number ≡ 14
    unfolding act_process
    arrival_away lo t y =
        first_false 11 _ _ (not-true (and_true (lt-ltb k _ lo) (eq-eqb _ _ t))) ∙ first_true 14 _ _ (not-false (ne_eqb _ 0 y))

  -- ---- an event that is refused changes nothing
  stays : (e : ProcessEvent) → (act_process p source role n e).number ≢ 0 → (act_process p source role n e).after ≡ n
  unfolding act_process repost_by
  stays (start_of q) k = absurd (k refl)
  stays (turn_from q) k =
      ap (λ (a : AreasApart). network_of a n.packets)
      (ap (replaced n.areas q) (by_refusal p source (n.areas q) (role q) k) ∙ replaced_own n.areas q)
  stays (post_from q m) k = after_of (some_answer _ _ n k)
  stays (repost_from q m) k = after_of (some_answer _ _ n k)
  stays (arrival_at q i) k = after_of (some_answer _ _ n k)

  -- ---- what is left to each process
  module _ (q c : ℕ) where
    moved : (s' : State) (x : ℕ) → left_by p (role c) (n.areas c) ≡ one (eqb x 0) + left_by p (role c) s'
        → one (eqb c q and eqb x 0) + left_by p (role q) (replaced n.areas c s' q) ≡ left_by p (role q) (n.areas q)
    moved s' x e = go (ℕ_discrete q c)
      where
        go : Dec (q ≡ c) → one (eqb c q and eqb x 0) + left_by p (role q) (replaced n.areas c s' q) ≡ left_by p (role q) (n.areas q)
        go (yes r) = rw (r, replaced_same n.areas c s' c refl, and_left (eqb c c) (eqb x 0) (eq-eqb c c refl)) (sym e)
        go (no k) =
            rw (replaced_other n.areas c s' q k)
            (let y = one_false (and_false (eqb c q) (eqb x 0) (ne_eqb c q (λ z. k (sym z)))) in omega arith)

    idle : (x : ℕ) → x ≢ 0 → one (eqb c q and eqb x 0) + left_by p (role q) (n.areas q) ≡ left_by p (role q) (n.areas q)
    idle x k = let y = one_false (and_no (eqb c q) (eqb x 0) (ne_eqb x 0 k)) in omega arith

  module _ (c : ℕ) where
    abbrev answer : Answered State
    answer = turn p source (n.areas c) (role c)

    turn_life : ((answer.number ≡ 0) × Lived p source (role c) (n.areas c) answer.after) ⊎ Refused (n.areas c) answer
        → Life p source (role c) answer.after
    turn_life (inl y) = y.1.life
    turn_life (inr y) = rw y.1 (se.each c)

    turn_left : ((answer.number ≡ 0) × Lived p source (role c) (n.areas c) answer.after) ⊎ Refused (n.areas c) answer
        → left_by p (role c) (n.areas c) ≡ one (eqb answer.number 0) + left_by p (role c) answer.after
    turn_left (inl y) =
        let x = one_true (eq-eqb answer.number 0 y.0) in
        let z = by_turn p (role c) (n.areas c) answer.after source y.1 in
        omega arith
    turn_left (inr y) =
        let x = one_false (ne_eqb answer.number 0 y.0) in
        let z = ap (left_by p (role c)) y.1 in
        omega arith

    post_left : (m : ℕ) → m < count p → status_at n.areas c m ≡ 1
        → left_by p (role c) (n.areas c) ≡ one (eqb 0 0) + left_by p (role c) (marked (n.areas c) m)
    unfolding prog
    post_left m lo y =
        let x = one_true (eq-eqb 0 0 refl) in
        let z = by_post p (role c) (n.areas c) (marked (n.areas c) m) m lo (λ u. refl) (status_two p (role c) (n.areas c) m lo (se.each c).held.shape)
        (λ k e. status_rest p (role c) (n.areas c) m lo k e) (own_flight c m lo y) y in
        omega arith

    arrival_left : (m : ℕ) (ws : List ℕ) → m < count p → taker_at p m ≡ role c → sender_at p m ≢ taker_at p m → status_at n.areas c m ≡ 0
        → left_by p (role c) (n.areas c) ≡ one (eqb 0 0) + left_by p (role c) (received p (n.areas c) m ws)
    unfolding prog
    arrival_left m ws lo t away y =
        let x = one_true (eq-eqb 0 0 refl) in
        let z = by_arrival p (role c) (n.areas c) (received p (n.areas c) m ws) m lo (λ u. refl)
        (status_two p (role c) (n.areas c) m lo (se.each c).held.shape) (λ k e. status_rest p (role c) (n.areas c) m lo k e) t away y in
        omega arith

  -- ---- what each event does
  record WentFor (q : ℕ) (e : ProcessEvent) (a : Answered Network) : Type 0 where
    several : Several p source role a.after
    counted : deed_by q e a.number + left_by p (role q) (a.after.areas q) ≤ left_by p (role q) (n.areas q) + start_by q e * work_of p (role q)

  started : (q c : ℕ) → left_by p (role q) (replaced n.areas c (fresh p) q) ≤ left_by p (role q) (n.areas q) + one (eqb c q) * work_of p (role q)
  started q c = go (ℕ_discrete q c)
    where
      go : Dec (q ≡ c) → left_by p (role q) (replaced n.areas c (fresh p) q) ≤ left_by p (role q) (n.areas q) + one (eqb c q) * work_of p (role q)
      go (yes r) =
          rw (r, replaced_same n.areas c (fresh p) c refl, one_true (eq-eqb c c refl))
          (let x = left_by_lem p (role c) (n.areas c) (fresh p) in omega arith)
      go (no k) = rw (replaced_other n.areas c (fresh p) q k) (omega arith)

  went_start : (q c : ℕ) → WentFor q (start_of c) (act_process p source role n (start_of c))
  unfolding act_process deed_by start_by
  went_start q c =
      record {
        several = placed c (fresh p) n.packets (fresh_lives p source (role c)) se.right;
        counted = let x = started q c in omega arith;
      }

  went_turn : (q c : ℕ) → WentFor q (turn_from c) (act_process p source role n (turn_from c))
  unfolding act_process deed_by start_by
  went_turn q c =
      let l = turn_lives p so source (n.areas c) (role c) (se.each c) in
      record {
        several = placed c _ n.packets (turn_life c l) se.right;
        counted =
            let x = moved q c (turn p source (n.areas c) (role c)).after (turn p source (n.areas c) (role c)).number (turn_left c l) in
            omega arith;
      }

  module _ (q c m : ℕ) where
    post_zero : (act_process p source role n (post_from c m)).number ≡ 0 → act_process p source role n (post_from c m)
        ≡ record { number = 0; after = network_of (replaced n.areas c (marked (n.areas c) m)) (n.packets ++ posted_from p (n.areas c) m) }
    unfolding act_process
    post_zero z = zero_answer _ _ _ z

    post_some : (act_process p source role n (post_from c m)).number ≢ 0
        → act_process p source role n (post_from c m) ≡ record { number = (act_process p source role n (post_from c m)).number; after = n }
    unfolding act_process
    post_some k = some_answer _ _ _ k

    repost_zero : (act_process p source role n (repost_from c m)).number ≡ 0 → act_process p source role n (repost_from c m)
        ≡ record { number = 0; after = network_of n.areas (n.packets ++ posted_from p (n.areas c) m) }
    unfolding act_process repost_by
    repost_zero z = zero_answer _ _ _ z

    repost_some : (act_process p source role n (repost_from c m)).number ≢ 0
        → act_process p source role n (repost_from c m) ≡ record { number = (act_process p source role n (repost_from c m)).number; after = n }
    unfolding act_process repost_by
    repost_some k = some_answer _ _ _ k

    posts : m < count p → status_at n.areas c m ≡ 1
        → WentFor q (post_from c m)
        (record { number = 0; after = network_of (replaced n.areas c (marked (n.areas c) m)) (n.packets ++ posted_from p (n.areas c) m) })
    unfolding deed_by start_by
    posts lo y =
        record {
          several = placed c _ _ (post_lives p so source (n.areas c) (role c) (se.each c) m lo y) (more_right c m lo (omega arith));
          counted = let x = moved q c (marked (n.areas c) m) 0 (post_left c m lo y) in omega arith;
        }

    posts_not : (x : ℕ) → x ≢ 0 → WentFor q (post_from c m) (record { number = x; after = n })
    unfolding deed_by start_by
    posts_not x k = record { several = se; counted = let y = idle q c x k in omega arith }

    went_post : WentFor q (post_from c m) (act_process p source role n (post_from c m))
    went_post = go (ℕ_discrete (act_process p source role n (post_from c m)).number 0)
      where
        go : Dec ((act_process p source role n (post_from c m)).number ≡ 0) → WentFor q (post_from c m) (act_process p source role n (post_from c m))
        go (yes z) = rw (post_zero z) (posts (post_asked c m z).0 (post_asked c m z).1)
        go (no k) = rw (post_some k) (posts_not _ k)

    reposts : (x : ℕ) (packets : List Packet) → ((k : ℕ) → k < length packets → Correct p source (packet_at packets k))
        → WentFor q (repost_from c m) (record { number = x; after = network_of n.areas packets })
    unfolding deed_by start_by
    reposts x packets right = record { several = record { each = se.each; right = right }; counted = omega arith }

    went_repost : WentFor q (repost_from c m) (act_process p source role n (repost_from c m))
    went_repost = go (ℕ_discrete (act_process p source role n (repost_from c m)).number 0)
      where
        go : Dec ((act_process p source role n (repost_from c m)).number ≡ 0) → WentFor q (repost_from c m) (act_process p source role n (repost_from c m))
        go (yes z) = rw (repost_zero z) (reposts 0 _ (more_right c m (repost_asked c m z).0 (let x = (repost_asked c m z).1 in omega arith)))
        go (no k) = rw (repost_some k) (reposts _ n.packets se.right)

  module _ (q c k : ℕ) where
    abbrev m : ℕ
    m = (packet_at n.packets k).message

    abbrev ws : List ℕ
    ws = (packet_at n.packets k).words

    arrival_zero : (act_process p source role n (arrival_at c k)).number ≡ 0 → act_process p source role n (arrival_at c k)
        ≡ record { number = 0; after = network_of (replaced n.areas c (received p (n.areas c) m ws)) n.packets }
    unfolding act_process
    arrival_zero z = zero_answer _ _ _ z

    arrival_some : (act_process p source role n (arrival_at c k)).number ≢ 0
        → act_process p source role n (arrival_at c k) ≡ record { number = (act_process p source role n (arrival_at c k)).number; after = n }
    unfolding act_process
    arrival_some z = some_answer _ _ _ z

    arrives : k < length n.packets → taker_at p m ≡ role c → status_at n.areas c m ≡ 0
        → WentFor q (arrival_at c k) (record { number = 0; after = network_of (replaced n.areas c (received p (n.areas c) m ws)) n.packets })
    unfolding deed_by start_by
    arrives lo t y =
        let x = se.right k lo in
        record {
          several = placed c _ n.packets
              (arrival_lives p so source (n.areas c) (role c) (se.each c) m x.low ws x.words (λ e. x.away (e ∙ sym t)) y) se.right;
          counted = let z = moved q c (received p (n.areas c) m ws) 0 (arrival_left c m ws x.low t x.away y) in omega arith;
        }

    arrives_not : (x : ℕ) → x ≢ 0 → WentFor q (arrival_at c k) (record { number = x; after = n })
    unfolding deed_by start_by
    arrives_not x z = record { several = se; counted = let y = idle q c x z in omega arith }

    went_arrival : WentFor q (arrival_at c k) (act_process p source role n (arrival_at c k))
    went_arrival = go (ℕ_discrete (act_process p source role n (arrival_at c k)).number 0)
      where
        go : Dec ((act_process p source role n (arrival_at c k)).number ≡ 0) → WentFor q (arrival_at c k) (act_process p source role n (arrival_at c k))
        go (yes z) = let a = arrival_asked c k z in rw (arrival_zero z) (arrives a.0 a.1 a.2)
        go (no x) = rw (arrival_some x) (arrives_not _ x)

  went : (q : ℕ) (e : ProcessEvent) → WentFor q e (act_process p source role n e)
  went q (start_of c) = went_start q c
  went q (turn_from c) = went_turn q c
  went q (post_from c m) = went_post q c m
  went q (repost_from c m) = went_repost q c m
  went q (arrival_at c k) = went_arrival q c k

-- ---- any list of events, by calls that answer alike
module _ (p : Plan) (so : Sound p) (source : List ℕ) (role : Roles) (acts : Network → ProcessEvent → Answered Network)
    (same : (n : Network) → Several p source role n → (e : ProcessEvent) → acts n e ≡ act_process p source role n e) where
  next_several : (n : Network) → Several p source role n → (e : ProcessEvent) → Several p source role (acts n e).after
  next_several n se e = rw (same n se e) (went p so source role n se 0 e).several

  run_several : (es : List ProcessEvent) (n : Network) → Several p source role n → Several p source role (state_after acts n es)
  unfolding state_after
  run_several [] n se = se
  run_several (e ∷ es) n se = run_several es _ (next_several n se e)

  run_counted : (q : ℕ) (es : List ProcessEvent) (n : Network) → Several p source role n
      → deeds_by q es (answers_to acts n es) + left_by p (role q) ((state_after acts n es).areas q)
      ≤ left_by p (role q) (n.areas q) + starts_by q es * work_of p (role q)
  unfolding state_after answers_to deeds_by starts_by
  run_counted q [] n se = omega arith
  run_counted q (e ∷ es) n se =
      let ih = run_counted q es _ (next_several n se e) in
      let x : deed_by q e (acts n e).number + left_by p (role q) ((acts n e).after.areas q) ≤ left_by p (role q) (n.areas q) + start_by q e * work_of p (role q)
      = rw (same n se e) (went p so source role n se q e).counted in
      let y = add-mul (start_by q e) (starts_by q es) (work_of p (role q)) in
      omega arith

  module _ (n : Network) (se : Several p source role n) (who : ℕ → ℕ) (chooses : Chooses p role who) where
    number_is : (e : ProcessEvent) → (acts n e).number ≡ (act_process p source role n e).number
    number_is e = number_of (same n se e)

    each_chosen : (b : ℕ) → b < p.processors → Life p source b (areas_of n who b)
    each_chosen b low = rw (chooses b low) at (se.each (who b))

    -- the new packet of a message posted again is taken in
    module _ (m : ℕ) (lo : m < count p) (away : sender_at p m ≢ taker_at p m) (two : 2 ≤ status_at n.areas (who (sender_at p m)) m)
        (none : status_at n.areas (who (taker_at p m)) m ≡ 0) where
      abbrev c : ℕ
      c = who (sender_at p m)

      abbrev n' : Network
      n' = network_of n.areas (n.packets ++ posted_from p (n.areas c) m)

      gives : (act_process p source role n (repost_from c m)).number ≡ 0
      gives = repost_allowed p so source role n se c m lo two

      after_is : (acts n (repost_from c m)).after ≡ n'
      after_is = after_of (same n se (repost_from c m)) ∙ after_of (repost_zero p so source role n se 0 c m gives)

      several_then : Several p source role n'
      several_then = rw after_is at (next_several n se (repost_from c m))

      packets_are : n'.packets ≡ n.packets ++ (record { message = m; words = place_of p (n.areas c).buffer m } ∷ [])
      packets_are = more_away p so source role n se c m lo (omega arith) away

      message_is : (packet_at n'.packets (length n.packets)).message ≡ m
      message_is = rw packets_are (ap (λ (y : Packet). y.message) (get_or-append_seam n.packets _ [] _))

      longer : length n.packets < length n'.packets
      longer = rw (packets_are, length-append n.packets (record { message = m; words = place_of p (n.areas c).buffer m } ∷ [])) (omega arith)

      arrives_then : (act_process p source role n' (arrival_at (who (taker_at p m)) (length n.packets))).number ≡ 0
      arrives_then =
          arrival_allowed p so source role n' several_then (who (taker_at p m)) (length n.packets) longer
          (ap (taker_at p) message_is ∙ sym (chooses (taker_at p m) (taker_at_lem p so m lo)))
          (ap (status_at n.areas (who (taker_at p m))) message_is ∙ none)

      resent : GoesFor acts n p who
      resent =
          GoesFor.resends m lo (number_is (repost_from c m) ∙ gives)
          (rw after_is (number_of (same n' several_then (arrival_at (who (taker_at p m)) (length n.packets))) ∙ arrives_then))

    by_way : Way p source (areas_of n who) → GoesFor acts n p who
    unfolding act_process
    by_way (Way.turns b low left z) =
        GoesFor.turns b low
        (number_is (turn_from (who b)) ∙ ap (λ (x : ℕ). (turn p source (n.areas (who b)) x).number) (chooses b low) ∙ z)
    by_way (Way.posts m lo y) =
        GoesFor.posts m lo (number_is (post_from (who (sender_at p m)) m) ∙ post_allowed p so source role n se (who (sender_at p m)) m lo y)
    by_way (Way.waits m lo away two none) = resent m lo away two none

  module _ (start : Network) (begins : Several p source role start) (events : List ProcessEvent) where
    abbrev N : Network
    N = now acts start events

    se : Several p source role N
    se = run_several events start begins

    few : (q : ℕ) (then : List ProcessEvent) → deeds_by q then (answers acts N then) ≤ work_of p (role q) + starts_by q then * work_of p (role q)
    few q then =
        let x = run_counted q then N se in
        let y = left_by_lem p (role q) ((state_after acts N then).areas q) (N.areas q) in
        omega arith

    pub by_processes : ByProcesses acts start events p source role
    unfolding act_process
    by_processes =
        record {
          starts = λ q. same N se (start_of q);
          refused = λ e k. after_of (same N se e) ∙ stays p so source role N se e (λ z. k (number_of (same N se e) ∙ z));
          turned_away = λ q k h t y. number_of (same N se (arrival_at q k)) ∙ arrival_away p so source role N se q k h t y;
          goes = λ k h. ((se.right k h).low, (se.right k h).away);
          carries = λ k h. (se.right k h).words;
          same_words = λ i k h l e. (se.right i h).words ∙ ap (λ (m : ℕ). map (swept p source) (held_by p m)) e ∙ sym (se.right k l).words;
          calculated = λ q i c h k j. own_right p source (role q) (N.areas q) (se.each q) i h k c j;
          taken = λ q i m c h k lo to j. got_right p source (role q) (N.areas q) (se.each q) i h k m c lo to j;
          holds = λ q m lo k. (se.each q).held.right.buffered m lo k;
          part_right = λ q c f h i e. part_right p so source (role q) (N.areas q) (se.each q) c f h i e;
          can_collect = λ who ch f grid. finished_collects p (areas_of N who) grid f;
          then_finished = λ who ch grid z. collects_finished p (areas_of N who) grid z;
          grid = λ who ch old z. collects_right p so source (areas_of N who) (each_chosen N se who ch) old z;
          goes_on = λ who ch b low l. by_way N se who ch (way p so source (areas_of N who) (each_chosen N se who ch) b low l);
          bounded = few;
        }

pub theorem_processes : (p : Plan) → Sound p → (source : List ℕ) (role : Roles) (events : List ProcessEvent) → MachineByProcesses p source role events
unfolding start_apart
theorem_processes p so source role events =
    by_processes p so source role (act_process p source role) (λ n se e. refl) (start_network p)
    (record { each = λ q. fresh_lives p source (role q); right = λ k h. absurd (omega arith) }) events
