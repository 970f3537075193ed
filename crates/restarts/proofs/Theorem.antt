-- Crashes, new starts and posts again: the claim for every sound plan, every source and every list of events, and for calls that answer alike.
use Prim.Native.Nat.{ℕ, zero, suc, ◌+◌, ◌≤◌, ◌<◌}
use mathlib.Core.Path.{◌≡◌, refl, sym, ap, ◌∙◌}
use mathlib.Core.Logic.{◌⊎◌, inl, inr, ◌≢◌}
use mathlib.Core.Bool.{Bool, true, false}
use mathlib.Core.List.{List, [], ◌∷◌, ◌++◌, map}
use native.Mathlib.Omega.{arith}
use lib.ListN.{length, get_or, length-append}
use lib.Seq.{get_or-append_seam}
use lib.Dec.{eqb}
use borrow.Author.Tests.{eq-eqb, ltb-false}
use Rattle.base.specs.Tests.{pick, one, some}
use Rattle.base.specs.Lists.{In}
use Rattle.base.proofs.Tests.{pick_true, one_true, some_at, some_none, none_some}
use Rattle.base.proofs.Select.{those_lt, at_low, at_is, at_rank}
use Rattle.base.proofs.Numbers.{first_nil, first_false, none_first}
use Rattle.machine.specs.Plan.{Plan, Sound, count, taker_of, held_by, tiles_of}
use Rattle.machine.specs.Machine.{State, Answered, finished_of, stage_of, sent_of, memory_of, place_of, tiles_left, turn, collect, sweep}
use Rattle.machine.specs.Runs.{total, state_after, answers_to, answers}
use Rattle.machine.proofs.Values.{sweep_outside, table_is}
use Rattle.machine.proofs.Progress.{prog, prog_is, prog_before, prog_now, work, work_two, full, Shape}
use Rattle.machine.proofs.Kept.{swept}
use Rattle.machine.proofs.RunLaws.{number_of, after_of}
use Rattle.network.specs.Apart.{AreasApart, sender_at, taker_at, assembled, joined, collect_apart}
use Rattle.network.specs.Packets.{Packet, Network, network_of, packet_at, status_at, NetworkEvent, turn_by, post_of, arrival_of, posted, turn_network}
use Rattle.network.specs.Packets.{act_network, start_network, mailed}
use Rattle.network.proofs.Together.{turn_here}
use Rattle.network.proofs.Network.{post_gives, arrive_gives, arrive_away}
use Rattle.restarts.specs.Restarts.{LifeEvent, plain, repost_of, restart_of, act_lives, deeds_of, redone_of, Gathered, Calculated, Finished, GoesWithout}
use Rattle.restarts.specs.Restarts.{lived, ByLives, MachineByLives, AsPackets}
use Rattle.restarts.proofs.Life.{Life}
use Rattle.restarts.proofs.Measure.{left_here, left_most}
use Rattle.restarts.proofs.Lives.{Alive, plain_went, repost_gives, repost_zero, restart_gives, restart_zero, after_away, start_alive, next_alive}
use Rattle.restarts.proofs.Lives.{lives_stay, run_alive, run_counted}
use Rattle.restarts.proofs.Ways.{Way, way}
use Rattle.network.proofs.Joined.{joined_shape, joined_collects}

work_one : (g n : ℕ) → 1 ≤ g → 1 ≤ work g n
work_one zero n h = absurd (omega arith)
work_one (suc zero) n h = omega arith
work_one (suc (suc g)) n h = omega arith

-- ---- one processor's record and memory
module _ (p : Plan) (source : List ℕ) (b : ℕ) (s : State) (li : Life p source b s) (i : ℕ) (h : i < length (tiles_of p b)) where
  abbrev t : ℕ
  t = get_or (tiles_of p b) i 0

  prog_t : (w : ℕ) → w ≤ 2 → (i < finished_of s b) ⊎ ((i ≡ finished_of s b) × (w ≤ work (stage_of s b) (sent_of s b))) → w ≤ prog p s t
  prog_t w l (inl q) =
      let e = prog_is p s t b (at_is p.processor_of b p.tiles i h) ∙ prog_before _ _ _ _ (rw (at_rank p.processor_of b p.tiles i h) q) in
      omega arith
  prog_t w l (inr q) =
      let e = prog_is p s t b (at_is p.processor_of b p.tiles i h)
      ∙ prog_now _ _ (full p t) (work (stage_of s b) (sent_of s b)) (at_rank p.processor_of b p.tiles i h ∙ q.0) in
      omega (arith, q.1)

  pub own_right : Calculated s b i → (c : ℕ) → In c (p.cells_of t) → get_or (memory_of p s b) c 0 ≡ swept p source c
  own_right k c j = rw (at_is p.processor_of b p.tiles i h) at (li.held.right.own t c (at_low p.processor_of b p.tiles i h) (two k) j)
    where
      two : Calculated s b i → 2 ≤ prog p s t
      two (inl q) = prog_t 2 (omega arith) (inl q)
      two (inr q) = prog_t 2 (omega arith) (inr (q.0, let e = work_two (stage_of s b) (sent_of s b) q.1 in omega arith))

  pub got_right : Gathered s b i → (m c : ℕ) → m < count p → taker_of p m ≡ t → In c (held_by p m) → get_or (memory_of p s b) c 0 ≡ swept p source c
  got_right k m c lo to j =
      rw (ap p.processor_of to ∙ at_is p.processor_of b p.tiles i h) at (li.held.right.got m c lo (rw to (one_deed k)) j)
    where
      one_deed : Gathered s b i → 1 ≤ prog p s t
      one_deed (inl q) = prog_t 1 (omega arith) (inl q)
      one_deed (inr q) = prog_t 1 (omega arith) (inr (q.0, work_one (stage_of s b) (sent_of s b) q.1))

-- ---- collecting
module _ (p : Plan) (a : AreasApart) (grid : List ℕ) where
  pub finished_collects : Finished p a → (collect_apart p a grid).number ≡ 0
  unfolding collect_apart
  finished_collects f = first_false 15 _ _ (some_none (λ b. tiles_left p (a b) b) p.processors f) ∙ first_nil

  pub collects_finished : (collect_apart p a grid).number ≡ 0 → Finished p a
  unfolding collect_apart
  collects_finished z = none_some (λ b. tiles_left p (a b) b) p.processors (none_first 15 _ _ (λ k. omega arith) z).0

  collects_all : (collect_apart p a grid).number ≡ 0 → (collect_apart p a grid).after ≡ assembled p a
  unfolding collect_apart
  collects_all z = pick_true _ _ _ (eq-eqb _ 0 z)

-- a processor with no tiles left has all its cells
module _ (p : Plan) (so : Sound p) (source : List ℕ) (b : ℕ) (s : State) (li : Life p source b s) where
  pub part_right : (c : ℕ) → tiles_left p s b ≡ false → c < p.cells → p.inside c ≡ true → p.processor_of (p.tile_of c) ≡ b
      → get_or (memory_of p s b) c 0 ≡ get_or (sweep p source) c 0
  unfolding tiles_left
  part_right c f h i e = rw e at (li.held.right.own (p.tile_of c) c lo (omega (arith, all)) (so.cell_in c h i))
    where
      lo : p.tile_of c < p.tiles
      lo = so.tile_low c h i

      all : prog p s (p.tile_of c) ≡ full p (p.tile_of c)
      all =
          prog_is p s (p.tile_of c) b e
          ∙ prog_before _ _ (full p (p.tile_of c)) (work (stage_of s b) (sent_of s b))
          (let x = ltb-false (finished_of s b) (length (tiles_of p b)) f in
          let y = those_lt p.processor_of b p.tiles (p.tile_of c) lo e in
          rw e (omega arith))

module _ (p : Plan) (so : Sound p) (source : List ℕ) (a : AreasApart) (each : (b : ℕ) → b < p.processors → Life p source b (a b)) where
  assembled_right : Finished p a → assembled p a ≡ sweep p source
  unfolding assembled pick
  assembled_right f =
      table_is p source (so.local source) so.earlier
      (λ c. pick (p.inside c) (get_or (memory_of p (a (p.processor_of (p.tile_of c))) (p.processor_of (p.tile_of c))) c 0) p.boundary)
      (λ c h. go c h (p.inside c) refl)
    where
      go : (c : ℕ) → c < p.cells → (i : Bool) → p.inside c ≡ i
          → pick i (get_or (memory_of p (a (p.processor_of (p.tile_of c))) (p.processor_of (p.tile_of c))) c 0) p.boundary ≡ get_or (sweep p source) c 0
      go c h true i =
          let low = so.processor_low _ (so.tile_low c h i) in part_right p so source _ _ (each _ low) c (f _ low) h i refl
      go c h false o = sym (sweep_outside p source (so.local source) so.earlier c h o)

  pub collects_right : (old : List ℕ) → (collect_apart p a old).number ≡ 0 → (collect_apart p a old).after ≡ sweep p source
  collects_right old z = collects_all p a old z ∙ assembled_right (collects_finished p a old z)

module _ (p : Plan) (so : Sound p) (source : List ℕ) (n : Network) (al : Alive p source n) where
  -- ---- what can be done, as events
  pub turn_number : (b : ℕ) → b < p.processors → (act_lives p source n (plain (turn_by b))).number ≡ (turn p source (n.areas b) b).number
  unfolding act_lives act_network turn_network
  turn_number b low = ap (λ (x : Answered AreasApart). x.number) (turn_here p source n.areas b low)

  pub post_number : (m : ℕ) → m < count p → status_at n.areas (sender_at p m) m ≡ 1 → (act_lives p source n (plain (post_of m))).number ≡ 0
  unfolding act_lives act_network
  post_number m lo y = post_gives p n m lo y

  pub goes_on : Way p source n.areas → (e : NetworkEvent) × ((act_lives p source n (plain e)).number ≡ 0)
  unfolding act_lives act_network
  goes_on (Way.turns b low left z) = (turn_by b, turn_number b low ∙ z)
  goes_on (Way.posts m lo y) = (post_of m, post_number m lo y)
  goes_on (Way.waits m lo away two none) =
      let h = al.has m lo away two in
      (arrival_of h.at, arrive_gives p n h.at h.low (ap (λ (k : ℕ). status_at n.areas (taker_at p k) k) h.is ∙ none))

  -- the new packet of a message posted again is taken in
  module _ (m : ℕ) (lo : m < count p) (away : sender_at p m ≢ taker_at p m) (two : 2 ≤ status_at n.areas (sender_at p m) m) where
    again_zero : (act_lives p source n (repost_of m)).number ≡ 0
    unfolding act_lives
    again_zero = repost_gives p so source n al m lo two

    pub again_after : (act_lives p source n (repost_of m)).after ≡ network_of n.areas (n.packets ++ posted p n.areas m)
    unfolding act_lives
    again_after = after_of (repost_zero p so source n al m (repost_gives p so source n al m lo two))

    abbrev more : List Packet
    more = n.packets ++ posted p n.areas m

    pub more_is : more ≡ n.packets ++ (record { message = m; words = place_of p (n.areas (sender_at p m)).buffer m } ∷ [])
    more_is = after_away p so source n al m lo (omega arith) away

    pub last_is : (packet_at more (length n.packets)).message ≡ m
    last_is = rw more_is (ap (λ (y : Packet). y.message) (get_or-append_seam n.packets _ [] _))

    pub more_length : length more ≡ length n.packets + 1
    more_length = rw more_is (length-append n.packets (record { message = m; words = place_of p (n.areas (sender_at p m)).buffer m } ∷ []))

    new_arrives : status_at n.areas (taker_at p m) m ≡ 0
        → (act_lives p source (network_of n.areas more) (plain (arrival_of (length n.packets)))).number ≡ 0
    unfolding act_lives act_network
    new_arrives none =
        arrive_gives p (network_of n.areas more) (length n.packets) (omega (arith, more_length))
        (ap (λ (k : ℕ). status_at n.areas (taker_at p k) k) last_is ∙ none)

-- ---- calls that answer as the network does
module _ (p : Plan) (so : Sound p) (source : List ℕ) (acts : Network → LifeEvent → Answered Network)
    (same : (n : Network) → Alive p source n → (e : LifeEvent) → acts n e ≡ act_lives p source n e) where
  module _ (n : Network) (al : Alive p source n) where
    pub number_is : (e : LifeEvent) → (acts n e).number ≡ (act_lives p source n e).number
    number_is e = number_of (same n al e)

    event : (b : ℕ) → b < p.processors → tiles_left p (n.areas b) b ≡ true → (e : NetworkEvent) × ((acts n (plain e)).number ≡ 0)
    event b low l = let r = goes_on p so source n al (way p so source n.areas al.each b low l) in (r.0, number_is (plain r.0) ∙ r.1)

    without : Way p source n.areas → GoesWithout acts n
    without (Way.turns b low left z) = GoesWithout.turns b (number_is (plain (turn_by b)) ∙ turn_number p so source n al b low ∙ z)
    without (Way.posts m lo y) = GoesWithout.posts m (number_is (plain (post_of m)) ∙ post_number p so source n al m lo y)
    without (Way.waits m lo away two none) =
        GoesWithout.resends m (number_is (repost_of m) ∙ again_zero p so source n al m lo away two)
        (rw e (number_of (same (network_of n.areas (n.packets ++ posted p n.areas m)) (rw e at next) (plain (arrival_of (length n.packets))))
        ∙ new_arrives p so source n al m lo away two none))
      where
        e : (acts n (repost_of m)).after ≡ network_of n.areas (n.packets ++ posted p n.areas m)
        e = after_of (same n al (repost_of m)) ∙ again_after p so source n al m lo away two

        next : Alive p source (acts n (repost_of m)).after
        next = next_alive p so source acts same n al (repost_of m)

    pub less : (e : NetworkEvent) → (acts n (plain e)).number ≡ 0 → suc (left_here p (acts n (plain e)).after.areas) ≡ left_here p n.areas
    unfolding act_lives
    less e z =
        let x : one (eqb (acts n (plain e)).number 0) + left_here p (acts n (plain e)).after.areas ≡ left_here p n.areas
        = rw (same n al (plain e)) (plain_went p so source n al e).counted in
        let y = one_true (eq-eqb (acts n (plain e)).number 0 z) in
        omega arith

  Ends : ℕ → Network → Type 0
  Ends k n = (es : List NetworkEvent) × ((length es ≤ k) × Finished p (state_after acts n (map plain es)).areas)

  finish : (k : ℕ) (n : Network) → Alive p source n → left_here p n.areas ≤ k → Ends k n
  unfolding Ends state_after
  finish zero n al h = go (some (λ b. tiles_left p (n.areas b) b) p.processors) refl
    where
      go : (t : Bool) → some (λ b. tiles_left p (n.areas b) b) p.processors ≡ t → Ends zero n
      go false e = ([], (omega arith, none_some (λ b. tiles_left p (n.areas b) b) p.processors e))
      go true e =
          let r = some_at (λ b. tiles_left p (n.areas b) b) p.processors e in
          let x = event n al r.0 r.1 r.2 in
          absurd (omega (arith, less n al x.0 x.1))
  finish (suc k) n al h = go (some (λ b. tiles_left p (n.areas b) b) p.processors) refl (finish k)
    where
      go : (t : Bool) → some (λ b. tiles_left p (n.areas b) b) p.processors ≡ t
          → ((n' : Network) → Alive p source n' → left_here p n'.areas ≤ k → Ends k n') → Ends (suc k) n
      go false e ih = ([], (omega arith, none_some (λ b. tiles_left p (n.areas b) b) p.processors e))
      go true e ih =
          let r = some_at (λ b. tiles_left p (n.areas b) b) p.processors e in
          let x = event n al r.0 r.1 r.2 in
          let y = ih (acts n (plain x.0)).after (next_alive p so source acts same n al (plain x.0)) (omega (arith, less n al x.0 x.1)) in
          (x.0 ∷ y.0, (omega (arith, y.1.0), y.1.1))

  module _ (start : Network) (begins : Alive p source start) (events : List LifeEvent) where
    abbrev N : Network
    N = lived acts start events

    al : Alive p source N
    al = run_alive p so source acts same events start begins

    few : (es : List LifeEvent) → deeds_of es (answers acts N es) ≤ total p + mailed p + redone_of p es (answers acts N es)
    few es =
        let x = run_counted p so source acts same es N al in
        let y = left_most p so N.areas in
        omega arith

    pub by_lives : (collects : State → List ℕ → Answered (List ℕ))
        → ((s : State) → Shape p s → (grid : List ℕ) → length grid ≡ p.cells → collects s grid ≡ collect p s grid)
        → ByLives acts start events p source collects
    unfolding Ends act_lives act_network
    by_lives collects like =
        record {
          restarts = λ b low. same N al (restart_of b) ∙ restart_zero p so source N al b (restart_gives p so source N al b low);
          reposts = λ m lo h. same N al (repost_of m) ∙ repost_zero p so source N al m (repost_gives p so source N al m lo h);
          refused = λ e k. after_of (same N al e) ∙ lives_stay p source N e (λ z. k (number_of (same N al e) ∙ z));
          turned_away = λ k h q. number_of (same N al (plain (arrival_of k))) ∙ arrive_away p N k h q;
          goes = λ k h. ((al.right k h).low, (al.right k h).away);
          carries = λ k h. (al.right k h).words;
          same_words = λ i k h l e. (al.right i h).words ∙ ap (λ (m : ℕ). map (swept p source) (held_by p m)) e ∙ sym (al.right k l).words;
          calculated = λ b i c low h k j. own_right p source b (N.areas b) (al.each b low) i h k c j;
          taken = λ b i m c low h k lo to j. got_right p source b (N.areas b) (al.each b low) i h k m c lo to j;
          holds = λ b m low lo k. (al.each b low).held.right.buffered m lo k;
          can_collect = λ f grid. finished_collects p N.areas grid f;
          then_finished = λ grid z. collects_finished p N.areas grid z;
          grid = collects_right p so source N.areas al.each;
          joins = λ grid len.
              like (joined p N.areas) (joined_shape p N.areas (λ b h. (al.each b h).held.shape)) grid len
              ∙ joined_collects p so N.areas (λ b h. (al.each b h).held.shape) grid;
          part_right = λ b c low f h i e. part_right p so source b (N.areas b) (al.each b low) c f h i e;
          goes_on = λ b low l. event N al b low l;
          goes_without = λ b low l. without N al (way p so source N.areas al.each b low l);
          bounded = few;
          can_finish = finish (total p + mailed p) N al (left_most p so N.areas);
        }

pub theorem_lives : (p : Plan) → Sound p → (source : List ℕ) (events : List LifeEvent) → MachineByLives p source events
theorem_lives p so source events =
    by_lives p so source (act_lives p source) (λ n al e. refl) (start_network p) (start_alive p so source) events (collect p) (λ s sh grid len. refl)

-- ---- without new starts and posts again
module _ (p : Plan) (source : List ℕ) where
  as_answers : (es : List NetworkEvent) (n : Network) → answers_to (act_lives p source) n (map plain es) ≡ answers_to (act_network p source) n es
  unfolding answers_to act_lives
  as_answers [] n = refl
  as_answers (e ∷ es) n = ap (λ (l : List ℕ). (act_network p source n e).number ∷ l) (as_answers es _)

  as_network : (es : List NetworkEvent) (n : Network) → state_after (act_lives p source) n (map plain es) ≡ state_after (act_network p source) n es
  unfolding state_after act_lives
  as_network [] n = refl
  as_network (e ∷ es) n = as_network es _

  pub as_packets : (events : List NetworkEvent) → AsPackets p source events
  as_packets events = record { same_answers = as_answers events (start_network p); same_network = as_network events (start_network p) }
