-- The calls really used on boards that share nothing answer as the machine does on each board's areas, or on its part: so their runs have demand 3.
use Prim.Native.Nat.{ℕ, ◌<◌}
use mathlib.Core.Path.{◌≡◌, refl, sym, ap, ◌∙◌}
use mathlib.Core.Bool.{Bool, true, false}
use mathlib.Core.List.{List, [], ◌∷◌}
use lib.ListN.{length, get_or}
use lib.Dec.{eqb}
use borrow.Author.Tests.{eq-eqb}
use Rattle.base.specs.Tests.{not, pick}
use Rattle.base.specs.Numbers.{line, first_of}
use Rattle.base.proofs.Tests.{and_left, or_left}
use Rattle.base.proofs.Numbers.{first_behind}
use Rattle.machine.specs.Plan.{Plan, Sound}
use Rattle.machine.specs.Machine.{State, memory_of, fit, answered, sweep, tiles_left}
use Rattle.machine.proofs.Values.{table_is, sweep_outside}
use Rattle.nest.specs.Reader.{nest_of}
use Rattle.plan.proofs.ShapedSound.{sound}
use Rattle.layout.specs.RouteWords.{route_of}
use Rattle.recipe.specs.Routes.{lines_for}
use Rattle.recipe.proofs.Laws.{numbered_for}
use Rattle.engine.specs.Calls.{recipe, areas, collect_call}
use Rattle.engine.specs.Demands.{calls}
use Rattle.engine.proofs.AsSteps.{deliver_is}
use Rattle.network.specs.Apart.{AreasApart, start_apart, assembled, received}
use Rattle.network.specs.Packets.{Network, start_network}
use Rattle.network.specs.Locality.{ReadsOwnWord}
use Rattle.network.specs.Own.{handles}
use Rattle.network.specs.Brought.{BoardEvent, as_long, taken_by, take_in, machine_boards, Carries}
use Rattle.network.specs.OnBoards.{whole, boards_after, OnBoards, OnWholeAreas}
use Rattle.network.proofs.Network.{Follows}
use Rattle.network.proofs.Brought.{Away}
use Rattle.network.proofs.Fine.{follows_fine, fine_fit}
use Rattle.network.proofs.PartRuns.{lent_here, fit_here}
use Rattle.network.proofs.OnBoards.{Seen, Answers, on_boards, on_whole_areas, follows_there, machine_there, seen_there, at_the_end, none_left, part_right}
use Rattle.network.proofs.Collected.{in_any_order}
use Rattle.transport.specs.Calls.{take_in_call}
use Rattle.transport.specs.Holds.{comes_to, Comes}
use Rattle.part_calls.specs.front.Calls.{to_part}
use Rattle.network_runs.specs.Calls.{Sources, start_calls, start_network_calls}
use Rattle.network_runs.specs.Demands.{Begun}
use Rattle.network_runs.specs.part.Runs.{PartSources, part_start}
use Rattle.network_runs.specs.part.Demands.{BegunApart}
use Rattle.network_runs.specs.Boards.{whole_calls, whole_boards, part_calls, part_boards, parts_after, part_steps, OnParts, BoardDemands}
use Rattle.network_runs.proofs.AsNetwork.{own_word, shape_areas, turn_as, shared_like}
use Rattle.network_runs.proofs.Demands as whole_run
use Rattle.network_runs.proofs.part.Demands as part-run
use Rattle.network_runs.proofs.part.OnePart.{fresh_leaves, turn_on_part_lem, post_any, arrive_any, words_in}
use Rattle.network_runs.proofs.part.Collecting as collecting

-- taking in, where areas have their lengths
take_is : (bytes : List ℕ) (route : ℕ) (source : List ℕ) (s : State) → first_of (lines_for (route_of route) bytes) ≡ 0
    → areas (recipe bytes route) source s ≡ true → (b m : ℕ) (ws : List ℕ) → take_in_call bytes route source s b m ws ≡ take_in (recipe bytes route) s b m ws
unfolding take_in_call take_in
take_is bytes route source s ok a b m ws =
    ap (λ (n : ℕ). answered n (received (recipe bytes route) s m ws) s)
    (first_behind (lines_for (route_of route) bytes) _ (numbered_for (route_of route) bytes) ok
    ∙ ap (λ (t : Bool). first_of (line 9 (not t)
    ∷ line 10 (not (fit (recipe bytes route) s)) ∷ line 11 (not (taken_by (recipe bytes route) b m))
    ∷ line 14 (not (eqb (get_or s.status m 0) 0)) ∷ []))
    (and_left _ (as_long (recipe bytes route) m ws) a))

-- ---- whole areas
module _ (bytes : List ℕ) (route : ℕ) (source : List ℕ) (sources : Sources) (lent : AreasApart) (bg : Begun bytes route source sources lent) where
  abbrev p : Plan
  p = recipe bytes route

  pub so : Sound p
  so = whole_run.so bytes route source sources lent bg

  long : (b : ℕ) → b < p.processors → length (sources b) ≡ p.cells
  long = whole_run.long bytes route source sources lent bg

  pub whole_alike : (s : State) (n : Network) → Follows p source s n → Answers p source (λ b s. s) (whole_calls bytes route sources) n.areas
  whole_alike s n fo =
      let fine = (follows_fine p source s n fo).areas in
      record {
        turns = λ b h. turn_as bytes route bg.accepted so source sources long bg.own n.areas fine b h;
        posts = λ b m h.
            deliver_is bytes route (sources b) (n.areas b) bg.accepted
            (shape_areas bytes route bg.accepted so (sources b) (n.areas b) (long b h) (fine.shape b h)) m;
        reads = λ b m h lo e. refl;
        accepts = λ b m ws h.
            take_is bytes route (sources b) (n.areas b) bg.accepted
            (shape_areas bytes route bg.accepted so (sources b) (n.areas b) (long b h) (fine.shape b h)) b m ws;
      }

  pub begins : Seen p (λ b s. s) (start_apart p) (start_calls bytes route sources lent)
  unfolding start_apart
  begins = whole_run.start_is bytes route source sources lent bg

  module _ (events : List BoardEvent) (k : Carries (whole_boards bytes route sources) (start_network_calls bytes route sources lent) events) where
    on_all : OnBoards (whole_boards bytes route sources) (start_network_calls bytes route sources lent) events p source
    on_all =
        on_boards p so (whole_run.away bytes route bg.small bg.accepted) source (λ b s. s) (whole_calls bytes route sources) whole_alike
        (start_network_calls bytes route sources lent) refl begins events k

    on_areas : OnWholeAreas (whole_boards bytes route sources) (start_network_calls bytes route sources lent) events p source (collect_call bytes route source)
    on_areas =
        on_whole_areas p so (whole_run.away bytes route bg.small bg.accepted) source (whole_calls bytes route sources) whole_alike
        (start_network_calls bytes route sources lent) refl begins events k
        (calls bytes route source) (collect_call bytes route source) (shared_like bytes route bg.accepted so source bg.whole)

    -- what was posted comes as it was posted
    abbrev there' : Network
    there' = boards_after (whole_boards bytes route sources) (start_network_calls bytes route sources lent) events

    packet_comes : (i : ℕ) → i < length there'.packets → Comes p (sources (comes_to p there' i)) there' i
    packet_comes i l =
        let f =
        follows_there p so (whole_run.away bytes route bg.small bg.accepted) source (whole_calls bytes route sources) whole_alike
        (start_network_calls bytes route sources lent) refl begins events k in
        let fine = follows_fine p source _ there' f in
        let low : comes_to p there' i < p.processors = so.processor_low _ (so.taker_low _ (fine.low i l)) in
        record {
          there = l;
          message = fine.low i l;
          long = fine.long i l;
          lengths =
              shape_areas bytes route bg.accepted so (sources (comes_to p there' i)) (there'.areas (comes_to p there' i)) (long _ low)
              (fine.areas.shape _ low);
          fit = fine_fit p there'.areas fine.areas _ low;
        }

-- ---- own parts
module _ (bytes : List ℕ) (route : ℕ) (source : List ℕ) (sources : PartSources) (lent : AreasApart) (bg : BegunApart bytes route source sources lent) where
  abbrev plan : Plan
  plan = recipe bytes route

  pub sound_plan : Sound plan
  sound_plan = part-run.so bytes route source sources lent bg

  pub reads_own : ReadsOwnWord plan
  reads_own = own_word (route_of route) (nest_of bytes)

  pub part_alike : (s : State) (n : Network) → Follows plan source s n → Answers plan source (to_part plan) (part_calls bytes route sources) n.areas
  unfolding handles
  part_alike s n fo =
      let le = lent_here plan sound_plan reads_own source bg.whole s n fo in
      let f = fit_here plan sound_plan reads_own source bg.whole s n fo in
      record {
        turns = λ b h. rw (bg.own b h) (turn_on_part_lem bytes route bg.accepted b h source (n.areas b) (le b h) (f b h) sound_plan reads_own);
        posts = λ b m h.
            post_any bytes route bg.accepted b h source (n.areas b) (le b h) (f b h) m
            (λ lo q. ((fo.to.each b h).letters m lo (λ z. z)).only_own q);
        reads = λ b m h lo e. words_in plan b h source (n.areas b) (le b h) m lo (or_left _ (eq-eqb _ _ e));
        accepts = λ b m ws h. arrive_any bytes route bg.accepted b h source (n.areas b) (le b h) (f b h) m ws;
      }

  pub part_begins : Seen plan (to_part plan) (start_apart plan) (part_start bytes route lent).areas
  unfolding part_start start_apart
  part_begins b h = fresh_leaves bytes route bg.accepted b h (lent b) (bg.gave b h)

  pub no_packets : (part_start bytes route lent).packets ≡ []
  unfolding part_start
  no_packets = refl

  module _ (events : List BoardEvent) (k : Carries (part_boards bytes route sources) (part_start bytes route lent) events) where
    abbrev away : Away plan
    away = whole_run.away bytes route bg.small bg.accepted

    on_all_parts : OnBoards (part_boards bytes route sources) (part_start bytes route lent) events plan source
    on_all_parts =
        on_boards plan sound_plan away source (to_part plan) (part_calls bytes route sources) part_alike (part_start bytes route lent) no_packets part_begins
        events k

    abbrev there : AreasApart
    there = (boards_after (machine_boards plan source) (start_network plan) events).areas

    fo : (t : State) × Follows plan source t (boards_after (machine_boards plan source) (start_network plan) events)
    fo =
        machine_there plan sound_plan away source (to_part plan) (part_calls bytes route sources) part_alike (part_start bytes route lent) no_packets part_begins
        events k

    same : Seen plan (to_part plan) there (parts_after bytes route source sources lent events).areas
    same =
        seen_there plan sound_plan away source (to_part plan) (part_calls bytes route sources) part_alike (part_start bytes route lent) no_packets part_begins
        events k

    finished : part_steps bytes route source sources lent events ≡ whole plan → (b : ℕ) → b < plan.processors → tiles_left plan (there b) b ≡ false
    finished =
        none_left plan sound_plan away source (to_part plan) (part_calls bytes route sources) part_alike (part_start bytes route lent) no_packets part_begins
        events k

    -- whole areas put together are the sweep
    assembled_right : part_steps bytes route source sources lent events ≡ whole plan → assembled plan there ≡ sweep plan source
    unfolding assembled pick
    assembled_right e =
        table_is plan source (sound_plan.local source) sound_plan.earlier
        (λ c. pick (plan.inside c) (get_or (memory_of plan (there (plan.processor_of (plan.tile_of c))) (plan.processor_of (plan.tile_of c))) c 0)
        plan.boundary)
        (λ c h. go c h (plan.inside c) refl)
      where
        go : (c : ℕ) → c < plan.cells → (i : Bool) → plan.inside c ≡ i
            → pick i (get_or (memory_of plan (there (plan.processor_of (plan.tile_of c))) (plan.processor_of (plan.tile_of c))) c 0) plan.boundary
            ≡ get_or (sweep plan source) c 0
        go c h true i =
            let low = sound_plan.processor_low _ (sound_plan.tile_low c h i) in
            part_right plan sound_plan source fo.0 _ fo.1 (plan.processor_of (plan.tile_of c)) c low (finished e _ low) h i refl
        go c h false o = sym (sweep_outside plan source (sound_plan.local source) sound_plan.earlier c h o)

    on_own_parts : OnParts bytes route source sources lent events
    on_own_parts =
        record {
          same_parts = same;
          collects = λ b h old z.
              rw (same b h)
              (collecting.collected_right bytes route bg.accepted sound_plan reads_own source bg.whole fo.0 _ fo.1 b h old (rw (same b h) at z));
          then_all = λ f.
              at_the_end plan sound_plan away source (to_part plan) (part_calls bytes route sources) part_alike (part_start bytes route lent) no_packets
              part_begins events k
              (λ b h. collecting.none_left bytes route bg.accepted sound_plan reads_own source bg.whole fo.0 _ fo.1 b h (f b h).0
              (rw (same b h) at (f b h).1));
          each_collects = λ e b h old len.
              rw (same b h)
              (collecting.collect_gives bytes route bg.accepted sound_plan reads_own source bg.whole fo.0 _ fo.1 b h (finished e b h) old len);
          grid = λ e old len.
              part-run.all_there bytes route bg.accepted sound_plan source there (parts_after bytes route source sources lent events).areas same
              (lent_here plan sound_plan reads_own source bg.whole fo.0 _ fo.1)
              (fit_here plan sound_plan reads_own source bg.whole fo.0 _ fo.1) (finished e) old len plan.processors refl
              (part-run.some_processor bytes route bg.small bg.accepted)
              ∙ assembled_right e;
        }

pub board_demands : BoardDemands
board_demands =
    record {
      on_boards = on_all;
      on_whole_areas = on_areas;
      comes = packet_comes;
      on_boards_parts = on_all_parts;
      on_parts = on_own_parts;
      in_any_order = λ bytes route source small z.
          in_any_order (recipe bytes route) (sound (route_of route) (nest_of bytes) (part-run.nest_of_lem bytes route small z)) source;
    }
