-- A run of exported calls on boards that share nothing is one over words, which has demand 3.
use Prim.Native.Nat.{ℕ, ◌<◌}
use mathlib.Core.Path.{◌≡◌, refl, sym, ap, ◌∙◌, subst, fun_ext}
use mathlib.Core.Logic.{◌≢◌}
use mathlib.Core.List.{List, [], ◌∷◌, ◌++◌, append-nil}
use native.Mathlib.Omega.{arith}
use native.Mathlib.Decide.{ℕ_discrete}
use lib.ListN.{length}
use lib.Dec.{ltb, eqb}
use borrow.Author.Tests.{lt-ltb, eq-eqb, ne_eqb}
use Rattle.base.specs.Tests.{pick}
use Rattle.base.specs.Lists.{count_if}
use Rattle.base.proofs.Tests.{pick_true, pick_false}
use Rattle.machine.specs.Plan.{Plan, Sound, held_by}
use Rattle.machine.specs.Machine.{State, state_of, memory_of, place_of, tiles_left, fit_record, Answered}
use Rattle.machine.specs.Runs.{turn_of, delivery_of, state_after, answers_to, steps_in}
use Rattle.machine.proofs.RunLaws.{number_of, after_of}
use Rattle.records.specs.Records.{flat_words}
use Rattle.records.proofs.Words.{length_words}
use Rattle.engine.specs.Calls.{answer, recipe, collect_call}
use Rattle.engine.specs.Demands.{calls}
use Rattle.network.specs.Apart.{AreasApart as Separate, start_apart, replaced}
use Rattle.network.specs.Packets.{Packet, Network, network_of, start_network}
use Rattle.network.specs.Own.{widened}
use Rattle.network.specs.Brought.{BoardEvent, turn_at, post_at, brought_to, called_at, act_boards, machine_boards, Carries}
use Rattle.network.specs.OnBoards.{whole, OnBoards, OnWholeAreas, Collected}
use Rattle.network.proofs.Letters.{replaced_same, replaced_other}
use Rattle.network.proofs.Network.{Follows}
use Rattle.network.proofs.Brought.{Away}
use Rattle.network.proofs.OnBoards as boards
use Rattle.network.proofs.OnBoards.{Seen}
use Rattle.transport.specs.Calls.{take_in_call}
use Rattle.part.specs.Part.{part_of, lent_of}
use Rattle.part_calls.specs.front.Calls.{from_part, to_part, part_turn_call, part_post_call, part_arrive_call, collect_fits, part_collected, part_collect_call}
use Rattle.network_runs.specs.Calls.{Sources, start_calls}
use Rattle.network_runs.specs.Demands.{Begun}
use Rattle.network_runs.specs.part.Demands.{BegunApart}
use Rattle.network_runs.specs.Boards.{whole_calls, whole_boards, part_calls, part_boards}
use Rattle.network_runs.proofs.AsNetwork.{shared_like}
use Rattle.network_runs.proofs.Demands as whole_run
use Rattle.network_runs.proofs.Boards.{whole_alike, part_alike, so, sound_plan, reads_own}
use Rattle.network_runs.proofs.part.OnePart.{fresh_leaves}
use Rattle.network_runs.proofs.part.Collecting as collecting
use Rattle.calls.specs.Gave.{Areas, in_words, EventGave, TakeInGave, PartTurnGave, PartPostGave, PartArriveGave, PartCollectGave}
use Rattle.guarantees.specs.OverRecords.{Gave}
use Rattle.guarantees.specs.OnBoards.{Boards, board_words, board_of, CallAt, new_packet, BoardGave, PartGave, BegunBoards, BegunParts, FixedBoards}
use Rattle.guarantees.specs.OnBoards.{CollectsParts, OverBoards}
use Rattle.guarantees.proofs.OverRecords.{run_numbers, run_words, areas_fixed, Whole, whole_pick, can_answer, over_records}

-- ---- a call on one board is the event on words
module _ (k b : ℕ) (Gives : Areas → ℕ → Areas → Type 0) (new : List Packet) (x : Boards) (n : ℕ) (y : Boards) (c : CallAt k b Gives new x n y)
    (a : Answered State) (is : Gives (x.areas b) n (y.areas b) → answer n (in_words (y.areas b)) ≡ a) where
  areas_are : (board_words y).areas ≡ replaced (board_words x).areas b a.after
  areas_are = fun_ext (λ i. go i (ℕ_discrete i b))
    where
      go : (i : ℕ) → Dec (i ≡ b) → in_words (y.areas i) ≡ replaced (board_words x).areas b a.after i
      go i (yes e) =
          ap (λ (j : ℕ). in_words (y.areas j)) e ∙ after_of (is c.gave) ∙ sym (replaced_same (board_words x).areas b a.after i e)
      go i (no q) = ap in_words (c.others i q) ∙ sym (replaced_other (board_words x).areas b a.after i q)

  call_is : (ps : List Packet) → x.packets ++ new ≡ ps
      → answer n (board_words y) ≡ pick (ltb b k) (called_at (board_words x) b a ps) (record { number = 11; after = board_words x })
  call_is ps e =
      both_same (number_of (is c.gave)) areas_are (c.packets ∙ e) ∙ sym (pick_true _ _ _ (lt-ltb b k c.low))
    where
      both_same : {i j : ℕ} {u v : Separate} {l m : List Packet} → i ≡ j → u ≡ v → l ≡ m
          → ◌≡◌ {A = Answered Network} (record { number = i; after = network_of u l }) (record { number = j; after = network_of v m })
      both_same f g h = rw (f, g, h)

-- a post's packet, by the number that it gave
packet_is : (l : List Packet) (n k : ℕ) (m : ℕ) (ws : List ℕ) → n ≡ k → l ++ new_packet n m ws ≡ l ++ new_packet k m ws
packet_is l n k m ws e = rw e refl

module _ (bytes : List ℕ) (route : ℕ) (sources : Sources) where
  whole_is : (x : Boards) (e : BoardEvent) (n : ℕ) (y : Boards) → BoardGave bytes route sources x e n y
      → answer n (board_words y) ≡ whole_boards bytes route sources (board_words x) e
  unfolding act_boards
  whole_is x (turn_at b) n y c = call_is _ b _ [] x n y c _ (λ g. g) x.packets (append-nil x.packets)
  whole_is x (post_at b m) n y c = call_is _ b _ _ x n y c _ (λ g. g) _ (packet_is x.packets n _ m _ (number_of c.gave))
  whole_is x (brought_to b m ws) n y c = call_is _ b _ [] x n y c _ (λ g. g) x.packets (append-nil x.packets)

  part_is : (x : Boards) (e : BoardEvent) (n : ℕ) (y : Boards) → PartGave bytes route sources x e n y
      → answer n (board_words y) ≡ part_boards bytes route sources (board_words x) e
  unfolding act_boards
  part_is x (turn_at b) n y c = call_is _ b _ [] x n y c _ (λ g. g) x.packets (append-nil x.packets)
  part_is x (post_at b m) n y c = call_is _ b _ _ x n y c _ (λ g. g) _ (packet_is x.packets n _ m _ (number_of c.gave))
  part_is x (brought_to b m ws) n y c = call_is _ b _ [] x n y c _ (λ g. g) x.packets (append-nil x.packets)

-- ---- runs
module _ (Step : Boards → BoardEvent → ℕ → Boards → Type 0) (acts : Network → BoardEvent → Answered Network)
    (is : (x : Boards) (e : BoardEvent) (n : ℕ) (y : Boards) → Step x e n y → answer n (board_words y) ≡ acts (board_words x) e)
    (bytes : List ℕ) (route : ℕ) (source : List ℕ) (start : Boards) (events : List BoardEvent) (numbers : List ℕ) (end : Boards)
    (g : Gave Step start events numbers end) (D : OnBoards acts (board_words start) events (recipe bytes route) source) where
  pub words_at : board_words end ≡ state_after acts (board_words start) events
  words_at = run_words Step board_words acts is g

  pub steps_are : steps_in numbers ≡ count_if (λ x. eqb x 0) (answers_to acts (board_words start) events)
  steps_are = ap (count_if (λ x. eqb x 0)) (run_numbers Step board_words acts is g)

  -- a further call's number, where it is known on words
  number_then : (e : BoardEvent) (n k : ℕ) (y : Boards) → Step end e n y → (acts (state_after acts (board_words start) events) e).number ≡ k → n ≡ k
  number_then e n k y h q =
      number_of (is end e n y h) ∙ ap (λ (w : Network). (acts w e).number) words_at ∙ q

  stays_there : (e : BoardEvent) (n : ℕ) (y : Boards) → Step end e n y → n ≢ 0 → board_words y ≡ board_words end
  stays_there e n y h q =
      after_of (is end e n y h)
      ∙ subst (λ (w : Network). (acts w e).number ≢ 0 → (acts w e).after ≡ w) (sym words_at) (D.refused e)
      (λ z. q (number_of (is end e n y h) ∙ z))

  pub fixed_boards : FixedBoards Step acts (recipe bytes route) source start events numbers end
  fixed_boards =
      record {
        numbers_are = run_numbers Step board_words acts is g;
        words_are = words_at;
        demand = D;
        goes_on = λ h.
            let r = subst (λ (w : Network). (e : BoardEvent) × ((acts w e).number ≡ 0) × Carries acts w (e ∷ [])) (sym words_at)
            (D.goes_on (omega (arith, h, steps_are))) in
            (r.0, r.2, λ n y s. number_of (is end r.0 n y s) ∙ r.1);
        then_fewer = λ e y c s.
            omega (
              arith,
              steps_are,
              D.then_fewer e (subst (λ (w : Network). Carries acts w (e ∷ [])) words_at c)
                  (sym (ap (λ (w : Network). (acts w e).number) words_at) ∙ sym (number_of (is end e 0 y s))),
            );
        refused = λ e n y s q b. areas_fixed (y.areas b) (end.areas b) (ap (λ (w : Network). w.areas b) (stays_there e n y s q));
        wrong_board = λ b m ws n y lo e t s. number_then (brought_to b m ws) n 11 y s (D.wrong_board b m ws lo e t);
      }

-- ---- whole areas
module _ (bytes : List ℕ) (route : ℕ) (source : List ℕ) (sources : Sources) (lent : ℕ → Areas) (start : Boards) where
  abbrev p : Plan
  p = recipe bytes route

  module _ (bg : BegunBoards bytes route source sources lent start) where
    begun : Begun bytes route source sources (λ b. in_words (lent b))
    begun =
        record {
          small = bg.small;
          accepted = bg.accepted;
          whole = bg.whole;
          own = bg.own;
          gave = λ b h. sym (number_of (bg.gave b h));
        }

    begins : Seen p (λ b s. s) (start_apart p) (board_words start).areas
    unfolding start_apart start_calls
    begins b h = after_of (bg.gave b h) ∙ whole_run.start_is bytes route source sources (λ b. in_words (lent b)) begun b h

    module _ (events : List BoardEvent) (k : Carries (whole_boards bytes route sources) (board_words start) events) where
      on_all : OnBoards (whole_boards bytes route sources) (board_words start) events p source
      on_all =
          boards.on_boards p (so bytes route source sources _ begun) (whole_run.away bytes route bg.small bg.accepted) source (λ b s. s)
          (whole_calls bytes route sources) (whole_alike bytes route source sources _ begun) (board_words start) bg.none begins events k

      on_areas : OnWholeAreas (whole_boards bytes route sources) (board_words start) events p source (collect_call bytes route source)
      on_areas =
          boards.on_whole_areas p (so bytes route source sources _ begun) (whole_run.away bytes route bg.small bg.accepted) source
          (whole_calls bytes route sources) (whole_alike bytes route source sources _ begun) (board_words start) bg.none begins events k
          (calls bytes route source) (collect_call bytes route source)
          (shared_like bytes route bg.accepted (so bytes route source sources _ begun) source bg.whole)

  -- ---- own parts
  module _ (bg : BegunParts bytes route source sources lent start) where
    begun_parts : BegunApart bytes route source sources (λ b. in_words (lent b))
    begun_parts =
        record {
          small = bg.small;
          accepted = bg.accepted;
          whole = bg.whole;
          own = bg.own;
          gave = λ b h. sym (number_of (bg.gave b h));
        }

    part_begins : Seen p (to_part p) (start_apart p) (board_words start).areas
    unfolding start_apart
    part_begins b h = after_of (bg.gave b h) ∙ fresh_leaves bytes route bg.accepted b h (in_words (lent b)) (sym (number_of (bg.gave b h)))

    abbrev sound : Sound p
    sound = sound_plan bytes route source sources (λ b. in_words (lent b)) begun_parts

    abbrev away : Away p
    away = whole_run.away bytes route bg.small bg.accepted

    module _ (events : List BoardEvent) (k : Carries (part_boards bytes route sources) (board_words start) events) where
      on_all_parts : OnBoards (part_boards bytes route sources) (board_words start) events p source
      on_all_parts =
          boards.on_boards p sound away source (to_part p) (part_calls bytes route sources) (part_alike bytes route source sources _ begun_parts)
          (board_words start) bg.none part_begins events k

      abbrev machine : Network
      machine = state_after (machine_boards p source) (start_network p) events

      fo : (t : State) × Follows p source t machine
      fo =
          boards.machine_there p sound away source (to_part p) (part_calls bytes route sources) (part_alike bytes route source sources _ begun_parts)
          (board_words start) bg.none part_begins events k

      seen : Seen p (to_part p) machine.areas (state_after (part_boards bytes route sources) (board_words start) events).areas
      seen =
          boards.seen_there p sound away source (to_part p) (part_calls bytes route sources) (part_alike bytes route source sources _ begun_parts)
          (board_words start) bg.none part_begins events k

      module _ (numbers : List ℕ) (end : Boards) (g : Gave (PartGave bytes route sources) start events numbers end) where
        words_end : board_words end ≡ state_after (part_boards bytes route sources) (board_words start) events
        words_end = words_at (PartGave bytes route sources) (part_boards bytes route sources) (part_is bytes route sources) bytes route source start events
            numbers end g on_all_parts

        steps_end : steps_in numbers ≡ count_if (λ x. eqb x 0) (answers_to (part_boards bytes route sources) (board_words start) events)
        steps_end = steps_are (PartGave bytes route sources) (part_boards bytes route sources) (part_is bytes route sources) bytes route source start events
            numbers end g on_all_parts

        part_at : (b : ℕ) → b < p.processors → in_words (end.areas b) ≡ to_part p b (machine.areas b)
        part_at b h = ap (λ (w : Network). w.areas b) words_end ∙ seen b h

        -- collecting looks at memory and record alone
        alone : (s : State) (b : ℕ) (old : List ℕ) → part_collect_call bytes route (state_of s.memories [] s.progress []) b old ≡ part_collect_call bytes
            route s b old
        unfolding part_collect_call collect_fits part_collected part_of widened tiles_left fit_record
        alone s b old = refl

        collect_as : (b : ℕ) → b < p.processors → (old grid : List ℕ) (n : ℕ) → PartCollectGave bytes route b (end.areas b).memories (end.areas b).progress old n grid
            → answer n grid ≡ part_collect_call bytes route (to_part p b (machine.areas b)) b old
        collect_as b h old grid n e = e ∙ alone (in_words (end.areas b)) b old ∙ ap (λ (s : State). part_collect_call bytes route s b old) (part_at b h)

        collects_parts : CollectsParts bytes route source numbers end
        collects_parts =
            record {
              collects = λ b h old grid e.
                  let q = collect_as b h old grid 0 e in
                  subst (Collected p source b old) (sym (after_of q))
                  (collecting.collected_right bytes route bg.accepted sound (reads_own bytes route source sources _ begun_parts) source bg.whole
                  fo.0 machine fo.1 b h old (sym (number_of q)));
              then_all = λ f.
                  steps_end
                  ∙ boards.at_the_end p sound away source (to_part p) (part_calls bytes route sources) (part_alike bytes route source sources _ begun_parts)
                  (board_words start) bg.none part_begins events k
                  (λ b h. collecting.none_left bytes route bg.accepted sound (reads_own bytes route source sources _ begun_parts) source bg.whole
                  fo.0 machine fo.1 b h (f b h).0 (sym (number_of (collect_as b h (f b h).0 (f b h).1.0 0 (f b h).1.1))));
              each_collects = λ e b h old grid n len c.
                  number_of (collect_as b h old grid n c)
                  ∙ collecting.collect_gives bytes route bg.accepted sound (reads_own bytes route source sources _ begun_parts) source bg.whole
                  fo.0 machine fo.1 b h
                  (boards.none_left p sound away source (to_part p) (part_calls bytes route sources) (part_alike bytes route source sources _ begun_parts)
                  (board_words start) bg.none part_begins events k (sym steps_end ∙ e) b h) old len;
            }

-- ---- every event at a board can be given
put_board : (k b : ℕ) (Gives : Areas → ℕ → Areas → Type 0) (new : List Packet) (x : Boards) (n : ℕ) (a : Areas) → b < k → Gives (x.areas b) n a
    → (y : Boards) × CallAt k b Gives new x n y
put_board k b Gives new x n a h g = (
  record { areas = λ c. pick (eqb c b) a (x.areas c); packets = x.packets ++ new },
  record {
    low = h;
    gave = subst (Gives (x.areas b) n) (sym (pick_true (eqb b b) a (x.areas b) (eq-eqb b b refl))) g;
    others = λ c q. pick_false (eqb c b) a (x.areas c) (ne_eqb c b q);
    packets = refl;
  },
)

whole_words : (a : Areas) → Whole (flat_words a.progress)
whole_words a = (length a.progress, length_words a.progress)

-- records stay whole
module _ (bytes : List ℕ) (route : ℕ) where
  take_whole : (source : List ℕ) (a : Areas) (b m : ℕ) (ws : List ℕ) → Whole (take_in_call bytes route source (in_words a) b m ws).after.progress
  unfolding take_in_call
  take_whole source a b m ws = whole_pick _ _ (in_words a) (whole_words a) (whole_words a)

  turn_whole : (source : List ℕ) (a : Areas) (b : ℕ) → Whole (part_turn_call bytes route source (in_words a) b).after.progress
  unfolding part_turn_call lent_of
  turn_whole source a b = whole_pick _ _ (in_words a) (1, refl) (whole_words a)

  post_whole : (a : Areas) (b m : ℕ) → Whole (part_post_call bytes route (in_words a) b m).after.progress
  unfolding part_post_call lent_of
  post_whole a b m = whole_pick _ _ (in_words a) (1, refl) (whole_words a)

  arrive_whole : (a : Areas) (b m : ℕ) (ws : List ℕ) → Whole (part_arrive_call bytes route (in_words a) b m ws).after.progress
  unfolding part_arrive_call lent_of
  arrive_whole a b m ws = whole_pick _ _ (in_words a) (1, refl) (whole_words a)

module _ (bytes : List ℕ) (route : ℕ) where
  take_answers : (source : List ℕ) (a : Areas) (b m : ℕ) (ws : List ℕ) → (n : ℕ) × ((c : Areas) × TakeInGave bytes route source a b m ws n c)
  take_answers source a b m ws = can_answer (take_in_call bytes route source (in_words a) b m ws) (take_whole bytes route source a b m ws)

  part_turns : (source : List ℕ) (a : Areas) (b : ℕ) → (n : ℕ) × ((c : Areas) × PartTurnGave bytes route source b a n c)
  part_turns source a b = can_answer (part_turn_call bytes route source (in_words a) b) (turn_whole bytes route source a b)

  part_posts : (a : Areas) (b m : ℕ) → (n : ℕ) × ((c : Areas) × PartPostGave bytes route b m a n c)
  part_posts a b m = can_answer (part_post_call bytes route (in_words a) b m) (post_whole bytes route a b m)

  part_takes : (a : Areas) (b m : ℕ) (ws : List ℕ) → (n : ℕ) × ((c : Areas) × PartArriveGave bytes route b m ws a n c)
  part_takes a b m ws = can_answer (part_arrive_call bytes route (in_words a) b m ws) (arrive_whole bytes route a b m ws)

  module _ (sources : Sources) (x : Boards) where
    abbrev boards_there : ℕ
    boards_there = (recipe bytes route).processors

    can_give : (e : BoardEvent) → board_of e < boards_there → (n : ℕ) × ((y : Boards) × BoardGave bytes route sources x e n y)
    can_give (turn_at b) h =
        let r = (over_records bytes route (sources b)).one.can_event (x.areas b) (turn_of b) in
        (r.0, put_board boards_there b (λ a k c. EventGave bytes route (sources b) a (turn_of b) k c) [] x r.0 r.1.0 h r.1.1)
    can_give (post_at b m) h =
        let r = (over_records bytes route (sources b)).one.can_event (x.areas b) (delivery_of m) in
        (r.0, put_board boards_there b (λ a k c. EventGave bytes route (sources b) a (delivery_of m) k c) _ x r.0 r.1.0 h r.1.1)
    can_give (brought_to b m ws) h =
        let r = take_answers (sources b) (x.areas b) b m ws in
        (r.0, put_board boards_there b (λ a. TakeInGave bytes route (sources b) a b m ws) [] x r.0 r.1.0 h r.1.1)

    can_give_parts : (e : BoardEvent) → board_of e < boards_there → (n : ℕ) × ((y : Boards) × PartGave bytes route sources x e n y)
    can_give_parts (turn_at b) h =
        let r = part_turns (sources b) (x.areas b) b in
        (r.0, put_board boards_there b (PartTurnGave bytes route (sources b) b) [] x r.0 r.1.0 h r.1.1)
    can_give_parts (post_at b m) h =
        let r = part_posts (x.areas b) b m in
        (r.0, put_board boards_there b (PartPostGave bytes route b m) _ x r.0 r.1.0 h r.1.1)
    can_give_parts (brought_to b m ws) h =
        let r = part_takes (x.areas b) b m ws in
        (r.0, put_board boards_there b (PartArriveGave bytes route b m ws) [] x r.0 r.1.0 h r.1.1)

pub over_boards : (bytes : List ℕ) (route : ℕ) (source : List ℕ) (sources : Sources) (lent : ℕ → Areas) (start : Boards)
    → OverBoards bytes route source sources lent start
over_boards bytes route source sources lent start =
    record {
      can_give = can_give bytes route sources;
      can_give_parts = can_give_parts bytes route sources;
      on_boards = λ bg events numbers end g k.
          fixed_boards (BoardGave bytes route sources) (whole_boards bytes route sources) (whole_is bytes route sources) bytes route source start events numbers
          end g (on_all bytes route source sources lent start bg events k);
      on_whole_areas = on_areas bytes route source sources lent start;
      on_parts = λ bg events numbers end g k.
          fixed_boards (PartGave bytes route sources) (part_boards bytes route sources) (part_is bytes route sources) bytes route source start events numbers
          end g (on_all_parts bytes route source sources lent start bg events k);
      parts_collected = λ bg events numbers end g k. collects_parts bytes route source sources lent start bg events k numbers end g;
    }
