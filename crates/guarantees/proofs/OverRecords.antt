-- The demands hold of the calls as exported, board records as structs.
use Prim.Native.Nat.{ℕ, ◌+◌, ◌*◌, ◌<◌}
use mathlib.Core.Path.{◌≡◌, refl, sym, ap, subst, ◌∙◌}
use mathlib.Core.Logic.{◌≢◌}
use mathlib.Core.Bool.{Bool, true, false}
use mathlib.Core.List.{List, [], ◌∷◌, ◌++◌}
use native.Mathlib.Omega.{arith}
use lib.ListN.{length, set, length-set, length-replicate}
use lib.Dec.{eqb}
use borrow.Author.Tests.{eqb-true}
use Rattle.base.specs.Tests.{◌and◌, not, pick}
use Rattle.base.specs.Lists.{Bytes}
use Rattle.base.specs.Numbers.{Line, line, first_of}
use Rattle.base.proofs.Tests.{both, true_not}
use Rattle.base.proofs.Numbers.{none_first, none_behind}
use Rattle.machine.specs.Plan.{Plan, taker_of, held_by}
use Rattle.machine.specs.Machine as machine
use Rattle.machine.specs.Machine.{State, Answered, state_of, set_progress, after_sends, Action, gather, calculate, send, carry_out, next_action, collect_lines}
use Rattle.machine.specs.Runs.{Event, turn_of, delivery_of, state_after, answers_to, Demand3}
use Rattle.machine.specs.Words.{word_at, mail_at, cell_of, Does, Did, Posted}
use Rattle.machine.proofs.RunLaws.{number_of, after_of}
use Rattle.nest.specs.Reader.{nest_of, read_lines}
use Rattle.plan.specs.Hops.{hops}
use Rattle.conformance.specs.Examples.{figures_if}
use Rattle.summary.specs.declared.Figures.{Figures}
use Rattle.summary.specs.declared.MessageLine.{MessageLine}
use Rattle.summary.specs.declared.HopCount.{HopCount}
use Rattle.summary.specs.Summary.{as_figures, figures_of, no_figures, summary_of, line_of, no_line, message_lines, line_if, message_line_of, direction_of, no_hops}
use Rattle.summary.specs.Summary.{hops_if, hops_lines, hops_of}
use Rattle.engine.specs.Calls.{answer, recipe, areas, fresh_call, turn_call, deliver_call, collect_call}
use Rattle.engine.specs.Demands.{Fixed, calls, Demand2}
use Rattle.layout.specs.RouteWords.{route_of}
use Rattle.recipe.specs.Routes.{lines_for}
use Rattle.recipe.proofs.Laws.{numbered_for}
use Rattle.engine.proofs.Demands as engine
use Rattle.records.specs.declared.Progress.{Progress}
use Rattle.records.specs.Records.{flat_words}
use Rattle.records.proofs.Words.{length_words, unflat, words_unflat, injective}
use Rattle.calls.specs.Tells.{Tells}
use Rattle.calls.specs.Gave.{Areas, in_words, FreshGave, EventGave, CollectGave, SummaryGave, MessageGave, HopsGave}
use Rattle.guarantees.specs.OverRecords.{Gave, EventsGave, named_next, FixedAreas, FixedCalls, ExactCalls, FixedRun, OverRecords}
use Rattle.calls.proofs.Tells.{tells_by}

-- ---- a run of calls over records is one over words

module _ {A E S : Type 0} (Step : A → E → ℕ → A → Type 0) (words : A → S) (acts : S → E → Answered S)
    (is : (a : A) (e : E) (n : ℕ) (b : A) → Step a e n b → answer n (words b) ≡ acts (words a) e) where
  pub run_numbers : {a b : A} {es : List E} {ns : List ℕ} → Gave Step a es ns b → ns ≡ answers_to acts (words a) es
  unfolding answers_to
  run_numbers Gave.none = refl
  run_numbers (Gave.next {a = a} {b = b} {e = e} {es = es} {n = n} h g) =
      let c = is a e n b h in
      ap (λ (l : List ℕ). n ∷ l) (run_numbers g ∙ ap (λ (s : S). answers_to acts s es) (after_of c))
      ∙ ap (λ (k : ℕ). k ∷ answers_to acts (acts (words a) e).after es) (number_of c)

  pub run_words : {a b : A} {es : List E} {ns : List ℕ} → Gave Step a es ns b → words b ≡ state_after acts (words a) es
  unfolding state_after
  run_words Gave.none = refl
  run_words (Gave.next {a = a} {b = b} {e = e} {es = es} {n = n} h g) =
      run_words g ∙ ap (λ (s : S). state_after acts s es) (after_of (is a e n b h))

joined : {A E : Type 0} {Step : A → E → ℕ → A → Type 0} {a b d : A} {es ts : List E} {ns ks : List ℕ}
    → Gave Step a es ns b → Gave Step b ts ks d → Gave Step a (es ++ ts) (ns ++ ks) d
joined Gave.none k = k
joined (Gave.next h g) k = Gave.next h (joined g k)

-- ---- the words after a call are records' words

-- words of whole records
abbrev pub Whole : List ℕ → Type 0
Whole l = (n : ℕ) × (length l ≡ 3 * n)

pub areas_from : State → Areas
areas_from s = record { memories = s.memories; buffer = s.buffer; progress = unflat s.progress; status = s.status }

back : (l : List ℕ) → Whole l → flat_words (unflat l) ≡ l
back l (n, e) = words_unflat n l e

pub in_words_lem : (s : State) → Whole s.progress → in_words (areas_from s) ≡ s
unfolding areas_from
in_words_lem s w = ap (λ (l : List ℕ). state_of s.memories s.buffer l s.status) (back s.progress w)

length_progress : (l : List ℕ) (b i j k : ℕ) → length (set_progress l b i j k) ≡ length l
unfolding set_progress
length_progress l b i j k =
    length-set (set (set l (3 * b) i) (3 * b + 1) j) (3 * b + 2) k ∙ length-set (set l (3 * b) i) (3 * b + 1) j ∙ length-set l (3 * b) i

picked : (t : Bool) (a b l : List ℕ) → length a ≡ length l → length b ≡ length l → length (pick t a b) ≡ length l
unfolding pick
picked true a b l e f = e
picked false a b l e f = f

length_sends : (p : Plan) (s : State) (b t n : ℕ) → length (after_sends p s b t n) ≡ length s.progress
unfolding after_sends
length_sends p s b t n = picked _ _ _ s.progress (length_progress s.progress b _ _ _) (length_progress s.progress b _ _ _)

pub length_carry : (p : Plan) (source : List ℕ) (s : State) (b : ℕ) (a : Action)
    → length (carry_out p source s b a).progress ≡ length s.progress
unfolding carry_out
length_carry p source s b (gather t) = length_progress s.progress b _ _ _
length_carry p source s b (calculate t) = length_sends p s b t 0
length_carry p source s b (send m) = length_sends p s b _ _

pub whole_pick : (t : Bool) (a b : State) → Whole a.progress → Whole b.progress → Whole (pick t a b).progress
unfolding pick
whole_pick true a b v w = v
whole_pick false a b v w = w

module _ (bytes : List ℕ) (route : ℕ) (source : List ℕ) (a : Areas) where
  whole : Whole (flat_words a.progress)
  whole = (length a.progress, length_words a.progress)

  whole_fresh : Whole (fresh_call bytes route source (in_words a)).after.progress
  unfolding fresh_call machine.fresh
  whole_fresh =
      whole_pick _ _ (in_words a) ((recipe bytes route).processors, length-replicate {A = ℕ} (3 * (recipe bytes route).processors) 0) whole

  whole_call : (e : Event) → Whole (calls bytes route source (in_words a) e).after.progress
  unfolding calls turn_call deliver_call
  whole_call (turn_of b) =
      let e = length_carry (recipe bytes route) source (in_words a) b _ ∙ length_words a.progress in
      whole_pick _ _ (in_words a) (length a.progress, e) whole
  whole_call (delivery_of m) = whole_pick _ _ (in_words a) whole whole

-- ---- demand 1

pub areas_fixed : (a b : Areas) → in_words a ≡ in_words b → a ≡ b
areas_fixed a b e =
    ap (λ (l : List ℕ). at l a.buffer a.progress a.status) (ap (λ (s : State). s.memories) e)
    ∙ ap (λ (l : List ℕ). at b.memories l a.progress a.status) (ap (λ (s : State). s.buffer) e)
    ∙ ap (λ (l : List Progress). at b.memories b.buffer l a.status)
    (injective a.progress b.progress (ap (λ (s : State). s.progress) e))
    ∙ ap (λ (l : List ℕ). at b.memories b.buffer b.progress l) (ap (λ (s : State). s.status) e)
  where
    at : List ℕ → List ℕ → List Progress → List ℕ → Areas
    at m b p s = record { memories = m; buffer = b; progress = p; status = s }

module _ {A : Type 0} {ls : List Line} {done before : A} where
  pub fixed_as : {x y : Answered A} → x ≡ y → Fixed y ls done before → Fixed x ls done before
  fixed_as e f = subst (λ (z : Answered A). Fixed z ls done before) (sym e) f

-- one answer over words, one over records
module _ {A S : Type 0} (words : A → S) (fixed : (a b : A) → words a ≡ words b → a ≡ b) where
  pub one_answer : (b c : A) (n k : ℕ) {r : Answered S} → answer n (words b) ≡ r → answer k (words c) ≡ r → (n ≡ k) × (b ≡ c)
  one_answer b c n k d e = (number_of (d ∙ sym e), fixed b c (after_of (d ∙ sym e)))

  pub as_before : {ls : List Line} {done : S} {call : Answered S} (a b : A) (n : ℕ) → answer n (words b) ≡ call → Fixed call ls done (words a)
      → n ≢ 0 → b ≡ a
  as_before a b n e f h = fixed b a (after_of e ∙ f.refuses (λ z. h (number_of e ∙ z)))

module _ {ls : List Line} {done : State} {a b : Areas} {n : ℕ} {call : Answered State} where
  fixed_areas : answer n (in_words b) ≡ call → Fixed call ls done (in_words a) → FixedAreas ls done a n b
  fixed_areas e f =
      record {
        fixed = fixed_as e f;
        as_before = as_before in_words areas_fixed a b n e f;
      }

pub can_answer : (r : Answered State) → Whole r.after.progress → (n : ℕ) × ((b : Areas) × (answer n (in_words b) ≡ r))
can_answer r w = (r.number, (areas_from r.after, ap (λ (s : State). answer r.number s) (in_words_lem r.after w)))

module _ (bytes : List ℕ) (route : ℕ) (source : List ℕ) where
  -- an event's contract, by the calls over words
  pub event_call : (a : Areas) (e : Event) (n : ℕ) (b : Areas) → EventGave bytes route source a e n b
      → answer n (in_words b) ≡ calls bytes route source (in_words a) e
  unfolding calls
  event_call a (turn_of p) n b h = h
  event_call a (delivery_of m) n b h = h

  call_event : (a b : Areas) (e : Event) (n : ℕ) → answer n (in_words b) ≡ calls bytes route source (in_words a) e
      → EventGave bytes route source a e n b
  unfolding calls
  call_event a b (turn_of p) n h = h
  call_event a b (delivery_of m) n h = h

  can_event : (a : Areas) (e : Event) → (n : ℕ) × ((b : Areas) × EventGave bytes route source a e n b)
  can_event a e =
      let r = can_answer (calls bytes route source (in_words a) e) (whole_call bytes route source a e) in
      (r.0, (r.1.0, call_event a r.1.0 e r.0 r.1.1))

  -- what is told by value
  summary_tells : (r : Figures) → SummaryGave bytes route r
      → Tells (λ f. f.number) (lines_for (route_of route) bytes) (figures_of (recipe bytes route)) no_figures r
  unfolding summary_of figures_if
  summary_tells r e =
      tells_by (λ (f : Figures). f.number) (λ n. as_figures (figures_if n (recipe bytes route))) (figures_of (recipe bytes route)) no_figures refl (λ n. refl)
      refl (λ n. refl) (lines_for (route_of route) bytes) r e

  message_tells : (m : ℕ) (r : MessageLine) → MessageGave bytes route m r
      → Tells (λ f. f.number) (message_lines (route_of route) bytes m) (line_of (recipe bytes route) m) no_line r
  unfolding message_line_of line_if
  message_tells m r e =
      tells_by (λ (f : MessageLine). f.number) (λ n. line_if n (recipe bytes route) m) (line_of (recipe bytes route) m) no_line refl (λ n. refl)
      refl (λ n. refl) (message_lines (route_of route) bytes m) r e

  hops_tells : (m : ℕ) (r : HopCount) → HopsGave bytes m r
      → Tells (λ f. f.number) (hops_lines bytes m) (record { number = 0; hops = hops (nest_of bytes) (direction_of (nest_of bytes) m) }) no_hops r
  unfolding hops_of hops_if
  hops_tells m r e =
      tells_by (λ (f : HopCount). f.number) (λ n. hops_if n (nest_of bytes) m)
      (record { number = 0; hops = hops (nest_of bytes) (direction_of (nest_of bytes) m) }) no_hops refl (λ n. refl) refl (λ n. refl) (hops_lines bytes m) r e

  fixed_calls : FixedCalls bytes route source
  fixed_calls =
      record {
        fresh = λ a b n e. fixed_areas e ((engine.demands).one bytes route source (in_words a)).fresh;
        turn = λ a b p n e. fixed_areas e (((engine.demands).one bytes route source (in_words a)).turn p);
        deliver = λ a b m n e. fixed_areas e (((engine.demands).one bytes route source (in_words a)).deliver m);
        collect = λ a old grid n e. fixed_as e (((engine.demands).one bytes route source (in_words a)).collect old);
        sweep = λ old grid n e. fixed_as e (((engine.demands).one bytes route source (state_of [] [] [] [])).sweep old);
        summary = summary_tells;
        message = message_tells;
        hops = hops_tells;
        can_fresh = λ a. can_answer (fresh_call bytes route source (in_words a)) (whole_fresh bytes route source a);
        can_event = can_event;
        one_fresh = λ a b c n k. one_answer in_words areas_fixed b c n k;
        one_event = λ a b c e n k h g. one_answer in_words areas_fixed b c n k (event_call a e n b h) (event_call a e k c g);
      }

  -- ---- a run over records is a run over words

  numbers_are : {a b : Areas} {es : List Event} {ns : List ℕ} → EventsGave bytes route source a es ns b
      → ns ≡ answers_to (calls bytes route source) (in_words a) es
  numbers_are g = run_numbers _ in_words (calls bytes route source) event_call g

  words_are : {a b : Areas} {es : List Event} {ns : List ℕ} → EventsGave bytes route source a es ns b
      → in_words b ≡ state_after (calls bytes route source) (in_words a) es
  words_are g = run_words _ in_words (calls bytes route source) event_call g

  -- collecting that gave 0 was lent a grid of the right length
  pub collect_length : (s : State) (old : List ℕ) → (collect_call bytes route source s old).number ≡ 0 → length old ≡ (recipe bytes route).cells
  unfolding collect_call
  collect_length s old z =
      let n = none_first 9 nine (collect_lines (recipe bytes route) s) (λ q. omega arith)
      (none_behind (lines_for (route_of route) bytes) _ (numbered_for (route_of route) bytes) z) in
      eqb-true _ _ (both (true_not n.0)).1
    where
      nine : Bool
      nine = not (areas (recipe bytes route) source s and eqb (length old) (recipe bytes route).cells)

  -- ---- demand 2

  module _ (small : Bytes bytes) (z : first_of (read_lines bytes) ≡ 0) where
    abbrev over : Demand2 bytes route
    over = (engine.demands).two bytes route small z

    turned : (a b : Areas) (p : ℕ) → EventGave bytes route source a (turn_of p) 0 b
        → Does (recipe bytes route) source (in_words a) (in_words b) p (next_action (recipe bytes route) (in_words a) p)
    turned a b p h = rw (after_of h) (over.turned source (in_words a) p (sym (number_of h)))

    -- a turn of p that gave 0 after the events `before`, lent the areas b
    module _ (a start : Areas) (fresh : FreshGave bytes route source a 0 start) where
      did : {b : Areas} {before : List Event} {ns : List ℕ} (c : Areas) (p : ℕ) (k : Action) → EventsGave bytes route source start before ns b
          → EventGave bytes route source b (turn_of p) 0 c → named_next bytes route p before ns ≡ k
          → Did (calls bytes route source) (in_words start) (recipe bytes route) before p k
      did {b = b} c p k g t n =
          record {
            gave =
                ap (λ (s : State). (calls bytes route source s (turn_of p)).number) (sym (words_are g))
                ∙ sym (number_of (event_call b (turn_of p) 0 c t));
            named = rw (numbers_are g) at n;
          }

      posted : (before : List Event) (p m : ℕ) → Did (calls bytes route source) (in_words start) (recipe bytes route) before p (send m)
          → Posted (calls bytes route source) (in_words start) (recipe bytes route) before p m
      posted before p m =
          subst (λ (s : State). Did (calls bytes route source) s (recipe bytes route) before p (send m)
          → Posted (calls bytes route source) s (recipe bytes route) before p m)
          (sym (after_of fresh)) (over.posted source (in_words a) (sym (number_of fresh)) before p m)

      module _ (b c d : Areas) (before then : List Event) (ns ks : List ℕ) (p m q : ℕ) (g : EventsGave bytes route source start before ns b)
          (t : EventGave bytes route source b (turn_of p) 0 c) (n : named_next bytes route p before ns ≡ send m)
          (k : EventsGave bytes route source c then ks d)
          (h : q < length (held_by (recipe bytes route) m)) where
        all : EventsGave bytes route source start (before ++ (turn_of p ∷ then)) (ns ++ (0 ∷ ks)) d
        all = joined g (Gave.next t k)

        stays : mail_at (recipe bytes route) (in_words d) m q ≡ word_at (recipe bytes route) (in_words b) p (cell_of (recipe bytes route) m q)
        stays =
            ap (λ (s : State). mail_at (recipe bytes route) s m q) (words_are all)
            ∙ (posted before p m (did c p (send m) g t n)).stays then q h
            ∙ ap (λ (s : State). word_at (recipe bytes route) s p (cell_of (recipe bytes route) m q)) (sym (words_are g))

        arrives : (e : Areas) (r : ℕ) → EventGave bytes route source d (turn_of r) 0 e
            → named_next bytes route r (before ++ (turn_of p ∷ then)) (ns ++ (0 ∷ ks)) ≡ gather (taker_of (recipe bytes route) m)
            → word_at (recipe bytes route) (in_words e) r (cell_of (recipe bytes route) m q)
            ≡ word_at (recipe bytes route) (in_words b) p (cell_of (recipe bytes route) m q)
        arrives e r u o =
            ap (λ (s : State). word_at (recipe bytes route) s r (cell_of (recipe bytes route) m q))
            (after_of (event_call d (turn_of r) 0 e u) ∙ ap (λ (s : State). (calls bytes route source s (turn_of r)).after) (words_are all))
            ∙ (posted before p m (did c p (send m) g t n)).arrives then r q h (did e r (gather (taker_of (recipe bytes route) m)) all u o)
            ∙ ap (λ (s : State). word_at (recipe bytes route) s p (cell_of (recipe bytes route) m q)) (sym (words_are g))

    exact_calls : ExactCalls bytes route source
    exact_calls =
        record {
          plan = over;
          turned = turned;
          unpacked =
              λ a b p t h n m q i l. ap (λ (s : State). word_at (recipe bytes route) s p (cell_of (recipe bytes route) m q)) (after_of h)
              ∙ over.unpacked source (in_words a) p t (sym (number_of h)) n m q i l;
          stays = λ a start b c d before then ns ks p m q f g t n k h. stays a start f b c d before then ns ks p m q g t n k h;
          arrives =
              λ a start b c d e before then ns ks p r m q f g t n k h u o. arrives a start f b c d before then ns ks p m q g t n k h e r u o;
          nest = λ none old grid array h l. after_of h ∙ over.nest none source old array (sym (number_of h)) l;
          nest_shape = λ old grid array h l o. after_of h ∙ over.nest_shape source old array (sym (number_of h)) l o;
        }

  -- ---- demand 3

  module _ (small : Bytes bytes) (a start b : Areas) (events : List Event) (numbers : List ℕ) (fresh : FreshGave bytes route source a 0 start)
      (gave : EventsGave bytes route source start events numbers b) where
    abbrev ns : numbers ≡ answers_to (calls bytes route source) (in_words start) events
    ns = numbers_are gave

    abbrev ws : in_words b ≡ state_after (calls bytes route source) (in_words start) events
    ws = words_are gave

    demand : Demand3 (calls bytes route source) (in_words start) events (recipe bytes route) source (collect_call bytes route source)
    demand =
        subst (λ (s : State). Demand3 (calls bytes route source) s events (recipe bytes route) source (collect_call bytes route source))
        (sym (after_of fresh))
        ((engine.demands).three bytes route source (in_words a) small (sym (number_of fresh)) events)

    -- the next call, of the areas `b`
    next_number : (e : Event) (n : ℕ) (c : Areas) → EventGave bytes route source b e n c
        → n ≡ (calls bytes route source (state_after (calls bytes route source) (in_words start) events) e).number
    next_number e n c h = number_of (event_call b e n c h) ∙ ap (λ (s : State). (calls bytes route source s e).number) ws

    collect_is : (old grid : List ℕ) (n : ℕ) → CollectGave bytes route source b old n grid
        → answer n grid ≡ collect_call bytes route source (state_after (calls bytes route source) (in_words start) events) old
    collect_is old grid n h = h ∙ ap (λ (s : State). collect_call bytes route source s old) ws

    fixed_run : FixedRun bytes route source start events numbers b
    fixed_run =
        record {
          numbers_are = ns;
          words_are = ws;
          demand = demand;
          goes_on = λ h. let r = demand.goes_on (rw ns at h) in (r.0, λ n c g. next_number r.0 n c g ∙ r.1);
          then_fewer = λ e c h. rw ns (demand.then_fewer e (sym (next_number e 0 c h)));
          collects = λ old grid n l h. (
            (λ z. rw ns (demand.collecting.then_all old l (sym (number_of (collect_is old grid n h)) ∙ z))),
            (λ t. number_of (collect_is old grid n h) ∙ demand.collecting.can_collect (rw ns at t) old l),
          );
          grid = λ old grid h.
              let z = sym (number_of (collect_is old grid 0 h)) in
              let l = collect_length _ old z in
              after_of (collect_is old grid 0 h) ∙ demand.collecting.grid (demand.collecting.then_all old l z) old l;
        }

pub over_records : (bytes : List ℕ) (route : ℕ) (source : List ℕ) → OverRecords bytes route source
over_records bytes route source =
    record { one = fixed_calls bytes route source; two = exact_calls bytes route source; three = fixed_run bytes route source }
