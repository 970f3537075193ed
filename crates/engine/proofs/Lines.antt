-- Laws of the lines: areas and fit states, what reading gives, and each call by the line that counts.
use Rattle.std.specs.Prelude.{Ok, ◌≡◌, ℕ, ◌*◌, ◌<◌, ◌≤◌, Bool, true, false, eqb, ltb, leb, ◌≢◌, List, [], ◌∷◌, ◌++◌, length, get_or, set, replicate}
use mathlib.Core.Path.{refl, sym, ap, ◌∙◌}
use native.Mathlib.Nat.{mul-le-mul_right}
use native.Mathlib.Omega.{arith}
use borrow.Author.Tests.{eqb-true, eq-eqb, ne_eqb, lt-ltb, le-ltb}
use Rattle.base.specs.Tests.{◌and◌, not, pick, every, some}
use Rattle.base.specs.Numbers.{Line, line, first_of}
use Rattle.base.proofs.Tests.{both, and_true, and_left, and_false, and_no, not-true, not-false, true_not}
use Rattle.base.proofs.Numbers.{Numbered, first_true, first_false, none_first, first_some, first_behind}
use Rattle.machine.specs.Plan.{Plan, count, words}
use Rattle.machine.specs.Machine as machine
use Rattle.machine.specs.Machine.{State, state_of, fit_record, fit, tiles_left, carry_out, next_action, Answered, answered, turn_lines, turn, deliver_lines}
use Rattle.machine.specs.Machine.{collect_lines, collected}
use Rattle.nest.specs.declared.Nest.{Nest}
use Rattle.nest.specs.Nest.{cells, processors}
use Rattle.nest.specs.Accepted.{Accepted}
use Rattle.plan.specs.declared.Route.{Route}
use Rattle.plan.specs.declared.Route.TheVariants.{Direct}
use Rattle.plan.specs.Messages.{box_plan}
use Rattle.plan.specs.Shaped.{plan_of}
use Rattle.plan.proofs.ShapedBox.{plan_of_box}
use Rattle.layout.specs.declared.Sizes.{Sizes}
use Rattle.layout.specs.Sizes.{Sized}
use Rattle.layout.specs.RouteWords.{route_of}
use Rattle.nest.specs.Reader.{read_lines, nest_of, Reads}
use Rattle.nest.proofs.Numbered.{numbered}
use Rattle.nest.proofs.Answers.{none_read, nest_read}
use Rattle.recipe.specs.Routes.{lines_for}
pub use Rattle.recipe.specs.Given.{Opened}
use Rattle.recipe.proofs.Laws.{numbered_for, reads_for, passed_for, direct_open}
use Rattle.stages.specs.Progress.{progress_only}
use Rattle.engine.specs.Given.{AreaLengths, MayTurn, unfit_lines, handed_over}
use Rattle.engine.specs.Calls.{answer, areas, area_lines, fresh_call, turn_call, deliver_call, collect_call, sweep_call}
use Rattle.engine.proofs.Turns.{answered_no, answered_yes}

-- ---- areas

module _ (p : Plan) (source : List ℕ) (s : State) where
  pub no_source : length source ≢ p.cells → false ≡ areas p source s
  unfolding areas
  no_source h = sym (and_false _ _ (ne_eqb _ _ h))

  pub no_memories : length s.memories ≢ p.processors * p.cells → false ≡ areas p source s
  unfolding areas
  no_memories h = sym (and_no _ _ (and_false _ _ (ne_eqb _ _ h)))

  pub no_buffer : length s.buffer ≢ words p → false ≡ areas p source s
  unfolding areas
  no_buffer h = sym (and_no _ _ (and_no _ _ (and_false _ _ (ne_eqb _ _ h))))

  pub no_progress : length s.progress ≢ 3 * p.processors → false ≡ areas p source s
  unfolding areas
  no_progress h = sym (and_no _ _ (and_no _ _ (and_no _ _ (and_false _ _ (ne_eqb _ _ h)))))

  pub by_status : length source ≡ p.cells → length s.memories ≡ p.processors * p.cells → length s.buffer ≡ words p
      → length s.progress ≡ 3 * p.processors → eqb (length s.status) (count p) ≡ areas p source s
  unfolding areas
  by_status a b c d =
      sym (and_left _ _ (eq-eqb _ _ a) ∙ and_left _ _ (eq-eqb _ _ b) ∙ and_left _ _ (eq-eqb _ _ c) ∙ and_left _ _ (eq-eqb _ _ d))

  pub areas_are : areas p source s ≡ true → AreaLengths p source s
  unfolding areas
  areas_are e =
      let a = both e in
      let b = both a.1 in
      let c = both b.1 in
      let d = both c.1 in
      record {
        source = eqb-true _ _ a.0;
        memories = eqb-true _ _ b.0;
        buffer = eqb-true _ _ c.0;
        progress = eqb-true _ _ d.0;
        status = eqb-true _ _ d.1;
      }

pub area_low : (x : Nest) (z : Sizes) → Sized x z → z.processors * z.cells ≤ 1048576
area_low x z g = low z.processors z.cells (omega (arith, g.processors, g.accepted.processors_most)) (omega (arith, g.cells, g.accepted.cells_most))
  where
    low : (n c : ℕ) → n ≤ 64 → c ≤ 16384 → n * c ≤ 1048576
    low n c h k = omega (arith, mul-le-mul_right c h)

pub area_is : (x : Nest) (z : Sizes) → Sized x z → z.processors * z.cells ≡ processors x * cells x
area_is x z g = ap (λ (n : ℕ). n * z.cells) g.processors ∙ ap (λ (n : ℕ). processors x * n) g.cells

pub records_are : (x : Nest) (z : Sizes) → Sized x z → 3 * z.processors ≡ 3 * processors x
records_are x z g = ap (λ (n : ℕ). 3 * n) g.processors

-- ---- fit states

module _ (p : Plan) (s : State) where
  pub unfit_record : every (fit_record p (progress_only s.progress)) p.processors ≡ false → fit p s ≡ false
  unfolding fit fit_record tiles_left
  unfit_record e = and_false _ _ e

  pub unfit_status : length s.status ≡ count p → every (λ m. leb (get_or s.status m 0) 3) (length s.status) ≡ false → fit p s ≡ false
  unfolding fit
  unfit_status h e = and_no _ _ (ap (every (λ m. leb (get_or s.status m 0) 3)) (sym h) ∙ e)

  pub fit_both : length s.status ≡ count p → every (fit_record p (progress_only s.progress)) p.processors ≡ true
      → every (λ m. leb (get_or s.status m 0) 3) (length s.status) ≡ true → fit p s ≡ true
  unfolding fit fit_record tiles_left
  fit_both h a e = and_true a (ap (every (λ m. leb (get_or s.status m 0) 3)) (sym h) ∙ e)

-- ---- lines 9 and 10

module _ (p : Plan) (source : List ℕ) (s : State) where
  pub unfit_9 : areas p source s ≡ false → 9 ≡ first_of (unfit_lines p source s)
  unfit_9 e = sym (first_true 9 _ _ (not-false e))

  pub unfit_10 : areas p source s ≡ true → fit p s ≡ false → 10 ≡ first_of (unfit_lines p source s)
  unfit_10 a e = sym (first_false 9 _ _ (not-true a) ∙ first_true 10 _ _ (not-false e))

  pub unfit_0 : areas p source s ≡ true → fit p s ≡ true → 0 ≡ first_of (unfit_lines p source s)
  unfolding first_of pick
  unfit_0 a e = rw (not-true a, not-true e)

  pub unfit_none : (r : ℕ) → r ≡ first_of (unfit_lines p source s) → r ≡ 0 → (areas p source s ≡ true) × (fit p s ≡ true)
  unfit_none r e z =
      let a = none_first 9 (not (areas p source s)) (line 10 (not (fit p s)) ∷ []) (λ q. omega arith) (sym e ∙ z) in
      let b = none_first 10 (not (fit p s)) [] (λ q. omega arith) a.1 in
      (true_not a.0, true_not b.0)

  pub passed : (b r : ℕ) → r ≡ first_of (unfit_lines p source s) → r ≡ 0 → b < p.processors → MayTurn p source s b
  passed b r e z h = let q = unfit_none r e z in record { areas = areas_are p source s q.0; fit = q.1; processor = h }

-- ---- what reading gives

-- a recipe read for no route is open to the direct one
pub opened_direct : {l : List ℕ} {x : Nest} → Reads l (Ok x) → {route : Route} → route ≡ Direct → Opened l 0 (plan_of route x)
unfolding route_of
opened_direct {l} {x} r {route} k =
    record {
      none = passed_for Direct l (none_read r) (direct_open (nest_of l));
      is = ap (λ (z : Route). plan_of z x) k ∙ ap (plan_of Direct) (nest_read r);
    }

-- and so is the layout made of its nest
pub laid_direct : {l : List ℕ} {x : Nest} → Reads l (Ok x) → (y : Nest) → y ≡ x → Opened l 0 (plan_of Direct y)
laid_direct r y e = rw e (opened_direct r refl)

-- behind lines of which none has the number 0
module _ {A : Type 0} (front : List Line) (named : Numbered front) (more : List Line) (r : ℕ) (new old : A) where
  -- the number is one of theirs
  pub call_read : r ≡ first_of front → r ≢ 0 → answer r old ≡ answered (first_of (front ++ more)) new old
  call_read e h =
      answered_no r new old h ∙ ap (λ (n : ℕ). answered n new old) (e ∙ sym (first_some front more (λ q. h (e ∙ q))))

  -- one of those behind them
  pub call_later : first_of front ≡ 0 → r ≡ first_of more → r ≢ 0 → answer r old ≡ answered (first_of (front ++ more)) new old
  call_later z e h =
      answered_no r new old h ∙ ap (λ (n : ℕ). answered n new old) (e ∙ sym (first_behind front more named z))

  -- none of them
  pub call_done : first_of front ≡ 0 → first_of more ≡ 0 → answer 0 new ≡ answered (first_of (front ++ more)) new old
  call_done z e = answered_yes _ new old (first_behind front more named z ∙ e)

-- ---- the turn

module _ (l : List ℕ) (route : ℕ) (source : List ℕ) (s : State) (b : ℕ) where
  pub turn_read : (r : ℕ) → r ≡ first_of (lines_for (route_of route) l) → r ≢ 0 → answer r s ≡ turn_call l route source s b
  unfolding turn_call
  turn_read r e h = call_read (lines_for (route_of route) l) (numbered_for (route_of route) l) _ r _ s e h

  module _ (p : Plan) (o : Opened l route p) where
    turn_at_lem : answered (first_of (lines_for (route_of route) l ++ (area_lines p source s ++ turn_lines p s b)))
        (carry_out p source s b (next_action p s b)) s
        ≡ turn_call l route source s b
    unfolding turn_call
    turn_at_lem =
        ap
        (λ (q : Plan).
        answered (first_of (lines_for (route_of route) l ++ (area_lines q source s ++ turn_lines q s b)))
        (carry_out q source s b (next_action q s b)) s)
        o.is

    module _ (r : ℕ) (e : r ≡ first_of (unfit_lines p source s)) where
      pub turn_unfit : r ≢ 0 → answer r s ≡ turn_call l route source s b
      turn_unfit h =
          call_later (lines_for (route_of route) l) (numbered_for (route_of route) l) _ r _ s o.none
          (e ∙ sym (first_some (unfit_lines p source s) _ (λ q. h (e ∙ q)))) h
          ∙ turn_at_lem

      pub turn_beyond : r ≡ 0 → p.processors ≤ b → answer 11 s ≡ turn_call l route source s b
      turn_beyond z h =
          let q = unfit_none p source s r e z in
          call_later (lines_for (route_of route) l) (numbered_for (route_of route) l) _ 11 _ s o.none
          (sym
          (first_false 9 _ _ (not-true q.0) ∙ first_false 10 _ _ (not-true q.1)
          ∙ first_true 11 _ _ (not-false (le-ltb b p.processors h))))
          (λ k. omega arith)
          ∙ turn_at_lem

      pub turn_steps : r ≡ 0 → (a : Answered State) → a ≡ turn p source s b → a ≡ turn_call l route source s b
      unfolding turn
      turn_steps z a t =
          let q = unfit_none p source s r e z in
          t
          ∙ ap (λ (n : ℕ). answered n (carry_out p source s b (next_action p s b)) s)
          (sym
          (first_behind (lines_for (route_of route) l) (area_lines p source s ++ turn_lines p s b) (numbered_for (route_of route) l) o.none
          ∙ first_false 9 (not (areas p source s)) (turn_lines p s b) (not-true q.0)))
          ∙ turn_at_lem

-- ---- a delivery, past the lines before it

module _ (status : List ℕ) (m : ℕ) where
  number : ℕ
  number = first_of (line 11 (not (ltb m (length status))) ∷ line 14 (not (eqb (get_or status m 0) 1)) ∷ [])

  refusal : (n : ℕ) → n ≢ 0 → n ≡ number → answer n status ≡ handed_over status m
  unfolding number
  refusal n h e = answered_no n (set status m 2) status h ∙ ap (λ (k : ℕ). answered k (set status m 2) status) e

  pub over_beyond : length status ≤ m → answer 11 status ≡ handed_over status m
  unfolding number
  over_beyond h = refusal 11 (λ k. omega arith) (sym (first_true 11 _ _ (not-false (le-ltb m (length status) h))))

  module _ (low : m < length status) where
    behind : number ≡ first_of (line 14 (not (eqb (get_or status m 0) 1)) ∷ [])
    unfolding number
    behind = first_false 11 _ _ (not-true (lt-ltb m (length status) low))

    pub over_none : get_or status m 0 ≢ 1 → answer 14 status ≡ handed_over status m
    over_none k = refusal 14 (λ q. omega arith) (sym (behind ∙ first_true 14 _ _ (not-false (ne_eqb _ _ k))))

    in_flight : get_or status m 0 ≡ 1 → number ≡ 0
    unfolding first_of
    in_flight k = behind ∙ first_false 14 (not (eqb (get_or status m 0) 1)) [] (not-true (eq-eqb _ _ k))

    pub over_done : get_or status m 0 ≡ 1 → answer 0 (set status m 2) ≡ handed_over status m
    unfolding number
    over_done k = answered_yes _ (set status m 2) status (in_flight k)

either : {A : Type 0} (f : List ℕ → A) (t : Bool) (a b : List ℕ) → f (pick t a b) ≡ pick t (f a) (f b)
unfolding pick
either f true a b = refl
either f false a b = refl

-- what is made of the marks, as an answer about all that they are part of
pub handed : {A : Type 0} (f : List ℕ → A) (n m : ℕ) (status old : List ℕ) → answer n status ≡ handed_over old m → (k : ℕ)
    → first_of (line 11 (not (ltb m (length old))) ∷ line 14 (not (eqb (get_or old m 0) 1)) ∷ []) ≡ k
    → answer n (f status) ≡ answered k (f (set old m 2)) (f old)
handed {A} f n m status old e k q =
    ap (λ (x : Answered (List ℕ)). answer x.number (f x.after)) e
    ∙ ap (λ (j : ℕ). answer j (f (pick (eqb j 0) (set old m 2) old))) q ∙ ap (answer k) (either f (eqb k 0) (set old m 2) old)

-- ---- the delivery

module _ (l : List ℕ) (route : ℕ) (source : List ℕ) (s : State) (m : ℕ) where
  pub deliver_read : (r : ℕ) → r ≡ first_of (lines_for (route_of route) l) → r ≢ 0 → answer r s ≡ deliver_call l route source s m
  unfolding deliver_call
  deliver_read r e h = call_read (lines_for (route_of route) l) (numbered_for (route_of route) l) _ r _ s e h

  module _ (p : Plan) (o : Opened l route p) where
    deliver_at : answered (first_of (lines_for (route_of route) l ++ (area_lines p source s ++ deliver_lines p s m)))
        (state_of s.memories s.buffer s.progress (set s.status m 2)) s
        ≡ deliver_call l route source s m
    unfolding deliver_call
    deliver_at =
        ap
        (λ (q : Plan).
        answered (first_of (lines_for (route_of route) l ++ (area_lines q source s ++ deliver_lines q s m)))
        (state_of s.memories s.buffer s.progress (set s.status m 2)) s)
        o.is

    module _ (r : ℕ) (e : r ≡ first_of (unfit_lines p source s)) where
      pub deliver_unfit : r ≢ 0 → answer r s ≡ deliver_call l route source s m
      deliver_unfit h =
          call_later (lines_for (route_of route) l) (numbered_for (route_of route) l) _ r _ s o.none
          (e ∙ sym (first_some (unfit_lines p source s) _ (λ q. h (e ∙ q)))) h
          ∙ deliver_at

      -- the marks handed over
      pub deliver_over : r ≡ 0 → (n : ℕ) (status : List ℕ) → answer n status ≡ handed_over s.status m
          → answer n (state_of s.memories s.buffer s.progress status) ≡ deliver_call l route source s m
      deliver_over z n status a = handed (λ t. state_of s.memories s.buffer s.progress t) n m status s.status a _ same ∙ deliver_at
        where
          rest : ℕ → List Line
          rest k = line 11 (not (ltb m k)) ∷ line 14 (not (eqb (get_or s.status m 0) 1)) ∷ []

          same : first_of (rest (length s.status)) ≡ first_of (lines_for (route_of route) l ++ (area_lines p source s ++ deliver_lines p s m))
          same =
              let q = unfit_none p source s r e z in
              ap (λ (k : ℕ). first_of (rest k)) (areas_are p source s q.0).status
              ∙ sym
              (first_behind (lines_for (route_of route) l) (area_lines p source s ++ deliver_lines p s m) (numbered_for (route_of route) l) o.none
              ∙ first_false 9 _ _ (not-true q.0) ∙ first_false 10 _ _ (not-true q.1))

-- ---- collecting

pub and_right : (a b : Bool) → b ≡ true → (a and b) ≡ a
unfolding ◌and◌
and_right true b e = e
and_right false b e = refl

abbrev grid_lines : Plan → List ℕ → State → List ℕ → List Line
grid_lines p source s grid = line 9 (not (areas p source s and eqb (length grid) p.cells)) ∷ collect_lines p s

module _ (l : List ℕ) (route : ℕ) (source : List ℕ) (s : State) (grid : List ℕ) where
  pub collect_read : (r : ℕ) → r ≡ first_of (lines_for (route_of route) l) → r ≢ 0 → answer r grid ≡ collect_call l route source s grid
  unfolding collect_call
  collect_read r e h = call_read (lines_for (route_of route) l) (numbered_for (route_of route) l) _ r _ grid e h

  module _ (p : Plan) (o : Opened l route p) where
    collect_at : answered (first_of (lines_for (route_of route) l ++ grid_lines p source s grid)) (collected p s) grid ≡ collect_call l route source s grid
    unfolding collect_call
    collect_at =
        ap (λ (q : Plan). answered (first_of (lines_for (route_of route) l ++ grid_lines q source s grid)) (collected q s) grid) o.is

    pub collect_grid : length grid ≢ p.cells → answer 9 grid ≡ collect_call l route source s grid
    collect_grid h =
        call_later (lines_for (route_of route) l) (numbered_for (route_of route) l) _ 9 _ grid o.none
        (sym (first_true 9 _ _ (not-false (and_no _ _ (ne_eqb _ _ h))))) (λ q. omega arith) ∙ collect_at

    module _ (g : length grid ≡ p.cells) (r : ℕ) (e : r ≡ first_of (unfit_lines p source s)) where
      long_grid : (areas p source s and eqb (length grid) p.cells) ≡ areas p source s
      long_grid = and_right _ _ (eq-eqb _ _ g)

      same_lines : first_of (grid_lines p source s grid)
          ≡ first_of (unfit_lines p source s ++ (line 15 (some (tiles_left p s) p.processors) ∷ []))
      same_lines = ap (λ (t : Bool). first_of (line 9 (not t) ∷ collect_lines p s)) long_grid

      pub collect_unfit : r ≢ 0 → answer r grid ≡ collect_call l route source s grid
      collect_unfit h =
          call_later (lines_for (route_of route) l) (numbered_for (route_of route) l) _ r _ grid o.none
          (e ∙ sym (same_lines ∙ first_some (unfit_lines p source s) _ (λ q. h (e ∙ q)))) h
          ∙ collect_at

      module _ (z : r ≡ 0) where
        last_line : first_of (grid_lines p source s grid) ≡ first_of (line 15 (some (tiles_left p s) p.processors) ∷ [])
        last_line =
            let q = unfit_none p source s r e z in
            same_lines ∙ first_false 9 _ _ (not-true q.0) ∙ first_false 10 _ _ (not-true q.1)

        module _ (t : Bool) (q : t ≡ some (tiles_left p (progress_only s.progress)) p.processors) where
          left_is : some (tiles_left p s) p.processors ≡ t
          unfolding tiles_left
          left_is = sym q

          pub collect_left : t ≡ true → answer 15 grid ≡ collect_call l route source s grid
          collect_left k =
              call_later (lines_for (route_of route) l) (numbered_for (route_of route) l) _ 15 _ grid o.none
              (sym (last_line ∙ first_true 15 _ _ (left_is ∙ k))) (λ y. omega arith) ∙ collect_at

          over : t ≡ false → first_of (line 15 (some (tiles_left p s) p.processors) ∷ []) ≡ 0
          unfolding first_of
          over k = first_false 15 (some (tiles_left p s) p.processors) [] (left_is ∙ k)

          pub collect_done : (new : List ℕ) → t ≡ false → new ≡ collected p (state_of s.memories [] [] [])
              → answer 0 new ≡ collect_call l route source s grid
          unfolding collected
          collect_done new k c =
              ap (answer 0) c ∙ call_done (lines_for (route_of route) l) (numbered_for (route_of route) l) _ 0 _ grid o.none (last_line ∙ over k) ∙ collect_at

-- ---- the fresh start

module _ (l : List ℕ) (route : ℕ) (source : List ℕ) (s : State) where
  pub fresh_read : (r : ℕ) → r ≡ first_of (lines_for (route_of route) l) → r ≢ 0 → answer r s ≡ fresh_call l route source s
  unfolding fresh_call
  fresh_read r e h = call_read (lines_for (route_of route) l) (numbered_for (route_of route) l) _ r _ s e h

  module _ (p : Plan) (o : Opened l route p) where
    fresh_at : answered (first_of (lines_for (route_of route) l ++ area_lines p source s)) (machine.fresh p) s ≡ fresh_call l route source s
    unfolding fresh_call
    fresh_at = ap (λ (q : Plan). answered (first_of (lines_for (route_of route) l ++ area_lines q source s)) (machine.fresh q) s) o.is

    pub fresh_area : areas p source s ≡ false → answer 9 s ≡ fresh_call l route source s
    fresh_area h =
        call_later (lines_for (route_of route) l) (numbered_for (route_of route) l) _ 9 _ s o.none (sym (first_true 9 _ _ (not-false h)))
        (λ q. omega arith) ∙ fresh_at

    nothing : areas p source s ≡ true → first_of (area_lines p source s) ≡ 0
    unfolding first_of
    nothing h = first_false 9 (not (areas p source s)) [] (not-true h)

    pub fresh_done : areas p source s ≡ true → (memories buffer progress status : List ℕ) → memories ≡ replicate (length s.memories) 0
        → buffer ≡ replicate (length s.buffer) 0 → progress ≡ replicate (length s.progress) 0 → status ≡ replicate (length s.status) 0
        → answer 0 (state_of memories buffer progress status) ≡ fresh_call l route source s
    unfolding machine.fresh
    fresh_done h memories buffer progress status a b c d =
        let k = areas_are p source s h in
        ap (answer 0) (rw (a, b, c, d, k.memories, k.buffer, k.progress, k.status))
        ∙ call_done (lines_for (route_of route) l) (numbered_for (route_of route) l) (area_lines p source s) 0 (machine.fresh p) s o.none (nothing h) ∙ fresh_at

-- ---- the sweep

abbrev sweep_lines : Plan → List ℕ → List ℕ → List Line
sweep_lines p source grid = line 9 (not (eqb (length source) p.cells and eqb (length grid) p.cells)) ∷ []

module _ (l source grid : List ℕ) where
  pub sweep_read : (r : ℕ) → r ≡ first_of (read_lines l) → r ≢ 0 → answer r grid ≡ sweep_call l source grid
  unfolding sweep_call
  sweep_read r e h = call_read (read_lines l) (numbered l) _ r _ grid e h

  module _ (p : Plan) (o : Opened l 0 p) where
    sweep_at : answered (first_of (read_lines l ++ sweep_lines p source grid)) (machine.sweep p source) grid ≡ sweep_call l source grid
    unfolding sweep_call
    sweep_at = ap (λ (q : Plan). answered (first_of (read_lines l ++ sweep_lines q source grid)) (machine.sweep q source) grid) o.is

    pub sweep_source : length source ≢ p.cells → answer 9 grid ≡ sweep_call l source grid
    sweep_source h =
        call_later (read_lines l) (numbered l) _ 9 _ grid (reads_for (route_of 0) l o.none)
        (sym (first_true 9 _ _ (not-false (and_false _ _ (ne_eqb _ _ h))))) (λ q. omega arith) ∙ sweep_at

    pub sweep_grid : length grid ≢ p.cells → answer 9 grid ≡ sweep_call l source grid
    sweep_grid h =
        call_later (read_lines l) (numbered l) _ 9 _ grid (reads_for (route_of 0) l o.none)
        (sym (first_true 9 _ _ (not-false (and_no _ _ (ne_eqb _ _ h))))) (λ q. omega arith) ∙ sweep_at

    right : length source ≡ p.cells → length grid ≡ p.cells → first_of (sweep_lines p source grid) ≡ 0
    unfolding first_of
    right a b =
        first_false 9 (not (eqb (length source) p.cells and eqb (length grid) p.cells)) []
        (not-true (and_true (eq-eqb _ _ a) (eq-eqb _ _ b)))

    pub sweep_done : (new : List ℕ) → length source ≡ p.cells → length grid ≡ p.cells → new ≡ machine.sweep p source
        → answer 0 new ≡ sweep_call l source grid
    sweep_done new a b c = ap (answer 0) c ∙ call_done (read_lines l) (numbered l) _ 0 _ grid (reads_for (route_of 0) l o.none) (right a b) ∙ sweep_at

-- without bounds the box's sweep is the nest's
pub box_swept : (x : Nest) → Accepted x → x.bounds ≡ 0 → (source new : List ℕ) → new ≡ machine.sweep (box_plan Direct x) source
    → new ≡ machine.sweep (plan_of Direct x) source
box_swept x ok none source new e = e ∙ ap (λ (p : Plan). machine.sweep p source) (sym (plan_of_box Direct x ok none))
