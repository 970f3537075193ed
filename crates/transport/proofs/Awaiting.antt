-- Laws of what a processor waits for: marks of the messages due, the tile at which it stands, and the tests before.
use Rattle.std.specs.Prelude.{◌≡◌, ℕ, ◌+◌, ◌-◌, ◌*◌, ◌<◌, ◌≤◌, true, false, eqb, ◌≢◌, ◌⊎◌, List, [], ◌∷◌, length, get_or, take, drop, set, replicate}
use mathlib.Core.Path.{sym, ap, ◌∙◌, subst}
use mathlib.Core.Logic.{inl, inr}
use native.Mathlib.Nat.{eq-or-lt_of_le}
use native.Mathlib.Decide.{ℕ_discrete}
use native.Mathlib.Omega.{arith}
use lib.ListN.{length-set, length-replicate, get_or-replicate}
use lib.Seq.{get_or-set_same, get_or-set_other, ext_get_or}
use borrow.Author.Tests.{eqb-true, eq-eqb, ne_eqb, lt-ltb, le-ltb}
use Rattle.base.specs.Tests.{◌and◌, not, one, tabulate}
use Rattle.base.specs.Numbers.{line, first_of}
use Rattle.base.proofs.Tests.{both, and_true, and_left, and_false, and_no, not-true, not-false, true_not, one_true, one_false, length_tabulate, tabulate_at}
use Rattle.base.proofs.Tests.{tabulate_same}
use Rattle.base.proofs.Numbers.{first_true, first_false, none_first}
use Rattle.base.proofs.Select.{at_is, those_at, those_lt}
use Rattle.machine.specs.Plan.{Plan, count, taker_of, tiles_of, dues_of}
use Rattle.machine.specs.Machine.{State, finished_of, stage_of, tiles_left, current_tile, fit, answered}
use Rattle.nest.specs.declared.Nest.{Nest}
use Rattle.nest.specs.Accepted.{Accepted}
use Rattle.nest.specs.Nest.{processors}
use Rattle.plan.specs.declared.Route.{Route}
use Rattle.plan.specs.declared.Route.TheVariants.{Direct, Indirect}
use Rattle.plan.specs.Shaped.{plan_of}
use Rattle.layout.specs.declared.Sizes.{Sizes}
use Rattle.layout.specs.Sizes.{Sized}
use Rattle.tables.proofs.shaped_table.Laws.{box_few}
use Rattle.engine.specs.Calls.{answer}
use Rattle.records.specs.declared.Flat.{Flat}
use Rattle.engine.proofs.Reading.{part_carries}
use Rattle.engine.proofs.Turns.{answered_no, answered_yes}
use Rattle.transport.specs.Calls.{awaits, Waits, waits_of, waited, wait_areas}
use Rattle.transport.specs.Given.{undelivered, unasked_lines, MayAsk, waited_or13}

-- ---- bounds

pub few_processors : (x : Nest) (z : Sizes) → Sized x z → (b : ℕ) → b < processors x → b < 64
few_processors x z s b h = omega (arith, s.accepted.processors_most)

pub few_tiles : (r : Route) (x : Nest) → Accepted x → (plan_of r x).tiles ≤ 16384
few_tiles Direct x ok = omega (arith, ok.tiles_most)
few_tiles Indirect x ok = box_few x ok

-- ---- the marks

module _ (p : Plan) (status : List ℕ) (t : ℕ) where
  -- of the first j messages due those not delivered are marked, and no other message is
  pub record Marking (marks : List ℕ) (n j : ℕ) : Type 0 where
    pub low : j ≤ n
    pub all : n ≡ length (dues_of p t)
    pub long : length marks ≡ count p
    pub hit : (i : ℕ) → i < j → get_or status (get_or (dues_of p t) i 0) 0 ≢ 2 → get_or marks (get_or (dues_of p t) i 0) 0 ≡ 1
    pub miss : (m : ℕ) → m < count p → ((i : ℕ) → i < j → get_or (dues_of p t) i 0 ≡ m → get_or status m 0 ≡ 2) → get_or marks m 0 ≡ 0

  pub mark_start : (marks : List ℕ) (n : ℕ) → n ≡ length (dues_of p t) → marks ≡ replicate (count p) 0 → Marking marks n 0
  mark_start marks n all e =
      record {
        low = omega arith;
        all = all;
        long = ap length e ∙ length-replicate (count p) 0;
        hit = λ i l h. absurd (omega arith);
        miss = λ m l h. ap (λ (z : List ℕ). get_or z m 0) e ∙ get_or-replicate (count p) m 0 0 l;
      }

  module _ (marks : List ℕ) (n j : ℕ) (g : Marking marks n j) where
    module _ (l : j < n) (d : ℕ) (e : d ≡ get_or (dues_of p t) j 0) (there : d < count p) where
      -- a mark stays
      kept : (k : ℕ) → get_or marks k 0 ≡ 1 → get_or (set marks d 1) k 0 ≡ 1
      kept k h = go (ℕ_discrete k d)
        where
          go : Dec (k ≡ d) → get_or (set marks d 1) k 0 ≡ 1
          go (yes q) = ap (λ (i : ℕ). get_or (set marks d 1) i 0) q ∙ get_or-set_same marks d 1 0 (omega (arith, g.long))
          go (no q) = get_or-set_other marks d k 1 0 q ∙ h

      pub mark_hit : get_or status d 0 ≢ 2 → Marking (set marks d 1) n (j + 1)
      mark_hit h =
          record {
            low = omega arith;
            all = g.all;
            long = length-set marks d 1 ∙ g.long;
            hit = λ i k s. at_i i (eq-or-lt_of_le (under i k)) s;
            miss = λ m k w. get_or-set_other marks d m 1 0 (λ q. h (ap (λ (i : ℕ). get_or status i 0) (sym q) ∙ w j (omega arith) (sym e ∙ sym q)))
                ∙ g.miss m k (λ i v q. w i (omega arith) q);
          }
        where
          under : (i : ℕ) → i < j + 1 → i ≤ j
          under i k = omega arith

          at_i : (i : ℕ) → (i ≡ j) ⊎ (i < j) → get_or status (get_or (dues_of p t) i 0) 0 ≢ 2 → get_or (set marks d 1) (get_or (dues_of p t) i 0) 0 ≡ 1
          at_i i (inl q) s =
              ap (λ (k : ℕ). get_or (set marks d 1) k 0) (ap (λ (k : ℕ). get_or (dues_of p t) k 0) q ∙ sym e) ∙ get_or-set_same marks d 1 0 (omega (arith, g.long))
          at_i i (inr q) s = kept (get_or (dues_of p t) i 0) (g.hit i q s)

      pub mark_miss : get_or status d 0 ≡ 2 → Marking marks n (j + 1)
      mark_miss h =
          record {
            low = omega arith;
            all = g.all;
            long = g.long;
            hit = λ i k s. at_i i (eq-or-lt_of_le (under i k)) s;
            miss = λ m k w. g.miss m k (λ i v q. w i (omega arith) q);
          }
        where
          under : (i : ℕ) → i < j + 1 → i ≤ j
          under i k = omega arith

          at_i : (i : ℕ) → (i ≡ j) ⊎ (i < j) → get_or status (get_or (dues_of p t) i 0) 0 ≢ 2 → get_or marks (get_or (dues_of p t) i 0) 0 ≡ 1
          at_i i (inl q) s = absurd (s (ap (λ (k : ℕ). get_or status k 0) (ap (λ (k : ℕ). get_or (dues_of p t) k 0) q ∙ sym e) ∙ h))
          at_i i (inr q) s = g.hit i q s

      pub mark_next : (marks' : List ℕ) → ((get_or status d 0 ≢ 2) × (marks' ≡ set marks d 1)) ⊎ ((get_or status d 0 ≡ 2) × (marks' ≡ marks)) → Marking
          marks' n (j + 1)
      mark_next marks' (inl (h, q)) = rw q (mark_hit h)
      mark_next marks' (inr (h, q)) = rw q (mark_miss h)

    pub mark_done : n ≤ j → marks ≡ undelivered p status t
    mark_done k =
        ext_get_or 0 marks (undelivered p status t) (g.long ∙ sym (length_tabulate _ (count p)))
        (λ m l. let h : m < count p = omega (arith, g.long) in at_m m h (ℕ_discrete (taker_of p m) t) (ℕ_discrete (get_or status m 0) 2)
        ∙ sym (tabulate_at (λ m. one (eqb (taker_of p m) t and not (eqb (get_or status m 0) 2))) (count p) m h))
      where
        at_m : (m : ℕ) → m < count p → Dec (taker_of p m ≡ t) → Dec (get_or status m 0 ≡ 2)
            → get_or marks m 0 ≡ one (eqb (taker_of p m) t and not (eqb (get_or status m 0) 2))
        at_m m h e (yes s) = g.miss m h (λ i v q. s) ∙ sym (one_false (and_no _ _ (not-true (eq-eqb _ _ s))))
        at_m m h (no e) (no s) =
            g.miss m h (λ i v q. absurd (e (ap (taker_of p) (sym q) ∙ at_is (taker_of p) t (count p) i (omega (arith, g.all, g.low)))))
            ∙ sym (one_false (and_false _ _ (ne_eqb _ _ e)))
        at_m m h (yes e) (no s) =
            let is = those_at (taker_of p) t (count p) m h e in
            let low = those_lt (taker_of p) t (count p) m h e in
            subst (λ (a : ℕ). get_or marks a 0 ≡ 1) is
            (g.hit _ (omega (arith, g.all)) (λ q. s (ap (λ (a : ℕ). get_or status a 0) (sym is) ∙ q)))
            ∙ sym (one_true (and_true (eq-eqb _ _ e) (not-false (ne_eqb _ _ s))))

-- ---- what is told

module _ (p : Plan) (s : State) (b : ℕ) (lent : List ℕ) where
  -- as a refusal leaves it
  abbrev w : Waits
  w = waits_of lent 0

  pub none_left : length (tiles_of p b) ≤ finished_of s b → answer 13 w ≡ waited_or13 p s b lent
  unfolding tiles_left
  none_left h =
      answered_no 13 (waited p s b) w (λ q. omega arith)
      ∙ ap (λ (n : ℕ). answered n (waited p s b) w)
      (sym (first_true 13 (not (tiles_left p s b)) [] (not-false (le-ltb (finished_of s b) (length (tiles_of p b)) h))))

  some_left : finished_of s b < length (tiles_of p b) → first_of (line 13 (not (tiles_left p s b)) ∷ []) ≡ 0
  unfolding tiles_left first_of
  some_left h = first_false 13 (not (tiles_left p s b)) [] (not-true (lt-ltb (finished_of s b) (length (tiles_of p b)) h))

  -- the marks by the stage; the code has the tile as t
  marks_are : (t : ℕ) (marks : List ℕ) → t ≡ current_tile p s b
      → ((stage_of s b ≡ 0) × (marks ≡ undelivered p s.status t)) ⊎ ((stage_of s b ≢ 0) × (marks ≡ replicate (count p) 0))
      → marks ≡ tabulate (λ m. one (awaits p s b m)) (count p)
  unfolding awaits
  marks_are t marks e (inl (h, q)) =
      q ∙ tabulate_same _ _ (count p) (λ m l. ap (λ (i : ℕ). one (eqb (taker_of p m) i and not (eqb (get_or s.status m 0) 2))) e
      ∙ ap one (sym (and_left _ _ (eq-eqb _ _ h))))
  marks_are t marks e (inr (h, q)) =
      q ∙ ext_get_or 0 (replicate (count p) 0) (tabulate (λ m. one (awaits p s b m)) (count p))
      (length-replicate (count p) 0 ∙ sym (length_tabulate _ (count p)))
      (λ m l. let k : m < count p = omega (arith, length-replicate {A = ℕ} (count p) 0) in
      get_or-replicate (count p) m 0 0 k ∙ sym (tabulate_at (λ m. one (awaits p s b m)) (count p) m k ∙ one_false (and_false _ _ (ne_eqb _ _ h))))

  pub told : (t : ℕ) (marks : List ℕ) → finished_of s b < length (tiles_of p b) → t ≡ current_tile p s b
      → ((stage_of s b ≡ 0) × (marks ≡ undelivered p s.status t)) ⊎ ((stage_of s b ≢ 0) × (marks ≡ replicate (count p) 0))
      → answer 0 (waits_of marks t) ≡ waited_or13 p s b lent
  unfolding waited
  told t marks h e k =
      ap (λ (l : List ℕ). answer 0 (waits_of l t)) (marks_are t marks e k)
      ∙ ap (λ (i : ℕ). answer 0 (waits_of (tabulate (λ m. one (awaits p s b m)) (count p)) i)) e
      ∙ answered_yes _ (waited p s b) w (some_left h)

-- ---- lines 9 and 10

module _ (p : Plan) (s : State) (lent : List ℕ) where
  refused_9 : wait_areas p s lent ≡ false → 9 ≡ first_of (unasked_lines p s lent)
  refused_9 e = sym (first_true 9 _ _ (not-false e))

  pub no_records : length s.progress ≢ 3 * p.processors → 9 ≡ first_of (unasked_lines p s lent)
  unfolding wait_areas
  no_records h = refused_9 (and_false _ _ (ne_eqb _ _ h))

  pub no_status : length s.status ≢ count p → 9 ≡ first_of (unasked_lines p s lent)
  unfolding wait_areas
  no_status h = refused_9 (and_no _ _ (and_false _ _ (ne_eqb _ _ h)))

  pub no_marks : length lent ≢ count p → 9 ≡ first_of (unasked_lines p s lent)
  unfolding wait_areas
  no_marks h = refused_9 (and_no _ _ (and_no _ _ (ne_eqb _ _ h)))

  module _ (a : length s.progress ≡ 3 * p.processors) (b : length s.status ≡ count p) (c : length lent ≡ count p) where
    areas_fit : wait_areas p s lent ≡ true
    unfolding wait_areas
    areas_fit = and_true (eq-eqb _ _ a) (and_true (eq-eqb _ _ b) (eq-eqb _ _ c))

    pub unasked_10 : fit p s ≡ false → 10 ≡ first_of (unasked_lines p s lent)
    unasked_10 e = sym (first_false 9 _ _ (not-true areas_fit) ∙ first_true 10 _ _ (not-false e))

    pub unasked_0 : fit p s ≡ true → 0 ≡ first_of (unasked_lines p s lent)
    unfolding first_of
    unasked_0 e = sym (first_false 9 (not (wait_areas p s lent)) (line 10 (not (fit p s)) ∷ []) (not-true areas_fit) ∙ first_false 10 (not (fit p s)) []
        (not-true e))

  -- none of them holds
  module _ (r : ℕ) (e : r ≡ first_of (unasked_lines p s lent)) (z : r ≡ 0) where
    pub lines_none : (wait_areas p s lent ≡ true) × (fit p s ≡ true)
    lines_none =
        let a = none_first 9 (not (wait_areas p s lent)) (line 10 (not (fit p s)) ∷ []) (λ q. omega arith) (sym e ∙ z) in
        let b = none_first 10 (not (fit p s)) [] (λ q. omega arith) a.1 in
        (true_not a.0, true_not b.0)

    pub may_ask : (b : ℕ) → b < p.processors → MayAsk p s b lent
    unfolding wait_areas
    may_ask b h =
        let a = both lines_none.0 in
        let c = both a.1 in
        record {
          progress = eqb-true _ _ a.0;
          status = eqb-true _ _ c.0;
          long = eqb-true _ _ c.1;
          processor = h;
        }

-- as many of the records' words are lent as there are
pub part_long : (f : Flat) → length f.words ≡ 192 → f.count ≤ 192 → length (take (f.count - 0) (drop 0 f.words)) ≡ f.count
part_long f room few = sym (part_carries f room few).counted
