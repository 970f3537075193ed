-- After every list of events a message's mark tells what was done of it: by what is left of the programs, action by action.
use Prim.Native.Nat.{ℕ, zero, suc, ◌+◌, ◌≤◌, ◌<◌}
use mathlib.Core.Path.{◌≡◌, refl, sym, ap, ◌∙◌}
use mathlib.Core.Logic.{◌⊎◌, inl, inr}
use mathlib.Core.Bool.{Bool, true, false}
use mathlib.Core.List.{List, [], ◌∷◌}
use native.Mathlib.Nat.{le_of_suc-le-suc}
use native.Mathlib.Omega.{arith}
use native.Mathlib.Decide.{ℕ_discrete, dec_lt}
use lib.ListN.{length, get_or, take, drop, set, take-append-drop}
use lib.Seq.{get_or-set_same, get_or-set_other}
use lib.Dec.{ltb}
use borrow.Author.Tests.{eqb-true, eq-eqb, ne_eqb, lt-ltb, le-ltb}
use Rattle.base.specs.Tests.{one, sum}
use Rattle.base.specs.Lists.{In, count_if}
use Rattle.base.proofs.Tests.{one_true, one_false, never_both, sum_same, sum_less, sum_add, sum_pos, sum_zero}
use Rattle.base.proofs.Lists.{count_append, set_all_same, set_all_other}
use Rattle.base.proofs.Select.{those_in, in_those}
use Rattle.machine.specs.Plan.{Plan, Sound, count, taker_of, dues_of}
use Rattle.machine.specs.Machine.{State, Answered, Action, gather, calculate, send, current_tile, next_action, carry_out, turn, deliver, fresh}
use Rattle.machine.specs.Runs.{Event, turn_of, delivery_of, act, state_after, answers_to, program, turns_of, times_of, deliveries_of, sends, takes}
use Rattle.machine.specs.StatusTells.{Among, Standing, Tells, StatusTells}
use Rattle.machine.proofs.Turns.{Turned, turned, can, next_zero, next_one, next_two}
use Rattle.machine.proofs.Invariant.{pending}
use Rattle.machine.proofs.Kept.{Inv, Kept, status_of, next_send, unsent}
use Rattle.machine.proofs.Events.{Brought, Refused, turn_keeps, deliver_keeps}
use Rattle.machine.proofs.Fresh.{inv_fresh, status_fresh}
use Rattle.machine.proofs.Deeds.{rest_of, rest_fresh, turn_takes, turn_leaves, delivery_leaves}
use Rattle.machine.proofs.Counts.{sent_once, taken_once}
use Rattle.machine.proofs.Along.{next_inv, run_inv, run_takes, run_brings}
use Rattle.machine.proofs.RunLaws.{Passed, ends, turns_same, brings_same}

-- ---- places of a list that pass a test
module _ {A : Type 0} (f : A → Bool) (d : A) where
  pub some_place : (l : List A) (k : ℕ) → 0 < count_if f (take k l) → (i : ℕ) × (i < length l) × (i < k) × (f (get_or l i d) ≡ true)
  unfolding count_if
  some_place l zero h = absurd (omega arith)
  some_place [] (suc k) h = absurd (omega arith)
  some_place (x ∷ l) (suc k) h = go (f x) refl (some_place l k)
    where
      go : (t : Bool) → f x ≡ t → (0 < count_if f (take k l) → (i : ℕ) × (i < length l) × (i < k) × (f (get_or l i d) ≡ true))
          → (i : ℕ) × (i < length (x ∷ l)) × (i < suc k) × (f (get_or (x ∷ l) i d) ≡ true)
      go true e ih = (0, omega arith, omega arith, e)
      go false e ih =
          let z = one_false e in
          let r = ih (omega (arith, h)) in
          (suc r.0, omega (arith, r.1), omega (arith, r.2), r.3)

  pub place_counts : (l : List A) (k i : ℕ) → i < length l → i < k → f (get_or l i d) ≡ true → 0 < count_if f (take k l)
  unfolding count_if
  place_counts [] k i h q e = absurd (omega arith)
  place_counts (x ∷ l) zero i h q e = absurd (omega arith)
  place_counts (x ∷ l) (suc k) zero h q e = let z = one_true e in omega arith
  place_counts (x ∷ l) (suc k) (suc i) h q e =
      let r = place_counts l k i (le_of_suc-le-suc h) (le_of_suc-le-suc q) e in
      omega arith

  pub count_parts : (k : ℕ) (l : List A) → count_if f (take k l) + count_if f (drop k l) ≡ count_if f l
  count_parts k l = sym (count_append f (take k l) (drop k l)) ∙ ap (count_if f) (take-append-drop k l)

-- ---- how often an action of a kind is left, over all processors
module _ (p : Plan) (f : Action → Bool) where
  abbrev left_times : State → ℕ
  left_times s = sum (λ b. count_if f (rest_of p s b)) p.processors

  -- a turn that gives 0 takes its action off
  turn_off : (source : List ℕ) (s : State) → Inv p source s → (b : ℕ) → (turn p source s b).number ≡ 0
      → left_times s ≡ one (f (next_action p s b)) + left_times (turn p source s b).after
  unfolding count_if
  turn_off source s inv b z = go _ refl
    where
      s' : State
      s' = (turn p source s b).after

      own : count_if f (rest_of p s b) ≡ one (f (next_action p s b)) + count_if f (rest_of p (turn p source s b).after b)
      own = ap (count_if f) (turn_takes p s b source inv.shape z)

      away : (c : ℕ) → (c ≡ b → ⊥) → count_if f (rest_of p (turn p source s b).after c) ≡ count_if f (rest_of p s c)
      away c n = ap (count_if f) (turn_leaves p s b source c n)

      go : (t : Bool) → f (next_action p s b) ≡ t → left_times s ≡ one (f (next_action p s b)) + left_times (turn p source s b).after
      go true e =
          let k = one_true e in
          let a = sum_less (λ c. count_if f (rest_of p s c)) (λ c. count_if f (rest_of p (turn p source s b).after c)) p.processors b
          (can p source s b z).low (λ c h n. away c n) (omega (arith, own)) in
          omega arith
      go false e =
          let k = one_false e in
          let a = sum_same (λ c. count_if f (rest_of p s c)) (λ c. count_if f (rest_of p (turn p source s b).after c)) p.processors
          (λ c h. each c (ℕ_discrete c b)) in
          omega arith
        where
          each : (c : ℕ) → Dec (c ≡ b) → count_if f (rest_of p s c) ≡ count_if f (rest_of p (turn p source s b).after c)
          each c (yes q) = rw q (let k = one_false e in omega (arith, own))
          each c (no n) = sym (away c n)

-- ---- what an action does to one message's mark: t, u: whether it takes, or sends, this message
data MarkStep (t u : Bool) (old new : ℕ) : Type 0 where
  kept : t ≡ false → u ≡ false → new ≡ old → MarkStep t u old new
  took : t ≡ true → u ≡ false → old ≡ 2 → new ≡ 3 → MarkStep t u old new
  sent : t ≡ false → u ≡ true → old ≡ 0 → new ≡ 1 → MarkStep t u old new

module _ (t u : Bool) (old new : ℕ) where
  taking : MarkStep t u old new → one (ltb 2 new) ≡ one t + one (ltb 2 old)
  unfolding one
  taking (MarkStep.kept a b e) = rw (a, e) (omega arith)
  taking (MarkStep.took a b e k) = rw (a, e, k) refl
  taking (MarkStep.sent a b e k) = rw (a, e, k) refl

  sending : MarkStep t u old new → one (ltb 0 new) ≡ one u + one (ltb 0 old)
  unfolding one
  sending (MarkStep.kept a b e) = rw (b, e) (omega arith)
  sending (MarkStep.took a b e k) = rw (b, e, k) refl
  sending (MarkStep.sent a b e k) = rw (b, e, k) refl

-- a delivery passes neither
delivering : (old new : ℕ) → (new ≡ old) ⊎ ((old ≡ 1) × (new ≡ 2)) → (one (ltb 2 new) ≡ one (ltb 2 old)) × (one (ltb 0 new) ≡ one (ltb 0 old))
unfolding one
delivering old new (inl e) = rw e (refl, refl)
delivering old new (inr e) = rw (e.0, e.1) (refl, refl)

-- the four marks against three counts, each 1 where the mark is past a number
standing : (mark s d t : ℕ) → mark ≤ 3 → s ≡ one (ltb 0 mark) → d + pending mark ≡ 1 → t ≡ one (ltb 2 mark) → Standing mark s d t
unfolding one
standing zero s d t h a b c = let k : d ≡ 0 = omega arith in rw (a, k, c) Standing.unsent
standing (suc zero) s d t h a b c = let k : d ≡ 0 = omega arith in rw (a, k, c) Standing.in_flight
standing (suc (suc zero)) s d t h a b c = let k : d ≡ 1 = omega arith in rw (a, k, c) Standing.delivered
standing (suc (suc (suc zero))) s d t h a b c = let k : d ≡ 1 = omega arith in rw (a, k, c) Standing.taken
standing (suc (suc (suc (suc k)))) s d t h a b c = absurd (omega arith)

takes_is : (p : Plan) (m : ℕ) (a : Action) → takes p m a ≡ true → a ≡ gather (taker_of p m)
unfolding takes
takes_is p m (gather t) e = ap gather (sym (eqb-true _ _ e))
takes_is p m (calculate t) e = absurd (never_both e refl)
takes_is p m (send k) e = absurd (never_both e refl)

is_takes : (p : Plan) (m : ℕ) → takes p m (gather (taker_of p m)) ≡ true
unfolding takes
is_takes p m = eq-eqb (taker_of p m) (taker_of p m) refl

sends_is : (m : ℕ) (a : Action) → sends m a ≡ true → a ≡ send m
unfolding sends
sends_is m (gather t) e = absurd (never_both e refl)
sends_is m (calculate t) e = absurd (never_both e refl)
sends_is m (send k) e = ap send (eqb-true k m e)

is_sends : (m : ℕ) → sends m (send m) ≡ true
unfolding sends
is_sends m = eq-eqb m m refl

-- ---- message m along a run
module _ (p : Plan) (so : Sound p) (source : List ℕ) (m : ℕ) (lo : m < count p) where
  module _ (s : State) (inv : Inv p source s) where
    by_gather : (b t : ℕ) → ((n : ℕ) → In n (dues_of p t) → status_of s n ≡ 2)
        → MarkStep (takes p m (gather t)) (sends m (gather t)) (status_of s m) (status_of (carry_out p source s b (gather t)) m)
    unfolding carry_out takes sends
    by_gather b t ready = go (ℕ_discrete (taker_of p m) t)
      where
        go : Dec (taker_of p m ≡ t)
            → MarkStep (takes p m (gather t)) (sends m (gather t)) (status_of s m) (status_of (carry_out p source s b (gather t)) m)
        go (yes e) =
            let i = in_those (taker_of p) t (count p) m lo e in
            MarkStep.took (eq-eqb _ _ e) refl (ready m i) (set_all_same (dues_of p t) s.status 3 m (rw inv.shape.status lo) i)
        go (no n) =
            MarkStep.kept (ne_eqb _ _ n) refl
            (set_all_other (dues_of p t) s.status 3 m (λ i. n (those_in (taker_of p) t (count p) m i).1))

    by_calculate : (b t : ℕ)
        → MarkStep (takes p m (calculate t)) (sends m (calculate t)) (status_of s m) (status_of (carry_out p source s b (calculate t)) m)
    unfolding carry_out takes sends
    by_calculate b t = MarkStep.kept refl refl refl

    by_send : (b k : ℕ) → status_of s k ≡ 0
        → MarkStep (takes p m (send k)) (sends m (send k)) (status_of s m) (status_of (carry_out p source s b (send k)) m)
    unfolding carry_out takes sends
    by_send b k none = go (ℕ_discrete k m)
      where
        go : Dec (k ≡ m) → MarkStep (takes p m (send k)) (sends m (send k)) (status_of s m) (status_of (carry_out p source s b (send k)) m)
        go (yes e) =
            MarkStep.sent refl (eq-eqb k m e) (ap (status_of s) (sym e) ∙ none)
            (ap (λ (x : ℕ). get_or (set s.status x 1) m 0) e ∙ get_or-set_same s.status m 1 0 (rw inv.shape.status lo))
        go (no n) = MarkStep.kept refl (ne_eqb k m n) (get_or-set_other s.status k m 1 0 (λ e. n (sym e)))

    by_turn : (b : ℕ) (a : Answered State) → Turned p source s b a → a.number ≡ 0
        → MarkStep (takes p m (next_action p s b)) (sends m (next_action p s b)) (status_of s m) (status_of a.after m)
    by_turn b a (Turned.unfit h) z = absurd (omega arith)
    by_turn b a (Turned.no_such h) z = absurd (omega arith)
    by_turn b a (Turned.waits n low h g i k) z = absurd (omega arith)
    by_turn b a (Turned.over h) z = absurd (omega arith)
    by_turn b a (Turned.gathers low h g f) z = rw (next_zero p _ _ _ g) (by_gather b (current_tile p s b) f)
    by_turn b a (Turned.calculates low h g) z = rw (next_one p _ _ _ g) (by_calculate b (current_tile p s b))
    by_turn b a (Turned.sends low h g) z =
        rw (next_two p _ (current_tile p s b) _ g) (by_send b (next_send p s b) (unsent p s b low inv.shape h g inv.statuses))

  -- what is left and what is past the mark j are together 1
  abbrev Balanced : (Action → Bool) → ℕ → State → Type 0
  Balanced f j s = left_times p f s + one (ltb j (status_of s m)) ≡ 1

  -- an event keeps it, for the two pairs of f and j
  pub record Both (s : State) : Type 0 where
    pub taken : Balanced (takes p m) 2 s
    pub sent : Balanced (sends m) 0 s

  both_turn : (s : State) → Inv p source s → (b : ℕ) → (turn p source s b).number ≡ 0 → Both s → Both (turn p source s b).after
  both_turn s inv b z q =
      let k = by_turn s inv b _ (turned p source s b) z in
      record {
        taken = omega (arith, q.taken, taking _ _ _ _ k, turn_off p (takes p m) source s inv b z);
        sent = omega (arith, q.sent, sending _ _ _ _ k, turn_off p (sends m) source s inv b z);
      }

  both_delivery : (s : State) → Inv p source s → (k : ℕ) → Both s → Both (deliver p s k).after
  both_delivery s inv k q = go (deliver_keeps p so source s inv k)
    where
      mark : Brought p source s (deliver p s k).after k → Dec (m ≡ k)
          → (status_of (deliver p s k).after m ≡ status_of s m) ⊎ ((status_of s m ≡ 1) × (status_of (deliver p s k).after m ≡ 2))
      mark r (yes e) = inr (rw e (r.was, r.now))
      mark r (no n) = inl (r.others m n)

      same : (f : Action → Bool) → left_times p f (deliver p s k).after ≡ left_times p f s
      same f = sum_same _ _ p.processors (λ b h. ap (count_if f) (delivery_leaves p s k b))

      go : (((deliver p s k).number ≡ 0) × Brought p source s (deliver p s k).after k) ⊎ Refused s (deliver p s k) → Both (deliver p s k).after
      go (inl r) =
          let d = delivering _ _ (mark r.1 (ℕ_discrete m k)) in
          record {
            taken = omega (arith, q.taken, d.0, same (takes p m));
            sent = omega (arith, q.sent, d.1, same (sends m));
          }
      go (inr r) = rw r.1 q

  both_next : (s : State) → Inv p source s → (e : Event) → Both s → Both (act p source s e).after
  unfolding act
  both_next s inv (turn_of b) q = go (turn_keeps p so source s inv b)
    where
      go : (((turn p source s b).number ≡ 0) × Kept p source s (turn p source s b).after) ⊎ Refused s (turn p source s b)
          → Both (turn p source s b).after
      go (inl r) = both_turn s inv b r.0 q
      go (inr r) = rw r.1 q
  both_next s inv (delivery_of k) q = both_delivery s inv k q

  both_run : (es : List Event) (s : State) → Inv p source s → Both s → Both (state_after (act p source) s es)
  unfolding state_after
  both_run [] s inv q = q
  both_run (e ∷ es) s inv q = both_run es _ (next_inv p so source s inv e) (both_next s inv e q)

  left_whole : (f : Action → Bool) → left_times p f (fresh p) ≡ sum (λ b. count_if f (program p b)) p.processors
  left_whole f = sum_same _ _ p.processors (λ b h. ap (count_if f) (rest_fresh p b))

  both_fresh : Both (fresh p)
  both_fresh =
      record {
        taken = omega (arith, left_whole (takes p m), taken_once p so m lo, one_false (le-ltb 2 (status_of (fresh p) m) (omega (arith, status_fresh p m))));
        sent = omega (arith, left_whole (sends m), sent_once p so m lo, one_false (le-ltb 0 (status_of (fresh p) m) (omega (arith, status_fresh p m))));
      }

  -- ---- after the events es
  module _ (es : List Event) where
    abbrev ended : State
    ended = state_after (act p source) (fresh p) es

    abbrev xs : List ℕ
    xs = answers_to (act p source) (fresh p) es

    inv : Inv p source ended
    inv = run_inv p so source es (fresh p) (inv_fresh p source)

    both : Both ended
    both = both_run es (fresh p) (inv_fresh p source) both_fresh

    -- what was done and what is left are the programs
    done_left : (f : Action → Bool) → times_of p es xs f + left_times p f ended ≡ sum (λ b. count_if f (program p b)) p.processors
    done_left f =
        sym (sum_add (λ b. count_if f (take (turns_of b es xs) (program p b))) (λ b. count_if f (rest_of p ended b)) p.processors)
        ∙ sum_same _ _ p.processors
        (λ b h. ap (λ (l : List Action). count_if f (take (turns_of b es xs) (program p b)) + count_if f l) (rest_is b)
        ∙ count_parts f (gather 0) (turns_of b es xs) (program p b))
      where
        rest_is : (b : ℕ) → rest_of p ended b ≡ drop (turns_of b es xs) (program p b)
        rest_is b = (run_takes p so source b es (fresh p) (inv_fresh p source)).1 ∙ ap (drop (turns_of b es xs)) (rest_fresh p b)

    times_taken : times_of p es xs (takes p m) ≡ one (ltb 2 (status_of ended m))
    times_taken = omega (arith, done_left (takes p m), taken_once p so m lo, both.taken)

    times_sent : times_of p es xs (sends m) ≡ one (ltb 0 (status_of ended m))
    times_sent = omega (arith, done_left (sends m), sent_once p so m lo, both.sent)

    brought : deliveries_of m es xs + pending (status_of ended m) ≡ 1
    brought = run_brings p so source m lo es (fresh p) (inv_fresh p source) ∙ ap pending (status_fresh p m)

    -- counted, and among the steps
    among : (f : Action → Bool) (a : Action) → ((x : Action) → f x ≡ true → x ≡ a) → 0 < times_of p es xs f → Among p es xs a
    among f a is h =
        let r = sum_pos (λ b. count_if f (take (turns_of b es xs) (program p b))) p.processors h in
        let k = some_place f (gather 0) (program p r.0) (turns_of r.0 es xs) r.2 in
        record { processor = r.0; low = r.1; index = k.0; within = k.1; named = is _ k.3; done = k.2 }

    counted : (f : Action → Bool) (a : Action) → f a ≡ true → Among p es xs a → 0 < times_of p es xs f
    counted f a t c = go (ℕ_discrete (times_of p es xs f) 0)
      where
        at : 0 < count_if f (take (turns_of c.processor es xs) (program p c.processor))
        at = place_counts f (gather 0) _ _ c.index c.within c.done (ap f c.named ∙ t)

        go : Dec (times_of p es xs f ≡ 0) → 0 < times_of p es xs f
        go (yes e) =
            absurd (omega (arith, at, sum_zero (λ b. count_if f (take (turns_of b es xs) (program p b))) p.processors e c.processor c.low))
        go (no n) = omega arith

    past : (j : ℕ) → 0 < one (ltb j (status_of ended m)) → j < status_of ended m
    past j h = go (dec_lt j (status_of ended m))
      where
        go : Dec (j < status_of ended m) → j < status_of ended m
        go (yes k) = k
        go (no k) = absurd (omega (arith, one_false (le-ltb j (status_of ended m) (omega arith))))

    tells : Tells p es xs m (status_of ended m)
    tells =
        record {
          counts = standing (status_of ended m) _ _ _ (inv.statuses.high m lo) times_sent brought times_taken;
          sent = λ h. among (sends m) (send m) (sends_is m) (omega (arith, times_sent, one_true (lt-ltb 0 (status_of ended m) h)));
          then_sent = λ c. past 0 (omega (arith, times_sent, counted (sends m) (send m) (is_sends m) c));
          taken = λ e.
              among (takes p m) (gather (taker_of p m)) (takes_is p m)
              (omega (arith, times_taken, one_true (lt-ltb 2 (status_of ended m) (omega arith))));
          then_taken = λ c.
              let k = past 2 (omega (arith, times_taken, counted (takes p m) (gather (taker_of p m)) (is_takes p m) c)) in
              omega (arith, inv.statuses.high m lo);
        }

pub marks : (p : Plan) → Sound p → (source : List ℕ) (events : List Event)
    → StatusTells p (state_after (act p source) (fresh p) events) events (answers_to (act p source) (fresh p) events)
marks p so source events = record { each = λ m lo. tells p so source m lo events }

-- ---- any events and numbers of which those that gave 0 are a run of the machine: of calls that may refuse more, or of one of two tenants
module _ (p : Plan) (so : Sound p) (source : List ℕ) {es ps : List Event} {xs : List ℕ} {s : State}
    (m : Passed (act p source) (fresh p) es xs ps s) where
  abbrev ys : List ℕ
  ys = answers_to (act p source) (fresh p) ps

  same_times : (f : Action → Bool) → times_of p es xs f ≡ times_of p ps ys f
  same_times f = sum_same _ _ p.processors (λ b h. ap (λ (k : ℕ). count_if f (take k (program p b))) (turns_same (act p source) b m))

  there : (a : Action) → Among p es xs a → Among p ps ys a
  there a c =
      record {
        processor = c.processor;
        low = c.low;
        index = c.index;
        within = c.within;
        named = c.named;
        done = omega (arith, turns_same (act p source) c.processor m, c.done);
      }

  back : (a : Action) → Among p ps ys a → Among p es xs a
  back a c =
      record {
        processor = c.processor;
        low = c.low;
        index = c.index;
        within = c.within;
        named = c.named;
        done = omega (arith, turns_same (act p source) c.processor m, c.done);
      }

  pub marks_passed : StatusTells p s es xs
  marks_passed =
      record {
        each = λ k lo.
            let t : Tells p ps ys k (status_of s k) = rw (ends (act p source) m) at ((marks p so source ps).each k lo) in
            record {
              counts = rw (same_times (sends k), brings_same (act p source) k m, same_times (takes p k)) t.counts;
              sent = λ h. back _ (t.sent h);
              then_sent = λ c. t.then_sent (there _ c);
              taken = λ h. back _ (t.taken h);
              then_taken = λ c. t.then_taken (there _ c);
            };
      }
