-- The customer's demand 3, for every sound plan, every source and every list of events.
use Prim.Native.Nat.{ℕ, ◌+◌, ◌-◌, ◌≤◌, ◌<◌}
use mathlib.Core.Path.{◌≡◌, refl, sym, ap, ◌∙◌}
use mathlib.Core.Bool.{Bool, true, false}
use mathlib.Core.List.{List, [], ◌∷◌}
use native.Mathlib.Omega.{arith}
use native.Mathlib.Decide.{dec_lt}
use lib.ListN.{length, get_or, take, drop, length-drop, drop_of_length-le}
use lib.Seq.{drop-cons, take_all}
use Rattle.base.specs.Tests.{sum}
use Rattle.base.specs.Lists.{count_if}
use Rattle.base.proofs.Tests.{sum_same, sum_most}
use Rattle.machine.specs.Plan.{Plan, Sound, count}
use Rattle.machine.specs.Machine.{Action, gather, next_action, sent_of, carry_out, collect, fresh}
use Rattle.machine.specs.Runs.{Event, turn_of, act, state_after, answers_to, total, program, turns_of, times_of, calculates, sends, takes}
use Rattle.machine.specs.Runs.{deliveries_of, Once, Collects, CarriedOut, last, answers, steps, Demand3}
use Rattle.machine.proofs.Records.{fit_is, fit_over}
use Rattle.machine.proofs.Turns.{by_next}
use Rattle.machine.proofs.Invariant.{pending}
use Rattle.machine.proofs.Kept.{Inv, left_of, status_of}
use Rattle.machine.proofs.Fresh.{inv_fresh, left_fresh, status_fresh}
use Rattle.machine.proofs.Going.{progress, going, all_delivered, all_finished, can_end, ends_right, none_more}
use Rattle.machine.proofs.Deeds.{rest_of, rest_fresh, rest_end, turn_takes}
use Rattle.machine.proofs.Counts.{count_take, calculated_once, calculated_never, sent_once, taken_once}
use Rattle.machine.proofs.Along.{run_inv, run_steps, run_takes, run_brings}

-- the first of what is left after k deeds is the k-th
next_at : (l r : List Action) (k : ℕ) (x : Action) → drop k l ≡ x ∷ r → (k < length l) × (get_or l k (gather 0) ≡ x)
next_at l r k x e = go (dec_lt k (length l))
  where
    go : Dec (k < length l) → (k < length l) × (get_or l k (gather 0) ≡ x)
    go (yes h) = (h, (let f = sym (drop-cons l k (gather 0) h) ∙ e in cc))
    go (no h) = let f : [] ≡ x ∷ r = sym (drop_of_length-le l {i = k} (omega arith)) ∙ e in absurd (let z : ◌≡◌ {A = ℕ} 0 1 = cc in omega arith)

none_after : (l : List Action) (k : ℕ) → drop k l ≡ [] → length l ≤ k
none_after l k e = let a : length l - k ≡ 0 = sym (length-drop k l) ∙ ap length e in omega arith

-- ---- the events es, and processor b
module _ (p : Plan) (so : Sound p) (source : List ℕ) (es : List Event) (b : ℕ) where
  abbrev turns : ℕ
  turns = turns_of b es (answers_to (act p source) (fresh p) es)

  within_es : turns ≤ length (program p b)
  within_es = rw (rest_fresh p b) at (run_takes p so source b es (fresh p) (inv_fresh p source)).0

  rest_es : rest_of p (state_after (act p source) (fresh p) es) b ≡ drop turns (program p b)
  rest_es = (run_takes p so source b es (fresh p) (inv_fresh p source)).1 ∙ ap (drop turns) (rest_fresh p b)

  -- a turn that gives 0 after them does the next of the program
  pub named_next : (act p source (state_after (act p source) (fresh p) es) (turn_of b)).number ≡ 0
      → (turns < length (program p b)) × (get_or (program p b) turns (gather 0) ≡ next_action p (state_after (act p source) (fresh p) es) b)
  unfolding act
  named_next z =
      next_at (program p b) _ turns _
      (sym rest_es ∙ turn_takes p (state_after (act p source) (fresh p) es) b source (run_inv p so source es (fresh p) (inv_fresh p source)).shape z)

  carried : (act p source (state_after (act p source) (fresh p) es) (turn_of b)).number ≡ 0
      → CarriedOut p source (state_after (act p source) (fresh p) es) (act p source (state_after (act p source) (fresh p) es) (turn_of b)).after b turns
  unfolding act
  carried z =
      record {
        named = (named_next z).0;
        by_rule =
            by_next p source (state_after (act p source) (fresh p) es) b z ∙ ap (carry_out p source (state_after (act p source) (fresh p) es) b)
            (sym (named_next z).1);
      }

module _ (p : Plan) (so : Sound p) (source : List ℕ) (events : List Event) where
  inv : Inv p source (last (act p source) (fresh p) events)
  inv = run_inv p so source events (fresh p) (inv_fresh p source)

  counted : steps (act p source) (fresh p) events + left_of p (last (act p source) (fresh p) events) ≡ total p
  counted = run_steps p so source events (fresh p) (inv_fresh p source) ∙ left_fresh p (λ m lo. omega (arith, so.forward m lo, so.taker_low m lo))

  -- deeds of a kind that the programs name k times, once or never
  module _ (f : Action → Bool) (k : ℕ) (named : sum (λ b. count_if f (program p b)) p.processors ≡ k) where
    at_most : times_of p events (answers (act p source) (fresh p) events) f ≤ k
    at_most =
        let a = sum_most (λ b. count_if f (take (turns_of b events (answers (act p source) (fresh p) events)) (program p b))) (λ b. count_if f (program p b))
        p.processors
        (λ b h. count_take f (turns_of b events (answers (act p source) (fresh p) events)) (program p b)) in
        omega arith

    exactly : left_of p (last (act p source) (fresh p) events) ≡ 0 → times_of p events (answers (act p source) (fresh p) events) f ≡ k
    exactly z =
        sum_same (λ b. count_if f (take (turns_of b events (answers (act p source) (fresh p) events)) (program p b))) (λ b. count_if f (program p b))
        p.processors
        (λ b h. ap (count_if f) (take_all (turns_of b events (answers (act p source) (fresh p) events)) (program p b)
        (none_after (program p b) _ (sym (rest_es p so source events b) ∙ empty b h))))
        ∙ named
      where
        empty : (b : ℕ) → b < p.processors → rest_of p (last (act p source) (fresh p) events) b ≡ []
        empty b h =
            let k = all_finished p so source (last (act p source) (fresh p) events) inv z b in
            rest_end p b _ _ _ k (fit_over p b _ _ (sent_of (last (act p source) (fresh p) events) b) k
            (sym (fit_is p (last (act p source) (fresh p) events) b) ∙ inv.shape.records b h))

  brought : (m : ℕ) → m < count p → deliveries_of m events (answers (act p source) (fresh p) events) + pending
      (status_of (last (act p source) (fresh p) events) m) ≡ 1
  brought m lo = run_brings p so source m lo events (fresh p) (inv_fresh p source) ∙ ap pending (status_fresh p m)

  none : steps (act p source) (fresh p) events ≡ total p → left_of p (last (act p source) (fresh p) events) ≡ 0
  none e = omega (arith, counted)

  never : (c : ℕ) → p.inside c ≡ false → times_of p events (answers (act p source) (fresh p) events) (calculates p c) ≡ 0
  never c o = let k = at_most (calculates p c) 0 (calculated_never p so c o) in omega arith

  calculated : (c : ℕ) → c < p.cells → (t : Bool) → p.inside c ≡ t
      → times_of p events (answers (act p source) (fresh p) events) (calculates p c) ≤ 1
  calculated c h true i = at_most (calculates p c) 1 (calculated_once p so c h i)
  calculated c h false o = omega (arith, never c o)

  abbrev all : Type 0
  all = steps (act p source) (fresh p) events ≡ total p

  once : Once p events (answers (act p source) (fresh p) events)
  once =
      record {
        bound = omega (arith, counted);
        calculated = λ c h. calculated c h (p.inside c) refl;
        not_calculated = λ c h o. never c o;
        sent = λ m h. at_most (sends m) 1 (sent_once p so m h);
        delivered = λ m h. omega (arith, brought m h);
        taken = λ m h. at_most (takes p m) 1 (taken_once p so m h);
        all_calculated = λ e c h i. exactly (calculates p c) 1 (calculated_once p so c h i) (none e);
        all_sent = λ e m h. exactly (sends m) 1 (sent_once p so m h) (none e);
        all_delivered = λ e m h. let k = all_delivered p so source (last (act p source) (fresh p) events) inv (none e) m h in omega (arith, brought m h);
        all_taken = λ e m h. exactly (takes p m) 1 (taken_once p so m h) (none e);
        no_more = λ b. within_es p so source events b;
      }

  collecting : Collects p source all (collect p (last (act p source) (fresh p) events))
  collecting =
      record {
        can_collect = λ e grid len. can_end p so source (last (act p source) (fresh p) events) inv (none e) grid;
        then_all = λ grid len z. let k = none_more p so source (last (act p source) (fresh p) events) inv grid z in omega (arith, counted);
        grid = λ e old len. ends_right p so source (last (act p source) (fresh p) events) inv (none e) old;
      }

  demand3 : Demand3 (act p source) (fresh p) events p source (collect p)
  demand3 =
      record {
        once = once;
        goes_on = λ h. progress p so source (last (act p source) (fresh p) events) inv (omega (arith, counted));
        then_fewer = λ e z. let k = going p so source (last (act p source) (fresh p) events) inv e z in omega (arith, counted);
        collecting = collecting;
        carried_out = λ before after b e z. carried p so source before b z;
      }

pub theorem : (p : Plan) → Sound p → (source : List ℕ) (events : List Event) → Demand3 (act p source) (fresh p) events p source (collect p)
theorem p so source events = demand3 p so source events
