-- Laws of answers, and of the machine's turn by the stage.
use Rattle.std.specs.Prelude.{◌≡◌, ℕ, zero, suc, ◌<◌, ◌≤◌, Bool, true, false, eqb, ltb, ◌≢◌, List, [], ◌∷◌, length, get_or}
use mathlib.Core.Path.{refl, sym, ap, ◌∙◌}
use native.Mathlib.Omega.{arith}
use native.Mathlib.Decide.{ℕ_discrete}
use borrow.Author.Tests.{eq-eqb, ne_eqb, lt-ltb, le-ltb, ltb-true}
use Rattle.base.specs.Tests.{◌and◌, not, pick}
use Rattle.base.specs.Lists.{all_at}
use Rattle.base.specs.Numbers.{line, first_of}
use Rattle.base.proofs.Tests.{both, and_true, and_false, and_no, not-true, not-false, pick_true, pick_false, every_at}
use Rattle.base.proofs.Numbers.{first_true, first_false}
use Rattle.machine.specs.Plan.{Plan, tiles_of, sends_of, dues_of}
use Rattle.machine.specs.Machine.{State, finished_of, stage_of, sent_of, tiles_left, current_tile, fit_record, fit, gather, calculate, send, carry_out}
use Rattle.machine.specs.Machine.{action_at, next_action, answered, waiting, turn_lines, turn}
use Rattle.engine.specs.Calls.{answer}

-- ---- fit records

module _ (p : Plan) (s : State) (b : ℕ) (e : fit p s ≡ true) (l : b < p.processors) (f : finished_of s b < length (tiles_of p b)) where
  -- in stage 2 a message of the tile is left
  pub fit_sent : stage_of s b ≢ 0 → stage_of s b ≢ 1 → sent_of s b < length (sends_of p (current_tile p s b))
  unfolding fit fit_record tiles_left
  fit_sent h i =
      let r : fit_record p s b ≡ true = every_at (fit_record p s) p.processors (both e).0 b l in
      go (ℕ_discrete (stage_of s b) 2) (sym (pick_true _ _ _ (lt-ltb (finished_of s b) (length (tiles_of p b)) f)) ∙ r)
    where
      sends : Bool
      sends = ltb (sent_of s b) (length (sends_of p (current_tile p s b)))

      go : Dec (stage_of s b ≡ 2) → pick (eqb (stage_of s b) 2) sends (ltb (stage_of s b) 2 and eqb (sent_of s b) 0) ≡ true → sent_of s b < length
          (sends_of p (current_tile p s b))
      go (yes q) r = ltb-true _ _ (sym (pick_true _ _ _ (eq-eqb _ _ q)) ∙ r)
      go (no q) r = absurd (low (ltb-true _ _ (both (sym (pick_false _ _ _ (ne_eqb _ _ q)) ∙ r)).0))
        where
          low : stage_of s b < 2 → ⊥
          low m = omega arith

-- ---- answers

module _ {A : Type 0} (n : ℕ) (new old : A) where
  pub answered_no : n ≢ 0 → answer n old ≡ answered n new old
  unfolding pick
  answered_no h = rw (ne_eqb n 0 h)

  pub answered_yes : n ≡ 0 → answer 0 new ≡ answered n new old
  unfolding pick
  answered_yes h = rw h

-- ---- the turn of the machine, by the stage

module _ (p : Plan) (source : List ℕ) (s : State) (b : ℕ) (e : fit p s ≡ true) (l : b < p.processors) where
  lines_are : first_of (turn_lines p s b) ≡ first_of (line 12 (waiting p s b) ∷ line 13 (not (tiles_left p s b)) ∷ [])
  lines_are = first_false 10 _ _ (not-true e) ∙ first_false 11 _ _ (not-true (lt-ltb b p.processors l))

  no_line : (n : ℕ) → first_of (turn_lines p s b) ≡ n → n ≢ 0 → answer n s ≡ turn p source s b
  unfolding turn
  no_line n h k = sym (rw h (sym (answered_no n (carry_out p source s b (next_action p s b)) s k)))

  pub step_over : length (tiles_of p b) ≤ finished_of s b → answer 13 s ≡ turn p source s b
  unfolding tiles_left waiting
  step_over h =
      let z : tiles_left p s b ≡ false = le-ltb (finished_of s b) (length (tiles_of p b)) h in
      no_line 13 (lines_are ∙ first_false 12 _ _ (and_false _ _ z) ∙ first_true 13 _ _ (not-false z)) (λ q. omega arith)

  module _ (f : finished_of s b < length (tiles_of p b)) (t : ℕ) (i : t ≡ current_tile p s b) where
    left : tiles_left p s b ≡ true
    unfolding tiles_left
    left = lt-ltb (finished_of s b) (length (tiles_of p b)) f

    pub step_waits : (ready : Bool) → stage_of s b ≡ 0 → ready ≡ all_at s.status 2 (dues_of p t) → ready ≡ false → answer 12 s ≡ turn p source s b
    unfolding waiting
    step_waits ready g r z =
        no_line 12
        (lines_are
        ∙ first_true 12 _ _
        (and_true left
        (and_true (eq-eqb _ _ g) (not-false (ap (λ (k : ℕ). all_at s.status 2 (dues_of p k)) (sym i) ∙ sym r ∙ z))))) (λ q. omega arith)

    none : waiting p s b ≡ false → first_of (turn_lines p s b) ≡ 0
    unfolding first_of
    none w = lines_are ∙ first_false 12 (waiting p s b) (line 13 (not (tiles_left p s b)) ∷ []) w ∙ first_false 13 (not (tiles_left p s b)) [] (not-true left)

    goes : waiting p s b ≡ false → (s' : State) → s' ≡ carry_out p source s b (next_action p s b) → answer 0 s' ≡ turn p source s b
    unfolding turn
    goes w s' q =
        ap (answer 0) q ∙ answered_yes (first_of (turn_lines p s b)) (carry_out p source s b (next_action p s b)) s (none w)

    past : stage_of s b ≢ 0 → waiting p s b ≡ false
    unfolding waiting
    past g = and_no _ _ (and_false _ _ (ne_eqb _ _ g))

    pub step_gathers : (ready : Bool) (s' : State) → stage_of s b ≡ 0 → ready ≡ all_at s.status 2 (dues_of p t) → ready ≡ true
        → s' ≡ carry_out p [] s b (gather t) → answer 0 s' ≡ turn p source s b
    unfolding waiting carry_out action_at
    step_gathers ready s' g r z q =
        goes
        (and_no _ _ (and_no _ _ (not-true (ap (λ (k : ℕ). all_at s.status 2 (dues_of p k)) (sym i) ∙ sym r ∙ z)))) s'
        (q ∙ same ∙ ap (λ (k : ℕ). carry_out p source s b (action_at p k (current_tile p s b) (sent_of s b))) (sym g))
      where
        same : carry_out p [] s b (gather t) ≡ carry_out p source s b (gather (current_tile p s b))
        same = ap (λ (k : ℕ). carry_out p source s b (gather k)) i

    pub step_calculates : (s' : State) → stage_of s b ≡ 1 → s' ≡ carry_out p source s b (calculate t) → answer 0 s' ≡ turn p source s b
    unfolding action_at
    step_calculates s' g q =
        goes (past (λ y. absurd (omega arith))) s'
        (q ∙ ap (λ (u : ℕ). carry_out p source s b (calculate u)) i
        ∙ ap (λ (u : ℕ). carry_out p source s b (action_at p u (current_tile p s b) (sent_of s b))) (sym g))

    sends : (g : ℕ) → g ≢ 0 → g ≢ 1 → send (get_or (sends_of p t) (sent_of s b) 0) ≡ action_at p g t (sent_of s b)
    unfolding action_at
    sends zero h k = absurd (h refl)
    sends (suc zero) h k = absurd (k refl)
    sends (suc (suc g)) h k = refl

    pub step_sends : (s' : State) → stage_of s b ≢ 0 → stage_of s b ≢ 1
        → s' ≡ carry_out p [] s b (send (get_or (sends_of p t) (sent_of s b) 0)) → answer 0 s' ≡ turn p source s b
    unfolding carry_out
    step_sends s' g h q =
        goes (past g) s'
        (q ∙ same ∙ ap (carry_out p source s b) (sends (stage_of s b) g h) ∙ ap (λ (k : ℕ). carry_out p source s b (action_at p (stage_of s b) k (sent_of s b))) i)
      where
        same : carry_out p [] s b (send (get_or (sends_of p t) (sent_of s b) 0)) ≡ carry_out p source s b (send (get_or (sends_of p t) (sent_of s b) 0))
        same = refl
