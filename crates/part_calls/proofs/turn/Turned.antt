-- The turn on a part by the line that counts: each way in which the machine's turn ends on the areas that have the part.
use Rattle.std.specs.Prelude.{◌≡◌, ℕ, ◌<◌, ◌≤◌, Bool, true, false, eqb, ltb, ◌≢◌, List, [], ◌∷◌, ◌++◌, length, get_or, take, Ok, Err}
use mathlib.Core.Path.{refl, sym, ap, ◌∙◌}
use native.Mathlib.Omega.{arith}
use lib.Seq.{length-take-le}
use borrow.Author.Tests.{eq-eqb, ne_eqb}
use Rattle.base.specs.Tests.{◌and◌, not}
use Rattle.base.specs.Lists.{all_at, pack}
use Rattle.base.specs.declared.refusal.Refusal.{Refusal}
use Rattle.base.specs.Numbers.{Line, line, first_of}
use Rattle.base.specs.Refusals.{code}
use Rattle.base.proofs.Tests.{and_left, and_false, not-true, not-false, pick_true}
use Rattle.base.proofs.Select.{at_is}
use Rattle.base.proofs.Numbers.{first_true, first_false, first_some}
use Rattle.machine.specs.Plan.{Plan, count, tiles_of, sends_of, dues_of}
use Rattle.machine.specs.Machine.{State, finished_of, stage_of, sent_of, current_tile, gather, calculate, send, carry_out}
use Rattle.machine.specs.Machine.{Answered, answered, waiting, tiles_left, turn_lines, turn}
use Rattle.records.specs.declared.Flat.{Flat}
use Rattle.records.specs.Records.{Flattens}
use Rattle.layout.specs.declared.Layout.{Layout}
use Rattle.layout.specs.Laid.{plan_of_layout}
use Rattle.engine.specs.Calls.{answer}
use Rattle.engine.proofs.Turns as turns
use Rattle.engine.proofs.Turns.{answered_no, answered_yes}
use Rattle.network.specs.Own.{own_cells, source_of}
use Rattle.part.specs.Part.{rank_of, mail_at, part_fits}
use Rattle.part_calls.specs.front.Calls.{from_part, to_part, stepped, part_turn_call}
use Rattle.part_calls.specs.front.Given.{OpensFor, unfit_lines}
use Rattle.part_calls.specs.turn.Step.{MayStep, stepped_or, turned_or}
use Rattle.part_calls.proofs.front.Wide as has
use Rattle.part_calls.proofs.turn.After as after
use Rattle.part_calls.proofs.front.Front.{unfit_none}
use Rattle.part_calls.proofs.front.Answers.{closed, opened}

-- ---- past line 9: the machine's turn
module _ (p : Plan) (b : ℕ) (source : List ℕ) (s : State) (may : MayStep p source s b) where
  abbrev w : State
  w = from_part p b s

  abbrev src : List ℕ
  src = source_of p b source

  number_is : (n : ℕ) (y : State) → answer n y ≡ turn p src w b → first_of (turn_lines p w b) ≡ n
  unfolding turn
  number_is n y e = sym (ap (λ (a : Answered State). a.number) e)

  stops : (n : ℕ) → n ≢ 0 → answer n w ≡ turn p src w b → answer n s ≡ stepped_or p source s b
  stops n h e = answered_no n (to_part p b (stepped p b source s)) s h ∙ ap (λ (k : ℕ). answered k (to_part p b (stepped p b source s)) s) (sym (number_is n w e))

  stepped_is : (y : State) → answer 0 y ≡ turn p src w b → y ≡ stepped p b source s
  unfolding turn
  stepped_is y e =
      ap (λ (a : Answered State). a.after) e ∙ pick_true _ _ _ (eq-eqb (first_of (turn_lines p w b)) 0 (number_is 0 y e))

  goes : (y s' : State) → answer 0 y ≡ turn p src w b → s' ≡ to_part p b y → answer 0 s' ≡ stepped_or p source s b
  goes y s' e q =
      ap (answer 0) (q ∙ ap (to_part p b) (stepped_is y e))
      ∙ answered_yes (first_of (turn_lines p w b)) (to_part p b (stepped p b source s)) s (number_is 0 y e)

  module _ (finished n : ℕ) (f : finished ≡ get_or s.progress 0 0) (all : n ≡ length (tiles_of p b)) where
    finished_is : finished_of w b ≡ finished
    finished_is = has.wide_finished p b s may.processor may.lengths ∙ sym f

    pub stops_over : n ≤ finished → answer 13 s ≡ stepped_or p source s b
    stops_over h = stops 13 (λ q. omega arith) (turns.step_over p src w b may.fit may.processor (omega (arith, h, all, finished_is)))

    module _ (t stage : ℕ) (h : finished < n) (i : t ≡ get_or (tiles_of p b) finished 0) (g : stage ≡ get_or s.progress 1 0) where
      left : finished_of w b < length (tiles_of p b)
      left = omega (arith, h, all, finished_is)

      tile_is : t ≡ current_tile p w b
      tile_is = i ∙ ap (λ (k : ℕ). get_or (tiles_of p b) k 0) (sym finished_is)

      stage_is : stage_of w b ≡ stage
      stage_is = has.wide_stage p b s may.processor may.lengths ∙ sym g

      pub own_tile : p.processor_of t ≡ b
      own_tile = ap p.processor_of i ∙ at_is p.processor_of b p.tiles finished (omega (arith, h, all))

      module _ (ordinals starts : List ℕ) (rank : (m : ℕ) → m ≤ count p → get_or ordinals m 0 ≡ rank_of p b m)
          (place : (m : ℕ) → m ≤ count p → get_or starts m 0 ≡ mail_at p b m) (ready : Bool) (r : ready ≡ all_at s.status 2 (pack ordinals (dues_of p t)))
          (z : stage ≡ 0) where
        as_areas : ready ≡ all_at w.status 2 (dues_of p t)
        as_areas = r ∙ after.all_due p b s may.processor may.lengths ordinals starts rank place t own_tile

        pub stops_waiting : ready ≡ false → answer 12 s ≡ stepped_or p source s b
        stops_waiting q =
            stops 12 (λ y. omega arith)
            (turns.step_waits p src w b may.fit may.processor left t tile_is ready (stage_is ∙ z) as_areas q)

        pub gathers : ready ≡ true → (s' : State) → s' ≡ to_part p b (carry_out p [] w b (gather t)) → answer 0 s' ≡ stepped_or p source s b
        gathers q s' e =
            goes (carry_out p [] w b (gather t)) s'
            (turns.step_gathers p src w b may.fit may.processor left t tile_is ready (carry_out p [] w b (gather t)) (stage_is ∙ z) as_areas q refl) e

      pub calculates : stage ≡ 1 → (s' : State) → s' ≡ to_part p b (carry_out p src w b (calculate t)) → answer 0 s' ≡ stepped_or p source s b
      calculates z s' e =
          goes (carry_out p src w b (calculate t)) s'
          (turns.step_calculates p src w b may.fit may.processor left t tile_is (carry_out p src w b (calculate t)) (stage_is ∙ z) refl) e

      module _ (sent : ℕ) (k : sent ≡ get_or s.progress 2 0) (no : stage ≢ 0) (nor : stage ≢ 1) where
        sent_is : sent_of w b ≡ sent
        sent_is = has.wide_sent p b s may.processor may.lengths ∙ sym k

        pub sends_left : sent < length (sends_of p t)
        sends_left =
            rw (tile_is, ← sent_is)
            (turns.fit_sent p w b may.fit may.processor left (λ q. no (sym stage_is ∙ q)) (λ q. nor (sym stage_is ∙ q)))

        pub sends : (s' : State) → s' ≡ to_part p b (carry_out p [] w b (send (get_or (sends_of p t) sent 0))) → answer 0 s' ≡ stepped_or p source s b
        sends s' e =
            goes (carry_out p [] w b (send (get_or (sends_of p t) (sent_of w b) 0))) s'
            (turns.step_sends p src w b may.fit may.processor left t tile_is (carry_out p [] w b (send (get_or (sends_of p t) (sent_of w b) 0)))
            (λ q. no (sym stage_is ∙ q)) (λ q. nor (sym stage_is ∙ q)) refl)
            (e ∙ ap (λ (j : ℕ). to_part p b (carry_out p [] w b (send (get_or (sends_of p t) j 0)))) (sym sent_is))

-- ---- lines 9 and 10
module _ (p : Plan) (b : ℕ) (source : List ℕ) (s : State) where
  abbrev new : State
  new = to_part p b (stepped p b source s)

  abbrev behind : List Line
  behind =
      line 11 (not (ltb b p.processors)) ∷ line 12 (waiting p (from_part p b s) b) ∷ line 13 (not (tiles_left p (from_part p b s) b)) ∷ []

  pub no_source : length source ≢ length (own_cells p b) → answer 9 s ≡ turned_or p source s b
  no_source h =
      answered_no 9 new s (λ q. omega arith)
      ∙ ap (λ (k : ℕ). answered k new s) (sym (first_true 9 _ (turn_lines p (from_part p b s) b) (not-false (and_false _ _ (ne_eqb _ _ h)))))

  module _ (own : length source ≡ length (own_cells p b)) where
    same_lines : first_of (line 9 (not (eqb (length source) (length (own_cells p b)) and part_fits p b s)) ∷ turn_lines p (from_part p b s) b)
        ≡ first_of (unfit_lines p b s ++ behind)
    same_lines =
        ap (λ (t : Bool). first_of (line 9 (not t) ∷ turn_lines p (from_part p b s) b)) (and_left _ (part_fits p b s) (eq-eqb _ _ own))

    module _ (r : ℕ) (e : r ≡ first_of (unfit_lines p b s)) where
      pub no_part : r ≢ 0 → answer r s ≡ turned_or p source s b
      no_part h =
          answered_no r new s h
          ∙ ap (λ (k : ℕ). answered k new s) (e ∙ sym (same_lines ∙ first_some (unfit_lines p b s) behind (λ q. h (e ∙ q))))

      module _ (z : r ≡ 0) where
        pub may_step : b < p.processors → MayStep p source s b
        may_step low =
            record { own = own; lengths = has.fits_are p b s (unfit_none p b s r e z).0; fit = (unfit_none p b s r e z).1; processor = low }

        pub turned_is : (a : Answered State) → a ≡ stepped_or p source s b → a ≡ turned_or p source s b
        turned_is a q =
            q
            ∙ ap (λ (k : ℕ). answered k new s)
            (sym (same_lines ∙ first_false 9 _ _ (not-true (unfit_none p b s r e z).0)))

-- ---- the record's words
pub three_carried : (f : Flat) → length f.words ≡ 192 → f.count ≡ 3 → Flattens f (take 3 f.words)
three_carried f room n =
    let long : length (take 3 f.words) ≡ 3 = length-take-le 3 f.words (omega (arith, room)) in
    record { counted = n ∙ sym long; kept = λ _. ap (λ (k : ℕ). take k f.words) long; room = room }

pub three_are : (f : Flat) (l : List ℕ) → f.count ≡ 3 → Flattens f l → take 3 f.words ≡ l
three_are f l n h =
    let e : length l ≡ 3 = sym h.counted ∙ n in
    ap (λ (k : ℕ). take k f.words) (sym e) ∙ h.kept (omega (arith, e))

-- ---- past the first lines
module _ (bytes : List ℕ) (route b : ℕ) (source : List ℕ) (s : State) where
  abbrev lines : Plan → List Line
  lines p = line 9 (not (eqb (length source) (length (own_cells p b)) and part_fits p b s)) ∷ turn_lines p (from_part p b s) b

  pub turn_read : (r : Refusal) → OpensFor bytes route b (Err r) → answer (code r) s ≡ part_turn_call bytes route source s b
  unfolding part_turn_call
  turn_read = closed bytes route b lines (λ p. to_part p b (stepped p b source s)) s

  pub turn_past : (l : Layout) → OpensFor bytes route b (Ok l) → (a : Answered State) → a ≡ turned_or (plan_of_layout l) source s b
      → a ≡ part_turn_call bytes route source s b
  unfolding part_turn_call
  turn_past = opened bytes route b lines (λ p. to_part p b (stepped p b source s)) s
