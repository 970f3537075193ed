-- Request W-213 holds of the calls as exported, board records as structs.
use Prim.Native.Nat.{ℕ, zero, suc, ◌*◌}
use mathlib.Core.Path.{◌≡◌, refl, sym, ap, ◌∙◌}
use mathlib.Core.Logic.{◌≢◌}
use mathlib.Core.Bool.{Bool, true, false}
use mathlib.Core.List.{List, [], ◌∷◌}
use lib.ListN.{length, get_or, replicate, length-replicate}
use borrow.Author.Tests.{ne_eqb}
use Rattle.base.specs.Tests.{pick}
use Rattle.base.specs.Lists.{Bytes}
use Rattle.base.proofs.Tests.{pick_false}
use Rattle.machine.specs.Plan.{Plan}
use Rattle.machine.specs.Machine as machine
use Rattle.machine.specs.Machine.{State, Answered}
use Rattle.machine.specs.Runs.{Event, turn_of, delivery_of, state_after, answers_to}
use Rattle.machine.proofs.RunLaws.{number_of, after_of}
use Rattle.rounds.specs.Rounds.{Told, told, drive, rounds, round_from, rounds_from, state_then, RoundsHold}
use Rattle.records.proofs.Words.{length_words}
use Rattle.engine.specs.Calls.{answer, recipe, turn_call, deliver_call, collect_call}
use Rattle.engine.specs.Demands.{calls}
use Rattle.engine.proofs.Demands as engine
use Rattle.schedule.specs.Calls.{rounds_call}
use Rattle.schedule.proofs.Demands.{demand213}
use Rattle.schedule.specs.declared.Driven.{Driven}
use Rattle.calls.specs.Gave.{Areas, in_words, FreshGave, RoundsGave}
use Rattle.guarantees.specs.OverRecords.{EventsGave}
use Rattle.guarantees.specs.OverRounds.{FixedRounds, DrivenRun, OverRounds}
use Rattle.guarantees.proofs.OverRecords.{run_numbers, run_words, event_call, areas_fixed, fixed_as}
use Rattle.guarantees.proofs.OverRecords.{Whole, areas_from, in_words_lem, length_carry}

-- ---- the words after a driver are records' words

picked : (t : Bool) (x y : State) → length x.progress ≡ length y.progress → length (pick t x y).progress ≡ length y.progress
unfolding pick
picked true x y e = e
picked false x y e = refl

told_long : (t : Bool) (x y : Told) (n : ℕ) → length x.after.progress ≡ n → length y.after.progress ≡ n
    → length (pick t x y).after.progress ≡ n
unfolding pick
told_long true x y n e f = e
told_long false x y n e f = f

whole_told : (t : Bool) (x y : Told) → Whole x.after.progress → Whole y.after.progress → Whole (pick t x y).after.progress
unfolding pick
whole_told true x y v w = v
whole_told false x y v w = w

module _ (bytes source : List ℕ) where
  abbrev p : Plan
  p = recipe bytes 0

  abbrev acts : State → Event → Answered State
  acts = calls bytes 0 source

  call_long : (s : State) (e : Event) → length (acts s e).after.progress ≡ length s.progress
  unfolding calls turn_call deliver_call
  call_long s (turn_of b) = picked _ _ s (length_carry p source s b _)
  call_long s (delivery_of m) = picked _ _ s refl

  run_long : (es : List Event) (s : State) → length (state_after acts s es).progress ≡ length s.progress
  unfolding state_after
  run_long [] s = refl
  run_long (e ∷ es) s = run_long es (acts s e).after ∙ call_long s e

  drive_long : (most r : ℕ) (s : State) → length (drive acts p most r s).after.progress ≡ length s.progress
  unfolding drive
  drive_long zero r s = refl
  drive_long (suc most) r s =
      told_long _ _ _ (length s.progress) (drive_long most (suc r) (state_after acts s (round_from acts p s)) ∙ run_long (round_from acts p s) s) refl

  module _ (a : Areas) where
    whole_driven : Whole (rounds_call bytes source (in_words a)).after.after.progress
    unfolding rounds_call machine.fresh
    whole_driven =
        whole_told _ _ _
        (p.processors, drive_long p.tiles 0 (machine.fresh p) ∙ length-replicate {A = ℕ} (3 * p.processors) 0)
        (length a.progress, length_words a.progress)

    can_run : (d : Driven) × ((b : Areas) × RoundsGave bytes source a d b)
    can_run =
        let r = rounds_call bytes source (in_words a) in (
          record { number = r.number; rounds = r.after.rounds_done },
          (
            areas_from r.after.after,
            ap (λ (s : State). answer r.number (told r.after.rounds_done s)) (in_words_lem r.after.after whole_driven),
          ),
        )

  -- what was told and left
  driven : (d : Driven) (a b : Areas) → RoundsGave bytes source a d b → d.number ≢ 0 → told d.rounds (in_words b) ≡ told 0 (in_words a)
  unfolding rounds_call
  driven d a b e h = after_of e ∙ pick_false _ _ _ (ne_eqb _ 0 (λ z. h (number_of e ∙ z)))

-- ---- demand 1

pub same_driven : (d e : Driven) → d.number ≡ e.number → d.rounds ≡ e.rounds → d ≡ e
same_driven d e p q =
    ap (λ (n : ℕ). at n d.rounds) p ∙ ap (λ (n : ℕ). at e.number n) q
  where
    at : ℕ → ℕ → Driven
    at n r = record { number = n; rounds = r }

fixed_rounds : (bytes : List ℕ) → FixedRounds bytes
unfolding rounds_call
fixed_rounds bytes =
    record {
      run = λ source a b d e. fixed_as e (engine.fixed _ _ (told 0 (in_words a)));
      as_before = λ source a b d e h.
          let q = driven bytes source d a b e h in
          (ap (λ (t : Told). t.rounds_done) q, areas_fixed b a (ap (λ (t : Told). t.after) q));
      rounds_of = λ old out n e. fixed_as e (demand213.rounds_of bytes old);
      as_fresh = λ source a b c d k e f. number_of e ∙ demand213.as_fresh bytes source (in_words a) ∙ sym (number_of f);
      can_run = can_run bytes;
      one_run = λ source a b c d e g h.
          let q = g ∙ sym h in (
            same_driven d e (number_of q) (ap (λ (t : Told). t.rounds_done) (after_of q)),
            areas_fixed b c (ap (λ (t : Told). t.after) (after_of q)),
          );
    }

-- ---- a driver that gave 0
module _ (bytes source : List ℕ) (small : Bytes bytes) (a b : Areas) (d : Driven) (gave : RoundsGave bytes source a d b) (zero_is : d.number ≡ 0) where
  done : (rounds_call bytes source (in_words a)).number ≡ 0
  done = sym (number_of gave) ∙ zero_is

  hold : RoundsHold (calls bytes 0 source) (collect_call bytes 0 source) (recipe bytes 0) source
  hold = demand213.by_rounds bytes source (in_words a) small done

  left : told d.rounds (in_words b) ≡ (rounds_call bytes source (in_words a)).after
  left = after_of gave

  abbrev then : State
  then = state_then (calls bytes 0 source) (collect_call bytes 0 source) (recipe bytes 0) source (rounds (recipe bytes 0))

  -- the areas of a fresh start
  begun : (start : Areas) → FreshGave bytes 0 source a 0 start → in_words start ≡ machine.fresh (recipe bytes 0)
  begun start f = after_of f ∙ ((engine.demands).one bytes 0 source (in_words a)).fresh.works (sym (number_of f))

  module _ (start c : Areas) (es : List Event) (numbers : List ℕ) (f : FreshGave bytes 0 source a 0 start)
      (g : EventsGave bytes 0 source start es numbers c) where
    ns : numbers ≡ answers_to (calls bytes 0 source) (machine.fresh (recipe bytes 0)) es
    ns =
        run_numbers _ in_words (calls bytes 0 source) (event_call bytes 0 source) g
        ∙ ap (λ (s : State). answers_to (calls bytes 0 source) s es) (begun start f)

    ws : in_words c ≡ state_after (calls bytes 0 source) (machine.fresh (recipe bytes 0)) es
    ws =
        run_words _ in_words (calls bytes 0 source) (event_call bytes 0 source) g
        ∙ ap (λ (s : State). state_after (calls bytes 0 source) s es) (begun start f)

  all_zero : (numbers : List ℕ) (n : ℕ) → numbers ≡ replicate n 0 → numbers ≡ replicate (length numbers) 0
  all_zero numbers n e = e ∙ ap (λ (k : ℕ). replicate k 0) (sym (ap (λ (l : List ℕ). length l) e ∙ length-replicate {A = ℕ} n 0))

  driven_run : DrivenRun bytes source a b d
  driven_run =
      record {
        tells = ap (λ (t : Told). t.rounds_done) (left ∙ demand213.tells bytes source (in_words a) small done);
        words_are = words_are;
        demand = hold;
        as_calls = λ start c numbers f g. (
          all_zero numbers (length (rounds_from (calls bytes 0 source) (recipe bytes 0) (rounds (recipe bytes 0))))
              (ns start c _ numbers f g ∙ hold.all_done (rounds (recipe bytes 0))),
          areas_fixed c b (ws start c _ numbers f g ∙ sym words_are),
        );
        no_sooner = λ who r start c numbers f g e. hold.no_driver_sooner who r (rw (ns start c _ numbers f g) at e);
        collects = λ old grid n l h.
            let k = h ∙ ap (λ (s : State). collect_call bytes 0 source s old) words_are in
            (number_of k ∙ hold.collects old l, after_of k ∙ hold.grid old l);
      }
    where
      words_are : in_words b ≡ then
      words_are = ap (λ (t : Told). t.after) (left ∙ demand213.tells bytes source (in_words a) small done)

pub over_rounds : (bytes : List ℕ) → OverRounds bytes
over_rounds bytes =
    record {
      one = fixed_rounds bytes;
      run = λ small source a b d gave z. driven_run bytes source small a b d gave z;
      round_of = λ old out e t h. ap (λ (l : List ℕ). get_or l t 0) (after_of e) ∙ demand213.round_of bytes old (sym (number_of e)) t h;
    }
