-- W-214 carried over: to calls that carry more than the machine reads and may be refused for that alone, and to lists of events.
use Prim.Native.Nat.{ℕ}
use mathlib.Core.Path.{◌≡◌, refl, sym, ap, ◌∙◌}
use mathlib.Core.List.{List, ◌∷◌, ◌++◌}
use Rattle.machine.specs.Machine.{Answered}
use Rattle.machine.specs.Runs.{state_after, answers_to}
use Rattle.machine.proofs.RunLaws.{number_of, after_of, after_append, answers_append}
use Rattle.machine.proofs.Guards.{Guards, is_plain, plain_zero}
use Rattle.swaps.specs.Swaps.{CanTake, EitherWay, Swapped, Swaps, CanSwap, Rewinds}

-- the other way round
pub turned_round : {S E : Type 0} {acts : S → E → Answered S} {s : S} {e f : E} → EitherWay acts s e f → EitherWay acts s f e
turned_round w = record { then_second = w.then_first; then_first = w.then_second; same_words = sym w.same_words }

-- ---- in a good state

module _ {S E X : Type 0} (Good : S → Type 0) (acts : S → E → Answered S) (calls : S → X → Answered S) (plain : X → E)
    (allowed : X → Type 0)
    (gd : Guards Good acts calls plain allowed) (good_next : (s : S) → Good s → (e : E) → Good (acts s e).after) (s : S)
    (good : Good s) where
  pub plain_taken : (x : X) → CanTake calls s x → CanTake acts s (plain x)
  plain_taken x z = plain_zero Good acts calls plain allowed gd good_next s good x z

  -- y after x does what the machine's does: it was allowed before
  pub follows : (x y : X) → CanTake calls s x → CanTake calls s y → calls (calls s x).after y ≡ acts (acts s (plain x)).after (plain y)
  follows x y zx zy =
      ap (λ (t : S). calls t y) (after_of (is_plain Good acts calls plain allowed gd good_next s good x zx))
      ∙ gd.allows _ (good_next s good (plain x)) y (gd.works s good y zy)

  pub carried : (x y : X) → CanTake calls s x → CanTake calls s y → EitherWay acts s (plain x) (plain y) → EitherWay calls s x y
  carried x y zx zy w =
      record {
        then_second = number_of (follows x y zx zy) ∙ w.then_second;
        then_first = number_of (follows y x zy zx) ∙ w.then_first;
        same_words = after_of (follows x y zx zy) ∙ w.same_words ∙ sym (after_of (follows y x zy zx));
      }

-- ---- lists turned into each other get the same answers and end in the same state

module _ {S E : Type 0} (Apart : S → E → E → Type 0) (acts : S → E → Answered S) (start : S)
    (sw : (events : List E) → Swaps Apart acts (state_after acts start events)) where
  module _ (before after : List E) (e f : E) (m : CanSwap Apart acts start before e f) where
    way : EitherWay acts (state_after acts start before) e f
    way = (sw before).either_way e f m.apart m.first m.second

    one_state : state_after acts start (before ++ (e ∷ f ∷ after)) ≡ state_after acts start (before ++ (f ∷ e ∷ after))
    unfolding state_after
    one_state =
        after_append acts start before (e ∷ f ∷ after)
        ∙ ap (λ (s : S). state_after acts s after) way.same_words
        ∙ sym (after_append acts start before (f ∷ e ∷ after))

    -- each of the four answers is 0
    one_answers : answers_to acts start (before ++ (e ∷ f ∷ after)) ≡ answers_to acts start (before ++ (f ∷ e ∷ after))
    unfolding answers_to
    one_answers =
        answers_append acts start before (e ∷ f ∷ after)
        ∙ ap (λ (l : List ℕ). answers_to acts start before ++ l)
        (rw (m.first, m.second, way.then_second, way.then_first, way.same_words))
        ∙ sym (answers_append acts start before (f ∷ e ∷ after))

  same_end : (es fs : List E) → Swapped (CanSwap Apart acts start) es fs → state_after acts start es ≡ state_after acts start fs
  same_end es fs Swapped.same = refl
  same_end es fs (Swapped.swap before after e f m) = one_state before after e f m
  same_end es fs (Swapped.then {fs = ks} u v) = same_end es ks u ∙ same_end ks fs v

  same_answers : (es fs : List E) → Swapped (CanSwap Apart acts start) es fs → answers_to acts start es ≡ answers_to acts start fs
  same_answers es fs Swapped.same = refl
  same_answers es fs (Swapped.swap before after e f m) = one_answers before after e f m
  same_answers es fs (Swapped.then {fs = ks} u v) = same_answers es ks u ∙ same_answers ks fs v

  pub rewinds : Rewinds Apart acts start
  rewinds = record { same_answers = same_answers; same_end = same_end }
