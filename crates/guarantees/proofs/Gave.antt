-- Two calls over records are two over words: what holds of the words, which fix the areas, holds of the calls.
use Prim.Native.Nat.{ℕ}
use mathlib.Core.Path.{◌≡◌, sym, ap, subst, ◌∙◌}
use mathlib.Core.List.{List}
use Rattle.machine.specs.Machine.{Answered}
use Rattle.machine.specs.Runs.{state_after}
use Rattle.machine.proofs.RunLaws.{number_of, after_of}
use Rattle.swaps.specs.Swaps.{CanTake, EitherWay, Swapped, Swaps, CanSwap, Rewinds}
use Rattle.engine.specs.Calls.{answer}
use Rattle.guarantees.specs.OverRecords.{Gave}
use Rattle.guarantees.proofs.OverRecords.{run_numbers, run_words}
use Rattle.guarantees.specs.OverRecords214.{CanGive, EitherOrder, SwapsGave, CanSwapGave, RewindsGave}

module _ {A E S : Type 0} (Step : A → E → ℕ → A → Type 0) (words : A → S) (acts : S → E → Answered S)
    (is : (a : A) (e : E) (n : ℕ) (b : A) → Step a e n b → answer n (words b) ≡ acts (words a) e) where
  pub taken : (a : A) (e : E) → CanGive Step a e → CanTake acts (words a) e
  taken a e g = sym (number_of (is a e 0 g.0 g.1))

  -- the call e, then f
  pub in_a_row : (a b c : A) (e f : E) (n : ℕ) → Step a e 0 b → Step b f n c → answer n (words c) ≡ acts (acts (words a) e).after f
  in_a_row a b c e f n h k = is b f n c k ∙ ap (λ (s : S). acts s f) (after_of (is a e 0 b h))

  module _ (fixed : (a b : A) → words a ≡ words b → a ≡ b) (Apart : S → E → E → Type 0) where
    order : (a : A) (e f : E) → EitherWay acts (words a) e f → EitherOrder Step a e f
    order a e f w =
        record {
          then_second = λ b c n h k. number_of (in_a_row a b c e f n h k) ∙ w.then_second;
          then_first = λ b c n h k. number_of (in_a_row a b c f e n h k) ∙ w.then_first;
          same_areas = λ b c b' c' n m h k h' k'.
              fixed c c' (after_of (in_a_row a b c e f n h k) ∙ w.same_words ∙ sym (after_of (in_a_row a b' c' f e m h' k')));
        }

    pub swaps_gave : (a : A) → Swaps Apart acts (words a) → SwapsGave Step (λ b. Apart (words b)) a
    swaps_gave a s = record { either_way = λ e f apart g h. order a e f (s.either_way e f apart (taken a e g) (taken a f h)) }

    module _ (start : A) where
      abbrev Over : List E → E → E → Type 0
      Over = CanSwapGave Step (λ b. Apart (words b)) start

      can_swap : (before : List E) (e f : E) → Over before e f → CanSwap Apart acts (words start) before e f
      can_swap before e f m =
          record {
            apart = subst (λ (s : S). Apart s e f) at m.apart;
            first = subst (λ (s : S). CanTake acts s e) at (taken m.areas e m.first);
            second = subst (λ (s : S). CanTake acts s f) at (taken m.areas f m.second);
          }
        where
          at : words m.areas ≡ state_after acts (words start) before
          at = run_words Step words acts is m.gave

      in_words_lem : (es fs : List E) → Swapped Over es fs → Swapped (CanSwap Apart acts (words start)) es fs
      in_words_lem es fs Swapped.same = Swapped.same
      in_words_lem es fs (Swapped.swap before after e f m) = Swapped.swap before after e f (can_swap before e f m)
      in_words_lem es fs (Swapped.then {fs = ks} u v) = Swapped.then (in_words_lem es ks u) (in_words_lem ks fs v)

      pub rewinds_gave : Rewinds Apart acts (words start) → RewindsGave Step (λ b. Apart (words b)) start
      rewinds_gave r =
          record {
            same_run = λ es fs ns ks b c sw g h. (
              run_numbers Step words acts is g ∙ r.same_answers es fs (in_words_lem es fs sw) ∙ sym (run_numbers Step words acts is h),
              fixed b c (run_words Step words acts is g ∙ r.same_end es fs (in_words_lem es fs sw) ∙ sym (run_words Step words acts is h)),
            );
          }
