-- Demand 3's two parts, `Once` and `Collects`, hang on the counts of events and numbers, and on what collecting answers: where these agree so do they.
use Prim.Native.Nat.{ℕ}
use mathlib.Core.Path.{◌≡◌, sym, ap, ◌∙◌}
use mathlib.Core.Bool.{Bool}
use mathlib.Core.List.{List}
use lib.ListN.{length, take}
use Rattle.base.specs.Lists.{count_if}
use Rattle.base.proofs.Tests.{sum_same}
use Rattle.machine.specs.Plan.{Plan}
use Rattle.machine.specs.Machine.{Answered, Action}
use Rattle.machine.specs.Runs.{Event, answers_to, program, turns_of, times_of, calculates, sends, takes, deliveries_of, steps_in, Once, Collects}
use Rattle.machine.proofs.RunLaws.{number_of, after_of, Passed, steps_same, turns_same, brings_same}

module _ (p : Plan) (es ps : List Event) (xs ys : List ℕ) (steps : steps_in xs ≡ steps_in ys)
    (turns : (b : ℕ) → turns_of b es xs ≡ turns_of b ps ys) (brings : (m : ℕ) → deliveries_of m es xs ≡ deliveries_of m ps ys) where
  pub times_like : (f : Action → Bool) → times_of p es xs f ≡ times_of p ps ys f
  times_like f = sum_same _ _ p.processors (λ b h. ap (λ (k : ℕ). count_if f (take k (program p b))) (turns b))

  pub once_like : Once p ps ys → Once p es xs
  once_like o =
      record {
        bound = rw steps o.bound;
        calculated = λ c h. rw (times_like (calculates p c)) (o.calculated c h);
        not_calculated = λ c h i. times_like (calculates p c) ∙ o.not_calculated c h i;
        sent = λ m h. rw (times_like (sends m)) (o.sent m h);
        delivered = λ m h. rw (brings m) (o.delivered m h);
        taken = λ m h. rw (times_like (takes p m)) (o.taken m h);
        all_calculated = λ e c h i. times_like (calculates p c) ∙ o.all_calculated (sym steps ∙ e) c h i;
        all_sent = λ e m h. times_like (sends m) ∙ o.all_sent (sym steps ∙ e) m h;
        all_delivered = λ e m h. brings m ∙ o.all_delivered (sym steps ∙ e) m h;
        all_taken = λ e m h. times_like (takes p m) ∙ o.all_taken (sym steps ∙ e) m h;
        no_more = λ b. rw (turns b) (o.no_more b);
      }

-- of the events that gave 0, and so of all
pub once_passed : {S : Type 0} (p : Plan) (acts : S → Event → Answered S) {s z : S} {es ps : List Event} {xs : List ℕ} → Passed acts s es xs ps z
    → Once p ps (answers_to acts s ps) → Once p es xs
once_passed p acts m = once_like p _ _ _ _ (sym (steps_same acts m)) (λ b. turns_same acts b m) (λ k. brings_same acts k m)

pub collects_like : (p : Plan) (source : List ℕ) (A B : Type 0) (collect collect' : List ℕ → Answered (List ℕ)) → (A → B) → (B → A)
    → ((grid : List ℕ) → length grid ≡ p.cells → collect grid ≡ collect' grid) → Collects p source B collect' → Collects p source A collect
collects_like p source A B collect collect' to from same c =
    record {
      can_collect = λ a grid l. number_of (same grid l) ∙ c.can_collect (to a) grid l;
      then_all = λ grid l z. from (c.then_all grid l (sym (number_of (same grid l)) ∙ z));
      grid = λ a old l. after_of (same old l) ∙ c.grid (to a) old l;
    }
