-- A processor's shared word against a tenant's stage there, and what an action of a tenant leaves of both: the record and the
-- word go by the same test, so the word is set by the stage that is left.
use Prim.Native.Nat.{ℕ, zero, suc, ◌+◌, ◌*◌, ◌≤◌, ◌<◌}
use mathlib.Core.Path.{◌≡◌, refl, sym, ap, ◌∙◌}
use mathlib.Core.Logic.{◌≢◌, ◌⊎◌, inl, inr}
use mathlib.Core.Bool.{Bool, true, false}
use mathlib.Core.List.{List, [], ◌∷◌}
use native.Mathlib.Omega.{arith}
use native.Mathlib.Decide.{ℕ_discrete}
use lib.ListN.{length, get_or, set}
use lib.Dec.{ltb, eqb}
use borrow.Author.Tests.{eqb-true, eq-eqb, ne_eqb}
use Rattle.base.specs.Tests.{◌or◌, pick}
use Rattle.base.proofs.Tests.{either, or_left, or_right, pick_true, pick_false}
use Rattle.machine.specs.Plan.{Plan, sends_of}
use Rattle.machine.specs.Machine.{State, state_of, finished_of, stage_of, sent_of, set_progress, after_sends, carry_out, action_at}
use Rattle.machine.proofs.Records.{stage_same, stage_other}
use Rattle.tenants.specs.Tenants.{TenantAreas, holder_of, stage_agrees, word_for, freed_after, engaged_after}

-- ---- the test of one word against one stage
module _ (w o g : ℕ) where
  pub agrees_held : w ≡ o → (g ≡ 1) ⊎ (g ≡ 2) → stage_agrees w o g ≡ true
  unfolding stage_agrees
  agrees_held e q = pick_true _ _ _ (eq-eqb w o e) ∙ go q
    where
      go : (g ≡ 1) ⊎ (g ≡ 2) → (eqb g 1 or eqb g 2) ≡ true
      go (inl k) = or_left (eqb g 2) (eq-eqb g 1 k)
      go (inr k) = or_right (eqb g 1) (eq-eqb g 2 k)

  pub agrees_free : w ≢ o → g ≡ 0 → stage_agrees w o g ≡ true
  unfolding stage_agrees
  agrees_free n e = pick_false _ _ _ (ne_eqb w o n) ∙ eq-eqb g 0 e

  pub held_begun : stage_agrees w o g ≡ true → w ≡ o → 1 ≤ g
  unfolding stage_agrees
  held_begun h e = go (either (sym (pick_true _ _ _ (eq-eqb w o e)) ∙ h))
    where
      go : (eqb g 1 ≡ true) ⊎ (eqb g 2 ≡ true) → 1 ≤ g
      go (inl k) = omega (arith, eqb-true g 1 k)
      go (inr k) = omega (arith, eqb-true g 2 k)

  pub free_zero : stage_agrees w o g ≡ true → w ≢ o → g ≡ 0
  unfolding stage_agrees
  free_zero h n = eqb-true g 0 (sym (pick_false _ _ _ (ne_eqb w o n)) ∙ h)

  pub begun_held : stage_agrees w o g ≡ true → 1 ≤ g → w ≡ o
  begun_held h k = go (ℕ_discrete w o)
    where
      go : Dec (w ≡ o) → w ≡ o
      go (yes e) = e
      go (no n) = absurd (omega (arith, free_zero h n))

-- ---- the word by the stage that is left
module _ (o g : ℕ) where
  word_free : g ≡ 0 → word_for o g ≡ 2
  unfolding word_for
  word_free e = pick_true _ _ _ (eq-eqb g 0 e)

  word_held : g ≢ 0 → word_for o g ≡ o
  unfolding word_for
  word_held n = pick_false _ _ _ (ne_eqb g 0 n)

  module _ (low : o ≤ 1) where
    pub word_low : word_for o g ≤ 2
    word_low = go (ℕ_discrete g 0)
      where
        go : Dec (g ≡ 0) → word_for o g ≤ 2
        go (yes e) = omega (arith, word_free e)
        go (no n) = omega (arith, word_held n)

    pub word_agrees : g ≤ 2 → stage_agrees (word_for o g) o g ≡ true
    word_agrees h = go (ℕ_discrete g 0) (ℕ_discrete g 1)
      where
        go : Dec (g ≡ 0) → Dec (g ≡ 1) → stage_agrees (word_for o g) o g ≡ true
        go (yes e) d = agrees_free _ o g (λ k. omega (arith, word_free e)) e
        go (no n) (yes e) = agrees_held _ o g (word_held n) (inl e)
        go (no n) (no m) = agrees_held _ o g (word_held n) (inr (omega arith))

    -- against a tenant that has not begun
    pub word_other : (c k : ℕ) → c ≤ 1 → c ≢ o → k ≡ 0 → stage_agrees (word_for o g) c k ≡ true
    word_other c k h ne e = go (ℕ_discrete g 0)
      where
        go : Dec (g ≡ 0) → stage_agrees (word_for o g) c k ≡ true
        go (yes z) = agrees_free _ c k (λ q. omega (arith, word_free z)) e
        go (no n) = agrees_free _ c k (λ q. ne (sym q ∙ word_held n)) e

-- ---- after an action of tenant o on processor b
set_same : (l : List ℕ) (i v : ℕ) → i < length l → get_or l i 0 ≡ v → set l i v ≡ l
set_same [] i v h e = absurd (omega arith)
set_same (x ∷ l) zero v h e = rw e
set_same (x ∷ l) (suc i) v h e = ap (λ (k : List ℕ). x ∷ k) (set_same l i v (omega arith) e)

pub record Acted (o : ℕ) (l : TenantAreas) (b : ℕ) (own : State) (engaged : List ℕ) : Type 0 where
  pub word : engaged ≡ set l.engaged b (word_for o (stage_of own b))
  pub stage_low : stage_of own b ≤ 2
  pub stages : (c : ℕ) → c ≢ b → stage_of own c ≡ stage_of l.own c

module _ (p : Plan) (source : List ℕ) (o : ℕ) (l : TenantAreas) (b : ℕ) (low : b < p.processors)
    (len : length l.own.progress ≡ 3 * p.processors) (wide : length l.engaged ≡ p.processors) where
  -- the record set anew with stage g, and the word as it then should be
  recorded_with : (f g n : ℕ) (x y z engaged : List ℕ) → g ≤ 2 → engaged ≡ set l.engaged b (word_for o g)
      → Acted o l b (state_of x y (set_progress l.own.progress b f g n) z) engaged
  recorded_with f g n x y z engaged h e =
      record {
        word = e ∙ ap (λ (k : ℕ). set l.engaged b (word_for o k)) (sym here);
        stage_low = omega (arith, here);
        stages = λ c ne. stage_other l.own.progress b f g n c ne;
      }
    where
      here : get_or (set_progress l.own.progress b f g n) (3 * b + 1) 0 ≡ g
      here = stage_same l.own.progress b p.processors len low f g n

  -- after n messages of tile t
  sending : (t n : ℕ) (x y z : List ℕ) → holder_of l.engaged b ≡ o
      → Acted o l b (state_of x y (after_sends p l.own b t n) z) (freed_after p l.engaged b t n)
  unfolding after_sends freed_after pick
  sending t n x y z w = go (ltb n (length (sends_of p t)))
    where
      finished : ℕ
      finished = finished_of l.own b

      progress : Bool → List ℕ
      progress more = pick more (set_progress l.own.progress b finished 2 n) (set_progress l.own.progress b (finished + 1) 0 0)

      go : (more : Bool) → Acted o l b (state_of x y (progress more) z) (pick more l.engaged (set l.engaged b 2))
      go true =
          recorded_with finished 2 n x y z _ (omega arith)
          (sym (set_same l.engaged b _ (omega arith) (w ∙ sym (word_held o 2 (λ k. omega arith)))))
      go false = recorded_with (finished + 1) 0 0 x y z _ (omega arith) (ap (set l.engaged b) (sym (word_free o 0 refl)))

  pub acted : (g t n : ℕ) → (1 ≤ g → holder_of l.engaged b ≡ o)
      → Acted o l b (carry_out p source l.own b (action_at p g t n)) (engaged_after p o l b (action_at p g t n))
  unfolding engaged_after carry_out action_at
  acted zero t n f =
      recorded_with (finished_of l.own b) 1 0 _ _ _ _ (omega arith) (ap (set l.engaged b) (sym (word_held o 1 (λ k. omega arith))))
  acted (suc zero) t n f = sending t 0 _ _ _ (f (omega arith))
  acted (suc (suc g)) t n f = sending _ (sent_of l.own b + 1) _ _ _ (f (omega arith))
