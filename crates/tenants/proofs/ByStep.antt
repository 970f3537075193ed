-- A turn of a tenant, for code that has the machine's turn: record and shared word go by the same test, so one word stored
-- after it, by the stage that it left, is all that a tenant's turn has more.
use Prim.Native.Nat.{ℕ, ◌*◌, ◌≤◌, ◌<◌}
use mathlib.Core.Path.{◌≡◌, sym, ap, ◌∙◌}
use mathlib.Core.Logic.{◌≢◌}
use mathlib.Core.Bool.{false}
use mathlib.Core.List.{List}
use native.Mathlib.Decide.{ℕ_discrete}
use lib.ListN.{length, set}
use lib.Dec.{eqb}
use borrow.Author.Tests.{eq-eqb, ne_eqb}
use Rattle.base.specs.Tests.{pick}
use Rattle.base.proofs.Tests.{both, pick_true, pick_false, every_at}
use Rattle.machine.specs.Plan.{Plan}
use Rattle.machine.specs.Machine.{State, stage_of, Answered}
use Rattle.machine.specs.Machine.{turn}
use Rattle.machine.proofs.Turns.{can, by_next}
use Rattle.tenants.specs.Tenants.{TenantAreas, tenant_areas, holder_of, word_for, fit_word, fit_for, held_by_other}
use Rattle.tenants.specs.Tenants.{carry_out_for, turn_for}
use Rattle.tenants.proofs.OneCall.{Admits, turn_number, turn_own, turn_done}
use Rattle.tenants.proofs.SharedWords.{begun_held, acted}

module _ (p : Plan) (source : List ℕ) (o : ℕ) (l : TenantAreas) (theirs : List ℕ) (b : ℕ) (admits : Admits p o l theirs)
    (free : held_by_other p o l b ≡ false) (len : length l.own.progress ≡ 3 * p.processors)
    (wide : length l.engaged ≡ p.processors) where
  abbrev a : Answered State
  a = turn p source l.own b

  holds : b < p.processors → 1 ≤ stage_of l.own b → holder_of l.engaged b ≡ o
  unfolding fit_for fit_word
  holds low k = begun_held _ o _ (both (both (every_at _ p.processors (both (both admits.fits).1).1 b low)).1).0 k

  same : (turn_for p source o l theirs b).number ≡ a.number
  same = turn_number p o l theirs source b admits free

  words_done : a.number ≡ 0 → (turn_for p source o l theirs b).after.engaged ≡ set l.engaged b (word_for o (stage_of a.after b))
  unfolding carry_out_for
  words_done z =
      ap (λ (x : TenantAreas). x.engaged) (turn_done p o l theirs source b (same ∙ z))
      ∙ (acted p source o l b low len wide _ _ _ (holds low)).word
      ∙ ap (λ (s : State). set l.engaged b (word_for o (stage_of s b))) (sym (by_next p source l.own b z))
    where
      low : b < p.processors
      low = (can p source l.own b z).low

  words_kept : a.number ≢ 0 → (turn_for p source o l theirs b).after.engaged ≡ l.engaged
  unfolding turn_for
  words_kept n = ap (λ (x : TenantAreas). x.engaged) (pick_false _ _ _ (ne_eqb _ 0 (λ z. n (sym same ∙ z))))

  words : (turn_for p source o l theirs b).after.engaged
      ≡ pick (eqb a.number 0) (set l.engaged b (word_for o (stage_of a.after b))) l.engaged
  words = go (ℕ_discrete a.number 0)
    where
      go : Dec (a.number ≡ 0) → (turn_for p source o l theirs b).after.engaged
          ≡ pick (eqb a.number 0) (set l.engaged b (word_for o (stage_of a.after b))) l.engaged
      go (yes z) = words_done z ∙ sym (pick_true _ _ _ (eq-eqb _ 0 z))
      go (no n) = words_kept n ∙ sym (pick_false _ _ _ (ne_eqb _ 0 n))

  pub turn_by : turn_for p source o l theirs b
      ≡ record {
        number = a.number;
        after = tenant_areas a.after (pick (eqb a.number 0) (set l.engaged b (word_for o (stage_of a.after b))) l.engaged);
      }
  turn_by = alike same (turn_own p o l theirs source b admits free) words
    where
      alike : {x : Answered TenantAreas} {n : ℕ} {s : State} {ws : List ℕ} → x.number ≡ n → x.after.own ≡ s → x.after.engaged ≡ ws
          → x ≡ record { number = n; after = tenant_areas s ws }
      alike e f g = rw (sym e, sym f, sym g)
