-- Laws of the exported calls with hours: the record of a turn that gave 0 is there; each return of the question is what it tells by its line.
use Rattle.std.specs.Prelude.{◌≡◌, ℕ, zero, suc, ◌<◌, ◌≢◌, List, length, None, Option, Some}
use mathlib.Core.Path.{refl, sym, ap, ◌∙◌}
use native.Mathlib.Omega.{arith}
use borrow.Author.Tests.{eq-eqb}
use Rattle.base.specs.Numbers.{first_of}
use Rattle.base.proofs.Tests.{pick_true}
use Rattle.machine.specs.Machine.{state_of, State}
use Rattle.machine.proofs.RunLaws.{number_of, after_of}
use Rattle.tenants.specs.Tenants.{TenantAreas, tenant_areas}
use Rattle.calendar.specs.Windows.{Moment, moment_of, until_open}
use Rattle.records.specs.declared.Progress.{Progress}
use Rattle.records.specs.Records.{flat_words}
use Rattle.records.proofs.Words.{length_words}
use Rattle.engine.specs.Calls.{answer}
use Rattle.calendar_calls.specs.Calls.{turn_call_at, turn_call_at_for, opens_lines, opens_call}
use Rattle.calendar_calls.proofs.Lines.{turn_inside, turn_inside_for}
use Rattle.calls.specs.declared.hour.NextOpening.{NextOpening}
use Rattle.calls.specs.Opens.{tells, opening_told, opens_if, opens_of}

-- ---- a turn that gave 0 has a record there

pub record_there_at : (bytes : List ℕ) (route : ℕ) (source table : List ℕ) (minute : ℕ) (m u t : List ℕ) (rs : List Progress) (b n : ℕ) (x : State)
    → answer n x ≡ turn_call_at bytes route source (moment_of table minute) (state_of m u (flat_words rs) t) b → n ≡ 0 → b < length rs
record_there_at bytes route source table minute m u t rs b n x is z =
    omega (
      arith,
      length_words rs,
      turn_inside bytes route source (moment_of table minute) (state_of m u (flat_words rs) t) b (sym (number_of is) ∙ z),
    )

pub record_there_at_for : (bytes : List ℕ) (route : ℕ) (source : List ℕ) (o : ℕ) (table : List ℕ) (minute : ℕ) (m u t e : List ℕ)
    (rs ss : List Progress) (b n : ℕ) (x : TenantAreas)
    → answer n x ≡ turn_call_at_for bytes route source o (moment_of table minute) (tenant_areas (state_of m u (flat_words rs) t) e) (flat_words ss) b
    → n ≡ 0 → b < length rs
record_there_at_for bytes route source o table minute m u t e rs ss b n x is z =
    omega (
      arith,
      length_words rs,
      turn_inside_for bytes route source o (moment_of table minute) (tenant_areas (state_of m u (flat_words rs) t) e) (flat_words ss) b
          (sym (number_of is) ∙ z),
    )

-- ---- what is told of an opening

pub told_in : (n : ℕ) (x : Option ℕ) → x ≡ Some n → (r : NextOpening) → r ≡ tells 0 1 n → r ≡ opening_told x
unfolding opening_told
told_in n x e r q = q ∙ sym (ap opening_told e)

pub told_never : (x : Option ℕ) → x ≡ None → (r : NextOpening) → r ≡ tells 0 0 0 → r ≡ opening_told x
unfolding opening_told
told_never x e r q = q ∙ sym (ap opening_told e)

opens_no : (n : ℕ) (x : Option ℕ) → n ≢ 0 → opens_if n x ≡ tells n 0 0
unfolding opens_if
opens_no zero x h = absurd (h refl)
opens_no (suc n) x h = refl

-- ---- the question

module _ (bytes : List ℕ) (h : Moment) (b n : ℕ) (x : Option ℕ) (q : answer n x ≡ opens_call bytes h b) where
  number_is : n ≡ first_of (opens_lines bytes h b)
  unfolding opens_call
  number_is = number_of q

  abbrev until : Option ℕ
  until = until_open h.calendar h.minute b

  pub opens_none : n ≢ 0 → (r : NextOpening) → r ≡ tells n 0 0 → r ≡ opens_of bytes h b
  unfolding opens_of
  opens_none k r e = e ∙ sym (opens_no n until k) ∙ ap (λ (i : ℕ). opens_if i until) number_is

  told : n ≡ 0 → x ≡ until
  unfolding opens_call
  told z = after_of q ∙ pick_true _ _ _ (eq-eqb _ 0 (sym (number_of q) ∙ z))

  pub opens_done : n ≡ 0 → (r : NextOpening) → r ≡ opening_told x → r ≡ opens_of bytes h b
  unfolding opens_of opens_if
  opens_done z r e = e ∙ ap opening_told (told z) ∙ ap (λ (i : ℕ). opens_if i until) (sym z ∙ number_is)
