-- Laws of the tests and stores below a tenant's calls, each over numbers and lists alone.
use Rattle.std.specs.Prelude.{◌≡◌, ℕ, ◌+◌, ◌*◌, ◌<◌, ◌≤◌, Bool, true, false, eqb, ◌≢◌, List, length, get_or}
use mathlib.Core.Path.{sym, ap, ◌∙◌}
use borrow.Author.Tests.{eq-eqb, ne_eqb, lt-ltb, le-ltb, le-leb, lt-leb}
use Rattle.base.specs.Tests.{◌or◌}
use Rattle.base.proofs.Tests.{and_true, and_left, and_false, and_no, pick_true, pick_false, or_left}
use Rattle.machine.specs.Plan.{Plan, tiles_of}
use Rattle.machine.specs.Machine.{progress_only, tiles_left}
use Rattle.tenants.specs.Tenants.{tenant_areas, other_than, stage_agrees, word_for, fit_word, held_by_other}

-- ---- one word against one stage

or_none : (a b : Bool) → a ≡ false → (a or b) ≡ b
unfolding ◌or◌
or_none a b e = rw e

module _ (holder o g : ℕ) where
  pub agrees_one : holder ≡ o → g ≡ 1 → true ≡ stage_agrees holder o g
  unfolding stage_agrees
  agrees_one e k = sym (pick_true _ _ _ (eq-eqb holder o e) ∙ or_left (eqb g 2) (eq-eqb g 1 k))

  pub agrees_two : holder ≡ o → g ≢ 1 → eqb g 2 ≡ stage_agrees holder o g
  unfolding stage_agrees
  agrees_two e n = sym (pick_true _ _ _ (eq-eqb holder o e) ∙ or_none _ _ (ne_eqb g 1 n))

  pub agrees_none : holder ≢ o → eqb g 0 ≡ stage_agrees holder o g
  unfolding stage_agrees
  agrees_none n = sym (pick_false _ _ _ (ne_eqb holder o n))

-- ---- one processor's word

module _ (o : ℕ) (progress engaged theirs : List ℕ) (b : ℕ) where
  abbrev fits : Bool
  fits = fit_word o (tenant_areas (progress_only progress) engaged) theirs b

  pub word_high : 2 < get_or engaged b 0 → fits ≡ false
  unfolding fit_word
  word_high h = and_false _ _ (lt-leb _ _ h)

  pub word_own : stage_agrees (get_or engaged b 0) o (get_or progress (3 * b + 1) 0) ≡ false → fits ≡ false
  unfolding fit_word
  word_own e = and_no _ _ (and_false _ _ e)

  pub word_theirs : stage_agrees (get_or engaged b 0) (other_than o) (get_or theirs (3 * b + 1) 0) ≡ false → fits ≡ false
  unfolding fit_word
  word_theirs e = and_no _ _ (and_no _ _ e)

  pub word_fits : get_or engaged b 0 ≤ 2 → stage_agrees (get_or engaged b 0) o (get_or progress (3 * b + 1) 0) ≡ true
      → stage_agrees (get_or engaged b 0) (other_than o) (get_or theirs (3 * b + 1) 0) ≡ true → fits ≡ true
  unfolding fit_word
  word_fits h a c = and_true (le-leb _ _ h) (and_true a c)

-- ---- line 19

module _ (p : Plan) (o : ℕ) (progress engaged : List ℕ) (b : ℕ) where
  pub held_over : length (tiles_of p b) ≤ get_or progress (3 * b) 0 → false ≡ held_by_other p o (tenant_areas (progress_only progress) engaged) b
  unfolding held_by_other tiles_left
  held_over h = sym (and_false _ _ (le-ltb _ _ h))

  pub held_left : get_or progress (3 * b) 0 < length (tiles_of p b) → (k : ℕ) → k ≡ other_than o
      → eqb (get_or engaged b 0) k ≡ held_by_other p o (tenant_areas (progress_only progress) engaged) b
  unfolding held_by_other tiles_left
  held_left h k e = ap (eqb (get_or engaged b 0)) e ∙ sym (and_left _ _ (lt-ltb _ _ h))

-- ---- the shared word after a turn

pub word_free : (o g : ℕ) → g ≡ 0 → 2 ≡ word_for o g
unfolding word_for
word_free o g e = sym (pick_true _ _ _ (eq-eqb g 0 e))

pub word_held : (o g : ℕ) → g ≢ 0 → o ≡ word_for o g
unfolding word_for
word_held o g n = sym (pick_false _ _ _ (ne_eqb g 0 n))
