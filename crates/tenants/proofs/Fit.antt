-- The tests of W-208's numbers 10 and 19 hold exactly where their clauses do; a turn's number by these clauses.
use Prim.Native.Nat.{ℕ}
use mathlib.Core.Path.{◌≡◌, refl, sym, ◌∙◌}
use mathlib.Core.Logic.{◌⊎◌, inl, inr, ◌≢◌}
use mathlib.Core.Bool.{Bool, true, false}
use mathlib.Core.List.{List, [], ◌∷◌}
use native.Mathlib.Decide.{ℕ_discrete}
use lib.Dec.{ltb, leb, eqb}
use borrow.Author.Tests.{eqb-true, eq-eqb, ne_eqb, lt-ltb, ltb-true, ltb-false, le-leb, leb-true, leb-false}
use Rattle.base.specs.Tests.{not, pick}
use Rattle.base.specs.Numbers.{line, first_of}
use Rattle.base.proofs.Tests.{both, either, and_true, pick_true, pick_false, every_at, every_all, never_both}
use Rattle.machine.specs.Plan.{Plan}
use Rattle.machine.specs.Machine.{progress_only, stage_of, tiles_left, fit_record, waiting}
use Rattle.machine.proofs.Fit.{tests, none_left, some_left}
use Rattle.tenants.specs.Tenants.{TenantAreas, holder_of, other_than, stage_agrees, fit_word, fit_for, held_by_other, turn_for}
use Rattle.tenants.specs.Fit.{FitWord, FitFor, Engaged, TestsFor, TurnNumberFor, NumbersFor}
use Rattle.tenants.proofs.SharedWords.{agrees_held, agrees_free, free_zero}

held_stage : (w o g : ℕ) → stage_agrees w o g ≡ true → w ≡ o → (g ≡ 1) ⊎ (g ≡ 2)
unfolding stage_agrees
held_stage w o g h e = go (either (sym (pick_true _ _ _ (eq-eqb w o e)) ∙ h))
  where
    go : (eqb g 1 ≡ true) ⊎ (eqb g 2 ≡ true) → (g ≡ 1) ⊎ (g ≡ 2)
    go (inl k) = inl (eqb-true g 1 k)
    go (inr k) = inr (eqb-true g 2 k)

agrees : (w o g : ℕ) → (w ≡ o → (g ≡ 1) ⊎ (g ≡ 2)) → (w ≢ o → g ≡ 0) → stage_agrees w o g ≡ true
agrees w o g held free = go (ℕ_discrete w o)
  where
    go : Dec (w ≡ o) → stage_agrees w o g ≡ true
    go (yes e) = agrees_held w o g e (held e)
    go (no n) = agrees_free w o g n (free n)

module _ (p : Plan) (o : ℕ) (l : TenantAreas) (theirs : List ℕ) where
  word_only : (b : ℕ) → fit_word o l theirs b ≡ true
      → FitWord o (holder_of l.engaged b) (stage_of l.own b) (stage_of (progress_only theirs) b)
  unfolding fit_word
  word_only b e =
      let q = both e in
      let r = both q.1 in
      record {
        word_low = leb-true _ _ q.0;
        own_engaged = held_stage _ o _ r.0;
        other_engaged = held_stage _ (other_than o) _ r.1;
        own_free = free_zero _ o _ r.0;
        other_free = free_zero _ (other_than o) _ r.1;
      }

  word_whenever : (b : ℕ) → FitWord o (holder_of l.engaged b) (stage_of l.own b) (stage_of (progress_only theirs) b)
      → fit_word o l theirs b ≡ true
  unfolding fit_word
  word_whenever b c =
      and_true (le-leb _ _ c.word_low)
      (and_true (agrees _ o _ c.own_engaged c.own_free) (agrees _ (other_than o) _ c.other_engaged c.other_free))

  all_only : fit_for p o l theirs ≡ true → FitFor p o l theirs
  unfolding fit_for
  all_only e =
      let q = both e in
      let r = both q.1 in
      record {
        own = (tests p l.own).state_fit.only q.0;
        others = λ b h. ((tests p (progress_only theirs)).record_fit b).only (every_at (fit_record p (progress_only theirs)) p.processors r.0 b h);
        shared = λ b h. word_only b (every_at (fit_word o l theirs) p.processors r.1 b h);
      }

  all_whenever : FitFor p o l theirs → fit_for p o l theirs ≡ true
  unfolding fit_for
  all_whenever c =
      and_true ((tests p l.own).state_fit.whenever c.own)
      (and_true (every_all (fit_record p (progress_only theirs)) p.processors
      (λ b h. ((tests p (progress_only theirs)).record_fit b).whenever (c.others b h)))
      (every_all (fit_word o l theirs) p.processors (λ b h. word_whenever b (c.shared b h))))

  engaged_only : (b : ℕ) → held_by_other p o l b ≡ true → Engaged p o l b
  unfolding held_by_other
  engaged_only b e = let q = both e in record { left = some_left p l.own b q.0; held = eqb-true _ _ q.1 }

  engaged_whenever : (b : ℕ) → Engaged p o l b → held_by_other p o l b ≡ true
  unfolding held_by_other tiles_left
  engaged_whenever b c = and_true (lt-ltb _ _ c.left) (eq-eqb _ _ c.held)

  pub tests_for : TestsFor p o l theirs
  tests_for =
      record {
        all_fit = record { only = all_only; whenever = all_whenever };
        engaged = λ b. record { only = engaged_only b; whenever = engaged_whenever b };
      }

  turn_number : (b : ℕ) (i t c h w r : Bool) → leb o 1 ≡ i → fit_for p o l theirs ≡ t → ltb b p.processors ≡ c → held_by_other p o l b ≡ h
      → waiting p l.own b ≡ w → tiles_left p l.own b ≡ r
      → TurnNumberFor p o l theirs b
      (first_of (line 11 (not i) ∷ line 10 (not t) ∷ line 11 (not c) ∷ line 19 h ∷ line 12 w ∷ line 13 (not r) ∷ []))
  unfolding first_of not pick
  turn_number b false t c h w r a0 a1 a2 a3 a4 a5 = TurnNumberFor.no_tenant (leb-false _ _ a0)
  turn_number b true false c h w r a0 a1 a2 a3 a4 a5 = TurnNumberFor.unfit (leb-true _ _ a0) (λ q. never_both (all_whenever q) a1)
  turn_number b true true false h w r a0 a1 a2 a3 a4 a5 = TurnNumberFor.no_such (leb-true _ _ a0) (all_only a1) (ltb-false _ _ a2)
  turn_number b true true true true w r a0 a1 a2 a3 a4 a5 =
      TurnNumberFor.engaged (leb-true _ _ a0) (all_only a1) (ltb-true _ _ a2) (engaged_only b a3)
  turn_number b true true true false true r a0 a1 a2 a3 a4 a5 =
      TurnNumberFor.waits (leb-true _ _ a0) (all_only a1) (ltb-true _ _ a2) (λ q. never_both (engaged_whenever b q) a3)
      (((tests p l.own).waits b).only a4)
  turn_number b true true true false false false a0 a1 a2 a3 a4 a5 =
      TurnNumberFor.over (leb-true _ _ a0) (all_only a1) (ltb-true _ _ a2) (none_left p l.own b (all_only a1).own (ltb-true _ _ a2) a5)
  turn_number b true true true false false true a0 a1 a2 a3 a4 a5 =
      TurnNumberFor.done (leb-true _ _ a0) (all_only a1) (ltb-true _ _ a2) (some_left p l.own b a5)
      (λ q. never_both (engaged_whenever b q) a3) (λ q. never_both (((tests p l.own).waits b).whenever q) a4)

pub numbers_for : (p : Plan) (source : List ℕ) (o : ℕ) (l : TenantAreas) (theirs : List ℕ) → NumbersFor p source o l theirs
unfolding turn_for
numbers_for p source o l theirs =
    record {
      of_turn = λ b. turn_number p o l theirs b _ _ _ _ _ _ refl refl refl refl refl refl;
      turn_refused = λ b n. pick_false _ _ _ (ne_eqb _ 0 n);
    }
