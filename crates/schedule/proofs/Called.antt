-- The driver's calls against the machine: what it tells, and each return of the call.
use Rattle.std.specs.Prelude.{◌≡◌, ℕ, eqb, ◌≢◌, List, length}
use mathlib.Core.Path.{refl, sym, ap, ◌∙◌}
use borrow.Author.Tests.{eq-eqb, ne_eqb}
use Rattle.base.specs.Numbers.{first_of}
use Rattle.base.proofs.Tests.{pick_true, pick_false}
use Rattle.machine.specs.Plan.{Plan, Sound}
use Rattle.machine.specs.Machine.{State, answered, fresh}
use Rattle.machine.proofs.RunLaws.{number_of, after_of}
use Rattle.layout.specs.RouteWords.{route_of}
use Rattle.recipe.specs.Routes.{lines_for}
use Rattle.rounds.specs.Rounds.{Told, told, drive, rounds, after_rounds, RoundsHold}
use Rattle.rounds.proofs.Theorem.{theorem213}
use Rattle.rounds.proofs.Alike.{driver_is, rounds_hold}
use Rattle.engine.specs.Calls.{answer, recipe, fresh_call_lines, fresh_call, collect_call}
use Rattle.engine.specs.Demands.{calls}
use Rattle.engine.proofs.Lines.{Opened}
use Rattle.engine.proofs.AsSteps.{collect_is}
use Rattle.engine.proofs.AsRuns.{same, inv_areas}
use Rattle.schedule.specs.Calls.{rounds_call}

-- ---- the calls' rounds are the machine's
module _ (bytes source : List ℕ) (ok : first_of (lines_for (route_of 0) bytes) ≡ 0) (so : Sound (recipe bytes 0))
    (long : length source ≡ (recipe bytes 0).cells) where
  pub driven : drive (calls bytes 0 source) (recipe bytes 0) (recipe bytes 0).tiles 0 (fresh (recipe bytes 0))
      ≡ told (rounds (recipe bytes 0)) (after_rounds (recipe bytes 0) source (rounds (recipe bytes 0)))
  driven =
      driver_is (recipe bytes 0) so source (calls bytes 0 source) (same bytes 0 source ok so long) (recipe bytes 0).tiles
      ∙ (theorem213 (recipe bytes 0) so source).tells (recipe bytes 0).tiles (theorem213 (recipe bytes 0) so source).few

  pub held : RoundsHold (calls bytes 0 source) (collect_call bytes 0 source) (recipe bytes 0) source
  held =
      rounds_hold (recipe bytes 0) so source (calls bytes 0 source) (same bytes 0 source ok so long) (collect_call bytes 0 source)
      (λ s inv grid e. collect_is bytes 0 source s ok (inv_areas bytes 0 source ok so long s inv) grid e)

-- ---- the call's returns
module _ (bytes source : List ℕ) (s : State) where
  pub refused_too : (n : ℕ) → n ≢ 0 → answer n s ≡ fresh_call bytes 0 source s → answer n (told 0 s) ≡ rounds_call bytes source s
  unfolding rounds_call fresh_call
  refused_too n ne e =
      ap (λ (x : Told). answer n x) (sym (pick_false _ _ _ (ne_eqb n 0 ne)))
      ∙ ap (λ (k : ℕ). answered k (drive (calls bytes 0 source) (recipe bytes 0) (recipe bytes 0).tiles 0 (fresh (recipe bytes 0))) (told 0 s)) (number_of e)

  -- as `refused` tells it
  pub refused_by : (a b n : ℕ) → a ≡ n → b ≡ 0 → n ≢ 0 → answer n s ≡ fresh_call bytes 0 source s → answer a (told b s) ≡ rounds_call bytes source s
  refused_by a b n e k ne h = ap (λ (i : ℕ). answer i (told b s)) e ∙ ap (λ (i : ℕ). answer n (told i s)) k ∙ refused_too n ne h

  none_then : {x : State} → answer 0 x ≡ fresh_call bytes 0 source s → first_of (fresh_call_lines bytes 0 source s) ≡ 0
  unfolding fresh_call
  none_then e = sym (number_of e)

  fresh_then : (x : State) → answer 0 x ≡ fresh_call bytes 0 source s → x ≡ fresh (recipe bytes 0)
  unfolding fresh_call
  fresh_then x e = after_of e ∙ pick_true _ _ _ (eq-eqb _ 0 (none_then e))

  done_recipe : (x : State) → answer 0 x ≡ fresh_call bytes 0 source s → (ok : first_of (lines_for (route_of 0) bytes) ≡ 0) → Sound (recipe bytes 0)
      → length source ≡ (recipe bytes 0).cells → (r : ℕ) (y : State) → r ≡ rounds (recipe bytes 0)
      → y ≡ after_rounds (recipe bytes 0) source (rounds (recipe bytes 0)) → answer 0 (told r y) ≡ rounds_call bytes source s
  unfolding rounds_call
  done_recipe x e ok so long r y re ye =
      ap (λ (d : Told). answer 0 d)
      (ap (λ (k : ℕ). told k y) re ∙ ap (λ (z : State). told (rounds (recipe bytes 0)) z) ye ∙ sym (driven bytes source ok so long)
      ∙ sym (pick_true (eqb 0 0) _ (told 0 s) (eq-eqb 0 0 refl)))
      ∙ ap (λ (k : ℕ). answered k (drive (calls bytes 0 source) (recipe bytes 0) (recipe bytes 0).tiles 0 (fresh (recipe bytes 0))) (told 0 s))
      (sym (none_then e))

  module _ (p : Plan) (o : Opened bytes 0 p) where
    pub fresh_now : (x : State) → answer 0 x ≡ fresh_call bytes 0 source s → x ≡ fresh p
    fresh_now x e = fresh_then x e ∙ ap fresh (sym o.is)

    pub done_too : Sound p → length source ≡ p.cells → (x : State) → answer 0 x ≡ fresh_call bytes 0 source s
        → (r : ℕ) (y : State) → (r ≡ rounds p) × (y ≡ after_rounds p source (rounds p)) → answer 0 (told r y) ≡ rounds_call bytes source s
    done_too so long x e r y d =
        done_recipe x e o.none (rw o.is at so) (rw o.is at long) r y (rw o.is at d.0) (rw o.is at d.1)
