-- Laws of the exported driver by rounds: each return of `drive` is the call by its line, and the records stored have the words it kept.
use Rattle.std.specs.Prelude.{◌≡◌, ℕ, ◌+◌, ◌-◌, ◌*◌, ◌<◌, ◌≤◌, Bool, true, false, eqb, ◌≢◌, List, [], ◌∷◌, ◌++◌, length, take, drop, replicate, Ok, Err}
use mathlib.Core.Path.{refl, sym, ap, ◌∙◌}
use native.Mathlib.Omega.{arith}
use native.Mathlib.Decide.{ℕ_discrete}
use lib.ListN.{length-append, length-drop, length-replicate}
use lib.Seq.{take_at, length-take-le}
use borrow.Author.Tests.{eq-eqb, ne_eqb}
use Rattle.base.specs.Tests.{◌and◌, not, pick}
use Rattle.base.specs.Numbers.{line, first_of}
use Rattle.base.specs.declared.refusal.Refusal.{Refusal}
use Rattle.base.specs.Refusals.{code}
use Rattle.base.proofs.Codes.{code_some}
use Rattle.base.proofs.Tests.{not-false, pick_true, pick_false}
use Rattle.base.proofs.Numbers.{first_true, first_some, first_behind}
use Rattle.machine.specs.Plan.{Plan, count, words}
use Rattle.machine.specs.Machine as machine
use Rattle.machine.specs.Machine.{State, state_of, answered}
use Rattle.machine.proofs.RunLaws.{number_of, after_of}
use Rattle.nest.specs.declared.Nest.{Nest}
use Rattle.nest.specs.Nest.{processors}
use Rattle.layout.specs.RouteWords.{route_of}
use Rattle.recipe.specs.Routes.{lines_for, ReadFor}
use Rattle.recipe.proofs.Laws.{numbered_for, accepted_for, none_for, refused_for_route}
use Rattle.rounds.specs.Rounds.{Told, told, drive}
use Rattle.records.specs.declared.Progress.{Progress}
use Rattle.records.specs.declared.Flat.{Flat}
use Rattle.records.specs.Records.{flat_words, put_all}
use Rattle.records.proofs.Words.{length_words}
use Rattle.records.proofs.Stores.{words_stored}
use Rattle.engine.specs.Calls.{answer, recipe, areas, fresh_call_lines}
use Rattle.engine.specs.Demands.{calls}
use Rattle.engine.proofs.Lines.{areas_are}
use Rattle.engine.proofs.Turns.{answered_no, answered_yes}
use Rattle.schedule.specs.Calls.{rounds_call}
use Rattle.calls.specs.DriverWords.{words_after}

pub nine_is_none : ◌≡◌ {A = ℕ} 9 0 → ⊥
nine_is_none e = omega (arith, e)

-- the words lent in place of the records', and what comes back
pub lent_long : (n : ℕ) → n ≤ 192 → length (take n (replicate {A = ℕ} 192 0)) ≡ n
lent_long n h = length-take-le n (replicate {A = ℕ} 192 0) (omega (arith, h, length-replicate {A = ℕ} 192 0))

module _ (bytes source m u t l : List ℕ) where
  abbrev p : Plan
  p = recipe bytes 0

  abbrev given : State
  given = state_of m u l t

  -- what a driver tells that refuses nothing
  abbrev done : Told
  done = drive (calls bytes 0 source) p p.tiles 0 (machine.fresh p)

  -- a refusal leaves the records' words
  as_before : (n : ℕ) (w : List ℕ) → n ≢ 0 → state_of m u (words_after l n w) t ≡ given
  unfolding words_after
  as_before n w h = ap (λ (k : List ℕ). state_of m u k t) (pick_false _ _ _ (ne_eqb n 0 h))

  by_line : (n a r : ℕ) (w : List ℕ) → a ≡ n → r ≡ 0 → n ≢ 0 → n ≡ first_of (fresh_call_lines bytes 0 source given)
      → answer a (told r (state_of m u (words_after l a w) t)) ≡ rounds_call bytes source given
  unfolding rounds_call
  by_line n a r w e z h is =
      ap (λ (k : ℕ). answer k (told r (state_of m u (words_after l k w) t))) e
      ∙ ap (λ (k : ℕ). answer n (told k (state_of m u (words_after l n w) t))) z
      ∙ ap (λ (s : State). answer n (told 0 s)) (as_before n w h)
      ∙ answered_no n done (told 0 given) h ∙ ap (λ (k : ℕ). answered k done (told 0 given)) is

  -- ---- the driver is not asked
  pub rounds_read : {why : Refusal} → ReadFor (route_of 0) bytes (Err why) → (a d : ℕ) (w : List ℕ) → a ≡ code why → d ≡ 0
      → answer a (told d (state_of m u (words_after l a w) t)) ≡ rounds_call bytes source given
  rounds_read {why = why} e a d w is z =
      by_line (code why) a d w is z (code_some why) (e.number ∙ sym (first_some (lines_for (route_of 0) bytes) _ (refused_for_route e)))

  module _ {x : Nest} (e : ReadFor (route_of 0) bytes (Ok x)) where
    many : 192 < length l → areas p source given ≡ false
    many h = by (areas p source given) refl
      where
        by : (b : Bool) → areas p source given ≡ b → b ≡ false
        by true q =
            absurd (omega (
              arith,
              h,
              (areas_are p source given q).progress,
              ap processors e.nest,
              (accepted_for e).processors_most,
            ))
        by false q = refl

    pub rounds_nine : (a d : ℕ) (w : List ℕ) → a ≡ 9 → d ≡ 0 → (words : ℕ) → words ≡ length l → 192 < words
        → answer a (told d (state_of m u (words_after l a w) t)) ≡ rounds_call bytes source given
    rounds_nine a d w is none words long k =
        by_line 9 a d w is none (λ q. omega arith)
        (sym (first_behind (lines_for (route_of 0) bytes) _ (numbered_for (route_of 0) bytes) (none_for e)
        ∙ first_true 9 _ [] (not-false (many (omega (arith, long, k))))))

  -- ---- the driver was asked, lent words z in place of the records'
  module _ (z : List ℕ) (same : length z ≡ length l) (n rd : ℕ) (m' u' z' t' : List ℕ)
      (q : answer n (told rd (state_of m' u' z' t')) ≡ rounds_call bytes source (state_of m u z t)) where
    lines_are : first_of (fresh_call_lines bytes 0 source (state_of m u z t)) ≡ first_of (fresh_call_lines bytes 0 source given)
    unfolding areas
    lines_are =
        ap
        (λ (k : ℕ).
        first_of (lines_for (route_of 0) bytes ++ (line 9 (not (eqb (length source) p.cells
        and (eqb (length m) (p.processors * p.cells) and (eqb (length u) (words p) and (eqb k (3 * p.processors) and eqb (length t) (count p)))))) ∷ [])))
        same

    number_is : n ≡ first_of (fresh_call_lines bytes 0 source given)
    unfolding rounds_call
    number_is = number_of q ∙ lines_are

    as_told : n ≢ 0 → told rd (state_of m' u' z' t') ≡ told 0 (state_of m u z t)
    unfolding rounds_call
    as_told h = after_of q ∙ pick_false _ _ _ (ne_eqb _ 0 (λ k. h (number_of q ∙ k)))

    as_done : n ≡ 0 → told rd (state_of m' u' z' t') ≡ done
    unfolding rounds_call
    as_done h = after_of q ∙ pick_true _ _ _ (eq-eqb _ 0 (sym (number_of q) ∙ h))

    pub run_told : (w : List ℕ) → take (length l) w ≡ z'
        → answer n (told rd (state_of m' u' (words_after l n w) t')) ≡ rounds_call bytes source given
    unfolding rounds_call words_after
    run_told w e = by (ℕ_discrete n 0)
      where
        by : Dec (n ≡ 0) → answer n (told rd (state_of m' u' (pick (eqb n 0) (take (length l) w) l) t')) ≡ answered
            (first_of (fresh_call_lines bytes 0 source given)) done (told 0 given)
        by (yes h) =
            ap (λ (k : List ℕ). answer n (told rd (state_of m' u' k t'))) (pick_true _ _ _ (eq-eqb n 0 h) ∙ e)
            ∙ ap (answer n) (as_done h) ∙ ap (λ (k : ℕ). answer k done) h
            ∙ answered_yes _ done (told 0 given) (sym number_is ∙ h)
        by (no h) =
            ap (λ (k : List ℕ). answer n (told rd (state_of m' u' k t'))) (pick_false _ _ _ (ne_eqb n 0 h))
            ∙ ap (λ (x : Told). answer n (told x.rounds_done (state_of x.after.memories x.after.buffer l x.after.status))) (as_told h)
            ∙ answered_no n done (told 0 given) h ∙ ap (λ (k : ℕ). answered k done (told 0 given)) number_is

-- the words kept: those that came back, then the rest
module _ (n : ℕ) (h : n ≤ 192) (z : List ℕ) (e : length z ≡ length (take n (replicate {A = ℕ} 192 0))) where
  pub kept_front : (k : ℕ) → n ≡ k → take k (z ++ drop n (replicate {A = ℕ} 192 0)) ≡ z
  kept_front k q = take_at z (drop n (replicate {A = ℕ} 192 0)) k (e ∙ lent_long n h ∙ q)

  pub kept_long : length (z ++ drop n (replicate {A = ℕ} 192 0)) ≡ 192
  kept_long =
      length-append z (drop n (replicate {A = ℕ} 192 0)) ∙ ap (λ (k : ℕ). k + length (drop n (replicate {A = ℕ} 192 0))) (e ∙ lent_long n h)
      ∙ ap (λ (k : ℕ). n + k) (length-drop n (replicate {A = ℕ} 192 0) ∙ ap (λ (k : ℕ). k - n) (length-replicate {A = ℕ} 192 0)) ∙ omega (arith, h)

-- ---- the records stored have the words that the driver kept
pub stored_words : (f : Flat) (n : ℕ) (rs : List Progress) → length f.words ≡ 192 → (n ≡ 0 → 3 * length rs ≤ 192)
    → flat_words (put_all n f rs) ≡ words_after (flat_words rs) n f.words
unfolding words_after
stored_words f n rs e few = words_stored f n rs e (λ z. omega (arith, few z, length_words rs))
