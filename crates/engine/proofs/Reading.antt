-- Laws of the records' words as a call reads them, and of what a turn and a fresh start make of them.
use Rattle.std.specs.Prelude.{◌≡◌, ℕ, ◌+◌, ◌-◌, ◌*◌, ◌<◌, ◌≤◌, Bool, true, false, eqb, ltb, ◌≢◌, List, [], ◌∷◌, ◌++◌, length, take, drop, set, replicate}
use mathlib.Core.Path.{refl, sym, ap, ◌∙◌}
use native.Mathlib.Omega.{arith}
use lib.Seq.{length-take-le}
use borrow.Author.Tests.{eq-eqb, ne_eqb, ltb-true}
use Rattle.base.specs.Tests.{not, pick, every, some}
use Rattle.base.specs.Numbers.{Line, line, first_of}
use Rattle.base.proofs.Tests.{pick_true, pick_false, true_not}
use Rattle.base.proofs.Numbers.{none_first, none_behind}
use Rattle.machine.specs.Plan.{Plan}
use Rattle.machine.specs.Machine.{State, state_of, Answered, set_progress, fit_record, fit, waiting, tiles_left, turn_lines}
use Rattle.nest.specs.declared.Nest.{Nest}
use Rattle.nest.specs.Nest.{processors}
use Rattle.recipe.specs.Routes.{lines_for}
use Rattle.recipe.proofs.Laws.{numbered_for}
use Rattle.layout.specs.declared.Sizes.{Sizes}
use Rattle.layout.specs.Sizes.{Sized}
use Rattle.layout.specs.RouteWords.{route_of}
use Rattle.records.specs.declared.Progress.{Progress}
use Rattle.records.specs.declared.Flat.{Flat}
use Rattle.records.specs.Records.{flat_words, Flattens, zeros, clear_all}
use Rattle.records.proofs.Words.{length_words, words_put, words_cleared}
use Rattle.stages.specs.Progress.{progress_only, set_record}
use Rattle.engine.specs.Given.{zeros_after}
use Rattle.engine.specs.Calls.{answer, recipe, areas, area_lines, turn_call}
use Rattle.engine.proofs.Lines.{areas_are}

-- ---- what is read

pub few_words : (x : Nest) (z : Sizes) → Sized x z → (n : ℕ) → n ≡ 3 * processors x → n ≤ 192
few_words x z g n e = omega (arith, e, g.accepted.processors_most)

-- the words that a call reads of records, where they are no more than any recipe's
pub part_carries : (f : Flat) → length f.words ≡ 192 → f.count ≤ 192 → Flattens f (take (f.count - 0) (drop 0 f.words))
part_carries f room few = record { counted = sym long; kept = λ _. ap (λ (k : ℕ). take k f.words) long ∙ all; room = room }
  where
    long : length (take (f.count - 0) (drop 0 f.words)) ≡ f.count
    long = length-take-le (f.count - 0) f.words (omega (arith, room, few)) ∙ whole f.count
      where
        whole : (n : ℕ) → n - 0 ≡ n
        whole n = omega arith

    all : take f.count f.words ≡ take (f.count - 0) (drop 0 f.words)
    all = ap (λ (k : ℕ). take k f.words) (same f.count)
      where
        same : (n : ℕ) → n ≡ n - 0
        same n = omega arith

pub part_is : (f : Flat) (l : List ℕ) → f.count ≤ 192 → Flattens f l → take (f.count - 0) (drop 0 f.words) ≡ l
part_is f l few h = ap (λ (k : ℕ). take k f.words) (whole f.count (length l) h.counted) ∙ h.kept (omega (arith, few, h.counted))
  where
    whole : (n k : ℕ) → n ≡ k → n - 0 ≡ k
    whole n k e = omega (arith, e)

-- ---- what a turn makes

-- the words of the records after one of them was stored
pub stored_after : (rs : List Progress) (b : ℕ) (p : Progress) → flat_words (set rs b p) ≡ set_record (flat_words rs) b p
unfolding set_progress
stored_after rs b p = words_put rs b p

-- a turn that gives 0 has a record there
module _ (l : List ℕ) (route : ℕ) (source : List ℕ) (s : State) (b : ℕ) where
  abbrev p : Plan
  p = recipe l route

  -- the lines 12 and 13 of the turn
  abbrev later : List Line
  later = line 12 (waiting p s b) ∷ line 13 (not (tiles_left p s b)) ∷ []

  inside : first_of (area_lines p source s ++ turn_lines p s b) ≡ 0 → 3 * b + 2 < length s.progress
  inside z =
      let a = none_first 9 (not (areas p source s)) (turn_lines p s b) (λ q. omega arith) z in
      let f = none_first 10 (not (fit p s)) (line 11 (not (ltb b p.processors)) ∷ later) (λ q. omega arith) a.1 in
      let t = none_first 11 (not (ltb b p.processors)) later (λ q. omega arith) f.1 in
      omega (arith, (areas_are p source s (true_not a.0)).progress, ltb-true b p.processors (true_not t.0))

  pub turn_inside : (turn_call l route source s b).number ≡ 0 → 3 * b + 2 < length s.progress
  unfolding turn_call
  turn_inside e = inside (none_behind (lines_for (route_of route) l) (area_lines p source s ++ turn_lines p s b) (numbered_for (route_of route) l) e)

-- ---- what a fresh start makes

module _ (m u t : List ℕ) (x : Answered State) (l : List ℕ) (r : ℕ) (q : answer r (state_of m u (zeros_after l r) t) ≡ x) where
  pub not_cleared : r ≢ 0 → answer r (state_of m u l t) ≡ x
  unfolding zeros_after
  not_cleared h = ap (λ (k : List ℕ). answer r (state_of m u k t)) (sym (pick_false _ _ _ (ne_eqb r 0 h))) ∙ q

  pub all_cleared : r ≡ 0 → (l' : List ℕ) → l' ≡ replicate (length l) 0 → answer 0 (state_of m u l' t) ≡ x
  unfolding zeros_after
  all_cleared h l' e =
      ap (λ (k : List ℕ). answer 0 (state_of m u k t)) (e ∙ sym (pick_true _ _ _ (eq-eqb r 0 h)))
      ∙ ap (λ (k : ℕ). answer k (state_of m u (zeros_after l r) t)) (sym h) ∙ q

pub zeros_after_no : (l : List ℕ) (r : ℕ) → r ≢ 0 → l ≡ zeros_after l r
unfolding zeros_after
zeros_after_no l r h = sym (pick_false _ _ _ (ne_eqb r 0 h))

pub zeros_after_yes : (l : List ℕ) → replicate (length l) 0 ≡ zeros_after l 0
unfolding zeros_after pick
zeros_after_yes l = refl

pub cleared_after : (rs : List Progress) (r : ℕ) → flat_words (clear_all r rs) ≡ zeros_after (flat_words rs) r
unfolding clear_all zeros_after pick
cleared_after rs r = by (eqb r 0)
  where
    by : (t : Bool) → flat_words (pick t (replicate (length rs) zeros) rs) ≡ pick t (replicate (length (flat_words rs)) 0) (flat_words rs)
    by true = words_cleared rs
    by false = refl

-- ---- tests that look at the records alone

pub fits_as : (p : Plan) (k l : List ℕ) → k ≡ l
    → every (fit_record p (progress_only l)) p.processors ≡ every (fit_record p (progress_only k)) p.processors
fits_as p k l e = ap (λ (z : List ℕ). every (fit_record p (progress_only z)) p.processors) (sym e)

pub left_as : (p : Plan) (k l : List ℕ) → k ≡ l
    → some (tiles_left p (progress_only l)) p.processors ≡ some (tiles_left p (progress_only k)) p.processors
left_as p k l e = ap (λ (z : List ℕ). some (tiles_left p (progress_only z)) p.processors) (sym e)

-- ---- the records of a turn that gave 0

pub record_there : (l : List ℕ) (route : ℕ) (source m u t : List ℕ) (rs : List Progress) (b n : ℕ) (x : State)
    → answer n x ≡ turn_call l route source (state_of m u (flat_words rs) t) b → n ≡ 0 → b < length rs
record_there l route source m u t rs b n x e z =
    omega (
      arith,
      length_words rs,
      turn_inside l route source (state_of m u (flat_words rs) t) b (ap (λ (y : Answered State). y.number) (sym e) ∙ z),
    )
