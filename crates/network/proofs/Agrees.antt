-- When one processor's own areas agree with the shared ones, in all that it ever reads; what its turn then gives.
use Prim.Native.Nat.{ℕ, ◌+◌, ◌*◌, ◌≤◌, ◌<◌}
use mathlib.Core.Path.{◌≡◌, refl, sym, ap, ◌∙◌}
use mathlib.Core.Logic.{◌≢◌}
use mathlib.Core.Bool.{Bool, true, false}
use mathlib.Core.List.{List, [], ◌∷◌}
use lib.ListN.{length, get_or}
use lib.Dec.{ltb, leb, eqb}
use borrow.Author.Tests.{ltb-true, le-leb, ne_eqb}
use Rattle.base.specs.Tests.{◌and◌, not, pick}
use Rattle.base.specs.Lists.{In, all_at}
use Rattle.base.specs.Numbers.{line, first_of}
use Rattle.base.proofs.Tests.{and_true, every_all, pick_false}
use Rattle.base.proofs.Select.{those_in}
use Rattle.machine.specs.Plan.{Plan, count, taker_of, tiles_of, sends_of, dues_of}
use Rattle.machine.specs.Machine.{State, finished_of, stage_of, set_progress, memory_of, place_of, current_tile, tiles_left, fit_record, fit, after_sends, next_action}
use Rattle.machine.specs.Machine.{carry_out, waiting, turn}
use Rattle.machine.proofs.Records.{finished_same, stage_same, sent_same, SameRecord, same_back, same_then, record_other, after_other}
use Rattle.machine.proofs.Turns.{by_next}
use Rattle.machine.proofs.Progress.{Shape, here_is}
use Rattle.machine.proofs.Kept.{Inv, inv_fit, status_of}
use Rattle.network.specs.Apart.{taker_at}
use Rattle.network.proofs.Letters.{Letter, all_at_same}

-- processor b's own areas r agree with the shared ones s, but perhaps for the messages that P names
pub record Agrees (Q P : ℕ → Type 0) (p : Plan) (s : State) (b : ℕ) (r : State) : Type 0 where
  pub shape : Shape p r
  pub high : (m : ℕ) → m < count p → status_of r m ≤ 3
  pub memory : memory_of p r b ≡ memory_of p s b
  pub recorded : SameRecord b r.progress s.progress
  pub letters : (m : ℕ) → m < count p → (P m → ⊥) → Letter Q p b m (status_of s m) (status_of r m) (place_of p s.buffer m) (place_of p r.buffer m)

abbrev pub Nothing : ℕ → Type 0
Nothing m = ⊥

-- ---- records set anew
module _ (b k : ℕ) (low : b < k) (x y : List ℕ) (lx : length x ≡ 3 * k) (ly : length y ≡ 3 * k) where
  pub set_both : (f f' g n : ℕ) → f ≡ f' → SameRecord b (set_progress x b f g n) (set_progress y b f' g n)
  set_both f f' g n e =
      record {
        finished = finished_same x b k lx low f g n ∙ e ∙ sym (finished_same y b k ly low f' g n);
        stage = stage_same x b k lx low f g n ∙ sym (stage_same y b k ly low f' g n);
        sent = sent_same x b k lx low f g n ∙ sym (sent_same y b k ly low f' g n);
      }

pub set_away : (c b f g n : ℕ) (x y : List ℕ) → c ≢ b → SameRecord c x y → SameRecord c x (set_progress y b f g n)
set_away c b f g n x y ne e = same_then (same_back (record_other y b f g n c ne)) e

module _ (p : Plan) (s : State) (b t : ℕ) where
  pub after_both : (r : State) (n n' : ℕ) → b < p.processors → length r.progress ≡ 3 * p.processors → length s.progress ≡ 3 * p.processors
      → finished_of r b ≡ finished_of s b → n ≡ n' → SameRecord b (after_sends p r b t n) (after_sends p s b t n')
  unfolding after_sends pick
  after_both r n n' low lr ls e en = rw en (go (ltb n' (length (sends_of p t))))
    where
      go : (more : Bool) → SameRecord b (pick more (set_progress r.progress b (finished_of r b) 2 n') (set_progress r.progress b (finished_of r b + 1) 0 0))
          (pick more (set_progress s.progress b (finished_of s b) 2 n') (set_progress s.progress b (finished_of s b + 1) 0 0))
      go true = set_both b p.processors low r.progress s.progress lr ls (finished_of r b) (finished_of s b) 2 n' e
      go false = set_both b p.processors low r.progress s.progress lr ls (finished_of r b + 1) (finished_of s b + 1) 0 0 (ap (λ (f : ℕ). f + 1) e)

  pub after_away : (c n : ℕ) (x : List ℕ) → c ≢ b → SameRecord c x s.progress → SameRecord c x (after_sends p s b t n)
  after_away c n x ne e = same_then (same_back (after_other p s b t n c ne)) e

-- ---- the lines of a turn
pub waiting_law : (x : Bool) (g g' : ℕ) (y y' : Bool) → g ≡ g' → (x ≡ true → y ≡ y') → (x and (eqb g 0 and not y)) ≡ (x and (eqb g' 0 and not y'))
unfolding ◌and◌
waiting_law true g g' y y' e f = rw (e, f refl)
waiting_law false g g' y y' e f = refl

pub lines_law : (f f' l w w' t t' : Bool) → f ≡ f' → w ≡ w' → t ≡ t'
    → first_of (line 10 (not f) ∷ line 11 (not l) ∷ line 12 w ∷ line 13 (not t) ∷ [])
    ≡ first_of (line 10 (not f') ∷ line 11 (not l) ∷ line 12 w' ∷ line 13 (not t') ∷ [])
lines_law f f' l w w' t t' ef ew et = rw (ef, ew, et)

module _ {Q : ℕ → Type 0} (p : Plan) (source : List ℕ) (s : State) (b : ℕ) (r : State) (inv : Inv p source s) (ag : Agrees Q Nothing p s b r) where
  pub agrees_fit : fit p r ≡ true
  unfolding fit
  agrees_fit =
      and_true (every_all (fit_record p r) p.processors ag.shape.records)
      (every_all (λ m. leb (status_of r m) 3) (count p) (λ m lo. le-leb _ _ (ag.high m lo)))

  pub left_same : tiles_left p r b ≡ tiles_left p s b
  unfolding tiles_left
  left_same = ap (λ (f : ℕ). ltb f (length (tiles_of p b))) ag.recorded.finished

  pub tile_same : current_tile p r b ≡ current_tile p s b
  tile_same = ap (λ (f : ℕ). get_or (tiles_of p b) f 0) ag.recorded.finished

  -- a message due at the current tile
  pub due_here : finished_of s b < length (tiles_of p b) → (m : ℕ) → In m (dues_of p (current_tile p s b)) → (m < count p) × (taker_at p m ≡ b)
  due_here h m i =
      let k = those_in (taker_of p) (current_tile p s b) (count p) m i in
      (k.0, ap p.processor_of k.1 ∙ here_is p s b h)

  dues_same : finished_of s b < length (tiles_of p b) → all_at r.status 2 (dues_of p (current_tile p r b)) ≡ all_at s.status 2 (dues_of p (current_tile p s b))
  dues_same h =
      ap (λ (t : ℕ). all_at r.status 2 (dues_of p t)) tile_same
      ∙ all_at_same r.status s.status 2 (dues_of p (current_tile p s b))
      (λ m i. let k = due_here h m i in ((ag.letters m k.0 (λ z. z)).due_two k.1, (ag.letters m k.0 (λ z. z)).two_due k.1))

  has_left : tiles_left p s b ≡ true → finished_of s b < length (tiles_of p b)
  unfolding tiles_left
  has_left e = ltb-true _ _ e

  waiting_same : waiting p r b ≡ waiting p s b
  unfolding waiting
  waiting_same =
      ap (λ (x : Bool). x and (eqb (stage_of r b) 0 and not (all_at r.status 2 (dues_of p (current_tile p r b))))) left_same
      ∙ waiting_law (tiles_left p s b) (stage_of r b) (stage_of s b) _ _ ag.recorded.stage (λ e. dues_same (has_left e))

  pub number_same : (turn p source r b).number ≡ (turn p source s b).number
  unfolding turn
  number_same = lines_law (fit p r) (fit p s) (ltb b p.processors) _ _ _ _ (agrees_fit ∙ sym (inv_fit p source s inv)) waiting_same left_same

  pub next_same : next_action p r b ≡ next_action p s b
  next_same = let a = ag.recorded.finished in let c = ag.recorded.stage in let d = ag.recorded.sent in cc

  -- a refused turn writes nothing, one that gave 0 carries out the next action of the shared record
  pub stays_same : (turn p source r b).number ≢ 0 → (turn p source r b).after ≡ r
  unfolding turn
  stays_same n = pick_false _ _ _ (ne_eqb _ 0 n)

  pub goes_same : (turn p source r b).number ≡ 0 → (turn p source r b).after ≡ carry_out p source r b (next_action p s b)
  goes_same z = by_next p source r b z ∙ ap (carry_out p source r b) next_same
