-- A turn of one processor on its own areas and on the shared ones: they still agree, and so do the other processors' areas with the shared ones.
use Prim.Native.Nat.{ℕ, ◌+◌, ◌≤◌, ◌<◌}
use mathlib.Core.Path.{◌≡◌, refl, sym, ap, ◌∙◌, subst}
use mathlib.Core.Logic.{◌≢◌}
use mathlib.Core.List.{List}
use native.Mathlib.Omega.{arith}
use native.Mathlib.Decide.{ℕ_discrete}
use lib.ListN.{length, get_or, set, length-set}
use lib.Seq.{get_or-set_same, get_or-set_other}
use Rattle.base.specs.Lists.{In, put, set_all, store_all, pack}
use Rattle.base.proofs.Select.{in_those, those_in}
use Rattle.base.proofs.Lists.{length_put, pack_length, store_length, set_all_length, set_all_same, set_all_other}
use Rattle.machine.specs.Plan.{Plan, Sound, count, sender_of, taker_of, held_by, tiles_of, sends_of, dues_of, offset}
use Rattle.machine.specs.Machine.{State, state_of, finished_of, stage_of, sent_of, memory_of, place_of, current_tile, unpack_all, after_sends, Action, gather}
use Rattle.machine.specs.Machine.{calculate, send, next_action, carry_out, Answered, turn}
use Rattle.machine.proofs.Records.{fit_early}
use Rattle.machine.proofs.Values.{gathered_length, gathers_same}
use Rattle.machine.proofs.Turns.{Turned, turned, next_zero, next_one, next_two}
use Rattle.machine.proofs.Progress.{Shape, here_is}
use Rattle.machine.proofs.Kept.{Inv, status_of, sending, shape_then, shape_after, next_send, m₀_low, m₀_from, unsent, memory_length, memory_new}
use Rattle.machine.proofs.Kept.{memories_length, memory_other}
use Rattle.network.proofs.Letters.{Letter, letter_both, letter_is, letter_taken, letter_sent, words_fit, words_there, words_other}
use Rattle.network.proofs.Agrees.{Agrees, Nothing, set_both, set_away, after_both, after_away, tile_same, due_here, stays_same, goes_same, number_same}

none : ⊥ → ⊥
none z = z

module _ (p : Plan) (so : Sound p) (source : List ℕ) (s : State) (b : ℕ) (inv : Inv p source s) (low : b < p.processors) (h : finished_of s b < length
    (tiles_of p b)) where
  abbrev t : ℕ
  t = current_tile p s b

  -- ---- gather
  module _ (arrived : (m : ℕ) → In m (dues_of p t) → status_of s m ≡ 2) where
    abbrev gathered : State → List ℕ
    gathered r = unpack_all p r.buffer (memory_of p r b) (dues_of p t)

    gather_length : (r : State) → Shape p r → length (gathered r) ≡ p.cells
    gather_length r sh = gathered_length p r.buffer (dues_of p t) (memory_of p r b) ∙ memory_length p r b low sh

    due_in : (m : ℕ) → m < count p → taker_of p m ≡ t → In m (dues_of p t)
    due_in m lo e = in_those (taker_of p) t (count p) m lo e

    taken_now : (r : State) → Shape p r → (m : ℕ) → m < count p → taker_of p m ≡ t → get_or (set_all r.status (dues_of p t) 3) m 0 ≡ 3
    taken_now r sh m lo e = set_all_same (dues_of p t) r.status 3 m (rw sh.status lo) (due_in m lo e)

    not_taken : (r : State) (m : ℕ) → taker_of p m ≢ t → get_or (set_all r.status (dues_of p t) 3) m 0 ≡ status_of r m
    not_taken r m n = set_all_other (dues_of p t) r.status 3 m (λ i. n (those_in (taker_of p) t (count p) m i).1)

    module _ {Q : ℕ → Type 0} (r : State) (ag : Agrees Q Nothing p s b r) where
      gathered_same : gathered r ≡ gathered s
      gathered_same =
          ap (λ (l : List ℕ). unpack_all p r.buffer l (dues_of p t)) ag.memory
          ∙ gathers_same p r.buffer s.buffer (dues_of p t) (memory_of p s b)
          (λ m i. let k = due_here p source s b r inv ag h m i in (ag.letters m k.0 none).due_words k.1 (arrived m i))

      gather_letter : (m : ℕ) → m < count p → Dec (taker_of p m ≡ t)
          → Letter Q p b m (get_or (set_all s.status (dues_of p t) 3) m 0) (get_or (set_all r.status (dues_of p t) 3) m 0) (place_of p s.buffer m)
          (place_of p r.buffer m)
      gather_letter m lo (yes e) =
          letter_both p b m _ _ _ _ (omega (arith, taken_now r ag.shape m lo e)) (taken_now s inv.shape m lo e ∙ sym (taken_now r ag.shape m lo e))
          ((ag.letters m lo none).due_words (due_here p source s b r inv ag h m (due_in m lo e)).1 (arrived m (due_in m lo e)))
          (λ i n k. absurd (omega (arith, taken_now s inv.shape m lo e)))
          (λ k. omega (arith, taken_now s inv.shape m lo e)) (λ k o. omega (arith, taken_now r ag.shape m lo e))
          (λ i o. omega (arith, taken_now r ag.shape m lo e))
      gather_letter m lo (no n) = letter_is p b m (not_taken s m n) (not_taken r m n) refl refl (ag.letters m lo none)

      own_gather : Agrees Q Nothing p (carry_out p source s b (gather t)) b (carry_out p source r b (gather t))
      unfolding carry_out
      own_gather =
          record {
            shape = shape_then p r b low ag.shape (finished_of r b) 1 0 _ _ _
                (memories_length p r b low ag.shape (gathered r) (gather_length r ag.shape)) refl
                (set_all_length (dues_of p t) r.status 3) (fit_early p b (finished_of r b) 1 (omega arith) (rw ag.recorded.finished h));
            high = λ m lo. (gather_letter m lo (ℕ_discrete (taker_of p m) t)).high;
            memory = memory_new p r b low ag.shape (gathered r) (gather_length r ag.shape) ∙ gathered_same
                ∙ sym (memory_new p s b low inv.shape (gathered s) (gather_length s inv.shape));
            recorded = set_both b p.processors low r.progress s.progress ag.shape.progress inv.shape.progress (finished_of r b)
                (finished_of s b) 1 0 ag.recorded.finished;
            letters = λ m lo z. gather_letter m lo (ℕ_discrete (taker_of p m) t);
          }

    module _ {Q : ℕ → Type 0} (c : ℕ) (r : State) (ne : c ≢ b) (ag : Agrees Q Nothing p s c r) where
      away_letter : (m : ℕ) → m < count p → Dec (taker_of p m ≡ t)
          → Letter Q p c m (get_or (set_all s.status (dues_of p t) 3) m 0) (status_of r m) (place_of p s.buffer m) (place_of p r.buffer m)
      away_letter m lo (yes e) =
          letter_taken p c m _ (ag.letters m lo none) (λ i. ne (sym i ∙ ap p.processor_of e ∙ here_is p s b h)) (arrived m (due_in m lo e))
          (taken_now s inv.shape m lo e)
      away_letter m lo (no n) = letter_is p c m (not_taken s m n) refl refl refl (ag.letters m lo none)

      away_gather : Agrees Q Nothing p (carry_out p source s b (gather t)) c r
      unfolding carry_out
      away_gather =
          record {
            shape = ag.shape;
            high = ag.high;
            memory = ag.memory ∙ sym (memory_other p s b low inv.shape (gathered s) (gather_length s inv.shape) c ne);
            recorded = set_away c b (finished_of s b) 1 0 r.progress s.progress ne ag.recorded;
            letters = λ m lo z. away_letter m lo (ℕ_discrete (taker_of p m) t);
          }

  -- ---- calculate
  abbrev done : State → List ℕ
  done r = store_all (p.value source) (memory_of p r b) (p.cells_of t)

  done_length : (r : State) → Shape p r → length (done r) ≡ p.cells
  done_length r sh = store_length (p.value source) (p.cells_of t) (memory_of p r b) ∙ memory_length p r b low sh

  module _ {Q : ℕ → Type 0} (r : State) (ag : Agrees Q Nothing p s b r) where
    here_r : finished_of r b < length (tiles_of p b)
    here_r = rw ag.recorded.finished h

    -- the shape after n messages of the current tile
    shape_r : (n : ℕ) → n ≤ length (sends_of p t) → (u : ℕ) → u ≡ t → (x y z : List ℕ) → length x ≡ length r.memories → length y ≡ length r.buffer
        → length z ≡ length r.status
        → Shape p (state_of x y (after_sends p r b u n) z)
    shape_r n most u e x y z ex ey ez =
        subst (λ (v : ℕ). Shape p (state_of x y (after_sends p r b v n) z)) (tile_same p source s b r inv ag ∙ sym e)
        (shape_after p r b low ag.shape here_r n (rw (tile_same p source s b r inv ag) most) x y z ex ey ez)

    own_calculate : Agrees Q Nothing p (carry_out p source s b (calculate t)) b (carry_out p source r b (calculate t))
    unfolding carry_out
    own_calculate =
        record {
          shape = shape_r 0 (omega arith) t refl _ _ _ (memories_length p r b low ag.shape (done r) (done_length r ag.shape)) refl refl;
          high = ag.high;
          memory = memory_new p r b low ag.shape (done r) (done_length r ag.shape)
              ∙ ap (λ (l : List ℕ). store_all (p.value source) l (p.cells_of t)) ag.memory
              ∙ sym (memory_new p s b low inv.shape (done s) (done_length s inv.shape));
          recorded = after_both p s b t r 0 0 low ag.shape.progress inv.shape.progress ag.recorded.finished refl;
          letters = ag.letters;
        }

  module _ {Q : ℕ → Type 0} (c : ℕ) (r : State) (ne : c ≢ b) (ag : Agrees Q Nothing p s c r) where
    away_calculate : Agrees Q Nothing p (carry_out p source s b (calculate t)) c r
    unfolding carry_out
    away_calculate =
        record {
          shape = ag.shape;
          high = ag.high;
          memory = ag.memory ∙ sym (memory_other p s b low inv.shape (done s) (done_length s inv.shape) c ne);
          recorded = after_away p s b t c 0 r.progress ne ag.recorded;
          letters = ag.letters;
        }

  -- ---- send
  module _ (g : 2 ≤ stage_of s b) where
    abbrev m₀ : ℕ
    m₀ = next_send p s b

    abbrev packed : State → List ℕ
    packed r = pack (memory_of p r b) (held_by p m₀)

    lo₀ : m₀ < count p
    lo₀ = m₀_low p s b low inv.shape h g

    from₀ : sender_of p m₀ ≡ t
    from₀ = m₀_from p s b low inv.shape h g

    packed_length : (r : State) → length (packed r) ≡ length (held_by p m₀)
    packed_length r = pack_length (held_by p m₀) (memory_of p r b)

    status_one : (r : State) → Shape p r → get_or (set r.status m₀ 1) m₀ 0 ≡ 1
    status_one r sh = get_or-set_same r.status m₀ 1 0 (rw sh.status lo₀)

    status_rest : (r : State) (m : ℕ) → m ≢ m₀ → get_or (set r.status m₀ 1) m 0 ≡ status_of r m
    status_rest r m n = get_or-set_other r.status m₀ m 1 0 n

    abbrev mailed : State → List ℕ
    mailed r = put r.buffer (offset p.messages m₀) (packed r)

    mailed_there : (r : State) → Shape p r → place_of p (mailed r) m₀ ≡ packed r
    mailed_there r sh = words_there p r.buffer m₀ (packed r) sh.buffer lo₀ (packed_length r)

    mailed_other : (r : State) → Shape p r → (m : ℕ) → m < count p → m ≢ m₀ → place_of p (mailed r) m ≡ place_of p r.buffer m
    mailed_other r sh = words_other p r.buffer m₀ (packed r) sh.buffer lo₀ (packed_length r)

    module _ {Q : ℕ → Type 0} (r : State) (ag : Agrees Q Nothing p s b r) where
      packed_same : packed r ≡ packed s
      packed_same = ap (λ (l : List ℕ). pack l (held_by p m₀)) ag.memory

      send_letter : (m : ℕ) → m < count p → Dec (m ≡ m₀)
          → Letter Q p b m (get_or (set s.status m₀ 1) m 0) (get_or (set r.status m₀ 1) m 0) (place_of p (mailed s) m) (place_of p (mailed r) m)
      send_letter m lo (yes e) =
          rw e (letter_both p b m₀ _ _ _ _ (omega (arith, status_one r ag.shape)) (status_one s inv.shape ∙ sym (status_one r ag.shape))
          (mailed_there r ag.shape ∙ packed_same ∙ sym (mailed_there s inv.shape))
          (λ i n k. absurd (n (ap p.processor_of from₀ ∙ here_is p s b h)))
          (λ k. omega (arith, status_one s inv.shape))
          (λ k o. omega (arith, unsent p s b low inv.shape h g inv.statuses, (ag.letters m₀ lo₀ none).posted_sent k))
          (λ i. absurd (i (ap p.processor_of from₀ ∙ here_is p s b h))))
      send_letter m lo (no n) =
          letter_is p b m (status_rest s m n) (status_rest r m n) (mailed_other s inv.shape m lo n) (mailed_other r ag.shape m lo n)
          (ag.letters m lo none)

      own_send : Agrees Q Nothing p (carry_out p source s b (send m₀)) b (carry_out p source r b (send m₀))
      unfolding carry_out
      own_send =
          record {
            shape = shape_r r ag (sent_of r b + 1) (omega (arith, sending p s b low inv.shape h g, ag.recorded.sent)) (sender_of p m₀) from₀ _ _ _ refl
                (length_put r.buffer _ (packed r) (words_fit p r.buffer m₀ (packed r) ag.shape.buffer lo₀ (packed_length r)))
                (length-set r.status m₀ 1);
            high = λ m lo. (send_letter m lo (ℕ_discrete m m₀)).high;
            memory = ag.memory;
            recorded = after_both p s b (sender_of p m₀) r (sent_of r b + 1) (sent_of s b + 1) low ag.shape.progress inv.shape.progress
                ag.recorded.finished
                (ap (λ (n : ℕ). n + 1) ag.recorded.sent);
            letters = λ m lo z. send_letter m lo (ℕ_discrete m m₀);
          }

    module _ {Q : ℕ → Type 0} (c : ℕ) (r : State) (ne : c ≢ b) (ag : Agrees Q Nothing p s c r) where
      elsewhere : (m : ℕ) → m < count p → Dec (m ≡ m₀)
          → Letter Q p c m (get_or (set s.status m₀ 1) m 0) (status_of r m) (place_of p (mailed s) m) (place_of p r.buffer m)
      elsewhere m lo (yes e) =
          rw e (letter_sent p c m₀ _ _ (ag.letters m₀ lo₀ none) (λ i. ne (sym i ∙ ap p.processor_of from₀ ∙ here_is p s b h))
          (omega (arith, unsent p s b low inv.shape h g inv.statuses)) (status_one s inv.shape))
      elsewhere m lo (no n) = letter_is p c m (status_rest s m n) refl (mailed_other s inv.shape m lo n) refl (ag.letters m lo none)

      away_send : Agrees Q Nothing p (carry_out p source s b (send m₀)) c r
      unfolding carry_out
      away_send =
          record {
            shape = ag.shape;
            high = ag.high;
            memory = ag.memory;
            recorded = after_away p s b (sender_of p m₀) c (sent_of s b + 1) r.progress ne ag.recorded;
            letters = λ m lo z. elsewhere m lo (ℕ_discrete m m₀);
          }

-- ---- any turn
module _ (p : Plan) (so : Sound p) (source : List ℕ) (s : State) (b : ℕ) (inv : Inv p source s) where
  module _ {Q : ℕ → Type 0} (r : State) (ag : Agrees Q Nothing p s b r) where
    stays : (turn p source r b).number ≢ 0 → Agrees Q Nothing p s b (turn p source r b).after
    stays n = rw (stays_same p source s b r inv ag n) ag

    moves : (x : Action) (s' : State) → next_action p s b ≡ x → (turn p source r b).number ≡ 0 → Agrees Q Nothing p s' b (carry_out p source r b x)
        → Agrees Q Nothing p s' b (turn p source r b).after
    moves x s' e z new = rw (goes_same p source s b r inv ag z, e) new

    own : (a : Answered State) → Turned p source s b a → (turn p source r b).number ≡ a.number → Agrees Q Nothing p a.after b (turn p source r b).after
    own a (Turned.unfit q) e = stays (λ z. omega arith)
    own a (Turned.no_such q) e = stays (λ z. omega arith)
    own a (Turned.waits m low h g i k) e = stays (λ z. omega arith)
    own a (Turned.over q) e = stays (λ z. omega arith)
    own a (Turned.gathers low h g f) e = moves _ _ (next_zero p _ _ _ g) e (own_gather p so source s b inv low h f r ag)
    own a (Turned.calculates low h g) e = moves _ _ (next_one p _ _ _ g) e (own_calculate p so source s b inv low h r ag)
    own a (Turned.sends low h g) e = moves _ _ (next_two p _ _ _ g) e (own_send p so source s b inv low h g r ag)

    pub own_turn : Agrees Q Nothing p (turn p source s b).after b (turn p source r b).after
    own_turn = own _ (turned p source s b) (number_same p source s b r inv ag)

  module _ {Q : ℕ → Type 0} (c : ℕ) (r : State) (ne : c ≢ b) (ag : Agrees Q Nothing p s c r) where
    away : (a : Answered State) → Turned p source s b a → Agrees Q Nothing p a.after c r
    away a (Turned.unfit q) = ag
    away a (Turned.no_such q) = ag
    away a (Turned.waits m low h g i k) = ag
    away a (Turned.over q) = ag
    away a (Turned.gathers low h g f) = away_gather p so source s b inv low h f c r ne ag
    away a (Turned.calculates low h g) = away_calculate p so source s b inv low h c r ne ag
    away a (Turned.sends low h g) = away_send p so source s b inv low h g c r ne ag

    pub away_turn : Agrees Q Nothing p (turn p source s b).after c r
    away_turn = away _ (turned p source s b)
