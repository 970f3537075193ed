-- From its send on a message's words stay the sweep's words of its cells, and so does what its taker gathers.
use Prim.Native.Nat.{ℕ, zero, suc, ◌≤◌, ◌<◌}
use mathlib.Core.Path.{◌≡◌, refl, sym, ap, ◌∙◌}
use mathlib.Core.List.{List, [], ◌∷◌, ◌++◌, map}
use native.Mathlib.Nat.{le_of_suc-le-suc}
use native.Mathlib.Omega.{arith}
use lib.ListN.{length, get_or}
use lib.Seq.{get_or-set_same}
use Rattle.base.proofs.Lists.{set_all_same}
use Rattle.base.proofs.Select.{in_those}
use Rattle.base.proofs.Entries.{part_at, at_in, set_pos, set_all_pos}
use Rattle.machine.specs.Plan.{Plan, Sound, count, taker_of, held_by, dues_of, offset}
use Rattle.machine.specs.Machine.{State, Answered, Action, gather, send, next_action, carry_out, fresh}
use Rattle.machine.specs.Runs.{Event, turn_of, delivery_of, act, state_after}
use Rattle.machine.specs.Words.{word_at, mail_at, cell_of, Packs, Unpacks, Does, Did, Posted}
use Rattle.machine.proofs.Turns.{Turned, turned, by_next, Delivered, delivered}
use Rattle.machine.proofs.Kept.{Inv, swept, status_of}
use Rattle.machine.proofs.Fresh.{inv_fresh}
use Rattle.machine.proofs.Along.{next_inv, run_inv}
use Rattle.machine.proofs.Theorem.{named_next}
use Rattle.machine.proofs.RunLaws.{after_append}
use Rattle.machine.proofs.Words.{turn_does}

map_at : (f : ℕ → ℕ) (l : List ℕ) (q : ℕ) → q < length l → get_or (map f l) q 0 ≡ f (get_or l q 0)
map_at f [] q h = absurd (omega arith)
map_at f (x ∷ l) zero h = refl
map_at f (x ∷ l) (suc q) h = map_at f l q (le_of_suc-le-suc h)

module _ (p : Plan) (so : Sound p) (source : List ℕ) where
  -- ---- no event makes a message unsent
  module _ (m : ℕ) where
    turn_sent : (s : State) (b : ℕ) (a : Answered State) → Turned p source s b a → 1 ≤ status_of s m → 1 ≤ status_of a.after m
    unfolding carry_out
    turn_sent s b a (Turned.unfit h) k = k
    turn_sent s b a (Turned.no_such h) k = k
    turn_sent s b a (Turned.waits n low h g i j) k = k
    turn_sent s b a (Turned.over h) k = k
    turn_sent s b a (Turned.gathers low h g r) k = set_all_pos _ s.status 3 m (omega arith) k
    turn_sent s b a (Turned.calculates low h g) k = k
    turn_sent s b a (Turned.sends low h g) k = set_pos s.status _ 1 m (omega arith) k

    delivery_sent : (s : State) (n : ℕ) (a : Answered State) → Delivered p s n a → 1 ≤ status_of s m → 1 ≤ status_of a.after m
    delivery_sent s n a (Delivered.unfit h) k = k
    delivery_sent s n a Delivered.no_such k = k
    delivery_sent s n a (Delivered.not_flying h) k = k
    delivery_sent s n a (Delivered.delivers low h) k = set_pos s.status n 2 m (omega arith) k

    event_sent : (s : State) (e : Event) → 1 ≤ status_of s m → 1 ≤ status_of (act p source s e).after m
    unfolding act
    event_sent s (turn_of b) k = turn_sent s b _ (turned p source s b) k
    event_sent s (delivery_of n) k = delivery_sent s n _ (delivered p s n) k

    run_sent : (es : List Event) (s : State) → 1 ≤ status_of s m → 1 ≤ status_of (state_after (act p source) s es) m
    unfolding state_after
    run_sent [] s k = k
    run_sent (e ∷ es) s k = run_sent es _ (event_sent s e k)

  -- ---- a sent message's words, and a taken one's cells, are the sweep's
  module _ (s : State) (inv : Inv p source s) (m : ℕ) (low : m < count p) (q : ℕ) (h : q < length (held_by p m)) where
    cell_low : cell_of p m q < p.cells
    cell_low = so.held_low m (cell_of p m q) low (at_in (held_by p m) q h)

    mail_is : 1 ≤ status_of s m → mail_at p s m q ≡ swept p source (cell_of p m q)
    mail_is k =
        sym (part_at s.buffer (offset p.messages m) (length (held_by p m)) q h)
        ∙ ap (λ (l : List ℕ). get_or l q 0) (inv.right.buffered m low k)
        ∙ map_at (swept p source) (held_by p m) q h

    word_is : status_of s m ≡ 3 → word_at p s (p.processor_of (taker_of p m)) (cell_of p m q) ≡ swept p source (cell_of p m q)
    word_is k =
        sym (part_at s.memories _ p.cells (cell_of p m q) cell_low)
        ∙ inv.right.got m (cell_of p m q) low (inv.statuses.taken_begun m low k) (at_in (held_by p m) q h)

  -- ---- after the events es
  module _ (es : List Event) where
    abbrev here : State
    here = state_after (act p source) (fresh p) es

    inv_here : Inv p source here
    inv_here = run_inv p so source es (fresh p) (inv_fresh p source)

    pub next_is : (b : ℕ) (a : Action) → Did (act p source) (fresh p) p es b a → next_action p here b ≡ a
    next_is b a d = sym (named_next p so source es b d.gave).1 ∙ d.named

    pub did : (b : ℕ) (a : Action) → Did (act p source) (fresh p) p es b a → Does p source here (act p source here (turn_of b)).after b a
    unfolding act
    did b a d = rw (next_is b a d) at (turn_does p so source here b inv_here.shape.memories inv_here.shape.buffer d.gave)

    after_is : (b : ℕ) (a : Action) → Did (act p source) (fresh p) p es b a
        → (act p source here (turn_of b)).after ≡ carry_out p source here b a
    unfolding act
    after_is b a d = by_next p source here b d.gave ∙ ap (carry_out p source here b) (next_is b a d)

  -- ---- message m, sent by processor b after the events `before`
  module _ (before : List Event) (b m : ℕ) (d : Did (act p source) (fresh p) p before b (send m)) where
    abbrev sent : State
    sent = (act p source (here before) (turn_of b)).after

    packs : Packs p (here before) sent b m
    packs = did before b (send m) d

    low : m < count p
    low = packs.message

    status_then : 1 ≤ status_of sent m
    unfolding carry_out
    status_then =
        rw (after_is before b (send m) d, get_or-set_same (here before).status m 1 0 (rw (inv_here before).shape.status low)) (omega arith)

    -- the word that was packed
    packed_is : (q : ℕ) → q < length (held_by p m) → word_at p (here before) b (cell_of p m q) ≡ swept p source (cell_of p m q)
    packed_is q h =
        sym (packs.packed q h)
        ∙ mail_is sent (next_inv p so source (here before) (inv_here before) (turn_of b)) m low q h status_then

    module _ (then : List Event) where
      abbrev all : List Event
      all = before ++ (turn_of b ∷ then)

      status_now : 1 ≤ status_of (here all) m
      unfolding state_after
      status_now = rw (after_append (act p source) (fresh p) before (turn_of b ∷ then)) (run_sent m then sent status_then)

      -- the tile that takes it gathers
      module _ (c : ℕ) (g : Did (act p source) (fresh p) p all c (gather (taker_of p m))) where
        abbrev gathered : State
        gathered = (act p source (here all) (turn_of c)).after

        unpacks : Unpacks p (here all) gathered c (taker_of p m)
        unpacks = did all c (gather (taker_of p m)) g

        taken : status_of gathered m ≡ 3
        unfolding carry_out
        taken =
            ap (λ (s : State). status_of s m) (after_is all c (gather (taker_of p m)) g)
            ∙ set_all_same (dues_of p (taker_of p m)) (here all).status 3 m (rw (inv_here all).shape.status low)
            (in_those (taker_of p) (taker_of p m) (count p) m low refl)

        got : (q : ℕ) → q < length (held_by p m) → word_at p gathered c (cell_of p m q) ≡ swept p source (cell_of p m q)
        got q h =
            ap (λ (x : ℕ). word_at p gathered x (cell_of p m q)) (sym unpacks.own)
            ∙ word_is gathered (next_inv p so source (here all) (inv_here all) (turn_of c)) m low q h taken

    pub posted : Posted (act p source) (fresh p) p before b m
    posted =
        record {
          stays = λ then q h. mail_is (here (all then)) (inv_here (all then)) m low q h (status_now then) ∙ sym (packed_is q h);
          arrives = λ then c q h g. got then c g q h ∙ sym (packed_is q h);
        }
