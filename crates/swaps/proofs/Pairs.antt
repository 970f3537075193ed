-- Two events that both give 0 in a state with the invariant, pair by pair: two turns, a turn and a delivery, two deliveries.
use Prim.Native.Nat.{ℕ, ◌+◌, ◌*◌, ◌≤◌, ◌<◌}
use mathlib.Core.Path.{◌≡◌, refl, sym, ap, ◌∙◌}
use mathlib.Core.Logic.{inl, inr, ◌≢◌}
use mathlib.Core.List.{List}
use native.Mathlib.Omega.{arith}
use native.Mathlib.Decide.{dec_lt}
use lib.ListN.{length, set}
use lib.Seq.{set_comm, get_or-set_other}
use Rattle.base.specs.Lists.{In, put}
use Rattle.base.proofs.Lists.{piece_fits, put_none, put_put, set_all_set, set_all_set_all}
use Rattle.machine.specs.Plan.{Plan, Sound, count, sender_of}
use Rattle.machine.specs.Machine.{State, Answered, state_of, set_progress, turn, deliver}
use Rattle.machine.specs.Runs.{turn_of, delivery_of, act}
use Rattle.machine.proofs.Turns.{Delivered, delivered, can_deliver, can}
use Rattle.machine.proofs.Values.{offset_apart}
use Rattle.machine.proofs.Progress.{Shape}
use Rattle.machine.proofs.Kept.{Inv, inv_fit, status_of}
use Rattle.machine.proofs.Along.{next_inv}
use Rattle.swaps.specs.Swaps.{EitherWay}
use Rattle.swaps.proofs.Changes.{Change, changed, change_of, changes, Marks, Stores, none, sends, Proper, proper}
use Rattle.swaps.proofs.Views.{SeesSame, gives_too, writes_too, status_kept, in_flight, sees_turn, brought, sees_delivery}

-- ---- two changes of different processors

record_set : (l : List ℕ) (b f g n i v : ℕ) → i ≢ 3 * b → i ≢ 3 * b + 1 → i ≢ 3 * b + 2
    → set_progress (set l i v) b f g n ≡ set (set_progress l b f g n) i v
unfolding set_progress
record_set l b f g n i v a a1 a2 =
    ap (λ (x : List ℕ). set (set x (3 * b + 1) g) (3 * b + 2) n) (set_comm l i (3 * b) v f a)
    ∙ ap (λ (x : List ℕ). set x (3 * b + 2) n) (set_comm (set l (3 * b) f) i (3 * b + 1) v g a1)
    ∙ set_comm (set (set l (3 * b) f) (3 * b + 1) g) i (3 * b + 2) v n a2

record_record : (l : List ℕ) (b f g n c h k j : ℕ) → c ≢ b
    → set_progress (set_progress l c h k j) b f g n ≡ set_progress (set_progress l b f g n) c h k j
unfolding set_progress
record_record l b f g n c h k j ne =
    record_set (set (set l (3 * c) h) (3 * c + 1) k) b f g n (3 * c + 2) j (λ e. omega arith) (λ e. omega arith) (λ e. omega arith)
    ∙ ap (λ (x : List ℕ). set x (3 * c + 2) j)
    (record_set (set l (3 * c) h) b f g n (3 * c + 1) k (λ e. omega arith) (λ e. omega arith) (λ e. omega arith)
    ∙ ap (λ (x : List ℕ). set x (3 * c + 1) k) (record_set l b f g n (3 * c) h (λ e. omega arith) (λ e. omega arith) (λ e. omega arith)))

module _ (p : Plan) (s : State) (sh : Shape p s) (b c : ℕ) (ne : b ≢ c) (x y : Change) (px : Proper p s b x) (py : Proper p s c y) where
  memories_swap : put (put s.memories (b * p.cells) x.memory) (c * p.cells) y.memory
      ≡ put (put s.memories (c * p.cells) y.memory) (b * p.cells) x.memory
  memories_swap = go (dec_lt b c)
    where
      go : Dec (b < c)
          → put (put s.memories (b * p.cells) x.memory) (c * p.cells) y.memory
          ≡ put (put s.memories (c * p.cells) y.memory) (b * p.cells) x.memory
      go (yes q) =
          put_put s.memories x.memory y.memory _ _ (rw px.whole (piece_fits p.cells c b q))
          (rw (py.whole, sh.memories) (piece_fits p.cells p.processors c py.low))
      go (no q) =
          sym (put_put s.memories y.memory x.memory _ _ (rw py.whole (piece_fits p.cells b c (omega (arith, ne))))
          (rw (px.whole, sh.memories) (piece_fits p.cells p.processors b px.low)))

  buffer_swap : Stores p s b x.place x.words → Stores p s c y.place y.words
      → put (put s.buffer x.place x.words) y.place y.words
      ≡ put (put s.buffer y.place y.words) x.place x.words
  buffer_swap (none e) w = rw (e, put_none s.buffer x.place, put_none (put s.buffer y.place y.words) x.place)
  buffer_swap (sends m lo z by at len) (none e) =
      rw (e, put_none s.buffer y.place, put_none (put s.buffer x.place x.words) y.place)
  buffer_swap (sends m lo z by at len) (sends k lo' z' by' at' len') = go (dec_lt m k)
    where
      apart : m ≢ k
      apart e = ne (sym by ∙ ap (λ (i : ℕ). p.processor_of (sender_of p i)) e ∙ by')

      fits_x : x.place + length x.words ≤ length s.buffer
      fits_x = rw (at, len, sh.buffer) (offset_apart p.messages m (count p) lo lo)

      fits_y : y.place + length y.words ≤ length s.buffer
      fits_y = rw (at', len', sh.buffer) (offset_apart p.messages k (count p) lo' lo')

      go : Dec (m < k)
          → put (put s.buffer x.place x.words) y.place y.words
          ≡ put (put s.buffer y.place y.words) x.place x.words
      go (yes q) = put_put s.buffer x.words y.words _ _ (rw (at, at', len) (offset_apart p.messages m k q lo)) fits_y
      go (no q) =
          sym (put_put s.buffer y.words x.words _ _
          (rw (at, at', len') (offset_apart p.messages k m (omega (arith, apart)) lo')) fits_x)

  -- no message is marked by both: the statuses differ, or the processors do
  none_twice : (m : ℕ) → Marks p s b m → Marks p s c m → ⊥
  none_twice m (inl u) (inl v) = ne (sym u.1 ∙ v.1)
  none_twice m (inl u) (inr v) = omega arith
  none_twice m (inr u) (inl v) = omega arith
  none_twice m (inr u) (inr v) = ne (sym u.1 ∙ v.1)

  changes_swap : changed p c y (changed p b x s) ≡ changed p b x (changed p c y s)
  unfolding changed
  changes_swap =
      rw (
        memories_swap,
        buffer_swap px.stores py.stores,
        record_record s.progress c y.finished y.stage y.sent b x.finished x.stage x.sent ne,
        set_all_set_all y.marked x.marked s.status x.mark y.mark (λ m i j. none_twice m (px.marks m j) (py.marks m i)),
      )

-- ---- a delivery that gives 0

-- it commutes with a change that does not mark its message
change_delivery : (p : Plan) (s : State) (b : ℕ) (x : Change) (m : ℕ) → (In m x.marked → ⊥)
    → brought (changed p b x s) m ≡ changed p b x (brought s m)
unfolding changed
change_delivery p s b x m n = rw (set_all_set x.marked s.status x.mark m 2 n)

module _ (p : Plan) (s : State) (m : ℕ) where
  flew_by : (a : Answered State) → Delivered p s m a → a.number ≡ 0 → (m < count p) × (status_of s m ≡ 1) × (a.after ≡ brought s m)
  flew_by a (Delivered.unfit h) z = absurd (omega arith)
  flew_by a Delivered.no_such z = absurd (omega arith)
  flew_by a (Delivered.not_flying h) z = absurd (omega arith)
  flew_by a (Delivered.delivers lo e) z = (lo, e, refl)

  flew : (deliver p s m).number ≡ 0 → (m < count p) × (status_of s m ≡ 1) × ((deliver p s m).after ≡ brought s m)
  flew z = flew_by _ (delivered p s m) z

-- ---- the pairs

module _ (p : Plan) (so : Sound p) (source : List ℕ) (s : State) (inv : Inv p source s) where
  inv_turn : (b : ℕ) → Inv p source (turn p source s b).after
  unfolding act
  inv_turn b = next_inv p so source s inv (turn_of b)

  inv_deliver : (m : ℕ) → Inv p source (deliver p s m).after
  unfolding act
  inv_deliver m = next_inv p so source s inv (delivery_of m)

  module _ (b : ℕ) (z : (turn p source s b).number ≡ 0) where
    after_b : (turn p source s b).after ≡ changed p b (change_of p source s b) s
    after_b = changes p source s b inv (can p source s b z) z

    proper_b : Proper p s b (change_of p source s b)
    proper_b = proper p source s b inv (can p source s b z)

    -- another processor's turn, then
    then_turn : (c : ℕ) → c ≢ b → (turn p source s c).number ≡ 0
        → ((turn p source (turn p source s b).after c).number ≡ 0)
        × ((turn p source (turn p source s b).after c).after ≡ changed p c (change_of p source s c) (changed p b (change_of p source s b) s))
    then_turn c ne y =
        let sees : SeesSame p s (turn p source s b).after c =
        rw after_b (sees_turn p s inv.shape b (change_of p source s b) proper_b c ne) in (
          gives_too p source s _ c (inv_turn b) sees y,
          writes_too p source s _ c (inv_turn b) sees y ∙ ap (changed p c (change_of p source s c)) after_b,
        )

    -- a delivery, then
    then_delivery : (m : ℕ) → (deliver p s m).number ≡ 0
        → ((deliver p (turn p source s b).after m).number ≡ 0)
        × ((deliver p (turn p source s b).after m).after ≡ brought (changed p b (change_of p source s b) s) m)
    then_delivery m y =
        let fl = flew p s m y in
        let one : status_of (turn p source s b).after m ≡ 1 =
        rw after_b
        (status_kept p s inv.shape b (change_of p source s b) proper_b m
        (in_flight p s inv.shape b (change_of p source s b) proper_b m fl.1) ∙ fl.1) in
        let now = can_deliver p (turn p source s b).after m (inv_fit p source _ (inv_turn b)) fl.0 one in
        (now, (flew p (turn p source s b).after m now).2 ∙ ap (λ (x : State). brought x m) after_b)

  module _ (m : ℕ) (z : (deliver p s m).number ≡ 0) where
    -- a turn after a delivery
    turn_then : (b : ℕ) → (turn p source s b).number ≡ 0
        → ((turn p source (deliver p s m).after b).number ≡ 0)
        × ((turn p source (deliver p s m).after b).after ≡ changed p b (change_of p source s b) (brought s m))
    turn_then b y =
        let fl = flew p s m z in
        let sees : SeesSame p s (deliver p s m).after b = rw fl.2 (sees_delivery p s m b fl.1) in (
          gives_too p source s _ b (inv_deliver m) sees y,
          writes_too p source s _ b (inv_deliver m) sees y ∙ ap (changed p b (change_of p source s b)) fl.2,
        )

    -- another delivery after a delivery
    delivery_then : (k : ℕ) → k ≢ m → (deliver p s k).number ≡ 0
        → ((deliver p (deliver p s m).after k).number ≡ 0) × ((deliver p (deliver p s m).after k).after ≡ brought (brought s m) k)
    delivery_then k ne y =
        let fl = flew p s m z in
        let fk = flew p s k y in
        let one : status_of (deliver p s m).after k ≡ 1 = rw fl.2 (get_or-set_other s.status m k 2 0 ne ∙ fk.1) in
        let now = can_deliver p (deliver p s m).after k (inv_fit p source _ (inv_deliver m)) fk.0 one in
        (now, (flew p (deliver p s m).after k now).2 ∙ ap (λ (x : State). brought x k) fl.2)

  pub two_turns : (b c : ℕ) → b ≢ c → (turn p source s b).number ≡ 0 → (turn p source s c).number ≡ 0
      → EitherWay (act p source) s (turn_of b) (turn_of c)
  unfolding act
  two_turns b c ne zb zc =
      let x = then_turn b zb c (λ e. ne (sym e)) zc in
      let y = then_turn c zc b ne zb in
      record {
        then_second = x.0;
        then_first = y.0;
        same_words = x.1 ∙ changes_swap p s inv.shape b c ne _ _ (proper_b b zb) (proper_b c zc) ∙ sym y.1;
      }

  pub turn_delivery : (b m : ℕ) → (turn p source s b).number ≡ 0 → (deliver p s m).number ≡ 0
      → EitherWay (act p source) s (turn_of b) (delivery_of m)
  unfolding act
  turn_delivery b m zb zm =
      let x = then_delivery b zb m zm in
      let y = turn_then m zm b zb in
      record {
        then_second = x.0;
        then_first = y.0;
        same_words = x.1 ∙ change_delivery p s b (change_of p source s b) m (λ i. untouched ((proper_b b zb).marks m i)) ∙ sym y.1;
      }
    where
      untouched : Marks p s b m → ⊥
      untouched = in_flight p s inv.shape b (change_of p source s b) (proper_b b zb) m (flew p s m zm).1

  pub two_deliveries : (m k : ℕ) → m ≢ k → (deliver p s m).number ≡ 0 → (deliver p s k).number ≡ 0
      → EitherWay (act p source) s (delivery_of m) (delivery_of k)
  unfolding act
  two_deliveries m k ne zm zk =
      let x = delivery_then m zm k (λ e. ne (sym e)) zk in
      let y = delivery_then k zk m ne zm in
      record {
        then_second = x.0;
        then_first = y.0;
        same_words = x.1 ∙ ap (state_of s.memories s.buffer s.progress) (set_comm s.status m k 2 2 ne) ∙ sym y.1;
      }
