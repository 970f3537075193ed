-- While a processor has tiles left something can be done: the least tile that is not done, by its own processor's record, is where that one stands.
use Prim.Native.Nat.{ℕ, ◌≤◌, ◌<◌}
use mathlib.Core.Path.{◌≡◌, refl, sym, ap, ◌∙◌}
use mathlib.Core.Logic.{◌⊎◌, inl, inr, ◌≢◌}
use mathlib.Core.Bool.{true, true≢false}
use mathlib.Core.List.{List}
use native.Mathlib.Omega.{arith}
use native.Mathlib.Decide.{ℕ_discrete}
use lib.ListN.{length}
use borrow.Author.Tests.{ltb-true, lt-ltb}
use Rattle.base.proofs.Select.{those_lt, those_in}
use Rattle.machine.specs.Plan.{Plan, Sound, count, sender_of, taker_of, tiles_of}
use Rattle.machine.specs.Machine.{State, Answered, finished_of, current_tile, tiles_left, turn}
use Rattle.machine.proofs.Turns.{Turned, turned}
use Rattle.machine.proofs.Progress.{prog, full, Shape, here_low, here_is, here_prog}
use Rattle.machine.proofs.Kept.{status_of}
use Rattle.machine.proofs.Least.{AllDone, Least, least, here_less, reach, is_t}
use Rattle.network.specs.Apart.{AreasApart, sender_at, taker_at}
use Rattle.network.specs.Packets.{status_at}
use Rattle.restarts.proofs.Life.{Life, life_fit}
use Rattle.restarts.proofs.Measure.{sender_at_lem, prog_here, status_here}

-- what can be done: a turn, a post, or a message that its sender has posted since its last start and its taker has not received
pub data Way (p : Plan) (source : List ℕ) (a : AreasApart) : Type 0 where
  turns : (b : ℕ) → b < p.processors → tiles_left p (a b) b ≡ true → (turn p source (a b) b).number ≡ 0 → Way p source a
  posts : (m : ℕ) → m < count p → status_here p a m ≡ 1 → Way p source a
  waits : (m : ℕ) → m < count p → sender_at p m ≢ taker_at p m → 2 ≤ status_here p a m → status_at a (taker_at p m) m ≡ 0
      → Way p source a

module _ (p : Plan) (so : Sound p) (source : List ℕ) (a : AreasApart) (each : (b : ℕ) → b < p.processors → Life p source b (a b)) where
  shape_at : (b : ℕ) → b < p.processors → Shape p (a b)
  shape_at b low = (each b low).held.shape

  -- the least tile that is not done
  module _ (t : ℕ) (low : t < p.tiles) (less : prog_here p a t < full p t) (earlier : AllDone p a t) where
    abbrev b : ℕ
    b = p.processor_of t

    abbrev s : State
    s = a b

    low_b : b < p.processors
    low_b = so.processor_low t low

    li : Life p source b s
    li = each b low_b

    reached : finished_of s b < length (tiles_of p b)
    reached = reach p a shape_at so t low less earlier

    at_t : current_tile p s b ≡ t
    at_t = is_t p a shape_at so t low less earlier

    -- it waits for message m, which its sender has sent since its last start
    module _ (m : ℕ) (lo : m < count p) (to : taker_of p m ≡ t) (none_yet : prog p s t ≡ 0) (not-two : status_of s m ≢ 2) where
      at_b : taker_at p m ≡ b
      at_b = ap p.processor_of to

      sent : 1 ≤ status_here p a m
      sent =
          (each (sender_at p m) (sender_at_lem p so m lo)).held.statuses.sent_status m lo
          (omega (arith, those_lt (sender_of p) (sender_of p m) (count p) m lo refl, earlier (sender_of p m) (omega (arith, so.forward m lo))))

      not_three : status_of s m ≢ 3
      not_three e = let x : 1 ≤ prog p s t = rw to at (li.held.statuses.taken_begun m lo e) in omega arith

      awaits : Dec (sender_at p m ≡ taker_at p m) → Dec (status_here p a m ≡ 1) → Way p source a
      awaits d (yes y) = Way.posts m lo y
      awaits (yes e) (no k) =
          let x : status_here p a m ≡ status_of s m = ap (λ (c : ℕ). status_at a c m) (e ∙ at_b) in
          absurd (k (omega (arith, sent, not-two, not_three, li.held.statuses.high m lo)))
      awaits (no q) (no k) =
          let x : status_at a (taker_at p m) m ≡ status_of s m = ap (λ (c : ℕ). status_at a c m) at_b in
          let y : status_of s m ≢ 1 = li.no_flight m lo (λ e. q (e ∙ sym at_b)) in
          Way.waits m lo q (omega (arith, sent, k)) (omega (arith, y, not-two, not_three, li.held.statuses.high m lo))

    outcome : (x : Answered State) → Turned p source s b x → (x.number ≡ 0) ⊎ Way p source a
    outcome x (Turned.unfit h) = absurd (true≢false (sym (life_fit p source b s li) ∙ h))
    outcome x (Turned.no_such h) = absurd (omega (arith, low_b))
    outcome x (Turned.over h) = absurd (omega (arith, reached))
    outcome x (Turned.waits m l h g i k) =
        let i' : (m < count p) × (taker_of p m ≡ t) = those_in (taker_of p) t (count p) m (rw at_t at i) in
        inr (awaits m i'.0 i'.1 (ap (prog p s) (sym at_t) ∙ here_prog p s b reached ∙ rw g) k (ℕ_discrete _ _) (ℕ_discrete _ _))
    outcome x (Turned.gathers l h g f) = inl refl
    outcome x (Turned.calculates l h g) = inl refl
    outcome x (Turned.sends l h g) = inl refl

    way_least : Way p source a
    unfolding tiles_left
    way_least = pick_one (outcome _ (turned p source s b))
      where
        pick_one : ((turn p source s b).number ≡ 0) ⊎ Way p source a → Way p source a
        pick_one (inl e) = Way.turns b low_b (lt-ltb _ _ reached) e
        pick_one (inr r) = r

  pub way : (b : ℕ) → b < p.processors → tiles_left p (a b) b ≡ true → Way p source a
  unfolding tiles_left
  way b low left = go (least p a p.tiles)
    where
      h : finished_of (a b) b < length (tiles_of p b)
      h = ltb-true _ _ left

      go : AllDone p a p.tiles ⊎ Least p a p.tiles → Way p source a
      go (inl f) =
          let u : ℕ = current_tile p (a b) b in
          let x : prog_here p a u ≡ prog p (a b) u = ap (λ (c : ℕ). prog p (a c) u) (here_is p (a b) b h) in
          let y = f u (here_low p (a b) b h) in
          absurd (omega (arith, here_less p a shape_at b low h))
      go (inr r) = way_least r.0 r.1 r.2 r.3
