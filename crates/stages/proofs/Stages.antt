-- Laws of the stages of a turn: what each leaves, and fit records.
use Prim.Native.Nat.{ℕ, ◌+◌, ◌*◌, ◌-◌, ◌≤◌, ◌<◌}
use mathlib.Core.Path.{◌≡◌, sym, ap, ◌∙◌}
use mathlib.Core.Logic.{◌≢◌}
use mathlib.Core.List.{List, []}
use native.Mathlib.Omega.{arith}
use lib.ListN.{length, get_or, take, drop, set}
use lib.Dec.{ltb, eqb}
use borrow.Author.Tests.{eq-eqb, ne_eqb, lt-ltb}
use borrow.Rule.Slice.PartMut.{put_mid}
use Rattle.base.specs.Tests.{◌and◌, pick}
use Rattle.base.specs.Lists.{put, set_all, pack, store_all}
use Rattle.base.proofs.Select.{at_is}
use Rattle.machine.specs.Plan.{Plan, count, offset, sender_of, held_by, tiles_of, sends_of, dues_of}
use Rattle.machine.specs.Machine.{State, state_of, finished_of, sent_of, set_progress, tiles_left, fit_record}
use Rattle.machine.specs.Machine.{gather, calculate, send, unpack_all, after_sends, carry_out}
use Rattle.nest.specs.declared.Nest.{Nest}
use Rattle.nest.specs.Nest.{cells}
use Rattle.plan.specs.declared.Route.{Route}
use Rattle.plan.specs.Shaped.{plan_of}
use Rattle.tables.specs.declared.scans.MessageSlot.{MessageSlot}
use Rattle.tables.specs.Tables.{FoundIn}
use Rattle.stages.specs.Progress.{progress_only}
use Rattle.stages.proofs.Parts.{piece_back, mid_is}

-- ---- what each stage leaves; the code has the number of cells as k

module _ (route : Route) (x : Nest) where
  abbrev p : Plan
  p = plan_of route x

  module _ (s : State) (b t k : ℕ) (e : k ≡ cells x) where
    pub gathered : (ys progress status : List ℕ) → b * k + k ≤ length s.memories
        → length ys ≡ length (take (b * k + k - b * k) (drop (b * k) s.memories))
        → ys ≡ unpack_all p s.buffer (take (b * k + k - b * k) (drop (b * k) s.memories)) (dues_of p t)
        → status ≡ set_all s.status (dues_of p t) 3 → progress ≡ set_progress s.progress b (finished_of s b) 1 0
        → state_of (put_mid (b * k) (b * k + k - b * k) s.memories ys) s.buffer progress status ≡ carry_out p [] s b (gather t)
    unfolding carry_out
    gathered ys progress status h l q f g =
        rw (f, g, piece_back s.memories ys (λ z. unpack_all p s.buffer z (dues_of p t)) b k (cells x) e h l q)

    pub calculated : (source ys progress : List ℕ) (n : ℕ) → b * k + k ≤ length s.memories
        → length ys ≡ length (take (b * k + k - b * k) (drop (b * k) s.memories))
        → ys ≡ store_all (p.value source) (take (b * k + k - b * k) (drop (b * k) s.memories)) (p.cells_of t)
        → n ≡ length (sends_of p t)
        → progress ≡ pick (ltb 0 n) (set_progress s.progress b (finished_of s b) 2 0) (set_progress s.progress b (finished_of s b + 1) 0 0)
        → state_of (put_mid (b * k) (b * k + k - b * k) s.memories ys) s.buffer progress s.status ≡ carry_out p source s b (calculate t)
    unfolding carry_out after_sends
    calculated source ys progress n h l q c g =
        rw (g, c, piece_back s.memories ys (λ z. store_all (p.value source) z (p.cells_of t)) b k (cells x) e h l q)

    pub sent_is : (sent n : ℕ) (r : MessageSlot) (ys progress : List ℕ) → sent ≡ sent_of s b → sent < length (sends_of p t)
        → FoundIn route x (get_or (sends_of p t) sent 0) r → n ≡ length (sends_of p t)
        → ys ≡ put s.buffer (offset p.messages r.number)
        (pack (take (b * k + k - b * k) (drop (b * k) s.memories)) (held_by p r.number))
        → progress ≡ pick (ltb (sent + 1) n) (set_progress s.progress b (finished_of s b) 2 (sent + 1)) (set_progress s.progress b (finished_of s b + 1) 0 0)
        → state_of s.memories ys progress (set s.status r.number 1) ≡ carry_out p [] s b (send (get_or (sends_of p t) (sent_of s b) 0))
    unfolding carry_out after_sends
    sent_is sent n r ys progress a l q c y g =
        let z : r.number ≡ get_or (sends_of p t) (sent_of s b) 0 = q.number ∙ ap (λ (i : ℕ). get_or (sends_of p t) i 0) a in
        let v : sender_of p (get_or (sends_of p t) (sent_of s b) 0) ≡ t =
        at_is (sender_of p) t (count p) (sent_of s b) (rw (← a) l) in
        rw (y, g, c, a, z, v, mid_is s.memories (b * k) k, e)

-- ---- fit records

module _ (p : Plan) (l : List ℕ) (b f n g sent : ℕ) (e : f ≡ get_or l (3 * b) 0) (k : n ≡ length (tiles_of p b)) (i : g ≡ get_or l (3 * b + 1) 0)
    (z : sent ≡ get_or l (3 * b + 2) 0) where
  pub record_sends : (t sends : ℕ) → f < n → g ≡ 2 → t ≡ get_or (tiles_of p b) f 0 → sends ≡ length (sends_of p t) → ltb sent sends ≡ fit_record p (progress_only l) b
  unfolding fit_record tiles_left pick
  record_sends t sends h q a c =
      sym (rw (lt-ltb (get_or l (3 * b) 0) (length (tiles_of p b)) (omega arith), eq-eqb (get_or l (3 * b + 1) 0) 2 (sym i ∙ q), c, a, z, e))

  pub record_begins : f < n → g ≢ 2 → g ≤ 2 → eqb sent 0 ≡ fit_record p (progress_only l) b
  unfolding fit_record tiles_left pick ◌and◌
  record_begins h q m =
      sym
      (rw (
        lt-ltb (get_or l (3 * b) 0) (length (tiles_of p b)) (omega arith),
        ne_eqb (get_or l (3 * b + 1) 0) 2 (λ y. q (i ∙ y)),
        lt-ltb (get_or l (3 * b + 1) 0) 2 (omega arith),
        z,
      ))
