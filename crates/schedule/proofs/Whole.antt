-- A whole tile, from what gathering, calculating and sending leave: the state after it, area by area.
use Rattle.std.specs.Prelude.{◌≡◌, ℕ, zero, suc, ◌+◌, ◌*◌, ◌<◌, ◌≤◌, ltb, List, [], ◌∷◌, ◌++◌, length, get_or, take, drop, set}
use mathlib.Core.Path.{refl, sym, ap, ◌∙◌}
use native.Mathlib.Omega.{arith}
use lib.ListN.{length-take}
use lib.Seq.{take-suc, take-length, take_at, drop_at, set-set, set_comm}
use borrow.Author.Tests.{lt-ltb, le-ltb}
use Rattle.base.specs.Tests.{pick}
use Rattle.base.specs.Lists.{sublist, put, set_all, store_all, pack}
use Rattle.base.proofs.Tests.{pick_true, pick_false}
use Rattle.base.proofs.Lists.{part_length, part_put_same, store_length, piece_fits}
use Rattle.base.proofs.Select.{at_is}
use Rattle.machine.specs.Plan.{Plan, count, offset, held_by, sender_of, sends_of, dues_of}
use Rattle.machine.specs.Machine.{State, state_of, memory_of, finished_of, sent_of, set_progress, unpack_all, gather, send, after_sends, carry_out}
use Rattle.machine.proofs.Records.{finished_same, sent_same}
use Rattle.machine.proofs.Values.{gathered_length}
use Rattle.rounds.specs.ByState.{PlanAreas, sent_to, calculated_tile, tile_done}
use Rattle.schedule.specs.Given.{put_all, memory_then, status_then}

-- ---- lists

-- a record stored over another
over : (l : List ℕ) (b x y z u v w : ℕ) → set_progress (set_progress l b x y z) b u v w ≡ set_progress l b u v w
unfolding set_progress
over l b x y z u v w =
    ap (λ (k : List ℕ). set (set k (3 * b + 1) v) (3 * b + 2) w)
    (set_comm (set (set l (3 * b) x) (3 * b + 1) y) (3 * b + 2) (3 * b) z u (λ e. omega arith)
    ∙ ap (λ (k : List ℕ). set k (3 * b + 2) z) (set_comm (set l (3 * b) x) (3 * b + 1) (3 * b) y u (λ e. omega arith)
    ∙ ap (λ (k : List ℕ). set k (3 * b + 1) y) (set-set l (3 * b) x u)))
    ∙ ap (λ (k : List ℕ). set k (3 * b + 2) w)
    (set_comm (set (set l (3 * b) u) (3 * b + 1) y) (3 * b + 2) (3 * b + 1) z v (λ e. omega arith)
    ∙ ap (λ (k : List ℕ). set k (3 * b + 2) z) (set-set (set l (3 * b) u) (3 * b + 1) y v))
    ∙ set-set (set (set l (3 * b) u) (3 * b + 1) v) (3 * b + 2) z w

-- a part put in place of another of its length
put_over : (l s t : List ℕ) (i : ℕ) → i ≤ length l → length s ≡ length t → put (put l i s) i t ≡ put l i t
unfolding put
put_over l s t i h e =
    let w : length (take i l) ≡ i = rw length-take (omega arith) in
    ap (λ (a : List ℕ). a ++ (t ++ drop (length t) (drop i (take i l ++ (s ++ drop (length s) (drop i l))))))
    (take_at (take i l) (s ++ drop (length s) (drop i l)) i w)
    ∙ ap (λ (a : List ℕ). take i l ++ (t ++ drop (length t) a)) (drop_at (take i l) (s ++ drop (length s) (drop i l)) i w)
    ∙ ap (λ (a : List ℕ). take i l ++ (t ++ a)) (drop_at s (drop (length s) (drop i l)) (length t) e)
    ∙ ap (λ (k : ℕ). take i l ++ (t ++ drop k (drop i l))) e

put_all_append : (p : Plan) (memory a b buffer : List ℕ) → put_all p memory buffer (a ++ b) ≡ put_all p memory (put_all p memory buffer a) b
unfolding put_all
put_all_append p memory [] b buffer = refl
put_all_append p memory (m ∷ a) b buffer = put_all_append p memory a b (put buffer (offset p.messages m) (pack memory (held_by p m)))

pub set_all_append : (l a b : List ℕ) (v : ℕ) → set_all l (a ++ b) v ≡ set_all (set_all l a v) b v
unfolding set_all
set_all_append l [] b v = refl
set_all_append l (x ∷ a) b v = set_all_append (set l x v) a b v

-- ---- tile t of processor b, which has finished f
module _ (p : Plan) (source : List ℕ) (s : State) (b t f : ℕ) (lent : PlanAreas p s) (low : b < p.processors) (finished : f ≡ finished_of s b) where
  abbrev a : ℕ
  a = b * p.cells

  abbrev sends : List ℕ
  sends = sends_of p t

  abbrev own : List ℕ
  own = memory_of p s b

  abbrev gathered : List ℕ
  gathered = unpack_all p s.buffer own (dues_of p t)

  abbrev made : List ℕ
  made = memory_then p source s.buffer own t

  room : a + p.cells ≤ length s.memories
  room = rw lent.memories (piece_fits p.cells p.processors b low)

  own_long : length own ≡ p.cells
  own_long = part_length s.memories a p.cells room

  gathered_long : length gathered ≡ p.cells
  gathered_long = gathered_length p s.buffer (dues_of p t) own ∙ own_long

  made_long : length made ≡ p.cells
  made_long = store_length (p.value source) (p.cells_of t) gathered ∙ gathered_long

  -- the memory that was put back
  part_back : (m : List ℕ) → length m ≡ p.cells → sublist (put s.memories a m) a p.cells ≡ m
  part_back m e = ap (λ (k : ℕ). sublist (put s.memories a m) a k) (sym e) ∙ part_put_same s.memories a m (rw e room)

  -- the processor's record after j sends
  unfoldable record_at : ℕ → List ℕ
  record_at j = pick (ltb j (length sends)) (set_progress s.progress b f 2 j) (set_progress s.progress b (f + 1) 0 0)

  abbrev at : ℕ → State
  at j = state_of (put s.memories a made) (put_all p made s.buffer (take j sends)) (record_at j)
      (set_all (set_all s.status (dues_of p t) 3) (take j sends) 1)

  -- a record of j sends stored over the one before it
  next_record : (x : State) (v y z j : ℕ) → x.progress ≡ set_progress s.progress b v y z → v ≡ f → (u : ℕ) → u ≡ t → after_sends p x b u j ≡ record_at j
  unfolding after_sends record_at
  next_record x v y z j e q u k =
      let i : finished_of x b ≡ f =
      ap (λ (l : List ℕ). get_or l (3 * b) 0) e ∙ finished_same s.progress b p.processors lent.progress low v y z ∙ q in
      rw (k, i, e)
      (ap (λ (l : List ℕ). pick (ltb j (length sends)) l (set_progress (set_progress s.progress b v y z) b (f + 1) 0 0))
      (over s.progress b v y z f 2 j)
      ∙ ap (pick (ltb j (length sends)) (set_progress s.progress b f 2 j)) (over s.progress b v y z (f + 1) 0 0))

  calculated_is : calculated_tile p source s b t ≡ at 0
  unfolding carry_out put_all set_all
  calculated_is =
      let g : sublist (put s.memories a gathered) a p.cells ≡ gathered = part_back gathered gathered_long in
      let r : after_sends p (carry_out p [] s b (gather t)) b t 0 ≡ record_at 0 =
      next_record (carry_out p [] s b (gather t)) (finished_of s b) 1 0 0 refl (sym finished) t refl in
      ap (λ (l : List ℕ). state_of (put (put s.memories a gathered) a
      (store_all (p.value source) (sublist (put s.memories a gathered) a p.cells) (p.cells_of t)))
      s.buffer l (set_all s.status (dues_of p t) 3)) r
      ∙ ap (λ (m : List ℕ). state_of (put (put s.memories a gathered) a (store_all (p.value source) m (p.cells_of t))) s.buffer (record_at 0)
      (set_all s.status (dues_of p t) 3)) g
      ∙ ap (λ (m : List ℕ). state_of m s.buffer (record_at 0) (set_all s.status (dues_of p t) 3))
      (put_over s.memories gathered made a (omega (arith, room)) (gathered_long ∙ sym made_long))

  sent_next : (j : ℕ) → j < length sends → carry_out p [] (at j) b (send (get_or sends j 0)) ≡ at (suc j)
  unfolding carry_out put_all set_all record_at
  sent_next j h =
      let e : record_at j ≡ set_progress s.progress b f 2 j = pick_true _ _ _ (lt-ltb j (length sends) h) in
      let q : sent_of (at j) b + 1 ≡ suc j =
      ap (λ (l : List ℕ). get_or l (3 * b + 2) 0 + 1) e ∙ ap (λ (i : ℕ). i + 1) (sent_same s.progress b p.processors lent.progress low f 2 j) ∙
      omega arith in
      let r : after_sends p (at j) b (sender_of p (get_or sends j 0)) (sent_of (at j) b + 1) ≡ record_at (suc j) =
      ap (after_sends p (at j) b (sender_of p (get_or sends j 0))) q
      ∙ next_record (at j) f 2 j (suc j) e refl (sender_of p (get_or sends j 0)) (at_is (sender_of p) t (count p) j h) in
      let k : take (suc j) sends ≡ take j sends ++ (get_or sends j 0 ∷ []) = take-suc sends j 0 h in
      let d : sublist (put s.memories a made) a p.cells ≡ made = part_back made made_long in
      ap (λ (l : List ℕ). state_of (put s.memories a made)
      (put (put_all p made s.buffer (take j sends)) (offset p.messages (get_or sends j 0))
      (pack (sublist (put s.memories a made) a p.cells) (held_by p (get_or sends j 0)))) l
      (set (set_all (set_all s.status (dues_of p t) 3) (take j sends) 1) (get_or sends j 0) 1)) r
      ∙ ap (λ (y : List ℕ). state_of (put s.memories a made)
      (put (put_all p made s.buffer (take j sends)) (offset p.messages (get_or sends j 0)) (pack y (held_by p (get_or sends j 0)))) (record_at (suc j))
      (set (set_all (set_all s.status (dues_of p t) 3) (take j sends) 1) (get_or sends j 0) 1)) d
      ∙ ap (λ (y : List ℕ). state_of (put s.memories a made) y (record_at (suc j))
      (set (set_all (set_all s.status (dues_of p t) 3) (take j sends) 1) (get_or sends j 0) 1))
      (sym (put_all_append p made (take j sends) (get_or sends j 0 ∷ []) s.buffer) ∙ ap (put_all p made s.buffer) (sym k))
      ∙ ap (λ (y : List ℕ). state_of (put s.memories a made) (put_all p made s.buffer (take (suc j) sends)) (record_at (suc j)) y)
      (sym (set_all_append (set_all s.status (dues_of p t) 3) (take j sends) (get_or sends j 0 ∷ []) 1)
      ∙ ap (λ (y : List ℕ). set_all (set_all s.status (dues_of p t) 3) y 1) (sym k))

  sent_are : (j : ℕ) → j ≤ length sends → sent_to p (calculated_tile p source s b t) b t j ≡ at j
  unfolding sent_to
  sent_are zero h = calculated_is
  sent_are (suc j) h =
      ap (λ (x : State). carry_out p [] x b (send (get_or sends j 0))) (sent_are j (omega arith))
      ∙ sent_next j (omega arith)

  pub done_is : tile_done p source s b t
      ≡ state_of (put s.memories a made) (put_all p made s.buffer sends) (set_progress s.progress b (f + 1) 0 0) (status_then p s.status t)
  unfolding tile_done record_at
  done_is =
      sent_are (length sends) (omega arith)
      ∙ ap (λ (l : List ℕ). state_of (put s.memories a made) (put_all p made s.buffer (take (length sends) sends)) l
      (set_all (set_all s.status (dues_of p t) 3) (take (length sends) sends) 1)) (pick_false _ _ _ (le-ltb (length sends) (length sends) (omega arith)))
      ∙ ap (λ (y : List ℕ). state_of (put s.memories a made) (put_all p made s.buffer y) (set_progress s.progress b (f + 1) 0 0)
      (set_all (set_all s.status (dues_of p t) 3) y 1)) (take-length sends)
