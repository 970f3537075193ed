-- Each function's part of a round, over plain variables: from what its callees leave to what its contract says.
use Rattle.std.specs.Prelude.{◌≡◌, ℕ, suc, ◌+◌, ◌-◌, ◌*◌, ◌<◌, ◌≤◌, true, false, eqb, ltb, ◌≢◌, List, [], ◌∷◌, length, get_or, take, drop, set}
use mathlib.Core.Path.{refl, sym, ap, ◌∙◌, subst}
use native.Mathlib.Numerals.{add-one}
use native.Mathlib.Decide.{ℕ_discrete}
use native.Mathlib.Omega.{arith}
use lib.ListN.{length-set, drop_of_length-le}
use lib.Seq.{drop-cons, get_or-set_other, set-get_or}
use borrow.Author.Tests.{eq-eqb, ne_eqb, lt-ltb, le-ltb}
use borrow.Rule.Slice.PartMut.{put_mid}
use Rattle.base.specs.Tests.{keep, some}
use Rattle.base.specs.Lists.{sublist, put, pack, unpack, set_all, all_at}
use Rattle.base.proofs.Tests.{and_true, and_left, and_false, and_no, pick_true, pick_false, some_same}
use Rattle.base.proofs.Lists.{piece_fits}
use Rattle.base.proofs.Select.{keep_hit, keep_none, rank_in}
use Rattle.machine.specs.Plan.{Plan, Sound, count, offset, held_by, sender_of, taker_of, tiles_of, sends_of, dues_of}
use Rattle.machine.specs.Machine.{State, state_of, place_of, finished_of, set_progress, unpack_all, tiles_left, fresh}
use Rattle.nest.specs.declared.Nest.{Nest}
use Rattle.nest.specs.Accepted.{Accepted}
use Rattle.nest.specs.Nest.{cells, processors}
use Rattle.nest.proofs.Boxes.{box_few, tiles_few}
use Rattle.plan.specs.declared.Route.{Route}
use Rattle.plan.specs.declared.Route.TheVariants.{Direct, Indirect}
use Rattle.plan.specs.Shaped.{plan_of}
use Rattle.layout.specs.declared.Sizes.{Sizes}
use Rattle.layout.specs.Sizes.{Sized}
use Rattle.tables.specs.declared.scans.MessageSlot.{MessageSlot}
use Rattle.tables.specs.Tables.{FoundIn}
use Rattle.stages.specs.Progress.{progress_only}
use Rattle.stages.proofs.Parts as parts
use Rattle.engine.proofs.Lines.{area_low}
use Rattle.rounds.specs.ByState.{PlanAreas, tile_done, may_gather, after_tile, after_tiles, delivered, after_round}
use Rattle.rounds.specs.Rounds.{rounds, after_rounds}
use Rattle.rounds.proofs.ByState.{next_round, no_round, lent_then, left_then, over_then}
use Rattle.rounds.proofs.Theorem.{theorem213}
use Rattle.schedule.specs.Given.{put_all, memory_then, status_then, mark_then}
use Rattle.schedule.proofs.Chains.{walk_low, walk_over, walk_at, walk_next}
use Rattle.schedule.proofs.Whole.{set_all_append, done_is}

-- areas of the lengths that others have are lent as they are
pub lent_too : (p : Plan) (s x : State) → PlanAreas p s → length x.memories ≡ length s.memories → length x.buffer ≡ length s.buffer
    → length x.progress ≡ length s.progress → length x.status ≡ length s.status → PlanAreas p x
lent_too p s x l a b c d =
    record { memories = a ∙ l.memories; buffer = b ∙ l.buffer; progress = c ∙ l.progress; status = d ∙ l.status }

-- a processor's part of the memories ends low
pub part_few : (x : Nest) (z : Sizes) → Sized x z → (b : ℕ) → b < processors x → b * z.cells + z.cells ≤ 1048576
part_few x z sized b h = omega (arith, area_low x z sized, piece_fits z.cells z.processors b (omega (arith, sized.processors)))

-- no more tiles than a nest has cells, on either route
pub tiles_low : (r : Route) (x : Nest) → Accepted x → (plan_of r x).tiles ≤ 16384
tiles_low Direct x ok = let a = tiles_few x in let b = box_few x ok.long ok.tiled in let c = ok.cells_most in omega arith
tiles_low Indirect x ok = let b = box_few x ok.long ok.tiled in let c = ok.cells_most in omega arith

-- ---- ready: what is left to look at decides; m is the j-th message due, or as many as there are
pub record ReadyLoop (p : Plan) (t : ℕ) (status : List ℕ) (m : ℕ) : Type 0 where
  pub j : ℕ
  pub spot : m ≡ get_or (dues_of p t) j (count p)
  pub is : all_at status 2 (drop j (dues_of p t)) ≡ all_at status 2 (dues_of p t)

module _ (p : Plan) (t : ℕ) (status : List ℕ) (m : ℕ) where
  pub ready_start : m ≡ get_or (dues_of p t) 0 (count p) → ReadyLoop p t status m
  ready_start e = record { j = 0; spot = e; is = refl }

  module _ (x : ReadyLoop p t status m) where
    pub ready_done : count p ≤ m → true ≡ all_at status 2 (dues_of p t)
    unfolding all_at
    ready_done h = sym (sym x.is ∙ rw (drop_of_length-le (dues_of p t) (walk_over (taker_of p) (count p) t x.j m x.spot h)))

    module _ (h : m < count p) where
      here : drop x.j (dues_of p t) ≡ m ∷ drop (suc x.j) (dues_of p t)
      here =
          drop-cons (dues_of p t) x.j 0 (walk_low (taker_of p) (count p) t x.j m x.spot h)
          ∙ ap (λ (i : ℕ). i ∷ drop (suc x.j) (dues_of p t)) (sym (walk_at (taker_of p) (count p) t x.j m x.spot h))

      pub ready_next : get_or status m 0 ≡ 2 → (v : ℕ) → v ≡ get_or (dues_of p t) (suc (rank_in (taker_of p) m)) (count p)
          → ReadyLoop p t status v
      unfolding all_at
      ready_next e v k =
          record {
            j = x.j + 1;
            spot = walk_next (taker_of p) (count p) t x.j m x.spot h v k;
            is =
                ap (λ (i : ℕ). all_at status 2 (drop i (dues_of p t))) (add-one x.j)
                ∙ sym (and_left (eqb (get_or status m 0) 2) (all_at status 2 (drop (suc x.j) (dues_of p t))) (eq-eqb _ _ e))
                ∙ sym (ap (all_at status 2) here) ∙ x.is;
          }

      pub ready_no : get_or status m 0 ≢ 2 → false ≡ all_at status 2 (dues_of p t)
      unfolding all_at
      ready_no e =
          sym (sym x.is ∙ ap (all_at status 2) here
          ∙ and_false (eqb (get_or status m 0) 2) (all_at status 2 (drop (suc x.j) (dues_of p t))) (ne_eqb _ _ e))

-- ---- gather: what is left to gather gives the same
pub record GatherLoop (r : Route) (x : Nest) (t : ℕ) (buffer memory₀ status₀ memory status : List ℕ) (m : ℕ) : Type 0 where
  pub j : ℕ
  pub spot : m ≡ get_or (dues_of (plan_of r x) t) j (count (plan_of r x))
  pub gathering : parts.Gathering r x t buffer memory₀ status₀ memory status (length (dues_of (plan_of r x) t)) j

module _ (r : Route) (x : Nest) (t : ℕ) (buffer memory₀ status₀ : List ℕ) where
  abbrev q : Plan
  q = plan_of r x

  pub gather_start : (m : ℕ) → m ≡ get_or (dues_of (plan_of r x) t) 0 (count (plan_of r x)) → GatherLoop r x t buffer memory₀ status₀ memory₀ status₀ m
  gather_start m e = record { j = 0; spot = e; gathering = parts.gather_start r x t buffer memory₀ status₀ (length (dues_of q t)) refl }

  module _ (memory status : List ℕ) (m : ℕ) (g : GatherLoop r x t buffer memory₀ status₀ memory status m) where
    pub gather_next : m < count (plan_of r x) → (place : MessageSlot) → FoundIn r x m place → (memory' : List ℕ) → length memory' ≡ length memory
        → memory' ≡ unpack memory (held_by (plan_of r x) place.number) (place_of (plan_of r x) buffer place.number)
        → (v : ℕ) → v ≡ get_or (dues_of (plan_of r x) t) (suc (rank_in (taker_of (plan_of r x)) m)) (count (plan_of r x))
        → GatherLoop r x t buffer memory₀ status₀ memory' (set status m 3) v
    gather_next h place f memory' l e v k =
        let low = walk_low (taker_of q) (count q) t g.j m g.spot h in
        let at = walk_at (taker_of q) (count q) t g.j m g.spot h in
        record {
          j = g.j + 1;
          spot = walk_next (taker_of q) (count q) t g.j m g.spot h v k;
          gathering =
              subst (λ (i : ℕ). parts.Gathering r x t buffer memory₀ status₀ memory' (set status i 3) (length (dues_of q t)) (g.j + 1)) f.number
              (parts.gather_again r x t buffer memory₀ status₀ (length (dues_of q t)) memory memory' status g.j place g.gathering low
              (subst (λ (i : ℕ). FoundIn r x i place) at f) l e);
        }

    pub gather_done : count (plan_of r x) ≤ m
        → (memory ≡ unpack_all (plan_of r x) buffer memory₀ (dues_of (plan_of r x) t)) × (status ≡ set_all status₀ (dues_of (plan_of r x) t) 3)
    gather_done h =
        parts.gather_done r x t buffer memory₀ status₀ (length (dues_of q t)) memory status g.j g.gathering
        (walk_over (taker_of q) (count q) t g.j m g.spot h)

-- ---- send: what is left to send gives the same
pub record SendLoop (p : Plan) (t : ℕ) (memory buffer₀ status₀ buffer status : List ℕ) (m : ℕ) : Type 0 where
  pub j : ℕ
  pub spot : m ≡ get_or (sends_of p t) j (count p)
  pub long : length buffer ≡ length buffer₀
  pub marks : length status ≡ length status₀
  pub buffers : put_all p memory buffer (drop j (sends_of p t)) ≡ put_all p memory buffer₀ (sends_of p t)
  pub statuses : set_all status (drop j (sends_of p t)) 1 ≡ set_all status₀ (sends_of p t) 1

module _ (p : Plan) (t : ℕ) (memory buffer₀ status₀ : List ℕ) where
  pub send_start : (m : ℕ) → m ≡ get_or (sends_of p t) 0 (count p) → SendLoop p t memory buffer₀ status₀ buffer₀ status₀ m
  send_start m e = record { j = 0; spot = e; long = refl; marks = refl; buffers = refl; statuses = refl }

  module _ (buffer status : List ℕ) (m : ℕ) (x : SendLoop p t memory buffer₀ status₀ buffer status m) where
    pub send_next : m < count p → (i : ℕ) → i ≡ m → (buffer' : List ℕ) → length buffer' ≡ length buffer
        → buffer' ≡ put buffer (offset p.messages i) (pack memory (held_by p i))
        → (v : ℕ) → v ≡ get_or (sends_of p t) (suc (rank_in (sender_of p) m)) (count p)
        → SendLoop p t memory buffer₀ status₀ buffer' (set status m 1) v
    unfolding put_all set_all
    send_next h i is buffer' l e v k =
        let here : drop x.j (sends_of p t) ≡ m ∷ drop (suc x.j) (sends_of p t) =
        drop-cons (sends_of p t) x.j 0 (walk_low (sender_of p) (count p) t x.j m x.spot h)
        ∙ ap (λ (a : ℕ). a ∷ drop (suc x.j) (sends_of p t)) (sym (walk_at (sender_of p) (count p) t x.j m x.spot h)) in
        record {
          j = x.j + 1;
          spot = walk_next (sender_of p) (count p) t x.j m x.spot h v k;
          long = l ∙ x.long;
          marks = rw length-set x.marks;
          buffers =
              ap (λ (a : ℕ). put_all p memory buffer' (drop a (sends_of p t))) (add-one x.j)
              ∙ ap (λ (a : List ℕ). put_all p memory a (drop (suc x.j) (sends_of p t)))
              (e ∙ ap (λ (a : ℕ). put buffer (offset p.messages a) (pack memory (held_by p a))) is)
              ∙ sym (ap (put_all p memory buffer) here) ∙ x.buffers;
          statuses =
              ap (λ (a : ℕ). set_all (set status m 1) (drop a (sends_of p t)) 1) (add-one x.j)
              ∙ sym (ap (λ (a : List ℕ). set_all status a 1) here) ∙ x.statuses;
        }

    pub send_done : count p ≤ m → (buffer ≡ put_all p memory buffer₀ (sends_of p t)) × (status ≡ set_all status₀ (sends_of p t) 1)
    unfolding put_all set_all
    send_done h =
        let none : drop x.j (sends_of p t) ≡ [] = drop_of_length-le (sends_of p t) (walk_over (sender_of p) (count p) t x.j m x.spot h) in
        (sym (ap (put_all p memory buffer) none) ∙ x.buffers, sym (ap (λ (a : List ℕ). set_all status a 1) none) ∙ x.statuses)

-- ---- next_tile
module _ (p : Plan) (source : List ℕ) (s : State) (b : ℕ) where
  pub tile_over : length (tiles_of p b) ≤ finished_of s b → s ≡ after_tile p source s b
  unfolding after_tile may_gather tiles_left
  tile_over h = sym (pick_false _ _ _ (and_false _ _ (le-ltb (finished_of s b) (length (tiles_of p b)) h)))

  module _ (t : ℕ) (e : t ≡ get_or (tiles_of p b) (finished_of s b) 0) where
    pub tile_waits : all_at s.status 2 (dues_of p t) ≡ false → s ≡ after_tile p source s b
    unfolding after_tile may_gather
    tile_waits k = sym (pick_false _ _ _ (and_no _ _ (rw e at k)))

    pub tile_does : finished_of s b < length (tiles_of p b) → all_at s.status 2 (dues_of p t) ≡ true → (y : State)
        → y ≡ tile_done p source s b t → y ≡ after_tile p source s b
    unfolding after_tile may_gather tiles_left
    tile_does h k y d =
        d ∙ ap (λ (u : ℕ). tile_done p source s b u) e
        ∙ sym (pick_true _ _ _ (and_true (lt-ltb (finished_of s b) (length (tiles_of p b)) h) (rw e at k)))

-- the tile's code leaves what the tile does; k is the number of cells
pub tile_now : (r : Route) (x : Nest) (source : List ℕ) (s : State) (b t f k : ℕ) → k ≡ cells x → PlanAreas (plan_of r x) s → b < (plan_of r x).processors
    → f ≡ finished_of s b → (ys bs l st : List ℕ) → b * k + k ≤ length s.memories
    → length ys ≡ length (take (b * k + k - b * k) (drop (b * k) s.memories))
    → ys ≡ memory_then (plan_of r x) source s.buffer (take (b * k + k - b * k) (drop (b * k) s.memories)) t
    → bs ≡ put_all (plan_of r x) ys s.buffer (sends_of (plan_of r x) t) → l ≡ set_progress s.progress b (f + 1) 0 0
    → st ≡ status_then (plan_of r x) s.status t
    → state_of (put_mid (b * k) (b * k + k - b * k) s.memories ys) bs l st ≡ tile_done (plan_of r x) source s b t
tile_now r x source s b t f k e lent low fin ys bs l st h q y u v w =
    let p = plan_of r x in
    let own : ys ≡ memory_then (plan_of r x) source s.buffer (sublist s.memories (b * cells x) (cells x)) t =
    y ∙ ap (λ (z : List ℕ). memory_then (plan_of r x) source s.buffer z t) (parts.mid_is s.memories (b * k) k)
    ∙ ap (λ (i : ℕ). memory_then (plan_of r x) source s.buffer (sublist s.memories (b * i) i) t) e in
    ap (λ (z : List ℕ). state_of z bs l st) (parts.piece_back s.memories ys (λ z. memory_then (plan_of r x) source s.buffer z t) b k (cells x) e h q y)
    ∙ ap (λ (z : List ℕ). state_of (put s.memories (b * cells x) (memory_then (plan_of r x) source s.buffer
    (sublist s.memories (b * cells x) (cells x)) t)) z l st)
    (u ∙ ap (λ (z : List ℕ). put_all (plan_of r x) z s.buffer (sends_of (plan_of r x) t)) own)
    ∙ ap (λ (z : List ℕ). state_of (put s.memories (b * cells x) (memory_then (plan_of r x) source s.buffer (sublist s.memories (b * cells x) (cells x))
    t))
    (put_all (plan_of r x) (memory_then (plan_of r x) source s.buffer (sublist s.memories (b * cells x) (cells x)) t) s.buffer
    (sends_of (plan_of r x) t)) z st) v
    ∙ ap (state_of (put s.memories (b * cells x) (memory_then (plan_of r x) source s.buffer (sublist s.memories (b * cells x) (cells x)) t))
    (put_all (plan_of r x) (memory_then (plan_of r x) source s.buffer (sublist s.memories (b * cells x) (cells x)) t) s.buffer (sends_of (plan_of r x) t))
    (set_progress s.progress b (f + 1) 0 0)) w
    ∙ sym (done_is (plan_of r x) source s b t f lent low fin)

-- ---- round: after the first b processors
pub record TilesLoop (p : Plan) (source : List ℕ) (s x : State) (n b : ℕ) : Type 0 where
  pub low : b ≤ n
  pub memories : length x.memories ≡ length s.memories
  pub buffer : length x.buffer ≡ length s.buffer
  pub progress : length x.progress ≡ length s.progress
  pub status : length x.status ≡ length s.status
  pub state : x ≡ after_tiles p source s b

module _ (p : Plan) (source : List ℕ) (s : State) where
  pub tiles_start : (n : ℕ) → TilesLoop p source s s n 0
  unfolding after_tiles
  tiles_start n = record { low = omega arith; memories = refl; buffer = refl; progress = refl; status = refl; state = refl }

  module _ (x : State) (n b : ℕ) (i : TilesLoop p source s x n b) where
    pub tiles_lent : PlanAreas p s → PlanAreas p x
    tiles_lent l = lent_too p s x l i.memories i.buffer i.progress i.status

    pub tiles_next : b < n → (y : State) → length y.memories ≡ length x.memories → length y.buffer ≡ length x.buffer
        → length y.progress ≡ length x.progress → length y.status ≡ length x.status
        → y ≡ after_tile p source x b → TilesLoop p source s y n (b + 1)
    unfolding after_tiles
    tiles_next h y q1 q2 q3 q4 e =
        let k : b + 1 ≡ suc b = omega arith in
        record {
          low = omega arith;
          memories = q1 ∙ i.memories;
          buffer = q2 ∙ i.buffer;
          progress = q3 ∙ i.progress;
          status = q4 ∙ i.status;
          state = e ∙ ap (λ (z : State). after_tile p source z b) i.state ∙ ap (λ (c : ℕ). after_tiles p source s c) (sym k);
        }

    pub tiles_done : n ≤ b → (k : ℕ) → n ≡ k → x ≡ after_tiles p source s k
    tiles_done h k e = let q : b ≡ k = omega (arith, i.low) in i.state ∙ ap (λ (c : ℕ). after_tiles p source s c) q

-- ---- deliver_mail: after the first m marks
pub record MailLoop (before status : List ℕ) (m : ℕ) : Type 0 where
  pub long : length status ≡ length before
  pub low : m ≤ length before
  pub rest : (i : ℕ) → m ≤ i → get_or status i 0 ≡ get_or before i 0
  pub state : status ≡ set_all before (keep (λ i. eqb (get_or before i 0) 1) m) 2

module _ (before : List ℕ) where
  pub mail_start : MailLoop before before 0
  unfolding keep set_all
  mail_start = record { long = refl; low = omega arith; rest = λ i h. refl; state = refl }

  module _ (status : List ℕ) (m : ℕ) (x : MailLoop before status m) where
    pub mail_hit : m < length before → get_or status m 0 ≡ 1 → MailLoop before (set status m 2) (m + 1)
    unfolding set_all
    mail_hit h e =
        let k : m + 1 ≡ suc m = omega arith in
        record {
          long = rw length-set x.long;
          low = omega arith;
          rest = λ i q. get_or-set_other status m i 2 0 (λ z. omega arith) ∙ x.rest i (omega arith);
          state = ap (λ (l : List ℕ). set l m 2) x.state
              ∙ sym (set_all_append before (keep (λ i. eqb (get_or before i 0) 1) m) (m ∷ []) 2)
              ∙ ap (λ (l : List ℕ). set_all before l 2) (sym (keep_hit (λ i. eqb (get_or before i 0) 1) m
              (eq-eqb (get_or before m 0) 1 (sym (x.rest m (omega arith)) ∙ e))))
              ∙ ap (λ (c : ℕ). set_all before (keep (λ i. eqb (get_or before i 0) 1) c) 2) (sym k);
        }

    pub mail_miss : m < length before → (get_or status m 0 ≡ 1 → ⊥) → MailLoop before status (m + 1)
    mail_miss h e =
        let k : m + 1 ≡ suc m = omega arith in
        record {
          long = x.long;
          low = omega arith;
          rest = λ i q. x.rest i (omega arith);
          state = x.state
              ∙ ap (λ (l : List ℕ). set_all before l 2) (sym (keep_none (λ i. eqb (get_or before i 0) 1) m
              (ne_eqb (get_or before m 0) 1 (λ z. e (x.rest m (omega arith) ∙ z)))))
              ∙ ap (λ (c : ℕ). set_all before (keep (λ i. eqb (get_or before i 0) 1) c) 2) (sym k);
        }

    pub mail_next : m < length before → (after : List ℕ) → after ≡ set status m (mark_then (get_or status m 0)) → MailLoop before after (m + 1)
    unfolding mark_then
    mail_next h after e = go (ℕ_discrete (get_or status m 0) 1)
      where
        go : Dec (get_or status m 0 ≡ 1) → MailLoop before after (m + 1)
        go (yes q) =
            rw (e ∙ ap (set status m) (pick_true _ _ _ (eq-eqb (get_or status m 0) 1 q))) (mail_hit h q)
        go (no q) =
            rw (e ∙ ap (set status m) (pick_false _ _ _ (ne_eqb (get_or status m 0) 1 q)) ∙ set-get_or status m 0) (mail_miss h q)

    pub mail_done : length status ≤ m → status ≡ delivered before
    unfolding delivered
    mail_done h =
        let k : m ≡ length before = omega (arith, x.low, x.long) in
        x.state ∙ ap (λ (c : ℕ). set_all before (keep (λ i. eqb (get_or before i 0) 1) c) 2) k

-- ---- round: then the mail
pub round_done : (p : Plan) (source : List ℕ) (s x : State) (st : List ℕ) → x ≡ after_tiles p source s p.processors → st ≡ delivered x.status
    → state_of x.memories x.buffer x.progress st ≡ after_round p source s
unfolding after_round
round_done p source s x st e k =
    ap (λ (l : List ℕ). state_of x.memories x.buffer x.progress l) k
    ∙ ap (λ (y : State). state_of y.memories y.buffer y.progress (delivered y.status)) e

-- ---- all_rounds: after r rounds
pub record RoundsLoop (p : Plan) (source : List ℕ) (s x : State) (r : ℕ) : Type 0 where
  pub low : r ≤ rounds p
  pub memories : length x.memories ≡ length s.memories
  pub buffer : length x.buffer ≡ length s.buffer
  pub progress : length x.progress ≡ length s.progress
  pub status : length x.status ≡ length s.status
  pub state : x ≡ after_rounds p source r

module _ (p : Plan) (so : Sound p) (source : List ℕ) (s : State) where
  lent_by : (x y : State) → x ≡ y → PlanAreas p y → PlanAreas p x
  lent_by x y e l = rw e l

  pub rounds_start : s ≡ fresh p → RoundsLoop p source s s 0
  rounds_start e =
      record { low = omega arith; memories = refl; buffer = refl; progress = refl; status = refl; state = e ∙ sym (no_round p so source) }

  pub rounds_few : rounds p ≤ p.tiles
  rounds_few = (theorem213 p so source).few

  module _ (x : State) (r : ℕ) (i : RoundsLoop p source s x r) where
    pub rounds_lent : PlanAreas p x
    rounds_lent = lent_by x (after_rounds p source r) i.state (lent_then p so source r)

    left_in : (y : State) → x ≡ y → some (tiles_left p (progress_only x.progress)) p.processors ≡ some (tiles_left p y) p.processors
    unfolding tiles_left
    left_in y e =
        some_same (tiles_left p (progress_only x.progress)) (tiles_left p y) p.processors
        (λ b h. ap (λ (z : State). ltb (finished_of z b) (length (tiles_of p b))) e)

    pub rounds_more : some (tiles_left p (progress_only x.progress)) p.processors ≡ true → r < rounds p
    rounds_more e = left_then p so source r (sym (left_in (after_rounds p source r) i.state) ∙ e)

    pub rounds_next : r < rounds p → (y : State) → length y.memories ≡ length x.memories → length y.buffer ≡ length x.buffer
        → length y.progress ≡ length x.progress → length y.status ≡ length x.status
        → y ≡ after_round p source x → RoundsLoop p source s y (r + 1)
    rounds_next h y q1 q2 q3 q4 e =
        let k : r + 1 ≡ suc r = omega arith in
        record {
          low = omega arith;
          memories = q1 ∙ i.memories;
          buffer = q2 ∙ i.buffer;
          progress = q3 ∙ i.progress;
          status = q4 ∙ i.status;
          state = e ∙ ap (λ (z : State). after_round p source z) i.state ∙ sym (next_round p so source r) ∙ ap (λ (c : ℕ). after_rounds p source c) (sym k);
        }

    pub rounds_over : some (tiles_left p (progress_only x.progress)) p.processors ≡ false
        → (r ≡ rounds p) × (x ≡ after_rounds p source (rounds p))
    rounds_over e =
        let k : rounds p ≤ r = over_then p so source r (sym (left_in (after_rounds p source r) i.state) ∙ e) in
        let q : r ≡ rounds p = omega (arith, i.low) in
        (q, i.state ∙ ap (λ (c : ℕ). after_rounds p source c) q)
