-- A turn of the machine is local: what it writes is the processor's own or its tile's, and what is not the processor's it does not read.
use Prim.Native.Nat.{ℕ, zero, suc, ◌+◌, ◌*◌, ◌≤◌, ◌<◌}
use mathlib.Core.Path.{◌≡◌, refl, sym, ap, ◌∙◌}
use mathlib.Core.Logic.{◌⊎◌, inl, inr, ◌≢◌}
use mathlib.Core.Bool.{Bool, true, false}
use mathlib.Core.List.{List, [], ◌∷◌}
use native.Mathlib.Omega.{arith}
use native.Mathlib.Decide.{dec_lt, ℕ_discrete}
use lib.ListN.{length, get_or, set, length-set}
use lib.Seq.{get_or-set_same, get_or-set_other, set_out}
use lib.Dec.{ltb, eqb}
use borrow.Author.Tests.{ltb-true, ne_eqb}
use Rattle.base.specs.Tests.{◌and◌, not, pick}
use Rattle.base.specs.Lists.{In, put, set_all, store_all, all_at, unpack, pack}
use Rattle.base.specs.Numbers.{first_of}
use Rattle.base.proofs.Tests.{both, every_at, true_not, pick_false}
use Rattle.base.proofs.Numbers.{none_first}
use Rattle.base.proofs.Select.{those_in, in_those, at_is, at_low}
use Rattle.base.proofs.Lists.{pack_length, store_length, set_all_length, set_all_same, set_all_other}
use Rattle.base.proofs.Entries.{at_in, part_at}
use Rattle.machine.specs.Plan.{Plan, Sound, count, sender_of, taker_of, held_by, tiles_of, sends_of, dues_of, offset, Knows}
use Rattle.machine.specs.Machine.{State, finished_of, stage_of, sent_of, set_progress, memory_of, place_of, current_tile, tiles_left, fit_record, fit, unpack_all}
use Rattle.machine.specs.Machine.{after_sends, Action, gather, calculate, send, action_at, next_action, carry_out, Answered, answered, waiting, turn_lines, turn}
use Rattle.machine.specs.Words.{Outside}
use Rattle.machine.proofs.Records.{record_length, fit_sending, fit_is}
use Rattle.machine.proofs.Values.{gathered_length}
use Rattle.machine.proofs.Turns.{Turned, turned, next_zero, next_one, next_two, by_next, can}
use Rattle.machine.proofs.Progress.{Shape, here_is}
use Rattle.machine.proofs.Kept.{memory_length, memory_new}
use Rattle.machine.proofs.RunLaws.{number_of}
use Rattle.machine.proofs.Words.{packs, unpacks, stores}
use Rattle.network.specs.Apart.{taker_at}
use Rattle.network.specs.Locality.{PlanLengths, Keeps, WritesOwn, Handles, SameTo, SameSource, Likewise, Local, ReadsOwnWord}
use Rattle.network.proofs.Letters.{all_at_same, words_there, words_other}
use Rattle.network.proofs.Agrees.{set_both, after_both, waiting_law, lines_law}

-- ---- records
module _ (l : List ℕ) (b f g n i : ℕ) (o : Outside (3 * b) 3 i) where
  pub record_rest : get_or (set_progress l b f g n) i 0 ≡ get_or l i 0
  unfolding set_progress
  record_rest = go o
    where
      other : i ≢ 3 * b → i ≢ 3 * b + 1 → i ≢ 3 * b + 2 → get_or (set (set (set l (3 * b) f) (3 * b + 1) g) (3 * b + 2) n) i 0 ≡ get_or l i 0
      other x y z =
          get_or-set_other (set (set l (3 * b) f) (3 * b + 1) g) (3 * b + 2) i n 0 z
          ∙ get_or-set_other (set l (3 * b) f) (3 * b + 1) i g 0 y ∙ get_or-set_other l (3 * b) i f 0 x

      go : (i < 3 * b) ⊎ (3 * b + 3 ≤ i) → get_or (set (set (set l (3 * b) f) (3 * b + 1) g) (3 * b + 2) n) i 0 ≡ get_or l i 0
      go (inl h) = other (λ e. omega arith) (λ e. omega arith) (λ e. omega arith)
      go (inr h) = other (λ e. omega arith) (λ e. omega arith) (λ e. omega arith)

module _ (p : Plan) (s : State) (b t n : ℕ) where
  after_rest : (i : ℕ) → Outside (3 * b) 3 i → get_or (after_sends p s b t n) i 0 ≡ get_or s.progress i 0
  unfolding after_sends pick
  after_rest i o = go (ltb n (length (sends_of p t)))
    where
      go : (more : Bool) → get_or (pick more (set_progress s.progress b (finished_of s b) 2 n) (set_progress s.progress b (finished_of s b + 1) 0 0)) i 0
          ≡ get_or s.progress i 0
      go true = record_rest s.progress b (finished_of s b) 2 n i o
      go false = record_rest s.progress b (finished_of s b + 1) 0 0 i o

  after_length : length (after_sends p s b t n) ≡ length s.progress
  unfolding after_sends pick
  after_length = go (ltb n (length (sends_of p t)))
    where
      go : (more : Bool) → length (pick more (set_progress s.progress b (finished_of s b) 2 n) (set_progress s.progress b (finished_of s b + 1) 0 0))
          ≡ length s.progress
      go true = record_length s.progress b (finished_of s b) 2 n
      go false = record_length s.progress b (finished_of s b + 1) 0 0

-- ---- two memories with the same words at the cells of K
module _ (K : ℕ → Type 0) where
  pub record SameAt (x y : List ℕ) : Type 0 where
    pub long : length x ≡ length y
    pub words : (c : ℕ) → K c → get_or x c 0 ≡ get_or y c 0

  set_at : (x y : List ℕ) (i v : ℕ) → SameAt x y → SameAt (set x i v) (set y i v)
  set_at x y i v e =
      record { long = length-set x i v ∙ e.long ∙ sym (length-set y i v); words = λ c k. go c k (ℕ_discrete c i) (dec_lt i (length x)) }
    where
      go : (c : ℕ) → K c → Dec (c ≡ i) → Dec (i < length x) → get_or (set x i v) c 0 ≡ get_or (set y i v) c 0
      go c k (no n) d = get_or-set_other x i c v 0 n ∙ e.words c k ∙ sym (get_or-set_other y i c v 0 n)
      go c k (yes q) (yes l) = rw q (get_or-set_same x i v 0 l ∙ sym (get_or-set_same y i v 0 (rw (sym e.long) l)))
      go c k (yes q) (no l) = rw (set_out x i v (omega arith), set_out y i v (omega (arith, e.long))) (e.words c k)

  unpack_both : (cs ws x y : List ℕ) → SameAt x y → SameAt (unpack x cs ws) (unpack y cs ws)
  unfolding unpack
  unpack_both [] ws x y e = e
  unpack_both (c ∷ cs) [] x y e = e
  unpack_both (c ∷ cs) (w ∷ ws) x y e = unpack_both cs ws (set x c w) (set y c w) (set_at x y c w e)

  all_both : (p : Plan) (buffer buffer' : List ℕ) (ms x y : List ℕ) → ((m : ℕ) → In m ms → place_of p buffer m ≡ place_of p buffer' m) → SameAt x y
      → SameAt (unpack_all p buffer x ms) (unpack_all p buffer' y ms)
  unfolding unpack_all
  all_both p buffer buffer' [] x y h e = e
  all_both p buffer buffer' (m ∷ ms) x y h e =
      all_both p buffer buffer' ms _ _ (λ k i. h k (inr i))
      (rw (h m (inl refl)) (unpack_both (held_by p m) (place_of p buffer' m) x y e))

  pack_both : (cs x y : List ℕ) → ((c : ℕ) → In c cs → K c) → SameAt x y → pack x cs ≡ pack y cs
  unfolding pack
  pack_both [] x y h e = refl
  pack_both (c ∷ cs) x y h e =
      let a = e.words c (h c (inl refl)) in
      let b = pack_both cs x y (λ d i. h d (inr i)) e in
      cc

  -- stored by two rules that agree at these cells, on memories with the same words
  store_both : (f g : List ℕ → ℕ → ℕ) (cs x y : List ℕ) → ((c : ℕ) → In c cs → (k l : List ℕ) → SameAt k l → f k c ≡ g l c) → SameAt x y
      → SameAt (store_all f x cs) (store_all g y cs)
  unfolding store_all
  store_both f g [] x y h e = e
  store_both f g (c ∷ cs) x y h e =
      store_both f g cs _ _ (λ d i. h d (inr i)) (rw (h c (inl refl) x y e) (set_at x y c (g y c) e))

-- ---- values stored by two rules that agree at these cells
store_same : (f g : List ℕ → ℕ → ℕ) (cs l : List ℕ) → ((k : List ℕ) (c : ℕ) → In c cs → f k c ≡ g k c) → store_all f l cs ≡ store_all g l cs
unfolding store_all
store_same f g [] l h = refl
store_same f g (c ∷ cs) l h =
    ap (λ (v : ℕ). store_all f (set l c v) cs) (h l c (inl refl)) ∙ store_same f g cs (set l c (g l c)) (λ k d i. h k d (inr i))

-- ---- a fit state
turn_fit : (p : Plan) (source : List ℕ) (s : State) (b : ℕ) → (turn p source s b).number ≡ 0 → fit p s ≡ true
unfolding turn
turn_fit p source s b z = true_not (none_first 10 _ _ (λ k. omega arith) z).0

pub shape_of : (p : Plan) (source : List ℕ) (s : State) → PlanLengths p source s → fit p s ≡ true → Shape p s
unfolding fit
shape_of p source s le f =
    record {
      memories = le.memories;
      buffer = le.buffer;
      progress = le.progress;
      status = le.status;
      records = every_at (fit_record p s) p.processors (both f).0;
    }

-- ---- the cells that a processor keeps
pub keeps_low : (p : Plan) → Sound p → (b c : ℕ) → Keeps p b c → c < p.cells
keeps_low p so b c (Keeps.own t l e i) = so.cell_low t c l i
keeps_low p so b c (Keeps.brought m l e i) = so.held_low m c l i

pub known_kept : (p : Plan) (b t : ℕ) → t < p.tiles → p.processor_of t ≡ b → (c : ℕ) → In c (p.cells_of t) ⊎ Knows p (p.processor_of t) t c → Keeps p b c
known_kept p b t low e c (inl i) = Keeps.own t low e i
known_kept p b t low e c (inr (Knows.calculated u l q i)) = Keeps.own u (omega arith) (q ∙ e) i
known_kept p b t low e c (inr (Knows.taken m l k q i)) = Keeps.brought m l (q ∙ e) i

-- ---- what is written
nothing : (p : Plan) (s : State) (b : ℕ) → WritesOwn p s s b
nothing p s b =
    record {
      memories = λ i o. refl;
      memory = λ c l n. refl;
      records = λ i o. refl;
      buffer = λ i o. refl;
      status = λ m x y. refl;
      memories_length = refl;
      buffer_length = refl;
      records_length = refl;
      status_length = refl;
    }

module _ (p : Plan) (so : Sound p) (source : List ℕ) (s : State) (b : ℕ) (le : PlanLengths p source s) where
  abbrev t : ℕ
  t = current_tile p s b

  by_gather : b < p.processors → finished_of s b < length (tiles_of p b) → WritesOwn p s (carry_out p source s b (gather t)) b
  unfolding carry_out
  by_gather low h =
      let u = unpacks p so source s b low le.memories t (here_is p s b h) le.buffer in
      let due-of : (m : ℕ) → In m (dues_of p t) → (m < count p) × (taker_at p m ≡ b) =
      (λ m i. let k = those_in (taker_of p) t (count p) m i in (k.0, ap p.processor_of k.1 ∙ here_is p s b h)) in
      record {
        memories = u.memories_rest;
        memory = λ c l n. u.kept c l (λ m i k. let d = due-of m i in n (Keeps.brought m d.0 d.1 k));
        records = record_rest s.progress b (finished_of s b) 1 0;
        buffer = λ i o. refl;
        status = λ m x y. set_all_other (dues_of p t) s.status 3 m y;
        memories_length = u.memories_length;
        buffer_length = refl;
        records_length = record_length s.progress b (finished_of s b) 1 0;
        status_length = set_all_length (dues_of p t) s.status 3;
      }

  by_calculate : b < p.processors → finished_of s b < length (tiles_of p b) → WritesOwn p s (carry_out p source s b (calculate t)) b
  unfolding carry_out
  by_calculate low h =
      let u = stores p so source s b low le.memories t (here_is p s b h) (at_low p.processor_of b p.tiles (finished_of s b) h) in
      record {
        memories = u.memories_rest;
        memory = λ c l n. u.kept c l (λ i. n (Keeps.own t (at_low p.processor_of b p.tiles (finished_of s b) h) (here_is p s b h) i));
        records = after_rest p s b t 0;
        buffer = λ i o. refl;
        status = λ m x y. refl;
        memories_length = u.memories_length;
        buffer_length = refl;
        records_length = after_length p s b t 0;
        status_length = refl;
      }

  module _ (sh : Shape p s) (low : b < p.processors) (h : finished_of s b < length (tiles_of p b)) (g : 2 ≤ stage_of s b) where
    abbrev m₀ : ℕ
    m₀ = get_or (sends_of p t) (sent_of s b) 0

    pub more_left : sent_of s b < length (sends_of p t)
    more_left = fit_sending p b (finished_of s b) (stage_of s b) (sent_of s b) h g (sym (fit_is p s b) ∙ sh.records b low)

    pub sent_low : m₀ < count p
    sent_low = at_low (sender_of p) t (count p) (sent_of s b) more_left

    pub sent_from : sender_of p m₀ ≡ t
    sent_from = at_is (sender_of p) t (count p) (sent_of s b) more_left

    by_send : WritesOwn p s (carry_out p source s b (send m₀)) b
    unfolding carry_out
    by_send =
        let u = packs p so source s b m₀ sent_low (ap p.processor_of sent_from ∙ here_is p s b h) le.buffer in
        record {
          memories = λ i o. refl;
          memory = λ c l n. refl;
          records = after_rest p s b (sender_of p m₀) (sent_of s b + 1);
          buffer = λ i o. u.buffer_rest i (o m₀ (at_in (sends_of p t) (sent_of s b) more_left));
          status = λ m x y. get_or-set_other s.status m₀ m 1 0 (λ e. x (rw e (at_in (sends_of p t) (sent_of s b) more_left)));
          memories_length = refl;
          buffer_length = u.buffer_length;
          records_length = after_length p s b (sender_of p m₀) (sent_of s b + 1);
          status_length = length-set s.status m₀ 1;
        }

  by_turn : (a : Answered State) → Turned p source s b a → (a.number ≡ 0 → fit p s ≡ true) → WritesOwn p s a.after b
  by_turn a (Turned.unfit q) f = nothing p s b
  by_turn a (Turned.no_such q) f = nothing p s b
  by_turn a (Turned.waits m low h g i k) f = nothing p s b
  by_turn a (Turned.over q) f = nothing p s b
  by_turn a (Turned.gathers low h g r) f = by_gather low h
  by_turn a (Turned.calculates low h g) f = by_calculate low h
  by_turn a (Turned.sends low h g) f = by_send (shape_of p source s le (f refl)) low h g

  pub writes_own : WritesOwn p s (turn p source s b).after b
  writes_own = by_turn _ (turned p source s b) (turn_fit p source s b)

-- ---- what is read
module _ (p : Plan) (source source' : List ℕ) (s s' : State) (b : ℕ) (like : Likewise p source source' s s' b) where
  abbrev view : SameTo p b s s'
  view = like.same_areas

  abbrev tile : ℕ
  tile = current_tile p s b

  tile_is : current_tile p s' b ≡ tile
  tile_is = ap (λ (f : ℕ). get_or (tiles_of p b) f 0) (sym view.finished)

  left_is : tiles_left p s b ≡ tiles_left p s' b
  unfolding tiles_left
  left_is = ap (λ (f : ℕ). ltb f (length (tiles_of p b))) view.finished

  module _ (h : finished_of s b < length (tiles_of p b)) where
    -- a message due at the tile, or sent by it, is the processor's
    due_mine : (m : ℕ) → In m (dues_of p tile) → (m < count p) × Handles p b m
    due_mine m i = let k = those_in (taker_of p) tile (count p) m i in (k.0, inr (ap p.processor_of k.1 ∙ here_is p s b h))

    dues_at : all_at s.status 2 (dues_of p tile) ≡ all_at s'.status 2 (dues_of p (current_tile p s' b))
    dues_at =
        all_at_same s.status s'.status 2 (dues_of p tile)
        (λ m i. let k = due_mine m i in let e = view.marks m k.0 k.1 in (λ x. sym e ∙ x, λ x. e ∙ x))
        ∙ ap (λ (u : ℕ). all_at s'.status 2 (dues_of p u)) (sym tile_is)

  has_left : tiles_left p s b ≡ true → finished_of s b < length (tiles_of p b)
  unfolding tiles_left
  has_left e = ltb-true _ _ e

  waiting_is : waiting p s b ≡ waiting p s' b
  unfolding waiting
  waiting_is =
      waiting_law (tiles_left p s b) (stage_of s b) (stage_of s' b) _ _ view.stage (λ e. dues_at (has_left e))
      ∙ ap (λ (x : Bool). x and (eqb (stage_of s' b) 0 and not (all_at s'.status 2 (dues_of p (current_tile p s' b))))) left_is

  pub number_is : (turn p source s b).number ≡ (turn p source' s' b).number
  unfolding turn
  number_is = lines_law (fit p s) (fit p s') (ltb b p.processors) _ _ _ _ like.both_fit waiting_is left_is

  next_is : next_action p s' b ≡ next_action p s b
  next_is = let a = view.finished in let c = view.stage in let d = view.sent in cc

  -- ---- each action, in both
  module _ (so : Sound p) (sh : Shape p s) (sh' : Shape p s') (low : b < p.processors) (h : finished_of s b < length (tiles_of p b)) where
    abbrev gathered : State → List ℕ
    gathered r = unpack_all p r.buffer (memory_of p r b) (dues_of p tile)

    gathered_long : (r : State) → Shape p r → length (gathered r) ≡ p.cells
    gathered_long r q = gathered_length p r.buffer (dues_of p tile) (memory_of p r b) ∙ memory_length p r b low q

    tile_low : tile < p.tiles
    tile_low = at_low p.processor_of b p.tiles (finished_of s b) h

    -- the words of the cells it keeps, in the two memories
    before : SameAt (Keeps p b) (memory_of p s b) (memory_of p s' b)
    before =
        record {
          long = memory_length p s b low sh ∙ sym (memory_length p s' b low sh');
          words = λ c k.
              part_at s.memories (b * p.cells) p.cells c (keeps_low p so b c k) ∙ view.memory c (keeps_low p so b c k) k
              ∙ sym (part_at s'.memories (b * p.cells) p.cells c (keeps_low p so b c k));
        }

    -- a new memory put there
    word_new : (r : State) → Shape p r → (new : List ℕ) → length new ≡ p.cells → (c : ℕ) → c < p.cells
        → get_or (put r.memories (b * p.cells) new) (b * p.cells + c) 0 ≡ get_or new c 0
    word_new r q new e c l =
        sym (part_at (put r.memories (b * p.cells) new) (b * p.cells) p.cells c l)
        ∙ ap (λ (x : List ℕ). get_or x c 0) (memory_new p r b low q new e)

    then_words : (new new' : List ℕ) → length new ≡ p.cells → length new' ≡ p.cells → SameAt (Keeps p b) new new'
        → (c : ℕ) → c < p.cells → Keeps p b c
        → get_or (put s.memories (b * p.cells) new) (b * p.cells + c) 0 ≡ get_or (put s'.memories (b * p.cells) new') (b * p.cells + c) 0
    then_words new new' e e' is c l k = word_new s sh new e c l ∙ is.words c k ∙ sym (word_new s' sh' new' e' c l)

    gathered_is : SameAt (Keeps p b) (gathered s) (gathered s')
    gathered_is =
        all_both (Keeps p b) p s.buffer s'.buffer (dues_of p tile) (memory_of p s b) (memory_of p s' b)
        (λ m i. let k = due_mine h m i in view.words m k.0 k.1) before

    mark_gathered : (m : ℕ) → m < count p → Handles p b m → Dec (taker_of p m ≡ tile)
        → get_or (set_all s.status (dues_of p tile) 3) m 0 ≡ get_or (set_all s'.status (dues_of p tile) 3) m 0
    mark_gathered m lo mine (yes e) =
        set_all_same (dues_of p tile) s.status 3 m (rw sh.status lo) (in_those (taker_of p) tile (count p) m lo e)
        ∙ sym (set_all_same (dues_of p tile) s'.status 3 m (rw sh'.status lo) (in_those (taker_of p) tile (count p) m lo e))
    mark_gathered m lo mine (no n) =
        set_all_other (dues_of p tile) s.status 3 m (λ i. n (those_in (taker_of p) tile (count p) m i).1)
        ∙ view.marks m lo mine
        ∙ sym (set_all_other (dues_of p tile) s'.status 3 m (λ i. n (those_in (taker_of p) tile (count p) m i).1))

    both_gather : SameTo p b (carry_out p source s b (gather tile)) (carry_out p source' s' b (gather tile))
    unfolding carry_out
    both_gather =
        let r = set_both b p.processors low s.progress s'.progress sh.progress sh'.progress (finished_of s b) (finished_of s' b) 1 0
        view.finished in
        record {
          memory = then_words (gathered s) (gathered s') (gathered_long s sh) (gathered_long s' sh') gathered_is;
          finished = r.finished;
          stage = r.stage;
          sent = r.sent;
          words = view.words;
          marks = λ m lo mine. mark_gathered m lo mine (ℕ_discrete (taker_of p m) tile);
        }

    -- values read of the source the words of the tile's own cells
    module _ (own : ReadsOwnWord p) where
      abbrev done : List ℕ → State → List ℕ
      done input r = store_all (p.value input) (memory_of p r b) (p.cells_of tile)

      done_long : (input : List ℕ) (r : State) → Shape p r → length (done input r) ≡ p.cells
      done_long input r q = store_length (p.value input) (p.cells_of tile) (memory_of p r b) ∙ memory_length p r b low q

      done_is : SameAt (Keeps p b) (done source s) (done source' s')
      done_is =
          store_both (Keeps p b) (p.value source) (p.value source') (p.cells_of tile) (memory_of p s b) (memory_of p s' b)
          (λ c i k l e.
          so.local source k l c (so.cell_low tile c tile_low i)
          (λ r j. e.words r (known_kept p b tile tile_low (here_is p s b h) r (so.reads_known tile c r tile_low i j)))
          ∙ own source source' l c (like.same_source tile c tile_low (here_is p s b h) i))
          before

      both_calculate : SameTo p b (carry_out p source s b (calculate tile)) (carry_out p source' s' b (calculate tile))
      unfolding carry_out
      both_calculate =
          let r = after_both p s' b tile s 0 0 low sh.progress sh'.progress view.finished refl in
          record {
            memory = then_words (done source s) (done source' s') (done_long source s sh) (done_long source' s' sh') done_is;
            finished = r.finished;
            stage = r.stage;
            sent = r.sent;
            words = view.words;
            marks = view.marks;
          }

    module _ (m : ℕ) (lo : m < count p) (from : sender_of p m ≡ tile) where
      abbrev packed : State → List ℕ
      packed r = pack (memory_of p r b) (held_by p m)

      packed_long : (r : State) → length (packed r) ≡ length (held_by p m)
      packed_long r = pack_length (held_by p m) (memory_of p r b)

      word_sent : (k : ℕ) → k < count p → Handles p b k → Dec (k ≡ m)
          → place_of p (put s.buffer (offset p.messages m) (packed s)) k ≡ place_of p (put s'.buffer (offset p.messages m) (packed s')) k
      word_sent k l mine (yes e) =
          rw e (words_there p s.buffer m (packed s) sh.buffer lo (packed_long s)
          ∙ pack_both (Keeps p b) (held_by p m) (memory_of p s b) (memory_of p s' b)
          (λ c i. known_kept p b (sender_of p m) (rw from tile_low) (ap p.processor_of from ∙ here_is p s b h) c (so.held_known m c lo i)) before
          ∙ sym (words_there p s'.buffer m (packed s') sh'.buffer lo (packed_long s')))
      word_sent k l mine (no n) =
          words_other p s.buffer m (packed s) sh.buffer lo (packed_long s) k l n
          ∙ view.words k l mine
          ∙ sym (words_other p s'.buffer m (packed s') sh'.buffer lo (packed_long s') k l n)

      mark_sent : (k : ℕ) → k < count p → Handles p b k → Dec (k ≡ m) → get_or (set s.status m 1) k 0 ≡ get_or (set s'.status m 1) k 0
      mark_sent k l mine (yes e) =
          rw e (get_or-set_same s.status m 1 0 (rw sh.status lo) ∙ sym (get_or-set_same s'.status m 1 0 (rw sh'.status lo)))
      mark_sent k l mine (no n) =
          get_or-set_other s.status m k 1 0 n ∙ view.marks k l mine ∙ sym (get_or-set_other s'.status m k 1 0 n)

      both_send : SameTo p b (carry_out p source s b (send m)) (carry_out p source' s' b (send m))
      unfolding carry_out
      both_send =
          let r = after_both p s' b (sender_of p m) s (sent_of s b + 1) (sent_of s' b + 1) low sh.progress sh'.progress view.finished
          (ap (λ (n : ℕ). n + 1) view.sent) in
          record {
            memory = view.memory;
            finished = r.finished;
            stage = r.stage;
            sent = r.sent;
            words = λ k l mine. word_sent k l mine (ℕ_discrete k m);
            marks = λ k l mine. mark_sent k l mine (ℕ_discrete k m);
          }

  stays : (turn p source' s' b).number ≢ 0 → SameTo p b s (turn p source' s' b).after
  unfolding turn
  stays n = rw (pick_false _ (carry_out p source' s' b (next_action p s' b)) s' (ne_eqb _ 0 n)) view

  moves : (x : Action) (r : State) → next_action p s b ≡ x → (turn p source' s' b).number ≡ 0 → SameTo p b r (carry_out p source' s' b x)
      → SameTo p b r (turn p source' s' b).after
  moves x r e z new = rw (by_next p source' s' b z, next_is, e) new

  module _ (so : Sound p) (own : ReadsOwnWord p) where
    both_turn : (a : Answered State) → Turned p source s b a → a.number ≡ (turn p source' s' b).number → (a.number ≡ 0 → fit p s ≡ true)
        → SameTo p b a.after (turn p source' s' b).after
    both_turn a (Turned.unfit q) e f = stays (λ z. omega arith)
    both_turn a (Turned.no_such q) e f = stays (λ z. omega arith)
    both_turn a (Turned.waits m low h g i k) e f = stays (λ z. omega arith)
    both_turn a (Turned.over q) e f = stays (λ z. omega arith)
    both_turn a (Turned.gathers low h g r) e f =
        moves _ _ (next_zero p _ _ _ g) (sym e)
        (both_gather so (shape_of p source s like.lent (f refl)) (shape_of p source' s' like.lent' (sym like.both_fit ∙ f refl)) low h)
    both_turn a (Turned.calculates low h g) e f =
        moves _ _ (next_one p _ _ _ g) (sym e)
        (both_calculate so (shape_of p source s like.lent (f refl)) (shape_of p source' s' like.lent' (sym like.both_fit ∙ f refl)) low h own)
    both_turn a (Turned.sends low h g) e f =
        moves _ _ (next_two p _ _ _ g) (sym e)
        (both_send so (shape_of p source s like.lent (f refl)) (shape_of p source' s' like.lent' (sym like.both_fit ∙ f refl)) low h _
        (sent_low p so source s b like.lent (shape_of p source s like.lent (f refl)) low h g)
        (sent_from p so source s b like.lent (shape_of p source s like.lent (f refl)) low h g))

    pub changes_are : SameTo p b (turn p source s b).after (turn p source' s' b).after
    changes_are = both_turn _ (turned p source s b) number_is (turn_fit p source s b)

-- ---- a source that has the words of the processor's cells alone
module _ (p : Plan) (own : ReadsOwnWord p) (source source' : List ℕ) (s : State) (b : ℕ) (same : SameSource p b source source') where
  carried : (g n : ℕ) → finished_of s b < length (tiles_of p b)
      → carry_out p source s b (action_at p g (current_tile p s b) n) ≡ carry_out p source' s b (action_at p g (current_tile p s b) n)
  unfolding action_at carry_out
  carried zero n h = refl
  carried (suc zero) n h =
      ap (λ (l : List ℕ). record {
        memories = put s.memories (b * p.cells) l;
        buffer = s.buffer;
        progress = after_sends p s b (current_tile p s b) 0;
        status = s.status;
      })
      (store_same (p.value source) (p.value source') (p.cells_of (current_tile p s b)) (memory_of p s b)
      (λ k c i. own source source' k c
      (same (current_tile p s b) c (at_low p.processor_of b p.tiles (finished_of s b) h) (here_is p s b h) i)))
  carried (suc (suc g)) n h = refl

  pub source_same : turn p source s b ≡ turn p source' s b
  unfolding turn
  source_same = go (ℕ_discrete (turn p source s b).number 0)
    where
      refused : (x : ℕ) (new new' : State) → x ≢ 0 → ◌≡◌ {A = Answered State} (answered x new s) (answered x new' s)
      refused x new new' n = ap (λ (r : State). record { number = x; after = r }) (pick_false _ new s (ne_eqb x 0 n) ∙ sym (pick_false _ new' s (ne_eqb x 0 n)))

      go : Dec ((turn p source s b).number ≡ 0) → turn p source s b ≡ turn p source' s b
      go (yes z) = ap (λ (r : State). answered (first_of (turn_lines p s b)) r s) (carried (stage_of s b) (sent_of s b) (can p source s b z).left)
      go (no n) = refused (first_of (turn_lines p s b)) _ _ n

pub local : (p : Plan) → Sound p → ReadsOwnWord p → Local p (turn p)
local p so own =
    record {
      writes = writes_own p so;
      same_number = number_is p;
      same_changes = λ source source' s s' b like. changes_are p source source' s s' b like so own;
      own_source = λ source source' s b le le' same. source_same p own source source' s b same;
    }

-- turns that answer as these do, wherever the areas have their lengths
pub local_as : (p : Plan) (turns turns' : List ℕ → State → ℕ → Answered State) → Local p turns
    → ((source : List ℕ) (s : State) (b : ℕ) → PlanLengths p source s → turns' source s b ≡ turns source s b) → Local p turns'
local_as p turns turns' l is =
    record {
      writes = λ source s b le. rw (is source s b le) (l.writes source s b le);
      same_number = λ source source' s s' b like.
          number_of (is source s b like.lent) ∙ l.same_number source source' s s' b like ∙ sym (number_of (is source' s' b like.lent'));
      same_changes = λ source source' s s' b like. rw (is source s b like.lent, is source' s' b like.lent') (l.same_changes source source' s s' b like);
      own_source = λ source source' s b le le' same. is source s b le ∙ l.own_source source source' s b le le' same ∙ sym (is source' s b le');
    }

-- turns that are always refused, with one number
pub refusing_local : (p : Plan) (turns : List ℕ → State → ℕ → Answered State) (x : ℕ)
    → ((source : List ℕ) (s : State) (b : ℕ) → turns source s b ≡ record { number = x; after = s }) → Local p turns
refusing_local p turns x is =
    record {
      writes = λ source s b le. rw (is source s b) (nothing p s b);
      same_number = λ source source' s s' b like. number_of (is source s b) ∙ sym (number_of (is source' s' b));
      same_changes = λ source source' s s' b like. rw (is source s b, is source' s' b) like.same_areas;
      own_source = λ source source' s b le le' same. is source s b ∙ sym (is source' s b);
    }
