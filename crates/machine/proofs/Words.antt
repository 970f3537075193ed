-- A send packs, and a gather unpacks, exactly the words that their messages name; a calculate stores exactly its tile's values.
use Prim.Native.Nat.{ℕ, ◌+◌, ◌*◌, ◌≤◌, ◌<◌}
use mathlib.Core.Path.{◌≡◌, refl, sym, ap, ◌∙◌}
use mathlib.Core.Logic.{inl, inr}
use mathlib.Core.Bool.{true}
use mathlib.Core.List.{List, [], ◌∷◌}
use native.Mathlib.Omega.{arith}
use native.Mathlib.Decide.{ℕ_discrete}
use lib.ListN.{length, get_or, set, length-set}
use lib.Seq.{get_or-set_same, get_or-set_other}
use Rattle.base.specs.Lists.{In, Rising, sublist, put, unpack, pack, store_all}
use Rattle.base.specs.Tests.{every}
use Rattle.base.proofs.Tests.{both, never_both, true_not, every_at}
use Rattle.base.proofs.Numbers.{none_first}
use Rattle.base.proofs.Select.{those_in, at_low, at_is}
use Rattle.base.proofs.Entries.{part_at, put_same, put_rest, pack_at, at_in, unpack_other, unpack_at, store_other}
use Rattle.base.proofs.Lists.{AllBelow, part_length, length_put, piece_fits, piece_same, unpack_length, pack_length, store_length}
use Rattle.machine.specs.Plan.{Plan, Sound, count, sender_of, taker_of, held_by, tiles_of, sends_of, dues_of, offset, words}
use Rattle.machine.specs.Machine.{State, Answered, memory_of, place_of, finished_of, stage_of, sent_of, current_tile, fit_record, fit, unpack_all}
use Rattle.machine.specs.Machine.{gather, calculate, send, next_action, carry_out, turn}
use Rattle.machine.specs.Words.{cell_of, Outside, Packs, Unpacks, Stores, Does}
use Rattle.machine.proofs.Records.{fit_is, fit_sending}
use Rattle.machine.proofs.Turns.{Turned, turned, next_zero, next_one, next_two}
use Rattle.machine.proofs.Values.{gathered_length, offset_apart}

-- ---- unpacking many

module _ (p : Plan) (buffer : List ℕ) where
  all_other : (ms memory : List ℕ) (c : ℕ) → ((m : ℕ) → In m ms → In c (held_by p m) → ⊥)
      → get_or (unpack_all p buffer memory ms) c 0 ≡ get_or memory c 0
  unfolding unpack_all
  all_other [] memory c h = refl
  all_other (m ∷ ms) memory c h =
      all_other ms _ c (λ n i. h n (inr i)) ∙ unpack_other (held_by p m) (place_of p buffer m) memory c (h m (inl refl))

  module _ (m q : ℕ) (low : q < length (held_by p m)) (up : Rising (held_by p m))
      (long : length (place_of p buffer m) ≡ length (held_by p m)) where
    abbrev Only : List ℕ → Type 0
    Only ms = (n : ℕ) → In n ms → In (cell_of p m q) (held_by p n) → n ≡ m

    one_more : (memory : List ℕ) (n : ℕ) → AllBelow (length memory) (held_by p m) → n ≡ m
        → get_or (unpack memory (held_by p n) (place_of p buffer n)) (cell_of p m q) 0 ≡ get_or (place_of p buffer m) q 0
    one_more memory n b e = rw e (unpack_at (held_by p m) (place_of p buffer m) memory q up long b low)

    below_next : (memory : List ℕ) (n : ℕ) → AllBelow (length memory) (held_by p m)
        → AllBelow (length (unpack memory (held_by p n) (place_of p buffer n))) (held_by p m)
    below_next memory n b c i = rw (unpack_length (held_by p n) (place_of p buffer n) memory) (b c i)

    all_keeps : (ms memory : List ℕ) → AllBelow (length memory) (held_by p m) → Only ms
        → get_or memory (cell_of p m q) 0 ≡ get_or (place_of p buffer m) q 0
        → get_or (unpack_all p buffer memory ms) (cell_of p m q) 0 ≡ get_or (place_of p buffer m) q 0
    unfolding unpack_all
    all_keeps [] memory b only h = h
    all_keeps (n ∷ ms) memory b only h =
        all_keeps ms (unpack memory (held_by p n) (place_of p buffer n)) (below_next memory n b) (λ k i. only k (inr i)) (go (ℕ_discrete n m))
      where
        go : Dec (n ≡ m) → get_or (unpack memory (held_by p n) (place_of p buffer n)) (cell_of p m q) 0 ≡ get_or (place_of p buffer m) q 0
        go (yes e) = one_more memory n b e
        go (no d) = unpack_other (held_by p n) (place_of p buffer n) memory (cell_of p m q) (λ i. d (only n (inl refl) i)) ∙ h

    all_at : (ms memory : List ℕ) → AllBelow (length memory) (held_by p m) → In m ms → Only ms
        → get_or (unpack_all p buffer memory ms) (cell_of p m q) 0 ≡ get_or (place_of p buffer m) q 0
    unfolding unpack_all
    all_at [] memory b i only = absurd i
    all_at (n ∷ ms) memory b (inl e) only =
        all_keeps ms (unpack memory (held_by p n) (place_of p buffer n)) (below_next memory n b) (λ k i. only k (inr i))
        (one_more memory n b (sym e))
    all_at (n ∷ ms) memory b (inr i) only =
        all_at ms (unpack memory (held_by p n) (place_of p buffer n)) (below_next memory n b) i (λ k i. only k (inr i))

-- ---- storing the values of a tile's cells

module _ (p : Plan) (source : List ℕ) (so : Sound p) where
  -- what a cell reads comes before it, and is not stored again
  store_at : (cs s : List ℕ) → Rising cs → AllBelow p.cells cs → length s ≡ p.cells → (c : ℕ) → In c cs
      → get_or (store_all (p.value source) s cs) c 0 ≡ p.value source (store_all (p.value source) s cs) c
  unfolding store_all
  store_at [] s up b len c i = absurd i
  store_at (y ∷ cs) s up b len c (inr i) =
      store_at cs (set s y (p.value source s y)) up.1 (λ z k. b z (inr k)) (length-set s y (p.value source s y) ∙ len) c i
  store_at (y ∷ cs) s up b len c (inl e) = rw e own
    where
      next : List ℕ
      next = set s y (p.value source s y)

      low : y < p.cells
      low = b y (inl refl)

      before : (r : ℕ) → r ≤ y → In r cs → ⊥
      before r l i = let q = up.0 r i in absurd (omega arith)

      own : get_or (store_all (p.value source) next cs) y 0 ≡ p.value source (store_all (p.value source) next cs) y
      own =
          store_other (p.value source) cs next y (before y (omega arith))
          ∙ get_or-set_same s y (p.value source s y) 0 (rw len low)
          ∙ so.local source s (store_all (p.value source) next cs) y low
          (λ r k. let q = so.earlier y r low k in
          sym (store_other (p.value source) cs next r (before r (omega arith))
          ∙ get_or-set_other s y r (p.value source s y) 0 (λ z. omega arith)))

-- ---- the machine

fit_records : (p : Plan) (s : State) → fit p s ≡ true → every (fit_record p s) p.processors ≡ true
unfolding fit
fit_records p s e = (both e).0

turn_fit : (p : Plan) (source : List ℕ) (s : State) (b : ℕ) → (turn p source s b).number ≡ 0 → fit p s ≡ true
unfolding turn
turn_fit p source s b z = true_not (none_first 10 _ _ (λ k. omega arith) z).0

module _ (p : Plan) (so : Sound p) (source : List ℕ) (s : State) (b : ℕ) where
  module _ (m : ℕ) (low : m < count p) (own : p.processor_of (sender_of p m) ≡ b) (long : length s.buffer ≡ words p) where
    abbrev packed : List ℕ
    packed = pack (memory_of p s b) (held_by p m)

    packed_length : length packed ≡ length (held_by p m)
    packed_length = pack_length (held_by p m) (memory_of p s b)

    place_fits : offset p.messages m + length packed ≤ length s.buffer
    place_fits = rw (packed_length, long) (offset_apart p.messages m (count p) low low)

    pub packs : Packs p s (carry_out p source s b (send m)) b m
    unfolding carry_out
    packs =
        record {
          message = low;
          own = own;
          inside = λ q h. so.held_inside m (cell_of p m q) low (at_in (held_by p m) q h);
          packed = λ q h.
              put_same s.buffer (offset p.messages m) packed place_fits q (rw packed_length h)
              ∙ pack_at (held_by p m) (memory_of p s b) q h
              ∙ part_at s.memories (b * p.cells) p.cells (cell_of p m q) (so.held_low m (cell_of p m q) low (at_in (held_by p m) q h));
          buffer_rest = λ i h. put_rest s.buffer (offset p.messages m) packed place_fits i (rw packed_length h);
          buffer_length = length_put s.buffer (offset p.messages m) packed place_fits;
          memories = refl;
        }

  -- a new memory for processor b
  module _ (low : b < p.processors) (long : length s.memories ≡ p.processors * p.cells) where
    memory_length : length (memory_of p s b) ≡ p.cells
    memory_length = part_length s.memories (b * p.cells) p.cells (rw long (piece_fits p.cells p.processors b low))

    module _ (new : List ℕ) (new_length : length new ≡ p.cells) where
      memory_fits : b * p.cells + length new ≤ length s.memories
      memory_fits = rw (new_length, long) (piece_fits p.cells p.processors b low)

      new_at : (c : ℕ) → c < p.cells → get_or (put s.memories (b * p.cells) new) (b * p.cells + c) 0 ≡ get_or new c 0
      new_at c h = put_same s.memories (b * p.cells) new memory_fits c (rw new_length h)

      new_rest : (i : ℕ) → Outside (b * p.cells) p.cells i → get_or (put s.memories (b * p.cells) new) i 0 ≡ get_or s.memories i 0
      new_rest i h = put_rest s.memories (b * p.cells) new memory_fits i (rw new_length h)

      memories_length : length (put s.memories (b * p.cells) new) ≡ length s.memories
      memories_length = length_put s.memories (b * p.cells) new memory_fits

      new_is : sublist (put s.memories (b * p.cells) new) (b * p.cells) p.cells ≡ new
      new_is = piece_same s.memories p.cells p.processors b new long new_length low

    module _ (t : ℕ) (own : p.processor_of t ≡ b) (mail : length s.buffer ≡ words p) where
      abbrev gathered : List ℕ
      gathered = unpack_all p s.buffer (memory_of p s b) (dues_of p t)

      gathered_long : length gathered ≡ p.cells
      gathered_long = gathered_length p s.buffer (dues_of p t) (memory_of p s b) ∙ memory_length

      due_low : (m : ℕ) → In m (dues_of p t) → m < count p
      due_low m i = (those_in (taker_of p) t (count p) m i).0

      mail_length : (m : ℕ) → m < count p → length (place_of p s.buffer m) ≡ length (held_by p m)
      mail_length m h =
          part_length s.buffer (offset p.messages m) (length (held_by p m)) (rw mail (offset_apart p.messages m (count p) h h))

      not_due : (c : ℕ) → c < p.cells → ((m : ℕ) → In m (dues_of p t) → In c (held_by p m) → ⊥)
          → get_or (put s.memories (b * p.cells) gathered) (b * p.cells + c) 0 ≡ get_or s.memories (b * p.cells + c) 0
      not_due c h none =
          new_at gathered gathered_long c h
          ∙ all_other p s.buffer (dues_of p t) (memory_of p s b) c none
          ∙ part_at s.memories (b * p.cells) p.cells c h

      pub unpacks : Unpacks p s (carry_out p source s b (gather t)) b t
      unfolding carry_out
      unpacks =
          record {
            own = own;
            written = λ m q i h only.
                let lm = due_low m i in
                new_at gathered gathered_long (cell_of p m q) (so.held_low m (cell_of p m q) lm (at_in (held_by p m) q h))
                ∙ all_at p s.buffer m q h (so.held_rising m lm) (mail_length m lm) (dues_of p t) (memory_of p s b)
                (λ c k. rw memory_length (so.held_low m c lm k)) i only
                ∙ part_at s.buffer (offset p.messages m) (length (held_by p m)) q h;
            kept = not_due;
            outside = λ c h o. not_due c h (λ m i k. never_both (so.held_inside m c (due_low m i) k) o);
            memories_rest = new_rest gathered gathered_long;
            memories_length = memories_length gathered gathered_long;
            buffer = refl;
          }

    module _ (t : ℕ) (own : p.processor_of t ≡ b) (lt : t < p.tiles) where
      abbrev computed : List ℕ
      computed = store_all (p.value source) (memory_of p s b) (p.cells_of t)

      computed_long : length computed ≡ p.cells
      computed_long = store_length (p.value source) (p.cells_of t) (memory_of p s b) ∙ memory_length

      not_own : (c : ℕ) → c < p.cells → (In c (p.cells_of t) → ⊥)
          → get_or (put s.memories (b * p.cells) computed) (b * p.cells + c) 0 ≡ get_or s.memories (b * p.cells + c) 0
      not_own c h other =
          new_at computed computed_long c h
          ∙ store_other (p.value source) (p.cells_of t) (memory_of p s b) c other
          ∙ part_at s.memories (b * p.cells) p.cells c h

      pub stores : Stores p source s (carry_out p source s b (calculate t)) b t
      unfolding carry_out
      stores =
          record {
            own = own;
            stored = λ c i.
                new_at computed computed_long c (so.cell_low t c lt i)
                ∙ store_at p source so (p.cells_of t) (memory_of p s b) (so.rising t lt) (λ y k. so.cell_low t y lt k) memory_length c i
                ∙ ap (λ (l : List ℕ). p.value source l c) (sym (new_is computed computed_long));
            kept = not_own;
            outside = λ c h o. not_own c h (λ i. never_both (so.cell_inside t c lt i) o);
            memories_rest = new_rest computed computed_long;
            memories_length = memories_length computed computed_long;
            buffer = refl;
          }

  -- ---- a turn that gave 0
  module _ (long : length s.memories ≡ p.processors * p.cells) (mail : length s.buffer ≡ words p) where
    here : finished_of s b < length (tiles_of p b) → p.processor_of (current_tile p s b) ≡ b
    here h = at_is p.processor_of b p.tiles (finished_of s b) h

    does : (a : Answered State) → fit p s ≡ true → Turned p source s b a → a.number ≡ 0 → Does p source s a.after b (next_action p s b)
    does a f (Turned.unfit h) z = absurd (omega arith)
    does a f (Turned.no_such h) z = absurd (omega arith)
    does a f (Turned.waits m low h g i k) z = absurd (omega arith)
    does a f (Turned.over h) z = absurd (omega arith)
    does a f (Turned.gathers low h g r) z = rw (next_zero p _ _ _ g) (unpacks low long (current_tile p s b) (here h) mail)
    does a f (Turned.calculates low h g) z =
        rw (next_one p _ _ _ g) (stores low long (current_tile p s b) (here h) (at_low p.processor_of b p.tiles (finished_of s b) h))
    does a f (Turned.sends low h g) z =
        rw (next_two p _ _ _ g)
        (packs _ (at_low (sender_of p) (current_tile p s b) (count p) (sent_of s b) more)
        (ap p.processor_of (at_is (sender_of p) (current_tile p s b) (count p) (sent_of s b) more) ∙ here h) mail)
      where
        more : sent_of s b < length (sends_of p (current_tile p s b))
        more =
            fit_sending p b (finished_of s b) (stage_of s b) (sent_of s b) h g
            (sym (fit_is p s b) ∙ every_at (fit_record p s) p.processors (fit_records p s f) b low)

    pub turn_does : (turn p source s b).number ≡ 0 → Does p source s (turn p source s b).after b (next_action p s b)
    turn_does z = does _ (turn_fit p source s b z) (turned p source s b) z
