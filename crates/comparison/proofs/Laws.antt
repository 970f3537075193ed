-- Laws of the comparison: when two areas are the same, when a fresh start gives 0, each return, and that no recipe within the limits differs.
use Rattle.std.specs.Prelude.{Ok}
use Prim.Native.Nat.{ℕ, ◌+◌, ◌*◌, ◌≤◌, ◌<◌}
use mathlib.Core.Path.{◌≡◌, refl, sym, ap, ◌∙◌}
use mathlib.Core.Logic.{◌≢◌, ◌⊎◌, inl, inr}
use mathlib.Core.Bool.{Bool, true, false}
use mathlib.Core.List.{List, [], ◌++◌}
use native.Mathlib.Nat.{mul_comm, eq-or-lt_of_le}
use native.Mathlib.Omega.{arith}
use lib.ListN.{length, get_or, take, drop, set, length-append, length-replicate}
use lib.Dec.{ltb}
use lib.Seq.{ext_get_or, length-take-le, take_at, get_or-set_same, get_or-set_other}
use borrow.Author.Tests.{eqb-true, eq-eqb, ne_eqb, lt-ltb, le-ltb, ltb-false}
use Rattle.base.specs.Tests.{◌or◌, pick}
use Rattle.base.specs.Alike.{same_words}
use Rattle.base.specs.Numbers.{first_of}
use Rattle.base.proofs.Alike.{same_self}
use Rattle.base.proofs.Tests.{both, and_true, and_left, and_false, and_no, or_left, neither, not-true, true_not}
use Rattle.base.proofs.Tests.{length_tabulate, tabulate_at}
use Rattle.base.proofs.Numbers.{first_false, first_behind, none_first, none_behind}
use Rattle.machine.specs.Plan.{count, words}
use Rattle.machine.specs.Machine.{State, Answered, state_of, sweep}
use Rattle.machine.specs.Runs.{Event, steps, total}
use Rattle.nest.specs.Nest.{cells, processors}
use Rattle.base.specs.Lists.{Bytes}
use Rattle.nest.specs.declared.Nest.{Nest}
use Rattle.nest.specs.Reader.{read_lines, nest_of, Reads}
use Rattle.nest.proofs.Facts.{accepted}
use Rattle.nest.proofs.Answers.{none_read, nest_read}
use Rattle.layout.specs.declared.Sizes.{Sizes}
use Rattle.layout.specs.Sizes.{Sized}
use Rattle.layout.specs.RouteWords.{route_of}
use Rattle.summary.specs.declared.Figures.{Figures}
use Rattle.summary.specs.Summary.{figures_of, summary_of}
use Rattle.summary.proofs.Answers.{summary_is}
use Rattle.engine.specs.Calls.{answer, recipe, areas, fresh_call, collect_call, sweep_call}
use Rattle.engine.specs.Demands.{calls}
use Rattle.engine.proofs.Demands.{demands}
use Rattle.comparison.specs.drive.Drive.{rounds_of, Driven}
use Rattle.comparison.specs.declared.drive.Order.{Order}
use Rattle.nest.proofs.Numbered.{numbered}
use Rattle.recipe.specs.Routes.{lines_for}
use Rattle.recipe.proofs.Laws.{numbered_for, open_direct}
use Rattle.comparison.proofs.drive.Whole.{ended}
use Rattle.comparison.specs.declared.Extent.{Extent}
use Rattle.comparison.specs.Agreement.{is_beyond, source_of, driven, ran, outcome, agreeing, compared, ran_and_compared}
use Rattle.comparison.specs.Agreement.{Within}
use Rattle.comparison.specs.Lines.{zeros}
use Rattle.comparison.proofs.Most.{messages_most, words_most}

-- ---- a fresh start

module _ (bytes source : List ℕ) (s : State) where
  -- one that gave 0: the source has a word for each cell
  fresh_says : (fresh_call bytes 0 source s).number ≡ 0 → length source ≡ (recipe bytes 0).cells
  unfolding fresh_call areas
  fresh_says z =
      let a = none_first 9 _ [] (λ e. omega arith) (none_behind (lines_for (route_of 0) bytes) _ (numbered_for (route_of 0) bytes) z) in
      eqb-true _ _ (both (true_not a.0)).0

  -- it gives 0 where the recipe is accepted and the areas have their lengths
  fresh_goes : first_of (read_lines bytes) ≡ 0 → length source ≡ (recipe bytes 0).cells
      → length s.memories ≡ (recipe bytes 0).processors * (recipe bytes 0).cells → length s.buffer ≡ words (recipe bytes 0)
      → length s.progress ≡ 3 * (recipe bytes 0).processors → length s.status ≡ count (recipe bytes 0)
      → (fresh_call bytes 0 source s).number ≡ 0
  unfolding fresh_call areas first_of
  fresh_goes z a b c d e =
      first_behind (lines_for (route_of 0) bytes) _ (numbered_for (route_of 0) bytes) (open_direct bytes z)
      ∙ first_false 9 _ [] (not-true (and_true (eq-eqb _ _ a) (and_true (eq-eqb _ _ b) (and_true (eq-eqb _ _ c) (and_true (eq-eqb _ _ d) (eq-eqb _ _ e))))))

  sweep_goes : (grid : List ℕ) → first_of (read_lines bytes) ≡ 0 → length source ≡ (recipe bytes 0).cells → length grid ≡ (recipe bytes 0).cells
      → (sweep_call bytes source grid).number ≡ 0
  unfolding sweep_call first_of
  sweep_goes grid z a b =
      first_behind (read_lines bytes) _ (numbered bytes) z ∙ first_false 9 _ [] (not-true (and_true (eq-eqb _ _ a) (eq-eqb _ _ b)))

-- ---- a run, collected and compared: each way that the code can end

module _ (bytes source : List ℕ) (s t u : State) (o : Order) (n r : ℕ) where
  pub run : answer r t ≡ fresh_call bytes 0 source s → Driven bytes source o n t u → u ≡ ran bytes source o n s
  unfolding ran
  run is d = d.state ∙ ap (λ (a : Answered State). driven bytes source o n a.after) is

module _ (bytes source : List ℕ) (t : State) (g h g' h' : List ℕ) (p q : ℕ) where
  module _ (c : answer p g' ≡ collect_call bytes 0 source t g) (w : answer q h' ≡ sweep_call bytes source h) where
    by_answers : (b : Bool) → b ≡ agreeing (answer p g') (answer q h') → outcome t g' h' b ≡ compared bytes source t g h
    unfolding compared
    by_answers b e = rw (sym c, sym w) (ap (outcome t g' h') e)

    pub not_collected : p ≢ 0 → outcome t g' h' false ≡ compared bytes source t g h
    unfolding agreeing
    not_collected n = by_answers false (sym (and_false _ _ (ne_eqb p 0 n)))

    pub not_swept : p ≡ 0 → q ≢ 0 → outcome t g' h' false ≡ compared bytes source t g h
    unfolding agreeing
    not_swept e n = by_answers false (sym (and_no _ _ (and_false _ _ (ne_eqb q 0 n))))

    pub both_done : (b : Bool) → p ≡ 0 → q ≡ 0 → b ≡ same_words g' h' → outcome t g' h' b ≡ compared bytes source t g h
    unfolding agreeing
    both_done b e f is = by_answers b (is ∙ sym (and_left _ _ (eq-eqb p 0 e) ∙ and_left _ _ (eq-eqb q 0 f)))

pub then_compared : (bytes source : List ℕ) (o : Order) (n : ℕ) (s t : State) (g h g' h' : List ℕ) (b : Bool) → t ≡ ran bytes source o n s
    → outcome t g' h' b ≡ compared bytes source t g h → outcome t g' h' b ≡ ran_and_compared bytes source o n s g h
then_compared bytes source o n s t g h g' h' b e f = f ∙ ap (λ (t : State). compared bytes source t g h) e

-- ---- a recipe within the limits never differs

-- the order of a recipe's processors and messages
abbrev pub order_of : Extent → Bool → Order
order_of x falling = record { processors = x.processors; messages = x.messages; falling = falling }

module _ (bytes source : List ℕ) (x : Extent) (falling : Bool) (s : State) (w : Within bytes x) (b : Bytes bytes) where
  abbrev start : State
  start = (fresh_call bytes 0 source s).after

  abbrev end : State
  end = ran bytes source (order_of x falling) x.steps s

  module _ (given : (fresh_call bytes 0 source s).number ≡ 0) where
    abbrev events : List Event
    events = rounds_of (calls bytes 0 source) (order_of x falling) x.steps start

    all_taken : steps (calls bytes 0 source) start events ≡ total (recipe bytes 0)
    all_taken =
        ended bytes source (order_of x falling) x.steps start b
        (record {
          before = s;
          given = given;
          state = refl;
          processors = w.measured.processors;
          messages = w.measured.messages;
          rounds = w.measured.steps;
        })

    collects : (g : List ℕ) → length g ≡ (recipe bytes 0).cells
        → ((collect_call bytes 0 source end g).number ≡ 0) × ((collect_call bytes 0 source end g).after ≡ sweep (recipe bytes 0) source)
    unfolding ran
    collects g l =
        let d = demands.three bytes 0 source s b given events in
        (d.collecting.can_collect all_taken g l, d.collecting.grid all_taken g l)

    sweeps : (h : List ℕ) → length h ≡ (recipe bytes 0).cells
        → ((sweep_call bytes source h).number ≡ 0) × ((sweep_call bytes source h).after ≡ sweep (recipe bytes 0) source)
    sweeps h l =
        let z = sweep_goes bytes source s h w.read (fresh_says bytes source s given) l in
        (z, ((demands.one bytes 0 source s).sweep h).works z)

    pub never_differs : (g h : List ℕ) → length g ≡ (recipe bytes 0).cells → length h ≡ (recipe bytes 0).cells
        → (ran_and_compared bytes source (order_of x falling) x.steps s g h).agree ≡ true
    unfolding compared agreeing
    never_differs g h l k =
        let c = collects g l in
        let d = sweeps h k in
        and_true (eq-eqb _ 0 c.0) (and_true (eq-eqb _ 0 d.0) (rw (c.1, d.1) (same_self (sweep (recipe bytes 0) source))))

-- ---- the program's sources

pub source_next : (counting : Bool) (l : List ℕ) (i w : ℕ) → i < length l → ((j : ℕ) → j < i → get_or l j 0 ≡ pick counting (j + 1) 1)
    → w ≡ pick counting (i + 1) 1 → (j : ℕ) → j < i + 1 → get_or (set l i w) j 0 ≡ pick counting (j + 1) 1
source_next counting l i w low h e j k = go (eq-or-lt_of_le (omega arith))
  where
    go : (j ≡ i) ⊎ (j < i) → get_or (set l i w) j 0 ≡ pick counting (j + 1) 1
    go (inl q) = rw q (get_or-set_same l i w 0 low ∙ e)
    go (inr q) = get_or-set_other l i j w 0 (λ z. omega arith) ∙ h j q

pub source_long : (counting : Bool) (n : ℕ) → length (source_of counting n) ≡ n
unfolding source_of
source_long counting n = length_tabulate (λ c. pick counting (c + 1) 1) n

pub source_done : (counting : Bool) (l m : List ℕ) (i : ℕ) → length l ≡ length m → length m ≤ i → ((j : ℕ) → j < i → get_or l j 0 ≡ pick counting (j + 1) 1)
    → l ≡ source_of counting (length m)
unfolding source_of
source_done counting l m i e k h =
    ext_get_or 0 l _ (e ∙ sym (length_tabulate (λ c. pick counting (c + 1) 1) (length m)))
    (λ j q. h j (omega arith) ∙ sym (tabulate_at (λ c. pick counting (c + 1) 1) (length m) j (omega arith)))

-- ---- the limits

pub many_cells : (c p : ℕ) → 1024 < c → true ≡ is_beyond c p
unfolding is_beyond
many_cells c p h = sym (or_left _ (lt-ltb 1024 c h))

pub many_words : (c p w : ℕ) → c ≤ 1024 → w ≡ c * p → ltb 4096 w ≡ is_beyond c p
unfolding is_beyond ◌or◌
many_words c p w h e = rw (le-ltb 1024 c h, e)

pub not_beyond : (c p : ℕ) (r : Bool) → r ≡ is_beyond c p → r ≡ false → (c ≤ 1024) × (c * p ≤ 4096)
unfolding is_beyond
not_beyond c p r is e =
    let n = neither {a = ltb 1024 c} {b = ltb 4096 (c * p)} (sym is ∙ e) in
    (omega (arith, ltb-false 1024 c n.0), omega (arith, ltb-false 4096 (c * p) n.1))

-- ---- the first words of an area

pub counted : (k : ℕ) (l : List ℕ) → k ≤ length l → k ≡ length (take k l)
counted k l h = sym (length-take-le k l h)

-- of n zeros
room : (k n : ℕ) → k ≤ n → k ≤ length (zeros n)
room k n h = omega (arith, length-replicate {A = ℕ} n 0)

-- what a call left of the first k words, lent as a part: it stands first when the part is back
module _ (k : ℕ) (l new : List ℕ) (h : k ≤ length l) (q : length new ≡ length (take k l)) where
  pub back_room : k ≤ length (new ++ drop k l)
  back_room = omega (arith, length-append new (drop k l), length-take-le k l h)

  pub back_is : take k (new ++ drop k l) ≡ new
  back_is = take_at new (drop k l) k (q ∙ length-take-le k l h)

-- ---- the areas of a recipe within the limits

module _ (bytes : List ℕ) (x : Extent) (b : Bytes bytes) (w : Within bytes x) where
  pub processors_low : x.processors ≤ 64
  processors_low = omega (arith, w.measured.processors, (accepted bytes b w.read).processors_most)

  pub messages_low : x.messages ≤ 7168
  messages_low = omega (arith, w.measured.messages, messages_most (nest_of bytes) (accepted bytes b w.read))

  pub words_low : x.words ≤ 7168
  words_low = omega (arith, w.measured.words, w.measured.cells, w.cells, words_most (nest_of bytes) (accepted bytes b w.read))

  pub low_within : is_beyond (recipe bytes 0).cells (recipe bytes 0).processors ≡ false
  low_within =
      sym (ap (λ (c : ℕ). is_beyond c (recipe bytes 0).processors) w.measured.cells) ∙ sym (ap (is_beyond x.cells) w.measured.processors)
      ∙ sym (many_words x.cells x.processors (x.cells * x.processors) w.cells refl) ∙ le-ltb 4096 (x.cells * x.processors) w.memories

  -- each part of an area of zeros is within it
  pub cells_room : (k : ℕ) → k ≡ x.cells → k ≤ length (zeros 1024)
  cells_room k e = room k 1024 (omega (arith, w.cells))

  pub memories_room : (k : ℕ) → k ≡ x.cells * x.processors → k ≤ length (zeros 4096)
  memories_room k e = room k 4096 (omega (arith, w.memories))

  pub words_room : (k : ℕ) → k ≡ x.words → k ≤ length (zeros 7168)
  words_room k e = room k 7168 (omega (arith, words_low))

  pub progress_room : (k : ℕ) → k ≡ x.processors → 3 * k ≤ length (zeros 192)
  progress_room k e = room (3 * k) 192 (omega (arith, processors_low))

  pub messages_room : (k : ℕ) → k ≡ x.messages → k ≤ length (zeros 7168)
  messages_room k e = room k 7168 (omega (arith, messages_low))

  pub starts : (source m v p s : List ℕ) → length source ≡ x.cells → length m ≡ x.cells * x.processors → length v ≡ x.words
      → length p ≡ 3 * x.processors → length s ≡ x.messages → (fresh_call bytes 0 source (state_of m v p s)).number ≡ 0
  starts source m v p s e1 e2 e3 e4 e5 =
      let q = w.measured in
      fresh_goes bytes source (state_of m v p s) w.read (e1 ∙ q.cells)
      (e2 ∙ mul_comm x.cells x.processors ∙ rw (q.cells, q.processors) refl) (e3 ∙ q.words) (e4 ∙ ap (λ (k : ℕ). 3 * k) q.processors)
      (e5 ∙ q.messages)

-- ---- the figures that the program gives

pub in_limits : {bytes : List ℕ} {x : Nest} → Reads bytes (Ok x) → (z : Sizes) (f : Figures) (c p : ℕ) → Sized x z
    → (z.cells < 4294967296 → c ≡ z.cells) → (z.processors < 4294967296 → p ≡ z.processors) → (c ≤ 1024) × (c * p ≤ 4096)
    → f ≡ summary_of (route_of 0) bytes
    → Within bytes (record { cells = c; processors = p; messages = f.messages; words = f.words; steps = f.steps })
in_limits {bytes} is z f c p g narrow narrow2 low e =
    let read = none_read is in
    let nest = nest_read is in
    let figures : f ≡ figures_of (recipe bytes 0) = e ∙ sym (summary_is bytes 0 _ (record { none = open_direct bytes read; is = refl })) in
    record {
      read = read;
      measured =
          record {
            cells = narrow (omega (arith, g.cells, g.accepted.cells_most)) ∙ g.cells ∙ ap cells nest;
            processors = narrow2 (omega (arith, g.processors, g.accepted.processors_most)) ∙ g.processors ∙ ap processors nest;
            messages = ap (λ (x : Figures). x.messages) figures;
            words = ap (λ (x : Figures). x.words) figures;
            steps = ap (λ (x : Figures). x.steps) figures;
          };
      cells = low.0;
      memories = low.1;
    }
