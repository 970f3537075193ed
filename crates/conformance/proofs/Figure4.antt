-- Our programs are Figure 4's, tile by tile: what is due is what is sent to the tile, and the list of messages is made of the tiles' sections.
use Prim.Native.Nat.{ℕ, zero, suc, ◌+◌, ◌*◌, ◌-◌, ◌/◌, ◌%◌, ◌<◌}
use mathlib.Core.Path.{◌≡◌, refl, sym, ap, ◌∙◌}
use mathlib.Core.Logic.{inl, inr, ◌≢◌}
use mathlib.Core.Bool.{Bool, true, false}
use mathlib.Core.List.{List, [], ◌∷◌, ◌++◌, map, map-map, map-append, map-id, append_assoc, append-nil}
use native.Mathlib.Nat.{zero-mul, suc-mul, add-zero, add-suc, mul-add-mod_self_right, mul-add-div_right, mod-eq_of_lt, div-eq_of_lt}
use native.Mathlib.Decide.{ℕ_discrete}
use native.Mathlib.Omega.{arith}
use lib.ListN.{length, get_or}
use lib.Dec.{ltb, eqb}
use borrow.Author.Tests.{eq-eqb, ne_eqb}
use Rattle.base.specs.Tests.{◌and◌, not, pick, keep, keep_if, those, tabulate}
use Rattle.base.specs.Lists.{In, put, store_all}
use Rattle.base.proofs.Select.{keep_in, keep_same}
use Rattle.machine.specs.Plan.{Message, Plan, no_message, message, sends_of, dues_of, tiles_of}
use Rattle.machine.specs.Machine.{State, memory_of, carry_out, calculate}
use Rattle.machine.specs.Runs.{program_over, program}
use Rattle.nest.specs.declared.Nest.{Nest}
use Rattle.nest.specs.Accepted.{Accepted}
use Rattle.nest.specs.Nest.{length_of, cells, processors, box_tiles}
use Rattle.nest.specs.Places.{cell_at, tile_at, tile_place, box_tile_of}
use Rattle.nest.specs.Shape.{in_shape, exists, existing, tiles}
use Rattle.plan.specs.declared.Route.{Route}
use Rattle.plan.specs.declared.Route.TheVariants.{Direct, Indirect}
use Rattle.plan.specs.Geometry.{cells_of, processor_of, value}
use Rattle.plan.specs.Messages.{directions, passed, neighbour, slot_tile, slot_cells, slot_taker, at_home, slot_parcel, slot_message, messages_of}
use Rattle.plan.specs.Messages.{messages_to, box_plan}
use Rattle.plan.specs.Shaped.{box_tile, shaped_cells, shaped_parcel, shaped_taker, shaped_slot_taker, shaped_home, shaped_slot_parcel, shaped_message}
use Rattle.plan.specs.Shaped.{plan_of}
use Rattle.plan.specs.Loops.{for_each}
use Rattle.plan.proofs.ShapedTiles.{either_default, box_tile_low}
use Rattle.plan.proofs.Loops.{loops_are_tiles}
use Rattle.conformance.specs.Report.{Index}
use Rattle.conformance.specs.Exact.{inner, run_nest}
use Rattle.conformance.specs.OneBody.{value_in}
use Rattle.conformance.specs.Figure4.{chosen, chains, is_tile, in_box, indices, within, in_turn, packed, pack_and_send, send_section, all_sent}
use Rattle.conformance.specs.Figure4.{receive_section, for_tile, Figure4}
use Rattle.conformance.proofs.Nested.{Each, nested_each, loop_most, tile_in_order, loop_one, run_stores}
use Rattle.conformance.proofs.OneBody.{value_box, value_shape}
use Rattle.conformance.proofs.ShapedNest.{chosen_append, map_shape}

-- ---- lists

map_keep_if : {B : Type 0} (f : ℕ → B) (t : Bool) (n : ℕ) → map f (keep_if t n) ≡ pick t (f n ∷ []) []
unfolding pick
map_keep_if f true n = refl
map_keep_if f false n = refl

if_kept : (t : Bool) (n : ℕ) → pick t (n ∷ []) [] ≡ keep_if t n
unfolding pick
if_kept true n = refl
if_kept false n = refl

keep_first : (f : ℕ → Bool) (n : ℕ) → keep f (suc n) ≡ keep_if (f 0) 0 ++ map suc (keep (λ i. f (suc i)) n)
unfolding keep
keep_first f zero = sym (append-nil (keep_if (f 0) 0))
keep_first f (suc n) =
    ap (λ (l : List ℕ). l ++ keep_if (f (suc n)) (suc n)) (keep_first f n)
    ∙ append_assoc (keep_if (f 0) 0) (map suc (keep (λ i. f (suc i)) n)) (keep_if (f (suc n)) (suc n))
    ∙ ap (λ (l : List ℕ). keep_if (f 0) 0 ++ l)
    (ap (λ (l : List ℕ). map suc (keep (λ i. f (suc i)) n) ++ l) (sym (map_keep_if suc (f (suc n)) n ∙ if_kept (f (suc n)) (suc n)))
    ∙ sym (map-append suc (keep (λ i. f (suc i)) n) (keep_if (f (suc n)) n)))

-- the entries of a list at the places whose entries pass a test
module _ {A : Type 0} (d : A) (f : A → Bool) where
  picked : (l : List A) → map (λ m. get_or l m d) (keep (λ m. f (get_or l m d)) (length l)) ≡ chosen f l
  unfolding keep chosen pick
  picked [] = refl
  picked (y ∷ l) =
      ap (map (λ m. get_or (y ∷ l) m d)) (keep_first (λ m. f (get_or (y ∷ l) m d)) (length l))
      ∙ map-append (λ m. get_or (y ∷ l) m d) (keep_if (f y) 0) (map suc (keep (λ m. f (get_or l m d)) (length l)))
      ∙ ap (λ (k : List A). map (λ m. get_or (y ∷ l) m d) (keep_if (f y) 0) ++ k)
      (map-map (λ m. get_or (y ∷ l) m d) suc (keep (λ m. f (get_or l m d)) (length l)) ∙ picked l)
      ∙ ap (λ (k : List A). k ++ chosen f l) (map_keep_if (λ m. get_or (y ∷ l) m d) (f y) 0)
      ∙ join (f y)
    where
      join : (t : Bool) → pick t (y ∷ []) [] ++ chosen f l ≡ pick t (y ∷ chosen f l) (chosen f l)
      join true = refl
      join false = refl

chosen_keep : (f g : ℕ → Bool) (n : ℕ) → chosen f (keep g n) ≡ keep (λ c. f c and g c) n
unfolding keep chosen pick ◌and◌
chosen_keep f g zero = refl
chosen_keep f g (suc n) =
    chosen_append f (keep g n) (keep_if (g n) n)
    ∙ ap (λ (l : List ℕ). l ++ chosen f (keep_if (g n) n)) (chosen_keep f g n)
    ∙ ap (λ (l : List ℕ). keep (λ c. f c and g c) n ++ l) (last (f n) refl (g n))
  where
    last : (t : Bool) → f n ≡ t → (u : Bool) → chosen f (keep_if u n) ≡ keep_if (t and u) n
    last true e true = rw e
    last true e false = refl
    last false e true = rw e
    last false e false = refl

chosen_every : {A : Type 0} (l : List A) → chosen (λ y. true) l ≡ l
unfolding chosen pick
chosen_every [] = refl
chosen_every {A} (y ∷ l) = ap (λ (k : List A). y ∷ k) (chosen_every l)

and_swap : (a b : Bool) → (a and b) ≡ (b and a)
unfolding ◌and◌
and_swap true true = refl
and_swap true false = refl
and_swap false true = refl
and_swap false false = refl

map_same : {B : Type 0} (f g : ℕ → B) (l : List ℕ) → ((y : ℕ) → In y l → f y ≡ g y) → map f l ≡ map g l
map_same f g [] h = refl
map_same {B} f g (y ∷ l) h = rw (h y (inl refl), map_same f g l (λ z i. h z (inr i)))

store_all_same : (f g : List ℕ → ℕ → ℕ) (cs memory : List ℕ) → ((l : List ℕ) (c : ℕ) → f l c ≡ g l c) → store_all f memory cs ≡ store_all g memory cs
unfolding store_all
store_all_same f g [] memory h = refl
store_all_same f g (c ∷ cs) memory h = rw (h memory c) (store_all_same f g cs _ h)

-- ---- one loop after the other
module _ {A B : Type 0} where
  each_append : (f : A → List B) (a b : List A) → for_each f (a ++ b) ≡ for_each f a ++ for_each f b
  unfolding for_each
  each_append f [] b = refl
  each_append f (y ∷ a) b = rw (each_append f a b) (sym (append_assoc (f y) (for_each f a) (for_each f b)))

  chosen_each : (f : B → Bool) (g : A → List B) (l : List A) → chosen f (for_each g l) ≡ for_each (λ y. chosen f (g y)) l
  unfolding for_each chosen
  chosen_each f g [] = refl
  chosen_each f g (y ∷ l) = chosen_append f (g y) (for_each g l) ∙ ap (λ (k : List B). chosen f (g y) ++ k) (chosen_each f g l)

  each_same : (f g : A → List B) (l : List A) → ((y : A) → f y ≡ g y) → for_each f l ≡ for_each g l
  unfolding for_each
  each_same f g [] h = refl
  each_same f g (y ∷ l) h = rw (h y, each_same f g l h)

  each_none : (l : List A) → for_each {B = B} (λ y. []) l ≡ []
  unfolding for_each
  each_none [] = refl
  each_none (y ∷ l) = each_none l

each_last : {B : Type 0} (f : ℕ → List B) (n : ℕ) → for_each f (tabulate (λ t. t) (suc n)) ≡ for_each f (tabulate (λ t. t) n) ++ f n
unfolding tabulate for_each
each_last {B} f n =
    each_append f (tabulate (λ t. t) n) (n ∷ [])
    ∙ ap (λ (l : List B). for_each f (tabulate (λ t. t) n) ++ l) (append-nil (f n))

-- ---- the list of messages, section by section

messages_add : (slot : ℕ → Message) (a n : ℕ) → messages_of slot (a + n) ≡ messages_of slot a ++ messages_of (λ k. slot (a + k)) n
unfolding messages_of
messages_add slot a zero = rw (add-zero a) (sym (append-nil (messages_of slot a)))
messages_add slot a (suc n) =
    rw (add-suc a n, messages_add slot a n)
    (append_assoc (messages_of slot a) (messages_of (λ k. slot (a + k)) n) (pick (ltb 0 (length (slot (a + n)).cells)) (slot (a + n) ∷ []) []))

messages_each : (slot : ℕ → Message) (w n : ℕ)
    → messages_of slot (n * w) ≡ for_each (λ t. messages_of (λ k. slot (t * w + k)) w) (tabulate (λ t. t) n)
unfolding messages_of tabulate for_each
messages_each slot w zero = rw (zero-mul w)
messages_each slot w (suc n) =
    ap (messages_of slot) (suc-mul n w) ∙ messages_add slot (n * w) w
    ∙ ap (λ (l : List Message). l ++ messages_of (λ k. slot (n * w + k)) w) (messages_each slot w n)
    ∙ sym (each_last (λ t. messages_of (λ k. slot (t * w + k)) w) n)

-- the messages of some slots, as a loop over their ways
messages_loop : (slot : ℕ → Message) (g : ℕ → List Message) (h : ℕ → ℕ) (n : ℕ)
    → ((k : ℕ) → k < n → pick (ltb 0 (length (slot k).cells)) (slot k ∷ []) [] ≡ g (h k)) → messages_of slot n ≡ for_each g (tabulate h n)
unfolding messages_of tabulate for_each
messages_loop slot g h zero e = refl
messages_loop slot g h (suc n) e =
    rw (messages_loop slot g h n (λ k l. e k (omega arith)), e n (omega arith))
    (ap (λ (l : List Message). for_each g (tabulate h n) ++ l) (sym (append-nil (g (h n)))) ∙ sym (each_append g (tabulate h n) (h n ∷ [])))

each_under : {B : Type 0} (f g : ℕ → List B) (n : ℕ) → ((t : ℕ) → t < n → f t ≡ g t)
    → for_each f (tabulate (λ t. t) n) ≡ for_each g (tabulate (λ t. t) n)
unfolding tabulate for_each
each_under f g zero h = refl
each_under f g (suc n) h =
    each_last f n ∙ rw (each_under f g n (λ t l. h t (omega arith)), h n (omega arith)) (sym (each_last g n))

-- a slot whose cells stay at home has none
module _ (s t : ℕ) (cs : List ℕ) where
  abbrev mailed : List ℕ → Message
  mailed l = record { sender = s; taker = t; cells = l }

  one_slot : (home : Bool)
      → pick (ltb 0 (length (pick home [] cs))) (mailed (pick home [] cs) ∷ []) [] ≡ pick (ltb 0 (length cs) and not home) (mailed cs ∷ []) []
  unfolding pick not ◌and◌
  one_slot true = go (ltb 0 (length cs))
    where
      go : (t : Bool) → [] ≡ pick (t and false) (mailed cs ∷ []) []
      go true = refl
      go false = refl
  one_slot false = go (ltb 0 (length cs))
    where
      go : (t : Bool) → pick t (mailed cs ∷ []) [] ≡ pick (t and true) (mailed cs ∷ []) []
      go true = refl
      go false = refl

slot_tile_lem : (t w k : ℕ) → k < w → (t * w + k) / w ≡ t
slot_tile_lem t w k h = omega (arith, mul-add-div_right {m = w} (omega arith) t k, div-eq_of_lt h)

slot_way : (t w k : ℕ) → k < w → (t * w + k) % w ≡ k
slot_way t w k h = mul-add-mod_self_right t w k ∙ mod-eq_of_lt h

by_sender : (t u : ℕ) (c b : Bool) (m : Message) → m.sender ≡ u → eqb u t ≡ b
    → chosen (λ n. eqb n.sender t) (pick c (m ∷ []) []) ≡ pick b (pick c (m ∷ []) []) []
unfolding chosen pick
by_sender t u true true m s e = ap (λ (q : Bool). pick q (m ∷ []) []) (ap (λ (k : ℕ). eqb k t) s ∙ e)
by_sender t u true false m s e = ap (λ (q : Bool). pick q (m ∷ []) []) (ap (λ (k : ℕ). eqb k t) s ∙ e)
by_sender t u false true m s e = refl
by_sender t u false false m s e = refl

each_pick : {A B : Type 0} (b : Bool) (f : A → List B) (l : List A) → for_each (λ y. pick b (f y) []) l ≡ pick b (for_each f l) []
unfolding pick
each_pick true f l = refl
each_pick false f l = each_none l

-- a loop of which one round gives something
one_of : {B : Type 0} (g : ℕ → List B) (t n : ℕ) → t < n → ((u : ℕ) → u ≢ t → g u ≡ []) → for_each g (tabulate (λ u. u) n) ≡ g t
one_of g t zero h none = absurd (omega arith)
one_of {B} g t (suc n) h none = go (one_of g t n) (ℕ_discrete n t)
  where
    go : (t < n → ((u : ℕ) → u ≢ t → g u ≡ []) → for_each g (tabulate (λ u. u) n) ≡ g t) → Dec (n ≡ t)
        → for_each g (tabulate (λ u. u) (suc n)) ≡ g t
    go ih (yes e) =
        each_last g n
        ∙ ap (λ (l : List B). l ++ g n) (each_under g (λ u. []) n (λ u l. none u (λ (k : u ≡ t). omega arith)) ∙ each_none (tabulate (λ u. u) n))
        ∙ ap g e
    go ih (no ne) = each_last g n ∙ rw (ih (omega arith) none, none n ne) (append-nil (g t))

program_each : (p : Plan) (ts : List ℕ) → program_over p ts ≡ for_each (for_tile p) ts
unfolding program_over for_each
program_each p [] = refl
program_each p (t ∷ ts) = rw (program_each p ts)

-- a processor's tiles among those that exist
existing_chain : (x : Nest) (b : ℕ) → map (box_tile x) (tiles_of (plan_of Direct x) b) ≡ chosen (exists x) (tiles_of (box_plan Direct x) b)
unfolding those box_tile tiles existing
existing_chain x b =
    map_same (box_tile x) (λ t. get_or l t 0) (keep (λ t. eqb (processor_of x (box_tile x t)) b) (length l))
    (λ t i. either_default l t t 0 (keep_in _ (length l) t i).0)
    ∙ ap (map (λ t. get_or l t 0)) (keep_same (λ t. eqb (processor_of x (box_tile x t)) b) (λ t. f (get_or l t 0)) (length l)
    (λ t h. ap f (either_default l t t 0 h)))
    ∙ picked 0 f l
    ∙ chosen_keep f (exists x) (box_tiles x)
    ∙ keep_same _ _ (box_tiles x) (λ u h. and_swap (f u) (exists x u))
    ∙ sym (chosen_keep (exists x) f (box_tiles x))
  where
    f : ℕ → Bool
    f u = eqb (processor_of x u) b

    l : List ℕ
    l = keep (exists x) (box_tiles x)

-- the inner loops meet indices
inner_each : (x : Nest) → Accepted x → (t : ℕ) → t < box_tiles x → Each (Index x) (inner x (tile_place x t))
unfolding inner
inner_each x ok t h =
    nested_each (length_of x) _ x.dimensions (λ j v l i. omega (arith, loop_most _ _ v i, ok.long j l))

module _ (x : Nest) (ok : Accepted x) where
  turns_direct : in_turn Direct x ≡ tabulate (λ u. 1 + u) (directions x)
  turns_direct =
      let e : directions x + 1 - 1 ≡ directions x = omega arith in
      loop_one 1 (directions x) ∙ ap (tabulate (λ u. 1 + u)) e

  turns_indirect : in_turn Indirect x ≡ tabulate (λ u. 0 + u) x.spread
  turns_indirect =
      let e : x.spread - 1 + 1 - 0 ≡ x.spread = omega (arith, ok.spread_least) in
      loop_one 0 (x.spread - 1) ∙ ap (tabulate (λ u. 0 + u)) e

  -- slot by slot: tile u and direction v, or tile u and dimension q
  one_direct : (s u v : ℕ) → slot_tile Direct x s ≡ u → s % directions x + 1 ≡ v
      → pick (ltb 0 (length (shaped_message x s).cells)) (shaped_message x s ∷ []) [] ≡ pack_and_send Direct x u v
  unfolding shaped_slot_parcel shaped_slot_taker shaped_home pack_and_send
  one_direct s u v e f =
      rw (e, f)
      (one_slot u (shaped_taker x (box_tile x u) v) (shaped_parcel x (box_tile x u) v)
      (eqb (processor_of x (box_tile x u)) (processor_of x (box_tile x (shaped_taker x (box_tile x u) v)))))

  one_indirect : (s u q : ℕ) → slot_tile Indirect x s ≡ u → s % x.spread ≡ q
      → pick (ltb 0 (length (slot_message Indirect x s).cells)) (slot_message Indirect x s ∷ []) [] ≡ pack_and_send Indirect x u q
  unfolding slot_parcel slot_cells slot_taker at_home pack_and_send
  one_indirect s u q e f =
      rw (e, f) (one_slot u (neighbour x u q) (passed x u q) (eqb (processor_of x u) (processor_of x (neighbour x u q))))

  numbered : (r : Route) → (plan_of r x).messages ≡ all_sent r x
  unfolding messages_to all_sent send_section
  numbered Direct =
      messages_each (shaped_message x) (directions x) (tiles x)
      ∙ each_under _ _ (tiles x) (λ t l.
      messages_loop (λ k. shaped_message x (t * directions x + k)) (pack_and_send Direct x t) (λ u. 1 + u) (directions x)
      (λ k h. one_direct (t * directions x + k) t (1 + k) (slot_tile_lem t (directions x) k h)
      (ap (λ (n : ℕ). n + 1) (slot_way t (directions x) k h) ∙ omega arith))
      ∙ ap (for_each (pack_and_send Direct x t)) (sym turns_direct))
  numbered Indirect =
      messages_each (slot_message Indirect x) x.spread (box_tiles x)
      ∙ each_under _ _ (box_tiles x) (λ t l.
      messages_loop (λ k. slot_message Indirect x (t * x.spread + k)) (pack_and_send Indirect x t) (λ u. 0 + u) x.spread
      (λ k h. one_indirect (t * x.spread + k) t (0 + k) (slot_tile_lem t x.spread k h) (slot_way t x.spread k h ∙ omega arith))
      ∙ ap (for_each (pack_and_send Indirect x t)) (sym turns_indirect))

  -- ---- what a tile sends, and what is sent to it
  module _ (r : Route) where
    abbrev p : Plan
    p = plan_of r x

    receives : (t : ℕ) → map (message p) (dues_of p t) ≡ receive_section r x t
    unfolding those receive_section
    receives t = picked no_message (λ m. eqb m.taker t) p.messages ∙ ap (chosen (λ m. eqb m.taker t)) (numbered r)

    sender_is : (u w : ℕ) → (packed r x u w).sender ≡ u
    sender_is u w = go r
      where
        go : (q : Route) → (packed q x u w).sender ≡ u
        go Direct = refl
        go Indirect = refl

    -- every message of tile u's section is sent by u
    own_section : (t u : ℕ) (b : Bool) → eqb u t ≡ b → chosen (λ m. eqb m.sender t) (send_section r x u) ≡ pick b (send_section r x u) []
    unfolding send_section pack_and_send
    own_section t u b e =
        chosen_each (λ m. eqb m.sender t) (pack_and_send r x u) (in_turn r x)
        ∙ each_same _ (λ w. pick b (pack_and_send r x u w) []) (in_turn r x) (λ w. by_sender t u _ b (packed r x u w) (sender_is u w) e)
        ∙ each_pick b (pack_and_send r x u) (in_turn r x)

    others : (t u : ℕ) → u ≢ t → chosen (λ m. eqb m.sender t) (send_section r x u) ≡ []
    unfolding pick
    others t u n = own_section t u false (ne_eqb u t n)

    sends : (t : ℕ) → t < p.tiles → map (message p) (sends_of p t) ≡ send_section r x t
    unfolding those all_sent pick
    sends t l =
        picked no_message (λ m. eqb m.sender t) p.messages
        ∙ ap (chosen (λ m. eqb m.sender t)) (numbered r)
        ∙ chosen_each (λ m. eqb m.sender t) (send_section r x) (tabulate (λ u. u) p.tiles)
        ∙ one_of (λ u. chosen (λ m. eqb m.sender t) (send_section r x u)) t p.tiles l (others t)
        ∙ own_section t t true (eq-eqb t t refl)

    tile_by_tile : (b : ℕ) → program p b ≡ for_each (for_tile p) (tiles_of p b)
    tile_by_tile b = program_each p (tiles_of p b)

  -- ---- the outer loops
  chain : (r : Route) (b : ℕ) → b < processors x → map (in_box r x) (tiles_of (plan_of r x) b) ≡ chosen (is_tile r x) (map (tile_at x) (chains x b))
  chain Direct b h = existing_chain x b ∙ sym (ap (chosen (exists x)) (loops_are_tiles x ok b Direct h))
  chain Indirect b h = map-id _ ∙ sym (chosen_every _ ∙ loops_are_tiles x ok b Indirect h)

  -- ---- the inner loops
  order : (r : Route) (t : ℕ) → t < (plan_of r x).tiles → map (cell_at x) (indices r x t) ≡ (plan_of r x).cells_of t
  unfolding cells_of shaped_cells
  order Direct t h =
      map_shape x (inner x (tile_place x (box_tile x t)))
      ∙ ap (chosen (in_shape x)) (tile_in_order x ok (box_tile x t) (box_tile_low x t h))
      ∙ chosen_keep (in_shape x) (λ c. eqb (box_tile_of x c) (box_tile x t)) (cells x)
  order Indirect t h = tile_in_order x ok t h

  value_is : (r : Route) (source memory : List ℕ) (c : ℕ) → (plan_of r x).value source memory c ≡ value_in (within r x) x source memory c
  value_is Direct source memory c = value_shape x source memory c
  value_is Indirect source memory c = value_box x source memory c

  body : (r : Route) (source : List ℕ) (s : State) (b t : ℕ) → t < (plan_of r x).tiles
      → (carry_out (plan_of r x) source s b (calculate t)).memories
      ≡ put s.memories (b * cells x) (store_all (value_in (within r x) x source) (memory_of (plan_of r x) s b) (map (cell_at x) (indices r x t)))
  unfolding carry_out
  body r source s b t h =
      ap (put s.memories (b * cells x))
      (store_all_same _ _ ((plan_of r x).cells_of t) (memory_of (plan_of r x) s b) (value_is r source)
      ∙ ap (store_all (value_in (within r x) x source) (memory_of (plan_of r x) s b)) (sym (order r t h)))

  body_box : (r : Route) (source : List ℕ) (s : State) (b t : ℕ) → t < box_tiles x
      → (carry_out (box_plan r x) source s b (calculate t)).memories
      ≡ put s.memories (b * cells x) (run_nest x source (memory_of (box_plan r x) s b) (inner x (tile_place x t)))
  unfolding carry_out
  body_box r source s b t h =
      ap (put s.memories (b * cells x))
      (ap (store_all (value x source) (memory_of (box_plan r x) s b)) (sym (tile_in_order x ok t h))
      ∙ sym (run_stores x ok source (inner x (tile_place x t)) (memory_of (box_plan r x) s b) (inner_each x ok t h)))

pub figure4 : (r : Route) (x : Nest) → Accepted x → Figure4 r x
figure4 r x ok =
    record {
      chain = chain x ok r;
      tile_by_tile = tile_by_tile x ok r;
      receives = receives x ok r;
      order = order x ok r;
      body = body x ok r;
      body_box = body_box x ok r;
      sends = sends x ok r;
      numbered = numbered x ok r;
    }
