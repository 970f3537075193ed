-- Laws of the loops over a tile's messages by the two tables, and of lent parts.
use Rattle.std.specs.Prelude.{◌≡◌, ℕ, ◌+◌, ◌-◌, ◌<◌, ◌≤◌, true, false, eqb, ◌≢◌, List, [], ◌∷◌, length, get_or, take, drop, set}
use mathlib.Core.Path.{refl, sym, ap, ◌∙◌}
use native.Mathlib.Numerals.{add-one}
use native.Mathlib.Omega.{arith}
use lib.ListN.{length-set, drop_of_length-le}
use lib.Seq.{drop-cons}
use borrow.Author.Tests.{eq-eqb, ne_eqb}
use borrow.Rule.Slice.PartMut.{put_mid}
use Rattle.base.specs.Lists.{In, sublist, put, set_all, all_at, unpack, pack}
use Rattle.base.proofs.Tests.{and_left, and_false}
use Rattle.base.proofs.Entries.{at_in}
use Rattle.machine.specs.Plan.{Plan, count, held_by, dues_of}
use Rattle.nest.specs.declared.Nest.{Nest}
use Rattle.plan.specs.declared.Route.{Route}
use Rattle.plan.specs.Shaped.{plan_of}
use Rattle.tables.specs.declared.scans.MessageSlot.{MessageSlot}
use Rattle.tables.specs.Tables.{FoundIn}
use Rattle.stages.proofs.Parts.{back}
use Rattle.part_calls.specs.turn.Step.{Ranked, Placed, unpack_from}

-- ---- lent parts

-- a lent part that comes back as these words
pub put_back : (l ys ws : List ℕ) (a k : ℕ) → a + k ≤ length l → length ys ≡ length (take (a + k - a) (drop a l)) → ys ≡ ws
    → put_mid a (a + k - a) l ys ≡ put l a ws
put_back l ys ws a k h n e = back l ys (λ z. ws) a k h n e

-- ---- a list of messages, one after the other, by the tables
module _ (ms : List ℕ) (j : ℕ) where
  pack_turn : (ordinals : List ℕ) → j < length ms → pack ordinals (drop j ms) ≡ get_or ordinals (get_or ms j 0) 0 ∷ pack ordinals (drop (j + 1) ms)
  unfolding pack
  pack_turn ordinals h = rw (add-one j, drop-cons ms j 0 h)

  pack_end : (ordinals : List ℕ) → length ms ≤ j → pack ordinals (drop j ms) ≡ []
  unfolding pack
  pack_end ordinals h = rw (drop_of_length-le ms h)

  from_turn : (p : Plan) (starts mail memory : List ℕ) → j < length ms
      → unpack_from p starts mail (unpack memory (held_by p (get_or ms j 0)) (sublist mail (get_or starts (get_or ms j 0) 0) (length (held_by p (get_or ms j 0)))))
      (drop (j + 1) ms)
      ≡ unpack_from p starts mail memory (drop j ms)
  unfolding unpack_from
  from_turn p starts mail memory h = rw (add-one j, drop-cons ms j 0 h)

  from_end : (p : Plan) (starts mail memory : List ℕ) → length ms ≤ j → unpack_from p starts mail memory (drop j ms) ≡ memory
  unfolding unpack_from
  from_end p starts mail memory h = rw (drop_of_length-le ms h)

  set_turn : (ordinals l : List ℕ) (v : ℕ) → j < length ms
      → set_all (set l (get_or ordinals (get_or ms j 0) 0) v) (pack ordinals (drop (j + 1) ms)) v ≡ set_all l (pack ordinals (drop j ms)) v
  unfolding set_all
  set_turn ordinals l v h = sym (ap (λ (k : List ℕ). set_all l k v) (pack_turn ordinals h))

  set_end : (ordinals l : List ℕ) (v : ℕ) → length ms ≤ j → set_all l (pack ordinals (drop j ms)) v ≡ l
  unfolding set_all
  set_end ordinals l v h = ap (λ (k : List ℕ). set_all l k v) (pack_end ordinals h)

  all_turn : (ordinals l : List ℕ) (v : ℕ) → j < length ms → get_or l (get_or ordinals (get_or ms j 0) 0) 0 ≡ v
      → all_at l v (pack ordinals (drop (j + 1) ms)) ≡ all_at l v (pack ordinals (drop j ms))
  unfolding all_at
  all_turn ordinals l v h e =
      sym
      (ap (all_at l v) (pack_turn ordinals h)
      ∙ and_left (eqb (get_or l (get_or ordinals (get_or ms j 0) 0) 0) v) (all_at l v (pack ordinals (drop (j + 1) ms))) (eq-eqb _ _ e))

  all_no : (ordinals l : List ℕ) (v : ℕ) → j < length ms → get_or l (get_or ordinals (get_or ms j 0) 0) 0 ≢ v → all_at l v (pack ordinals (drop j ms)) ≡ false
  unfolding all_at
  all_no ordinals l v h e =
      ap (all_at l v) (pack_turn ordinals h)
      ∙ and_false (eqb (get_or l (get_or ordinals (get_or ms j 0) 0) 0) v) (all_at l v (pack ordinals (drop (j + 1) ms))) (ne_eqb _ _ e)

  all_end : (ordinals l : List ℕ) (v : ℕ) → length ms ≤ j → all_at l v (pack ordinals (drop j ms)) ≡ true
  unfolding all_at
  all_end ordinals l v h = ap (all_at l v) (pack_end ordinals h)

-- ---- messages of a nest's plan
module _ (route : Route) (x : Nest) where
  abbrev p : Plan
  p = plan_of route x

  -- a due message that was found: its rank is among the marks, its words in the mail
  module _ (tile j : ℕ) (r : MessageSlot) (l : j < length (dues_of p tile)) (q : FoundIn route x (get_or (dues_of p tile) j 0) r) where
    number_in : In r.number (dues_of p tile)
    number_in = rw q.number (at_in (dues_of p tile) j l)

    pub number_low : count p ≤ 7168 → r.number < 7169
    number_low h = omega (arith, h, q.number, q.low)

    pub rank_low : (ordinals : List ℕ) (n rank : ℕ) → Ranked p ordinals (dues_of p tile) n → rank ≡ get_or ordinals r.number 0 → rank < n
    rank_low ordinals n rank h e = omega (arith, e, h.low r.number number_in)

    pub place_low : (starts : List ℕ) (n at : ℕ) → Placed p starts (dues_of p tile) n → at ≡ get_or starts r.number 0 → at + r.words ≤ n
    place_low starts n at h e =
        omega (arith, e, h.low r.number number_in, q.words ∙ ap (λ (m : ℕ). length (held_by p m)) (sym q.number))

  -- what is left to look at decides
  pub record Looking (tile : ℕ) (ordinals marks : List ℕ) (m j : ℕ) : Type 0 where
    pub low : j ≤ m
    pub all : m ≡ length (dues_of p tile)
    pub is : all_at marks 2 (pack ordinals (drop j (dues_of p tile))) ≡ all_at marks 2 (pack ordinals (dues_of p tile))

  module _ (tile : ℕ) (ordinals marks : List ℕ) (m j : ℕ) (g : Looking tile ordinals marks m j) where
    rank_is : (r : MessageSlot) (rank : ℕ) → FoundIn route x (get_or (dues_of p tile) j 0) r → rank ≡ get_or ordinals r.number 0
        → rank ≡ get_or ordinals (get_or (dues_of p tile) j 0) 0
    rank_is r rank q e = e ∙ ap (λ (i : ℕ). get_or ordinals i 0) q.number

    pub look_again : (r : MessageSlot) (rank : ℕ) → j < m → FoundIn route x (get_or (dues_of p tile) j 0) r → rank ≡ get_or ordinals r.number 0 → get_or marks rank
        0 ≡ 2
        → Looking tile ordinals marks m (j + 1)
    look_again r rank l q k e =
        record {
          low = omega arith;
          all = g.all;
          is = all_turn (dues_of p tile) j ordinals marks 2 (omega (arith, g.all)) (ap (λ (i : ℕ). get_or marks i 0) (sym (rank_is r rank q k)) ∙ e) ∙ g.is;
        }

    pub look_no : (r : MessageSlot) (rank : ℕ) → j < m → FoundIn route x (get_or (dues_of p tile) j 0) r → rank ≡ get_or ordinals r.number 0 → get_or marks rank 0
        ≢ 2
        → false ≡ all_at marks 2 (pack ordinals (dues_of p tile))
    look_no r rank l q k e =
        sym (all_no (dues_of p tile) j ordinals marks 2 (omega (arith, g.all)) (λ z. e (ap (λ (i : ℕ). get_or marks i 0) (rank_is r rank q k) ∙ z))) ∙ g.is

    pub look_done : m ≤ j → true ≡ all_at marks 2 (pack ordinals (dues_of p tile))
    look_done l = sym (all_end (dues_of p tile) j ordinals marks 2 (omega (arith, g.all))) ∙ g.is

  -- what is left to gather gives the same
  pub record Gathering (tile : ℕ) (ordinals starts mail memory₀ marks₀ memory marks : List ℕ) (m j : ℕ) : Type 0 where
    pub low : j ≤ m
    pub all : m ≡ length (dues_of p tile)
    pub long : length memory ≡ length memory₀
    pub long_marks : length marks ≡ length marks₀
    pub memories : unpack_from p starts mail memory (drop j (dues_of p tile)) ≡ unpack_from p starts mail memory₀ (dues_of p tile)
    pub marked : set_all marks (pack ordinals (drop j (dues_of p tile))) 3 ≡ set_all marks₀ (pack ordinals (dues_of p tile)) 3

  module _ (tile : ℕ) (ordinals starts mail memory₀ marks₀ : List ℕ) (m : ℕ) where
    pub gather_start : m ≡ length (dues_of p tile) → Gathering tile ordinals starts mail memory₀ marks₀ memory₀ marks₀ m 0
    gather_start e = record { low = omega arith; all = e; long = refl; long_marks = refl; memories = refl; marked = refl }

    pub gather_again : (memory memory' marks marks' : List ℕ) (j : ℕ) (r : MessageSlot) (at rank : ℕ)
        → Gathering tile ordinals starts mail memory₀ marks₀ memory marks m j → j < m → FoundIn route x (get_or (dues_of p tile) j 0) r
        → at ≡ get_or starts r.number 0 → rank ≡ get_or ordinals r.number 0
        → length memory' ≡ length memory → memory' ≡ unpack memory (held_by p r.number) (sublist mail at r.words) → marks' ≡ set marks rank 3
        → Gathering tile ordinals starts mail memory₀ marks₀ memory' marks' m (j + 1)
    gather_again memory memory' marks marks' j r at rank g l q a k n e t =
        let d = dues_of p tile in
        let h : j < length (dues_of p tile) = omega (arith, g.all) in
        let e' : memory' ≡ unpack memory (held_by p r.number) (sublist mail (get_or starts r.number 0) (length (held_by p r.number))) =
        e ∙ ap (λ (i : ℕ). unpack memory (held_by p r.number) (sublist mail i r.words)) a
        ∙ ap (λ (i : ℕ). unpack memory (held_by p r.number) (sublist mail (get_or starts r.number 0) i))
        (q.words ∙ ap (λ (i : ℕ). length (held_by p i)) (sym q.number)) in
        record {
          low = omega arith;
          all = g.all;
          long = n ∙ g.long;
          long_marks = ap length t ∙ length-set marks rank 3 ∙ g.long_marks;
          memories =
              ap (λ (z : List ℕ). unpack_from p starts mail z (drop (j + 1) d))
              (e' ∙ ap (λ (i : ℕ). unpack memory (held_by p i) (sublist mail (get_or starts i 0) (length (held_by p i)))) q.number)
              ∙ from_turn d j p starts mail memory h ∙ g.memories;
          marked =
              ap (λ (z : List ℕ). set_all z (pack ordinals (drop (j + 1) d)) 3) t
              ∙ ap (λ (i : ℕ). set_all (set marks i 3) (pack ordinals (drop (j + 1) d)) 3) (k ∙ ap (λ (i : ℕ). get_or ordinals i 0) q.number)
              ∙ set_turn d j ordinals marks 3 h ∙ g.marked;
        }

    pub gather_done : (memory marks : List ℕ) (j : ℕ) → Gathering tile ordinals starts mail memory₀ marks₀ memory marks m j → m ≤ j
        → (memory ≡ unpack_from p starts mail memory₀ (dues_of p tile)) × (marks ≡ set_all marks₀ (pack ordinals (dues_of p tile)) 3)
    gather_done memory marks j g l =
        let d = dues_of p tile in
        let h : length (dues_of p tile) ≤ j = omega (arith, g.all) in
        (sym (from_end d j p starts mail memory h) ∙ g.memories, sym (set_end d j ordinals marks 3 h) ∙ g.marked)
