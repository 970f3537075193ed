-- Laws of lent parts, of messages at their places, and of the loops over messages and cells.
use Prim.Native.Nat.{ℕ, suc, ◌+◌, ◌*◌, ◌-◌, ◌≤◌, ◌<◌}
use mathlib.Core.Path.{◌≡◌, refl, sym, ap, ◌∙◌, subst}
use mathlib.Core.Logic.{◌≢◌}
use mathlib.Core.Bool.{Bool, true, false}
use mathlib.Core.List.{List}
use native.Mathlib.Numerals.{add-one}
use native.Mathlib.Omega.{arith}
use lib.ListN.{length, get_or, take, drop, set, length-set, drop_of_length-le}
use lib.Seq.{drop-cons}
use lib.Dec.{eqb, leb}
use borrow.Author.Tests.{eq-eqb, ne_eqb, le-leb, lt-leb}
use Rattle.std.specs.Bool.{MatchBool}
use Rattle.std.specs.List.{AllWithin, HoldsAt}
use Rattle.base.specs.Tests.{every}
use borrow.Rule.Slice.PartMut.{put_mid}
use Rattle.base.specs.Lists.{sublist, put, set_all, all_at, unpack, pack}
use Rattle.base.proofs.Tests.{and_left, and_false, every_all, every_not}
use Rattle.base.proofs.Lists.{part_length, piece_fits}
use Rattle.machine.specs.Plan.{Plan, offset, words, held_by, dues_of}
use Rattle.machine.specs.Machine.{place_of, unpack_all}
use Rattle.nest.specs.declared.Nest.{Nest}
use Rattle.plan.specs.declared.Route.{Route}
use Rattle.plan.specs.Shaped.{plan_of}
use Rattle.tables.specs.declared.scans.MessageSlot.{MessageSlot}
use Rattle.tables.specs.Tables.{FoundIn}

-- ---- parts

pub mid_is : (l : List ℕ) (a k : ℕ) → take (a + k - a) (drop a l) ≡ sublist l a k
unfolding sublist
mid_is l a k = let e : a + k - a ≡ k = omega arith in rw e

pub mid_length : (l : List ℕ) (a k : ℕ) → a + k ≤ length l → length (take (a + k - a) (drop a l)) ≡ k
mid_length l a k h = ap length (mid_is l a k) ∙ part_length l a k h

put_is : (l ys : List ℕ) (a k : ℕ) → length ys ≡ k → put_mid a (a + k - a) l ys ≡ put l a ys
unfolding put
put_is l ys a k e = let z : a + k - a ≡ length ys = omega arith in rw z

-- a lent part that comes back as f of it
pub back : (l ys : List ℕ) (f : List ℕ → List ℕ) (a k : ℕ) → a + k ≤ length l → length ys ≡ length (take (a + k - a) (drop a l))
    → ys ≡ f (take (a + k - a) (drop a l)) → put_mid a (a + k - a) l ys ≡ put l a (f (sublist l a k))
back l ys f a k h n e = put_is l ys a k (n ∙ mid_length l a k h) ∙ ap (put l a) (e ∙ ap f (mid_is l a k))

-- the same of piece b of pieces as long as n, which the code has as c
pub piece_back : (l ys : List ℕ) (f : List ℕ → List ℕ) (b c n : ℕ) → c ≡ n → b * c + c ≤ length l
    → length ys ≡ length (take (b * c + c - b * c) (drop (b * c) l)) → ys ≡ f (take (b * c + c - b * c) (drop (b * c) l))
    → put_mid (b * c) (b * c + c - b * c) l ys ≡ put l (b * n) (f (sublist l (b * n) n))
piece_back l ys f b c n e h k q = back l ys f (b * c) c h k q ∙ ap (λ (i : ℕ). put l (b * i) (f (sublist l (b * i) i))) e

pub room : (n b c m l : ℕ) → b < n → c ≡ m → l ≡ n * m → b * c + c ≤ l
room n b c m l h e q = rw (q, e) (piece_fits m n b h)

-- ---- every mark of a list

pub every_low : (l : List ℕ) (n : ℕ) (r : Bool)
    → MatchBool r (AllWithin (λ x. x ≤ n) l 0 (length l)) ((k : ℕ) × (k < length l) × HoldsAt (λ x. n < x) l k)
    → r ≡ every (λ i. leb (get_or l i 0) n) (length l)
every_low l n true h = sym (every_all _ (length l) (λ i k. le-leb _ _ (h i 0 (omega arith) k)))
every_low l n false (k, h, v) = sym (every_not _ (length l) k h (lt-leb _ _ (v 0)))

-- ---- a list of messages, one after the other

module _ (ms : List ℕ) (j : ℕ) where
  gather_turn : (p : Plan) (buffer memory : List ℕ) → j < length ms
      → unpack_all p buffer (unpack memory (held_by p (get_or ms j 0)) (place_of p buffer (get_or ms j 0))) (drop (j + 1) ms) ≡ unpack_all p buffer memory (drop j ms)
  unfolding unpack_all
  gather_turn p buffer memory h = rw (add-one j, drop-cons ms j 0 h)

  gather_end : (p : Plan) (buffer memory : List ℕ) → length ms ≤ j → unpack_all p buffer memory (drop j ms) ≡ memory
  unfolding unpack_all
  gather_end p buffer memory h = rw (drop_of_length-le ms h)

  set_turn : (l : List ℕ) (v : ℕ) → j < length ms → set_all (set l (get_or ms j 0) v) (drop (j + 1) ms) v ≡ set_all l (drop j ms) v
  unfolding set_all
  set_turn l v h = rw (add-one j, drop-cons ms j 0 h)

  set_end : (l : List ℕ) (v : ℕ) → length ms ≤ j → set_all l (drop j ms) v ≡ l
  unfolding set_all
  set_end l v h = rw (drop_of_length-le ms h)

  all_turn : (l : List ℕ) (v : ℕ) → j < length ms → get_or l (get_or ms j 0) 0 ≡ v → all_at l v (drop (j + 1) ms) ≡ all_at l v (drop j ms)
  unfolding all_at
  all_turn l v h e = rw (add-one j, drop-cons ms j 0 h, and_left (eqb (get_or l (get_or ms j 0) 0) v) (all_at l v (drop (suc j) ms)) (eq-eqb _ _ e))

  all_no : (l : List ℕ) (v : ℕ) → j < length ms → get_or l (get_or ms j 0) 0 ≢ v → all_at l v (drop j ms) ≡ false
  unfolding all_at
  all_no l v h e = rw (drop-cons ms j 0 h) (and_false (eqb (get_or l (get_or ms j 0) 0) v) (all_at l v (drop (suc j) ms)) (ne_eqb _ _ e))

  all_end : (l : List ℕ) (v : ℕ) → length ms ≤ j → all_at l v (drop j ms) ≡ true
  unfolding all_at
  all_end l v h = rw (drop_of_length-le ms h)

-- ---- messages of a nest's plan

module _ (route : Route) (x : Nest) where
  abbrev p : Plan
  p = plan_of route x

  module _ (m : ℕ) (r : MessageSlot) (q : FoundIn route x m r) where
    pub placed_self : FoundIn route x r.number r
    placed_self = subst (λ (k : ℕ). FoundIn route x k r) (sym q.number) q

    place_is : (buffer : List ℕ) → place_of p buffer m ≡ sublist buffer r.offset r.words
    place_is buffer = rw (← q.offset, ← q.words)

    pub mid_words : (buffer : List ℕ) → length buffer ≡ words p
        → length (take (r.offset + r.words - r.offset) (drop r.offset buffer)) ≡ r.words
    mid_words buffer h = mid_length buffer r.offset r.words (omega (arith, q.room, h))

    pub taken_is : (memory buffer ys : List ℕ)
        → ys ≡ unpack memory (held_by p m) (take (r.offset + r.words - r.offset) (drop r.offset buffer))
        → ys ≡ unpack memory (held_by p m) (place_of p buffer m)
    taken_is memory buffer ys e = rw (place_is buffer) (e ∙ rw (mid_is buffer r.offset r.words))

    pub packed_is : (memory buffer ys : List ℕ) → length buffer ≡ words p
        → length ys ≡ length (take (r.offset + r.words - r.offset) (drop r.offset buffer)) → ys ≡ pack memory (held_by p m)
        → put_mid r.offset (r.offset + r.words - r.offset) buffer ys ≡ put buffer (offset p.messages m) (pack memory (held_by p m))
    packed_is memory buffer ys h k e =
        put_is buffer ys r.offset r.words (k ∙ mid_length buffer r.offset r.words (omega (arith, q.room, h)))
        ∙ ap (put buffer r.offset) e
        ∙ ap (λ (i : ℕ). put buffer i (pack memory (held_by p m))) q.offset

  -- what is left to gather gives the same
  pub record Gathering (tile : ℕ) (buffer memory₀ status₀ memory status : List ℕ) (m j : ℕ) : Type 0 where
    pub low : j ≤ m
    pub all : m ≡ length (dues_of p tile)
    pub long : length memory ≡ length memory₀
    pub long_status : length status ≡ length status₀
    pub memories : unpack_all p buffer memory (drop j (dues_of p tile)) ≡ unpack_all p buffer memory₀ (dues_of p tile)
    pub statuses : set_all status (drop j (dues_of p tile)) 3 ≡ set_all status₀ (dues_of p tile) 3

  module _ (tile : ℕ) (buffer memory₀ status₀ : List ℕ) (m : ℕ) where
    pub gather_start : m ≡ length (dues_of p tile) → Gathering tile buffer memory₀ status₀ memory₀ status₀ m 0
    gather_start e = record { low = omega arith; all = e; long = refl; long_status = refl; memories = refl; statuses = refl }

    pub gather_again : (memory memory' status : List ℕ) (j : ℕ) (r : MessageSlot) → Gathering tile buffer memory₀ status₀ memory status m j → j < m
        → FoundIn route x (get_or (dues_of p tile) j 0) r → length memory' ≡ length memory
        → memory' ≡ unpack memory (held_by p r.number) (place_of p buffer r.number)
        → Gathering tile buffer memory₀ status₀ memory' (set status r.number 3) m (j + 1)
    gather_again memory memory' status j r g l q k e =
        let d = dues_of p tile in
        let h : j < length (dues_of p tile) = omega (arith, g.all) in
        record {
          low = omega arith;
          all = g.all;
          long = k ∙ g.long;
          long_status = length-set status r.number 3 ∙ g.long_status;
          memories =
              ap (λ (z : List ℕ). unpack_all p buffer z (drop (j + 1) d))
              (e ∙ ap (λ (i : ℕ). unpack memory (held_by p i) (place_of p buffer i)) q.number)
              ∙ gather_turn d j p buffer memory h ∙ g.memories;
          statuses = ap (λ (i : ℕ). set_all (set status i 3) (drop (j + 1) d) 3) q.number ∙ set_turn d j status 3 h ∙ g.statuses;
        }

    pub gather_done : (memory status : List ℕ) (j : ℕ) → Gathering tile buffer memory₀ status₀ memory status m j → m ≤ j
        → (memory ≡ unpack_all p buffer memory₀ (dues_of p tile)) × (status ≡ set_all status₀ (dues_of p tile) 3)
    gather_done memory status j g l =
        let d = dues_of p tile in
        let h : length (dues_of p tile) ≤ j = omega (arith, g.all) in
        (sym (gather_end d j p buffer memory h) ∙ g.memories, sym (set_end d j status 3 h) ∙ g.statuses)

  -- what is left to look at decides
  pub record Looking (tile : ℕ) (status : List ℕ) (m j : ℕ) : Type 0 where
    pub low : j ≤ m
    pub all : m ≡ length (dues_of p tile)
    pub is : all_at status 2 (drop j (dues_of p tile)) ≡ all_at status 2 (dues_of p tile)

  module _ (tile : ℕ) (status : List ℕ) (m j : ℕ) (g : Looking tile status m j) where
    pub look_again : (r : MessageSlot) → j < m → FoundIn route x (get_or (dues_of p tile) j 0) r → get_or status r.number 0 ≡ 2 → Looking tile status m (j + 1)
    look_again r l q e =
        record {
          low = omega arith;
          all = g.all;
          is = all_turn (dues_of p tile) j status 2 (omega (arith, g.all)) (ap (λ (i : ℕ). get_or status i 0) (sym q.number) ∙ e) ∙ g.is;
        }

    pub look_no : (r : MessageSlot) → j < m → FoundIn route x (get_or (dues_of p tile) j 0) r → get_or status r.number 0 ≢ 2
        → false ≡ all_at status 2 (dues_of p tile)
    look_no r l q e =
        sym (all_no (dues_of p tile) j status 2 (omega (arith, g.all)) (λ z. e (ap (λ (i : ℕ). get_or status i 0) q.number ∙ z))) ∙ g.is

    pub look_done : m ≤ j → true ≡ all_at status 2 (dues_of p tile)
    look_done l = sym (all_end (dues_of p tile) j status 2 (omega (arith, g.all))) ∙ g.is
