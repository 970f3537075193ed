-- Laws of a message's cells, all kept: their words taken into the part and given out of it, as in a memory of all cells; a tile's messages hold kept cells.
use Rattle.std.specs.Prelude.{◌≡◌, ℕ, ◌+◌, ◌<◌, ◌≤◌, true, List, [], ◌∷◌, ◌++◌, length, take, drop, set, replicate}
use mathlib.Core.Path.{refl, sym, ap, ◌∙◌}
use mathlib.Core.Logic.{inl, inr}
use native.Mathlib.Omega.{arith}
use lib.ListN.{length-replicate}
use Rattle.base.specs.Tests.{one, tabulate}
use Rattle.base.specs.Lists.{In, Rising, unpack, pack}
use Rattle.base.proofs.Select.{those_in}
use Rattle.base.proofs.Lists.{unpack_length}
use Rattle.machine.specs.Plan.{Plan, Sound, count, sender_of, taker_of, held_by, dues_of}
use Rattle.nest.specs.declared.Nest.{Nest}
use Rattle.plan.specs.Shaped.{plan_of}
use Rattle.plan.proofs.ShapedSound.{sound}
use Rattle.layout.specs.declared.Sizes.{Sizes}
use Rattle.layout.specs.Sizes.{Sized}
use Rattle.tables.specs.declared.scans.MessageSlot.{MessageSlot}
use Rattle.tables.specs.Tables.{FoundIn}
use Rattle.network.specs.Locality.{Keeps}
use Rattle.network.specs.Own.{keeps, kept_cells}
use Rattle.network.proofs.Locality.{known_kept}
use Rattle.network.proofs.Own.{test_keep}
use Rattle.rank_index.specs.Ranks.{marked_at, marked_cells, rank_at, spread_out, Counted}
use Rattle.rank_index.proofs.Ranks.{set_long, spread_set, pack_spread, marks_long, mark_is, marked_are}
use Rattle.part.specs.Part.{all_of, Listed}
use Rattle.part.proofs.Words.{all_is}
use Rattle.part_calls.proofs.front.Front.{front_long, front_back, same_long}
use Rattle.part_calls.specs.turn.Step.{Keeping}

-- so many numbers, rising and below n, are at most n
rising_few : (l : List ℕ) (k n : ℕ) → k ≤ n → Rising l → ((c : ℕ) → In c l → (k ≤ c) × (c < n)) → length l + k ≤ n
rising_few [] k n h up low = omega arith
rising_few (x ∷ l) k n h up low =
    let z = low x (inl refl) in
    let a : x + 1 ≤ n = omega (arith, z.1) in
    let i = rising_few l (x + 1) n a up.1 (λ c j. let u = up.0 c j in (omega (arith, u), (low c (inr j)).1)) in
    omega (arith, i, z.0)

pub held_few : (p : Plan) → Sound p → (m : ℕ) → m < count p → length (held_by p m) ≤ p.cells
held_few p so m lo =
    omega (arith, rising_few (held_by p m) 0 p.cells (omega arith) (so.held_rising m lo) (λ c i. (omega arith, so.held_low m c lo i)))

-- ---- words stored at marked cells are words of the part
module _ (marks : List ℕ) where
  abbrev Spread : List ℕ → Type 0
  Spread l = (ws : List ℕ) × (l ≡ spread_out marks ws) × (length ws ≡ length (marked_cells marks))

  spread_unpack : (cs vs ws : List ℕ) → length ws ≡ length (marked_cells marks) → ((c : ℕ) → In c cs → (c < length marks) × (marked_at marks c ≡ true))
      → Spread (unpack (spread_out marks ws) cs vs)
  unfolding unpack
  spread_unpack [] vs ws e h = (ws, refl, e)
  spread_unpack (c ∷ cs) [] ws e h = (ws, refl, e)
  spread_unpack (c ∷ cs) (v ∷ vs) ws e h =
      let k = h c (inl refl) in
      let r = spread_unpack cs vs (set ws (rank_at marks c) v) (set_long marks ws e c k.0 k.1 v) (λ d i. h d (inr i)) in
      (r.0, ap (λ (l : List ℕ). unpack l cs vs) (spread_set marks ws e c k.0 k.1 v) ∙ r.1, r.2)

  -- out of the memory and into it again
  spread_back : (l : List ℕ) → Spread l → spread_out marks (pack l (marked_cells marks)) ≡ l
  spread_back l (ws, e, n) =
      ap (λ (k : List ℕ). spread_out marks (pack k (marked_cells marks))) e ∙ ap (spread_out marks) (pack_spread marks ws n) ∙ sym e

-- ---- the cells that processor b keeps
module _ (p : Plan) (so : Sound p) (b : ℕ) (kept : List ℕ) (are : kept ≡ tabulate (λ c. one (keeps p b c)) p.cells) where
  module _ (m : ℕ) (lo : m < count p) (mine : Keeping p b m) where
    each : (c : ℕ) → In c (held_by p m) → (c < length kept) × (marked_at kept c ≡ true)
    each c i =
        let l = so.held_low m c lo i in
        (omega (arith, l, marks_long kept (keeps p b) p.cells are), mark_is kept (keeps p b) p.cells are c l ∙ mine c i)

    module _ (memory : List ℕ) (long : length memory ≡ length (kept_cells p b)) where
      all_long : length memory ≡ length (marked_cells kept)
      all_long = long ∙ ap length (sym (marked_are kept (keeps p b) p.cells are))

      -- what taking and giving ask for
      pub listed : p.cells ≤ 16384 → (counts cells words : List ℕ) → Counted kept counts → cells ≡ held_by p m → length words ≡ length (held_by p m)
          → Listed kept counts cells memory words
      listed few counts cells words k e w =
          record {
            few = omega (arith, few, marks_long kept (keeps p b) p.cells are);
            counted = k;
            each = λ c i. each c (rw e at i);
            part_long = all_long;
            words_long = w ∙ ap length (sym e);
          }

      -- by the words of the code
      pub taken_in : (cells words memory' : List ℕ) → cells ≡ held_by p m → memory' ≡ pack (unpack (spread_out kept memory) cells words) (marked_cells kept)
          → memory' ≡ pack (unpack (all_of p b memory) (held_by p m) words) (kept_cells p b)
      taken_in cells words memory' e q =
          q ∙ ap (λ (l : List ℕ). pack (unpack l cells words) (marked_cells kept)) (all_is p b kept are memory)
          ∙ ap (λ (cs : List ℕ). pack (unpack (all_of p b memory) cs words) (marked_cells kept)) e
          ∙ ap (pack (unpack (all_of p b memory) (held_by p m) words)) (marked_are kept (keeps p b) p.cells are)

      pub given_out : (cells words : List ℕ) → cells ≡ held_by p m → words ≡ pack (spread_out kept memory) cells → words ≡ pack (all_of p b memory) (held_by p m)
      given_out cells words e q =
          q ∙ ap (λ (l : List ℕ). pack l cells) (all_is p b kept are memory) ∙ ap (pack (all_of p b memory)) e

      -- what is taken in stands in a memory of all cells as if it were taken there
      pub taken_all : (words memory' : List ℕ) → memory' ≡ pack (unpack (all_of p b memory) (held_by p m) words) (kept_cells p b)
          → all_of p b memory' ≡ unpack (all_of p b memory) (held_by p m) words
      taken_all words memory' q =
          let u : List ℕ = unpack (spread_out kept memory) (held_by p m) words in
          let s : unpack (all_of p b memory) (held_by p m) words ≡ unpack (spread_out kept memory) (held_by p m) words =
          ap (λ (l : List ℕ). unpack l (held_by p m) words) (sym (all_is p b kept are memory)) in
          let w : memory' ≡ pack (unpack (spread_out kept memory) (held_by p m) words) (marked_cells kept) =
          q ∙ ap (λ (l : List ℕ). pack l (kept_cells p b)) s ∙ ap (pack u) (sym (marked_are kept (keeps p b) p.cells are)) in
          sym (all_is p b kept are memory') ∙ ap (spread_out kept) w
          ∙ spread_back kept u (spread_unpack kept (held_by p m) words memory all_long each) ∙ sym s

  -- all memories of all cells are as long
  pub all_same : (memory memory' : List ℕ) → length (all_of p b memory') ≡ length (all_of p b memory)
  all_same memory memory' =
      unpack_length (kept_cells p b) memory' (replicate p.cells 0) ∙ sym (unpack_length (kept_cells p b) memory (replicate p.cells 0))

  -- the part of such a memory is the part
  pub part_back : (memory : List ℕ) → length memory ≡ length (kept_cells p b) → pack (all_of p b memory) (kept_cells p b) ≡ memory
  part_back memory long =
      ap (λ (l : List ℕ). pack l (kept_cells p b)) (sym (all_is p b kept are memory))
      ∙ ap (pack (spread_out kept memory)) (sym (marked_are kept (keeps p b) p.cells are))
      ∙ pack_spread kept memory (long ∙ ap length (sym (marked_are kept (keeps p b) p.cells are)))

-- ---- the messages of one of its tiles
module _ (p : Plan) (so : Sound p) (b t : ℕ) (mine : p.processor_of t ≡ b) where
  pub due_kept : (m : ℕ) → In m (dues_of p t) → Keeping p b m
  due_kept m i c j =
      let k = those_in (taker_of p) t (count p) m i in
      test_keep p b c (Keeps.brought m k.0 (ap p.processor_of k.1 ∙ mine) j)

  pub sent_kept : (m : ℕ) → m < count p → sender_of p m ≡ t → Keeping p b m
  sent_kept m lo e c j =
      let f = so.forward m lo in
      let l = so.taker_low m lo in
      test_keep p b c (known_kept p b (sender_of p m) (omega (arith, f, l)) (ap p.processor_of e ∙ mine) c (so.held_known m c lo j))

-- ---- a list of cells, in the front of an array
module _ (n : ℕ) (few : n ≤ 16384) where
  abbrev none : List ℕ
  none = replicate 16384 0

  pub list_room : n ≤ length none
  list_room = omega (arith, few, length-replicate {A = ℕ} 16384 0)

  pub list_lent : length (take n none) ≡ n
  list_lent = front_long n n none refl list_room

  module _ (ys : List ℕ) (long : length ys ≡ length (take n none)) where
    pub list_again : n ≤ length (ys ++ drop n none)
    list_again = omega (arith, same_long n none ys list_room long, list_room)

    pub list_long : length (take n (ys ++ drop n none)) ≡ n
    list_long = front_long n n (ys ++ drop n none) refl list_again

    pub list_is : take n (ys ++ drop n none) ≡ ys
    list_is = front_back n none ys list_room long n refl

-- a found message has few enough words
pub words_few : (x : Nest) (z : Sizes) → Sized x z → (m : ℕ) (r : MessageSlot) → FoundIn z.route x m r → r.words ≤ 16384
words_few x z g m r q =
    omega (arith, q.words, held_few (plan_of z.route x) (sound z.route x g.accepted) m q.low, g.accepted.cells_most)
