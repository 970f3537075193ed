-- Laws of words put in a part and out of it by ranks, and of the memory of all cells that a processor's kept cells, or its own, stand for.
use Prim.Native.Nat.{ℕ, suc, ◌+◌, ◌≤◌, ◌<◌}
use mathlib.Core.Path.{◌≡◌, refl, sym, ap, ◌∙◌}
use mathlib.Core.Bool.{true}
use mathlib.Core.List.{List}
use native.Mathlib.Numerals.{add-one}
use native.Mathlib.Omega.{arith}
use lib.ListN.{length, get_or, drop, set, length-set, drop_of_length-le}
use lib.Seq.{drop-cons, ext_get_or}
use Rattle.base.specs.Tests.{one, keep, tabulate}
use Rattle.base.specs.Lists.{unpack, pack}
use Rattle.base.proofs.Select.{keep_more}
use Rattle.base.proofs.Lists.{pack_length}
use Rattle.base.proofs.Entries.{pack_at, at_in}
use Rattle.machine.specs.Plan.{Plan}
use Rattle.base.proofs.Stored.{Stored, store_start, store_next}
use Rattle.network.specs.Own.{owns, keeps, source_of}
use Rattle.rank_index.specs.Ranks.{marked_at, marked_cells, rank_at, spread_out}
use Rattle.rank_index.proofs.Ranks as ranks
use Rattle.part.specs.Part.{all_of, Listed}

-- the i-th word of the words is cell c's, and stands at place r of the memory: all of them small
pub record Moves (memory words : List ℕ) (i c r : ℕ) : Type 0 where
  pub cell : c < 16384
  pub place : r < length memory
  pub short : length memory ≤ 16384
  pub next : i < length words

module _ (marks : List ℕ) where
  -- ---- words in and out

  module _ (cells memory words : List ℕ) where
    -- what is left gives the same
    pub record Taking (now : List ℕ) (known at i : ℕ) : Type 0 where
      pub long : length now ≡ length memory
      pub low : i ≤ length cells
      pub rank : at ≡ rank_at marks known
      pub is : unpack (spread_out marks now) (drop i cells) (drop i words) ≡ unpack (spread_out marks memory) cells words

    pub take_start : Taking memory 0 0 0
    unfolding keep
    take_start = record { long = refl; low = omega arith; rank = refl; is = refl }

    abbrev given : ℕ → ℕ
    given j = get_or (spread_out marks memory) (get_or cells j 0) 0

    pub record Giving (now : List ℕ) (known at i : ℕ) : Type 0 where
      pub rank : at ≡ rank_at marks known
      pub stored : Stored given words now i

    pub give_start : Giving words 0 0 0
    unfolding keep
    give_start = record { rank = refl; stored = store_start given words }

  module _ (counts cells memory words : List ℕ) (g : Listed marks counts cells memory words) where
    module _ (i c : ℕ) (l : i < length cells) (e : c ≡ get_or cells i 0) where
      pub cell_low : c < length marks
      cell_low = rw e (g.each (get_or cells i 0) (at_in cells i l)).0

      pub cell_marked : marked_at marks c ≡ true
      cell_marked = rw e (g.each (get_or cells i 0) (at_in cells i l)).1

      pub at_room : (r : ℕ) → r ≡ rank_at marks c → r < length memory
      at_room r q = omega (arith, q, g.part_long, ranks.rank_low marks c cell_low cell_marked)

      pub at_next : (r : ℕ) → r ≡ rank_at marks c → r + 1 ≡ rank_at marks (c + 1)
      at_next r q = omega (arith, q, keep_more (marked_at marks) c cell_marked, ap (rank_at marks) (add-one c))

      -- the numbers of a turn, all small
      pub moves : (r : ℕ) → r ≡ rank_at marks c → Moves memory words i c r
      moves r q =
          record {
            cell = omega (arith, cell_low, g.few);
            place = at_room r q;
            short = omega (arith, g.part_long, g.few, ranks.rank_most marks (length marks));
            next = omega (arith, g.words_long);
          }

    module _ (now : List ℕ) (known at i : ℕ) (t : Taking cells memory words now known at i) where
      pub take_next : (c r : ℕ) → i < length cells → c ≡ get_or cells i 0 → r ≡ rank_at marks c
          → Taking cells memory words (set now r (get_or words i 0)) (c + 1) (r + 1) (i + 1)
      unfolding unpack
      take_next c r l e q =
          let w = get_or words i 0 in
          let long : length now ≡ length (marked_cells marks) = t.long ∙ g.part_long in
          let stored : set (spread_out marks now) c w ≡ spread_out marks (set now r w) =
          ranks.spread_set marks now long c (cell_low i c l e) (cell_marked i c l e) w ∙ ap (λ (k : ℕ). spread_out marks (set now k w)) (sym q) in
          let one_more : unpack (spread_out marks now) (drop i cells) (drop i words) ≡ unpack (set (spread_out marks now) c w) (drop (suc i) cells)
          (drop (suc i) words) =
          rw (drop-cons cells i 0 l, drop-cons words i 0 (omega (arith, g.words_long, l)), e) refl in
          record {
            long = length-set now r w ∙ t.long;
            low = omega arith;
            rank = at_next i c l e r q;
            is = ap (λ (k : ℕ). unpack (spread_out marks (set now r w)) (drop k cells) (drop k words)) (add-one i)
                ∙ ap (λ (s : List ℕ). unpack s (drop (suc i) cells) (drop (suc i) words)) (sym stored)
                ∙ sym one_more ∙ t.is;
          }

      pub take_done : length cells ≤ i → now ≡ pack (unpack (spread_out marks memory) cells words) (marked_cells marks)
      unfolding unpack
      take_done h =
          let long : length now ≡ length (marked_cells marks) = t.long ∙ g.part_long in
          sym (ranks.pack_spread marks now long)
          ∙ ap (λ (s : List ℕ). pack s (marked_cells marks))
          (ap (λ (cs : List ℕ). unpack (spread_out marks now) cs (drop i words)) (sym (drop_of_length-le cells h)) ∙ t.is)

    module _ (now : List ℕ) (known at i : ℕ) (t : Giving cells memory words now known at i) where
      pub give_next : (c r : ℕ) → i < length cells → c ≡ get_or cells i 0 → r ≡ rank_at marks c
          → Giving cells memory words (set now i (get_or memory r 0)) (c + 1) (r + 1) (i + 1)
      give_next c r l e q =
          record {
            rank = at_next i c l e r q;
            stored = store_next (given cells memory words) words now i (get_or memory r 0) t.stored (omega (arith, g.words_long, l))
                (ap (λ (k : ℕ). get_or memory k 0) q ∙ sym (ranks.spread_at marks memory g.part_long c (cell_low i c l e) (cell_marked i c l e))
                ∙ ap (λ (k : ℕ). get_or (spread_out marks memory) k 0) e);
          }

      pub give_done : length cells ≤ i → now ≡ pack (spread_out marks memory) cells
      give_done h =
          ext_get_or 0 now (pack (spread_out marks memory) cells) (t.stored.long ∙ g.words_long ∙ sym (pack_length cells (spread_out marks memory)))
          (λ j l.
          t.stored.each j (omega (arith, l, h, t.stored.long, g.words_long))
          ∙ sym (pack_at cells (spread_out marks memory) j (omega (arith, l, t.stored.long, g.words_long))))

-- ---- a processor's kept cells, and its own

pub all_is : (p : Plan) (b : ℕ) (marks : List ℕ) → marks ≡ tabulate (λ c. one (keeps p b c)) p.cells → (ws : List ℕ)
    → spread_out marks ws ≡ all_of p b ws
all_is p b marks is ws = ranks.spread_is marks (keeps p b) p.cells is ws

pub source_is : (p : Plan) (b : ℕ) (marks : List ℕ) → marks ≡ tabulate (λ c. one (owns p b c)) p.cells → (ws : List ℕ)
    → spread_out marks ws ≡ source_of p b ws
unfolding source_of
source_is p b marks is ws = ranks.spread_is marks (owns p b) p.cells is ws
