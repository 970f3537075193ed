-- Laws of ranks, the places of marked cells among all marked: a cell's word in the part, cells side by side, a word stored, words spread out and back.
use Prim.Native.Nat.{ℕ, zero, suc, ◌+◌, ◌≤◌, ◌<◌}
use mathlib.Core.Path.{◌≡◌, refl, sym, ap, ◌∙◌}
use mathlib.Core.Bool.{Bool, true, false}
use mathlib.Core.List.{List}
use native.Mathlib.Decide.{ℕ_discrete}
use native.Mathlib.Omega.{arith}
use lib.ListN.{length, get_or, replicate, set, length-set, length-replicate, get_or-replicate}
use lib.Seq.{get_or-set_same, get_or-set_other, ext_get_or}
use lib.Dec.{eqb}
use borrow.Author.Tests.{eq-eqb, ne_eqb}
use Rattle.base.specs.Tests.{one, keep, tabulate}
use Rattle.base.specs.Lists.{unpack, pack}
use Rattle.base.proofs.Tests.{one_true, one_false, length_tabulate, tabulate_at, never_both}
use Rattle.base.proofs.Lists.{AllBelow, unpack_length, pack_length}
use Rattle.base.proofs.Entries.{pack_at, unpack_at, unpack_other}
use Rattle.base.proofs.Select.{keep_in, keep_rising, keep_more, keep_few, keep_mono, keep_lt, keep_at, keep_same}
use Rattle.rank_index.specs.Ranks.{marked_at, marked_cells, rank_at, spread_out}

module _ (marks : List ℕ) where
  abbrev f : ℕ → Bool
  f = marked_at marks

  abbrev all : List ℕ
  all = marked_cells marks

  -- ---- ranks

  pub rank_most : (c : ℕ) → rank_at marks c ≤ c
  rank_most c = keep_few f c

  pub rank_mono : (c d : ℕ) → c ≤ d → rank_at marks c ≤ rank_at marks d
  rank_mono c d h = keep_mono f d c h

  -- so many marked cells side by side have ranks side by side
  pub rank_beside : (c k : ℕ) → ((i : ℕ) → i < k → marked_at marks (c + i) ≡ true) → rank_at marks (c + k) ≡ rank_at marks c + k
  rank_beside c zero h = let e : c + 0 ≡ c = omega arith in rw e (omega arith)
  rank_beside c (suc k) h =
      let e : c + suc k ≡ suc (c + k) = omega arith in
      rw e (omega (arith, keep_more f (c + k) (h k (omega arith)), rank_beside c k (λ i l. h i (omega arith))))

  module _ (c : ℕ) (low : c < length marks) (is : marked_at marks c ≡ true) where
    -- a marked cell has a word of the part, and that word is the cell's
    pub rank_low : rank_at marks c < length (marked_cells marks)
    rank_low = keep_lt f (length marks) c low is

    pub rank_cell : get_or (marked_cells marks) (rank_at marks c) 0 ≡ c
    rank_cell = keep_at f (length marks) c low is

  pub rank_one : (c d : ℕ) → c < length marks → d < length marks → marked_at marks c ≡ true → marked_at marks d ≡ true
      → rank_at marks c ≡ rank_at marks d → c ≡ d
  rank_one c d l k e q r = sym (rank_cell c l e) ∙ ap (λ (i : ℕ). get_or all i 0) r ∙ rank_cell d k q

  -- ---- words spread out

  pub spread_long : (ws : List ℕ) → length (spread_out marks ws) ≡ length marks
  spread_long ws = unpack_length all ws (replicate (length marks) 0) ∙ length-replicate (length marks) 0

  abbrev none : List ℕ
  none = replicate (length marks) 0

  below : AllBelow (length none) all
  below c h = rw (length-replicate {A = ℕ} (length marks) 0) (keep_in f (length marks) c h).0

  pub spread_none : (ws : List ℕ) (c : ℕ) → c < length marks → marked_at marks c ≡ false → get_or (spread_out marks ws) c 0 ≡ 0
  spread_none ws c l e =
      unpack_other all ws (replicate (length marks) 0) c (λ i. never_both (keep_in f (length marks) c i).1 e)
      ∙ get_or-replicate (length marks) c 0 0 l

  module _ (ws : List ℕ) (long : length ws ≡ length (marked_cells marks)) where
    pub spread_at : (c : ℕ) → c < length marks → marked_at marks c ≡ true → get_or (spread_out marks ws) c 0 ≡ get_or ws (rank_at marks c) 0
    spread_at c l e =
        ap (λ (i : ℕ). get_or (spread_out marks ws) i 0) (sym (rank_cell c l e))
        ∙ unpack_at all ws (replicate (length marks) 0) (rank_at marks c) (keep_rising f (length marks)) long below (rank_low c l e)

    -- out of it again
    pub pack_spread : pack (spread_out marks ws) (marked_cells marks) ≡ ws
    pack_spread =
        ext_get_or 0 (pack (spread_out marks ws) all) ws (pack_length all (spread_out marks ws) ∙ sym long)
        (λ j l. at j (omega (arith, l, pack_length all (spread_out marks ws))))
      where
        at : (j : ℕ) → j < length all → get_or (pack (spread_out marks ws) all) j 0 ≡ get_or ws j 0
        at j l =
            pack_at all (spread_out marks ws) j l
            ∙ unpack_at all ws (replicate (length marks) 0) j (keep_rising f (length marks)) long below l

  -- a word stored at a marked cell, and at its rank
  module _ (ws : List ℕ) (long : length ws ≡ length (marked_cells marks)) (c : ℕ) (low : c < length marks) (is : marked_at marks c ≡ true) (v : ℕ) where
    abbrev new : List ℕ
    new = set ws (rank_at marks c) v

    pub set_long : length (set ws (rank_at marks c) v) ≡ length (marked_cells marks)
    set_long = length-set ws (rank_at marks c) v ∙ long

    pub spread_set : set (spread_out marks ws) c v ≡ spread_out marks (set ws (rank_at marks c) v)
    spread_set =
        ext_get_or 0 (set (spread_out marks ws) c v) (spread_out marks new)
        (length-set (spread_out marks ws) c v ∙ spread_long ws ∙ sym (spread_long new))
        (λ j l. at j (omega (arith, l, length-set (spread_out marks ws) c v, spread_long ws)) (ℕ_discrete j c) (marked_at marks j) refl)
      where
        at : (j : ℕ) → j < length marks → Dec (j ≡ c) → (t : Bool) → marked_at marks j ≡ t
            → get_or (set (spread_out marks ws) c v) j 0 ≡ get_or (spread_out marks new) j 0
        at j l (yes e) t q =
            ap (λ (i : ℕ). get_or (set (spread_out marks ws) c v) i 0) e
            ∙ get_or-set_same (spread_out marks ws) c v 0 (omega (arith, low, spread_long ws))
            ∙ sym (get_or-set_same ws (rank_at marks c) v 0 (omega (arith, rank_low c low is, long)))
            ∙ sym (spread_at new set_long c low is)
            ∙ ap (λ (i : ℕ). get_or (spread_out marks new) i 0) (sym e)
        at j l (no n) true q =
            get_or-set_other (spread_out marks ws) c j v 0 n ∙ spread_at ws long j l q
            ∙ sym (get_or-set_other ws (rank_at marks c) (rank_at marks j) v 0 (λ r. n (rank_one j c l low q is r)))
            ∙ sym (spread_at new set_long j l q)
        at j l (no n) false q = get_or-set_other (spread_out marks ws) c j v 0 n ∙ spread_none ws j l q ∙ sym (spread_none new j l q)

    pub pack_set : pack (set (spread_out marks ws) c v) (marked_cells marks) ≡ set ws (rank_at marks c) v
    pack_set = ap (λ (l : List ℕ). pack l all) spread_set ∙ pack_spread new set_long

-- ---- marks that are a test's

module _ (marks : List ℕ) (g : ℕ → Bool) (n : ℕ) (is : marks ≡ tabulate (λ c. one (g c)) n) where
  pub marks_long : length marks ≡ n
  marks_long = ap length is ∙ length_tabulate (λ c. one (g c)) n

  pub mark_is : (c : ℕ) → c < n → marked_at marks c ≡ g c
  mark_is c l = ap (λ (i : ℕ). eqb i 1) (ap (λ (ws : List ℕ). get_or ws c 0) is ∙ tabulate_at (λ c. one (g c)) n c l) ∙ said (g c) refl
    where
      said : (t : Bool) → g c ≡ t → eqb (one (g c)) 1 ≡ g c
      said true e = eq-eqb (one (g c)) 1 (one_true e) ∙ sym e
      said false e = ne_eqb (one (g c)) 1 (λ q. omega (arith, q, one_false e)) ∙ sym e

  pub rank_is : (c : ℕ) → c ≤ n → rank_at marks c ≡ length (keep g c)
  rank_is c h = ap length (keep_same (marked_at marks) g c (λ i l. mark_is i (omega arith)))

  pub marked_are : marked_cells marks ≡ keep g n
  marked_are = keep_same (marked_at marks) g (length marks) (λ i l. mark_is i (omega (arith, l, marks_long))) ∙ ap (keep g) marks_long

  pub spread_is : (ws : List ℕ) → spread_out marks ws ≡ unpack (replicate n 0) (keep g n) ws
  spread_is ws =
      ap (λ (cs : List ℕ). unpack (replicate (length marks) 0) cs ws) marked_are ∙ ap (λ (k : ℕ). unpack (replicate k 0) (keep g n) ws) marks_long
