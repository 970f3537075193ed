-- Laws of rows in a part: how far back a distance reads there, and that words stored there are those stored in a memory of all cells.
use Rattle.std.specs.Prelude.{◌≡◌, ℕ, zero, suc, ◌+◌, ◌-◌, ◌*◌, ◌/◌, ◌%◌, ◌^◌, ◌<◌, ◌≤◌, Bool, true, false, ◌⊎◌, List, [], ◌∷◌, length, get_or, set}
use mathlib.Core.Path.{refl, sym, ap, ◌∙◌}
use mathlib.Core.Logic.{inl, inr}
use native.Mathlib.Nat.{eq-or-lt_of_le}
use native.Mathlib.Omega.{arith}
use lib.ListN.{length-set}
use lib.Seq.{get_or-set_same, get_or-set_other}
use Rattle.base.specs.Tests.{pick, sum, tabulate}
use Rattle.base.specs.Lists.{store_all}
use Rattle.base.proofs.Tests.{sum_same, pick_false}
use Rattle.base.proofs.Lists.{store_length}
use Rattle.nest.specs.declared.Interval.{Interval}
use Rattle.layout.specs.CellRows.{row_of}
use Rattle.kernels.proofs.Orders.{store_append}
use Rattle.values.specs.shaped_values.Rows.{between, Overlaps, mixed_word}
use Rattle.values.proofs.shaped_values.Runs.{in_run, run_in}
use Rattle.rank_index.specs.Ranks.{marked_at, marked_cells, rank_at, spread_out}
use Rattle.rank_index.proofs.Ranks.{rank_mono, rank_beside, spread_at, spread_set}
use Rattle.part_calls.specs.tile.Rows.{KeptRow, KeptBehind, Behind, Behinds}

-- ---- how far back: told at the first cell where the distance reads

module _ (marks : List ℕ) (c a few back : ℕ) (s k : Interval) (cut : Overlaps s a few k) where
  in_cut : (y : ℕ) → y < few → between s.from s.to (a + y) ≡ true → (k.from ≤ a + y) × (a + y < k.to)
  in_cut y l t = run_in k.from k.to (a + y) (cut.has (a + y) (omega arith) (omega arith) ∙ t)

  -- it reads at none
  pub behind_none : k.to ≤ k.from → Behind marks c a few s.from s.to back 0
  behind_none h = record { is = λ y l t. absurd (let r = in_cut y l t in omega (arith, r.0, r.1)) }

  module _ (counts : List ℕ) (first : ℕ) (row : KeptRow marks counts first c a few) (kept : KeptBehind marks c a few s.from s.to back)
      (some : k.from < k.to) where
    abbrev skip : ℕ
    skip = k.from - a

    pub skip_low : skip < few
    skip_low = omega (arith, cut.least, cut.most)

    in_run_at : (y : ℕ) → skip ≤ y → a + y < k.to → between s.from s.to (a + y) ≡ true
    in_run_at y h l =
        sym (cut.has (a + y) (omega arith) (omega (arith, cut.most))) ∙ in_run k.from k.to (a + y) (omega (arith, cut.least)) l

    read_at : (y : ℕ) → skip ≤ y → a + y < k.to → (back ≤ c + y) × (marked_at marks (c + y - back) ≡ true)
    read_at y h l = kept.at y (omega (arith, cut.most)) (in_run_at y h l)

    pub back_low : back ≤ c + skip
    back_low = (read_at skip (omega arith) (omega (arith, cut.least))).0

    pub near_row : c + skip ≤ length marks
    near_row = omega (arith, skip_low, row.low)

    pub near_place : first + skip ≡ rank_at marks (c + skip)
    near_place = omega (arith, rank_beside marks c skip (λ i l. row.each i (omega (arith, skip_low))), row.place)

    pub behind_some : (near : ℕ) → near + rank_at marks (c + skip - back) ≡ rank_at marks (c + skip) → Behind marks c a few s.from s.to back near
    behind_some near e = record { is = λ y l t. let q = in_cut y l t in at y l q.0 q.1 }
      where
        side : (y : ℕ) → a + y < k.to → (i : ℕ) → i < y - skip → marked_at marks (c + skip - back + i) ≡ true
        side y m i o =
            let z : c + skip - back + i ≡ c + (skip + i) - back = omega (arith, back_low) in
            rw z (read_at (skip + i) (omega arith) (omega (arith, o, m))).1

        at : (y : ℕ) → y < few → k.from ≤ a + y → a + y < k.to → near + rank_at marks (c + y - back) ≡ rank_at marks c + y
        at y l h m =
            let z : c + y - back ≡ c + skip - back + (y - skip) = omega (arith, back_low, cut.least) in
            rw z (omega (arith, rank_beside marks (c + skip - back) (y - skip) (side y m), near_place, e, row.place, cut.least))

-- the first e distances
pub record Filling (marks : List ℕ) (c a few n : ℕ) (firsts ends back near : List ℕ) (e : ℕ) : Type 0 where
  pub low : e ≤ n
  pub long : length near ≡ 8
  pub each : (d : ℕ) → d < e → Behind marks c a few (get_or firsts d 0) (get_or ends d 0) (get_or back d 0) (get_or near d 0)

module _ (marks : List ℕ) (c a few n : ℕ) (firsts ends back : List ℕ) where
  pub filling_none : (near : List ℕ) → length near ≡ 8 → Filling marks c a few n firsts ends back near 0
  filling_none near h = record { low = omega arith; long = h; each = λ d l. absurd (omega arith) }

  module _ (near : List ℕ) (e : ℕ) (p : Filling marks c a few n firsts ends back near e) where
    pub filling_more : (v : ℕ) → e < n → n ≤ 8 → Behind marks c a few (get_or firsts e 0) (get_or ends e 0) (get_or back e 0) v
        → Filling marks c a few n firsts ends back (set near e v) (e + 1)
    filling_more v h m r =
        record { low = omega arith; long = length-set near e v ∙ p.long; each = λ d l. go d (eq-or-lt_of_le (below d l)) }
      where
        below : (d : ℕ) → d < e + 1 → d ≤ e
        below d l = omega arith

        go : (d : ℕ) → (d ≡ e) ⊎ (d < e) → Behind marks c a few (get_or firsts d 0) (get_or ends d 0) (get_or back d 0) (get_or (set near e v) d 0)
        go d (inl q) = rw (q, get_or-set_same near e v 0 (omega (arith, p.long))) r
        go d (inr q) = rw (get_or-set_other near e d v 0 (λ z. omega arith)) (p.each d q)

    pub filling_end : n ≤ e → Behinds marks c a few n firsts ends back near
    filling_end h = record { each = λ d l. p.each d (omega (arith, p.low)) }

-- ---- words stored in a part: cells side by side, all kept

module _ (marks : List ℕ) (c few : ℕ) (low : c + few ≤ length marks) (row : (y : ℕ) → y < few → marked_at marks (c + y) ≡ true) where
  pub ranks_beside : (y : ℕ) → y ≤ few → rank_at marks (c + y) ≡ rank_at marks c + y
  ranks_beside y h = rank_beside marks c y (λ i l. row i (omega arith))

  pub row_room : rank_at marks c + few ≤ length (marked_cells marks)
  row_room = omega (arith, ranks_beside few (omega arith), rank_mono marks (c + few) (length marks) low)

  pub word_at : (ws : List ℕ) → length ws ≡ length (marked_cells marks) → (y : ℕ) → y < few
      → get_or ws (rank_at marks c + y) 0 ≡ get_or (spread_out marks ws) (c + y) 0
  word_at ws e y l =
      ap (λ (i : ℕ). get_or ws i 0) (sym (ranks_beside y (omega arith))) ∙ sym (spread_at marks ws e (c + y) (omega arith) (row y l))

  module _ (f g : List ℕ → ℕ → ℕ)
      (same : (k : List ℕ) → length k ≡ length (marked_cells marks) → (y : ℕ) → y < few → g k (rank_at marks c + y) ≡ f (spread_out marks k) (c + y)) where
    pub in_place : (ws : List ℕ) → length ws ≡ length (marked_cells marks) → (m : ℕ) → m ≤ few
        → spread_out marks (store_all g ws (row_of (rank_at marks c) m)) ≡ store_all f (spread_out marks ws) (row_of c m)
    unfolding store_all tabulate
    in_place ws e zero h = refl
    in_place ws e (suc m) h =
        let k : List ℕ = store_all g ws (row_of (rank_at marks c) m) in
        let long : length k ≡ length (marked_cells marks) = store_length g (row_of (rank_at marks c) m) ws ∙ e in
        ap (spread_out marks) (store_append g ws (row_of (rank_at marks c) m) ((rank_at marks c + m) ∷ []))
        ∙ ap (λ (i : ℕ). spread_out marks (set k i (g k (rank_at marks c + m)))) (sym (ranks_beside m (omega arith)))
        ∙ sym (spread_set marks k long (c + m) (omega arith) (row m (omega arith)) (g k (rank_at marks c + m)))
        ∙ ap (set (spread_out marks k) (c + m)) (same k long m (omega arith))
        ∙ ap (λ (l : List ℕ). set l (c + m) (f l (c + m))) (in_place ws e m (omega arith))
        ∙ sym (store_append f (spread_out marks ws) (row_of c m) ((c + m) ∷ []))

-- ---- the word of a cell, from the part and from all cells

module _ (kept owned : List ℕ) (c a few : ℕ) (low : c + few ≤ length kept) (own_low : c + few ≤ length owned)
    (own : (y : ℕ) → y < few → marked_at owned (c + y) ≡ true) (n : ℕ) (firsts ends back near : List ℕ)
    (behinds : Behinds kept c a few n firsts ends back near)
    (read : (e : ℕ) → e < n → KeptBehind kept c a few (get_or firsts e 0) (get_or ends e 0) (get_or back e 0)) where
  pub word_in : (weights : List ℕ) (boundary shift : ℕ) (source k : List ℕ) → length source ≡ length (marked_cells owned)
      → length k ≡ length (marked_cells kept) → (y : ℕ) → y < few
      → mixed_word n firsts ends near weights boundary shift source (rank_at owned c + y) (a + y) k (rank_at kept c + y)
      ≡ mixed_word n firsts ends back weights boundary shift (spread_out owned source) (c + y) (a + y) (spread_out kept k) (c + y)
  unfolding mixed_word
  word_in weights boundary shift source k g h y l =
      ap (λ (w : ℕ). (w + sum (λ e. get_or weights e 0 * pick (reads e) (get_or k (rank_at kept c + y - get_or near e 0) 0) boundary) n) / 2 ^ shift % 4294967296)
      (word_at owned c few own_low own source g y l)
      ∙ ap (λ (w : ℕ). (get_or (spread_out owned source) (c + y) 0 + w) / 2 ^ shift % 4294967296)
      (sum_same _ _ n (λ e o. ap (λ (w : ℕ). get_or weights e 0 * w) (word e o (reads e) refl)))
    where
      reads : ℕ → Bool
      reads e = between (get_or firsts e 0) (get_or ends e 0) (a + y)

      word : (e : ℕ) → e < n → (t : Bool) → between (get_or firsts e 0) (get_or ends e 0) (a + y) ≡ t
          → pick (between (get_or firsts e 0) (get_or ends e 0) (a + y)) (get_or k (rank_at kept c + y - get_or near e 0) 0) boundary
          ≡ pick (between (get_or firsts e 0) (get_or ends e 0) (a + y)) (get_or (spread_out kept k) (c + y - get_or back e 0) 0) boundary
      word e o true q =
          let z : rank_at kept c + y - get_or near e 0 ≡ rank_at kept (c + y - get_or back e 0) = omega (arith, (behinds.each e o).is y l q) in
          ap (λ (w : ℕ). pick (between (get_or firsts e 0) (get_or ends e 0) (a + y)) w boundary)
          (ap (λ (i : ℕ). get_or k i 0) z ∙ sym (spread_at kept k h (c + y - get_or back e 0) (omega arith) ((read e o).at y l q).1))
      word e o false q = pick_false _ _ _ q ∙ sym (pick_false _ _ _ q)
