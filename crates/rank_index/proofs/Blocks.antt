-- Laws of the counts before blocks: the marks of a part of the cells, the blocks passed, a cell's rank by them.
use Prim.Native.Nat.{ℕ, zero, suc, ◌+◌, ◌*◌, ◌-◌, ◌/◌, ◌≤◌, ◌<◌}
use mathlib.Core.Path.{◌≡◌, refl, sym, ap, ◌∙◌}
use mathlib.Core.Logic.{◌⊎◌, inl, inr}
use mathlib.Core.Bool.{Bool, true, false}
use mathlib.Core.List.{List}
use native.Mathlib.Nat.{eq-or-lt_of_le}
use native.Mathlib.Omega.{arith}
use lib.ListN.{length, get_or, take, drop, set, length-set, length-drop}
use lib.Seq.{get_or-set_same, get_or-set_other, get_or-take, get_or-drop, length-take-le}
use lib.Dec.{eqb}
use Rattle.base.specs.Tests.{keep}
use Rattle.base.proofs.Select.{keep_more, keep_none}
use Rattle.rank_index.specs.Ranks.{marked_at, rank_at, Counted}
use Rattle.rank_index.proofs.Ranks as ranks

module _ (marks : List ℕ) where
  -- ---- the marks of a part

  past : (some : List ℕ) (a k : ℕ) → ((i : ℕ) → i < k → get_or some i 0 ≡ get_or marks (a + i) 0) → rank_at marks (a + k) ≡ rank_at marks a + rank_at some k
  unfolding keep
  past some a zero h = let e : a + 0 ≡ a = omega arith in rw e (omega arith)
  past some a (suc k) h =
      let e : a + suc k ≡ suc (a + k) = omega arith in
      rw e (go (past some a k (λ i l. h i (omega arith))) (marked_at some k) refl)
    where
      same : marked_at some k ≡ marked_at marks (a + k)
      same = ap (λ (v : ℕ). eqb v 1) (h k (omega arith))

      go : rank_at marks (a + k) ≡ rank_at marks a + rank_at some k → (t : Bool) → marked_at some k ≡ t
          → rank_at marks (suc (a + k)) ≡ rank_at marks a + rank_at some (suc k)
      go ih true q = omega (arith, ih, keep_more (marked_at marks) (a + k) (sym same ∙ q), keep_more (marked_at some) k q)
      go ih false q =
          omega (arith, ih, ap length (keep_none (marked_at marks) (a + k) (sym same ∙ q)), ap length (keep_none (marked_at some) k q))

  module _ (a b : ℕ) (up : a ≤ b) (room : b ≤ length marks) where
    abbrev some : List ℕ
    some = take (b - a) (drop a marks)

    pub some_long : length some ≡ b - a
    some_long = length-take-le (b - a) (drop a marks) (omega (arith, up, room, length-drop a marks))

    -- as code counts them
    pub rank_some : rank_at marks b ≡ rank_at marks a + rank_at (take (b - a) (drop a marks)) (length (take (b - a) (drop a marks)))
    rank_some =
        let e : b ≡ a + (b - a) = omega arith in
        ap (rank_at marks) e
        ∙ past some a (b - a) (λ i l. get_or-take (b - a) (drop a marks) i 0 l ∙ get_or-drop a marks i 0)
        ∙ ap (λ (k : ℕ). rank_at marks a + rank_at some k) (sym some_long)

  -- ---- the counts

  -- of the blocks before q the counts are told, and n is that of q
  pub record Filled (counts : List ℕ) (q n : ℕ) : Type 0 where
    pub long : length counts ≡ 257
    pub low : q * 64 ≤ length marks
    pub is : n ≡ rank_at marks (q * 64)
    pub each : (j : ℕ) → j < q → get_or counts j 0 ≡ rank_at marks (j * 64)

  pub fill_start : (counts : List ℕ) → length counts ≡ 257 → Filled counts 0 0
  unfolding keep
  fill_start counts h = record { long = h; low = omega arith; is = refl; each = λ j l. absurd (omega arith) }

  module _ (counts : List ℕ) (q n : ℕ) (g : Filled counts q n) (few : length marks ≤ 16384) where
    pub count_small : n ≤ 16384
    count_small = omega (arith, g.is, g.low, ranks.rank_most marks (q * 64), few)

    told : (j : ℕ) → j ≤ q → get_or (set counts q n) j 0 ≡ rank_at marks (j * 64)
    told j h = go (eq-or-lt_of_le h)
      where
        go : (j ≡ q) ⊎ (j < q) → get_or (set counts q n) j 0 ≡ rank_at marks (j * 64)
        go (inl e) = rw e (get_or-set_same counts q n 0 (omega (arith, g.long, g.low, few)) ∙ g.is)
        go (inr l) = get_or-set_other counts q j n 0 (λ e. omega arith) ∙ g.each j l

    pub fill_next : (v : ℕ) → q < length marks / 64
        → v ≡ rank_at (take (q * 64 + 64 - q * 64) (drop (q * 64) marks)) (length (take (q * 64 + 64 - q * 64) (drop (q * 64) marks)))
        → Filled (set counts q n) (q + 1) (n + v)
    fill_next v l e =
        let z : (q + 1) * 64 ≡ q * 64 + 64 = omega arith in
        let k : q * 64 + 64 ≤ length marks = omega (arith, l) in
        record {
          long = length-set counts q n ∙ g.long;
          low = omega (arith, k);
          is = omega (arith, g.is, e, ap (rank_at marks) z, rank_some (q * 64) (q * 64 + 64) (omega arith) k);
          each = λ j h. told j (omega arith);
        }

    pub fill_done : length marks / 64 ≤ q → Counted marks (set counts q n)
    fill_done h = record { long = length-set counts q n ∙ g.long; at = λ j k. told j (omega (arith, h, k)) }

  -- ---- a cell's rank

  pub rank_by_block : (counts : List ℕ) → Counted marks counts → (c v : ℕ) → c ≤ length marks
      → v ≡ rank_at (take (c - c / 64 * 64) (drop (c / 64 * 64) marks)) (length (take (c - c / 64 * 64) (drop (c / 64 * 64) marks)))
      → get_or counts (c / 64) 0 + v ≡ rank_at marks c
  rank_by_block counts g c v h e =
      let up : c / 64 * 64 ≤ c = omega arith in
      omega (arith, e, g.at (c / 64) (omega (arith, up, h)), rank_some (c / 64 * 64) c up h)

  module _ (counts : List ℕ) (g : Counted marks counts) (few : length marks ≤ 16384) (c : ℕ) (h : c ≤ length marks) where
    pub block_low : c / 64 < 257
    block_low = omega (arith, few, h)

    pub count_low : get_or counts (c / 64) 0 ≤ 16384
    count_low =
        let up : c / 64 * 64 ≤ c = omega arith in
        omega (arith, few, h, up, g.at (c / 64) (omega (arith, up, h)), ranks.rank_most marks (c / 64 * 64))
