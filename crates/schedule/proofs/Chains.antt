-- Messages chained by the tile at an end: a link more, and a walk along a tile's messages.
use Rattle.std.specs.Prelude.{◌≡◌, ℕ, zero, suc, ◌+◌, ◌-◌, ◌<◌, ◌≤◌, ◌≢◌, ◌⊎◌, List, [], ◌∷◌, length, get_or, set}
use mathlib.Core.Path.{refl, sym, ap, ◌∙◌, subst}
use mathlib.Core.Logic.{inl, inr}
use native.Mathlib.Nat.{eq-or-lt_of_le}
use native.Mathlib.Decide.{dec_lt, ℕ_discrete}
use native.Mathlib.Omega.{arith}
use lib.ListN.{length-set, get_or-eq_default}
use lib.Seq.{get_or-set_same, get_or-set_other}
use Rattle.base.specs.Tests.{those, keep}
use Rattle.base.proofs.Select.{rank_in, those_more, those_none, those_at, those_lt, those_mono, at_low, at_is, at_rank}
use Rattle.schedule.specs.Index.{ChainedFrom, Chained}

-- a list's element, whatever stands for none
at_any : (l : List ℕ) (j a b : ℕ) → j < length l → get_or l j a ≡ get_or l j b
at_any [] j a b h = absurd (omega arith)
at_any (x ∷ l) zero a b h = refl
at_any (x ∷ l) (suc j) a b h = at_any l j a b (omega arith)

module _ (end : ℕ → ℕ) (n : ℕ) where
  -- ---- from the last message on

  pub chain_start : (chain : List ℕ) (k : ℕ) → k ≡ n → length chain ≡ 8192 → ((t : ℕ) → t < 1024 → get_or chain (7168 + t) 0 ≡ k) → ChainedFrom end n k chain
  chain_start chain k q l e =
      subst (λ (i : ℕ). ChainedFrom end n i chain) (sym q) (record {
        long = l;
        first = λ t h. e t h ∙ q ∙ sym (get_or-eq_default (those end t n) n (omega arith));
        next = λ i a b. absurd (omega arith);
      })

  module _ (chain : List ℕ) (m : ℕ) (c : ChainedFrom end n (suc m) chain) (low : suc m ≤ n) (few : n ≤ 7168) (tile : end m < 1024) where
    abbrev linked : List ℕ
    linked = set (set chain m (get_or chain (7168 + end m) 0)) (7168 + end m) m

    -- what is not written
    kept : (i : ℕ) → i ≢ m → i ≢ 7168 + end m → get_or linked i 0 ≡ get_or chain i 0
    kept i a b = get_or-set_other (set chain m (get_or chain (7168 + end m) 0)) (7168 + end m) i m 0 b ∙ get_or-set_other chain m i (get_or chain (7168 + end m) 0) 0 a

    first_is : (t : ℕ) → t < 1024 → get_or linked (7168 + t) 0 ≡ get_or (those end t n) (length (those end t m)) n
    first_is t h = go (ℕ_discrete (end m) t)
      where
        go : Dec (end m ≡ t) → get_or linked (7168 + t) 0 ≡ get_or (those end t n) (length (those end t m)) n
        go (yes e) =
            ap (λ (u : ℕ). get_or linked (7168 + u) 0) (sym e)
            ∙ get_or-set_same (set chain m (get_or chain (7168 + end m) 0)) (7168 + end m) m 0 (rw length-set (omega (arith, c.long)))
            ∙ sym (those_at end t n m (omega arith) e)
            ∙ at_any (those end t n) (length (those end t m)) 0 n (those_lt end t n m (omega arith) e)
        go (no d) =
            kept (7168 + t) (λ z. omega arith) (λ z. d (omega arith))
            ∙ c.first t h
            ∙ ap (λ (l : List ℕ). get_or (those end t n) (length l) n) (those_none end t m d)

    next_is : (k : ℕ) → m ≤ k → k < n → get_or linked k 0 ≡ get_or (those end (end k) n) (suc (length (those end (end k) k))) n
    next_is k a b = go (eq-or-lt_of_le a)
      where
        own : get_or linked m 0 ≡ get_or (those end (end m) n) (suc (length (those end (end m) m))) n
        own =
            get_or-set_other (set chain m (get_or chain (7168 + end m) 0)) (7168 + end m) m m 0 (λ z. omega arith)
            ∙ get_or-set_same chain m (get_or chain (7168 + end m) 0) 0 (omega (arith, c.long))
            ∙ c.first (end m) tile
            ∙ ap (λ (i : ℕ). get_or (those end (end m) n) i n) (those_more end (end m) m refl)

        go : (m ≡ k) ⊎ (m < k) → get_or linked k 0 ≡ get_or (those end (end k) n) (suc (length (those end (end k) k))) n
        go (inl e) = rw (← e) own
        go (inr h) = kept k (λ z. omega arith) (λ z. omega arith) ∙ c.next k (omega arith) b

    chain_linked : ChainedFrom end n m linked
    chain_linked = record { long = simp length-set c.long; first = first_is; next = next_is }

  pub chain_more : (chain : List ℕ) (k : ℕ) → ChainedFrom end n k chain → 0 < k → k ≤ n → n ≤ 7168 → (tile : ℕ) → tile ≡ end (k - 1) → tile < 1024
      → (after : List ℕ) → after ≡ set (set chain (k - 1) (get_or chain (7168 + tile) 0)) (7168 + tile) (k - 1) → ChainedFrom end n (k - 1) after
  chain_more chain zero c h low few tile e t after a = absurd (omega arith)
  chain_more chain (suc m) c h low few tile e t after a =
      let z : suc m - 1 ≡ m = omega arith in
      let q : tile ≡ end m = rw z at e in
      rw (a, z, q) (chain_linked chain m c low few (rw q at t))

  pub chain_first : (chain : List ℕ) (t v : ℕ) → Chained end n chain → t < 1024 → v ≡ get_or chain (7168 + t) 0 → v ≡ get_or (those end t n) 0 n
  unfolding those keep
  chain_first chain t v c h e = e ∙ c.first t h

  pub chain_next : (chain : List ℕ) (t m v : ℕ) → Chained end n chain → m < n → end m ≡ t → v ≡ get_or chain m 0 → v ≡ get_or (those end t n) (suc (rank_in end m)) n
  chain_next chain t m v c h q e = e ∙ c.next m (omega arith) h ∙ ap (λ (u : ℕ). get_or (those end u n) (suc (rank_in end m)) n) q

  -- ---- a walk: m is the j-th message of tile t, or n where there is none
  module _ (t j m : ℕ) (at : m ≡ get_or (those end t n) j n) where
    pub walk_low : m < n → j < length (those end t n)
    walk_low h = go (dec_lt j (length (those end t n)))
      where
        go : Dec (j < length (those end t n)) → j < length (those end t n)
        go (yes l) = l
        go (no d) = absurd (omega (arith, at, get_or-eq_default (those end t n) n {n = j} (omega arith)))

    pub walk_over : n ≤ m → length (those end t n) ≤ j
    walk_over h = go (dec_lt j (length (those end t n)))
      where
        go : Dec (j < length (those end t n)) → length (those end t n) ≤ j
        go (yes l) = absurd (omega (arith, at, at_any (those end t n) j n 0 l, at_low end t n j l))
        go (no d) = omega arith

    module _ (h : m < n) where
      low : j < length (those end t n)
      low = walk_low h

      pub walk_at : m ≡ get_or (those end t n) j 0
      walk_at = at ∙ at_any (those end t n) j n 0 low

      pub walk_tile : end m ≡ t
      walk_tile = ap end walk_at ∙ at_is end t n j low

      rank_is : rank_in end m ≡ j
      rank_is = ap (rank_in end) walk_at ∙ at_rank end t n j low

      rank_at : length (those end t m) ≡ j
      rank_at = ap (λ (u : ℕ). length (those end u m)) (sym walk_tile) ∙ rank_is

      module _ (v : ℕ) (e : v ≡ get_or (those end t n) (suc (rank_in end m)) n) where
        pub walk_next : v ≡ get_or (those end t n) (j + 1) n
        walk_next =
            let k : suc j ≡ j + 1 = omega arith in
            e ∙ ap (λ (i : ℕ). get_or (those end t n) (suc i) n) rank_is ∙ ap (λ (i : ℕ). get_or (those end t n) i n) k

        pub walk_more : m < v
        walk_more = go (dec_lt (j + 1) (length (those end t n)))
          where
            go : Dec (j + 1 < length (those end t n)) → m < v
            go (no d) = omega (arith, walk_next, get_or-eq_default (those end t n) n {n = j + 1} (omega arith))
            go (yes l) = after (dec_lt m v)
              where
                v_is : v ≡ get_or (those end t n) (j + 1) 0
                v_is = walk_next ∙ at_any (those end t n) (j + 1) n 0 l

                v_rank : length (those end t v) ≡ j + 1
                v_rank =
                    ap (λ (u : ℕ). length (those end u v)) (sym (ap end v_is ∙ at_is end t n (j + 1) l))
                    ∙ ap (rank_in end) v_is ∙ at_rank end t n (j + 1) l

                after : Dec (m < v) → m < v
                after (yes q) = q
                after (no q) = absurd (omega (arith, v_rank, rank_at, those_mono end t m v (omega arith)))

-- ---- clear: the first t tiles have no message
pub record Cleared (count : ℕ) (chain : List ℕ) (t : ℕ) : Type 0 where
  pub low : t ≤ 1024
  pub long : length chain ≡ 8192
  pub none : (u : ℕ) → u < t → get_or chain (7168 + u) 0 ≡ count

pub clear_start : (count : ℕ) (chain : List ℕ) → length chain ≡ 8192 → Cleared count chain 0
clear_start count chain l = record { low = omega arith; long = l; none = λ u h. absurd (omega arith) }

pub clear_next : (count : ℕ) (chain : List ℕ) (t : ℕ) → Cleared count chain t → t < 1024 → Cleared count (set chain (7168 + t) count) (t + 1)
clear_next count chain t x h = record { low = omega arith; long = simp length-set x.long; none = λ u l. go u (dec_lt u t) l }
  where
    go : (u : ℕ) → Dec (u < t) → u < t + 1 → get_or (set chain (7168 + t) count) (7168 + u) 0 ≡ count
    go u (yes q) l = get_or-set_other chain (7168 + t) (7168 + u) count 0 (λ z. omega arith) ∙ x.none u q
    go u (no q) l =
        let e : t ≡ u = omega arith in
        ap (λ (i : ℕ). get_or (set chain (7168 + t) count) (7168 + i) 0) (sym e) ∙ get_or-set_same chain (7168 + t) count 0 (omega (arith, x.long))

pub clear_done : (count : ℕ) (chain : List ℕ) (t : ℕ) → Cleared count chain t → 1024 ≤ t
    → (length chain ≡ 8192) × ((u : ℕ) → u < 1024 → get_or chain (7168 + u) 0 ≡ count)
clear_done count chain t x h = (x.long, λ u l. x.none u (omega (arith, x.low)))
