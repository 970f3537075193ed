-- One turn of each loop and recursion over the dimensions; places and products over equal lengths.
use Prim.Native.Nat.{ℕ, zero, suc, ◌+◌, ◌*◌, ◌-◌, ◌/◌, ◌%◌, ◌≤◌, ◌<◌}
use mathlib.Core.Path.{◌≡◌, refl, ap, ◌∙◌}
use mathlib.Core.Logic.{◌⊎◌, inl, inr, ◌≢◌}
use mathlib.Core.List.{List}
use native.Mathlib.Nat.{add-mul, eq-or-lt_of_le, le_of_suc-le-suc, mul-le-mul_right, mul-le-mul_left, mul_assoc, suc-mul, one-mul, mul-one, mod-lt}
use native.Mathlib.Decide.{dec_lt}
use native.Mathlib.Numerals.{add-one}
use native.Mathlib.Omega.{arith}
use lib.ListN.{length, get_or, set}
use lib.Seq.{get_or-set_same, get_or-set_other}
use Rattle.base.specs.Tests.{product}
use Rattle.nest.specs.Places.{rank, place}
use Rattle.nest.proofs.Rank.{Positive, place_last, place_before}
pub use Rattle.nest.proofs.Rank.{product_same, place_lengths}
use Rattle.layout.specs.Places.{nth, Countable, Ranked, Places, Placed}

-- ---- equal lengths give the same

pub rank_lengths : (N M i : ℕ → ℕ) (l : ℕ) → ((j : ℕ) → j < l → N j ≡ M j) → rank N i l ≡ rank M i l
unfolding rank
rank_lengths N M i zero h = refl
rank_lengths N M i (suc l) h = rw (rank_lengths N M i l (λ j k. h j (omega arith)), h l (omega arith))

-- ---- bounds

pub product_pos : (N : ℕ → ℕ) (l : ℕ) → Positive N l → 1 ≤ product N l
unfolding product
product_pos N zero p = omega arith
product_pos N (suc l) p =
    omega (arith, p l (omega arith), mul-le-mul_right (N l) (product_pos N l (λ j h. p j (omega arith))), one-mul (N l))

-- a place that stands at most one beyond the last
pub rank_most : (N i : ℕ → ℕ) (l : ℕ) → Positive N l → ((j : ℕ) → j < l → i j ≤ N j) → rank N i l ≤ l * product N l
unfolding rank product
rank_most N i zero p w = omega arith
rank_most N i (suc l) p w =
    let ih = rank_most N i l (λ j h. p j (omega arith)) (λ j h. w j (omega arith)) in
    omega (
      arith,
      w l (omega arith),
      mul-le-mul_right (N l) ih,
      mul_assoc l (product N l) (N l),
      mul-le-mul_right (N l) (product_pos N l (λ j h. p j (omega arith))),
      one-mul (N l),
      suc-mul l (product N l * N l),
    )

-- ---- the product

pub product_prefix : (N : ℕ → ℕ) (l j : ℕ) → Positive N l → j ≤ l → product N j ≤ product N l
unfolding product
product_prefix N zero j p h = let z : j ≡ 0 = omega arith in rw z (omega arith)
product_prefix N (suc l) j p h = go (dec_lt l j) (λ k. product_prefix N l j (λ q r. p q (omega arith)) k)
  where
    go : Dec (l < j) → (j ≤ l → product N j ≤ product N l) → product N j ≤ product N l * N l
    go (yes k) ih = let z : j ≡ suc l = omega arith in rw z (omega arith)
    go (no k) ih = omega (arith, ih (omega arith), mul-le-mul_left (product N l) (p l (omega arith)), mul-one (product N l))

pub product_next : (N : ℕ → ℕ) (j : ℕ) → product N (j + 1) ≡ product N j * N j
unfolding product
product_next N j = rw (add-one j)

pub countable_less : (N : List ℕ) (left j : ℕ) → j ≤ left → Countable N left → Countable N j
countable_less N left j h c =
    record {
      low = omega (arith, c.low);
      positive = λ i k. c.positive i (omega arith);
      few = omega (arith, c.few, product_prefix (nth N) left j c.positive h);
    }

pub product_fits : (N : List ℕ) (left j : ℕ) → j < left → Countable N left → product (nth N) j * get_or N j 0 ≤ 16384
product_fits N left j h c = omega (arith, product_next (nth N) j, (countable_less N left (j + 1) (omega arith) c).few)

-- ---- the rank

pub record RankTurn (N i : List ℕ) (left : ℕ) : Type 0 where
  pub ranks : Ranked N i (left - 1)
  pub fits : rank (nth N) (nth i) (left - 1) * get_or N (left - 1) 0 + get_or i (left - 1) 0 ≤ 65536
  pub is : rank (nth N) (nth i) left ≡ rank (nth N) (nth i) (left - 1) * get_or N (left - 1) 0 + get_or i (left - 1) 0

pub rank_few : (N i : List ℕ) (left : ℕ) → Ranked N i left → rank (nth N) (nth i) left ≤ 65536
rank_few N i left r =
    omega (arith, rank_most (nth N) (nth i) left r.counts.positive r.at_most, mul-le-mul_right (product (nth N) left) r.counts.low, r.counts.few)

pub rank_turn : (N i : List ℕ) (left : ℕ) → left ≢ 0 → Ranked N i left → RankTurn N i left
unfolding rank
rank_turn N i zero f r = absurd (f refl)
rank_turn N i (suc l) f r =
    let z : suc l - 1 ≡ l = omega arith in
    record {
      ranks = rw z (record { counts = countable_less N (suc l) l (omega arith) r.counts; at_most = λ j h. r.at_most j (omega arith) });
      fits = rw z (rank_few N i (suc l) r);
      is = rw z;
    }

-- ---- the place

pub placed_none : (N from : List ℕ) (n left : ℕ) → left ≡ 0 → Placed N from n left from
placed_none N from n left e = record { first = λ j h. absurd (omega arith); rest = λ j h. refl }

module _ (N from : List ℕ) (n left : ℕ) (f : left ≢ 0) (long : left ≤ length from) where
  pub places_less : Places N from left → Places N (set from (left - 1) (get_or from (left - 1) 0 + n % get_or N (left - 1) 0)) (left - 1)
  places_less p =
      record {
        low = omega (arith, p.low);
        positive = λ j h. p.positive j (omega arith);
        small = λ j h. rw (get_or-set_other from (left - 1) j (get_or from (left - 1) 0 + n % get_or N (left - 1) 0) 0 (λ e. omega arith)) (p.small j (omega arith));
      }

  pub place_fits : Places N from left → get_or from (left - 1) 0 + n % get_or N (left - 1) 0 ≤ 4096
  place_fits p = omega (arith, p.small (left - 1) (omega arith), mod-lt n (p.positive (left - 1) (omega arith)))

pub placed_more : (N from r : List ℕ) (n left : ℕ) → left ≢ 0 → left ≤ length from
    → Placed N (set from (left - 1) (get_or from (left - 1) 0 + n % get_or N (left - 1) 0)) (n / get_or N (left - 1) 0) (left - 1) r → Placed N from n left r
placed_more N from r n zero f h p = absurd (f refl)
placed_more N from r n (suc l) f h p =
    record {
      first = λ q k. go q (eq-or-lt_of_le (le_of_suc-le-suc k));
      rest = λ q k. p'.rest q (omega arith) ∙ get_or-set_other from l q v 0 (λ (e : q ≡ l). omega arith);
    }
  where
    v : ℕ
    v = get_or from l 0 + n % get_or N l 0

    z : suc l - 1 ≡ l
    z = omega arith

    p' : Placed N (set from l (get_or from l 0 + n % get_or N l 0)) (n / get_or N l 0) l r
    p' = rw z at p

    go : (q : ℕ) → (q ≡ l) ⊎ (q < l) → get_or r q 0 ≡ get_or from q 0 + place (nth N) (suc l) n q
    go q (inl e) = rw (e, place_last (nth N) l n) (p'.rest l (omega arith) ∙ get_or-set_same from l (get_or from l 0 + n % get_or N l 0) 0 (omega arith))
    go q (inr k) =
        rw (place_before (nth N) l n q k)
        (p'.first q k ∙ ap (λ (a : ℕ). a + place (nth N) l (n / get_or N l 0) q) (get_or-set_other from l q (get_or from l 0 + n % get_or N l 0) 0
        (λ (e : q ≡ l). omega arith)))

-- ---- ranks add up

pub rank_add : (N a b : ℕ → ℕ) (l : ℕ) → rank N (λ j. a j + b j) l ≡ rank N a l + rank N b l
unfolding rank
rank_add N a b zero = refl
rank_add N a b (suc l) = rw (rank_add N a b l) (omega (arith, add-mul (rank N a l) (rank N b l) (N l)))
