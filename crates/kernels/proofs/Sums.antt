-- What the loops keep: a sum of so many taps, the cells of a row or of four rows side by side stored so far.
use Prim.Native.Nat.{ℕ, zero, suc, ◌+◌, ◌*◌, ◌-◌, ◌/◌, ◌%◌, ◌^◌, ◌≤◌, ◌<◌}
use mathlib.Core.Path.{◌≡◌, refl, sym, ap, ◌∙◌}
use mathlib.Core.Logic.{◌⊎◌, inl, inr, ◌≢◌}
use mathlib.Core.Bool.{Bool, true, false}
use mathlib.Core.List.{List, [], ◌∷◌}
use native.Mathlib.Nat.{add-zero, zero-mul, mul-le-mul}
use native.Mathlib.Decide.{ℕ_discrete}
use native.Mathlib.Numerals.{add-one}
use native.Mathlib.Omega.{arith}
use lib.ListN.{length, get_or, set, replicate, length-set}
use lib.Seq.{get_or-set_same, get_or-set_other}
use lib.Dec.{eqb, leb}
use borrow.Author.Tests.{le-leb, lt-leb, eq-eqb, ne_eqb, eqb-true, eqb-false}
use Rattle.base.specs.Tests.{pick, sum, tabulate}
use Rattle.base.specs.Lists.{store_all}
use Rattle.base.proofs.Tests.{sum_same, sum_add, pick_true, pick_false}
use Rattle.base.proofs.Lists.{store_length}
use borrow.Author.Count.{below_none, below_more}
use Rattle.kernels.specs.Taps.{made, mixed, in_line, wave_of, Fits, Mixes, All, AllOrNone, Rested}
use Rattle.kernels.proofs.Orders.{store_append, store_same}

pub weighs : (k v : ℕ) → k < 65536 → v < 4294967296 → k * v ≤ 281470681677825
weighs k v a b = omega (arith, mul-le-mul {n₁ = k} {m₁ = v} {n₂ = 65535} {m₂ = 4294967295} (omega arith) (omega arith))

pub kept : (m m' : List ℕ) (c v : ℕ) → m' ≡ set m c v → length m' ≡ length m
kept m m' c v e = ap length e ∙ length-set m c v

module _ {n : ℕ} {backs weights : List ℕ} {outside shift c span sources words : ℕ} (f : Fits n backs weights outside shift c span sources words) where
  -- at some of the cells, in a memory of the same length
  pub fits_at_lem : (c' span' words' : ℕ) → c ≤ c' → c' + span' ≤ c + span → words' ≡ words → Fits n backs weights outside shift c' span' sources words'
  fits_at_lem c' span' words' l h e =
      record {
        few = f.few;
        back = λ k i. omega (arith, f.back k i);
        light = f.light;
        besides = f.besides;
        divides = f.divides;
        within = omega (arith, f.within);
        same = f.same ∙ sym e;
        small = omega (arith, f.small);
      }

-- ---- the sum of the first k taps at cell c

pub record Summing (n : ℕ) (backs weights : List ℕ) (outside : ℕ) (source memory : List ℕ) (c total k : ℕ) : Type 0 where
  pub low : k ≤ n
  pub few : total ≤ 2251769748389895 + k * 281470681677825
  pub is : total ≡ outside + get_or source c 0 + sum (λ i. get_or weights i 0 * get_or memory (c - get_or backs i 0) 0) k

module _ (n : ℕ) (backs weights : List ℕ) (outside shift : ℕ) (source memory : List ℕ) (c : ℕ) where
  pub summing_none : (v : ℕ) → outside ≤ 2251765453422600 → (v ≡ get_or source c 0) × (v < 4294967296) → Summing n backs weights outside source memory c
      (outside + v) 0
  unfolding sum
  summing_none v h q = record { low = omega arith; few = omega arith; is = omega arith }

  module _ (total k : ℕ) (s : Summing n backs weights outside source memory c total k) where
    pub summing_more : k < n → (r b w : ℕ) → b ≡ get_or backs k 0 → w ≡ get_or weights k 0 → (r ≡ total + w * get_or memory (c - b) 0) × (r ≤ total + 281470681677825)
        → Summing n backs weights outside source memory c r (k + 1)
    unfolding sum
    summing_more h r b w eb ew q =
        record {
          low = omega arith;
          few = omega (arith, s.few);
          is =
              rw (add-one k) (q.0 ∙ ap (λ (a : ℕ). total + a * get_or memory (c - b) 0) ew ∙ ap (λ (a : ℕ). total + get_or weights k 0 * get_or memory (c - a) 0)
              eb ∙ omega (arith, s.is));
        }

    pub summing_end : n ≤ k → (v : ℕ) → v ≡ total / 2 ^ shift % 4294967296 → v ≡ made n backs weights outside shift source memory c
    unfolding made
    summing_end h v e =
        let z : k ≡ n = omega (arith, s.low) in
        e ∙ ap (λ (a : ℕ). a / 2 ^ shift % 4294967296) (rw z at s.is)

  -- a sum made without a loop
  pub closes : (total v : ℕ) → total ≡ outside + get_or source c 0 + sum (λ i. get_or weights i 0 * get_or memory (c - get_or backs i 0) 0) n
      → v ≡ total / 2 ^ shift % 4294967296 → set memory c v ≡ set memory c (made n backs weights outside shift source memory c)
  unfolding made
  closes total v s e = ap (set memory c) (e ∙ ap (λ (a : ℕ). a / 2 ^ shift % 4294967296) s)

-- ---- the sum of the first k taps, some of which give the boundary's word

pub record Mixing (n : ℕ) (weights : List ℕ) (word : ℕ → ℕ) (v total k : ℕ) : Type 0 where
  pub low : k ≤ n
  pub few : total ≤ 4294967295 + k * 281470681677825
  pub is : total ≡ v + sum (λ i. get_or weights i 0 * word i) k

module _ (n : ℕ) (weights : List ℕ) (word : ℕ → ℕ) (v : ℕ) where
  pub mixing_none : (r : ℕ) → (r ≡ v) × (r < 4294967296) → Mixing n weights word v r 0
  unfolding sum
  mixing_none r q = record { low = omega arith; few = omega arith; is = omega arith }

  module _ (total k : ℕ) (s : Mixing n weights word v total k) (h : k < n) (light : get_or weights k 0 < 65536) (w : ℕ) (e : (w ≡ word k) × (w < 4294967296))
    where
      pub mixing_fits : total + get_or weights k 0 * w ≤ 4294967295 + (k + 1) * 281470681677825
      mixing_fits = omega (arith, s.few, weighs (get_or weights k 0) w light e.1)

      pub mixing_more : Mixing n weights word v (total + get_or weights k 0 * w) (k + 1)
      unfolding sum
      mixing_more =
          record {
            low = omega arith;
            few = mixing_fits;
            is = rw (add-one k) (ap (λ (a : ℕ). total + get_or weights k 0 * a) e.0 ∙ omega (arith, s.is));
          }

pub mixing_end : (n : ℕ) (firsts backs weights : List ℕ) (boundary shift : ℕ) (source memory : List ℕ) (c a total k : ℕ)
    → Mixing n weights (λ i. pick (leb (get_or firsts i 0) a) (get_or memory (c - get_or backs i 0) 0) boundary) (get_or source c 0) total k → n ≤ k → (r : ℕ) → r
    ≡ total / 2 ^ shift % 4294967296
    → r ≡ mixed n firsts backs weights boundary shift source a memory c
unfolding mixed
mixing_end n firsts backs weights boundary shift source memory c a total k s h r e =
    let z : k ≡ n = omega (arith, s.low) in
    e ∙ ap (λ (b : ℕ). b / 2 ^ shift % 4294967296) (rw z at s.is)

-- ---- the first y cells of a row

pub record Rowing (f : List ℕ → ℕ → ℕ) (memory₀ memory : List ℕ) (c n y : ℕ) : Type 0 where
  pub low : y ≤ n
  pub is : memory ≡ store_all f memory₀ (tabulate (λ i. c + i) y)

module _ (f : List ℕ → ℕ → ℕ) (memory₀ : List ℕ) (c n : ℕ) where
  pub rowing_none : Rowing f memory₀ memory₀ c n 0
  unfolding store_all tabulate
  rowing_none = record { low = omega arith; is = refl }

module _ {f : List ℕ → ℕ → ℕ} {memory₀ memory : List ℕ} {c n y : ℕ} (p : Rowing f memory₀ memory c n y) where
  pub rowing_long : length memory ≡ length memory₀
  rowing_long = ap length p.is ∙ store_length f (tabulate (λ i. c + i) y) memory₀

  pub rowing_more : (memory' : List ℕ) → y < n → memory' ≡ set memory (c + y) (f memory (c + y)) → Rowing f memory₀ memory' c n (y + 1)
  unfolding store_all tabulate
  rowing_more memory' l e =
      record { low = omega arith; is = rw (add-one y, store_append f memory₀ (tabulate (λ i. c + i) y) ((c + y) ∷ []), ← p.is) e }

  pub rowing_end : n ≤ y → memory ≡ store_all f memory₀ (tabulate (λ i. c + i) n)
  rowing_end h = let z : y ≡ n = omega (arith, p.low) in rw z at p.is

-- ---- a row in two parts: where taps may read the boundary's word, and where all read

module _ {n : ℕ} {firsts backs weights : List ℕ} {boundary shift c a span sources words : ℕ} (p : Mixes n firsts backs weights boundary shift c a span
    sources words) where
  -- at some of the cells, in a memory of the same length
  pub mixes_at : (y m words' : ℕ) → y + m ≤ span → words' ≡ words → Mixes n firsts backs weights boundary shift (c + y) (a + y) m sources words'
  mixes_at y m words' h e =
      record {
        few = p.few;
        back = λ k z i l b. omega (arith, p.back k (y + z) i (omega arith) (omega arith));
        light = p.light;
        beyond = p.beyond;
        divides = p.divides;
        within = omega (arith, p.within);
        same = p.same ∙ sym e;
        small = omega (arith, p.small);
        narrow = omega (arith, p.narrow);
      }

  pub mixes_first : (m : ℕ) → m ≤ span → Mixes n firsts backs weights boundary shift c a m sources words
  mixes_first m h =
      record {
        few = p.few;
        back = λ k z i l b. p.back k z i (omega arith) b;
        light = p.light;
        beyond = p.beyond;
        divides = p.divides;
        within = omega (arith, p.within);
        same = p.same;
        small = p.small;
        narrow = omega (arith, p.narrow);
      }

  pub mixes_fits : (y from words' : ℕ) → y < span → All n firsts from → from ≤ a + y → words' ≡ words → Fits n backs weights 0 shift (c + y) (span - y)
      sources words'
  mixes_fits y from words' h all f e =
      record {
        few = p.few;
        back = λ k i. p.back k y i h (omega (arith, all k i));
        light = p.light;
        besides = omega arith;
        divides = p.divides;
        within = omega (arith, p.within);
        same = p.same ∙ sym e;
        small = omega (arith, p.small);
      }

pub in_line_lem : (n : ℕ) (firsts backs weights : List ℕ) (boundary shift : ℕ) (source memory : List ℕ) (c a y v : ℕ) → v ≡ mixed n firsts backs weights boundary
    shift source (a + y) memory (c + y)
    → set memory (c + y) v ≡ set memory (c + y) (mixed n firsts backs weights boundary shift source (a + (c + y - c)) memory (c + y))
in_line_lem n firsts backs weights boundary shift source memory c a y v e = let z : a + (c + y - c) ≡ a + y = omega arith in rw z (ap (set memory (c + y)) e)

pub made_mixed : (n : ℕ) (firsts backs weights : List ℕ) (boundary shift : ℕ) (source : List ℕ) (a from : ℕ) → All n firsts from → from ≤ a
    → (memory : List ℕ) (c : ℕ)
    → made n backs weights 0 shift source memory c ≡ mixed n firsts backs weights boundary shift source a memory c
unfolding made mixed
made_mixed n firsts backs weights boundary shift source a from all f memory c =
    let e : sum (λ k. get_or weights k 0 * get_or memory (c - get_or backs k 0) 0) n
    ≡ sum (λ k. get_or weights k 0 * pick (leb (get_or firsts k 0) a) (get_or memory (c - get_or backs k 0) 0) boundary) n =
    sum_same _ _ n (λ k i. ap (λ (b : ℕ). get_or weights k 0 * b)
    (sym (pick_true (leb (get_or firsts k 0) a) _ _ (le-leb (get_or firsts k 0) a (omega (arith, all k i)))))) in
    let z : 0 + get_or source c 0 + sum (λ k. get_or weights k 0 * get_or memory (c - get_or backs k 0) 0) n
    ≡ get_or source c 0 + sum (λ k. get_or weights k 0 * pick (leb (get_or firsts k 0) a) (get_or memory (c - get_or backs k 0) 0) boundary) n = omega (arith, e) in
    ap (λ (b : ℕ). b / 2 ^ shift % 4294967296) z

-- so many cells by one rule and the rest by another that gives the same
pub rows_join : (f g : List ℕ → ℕ → ℕ) (m m' : List ℕ) (c k : ℕ) → m' ≡ store_all f m (tabulate (λ i. c + i) k) → (n : ℕ)
    → ((l : List ℕ) (y : ℕ) → y < n → g l (c + k + y) ≡ f l (c + k + y))
    → store_all g m' (tabulate (λ i. c + k + i) n) ≡ store_all f m (tabulate (λ i. c + i) (k + n))
unfolding store_all tabulate
rows_join f g m m' c k e zero h = rw (add-zero k) e
rows_join f g m m' c k e (suc n) h =
    let z : c + k + n ≡ c + (k + n) = omega arith in
    let y : k + suc n ≡ suc (k + n) = omega arith in
    rw y
    (store_append g m' (tabulate (λ i. c + k + i) n) ((c + k + n) ∷ [])
    ∙ rw (rows_join f g m m' c k e n (λ l y i. h l y (omega arith)), h (store_all f m (tabulate (λ i. c + i) (k + n))) n (omega arith), z)
    (sym (store_append f m (tabulate (λ i. c + i) (k + n)) ((c + (k + n)) ∷ []))))

pub line_stored : (f g : List ℕ → ℕ → ℕ) (m m₁ m₂ : List ℕ) (c k width : ℕ) → k < width → m₁ ≡ store_all f m (tabulate (λ i. c + i) k) → m₂ ≡ store_all g m₁
    (tabulate (λ i. c + k + i) (width - k))
    → ((l : List ℕ) (y : ℕ) → y < width - k → g l (c + k + y) ≡ f l (c + k + y)) → m₂ ≡ store_all f m (tabulate (λ i. c + i) width)
line_stored f g m m₁ m₂ c k width l e₁ e₂ h =
    let z : k + (width - k) ≡ width = omega arith in
    rw z at (e₂ ∙ rows_join f g m m₁ c k e₁ (width - k) h)

pub made_line : (n : ℕ) (firsts backs weights : List ℕ) (boundary shift : ℕ) (source : List ℕ) (c a from : ℕ) → All n firsts from → (k : ℕ) → from ≤ a + k
    → (l : List ℕ) (y : ℕ)
    → made n backs weights 0 shift source l (c + k + y) ≡ in_line n firsts backs weights boundary shift source c a l (c + k + y)
made_line n firsts backs weights boundary shift source c a from all k f l y =
    made_mixed n firsts backs weights boundary shift source (a + (c + k + y - c)) from all (omega arith) l (c + k + y)

-- ---- the taps that are left where some read nowhere

pub record Resting (n : ℕ) (firsts backs weights : List ℕ) (boundary : ℕ) (left_backs left_weights : List ℕ) (outside k : ℕ) : Type 0 where
  pub low : k ≤ n
  pub long_backs : length left_backs ≡ 8
  pub long_weights : length left_weights ≡ 8
  pub no_backs : (i : ℕ) → k ≤ i → get_or left_backs i 0 ≡ 0
  pub no_weights : (i : ℕ) → k ≤ i → get_or left_weights i 0 ≡ 0
  pub so : Rested k firsts backs weights boundary left_backs left_weights outside

-- one place more of a list is as it should be
next_is : (g : ℕ → ℕ) (l : List ℕ) (k : ℕ) → get_or l k 0 ≡ g k → ((i : ℕ) → i < k → get_or l i 0 ≡ g i) → (i : ℕ) → i < k + 1 → get_or l i 0 ≡ g i
next_is g l k e s i b = go (ℕ_discrete i k)
  where
    go : Dec (i ≡ k) → get_or l i 0 ≡ g i
    go (yes z) = rw z e
    go (no z) = s i (omega arith)

zeros : (i n : ℕ) → ◌≡◌ {A = ℕ} (get_or (replicate n 0) i 0) 0
zeros i zero = refl
zeros zero (suc n) = refl
zeros (suc i) (suc n) = zeros i n

module _ (n : ℕ) (firsts backs weights : List ℕ) (boundary : ℕ) where
  pub resting_none : Resting n firsts backs weights boundary (replicate 8 0) (replicate 8 0) 0 0
  unfolding sum
  resting_none =
      record {
        low = omega arith;
        long_backs = refl;
        long_weights = refl;
        no_backs = λ i h. zeros i 8;
        no_weights = λ i h. zeros i 8;
        so = record { back = λ k h. absurd (omega arith); weight = λ k h. absurd (omega arith); few = omega arith; is = refl };
      }

  module _ (left_backs left_weights : List ℕ) (outside k : ℕ) (s : Resting n firsts backs weights boundary left_backs left_weights outside k) (low : n ≤ 8)
      (h : k < n) where
    pub resting_fits : get_or weights k 0 < 65536 → boundary < 4294967296 → outside + get_or weights k 0 * boundary ≤ (k + 1) * 281470681677825
    resting_fits light beyond = omega (arith, s.so.few, weighs (get_or weights k 0) boundary light beyond)

    pub resting_skip : get_or firsts k 0 ≡ 1024 → get_or weights k 0 < 65536 → boundary < 4294967296
        → Resting n firsts backs weights boundary left_backs left_weights (outside + get_or weights k 0 * boundary) (k + 1)
    unfolding sum
    resting_skip e light beyond =
        let t = eq-eqb (get_or firsts k 0) 1024 e in
        let z : get_or weights k 0 - pick (eqb (get_or firsts k 0) 1024) 0 (get_or weights k 0) ≡ get_or weights k 0 = rw
        (pick_true (eqb (get_or firsts k 0) 1024) 0 (get_or weights k 0) t) (omega arith) in
        record {
          low = omega arith;
          long_backs = s.long_backs;
          long_weights = s.long_weights;
          no_backs = λ i q. s.no_backs i (omega arith);
          no_weights = λ i q. s.no_weights i (omega arith);
          so = record {
            back =
                next_is (λ i. pick (eqb (get_or firsts i 0) 1024) 0 (get_or backs i 0)) left_backs k (s.no_backs k (omega arith)
                ∙ sym (pick_true (eqb (get_or firsts k 0) 1024) 0 (get_or backs k 0) t)) s.so.back;
            weight =
                next_is (λ i. pick (eqb (get_or firsts i 0) 1024) 0 (get_or weights i 0)) left_weights k (s.no_weights k (omega arith)
                ∙ sym (pick_true (eqb (get_or firsts k 0) 1024) 0 (get_or weights k 0) t)) s.so.weight;
            few = resting_fits light beyond;
            is = rw (add-one k) (ap (λ (a : ℕ). outside + a * boundary) (sym z) ∙ omega (arith, s.so.is));
          };
        }

    pub resting_take : get_or firsts k 0 ≢ 1024 → Resting n firsts backs weights boundary (set left_backs k (get_or backs k 0))
        (set left_weights k (get_or weights k 0)) outside (k + 1)
    unfolding sum
    resting_take ne =
        let t = ne_eqb (get_or firsts k 0) 1024 ne in
        let z : get_or weights k 0 - pick (eqb (get_or firsts k 0) 1024) 0 (get_or weights k 0)
        ≡ 0 = rw (pick_false (eqb (get_or firsts k 0) 1024) 0 (get_or weights k 0) t) (omega arith) in
        let y : (get_or weights k 0 - pick (eqb (get_or firsts k 0) 1024) 0 (get_or weights k 0)) * boundary ≡ 0 = ap (λ (a : ℕ). a * boundary) z
        ∙ zero-mul boundary in
        record {
          low = omega arith;
          long_backs = length-set left_backs k (get_or backs k 0) ∙ s.long_backs;
          long_weights = length-set left_weights k (get_or weights k 0) ∙ s.long_weights;
          no_backs = λ i q. get_or-set_other left_backs k i (get_or backs k 0) 0 (λ e. omega arith) ∙ s.no_backs i (omega arith);
          no_weights = λ i q. get_or-set_other left_weights k i (get_or weights k 0) 0 (λ e. omega arith) ∙ s.no_weights i (omega arith);
          so = record {
            back = next_is (λ i. pick (eqb (get_or firsts i 0) 1024) 0 (get_or backs i 0)) (set left_backs k (get_or backs k 0)) k
                (get_or-set_same left_backs k (get_or backs k 0) 0 (omega (arith, s.long_backs))
                ∙ sym (pick_false (eqb (get_or firsts k 0) 1024) 0 (get_or backs k 0) t))
                (λ i q. get_or-set_other left_backs k i (get_or backs k 0) 0 (λ e. omega arith) ∙ s.so.back i q);
            weight = next_is (λ i. pick (eqb (get_or firsts i 0) 1024) 0 (get_or weights i 0)) (set left_weights k (get_or weights k 0)) k
                (get_or-set_same left_weights k (get_or weights k 0) 0 (omega (arith, s.long_weights))
                ∙ sym (pick_false (eqb (get_or firsts k 0) 1024) 0 (get_or weights k 0) t))
                (λ i q. get_or-set_other left_weights k i (get_or weights k 0) 0 (λ e. omega arith) ∙ s.so.weight i q);
            few = omega (arith, s.so.few);
            is = rw (add-one k) (omega (arith, s.so.is, y));
          };
        }

  pub resting_end : (left_backs left_weights : List ℕ) (outside k : ℕ) → Resting n firsts backs weights boundary left_backs left_weights outside k → n ≤ k
      → Rested n firsts backs weights boundary left_backs left_weights outside
  resting_end left_backs left_weights outside k s h = let z : k ≡ n = omega (arith, s.low) in rw z at s.so

-- what tap gives, in the two parts
tap_split : (t : Bool) (f w b a boundary c : ℕ) (m : List ℕ) → eqb f 1024 ≡ t → a < 1024 → (f ≢ 1024 → f ≤ a)
    → (w - pick t 0 w) * boundary + pick t 0 w * get_or m (c - pick t 0 b) 0 ≡ w * pick (leb f a) (get_or m (c - b) 0) boundary
unfolding pick
tap_split true f w b a boundary c m e h l =
    let z : f ≡ 1024 = eqb-true f 1024 e in
    let y : w - 0 ≡ w = omega arith in
    rw (pick_false (leb f a) (get_or m (c - b) 0) boundary (rw z (lt-leb 1024 a h)), y, zero-mul) (omega arith)
tap_split false f w b a boundary c m e h l =
    let z : f ≢ 1024 = eqb-false f 1024 e in
    let y : w - w ≡ 0 = omega arith in
    rw (pick_true (leb f a) (get_or m (c - b) 0) boundary (le-leb f a (l z)), y, zero-mul) (omega arith)

module _ (n : ℕ) (firsts backs weights : List ℕ) (boundary shift : ℕ) (source left_backs left_weights : List ℕ) (outside : ℕ)
    (r : Rested n firsts backs weights boundary left_backs left_weights outside)
    (from : ℕ) (all : AllOrNone n firsts from) where
  reads_there : (a k : ℕ) → from ≤ a → k < n → get_or firsts k 0 ≢ 1024 → get_or firsts k 0 ≤ a
  reads_there a k h l ne = go (all k l)
    where
      go : (get_or firsts k 0 ≤ from) ⊎ (get_or firsts k 0 ≡ 1024) → get_or firsts k 0 ≤ a
      go (inl q) = omega arith
      go (inr q) = absurd (ne q)

  rest_mixed : (a : ℕ) → from ≤ a → a < 1024 → (m : List ℕ) (c : ℕ) → made n left_backs left_weights outside shift source m c ≡ mixed n firsts backs weights
      boundary shift source a m c
  unfolding made mixed
  rest_mixed a h l m c = ap (λ (b : ℕ). b / 2 ^ shift % 4294967296) total
    where
      left : sum (λ k. get_or left_weights k 0 * get_or m (c - get_or left_backs k 0) 0) n
          ≡ sum (λ k. pick (eqb (get_or firsts k 0) 1024) 0 (get_or weights k 0) * get_or m (c - pick (eqb (get_or firsts k 0) 1024) 0 (get_or backs k 0)) 0) n
      left =
          sum_same _ _ n (λ k i. ap (λ (b : ℕ). b * get_or m (c - get_or left_backs k 0) 0) (r.weight k i)
          ∙ ap (λ (b : ℕ). pick (eqb (get_or firsts k 0) 1024) 0 (get_or weights k 0) * get_or m (c - b) 0) (r.back k i))

      each : sum (λ k. (get_or weights k 0 - pick (eqb (get_or firsts k 0) 1024) 0 (get_or weights k 0)) * boundary
          + pick (eqb (get_or firsts k 0) 1024) 0 (get_or weights k 0) * get_or m (c - pick (eqb (get_or firsts k 0) 1024) 0 (get_or backs k 0)) 0) n
          ≡ sum (λ k. get_or weights k 0 * pick (leb (get_or firsts k 0) a) (get_or m (c - get_or backs k 0) 0) boundary) n
      each =
          sum_same _ _ n (λ k i. tap_split (eqb (get_or firsts k 0) 1024) (get_or firsts k 0) (get_or weights k 0) (get_or backs k 0) a boundary c m refl l
          (reads_there a k h i))

      total : outside + get_or source c 0 + sum (λ k. get_or left_weights k 0 * get_or m (c - get_or left_backs k 0) 0) n
          ≡ get_or source c 0 + sum (λ k. get_or weights k 0 * pick (leb (get_or firsts k 0) a) (get_or m (c - get_or backs k 0) 0) boundary) n
      total = omega (
        arith,
        r.is,
        left,
        each,
        sum_add (λ k. (get_or weights k 0 - pick (eqb (get_or firsts k 0) 1024) 0 (get_or weights k 0)) * boundary)
            (λ k. pick (eqb (get_or firsts k 0) 1024) 0 (get_or weights k 0) * get_or m (c - pick (eqb (get_or firsts k 0) 1024) 0 (get_or backs k 0)) 0) n,
      )

  pub rest_line : (c a width : ℕ) → a + width ≤ 1024 → (k : ℕ) → from ≤ a + k → (l : List ℕ) (y : ℕ) → y < width - k
      → made n left_backs left_weights outside shift source l (c + k + y) ≡ in_line n firsts backs weights boundary shift source c a l (c + k + y)
  rest_line c a width w k f l y i = rest_mixed (a + (c + k + y - c)) (omega arith) (omega arith) l (c + k + y)

  pub rest_fits : (c a span sources words : ℕ) → Mixes n firsts backs weights boundary shift c a span sources words → (y words' : ℕ) → y < span
      → from ≤ a + y → words' ≡ words
      → Fits n left_backs left_weights outside shift (c + y) (span - y) sources words'
  rest_fits c a span sources words p y words' h f e =
      record {
        few = p.few;
        back = λ k i. rw (r.back k i) (back k i (eqb (get_or firsts k 0) 1024) refl);
        light = λ k i. rw (r.weight k i) (light k i (eqb (get_or firsts k 0) 1024));
        besides = omega (arith, r.few, p.few);
        divides = p.divides;
        within = omega (arith, p.within);
        same = p.same ∙ sym e;
        small = omega (arith, p.small);
      }
    where
      back : (k : ℕ) → k < n → (t : Bool) → eqb (get_or firsts k 0) 1024 ≡ t → pick t 0 (get_or backs k 0) ≤ c + y
      back k i true g = rw (pick_true true 0 (get_or backs k 0) refl) (omega arith)
      back k i false g = rw (pick_false false 0 (get_or backs k 0) refl) (p.back k y i h (reads_there (a + y) k f i (eqb-false (get_or firsts k 0) 1024 g)))

      light : (k : ℕ) → k < n → (t : Bool) → pick t 0 (get_or weights k 0) < 65536
      light k i true = rw (pick_true true 0 (get_or weights k 0) refl) (omega arith)
      light k i false = rw (pick_false false 0 (get_or weights k 0) refl) (p.light k i)

-- ---- the first y cells of four rows side by side

pub record Waving (f : List ℕ → ℕ → ℕ) (memory₀ memory : List ℕ) (a t n y : ℕ) : Type 0 where
  pub low : y ≤ n
  pub is : memory ≡ store_all f memory₀ (wave_of a t y)

module _ (f : List ℕ → ℕ → ℕ) (memory₀ : List ℕ) (a t n : ℕ) where
  pub waving_none : Waving f memory₀ memory₀ a t n 0
  unfolding store_all wave_of
  waving_none = record { low = omega arith; is = refl }

module _ {f : List ℕ → ℕ → ℕ} {memory₀ memory : List ℕ} {a t n y : ℕ} (p : Waving f memory₀ memory a t n y) where
  pub waving_long : length memory ≡ length memory₀
  waving_long = ap length p.is ∙ store_length f (wave_of a t y) memory₀

  pub waving_more : (m₁ m₂ m₃ m₄ : List ℕ) → y < n → m₁ ≡ set memory (a + y) (f memory (a + y)) → m₂ ≡ set m₁ (a + y + t) (f m₁ (a + y + t))
      → m₃ ≡ set m₂ (a + y + t + t) (f m₂ (a + y + t + t)) → m₄ ≡ set m₃ (a + y + t + t + t) (f m₃ (a + y + t + t + t)) → Waving f memory₀ m₄ a t n (y + 1)
  unfolding store_all wave_of
  waving_more m₁ m₂ m₃ m₄ l e₁ e₂ e₃ e₄ =
      record {
        low = omega arith;
        is =
            rw (
              add-one y,
              store_append f memory₀ (wave_of a t y) ((a + y) ∷ (a + y + t) ∷ (a + y + t + t) ∷ (a + y + t + t + t) ∷ []),
              ← p.is,
              ← e₁,
              ← e₂,
              ← e₃,
            ) e₄;
      }

  pub waving_end : n ≤ y → memory ≡ store_all f memory₀ (wave_of a t n)
  waving_end h = let z : y ≡ n = omega (arith, p.low) in rw z at p.is

  -- the column whose cells a turn of the loop stores: their numbers are small, and the word of each can be made in a memory of the same length
  module _ {m : ℕ} {backs weights : List ℕ} {outside shift sources : ℕ} (g : Fits m backs weights outside shift a (3 * t + n) sources (length memory₀))
      (l : y < n) where
    pub column_small : a + y + t + t + t < 16384
    column_small = omega (arith, g.within, g.small)

    pub column_fits : (c words : ℕ) → a ≤ c → c ≤ a + y + t + t + t → words ≡ length memory → Fits m backs weights outside shift c 1 sources words
    column_fits c words h k e = fits_at_lem g c 1 words h (omega arith) (e ∙ waving_long)

-- ---- the same taps, one by one and in arrays

pub record Same (n n' : ℕ) (backs weights backs' weights' : List ℕ) : Type 0 where
  pub many : n ≡ n'
  pub back : (k : ℕ) → k < n → get_or backs k 0 ≡ get_or backs' k 0
  pub weight : (k : ℕ) → k < n → get_or weights k 0 ≡ get_or weights' k 0

module _ {n n' : ℕ} {backs weights backs' weights' : List ℕ} (s : Same n n' backs weights backs' weights') where
  pub fits_same : {outside shift c span sources words : ℕ} → Fits n' backs' weights' outside shift c span sources words → Fits n backs weights outside shift
      c span sources words
  fits_same f =
      record {
        few = omega (arith, f.few, s.many);
        back = λ k h. omega (arith, s.back k h, f.back k (omega (arith, s.many)));
        light = λ k h. omega (arith, s.weight k h, f.light k (omega (arith, s.many)));
        besides = f.besides;
        divides = f.divides;
        within = f.within;
        same = f.same;
        small = f.small;
      }

  pub stores_same : (outside shift : ℕ) (source memory cells : List ℕ) → store_all (made n backs weights outside shift source) memory cells
      ≡ store_all (made n' backs' weights' outside shift source) memory cells
  unfolding made
  stores_same outside shift source memory cells = store_same _ _ cells memory (λ m c i. words m c)
    where
      words : (m : List ℕ) (c : ℕ) → made n backs weights outside shift source m c ≡ made n' backs' weights' outside shift source m c
      words m c =
          ap (λ (a : ℕ). (outside + get_or source c 0 + a) / 2 ^ shift % 4294967296)
          (sum_same _ _ n (λ k h. ap (λ (a : ℕ). a * get_or m (c - get_or backs k 0) 0) (s.weight k h) ∙ ap (λ (a : ℕ). get_or weights' k 0 * get_or m (c - a) 0)
          (s.back k h))
          ∙ ap (sum (λ k. get_or weights' k 0 * get_or m (c - get_or backs' k 0) 0)) s.many)

abbrev Tapped : List ℕ → List ℕ → ℕ → ℕ → ℕ → Type 0
Tapped backs weights k b w = (b ≡ get_or backs k 0) × (get_or weights k 0 < 65536 → w ≡ get_or weights k 0)

module _ (backs weights : List ℕ) {n : ℕ} (light : (k : ℕ) → k < n → get_or weights k 0 < 65536) where
  pub same_one : n ≡ 1 → {b₀ w₀ : ℕ} → Tapped backs weights 0 b₀ w₀ → Same 1 n (b₀ ∷ []) (w₀ ∷ []) backs weights
  same_one e p = record { many = sym e; back = below_more _ 0 (below_none _) p.0; weight = below_more _ 0 (below_none _) (p.1 (light 0 (omega arith))) }
