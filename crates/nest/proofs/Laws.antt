-- Laws of the reader's definitions, over plain variables: loops, tables, products, and the returns of the code.
use Prim.Native.Nat.{ℕ, zero, suc, ◌+◌, ◌*◌, ◌-◌, ◌/◌, ◌%◌, ◌≤◌, ◌<◌}
use mathlib.Core.Path.{◌≡◌, refl, sym, ap, ◌∙◌}
use mathlib.Core.Logic.{◌⊎◌, inl, inr, ◌≢◌}
use mathlib.Core.Bool.{Bool, true, false, true≢false}
use mathlib.Core.Bool as B
use mathlib.Core.List.{List, [], ◌∷◌}
use native.Mathlib.Omega.{arith}
use native.Mathlib.Decide.{dec_lt, ℕ_discrete}
use native.Mathlib.Numerals.{add-one}
use native.Mathlib.Nat.{mul-le-mul, div-le_self}
use lib.ListN.{length, get_or, set, replicate, length-set, length-replicate, get_or-replicate, get_or-eq_default}
use lib.Seq.{ext_get_or, get_or-set_same, get_or-set_other}
use lib.Dec.{eqb, ltb, leb}
use borrow.Author.Tests.{lt-ltb, le-ltb, le-leb, lt-leb, eq-eqb, ne_eqb, leb-true, eqb-true}
use Rattle.base.specs.Tests.{◌and◌, ◌or◌, not, pick, every, some, keep, those, product}
use Rattle.base.proofs.Tests.{both, and_true, and_left, and_false, and_no, or_left, or_right, or_false, not-true, not-false, is_true, never_both}
use Rattle.base.proofs.Tests.{every_not, some_one, pick_true, pick_false, length_tabulate, tabulate_at}
use Rattle.base.specs.Numbers.{line, first_of}
use Rattle.base.proofs.Select.{those_more, those_none, those_few, keep_more, keep_none, keep_few}
use Rattle.base.proofs.Numbers.{first_true, first_false}
pub use Rattle.base.proofs.Loops.{some_start, some_step, some_end, every_start, every_step, every_end}
use Rattle.nest.specs.declared.Nest.{Nest}
use Rattle.nest.specs.Nest.{length_of, tile_length, processor_count, tile_count, cells, processors}
use Rattle.base.specs.Lists.{Bytes}
use Rattle.base.specs.Bytes.{half, word}
use Rattle.nest.specs.Reader.{of_kind, component_at, weight_at, slope_at, offset_at, filled, nest_by, ragged, blank, bound_fits, checked, may_stand}
use Rattle.nest.specs.Reader.{fits_at, well_formed, kind, records, bad_length, too_large, narrow_at, no_cell, bad_distance, bad_tile, is_spread, bad_spread}
use Rattle.nest.specs.Reader.{last_spread, bad_processors, too_many_tiles, nest_lines}

-- ---- loops

module _ (f : ℕ → Bool) where
  pub kept_start : ◌≡◌ {A = ℕ} 0 (length (keep f 0))
  unfolding keep
  kept_start = refl

  pub kept_more : (j m : ℕ) → m ≡ length (keep f j) → f j ≡ true → m + 1 ≡ length (keep f (j + 1))
  kept_more j m e h = rw (add-one j) (let a = keep_more f j h in omega arith)

  pub kept_none : (j m : ℕ) → m ≡ length (keep f j) → f j ≡ false → m ≡ length (keep f (j + 1))
  kept_none j m e h = rw (add-one j) (e ∙ sym (ap length (keep_none f j h)))

  pub kept_end : (n j m : ℕ) → j ≤ n → n ≤ j → m ≡ length (keep f j) → m ≡ length (keep f n)
  kept_end n j m a b e = let k : j ≡ n = omega arith in rw k at e

-- a test that is false from some place on holds of the first ones, as many as are kept
pub front_kept : (f : ℕ → Bool) (n : ℕ) → ((j : ℕ) → j + 1 < n → f j ≡ false → f (j + 1) ≡ false) → (j : ℕ) → j < n → f j ≡ ltb j (length (keep f n))
front_kept f zero down j h = absurd (omega arith)
front_kept f (suc n) down j h = go (λ k. front_kept f n (λ i l. down i (omega arith)) j k) (f n) refl (ℕ_discrete j n)
  where
    -- what holds of n holds of every one before it
    held : (i k : ℕ) → i + k ≡ n → f n ≡ true → f i ≡ true
    held i zero e t = let q : i ≡ n = omega arith in ap f q ∙ t
    held i (suc k) e t = is_true (λ z. never_both (held (i + 1) k (omega arith) t) (down i (omega arith) z))

    all : (m : ℕ) → m ≤ n → f n ≡ true → length (keep f m) ≡ m
    all zero l t = sym (kept_start f)
    all (suc m) l t = keep_more f m (held m (n - m) (omega arith) t) ∙ ap suc (all m (omega arith) t)

    go : (j < n → f j ≡ ltb j (length (keep f n))) → (t : Bool) → f n ≡ t → Dec (j ≡ n) → f j ≡ ltb j (length (keep f (suc n)))
    go ih true e d = held j (n - j) (omega arith) e ∙ sym (lt-ltb j _ (omega (arith, keep_more f n e, all n (omega arith) e)))
    go ih false e (yes q) = rw (q, keep_none f n e) (e ∙ sym (le-ltb n _ (keep_few f n)))
    go ih false e (no q) = rw (keep_none f n e) (ih (omega arith))

pub or_skip : {a b : Bool} → a ≡ false → (a or b) ≡ b
unfolding ◌or◌
or_skip {a = true} e = absurd (true≢false e)
or_skip {a = false} e = refl

module _ (f : ℕ → ℕ) (b : ℕ) where
  pub those_start : ◌≡◌ {A = ℕ} 0 (length (those f b 0))
  unfolding those keep
  those_start = refl

  pub those_one : (r n : ℕ) → n ≡ length (those f b r) → f r ≡ b → n + 1 ≡ length (those f b (r + 1))
  those_one r n e h = rw (add-one r) (let a = those_more f b r h in omega arith)

  pub those_skip : (r n : ℕ) → n ≡ length (those f b r) → f r ≢ b → n ≡ length (those f b (r + 1))
  those_skip r n e h = rw (add-one r) (e ∙ sym (ap length (those_none f b r h)))

  pub those_end : (n j m : ℕ) → j ≤ n → n ≤ j → m ≡ length (those f b j) → m ≡ length (those f b n)
  those_end n j m p q e = let k : j ≡ n = omega arith in rw k at e

-- ---- tables filled from the start

module _ (size : ℕ) (f : ℕ → ℕ) where
  pub filled_length : (n : ℕ) → length (filled size n f) ≡ size
  unfolding filled
  filled_length n = length_tabulate _ size

  pub filled_at : (n j : ℕ) → j < size → get_or (filled size n f) j 0 ≡ pick (ltb j n) (f j) 0
  unfolding filled
  filled_at n j h = tabulate_at (λ i. pick (ltb i n) (f i) 0) size j h

  pub filled_in : (n j : ℕ) → j < n → n ≤ size → get_or (filled size n f) j 0 ≡ f j
  filled_in n j h l = filled_at n j (omega arith) ∙ pick_true (ltb j n) (f j) 0 (lt-ltb j n h)

  pub filled_out : (n j : ℕ) → n ≤ j → get_or (filled size n f) j 0 ≡ 0
  filled_out n j h = go (dec_lt j size)
    where
      go : Dec (j < size) → get_or (filled size n f) j 0 ≡ 0
      go (yes l) = filled_at n j l ∙ pick_false (ltb j n) (f j) 0 (le-ltb j n h)
      go (no l) = get_or-eq_default (filled size n f) 0 (rw (filled_length n) (omega arith))

  pub filled_below : (n b : ℕ) → 0 < b → ((i : ℕ) → f i < b) → (j : ℕ) → get_or (filled size n f) j 0 < b
  filled_below n b z h j = go (dec_lt j n) (dec_lt j size)
    where
      go : Dec (j < n) → Dec (j < size) → get_or (filled size n f) j 0 < b
      go (yes l) (yes s) = rw (filled_at n j s, pick_true (ltb j n) (f j) 0 (lt-ltb j n l)) (h j)
      go (yes l) (no s) = rw (get_or-eq_default (filled size n f) 0 {n = j} (rw (filled_length n) (omega arith))) z
      go (no l) s = rw (filled_out n j (omega arith)) z

  pub filled_start : replicate size 0 ≡ filled size 0 f
  filled_start =
      ext_get_or 0 (replicate size 0) (filled size 0 f) (length-replicate {A = ℕ} size 0 ∙ sym (filled_length 0))
      (λ i l. get_or-replicate {A = ℕ} size i 0 0 (rw (length-replicate {A = ℕ} size 0) at l) ∙ sym (filled_out 0 i (omega arith)))

  pub filled_more : (n v : ℕ) → n < size → v ≡ f n → set (filled size n f) n v ≡ filled size (n + 1) f
  filled_more n v h e =
      ext_get_or 0 (set (filled size n f) n v) (filled size (n + 1) f) (length-set (filled size n f) n v ∙ (filled_length n ∙ sym (filled_length (n + 1))))
      (λ i l. go i (rw (length-set (filled size n f) n v, filled_length n) at l) (ℕ_discrete i n) (dec_lt i n))
    where
      go : (i : ℕ) → i < size → Dec (i ≡ n) → Dec (i < n) → get_or (set (filled size n f) n v) i 0 ≡ get_or (filled size (n + 1) f) i 0
      go i l (yes k) d =
          rw k (get_or-set_same (filled size n f) n v 0 (rw (filled_length n) h) ∙ (e ∙ sym (filled_in (n + 1) n (omega arith) (omega arith))))
      go i l (no k) (yes d) =
          get_or-set_other (filled size n f) n i v 0 k ∙ (filled_in n i d (omega arith) ∙ sym (filled_in (n + 1) i (omega arith) (omega arith)))
      go i l (no k) (no d) = get_or-set_other (filled size n f) n i v 0 k ∙ (filled_out n i (omega arith) ∙ sym (filled_out (n + 1) i (omega arith)))

  pub filled_next : (n v : ℕ) (l : List ℕ) → l ≡ filled size n f → n < size → v ≡ f n → set l n v ≡ filled size (n + 1) f
  filled_next n v l q h e = rw q (filled_more n v h e)

  pub filled_end : (n j : ℕ) (l : List ℕ) → j ≤ n → n ≤ j → l ≡ filled size j f → l ≡ filled size n f
  filled_end n j l a b e = let k : j ≡ n = omega arith in rw k at e

-- ---- products of at most four numbers of two bytes

module _ (f : ℕ → ℕ) where
  pub product_start : ◌≡◌ {A = ℕ} 1 (product f 0)
  unfolding product
  product_start = refl

  pub product_step : (j p : ℕ) → p ≡ product f j → p * f j ≡ product f (j + 1)
  unfolding product
  product_step j p e = rw (add-one j, e)

  pub product_end : (n j p : ℕ) → j ≤ n → n ≤ j → p ≡ product f j → p ≡ product f n
  product_end n j p a b e = let k : j ≡ n = omega arith in rw k at e

  pub product_room : (n : ℕ) → n ≤ 4 → ((j : ℕ) → j < n → f j < 65536) → product f n < 18446744073709551616
  unfolding product
  product_room zero h w = omega arith
  product_room (suc zero) h w = let a = w 0 (omega arith) in omega arith
  product_room (suc (suc zero)) h w =
      let a : f 0 ≤ 65535 = let k = w 0 (omega arith) in omega arith in
      let b : f 1 ≤ 65535 = let k = w 1 (omega arith) in omega arith in
      omega (arith, mul-le-mul a b)
  product_room (suc (suc (suc zero))) h w =
      let a : f 0 ≤ 65535 = let k = w 0 (omega arith) in omega arith in
      let b : f 1 ≤ 65535 = let k = w 1 (omega arith) in omega arith in
      let d : f 2 ≤ 65535 = let k = w 2 (omega arith) in omega arith in
      omega (arith, mul-le-mul (mul-le-mul a b) d)
  product_room (suc (suc (suc (suc zero)))) h w =
      let a : f 0 ≤ 65535 = let k = w 0 (omega arith) in omega arith in
      let b : f 1 ≤ 65535 = let k = w 1 (omega arith) in omega arith in
      let d : f 2 ≤ 65535 = let k = w 2 (omega arith) in omega arith in
      let e : f 3 ≤ 65535 = let k = w 3 (omega arith) in omega arith in
      omega (arith, mul-le-mul (mul-le-mul (mul-le-mul a b) d) e)
  product_room (suc (suc (suc (suc (suc n))))) h w = absurd (omega arith)

  -- the next factor still fits
  pub product_next : (n j p : ℕ) → n ≤ 4 → j < n → ((i : ℕ) → i < n → f i < 65536) → p ≡ product f j → p * f j < 18446744073709551616
  product_next n j p h l w e =
      rw (product_step j p e) (product_room (j + 1) (omega arith) (λ i k. w i (omega arith)))

pub tile_small : (x : Nest) (j : ℕ) → length_of x j < 65536 → 1 ≤ length_of x j → tile_count x j < 65536
unfolding tile_count
tile_small x j h l = omega (arith, div-le_self (length_of x j - 1) (tile_length x j))

pub tile_next : (x : Nest) (j p : ℕ) → x.dimensions ≤ 4 → j < x.dimensions → ((i : ℕ) → length_of x i < 65536)
    → ((i : ℕ) → i < x.dimensions → 1 ≤ length_of x i) → p ≡ product (tile_count x) j
    → p * ((length_of x j - 1) / tile_length x j + 1) < 18446744073709551616
unfolding tile_count
tile_next x j p h l w m e = product_next (tile_count x) x.dimensions j p h l (λ i k. tile_small x i (w i) (m i k)) e

-- ---- fields

pub half_small : (bytes : List ℕ) → Bytes bytes → (p : ℕ) → half bytes p < 65536
half_small bytes b p = omega (arith, b p, b (p + 1))

pub word_small : (bytes : List ℕ) → Bytes bytes → (p : ℕ) → word bytes p < 4294967296
word_small bytes b p = omega (arith, half_small bytes b p, half_small bytes b (p + 2))

-- ---- the places of the kinds, and the fields that depend on the kind

module _ (n b e r k : ℕ) where
  pub stands_first : r < n → may_stand n b e r k ≡ eqb k 1
  unfolding may_stand pick
  stands_first h = rw (lt-ltb r n h)

  pub stands_bound : n ≤ r → r < n + b → may_stand n b e r k ≡ eqb k 5
  unfolding may_stand pick
  stands_bound h l = rw (le-ltb r n h, lt-ltb r (n + b) l)

  pub stands_between : n ≤ r → n + b ≤ r → r < n + b + e → may_stand n b e r k ≡ (eqb k 2 or eqb k 4)
  unfolding may_stand pick
  stands_between h m l = rw (le-ltb r n h, le-ltb r (n + b) m, lt-ltb r (n + b + e) l)

  pub stands_last : n ≤ r → n + b ≤ r → n + b + e ≤ r → may_stand n b e r k ≡ eqb k 3
  unfolding may_stand pick
  stands_last h m l = rw (le-ltb r n h, le-ltb r (n + b) m, le-ltb r (n + b + e) l)

  -- ---- by the kind: the records that may have it
  stands_where : (s : Bool) → (r < n → eqb k 1 ≡ s) → (n ≤ r → r < n + b → eqb k 5 ≡ s) → (n + b ≤ r → r < n + b + e → (eqb k 2 or eqb k 4) ≡ s)
      → (n + b + e ≤ r → eqb k 3 ≡ s) → may_stand n b e r k ≡ s
  stands_where s first second third fourth = go (dec_lt r n) (dec_lt r (n + b)) (dec_lt r (n + b + e))
    where
      go : Dec (r < n) → Dec (r < n + b) → Dec (r < n + b + e) → may_stand n b e r k ≡ s
      go (yes h) m l = stands_first h ∙ first h
      go (no h) (yes m) l = stands_bound (omega arith) m ∙ second (omega arith) m
      go (no h) (no m) (yes l) = stands_between (omega arith) (omega arith) l ∙ third (omega arith) l
      go (no h) (no m) (no l) = stands_last (omega arith) (omega arith) (omega arith) ∙ fourth (omega arith)

  no_distance : k ≢ 2 → k ≢ 4 → (eqb k 2 or eqb k 4) ≡ false
  no_distance a d = or_skip (ne_eqb k 2 a) ∙ ne_eqb k 4 d

  pub dimension_stands : k ≡ 1 → may_stand n b e r k ≡ (leb 0 r and ltb r n)
  dimension_stands q =
      stands_where (leb 0 r and ltb r n)
      (λ h. eq-eqb k 1 q ∙ sym (and_true (le-leb 0 r (omega arith)) (lt-ltb r n h)))
      (λ h m. ne_eqb k 5 (λ z. omega arith) ∙ sym (and_no _ _ (le-ltb r n h)))
      (λ h m. no_distance (λ z. omega arith) (λ z. omega arith) ∙ sym (and_no _ _ (le-ltb r n (omega arith))))
      (λ h. ne_eqb k 3 (λ z. omega arith) ∙ sym (and_no _ _ (le-ltb r n (omega arith))))

  pub bound_stands : k ≡ 5 → may_stand n b e r k ≡ (leb n r and ltb r (n + b))
  bound_stands q =
      stands_where (leb n r and ltb r (n + b))
      (λ h. ne_eqb k 1 (λ z. omega arith) ∙ sym (and_false _ _ (lt-leb n r h)))
      (λ h m. eq-eqb k 5 q ∙ sym (and_true (le-leb n r h) (lt-ltb r (n + b) m)))
      (λ h m. no_distance (λ z. omega arith) (λ z. omega arith) ∙ sym (and_no _ _ (le-ltb r (n + b) h)))
      (λ h. ne_eqb k 3 (λ z. omega arith) ∙ sym (and_no _ _ (le-ltb r (n + b) (omega arith))))

  pub distance_stands : (k ≡ 2) ⊎ (k ≡ 4) → may_stand n b e r k ≡ (leb (n + b) r and ltb r (n + b + e))
  distance_stands q =
      stands_where (leb (n + b) r and ltb r (n + b + e))
      (λ h. ne_eqb k 1 (other 1 (λ z. omega arith) (λ z. omega arith) q) ∙ sym (and_false _ _ (lt-leb (n + b) r (omega arith))))
      (λ h m. ne_eqb k 5 (other 5 (λ z. omega arith) (λ z. omega arith) q) ∙ sym (and_false _ _ (lt-leb (n + b) r m)))
      (λ h m. one_of q ∙ sym (and_true (le-leb (n + b) r h) (lt-ltb r (n + b + e) m)))
      (λ h. ne_eqb k 3 (other 3 (λ z. omega arith) (λ z. omega arith) q) ∙ sym (and_no _ _ (le-ltb r (n + b + e) h)))
    where
      other : (v : ℕ) → v ≢ 2 → v ≢ 4 → (k ≡ 2) ⊎ (k ≡ 4) → k ≢ v
      other v a d (inl w) z = a (sym z ∙ w)
      other v a d (inr w) z = d (sym z ∙ w)

      one_of : (k ≡ 2) ⊎ (k ≡ 4) → (eqb k 2 or eqb k 4) ≡ true
      one_of (inl w) = or_left _ (eq-eqb k 2 w)
      one_of (inr w) = or_right _ (eq-eqb k 4 w)

  pub close_stands : k ≡ 3 → may_stand n b e r k ≡ leb (n + b + e) r
  close_stands q =
      stands_where (leb (n + b + e) r)
      (λ h. ne_eqb k 1 (λ z. omega arith) ∙ sym (lt-leb (n + b + e) r (omega arith)))
      (λ h m. ne_eqb k 5 (λ z. omega arith) ∙ sym (lt-leb (n + b + e) r (omega arith)))
      (λ h m. no_distance (λ z. omega arith) (λ z. omega arith) ∙ sym (lt-leb (n + b + e) r m))
      (λ h. eq-eqb k 3 q ∙ sym (le-leb (n + b + e) r h))

module _ (bytes : List ℕ) (r : ℕ) where
  pub component_wide : (j : ℕ) → kind bytes r ≡ 4 → half bytes (16 * r + (2 + 2 * j)) ≡ component_at bytes r j
  component_wide j h = sym (pick_true _ _ _ (eq-eqb (kind bytes r) 4 h))

  pub component_narrow : (j : ℕ) → kind bytes r ≢ 4 → get_or bytes (16 * r + (2 + j)) 0 ≡ component_at bytes r j
  component_narrow j h = sym (pick_false _ _ _ (ne_eqb (kind bytes r) 4 h))

  pub weight_wide : kind bytes r ≡ 4 → half bytes (16 * r + 10) ≡ weight_at bytes r
  weight_wide h = sym (pick_true _ _ _ (eq-eqb (kind bytes r) 4 h))

  pub weight_narrow : kind bytes r ≢ 4 → half bytes (16 * r + 6) ≡ weight_at bytes r
  weight_narrow h = sym (pick_false _ _ _ (ne_eqb (kind bytes r) 4 h))

  pub component_small : Bytes bytes → (j : ℕ) → component_at bytes r j < 65536
  unfolding pick
  component_small b j = go (eqb (kind bytes r) 4)
    where
      go : (t : Bool) → pick t (half bytes (16 * r + (2 + 2 * j))) (get_or bytes (16 * r + (2 + j)) 0) < 65536
      go true = half_small bytes b (16 * r + (2 + 2 * j))
      go false = omega (arith, b (16 * r + (2 + j)))

  pub weight_small : Bytes bytes → weight_at bytes r < 65536
  unfolding pick
  weight_small b = go (eqb (kind bytes r) 4)
    where
      go : (t : Bool) → pick t (half bytes (16 * r + 10)) (half bytes (16 * r + 6)) < 65536
      go true = half_small bytes b (16 * r + 10)
      go false = half_small bytes b (16 * r + 6)

  -- ---- line 18

  pub other_kind : kind bytes r ≢ 4 → narrow_at bytes r ≡ false
  other_kind h = and_false _ _ (ne_eqb (kind bytes r) 4 h)

  pub some_wide : (j v : ℕ) → j < 4 → v ≡ component_at bytes r j → 255 < v → narrow_at bytes r ≡ false
  some_wide j v l e h = and_no _ _ (every_not _ 4 j l (le-ltb (component_at bytes r j) 256 (rw e at h)))

  pub all_narrow : kind bytes r ≡ 4 → every (λ j. ltb (component_at bytes r j) 256) 4 ≡ true → narrow_at bytes r ≡ true
  all_narrow h k = and_true (eq-eqb (kind bytes r) 4 h) k

pub fits_byte : (v w : ℕ) → v ≡ w → v ≤ 255 → ltb w 256 ≡ true
fits_byte v w e h = lt-ltb w 256 (omega arith)

-- ---- lines 1 and 2

pub same_not : (t : Bool) → B.not t ≡ not t
unfolding not
same_not true = refl
same_not false = refl

module _ (bytes : List ℕ) where
  pub even_length : (length bytes ≡ 0 → ⊥) → B.not (eqb (length bytes % 16) 0) ≡ ragged bytes
  unfolding ragged ◌or◌
  even_length h = rw (ne_eqb (length bytes) 0 h) (same_not (eqb (length bytes % 16) 0))

  module _ (n r k : ℕ) where
    pub checked_plain : (k ≡ 1) ⊎ (k ≡ 2) → checked bytes n r k ≡ (blank bytes (16 * r + 1) 1 and blank bytes (16 * r + 8) 8)
    unfolding checked pick ◌or◌
    checked_plain (inl e) = rw e
    checked_plain (inr e) = rw e

    pub checked_close : k ≡ 3 → checked bytes n r k ≡ (ltb (get_or bytes (16 * r + 1) 0) 32 and blank bytes (16 * r + 2) 2 and blank bytes (16 * r + 8) 8)
    unfolding checked pick ◌or◌ ◌and◌
    checked_close e = rw e

    pub checked_wide : k ≡ 4 → checked bytes n r k ≡ (blank bytes (16 * r + 1) 1 and blank bytes (16 * r + 12) 4)
    unfolding checked pick ◌or◌
    checked_wide e = rw e

    pub checked_bound : k ≡ 5 → checked bytes n r k ≡ bound_fits bytes n r
    unfolding checked pick ◌or◌
    checked_bound e = rw e

    pub checked_none : (k ≡ 1 → ⊥) → (k ≡ 2 → ⊥) → (k ≡ 3 → ⊥) → (k ≡ 4 → ⊥) → (k ≡ 5 → ⊥) → checked bytes n r k ≡ false
    unfolding checked pick ◌or◌ ◌and◌
    checked_none a b d f g = rw (ne_eqb k 1 a, ne_eqb k 2 b, ne_eqb k 3 d, ne_eqb k 4 f, ne_eqb k 5 g)

  -- ---- a bound's checks, one after the other
  module _ (n r : ℕ) where
    pub bad_side : 2 ≤ get_or bytes (16 * r + 1) 0 → bound_fits bytes n r ≡ false
    unfolding bound_fits
    bad_side h = and_false _ _ (le-ltb (get_or bytes (16 * r + 1) 0) 2 h)

    pub bad_bounded : n ≤ get_or bytes (16 * r + 2) 0 → bound_fits bytes n r ≡ false
    unfolding bound_fits
    bad_bounded h = and_no _ _ (and_false _ _ (le-ltb (get_or bytes (16 * r + 2) 0) n h))

    pub bad_earlier : get_or bytes (16 * r + 2) 0 ≤ get_or bytes (16 * r + 3) 0 → bound_fits bytes n r ≡ false
    unfolding bound_fits
    bad_earlier h = and_no _ _ (and_no _ _ (and_false _ _ (le-ltb (get_or bytes (16 * r + 3) 0) (get_or bytes (16 * r + 2) 0) h)))

    pub bad_slope : 3 ≤ slope_at bytes r → bound_fits bytes n r ≡ false
    unfolding bound_fits
    bad_slope h = and_no _ _ (and_no _ _ (and_no _ _ (and_false _ _ (le-ltb (slope_at bytes r) 3 h))))

    pub bad_blank : blank bytes (16 * r + 5) 1 ≡ false → bound_fits bytes n r ≡ false
    unfolding bound_fits
    bad_blank h = and_no _ _ (and_no _ _ (and_no _ _ (and_no _ _ (and_false _ _ h))))

    pub bound_left : get_or bytes (16 * r + 1) 0 < 2 → get_or bytes (16 * r + 2) 0 < n → get_or bytes (16 * r + 3) 0 < get_or bytes (16 * r + 2) 0
        → slope_at bytes r < 3 → blank bytes (16 * r + 5) 1 ≡ true → bound_fits bytes n r ≡ blank bytes (16 * r + 8) 8
    unfolding bound_fits
    bound_left a d f g h =
        and_left _ _ (lt-ltb (get_or bytes (16 * r + 1) 0) 2 a)
        ∙ (and_left _ _ (lt-ltb (get_or bytes (16 * r + 2) 0) n d)
        ∙ (and_left _ _ (lt-ltb (get_or bytes (16 * r + 3) 0) (get_or bytes (16 * r + 2) 0) f)
        ∙ (and_left _ _ (lt-ltb (slope_at bytes r) 3 g) ∙ and_left _ _ h)))

  pub kinds_few : (k : ℕ) → of_kind bytes k ≤ records bytes
  unfolding of_kind
  kinds_few k = those_few (kind bytes) k (records bytes)

  module _ (n b e : ℕ) where
    -- by its kind: where it may stand, and its checks
    pub fits_by : (r : ℕ) (s t o : Bool) → may_stand n b e r (kind bytes r) ≡ s → checked bytes n r (kind bytes r) ≡ t → o ≡ (s and t) → o ≡ fits_at bytes n b e r
    unfolding fits_at
    fits_by r s t o h k q = q ∙ sym (rw (h, k))

    pub fits_no : (r : ℕ) → checked bytes n r (kind bytes r) ≡ false → fits_at bytes n b e r ≡ false
    unfolding fits_at
    fits_no r h = and_no _ _ h

    pub few_dimensions : n < 2 → well_formed bytes n b e ≡ false
    unfolding well_formed ◌and◌
    few_dimensions h = rw (lt-leb 2 n h)

    pub many_dimensions : 2 ≤ n → 4 < n → well_formed bytes n b e ≡ false
    unfolding well_formed ◌and◌
    many_dimensions a h = rw (le-leb 2 n a, lt-leb n 4 h)

    pub many_bounds : 2 ≤ n → n ≤ 4 → 4 < b → well_formed bytes n b e ≡ false
    unfolding well_formed ◌and◌
    many_bounds a c h = rw (le-leb 2 n a, le-leb n 4 c, lt-leb b 4 h)

    pub few_distances : 2 ≤ n → n ≤ 4 → b ≤ 4 → e < 1 → well_formed bytes n b e ≡ false
    unfolding well_formed ◌and◌
    few_distances a c g h = rw (le-leb 2 n a, le-leb n 4 c, le-leb b 4 g, lt-leb 1 e h)

    pub many_distances : 2 ≤ n → n ≤ 4 → b ≤ 4 → 1 ≤ e → 8 < e → well_formed bytes n b e ≡ false
    unfolding well_formed ◌and◌
    many_distances a c g d h = rw (le-leb 2 n a, le-leb n 4 c, le-leb b 4 g, le-leb 1 e d, lt-leb e 8 h)

    pub records_wrong : 2 ≤ n → n ≤ 4 → b ≤ 4 → 1 ≤ e → e ≤ 8 → records bytes ≢ n + b + e + 1 → well_formed bytes n b e ≡ false
    unfolding well_formed ◌and◌
    records_wrong a c g d f h = rw (le-leb 2 n a, le-leb n 4 c, le-leb b 4 g, le-leb 1 e d, le-leb e 8 f, ne_eqb (records bytes) (n + b + e + 1) h)

    pub records_fit : 2 ≤ n → n ≤ 4 → b ≤ 4 → 1 ≤ e → e ≤ 8 → records bytes ≡ n + b + e + 1
        → every (fits_at bytes n b e) (records bytes) ≡ well_formed bytes n b e
    unfolding well_formed
    records_fit a c g d f h =
        sym (and_left _ _ (le-leb 2 n a)
        ∙ (and_left _ _ (le-leb n 4 c)
        ∙ (and_left _ _ (le-leb b 4 g)
        ∙ (and_left _ _ (le-leb 1 e d) ∙ (and_left _ _ (le-leb e 8 f) ∙ and_left _ _ (eq-eqb (records bytes) (n + b + e + 1) h))))))

-- what a recipe has that passes line 2
pub record Formed (bytes : List ℕ) (n b e : ℕ) : Type 0 where
  pub dimensions_least : 2 ≤ n
  pub dimensions_most : n ≤ 4
  pub bounds_most : b ≤ 4
  pub distances_least : 1 ≤ e
  pub distances_most : e ≤ 8
  pub total : records bytes ≡ n + b + e + 1
  pub fit : every (fits_at bytes n b e) (records bytes) ≡ true

pub formed : (bytes : List ℕ) (n b e : ℕ) → well_formed bytes n b e ≡ true → Formed bytes n b e
unfolding well_formed
formed bytes n b e h =
    let p1 = both h in
    let p2 = both p1.1 in
    let p3 = both p2.1 in
    let p4 = both p3.1 in
    let p5 = both p4.1 in
    let p6 = both p5.1 in
    record {
      dimensions_least = leb-true 2 n p1.0;
      dimensions_most = leb-true n 4 p2.0;
      bounds_most = leb-true b 4 p3.0;
      distances_least = leb-true 1 e p4.0;
      distances_most = leb-true e 8 p5.0;
      total = eqb-true (records bytes) (n + b + e + 1) p6.0;
      fit = p6.1;
    }

-- ---- the lines of the nest

module _ (x : Nest) where
  pub large_yes : (p : ℕ) → p ≡ product (length_of x) x.dimensions → 16384 < p → too_large x ≡ true
  unfolding too_large cells
  large_yes p e h = lt-ltb 16384 _ (rw e at h)

  pub large_no : (p : ℕ) → p ≡ product (length_of x) x.dimensions → p ≤ 16384 → too_large x ≡ false
  unfolding too_large cells
  large_no p e h = le-ltb 16384 _ (rw e at h)

  -- a spread dimension after the unspread dimension j
  abbrev pub spread_after : ℕ → Bool
  spread_after j = not (is_spread x j) and is_spread x (j + 1)

  pub after_spread : (j : ℕ) → processor_count x j ≢ 0 → spread_after j ≡ false
  after_spread j h = and_false _ _ (not-true (lt-ltb 0 (processor_count x j) (omega arith)))

  pub after_no : (j : ℕ) → processor_count x (j + 1) ≤ 0 → spread_after j ≡ false
  after_no j h = and_no _ _ (le-ltb 0 _ h)

  pub first_unspread : processor_count x 0 ≡ 0 → bad_spread x ≡ true
  unfolding bad_spread
  first_unspread z = or_left _ (not-false (le-ltb 0 (processor_count x 0) (omega arith)))

  pub later_spread : (j : ℕ) → j < x.dimensions - 1 → processor_count x j ≡ 0 → 0 < processor_count x (j + 1) → bad_spread x ≡ true
  unfolding bad_spread
  later_spread j l z h = or_right _ (some_one spread_after _ j l (and_true (not-false (le-ltb 0 (processor_count x j) (omega arith))) (lt-ltb 0 _ h)))

  pub spread_well : processor_count x 0 ≢ 0 → some spread_after (x.dimensions - 1) ≡ false → bad_spread x ≡ false
  unfolding bad_spread
  spread_well h k = or_false (not-true (lt-ltb 0 (processor_count x 0) (omega arith))) k

  pub more_than_64 : (p : ℕ) → p ≡ product (processor_count x) x.spread → ltb 64 p ≡ bad_processors x
  unfolding bad_processors processors
  more_than_64 p e = ap (ltb 64) e

module _ (needless : Bool) (x : Nest) where
  no_line : first_of [] ≡ 0
  unfolding first_of
  no_line = refl

  pub line_3 : bad_length x ≡ true → first_of (nest_lines needless x) ≡ 3
  unfolding nest_lines
  line_3 h = first_true 3 (bad_length x) _ h

  module _ (h3 : bad_length x ≡ false) where
    pub line_4 : too_large x ≡ true → first_of (nest_lines needless x) ≡ 4
    unfolding nest_lines
    line_4 h = first_false 3 (bad_length x) _ h3 ∙ first_true 4 (too_large x) _ h

    module _ (h4 : too_large x ≡ false) where
      pub line_18 : needless ≡ true → first_of (nest_lines needless x) ≡ 18
      unfolding nest_lines
      line_18 h = first_false 3 (bad_length x) _ h3 ∙ (first_false 4 (too_large x) _ h4 ∙ first_true 18 needless _ h)

      module _ (h18 : needless ≡ false) where
        pub line_20 : no_cell x ≡ true → first_of (nest_lines needless x) ≡ 20
        unfolding nest_lines
        line_20 h = first_false 3 (bad_length x) _ h3 ∙ (first_false 4 (too_large x) _ h4 ∙ (first_false 18 needless _ h18 ∙ first_true 20 (no_cell x) _ h))

        module _ (h20 : no_cell x ≡ false) where
          to_5 : first_of (nest_lines needless x)
              ≡ first_of (line 5 (bad_distance x) ∷ line 6 (bad_tile x) ∷ line 16 (bad_spread x) ∷ line 17 (last_spread x) ∷ line 7 (bad_processors x)
              ∷ line 8 (too_many_tiles x) ∷ [])
          unfolding nest_lines
          to_5 = first_false 3 (bad_length x) _ h3 ∙ (first_false 4 (too_large x) _ h4 ∙ (first_false 18 needless _ h18 ∙ first_false 20 (no_cell x) _ h20))

          pub line_5 : bad_distance x ≡ true → first_of (nest_lines needless x) ≡ 5
          line_5 h = to_5 ∙ first_true 5 (bad_distance x) _ h

          module _ (h5 : bad_distance x ≡ false) where
            to_6 : first_of (nest_lines needless x)
                ≡ first_of (line 6 (bad_tile x) ∷ line 16 (bad_spread x) ∷ line 17 (last_spread x) ∷ line 7 (bad_processors x) ∷ line 8 (too_many_tiles x) ∷ [])
            to_6 = to_5 ∙ first_false 5 (bad_distance x) _ h5

            pub line_6 : bad_tile x ≡ true → first_of (nest_lines needless x) ≡ 6
            line_6 h = to_6 ∙ first_true 6 (bad_tile x) _ h

            module _ (h6 : bad_tile x ≡ false) where
              to_16 : first_of (nest_lines needless x)
                  ≡ first_of (line 16 (bad_spread x) ∷ line 17 (last_spread x) ∷ line 7 (bad_processors x) ∷ line 8 (too_many_tiles x) ∷ [])
              to_16 = to_6 ∙ first_false 6 (bad_tile x) _ h6

              pub line_16 : bad_spread x ≡ true → first_of (nest_lines needless x) ≡ 16
              line_16 h = to_16 ∙ first_true 16 (bad_spread x) _ h

              module _ (h16 : bad_spread x ≡ false) where
                pub line_17 : last_spread x ≡ true → first_of (nest_lines needless x) ≡ 17
                line_17 h = to_16 ∙ (first_false 16 (bad_spread x) _ h16 ∙ first_true 17 (last_spread x) _ h)

                module _ (h17 : last_spread x ≡ false) where
                  to_7 : first_of (nest_lines needless x) ≡ first_of (line 7 (bad_processors x) ∷ line 8 (too_many_tiles x) ∷ [])
                  to_7 = to_16 ∙ (first_false 16 (bad_spread x) _ h16 ∙ first_false 17 (last_spread x) _ h17)

                  pub line_7 : bad_processors x ≡ true → first_of (nest_lines needless x) ≡ 7
                  line_7 h = to_7 ∙ first_true 7 (bad_processors x) _ h

                  module _ (h7 : bad_processors x ≡ false) where
                    pub line_8 : too_many_tiles x ≡ true → first_of (nest_lines needless x) ≡ 8
                    line_8 h = to_7 ∙ (first_false 7 (bad_processors x) _ h7 ∙ first_true 8 (too_many_tiles x) _ h)

                    pub line_none : too_many_tiles x ≡ false → first_of (nest_lines needless x) ≡ 0
                    line_none h = to_7 ∙ (first_false 7 (bad_processors x) _ h7 ∙ (first_false 8 (too_many_tiles x) _ h ∙ no_line))

-- ---- the nest made of its parts

pub made : (bytes : List ℕ) (n b e m s o : ℕ) (l t p d w sd bd er sl of : List ℕ)
    → m ≡ length (keep (λ (j : ℕ). ltb 0 (half bytes (16 * j + 6))) n)
    → l ≡ filled 4 n (λ (j : ℕ). half bytes (16 * j + 2))
    → t ≡ filled 4 n (λ (j : ℕ). half bytes (16 * j + 4))
    → p ≡ filled 4 n (λ (j : ℕ). half bytes (16 * j + 6))
    → d ≡ filled 32 (4 * e) (λ (i : ℕ). component_at bytes (n + b + i / 4) (i % 4))
    → w ≡ filled 8 e (λ (i : ℕ). weight_at bytes (n + b + i))
    → sd ≡ filled 4 b (λ (k : ℕ). get_or bytes (16 * (n + k) + 1) 0)
    → bd ≡ filled 4 b (λ (k : ℕ). get_or bytes (16 * (n + k) + 2) 0)
    → er ≡ filled 4 b (λ (k : ℕ). get_or bytes (16 * (n + k) + 3) 0)
    → sl ≡ filled 4 b (λ (k : ℕ). slope_at bytes (n + k))
    → of ≡ filled 4 b (λ (k : ℕ). offset_at bytes (n + k))
    → s ≡ get_or bytes (16 * (n + b + e) + 1) 0
    → o ≡ word bytes (16 * (n + b + e) + 4)
    → ◌≡◌ {A = Nest}
    (record {
      dimensions = n;
      spread = m;
      distances = e;
      bounds = b;
      lengths = l;
      tiling = t;
      counts = p;
      components = d;
      weights = w;
      sides = sd;
      bounded = bd;
      earlier = er;
      slopes = sl;
      offsets = of;
      shift = s;
      boundary = o;
    })
    (nest_by bytes n b e)
unfolding nest_by
made bytes n b e m s o l t p d w sd bd er sl of hm hl ht hp hd hw h1 h2 h3 h4 h5 hs ho = rw (hm, hl, ht, hp, hd, hw, h1, h2, h3, h4, h5, hs, ho)
