-- For the proofs alone.
-- What the functions of chunks answer, return by return.
use mathlib.Core.Path.{◌≡◌, refl, sym, ap, ap₂, ◌∙◌}
use mathlib.Core.Bool.{Bool, true, false}
use mathlib.Core.List.{List, [], ◌∷◌}
use mir.Val.{bool_byte}
use Prim.Native.Nat.{ℕ, zero, suc, ◌+◌, ◌*◌, ◌/◌, ◌%◌, ◌^◌, ◌≤◌, ◌<◌, min, max}
use native.Mathlib.Nat.{add-zero, zero-add}
use native.Mathlib.Omega.{arith}
use borrow.Author.Tests.{eq-eqb, ne_eqb, eqb-true, lt-ltb, le-ltb, ltb-false}
use borrow.Rule.Slice.PartMut.{put_mid}
use lib.ListN.{length}
use lib.Dec.{eqb, ltb}
use lib.Bits.{bit_or}
use Rattle.base.specs.Tests.{not, pick, one}
use Rattle.base.specs.Lists.{put}
use Rattle.base.specs.Numbers.{line, first_of}
use Rattle.base.proofs.Tests.{both, and_true, and_false, and_no, not-false, is_true, never_both, same_test, every_at, every_all}
use Rattle.base.proofs.Numbers.{first_true, first_false, none_first}
use Rattle.std.specs.List.{list_all, range_with_len}
use Rattle.std.proofs.lemmas.List.Folds.{list_all_at}
use Rattle.std.proofs.lemmas.List.FromFn.{length-range_with_len, get_or-range_with_len}
use Rattle.base.specs.Refusals.{code}
use Rattle.base.specs.declared.refusal.Refusal.{Refusal}
use Rattle.base.proofs.Codes.{code_some}
use Rattle.packets.specs.Cut.{chunks_of, Chunk, Assembly, assembly, there, complete, chunk_length, fits, placed, take_lines, Taking}
use Rattle.packets.specs.Cut.{taking_by, take_chunk_call, taking_of}
use Rattle.packets.proofs.Assembling.{few, ends, placed_again, fits_below, no_line, no_lines}

-- ---- how many

pub chunks_by : (n m r : ℕ) → m ≡ max n 1 → r ≡ m / 285 + min 1 (m % 285) → r ≡ chunks_of n
unfolding chunks_of
chunks_by n m r e f = omega arith

-- ---- bits

all_true : (f : ℕ → Bool) (a n : ℕ) → ((i : ℕ) → i < n → f (a + i) ≡ true) → list_all f (range_with_len a n) ≡ true
all_true f a zero h = refl
all_true f a (suc n) h =
    let here : f a ≡ true = ap f (sym (add-zero a)) ∙ h 0 (omega arith) in
    rw here (all_true f (a + 1) n (λ i l. ap f (let k : a + 1 + i ≡ a + suc i = omega arith in k) ∙ h (suc i) (omega arith)))

pub complete_by : (mask n : ℕ) → list_all (there mask) (range_with_len 0 n) ≡ complete n mask
unfolding complete
complete_by mask n =
    same_test (λ h. every_all (there mask) n (λ i l. is_true (λ e. never_both h
    (list_all_at (there mask) (range_with_len 0 n) i 0 (omega (arith, length-range_with_len 0 n))
    (ap (there mask) (get_or-range_with_len 0 n i 0 l ∙ zero-add i) ∙ e)))))
    (λ h. all_true (there mask) 0 n (λ i l. ap (there mask) (zero-add i) ∙ every_at (there mask) n h i l))

-- ---- the number

module _ (c : Chunk) (n : ℕ) where
  pub number_long : 18240 < n → 9 ≡ first_of (take_lines c n)
  number_long h = sym (first_true 9 _ _ (lt-ltb 18240 n h))

  number_misfit : n ≤ 18240 → fits n c ≡ false → 11 ≡ first_of (take_lines c n)
  number_misfit h e = sym (first_false 9 _ _ (le-ltb 18240 n h) ∙ first_true 11 _ _ (not-false e))

  pub number_chunks : n ≤ 18240 → (c.chunks ≡ chunks_of n → ⊥) → 11 ≡ first_of (take_lines c n)
  unfolding fits
  number_chunks h k = number_misfit h (and_false _ _ (ne_eqb c.chunks (chunks_of n) k))

  pub number_chunk : n ≤ 18240 → chunks_of n ≤ c.chunk → 11 ≡ first_of (take_lines c n)
  unfolding fits
  number_chunk h k = number_misfit h (and_no (eqb c.chunks (chunks_of n)) _ (and_false _ _ (le-ltb c.chunk (chunks_of n) k)))

  pub number_count : n ≤ 18240 → (length c.words ≡ chunk_length n c.chunk → ⊥) → 11 ≡ first_of (take_lines c n)
  unfolding fits
  number_count h k =
      number_misfit h (and_no (eqb c.chunks (chunks_of n)) _
      (and_no (ltb c.chunk (chunks_of n)) _ (ne_eqb (length c.words) (chunk_length n c.chunk) k)))

  pub number_none : n ≤ 18240 → c.chunks ≡ chunks_of n → c.chunk < chunks_of n → length c.words ≡ chunk_length n c.chunk
      → 0 ≡ first_of (take_lines c n)
  unfolding fits
  number_none h e l k =
      sym (no_lines c n h
      (and_true (eq-eqb c.chunks (chunks_of n) e) (and_true (lt-ltb c.chunk (chunks_of n) l)
      (eq-eqb (length c.words) (chunk_length n c.chunk) k))))

-- what is known where no line is true
pub record Fitting (c : Chunk) (n : ℕ) : Type 0 where
  pub chunks : c.chunks ≡ chunks_of n
  pub few_chunks : c.chunks ≤ 64
  pub low : c.chunk < 64
  pub room : c.chunk * 285 + length c.words ≤ n

pub fitting : (c : Chunk) (n : ℕ) → first_of (take_lines c n) ≡ 0 → Fitting c n
unfolding fits
fitting c n z =
    let d = none_first 9 (ltb 18240 n) (line 11 (not (fits n c)) ∷ []) (λ q. omega arith) z in
    let h : n ≤ 18240 = ltb-false 18240 n d.0 in
    let f = both (no_line c n z) in
    let below = fits_below n c (no_line c n z) in
    let same : c.chunks ≡ chunks_of n = eqb-true c.chunks (chunks_of n) f.0 in
    let long : length c.words ≡ chunk_length n c.chunk = eqb-true (length c.words) (chunk_length n c.chunk) (both f.1).1 in
    record {
      chunks = same;
      few_chunks = omega (arith, same, few n h);
      low = omega (arith, below, few n h);
      room = omega (arith, long, ends n c.chunk below);
    }

-- ---- placed

pub placed_same : (k : ℕ) (ws area : List ℕ) (mask : ℕ) → there mask k ≡ true → assembly area mask ≡ placed k ws (assembly area mask)
placed_same k ws area mask e = sym (placed_again k ws (assembly area mask) e)

pub placed_new : (k n : ℕ) (ws ys area : List ℕ) (mask r : ℕ) → there mask k ≡ false → n ≡ length ws → ys ≡ ws
    → r ≡ bit_or mask (2 ^ k) → assembly (put_mid (k * 285) n area ys) r ≡ placed k ws (assembly area mask)
unfolding placed pick put
placed_new k n ws ys area mask r e en ey er =
    ap₂ assembly (ap₂ (λ (x : ℕ) (l : List ℕ). put_mid (k * 285) x area l) en ey) er
    ∙ sym (ap (λ (t : Bool). pick t (assembly area mask) (assembly (put area (k * 285) ws) (bit_or mask (2 ^ k)))) e)

-- ---- taken in

pub byte_one : (b : Bool) → bool_byte b ≡ one b
unfolding one
byte_one true = refl
byte_one false = refl

module _ (c : Chunk) (area : List ℕ) (mask : ℕ) where
  pub taken_refused : (r : Refusal) (n : ℕ) → n ≡ code r → code r ≡ first_of (take_lines c (length area))
      → taking_of (record { number = n; whole = 0; mask = mask }) area ≡ take_chunk_call c (assembly area mask)
  unfolding take_chunk_call
  taken_refused r n en e = go n (λ z. code_some r (sym en ∙ z)) ∙ ap (λ (x : ℕ). taking_by x c (assembly area mask)) (en ∙ e)
    where
      go : (x : ℕ) → (x ≡ 0 → ⊥) → taking_of (record { number = x; whole = 0; mask = mask }) area ≡ taking_by x c (assembly area mask)
      go zero k = absurd (k refl)
      go (suc x) k = refl

  pub taken_done : (out : List ℕ) (now w : ℕ) (t : Bool) → 0 ≡ first_of (take_lines c (length area))
      → assembly out now ≡ placed c.chunk c.words (assembly area mask) → t ≡ complete c.chunks now → w ≡ one t
      → taking_of (record { number = 0; whole = w; mask = now }) out ≡ take_chunk_call c (assembly area mask)
  unfolding take_chunk_call
  taken_done out now w t z e et ew =
      ap₂ (λ (x : ℕ) (a : Assembly). taking x a)
      (ew ∙ ap one (et ∙ ap (λ (a : Assembly). complete c.chunks a.mask) e)) e
      ∙ ap (λ (x : ℕ). taking_by x c (assembly area mask)) z
    where
      taking : ℕ → Assembly → Taking
      taking x a = record { number = 0; whole = x; after = a }
