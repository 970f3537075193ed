-- For the proofs alone.
-- Chunks put together: bits of a mask, one chunk placed, and a whole list of chunks taken in.
use mathlib.Core.Path.{◌≡◌, refl, sym, ap, ◌∙◌}
use mathlib.Core.Logic.{◌≢◌, ◌⊎◌, inl, inr}
use mathlib.Core.Bool.{Bool, true, false}
use mathlib.Core.List.{List, [], ◌∷◌}
use Prim.Native.Nat.{ℕ, zero, suc, ◌+◌, ◌-◌, ◌*◌, ◌/◌, ◌%◌, ◌^◌, ◌≤◌, ◌<◌, min}
use native.Mathlib.Nat.{mod-lt, zero-lt-suc, div-add-mod', div-eq_of_lt, zero-div, one-mul, mul-mod_left, pow-suc}
use native.Mathlib.Decide.{ℕ_discrete, dec_lt}
use native.Mathlib.Omega.{arith}
use borrow.Author.Tests.{eq-eqb, lt-ltb, le-ltb, ltb-true}
use lib.ListN.{length, get_or, drop, length-take, length-drop}
use lib.Seq.{ext_get_or}
use lib.Dec.{eqb, ltb}
use lib.Pow.{pow-lt, pow-add, shl-shr}
use lib.Bits.{bit_or, or_shr, or_mod, or_zero_r}
use Rattle.base.specs.Tests.{not, pick}
use Rattle.base.specs.Lists.{sublist, put}
use Rattle.base.specs.Numbers.{line, first_of}
use Rattle.base.proofs.Tests.{both, and_true, not-true, true_not, never_both, every_at, every_all}
use Rattle.base.proofs.Lists.{length_put}
use Rattle.base.proofs.Entries.{part_at, put_same, put_rest}
use Rattle.base.proofs.Numbers.{first_nil, first_false, none_first}
use Rattle.packets.specs.Cut.{chunks_of, Chunk, cut, Assembly, assembly, there, complete, chunk_length, fits, placed, take_lines, taking_by}
use Rattle.packets.specs.Cut.{take_chunk_call, take_all, Comes, own, misfit, AllCome, Among, ChunksHold}

-- ---- bits

bit_or_lem : (m k j : ℕ) → bit_or m (2 ^ k) / 2 ^ j % 2 ≡ bit_or (m / 2 ^ j % 2) (2 ^ k / 2 ^ j % 2)
bit_or_lem m k j = ap (λ (x : ℕ). x % 2) (or_shr m (2 ^ k) j) ∙ or_mod (m / 2 ^ j) (2 ^ k / 2 ^ j) 1

bit_same : (k : ℕ) → 2 ^ k / 2 ^ k % 2 ≡ 1
bit_same k = ap (λ (x : ℕ). x % 2) (ap (λ (x : ℕ). x / 2 ^ k) (sym (one-mul (2 ^ k))) ∙ shl-shr 1 k)

bit_higher : (k j : ℕ) → k < j → 2 ^ k / 2 ^ j % 2 ≡ 0
bit_higher k j h = ap (λ (x : ℕ). x % 2) (div-eq_of_lt (pow-lt h))

bit_lower : (k j : ℕ) → j < k → 2 ^ k / 2 ^ j % 2 ≡ 0
bit_lower k j h =
    ap (λ (x : ℕ). 2 ^ x / 2 ^ j % 2) (let e : k ≡ suc (k - suc j) + j = omega arith in e)
    ∙ ap (λ (x : ℕ). x / 2 ^ j % 2) (pow-add 2 (suc (k - suc j)) j)
    ∙ ap (λ (x : ℕ). x % 2) (shl-shr (2 ^ suc (k - suc j)) j ∙ pow-suc 2 (k - suc j))
    ∙ mul-mod_left (2 ^ (k - suc j)) 2

bit_other : (k j : ℕ) → j ≢ k → 2 ^ k / 2 ^ j % 2 ≡ 0
bit_other k j ne = go (dec_lt k j)
  where
    go : Dec (k < j) → 2 ^ k / 2 ^ j % 2 ≡ 0
    go (yes h) = bit_higher k j h
    go (no h) = bit_lower k j (omega arith)

or_one : (x : ℕ) → x < 2 → bit_or x 1 ≡ 1
or_one zero h = refl
or_one (suc zero) h = refl
or_one (suc (suc x)) h = absurd (omega arith)

there_same : (m k : ℕ) → there (bit_or m (2 ^ k)) k ≡ true
unfolding there
there_same m k =
    eq-eqb (bit_or m (2 ^ k) / 2 ^ k % 2) 1
    (bit_or_lem m k k ∙ ap (bit_or (m / 2 ^ k % 2)) (bit_same k) ∙ or_one (m / 2 ^ k % 2) (mod-lt (m / 2 ^ k) (zero-lt-suc 1)))

there_other : (m k j : ℕ) → j ≢ k → there (bit_or m (2 ^ k)) j ≡ there m j
unfolding there
there_other m k j ne =
    ap (λ (x : ℕ). eqb x 1) (bit_or_lem m k j ∙ ap (bit_or (m / 2 ^ j % 2)) (bit_other k j ne) ∙ or_zero_r (m / 2 ^ j % 2))

there_none : (j : ℕ) → there 0 j ≡ false
unfolding there
there_none j = ap (λ (x : ℕ). eqb (x % 2) 1) (zero-div (2 ^ j))

there_stays : (m k j : ℕ) → there m j ≡ true → there (bit_or m (2 ^ k)) j ≡ true
there_stays m k j e = go (ℕ_discrete j k)
  where
    go : Dec (j ≡ k) → there (bit_or m (2 ^ k)) j ≡ true
    go (yes q) = ap (λ (x : ℕ). there (bit_or m (2 ^ k)) x) q ∙ there_same m k
    go (no q) = there_other m k j q ∙ e

-- ---- lengths

pub cut_length : (ws : List ℕ) (k : ℕ) → length (sublist ws (k * 285) 285) ≡ chunk_length (length ws) k
unfolding sublist
cut_length ws k = length-take 285 (drop (k * 285) ws) ∙ ap (min 285) (length-drop (k * 285) ws)

pub begins : (n k : ℕ) → k < chunks_of n → k * 285 ≤ n
unfolding chunks_of
begins n k h = omega (arith, div-add-mod' (n - 1) 285)

pub ends : (n k : ℕ) → k < chunks_of n → k * 285 + chunk_length n k ≤ n
ends n k h = omega (arith, begins n k h)

pub few : (n : ℕ) → n ≤ 18240 → chunks_of n ≤ 64
unfolding chunks_of
few n h = omega (arith, div-add-mod' (n - 1) 285)

covered : (n i : ℕ) → i < n → i / 285 < chunks_of n
unfolding chunks_of
covered n i h = omega (arith, div-add-mod' (n - 1) 285, div-add-mod' i 285, mod-lt (n - 1) (zero-lt-suc 284))

-- ---- one chunk placed

-- every chunk that is there is the message's
record Held (ws : List ℕ) (a : Assembly) : Type 0 where
  long : length a.area ≡ length ws
  right : (j i : ℕ) → there a.mask j ≡ true → i < 285 → j * 285 + i < length ws → get_or a.area (j * 285 + i) 0 ≡ get_or ws (j * 285 + i) 0

module _ (ws : List ℕ) (k : ℕ) (a : Assembly) (held : Held ws a) (below : k < chunks_of (length ws)) where
  abbrev words : List ℕ
  words = sublist ws (k * 285) 285

  fit : k * 285 + length words ≤ length a.area
  fit = omega (arith, ends (length ws) k below, cut_length ws k, held.long)

  held_put : Held ws (assembly (put a.area (k * 285) words) (bit_or a.mask (2 ^ k)))
  held_put =
      record { long = length_put a.area (k * 285) words fit ∙ held.long; right = λ j i t l m. go j i t l m (ℕ_discrete j k) }
    where
      go : (j i : ℕ) → there (bit_or a.mask (2 ^ k)) j ≡ true → i < 285 → j * 285 + i < length ws → Dec (j ≡ k)
          → get_or (put a.area (k * 285) words) (j * 285 + i) 0 ≡ get_or ws (j * 285 + i) 0
      go j i t l m (yes q) =
          ap (λ (x : ℕ). get_or (put a.area (k * 285) words) (x * 285 + i) 0) q
          ∙ put_same a.area (k * 285) words fit i (omega (arith, cut_length ws k, q))
          ∙ part_at ws (k * 285) 285 i l
          ∙ ap (λ (x : ℕ). get_or ws (x * 285 + i) 0) (sym q)
      go j i t l m (no q) =
          put_rest a.area (k * 285) words fit (j * 285 + i) (side (dec_lt j k))
          ∙ held.right j i (sym (there_other a.mask k j q) ∙ t) l m
        where
          side : Dec (j < k) → (j * 285 + i < k * 285) ⊎ (k * 285 + length words ≤ j * 285 + i)
          side (yes r) = inl (omega arith)
          side (no r) = inr (omega (arith, cut_length ws k))

  held_placed : Held ws (placed k words a)
  unfolding placed pick
  held_placed = go (there a.mask k)
    where
      go : (t : Bool) → Held ws (pick t a (assembly (put a.area (k * 285) words) (bit_or a.mask (2 ^ k))))
      go true = held
      go false = held_put

placed_stays : (k j : ℕ) (ws : List ℕ) (a : Assembly) → there a.mask j ≡ true → there (placed k ws a).mask j ≡ true
unfolding placed pick
placed_stays k j ws a e = go (there a.mask k)
  where
    go : (t : Bool) → there (pick t a (assembly (put a.area (k * 285) ws) (bit_or a.mask (2 ^ k)))).mask j ≡ true
    go true = e
    go false = there_stays a.mask k j e

placed_there : (k : ℕ) (ws : List ℕ) (a : Assembly) → there (placed k ws a).mask k ≡ true
unfolding placed pick
placed_there k ws a = go (there a.mask k) refl
  where
    go : (t : Bool) → there a.mask k ≡ t → there (pick t a (assembly (put a.area (k * 285) ws) (bit_or a.mask (2 ^ k)))).mask k ≡ true
    go true e = e
    go false e = there_same a.mask k

pub placed_again : (k : ℕ) (ws : List ℕ) (a : Assembly) → there a.mask k ≡ true → placed k ws a ≡ a
unfolding placed pick
placed_again k ws a e = ap (λ (t : Bool). pick t a (assembly (put a.area (k * 285) ws) (bit_or a.mask (2 ^ k)))) e

-- ---- one chunk taken in

pub fits_below : (n : ℕ) (c : Chunk) → fits n c ≡ true → c.chunk < chunks_of n
unfolding fits
fits_below n c e = ltb-true c.chunk (chunks_of n) (both (both e).1).0

fits_cut : (ws : List ℕ) (k : ℕ) → k < chunks_of (length ws) → fits (length ws) (cut ws k) ≡ true
unfolding fits cut
fits_cut ws k h =
    and_true (eq-eqb (chunks_of (length ws)) (chunks_of (length ws)) refl)
    (and_true (lt-ltb k (chunks_of (length ws)) h) (eq-eqb (length (sublist ws (k * 285) 285)) (chunk_length (length ws) k) (cut_length ws k)))

pub no_line : (c : Chunk) (n : ℕ) → first_of (take_lines c n) ≡ 0 → fits n c ≡ true
no_line c n z =
    let d = none_first 9 (ltb 18240 n) (line 11 (not (fits n c)) ∷ []) (λ q. omega arith) z in
    true_not (none_first 11 (not (fits n c)) [] (λ q. omega arith) d.1).0

pub no_lines : (c : Chunk) (n : ℕ) → n ≤ 18240 → fits n c ≡ true → first_of (take_lines c n) ≡ 0
no_lines c n h e = first_false 9 _ _ (le-ltb 18240 n h) ∙ first_false 11 _ _ (not-true e) ∙ first_nil

own_held : (ws : List ℕ) (c : Chunk) (a : Assembly) → Held ws a → fits (length a.area) c ≡ true → Comes ws c → Held ws (placed c.chunk c.words a)
unfolding cut
own_held ws c a held f (own k e) =
    rw e (held_placed ws k a held (rw e at (rw held.long at (fits_below (length a.area) c f))))
own_held ws c a held f (misfit e) = absurd (never_both (rw held.long at f) e)

held_take : (ws : List ℕ) (c : Chunk) (a : Assembly) → Held ws a → Comes ws c → Held ws (take_chunk_call c a).after
unfolding take_chunk_call
held_take ws c a held come = go (first_of (take_lines c (length a.area))) refl
  where
    go : (n : ℕ) → first_of (take_lines c (length a.area)) ≡ n → Held ws (taking_by n c a).after
    go zero z = own_held ws c a held (no_line c (length a.area) z) come
    go (suc n) z = held

take_stays : (c : Chunk) (a : Assembly) (j : ℕ) → there a.mask j ≡ true → there (take_chunk_call c a).after.mask j ≡ true
unfolding take_chunk_call
take_stays c a j e = go (first_of (take_lines c (length a.area)))
  where
    go : (n : ℕ) → there (taking_by n c a).after.mask j ≡ true
    go zero = placed_stays c.chunk j c.words a e
    go (suc n) = e

pub taken : (ws : List ℕ) (k : ℕ) (a : Assembly) → length ws ≤ 18240 → length a.area ≡ length ws → k < chunks_of (length ws)
    → (take_chunk_call (cut ws k) a).number ≡ 0
unfolding take_chunk_call
taken ws k a h e b = rw (e, no_lines (cut ws k) (length ws) h (fits_cut ws k b)) refl

take_there : (ws : List ℕ) (k : ℕ) (a : Assembly) → length ws ≤ 18240 → length a.area ≡ length ws → k < chunks_of (length ws)
    → there (take_chunk_call (cut ws k) a).after.mask k ≡ true
unfolding take_chunk_call cut
take_there ws k a h e b =
    ap (λ (n : ℕ). there (taking_by n (cut ws k) a).after.mask k)
    (ap (λ (n : ℕ). first_of (take_lines (cut ws k) n)) e ∙ no_lines (cut ws k) (length ws) h (fits_cut ws k b))
    ∙ placed_there k (sublist ws (k * 285) 285) a

pub refused : (c : Chunk) (a : Assembly) → ((take_chunk_call c a).number ≡ 0 → ⊥) → (take_chunk_call c a).after ≡ a
unfolding take_chunk_call
refused c a h = go (first_of (take_lines c (length a.area))) h
  where
    go : (n : ℕ) → ((taking_by n c a).number ≡ 0 → ⊥) → (taking_by n c a).after ≡ a
    go zero k = absurd (k refl)
    go (suc n) k = refl

pub repeated : (c : Chunk) (a : Assembly) → there a.mask c.chunk ≡ true → (take_chunk_call c a).after ≡ a
unfolding take_chunk_call
repeated c a e = go (first_of (take_lines c (length a.area)))
  where
    go : (n : ℕ) → (taking_by n c a).after ≡ a
    go zero = placed_again c.chunk c.words a e
    go (suc n) = refl

-- ---- a list of them

held_all : (ws : List ℕ) (cs : List Chunk) (a : Assembly) → Held ws a → AllCome ws cs → Held ws (take_all cs a)
unfolding take_all
held_all ws [] a held come = held
held_all ws (c ∷ cs) a held come = held_all ws cs (take_chunk_call c a).after (held_take ws c a held come.0) come.1

held_start : (ws area : List ℕ) → length area ≡ length ws → Held ws (assembly area 0)
held_start ws area e = record { long = e; right = λ j i t l m. absurd (never_both t (there_none j)) }

held_whole : (ws : List ℕ) (a : Assembly) → Held ws a → complete (chunks_of (length ws)) a.mask ≡ true → a.area ≡ ws
unfolding complete
held_whole ws a held e = ext_get_or 0 a.area ws held.long (λ i h. at i (rw held.long at h))
  where
    at : (i : ℕ) → i < length ws → get_or a.area i 0 ≡ get_or ws i 0
    at i h =
        ap (λ (x : ℕ). get_or a.area x 0) (sym (div-add-mod' i 285))
        ∙ held.right (i / 285) (i % 285) (every_at (there a.mask) (chunks_of (length ws)) e (i / 285) (covered (length ws) i h))
        (mod-lt i (zero-lt-suc 284)) (rw (div-add-mod' i 285) h)
        ∙ ap (λ (x : ℕ). get_or ws x 0) (div-add-mod' i 285)

pub assembled : (ws area : List ℕ) (cs : List Chunk) → length area ≡ length ws → AllCome ws cs
    → complete (chunks_of (length ws)) (take_all cs (assembly area 0)).mask ≡ true → (take_all cs (assembly area 0)).area ≡ ws
assembled ws area cs e come w =
    held_whole ws (take_all cs (assembly area 0)) (held_all ws cs (assembly area 0) (held_start ws area e) come) w

all_stay : (cs : List Chunk) (a : Assembly) (j : ℕ) → there a.mask j ≡ true → there (take_all cs a).mask j ≡ true
unfolding take_all
all_stay [] a j e = e
all_stay (c ∷ cs) a j e = all_stay cs (take_chunk_call c a).after j (take_stays c a j e)

module _ (ws : List ℕ) (short : length ws ≤ 18240) (k : ℕ) (below : k < chunks_of (length ws)) where
  first_there : (c : Chunk) (a : Assembly) → Held ws a → c ≡ cut ws k → there (take_chunk_call c a).after.mask k ≡ true
  first_there c a held e = rw e (take_there ws k a short held.long below)

  all_there : (cs : List Chunk) (a : Assembly) → Held ws a → AllCome ws cs → Among ws k cs → there (take_all cs a).mask k ≡ true
  unfolding take_all
  all_there [] a held come m = absurd m
  all_there (c ∷ cs) a held come (inl e) = all_stay cs (take_chunk_call c a).after k (first_there c a held e)
  all_there (c ∷ cs) a held come (inr m) = all_there cs (take_chunk_call c a).after (held_take ws c a held come.0) come.1 m

pub arrives : (ws area : List ℕ) (cs : List Chunk) → length ws ≤ 18240 → length area ≡ length ws → AllCome ws cs
    → ((k : ℕ) → k < chunks_of (length ws) → Among ws k cs) → complete (chunks_of (length ws)) (take_all cs (assembly area 0)).mask ≡ true
unfolding complete
arrives ws area cs h e come m =
    every_all (there (take_all cs (assembly area 0)).mask) (chunks_of (length ws))
    (λ k l. all_there ws h k l cs (assembly area 0) (held_start ws area e) come (m k l))

pub chunks_hold : ChunksHold
chunks_hold = record { few = few; taken = taken; refused = refused; repeated = repeated; assembled = assembled; arrives = arrives }
