-- Laws of words copied side by side: to the places of a row of cells, from one list's part to another's.
use Prim.Native.Nat.{ℕ, zero, suc, ◌+◌, ◌-◌, ◌≤◌, ◌<◌}
use mathlib.Core.Path.{◌≡◌, refl, sym, ap, ◌∙◌}
use mathlib.Core.List.{List, [], ◌∷◌, ◌++◌, append_assoc}
use native.Mathlib.Nat.{add-zero}
use native.Mathlib.Numerals.{add-one}
use native.Mathlib.Omega.{arith}
use borrow.Rule.Slice.PartMut.{put_mid}
use lib.ListN.{length, get_or, take, drop, set, length-append, length-take, length-drop}
use lib.Seq.{take-suc, take_at, get_or-drop, drop-cons, drop-drop, set_at, sets, sets-eq}
use Rattle.base.specs.Tests.{tabulate}
use Rattle.base.specs.Lists.{sublist, put, pack, unpack}
use Rattle.base.proofs.Lists.{part_length, put_is, put_none, length_put, pack_append}

-- ---- cells side by side

-- the words of a part are those of cells side by side
pub part_row : (l : List ℕ) (c n : ℕ) → c + n ≤ length l → sublist l c n ≡ pack l (tabulate (λ y. c + y) n)
unfolding sublist pack tabulate
part_row l c zero h = refl
part_row l c (suc n) h =
    take-suc (drop c l) n 0 (omega (arith, length-drop c l))
    ∙ ap (λ (v : ℕ). take n (drop c l) ++ (v ∷ [])) (get_or-drop c l n 0)
    ∙ ap (λ (k : List ℕ). k ++ (get_or l (c + n) 0 ∷ [])) (part_row l c n (omega arith))
    ∙ sym (pack_append l (tabulate (λ y. c + y) n) ((c + n) ∷ []))

row_cons : (c n : ℕ) → tabulate (λ y. c + y) (suc n) ≡ c ∷ tabulate (λ y. suc c + y) n
unfolding tabulate
row_cons c zero = ap (λ (k : ℕ). k ∷ []) (add-zero c)
row_cons c (suc n) =
    let e : c + suc n ≡ suc c + n = omega arith in
    ap (λ (k : List ℕ). k ++ ((c + suc n) ∷ [])) (row_cons c n) ∙ ap (λ (k : ℕ). c ∷ (tabulate (λ y. suc c + y) n ++ (k ∷ []))) e

unpack_sets : (ws l : List ℕ) (c : ℕ) → unpack l (tabulate (λ y. c + y) (length ws)) ws ≡ sets l c ws
unfolding unpack tabulate
unpack_sets [] l c = refl
unpack_sets (w ∷ ws) l c = ap (λ (cs : List ℕ). unpack l cs (w ∷ ws)) (row_cons c (length ws)) ∙ unpack_sets ws (set l c w) (suc c)

-- each word to its cell, where these stand side by side
pub unpack_put : (ws l : List ℕ) (c : ℕ) → c + length ws ≤ length l → unpack l (tabulate (λ y. c + y) (length ws)) ws ≡ put l c ws
unfolding put
unpack_put ws l c h =
    unpack_sets ws l c
    ∙ sets-eq ws l c h
    ∙ append_assoc (take c l) ws (drop (c + length ws) l)
    ∙ ap (λ (k : List ℕ). take c l ++ (ws ++ k)) (sym (drop-drop (length ws) c l))

-- the same of a part of another list
pub put_row : (l s : List ℕ) (c i n : ℕ) → c + n ≤ length l → i + n ≤ length s → put l c (sublist s i n) ≡ unpack l (tabulate (λ y. c + y) n) (sublist s i n)
put_row l s c i n h k =
    let long = part_length s i n k in
    sym (ap (λ (m : ℕ). unpack l (tabulate (λ y. c + y) m) (sublist s i n)) (sym long) ∙ unpack_put (sublist s i n) l c (omega arith))

-- ---- one word more

set_put : (l s : List ℕ) (i v : ℕ) → i + length s < length l → set (put l i s) (i + length s) v ≡ put l i (s ++ (v ∷ []))
set_put l s i v h =
    let one : length (s ++ (v ∷ [])) ≡ suc (length s) = simp length-append (omega arith) in
    let next : i + length (s ++ (v ∷ [])) ≡ suc (i + length s) = omega arith in
    ap (λ (z : List ℕ). set z (i + length s) v) (put_is l i s (omega arith))
    ∙ ap (λ (z : List ℕ). set ((take i l ++ s) ++ z) (i + length s) v) (drop-cons l (i + length s) 0 h)
    ∙ set_at (take i l ++ s) (get_or l (i + length s) 0) (drop (suc (i + length s)) l) v (i + length s) (simp (length-append, length-take) (omega arith))
    ∙ sym (put_is l i (s ++ (v ∷ [])) (omega arith)
    ∙ ap (λ (z : ℕ). (take i l ++ (s ++ (v ∷ []))) ++ drop z l) next
    ∙ simp append_assoc)

-- words copied to a part of a list: up to its first `i + length s`
pub take_put : (l s : List ℕ) (i : ℕ) → i + length s ≤ length l → take (i + length s) (put l i s) ≡ take i l ++ s
take_put l s i h =
    ap (take (i + length s)) (put_is l i s h)
    ∙ take_at (take i l ++ s) (drop (i + length s) l) (i + length s) (simp (length-append, length-take) (omega arith))

module _ (l s : List ℕ) (c i : ℕ) where
  pub copied_none : put l c (sublist s i 0) ≡ l
  unfolding sublist
  copied_none = put_none l c

  part_more : (y : ℕ) → i + y < length s → sublist s i (y + 1) ≡ sublist s i y ++ (get_or s (i + y) 0 ∷ [])
  unfolding sublist
  part_more y k =
      ap (λ (m : ℕ). take m (drop i s)) (add-one y)
      ∙ take-suc (drop i s) y 0 (omega (arith, length-drop i s))
      ∙ ap (λ (v : ℕ). take y (drop i s) ++ (v ∷ [])) (get_or-drop i s y 0)

  pub copied_more : (y : ℕ) → c + y < length l → i + y < length s
      → set (put l c (sublist s i y)) (c + y) (get_or s (i + y) 0) ≡ put l c (sublist s i (y + 1))
  copied_more y h k =
      let long = part_length s i y (omega arith) in
      ap (λ (m : ℕ). set (put l c (sublist s i y)) (c + m) (get_or s (i + y) 0)) (sym long)
      ∙ set_put l (sublist s i y) c (get_or s (i + y) 0) (omega arith)
      ∙ ap (put l c) (sym (part_more y k))

-- the first y words are copied
pub record Copies (to₀ from : List ℕ) (at first n : ℕ) (to : List ℕ) (y : ℕ) : Type 0 where
  pub low : y ≤ n
  pub is : to ≡ put to₀ at (sublist from first y)

module _ (to₀ from : List ℕ) (at first n : ℕ) where
  pub copies_none : Copies to₀ from at first n to₀ 0
  copies_none = record { low = omega arith; is = sym (copied_none to₀ from at first) }

  module _ (fits : at + n ≤ length to₀) (there : first + n ≤ length from) (to : List ℕ) (y : ℕ) (p : Copies to₀ from at first n to y) where
    pub copies_long : length to ≡ length to₀
    copies_long =
        let long = part_length from first y (omega (arith, p.low)) in
        ap length p.is ∙ length_put to₀ at (sublist from first y) (omega (arith, p.low))

    pub copies_more : y < n → Copies to₀ from at first n (set to (at + y) (get_or from (first + y) 0)) (y + 1)
    copies_more h =
        record {
          low = omega arith;
          is = ap (λ (z : List ℕ). set z (at + y) (get_or from (first + y) 0)) p.is ∙ copied_more to₀ from at first y (omega arith) (omega arith);
        }

    pub copies_end : n ≤ y → to ≡ put to₀ at (sublist from first n)
    copies_end h = let e : y ≡ n = omega (arith, p.low) in rw e at p.is

-- ---- a part of one list over a part of another

mid_put : (l ys : List ℕ) (a k : ℕ) → length ys ≡ k → put_mid a (a + k - a) l ys ≡ put l a ys
unfolding put
mid_put l ys a k e = let z : a + k - a ≡ length ys = omega arith in rw z

pub part_back : (l s ys : List ℕ) (a i n : ℕ) → i + n ≤ length s → ys ≡ take (i + n - i) (drop i s)
    → put_mid a (a + n - a) l ys ≡ put l a (sublist s i n)
unfolding sublist
part_back l s ys a i n k e =
    let z : i + n - i ≡ n = omega arith in
    let y : ys ≡ sublist s i n = e ∙ ap (λ (m : ℕ). take m (drop i s)) z in
    mid_put l ys a n (ap length y ∙ part_length s i n k) ∙ ap (put l a) y
