-- Laws of one processor's part and of the areas that have it: what is put in is taken out again, and where a handled message stands in the part.
use Rattle.std.specs.Prelude.{◌≡◌, ℕ, zero, suc, ◌+◌, ◌<◌, ◌≤◌, Bool, true, false, ◌⊎◌, List, [], ◌∷◌, ◌++◌, length, get_or, take, drop, set}
use mathlib.Core.Path.{refl, sym, ap, ◌∙◌}
use mathlib.Core.Logic.{inl, inr}
use mathlib.Core.List.{append_assoc}
use native.Mathlib.Omega.{arith}
use native.Mathlib.Decide.{ℕ_discrete}
use native.Mathlib.Nat.{eq-or-lt_of_le, le_of_suc-le-suc}
use lib.ListN.{length-append, length-drop, length-set, take-append-drop}
use lib.Seq.{take-append_seam, drop-append_seam, length-take-le, get_or-set_same, get_or-set_other, ext_get_or}
use Rattle.base.specs.Tests.{keep_if, keep}
use Rattle.base.specs.Lists.{In, Rising, sublist, put, set_all, all_at, unpack, pack}
use Rattle.base.proofs.Select.{in_append, keep_in, keep_lt, keep_at, at_keep}
use Rattle.base.proofs.Lists.{AllBelow, part_length, length_put, pack_length}
use Rattle.base.proofs.Entries.{pack_at, unpack_at}
use Rattle.machine.specs.Plan.{Plan, count, held_by, offset, words}
use Rattle.machine.specs.Machine.{place_of}
use Rattle.machine.proofs.Values.{offset_apart}
use Rattle.network.specs.Own.{mail_of, put_mail}
use Rattle.network.proofs.Letters.{words_fit, words_there, words_other}
use Rattle.part.specs.Part.{words_of}
use Rattle.part.proofs.Handling.{words_append}

-- ---- selections

in_one : (t : Bool) (n k : ℕ) → In k (keep_if t n) → k ≡ n
in_one true n k (inl e) = e
in_one true n k (inr i) = absurd i
in_one false n k i = absurd i

-- a kept number, what is kept before it and behind it
abbrev Split : (ℕ → Bool) → ℕ → ℕ → Type 0
Split f n m = (rest : List ℕ) × (keep f n ≡ keep f m ++ (m ∷ rest)) × ((k : ℕ) → In k rest → (m < k) × (k < n))

pub keep_split : (f : ℕ → Bool) (n m : ℕ) → m < n → f m ≡ true → Split f n m
unfolding keep
keep_split f zero m l e = absurd (omega arith)
keep_split f (suc n) m l e = go (eq-or-lt_of_le (le_of_suc-le-suc l)) (λ q. keep_split f n m q e)
  where
    go : (m ≡ n) ⊎ (m < n) → (m < n → Split f n m)
        → (rest : List ℕ) × (keep f n ++ keep_if (f n) n ≡ keep f m ++ (m ∷ rest)) × ((k : ℕ) → In k rest → (m < k) × (k < suc n))
    go (inl q) ih = ([], rw (← q, e), λ k i. absurd i)
    go (inr q) ih =
        let r : Split f n m = ih q in (
          r.0 ++ keep_if (f n) n,
          ap (λ (z : List ℕ). z ++ keep_if (f n) n) r.1 ∙ append_assoc (keep f m) (m ∷ r.0) (keep_if (f n) n),
          λ k i. behind r k (in_append k r.0 (keep_if (f n) n) i),
        )
      where
        behind : (r : Split f n m) (k : ℕ) → In k r.0 ⊎ In k (keep_if (f n) n) → (m < k) × (k < suc n)
        behind r k (inl i) = let z = r.2 k i in (z.0, omega (arith, z.1))
        behind r k (inr i) = let z = in_one (f n) n k i in (omega (arith, z), omega (arith, z))

-- ---- words at places

-- what is unpacked is packed again
pub pack_unpack : (cs ws s : List ℕ) → Rising cs → length ws ≡ length cs → AllBelow (length s) cs → pack (unpack s cs ws) cs ≡ ws
pack_unpack cs ws s up e low =
    ext_get_or 0 (pack (unpack s cs ws) cs) ws (pack_length cs (unpack s cs ws) ∙ sym e)
    (λ q l. let k : q < length cs = omega (arith, pack_length cs (unpack s cs ws)) in
    pack_at cs (unpack s cs ws) q k ∙ unpack_at cs ws s q up e low k)

-- the word at a kept place stands at its rank; one store there is one store at its rank
module _ (f : ℕ → Bool) (n : ℕ) where
  pub rank_at : (l : List ℕ) (m : ℕ) → m < n → f m ≡ true → get_or (pack l (keep f n)) (length (keep f m)) 0 ≡ get_or l m 0
  rank_at l m lo e =
      pack_at (keep f n) l (length (keep f m)) (keep_lt f n m lo e) ∙ ap (λ (i : ℕ). get_or l i 0) (keep_at f n m lo e)

  pub rank_set : (l : List ℕ) (m v : ℕ) → n ≤ length l → m < n → f m ≡ true
      → pack (set l m v) (keep f n) ≡ set (pack l (keep f n)) (length (keep f m)) v
  rank_set l m v long lo e =
      ext_get_or 0 (pack (set l m v) (keep f n)) (set (pack l (keep f n)) (length (keep f m)) v)
      (pack_length (keep f n) (set l m v) ∙ sym (length-set (pack l (keep f n)) (length (keep f m)) v ∙ pack_length (keep f n) l))
      (λ q h. let k : q < length (keep f n) = omega (arith, pack_length (keep f n) (set l m v)) in
      pack_at (keep f n) (set l m v) q k ∙ go q k (ℕ_discrete q (length (keep f m))))
    where
      go : (q : ℕ) → q < length (keep f n) → Dec (q ≡ length (keep f m))
          → get_or (set l m v) (get_or (keep f n) q 0) 0 ≡ get_or (set (pack l (keep f n)) (length (keep f m)) v) q 0
      go q k (yes z) =
          rw (z, keep_at f n m lo e)
          (get_or-set_same l m v 0 (omega arith)
          ∙ sym (get_or-set_same (pack l (keep f n)) (length (keep f m)) v 0 (rw (pack_length (keep f n) l) (keep_lt f n m lo e))))
      go q k (no z) =
          let r = at_keep f n q k in
          get_or-set_other l m (get_or (keep f n) q 0) v 0 (λ y. z (sym r.4 ∙ ap (λ (i : ℕ). length (keep f i)) (sym r.1 ∙ y)))
          ∙ sym (pack_at (keep f n) l q k)
          ∙ sym (get_or-set_other (pack l (keep f n)) (length (keep f m)) q v 0 z)

  -- the same of a list of kept places, whose ranks a table tells
  pub ranks_set : (ordinals : List ℕ) (v : ℕ) (ms l : List ℕ) → n ≤ length l
      → ((m : ℕ) → In m ms → (m < n) × (f m ≡ true) × (get_or ordinals m 0 ≡ length (keep f m)))
      → pack (set_all l ms v) (keep f n) ≡ set_all (pack l (keep f n)) (pack ordinals ms) v
  unfolding set_all pack
  ranks_set ordinals v [] l long h = refl
  ranks_set ordinals v (m ∷ ms) l long h =
      let k = h m (inl refl) in
      ranks_set ordinals v ms (set l m v) (rw (length-set l m v) long) (λ i j. h i (inr j))
      ∙ ap (λ (z : List ℕ). set_all z (pack ordinals ms) v) (rank_set l m v long k.0 k.1 ∙ ap (λ (r : ℕ). set (pack l (keep f n)) r v) (sym k.2))

  pub ranks_all : (ordinals l : List ℕ) (v : ℕ) (ms : List ℕ)
      → ((m : ℕ) → In m ms → (m < n) × (f m ≡ true) × (get_or ordinals m 0 ≡ length (keep f m)))
      → all_at (pack l (keep f n)) v (pack ordinals ms) ≡ all_at l v ms
  unfolding all_at pack
  ranks_all ordinals l v [] h = refl
  ranks_all ordinals l v (m ∷ ms) h =
      let k = h m (inl refl) in
      let a = ap (λ (r : ℕ). get_or (pack l (keep f n)) r 0) k.2 ∙ rank_at l m k.0 k.1 in
      let b = ranks_all ordinals l v ms (λ i j. h i (inr j)) in
      cc

-- ---- the middle of three pieces
module _ (xs ys zs : List ℕ) (i : ℕ) (at : i ≡ length xs) where
  rest_there : drop i (xs ++ (ys ++ zs)) ≡ ys ++ zs
  rest_there = ap (λ (k : ℕ). drop k (xs ++ (ys ++ zs))) at ∙ drop-append_seam xs (ys ++ zs)

  part_middle : (n : ℕ) → n ≡ length ys → sublist (xs ++ (ys ++ zs)) i n ≡ ys
  unfolding sublist
  part_middle n e = ap (take n) rest_there ∙ ap (λ (k : ℕ). take k (ys ++ zs)) e ∙ take-append_seam ys zs

  put_middle : (ws : List ℕ) → length ws ≡ length ys → put (xs ++ (ys ++ zs)) i ws ≡ xs ++ (ws ++ zs)
  unfolding put
  put_middle ws e =
      let a : take i (xs ++ (ys ++ zs)) ≡ xs = ap (λ (k : ℕ). take k (xs ++ (ys ++ zs))) at ∙ take-append_seam xs (ys ++ zs) in
      let b : drop (length ws) (drop i (xs ++ (ys ++ zs))) ≡ zs =
      ap (drop (length ws)) rest_there ∙ ap (λ (k : ℕ). drop k (ys ++ zs)) e ∙ drop-append_seam ys zs in
      cc

-- ---- mail
module _ (p : Plan) where
  pub mail_append : (x ks ls : List ℕ) → mail_of p x (ks ++ ls) ≡ mail_of p x ks ++ mail_of p x ls
  unfolding mail_of
  mail_append x [] ls = refl
  mail_append x (m ∷ ks) ls =
      ap (λ (z : List ℕ). place_of p x m ++ z) (mail_append x ks ls) ∙ sym (append_assoc (place_of p x m) (mail_of p x ks) (mail_of p x ls))

  pub mail_like : (ms x y : List ℕ) → ((m : ℕ) → In m ms → place_of p x m ≡ place_of p y m) → mail_of p x ms ≡ mail_of p y ms
  unfolding mail_of
  mail_like [] x y h = refl
  mail_like (m ∷ ms) x y h =
      let a = h m (inl refl) in
      let b = mail_like ms x y (λ k i. h k (inr i)) in
      cc

  -- how long the words of these messages are together
  module _ (f : ℕ → Bool) (m : ℕ) (lo : m < count p) (e : f m ≡ true) where
    pub words_room : words_of p (keep f m) + length (held_by p m) ≤ words_of p (keep f (count p))
    unfolding words_of
    words_room =
        let c = keep_split f (count p) m lo e in
        omega (arith, ap (words_of p) c.1 ∙ words_append p (keep f m) (m ∷ c.0))

  module _ (x : List ℕ) (long : length x ≡ words p) where
    pub place_long : (m : ℕ) → m < count p → length (place_of p x m) ≡ length (held_by p m)
    place_long m lo = part_length x (offset p.messages m) (length (held_by p m)) (rw long (offset_apart p.messages m (count p) lo lo))

    pub mail_long : (ms : List ℕ) → ((m : ℕ) → In m ms → m < count p) → length (mail_of p x ms) ≡ words_of p ms
    unfolding mail_of words_of
    mail_long [] low = refl
    mail_long (m ∷ ms) low =
        length-append (place_of p x m) (mail_of p x ms)
        ∙ rw (place_long m (low m (inl refl)), mail_long ms (λ k i. low k (inr i)))

    -- a message among those that pass the test, in the mail of these
    module _ (f : ℕ → Bool) (m : ℕ) (lo : m < count p) (e : f m ≡ true) where
      abbrev behind : List ℕ
      behind = (keep_split f (count p) m lo e).0

      before_low : (k : ℕ) → In k (keep f m) → k < count p
      before_low k i = let z = keep_in f m k i in omega (arith, z.0)

      mail_cut : (y : List ℕ) → mail_of p y (keep f (count p)) ≡ mail_of p y (keep f m) ++ (place_of p y m ++ mail_of p y behind)
      unfolding mail_of
      mail_cut y = ap (mail_of p y) (keep_split f (count p) m lo e).1 ∙ mail_append y (keep f m) (m ∷ behind)

      begins : words_of p (keep f m) ≡ length (mail_of p x (keep f m))
      begins = sym (mail_long (keep f m) before_low)

      pub mail_part : sublist (mail_of p x (keep f (count p))) (words_of p (keep f m)) (length (held_by p m)) ≡ place_of p x m
      mail_part =
          ap (λ (z : List ℕ). sublist z (words_of p (keep f m)) (length (held_by p m))) (mail_cut x)
          ∙ part_middle (mail_of p x (keep f m)) (place_of p x m) (mail_of p x behind) (words_of p (keep f m)) begins (length (held_by p m)) (sym (place_long m lo))

      pub mail_put : (ws : List ℕ) → length ws ≡ length (held_by p m)
          → mail_of p (put x (offset p.messages m) ws) (keep f (count p)) ≡ put (mail_of p x (keep f (count p))) (words_of p (keep f m)) ws
      mail_put ws n =
          let y : List ℕ = put x (offset p.messages m) ws in
          let a : mail_of p (put x (offset p.messages m) ws) (keep f m) ≡ mail_of p x (keep f m) =
          mail_like (keep f m) y x (λ k i. words_other p x m ws long lo n k (before_low k i) (λ q. let z = (keep_in f m k i).0 in omega (arith, z, q))) in
          let b : place_of p (put x (offset p.messages m) ws) m ≡ ws = words_there p x m ws long lo n in
          let c : mail_of p (put x (offset p.messages m) ws) behind ≡ mail_of p x behind =
          mail_like behind y x
          (λ k i. let z = (keep_split f (count p) m lo e).2 k i in words_other p x m ws long lo n k z.1 (λ q. let w = z.0 in omega (arith, w, q))) in
          mail_cut y
          ∙ (let d : mail_of p (put x (offset p.messages m) ws) (keep f m)
          ++ (place_of p (put x (offset p.messages m) ws) m ++ mail_of p (put x (offset p.messages m) ws) behind)
          ≡ mail_of p x (keep f m) ++ (ws ++ mail_of p x behind) = cc in d)
          ∙ sym (put_middle (mail_of p x (keep f m)) (place_of p x m) (mail_of p x behind) (words_of p (keep f m)) begins ws (n ∙ sym (place_long m lo)))
          ∙ ap (λ (z : List ℕ). put z (words_of p (keep f m)) ws) (sym (mail_cut x))

  -- any words of that length, put into a buffer, are its mail
  abbrev first : List ℕ → ℕ → List ℕ
  first mail m = take (length (held_by p m)) mail

  first_long : (m : ℕ) (ms mail : List ℕ) → length mail ≡ words_of p (m ∷ ms) → length (first mail m) ≡ length (held_by p m)
  unfolding words_of
  first_long m ms mail e = length-take-le (length (held_by p m)) mail (omega (arith, e))

  rest_long : (m : ℕ) (ms mail : List ℕ) → length mail ≡ words_of p (m ∷ ms) → length (drop (length (held_by p m)) mail) ≡ words_of p ms
  unfolding words_of
  rest_long m ms mail e = length-drop (length (held_by p m)) mail ∙ omega (arith, e)

  pub put_mail_long : (ms buffer mail : List ℕ) → ((m : ℕ) → In m ms → m < count p) → length buffer ≡ words p → length mail ≡ words_of p ms
      → length (put_mail p buffer mail ms) ≡ words p
  unfolding put_mail
  put_mail_long [] buffer mail low e n = e
  put_mail_long (m ∷ ms) buffer mail low e n =
      put_mail_long ms _ _ (λ k i. low k (inr i))
      (length_put buffer _ (first mail m) (words_fit p buffer m (first mail m) e (low m (inl refl)) (first_long m ms mail n)) ∙ e) (rest_long m ms mail n)

  put_mail_other : (ms buffer mail : List ℕ) → ((m : ℕ) → In m ms → m < count p) → length buffer ≡ words p → length mail ≡ words_of p ms
      → (k : ℕ) → k < count p → (In k ms → ⊥) → place_of p (put_mail p buffer mail ms) k ≡ place_of p buffer k
  unfolding put_mail
  put_mail_other [] buffer mail low e n k lo h = refl
  put_mail_other (m ∷ ms) buffer mail low e n k lo h =
      put_mail_other ms _ _ (λ j i. low j (inr i))
      (length_put buffer _ (first mail m) (words_fit p buffer m (first mail m) e (low m (inl refl)) (first_long m ms mail n)) ∙ e) (rest_long m ms mail n)
      k lo (λ i. h (inr i))
      ∙ words_other p buffer m (first mail m) e (low m (inl refl)) (first_long m ms mail n) k lo (λ q. h (inl q))

  pub mail_back : (ms buffer mail : List ℕ) → Rising ms → ((m : ℕ) → In m ms → m < count p) → length buffer ≡ words p → length mail ≡ words_of p ms
      → mail_of p (put_mail p buffer mail ms) ms ≡ mail
  unfolding put_mail mail_of words_of
  mail_back [] buffer [] up low e n = refl
  mail_back [] buffer (w ∷ mail) up low e n = absurd (omega (arith, n))
  mail_back (m ∷ ms) buffer mail up low e n =
      let lo = low m (inl refl) in
      let long : length (put buffer (offset p.messages m) (first mail m)) ≡ words p =
      length_put buffer _ (first mail m) (words_fit p buffer m (first mail m) e lo (first_long m ms mail n)) ∙ e in
      let a : place_of p (put_mail p (put buffer (offset p.messages m) (first mail m)) (drop (length (held_by p m)) mail) ms) m ≡ first mail m =
      put_mail_other ms _ _ (λ k i. low k (inr i)) long (rest_long m ms mail n) m lo (λ i. let z = up.0 m i in omega (arith, z))
      ∙ words_there p buffer m (first mail m) e lo (first_long m ms mail n) in
      let b : mail_of p (put_mail p (put buffer (offset p.messages m) (first mail m)) (drop (length (held_by p m)) mail) ms) ms
      ≡ drop (length (held_by p m)) mail =
      mail_back ms _ _ up.1 (λ k i. low k (inr i)) long (rest_long m ms mail n) in
      (let d : place_of p (put_mail p (put buffer (offset p.messages m) (first mail m)) (drop (length (held_by p m)) mail) ms) m
      ++ mail_of p (put_mail p (put buffer (offset p.messages m) (first mail m)) (drop (length (held_by p m)) mail) ms) ms
      ≡ first mail m ++ drop (length (held_by p m)) mail = cc in d)
      ∙ take-append-drop (length (held_by p m)) mail
