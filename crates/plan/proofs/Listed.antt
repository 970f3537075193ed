-- Laws of the list of messages, from any slots: which slot a message comes from, its number, its offset and the room for it.
use Prim.Native.Nat.{ℕ, zero, suc, ◌+◌, ◌*◌, ◌≤◌, ◌<◌}
use mathlib.Core.Path.{◌≡◌, refl, sym, ap, ◌∙◌}
use mathlib.Core.Logic.{◌⊎◌, inl, inr, ◌↔◌}
use mathlib.Core.Bool.{Bool, true, false}
use mathlib.Core.List.{List, [], ◌∷◌, ◌++◌, append_assoc, append-nil}
use native.Mathlib.Nat.{eq-or-lt_of_le, le_of_suc-le-suc, mul-le-mul_right, suc-mul}
use native.Mathlib.Numerals.{add-one}
use native.Mathlib.Decide.{dec_lt}
use native.Mathlib.Omega.{arith}
use lib.ListN.{length, get_or, length-append, get_or-append}
use lib.Seq.{get_or-append_seam}
use lib.Dec.{ltb}
use borrow.Author.Tests.{lt-ltb, le-ltb, ltb-true, ltb-false}
use Rattle.base.specs.Tests.{pick, sum}
use Rattle.machine.specs.Plan.{Message, no_message, offset}
use Rattle.plan.specs.Messages.{messages_of}

-- ---- lists of messages

-- the words of all
abbrev pub total : List Message → ℕ
total xs = offset xs (length xs)

pub offset_append : (xs ys : List Message) → offset (xs ++ ys) (length xs) ≡ total xs
unfolding offset
offset_append [] [] = refl
offset_append [] (y ∷ ys) = refl
offset_append (x ∷ xs) ys = ap (λ (k : ℕ). length x.cells + k) (offset_append xs ys)

pub total_append : (xs ys : List Message) → total (xs ++ ys) ≡ total xs + total ys
unfolding offset
total_append [] ys = omega arith
total_append (x ∷ xs) ys = let h = total_append xs ys in omega arith

pub total_none : total [] ≡ 0
unfolding offset
total_none = refl

pub total_one : (x : Message) → total (x ∷ []) ≡ length x.cells
unfolding offset
total_one x = omega arith

module _ (slot : ℕ → Message) where
  -- ---- one slot more

  pub step_none : (s : ℕ) → length (slot s).cells ≡ 0 → messages_of slot (s + 1) ≡ messages_of slot s
  unfolding messages_of pick
  step_none s h = rw (add-one s, le-ltb 0 (length (slot s).cells) (omega arith)) (append-nil (messages_of slot s))

  pub step_one : (s : ℕ) → 0 < length (slot s).cells → messages_of slot (s + 1) ≡ messages_of slot s ++ (slot s ∷ [])
  unfolding messages_of pick
  step_one s h = ap (messages_of slot) (add-one s) ∙ rw (lt-ltb 0 (length (slot s).cells) h)

  -- the messages of more slots go on from those of fewer
  pub prefix : (n s : ℕ) → s ≤ n → (rest : List Message) × (messages_of slot n ≡ messages_of slot s ++ rest)
  unfolding messages_of
  prefix zero s h = let e : s ≡ 0 = omega arith in ([], rw e)
  prefix (suc n) s h = go (prefix n s) (eq-or-lt_of_le h)
    where
      go : (s ≤ n → (rest : List Message) × (messages_of slot n ≡ messages_of slot s ++ rest)) → (s ≡ suc n) ⊎ (s < suc n)
          → (rest : List Message) × (messages_of slot (suc n) ≡ messages_of slot s ++ rest)
      go ih (inl e) = ([], rw e (sym (append-nil (messages_of slot (suc n)))))
      go ih (inr l) =
          let r = ih (le_of_suc-le-suc l) in
          (r.0 ++ pick (ltb 0 (length (slot n).cells)) (slot n ∷ []) [], rw r.1 (append_assoc (messages_of slot s) r.0 _))

  pub few : (s : ℕ) → length (messages_of slot s) ≤ s
  unfolding messages_of pick
  few zero = omega arith
  few (suc s) = go (few s) (ltb 0 (length (slot s).cells))
    where
      go : length (messages_of slot s) ≤ s → (t : Bool) → length (messages_of slot s ++ pick t (slot s ∷ []) []) ≤ suc s
      go h true = simp length-append (omega arith)
      go h false = simp length-append (omega arith)

  -- all words are the lengths of the slots' parcels together
  pub total_sum : (s : ℕ) → total (messages_of slot s) ≡ sum (λ q. length (slot q).cells) s
  unfolding messages_of sum pick
  total_sum zero = total_none
  total_sum (suc s) = go (total_sum s) (ltb 0 (length (slot s).cells)) refl
    where
      go : total (messages_of slot s) ≡ sum (λ q. length (slot q).cells) s → (t : Bool) → ltb 0 (length (slot s).cells) ≡ t
          → total (messages_of slot s ++ pick t (slot s ∷ []) []) ≡ sum (λ q. length (slot q).cells) s + length (slot s).cells
      go ih true e = rw (total_append (messages_of slot s) (slot s ∷ []), total_one (slot s), ih) refl
      go ih false e = rw (append-nil (messages_of slot s), ih) (omega (arith, ltb-false 0 (length (slot s).cells) e))

  -- slot s, not empty, among n
  module _ (n s : ℕ) (low : s < n) (full : 0 < length (slot s).cells) where
    pub split : (rest : List Message) × (messages_of slot n ≡ messages_of slot s ++ (slot s ∷ rest))
    split =
        let r = prefix n (s + 1) (omega arith) in
        (r.0, r.1 ∙ rw (step_one s full) (append_assoc (messages_of slot s) (slot s ∷ []) r.0))

    pub at_number : get_or (messages_of slot n) (length (messages_of slot s)) no_message ≡ slot s
    at_number = rw split.1 (get_or-append_seam (messages_of slot s) (slot s) split.0 no_message)

    pub number_low : length (messages_of slot s) < length (messages_of slot n)
    number_low = rw split.1 (simp length-append (omega arith))

    pub offset_is : offset (messages_of slot n) (length (messages_of slot s)) ≡ total (messages_of slot s)
    offset_is = rw split.1 (offset_append (messages_of slot s) (slot s ∷ split.0))

    pub room_is : total (messages_of slot s) + length (slot s).cells ≤ total (messages_of slot n)
    unfolding offset
    room_is = rw (split.1, total_append (messages_of slot s) (slot s ∷ split.0)) (omega arith)

  -- messages are numbered in the order of their slots
  pub number_order : (s s' : ℕ) → 0 < length (slot s).cells → 0 < length (slot s').cells
      → (length (messages_of slot s) < length (messages_of slot s')) ↔ (s < s')
  number_order s s' f g = ((λ h. go h (dec_lt s s') (dec_lt s' s)), (λ h. number_low s' s h f))
    where
      go : length (messages_of slot s) < length (messages_of slot s') → Dec (s < s') → Dec (s' < s) → s < s'
      go l (yes h) d = h
      go l (no h) (yes k) = absurd (omega (arith, number_low s s' k g))
      go l (no h) (no k) =
          let e : s ≡ s' = omega arith in
          absurd (omega (arith, ap (λ (u : ℕ). length (messages_of slot u)) e))

  -- each message is a slot's
  pub message_slot : (n m : ℕ) → m < length (messages_of slot n)
      → (s : ℕ) × (s < n) × (0 < length (slot s).cells) × (length (messages_of slot s) ≡ m)
      × (get_or (messages_of slot n) m no_message ≡ slot s)
  unfolding messages_of pick
  message_slot zero m h = absurd (omega arith)
  message_slot (suc n) m h = go (message_slot n m) (ltb 0 (length (slot n).cells)) refl (dec_lt m (length (messages_of slot n))) h
    where
      go : (m < length (messages_of slot n)
          → (s : ℕ) × (s < n) × (0 < length (slot s).cells) × (length (messages_of slot s) ≡ m)
          × (get_or (messages_of slot n) m no_message ≡ slot s))
          → (t : Bool) → ltb 0 (length (slot n).cells) ≡ t
          → Dec (m < length (messages_of slot n)) → m < length (messages_of slot n ++ pick t (slot n ∷ []) [])
          → (s : ℕ) × (s < suc n) × (0 < length (slot s).cells) × (length (messages_of slot s) ≡ m)
          × (get_or (messages_of slot n ++ pick t (slot n ∷ []) []) m no_message ≡ slot s)
      go ih t e (yes q) k =
          let r = ih q in
          (r.0, omega arith, r.2, r.3, get_or-append (messages_of slot n) _ no_message m q ∙ r.4)
      go ih true e (no q) k =
          let k' = simp length-append at k in
          let z : m ≡ length (messages_of slot n) = omega arith in
          (n, omega arith, ltb-true _ _ e, sym z, rw z (get_or-append_seam (messages_of slot n) (slot n) [] no_message))
      go ih false e (no q) k = let k' = simp length-append at k in absurd (q (omega arith))

-- the same messages from slots that are the same or both empty
pub messages_same : (f g : ℕ → Message) (n : ℕ)
    → ((s : ℕ) → s < n → ((length (f s).cells ≡ 0) × (length (g s).cells ≡ 0)) ⊎ (f s ≡ g s)) → messages_of f n ≡ messages_of g n
unfolding messages_of pick
messages_same f g zero h = refl
messages_same f g (suc n) h = go (messages_same f g n (λ s l. h s (omega arith))) (h n (omega arith))
  where
    go : messages_of f n ≡ messages_of g n → ((length (f n).cells ≡ 0) × (length (g n).cells ≡ 0)) ⊎ (f n ≡ g n)
        → messages_of f n ++ pick (ltb 0 (length (f n).cells)) (f n ∷ []) []
        ≡ messages_of g n ++ pick (ltb 0 (length (g n).cells)) (g n ∷ []) []
    go ih (inl (p, q)) =
        rw (le-ltb 0 (length (f n).cells) (omega arith), le-ltb 0 (length (g n).cells) (omega arith)) (ap (λ (l : List Message). l ++ []) ih)
    go ih (inr e) = rw ih (ap (λ (m : Message). messages_of g n ++ pick (ltb 0 (length m.cells)) (m ∷ []) []) e)

-- slots by tile, then by way, of d ways each
pub slot_order : (d t i u k : ℕ) → i < d → k < d → (t * d + i < u * d + k) ↔ ((t < u) ⊎ ((t ≡ u) × (i < k)))
slot_order d t i u k li lk = ((λ h. go h (dec_lt t u) (dec_lt u t)), back)
  where
    more : (a b : ℕ) → a < b → a * d + d ≤ b * d
    more a b h = omega (arith, mul-le-mul_right d h, suc-mul a d)

    go : t * d + i < u * d + k → Dec (t < u) → Dec (u < t) → (t < u) ⊎ ((t ≡ u) × (i < k))
    go h (yes l) e = inl l
    go h (no l) (yes e) = absurd (omega (arith, more u t e))
    go h (no l) (no e) = let z : t ≡ u = omega arith in inr (z, omega (arith, ap (λ (a : ℕ). a * d) z))

    back : (t < u) ⊎ ((t ≡ u) × (i < k)) → t * d + i < u * d + k
    back (inl l) = omega (arith, more t u l)
    back (inr (z, l)) = omega (arith, ap (λ (a : ℕ). a * d) z)
