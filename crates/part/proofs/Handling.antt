-- Laws of the messages that a processor handles: the test by a message's ends, and how many, with how many words, come before each.
use Prim.Native.Nat.{ℕ, suc, ◌+◌, ◌*◌, ◌≤◌, ◌<◌}
use mathlib.Core.Path.{◌≡◌, refl, sym, ap, ◌∙◌}
use mathlib.Core.Logic.{◌⊎◌, inl, inr}
use mathlib.Core.Bool.{Bool, true, false}
use mathlib.Core.List.{List, [], ◌∷◌, ◌++◌}
use native.Mathlib.Nat.{eq-or-lt_of_le, zero-mul, one-mul}
use native.Mathlib.Numerals.{add-one}
use native.Mathlib.Omega.{arith}
use lib.ListN.{length, get_or, set, length-set}
use lib.Seq.{get_or-set_same, get_or-set_other}
use lib.Dec.{eqb}
use Rattle.base.specs.Tests.{one, keep}
use Rattle.base.proofs.Tests.{or_left, or_right, or_false, one_true, one_false}
use Rattle.base.proofs.Select.{keep_hit, keep_none, keep_more, keep_few}
use Rattle.machine.specs.Plan.{Plan, held_by}
use Rattle.network.specs.Apart.{sender_at, taker_at}
use Rattle.network.specs.Own.{handles}
use Rattle.part.specs.Part.{words_of, rank_of, mail_at}

-- ---- the test

module _ (p : Plan) (b m : ℕ) where
  pub some_end : (eqb (sender_at p m) b ≡ true) ⊎ (eqb (taker_at p m) b ≡ true) → 1 ≡ one (handles p b m)
  unfolding handles
  some_end (inl e) = sym (one_true (or_left _ e))
  some_end (inr e) = sym (one_true (or_right _ e))

  pub no_end : eqb (sender_at p m) b ≡ false → eqb (taker_at p m) b ≡ false → 0 ≡ one (handles p b m)
  unfolding handles
  no_end e k = sym (one_false (or_false e k))

-- ---- one more message

pub words_append : (p : Plan) (ms ks : List ℕ) → words_of p (ms ++ ks) ≡ words_of p ms + words_of p ks
unfolding words_of
words_append p [] ks = omega arith
words_append p (m ∷ ms) ks = omega (arith, words_append p ms ks)

-- a word that says whether
pub at_most : (t : Bool) (v : ℕ) → v ≡ one t → v ≤ 1
unfolding one
at_most true v e = omega (arith, e)
at_most false v e = omega (arith, e)

pub at_most_words : (t : Bool) (v w : ℕ) → v ≡ one t → v * w ≤ w
unfolding one
at_most_words true v w e = rw (e, one-mul w) (omega arith)
at_most_words false v w e = rw (e, zero-mul w) (omega arith)

module _ (p : Plan) (b m v : ℕ) (e : v ≡ one (handles p b m)) where
  pub rank_next : (k : ℕ) → k ≡ rank_of p b m → k + v ≡ rank_of p b (m + 1)
  unfolding one
  rank_next k is = rw (add-one m) (go (handles p b m) refl)
    where
      go : (t : Bool) → handles p b m ≡ t → k + v ≡ length (keep (handles p b) (suc m))
      go true q = omega (arith, is, e ∙ ap one q, keep_more (handles p b) m q)
      go false q = omega (arith, is, e ∙ ap one q, ap length (keep_none (handles p b) m q))

  pub mail_next : (w n : ℕ) → w ≡ mail_at p b m → n ≡ length (held_by p m) → w + v * n ≡ mail_at p b (m + 1)
  unfolding one words_of
  mail_next w n is long = rw (add-one m) (go (handles p b m) refl)
    where
      go : (t : Bool) → handles p b m ≡ t → w + v * n ≡ words_of p (keep (handles p b) (suc m))
      go true q =
          let z : v ≡ 1 = e ∙ ap one q in
          let y : v * n ≡ n = ap (λ (i : ℕ). i * n) z ∙ one-mul n in
          omega (arith, is, long, y, ap (words_of p) (keep_hit (handles p b) m q), words_append p (keep (handles p b) m) (m ∷ []))
      go false q =
          let z : v ≡ 0 = e ∙ ap one q in
          let y : v * n ≡ 0 = ap (λ (i : ℕ). i * n) z ∙ zero-mul n in
          omega (arith, is, y, ap (words_of p) (keep_none (handles p b) m q))

-- ---- the two tables

-- the first m of each are told, and k and w are those of message m
pub record Ranked (p : Plan) (b : ℕ) (ordinals starts : List ℕ) (m o k w : ℕ) : Type 0 where
  pub long : length ordinals ≡ 7169
  pub long_places : length starts ≡ 7169
  pub rank : k ≡ rank_of p b m
  pub at : w ≡ mail_at p b m
  pub small : w ≤ o
  pub each : (j : ℕ) → j < m → (get_or ordinals j 0 ≡ rank_of p b j) × (get_or starts j 0 ≡ mail_at p b j)

module _ (p : Plan) (b : ℕ) where
  pub rank_start : (ordinals starts : List ℕ) → length ordinals ≡ 7169 → length starts ≡ 7169 → Ranked p b ordinals starts 0 0 0 0
  unfolding keep words_of
  rank_start ordinals starts h k =
      record { long = h; long_places = k; rank = refl; at = refl; small = omega arith; each = λ j l. absurd (omega arith) }

  module _ (ordinals starts : List ℕ) (m o k w : ℕ) (g : Ranked p b ordinals starts m o k w) where
    pub few : k ≤ m
    few = omega (arith, g.rank, keep_few (handles p b) m)

    -- those of message m stored
    pub told : m ≤ 7168 → (j : ℕ) → j ≤ m → (get_or (set ordinals m k) j 0 ≡ rank_of p b j) × (get_or (set starts m w) j 0 ≡ mail_at p b j)
    told low j h = go (eq-or-lt_of_le h)
      where
        go : (j ≡ m) ⊎ (j < m) → (get_or (set ordinals m k) j 0 ≡ rank_of p b j) × (get_or (set starts m w) j 0 ≡ mail_at p b j)
        go (inl e) =
            rw e (get_or-set_same ordinals m k 0 (omega (arith, g.long)) ∙ g.rank, get_or-set_same starts m w 0 (omega (arith, g.long_places)) ∙ g.at)
        go (inr l) = (
          get_or-set_other ordinals m j k 0 (λ e. omega arith) ∙ (g.each j l).0,
          get_or-set_other starts m j w 0 (λ e. omega arith) ∙ (g.each j l).1,
        )

    -- a slot with a message, v saying whether it is handled; or an empty one
    pub rank_turn : (n m' k' w' : ℕ) → m ≤ 7168
        → ((v : ℕ) × (v ≡ one (handles p b m)) × (n ≡ length (held_by p m)) × (m' ≡ m + 1) × (k' ≡ k + v) × (w' ≡ w + v * n))
        ⊎ ((m' ≡ m) × (k' ≡ k) × (w' ≡ w))
        → Ranked p b (set ordinals m k) (set starts m w) m' (o + n) k' w'
    rank_turn n m' k' w' low (inl q) =
        let v = q.0 in
        let is = q.1 in
        rw (q.3, q.4, q.5) (record {
          long = length-set ordinals m k ∙ g.long;
          long_places = length-set starts m w ∙ g.long_places;
          rank = rank_next p b m v is k g.rank;
          at = mail_next p b m v is w n g.at q.2;
          small = omega (arith, g.small, at_most_words (handles p b m) v n is);
          each = λ j l. told low j (omega arith);
        })
    rank_turn n m' k' w' low (inr q) =
        rw (q.0, q.1, q.2) (record {
          long = length-set ordinals m k ∙ g.long;
          long_places = length-set starts m w ∙ g.long_places;
          rank = g.rank;
          at = g.at;
          small = omega (arith, g.small);
          each = λ j l. told low j (omega arith);
        })
