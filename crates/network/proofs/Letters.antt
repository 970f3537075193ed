-- What one message is at one processor: its status and words there (y, vs) beside its status and words on shared areas (x, ws).
use Prim.Native.Nat.{ℕ, ◌+◌, ◌≤◌, ◌<◌}
use mathlib.Core.Path.{◌≡◌, refl, sym, ap, ◌∙◌, fun_ext}
use mathlib.Core.Logic.{◌⊎◌, inl, inr, ◌≢◌}
use mathlib.Core.List.{List, [], ◌∷◌}
use native.Mathlib.Omega.{arith}
use native.Mathlib.Decide.{dec_lt, ℕ_discrete}
use lib.ListN.{length, get_or}
use lib.Dec.{eqb}
use borrow.Author.Tests.{eqb-true, eq-eqb, ne_eqb}
use Rattle.base.specs.Lists.{In, sublist, put, all_at}
use Rattle.base.proofs.Tests.{same_test, pick_true, pick_false}
use Rattle.base.proofs.Lists.{part_put_same, part_put_before, part_put_after}
use Rattle.machine.specs.Plan.{Plan, count, held_by, words, offset}
use Rattle.machine.specs.Machine.{State, place_of}
use Rattle.machine.proofs.Values.{offset_apart}
use Rattle.network.specs.Apart.{AreasApart, replaced, sender_at, taker_at}

-- at the taker's it is 2 exactly when it is 2 shared, and then the words agree; at the sender's 1 when 1 shared, unless it is one of Q, which were posted;
-- and 1 nowhere else
pub record Letter (Q : ℕ → Type 0) (p : Plan) (b m x y : ℕ) (ws vs : List ℕ) : Type 0 where
  pub high : y ≤ 3
  pub due_two : taker_at p m ≡ b → y ≡ 2 → x ≡ 2
  pub two_due : taker_at p m ≡ b → x ≡ 2 → y ≡ 2
  pub three_due : taker_at p m ≡ b → x ≡ 3 → y ≡ 3
  pub due_none : taker_at p m ≡ b → sender_at p m ≢ b → x ≤ 1 → y ≡ 0
  pub due_words : taker_at p m ≡ b → x ≡ 2 → vs ≡ ws
  pub own_one : sender_at p m ≡ b → y ≡ 1 → x ≡ 1
  pub one_own : sender_at p m ≡ b → x ≡ 1 → (y ≡ 1) ⊎ Q m
  pub own_words : sender_at p m ≡ b → 1 ≤ x → vs ≡ ws
  pub posted_sent : Q m → 1 ≤ x
  pub posted_off : sender_at p m ≡ b → Q m → y ≢ 1
  pub only_own : sender_at p m ≢ b → y ≢ 1

module _ {Q : ℕ → Type 0} (p : Plan) (b m : ℕ) where
  -- the same in both
  pub letter_both : (x y : ℕ) (ws vs : List ℕ) → y ≤ 3 → x ≡ y → vs ≡ ws → (taker_at p m ≡ b → sender_at p m ≢ b → x ≤ 1 → y ≡ 0)
      → (Q m → 1 ≤ x) → (Q m → y ≢ 1) → (sender_at p m ≢ b → y ≢ 1) → Letter Q p b m x y ws vs
  letter_both x y ws vs h e w z q o n =
      record {
        high = h;
        due_two = λ i k. e ∙ k;
        two_due = λ i k. sym e ∙ k;
        three_due = λ i k. sym e ∙ k;
        due_none = z;
        due_words = λ i k. w;
        own_one = λ i k. e ∙ k;
        one_own = λ i k. inl (sym e ∙ k);
        own_words = λ i k. w;
        posted_sent = q;
        posted_off = λ i k. o k;
        only_own = n;
      }

  -- neither sent nor taken here
  pub letter_none : (x y : ℕ) (ws vs : List ℕ) → y ≤ 3 → taker_at p m ≢ b → sender_at p m ≢ b → (Q m → 1 ≤ x) → y ≢ 1 → Letter Q p b m x y ws vs
  letter_none x y ws vs h nt ns q ny =
      record {
        high = h;
        due_two = λ i k. absurd (nt i);
        two_due = λ i k. absurd (nt i);
        three_due = λ i k. absurd (nt i);
        due_none = λ i j k. absurd (nt i);
        due_words = λ i k. absurd (nt i);
        own_one = λ i k. absurd (ns i);
        one_own = λ i k. absurd (ns i);
        own_words = λ i k. absurd (ns i);
        posted_sent = q;
        posted_off = λ i k. absurd (ns i);
        only_own = λ i. ny;
      }

  -- not taken here, and no longer in flight here
  pub letter_gone : (x y : ℕ) (ws vs : List ℕ) → y ≤ 3 → taker_at p m ≢ b → (x ≡ 1 → Q m) → y ≢ 1 → (sender_at p m ≡ b → vs ≡ ws) → (Q m → 1 ≤ x)
      → Letter Q p b m x y ws vs
  letter_gone x y ws vs h nt nx ny w q =
      record {
        high = h;
        due_two = λ i k. absurd (nt i);
        two_due = λ i k. absurd (nt i);
        three_due = λ i k. absurd (nt i);
        due_none = λ i j k. absurd (nt i);
        due_words = λ i k. absurd (nt i);
        own_one = λ i k. absurd (ny k);
        one_own = λ i k. inr (nx k);
        own_words = λ i k. w i;
        posted_sent = q;
        posted_off = λ i k. ny;
        only_own = λ i. ny;
      }

  -- not sent here, and not yet delivered
  pub letter_coming : (x y : ℕ) (ws vs : List ℕ) → y ≤ 3 → sender_at p m ≢ b → x ≤ 1 → (taker_at p m ≡ b → y ≡ 0) → (Q m → 1 ≤ x) → y ≢ 1
      → Letter Q p b m x y ws vs
  letter_coming x y ws vs h ns nx ny q off =
      record {
        high = h;
        due_two = λ i k. absurd (omega (arith, ny i));
        two_due = λ i k. absurd (omega arith);
        three_due = λ i k. absurd (omega arith);
        due_none = λ i j k. ny i;
        due_words = λ i k. absurd (omega arith);
        own_one = λ i k. absurd (ns i);
        one_own = λ i k. absurd (ns i);
        own_words = λ i k. absurd (ns i);
        posted_sent = q;
        posted_off = λ i k. absurd (ns i);
        only_own = λ i. off;
      }

  pub letter_is : {x y x' y' : ℕ} {ws vs ws' vs' : List ℕ} → x' ≡ x → y' ≡ y → ws' ≡ ws → vs' ≡ vs → Letter Q p b m x y ws vs → Letter Q p b m x' y' ws' vs'
  letter_is ex ey ew ev l = rw (ex, ey, ew, ev) l

  -- taken elsewhere: shared 2 becomes 3
  pub letter_taken : {x y : ℕ} {ws vs : List ℕ} (x' : ℕ) → Letter Q p b m x y ws vs → taker_at p m ≢ b → x ≡ 2 → x' ≡ 3 → Letter Q p b m x' y ws vs
  letter_taken {x} {y} {ws} {vs} x' l nt e e' =
      record {
        high = l.high;
        due_two = λ i k. absurd (nt i);
        two_due = λ i k. absurd (nt i);
        three_due = λ i k. absurd (nt i);
        due_none = λ i j k. absurd (nt i);
        due_words = λ i k. absurd (nt i);
        own_one = λ i k. absurd (omega (arith, l.own_one i k));
        one_own = λ i k. absurd (omega arith);
        own_words = λ i k. l.own_words i (omega arith);
        posted_sent = λ k. omega arith;
        posted_off = l.posted_off;
        only_own = l.only_own;
      }

  -- sent elsewhere: shared 0 becomes 1
  pub letter_sent : {x y : ℕ} {ws vs : List ℕ} (x' : ℕ) (ws' : List ℕ) → Letter Q p b m x y ws vs → sender_at p m ≢ b → x ≤ 1 → x' ≡ 1
      → Letter Q p b m x' y ws' vs
  letter_sent {x} {y} {ws} {vs} x' ws' l ns h e' =
      letter_coming x' y ws' vs l.high ns (omega arith) (λ i. l.due_none i ns h) (λ k. omega arith) (l.only_own ns)

-- ---- the processors' areas, one of them replaced
module _ (areas : AreasApart) (b : ℕ) (s : State) where
  pub replaced_same : (c : ℕ) → c ≡ b → replaced areas b s c ≡ s
  unfolding replaced
  replaced_same c e = pick_true _ _ _ (eq-eqb c b e)

  pub replaced_other : (c : ℕ) → c ≢ b → replaced areas b s c ≡ areas c
  unfolding replaced
  replaced_other c n = pick_false _ _ _ (ne_eqb c b n)

-- one put back as it was
pub replaced_own : (areas : AreasApart) (b : ℕ) → replaced areas b (areas b) ≡ areas
replaced_own areas b = fun_ext (λ c. go c (ℕ_discrete c b))
  where
    go : (c : ℕ) → Dec (c ≡ b) → replaced areas b (areas b) c ≡ areas c
    go c (yes e) = replaced_same areas b (areas b) c e ∙ ap areas (sym e)
    go c (no n) = replaced_other areas b (areas b) c n

-- ---- the words of a message put into a buffer
module _ (p : Plan) (buffer : List ℕ) (m : ℕ) (ws : List ℕ) (len : length buffer ≡ words p) (lo : m < count p) (e : length ws ≡ length (held_by p m)) where
  pub words_fit : offset p.messages m + length ws ≤ length buffer
  words_fit = rw (e, len) (offset_apart p.messages m (count p) lo lo)

  pub words_there : place_of p (put buffer (offset p.messages m) ws) m ≡ ws
  words_there = ap (sublist (put buffer (offset p.messages m) ws) (offset p.messages m)) (sym e)
      ∙ part_put_same buffer (offset p.messages m) ws words_fit

  pub words_other : (k : ℕ) → k < count p → k ≢ m → place_of p (put buffer (offset p.messages m) ws) k ≡ place_of p buffer k
  words_other k q ne = go (dec_lt k m)
    where
      go : Dec (k < m) → place_of p (put buffer (offset p.messages m) ws) k ≡ place_of p buffer k
      go (yes h) = part_put_before buffer _ ws words_fit _ _ (offset_apart p.messages k m h q)
      go (no h) = part_put_after buffer _ ws words_fit _ _ (rw e (offset_apart p.messages m k (omega arith) lo))

-- ---- all at a value in two lists
pub all_at_same : (x y : List ℕ) (v : ℕ) (ms : List ℕ) → ((m : ℕ) → In m ms → (get_or x m 0 ≡ v → get_or y m 0 ≡ v) × (get_or y m 0 ≡ v → get_or x m 0 ≡ v))
    → all_at x v ms ≡ all_at y v ms
unfolding all_at
all_at_same x y v [] h = refl
all_at_same x y v (m ∷ ms) h =
    let a : eqb (get_or x m 0) v ≡ eqb (get_or y m 0) v =
    same_test (λ k. eq-eqb _ _ ((h m (inl refl)).0 (eqb-true _ _ k))) (λ k. eq-eqb _ _ ((h m (inl refl)).1 (eqb-true _ _ k))) in
    let b = all_at_same x y v ms (λ k i. h k (inr i)) in
    cc
