-- Carrying a message from its sender's areas to its taker's is a delivery on the shared ones: every processor's areas still agree.
use Prim.Native.Nat.{ℕ, ◌≤◌, ◌<◌}
use mathlib.Core.Path.{◌≡◌, refl, sym, ap, ◌∙◌}
use mathlib.Core.Logic.{◌⊎◌, inl, inr, ◌≢◌}
use mathlib.Core.Bool.{Bool, true}
use mathlib.Core.List.{List, [], ◌∷◌}
use native.Mathlib.Omega.{arith}
use native.Mathlib.Decide.{dec_lt, ℕ_discrete}
use lib.ListN.{length, get_or, set, length-set}
use lib.Seq.{get_or-set_same, get_or-set_other}
use lib.Dec.{ltb, eqb}
use borrow.Author.Tests.{eqb-true, eq-eqb, ne_eqb, le-ltb}
use Rattle.base.specs.Tests.{not}
use Rattle.base.specs.Numbers.{line, first_of}
use Rattle.base.proofs.Tests.{same_test, not-true, not-false, pick_true, pick_false}
use Rattle.base.proofs.Lists.{part_length, length_put}
use Rattle.base.proofs.Numbers.{first_false, first_true}
use Rattle.machine.specs.Plan.{Plan, Sound, count, sender_of, taker_of, held_by, offset}
use Rattle.machine.specs.Machine.{State, place_of, fit_record, tiles_left, fit, Answered, deliver}
use Rattle.machine.proofs.Values.{offset_apart}
use Rattle.machine.proofs.Turns.{Delivered, delivered}
use Rattle.machine.proofs.Progress.{Shape}
use Rattle.machine.proofs.Kept.{Inv, inv_fit, status_of}
use Rattle.machine.proofs.Invariant.{sender_low}
use Rattle.network.specs.Apart.{AreasApart, replaced, sender_at, taker_at, marked, received, sent_off, arrived, carried, deliver_apart}
use Rattle.network.proofs.Letters.{Letter, letter_both, letter_none, letter_gone, letter_is, replaced_same, replaced_other, words_fit, words_there}
use Rattle.network.proofs.Letters.{words_other}
use Rattle.network.proofs.Agrees.{Agrees, Nothing}

-- this message alone
abbrev At : ℕ → ℕ → Type 0
At m k = k ≡ m

none : ⊥ → ⊥
none z = z

none_posted : {x : ℕ} → ⊥ → 1 ≤ x
none_posted z = absurd z

none_off : {y : ℕ} → ⊥ → y ≢ 1
none_off z = absurd z

only : {A : Type 0} → A ⊎ ⊥ → A
only (inl x) = x
only (inr z) = absurd z

module _ (p : Plan) (b : ℕ) (r : State) (m : ℕ) where
  pub but : {Q : ℕ → Type 0} (s : State) → Agrees Q Nothing p s b r → Agrees Q (At m) p s b r
  but s ag = record { shape = ag.shape; high = ag.high; memory = ag.memory; recorded = ag.recorded; letters = λ k lo n. ag.letters k lo none }

  pub whole : {Q : ℕ → Type 0} (s : State) → Agrees Q (At m) p s b r
      → Letter Q p b m (status_of s m) (status_of r m) (place_of p s.buffer m) (place_of p r.buffer m) → Agrees Q Nothing p s b r
  whole {Q} s ag l = record { shape = ag.shape; high = ag.high; memory = ag.memory; recorded = ag.recorded; letters = λ k lo n. go k lo (ℕ_discrete k m) }
    where
      go : (k : ℕ) → k < count p → Dec (k ≡ m) → Letter Q p b k (status_of s k) (status_of r k) (place_of p s.buffer k) (place_of p r.buffer k)
      go k lo (yes e) = rw e l
      go k lo (no n) = ag.letters k lo n

  module _ (lo : m < count p) where
    pub status_two : Shape p r → status_of (marked r m) m ≡ 2
    status_two sh = get_or-set_same r.status m 2 0 (rw sh.status lo)

    pub status_rest : (k : ℕ) → k ≢ m → status_of (marked r m) k ≡ status_of r k
    status_rest k n = get_or-set_other r.status m k 2 0 n

    pub shape_marked : Shape p r → (buffer : List ℕ) → length buffer ≡ length r.buffer
        → Shape p (record { memories = r.memories; buffer = buffer; progress = r.progress; status = set r.status m 2 })
    unfolding fit_record tiles_left
    shape_marked sh buffer e =
        record {
          memories = sh.memories;
          buffer = e ∙ sh.buffer;
          progress = sh.progress;
          status = length-set r.status m 2
              ∙ sh.status;
          records = sh.records;
        }

    module _ {Q : ℕ → Type 0} (s : State) (ag : Agrees Q (At m) p s b r) where
      -- the shared side marked
      pub mark_shared : Shape p s → Agrees Q (At m) p (marked s m) b r
      mark_shared sh =
          record {
            shape = ag.shape;
            high = ag.high;
            memory = ag.memory;
            recorded = ag.recorded;
            letters = λ k l n. letter_is p b k (get_or-set_other s.status m k 2 0 n) refl refl refl (ag.letters k l n);
          }

      pub high_marked : (k : ℕ) → k < count p → status_of (marked r m) k ≤ 3
      high_marked k l = go (ℕ_discrete k m)
        where
          go : Dec (k ≡ m) → status_of (marked r m) k ≤ 3
          go (yes e) = rw e (omega (arith, status_two ag.shape))
          go (no n) = omega (arith, status_rest k n, ag.high k l)

      -- the processor's own side marked
      pub mark_own : Agrees Q (At m) p s b (marked r m)
      mark_own =
          record {
            shape = shape_marked ag.shape r.buffer refl;
            high = high_marked;
            memory = ag.memory;
            recorded = ag.recorded;
            letters = λ k l n. letter_is p b k refl (status_rest k n) refl refl (ag.letters k l n);
          }

      -- its words put there as well
      pub receive_own : (ws : List ℕ) → length ws ≡ length (held_by p m) → Agrees Q (At m) p s b (received p r m ws)
      receive_own ws e =
          record {
            shape = shape_marked ag.shape _ (length_put r.buffer _ ws (words_fit p r.buffer m ws ag.shape.buffer lo e));
            high = high_marked;
            memory = ag.memory;
            recorded = ag.recorded;
            letters = λ k l n. letter_is p b k refl (status_rest k n) refl (words_other p r.buffer m ws ag.shape.buffer lo e k l n)
                (ag.letters k l n);
          }

module _ (p : Plan) (so : Sound p) (source : List ℕ) (s : State) (areas : AreasApart) (inv : Inv p source s)
    (each : (c : ℕ) → c < p.processors → Agrees Nothing Nothing p s c (areas c)) (m : ℕ) where
  module _ (lo : m < count p) where
    sender_at_lem : sender_at p m < p.processors
    sender_at_lem = so.processor_low (sender_of p m) (sender_low p so m lo)

    taker_low : taker_at p m < p.processors
    taker_low = so.processor_low (taker_of p m) (so.taker_low m lo)

    at_sender : Agrees Nothing Nothing p s (sender_at p m) (areas (sender_at p m))
    at_sender = each (sender_at p m) sender_at_lem

    module _ (flying : status_of s m ≡ 1) where
      abbrev words : List ℕ
      words = place_of p (areas (sender_at p m)).buffer m

      words_same : words ≡ place_of p s.buffer m
      words_same = (at_sender.letters m lo none).own_words refl (omega arith)

      words_length : length words ≡ length (held_by p m)
      words_length =
          part_length (areas (sender_at p m)).buffer (offset p.messages m) (length (held_by p m))
          (rw at_sender.shape.buffer (offset_apart p.messages m (count p) lo lo))

      off : (c : ℕ) → c < p.processors → Agrees Nothing (At m) p s c (sent_off p areas m c)
      unfolding sent_off
      off c low = go (ℕ_discrete c (sender_at p m))
        where
          go : Dec (c ≡ sender_at p m) → Agrees Nothing (At m) p s c (replaced areas (sender_at p m) (marked (areas (sender_at p m)) m) c)
          go (yes e) =
              rw (e, replaced_same areas (sender_at p m) (marked (areas (sender_at p m)) m) (sender_at p m) refl)
              (mark_own p (sender_at p m) (areas (sender_at p m)) m lo s (but p (sender_at p m) (areas (sender_at p m)) m s at_sender))
          go (no n) = rw (replaced_other areas (sender_at p m) (marked (areas (sender_at p m)) m) c n) (but p c (areas c) m s (each c low))

      off_two : status_of (sent_off p areas m (sender_at p m)) m ≡ 2
      unfolding sent_off
      off_two =
          rw (replaced_same areas (sender_at p m) (marked (areas (sender_at p m)) m) (sender_at p m) refl)
          (status_two p (sender_at p m) (areas (sender_at p m)) m lo at_sender.shape)

      off_other : (c : ℕ) → c ≢ sender_at p m → status_of (sent_off p areas m c) m ≡ status_of (areas c) m
      unfolding sent_off
      off_other c n = ap (λ (r : State). status_of r m) (replaced_other areas (sender_at p m) (marked (areas (sender_at p m)) m) c n)

      shared_two : status_of (marked s m) m ≡ 2
      shared_two = status_two p 0 s m lo inv.shape

      words_kept : (c : ℕ) → c ≡ sender_at p m → place_of p (sent_off p areas m c).buffer m ≡ place_of p s.buffer m
      unfolding sent_off
      words_kept c e =
          ap (λ (r : State). place_of p r.buffer m) (replaced_same areas (sender_at p m) (marked (areas (sender_at p m)) m) c e) ∙ words_same

      carries : (c : ℕ) → c < p.processors → Agrees Nothing Nothing p (marked s m) c (carried p areas m c)
      unfolding carried arrived
      carries c low = go (ℕ_discrete c (taker_at p m)) (ℕ_discrete c (sender_at p m))
        where
          there : State
          there = sent_off p areas m (taker_at p m)

          go : Dec (c ≡ taker_at p m) → Dec (c ≡ sender_at p m)
              → Agrees Nothing Nothing p (marked s m) c
              (replaced (sent_off p areas m) (taker_at p m) (received p (sent_off p areas m (taker_at p m)) m words) c)
          go (yes e) d =
              rw (e, replaced_same (sent_off p areas m) (taker_at p m) (received p (sent_off p areas m (taker_at p m)) m words) (taker_at p m) refl)
              (let ag = off (taker_at p m) taker_low in
              let new = receive_own p (taker_at p m) (sent_off p areas m (taker_at p m)) m lo s ag words words_length in
              let two = status_two p (taker_at p m) (sent_off p areas m (taker_at p m)) m lo ag.shape in
              whole p (taker_at p m) (received p (sent_off p areas m (taker_at p m)) m words) m (marked s m)
              (mark_shared p (taker_at p m) (received p (sent_off p areas m (taker_at p m)) m words) m lo s new inv.shape)
              (letter_both p (taker_at p m) m _ _ _ _ (omega (arith, two)) (shared_two ∙ sym two)
              (words_there p (sent_off p areas m (taker_at p m)).buffer m words ag.shape.buffer lo words_length ∙ words_same)
              (λ i n k. absurd (omega (arith, shared_two))) none_posted none_off (λ i o. omega (arith, two))))
          go (no n) d =
              rw (replaced_other (sent_off p areas m) (taker_at p m) (received p (sent_off p areas m (taker_at p m)) m words) c n)
              (whole p c (sent_off p areas m c) m (marked s m) (mark_shared p c (sent_off p areas m c) m lo s (off c low) inv.shape) (letter d))
            where
              letter : Dec (c ≡ sender_at p m)
                  → Letter Nothing p c m (status_of (marked s m) m) (status_of (sent_off p areas m c) m) (place_of p s.buffer m)
                  (place_of p (sent_off p areas m c).buffer m)
              letter (yes e) =
                  let two : status_of (sent_off p areas m c) m ≡ 2 = rw e off_two in
                  letter_gone p c m _ _ _ _ (omega arith) (λ i. n (sym i)) (λ k. absurd (omega (arith, shared_two))) (λ k. omega arith)
                  (λ i. words_kept c e) none_posted
              letter (no q) =
                  letter_none p c m _ _ _ _ ((off c low).high m lo) (λ i. n (sym i)) (λ i. q (sym i)) none_posted
                  (λ o. ((each c low).letters m lo none).only_own (λ i. q (sym i)) (sym (off_other c q) ∙ o))

  -- ---- the number
  lines_law : (f l x y : Bool) → f ≡ true → y ≡ x
      → first_of (line 11 (not l) ∷ line 14 (not y) ∷ []) ≡ first_of (line 10 (not f) ∷ line 11 (not l) ∷ line 14 (not x) ∷ [])
  lines_law f l x y e q = ap (λ (z : Bool). first_of (line 11 (not l) ∷ line 14 (not z) ∷ [])) q ∙ sym (first_false 10 _ _ (not-true e))

  pub carry_number : (deliver_apart p areas m).number ≡ (deliver p s m).number
  unfolding deliver_apart deliver
  carry_number = go (dec_lt m (count p))
    where
      go : Dec (m < count p) → first_of (line 11 (not (ltb m (count p))) ∷ line 14 (not (eqb (get_or (areas (sender_at p m)).status m 0) 1)) ∷ [])
          ≡ first_of (line 10 (not (fit p s)) ∷ line 11 (not (ltb m (count p))) ∷ line 14 (not (eqb (get_or s.status m 0) 1)) ∷ [])
      go (yes lo) =
          lines_law (fit p s) _ _ _ (inv_fit p source s inv)
          (same_test (λ k. eq-eqb _ _ (((at_sender lo).letters m lo none).own_one refl (eqb-true _ _ k)))
          (λ k. eq-eqb _ _ (only (((at_sender lo).letters m lo none).one_own refl (eqb-true _ _ k)))))
      go (no n) =
          first_true 11 _ _ (not-false (le-ltb m (count p) (omega arith)))
          ∙ sym (first_false 10 _ _ (not-true (inv_fit p source s inv)) ∙ first_true 11 _ _ (not-false (le-ltb m (count p) (omega arith))))

  -- ---- and what it leaves
  refuses : (deliver_apart p areas m).number ≢ 0 → (deliver_apart p areas m).after ≡ areas
  unfolding deliver_apart
  refuses n = pick_false _ _ _ (ne_eqb _ 0 n)

  goes : (deliver_apart p areas m).number ≡ 0 → (deliver_apart p areas m).after ≡ carried p areas m
  unfolding deliver_apart
  goes z = pick_true _ _ _ (eq-eqb _ 0 z)

  leaves : (a : Answered State) → Delivered p s m a → (deliver_apart p areas m).number ≡ a.number → (c : ℕ) → c < p.processors
      → Agrees Nothing Nothing p a.after c ((deliver_apart p areas m).after c)
  leaves a (Delivered.unfit h) e c low = rw (refuses (λ z. omega arith)) (each c low)
  leaves a Delivered.no_such e c low = rw (refuses (λ z. omega arith)) (each c low)
  leaves a (Delivered.not_flying h) e c low = rw (refuses (λ z. omega arith)) (each c low)
  leaves a (Delivered.delivers lo q) e c low = rw (goes e) (carries lo q c low)

  pub carry_agrees : (c : ℕ) → c < p.processors → Agrees Nothing Nothing p (deliver p s m).after c ((deliver_apart p areas m).after c)
  carry_agrees = leaves _ (delivered p s m) carry_number
