-- Carrying a message is made of the machine's own calls and a copy of words and status.
use Prim.Native.Nat.{ℕ, ◌≤◌, ◌<◌}
use mathlib.Core.Path.{◌≡◌, refl, sym, ap, ◌∙◌}
use mathlib.Core.Logic.{◌≢◌}
use mathlib.Core.Bool.{true}
use mathlib.Core.List.{List}
use native.Mathlib.Omega.{arith}
use native.Mathlib.Decide.{ℕ_discrete}
use lib.ListN.{length}
use lib.Seq.{get_or-set_same, get_or-set_other, set-set}
use lib.Dec.{leb}
use borrow.Author.Tests.{eq-eqb, ne_eqb, le-leb}
use Rattle.base.proofs.Tests.{and_true, every_all, not-true, pick_true, pick_false}
use Rattle.base.proofs.Lists.{part_length, put_part}
use Rattle.base.proofs.Numbers.{first_false}
use Rattle.machine.specs.Plan.{Plan, Sound, count, sender_of, taker_of, held_by, words, offset}
use Rattle.machine.specs.Machine.{State, place_of, fit_record, tiles_left, fit, Answered, deliver, fresh}
use Rattle.machine.specs.Runs.{Event}
use Rattle.machine.proofs.Values.{offset_apart}
use Rattle.machine.proofs.Turns.{can_deliver}
use Rattle.machine.proofs.Progress.{Shape}
use Rattle.machine.proofs.Kept.{status_of}
use Rattle.network.specs.Apart.{AreasApart, start_apart, replaced, sender_at, taker_at, marked, received, sent_off, arrived, carried, deliver_apart, act_apart}
use Rattle.network.specs.Apart.{last_apart, last_shared}
use Rattle.network.specs.Transport.{copied, ByCalls}
use Rattle.network.proofs.Letters.{replaced_same, replaced_other}
use Rattle.network.proofs.Agrees.{Agrees, Nothing, agrees_fit}
use Rattle.network.proofs.Together.{Together, start_together, run_together}

pub deliver_goes : (p : Plan) (r : State) (m : ℕ) → (deliver p r m).number ≡ 0 → (deliver p r m).after ≡ marked r m
unfolding deliver
deliver_goes p r m z = pick_true _ _ _ (eq-eqb _ 0 z)

-- a processor's own words put back and its status set again
received_own : (p : Plan) (r : State) (m : ℕ) → length r.buffer ≡ words p → m < count p → received p (marked r m) m (place_of p r.buffer m) ≡ marked r m
received_own p r m len lo =
    rw (
      put_part r.buffer (offset p.messages m) (length (held_by p m)) (rw len (offset_apart p.messages m (count p) lo lo)),
      set-set
          r.status m 2 2,
    )

pub both_parts : (x : Answered State) (s : State) → x.number ≡ 0 → x.after ≡ s → x ≡ record { number = 0; after = s }
both_parts x s e f = number_part x.number e ∙ after_part x.after f
  where
    number_part : (n : ℕ) → n ≡ 0 → ◌≡◌ {A = Answered State} (record { number = n; after = x.after }) (record { number = 0; after = x.after })
    number_part n q = rw q

    after_part : (r : State) → r ≡ s → ◌≡◌ {A = Answered State} (record { number = 0; after = r }) (record { number = 0; after = s })
    after_part r q = rw q

-- the copy is fit, so that the call gives 0 on it and leaves what the transport has
module _ (p : Plan) (r : State) (m : ℕ) (ws : List ℕ) (lo : m < count p) (sh : Shape p r) (high : (k : ℕ) → k < count p → status_of r k ≤ 3)
    (len : length ws ≡ length (held_by p m)) where
  status_copied : status_of (copied p r m ws) m ≡ 1
  status_copied = get_or-set_same r.status m 1 0 (rw sh.status lo)

  high_copied : (k : ℕ) → k < count p → status_of (copied p r m ws) k ≤ 3
  high_copied k l = go (ℕ_discrete k m)
    where
      go : Dec (k ≡ m) → status_of (copied p r m ws) k ≤ 3
      go (yes e) = rw e (omega (arith, status_copied))
      go (no n) = omega (arith, get_or-set_other r.status m k 1 0 n, high k l)

  fit_copied : fit p (copied p r m ws) ≡ true
  unfolding fit fit_record tiles_left
  fit_copied =
      and_true (every_all _ p.processors sh.records)
      (every_all (λ k. leb (status_of (copied p r m ws) k) 3) (count p) (λ k l. le-leb _ _ (high_copied k l)))

  copied_goes : (deliver p (copied p r m ws) m).number ≡ 0
  copied_goes = can_deliver p (copied p r m ws) m fit_copied lo status_copied

  copied_leaves : (deliver p (copied p r m ws) m).after ≡ received p r m ws
  copied_leaves = deliver_goes p (copied p r m ws) m copied_goes ∙ rw (set-set r.status m 1 2)

  pub copied_both : deliver p (copied p r m ws) m ≡ record { number = 0; after = received p r m ws }
  copied_both = both_parts (deliver p (copied p r m ws) m) (received p r m ws) copied_goes copied_leaves

-- who has what once message m is carried
module _ (p : Plan) (areas : AreasApart) (m : ℕ) where
  pub carried_home : sender_at p m ≡ taker_at p m → length (areas (sender_at p m)).buffer ≡ words p → m < count p → carried p areas m (sender_at p m)
      ≡ marked (areas (sender_at p m)) m
  unfolding carried arrived sent_off
  carried_home e len lo = law (sender_at p m) (taker_at p m) e (received_own p (areas (sender_at p m)) m len lo)
    where
      law : (a c : ℕ) → a ≡ c → received p (marked (areas a) m) m (place_of p (areas a).buffer m) ≡ marked (areas a) m
          → replaced (replaced areas a (marked (areas a) m)) c
          (received p (replaced areas a (marked (areas a) m) c) m (place_of p (areas a).buffer m)) a ≡ marked (areas a) m
      law a c q own =
          replaced_same (replaced areas a (marked (areas a) m)) c _ a q
          ∙ ap (λ (x : State). received p x m (place_of p (areas a).buffer m)) (replaced_same areas a (marked (areas a) m) c (sym q))
          ∙ own

  carried_sender : sender_at p m ≢ taker_at p m → carried p areas m (sender_at p m) ≡ marked (areas (sender_at p m)) m
  unfolding carried arrived sent_off
  carried_sender n = replaced_other _ (taker_at p m) _ (sender_at p m) n ∙ replaced_same areas (sender_at p m) _ (sender_at p m) refl

  carried_taker : sender_at p m ≢ taker_at p m → carried p areas m (taker_at p m)
      ≡ received p (areas (taker_at p m)) m (place_of p (areas (sender_at p m)).buffer m)
  unfolding carried arrived sent_off
  carried_taker n =
      replaced_same _ (taker_at p m) _ (taker_at p m) refl
      ∙ ap (λ (x : State). received p x m (place_of p (areas (sender_at p m)).buffer m))
      (replaced_other areas (sender_at p m) _ (taker_at p m) (λ e. n (sym e)))

  pub carried_third : (c : ℕ) → c ≢ sender_at p m → c ≢ taker_at p m → carried p areas m c ≡ areas c
  unfolding carried arrived sent_off
  carried_third c n k = replaced_other _ (taker_at p m) _ c k ∙ replaced_other areas (sender_at p m) _ c n

  pub deliver_after : (deliver_apart p areas m).number ≡ 0 → (deliver_apart p areas m).after ≡ carried p areas m
  unfolding deliver_apart
  deliver_after z = pick_true _ _ _ (eq-eqb _ 0 z)

  pub deliver_stays : (deliver_apart p areas m).number ≢ 0 → (deliver_apart p areas m).after ≡ areas
  unfolding deliver_apart
  deliver_stays n = pick_false _ _ _ (ne_eqb _ 0 n)

  pub same_number : fit p (areas (sender_at p m)) ≡ true → (deliver p (areas (sender_at p m)) m).number ≡ (deliver_apart p areas m).number
  unfolding deliver deliver_apart
  same_number f = first_false 10 _ _ (not-true f)

module _ (p : Plan) (so : Sound p) (source : List ℕ) (events : List Event) (m : ℕ) (lo : m < count p) where
  abbrev areas : AreasApart
  areas = last_apart p source events

  to : Together Nothing p source (last_shared p source events) areas
  to = run_together p so source events (fresh p) (start_apart p) (start_together p source (λ m z. z))

  sender_agrees : Agrees Nothing Nothing p (last_shared p source events) (sender_at p m) (areas (sender_at p m))
  sender_agrees = to.each (sender_at p m) (so.processor_low (sender_of p m) (omega (arith, so.forward m lo, so.taker_low m lo)))

  taker_agrees : Agrees Nothing Nothing p (last_shared p source events) (taker_at p m) (areas (taker_at p m))
  taker_agrees = to.each (taker_at p m) (so.processor_low (taker_of p m) (so.taker_low m lo))

  ask : (deliver p (areas (sender_at p m)) m).number ≡ (deliver_apart p areas m).number
  ask = same_number p areas m (agrees_fit p source (last_shared p source events) (sender_at p m) (areas (sender_at p m)) to.inv sender_agrees)

  length_words : length (place_of p (areas (sender_at p m)).buffer m) ≡ length (held_by p m)
  length_words =
      part_length (areas (sender_at p m)).buffer (offset p.messages m) (length (held_by p m))
      (rw sender_agrees.shape.buffer (offset_apart p.messages m (count p) lo lo))

  by_sender : (deliver_apart p areas m).number ≡ 0 → (deliver_apart p areas m).after (sender_at p m) ≡ (deliver p (areas (sender_at p m)) m).after
  by_sender z = ap (λ (x : AreasApart). x (sender_at p m)) (deliver_after p areas m z) ∙ go (ℕ_discrete (sender_at p m) (taker_at p m))
      ∙ sym (deliver_goes p (areas (sender_at p m)) m (ask ∙ z))
    where
      go : Dec (sender_at p m ≡ taker_at p m) → carried p areas m (sender_at p m) ≡ marked (areas (sender_at p m)) m
      go (yes e) = carried_home p areas m e sender_agrees.shape.buffer lo
      go (no n) = carried_sender p areas m n

  by_taker : (deliver_apart p areas m).number ≡ 0 → sender_at p m ≢ taker_at p m
      → deliver p (copied p (areas (taker_at p m)) m (place_of p (areas (sender_at p m)).buffer m)) m
      ≡ record { number = 0; after = (deliver_apart p areas m).after (taker_at p m) }
  by_taker z n =
      copied_both p (areas (taker_at p m)) m (place_of p (areas (sender_at p m)).buffer m) lo taker_agrees.shape taker_agrees.high length_words
      ∙ ap (λ (x : State). record { number = 0; after = x })
      (sym (ap (λ (x : AreasApart). x (taker_at p m)) (deliver_after p areas m z) ∙ carried_taker p areas m n))

  by_others : (c : ℕ) → c ≢ sender_at p m → c ≢ taker_at p m → (deliver_apart p areas m).after c ≡ areas c
  by_others c n k = go (ℕ_discrete (deliver_apart p areas m).number 0)
    where
      go : Dec ((deliver_apart p areas m).number ≡ 0) → (deliver_apart p areas m).after c ≡ areas c
      go (yes z) = ap (λ (x : AreasApart). x c) (deliver_after p areas m z) ∙ carried_third p areas m c n k
      go (no z) = ap (λ (x : AreasApart). x c) (deliver_stays p areas m z)

  pub by_calls : ByCalls p source events m
  unfolding act_apart
  by_calls = record { asks = ask; sender_side = by_sender; taker_side = by_taker; others = by_others }
