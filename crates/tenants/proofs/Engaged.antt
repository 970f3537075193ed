-- The shared words agree with both tenants' stages after every call: the invariant of a sharing.
use Prim.Native.Nat.{ℕ, ◌≤◌, ◌<◌}
use mathlib.Core.Path.{◌≡◌, sym, ap, ◌∙◌}
use mathlib.Core.Logic.{◌≢◌}
use mathlib.Core.Bool.{true, false}
use mathlib.Core.List.{List, [], ◌∷◌}
use native.Mathlib.Omega.{arith}
use native.Mathlib.Decide.{ℕ_discrete}
use lib.ListN.{length, length-set, length-replicate, get_or-replicate}
use lib.Seq.{get_or-set_same, get_or-set_other}
use borrow.Author.Tests.{eq-eqb, lt-ltb, le-leb}
use Rattle.base.proofs.Tests.{and_true, never_both, every_all}
use Rattle.machine.specs.Plan.{Plan, Sound}
use Rattle.machine.specs.Machine.{State, stage_of, fit_record, tiles_left, fresh}
use Rattle.machine.specs.Runs.{Event, turn_of, delivery_of, state_after}
use Rattle.machine.proofs.Turns.{Can, can}
use Rattle.machine.proofs.Kept.{Inv, inv_fit}
use Rattle.machine.proofs.Fresh.{inv_fresh, stage_fresh}
use Rattle.machine.proofs.Along.{next_inv}
use Rattle.tenants.specs.Tenants.{TenantAreas, holder_of, other_than, stage_agrees, word_for, fit_word, fit_for, held_by_other}
use Rattle.tenants.specs.Tenants.{carry_out_for, turn_for, deliver_for, act_for}
use Rattle.tenants.specs.Tenants.{Sharing, Sources, source_for, own_of, other_of, lent_to, returned, fresh_sharing, Call, act_on}
use Rattle.tenants.proofs.OneCall.{Admits, turn_admits, turn_number, turn_done, deliver_words, deliver_records, act_own}
use Rattle.tenants.proofs.SharedWords.{agrees_free, free_zero, begun_held, word_low, word_agrees, word_other, Acted, acted}
use Rattle.tenants.proofs.OneCall.{tenant_both, tenant_other, returned_own, returned_other, call_refused, call_tenant}

-- ---- the invariant
pub record SharingInv (p : Plan) (sources : Sources) (r : Sharing) : Type 0 where
  pub inv : (o : ℕ) → o ≤ 1 → Inv p (source_for sources o) (own_of r o)
  pub wide : length r.engaged ≡ p.processors
  pub words : (b : ℕ) → b < p.processors → holder_of r.engaged b ≤ 2
  pub stages : (b : ℕ) → b < p.processors → (o : ℕ) → o ≤ 1 → stage_agrees (holder_of r.engaged b) o (stage_of (own_of r o) b) ≡ true

-- a sharing with the invariant is fit for either tenant
module _ (p : Plan) (sources : Sources) (r : Sharing) (inv : SharingInv p sources r) (o : ℕ) (h : o ≤ 1) where
  pub other_is : other_of r o ≡ own_of r (other_than o)
  other_is = tenant_other o (other_than o) r.second r.first h (omega arith) (λ e. omega arith)

  word_fits : (b : ℕ) → b < p.processors → fit_word o (lent_to r o) (other_of r o).progress b ≡ true
  unfolding fit_word
  word_fits b k =
      and_true (le-leb _ _ (inv.words b k))
      (and_true (inv.stages b k o h) (rw other_is (inv.stages b k (other_than o) (omega arith))))

  pub sharing_fit : fit_for p o (lent_to r o) (other_of r o).progress ≡ true
  unfolding fit_for fit_record tiles_left
  sharing_fit =
      and_true (inv_fit p _ (own_of r o) (inv.inv o h))
      (and_true (every_all _ p.processors (λ b k. rw other_is ((inv.inv (other_than o) (omega arith)).shape.records b k)))
      (every_all _ p.processors word_fits))

-- ---- a fresh start has it
module _ (p : Plan) (b : ℕ) (low : b < p.processors) where
  none_holds : holder_of (fresh_sharing p).engaged b ≡ 2
  unfolding fresh_sharing
  none_holds = get_or-replicate {A = ℕ} p.processors b 2 0 low

  none_begun : (o : ℕ) → stage_of (own_of (fresh_sharing p) o) b ≡ 0
  unfolding fresh_sharing
  none_begun o = ap (λ (s : State). stage_of s b) (tenant_both o (fresh p)) ∙ stage_fresh p b

pub inv_start : (p : Plan) (sources : Sources) → SharingInv p sources (fresh_sharing p)
unfolding fresh_sharing
inv_start p sources =
    record {
      inv = λ o h. rw (tenant_both o (fresh p)) (inv_fresh p (source_for sources o));
      wide = length-replicate _ _;
      words = λ b k. omega (arith, none_holds p b k);
      stages = λ b k o h. agrees_free _ o _ (λ e. omega (arith, none_holds p b k)) (none_begun p b k o);
    }

-- ---- a call of tenant q leaves it
module _ (p : Plan) (so : Sound p) (sources : Sources) (r : Sharing) (inv : SharingInv p sources r) (q : ℕ) (hq : q ≤ 1) where
  abbrev source : List ℕ
  source = source_for sources q

  abbrev lent : TenantAreas
  lent = lent_to r q

  abbrev theirs : List ℕ
  theirs = (other_of r q).progress

  -- processor b's word after the call, against its tenant's stage and the other's, which stays
  record Fits (l : TenantAreas) (b : ℕ) : Type 0 where
    word : holder_of l.engaged b ≤ 2
    own : stage_agrees (holder_of l.engaged b) q (stage_of l.own b) ≡ true
    other : (o : ℕ) → o ≤ 1 → o ≢ q → stage_agrees (holder_of l.engaged b) o (stage_of (own_of r o) b) ≡ true

  inv_returned : (l : TenantAreas) → Inv p source l.own → length l.engaged ≡ p.processors → ((b : ℕ) → b < p.processors → Fits l b)
      → SharingInv p sources (returned r q l)
  unfolding returned
  inv_returned l own wide f =
      record {
        inv = λ o h. its_inv o h (ℕ_discrete o q);
        wide = wide;
        words = λ b k. (f b k).word;
        stages = λ b k o h. its_stage b k o h (ℕ_discrete o q);
      }
    where
      away : (o : ℕ) → o ≤ 1 → o ≢ q → own_of (returned r q l) o ≡ own_of r o
      away o h n = tenant_other o q _ _ h hq n ∙ returned_other r q l ∙ sym (tenant_other o q _ _ h hq n)

      its_inv : (o : ℕ) → o ≤ 1 → Dec (o ≡ q) → Inv p (source_for sources o) (own_of (returned r q l) o)
      its_inv o h (yes e) = rw (e, returned_own r q l) own
      its_inv o h (no n) = rw (away o h n) (inv.inv o h)

      its_stage : (b : ℕ) → b < p.processors → (o : ℕ) → o ≤ 1 → Dec (o ≡ q)
          → stage_agrees (holder_of l.engaged b) o (stage_of (own_of (returned r q l) o) b) ≡ true
      its_stage b k o h (yes e) = rw (e, returned_own r q l) (f b k).own
      its_stage b k o h (no n) = rw (away o h n) ((f b k).other o h n)

  -- where word and stage are as before
  fits_before : (b : ℕ) → b < p.processors → Fits lent b
  fits_before b k = record { word = inv.words b k; own = inv.stages b k q hq; other = λ o h n. inv.stages b k o h }

  -- a turn of processor b that gave 0
  module _ (b : ℕ) (z : (turn_for p source q lent theirs b).number ≡ 0) where
    abbrev turned : TenantAreas
    turned = (turn_for p source q lent theirs b).after

    admits : Admits p q lent theirs × (held_by_other p q lent b ≡ false)
    admits = turn_admits p q lent theirs source b z

    alone : Can p (own_of r q) b
    alone = can p source (own_of r q) b (sym (turn_number p q lent theirs source b admits.0 admits.1) ∙ z)

    low : b < p.processors
    low = alone.low

    left : Acted q lent b turned.own turned.engaged
    unfolding carry_out_for
    left =
        rw (turn_done p q lent theirs source b z)
        (acted p source q lent b low (inv.inv q hq).shape.progress inv.wide _ _ _ (λ k. begun_held _ q _ (inv.stages b low q hq) k))

    -- the other tenant doesn't hold it, so its stage there is 0
    none_other : (o : ℕ) → o ≤ 1 → o ≢ q → stage_of (own_of r o) b ≡ 0
    unfolding held_by_other tiles_left
    none_other o h n =
        free_zero _ o _ (inv.stages b low o h)
        (λ e. never_both (and_true (lt-ltb _ _ alone.left) (eq-eqb _ _ (e ∙ other_number))) admits.1)
      where
        other_number : o ≡ other_than q
        other_number = omega arith

    word_here : holder_of turned.engaged b ≡ word_for q (stage_of turned.own b)
    word_here = ap (λ (ws : List ℕ). holder_of ws b) left.word ∙ get_or-set_same lent.engaged b _ 0 (omega (arith, inv.wide, low))

    word_away : (c : ℕ) → c ≢ b → holder_of turned.engaged c ≡ holder_of lent.engaged c
    word_away c n = ap (λ (ws : List ℕ). holder_of ws c) left.word ∙ get_or-set_other lent.engaged b c _ 0 n

    fits_here : Fits turned b
    fits_here =
        record {
          word = rw word_here (word_low q _ hq);
          own = rw word_here (word_agrees q _ hq left.stage_low);
          other = λ o h n. rw word_here (word_other q _ hq o _ h n (none_other o h n));
        }

    fits_after : (c : ℕ) → c < p.processors → Dec (c ≡ b) → Fits turned c
    fits_after c k (yes e) = rw e fits_here
    fits_after c k (no n) =
        record {
          word = rw (word_away c n) (inv.words c k);
          own = rw (word_away c n, left.stages c n) (inv.stages c k q hq);
          other = λ o h ne. rw (word_away c n) (inv.stages c k o h);
        }

    wide_after : length turned.engaged ≡ length lent.engaged
    wide_after = ap length left.word ∙ length-set lent.engaged b _

    after_turn : Inv p source turned.own → SharingInv p sources (returned r q turned)
    after_turn own = inv_returned turned own (wide_after ∙ inv.wide) (λ c k. fits_after c k (ℕ_discrete c b))

  -- a delivery
  module _ (m : ℕ) where
    abbrev brought : TenantAreas
    brought = (deliver_for p q lent theirs m).after

    after_delivery : Inv p source brought.own → SharingInv p sources (returned r q brought)
    after_delivery own = inv_returned brought own (ap length (deliver_words p q lent theirs m) ∙ inv.wide) fits_after
      where
        fits_after : (c : ℕ) → c < p.processors → Fits brought c
        fits_after c k =
            record {
              word = rw (deliver_words p q lent theirs m) (inv.words c k);
              own = rw (deliver_words p q lent theirs m, deliver_records p q lent theirs m) (inv.stages c k q hq);
              other = λ o h ne. rw (deliver_words p q lent theirs m) (inv.stages c k o h);
            }

  after_event : (e : Event) → (act_for p source q lent theirs e).number ≡ 0 → Inv p source (act_for p source q lent theirs e).after.own
      → SharingInv p sources (returned r q (act_for p source q lent theirs e).after)
  unfolding act_for
  after_event (turn_of b) z own = after_turn b z own
  after_event (delivery_of m) z own = after_delivery m own

  after_own : (e : Event) → (act_for p source q lent theirs e).number ≡ 0
      → SharingInv p sources (returned r q (act_for p source q lent theirs e).after)
  after_own e z = after_event e z (rw (act_own p q lent theirs source e z) (next_inv p so source (own_of r q) (inv.inv q hq) e))

module _ (p : Plan) (so : Sound p) (sources : Sources) where
  after_done : (r : Sharing) → SharingInv p sources r → (c : Call) → (act_on p sources r c).number ≡ 0 → SharingInv p sources (act_on p sources r c).after
  unfolding act_on
  after_done r inv c z = after_own p so sources r inv c.tenant (call_tenant p sources r c z) c.event z

  pub inv_next : (r : Sharing) → SharingInv p sources r → (c : Call) → SharingInv p sources (act_on p sources r c).after
  inv_next r inv c = go (ℕ_discrete (act_on p sources r c).number 0)
    where
      go : Dec ((act_on p sources r c).number ≡ 0) → SharingInv p sources (act_on p sources r c).after
      go (yes z) = after_done r inv c z
      go (no n) = rw (call_refused p sources r c n) inv

  pub inv_run : (cs : List Call) (r : Sharing) → SharingInv p sources r → SharingInv p sources (state_after (act_on p sources) r cs)
  unfolding state_after
  inv_run [] r inv = inv
  inv_run (c ∷ cs) r inv = inv_run cs _ (inv_next r inv c)
