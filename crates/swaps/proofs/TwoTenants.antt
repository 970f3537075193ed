-- Request W-214 for a sharing of two tenants: in every sharing with the invariant, and for any calls that are guarded.
use Prim.Native.Nat.{ℕ, ◌≤◌, ◌<◌}
use mathlib.Core.Path.{◌≡◌, refl, sym, ap, ◌∙◌}
use mathlib.Core.Logic.{◌≢◌}
use mathlib.Core.Bool.{true}
use mathlib.Core.List.{List}
use native.Mathlib.Omega.{arith}
use native.Mathlib.Decide.{ℕ_discrete}
use lib.Seq.{get_or-set_same}
use lib.Dec.{ltb}
use borrow.Author.Tests.{eq-eqb, ne_eqb, le-leb, ltb-true}
use Rattle.base.specs.Tests.{pick}
use Rattle.base.proofs.Tests.{and_true, and_no, never_both, not-true}
use Rattle.base.proofs.Numbers.{first_false, first_true}
use Rattle.machine.specs.Plan.{Plan, Sound}
use Rattle.machine.specs.Machine.{State, Answered, stage_of, tiles_left, current_tile, action_at}
use Rattle.machine.specs.Runs.{Event, turn_of, delivery_of, act, state_after}
use Rattle.machine.proofs.Turns.{turn_lines}
use Rattle.machine.proofs.Records.{SameRecord}
use Rattle.machine.proofs.RunLaws.{number_of}
use Rattle.machine.proofs.Guards.{Guards, alike_guards, good_end}
use Rattle.tenants.specs.Tenants.{holder_of, other_than, held_by_other, turn_for, act_for, Call, act_on}
use Rattle.tenants.specs.Tenants.{of_tenant, Sharing, Sources, source_for, own_of, other_of, lent_to, fresh_sharing}
use Rattle.tenants.proofs.OneCall.{call_refused, call_tenant, call_number, call_away}
use Rattle.tenants.proofs.Engaged.{SharingInv, sharing_fit, inv_start, inv_next}
use Rattle.tenants.proofs.SharedWords.{free_zero}
use Rattle.tenants.proofs.TenantTurns.{OpenTurn, turn_open, open_turn, open_mail}
use Rattle.tenants.proofs.OneTenant.{step_own}
use Rattle.tenants.proofs.AnyCalls.{Alike}
use Rattle.swaps.specs.Swaps.{CanTake, EitherWay}
use Rattle.swaps.specs.TwoTenants.{Gathers, TwoGathers, DifferentFor, SwapsFor, Demand214For, wholly}
use Rattle.swaps.proofs.OneTenant.{either_event}
use Rattle.swaps.proofs.Carried.{plain_taken, follows, carried, rewinds}
use Rattle.swaps.proofs.SharedWords.{words_by, words_after, words_away, words_swap, words_gather, words_same, record_kept}

abbrev call : ℕ → Event → Call
call o e = record { tenant = o; event = e }

call_same : (c d : Call) → c.tenant ≡ d.tenant → c.event ≡ d.event → c ≡ d
call_same c d h k = go c.tenant d.tenant c.event d.event h k
  where
    go : (o q : ℕ) (e f : Event) → o ≡ q → e ≡ f → call o e ≡ call q f
    go o q e f x y = rw (x, y)

-- two rigs with the same areas of either tenant and the same shared words
sharing_same : (r r' : Sharing) → ((o : ℕ) → o ≤ 1 → own_of r o ≡ own_of r' o) → r.engaged ≡ r'.engaged → r ≡ r'
unfolding of_tenant pick
sharing_same r r' h k = go r.first r'.first r.second r'.second r.engaged r'.engaged (h 0 (omega arith)) (h 1 (omega arith)) k
  where
    sharing : State → State → List ℕ → Sharing
    sharing a b l = record { first = a; second = b; engaged = l }

    go : (a a' b b' : State) (l l' : List ℕ) → a ≡ a' → b ≡ b' → l ≡ l' → sharing a b l ≡ sharing a' b' l'
    go a a' b b' l l' x y z = rw (x, y, z)

-- ---- when a call can be taken

-- the other tenant does not hold the processor
abbrev Free : Sharing → ℕ → Event → Type 0
Free r o (turn_of b) = holder_of r.engaged b ≢ other_than o
Free r o (delivery_of m) = Unit {0}

module _ (p : Plan) (sources : Sources) (r : Sharing) where
  takes_when : SharingInv p sources r → (o : ℕ) → o ≤ 1 → (e : Event) → (act p (source_for sources o) (own_of r o) e).number ≡ 0 → Free r o e
      → (act_on p sources r (call o e)).number ≡ 0
  unfolding act_on act_for act held_by_other
  takes_when inv o low (turn_of b) z free =
      let q = turn_lines p (source_for sources o) (own_of r o) b z in
      open_turn p o (lent_to r o) (other_of r o).progress (source_for sources o) b
      (record {
        tenant = le-leb _ _ low;
        fits = sharing_fit p sources r inv o low;
        low = q.0;
        free = and_no _ _ (ne_eqb _ _ free);
        ready = q.1;
        left = q.2;
      })
  takes_when inv o low (delivery_of m) z free =
      open_mail p o (lent_to r o) (other_of r o).progress m (le-leb _ _ low) (sharing_fit p sources r inv o low) z

  turn_is_open : (o b : ℕ) → (act_on p sources r (call o (turn_of b))).number ≡ 0 → OpenTurn p o (lent_to r o) (other_of r o).progress b
  unfolding act_on act_for
  turn_is_open o b z = turn_open p o (lent_to r o) (other_of r o).progress (source_for sources o) b z

  taken_free : (o : ℕ) (e : Event) → (act_on p sources r (call o e)).number ≡ 0 → Free r o e
  unfolding held_by_other
  taken_free o (turn_of b) z = λ e. let q = turn_is_open o b z in never_both (and_true q.left (eq-eqb _ _ e)) q.free
  taken_free o (delivery_of m) z = tt

  -- a turn of a processor that is held, after all that comes before in the table
  held_off : SharingInv p sources r → (o b : ℕ) → o ≤ 1 → ltb b p.processors ≡ true → tiles_left p (own_of r o) b ≡ true
      → holder_of r.engaged b ≡ other_than o
      → (act_on p sources r (call o (turn_of b))).number ≡ 19
  unfolding act_on act_for turn_for held_by_other
  held_off inv o b low k left w =
      first_false 11 _ _ (not-true (le-leb _ _ low)) ∙ first_false 10 _ _ (not-true (sharing_fit p sources r inv o low))
      ∙ first_false 11 _ _ (not-true k)
      ∙ first_true 19 _ _ (and_true left (eq-eqb _ _ w))

-- ---- two calls that can both be taken
module _ (p : Plan) (so : Sound p) (sources : Sources) (r : Sharing) (inv : SharingInv p sources r) where
  abbrev after : ℕ → Event → Sharing
  after o e = (act_on p sources r (call o e)).after

  inv_after : (o : ℕ) (e : Event) → SharingInv p sources (after o e)
  inv_after o e = inv_next p so sources r inv (call o e)

  low_tenant : (o : ℕ) (e : Event) → (act_on p sources r (call o e)).number ≡ 0 → o ≤ 1
  low_tenant o e z = call_tenant p sources r (call o e) z

  single_zero : (o : ℕ) (e : Event) → (act_on p sources r (call o e)).number ≡ 0 → (act p (source_for sources o) (own_of r o) e).number ≡ 0
  single_zero o e z = call_number p sources r (call o e) z

  -- not turns of one processor, and not one delivery
  module _ (o q : ℕ) (e f : Event) (zc : (act_on p sources r (call o e)).number ≡ 0) (zd : (act_on p sources r (call q f)).number ≡ 0)
      (apart : (b : ℕ) → e ≡ turn_of b → f ≡ turn_of b → ⊥) (other : o ≡ q → e ≢ f) where
    single_way : (x : ℕ) → x ≤ 1 → o ≡ x → q ≡ x → EitherWay (act p (source_for sources x)) (own_of r x) e f
    single_way x low h k =
        either_event p so (source_for sources x) (own_of r x) (inv.inv x low) e f (other (h ∙ sym k))
        (ap (λ (y : ℕ). (act p (source_for sources y) (own_of r y) e).number) (sym h) ∙ single_zero o e zc)
        (ap (λ (y : ℕ). (act p (source_for sources y) (own_of r y) f).number) (sym k) ∙ single_zero q f zd)

    -- the second's own areas after the first
    own_step : (x : ℕ) → o ≡ x → own_of (after o e) x ≡ (act p (source_for sources x) (own_of r x) e).after
    own_step x h = step_own p sources x (rw h at (low_tenant o e zc)) r (call o e) h zc

    own_away : (x : ℕ) → x ≤ 1 → o ≢ x → own_of (after o e) x ≡ own_of r x
    own_away x low n = call_away p sources r (call o e) x low (λ h. n (sym h))

    pub still_takes : (act_on p sources (after o e) (call q f)).number ≡ 0
    still_takes = takes_when p sources (after o e) (inv_after o e) q (low_tenant q f zd) f (number (ℕ_discrete o q)) (free f refl)
      where
        number : Dec (o ≡ q) → (act p (source_for sources q) (own_of (after o e) q) f).number ≡ 0
        number (yes h) = rw (own_step q h) (single_way q (low_tenant q f zd) h refl).then_second
        number (no n) = rw (own_away q (low_tenant q f zd) n) (single_zero q f zd)

        free : (g : Event) → f ≡ g → Free (after o e) q g
        free (turn_of b) k =
            λ w. (taken_free p sources r q (turn_of b) (ap (λ (g : Event). (act_on p sources r (call q g)).number) (sym k) ∙ zd))
            (sym (ap (λ (l : List ℕ). holder_of l b) (words_after p sources r o e zc) ∙ words_away p o (own_of r o) e r.engaged b (λ h. apart b h k)) ∙ w)
        free (delivery_of m) k = tt

    -- the second's record of the processor that it turns
    record_stays : (b : ℕ) → f ≡ turn_of b → SameRecord b (own_of (after o e) q).progress (own_of r q).progress
    record_stays b k = go (ℕ_discrete o q)
      where
        go : Dec (o ≡ q) → SameRecord b (own_of (after o e) q).progress (own_of r q).progress
        go (yes h) =
            rw (own_step q h)
            (record_kept p (source_for sources q) (own_of r q) e b (λ g. apart b g k))
        go (no n) = rw (own_away q (low_tenant q f zd) n) (record { finished = refl; stage = refl; sent = refl })

    pub shared_then : (act_on p sources (after o e) (call q f)).after.engaged
        ≡ words_by p q (own_of r q) f (words_by p o (own_of r o) e r.engaged)
    shared_then =
        words_after p sources (after o e) q f still_takes
        ∙ words_same p q (own_of r q) (own_of (after o e) q) f (after o e).engaged record_stays
        ∙ ap (words_by p q (own_of r q) f) (words_after p sources r o e zc)

    -- either tenant's areas after both
    own_both : (x : ℕ) → o ≡ x → q ≡ x
        → own_of (act_on p sources (after o e) (call q f)).after x
        ≡ (act p (source_for sources x) (act p (source_for sources x) (own_of r x) e).after f).after
    own_both x h k =
        step_own p sources x (rw k at (low_tenant q f zd)) (after o e) (call q f) k still_takes
        ∙ ap (λ (s : State). (act p (source_for sources x) s f).after) (own_step x h)

    own_first : (x : ℕ) → x ≤ 1 → o ≡ x → q ≢ x
        → own_of (act_on p sources (after o e) (call q f)).after x ≡ (act p (source_for sources x) (own_of r x) e).after
    own_first x low h n = call_away p sources (after o e) (call q f) x low (λ k. n (sym k)) ∙ own_step x h

    own_second : (x : ℕ) → x ≤ 1 → o ≢ x → q ≡ x
        → own_of (act_on p sources (after o e) (call q f)).after x ≡ (act p (source_for sources x) (own_of r x) f).after
    own_second x low n k =
        step_own p sources x low (after o e) (call q f) k still_takes
        ∙ ap (λ (s : State). (act p (source_for sources x) s f).after) (own_away x low n)

    own_none : (x : ℕ) → x ≤ 1 → o ≢ x → q ≢ x → own_of (act_on p sources (after o e) (call q f)).after x ≡ own_of r x
    own_none x low n k = call_away p sources (after o e) (call q f) x low (λ h. k (sym h)) ∙ own_away x low n

  module _ (o q : ℕ) (e f : Event) (zc : (act_on p sources r (call o e)).number ≡ 0) (zd : (act_on p sources r (call q f)).number ≡ 0)
      (apart : (b : ℕ) → e ≡ turn_of b → f ≡ turn_of b → ⊥) (other : o ≡ q → e ≢ f) where
    apart' : (b : ℕ) → f ≡ turn_of b → e ≡ turn_of b → ⊥
    apart' b h k = apart b k h

    other' : q ≡ o → f ≢ e
    other' h k = other (sym h) (sym k)

    own_same : (x : ℕ) → x ≤ 1
        → own_of (act_on p sources (after o e) (call q f)).after x ≡ own_of (act_on p sources (after q f) (call o e)).after x
    own_same x low = go (ℕ_discrete o x) (ℕ_discrete q x)
      where
        go : Dec (o ≡ x) → Dec (q ≡ x)
            → own_of (act_on p sources (after o e) (call q f)).after x ≡ own_of (act_on p sources (after q f) (call o e)).after x
        go (yes h) (yes k) =
            own_both o q e f zc zd apart other x h k ∙ (single_way o q e f zc zd apart other x low h k).same_words
            ∙ sym (own_both q o f e zd zc apart' other' x k h)
        go (yes h) (no n) = own_first o q e f zc zd apart other x low h n ∙ sym (own_second q o f e zd zc apart' other' x low n h)
        go (no n) (yes k) = own_second o q e f zc zd apart other x low n k ∙ sym (own_first q o f e zd zc apart' other' x low k n)
        go (no n) (no m) = own_none o q e f zc zd apart other x low n m ∙ sym (own_none q o f e zd zc apart' other' x low m n)

    way : EitherWay (act_on p sources) r (call o e) (call q f)
    way =
        record {
          then_second = still_takes o q e f zc zd apart other;
          then_first = still_takes q o f e zd zc apart' other';
          same_words =
              sharing_same _ _ own_same
              (shared_then o q e f zc zd apart other ∙ words_swap p o q (own_of r o) (own_of r q) e f r.engaged apart
              ∙ sym (shared_then q o f e zd zc apart' other'));
        }

  -- ---- two turns of one processor by two tenants
  module _ (o q b : ℕ) (ne : o ≢ q) (zc : (act_on p sources r (call o (turn_of b))).number ≡ 0)
      (zd : (act_on p sources r (call q (turn_of b))).number ≡ 0) where
    lows : (o ≤ 1) × (q ≤ 1)
    lows = (low_tenant o (turn_of b) zc, low_tenant q (turn_of b) zd)

    other_is : q ≡ other_than o
    other_is = let h = lows in omega (arith, ne, h.0, h.1)

    -- neither holds it, so this one's stage there is 0
    at_start : stage_of (own_of r o) b ≡ 0
    at_start =
        free_zero _ o _ (inv.stages b (ltb-true _ _ (turn_is_open p sources r o b zc).low) o lows.0)
        (λ w. taken_free p sources r q (turn_of b) zd (let h = lows in let k : o ≡ other_than q = omega (arith, ne, h.0, h.1) in w ∙ k))

    gathers : Gathers p r o b
    unfolding action_at
    gathers = (current_tile p (own_of r o) b, rw at_start refl)

    -- after this one the other is refused
    then_held : (act_on p sources (after o (turn_of b)) (call q (turn_of b))).number ≡ 19
    then_held =
        held_off p sources (after o (turn_of b)) (inv_after o (turn_of b)) q b lows.1 (turn_is_open p sources r q b zd).low
        (rw (call_away p sources r (call o (turn_of b)) q lows.1 (λ h. ne (sym h))) (turn_is_open p sources r q b zd).left)
        (word_is ∙ (let h = lows in let k : o ≡ other_than q = omega (arith, ne, h.0, h.1) in k))
      where
        word_is : holder_of (after o (turn_of b)).engaged b ≡ o
        word_is =
            ap (λ (l : List ℕ). holder_of l b)
            (words_after p sources r o (turn_of b) zc ∙ words_gather p o (own_of r o) b r.engaged at_start)
            ∙ get_or-set_same r.engaged b o 0
            (let k : b < p.processors = ltb-true _ _ (turn_is_open p sources r o b zc).low in omega (arith, inv.wide))

-- ---- the claim, in a sharing with the invariant
module _ (p : Plan) (so : Sound p) (sources : Sources) (r : Sharing) (inv : SharingInv p sources r) where
  -- the calls as a tenant and an event each
  both_gather : (c d : Call) (b : ℕ) → c.tenant ≢ d.tenant → c.event ≡ turn_of b → d.event ≡ turn_of b → CanTake (act_on p sources) r c
      → CanTake (act_on p sources) r d
      → TwoGathers p r c d
  both_gather c d b ne h k zc zd =
      record {
        processor = b;
        first_turn = h;
        second_turn = k;
        two_tenants = ne;
        first_gathers = gathers p so sources r inv c.tenant d.tenant b ne (rw h at zc) (rw k at zd);
        second_gathers = gathers p so sources r inv d.tenant c.tenant b (λ e. ne (sym e)) (rw k at zd) (rw h at zc);
      }

  only_one : (c d : Call) → CanTake (act_on p sources) r c → CanTake (act_on p sources) r d → TwoGathers p r c d
      → (act_on p sources (act_on p sources r c).after d).number ≡ 19
  only_one c d zc zd t =
      rw (as_turn c t.first_turn, as_turn d t.second_turn)
      (then_held p so sources r inv c.tenant d.tenant t.processor t.two_tenants (rw (as_turn c t.first_turn) at zc)
      (rw (as_turn d t.second_turn) at zd))
    where
      as_turn : (x : Call) → x.event ≡ turn_of t.processor → x ≡ call x.tenant (turn_of t.processor)
      as_turn x h = call_same x (call x.tenant (turn_of t.processor)) refl h

  pub swaps_on : SwapsFor wholly p (act_on p sources) r
  swaps_on =
      record {
        swaps =
            record {
              either_way = λ c d apart zc zd.
                  way p so sources r inv c.tenant d.tenant c.event d.event zc zd
                  (λ b h k. not_one c d apart.different zc zd apart.not_gathers b h k (ℕ_discrete c.tenant d.tenant))
                  (λ h k. apart.different (call_same c d h k));
            };
        both_gather = both_gather;
        only_one = λ c d zc zd t. (only_one c d zc zd t, only_one d c zd zc (turned t));
      }
    where
      turned : {c d : Call} → TwoGathers p r c d → TwoGathers p r d c
      turned t =
          record {
            processor = t.processor;
            first_turn = t.second_turn;
            second_turn = t.first_turn;
            two_tenants = λ e. t.two_tenants (sym e);
            first_gathers = t.second_gathers;
            second_gathers = t.first_gathers;
          }

      not_one : (c d : Call) → c ≢ d → CanTake (act_on p sources) r c → CanTake (act_on p sources) r d → (TwoGathers p r c d → ⊥)
          → (b : ℕ) → c.event ≡ turn_of b → d.event ≡ turn_of b → Dec (c.tenant ≡ d.tenant) → ⊥
      not_one c d ne zc zd none b h k (yes e) = ne (call_same c d e (h ∙ sym k))
      not_one c d ne zc zd none b h k (no n) = none (both_gather c d b n h k zc zd)

-- ---- any calls that are guarded, as a turn at its minute
module _ (p : Plan) (so : Sound p) (sources : Sources) {C : Type 0} (call_of : C → Call) (calls : Sharing → C → Answered Sharing)
    (allowed : C → Type 0) (gd : Guards (SharingInv p sources) (act_on p sources) calls call_of allowed) where
  module _ (r : Sharing) (inv : SharingInv p sources r) where
    taken : (c : C) → CanTake calls r c → CanTake (act_on p sources) r (call_of c)
    taken = plain_taken (SharingInv p sources) (act_on p sources) calls call_of allowed gd (inv_next p so sources) r inv

    after_it : (c d : C) → CanTake calls r c → CanTake calls r d
        → calls (calls r c).after d ≡ act_on p sources (act_on p sources r (call_of c)).after (call_of d)
    after_it = follows (SharingInv p sources) (act_on p sources) calls call_of allowed gd (inv_next p so sources) r inv

    guarded_at : SwapsFor call_of p calls r
    guarded_at =
        record {
          swaps =
              record {
                either_way = λ c d apart zc zd.
                    carried (SharingInv p sources) (act_on p sources) calls call_of allowed gd (inv_next p so sources) r inv c d zc zd
                    (here.swaps.either_way (call_of c) (call_of d)
                    (record { different = apart.different; not_gathers = apart.not_gathers }) (taken c zc) (taken d zd));
              };
          both_gather = λ c d b ne h k zc zd. here.both_gather (call_of c) (call_of d) b ne h k (taken c zc) (taken d zd);
          only_one = λ c d zc zd t.
              let w = here.only_one (call_of c) (call_of d) (taken c zc) (taken d zd) t in
              (number_of (after_it c d zc zd) ∙ w.0, number_of (after_it d c zd zc) ∙ w.1);
        }
      where
        here : SwapsFor wholly p (act_on p sources) r
        here = swaps_on p so sources r inv

  swaps_run : (cs : List C) → SwapsFor call_of p calls (state_after calls (fresh_sharing p) cs)
  swaps_run cs =
      guarded_at _
      (good_end (SharingInv p sources) (act_on p sources) calls call_of allowed gd (inv_next p so sources) cs (fresh_sharing p) (inv_start p sources))

  pub demand214_for : Demand214For call_of p calls (fresh_sharing p)
  demand214_for =
      record { swaps = swaps_run; rewinds = rewinds (DifferentFor call_of p) calls (fresh_sharing p) (λ cs. (swaps_run cs).swaps) }

-- ---- calls that answer as the sharing does wherever its invariant holds

pub likewise : (p : Plan) (sources : Sources) (calls : Sharing → Call → Answered Sharing) → Alike p sources calls
    → Guards (SharingInv p sources) (act_on p sources) calls wholly (λ c. Unit {0})
likewise p sources calls alike = alike_guards (SharingInv p sources) (act_on p sources) calls alike (call_refused p sources)
