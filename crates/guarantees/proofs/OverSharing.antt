-- Request W-208 holds of the calls as exported, board records as structs.
use Prim.Native.Nat.{ℕ, ◌*◌, ◌≤◌}
use mathlib.Core.Path.{◌≡◌, refl, sym, ap, subst, ◌∙◌}
use mathlib.Core.Bool.{Bool, true, false}
use mathlib.Core.List.{List, [], ◌∷◌}
use native.Mathlib.Omega.{arith}
use native.Mathlib.Decide.{ℕ_discrete}
use lib.ListN.{length, replicate, length-replicate}
use lib.Dec.{eqb}
use borrow.Author.Tests.{eqb-true, eq-eqb, ne_eqb}
use Rattle.base.specs.Tests.{◌and◌, not, pick}
use Rattle.base.specs.Lists.{Bytes, sublist}
use Rattle.base.specs.Numbers.{line, first_of}
use Rattle.base.proofs.Tests.{both, true_not, pick_true, pick_false}
use Rattle.base.proofs.Numbers.{none_first, none_behind}
use Rattle.machine.specs.Machine as machine
use Rattle.machine.specs.Machine.{State, Answered}
use Rattle.machine.specs.Runs.{Event, turn_of, delivery_of, state_after, answers_to}
use Rattle.machine.proofs.RunLaws.{number_of, after_of}
use Rattle.tenants.specs.Tenants.{TenantAreas, tenant_areas, Sharing, sharing_of, Sources, source_for, of_tenant, own_of, other_of, lent_to, returned, put_back}
use Rattle.tenants.specs.Tenants.{carry_out_for, fresh_sharing, Call, collect_lines_for}
use Rattle.tenants.specs.Demand208.{events_of, answers_of, Demand208, Isolated}
use Rattle.records.specs.declared.Progress.{Progress}
use Rattle.records.specs.Records.{flat_words}
use Rattle.records.proofs.Words.{length_words}
use Rattle.engine.specs.Calls.{answer, recipe}
use Rattle.layout.specs.RouteWords.{route_of}
use Rattle.recipe.specs.Routes.{lines_for}
use Rattle.recipe.proofs.Laws.{numbered_for}
use Rattle.sharing.specs.Calls.{areas_for, turn_call_for, deliver_call_for, collect_call_for, fresh_sharing_lines, fresh_sharing_call, view_lines, view_number, view_part}
use Rattle.sharing.specs.Calls.{call_for}
use Rattle.sharing.specs.Calls.{sharing_calls, sharing_collects}
use Rattle.sharing.proofs.Demands.{sharing_demands}
use Rattle.calls.specs.declared.tenant.Viewed.{Viewed}
use Rattle.calls.specs.View.{no_view, view_at, view_if, view_of}
use Rattle.calls.specs.Tells.{Tells}
use Rattle.calls.specs.Gave.{Areas, in_words, LentAreas, lent_words, SharingAreas, sharing_words, TenantGave, FreshBothGave, ViewGave}
use Rattle.guarantees.specs.OverSharing.{own_areas, other_areas, lent_areas, CallGave, CallsGave, CollectGaveFor, FixedTenant, SharingRun, OverSharing}
use Rattle.calls.proofs.Tells.{tells_by}
use Rattle.guarantees.proofs.OverRecords.{run_numbers, run_words, Whole, areas_from, in_words_lem, length_carry, areas_fixed, fixed_as}
use Rattle.guarantees.proofs.OverRecords.{one_answer, as_before}

-- ---- words fix the areas

pub lent_fixed : (a b : LentAreas) → lent_words a ≡ lent_words b → a ≡ b
lent_fixed a b e =
    ap (λ (x : Areas). at x a.engaged) (areas_fixed a.own b.own (ap (λ (l : TenantAreas). l.own) e))
    ∙ ap (λ (l : List ℕ). at b.own l) (ap (λ (l : TenantAreas). l.engaged) e)
  where
    at : Areas → List ℕ → LentAreas
    at x l = record { own = x; engaged = l }

pub sharing_fixed : (a b : SharingAreas) → sharing_words a ≡ sharing_words b → a ≡ b
sharing_fixed a b e =
    ap (λ (x : Areas). at x a.second a.engaged) (areas_fixed a.first b.first (ap (λ (r : Sharing). r.first) e))
    ∙ ap (λ (x : Areas). at b.first x a.engaged) (areas_fixed a.second b.second (ap (λ (r : Sharing). r.second) e))
    ∙ ap (λ (l : List ℕ). at b.first b.second l) (ap (λ (r : Sharing). r.engaged) e)
  where
    at : Areas → Areas → List ℕ → SharingAreas
    at x y l = record { first = x; second = y; engaged = l }

-- ---- a tenant's areas are those of its words

pub tenant_words : (o : ℕ) (a b : Areas) → in_words (of_tenant o a b) ≡ of_tenant o (in_words a) (in_words b)
unfolding of_tenant pick
tenant_words o a b = go (eqb o 0)
  where
    go : (t : Bool) → in_words (pick t a b) ≡ pick t (in_words a) (in_words b)
    go true = refl
    go false = refl

pub lent_words_lem : (a : SharingAreas) (o : ℕ) → lent_words (lent_areas a o) ≡ lent_to (sharing_words a) o
lent_words_lem a o = ap (λ (s : State). tenant_areas s a.engaged) (tenant_words o a.first a.second)

pub other_words : (a : SharingAreas) (o : ℕ) → flat_words (other_areas a o).progress ≡ (other_of (sharing_words a) o).progress
other_words a o = ap (λ (s : State). s.progress) (tenant_words o a.second a.first)

-- what a call left of its tenant's areas, put back among both
pub returned_is : (a b : SharingAreas) (o : ℕ) → other_areas b o ≡ other_areas a o → returned (sharing_words a) o (lent_words (lent_areas b o)) ≡ sharing_words b
unfolding returned of_tenant pick
returned_is a b o = go (eqb o 0)
  where
    go : (t : Bool) → pick t b.second b.first ≡ pick t a.second a.first
        → sharing_of (pick t (in_words (pick t b.first b.second)) (in_words a.first))
        (pick t (in_words a.second) (in_words (pick t b.first b.second))) b.engaged
        ≡ sharing_words b
    go true e = ap (λ (x : Areas). sharing_of (in_words b.first) (in_words x) b.engaged) (sym e)
    go false e = ap (λ (x : Areas). sharing_of (in_words x) (in_words b.second) b.engaged) (sym e)

-- ---- words of whole records

pub whole_lent : (t : Bool) (a b : TenantAreas) → Whole a.own.progress → Whole b.own.progress → Whole (pick t a b).own.progress
unfolding pick
whole_lent true a b v w = v
whole_lent false a b v w = w

module _ (bytes : List ℕ) (route : ℕ) where
  module _ (source : List ℕ) (o : ℕ) (theirs : List Progress) where
    -- a call's contract, by the calls over words
    tenant_call : (a : LentAreas) (e : Event) (n : ℕ) (b : LentAreas) → TenantGave bytes route source o theirs a e n b
        → answer n (lent_words b) ≡ call_for bytes route source o (lent_words a) (flat_words theirs) e
    unfolding call_for
    tenant_call a (turn_of p) n b h = h
    tenant_call a (delivery_of m) n b h = h

    call_tenant : (a : LentAreas) (e : Event) (n : ℕ) (b : LentAreas)
        → answer n (lent_words b) ≡ call_for bytes route source o (lent_words a) (flat_words theirs) e
        → TenantGave bytes route source o theirs a e n b
    unfolding call_for
    call_tenant a (turn_of p) n b h = h
    call_tenant a (delivery_of m) n b h = h

    whole_call : (a : LentAreas) (e : Event) → Whole (call_for bytes route source o (lent_words a) (flat_words theirs) e).after.own.progress
    unfolding call_for turn_call_for deliver_call_for carry_out_for
    whole_call a (turn_of p) =
        let e = length_carry (recipe bytes route) source (in_words a.own) p _ ∙ length_words a.own.progress in
        whole_lent _ _ (lent_words a) (length a.own.progress, e) (length a.own.progress, length_words a.own.progress)
    whole_call a (delivery_of m) =
        let w : Whole (flat_words a.own.progress) = (length a.own.progress, length_words a.own.progress) in
        whole_lent _ _ (lent_words a) w w

    pub can_tenant : (a : LentAreas) (e : Event) → (n : ℕ) × ((b : LentAreas) × TenantGave bytes route source o theirs a e n b)
    can_tenant a e = (
      r.number,
      (
        b,
        call_tenant a e r.number b (ap (λ (s : State). answer r.number (tenant_areas s r.after.engaged))
            (in_words_lem r.after.own (whole_call a e))),
      ),
    )
      where
        r : Answered TenantAreas
        r = call_for bytes route source o (lent_words a) (flat_words theirs) e

        b : LentAreas
        b = record { own = areas_from r.after.own; engaged = r.after.engaged }

  module _ (sources : Sources) where
    -- a call on the sharing is one over words
    pub sharing_call : (a : SharingAreas) (c : Call) (n : ℕ) (b : SharingAreas) → CallGave bytes route sources a c n b
        → answer n (sharing_words b) ≡ sharing_calls bytes route sources (sharing_words a) c
    unfolding sharing_calls
    sharing_call a c n b h =
        ap (λ (r : Sharing). answer n r) (sym (returned_is a b c.tenant h.others))
        ∙ ap (put_back (sharing_words a) c.tenant)
        (tenant_call (source_for sources c.tenant) c.tenant (other_areas a c.tenant).progress (lent_areas a c.tenant) c.event n
        (lent_areas b c.tenant) h.gave
        ∙ ap (λ (l : TenantAreas). call_for bytes route (source_for sources c.tenant) c.tenant l
        (flat_words (other_areas a c.tenant).progress) c.event)
        (lent_words_lem a c.tenant)
        ∙ ap (λ (l : List ℕ). call_for bytes route (source_for sources c.tenant) c.tenant (lent_to (sharing_words a) c.tenant) l
        c.event)
        (other_words a c.tenant))

    -- the areas b of tenant o among those of a
    module _ (a : SharingAreas) (o : ℕ) (b : LentAreas) where
      pub among : SharingAreas
      among =
          record { first = of_tenant o b.own a.first; second = of_tenant o a.second b.own; engaged = b.engaged }

      pub among_own : lent_areas among o ≡ b
      unfolding among of_tenant pick
      among_own = go (eqb o 0)
        where
          go : (t : Bool)
              → ◌≡◌ {A = LentAreas} (record {
                own = pick t (pick t b.own a.first)
                    (pick t a.second b.own);
                engaged = b.engaged;
              }) b
          go true = refl
          go false = refl

      pub among_other : other_areas among o ≡ other_areas a o
      unfolding among of_tenant pick
      among_other = go (eqb o 0)
        where
          go : (t : Bool) → pick t (pick t a.second b.own) (pick t b.own a.first) ≡ pick t a.second a.first
          go true = refl
          go false = refl

    can_call : (a : SharingAreas) (c : Call) → (n : ℕ) × ((b : SharingAreas) × CallGave bytes route sources a c n b)
    can_call a c = (
      r.0,
      (
        among a o r.1.0,
        record {
          gave =
              subst (TenantGave bytes route (source_for sources o) o (other_areas a o).progress (lent_areas a o) c.event r.0)
              (sym (among_own a o r.1.0)) r.1.1;
          others = among_other a o r.1.0;
        },
      ),
    )
      where
        o : ℕ
        o = c.tenant

        r : (n : ℕ) × ((b : LentAreas) × TenantGave bytes route (source_for sources o) o (other_areas a o).progress (lent_areas a o)
            c.event n b)
        r = can_tenant (source_for sources o) o (other_areas a o).progress (lent_areas a o) c.event

    can_fresh : (a : SharingAreas) → (n : ℕ) × ((b : SharingAreas) × FreshBothGave bytes route sources a n b)
    unfolding fresh_sharing_call fresh_sharing machine.fresh pick
    can_fresh a = (r.number, (b r.after, ap (λ (x : Sharing). answer r.number x) (back r.after (whole zero).0 (whole zero).1)))
      where
        r : Answered Sharing
        r = fresh_sharing_call bytes route sources (sharing_words a)

        zero : Bool
        zero = eqb (first_of (fresh_sharing_lines bytes route sources (sharing_words a))) 0

        b : Sharing → SharingAreas
        b x = record { first = areas_from x.first; second = areas_from x.second; engaged = x.engaged }

        back : (x : Sharing) → Whole x.first.progress → Whole x.second.progress → sharing_words (b x) ≡ x
        back x v w =
            ap (λ (s : State). sharing_of s (in_words (areas_from x.second)) x.engaged) (in_words_lem x.first v)
            ∙ ap (λ (s : State). sharing_of x.first s x.engaged) (in_words_lem x.second w)

        whole : (t : Bool)
            → Whole (pick t (fresh_sharing (recipe bytes route)) (sharing_words a)).first.progress
            × Whole (pick t (fresh_sharing (recipe bytes route)) (sharing_words a)).second.progress
        whole true =
            let w : Whole (replicate (3 * (recipe bytes route).processors) 0) =
            ((recipe bytes route).processors, length-replicate {A = ℕ} (3 * (recipe bytes route).processors) 0) in
            (w, w)
        whole false = (
          (length a.first.progress, length_words a.first.progress),
          (length a.second.progress, length_words a.second.progress),
        )

  -- ---- demand 1

  view_tells : (first second : List ℕ) (o b : ℕ) (r : Viewed) → ViewGave bytes first second o b r
      → Tells (λ v. v.number) (view_lines bytes first second o b) (view_at (recipe bytes 0) b) no_view r
  unfolding view_of view_if
  view_tells first second o b r e =
      tells_by (λ (v : Viewed). v.number) (λ n. view_if n (recipe bytes 0) b) (view_at (recipe bytes 0) b) no_view refl (λ n. refl) refl (λ n. refl)
      (view_lines bytes first second o b) r e

  part_is : (first second : List ℕ) (o b : ℕ) (r : Viewed) → ViewGave bytes first second o b r
      → sublist (of_tenant o first second) r.begin r.length ≡ view_part bytes first second o b
  unfolding view_part sublist
  part_is first second o b r e = go (ℕ_discrete (view_number bytes first second o b) 0)
    where
      whole : Viewed → List ℕ
      whole v = sublist (of_tenant o first second) v.begin v.length

      go : Dec (view_number bytes first second o b ≡ 0)
          → whole r ≡ pick (eqb (view_number bytes first second o b) 0) (sublist (of_tenant o first second) (b * (recipe bytes 0).cells) (recipe bytes 0).cells)
          []
      go (yes z) = ap whole ((view_tells first second o b r e).works z) ∙ sym (pick_true _ _ _ (eq-eqb _ 0 z))
      go (no h) = ap whole ((view_tells first second o b r e).refuses h) ∙ sym (pick_false _ _ _ (ne_eqb _ 0 h))

  fixed_tenant : FixedTenant bytes route
  fixed_tenant =
      record {
        turn = λ source o theirs a b p n e.
            let f = (sharing_demands.calls bytes route source o (lent_words a) (flat_words theirs)).turn p in
            record { fixed = fixed_as e f; as_before = as_before lent_words lent_fixed a b n e f };
        deliver = λ source o theirs a b m n e.
            let f = (sharing_demands.calls bytes route source o (lent_words a) (flat_words theirs)).deliver m in
            record { fixed = fixed_as e f; as_before = as_before lent_words lent_fixed a b n e f };
        collect = λ source o theirs a old grid n e.
            fixed_as e ((sharing_demands.calls bytes route source o (lent_words a) (flat_words theirs)).collect old);
        fresh = λ sources a b n e.
            let f = sharing_demands.fresh bytes route sources (sharing_words a) in
            record { fixed = fixed_as e f; as_before = as_before sharing_words sharing_fixed a b n e f };
        view = view_tells;
        part_is = part_is;
        can_fresh = can_fresh;
        can_call = can_call;
        one_fresh = λ sources a b c n k. one_answer sharing_words sharing_fixed b c n k;
        one_call = λ sources a b d c n k h g. one_answer sharing_words sharing_fixed b d n k (sharing_call sources a c n b h)
            (sharing_call sources a c k d g);
      }

  -- ---- demand 3

  -- collecting that gave 0 was lent a grid of the right length
  pub collect_length : (source : List ℕ) (o : ℕ) (l : TenantAreas) (theirs old : List ℕ) → (collect_call_for bytes route source o l theirs old).number ≡ 0
      → length old ≡ (recipe bytes route).cells
  unfolding collect_call_for
  collect_length source o l theirs old z =
      let n = none_first 9 nine (collect_lines_for (recipe bytes route) o l theirs) (λ q. omega arith)
      (none_behind (lines_for (route_of route) bytes) _ (numbered_for (route_of route) bytes) z) in
      eqb-true _ _ (both (true_not n.0)).1
    where
      nine : Bool
      nine = not (areas_for (recipe bytes route) source l theirs and eqb (length old) (recipe bytes route).cells)

  -- collecting over records is collecting over words
  pub collect_words : (sources : Sources) (b : SharingAreas) (o : ℕ) (old grid : List ℕ) (n : ℕ) → CollectGaveFor bytes route sources b o old n grid
      → answer n grid ≡ sharing_collects bytes route sources (sharing_words b) o old
  unfolding sharing_collects
  collect_words sources b o old grid n h =
      h ∙ ap (λ (l : TenantAreas). collect_call_for bytes route (source_for sources o) o l (flat_words (other_areas b o).progress) old) (lent_words_lem b o)
      ∙ ap (λ (l : List ℕ). collect_call_for bytes route (source_for sources o) o (lent_to (sharing_words b) o) l old) (other_words b o)

  module _ (sources : Sources) (a start b : SharingAreas) (calls : List Call) (numbers : List ℕ)
      (fresh : FreshBothGave bytes route sources a 0 start)
      (gave : CallsGave bytes route sources start calls numbers b) where
    ns : numbers ≡ answers_to (sharing_calls bytes route sources) (sharing_words start) calls
    ns = run_numbers _ sharing_words (sharing_calls bytes route sources) (sharing_call sources) gave

    ws : sharing_words b ≡ state_after (sharing_calls bytes route sources) (sharing_words start) calls
    ws = run_words _ sharing_words (sharing_calls bytes route sources) (sharing_call sources) gave

    module _ (small : Bytes bytes) where
      demand : Demand208 (sharing_calls bytes route sources) (sharing_words start) calls (recipe bytes route) sources
          (sharing_collects bytes route sources)
      demand =
          subst (λ (r : Sharing). Demand208 (sharing_calls bytes route sources) r calls (recipe bytes route) sources
          (sharing_collects bytes route sources))
          (sym (after_of fresh)) (sharing_demands.runs bytes route sources (sharing_words a) small (sym (number_of fresh)) calls)

      -- the next call, on the areas `b`
      next_number : (c : Call) (n : ℕ) (d : SharingAreas) → CallGave bytes route sources b c n d
          → n ≡ (sharing_calls bytes route sources (state_after (sharing_calls bytes route sources) (sharing_words start) calls) c).number
      next_number c n d h =
          number_of (sharing_call sources b c n d h) ∙ ap (λ (r : Sharing). (sharing_calls bytes route sources r c).number) ws

      collect_is : (o : ℕ) (old grid : List ℕ) (n : ℕ) → CollectGaveFor bytes route sources b o old n grid
          → answer n grid ≡ sharing_collects bytes route sources (state_after (sharing_calls bytes route sources) (sharing_words start) calls) o old
      collect_is o old grid n h = collect_words sources b o old grid n h ∙ ap (λ (r : Sharing). sharing_collects bytes route sources r o old) ws

      sharing_run : SharingRun bytes route sources start calls numbers b
      sharing_run =
          record {
            numbers_are = ns;
            words_are = ws;
            demand = demand;
            goes_on = λ h. let r = demand.goes_on (rw ns at h) in (r.0, λ n d g. next_number r.0 n d g ∙ r.1);
            then_fewer = λ c d h. rw ns (demand.then_fewer c (sym (next_number c 0 d h)));
            collects = λ o low old grid n l h. (
              (λ z. rw ns ((demand.each o low).collecting.then_all old l (sym (number_of (collect_is o old grid n h)) ∙ z))),
              (λ t. number_of (collect_is o old grid n h) ∙ (demand.each o low).collecting.can_collect (rw ns at t) old l),
            );
            grid = λ o low old grid h.
                let z = sym (number_of (collect_is o old grid 0 h)) in
                let l = collect_length _ o _ _ old (sym (number_of h)) in
                after_of (collect_is o old grid 0 h) ∙ (demand.each o low).collecting.grid ((demand.each o low).collecting.then_all old l z) old l;
          }

  -- ---- two runs apart

  module _ (small : Bytes bytes) (sources sources' : Sources) (a start b a' start' b' : SharingAreas) (calls calls' : List Call)
      (ks ks' : List ℕ)
      (fresh : FreshBothGave bytes route sources a 0 start) (gave : CallsGave bytes route sources start calls ks b)
      (fresh' : FreshBothGave bytes route sources' a' 0 start') (gave' : CallsGave bytes route sources' start' calls' ks' b')
      (o : ℕ) (low : o ≤ 1) (same : source_for sources o ≡ source_for sources' o) where
    isolated : Isolated o (sharing_calls bytes route sources) (sharing_calls bytes route sources') (sharing_words start) (sharing_words start')
    isolated =
        rw (after_of fresh, after_of fresh')
        (sharing_demands.apart bytes route sources sources' (sharing_words a) (sharing_words a') small (sym (number_of fresh))
        (sym (number_of fresh')) o low same)

    apart : events_of o calls ≡ events_of o calls' → answers_of o calls ks ≡ answers_of o calls' ks' → own_areas b o ≡ own_areas b' o
    apart e n =
        areas_fixed (own_areas b o) (own_areas b' o)
        (tenant_words o b.first b.second ∙ ap (λ (r : Sharing). own_of r o) (ws sources a start b calls ks fresh gave)
        ∙ isolated.same_words calls calls' e
        (ap (answers_of o calls) (sym (ns sources a start b calls ks fresh gave)) ∙ n
        ∙ ap (answers_of o calls') (ns sources' a' start' b' calls' ks' fresh' gave'))
        ∙ ap (λ (r : Sharing). own_of r o) (sym (ws sources' a' start' b' calls' ks' fresh' gave'))
        ∙ sym (tenant_words o b'.first b'.second))

pub over_sharing : (bytes : List ℕ) (route : ℕ) → OverSharing bytes route
over_sharing bytes route =
    record {
      one = fixed_tenant bytes route;
      three = λ small sources a start b calls numbers fresh gave. sharing_run bytes route sources a start b calls numbers fresh gave small;
      apart = λ small sources sources' a start b a' start' b' calls calls' ks ks' f g f' g' o low same.
          apart bytes route small sources sources' a start b a' start' b' calls calls' ks ks' f g f' g' o low same;
    }
