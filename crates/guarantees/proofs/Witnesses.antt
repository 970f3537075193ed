-- The premise of OverRecords214's claims is met, so no claim there is about nothing: CanSwapGave and Swapped, by the exported calls for two tenants on row D.
use Prim.Native.Nat.{ℕ}
use mathlib.Core.Path.{◌≡◌, refl, sym, ap, ◌∙◌, subst}
use mathlib.Core.Bool.{Bool, true, false, true≢false}
use mathlib.Core.List.{List, [], ◌∷◌, ◌++◌}
use native.Mathlib.Omega.{arith}
use lib.ListN.{length, length-replicate}
use Rattle.base.specs.Tests.{◌and◌, ◌or◌, not, pick, one, every, some, keep, those, product, sum}
use Rattle.base.specs.Lists.{member, sublist, put, set_all, all_at, unpack, pack, store_all}
use Rattle.base.specs.Numbers.{first_of}
use Rattle.machine.specs.Plan.{Plan, offset}
use Rattle.machine.specs.Machine.{State, Answered, set_progress, tiles_left, fit_record, fit, unpack_all, after_sends, carry_out, action_at, waiting, fresh}
use Rattle.machine.specs.Runs.{Event, turn_of, delivery_of, state_after}
use Rattle.machine.proofs.Fresh.{inv_fresh}
use Rattle.machine.proofs.RunLaws.{number_of, same_end}
use Rattle.tenants.specs.Tenants.{stage_agrees, fit_word, fit_for, held_by_other, freed_after, engaged_after, carry_out_for, turn_for, deliver_for, act_for, act_on}
use Rattle.tenants.specs.Tenants.{of_tenant, Sharing, sharing_of, returned, fresh_sharing, Call, turn_by, delivery_by}
use Rattle.tenants.proofs.Engaged.{SharingInv, inv_start, inv_next, inv_run}
use Rattle.swaps.specs.Swaps.{Swapped}
use Rattle.swaps.specs.TwoTenants.{DifferentFor, wholly}
use Rattle.nest.specs.Nest.{tile_count, cells, box_tiles, processors}
use Rattle.nest.specs.Places.{rank, place, cell_at, cell_place, tile_at, tile_place, box_tile_of}
use Rattle.nest.specs.Shape.{level, raised, meets, in_shape, exists, existing, tiles}
use Rattle.nest.specs.Recipes.{row_d}
use Rattle.plan.specs.Geometry.{processor_of, inside, has_read, read_at}
use Rattle.plan.specs.Messages.{directions, ahead, reaches, taker, messages_of}
use Rattle.plan.specs.Shaped.{box_tile, reaches_shape, shaped_parcel, follows, shaped_taker, shaped_slot_taker, shaped_home, shaped_slot_parcel, shaped_cells}
use Rattle.plan.specs.Shaped.{reads_shape, shaped_value}
use Rattle.engine.specs.Calls.{answer}
use Rattle.engine.specs.Demands.{LentWords}
use Rattle.sharing.specs.Calls.{fresh_sharing_call, sharing_calls}
use Rattle.sharing.proofs.AsRuns.{alike, fresh_sources, fresh_is}
use Rattle.sharing.proofs.Demands.{sharing_demands}
use Rattle.calls.specs.Gave.{SharingAreas, sharing_areas_of, sharing_words, FreshBothGave}
use Rattle.guarantees.specs.OverRecords.{Gave}
use Rattle.guarantees.specs.OverSharing.{CallGave}
use Rattle.guarantees.specs.OverRecords214.{CanGive, CanSwapGave, DifferentAreas}
use Rattle.guarantees.specs.RowD.{sources_d}
use Rattle.guarantees.proofs.BoardWitness.{fresh_words}
use Rattle.guarantees.proofs.OverRecords.{areas_from, run_words}
use Rattle.guarantees.proofs.OverSharing.{over_sharing, sharing_call}
use Rattle.guarantees.proofs.OverRecords214.{over_records214}
use Rattle.guarantees.proofs.RowD.{p, d, plan_D, bytes_D, open_D, sound_D, cells_D}

-- ---- calls that can be made: a list of them, and one that gives 0
module _ {A E S : Type 0} (Step : A → E → ℕ → A → Type 0) (words : A → S) (acts : S → E → Answered S)
    (is : (a : A) (e : E) (n : ℕ) (b : A) → Step a e n b → answer n (words b) ≡ acts (words a) e)
    (can : (a : A) (e : E) → (n : ℕ) × ((b : A) × Step a e n b)) where
  can_run : (es : List E) (a : A) → (ns : List ℕ) × ((b : A) × Gave Step a es ns b)
  can_run [] a = ([], (a, Gave.none))
  can_run (e ∷ es) a = let x = can a e in let y = can_run es x.1.0 in (x.0 ∷ y.0, (y.1.0, Gave.next x.1.1 y.1.1))

  can_give : (a : A) (e : E) → (acts (words a) e).number ≡ 0 → CanGive Step a e
  can_give a e z =
      let x = can a e in
      (x.1.0, subst (λ (n : ℕ). Step a e n x.1.0) (number_of (is a e x.0 x.1.0 x.1.1) ∙ z) x.1.1)

-- ---- a fresh start of both tenants
start : SharingAreas
start = sharing_areas_of (areas_from (fresh p)) (areas_from (fresh p)) (fresh_sharing p).engaged

start_words : sharing_words start ≡ fresh_sharing p
unfolding start fresh_sharing
start_words = ap (λ (s : State). sharing_of s s (fresh_sharing p).engaged) fresh_words

lent : (source : List ℕ) → length source ≡ 4 → LentWords p source (fresh p)
lent source l =
    record {
      source_long = l ∙ cells_D;
      memories = (inv_fresh p source).shape.memories;
      buffer = (inv_fresh p source).shape.buffer;
      progress = (inv_fresh p source).shape.progress;
      status = (inv_fresh p source).shape.status;
    }

gives_0 : (fresh_sharing_call row_d 0 sources_d (fresh_sharing p)).number ≡ 0
unfolding fresh_sharing
gives_0 =
    sharing_demands.begins row_d 0 sources_d (fresh_sharing p) open_D (lent sources_d.first refl) (lent sources_d.second refl)
    (length-replicate {A = ℕ} p.processors 2)

both_are : (n : ℕ) (r : Sharing) (x : Answered Sharing) → x.number ≡ n → x.after ≡ r → answer n r ≡ x
both_are n r x e f = rw (sym e, sym f) refl

begun : FreshBothGave row_d 0 sources_d start 0 start
begun =
    subst (λ (r : Sharing). answer 0 r ≡ fresh_sharing_call row_d 0 sources_d r) (sym start_words)
    (both_are 0 (fresh_sharing p) (fresh_sharing_call row_d 0 sources_d (fresh_sharing p)) gives_0 (fresh_is row_d 0 sources_d (fresh_sharing p) gives_0))

-- ---- tenant 0 has done tile 0 on processor 0, which is free again: its message can be delivered, and tenant 1 can gather there
unfoldable turned : List Call
turned = turn_by 0 0 ∷ turn_by 0 0 ∷ turn_by 0 0 ∷ []

abbrev after : Plan → Sharing
after q = state_after (act_on q sources_d) (fresh_sharing q) turned

both_d : ((act_on d sources_d (after d) (delivery_by 0 0)).number ≡ 0) × ((act_on d sources_d (after d) (turn_by 1 0)).number ≡ 0)
unfolding turned state_after stage_agrees fit_word fit_for held_by_other freed_after engaged_after carry_out_for turn_for deliver_for act_for act_on of_tenant returned
    fresh_sharing first_of not one member offset sublist put set_all all_at unpack pack store_all set_progress tiles_left fit_record fit unpack_all after_sends carry_out
    action_at waiting fresh shaped_value reads_shape has_read read_at sum ◌and◌ ◌or◌ pick every some keep those product tile_count cells box_tiles rank place cell_at
    cell_place tile_at tile_place box_tile_of level raised meets in_shape exists existing tiles inside directions ahead reaches taker messages_of box_tile
    reaches_shape shaped_parcel follows shaped_taker shaped_slot_taker shaped_home shaped_slot_parcel shaped_cells processor_of processors
both_d = (refl, refl)

both_D : ((act_on p sources_d (after p) (delivery_by 0 0)).number ≡ 0) × ((act_on p sources_d (after p) (turn_by 1 0)).number ≡ 0)
both_D =
    subst
    (λ (q : Plan). ((act_on q sources_d (after q) (delivery_by 0 0)).number ≡ 0) × ((act_on q sources_d (after q) (turn_by 1 0)).number ≡ 0)) (sym plan_D) both_d

abbrev acts : Sharing → Call → Answered Sharing
acts = sharing_calls row_d 0 sources_d

same : (r : Sharing) → SharingInv p sources_d r → (c : Call) → acts r c ≡ act_on p sources_d r c
same = alike row_d 0 sources_d open_D (fresh_sources row_d 0 sources_d (fresh_sharing p) gives_0)

abbrev Step : SharingAreas → Call → ℕ → SharingAreas → Type 0
Step = CallGave row_d 0 sources_d

abbrev can : (a : SharingAreas) (c : Call) → (n : ℕ) × ((b : SharingAreas) × Step a c n b)
can = (over_sharing row_d 0).one.can_call sources_d

abbrev run : (ns : List ℕ) × ((b : SharingAreas) × Gave Step start turned ns b)
run = can_run Step sharing_words acts (sharing_call row_d 0 sources_d) can turned start

areas_are : sharing_words run.1.0 ≡ after p
areas_are =
    run_words Step sharing_words acts (sharing_call row_d 0 sources_d) run.1.1 ∙ ap (λ (r : Sharing). state_after acts r turned) start_words
    ∙ same_end (SharingInv p sources_d) acts (act_on p sources_d) same (inv_next p sound_D sources_d) turned (fresh_sharing p) (inv_start p sources_d)

gives : (c : Call) → (act_on p sources_d (after p) c).number ≡ 0 → CanGive Step run.1.0 c
gives c z =
    can_give Step sharing_words acts (sharing_call row_d 0 sources_d) can run.1.0 c
    (ap (λ (r : Sharing). (acts r c).number) areas_are
    ∙ number_of (same (after p) (inv_run p sound_D sources_d turned (fresh_sharing p) (inv_start p sources_d)) c) ∙ z)

unfoldable is_turn : Event → Bool
is_turn (turn_of b) = true
is_turn (delivery_of m) = false

different : (r : Sharing) → DifferentFor wholly p r (delivery_by 0 0) (turn_by 1 0)
unfolding is_turn
different r =
    record {
      different = λ e. let z : ◌≡◌ {A = ℕ} 0 1 = ap (λ (c : Call). c.tenant) e in omega arith;
      not_gathers = λ t. true≢false (ap is_turn (sym t.first_turn));
    }

can_swap_gave : CanSwapGave Step (DifferentAreas wholly p Step) start turned (delivery_by 0 0) (turn_by 1 0)
can_swap_gave =
    record {
      numbers = run.0;
      areas = run.1.0;
      gave = run.1.1;
      apart = different _;
      first = gives (delivery_by 0 0) both_D.0;
      second = gives (turn_by 1 0) both_D.1;
    }

swapped : Swapped (CanSwapGave Step (DifferentAreas wholly p Step) start) (turned ++ (delivery_by 0 0 ∷ turn_by 1 0 ∷ []))
    (turned ++ (turn_by 1 0 ∷ delivery_by 0 0 ∷ []))
swapped = Swapped.swap turned [] (delivery_by 0 0) (turn_by 1 0) can_swap_gave

-- so the claim says of these two lists, from this start, that they get the same numbers and leave the same areas
one_end : (ns ks : List ℕ) (b c : SharingAreas) → Gave Step start (turned ++ (delivery_by 0 0 ∷ turn_by 1 0 ∷ [])) ns b
    → Gave Step start (turned ++ (turn_by 1 0 ∷ delivery_by 0 0 ∷ [])) ks c → (ns ≡ ks) × (b ≡ c)
one_end ns ks b c g h = ((over_records214 row_d 0).two bytes_D sources_d start start begun).rewinds.same_run _ _ ns ks b c swapped g h
