-- Laws of the lines of a tenant's calls: lengths and fit states, and each call by the line that counts.
use Rattle.std.specs.Prelude.{Result, Ok, Err, ◌≡◌, ℕ, ◌+◌, ◌*◌, ◌<◌, ◌≤◌, Bool, true, false, eqb, ltb, leb, ◌≢◌, List, [], ◌∷◌, ◌++◌, length, get_or, set}
use mathlib.Core.Path.{refl, sym, ap, ◌∙◌}
use native.Mathlib.Omega.{arith}
use borrow.Author.Tests.{eqb-true, eq-eqb, ne_eqb, ltb-true, lt-ltb, le-ltb}
use Rattle.base.specs.Tests.{◌and◌, not, pick, every, some}
use Rattle.base.specs.declared.refusal.Refusal.{Refusal}
use Rattle.base.specs.Refusals.{code, number_of}
use Rattle.base.specs.Numbers.{Line, line, first_of}
use Rattle.base.proofs.Codes.{code_some}
use Rattle.base.proofs.Tests.{both, and_true, and_left, and_false, and_no, not-true, not-false, true_not, pick_true, pick_false}
use Rattle.base.proofs.Numbers.{first_true, first_false, none_first, first_some, first_behind}
use Rattle.machine.specs.Plan.{Plan, count}
use Rattle.machine.specs.Machine.{State, state_of, progress_only, stage_of, fit_record, fit, tiles_left, next_action, collected, Answered, answered, turn}
use Rattle.machine.proofs.Records.{stage_same}
use Rattle.tenants.specs.Tenants.{TenantAreas, tenant_areas, word_for, fit_word, fit_for, held_by_other, turn_lines_for, carry_out_for, turn_for}
use Rattle.tenants.specs.Tenants.{deliver_lines_for, delivered_for, deliver_for, collect_lines_for, collect_for}
use Rattle.tenants.proofs.OneCall.{Admits}
use Rattle.tenants.proofs.ByStep.{turn_by}
use Rattle.layout.specs.RouteWords.{route_of}
use Rattle.recipe.specs.Routes.{lines_for}
use Rattle.recipe.proofs.Laws.{numbered_for}
use Rattle.records.specs.declared.Progress.{Progress}
use Rattle.engine.specs.Calls.{answer, areas}
use Rattle.engine.specs.Given.{records_after, handed_over}
use Rattle.engine.proofs.Lines.{Opened, areas_are, and_right, call_read, call_later, call_done, handed}
use Rattle.sharing.specs.Calls.{areas_for, area_lines_for, turn_call_for, deliver_call_for, collect_call_for}
use Rattle.sharing.specs.Given.{LengthsFor, unfit_lines_for, barred_lines_for, words_after}

-- ---- lengths

module _ (p : Plan) (source : List ℕ) (l : TenantAreas) (theirs : List ℕ) where
  pub no_own : areas p source l.own ≡ false → areas_for p source l theirs ≡ false
  unfolding areas_for
  no_own e = and_false _ _ e

  pub no_words : length l.engaged ≢ p.processors → areas_for p source l theirs ≡ false
  unfolding areas_for
  no_words n = and_no _ _ (and_false _ _ (ne_eqb _ _ n))

  pub no_theirs : length theirs ≢ 3 * p.processors → areas_for p source l theirs ≡ false
  unfolding areas_for
  no_theirs n = and_no _ _ (and_no _ _ (ne_eqb _ _ n))

  pub all_long : areas p source l.own ≡ true → length l.engaged ≡ p.processors → length theirs ≡ 3 * p.processors
      → areas_for p source l theirs ≡ true
  unfolding areas_for
  all_long a b c = and_true a (and_true (eq-eqb _ _ b) (eq-eqb _ _ c))

  pub lengths_are : areas_for p source l theirs ≡ true → LengthsFor p source l theirs
  unfolding areas_for
  lengths_are e =
      let a = both e in
      let b = both a.1 in
      record { own = areas_are p source l.own a.0; engaged = eqb-true _ _ b.0; theirs = eqb-true _ _ b.1 }

-- ---- line 10

module _ (p : Plan) (o : ℕ) (l : TenantAreas) (theirs : List ℕ) where
  pub unfit_own : fit p l.own ≡ false → false ≡ fit_for p o l theirs
  unfolding fit_for
  unfit_own e = sym (and_false _ _ e)

  pub unfit_theirs : every (fit_record p (progress_only theirs)) p.processors ≡ false → false ≡ fit_for p o l theirs
  unfolding fit_for
  unfit_theirs e = sym (and_no _ _ (and_false _ _ e))

  pub by_words : fit p l.own ≡ true → every (fit_record p (progress_only theirs)) p.processors ≡ true
      → (t : Bool) → t ≡ every (fit_word o (tenant_areas (progress_only l.own.progress) l.engaged) theirs) (length l.engaged)
      → length l.engaged ≡ p.processors → t ≡ fit_for p o l theirs
  unfolding fit_for fit_word
  by_words a b t e long = e ∙ ap (every (fit_word o l theirs)) long ∙ sym (and_left _ _ a ∙ and_left _ _ b)

-- the memories and the buffer are not viewed at
pub fit_as : (p : Plan) (o : ℕ) (m u k l t e j q : List ℕ) → k ≡ l → j ≡ q
    → fit_for p o (tenant_areas (state_of [] [] k t) e) j ≡ fit_for p o (tenant_areas (state_of m u l t) e) q
unfolding fit_for fit fit_record tiles_left fit_word
fit_as p o m u k l t e j q a b = rw (a, b)

pub held_as : (p : Plan) (o : ℕ) (m u k l t e : List ℕ) (b : ℕ) → k ≡ l
    → held_by_other p o (tenant_areas (state_of m u l t) e) b ≡ held_by_other p o (tenant_areas (progress_only k) e) b
unfolding held_by_other tiles_left
held_as p o m u k l t e b a = rw a

-- ---- lines 9, 11 for the tenant, and 10

module _ (p : Plan) (source : List ℕ) (o : ℕ) (l : TenantAreas) (theirs : List ℕ) where
  pub unfit_9 : areas_for p source l theirs ≡ false → 9 ≡ first_of (unfit_lines_for p source o l theirs)
  unfit_9 e = sym (first_true 9 _ _ (not-false e))

  pub unfit_11 : areas_for p source l theirs ≡ true → leb o 1 ≡ false → 11 ≡ first_of (unfit_lines_for p source o l theirs)
  unfit_11 a e = sym (first_false 9 _ _ (not-true a) ∙ first_true 11 _ _ (not-false e))

  pub unfit_10 : areas_for p source l theirs ≡ true → leb o 1 ≡ true → fit_for p o l theirs ≡ false
      → 10 ≡ first_of (unfit_lines_for p source o l theirs)
  unfit_10 a b e = sym (first_false 9 _ _ (not-true a) ∙ first_false 11 _ _ (not-true b) ∙ first_true 10 _ _ (not-false e))

  pub unfit_0 : areas_for p source l theirs ≡ true → leb o 1 ≡ true → fit_for p o l theirs ≡ true
      → 0 ≡ first_of (unfit_lines_for p source o l theirs)
  unfolding first_of pick
  unfit_0 a b e = rw (not-true a, not-true b, not-true e)

  pub unfit_none : (r : ℕ) → r ≡ first_of (unfit_lines_for p source o l theirs) → r ≡ 0
      → (areas_for p source l theirs ≡ true) × Admits p o l theirs
  unfit_none r e z =
      let a = none_first 9 _ _ (λ q. omega arith) (sym e ∙ z) in
      let b = none_first 11 _ _ (λ q. omega arith) a.1 in
      let c = none_first 10 _ _ (λ q. omega arith) b.1 in
      (true_not a.0, record { tenant = true_not b.0; fits = true_not c.0 })

  -- past them the lines behind count
  pub clear_lines : (r : ℕ) → r ≡ first_of (unfit_lines_for p source o l theirs) → r ≡ 0 → (ls : List Line)
      → first_of (area_lines_for p source l theirs ++ (line 11 (not (leb o 1)) ∷ line 10 (not (fit_for p o l theirs)) ∷ ls)) ≡ first_of ls
  clear_lines r e z ls =
      let q = unfit_none r e z in
      first_false 9 _ _ (not-true q.0) ∙ first_false 11 _ _ (not-true q.1.tenant) ∙ first_false 10 _ ls (not-true q.1.fits)

-- ---- the lines up to the machine's

-- none of them holds
pub record Free (p : Plan) (source : List ℕ) (o : ℕ) (l : TenantAreas) (theirs : List ℕ) (b : ℕ) : Type 0 where
  pub unfit : 0 ≡ first_of (unfit_lines_for p source o l theirs)
  pub lengths : LengthsFor p source l theirs
  pub fits : fit_for p o l theirs ≡ true
  pub low : b < p.processors
  pub free : held_by_other p o l b ≡ false

module _ (p : Plan) (source : List ℕ) (o : ℕ) (l : TenantAreas) (theirs : List ℕ) (b : ℕ) where
  pub barred_none : (r : ℕ) → r ≡ first_of (barred_lines_for p source o l theirs b) → r ≡ 0 → Free p source o l theirs b
  barred_none r e z =
      let u = none_first 9 _ _ (λ q. omega arith) (sym e ∙ z) in
      let v = none_first 11 _ _ (λ q. omega arith) u.1 in
      let w = none_first 10 _ _ (λ q. omega arith) v.1 in
      let x = none_first 11 _ _ (λ q. omega arith) w.1 in
      let y = none_first 19 _ _ (λ q. omega arith) x.1 in
      record {
        unfit = unfit_0 p source o l theirs (true_not u.0) (true_not v.0) (true_not w.0);
        lengths = lengths_are p source l theirs (true_not u.0);
        fits = true_not w.0;
        low = ltb-true b p.processors (true_not x.0);
        free = y.0;
      }

  module _ (r : ℕ) (e : r ≡ first_of (unfit_lines_for p source o l theirs)) where
    pub barred_unfit : r ≢ 0 → r ≡ first_of (barred_lines_for p source o l theirs b)
    barred_unfit h = e ∙ sym (first_some (unfit_lines_for p source o l theirs) _ (λ q. h (e ∙ q)))

    module _ (z : r ≡ 0) where
      pub barred_beyond : p.processors ≤ b → 11 ≡ first_of (barred_lines_for p source o l theirs b)
      barred_beyond h = sym (clear_lines p source o l theirs r e z _ ∙ first_true 11 _ _ (not-false (le-ltb b p.processors h)))

      module _ (low : b < p.processors) where
        past : first_of (barred_lines_for p source o l theirs b) ≡ first_of (line 19 (held_by_other p o l b) ∷ [])
        past = clear_lines p source o l theirs r e z _ ∙ first_false 11 _ _ (not-true (lt-ltb b p.processors low))

        pub barred_held : held_by_other p o l b ≡ true → 19 ≡ first_of (barred_lines_for p source o l theirs b)
        barred_held h = sym (past ∙ first_true 19 _ _ h)

        pub barred_0 : held_by_other p o l b ≡ false → 0 ≡ first_of (barred_lines_for p source o l theirs b)
        unfolding first_of
        barred_0 h = sym (past ∙ first_false 19 (held_by_other p o l b) [] h)

-- ---- what a turn makes of the records and the shared words

words_by : (progress engaged : List ℕ) (o b n : ℕ) (r : Result Progress Refusal) → length progress ≡ 3 * n → b < n
    → words_after engaged o b r
    ≡ pick (eqb (number_of r) 0) (set engaged b (word_for o (get_or (records_after progress b r) (3 * b + 1) 0))) engaged
words_by progress engaged o b n (Ok p) len low =
    ap (λ (g : ℕ). set engaged b (word_for o g)) (sym (stage_same progress b n len low _ _ _)) ∙ sym (pick_true _ _ _ (eq-eqb 0 0 refl))
words_by progress engaged o b n (Err e) len low = sym (pick_false _ _ _ (ne_eqb (code e) 0 (code_some e)))

-- ---- past the reader's and the route's lines and line 9 the tenant's count
past_lengths : (bytes : List ℕ) (route : ℕ) (p : Plan) (source : List ℕ) (l : TenantAreas) (theirs : List ℕ) → first_of (lines_for (route_of route) bytes) ≡ 0
    → areas_for p source l theirs ≡ true → (ls : List Line)
    → first_of (lines_for (route_of route) bytes ++ (area_lines_for p source l theirs ++ ls)) ≡ first_of ls
past_lengths bytes route p source l theirs z a ls =
    first_behind (lines_for (route_of route) bytes) (area_lines_for p source l theirs ++ ls) (numbered_for (route_of route) bytes) z
    ∙ first_false 9 (not (areas_for p source l theirs)) ls (not-true a)

-- ---- the turn

module _ (bytes : List ℕ) (route : ℕ) (source : List ℕ) (o : ℕ) (l : TenantAreas) (theirs : List ℕ) (b : ℕ) where
  pub turn_read : (r : ℕ) → r ≡ first_of (lines_for (route_of route) bytes) → r ≢ 0 → answer r l ≡ turn_call_for bytes route source o l theirs b
  unfolding turn_call_for
  turn_read r e h = call_read (lines_for (route_of route) bytes) (numbered_for (route_of route) bytes) _ r _ l e h

  module _ (p : Plan) (op : Opened bytes route p) where
    turn_at_lem : answered (first_of (lines_for (route_of route) bytes ++ (area_lines_for p source l theirs ++ turn_lines_for p o l theirs b)))
        (carry_out_for p source o l b (next_action p l.own b)) l
        ≡ turn_call_for bytes route source o l theirs b
    unfolding turn_call_for
    turn_at_lem =
        ap
        (λ (q : Plan).
        answered (first_of (lines_for (route_of route) bytes ++ (area_lines_for q source l theirs ++ turn_lines_for q o l theirs b)))
        (carry_out_for q source o l b (next_action q l.own b)) l)
        op.is

    -- where the lengths are right it is the tenant's turn
    pub as_turn : areas_for p source l theirs ≡ true → turn_for p source o l theirs b ≡ turn_call_for bytes route source o l theirs b
    unfolding turn_for
    as_turn a =
        ap (λ (n : ℕ). answered n (carry_out_for p source o l b (next_action p l.own b)) l)
        (sym (past_lengths bytes route p source l theirs op.none a (turn_lines_for p o l theirs b)))
        ∙ turn_at_lem

    pub turn_barred : (r : ℕ) → r ≡ first_of (barred_lines_for p source o l theirs b) → r ≢ 0 → answer r l ≡ turn_call_for bytes route source o l theirs b
    turn_barred r e h =
        call_later (lines_for (route_of route) bytes) (numbered_for (route_of route) bytes) _ r _ l op.none
        (e ∙ sym (first_some (barred_lines_for p source o l theirs b) _ (λ q. h (e ∙ q)))) h ∙ turn_at_lem

    -- the machine's turn on the own areas, and the shared word by the stage that it left
    pub turn_steps : Free p source o l theirs b → (r : Result Progress Refusal) (m u t engaged : List ℕ) → engaged ≡ words_after l.engaged o b r
        → answer (number_of r) (state_of m u (records_after l.own.progress b r) t) ≡ turn p source l.own b
        → answer (number_of r) (tenant_areas (state_of m u (records_after l.own.progress b r) t) engaged)
        ≡ turn_call_for bytes route source o l theirs b
    turn_steps f r m u t engaged w a =
        ap (λ (ws : List ℕ). answer (number_of r) (tenant_areas (state_of m u (records_after l.own.progress b r) t) ws))
        (w ∙ words_by l.own.progress l.engaged o b p.processors r f.lengths.own.progress f.low)
        ∙ ap whole a
        ∙ sym (turn_by p source o l theirs b none.1 f.free f.lengths.own.progress f.lengths.engaged)
        ∙ as_turn none.0
      where
        none : (areas_for p source l theirs ≡ true) × Admits p o l theirs
        none = unfit_none p source o l theirs 0 f.unfit refl

        whole : Answered State → Answered TenantAreas
        whole x =
            answer x.number
            (tenant_areas x.after (pick (eqb x.number 0) (set l.engaged b (word_for o (stage_of x.after b))) l.engaged))

-- the same for the lists that the words read stand for
pub turn_as : (bytes : List ℕ) (route : ℕ) (source : List ℕ) (o : ℕ) (m u t e own l other q : List ℕ) (b : ℕ) → own ≡ l → other ≡ q
    → (r : Result Progress Refusal) (m' u' t' e' : List ℕ)
    → answer (number_of r) (tenant_areas (state_of m' u' (records_after own b r) t') e')
    ≡ turn_call_for bytes route source o (tenant_areas (state_of m u own t) e) other b
    → answer (number_of r) (tenant_areas (state_of m' u' (records_after l b r) t') e')
    ≡ turn_call_for bytes route source o (tenant_areas (state_of m u l t) e) q b
turn_as bytes route source o m u t e own l other q b a c r m' u' t' e' x = rw (sym a, sym c) x

-- ---- the delivery

module _ (bytes : List ℕ) (route : ℕ) (source : List ℕ) (o : ℕ) (l : TenantAreas) (theirs : List ℕ) (m : ℕ) where
  pub deliver_read : (r : ℕ) → r ≡ first_of (lines_for (route_of route) bytes) → r ≢ 0 → answer r l ≡ deliver_call_for bytes route source o l theirs m
  unfolding deliver_call_for
  deliver_read r e h = call_read (lines_for (route_of route) bytes) (numbered_for (route_of route) bytes) _ r _ l e h

  module _ (p : Plan) (op : Opened bytes route p) where
    deliver_at : answered (first_of (lines_for (route_of route) bytes ++ (area_lines_for p source l theirs ++ deliver_lines_for p o l theirs m))) (delivered_for l m) l
        ≡ deliver_call_for bytes route source o l theirs m
    unfolding deliver_call_for
    deliver_at =
        ap
        (λ (q : Plan).
        answered (first_of (lines_for (route_of route) bytes ++ (area_lines_for q source l theirs ++ deliver_lines_for q o l theirs m))) (delivered_for l m) l)
        op.is

    pub as_delivery : areas_for p source l theirs ≡ true → deliver_for p o l theirs m ≡ deliver_call_for bytes route source o l theirs m
    unfolding deliver_for
    as_delivery a =
        ap (λ (n : ℕ). answered n (delivered_for l m) l)
        (sym (past_lengths bytes route p source l theirs op.none a (deliver_lines_for p o l theirs m)))
        ∙ deliver_at

    module _ (r : ℕ) (e : r ≡ first_of (unfit_lines_for p source o l theirs)) where
      pub deliver_unfit : r ≢ 0 → answer r l ≡ deliver_call_for bytes route source o l theirs m
      deliver_unfit h =
          call_later (lines_for (route_of route) bytes) (numbered_for (route_of route) bytes) _ r _ l op.none
          (e ∙ sym (first_some (unfit_lines_for p source o l theirs) _ (λ q. h (e ∙ q)))) h ∙ deliver_at

      -- the marks handed over
      pub deliver_over : r ≡ 0 → (n : ℕ) (status : List ℕ) → answer n status ≡ handed_over l.own.status m
          → answer n (tenant_areas (state_of l.own.memories l.own.buffer l.own.progress status) l.engaged)
          ≡ deliver_call_for bytes route source o l theirs m
      deliver_over z n status a = handed marked n m status l.own.status a _ same ∙ deliver_at
        where
          marked : List ℕ → TenantAreas
          marked t = tenant_areas (state_of l.own.memories l.own.buffer l.own.progress t) l.engaged

          rest : ℕ → List Line
          rest k = line 11 (not (ltb m k)) ∷ line 14 (not (eqb (get_or l.own.status m 0) 1)) ∷ []

          same : first_of (rest (length l.own.status))
              ≡ first_of (lines_for (route_of route) bytes ++ (area_lines_for p source l theirs ++ deliver_lines_for p o l theirs m))
          same =
              ap (λ (k : ℕ). first_of (rest k)) (lengths_are p source l theirs (unfit_none p source o l theirs r e z).0).own.status
              ∙ sym
              (first_behind (lines_for (route_of route) bytes) (area_lines_for p source l theirs ++ deliver_lines_for p o l theirs m)
              (numbered_for (route_of route) bytes) op.none
              ∙ clear_lines p source o l theirs r e z (rest (count p)))

-- ---- collecting

abbrev grid_lines : Plan → List ℕ → ℕ → TenantAreas → List ℕ → List ℕ → List Line
grid_lines p source o l theirs grid =
    line 9 (not (areas_for p source l theirs and eqb (length grid) p.cells)) ∷ collect_lines_for p o l theirs

module _ (bytes : List ℕ) (route : ℕ) (source : List ℕ) (o : ℕ) (l : TenantAreas) (theirs grid : List ℕ) where
  pub collect_read : (r : ℕ) → r ≡ first_of (lines_for (route_of route) bytes) → r ≢ 0 → answer r grid ≡ collect_call_for bytes route source o l theirs grid
  unfolding collect_call_for
  collect_read r e h = call_read (lines_for (route_of route) bytes) (numbered_for (route_of route) bytes) _ r _ grid e h

  module _ (p : Plan) (op : Opened bytes route p) where
    collect_at : answered (first_of (lines_for (route_of route) bytes ++ grid_lines p source o l theirs grid)) (collected p l.own) grid
        ≡ collect_call_for bytes route source o l theirs grid
    unfolding collect_call_for
    collect_at =
        ap (λ (q : Plan). answered (first_of (lines_for (route_of route) bytes ++ grid_lines q source o l theirs grid)) (collected q l.own) grid) op.is

    pub collect_grid : length grid ≢ p.cells → answer 9 grid ≡ collect_call_for bytes route source o l theirs grid
    collect_grid h =
        call_later (lines_for (route_of route) bytes) (numbered_for (route_of route) bytes) _ 9 _ grid op.none
        (sym (first_true 9 _ _ (not-false (and_no _ _ (ne_eqb _ _ h))))) (λ q. omega arith) ∙ collect_at

    pub as_collecting : areas_for p source l theirs ≡ true → length grid ≡ p.cells
        → collect_for p o l theirs grid ≡ collect_call_for bytes route source o l theirs grid
    unfolding collect_for
    as_collecting a g =
        ap (λ (n : ℕ). answered n (collected p l.own) grid)
        (sym
        (ap (λ (t : Bool). first_of (lines_for (route_of route) bytes ++ (line 9 (not t) ∷ collect_lines_for p o l theirs))) (and_right _ _ (eq-eqb _ _ g))
        ∙ past_lengths bytes route p source l theirs op.none a (collect_lines_for p o l theirs)))
        ∙ collect_at

    module _ (g : length grid ≡ p.cells) (r : ℕ) (e : r ≡ first_of (unfit_lines_for p source o l theirs)) where
      same_lines : first_of (grid_lines p source o l theirs grid)
          ≡ first_of (unfit_lines_for p source o l theirs ++ (line 15 (some (tiles_left p l.own) p.processors) ∷ []))
      same_lines = ap (λ (t : Bool). first_of (line 9 (not t) ∷ collect_lines_for p o l theirs)) (and_right _ _ (eq-eqb _ _ g))

      pub collect_unfit : r ≢ 0 → answer r grid ≡ collect_call_for bytes route source o l theirs grid
      collect_unfit h =
          call_later (lines_for (route_of route) bytes) (numbered_for (route_of route) bytes) _ r _ grid op.none
          (e ∙ sym (same_lines ∙ first_some (unfit_lines_for p source o l theirs) _ (λ q. h (e ∙ q)))) h
          ∙ collect_at

      module _ (z : r ≡ 0) (t : Bool) (q : t ≡ some (tiles_left p (progress_only l.own.progress)) p.processors) where
        left_is : some (tiles_left p l.own) p.processors ≡ t
        unfolding tiles_left
        left_is = sym q

        last_line : first_of (grid_lines p source o l theirs grid) ≡ first_of (line 15 (some (tiles_left p l.own) p.processors) ∷ [])
        last_line = same_lines ∙ clear_lines p source o l theirs r e z _

        pub collect_left : t ≡ true → answer 15 grid ≡ collect_call_for bytes route source o l theirs grid
        collect_left k =
            call_later (lines_for (route_of route) bytes) (numbered_for (route_of route) bytes) _ 15 _ grid op.none
            (sym (last_line ∙ first_true 15 _ _ (left_is ∙ k))) (λ y. omega arith) ∙ collect_at

        over : t ≡ false → first_of (line 15 (some (tiles_left p l.own) p.processors) ∷ []) ≡ 0
        unfolding first_of
        over k = first_false 15 (some (tiles_left p l.own) p.processors) [] (left_is ∙ k)

        pub collect_done : (new : List ℕ) → t ≡ false → new ≡ collected p (state_of l.own.memories [] [] [])
            → answer 0 new ≡ collect_call_for bytes route source o l theirs grid
        unfolding collected
        collect_done new k c =
            ap (answer 0) c
            ∙ call_done (lines_for (route_of route) bytes) (numbered_for (route_of route) bytes) _ 0 _ grid op.none (last_line ∙ over k)
            ∙ collect_at
