-- Laws of a fresh start of both tenants, and of the records' words after a call as programs keep them.
use Rattle.std.specs.Prelude.{Result, ◌≡◌, ℕ, ◌+◌, ◌*◌, ◌<◌, true, false, ◌≢◌, List, [], ◌∷◌, ◌++◌, length, replicate}
use mathlib.Core.Path.{sym, ap, ◌∙◌}
use native.Mathlib.Omega.{arith}
use borrow.Author.Tests.{eqb-true, eq-eqb, ne_eqb, ltb-true}
use Rattle.base.specs.Tests.{not}
use Rattle.base.specs.declared.refusal.Refusal.{Refusal}
use Rattle.base.specs.Refusals.{number_of}
use Rattle.base.specs.Numbers.{line, first_of}
use Rattle.base.proofs.Tests.{both, and_true, and_false, and_no, not-true, not-false, true_not}
use Rattle.base.proofs.Numbers.{first_true, first_false, first_some, first_behind, none_first, none_behind}
use Rattle.machine.specs.Plan.{Plan}
use Rattle.machine.specs.Machine.{State, state_of, Answered, answered, fresh}
use Rattle.tenants.specs.Tenants.{TenantAreas, tenant_areas, Sharing, sharing_of, Sources, fresh_sharing, turn_lines_for}
use Rattle.layout.specs.RouteWords.{route_of}
use Rattle.recipe.specs.Routes.{lines_for}
use Rattle.recipe.proofs.Laws.{numbered_for}
use Rattle.records.specs.declared.Progress.{Progress}
use Rattle.engine.specs.Calls.{answer, recipe, areas}
use Rattle.engine.specs.Given.{records_after, zeros_after}
use Rattle.engine.proofs.Turns.{answered_no, answered_yes}
use Rattle.engine.proofs.Lines.{Opened, areas_are}
use Rattle.engine.proofs.Reading.{zeros_after_no, zeros_after_yes}
use Rattle.sharing.specs.Calls.{area_lines_for, turn_call_for, sharing_areas, fresh_sharing_lines, fresh_sharing_call}
use Rattle.sharing.proofs.Lines.{lengths_are}

-- ---- lengths

module _ (p : Plan) (sources : Sources) (r : Sharing) where
  pub no_first : areas p sources.first r.first ≡ false → sharing_areas p sources r ≡ false
  unfolding sharing_areas
  no_first e = and_false _ _ e

  pub no_second : areas p sources.second r.second ≡ false → sharing_areas p sources r ≡ false
  unfolding sharing_areas
  no_second e = and_no _ _ (and_false _ _ e)

  pub no_shared : length r.engaged ≢ p.processors → sharing_areas p sources r ≡ false
  unfolding sharing_areas
  no_shared n = and_no _ _ (and_no _ _ (ne_eqb _ _ n))

  pub all_there : areas p sources.first r.first ≡ true → areas p sources.second r.second ≡ true
      → length r.engaged ≡ p.processors → sharing_areas p sources r ≡ true
  unfolding sharing_areas
  all_there a b c = and_true a (and_true b (eq-eqb _ _ c))

-- ---- the number of a fresh start

module _ (bytes : List ℕ) (route : ℕ) (sources : Sources) (r : Sharing) where
  pub number_read : (n : ℕ) → n ≡ first_of (lines_for (route_of route) bytes) → n ≢ 0 → n ≡ first_of (fresh_sharing_lines bytes route sources r)
  number_read n e h = e ∙ sym (first_some (lines_for (route_of route) bytes) _ (λ q. h (e ∙ q)))

  module _ (p : Plan) (op : Opened bytes route p) where
    number_at : first_of (line 9 (not (sharing_areas p sources r)) ∷ []) ≡ first_of (fresh_sharing_lines bytes route sources r)
    number_at =
        ap (λ (q : Plan). first_of (line 9 (not (sharing_areas q sources r)) ∷ [])) op.is
        ∙ sym
        (first_behind (lines_for (route_of route) bytes) (line 9 (not (sharing_areas (recipe bytes route) sources r)) ∷ []) (numbered_for (route_of route) bytes)
        op.none)

    pub number_area : sharing_areas p sources r ≡ false → 9 ≡ first_of (fresh_sharing_lines bytes route sources r)
    number_area h = sym (first_true 9 (not (sharing_areas p sources r)) [] (not-false h)) ∙ number_at

    pub number_none : sharing_areas p sources r ≡ true → 0 ≡ first_of (fresh_sharing_lines bytes route sources r)
    unfolding first_of
    number_none h = sym (first_false 9 (not (sharing_areas p sources r)) [] (not-true h)) ∙ number_at

-- ---- the fresh start

-- one tenant's areas set to zero are the machine's
zeros_are : (p : Plan) (source : List ℕ) (s : State) → areas p source s ≡ true → (m u k t : List ℕ)
    → m ≡ replicate (length s.memories) 0 → u ≡ replicate (length s.buffer) 0 → k ≡ replicate (length s.progress) 0
    → t ≡ replicate (length s.status) 0 → state_of m u k t ≡ fresh p
unfolding fresh
zeros_are p source s e m u k t a b c d =
    let l = areas_are p source s e in
    rw (a, b, c, d, l.memories, l.buffer, l.progress, l.status)

module _ (bytes : List ℕ) (route : ℕ) (sources : Sources) (r : Sharing) (n : ℕ) (is : n ≡ first_of (fresh_sharing_lines bytes route sources r)) where
  pub fresh_refused : n ≢ 0 → answer n r ≡ fresh_sharing_call bytes route sources r
  unfolding fresh_sharing_call
  fresh_refused h = answered_no n (fresh_sharing (recipe bytes route)) r h ∙ ap (λ (k : ℕ). answered k (fresh_sharing (recipe bytes route)) r) is

  all_long : n ≡ 0 → sharing_areas (recipe bytes route) sources r ≡ true
  all_long z =
      true_not
      (none_first 9 (not (sharing_areas (recipe bytes route) sources r)) [] (λ q. omega arith)
      (none_behind (lines_for (route_of route) bytes) (line 9 (not (sharing_areas (recipe bytes route) sources r)) ∷ []) (numbered_for (route_of route) bytes)
      (sym is ∙ z))
      ).0

  done : n ≡ 0 → (first second : State) (engaged : List ℕ) → first ≡ fresh (recipe bytes route) → second ≡ fresh (recipe bytes route)
      → engaged ≡ replicate (recipe bytes route).processors 2 → answer 0 (sharing_of first second engaged) ≡ fresh_sharing_call bytes route sources r
  unfolding fresh_sharing fresh_sharing_call
  done z first second engaged a b c =
      ap (answer 0) (rw (a, b, c))
      ∙ answered_yes (first_of (fresh_sharing_lines bytes route sources r)) (fresh_sharing (recipe bytes route)) r (sym is ∙ z)

-- over the words of all areas, the records' zeros yet to be stored
pub fresh_done : (bytes : List ℕ) (route : ℕ) (sources : Sources) (s t : State) (engaged : List ℕ) (n : ℕ)
    → n ≡ first_of (fresh_sharing_lines bytes route sources (sharing_of s t engaged)) → n ≡ 0 → (m u k m' u' k' e : List ℕ)
    → (m ≡ replicate (length s.memories) 0) × ((u ≡ replicate (length s.buffer) 0) × (k ≡ replicate (length s.status) 0))
    → (m' ≡ replicate (length t.memories) 0) × ((u' ≡ replicate (length t.buffer) 0) × (k' ≡ replicate (length t.status) 0))
    → e ≡ replicate (length engaged) 2
    → answer 0 (sharing_of (state_of m u (zeros_after s.progress 0) k) (state_of m' u' (zeros_after t.progress 0) k') e)
    ≡ fresh_sharing_call bytes route sources (sharing_of s t engaged)
unfolding sharing_areas
fresh_done bytes route sources s t engaged n is z m u k m' u' k' e x y w =
    let a = both (all_long bytes route sources (sharing_of s t engaged) n is z) in
    let b = both a.1 in
    done bytes route sources (sharing_of s t engaged) n is z _ _ e
    (zeros_are (recipe bytes route) sources.first s a.0 m u _ k x.0 x.1.0 (zeroed s.progress) x.1.1)
    (zeros_are (recipe bytes route) sources.second t b.0 m' u' _ k' y.0 y.1.0 (zeroed t.progress) y.1.1)
    (w ∙ ap (λ (i : ℕ). replicate i 2) (eqb-true (length engaged) (recipe bytes route).processors b.1))
  where
    zeroed : (l : List ℕ) → zeros_after l 0 ≡ replicate (length l) 0
    zeroed l = sym (zeros_after_yes l)

module _ (n : ℕ) (m u t m' u' t' l q e : List ℕ) (x : Answered Sharing) where
  -- a refusal sets no record
  pub zeros_kept : n ≢ 0 → answer n (sharing_of (state_of m u l t) (state_of m' u' q t') e) ≡ x
      → answer n (sharing_of (state_of m u (zeros_after l n) t) (state_of m' u' (zeros_after q n) t') e) ≡ x
  zeros_kept h y = rw (sym (zeros_after_no l n h), sym (zeros_after_no q n h)) y

  -- the records' words stored
  pub both_stored : (k k' : List ℕ) → k ≡ zeros_after l n → k' ≡ zeros_after q n
      → answer n (sharing_of (state_of m u (zeros_after l n) t) (state_of m' u' (zeros_after q n) t') e) ≡ x
      → answer n (sharing_of (state_of m u k t) (state_of m' u' k' t') e) ≡ x
  both_stored k k' a b y = rw (a, b) y

-- ---- the records' words after a call

pub cleared : (l : List ℕ) (n : ℕ) → n ≡ 0 → (k : List ℕ) → k ≡ replicate (length l) 0 → k ≡ zeros_after l n
cleared l n z k e = e ∙ zeros_after_yes l ∙ ap (zeros_after l) (sym z)

-- a turn's answer over the records stored
pub turn_stored : (r : Result Progress Refusal) (m u l t e : List ℕ) (b : ℕ) (x : Answered TenantAreas) → answer (number_of r)
    (tenant_areas (state_of m u (records_after l b r) t) e) ≡ x
    → (k : List ℕ) → k ≡ records_after l b r → answer (number_of r) (tenant_areas (state_of m u k t) e) ≡ x
turn_stored r m u l t e b x q k w = ap (λ (i : List ℕ). answer (number_of r) (tenant_areas (state_of m u i t) e)) w ∙ q

-- a turn that gives 0 has a record there
pub turn_inside : (bytes : List ℕ) (route : ℕ) (source : List ℕ) (o : ℕ) (l : TenantAreas) (theirs : List ℕ) (b : ℕ)
    → (turn_call_for bytes route source o l theirs b).number ≡ 0 → 3 * b + 2 < length l.own.progress
unfolding turn_call_for
turn_inside bytes route source o l theirs b z =
    let p = recipe bytes route in
    let a = none_first 9 _ _ (λ q. omega arith)
    (none_behind (lines_for (route_of route) bytes) (area_lines_for p source l theirs ++ turn_lines_for p o l theirs b) (numbered_for (route_of route) bytes) z) in
    let f = none_first 11 _ _ (λ q. omega arith) a.1 in
    let g = none_first 10 _ _ (λ q. omega arith) f.1 in
    let h = none_first 11 _ _ (λ q. omega arith) g.1 in
    inside b p.processors (length l.own.progress) (lengths_are p source l theirs (true_not a.0)).own.progress
    (ltb-true b p.processors (true_not h.0))
  where
    inside : (i n k : ℕ) → k ≡ 3 * n → i < n → 3 * i + 2 < k
    inside i n k e h = omega arith
