-- Rows by cells: which are in the shape, and where a distance reads one that is.
use Prim.Native.Nat.{ℕ, ◌+◌, ◌*◌, ◌-◌, ◌≤◌, ◌<◌}
use mathlib.Core.Path.{◌≡◌, refl, sym, ap, ◌∙◌}
use mathlib.Core.Logic.{◌⊎◌, inl, inr, ◌≢◌}
use mathlib.Core.Bool.{Bool, true, false}
use mathlib.Core.List.{List}
use native.Mathlib.Nat.{eq-or-lt_of_le}
use native.Mathlib.Decide.{ℕ_discrete, dec_lt}
use native.Mathlib.Omega.{arith}
use lib.ListN.{length, get_or, set, length-set}
use lib.Seq.{get_or-set_same, get_or-set_other}
use lib.Dec.{leb}
use borrow.Author.Tests.{eq-eqb, ne_eqb, lt-ltb, ltb-true, le-leb, leb-true}
use Rattle.base.specs.Tests.{every}
use Rattle.base.proofs.Tests.{both, and_true, same_test, every_at, every_all, pick_true, pick_false, is_false}
use Rattle.nest.specs.declared.Nest.{Nest}
use Rattle.nest.specs.declared.Interval.{Interval}
use Rattle.nest.specs.Accepted.{Accepted}
use Rattle.nest.specs.Nest.{length_of, component}
use Rattle.nest.specs.Places.{cell_place}
use Rattle.nest.specs.Shape.{meets, in_shape}
use Rattle.nest.specs.Spans.{last, row_place, meets_first, spot, within, Spans, Narrow}
use Rattle.nest.proofs.Shapes.{meets_same, every_same, framed}
use Rattle.plan.specs.Geometry.{has_read, read_at}
use Rattle.plan.specs.Shaped.{reads_shape}
use Rattle.plan.proofs.Tiles.{cell_place_low, cell_place_cell_at}
use Rattle.layout.specs.CellRows.{Given}
use Rattle.layout.proofs.Loops.{Changed}
use Rattle.values.specs.row_values.Reads.{first_read}
use Rattle.values.specs.shaped_values.Rows.{Along, between, Overlaps, ReadsRun, ReadsRuns}

-- ---- intervals

pub in_run : (low high a : ℕ) → low ≤ a → a < high → between low high a ≡ true
in_run low high a h k = and_true (le-leb low a h) (lt-ltb a high k)

pub run_in : (low high a : ℕ) → between low high a ≡ true → (low ≤ a) × (a < high)
run_in low high a h = let b = both h in (leb-true low a b.0, ltb-true a high b.1)

pub out_run : (low high a : ℕ) → (a < low) ⊎ (high ≤ a) → between low high a ≡ false
out_run low high a h = is_false (λ t. let r = run_in low high a t in go h r.0 r.1)
  where
    go : (a < low) ⊎ (high ≤ a) → low ≤ a → a < high → ⊥
    go (inl q) l m = omega arith
    go (inr q) l m = omega arith

pub overlapping : (s : Interval) (first width f t : ℕ) → first ≤ f → f ≤ t → t ≤ first + width
    → ((a : ℕ) → f ≤ a → a < t → (s.from ≤ a) × (a < s.to)) → ((a : ℕ) → first ≤ a → a < first + width → s.from ≤ a → a < s.to → (f ≤ a) × (a < t))
    → Overlaps s first width (record { from = f; to = t })
overlapping s first width f t h k l there back =
    record {
      least = h;
      rises = k;
      most = l;
      has = λ a m n. same_test (λ q. let r = run_in f t a q in let o = there a r.0 r.1 in in_run s.from s.to a o.0 o.1)
          (λ q. let r = run_in s.from s.to a q in let o = back a m n r.0 r.1 in in_run f t a o.0 o.1);
    }

-- ---- places

module _ (x : Nest) (ok : Accepted x) where
  last_low : last x < x.dimensions
  last_low = omega (arith, ok.dimensions_least)

  span_place : (at : List ℕ) (s : Interval) → Spans x at s → (i : ℕ → ℕ) → ((j : ℕ) → j < last x → i j ≡ get_or at j 0) → i (last x) < length_of x (last x)
      → within s (i (last x)) ≡ every (meets x i) x.bounds
  unfolding meets_first row_place
  span_place at s p i h l =
      sym (p.has (i (last x)) l)
      ∙ every_same (meets x (row_place x (spot at) (i (last x)))) (meets x i) x.bounds
      (λ b m. meets_same x (framed x ok) (row_place x (spot at) (i (last x))) i (λ j o. go j o (ℕ_discrete j (last x))) b m)
    where
      go : (j : ℕ) → j < x.dimensions → Dec (j ≡ last x) → row_place x (spot at) (i (last x)) j ≡ i j
      go j o (yes e) = pick_true _ _ _ (eq-eqb j (last x) e) ∙ ap i (sym e)
      go j o (no e) = pick_false _ _ _ (ne_eqb j (last x) e) ∙ sym (h j (omega (arith, below j o e)))
        where
          below : (j : ℕ) → j < x.dimensions → (j ≡ last x → ⊥) → j < last x
          below j o e = omega arith

  -- the row's own span
  pub span_cell : (at : List ℕ) (s : Interval) → Spans x at s → (c : ℕ) → Along x at c → within s (cell_place x c (last x)) ≡ in_shape x c
  unfolding in_shape
  span_cell at s p c l = span_place at s p (cell_place x c) l.same (cell_place_low x ok c (last x) last_low)

  -- ---- what distance e reads

  module _ (at : List ℕ) (e : ℕ) where
    -- distance e reads in no row so far ahead
    pub read_none : first_read x at e ≡ 1024 → ReadsRun x at e 0 0
    unfolding first_read reads_shape has_read
    read_none h =
        record {
          is = λ c l. out_run 0 0 (cell_place x c (last x)) (inr (omega arith)) ∙ sym (is_false (λ q. never c l (both q).0));
        }
      where
        never : (c : ℕ) → Along x at c → every (λ j. leb (component x e j) (cell_place x c j)) x.dimensions ≡ true → ⊥
        never c l q =
            let t : every (λ j. leb (component x e j) (get_or at j 0)) (last x) ≡ true =
            every_all (λ j. leb (component x e j) (get_or at j 0)) (last x) (λ j o. ap (leb (component x e j)) (sym (l.same j o))
            ∙ every_at (λ j. leb (component x e j) (cell_place x c j)) x.dimensions q j (omega (arith, last_low))) in
            let d : component x e (last x) ≡ 1024 = sym (pick_true _ _ _ t) ∙ h in
            omega (
              arith,
              d,
              leb-true (component x e (last x)) (cell_place x c (last x)) (every_at (λ j. leb (component x e j) (cell_place x c j))
                  x.dimensions q (last x) last_low),
              cell_place_low x ok c (last x) last_low,
              ok.length_most (last x),
            )

    pub first_most : (a : ℕ) → a ≡ first_read x at e → a ≤ 1024
    unfolding first_read
    first_most a h = go _ refl
      where
        go : (t : Bool) → every (λ j. leb (component x e j) (get_or at j 0)) (last x) ≡ t → a ≤ 1024
        go true q = omega (arith, ok.component_most e (last x), h ∙ pick_true _ _ _ q)
        go false q = omega (arith, h ∙ pick_false _ _ _ q)

    -- or it does
    pub read_some : first_read x at e ≢ 1024 → ((j : ℕ) → j < last x → component x e j ≤ get_or at j 0) × (first_read x at e ≡ component x e (last x))
    unfolding first_read
    read_some h = go _ refl
      where
        go : (t : Bool) → every (λ j. leb (component x e j) (get_or at j 0)) (last x) ≡ t
            → ((j : ℕ) → j < last x → component x e j ≤ get_or at j 0) × (first_read x at e ≡ component x e (last x))
        go true q = ((λ j o. leb-true _ _ (every_at _ (last x) q j o)), pick_true _ _ _ q)
        go false q = absurd (h (pick_false _ _ _ q))

    module _ (to : List ℕ) (s : Interval) (enough : (j : ℕ) → j < last x → component x e j ≤ get_or at j 0)
        (moved : (j : ℕ) → j < last x → get_or to j 0 ≡ get_or at j 0 - component x e j) (span : Spans x to s) where
      abbrev d : ℕ
      d = component x e (last x)

      behind : (c : ℕ) → Along x at c → within s (cell_place x c (last x) - d) ≡ in_shape x (read_at x c e)
      unfolding in_shape read_at
      behind c l =
          span_place to s span (λ j. cell_place x c j - component x e j) (λ j o. omega (arith, l.same j o, moved j o))
          (omega (arith, cell_place_low x ok c (last x) last_low))
          ∙ sym (every_same (meets x (cell_place x (read_at x c e))) (meets x (λ j. cell_place x c j - component x e j)) x.bounds
          (λ b m. meets_same x (framed x ok) (cell_place x (read_at x c e)) (λ j. cell_place x c j - component x e j)
          (cell_place_cell_at x ok (λ j. cell_place x c j - component x e j) (λ j o. omega (arith, cell_place_low x ok c j o))) b m))

      dims : (j : ℕ) → j < x.dimensions → (j < last x) ⊎ (j ≡ last x)
      dims j h = go (ℕ_discrete j (last x))
        where
          go : Dec (j ≡ last x) → (j < last x) ⊎ (j ≡ last x)
          go (yes q) = inr q
          go (no q) = inl (omega arith)

      pub read_run : ReadsRun x at e (s.from + d) (s.to + d)
      unfolding reads_shape has_read
      read_run = record { is = λ c l. same_test (there c l) (back c l) }
        where
          there : (c : ℕ) → Along x at c → between (s.from + d) (s.to + d) (cell_place x c (last x)) ≡ true → reads_shape x c e ≡ true
          there c l q =
              let r = run_in (s.from + d) (s.to + d) (cell_place x c (last x)) q in
              and_true (every_all _ x.dimensions (λ j o. le-leb (component x e j) (cell_place x c j) (least j (dims j o) r.0)))
              (sym (behind c l) ∙ in_run s.from s.to (cell_place x c (last x) - d) (omega (arith, r.0)) (omega (arith, r.0, r.1)))
            where
              least : (j : ℕ) → (j < last x) ⊎ (j ≡ last x) → s.from + d ≤ cell_place x c (last x) → component x e j ≤ cell_place x c j
              least j (inl o) h = omega (arith, l.same j o, enough j o)
              least j (inr o) h = rw o (omega arith)

          back : (c : ℕ) → Along x at c → reads_shape x c e ≡ true → between (s.from + d) (s.to + d) (cell_place x c (last x)) ≡ true
          back c l q =
              let b = both q in
              let m = leb-true d (cell_place x c (last x)) (every_at _ x.dimensions b.0 (last x) last_low) in
              let r = run_in s.from s.to (cell_place x c (last x) - d) (behind c l ∙ b.1) in
              in_run (s.from + d) (s.to + d) (cell_place x c (last x)) (omega (arith, r.0)) (omega (arith, r.1))

      pub read_made : (a : ℕ) → first_read x at e ≡ d → a ≡ first_read x at e → ReadsRun x at e (s.from + a) (s.to + a)
      read_made a h k = let z : a ≡ d = k ∙ h in rw z read_run

      -- of an empty span
      pub read_empty : s.to ≤ s.from → ReadsRun x at e 0 0
      read_empty h =
          record {
            is = λ c l. out_run 0 0 (cell_place x c (last x)) (inr (omega arith))
                ∙ sym (out_run (s.from + d) (s.to + d) (cell_place x c (last x)) (beyond (cell_place x c (last x)))) ∙ read_run.is c l;
          }
        where
          beyond : (a : ℕ) → (a < s.from + d) ⊎ (s.to + d ≤ a)
          beyond a = go (ℕ_discrete (a - (s.to + d) + (s.to + d)) a)
            where
              go : Dec (a - (s.to + d) + (s.to + d) ≡ a) → (a < s.from + d) ⊎ (s.to + d ≤ a)
              go (yes q) = inr (omega arith)
              go (no q) = inl (omega arith)

-- ---- runs of all distances, filled from the first

pub record Filling (x : Nest) (at firsts ends : List ℕ) (e : ℕ) : Type 0 where
  pub low : e ≤ x.distances
  pub first : length firsts ≡ 8
  pub second : length ends ≡ 8
  pub each : (d : ℕ) → d < e → ReadsRun x at d (get_or firsts d 0) (get_or ends d 0)

module _ (x : Nest) (at : List ℕ) where
  pub filling_none : (firsts ends : List ℕ) → length firsts ≡ 8 → length ends ≡ 8 → Filling x at firsts ends 0
  filling_none firsts ends h k = record { low = omega arith; first = h; second = k; each = λ d l. absurd (omega arith) }

  pub filling_more : (firsts ends : List ℕ) (e low high : ℕ) → Filling x at firsts ends e → e < x.distances → x.distances ≤ 8 → ReadsRun x at e low high
      → Filling x at (set firsts e low) (set ends e high) (e + 1)
  filling_more firsts ends e low high s h m r =
      record {
        low = omega arith;
        first = length-set firsts e low ∙ s.first;
        second = length-set ends e high ∙ s.second;
        each = λ d l. go d (eq-or-lt_of_le (below d l));
      }
    where
      below : (d : ℕ) → d < e + 1 → d ≤ e
      below d l = omega arith

      go : (d : ℕ) → (d ≡ e) ⊎ (d < e) → ReadsRun x at d (get_or (set firsts e low) d 0) (get_or (set ends e high) d 0)
      go d (inl q) = rw (q, get_or-set_same firsts e low 0 (omega (arith, s.first)), get_or-set_same ends e high 0 (omega (arith, s.second))) r
      go d (inr q) = rw (get_or-set_other firsts e d low 0 (λ z. omega arith), get_or-set_other ends e d high 0 (λ z. omega arith)) (s.each d q)

  pub filling_end : (firsts ends : List ℕ) (e : ℕ) → Filling x at firsts ends e → x.distances ≤ e → ReadsRuns x at firsts ends
  filling_end firsts ends e s h = record { each = λ d l. s.each d (omega (arith, s.low)) }

-- ---- the row that a distance reads, as a place

pub behind_made : (x : Nest) (components at to : List ℕ) (e j : ℕ) → Given x components → Changed (λ q. get_or at q 0 - get_or components (4 * e + q) 0) (last x)
    at to j
    → last x ≤ j → Narrow x at → ((q : ℕ) → q < last x → get_or to q 0 ≡ get_or at q 0 - component x e q) × Narrow x to
behind_made x components at to e j g s h n = (each, λ q o. narrow q o (dec_lt q (last x)))
  where
    each : (q : ℕ) → q < last x → get_or to q 0 ≡ get_or at q 0 - component x e q
    each q o = s.first.each q (omega arith) ∙ ap (λ (l : List ℕ). get_or at q 0 - get_or l (4 * e + q) 0) g.is

    narrow : (q : ℕ) → q < x.dimensions → Dec (q < last x) → get_or to q 0 < 65536
    narrow q o (yes k) = omega (arith, s.first.each q (omega arith), n q o)
    narrow q o (no k) = omega (arith, s.rest q (omega (arith, s.first.low)), n q o)
