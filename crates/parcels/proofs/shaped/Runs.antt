-- Laws of runs in a row: the row's own span, what a distance reads, what it reaches.
use Prim.Native.Nat.{ℕ, ◌+◌, ◌*◌, ◌-◌, ◌≤◌, ◌<◌, min, max}
use mathlib.Core.Path.{◌≡◌, refl, sym, ap, ◌∙◌}
use mathlib.Core.Logic.{◌⊎◌, inl, inr}
use mathlib.Core.Bool.{Bool, true, false}
use mathlib.Core.List.{List}
use native.Mathlib.Numerals.{add-one}
use native.Mathlib.Decide.{ℕ_discrete, dec_lt}
use native.Mathlib.Omega.{arith}
use lib.ListN.{length, get_or, set, length-set}
use lib.Seq.{get_or-set_same, get_or-set_other}
use borrow.Author.Tests.{eq-eqb, ne_eqb, lt-ltb, ltb-true, le-leb, leb-true, le-ltb, lt-leb}
use Rattle.base.specs.Tests.{◌or◌, some}
use Rattle.base.proofs.Tests.{both, and_true, and_false, same_test, every_at, every_all, every_not, some_same, pick_true, pick_false, is_false, never_both}
use Rattle.nest.specs.declared.Nest.{Nest}
use Rattle.nest.specs.declared.Interval.{Interval}
use Rattle.nest.specs.Accepted.{Accepted}
use Rattle.nest.specs.Nest.{length_of, component}
use Rattle.nest.specs.Places.{cell_at, cell_place}
use Rattle.nest.specs.Shape.{meets, in_shape}
use Rattle.nest.specs.Spans.{last, row_place, meets_first, spot, Narrow, Spans}
use Rattle.nest.proofs.Rank.{Within}
use Rattle.nest.proofs.Shapes.{meets_same, every_same, framed}
use Rattle.layout.specs.Regions.{Region, among}
use Rattle.layout.proofs.Regions.{among_at}
use Rattle.plan.proofs.Tiles.{cell_place_cell_at}
use Rattle.layout.specs.Places.{nth}
use Rattle.layout.specs.CellRows.{Given}
use Rattle.layout.proofs.Loops.{Changed}
use Rattle.parcels.specs.Windows.{RowEnd}
use Rattle.runs.specs.Runs.{within, is_hit}
use Rattle.parcels.specs.shaped.Runs.{in_place, RunIs, reads_place, reaches_place, comes_shaped, RunsAre}

-- ---- numbers

in_run : (low high a : ℕ) → low ≤ a → a < high → within low high a ≡ true
in_run low high a h k = and_true (le-leb low a h) (lt-ltb a high k)

run_in : (low high a : ℕ) → within low high a ≡ true → (low ≤ a) × (a < high)
run_in low high a h = let b = both h in (leb-true low a b.0, ltb-true a high b.1)

run_empty : (low high a : ℕ) → high ≤ low → within low high a ≡ false
run_empty low high a h = is_false (λ t. let r = run_in low high a t in omega (arith, r.0, r.1))

or_no : (a : Bool) {b : Bool} → b ≡ false → (a or b) ≡ a
unfolding ◌or◌
or_no true e = refl
or_no false e = e

-- ---- places of the shape

module _ (x : Nest) (ok : Accepted x) where
  pub place_same : (i k : ℕ → ℕ) → ((j : ℕ) → j < x.dimensions → i j ≡ k j) → in_place x i ≡ in_place x k
  unfolding in_place
  place_same i k h = every_same (meets x i) (meets x k) x.bounds (λ b l. meets_same x (framed x ok) i k h b l)

  pub shape_cell : (c : ℕ) → in_shape x c ≡ in_place x (cell_place x c)
  unfolding in_shape in_place
  shape_cell c = refl

  pub shape_at : (i : ℕ → ℕ) → Within (length_of x) i x.dimensions → in_shape x (cell_at x i) ≡ in_place x i
  shape_at i w = shape_cell (cell_at x i) ∙ place_same (cell_place x (cell_at x i)) i (cell_place_cell_at x ok i w)

  -- the row's own
  pub span_run : (at : List ℕ) (s : Interval) → Spans x at s → RunIs x (nth at) (in_place x) s.from s.to
  unfolding meets_first in_place row_place
  span_run at s p =
      record {
        is = λ k h l. sym (p.has (k (last x)) l) ∙ place_same (row_place x (spot at) (k (last x))) k (λ j o. go k h j o (ℕ_discrete j (last x)));
      }
    where
      go : (k : ℕ → ℕ) → ((j : ℕ) → j < last x → k j ≡ get_or at j 0) → (j : ℕ) → j < x.dimensions → Dec (j ≡ last x) → row_place x (spot at) (k (last x)) j ≡ k j
      go k h j o (yes e) = pick_true _ _ _ (eq-eqb j (last x) e) ∙ ap k (sym e)
      go k h j o (no e) = pick_false _ _ _ (ne_eqb j (last x) e) ∙ sym (h j (omega (arith, below j o e)))
        where
          below : (j : ℕ) → j < x.dimensions → (j ≡ last x → ⊥) → j < last x
          below j o e = omega arith

  -- ---- what distance e reaches from the row

  module _ (w : Region) (i t : ℕ → ℕ) (e : ℕ) (moved : (j : ℕ) → j < last x → t j ≡ i j + component x e j) (high : w.high (last x) ≤ length_of x (last x)) where
    reach_run : (f1 t1 end f2 t2 low top : ℕ) → RunIs x i (in_place x) f1 t1 → RowEnd x w i e end → RunIs x t (in_place x) f2 t2
        → ((a : ℕ) → low ≤ a → (f1 ≤ a) × (f2 ≤ a + component x e (last x))) → ((a : ℕ) → f1 ≤ a → f2 ≤ a + component x e (last x) → low ≤ a)
        → ((a : ℕ) → a < top → (a < t1) × ((a < end) × (a + component x e (last x) < t2)))
        → ((a : ℕ) → a < t1 → a < end → a + component x e (last x) < t2 → a < top)
        → RunIs x i (reaches_place x w e) low top
    reach_run f1 t1 end f2 t2 low top own ends far a b c d =
        record { is = λ k s l. same_test (there k s l) (back k s l) }
      where
        inner : (k : ℕ → ℕ) → among x w (λ j. k j + component x e j) ≡ true → k (last x) + component x e (last x) < length_of x (last x)
        inner k q = omega (arith, (among_at x w (λ j. k j + component x e j) q (last x) (omega (arith, ok.dimensions_least))).1)

        beyond : (k : ℕ → ℕ) → ((j : ℕ) → j < last x → k j ≡ i j) → among x w (λ j. k j + component x e j) ≡ true
            → within f2 t2 (k (last x) + component x e (last x)) ≡ in_place x (λ j. k j + component x e j)
        beyond k s q = far.is (λ j. k j + component x e j) (λ j o. omega (arith, s j o, moved j o)) (inner k q)

        there : (k : ℕ → ℕ) → ((j : ℕ) → j < last x → k j ≡ i j) → k (last x) < length_of x (last x)
            → within low top (k (last x)) ≡ true → reaches_place x w e k ≡ true
        there k s l q =
            let r = run_in low top (k (last x)) q in
            let least = a (k (last x)) r.0 in
            let most = c (k (last x)) r.1 in
            let q1 : in_place x k ≡ true = sym (own.is k s l) ∙ in_run f1 t1 (k (last x)) least.0 most.0 in
            let q2 : among x w (λ j. k j + component x e j) ≡ true = sym (ends.is k s) ∙ lt-ltb (k (last x)) end most.1.0 in
            let q3 : in_place x (λ j. k j + component x e j) ≡ true = sym (beyond k s q2) ∙ in_run f2 t2 _ least.1 most.1.1 in
            and_true q1 (and_true q2 q3)

        back : (k : ℕ → ℕ) → ((j : ℕ) → j < last x → k j ≡ i j) → k (last x) < length_of x (last x)
            → reaches_place x w e k ≡ true → within low top (k (last x)) ≡ true
        back k s l q =
            let b1 = both q in
            let b2 = both b1.1 in
            let r1 = run_in f1 t1 (k (last x)) (own.is k s l ∙ b1.0) in
            let r2 = ltb-true (k (last x)) end (ends.is k s ∙ b2.0) in
            let r3 = run_in f2 t2 _ (beyond k s b2.0 ∙ b2.1) in
            in_run low top (k (last x)) (b (k (last x)) r1.0 r3.0) (d (k (last x)) r1.1 r2 r3.1)

    -- by what the code makes
    reach_made : (f1 t1 end f2 t2 d low top : ℕ) → d ≡ component x e (last x) → low ≡ max f1 (f2 - d)
        → top ≡ min (min t1 end) (t2 - d)
        → RunIs x i (in_place x) f1 t1 → RowEnd x w i e end → RunIs x t (in_place x) f2 t2 → RunIs x i (reaches_place x w e) low top
    reach_made f1 t1 end f2 t2 d low top z m n own ends far =
        reach_run f1 t1 end f2 t2 low top own ends far (λ a h. (omega arith, omega arith)) (λ a h k. omega arith)
        (λ a h. (omega arith, (omega arith, omega arith))) (λ a h k l. omega arith)

    pub reach_code : (f1 t1 end f2 t2 d a b m low top : ℕ) → d ≡ component x e (last x) → a ≡ f2 - d → low ≡ max f1 a
        → m ≡ min t1 end → b ≡ t2 - d → top ≡ min m b
        → RunIs x i (in_place x) f1 t1 → RowEnd x w i e end → RunIs x t (in_place x) f2 t2 → RunIs x i (reaches_place x w e) low top
    reach_code f1 t1 end f2 t2 d a b m low top z ea l em eb et =
        reach_made f1 t1 end f2 t2 d low top z (l ∙ ap (max f1) ea) (et ∙ rw (em, eb) refl)

    -- it reaches the window nowhere
    pub reach_none : RowEnd x w i e 0 → RunIs x i (reaches_place x w e) 0 0
    reach_none ends =
        record {
          is = λ k s l. run_empty 0 0 (k (last x)) (omega arith)
              ∙ sym (is_false (λ q. let b = both (both q).1 in never_both (ends.is k s ∙ b.0) (le-ltb (k (last x)) 0 (omega arith))));
        }

  -- ---- what distance e reads from the row

  module _ (i : ℕ → ℕ) (e : ℕ) where
    pub read_none : (j : ℕ) → j < last x → i j < component x e j → RunIs x i (reads_place x e) 0 0
    read_none j l h =
        record {
          is = λ k s o. run_empty 0 0 (k (last x)) (omega arith)
              ∙ sym (and_false _ _ (every_not _ x.dimensions j (omega arith) (lt-leb (component x e j) (k j) (omega (arith, s j l)))));
        }

    module _ (t : ℕ → ℕ) (enough : (j : ℕ) → j < last x → component x e j ≤ i j) (moved : (j : ℕ) → j < last x → t j ≡ i j - component x e j) where
      abbrev d : ℕ
      d = component x e (last x)

      dims : (j : ℕ) → j < x.dimensions → (j < last x) ⊎ (j ≡ last x)
      dims j h = go (ℕ_discrete j (last x))
        where
          go : Dec (j ≡ last x) → (j < last x) ⊎ (j ≡ last x)
          go (yes q) = inr q
          go (no q) = inl (omega arith)

      pub read_run : (from to : ℕ) → RunIs x t (in_place x) from to → RunIs x i (reads_place x e) (from + d) (to + d)
      read_run from to p = record { is = λ k s l. same_test (there k s l) (back k s l) }
        where
          before : (k : ℕ → ℕ) → ((j : ℕ) → j < last x → k j ≡ i j) → k (last x) < length_of x (last x)
              → within from to (k (last x) - d) ≡ in_place x (λ j. k j - component x e j)
          before k s l = p.is (λ j. k j - component x e j) (λ j o. omega (arith, s j o, moved j o)) (omega arith)

          there : (k : ℕ → ℕ) → ((j : ℕ) → j < last x → k j ≡ i j) → k (last x) < length_of x (last x)
              → within (from + d) (to + d) (k (last x)) ≡ true → reads_place x e k ≡ true
          there k s l q =
              let r = run_in (from + d) (to + d) (k (last x)) q in
              and_true (every_all _ x.dimensions (λ j o. le-leb (component x e j) (k j) (least j (dims j o) r.0)))
              (sym (before k s l) ∙ in_run from to (k (last x) - d) (omega (arith, r.0)) (omega (arith, r.0, r.1)))
            where
              least : (j : ℕ) → (j < last x) ⊎ (j ≡ last x) → from + d ≤ k (last x) → component x e j ≤ k j
              least j (inl o) h = omega (arith, s j o, enough j o)
              least j (inr o) h = rw o (omega arith)

          back : (k : ℕ → ℕ) → ((j : ℕ) → j < last x → k j ≡ i j) → k (last x) < length_of x (last x)
              → reads_place x e k ≡ true → within (from + d) (to + d) (k (last x)) ≡ true
          back k s l q =
              let b = both q in
              let m = leb-true d (k (last x)) (every_at _ x.dimensions b.0 (last x) (omega (arith, ok.dimensions_least))) in
              let r = run_in from to (k (last x) - d) (before k s l ∙ b.1) in
              in_run (from + d) (to + d) (k (last x)) (omega (arith, r.0)) (omega (arith, r.1))

      -- of an empty span
      pub read_empty : (from to : ℕ) → to ≤ from → RunIs x t (in_place x) from to → RunIs x i (reads_place x e) 0 0
      read_empty from to h p =
          record {
            is = λ k s l. run_empty 0 0 (k (last x)) (omega arith)
                ∙ sym (run_empty (from + d) (to + d) (k (last x)) (omega arith)) ∙ (read_run from to p).is k s l;
          }

-- ---- the runs that are not empty, gathered from the first distance on

pub record Gathered (x : Nest) (i : ℕ → ℕ) (f : ℕ → (ℕ → ℕ) → Bool) (starts ends : List ℕ) (n e : ℕ) : Type 0 where
  pub few : n ≤ e
  pub first : length starts ≡ 8
  pub second : length ends ≡ 8
  pub is : (k : ℕ → ℕ) → ((j : ℕ) → j < last x → k j ≡ i j) → k (last x) < length_of x (last x) → is_hit starts ends n (k (last x)) ≡ some (λ d. f d k) e

module _ (x : Nest) (i : ℕ → ℕ) (f : ℕ → (ℕ → ℕ) → Bool) where
  pub gathered_none : (starts ends : List ℕ) → length starts ≡ 8 → length ends ≡ 8 → Gathered x i f starts ends 0 0
  unfolding some
  gathered_none starts ends h k = record { few = omega arith; first = h; second = k; is = λ k s l. refl }

  module _ (starts ends : List ℕ) (n e low high : ℕ) (g : Gathered x i f starts ends n e) (r : RunIs x i (f e) low high) where
    gathered_more : e < 8 → Gathered x i f (set starts n low) (set ends n high) (n + 1) (e + 1)
    unfolding some
    gathered_more h =
        record {
          few = omega (arith, g.few);
          first = length-set starts n low ∙ g.first;
          second = length-set ends n high ∙ g.second;
          is = λ k s l. rw (add-one n, add-one e) (
              ap (λ (b : Bool). b or within (get_or (set starts n low) n 0) (get_or (set ends n high) n 0) (k (last x)))
              (some_same _ _ n (λ d o. rw (get_or-set_other starts n d low 0 (λ z. omega arith), get_or-set_other ends n d high 0 (λ z. omega arith)) refl)
              ∙ g.is k s l)
              ∙ ap (λ (b : Bool). some (λ d. f d k) e or b)
              (rw (
                get_or-set_same starts n low 0 (omega (arith, g.few, g.first)),
                get_or-set_same ends n high 0 (omega (arith, g.few, g.second)),
              ) (r.is k s l)));
        }

    gathered_same : high ≤ low → Gathered x i f starts ends n (e + 1)
    unfolding some
    gathered_same h =
        record {
          few = omega (arith, g.few);
          first = g.first;
          second = g.second;
          is = λ k s l. rw (add-one e) (g.is k s l ∙ sym (or_no (some (λ d. f d k) e) (sym (r.is k s l) ∙ run_empty low high (k (last x)) h)));
        }

    pub gathered_turn : (starts' ends' : List ℕ) (n' : ℕ) → e < 8
        → ((low < high) × (starts' ≡ set starts n low) × (ends' ≡ set ends n high) × (n' ≡ n + 1))
        ⊎ ((high ≤ low) × (starts' ≡ starts) × (ends' ≡ ends) × (n' ≡ n)) → Gathered x i f starts' ends' n' (e + 1)
    gathered_turn starts' ends' n' h (inl (o, a, b, c)) = rw (a, b, c) (gathered_more h)
    gathered_turn starts' ends' n' h (inr (o, a, b, c)) = rw (a, b, c) (gathered_same o)

pub gathered_end : (x : Nest) (ok : Accepted x) (i : ℕ → ℕ) (w : Region) (starts ends : List ℕ) (n e : ℕ) → Gathered x i (reaches_place x w) starts ends n e
    → e ≤ x.distances → x.distances ≤ e → RunsAre x i (comes_shaped x w) n starts ends
unfolding comes_shaped
gathered_end x ok i w starts ends n e g h k =
    let q : e ≡ x.distances = omega arith in
    record {
      few = omega (arith, g.few, ok.distances_most);
      is = λ i s l. g.is i s l ∙ ap (some (λ d. reaches_place x w d i)) q;
    }

-- ---- a place moved before the last dimension

module _ (x : Nest) (ok : Accepted x) (components : List ℕ) (g : Given x components) where
  pub given_most : (e j : ℕ) → get_or components (4 * e + j) 0 ≤ 1024
  given_most e j = rw g.is (ok.component_most e j)

  pub given_is : (e j : ℕ) → get_or components (4 * e + j) 0 ≡ component x e j
  given_is e j = ap (λ (l : List ℕ). get_or l (4 * e + j) 0) g.is

  pub moved_ahead : (at : List ℕ) (e : ℕ) → ((j : ℕ) → j < x.dimensions → get_or at j 0 < 1024) → (l : List ℕ) (j : ℕ)
      → Changed (λ i. get_or at i 0 + get_or components (4 * e + i) 0) (last x) at l j → last x ≤ j
      → ((i : ℕ) → i < last x → get_or l i 0 ≡ get_or at i 0 + component x e i) × Narrow x l
  moved_ahead at e small l j c h =
      (λ i k. c.first.each i (omega (arith, c.first.low)) ∙ ap (λ (a : ℕ). get_or at i 0 + a) (given_is e i), λ i k. go i k (dec_lt i (last x)))
    where
      go : (i : ℕ) → i < x.dimensions → Dec (i < last x) → get_or l i 0 < 65536
      go i k (yes b) = omega (arith, c.first.each i (omega (arith, c.first.low)), small i k, given_most e i)
      go i k (no b) = omega (arith, c.rest i (omega (arith, c.first.low)), small i k)
