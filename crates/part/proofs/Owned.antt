-- Laws of the cells of a processor's tiles: the test by a cell's tile, rows that have one processor, and the cells of the rows passed.
use Prim.Native.Nat.{ℕ, ◌+◌, ◌*◌, ◌-◌, ◌/◌, ◌%◌, ◌≤◌, ◌<◌}
use mathlib.Core.Path.{◌≡◌, refl, sym, ap, ◌∙◌}
use mathlib.Core.Logic.{◌⊎◌, inl, inr, ◌≢◌}
use mathlib.Core.Bool.{Bool, true, false}
use mathlib.Core.List.{List}
use native.Mathlib.Nat.{zero-mul, div-add-mod', mod-lt, mul-le-mul_right, div-lt_iff_lt-mul}
use native.Mathlib.Decide.{dec_lt, ℕ_discrete}
use native.Mathlib.Omega.{arith}
use lib.ListN.{length, get_or, replicate, length-replicate, get_or-replicate}
use lib.Seq.{ext_get_or}
use lib.Dec.{eqb}
use borrow.Author.Tests.{eq-eqb, ne_eqb, eqb-true}
use Rattle.base.specs.Tests.{◌and◌, one, some, tabulate}
use Rattle.base.specs.Lists.{member}
use Rattle.base.proofs.Tests.{both, and_true, and_false, same_test, some_at, some_one, pick_true, pick_false, one_true, one_false, is_false}
use Rattle.base.proofs.Tests.{length_tabulate, tabulate_at}
use Rattle.base.proofs.Lists.{in_member, member_in}
use Rattle.machine.specs.Plan.{Plan, Sound}
use Rattle.nest.specs.declared.Nest.{Nest}
use Rattle.nest.specs.Nest.{cells, tile_length}
use Rattle.nest.specs.Accepted.{Accepted}
use Rattle.nest.specs.Places.{box_tile_of}
use Rattle.nest.specs.Shape.{in_shape}
use Rattle.nest.specs.Spans.{last}
use Rattle.nest.proofs.Shapes.{framed, cell_place_row}
use Rattle.plan.specs.declared.Route.{Route}
use Rattle.plan.specs.declared.Route.TheVariants.{Direct}
use Rattle.plan.specs.Geometry.{processor_of}
use Rattle.plan.specs.Shaped.{plan_of}
use Rattle.plan.proofs.ShapedBox.{plan_of_box}
use Rattle.plan.proofs.ShapedSound.{sound}
use Rattle.plan.proofs.ShapedTiles.{box_tile_tile_of}
use Rattle.plan.proofs.Tiles.{tile_place_box_tile_of, processor_of_same}
use Rattle.layout.specs.declared.Sizes.{Sizes}
use Rattle.layout.specs.Sizes.{Sized, Routed}
use Rattle.network.specs.Own.{owns}
use Rattle.part.specs.Marking.{row_cells, Shown, Alike}
use Rattle.part.proofs.Rows.{wide_some}

-- ---- the test

-- a cell is the processor's where its tile is
module _ (p : Plan) (so : Sound p) (b c : ℕ) (low : c < p.cells) where
  owned : owns p b c ≡ (p.inside c and eqb (p.processor_of (p.tile_of c)) b)
  unfolding owns
  owned = same_test there back
    where
      there : some (λ t. eqb (p.processor_of t) b and member c (p.cells_of t)) p.tiles ≡ true
          → (p.inside c and eqb (p.processor_of (p.tile_of c)) b) ≡ true
      there e =
          let k = some_at (λ t. eqb (p.processor_of t) b and member c (p.cells_of t)) p.tiles e in
          let q = both k.2 in
          let i = member_in c _ q.1 in
          and_true (so.cell_inside k.0 c k.1 i)
          (eq-eqb _ _ (ap p.processor_of (so.cell_of k.0 c k.1 i) ∙ eqb-true _ _ q.0))

      back : (p.inside c and eqb (p.processor_of (p.tile_of c)) b) ≡ true
          → some (λ t. eqb (p.processor_of t) b and member c (p.cells_of t)) p.tiles ≡ true
      back e =
          let q = both e in
          some_one _ p.tiles (p.tile_of c) (so.tile_low c low q.0) (and_true q.1 (in_member c _ (so.cell_in c low q.0)))

-- without bounds the tiles are the box's on either route, with bounds there is one route
owns_same : (x : Nest) (z : Sizes) → Accepted x → Routed x z → (b c : ℕ) → owns (plan_of z.route x) b c ≡ owns (plan_of Direct x) b c
unfolding owns
owns_same x z ok routed b c = go (ℕ_discrete x.bounds 0)
  where
    go : Dec (x.bounds ≡ 0) → owns (plan_of z.route x) b c ≡ owns (plan_of Direct x) b c
    go (yes e) = ap (λ (p : Plan). owns p b c) (plan_of_box z.route x ok e) ∙ sym (ap (λ (p : Plan). owns p b c) (plan_of_box Direct x ok e))
    go (no n) = ap (λ (r : Route). owns (plan_of r x) b c) (routed n)

module _ (x : Nest) (z : Sizes) (s : Sized x z) (routed : Routed x z) (b c : ℕ) (low : c < cells x) where
  direct : owns (plan_of z.route x) b c ≡ (in_shape x c and eqb ((plan_of Direct x).processor_of ((plan_of Direct x).tile_of c)) b)
  direct = owns_same x z s.accepted routed b c ∙ owned (plan_of Direct x) (sound Direct x s.accepted) b c low

  -- outside the shape it is nobody's; in it, that of its tile of the box
  pub owned_none : in_shape x c ≡ false → owns (plan_of z.route x) b c ≡ false
  owned_none e = direct ∙ and_false _ _ e

  is_in_shape : (v : ℕ) → in_shape x c ≡ true → processor_of x (box_tile_of x c) ≡ v → (plan_of Direct x).processor_of ((plan_of Direct x).tile_of c) ≡ v
  is_in_shape v i e = ap (processor_of x) (box_tile_tile_of x s.accepted c low i) ∙ e

  pub owned_here : in_shape x c ≡ true → processor_of x (box_tile_of x c) ≡ b → owns (plan_of z.route x) b c ≡ true
  owned_here i e = direct ∙ and_true i (eq-eqb _ _ (is_in_shape b i e))

  pub owned_elsewhere : (v : ℕ) → in_shape x c ≡ true → processor_of x (box_tile_of x c) ≡ v → v ≢ b → owns (plan_of z.route x) b c ≡ false
  owned_elsewhere v i e n =
      direct ∙ is_false (λ q. n (sym (is_in_shape v i e) ∙ eqb-true _ _ (both q).1))

-- ---- the rows passed

-- the cells before c are told, the others not marked
pub record OwnTo (p : Plan) (b : ℕ) (marks : List ℕ) (c : ℕ) : Type 0 where
  pub long : length marks ≡ p.cells
  pub told : (j : ℕ) → j < c → get_or marks j 0 ≡ one (owns p b j)
  pub rest : (j : ℕ) → c ≤ j → j < p.cells → get_or marks j 0 ≡ 0

pub own_start : (p : Plan) (b n : ℕ) (marks : List ℕ) → n ≡ p.cells → marks ≡ replicate n 0 → (w : ℕ) → OwnTo p b marks (0 * w)
own_start p b n marks e is w =
    rw (zero-mul w) (record {
      long = ap length is ∙ length-replicate n 0 ∙ e;
      told = λ j h. absurd (omega arith);
      rest = λ j h l. ap (λ (ws : List ℕ). get_or ws j 0) is ∙ get_or-replicate n j 0 0 (omega (arith, l, e));
    })

module _ (x : Nest) (z : Sizes) (s : Sized x z) (routed : Routed x z) (b : ℕ) where
  abbrev ok : Accepted x
  ok = s.accepted

  abbrev p : Plan
  p = plan_of z.route x

  some_wide : 1 ≤ row_cells x
  some_wide = wide_some x ok

  module _ (q n : ℕ) (alike : Alike x q n) (t v : ℕ) (tile : t ≡ box_tile_of x (q * row_cells x)) (own : v ≡ processor_of x t) where
    -- a cell of these rows
    row_of : (c : ℕ) → q * row_cells x ≤ c → c < (q + n) * row_cells x → (y : ℕ) × (y < n) × (c ≡ (q + y) * row_cells x + c % row_cells x)
    row_of c h l =
        let up : q ≤ c / row_cells x = at_least (dec_lt (c / row_cells x) q) in
        let k : c / row_cells x < q + n = (div-lt_iff_lt-mul {k = row_cells x} some_wide).1 l in
        let e : q + (c / row_cells x - q) ≡ c / row_cells x = omega arith in
        (c / row_cells x - q, omega arith, rw e (sym (div-add-mod' c (row_cells x))))
      where
        at_least : Dec (c / row_cells x < q) → q ≤ c / row_cells x
        at_least (yes k) = let l = (div-lt_iff_lt-mul {k = row_cells x} some_wide).0 k in omega (arith, l, h)
        at_least (no k) = omega arith

    one_processor : (c : ℕ) → q * row_cells x ≤ c → c < (q + n) * row_cells x → processor_of x (box_tile_of x c) ≡ v
    one_processor c h l =
        let r = row_of c h l in
        ap (λ (i : ℕ). processor_of x (box_tile_of x i)) r.2
        ∙ processor_of_same x ok (box_tile_of x ((q + r.0) * row_cells x + c % row_cells x)) (box_tile_of x (q * row_cells x))
        (λ j k.
        let d : j < x.dimensions = omega (arith, ok.spread_low) in
        tile_place_box_tile_of x ok ((q + r.0) * row_cells x + c % row_cells x) j d
        ∙ ap (λ (a : ℕ). a / tile_length x j)
        (cell_place_row x (framed x ok) (q + r.0) (c % row_cells x) j (mod-lt c some_wide) d
        ∙ pick_false _ _ _ (ne_eqb j (last x) (λ e. omega (arith, ok.spread_low))))
        ∙ alike.same r.0 j r.1 k ∙ sym (tile_place_box_tile_of x ok (q * row_cells x) j d))
        ∙ ap (processor_of x) (sym tile) ∙ sym own

    module _ (marks : List ℕ) (g : OwnTo p b marks (q * row_cells x)) (room : (q + n) * row_cells x ≤ cells x) where
      -- marked where the processor is this one, or left
      pub own_next : (marks' : List ℕ)
          → ((v ≡ b) × Shown x (q * row_cells x) ((q + n) * row_cells x) marks marks') ⊎ ((v ≢ b) × (marks' ≡ marks)) → OwnTo p b marks' ((q + n) * row_cells x)
      own_next marks' (inl (e, sh)) =
          record {
            long = sh.long ∙ g.long;
            told = λ j l. go j l (dec_lt j (q * row_cells x)) (in_shape x j) refl;
            rest = λ j h l. sh.others j (inr h) ∙ g.rest j (omega (arith, h, up)) l;
          }
        where
          up : q * row_cells x ≤ (q + n) * row_cells x
          up = mul-le-mul_right (row_cells x) (omega arith)

          go : (j : ℕ) → j < (q + n) * row_cells x → Dec (j < q * row_cells x) → (i : Bool) → in_shape x j ≡ i → get_or marks' j 0 ≡ one (owns p b j)
          go j l (yes k) i f = sh.others j (inl k) ∙ g.told j k
          go j l (no k) true f =
              sh.each j (omega arith) l ∙ pick_true _ _ _ f
              ∙ sym (one_true (owned_here x z s routed b j (omega (arith, l, room)) f (one_processor j (omega arith) l ∙ e)))
          go j l (no k) false f =
              sh.each j (omega arith) l ∙ pick_false _ _ _ f ∙ g.rest j (omega arith) (omega (arith, l, room))
              ∙ sym (one_false (owned_none x z s routed b j (omega (arith, l, room)) f))
      own_next marks' (inr (ne, e)) =
          rw e (record {
            long = g.long;
            told = λ j l. go j l (dec_lt j (q * row_cells x)) (in_shape x j) refl;
            rest = λ j h l. g.rest j (omega (arith, h, up)) l;
          })
        where
          up : q * row_cells x ≤ (q + n) * row_cells x
          up = mul-le-mul_right (row_cells x) (omega arith)

          go : (j : ℕ) → j < (q + n) * row_cells x → Dec (j < q * row_cells x) → (i : Bool) → in_shape x j ≡ i → get_or marks j 0 ≡ one (owns p b j)
          go j l (yes k) i f = g.told j k
          go j l (no k) true f =
              g.rest j (omega arith) (omega (arith, l, room))
              ∙ sym (one_false (owned_elsewhere x z s routed b j (omega (arith, l, room)) v f (one_processor j (omega arith) l) ne))
          go j l (no k) false f =
              g.rest j (omega arith) (omega (arith, l, room)) ∙ sym (one_false (owned_none x z s routed b j (omega (arith, l, room)) f))

  pub own_done : (rows q : ℕ) (marks : List ℕ) → rows * row_cells x ≡ cells x → q ≤ rows → rows ≤ q → OwnTo p b marks (q * row_cells x)
      → marks ≡ tabulate (λ c. one (owns p b c)) (cells x)
  own_done rows q marks all h k g =
      let e : q ≡ rows = omega arith in
      let m : q * row_cells x ≡ cells x = ap (λ (a : ℕ). a * row_cells x) e ∙ all in
      ext_get_or 0 marks (tabulate (λ c. one (owns p b c)) (cells x)) (g.long ∙ sym (length_tabulate (λ c. one (owns p b c)) (cells x)))
      (λ j l.
      g.told j (omega (arith, l, m, g.long))
      ∙ sym (tabulate_at (λ c. one (owns p b c)) (cells x) j (omega (arith, l, g.long))))
