-- The report's sequential nest, run at the indices of a shape over an array that is the boundary outside, leaves the sweep.
use Prim.Native.Nat.{ℕ, zero, suc, ◌+◌, ◌*◌, ◌/◌, ◌%◌, ◌^◌, ◌<◌}
use mathlib.Core.Path.{◌≡◌, refl, sym, ap, ◌∙◌}
use mathlib.Core.Logic.{◌⊎◌, inl, inr}
use mathlib.Core.Bool.{Bool, true, false}
use mathlib.Core.List.{List, [], ◌∷◌, ◌++◌, map}
use lib.ListN.{length, get_or}
use lib.Seq.{ext_get_or}
use Rattle.base.specs.Tests.{◌and◌, pick, keep_if, keep, tabulate}
use Rattle.base.specs.Lists.{In, store_all}
use Rattle.base.proofs.Tests.{sum_same}
use Rattle.base.proofs.Lists.{store_length}
use Rattle.base.proofs.Select.{keep_in, in_keep, keep_rising}
use Rattle.machine.specs.Plan.{Plan, Sound}
use Rattle.machine.specs.Machine.{sweep}
use Rattle.machine.proofs.Values.{stored_right, sweep_fixed, sweep_outside, sweep_length}
use Rattle.nest.specs.declared.Nest.{Nest}
use Rattle.nest.specs.Accepted.{Accepted}
use Rattle.nest.specs.Nest.{weight, cells}
use Rattle.nest.specs.Places.{cell_at}
use Rattle.nest.specs.Shape.{in_shape}
use Rattle.plan.specs.declared.Route.TheVariants.{Direct}
use Rattle.plan.specs.Geometry.{has_read, read_at, reads_of, value}
use Rattle.conformance.specs.Report.{Index}
use Rattle.conformance.specs.Exact.{sequential, run_nest}
use Rattle.plan.specs.Shaped.{reads_shape, shaped_value, plan_of}
use Rattle.conformance.specs.ExactShape.{shape_of}
use Rattle.conformance.specs.Figure4.{chosen}
use Rattle.plan.proofs.Tiles.{read_low, read_before}
use Rattle.plan.proofs.Sound.{reads_at, at_reads}
use Rattle.conformance.proofs.Nested.{Each, run_stores, sequential_each, cells_in_order}
use Rattle.plan.proofs.ShapedSound.{sound}

-- ---- the shape's indices are the cells kept

pub chosen_append : {A : Type 0} (f : A → Bool) (a b : List A) → chosen f (a ++ b) ≡ chosen f a ++ chosen f b
unfolding chosen pick
chosen_append f [] b = refl
chosen_append {A} f (c ∷ a) b = go (f c) (chosen_append f a b)
  where
    go : (t : Bool) → chosen f (a ++ b) ≡ chosen f a ++ chosen f b
        → pick t (c ∷ chosen f (a ++ b)) (chosen f (a ++ b)) ≡ pick t (c ∷ chosen f a) (chosen f a) ++ chosen f b
    go true e = ap (λ (l : List A). c ∷ l) e
    go false e = e

chosen_all : (f : ℕ → Bool) (n : ℕ) → chosen f (tabulate (λ c. c) n) ≡ keep f n
unfolding chosen tabulate keep pick
chosen_all f zero = refl
chosen_all f (suc n) =
    chosen_append f (tabulate (λ c. c) n) (n ∷ [])
    ∙ (ap (λ (l : List ℕ). l ++ pick (f n) (n ∷ []) []) (chosen_all f n) ∙ ap (λ (l : List ℕ). keep f n ++ l) (last (f n)))
  where
    last : (t : Bool) → pick t (n ∷ []) [] ≡ keep_if t n
    last true = refl
    last false = refl

pub map_shape : (x : Nest) (is : List (ℕ → ℕ)) → map (cell_at x) (shape_of x is) ≡ chosen (in_shape x) (map (cell_at x) is)
unfolding shape_of chosen pick
map_shape x [] = refl
map_shape x (i ∷ is) = go (in_shape x (cell_at x i)) (map_shape x is)
  where
    go : (t : Bool) → map (cell_at x) (shape_of x is) ≡ chosen (in_shape x) (map (cell_at x) is)
        → map (cell_at x) (pick t (i ∷ shape_of x is) (shape_of x is))
        ≡ pick t (cell_at x i ∷ chosen (in_shape x) (map (cell_at x) is)) (chosen (in_shape x) (map (cell_at x) is))
    go true e = ap (λ (l : List ℕ). cell_at x i ∷ l) e
    go false e = e

pub each_shape : (x : Nest) (is : List (ℕ → ℕ)) → Each (Index x) is → Each (Index x) (shape_of x is)
unfolding shape_of pick
each_shape x [] h = h
each_shape x (i ∷ is) h = go (in_shape x (cell_at x i)) (each_shape x is h.1)
  where
    go : (t : Bool) → Each (Index x) (shape_of x is) → Each (Index x) (pick t (i ∷ shape_of x is) (shape_of x is))
    go true e = (h.0, e)
    go false e = e

-- the loops meet the shape's cells in rising order
pub shape_in_order : (x : Nest) → Accepted x → map (cell_at x) (shape_of x (sequential x)) ≡ keep (in_shape x) (cells x)
shape_in_order x ok =
    map_shape x (sequential x) ∙ (ap (chosen (in_shape x)) (cells_in_order x ok) ∙ chosen_all (in_shape x) (cells x))

module _ (x : Nest) (ok : Accepted x) (source array : List ℕ) (len : length array ≡ cells x)
    (outside : (c : ℕ) → c < cells x → in_shape x c ≡ false → get_or array c 0 ≡ x.boundary) where
  abbrev p : Plan
  p = plan_of Direct x

  abbrev so : Sound p
  so = sound Direct x ok

  abbrev w : ℕ → ℕ
  w c = get_or (sweep p source) c 0

  unswept : (c : ℕ) → c < cells x → in_shape x c ≡ false → w c ≡ x.boundary
  unswept = sweep_outside p source (so.local source) so.earlier

  -- the box's value of a cell of the shape, where the outside has the boundary's word
  value_is : (s : List ℕ) (c : ℕ) → c < cells x → in_shape x c ≡ true → ((r : ℕ) → In r (reads_of x c) → get_or s r 0 ≡ w r)
      → value x source s c ≡ w c
  unfolding value shaped_value reads_shape pick ◌and◌
  value_is s c h i e =
      ap (λ (n : ℕ). (get_or source c 0 + n) / 2 ^ x.shift % 2 ^ 32)
      (sum_same (λ e. weight x e * pick (has_read x c e) (get_or s (read_at x c e) 0) x.boundary)
      (λ e. weight x e * pick (reads_shape x c e) (w (read_at x c e)) x.boundary) x.distances
      (λ d l. ap (λ (n : ℕ). weight x d * n) (one d l (has_read x c d) refl (in_shape x (read_at x c d)) refl)))
      ∙ sweep_fixed p source (so.local source) so.earlier c h i
    where
      one : (d : ℕ) → d < x.distances → (t : Bool) → has_read x c d ≡ t → (u : Bool) → in_shape x (read_at x c d) ≡ u
          → pick t (get_or s (read_at x c d) 0) x.boundary ≡ pick (t and u) (w (read_at x c d)) x.boundary
      one d l true a true b = e (read_at x c d) (at_reads x c d l a)
      one d l true a false b = e (read_at x c d) (at_reads x c d l a) ∙ unswept (read_at x c d) (read_low x ok c d l a) b
      one d l false a true b = refl
      one d l false a false b = refl

  -- the plan of the box's values at the cells of the shape
  abbrev q : Plan
  q =
      record {
        cells = cells x;
        inside = in_shape x;
        boundary = x.boundary;
        tiles = p.tiles;
        processors = p.processors;
        tile_of = p.tile_of;
        cells_of = p.cells_of;
        processor_of = p.processor_of;
        messages = p.messages;
        reads_of = reads_of x;
        value = value x;
      }

  abbrev all : List ℕ
  all = keep (in_shape x) (cells x)

  abbrev Out : ℕ → Type 0
  Out r = (r < cells x) × (in_shape x r ≡ false)

  read : (c r : ℕ) → c < cells x → In r (reads_of x c) → (In r all × (r < c)) ⊎ Out r
  read c r h k =
      let b = reads_at x c r k in
      rw b.3 (go (read_at x c b.0) (read_low x ok c b.0 b.1 b.2) (read_before x ok c b.0 b.1 b.2 h) _ refl)
    where
      go : (r : ℕ) → r < cells x → r < c → (t : Bool) → in_shape x r ≡ t → (In r all × (r < c)) ⊎ Out r
      go r l b true i = inl (in_keep (in_shape x) (cells x) r l i, b)
      go r l b false o = inr (l, o)

  stored_at : (c : ℕ) → (get_or array c 0 ≡ w c) ⊎ In c all → get_or (store_all (value x source) array all) c 0 ≡ w c
  stored_at =
      stored_right q source w value_is all Out (λ c r i k. read c r (keep_in (in_shape x) (cells x) c i).0 k)
      (λ c i. (keep_in (in_shape x) (cells x) c i).0) (λ c i. (keep_in (in_shape x) (cells x) c i).1) all array
      (keep_rising (in_shape x) (cells x)) (λ y i. i) len (λ y o. outside y o.0 o.1 ∙ sym (unswept y o.0 o.1)) (λ y i. inl i)

  either : (c : ℕ) → c < cells x → (t : Bool) → in_shape x c ≡ t → (get_or array c 0 ≡ w c) ⊎ In c all
  either c h true i = inr (in_keep (in_shape x) (cells x) c h i)
  either c h false o = inl (outside c h o ∙ sym (unswept c h o))

  pub sweep_is : run_nest x source array (shape_of x (sequential x)) ≡ sweep (plan_of Direct x) source
  sweep_is =
      run_stores x ok source (shape_of x (sequential x)) array (each_shape x (sequential x) (sequential_each x ok source))
      ∙ ap (store_all (value x source) array)
      (map_shape x (sequential x) ∙ ap (chosen (in_shape x)) (cells_in_order x ok) ∙ chosen_all (in_shape x) (cells x))
      ∙ ext_get_or 0 (store_all (value x source) array all) (sweep p source)
      (store_length (value x source) all array ∙ len ∙ sym (sweep_length p source (so.local source) so.earlier (cells x)))
      (λ c k. let h : c < cells x = rw (store_length (value x source) all array ∙ len) at k in stored_at c (either c h (in_shape x c) refl))
