-- The box's, the shape's and the report's formulas are instances of one.
use Prim.Native.Nat.{ℕ, ◌+◌, ◌*◌, ◌/◌, ◌%◌, ◌^◌}
use mathlib.Core.Path.{◌≡◌, refl, ap, ◌∙◌}
use mathlib.Core.Bool.{Bool, true, false}
use mathlib.Core.List.{List}
use lib.ListN.{get_or}
use lib.Dec.{eqb}
use Rattle.base.specs.Tests.{◌and◌, pick}
use Rattle.base.proofs.Select.{keep_same}
use Rattle.base.proofs.Tests.{some_same, sum_same}
use Rattle.nest.specs.declared.Nest.{Nest}
use Rattle.nest.specs.Accepted.{Accepted}
use Rattle.nest.specs.Nest.{weight, cells}
use Rattle.nest.specs.Places.{cell_at, box_tile_of}
use Rattle.nest.specs.Shape.{in_shape}
use Rattle.plan.specs.Geometry.{has_read, read_at, value}
use Rattle.plan.specs.Messages.{reaches, crosses, parcel}
use Rattle.plan.specs.Shaped.{reads_shape, shaped_value, reaches_shape, shaped_parcel}
use Rattle.conformance.specs.OneBody.{all, read_in, value_in, parcel_in, OneBody}
use Rattle.conformance.proofs.Nested.{body_value}

and_all : (t : Bool) → t ≡ (t and true)
unfolding ◌and◌
and_all true = refl
and_all false = refl

module _ (x : Nest) where
  pub value_box : (source memory : List ℕ) (c : ℕ) → value x source memory c ≡ value_in all x source memory c
  unfolding value value_in read_in
  value_box source memory c =
      ap (λ (n : ℕ). (get_or source c 0 + n) / 2 ^ x.shift % 2 ^ 32)
      (sum_same (λ e. weight x e * pick (has_read x c e) (get_or memory (read_at x c e) 0) x.boundary)
      (λ e. weight x e * pick (has_read x c e and true) (get_or memory (read_at x c e) 0) x.boundary) x.distances
      (λ e l. ap (λ (t : Bool). weight x e * pick t (get_or memory (read_at x c e) 0) x.boundary) (and_all (has_read x c e))))

  pub value_shape : (source memory : List ℕ) (c : ℕ) → shaped_value x source memory c ≡ value_in (in_shape x) x source memory c
  unfolding shaped_value reads_shape value_in read_in
  value_shape source memory c = refl

  parcel_box : (t v : ℕ) → parcel x t v ≡ parcel_in all x t v
  unfolding parcel crosses parcel_in ◌and◌
  parcel_box t v =
      keep_same (crosses x t v) _ (cells x) (λ c l. ap (λ (b : Bool). eqb (box_tile_of x c) t and b)
      (some_same (reaches x t v c) (λ e. reaches x t v c e and true) x.distances (λ e k. and_all (reaches x t v c e))))

  parcel_shape : (t v : ℕ) → shaped_parcel x t v ≡ parcel_in (in_shape x) x t v
  unfolding shaped_parcel reaches_shape parcel_in
  parcel_shape t v = refl

pub one_body : (x : Nest) → Accepted x → OneBody x
one_body x ok =
    record {
      value_box = value_box x;
      value_shape = value_shape x;
      body_box = λ source array i h. body_value x ok source array i h ∙ value_box x source array (cell_at x i);
      parcel_box = parcel_box x;
      parcel_shape = parcel_shape x;
    }
