-- Of a nest without bounds the plan is the box's, field by field and so as a record: every tile exists and is its own number.
use Prim.Native.Nat.{ℕ, ◌+◌, ◌*◌, ◌/◌, ◌%◌, ◌^◌, ◌≤◌, ◌<◌}
use mathlib.Core.Path.{◌≡◌, refl, sym, ap, ◌∙◌, fun_ext}
use mathlib.Core.Logic.{◌⊎◌, inl, inr}
use mathlib.Core.Bool.{Bool, true, false}
use mathlib.Core.List.{List, [], ◌∷◌, map}
use native.Mathlib.Decide.{dec_lt}
use native.Mathlib.Omega.{arith}
use lib.ListN.{length, get_or}
use lib.Dec.{eqb}
use Rattle.base.specs.Tests.{◌and◌, pick, some, keep}
use Rattle.base.specs.Lists.{In}
use Rattle.base.specs.Numbers.{first_of}
use Rattle.base.proofs.Lists.{small, small_bytes}
use Rattle.base.proofs.Tests.{both, and_true, and_left, same_test, some_at, some_one, sum_same, length_tabulate}
use Rattle.base.proofs.Select.{keep_same}
use Rattle.machine.specs.Plan.{Message, Plan}
use Rattle.nest.specs.declared.Nest.{Nest}
use Rattle.nest.specs.Accepted.{Accepted}
use Rattle.nest.specs.Nest.{weight, cells, box_tiles, processors}
use Rattle.nest.specs.Places.{box_tile_of}
use Rattle.nest.specs.Shape.{in_shape, exists, tiles}
use Rattle.nest.specs.Reader.{read_lines, nest_of}
use Rattle.nest.proofs.Facts.{accepted}
use Rattle.plan.specs.declared.Route.{Route}
use Rattle.plan.specs.declared.Route.TheVariants.{Direct, Indirect}
use Rattle.plan.specs.Geometry.{cells_of, processor_of, has_read, read_at, reads_of, value}
use Rattle.plan.specs.Messages.{directions, reaches, crosses, parcel, taker, slots, slot_tile, slot_direction, slot_cells, slot_taker, at_home}
use Rattle.plan.specs.Messages.{slot_parcel, slot_message, messages_of, messages_to, messages, box_plan}
use Rattle.plan.specs.Shaped.{box_tile, tile_of, shaped_cells, reads_shape, shaped_reads, shaped_value, reaches_shape, shaped_parcel, shaped_taker}
use Rattle.plan.specs.Shaped.{shaped_slot_taker, shaped_home, shaped_slot_parcel, shaped_message, shaped_slots, plan_of}
use Rattle.nest.proofs.Boxes.{all_kept, unbounded_in, unbounded_exists, unbounded_tiles}
use Rattle.plan.proofs.Tiles.{box_tile_of_low}
use Rattle.plan.proofs.Listed.{messages_same}
use Rattle.plan.proofs.Parcels.{taker_low}
use Rattle.plan.proofs.ShapedTiles.{box_tile_number, box_tile_beyond}
use Rattle.plan.proofs.ShapedParcels.{parcel_crossed}
use Rattle.plan.proofs.ShapedTaker.{taker_counts}

module _ (x : Nest) (ok : Accepted x) (none : x.bounds ≡ 0) where
  all_inside : (c : ℕ) → in_shape x c ≡ true
  all_inside = unbounded_in x ok.long none

  -- ---- reads
  reads_are : (c e : ℕ) → reads_shape x c e ≡ has_read x c e
  unfolding reads_shape
  reads_are c e = same_test (λ t. (both t).0) (λ t. and_true t (all_inside (read_at x c e)))

  shaped_reads_are : (c : ℕ) → shaped_reads x c ≡ reads_of x c
  unfolding shaped_reads reads_of
  shaped_reads_are c = ap (map (read_at x c)) (keep_same _ _ x.distances (λ e h. reads_are c e))

  shaped_value_is : (source memory : List ℕ) (c : ℕ) → shaped_value x source memory c ≡ value x source memory c
  unfolding shaped_value value
  shaped_value_is source memory c =
      ap (λ (n : ℕ). (get_or source c 0 + n) / 2 ^ x.shift % 2 ^ 32)
      (sum_same (λ e. weight x e * pick (reads_shape x c e) (get_or memory (read_at x c e) 0) x.boundary)
      (λ e. weight x e * pick (has_read x c e) (get_or memory (read_at x c e) 0) x.boundary) x.distances
      (λ e h. ap (λ (t : Bool). weight x e * pick t (get_or memory (read_at x c e) 0) x.boundary) (reads_are c e)))

  -- ---- sets
  shaped_cells_are : (u : ℕ) → shaped_cells x u ≡ cells_of x u
  unfolding shaped_cells cells_of
  shaped_cells_are u = keep_same _ _ (cells x) (λ c h. and_left (in_shape x c) _ (all_inside c))

  reaches_are : (u v c e : ℕ) → reaches_shape x u v c e ≡ reaches x u v c e
  unfolding reaches_shape
  reaches_are u v c e = same_test (λ t. (both t).0) (λ t. and_true t (all_inside _))

  shaped_parcel_is : (u v : ℕ) → shaped_parcel x u v ≡ parcel x u v
  unfolding shaped_parcel parcel crosses
  shaped_parcel_is u v =
      keep_same _ _ (cells x)
      (λ c h. and_left (in_shape x c) _ (all_inside c) ∙ ap (λ (t : Bool). eqb (box_tile_of x c) u and t) (some_are c))
    where
      some_are : (c : ℕ) → some (reaches_shape x u v c) x.distances ≡ some (reaches x u v c) x.distances
      some_are c =
          same_test (λ q. let r = some_at _ _ q in some_one _ x.distances r.0 r.1 (sym (reaches_are u v c r.0) ∙ r.2))
          (λ q. let r = some_at _ _ q in some_one _ x.distances r.0 r.1 (reaches_are u v c r.0 ∙ r.2))

  -- ---- every tile of the box exists, and is its own number
  exists_all : (u : ℕ) → u < box_tiles x → exists x u ≡ true
  exists_all = unbounded_exists x ok.long ok.tiled none

  counts : (u : ℕ) → u ≤ box_tiles x → length (keep (exists x) u) ≡ u
  counts u h = ap length (all_kept (exists x) u (λ i l. exists_all i (omega arith))) ∙ length_tabulate (λ i. i) u

  tiles_are : tiles x ≡ box_tiles x
  tiles_are = unbounded_tiles x ok.long ok.tiled none

  pub box_tile_is : (t : ℕ) → box_tile x t ≡ t
  box_tile_is t = go (dec_lt t (box_tiles x))
    where
      go : Dec (t < box_tiles x) → box_tile x t ≡ t
      go (yes h) = ap (box_tile x) (sym (counts t (omega arith))) ∙ box_tile_number x t h (exists_all t h)
      go (no h) = box_tile_beyond x t (omega (arith, tiles_are))

  tile_of_are : (c : ℕ) → tile_of x c ≡ box_tile_of x c
  unfolding tile_of
  tile_of_are c = counts (box_tile_of x c) (omega (arith, box_tile_of_low x ok c))

  -- ---- messages: an empty slot is none, and of any other the taker is u plus v
  taker_is : (u v c : ℕ) → In c (shaped_parcel x u v) → shaped_taker x u v ≡ taker x u v
  taker_is u v c i =
      let g = parcel_crossed x u v c i in
      taker_counts x ok u v c g.0 g.1 ∙ counts (taker x u v) (omega (arith, taker_low x ok u v c g.0 g.1.held))

  module _ (t v : ℕ) where
    abbrev home : ℕ → Bool
    home to = eqb (processor_of x t) (processor_of x to)

    empty : (b : Bool) → ◌≡◌ {A = ℕ} (length (pick {A = List ℕ} b [] [])) 0
    unfolding pick
    empty true = refl
    empty false = refl

    either_slot : (cs : List ℕ) → shaped_parcel x t v ≡ cs
        → ((length (pick (home (box_tile x (shaped_taker x t v))) [] (shaped_parcel x t v)) ≡ 0)
        × (length (pick (home (taker x t v)) [] (parcel x t v)) ≡ 0))
        ⊎ (◌≡◌ {A = Message}
        (record { sender = t; taker = shaped_taker x t v; cells = pick (home (box_tile x (shaped_taker x t v))) [] (shaped_parcel x t v) })
        (record { sender = t; taker = taker x t v; cells = pick (home (taker x t v)) [] (parcel x t v) }))
    either_slot [] e = inl (rw e (empty _), rw (sym (shaped_parcel_is t v) ∙ e) (empty _))
    either_slot (c ∷ cs) e =
        let to : shaped_taker x t v ≡ taker x t v = taker_is t v c (rw e (inl refl)) in
        inr (rw (box_tile_is (shaped_taker x t v), to, shaped_parcel_is t v) refl)

  slot_is : (s : ℕ)
      → ((length (shaped_message x s).cells ≡ 0) × (length (slot_message Direct x s).cells ≡ 0))
      ⊎ (shaped_message x s ≡ slot_message Direct x s)
  unfolding shaped_slot_taker shaped_home shaped_slot_parcel slot_cells slot_taker at_home slot_parcel
  slot_is s = rw (box_tile_is (slot_tile Direct x s)) (either_slot (slot_tile Direct x s) (slot_direction x s) _ refl)

  messages_are : messages_of (shaped_message x) (shaped_slots x) ≡ messages Direct x
  unfolding messages_to
  messages_are =
      ap (λ (n : ℕ). messages_of (shaped_message x) (n * directions x)) tiles_are
      ∙ messages_same (shaped_message x) (slot_message Direct x) (slots Direct x) (λ s h. slot_is s)

  -- ---- all of it
  abbrev with : (ℕ → Bool) → ℕ → (ℕ → ℕ) → (ℕ → List ℕ) → (ℕ → ℕ) → List Message → (ℕ → List ℕ)
      → (List ℕ → List ℕ → ℕ → ℕ) → Plan
  with i n of cs p ms rs f =
      record {
        cells = cells x;
        inside = i;
        boundary = x.boundary;
        tiles = n;
        processors = processors x;
        tile_of = of;
        cells_of = cs;
        processor_of = p;
        messages = ms;
        reads_of = rs;
        value = f;
      }

  abbrev cs : ℕ → List ℕ
  cs t = shaped_cells x (box_tile x t)

  abbrev ps : ℕ → ℕ
  ps t = processor_of x (box_tile x t)

  abbrev ms : List Message
  ms = messages_of (shaped_message x) (shaped_slots x)

  abbrev all : ℕ → Bool
  all c = true

  -- one field after the other
  direct : plan_of Direct x ≡ box_plan Direct x
  direct =
      ap (λ (i : ℕ → Bool). with i (tiles x) (tile_of x) cs ps ms (shaped_reads x) (shaped_value x)) (fun_ext all_inside)
      ∙ ap (λ (n : ℕ). with all n (tile_of x) cs ps ms (shaped_reads x) (shaped_value x)) tiles_are
      ∙ ap (λ (f : ℕ → ℕ). with all (box_tiles x) f cs ps ms (shaped_reads x) (shaped_value x)) (fun_ext tile_of_are)
      ∙ ap (λ (f : ℕ → List ℕ). with all (box_tiles x) (box_tile_of x) f ps ms (shaped_reads x) (shaped_value x))
      (fun_ext (λ t. shaped_cells_are (box_tile x t) ∙ ap (cells_of x) (box_tile_is t)))
      ∙ ap (λ (f : ℕ → ℕ). with all (box_tiles x) (box_tile_of x) (cells_of x) f ms (shaped_reads x) (shaped_value x))
      (fun_ext (λ t. ap (processor_of x) (box_tile_is t)))
      ∙ ap (λ (l : List Message). with all (box_tiles x) (box_tile_of x) (cells_of x) (processor_of x) l (shaped_reads x) (shaped_value x)) messages_are
      ∙ ap (λ (f : ℕ → List ℕ). with all (box_tiles x) (box_tile_of x) (cells_of x) (processor_of x) (messages Direct x) f (shaped_value x))
      (fun_ext shaped_reads_are)
      ∙ ap (λ (f : List ℕ → List ℕ → ℕ → ℕ). with all (box_tiles x) (box_tile_of x) (cells_of x) (processor_of x) (messages Direct x) (reads_of x) f)
      (fun_ext (λ source. fun_ext (λ memory. fun_ext (λ c. shaped_value_is source memory c))))

pub plan_of_box : (r : Route) (x : Nest) → Accepted x → x.bounds ≡ 0 → plan_of r x ≡ box_plan r x
plan_of_box Direct x ok none = direct x ok none
plan_of_box Indirect x ok none = refl

-- bytes that are written out and have no bounds: the plan of their nest is the box's
pub recipe_box : (bytes : List ℕ) (x : Nest) → small bytes ≡ true → first_of (read_lines bytes) ≡ 0 → nest_of bytes ≡ x → x.bounds ≡ 0
    → plan_of Direct (nest_of bytes) ≡ box_plan Direct x
recipe_box bytes x bytes_small number is none =
    plan_of_box Direct (nest_of bytes) (accepted bytes (small_bytes bytes bytes_small) number) (ap (λ (y : Nest). y.bounds) is ∙ none)
    ∙ ap (box_plan Direct) is
