-- The slots of the table, box or shape: what each holds, and that a message found among them is found in the plan.
use Prim.Native.Nat.{ℕ, ◌*◌}
use mathlib.Core.Path.{◌≡◌, refl, ap, ◌∙◌, sym}
use mathlib.Core.Logic.{◌≢◌}
use mathlib.Core.List.{List}
use native.Mathlib.Decide.{ℕ_discrete}
use native.Mathlib.Omega.{arith}
use Rattle.machine.specs.Plan.{Plan, Message}
use Rattle.nest.specs.declared.Nest.{Nest}
use Rattle.nest.specs.Shape.{tiles}
use Rattle.plan.specs.declared.Route.{Route}
use Rattle.plan.specs.declared.Route.TheVariants.{Direct}
use Rattle.plan.specs.Messages.{slots, slot_message, messages_of, messages_to, box_plan}
use Rattle.plan.specs.Shaped.{shaped_message, shaped_slots, plan_of}
use Rattle.plan.proofs.ShapedBox.{plan_of_box}
use Rattle.layout.specs.declared.Sizes.{Sizes}
use Rattle.layout.specs.Sizes.{Sized}
use Rattle.tables.specs.declared.scans.MessageSlot.{MessageSlot}
use Rattle.tables.specs.scans.Scans.{Sheet, Lengths, Found}
use Rattle.tables.proofs.boxes.Scans as boxes
use Rattle.tables.proofs.shaped_table.Laws as shapes
use Rattle.tables.specs.Tables.{Tabled, FoundIn}
use Rattle.tables.proofs.Laws as L

pub record Slotted (r : Route) (x : Nest) (lens : List ℕ) (n : ℕ) : Type 0 where
  pub slot : ℕ → Message
  pub sheet : Sheet lens n
  pub lengths : Lengths slot n lens
  pub all : (plan_of r x).messages ≡ messages_of slot n
  pub found : (m : ℕ) (p : MessageSlot) → Found slot n m p → FoundIn r x m p

module _ (x : Nest) (z : Sizes) (s : Sized x z) (lens : List ℕ) (t : Tabled x z lens) (k : ℕ) (is : k ≡ (plan_of z.route x).tiles) where
  module _ (e : x.bounds ≡ 0) where
    abbrev r : Route
    r = z.route

    slots_are : k * z.ways ≡ slots r x
    slots_are = rw (is ∙ ap (λ (p : Plan). p.tiles) (plan_of_box r x s.accepted e), s.ways) refl

    all_are : (box_plan r x).messages ≡ messages_of (slot_message r x) (slots r x)
    unfolding messages_to
    all_are = refl

    box_slotted : Slotted r x lens (k * z.ways)
    box_slotted =
        let b = t.box e in
        rw slots_are (record {
          slot = slot_message r x;
          sheet = boxes.sheet r x s.accepted lens b (slots r x) (omega arith);
          lengths = boxes.lengths r x s.accepted lens b;
          all = ap (λ (p : Plan). p.messages) (plan_of_box r x s.accepted e) ∙ all_are;
          found = λ m p f. L.box_found x s.accepted r e m m p refl (boxes.found r x m p f);
        })

  module _ (n : x.bounds ≢ 0) where
    direct : z.route ≡ Direct
    direct = t.routed n

    tiles_are : k ≡ tiles x
    tiles_are = is ∙ ap (λ (q : Route). (plan_of q x).tiles) direct

    shape_slots : k * z.ways ≡ shaped_slots x
    shape_slots = L.slots_are x s.accepted z.route n direct k z.ways tiles_are s.ways

    of_shape : Lengths (shaped_message x) (k * z.ways) lens
    of_shape = shapes.lengths x s.accepted lens (t.shape n) (k * z.ways) (omega (arith, shape_slots))

    shape_all : (plan_of z.route x).messages ≡ messages_of (shaped_message x) (k * z.ways)
    shape_all = ap (λ (q : Route). (plan_of q x).messages) direct ∙ ap (messages_of (shaped_message x)) (sym shape_slots)

    shape_slotted : Slotted z.route x lens (k * z.ways)
    shape_slotted =
        record {
          slot = shaped_message x;
          sheet = shapes.sheet x s.accepted lens (t.shape n) (k * z.ways) (omega (arith, shape_slots));
          lengths = of_shape;
          all = shape_all;
          found = λ m p f. L.shape_made x s.accepted z.route n direct k z.ways tiles_are s.ways m p f;
        }

  pub slotted : Slotted z.route x lens (k * z.ways)
  slotted = go (ℕ_discrete x.bounds 0)
    where
      go : Dec (x.bounds ≡ 0) → Slotted z.route x lens (k * z.ways)
      go (yes e) = box_slotted e
      go (no n) = shape_slotted n
