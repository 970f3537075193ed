-- Reading and writing a recipe by the exported calls: `recipe_calls`.
use Prim.Native.Nat.{ℕ, ◌+◌, ◌≤◌, ◌<◌}
use mathlib.Core.Path.{◌≡◌, refl, sym, ap, ◌∙◌}
use mathlib.Core.Logic.{◌≢◌}
use mathlib.Core.Bool.{true, false}
use mathlib.Core.List.{List}
use lib.ListN.{length}
use lib.Dec.{ltb}
use Rattle.base.specs.Tests.{pick, every}
use Rattle.base.specs.Lists.{Bytes}
use Rattle.base.specs.Numbers.{first_of}
use Rattle.base.proofs.Tests.{and_false}
use Rattle.machine.specs.Machine.{Answered}
use Rattle.machine.proofs.RunLaws.{number_of, after_of}
use Rattle.nest.specs.Nest.{component}
use Rattle.nest.specs.Reader.{kind, nest_of, nest_lines, read_lines}
use Rattle.nest.specs.Encode.{encode}
use Rattle.writer.specs.declared.reading.RecipeFields.{RecipeFields}
use Rattle.writer.specs.Fields.{Fields, agree, nest_from, fields_of, Widths, BoundsWell}
use Rattle.writer.specs.Writing.{write_lines, writing, writable, write_call}
use Rattle.writer.specs.Told.{told_fields, no_fields, fields_if, read_call, taken}
use Rattle.writer.proofs.Demand202.{demand202}
use Rattle.writer.proofs.Told.{reads_back}
use Rattle.engine.specs.Calls.{answer}
use Rattle.engine.specs.Demands.{Fixed}
use Rattle.engine.proofs.Demands as engine
use Rattle.calls.specs.Tells.{Tells}
use Rattle.calls.specs.Gave.{ReadGave, WriteGave}
use Rattle.guarantees.specs.RecipeCalls.{spelled, InRange, WroteFields, RecipeCalls}
use Rattle.calls.proofs.Tells.{tells_by}
use Rattle.guarantees.proofs.OverRecords.{fixed_as}

read_tells : (bytes : List ℕ) (r : RecipeFields) → ReadGave bytes r
    → Tells (λ t. t.number) (read_lines bytes) (told_fields (fields_of (nest_of bytes))) no_fields r
unfolding read_call fields_if
read_tells bytes r e =
    tells_by (λ (t : RecipeFields). t.number) (λ n. fields_if n (fields_of (nest_of bytes))) (told_fields (fields_of (nest_of bytes))) no_fields refl (λ n. refl)
    refl (λ n. refl) (read_lines bytes) r e

module _ (v : Fields) (old : List ℕ) (n : ℕ) (space : List ℕ) (g : WriteGave v old n space) where
  abbrev e : answer n space ≡ write_call v old
  e = g.gave

  abbrev w : Widths v
  w = g.typed

  fixed : Fixed (answer n space) (write_lines (writable v) (spelled v) (length old)) (spelled v) old
  unfolding write_call writing
  fixed = fixed_as e (engine.fixed _ _ old)

  cannot : agree v ≡ false → writable v ≡ false
  unfolding writable
  cannot h = and_false _ _ h

  in_range : (2 ≤ length v.lengths) × (length v.lengths ≤ 4) × (1 ≤ length v.weights) × (length v.weights ≤ 8) × (length v.sides ≤ 4)
      × (v.shift < 32) × BoundsWell v → InRange v
  in_range (a, b, c, d, f, h, k) = record { dimensions = (a, b); distances = (c, d); bounds = (f, k); shift = h }

  number : agree v ≡ true → first_of (read_lines (spelled v)) ≢ 0 → n ≡ first_of (read_lines (spelled v))
  number h k = number_of (e ∙ demand202.from_fields.number v old (demand202.all_held v h w) k)

  told : agree v ≡ true → InRange v → first_of (nest_lines false (nest_from v)) ≢ 0 → n ≡ first_of (nest_lines false (nest_from v))
  told h r k =
      let q = demand202.told v (demand202.all_held v h w) r.dimensions.0 r.distances.0 r.shift r.bounds.1 in
      number h (λ z. k (sym q ∙ z)) ∙ q

  picks : n ≡ 0 → (i : ℕ) → i < length v.weights
      → kind space (length v.lengths + length v.sides + i) ≡ pick (every (λ j. ltb (component (nest_from v) i j) 256) 4) 2 4
  unfolding nest_from
  picks z i h =
      ap (λ (l : List ℕ). kind l (length v.lengths + length v.sides + i)) (fixed.works z) ∙ demand202.picks (nest_from v) i h

  wrote : WroteFields v old n space
  wrote =
      record {
        fixed = fixed;
        two = λ h. number_of (e ∙ demand202.from_fields.two v old (cannot h));
        stray = λ h. number_of (e ∙ demand202.stray v old (λ r. h (in_range r)));
        number = number;
        holds = λ h. demand202.from_fields.holds v w (demand202.all_held v h w);
        told = told;
        picks = picks;
        nine = λ h k l. number_of (e ∙ demand202.from_fields.nine v old (demand202.all_held v h w) k l);
        produces = λ h k l.
            let q = e ∙ demand202.from_fields.produces v old (demand202.all_held v h w) k l in
            (number_of q, after_of q);
        read_back = λ z.
            let q = demand202.from_fields.read_back v old w (sym (number_of e) ∙ z) in
            (ap (λ (s : List ℕ). first_of (read_lines s)) (after_of e) ∙ q.0, ap (λ (s : List ℕ). fields_of (nest_of s)) (after_of e) ∙ q.1);
      }

again : (bytes : List ℕ) (r : RecipeFields) (old : List ℕ) (n : ℕ) (space : List ℕ) → Bytes bytes → ReadGave bytes r → r.number ≡ 0
    → WriteGave (taken r) old n space → length old ≡ length bytes → (n ≡ 0) × (space ≡ bytes)
again bytes r old n space small e z g l =
    let none = sym (reads_back.number bytes) ∙ ap (λ (t : RecipeFields). t.number) (sym e) ∙ z in
    let q = g.gave ∙ ap (λ (t : RecipeFields). write_call (taken t) old) e ∙ reads_back.rebuilt bytes old small none l in
    (number_of q, after_of q)

pub recipe_calls : RecipeCalls
recipe_calls = record { read = read_tells; write = wrote; rebuilt = again }
