-- What W-202 demands holds: `demand202`.
use Prim.Native.Nat.{ℕ, ◌+◌, ◌%◌, ◌≤◌, ◌<◌}
use mathlib.Core.Path.{◌≡◌, refl, sym, ap, ◌∙◌}
use mathlib.Core.Bool.{Bool, true, false}
use mathlib.Core.List.{List}
use native.Mathlib.Omega.{arith}
use lib.ListN.{length, get_or}
use Rattle.base.specs.Lists.{Bytes}
use Rattle.base.specs.Numbers.{first_of}
use Rattle.base.proofs.Tests.{both, and_true}
use Rattle.nest.specs.declared.Nest.{Nest}
use Rattle.nest.specs.Reader.{nest_of, read_lines, nest_lines}
use Rattle.nest.specs.Encode.{narrow, encode}
use Rattle.nest.proofs.Laws.{filled_in}
use Rattle.writer.specs.Fields.{Fields, agree, nest_from, fields_of, Widths, BoundsWell}
use Rattle.writer.specs.Writing.{written, writing, nest_writable, writable, write_nest_call, write_call}
use Rattle.writer.specs.Demand202.{Writes, Tables, Demand202}
use Rattle.writer.proofs.Fitting.{Fits, writable_fits, fits_writable, read_fits}
use Rattle.writer.proofs.Rebuilt.{rebuilt}
use Rattle.writer.proofs.ReadBack.{BoundsIn, picks, read_back, read_two, read_lines_lem}
use Rattle.writer.proofs.Calls.{two, number, nine, produces, untouched, was_done}
use Rattle.writer.proofs.FromFields.{tables, there_and_back, fields_agree, back_and_there, fields_fit}

-- ---- the record, for any values whose bytes hold them and any recipe that is rebuilt

module _ {A : Type 0} (can : A → Bool) (spelled : A → List ℕ) (seen : List ℕ → A) (Typed : A → Type 0)
    (holds : (v : A) → Typed v → can v ≡ true → seen (spelled v) ≡ v)
    (held : (b : List ℕ) → Bytes b → first_of (read_lines b) ≡ 0 → can (seen b) ≡ true)
    (back : (b : List ℕ) → Bytes b → first_of (read_lines b) ≡ 0 → spelled (seen b) ≡ b) where
  again : (b space : List ℕ) → Bytes b → first_of (read_lines b) ≡ 0 → length space ≡ length b
      → writing (can (seen b)) (spelled (seen b)) space ≡ written 0 b
  again b space bytes h l =
      let e = back b bytes h in
      produces (can (seen b)) (spelled (seen b)) space (held b bytes h) (ap (λ (c : List ℕ). first_of (read_lines c)) e ∙ h)
      (l ∙ ap length (sym e)) ∙ ap (written 0) e

  reads : (v : A) (space : List ℕ) → Typed v → (writing (can v) (spelled v) space).number ≡ 0
      → (first_of (read_lines (writing (can v) (spelled v) space).after) ≡ 0) × (seen (writing (can v) (spelled v) space).after ≡ v)
  reads v space t h =
      let d = was_done (can v) (spelled v) space h in
      (ap (λ (c : List ℕ). first_of (read_lines c)) d.after ∙ d.accepted, ap seen d.after ∙ holds v t d.can_be)

  pub writes : Writes (λ (v : A) (space : List ℕ). writing (can v) (spelled v) space) can spelled seen Typed
  writes =
      record {
        produces = λ v space. produces (can v) (spelled v) space;
        number = λ v space. number (can v) (spelled v) space;
        holds = holds;
        nine = λ v space. nine (can v) (spelled v) space;
        two = λ v space. two (can v) (spelled v) space;
        rebuilt = again;
        read_back = reads;
        refuses = λ v space. untouched (can v) (spelled v) space;
      }

-- ---- from a nest

nest_holds : (x : Nest) → Tables x → nest_writable x ≡ true → nest_of (encode x) ≡ x
nest_holds x t h = read_back x (writable_fits x t h)

nest_held : (b : List ℕ) → Bytes b → first_of (read_lines b) ≡ 0 → nest_writable (nest_of b) ≡ true
nest_held b bytes h = fits_writable (nest_of b) (read_fits b bytes h)

nest_writes : Writes write_nest_call nest_writable encode nest_of Tables
unfolding write_nest_call
nest_writes = writes nest_writable encode nest_of Tables nest_holds nest_held rebuilt

-- ---- from fields

sizes_are : (v : Fields)
    → ((nest_from v).dimensions ≡ length v.lengths) × ((nest_from v).distances ≡ length v.weights) × ((nest_from v).shift ≡ v.shift)
    × ((nest_from v).bounds ≡ length v.sides)
unfolding nest_from
sizes_are v = (refl, refl, refl, refl)

-- the bounds of the nest are those of the fields
module _ (v : Fields) (few : length v.sides ≤ 4) where
  to_nest : BoundsWell v → BoundsIn (nest_from v)
  unfolding nest_from
  to_nest w k h =
      let q = w k h in (
        omega (arith, q.0, filled_in 4 (λ i. get_or v.sides i 0) _ k h few),
        omega (arith, q.1, filled_in 4 (λ i. get_or v.bounded i 0) _ k h few),
        omega (arith, q.2, filled_in 4 (λ i. get_or v.earlier i 0) _ k h few, filled_in 4 (λ i. get_or v.bounded i 0) _ k h few),
        omega (arith, q.3, filled_in 4 (λ i. (get_or v.slopes i 0 + 1) % 256) _ k h few),
      )

  from_nest : BoundsIn (nest_from v) → BoundsWell v
  unfolding nest_from
  from_nest w k h =
      let q = w k h in (
        omega (arith, q.0, filled_in 4 (λ i. get_or v.sides i 0) _ k h few),
        omega (arith, q.1, filled_in 4 (λ i. get_or v.bounded i 0) _ k h few),
        omega (arith, q.2, filled_in 4 (λ i. get_or v.earlier i 0) _ k h few, filled_in 4 (λ i. get_or v.bounded i 0) _ k h few),
        omega (arith, q.3, filled_in 4 (λ i. (get_or v.slopes i 0 + 1) % 256) _ k h few),
      )

module _ (v : Fields) (h : writable v ≡ true) where
  agrees : agree v ≡ true
  unfolding writable
  agrees = (both h).0

  nest_can : nest_writable (nest_from v) ≡ true
  unfolding writable
  nest_can = (both h).1

  fitting : Fits (nest_from v)
  fitting = writable_fits (nest_from v) (tables v) nest_can

  fields_hold : Widths v → fields_of (nest_of (encode (nest_from v))) ≡ v
  fields_hold w = ap fields_of (read_back (nest_from v) fitting) ∙ there_and_back v agrees w

  few_bounds : length v.sides ≤ 4
  few_bounds = rw (sizes_are v).3 at fitting.bounds

  told : 2 ≤ length v.lengths → 1 ≤ length v.weights → v.shift < 32 → BoundsWell v
      → first_of (read_lines (encode (nest_from v))) ≡ first_of (nest_lines false (nest_from v))
  told a b c d = read_lines_lem (nest_from v) fitting (rw (sizes_are v).0 a) (rw (sizes_are v).1 b) (rw (sizes_are v).2 c) (to_nest v few_bounds d)

same_recipe : (b : List ℕ) → Bytes b → first_of (read_lines b) ≡ 0 → nest_from (fields_of (nest_of b)) ≡ nest_of b
same_recipe b bytes h = back_and_there (nest_of b) (read_fits b bytes h)

fields_held : (b : List ℕ) → Bytes b → first_of (read_lines b) ≡ 0 → writable (fields_of (nest_of b)) ≡ true
unfolding writable
fields_held b bytes h =
    and_true (fields_agree (nest_of b) (read_fits b bytes h)) (ap nest_writable (same_recipe b bytes h) ∙ nest_held b bytes h)

fields_writes : Writes write_call writable (λ v. encode (nest_from v)) (λ b. fields_of (nest_of b)) Widths
unfolding write_call
fields_writes =
    writes writable (λ (v : Fields). encode (nest_from v)) (λ (b : List ℕ). fields_of (nest_of b)) Widths
    (λ v t h. fields_hold v h t) fields_held
    (λ b bytes h. ap encode (same_recipe b bytes h) ∙ rebuilt b bytes h)

all_held : (v : Fields) → agree v ≡ true → Widths v → writable v ≡ true
unfolding writable
all_held v h w = and_true h (fits_writable (nest_from v) (fields_fit v h w))

-- the reader gives 2, or the fields are not writable
stray : (v : Fields) (space : List ℕ)
    → ((2 ≤ length v.lengths) × (length v.lengths ≤ 4) × (1 ≤ length v.weights) × (length v.weights ≤ 8)
    × (length v.sides ≤ 4) × (v.shift < 32) × BoundsWell v → ⊥)
    → write_call v space ≡ written 2 space
unfolding write_call
stray v space h = go (writable v) refl
  where
    reader : writable v ≡ true → first_of (read_lines (encode (nest_from v))) ≡ 2
    reader w =
        read_two (nest_from v) (fitting v w)
        (λ a b c d o s q. let f = (fitting v w).shift in let z : v.shift < 32 = omega (arith, s, f, (sizes_are v).2) in
        h (
          rw (sizes_are v).0 at a,
          rw (sizes_are v).0 at b,
          rw (sizes_are v).1 at c,
          rw (sizes_are v).1 at d,
          few_bounds v w,
          z,
          from_nest v (few_bounds v w) q,
        ))

    go : (t : Bool) → writable v ≡ t → writing (writable v) (encode (nest_from v)) space ≡ written 2 space
    go true e =
        number (writable v) (encode (nest_from v)) space e (λ z. omega (arith, z, reader e)) ∙ ap (λ (n : ℕ). written n space) (reader e)
    go false e = two (writable v) (encode (nest_from v)) space e

pub demand202 : Demand202
unfolding narrow
demand202 = record { from_fields = fields_writes; from_nest = nest_writes; all_held = all_held; stray = stray; told = told; picks = picks }
