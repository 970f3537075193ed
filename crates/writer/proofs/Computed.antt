-- Rows A and D of document 01 and a channel with a far reach written from their values, computed; and wrong answers that are ruled out.
use Prim.Native.Nat.{ℕ}
use mathlib.Core.Path.{◌≡◌, refl, sym, ap, ◌∙◌}
use mathlib.Core.Bool.{true}
use mathlib.Core.List.{List, [], ◌∷◌, ◌++◌}
use native.Mathlib.Omega.{arith}
use lib.ListN.{length, get_or, replicate}
use Rattle.base.specs.Tests.{◌and◌, not, pick, every, keep, tabulate}
use Rattle.base.specs.Numbers.{first_of}
use Rattle.nest.specs.Reader.{filled, read_lines}
use Rattle.nest.specs.Encode.{dimension_record, narrow_record, wide_record, bound_record, close_record, dimension_of, bound_of, narrow, distance_of, joined, encode}
use Rattle.nest.specs.Recipes.{dimension, bound, distance, close, row_a, row_d}
use Rattle.nest.proofs.Quick.{told}
use Rattle.nest.proofs.RowNumbers.{numbers, far, channel, far_told}
use Rattle.nest.proofs.ShapeRows.{square, least, bounds_told}
use Rattle.writer.specs.Fields.{Fields, fields, counted, bounds, agree, nest_from}
use Rattle.writer.specs.Writing.{written, fits_in, fits, bounds_fit, nest_writable, writable, write_lines, writing, write_call}
use Rattle.writer.proofs.Calls.{number, produces, nine}

abbrev fields_a : Fields
fields_a = fields (8 ∷ 8 ∷ []) (2 ∷ 2 ∷ []) (2 ∷ 0 ∷ []) (1 ∷ 0 ∷ 0 ∷ 0 ∷ 0 ∷ 1 ∷ 0 ∷ 0 ∷ 1 ∷ 1 ∷ 0 ∷ 0 ∷ []) (1 ∷ 1 ∷ 1 ∷ []) [] [] [] [] [] 0 0

-- row D, where d is 1
abbrev fields_d : ℕ → Fields
fields_d d = fields (4 ∷ 1 ∷ []) (2 ∷ 1 ∷ []) (2 ∷ 0 ∷ []) (d ∷ 0 ∷ 0 ∷ 0 ∷ []) (1 ∷ []) [] [] [] [] [] 0 0

-- a distance of each kind
abbrev fields_far : Fields
fields_far = fields (600 ∷ 1 ∷ []) (400 ∷ 2 ∷ []) (2 ∷ 0 ∷ []) (1 ∷ 0 ∷ 0 ∷ 0 ∷ 300 ∷ 1 ∷ 0 ∷ 0 ∷ []) (1 ∷ 1 ∷ []) [] [] [] [] [] 0 0

abbrev far_bytes : List ℕ
far_bytes = channel (distance 1 0 0 ++ far 300 1 0)

pub bytes_A : encode (nest_from fields_a) ≡ row_a
unfolding ◌and◌ pick every keep tabulate filled dimension_record narrow_record wide_record bound_record close_record dimension_of bound_of narrow distance_of
    joined encode nest_from
bytes_A = refl

pub bytes_D : encode (nest_from (fields_d 1)) ≡ row_d
unfolding ◌and◌ pick every keep tabulate filled dimension_record narrow_record wide_record bound_record close_record dimension_of bound_of narrow distance_of
    joined encode nest_from
bytes_D = refl

pub bytes_far : encode (nest_from fields_far) ≡ far_bytes
unfolding ◌and◌ pick every keep tabulate filled dimension_record narrow_record wide_record bound_record close_record dimension_of bound_of narrow distance_of
    joined encode nest_from
bytes_far = refl

-- row D with 257 for 1, whose low byte is 1
pub bytes_257 : encode (nest_from (fields_d 257)) ≡ dimension 4 2 2 ++ dimension 1 1 0 ++ far 257 0 0 ++ close
unfolding ◌and◌ pick every keep tabulate filled dimension_record narrow_record wide_record bound_record close_record dimension_of bound_of narrow distance_of
    joined encode nest_from
bytes_257 = refl

writable_A : writable fields_a ≡ true
unfolding ◌and◌ pick every keep tabulate filled fits_in fits bounds_fit nest_writable counted bounds agree nest_from writable
writable_A = refl

writable_D : writable (fields_d 1) ≡ true
unfolding ◌and◌ pick every keep tabulate filled fits_in fits bounds_fit nest_writable counted bounds agree nest_from writable
writable_D = refl

writable_far : writable fields_far ≡ true
unfolding ◌and◌ pick every keep tabulate filled fits_in fits bounds_fit nest_writable counted bounds agree nest_from writable
writable_far = refl

writable_257 : writable (fields_d 257) ≡ true
unfolding ◌and◌ pick every keep tabulate filled fits_in fits bounds_fit nest_writable counted bounds agree nest_from writable
writable_257 = refl

accepted_A : first_of (read_lines row_a) ≡ 0
unfolding told
accepted_A = ap (λ (l : List ℕ). get_or l 0 1) numbers

accepted_D : first_of (read_lines row_d) ≡ 0
unfolding told
accepted_D = ap (λ (l : List ℕ). get_or l 3 1) numbers

pub row_A : write_call fields_a (replicate 96 7) ≡ written 0 row_a
unfolding write_call
row_A =
    produces (writable fields_a) (encode (nest_from fields_a)) (replicate 96 7) writable_A
    (ap (λ (b : List ℕ). first_of (read_lines b)) bytes_A ∙ accepted_A)
    (ap length (sym bytes_A)) ∙ ap (written 0) bytes_A

pub row_D : write_call (fields_d 1) (replicate 64 7) ≡ written 0 row_d
unfolding write_call
row_D =
    produces (writable (fields_d 1)) (encode (nest_from (fields_d 1))) (replicate 64 7) writable_D
    (ap (λ (b : List ℕ). first_of (read_lines b)) bytes_D ∙ accepted_D)
    (ap length (sym bytes_D)) ∙ ap (written 0) bytes_D

pub row_far : write_call fields_far (replicate 80 7) ≡ written 0 far_bytes
unfolding write_call told
row_far =
    produces (writable fields_far) (encode (nest_from fields_far)) (replicate 80 7) writable_far
    (ap (λ (b : List ℕ). first_of (read_lines b)) bytes_far ∙ ap (λ (l : List ℕ). get_or l 1 1) far_told)
    (ap length (sym bytes_far)) ∙ ap (written 0) bytes_far

-- ruled out: row D for a component of 257; its tile of 2 is too short
pub long_D : write_call (fields_d 257) (replicate 64 7) ≡ written 6 (replicate 64 7)
unfolding write_call told
long_D =
    let six : first_of (read_lines (encode (nest_from (fields_d 257)))) ≡ 6 =
    ap (λ (b : List ℕ). first_of (read_lines b)) bytes_257 ∙ ap (λ (l : List ℕ). get_or l 10 1) far_told in
    number (writable (fields_d 257)) (encode (nest_from (fields_d 257))) (replicate 64 7) writable_257 (λ z. omega (arith, six, z))
    ∙ ap (λ (n : ℕ). written n (replicate 64 7)) six

-- ruled out: 0 and row D at the front of a space that is one byte longer
pub longer_D : write_call (fields_d 1) (replicate 65 7) ≡ written 9 (replicate 65 7)
unfolding write_call
longer_D =
    nine (writable (fields_d 1)) (encode (nest_from (fields_d 1))) (replicate 65 7) writable_D
    (ap (λ (b : List ℕ). first_of (read_lines b)) bytes_D ∙ accepted_D)
    (λ e. let w : ◌≡◌ {A = ℕ} 65 64 = e ∙ ap length bytes_D in omega (arith, w))

-- ruled out: row D for a component of 65,537, whose low bytes are row D's; and row D where a dimension's tile length is missing
pub others : (write_call (fields_d 65537) (replicate 64 7)).number
    ∷ (write_call (fields (4 ∷ 1 ∷ []) (2 ∷ []) (2 ∷ 0 ∷ []) (1 ∷ 0 ∷ 0 ∷ 0 ∷ []) (1 ∷ []) [] [] [] [] [] 0 0) (replicate 64 7)).number ∷ []
    ≡ 2 ∷ 2 ∷ []
unfolding first_of ◌and◌ not pick every keep tabulate filled fits_in fits bounds_fit nest_writable counted bounds agree nest_from writable write_lines
    writing write_call
others = refl

-- ---- a bound: the triangle of four by four cells, with slope 1 and offset 0, and its mirror with slope −1 and offset −2

abbrev fields_bound : ℕ → ℕ → Fields
fields_bound slope offset =
    fields (4 ∷ 4 ∷ []) (2 ∷ 2 ∷ []) (2 ∷ 0 ∷ []) (1 ∷ 0 ∷ 0 ∷ 0 ∷ []) (1 ∷ []) (0 ∷ []) (1 ∷ []) (0 ∷ []) (slope ∷ []) (offset ∷ []) 0 0

pub bytes_bound : (encode (nest_from (fields_bound 1 0)) ≡ square least) × (encode (nest_from (fields_bound 255 65534)) ≡ square (bound 0 1 0 255 254 255))
unfolding ◌and◌ pick every keep tabulate filled dimension_record narrow_record wide_record bound_record close_record dimension_of bound_of narrow distance_of
    joined encode nest_from
bytes_bound = (refl, refl)

writable_bound : writable (fields_bound 1 0) ≡ true
unfolding ◌and◌ pick every keep tabulate filled fits_in fits bounds_fit nest_writable counted bounds agree nest_from writable
writable_bound = refl

pub row_bound : write_call (fields_bound 1 0) (replicate 80 7) ≡ written 0 (square least)
unfolding write_call told
row_bound =
    produces (writable (fields_bound 1 0)) (encode (nest_from (fields_bound 1 0))) (replicate 80 7) writable_bound
    (ap (λ (b : List ℕ). first_of (read_lines b)) bytes_bound.0 ∙ ap (λ (l : List ℕ). get_or l 0 1) bounds_told)
    (ap length (sym bytes_bound.0)) ∙ ap (written 0) bytes_bound.0
