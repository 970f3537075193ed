-- `writer::write_nest` meets its contract: one law for each return.
use mathlib.Core.Path.{refl, sym, ◌∙◌}
use native.Mathlib.Omega.{arith}
use Rattle.nest.proofs.Answers.{refused_read}
use Rattle.writer.proofs.Calls as W
use Rattle.writer.proofs.write_nest.Goals as goal

pub returns-then-not-is_writable : goal.returns-then-not-is_writable
returns-then-not-is_writable c = W.not_writable _ _ (sym c.is_writable.ensures ∙ c.if-not-is_writable.true)

pub overflow_add-length : goal.overflow_add-length
overflow_add-length c = let f = W.writable_few _ (sym c.is_writable.ensures ∙ c.if-not-is_writable.false) in omega (arith, f.0, f.1, f.2)

pub overflow_add-length-2 : goal.overflow_add-length-2
overflow_add-length-2 c = let f = W.writable_few _ (sym c.is_writable.ensures ∙ c.if-not-is_writable.false) in omega (arith, f.0, f.1, f.2)

pub overflow_add-length-3 : goal.overflow_add-length-3
overflow_add-length-3 c = let f = W.writable_few _ (sym c.is_writable.ensures ∙ c.if-not-is_writable.false) in omega (arith, f.0, f.1, f.2)

pub overflow_mul-length : goal.overflow_mul-length
overflow_mul-length c = let f = W.writable_few _ (sym c.is_writable.ensures ∙ c.if-not-is_writable.false) in omega (arith, f.0, f.1, f.2)

pub slice_bounds-bytes-end : goal.slice_bounds-bytes-end
slice_bounds-bytes-end c = let f = W.writable_few _ (sym c.is_writable.ensures ∙ c.if-not-is_writable.false) in omega (arith, f.0, f.1, f.2)

pub slice_bounds-read-end : goal.slice_bounds-read-end
slice_bounds-read-end c = omega (arith, W.part_long _ c.args.space.now (sym c.is_writable.ensures ∙ c.if-not-is_writable.false) _ _ refl c.bytes_of-bytes.ensures)

pub slice_bounds-bytes-end-2 : goal.slice_bounds-bytes-end-2
slice_bounds-bytes-end-2 c = let f = W.writable_few _ (sym c.is_writable.ensures ∙ c.if-not-is_writable.false) in omega (arith, f.0, f.1, f.2)

pub slice_bounds-copy_from_slice-end : goal.slice_bounds-copy_from_slice-end
slice_bounds-copy_from_slice-end c = omega (arith, W.part_long _ c.args.space.now (sym c.is_writable.ensures ∙ c.if-not-is_writable.false) _ _ refl c.bytes_of-bytes.ensures)

pub bytes_of-bytes-requires : goal.bytes_of-bytes-requires
bytes_of-bytes-requires c = let f = W.writable_few _ (sym c.is_writable.ensures ∙ c.if-not-is_writable.false) in ((f.0, f.2), f.1)

pub returns-in-Err : goal.returns-in-Err
returns-in-Err c =
    W.refused_by _ _ (sym c.is_writable.ensures ∙ c.if-not-is_writable.false) _ _ refl c.bytes_of-bytes.ensures _ c.in-Err.ensures.number
    (λ z. refused_read c.in-Err.ensures (sym c.in-Err.ensures.number ∙ z))

pub returns-then-space-length : goal.returns-then-space-length
returns-then-space-length c =
    W.no_room _ _ (sym c.is_writable.ensures ∙ c.if-not-is_writable.false) _ _ refl c.bytes_of-bytes.ensures _ c.in-Ok.ensures.number refl c.if-space-length.true

pub copy_from_slice-requires : goal.copy_from_slice-requires
copy_from_slice-requires c =
    c.if-space-length.false ∙ sym (W.part_long _ c.args.space.now (sym c.is_writable.ensures ∙ c.if-not-is_writable.false) _ _ refl c.bytes_of-bytes.ensures)

pub returns : goal.returns
returns c =
    W.recipe_written _ _ (sym c.is_writable.ensures ∙ c.if-not-is_writable.false) _ _ refl c.bytes_of-bytes.ensures _ c.in-Ok.ensures.number refl c.if-space-length.false _
    c.copy_from_slice.ensures.after
