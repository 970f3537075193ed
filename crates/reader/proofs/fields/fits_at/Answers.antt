-- `reader::fields::fits_at` meets its contract: one law for each kind.
use mathlib.Core.Path.{sym}
use mathlib.Core.Logic.{inl, inr}
use native.Mathlib.Omega.{arith}
use Rattle.nest.proofs.Laws as L
use Rattle.reader.proofs.fields.fits_at.Goals as goal

pub returns-in-1 : goal.returns-in-1
returns-in-1 c =
    let A = c.args in
    L.fits_by A.encoded.now A.n A.b A.e A.r _ _ _ (L.dimension_stands A.n A.b A.e A.r _ c.in-1.is)
    (L.checked_plain A.encoded.now A.n A.r _ (inl c.in-1.is)) c.fields_fit_at.ensures

pub returns-in-2 : goal.returns-in-2
returns-in-2 c =
    let A = c.args in
    L.fits_by A.encoded.now A.n A.b A.e A.r _ _ _ (L.distance_stands A.n A.b A.e A.r _ (inl c.in-2.is))
    (L.checked_plain A.encoded.now A.n A.r _ (inr c.in-2.is)) c.fields_fit_at-in-2.ensures

pub returns-in-3 : goal.returns-in-3
returns-in-3 c =
    let A = c.args in
    L.fits_by A.encoded.now A.n A.b A.e A.r _ _ _ (L.close_stands A.n A.b A.e A.r _ c.in-3.is)
    (L.checked_close A.encoded.now A.n A.r _ c.in-3.is) c.close_fits_at.ensures

pub returns-in-4 : goal.returns-in-4
returns-in-4 c =
    let A = c.args in
    L.fits_by A.encoded.now A.n A.b A.e A.r _ _ _ (L.distance_stands A.n A.b A.e A.r _ (inr c.in-4.is))
    (L.checked_wide A.encoded.now A.n A.r _ c.in-4.is) c.fields_fit_at-in-4.ensures

pub returns-in-5 : goal.returns-in-5
returns-in-5 c =
    let A = c.args in
    L.fits_by A.encoded.now A.n A.b A.e A.r _ _ _ (L.bound_stands A.n A.b A.e A.r _ c.in-5.is)
    (L.checked_bound A.encoded.now A.n A.r _ c.in-5.is) c.bound_fits_at.ensures

pub returns-in_default : goal.returns-in_default
returns-in_default c =
    let A = c.args in
    sym (L.fits_no A.encoded.now A.n A.b A.e A.r
    (L.checked_none A.encoded.now A.n A.r _ (omega arith) (omega arith) (omega arith) (omega arith) (omega arith)))
