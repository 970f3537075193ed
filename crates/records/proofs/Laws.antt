-- What the loop over a slice of records cites: the words of one record more.
use Prim.Native.Nat.{ℕ, ◌+◌, ◌*◌, ◌≤◌, ◌<◌}
use mathlib.Core.Path.{◌≡◌, sym, ap}
use mathlib.Core.List.{List, [], ◌∷◌}
use native.Mathlib.Numerals.{add-one}
use lib.ListN.{length, get_or, set, drop, drop_of_length-le}
use lib.Seq.{drop-cons}
use borrow.Author.Tests.{lt-ltb}
use Rattle.base.specs.Tests.{pick}
use Rattle.records.specs.declared.Progress.{Progress}
use Rattle.records.specs.declared.Flat.{Flat}
use Rattle.records.specs.Records.{zeros, blank, words_at, with_record}

-- what a store of one record's words makes
pub written : (words : List ℕ) (i : ℕ) (r : Progress) → i < 64
    → set (set (set words (3 * i) r.finished) (3 * i + 1) r.stage) (3 * i + 2) r.sent ≡ words_at words i r
unfolding words_at pick
written words i r l = rw (lt-ltb i 64 l)

-- the words of these records written, which are those from number i on
unfoldable pub flat_from : ℕ → List Progress → Flat → Flat
flat_from i [] f = f
flat_from i (r ∷ rs) f = flat_from (i + 1) rs (with_record f i r)

abbrev pub flat_of : List Progress → Flat
flat_of rs = flat_from 0 rs (blank (3 * length rs))

-- one turn of the definition, and its end
pub more_of : (rs : List Progress) (f : Flat) (i : ℕ) → i < length rs
    → flat_from i (drop i rs) f ≡ flat_from (i + 1) (drop (i + 1) rs) (with_record f i (get_or rs i zeros))
unfolding flat_from
more_of rs f i l =
    rw (drop-cons rs i zeros) (ap (λ (k : ℕ). flat_from (i + 1) (drop k rs) (with_record f i (get_or rs i zeros))) (sym (add-one i)))

pub none_of : (rs : List Progress) (f : Flat) (i : ℕ) → length rs ≤ i → flat_from i (drop i rs) f ≡ f
unfolding flat_from
none_of rs f i l = rw (drop_of_length-le rs {i = i} l)
