-- Numbers stored as bytes: of two and of four bytes from a place on, the low byte first.
-- Renders document 01, "stored numbers are little-endian". A reader needs it: the fields of a recipe and of soundings are such numbers.
use Rattle.std.specs.Prelude.{ℕ, ◌+◌, ◌*◌, List, get_or}

abbrev pub half : List ℕ → ℕ → ℕ
half bytes at = get_or bytes at 0 + 256 * get_or bytes (at + 1) 0

abbrev pub word : List ℕ → ℕ → ℕ
word bytes at = half bytes at + 65536 * half bytes (at + 2)
