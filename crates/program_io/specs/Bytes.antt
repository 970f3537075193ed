-- For contracts of the case programs: no reader needs it.
-- A number that the case programs' scripts hold in four bytes, least first.
-- Renders tools/README.md, the records of a script.
use Rattle.std.specs.Prelude.{ℕ, ◌+◌, ◌*◌, List, length, get_or, ltb}
use Rattle.base.specs.Tests.{◌or◌, pick}

-- from a place of a record of 16 bytes on; 0 where they are not in it
unfoldable pub word_in : List ℕ → ℕ → ℕ
word_in bytes at =
    pick (ltb 12 at or ltb (length bytes) 16) 0
    (get_or bytes at 0 + 256 * get_or bytes (at + 1) 0 + 65536 * get_or bytes (at + 2) 0 + 16777216 * get_or bytes (at + 3) 0)
