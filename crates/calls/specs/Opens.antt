-- Read this.
-- What is told of when a processor next opens: 1 and in how many minutes, or 0 and 0 where it never does; 0 and 0 at a refusal.
-- Renders request W-212, where the sharing tells of opening; the lines are those of `crates/timed/specs/Calls`.
use Rattle.std.specs.Prelude.{ℕ, zero, suc, List, None, Option, Some}
use Rattle.base.specs.Numbers.{first_of}
use Rattle.calendar.specs.Windows.{Moment, until_open}
use Rattle.calendar_calls.specs.Calls.{opens_lines}
use Rattle.calls.specs.declared.hour.NextOpening.{NextOpening}

abbrev pub tells : ℕ → ℕ → ℕ → NextOpening
tells n opens minutes = record { number = n; opens = opens; minutes = minutes }

unfoldable pub opening_told : Option ℕ → NextOpening
opening_told (Some m) = tells 0 1 m
opening_told None = tells 0 0 0

unfoldable pub opens_if : ℕ → Option ℕ → NextOpening
opens_if zero o = opening_told o
opens_if (suc n) o = tells (suc n) 0 0

unfoldable pub opens_of : List ℕ → Moment → ℕ → NextOpening
opens_of bytes h b = opens_if (first_of (opens_lines bytes h b)) (until_open h.calendar h.minute b)
