-- Read this.
-- What W-211 demands of the exported calls for the charting desk, and demand 1 for them.
-- Renders document 02, W-211: 23 before 9, the text's length told, bytes past the text as before, 0 told at a refusal, no two inputs with one text.
use Rattle.std.specs.Prelude.{◌≡◌, ℕ, ◌≤◌, true, ◌≢◌, List, ◌++◌, length, take, drop, ℤ}
use Rattle.base.specs.Numbers.{first_of}
use Rattle.nest.specs.Reader.{read_lines, nest_of}
use Rattle.chart.specs.declared.Told.{Told}
use Rattle.chart.specs.grid_text.Text.{chart_text}
use Rattle.chart.specs.Call.{not_charted, length_lines, write_lines}
use Rattle.chart.specs.Apart.{SameInputs}
use Rattle.calls.specs.Tells.{Tells}
use Rattle.calls.specs.Gave.{ChartGave, ChartLengthGave}

-- a number and a length
abbrev pub tells : ℕ → ℕ → Told
tells n l = record { number = n; length = l }

-- the call, lent a space that was `old`, told `told` and left `space`
pub record Charted (bytes grid : List ℕ) (x y : ℤ) (size : ℕ) (old : List ℕ) (told : Told) (space : List ℕ) : Type 0 where
  -- the first true line's number; the text's length, or 0
  pub number : Tells (λ t. t.number) (write_lines bytes grid x y size old) (tells 0 (length (chart_text (nest_of bytes) grid x y size))) (λ n. tells n 0) told
  -- the text at the front of the space, all bytes past it as they were
  pub text : told.number ≡ 0 → space ≡ chart_text (nest_of bytes) grid x y size ++ drop told.length old
  pub fits : told.number ≡ 0 → told.length ≤ length old
  -- a refusal leaves every byte
  pub as_before : told.number ≢ 0 → space ≡ old
  -- of an accepted recipe that is no chart's 23 comes before 9, whatever was lent
  pub first_23 : first_of (read_lines bytes) ≡ 0 → not_charted (nest_of bytes) size ≡ true → told.number ≡ 23

pub record Demand211 : Type 0 where
  pub chart : (bytes grid : List ℕ) (x y : ℤ) (size : ℕ) (old : List ℕ) (told : Told) (space : List ℕ)
      → ChartGave bytes grid x y size old told space → Charted bytes grid x y size old told space
  pub length_of : (bytes grid : List ℕ) (x y : ℤ) (size : ℕ) (told : Told) → ChartLengthGave bytes grid x y size told
      → Tells (λ t. t.number) (length_lines bytes grid size) (tells 0 (length (chart_text (nest_of bytes) grid x y size))) (λ n. tells n 0) told
  -- where the text was written, the other call tells the same
  pub same_length : (bytes grid : List ℕ) (x y : ℤ) (size : ℕ) (old : List ℕ) (told other : Told) (space : List ℕ)
      → ChartGave bytes grid x y size old told space → ChartLengthGave bytes grid x y size other → told.number ≡ 0 → other ≡ told
  -- of two calls with one recipe that both gave 0: no two inputs share the bytes written
  pub apart : (bytes a b : List ℕ) (x y u v : ℤ) (size other : ℕ) (old old' space space' : List ℕ) (t t' : Told)
      → ChartGave bytes a x y size old t space → ChartGave bytes b u v other old' t' space' → t.number ≡ 0 → t'.number ≡ 0
      → take t.length space ≡ take t'.length space' → SameInputs bytes a b x y u v size other
