-- Read this.
-- The plan printer's text: a line of figures and one line a message, or the refusal.
-- Renders document 01, "Recipes to be met": what the plan printer writes; each word is spelled by its bytes.
use Rattle.std.specs.Prelude.{ℕ, zero, suc, List, [], ◌∷◌, ◌++◌, length, ltb}
use Rattle.base.specs.Tests.{pick}
use Rattle.base.specs.Numbers.{first_of}
use Rattle.text.specs.Decimal.{decimal}
use Rattle.machine.specs.Plan.{Plan, count, words}
use Rattle.machine.specs.Runs.{total}
use Rattle.nest.specs.Reader.{nest_of}
use Rattle.plan.specs.declared.Route.{Route}
use Rattle.plan.specs.declared.Route.TheVariants.{Direct}
use Rattle.plan.specs.Shaped.{plan_of}
use Rattle.conformance.specs.Examples.{message_line}
use Rattle.recipe.specs.Routes.{lines_for}

-- "tiles ", "messages ", "words ", "steps ", "refused "
abbrev pub tiles_word : List ℕ
tiles_word = 116 ∷ 105 ∷ 108 ∷ 101 ∷ 115 ∷ 32 ∷ []

abbrev pub messages_word : List ℕ
messages_word = 109 ∷ 101 ∷ 115 ∷ 115 ∷ 97 ∷ 103 ∷ 101 ∷ 115 ∷ 32 ∷ []

abbrev pub words_word : List ℕ
words_word = 119 ∷ 111 ∷ 114 ∷ 100 ∷ 115 ∷ 32 ∷ []

abbrev pub steps_word : List ℕ
steps_word = 115 ∷ 116 ∷ 101 ∷ 112 ∷ 115 ∷ 32 ∷ []

abbrev pub refused_word : List ℕ
refused_word = 114 ∷ 101 ∷ 102 ∷ 117 ∷ 115 ∷ 101 ∷ 100 ∷ 32 ∷ []

-- a number in decimal and a byte behind it, a space (32) or a line feed (10)
unfoldable pub number_then : ℕ → ℕ → List ℕ
number_then n after = decimal n ++ (after ∷ [])

-- with a word before it
unfoldable pub field : List ℕ → ℕ → ℕ → List ℕ
field word n after = word ++ number_then n after

unfoldable pub figures_text : ℕ → ℕ → ℕ → ℕ → List ℕ
figures_text t m w s = field tiles_word t 32 ++ (field messages_word m 32 ++ (field words_word w 32 ++ field steps_word s 10))

-- numbers with single spaces, a line feed behind the last
unfoldable pub spaced : List ℕ → List ℕ
spaced [] = 10 ∷ []
spaced (n ∷ []) = number_then n 10
spaced (n ∷ m ∷ ns) = number_then n 32 ++ spaced (m ∷ ns)

-- the lines of the first m messages
unfoldable pub lines_text : Plan → ℕ → List ℕ
lines_text p zero = []
lines_text p (suc m) = lines_text p m ++ spaced (message_line p m)

unfoldable pub refused_text : ℕ → List ℕ
refused_text n = field refused_word n 10

unfoldable pub plan_text_if : ℕ → Plan → List ℕ
plan_text_if zero p = figures_text p.tiles (count p) (words p) (total p) ++ lines_text p (count p)
plan_text_if (suc n) p = refused_text (suc n)

-- more than 512 bytes are refused as ragged
unfoldable pub plan_text : Route → List ℕ → List ℕ
plan_text r bytes =
    pick (ltb 512 (length bytes)) (refused_text 1) (plan_text_if (first_of (lines_for r bytes)) (plan_of r (nest_of bytes)))

-- the printer's own: it stays with direct passing
abbrev pub printer_text : List ℕ → List ℕ
printer_text bytes = plan_text Direct bytes
