-- When two lists of words are the same: as long, and equal word for word.
-- Document 01, "Recipes to be met", compares a collected grid with the sequential sweep so.
use Rattle.std.specs.Prelude.{ℕ, Bool, List, length, get_or, eqb}
use Rattle.base.specs.Tests.{◌and◌, every}

unfoldable pub same_words : List ℕ → List ℕ → Bool
same_words a b = eqb (length a) (length b) and every (λ i. eqb (get_or a i 0) (get_or b i 0)) (length a)
