-- `comparison::memory_words` is safe: the product of two words of 32 bits fits 64.
-- Assumes nothing.
use borrow.Author.Rules.{rules}
use Rattle.comparison.proofs.Product.{below}
use Rattle.comparison.proofs.memory_words.Goals as goal

pub overflow_mul-result : goal.overflow_mul-result
overflow_mul-result c = record { fits = below 32 (search rules) (search rules) }
