-- Read this.
-- The calls for one processor that is lent its own part alone, as exported: each gives the number of the first true line, does its work where that is
-- 0, and else leaves every lent word and the very record. Renders document 01, "Numbers a call gives", for a board with memory for nothing else.
use Rattle.std.specs.Prelude.{ℕ, List}
use Rattle.machine.specs.Machine as machine
use Rattle.records.specs.declared.Progress.{Progress}
use Rattle.engine.specs.Calls.{answer, recipe}
use Rattle.engine.specs.Demands.{Fixed}
use Rattle.network.specs.Apart.{marked, received}
use Rattle.network.specs.Own.{handled}
use Rattle.part_calls.specs.declared.AreaLengths.{AreaLengths}
use Rattle.part_calls.specs.front.Calls.{from_part, to_part, board_lines, lengths_of, no_lengths, part_rows, part_messages_lines, part_fresh_lines, part_turn_lines}
use Rattle.part_calls.specs.front.Calls.{stepped}
use Rattle.part_calls.specs.front.Calls.{part_post_lines, part_arrive_lines, part_collected, part_collect_lines}
use Rattle.calls.specs.Tells.{Tells}
use Rattle.calls.specs.Gave.{Areas, in_words, kept, PartSizesGave, PartMessagesGave, PartFreshGave, PartTurnGave, PartPostGave, PartArriveGave}
use Rattle.calls.specs.Gave.{PartCollectGave}
use Rattle.guarantees.specs.OverRecords.{FixedAreas}

-- of processor p
pub record FixedPart (bytes : List ℕ) (route p : ℕ) : Type 0 where
  pub sizes : (told : AreaLengths) → PartSizesGave bytes route p told
      → Tells (λ l. l.number) (board_lines bytes route p) (lengths_of (recipe bytes route) p) no_lengths told
  pub messages : (old out : List ℕ) (n : ℕ) → PartMessagesGave bytes route p old n out
      → Fixed (answer n out) (part_messages_lines bytes route p old) (part_rows (recipe bytes route) p (handled (recipe bytes route) p)) old
  pub fresh : (a b : Areas) (n : ℕ) → PartFreshGave bytes route p a n b
      → FixedAreas (part_fresh_lines bytes route (in_words a) p) (to_part (recipe bytes route) p (machine.fresh (recipe bytes route))) a n b
  pub turn : (source : List ℕ) (a b : Areas) (n : ℕ) → PartTurnGave bytes route source p a n b
      → FixedAreas (part_turn_lines bytes route source (in_words a) p)
      (to_part (recipe bytes route) p (stepped (recipe bytes route) p source (in_words a))) a n b
  pub post : (m : ℕ) (a b : Areas) (n : ℕ) → PartPostGave bytes route p m a n b
      → FixedAreas (part_post_lines bytes route (in_words a) p m)
      (to_part (recipe bytes route) p (marked (from_part (recipe bytes route) p (in_words a)) m)) a n b
  pub arrive : (m : ℕ) (words : List ℕ) (a b : Areas) (n : ℕ) → PartArriveGave bytes route p m words a n b
      → FixedAreas (part_arrive_lines bytes route (in_words a) p m words)
      (to_part (recipe bytes route) p (received (recipe bytes route) (from_part (recipe bytes route) p (in_words a)) m words)) a n b
  pub collect : (memory : List ℕ) (own : List Progress) (old grid : List ℕ) (n : ℕ) → PartCollectGave bytes route p memory own old n grid
      → Fixed (answer n grid) (part_collect_lines bytes route (kept memory own) p old) (part_collected (recipe bytes route) p (kept memory own) old) old
