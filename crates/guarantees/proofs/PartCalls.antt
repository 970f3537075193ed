-- Each call for one processor gives its first true line, and a refusal leaves its record.
use Prim.Native.Nat.{ℕ}
use mathlib.Core.Path.{◌≡◌, refl}
use mathlib.Core.List.{List}
use Rattle.base.specs.Numbers.{Line}
use Rattle.machine.specs.Machine.{State, Answered}
use Rattle.engine.specs.Calls.{answer, recipe}
use Rattle.engine.specs.Demands.{Fixed}
use Rattle.engine.proofs.Demands as engine
use Rattle.part_calls.specs.declared.AreaLengths.{AreaLengths}
use Rattle.part_calls.specs.front.Calls.{board_lines, lengths_of, no_lengths, lengths_if, part_sizes_call, part_messages_call, part_fresh_call, part_turn_call}
use Rattle.part_calls.specs.front.Calls.{part_post_call}
use Rattle.part_calls.specs.front.Calls.{part_arrive_call, part_collect_call}
use Rattle.calls.specs.Tells.{Tells}
use Rattle.calls.specs.Gave.{Areas, in_words, PartSizesGave}
use Rattle.guarantees.specs.OverRecords.{FixedAreas}
use Rattle.guarantees.specs.PartCalls.{FixedPart}
use Rattle.calls.proofs.Tells.{tells_by}
use Rattle.guarantees.proofs.OverRecords.{fixed_as, as_before, areas_fixed}

module _ {ls : List Line} {done : State} {call : Answered State} where
  fixed_areas : (a b : Areas) (n : ℕ) → answer n (in_words b) ≡ call → Fixed call ls done (in_words a) → FixedAreas ls done a n b
  fixed_areas a b n e f = record { fixed = fixed_as e f; as_before = as_before in_words areas_fixed a b n e f }

module _ (bytes : List ℕ) (route p : ℕ) where
  sizes_tell : (r : AreaLengths) → PartSizesGave bytes route p r
      → Tells (λ l. l.number) (board_lines bytes route p) (lengths_of (recipe bytes route) p) no_lengths r
  unfolding part_sizes_call lengths_if lengths_of
  sizes_tell r e =
      tells_by (λ (l : AreaLengths). l.number) (λ n. lengths_if n (recipe bytes route) p) (lengths_of (recipe bytes route) p) no_lengths refl (λ n. refl)
      refl (λ n. refl) (board_lines bytes route p) r e

  pub fixed_part : FixedPart bytes route p
  unfolding part_messages_call part_fresh_call part_turn_call part_post_call part_arrive_call part_collect_call
  fixed_part =
      record {
        sizes = sizes_tell;
        messages = λ old out n e. fixed_as e (engine.fixed _ _ old);
        fresh = λ a b n e. fixed_areas a b n e (engine.fixed _ _ (in_words a));
        turn = λ source a b n e. fixed_areas a b n e (engine.fixed _ _ (in_words a));
        post = λ m a b n e. fixed_areas a b n e (engine.fixed _ _ (in_words a));
        arrive = λ m words a b n e. fixed_areas a b n e (engine.fixed _ _ (in_words a));
        collect = λ memory own old grid n e. fixed_as e (engine.fixed _ _ old);
      }
