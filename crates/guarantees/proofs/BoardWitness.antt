-- The premises of OnBoards are met: a beginning of row D on two boards, on whole areas and on own parts, and the events that a transport carries there.
use Prim.Native.Nat.{ℕ, ◌*◌, ◌<◌}
use mathlib.Core.Path.{◌≡◌, refl, sym, ap, ◌∙◌, subst}
use mathlib.Core.List.{List, []}
use lib.ListN.{length-replicate}
use Rattle.machine.specs.Machine.{State, Answered, fresh}
use Rattle.machine.proofs.RunLaws.{number_of, after_of}
use Rattle.nest.specs.Recipes.{row_d}
use Rattle.engine.specs.Calls.{answer, recipe, fresh_call}
use Rattle.network.specs.Packets.{Network}
use Rattle.part.specs.Part.{lent_of}
use Rattle.part_calls.specs.front.Calls.{to_part, part_fresh_call}
use Rattle.network_runs.specs.Calls.{start_calls}
use Rattle.network_runs.specs.BoardExamples.{source_d, whole_sources, part_sources, whole_lent, part_lent}
use Rattle.network_runs.proofs.Demands as whole_run
use Rattle.network_runs.proofs.BoardExamples.{board_rows}
use Rattle.network_runs.proofs.part.OnePart.{fresh_leaves}
use Rattle.calls.specs.Gave.{Areas, in_words, FreshGave, PartFreshGave}
use Rattle.guarantees.specs.OnBoards.{Boards, BegunBoards, BegunParts}
use Rattle.guarantees.proofs.OverRecords.{areas_from, in_words_lem, Whole}

-- an answer's two parts
answers_as : (n : ℕ) (s : State) (r : Answered State) → r.number ≡ n → r.after ≡ s → answer n s ≡ r
answers_as n s r e f = rw (sym e, sym f) refl

whole_fresh : Whole (fresh (recipe row_d 0)).progress
unfolding fresh
whole_fresh = ((recipe row_d 0).processors, length-replicate {A = ℕ} (3 * (recipe row_d 0).processors) 0)

abbrev fresh_areas : ℕ → Areas
fresh_areas b = areas_from (fresh (recipe row_d 0))

pub fresh_words : in_words (areas_from (fresh (recipe row_d 0))) ≡ fresh (recipe row_d 0)
fresh_words = in_words_lem (fresh (recipe row_d 0)) whole_fresh

fresh_gave : (b : ℕ) → b < (recipe row_d 0).processors → FreshGave row_d 0 source_d (fresh_areas b) 0 (fresh_areas b)
unfolding start_calls
fresh_gave b h =
    subst (λ (s : State). answer 0 s ≡ fresh_call row_d 0 source_d s) (sym fresh_words)
    (answers_as 0 (fresh (recipe row_d 0)) _ (board_rows.begun.gave b h)
    (whole_run.start_is row_d 0 source_d whole_sources whole_lent board_rows.begun b h))

pub begun_boards : BegunBoards row_d 0 source_d whole_sources fresh_areas (record { areas = fresh_areas; packets = [] })
begun_boards =
    record {
      small = board_rows.begun.small;
      accepted = board_rows.begun.accepted;
      whole = board_rows.begun.whole;
      own = board_rows.begun.own;
      gave = fresh_gave;
      none = refl;
    }

-- ---- own parts
abbrev part_areas : ℕ → Areas
part_areas b = areas_from (part_lent b)

part_words : (b : ℕ) → in_words (areas_from (part_lent b)) ≡ part_lent b
unfolding lent_of
part_words b = in_words_lem (part_lent b) (1, refl)

part_gave : (b : ℕ) → b < (recipe row_d 0).processors → PartFreshGave row_d 0 b (part_areas b) 0 (part_areas b)
part_gave b h =
    subst (λ (s : State). answer 0 s ≡ part_fresh_call row_d 0 s b) (sym (part_words b))
    (answers_as 0 (part_lent b) _ (board_rows.begun_parts.gave b h)
    (fresh_leaves row_d 0 board_rows.begun.accepted b h (part_lent b) (board_rows.begun_parts.gave b h)))

pub begun_on_parts : BegunParts row_d 0 source_d part_sources part_areas (record { areas = part_areas; packets = [] })
begun_on_parts =
    record {
      small = board_rows.begun.small;
      accepted = board_rows.begun.accepted;
      whole = board_rows.begun.whole;
      own = board_rows.begun_parts.own;
      gave = part_gave;
      none = refl;
    }
