-- Locality rules out wrong turns: one that reads a neighbour's cell, one that writes another tile's mark, and one that reads another cell's source.
use Prim.Native.Nat.{ℕ, zero, suc, ◌+◌, ◌*◌, ◌<◌}
use mathlib.Core.Path.{◌≡◌, refl, sym, ◌∙◌}
use mathlib.Core.Logic.{inl, inr}
use mathlib.Core.Bool.{true}
use mathlib.Core.List.{List, [], ◌∷◌}
use native.Mathlib.Omega.{arith}
use lib.ListN.{get_or, set}
use Rattle.base.specs.Tests.{◌and◌, ◌or◌, not, pick, one, every, some, keep, those}
use Rattle.base.specs.Lists.{In, sublist, put, set_all, store_all, all_at, unpack, pack, count_if}
use Rattle.base.specs.Numbers.{first_of}
use Rattle.machine.specs.Plan.{Plan, sends_of, dues_of, offset}
use Rattle.machine.specs.Machine.{State, state_of, set_progress, tiles_left, fit_record, fit, unpack_all, after_sends, carry_out, action_at, waiting}
use Rattle.machine.specs.Machine.{Answered, turn, fresh, current_tile}
use Rattle.machine.specs.Words.{word_at}
use Rattle.network.specs.Locality.{PlanLengths, Keeps, SameTo, Likewise, Local, ReadsOwnWord}
use Rattle.network.proofs.Computed.{line3, value_at, source3}

abbrev start : State
start = fresh line3

-- ---- its own first cell gets the word of the next processor's
unfoldable pub peeks : List ℕ → State → ℕ → Answered State
peeks source s b =
    record {
      number = (turn line3 source s b).number;
      after = state_of (set (turn line3 source s b).after.memories (b * 3) (get_or s.memories ((b + 1) * 3) 0))
          (turn line3 source s b).after.buffer (turn line3 source s b).after.progress (turn line3 source s b).after.status;
    }

-- a start in which processor 1 has another word in its first cell
unfoldable other : State
other = state_of (0 ∷ 0 ∷ 0 ∷ 7 ∷ 0 ∷ 0 ∷ []) (0 ∷ 0 ∷ []) (0 ∷ 0 ∷ 0 ∷ 0 ∷ 0 ∷ 0 ∷ []) (0 ∷ 0 ∷ [])

lent_start : PlanLengths line3 source3 start
unfolding line3 source3 fresh offset
lent_start = record { source = refl; memories = refl; buffer = refl; progress = refl; status = refl }

lent_other : PlanLengths line3 source3 other
unfolding line3 source3 other offset
lent_other = record { source = refl; memories = refl; buffer = refl; progress = refl; status = refl }

same_word : (i : ℕ) → i < 3 → get_or start.memories i 0 ≡ get_or other.memories i 0
unfolding line3 fresh other
same_word zero h = refl
same_word (suc zero) h = refl
same_word (suc (suc zero)) h = refl
same_word (suc (suc (suc i))) h = absurd (omega arith)

same_start : SameTo line3 0 start other
unfolding line3 fresh other offset sublist
same_start =
    record {
      memory = λ c l k. same_word (0 * 3 + c) (omega arith);
      finished = refl;
      stage = refl;
      sent = refl;
      words = λ m h mine. refl;
      marks = λ m h mine. refl;
    }

both_fit : fit line3 start ≡ fit line3 other
unfolding line3 fresh other fit fit_record tiles_left those keep every not pick ◌and◌
both_fit = refl

alike : Likewise line3 source3 source3 start other 0
alike = record { lent = lent_start; lent' = lent_other; both_fit = both_fit; same_source = λ t c h e i. refl; same_areas = same_start }

peeks_start : word_at line3 (peeks source3 start 0).after 0 0 ≡ 0
unfolding peeks line3 value_at source3 those keep offset sublist put unpack unpack_all set_all store_all pack all_at every some one count_if not pick ◌and◌ ◌or◌
    first_of set_progress tiles_left fit_record fit after_sends carry_out action_at waiting turn fresh
peeks_start = refl

peeks_other : word_at line3 (peeks source3 other 0).after 0 0 ≡ 7
unfolding peeks other line3 value_at source3 those keep offset sublist put unpack unpack_all set_all store_all pack all_at every some one count_if not pick ◌and◌ ◌or◌
    first_of set_progress tiles_left fit_record fit after_sends carry_out action_at waiting turn fresh
peeks_other = refl

keeps_first : Keeps line3 0 0
unfolding line3
keeps_first = Keeps.own 0 (omega arith) refl (inl refl)

first_low : 0 < line3.cells
unfolding line3
first_low = omega arith

pub peeking : Local line3 peeks → ⊥
peeking l = omega (arith, sym peeks_start ∙ (l.same_changes source3 source3 start other 0 alike).memory 0 first_low keeps_first ∙ peeks_other)

-- ---- processor 0, at tile 0, marks the message that tile 1 sends
unfoldable pub meddles : List ℕ → State → ℕ → Answered State
meddles source s b =
    record {
      number = (turn line3 source s b).number;
      after = state_of (turn line3 source s b).after.memories (turn line3 source s b).after.buffer (turn line3 source s b).after.progress
          (set (turn line3 source s b).after.status 1 1);
    }

meddles_start : get_or (meddles source3 start 0).after.status 1 0 ≡ 1
unfolding meddles line3 value_at source3 those keep offset sublist put unpack unpack_all set_all store_all pack all_at every some one count_if not pick ◌and◌ ◌or◌
    first_of set_progress tiles_left fit_record fit after_sends carry_out action_at waiting turn fresh
meddles_start = refl

mark_start : get_or start.status 1 0 ≡ 0
unfolding line3 fresh
mark_start = refl

not_sent : In 1 (sends_of line3 (current_tile line3 start 0)) → ⊥
unfolding line3 fresh those keep
not_sent (inl e) = omega arith
not_sent (inr i) = i

not_due : In 1 (dues_of line3 (current_tile line3 start 0)) → ⊥
unfolding line3 fresh those keep
not_due i = i

pub meddling : Local line3 meddles → ⊥
meddling l = omega (arith, sym meddles_start ∙ (l.writes source3 start 0 lent_start).status 1 not_sent not_due ∙ mark_start)

-- ---- values that read the next cell's source
unfoldable pub skewed : Plan
skewed = record {
  cells = 3;
  inside = λ c. true;
  boundary = 0;
  tiles = 3;
  processors = 3;
  tile_of = λ c. c;
  cells_of = λ t. t ∷ [];
  processor_of = λ t. t;
  messages = [];
  reads_of = λ c. [];
  value = λ source memory c. get_or source (c + 1) 0;
}

pub skewing : ReadsOwnWord skewed → ⊥
unfolding skewed
skewing own = omega (arith, own (0 ∷ 0 ∷ []) (0 ∷ 1 ∷ []) [] 0 refl)
