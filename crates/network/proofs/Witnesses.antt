-- Each premise of a claim of specs/ is met on the plan of Computed, so no claim is about nothing: two calls of processor 0's turn that are the same to
-- it, though the sources differ at a cell of processor 1, and so do the words, the record and the mark that processor 1 has.
use Prim.Native.Nat.{ℕ, zero, suc, ◌<◌}
use mathlib.Core.Path.{◌≡◌, refl}
use mathlib.Core.Logic.{inl, inr}
use mathlib.Core.List.{List, [], ◌∷◌}
use native.Mathlib.Omega.{arith}
use Rattle.base.specs.Tests.{◌and◌, pick, every, keep, those}
use Rattle.machine.specs.Plan.{offset}
use Rattle.machine.specs.Machine.{State, state_of, tiles_left, fit_record, fit, turn}
use Rattle.machine.specs.Words.{word_at}
use Rattle.network.specs.Locality.{PlanLengths, Keeps, SameTo, SameSource, Likewise}
use Rattle.network.proofs.Computed.{line3, source3}
use Rattle.network.proofs.Example.{is_local}

unfoldable source : List ℕ
source = 1 ∷ 2 ∷ 9 ∷ []

-- processor 0 is about to calculate tile 0; processor 1 is fresh, or has finished
unfoldable before : State
before = state_of (0 ∷ 0 ∷ 0 ∷ 0 ∷ 0 ∷ 0 ∷ []) (0 ∷ 0 ∷ []) (0 ∷ 1 ∷ 0 ∷ 0 ∷ 0 ∷ 0 ∷ []) (0 ∷ 0 ∷ [])

unfoldable other : State
other = state_of (0 ∷ 0 ∷ 8 ∷ 7 ∷ 7 ∷ 7 ∷ []) (0 ∷ 0 ∷ []) (0 ∷ 1 ∷ 0 ∷ 1 ∷ 0 ∷ 0 ∷ []) (0 ∷ 0 ∷ [])

-- Locality.Lent
lent : PlanLengths line3 source3 before
unfolding line3 source3 before offset
lent = record { source = refl; memories = refl; buffer = refl; progress = refl; status = refl }

lent' : PlanLengths line3 source other
unfolding line3 source other offset
lent' = record { source = refl; memories = refl; buffer = refl; progress = refl; status = refl }

-- Locality.Keeps: processor 0 keeps the cells of its tiles 0 and 1
keeps : Keeps line3 0 1
unfolding line3
keeps = Keeps.own 1 (omega arith) refl (inl refl)

brought : Keeps line3 1 1
unfolding line3
brought = Keeps.brought 1 (omega arith) refl (inl refl)

-- and not cell 2
not_kept : Keeps line3 0 2 → ⊥
unfolding line3
not_kept (Keeps.own zero h e (inl i)) = omega arith
not_kept (Keeps.own zero h e (inr i)) = absurd i
not_kept (Keeps.own (suc zero) h e (inl i)) = omega arith
not_kept (Keeps.own (suc zero) h e (inr i)) = absurd i
not_kept (Keeps.own (suc (suc zero)) h e i) = omega arith
not_kept (Keeps.own (suc (suc (suc t))) h e i) = omega arith
not_kept (Keeps.brought zero h e (inl i)) = omega arith
not_kept (Keeps.brought zero h e (inr i)) = absurd i
not_kept (Keeps.brought (suc zero) h e i) = omega arith
not_kept (Keeps.brought (suc (suc m)) h e i) = omega arith

-- Locality.SameSource, SameTo, Likewise
same_source : SameSource line3 0 source3 source
unfolding line3 source3 source
same_source zero c h e (inl i) = rw i refl
same_source zero c h e (inr i) = absurd i
same_source (suc zero) c h e (inl i) = rw i refl
same_source (suc zero) c h e (inr i) = absurd i
same_source (suc (suc zero)) c h e i = absurd (omega arith)
same_source (suc (suc (suc t))) c h e i = absurd (omega arith)

same_memory : (c : ℕ) → c < 3 → Keeps line3 0 c → word_at line3 before 0 c ≡ word_at line3 other 0 c
unfolding line3 before other
same_memory zero h k = refl
same_memory (suc zero) h k = refl
same_memory (suc (suc zero)) h k = absurd (not_kept k)
same_memory (suc (suc (suc c))) h k = absurd (omega arith)

same_areas : SameTo line3 0 before other
unfolding line3 before other
same_areas =
    record {
      memory = λ c h k. same_memory c h k;
      finished = refl;
      stage = refl;
      sent = refl;
      words = λ m h k. refl;
      marks = λ m h k. refl;
    }

both_fit : fit line3 before ≡ fit line3 other
unfolding line3 before other those keep every pick ◌and◌ tiles_left fit_record fit
both_fit = refl

likewise : Likewise line3 source3 source before other 0
likewise = record { lent = lent; lent' = lent'; both_fit = both_fit; same_source = same_source; same_areas = same_areas }

-- so the claim says of these two calls that they get the same number
same_number : (turn line3 source3 before 0).number ≡ (turn line3 source other 0).number
same_number = is_local.same_number source3 source before other 0 likewise
