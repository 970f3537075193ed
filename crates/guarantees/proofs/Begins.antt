-- A run can begin: `begins`.
use Prim.Native.Nat.{ℕ, ◌*◌}
use mathlib.Core.Path.{◌≡◌, ap, ◌∙◌}
use mathlib.Core.Bool.{true}
use mathlib.Core.List.{List}
use lib.ListN.{length}
use borrow.Author.Tests.{eq-eqb}
use Rattle.base.specs.Numbers.{first_of}
use Rattle.base.proofs.Tests.{and_true}
use Rattle.machine.specs.Plan.{Plan}
use Rattle.machine.proofs.RunLaws.{number_of}
use Rattle.tenants.specs.Tenants.{Sources}
use Rattle.layout.specs.RouteWords.{route_of}
use Rattle.recipe.specs.Routes.{lines_for}
use Rattle.recipe.proofs.Laws.{numbered_for}
use Rattle.records.proofs.Words.{length_words}
use Rattle.engine.specs.Calls.{recipe, areas, fresh_call}
use Rattle.engine.proofs.Begins.{areas_fit as words_fit, none_true}
use Rattle.sharing.specs.Calls.{sharing_areas, fresh_sharing_call}
use Rattle.schedule.specs.declared.Driven.{Driven}
use Rattle.schedule.specs.Calls.{rounds_call}
use Rattle.calls.specs.Gave.{Areas, in_words, SharingAreas, sharing_words, FreshGave, FreshBothGave, RoundsGave}
use Rattle.guarantees.specs.Begins.{LentFor, Begins}

areas_fit : (p : Plan) (source : List ℕ) (a : Areas) → LentFor p source a → areas p source (in_words a) ≡ true
areas_fit p source a l =
    words_fit p source (in_words a)
    (record {
      source_long = l.source_long;
      memories = l.memories;
      buffer = l.buffer;
      progress = length_words a.progress ∙ ap (λ (k : ℕ). 3 * k) l.records;
      status = l.status;
    })

sharing_fit : (p : Plan) (sources : Sources) (a : SharingAreas) → LentFor p sources.first a.first → LentFor p sources.second a.second
    → length a.engaged ≡ p.processors → sharing_areas p sources (sharing_words a) ≡ true
unfolding sharing_areas
sharing_fit p sources a l m e =
    and_true (areas_fit p sources.first a.first l) (and_true (areas_fit p sources.second a.second m) (eq-eqb _ _ e))

module _ (bytes : List ℕ) (route : ℕ) (z : first_of (lines_for (route_of route) bytes) ≡ 0) where
  one : (source : List ℕ) (a b : Areas) (n : ℕ) → LentFor (recipe bytes route) source a → FreshGave bytes route source a n b → n ≡ 0
  unfolding fresh_call
  one source a b n l e =
      number_of e ∙ none_true (lines_for (route_of route) bytes) (numbered_for (route_of route) bytes) z (areas (recipe bytes route) source (in_words a))
      (areas_fit (recipe bytes route) source a l)

  two : (sources : Sources) (a b : SharingAreas) (n : ℕ) → LentFor (recipe bytes route) sources.first a.first
      → LentFor (recipe bytes route) sources.second a.second → length a.engaged ≡ (recipe bytes route).processors
      → FreshBothGave bytes route sources a n b → n ≡ 0
  unfolding fresh_sharing_call
  two sources a b n l m h e =
      number_of e ∙ none_true (lines_for (route_of route) bytes) (numbered_for (route_of route) bytes) z
      (sharing_areas (recipe bytes route) sources (sharing_words a))
      (sharing_fit (recipe bytes route) sources a l m h)

rounds : (bytes : List ℕ) → first_of (lines_for (route_of 0) bytes) ≡ 0 → (source : List ℕ) (a b : Areas) (d : Driven) → LentFor (recipe bytes 0) source a
    → RoundsGave bytes source a d b → d.number ≡ 0
unfolding rounds_call
rounds bytes z source a b d l e =
    number_of e ∙ none_true (lines_for (route_of 0) bytes) (numbered_for (route_of 0) bytes) z (areas (recipe bytes 0) source (in_words a))
    (areas_fit (recipe bytes 0) source a l)

pub begins : (bytes : List ℕ) (route : ℕ) → Begins bytes route
begins bytes route = record { one = one bytes route; two = two bytes route; rounds = rounds bytes }
