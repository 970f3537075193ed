-- One board's part collected after any events: the sweep's words at its cells, the boundary outside the shape, every other word as before.
use Prim.Native.Nat.{ℕ, ◌<◌}
use mathlib.Core.Path.{◌≡◌, ap, ◌∙◌}
use mathlib.Core.Logic.{◌≢◌}
use mathlib.Core.Bool.{true, false}
use mathlib.Core.List.{List}
use lib.ListN.{length, get_or}
use Rattle.base.specs.Tests.{pick}
use Rattle.base.specs.Numbers.{first_of}
use Rattle.base.proofs.Tests.{is_false, pick_true, pick_false, length_tabulate, tabulate_at}
use Rattle.machine.specs.Plan.{Plan, Sound}
use Rattle.machine.specs.Machine.{State, memory_of, tiles_left, fit, Answered}
use Rattle.machine.proofs.RunLaws.{after_of}
use Rattle.layout.specs.RouteWords.{route_of}
use Rattle.recipe.specs.Routes.{lines_for}
use Rattle.engine.specs.Calls.{recipe}
use Rattle.network.specs.Packets.{Network}
use Rattle.network.specs.Locality.{PlanLengths, Keeps, ReadsOwnWord}
use Rattle.network.specs.Own.{owns}
use Rattle.network.specs.OnBoards.{Collected}
use Rattle.network.proofs.Network.{Follows}
use Rattle.network.proofs.Own.{own_test, test_own}
use Rattle.network.proofs.PartRuns.{lent_here, fit_here}
use Rattle.network.proofs.OnBoards.{part_right}
use Rattle.part_calls.specs.front.Calls.{from_part, to_part, part_collected, part_collect_call}
use Rattle.network_runs.proofs.part.OnePart.{collect_on_part, collect_asks, own_word_in}

module _ (bytes : List ℕ) (route : ℕ) (ok : first_of (lines_for (route_of route) bytes) ≡ 0) (so : Sound (recipe bytes route))
    (own : ReadsOwnWord (recipe bytes route)) (source : List ℕ) (long : length source ≡ (recipe bytes route).cells) (s : State) (n : Network)
    (fo : Follows (recipe bytes route) source s n) (b : ℕ) (low : b < (recipe bytes route).processors) where
  abbrev p : Plan
  p = recipe bytes route

  abbrev mine : State
  mine = n.areas b

  lent : PlanLengths p source mine
  lent = lent_here p so own source long s n fo b low

  fits : fit p mine ≡ true
  fits = fit_here p so own source long s n fo b low

  pub collect_gives : tiles_left p mine b ≡ false → (old : List ℕ) → length old ≡ p.cells → (part_collect_call bytes route (to_part p b mine) b old).number ≡ 0
  collect_gives none old e = ap (λ (x : Answered (List ℕ)). x.number) (collect_on_part bytes route ok b low source mine lent fits none old e)

  pub none_left : (old : List ℕ) → (part_collect_call bytes route (to_part p b mine) b old).number ≡ 0 → tiles_left p mine b ≡ false
  none_left old z = (collect_asks bytes route ok b low source mine lent fits old z).1

  module _ (old : List ℕ) (z : (part_collect_call bytes route (to_part p b mine) b old).number ≡ 0) where
    abbrev new : List ℕ
    new = (part_collect_call bytes route (to_part p b mine) b old).after

    new_is : new ≡ part_collected p b (to_part p b mine) old
    new_is =
        let k = collect_asks bytes route ok b low source mine lent fits old z in
        after_of (collect_on_part bytes route ok b low source mine lent fits k.1 old k.0)

    abbrev word : ℕ → ℕ
    word c = pick (p.inside c) (pick (owns p b c) (get_or (memory_of p (from_part p b (to_part p b mine)) b) c 0) (get_or old c 0)) p.boundary

    at : (c : ℕ) → c < p.cells → get_or new c 0 ≡ word c
    unfolding part_collected
    at c l = ap (λ (x : List ℕ). get_or x c 0) new_is ∙ tabulate_at word p.cells c l

    new_long : length new ≡ p.cells
    unfolding part_collected
    new_long = ap length new_is ∙ length_tabulate word p.cells

    owned : (c : ℕ) → c < p.cells → p.inside c ≡ true → p.processor_of (p.tile_of c) ≡ b → owns p b c ≡ true
    owned c l i e = test_own p b c (p.tile_of c) (so.tile_low c l i) e (so.cell_in c l i)

    not_owned : (c : ℕ) → p.processor_of (p.tile_of c) ≢ b → owns p b c ≡ false
    not_owned c q = is_false (λ e. let k = own_test p b c e in q (rw (so.cell_of k.0 c k.1 k.3) k.2))

    pub collected_right : Collected p source b old new
    collected_right =
        record {
          long = new_long;
          own = λ c l i e.
              at c l ∙ pick_true _ _ _ i ∙ pick_true _ _ _ (owned c l i e)
              ∙ own_word_in p b low source mine lent c l (Keeps.own (p.tile_of c) (so.tile_low c l i) e (so.cell_in c l i))
              ∙ part_right p so source s n fo b c low (none_left old z) l i e;
          outside = λ c l o. at c l ∙ pick_false _ _ _ o;
          others = λ c l i q. at c l ∙ pick_true _ _ _ i ∙ pick_false _ _ _ (not_owned c q);
        }
