-- What `owners` tells is the processor of a cell's tile, on either route: so the cells told for a board are its own.
use Prim.Native.Nat.{ℕ, ◌<◌}
use mathlib.Core.Path.{◌≡◌, refl, sym, ap, ◌∙◌}
use mathlib.Core.Bool.{Bool, true, false}
use mathlib.Core.List.{List}
use native.Mathlib.Omega.{arith}
use lib.ListN.{length, get_or}
use lib.Dec.{eqb}
use borrow.Author.Tests.{eq-eqb, ne_eqb, eqb-true}
use Rattle.base.specs.Tests.{tabulate}
use Rattle.base.specs.Lists.{Bytes, In, pack}
use Rattle.base.specs.Numbers.{first_of}
use Rattle.base.proofs.Tests.{is_false, same_test, or_left, pick_true, pick_false, length_tabulate, tabulate_at, never_both}
use Rattle.base.proofs.Select.{keep_in, in_keep, keep_same}
use Rattle.machine.specs.Plan.{Plan, Sound}
use Rattle.machine.proofs.RunLaws.{number_of, after_of}
use Rattle.nest.specs.Accepted.{Accepted}
use Rattle.nest.specs.Reader.{nest_of}
use Rattle.plan.specs.declared.Route.{Route}
use Rattle.plan.specs.declared.Route.TheVariants.{Direct, Indirect}
use Rattle.plan.specs.Shaped.{plan_of}
use Rattle.plan.proofs.ShapedBox.{plan_of_box}
use Rattle.plan.proofs.ShapedSound.{sound}
use Rattle.layout.specs.RouteWords.{route_of}
use Rattle.recipe.specs.Routes.{lines_for}
use Rattle.recipe.proofs.Laws.{indirect_box}
use Rattle.engine.specs.Calls.{answer, recipe}
use Rattle.network.specs.Own.{owns, keeps, own_cells, kept_cells}
use Rattle.network.proofs.Own.{own_test, test_own}
use Rattle.network.proofs.Network.{zero_answer}
use Rattle.transport.specs.Calls.{owner_of, owners_lines, owners_call}
use Rattle.network_runs.specs.Owners.{cells_for, OwnersTell, OwnersOwn}
use Rattle.network_runs.proofs.part.Demands.{nest_of_lem}

-- the owner is the same on each open route
same_owner : (bytes : List ℕ) → Accepted (nest_of bytes) → (r : Route) → first_of (lines_for r bytes) ≡ 0 → (c : ℕ)
    → owner_of (plan_of Direct (nest_of bytes)) c ≡ owner_of (plan_of r (nest_of bytes)) c
same_owner bytes ac Direct ok c = refl
same_owner bytes ac Indirect ok c = ap (λ (p : Plan). owner_of p c) (plan_of_box Direct (nest_of bytes) ac (indirect_box bytes ok))

module _ (p : Plan) (so : Sound p) (b : ℕ) (low : b < p.processors) where
  owner_own : (c : ℕ) → c < p.cells → eqb (owner_of p c) b ≡ owns p b c
  owner_own c l = go (p.inside c) refl
    where
      go : (i : Bool) → p.inside c ≡ i → eqb (owner_of p c) b ≡ owns p b c
      go true i =
          ap (λ (k : ℕ). eqb k b) (pick_true _ _ p.processors i)
          ∙ same_test (λ e. test_own p b c (p.tile_of c) (so.tile_low c l i) (eqb-true _ _ e) (so.cell_in c l i))
          (λ e. let k = own_test p b c e in eq-eqb _ _ (ap p.processor_of (so.cell_of k.0 c k.1 k.3) ∙ k.2))
      go false o =
          ap (λ (k : ℕ). eqb k b) (pick_false _ _ p.processors o)
          ∙ ne_eqb p.processors b (λ e. omega arith)
          ∙ sym (is_false (λ e. let k = own_test p b c e in never_both (so.cell_inside k.0 c k.1 k.3) o))

module _ (bytes : List ℕ) (route : ℕ) (old told : List ℕ) (small : Bytes bytes) (ok : first_of (lines_for (route_of route) bytes) ≡ 0)
    (e : answer 0 told ≡ owners_call bytes old) where
  abbrev p : Plan
  p = recipe bytes route

  ac : Accepted (nest_of bytes)
  ac = nest_of_lem bytes route small ok

  so : Sound p
  so = sound (route_of route) (nest_of bytes) ac

  told_is : told ≡ tabulate (owner_of (recipe bytes 0)) (recipe bytes 0).cells
  unfolding owners_call
  told_is = after_of e ∙ after_of (zero_answer (first_of (owners_lines bytes old)) _ old (sym (number_of e)))

  told_long : length told ≡ p.cells
  told_long = ap length told_is ∙ length_tabulate _ p.cells

  told_at : (c : ℕ) → c < p.cells → get_or told c 0 ≡ owner_of p c
  unfolding route_of
  told_at c l =
      ap (λ (x : List ℕ). get_or x c 0) told_is ∙ tabulate_at (owner_of (recipe bytes 0)) p.cells c l ∙ same_owner bytes ac (route_of route) ok c

  cells_are : (b : ℕ) → b < p.processors → cells_for told b ≡ own_cells p b
  cells_are b h =
      rw told_long
      (keep_same (λ c. eqb (get_or told c 0) b) (owns p b) p.cells (λ c l. ap (λ (k : ℕ). eqb k b) (told_at c l) ∙ owner_own p so b h c l))

  in_kept : (b c : ℕ) → In c (own_cells p b) → In c (kept_cells p b)
  unfolding keeps
  in_kept b c i = let k = keep_in (owns p b) p.cells c i in in_keep (keeps p b) p.cells c k.0 (or_left _ k.1)

  tells : OwnersTell bytes route told
  tells =
      record {
        long = told_long;
        cells_are_own = cells_are;
        own_source = λ b h source. ap (pack source) (cells_are b h);
        kept = λ b c h i. in_kept b c (rw (cells_are b h) at i);
        some_board = λ c l i. rw (told_at c l, pick_true _ (p.processor_of (p.tile_of c)) p.processors i) (so.processor_low _ (so.tile_low c l i));
        no_board = λ c b l o h q. omega (arith, sym (told_at c l ∙ pick_false _ (p.processor_of (p.tile_of c)) p.processors o) ∙ q);
      }

pub owners_own : OwnersOwn
owners_own = tells
