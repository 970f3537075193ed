-- Which route a word names.
use Prim.Native.Nat.{ℕ, zero, suc}
use mathlib.Core.Path.{◌≡◌, refl, sym, ap, ◌∙◌}
use mathlib.Core.Logic.{◌≢◌, ◌↔◌}
use native.Mathlib.Omega.{arith}
use Rattle.plan.specs.declared.Route.{Route}
use Rattle.plan.specs.declared.Route.TheVariants.{Direct, Indirect}
use Rattle.layout.specs.RouteWords.{route_of}
use Rattle.layout.specs.RouteWords.{RouteWords}

-- a number for each route, so that the two differ
tag : Route → ℕ
tag Direct = 0
tag Indirect = 1

differ : Direct ≢ Indirect
unfolding tag
differ e = let h : ◌≡◌ {A = ℕ} 0 1 = ap tag e in omega arith

to_direct : (w : ℕ) → (route_of w ≡ Direct) ↔ (w ≡ 0)
unfolding route_of
to_direct zero = ((λ e. refl), (λ e. refl))
to_direct (suc w) = ((λ e. absurd (differ (sym e))), (λ e. absurd (omega arith)))

to_indirect : (w : ℕ) → (route_of w ≡ Indirect) ↔ (w ≢ 0)
unfolding route_of
to_indirect zero = ((λ e. absurd (differ e)), (λ h. absurd (h refl)))
to_indirect (suc w) = ((λ e z. omega arith), (λ h. refl))

pub route_words : RouteWords
route_words =
    record {
      direct = to_direct;
      indirect = to_indirect;
      alike = λ v w h k. (to_indirect v).1 h ∙ sym ((to_indirect w).1 k);
      apart = λ w h e. differ (sym ((to_direct 0).1 refl) ∙ (sym e ∙ (to_indirect w).1 h));
    }
