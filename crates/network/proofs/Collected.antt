-- Parts put into a grid in any order: once each board's was put there, the grid is the sequential sweep.
use Prim.Native.Nat.{ℕ, ◌<◌}
use mathlib.Core.Path.{◌≡◌, refl, sym, ◌∙◌}
use mathlib.Core.Logic.{inl, inr}
use mathlib.Core.Bool.{Bool, true, false}
use mathlib.Core.List.{List, [], ◌∷◌}
use native.Mathlib.Omega.{arith}
use native.Mathlib.Decide.{ℕ_discrete}
use lib.ListN.{length, get_or}
use lib.Seq.{ext_get_or}
use Rattle.base.specs.Lists.{In}
use Rattle.machine.specs.Plan.{Plan, Sound}
use Rattle.machine.specs.Machine.{sweep}
use Rattle.machine.proofs.Values.{sweep_outside, sweep_length}
use Rattle.network.specs.OnBoards.{Collected, CollectedAll, InAnyOrder}

module _ (p : Plan) (source : List ℕ) where
  abbrev owner : ℕ → ℕ
  owner c = p.processor_of (p.tile_of c)

  -- a word that is right stays so
  module _ (c : ℕ) (l : c < p.cells) (i : p.inside c ≡ true) where
    one_stays : (b : ℕ) (old new : List ℕ) → Collected p source b old new → get_or old c 0 ≡ get_or (sweep p source) c 0 → get_or new c 0 ≡ get_or (sweep p source) c 0
    one_stays b old new k e = go (ℕ_discrete (owner c) b)
      where
        go : Dec (owner c ≡ b) → get_or new c 0 ≡ get_or (sweep p source) c 0
        go (yes q) = k.own c l i q
        go (no q) = k.others c l i q ∙ e

    stays : {bs old new : List ℕ} → CollectedAll p source bs old new → get_or old c 0 ≡ get_or (sweep p source) c 0 → get_or new c 0 ≡ get_or (sweep p source) c 0
    stays CollectedAll.none e = e
    stays (CollectedAll.next {b = b} {old = old} {grid = grid} k r) e = stays r (one_stays b old grid k e)

    -- and is right from its board's collecting on
    becomes : {bs old new : List ℕ} → CollectedAll p source bs old new → In (owner c) bs → get_or new c 0 ≡ get_or (sweep p source) c 0
    becomes CollectedAll.none h = absurd h
    becomes (CollectedAll.next k r) (inl e) = stays r (k.own c l i e)
    becomes (CollectedAll.next k r) (inr h) = becomes r h

  -- outside the shape, and the length, from the first one on
  outside_stays : (c : ℕ) → c < p.cells → p.inside c ≡ false → {bs old new : List ℕ} → CollectedAll p source bs old new → get_or old c 0 ≡ p.boundary
      → get_or new c 0 ≡ p.boundary
  outside_stays c l o CollectedAll.none e = e
  outside_stays c l o (CollectedAll.next k r) e = outside_stays c l o r (k.outside c l o)

  outside_becomes : (c : ℕ) → c < p.cells → p.inside c ≡ false → {b : ℕ} {bs old new : List ℕ} → CollectedAll p source (b ∷ bs) old new
      → get_or new c 0 ≡ p.boundary
  outside_becomes c l o (CollectedAll.next k r) = outside_stays c l o r (k.outside c l o)

  length_stays : {bs old new : List ℕ} → CollectedAll p source bs old new → length old ≡ p.cells → length new ≡ p.cells
  length_stays CollectedAll.none e = e
  length_stays (CollectedAll.next k r) e = length_stays r k.long

  length_becomes : {b : ℕ} {bs old new : List ℕ} → CollectedAll p source (b ∷ bs) old new → length new ≡ p.cells
  length_becomes (CollectedAll.next k r) = length_stays r k.long

pub in_any_order : (p : Plan) → Sound p → (source : List ℕ) → InAnyOrder p source
in_any_order p so source [] old new pos all k = absurd (all 0 (omega arith))
in_any_order p so source (b ∷ bs) old new pos all k =
    ext_get_or 0 new (sweep p source) (length_becomes p source k ∙ sym (sweep_length p source (so.local source) so.earlier p.cells))
    (λ c h. go c (rw (length_becomes p source k) at h) (p.inside c) refl)
  where
    go : (c : ℕ) → c < p.cells → (i : Bool) → p.inside c ≡ i → get_or new c 0 ≡ get_or (sweep p source) c 0
    go c l true i = becomes p source c l i k (all _ (so.processor_low _ (so.tile_low c l i)))
    go c l false o = outside_becomes p source c l o k ∙ sym (sweep_outside p source (so.local source) so.earlier c l o)
