-- A slot's cells among the first ones of its box: how they grow, and the loops that count and unpack them.
use Prim.Native.Nat.{ℕ, ◌+◌, ◌*◌, ◌≤◌}
use mathlib.Core.Path.{◌≡◌, refl, sym, ap, ◌∙◌}
use mathlib.Core.Bool.{Bool, true, false}
use mathlib.Core.List.{List, [], ◌∷◌, ◌++◌}
use native.Mathlib.Numerals.{add-one}
use native.Mathlib.Omega.{arith}
use lib.ListN.{length, take, length-map}
use lib.Seq.{take-length}
use Rattle.base.specs.Tests.{keep}
use Rattle.base.specs.Lists.{unpack}
use Rattle.base.proofs.Select.{keep_hit, keep_none, keep_few, keep_mono}
use Rattle.base.proofs.Lists.{unpack_length}
pub use Rattle.base.proofs.Lists.{pack_append, unpack_append}
use Rattle.nest.specs.declared.Nest.{Nest}
use Rattle.layout.specs.Regions.{comes_into}
use Rattle.plan.proofs.Grid.{map-append}
use Rattle.parcels.specs.declared.Sending.{Sending}
use Rattle.parcels.specs.Windows.{window_of}
use Rattle.parcels.specs.Sendings.{found, place_in, cell_in}

-- ---- they grow

-- some distance puts the q-th cell of the box into the window
abbrev pub meets : Nest → Sending → ℕ → Bool
meets x z q = comes_into x (window_of z.window) (place_in x z q)

module _ (x : Nest) (z : Sending) where
  pub found_none : found x z 0 ≡ []
  unfolding found keep
  found_none = refl

  pub found_hit : (q : ℕ) → meets x z q ≡ true → found x z (q + 1) ≡ found x z q ++ (cell_in x z q ∷ [])
  unfolding found
  found_hit q e = rw (add-one q, keep_hit (meets x z) q e) (map-append (cell_in x z) (keep (meets x z) q) (q ∷ []))

  pub found_miss : (q : ℕ) → meets x z q ≡ false → found x z (q + 1) ≡ found x z q
  unfolding found
  found_miss q e = rw (add-one q, keep_none (meets x z) q e)

  pub found_few : (q : ℕ) → length (found x z q) ≤ q
  unfolding found
  found_few q = simp length-map (keep_few (meets x z) q)

  pub found_mono : (n q : ℕ) → q ≤ n → length (found x z q) ≤ length (found x z n)
  unfolding found
  found_mono n q h = simp length-map (keep_mono (meets x z) n q h)

-- ---- counting

pub record Measuring (x : Nest) (z : Sending) (count q : ℕ) : Type 0 where
  pub low : q ≤ z.rows * z.width
  pub is : count ≡ length (found x z q)

module _ (x : Nest) (z : Sending) where
  pub measure_none : Measuring x z 0 0
  measure_none = record { low = omega arith; is = ap length (sym (found_none x z)) }

  pub measure_few : (count q : ℕ) → Measuring x z count q → count ≤ z.rows * z.width
  measure_few count q m = omega (arith, m.low, m.is, found_few x z q)

  pub measure_all : (count q : ℕ) → Measuring x z count q → z.rows * z.width ≤ q → count ≡ length (found x z (z.rows * z.width))
  measure_all count q m h = let e : q ≡ z.rows * z.width = omega (arith, m.low) in m.is ∙ ap (λ (k : ℕ). length (found x z k)) e

-- ---- unpacking

pub record Unpacking (x : Nest) (z : Sending) (memory₀ words memory : List ℕ) (count q : ℕ) : Type 0 where
  pub low : q ≤ z.rows * z.width
  pub count_is : count ≡ length (found x z q)
  pub is : memory ≡ unpack memory₀ (found x z q) (take count words)

module _ (x : Nest) (z : Sending) (memory₀ words : List ℕ) where
  pub unpacking_none : Unpacking x z memory₀ words memory₀ 0 0
  unfolding unpack
  unpacking_none =
      record {
        low = omega arith;
        count_is = ap length (sym (found_none x z));
        is = ap (λ (k : List ℕ). unpack memory₀ k []) (sym (found_none x z));
      }

  module _ (memory : List ℕ) (count q : ℕ) (p : Unpacking x z memory₀ words memory count q) where
    pub unpacking_long : length memory ≡ length memory₀
    unpacking_long = ap length p.is ∙ unpack_length (found x z q) (take count words) memory₀

    pub unpacked : z.rows * z.width ≤ q → length words ≡ length (found x z (z.rows * z.width))
        → memory ≡ unpack memory₀ (found x z (z.rows * z.width)) words
    unpacked h e =
        let k : q ≡ z.rows * z.width = omega (arith, p.low) in
        let m : count ≡ length words = p.count_is ∙ ap (λ (a : ℕ). length (found x z a)) k ∙ sym e in
        p.is
        ∙ ap (λ (a : ℕ). unpack memory₀ (found x z a) (take count words)) k
        ∙ ap (λ (a : ℕ). unpack memory₀ (found x z (z.rows * z.width)) (take a words)) m
        ∙ ap (unpack memory₀ (found x z (z.rows * z.width))) (take-length words)
