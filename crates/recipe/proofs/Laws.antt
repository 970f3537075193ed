-- Laws of the lines of a call that is given a route, and the returns of `read_for`.
use Prim.Native.Nat.{ℕ, zero, suc, ◌<◌}
use Rattle.std.specs.Prelude.{Ok, Err}
use mathlib.Core.Path.{◌≡◌, refl, sym, ap, ◌∙◌}
use mathlib.Core.Logic.{◌≢◌}
use mathlib.Core.Bool.{true, false}
use mathlib.Core.List.{List, [], ◌∷◌, ◌++◌}
use native.Mathlib.Omega.{arith}
use lib.Dec.{ltb}
use borrow.Author.Tests.{lt-ltb, ltb-false}
use Rattle.base.specs.Tests.{◌and◌}
use Rattle.base.specs.declared.refusal.Refusal.{Refusal}
use Rattle.base.specs.declared.refusal.Refusal.TheVariants as refusal
use Rattle.base.proofs.Codes.{code_some}
use Rattle.base.specs.Numbers.{Line, first_of}
use Rattle.base.proofs.Tests.{and_true, and_false, and_no}
use Rattle.base.proofs.Numbers.{Numbered, first_nil, first_true, first_false, none_first, first_some, first_behind, none_front, none_behind}
use Rattle.nest.specs.declared.Nest.{Nest}
use Rattle.nest.specs.Reader.{read_lines, nest_of, Reads}
use Rattle.nest.specs.Accepted.{Accepted}
use Rattle.nest.proofs.Numbered.{numbered}
use Rattle.nest.proofs.Answers.{refused_read}
use Rattle.nest.proofs.Facts.{accepted}
use Rattle.plan.specs.declared.Route.{Route}
use Rattle.plan.specs.declared.Route.TheVariants.{Direct, Indirect}
use Rattle.plan.specs.Shaped.{plan_of}
use Rattle.layout.specs.declared.Layout.{Layout}
use Rattle.layout.specs.RouteWords.{route_of}
use Rattle.tables.specs.declared.Table.{Table}
use Rattle.recipe.specs.Routes.{indirect, route_lines, lines_for, ReadFor}
use Rattle.recipe.specs.Given.{Opened, LaidOut, LaysOut, Opens}

both_numbered : (a b : List Line) → Numbered a → Numbered b → Numbered (a ++ b)
both_numbered [] b n m = m
both_numbered (l ∷ a) b n m = (n.0, both_numbered a b n.1 m)

module _ (r : Route) (bytes : List ℕ) where
  -- none of them has the number 0
  pub numbered_for : Numbered (lines_for r bytes)
  unfolding lines_for
  numbered_for = both_numbered (read_lines bytes) (route_lines r (nest_of bytes)) (numbered bytes) (λ q. omega arith, tt)

  -- where none holds, none of the reader's does
  pub reads_for : first_of (lines_for r bytes) ≡ 0 → first_of (read_lines bytes) ≡ 0
  unfolding lines_for
  reads_for z = none_front (read_lines bytes) (route_lines r (nest_of bytes)) z

  -- and 21 does not
  pub open_for : first_of (lines_for r bytes) ≡ 0 → (indirect r and ltb 0 (nest_of bytes).bounds) ≡ false
  unfolding lines_for
  open_for z =
      (none_first 21 (indirect r and ltb 0 (nest_of bytes).bounds) [] (λ q. omega arith)
      (none_behind (read_lines bytes) (route_lines r (nest_of bytes)) (numbered bytes) z)).0

  refused_for : first_of (read_lines bytes) ≢ 0 → first_of (lines_for r bytes) ≡ first_of (read_lines bytes)
  unfolding lines_for
  refused_for h = first_some (read_lines bytes) (route_lines r (nest_of bytes)) h

  pub passed_for : first_of (read_lines bytes) ≡ 0 → (indirect r and ltb 0 (nest_of bytes).bounds) ≡ false → first_of (lines_for r bytes) ≡ 0
  unfolding lines_for
  passed_for z h =
      first_behind (read_lines bytes) (route_lines r (nest_of bytes)) (numbered bytes) z
      ∙ (first_false 21 (indirect r and ltb 0 (nest_of bytes).bounds) [] h ∙ first_nil)

  barred_for : first_of (read_lines bytes) ≡ 0 → (indirect r and ltb 0 (nest_of bytes).bounds) ≡ true → first_of (lines_for r bytes) ≡ 21
  unfolding lines_for
  barred_for z h =
      first_behind (read_lines bytes) (route_lines r (nest_of bytes)) (numbered bytes) z
      ∙ first_true 21 (indirect r and ltb 0 (nest_of bytes).bounds) [] h

-- a recipe without bounds is open to either route, every recipe to the direct one
pub box_open : (r : Route) (x : Nest) → x.bounds ≡ 0 → (indirect r and ltb 0 x.bounds) ≡ false
box_open r x e = and_no (indirect r) (ltb 0 x.bounds) (rw e refl)

pub direct_open : (x : Nest) → (indirect Direct and ltb 0 x.bounds) ≡ false
unfolding indirect
direct_open x = and_false false (ltb 0 x.bounds) refl

pub open_direct : (bytes : List ℕ) → first_of (read_lines bytes) ≡ 0 → first_of (lines_for (route_of 0) bytes) ≡ 0
unfolding route_of
open_direct bytes z = passed_for Direct bytes z (direct_open (nest_of bytes))

-- so where indirect passing was wanted and no line holds, the recipe has no bounds
pub indirect_box : (bytes : List ℕ) → first_of (lines_for Indirect bytes) ≡ 0 → (nest_of bytes).bounds ≡ 0
unfolding indirect ◌and◌
indirect_box bytes z = go (nest_of bytes).bounds (open_for Indirect bytes z)
  where
    go : (n : ℕ) → (indirect Indirect and ltb 0 n) ≡ false → n ≡ 0
    go n h = let l = ltb-false 0 n h in omega (arith, l)

-- ---- the returns

pub reader's : {bytes : List ℕ} {e : Refusal} (r : Route) → Reads bytes (Err e) → ReadFor r bytes (Err e)
reader's {bytes = bytes} r is = record { number = is.number ∙ sym (refused_for r bytes (refused_read is)); nest = tt; bytes_are = tt }

module _ {bytes : List ℕ} {x : Nest} (is : Reads bytes (Ok x)) where
  passes : (r : Route) → (indirect r and ltb 0 x.bounds) ≡ false → ReadFor r bytes (Ok x)
  passes r h =
      record {
        number = sym (passed_for r bytes (sym is.number) (rw is.nest at h));
        nest = is.nest;
        bytes_are = is.bytes_are;
      }

  pub without : (r : Route) → x.bounds ≡ 0 → ReadFor r bytes (Ok x)
  without r e = passes r (box_open r x e)

  pub straight : (r : Route) → Direct ≡ r → ReadFor r bytes (Ok x)
  straight r e = rw (sym e) (passes Direct (direct_open x))

  pub barred : (r : Route) → Indirect ≡ r → 0 < x.bounds → ReadFor r bytes (Err refusal.DirectOnly)
  unfolding indirect
  barred r e h =
      record {
        number =
            sym (barred_for r bytes (sym is.number)
            (rw (sym e) (and_true refl (rw is.nest at (lt-ltb 0 x.bounds h)))));
        nest = tt;
        bytes_are = tt;
      }

-- ---- what a caller has of it

pub refused_for_route : {r : Route} {bytes : List ℕ} {e : Refusal} → ReadFor r bytes (Err e) → first_of (lines_for r bytes) ≢ 0
refused_for_route {e = e} is z = code_some e (is.number ∙ z)

module _ {r : Route} {bytes : List ℕ} {x : Nest} (is : ReadFor r bytes (Ok x)) where
  pub none_for : first_of (lines_for r bytes) ≡ 0
  none_for = sym is.number

  pub accepted_for : Accepted x
  accepted_for = rw is.nest (accepted bytes is.bytes_are (reads_for r bytes none_for))

  -- on the indirect route it has no bounds
  pub routed_for : x.bounds ≢ 0 → r ≡ Direct
  routed_for h = go r is
    where
      go : (q : Route) → ReadFor q bytes (Ok x) → q ≡ Direct
      go Direct i = refl
      go Indirect i = absurd (h (ap (λ (y : Nest). y.bounds) i.nest ∙ indirect_box bytes (sym i.number)))

-- ---- a recipe with its counts and its table

pub laid_out : (bytes : List ℕ) (word : ℕ) {x : Nest} → ReadFor (route_of word) bytes (Ok x) → (l : Layout) → l.nest ≡ x
    → l.sizes.route ≡ route_of word → LaysOut bytes word (Ok l)
laid_out bytes word {x = x} is l n e =
    record {
      number = is.number;
      layout =
          record {
            nest = n ∙ is.nest;
            route = e;
            routed = rw n (λ h. e ∙ routed_for is h);
            opened =
                record {
                  none = none_for is;
                  is = ap (λ (r : Route). plan_of r l.nest) e ∙ ap (plan_of (route_of word)) (n ∙ is.nest);
                };
          };
    }

pub refused_layout : (bytes : List ℕ) (word : ℕ) {e : Refusal} → ReadFor (route_of word) bytes (Err e) → LaysOut bytes word (Err e)
refused_layout bytes word is = record { number = is.number; layout = tt }

pub refused_table : (bytes : List ℕ) (word : ℕ) {e : Refusal} → LaysOut bytes word (Err e) → Opens bytes word (Err e)
refused_table bytes word is = record { number = is.number; layout = tt }

pub opens_with : (bytes : List ℕ) (word : ℕ) (l : Layout) → LaysOut bytes word (Ok l) → (t : Table) → t.layout ≡ l → Opens bytes word (Ok t)
opens_with bytes word l is t e = record { number = is.number; layout = rw e is.layout }

-- a recipe that reads is open to the direct one
pub direct_opened : (bytes : List ℕ) → first_of (read_lines bytes) ≡ 0 → Opened bytes 0 (plan_of Direct (nest_of bytes))
unfolding route_of
direct_opened bytes z = record { none = open_direct bytes z; is = refl }

-- a recipe opened for the direct route is refused by the reader's lines alone
pub direct_lines : (bytes : List ℕ) → first_of (lines_for (route_of 0) bytes) ≡ first_of (read_lines bytes)
direct_lines bytes = go (first_of (read_lines bytes)) refl
  where
    go : (n : ℕ) → first_of (read_lines bytes) ≡ n → first_of (lines_for (route_of 0) bytes) ≡ first_of (read_lines bytes)
    go zero e = open_direct bytes e ∙ sym e
    go (suc n) e = refused_for (route_of 0) bytes (λ z. omega (arith, e, z))
