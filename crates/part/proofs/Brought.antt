-- Laws of the cells that messages bring: a message's cells marked, and the cells kept once so many messages are looked at.
use Prim.Native.Nat.{ℕ, suc, ◌+◌, ◌≤◌, ◌<◌}
use mathlib.Core.Path.{◌≡◌, refl, sym, ap, ◌∙◌}
use mathlib.Core.Logic.{◌⊎◌, inl, inr}
use mathlib.Core.Bool.{Bool, true, false}
use mathlib.Core.List.{List}
use native.Mathlib.Numerals.{add-one}
use native.Mathlib.Omega.{arith}
use lib.ListN.{length, get_or, drop, set, length-set, drop_of_length-le}
use lib.Seq.{ext_get_or, drop-cons}
use lib.Dec.{eqb}
use Rattle.base.specs.Tests.{◌and◌, ◌or◌, one, pick, some, tabulate}
use Rattle.base.specs.Lists.{In, member, set_all}
use Rattle.base.proofs.Tests.{and_true, and_false, and_no, or_right, pick_true, pick_false, one_true, never_both, length_tabulate, tabulate_at}
use Rattle.base.proofs.Lists.{in_member, member_in, set_all_length, set_all_other, set_all_same}
use Rattle.machine.specs.Plan.{Plan, Sound, count, held_by}
use Rattle.network.specs.Apart.{taker_at}
use Rattle.network.specs.Own.{owns, keeps}

-- ---- these cells marked

-- what is left gives the same
pub record MarkingList (old cells new : List ℕ) (i : ℕ) : Type 0 where
  pub long : length new ≡ length old
  pub low : i ≤ length cells
  pub is : set_all new (drop i cells) 1 ≡ set_all old cells 1

module _ (old cells : List ℕ) where
  pub list_start : MarkingList old cells old 0
  list_start = record { long = refl; low = omega arith; is = refl }

  module _ (new : List ℕ) (i : ℕ) (g : MarkingList old cells new i) where
    pub list_next : i < length cells → (c : ℕ) → c ≡ get_or cells i 0 → MarkingList old cells (set new c 1) (i + 1)
    unfolding set_all
    list_next l c e =
        record {
          long = length-set new c 1 ∙ g.long;
          low = omega arith;
          is = ap (λ (k : ℕ). set_all (set new c 1) (drop k cells) 1) (add-one i)
              ∙ ap (λ (k : ℕ). set_all (set new k 1) (drop (suc i) cells) 1) e
              ∙ ap (λ (cs : List ℕ). set_all new cs 1) (sym (drop-cons cells i 0 l))
              ∙ g.is;
        }

    pub list_done : length cells ≤ i → new ≡ set_all old cells 1
    unfolding set_all
    list_done h = ap (λ (cs : List ℕ). set_all new cs 1) (sym (drop_of_length-le cells h)) ∙ g.is

-- the cells of a message are cells
pub held_below : (p : Plan) → Sound p → (m : ℕ) → m < count p → (cells marks : List ℕ) → cells ≡ held_by p m → length marks ≡ p.cells
    → (c : ℕ) → In c cells → c < length marks
held_below p so m low cells marks e long c i = rw long (so.held_low m c low (rw e at i))

-- ---- one message

module _ (p : Plan) (b m : ℕ) (taken : Bool) (is : taken ≡ eqb (taker_at p m) b) where
  pub brought : (marks marks' : List ℕ) → taken ≡ true → marks' ≡ set_all marks (held_by p m) 1
      → marks' ≡ pick (eqb (taker_at p m) b) (set_all marks (held_by p m) 1) marks
  brought marks marks' h q = q ∙ sym (pick_true _ _ _ (sym is ∙ h))

  pub elsewhere : (marks new : List ℕ) → taken ≡ false → marks ≡ pick (eqb (taker_at p m) b) new marks
  elsewhere marks new h = sym (pick_false _ _ _ (sym is ∙ h))

-- ---- all of them

or_none : (a b : Bool) → b ≡ false → (a or b) ≡ a
unfolding ◌or◌
or_none true b e = refl
or_none false b e = e

module _ (p : Plan) (b : ℕ) where
  abbrev brings : ℕ → ℕ → Bool
  brings c m = eqb (taker_at p m) b and member c (held_by p m)

  -- the cell is the processor's, or one of the first m messages brings it
  abbrev kept_by : ℕ → ℕ → Bool
  kept_by m c = owns p b c or some (brings c) m

  not_brought : (m c : ℕ) → brings c m ≡ false → kept_by (suc m) c ≡ kept_by m c
  unfolding some
  not_brought m c e = ap (λ (t : Bool). owns p b c or t) (or_none (some (brings c) m) (brings c m) e)

  now_brought : (m c : ℕ) → brings c m ≡ true → kept_by (suc m) c ≡ true
  unfolding some
  now_brought m c e = or_right (owns p b c) (or_right (some (brings c) m) e)

  pub record Keeping (marks : List ℕ) (m : ℕ) : Type 0 where
    pub long : length marks ≡ p.cells
    pub each : (c : ℕ) → c < p.cells → get_or marks c 0 ≡ one (kept_by m c)

  pub keep_start : (marks : List ℕ) → marks ≡ tabulate (λ c. one (owns p b c)) p.cells → Keeping marks 0
  unfolding some
  keep_start marks e =
      record {
        long = ap length e ∙ length_tabulate _ p.cells;
        each = λ c l.
            ap (λ (ws : List ℕ). get_or ws c 0) e ∙ tabulate_at (λ c. one (owns p b c)) p.cells c l ∙ ap one (sym (or_none (owns p b c) false refl));
      }

  module _ (so : Sound p) (marks : List ℕ) (m : ℕ) (g : Keeping marks m) where
    module _ (low : m < count p) where
      abbrev cs : List ℕ
      cs = held_by p m

      abbrev new : List ℕ
      new = set_all marks cs 1

      taken : eqb (taker_at p m) b ≡ true → (c : ℕ) → c < p.cells → get_or new c 0 ≡ one (kept_by (suc m) c)
      taken e c l = go (member c cs) refl
        where
          go : (t : Bool) → member c cs ≡ t → get_or new c 0 ≡ one (kept_by (suc m) c)
          go true q = set_all_same cs marks 1 c (omega (arith, l, g.long)) (member_in c cs q) ∙ sym (one_true (now_brought m c (and_true e q)))
          go false q =
              set_all_other cs marks 1 c (λ i. never_both (in_member c cs i) q) ∙ g.each c l
              ∙ ap one (sym (not_brought m c (and_no _ _ q)))

      pub keep_next : (marks' : List ℕ) → marks' ≡ pick (eqb (taker_at p m) b) new marks → Keeping marks' (m + 1)
      keep_next marks' e = rw (add-one m) (go (eqb (taker_at p m) b) refl)
        where
          go : (t : Bool) → eqb (taker_at p m) b ≡ t → Keeping marks' (suc m)
          go true q =
              let z : marks' ≡ new = e ∙ pick_true _ _ _ q in
              rw z (record { long = set_all_length cs marks 1 ∙ g.long; each = λ c l. taken q c l })
          go false q =
              let z : marks' ≡ marks = e ∙ pick_false _ _ _ q in
              rw z (record { long = g.long; each = λ c l. g.each c l ∙ ap one (sym (not_brought m c (and_false _ _ q))) })

    -- a message looked at, or none
    pub keep_turn : (marks' : List ℕ) (m' : ℕ)
        → ((m < count p) × (marks' ≡ pick (eqb (taker_at p m) b) (set_all marks (held_by p m) 1) marks) × (m' ≡ m + 1)) ⊎ ((marks' ≡ marks) × (m' ≡ m))
        → Keeping marks' m'
    keep_turn marks' m' (inl q) = rw q.2 (keep_next q.0 marks' q.1)
    keep_turn marks' m' (inr q) = rw (q.0, q.1) g

    pub keep_done : m ≡ count p → marks ≡ tabulate (λ c. one (keeps p b c)) p.cells
    unfolding keeps
    keep_done e =
        ext_get_or 0 marks (tabulate (λ c. one (keeps p b c)) p.cells) (g.long ∙ sym (length_tabulate (λ c. one (keeps p b c)) p.cells))
        (λ c l.
        g.each c (omega (arith, g.long)) ∙ ap (λ (k : ℕ). one (kept_by k c)) e
        ∙ sym (tabulate_at (λ c. one (keeps p b c)) p.cells c (omega (arith, g.long))))
