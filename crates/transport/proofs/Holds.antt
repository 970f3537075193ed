-- What is waited for is what a turn waits for, and an arrival is taking in.
use Rattle.std.specs.Prelude.{◌≡◌, ℕ, ◌<◌, Bool, true, false, eqb, ltb, ◌≢◌, List, [], ◌∷◌, length, get_or}
use mathlib.Core.Path.{refl, sym, ap, ◌∙◌}
use borrow.Author.Tests.{eqb-true, eq-eqb, ne_eqb, lt-ltb}
use Rattle.base.specs.Tests.{◌and◌, not, pick, some}
use Rattle.base.specs.Lists.{In, all_at}
use Rattle.base.specs.Numbers.{Line, line, first_of}
use Rattle.base.proofs.Tests.{both, and_true, not-true, not-false, false_not, never_both, same_test, some_at, some_one, pick_true}
use Rattle.base.proofs.Lists.{all_at_in, all_at_out}
use Rattle.base.proofs.Select.{in_those, those_in}
use Rattle.base.proofs.Numbers.{first_false, first_behind}
use Rattle.machine.specs.Plan.{Plan, count, taker_of, dues_of}
use Rattle.machine.specs.Machine.{State, tiles_left, current_tile, fit, waiting}
use Rattle.layout.specs.RouteWords.{route_of}
use Rattle.recipe.specs.Routes.{lines_for}
use Rattle.recipe.proofs.Laws.{numbered_for}
use Rattle.engine.specs.Calls.{recipe, areas}
use Rattle.network.specs.Apart.{received, replaced, arrived}
use Rattle.network.specs.Packets.{Network, network_of, arrive}
use Rattle.network.specs.Brought.{taken_by, as_long}
use Rattle.transport.specs.Calls.{awaits, take_in_call}
use Rattle.transport.specs.Holds.{WaitsAsTurns, coming_message, coming_words, comes_to, Comes, taken_in, MailHolds}
use Rattle.transport.proofs.arrivals.Taking.{long_is}
use Rattle.transport.proofs.Rows.{rows_at}

-- ---- what is waited for

module _ (p : Plan) (s : State) (b : ℕ) where
  abbrev t : ℕ
  t = current_tile p s b

  late_is : (m : ℕ) → not (eqb (get_or s.status m 0) 2) ≡ true → get_or s.status m 0 ≢ 2
  late_is m e q = never_both (eq-eqb _ _ q) (false_not e)

  is_due : (m : ℕ) → m < count p → awaits p s b m ≡ true → In m (dues_of p t) × (get_or s.status m 0 ≢ 2)
  unfolding awaits
  is_due m l e =
      let a = both e in
      let d = both a.1 in
      (in_those (taker_of p) t (count p) m l (eqb-true _ _ d.0), late_is m d.1)

  module _ (left : tiles_left p s b ≡ true) where
    to : some (awaits p s b) (count p) ≡ true → waiting p s b ≡ true
    unfolding awaits waiting
    to e =
        let r = some_at (awaits p s b) (count p) e in
        let d = is_due r.0 r.1 r.2 in
        and_true left (and_true (both r.2).0 (not-false (is_late (all_at s.status 2 (dues_of p t)) refl r.0 d.0 d.1)))
      where
        is_late : (v : Bool) → all_at s.status 2 (dues_of p t) ≡ v → (m : ℕ) → In m (dues_of p t) → get_or s.status m 0 ≢ 2 → v ≡ false
        is_late true q m i h = absurd (h (all_at_in s.status 2 (dues_of p t) q m i))
        is_late false q m i h = refl

    from : waiting p s b ≡ true → some (awaits p s b) (count p) ≡ true
    unfolding awaits waiting
    from e =
        let a = both (both e).1 in
        let o = all_at_out s.status 2 (dues_of p t) (false_not a.1) in
        let i = those_in (taker_of p) t (count p) o.0 o.1 in
        some_one (awaits p s b) (count p) o.0 i.0 (and_true a.0 (and_true (eq-eqb _ _ i.1) (not-false (ne_eqb _ _ o.2))))

    waits_is : some (awaits p s b) (count p) ≡ waiting p s b
    waits_is = same_test to from

waits_as_turns : (p : Plan) → WaitsAsTurns p
waits_as_turns p = record { waits = λ s b left. waits_is p s b left; due = λ s b m l e. is_due p s b m l e }

-- ---- an arrival

module _ (bytes : List ℕ) (route : ℕ) (read : first_of (lines_for (route_of route) bytes) ≡ 0) (source : List ℕ) (n : Network) (k : ℕ)
    (c : Comes (recipe bytes route) source n k) where
  abbrev p : Plan
  p = recipe bytes route

  abbrev m : ℕ
  m = coming_message n k

  abbrev b : ℕ
  b = comes_to p n k

  abbrev own : State
  own = n.areas b

  last : ℕ
  last = first_of (line 14 (not (eqb (get_or own.status m 0) 0)) ∷ [])

  as_long_lem : as_long p m (coming_words n k) ≡ true
  as_long_lem = long_is p m (coming_words n k) c.message ∙ eq-eqb _ _ c.long

  -- the lines from 11 on, from 10 on and from 9 on
  abbrev from11 : List Line
  from11 = line 11 (not (taken_by p b m)) ∷ line 14 (not (eqb (get_or own.status m 0) 0)) ∷ []

  abbrev from10 : List Line
  from10 = line 10 (not (fit p own)) ∷ from11

  abbrev from9 : List Line
  from9 = line 9 (not (areas p source own and as_long p m (coming_words n k))) ∷ from10

  call_number : (taken_in bytes route source n k).number ≡ last
  unfolding take_in_call last
  call_number =
      first_behind (lines_for (route_of route) bytes) from9 (numbered_for (route_of route) bytes) read
      ∙ first_false 9 (not (areas p source own and as_long p m (coming_words n k))) from10 (not-true (and_true c.lengths as_long_lem))
      ∙ first_false 10 (not (fit p own)) from11 (not-true c.fit)
      ∙ first_false 11 (not (taken_by p b m)) (line 14 (not (eqb (get_or own.status m 0) 0)) ∷ [])
      (not-true (and_true (lt-ltb m (count p) c.message) (eq-eqb b b refl)))

  arrive_number : (arrive p n k).number ≡ last
  unfolding arrive last
  arrive_number =
      first_false 11 (not (ltb k (length n.packets))) (line 14 (not (eqb (get_or own.status m 0) 0)) ∷ [])
      (not-true (lt-ltb k (length n.packets) c.there))

  same_number : (arrive p n k).number ≡ (taken_in bytes route source n k).number
  same_number = arrive_number ∙ sym call_number

  new : State
  new = received p own m (coming_words n k)

  arrives_there : arrived p n.areas m (coming_words n k) b ≡ new
  unfolding arrived replaced new
  arrives_there = pick_true _ _ _ (eq-eqb b b refl)

  by_number : (v : Bool)
      → (pick v (network_of (arrived p n.areas m (coming_words n k)) n.packets) n).areas b ≡ pick v new own
  unfolding pick
  by_number true = arrives_there
  by_number false = refl

  same_after : (arrive p n k).after.areas b ≡ (taken_in bytes route source n k).after
  unfolding arrive take_in_call new
  same_after = by_number (eqb (arrive p n k).number 0) ∙ ap (λ (i : ℕ). pick (eqb i 0) new own) same_number

pub mail_holds : (bytes : List ℕ) (route : ℕ) → MailHolds bytes route
mail_holds bytes route =
    record {
      rows = λ m h. rows_at (recipe bytes route) (count (recipe bytes route)) m h;
      waiting = waits_as_turns (recipe bytes route);
      arriving = λ read. record {
        number = λ source n k c. same_number bytes route read source n k c;
        after = λ source n k c. same_after bytes route read source n k c;
      };
    }
