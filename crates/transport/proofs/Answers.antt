-- Each call by the line that counts.
use Rattle.std.specs.Prelude.{◌≡◌, ℕ, ◌*◌, ◌<◌, ◌≤◌, Bool, true, false, eqb, ltb, ◌≢◌, List, [], ◌∷◌, ◌++◌, length, get_or}
use mathlib.Core.Path.{sym, ap, ◌∙◌}
use native.Mathlib.Omega.{arith}
use borrow.Author.Tests.{eq-eqb, ne_eqb, le-ltb, lt-ltb}
use Rattle.base.specs.Tests.{◌and◌, not, tabulate}
use Rattle.base.specs.Numbers.{Line, line, first_of}
use Rattle.base.proofs.Tests.{and_no, not-true, not-false}
use Rattle.base.proofs.Numbers.{first_true, first_false, first_behind, first_some}
use Rattle.machine.specs.Plan.{Plan, count}
use Rattle.machine.specs.Machine.{State, fit, tiles_left, Answered, answered}
use Rattle.nest.specs.Reader.{read_lines}
use Rattle.nest.proofs.Numbered.{numbered}
use Rattle.recipe.specs.Routes.{lines_for}
use Rattle.recipe.proofs.Laws.{numbered_for, reads_for}
use Rattle.layout.specs.RouteWords.{route_of}
use Rattle.network.specs.Apart.{received}
use Rattle.engine.specs.Given.{unfit_lines}
use Rattle.engine.specs.Calls.{answer, areas}
use Rattle.engine.proofs.Lines.{Opened, unfit_none, call_read, call_later, call_done, and_right}
use Rattle.network.specs.Brought.{taken_by, as_long}
use Rattle.transport.specs.arrivals.Taking.{received_or}
use Rattle.transport.specs.Calls.{rows_to, messages_call, owner_of, owners_call, Waits, waits_of, waited, wait_areas, awaited_call, take_in_call}
use Rattle.transport.specs.Given.{unasked_lines, waited_or13}
use Rattle.transport.proofs.Awaiting.{lines_none}

none : (n : ℕ) (t : Bool) → t ≡ false → first_of (line n t ∷ []) ≡ 0
unfolding first_of
none n t e = first_false n t [] e

-- ---- all messages

module _ (l : List ℕ) (route : ℕ) (out : List ℕ) where
  pub messages_read : (r : ℕ) → r ≡ first_of (lines_for (route_of route) l) → r ≢ 0 → answer r out ≡ messages_call l route out
  unfolding messages_call
  messages_read r e h = call_read (lines_for (route_of route) l) (numbered_for (route_of route) l) _ r _ out e h

  module _ (p : Plan) (o : Opened l route p) where
    messages_at : answered (first_of (lines_for (route_of route) l ++ (line 9 (not (eqb (length out) (6 * count p))) ∷ []))) (rows_to p (count p)) out
        ≡ messages_call l route out
    unfolding messages_call
    messages_at =
        ap (λ (q : Plan). answered (first_of (lines_for (route_of route) l ++ (line 9 (not (eqb (length out) (6 * count q))) ∷ []))) (rows_to q (count q))
        out) o.is

    pub messages_area : length out ≢ 6 * count p → answer 9 out ≡ messages_call l route out
    messages_area h =
        call_later (lines_for (route_of route) l) (numbered_for (route_of route) l) _ 9 _ out o.none (sym (first_true 9 _ _ (not-false (ne_eqb _ _ h))))
        (λ q. omega arith) ∙ messages_at

    pub messages_done : length out ≡ 6 * count p → (new : List ℕ) → new ≡ rows_to p (count p) → answer 0 new ≡ messages_call l route out
    messages_done e new c =
        ap (answer 0) c
        ∙ call_done (lines_for (route_of route) l) (numbered_for (route_of route) l) _ 0 _ out o.none (none 9 _ (not-true (eq-eqb _ _ e)))
        ∙ messages_at

-- ---- the processor of each cell

module _ (l out : List ℕ) where
  pub owners_read : (r : ℕ) → r ≡ first_of (read_lines l) → r ≢ 0 → answer r out ≡ owners_call l out
  unfolding owners_call
  owners_read r e h = call_read (read_lines l) (numbered l) _ r _ out e h

  module _ (p : Plan) (o : Opened l 0 p) where
    owners_at : answered (first_of (read_lines l ++ (line 9 (not (eqb (length out) p.cells)) ∷ []))) (tabulate (owner_of p) p.cells) out ≡ owners_call l out
    unfolding owners_call
    owners_at =
        ap (λ (q : Plan). answered (first_of (read_lines l ++ (line 9 (not (eqb (length out) q.cells)) ∷ []))) (tabulate (owner_of q) q.cells) out) o.is

    pub owners_area : length out ≢ p.cells → answer 9 out ≡ owners_call l out
    owners_area h =
        call_later (read_lines l) (numbered l) _ 9 _ out (reads_for (route_of 0) l o.none) (sym (first_true 9 _ _ (not-false (ne_eqb _ _ h))))
        (λ q. omega arith) ∙ owners_at

    pub owners_done : length out ≡ p.cells → (new : List ℕ) → new ≡ tabulate (owner_of p) p.cells → answer 0 new ≡ owners_call l out
    owners_done e new c =
        ap (answer 0) c
        ∙ call_done (read_lines l) (numbered l) _ 0 _ out (reads_for (route_of 0) l o.none) (none 9 _ (not-true (eq-eqb _ _ e)))
        ∙ owners_at

-- ---- what a processor waits for

abbrev asked_lines : Plan → State → ℕ → List Line
asked_lines p s b = line 11 (not (ltb b p.processors)) ∷ line 13 (not (tiles_left p s b)) ∷ []

module _ (l : List ℕ) (route : ℕ) (s : State) (b : ℕ) (marks : List ℕ) where
  -- as a refusal leaves it
  abbrev w : Waits
  w = waits_of marks 0

  pub awaited_read : (r : ℕ) → r ≡ first_of (lines_for (route_of route) l) → r ≢ 0 → answer r w ≡ awaited_call l route s b marks
  unfolding awaited_call
  awaited_read r e h = call_read (lines_for (route_of route) l) (numbered_for (route_of route) l) _ r _ w e h

  module _ (p : Plan) (o : Opened l route p) where
    awaited_at : answered (first_of (lines_for (route_of route) l ++ (unasked_lines p s marks ++ asked_lines p s b))) (waited p s b) w ≡ awaited_call l route s b marks
    unfolding awaited_call
    awaited_at = ap (λ (q : Plan). answered (first_of (lines_for (route_of route) l ++ (unasked_lines q s marks ++ asked_lines q s b))) (waited q s b) w) o.is

    module _ (r : ℕ) (e : r ≡ first_of (unasked_lines p s marks)) where
      pub awaited_unasked : r ≢ 0 → answer r w ≡ awaited_call l route s b marks
      awaited_unasked h =
          call_later (lines_for (route_of route) l) (numbered_for (route_of route) l) _ r _ w o.none
          (e ∙ sym (first_some (unasked_lines p s marks) _ (λ q. h (e ∙ q)))) h
          ∙ awaited_at

      module _ (z : r ≡ 0) where
        past : first_of (unasked_lines p s marks ++ asked_lines p s b) ≡ first_of (asked_lines p s b)
        past =
            let q = lines_none p s marks r e z in
            first_false 9 (not (wait_areas p s marks)) _ (not-true q.0) ∙ first_false 10 (not (fit p s)) (asked_lines p s b) (not-true q.1)

        pub awaited_beyond : p.processors ≤ b → answer 11 w ≡ awaited_call l route s b marks
        awaited_beyond h =
            call_later (lines_for (route_of route) l) (numbered_for (route_of route) l) _ 11 _ w o.none
            (sym (past ∙ first_true 11 _ _ (not-false (le-ltb b p.processors h)))) (λ q. omega arith)
            ∙ awaited_at

        pub awaited_told : b < p.processors → (a : Answered Waits) → a ≡ waited_or13 p s b marks → a ≡ awaited_call l route s b marks
        awaited_told h a t =
            t
            ∙ ap (λ (n : ℕ). answered n (waited p s b) w)
            (sym
            (first_behind (lines_for (route_of route) l) (unasked_lines p s marks ++ asked_lines p s b) (numbered_for (route_of route) l) o.none
            ∙ past ∙ first_false 11 (not (ltb b p.processors)) (line 13 (not (tiles_left p s b)) ∷ []) (not-true (lt-ltb b p.processors h))))
            ∙ awaited_at

-- ---- a message taken in

abbrev taking_lines : Plan → State → ℕ → ℕ → List Line
taking_lines p s b m = line 11 (not (taken_by p b m)) ∷ line 14 (not (eqb (get_or s.status m 0) 0)) ∷ []

abbrev long_line : Plan → List ℕ → State → ℕ → List ℕ → Line
long_line p source s m ws = line 9 (not (areas p source s and as_long p m ws))

module _ (l : List ℕ) (route : ℕ) (source : List ℕ) (s : State) (b m : ℕ) (ws : List ℕ) where
  pub take_in_read : (r : ℕ) → r ≡ first_of (lines_for (route_of route) l) → r ≢ 0 → answer r s ≡ take_in_call l route source s b m ws
  unfolding take_in_call
  take_in_read r e h = call_read (lines_for (route_of route) l) (numbered_for (route_of route) l) _ r _ s e h

  module _ (p : Plan) (o : Opened l route p) where
    take_in_at : answered (first_of (lines_for (route_of route) l ++ (long_line p source s m ws ∷ line 10 (not (fit p s)) ∷ taking_lines p s b m)))
        (received p s m ws) s ≡ take_in_call l route source s b m ws
    unfolding take_in_call
    take_in_at =
        ap
        (λ (q : Plan).
        answered (first_of (lines_for (route_of route) l ++ (long_line q source s m ws ∷ line 10 (not (fit q s)) ∷ taking_lines q s b m)))
        (received q s m ws) s)
        o.is

    pub take_in_length : as_long p m ws ≡ false → answer 9 s ≡ take_in_call l route source s b m ws
    take_in_length h =
        call_later (lines_for (route_of route) l) (numbered_for (route_of route) l) _ 9 _ s o.none (sym (first_true 9 _ _ (not-false (and_no _ _ h))))
        (λ q. omega arith) ∙ take_in_at

    module _ (long : as_long p m ws ≡ true) (r : ℕ) (e : r ≡ first_of (unfit_lines p source s)) where
      same_lines : first_of (long_line p source s m ws ∷ line 10 (not (fit p s)) ∷ taking_lines p s b m)
          ≡ first_of (unfit_lines p source s ++ taking_lines p s b m)
      same_lines =
          ap (λ (t : Bool). first_of (line 9 (not t) ∷ line 10 (not (fit p s)) ∷ taking_lines p s b m)) (and_right (areas p source s) (as_long p m ws) long)

      pub take_in_unfit : r ≢ 0 → answer r s ≡ take_in_call l route source s b m ws
      take_in_unfit h =
          call_later (lines_for (route_of route) l) (numbered_for (route_of route) l) _ r _ s o.none
          (e ∙ sym (same_lines ∙ first_some (unfit_lines p source s) _ (λ q. h (e ∙ q)))) h
          ∙ take_in_at

      pub take_in_received : r ≡ 0 → (a : Answered State) → a ≡ received_or p s b m ws → a ≡ take_in_call l route source s b m ws
      take_in_received z a t =
          let q = unfit_none p source s r e z in
          t
          ∙ ap (λ (n : ℕ). answered n (received p s m ws) s)
          (sym
          (first_behind (lines_for (route_of route) l) (long_line p source s m ws ∷ line 10 (not (fit p s)) ∷ taking_lines p s b m)
          (numbered_for (route_of route) l) o.none
          ∙ same_lines ∙ first_false 9 (not (areas p source s)) _ (not-true q.0) ∙ first_false 10 (not (fit p s)) (taking_lines p s b m) (not-true q.1)))
          ∙ take_in_at
