-- `part_calls::front::part_fits` meets its contract: each length in its turn.
use mathlib.Core.Path.{◌≡◌, sym, ap, ◌∙◌}
use mathlib.Core.Bool.{true}
use borrow.Author.Tests.{eqb-true, eq-eqb}
use Rattle.std.specs.Prelude.{eqb, length, get_or}
use Rattle.machine.specs.Machine.{state_of}
use Rattle.plan.specs.Shaped.{plan_of}
use Rattle.part_calls.proofs.front.Front as front
use Rattle.part_calls.proofs.front.part_fits.Goals as goal
use Rattle.part_calls.proofs.front.part_fits.Goals.{then-memory-many, else-memory-many, then-mail-starts, else-mail-starts}

pub returns-then-words-eq3 : goal.returns-then-words-eq3
returns-then-words-eq3 c =
    let A = c.args in
    let p = plan_of A.table.now.layout.sizes.route A.table.now.layout.nest in
    let all_mail = front.all_mail A.table.now A.b A.ordinals.now A.starts.now c.requires.0 A.messages c.requires.1.messages in
    elim c.if-mail-starts.branch [
      | then-mail-starts w ↦
          elim c.if-memory-many.branch [
            | then-memory-many v ↦
                λ l h. ap (eqb (length A.marks.now)) (front.all_handled A.table.now A.b A.ordinals.now A.starts.now c.requires.0 A.messages
                c.requires.1.messages)
                ∙ front.by_marks p A.b (state_of A.memory.now A.mail.now l A.marks.now) (v.if-memory-many.true ∙ c.requires.1.kept)
                (eqb-true _ _ (sym v.value-is ∙ w.if-mail-starts.true) ∙ all_mail) (sym h ∙ eqb-true _ _ (sym w.value-is ∙ c.if-words-eq3.true))
            | else-memory-many v ↦ absurd (v.if-memory-many.false (eqb-true _ _ (sym v.value-is ∙ w.if-mail-starts.true)))
          ]
      | else-mail-starts w ↦ λ l h. cc
    ]

pub returns-else-words-eq3 : goal.returns-else-words-eq3
returns-else-words-eq3 c =
    let A = c.args in
    let p = plan_of A.table.now.layout.sizes.route A.table.now.layout.nest in
    let all_mail = front.all_mail A.table.now A.b A.ordinals.now A.starts.now c.requires.0 A.messages c.requires.1.messages in
    elim c.if-mail-starts.branch [
      | then-mail-starts w ↦
          λ l h. c.if-words-eq3.false
          ∙ front.no_record p A.b (state_of A.memory.now A.mail.now l A.marks.now)
          (λ q. let e : eqb A.words 3 ≡ true = eq-eqb _ _ (h ∙ q) in cc)
      | else-mail-starts w ↦
          elim c.if-memory-many.branch [
            | then-memory-many v ↦
                λ l h. c.if-words-eq3.false
                ∙ front.no_mail p A.b (state_of A.memory.now A.mail.now l A.marks.now)
                (λ q. let e : eqb (length A.mail.now) (get_or A.starts.now A.messages 0) ≡ true = eq-eqb _ _ (q ∙ sym all_mail) in cc)
            | else-memory-many v ↦
                λ l h. c.if-words-eq3.false
                ∙ front.no_memory p A.b (state_of A.memory.now A.mail.now l A.marks.now) (λ q. v.if-memory-many.false (q ∙ sym c.requires.1.kept))
          ]
    ]
