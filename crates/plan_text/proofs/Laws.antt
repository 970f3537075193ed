-- Laws of the plan printer's text: each step of the code over plain variables.
use Prim.Native.Nat.{ℕ, zero, suc, ◌+◌, ◌*◌, ◌≤◌, ◌<◌}
use mathlib.Core.Path.{◌≡◌, refl, sym, ap, ◌∙◌}
use mathlib.Core.Logic.{◌≢◌}
use mathlib.Core.List.{List, [], ◌∷◌, ◌++◌}
use native.Mathlib.Omega.{arith}
use native.Mathlib.Decide.{ℕ_discrete}
use native.Mathlib.Nat.{mul-le-mul_right}
use native.Mathlib.Numerals.{add-one}
use lib.ListN.{length, take, drop}
use lib.Seq.{take_at, length-take-le}
use borrow.Author.Tests.{lt-ltb, le-ltb}
use Rattle.base.specs.Numbers.{first_of}
use Rattle.base.proofs.Tests.{pick_true, pick_false}
use Rattle.text.specs.Decimal.{decimal}
use Rattle.text.specs.Writing.{Pen, pen, write}
use Rattle.text.proofs.Digits.{decimal_few}
use Rattle.text.proofs.Pens.{next, write_at, write_front}
use Rattle.machine.specs.Plan.{Plan, count}
use Rattle.nest.specs.declared.Nest.{Nest}
use Rattle.nest.specs.Accepted.{Accepted}
use Rattle.nest.specs.Reader.{nest_of}
use Rattle.nest.specs.Shape.{tiles}
use Rattle.plan.specs.declared.Route.{Route}
use Rattle.plan.specs.declared.Route.TheVariants.{Direct}
use Rattle.plan.specs.Messages.{slots, directions, box_plan}
use Rattle.plan.specs.Shaped.{shaped_message, shaped_slots, plan_of}
use Rattle.conformance.specs.Examples.{message_line}
use Rattle.plan.proofs.Listed.{few as few-listed}
use Rattle.plan.proofs.Slots.{few}
use Rattle.plan.proofs.ShapedBox.{plan_of_box}
use Rattle.layout.proofs.Steps.{ways_few}
use Rattle.recipe.specs.Routes.{lines_for}
use Rattle.tables.proofs.boxes.Scans.{slots_few}
use Rattle.summary.specs.declared.Figures.{Figures}
use Rattle.summary.specs.declared.MessageLine.{MessageLine}
use Rattle.summary.specs.Summary.{figures_of, line_of}
use Rattle.plan_text.specs.PlanText.{tiles_word, messages_word, words_word, steps_word, number_then, field}
use Rattle.plan_text.specs.PlanText.{figures_text, spaced, lines_text, refused_text, plan_text_if, plan_text}

-- where a text ends
pub at_end_lem : (w u : Pen) (a : List ℕ) → u ≡ write w a → u.at ≡ w.at + length a
at_end_lem w u a e = ap (λ (z : Pen). z.at) e ∙ write_at w a

-- ---- a number, and a word before it

pub number_room : (at n : ℕ) → n < 4294967296 → at + 11 ≤ 4294967295 → at + length (decimal n) ≤ 4294967295
number_room at n f h = omega (arith, decimal_few n f)

module _ (n after : ℕ) (f : n < 4294967296) (w v : Pen) (e : v ≡ write w (decimal n)) where
  pub after_room : w.at + 11 ≤ 4294967295 → v.at + 1 ≤ 4294967295
  after_room h = omega (arith, at_end_lem w v (decimal n) e, decimal_few n f)

  module _ (u : Pen) (g : u ≡ write v (after ∷ [])) where
    pub number_done : u ≡ write w (number_then n after)
    unfolding number_then
    number_done = next v w u (decimal n) (after ∷ []) e g

    pub number_end : u.at ≤ w.at + 11
    number_end = omega (arith, at_end_lem w v (decimal n) e, at_end_lem v u (after ∷ []) g, decimal_few n f)

module _ (word : List ℕ) (n after : ℕ) (w v : Pen) (e : v ≡ write w word) where
  pub field_room : w.at + length word + 11 ≤ 4294967295 → v.at + 11 ≤ 4294967295
  field_room h = omega (arith, at_end_lem w v word e)

  module _ (u : Pen) (g : u ≡ write v (number_then n after)) where
    pub field_done : u ≡ write w (field word n after)
    unfolding field
    field_done = next v w u word (number_then n after) e g

    pub field_end : u.at ≤ v.at + 11 → u.at ≤ w.at + length word + 11
    field_end h = omega (arith, at_end_lem w v word e)

-- ---- six numbers in a line, four fields in the first line

pub line_done : (a b c d e f : ℕ) (w p q r s t u : Pen) → p ≡ write w (number_then a 32) → q ≡ write p (number_then b 32) → r ≡ write q (number_then c 32)
    → s ≡ write r (number_then d 32) → t ≡ write s (number_then e 32) → u ≡ write t (number_then f 10) → u ≡ write w (spaced (a ∷ b ∷ c ∷ d ∷ e ∷ f ∷ []))
unfolding spaced
line_done a b c d e f w p q r s t u i j k l m n =
    next p w u (number_then a 32) _ i
    (next q p u (number_then b 32) _ j
    (next r q u (number_then c 32) _ k
    (next s r u (number_then d 32) _ l
    (next t s u (number_then e 32) (number_then f 10) m n))))

pub figures_done : (a b c d : ℕ) (w p q r u : Pen) → p ≡ write w (field tiles_word a 32) → q ≡ write p (field messages_word b 32)
    → r ≡ write q (field words_word c 32) → u ≡ write r (field steps_word d 10) → u ≡ write w (figures_text a b c d)
unfolding figures_text
figures_done a b c d w p q r u i j k l =
    next p w u (field tiles_word a 32) _ i
    (next q p u (field messages_word b 32) _ j
    (next r q u (field words_word c 32) (field steps_word d 10) k l))

pub refused_done : (n : ℕ) (u w : Pen) → u ≡ write w (field (114 ∷ 101 ∷ 102 ∷ 117 ∷ 115 ∷ 101 ∷ 100 ∷ 32 ∷ []) n 10) → u ≡ write w (refused_text n)
unfolding refused_text
refused_done n u w e = e

-- ---- the lines

-- after the first m messages
pub record Lines (p : Plan) (at : ℕ) (before now : List ℕ) (place m : ℕ) : Type 0 where
  pub wrote : pen place now ≡ write (pen at before) (lines_text p m)
  pub low : place ≤ at + 66 * m
  pub long : length now ≡ length before

pub lines_start : (p : Plan) (at : ℕ) (s : List ℕ) → Lines p at s s at 0
unfolding lines_text write
lines_start p at s = record { wrote = refl; low = omega arith; long = refl }

module _ (p : Plan) (at : ℕ) (s t : List ℕ) (place m : ℕ) (g : Lines p at s t place m) where
  pub lines_next : (l : MessageLine) → l ≡ line_of p m → (u : List ℕ) (q : ℕ)
      → pen q u ≡ write (pen place t) (spaced (m ∷ l.sender ∷ l.taker ∷ l.from ∷ l.to ∷ l.words ∷ []))
      → q ≤ place + 66 → length u ≡ length t → Lines p at s u q (m + 1)
  unfolding lines_text message_line
  lines_next l is u q e h k =
      let e' : pen q u ≡ write (pen place t) (spaced (message_line p m)) =
      e ∙ ap (λ (o : MessageLine). write (pen place t) (spaced (m ∷ o.sender ∷ o.taker ∷ o.from ∷ o.to ∷ o.words ∷ []))) is in
      record {
        wrote =
            rw (add-one m) (next (pen place t) (pen at s) (pen q u) (lines_text p m) (spaced (message_line p m)) g.wrote e');
        low = omega (arith, g.low);
        long = k ∙ g.long;
      }

  pub lines_done : (n : ℕ) → m ≤ n → n ≤ m → (pen place t ≡ write (pen at s) (lines_text p n)) × (place ≤ at + 66 * n)
  lines_done n h k = let e : m ≡ n = omega arith in (rw e at g.wrote, omega (arith, g.low))

-- ---- the whole

-- a tile sends at most 7, and there are at most 1,024 tiles; indirect passing is for nests without bounds
pub messages_most : (r : Route) (x : Nest) → Accepted x → (x.bounds ≢ 0 → r ≡ Direct) → count (plan_of r x) ≤ 7168
messages_most r x ok h = go (ℕ_discrete x.bounds 0)
  where
    direct : count (plan_of Direct x) ≤ 7168
    direct =
        let a = few-listed (shaped_message x) (shaped_slots x) in
        let b : tiles x * directions x ≤ 1024 * directions x = mul-le-mul_right (directions x) ok.tiles_most in
        omega (arith, a, b, ways_few x ok Direct)

    go : Dec (x.bounds ≡ 0) → count (plan_of r x) ≤ 7168
    go (no k) = rw (h k) direct
    go (yes e) =
        let a : count (plan_of r x) ≡ count (box_plan r x) = ap (λ (p : Plan). count p) (plan_of_box r x ok e) in
        let b : count (box_plan r x) ≤ slots r x = few r x (slots r x) in
        omega (arith, a, b, slots_few r x ok e)

refusal : (n : ℕ) (p : Plan) → n ≢ 0 → refused_text n ≡ plan_text_if n p
unfolding plan_text_if
refusal zero p q = absurd (q refl)
refusal (suc n) p q = refl

module _ (r : Route) (l : List ℕ) (u w : Pen) where
  pub too_long : 512 < length l → u ≡ write w (refused_text 1) → u ≡ write w (plan_text r l)
  unfolding plan_text
  too_long h e = e ∙ ap (write w) (sym (pick_true _ _ _ (lt-ltb _ _ h)))

  module _ (h : length l ≤ 512) where
    short : plan_text_if (first_of (lines_for r l)) (plan_of r (nest_of l)) ≡ plan_text r l
    unfolding plan_text
    short = sym (pick_false _ _ _ (le-ltb _ _ h))

    pub refused_text_lem : (n : ℕ) → n ≡ first_of (lines_for r l) → n ≢ 0 → u ≡ write w (refused_text n) → u ≡ write w (plan_text r l)
    refused_text_lem n is k e =
        e ∙ ap (write w) (refusal n (plan_of r (nest_of l)) k ∙ ap (λ (q : ℕ). plan_text_if q (plan_of r (nest_of l))) is ∙ short)

    module _ (p : Plan) (none : first_of (lines_for r l) ≡ 0) (is : p ≡ plan_of r (nest_of l)) where
      pub planned : (v : Pen) (f : Figures) → f ≡ figures_of p → v ≡ write w (figures_text f.tiles f.messages f.words f.steps)
          → u ≡ write v (lines_text p f.messages) → u ≡ write w (plan_text r l)
      unfolding plan_text_if
      planned v f fs e g =
          next v w u _ _ e g
          ∙ ap (λ (o : Figures). write w (figures_text o.tiles o.messages o.words o.steps ++ lines_text p o.messages)) fs
          ∙ ap (λ (q : Plan). write w (plan_text_if 0 q)) is
          ∙ ap (λ (q : ℕ). write w (plan_text_if q (plan_of r (nest_of l)))) (sym none)
          ∙ ap (write w) short

pub at_front : (text s t : List ℕ) (q : ℕ) → pen q t ≡ write (pen 0 s) text → q ≤ length s → take q t ≡ text
at_front text s t q e h =
    let k : q ≡ 0 + length text = at_end_lem (pen 0 s) (pen q t) text e in
    let u : t ≡ text ++ drop (length text) s = ap (λ (z : Pen). z.space) e ∙ write_front s text (omega arith) in
    rw u (take_at text (drop (length text) s) q (omega arith))

pub counted : (q : ℕ) (l : List ℕ) → q ≤ length l → q ≡ length (take q l)
counted q l h = sym (length-take-le q l h)
