-- Laws of the second program's lines: each step of the code over plain variables; and that no recipe within the limits differs.
use Rattle.std.specs.Prelude.{Ok, Err}
use Prim.Native.Nat.{ℕ, zero, suc, ◌*◌, ◌≤◌, ◌<◌}
use mathlib.Core.Path.{◌≡◌, refl, sym, ap, ◌∙◌}
use mathlib.Core.Logic.{◌≢◌}
use mathlib.Core.Bool.{Bool, true, false}
use mathlib.Core.List.{List, ◌∷◌, ◌++◌}
use native.Mathlib.Omega.{arith}
use lib.ListN.{length, take, drop, length-replicate}
use borrow.Author.Tests.{lt-ltb, le-ltb}
use Rattle.base.specs.Lists.{Bytes}
use Rattle.base.specs.Tests.{pick}
use Rattle.base.specs.Numbers.{first_of}
use Rattle.base.proofs.Tests.{pick_true, pick_false}
use Rattle.text.specs.Writing.{Pen, write}
use Rattle.text.proofs.Pens.{next}
use Rattle.machine.specs.Plan.{Plan, count, words}
use Rattle.machine.specs.Machine.{state_of}
use Rattle.machine.specs.Runs.{total}
use Rattle.nest.specs.Nest.{cells, processors}
use Rattle.nest.specs.declared.Nest.{Nest}
use Rattle.nest.specs.Reader.{read_lines, nest_of, Reads}
use Rattle.nest.proofs.Answers.{none_read, nest_read}
use Rattle.base.specs.declared.refusal.Refusal.{Refusal}
use Rattle.base.specs.Refusals.{code}
use Rattle.base.proofs.Codes.{code_some}
use Rattle.layout.specs.declared.Sizes.{Sizes}
use Rattle.layout.specs.Sizes.{Sized}
use Rattle.engine.specs.Calls.{recipe}
use Rattle.comparison.specs.declared.drive.Order.{Order}
use Rattle.plan_text.specs.PlanText.{refused_text}
use Rattle.comparison.specs.declared.Extent.{Extent}
use Rattle.comparison.specs.Agreement.{is_beyond, source_of, Outcome, ran_and_compared, Within}
use Rattle.comparison.specs.Lines.{agree_line, differ_line, beyond_line, verdict_line, zeros, blank}
use Rattle.comparison.specs.Lines.{plan_agrees, agrees_for, four_lines, compared_if, comparison_text, NeverDiffers}
use Rattle.comparison.proofs.Laws.{not_beyond, processors_low, messages_low, words_low, low_within, cells_room, counted, back_is}
use Rattle.comparison.proofs.Laws.{order_of, starts, source_long, never_differs}

-- ---- the areas of zeros

front_zeros : (n m : ℕ) → n ≤ m → take n (zeros m) ≡ zeros n
front_zeros zero m h = refl
front_zeros (suc n) zero h = absurd (omega arith)
front_zeros (suc n) (suc m) h = ap (λ (l : List ℕ). 0 ∷ l) (front_zeros n m (omega arith))

zeros_front : (k n m : ℕ) → k ≡ n → n ≤ m → take k (zeros m) ≡ zeros n
zeros_front k n m e h = front_zeros k m (omega arith) ∙ ap zeros e

-- what a comparison says from such areas of c cells, q processors, m messages and v words
said : List ℕ → Bool → Bool → (c q m v t : ℕ) → Bool
said bytes counting falling c q m v t =
    (ran_and_compared bytes (source_of counting c) (record { processors = q; messages = m; falling = falling }) t
    (state_of (zeros (c * q)) (zeros v) (zeros (3 * q)) (zeros m)) (zeros c) (zeros c)).agree

same_areas : (bytes source : List ℕ) (o : Order) (n : ℕ) (m m' w w' p p' s s' g g' h h' : List ℕ)
    → m ≡ m' → w ≡ w' → p ≡ p' → s ≡ s' → g ≡ g' → h ≡ h'
    → (ran_and_compared bytes source o n (state_of m w p s) g h).agree ≡ (ran_and_compared bytes source o n (state_of m' w' p' s') g' h').agree
same_areas bytes source o n m m' w w' p p' s s' g g' h h' a b c d e f = rw (a, b, c, d, e, f)

same_figures : (bytes : List ℕ) (counting falling : Bool) (c c' q q' m m' v v' t t' : ℕ) → c ≡ c' → q ≡ q' → m ≡ m' → v ≡ v' → t ≡ t'
    → said bytes counting falling c q m v t ≡ said bytes counting falling c' q' m' v' t'
same_figures bytes counting falling c c' q q' m m' v v' t t' a b d e f = rw (a, b, d, e, f)

module _ (bytes : List ℕ) (x : Extent) (b : Bytes bytes) (w : Within bytes x) (counting falling : Bool) where
  -- what is compared in the first words of areas of zeros, the source written in those of another
  pub told : (kc km kw kp ks : ℕ) → kc ≡ x.cells → km ≡ x.cells * x.processors → kw ≡ x.words → kp ≡ x.processors → ks ≡ x.messages
      → (filled : List ℕ) → length filled ≡ length (take kc (zeros 1024)) → filled ≡ source_of counting (length (take kc (zeros 1024)))
      → (o : Outcome)
      → o ≡ ran_and_compared bytes (take kc (filled ++ drop kc (zeros 1024))) (order_of x falling) x.steps
      (state_of (take km (zeros 4096)) (take kw (zeros 7168)) (take (3 * kp) (zeros 192)) (take ks (zeros 7168))) (take kc (zeros 1024)) (take kc (zeros 1024))
      → o.agree ≡ agrees_for bytes counting falling
  unfolding said plan_agrees
  told kc km kw kp ks ec em ew ep es filled long is o e =
      let source : take kc (filled ++ drop kc (zeros 1024)) ≡ source_of counting x.cells =
      back_is kc (zeros 1024) filled (cells_room bytes x b w kc ec) long ∙ is
      ∙ ap (source_of counting) (sym (counted kc (zeros 1024) (cells_room bytes x b w kc ec)) ∙ ec) in
      ap (λ (z : Outcome). z.agree) (rw source at e)
      ∙ same_areas bytes (source_of counting x.cells) (order_of x falling) x.steps _ _ _ _ _ _ _ _ _ _ _ _
      (zeros_front km _ 4096 em w.memories) (zeros_front kw _ 7168 ew (words_low bytes x b w))
      (zeros_front (3 * kp) _ 192 (ap (λ (k : ℕ). 3 * k) ep) (omega (arith, processors_low bytes x b w)))
      (zeros_front ks _ 7168 es (messages_low bytes x b w)) (zeros_front kc _ 1024 ec w.cells) (zeros_front kc _ 1024 ec w.cells)
      ∙ same_figures bytes counting falling _ _ _ _ _ _ _ _ _ _ w.measured.cells w.measured.processors w.measured.messages
      w.measured.words w.measured.steps

-- ---- the lines

module _ (t r : Bool) (e : r ≡ t) (u w : Pen) where
  pub agree_put : r ≡ true → u ≡ write w agree_line → u ≡ write w (verdict_line t)
  unfolding verdict_line
  agree_put k f = f ∙ ap (write w) (sym (pick_true t agree_line differ_line (sym e ∙ k)))

  pub differ_put : r ≡ false → u ≡ write w differ_line → u ≡ write w (verdict_line t)
  unfolding verdict_line
  differ_put k f = f ∙ ap (write w) (sym (pick_false t agree_line differ_line (sym e ∙ k)))

pub four_put : (bytes : List ℕ) (w p q r u : Pen) → p ≡ write w (verdict_line (agrees_for bytes false false))
    → q ≡ write p (verdict_line (agrees_for bytes false true)) → r ≡ write q (verdict_line (agrees_for bytes true false))
    → u ≡ write r (verdict_line (agrees_for bytes true true)) → u ≡ write w (four_lines bytes)
unfolding four_lines
four_put bytes w p q r u i j k l =
    next p w u (verdict_line (agrees_for bytes false false)) _ i
    (next q p u (verdict_line (agrees_for bytes false true)) _ j
    (next r q u (verdict_line (agrees_for bytes true false)) (verdict_line (agrees_for bytes true true)) k l))

refusal : (n : ℕ) (bytes : List ℕ) → n ≢ 0 → refused_text n ≡ compared_if n bytes
unfolding compared_if
refusal zero bytes q = absurd (q refl)
refusal (suc n) bytes q = refl

accepted_is : (n : ℕ) (bytes : List ℕ) → n ≡ 0
    → compared_if n bytes ≡ pick (is_beyond (recipe bytes 0).cells (recipe bytes 0).processors) beyond_line (four_lines bytes)
unfolding compared_if
accepted_is zero bytes e = refl
accepted_is (suc n) bytes e = absurd (omega arith)

module _ (l : List ℕ) (u w : Pen) where
  pub too_long : 512 < length l → u ≡ write w (refused_text 1) → u ≡ write w (comparison_text l)
  unfolding comparison_text
  too_long h e = e ∙ ap (write w) (sym (pick_true _ _ _ (lt-ltb _ _ h)))

  module _ (h : length l ≤ 512) where
    short : compared_if (first_of (read_lines l)) l ≡ comparison_text l
    unfolding comparison_text
    short = sym (pick_false _ _ _ (le-ltb _ _ h))

    pub refused_put : {r : Refusal} → Reads l (Err r) → u ≡ write w (refused_text (code r)) → u ≡ write w (comparison_text l)
    refused_put {r} is e =
        e ∙ ap (write w) (refusal (code r) l (code_some r) ∙ ap (λ (n : ℕ). compared_if n l) is.number ∙ short)

    module _ {x : Nest} (is : Reads l (Ok x)) (s : Sizes) (g : Sized x s) (c p : ℕ) (narrow : s.cells < 4294967296 → c ≡ s.cells)
        (narrow2 : s.processors < 4294967296 → p ≡ s.processors) (r : Bool) (e : r ≡ is_beyond c p) where
      limit : r ≡ is_beyond (recipe l 0).cells (recipe l 0).processors
      limit =
          let nest = nest_read is in
          let a : c ≡ cells (nest_of l) = narrow (omega (arith, g.cells, g.accepted.cells_most)) ∙ g.cells ∙ ap cells nest in
          let b : p ≡ processors (nest_of l) = narrow2 (omega (arith, g.processors, g.accepted.processors_most)) ∙ g.processors ∙ ap processors nest in
          e ∙ ap (λ (k : ℕ). is_beyond k p) a ∙ ap (is_beyond (cells (nest_of l))) b

      text_is : pick (is_beyond (recipe l 0).cells (recipe l 0).processors) beyond_line (four_lines l) ≡ comparison_text l
      text_is = sym (accepted_is (first_of (read_lines l)) l (none_read is)) ∙ short

      pub beyond_put : r ≡ true → u ≡ write w beyond_line → u ≡ write w (comparison_text l)
      beyond_put k f = f ∙ ap (write w) (sym (pick_true _ beyond_line (four_lines l) (sym limit ∙ k)) ∙ text_is)

      pub lines_put : r ≡ false → u ≡ write w (four_lines l) → u ≡ write w (comparison_text l)
      lines_put k f = f ∙ ap (write w) (sym (pick_false _ beyond_line (four_lines l) (sym limit ∙ k)) ∙ text_is)

-- ---- no recipe within the limits differs

module _ (bytes : List ℕ) (b : Bytes bytes) (z : first_of (read_lines bytes) ≡ 0)
    (low : is_beyond (recipe bytes 0).cells (recipe bytes 0).processors ≡ false) where
  abbrev p : Plan
  p = recipe bytes 0

  abbrev extent : Extent
  extent = record { cells = p.cells; processors = p.processors; messages = count p; words = words p; steps = total p }

  within : Within bytes extent
  within =
      let l = not_beyond p.cells p.processors _ refl low in
      record {
        read = z;
        measured = record { cells = refl; processors = refl; messages = refl; words = refl; steps = refl };
        cells = l.0;
        memories = l.1;
      }

  always : (counting falling : Bool) → agrees_for bytes counting falling ≡ true
  unfolding plan_agrees
  always counting falling =
      never_differs bytes (source_of counting p.cells) extent falling (blank p) within b
      (starts bytes extent b within (source_of counting p.cells) (zeros (p.cells * p.processors)) (zeros (words p))
      (zeros (3 * p.processors)) (zeros (count p))
      (source_long counting p.cells) (length-replicate _ 0) (length-replicate _ 0) (length-replicate _ 0) (length-replicate _ 0))
      (zeros p.cells) (zeros p.cells) (length-replicate _ 0) (length-replicate _ 0)

  all_agree : four_lines bytes ≡ agree_line ++ (agree_line ++ (agree_line ++ agree_line))
  unfolding four_lines verdict_line pick
  all_agree = rw (always false false, always false true, always true false, always true true)

  pub four_agree : length bytes ≤ 512 → comparison_text bytes ≡ agree_line ++ (agree_line ++ (agree_line ++ agree_line))
  unfolding comparison_text
  four_agree h =
      pick_false _ _ _ (le-ltb _ _ h) ∙ accepted_is (first_of (read_lines bytes)) bytes z ∙ pick_false _ beyond_line (four_lines bytes) low ∙ all_agree

-- of one within them every verdict is true
pub verdict_true : (bytes : List ℕ) → Bytes bytes → (x : Extent) → Within bytes x → (counting falling : Bool) → agrees_for bytes counting falling ≡ true
verdict_true bytes b x w counting falling = always bytes b w.read (low_within bytes x b w) counting falling

pub never_differ : NeverDiffers
never_differ = record { lines = λ bytes b h z low. four_agree bytes b z low h }
