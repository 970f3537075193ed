-- A struct that is made of the first true line's number tells by it.
use Rattle.std.specs.Prelude.{◌≡◌, ℕ, zero, suc, ◌≢◌, List}
use mathlib.Core.Path.{refl, ap, ◌∙◌}
use Rattle.base.specs.Numbers.{Line, first_of}
use Rattle.calls.specs.Tells.{Tells}

module _ {A : Type 0} (number_of : A → ℕ) (made : ℕ → A) (done : A) (none : ℕ → A) (is_done : made 0 ≡ done)
    (is_none : (n : ℕ) → made (suc n) ≡ none (suc n)) (zero-done : number_of done ≡ 0) (number_none : (n : ℕ) → number_of (none (suc n)) ≡ suc n) where
  number_made : (n : ℕ) → number_of (made n) ≡ n
  number_made zero = ap number_of is_done ∙ zero-done
  number_made (suc n) = ap number_of (is_none n) ∙ number_none n

  none_made : (n : ℕ) → n ≢ 0 → made n ≡ none n
  none_made zero h = absurd (h refl)
  none_made (suc n) h = is_none n

  pub tells_by : (lines : List Line) (r : A) → r ≡ made (first_of lines) → Tells number_of lines done none r
  tells_by lines r e =
      record {
        first = ap number_of e ∙ number_made (first_of lines);
        works = λ z. e ∙ ap made z ∙ is_done;
        refuses = λ h. e ∙ none_made (first_of lines) h;
      }
