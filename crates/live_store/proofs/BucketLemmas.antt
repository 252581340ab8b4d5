-- Slots that are tagged with their numbers.
use Rattle.std.proofs.Common.{◌≡◌, ◌∙◌, ℕ, ◌+◌, arith, ap, sym, List, [], ◌∷◌, ◌++◌, inl, inr}
use Rattle.std.proofs.lemmas.Bool.{cases_lt}
use Rattle.std.proofs.lemmas.List.{get_or_append_left, get_or_push, length-append}
use Rattle.boxcar.specs.Slot.{Named}
use Rattle.boxcar.specs.Table.{Tagged}

-- one slot more, with the next number
pub tagged_more : (tag : List ℕ) (from n : ℕ) (slots : List Named) (slot : Named)
    → slot.tag ≡ (from + n) ∷ tag → Tagged tag from n slots
    → Tagged tag from (n + 1) (slots ++ slot ∷ [])
tagged_more tag from n slots slot next are = (
  length-append slots (slot ∷ []) ∙ ap (λ k. k + 1) are.0,
  λ j d less. elim (cases_lt j n) [
    | inl before ↦
        ap (λ (s : Named). s.tag)
        (get_or_append_left slots (slot ∷ []) d j (omega (arith, before, are.0)))
        ∙ are.1 j d before
    | inr past ↦
        let same : j ≡ n = omega (arith, less, past) in
        ap (λ (s : Named). s.tag) (get_or_push slots slot d j (are.0 ∙ sym same))
        ∙ next ∙ ap (λ k. (from + k) ∷ tag) (sym same)
  ],
)
