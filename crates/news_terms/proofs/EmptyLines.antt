-- Where a text stands in another, and what that says of empty lines.
use Rattle.std.proofs.Common.{◌≡◌, ℕ, true, List, [], ◌∷◌, ◌++◌, length, take, drop, sym, ap, subst}
use Rattle.std.proofs.Common.{◌∙◌, inl, inr, append_assoc}
use Rattle.std.specs.Prelude.{nat_eq, IsTrue, ◌↔◌}
use Rattle.std.specs.List.{starts_with}
use Rattle.std.proofs.lemmas.Bool.{or_cases, or_left, or_right}
use Rattle.std.proofs.lemmas.List.{take-append-drop}
use Rattle.std.proofs.lemmas.Slice.Eq.{bytes_eq-Decides}
use Rattle.std.proofs.Math.Seq.{take-append_seam}
use Rattle.news_terms.specs.Article.{occurs, HasEmptyLine, has_empty_line}
use Rattle.news_terms.specs.Lines.{crlf}

-- a text that starts with another is that one, and more
starts_with-split : (text part : List ℕ) → starts_with nat_eq text part ≡ true
    → text ≡ part ++ drop (length part) text
starts_with-split text part h =
    let front : part ≡ take (length part) text =
    (bytes_eq-Decides part (take (length part) text)).0 h in
    sym (take-append-drop (length part) text) ∙ ap (λ x. x ++ drop (length part) text) (sym front)

-- a text with something behind starts with that text
starts_with-append : (part after : List ℕ) → starts_with nat_eq (part ++ after) part ≡ true
starts_with-append part after =
    (bytes_eq-Decides part (take (length part) (part ++ after))).1
    (sym (take-append_seam part after))

-- what stands somewhere has something before it and something behind it
pub occurs-split : (part text : List ℕ) → occurs part text ≡ true
    → (before : List ℕ) × (after : List ℕ) × (text ≡ before ++ (part ++ after))
occurs-split part [] h = ([], drop (length part) [], starts_with-split [] part h)
occurs-split part (c ∷ rest) h =
    elim (or_cases _ _ h) [
      | inl s ↦ ([], drop (length part) (c ∷ rest), starts_with-split (c ∷ rest) part s)
      | inr o ↦ let r = occurs-split part rest o in (c ∷ r.0, r.1, ap (λ x. c ∷ x) r.2)
    ]

-- and the other way round
pub occurs-append : (part before after : List ℕ) → occurs part (before ++ (part ++ after)) ≡ true
occurs-append part [] after = begins part (part ++ after) (starts_with-append part after)
  where
    begins : (part text : List ℕ) → starts_with nat_eq text part ≡ true → occurs part text ≡ true
    begins part [] h = h
    begins part (c ∷ rest) h = or_left _ _ h
occurs-append part (c ∷ before) after = or_right _ _ (occurs-append part before after)

-- the two ways to set parentheses about an empty line
pub regrouped : (before after : List ℕ)
    → before ++ crlf ++ crlf ++ after ≡ before ++ ((crlf ++ crlf) ++ after)
regrouped before after =
    append_assoc (before ++ crlf) crlf after
    ∙ append_assoc before crlf (crlf ++ after)

-- the test says whether there is an empty line
pub has_empty_line-iff : (text : List ℕ) → IsTrue (has_empty_line text) ↔ HasEmptyLine text
has_empty_line-iff text = (
  (λ h. let o = occurs-split (crlf ++ crlf) (crlf ++ text) h in
      (o.0, o.1, o.2 ∙ sym (regrouped o.0 o.1))),
  (λ h. subst (λ (x : List ℕ). occurs (crlf ++ crlf) x ≡ true)
      (sym (h.2 ∙ regrouped h.0 h.1))
      (occurs-append (crlf ++ crlf) h.0 h.1)),
)
