-- Texts that aren't just one part.
use Rattle.std.proofs.Common.{◌≡◌, ℕ, List, [], ◌∷◌, None}
use Rattle.std.specs.Prelude.{◌==◌}
use Rattle.line_words.specs.Parts.{parts, one_of}
use Rattle.line_words.proofs.Cuts.{some_part}

-- What holds of two parts and more holds of those of a text, where they are not just one.
pub not_one_part : (P : List (List ℕ) → Type 0) (octet : ℕ) (text : List ℕ)
    → None ≡ one_of (parts octet text)
    → ((first second : List ℕ) (more : List (List ℕ)) → P (first ∷ second ∷ more))
    → P (parts octet text)
not_one_part P octet text many holds =
    by_parts (parts octet text) (some_part (λ other. other == octet) text) many
  where
    by_parts : (all : List (List ℕ))
        → (first : List ℕ) × (more : List (List ℕ)) × (all ≡ first ∷ more)
        → None ≡ one_of all → P all
    by_parts [] some e = cc
    by_parts (first ∷ []) some e = cc
    by_parts (first ∷ second ∷ more) some e = holds first second more
