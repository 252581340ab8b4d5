-- The words of a command line, as far as a command tells them apart (RFC 3977 section 3.1).
use Rattle.std.specs.Prelude.{◌≡◌, ℕ, List, [], ◌∷◌}
use Rattle.nntp_text.specs.declared.words.Arguments.{Arguments}
use Rattle.nntp_text.specs.declared.words.Arguments.TheVariants.{Absent, One, Several}

-- what stands for the words after a keyword: none, the one, or two and more
abbrev pub StandsFor : Arguments → List (List ℕ) → Type 0
StandsFor Absent after = after ≡ []
StandsFor (One word) after = after ≡ word.now ∷ []
StandsFor Several after =
    (first : List ℕ) × (second : List ℕ) × (more : List (List ℕ)) × (after ≡ first ∷ second ∷ more)
