-- How a Path is cut at its first `!`. No public contract cites it.
use Rattle.std.specs.Prelude.{◌≡◌, ℕ, Bool, false, List, ◌∷◌, ◌++◌, Option, Some, None, ◌==◌}
use Rattle.std.specs.List.{list_any}
use Rattle.std.specs.Str.{byte}
use Rattle.path_rules.specs.declared.pieces.Cut.{Cut}

-- an octet is `!` (RFC 5536, section 3.1.5)
abbrev pub has_bang : List ℕ → Bool
has_bang text = list_any (λ c. c == byte "!") text

-- the answer is the piece before the first `!` and what is behind it, or there is no `!`
abbrev pub CutGives : List ℕ → Option Cut → Type 0
CutGives text None = has_bang text ≡ false
CutGives text (Some cut) =
    (text ≡ cut.piece.now ++ byte "!" ∷ cut.rest.now) × (has_bang cut.piece.now ≡ false)
