-- What stands where octets were put behind the end of a text.
use Rattle.std.specs.Prelude.{◌≡◌, ◌++◌, ℕ, List}
use Rattle.std.specs.List.{Contains}

-- the second text is the first with some octets behind it
abbrev pub IsBehind : (before after : List ℕ) → Type 0
IsBehind before after = (more : List ℕ) × (after ≡ before ++ more)

-- it is one of these texts with some octets behind it
abbrev pub IsBehindOne : (texts : List (List ℕ)) → (after : List ℕ) → Type 0
IsBehindOne texts after = (before : List ℕ) × Contains texts before × IsBehind before after
