-- What a writer holds after something was to be written to it, as far as its octets are known.
use Rattle.std.specs.Prelude.{◌≡◌, ℕ, List, ◌++◌, Option, Result, Ok, Err}
use Rattle.std.specs.Io.KnownBytes.{Appends}

-- The writer gained a front of a text: what it took before it failed.
pub record GainsFront (text : List ℕ) (before after : Option (List ℕ)) : Type 0 where
  pub front : List ℕ
  pub left : List ℕ
  pub cut : text ≡ front ++ left
  pub gained : Appends before after front

-- the writer gained the whole text, or failed and had gained a front of it
abbrev pub Writes : {E : Type 0} → Result (Unit {0}) E → (text : List ℕ) → Option (List ℕ)
    → Option (List ℕ) → Type 0
Writes (Ok done) text before after = Appends before after text
Writes (Err error) text before after = GainsFront text before after
