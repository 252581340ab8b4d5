-- What is told first of a run without words (docs/PROTOCOL.md, Commands).
use Rattle.std.specs.Prelude.{ℕ, ◌&&◌, Bool, true, false, List, [], ◌∷◌, ◌++◌, codes, if◌then◌else◌}
use Rattle.clap.specs.Words.{Text}

-- no word stands behind the program's name
abbrev pub is_wordless : (words : List Text) → Bool
is_wordless [] = true
is_wordless (name ∷ []) = true
is_wordless (name ∷ word ∷ more) = false

-- what a run without words does, and how help is had
abbrev pub hint_line : List ℕ
hint_line =
    codes "cnrelay: playing a script from standard input with the built-in configuration; "
    ++ codes "cnrelay --help lists the commands\n"

-- what is told first on standard error: at a terminal, and of a run without words
abbrev pub hint_of : (words : List Text) → (is_terminal : Bool) → List ℕ
hint_of words is_terminal = if is_terminal && is_wordless words then hint_line else []
