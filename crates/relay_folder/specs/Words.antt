-- The words at a relay's socket (docs/PROTOCOL.md, `stop` and `report`, `pause` and `go`,
-- `reload`).
use Rattle.std.specs.Prelude.{ℕ, List, [], ◌∷◌, ◌++◌, codes}
use Rattle.relay_folder.specs.declared.words.Word.{Word}
use Rattle.relay_folder.specs.declared.words.Word.TheVariants as words

-- the line by which a word is asked for
abbrev pub line_of : Word → List ℕ
line_of words.Stop = codes "stop" ++ 10 ∷ []
line_of words.Report = codes "report" ++ 10 ∷ []
line_of words.Pause = codes "pause" ++ 10 ∷ []
line_of words.Go = codes "go" ++ 10 ∷ []
line_of words.Reload = codes "reload" ++ 10 ∷ []
