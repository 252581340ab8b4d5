-- The news log, in examples (docs/FORMATS.md, Configuration).
use Rattle.std.specs.Prelude.{Bool, List, ℕ, [], ◌∷◌, codes, Some}
use Rattle.relay_conf.specs.ReachExamples.{settings_with}
use Rattle.relay_conf.specs.Relay.{RelaySettings, each_address}

-- the lines of the relay `a` with this line behind that of its identity
abbrev pub lines_with : (line : List ℕ) → List (List ℕ)
lines_with line = codes "own a" ∷ line ∷ []

-- the settings of the relay `a` with this news log, and without any other line
abbrev pub logging : (all : Bool) (path : List ℕ) → RelaySettings
logging all path =
    record (settings_with (each_address ∷ []) [] []) {
      log = Some (record { all = all; path = path });
    }
