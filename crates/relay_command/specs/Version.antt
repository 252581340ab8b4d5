-- What is told of the program's version (docs/PROTOCOL.md, Commands).
use Rattle.std.specs.Prelude.{ℕ, List, ◌++◌, codes}
use Rattle.relay_command.specs.declared.version.TheConstants.{VERSION}

-- the program's name and its version in one line: `cnrelay 0.1.0`
abbrev pub version_line : List ℕ
version_line = codes "cnrelay " ++ VERSION.now ++ codes "\n"
