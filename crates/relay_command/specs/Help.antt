-- What is told where the words ask for help or the version (docs/PROTOCOL.md, Commands).
use Rattle.std.specs.Prelude.{◌≡◌, ◌≢◌, ℕ, List, Option, Result, Ok, Err}
use Rattle.std.specs.Io.KnownBytes.{Appends, Keeps}
use Rattle.clap.specs.Words.{Text, kind_of}
use Rattle.clap.specs.declared.error.Error.{Error}
use Rattle.clap.specs.declared.error.kind.ErrorKind.TheVariants.{DisplayHelp, DisplayVersion}
use Rattle.clap.specs.declared.error.kind.ErrorKind.TheVariants.{OutOfMemory}
use Rattle.relay_report.specs.Written.{GainsFront}
use Rattle.relay_command.specs.CommandLine.{HasFault, IsRefusedBy}
use Rattle.relay_command.specs.Version.{version_line}
use Rattle.relay_command.specs.declared.failure.Failure.{Failure}
use Rattle.relay_command.specs.declared.failure.Failure.TheVariants.{Unwritten, Words}

-- the text that the words ask for, by clap's reading of them
pub data AskFor (words : List Text) (text : List ℕ) : Type 0 where
  -- they ask for the version, and it is the version's line
  the_version : HasFault words DisplayVersion → text ≡ version_line → AskFor words text
  -- they ask for help, and it is clap's, of which nothing is known
  help : HasFault words DisplayHelp → AskFor words text

-- A text that the words ask for was written.
pub record GivesHelp (words : List Text) (before after : Option (List ℕ)) : Type 0 where
  pub text : List ℕ
  pub wanted : AskFor words text
  pub written : Appends before after text

-- A text that the words ask for was being written, and the writer failed, with a front of it.
pub record GivesFront (words : List Text) (before after : Option (List ℕ)) : Type 0 where
  pub text : List ℕ
  pub wanted : AskFor words text
  pub written : GainsFront text before after

-- The error says that memory ran out, or that the words have this fault, which isn't that they ask
-- for help or the version.
pub record AreAtFault (words : List Text) (error : Error) : Type 0 where
  pub said : IsRefusedBy words error
  pub no_help : kind_of error ≢ DisplayHelp
  pub no_version : kind_of error ≢ DisplayVersion

-- what words come to that ask for nothing that is done: the text that they ask for was written, or
-- a front of it; or they are at fault, and nothing was written
abbrev pub HelpGives : List Text → Result (Unit {0}) Failure → (before after : Option (List ℕ))
    → Type 0
HelpGives words (Ok done) before after = GivesHelp words before after
HelpGives words (Err Unwritten) before after = GivesFront words before after
HelpGives words (Err (Words error)) before after = AreAtFault words error × Keeps before after
HelpGives words (Err failure) before after = ⊥

-- STEP BY STEP

-- clap's text of an error was written, or a front of it; or memory ran out before it was made
abbrev pub ErrorTextGives : Result (Unit {0}) Failure → (before after : Option (List ℕ)) → Type 0
ErrorTextGives (Ok done) before after = (text : List ℕ) × Appends before after text
ErrorTextGives (Err Unwritten) before after = (text : List ℕ) × GainsFront text before after
ErrorTextGives (Err (Words error)) before after = (kind_of error ≡ OutOfMemory) × Keeps before after
ErrorTextGives (Err failure) before after = ⊥
