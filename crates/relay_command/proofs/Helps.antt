-- What words come to that ask for nothing that is done.
use Rattle.std.proofs.Common.{◌≡◌, ◌∙◌, ℕ, List, Option, Result, Ok, Err, inl, inr, subst, sym}
use Rattle.clap.specs.Words.{Text, kind_of}
use Rattle.clap.specs.declared.error.Error.{Error}
use Rattle.clap.specs.declared.error.kind.ErrorKind.{ErrorKind}
use Rattle.clap.specs.declared.error.kind.ErrorKind.TheVariants.{DisplayHelp, DisplayVersion}
use Rattle.clap.specs.declared.error.kind.ErrorKind.TheVariants.{OutOfMemory}
use Rattle.relay_report.specs.Written.{GainsFront}
use Rattle.std.specs.Io.KnownBytes.{Appends}
use Rattle.relay_command.specs.CommandLine.{HasFault, IsRefusedBy}
use Rattle.relay_command.specs.Help.{AreAtFault, GivesFront, GivesHelp, HelpGives, ErrorTextGives}
use Rattle.relay_command.specs.Help.{help}
use Rattle.relay_command.specs.declared.failure.Failure.{Failure}
use Rattle.relay_command.specs.declared.failure.Failure.TheVariants as failures

-- An error of a kind says that the words have this fault, where it isn't that memory ran out.
pub has_kind : (words : List Text) (error : Error) (kind : ErrorKind) → kind_of error ≡ kind
    → (kind ≡ OutOfMemory → ⊥) → IsRefusedBy words error → HasFault words kind
has_kind words error kind is other (inl memory) = absurd (other (sym is ∙ memory))
has_kind words error kind is other (inr fault) = subst (HasFault words) is fault

-- Want of memory isn't that help or the version is asked for.
pub wants_memory : (words : List Text) (error : Error) → kind_of error ≡ OutOfMemory
    → AreAtFault words error
wants_memory words error memory = record {
  said = inl memory;
  no_help = λ is. let bad : OutOfMemory ≡ DisplayHelp = sym memory ∙ is in cc;
  no_version = λ is. let bad : OutOfMemory ≡ DisplayVersion = sym memory ∙ is in cc;
}

-- Clap's text was written of words that ask for help, or a front of it; or there was no memory.
pub text_given : (words : List Text) (result : Result (Unit {0}) Failure)
    (before after : Option (List ℕ)) → HasFault words DisplayHelp
    → ErrorTextGives result before after
    → HelpGives words result before after
text_given words (Ok done) before after asked gives =
    record { text = gives.0; wanted = help asked; written = gives.1 }
text_given words (Err failures.Unwritten) before after asked gives =
    record { text = gives.0; wanted = help asked; written = gives.1 }
text_given words (Err (failures.Words error)) before after asked gives =
    (wants_memory words error gives.0, gives.1)
text_given words (Err (failures.Unbegun unbegun)) before after asked gives = absurd gives
text_given words (Err failures.Clash) before after asked gives = absurd gives
text_given words (Err (failures.Check error)) before after asked gives = absurd gives
text_given words (Err (failures.Explain unexplained)) before after asked gives = absurd gives
text_given words (Err (failures.Drill error)) before after asked gives = absurd gives
text_given words (Err (failures.Token fault)) before after asked gives = absurd gives
text_given words (Err (failures.Serve error)) before after asked gives = absurd gives
text_given words (Err (failures.Ask error)) before after asked gives = absurd gives
