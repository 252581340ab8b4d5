-- What the words ask for is done.
use Rattle.std.proofs.Common.{ℕ, Bool, List, Option, Result, Ok, Err, inl, inr}
use denote.Ref.{Bor, MutBor}
use Rattle.relay_conf.specs.declared.settings.Config.{Config}
use Rattle.relay_adding.specs.Telling.{AddsRightly}
use Rattle.relay_report.specs.declared.fault.ServeError.{ServeError}
use Rattle.relay_command.specs.Adding.{Adding, HandedTo, Standing}
use Rattle.relay_command.specs.Ask.{Asking}
use Rattle.clap.specs.Words.{Text}
use Rattle.clap.specs.declared.error.Error.{Error}
use Rattle.relay_command.specs.CommandLine.{Adds, Asked, Checks, Drills, Explains, Reports, Serves}
use Rattle.relay_command.specs.CommandLine.{Clashes, Goes, IsAskedBy, Pauses, Reloads, Stops}
use Rattle.relay_command.specs.CommandLine.{Tells}
use Rattle.relay_command.specs.Help.{HelpGives}
use Rattle.relay_command.specs.Run.{Performs, RunGives}
use Rattle.relay_command.specs.Serving.{Handed, LivesRightly, Serving}
use Rattle.relay_command.specs.declared.failure.Failure.{Failure}
use Rattle.relay_command.specs.declared.failure.Failure.TheVariants as failures

module _ {W : Type 0} (contents : W → Option (List ℕ))
    (post : Bor Config → Bor (List ℕ) → Option ℕ → Bool → MutBor W
    → Result (Unit {0}) ServeError → MutBor W → Type 0)
    (rightly : LivesRightly contents post)
    (add_post : Bor Config → Bor (List ℕ) → MutBor W → Result (Unit {0}) ServeError → MutBor W
    → Type 0)
    (adds_rightly : AddsRightly contents add_post) (standing : Standing) (asking : Asking) where
  abbrev serving : Serving
  serving = Handed contents post

  abbrev adding : Adding
  adding = HandedTo contents add_post

  -- Nothing that the words ask for fails as words that ask for nothing do.
  never_words : (a : Asked) (error : Error) (input before after : Option (List ℕ))
      → Performs serving adding standing asking a (Err (failures.Words error)) input before after
      → ⊥
  never_words (Drills folder script reasons) error input before after does = does
  never_words (Checks folder) error input before after does = does
  never_words (Explains folder question) error input before after does = does
  never_words (Tells text) error input before after does = does
  never_words (Serves folder sessions fresh) error input before after does = does
  never_words (Stops folder) error input before after does = does
  never_words (Reports folder form) error input before after does = does
  never_words (Pauses folder) error input before after does = does
  never_words (Goes folder) error input before after does = does
  never_words (Reloads folder) error input before after does = does
  never_words Clashes error input before after does = does
  never_words (Adds folder) error input before after does = does

  -- Nor does it fail as help does that can't be written.
  never_unwritten : (a : Asked) (input before after : Option (List ℕ))
      → Performs serving adding standing asking a (Err failures.Unwritten) input before after → ⊥
  never_unwritten (Drills folder script reasons) input before after does = does
  never_unwritten (Checks folder) input before after does = does
  never_unwritten (Explains folder question) input before after does = does
  never_unwritten (Tells text) input before after does = does
  never_unwritten (Serves folder sessions fresh) input before after does = does
  never_unwritten (Stops folder) input before after does = does
  never_unwritten (Reports folder form) input before after does = does
  never_unwritten (Pauses folder) input before after does = does
  never_unwritten (Goes folder) input before after does = does
  never_unwritten (Reloads folder) input before after does = does
  never_unwritten Clashes input before after does = does
  never_unwritten (Adds folder) input before after does = does

  -- What the words ask for was done, or failed.
  pub ran : (words : List Text) (a : Asked) (result : Result (Unit {0}) Failure)
      (input before after : Option (List ℕ)) → IsAskedBy words a
      → Performs serving adding standing asking a result input before after
      → RunGives serving adding standing asking words result input before after
  ran words a (Ok done) input before after is does = inl (a, is, does)
  ran words a (Err (failures.Words error)) input before after is does =
      absurd (never_words a error input before after does)
  ran words a (Err (failures.Unbegun unbegun)) input before after is does = (a, is, does)
  ran words a (Err failures.Clash) input before after is does = (a, is, does)
  ran words a (Err (failures.Check error)) input before after is does = (a, is, does)
  ran words a (Err (failures.Explain unexplained)) input before after is does = (a, is, does)
  ran words a (Err (failures.Drill error)) input before after is does = (a, is, does)
  ran words a (Err (failures.Token fault)) input before after is does = (a, is, does)
  ran words a (Err (failures.Serve error)) input before after is does = (a, is, does)
  ran words a (Err (failures.Ask error)) input before after is does = (a, is, does)
  ran words a (Err failures.Unwritten) input before after is does =
      absurd (never_unwritten a input before after does)

  -- Help was told that the words ask for, or they are at fault.
  pub helped : (words : List Text) (result : Result (Unit {0}) Failure)
      (input before after : Option (List ℕ)) → HelpGives words result before after
      → RunGives serving adding standing asking words result input before after
  helped words (Ok done) input before after gives = inr gives
  helped words (Err failures.Unwritten) input before after gives = gives
  helped words (Err (failures.Words error)) input before after gives = gives
  helped words (Err (failures.Unbegun unbegun)) input before after gives = absurd gives
  helped words (Err failures.Clash) input before after gives = absurd gives
  helped words (Err (failures.Check error)) input before after gives = absurd gives
  helped words (Err (failures.Explain unexplained)) input before after gives = absurd gives
  helped words (Err (failures.Drill error)) input before after gives = absurd gives
  helped words (Err (failures.Token fault)) input before after gives = absurd gives
  helped words (Err (failures.Serve error)) input before after gives = absurd gives
  helped words (Err (failures.Ask error)) input before after gives = absurd gives
