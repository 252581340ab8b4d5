-- How clap reads the words of the program's table of commands.
use Rattle.std.specs.Prelude.{ℤ, List, [], ◌∷◌, Some, map, pos}
use Rattle.clap.specs.Words.{App, Rule, Text, new_app, new_rule, with_rule}
use Rattle.clap.specs.Words.{with_subcommand}
use Rattle.clap.specs.declared.builder.ArgAction.TheVariants.{Set, SetTrue}
use Rattle.clap.specs.declared.builder.ValueParser.TheVariants.{Signed}
use Rattle.relay_command.specs.CommandLine.{needed}
use Rattle.relay_command.specs.Questions.{optional}
use Rattle.relay_command.specs.declared.words.Kind.{Kind}
use Rattle.relay_command.specs.declared.words.Kind.TheVariants as kinds
use Rattle.relay_command.specs.declared.words.Word.{Word}
use Rattle.relay_command.specs.declared.words.Words.{Words}

-- a word that is a number from 1 to this one
abbrev pub with_number : ℤ → Rule → Rule
with_number most rule = record rule { parser = Some (Signed (pos 1) most); action = Some Set }

-- how clap reads a word of this name that is given so
abbrev pub rule_as : Text → Kind → Rule
rule_as name kinds.Needed = needed name
rule_as name kinds.Optional = optional name
rule_as name (kinds.Number most) = with_number most (new_rule name)
rule_as name (kinds.Named most) =
    record (with_number most (new_rule name)) { long = Some name; value_names = 1 }
rule_as name kinds.Flag = record (new_rule name) { long = Some name; action = Some SetTrue }

-- how clap reads a word
abbrev pub rule_of_word : Word → Rule
rule_of_word word = rule_as word.name.now word.kind

-- a command with these words behind its own
abbrev pub with_rules : App → List Rule → App
with_rules app [] = app
with_rules app (rule ∷ rules) = with_rules (with_rule app rule) rules

-- how clap reads a command
abbrev pub app_of_words : Words → App
app_of_words words = with_rules (new_app words.name.now) (map rule_of_word words.words.now)

-- a command with these below it
abbrev pub with_commands : App → List App → App
with_commands app [] = app
with_commands app (below ∷ more) = with_commands (with_subcommand app below.top) more
