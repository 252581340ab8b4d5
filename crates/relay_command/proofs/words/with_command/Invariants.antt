use Rattle.std.proofs.Common.{◌≡◌, drop, map}
use Rattle.clap.specs.Words.{App}
use Rattle.relay_command.specs.CommandLine.{Reads}
use Rattle.relay_command.specs.WordTable.{app_of_words, rule_of_word, with_rules}
use Rattle.relay_command.proofs.words.with_command.Given as goal

-- the command reads what came so far, and with the words that are left it reads all
abbrev pub invariant-loop-word : goal.invariant-loop-word
invariant-loop-word l =
    (app : App) × Reads l.command app
    × (with_rules app (map rule_of_word (drop l.word-index l.words.words.now))
    ≡ app_of_words l.words)
