use Rattle.std.proofs.Common.{◌≡◌, drop, map}
use Rattle.clap.specs.Words.{App}
use Rattle.relay_command.specs.CommandLine.{Reads, program_words}
use Rattle.relay_command.specs.WordTable.{app_of_words, with_commands}
use Rattle.relay_command.proofs.words.command.Given as goal

-- the command reads what came so far, and with the commands that are left it reads all
abbrev pub invariant-loop-words : goal.invariant-loop-words
invariant-loop-words l =
    (app : App) × Reads l.command app
    × (with_commands app (map app_of_words (drop l.words-index l.words-items)) ≡ program_words)
