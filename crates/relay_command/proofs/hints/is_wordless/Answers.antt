use Rattle.std.proofs.Common.{string_bytes}
use Rattle.relay_command.proofs.Wordless.{one_at_most}
use Rattle.relay_command.proofs.hints.is_wordless.Goals as goal

pub returns : goal.returns
returns c = one_at_most string_bytes c.args.words.now
