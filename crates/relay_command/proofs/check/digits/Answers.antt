use Rattle.std.proofs.Common.{◌∙◌}
use Rattle.relay_command.proofs.check.digits.Goals as goal

pub returns : goal.returns
returns c = c.as_bytes.ensures.value ∙ c.format.ensures.text
