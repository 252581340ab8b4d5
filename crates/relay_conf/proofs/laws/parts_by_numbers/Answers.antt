use Rattle.std.proofs.Common.{sym}
use Rattle.relay_conf.proofs.HashParts.{part_is, part_is_none}
use Rattle.relay_conf.proofs.laws.parts_by_numbers.Goals as goal

pub returns-clause-part : goal.returns-clause-part
returns-clause-part c = λ hash. sym (part_is hash)

pub returns-clause-none : goal.returns-clause-none
returns-clause-none c = part_is_none
