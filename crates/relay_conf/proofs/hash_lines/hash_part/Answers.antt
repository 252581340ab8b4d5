use Rattle.relay_conf.proofs.HashParts.{part_is}
use Rattle.relay_conf.proofs.hash_lines.hash_part.Goals as goal

pub returns-then-last-parts : goal.returns-then-last-parts
returns-then-last-parts c = part_is _
