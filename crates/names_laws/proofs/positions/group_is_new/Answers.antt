use Rattle.std.proofs.Common.{None, map, zip}
use Rattle.named_history.specs.Naming.{name_of}
use Rattle.names_laws.proofs.Under.{position_at, under_none}
use Rattle.names_laws.proofs.positions.group_is_new.Goals as goal

pub returns : goal.returns
returns c known own rings kept i group at nowhere =
    position_at known own rings kept i group None at
    (under_none group.name (map name_of known.groups) (zip known.groups kept.positions) nowhere)
