use Rattle.names_laws.proofs.Turns.{positions_within}
use Rattle.names_laws.proofs.positions.positions_are_places.Goals as goal

pub returns : goal.returns
returns c known own rings kept some =
    positions_within known.groups kept.positions own.groups some
