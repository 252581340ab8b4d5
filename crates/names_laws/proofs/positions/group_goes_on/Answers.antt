use Rattle.std.proofs.Common.{Some, ap, ◌∙◌, map, zip}
use Rattle.named_history.specs.Naming.{name_of}
use Rattle.names_laws.proofs.Turns.{turn_there}
use Rattle.names_laws.proofs.Under.{place_first, position_at, under_first, zip_at}
use Rattle.names_laws.proofs.positions.group_goes_on.Goals as goal

pub returns : goal.returns
returns c known own rings kept i k position place group old buffer at first was turn here there =
    let names = map name_of known.groups in
    let pairs = zip known.groups kept.positions in
    position_at known own rings kept i group (Some (old, position)) at
    (under_first group.name names pairs k first
    ∙ zip_at known.groups kept.positions k old position was turn)
    ∙ ap Some (turn_there old.buffers position group.buffers buffer place here
    (place_first buffer group.buffers place there))
