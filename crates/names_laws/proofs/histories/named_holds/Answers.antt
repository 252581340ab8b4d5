use Rattle.names_laws.proofs.SameNames.{feeds_hold_by}
use Rattle.names_laws.proofs.Turns.{positions_within}
use Rattle.names_laws.proofs.histories.named_holds.Goals as goal

pub returns : goal.returns
returns c known own buffers old rings kept held ids rises long some =
    record {
      positions = positions_within known.groups kept.positions own.groups some;
      feeds =
          feeds_hold_by buffers known.feeds kept.feeds old held own.feeds rings long;
      ids = ids;
      rises = rises;
    }
