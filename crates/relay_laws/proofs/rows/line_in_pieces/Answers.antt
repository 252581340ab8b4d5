use Rattle.std.proofs.Common.{[], refl}
use Rattle.relay_model.specs.World.{empty_world}
use Rattle.relay_laws.specs.LineRows as rows
use Rattle.relay_laws.specs.Terms.{k1}
use Rattle.relay_laws.proofs.Playing.{are_answered}
use Rattle.relay_laws.proofs.rows.line_in_pieces.Goals as goal

pub returns : goal.returns
returns c = λ failures. are_answered k1 (empty_world failures) []
    rows.in_pieces rows.in_pieces_replies
    tt refl refl
