use Rattle.std.proofs.Common.{[], refl}
use Rattle.relay_model.specs.World.{empty_world}
use Rattle.relay_laws.specs.Rows as rows
use Rattle.relay_laws.specs.Terms.{k1}
use Rattle.relay_laws.proofs.Playing.{are_answered}
use Rattle.relay_laws.proofs.rows.session_numbers.Goals as goal

pub returns : goal.returns
returns c = λ failures. are_answered k1 (empty_world failures) []
    rows.numbers rows.numbers_replies
    tt refl refl
