use Rattle.std.proofs.Common.{[], refl}
use Rattle.relay_laws.specs.OtherTerms.{two_forgetting}
use Rattle.relay_laws.specs.WorldRows as rows
use Rattle.relay_laws.specs.Worlds.{remembering_two}
use Rattle.relay_laws.proofs.Playing.{are_answered}
use Rattle.relay_laws.proofs.worlds.forgotten_in_two_buffers.Goals as goal

pub returns : goal.returns
returns c = λ failures. are_answered two_forgetting (remembering_two failures) []
    rows.forgotten_in_two rows.forgotten_in_two_replies tt refl refl
