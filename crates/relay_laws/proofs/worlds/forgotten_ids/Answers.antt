use Rattle.std.proofs.Common.{[], refl}
use Rattle.relay_laws.specs.WorldRows as rows
use Rattle.relay_laws.specs.Worlds.{forgetting, remembering}
use Rattle.relay_laws.proofs.Playing.{are_answered}
use Rattle.relay_laws.proofs.worlds.forgotten_ids.Goals as goal

pub returns-clause-ids : goal.returns-clause-ids
returns-clause-ids c = λ failures. are_answered forgetting (remembering failures) []
    rows.forgotten_ids rows.forgotten_replies tt refl refl

pub returns-clause-rounds : goal.returns-clause-rounds
returns-clause-rounds c = λ failures. are_answered forgetting (remembering failures) []
    rows.sixteen_expires rows.sixteen_replies tt refl refl
