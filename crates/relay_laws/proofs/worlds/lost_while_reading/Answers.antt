use Rattle.std.proofs.Common.{[], refl}
use Rattle.relay_laws.specs.Terms.{k1}
use Rattle.relay_laws.specs.WorldRows as rows
use Rattle.relay_laws.specs.Worlds.{two_stored}
use Rattle.relay_laws.proofs.Playing.{are_answered}
use Rattle.relay_laws.proofs.worlds.lost_while_reading.Goals as goal

pub returns-clause-lost : goal.returns-clause-lost
returns-clause-lost c = λ failures one two. are_answered k1 (two_stored failures one two) []
    rows.lost_while_reading rows.lost_replies (refl, (refl, tt)) refl refl

pub returns-clause-read : goal.returns-clause-read
returns-clause-read c = λ failures one two. are_answered k1 (two_stored failures one two) []
    rows.read_before (rows.read_replies one) (refl, (refl, tt)) refl refl
