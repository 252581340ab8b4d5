use Rattle.std.proofs.Common.{[], refl}
use Rattle.relay_laws.specs.Terms.{k1}
use Rattle.relay_laws.specs.WorldRows as rows
use Rattle.relay_laws.specs.Worlds.{reading_last}
use Rattle.relay_laws.proofs.Playing.{are_answered}
use Rattle.relay_laws.proofs.worlds.during_fetch.Goals as goal

pub returns-clause-octets : goal.returns-clause-octets
returns-clause-octets c = λ failures one two. are_answered k1 (reading_last failures one two) []
    rows.octets_during_fetch (rows.octets_during_fetch_replies one) tt refl refl

pub returns-clause-broken : goal.returns-clause-broken
returns-clause-broken c = λ failures one two. are_answered k1 (reading_last failures one two) []
    rows.break_during_fetch rows.break_during_fetch_replies tt refl refl
