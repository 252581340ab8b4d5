use Rattle.std.proofs.Common.{[], refl}
use Rattle.relay_laws.specs.Terms.{k1}
use Rattle.relay_laws.specs.WorldRows as rows
use Rattle.relay_laws.specs.Worlds.{aging, offering, outdated, running_out}
use Rattle.relay_laws.proofs.Playing.{are_answered}
use Rattle.relay_laws.proofs.worlds.open_offers.Goals as goal

pub returns-clause-full : goal.returns-clause-full
returns-clause-full c = λ failures. are_answered k1 (offering failures 256) []
    rows.offers rows.full_replies tt refl refl

pub returns-clause-last : goal.returns-clause-last
returns-clause-last c = λ failures. are_answered k1 (offering failures 255) []
    rows.offers rows.last_replies tt refl refl

pub returns-clause-again : goal.returns-clause-again
returns-clause-again c = λ failures. are_answered k1 (offering failures 256) []
    rows.open_again rows.open_again_replies tt refl refl

pub returns-clause-outdated : goal.returns-clause-outdated
returns-clause-outdated c = λ failures. are_answered k1 (outdated failures) []
    rows.outdated_offers rows.outdated_replies tt refl refl

pub returns-clause-by_ihave : goal.returns-clause-by_ihave
returns-clause-by_ihave c = λ failures. are_answered k1 (outdated failures) []
    rows.outdated_by_ihave rows.outdated_by_ihave_replies tt refl refl

pub returns-clause-aging : goal.returns-clause-aging
returns-clause-aging c = λ failures. are_answered running_out (aging failures) []
    rows.new_again rows.new_again_replies tt refl refl

pub returns-clause-staying : goal.returns-clause-staying
returns-clause-staying c = λ failures. are_answered k1 (aging failures) []
    rows.new_again rows.staying_replies tt refl refl
