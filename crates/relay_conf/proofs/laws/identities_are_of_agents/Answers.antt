use Rattle.relay_conf.proofs.SoundRelay.{relay_is_sound}
use Rattle.relay_conf.proofs.laws.identities_are_of_agents.Goals as goal

pub returns-clause-own : goal.returns-clause-own
returns-clause-own c = λ lines settings h. (relay_is_sound lines settings h).own

pub returns-clause-peers : goal.returns-clause-peers
returns-clause-peers c = λ lines settings h. (relay_is_sound lines settings h).identities
