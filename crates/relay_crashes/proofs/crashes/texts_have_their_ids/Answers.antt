use Rattle.relay_crashes.proofs.OwnLives.{own_in_life, own_in_lives}
use Rattle.relay_crashes.proofs.crashes.texts_have_their_ids.Goals as goal

pub returns-clause-life : goal.returns-clause-life
returns-clause-life c = own_in_life

pub returns-clause-lives : goal.returns-clause-lives
returns-clause-lives c = own_in_lives
