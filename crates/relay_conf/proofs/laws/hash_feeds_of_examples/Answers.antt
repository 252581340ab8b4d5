use Rattle.relay_conf.proofs.HashExamples.{hash_feeds_say}
use Rattle.relay_conf.proofs.laws.hash_feeds_of_examples.Goals as goal

pub returns-clause-lines : goal.returns-clause-lines
returns-clause-lines c = hash_feeds_say
