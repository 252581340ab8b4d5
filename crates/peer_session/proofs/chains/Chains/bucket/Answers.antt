use Rattle.std.proofs.Common.{rules}
use Rattle.peer_session.specs.Places.{bucket_of}
use Rattle.peer_session.proofs.chains.Chains.bucket.Goals as goal

pub returns-clause-bucket : goal.returns-clause-bucket
unfolding bucket_of
returns-clause-bucket c = search rules
