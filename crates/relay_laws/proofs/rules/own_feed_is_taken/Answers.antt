use Rattle.relay_laws.proofs.OwnFeeds.{taken_feed, given_feed}
use Rattle.relay_laws.proofs.rules.own_feed_is_taken.Goals as goal

pub returns-clause-own : goal.returns-clause-own
returns-clause-own c = taken_feed

pub returns-clause-given : goal.returns-clause-given
returns-clause-given c = given_feed
