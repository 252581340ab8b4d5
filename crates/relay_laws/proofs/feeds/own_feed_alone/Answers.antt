use Rattle.std.proofs.Common.{[], refl}
use Rattle.relay_model.specs.World.{empty_world}
use Rattle.relay_laws.specs.FeedRows as rows
use Rattle.relay_laws.specs.Terms.{feeding_first}
use Rattle.relay_laws.proofs.Playing.{are_answered}
use Rattle.relay_laws.proofs.feeds.own_feed_alone.Goals as goal

pub returns : goal.returns
returns c = λ failures. are_answered feeding_first (empty_world failures) []
    rows.no_feed rows.no_feed_replies
    tt refl refl
