use Rattle.std.proofs.Common.{[], refl}
use Rattle.std.specs.Fmt.{digits}
use Rattle.relay_laws.specs.FeedRows as rows
use Rattle.relay_laws.specs.OtherTerms.{feeding_both}
use Rattle.relay_laws.specs.Worlds.{both_gained}
use Rattle.relay_laws.proofs.Playing.{are_answered}
use Rattle.relay_laws.proofs.feeds.two_feeds.Goals as goal

pub returns : goal.returns
unfolding digits
returns c = λ failures. are_answered feeding_both (both_gained failures) []
    rows.two_feeds rows.two_feeds_replies
    tt refl refl
