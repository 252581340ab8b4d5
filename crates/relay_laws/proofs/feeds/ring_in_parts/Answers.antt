use Rattle.std.proofs.Common.{refl}
use Rattle.relay_model.specs.World.{empty_world}
use Rattle.relay_laws.specs.FeedRows as rows
use Rattle.relay_laws.specs.Terms.{k1}
use Rattle.relay_laws.proofs.RingArticles.{ring_hints, ring_known}
use Rattle.std.specs.Fmt.{digits}
use Rattle.relay_laws.proofs.Playing.{are_answered}
use Rattle.relay_laws.proofs.feeds.ring_in_parts.Goals as goal

pub returns : goal.returns
unfolding digits
returns c = λ failures. are_answered k1 (empty_world failures) ring_hints
    rows.ring_in_parts rows.ring_in_parts_replies
    (ring_known failures) refl refl
