use Rattle.std.proofs.Common.{arith}
use Rattle.relay_model.specs.HashFeeds.{hash_of, hash_place}
use Rattle.relay_laws.proofs.HashPlaces.{place-within, up_to-or_behind}
use Rattle.relay_laws.proofs.hash_feeds.hash_feeds_share_out.Goals as goal

-- the place is among the first parts, or else behind them
pub returns : goal.returns
returns c = λ k n id some fewer.
    up_to-or_behind k n (hash_place n id) (omega arith)
    (place-within (hash_of id) n (omega (arith, some, fewer)))
