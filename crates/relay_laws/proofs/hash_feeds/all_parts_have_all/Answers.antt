use Rattle.std.proofs.Common.{arith}
use Rattle.relay_model.specs.HashFeeds.{hash_of, hash_place}
use Rattle.relay_laws.proofs.HashPlaces.{place-within, up_to-all}
use Rattle.relay_laws.proofs.hash_feeds.all_parts_have_all.Goals as goal

-- each place is among all
pub returns : goal.returns
returns c = λ n id some.
    up_to-all n (hash_place n id) (omega arith) (place-within (hash_of id) n some)
