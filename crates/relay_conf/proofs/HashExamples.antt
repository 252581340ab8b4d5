-- Lines of feeds of a part of the articles say what the examples have.
use Rattle.std.proofs.Common.{◌∷◌, [], Ok, None, refl}
use Rattle.std.specs.Prelude.{codes}
use Rattle.relay_conf.specs.HashExamples.{hash_lines, hash_settings}
use Rattle.relay_conf.specs.HashLines.{hash_part}
use Rattle.relay_conf.specs.K1.{every_newsgroup}
use Rattle.relay_conf.specs.RelayLines as relay
use Rattle.relay_conf.specs.RelayViews.{HasSettings}
use Rattle.relay_conf.proofs.BuiltIn.{star_is_every_newsgroup}

-- The lines say these settings.
pub hash_feeds_say : HasSettings hash_lines hash_settings
hash_feeds_say = record {
  said = Ok (relay.Own (codes "a")) ∷ Ok (relay.PeerLine (codes "p") (codes "b") 0)
      ∷ Ok (relay.PeerLine (codes "q") (codes "c") 0)
      ∷ Ok (relay.PeerLine (codes "r") (codes "d") 0)
      ∷ Ok (relay.FeedLine (codes "p") 2 every_newsgroup (hash_part 1 1 2))
      ∷ Ok (relay.FeedLine (codes "q") 2 every_newsgroup (hash_part 2 2 2))
      ∷ Ok (relay.FeedLine (codes "r") 2 every_newsgroup None) ∷ [];
  says = (
    refl,
    (
      refl,
      (
        refl,
        (
          refl,
          (
            (every_newsgroup, star_is_every_newsgroup, refl),
            (
              (every_newsgroup, star_is_every_newsgroup, refl),
              ((every_newsgroup, star_is_every_newsgroup, refl), tt),
            ),
          ),
        ),
      ),
    ),
  );
  gives = refl;
}
