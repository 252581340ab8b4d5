use Rattle.std.proofs.Common.{[], ◌∷◌, None, Ok, inl, refl}
use Rattle.std.specs.Prelude.{codes}
use Rattle.relay_conf.specs.HashLines.{hash_part}
use Rattle.relay_conf.specs.K1.{every_newsgroup}
use Rattle.relay_conf.specs.RelayLines as relay
use Rattle.relay_conf.proofs.BuiltIn.{star_is_every_newsgroup}
use Rattle.relay_conf.proofs.laws.faults_of_hash.Goals as goal

pub returns-clause-again : goal.returns-clause-again
returns-clause-again c = inl (record {
  read = codes "own a" ∷ codes "peer p b 0" ∷ codes "feed p 2 * hash 1/2"
      ∷ codes "feed p 2 *" ∷ [];
  rest = [];
  said = Ok (relay.Own (codes "a")) ∷ Ok (relay.PeerLine (codes "p") (codes "b") 0)
      ∷ Ok (relay.FeedLine (codes "p") 2 every_newsgroup (hash_part 1 1 2))
      ∷ Ok (relay.FeedLine (codes "p") 2 every_newsgroup None) ∷ [];
  split = refl;
  says = (
    refl,
    (
      refl,
      (
        (every_newsgroup, star_is_every_newsgroup, refl),
        ((every_newsgroup, star_is_every_newsgroup, refl), tt),
      ),
    ),
  );
  first = refl;
})
