use Rattle.std.proofs.Common.{true, false, [], ◌∷◌, Ok, refl}
use Rattle.std.specs.Prelude.{codes}
use Rattle.relay_conf.specs.RelayLines as relay
use Rattle.relay_conf.proofs.laws.logs_of_examples.Goals as goal

pub returns-clause-all : goal.returns-clause-all
returns-clause-all c = record {
  said = Ok (relay.Own (codes "a")) ∷ Ok (relay.Log true (codes "news.log")) ∷ [];
  says = (refl, (refl, tt));
  gives = refl;
}

pub returns-clause-refused : goal.returns-clause-refused
returns-clause-refused c = record {
  said = Ok (relay.Own (codes "a"))
      ∷ Ok (relay.Log false (codes "/var/log/news/cnrelay.news")) ∷ [];
  says = (refl, (refl, tt));
  gives = refl;
}
