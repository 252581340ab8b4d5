use Rattle.std.proofs.Common.{true, false, [], ◌∷◌, Ok, inl, refl}
use Rattle.std.specs.Prelude.{codes}
use Rattle.relay_conf.specs.RelayLines as relay
use Rattle.relay_conf.proofs.laws.faults_of_log.Goals as goal

pub returns-clause-again : goal.returns-clause-again
returns-clause-again c = inl (record {
  read = codes "log all f" ∷ codes "own a" ∷ codes "log refused g" ∷ [];
  rest = [];
  said = Ok (relay.Log true (codes "f")) ∷ Ok (relay.Own (codes "a"))
      ∷ Ok (relay.Log false (codes "g")) ∷ [];
  split = refl;
  says = (refl, (refl, (refl, tt)));
  first = refl;
})
