use Rattle.std.proofs.Common.{refl}
use Rattle.std.specs.Str.{byte}
use Rattle.relay_laws.proofs.Articles.{worked_by_tests}
use Rattle.relay_crashes.proofs.rows.there_are_such_texts.Goals as goal

pub returns-clause-first : goal.returns-clause-first
returns-clause-first c = record {
  reads = worked_by_tests (byte "1") 1292 refl refl refl refl refl;
  own = refl;
  long = refl;
}

pub returns-clause-second : goal.returns-clause-second
returns-clause-second c = record {
  reads = worked_by_tests (byte "2") 1292 refl refl refl refl refl;
  own = refl;
  long = refl;
}
