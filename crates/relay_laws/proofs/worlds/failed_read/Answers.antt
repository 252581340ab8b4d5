use Rattle.std.proofs.Common.{refl}
use Rattle.relay_laws.specs.Terms.{k1, now}
use Rattle.relay_laws.specs.Worlds.{reading_last, reading_by_token, reading_on}
use Rattle.relay_laws.proofs.FailedReads.{may_fail}
use Rattle.relay_laws.proofs.worlds.failed_read.Goals as goal

pub returns-clause-by_id : goal.returns-clause-by_id
returns-clause-by_id c = λ failures after one two failed.
    may_fail k1 (reading_last failures one two) 2 now _ _ _ _ after refl refl refl refl failed

pub returns-clause-by_token : goal.returns-clause-by_token
returns-clause-by_token c = λ failures after one two failed.
    may_fail k1 (reading_by_token failures one two) 2 now _ _ _ _ after refl refl refl refl failed

pub returns-clause-at_any_block : goal.returns-clause-at_any_block
returns-clause-at_any_block c = λ asked had failures after one two failed.
    may_fail k1 (reading_on asked had failures one two) 2 now _ _ _ _ after refl refl refl refl
    failed
