use Rattle.relay_laws.proofs.ReadFronts.{fronts_always, fronts_begin, fronts_kept}
use Rattle.relay_laws.proofs.forgetting.fronts_are_read.Goals as goal

pub returns-clause-begins : goal.returns-clause-begins
returns-clause-begins c = fronts_begin

pub returns-clause-kept : goal.returns-clause-kept
returns-clause-kept c = λ w x y event output sound well fronts step.
    fronts_kept w sound x event output y well step fronts

pub returns-clause-run : goal.returns-clause-run
returns-clause-run c = fronts_always
