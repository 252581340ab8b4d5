use Rattle.std.proofs.Common.{[], ◌∷◌, refl}
use Rattle.std.specs.Fmt.{digits}
use Rattle.relay_model.specs.Run.{IsDone}
use Rattle.relay_model.specs.Writers.{FailsToWrite, HasFailedToStore}
use Rattle.relay_laws.specs.Terms.{k1}
use Rattle.relay_laws.specs.WorldRows as rows
use Rattle.relay_laws.specs.Worlds.{failed_world, third_job, fourth_job, three_blocks_at}
use Rattle.relay_laws.proofs.Playing.{are_answered}
use Rattle.relay_laws.proofs.worlds.failed_write.Goals as goal

pub returns-clause-fails : goal.returns-clause-fails
returns-clause-fails c = λ failures after one two written less failed.
    IsDone refl (
      refl,
      FailsToWrite third_job (three_blocks_at 1 0) written after _ refl less failed
          (record { begun = refl; after = refl }) refl,
    )

pub returns-clause-told : goal.returns-clause-told
unfolding digits
returns-clause-told c = λ failures one two written.
    are_answered k1 (failed_world failures one two third_job (fourth_job ∷ []) written) []
    rows.after_failure rows.after_failure_replies
    (HasFailedToStore refl, (refl, (refl, (refl, (refl, (refl, tt)))))) refl refl

pub returns-clause-told_by_ihave : goal.returns-clause-told_by_ihave
returns-clause-told_by_ihave c = λ failures one two written.
    are_answered k1 (failed_world failures one two fourth_job [] written) []
    rows.fourth_fails rows.fourth_fails_replies (HasFailedToStore refl, tt) refl refl
