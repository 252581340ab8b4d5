use Rattle.std.proofs.Common.{◌≤◌, []}
use Rattle.std.proofs.lemmas.List.Elements.{All-nil}
use Rattle.relay_model.specs.Crash.{Listed}
use Rattle.relay_model.specs.Terms.{last_moment}
use Rattle.relay_crashes.specs.Killed.{refused_listed}
use Rattle.relay_crashes.proofs.KilledAgain.{killed_refused, listed_timed}
use Rattle.relay_crashes.proofs.rows.killed_after_refusal.Goals as goal

pub returns-clause-unlisted : goal.returns-clause-unlisted
returns-clause-unlisted c = λ failures later two b is.
    killed_refused failures later two b [] is
    (All-nil (λ (one : Listed). one.moment ≤ last_moment))

pub returns-clause-listed : goal.returns-clause-listed
returns-clause-listed c = λ failures later two b is.
    killed_refused failures later two b refused_listed is listed_timed
