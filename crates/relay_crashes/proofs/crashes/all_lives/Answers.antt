use Rattle.relay_crashes.proofs.LivesAgain.{all_lives, gains_once_again}
use Rattle.relay_crashes.proofs.LivesAgain.{accepts_stored_again}
use Rattle.relay_crashes.proofs.crashes.all_lives.Goals as goal

pub returns-clause-well : goal.returns-clause-well
returns-clause-well c = λ w v failures episodes y sound lives.
    (all_lives w v failures episodes y sound lives).well

pub returns-clause-places : goal.returns-clause-places
returns-clause-places c = λ w v failures episodes y sound lives.
    (all_lives w v failures episodes y sound lives).each.one

pub returns-clause-gains : goal.returns-clause-gains
returns-clause-gains c = λ w v failures episodes y sound lives.
    (all_lives w v failures episodes y sound lives).gains

pub returns-clause-once : goal.returns-clause-once
returns-clause-once c = λ w v failures episodes y sound lives.
    gains_once_again v y (all_lives w v failures episodes y sound lives)

pub returns-clause-accepted : goal.returns-clause-accepted
returns-clause-accepted c = λ w v failures episodes y sound lives.
    accepts_stored_again v y (all_lives w v failures episodes y sound lives)
