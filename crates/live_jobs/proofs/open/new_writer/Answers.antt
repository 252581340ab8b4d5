use Rattle.live_jobs.proofs.Taken.{none_taken}
use Rattle.live_jobs.proofs.open.new_writer.Goals as goal

pub invariant_of-result-clause-took : goal.invariant_of-result-clause-took
invariant_of-result-clause-took g c =
    none_taken g.O.Outcome.fits c.args.pass c.new.result.items c.args.closed.items c.requires.pass
    c.new.ensures c.requires.none
