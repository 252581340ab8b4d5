use Rattle.live_jobs.proofs.HandedIn.{is_told}
use Rattle.live_jobs.proofs.laws.is_told_job.Goals as goal

pub returns : goal.returns
returns g c =
    ∣ is_told g.job.run g.job.finished c.requires.1.0 c.requires.1.1.0 c.requires.1.1.1 ∣₁
