-- Accepted articles and jobs as the definitions have them.
use Rattle.buffer_group.specs.declared.job.Accepted.{Accepted}
use Rattle.buffer_group.specs.declared.job.Job.{Job}
use Rattle.relay_model.specs.Claims as claims
use Rattle.relay_model.specs.State as state

-- an accepted article as the definitions have it
abbrev pub article_view : Accepted → claims.Accepted
article_view article =
    record {
      class = article.class;
      group = article.group;
      permitted = article.permitted.items;
      text = article.text;
    }

-- a job as the definitions have it
abbrev pub job_view : Job → state.Job
job_view job =
    record { session = job.session; id = job.id; article = article_view job.article }
