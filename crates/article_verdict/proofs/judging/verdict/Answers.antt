use Rattle.std.proofs.Common.{ap, Err}
use Rattle.std.specs.Option.{option_copied}
use Rattle.article_parse.specs.Article.{article_view}
use Rattle.relay_model.specs.Judging.{IsNone}
use Rattle.article_verdict.proofs.Readings.{read_judged, no_article}
use Rattle.article_verdict.specs.Config.{terms_of}
use Rattle.article_verdict.specs.Verdict.{reason_view}
use Rattle.article_verdict.proofs.judging.verdict.Goals as goal

-- an article that was read is judged
pub returns-in-Ok : goal.returns-in-Ok
returns-in-Ok c =
    read_judged (terms_of c.args.config.now) c.args.peer c.args.offered.now c.args.now
    (option_copied c.args.text) c.in-Some.octets.now (article_view c.in-Ok.article)
    (ap option_copied c.in-Some.is) c.in-Ok.ensures.read.article c.judged.result c.judged.ensures

-- a text that has a fault is none
pub returns-in_ok-reason-in-Err : goal.returns-in_ok-reason-in-Err
returns-in_ok-reason-in-Err c =
    IsNone c.in-Some.octets.now (ap option_copied c.in-Some.is)
    (no_article c.in-Some.octets.now c.in-Err.error c.in_ok-reason-in-Err.ensures.fault
    c.in-Err.ensures.fault)
    (ap (λ reason. Err (reason_view reason)) c.in_ok-reason-in-Err.ensures.reason)
