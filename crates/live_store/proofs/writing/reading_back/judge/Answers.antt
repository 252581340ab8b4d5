use Rattle.article_parse.specs.Article.{article_view}
use Rattle.live_store.proofs.ReadBackLemmas.{no_article}
use Rattle.live_store.proofs.writing.reading_back.judge.Goals as goal

pub returns-in-Err-clause-refused : goal.returns-in-Err-clause-refused
returns-in-Err-clause-refused c = no_article c.args.text.now c.in-Err.error c.told.result
    c.in-Err.ensures.fault c.told.ensures

pub returns-clause-article : goal.returns-clause-article
returns-clause-article c =
    ∣ (article_view c.in-Ok.article, c.in-Ok.ensures.read.article) ∣₁
