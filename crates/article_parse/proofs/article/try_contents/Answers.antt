use Rattle.std.proofs.Common.{◌∷◌, [], map}
use Rattle.news_terms.specs.Article.{BadId, BadGroups}
use Rattle.article_parse.specs.Header.{field_view}
use Rattle.article_parse.specs.Faults.{is_wrong}
use Rattle.article_parse.proofs.FirstFaults.{gives_longer}
use Rattle.article_parse.proofs.article.try_contents.Goals as goal

pub returns-in-Err-clause-fault : goal.returns-in-Err-clause-fault
returns-in-Err-clause-fault c =
    gives_longer (is_wrong (map field_view c.args.fields.now)) (BadId ∷ []) (BadGroups ∷ [])
    c.in-Err.error c.in-Err.ensures.fault
