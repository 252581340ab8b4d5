use Rattle.news_terms.proofs.PathUpdates.{updated-names, updated-contents}
use Rattle.news_terms.proofs.paths.update_keeps.Goals as goal

pub returns-clause-names : goal.returns-clause-names
returns-clause-names c own expected a = updated-names own expected a.fields

pub returns-clause-other_contents : goal.returns-clause-other_contents
returns-clause-other_contents c own expected name a h =
    updated-contents own expected name a.fields h
