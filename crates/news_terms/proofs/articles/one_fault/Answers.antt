use Rattle.news_terms.proofs.ArticleFaults.{one_first_fault, article_without_fault}
use Rattle.news_terms.proofs.articles.one_fault.Goals as goal

pub returns-clause-one : goal.returns-clause-one
returns-clause-one c = one_first_fault

pub returns-clause-none : goal.returns-clause-none
returns-clause-none c = article_without_fault
