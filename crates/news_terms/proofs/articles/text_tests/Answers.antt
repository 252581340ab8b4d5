use Rattle.std.proofs.lemmas.Bool.{both_ways}
use Rattle.news_terms.proofs.EmptyLines.{has_empty_line-iff}
use Rattle.news_terms.proofs.LinePairs.{paired_from, paired_to}
use Rattle.news_terms.proofs.ArticleFaults.{laid_out_line, laid_out_header}
use Rattle.news_terms.proofs.articles.text_tests.Goals as goal

pub returns-clause-paired : goal.returns-clause-paired
returns-clause-paired c text = (paired_from 0 text, paired_to 0 text)

pub returns-clause-empty_line : goal.returns-clause-empty_line
returns-clause-empty_line c = has_empty_line-iff

pub returns-clause-laid_out_line : goal.returns-clause-laid_out_line
returns-clause-laid_out_line c = laid_out_line

pub returns-clause-laid_out_header : goal.returns-clause-laid_out_header
returns-clause-laid_out_header c text a h bad = both_ways _ bad (laid_out_header text a h)
