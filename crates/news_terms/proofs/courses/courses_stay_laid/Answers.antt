use Rattle.news_terms.proofs.CourseLaws.{first_laid, next_some, next_past, next_laid}
use Rattle.news_terms.proofs.courses.courses_stay_laid.Goals as goal

pub returns-clause-first : goal.returns-clause-first
returns-clause-first c = first_laid

pub returns-clause-place : goal.returns-clause-place
returns-clause-place c = next_some

pub returns-clause-past : goal.returns-clause-past
returns-clause-past c = next_past

pub returns-clause-next : goal.returns-clause-next
returns-clause-next c = next_laid
