use Rattle.news_terms.proofs.CoursesOfSizes.{course_is}
use Rattle.news_terms.proofs.courses.courses_are_of_sizes.Goals as goal

pub returns : goal.returns
returns c = course_is
