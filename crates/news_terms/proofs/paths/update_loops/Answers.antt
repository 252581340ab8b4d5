use Rattle.news_terms.proofs.PathUpdates.{updated-leftmost, updated-loops}
use Rattle.news_terms.proofs.paths.update_loops.Goals as goal

pub returns-clause-leftmost : goal.returns-clause-leftmost
returns-clause-leftmost c = updated-leftmost

pub returns-clause-loops : goal.returns-clause-loops
returns-clause-loops c = updated-loops
