use Rattle.std.proofs.Common.{◌∙◌}
use Rattle.names_laws.proofs.Fits.{newest_all, newest_wait}
use Rattle.names_laws.proofs.feeds.newest_stay.Goals as goal

pub returns-clause-all : goal.returns-clause-all
returns-clause-all c ring feed few =
    newest_wait ring feed ∙ newest_all ring feed.waiting few

pub returns-clause-newest : goal.returns-clause-newest
returns-clause-newest c ring feed many = newest_wait ring feed
