use Rattle.names_laws.proofs.Waiting.{by_name_waited}
use Rattle.names_laws.proofs.feeds.what_waits_waited.Goals as goal

pub returns : goal.returns
returns c known own rings kept i new at =
    by_name_waited known.feeds kept.feeds own.feeds rings i new at
