use Rattle.std.proofs.Common.{Some, ◌∙◌}
use Rattle.names_laws.proofs.Under.{feed_at, under_first}
use Rattle.names_laws.proofs.feeds.feed_stays.Goals as goal

pub returns : goal.returns
returns c known own rings kept name i k ring old at size first is =
    feed_at known own rings kept name i ring (Some old) at size
    (under_first name known.feeds kept.feeds k first ∙ is)
