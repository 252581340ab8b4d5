use Rattle.std.proofs.Common.{is_some, ap, sym, ◌∙◌}
use Rattle.id_history.specs.Views.{feed_view}
use Rattle.named_history.proofs.FeedLemmas.{under_later}
use Rattle.named_history.proofs.feeds.take_kept.Goals as goal

pub returns-clause-left : goal.returns-clause-left
returns-clause-left c =
    under_later feed_view c.args.known.now c.args.later.now c.args.name.now c.args.left.now.items
    c.in-Some.place _ (sym c.place_of.ensures ∙ c.in-Some.is)
    (ap is_some (sym c.place_of-2.ensures) ∙ sym c.is_some.ensures ∙ c.if-is_some.false)
