use Rattle.std.proofs.Common.{◌∙◌, ap, arith, map, rules, subst, sym, ℕ}
use Rattle.std.specs.Prelude.{replicate}
use Rattle.article_verdict.proofs.FewFeeds.{few_feeds}
use Rattle.id_history.specs.History.{Fits}
use Rattle.id_history.specs.Views.{feed_view, id_view}
use Rattle.relay_log.proofs.Rooms.{has_room}
use Rattle.relay_startup.proofs.FirstHistory.{first_fits, first_parts}
use Rattle.relay_startup.specs.LastHistory.{empty_feed}
use Rattle.relay_startup.proofs.folding.first_text.Goals as goal

-- there aren't too many parts for a text
pub write-text-requires : goal.write-text-requires
write-text-requires c =
    let config = c.args.config.now in
    has_room _ (subst Fits
    (sym (first_parts config c.in_ok-vec.field-0.items
    (map feed_view c.in_ok-empty_feeds.field-0.items) (map id_view c.new.result.items)
    (search rules)
    (c.in_ok-empty_feeds.ensures ∙ ap (λ (n : ℕ). replicate n empty_feed)
    (c.len.ensures ∙ config.relay.feeds.ok.0))
    (ap (map id_view) c.new.ensures.items)))
    (first_fits config
    (omega (arith, c.if-groups-gt-GROUP_LIMIT.false, c.len-groups.ensures))
    (few_feeds config)))
