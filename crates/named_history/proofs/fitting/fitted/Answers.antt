use Rattle.std.proofs.Common.{◌≡◌, ◌-◌, length, drop, map, min, ap, ap₂, sym, ◌∙◌, arith}
use Rattle.std.proofs.lemmas.List.{drop-map, length-map}
use Rattle.cyc_token.specs.Token.{token_view}
use Rattle.id_history.specs.Views.{feed_view}
use Rattle.named_history.proofs.FeedLemmas.{fitted_otherwise}
use Rattle.named_history.proofs.fitting.fitted.Goals as goal

pub returns-clause-fitted : goal.returns-clause-fitted
returns-clause-fitted c =
    let waiting = c.args.feed.waiting.items in
    let all = map token_view waiting in
    let newest = c.in_ok-newest.newest.items in
    let skip = c.saturating_sub-2.result in
    let long = length-map waiting token_view in
    let cut : skip ≡ length all - c.args.ring =
    omega (arith, long, c.saturating_sub-2.ensures, c.len-count.ensures) in
    fitted_otherwise c.args.ring (feed_view c.args.feed) c.min-room.result
    c.saturating_sub-3.result (map token_view newest)
    (λ same. omega (arith, same, long, c.if-count-room.false, c.len-count.ensures))
    (c.min-room.ensures ∙ ap₂ min c.from.ensures c.saturating_sub.ensures)
    (ap (map token_view) c.in_ok-newest.ensures.tail ∙ sym (drop-map token_view skip waiting)
    ∙ ap (λ n. drop n all) cut)
    (omega (arith, c.saturating_sub-3.ensures, c.len.ensures, length-map newest token_view))
