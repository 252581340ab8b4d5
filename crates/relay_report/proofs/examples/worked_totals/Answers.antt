use Rattle.std.proofs.Common.{◌≡◌, ◌∙◌, ◌∷◌, [], List, ap, map, refl}
use Rattle.std.specs.Fmt.{digits}
use Rattle.id_history.specs.declared.counts.Counts.{Counts}
use Rattle.relay_report.specs.Figures.{NamedBuffer, NamedFeed, feed_view}
use Rattle.relay_report.specs.Examples.{buffer_a, feed_p2, first_script, stored_ids}
use Rattle.relay_report.specs.Text.{report_text}
use Rattle.relay_report.proofs.examples.worked_totals.Goals as goal

computed : report_text (buffer_a 1 ∷ []) (feed_p2 1 1 0 ∷ []) (stored_ids 1) ≡ first_script
unfolding digits
computed = refl

pub returns : goal.returns
returns c =
    let figures = c.args.totals.now.figures in
    ap (λ (buffers : List NamedBuffer). report_text buffers (map feed_view figures.feeds.items)
    figures.ids)
    c.requires.buffers
    ∙ ap (λ (feeds : List NamedFeed). report_text (buffer_a 1 ∷ []) feeds figures.ids)
    c.requires.feeds
    ∙ ap (λ (ids : Counts). report_text (buffer_a 1 ∷ []) (feed_p2 1 1 0 ∷ []) ids) c.requires.ids
    ∙ computed
