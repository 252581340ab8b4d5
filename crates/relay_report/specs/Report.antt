-- What is reported of a relay (docs/FORMATS.md, Report).
use Rattle.std.specs.Prelude.{◌≡◌, ℕ, List, map}
use Rattle.id_history.specs.Counts.{CountsOf}
use Rattle.id_history.specs.declared.counts.Counts.{Counts}
use Rattle.relay_conf.specs.declared.settings.Config.{Config}
use Rattle.relay_report.specs.Figures.{buffer_view, feed_view, named_buffers}
use Rattle.relay_report.specs.Figures.{named_feeds}
use Rattle.relay_report.specs.declared.figures.Figures.{Figures}
use Rattle.relay_model.specs.State.{State}
use Rattle.relay_report.specs.Text.{report_text}

-- the text of these figures
abbrev pub text_of_figures : Figures → List ℕ
text_of_figures figures =
    report_text (map buffer_view figures.buffers.items) (map feed_view figures.feeds.items)
    figures.ids

-- the text reports a relay of this configuration in this state: its buffers and feeds in their
-- order, and how many message-ids it knows
pub record ReportsOn (config : Config) (σ : State) (text : List ℕ) : Type 0 where
  pub ids : Counts
  pub counted : CountsOf σ.claim ids
  pub told : text ≡ report_text (named_buffers config σ) (named_feeds config σ) ids

-- the report of a state in which so many message-ids are known, but that none is offered
abbrev pub text_after_restart : Config → State → Counts → List ℕ
text_after_restart config σ ids =
    report_text (named_buffers config σ) (named_feeds config σ) (record ids { offered = 0 })
