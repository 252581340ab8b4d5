use Rattle.std.proofs.Common.{◌≡◌, ◌∙◌, ℕ, Bool, Err, IfOk, Ok, Result, Vec, ap, map}
use Rattle.cyc_block.specs.declared.store.BlockStore.{Ghosts}
use Rattle.relay_core.specs.Agreement.{Agrees}
use Rattle.relay_report.specs.Figures.{AreFigures, feed_view, named_buffers}
use Rattle.relay_report.specs.declared.figures.Figures.{Figures}
use Rattle.relay_core.specs.declared.system.System.{System}
use Rattle.relay_model.specs.World.{World}
use Rattle.relay_drill.specs.Reporting.{Reports}
use Rattle.relay_report.specs.Report.{text_of_figures}
use Rattle.relay_report.specs.Text.{report_text}
use Rattle.relay_drill.proofs.report.report.Goals as goal

-- the text of figures of a state reports on that state
reported : {S : Type 0} {g : Ghosts S} {Z E : Type 0} (system : System S g) (figures : Figures)
    (told : Result (Vec ℕ Z) E)
    → ((trusted : Bool) (x : World) → Agrees trusted system x
    → AreFigures system.config x.state figures)
    → IfOk told (λ text. text.items ≡ text_of_figures figures)
    → IfOk told (λ text. Reports system text.items)
reported system figures (Ok text) are is =
    λ trusted x agrees.
    let config = system.config in
    let one = are trusted x agrees in
    record {
      ids = figures.ids;
      counted = one.ids;
      told = is
          ∙ ap (λ buffers. report_text buffers (map feed_view figures.feeds.items) figures.ids)
          one.buffers
          ∙ ap (λ feeds. report_text (named_buffers config x.state) feeds figures.ids) one.feeds;
    }
reported system figures (Err error) are is = tt

pub returns : goal.returns
returns g c =
    reported c.args.system.now c.in_ok-figures.figures c.text_of.result c.in_ok-figures.ensures
    c.text_of.ensures
