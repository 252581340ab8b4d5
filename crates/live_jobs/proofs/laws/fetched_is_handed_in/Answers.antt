use Rattle.std.proofs.Common.{◌∙◌, ap, sym}
use Rattle.boxcar.specs.Table.{Where}
use Rattle.live_jobs.proofs.HandedIn.{handed_in}
use Rattle.live_jobs.specs.Texts.{octets_in}
use Rattle.live_store.specs.Tied.{text_in}
use Rattle.live_store.specs.declared.writing.entering.Record.{Record}
use Rattle.live_jobs.proofs.laws.fetched_is_handed_in.Goals as goal

pub returns-in-Kept : goal.returns-in-Kept
returns-in-Kept g c =
    let after = c.requires.1.1.1.1 in
    λ trusted. handed_in g.J.StorePremises.holds g.job.run c.args.answer.now g.job.finished
    c.in-Kept.receipt _ (octets_in c.args.text.now) after.0 after.1.0 after.1.1
    (sym c.requires.1.0 ∙ c.in-Kept.is)
    (c.same_text.ensures trusted ∙ ap (λ (w : Where Record). text_in w) c.shown.ensures)
