use Rattle.std.proofs.Common.{◌∙◌, refl, subst, sym}
use Rattle.std.proofs.Math.Logic.{∥∥₁_map}
use Rattle.std.specs.Prelude.{IsSomeAnd}
use Rattle.boxcar.specs.Table.{Where}
use Rattle.live_jobs.proofs.HandedIn.{given_of, handed_in}
use Rattle.live_jobs.specs.Texts.{record_of}
use Rattle.live_store.specs.Tied.{IsSameRecord, text_in}
use Rattle.live_store.specs.declared.writing.entering.Record.{Record}
use Rattle.live_jobs.proofs.laws.given_is_handed_in.Goals as goal

pub returns-in-Kept : goal.returns-in-Kept
returns-in-Kept g c =
    let after = c.requires.1.1.1.1 in
    ∥∥₁_map (handed_in g.J.StorePremises.holds g.job.run c.args.answer.now g.job.finished
    c.in-Kept.receipt _ (text_in c.in-Kept.receipt.shown) after.0 after.1.0 after.1.1
    (sym c.requires.1.0 ∙ c.in-Kept.is) refl)
    (λ handed. given_of g.J.StorePremises.register g.job.run.hands g.job.run.end
    c.args.answer.now.number c.in-Kept.receipt (record_of c.args.reads.now)
    (subst (λ (w : Where Record). IsSomeAnd (record_of c.args.reads.now) (IsSameRecord w))
    c.shown.ensures c.same_record.ensures) handed)
