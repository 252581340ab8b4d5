use Rattle.std.proofs.Common.{◌≡◌, subst, sym}
use Rattle.std.specs.Prelude.{IfOk}
use Rattle.relay_command.specs.Ask.{formed}
use Rattle.relay_page.specs.Page.{page_of}
use Rattle.relay_command.proofs.ask.in_form.Goals as goal

pub returns-in-Metrics-clause-text : goal.returns-in-Metrics-clause-text
returns-in-Metrics-clause-text c =
    rw c.in-Metrics.is (rw c.deref.ensures.value at c.exposition-text.ensures)

pub returns-in-Page-clause-text : goal.returns-in-Page-clause-text
returns-in-Page-clause-text c =
    let told = subst (λ octets. IfOk c.page-text.result (λ text. text.items ≡ page_of octets))
    c.deref-in-Page.ensures.value c.page-text.ensures in
    subst (λ form. IfOk c.page-text.result (λ text. text.items ≡ formed form c.args.told.items))
    (sym c.in-Page.is) told
