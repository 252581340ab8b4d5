use Rattle.std.proofs.Common.{refl, Some, List, Option, Err}
use Rattle.news_terms.specs.Pattern.{Marked}
use Rattle.relay_conf.specs.StorageDraft.{draft_view, after_line, fault_behind}
use Rattle.relay_conf.specs.StorageLines.{NewsgroupsLine, NewsgroupsSay}
use Rattle.relay_conf.proofs.LinesRead.{read_by, unread}
use Rattle.relay_conf.proofs.storage.StorageDraft.add_newsgroups.Goals as goal

pub returns-in_err-expression : goal.returns-in_err-expression
returns-in_err-expression c = λ groups number.
    unread (NewsgroupsSay c.args.text.now) fault_behind (after_line groups number)
    (draft_view c.args.self.now) (draft_view c.args.self.now) c.from_residual.result
    c.args.text.now c.in_err-expression.field-0.0 c.from_residual.ensures.1
    c.in_err-expression.ensures (λ fault g. record { said = Err fault; says = g; found = refl })

pub returns : goal.returns
returns c = λ groups number.
    let expression = c.in_ok-expression.expression in
    let entry = c.args.self.now.entry in
    read_by _ _ (after_line groups number) _ (λ (slot : Option (List Marked)).
    draft_view (record c.args.self.now { entry = record entry { newsgroups = slot } }))
    c.set_once.new.slot (Some expression) (NewsgroupsLine expression)
    c.set_once.result (expression, c.in_ok-expression.ensures, refl) c.set_once.ensures.fault
    c.set_once.ensures.set refl
