use Rattle.std.proofs.Common.{sym}
use Rattle.article_parse.proofs.FirstFaults.{first_nul, first_bare, first_blank, first_header}
use Rattle.article_parse.proofs.article.Article.parse.Goals as goal

pub returns-then-has_nul-clause-fault : goal.returns-then-has_nul-clause-fault
returns-then-has_nul-clause-fault c = first_nul c.args.text.now (sym c.if-has_nul.ensures)

pub returns-then-not-is_paired-clause-fault : goal.returns-then-not-is_paired-clause-fault
returns-then-not-is_paired-clause-fault c =
    first_bare c.args.text.now (sym c.if-has_nul.ensures) (sym c.if-not-is_paired.ensures)

pub returns-then-not-has_empty_line-clause-fault :
    goal.returns-then-not-has_empty_line-clause-fault
returns-then-not-has_empty_line-clause-fault c =
    first_blank c.args.text.now (sym c.if-has_nul.ensures) (sym c.if-not-is_paired.ensures)
    (sym c.if-not-has_empty_line.ensures)

pub returns-in-Err-BadHeader-clause-fault : goal.returns-in-Err-BadHeader-clause-fault
returns-in-Err-BadHeader-clause-fault c =
    first_header c.args.text.now (sym c.if-has_nul.ensures) (sym c.if-not-is_paired.ensures)
    (sym c.if-not-has_empty_line.ensures)
    (rw c.in-Err-BadHeader.field-0-is at c.in-Err-BadHeader.ensures)
