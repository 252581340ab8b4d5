use Rattle.std.proofs.Common.{sym, subst, [], ◌∷◌, Option}
use Rattle.std.specs.Prelude.{map}
use Rattle.news_terms.specs.Article.{Fault, BadId, BadGroups}
use Rattle.article_parse.specs.Header.{field_view}
use Rattle.article_parse.specs.Faults.{FaultGives, is_wrong, named_faults}
use Rattle.article_parse.proofs.FirstFaults.{found_later, gives_longer}
use Rattle.article_parse.proofs.article.try_fields.Goals as goal

pub returns-in-Ok-clause-fault : goal.returns-in-Ok-clause-fault
returns-in-Ok-clause-fault c =
    subst (λ (o : Option Fault). FaultGives c.try_contents.result o)
    (sym (found_later (is_wrong (map field_view c.args.fields.now)) named_faults
    (BadId ∷ BadGroups ∷ []) c.in-Ok.ensures))
    c.try_contents.ensures.fault

pub returns-in-Err-clause-fault : goal.returns-in-Err-clause-fault
returns-in-Err-clause-fault c =
    gives_longer (is_wrong (map field_view c.args.fields.now)) named_faults
    (BadId ∷ BadGroups ∷ []) c.in-Err.error c.in-Err.ensures
