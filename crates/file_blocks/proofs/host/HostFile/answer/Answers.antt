-- The call is counted as one that failed just where it did.
use Rattle.std.proofs.Common.{◌∙◌, ◌++◌, ◌∷◌, [], Bool, ap, sym}
use Rattle.std.specs.Result.{is_err}
use Rattle.file_blocks.proofs.AskedLemmas.{one_failed, none_failed}
use Rattle.file_blocks.specs.Host.{failed_in}
use Rattle.file_blocks.proofs.host.HostFile.answer.Goals as goal

pub returns-in-Ok-clause-no_failure : goal.returns-in-Ok-clause-no_failure
returns-in-Ok-clause-no_failure c =
    let before = c.args.self.now.asked.items in
    ap failed_in c.and-self.ensures
    ∙ ap (λ (failed : Bool). failed_in (before ++ (c.args.place, failed) ∷ []))
    (c.is_err.ensures.value ∙ ap is_err c.in-Ok.is)
    ∙ none_failed before c.args.place

pub returns-in-Err-clause-failed : goal.returns-in-Err-clause-failed
returns-in-Err-clause-failed c =
    let before = c.args.self.now.asked.items in
    ap failed_in c.and-self.ensures
    ∙ ap (λ (failed : Bool). failed_in (before ++ (c.args.place, failed) ∷ []))
    (c.is_err.ensures.value ∙ ap is_err c.in-Err.is)
    ∙ one_failed before c.args.place

pub returns-in-Ok-clause-answer : goal.returns-in-Ok-clause-answer
returns-in-Ok-clause-answer c = sym (ap is_err c.in-Ok.is)

pub returns-in-Err-clause-answer : goal.returns-in-Err-clause-answer
returns-in-Err-clause-answer c = sym (ap is_err c.in-Err.is)

pub returns-in-Ok-clause-asked : goal.returns-in-Ok-clause-asked
returns-in-Ok-clause-asked c =
    c.and-self.ensures
    ∙ ap (λ (failed : Bool). c.args.self.now.asked.items ++ (c.args.place, failed) ∷ [])
    (c.is_err.ensures.value ∙ ap is_err c.in-Ok.is)

pub returns-in-Err-clause-asked : goal.returns-in-Err-clause-asked
returns-in-Err-clause-asked c =
    c.and-self.ensures
    ∙ ap (λ (failed : Bool). c.args.self.now.asked.items ++ (c.args.place, failed) ∷ [])
    (c.is_err.ensures.value ∙ ap is_err c.in-Err.is)
