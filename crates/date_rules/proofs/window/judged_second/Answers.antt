use Rattle.std.proofs.Common.{◌≡◌, subst, ℕ, List}
use Rattle.std.specs.Prelude.{IfOk}
use Rattle.date_rules.specs.Seconds.{second_of}
use Rattle.date_rules.proofs.window.judged_second.Goals as goal

pub returns : goal.returns
returns c =
    subst (λ (content : List ℕ). IfOk c.seconds.result (λ second. second ≡ second_of content))
    c.judged_date.ensures c.seconds.ensures
