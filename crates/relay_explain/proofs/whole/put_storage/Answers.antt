use Rattle.std.proofs.Common.{◌∙◌, ap, map, subst, Bor, List, ℕ}
use Rattle.relay_explain.specs.Entries.{entries_text}
use Rattle.relay_explain.specs.Text.{Adds}
use Rattle.relay_explain.proofs.whole.put_storage.Goals as goal

pub returns-in-Ok : goal.returns-in-Ok
returns-in-Ok c =
    let all : List (Bor (List ℕ)) → List (List ℕ) = map (λ line. line.now) in
    subst
    (λ (lines : List (List ℕ)). Adds c.args.text c.put_entries.result
    (entries_text c.args.config.now lines))
    (ap all c.as_slice.ensures.value ∙ c.in-Ok.ensures) c.put_entries.ensures

pub returns-in-Err : goal.returns-in-Err
returns-in-Err c = c.fail.ensures _
