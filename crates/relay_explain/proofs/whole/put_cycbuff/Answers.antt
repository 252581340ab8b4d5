use Rattle.std.proofs.Common.{◌∙◌, ap, map, subst, Bor, List, ℕ}
use Rattle.relay_explain.specs.Explained.{cycbuff_text}
use Rattle.relay_explain.specs.Text.{Adds}
use Rattle.relay_explain.proofs.Puts.{two}
use Rattle.relay_explain.proofs.whole.put_cycbuff.Goals as goal

pub returns-in-Ok : goal.returns-in-Ok
returns-in-Ok c =
    let all : List (Bor (List ℕ)) → List (List ℕ) = map (λ line. line.now) in
    subst
    (λ (lines : List (List ℕ)). Adds c.args.text c.put_groups.result
    (cycbuff_text c.args.config.now lines c.args.found.now))
    (ap all c.as_slice-lines.ensures.value ∙ c.in-Ok.ensures)
    (two c.put_buffers-text.ensures c.put_groups.ensures)

pub returns-in-Err : goal.returns-in-Err
returns-in-Err c = c.fail.ensures _
