use Rattle.std.proofs.Common.{◌∙◌, ap, map, subst, Bor, List, ℕ}
use Rattle.relay_explain.specs.Explained.{relay_text}
use Rattle.relay_explain.specs.Text.{Adds}
use Rattle.relay_explain.proofs.Puts.{two}
use Rattle.relay_explain.proofs.whole.put_relay.Goals as goal

pub returns-in-Ok : goal.returns-in-Ok
returns-in-Ok c =
    let all : List (Bor (List ℕ)) → List (List ℕ) = map (λ line. line.now) in
    subst
    (λ (lines : List (List ℕ)). Adds c.args.text c.put_feeds.result
    (relay_text c.args.config.now lines))
    (ap all c.as_slice-lines.ensures.value ∙ c.in-Ok.ensures)
    (two (two c.put_settings-text.ensures c.put_peers-text.ensures) c.put_feeds.ensures)

pub returns-in-Err : goal.returns-in-Err
returns-in-Err c = c.fail.ensures _
