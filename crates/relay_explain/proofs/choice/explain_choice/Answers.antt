use Rattle.std.proofs.Common.{◌∙◌, ap, map}
use Rattle.relay_explain.proofs.Puts.{all, two}
use Rattle.relay_explain.proofs.choice.explain_choice.Goals as goal

pub returns : goal.returns
returns c =
    let names = ap (map (λ name. name.now)) c.deref.ensures.value ∙ c.in_ok-names.ensures in
    let fate = rw names at c.put_fate.ensures in
    all c.whole.result _ _ _ c.new.ensures (two c.put_article-text.ensures fate) c.whole.ensures
