use Rattle.std.proofs.Common.{◌∙◌, ◌+◌, ap, rules, sym}
use Rattle.std.proofs.lemmas.Option.{none-some}
use Rattle.relay_live.proofs.keeper.Keeper.settle.Goals as goal

-- it was posted, and the share was as it had been
pub returns-in-Some-try_settle : goal.returns-in-Some-try_settle
returns-in-Some-try_settle g c =
    let tried = c.in-Some-try_settle.ensures in
    let so = c.loop.invariant in
    record {
      post = tried.post;
      counted = tried.counted ∙ ap (λ n. n + 1) so.0;
      same = λ none. absurd (none-some _ (sym none));
      parts_stay = tried.parts_stay ∙ so.1;
    }

-- the desk makes no further post
pub returns-then-is_full : goal.returns-then-is_full
returns-then-is_full g c =
    record {
      post = tt;
      counted = tt;
      same = λ none. search rules;
      parts_stay = c.try_settle.ensures.parts_stay ∙ c.loop.invariant.1;
    }
