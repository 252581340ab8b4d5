use Rattle.std.proofs.Common.{arith, rules, ◌≡◌, ◌∙◌, ap, ◌++◌, ◌+◌, length}
use Rattle.std.proofs.lemmas.Grind.{common_steps}
use Rattle.std.proofs.lemmas.List.{length-take-le}
use Rattle.std.proofs.lemmas.List.FromFn.{length-enumerate_from}
use Rattle.std.specs.List.{enumerate_from}
use Rattle.std.proofs.Common.{take}
use Rattle.feed_queue.proofs.KeepLemmas.{numbered-more}
use Rattle.feed_queue.proofs.rings.numbered.Goals as goal

-- one more token
pub loop-token-preserved : goal.loop-token-preserved
loop-token-preserved c =
    let steps = c.in-Some.ensures.steps in
    record {
      number = omega (arith, steps.1);
      count = search rules;
      room = search rules;
      items = ap (λ xs. xs ++ enumerate_from (c.loop-token.number + 1 + 1)
          (take c.next.new.self.n c.next.new.self.iter)) c.push_reserved.ensures.items
          ∙ numbered-more _ _ _ _ _ _ _ _ steps.0 steps.1 c.loop-token.invariant.items;
    }

-- as many are listed as were asked for
pub returns-clause-len : goal.returns-clause-len
returns-clause-len c =
    let asked = take c.args.count c.args.tokens.now.items in
    let all : c.loop-token.items.items ≡ enumerate_from (c.args.passed + 1) asked =
    first_of (search rules, grind (arith, common_steps)) in
    omega (
      arith,
      c.loop-token.items.ok,
      ap length all,
      length-enumerate_from (c.args.passed + 1) asked,
      length-take-le c.args.count c.args.tokens.now.items c.requires.waits,
    )
