use Rattle.std.proofs.Common.{arith, rules}
use Rattle.std.proofs.lemmas.Grind.{common_steps}
use Rattle.feed_queue.proofs.LeftLemmas.{fits-push}
use Rattle.feed_queue.proofs.rings.all_of.Goals as goal

-- one token more, which fits
pub loop-token-preserved : goal.loop-token-preserved
loop-token-preserved c = record {
  count = search rules;
  room = search rules;
  items = first_of (search rules, grind (arith, common_steps));
  fits = fits-push c.loop-token.items.items c.push_reserved.new.self.items c.in-Some.token.now
      c.push_reserved.ensures.items c.loop-token.invariant.fits c.is_token.ensures;
}
