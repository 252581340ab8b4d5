use Rattle.std.proofs.Common.{arith, rules}
use Rattle.feed_queue.proofs.DeskLemmas.{keeps-next}
use Rattle.feed_queue.proofs.LeftLemmas.{as_many, holds-at, left-at, kept-all}
use Rattle.feed_queue.proofs.desk.FeedDesk.resume.Goals as goal

-- there is as much left as there are feeds
pub bounds-kept-place : goal.bounds-kept-place
bounds-kept-place c =
    omega (arith, c.loop-place-test.true, as_many c.args.kept.now c.args.feeds.now c.requires)

-- what is left of the feed fits its ring
pub resume-requires : goal.resume-requires
resume-requires c =
    holds-at c.args.kept.now c.args.feeds.now c.loop-place.place c.index-kept-place.result
    c.index-feeds-place.result c.requires c.loop-place-test.true c.index-kept-place.is
    c.index-feeds-place.is

-- one more ring
pub loop-place-preserved : goal.loop-place-preserved
loop-place-preserved c = record {
  count = search rules;
  room = search rules;
  keep = λ state are. keeps-next c.loop-place.rings.items c.push_reserved.new.self.items
      c.in_ok-resume.field-0 c.args.feeds.now c.loop-place.place c.index-feeds-place.result state
      c.push_reserved.ensures.items c.loop-place-test.true c.index-feeds-place.is
      (c.in_ok-resume.ensures (state c.loop-place.place)
      (left-at c.args.kept.now c.args.feeds.now c.loop-place.place c.index-kept-place.result
      c.index-feeds-place.result state (as_many c.args.kept.now c.args.feeds.now c.requires)
      c.loop-place-test.true c.index-kept-place.is c.index-feeds-place.is are))
      (c.loop-place.invariant.keep state are);
}

-- all feeds have a ring
pub returns : goal.returns
returns c = λ state are.
    kept-all c.loop-place.rings.items c.args.feeds.now c.loop-place.place state
    c.loop-place-test.false (c.loop-place.invariant.keep state are)
