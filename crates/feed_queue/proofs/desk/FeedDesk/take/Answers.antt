use Rattle.std.proofs.Common.{arith, rules}
use Rattle.relay_model.specs.Shares.{after_take_of}
use Rattle.std.specs.Prelude.{slice_index}
use Rattle.feed_queue.proofs.DeskLemmas.{keeps-at, keeps-one}
use Rattle.feed_queue.proofs.KeepLemmas.{none_listed}
use Rattle.feed_queue.proofs.desk.FeedDesk.take.Goals as goal

-- the ring of the feed gives its oldest tokens
pub returns-clause-taken : goal.returns-clause-taken
returns-clause-taken c sizes feeds keeps =
    record {
      missed = c.pass-missed.ensures.missed _ _ (keeps-one _ sizes feeds _ c.args.feed _
          c.from-place.ensures (omega arith) c.index_mut.ensures.value keeps);
      items = c.in_ok-items.ensures.items _ _ (keeps-one _ sizes feeds _ c.args.feed _
          c.from-place.ensures (omega arith) c.index.ensures keeps);
    }

-- they are gone from it
pub returns-clause-keeps : goal.returns-clause-keeps
returns-clause-keeps c sizes feeds keeps =
    keeps-at _ sizes feeds _ c.args.feed _ _
    (after_take_of (slice_index sizes c.args.feed) c.args.most (feeds c.args.feed))
    c.from-place.ensures (omega arith) c.index_mut.ensures.value
    (c.pass-missed.ensures.keeps _ _) keeps

-- where nothing is listed no memory is wanted
pub returns-in_err-items-clause-nothing : goal.returns-in_err-items-clause-nothing
returns-in_err-items-clause-nothing c sizes feeds keeps none =
    let ok = c.oldest.ensures.none (none_listed _ _ c.args.most _
    (keeps-one _ sizes feeds _ c.args.feed _ c.from-place.ensures (omega arith) c.index.ensures
    keeps) none) in
    search (rules, ok)
