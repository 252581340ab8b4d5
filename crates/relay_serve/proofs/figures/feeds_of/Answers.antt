use Rattle.std.proofs.Common.{◌∙◌, ◌+◌, ◌≤◌, ap, arith, length, map, subst, sym}
use Rattle.std.proofs.lemmas.List.{take_all}
use Rattle.std.specs.Prelude.{slice_get}
use Rattle.article_verdict.proofs.FewFeeds.{few_feeds}
use Rattle.relay_report.specs.Figures.{name_of}
use Rattle.relay_report.specs.declared.figures.NamedFeed.{NamedFeed}
use Rattle.relay_live.proofs.Rooms.{index_fits_as, no_more, room_of}
use Rattle.buffer_files.proofs.Rows.{longer, one_more_made}
use Rattle.relay_serve.proofs.figures.feeds_of.Goals as goal

pub loop-number-init : goal.loop-number-init
loop-number-init g c =
    let none = c.in_ok-named.ensures.items in
    record {
      room = room_of _ _ _ c.in_ok-named.ensures.capacity
          (c.len.ensures ∙ c.args.config.now.relay.feeds.ok.0);
      count = ap length none;
      names = ap (map (λ one. one.peer)) none;
    }

-- there are fewer feeds than numbers
pub overflow_cast-number : goal.overflow_cast-number
overflow_cast-number g c =
    omega (
      arith,
      few_feeds c.args.config.now,
      c.loop-number-test.true,
      ap length c.deref-feed-items.ensures.value,
    )

-- there is room for one more,
pub push_reserved-requires : goal.push_reserved-requires
push_reserved-requires g c =
    index_fits_as _ _ _ _ _ (c.loop-number.named.ok.0 ∙ c.loop-number.invariant.count)
    c.loop-number-test.true (ap length c.deref-feed-items.ensures.value)
    c.loop-number.invariant.room

-- which has the name of its feed's peer
pub loop-number-preserved : goal.loop-number-preserved
loop-number-preserved g c =
    let old = c.loop-number.named.items in
    let new = c.push_reserved.new.self.items in
    let one : NamedFeed =
    record { peer = c.in_ok-peer.peer; figures = c.feed_figures-figures.result } in
    let before = c.loop-number.invariant in
    let pushed = c.push_reserved.ensures in
    record {
      room = subst (λ n. length c.args.config.now.relay.feeds.items ≤ n)
          (sym pushed.capacity) before.room;
      count = longer (λ named. named.peer) old new one pushed.items
          ∙ ap (λ n. n + 1) before.count;
      names = one_more_made (λ named. named.peer) old new one pushed.items
          (λ feed. name_of (slice_get c.args.config.now.relay.peers.items feed.peer))
          c.deref-feed-items.result.now c.args.config.now.relay.feeds.items
          c.loop-number.number c.feed-item.result c.deref-feed-items.ensures.value
          c.loop-number-test.true c.feed-item.is
          (c.in_ok-peer.ensures
          ∙ ap (λ peers. name_of (slice_get peers c.feed-item.result.peer))
          c.deref.ensures.value)
          before.names;
    }

-- that was the last
pub returns : goal.returns
returns g c =
    c.loop-number.invariant.names
    ∙ ap (map (λ feed. name_of (slice_get c.args.config.now.relay.peers.items feed.peer)))
    (take_all c.loop-number.number c.args.config.now.relay.feeds.items
    (no_more _ _ _ (sym (ap length c.deref-feed-items.ensures.value)) c.loop-number-test.false))
