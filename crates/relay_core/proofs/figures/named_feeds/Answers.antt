use Rattle.std.proofs.Common.{◌∙◌, ◌<◌, ℕ, ap, arith, length, rules, subst, vec_capacity, vec_len}
use Rattle.std.specs.Global.{Vec}
use Rattle.article_verdict.proofs.FewFeeds.{few_feeds}
use Rattle.relay_core.proofs.Fillings.{has_room}
use Rattle.relay_report.specs.Figures.{named_feed}
use Rattle.relay_report.specs.declared.figures.NamedFeed.{NamedFeed}
use Rattle.relay_core.proofs.Reporting.{feed_joins, feed_there, numbered_all}
use Rattle.relay_core.proofs.figures.named_feeds.Goals as goal
use Rattle.relay_core.proofs.figures.named_feeds.Goals.{in-Some+in_ok-peer, in_default}

-- there are fewer feeds than numbers
pub overflow_cast-number : goal.overflow_cast-number
overflow_cast-number c = omega (
  arith,
  few_feeds c.args.config.now,
  c.loop-number-test.true,
  ap length c.deref-feed-items.ensures.value,
)

-- there is room for the next
pub push_reserved-requires : goal.push_reserved-requires
push_reserved-requires c =
    has_room c.loop-number.invariant.count
    (subst (λ (n : ℕ). c.loop-number.number < n) (ap length c.deref-feed-items.ensures.value)
    c.loop-number-test.true) c.loop-number.invariant.room

-- a feed took and holds no more than it gained
pub feed_figures-requires : goal.feed_figures-requires
feed_figures-requires c = c.in-Some.ensures.within

-- one feed more
pub loop-number-preserved : goal.loop-number-preserved
loop-number-preserved c =
    let items = c.deref-feed-items.ensures.value in
    let within : c.loop-number.number < length c.args.config.now.relay.feeds.items =
    omega (arith, c.loop-number-test.true, ap length items) in
    elim c.match-counts.branch [
      | in-Some+in_ok-peer w ↦
          record {
            count = omega (
              arith,
              ap vec_len w.named-is,
              w.push_reserved.ensures.len,
              c.loop-number.invariant.count,
            );
            room = omega (
              arith,
              ap vec_capacity w.named-is,
              w.push_reserved.ensures.capacity,
              c.loop-number.invariant.room,
            );
            said = λ σ keeps. feed_joins c.args.config.now σ c.loop-number.number
                c.feed-item.result w.feed_figures.result within (rw items at c.feed-item.is)
                (w.feed_figures.ensures _ _ (w.in-Some.ensures.counts _ σ.feed keeps))
                w.index.result.now
                (search rules) (search rules) w.in_ok-peer.peer
                (w.in_ok-peer.ensures ∙ w.as_slice.ensures) c.loop-number.named.items
                c.match-counts.named.items (ap (λ (v : Vec NamedFeed). v.items) w.named-is
                ∙ w.push_reserved.ensures.items)
                (c.loop-number.invariant.said σ keeps);
          }
      | in_default w ↦
          record {
            count = omega (arith, ap vec_len w.named-is, c.loop-number.invariant.count);
            room = omega (arith, ap vec_capacity w.named-is, c.loop-number.invariant.room);
            said = λ σ keeps.
                let there = feed_there c.args.config.now c.args.desk.now σ.feed keeps
                c.loop-number.number within in
                absurd (omega (arith, there, c.counts.ensures.missing.0 w.in_default.is));
          }
    ]

-- that was the last
pub returns : goal.returns
returns c = λ σ keeps.
    c.loop-number.invariant.said σ keeps
    ∙ numbered_all (named_feed c.args.config.now σ)
    c.args.config.now.relay.feeds.items c.loop-number.number
    (omega (arith, c.loop-number-test.false, ap length c.deref-feed-items.ensures.value))
