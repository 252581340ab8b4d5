use Rattle.std.proofs.Common.{◌∙◌, ◌≤◌, ◌^◌, ℕ, List, ap, length, map, subst, sym}
use Rattle.std.proofs.lemmas.List.{length-map}
use Rattle.std.specs.List.{AllZip}
use Rattle.block_shelf.proofs.Resumes.{resumed_over}
use Rattle.block_shelf.specs.Resuming.{ResumesByUse}
use Rattle.block_shelf.specs.Starting.{buffers_inside}
use Rattle.feed_queue.specs.Feeds.{KeepsFeeds, ring_size}
use Rattle.feed_queue.specs.Left.{AreLeft}
use Rattle.id_history.specs.History.{RingHolds}
use Rattle.id_history.specs.Lasting.{lasting}
use Rattle.id_history.specs.Shards.{EachKeeps}
use Rattle.id_history.specs.Views.{feed_view, history_view}
use Rattle.id_history.specs.declared.kept.KeptFeed.{KeptFeed}
use Rattle.live_jobs.specs.Desks.{desk_of}
use Rattle.live_jobs.specs.Posting.{most_gained}
use Rattle.live_store.specs.Started.{unopened_in}
use Rattle.post_history.proofs.Begun.{taken}
use Rattle.relay_conf.specs.declared.relay.Feed.{Feed}
use Rattle.relay_core.proofs.Starts.{rings_hold}
use Rattle.relay_live.proofs.Gaining.{begins_left}
use Rattle.relay_live.proofs.Kept.{few_gained}
use Rattle.relay_model.specs.State as model
use Rattle.relay_live.proofs.desks.Desks.resume.Goals as goal

pub resume-requires-2-clause-holds : goal.resume-requires-2-clause-holds
resume-requires-2-clause-holds g c =
    subst
    (λ (p : List KeptFeed × List Feed). AllZip RingHolds (map feed_view p.0) (map ring_size p.1))
    (λ i. (sym c.deref-4.ensures.value i, sym c.deref-3.ensures.value i))
    (rings_hold c.args.config.now (history_view c.args.history) c.requires.holds)

pub resume-requires-2-clause-few : goal.resume-requires-2-clause-few
resume-requires-2-clause-few g c =
    subst (λ (fs : List KeptFeed). most_gained (map feed_view fs) ≤ 2 ^ 62)
    (sym c.deref-4.ensures.value)
    (few_gained c.args.config.now (history_view c.args.history) c.requires.holds)

-- the shards take what the history has as stored
pub remember_all-requires-clause-take : goal.remember_all-requires-clause-take
remember_all-requires-clause-take g c =
    let kept = history_view c.args.history in
    let left = c.each_was_left.ensures kept.ids c.requires.holds.rises in
    taken g.J.Naming.began kept c.into_shards-shards.result.items left.0 c.requires.began
    c.requires.fits c.one_text.ensures left.1
    (c.into_shards-shards.ensures.keeps _ (c.in_ok-resume.ensures left.0 left.1))

-- it is made of the history
pub returns : goal.returns
returns g c =
    let kept = history_view c.args.history in
    let settings = c.args.config.now.buffers in
    let codes = buffers_inside (map unopened_in c.args.started.now.buffers.items) in
    let placed_groups = c.in_ok-placed_groups.placed_groups.items in
    record {
      claims = λ claim lasts.
          subst (λ shards. EachKeeps shards (λ id. lasting (claim id)))
          (sym c.in_ok-shards.ensures.shards)
          (c.into_shards-shards.ensures.keeps _ (c.in_ok-resume.ensures claim lasts));
      feeds = subst
          (λ (p : List KeptFeed × List Feed). (feed : ℕ → model.Feed)
          → AreLeft (map feed_view p.0) (map ring_size p.1) feed
          → KeepsFeeds (desk_of c.in_ok-desk.desk) (map ring_size p.1) feed)
          (λ i. (c.deref-4.ensures.value i, c.deref-3.ensures.value i)) c.in_ok-desk.ensures.desk;
      placed_groups =
          resumed_over settings kept.positions codes c.in_ok-used.used.items placed_groups
          c.in_ok-used.ensures
          (subst
          (λ (p : List ℕ × List ℕ). ResumesByUse settings p.0 p.1 placed_groups)
          (λ i. (c.deref-2.ensures.value i, c.deref.ensures.value i))
          c.in_ok-placed_groups.ensures.placed_groups);
      placed_group_count = c.in_ok-placed_groups.ensures.count;
      newest = c.after-last.ensures;
    }

-- there are sixteen shards, and as many posts as the desk has made
pub invariant_of-result : goal.invariant_of-result
invariant_of-result g c = record {
  sixteen = sym (length-map c.in_ok-shards.shards.items (λ one. one.shard))
      ∙ ap length c.in_ok-shards.ensures.shards ∙ c.into_shards-shards.ensures.sixteen;
  as_many = λ found. ap length c.open-posts.ensures.none ∙ sym c.in_ok-desk.ensures.posts;
  gained = λ found.
      begins_left (desk_of c.in_ok-desk.desk) g.J.Naming.began g.J.Naming.rings
      (map ring_size c.args.config.now.relay.feeds.items) _ (history_view c.args.history)
      c.requires.began c.requires.fits c.one_text.ensures c.requires.rings
      c.open-posts.ensures.none
      (subst
      (λ (p : List KeptFeed × List Feed). (feed : ℕ → model.Feed)
      → AreLeft (map feed_view p.0) (map ring_size p.1) feed
      → KeepsFeeds (desk_of c.in_ok-desk.desk) (map ring_size p.1) feed)
      (λ i. (c.deref-4.ensures.value i, c.deref-3.ensures.value i)) c.in_ok-desk.ensures.desk);
}
