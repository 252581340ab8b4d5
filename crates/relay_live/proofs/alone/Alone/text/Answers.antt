use Rattle.std.proofs.Common.{refl, subst}
use Rattle.block_shelf.specs.Each.{AreEach}
use Rattle.block_shelf.specs.Stopping.{TellsPosition}
use Rattle.id_history.specs.Views.{history_view}
use Rattle.post_history.specs.Shards.{shards_in}
use Rattle.live_jobs.specs.Desks.{desk_of}
use Rattle.relay_live.proofs.Gaining.{told_gained}
use Rattle.relay_live.proofs.Tells.{tells_of}
use Rattle.relay_live.specs.Telling.{AreEntries}
use Rattle.relay_live.proofs.alone.Alone.text.Goals as goal

-- the text is that of its parts, and tells what the feeds have gained
pub returns-in-Ok : goal.returns-in-Ok
returns-in-Ok g c =
    let kept = history_view (record {
      stop = c.args.stop;
      newest = c.number.result;
      positions = c.in_ok-positions.positions;
      feeds = c.in_ok-feeds.feeds;
      ids = c.in_ok-ids.ids;
    }) in
    let alone = c.args.self.now in
    record {
      tells = tells_of alone c.args.stop c.in-Ok.text.items kept
          c.in_ok-feeds.feeds.items c.in_ok-ids.ids.items
          c.in-Ok.ensures.fits c.in-Ok.ensures.octets refl c.number.ensures
          (subst (λ placed_groups. AreEach TellsPosition placed_groups
          c.in_ok-positions.positions.items)
          c.deref.ensures.value c.in_ok-positions.ensures)
          refl c.in_ok-feeds.ensures.left refl
          (subst (λ shards. AreEntries (shards_in shards) c.in_ok-ids.ids.items)
          c.deref-2.ensures.value c.in_ok-ids.ensures);
      gained = λ found. told_gained (desk_of alone.desk) alone.feeds g.J.Naming.began
          g.J.Naming.rings alone.posts.all.history c.in-Ok.text.items kept
          c.in_ok-feeds.feeds.items c.in-Ok.ensures.fits c.in-Ok.ensures.octets refl
          c.in_ok-feeds.ensures.left alone.ring_each (alone.gained found);
    }
