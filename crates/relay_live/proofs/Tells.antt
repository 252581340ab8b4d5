-- The text of a history tells each state that the parts of a relay keep.
use Rattle.std.proofs.Common.{◌≡◌, ◌∙◌, ℕ, List, ap, map, Some, subst, sym}
use Rattle.std.proofs.lemmas.List.{length-map}
use Rattle.block_shelf.proofs.Placed.{few_members}
use Rattle.block_shelf.specs.Each.{AreEach}
use Rattle.block_shelf.specs.Starting.{PlacedGroupsKeep}
use Rattle.block_shelf.specs.Stopping.{ArePositions, TellsPosition}
use Rattle.block_shelf.specs.declared.buffer_set.PlacedGroup.{PlacedGroup}
use Rattle.cyc_block.specs.declared.store.BlockStore as blocks
use Rattle.feed_queue.specs.Left.{AreLeft}
use Rattle.id_history.specs.History.{Fits, history_octets}
use Rattle.id_history.specs.History as texts
use Rattle.id_history.specs.Views.{feed_view, id_view}
use Rattle.id_history.specs.declared.kept.KeptFeed.{KeptFeed}
use Rattle.id_history.specs.declared.kept.KeptId.{KeptId}
use Rattle.id_history.specs.Lasting.{AreLasting}
use Rattle.live_jobs.specs.Desks.{desk_of}
use Rattle.live_store.specs.declared.record.StorePremises as store_premises
use Rattle.news_terms.specs.Courses.{Course}
use Rattle.news_terms.specs.Settings.{AreSound}
use Rattle.relay_core.specs.Agreement.{ring_sizes}
use Rattle.relay_core.specs.Stopping.{AreKeptFeeds}
use Rattle.relay_live.specs.Alone.{newest_in}
use Rattle.relay_live.specs.Stopping.{TellsHistory}
use Rattle.relay_live.specs.Telling.{AreEntries}
use Rattle.relay_live.specs.declared.alone.Alone.{Alone}
use Rattle.relay_model.specs.Terms.{FeedTerms, Terms}
use Rattle.post_history.specs.Shards.{shards_in}
use Rattle.post_history.specs.declared.book.Naming as naming

-- the positions that placed groups tell are those of the groups
pub told_placed_groups : (w : Terms) (begun : ℕ → Course) (placed_groups : List PlacedGroup)
    (positions : List ℕ)
    → AreSound w.buffers w.groups → PlacedGroupsKeep placed_groups w begun
    → AreEach TellsPosition placed_groups positions
    → ArePositions w.groups begun positions
told_placed_groups w begun placed_groups positions sound keeps told = record {
  count = told.count ∙ keeps.count;
  each = λ h group at.
      let had = keeps.each h group at in
      let one = told.each h had.code had.there in
      one.there
      ∙ ap Some
      (one.belongs group (begun h) had.keeps (few_members w.buffers w.groups sound h group at));
}

-- the history that is made of the parts is that of each state
pub tells_of : {S J L : Type 0} {s : blocks.Ghosts S}
    {j : store_premises.Ghosts J} {n : naming.Ghosts J}
    (alone : Alone S J L s j n) (stop : ℕ) (text : List ℕ) (kept : texts.Kept)
    (feeds : List KeptFeed) (ids : List KeptId) → Fits kept → text ≡ history_octets kept
    → kept.stop ≡ stop → kept.newest ≡ newest_in alone
    → AreEach TellsPosition alone.placed_groups.items kept.positions
    → kept.feeds ≡ map feed_view feeds
    → AreKeptFeeds (desk_of alone.desk) alone.feeds feeds → kept.ids ≡ map id_view ids
    → AreEntries (shards_in alone.shards.items) ids → TellsHistory alone stop text
tells_of alone stop text kept feeds ids fits written stops newest positions feeds_are feeds_left
    ids_are ids_left w σ beside = record {
      kept = kept;
      fits = fits;
      written = written;
      history = record {
        stop_is = stops;
        newest = newest ∙ beside.newest;
        positions = told_placed_groups w σ.begun alone.placed_groups.items kept.positions
            beside.sound beside.placed_groups
            positions;
        feeds = subst (λ fs. AreLeft fs (ring_sizes w) σ.feed) (sym feeds_are)
            (feeds_left (ring_sizes w) σ.feed beside.feeds
            (length-map w.feeds (λ (feed : FeedTerms). feed.ring) ∙ sym beside.feed_count));
        ids = subst (λ xs. AreLasting xs σ.claim) (sym ids_are) (ids_left σ.claim beside.claims);
      };
    }
