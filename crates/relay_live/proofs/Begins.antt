-- The parts of a relay before anything has come keep the empty state.
use Rattle.std.proofs.Common.{◌≡◌, ◌∙◌, ℕ, true, List, [], ap, arith, length, map, None, Some}
use Rattle.std.proofs.Common.{option_map, refl, slice_get, subst, sym, unwrap_or}
use Rattle.std.proofs.lemmas.List.{length-map}
use Rattle.std.proofs.lemmas.List.Elements.{All-nil}
use Rattle.std.proofs.lemmas.List.FromFn.{length-enumerate_from}
use Rattle.std.proofs.lemmas.Option.{slice_get-map, slice_get_within}
use Rattle.std.specs.List.{All, enumerate_from}
use Rattle.article_verdict.specs.Config.{terms_of}
use Rattle.block_shelf.proofs.NewBufferSet.{new_said, same_count}
use Rattle.block_shelf.proofs.BufferSetReads.{some_there}
use Rattle.block_shelf.proofs.Starts.{buffer_is}
use Rattle.block_shelf.specs.Each.{AreEach}
use Rattle.block_shelf.specs.Filling.{AreNewPlacedGroups, failures_in}
use Rattle.block_shelf.specs.Keeping.{HasBuffer}
use Rattle.block_shelf.specs.Starting.{BuffersKeep, PlacedGroupsKeep}
use Rattle.block_shelf.specs.declared.buffer_set.PlacedGroup.{PlacedGroup}
use Rattle.cyc_block.specs.declared.store.BlockStore as blocks
use Rattle.cyc_buffer.specs.Agreement.{Agrees}
use Rattle.cyc_buffer.specs.History.{new_history}
use Rattle.feed_queue.specs.Feeds.{KeepsFeeds, no_feed, ring_size}
use Rattle.feed_queue.specs.Permission.{feed_view}
use Rattle.id_history.specs.Shards.{EachKeeps}
use Rattle.live_jobs.specs.Desks.{desk_of}
use Rattle.live_store.specs.Steps.{buffer_of}
use Rattle.live_store.specs.declared.numbered.NumberedBuffer.{NumberedBuffer}
use Rattle.live_store.specs.declared.record.StorePremises as store_premises
use Rattle.news_terms.specs.Courses.{first_course}
use Rattle.news_terms.proofs.CourseLaws.{first_laid}
use Rattle.news_terms.specs.Fronts.{FitsGroup}
use Rattle.news_terms.specs.Places as places
use Rattle.news_terms.specs.Places.{Extent}
use Rattle.news_terms.proofs.ListPlaces.{holds_at}
use Rattle.relay_conf.specs.Places.{numbered_buffer}
use Rattle.relay_conf.specs.Settings.{places_of_buffers, places_of_groups}
use Rattle.relay_conf.specs.declared.cycbuff.BufferConf.{BufferConf}
use Rattle.relay_conf.specs.declared.settings.Buffers.{Buffers}
use Rattle.relay_conf.specs.declared.settings.Config.{Config}
use Rattle.relay_core.proofs.Beginnings.{groups_count, rings_are}
use Rattle.relay_live.specs.Alone.{KeepsState, newest_in}
use Rattle.relay_live.specs.Beginning.{IsNewOver}
use Rattle.relay_live.specs.declared.alone.Alone.{Alone}
use Rattle.relay_model.specs.Claims.{Unknown}
use Rattle.relay_model.specs.State.{empty_state}
use Rattle.post_history.specs.Shards.{shards_in}
use Rattle.post_history.specs.declared.book.Naming as naming

-- there are as many buffers as the settings have
buffers_count : (settings : Buffers)
    → length (places_of_buffers settings) ≡ length settings.buffers.items
buffers_count settings =
    length-map (enumerate_from 0 settings.buffers.items) numbered_buffer
    ∙ length-enumerate_from 0 settings.buffers.items

module _ {S J : Type 0} {s : blocks.Ghosts S} {j : store_premises.Ghosts J} (config : Config)
    (stores : List S) (buffers : List (NumberedBuffer S J s j))
    (sized : map (λ store. length (s.blocks store)) stores
    ≡ map (λ (conf : BufferConf). conf.blocks) config.buffers.buffers.items)
    (over : AreEach IsNewOver stores buffers) (honest : All s.honest stores) where
  -- the store of a buffer is there
  store_there : (b : ℕ) (buffer : places.Buffer)
      → slice_get (places_of_buffers config.buffers) b ≡ Some buffer
      → (store : S) × (slice_get stores b ≡ Some store)
  store_there b buffer at =
      some_there stores b
      (omega (
        arith,
        slice_get_within (places_of_buffers config.buffers) b buffer at,
        buffers_count config.buffers,
        same_count s config.buffers stores sized,
      ))

  -- the buffer at each place keeps that nothing was begun
  new_buffer : (b : ℕ) (buffer : places.Buffer)
      → slice_get (places_of_buffers config.buffers) b ≡ Some buffer
      → HasBuffer true (map buffer_of buffers) (places_of_groups config.buffers)
      (λ h. first_course) [] (λ h. None)
      (failures_in s stores) b buffer
  new_buffer b buffer at =
      let one = store_there b buffer at in
      let is = buffer_is s config.buffers stores sized b buffer one.0 at one.1 in
      let made = over.each b one.0 one.1 in
      record {
        code = buffer_of made.item;
        there = slice_get-map buffer_of buffers b ∙ ap (option_map buffer_of) made.there;
        keeps = record {
          history = new_history buffer;
          is_of_buffer = refl;
          agrees = subst
              (λ (each : places.Buffer). Agrees true (buffer_of made.item) (new_history each))
              (sym is)
              (made.belongs.agrees true (λ yes. holds_at s.honest stores honest b one.0 one.1));
          is_said = new_said (places_of_groups config.buffers) buffer;
          failed = ap (λ (each : places.Buffer). failures_in s stores each.number) is
              ∙ ap (λ found. unwrap_or (option_map s.failures found) 0) one.1
              ∙ sym made.belongs.failures;
        };
      }

  -- all buffers do
  pub new_buffers : BuffersKeep (map buffer_of buffers) (terms_of config) (λ h. first_course) []
      (failures_in s stores)
  new_buffers = record {
    sound = config.buffers.sound;
    numbered = λ b buffer at.
        let one = store_there b buffer at in
        ap (λ (each : places.Buffer). each.number)
        (buffer_is s config.buffers stores sized b buffer one.0 at one.1);
    fit = λ h group at. All-nil (λ (one : Extent). FitsGroup group one.size);
    laid = λ h group at. first_laid group;
    count = length-map buffers buffer_of ∙ over.count ∙ same_count s config.buffers stores sized
        ∙ sym (buffers_count config.buffers);
    buffers = new_buffer;
  }

-- the placed groups keep that nothing was begun
pub new_placed_groups : (config : Config) (placed_groups : List PlacedGroup)
    → length placed_groups ≡ length config.buffers.groups.items
    → AreNewPlacedGroups (places_of_groups config.buffers) placed_groups
    → PlacedGroupsKeep placed_groups (terms_of config) (λ h. first_course)
new_placed_groups config placed_groups count are = record {
  count = count ∙ sym (groups_count config);
  each = λ h group at. are h group at;
}

-- so the parts keep the empty state
pub keeps_nothing : {S J L : Type 0} {s : blocks.Ghosts S}
    {j : store_premises.Ghosts J} {n : naming.Ghosts J}
    (config : Config)
    (stores : List S) (alone : Alone S J L s j n)
    → map (λ store. length (s.blocks store)) stores
    ≡ map (λ (conf : BufferConf). conf.blocks) config.buffers.buffers.items
    → AreEach IsNewOver stores alone.buffers.items
    → EachKeeps (shards_in alone.shards.items) (λ id. Unknown)
    → KeepsFeeds (desk_of alone.desk) (map ring_size config.relay.feeds.items) (λ f. no_feed)
    → AreNewPlacedGroups (places_of_groups config.buffers) alone.placed_groups.items
    → length alone.placed_groups.items ≡ length config.buffers.groups.items → newest_in alone ≡ 0
    → alone.feeds ≡ length config.relay.feeds.items → All s.honest stores
    → KeepsState (terms_of config) alone empty_state (failures_in s stores)
keeps_nothing config stores alone sized over claims feeds placed_groups placed_group_count newest
    feed_count honest =
    record {
      beside = record {
        newest = newest;
        claims = claims;
        feeds = subst (λ (sizes : List ℕ). KeepsFeeds (desk_of alone.desk) sizes (λ f. no_feed))
            (rings_are config.relay.feeds.items) feeds;
        feed_count = feed_count ∙ sym (length-map config.relay.feeds.items feed_view);
        sound = config.buffers.sound;
        placed_groups =
            new_placed_groups config alone.placed_groups.items placed_group_count placed_groups;
      };
      buffers = new_buffers config stores alone.buffers.items sized over honest;
    }
