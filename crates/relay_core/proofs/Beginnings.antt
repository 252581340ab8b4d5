-- The relay that begins agrees with the empty world.
use Rattle.std.proofs.Common.{◌≡◌, ℕ, suc, zero, Bool, List, [], ◌∷◌, Option, None, refl, sym, ap}
use Rattle.std.proofs.Common.{subst, ◌∙◌, arith, true, All}
use Rattle.std.proofs.lemmas.List.{length-map}
use Rattle.std.proofs.lemmas.Bool.{false≢true}
use Rattle.std.specs.List.{All}
use Rattle.std.specs.Prelude.{length, map, slice_get}
use Rattle.article_verdict.specs.Config.{terms_of}
use Rattle.block_shelf.specs.Calls.{token_of}
use Rattle.block_shelf.specs.Filling.{KeepsNothing, failures_in}
use Rattle.block_shelf.specs.Leaving.{IsFresh, Trust, honestly, plain}
use Rattle.buffer_group.specs.Jobs.{job_view}
use Rattle.buffer_group.specs.Writers.{writer_view}
use Rattle.cyc_block.specs.declared.store.BlockStore.{Ghosts}
use Rattle.feed_queue.specs.Feeds.{KeepsFeeds, no_feed, ring_size}
use Rattle.feed_queue.specs.Permission.{feed_view}
use Rattle.id_history.specs.Shards.{KeepsAll}
use Rattle.relay_conf.specs.Places.{group_over, group_view, numbered_buffers}
use Rattle.relay_conf.specs.declared.relay.Feed.{Feed}
use Rattle.relay_conf.specs.declared.settings.Config.{Config}
use Rattle.relay_facts.proofs.Runs.{empty_well}
use Rattle.relay_model.specs.Claims.{Unknown}
use Rattle.relay_model.specs.Terms.{FeedTerms, Terms}
use Rattle.relay_model.specs.World as world
use Rattle.relay_model.specs.World.{empty_world}
use Rattle.relay_core.specs.Peers.{NoPeers, peer_at}
use Rattle.relay_core.specs.declared.peers.Peer.{Peer}
use Rattle.relay_core.specs.Agreement.{AgreesBy, GroupWriterIs, PeerIs, AgreesAs}
use Rattle.relay_core.specs.Beginning.{AreIdle, BeginsOver, IsIdle}
use Rattle.relay_core.specs.Expiring.{expirer_view}
use Rattle.relay_core.specs.Stopping.{stop_of}
use Rattle.relay_core.specs.declared.system.GroupWriter.{GroupWriter}
use Rattle.relay_core.specs.declared.system.System.{System}
use Rattle.relay_core.proofs.Left.{all_honest}

-- idle group writers have no jobs, and neither have groups that aren't there
pub idle_group_writers : (group_writers : List GroupWriter) → All IsIdle group_writers → (h : ℕ)
    → GroupWriterIs (slice_get group_writers h) [] world.Idle
idle_group_writers [] idle h = (refl, refl)
idle_group_writers (group_writer ∷ group_writers) idle zero =
    let one = idle zero group_writer (omega arith) in
    (ap (map job_view) (sym one.none), ap (writer_view token_of) (sym one.idle))
idle_group_writers (group_writer ∷ group_writers) idle (suc h) =
    idle_group_writers group_writers (λ k d within. idle (suc k) d (omega (arith, within))) h

-- there are as many groups as the configuration has
pub groups_count : (config : Config)
    → length (terms_of config).groups ≡ length config.buffers.groups.items
groups_count config =
    length-map (map group_view config.buffers.groups.items)
    (group_over (numbered_buffers config.buffers.buffers.items))
    ∙ length-map config.buffers.groups.items group_view

-- the rings are those of the terms
pub rings_are : (feeds : List Feed)
    → map ring_size feeds ≡ map (λ (feed : FeedTerms). feed.ring) (map feed_view feeds)
rings_are [] = refl
rings_are (feed ∷ feeds) = ap (λ (rest : List ℕ). feed.ring ∷ rest) (rings_are feeds)

-- where no peer is, there is no session
nobody : (trusted : Bool) (w : Terms) (at : Option Peer) → at ≡ None
    → PeerIs trusted w [] at None None
nobody trusted w at none =
    subst (λ (o : Option Peer). PeerIs trusted w [] o None None) (sym none) tt

module _ {S : Type 0} {g : Ghosts S} (system : System S g) (config : Config) (stores : List S)
  where
    -- the parts begin, and the whole with them
    pub begins : system.config ≡ config → system.newest ≡ None → stop_of system ≡ 0
        → NoPeers system.peers
        → KeepsAll system.shards (λ id. Unknown)
        → KeepsFeeds system.desk (map ring_size config.relay.feeds.items) (λ f. no_feed)
        → AreIdle (length config.buffers.groups.items) system.group_writers.items
        → KeepsNothing config.buffers stores system.buffer_set
        → expirer_view system.expirer ≡ world.Reading [] → BeginsOver config stores system
    begins same newest stop peers claims feeds group_writers texts expirer =
        let w : Terms = terms_of config in
        record {
          config_is = same;
          agrees = λ trusted honest.
              begins_as (plain trusted) honest (λ never. absurd (false≢true never));
          leaves = λ fresh.
              begins_as (honestly true) (λ yes. all_honest g stores fresh) (λ yes. fresh);
          laned = group_writers.count_is ∙ sym (groups_count config)
              ∙ ap (λ (c : Config). length (terms_of c).groups) (sym same);
          stop_is = stop;
        }
      where
        begins_as : (trusted : Trust) → (trusted.honest ≡ true → All g.honest stores)
            → (trusted.left ≡ true → All (IsFresh g) stores)
            → AgreesAs trusted system (empty_world (failures_in g stores))
        begins_as trusted honest fresh =
            let w : Terms = terms_of config in
            let failures = failures_in g stores in
            let C : Config → Type 0 = λ c. AgreesBy trusted (terms_of c) system
            (empty_world failures) in
            subst C (sym same) (record {
              core = record {
                newest = sym newest;
                claims = claims;
                count = group_writers.count_is ∙ sym (groups_count config);
                group_writers = idle_group_writers system.group_writers.items group_writers.each;
                desk = subst (λ (sizes : List ℕ). KeepsFeeds system.desk sizes (λ f. no_feed))
                    (rings_are config.relay.feeds.items) feeds;
                expirer = sym expirer;
                buffer_set = texts trusted honest fresh w refl refl;
              };
              peers = λ s. nobody trusted.honest w (peer_at system.peers s) (peers s);
              well = empty_well w failures;
            })
