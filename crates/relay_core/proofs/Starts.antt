-- A relay that is started from what a stop left.
use Rattle.std.proofs.Common.{◌≡◌, ◌∙◌, ℕ, Bool, true, false, List, [], ◌∷◌, Option, None, Some}
use Rattle.std.proofs.Common.{refl, sym, ap, subst, length, map, slice_get, true≢false}
use Rattle.std.proofs.lemmas.Bool.{false≢true}
use Rattle.std.specs.Prelude.{option_map}
use Rattle.std.specs.Global.{Vec}
use Rattle.std.specs.List.{AllZip}
use Rattle.article_verdict.specs.Config.{terms_of}
use Rattle.cyc_block.specs.declared.store.BlockStore.{Ghosts}
use Rattle.feed_queue.specs.Feeds.{KeepsFeeds, ring_size}
use Rattle.feed_queue.specs.Left.{AreLeft}
use Rattle.feed_queue.specs.declared.desk.FeedDesk.{FeedDesk}
use Rattle.id_history.specs.History.{Holds, KeptFeed, RingHolds}
use Rattle.id_history.specs.History as texts
use Rattle.id_history.specs.declared.fault.HistoryError.{HistoryError}
use Rattle.id_history.specs.declared.fault.HistoryError.TheVariants as errors
use Rattle.id_history.specs.Lasting.{AreLasting, claim_of_kept, lasting}
use Rattle.id_history.specs.Mark.{mark_of}
use Rattle.id_history.specs.Shards.{KeepsAll}
use Rattle.id_history.specs.declared.shards.Shards.{Shards}
use Rattle.id_history.proofs.LastingLaws.{lasting-restart}
use Rattle.news_terms.specs.Places.{Buffer, Group}
use Rattle.relay_conf.specs.declared.settings.Config.{Config}
use Rattle.relay_facts.proofs.StartedWell.{started_well}
use Rattle.relay_facts.specs.Started.{HasSameStore, started}
use Rattle.relay_model.specs.Claims.{after_restart}
use Rattle.relay_model.specs.Invariants.{IsWell}
use Rattle.relay_model.specs.State as model
use Rattle.relay_model.specs.State.{in_phase}
use Rattle.relay_model.specs.Terms.{FeedTerms, Terms}
use Rattle.relay_model.specs.World as world
use Rattle.relay_model.specs.World.{World}
use Rattle.relay_core.specs.Peers.{NoPeers, peer_at}
use Rattle.relay_core.specs.declared.peers.Peer.{Peer}
use Rattle.relay_core.proofs.Beginnings.{groups_count, idle_group_writers, rings_are}
use Rattle.relay_core.proofs.Records.{lasts_again, record_behind, record_holds, weaker}
use Rattle.relay_core.proofs.Stops.{ended_gone}
use Rattle.relay_core.specs.Agreement.{AgreesBy, GroupWriterIs, PeerIs, ring_sizes, AgreesAs}
use Rattle.block_shelf.proofs.Filled.{heads_say}
use Rattle.block_shelf.specs.Filled.{filled_of}
use Rattle.relay_core.proofs.AheadLemmas.{ahead_by, ahead_in}
use Rattle.relay_core.specs.Ahead.{is_ahead}
use Rattle.relay_core.specs.Desks.{AreOf, Reads, setting_of}
use Rattle.relay_core.specs.Expiring.{expirer_view}
use Rattle.relay_core.specs.Starting.{IsAheadAs, IsAheadOf, IsHistoryRefusal, IsRefusedRightly}
use Rattle.relay_core.specs.Starting.{StartsOver, unread_as}
use Rattle.relay_core.specs.Starting as reasons
use Rattle.relay_core.specs.Stopping.{IsHistory, IsShut, Tells, stop_of, IsShutLeft}
use Rattle.block_shelf.specs.Each.{AreEach}
use Rattle.block_shelf.specs.Starting.{HasCause, IsFromOutside, IsHeldBy, IsUnwritten, KeepsHeld}
use Rattle.block_shelf.specs.Starting.{IsStartedBufferSet, WillKeepHeld}
use Rattle.block_shelf.specs.Stopping.{ArePositions, HoldsTexts, HoldsLeft, HoldsLeftAt}
use Rattle.block_shelf.specs.Heads.{IsOpened, KeepsOpened}
use Rattle.block_shelf.specs.Heads as heads
use Rattle.block_shelf.specs.Starting as shelves
use Rattle.relay_core.specs.declared.desks.Desks.{Desks}
use Rattle.block_shelf.specs.declared.starting.StopFault.{StopFault}
use Rattle.block_shelf.specs.declared.starting.StopFault.TheVariants as faults
use Rattle.block_shelf.specs.declared.starting.Unstarted.{Unstarted}
use Rattle.block_shelf.specs.declared.opening.UnopenedBufferSet.{UnopenedBufferSet}
use Rattle.block_shelf.specs.Leaving.{honestly}
use Rattle.block_shelf.proofs.Starts.{untouched_stores}
use Rattle.relay_core.specs.declared.system.GroupWriter.{GroupWriter}
use Rattle.relay_core.specs.declared.system.System.{System}

-- the sizes of the rings are those of the configuration, also by the terms of another
sizes_are : (config : Config) (w : Terms) → HasSameStore w (terms_of config)
    → ring_sizes w ≡ map ring_size config.relay.feeds.items
sizes_are config w store =
    ap (λ (fs : List FeedTerms). map (λ (feed : FeedTerms). feed.ring) fs) (sym store.feeds)
    ∙ sym (rings_are config.relay.feeds.items)

-- every session ended, and nobody is here
pub nobody : (trusted : Bool) (v : Terms) (kept : List model.Kept) (at : Option Peer)
    (o : Option model.Session) → at ≡ None
    → PeerIs trusted v kept at (option_map (λ (one : model.Session). in_phase one model.Ended) o)
    None
nobody trusted v kept at o none =
    let after = option_map (λ (one : model.Session). in_phase one model.Ended) o in
    subst (λ (p : Option Peer). PeerIs trusted v kept p after None) (sym none) (ended_gone o)

-- the history of a world is that of the world after a start too
pub again : (config : Config) (w : Terms) → HasSameStore w (terms_of config)
    → (stop : ℕ) (x : World)
    (failures : ℕ → ℕ) (kept : texts.Kept) → IsHistory w stop x.state kept
    → ArePositions (terms_of config).groups x.state.begun kept.positions
    × AreLeft kept.feeds (map ring_size config.relay.feeds.items) x.state.feed
    × AreLasting kept.ids (started x failures).state.claim
again config w store stop x failures kept is = (
  subst (λ (gs : List Group). ArePositions gs x.state.begun kept.positions) (sym store.groups)
      is.positions,
  subst (λ (ns : List ℕ). AreLeft kept.feeds ns x.state.feed) (sizes_are config w store)
      is.feeds,
  record {
    rises = is.ids.rises;
    each = weaker (λ one. claim_of_kept one ≡ lasting (x.state.claim one.id))
        (λ one. claim_of_kept one ≡ lasting (after_restart (x.state.claim one.id)))
        (λ one same. same ∙ sym (lasts_again (x.state.claim one.id))) kept.ids is.ids.each;
    whole = λ id left. is.ids.whole id (λ none. left (lasts_again (x.state.claim id) ∙ none));
  },
)

-- A ring of a history that fits the configuration holds what it has to.
pub rings_hold : (config : Config) (kept : texts.Kept) → Holds (setting_of config) kept
    → AllZip RingHolds kept.feeds (map ring_size config.relay.feeds.items)
rings_hold config kept holds =
    by (length config.buffers.buffers.items) kept.feeds (map ring_size config.relay.feeds.items)
    holds.feeds
  where
    by : (buffers : ℕ) (feeds : List KeptFeed) (sizes : List ℕ)
        → AllZip (texts.FeedHolds buffers) feeds sizes → AllZip RingHolds feeds sizes
    by buffers [] [] all = tt
    by buffers [] (size ∷ sizes) all = all
    by buffers (feed ∷ feeds) [] all = all
    by buffers (feed ∷ feeds) (size ∷ sizes) all = (all.0.counts, by buffers feeds sizes all.1)

module _ {S : Type 0} {g : Ghosts S} (config : Config) (stores : List S) where
  -- the stores hold the same by the terms of the configuration
  pub held_by : (w : Terms) → HasSameStore w (terms_of config) → (stop : ℕ) (x : World)
      → HoldsTexts g stores stop w x.state.begun x.state.kept x.work.failures
      → IsHeldBy g config.buffers stores stop (terms_of config) x.state.begun x.state.kept
      x.work.failures
  held_by w store stop x holds =
      let P : List Buffer → List Group → Type 0 = λ bs gs. HoldsTexts g stores stop
      (record (terms_of config) { buffers = bs; groups = gs }) x.state.begun x.state.kept
      x.work.failures in (
        refl,
        refl,
        subst (λ bs. P bs (terms_of config).groups) (sym store.buffers)
            (subst (λ gs. P w.buffers gs) (sym store.groups) (record {
              sound = holds.sound;
              numbered = holds.numbered;
              fit = holds.fit;
              laid = holds.laid;
              count = holds.count;
              buffers = holds.buffers;
            })),
      )

  -- and a crash may leave them
  left_by : (w : Terms) → HasSameStore w (terms_of config) → (stop : ℕ) (x : World)
      → HoldsLeft g stores stop w x.state.begun x.state.kept x.work.failures
      → HoldsLeft g stores stop (terms_of config) x.state.begun x.state.kept x.work.failures
  left_by w store stop x left b buffer at =
      subst (λ gs. HoldsLeftAt g stores stop gs x.state.begun x.state.kept x.work.failures b
      buffer) (sym store.groups)
      (left b buffer (ap (λ bs. slice_get bs b) (sym store.buffers) ∙ at))

  module _ (text : List ℕ) (w : Terms) (stop : ℕ) (x : World)
      (store : HasSameStore w (terms_of config))
      (shut : IsShut g w stop stores text x) where
    abbrev told : Tells w stop x.state text
    told = shut.tells

    -- the world after the start is well
    started_is_well : IsWell (terms_of config) (started x x.work.failures)
    started_is_well = started_well w (terms_of config) x x.work.failures store shut.idle shut.well

    -- the text is of a history that the configuration allows
    pub shut_reads : Reads config text told.kept
    shut_reads =
        let is = again config w store stop x x.work.failures told.kept told.history in
        record {
          fits = told.fits;
          holds = record_holds config (started x x.work.failures) started_is_well told.kept is.1
              is.2 is.0;
          text_is = told.written;
        }

    -- it isn't ahead
    pub shut_behind : is_ahead (filled_of (terms_of config) x.state) told.kept ≡ false
    shut_behind =
        let is = again config w store stop x x.work.failures told.kept told.history in
        record_behind config (started x x.work.failures) started_is_well told.kept is.1 is.2

  -- the parts start, and the whole with them
  pub starts : (system : System S g) (text : List ℕ) (kept : texts.Kept)
      (unopened : UnopenedBufferSet S g) (desks : Desks) → system.config ≡ config
      → Reads config text kept
      → ((one : texts.Kept) → Reads config text one → kept ≡ one)
      → IsAheadAs g config stores kept false → IsStartedBufferSet stores kept.stop unopened
      → IsOpened unopened system.buffer_set → stop_of system ≡ kept.stop
      → system.newest ≡ Some kept.newest → NoPeers system.peers
      → AreOf config kept (length config.buffers.groups.items) desks
      → system.shards ≡ desks.shards → system.desk ≡ desks.desk
      → system.group_writers ≡ desks.group_writers
      → system.expirer ≡ desks.expirer
      → WillKeepHeld config.buffers stores kept.stop kept.positions unopened
      → KeepsOpened unopened system.buffer_set → StartsOver {g = g} config stores text system
  starts system text kept unopened desks same reads one_text behind is_started opened stop newest
      peers of shards_are desk_is group_writers_are expirer_is held opens =
      record {
        config_is = same;
        laned = ap length
            (ap (λ (group_writers : Vec GroupWriter). group_writers.items) group_writers_are)
            ∙ of.group_writers.count_is
            ∙ sym (groups_count config)
            ∙ ap (λ (c : Config). length (terms_of c).groups) (sym same);
        history = kept;
        reads = reads;
        behind = behind;
        unopened = unopened;
        from_stores = is_started;
        opened = opened;
        stop_is = stop;
        newest_is = newest;
        agrees = λ w at x store shut.
            agrees_as false w at x store shut (λ never. absurd (false≢true never));
        leaves = λ w at x store shut left. agrees_as true w at x store shut (λ yes. left);
      }
    where
      agrees_as : (leaving : Bool) (w : Terms) (at : ℕ) (x : World)
          → HasSameStore w (terms_of config) → (shut : IsShut g w at stores text x)
          → (leaving ≡ true → IsShutLeft g w at stores x)
          → AgreesAs (honestly leaving) system (started x x.work.failures)
      agrees_as leaving w at x store shut left =
          let is : kept ≡ shut.tells.kept = one_text shut.tells.kept (shut_reads text w at x store
          shut) in
          let H : texts.Kept → Type 0 = λ k. IsHistory w at x.state k in
          let history = subst H (sym is) shut.tells.history in
          let parts = again config w store at x x.work.failures kept history in
          let lasts = of.claims (started x x.work.failures).state.claim parts.2 in
          let C : Config → Type 0 = λ c. AgreesBy (honestly leaving) (terms_of c) system
          (started x x.work.failures) in
          let N : ℕ → Type 0 = λ n. HoldsTexts g stores n w x.state.begun x.state.kept
          x.work.failures in
          let M : ℕ → Type 0 = λ n. HoldsLeft g stores n w x.state.begun x.state.kept
          x.work.failures in
          subst C (sym same) (record {
            core = record {
              newest = ap Some (sym history.newest) ∙ sym newest;
              claims = subst
                  (λ (all : Shards). KeepsAll all (started x x.work.failures).state.claim)
                  (sym shards_are)
                  (record {
                    agrees = λ id none.
                        lasts.agrees id none
                        ∙ ap mark_of (lasts_again (x.state.claim id)
                        ∙ lasting-restart (x.state.claim id) (shut.idle id));
                  });
              count = ap length
                  (ap (λ (group_writers : Vec GroupWriter). group_writers.items)
                  group_writers_are)
                  ∙ of.group_writers.count_is ∙ sym (groups_count config);
              group_writers = subst (λ (group_writers : Vec GroupWriter). (h : ℕ)
                  → GroupWriterIs (slice_get group_writers.items h) [] world.Idle)
                  (sym group_writers_are)
                  (idle_group_writers desks.group_writers.items of.group_writers.each);
              desk = subst
                  (λ (desk : FeedDesk).
                  KeepsFeeds desk (ring_sizes (terms_of config)) x.state.feed)
                  (sym desk_is)
                  (subst (λ ns. KeepsFeeds desks.desk ns x.state.feed)
                  (rings_are config.relay.feeds.items) (of.desk x.state.feed parts.1));
              buffer_set = opens leaving (terms_of config) x.state.begun x.state.kept
                  x.work.failures
                  (held leaving (terms_of config) x.state.begun x.state.kept x.work.failures
                  (held_by w store kept.stop x (subst N (sym history.stop_is) shut.buffer_set))
                  (λ yes. left_by w store kept.stop x
                  (subst M (sym history.stop_is) (left yes)))
                  parts.0);
              expirer = sym (ap expirer_view expirer_is ∙ of.expirer);
            };
            peers = λ s. nobody true (terms_of config) x.state.kept (peer_at system.peers s)
                (x.state.session s)
                (peers s);
            well = started_is_well text w at x store shut;
          })

  -- WHY A START IS REFUSED

  module _ (text : List ℕ) (refused : Unstarted S) where
    -- memory was refused
    pub no_room : refused.error ≡ faults.Memory → refused.buffer ≡ None
        → AreEach (IsUnwritten g None) stores refused.stores.items
        → IsRefusedRightly g config stores text refused
    no_room is of_none unwritten =
        record {
          reason = reasons.HasNoRoom is of_none unwritten;
          cause = λ w stop x store shut. subst IsFromOutside (sym is) tt;
        }

    -- the text is of no history
    pub unread : refused.error ≡ faults.BadHistory → refused.buffer ≡ None
        → refused.stores.items ≡ stores → ((kept : texts.Kept) → Reads config text kept → ⊥)
        → IsRefusedRightly g config stores text refused
    unread is of_none same none =
        record {
          reason = reasons.IsUnread is of_none same none;
          cause = λ w stop x store shut.
              absurd (none shut.tells.kept (shut_reads text w stop x store shut));
        }

    -- for either of them
    pub unread_or_room : (error : HistoryError) → refused.error ≡ unread_as error
        → refused.buffer ≡ None → refused.stores.items ≡ stores
        → (error ≡ errors.BadHistory → (kept : texts.Kept) → Reads config text kept → ⊥)
        → IsRefusedRightly g config stores text refused
    unread_or_room errors.Memory is of_none same none =
        no_room is of_none
        (subst (λ items. AreEach (IsUnwritten g None) stores items) (sym same)
        (untouched_stores g stores))
    unread_or_room errors.BadHistory is of_none same none =
        unread is of_none same (none refl)

    module _ (kept : texts.Kept) (reads : Reads config text kept)
        (one_text : (one : texts.Kept) → Reads config text one → kept ≡ one) where
      -- the history of what was shut is the one that was read
      same_text : (w : Terms) (stop : ℕ) (x : World) (store : HasSameStore w (terms_of config))
          (shut : IsShut g w stop stores text x) → kept ≡ shut.tells.kept
      same_text w stop x store shut =
          one_text shut.tells.kept (shut_reads text w stop x store shut)

      -- and so is its stop
      shut_at : (w : Terms) (stop : ℕ) (x : World) (store : HasSameStore w (terms_of config))
          (shut : IsShut g w stop stores text x)
          → IsHeldBy g config.buffers stores kept.stop (terms_of config) x.state.begun x.state.kept
          x.work.failures
      shut_at w stop x store shut =
          let at : kept.stop ≡ stop =
          ap (λ (one : texts.Kept). one.stop) (same_text w stop x store shut)
          ∙ shut.tells.history.stop_is in
          subst (λ n. IsHeldBy g config.buffers stores n (terms_of config)
          x.state.begun x.state.kept
          x.work.failures) (sym at) (held_by w store stop x shut.buffer_set)

      -- a buffer isn't started
      pub not_started : shelves.IsUnstarted g stores kept.stop refused
          → HasCause g config.buffers stores kept.stop refused
          → IsRefusedRightly g config stores text refused
      not_started refusal cause =
          record {
            reason = reasons.IsUnstarted kept reads refusal;
            cause = λ w stop x store shut.
                cause (terms_of config) x.state.begun x.state.kept x.work.failures
                (shut_at w stop x store shut);
          }

      module _ (buffer_set : UnopenedBufferSet S g)
          (is_started : IsStartedBufferSet stores kept.stop buffer_set)
        where
          -- the history is ahead
          pub ahead : IsAheadAs g config stores kept true → refused.error ≡ faults.Ahead
              → refused.buffer ≡ None → AreEach (IsUnwritten g None) stores refused.stores.items
              → IsRefusedRightly g config stores text refused
          ahead is error of_none unwritten =
              record {
                reason = reasons.IsAhead kept reads buffer_set is_started is error
                    of_none unwritten;
                cause = λ w stop x store shut.
                    absurd (true≢false (sym (ahead_in is (terms_of config) x.state x.work.failures
                    (shut_at w stop x store shut))
                    ∙ ap (is_ahead (filled_of (terms_of config) x.state))
                    (same_text w stop x store shut)
                    ∙ shut_behind text w stop x store shut));
              }

          -- a head isn't opened
          pub not_opened : IsAheadAs g config stores kept false
              → heads.IsUnopened buffer_set refused
              → IsRefusedRightly g config stores text refused
          not_opened behind is =
              record {
                reason = reasons.IsUnopened kept reads buffer_set is_started behind is;
                cause = λ w stop x store shut. subst IsFromOutside (sym is.device) tt;
              }

  -- whether a history is ahead is told of how far the buffers are filled
  pub ahead_of
      : (kept : texts.Kept) (buffer_set : UnopenedBufferSet S g) (answer : Bool)
      → IsAheadOf buffer_set kept answer → IsStartedBufferSet stores kept.stop buffer_set
      → KeepsHeld config.buffers stores kept.stop buffer_set → IsAheadAs g config stores kept answer
  ahead_of kept buffer_set answer of from keeps =
      ahead_by config stores kept buffer_set.buffers.items answer
      (heads_say stores buffer_set.buffers.items from.started.over) keeps of

  -- why nothing is made of a history refuses the start
  pub history_refused : (text : List ℕ) (refused : Unstarted S) (kept : texts.Kept)
      (buffer_set : UnopenedBufferSet S g) (fault : StopFault) → Reads config text kept
      → ((one : texts.Kept) → Reads config text one → kept ≡ one)
      → IsStartedBufferSet stores kept.stop buffer_set
      → KeepsHeld config.buffers stores kept.stop buffer_set
      → IsHistoryRefusal buffer_set kept fault → refused.error ≡ fault
      → refused.buffer ≡ None → AreEach (IsUnwritten g None) stores refused.stores.items
      → IsRefusedRightly g config stores text refused
  history_refused text refused kept buffer_set faults.Memory reads one_text from keeps is error
      of_none unwritten = no_room text refused error of_none unwritten
  history_refused text refused kept buffer_set faults.Ahead reads one_text from keeps is error
      of_none unwritten =
      ahead text refused kept reads one_text buffer_set from
      (ahead_of kept buffer_set true is from keeps) error of_none unwritten
  history_refused text refused kept buffer_set faults.Device reads one_text from keeps is error
      of_none unwritten = absurd is
  history_refused text refused kept buffer_set faults.NoHead reads one_text from keeps is error
      of_none unwritten = absurd is
  history_refused text refused kept buffer_set faults.Unclosed reads one_text from keeps is error
      of_none unwritten = absurd is
  history_refused text refused kept buffer_set faults.Damaged reads one_text from keeps is error
      of_none unwritten = absurd is
  history_refused text refused kept buffer_set faults.BadHistory reads one_text from keeps is error
      of_none unwritten = absurd is
  history_refused text refused kept buffer_set faults.Mixed reads one_text from keeps is error
      of_none unwritten = absurd is
