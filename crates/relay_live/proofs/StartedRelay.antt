-- The parts of a relay that is started from what a stop left, and why they aren't.
use Rattle.std.proofs.Common.{◌≡◌, ◌∙◌, ℕ, Bool, true, false, List, Option, None, Some, ap, refl}
use Rattle.std.proofs.Common.{length, map, slice_get, subst, sym, true≢false, arith}
use Rattle.std.proofs.Math.Logic.{∥∥₁_elim}
use Rattle.std.proofs.lemmas.List.{length-map}
use Rattle.std.proofs.lemmas.Option.{same_Some, slice_get_within}
use Rattle.article_verdict.specs.Config.{terms_of}
use Rattle.boxcar.specs.Table.{Shelves}
use Rattle.block_shelf.proofs.BufferSetReads.{some_there}
use Rattle.block_shelf.proofs.Starts.{buffer_is, untouched_stores}
use Rattle.block_shelf.specs.Each.{AreEach}
use Rattle.block_shelf.specs.Starting.{IsFromOutside, IsHeldBy, IsUnwritten, PlacedGroupsKeep}
use Rattle.block_shelf.specs.Starting.{buffer_over}
use Rattle.block_shelf.specs.declared.starting.StopFault.{StopFault}
use Rattle.block_shelf.specs.declared.starting.StopFault.TheVariants as faults
use Rattle.block_shelf.specs.declared.starting.Unstarted.{Unstarted}
use Rattle.cyc_block.specs.declared.store.BlockStore as blocks
use Rattle.cyc_buffer.specs.History.{History}
use Rattle.cyc_buffer.specs.Stopped.{HoldsStopped, numbers_of}
use Rattle.feed_queue.specs.Feeds.{KeepsFeeds}
use Rattle.feed_queue.specs.Permission.{feed_view}
use Rattle.id_history.specs.History as texts
use Rattle.id_history.specs.declared.fault.HistoryError.{HistoryError}
use Rattle.id_history.specs.declared.fault.HistoryError.TheVariants as errors
use Rattle.id_history.specs.Shards.{EachKeeps}
use Rattle.id_history.proofs.LastingLaws.{lasting-restart}
use Rattle.live_jobs.specs.Desks.{desk_of}
use Rattle.live_store.proofs.StopLemmas.{article_of}
use Rattle.live_store.specs.Started.{AreArticles, ShutWith, unopened_in}
use Rattle.live_store.specs.Tied.{number_at}
use Rattle.live_store.specs.declared.record.StorePremises as store_premises
use Rattle.live_store.specs.declared.unopened.UnopenedNumbered.{UnopenedNumbered}
use Rattle.news_terms.specs.HeadBlocks.{Closed, HeadBlock, IsHeadBlock, head_image}
use Rattle.relay_conf.specs.declared.cycbuff.BufferConf.{BufferConf}
use Rattle.relay_conf.specs.declared.settings.Config.{Config}
use Rattle.relay_core.proofs.Beginnings.{rings_are}
use Rattle.relay_core.proofs.Records.{lasts_again}
use Rattle.relay_core.proofs.Starts.{again, held_by, shut_behind, shut_reads}
use Rattle.relay_core.specs.Agreement.{ring_sizes}
use Rattle.block_shelf.specs.Filled.{filled_in, filled_of}
use Rattle.relay_core.proofs.AheadLemmas.{ahead_by, ahead_in}
use Rattle.relay_core.specs.Ahead.{is_ahead}
use Rattle.relay_core.specs.Desks.{Reads}
use Rattle.relay_core.specs.Starting.{IsAheadAs, unread_as}
use Rattle.relay_core.specs.Stopping.{IsHistory, IsShut}
use Rattle.relay_facts.specs.Started.{HasSameStore, started}
use Rattle.relay_live.proofs.OpenedBuffers.{opened_keep}
use Rattle.relay_live.proofs.StartedBuffers.{all_start, buffers_keep, heads_say}
use Rattle.relay_live.specs.Alone.{newest_in, stop_in}
use Rattle.relay_live.specs.Numbers.{last_of}
use Rattle.relay_live.specs.Starting.{AreOf, AreStarted, IsOpenedFrom, IsRefusedRightly, IsUnopened}
use Rattle.relay_live.specs.Starting.{IsUnstarted, IsUnstartedBy, StartsOver}
use Rattle.relay_live.specs.Starting as reasons
use Rattle.relay_live.specs.Stopping.{AreShutWith}
use Rattle.relay_live.specs.declared.alone.Alone.{Alone}
use Rattle.relay_live.specs.declared.desks.Desks.{Desks}
use Rattle.relay_model.specs.Terms.{Terms}
use Rattle.relay_model.specs.World.{World}
use Rattle.post_history.specs.Shards.{shards_in}
use Rattle.post_history.specs.declared.book.Naming as naming

-- a head block is of one buffer
abbrev pub OneHead : Type 0
OneHead = (a b : HeadBlock) → IsHeadBlock a → IsHeadBlock b → head_image a ≡ head_image b → a ≡ b

no_prop : (x y : ⊥) → x ≡ y
no_prop x y = absurd x

module _ {S : Type 0} (s : blocks.Ghosts S) (config : Config) (stores : List S)
    (sized : map (λ store. length (s.blocks store)) stores
    ≡ map (λ (conf : BufferConf). conf.blocks) config.buffers.buffers.items) (text : List ℕ)
    (kept : texts.Kept) (reads : Reads config text kept)
    (one_text : (one : texts.Kept) → Reads config text one → kept ≡ one) where
  module _ (w : Terms) (stop : ℕ) (x : World) (store : HasSameStore w (terms_of config))
      (shut : IsShut s w stop stores text x) where
    -- the history of what was shut is the one that was read
    same_text : kept ≡ shut.tells.kept
    same_text = one_text shut.tells.kept (shut_reads config stores text w stop x store shut)

    -- and so is its stop
    same_stop : kept.stop ≡ stop
    same_stop =
        ap (λ (one : texts.Kept). one.stop) same_text ∙ shut.tells.history.stop_is

    pub shut_at : IsHeldBy s config.buffers stores kept.stop (terms_of config) x.state.begun
        x.state.kept x.work.failures
    shut_at =
        subst
        (λ n. IsHeldBy s config.buffers stores n (terms_of config) x.state.begun x.state.kept
        x.work.failures)
        (sym same_stop) (held_by config stores w store stop x shut.buffer_set)

    -- what the store at a place holds
    record IsHeldAt (b : ℕ) (one : S) : Type 0 where
      honest : s.honest one
      history : History
      holds : HoldsStopped (s.heads one) (s.blocks one) kept.stop history
      over : history.buffer ≡ buffer_over s b one

    held_at : (b : ℕ) (one : S) → slice_get stores b ≡ Some one → IsHeldAt b one
    held_at b one there =
        let at = some_there (terms_of config).buffers b
        (omega (arith, slice_get_within stores b one there, shut_at.2.count)) in
        let had = shut_at.2.buffers b at.0 at.1 in
        let same : had.store ≡ one = same_Some had.store one (sym had.there ∙ there) in
        record {
          honest = subst s.honest same had.honest;
          history = had.history;
          holds = subst (λ st. HoldsStopped (s.heads st) (s.blocks st) kept.stop had.history) same
              had.held;
          over = had.is_of_buffer ∙ buffer_is s config.buffers stores sized b at.0 one at.1 there;
        }

    module _ (one_head : OneHead) (register : Shelves)
        (known : AreShutWith s register stop stores) where
      -- what a store holds with records is of its buffer
      known_over : (b : ℕ) (one : S) (at : IsHeldAt b one)
          (q : ShutWith register stop (s.heads one) (s.blocks one))
          → q.history.buffer ≡ buffer_over s b one
      known_over b one at q =
          let same : numbers_of Closed stop q.history ≡ numbers_of Closed kept.stop at.history =
          one_head (numbers_of Closed stop q.history) (numbers_of Closed kept.stop at.history)
          q.shut.fit at.holds.fit (sym q.shut.numbers ∙ at.holds.numbers) in
          (λ i. record {
            number = (ap (λ (h : HeadBlock). h.number) same) i;
            blocks = (ap (λ (h : HeadBlock). h.blocks) same) i;
            first_cycle = (ap (λ (h : HeadBlock). h.first_cycle) same) i;
          })
          ∙ at.over

      -- it holds articles alone
      known_articles : (heads blocks : List (List ℕ)) (q : ShutWith register stop heads blocks)
          → AreArticles q.history
      known_articles heads blocks q cycle first article there =
          article_of register q.history.buffer cycle first article (number_at q.numbers first)
          (q.numbered cycle first article there.finished there.live)

      -- a fault of a buffer is for want of memory or of its device
      pub fault_cause : (fault : StopFault) (buffer : Option ℕ) (back : List S)
          → IsUnstartedBy s stores kept.stop fault buffer back → IsFromOutside fault
      fault_cause faults.Memory buffer back is = tt
      fault_cause faults.Device buffer back is = tt
      fault_cause faults.NoHead buffer back is =
          let why = is.0 in
          let at = held_at why.place why.store why.there in
          why.outside at.honest kept.stop at.history at.holds at.over
      fault_cause faults.Unclosed buffer back is =
          let why = is.0 in
          let at = held_at why.place why.store why.there in
          why.outside at.honest kept.stop at.history at.holds at.over
      fault_cause faults.Damaged buffer back is =
          let why = is.0 in
          let at = held_at why.place why.store why.there in
          ∥∥₁_elim (known why.place why.store why.there) no_prop (λ q.
          why.outside at.honest stop q.history q.shut (known_over why.place why.store at q)
          (known_articles (s.heads why.store) (s.blocks why.store) q))
      fault_cause faults.BadHistory buffer back is = is
      fault_cause faults.Mixed buffer back is =
          let why = is.2 in
          let at = held_at is.0 why.store why.there in
          let other = why.other at.honest in
          let starts = other.2.1 in
          other.1
          (sym starts.stop_is
          ∙ ap (λ (h : HeadBlock). h.stop)
          (one_head starts.numbers (numbers_of Closed kept.stop at.history) starts.says.numbers
          at.holds.fit (sym starts.says.image ∙ at.holds.numbers)))
      fault_cause faults.Ahead buffer back is = is

  -- THE REFUSALS

  module _ (one_head : OneHead) (refused : Unstarted S) where
    -- a buffer isn't started
    pub not_started : IsUnstarted s stores kept.stop refused
        → IsRefusedRightly s config stores text refused
    not_started is = record {
      reason = reasons.HasNoBuffer kept reads is;
      cause = λ register w stop x store shut known.
          fault_cause w stop x store shut one_head register known refused.error refused.buffer
          refused.stores.items is;
    }

    module _ {J : Type 0} {j : store_premises.Ghosts J} (buffers : List (UnopenedNumbered S J s j))
        (are : AreStarted stores kept.stop buffers) where
      -- the history is ahead
      pub ahead_of : IsAheadAs s config stores kept true → refused.error ≡ faults.Ahead
          → refused.buffer ≡ None → AreEach (IsUnwritten s None) stores refused.stores.items
          → IsRefusedRightly s config stores text refused
      ahead_of is error of_none unwritten = record {
        reason = reasons.IsAhead kept reads (all_start stores kept.stop buffers are)
            is error of_none
            unwritten;
        cause = λ register w stop x store shut known.
            absurd (true≢false (sym (ahead_in is (terms_of config) x.state x.work.failures
            (shut_at w stop x store shut))
            ∙ ap (is_ahead (filled_of (terms_of config) x.state)) (same_text w stop x store shut)
            ∙ shut_behind config stores text w stop x store shut));
      }

      -- a head isn't opened
      pub no_head : IsAheadAs s config stores kept false → IsUnopened s stores refused
          → IsRefusedRightly s config stores text refused
      no_head behind is = record {
        reason = reasons.HasNoHead kept reads (all_start stores kept.stop buffers are) behind is;
        cause = λ register w stop x store shut known. subst IsFromOutside (sym is.device) tt;
      }

-- memory was refused
pub no_room : {S : Type 0} (s : blocks.Ghosts S) (config : Config) (stores : List S)
    (text : List ℕ) (refused : Unstarted S) → refused.error ≡ faults.Memory
    → refused.buffer ≡ None → AreEach (IsUnwritten s None) stores refused.stores.items
    → IsRefusedRightly s config stores text refused
no_room s config stores text refused is of_none unwritten = record {
  reason = reasons.HasNoRoom is of_none unwritten;
  cause = λ register w stop x store shut known. subst IsFromOutside (sym is) tt;
}

-- and no store was called yet
pub no_room_before : {S : Type 0} (s : blocks.Ghosts S) (config : Config) (stores : List S)
    (text : List ℕ) (refused : Unstarted S) → refused.error ≡ faults.Memory
    → refused.buffer ≡ None → refused.stores.items ≡ stores
    → IsRefusedRightly s config stores text refused
no_room_before s config stores text refused is of_none same =
    no_room s config stores text refused is of_none
    (subst (AreEach (IsUnwritten s None) stores) (sym same) (untouched_stores s stores))

-- the text is of no history, or memory was refused for it
pub unread_or_room : {S : Type 0} (s : blocks.Ghosts S) (config : Config) (stores : List S)
    (text : List ℕ) (refused : Unstarted S) (error : HistoryError)
    → refused.error ≡ unread_as error → refused.buffer ≡ None → refused.stores.items ≡ stores
    → (error ≡ errors.BadHistory → (kept : texts.Kept) → Reads config text kept → ⊥)
    → IsRefusedRightly s config stores text refused
unread_or_room s config stores text refused errors.Memory is of_none same none =
    no_room_before s config stores text refused is of_none same
unread_or_room s config stores text refused errors.BadHistory is of_none same none = record {
  reason = reasons.IsUnread is of_none same (none refl);
  cause = λ register w stop x store shut known.
      absurd (none refl shut.tells.kept (shut_reads config stores text w stop x store shut));
}

-- THE START

module _ {S J : Type 0} {s : blocks.Ghosts S} {j : store_premises.Ghosts J} (config : Config)
    (stores : List S)
    (sized : map (λ store. length (s.blocks store)) stores
    ≡ map (λ (conf : BufferConf). conf.blocks) config.buffers.buffers.items) (text : List ℕ)
    (kept : texts.Kept) (reads : Reads config text kept)
    (one_text : (one : texts.Kept) → Reads config text one → kept ≡ one)
    (buffers : List (UnopenedNumbered S J s j)) (are : AreStarted stores kept.stop buffers) where
  -- whether a history is ahead is told of how far the buffers are filled
  pub ahead_as : (answer : Bool)
      → is_ahead (map filled_in (map unopened_in buffers)) kept ≡ answer
      → IsAheadAs s config stores kept answer
  ahead_as answer is =
      ahead_by config stores kept (map unopened_in buffers) answer
      (heads_say stores buffers are.over)
      (λ w begun texts failures held.
      buffers_keep config.buffers stores sized buffers are.over kept.stop w begun texts failures
      held)
      is

  -- the parts start
  pub starts : {L : Type 0} {n : naming.Ghosts J} (alone : Alone S J L s j n) (desks : Desks J L n)
      → IsAheadAs s config stores kept false
      → AreOf config (map unopened_in buffers) kept desks
      → AreEach IsOpenedFrom buffers alone.buffers.items → alone.shards ≡ desks.shards
      → alone.desk ≡ desks.desk → alone.placed_groups ≡ desks.placed_groups
      → alone.last ≡ desks.last
      → stop_in alone ≡ kept.stop → alone.feeds ≡ length config.relay.feeds.items
      → alone.remember ≡ config.relay.remember → StartsOver config stores text alone
  starts alone desks behind of opened shards desk placed_groups last stop feeds remembers = record {
    history = kept;
    reads = reads;
    behind = behind;
    unopened = buffers;
    from_stores = are;
    opened = opened;
    placed_group_count = ap (λ rs. length rs.items) placed_groups ∙ of.placed_group_count;
    stop_is = stop;
    newest_is = newest;
    feed_count = feeds;
    remembers = remembers;
    keeps = λ w at x store shut.
        let is = same_text s config stores sized text kept reads one_text w at x store shut in
        let H : texts.Kept → Type 0 = λ k. IsHistory w at x.state k in
        let history = subst H (sym is) shut.tells.history in
        let parts = again config w store at x x.work.failures kept history in
        let held = shut_at s config stores sized text kept reads one_text w at x store shut in
        let texts = buffers_keep config.buffers stores sized buffers are.over kept.stop
        (terms_of config) x.state.begun x.state.kept x.work.failures held in
        record {
          beside = record {
            newest = newest ∙ history.newest;
            claims = subst
                (λ all. EachKeeps (shards_in all.items) (started x x.work.failures).state.claim)
                (sym shards)
                (subst (EachKeeps (shards_in desks.shards.items))
                (λ i id. (lasts_again (x.state.claim id)
                ∙ lasting-restart (x.state.claim id) (shut.idle id)) i)
                (of.claims (started x x.work.failures).state.claim parts.2));
            feeds = subst (λ d. KeepsFeeds (desk_of d) (ring_sizes (terms_of config)) x.state.feed)
                (sym desk)
                (subst (λ ns. KeepsFeeds (desk_of desks.desk) ns x.state.feed)
                (rings_are config.relay.feeds.items) (of.feeds x.state.feed parts.1));
            feed_count = feeds ∙ sym (length-map config.relay.feeds.items feed_view);
            sound = config.buffers.sound;
            placed_groups =
                subst (λ rs. PlacedGroupsKeep rs.items (terms_of config) x.state.begun)
                (sym placed_groups)
                (of.placed_groups (terms_of config) x.state.begun x.state.kept
                x.work.failures refl texts
                parts.0);
          };
          buffers = opened_keep buffers alone.buffers.items opened (terms_of config) x.state.begun
              x.state.kept x.work.failures texts;
        };
  }
    where
      newest : newest_in alone ≡ kept.newest
      newest = ap last_of last ∙ of.newest
